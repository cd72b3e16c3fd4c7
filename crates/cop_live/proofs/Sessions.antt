-- Logs that go on, and what is true of a boot's log.
use Rattle.std.proofs.Common.{◌≡◌, ℕ, ◌+◌, ◌-◌, ◌<◌, ◌≤◌, List, [], ◌∷◌, ◌++◌, map, length, take, drop, get_or, refl, sym, ◌∙◌, ap, subst, arith, append_assoc, append-nil, Option, Some, None, inl, inr}
use Rattle.std.specs.Prelude.{not, Bool, option_to_list}
use Rattle.std.proofs.lemmas.List.{take_all, map-append}
use Rattle.std.proofs.lemmas.List.Elements.{filter-append}
use Rattle.cop_slcan.specs.Meaning as meanings
use Rattle.cop_slcan.specs.Meaning.{Told}
use Rattle.cop_slcan.specs.Reading.{taken, said_from, left_from}
use Rattle.cop_sdo.specs.Message.{Message}
use Rattle.cop_boot.specs.Manager.{Managing, Managed, Meeting, Moment, heard, passed, reached, behind, and_then, met, met_all, driven, begun_at, reset_all, end_at}
use Rattle.cop_boot.proofs.SentLemmas.{reached_some, reached_none}
use Rattle.cop_boot.proofs.DriveLemmas.{drives}
use Rattle.cop_boot.proofs.StartLemmas.{ready_was_configured}
use Rattle.cop_live.specs.Log.{ByteStep, ClockStep, Doing, Asked, Sent, Read, DidAll, BrokeOff, heard_in, came_after, came}
use Rattle.cop_live.specs.Session.{State, told, told_all, is_start, held, boot_up_told, noting, noted, reset_of, turn_log, turn_state, Step, Turn, Request, steps_log, steps_state, turns, first_state, boot_log, IsDriven, Booted, TurnFails, BootFails}

-- ---- logs at a port

held_both : (xs ys : List Message) → held (xs ++ ys) ≡ held xs ++ held ys
held_both xs ys = filter-append (λ frame. not (is_start frame)) xs ys

-- what bytes say, by the first and the others
said_step : (pending bytes : List ℕ) → 1 ≤ length bytes
    → said_from pending bytes ≡ option_to_list (taken pending (get_or bytes 0 0)).1 ++ said_from (taken pending (get_or bytes 0 0)).0 (take (length bytes - 1) (drop 1 bytes))
said_step pending [] h = absurd (omega arith)
said_step pending (b ∷ bytes) h =
    let all : take (length (b ∷ bytes) - 1) bytes ≡ bytes = take_all (length (b ∷ bytes) - 1) bytes (omega arith) in
    ap (λ l. option_to_list (taken pending b).1 ++ said_from (taken pending b).0 l) (sym all)

-- boot-ups in two parts
noted_append : (nodes : List Bool) (xs ys : List Told) → noted nodes (xs ++ ys) ≡ noted (noted nodes xs) ys
noted_append nodes [] ys = refl
noted_append nodes (x ∷ xs) ys = noted_append (noting nodes (boot_up_told x)) xs ys

pub bytes_booted : (old first new : List Bool) (pending left bytes : List ℕ) → 1 ≤ length bytes → left ≡ (taken pending (get_or bytes 0 0)).0
    → first ≡ noted old (option_to_list (taken pending (get_or bytes 0 0)).1) → new ≡ noted first (said_from left (take (length bytes - 1) (drop 1 bytes))) → new ≡ noted old (said_from pending bytes)
bytes_booted old first new pending left bytes some el ef en =
    let said = option_to_list (taken pending (get_or bytes 0 0)).1 in
    let rest = said_from (taken pending (get_or bytes 0 0)).0 (take (length bytes - 1) (drop 1 bytes)) in
    let later : new ≡ noted (noted old said) rest = rw (el, ef) at en in
    later ∙ sym (noted_append old said rest) ∙ ap (noted old) (sym (said_step pending bytes some))

module _ {P : Type 0} (reads writes : ByteStep P) (asks : ClockStep P) where
  abbrev All : P → List Doing → P → Type 0
  All p log q = DidAll reads writes asks p log q

  pub did_both : (p q r : P) (xs ys : List Doing) → All p xs q → All q ys r → All p (xs ++ ys) r
  did_both p q r [] ys a b = subst (λ (x : P). All x ys r) (sym a) b
  did_both p q r (x ∷ xs) ys (m, one, a) b = (m, one, did_both m q r xs ys a b)

  -- frames in two parts
  sent_split : (xs ys : List Message) → map Sent (held (xs ++ ys)) ≡ map Sent (held xs) ++ map Sent (held ys)
  sent_split xs ys = ap (map Sent) (held_both xs ys) ∙ map-append Sent (held xs) (held ys)

  sent_both : (p q r : P) (xs ys : List Message) → All p (map Sent (held xs)) q → All q (map Sent (held ys)) r → All p (map Sent (held (xs ++ ys))) r
  sent_both p q r xs ys a b =
      subst (λ log. All p log r) (sym (sent_split xs ys)) (did_both p q r (map Sent (held xs)) (map Sent (held ys)) a b)

  pub frame_sent : (p q r : P) (frame : Message) (rest all : List Message) → frame ∷ rest ≡ all → All p (map Sent (held (frame ∷ []))) q → All q (map Sent (held rest)) r → All p (map Sent (held all)) r
  frame_sent p q r frame rest all e first more = subst (λ fs. All p (map Sent (held fs)) r) e (sent_both p q r (frame ∷ []) rest first more)

  pub none_sent : (p : P) (all : List Message) → [] ≡ all → All p (map Sent (held all)) p
  none_sent p all e = subst (λ fs. All p (map Sent (held fs)) p) e refl

  -- what is told in two parts
  told_append : (m : Managing) (xs ys : List Told) → (told_all m (xs ++ ys)).frames ≡ (told_all m xs).frames ++ (told_all (told_all m xs).manager ys).frames
  told_append m [] ys = refl
  told_append m (x ∷ xs) ys = ap (λ fs. (told m x).frames ++ fs) (told_append (told m x).manager xs ys) ∙ sym (append_assoc (told m x).frames (told_all (told m x).manager xs).frames (told_all (told_all (told m x).manager xs).manager ys).frames)

  pub bytes_sent : (p q r : P) (m later : Managing) (pending left bytes : List ℕ) → 1 ≤ length bytes
      → left ≡ (taken pending (get_or bytes 0 0)).0 → later ≡ (told_all m (option_to_list (taken pending (get_or bytes 0 0)).1)).manager
      → All p (map Sent (held (told_all m (option_to_list (taken pending (get_or bytes 0 0)).1)).frames)) q
      → All q (map Sent (held (told_all later (said_from left (take (length bytes - 1) (drop 1 bytes)))).frames)) r
      → All p (map Sent (held (told_all m (said_from pending bytes)).frames)) r
  bytes_sent p q r m later pending left bytes some el em first rest =
      let said = option_to_list (taken pending (get_or bytes 0 0)).1 in
      let f : All q (map Sent (held (told_all (told_all m (option_to_list (taken pending (get_or bytes 0 0)).1)).manager (said_from (taken pending (get_or bytes 0 0)).0 (take (length bytes - 1) (drop 1 bytes)))).frames)) r = rw (el, em) at rest in
      let whole : (told_all m (said_from pending bytes)).frames ≡ (told_all m (option_to_list (taken pending (get_or bytes 0 0)).1)).frames ++ (told_all (told_all m (option_to_list (taken pending (get_or bytes 0 0)).1)).manager (said_from (taken pending (get_or bytes 0 0)).0 (take (length bytes - 1) (drop 1 bytes)))).frames
      = ap (λ ts. (told_all m ts).frames) (said_step pending bytes some) ∙ told_append m (option_to_list (taken pending (get_or bytes 0 0)).1) (said_from (taken pending (get_or bytes 0 0)).0 (take (length bytes - 1) (drop 1 bytes))) in
      subst (λ fs. All p (map Sent (held fs)) r) (sym whole) (sent_both p q r (told_all m said).frames _ first f)

  -- what is told by bytes, by the first and the others
  told_step : (m : Managing) (pending bytes : List ℕ) → 1 ≤ length bytes
      → (told_all m (said_from pending bytes)).frames
      ≡ (told_all m (option_to_list (taken pending (get_or bytes 0 0)).1)).frames
      ++ (told_all (told_all m (option_to_list (taken pending (get_or bytes 0 0)).1)).manager (said_from (taken pending (get_or bytes 0 0)).0 (take (length bytes - 1) (drop 1 bytes)))).frames
  told_step m pending bytes some =
      ap (λ ts. (told_all m ts).frames) (said_step pending bytes some) ∙ told_append m (option_to_list (taken pending (get_or bytes 0 0)).1) (said_from (taken pending (get_or bytes 0 0)).0 (take (length bytes - 1) (drop 1 bytes)))

  -- one turn, by what its calls give
  pub turn_did : (p a b c q : P) (began : ℕ) (m between : Managing) (pending : List ℕ) (now moment : ℕ) (bytes : List ℕ) → asks p now a → moment ≡ now - began → between ≡ (passed m moment).manager
      → All a (map Sent (held (passed m moment).frames)) b → reads b bytes c → All c (map Sent (held (told_all between (said_from pending bytes)).frames)) q
      → All p (turn_log began (record { manager = m; pending = pending }) now bytes) q
  turn_did p a b c q began m between pending now moment bytes asked em eb sent got answered =
      let eb' : between ≡ (passed m (now - began)).manager = eb ∙ ap (λ t. (passed m t).manager) em in
      let first : All a (map Sent (held (passed m (now - began)).frames)) b = subst (λ t. All a (map Sent (held (passed m t).frames)) b) em sent in
      let second : All c (map Sent (held (told_all (passed m (now - began)).manager (said_from pending bytes)).frames)) q = subst (λ (x : Managing). All c (map Sent (held (told_all x (said_from pending bytes)).frames)) q) eb' answered in
      (a, asked, did_both a b q (map Sent (held (passed m (now - began)).frames)) (Read bytes ∷ map Sent (held (told_all (passed m (now - began)).manager (said_from pending bytes)).frames)) first (c, got, second))

-- ---- logs that break off

module _ {P : Type 0} (reads writes : ByteStep P) (asks : ClockStep P) (fails : ByteStep P) where
  abbrev Done : P → List Doing → P → Type 0
  Done p log q = DidAll reads writes asks p log q

  abbrev Off : P → List Doing → P → Type 0
  Off p log q = BrokeOff reads writes asks fails p log q

  -- whatever would have been done then
  pub broke_more : (p q : P) (xs ys : List Doing) → Off p xs q → Off p (xs ++ ys) q
  broke_more p q [] ys h = absurd h
  broke_more p q (x ∷ xs) ys (inl f) = inl f
  broke_more p q (x ∷ xs) ys (inr (m, one, h)) = inr (m, one, broke_more m q xs ys h)

  -- and behind what was done
  pub did_then_broke : (p q r : P) (xs ys : List Doing) → Done p xs q → Off q ys r → Off p (xs ++ ys) r
  did_then_broke p q r [] ys a b = subst (λ (x : P). Off x ys r) (sym a) b
  did_then_broke p q r (x ∷ xs) ys (m, one, a) b = inr (m, one, did_then_broke m q r xs ys a b)

  -- frames in two parts
  pub first_unsent : (p r : P) (xs ys all : List Message) → xs ++ ys ≡ all → Off p (map Sent (held xs)) r → Off p (map Sent (held all)) r
  first_unsent p r xs ys all e h =
      subst (λ fs. Off p (map Sent (held fs)) r) e (subst (λ log. Off p log r) (sym (sent_split reads writes asks xs ys)) (broke_more p r (map Sent (held xs)) (map Sent (held ys)) h))

  pub others_unsent : (p q r : P) (xs ys all : List Message) → xs ++ ys ≡ all → Done p (map Sent (held xs)) q → Off q (map Sent (held ys)) r → Off p (map Sent (held all)) r
  others_unsent p q r xs ys all e a h =
      subst (λ fs. Off p (map Sent (held fs)) r) e (subst (λ log. Off p log r) (sym (sent_split reads writes asks xs ys)) (did_then_broke p q r (map Sent (held xs)) (map Sent (held ys)) a h))

  pub bytes_unsent : (p r : P) (m : Managing) (pending bytes : List ℕ) → 1 ≤ length bytes
      → Off p (map Sent (held (told_all m (option_to_list (taken pending (get_or bytes 0 0)).1)).frames)) r → Off p (map Sent (held (told_all m (said_from pending bytes)).frames)) r
  bytes_unsent p r m pending bytes some h =
      first_unsent p r (told_all m (option_to_list (taken pending (get_or bytes 0 0)).1)).frames _ (told_all m (said_from pending bytes)).frames (sym (told_step reads writes asks m pending bytes some)) h

  pub bytes_broke : (p q r : P) (m later : Managing) (pending left bytes : List ℕ) → 1 ≤ length bytes
      → left ≡ (taken pending (get_or bytes 0 0)).0 → later ≡ (told_all m (option_to_list (taken pending (get_or bytes 0 0)).1)).manager
      → Done p (map Sent (held (told_all m (option_to_list (taken pending (get_or bytes 0 0)).1)).frames)) q
      → Off q (map Sent (held (told_all later (said_from left (take (length bytes - 1) (drop 1 bytes)))).frames)) r
      → Off p (map Sent (held (told_all m (said_from pending bytes)).frames)) r
  bytes_broke p q r m later pending left bytes some el em first rest =
      let f : Off q (map Sent (held (told_all (told_all m (option_to_list (taken pending (get_or bytes 0 0)).1)).manager (said_from (taken pending (get_or bytes 0 0)).0 (take (length bytes - 1) (drop 1 bytes)))).frames)) r = rw (el, em) at rest in
      others_unsent p q r (told_all m (option_to_list (taken pending (get_or bytes 0 0)).1)).frames _ (told_all m (said_from pending bytes)).frames (sym (told_step reads writes asks m pending bytes some)) first f

  -- one turn, by the call that failed
  module _ (began : ℕ) (m : Managing) (pending : List ℕ) where
    abbrev TurnOff : P → P → Type 0
    TurnOff p q = TurnFails reads writes asks fails began (record { manager = m; pending = pending }) p q

    pub clock_unasked : (p q : P) → fails p [] q → TurnOff p q
    clock_unasked p q f = (0, [], inl f)

    pub turn_unsent : (p a q : P) (now moment : ℕ) → asks p now a → moment ≡ now - began → Off a (map Sent (held (passed m moment).frames)) q → TurnOff p q
    turn_unsent p a q now moment asked em h =
        let first : Off a (map Sent (held (passed m (now - began)).frames)) q = subst (λ t. Off a (map Sent (held (passed m t).frames)) q) em h in
        (now, [], inr (a, asked, broke_more a q (map Sent (held (passed m (now - began)).frames)) _ first))

    behind_sent : (p a b q : P) (now moment : ℕ) (bytes : List ℕ) → asks p now a → moment ≡ now - began → Done a (map Sent (held (passed m moment).frames)) b
        → Off b (Read bytes ∷ map Sent (held (told_all (passed m (now - began)).manager (said_from pending bytes)).frames)) q → TurnOff p q
    behind_sent p a b q now moment bytes asked em sent h =
        let first : Done a (map Sent (held (passed m (now - began)).frames)) b = subst (λ t. Done a (map Sent (held (passed m t).frames)) b) em sent in
        (now, bytes, inr (a, asked, did_then_broke a b q (map Sent (held (passed m (now - began)).frames)) (Read bytes ∷ map Sent (held (told_all (passed m (now - began)).manager (said_from pending bytes)).frames)) first h))

    pub turn_unread : (p a b q : P) (now moment : ℕ) → asks p now a → moment ≡ now - began → Done a (map Sent (held (passed m moment).frames)) b → fails b [] q → TurnOff p q
    turn_unread p a b q now moment asked em sent f = behind_sent p a b q now moment [] asked em sent (inl f)

    pub turn_unanswered : (p a b c q : P) (between : Managing) (now moment : ℕ) (bytes : List ℕ) → asks p now a → moment ≡ now - began → between ≡ (passed m moment).manager
        → Done a (map Sent (held (passed m moment).frames)) b → reads b bytes c → Off c (map Sent (held (told_all between (said_from pending bytes)).frames)) q → TurnOff p q
    turn_unanswered p a b c q between now moment bytes asked em eb sent got h =
        let eb' : between ≡ (passed m (now - began)).manager = eb ∙ ap (λ t. (passed m t).manager) em in
        let second : Off c (map Sent (held (told_all (passed m (now - began)).manager (said_from pending bytes)).frames)) q = subst (λ (x : Managing). Off c (map Sent (held (told_all x (said_from pending bytes)).frames)) q) eb' h in
        behind_sent p a b q now moment bytes asked em sent (inr (c, got, second))

-- so many turns are at least as many, and one more
pub one_longer : {A : Type 0} (k : ℕ) (xs : List A) (x : A) → k ≤ length xs → k + 1 ≤ length (xs ++ x ∷ [])
one_longer k xs x h = let l = longer xs x in omega (arith, l, h)
  where
    longer : {A : Type 0} (xs : List A) (x : A) → length (xs ++ x ∷ []) ≡ length xs + 1
    longer [] x = refl
    longer (y ∷ xs) x = let l = longer xs x in omega (arith, l)

-- one call for a moment gave a frame, or none
pub passed_some : (m later : Managing) (now : ℕ) (o : Option Message) (frame : Message) → o ≡ Some frame → (later, o) ≡ reached m now
    → ((passed later now).manager ≡ (passed m now).manager) × (frame ∷ (passed later now).frames ≡ (passed m now).frames)
passed_some m later now o frame e h =
    let k : ◌≡◌ {A = Managing × Option Message} (later, Some frame) (reached m now) = ap (λ (x : Option Message). (later, x)) (sym e) ∙ h in
    let s = reached_some m later now frame k in
    (ap (λ (x : Managed). x.manager) s, ap (λ (x : Managed). x.frames) s)

pub passed_none : (m later : Managing) (now : ℕ) (o : Option Message) → o ≡ None → (later, o) ≡ reached m now → (later ≡ (passed m now).manager) × ([] ≡ (passed m now).frames)
passed_none m later now o e h =
    let k : ◌≡◌ {A = Managing × Option Message} (later, None) (reached m now) = ap (λ (x : Option Message). (later, x)) (sym e) ∙ h in
    let s = reached_none m later now k in
    (ap (λ (x : Managed). x.manager) s, ap (λ (x : Managed). x.frames) s)

pub fewer : (frame : Message) (rest all : List Message) → frame ∷ rest ≡ all → length rest < length all
fewer frame rest all e = let l : length (frame ∷ rest) ≡ length all = ap length e in omega (arith, l)

-- ---- steps, one after the other

pub state_more : (began : ℕ) (xs ys : List Step) (s : State) → steps_state began s (xs ++ ys) ≡ steps_state began (steps_state began s xs) ys
state_more began [] ys s = refl
state_more began (Turn now bytes ∷ xs) ys s = state_more began xs ys (turn_state began s now bytes)
state_more began (Request frame ∷ xs) ys s = state_more began xs ys s

pub log_more : (began : ℕ) (xs ys : List Step) (s : State) → steps_log began s (xs ++ ys) ≡ steps_log began s xs ++ steps_log began (steps_state began s xs) ys
log_more began [] ys s = refl
log_more began (Turn now bytes ∷ xs) ys s =
    ap (λ l. turn_log began s now bytes ++ l) (log_more began xs ys (turn_state began s now bytes))
    ∙ sym (append_assoc (turn_log began s now bytes) (steps_log began (turn_state began s now bytes) xs) (steps_log began (steps_state began (turn_state began s now bytes) xs) ys))
log_more began (Request frame ∷ xs) ys s = ap (λ l. Sent frame ∷ l) (log_more began xs ys s)

pub turns_more : (taken : List (ℕ × List ℕ)) (now : ℕ) (bytes : List ℕ) → turns (taken ++ (now, bytes) ∷ []) ≡ turns taken ++ Turn now bytes ∷ []
turns_more [] now bytes = refl
turns_more ((at, got) ∷ taken) now bytes = ap (λ l. Turn at got ∷ l) (turns_more taken now bytes)

turns_log : (began : ℕ) (s : State) (taken : List (ℕ × List ℕ)) (now : ℕ) (bytes : List ℕ)
    → steps_log began s (turns (taken ++ (now, bytes) ∷ [])) ≡ steps_log began s (turns taken) ++ turn_log began (steps_state began s (turns taken)) now bytes
turns_log began s taken now bytes =
    ap (steps_log began s) (turns_more taken now bytes) ∙ log_more began (turns taken) (Turn now bytes ∷ []) s
    ∙ ap (λ l. steps_log began s (turns taken) ++ l) (append-nil (turn_log began (steps_state began s (turns taken)) now bytes))

-- a log of steps, and a turn more
pub turn_more : {P : Type 0} (reads writes : ByteStep P) (asks : ClockStep P) (p q r : P) (began : ℕ) (s t u : State) (taken : List (ℕ × List ℕ)) (now : ℕ) (bytes : List ℕ)
    → DidAll reads writes asks p (steps_log began s (turns taken)) q → t ≡ steps_state began s (turns taken) → DidAll reads writes asks q (turn_log began t now bytes) r → u ≡ turn_state began t now bytes
    → DidAll reads writes asks p (steps_log began s (turns (taken ++ (now, bytes) ∷ []))) r × (u ≡ steps_state began s (turns (taken ++ (now, bytes) ∷ [])))
turn_more reads writes asks p q r began s t u taken now bytes did et turn eu =
    let here = steps_state began s (turns taken) in
    let one : DidAll reads writes asks q (turn_log began here now bytes) r = subst (λ (x : State). DidAll reads writes asks q (turn_log began x now bytes) r) et turn in
    let state : steps_state began s (turns (taken ++ (now, bytes) ∷ [])) ≡ turn_state began here now bytes = ap (steps_state began s) (turns_more taken now bytes) ∙ state_more began (turns taken) (Turn now bytes ∷ []) s in (
      subst (λ l. DidAll reads writes asks p l r) (sym (turns_log began s taken now bytes)) (did_both reads writes asks p q r (steps_log began s (turns taken)) (turn_log began here now bytes) did one),
      eu ∙ ap (λ (x : State). turn_state began x now bytes) et ∙ sym state,
    )

-- and a turn that breaks off
pub turn_broke : {P : Type 0} (reads writes : ByteStep P) (asks : ClockStep P) (fails : ByteStep P) (p q r : P) (began : ℕ) (s t : State) (taken : List (ℕ × List ℕ)) (now : ℕ) (bytes : List ℕ)
    → DidAll reads writes asks p (steps_log began s (turns taken)) q → t ≡ steps_state began s (turns taken) → BrokeOff reads writes asks fails q (turn_log began t now bytes) r
    → BrokeOff reads writes asks fails p (steps_log began s (turns (taken ++ (now, bytes) ∷ []))) r
turn_broke reads writes asks fails p q r began s t taken now bytes did et h =
    let here = steps_state began s (turns taken) in
    let one : BrokeOff reads writes asks fails q (turn_log began here now bytes) r = subst (λ (x : State). BrokeOff reads writes asks fails q (turn_log began x now bytes) r) et h in
    subst (λ l. BrokeOff reads writes asks fails p l r) (sym (turns_log began s taken now bytes)) (did_then_broke reads writes asks fails p q r (steps_log began s (turns taken)) (turn_log began here now bytes) did one)

-- ---- what comes by a log

abbrev pub out_of : Managing → List Message → Managed
out_of m frames = record { manager = m; frames = frames }

-- all that is met, in two parts
met_both : (xs ys : List Meeting) (m : Managing) → met_all m (xs ++ ys) ≡ and_then (met_all m xs) (λ later. met_all later ys)
unfolding met_all
met_both [] ys m = refl
met_both (x ∷ xs) ys m =
    let one = met m x in
    let two = met_all one.manager xs in
    ap (behind one.frames) (met_both xs ys one.manager)
    ∙ ap (out_of (met_all two.manager ys).manager) (sym (append_assoc one.frames two.frames (met_all two.manager ys).frames))

told_met : (ts : List Told) (m : Managing) → told_all m ts ≡ met_all m (heard_in ts)
unfolding met_all
told_met [] m = refl
told_met (meanings.Heard frame ∷ ts) m = ap (behind (heard m frame m.clock).frames) (told_met ts (heard m frame m.clock).manager)
told_met (meanings.Done ∷ ts) m = told_met ts m
told_met (meanings.Refused ∷ ts) m = told_met ts m
told_met (meanings.Other ∷ ts) m = told_met ts m

met_one : (m : Managing) (x : Meeting) (rest : List Meeting) → met_all m (x ∷ rest) ≡ behind (met m x).frames (met_all (met m x).manager rest)
unfolding met_all
met_one m x rest = refl

nothing_met : (m : Managing) → out_of m [] ≡ met_all m []
unfolding met_all
nothing_met m = refl

came_sent : (began : ℕ) (pending : List ℕ) (frames : List Message) (log : List Doing) → came_after began pending (map Sent frames ++ log) ≡ came_after began pending log
came_sent began pending [] log = refl
came_sent began pending (frame ∷ frames) log = came_sent began pending frames log

module _ (began : ℕ) (s : State) (now : ℕ) (bytes : List ℕ) where
  abbrev pub given_up : Managed
  given_up = passed s.manager (now - began)

  abbrev pub answered : Managed
  answered = told_all given_up.manager (said_from s.pending bytes)

  abbrev heard_now : List Meeting
  heard_now = heard_in (said_from s.pending bytes)

  -- a turn, and what is done then
  pub turn_then : (log : List Doing) → turn_log began s now bytes ++ log ≡ Asked now ∷ (map Sent (held given_up.frames) ++ (Read bytes ∷ (map Sent (held answered.frames) ++ log)))
  turn_then log = ap (λ l. Asked now ∷ l) (append_assoc (map Sent (held given_up.frames)) (Read bytes ∷ map Sent (held answered.frames)) log)

  turn_came : (log : List Doing) → came_after began s.pending (turn_log began s now bytes ++ log) ≡ Moment (now - began) ∷ (heard_now ++ came_after began (left_from s.pending bytes) log)
  turn_came log =
      ap (came_after began s.pending) (turn_then log)
      ∙ ap (λ l. Moment (now - began) ∷ l) (came_sent began s.pending (held given_up.frames) (Read bytes ∷ (map Sent (held answered.frames) ++ log)))
      ∙ ap (λ l. Moment (now - began) ∷ (heard_now ++ l)) (came_sent began (left_from s.pending bytes) (held answered.frames) log)

  turn_met : (rest : List Meeting) → met_all s.manager (Moment (now - began) ∷ (heard_now ++ rest)) ≡ behind given_up.frames (behind answered.frames (met_all answered.manager rest))
  turn_met rest =
      met_one s.manager (Moment (now - began)) (heard_now ++ rest)
      ∙ ap (behind given_up.frames) (met_both heard_now rest given_up.manager ∙ ap (λ (x : Managed). and_then x (λ later. met_all later rest)) (sym (told_met (said_from s.pending bytes) given_up.manager)))

-- the frames that a manager gives in steps, with its start
abbrev pub given : ℕ → State → List Step → List Message
given began s [] = []
given began s (Turn now bytes ∷ steps) = (given_up began s now bytes).frames ++ ((answered began s now bytes).frames ++ given began (turn_state began s now bytes) steps)
given began s (Request frame ∷ steps) = given began s steps

-- steps are what a manager makes of all that comes by them
steps_met : (began : ℕ) (steps : List Step) (s : State) → out_of (steps_state began s steps).manager (given began s steps) ≡ met_all s.manager (came_after began s.pending (steps_log began s steps))
steps_met began [] s = nothing_met s.manager
steps_met began (Turn now bytes ∷ steps) s =
    let next = turn_state began s now bytes in
    ap (λ out. behind (given_up began s now bytes).frames (behind (answered began s now bytes).frames out)) (steps_met began steps next)
    ∙ sym (turn_met began s now bytes (came_after began next.pending (steps_log began next steps)))
    ∙ ap (met_all s.manager) (sym (turn_came began s now bytes (steps_log began next steps)))
steps_met began (Request frame ∷ steps) s = steps_met began steps s

pub boot_driven : (only : Option ℕ) (m : Managing) (began : ℕ) (steps : List Step)
    → out_of (steps_state began (first_state m) steps).manager (reset_all ∷ given began (first_state m) steps) ≡ driven m (came began (boot_log only m began steps))
boot_driven only m began steps = ap (behind (reset_all ∷ [])) (steps_met began steps (first_state m))

pub is_driven : (m : Managing) (began : ℕ) (log : List Doing) (later : Managing) → later ≡ (driven m (came began log)).manager → IsDriven m began log later
is_driven m began log later so = record {
  driven_so = so;
  ends = λ number. ap (λ x. end_at x.nodes number) so ∙ drives m (came began log) number;
  ready = λ number node found is. ready_was_configured m (came began log) number node found (ap (λ x. end_at x.nodes number) (sym so) ∙ is);
}

-- a boot's steps so far make a manager of what came
pub steps_drive : (only : Option ℕ) (m : Managing) (began : ℕ) (steps : List Step) (s : State) → s ≡ steps_state began (first_state m) steps → IsDriven m began (boot_log only m began steps) s.manager
steps_drive only m began steps s e = is_driven m began (boot_log only m began steps) s.manager (ap (λ (x : State). x.manager) e ∙ ap (λ (x : Managed). x.manager) (boot_driven only m began steps))

-- ---- a boot

pub boot_begins : {P : Type 0} (reads writes : ByteStep P) (asks : ClockStep P) (only : Option ℕ) (m : Managing) (p a q : P) (began : ℕ) (later : Managing) (left : List ℕ) (frame to_all : Message)
    → asks p began a → (let out : Managed = record { manager = later; frames = to_all ∷ [] } in out) ≡ begun_at m 0 → left ≡ [] → frame ≡ reset_of only → DidAll reads writes asks a (Sent frame ∷ []) q
    → Booted reads writes asks only m p began (record { manager = later; pending = left }) q
boot_begins reads writes asks only m p a q began later left frame to_all asked e el ef sent =
    let w : later ≡ (begun_at m 0).manager = ap (λ (x : Managed). x.manager) e in
    let state : (let s : State = record { manager = later; pending = left } in s) ≡ first_state m = rw (w, el) refl in
    record {
      asked = a;
      taken = [];
      asks_first = asked;
      did = subst (λ f. DidAll reads writes asks a (Sent f ∷ []) q) ef sent;
      state = state;
      is = steps_drive only m began [] (record { manager = later; pending = left }) state;
    }

pub boot_goes_on : {P : Type 0} (reads writes : ByteStep P) (asks : ClockStep P) (only : Option ℕ) (m : Managing) (p q r : P) (began : ℕ) (s t : State) → Booted reads writes asks only m p began s q
    → (now : ℕ) (bytes : List ℕ) → DidAll reads writes asks q (turn_log began s now bytes) r → t ≡ turn_state began s now bytes → Booted reads writes asks only m p began t r
boot_goes_on reads writes asks only m p q r began s t b now bytes turn e =
    let more = turn_more reads writes asks b.did.0 q r began (first_state m) s t b.taken now bytes b.did.2 b.state turn e in
    record {
      asked = b.asked;
      taken = b.taken ++ (now, bytes) ∷ [];
      asks_first = b.asks_first;
      did = (b.did.0, b.did.1, more.0);
      state = more.1;
      is = steps_drive only m began (turns (b.taken ++ (now, bytes) ∷ [])) t more.1;
    }

-- a boot so far, of at least so many turns
pub record Boots {P : Type 0} (reads writes : ByteStep P) (asks : ClockStep P) (only : Option ℕ) (m : Managing) (p : P) (k began : ℕ) (s : State) (q : P) : Type 0 where
  pub boots : Booted reads writes asks only m p began s q
  pub many : k ≤ length boots.taken

module _ {P : Type 0} (reads writes : ByteStep P) (asks : ClockStep P) (only : Option ℕ) (m : Managing) (p : P) where
  pub boots_first : (k began : ℕ) (s : State) (q : P) → k ≡ 0 → Booted reads writes asks only m p began s q → Boots reads writes asks only m p k began s q
  boots_first k began s q e b = record { boots = b; many = omega (arith, e) }

  pub boots_on : (k began : ℕ) (s t : State) (q r : P) → Boots reads writes asks only m p k began s q → (now : ℕ) (bytes : List ℕ) → DidAll reads writes asks q (turn_log began s now bytes) r → t ≡ turn_state began s now bytes
      → Boots reads writes asks only m p (k + 1) began t r
  unfolding boot_goes_on
  boots_on k began s t q r b now bytes turn e = record {
    boots = boot_goes_on reads writes asks only m p q r began s t b.boots now bytes turn e;
    many = one_longer k b.boots.taken (now, bytes) b.many;
  }

  -- the boot gives out: the call by which it begins fails, or a turn, or there are too many
  module _ (fails : ByteStep P) where
    pub boot_not_begun : (q : P) → (began : ℕ) × BrokeOff reads writes asks fails p (Asked began ∷ Sent (reset_of only) ∷ []) q → BootFails reads writes asks fails only m p q
    boot_not_begun q (began, h) = (began, [], inl h)

    pub boot_broke : (k began : ℕ) (s : State) (q r : P) → Boots reads writes asks only m p k began s q → TurnFails reads writes asks fails began s q r → BootFails reads writes asks fails only m p r
    boot_broke k began s q r b (now, bytes, h) =
        let b = b.boots in
        (began, b.taken ++ (now, bytes) ∷ [], inl (inr (b.asked, b.asks_first, inr (b.did.0, b.did.1, turn_broke reads writes asks fails b.did.0 q r began (first_state m) s b.taken now bytes b.did.2 b.state h))))

    pub boot_too_long : (k began : ℕ) (s : State) (q : P) → Boots reads writes asks only m p k began s q → 18446744073709551615 ≤ k → BootFails reads writes asks fails only m p q
    boot_too_long k began s q b enough = (began, b.boots.taken, inr ((b.boots.asked, b.boots.asks_first, b.boots.did), omega (arith, enough, b.many)))
