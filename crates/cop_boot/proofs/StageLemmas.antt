-- One node of a boot, whatever stands around it: where it and its channels are, and where each delivery takes them.
use Rattle.std.proofs.Common.{◌≡◌, ℕ, zero, suc, ◌+◌, ◌*◌, ◌/◌, ◌%◌, Bool, true, false, cond, List, [], ◌∷◌, ◌++◌, drop, refl, ap, sym, subst, ◌∙◌, arith, nat_le, ◌==◌, Option, Some, None, ◌⊎◌, inl, inr}
use Rattle.std.specs.Prelude.{slice_get, option_to_list, option_map, is_some}
use Rattle.std.proofs.lemmas.Bool.Decides.{nat_tests}
use Rattle.std.proofs.lemmas.List.{append-nil}
use Rattle.std.specs.Prelude.{if◌then◌else◌}
use Rattle.cop_dict.specs.Find.{Entry}
use Rattle.cop_dict.specs.Dict.{initial, initial_communication}
use Rattle.cop_nmt.specs.declared.states.NodeState.{NodeState}
use Rattle.cop_nmt.specs.declared.states.NodeState.TheVariants.{PreOperational, Operational, Stopped}
use Rattle.cop_nmt.specs.declared.states.Service.TheVariants.{Sdo}
use Rattle.cop_nmt.specs.declared.states.Effect.{Effect}
use Rattle.cop_nmt.specs.declared.states.Effect.TheVariants as effects
use Rattle.cop_nmt.specs.States.{is_allowed}
use Rattle.cop_sdo.specs.Message.{Message}
use Rattle.cop_sdo.specs.Reply.{is_answer}
use Rattle.cop_sdo.specs.Answers.{download_answer, reply}
use Rattle.cop_sdo.specs.Calls.{is_short}
use Rattle.cop_sdo.specs.Server.{idle}
use Rattle.cop_sdo.specs.Serve.{Serving, Served, MayServe, due, replied}
use Rattle.cop_sdo.specs.Request.{is_heard}
use Rattle.cop_sdo.specs.Request as requests
use Rattle.cop_sdo.specs.Server as acts
use Rattle.cop_sdo.specs.Server.{Moved as Act, short_of_memory}
use Rattle.cop_sdo.proofs.Confirmed.{same_number, served_so, request_again}
use Rattle.cop_setup.specs.declared.setting.Setting.{Setting}
use Rattle.cop_boot.specs.declared.«end».End.{End}
use Rattle.cop_boot.specs.declared.«end».End.TheVariants.{Ready, Silent}
use Rattle.cop_boot.specs.declared.«end».Phase.{Phase}
use Rattle.cop_boot.specs.declared.«end».Phase.TheVariants.{Waiting, Sending, Over}
use Rattle.cop_setup.specs.Settings.{bytes_of, with_setting, planned}
use Rattle.cop_boot.specs.Settings.{address_of}
use Rattle.cop_setup.specs.InTurn.{AcceptsInTurn}
use Rattle.cop_boot.specs.Node.{Node, Moved, stays, over, goes_on, request_of, awaited, gives_up}
use Rattle.cop_boot.specs.Manager.{heard_by, is_boot_up, reset_all, start_all, is_ready, end_in}
use Rattle.cop_boot.specs.Device.{Attached, Responded, MayRespond, MayServeIn, boot_up, stepped_by, reset_to, served_as, ignores, MayRespondTo}
use Rattle.cop_boot.specs.Schedule.{Line}
use Rattle.cop_boot.specs.Booted.{CanBeSet}
use Rattle.cop_boot.proofs.MemberLemmas.{short_so}

-- numbers of different kinds of frames
no_nmt : (n : ℕ) → (0x600 + n == 0) ≡ false
no_nmt n = grind (arith, nat_tests)

no_request : (n : ℕ) → (0 == 0x600 + n) ≡ false
no_request n = grind (arith, nat_tests)

no_boot_up : (n : ℕ) → (0x580 + n == 0x700 + n) ≡ false
no_boot_up n = grind (arith, nat_tests)

same_index : (i : ℕ) → i % 256 + 256 * (i / 256) ≡ i
same_index i = omega arith

-- what stands behind some settings
dropped_some : (settings : List Setting) (j : ℕ) (s : Setting) (more : List Setting) → drop j settings ≡ s ∷ more
    → (slice_get settings j ≡ Some s) × (drop (suc j) settings ≡ more)
dropped_some [] zero s more h = cc
dropped_some [] (suc j) s more h = cc
dropped_some (x ∷ rest) zero s more h = (cc, cc)
dropped_some (x ∷ rest) (suc j) s more h = dropped_some rest j s more h

dropped_none : (settings : List Setting) (j : ℕ) → drop j settings ≡ [] → slice_get settings j ≡ None
dropped_none [] j h = refl
dropped_none (x ∷ rest) zero h = cc
dropped_none (x ∷ rest) (suc j) h = dropped_none rest j h

-- what is said of a value, if it is there
abbrev pub IfThere : {A : Type 0} → (A → Type 0) → Option A → Type 0
IfThere P None = Unit {0}
IfThere P (Some x) = P x

-- each frame of a list
abbrev pub Each : (Message → Type 0) → List Message → Type 0
Each P [] = Unit {0}
Each P (frame ∷ frames) = P frame × Each P frames

-- Where a node is: it awaits the reset, with a device that is here or without one, its boot-up is under way, a setting is out, its confirmation is under way, all is done, or
-- its manager gave it up.
pub data Stage : Type 0 where
  Resetting : (since : ℕ) (here : Bool) → Stage
  Booting : (since : ℕ) → Stage
  Asked : (done since : ℕ) (s : Setting) (more : List Setting) → Stage
  Confirmed : (done since : ℕ) (s : Setting) (more : List Setting) → Stage
  Done : Stage
  Lost : Stage

-- an idle device of a node, with this dictionary, that has SDO
pub record IsQuiet (n : ℕ) (dict : List Entry) (device : Attached) : Type 0 where
  pub number : device.number ≡ n
  pub server : device.server ≡ record { node = n; state = idle }
  pub has : device.dict ≡ dict
  pub serves : is_allowed device.state Sdo ≡ true

-- a device of a node
pub record IsDeviceOf (n : ℕ) (device : Attached) : Type 0 where
  pub number : device.number ≡ n
  pub server : device.server.node ≡ n

pub record IsFresh (n : ℕ) (dict : List Entry) (device : Attached) : Type 0 where
  pub number : device.number ≡ n
  pub server : device.server.node ≡ n
  pub has : device.dict ≡ dict

-- a frame of a node's device
abbrev pub ComesFrom : ℕ → Message → Type 0
ComesFrom n frame = (frame.id ≡ 0x700 + n) ⊎ (frame.id ≡ 0x580 + n)

-- a node that boots: its settings, for how many ticks its boot-up is awaited, and the dictionary of its device
pub record Plan : Type 0 where
  pub number : ℕ
  pub settings : List Setting
  pub limit : ℕ
  pub dict : List Entry

abbrev pub goal_of : Plan → List Entry
goal_of p = planned p.dict p.settings

abbrev pub node_at : Plan → ℕ → Phase → Node
node_at p boots phase = record { number = p.number; settings = p.settings; limit = p.limit; boots = boots; phase = phase }

abbrev pub line_at : Plan → List Message → List Message → Option Attached → Line
line_at p to from device = record { number = p.number; to = to; from = from; device = device }

-- the settings from one on are still to be written to a dictionary
pub record IsLeft (p : Plan) (rest : List Setting) (dict : List Entry) : Type 0 where
  pub accepts : AcceptsInTurn dict rest
  pub leads : planned dict rest ≡ goal_of p

abbrev pub IsAt : Plan → Stage → Node → Line → Type 0
IsAt p (Resetting since here) node line = (device : Option Attached) × (node ≡ node_at p 0 (Waiting since)) × (line ≡ line_at p (reset_all ∷ []) [] device) × IfThere (IsFresh p.number p.dict) device
    × (is_some device ≡ here)
IsAt p (Booting since) node line = (device : Attached) × (node ≡ node_at p 0 (Waiting since)) × (line ≡ line_at p [] (boot_up p.number ∷ []) (Some device)) × IsQuiet p.number p.dict device
IsAt p (Asked done since s more) node line = (device : Attached) × (node ≡ node_at p 1 (Sending done since)) × (line ≡ line_at p (request_of p.number s ∷ []) [] (Some device))
    × (drop done p.settings ≡ s ∷ more) × (dict : List Entry) × IsQuiet p.number dict device × IsLeft p (s ∷ more) dict
IsAt p (Confirmed done since s more) node line = (device : Attached) × (node ≡ node_at p 1 (Sending done since)) × (line ≡ line_at p [] (reply p.number (download_answer (address_of s)) ∷ []) (Some device))
    × (drop done p.settings ≡ s ∷ more) × (dict : List Entry) × IsQuiet p.number dict device × IsLeft p more dict
IsAt p Done node line = (device : Attached) × (starts : List Message) × (node ≡ node_at p 1 (Over Ready)) × (line ≡ line_at p starts [] (Some device))
    × Each (λ frame. frame ≡ start_all) starts × IsQuiet p.number (goal_of p) device
IsAt p Lost node line = (device : Option Attached) × (to from : List Message) × (boots : ℕ) × (node ≡ node_at p boots (Over (Silent p.number))) × (line ≡ line_at p to from device)
    × Each (ComesFrom p.number) from × IfThere (IsDeviceOf p.number) device

-- settings that can be planned: of one, two or four bytes, and accepted in turn by a dictionary that a reset leaves as it is
abbrev pub IsSound : Plan → Type 0
IsSound p = CanBeSet p.settings p.dict

heads : {A : Type 0} (x y : A) (xs ys : List A) → x ∷ xs ≡ y ∷ ys → (x ≡ y) × (xs ≡ ys)
heads x y xs ys h = (cc, cc)

pub no_front : {A : Type 0} (x : A) (xs : List A) → [] ≡ x ∷ xs → ⊥
no_front x xs h = cc

-- a server does not hear a frame for another
deaf : (server : Serving) (dict : List Entry) (frame : Message) (served : Served) → is_heard server.node frame ≡ false → MayServe server dict frame served
    → served ≡ record { server = server; dict = dict; answer = None }
deaf server dict frame served other may = elim may.either [ inl e ↦ e ∙ rw other refl | inr e ↦ absurd (clash (is_heard server.node frame) other e.0) ]
  where
    clash : (b : Bool) → b ≡ false → b ≡ true → ⊥
    clash b f t = cc

-- a server answers as its node
record Answers (n : ℕ) (served : Served) : Type 0 where
  node : served.server.node ≡ n
  from : IfThere (λ frame. frame.id ≡ 0x580 + n) served.answer

replied_answers : (n : ℕ) (served : Served) (act : Act) → served ≡ replied n act → Answers n served
replied_answers n served act e = rw e (record { node = refl; from = by_answer act.answer })
  where
    by_answer : (o : Option (List ℕ)) → IfThere (λ frame. frame.id ≡ 0x580 + n) (option_map (reply n) o)
    by_answer None = tt
    by_answer (Some body) = refl

answers_so : (server : Serving) (dict : List Entry) (frame : Message) (served : Served) → MayServe server dict frame served → Answers server.node served
answers_so server dict frame served may =
    elim may.either [
      | inl e ↦ by_heard (is_heard server.node frame) refl e
      | inr e ↦ replied_answers server.node served (short_of_memory server.state dict (requests.request_of frame.body)) e.1
    ]
  where
    by_heard : (b : Bool) → is_heard server.node frame ≡ b → served ≡ due server dict frame → Answers server.node served
    by_heard true h e = replied_answers server.node served (acts.step server.state dict (requests.request_of frame.body)) (rw h at e)
    by_heard false h e = let f : served ≡ record { server = server; dict = dict; answer = None } = rw h at e in rw f (record { node = refl; from = tt })

module _ (p : Plan) (sound : IsSound p) where
  -- a device obeys the reset
  to_reset : (since : ℕ) (d : Attached) (r : Responded) → IsFresh p.number p.dict d → MayRespond d reset_all r
      → IsAt p (Booting since) (node_at p 0 (Waiting since)) (line_at p [] (option_to_list r.answer) (Some r.device))
  to_reset since d r fresh h =
      let e : r ≡ reset_to d (initial_communication d.dict) = h in (
        r.device,
        refl,
        rw (e, fresh.number) refl,
        record { number = rw e fresh.number; server = rw (e, fresh.server) refl; has = rw (e, fresh.has) sound.built; serves = rw e refl },
      )

  -- it stores a setting
  to_request : (done since : ℕ) (s : Setting) (more : List Setting) (d : Attached) (dict : List Entry) (r : Responded)
      → drop done p.settings ≡ s ∷ more → IsQuiet p.number dict d → IsLeft p (s ∷ more) dict → MayRespond d (request_of p.number s) r
      → IsAt p (Confirmed done since s more) (node_at p 1 (Sending done since)) (line_at p [] (option_to_list r.answer) (Some r.device))
  to_request done since s more d dict r at quiet left h =
      by_serving (in_state (is_allowed d.state Sdo) quiet.serves (rw (no_nmt p.number) at h))
    where
      bytes : is_short (bytes_of s) ≡ true
      bytes = short_so s

      by_due : (served : Served) → r ≡ served_as d served
          → served ≡ record { server = record { node = p.number; state = idle }; dict = with_setting dict s; answer = Some (reply p.number (download_answer (address_of s))) }
          → IsAt p (Confirmed done since s more) (node_at p 1 (Sending done since)) (line_at p [] (option_to_list r.answer) (Some r.device))
      by_due served e is = (
        r.device,
        refl,
        rw (e, is) refl,
        at,
        with_setting dict s,
        record { number = rw e quiet.number; server = rw (e, is) refl; has = rw (e, is) refl; serves = rw e quiet.serves },
        record { accepts = left.accepts.2; leads = left.leads },
      )

      served_due : (served : Served) → MayServe (record { node = p.number; state = idle }) dict (request_of p.number s) served
          → served ≡ record { server = record { node = p.number; state = idle }; dict = with_setting dict s; answer = Some (reply p.number (download_answer (address_of s))) }
      served_due served may =
          may.sure (rw (request_again (address_of s) (bytes_of s) bytes) (inl left.accepts.0)) ∙ served_so p.number dict (address_of s) (bytes_of s) bytes ∙ rw left.accepts.1 refl

      at_rest : (server : Serving) (old : List Entry) (served : Served) → server ≡ record { node = p.number; state = idle } → old ≡ dict
          → MayServe server old (request_of p.number s) served → MayServe (record { node = p.number; state = idle }) dict (request_of p.number s) served
      at_rest server old served a b may = rw (a, b) at may

      in_state : (b : Bool) → b ≡ true → MayServeIn b d (request_of p.number s) r → MayServeIn true d (request_of p.number s) r
      in_state b e h = rw e at h

      by_serving : MayServeIn true d (request_of p.number s) r → IsAt p (Confirmed done since s more) (node_at p 1 (Sending done since)) (line_at p [] (option_to_list r.answer) (Some r.device))
      by_serving (served, may, e) = by_due served e (served_due served (at_rest d.server d.dict served quiet.server quiet.has may))

  -- it obeys the start
  to_start : (rest : List Message) (d : Attached) (r : Responded) → Each (λ frame. frame ≡ start_all) rest → IsQuiet p.number (goal_of p) d → MayRespond d start_all r
      → IsAt p Done (node_at p 1 (Over Ready)) (line_at p rest (option_to_list r.answer) (Some r.device))
  to_start rest d r starts quiet h = by_state d.state refl h
    where
      done_as : r ≡ ignores (record d { state = Operational }) → IsAt p Done (node_at p 1 (Over Ready)) (line_at p rest (option_to_list r.answer) (Some r.device))
      done_as e = (
        r.device,
        rest,
        refl,
        rw e refl,
        starts,
        record { number = rw e quiet.number; server = rw e quiet.server; has = rw e quiet.has; serves = rw e refl },
      )

      by_serving : MayServeIn true (record d { state = Operational }) start_all r → r ≡ ignores (record d { state = Operational })
      by_serving (served, may, e) =
          e ∙ ap (λ served. served_as (record d { state = Operational }) served) (deaf d.server d.dict start_all served (rw quiet.server (rw (no_request p.number) refl)) may)

      by_state : (state : NodeState) → d.state ≡ state → MayRespondTo (stepped_by d.number state start_all) d start_all r
          → IsAt p Done (node_at p 1 (Over Ready)) (line_at p rest (option_to_list r.answer) (Some r.device))
      by_state PreOperational s h = done_as h
      by_state Operational s h = done_as (by_serving h)
      by_state Stopped s h = absurd (stopped (rw s at quiet.serves))
        where
          stopped : false ≡ true → ⊥
          stopped e = cc

-- what a device does to its channel, whatever it hears: it stays the device of its node, and answers as such
record Stays (n : ℕ) (r : Responded) : Type 0 where
  device : IsDeviceOf n r.device
  from : Each (ComesFrom n) (option_to_list r.answer)

responds : (n : ℕ) (d : Attached) (frame : Message) (r : Responded) → IsDeviceOf n d → MayRespond d frame r → Stays n r
responds n d frame r is h = by_step (stepped_by d.number d.state frame) h
  where
    ignored : (d' : Attached) → IsDeviceOf n d' → r ≡ ignores d' → Stays n r
    ignored d' is' e = rw e (record { device = is'; from = tt })

    reset : (dict : List Entry) → r ≡ reset_to d dict → Stays n r
    reset dict e = rw e (record { device = record { number = is.number; server = is.server }; from = (inl (ap (λ n. 0x700 + n) is.number), tt) })

    by_answer : (o : Option Message) → IfThere (λ frame. frame.id ≡ 0x580 + d.server.node) o → Each (ComesFrom n) (option_to_list o)
    by_answer None h = tt
    by_answer (Some frame) h = (inr (h ∙ ap (λ n. 0x580 + n) is.server), tt)

    by_sdo : (state : NodeState) (b : Bool) → MayServeIn b (record d { state = state }) frame r → Stays n r
    by_sdo state false e = ignored (record d { state = state }) (record { number = is.number; server = is.server }) e
    by_sdo state true (served, may, e) =
        let a = answers_so d.server d.dict frame served may in
        rw e (record { device = record { number = is.number; server = a.node ∙ is.server }; from = by_answer served.answer a.from })

    by_step : (x : NodeState × Effect) → MayRespondTo x d frame r → Stays n r
    by_step (state, effects.ResetNode) e = reset (initial d.dict) e
    by_step (state, effects.ResetCommunication) e = reset (initial_communication d.dict) e
    by_step (state, effects.Changed) e = ignored (record d { state = state }) (record { number = is.number; server = is.server }) e
    by_step (state, effects.Nothing) e = by_sdo state (is_allowed state Sdo) e

each_append : (P : Message → Type 0) (xs ys : List Message) → Each P xs → Each P ys → Each P (xs ++ ys)
each_append P [] ys h g = g
each_append P (x ∷ xs) ys h g = (h.0, each_append P xs ys h.1 g)

-- the stage that a delivery to the node leads to
abbrev pub after_to : Stage → Stage
after_to (Resetting since here) = if here then Booting since else Resetting since here
after_to (Asked done since s more) = Confirmed done since s more
after_to (Booting since) = Booting since
after_to (Confirmed done since s more) = Confirmed done since s more
after_to Done = Done
after_to Lost = Lost

module _ (p : Plan) (sound : IsSound p) where
  pub delivered : (stage : Stage) (node : Node) (line : Line) (frame : Message) (rest : List Message) (d : Attached) (r : Responded) → IsAt p stage node line
      → line.to ≡ frame ∷ rest → line.device ≡ Some d → MayRespond d frame r
      → IsAt p (after_to stage) node (record line { to = rest; from = line.from ++ option_to_list r.answer; device = Some r.device })
  delivered (Resetting since true) node line frame rest d r (device, en, el, fresh, has) to here may =
      let front = heads reset_all frame [] rest (sym (ap (λ l. l.to) el) ∙ to) in
      let of_d : device ≡ Some d = sym (ap (λ l. l.device) el) ∙ here in
      let may' = subst (λ f. MayRespond d f r) (sym front.0) may in
      let fresh' : IsFresh p.number p.dict d = subst (IfThere (IsFresh p.number p.dict)) of_d fresh in
      let after : record line { to = rest; from = line.from ++ option_to_list r.answer; device = Some r.device } ≡ line_at p [] (option_to_list r.answer) (Some r.device) = rw (el, sym front.1) refl in
      subst (λ l. IsAt p (Booting since) node l) (sym after) (subst (λ n. IsAt p (Booting since) n (line_at p [] (option_to_list r.answer) (Some r.device))) (sym en) (to_reset p sound since d r fresh' may'))
  delivered (Resetting since false) node line frame rest d r (device, en, el, fresh, has) to here may =
      let of_d : device ≡ Some d = sym (ap (λ l. l.device) el) ∙ here in
      let never : true ≡ false = rw of_d at has in
      absurd (cc)
  delivered (Booting since) node line frame rest d r (device, en, el, quiet) to here may = absurd (no_front frame rest (sym (ap (λ l. l.to) el) ∙ to))
  delivered (Asked done since s more) node line frame rest d r (device, en, el, at, dict, quiet, left) to here may =
      let front = heads (request_of p.number s) frame [] rest (sym (ap (λ l. l.to) el) ∙ to) in
      let of_d : device ≡ d = (let e : Some device ≡ Some d = sym (ap (λ l. l.device) el) ∙ here in cc) in
      let may' = subst (λ f. MayRespond d f r) (sym front.0) may in
      let quiet' = subst (IsQuiet p.number dict) of_d quiet in
      let after : record line { to = rest; from = line.from ++ option_to_list r.answer; device = Some r.device } ≡ line_at p [] (option_to_list r.answer) (Some r.device) = rw (el, sym front.1) refl in
      subst (λ l. IsAt p (Confirmed done since s more) node l) (sym after)
      (subst (λ n. IsAt p (Confirmed done since s more) n (line_at p [] (option_to_list r.answer) (Some r.device))) (sym en)
      (to_request p sound done since s more d dict r at quiet' left may'))
  delivered (Confirmed done since s more) node line frame rest d r (device, en, el, at, dict, quiet, left) to here may = absurd (no_front frame rest (sym (ap (λ l. l.to) el) ∙ to))
  delivered Done node line frame rest d r (device, starts, en, el, all, quiet) to here may =
      let is : starts ≡ frame ∷ rest = sym (ap (λ l. l.to) el) ∙ to in
      let all' = subst (Each (λ frame. frame ≡ start_all)) is all in
      let of_d : device ≡ d = (let e : Some device ≡ Some d = sym (ap (λ l. l.device) el) ∙ here in cc) in
      let may' = subst (λ f. MayRespond d f r) all'.0 may in
      let quiet' = subst (IsQuiet p.number (goal_of p)) of_d quiet in
      let after : record line { to = rest; from = line.from ++ option_to_list r.answer; device = Some r.device } ≡ line_at p rest (option_to_list r.answer) (Some r.device) = rw el refl in
      subst (λ l. IsAt p Done node l) (sym after) (subst (λ n. IsAt p Done n (line_at p rest (option_to_list r.answer) (Some r.device))) (sym en) (to_start p sound rest d r all'.1 quiet' may'))
  delivered Lost node line frame rest d r (device, to0, from0, boots, en, el, all, has) to here may =
      let of_d : device ≡ Some d = sym (ap (λ l. l.device) el) ∙ here in
      let is : IsDeviceOf p.number d = subst (IfThere (IsDeviceOf p.number)) of_d has in
      let stays = responds p.number d frame r is may in
      let after : record line { to = rest; from = line.from ++ option_to_list r.answer; device = Some r.device } ≡ line_at p rest (from0 ++ option_to_list r.answer) (Some r.device) = rw el refl in
      (Some r.device, rest, from0 ++ option_to_list r.answer, boots, en, after, each_append (ComesFrom p.number) from0 (option_to_list r.answer) all stays.from, stays.device)

-- the settings from number `done` on are to be sent, or none is left
abbrev pub goes_stage : ℕ → ℕ → List Setting → Stage
goes_stage done now [] = Done
goes_stage done now (s ∷ more) = Asked done now s more

-- the stage that a delivery from the node leads to
abbrev pub after_from : Plan → ℕ → Stage → Stage
after_from p now (Booting since) = goes_stage 0 now p.settings
after_from p now (Confirmed done since s more) = goes_stage (suc done) now more
after_from p now (Resetting since here) = Resetting since here
after_from p now (Asked done since s more) = Asked done since s more
after_from p now Done = Done
after_from p now Lost = Lost

module _ (p : Plan) (sound : IsSound p) where
  -- the next setting goes out
  goes_at : (done now : ℕ) (rest : List Setting) (device : Attached) (dict : List Entry) (old : Node) → old.number ≡ p.number → old.settings ≡ p.settings → old.limit ≡ p.limit → old.boots ≡ 1
      → drop done p.settings ≡ rest → IsQuiet p.number dict device → IsLeft p rest dict
      → IsAt p (goes_stage done now rest) (goes_on old done now).node (line_at p (option_to_list (goes_on old done now).frame) [] (Some device))
  goes_at done now [] device dict old number settings limit boots at quiet left =
      let none : slice_get old.settings done ≡ None = rw settings (dropped_none p.settings done at) in
      rw none (device, [], rw (number, settings, limit, boots) refl, refl, tt, subst (λ dict. IsQuiet p.number dict device) left.leads quiet)
  goes_at done now (s ∷ more) device dict old number settings limit boots at quiet left =
      let some : slice_get old.settings done ≡ Some s = rw settings (dropped_some p.settings done s more at).0 in
      rw some (device, rw (number, settings, limit, boots) refl, rw number refl, at, dict, quiet, left)

  -- the manager hears the boot-up
  from_boot_up : (since now : ℕ) (d : Attached) → IsQuiet p.number p.dict d
      → let m = heard_by (boot_up p.number) now (node_at p 0 (Waiting since)) in
      IsAt p (goes_stage 0 now p.settings) m.node (line_at p (option_to_list m.frame) [] (Some d))
  from_boot_up since now d quiet =
      rw (same_number (0x700 + p.number))
      (goes_at 0 now p.settings d p.dict (node_at p 1 (Waiting since)) refl refl refl refl refl quiet (record { accepts = sound.accepts; leads = refl }))

  -- the manager hears a confirmation
  from_confirm : (done since now : ℕ) (s : Setting) (more : List Setting) (d : Attached) (dict : List Entry) → drop done p.settings ≡ s ∷ more → IsQuiet p.number dict d → IsLeft p more dict
      → let m = heard_by (reply p.number (download_answer (address_of s))) now (node_at p 1 (Sending done since)) in
      IsAt p (goes_stage (suc done) now more) m.node (line_at p (option_to_list m.frame) [] (Some d))
  from_confirm done since now s more d dict at quiet left =
      let here = dropped_some p.settings done s more at in
      rw (no_boot_up p.number, same_number (0x580 + p.number), here.0, same_index s.index, same_number s.index, same_number s.sub)
      (goes_at (suc done) now more d dict (node_at p 1 (Sending done since)) refl refl refl refl here.1 quiet left)

-- the line after its node has sent
abbrev pub sent_to : Line → List Message → Option Message → Line
sent_to line from frame = record line { from = from; to = line.to ++ option_to_list frame }

-- a node that was given up hears nothing
lost_hears : (p : Plan) (boots : ℕ) (frame : Message) (now : ℕ) → heard_by frame now (node_at p boots (Over (Silent p.number))) ≡ stays (node_at p boots (Over (Silent p.number)))
lost_hears p boots frame now = by_tests (is_boot_up p.number frame) (is_answer p.number frame)
  where
    by_tests : (a b : Bool) → cond a (stays (node_at p boots (Over (Silent p.number)))) (cond b (stays (node_at p boots (Over (Silent p.number)))) (stays (node_at p boots (Over (Silent p.number)))))
        ≡ stays (node_at p boots (Over (Silent p.number)))
    by_tests true b = refl
    by_tests false true = refl
    by_tests false false = refl

module _ (p : Plan) (sound : IsSound p) where
  pub came : (now : ℕ) (stage : Stage) (node : Node) (line : Line) (frame : Message) (rest : List Message) → IsAt p stage node line → line.from ≡ frame ∷ rest
      → IsAt p (after_from p now stage) (heard_by frame now node).node (sent_to line rest (heard_by frame now node).frame)
  came now (Resetting since here) node line frame rest (device, en, el, fresh, has) from = absurd (no_front frame rest (sym (ap (λ l. l.from) el) ∙ from))
  came now (Booting since) node line frame rest (device, en, el, quiet) from =
      let front = heads (boot_up p.number) frame [] rest (sym (ap (λ l. l.from) el) ∙ from) in
      let after : sent_to line rest (heard_by frame now node).frame ≡ line_at p (option_to_list (heard_by frame now node).frame) [] (Some device) = rw (el, sym front.1) refl in
      let heard = subst (λ f. IsAt p (goes_stage 0 now p.settings) (heard_by f now (node_at p 0 (Waiting since))).node (line_at p (option_to_list (heard_by f now (node_at p 0 (Waiting since))).frame) [] (Some device)))
      front.0 (from_boot_up p sound since now device quiet) in
      subst (λ l. IsAt p (goes_stage 0 now p.settings) (heard_by frame now node).node l) (sym after)
      (subst (λ n. IsAt p (goes_stage 0 now p.settings) (heard_by frame now n).node (line_at p (option_to_list (heard_by frame now n).frame) [] (Some device))) (sym en) heard)
  came now (Asked done since s more) node line frame rest (device, en, el, at, dict, quiet, left) from = absurd (no_front frame rest (sym (ap (λ l. l.from) el) ∙ from))
  came now (Confirmed done since s more) node line frame rest (device, en, el, at, dict, quiet, left) from =
      let front = heads (reply p.number (download_answer (address_of s))) frame [] rest (sym (ap (λ l. l.from) el) ∙ from) in
      let after : sent_to line rest (heard_by frame now node).frame ≡ line_at p (option_to_list (heard_by frame now node).frame) [] (Some device) = rw (el, sym front.1) refl in
      let heard = subst (λ f. IsAt p (goes_stage (suc done) now more) (heard_by f now (node_at p 1 (Sending done since))).node (line_at p (option_to_list (heard_by f now (node_at p 1 (Sending done since))).frame) [] (Some device)))
      front.0 (from_confirm p sound done since now s more device dict at quiet left) in
      subst (λ l. IsAt p (goes_stage (suc done) now more) (heard_by frame now node).node l) (sym after)
      (subst (λ n. IsAt p (goes_stage (suc done) now more) (heard_by frame now n).node (line_at p (option_to_list (heard_by frame now n).frame) [] (Some device))) (sym en) heard)
  came now Done node line frame rest (device, starts, en, el, all, quiet) from = absurd (no_front frame rest (sym (ap (λ l. l.from) el) ∙ from))
  came now Lost node line frame rest (device, to0, from0, boots, en, el, all, has) from =
      let is : from0 ≡ frame ∷ rest = sym (ap (λ l. l.from) el) ∙ from in
      let heard : heard_by frame now node ≡ stays (node_at p boots (Over (Silent p.number))) = rw en (lost_hears p boots frame now) in
      let all' = subst (Each (ComesFrom p.number)) is all in
      (device, to0 ++ option_to_list (heard_by frame now node).frame, rest, boots, ap (λ m. m.node) heard, rw el refl, all'.1, has)

  pub comes : (stage : Stage) (node : Node) (line : Line) → IsAt p stage node line → Each (ComesFrom p.number) line.from
  comes (Resetting since here) node line (device, en, el, fresh, has) = rw el tt
  comes (Booting since) node line (device, en, el, quiet) = rw el (inl refl, tt)
  comes (Asked done since s more) node line (device, en, el, at, dict, quiet, left) = rw el tt
  comes (Confirmed done since s more) node line (device, en, el, at, dict, quiet, left) = rw el (inr refl, tt)
  comes Done node line (device, starts, en, el, all, quiet) = rw el tt
  comes Lost node line (device, to0, from0, boots, en, el, all, has) = rw el all

  -- all is done where the node is ready, and then a start may come
  pub started_at : (stage : Stage) (node : Node) (line : Line) → IsAt p stage node line → is_ready node ≡ true → IsAt p Done node (record line { to = line.to ++ start_all ∷ [] })
  started_at (Resetting since here) node line (device, en, el, fresh, has) ready = absurd (let h : false ≡ true = rw en at ready in cc)
  started_at (Booting since) node line (device, en, el, quiet) ready = absurd (let h : false ≡ true = rw en at ready in cc)
  started_at (Asked done since s more) node line (device, en, el, at, dict, quiet, left) ready = absurd (let h : false ≡ true = rw en at ready in cc)
  started_at (Confirmed done since s more) node line (device, en, el, at, dict, quiet, left) ready = absurd (let h : false ≡ true = rw en at ready in cc)
  started_at Done node line (device, starts, en, el, all, quiet) ready =
      (device, starts ++ start_all ∷ [], en, rw el refl, each_append (λ frame. frame ≡ start_all) starts (start_all ∷ []) all (refl, tt), quiet)
  started_at Lost node line (device, to0, from0, boots, en, el, all, has) ready = absurd (let h : false ≡ true = rw en at ready in cc)

-- the stage that a moment leads to
abbrev pub after_moment : Plan → ℕ → Stage → Stage
after_moment p now (Resetting since here) = if nat_le (since + p.limit) now then Lost else Resetting since here
after_moment p now (Booting since) = if nat_le (since + p.limit) now then Lost else Booting since
after_moment p now (Asked done since s more) = if nat_le (since + 4000000) now then Lost else Asked done since s more
after_moment p now (Confirmed done since s more) = if nat_le (since + 4000000) now then Lost else Confirmed done since s more
after_moment p now Done = Done
after_moment p now Lost = Lost

pub nothing_sent : (line : Line) → line ≡ sent_to line line.from None
nothing_sent line = ap (λ to. record line { to = to }) (sym (append-nil line.to))

quiet_of : (n : ℕ) (dict : List Entry) (device : Attached) → IsQuiet n dict device → IsDeviceOf n device
quiet_of n dict device quiet = record { number = quiet.number; server = ap (λ server. server.node) quiet.server }

fresh_of : (n : ℕ) (dict : List Entry) (device : Option Attached) → IfThere (IsFresh n dict) device → IfThere (IsDeviceOf n) device
fresh_of n dict None fresh = tt
fresh_of n dict (Some device) fresh = record { number = fresh.number; server = fresh.server }

module _ (p : Plan) where
  -- a node that is given up, or not
  given_up : (t : Bool) (stage : Stage) (boots : ℕ) (phase : Phase) (line : Line) (frame : Option Message) (device : Option Attached) (to from : List Message)
      → IsAt p stage (node_at p boots phase) line → line ≡ line_at p to from device → Each (ComesFrom p.number) from → IfThere (IsDeviceOf p.number) device
      → let m : Moved = if t then over (node_at p boots phase) (Silent p.number) frame else stays (node_at p boots phase) in
      IsAt p (if t then Lost else stage) m.node (sent_to line line.from m.frame)
  given_up true stage boots phase line frame device to from at el all has =
      (device, to ++ option_to_list frame, from, boots, refl, rw el refl, all, has)
  given_up false stage boots phase line frame device to from at el all has = subst (IsAt p stage (node_at p boots phase)) (nothing_sent line) at

  still : (stage : Stage) (node : Node) (line : Line) (m : Moved) → m ≡ stays node → IsAt p stage node line → IsAt p stage m.node (sent_to line line.from m.frame)
  still stage node line m e at = rw e (subst (IsAt p stage node) (nothing_sent line) at)

  pub waited : (now : ℕ) (stage : Stage) (node : Node) (line : Line) → IsAt p stage node line
      → IsAt p (after_moment p now stage) (awaited node now).node (sent_to line line.from (awaited node now).frame)
  waited now (Resetting since here) node line (device, en, el, fresh, has) =
      subst (λ n. IsAt p (after_moment p now (Resetting since here)) (awaited n now).node (sent_to line line.from (awaited n now).frame)) (sym en)
      (given_up (nat_le (since + p.limit) now) (Resetting since here) 0 (Waiting since) line None device (reset_all ∷ []) [] (device, refl, el, fresh, has) el tt (fresh_of p.number p.dict device fresh))
  waited now (Booting since) node line (device, en, el, quiet) =
      subst (λ n. IsAt p (after_moment p now (Booting since)) (awaited n now).node (sent_to line line.from (awaited n now).frame)) (sym en)
      (given_up (nat_le (since + p.limit) now) (Booting since) 0 (Waiting since) line None (Some device) [] (boot_up p.number ∷ []) (device, refl, el, quiet) el (inl refl, tt) (quiet_of p.number p.dict device quiet))
  waited now (Asked done since s more) node line (device, en, el, at, dict, quiet, left) =
      subst (λ n. IsAt p (after_moment p now (Asked done since s more)) (awaited n now).node (sent_to line line.from (awaited n now).frame)) (sym en)
      (given_up (nat_le (since + 4000000) now) (Asked done since s more) 1 (Sending done since) line (gives_up p.number (slice_get p.settings done)) (Some device) (request_of p.number s ∷ []) []
      (device, refl, el, at, dict, quiet, left) el tt (quiet_of p.number dict device quiet))
  waited now (Confirmed done since s more) node line (device, en, el, at, dict, quiet, left) =
      subst (λ n. IsAt p (after_moment p now (Confirmed done since s more)) (awaited n now).node (sent_to line line.from (awaited n now).frame)) (sym en)
      (given_up (nat_le (since + 4000000) now) (Confirmed done since s more) 1 (Sending done since) line (gives_up p.number (slice_get p.settings done)) (Some device) [] (reply p.number (download_answer (address_of s)) ∷ [])
      (device, refl, el, at, dict, quiet, left) el (inr refl, tt) (quiet_of p.number dict device quiet))
  waited now Done node line (device, starts, en, el, all, quiet) =
      still Done node line (awaited node now) (rw en refl) (device, starts, en, el, all, quiet)
  waited now Lost node line (device, to0, from0, boots, en, el, all, has) =
      still Lost node line (awaited node now) (rw en refl) (device, to0, from0, boots, en, el, all, has)

  -- what a node has when it is at a stage
  pub numbered : (stage : Stage) (node : Node) (line : Line) → IsAt p stage node line → (node.number ≡ p.number) × (line.number ≡ p.number)
  numbered (Resetting since here) node line (device, en, el, fresh, has) = (ap (λ n. n.number) en, ap (λ l. l.number) el)
  numbered (Booting since) node line (device, en, el, quiet) = (ap (λ n. n.number) en, ap (λ l. l.number) el)
  numbered (Asked done since s more) node line (device, en, el, at, dict, quiet, left) = (ap (λ n. n.number) en, ap (λ l. l.number) el)
  numbered (Confirmed done since s more) node line (device, en, el, at, dict, quiet, left) = (ap (λ n. n.number) en, ap (λ l. l.number) el)
  numbered Done node line (device, starts, en, el, all, quiet) = (ap (λ n. n.number) en, ap (λ l. l.number) el)
  numbered Lost node line (device, to0, from0, boots, en, el, all, has) = (ap (λ n. n.number) en, ap (λ l. l.number) el)

  -- a node that is ready has what its settings make of its dictionary, and nothing is under way from it
  pub ready_line : IsSound p → (stage : Stage) (node : Node) (line : Line) → IsAt p stage node line → is_ready node ≡ true → line.from ≡ []
  ready_line sound stage node line at ready =
      let d = started_at p sound stage node line at ready in ap (λ l. l.from) d.3

  pub ready_dict : IsSound p → (stage : Stage) (node : Node) (line : Line) → IsAt p stage node line → is_ready node ≡ true
      → (device : Attached) × (line.device ≡ Some device) × (device.dict ≡ goal_of p)
  ready_dict sound stage node line at ready =
      let d = started_at p sound stage node line at ready in (d.0, ap (λ l. l.device) d.3, d.5.has)

  -- the ends that a boot by turns may have
  pub other_end : (stage : Stage) (node : Node) (line : Line) (e : End) → IsAt p stage node line → end_in node.phase ≡ Some e → (e ≡ Ready) ⊎ (e ≡ Silent p.number)
  other_end (Resetting since here) node line e (device, en, el, fresh, has) h = absurd (let g : None ≡ Some e = rw en at h in cc)
  other_end (Booting since) node line e (device, en, el, quiet) h = absurd (let g : None ≡ Some e = rw en at h in cc)
  other_end (Asked done since s more) node line e (device, en, el, at, dict, quiet, left) h = absurd (let g : None ≡ Some e = rw en at h in cc)
  other_end (Confirmed done since s more) node line e (device, en, el, at, dict, quiet, left) h = absurd (let g : None ≡ Some e = rw en at h in cc)
  other_end Done node line e (device, starts, en, el, all, quiet) h = let g : Some Ready ≡ Some e = rw en at h in inl cc
  other_end Lost node line e (device, to0, from0, boots, en, el, all, has) h = let g : Some (Silent p.number) ≡ Some e = rw en at h in inr cc
