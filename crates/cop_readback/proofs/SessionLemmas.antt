-- What is true of a session's log.
use Rattle.std.proofs.Common.{◌≡◌, ℕ, ◌+◌, ◌++◌, List, [], ◌∷◌, map, Bool, true, false, refl, sym, ◌∙◌, ap, subst, arith, Option, ◌==◌, inl, inr}
use Rattle.std.specs.Prelude.{filter, not, ◌&&◌, ◌⊎◌, is_some}
use Rattle.std.specs.List.{AllByRecursion, list_all}
use Rattle.std.proofs.lemmas.Bool.Decides.{nat_tests}
use Rattle.std.proofs.lemmas.List.Elements.{filter-append}
use Rattle.cop_sdo.specs.Message.{Message}
use Rattle.cop_boot.specs.Manager.{Managing, Managed, driven, reset_all, start_all, is_command, end_at}
use Rattle.cop_boot.specs.Manager as all
use Rattle.cop_boot.specs.Sent.{MaySend, WereConfigured}
use Rattle.cop_boot.proofs.CommandLemmas.{driven_commands}
use Rattle.cop_boot.proofs.StartLemmas.{start_was_late, all_sent_may}
use Rattle.cop_slcan.specs.Reading.{left_from}
use Rattle.cop_live.specs.Log.{ByteStep, ClockStep, Doing, Asked, Sent, Read, DidAll, BrokeOff, sent_in, came_after, came}
use Rattle.cop_live.specs.Nodes.{nobody}
use Rattle.cop_live.specs.Session.{State, is_start, held, reset_of, turn_log, turn_state, Step, Turn, Request, steps_log, steps_state, turns, start_of, first_state, boot_log, Booted}
use Rattle.cop_live.proofs.Sessions.{did_both, state_more, log_more, turn_then, given_up, answered, given, boot_driven, is_driven}
use Rattle.cop_identity.specs.declared.questions.Question.{Question}
use Rattle.cop_identity.specs.declared.asking.Outcome.{Outcome}
use Rattle.cop_identity.specs.declared.asking.Outcome.TheVariants.{Answered, Silent, Unasked}
use Rattle.cop_identity.specs.declared.asking.Exchange.{Exchange}
use Rattle.cop_identity.specs.Questions.{request_of}
use Rattle.cop_readback.specs.Reading.{Round, steps_for, round_steps, rounds_steps, exchanges_of, AreRounds, booted_in, Steps, are_ready, all_wanted, RoundsFail, RoundsStop}
use Rattle.cop_readback.specs.declared.session.Reach.{Reach}
use Rattle.cop_readback.specs.Session.{starts_of, commands_of, session_log, booted_state, none_booted, may_start, IsRequest, IsCommand, IsSession, ReadsBack, ReadingFails, StartFails, ReadBackStops}

-- ---- lists of frames

all_left : {A : Type 0} (Q : A → Type 0) (xs ys : List A) → AllByRecursion Q (xs ++ ys) → AllByRecursion Q xs
all_left Q [] ys h = tt
all_left Q (x ∷ xs) ys h = (h.0, all_left Q xs ys h.1)

all_right : {A : Type 0} (Q : A → Type 0) (xs ys : List A) → AllByRecursion Q (xs ++ ys) → AllByRecursion Q ys
all_right Q [] ys h = h
all_right Q (x ∷ xs) ys h = all_right Q xs ys h.1

all_both : {A : Type 0} (Q : A → Type 0) (xs ys : List A) → AllByRecursion Q xs → AllByRecursion Q ys → AllByRecursion Q (xs ++ ys)
all_both Q [] ys h g = g
all_both Q (x ∷ xs) ys h g = (h.0, all_both Q xs ys h.1 g)

all_filter : {A : Type 0} (Q : A → Type 0) (f : A → Bool) (xs : List A) → AllByRecursion Q xs → AllByRecursion Q (filter f xs)
all_filter Q f [] h = tt
all_filter Q f (x ∷ xs) h = by_test (f x) refl (all_filter Q f xs h.1)
  where
    by_test : (b : Bool) → f x ≡ b → AllByRecursion Q (filter f xs) → AllByRecursion Q (filter f (x ∷ xs))
    by_test true e rest = rw e (h.0, rest)
    by_test false e rest = rw e rest

all_so : {A : Type 0} (Q R : A → Type 0) (xs : List A) → ((x : A) → Q x → R x) → AllByRecursion Q xs → AllByRecursion R xs
all_so Q R [] f h = tt
all_so Q R (x ∷ xs) f h = (f x h.0, all_so Q R xs f h.1)

-- two tests in either order
filter_swap : {A : Type 0} (f g : A → Bool) (xs : List A) → filter f (filter g xs) ≡ filter g (filter f xs)
filter_swap f g [] = refl
filter_swap f g (x ∷ xs) = by_tests (f x) refl (g x) refl (filter_swap f g xs)
  where
    by_tests : (a : Bool) → f x ≡ a → (b : Bool) → g x ≡ b → filter f (filter g xs) ≡ filter g (filter f xs) → filter f (filter g (x ∷ xs)) ≡ filter g (filter f (x ∷ xs))
    by_tests true e true d rest = simp (e, d) (ap (λ l. x ∷ l) rest)
    by_tests true e false d rest = simp (e, d) rest
    by_tests false e true d rest = simp (e, d) rest
    by_tests false e false d rest = simp (e, d) rest

-- ---- what is sent and what comes by a log

sent_both : (xs ys : List Doing) → sent_in (xs ++ ys) ≡ sent_in xs ++ sent_in ys
sent_both [] ys = refl
sent_both (Asked now ∷ xs) ys = sent_both xs ys
sent_both (Sent frame ∷ xs) ys = ap (λ l. frame ∷ l) (sent_both xs ys)
sent_both (Read bytes ∷ xs) ys = sent_both xs ys

sent_sent : (frames : List Message) → sent_in (map Sent frames) ≡ frames
sent_sent [] = refl
sent_sent (frame ∷ frames) = ap (λ l. frame ∷ l) (sent_sent frames)

sent_then : (frames : List Message) (log : List Doing) → sent_in (map Sent frames ++ log) ≡ frames ++ sent_in log
sent_then frames log = sent_both (map Sent frames) log ∙ ap (λ l. l ++ sent_in log) (sent_sent frames)

-- frames that are sent last bring nothing
came_end : (began : ℕ) (log : List Doing) (pending : List ℕ) (frames : List Message) → came_after began pending (log ++ map Sent frames) ≡ came_after began pending log
came_end began [] pending [] = refl
came_end began [] pending (frame ∷ frames) = came_end began [] pending frames
came_end began (Asked now ∷ log) pending frames = simp (came_end began log pending frames)
came_end began (Sent frame ∷ log) pending frames = came_end began log pending frames
came_end began (Read bytes ∷ log) pending frames = simp (came_end began log (left_from pending bytes) frames)

turn_sent : (began : ℕ) (s : State) (now : ℕ) (bytes : List ℕ) (log : List Doing)
    → sent_in (turn_log began s now bytes ++ log) ≡ held (given_up began s now bytes).frames ++ (held (answered began s now bytes).frames ++ sent_in log)
turn_sent began s now bytes log =
    let a = held (given_up began s now bytes).frames in
    let b = held (answered began s now bytes).frames in
    ap sent_in (turn_then began s now bytes log) ∙ sent_then a (Read bytes ∷ (map Sent b ++ log)) ∙ ap (λ l. a ++ l) (sent_then b log)

-- the frames that others send in steps
abbrev requests : List Step → List Message
requests [] = []
requests (Turn now bytes ∷ steps) = requests steps
requests (Request frame ∷ steps) = frame ∷ requests steps

steps_all : (Q : Message → Type 0) (began : ℕ) (steps : List Step) (s : State) → AllByRecursion Q (given began s steps) → AllByRecursion Q (requests steps) → AllByRecursion Q (sent_in (steps_log began s steps))
steps_all Q began [] s h g = tt
steps_all Q began (Turn now bytes ∷ steps) s h g =
    let next = turn_state began s now bytes in
    let a = (given_up began s now bytes).frames in
    let b = (answered began s now bytes).frames in
    let more = all_right Q a (b ++ given began next steps) h in
    subst (AllByRecursion Q) (sym (turn_sent began s now bytes (steps_log began next steps)))
    (all_both Q (held a) (held b ++ sent_in (steps_log began next steps)) (all_filter Q (λ frame. not (is_start frame)) a (all_left Q a (b ++ given began next steps) h))
    (all_both Q (held b) (sent_in (steps_log began next steps)) (all_filter Q (λ frame. not (is_start frame)) b (all_left Q b (given began next steps) more))
    (steps_all Q began steps next (all_right Q b (given began next steps) more) g)))
steps_all Q began (Request frame ∷ steps) s h g = (g.0, steps_all Q began steps s h g.1)

abbrev commands : List Message → List Message
commands frames = filter is_command frames

abbrev IsPlain : Message → Type 0
IsPlain frame = is_command frame ≡ false

-- the commands that are sent in steps are the manager's, but for the start
steps_commands : (began : ℕ) (steps : List Step) (s : State) → AllByRecursion IsPlain (requests steps) → commands (sent_in (steps_log began s steps)) ≡ commands (held (given began s steps))
steps_commands began [] s g = refl
steps_commands began (Turn now bytes ∷ steps) s g =
    let next = turn_state began s now bytes in
    let log = steps_log began next steps in
    let a = (given_up began s now bytes).frames in
    let b = (answered began s now bytes).frames in
    let rest = given began next steps in
    let left : commands (sent_in (turn_log began s now bytes ++ log)) ≡ commands (held a) ++ (commands (held b) ++ commands (sent_in log)) =
    ap commands (turn_sent began s now bytes log) ∙ filter-append is_command (held a) (held b ++ sent_in log) ∙ ap (λ l. commands (held a) ++ l) (filter-append is_command (held b) (sent_in log)) in
    let holds : held (a ++ (b ++ rest)) ≡ held a ++ (held b ++ held rest) =
    filter-append (λ frame. not (is_start frame)) a (b ++ rest) ∙ ap (λ l. held a ++ l) (filter-append (λ frame. not (is_start frame)) b rest) in
    let right : commands (held (a ++ (b ++ rest))) ≡ commands (held a) ++ (commands (held b) ++ commands (held rest)) =
    ap commands holds ∙ filter-append is_command (held a) (held b ++ held rest) ∙ ap (λ l. commands (held a) ++ l) (filter-append is_command (held b) (held rest)) in
    left ∙ ap (λ l. commands (held a) ++ (commands (held b) ++ l)) (steps_commands began steps next g) ∙ sym right
steps_commands began (Request frame ∷ steps) s g = rw g.0 (steps_commands began steps s g.1)

-- ---- the requests of rounds

plain_request : (question : Question) → IsPlain (request_of question)
plain_request question = high question.node
  where
    high : (n : ℕ) → (0x600 + n == 0) ≡ false
    high n = grind (arith, nat_tests)

requests_both : (xs ys : List Step) → requests (xs ++ ys) ≡ requests xs ++ requests ys
requests_both [] ys = refl
requests_both (Turn now bytes ∷ xs) ys = requests_both xs ys
requests_both (Request frame ∷ xs) ys = ap (λ l. frame ∷ l) (requests_both xs ys)

turns_request : (taken : List (ℕ × List ℕ)) → requests (turns taken) ≡ []
turns_request [] = refl
turns_request ((now, bytes) ∷ taken) = turns_request taken

round_all : (Q : Message → Type 0) (question : Question) (taken : List (ℕ × List ℕ)) (outcome : Outcome) → Q (request_of question) → AllByRecursion Q (requests (steps_for question taken outcome))
round_all Q question taken (Answered answer) h = (h, subst (AllByRecursion Q) (sym (turns_request taken)) tt)
round_all Q question taken Silent h = (h, subst (AllByRecursion Q) (sym (turns_request taken)) tt)
round_all Q question taken Unasked h = tt

rounds_all : (Q : Message → Type 0) (rounds : List Round) → AllByRecursion (λ round. Q (request_of round.exchange.question)) rounds → AllByRecursion Q (requests (rounds_steps rounds))
rounds_all Q [] h = tt
rounds_all Q (round ∷ rest) h =
    subst (AllByRecursion Q) (sym (requests_both (round_steps round) (rounds_steps rest)))
    (all_both Q (requests (round_steps round)) (requests (rounds_steps rest)) (round_all Q round.exchange.question round.taken round.exchange.outcome h.0) (rounds_all Q rest h.1))

whole_all : (Q : Message → Type 0) (booting : List (ℕ × List ℕ)) (rounds : List Round) → AllByRecursion (λ round. Q (request_of round.exchange.question)) rounds → AllByRecursion Q (requests (turns booting ++ rounds_steps rounds))
whole_all Q booting rounds h =
    subst (AllByRecursion Q) (sym (requests_both (turns booting) (rounds_steps rounds) ∙ ap (λ l. l ++ requests (rounds_steps rounds)) (turns_request booting))) (rounds_all Q rounds h)

abbrev questions_of : List Round → List Question
questions_of rounds = map (λ asked. asked.question) (exchanges_of rounds)

each_plain : (rounds : List Round) → AllByRecursion (λ round. IsPlain (request_of round.exchange.question)) rounds
each_plain [] = tt
each_plain (round ∷ rest) = (plain_request round.exchange.question, each_plain rest)

each_request : (rounds : List Round) → AllByRecursion (λ round. IsRequest (questions_of rounds) (request_of round.exchange.question)) rounds
each_request [] = tt
each_request (round ∷ rest) =
    (inl refl, all_so (λ (r : Round). IsRequest (questions_of rest) (request_of r.exchange.question)) (λ (r : Round). IsRequest (questions_of (round ∷ rest)) (request_of r.exchange.question)) rest (λ r h. inr h) (each_request rest))

-- ---- the whole session

held_commands : (started : Bool) → held (all.commands_of started) ≡ reset_all ∷ []
held_commands true = refl
held_commands false = refl

started_late : (Q : Message → Type 0) (frames : List Message) (started : Bool) → commands frames ≡ all.commands_of started → started ≡ true → AllByRecursion (λ frame. frame ≡ start_all → Q frame) frames → Q start_all
started_late Q frames true e is h = ((subst (AllByRecursion (λ frame. frame ≡ start_all → Q frame)) e (all_filter (λ frame. frame ≡ start_all → Q frame) is_command frames h)).1).0 refl
started_late Q frames false e is h = absurd (cc)

-- what stands behind the reset
behind_reset : (xs : List Message) → reset_all ∷ xs ≡ reset_all ∷ [] → xs ≡ []
behind_reset [] e = refl
behind_reset (x ∷ xs) e = absurd (cc)

module _ (only : Option ℕ) (m : Managing) (began : ℕ) (booting : List (ℕ × List ℕ)) (rounds : List Round) (started : Bool) where
  abbrev steps : List Step
  steps = turns booting ++ rounds_steps rounds

  abbrev log : List Doing
  log = session_log only m began booting rounds started

  abbrev later : Managing
  later = (steps_state began (first_state m) steps).manager

  abbrev frames : List Message
  frames = reset_all ∷ given began (first_state m) steps

  came_so : came began log ≡ came began (boot_log only m began steps)
  came_so = came_end began (boot_log only m began steps) [] (starts_of only started)

  drives : (let out : Managed = record { manager = later; frames = frames } in out) ≡ driven m (came began log)
  drives = boot_driven only m began steps ∙ ap (driven m) (sym came_so)

  manager_so : later ≡ (driven m (came began log)).manager
  manager_so = ap (λ (x : Managed). x.manager) drives

  frames_so : frames ≡ (driven m (came began log)).frames
  frames_so = ap (λ (x : Managed). x.frames) drives

  sent_so : sent_in log ≡ reset_of only ∷ (sent_in (steps_log began (first_state m) steps) ++ starts_of only started)
  sent_so = sent_both (boot_log only m began steps) (map Sent (starts_of only started)) ∙ ap (λ l. reset_of only ∷ (sent_in (steps_log began (first_state m) steps) ++ l)) (sent_sent (starts_of only started))

  commands_so : commands frames ≡ all.commands_of later.started
  commands_so = ap commands frames_so ∙ driven_commands m (came began log) ∙ ap (λ (x : Managing). all.commands_of x.started) (sym manager_so)

  starts_plain : (b : Bool) → commands (starts_of only b) ≡ starts_of only b
  starts_plain true = refl
  starts_plain false = refl

  -- in its steps no command is sent
  none_in_steps : commands (sent_in (steps_log began (first_state m) steps)) ≡ []
  none_in_steps = behind_reset _
      (ap (λ l. reset_all ∷ l) (steps_commands began steps (first_state m) (whole_all IsPlain booting rounds (each_plain rounds)))
      ∙ filter_swap is_command (λ frame. not (is_start frame)) frames ∙ ap held commands_so ∙ held_commands later.started)

  commands_sent : commands (sent_in log) ≡ commands_of only started
  commands_sent =
      ap commands sent_so
      ∙ ap (λ l. reset_of only ∷ l) (filter-append is_command (sent_in (steps_log began (first_state m) steps)) (starts_of only started))
      ∙ ap (λ l. reset_of only ∷ (l ++ commands (starts_of only started))) none_in_steps
      ∙ ap (λ l. reset_of only ∷ l) (starts_plain started)

  abbrev May : Message → Type 0
  May frame = MaySend m.nodes frame ⊎ (IsRequest (questions_of rounds) frame ⊎ IsCommand only frame)

  start_may : (b : Bool) → AllByRecursion May (starts_of only b)
  start_may true = (inr (inr (inr refl)), tt)
  start_may false = tt

  all_may : AllByRecursion May (sent_in log)
  all_may =
      let given_may : AllByRecursion May frames =
      all_so (MaySend m.nodes) May frames (λ x h. inl h) (subst (AllByRecursion (MaySend m.nodes)) (sym frames_so) (all_sent_may m (came began log))) in
      let asked_may : AllByRecursion May (requests steps) =
      all_so (IsRequest (questions_of rounds)) May (requests steps) (λ x h. inr (inl h)) (whole_all (IsRequest (questions_of rounds)) booting rounds (each_request rounds)) in
      let reset_may : May (reset_of only) = inr (inr (inl refl)) in
      subst (AllByRecursion May) (sym sent_so)
      (reset_may, all_both May (sent_in (steps_log began (first_state m) steps)) (starts_of only started) (steps_all May began steps (first_state m) given_may.1 asked_may) (start_may started))

  pub is_session : (own : Managing) (questions : List Question) → own ≡ later → questions_of rounds ≡ questions → (started ≡ true → own.started ≡ true) → IsSession only m questions began log own started
  is_session own questions eo eq late = record {
    driven = is_driven m began log own (eo ∙ manager_so);
    commands = commands_sent;
    sent = subst (λ qs. AllByRecursion (λ frame. MaySend m.nodes frame ⊎ (IsRequest qs frame ⊎ IsCommand only frame)) (sent_in log)) eq all_may;
    configured = λ yes'. started_late (λ _. WereConfigured m.nodes (came began log)) (driven m (came began log)).frames (driven m (came began log)).manager.started (driven_commands m (came began log))
        (ap (λ (x : Managing). x.started) (sym (eo ∙ manager_so)) ∙ late yes') (start_was_late m (came began log));
  }

may_only : (wanted a b c d ready started : Bool) → ready ≡ (a && b) && (c && d) → started ≡ wanted && ready → started ≡ true → a ≡ true
may_only true true b c d ready started er es h = refl
may_only true false b c d ready started er es h = sym er ∙ sym es ∙ h
may_only false a b c d ready started er es h = absurd (cc)

pub reads_back : {P : Type 0} (reads writes : ByteStep P) (asks : ClockStep P) (reach : Reach) (m : Managing) (nodes : List ℕ) (questions : List Question) (p x y q : P) (began : ℕ) (s t : State) (exchanges : List Exchange) (booted before : List Bool) (ready started : Bool)
    → Booted reads writes asks reach.only m p began s x → list_all (λ node. is_some (end_at s.manager.nodes node)) nodes ≡ true → before ≡ nobody
    → (rounds : List Round) × (exchanges ≡ exchanges_of rounds) × (map (λ one. one.question) (exchanges_of rounds) ≡ questions) × AreRounds began s [] rounds × Steps reads writes asks began s before x (rounds_steps rounds) t booted y
    → ready ≡ may_start t.manager nodes exchanges booted → started ≡ reach.start && ready → DidAll reads writes asks y (map Sent (starts_of reach.only started)) q
    → ReadsBack reads writes asks reach m nodes questions p exchanges booted ready started t.manager q
reads_back reads writes asks reach m nodes questions p x y q began s t exchanges booted before ready started b ended en (rounds, came_of, each, right, done) may starts sent =
    let here = booted_state m began b.taken in
    let steps = turns b.taken ++ rounds_steps rounds in
    let asked : DidAll reads writes asks x (steps_log began here (rounds_steps rounds)) y = subst (λ (u : State). DidAll reads writes asks x (steps_log began u (rounds_steps rounds)) y) b.state done.did in
    let both : DidAll reads writes asks b.did.0 (steps_log began (first_state m) steps) y =
    subst (λ l. DidAll reads writes asks b.did.0 l y) (sym (log_more began (turns b.taken) (rounds_steps rounds) (first_state m)))
    (did_both reads writes asks b.did.0 x y (steps_log began (first_state m) (turns b.taken)) (steps_log began here (rounds_steps rounds)) b.did.2 asked) in
    let whole : DidAll reads writes asks b.asked (session_log reach.only m began b.taken rounds started) q =
    (b.did.0, b.did.1, did_both reads writes asks b.did.0 y q (steps_log began (first_state m) steps) (map Sent (starts_of reach.only started)) both sent) in
    let state : t ≡ steps_state began here (rounds_steps rounds) = done.state ∙ ap (λ (u : State). steps_state began u (rounds_steps rounds)) b.state in
    let whole_state : t ≡ steps_state began (first_state m) steps = state ∙ sym (state_more began (turns b.taken) (rounds_steps rounds) (first_state m)) in
    record {
      began = began;
      asked = b.asked;
      booting = b.taken;
      rounds = rounds;
      asks_first = b.asks_first;
      did = whole;
      ended = subst (λ (u : State). list_all (λ node. is_some (end_at u.manager.nodes node)) nodes ≡ true) b.state ended;
      each = each;
      came_of = came_of;
      right = subst (λ (u : State). AreRounds began u [] rounds) b.state right;
      booted_up = done.booted_up ∙ ap (λ (ns : List Bool). booted_in ns s.pending (rounds_steps rounds)) en ∙ ap (λ (u : State). booted_in nobody u.pending (rounds_steps rounds)) b.state;
      later_is = ap (λ (u : State). u.manager) state;
      may = may;
      starts = starts;
      is = is_session reach.only m began b.taken rounds started t.manager questions (ap (λ (u : State). u.manager) whole_state) each
          (may_only reach.start t.manager.started (are_ready t.manager.nodes nodes) (all_wanted exchanges) (none_booted booted nodes) ready started may starts);
    }

-- what gives out behind a boot
pub reading_fails : {P : Type 0} (reads writes : ByteStep P) (asks : ClockStep P) (fails : ByteStep P) (only : Option ℕ) (m : Managing) (nodes : List ℕ) (questions : List Question) (p x q : P) (began : ℕ) (s : State)
    → Booted reads writes asks only m p began s x → list_all (λ node. is_some (end_at s.manager.nodes node)) nodes ≡ true → RoundsFail reads writes asks fails questions began s x q → ReadingFails reads writes asks fails only m nodes questions p q
reading_fails reads writes asks fails only m nodes questions p x q began s b ended f = record { began = began; state = s; between = x; boots = b; ended = ended; failed = f }

pub reading_stops : {P : Type 0} (reads writes : ByteStep P) (asks : ClockStep P) (only : Option ℕ) (m : Managing) (nodes : List ℕ) (questions : List Question) (p x q : P) (began : ℕ) (s : State)
    → Booted reads writes asks only m p began s x → list_all (λ node. is_some (end_at s.manager.nodes node)) nodes ≡ true → RoundsStop reads writes asks questions began s x q → ReadBackStops reads writes asks only m nodes questions p q
reading_stops reads writes asks only m nodes questions p x q began s b ended f = record { began = began; state = s; between = x; boots = b; ended = ended; stops = f }

-- the start breaks off, where it is to be sent
wanted_so : {P : Type 0} (reads writes : ByteStep P) (asks : ClockStep P) (fails : ByteStep P) (only : Option ℕ) (wanted ready started : Bool) (y q : P) → started ≡ wanted && ready → BrokeOff reads writes asks fails y (map Sent (starts_of only started)) q
    → (wanted ≡ true) × (ready ≡ true) × BrokeOff reads writes asks fails y (Sent (start_of only) ∷ []) q
wanted_so reads writes asks fails only true true started y q es h = (refl, refl, subst (λ b. BrokeOff reads writes asks fails y (map Sent (starts_of only b)) q) es h)
wanted_so reads writes asks fails only true false started y q es h = absurd (subst (λ b. BrokeOff reads writes asks fails y (map Sent (starts_of only b)) q) es h)
wanted_so reads writes asks fails only false ready started y q es h = absurd (subst (λ b. BrokeOff reads writes asks fails y (map Sent (starts_of only b)) q) es h)

pub start_fails : {P : Type 0} (reads writes : ByteStep P) (asks : ClockStep P) (fails : ByteStep P) (reach : Reach) (m : Managing) (nodes : List ℕ) (questions : List Question) (p x y q : P) (began : ℕ) (s t : State) (exchanges : List Exchange) (booted before : List Bool) (ready started : Bool)
    → Booted reads writes asks reach.only m p began s x → list_all (λ node. is_some (end_at s.manager.nodes node)) nodes ≡ true → before ≡ nobody
    → (rounds : List Round) × (exchanges ≡ exchanges_of rounds) × (map (λ one. one.question) (exchanges_of rounds) ≡ questions) × AreRounds began s [] rounds × Steps reads writes asks began s before x (rounds_steps rounds) t booted y
    → ready ≡ may_start t.manager nodes exchanges booted → started ≡ reach.start && ready → BrokeOff reads writes asks fails y (map Sent (starts_of reach.only started)) q
    → StartFails reads writes asks fails reach m nodes questions p t.manager q
start_fails reads writes asks fails reach m nodes questions p x y q began s t exchanges booted before ready started b ended en rounds may starts off =
    let w = wanted_so reads writes asks fails reach.only reach.start ready started y q starts off in
    record {
      exchanges = exchanges;
      booted = booted;
      between = y;
      reads_back = reads_back reads writes asks (record { only = reach.only; start = false }) m nodes questions p x y y began s t exchanges booted before true false b ended en rounds (sym w.1 ∙ may) refl refl;
      wanted = w.0;
      failed = w.2;
    }
