-- Steps that go on, and questions that are being asked.
use Rattle.std.proofs.Common.{◌≡◌, ℕ, ◌+◌, ◌-◌, ◌≤◌, ◌<◌, List, [], ◌∷◌, ◌++◌, Bool, true, length, drop, get_or, refl, sym, ◌∙◌, ap, subst, arith, Option, Some, None, append_assoc, append-nil, inl, inr}
use Rattle.std.specs.Prelude.{unwrap_or, map}
use Rattle.std.specs.Option.{option_or}
use Rattle.std.specs.List.{AllByRecursion}
use Rattle.std.proofs.lemmas.List.{map-append}
use Rattle.cop_slcan.specs.Reading.{said_from, left_from}
use Rattle.cop_sdo.specs.Message.{Message}
use Rattle.cop_live.specs.Log.{ByteStep, ClockStep, Doing, Sent, Did, DidAll, BrokeOff, GaveUp}
use Rattle.cop_live.specs.Session.{State, Step, Turn, Request, turns, turn_log, turn_state, steps_log, steps_state, noted, TurnFails}
use Rattle.cop_live.proofs.Sessions.{did_both, state_more, log_more, turns_more, turn_broke, one_longer}
use Rattle.cop_identity.specs.declared.questions.Question.{Question}
use Rattle.cop_identity.specs.declared.questions.Answer.{Answer}
use Rattle.cop_identity.specs.declared.asking.Outcome.{Outcome}
use Rattle.cop_identity.specs.declared.asking.Outcome.TheVariants.{Answered, Silent}
use Rattle.cop_identity.specs.declared.asking.Exchange.{Exchange}
use Rattle.cop_identity.specs.Questions.{request_of, limit_of}
use Rattle.cop_identity.specs.Asking.{first_answer, answer_heard}
use Rattle.cop_identity.proofs.AskingLemmas.{left_turns, left_more, heard_more, all_more, drop_step, questions_in, one_added}
use Rattle.cop_readback.specs.Reading.{Round, round_steps, rounds_steps, exchanges_of, since, Awaits, IsOutcome, IsRound, AreRounds, booted_in, Steps, is_asked, AwaitingFails, RequestFails, RoundFails, RoundsFail, RoundsStop}

booted_more : (began : ℕ) (booted : List Bool) (xs ys : List Step) (s : State)
    → booted_in booted s.pending (xs ++ ys) ≡ booted_in (booted_in booted s.pending xs) (steps_state began s xs).pending ys
booted_more began booted [] ys s = refl
booted_more began booted (Turn now bytes ∷ xs) ys s = booted_more began (noted booted (said_from s.pending bytes)) xs ys (turn_state began s now bytes)
booted_more began booted (Request frame ∷ xs) ys s = booted_more began booted xs ys s

module _ {P : Type 0} (reads writes : ByteStep P) (asks : ClockStep P) (began : ℕ) (s : State) (booted : List Bool) (p : P) where
  pub steps_on : (xs ys : List Step) (t u : State) (after later : List Bool) (q r : P) → Steps reads writes asks began s booted p xs t after q → Steps reads writes asks began t after q ys u later r
      → Steps reads writes asks began s booted p (xs ++ ys) u later r
  steps_on xs ys t u after later q r a b =
      let here = steps_state began s xs in
      let log : DidAll reads writes asks q (steps_log began here ys) r = subst (λ (x : State). DidAll reads writes asks q (steps_log began x ys) r) a.state b.did in
      record {
        did = subst (λ l. DidAll reads writes asks p l r) (sym (log_more began xs ys s)) (did_both reads writes asks p q r (steps_log began s xs) (steps_log began here ys) a.did log);
        state = b.state ∙ ap (λ (x : State). steps_state began x ys) a.state ∙ sym (state_more began xs ys s);
        booted_up = b.booted_up ∙ ap (λ (x : State). booted_in after x.pending ys) a.state ∙ ap (λ (nodes : List Bool). booted_in nodes here.pending ys) a.booted_up ∙ sym (booted_more began booted xs ys s);
      }

  pub one_turn : (now : ℕ) (bytes : List ℕ) (t : State) (after : List Bool) (q : P) → DidAll reads writes asks p (turn_log began s now bytes) q → t ≡ turn_state began s now bytes
      → after ≡ noted booted (said_from s.pending bytes) → Steps reads writes asks began s booted p (Turn now bytes ∷ []) t after q
  one_turn now bytes t after q did state is = record {
    did = subst (λ l. DidAll reads writes asks p l q) (sym (append-nil (turn_log began s now bytes))) did;
    state = state;
    booted_up = is;
  }

  pub one_turn_since : (own now : ℕ) (bytes : List ℕ) (t : State) (after : List Bool) (q : P) → own ≡ began → DidAll reads writes asks p (turn_log own s now bytes) q → t ≡ turn_state own s now bytes
      → after ≡ noted booted (said_from s.pending bytes) → Steps reads writes asks began s booted p (Turn now bytes ∷ []) t after q
  one_turn_since own now bytes t after q same did state is =
      one_turn now bytes t after q (subst (λ b. DidAll reads writes asks p (turn_log b s now bytes) q) same did) (subst (λ b. t ≡ turn_state b s now bytes) same state) is

-- ---- one question

abbrev pub first_of : List (ℕ × List ℕ) → Option ℕ
first_of [] = None
first_of ((now, bytes) ∷ rest) = Some now

since_more : (early : List (ℕ × List ℕ)) (now : ℕ) (bytes : List ℕ) → since (early ++ (now, bytes) ∷ []) ≡ unwrap_or (first_of early) now
since_more [] now bytes = refl
since_more ((at, got) ∷ early) now bytes = refl

first_more : (early : List (ℕ × List ℕ)) (now : ℕ) (bytes : List ℕ) → first_of (early ++ (now, bytes) ∷ []) ≡ Some (unwrap_or (first_of early) now)
first_more [] now bytes = refl
first_more ((at, got) ∷ early) now bytes = refl

abbrev AreSoon : ℕ → ℕ → List (ℕ × List ℕ) → Type 0
AreSoon limit from early = AllByRecursion (λ turn. turn.0 - from < limit) early

soon_more : (limit : ℕ) (early : List (ℕ × List ℕ)) (now : ℕ) (bytes : List ℕ) → AreSoon limit (since early) early → AreSoon limit (since (early ++ (now, bytes) ∷ [])) early
soon_more limit [] now bytes h = tt
soon_more limit ((at, got) ∷ early) now bytes h = h

-- a question that is not answered so far, in at least so many turns
pub record Waits {P : Type 0} (reads writes : ByteStep P) (asks : ClockStep P) (question : Question) (began : ℕ) (s : State) (booted : List Bool) (p : P) (k : ℕ) (left : List ℕ) (first : Option ℕ) (t : State) (after : List Bool) (q : P) : Type 0 where
  pub early : List (ℕ × List ℕ)
  pub steps : Steps reads writes asks began s booted p (turns early) t after q
  pub none_early : answer_heard question [] early ≡ None
  pub soon : AreSoon (limit_of question.demand) (since early) early
  pub is_left : left ≡ left_turns [] early
  pub is_first : first ≡ first_of early
  pub many : k ≤ length early

module _ {P : Type 0} (reads writes : ByteStep P) (asks : ClockStep P) (question : Question) (began : ℕ) (s : State) (booted : List Bool) (p : P) where
  -- a turn more, and what is read in it
  turn_taken : (k : ℕ) (left : List ℕ) (first : Option ℕ) (t u : State) (after later : List Bool) (q r : P) (now : ℕ) (bytes : List ℕ) (w : Waits reads writes asks question began s booted p k left first t after q)
      → Steps reads writes asks began t after q (Turn now bytes ∷ []) u later r → Steps reads writes asks began s booted p (turns (w.early ++ (now, bytes) ∷ [])) u later r
  turn_taken k left first t u after later q r now bytes w turn =
      subst (λ steps. Steps reads writes asks began s booted p steps u later r) (sym (turns_more w.early now bytes))
      (steps_on reads writes asks began s booted p (turns w.early) (Turn now bytes ∷ []) t u after later q r w.steps turn)

  heard_then : (k : ℕ) (left : List ℕ) (first : Option ℕ) (t : State) (after : List Bool) (q : P) (now : ℕ) (bytes : List ℕ) (answer : Option Answer) (w : Waits reads writes asks question began s booted p k left first t after q)
      → answer ≡ first_answer question (said_from left bytes) → answer ≡ answer_heard question [] (w.early ++ (now, bytes) ∷ [])
  heard_then k left first t after q now bytes answer w e =
      e ∙ ap (λ l. first_answer question (said_from l bytes)) w.is_left ∙ ap (λ o. option_or o (first_answer question (said_from (left_turns [] w.early) bytes))) (sym w.none_early)
      ∙ sym (heard_more question [] w.early now bytes)

  pub awaits : (k : ℕ) (left : List ℕ) (first : Option ℕ) (t : State) (after : List Bool) (q : P) (now : ℕ) (bytes : List ℕ) (answer : Option Answer) (w : Waits reads writes asks question began s booted p k left first t after q)
      → answer ≡ first_answer question (said_from left bytes) → Awaits question (w.early ++ (now, bytes) ∷ []) answer
  awaits k left first t after q now bytes answer w e = record {
    early = w.early;
    last = (now, bytes);
    split = refl;
    none_early = w.none_early;
    soon = soon_more (limit_of question.demand) w.early now bytes w.soon;
    heard = heard_then k left first t after q now bytes answer w e;
  }

  pub waits_on : (k : ℕ) (left rest : List ℕ) (first next : Option ℕ) (t u : State) (after later : List Bool) (q r : P) (now : ℕ) (bytes : List ℕ) → Waits reads writes asks question began s booted p k left first t after q
      → Steps reads writes asks began t after q (Turn now bytes ∷ []) u later r → None ≡ first_answer question (said_from left bytes) → rest ≡ left_from left bytes
      → next ≡ Some (unwrap_or first now) → now - unwrap_or first now < limit_of question.demand → Waits reads writes asks question began s booted p (k + 1) rest next u later r
  waits_on k left rest first next t u after later q r now bytes w turn none er en early = record {
    early = w.early ++ (now, bytes) ∷ [];
    steps = turn_taken k left first t u after later q r now bytes w turn;
    none_early = sym (heard_then k left first t after q now bytes None w none);
    soon = all_more (λ (turn : ℕ × List ℕ). turn.0 - since (w.early ++ (now, bytes) ∷ []) < limit_of question.demand) w.early (now, bytes) (soon_more (limit_of question.demand) w.early now bytes w.soon)
        (subst (λ from. now - from < limit_of question.demand) (ap (λ o. unwrap_or o now) w.is_first ∙ sym (since_more w.early now bytes)) early);
    is_left = er ∙ ap (λ l. left_from l bytes) w.is_left ∙ sym (left_more [] w.early now bytes);
    is_first = en ∙ ap (λ o. Some (unwrap_or o now)) w.is_first ∙ sym (first_more w.early now bytes);
    many = one_longer k w.early (now, bytes) w.many;
  }

  pub was_answered : (k : ℕ) (left : List ℕ) (first : Option ℕ) (t u : State) (after later : List Bool) (q r : P) (now : ℕ) (bytes : List ℕ) (answer : Answer) → Waits reads writes asks question began s booted p k left first t after q
      → Steps reads writes asks began t after q (Turn now bytes ∷ []) u later r → Some answer ≡ first_answer question (said_from left bytes)
      → (taken : List (ℕ × List ℕ)) × IsOutcome question taken (Answered answer) × Steps reads writes asks began s booted p (turns taken) u later r
  was_answered k left first t u after later q r now bytes answer w turn e =
      (w.early ++ (now, bytes) ∷ [], awaits k left first t after q now bytes (Some answer) w e, turn_taken k left first t u after later q r now bytes w turn)

  pub was_silent : (k : ℕ) (left : List ℕ) (first : Option ℕ) (t u : State) (after later : List Bool) (q r : P) (now : ℕ) (bytes : List ℕ) → Waits reads writes asks question began s booted p k left first t after q
      → Steps reads writes asks began t after q (Turn now bytes ∷ []) u later r → None ≡ first_answer question (said_from left bytes) → limit_of question.demand ≤ now - unwrap_or first now
      → (taken : List (ℕ × List ℕ)) × IsOutcome question taken Silent × Steps reads writes asks began s booted p (turns taken) u later r
  unfolding awaits
  was_silent k left first t u after later q r now bytes w turn e late = (
    w.early ++ (now, bytes) ∷ [],
    (awaits k left first t after q now bytes None w e, subst (λ from. limit_of question.demand ≤ now - from) (ap (λ o. unwrap_or o now) w.is_first ∙ sym (since_more w.early now bytes)) late),
    turn_taken k left first t u after later q r now bytes w turn,
  )

-- turns give out in which an answer is awaited
module _ {P : Type 0} (reads writes : ByteStep P) (asks : ClockStep P) (fails : ByteStep P) (question : Question) (began : ℕ) (s : State) (booted : List Bool) (p : P) where
  pub turn_fails : (k : ℕ) (left : List ℕ) (first : Option ℕ) (own : ℕ) (t : State) (after : List Bool) (q r : P) → own ≡ began → Waits reads writes asks question began s booted p k left first t after q
      → TurnFails reads writes asks fails own t q r → AwaitingFails reads writes asks fails began s p r
  turn_fails k left first own t after q r same w (now, bytes, h) =
      let off : BrokeOff reads writes asks fails q (turn_log began t now bytes) r = subst (λ b. BrokeOff reads writes asks fails q (turn_log b t now bytes) r) same h in
      (w.early ++ (now, bytes) ∷ [], inl (turn_broke reads writes asks fails p q r began s t w.early now bytes w.steps.did w.steps.state off))

  pub too_many : (k : ℕ) (left : List ℕ) (first : Option ℕ) (t : State) (after : List Bool) (q : P) → Waits reads writes asks question began s booted p k left first t after q → 18446744073709551615 ≤ k
      → AwaitingFails reads writes asks fails began s p q
  too_many k left first t after q w enough = (w.early, inr (w.steps.did, omega (arith, w.many, enough)))

-- a request, and then turns
pub request_fails : {P : Type 0} (reads writes : ByteStep P) (asks : ClockStep P) (fails : ByteStep P) (question : Question) (began : ℕ) (s : State) (p : P) (frame : Message) (m q : P) → frame ≡ request_of question
    → DidAll reads writes asks p (Sent frame ∷ []) m → AwaitingFails reads writes asks fails began s m q → RequestFails reads writes asks fails began s question p q
request_fails {P} reads writes asks fails question began s p frame m q is (n, one, e) (taken, h) =
    let log = steps_log began s (turns taken) in
    let sent : Did reads writes asks p (Sent (request_of question)) m = subst (λ (x : P). Did reads writes asks p (Sent (request_of question)) x) e (subst (λ f. Did reads writes asks p (Sent f) n) is one) in
    (taken, by_case taken log sent h)
  where
    by_case : (taken : List (ℕ × List ℕ)) (log : List Doing) → Did reads writes asks p (Sent (request_of question)) m → GaveUp reads writes asks fails taken m log q → GaveUp reads writes asks fails taken p (Sent (request_of question) ∷ log) q
    by_case taken log sent (inl off) = inl (inr (m, sent, off))
    by_case taken log sent (inr (did, enough)) = inr ((m, sent, did), enough)

pub request_broke : {P : Type 0} (reads writes : ByteStep P) (asks : ClockStep P) (fails : ByteStep P) (question : Question) (began : ℕ) (s : State) (p : P) (frame : Message) (q : P) → frame ≡ request_of question
    → BrokeOff reads writes asks fails p (Sent frame ∷ []) q → RequestFails reads writes asks fails began s question p q
request_broke reads writes asks fails question began s p frame q is h = ([], inl (subst (λ f. BrokeOff reads writes asks fails p (Sent f ∷ []) q) is h))

-- ---- all questions

rounds_more : (xs : List Round) (round : Round) → rounds_steps (xs ++ round ∷ []) ≡ rounds_steps xs ++ round_steps round
rounds_more [] round = append-nil (round_steps round)
rounds_more (x ∷ xs) round = ap (λ l. round_steps x ++ l) (rounds_more xs round) ∙ sym (append_assoc (round_steps x) (rounds_steps xs) (round_steps round))

are_rounds_more : (began : ℕ) (xs : List Round) (round : Round) (s : State) (before : List Exchange) → AreRounds began s before xs → IsRound (steps_state began s (rounds_steps xs)).manager (before ++ exchanges_of xs) round
    → AreRounds began s before (xs ++ round ∷ [])
are_rounds_more began [] round s before h is = (subst (λ b. IsRound s.manager b round) (append-nil before) is, tt)
are_rounds_more began (x ∷ xs) round s before h is =
    let next = steps_state began s (round_steps x) in
    let state : steps_state began s (rounds_steps (x ∷ xs)) ≡ steps_state began next (rounds_steps xs) = state_more began (round_steps x) (rounds_steps xs) s in
    let one : IsRound (steps_state began next (rounds_steps xs)).manager (before ++ x.exchange ∷ exchanges_of xs) round = subst (λ (u : State). IsRound u.manager (before ++ x.exchange ∷ exchanges_of xs) round) state is in (
      h.0,
      are_rounds_more began xs round next (before ++ x.exchange ∷ []) h.1
          (subst (λ b. IsRound (steps_state began next (rounds_steps xs)).manager b round) (sym (append_assoc before (x.exchange ∷ []) (exchanges_of xs))) one),
    )

-- rounds so far
pub record Asks {P : Type 0} (reads writes : ByteStep P) (asks : ClockStep P) (began : ℕ) (s : State) (booted : List Bool) (p : P) (all : List Exchange) (t : State) (after : List Bool) (q : P) : Type 0 where
  pub rounds : List Round
  pub are : all ≡ exchanges_of rounds
  pub right : AreRounds began s [] rounds
  pub steps : Steps reads writes asks began s booted p (rounds_steps rounds) t after q

module _ {P : Type 0} (reads writes : ByteStep P) (asks : ClockStep P) (began : ℕ) (s : State) (booted : List Bool) (p : P) where
  pub asks_on : (all more : List Exchange) (t u : State) (after later : List Bool) (q r : P) (exchange : Exchange) → Asks reads writes asks began s booted p all t after q → more ≡ all ++ exchange ∷ []
      → (taken : List (ℕ × List ℕ)) × IsRound t.manager all (record { exchange = exchange; taken = taken }) × Steps reads writes asks began t after q (round_steps (record { exchange = exchange; taken = taken })) u later r
      → Asks reads writes asks began s booted p more u later r
  asks_on all more t u after later q r exchange a em (taken, is, steps) =
      let round : Round = record { exchange = exchange; taken = taken } in
      let here : IsRound (steps_state began s (rounds_steps a.rounds)).manager all round = subst (λ (x : State). IsRound x.manager all round) a.steps.state is in
      record {
        rounds = a.rounds ++ round ∷ [];
        are = em ∙ ap (λ (xs : List Exchange). xs ++ exchange ∷ []) a.are ∙ sym (map-append (λ (x : Round). x.exchange) a.rounds (round ∷ []));
        right = are_rounds_more began a.rounds round s [] a.right (subst (λ (xs : List Exchange). IsRound (steps_state began s (rounds_steps a.rounds)).manager xs round) a.are here);
        steps = subst (λ xs. Steps reads writes asks began s booted p xs u later r) (sym (rounds_more a.rounds round))
            (steps_on reads writes asks began s booted p (rounds_steps a.rounds) (round_steps round) t u after later q r a.steps steps);
      }

-- a round counts from the moment at which the boot began, behind the exchanges that stand in a list
pub asked_since : {P : Type 0} (reads writes : ByteStep P) (asks : ClockStep P) (own began : ℕ) (s t : State) (booted after : List Bool) (p q : P) (seen all : List Exchange) (question : Question) (outcome : Outcome)
    → own ≡ began → seen ≡ all
    → (taken : List (ℕ × List ℕ)) × IsRound s.manager seen (record { exchange = record { question = question; outcome = outcome }; taken = taken })
    × Steps reads writes asks own s booted p (round_steps (record { exchange = record { question = question; outcome = outcome }; taken = taken })) t after q
    → (taken : List (ℕ × List ℕ)) × IsRound s.manager all (record { exchange = record { question = question; outcome = outcome }; taken = taken })
    × Steps reads writes asks began s booted p (round_steps (record { exchange = record { question = question; outcome = outcome }; taken = taken })) t after q
asked_since reads writes asks own began s t booted after p q seen all question outcome same is (taken, right, steps) =
    let round : Round = record { exchange = record { question = question; outcome = outcome }; taken = taken } in
    (taken, subst (λ (xs : List Exchange). IsRound s.manager xs round) is right, subst (λ b. Steps reads writes asks b s booted p (round_steps round) t after q) same steps)

-- rounds so far, and then a question that gives out
pub rounds_fail : {P : Type 0} (reads writes : ByteStep P) (asks : ClockStep P) (fails : ByteStep P) (questions : List Question) (own began : ℕ) (s t : State) (booted after : List Bool) (p q r : P) (seen all : List Exchange) (k : ℕ) (question : Question)
    → k < length questions → question ≡ get_or questions k question → questions_in all ++ drop k questions ≡ questions → own ≡ began → seen ≡ all → Asks reads writes asks began s booted p all t after q
    → RoundFails reads writes asks fails own t seen question q r → RoundsFail reads writes asks fails questions began s p r
rounds_fail reads writes asks fails questions own began s t booted after p q r seen all k question inside here so_far same is a h =
    let here' : RoundFails reads writes asks fails began t all question q r =
    subst (λ (xs : List Exchange). RoundFails reads writes asks fails began t xs question q r) is (subst (λ b. RoundFails reads writes asks fails b t seen question q r) same h) in
    let there : RoundFails reads writes asks fails began (steps_state began s (rounds_steps a.rounds)) all question q r = subst (λ (x : State). RoundFails reads writes asks fails began x all question q r) a.steps.state here' in
    record {
      rounds = a.rounds;
      next = question;
      rest = drop (k + 1) questions;
      between = q;
      each = ap (λ (xs : List Exchange). questions_in xs ++ question ∷ drop (k + 1) questions) (sym a.are) ∙ ap (λ qs. questions_in all ++ qs) (drop_step questions k question inside here) ∙ so_far;
      right = a.right;
      did = a.steps.did;
      failed = subst (λ (xs : List Exchange). RoundFails reads writes asks fails began (steps_state began s (rounds_steps a.rounds)) xs question q r) a.are there;
    }

-- rounds so far, and one more of which there is no memory
pub rounds_stop : {P : Type 0} (reads writes : ByteStep P) (asks : ClockStep P) (questions : List Question) (began : ℕ) (s u : State) (booted later : List Bool) (p r : P) (all more : List Exchange) (k : ℕ) (exchange : Exchange)
    → k < length questions → exchange.question ≡ get_or questions k exchange.question → questions_in all ++ drop k questions ≡ questions → more ≡ all ++ exchange ∷ [] → Asks reads writes asks began s booted p more u later r
    → RoundsStop reads writes asks questions began s p r
rounds_stop reads writes asks questions began s u booted later p r all more k exchange inside here so_far em a = record {
  rounds = a.rounds;
  rest = drop (k + 1) questions;
  each = ap (λ (xs : List Exchange). questions_in xs ++ drop (k + 1) questions) (sym a.are) ∙ one_added questions all more k exchange.question exchange inside here refl em so_far;
  right = a.right;
  did = a.steps.did;
}
