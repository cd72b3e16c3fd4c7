-- What came of the reads of several nodes, by what came of each.
use Rattle.std.proofs.Common.{◌≡◌, ℕ, ◌-◌, ◌≤◌, Bool, true, false, List, [], ◌∷◌, ◌++◌, length, get_or, take, drop, refl, sym, ◌∙◌, ap, subst, arith, append_assoc, append-nil, take_all, Ok, Err, inl, inr}
use Rattle.std.specs.Prelude.{Result, IfOk, OnErr}
use Rattle.std.specs.List.{AllByRecursion}
use Rattle.cop_frame.specs.declared.rates.Rate.{Rate}
use Rattle.cop_sdo.specs.declared.address.Address.{Address}
use Rattle.cop_sdo.specs.Client.{Calling}
use Rattle.cop_sdo.specs.Calls.{Started, uploading}
use Rattle.cop_live.specs.Log.{ByteStep, ClockStep}
use Rattle.cop_survey.specs.Asking.{Pauses}
use Rattle.cop_survey.specs.Reaching.{IsOpened}
use Rattle.cop_transfer.specs.declared.carrying.End.{End}
use Rattle.cop_transfer.specs.declared.reading_each.NodeValue.{NodeValue}
use Rattle.cop_transfer.specs.declared.reading_each.EachRead.{EachRead}
use Rattle.cop_transfer.specs.declared.reading_each.EachRead.TheVariants.{Ended, Left, Failed}
use Rattle.cop_transfer.specs.Carrying.{IsCarried, CarryFails}
use Rattle.cop_transfer.specs.Transferring.{read_limit, fresh, asking_of}
use Rattle.cop_transfer.specs.ReadingEach.{IsNode, AsksFor, ReadsOne, OneFails, OneStops, ReadsEach, AddsEach, OneOfEachFails, OneOfEachStops, ReadsAll, if_each_failed, ReadOrCloseFails, IsEachRead, EachReadFails, EachReadStops}

-- the first node is one, and so is each other
pub first_is : (nodes : List ℕ) → 1 ≤ length nodes → AllByRecursion IsNode nodes → IsNode (get_or nodes 0 0)
first_is [] some all = absurd (omega (arith, some))
first_is (node ∷ rest) some all = all.0

pub others_are : (nodes : List ℕ) → 1 ≤ length nodes → AllByRecursion IsNode nodes → AllByRecursion IsNode (take (length nodes - 1) (drop 1 nodes))
others_are [] some all = absurd (omega (arith, some))
others_are (node ∷ rest) some all = subst (λ (ns : List ℕ). AllByRecursion IsNode ns) (sym (take_all (length (node ∷ rest) - 1) rest (omega arith))) all.1

module _ {P : Type 0} (reads writes : ByteStep P) (asks : ClockStep P) (ticks : ℕ) (at : Address) where
  -- ---- one node

  asked_so : (node : ℕ) (p paused q : P) (client later : Calling) (started : Started) (end : End) → Pauses reads writes asks ticks p paused → client ≡ fresh node → uploading client at ≡ Ok started
      → IsCarried reads writes asks read_limit (asking_of started) paused end later q → AsksFor reads writes asks ticks at node p end later q
  asked_so node p paused q client later started end pauses is begins carries = record { paused = paused; started = started; pauses = pauses; begins = ap (λ c. uploading c at) (sym is) ∙ begins; carries = carries }

  pub one_read : (node : ℕ) (p paused q : P) (client later : Calling) (started : Started) (value : NodeValue) → Pauses reads writes asks ticks p paused → client ≡ fresh node → uploading client at ≡ Ok started
      → IsCarried reads writes asks read_limit (asking_of started) paused value.end later q → value.bytes.items ≡ later.asking.bytes → value.node ≡ node → ReadsOne reads writes asks ticks at node p value q
  one_read node p paused q client later started value pauses is begins carries takes of_it =
      record { later = later; asked = asked_so node p paused q client later started value.end pauses is begins carries; takes = takes; of_it = of_it }

  pub one_stopped : (node : ℕ) (p paused q : P) (client later : Calling) (started : Started) (end : End) → Pauses reads writes asks ticks p paused → client ≡ fresh node → uploading client at ≡ Ok started
      → IsCarried reads writes asks read_limit (asking_of started) paused end later q → OneStops reads writes asks ticks at node p q
  one_stopped node p paused q client later started end pauses is begins carries = (end, later, asked_so node p paused q client later started end pauses is begins carries)

  pub one_failed : (fails : ByteStep P) (node : ℕ) (p paused q : P) (client : Calling) (started : Started) → Pauses reads writes asks ticks p paused → client ≡ fresh node → uploading client at ≡ Ok started
      → CarryFails reads writes asks fails read_limit (asking_of started) paused q → OneFails reads writes asks fails ticks at node p q
  one_failed fails node p paused q client started pauses is begins carries = inr (paused, started, pauses, ap (λ c. uploading c at) (sym is) ∙ begins, carries)

  -- ---- the first node, and the others

  pub none_added : (nodes : List ℕ) (values : List NodeValue) (p : P) → length nodes ≡ 0 → AddsEach reads writes asks ticks at nodes values p values p
  none_added [] values p none = record { values = []; behind = sym (append-nil values); each = refl }
  none_added (node ∷ rest) values p none = absurd (omega (arith, none))

  adds_first : (nodes : List ℕ) (before between after : List NodeValue) (value : NodeValue) (p m q : P) → 1 ≤ length nodes → ReadsOne reads writes asks ticks at (get_or nodes 0 0) p value m
      → between ≡ before ++ value ∷ [] → AddsEach reads writes asks ticks at (take (length nodes - 1) (drop 1 nodes)) between m after q → AddsEach reads writes asks ticks at nodes before p after q
  adds_first [] before between after value p m q some one is h = absurd (omega (arith, some))
  adds_first (node ∷ rest) before between after value p m q some one is h = record {
    values = value ∷ h.values;
    behind = h.behind ∙ ap (λ (xs : List NodeValue). xs ++ h.values) is ∙ append_assoc before (value ∷ []) h.values;
    each = (m, one, subst (λ (ns : List ℕ). ReadsEach reads writes asks ticks at ns m h.values q) (take_all (length (node ∷ rest) - 1) rest (omega arith)) h.each);
  }

  pub added_so : {E : Type 0} (result : Result Bool E) (nodes : List ℕ) (before between after : List NodeValue) (value : NodeValue) (p m q : P) → 1 ≤ length nodes
      → ReadsOne reads writes asks ticks at (get_or nodes 0 0) p value m → between ≡ before ++ value ∷ []
      → IfOk result (λ went. went ≡ true → AddsEach reads writes asks ticks at (take (length nodes - 1) (drop 1 nodes)) between m after q)
      → IfOk result (λ went. went ≡ true → AddsEach reads writes asks ticks at nodes before p after q)
  added_so (Ok went) nodes before between after value p m q some one is h = λ e. adds_first nodes before between after value p m q some one is (h e)
  added_so (Err e) nodes before between after value p m q some one is h = tt

  fails_first : (fails : ByteStep P) (nodes : List ℕ) (value : NodeValue) (p m q : P) → 1 ≤ length nodes → ReadsOne reads writes asks ticks at (get_or nodes 0 0) p value m
      → OneOfEachFails reads writes asks fails ticks at (take (length nodes - 1) (drop 1 nodes)) m q → OneOfEachFails reads writes asks fails ticks at nodes p q
  fails_first fails [] value p m q some one h = absurd (omega (arith, some))
  fails_first fails (node ∷ rest) value p m q some one h =
      inr (value, m, one, subst (λ (ns : List ℕ). OneOfEachFails reads writes asks fails ticks at ns m q) (take_all (length (node ∷ rest) - 1) rest (omega arith)) h)

  pub failed_so : {E : Type 0} (result : Result Bool E) (fails : ByteStep P) (nodes : List ℕ) (value : NodeValue) (p m q : P) → 1 ≤ length nodes → ReadsOne reads writes asks ticks at (get_or nodes 0 0) p value m
      → IfOk result (λ went. went ≡ false → OneOfEachFails reads writes asks fails ticks at (take (length nodes - 1) (drop 1 nodes)) m q)
      → IfOk result (λ went. went ≡ false → OneOfEachFails reads writes asks fails ticks at nodes p q)
  failed_so (Ok went) fails nodes value p m q some one h = λ e. fails_first fails nodes value p m q some one (h e)
  failed_so (Err e) fails nodes value p m q some one h = tt

  pub fails_now : (fails : ByteStep P) (nodes : List ℕ) (p q : P) → 1 ≤ length nodes → OneFails reads writes asks fails ticks at (get_or nodes 0 0) p q → OneOfEachFails reads writes asks fails ticks at nodes p q
  fails_now fails [] p q some h = absurd (omega (arith, some))
  fails_now fails (node ∷ rest) p q some h = inl h

  stops_first : (nodes : List ℕ) (value : NodeValue) (p m q : P) → 1 ≤ length nodes → ReadsOne reads writes asks ticks at (get_or nodes 0 0) p value m
      → OneOfEachStops reads writes asks ticks at (take (length nodes - 1) (drop 1 nodes)) m q → OneOfEachStops reads writes asks ticks at nodes p q
  stops_first [] value p m q some one h = absurd (omega (arith, some))
  stops_first (node ∷ rest) value p m q some one h =
      inr (value, m, one, subst (λ (ns : List ℕ). OneOfEachStops reads writes asks ticks at ns m q) (take_all (length (node ∷ rest) - 1) rest (omega arith)) h)

  pub stopped_so : {E : Type 0} (result : Result Bool E) (nodes : List ℕ) (value : NodeValue) (p m q : P) → 1 ≤ length nodes → ReadsOne reads writes asks ticks at (get_or nodes 0 0) p value m
      → OnErr result (OneOfEachStops reads writes asks ticks at (take (length nodes - 1) (drop 1 nodes)) m q) → OnErr result (OneOfEachStops reads writes asks ticks at nodes p q)
  stopped_so (Ok went) nodes value p m q some one h = tt
  stopped_so (Err e) nodes value p m q some one h = stops_first nodes value p m q some one h

  pub stops_now : (nodes : List ℕ) (p q : P) → 1 ≤ length nodes → OneStops reads writes asks ticks at (get_or nodes 0 0) p q → OneOfEachStops reads writes asks ticks at nodes p q
  stops_now [] p q some h = absurd (omega (arith, some))
  stops_now (node ∷ rest) p q some h = inl h

  -- what a node told was not kept
  pub unkept : (nodes : List ℕ) (value : NodeValue) (p q : P) → 1 ≤ length nodes → ReadsOne reads writes asks ticks at (get_or nodes 0 0) p value q → OneOfEachStops reads writes asks ticks at nodes p q
  unkept nodes value p q some one = stops_now nodes p q some (value.end, one.later, one.asked)

  -- ---- over a bus that was reached

  module _ (rate : Rate) (nodes : List ℕ) (p reached q : P) (opens : IsOpened reads writes asks rate p reached) where
    read_by : (each : EachRead) → ReadsAll reads writes asks ticks at nodes reached q each → IsEachRead reads writes asks rate ticks at nodes p q each
    read_by (Ended values) h = record { reached = reached; opens = opens; reads_each = h }
    read_by (Left reason) h = absurd h
    read_by Failed h = tt

    pub each_read : {E : Type 0} (result : Result EachRead E) → IfOk result (λ each. ReadsAll reads writes asks ticks at nodes reached q each) → IfOk result (λ each. IsEachRead reads writes asks rate ticks at nodes p q each)
    each_read (Ok each) h = read_by each h
    each_read (Err e) h = tt

    failed_by : (fails : ByteStep P) (each : EachRead) → if_each_failed each (ReadOrCloseFails reads writes asks fails ticks at nodes reached q) → if_each_failed each (EachReadFails reads writes asks fails rate ticks at nodes p q)
    failed_by fails (Ended values) h = tt
    failed_by fails (Left reason) h = tt
    failed_by fails Failed h = inr (reached, opens, h)

    pub each_failed : {E : Type 0} (fails : ByteStep P) (result : Result EachRead E) → IfOk result (λ each. if_each_failed each (ReadOrCloseFails reads writes asks fails ticks at nodes reached q))
        → IfOk result (λ each. if_each_failed each (EachReadFails reads writes asks fails rate ticks at nodes p q))
    each_failed fails (Ok each) h = failed_by fails each h
    each_failed fails (Err e) h = tt

    pub each_stopped : {E : Type 0} (result : Result EachRead E) → OnErr result (OneOfEachStops reads writes asks ticks at nodes reached q) → OnErr result (EachReadStops reads writes asks rate ticks at nodes p q)
    each_stopped (Ok each) h = tt
    each_stopped (Err e) h = (reached, opens, h)
