use Rattle.std.proofs.Common.{◌≡◌, ◌∙◌, ◌*◌, ◌+◌, ◌≤◌, ◌<◌, ℕ, length, nat_lt, sym, arith}
use Rattle.std.proofs.lemmas.Bool.{lt-ltb}
use Rattle.cop_rta.specs.Ranges.{first_range}
use Rattle.cop_rta.specs.Test.{is_flagged}
use Rattle.cop_cert.specs.Evidence.{is_listed}
use Rattle.cop_plan.specs.Fillings.{number}
use Rattle.cop_plan.proofs.FoundLemmas.{filled_by_test, some_left, none_left_of, none_are_left, left_fail, lowest_by_flags, frames_by_flags, places_found, alone_planned, least_over_both, filled_over_both}
use Rattle.cop_plan.proofs.RangeFlagLemmas.{number_of_all, trials_of_all, trials_before}
use Rattle.cop_plan.proofs.assigning.at_rate.Goals as goal
use Rattle.cop_plan.proofs.assigning.at_rate.Goals.{After-fill_range}

size_is : (c : After-fill_range) → number (length c.flag_all.new.out) (is_flagged c.flag_all.new.out) ≡ c.args.pdos
size_is c = number_of_all c.args.pdos c.flag_all.new.out c.flag_all.ensures.size c.flag_all.ensures.each

trials_are : (c : After-fill_range) → 2 * c.fill_range.new.count.trials ≤ 2 * c.args.count.now.trials + c.args.pdos * (c.args.pdos + 1)
trials_are c = trials_of_all c.args.pdos _ _ _ (size_is c) c.fill_range.ensures.trials

busy_is : (c : After-fill_range) → c.fill_range.new.count.busy ≤ c.args.count.now.busy + c.args.pdos
busy_is c = rw (size_is c) at c.fill_range.ensures.busy_most

-- each PDO is flagged to start with
each_is : (c : After-fill_range) → (k : ℕ) → k < c.args.pdos → is_flagged c.flag_all.new.out k ≡ nat_lt k c.args.pdos
each_is c k h = c.flag_all.ensures.each k h ∙ sym (lt-ltb k c.args.pdos h)

pub returns-in_err-first-clause-trials : goal.returns-in_err-first-clause-trials
returns-in_err-first-clause-trials c = omega (arith, trials_are (goal.at.returns-in_err-first-clause-trials c).After-fill_range)

pub returns-in_err-first-clause-busy_most : goal.returns-in_err-first-clause-busy_most
returns-in_err-first-clause-busy_most c = omega (arith, busy_is (goal.at.returns-in_err-first-clause-busy_most c).After-fill_range)

pub make-requires-clause-fail : goal.make-requires-clause-fail
make-requires-clause-fail c =
    rw c.deref.ensures.value (left_fail first_range.least c.args.rate c.args.set.now c.args.pdos (λ k. nat_lt k c.args.pdos) c.in_ok-first.first.placed.items c.in_ok-first.first.left.items
    (filled_by_test first_range.least c.args.rate c.args.set.now c.args.pdos c.flag_all.new.out (λ k. nat_lt k c.args.pdos) c.in_ok-first.first.placed.items (is_listed c.in_ok-first.first.left.items)
    c.flag_all.ensures.size (each_is (goal.at.make-requires-clause-fail c).After-fill_range) c.in_ok-first.ensures.filled)
    c.in_ok-first.ensures.rise (rw c.flag_all.ensures.size at c.in_ok-first.ensures.inside))

pub returns-in_err-make-clause-trials : goal.returns-in_err-make-clause-trials
returns-in_err-make-clause-trials c = omega (arith, trials_are (goal.at.returns-in_err-make-clause-trials c).After-fill_range)

pub returns-in_err-make-clause-busy_most : goal.returns-in_err-make-clause-busy_most
returns-in_err-make-clause-busy_most c = omega (arith, busy_is (goal.at.returns-in_err-make-clause-busy_most c).After-fill_range)

pub returns-then-not-is_empty-clause-found : goal.returns-then-not-is_empty-clause-found
returns-then-not-is_empty-clause-found c =
    let places = c.in_ok-make.ensures.places in (
      c.in_ok-make.ensures.rate,
      places_found c.args.rate c.args.set.now c.args.pdos c.requires.can.count c.in_ok-first.first.placed.items c.in_ok-make.field-0 c.in_ok-make.ensures.rate c.in_ok-first.first.left.items places.0
          (filled_by_test first_range.least c.args.rate c.args.set.now c.args.pdos c.flag_all.new.out (λ k. nat_lt k c.args.pdos) c.in_ok-first.first.placed.items (is_listed c.in_ok-first.first.left.items)
          c.flag_all.ensures.size (each_is (goal.at.returns-then-not-is_empty-clause-found c).After-fill_range) c.in_ok-first.ensures.filled)
          (rw c.flag_all.ensures.size at c.in_ok-first.ensures.inside) (some_left c.is_empty.result c.in_ok-first.first.left.len c.in_ok-first.first.left.items (omega (arith, c.in_ok-first.first.left.ok)) c.is_empty.ensures c.if-not-is_empty.true) places.1 (places.2 ∙ c.deref.ensures.value) c.in_ok-make.ensures.made c.in_ok-make.ensures.checks,
    )

pub returns-then-not-is_empty-clause-trials : goal.returns-then-not-is_empty-clause-trials
returns-then-not-is_empty-clause-trials c = omega (arith, trials_are (goal.at.returns-then-not-is_empty-clause-trials c).After-fill_range)

pub returns-then-not-is_empty-clause-busy_most : goal.returns-then-not-is_empty-clause-busy_most
returns-then-not-is_empty-clause-busy_most c = omega (arith, busy_is (goal.at.returns-then-not-is_empty-clause-busy_most c).After-fill_range)

pub over_both-requires-clause-held : goal.over_both-requires-clause-held
over_both-requires-clause-held c = (
  c.in_ok-first.first.placed.items,
  none_are_left first_range.least c.args.rate c.args.set.now c.args.pdos (λ k. nat_lt k c.args.pdos) c.in_ok-first.first.placed.items c.in_ok-first.first.left.items (none_left_of c.is_empty.result c.in_ok-first.first.left.len c.in_ok-first.first.left.items (omega (arith, c.in_ok-first.first.left.ok)) c.is_empty.ensures c.if-not-is_empty.false)
      (filled_by_test first_range.least c.args.rate c.args.set.now c.args.pdos c.flag_all.new.out (λ k. nat_lt k c.args.pdos) c.in_ok-first.first.placed.items (is_listed c.in_ok-first.first.left.items)
      c.flag_all.ensures.size (each_is (goal.at.over_both-requires-clause-held c).After-fill_range) c.in_ok-first.ensures.filled),
)

pub over_both-requires-clause-fails : goal.over_both-requires-clause-fails
over_both-requires-clause-fails c =
    let lowest = lowest_by_flags c.args.rate c.args.set.now c.args.pdos c.flag_all.new.out (λ k. nat_lt k c.args.pdos) c.in-Some.field-0 c.flag_all.ensures.size
    (each_is (goal.at.over_both-requires-clause-fails c).After-fill_range) c.in-Some.ensures in
    (c.in-Some.field-0, lowest.tested, lowest.fails)

pub over_both-requires-clause-room : goal.over_both-requires-clause-room
over_both-requires-clause-room c =
    trials_before c.args.pdos c.args.count.now.trials c.fill_range.new.count.trials c.requires.can.few c.requires.room (trials_are (goal.at.over_both-requires-clause-room c).After-fill_range)

pub over_both-requires-clause-busy_room : goal.over_both-requires-clause-busy_room
over_both-requires-clause-busy_room c = omega (arith, c.requires.can.few, c.requires.busy_room, busy_is (goal.at.over_both-requires-clause-busy_room c).After-fill_range)

pub returns-in-None-clause-found : goal.returns-in-None-clause-found
returns-in-None-clause-found c =
    rw c.new.ensures.items (alone_planned c.args.rate c.args.set.now c.args.pdos c.requires.can.count (omega (arith, c.requires.can.few)) c.requires.can.outside_first c.requires.can.outside_second
    c.in_ok-first.first.placed.items
    (none_are_left first_range.least c.args.rate c.args.set.now c.args.pdos (λ k. nat_lt k c.args.pdos) c.in_ok-first.first.placed.items c.in_ok-first.first.left.items (none_left_of c.is_empty.result c.in_ok-first.first.left.len c.in_ok-first.first.left.items (omega (arith, c.in_ok-first.first.left.ok)) c.is_empty.ensures c.if-not-is_empty.false)
    (filled_by_test first_range.least c.args.rate c.args.set.now c.args.pdos c.flag_all.new.out (λ k. nat_lt k c.args.pdos) c.in_ok-first.first.placed.items (is_listed c.in_ok-first.first.left.items)
    c.flag_all.ensures.size (each_is (goal.at.returns-in-None-clause-found c).After-fill_range) c.in_ok-first.ensures.filled))
    (frames_by_flags c.args.rate c.args.set.now c.args.pdos c.flag_all.new.out (λ k. nat_lt k c.args.pdos) c.flag_all.ensures.size (each_is (goal.at.returns-in-None-clause-found c).After-fill_range) c.in-None.ensures))

pub returns-in-None-clause-trials : goal.returns-in-None-clause-trials
returns-in-None-clause-trials c = omega (arith, trials_are (goal.at.returns-in-None-clause-trials c).After-fill_range)

pub returns-in-None-clause-least : goal.returns-in-None-clause-least
returns-in-None-clause-least c = rw (size_is (goal.at.returns-in-None-clause-least c).After-fill_range) at c.in_ok-first.ensures.least

pub returns-in-None-clause-busy_most : goal.returns-in-None-clause-busy_most
returns-in-None-clause-busy_most c = omega (arith, busy_is (goal.at.returns-in-None-clause-busy_most c).After-fill_range)

pub returns-in-None-clause-busy_least : goal.returns-in-None-clause-busy_least
returns-in-None-clause-busy_least c = rw (size_is (goal.at.returns-in-None-clause-busy_least c).After-fill_range) at c.fill_range.ensures.busy_some

pub returns-in-Some-clause-trials : goal.returns-in-Some-clause-trials
returns-in-Some-clause-trials c = omega (arith, trials_are (goal.at.returns-in-Some-clause-trials c).After-fill_range, c.over_both.ensures.trials)

pub returns-in-Some-clause-least : goal.returns-in-Some-clause-least
returns-in-Some-clause-least c =
    least_over_both c.over_both.result c.args.pdos c.args.count.now.trials c.fill_range.new.count.trials c.over_both.new.count.trials
    (rw (size_is (goal.at.returns-in-Some-clause-least c).After-fill_range) at c.in_ok-first.ensures.least) c.over_both.ensures.rises c.over_both.ensures.by_sdo

pub returns-in-Some-clause-busy_most : goal.returns-in-Some-clause-busy_most
returns-in-Some-clause-busy_most c = omega (arith, busy_is (goal.at.returns-in-Some-clause-busy_most c).After-fill_range, c.over_both.ensures.busy_most)

pub returns-in-Some-clause-busy_least : goal.returns-in-Some-clause-busy_least
returns-in-Some-clause-busy_least c =
    filled_over_both c.over_both.result c.args.pdos c.args.count.now.busy c.fill_range.new.count.busy c.over_both.new.count.busy
    (rw (size_is (goal.at.returns-in-Some-clause-busy_least c).After-fill_range) at c.fill_range.ensures.busy_some) c.over_both.ensures.busy_rises
