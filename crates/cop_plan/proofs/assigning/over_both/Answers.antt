use Rattle.std.proofs.Common.{◌∙◌, arith}
use Rattle.cop_rta.specs.Ranges.{first_range}
use Rattle.cop_rta.specs.Test.{is_flagged}
use Rattle.cop_cert.specs.Causes.{kept}
use Rattle.cop_cert.specs.Evidence.{is_listed}
use Rattle.cop_plan.proofs.FoundLemmas.{filled_by_test, second_fail, lowest_by_flags, frames_by_flags, sdo_found, both_planned}
use Rattle.cop_plan.proofs.RangeFlagLemmas.{trials_of_some, trials_after}
use Rattle.cop_plan.proofs.RangePassLemmas.{number_most}
use Rattle.cop_plan.proofs.assigning.over_both.Goals as goal

pub make_for_sdo-requires-clause-fail : goal.make_for_sdo-requires-clause-fail
make_for_sdo-requires-clause-fail c =
    rw c.deref-in-Some.ensures.value (second_fail c.args.rate c.args.set.now c.args.pdos c.in_ok-second.second.placed.items c.in_ok-second.second.left.items
    c.in_ok-second.ensures.filled c.in_ok-second.ensures.none c.in_ok-second.ensures.rise c.in_ok-second.ensures.inside)

pub make_for_sdo-requires-clause-below : goal.make_for_sdo-requires-clause-below
make_for_sdo-requires-clause-below c =
    rw c.deref-in-Some.ensures.value
    (lowest_by_flags c.args.rate c.args.set.now c.args.pdos c.flag_kept.new.out (kept c.args.pdos (is_listed c.in_ok-second.second.left.items)) c.in-Some.frame c.flag_kept.ensures.size
    (λ k h. rw c.deref.ensures.value at (c.flag_kept.ensures.each k h)) c.in-Some.ensures).fails

pub returns-in-Some-clause-found : goal.returns-in-Some-clause-found
returns-in-Some-clause-found c =
    let sdo = c.in_ok-refusal.ensures.sdo in (
      c.in_ok-refusal.ensures.rate,
      sdo_found c.args.rate c.args.set.now c.args.pdos c.requires.can.count c.requires.held.0 c.in_ok-refusal.refusal c.in_ok-refusal.ensures.rate
          c.in_ok-second.second.placed.items c.in_ok-second.second.left.items sdo.0 c.in-Some.frame sdo.1 c.requires.held.1 c.in_ok-second.ensures.filled
          (lowest_by_flags c.args.rate c.args.set.now c.args.pdos c.flag_kept.new.out (kept c.args.pdos (is_listed c.in_ok-second.second.left.items)) c.in-Some.frame c.flag_kept.ensures.size
          (λ k h. rw c.deref.ensures.value at (c.flag_kept.ensures.each k h)) c.in-Some.ensures)
          sdo.2 (sdo.3 ∙ c.deref-in-Some.ensures.value) c.in_ok-refusal.ensures.made c.in_ok-refusal.ensures.checks,
    )

pub fill_range-requires-clause-room : goal.fill_range-requires-clause-room
fill_range-requires-clause-room c = trials_after c.args.pdos c.args.count.now.trials c.fill_second.new.count.trials c.requires.can.few c.requires.room c.fill_second.ensures.trials

pub fill_range-requires-clause-busy_room : goal.fill_range-requires-clause-busy_room
fill_range-requires-clause-busy_room c = omega (arith, c.requires.can.few, c.requires.busy_room, c.fill_second.ensures.busy_most)

-- the trials of the first range, for the PDOs that are flagged
pub returns-in_err-upper-clause-trials : goal.returns-in_err-upper-clause-trials
returns-in_err-upper-clause-trials c =
    let size = number_most c.args.pdos (is_flagged c.flag_kept.new.out) in
    let more = trials_of_some c.args.pdos _ _ _ size (rw c.flag_kept.ensures.size at c.fill_range.ensures.trials) in
    omega (arith, c.fill_second.ensures.trials, more)

pub returns-in_err-upper-clause-busy_most : goal.returns-in_err-upper-clause-busy_most
returns-in_err-upper-clause-busy_most c =
    omega (arith, number_most c.args.pdos (is_flagged c.flag_kept.new.out), (rw c.flag_kept.ensures.size at c.fill_range.ensures.busy_most), c.fill_second.ensures.busy_most)

pub returns-clause-found : goal.returns-clause-found
returns-clause-found c =
    let top = kept c.args.pdos (is_listed c.in_ok-second.second.left.items) in
    both_planned c.args.rate c.args.set.now c.args.pdos c.requires.can.count (omega (arith, c.requires.can.few)) c.requires.can.outside_first c.requires.can.outside_second
    c.requires.held.0 c.requires.held.1 c.in_ok-second.second.placed.items c.in_ok-upper.upper.placed.items
    (is_listed c.in_ok-second.second.left.items) (is_listed c.in_ok-upper.upper.left.items) c.in_ok-second.ensures.filled (λ many. (c.in_ok-second.ensures.none many).0)
    (filled_by_test first_range.least c.args.rate c.args.set.now c.args.pdos c.flag_kept.new.out top c.in_ok-upper.upper.placed.items (is_listed c.in_ok-upper.upper.left.items) c.flag_kept.ensures.size
    (λ k h. rw c.deref.ensures.value at (c.flag_kept.ensures.each k h)) c.in_ok-upper.ensures.filled)
    c.requires.fails
    (frames_by_flags c.args.rate c.args.set.now c.args.pdos c.flag_kept.new.out top c.flag_kept.ensures.size (λ k h. rw c.deref.ensures.value at (c.flag_kept.ensures.each k h)) c.in_default.ensures)

pub returns-clause-trials : goal.returns-clause-trials
returns-clause-trials c =
    let size = number_most c.args.pdos (is_flagged c.flag_kept.new.out) in
    let more = trials_of_some c.args.pdos _ _ _ size (rw c.flag_kept.ensures.size at c.fill_range.ensures.trials) in
    omega (arith, c.fill_second.ensures.trials, more)

pub returns-clause-busy_most : goal.returns-clause-busy_most
returns-clause-busy_most c =
    omega (arith, number_most c.args.pdos (is_flagged c.flag_kept.new.out), (rw c.flag_kept.ensures.size at c.fill_range.ensures.busy_most), c.fill_second.ensures.busy_most)
