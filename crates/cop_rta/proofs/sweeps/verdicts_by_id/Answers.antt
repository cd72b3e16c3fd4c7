use Rattle.std.proofs.Common.{◌≡◌, length, true, ◌∙◌, sym, set, ap, List, Bool, arith, rules, replicate, false, length-append}
use Rattle.std.proofs.lemmas.List.{length-set, with_items_is}
use Rattle.cop_rta.specs.declared.verdicts.Verdict.TheVariants.{Long}
use Rattle.cop_rta.proofs.SweepLemmas.{missing, swept_past, swept_one, not_yet, swept_none}
use Rattle.cop_rta.proofs.NextStarts.{row_more, no_row}
use Rattle.cop_rta.proofs.PaceLemmas.{pace_with, pace_small}
use Rattle.cop_rta.proofs.sweeps.verdicts_by_id.Goals as goal
use Rattle.cop_rta.proofs.sweeps.verdicts_by_id.Goals.{in-Some+in_ok-push, in_default}

pub judge_next-swept-requires-clause-unflagged : goal.judge_next-swept-requires-clause-unflagged
judge_next-swept-requires-clause-unflagged c =
    rw c.deref_mut.ensures.value (not_yet c.args.rate c.args.set.now c.loop-id.above.items c.loop-id.verdicts.items c.loop-id.id c.loop-id.invariant.swept (rw c.streams-count.ensures.items at c.streams-count.ensures.distinct) c.in-Some.index (rw c.in-Some.is at (sym c.place_of.ensures.place)) c.in-Some.ensures.within)

pub loop-id-preserved : goal.loop-id-preserved
loop-id-preserved c = elim c.match-place_of.branch [
  | in-Some+in_ok-push w ↦
      let old : w.deref_mut.result.now ≡ c.loop-id.above.items = w.deref_mut.ensures.value in
      let above : c.match-place_of.above.items ≡ set c.loop-id.above.items w.in-Some.index true =
      rw w.above-is (with_items_is c.loop-id.above w.judge_next-swept.new.above (ap length w.judge_next-swept.ensures.above ∙ length-set w.deref_mut.result.now w.in-Some.index true ∙ w.deref_mut.ensures.len))
      ∙ w.judge_next-swept.ensures.above
      ∙ ap (λ (flags : List Bool). set flags w.in-Some.index true) old in
      rw (w.verdicts-is, w.row-is, w.last-is, above) (record {
        swept = swept_one c.args.rate c.args.set.now c.loop-id.above.items c.loop-id.verdicts.items c.loop-id.id c.loop-id.invariant.swept (rw c.streams-count.ensures.items at c.streams-count.ensures.distinct) w.in-Some.index (rw w.in-Some.is at (sym c.place_of.ensures.place)) w.in-Some.ensures.within w.judge_next-swept.result.verdict (rw (old, c.clock-clock.ensures.rate, c.new.ensures) at w.judge_next-swept.ensures.judged);
        row = rw w.in_ok-push.ensures.items (row_more c.args.set.now c.clock-clock.result.ahead c.loop-id.above.items c.loop-id.row.items w.in-Some.index w.after.result c.loop-id.invariant.swept.size w.in-Some.ensures.within
            (pace_with c.clock-clock.result.ahead c.clock-clock.result.ahead_most c.args.set.now w.paces.result.now w.paces.ensures.paces w.in-Some.index w.index-paces-index.result w.after.result w.in-Some.ensures.within w.index-paces-index.is w.after.ensures)
            (not_yet c.args.rate c.args.set.now c.loop-id.above.items c.loop-id.verdicts.items c.loop-id.id c.loop-id.invariant.swept (rw c.streams-count.ensures.items at c.streams-count.ensures.distinct) w.in-Some.index (rw w.in-Some.is at (sym c.place_of.ensures.place)) w.in-Some.ensures.within)
            c.loop-id.invariant.row);
        few = rw w.in_ok-push.ensures.items (simp length-append (omega (arith, c.loop-id.invariant.few)));
        last = rw (old, c.clock-clock.ensures.rate, c.new.ensures) at w.judge_next-swept.ensures.last;
      })
  | in_default w ↦ rw (w.above-is, w.verdicts-is, w.row-is, w.last-is) (record {
    swept = swept_past c.args.rate c.args.set.now c.loop-id.above.items c.loop-id.verdicts.items c.loop-id.id c.loop-id.invariant.swept (missing _ (λ k here. w.in_default.not-Some k (c.place_of.ensures.place ∙ here)));
    row = c.loop-id.invariant.row;
    few = omega (arith, c.loop-id.invariant.few);
    last = c.loop-id.invariant.last;
  })
]

pub loop-id-init : goal.loop-id-init
loop-id-init c =
    let flags : c.in_ok-above.above.items ≡ replicate (length c.args.set.now) false = rw c.streams-count.ensures.items at (c.in_ok-above.ensures.items_if_clones_equal (search rules)) in
    let verdicts : c.in_ok-verdicts.verdicts.items ≡ replicate (length c.args.set.now) Long = rw c.streams-count.ensures.items at (c.in_ok-verdicts.ensures.items_if_clones_equal (search rules)) in
    rw (flags, verdicts, c.new-row.ensures.items) (record { swept = swept_none c.args.rate c.args.set.now; row = no_row c.args.set.now c.clock-clock.result.ahead (length c.args.set.now); few = omega arith; last = tt })

pub judge_next-swept-requires-clause-row : goal.judge_next-swept-requires-clause-row
judge_next-swept-requires-clause-row c =
    rw (c.deref.ensures.value, c.in_ok-push.ensures.items, c.deref_mut.ensures.value) (row_more c.args.set.now c.clock-clock.result.ahead c.loop-id.above.items c.loop-id.row.items c.in-Some.index c.after.result c.loop-id.invariant.swept.size c.in-Some.ensures.within
    (pace_with c.clock-clock.result.ahead c.clock-clock.result.ahead_most c.args.set.now c.paces.result.now c.paces.ensures.paces c.in-Some.index c.index-paces-index.result c.after.result c.in-Some.ensures.within c.index-paces-index.is c.after.ensures)
    (not_yet c.args.rate c.args.set.now c.loop-id.above.items c.loop-id.verdicts.items c.loop-id.id c.loop-id.invariant.swept (rw c.streams-count.ensures.items at c.streams-count.ensures.distinct) c.in-Some.index (rw c.in-Some.is at (sym c.place_of.ensures.place)) c.in-Some.ensures.within)
    c.loop-id.invariant.row)

-- written here so that a body that breaks it is refused at once
pub returns-clause-judged : goal.returns-clause-judged
returns-clause-judged c = search rules

pub after-requires-clause-own : goal.after-requires-clause-own
after-requires-clause-own c = pace_small c.args.set.now c.paces.result.now c.paces.ensures.paces c.in-Some.index c.index-paces-index.result c.in-Some.ensures.within c.index-paces-index.is
