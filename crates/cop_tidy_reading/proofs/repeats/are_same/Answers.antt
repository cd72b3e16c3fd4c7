use Rattle.std.proofs.Common.{◌+◌, map, drop, sym, ap, ◌∙◌}
use Rattle.cop_tidy_reading.specs.Seen.{said_of}
use Rattle.cop_tidy_reading.specs.Repeats.{pairs_among, are_same}
use Rattle.cop_tidy_reading.proofs.LoopLemmas.{next_of, none_of}
use Rattle.cop_tidy_reading.proofs.RepeatLemmas.{goes_on, differs, ends}
use Rattle.cop_tidy_reading.proofs.repeats.are_same.Goals as goal

pub returns-then-not-agrees : goal.returns-then-not-agrees
returns-then-not-agrees c =
    let keys = pairs_among (map said_of c.loop-item.rest.now) in
    let next = next_of said_of c.args.a.now c.loop-item.item-index _ c.loop-item-test.true in
    sym (differs _ (map said_of (drop (c.loop-item.item-index + 1) c.args.a.now)) keys (sym c.agrees.ensures ∙ c.if-not-agrees.true))
    ∙ ap (λ xs. are_same (pairs_among xs) keys) (sym next) ∙ c.loop-item.invariant

pub loop-item-preserved : goal.loop-item-preserved
loop-item-preserved c =
    let keys = pairs_among (map said_of c.loop-item.rest.now) in
    let more = pairs_among (map said_of (drop (c.loop-item.item-index + 1) c.args.a.now)) in
    let next = next_of said_of c.args.a.now c.loop-item.item-index _ c.loop-item-test.true in
    ap (λ rest. are_same more rest) c.behind-rest.ensures
    ∙ sym (goes_on _ (map said_of (drop (c.loop-item.item-index + 1) c.args.a.now)) keys (sym c.agrees.ensures ∙ c.if-not-agrees.false))
    ∙ ap (λ xs. are_same (pairs_among xs) keys) (sym next) ∙ c.loop-item.invariant

pub returns : goal.returns
returns c =
    let keys = pairs_among (map said_of c.loop-item.rest.now) in
    let none = none_of said_of c.args.a.now c.loop-item.item-index c.loop-item-test.false in
    ends c.next_pair.result c.is_none.result (map said_of c.loop-item.rest.now) c.is_none.ensures c.next_pair.ensures
    ∙ ap (λ xs. are_same (pairs_among xs) keys) (sym none) ∙ c.loop-item.invariant
