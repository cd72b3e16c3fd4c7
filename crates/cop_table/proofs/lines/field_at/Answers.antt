use Rattle.std.proofs.Common.{◌≡◌, ◌-◌, arith, sym, refl}
use Rattle.cop_table.proofs.LineLemmas.{found, none_found}
use Rattle.cop_table.proofs.lines.field_at.Goals as goal

pub returns-then-place-ends : goal.returns-then-place-ends
returns-then-place-ends c = none_found c.args.line.now c.args.ends.now c.args.place c.requires c.if-place-ends.true

pub start_of-requires-clause-fits : goal.start_of-requires-clause-fits
start_of-requires-clause-fits c =
    let here = found c.args.line.now c.args.ends.now c.args.place _ c.requires c.if-place-ends.false refl in
    omega (arith, here.rising, c.type_inv.ends c.args.place)

pub slice_bounds-result-count : goal.slice_bounds-result-count
slice_bounds-result-count c = (found c.args.line.now c.args.ends.now c.args.place c.start_of.result c.requires c.if-place-ends.false c.start_of.ensures).rising

pub slice_bounds-result-start : goal.slice_bounds-result-start
slice_bounds-result-start c =
    let here = found c.args.line.now c.args.ends.now c.args.place c.start_of.result c.requires c.if-place-ends.false c.start_of.ensures in
    omega (arith, here.rising, here.high)

pub slice_bounds-result-end-2 : goal.slice_bounds-result-end-2
slice_bounds-result-end-2 c =
    let here = found c.args.line.now c.args.ends.now c.args.place c.start_of.result c.requires c.if-place-ends.false c.start_of.ensures in
    omega (arith, here.rising, here.high)

pub returns : goal.returns
returns c =
    let here = found c.args.line.now c.args.ends.now c.args.place c.start_of.result c.requires c.if-place-ends.false c.start_of.ensures in
    let zero : c.start_of.result - 0 ≡ c.start_of.result = omega arith in
    sym (rw zero at here.is)
