use Rattle.std.proofs.Common.{ap, length, map}
use Rattle.std.proofs.lemmas.Result.{err_from_is_err_and}
use Rattle.cop_rta.specs.Entries.{entry_of}
use Rattle.cop_net.specs.Faults.{refusal}
use Rattle.cop_net.specs.Pdos.{pdo_added}
use Rattle.cop_net.proofs.FoldLemmas.{goes_on_at, fails_at, ends}
use Rattle.cop_net.proofs.PdoLemmas.{starts, one_more, no_pdos, pdos_after}
use Rattle.cop_net.proofs.pdos.find_pdos.Goals as goal

pub loop-row-init : goal.loop-row-init
loop-row-init c = record {
  pdos = no_pdos _ (ap (map entry_of) c.new.ensures);
  count = ap (λ s. length (map entry_of s)) c.new.ensures;
  same = starts c.args.devices.now.devices c.args.signals c.args.rows.now _ (ap (map entry_of) c.new.ensures) c.new-2.ensures;
}

pub returns-in_err-add : goal.returns-in_err-add
returns-in_err-add c =
    let p = err_from_is_err_and c.from_residual.result c.from_residual.ensures.1 in
    rw (p.1, p.2)
    (fails_at (pdo_added c.args.devices.now.devices c.args.signals) c.args.rows.now c.loop-row.row-index c.row-item.result c.loop-row.found (refusal c.in_err-add.field-0.0) _
    c.loop-row-test.true c.row-item.is c.loop-row.invariant.same c.in_err-add.ensures.exact)

pub loop-row-preserved : goal.loop-row-preserved
loop-row-preserved c = record {
  pdos = pdos_after c.args.devices.now.devices c.args.signals c.loop-row.found c.add.new.self c.row-item.result c.in_ok-add.ensures.exact c.loop-row.invariant.pdos;
  count = one_more c.args.devices.now.devices c.args.signals c.loop-row.found c.add.new.self c.row-item.result c.loop-row.row-index c.in_ok-add.ensures.exact c.loop-row.invariant.count;
  same = goes_on_at (pdo_added c.args.devices.now.devices c.args.signals) c.args.rows.now c.loop-row.row-index c.row-item.result c.loop-row.found c.add.new.self _
      c.loop-row-test.true c.row-item.is c.in_ok-add.ensures.exact c.loop-row.invariant.same;
}

pub returns : goal.returns
returns c =
    ends (pdo_added c.args.devices.now.devices c.args.signals) c.args.rows.now c.loop-row.row-index c.loop-row.found _ c.loop-row-test.false c.loop-row.invariant.same
