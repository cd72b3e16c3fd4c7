use Rattle.std.proofs.Common.{rules, ◌+◌, refl, codes}
use Rattle.cop_engine.proofs.OutletLemmas.{cut_after_one}
use Rattle.cop_engine.proofs.outlets.put_refusals.Goals as goal

pub returns-in-Ok-clause-all : goal.returns-in-Ok-clause-all
returns-in-Ok-clause-all g c = (c.put.new.self, c.put.ensures.taken (search rules), search rules)

pub returns-in-Err-clause-cut : goal.returns-in-Err-clause-cut
returns-in-Err-clause-cut g c =
    cut_after_one g.O.Outlet.puts g.O.Outlet.cuts g.O.Outlet.has_failed c.args.outlet.now c.put.new.self c.put_dcfs.new.outlet
    (record { name = codes "refusals.csv"; text = c.args.refusals.now })
    c.args.dcf.now c.in-Err.put (c.in-Err.put + 1) refl (c.put.ensures.taken (search rules)) (search rules)
