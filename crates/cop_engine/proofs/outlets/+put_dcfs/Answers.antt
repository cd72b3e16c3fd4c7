use Rattle.std.proofs.Common.{rules}
use Rattle.cop_engine.proofs.OutletLemmas.{cut_after_head}
use Rattle.cop_engine.proofs.outlets.+put_dcfs.Goals as goal

pub returns-in-Err-clause-cut : goal.returns-in-Err-clause-cut
returns-in-Err-clause-cut g t c =
    let put : g.O.Outlet.puts c.args.outlet.now c.file-item.result c.put.new.self = rw (c.name.ensures, c.text.ensures) at (c.put.ensures.taken (search rules)) in
    cut_after_head g.O.Outlet.puts g.O.Outlet.cuts g.O.Outlet.has_failed c.args.outlet.now c.put.new.self c.put_dcfs.new.outlet
    c.args.files.now c.file-item.result c.in-Err.put c.in-len1-up.len_at_least c.file-item.is put c.in-Err.ensures.cut
