use Rattle.std.proofs.Common.{arith}
use Rattle.std.proofs.lemmas.List.{drop_all}
use Rattle.cop_bus.proofs.last_line.LastLine.clear.Goals as goal

pub returns : goal.returns
returns c = drop_all 112 c.args.self.now.block (omega arith)
