use Rattle.std.proofs.Common.{Some}
use Rattle.std.proofs.lemmas.Slice.Eq.{strip_prefix_is}
use Rattle.std.proofs.lemmas.Bool.Decides.{Decides-eqb}
use Rattle.cop_cert.proofs.plain.behind_start.Goals as goal

pub returns : goal.returns
returns c = strip_prefix_is Decides-eqb c.args.text.now c.args.start.now (Some c.in_ok-left.left) c.in_ok-left.ensures.cases
