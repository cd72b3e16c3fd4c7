use Rattle.std.proofs.Common.{subst, arith}
use Rattle.cop_lines.specs.Texts.{IsWhy}
use Rattle.cop_log.proofs.ReadLemmas.{long_line}
use Rattle.cop_log.proofs.reader.LogReader.cut.Goals as goal

pub returns-in-Err-Long-clause-cut : goal.returns-in-Err-Long-clause-cut
returns-in-Err-Long-clause-cut c =
    let reader = c.args.self.now in
    let piece = c.args.piece.now in
    long_line reader piece c.saturating_add.result (λ less. omega (arith, c.saturating_add.ensures, less))
    (subst (IsWhy reader.cutter piece) c.in-Err-Long.field-0-is c.in-Err-Long.ensures.cut.1)
