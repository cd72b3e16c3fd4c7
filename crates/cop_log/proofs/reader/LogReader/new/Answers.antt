use Rattle.std.proofs.Common.{◌∙◌, [], length, sym, ap, arith}
use Rattle.cop_lines.specs.Reader.{begun}
use Rattle.cop_lines.specs.Texts.{lines_behind}
use Rattle.cop_log.specs.Reading.{log_from, name_of}
use Rattle.cop_log.proofs.ReadLemmas.{same_lines}
use Rattle.cop_log.proofs.reader.LogReader.new.Goals as goal

pub returns : goal.returns
returns c =
    let channel = name_of c.args.channel in
    let none = ap length c.new.ensures in
    record {
      goes_on = λ more.
          same_lines (begun c.args.are_distances) channel more
          ∙ (ap (λ r. log_from 1 r channel [] (lines_behind [] more)) (sym c.new-2.ensures)
          ∙ ap (λ kept. log_from 1 c.new-2.result channel [] (lines_behind kept more)) (sym c.new.ensures));
      few = omega (arith, none);
      short = omega (arith, none);
      each = omega arith;
    }
