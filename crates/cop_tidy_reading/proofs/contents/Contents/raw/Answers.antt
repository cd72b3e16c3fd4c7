use Rattle.std.proofs.Common.{map, sym, ap, ◌∙◌}
use Rattle.cop_tidy_reading.specs.Seen.{said_of}
use Rattle.cop_tidy_reading.specs.Sections.{raw_by}
use Rattle.cop_tidy_reading.proofs.PartLemmas.{first_pair}
use Rattle.cop_tidy_reading.proofs.contents.Contents.raw.Goals as goal

pub returns : goal.returns
returns c =
    c.raw_in.ensures ∙ ap raw_by (sym (first_pair c.args.key c.args.section.number (map said_of c.part.result.now) c.args.self.now c.part.ensures))
