use Rattle.std.proofs.Common.{sym, ap, ◌∙◌}
use Rattle.cop_table.specs.Plain.{is_comma, pieces}
use Rattle.cop_table.specs.Lines.{first_line}
use Rattle.cop_watch.proofs.TextLemmas.{whole-taken, whole-first, part-taken, line-taken, all-first}
use Rattle.cop_watch.proofs.reading.TraceWatch.feed_fields.Goals as goal

pub keep-requires : goal.keep-requires
keep-requires c = all-first c.args.rest.now c.in-Ok.len c.in-Ok.ensures.len c.if-len-rest.true

pub returns-then-keep : goal.returns-then-keep
returns-then-keep c = part-taken c.args.rest.now c.args.self.now.line.items _ _ _ _ _ c.requires (c.keep.ensures c.if-keep.true)

pub take_line-requires-clause-row : goal.take_line-requires-clause-row
take_line-requires-clause-row c = c.in-Ok.ensures.fields ∙ ap (pieces is_comma) (sym (whole-taken c.args.rest.now c.in-Ok.len c.in-Ok.ensures.len))

pub take_line-requires-clause-whole : goal.take_line-requires-clause-whole
take_line-requires-clause-whole c =
    let first = whole-taken c.args.rest.now c.in-Ok.len c.in-Ok.ensures.len in
    ap first_line first ∙ whole-first c.args.rest.now ∙ sym first

pub returns-then-take_line : goal.returns-then-take_line
returns-then-take_line c = line-taken c.args.rest.now c.args.self.now.line.items c.in-Ok.len _ _ _ _ _ c.in-Ok.ensures.len c.in-Ok.ensures.within c.if-len-rest.false (c.take_line.ensures c.if-take_line.true)
