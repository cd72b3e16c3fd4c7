use Rattle.std.proofs.Common.{length, [], arith}
use Rattle.std.specs.Prelude.{None, Some}
use Rattle.cop_lines.specs.Texts.{GoesOn, Ends}
use Rattle.cop_log.specs.Reading.{TakesLine}
use Rattle.cop_log.proofs.ReadLemmas.{IsSame, piece_kept, line_read, line_wrong, reads_on, refused_on, ends_shorter}
use Rattle.cop_log.proofs.reader.LogReader.next.Goals as goal

pub returns-in-Ok-None : goal.returns-in-Ok-None
returns-in-Ok-None c =
    let before = c.lines.self in
    let rest = c.lines.rest.now in
    let after = c.cut.new.self in
    let same : IsSame before after = record { line = c.cut.ensures.same.0; reader = c.cut.ensures.same.1; channel = c.cut.ensures.same.2 } in
    let kept : GoesOn before.cutter rest after.cutter = rw c.in-Ok-None.field-0-is at c.in-Ok-None.ensures.cut in
    reads_on c.args.self.now before after c.args.piece.now rest [] None c.lines.invariant.reads (piece_kept before after rest kept same)

pub returns-in-Err : goal.returns-in-Err
returns-in-Err c = refused_on c.args.self.now c.lines.self c.args.piece.now c.lines.rest.now c.in-Err.fault c.lines.invariant.reads c.in-Err.ensures.cut

pub returns-in-Ok-Some-take_line : goal.returns-in-Ok-Some-take_line
returns-in-Ok-Some-take_line c =
    let before = c.lines.self in
    let rest = c.lines.rest.now in
    let middle = c.cut.new.self in
    let left = c.in-Ok-Some.left.now in
    let same : IsSame before middle = record { line = c.cut.ensures.same.0; reader = c.cut.ensures.same.1; channel = c.cut.ensures.same.2 } in
    let ends : Ends before.cutter rest middle.cutter left = rw c.in-Ok-Some.field-0-is at c.in-Ok-Some.ensures.cut in
    let takes : TakesLine middle c.take_line.new.self (Some c.in-Ok-Some-take_line.message) = rw c.in-Ok-Some-take_line.field-0-is at c.in-Ok-Some-take_line.ensures in
    let read = line_read before middle c.take_line.new.self rest left (Some c.in-Ok-Some-take_line.message) ends same takes in (
      reads_on c.args.self.now before c.take_line.new.self c.args.piece.now rest left (Some c.in-Ok-Some-take_line.message) c.lines.invariant.reads read,
      ends_shorter before middle rest left (length c.args.piece.now) ends c.lines.invariant.shorter,
    )

pub returns-in-Err-take_line : goal.returns-in-Err-take_line
returns-in-Err-take_line c =
    let before = c.lines.self in
    let rest = c.lines.rest.now in
    let middle = c.cut.new.self in
    let left = c.in-Ok-Some.left.now in
    let same : IsSame before middle = record { line = c.cut.ensures.same.0; reader = c.cut.ensures.same.1; channel = c.cut.ensures.same.2 } in
    let ends : Ends before.cutter rest middle.cutter left = rw c.in-Ok-Some.field-0-is at c.in-Ok-Some.ensures.cut in
    refused_on c.args.self.now before c.args.piece.now rest c.in-Err-take_line.fault c.lines.invariant.reads
    (line_wrong before middle rest left c.in-Err-take_line.fault ends same c.in-Err-take_line.ensures)

pub lines-preserved : goal.lines-preserved
lines-preserved c =
    let before = c.lines.self in
    let rest = c.lines.rest.now in
    let middle = c.cut.new.self in
    let left = c.in-Ok-Some.left.now in
    let same : IsSame before middle = record { line = c.cut.ensures.same.0; reader = c.cut.ensures.same.1; channel = c.cut.ensures.same.2 } in
    let ends : Ends before.cutter rest middle.cutter left = rw c.in-Ok-Some.field-0-is at c.in-Ok-Some.ensures.cut in
    let takes : TakesLine middle c.take_line.new.self None = rw c.in-Ok-None-take_line.field-0-is at c.in-Ok-None-take_line.ensures in
    let shorter = ends_shorter before middle rest left (length c.args.piece.now) ends c.lines.invariant.shorter in
    record {
      reads = reads_on c.args.self.now before c.take_line.new.self c.args.piece.now rest left None c.lines.invariant.reads (line_read before middle c.take_line.new.self rest left None ends same takes);
      shorter = omega (arith, shorter);
    }
