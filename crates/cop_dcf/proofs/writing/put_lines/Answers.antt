use Rattle.std.proofs.Common.{◌++◌}
use Rattle.cop_eds.specs.Rows.{rows_of}
use Rattle.cop_eds.specs.Edits.{newline_of}
use Rattle.cop_dcf.specs.Pieces.{pieces_of}
use Rattle.cop_dcf.specs.Runs.{run_of}
use Rattle.cop_dcf.proofs.RunLemmas.{line_behind, line_put}
use Rattle.cop_dcf.proofs.writing.put_lines.Goals as goal

pub loop-at-preserved : goal.loop-at-preserved
loop-at-preserved c =
    let eds = c.args.eds.now in
    let newline = newline_of (rows_of eds) in
    let table = c.args.table.now in
    let lines = c.lines-lines.result.now in
    let left = c.in_ok-run.run' in
    record {
      run = c.in_ok-run.ensures.run;
      behind = λ next e. line_behind eds lines c.loop-at.at _ left next c.lines-lines.ensures.lines c.loop-at-test.true c.in_ok-run.ensures.to e;
      done = line_put eds newline table lines c.loop-at.at _ (run_of eds c.loop-at.run) (run_of eds left) c.loop-at.text.items c.put_behind.new.text.items
          (c.args.text.now.items ++ pieces_of eds newline table lines) c.loop-at-test.true _ c.keys_in-keys.ensures c.in_ok-run.ensures.put c.loop-at.invariant.done;
    }
