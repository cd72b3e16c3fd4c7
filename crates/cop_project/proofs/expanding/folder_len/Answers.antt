use Rattle.std.proofs.Common.{arith}
use Rattle.cop_project.proofs.Folders.{grown_slash, grown_other, slash_at}
use Rattle.cop_project.proofs.expanding.folder_len.Goals as goal
use Rattle.cop_project.proofs.expanding.folder_len.Goals.{then-byte-eq47, else-byte-eq47}

pub loop-i-preserved : goal.loop-i-preserved
loop-i-preserved c =
    elim c.if-byte-eq47.branch [
      | then-byte-eq47 w ↦ record {
        bounded = omega (arith, w.len-is);
        value = grown_slash c.args.named.now c.loop-i.i c.if-byte-eq47.len c.loop-i-test.true w.len-is w.if-byte-eq47.true;
        slash = λ h. slash_at c.args.named.now c.loop-i.i c.if-byte-eq47.len w.len-is w.if-byte-eq47.true;
      }
      | else-byte-eq47 w ↦ record {
        bounded = omega (arith, w.len-is);
        value = grown_other c.args.named.now c.loop-i.i c.loop-i.len c.if-byte-eq47.len c.loop-i-test.true w.len-is w.if-byte-eq47.false c.loop-i.invariant.value;
        slash = rw w.len-is c.loop-i.invariant.slash;
      }
    ]
