use Rattle.std.proofs.Common.{◌≡◌, ◌<◌, ◌≤◌, ◌-◌, take, get_or}
use Rattle.cop_project.specs.Words.{folder_of}
use Rattle.cop_project.proofs.expanding.folder_len.Given as goal

abbrev pub invariant-loop-i : goal.invariant-loop-i
invariant-loop-i l =
    record {
      bounded : l.len ≤ l.i;
      value : take l.len l.named ≡ folder_of (take l.i l.named);
      slash : 0 < l.len → get_or l.named (l.len - 1) 0 ≡ 47;
    }
