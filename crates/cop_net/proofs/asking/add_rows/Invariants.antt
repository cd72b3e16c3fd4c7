use Rattle.std.proofs.Common.{◌≡◌, [], drop}
use Rattle.cop_dict.specs.Dict.{initial}
use Rattle.cop_net.specs.Steps.{folded}
use Rattle.cop_net.specs.Asking.{with_row}
use Rattle.cop_net.proofs.asking.add_rows.Given as goal

abbrev pub invariant-loop-row : goal.invariant-loop-row
invariant-loop-row l =
    (initial l.dictionary ≡ initial l.initial.dictionary)
    × (folded (with_row l.node) (record { dictionary = l.dictionary; settings = l.settings }) (drop l.row-index l.rows)
    ≡ folded (with_row l.node) (record { dictionary = l.initial.dictionary; settings = [] }) l.rows)
