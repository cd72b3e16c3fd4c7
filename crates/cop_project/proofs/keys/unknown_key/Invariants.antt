use Rattle.std.proofs.Common.{◌≡◌}
use Rattle.toml.specs.View.{members_view}
use Rattle.cop_project.specs.Project.{unknown_key}
use Rattle.cop_project.proofs.keys.unknown_key.Given as goal

abbrev pub invariant-members : goal.invariant-members
invariant-members l =
    (goal.iterator-members).can_next l.key-iterator × (goal.iterator-members).is_finite l.key-iterator
    × (unknown_key (members_view l.key-iterator) ≡ unknown_key (members_view l.table.entries))
