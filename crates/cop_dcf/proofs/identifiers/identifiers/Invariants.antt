use Rattle.std.proofs.Common.{◌≡◌, ◌<◌, ◌+◌, ℕ, None, get_or, length, take}
use Rattle.cop_dcf.specs.Identifiers.{id_at}
use Rattle.cop_dcf.proofs.identifiers.identifiers.Given as goal

abbrev pub invariant-loop-pdo : goal.invariant-loop-pdo
invariant-loop-pdo l = record {
  size : length l.places ≡ 1536;
  each : (place : ℕ) → place < 1536 → get_or l.places place None ≡ id_at (take l.pdo l.rows) (take l.pdo l.ids) l.node (0x1400 + place);
}
