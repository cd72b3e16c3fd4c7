use Rattle.std.proofs.Common.{◌≡◌, ◌<◌, ◌+◌, ◌&&◌, ℕ, true, Some, is_some, slice_get, Contains}
use Rattle.std.specs.List.{All}
use Rattle.cop_eds.specs.declared.line.Line.{Line}
use Rattle.cop_eds.specs.declared.entry.Entry.{Entry}
use Rattle.cop_eds.specs.Lines.{is_kind}
use Rattle.cop_eds.specs.Index.{line_key, IsEntry}
use Rattle.cop_eds.proofs.index.push_entries.Given as goal

abbrev pub invariant-loop-place : goal.invariant-loop-place
invariant-loop-place l = record {
  sound : All (IsEntry l.source l.lines) l.entries.items;
  complete : (place : ℕ) (line : Line) → place < l.place → slice_get l.lines place ≡ Some line
      → (is_kind line.kind l.kind && is_some (line_key l.source line)) ≡ true
      → (entry : Entry) × Contains l.entries.items entry × (entry.line ≡ place + 1);
  kept : (entry : Entry) → Contains l.initial.entries.items entry → Contains l.entries.items entry;
}
