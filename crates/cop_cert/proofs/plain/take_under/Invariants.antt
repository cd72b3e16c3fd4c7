use Rattle.std.proofs.Common.{◌≡◌, ◌+◌, ◌≤◌, length}
use Rattle.cop_cert.specs.declared.entries.Version.{Version}
use Rattle.cop_cert.specs.Plain.{rows_of_text, leads, IsBefore}
use Rattle.cop_cert.proofs.plain.take_under.Given as goal

abbrev pub invariant-loop-value : goal.invariant-loop-value
invariant-loop-value l = record {
  within : l.place + length l.rest ≤ l.fn.place + length l.text;
  shorter : length l.rest ≤ length l.text;
  same : (version : Version) → IsBefore version l.head l.entry → leads version l.fn.place l.fn.draft (rows_of_text l.text) ≡ leads version l.place l.draft (rows_of_text l.rest);
}

abbrev pub decreases-loop-value : goal.decreases-loop-value
decreases-loop-value l = length l.rest
