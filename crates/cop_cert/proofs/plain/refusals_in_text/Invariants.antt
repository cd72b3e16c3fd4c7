use Rattle.std.proofs.Common.{◌≡◌, ◌+◌, ◌<◌, ◌^◌, length}
use Rattle.cop_cert.specs.Reading.{refusals_in}
use Rattle.cop_cert.specs.Plain.{rows_of_text, leads}
use Rattle.cop_cert.proofs.plain.refusals_in_text.Given as goal

abbrev pub invariant-loop-first : goal.invariant-loop-first
invariant-loop-first l = record {
  within : l.place + length l.rest < 2 ^ 64;
  same : leads l.version l.place l.draft (rows_of_text l.rest) ≡ refusals_in l.version (rows_of_text l.text);
}

abbrev pub decreases-loop-first : goal.decreases-loop-first
decreases-loop-first l = length l.rest
