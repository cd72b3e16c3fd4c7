use Rattle.std.proofs.Common.{◌≡◌, true, take}
use Rattle.std.specs.List.{list_all}
use Rattle.cop_cert.specs.Format.{is_by_places}
use Rattle.cop_cert.proofs.writing.version_number.Given as goal

abbrev pub invariant-loop-refusal : goal.invariant-loop-refusal
invariant-loop-refusal l = list_all (λ r. is_by_places r.cause) (take l.refusal-index l.refusals) ≡ true
