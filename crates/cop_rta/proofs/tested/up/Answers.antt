use Rattle.std.proofs.Common.{◌∙◌, ◌≤◌, ◌<◌, ℕ, ap, subst, sym}
use Rattle.cop_rta.specs.Entries.{Entry, entry_of}
use Rattle.cop_rta.specs.UpLemmas.{up_id, up_id-small, up_id-high}
use Rattle.cop_rta.proofs.StreamLemmas.{stream_same}
use Rattle.cop_rta.proofs.tested.up.Goals as goal

pub with_id-requires-clause-range : goal.with_id-requires-clause-range
with_id-requires-clause-range c = subst (λ (n : ℕ). n < 2048) (sym c.up_id.ensures) (up_id-small c.args.stream.now.id c.args.stream.now.id_in_range)

pub with_id-requires-clause-synchronous : goal.with_id-requires-clause-synchronous
with_id-requires-clause-synchronous c l = subst (λ (n : ℕ). 385 ≤ n) (sym c.up_id.ensures) (up_id-high c.args.stream.now.id (c.args.stream.now.synchronous_id l))

pub returns : goal.returns
returns c = stream_same _ _ (c.with_id.ensures ∙ ap (λ (n : ℕ). record (entry_of c.args.stream.now) { id = n }) c.up_id.ensures)
