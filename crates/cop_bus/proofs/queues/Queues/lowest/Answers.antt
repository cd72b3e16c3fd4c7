use Rattle.std.proofs.Common.{rules, ◌≡◌, ◌<◌, ◌∙◌, arith, subst, sym, ap, length}
use Rattle.std.specs.Prelude.{Some, slice_get}
use Rattle.std.proofs.lemmas.Option.{slice_get_within, slice_get-get_or}
use Rattle.cop_bus.specs.Queues.{IsLowest, IsLowestOf}
use Rattle.cop_bus.proofs.QueueLemmas.{none-lowest, some-lowest, held-found}
use Rattle.cop_bus.proofs.queues.Queues.lowest.Goals as goal

pub returns-in_err-id : goal.returns-in_err-id
returns-in_err-id c =
    subst (λ rings. IsLowestOf rings c.from_residual.result) c.self.view_is
    (subst (IsLowestOf c.self.inside.rings.items) (sym c.from_residual.ensures) (none-lowest c.self.inside.rings.items c.self.inside.places.items c.self.inside.waiting c.self.invariant c.in_err-id.ensures))

pub index-requires : goal.index-requires
index-requires c =
    let w = held-found c.self.inside.rings.items c.self.inside.places.items c.self.inside.waiting c.self.invariant c.in_ok-id.id (c.in_ok-id.ensures).0 in
    let within : c.in_ok-id.id < length c.self.inside.places.items = slice_get_within c.self.inside.places.items c.in_ok-id.id w.0 w.1 in
    search rules

pub overflow_cast-result : goal.overflow_cast-result
overflow_cast-result c =
    let small : c.in_ok-id.id < 65536 = (held-found c.self.inside.rings.items c.self.inside.places.items c.self.inside.waiting c.self.invariant c.in_ok-id.id (c.in_ok-id.ensures).0).2 in
    search rules

pub returns : goal.returns
returns c =
    let w = held-found c.self.inside.rings.items c.self.inside.places.items c.self.inside.waiting c.self.invariant c.in_ok-id.id (c.in_ok-id.ensures).0 in
    let within : c.in_ok-id.id < length c.self.inside.places.items = slice_get_within c.self.inside.places.items c.in_ok-id.id w.0 w.1 in
    subst (λ rings. IsLowest rings (record { place = c.index.result.now; id = c.in_ok-id.id })) c.self.view_is
    (some-lowest c.self.inside.rings.items c.self.inside.places.items c.self.inside.waiting c.self.invariant c.in_ok-id.id c.index.result.now c.in_ok-id.ensures
    (slice_get-get_or c.self.inside.places.items c.in_ok-id.id c.index.result.now within ∙ ap Some (sym c.index.ensures)))
