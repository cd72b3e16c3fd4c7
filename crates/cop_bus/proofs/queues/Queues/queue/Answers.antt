use Rattle.std.proofs.Common.{rules, ◌≡◌, ◌<◌, ◌/◌, ◌∷◌, ◌++◌, [], ◌∙◌, subst, sym, ap, ap₂, List, ℕ, length, true}
use Rattle.std.specs.Prelude.{Some, slice_get, slice_set}
use Rattle.std.proofs.lemmas.List.{get_or-set_same}
use Rattle.std.proofs.lemmas.Option.{slice_get-get_or}
use Rattle.cop_bus.specs.Rings.{RingValue}
use Rattle.cop_bus.specs.IdSets.{holds}
use Rattle.cop_bus.proofs.AtPlace.{some-one}
use Rattle.cop_bus.proofs.QueueLemmas.{queued-again, more-waits}
use Rattle.cop_bus.proofs.queues.Queues.queue.Goals as goal

pub insert-requires : goal.insert-requires
insert-requires c =
    let rings = c.self.inside.rings.items in
    let r = c.index_mut.result.now in
    let within : c.args.place < length rings = search rules in
    let here : slice_get rings c.args.place ≡ Some r = slice_get-get_or rings c.args.place r within ∙ ap Some (sym c.index_mut.ensures.value) in
    let its : c.id.result ≡ r.id = c.id.ensures ∙ ap (λ (v : RingValue). v.id) (c.index.ensures ∙ get_or-set_same rings c.args.place c.queue.new.self c.index.result.now within ∙ c.in_ok-queue.ensures.ok) in
    subst (λ n. n / 64 < length c.self.inside.waiting) (sym its) (c.self.invariant.each c.args.place r here).room

pub invariant_of-self-2 : goal.invariant_of-self-2
invariant_of-self-2 c =
    let rings = c.self.inside.rings.items in
    let r = c.index_mut.result.now in
    let within : c.args.place < length rings = search rules in
    let here : slice_get rings c.args.place ≡ Some r = slice_get-get_or rings c.args.place r within ∙ ap Some (sym c.index_mut.ensures.value) in
    let its : c.id.result ≡ r.id = c.id.ensures ∙ ap (λ (v : RingValue). v.id) (c.index.ensures ∙ get_or-set_same rings c.args.place c.queue.new.self c.index.result.now within ∙ c.in_ok-queue.ensures.ok) in
    queued-again rings c.self.inside.places.items c.self.inside.waiting c.self.invariant c.args.place r c.queue.new.self c.insert.new.self here (ap (λ (v : RingValue). v.id) c.in_ok-queue.ensures.ok) c.insert.ensures.count
    (subst (λ n. holds c.insert.new.self n ≡ true) its c.insert.ensures.here ∙ sym (more-waits r c.queue.new.self c.args.instance c.in_ok-queue.ensures.ok))
    (λ id d. c.insert.ensures.others id (λ e. d (e ∙ its)))

pub returns-clause-room : goal.returns-clause-room
returns-clause-room c v e =
    let rings = c.self.inside.rings.items in
    let r = c.index_mut.result.now in
    let within : c.args.place < length rings = search rules in
    let here : slice_get c.args.self.now c.args.place ≡ Some r = ap (λ (xs : List RingValue). slice_get xs c.args.place) (sym c.self.view_is) ∙ slice_get-get_or rings c.args.place r within ∙ ap Some (sym c.index_mut.ensures.value) in
    subst (λ (w : RingValue). (true ≡ true → length w.waiting < w.most) × (length w.waiting < w.most → true ≡ true)) (some-one (slice_get c.args.self.now c.args.place) r v here e) c.in_ok-queue.ensures.room

pub returns-clause-ok : goal.returns-clause-ok
returns-clause-ok c v e =
    let rings = c.self.inside.rings.items in
    let r = c.index_mut.result.now in
    let within : c.args.place < length rings = search rules in
    let here : slice_get c.args.self.now c.args.place ≡ Some r = ap (λ (xs : List RingValue). slice_get xs c.args.place) (sym c.self.view_is) ∙ slice_get-get_or rings c.args.place r within ∙ ap Some (sym c.index_mut.ensures.value) in
    ap (slice_set rings c.args.place) c.in_ok-queue.ensures.ok
    ∙ ap₂ (λ (xs : List RingValue) (w : RingValue). slice_set xs c.args.place (record { id = w.id; waiting = w.waiting ++ c.args.instance ∷ []; most = w.most })) c.self.view_is (some-one (slice_get c.args.self.now c.args.place) r v here e)
