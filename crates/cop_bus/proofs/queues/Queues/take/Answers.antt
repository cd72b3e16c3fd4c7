use Rattle.std.proofs.Common.{rules, ◌≡◌, ◌<◌, ◌/◌, ◌∙◌, subst, sym, ap, ap₂, List, ℕ, length, drop, arith, refl, true, false}
use Rattle.std.specs.Prelude.{Some, slice_get, slice_set}
use Rattle.std.proofs.lemmas.Bool.{le-ltb}
use Rattle.std.proofs.lemmas.List.{get_or-set_same}
use Rattle.std.proofs.lemmas.Option.{slice_get-get_or}
use Rattle.cop_bus.specs.Rings.{RingValue}
use Rattle.cop_bus.specs.IdSets.{holds}
use Rattle.cop_bus.specs.declared.bus.Instance.{Instance}
use Rattle.cop_bus.proofs.AtPlace.{some-one}
use Rattle.cop_bus.proofs.QueueLemmas.{queued-again, less-waits}
use Rattle.cop_bus.proofs.queues.Queues.take.Goals as goal

pub remove-requires : goal.remove-requires
remove-requires c =
    let rings = c.self.inside.rings.items in
    let r = c.index_mut.result.now in
    let within : c.args.place < length rings = search rules in
    let here : slice_get rings c.args.place ≡ Some r = slice_get-get_or rings c.args.place r within ∙ ap Some (sym c.index_mut.ensures.value) in
    let its : c.id.result ≡ r.id = c.id.ensures ∙ ap (λ (v : RingValue). v.id) (c.index-then-len-eq0.ensures ∙ get_or-set_same rings c.args.place c.take-first.new.self c.index-then-len-eq0.result.now within ∙ c.take-first.ensures.rest) in
    subst (λ n. n / 64 < length c.self.inside.waiting) (sym its) (c.self.invariant.each c.args.place r here).room

pub invariant_of-self : goal.invariant_of-self
invariant_of-self c =
    let rings = c.self.inside.rings.items in
    let r = c.index_mut.result.now in
    let within : c.args.place < length rings = search rules in
    let here : slice_get rings c.args.place ≡ Some r = slice_get-get_or rings c.args.place r within ∙ ap Some (sym c.index_mut.ensures.value) in
    let its : c.id.result ≡ r.id = c.id.ensures ∙ ap (λ (v : RingValue). v.id) (c.index-then-len-eq0.ensures ∙ get_or-set_same rings c.args.place c.take-first.new.self c.index-then-len-eq0.result.now within ∙ c.take-first.ensures.rest) in
    let len : c.len.result ≡ length c.take-first.new.self.waiting = c.len.ensures ∙ ap (λ (v : RingValue). length v.waiting) (c.index.ensures ∙ get_or-set_same rings c.args.place c.take-first.new.self c.index.result.now within) in
    let none = c.if-len-eq0.true in
    queued-again rings c.self.inside.places.items c.self.inside.waiting c.self.invariant c.args.place r c.take-first.new.self c.remove.new.self here (ap (λ (v : RingValue). v.id) c.take-first.ensures.rest) c.remove.ensures.count
    (subst (λ n. holds c.remove.new.self n ≡ false) its c.remove.ensures.here ∙ sym (le-ltb 0 (length c.take-first.new.self.waiting) (omega (arith, none, len))))
    (λ id d. c.remove.ensures.others id (λ e. d (e ∙ its)))

pub invariant_of-self-else-len-eq0 : goal.invariant_of-self-else-len-eq0
invariant_of-self-else-len-eq0 c =
    let rings = c.self.inside.rings.items in
    let r = c.index_mut.result.now in
    let within : c.args.place < length rings = search rules in
    let here : slice_get rings c.args.place ≡ Some r = slice_get-get_or rings c.args.place r within ∙ ap Some (sym c.index_mut.ensures.value) in
    let len : c.len.result ≡ length c.take-first.new.self.waiting = c.len.ensures ∙ ap (λ (v : RingValue). length v.waiting) (c.index.ensures ∙ get_or-set_same rings c.args.place c.take-first.new.self c.index.result.now within) in
    let some = c.if-len-eq0.false in
    queued-again rings c.self.inside.places.items c.self.inside.waiting c.self.invariant c.args.place r c.take-first.new.self c.self.inside.waiting here (ap (λ (v : RingValue). v.id) c.take-first.ensures.rest) refl
    ((c.self.invariant.each c.args.place r here).told ∙ less-waits r c.take-first.new.self c.take-first.ensures.rest (omega (arith, some, len)))
    (λ id d. refl)

pub returns-then-len-eq0-clause-value : goal.returns-then-len-eq0-clause-value
returns-then-len-eq0-clause-value c v e =
    let within : c.args.place < length c.self.inside.rings.items = search rules in
    let here : slice_get c.args.self.now c.args.place ≡ Some c.index_mut.result.now = ap (λ (xs : List RingValue). slice_get xs c.args.place) (sym c.self.view_is) ∙ slice_get-get_or c.self.inside.rings.items c.args.place c.index_mut.result.now within ∙ ap Some (sym c.index_mut.ensures.value) in
    c.take-first.ensures.value ∙ ap (λ (w : RingValue). slice_get w.waiting 0) (some-one (slice_get c.args.self.now c.args.place) c.index_mut.result.now v here e)

pub returns-then-len-eq0-clause-rest : goal.returns-then-len-eq0-clause-rest
returns-then-len-eq0-clause-rest c v e =
    let within : c.args.place < length c.self.inside.rings.items = search rules in
    let here : slice_get c.args.self.now c.args.place ≡ Some c.index_mut.result.now = ap (λ (xs : List RingValue). slice_get xs c.args.place) (sym c.self.view_is) ∙ slice_get-get_or c.self.inside.rings.items c.args.place c.index_mut.result.now within ∙ ap Some (sym c.index_mut.ensures.value) in
    ap (slice_set c.self.inside.rings.items c.args.place) c.take-first.ensures.rest
    ∙ ap₂ (λ (xs : List RingValue) (w : RingValue). slice_set xs c.args.place (record { id = w.id; waiting = drop 1 w.waiting; most = w.most })) c.self.view_is (some-one (slice_get c.args.self.now c.args.place) c.index_mut.result.now v here e)

pub returns-else-len-eq0-clause-value : goal.returns-else-len-eq0-clause-value
returns-else-len-eq0-clause-value c v e =
    let within : c.args.place < length c.self.inside.rings.items = search rules in
    let here : slice_get c.args.self.now c.args.place ≡ Some c.index_mut.result.now = ap (λ (xs : List RingValue). slice_get xs c.args.place) (sym c.self.view_is) ∙ slice_get-get_or c.self.inside.rings.items c.args.place c.index_mut.result.now within ∙ ap Some (sym c.index_mut.ensures.value) in
    c.take-first.ensures.value ∙ ap (λ (w : RingValue). slice_get w.waiting 0) (some-one (slice_get c.args.self.now c.args.place) c.index_mut.result.now v here e)

pub returns-else-len-eq0-clause-rest : goal.returns-else-len-eq0-clause-rest
returns-else-len-eq0-clause-rest c v e =
    let within : c.args.place < length c.self.inside.rings.items = search rules in
    let here : slice_get c.args.self.now c.args.place ≡ Some c.index_mut.result.now = ap (λ (xs : List RingValue). slice_get xs c.args.place) (sym c.self.view_is) ∙ slice_get-get_or c.self.inside.rings.items c.args.place c.index_mut.result.now within ∙ ap Some (sym c.index_mut.ensures.value) in
    ap (slice_set c.self.inside.rings.items c.args.place) c.take-first.ensures.rest
    ∙ ap₂ (λ (xs : List RingValue) (w : RingValue). slice_set xs c.args.place (record { id = w.id; waiting = drop 1 w.waiting; most = w.most })) c.self.view_is (some-one (slice_get c.args.self.now c.args.place) c.index_mut.result.now v here e)
