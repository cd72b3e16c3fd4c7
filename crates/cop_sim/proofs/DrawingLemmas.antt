-- A seeded behaviour whose moments have passed 64 bits offers nothing any more.
use Rattle.std.proofs.Common.{◌≡◌, ℕ, List, [], ◌∷◌, map, ◌+◌, ◌-◌, ◌%◌, ◌≤◌, ◌<◌, ◌^◌, inl, inr, refl, sym, ◌∙◌, ap, subst, arith, suc, zero, Bool, true, false, cond, max, is_some, not, Option, Some, None, if◌then◌else◌}
use Rattle.std.proofs.lemmas.Bool.{cases_lt, eq-eqb, ne_eqb}
use Rattle.cop_bus.proofs.Work.{lt-true, lt-false}
use Rattle.rand_pcg.specs.Lcg.{Lcg}
use Rattle.cop_rta.specs.declared.streams.Stream.{Stream}
use Rattle.cop_sim.specs.declared.behaviours.Offer.{Offer}
use Rattle.cop_sim.specs.Play.{Actor, actors_of, queued_at}
use Rattle.cop_sim.specs.Drawing.{word, by_events, by_sync, drawn, after_drawn, drawn_at, fitting, seeded_actor, offer_of, joins_of, fresh}

above : (event delay before : ℕ) → before ≤ event + max delay (before - event)
above event delay before = omega (arith)

pub drawn-async : (k : Stream) (before : Option Offer) (g : Lcg) → k.every ≡ 0 → drawn k before g ≡ by_events k before g
drawn-async k before g z = ap (λ b. cond b (by_events k before g) (by_sync k g)) (eq-eqb k.every 0 z)

pub drawn-sync : (k : Stream) (before : Option Offer) (g : Lcg) → 1 ≤ k.every → drawn k before g ≡ by_sync k g
drawn-sync k before g s = ap (λ b. cond b (by_events k before g) (by_sync k g)) (ne_eqb k.every 0 (λ e. omega arith))

-- the instances are queued one after another
rises : (k : Stream) (b : Offer) (g : Lcg) → k.every ≡ 0 → queued_at b ≤ queued_at (drawn k (Some b) g)
rises k b g z = subst (λ (o : Offer). queued_at b ≤ queued_at o) (sym (drawn-async k (Some b) g z)) (above _ _ (queued_at b))

pub rises-on : (k : Stream) (b : Offer) (g : Lcg) (n : ℕ) → k.every ≡ 0 → queued_at b ≤ queued_at (drawn_at k (Some b) g n)
rises-on k b g zero z = rises k b g z
rises-on k b g (suc n) z =
    let one = rises k b g z in
    let more = rises-on k (drawn k (Some b) g) (after_drawn k g) n z in
    omega (arith, one, more)

pub fits : (o : Offer) → queued_at o < 2 ^ 64 → fitting o ≡ Some o
fits o l = ap (λ b. cond b (Some o) None) (lt-true (queued_at o) (2 ^ 64) l)

pub passes : (o : Offer) → 2 ^ 64 ≤ queued_at o → fitting o ≡ None
passes o l = ap (λ b. cond b (Some o) None) (lt-false (queued_at o) (2 ^ 64) l)

small : (w j : ℕ) → w % (j + 1) ≤ j
small w j = omega arith

-- an answer for a SYNC fits
pub sync-fits : (k : Stream) (before : Option Offer) (g : Lcg) → 1 ≤ k.every → fitting (drawn k before g) ≡ Some (drawn k before g)
sync-fits k before g s =
    let l : queued_at (by_sync k g) < 2 ^ 64 = (let d = small (word g) k.jitter in let m = k.jitter_in_range in omega (arith, d, m)) in
    fits (drawn k before g) (subst (λ (o : Offer). queued_at o < 2 ^ 64) (sym (drawn-sync k before g s)) l)

-- after an answer, which is over where it was none, come the instances after it
pub goes-on : (k : Stream) (before : Option Offer) (g after : Lcg) (n : ℕ) (answer : Option Offer) (over was_over : Bool) → answer ≡ fitting (drawn k before g) → is_some answer ≡ not over
    → after ≡ after_drawn k g → was_over ≡ false
    → (if over then None else fitting (drawn_at k answer after n)) ≡ (if was_over then None else fitting (drawn_at k (Some (drawn k before g)) (after_drawn k g) n))
goes-on k before g after n answer over was_over is some_is words not_over = elim (cases_lt (queued_at (drawn k before g)) (2 ^ 64)) [
  | inl l ↦ (let e : answer ≡ Some (drawn k before g) = is ∙ fits (drawn k before g) l in
      go answer over (Some (drawn k before g)) e some_is ∙ onward)
  | inr h ↦ elim (cases_lt 0 k.every) [
    | inl s ↦ (let f : None ≡ Some (drawn k before g) = sym (passes (drawn k before g) h) ∙ sync-fits k before g s in absurd (cc))
    | inr z ↦ (let e : answer ≡ None = is ∙ passes (drawn k before g) h in
        let more = rises-on k (drawn k before g) (after_drawn k g) n (omega arith) in
        go answer over None e some_is
        ∙ (sym (passes (drawn_at k (Some (drawn k before g)) (after_drawn k g) n) (omega (arith, h, more))) ∙ onward))
  ]
]
  where
    onward : fitting (drawn_at k (Some (drawn k before g)) (after_drawn k g) n) ≡ (if was_over then None else fitting (drawn_at k (Some (drawn k before g)) (after_drawn k g) n))
    onward = sym (ap (λ (b : Bool). if b then None else fitting (drawn_at k (Some (drawn k before g)) (after_drawn k g) n)) not_over)

    left : Option Offer → Option Offer
    left None = None
    left (Some o) = fitting (drawn_at k (Some o) (after_drawn k g) n)

    go : (answer : Option Offer) (over : Bool) (a : Option Offer) → answer ≡ a → is_some answer ≡ not over → (if over then None else fitting (drawn_at k answer after n)) ≡ left a
    go None true a e s = ap left e
    go (Some o) false a e s = ap (λ (g : Lcg). fitting (drawn_at k (Some o) g n)) words ∙ ap left e
    go None false a e s = absurd (cc)
    go (Some o) true a e s = absurd (cc)

-- behaviours that have not answered yet are the actors of their seed
pub actors-are : (seed : ℕ) (ks : List Stream) → actors_of offer_of (λ s z u. joins_of s z) ks (map (fresh seed) ks) ≡ map (seeded_actor seed) ks
actors-are seed [] = refl
actors-are seed (k ∷ ks) = ap (λ (actors : List Actor). seeded_actor seed k ∷ actors) (actors-are seed ks)
