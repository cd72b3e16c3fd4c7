-- No event is left: the steps are the play.
use Rattle.std.proofs.Common.{◌≡◌, ℕ, ◌≤◌, ◌<◌, ◌⊎◌, inl, inr, List, [], ◌∷◌, ◌++◌, length, Option, Some, None, Contains, Bool, true, refl, sym, ap, ◌∙◌, subst, arith, suc}
use Rattle.std.specs.Option.{ForSome}
use Rattle.cop_frame.specs.Rate.{ticks_of}
use Rattle.cop_bus.specs.declared.steps.Step.{Step}
use Rattle.cop_bus.specs.Trace.{running}
use Rattle.cop_bus.specs.Judge.{is_unfinished, is_not_idle}
use Rattle.cop_bus.specs.Rings.{any_in}
use Rattle.cop_bus.proofs.Work.{lt-true}
use Rattle.cop_plan.specs.Values.{PlanValue}
use Rattle.cop_bus.proofs.AtPlace.{contained}
use Rattle.cop_sim.specs.declared.behaviours.Offer.{Offer}
use Rattle.cop_sim.specs.declared.due.Due.{Due}
use Rattle.cop_sim.specs.declared.playing.Event.TheVariants.{Nothing}
use Rattle.cop_sim.specs.Events.{IsNextEvent}
use Rattle.cop_sim.specs.Play.{Actor, actors_of, streams_of, queued_at, next_offer, IsPlay}
use Rattle.cop_sim.specs.Going.{Goes}
use Rattle.cop_sim.specs.Seats.{IsDueSoFar}
use Rattle.cop_sim.specs.Stages.{AtHand, flipped, IsAwaited, IsAt}
use Rattle.cop_sim.proofs.Kept.{next-is}
use Rattle.cop_sim.proofs.Plays.{played}
use Rattle.cop_sim.proofs.Places as Places
use Rattle.cop_sim.proofs.Ending.{flipped-is, flipped-none}
use Rattle.cop_sim.proofs.Queueing.{busy-by}

offer-cases : (o : Option Offer) → (o ≡ None) ⊎ ((p : Offer) × (o ≡ Some p))
offer-cases None = inl refl
offer-cases (Some p) = inr (p, refl)

module _ {B : Type 0} (offer : B → ℕ → Option Offer) (agrees : B → ℕ → ℕ → Bool) (plan : PlanValue) (until : ℕ) (firsts bs : List B) (h : AtHand) (steps : List Step) (at : IsAt offer agrees plan until firsts bs h steps)
    (due : Option Due) (first : IsDueSoFar plan.streams h.next (length h.next) due) where
  abbrev actors : List Actor
  actors = actors_of offer agrees plan.streams firsts

  abbrev tau : ℕ
  tau = ticks_of plan.rate

  -- with no offer left nothing is ahead
  module _ (done : (a : Actor) → Contains actors a → next_offer until steps (length steps) a ≡ None) where
    none-ahead : at.ahead ≡ []
    none-ahead = go h.joined at.awaited
      where
        go : (j : Option ℕ) → IsAwaited actors h.next steps at.ahead j → at.ahead ≡ []
        go None w = w
        go (Some i) w =
            let e : Some (w.3).0 ≡ None = sym (w.3).1 ∙ Places.next-is-offer offer agrees plan until firsts bs h steps at i w.0 w.1 ∙ done w.0 (contained actors i w.0 w.1) in
            absurd (cc)

    goes : Goes tau actors until steps []
    goes = subst (λ t. Goes tau actors until steps t) none-ahead at.goes

    runs : h.running ≡ flipped (running tau steps (length steps))
    runs = at.runs ∙ ap (λ t. flipped (running tau t (length steps))) (ap (λ t. steps ++ t) none-ahead ∙ no-more steps)
      where
        no-more : (xs : List Step) → xs ++ [] ≡ xs
        no-more [] = refl
        no-more (y ∷ xs) = ap (λ t. y ∷ t) (no-more xs)

    pub play-of : is_unfinished until (running tau steps (length steps)) ≡ true → is_not_idle (streams_of actors) steps (length steps) (running tau steps (length steps)) until ≡ true → IsPlay tau actors until steps
    play-of u n = played plan.rate actors (Places.distinct offer agrees plan until firsts bs h steps at) until steps goes done u n

    pub runs-past : (r : ℕ × ℕ) → h.running ≡ Some r → until < r.0 → IsPlay tau actors until steps
    runs-past r e l =
        let q = flipped-is (running tau steps (length steps)) r.0 r.1 (sym runs ∙ e) in
        play-of (ap (is_unfinished until) q ∙ lt-true until r.0 l)
        (busy-by (streams_of actors) steps (running tau steps (length steps)) until (λ f w. (let z : None ≡ Some (r.1, r.0) = sym f ∙ q in absurd (cc))))

    pub runs-none : h.running ≡ None → (any_in h.rings ≡ true → until ≤ h.now) → IsPlay tau actors until steps
    runs-none e l =
        let q = flipped-none (running tau steps (length steps)) (sym runs ∙ e) in
        play-of (ap (is_unfinished until) q)
        (busy-by (streams_of actors) steps (running tau steps (length steps)) until
        (λ f w. subst (λ n. until ≤ n) at.now_is (l (Places.any-same offer agrees plan until firsts bs h steps at ∙ w))))

  -- no offer is left, if none can be before a moment past the end
  done-by : (m : ℕ) → until < m → ForSome due (λ d. m ≤ queued_at d.offer) → (a : Actor) → Contains actors a → next_offer until steps (length steps) a ≡ None
  done-by m past low a c = elim (offer-cases (next_offer until steps (length steps) a)) [
    | inl e ↦ e
    | inr w ↦ (let l = Places.after-due offer agrees plan until firsts bs h steps at due first m low a c w.0 w.1 in let u = (next-is until steps (length steps) a w.0 w.1).1 in absurd (omega (arith, l, u, past)))
  ]

  pub finished : IsNextEvent h.running due (any_in h.rings) h.now until Nothing → IsPlay tau actors until steps
  finished (inl w) = runs-past (done-by (w.0).0 w.2 w.3) w.0 w.1 w.2
  finished (inr w) = runs-none (elim w.1 [
    | inl e ↦ done-by (suc until) (omega arith) (λ d f. (let z : None ≡ Some d = sym e ∙ f in absurd (cc)))
    | inr t ↦ (let l = w.2 t in done-by (suc until) (omega arith) (λ d f. (let m = w.3 d f in omega (arith, l, m))))
  ]) w.0 w.2
