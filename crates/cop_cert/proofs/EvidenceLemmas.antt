-- A stream with evidence fails.
use Rattle.std.proofs.Common.{ℕ, ◌+◌, ◌-◌, ◌*◌, ◌<◌, ◌≤◌, List, [], ◌∷◌, Option, Some, None, refl, arith, le_trans}
use Rattle.std.specs.Option.{ForSome, IsSomeAnd}
use Rattle.cop_rta.specs.Test.{StreamPlace, Passes, busy_at, queueing_at, blocking, cost_at, jitter_at, period_at, deadline_at}
use Rattle.cop_rta.specs.TestLemmas.{busy_at-mono, queueing_at-mono}
use Rattle.cop_rta.specs.Witnesses.{HasWitnesses}
use Rattle.cop_rta.proofs.WitnessLemmas.{passes_has_witnesses}
use Rattle.cop_cert.specs.declared.refusals.Evidence.{Evidence}
use Rattle.cop_cert.specs.declared.refusals.Evidence.TheVariants.{Long, Late}
use Rattle.cop_cert.specs.Evidence.{Climbs, IsClimb, first_of, last_after, last_of, IsBusyList, IsEvidence}

module _ (f : ℕ → ℕ) (rises : (x y : ℕ) → x ≤ y → f x ≤ f y) (top : ℕ) (closed : f top ≤ top) where
  climbs_below : (a : ℕ) (rest : List ℕ) → a ≤ top → Climbs f a rest → last_after a rest ≤ top
  unfolding Climbs last_after
  climbs_below a [] low c = low
  climbs_below a (b ∷ rest) low c = climbs_below b rest (le_trans c.1 (le_trans (rises a top low) closed)) c.2

  -- a list does not climb past a number that the equation does not lead past
  pub climb_below : (numbers : List ℕ) → first_of numbers ≤ top → IsClimb f numbers → last_of numbers ≤ top
  climb_below [] low c = absurd c
  climb_below (a ∷ rest) low c = climbs_below a rest low c

busy_below : (p : StreamPlace) (numbers : List ℕ) → IsBusyList p numbers → (shown : HasWitnesses p) → last_of numbers ≤ shown.time
busy_below p numbers list shown =
    climb_below (busy_at p) (busy_at-mono p) shown.time shown.closed numbers (omega (arith, list.begins, shown.started)) list.climbs

-- the equation begins at B + q C
starts : (p : StreamPlace) (q first wait : ℕ) → first ≤ blocking p + q * cost_at p → queueing_at p q wait ≤ wait → first ≤ wait
unfolding queueing_at
starts p q first wait low closed = omega arith

on_time_or_late : (o : Option ℕ) (a w c x last : ℕ) → last ≤ w → ForSome o (λ d. a + w + c ≤ d + x) → IsSomeAnd o (λ d. d < a + last + c - x) → ⊥
on_time_or_late None a w c x last le h late = late
on_time_or_late (Some d) a w c x last le h late = let on_time : a + w + c ≤ d + x = h d refl in omega arith

pub evidence_fails : (p : StreamPlace) (e : Evidence) → IsEvidence p e → Passes p → ⊥
evidence_fails p (Long busy) e passes = let shown = passes_has_witnesses p passes in omega (arith, busy_below p busy e.list shown, e.high, shown.within)
evidence_fails p (Late q busy queue) e passes =
    let shown = passes_has_witnesses p passes in
    let w = shown.each q (omega (arith, e.reached, busy_below p busy e.list shown)) in
    on_time_or_late (deadline_at p) (jitter_at p) w.0 (cost_at p) (q * period_at p) (last_of queue)
    (climb_below (queueing_at p q) (queueing_at-mono p q) w.0 w.1 queue (starts p q (first_of queue) w.0 e.waits.begins w.1) e.waits.climbs)
    w.2 e.late
