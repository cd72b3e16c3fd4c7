-- When the streams that one test puts above a stream are among those that another puts there.
use Rattle.std.proofs.Common.{◌≡◌, ◌≢◌, ℕ, ◌<◌, ◌≤◌, ◌⊎◌, inl, inr, Bool, true, false, not, ◌==◌, ◌&&◌, nat_lt, List, length, slice_get, Option, Some, None, refl, sym, ◌∙◌, arith, true≢false, ⊎_elim}
use Rattle.std.specs.Option.{option_map_or}
use Rattle.std.proofs.lemmas.Bool.{cases_lt, cases_eq, ltb-true, lt-ltb, le-ltb, cond-true, cond-false, eq-eqb, ne_eqb}
use Rattle.std.proofs.lemmas.Option.{slice_get_cases}
use Rattle.cop_frame.specs.declared.rates.Rate.{Rate}
use Rattle.cop_rta.specs.declared.streams.Stream.{Stream}
use Rattle.cop_rta.specs.Test.{StreamPlace, of_stream}
use Rattle.cop_rta.specs.Witnesses.{HasMoreAbove}
use Rattle.cop_cert.specs.Assignments.{id_under, is_lower, place_under}
use Rattle.cop_cert.specs.Sets.{is_in_trial, trial}

-- what is above but at the index itself is above there
other_is : (k index : ℕ) (a b : Bool) → (k ≢ index → a ≡ true → b ≡ true) → (not (k == index) && a) ≡ true → (not (k == index) && b) ≡ true
other_is k index a b h e = go (cases_eq k index)
  where
    go : (k ≡ index) ⊎ (k ≢ index) → (not (k == index) && b) ≡ true
    go (inl same) = let no : (not (k == index) && a) ≡ false = rw (eq-eqb k index same) refl in absurd (true≢false (sym e ∙ no))
    go (inr other) = rw (ne_eqb k index other) (h other (rw (ne_eqb k index other) at e))

-- each other stream above is above there too
pub more_above : (p : StreamPlace) (more : ℕ → Bool) → ((k : ℕ) → k < length p.streams → k ≢ p.index → p.above k ≡ true → more k ≡ true) → HasMoreAbove p more
more_above p more h = λ k below e. other_is k p.index (p.above k) (more k) (h k below) e

module _ (streams : List Stream) (pdos : ℕ) where
  pub id_of_pdo : (ids : ℕ → ℕ) (k : ℕ) → k < pdos → id_under streams pdos ids k ≡ ids k
  id_of_pdo ids k h = cond-true (nat_lt k pdos) (ids k) (of_stream (λ s. s.id) streams k) (lt-ltb k pdos h)

  pub id_of_fixed : (ids : ℕ → ℕ) (k : ℕ) → pdos ≤ k → id_under streams pdos ids k ≡ of_stream (λ s. s.id) streams k
  id_of_fixed ids k h = cond-false (nat_lt k pdos) (ids k) (of_stream (λ s. s.id) streams k) (le-ltb k pdos h)

  pub trial_of_pdo : (bound : ℕ) (members : ℕ → Bool) (k : ℕ) → k < pdos → is_in_trial bound streams pdos members k ≡ members k
  trial_of_pdo bound members k h = cond-true (nat_lt k pdos) (members k) (option_map_or (λ s. nat_lt s.id bound) (slice_get streams k) false) (lt-ltb k pdos h)

  pub trial_of_fixed : (bound : ℕ) (members : ℕ → Bool) (k : ℕ) → pdos ≤ k → is_in_trial bound streams pdos members k ≡ option_map_or (λ s. nat_lt s.id bound) (slice_get streams k) false
  trial_of_fixed bound members k h = cond-false (nat_lt k pdos) (members k) (option_map_or (λ s. nat_lt s.id bound) (slice_get streams k) false) (le-ltb k pdos h)

pub below_bound : (bound : ℕ) (o : Option Stream) → option_map_or (λ (s : Stream). nat_lt s.id bound) o false ≡ true → option_map_or (λ (s : Stream). s.id) o 0 < bound
below_bound bound None e = absurd (true≢false (sym e))
below_bound bound (Some s) e = ltb-true s.id bound e

pub is_below : (bound : ℕ) (o : Option Stream) → (o ≡ None → ⊥) → option_map_or (λ (s : Stream). s.id) o 0 < bound → option_map_or (λ (s : Stream). nat_lt s.id bound) o false ≡ true
is_below bound None some h = absurd (some refl)
is_below bound (Some s) some h = lt-ltb s.id bound h

module _ (rate : Rate) (streams : List Stream) (pdos : ℕ) where
  -- a set within an assignment: each other member has a lower identifier, and the PDO's is not below the bound
  pub set_within_ids : (bound : ℕ) (members : ℕ → Bool) (ids : ℕ → ℕ) (p : ℕ) → p < pdos → bound ≤ ids p
      → ((k : ℕ) → k < pdos → k ≢ p → members k ≡ true → ids k < ids p)
      → HasMoreAbove (trial bound rate streams pdos members p) (is_lower streams pdos ids p)
  set_within_ids bound members ids p inside low each = more_above (trial bound rate streams pdos members p) (is_lower streams pdos ids p) above
    where
      go : (k : ℕ) → k ≢ p → is_in_trial bound streams pdos members k ≡ true → (k < pdos) ⊎ (pdos ≤ k) → is_lower streams pdos ids p k ≡ true
      go k other e (inl pdo) = lt-ltb (id_under streams pdos ids k) (id_under streams pdos ids p)
          (omega (arith, id_of_pdo streams pdos ids k pdo, id_of_pdo streams pdos ids p inside, each k pdo other (sym (trial_of_pdo streams pdos bound members k pdo) ∙ e)))
      go k other e (inr fixed) = lt-ltb (id_under streams pdos ids k) (id_under streams pdos ids p)
          (omega (arith, id_of_fixed streams pdos ids k fixed, id_of_pdo streams pdos ids p inside, low, below_bound bound (slice_get streams k) (sym (trial_of_fixed streams pdos bound members k fixed) ∙ e)))

      above : (k : ℕ) → k < length streams → k ≢ p → is_in_trial bound streams pdos members k ≡ true → is_lower streams pdos ids p k ≡ true
      above k below other e = go k other e (cases_lt k pdos)

  -- An assignment within a set: each other PDO with a lower identifier is a member. The PDO's identifier is not above a number
  -- up to which no fixed frame has one from the bound on.
  pub ids_within_bound : (bound top : ℕ) (members : ℕ → Bool) (ids : ℕ → ℕ) (p : ℕ)
      → ((k : ℕ) → pdos ≤ k → k < length streams → (of_stream (λ s. s.id) streams k < bound) ⊎ (top < of_stream (λ s. s.id) streams k))
      → p < pdos → ids p ≤ top → ((k : ℕ) → k < pdos → k ≢ p → ids k < ids p → members k ≡ true)
      → HasMoreAbove (place_under rate streams pdos ids p) (is_in_trial bound streams pdos members)
  ids_within_bound bound top members ids p outside inside high each = more_above (place_under rate streams pdos ids p) (is_in_trial bound streams pdos members) above
    where
      there : (k : ℕ) → k < length streams → slice_get streams k ≡ None → ⊥
      there k below none = ⊎_elim (λ s. let bad : ◌≡◌ {A = Option Stream} (Some s.0) None = sym s.2 ∙ none in cc) (λ past. omega (arith, past.0)) (slice_get_cases streams k).1

      low : (id own : ℕ) → (id < bound) ⊎ (top < id) → id < own → own ≤ top → id < bound
      low id own (inl l) h most = l
      low id own (inr l) h most = absurd (omega arith)

      go : (k : ℕ) → k < length streams → k ≢ p → id_under streams pdos ids k < id_under streams pdos ids p → (k < pdos) ⊎ (pdos ≤ k) → is_in_trial bound streams pdos members k ≡ true
      go k below other lower (inl pdo) = trial_of_pdo streams pdos bound members k pdo
          ∙ each k pdo other (omega (arith, id_of_pdo streams pdos ids k pdo, id_of_pdo streams pdos ids p inside, lower))
      go k below other lower (inr fixed) = trial_of_fixed streams pdos bound members k fixed
          ∙ is_below bound (slice_get streams k) (there k below)
          (low (of_stream (λ s. s.id) streams k) (ids p) (outside k fixed below) (omega (arith, id_of_fixed streams pdos ids k fixed, id_of_pdo streams pdos ids p inside, lower)) high)

      above : (k : ℕ) → k < length streams → k ≢ p → is_lower streams pdos ids p k ≡ true → is_in_trial bound streams pdos members k ≡ true
      above k below other e = go k below other (ltb-true (id_under streams pdos ids k) (id_under streams pdos ids p) e) (cases_lt k pdos)

  -- a set within a larger one
  pub set_within_set : (bound : ℕ) (fewer more : ℕ → Bool) (p : ℕ) → ((k : ℕ) → k < pdos → k ≢ p → fewer k ≡ true → more k ≡ true)
      → HasMoreAbove (trial bound rate streams pdos fewer p) (is_in_trial bound streams pdos more)
  set_within_set bound fewer more p each = more_above (trial bound rate streams pdos fewer p) (is_in_trial bound streams pdos more) above
    where
      go : (k : ℕ) → k ≢ p → is_in_trial bound streams pdos fewer k ≡ true → (k < pdos) ⊎ (pdos ≤ k) → is_in_trial bound streams pdos more k ≡ true
      go k other e (inl pdo) = trial_of_pdo streams pdos bound more k pdo ∙ each k pdo other (sym (trial_of_pdo streams pdos bound fewer k pdo) ∙ e)
      go k other e (inr fixed) = trial_of_fixed streams pdos bound more k fixed ∙ (sym (trial_of_fixed streams pdos bound fewer k fixed) ∙ e)

      above : (k : ℕ) → k < length streams → k ≢ p → is_in_trial bound streams pdos fewer k ≡ true → is_in_trial bound streams pdos more k ≡ true
      above k below other e = go k other e (cases_lt k pdos)
