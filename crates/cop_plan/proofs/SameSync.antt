-- SYNC's response asks of the streams below SYNC no identifier.
use Rattle.std.proofs.Common.{◌≡◌, ℕ, suc, ◌<◌, ◌≤◌, ◌⊎◌, inl, inr, ◌==◌, Bool, false, nat_lt, List, [], ◌∷◌, length, map, get_or, slice_get, Option, Some, None, unwrap_or, refl, sym, ap, ◌∙◌, arith, ⊎_elim}
use Rattle.std.specs.Option.{option_and_then}
use Rattle.std.proofs.lemmas.Bool.{ne_eqb, le-ltb}
use Rattle.std.proofs.lemmas.Option.{slice_get_cases}
use Rattle.cop_frame.specs.declared.rates.Rate.{Rate}
use Rattle.cop_rta.specs.declared.streams.Stream.{Stream}
use Rattle.cop_rta.specs.Streams.{place_of_id}
use Rattle.cop_rta.specs.Test.{of_stream, has_lower_id, greatest_response, sync_id, sync_place, sync_response, ahead_of}
use Rattle.cop_rta.proofs.IdentifierLemmas.{place_has_id}
use Rattle.cop_plan.proofs.SameAsking.{asking_of, same_length, same_greatest}

abbrev id_at : List Stream → ℕ → ℕ
id_at streams k = of_stream (λ s. s.id) streams k

-- up to SYNC's the identifiers are the same
abbrev pub AreAlike : List Stream → List Stream → Type 0
AreAlike one other = (k : ℕ) → k < length one → (id_at one k ≡ id_at other k) ⊎ ((sync_id < id_at one k) × (sync_id < id_at other k))

place_same : (one other : List Stream) (id : ℕ) → length one ≡ length other → ((k : ℕ) → k < length one → (id_at one k == id) ≡ (id_at other k == id)) → place_of_id one id ≡ place_of_id other id
place_same [] [] id count alike = refl
place_same [] (t ∷ ts) id count alike = absurd (omega arith)
place_same (s ∷ ss) [] id count alike = absurd (omega arith)
place_same (s ∷ ss) (t ∷ ts) id count alike =
    let head : (s.id == id) ≡ (t.id == id) = alike 0 (omega arith) in
    let rest = place_same ss ts id (omega arith) (λ k lt. alike (suc k) (omega (arith, lt))) in
    rw (head, rest) refl

module _ (one other : List Stream) (e : map asking_of one ≡ map asking_of other) (alike : AreAlike one other) where
  sync_alike : (k : ℕ) → k < length one → (id_at one k == sync_id) ≡ (id_at other k == sync_id)
  sync_alike k lt = ⊎_elim
      (λ same. ap (λ (n : ℕ). n == sync_id) same)
      (λ high. ne_eqb (id_at one k) sync_id (λ e. omega (arith, e, high.0)) ∙ sym (ne_eqb (id_at other k) sync_id (λ e. omega (arith, e, high.1))))
      (alike k lt)

  pub one_sync : place_of_id one sync_id ≡ place_of_id other sync_id
  one_sync = place_same one other sync_id (same_length one other e) sync_alike

  lower_at : (streams : List Stream) (index k : ℕ) (s : Stream) → slice_get streams k ≡ Some s → has_lower_id streams index k ≡ nat_lt (id_at streams k) (id_at streams index)
  lower_at streams index k s there = rw there refl

  none_lower : (streams : List Stream) (index k : ℕ) → slice_get streams k ≡ None → has_lower_id streams index k ≡ false
  none_lower streams index k there = rw there refl

  lower_alike : (i k : ℕ) → place_of_id one sync_id ≡ Some i → has_lower_id one i k ≡ has_lower_id other i k
  lower_alike i k at = go (slice_get_cases one k).1 (slice_get_cases other k).1
    where
      first : id_at one i ≡ sync_id
      first = place_has_id one sync_id i at

      second : id_at other i ≡ sync_id
      second = place_has_id other sync_id i (sym one_sync ∙ at)

      tests : k < length one → nat_lt (id_at one k) (id_at one i) ≡ nat_lt (id_at other k) (id_at other i)
      tests lt = ap (λ (n : ℕ). nat_lt (id_at one k) n) first
          ∙ ⊎_elim
          (λ same. ap (λ (n : ℕ). nat_lt n sync_id) same)
          (λ high. le-ltb (id_at one k) sync_id (omega (arith, high.0)) ∙ sym (le-ltb (id_at other k) sync_id (omega (arith, high.1))))
          (alike k lt)
          ∙ ap (λ (n : ℕ). nat_lt (id_at other k) n) (sym second)

      go : ((s : Stream) × (k < length one) × (slice_get one k ≡ Some s) × (get_or one k s ≡ s)) ⊎ ((length one ≤ k) × (slice_get one k ≡ None))
          → ((s : Stream) × (k < length other) × (slice_get other k ≡ Some s) × (get_or other k s ≡ s)) ⊎ ((length other ≤ k) × (slice_get other k ≡ None)) → has_lower_id one i k ≡ has_lower_id other i k
      go (inl s) (inl t) = lower_at one i k s.0 s.2 ∙ tests s.1 ∙ sym (lower_at other i k t.0 t.2)
      go (inl s) (inr past) = absurd (omega (arith, s.1, past.0, same_length one other e))
      go (inr past) (inl t) = absurd (omega (arith, t.1, past.0, same_length one other e))
      go (inr past) (inr out) = none_lower one i k past.1 ∙ sym (none_lower other i k out.1)

  sync_same : (rate : Rate) (o : Option ℕ) → place_of_id one sync_id ≡ o → option_and_then (λ i. greatest_response (sync_place one rate i)) o ≡ option_and_then (λ i. greatest_response (sync_place other rate i)) o
  sync_same rate None at = refl
  sync_same rate (Some i) at =
      let tests : has_lower_id one i ≡ has_lower_id other i = λ j k. lower_alike i k at j in
      same_greatest one other e (has_lower_id one i) i rate 0
      ∙ ap (λ (above : ℕ → Bool). greatest_response (record { streams = other; above = above; index = i; rate = rate; ahead = 0 })) tests

  pub ahead_same : (rate : Rate) → ahead_of one rate ≡ ahead_of other rate
  unfolding ahead_of sync_response
  ahead_same rate =
      ap (λ (o : Option ℕ). unwrap_or o 0)
      (sync_same rate (place_of_id one sync_id) refl ∙ ap (option_and_then (λ i. greatest_response (sync_place other rate i))) one_sync)
