-- The verdicts of streams by rising identifier, one more.
use Rattle.std.proofs.Common.{◌≡◌, ◌≢◌, ℕ, ◌+◌, ◌<◌, ◌≤◌, ◌⊎◌, inl, inr, Bool, true, false, nat_lt, List, length, get_or, set, replicate, slice_get, Option, Some, None, refl, sym, ap, ◌∙◌, arith, ⊎_elim}
use Rattle.std.proofs.lemmas.Bool.{cases_eq, cases_lt, lt-ltb, le-ltb}
use Rattle.std.proofs.lemmas.List.{length-replicate, length-set, get_or-set_same, get_or-set_other, get_or-replicate}
use Rattle.std.proofs.lemmas.Option.{slice_get_cases, unwrap_or-slice_get}
use Rattle.cop_frame.specs.declared.rates.Rate.{Rate}
use Rattle.cop_rta.specs.declared.streams.Stream.{Stream}
use Rattle.cop_rta.specs.declared.verdicts.Verdict.{Verdict}
use Rattle.cop_rta.specs.declared.verdicts.Verdict.TheVariants.{Long}
use Rattle.cop_rta.specs.Streams.{AreDistinct, place_of_id}
use Rattle.cop_rta.specs.Test.{of_stream, is_flagged, has_lower_id, flagged_place, place_by_id}
use Rattle.cop_rta.specs.Verdict.{IsJudged}
use Rattle.cop_rta.proofs.FlagLemmas.{set_here, set_apart}
use Rattle.cop_rta.proofs.IdentifierLemmas.{one_place, place_has_id, no_place}
use Rattle.cop_rta.proofs.OwnFlag.{judged_beside}

pub missing : (o : Option ℕ) → ((k : ℕ) → o ≡ Some k → ⊥) → o ≡ None
missing None none = refl
missing (Some k) none = absurd (none k refl)

abbrev id_at : List Stream → ℕ → ℕ
id_at streams k = of_stream (λ s. s.id) streams k

-- the streams with an identifier below a number are flagged and judged
pub record Swept (rate : Rate) (streams : List Stream) (flags : List Bool) (verdicts : List Verdict) (id : ℕ) : Type 0 where
  pub size : length flags ≡ length streams
  pub count : length verdicts ≡ length streams
  pub flagged : (k : ℕ) → k < length streams → is_flagged flags k ≡ nat_lt (id_at streams k) id
  pub judged : (k : ℕ) → k < length streams → id_at streams k < id → IsJudged (place_by_id streams k rate) (get_or verdicts k Long)

pub swept_none : (rate : Rate) (streams : List Stream) → Swept rate streams (replicate (length streams) false) (replicate (length streams) Long) 0
swept_none rate streams = record {
  size = length-replicate (length streams) false;
  count = length-replicate (length streams) Long;
  flagged = λ k lt. unwrap_or-slice_get (replicate (length streams) false) k false ∙ get_or-replicate (length streams) k false false lt ∙ sym (le-ltb (id_at streams k) 0 (omega arith));
  judged = λ k lt low. absurd (omega (arith, low));
}

module _ (rate : Rate) (streams : List Stream) (flags : List Bool) (verdicts : List Verdict) (id : ℕ) (swept : Swept rate streams flags verdicts id) where
  -- no stream has the identifier
  pub swept_past : place_of_id streams id ≡ None → Swept rate streams flags verdicts (id + 1)
  swept_past none = record {
    size = swept.size;
    count = swept.count;
    flagged = λ k lt. swept.flagged k lt ∙ same k (no_place streams id none k lt);
    judged = λ k lt low. swept.judged k lt (omega (arith, low, no_place streams id none k lt));
  }
    where
      same : (k : ℕ) → id_at streams k ≢ id → nat_lt (id_at streams k) id ≡ nat_lt (id_at streams k) (id + 1)
      same k other = ⊎_elim
          (λ (low : id_at streams k < id). lt-ltb (id_at streams k) id low ∙ sym (lt-ltb (id_at streams k) (id + 1) (omega (arith, low))))
          (λ (high : id ≤ id_at streams k). le-ltb (id_at streams k) id high ∙ sym (le-ltb (id_at streams k) (id + 1) (omega (arith, high, other))))
          (cases_lt (id_at streams k) id)

  module _ (distinct : AreDistinct streams) (k : ℕ) (here : place_of_id streams id ≡ Some k) (inside : k < length streams) where
    has : id_at streams k ≡ id
    has = place_has_id streams id k here

    pub not_yet : is_flagged flags k ≡ false
    not_yet = swept.flagged k inside ∙ le-ltb (id_at streams k) id (omega (arith, has))

    within_flags : k < length flags
    within_flags = omega (arith, inside, swept.size)

    other : (j : ℕ) → j < length streams → j ≢ k → id_at streams j ≢ id
    other j lt apart e = apart (one_place streams distinct j k lt inside (e ∙ sym has))

    -- those above it are the flagged ones
    tests_alike : (j : ℕ) → (j ≡ k → ⊥) → is_flagged (set flags k true) j ≡ has_lower_id streams k j
    tests_alike j apart = set_apart flags k within_flags j apart ∙ go (slice_get_cases streams j).1
      where
        go : ((s : Stream) × (j < length streams) × (slice_get streams j ≡ Some s) × (get_or streams j s ≡ s)) ⊎ ((length streams ≤ j) × (slice_get streams j ≡ None)) → is_flagged flags j ≡ has_lower_id streams k j
        go (inl s) = swept.flagged j s.1 ∙ ap (λ n. nat_lt (id_at streams j) n) (sym has) ∙ rw s.2 refl
        go (inr past) = none ∙ rw past.1 refl
          where
            none : is_flagged flags j ≡ false
            none = nothing (slice_get_cases flags j).1
              where
                nothing : ((b : Bool) × (j < length flags) × (slice_get flags j ≡ Some b) × (get_or flags j b ≡ b)) ⊎ ((length flags ≤ j) × (slice_get flags j ≡ None)) → is_flagged flags j ≡ false
                nothing (inl b) = absurd (omega (arith, b.1, swept.size, past.0))
                nothing (inr out) = rw out.1 refl

    pub swept_one : (v : Verdict) → IsJudged (flagged_place streams (set flags k true) k rate) v → Swept rate streams (set flags k true) (set verdicts k v) (id + 1)
    swept_one v judged = record {
      size = length-set flags k true ∙ swept.size;
      count = length-set verdicts k v ∙ swept.count;
      flagged = λ j lt. flagged_at j lt (cases_eq j k);
      judged = λ j lt low. judged_at j lt low (cases_eq j k);
    }
      where
        flagged_at : (j : ℕ) → j < length streams → (j ≡ k) ⊎ (j ≢ k) → is_flagged (set flags k true) j ≡ nat_lt (id_at streams j) (id + 1)
        flagged_at j lt (inl e) = rw e (set_here flags k within_flags ∙ sym (lt-ltb (id_at streams k) (id + 1) (omega (arith, has))))
        flagged_at j lt (inr apart) =
            set_apart flags k within_flags j apart ∙ swept.flagged j lt
            ∙ ⊎_elim
            (λ (low : id_at streams j < id). lt-ltb (id_at streams j) id low ∙ sym (lt-ltb (id_at streams j) (id + 1) (omega (arith, low))))
            (λ (high : id ≤ id_at streams j). le-ltb (id_at streams j) id high ∙ sym (le-ltb (id_at streams j) (id + 1) (omega (arith, high, other j lt apart))))
            (cases_lt (id_at streams j) id)

        mine : IsJudged (place_by_id streams k rate) v
        mine = judged_beside (flagged_place streams (set flags k true) k rate) (has_lower_id streams k) tests_alike v judged

        judged_at : (j : ℕ) → j < length streams → id_at streams j < id + 1 → (j ≡ k) ⊎ (j ≢ k) → IsJudged (place_by_id streams j rate) (get_or (set verdicts k v) j Long)
        judged_at j lt low (inl e) = rw (e, get_or-set_same verdicts k v Long (omega (arith, inside, swept.count))) mine
        judged_at j lt low (inr apart) =
            rw (get_or-set_other verdicts k j v Long apart) (swept.judged j lt (omega (arith, low, other j lt apart)))
