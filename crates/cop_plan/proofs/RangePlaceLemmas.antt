-- The place of a PDO in a filling of a range.
use Rattle.std.proofs.Common.{◌≡◌, ℕ, ◌<◌, ◌≤◌, ◌⊎◌, inl, inr, Bool, true, false, List, [], ◌∷◌, refl, arith}
use Rattle.cop_frame.specs.declared.rates.Rate.{Rate}
use Rattle.cop_rta.specs.declared.streams.Stream.{Stream}
use Rattle.cop_rta.specs.Test.{Passes}
use Rattle.cop_cert.specs.Evidence.{is_listed}
use Rattle.cop_cert.specs.Sets.{trial}
use Rattle.cop_plan.specs.Fillings.{AreDistinct, rank}
use Rattle.cop_plan.specs.Fillings.{with_left, PassInTurn, LaterFail}
use Rattle.cop_plan.proofs.FillingLemmas.{no_bit, among_tail, among_cases, not_head, rank-head, rank-tail, rank_below}

module _ (bound : ℕ) (rate : Rate) (streams : List Stream) (pdos : ℕ) (left : ℕ → Bool) where
  -- the rest of a filling from p on
  pub record FromPlace (fill : List ℕ) (p : ℕ) : Type 0 where
    pub rest : List ℕ
    pub passes : Passes (trial bound rate streams pdos (with_left (p ∷ rest) left) p)
    pub later : (r : ℕ) → with_left rest left r ≡ true → p < r → Passes (trial bound rate streams pdos (with_left (p ∷ rest) left) r) → ⊥
    pub part : (k : ℕ) → is_listed (p ∷ rest) k ≡ true → is_listed fill k ≡ true
    pub within : (k : ℕ) → is_listed (p ∷ rest) k ≡ true → rank fill k ≤ rank fill p
    pub covers : (k : ℕ) → is_listed fill k ≡ true → rank fill k ≤ rank fill p → is_listed (p ∷ rest) k ≡ true

  pub from_place_of : (fill : List ℕ) → AreDistinct fill → PassInTurn bound rate streams pdos left fill → LaterFail bound rate streams pdos left fill
      → (p : ℕ) → is_listed fill p ≡ true → FromPlace fill p
  from_place_of [] d f l p h = absurd (no_bit false h refl)
  from_place_of (q ∷ rest) d f l p h = go (from_place_of rest d.1 f.1 l.1 p) (among_cases q p rest h)
    where
      here : FromPlace (q ∷ rest) q
      here = record {
        rest = rest;
        passes = f.0;
        later = l.0;
        part = λ k m. m;
        within = λ k m. omega (arith, rank-head q rest, rank_below (q ∷ rest) k m);
        covers = λ k m le. m;
      }

      go : (is_listed rest p ≡ true → FromPlace rest p) → (q ≡ p) ⊎ (is_listed rest p ≡ true) → FromPlace (q ∷ rest) p
      go before (inl e) = rw (← e) here
      go before (inr deeper) =
          let w : FromPlace rest p = before deeper in
          let p_rank : rank (q ∷ rest) p ≡ rank rest p = rank-tail q p rest (not_head q p rest d.0 deeper) in
          record {
            rest = w.rest;
            passes = w.passes;
            later = w.later;
            part = λ k m. among_tail q k rest (w.part k m);
            within = λ k m. omega (arith, p_rank, rank-tail q k rest (not_head q k rest d.0 (w.part k m)), w.within k m);
            covers = λ k m le. covered w p_rank k le (among_cases q k rest m);
          }
        where
          covered : (w : FromPlace rest p) → rank (q ∷ rest) p ≡ rank rest p → (k : ℕ) → rank (q ∷ rest) k ≤ rank (q ∷ rest) p → (q ≡ k) ⊎ (is_listed rest k ≡ true) → is_listed (p ∷ w.rest) k ≡ true
          covered w p_rank k le (inl e) =
              let low : rank (q ∷ rest) q ≤ rank (q ∷ rest) p = rw (← e) at le in
              absurd (omega (arith, low, rank-head q rest, p_rank, rank_below rest p deeper))
          covered w p_rank k le (inr m) = w.covers k m (omega (arith, le, p_rank, rank-tail q k rest (not_head q k rest d.0 m)))
