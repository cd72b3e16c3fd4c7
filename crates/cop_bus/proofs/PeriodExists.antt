-- Each instance has a last clear moment.
use Rattle.std.proofs.Common.{◌≡◌, ℕ, zero, suc, ◌+◌, ◌*◌, ◌≤◌, ◌<◌, ◌⊎◌, inl, inr, List, ◌∷◌, ◌++◌, None, Some, sym, ◌∙◌, arith, subst}
use Rattle.std.proofs.lemmas.Bool.{cases_lt}
use Rattle.std.proofs.lemmas.List.Elements.{All-contains}
use Rattle.cop_frame.specs.declared.rates.Rate.{Rate}
use Rattle.cop_frame.specs.Rate.{ticks_of}
use Rattle.cop_rta.specs.declared.streams.Stream.{Stream}
use Rattle.cop_bus.specs.Run.{Instance, IsRunAbove}
use Rattle.cop_bus.specs.Period.{HasEnded, IsClear, IsLastClear, IsPeriodOf}
use Rattle.cop_bus.proofs.Work.{start_cases}
use Rattle.cop_bus.proofs.PeriodLemmas.{all_or_some}

module _ (tau id : ℕ) (run : List Instance) where
  abbrev Clears : ℕ → Instance → Type 0
  Clears t y = y.id ≤ id → y.queued < t → HasEnded tau t y

  decided : (t : ℕ) (y : Instance) → Clears t y ⊎ (Clears t y → ⊥)
  decided t y = elim (cases_lt id y.id) [
    | inl a ↦ inl (λ b c. absurd (omega arith))
    | inr a ↦ elim (cases_lt y.queued t) [
      | inr b ↦ inl (λ c d. absurd (omega arith))
      | inl b ↦ elim (start_cases y.start) [
        | inl n ↦ inr (λ h. let g = h a b in let e : None ≡ Some g.0 = sym n ∙ g.1 in absurd (cc))
        | inr w ↦ elim (cases_lt t (w.0 + y.bits * tau)) [
          | inr k ↦ inl (λ c d. (w.0, w.1, k))
          | inl k ↦ inr (λ h. let g = h a b in let e : Some w.0 ≡ Some g.0 = sym w.1 ∙ g.1 in let q : w.0 ≡ g.0 = cc in absurd (omega (arith, g.2, k, q)))
        ]
      ]
    ]
  ]

  pub last_clear : (q : ℕ) → (t : ℕ) × IsLastClear tau id run q t
  last_clear zero = (
    0,
    record {
      not_after = omega arith;
      clear = All-none;
      last = λ u a b c. absurd (omega arith);
    },
  )
    where
      All-none : IsClear tau id run 0
      All-none = elim (all_or_some (Clears 0) (λ y. Clears 0 y → ⊥) run (decided 0)) [ inl a ↦ a | inr w ↦ absurd (w.2 (λ c d. absurd (omega arith))) ]
  last_clear (suc q) = elim (all_or_some (Clears (suc q)) (λ y. Clears (suc q) y → ⊥) run (decided (suc q))) [
    | inl a ↦ (suc q, record { not_after = omega arith; clear = a; last = λ u b c d. absurd (omega arith) })
    | inr w ↦ (let r = last_clear q in (
      r.0,
      record {
        not_after = (let n = (r.1).not_after in omega arith);
        clear = (r.1).clear;
        last = λ u b c d. (elim (cases_lt u (suc q)) [
          | inl e ↦ (r.1).last u b (omega arith) d
          | inr e ↦ (let same : u ≡ suc q = omega arith in absurd (w.2 (All-contains (Clears (suc q)) run w.0 (subst (λ t. IsClear tau id run t) same d) w.1)))
        ]);
      },
    ))
  ]

pub period_begins : (rate : Rate) (streams : List Stream) (until : ℕ) (pre : List Instance) (x : Instance) (post : List Instance) (index : ℕ) (m : Stream) →
    IsRunAbove rate streams until (pre ++ (x ∷ post)) index m → x.id ≡ m.id → (t : ℕ) × IsPeriodOf rate streams until pre x post index m t
period_begins rate streams until pre x post index m legal its =
    let l = last_clear (ticks_of rate) m.id (pre ++ (x ∷ post)) x.queued in
    (l.0, record { legal = legal; its = its; since = l.1 })
