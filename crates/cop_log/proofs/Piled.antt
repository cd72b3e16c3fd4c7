-- How what was watched of the transfers goes on with the next entry.
use Rattle.std.proofs.Common.{◌≡◌, ℕ, ◌+◌, ◌*◌, ◌^◌, ◌≤◌, ◌<◌, inl, inr, List, suc, length, refl, sym, ap, subst, arith, Bool, true, false}
use Rattle.std.specs.Prelude.{◌&&◌, Option, Some, None}
use Rattle.std.proofs.lemmas.Bool.{cases_lt}
use Rattle.cop_bus.specs.Run.{least_bits}
use Rattle.cop_lines.specs.declared.entries.Entry.{Entry}
use Rattle.cop_log.specs.declared.clocks.Clock.{Clock}
use Rattle.cop_log.specs.declared.anchors.Pile.{Pile}
use Rattle.cop_log.specs.declared.findings.Finding.TheVariants.{Crowded}
use Rattle.cop_log.specs.Log.{entry_at, stamp, most, least_of, IsFull, IsCrowded, IsEvidence}
use Rattle.cop_log.specs.Watching.{IsPile, IsPiled, IsFullest, IsHeld, IsLoaded}
use Rattle.cop_log.proofs.Counted.{least-next}
use Rattle.cop_log.proofs.Watched.{left_true}

pub weaken : (tau : ℕ) (clock : Clock) (log : List Entry) (i : ℕ) (pile : Option Pile) (c d : Bool) → (d ≡ true → c ≡ true) → IsHeld tau clock log i pile c → IsHeld tau clock log i pile d
weaken tau clock log i pile c d h w = record { piled = weaker pile w.piled; fullest = λ e. w.fullest (h e); none_crowded = λ e. w.none_crowded (h e) }
  where
    weaker : (pile : Option Pile) → IsPiled tau log i pile c → IsPiled tau log i pile d
    weaker None g = λ e. g (h e)
    weaker (Some p) g = g

pub few : (tau : ℕ) (clock : Clock) (log : List Entry) (i : ℕ) (p : Pile) (clean : Bool) → IsHeld tau clock log i (Some p) clean → p.ticks ≤ i * 2 ^ 20
few tau clock log i p clean w = w.piled.few

module _ (tau : ℕ) (clock : Clock) (log : List Entry) (i : ℕ) (l : i < length log) (clean : Bool) (entry : Entry) (is : entry ≡ entry_at log i) where
  abbrev at : ℕ
  at = entry.at

  stamped : at ≡ stamp log i
  stamped = ap (λ (e : Entry). e.at) is

  abbrev fresh : Pile
  fresh = record { from = i; entry = entry; ticks = 0 }

  fresh-pile : IsPile tau log (suc i) fresh
  fresh-pile = record { inside = omega arith; is = is; few = omega arith; counted = omega arith }

  -- nothing is shown of it
  shows_nothing : (p : Pile) → IsHeld tau clock log (suc i) (Some p) clean → IsLoaded tau clock log i clean p None
  shows_nothing p w = record {
    evident = λ f e. absurd (cc);
    held = weaken tau clock log (suc i) (Some p) clean (clean && true) (left_true clean true) w;
  }

  -- the newest entry is as full as itself
  itself : IsFullest tau clock log i i → IsFullest tau clock log (suc i) i
  itself h = λ a m. elim (cases_lt a i) [
    | inl s ↦ h a s
    | inr s ↦ (let r : i ≡ a = omega arith in
        subst (λ a. most clock (stamp log a) + 1000000 * least_of tau log (suc i) ≤ most clock (stamp log i) + 1000000 * least_of tau log (suc a)) r (omega arith))
  ]

  pub first : IsHeld tau clock log i None clean → IsLoaded tau clock log i clean fresh None
  first w =
      shows_nothing fresh (record {
        piled = fresh-pile;
        fullest = λ e p s. let q : i ≡ p.from = cc in subst (IsFullest tau clock log (suc i)) q (itself (λ a m. absurd (let none = w.piled e in omega arith)));
        none_crowded = λ e a b n m c. absurd (let none = w.piled e in let o = c.ordered in omega arith);
      })

  -- the fullest is full wherever another one is
  full : (f ticks own : ℕ) → ticks + own + least_of tau log (suc f) ≡ least_of tau log (suc i) → IsFullest tau clock log i f →
      (a n : ℕ) → IsCrowded tau clock log a i n → IsFull clock (stamp log f) (stamp log i) (ticks + own)
  full f ticks own d h a n c =
      let t = h a c.ordered in
      let k = c.counted in
      let g = c.full in
      omega (arith, t, d, k, g)

  module _ (p : Pile) (own ticks : ℕ) (is_own : own ≡ least_bits (entry_at log i).len * tau) (short : own ≤ 2 ^ 20) (more : ticks ≡ p.ticks + own) (w : IsHeld tau clock log i (Some p) clean) where
    abbrev grown : Pile
    grown = record { from = p.from; entry = p.entry; ticks = ticks }

    grown-pile : IsPile tau log (suc i) grown
    grown-pile =
        let h = w.piled in
        let n = least-next tau log i l in
        record {
          inside = (let m = h.inside in omega arith);
          is = h.is;
          few = (let m = h.few in omega (arith, m, short, more));
          counted = (let d = h.counted in omega (arith, d, n, is_own, more));
        }

    fine : (IsFull clock p.entry.at at ticks → ⊥) → clean ≡ true → (a b n : ℕ) → b < suc i → IsCrowded tau clock log a b n → ⊥
    fine far e a b n m c = elim (cases_lt b i) [
      | inl s ↦ w.none_crowded e a b n s c
      | inr s ↦ (let q : b ≡ i = omega arith in
          let here = subst (λ b. IsCrowded tau clock log a b n) q c in
          let sum : p.ticks + own + least_of tau log (suc p.from) ≡ least_of tau log (suc i) = (let d = grown-pile.counted in omega (arith, d, more)) in
          let there = full p.from p.ticks own sum (w.fullest e p refl) a n here in
          far (subst (IsFull clock p.entry.at at) (sym more) (subst (λ f. IsFull clock f at (p.ticks + own)) (sym (ap (λ (e : Entry). e.at) w.piled.is)) (subst (λ u. IsFull clock (stamp log p.from) u (p.ticks + own)) (sym stamped) there))))
    ]

    pub told : IsFull clock p.entry.at at ticks → IsLoaded tau clock log i clean fresh (Some (Crowded p.from i))
    told h =
        let c : IsCrowded tau clock log p.from i ticks = record {
          ordered = w.piled.inside;
          within = l;
          counted = grown-pile.counted;
          full = subst (λ f. IsFull clock f (stamp log i) ticks) (ap (λ (e : Entry). e.at) w.piled.is) (subst (λ u. IsFull clock p.entry.at u ticks) stamped h);
        } in
        record {
          evident = λ f e t same_tau same_clock. let q : Crowded p.from i ≡ f = cc in subst (IsEvidence t log) q
              (ticks, subst (λ tau. IsCrowded tau t.clock log p.from i ticks) (sym same_tau) (subst (λ clock. IsCrowded tau clock log p.from i ticks) (sym same_clock) c));
          held = record {
            piled = fresh-pile;
            fullest = λ e. absurd (never clean e);
            none_crowded = λ e. absurd (never clean e);
          };
        }
      where
        never : (c : Bool) → (c && false) ≡ true → ⊥
        never true e = cc
        never false e = cc

    pub goes_on : (IsFull clock p.entry.at at ticks → ⊥) → most clock at ≤ most clock p.entry.at + 1000000 * ticks → IsLoaded tau clock log i clean grown None
    goes_on far behind = shows_nothing grown (record {
      piled = grown-pile;
      fullest = λ e q s. let r : p.from ≡ q.from = cc in subst (IsFullest tau clock log (suc i)) r (λ a m. elim (cases_lt a i) [
        | inl t ↦ w.fullest e p refl a t
        | inr t ↦ (let z : i ≡ a = omega arith in
            let u : most clock p.entry.at ≡ most clock (stamp log p.from) = ap (λ (e : Entry). most clock e.at) w.piled.is in
            let v : most clock at ≡ most clock (stamp log i) = ap (most clock) stamped in
            let d = grown-pile.counted in
            subst (λ a. most clock (stamp log a) + 1000000 * least_of tau log (suc p.from) ≤ most clock (stamp log p.from) + 1000000 * least_of tau log (suc a)) z (omega (arith, u, v, d, behind)))
      ]);
      none_crowded = fine far;
    })

    pub starts_again : (IsFull clock p.entry.at at ticks → ⊥) → most clock p.entry.at + 1000000 * ticks < most clock at → IsLoaded tau clock log i clean fresh None
    starts_again far ahead = shows_nothing fresh (record {
      piled = fresh-pile;
      fullest = λ e q s. let r : i ≡ q.from = cc in subst (IsFullest tau clock log (suc i)) r (itself (λ a t.
          let z = w.fullest e p refl a t in
          let u : most clock p.entry.at ≡ most clock (stamp log p.from) = ap (λ (e : Entry). most clock e.at) w.piled.is in
          let v : most clock at ≡ most clock (stamp log i) = ap (most clock) stamped in
          let d = grown-pile.counted in
          omega (arith, u, v, d, ahead, z)));
      none_crowded = fine far;
    })

pub begins : (tau : ℕ) (clock : Clock) (log : List Entry) (clean : Bool) → IsHeld tau clock log 0 None clean
begins tau clock log clean = record {
  piled = λ e. refl;
  fullest = λ e p s. absurd (cc);
  none_crowded = λ e a b n m. absurd (omega arith);
}
