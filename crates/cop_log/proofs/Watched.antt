-- How what was watched of a stream goes on with the next entry.
use Rattle.std.proofs.Common.{◌≡◌, ◌∙◌, ℕ, ◌+◌, ◌*◌, ◌≤◌, ◌<◌, inl, inr, List, suc, length, refl, sym, ap, subst, arith, Bool, true, false}
use Rattle.std.specs.Prelude.{◌≢◌, ◌&&◌, Option, Some, None}
use Rattle.std.proofs.lemmas.Bool.{cases_lt}
use Rattle.cop_lines.specs.declared.entries.Entry.{Entry}
use Rattle.cop_log.specs.declared.anchors.Anchor.{Anchor}
use Rattle.cop_log.specs.declared.findings.Finding.TheVariants.{Soon}
use Rattle.cop_log.specs.Log.{entry_at, stamp, most, count_of, Lane, IsNear, IsSoon, IsEvidence}
use Rattle.cop_log.specs.Watching.{IsAnchor, IsStrictest, IsAnchored, IsWatched, IsStep}
use Rattle.cop_log.proofs.Counted.{count-own, count-other}

pub left_true : (a b : Bool) → (a && b) ≡ true → a ≡ true
left_true true b e = refl
left_true false b e = absurd (cc)

pub weaken : (k : Lane) (log : List Entry) (i : ℕ) (anchor : Option Anchor) (c d : Bool) → (d ≡ true → c ≡ true) → IsWatched k log i anchor c → IsWatched k log i anchor d
weaken k log i anchor c d h w = record { anchored = weaker anchor w.anchored; strictest = λ e. w.strictest (h e); none_soon = λ e. w.none_soon (h e) }
  where
    weaker : (anchor : Option Anchor) → IsAnchored k log i anchor c → IsAnchored k log i anchor d
    weaker None g = λ e. g (h e)
    weaker (Some a) g = g

-- the anchor's count is small
pub few : (k : Lane) (log : List Entry) (i : ℕ) (a : Anchor) (clean : Bool) → IsWatched k log i (Some a) clean → a.count ≤ i
few k log i a clean w = w.anchored.few

module _ (k : Lane) (log : List Entry) (i : ℕ) (l : i < length log) (clean : Bool) where
  -- an entry of another stream changes nothing
  still : (anchor : Option Anchor) → (entry_at log i).id ≢ k.stream.id → IsAnchored k log i anchor clean → IsAnchored k log (suc i) anchor clean
  still None o h = λ c a m e. elim (cases_lt a i) [ inl s ↦ h c a s e | inr s ↦ (let q : a ≡ i = omega arith in o (subst (λ a. (entry_at log a).id ≡ k.stream.id) q e)) ]
  still (Some a) o h = record {
    inside = (let m = h.inside in omega arith);
    is = h.is;
    own = h.own;
    few = (let m = h.few in omega arith);
    counted = h.counted ∙ sym (count-other k.stream.id log i l o);
  }

  stricter : (f : ℕ) → (entry_at log i).id ≢ k.stream.id → IsStrictest k log i f → IsStrictest k log (suc i) f
  stricter f o h = λ a m e. elim (cases_lt a i) [ inl s ↦ h a s e | inr s ↦ (let q : a ≡ i = omega arith in absurd (o (subst (λ a. (entry_at log a).id ≡ k.stream.id) q e))) ]

  pub skip : (anchor : Option Anchor) → (entry_at log i).id ≢ k.stream.id → IsWatched k log i anchor clean → IsWatched k log (suc i) anchor clean
  skip anchor o w = record {
    anchored = still anchor o w.anchored;
    strictest = λ e a s. stricter a.from o (w.strictest e a s);
    none_soon = λ e a b n m soon. elim (cases_lt b i) [ inl s ↦ w.none_soon e a b n s soon | inr s ↦ (let q : b ≡ i = omega arith in o (subst (λ b. (entry_at log b).id ≡ k.stream.id) q soon.second)) ];
  }

  -- the strictest entry is too near wherever another one is
  strict : (a : Anchor) → IsAnchor k log i a → IsStrictest k log i a.from → (b n : ℕ) → IsSoon k log b i n → IsNear k a.entry.at (stamp log i) a.count
  strict a h s b n soon =
      let t = s b soon.ordered soon.first in
      let p : (n + count_of k.stream.id log b) * k.stream.period ≡ count_of k.stream.id log i * k.stream.period = ap (λ c. c * k.stream.period) soon.counted in
      let q : (a.count + count_of k.stream.id log a.from) * k.stream.period ≡ count_of k.stream.id log i * k.stream.period = ap (λ c. c * k.stream.period) h.counted in
      let near = soon.near in
      let e : most k.clock a.entry.at ≡ most k.clock (stamp log a.from) = ap (λ (e : Entry). most k.clock e.at) h.is in
      omega (arith, near, t, p, q, e)

  module _ (own : (entry_at log i).id ≡ k.stream.id) (entry : Entry) (is : entry ≡ entry_at log i) where
    abbrev at : ℕ
    at = entry.at

    stamped : at ≡ stamp log i
    stamped = ap (λ (e : Entry). e.at) is

    abbrev fresh : Anchor
    fresh = record { from = i; entry = entry; count = 1 }

    fresh-anchor : IsAnchor k log (suc i) fresh
    fresh-anchor = record {
      inside = omega arith;
      is = is;
      own = own;
      few = omega arith;
      counted = (let c = count-own k.stream.id log i l own in omega arith);
    }

    -- nothing is shown of it
    shows_nothing : (anchor : Anchor) → IsWatched k log (suc i) (Some anchor) clean → IsStep k log i clean anchor None
    shows_nothing anchor w = record {
      evident = λ f e. absurd (cc);
      watched = weaken k log (suc i) (Some anchor) clean (clean && true) (left_true clean true) w;
    }

    pub first : IsWatched k log i None clean → IsStep k log i clean fresh None
    first w = shows_nothing fresh (record {
      anchored = fresh-anchor;
      strictest = λ e a s. let q : i ≡ a.from = ap (λ (o : Option Anchor). from_of o) s in subst (IsStrictest k log (suc i)) q (λ b m g. elim (cases_lt b i) [ inl t ↦ absurd (w.anchored e b t g) | inr t ↦ (let r : i ≡ b = omega arith in subst (λ b. most k.clock (stamp log b) + 1000000 * (count_of k.stream.id log i * k.stream.period) ≤ most k.clock (stamp log i) + 1000000 * (count_of k.stream.id log b * k.stream.period)) r (omega arith)) ]);
      none_soon = λ e a b n m soon. elim (cases_lt b i) [ inl s ↦ w.none_soon e a b n s soon | inr s ↦ (let q : b ≡ i = omega arith in w.anchored e a (let o = soon.ordered in omega arith) soon.first) ];
    })
      where
        from_of : Option Anchor → ℕ
        from_of None = i
        from_of (Some a) = a.from

    pub told : (a : Anchor) → IsWatched k log i (Some a) clean → IsNear k a.entry.at at a.count → IsStep k log i clean fresh (Some (Soon a.from i a.count))
    told a w near =
        let h = w.anchored in
        let there : IsNear k (stamp log a.from) (stamp log i) a.count = subst (λ f. IsNear k f (stamp log i) a.count) (ap (λ (e : Entry). e.at) h.is) (subst (λ t. IsNear k a.entry.at t a.count) stamped near) in
        let soon : IsSoon k log a.from i a.count = record { ordered = h.inside; within = l; first = h.own; second = own; counted = h.counted; near = there } in
        record {
          evident = λ f e t p o. let q : Soon a.from i a.count ≡ f = cc in subst (IsEvidence t log) q (p, k, o, soon);
          watched = record {
            anchored = fresh-anchor;
            strictest = λ e. absurd (never clean e);
            none_soon = λ e. absurd (never clean e);
          };
        }
      where
        never : (c : Bool) → (c && false) ≡ true → ⊥
        never true e = cc
        never false e = cc

    -- where the strictest is not too near, nothing is
    fine : (a : Anchor) → IsWatched k log i (Some a) clean → (IsNear k a.entry.at at a.count → ⊥) → clean ≡ true → (b c n : ℕ) → c < suc i → IsSoon k log b c n → ⊥
    fine a w far e b c n m soon = elim (cases_lt c i) [
      | inl s ↦ w.none_soon e b c n s soon
      | inr s ↦ (let q : c ≡ i = omega arith in
          let here = subst (λ c. IsSoon k log b c n) q soon in
          far (subst (λ t. IsNear k a.entry.at t a.count) (sym stamped) (strict a w.anchored (w.strictest e a refl) b n here)))
    ]

    pub goes_on : (a : Anchor) (count : ℕ) → count ≡ a.count + 1 → IsWatched k log i (Some a) clean → (IsNear k a.entry.at at a.count → ⊥) →
        most k.clock at ≤ most k.clock a.entry.at + 1000000 * (a.count * k.stream.period) →
        IsStep k log i clean (record { from = a.from; entry = a.entry; count = count }) None
    goes_on a count more w far behind =
        let h = w.anchored in
        shows_nothing (record { from = a.from; entry = a.entry; count = count }) (record {
          anchored = record {
            inside = (let m = h.inside in omega arith);
            is = h.is;
            own = h.own;
            few = (let m = h.few in omega arith);
            counted = (let c = count-own k.stream.id log i l own in let d = h.counted in omega arith);
          };
          strictest = λ e b s. let q : a.from ≡ b.from = cc in subst (IsStrictest k log (suc i)) q (λ c m g. elim (cases_lt c i) [
            | inl t ↦ w.strictest e a refl c t g
            | inr t ↦ (let r : i ≡ c = omega arith in
                let p : (a.count + count_of k.stream.id log a.from) * k.stream.period ≡ count_of k.stream.id log i * k.stream.period = ap (λ c. c * k.stream.period) h.counted in
                let u : most k.clock a.entry.at ≡ most k.clock (stamp log a.from) = ap (λ (e : Entry). most k.clock e.at) h.is in
                let v : most k.clock at ≡ most k.clock (stamp log i) = ap (most k.clock) stamped in
                subst (λ c. most k.clock (stamp log c) + 1000000 * (count_of k.stream.id log a.from * k.stream.period) ≤ most k.clock (stamp log a.from) + 1000000 * (count_of k.stream.id log c * k.stream.period)) r (omega (arith, p, u, v, behind)))
          ]);
          none_soon = λ e b c n m soon. fine a w far e b c n m soon;
        })

    pub starts_again : (a : Anchor) → IsWatched k log i (Some a) clean → (IsNear k a.entry.at at a.count → ⊥) →
        most k.clock a.entry.at + 1000000 * (a.count * k.stream.period) < most k.clock at →
        IsStep k log i clean fresh None
    starts_again a w far ahead =
        let h = w.anchored in
        shows_nothing fresh (record {
          anchored = fresh-anchor;
          strictest = λ e b s. let q : i ≡ b.from = cc in subst (IsStrictest k log (suc i)) q (λ c m g. elim (cases_lt c i) [
            | inl t ↦ (let z = w.strictest e a refl c t g in
                let p : (a.count + count_of k.stream.id log a.from) * k.stream.period ≡ count_of k.stream.id log i * k.stream.period = ap (λ c. c * k.stream.period) h.counted in
                let u : most k.clock a.entry.at ≡ most k.clock (stamp log a.from) = ap (λ (e : Entry). most k.clock e.at) h.is in
                let v : most k.clock at ≡ most k.clock (stamp log i) = ap (most k.clock) stamped in
                omega (arith, p, u, v, ahead, z))
            | inr t ↦ (let r : i ≡ c = omega arith in
                subst (λ c. most k.clock (stamp log c) + 1000000 * (count_of k.stream.id log i * k.stream.period) ≤ most k.clock (stamp log i) + 1000000 * (count_of k.stream.id log c * k.stream.period)) r (omega arith))
          ]);
          none_soon = λ e b c n m soon. fine a w far e b c n m soon;
        })

pub begins : (k : Lane) (log : List Entry) (clean : Bool) → IsWatched k log 0 None clean
begins k log clean = record {
  anchored = λ c a m. absurd (omega arith);
  strictest = λ e a s. absurd (cc);
  none_soon = λ e a b n m. absurd (omega arith);
}
