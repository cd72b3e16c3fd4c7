-- How what was watched of the stamps goes on with the next entry.
use Rattle.std.proofs.Common.{◌≡◌, ℕ, ◌≤◌, ◌<◌, inl, inr, List, suc, length, refl, sym, ap, subst, arith, Bool, true, false}
use Rattle.std.specs.Prelude.{◌&&◌, Option, Some, None}
use Rattle.std.proofs.lemmas.Bool.{cases_lt}
use Rattle.cop_lines.specs.declared.entries.Entry.{Entry}
use Rattle.cop_log.specs.declared.clocks.Clock.{Clock}
use Rattle.cop_log.specs.declared.anchors.Top.{Top}
use Rattle.cop_log.specs.declared.findings.Finding.TheVariants.{Fallen}
use Rattle.cop_log.specs.Log.{entry_at, stamp, most, IsLower, IsFallen, IsEvidence}
use Rattle.cop_log.specs.Watching.{IsTop, IsTopped, IsGreatest, IsRising, IsRisen}
use Rattle.cop_log.proofs.Watched.{left_true}

pub weaken : (clock : Clock) (log : List Entry) (i : ℕ) (top : Option Top) (c d : Bool) → (d ≡ true → c ≡ true) → IsRising clock log i top c → IsRising clock log i top d
weaken clock log i top c d h w = record { topped = weaker top w.topped; greatest = λ e. w.greatest (h e); none_fallen = λ e. w.none_fallen (h e) }
  where
    weaker : (top : Option Top) → IsTopped log i top c → IsTopped log i top d
    weaker None g = λ e. g (h e)
    weaker (Some x) g = g

module _ (clock : Clock) (log : List Entry) (i : ℕ) (l : i < length log) (clean : Bool) (entry : Entry) (is : entry ≡ entry_at log i) where
  abbrev fresh : Top
  fresh = record { from = i; entry = entry }

  same : most clock entry.at ≡ most clock (stamp log i)
  same = ap (λ (e : Entry). most clock e.at) is

  -- nothing is shown of it
  shows_nothing : (x : Top) → IsRising clock log (suc i) (Some x) clean → IsRisen clock log i clean x None
  shows_nothing x w = record {
    evident = λ f e. absurd (cc);
    rising = weaken clock log (suc i) (Some x) clean (clean && true) (left_true clean true) w;
  }

  -- the newest entry is the greatest
  itself : ((a : ℕ) → a < i → most clock (stamp log a) ≤ most clock entry.at) → IsGreatest clock log (suc i) fresh
  itself h = λ a m. elim (cases_lt a i) [
    | inl s ↦ h a s
    | inr s ↦ (let r : i ≡ a = omega arith in let e = same in subst (λ a. most clock (stamp log a) ≤ most clock entry.at) r (omega (arith, e)))
  ]

  fresh-top : IsTop log (suc i) fresh
  fresh-top = (omega arith, is)

  pub first : IsRising clock log i None clean → IsRisen clock log i clean fresh None
  first w = shows_nothing fresh (record {
    topped = fresh-top;
    greatest = λ e x s. let q : fresh ≡ x = cc in subst (IsGreatest clock log (suc i)) q (itself (λ a m. absurd (let none = w.topped e in omega arith)));
    none_fallen = λ e a b m f. absurd (let none = w.topped e in let o = f.ordered in omega arith);
  })

  pub told : (x : Top) → IsRising clock log i (Some x) clean → IsLower clock x.entry.at entry.at → IsRisen clock log i clean fresh (Some (Fallen x.from i))
  told x w lower =
      let u : most clock x.entry.at ≡ most clock (stamp log x.from) = ap (λ (e : Entry). most clock e.at) w.topped.1 in
      let v = same in
      let f : IsFallen clock log x.from i = record { ordered = w.topped.0; within = l; lower = omega (arith, u, v, lower) } in
      record {
        evident = λ g e t same_clock. let q : Fallen x.from i ≡ g = cc in subst (IsEvidence t log) q (subst (λ clock. IsFallen clock log x.from i) (sym same_clock) f);
        rising = record {
          topped = fresh-top;
          greatest = λ e. absurd (never clean e);
          none_fallen = λ e. absurd (never clean e);
        };
      }
    where
      never : (c : Bool) → (c && false) ≡ true → ⊥
      never true e = cc
      never false e = cc

  -- where it is not lower than the greatest, it is lower than none
  fine : (x : Top) → IsRising clock log i (Some x) clean → (IsLower clock x.entry.at entry.at → ⊥) → clean ≡ true → (a b : ℕ) → b < suc i → IsFallen clock log a b → ⊥
  fine x w far e a b m f = elim (cases_lt b i) [
    | inl s ↦ w.none_fallen e a b s f
    | inr s ↦ (let q : b ≡ i = omega arith in
        let here = subst (λ b. IsFallen clock log a b) q f in
        let g = w.greatest e x refl a here.ordered in
        let lower = here.lower in
        let v = same in
        far (omega (arith, g, lower, v)))
  ]

  pub stays : (x : Top) → IsRising clock log i (Some x) clean → (IsLower clock x.entry.at entry.at → ⊥) → most clock entry.at ≤ most clock x.entry.at → IsRisen clock log i clean x None
  stays x w far behind = shows_nothing x (record {
    topped = ((let m = w.topped.0 in omega arith), w.topped.1);
    greatest = λ e y s. let q : x ≡ y = cc in subst (IsGreatest clock log (suc i)) q (λ a m. elim (cases_lt a i) [
      | inl t ↦ w.greatest e x refl a t
      | inr t ↦ (let r : i ≡ a = omega arith in let v = same in subst (λ a. most clock (stamp log a) ≤ most clock x.entry.at) r (omega (arith, v, behind)))
    ]);
    none_fallen = fine x w far;
  })

  pub goes_up : (x : Top) → IsRising clock log i (Some x) clean → (IsLower clock x.entry.at entry.at → ⊥) → most clock x.entry.at < most clock entry.at → IsRisen clock log i clean fresh None
  goes_up x w far ahead = shows_nothing fresh (record {
    topped = fresh-top;
    greatest = λ e y s. let q : fresh ≡ y = cc in subst (IsGreatest clock log (suc i)) q (itself (λ a t. let g = w.greatest e x refl a t in omega (arith, g, ahead)));
    none_fallen = fine x w far;
  })

pub begins : (clock : Clock) (log : List Entry) (clean : Bool) → IsRising clock log 0 None clean
begins clock log clean = record {
  topped = λ e. refl;
  greatest = λ e x s. absurd (cc);
  none_fallen = λ e a b m. absurd (omega arith);
}
