-- A table and a rate have one report.
use Rattle.std.proofs.Common.{◌≡◌, ◌↔◌, ℕ, suc, ◌<◌, Bool, true, false, IsTrue, List, [], ◌∷◌, length, map, get_or, All, arith, refl, sym, ◌∙◌, subst, Ok, Result}
use Rattle.cop_frame.specs.declared.rates.Rate.{Rate}
use Rattle.cop_rta.specs.declared.streams.Stream.{Stream}
use Rattle.cop_rta.specs.declared.tables.Refusal.{Refusal}
use Rattle.cop_rta.specs.declared.verdicts.Verdict.{Verdict}
use Rattle.cop_rta.specs.declared.verdicts.Verdict.TheVariants.{Long}
use Rattle.cop_rta.specs.Test.{place_by_id}
use Rattle.cop_rta.specs.Verdict.{IsPass}
use Rattle.cop_rta.specs.Entries.{Entry, entry_of}
use Rattle.cop_rta.proofs.StreamLemmas.{streams_same}
use Rattle.cop_rta.proofs.VerdictLemmas.{judged_same}
use Rattle.cop_engine.specs.Tests.{AreVerdicts, IsReport}

verdicts_same : (vs ws : List Verdict) → length vs ≡ length ws → ((k : ℕ) → k < length vs → get_or vs k Long ≡ get_or ws k Long) → vs ≡ ws
verdicts_same [] [] e h = refl
verdicts_same [] (y ∷ ys) e h = absurd (omega (arith, e))
verdicts_same (x ∷ xs) [] e h = absurd (omega (arith, e))
verdicts_same (x ∷ xs) (y ∷ ys) e h =
    let head : x ≡ y = h 0 (omega arith) in
    rw (head, verdicts_same xs ys (omega (arith, e)) (λ k below. h (suc k) (omega arith))) refl

pub all_verdicts_same : (rate : Rate) (streams : List Stream) (vs ws : List Verdict) (count : ℕ) → AreVerdicts rate streams vs count → AreVerdicts rate streams ws count → vs ≡ ws
all_verdicts_same rate streams vs ws count x y =
    verdicts_same vs ws (x.0 ∙ sym y.0)
    (λ k below. judged_same (place_by_id streams k rate) _ _ (x.1 k (omega (arith, below, x.0))) (y.1 k (omega (arith, below, x.0))))

verdicts_equal : (rate : Rate) (ss ts : List Stream) (vs ws : List Verdict) → ss ≡ ts
    → AreVerdicts rate ss vs (length ss) → AreVerdicts rate ts ws (length ts) → vs ≡ ws
verdicts_equal rate ss ts vs ws e judged other = let mine = rw e at judged in all_verdicts_same rate ts vs ws (length ts) mine other

-- what says whether all members of a list have a property is one for a list
pub all_same : {X : Type 0} (P : X → Type 0) (xs ys : List X) (a b : Bool) → xs ≡ ys → (IsTrue a ↔ All P xs) → (IsTrue b ↔ All P ys) → a ≡ b
all_same P xs ys true true e x y = refl
all_same P xs ys false false e x y = refl
all_same P xs ys true false e x y = sym (y.1 (subst (λ l. All P l) e (x.0 refl)))
all_same P xs ys false true e x y = x.1 (subst (λ l. All P l) (sym e) (y.0 refl))

pub one_report : (rate : Rate) (text a b : List ℕ) (c d : Bool) → IsReport rate text a c → IsReport rate text b d → (a ≡ b) × (c ≡ d)
one_report rate text a b c d x y =
    let read : ◌≡◌ {A = Result (List Entry) Refusal} (Ok (map entry_of x.streams)) (Ok (map entry_of y.streams)) = sym x.read ∙ y.read in
    let entries : map entry_of x.streams ≡ map entry_of y.streams = cc in
    let streams : x.streams ≡ y.streams = streams_same x.streams y.streams entries in
    let verdicts : x.verdicts ≡ y.verdicts = verdicts_equal rate x.streams y.streams x.verdicts y.verdicts streams x.judged y.judged in
    (x.lines ∙ rw (streams, verdicts) refl ∙ sym y.lines, all_same IsPass x.verdicts y.verdicts c d verdicts x.all_pass y.all_pass)
