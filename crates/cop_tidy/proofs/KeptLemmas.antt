-- What stays of an accepted text.
use Rattle.std.proofs.Common.{◌≡◌, ◌≤◌, ◌⊎◌, inl, inr, ⊎_elim, ◌↔◌, ◌||◌, ℕ, Bool, true, false, IsTrue, List, Option, Some, None, Result, Ok, Err, IfSome, IfNone, IfOk, refl, ap, sym, subst, Contains, All}
use Rattle.std.proofs.lemmas.List.Elements.{All-contains_itself}
use Rattle.cop_dict.specs.Find.{Entry, IsSorted}
use Rattle.cop_dict.specs.Build.{built}
use Rattle.cop_dict.proofs.DictLemmas.{own_place}
use Rattle.cop_dict.proofs.BuildLemmas.{built_sorted}
use Rattle.cop_tidy_reading.specs.declared.words.Words.{Words}
use Rattle.cop_tidy.specs.declared.judging.Left.{Left}
use Rattle.cop_tidy.specs.declared.taking.Taken.{Taken}
use Rattle.cop_tidy.specs.Accepted.{IsAccepted}
use Rattle.cop_tidy.specs.Taken.{AreRatesOf, IsTaken}
use Rattle.cop_tidy.specs.Kept.{IsKept, AreKept, Stays, SupportsNone, SupportsSame, KeepsRates, Keeps, HasNone, HaveSame, AreAllKept}
use Rattle.cop_tidy.specs.declared.fault.TidyFault.{TidyFault}
use Rattle.cop_tidy.specs.declared.tidying.Tidied.{Tidied}
use Rattle.cop_tidy.specs.Standing.{misread, standing, Stands, IsTold, IsToldBy}
use Rattle.cop_tidy.proofs.StandingLemmas.{accepted_of, told_hazard}
use Rattle.cop_tidy.proofs.EachNode.{stays_for_each}

-- ---- the same text

own_kept : (dict : List Entry) → IsSorted dict → (entry : Entry) → Contains dict entry → IsKept dict dict entry
own_kept dict sorted entry there = inr (rw (own_place dict entry sorted there) (refl, refl))

all_kept : (dict : List Entry) → IsSorted dict → All (IsKept dict dict) dict
all_kept dict sorted k d h = own_kept dict sorted _ (All-contains_itself dict k d h)

same_kept : (before after : List Entry) → IsSorted before → before ≡ after → AreKept before after
unfolding AreKept
same_kept before after sorted e = let P : List Entry → Type 0 = λ dict. All (IsKept before dict) before in subst P e (all_kept before sorted)

stays_itself : (node : ℕ) (text : List ℕ) → Stays node text text
unfolding Stays
stays_itself node text before after e f = let h : before ≡ after = cc in same_kept before after (built_sorted text node before e) h

supports_itself : (text : List ℕ) → SupportsSame text text
unfolding SupportsSame
supports_itself text rate = ((λ says. says), (λ says. says))

keeps_itself : (text : List ℕ) → Keeps text text
keeps_itself text a = ((stays_itself 1 text, stays_itself 127 text), inr (supports_itself text))

-- ---- what is taken of two texts

module _ (old new : List ℕ) (before after : Taken) (o : IsTaken old before) (n : IsTaken new after) where
  stays_of : (node : ℕ) (first new_first : List Entry) → built old node ≡ Ok first → built new node ≡ Ok new_first → AreKept first new_first → Stays node old new
  unfolding Stays
  stays_of node first new_first e f kept before after g h =
      let a : first ≡ before = cc in
      let b : new_first ≡ after = cc in
      let P : List Entry → Type 0 = λ dict. AreKept dict new_first in
      let Q : List Entry → Type 0 = λ dict. AreKept before dict in
      subst Q b (subst P a kept)

  kept_of : (node : ℕ) (first new_first : List Entry) → built old node ≡ Ok first → built new node ≡ Ok new_first → Stays node old new → AreKept first new_first
  unfolding Stays
  kept_of node first new_first e f stays = stays first new_first e f

  rates_of : HasNone before.rates ⊎ HaveSame before.rates after.rates → KeepsRates old new
  unfolding HasNone HaveSame SupportsNone SupportsSame AreRatesOf
  rates_of (inl none) = inl (λ rate says. none rate ((o.rates rate).1 says))
  rates_of (inr same) = inr (λ rate. (λ says. (n.rates rate).0 ((same rate).0 ((o.rates rate).1 says)), λ says. (o.rates rate).0 ((same rate).1 ((n.rates rate).1 says))))

  rates_back : KeepsRates old new → HasNone before.rates ⊎ HaveSame before.rates after.rates
  unfolding HasNone HaveSame SupportsNone SupportsSame AreRatesOf
  rates_back (inl none) = inl (λ rate has. none rate ((o.rates rate).0 has))
  rates_back (inr same) = inr (λ rate. (λ has. (n.rates rate).1 ((same rate).0 ((o.rates rate).0 has)), λ has. (o.rates rate).1 ((same rate).1 ((n.rates rate).0 has))))

  keeps_of : AreAllKept before after → Keeps old new
  keeps_of k a = ((stays_of 1 before.first after.first o.first n.first k.0.0, stays_of 127 before.last after.last o.last n.last k.0.1), rates_of k.1)

  all_kept_of : IsAccepted old → Keeps old new → AreAllKept before after
  all_kept_of a keeps =
      let k = keeps a in
      ((kept_of 1 before.first after.first o.first n.first k.0.0, kept_of 127 before.last after.last o.last n.last k.0.1), rates_back k.1)

-- ---- what is told

none_kept : (old new : List ℕ) → (IsAccepted old → ⊥) → Keeps old new
none_kept old new not a = absurd (not a)

told_by : (words : Words) (source text : List ℕ) (found told : Left) → told ≡ found → Stands words source (Some found) → Keeps source text → IsTold words source text (Some told)
told_by words source text found told e s k = inl (subst (λ (l : Left). Stands words source (Some l)) (sym e) s, k)

pub told_as : (words : Words) (source text : List ℕ) (found : Left) (before : Option Taken) (after : Taken) (told : Left) → Stands words source (Some found)
    → IfSome before (IsTaken source) → IfSome before (λ _. IsAccepted source) → IfNone before (IsAccepted source → ⊥) → IsTaken text after → IsToldBy found before after told
    → IsTold words source text (Some told)
told_as words source text found None after told s taken accepted not n e = told_by words source text found told e s (none_kept source text not)
told_as words source text found (Some before) after told s taken accepted not n (inl k) =
    told_by words source text found told k.1 s (keeps_of source text before after taken n k.0)
told_as words source text found (Some before) after told s taken accepted not n (inr k) =
    inr (ap (λ (l : Left). Some l) k.1, λ keeps. k.0 (all_kept_of source text before after taken n accepted keeps))

-- a text that comes back as it is
pub told_same : (words : Words) (text result : List ℕ) (found : Option Left) → Stands words text found → result ≡ text → IsTold words text result found
told_same words text result found s e = inl (s, subst (λ t. Keeps text t) (sym e) (keeps_itself text))

keeps_told : (words : Words) (text result : List ℕ) (found : Option Left) → IsTold words text result found → (found ≡ Some misread → ⊥) → Keeps text result
keeps_told words text result found (inl h) not = h.1
keeps_told words text result found (inr h) not = absurd (not h.0)

pub stays_told : (words : Words) (text result : List ℕ) (found : Option Left) → IsTold words text result found → IsAccepted result → (node : ℕ) → IsAccepted text → (found ≡ Some misread → ⊥)
    → Stays node text result
stays_told words text result found told b node a not =
    let k = keeps_told words text result found told not a in
    stays_for_each text result node a b k.0.0 k.0.1

pub rates_told : (words : Words) (text result : List ℕ) (found : Option Left) → IsTold words text result found → IsAccepted text → (found ≡ Some misread → ⊥) → KeepsRates text result
rates_told words text result found told a not = let k = keeps_told words text result found told not a in k.1

-- one of two holds
pub either_kept : (a b : Bool) (A B : Type 0) → (IsTrue b ↔ B) → IsTrue (a || b) ↔ ((a ≡ true) ⊎ B)
either_kept true b A B h = (λ t. inl refl, λ e. refl)
either_kept false b A B h = (λ t. inr (h.0 t), λ e. ⊎_elim (λ no. cc) (λ is. h.1 is) e)

-- ---- the same of a result

pub all_hazards : (words : Words) (text : List ℕ) (r : Result Tidied TidyFault) → IfOk r (λ t. IsTold words text t.text.items t.found)
    → IfOk r (λ t. IfSome t.found (λ left. IsAccepted text → 80 ≤ left.number))
all_hazards words text (Ok t) h = told_hazard words text t.text.items t.found h
all_hazards words text (Err fault) h = tt

pub all_stay : (words : Words) (text : List ℕ) (r : Result Tidied TidyFault) → IfOk r (λ t. IsTold words text t.text.items t.found) → IfOk r (λ t. standing words t.text.items ≡ None)
    → IfOk r (λ t. (node : ℕ) → IsAccepted text → (t.found ≡ Some misread → ⊥) → Stays node text t.text.items)
all_stay words text (Ok t) h s = stays_told words text t.text.items t.found h (accepted_of words t.text.items s)
all_stay words text (Err fault) h s = tt
