-- Streams by identifier, and how what was said of names goes on with the next entry.
use Rattle.std.proofs.Common.{◌≡◌, ◌∙◌, ℕ, ◌≤◌, ◌<◌, inl, inr, List, [], ◌∷◌, suc, length, get_or, refl, sym, ap, subst, arith, Bool, true, false, cond, Option, Some, None}
use Rattle.std.specs.Prelude.{◌==◌, ◌≢◌, ◌&&◌, option_map, All, Any, is_none}
use Rattle.std.specs.Option.{ForSome, option_map_or}
use Rattle.std.specs.List.{AllByRecursion as Each}
use Rattle.std.proofs.lemmas.Bool.{cases_lt}
use Rattle.std.proofs.lemmas.Bool.Decides.{nat_tests}
use Rattle.std.proofs.lemmas.List.{get_or_default}
use Rattle.std.proofs.lemmas.List.Elements.{All-from_recursion, All-contains}
use Rattle.std.proofs.lemmas.Option.{slice_get_read}
use Rattle.cop_rta.specs.declared.streams.Stream.{Stream}
use Rattle.cop_rta.specs.Streams.{place_of_id, AreDistinct}
use Rattle.cop_rta.proofs.IdentifierLemmas.{place_has_id}
use Rattle.cop_lines.specs.declared.entries.Entry.{Entry}
use Rattle.cop_log.specs.declared.findings.Finding.TheVariants.{Unknown, Length}
use Rattle.cop_log.specs.declared.naming.Naming.{Naming}
use Rattle.cop_log.specs.declared.naming.Naming.TheVariants as naming
use Rattle.cop_log.specs.Log.{Terms, entry_at, IsStrange, IsMisshapen, IsEvidence}
use Rattle.cop_log.specs.Watching.{AreNamed, IsNamed}
use Rattle.cop_log.specs.Watchers.{named_by}
use Rattle.cop_log.proofs.Watched.{left_true}

place_none : (ss : List Stream) (id : ℕ) → place_of_id ss id ≡ None → Each (λ k. k.id ≢ id) ss
place_none [] id e = tt
place_none (s ∷ ss) id e = go (s.id == id) refl (place_of_id ss id) refl e (place_none ss id)
  where
    go : (b : Bool) → (s.id == id) ≡ b → (o : Option ℕ) → place_of_id ss id ≡ o → cond b (Some 0) (option_map (λ k. suc k) o) ≡ None → (place_of_id ss id ≡ None → Each (λ k. k.id ≢ id) ss) → (s.id ≢ id) × Each (λ k. k.id ≢ id) ss
    go true t o p f r = absurd (cc)
    go false t (Some n) p f r = absurd (cc)
    go false t None p f r = (grind (arith, nat_tests), r p)

-- identifiers of streams are small
pub place_far : (ss : List Stream) (id : ℕ) → 2048 ≤ id → place_of_id ss id ≡ None
place_far [] id h = refl
place_far (s ∷ ss) id h = go (s.id == id) refl (place_far ss id h)
  where
    go : (b : Bool) → (s.id == id) ≡ b → place_of_id ss id ≡ None → cond b (Some 0) (option_map (λ k. suc k) (place_of_id ss id)) ≡ None
    go true t r = let e : s.id ≡ id = grind (arith, nat_tests) in let small = s.id_in_range in absurd (omega (arith, e, small, h))
    go false t r = ap (option_map (λ k. suc k)) r

pub nowhere : (ss : List Stream) (id : ℕ) → place_of_id ss id ≡ None → All (λ k. k.id ≢ id) ss
nowhere ss id e = All-from_recursion (λ k. k.id ≢ id) ss (place_none ss id e)

pub there : (ss : List Stream) (id n : ℕ) (x : Stream) → place_of_id ss id ≡ Some n → n < length ss → x ≡ get_or ss n x → x.id ≡ id
there ss id n x p l e = sym (ap (λ o. option_map_or (λ (s : Stream). s.id) o 0) (slice_get_read ss (length ss) n x refl l e)) ∙ place_has_id ss id n p

-- of distinct streams those of one identifier are one
pub all_of : (ss : List Stream) (n : ℕ) (x : Stream) (P : Stream → Type 0) → AreDistinct ss → n < length ss → x ≡ get_or ss n x → P x → All (λ k. k.id ≡ x.id → P k) ss
all_of ss n x P distinct l e h = λ i d m same. elim (cases_lt i n) [
  | inl a ↦ absurd (distinct i n d a l (same ∙ ap (λ (s : Stream). s.id) (e ∙ get_or_default ss n x d l)))
  | inr a ↦ elim (cases_lt n i) [
    | inl b ↦ absurd (distinct n i d b m (sym (same ∙ ap (λ (s : Stream). s.id) (e ∙ get_or_default ss n x d l))))
    | inr b ↦ (let q : n ≡ i = omega arith in subst (λ i. P (get_or ss i d)) q (subst P (e ∙ get_or_default ss n x d l) h))
  ]
]

pub weaken : (streams : List Stream) (log : List Entry) (i : ℕ) (c d : Bool) → (d ≡ true → c ≡ true) → AreNamed streams log i c → AreNamed streams log i d
weaken streams log i c d h w = record { none_strange = λ e. w.none_strange (h e); none_misshapen = λ e. w.none_misshapen (h e) }

pub begins : (streams : List Stream) (log : List Entry) (clean : Bool) → AreNamed streams log 0 clean
begins streams log clean = record { none_strange = λ e a l. absurd (omega arith); none_misshapen = λ e a l. absurd (omega arith) }

never : (c : Bool) → (c && false) ≡ true → ⊥
never true e = cc
never false e = cc

module _ (streams : List Stream) (log : List Entry) (i : ℕ) (clean : Bool) where
  pub known : Any (λ k. k.id ≡ (entry_at log i).id) streams → All (λ k. k.id ≡ (entry_at log i).id → k.bytes ≡ (entry_at log i).len) streams → AreNamed streams log i clean → AreNamed streams log (suc i) clean
  known k h w = record {
    none_strange = λ e j m a. elim (cases_lt j i) [
      | inl s ↦ w.none_strange e j s a
      | inr s ↦ (let q : j ≡ i = omega arith in
          subst (λ j. IsStrange streams (entry_at log j)) q a k.0 k.1 k.2 (ap (λ (s : Stream). s.id) k.3 ∙ k.4))
    ];
    none_misshapen = λ e j m a. elim (cases_lt j i) [
      | inl s ↦ w.none_misshapen e j s a
      | inr s ↦ (let q : j ≡ i = omega arith in
          let k = subst (λ j. IsMisshapen streams (entry_at log j)) q a in
          k.4.1 (All-contains (λ k. k.id ≡ (entry_at log i).id → k.bytes ≡ (entry_at log i).len) streams k.1 h (k.0, k.2, k.3) k.4.0))
    ];
  }

  pub named : (naming : Naming) → IsNamed streams (entry_at log i) naming → AreNamed streams log i clean → AreNamed streams log (suc i) (clean && is_none (named_by naming i))
  named naming.Known h w = weaken streams log (suc i) clean (clean && true) (left_true clean true) (known h.0 h.1 w)
  named naming.Unknown h w = record { none_strange = λ e. absurd (never clean e); none_misshapen = λ e. absurd (never clean e) }
  named naming.Length h w = record { none_strange = λ e. absurd (never clean e); none_misshapen = λ e. absurd (never clean e) }

pub evident : (t : Terms) (log : List Entry) (i : ℕ) → i < length log → (naming : Naming) → IsNamed t.streams (entry_at log i) naming → ForSome (named_by naming i) (IsEvidence t log)
evident t log i l naming.Known h = λ f e. absurd (cc)
evident t log i l naming.Unknown h = λ f e. let q : Unknown i ≡ f = cc in subst (IsEvidence t log) q (l, h)
evident t log i l naming.Length h = λ f e. let q : Length i ≡ f = cc in subst (IsEvidence t log) q (l, h)
