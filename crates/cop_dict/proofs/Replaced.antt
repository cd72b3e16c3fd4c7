-- An accepted write replaces one value.
use Rattle.std.proofs.Common.{◌≡◌, ℕ, Bool, true, false, cond, List, [], ◌∷◌, map, refl, ap, sym, ◌∙◌, subst, Option, Some, None, Ok, option_map}
use Rattle.cop_dict.specs.declared.abort.Abort.{Abort}
use Rattle.cop_dict.specs.Rules.{first_broken, value_rules}
use Rattle.cop_dict.specs.Pdo.{refused_by_pdos}
use Rattle.cop_dict.specs.Find.{Entry, is_at, entry_at, IsSorted}
use Rattle.cop_dict.specs.Dict.{found, written, with_value, valued, as_built, reset_communication, initial, initial_communication, unless_broken, Replaces, ◌>>=◌}
use Rattle.cop_dict.proofs.DictLemmas.{sorted_map, valued_kept, built_kept, reset_kept}
use Rattle.cop_dict.proofs.LawLemmas.{others}

-- a change of each entry that keeps addresses changes what stands at an address
pub found_map : (f : Entry → Entry) → ((e : Entry) → ((f e).index ≡ e.index) × ((f e).sub ≡ e.sub)) → (dict : List Entry) (index sub : ℕ)
    → entry_at (map f dict) index sub ≡ option_map f (entry_at dict index sub)
found_map f kept [] index sub = refl
found_map f kept (e ∷ dict) index sub =
    let same : is_at index sub (f e) ≡ is_at index sub e = same_place e (f e) (kept e).0 (kept e).1 in
    rw same (by_test (is_at index sub e) (found_map f kept dict index sub))
  where
    same_place : (a b : Entry) → b.index ≡ a.index → b.sub ≡ a.sub → is_at index sub b ≡ is_at index sub a
    same_place a b i s = rw (i, s) refl

    by_test : (b : Bool) → entry_at (map f dict) index sub ≡ option_map f (entry_at dict index sub)
        → cond b (Some (f e)) (entry_at (map f dict) index sub) ≡ option_map f (cond b (Some e) (entry_at dict index sub))
    by_test true h = refl
    by_test false h = h

pub value_replaced : (dict : List Entry) (index sub : ℕ) (bytes : List ℕ) → entry_at (with_value index sub bytes dict) index sub ≡ option_map (valued bytes) (entry_at dict index sub)
value_replaced [] index sub bytes = refl
value_replaced (e ∷ dict) index sub bytes = by_test (is_at index sub e) refl (value_replaced dict index sub bytes)
  where
    by_test : (b : Bool) → is_at index sub e ≡ b → entry_at (with_value index sub bytes dict) index sub ≡ option_map (valued bytes) (entry_at dict index sub)
        → entry_at (cond b (valued bytes e) e ∷ with_value index sub bytes dict) index sub ≡ option_map (valued bytes) (cond b (Some e) (entry_at dict index sub))
    by_test true t h = rw t refl
    by_test false t h = rw t h

-- what an accepted write leaves, and that it was there
pub record Accepts (dict new : List Entry) (index sub : ℕ) (bytes : List ℕ) : Type 0 where
  pub entry : Entry
  pub at : entry_at dict index sub ≡ Some entry
  pub same : new ≡ with_value index sub bytes dict

pub accepts : (dict new : List Entry) (index sub : ℕ) (bytes : List ℕ) → written dict index sub bytes ≡ Ok new → Accepts dict new index sub bytes
unfolding written
accepts dict new index sub bytes h = by_entry (entry_at dict index sub) refl h
  where
    by_pdos : (e : Entry) → entry_at dict index sub ≡ Some e → (b : Option Abort) → unless_broken b (with_value index sub bytes dict) ≡ Ok new → Accepts dict new index sub bytes
    by_pdos e at (Some x) h = cc
    by_pdos e at None h = record { entry = e; at = at; same = cc }

    by_rules : (e : Entry) → entry_at dict index sub ≡ Some e → (a : Option Abort)
        → ((unless_broken a e) >>= λ checked. unless_broken (refused_by_pdos dict checked bytes) (with_value index sub bytes dict)) ≡ Ok new → Accepts dict new index sub bytes
    by_rules e at (Some x) h = cc
    by_rules e at None h = by_pdos e at (refused_by_pdos dict e bytes) h

    by_entry : (o : Option Entry) → entry_at dict index sub ≡ o
        → (found dict index o >>= λ entry. unless_broken (first_broken (value_rules entry.description bytes)) entry >>= λ checked. unless_broken (refused_by_pdos dict checked bytes) (with_value index sub bytes dict)) ≡ Ok new
        → Accepts dict new index sub bytes
    by_entry None at h = cc
    by_entry (Some e) at h = by_rules e at (first_broken (value_rules e.description bytes)) h

-- an accepted write breaks no rule of the entry
pub unbroken : (dict new : List Entry) (index sub : ℕ) (bytes : List ℕ) (e : Entry) → entry_at dict index sub ≡ Some e → written dict index sub bytes ≡ Ok new
    → first_broken (value_rules e.description bytes) ≡ None
unfolding written
unbroken dict new index sub bytes e at h = by_rules (first_broken (value_rules e.description bytes)) refl (rw at at h)
  where
    by_rules : (a : Option Abort) → first_broken (value_rules e.description bytes) ≡ a
        → ((unless_broken a e) >>= λ checked. unless_broken (refused_by_pdos dict checked bytes) (with_value index sub bytes dict)) ≡ Ok new
        → first_broken (value_rules e.description bytes) ≡ None
    by_rules None is h = is
    by_rules (Some x) is h = cc

-- nor a rule on PDOs
pub allowed : (dict new : List Entry) (index sub : ℕ) (bytes : List ℕ) (e : Entry) → entry_at dict index sub ≡ Some e → written dict index sub bytes ≡ Ok new
    → refused_by_pdos dict e bytes ≡ None
unfolding written
allowed dict new index sub bytes e at h = by_rules (first_broken (value_rules e.description bytes)) (rw at at h)
  where
    by_pdos : (b : Option Abort) → refused_by_pdos dict e bytes ≡ b → unless_broken b (with_value index sub bytes dict) ≡ Ok new → refused_by_pdos dict e bytes ≡ None
    by_pdos None is h = is
    by_pdos (Some x) is h = cc

    by_rules : (a : Option Abort) → ((unless_broken a e) >>= λ checked. unless_broken (refused_by_pdos dict checked bytes) (with_value index sub bytes dict)) ≡ Ok new
        → refused_by_pdos dict e bytes ≡ None
    by_rules None h = by_pdos (refused_by_pdos dict e bytes) refl h
    by_rules (Some x) h = cc

pub written_replaces : (dict new : List Entry) (index sub : ℕ) (bytes : List ℕ) → written dict index sub bytes ≡ Ok new → Replaces dict new index sub bytes
written_replaces dict new index sub bytes h =
    let a = accepts dict new index sub bytes h in
    rw a.same
    (record {
      there = ap (option_map (λ y. y.value)) (value_replaced dict index sub bytes ∙ ap (option_map (valued bytes)) a.at);
      kept = value_replaced dict index sub bytes;
      others = λ other part apart. others dict index sub other part bytes apart;
    })

pub written_sorted : (dict new : List Entry) (index sub : ℕ) (bytes : List ℕ) → IsSorted dict → written dict index sub bytes ≡ Ok new → IsSorted new
written_sorted dict new index sub bytes sorted h =
    let a = accepts dict new index sub bytes h in
    subst IsSorted (sym a.same) (sorted_map (λ e. cond (is_at index sub e) (valued bytes e) e) (valued_kept index sub bytes) dict sorted)

pub pointwise : (dict : List Entry) (index sub : ℕ) → (entry_at (initial dict) index sub ≡ option_map as_built (entry_at dict index sub))
    × (entry_at (initial_communication dict) index sub ≡ option_map reset_communication (entry_at dict index sub))
pointwise dict index sub = (found_map as_built built_kept dict index sub, found_map reset_communication reset_kept dict index sub)
