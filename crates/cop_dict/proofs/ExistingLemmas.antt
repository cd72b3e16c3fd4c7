-- What no accepted write changes while a PDO exists.
use Rattle.std.proofs.Common.{◌≡◌, ◌+◌, ◌-◌, ◌%◌, ◌^◌, ◌==◌, ℕ, Bool, true, false, not, ◌&&◌, cond, nat_lt, List, [], ◌∷◌, Some, None, Ok, option_and_then, refl, ap, sym, ◌∙◌, arith}
use Rattle.std.specs.Option.{option_or}
use Rattle.std.proofs.lemmas.Bool.{eqb-true, and_parts}
use Rattle.std.proofs.lemmas.Bool.Decides.{nat_tests}
use Rattle.cop_dict.specs.declared.abort.Abort.TheVariants as aborts
use Rattle.cop_dict.specs.Number.{number}
use Rattle.cop_dict.specs.Rules.{first_broken}
use Rattle.cop_dict.specs.Types.{is_unsigned32}
use Rattle.cop_dict.specs.Find.{Entry, is_at, entry_at, unsigned32_of}
use Rattle.cop_dict.specs.Pdo.{is_communication, is_mapping, is_cob_id, exists_by, pdo_exists, names_restricted, cob_id_rules, cob_id_at, has_entries, refused_count, refused_mapping, refused_by_pdos}
use Rattle.cop_dict.specs.Dict.{written, with_value, valued}
use Rattle.cop_dict.proofs.LawLemmas.{others}
use Rattle.cop_dict.proofs.Replaced.{accepts, allowed, value_replaced}

-- what is found somewhere stands there
found_there : (dict : List Entry) (index sub : ℕ) (e : Entry) → entry_at dict index sub ≡ Some e → (e.index ≡ index) × (e.sub ≡ sub)
found_there [] index sub e h = cc
found_there (x ∷ dict) index sub e h = by_test (is_at index sub x) refl h (found_there dict index sub e)
  where
    by_test : (b : Bool) → is_at index sub x ≡ b → cond b (Some x) (entry_at dict index sub) ≡ Some e
        → (entry_at dict index sub ≡ Some e → (e.index ≡ index) × (e.sub ≡ sub)) → (e.index ≡ index) × (e.sub ≡ sub)
    by_test true t h later =
        let same : x ≡ e = cc in
        let p = and_parts (x.index == index) (x.sub == sub) t in
        rw (← same) (eqb-true x.index index p.0, eqb-true x.sub sub p.1)
    by_test false t h later = later h

-- the mapping record of a PDO is one, and is none of its communication records
mapping_of_pdo : (pdo : ℕ) → is_communication pdo ≡ true → (is_mapping (pdo + 0x200) ≡ true) × (is_communication (pdo + 0x200) ≡ false)
mapping_of_pdo pdo h = (grind (arith, nat_tests), grind (arith, nat_tests))

same_pdo : (pdo : ℕ) → (pdo + 0x200) - 0x200 ≡ pdo
same_pdo pdo = omega arith

refused_existing : (dict : List Entry) (e : Entry) (bytes : List ℕ) (pdo : ℕ) → e.index ≡ pdo + 0x200 → is_communication pdo ≡ true → pdo_exists dict pdo ≡ true
    → refused_by_pdos dict e bytes ≡ None → ⊥
unfolding refused_by_pdos
refused_existing dict e bytes pdo at is exists h =
    let p = mapping_of_pdo pdo is in
    let no_cob_id : is_cob_id e ≡ false = rw (at, p.1) refl in
    let maps : is_mapping e.index ≡ true = rw at p.0 in
    let there : pdo_exists dict (e.index - 0x200) ≡ true = rw (at, same_pdo pdo) exists in
    let refused : refused_mapping dict e (number bytes) ≡ None = rw (no_cob_id, maps) at h in
    by_exists (pdo_exists dict (e.index - 0x200)) there refused
  where
    by_exists : (b : Bool) → b ≡ true
        → option_or (first_broken ((b, aborts.DeviceState) ∷ (nat_lt 0 e.sub && has_entries dict e.index, aborts.DeviceState) ∷ [])) (refused_count dict e (number bytes)) ≡ None → ⊥
    by_exists true t h = cc
    by_exists false t h = cc

pub mapping_stays : (dict new : List Entry) (index sub pdo part : ℕ) (bytes : List ℕ) → written dict index sub bytes ≡ Ok new → is_communication pdo ≡ true
    → pdo_exists dict pdo ≡ true → entry_at new (pdo + 0x200) part ≡ entry_at dict (pdo + 0x200) part
mapping_stays dict new index sub pdo part bytes h is exists =
    let a = accepts dict new index sub bytes h in
    rw a.same (by_test a.entry a.at ((index == pdo + 0x200) && (sub == part)) refl)
  where
    by_test : (e : Entry) → entry_at dict index sub ≡ Some e → (b : Bool) → ((index == pdo + 0x200) && (sub == part)) ≡ b
        → entry_at (with_value index sub bytes dict) (pdo + 0x200) part ≡ entry_at dict (pdo + 0x200) part
    by_test e at true t =
        let here = eqb-true index (pdo + 0x200) (and_parts (index == pdo + 0x200) (sub == part) t).0 in
        absurd (refused_existing dict e bytes pdo ((found_there dict index sub e at).0 ∙ here) is exists (allowed dict new index sub bytes e at h))
    by_test e at false t = others dict index sub (pdo + 0x200) part bytes t

-- an accepted COB-ID keeps the bits of one that exists
unmoved : (e : Entry) (new before : ℕ) → unsigned32_of e ≡ Some before → exists_by before ≡ true → first_broken (cob_id_rules e new) ≡ None → new % 2 ^ 30 ≡ before % 2 ^ 30
unmoved e new before is exists h = by_test (before % 2 ^ 30 == new % 2 ^ 30) refl (rw (is, exists) at h)
  where
    by_test : (b : Bool) → (before % 2 ^ 30 == new % 2 ^ 30) ≡ b → first_broken ((not b, aborts.DeviceState) ∷ (names_restricted new, aborts.InvalidValue) ∷ []) ≡ None → new % 2 ^ 30 ≡ before % 2 ^ 30
    by_test true t h = sym (eqb-true (before % 2 ^ 30) (new % 2 ^ 30) t)
    by_test false t h = cc

valued_number : (e : Entry) (bytes : List ℕ) (before after : ℕ) → unsigned32_of e ≡ Some before → unsigned32_of (valued bytes e) ≡ Some after → after ≡ number bytes
valued_number e bytes before after is now = by_type (is_unsigned32 e.description.data_type) now
  where
    by_type : (b : Bool) → cond b (Some (number bytes)) None ≡ Some after → after ≡ number bytes
    by_type true h = cc
    by_type false h = cc

pub identifier_stays : (dict new : List Entry) (index sub pdo before after : ℕ) (bytes : List ℕ) → written dict index sub bytes ≡ Ok new → is_communication pdo ≡ true
    → cob_id_at dict pdo ≡ Some before → exists_by before ≡ true → cob_id_at new pdo ≡ Some after → after % 2 ^ 30 ≡ before % 2 ^ 30
unfolding refused_by_pdos
identifier_stays dict new index sub pdo before after bytes h is was exists now =
    let a = accepts dict new index sub bytes h in
    by_test a.entry a.at ((index == pdo) && (sub == 1)) refl (rw a.same at now)
  where
    here : (e : Entry) → entry_at dict pdo 1 ≡ Some e → refused_by_pdos dict e bytes ≡ None → cob_id_at (with_value pdo 1 bytes dict) pdo ≡ Some after → after % 2 ^ 30 ≡ before % 2 ^ 30
    here e at free now =
        let place = found_there dict pdo 1 e at in
        let cob : is_cob_id e ≡ true = rw (place.0, place.1, is) refl in
        let old : unsigned32_of e ≡ Some before = rw at at was in
        let set : unsigned32_of (valued bytes e) ≡ Some after = rw (value_replaced dict pdo 1 bytes, at) at now in
        let rules : first_broken (cob_id_rules e (number bytes)) ≡ None = rw cob at free in
        ap (λ n. n % 2 ^ 30) (valued_number e bytes before after old set) ∙ unmoved e (number bytes) before old exists rules

    by_test : (e : Entry) → entry_at dict index sub ≡ Some e → (b : Bool) → ((index == pdo) && (sub == 1)) ≡ b
        → cob_id_at (with_value index sub bytes dict) pdo ≡ Some after → after % 2 ^ 30 ≡ before % 2 ^ 30
    by_test e at true t now =
        let p = and_parts (index == pdo) (sub == 1) t in
        let i : index ≡ pdo = eqb-true index pdo p.0 in
        let s : sub ≡ 1 = eqb-true sub 1 p.1 in
        here e (rw (i, s) at at) (allowed dict new index sub bytes e at h) (rw (i, s) at now)
    by_test e at false t now =
        let same : Some after ≡ Some before = sym now ∙ ap (option_and_then unsigned32_of) (others dict index sub pdo 1 bytes t) ∙ was in
        let is : after ≡ before = cc in
        ap (λ n. n % 2 ^ 30) is
