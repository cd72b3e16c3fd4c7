-- What is refused before the bytes come is refused with them, for the same reason.
use Rattle.std.proofs.Common.{◌≡◌, ℕ, Bool, true, false, not, List, [], ◌∷◌, length, refl, ap, nat_lt, Option, Some, None, Result, Ok, Err, IfSome}
use Rattle.cop_dict.specs.Types.{width_of, is_opaque, is_writable}
use Rattle.cop_dict.specs.declared.abort.Abort.{Abort}
use Rattle.cop_dict.specs.declared.abort.Abort.TheVariants as aborts
use Rattle.cop_dict.specs.declared.description.Description.{Description}
use Rattle.cop_dict.specs.Number.{number}
use Rattle.cop_dict.specs.Rules.{first_broken, access_rules, size_rules, width_rules, number_rules}
use Rattle.cop_dict.specs.Find.{Entry, entry_at}
use Rattle.cop_dict.specs.Dict.{found, written, admitted, unless_broken}

refused_rules : (opaque closed : Bool) (width size : Option ℕ) (d : Description) (bytes : List ℕ) (a : Abort) → IfSome size (λ n. length bytes ≡ n)
    → first_broken ((opaque, aborts.OpaqueType) ∷ (closed, aborts.ReadOnly) ∷ size_rules width size) ≡ Some a
    → first_broken ((opaque, aborts.OpaqueType) ∷ (closed, aborts.ReadOnly) ∷ width_rules d width bytes) ≡ Some a
refused_rules true closed width size d bytes a n h = h
refused_rules false true width size d bytes a n h = h
refused_rules false false None None d bytes a n h = cc
refused_rules false false None (Some size) d bytes a n h = cc
refused_rules false false (Some width) None d bytes a n h = cc
refused_rules false false (Some width) (Some size) d bytes a n h = rw n (sizes (nat_lt width size) (nat_lt size width) h)
  where
    sizes : (long short : Bool)
        → first_broken ((long, aborts.TooLong) ∷ (short, aborts.TooShort) ∷ []) ≡ Some a
        → first_broken ((long, aborts.TooLong) ∷ (short, aborts.TooShort) ∷ number_rules d (number bytes)) ≡ Some a
    sizes true short h = h
    sizes false true h = h
    sizes false false h = cc

refused_found : (dict : List Entry) (index sub : ℕ) (size : Option ℕ) (bytes : List ℕ) (a : Abort) (r : Result Entry Abort)
    → found dict index (entry_at dict index sub) ≡ r → IfSome size (λ n. length bytes ≡ n)
    → admitted dict index sub size ≡ Err a → written dict index sub bytes ≡ Err a
unfolding admitted written
refused_found dict index sub size bytes a (Err b) here n h =
    let left = rw here at h in
    let same : b ≡ a = cc in
    rw here (ap Err same)
refused_found dict index sub size bytes a (Ok e) here n h =
    let left = rw here at h in
    let broken = broken_by (first_broken (access_rules e.description size)) (width_of e.description.data_type) left in
    rw here (rw (refused_rules (is_opaque e.description.data_type) (not (is_writable e.description.access)) (width_of e.description.data_type) size e.description bytes a n broken) refl)
  where
    broken_by : (o : Option Abort) (w : Option ℕ) → unless_broken o w ≡ Err a → o ≡ Some a
    broken_by None w h = cc
    broken_by (Some b) w h = cc

-- what is refused before the bytes come is refused with them, if they are as many as stated
pub refused_with_bytes : (dict : List Entry) (index sub : ℕ) (size : Option ℕ) (bytes : List ℕ) (a : Abort) → IfSome size (λ n. length bytes ≡ n)
    → admitted dict index sub size ≡ Err a → written dict index sub bytes ≡ Err a
refused_with_bytes dict index sub size bytes a n h = refused_found dict index sub size bytes a (found dict index (entry_at dict index sub)) refl n h
