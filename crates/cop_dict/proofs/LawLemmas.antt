-- A write at one place leaves the others.
use Rattle.std.proofs.Common.{◌≡◌, ℕ, Bool, true, false, cond, ◌&&◌, List, [], ◌∷◌, Some, refl, ap, arith, ◌==◌}
use Rattle.std.proofs.lemmas.Bool.Decides.{nat_tests}
use Rattle.cop_dict.specs.Find.{Entry, is_at, entry_at}
use Rattle.cop_dict.specs.Dict.{with_value}

apart : (x y index sub other part : ℕ) → (x == index) && (y == sub) ≡ true → (index == other) && (sub == part) ≡ false → (x == other) && (y == part) ≡ false
apart x y index sub other part here other_place = grind (arith, nat_tests)

step : (e : Entry) (dict : List Entry) (index sub other part : ℕ) (bytes : List ℕ) (a : Bool) → is_at index sub e ≡ a → (index == other) && (sub == part) ≡ false
    → entry_at (with_value index sub bytes dict) other part ≡ entry_at dict other part
    → entry_at (with_value index sub bytes (e ∷ dict)) other part ≡ entry_at (e ∷ dict) other part
step e dict index sub other part bytes true at place later =
    let no : is_at other part e ≡ false = apart e.index e.sub index sub other part at place in
    rw (at, no) later
step e dict index sub other part bytes false at place later =
    rw at (ap (λ found. cond (is_at other part e) (Some e) found) later)

pub others : (dict : List Entry) (index sub other part : ℕ) (bytes : List ℕ) → (index == other) && (sub == part) ≡ false
    → entry_at (with_value index sub bytes dict) other part ≡ entry_at dict other part
others [] index sub other part bytes place = refl
others (e ∷ dict) index sub other part bytes place =
    step e dict index sub other part bytes (is_at index sub e) refl place (others dict index sub other part bytes place)
