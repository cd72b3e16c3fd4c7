-- What a set of indexes names.
use Rattle.std.proofs.Common.{◌≡◌, ℕ, Bool, List, [], ◌∷◌, ◌||◌, ◌==◌, refl, sym, ap, ◌∙◌}
use Rattle.std.specs.List.{list_any}
use Rattle.std.specs.BTreeMap.{is_at}
use Rattle.std.specs.Ordering.{nat_cmp}
use Rattle.std.specs.Cmp.{unsigned_ties}
use Rattle.cop_tidy_reading.specs.Lists.{is_named}

-- a set has those numbers that its keys name
pub named : (keys : List ℕ) (index : ℕ) → list_any (is_at (nat_cmp index)) keys ≡ is_named keys index
named [] index = refl
named (key ∷ keys) index =
    ap (λ (t : Bool). t || list_any (is_at (nat_cmp index)) keys) (sym (unsigned_ties index key)) ∙ ap (λ (t : Bool). (index == key) || t) (named keys index)
