-- The entries of a mapping record, one after the other.
use Rattle.std.proofs.Common.{◌≡◌, ◌<◌, ◌+◌, ◌-◌, ℕ, suc, List, [], ◌∷◌, ◌++◌, Result, Ok, Err, refl, ap, sym, arith, ◌∙◌}
use Rattle.std.proofs.lemmas.List.{append_assoc}
use Rattle.cop_dict.specs.declared.mapping.Mapped.{Mapped}
use Rattle.cop_dict.specs.declared.mapping.MappingFault.{MappingFault}
use Rattle.cop_dict.specs.Find.{Entry}
use Rattle.cop_dict.specs.Mapping.{mapped_at, mapped_from, ◌>>=◌}

-- the entries so far, with those that are still to come
abbrev pub with_rest : List Mapped → Result (List Mapped) MappingFault → Result (List Mapped) MappingFault
with_rest front rest = rest >>= λ mapped. Ok (front ++ mapped)

more : (front : List Mapped) (first : Mapped) (rest : Result (List Mapped) MappingFault)
    → with_rest front (rest >>= λ rest. Ok (first ∷ rest)) ≡ with_rest (front ++ first ∷ []) rest
more front first (Ok rest) = ap Ok (sym (append_assoc front (first ∷ []) rest))
more front first (Err e) = refl

-- one entry more
pub goes_on : (dict : List Entry) (at done count : ℕ) (front : List Mapped) (mapped : Mapped) → done < count → mapped_at dict at (done + 1) ≡ Ok mapped
    → with_rest (front ++ mapped ∷ []) (mapped_from dict at (done + 1 + 1) (count - (done + 1))) ≡ with_rest front (mapped_from dict at (done + 1) (count - done))
goes_on dict at done count front mapped lt h =
    let left : count - done ≡ suc (count - (done + 1)) = omega arith in
    rw (left, h) (sym (more front mapped (mapped_from dict at (done + 1 + 1) (count - (done + 1)))))

-- the first entry that can't be mapped
pub stops : (dict : List Entry) (at done count : ℕ) (front : List Mapped) (fault : MappingFault) → done < count → mapped_at dict at (done + 1) ≡ Err fault
    → with_rest front (mapped_from dict at (done + 1) (count - done)) ≡ Err fault
stops dict at done count front fault lt h =
    let left : count - done ≡ suc (count - (done + 1)) = omega arith in
    rw (left, h) refl

whole : (r : Result (List Mapped) MappingFault) → with_rest [] r ≡ r
whole (Ok rest) = refl
whole (Err e) = refl

pub fails : (dict : List Entry) (at done count : ℕ) (front : List Mapped) (fault : MappingFault) → done < count → mapped_at dict at (done + 1) ≡ Err fault
    → with_rest front (mapped_from dict at (done + 1) (count - done)) ≡ with_rest [] (mapped_from dict at 1 count)
    → mapped_from dict at 1 count ≡ Err fault
fails dict at done count front fault lt h same =
    sym (sym (stops dict at done count front fault lt h) ∙ same ∙ whole (mapped_from dict at 1 count))
