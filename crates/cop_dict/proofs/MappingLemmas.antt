-- The bits of a mapping, summed one entry after the other.
use Rattle.std.proofs.Common.{◌≡◌, ◌<◌, ◌≤◌, ◌+◌, ◌-◌, ℕ, suc, Bool, true, false, cond, nat_lt, List, ◌∷◌, Result, Ok, Err, refl, ap, sym, arith, add_assoc}
use Rattle.std.proofs.lemmas.List.Sums.{sum_by-cons}
use Rattle.cop_dict.specs.declared.mapping.Mapped.{Mapped}
use Rattle.cop_dict.specs.declared.mapping.MappingFault.{MappingFault}
use Rattle.cop_dict.specs.declared.mapping.MappingFault.TheVariants as faults
use Rattle.cop_dict.specs.Find.{Entry}
use Rattle.cop_dict.specs.Mapping.{mapped_at, mapped_from, total_bits, layout, layout_bits, ◌>>=◌}

-- the bits so far, with those of what is still to come
abbrev pub with_rest : ℕ → Result (List Mapped) MappingFault → Result ℕ MappingFault
with_rest bits rest = rest >>= λ mapped. Ok (bits + total_bits mapped)

more : (bits : ℕ) (first : Mapped) (rest : Result (List Mapped) MappingFault)
    → with_rest bits (rest >>= λ rest. Ok (first ∷ rest)) ≡ with_rest (bits + first.bits) rest
more bits first (Ok rest) = rw (sum_by-cons (λ (m : Mapped). m.bits) first rest) (ap Ok (sym (add_assoc bits first.bits (total_bits rest))))
more bits first (Err e) = refl

-- one entry more
pub goes_on : (dict : List Entry) (at done count bits : ℕ) (mapped : Mapped) → done < count → mapped_at dict at (done + 1) ≡ Ok mapped
    → with_rest (bits + mapped.bits) (mapped_from dict at (done + 1 + 1) (count - (done + 1))) ≡ with_rest bits (mapped_from dict at (done + 1) (count - done))
goes_on dict at done count bits mapped lt h =
    let left : count - done ≡ suc (count - (done + 1)) = omega arith in
    rw (left, h) (sym (more bits mapped (mapped_from dict at (done + 1 + 1) (count - (done + 1)))))

-- the first entry that can't be mapped
pub stops : (dict : List Entry) (at done count bits : ℕ) (fault : MappingFault) → done < count → mapped_at dict at (done + 1) ≡ Err fault
    → with_rest bits (mapped_from dict at (done + 1) (count - done)) ≡ Err fault
stops dict at done count bits fault lt h =
    let left : count - done ≡ suc (count - (done + 1)) = omega arith in
    rw (left, h) refl

-- no entry is left
pub finishes : (dict : List Entry) (at done count bits : ℕ) → count ≤ done → with_rest bits (mapped_from dict at (done + 1) (count - done)) ≡ Ok bits
finishes dict at done count bits all = let none : count - done ≡ 0 = omega arith in rw none (ap Ok (omega arith))

-- an entry can't be mapped
pub layout_fails : (dict : List Entry) (at count : ℕ) (fault : MappingFault) → nat_lt 64 count ≡ false
    → with_rest 0 (mapped_from dict at 1 count) ≡ Err fault → layout_bits dict at count ≡ Err fault
unfolding layout
layout_fails dict at count fault few h = rw few (by_result (mapped_from dict at 1 count) h)
  where
    by_result : (r : Result (List Mapped) MappingFault) → with_rest 0 r ≡ Err fault
        → ((r >>= λ mapped. cond (nat_lt 64 (total_bits mapped)) (Err faults.TooLong) (Ok mapped)) >>= λ mapped. Ok (total_bits mapped)) ≡ Err fault
    by_result (Ok mapped) h = cc
    by_result (Err e) h = let same : e ≡ fault = cc in rw same refl

-- all entries can be mapped
pub layout_ends : (dict : List Entry) (at count bits : ℕ) → nat_lt 64 count ≡ false
    → with_rest 0 (mapped_from dict at 1 count) ≡ Ok bits → layout_bits dict at count ≡ cond (nat_lt 64 bits) (Err faults.TooLong) (Ok bits)
unfolding layout
layout_ends dict at count bits few h = rw few (by_result (mapped_from dict at 1 count) h)
  where
    by_total : (mapped : List Mapped) (b : Bool)
        → (cond b (Err faults.TooLong) (Ok mapped) >>= λ mapped. Ok (total_bits mapped)) ≡ cond b (Err faults.TooLong) (Ok (total_bits mapped))
    by_total mapped true = refl
    by_total mapped false = refl

    by_result : (r : Result (List Mapped) MappingFault) → with_rest 0 r ≡ Ok bits
        → ((r >>= λ mapped. cond (nat_lt 64 (total_bits mapped)) (Err faults.TooLong) (Ok mapped)) >>= λ mapped. Ok (total_bits mapped)) ≡ cond (nat_lt 64 bits) (Err faults.TooLong) (Ok bits)
    by_result (Ok mapped) h =
        let sum : 0 + total_bits mapped ≡ bits = cc in
        let same : bits ≡ total_bits mapped = omega arith in
        rw same (by_total mapped (nat_lt 64 (total_bits mapped)))
    by_result (Err e) h = cc

pub too_many : (dict : List Entry) (at count : ℕ) → nat_lt 64 count ≡ true → layout_bits dict at count ≡ Err faults.TooLong
unfolding layout
too_many dict at count many = rw many refl
