-- Files that are put one after another.
use Rattle.std.proofs.Common.{◌≡◌, ℕ, ◌+◌, ◌-◌, ◌≤◌, suc, Bool, List, [], ◌∷◌, length, get_or, take, drop, refl, subst, arith, take_all}
use Rattle.cop_net.specs.Devices.{File}
use Rattle.cop_engine.specs.Outlets.{WereCut}

-- one file was put, and then the rest was cut
pub cut_after_one : {O : Type 0} (puts cuts : O → File → O → Type 0) (has_failed : O → Bool) (o p q : O) (file : File) (files : List File) (k n : ℕ)
    → n ≡ k + 1 → puts o file p → WereCut puts cuts has_failed p files k q → WereCut puts cuts has_failed o (file ∷ files) n q
cut_after_one puts cuts has_failed o p q file files k n e put h =
    let more : n ≡ suc k = omega (arith, e) in
    rw more (h.0, h.1, (h.2.0, (p, put, h.2.1), h.2.2, h.2.3))

-- the same of the first of some files
pub cut_after_head : {O : Type 0} (puts cuts : O → File → O → Type 0) (has_failed : O → Bool) (o p q : O) (files : List File) (file : File) (k : ℕ)
    → 1 ≤ length files → file ≡ get_or files 0 file → puts o file p → WereCut puts cuts has_failed p (take (length files - 1) (drop 1 files)) k q → WereCut puts cuts has_failed o files (k + 1) q
cut_after_head puts cuts has_failed o p q [] file k long is put h = absurd (omega (arith, long))
cut_after_head puts cuts has_failed o p q (first ∷ rest) file k long is put h =
    let all : take (length (first ∷ rest) - 1) rest ≡ rest = take_all (length (first ∷ rest) - 1) rest (omega arith) in
    cut_after_one puts cuts has_failed o p q first rest k (k + 1) refl (subst (λ x. puts o x p) is put)
    (subst (λ files. WereCut puts cuts has_failed p files k q) all h)
