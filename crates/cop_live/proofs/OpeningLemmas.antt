-- What an adapter says is read until it says nothing.
use Rattle.std.proofs.Common.{◌≡◌, ℕ, zero, suc, ◌-◌, ◌≤◌, List, [], ◌∷◌, length, take, refl, subst, arith, inl, inr}
use Rattle.std.proofs.lemmas.List.{length-take-le}
use Rattle.cop_live.specs.Log.{ByteStep}
use Rattle.cop_live.specs.Opening.{if_none, Dropped, DropFails}

pub none_dropped : {P : Type 0} (reads : ByteStep P) (n : ℕ) (p : P) → n ≡ 0 → Dropped reads n p p
unfolding Dropped
none_dropped reads zero p e = refl
none_dropped reads (suc n) p e = absurd (omega arith)

pub dry_dropped : {P : Type 0} (reads : ByteStep P) (n count : ℕ) (buffer : List ℕ) (p q : P) → (n ≡ 0 → ⊥) → count ≡ 0 → reads p (take count buffer) q → Dropped reads n p q
unfolding Dropped
dry_dropped reads zero count buffer p q some z got = absurd (some refl)
dry_dropped reads (suc n) count buffer p q some z got = ([], q, subst (λ k. reads p (take k buffer) q) z got, refl)

some_bytes : (bytes : List ℕ) (A B : Type 0) → 1 ≤ length bytes → B → if_none bytes A B
some_bytes [] A B h b = absurd (omega arith)
some_bytes (byte ∷ bytes) A B h b = b

pub more_dropped : {P : Type 0} (reads : ByteStep P) (n k count : ℕ) (buffer : List ℕ) (p m q : P) → (n ≡ 0 → ⊥) → (count ≡ 0 → ⊥) → count ≤ length buffer → k ≡ n - 1 → reads p (take count buffer) m → Dropped reads k m q → Dropped reads n p q
unfolding Dropped
more_dropped reads zero k count buffer p m q some bytes fits e got rest = absurd (some refl)
more_dropped reads (suc n) k count buffer p m q some bytes fits e got rest =
    let l = length-take-le count buffer fits in
    let less : k ≡ n = omega arith in
    (take count buffer, m, got, some_bytes (take count buffer) (m ≡ q) (Dropped reads n m q) (omega (arith, l, bytes)) (subst (λ i. Dropped reads i m q) less rest))

-- a read failed, at once or later
pub read_failed : {P : Type 0} (reads fails : ByteStep P) (n : ℕ) (p q : P) → (n ≡ 0 → ⊥) → fails p [] q → DropFails reads fails n p q
unfolding DropFails
read_failed reads fails zero p q some f = absurd (some refl)
read_failed reads fails (suc n) p q some f = inl f

pub later_failed : {P : Type 0} (reads fails : ByteStep P) (n k count : ℕ) (buffer : List ℕ) (p m q : P) → (n ≡ 0 → ⊥) → (count ≡ 0 → ⊥) → count ≤ length buffer → k ≡ n - 1 → reads p (take count buffer) m → DropFails reads fails k m q
    → DropFails reads fails n p q
unfolding DropFails
later_failed reads fails zero k count buffer p m q some bytes fits e got rest = absurd (some refl)
later_failed reads fails (suc n) k count buffer p m q some bytes fits e got rest =
    let l = length-take-le count buffer fits in
    let less : k ≡ n = omega arith in
    inr (take count buffer, m, got, some_bytes (take count buffer) ⊥ (DropFails reads fails n m q) (omega (arith, l, bytes)) (subst (λ i. DropFails reads fails i m q) less rest))
