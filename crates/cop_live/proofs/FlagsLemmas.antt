-- Flags are awaited.
use Rattle.std.proofs.Common.{◌≡◌, ℕ, zero, suc, ◌-◌, List, [], refl, sym, ap, subst, ◌∙◌, arith, Option, Some, None, inl, inr}
use Rattle.std.specs.Prelude.{IfSome, IfNone}
use Rattle.cop_live.specs.declared.flags.FlagLine.{FlagLine}
use Rattle.cop_live.specs.Log.{ByteStep}
use Rattle.cop_live.specs.Flags.{flags_in, if_told, FlagsRead, FlagsUnread}

pub untold : {P : Type 0} (reads : ByteStep P) (n : ℕ) (line : FlagLine) (p : P) → n ≡ 0 → FlagsRead reads n line p None p
unfolding FlagsRead
untold reads zero line p e = (refl, refl)
untold reads (suc n) line p e = absurd (omega arith)

pub told_now : {P : Type 0} (reads : ByteStep P) (n : ℕ) (line : FlagLine) (bytes : List ℕ) (flags : ℕ) (given : FlagLine × Option ℕ) (p q : P) → (n ≡ 0 → ⊥) → given ≡ flags_in line bytes → given.1 ≡ Some flags → reads p bytes q
    → FlagsRead reads n line p (Some flags) q
unfolding FlagsRead
told_now reads zero line bytes flags given p q some e is got = absurd (some refl)
told_now {P} reads (suc n) line bytes flags given p q some e is got =
    let told : (flags_in line bytes).1 ≡ Some flags = ap (λ (x : FlagLine × Option ℕ). x.1) (sym e) ∙ is in
    (bytes, q, got, subst (λ (o : Option ℕ). if_told o ((Some flags ≡ o) × (q ≡ q)) (FlagsRead reads n (flags_in line bytes).0 q (Some flags) q)) (sym told) (refl, refl))

pub told_later : {P : Type 0} (reads : ByteStep P) (n k : ℕ) (line : FlagLine) (bytes : List ℕ) (given : FlagLine × Option ℕ) (p m q : P) (result : Option (Option ℕ)) → (n ≡ 0 → ⊥) → k ≡ n - 1 → given ≡ flags_in line bytes → given.1 ≡ None
    → reads p bytes m → IfSome result (λ flags. FlagsRead reads k given.0 m flags q) → IfSome result (λ flags. FlagsRead reads n line p flags q)
unfolding FlagsRead
told_later reads zero k line bytes given p m q result some ek e is got rest = absurd (some refl)
told_later reads (suc n) k line bytes given p m q None some ek e is got rest = rest
told_later {P} reads (suc n) k line bytes given p m q (Some flags) some ek e is got rest =
    let less : k ≡ n = omega arith in
    let told : (flags_in line bytes).1 ≡ None = ap (λ (x : FlagLine × Option ℕ). x.1) (sym e) ∙ is in
    let left : given.0 ≡ (flags_in line bytes).0 = ap (λ (x : FlagLine × Option ℕ). x.0) e in
    let later : FlagsRead reads n (flags_in line bytes).0 m flags q = subst (λ (l : FlagLine). FlagsRead reads n l m flags q) left (subst (λ (i : ℕ). FlagsRead reads i given.0 m flags q) less rest) in
    (bytes, m, got, subst (λ (o : Option ℕ). if_told o ((flags ≡ o) × (m ≡ q)) (FlagsRead reads n (flags_in line bytes).0 m flags q)) (sym told) later)

-- a read failed, at once or later
pub read_failed : {P : Type 0} (reads fails : ByteStep P) (n : ℕ) (line : FlagLine) (p q : P) → (n ≡ 0 → ⊥) → fails p [] q → FlagsUnread reads fails n line p q
unfolding FlagsUnread
read_failed reads fails zero line p q some f = absurd (some refl)
read_failed reads fails (suc n) line p q some f = inl f

pub later_failed : {P : Type 0} (reads fails : ByteStep P) (n k : ℕ) (line : FlagLine) (bytes : List ℕ) (given : FlagLine × Option ℕ) (p m q : P) (result : Option (Option ℕ)) → (n ≡ 0 → ⊥) → k ≡ n - 1 → given ≡ flags_in line bytes → given.1 ≡ None
    → reads p bytes m → IfNone result (FlagsUnread reads fails k given.0 m q) → IfNone result (FlagsUnread reads fails n line p q)
unfolding FlagsUnread
later_failed reads fails zero k line bytes given p m q result some ek e is got rest = absurd (some refl)
later_failed reads fails (suc n) k line bytes given p m q (Some flags) some ek e is got rest = rest
later_failed reads fails (suc n) k line bytes given p m q None some ek e is got rest =
    let less : k ≡ n = omega arith in
    let told : (flags_in line bytes).1 ≡ None = ap (λ (x : FlagLine × Option ℕ). x.1) (sym e) ∙ is in
    let left : given.0 ≡ (flags_in line bytes).0 = ap (λ (x : FlagLine × Option ℕ). x.0) e in
    let later : FlagsUnread reads fails n (flags_in line bytes).0 m q = subst (λ (l : FlagLine). FlagsUnread reads fails n l m q) left (subst (λ (i : ℕ). FlagsUnread reads fails i given.0 m q) less rest) in
    inr (bytes, m, got, subst (λ (o : Option ℕ). if_told o ⊥ (FlagsUnread reads fails n (flags_in line bytes).0 m q)) (sym told) later)
