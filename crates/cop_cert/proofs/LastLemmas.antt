-- The last of some members.
use Rattle.std.proofs.Common.{◌≡◌, ℕ, zero, suc, ◌+◌, ◌-◌, ◌<◌, List, [], ◌∷◌, length, get_or, refl, ap, arith}
use Rattle.cop_cert.specs.Evidence.{busy_list_of}
use Rattle.cop_cert.specs.Reading.{last_busy}
use Rattle.cop_cert.specs.declared.refusals.Member.{Member}

last_at : (ms : List Member) (m : Member) (i : ℕ) → length ms ≡ i + 1 → m ≡ get_or ms i m → busy_list_of m.evidence ≡ last_busy ms
last_at [] m i h e = absurd (omega (arith, h))
last_at (k ∷ []) m zero h e = ap (λ (x : Member). busy_list_of x.evidence) e
last_at (k ∷ []) m (suc i) h e = absurd (omega (arith, h))
last_at (k ∷ n ∷ more) m zero h e = absurd (omega (arith, h))
last_at (k ∷ n ∷ more) m (suc i) h e = last_at (n ∷ more) m i (omega (arith, h)) e

pub last_is : (ms : List Member) (m : Member) → 0 < length ms → m ≡ get_or ms (length ms - 1) m → busy_list_of m.evidence ≡ last_busy ms
last_is ms m some e = last_at ms m (length ms - 1) (omega (arith, some)) e

pub none_last : (ms : List Member) → length ms ≡ 0 → [] ≡ last_busy ms
none_last [] e = refl
none_last (m ∷ ms) e = absurd (omega (arith, e))
