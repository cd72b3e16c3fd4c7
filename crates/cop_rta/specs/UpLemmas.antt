-- Identifiers with NMT's put at 1, so that 0 is free for what is above all, and back.
use Rattle.std.proofs.Common.{◌≡◌, ◌∙◌, ℕ, ◌≤◌, ◌<◌, ◌⊎◌, inl, inr, ap, arith, ◌==◌, if◌then◌else◌}
use Rattle.std.specs.Prelude.{None}
use Rattle.std.specs.Option.{ForSome}
use Rattle.std.proofs.lemmas.Bool.{eq-eqb, ne_eqb, cases_lt, cases_eq}

unfoldable pub up_id : ℕ → ℕ
up_id id = if id == 0 then 1 else id

unfoldable pub down_id : ℕ → ℕ
down_id id = if id == 1 then 0 else id

pub up_id-zero : (id : ℕ) → id ≡ 0 → up_id id ≡ 1
unfolding up_id
up_id-zero id e = ap (λ b. if b then 1 else id) (eq-eqb id 0 e)

pub up_id-other : (id : ℕ) → 1 ≤ id → up_id id ≡ id
unfolding up_id
up_id-other id l = ap (λ b. if b then 1 else id) (ne_eqb id 0 (λ e. omega (arith, e, l)))

pub up_id-cases : (id : ℕ) → ((id ≡ 0) × (up_id id ≡ 1)) ⊎ ((1 ≤ id) × (up_id id ≡ id))
up_id-cases id = elim (cases_lt 0 id) [ inl l ↦ inr (l, up_id-other id l) | inr l ↦ (let e : id ≡ 0 = omega arith in inl (e, up_id-zero id e)) ]

pub up_id-small : (id : ℕ) → id < 2048 → up_id id < 2048
up_id-small id l = elim (up_id-cases id) [ inl c ↦ omega (arith, c.1) | inr c ↦ omega (arith, c.1, l) ]

pub up_id-high : (id : ℕ) → 385 ≤ id → 385 ≤ up_id id
up_id-high id l = let e = up_id-other id (omega (arith, l)) in omega (arith, e, l)

pub up_id-pos : (id : ℕ) → 1 ≤ up_id id
up_id-pos id = elim (up_id-cases id) [ inl c ↦ omega (arith, c.1) | inr c ↦ omega (arith, c.0, c.1) ]

pub down_id-one : (id : ℕ) → id ≡ 1 → down_id id ≡ 0
unfolding down_id
down_id-one id e = ap (λ b. if b then 0 else id) (eq-eqb id 1 e)

pub down_id-other : (id : ℕ) → (id ≡ 1 → ⊥) → down_id id ≡ id
unfolding down_id
down_id-other id n = ap (λ b. if b then 0 else id) (ne_eqb id 1 n)

pub down_id-cases : (id : ℕ) → ((id ≡ 1) × (down_id id ≡ 0)) ⊎ ((id ≡ 1 → ⊥) × (down_id id ≡ id))
down_id-cases id = elim (cases_eq id 1) [ inl e ↦ inl (e, down_id-one id e) | inr n ↦ inr (n, down_id-other id n) ]

pub down_id-small : (id : ℕ) → id < 2048 → down_id id < 2048
down_id-small id l = elim (down_id-cases id) [ inl c ↦ omega (arith, c.1) | inr c ↦ omega (arith, c.1, l) ]

pub down_id-high : (id : ℕ) → 385 ≤ id → 385 ≤ down_id id
down_id-high id l = let e = down_id-other id (λ e. omega (arith, e, l)) in omega (arith, e, l)

-- the ranges of the errors' stream
pub low_id : 0 < 2048
low_id = omega arith

pub nine : 9 ≤ 9
nine = omega arith

pub no_deadline : (P : ℕ → Type 0) → ForSome None P
no_deadline P d h = absurd (cc)

pub none_every : 0 ≤ 240
none_every = omega arith

pub not_synced : 1 ≤ 0 → 385 ≤ 0
not_synced l = absurd (omega arith)
