-- One number of a climbing list.
use Rattle.std.proofs.Common.{◌≡◌, ◌↔◌, ℕ, ◌+◌, ◌-◌, ◌^◌, ◌<◌, ◌≤◌, min, List, [], ◌∷◌, length, get_or, drop, refl, arith, drop_of_length-le, All, Option, Some, None, MatchOption, ◌*◌, Fits, w64}
use Rattle.std.proofs.lemmas.List.{get_or_default, drop_more}
use Rattle.std.proofs.lemmas.List.Elements.{All-head, All-tail}
use Rattle.cop_rta.specs.Test.{StreamPlace, busy_at, queueing_at, blocking, cost_at}
use Rattle.cop_cert.specs.Evidence.{Climbs, IsClimb, first_of, last_after, last_of, IsBusyList, IsQueueList}

module _ (f : ℕ → ℕ) (xs : List ℕ) (i a : ℕ) where
  abbrev pub Next : Type 0
  Next = (a < get_or xs i 0) × (get_or xs i 0 ≤ f a) × Climbs f (get_or xs i 0) (drop (i + 1) xs)

  pub climb_next : i < length xs → Climbs f a (drop i xs) ↔ Next
  unfolding Climbs
  climb_next h = rw (drop_more xs i 0 h) (λ c. c, λ c. c)

  pub last_next : i < length xs → last_after a (drop i xs) ≡ last_after (get_or xs i 0) (drop (i + 1) xs)
  unfolding last_after
  last_next h = rw (drop_more xs i 0 h) refl

  pub climb_end : length xs ≤ i → Climbs f a (drop i xs)
  unfolding Climbs
  climb_end h = rw (drop_of_length-le xs h) tt

  pub last_end : length xs ≤ i → last_after a (drop i xs) ≡ a
  unfolding last_after
  last_end h = rw (drop_of_length-le xs h) refl

-- numbers below a cap climb by an equation where they climb by it capped
module _ (f : ℕ → ℕ) (cap : ℕ) where
  capped_rest : (a : ℕ) (rest : List ℕ) → All (λ n. n ≤ cap) rest → Climbs (λ t. min (f t) cap) a rest ↔ Climbs f a rest
  unfolding Climbs
  capped_rest a [] fit = (λ c. c, λ c. c)
  capped_rest a (b ∷ rest) fit =
      let small : b ≤ cap = All-head (λ n. n ≤ cap) b rest fit in
      let more = capped_rest b rest (All-tail (λ n. n ≤ cap) b rest fit) in
      (λ c. (c.0, omega (arith, c.1), more.0 c.2), λ c. (c.0, omega (arith, c.1), more.1 c.2))

  pub capped : (numbers : List ℕ) → All (λ n. n ≤ cap) numbers → IsClimb (λ t. min (f t) cap) numbers ↔ IsClimb f numbers
  capped [] fit = (λ c. c, λ c. c)
  capped (a ∷ rest) fit = capped_rest a rest (All-tail (λ n. n ≤ cap) a rest fit)

-- numbers of 64 bits
pub all_fit : (numbers : List ℕ) → ((k : ℕ) → Fits w64 (get_or numbers k 0)) → All (λ n. n ≤ 2 ^ 64 - 1) numbers
all_fit numbers fit k d below = let small : get_or numbers k 0 < 2 ^ 64 = omega (arith, fit k) in rw (get_or_default numbers k d 0 below) (omega arith)

-- what the capped equation says of a list, the equation says
list_end : (f : ℕ → ℕ) (P : Type 0) (numbers : List ℕ) (r : Option ℕ) → All (λ n. n ≤ 2 ^ 64 - 1) numbers → (P ↔ IsClimb f numbers)
    → MatchOption r (IsClimb (λ t. min (f t) (2 ^ 64 - 1)) numbers → ⊥) (λ last. IsClimb (λ t. min (f t) (2 ^ 64 - 1)) numbers × (last ≡ last_of numbers))
    → MatchOption r (P → ⊥) (λ last. P × (last ≡ last_of numbers))
list_end f P numbers None fit both h = λ p. h ((capped f (2 ^ 64 - 1) numbers fit).1 (both.0 p))
list_end f P numbers (Some last) fit both h = (both.1 ((capped f (2 ^ 64 - 1) numbers fit).0 h.0), h.1)

pub busy_list_end : (p : StreamPlace) (numbers : List ℕ) (r : Option ℕ) → first_of numbers ≡ 1 → All (λ n. n ≤ 2 ^ 64 - 1) numbers
    → MatchOption r (IsClimb (λ t. min (busy_at p t) (2 ^ 64 - 1)) numbers → ⊥) (λ last. IsClimb (λ t. min (busy_at p t) (2 ^ 64 - 1)) numbers × (last ≡ last_of numbers))
    → MatchOption r (IsBusyList p numbers → ⊥) (λ last. IsBusyList p numbers × (last ≡ last_of numbers))
busy_list_end p numbers r first fit h =
    list_end (busy_at p) (IsBusyList p numbers) numbers r fit (λ l. l.climbs, λ c. record { climbs = c; begins = first }) h

pub queue_list_end : (p : StreamPlace) (q : ℕ) (numbers : List ℕ) (r : Option ℕ) → first_of numbers ≤ blocking p + q * cost_at p → All (λ n. n ≤ 2 ^ 64 - 1) numbers
    → MatchOption r (IsClimb (λ t. min (queueing_at p q t) (2 ^ 64 - 1)) numbers → ⊥) (λ last. IsClimb (λ t. min (queueing_at p q t) (2 ^ 64 - 1)) numbers × (last ≡ last_of numbers))
    → MatchOption r (IsQueueList p q numbers → ⊥) (λ last. IsQueueList p q numbers × (last ≡ last_of numbers))
queue_list_end p q numbers r first fit h =
    list_end (queueing_at p q) (IsQueueList p q numbers) numbers r fit (λ l. l.climbs, λ c. record { climbs = c; begins = first }) h
