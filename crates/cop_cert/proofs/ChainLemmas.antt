-- One number more of a chain, and what a chain of the code's values is.
use Rattle.std.specs.declared.alloc.AllocError.{AllocError}
use Rattle.std.proofs.Common.{◌≡◌, ◌≢◌, ℕ, ◌-◌, ◌^◌, ◌<◌, ◌≤◌, ◌⊎◌, inl, inr, min, Result, Ok, Err, IfOk, List, [], ◌∷◌, ◌++◌, All, refl, arith}
use Rattle.std.proofs.lemmas.Bool.{cases_lt}
use Rattle.std.proofs.lemmas.List.Elements.{All-nil, All-cons, All-append}
use Rattle.cop_cert.specs.Evidence.{last_after, last_of}
use Rattle.cop_rta.specs.Test.{horizon}
use Rattle.cop_cert.specs.Chains.{Follows, IsRun, IsChain, IsWholeChain}

-- the chain so far, and its last number
pub record Chained (f : ℕ → ℕ) (from limit : ℕ) (numbers : List ℕ) (last : ℕ) : Type 0 where
  pub chain : IsChain f from limit numbers
  pub ends : last_of numbers ≡ last
  pub rises : last ≤ f last

one_fits : (n : ℕ) → n < 2 ^ 64 → All (λ m. m < 2 ^ 64) (n ∷ [])
one_fits n fits = All-cons (λ m. m < 2 ^ 64) n [] fits (All-nil (λ m. m < 2 ^ 64))

module _ (f : ℕ → ℕ) (limit : ℕ) where
  pub chain_one : (from : ℕ) → from < 2 ^ 64 → from ≤ f from → Chained f from limit (from ∷ []) from
  unfolding Follows last_after
  chain_one from fits h = record { chain = record { begins = refl; follows = tt; fit = one_fits from fits }; ends = refl; rises = h }

  last_push : (a b : ℕ) (rest : List ℕ) → last_after a (rest ++ b ∷ []) ≡ b
  unfolding last_after
  last_push a b [] = refl
  last_push a b (c ∷ rest) = last_push c b rest

  follows_push : (a b : ℕ) (rest : List ℕ) → Follows f limit a rest → last_after a rest ≤ limit → last_after a rest < b → b ≡ f (last_after a rest) → Follows f limit a (rest ++ b ∷ [])
  unfolding Follows last_after
  follows_push a b [] h within more is = (within, more, is, tt)
  follows_push a b (c ∷ rest) h within more is = (h.0, h.1, h.2, follows_push c b rest h.3 within more is)

  chain_push : (from last next : ℕ) (numbers : List ℕ) → IsChain f from limit numbers → last_of numbers ≡ last → last ≤ limit → last < next → next ≡ f last → next < 2 ^ 64
      → IsChain f from limit (numbers ++ next ∷ []) × (last_of (numbers ++ next ∷ []) ≡ next)
  chain_push from last next [] c ends within more is fits = absurd c.follows
  chain_push from last next (a ∷ rest) c ends within more is fits = (
    record {
      begins = c.begins;
      follows = follows_push a next rest c.follows (rw ends within) (rw ends more) (rw ends is);
      fit = All-append (λ n. n < 2 ^ 64) (a ∷ rest) (next ∷ []) c.fit (one_fits next fits);
    },
    last_push a next rest,
  )

  pub chain_more : (from last next : ℕ) (numbers more : List ℕ) → Chained f from limit numbers last → more ≡ numbers ++ next ∷ [] → last ≤ limit → next ≢ last → next ≡ f last → next < 2 ^ 64 → f last ≤ f next
      → Chained f from limit more next
  chain_more from last next numbers more c e within other is fits rises =
      let longer = chain_push from last next numbers c.chain c.ends within (omega (arith, c.rises)) is fits in
      rw e (record { chain = longer.0; ends = longer.1; rises = omega (arith, rises, is) })

-- a chain of what the code gives of an equation that is small is one of its values
module _ (f : ℕ → ℕ) (small : (t : ℕ) → t ≤ horizon → f t ≤ 2 ^ 64 - 1) where
  follows_whole : (a : ℕ) (rest : List ℕ) → Follows (λ t. min (f t) (2 ^ 64 - 1)) horizon a rest → Follows f horizon a rest
  unfolding Follows
  follows_whole a [] h = h
  follows_whole a (b ∷ rest) h = (h.0, h.1, omega (arith, h.2, small a h.0), follows_whole b rest h.3)

  run_whole : (numbers : List ℕ) → IsRun (λ t. min (f t) (2 ^ 64 - 1)) horizon numbers → IsRun f horizon numbers
  run_whole [] h = h
  run_whole (a ∷ rest) h = follows_whole a rest h

  ends_whole : (last : ℕ) → (horizon < last) ⊎ (last ≡ min (f last) (2 ^ 64 - 1)) → (horizon < last) ⊎ (last ≡ f last)
  ends_whole last (inl above) = inl above
  ends_whole last (inr solves) = go (cases_lt horizon last)
    where
      go : (horizon < last) ⊎ (last ≤ horizon) → (horizon < last) ⊎ (last ≡ f last)
      go (inl above) = inl above
      go (inr within) = inr (omega (arith, solves, small last within))

pub whole_all : (f : ℕ → ℕ) (from : ℕ) (r : Result (List ℕ) AllocError) → ((t : ℕ) → t ≤ horizon → f t ≤ 2 ^ 64 - 1)
    → IfOk r (IsWholeChain (λ t. min (f t) (2 ^ 64 - 1)) from horizon) → IfOk r (IsWholeChain f from horizon)
whole_all f from (Err e) small whole = tt
whole_all f from (Ok numbers) small whole = record {
  chain = record { begins = whole.chain.begins; follows = run_whole f small numbers whole.chain.follows; fit = whole.chain.fit };
  ends = ends_whole f small (last_of numbers) whole.ends;
}
