-- Offers that are queued by the end of a run.
use Rattle.std.proofs.Common.{◌≡◌, ℕ, ◌<◌, ◌≤◌, inl, inr, List, length, sym, ap, subst, arith, nat_le, cond}
use Rattle.std.specs.Prelude.{Option, None, Some, slice_get, Bool}
use Rattle.std.specs.Option.{option_and_then}
use Rattle.std.proofs.lemmas.Bool.{cases_lt, cases_Bool, leb-true}
use Rattle.std.proofs.lemmas.List.{get_or_past}
use Rattle.cop_bus.proofs.AtPlace.{there-is}
use Rattle.cop_rta.specs.declared.streams.Stream.{Stream}
use Rattle.cop_sim.specs.declared.behaviours.Offer.{Offer}
use Rattle.cop_sim.specs.Hands.{IsEarly}
use Rattle.cop_sim.specs.Play.{queued_at, by_end}
use Rattle.cop_sim.specs.Seats.{answer_of, next_at}
use Rattle.cop_sim.specs.declared.cues.Cue.{Cue}
use Rattle.cop_sim.specs.Cues.{answer_in}
use Rattle.cop_sim.specs.Stages.{first_cue, AreFirst}

none-early : IsEarly None
none-early x e = absurd (cc)

some-early : (o : Offer) → queued_at o < 4294967296 → IsEarly (Some o)
some-early o l x e = (let q : o ≡ x = cc in subst (λ v. queued_at v < 4294967296) q l)

-- what is queued by the end is early
pub answer-early : {B : Type 0} (offer : B → ℕ → Option Offer) (until : ℕ) (cue : Cue) (before : Option Offer) (b : B) → until ≤ 4000000000 → IsEarly (answer_of offer until cue before b)
answer-early offer until cue before b l = go (answer_in cue before (offer b 0))
  where
    go : (x : Option Offer) → IsEarly (option_and_then (by_end until) x)
    go None = none-early
    go (Some o) = elim (cases_Bool (nat_le (queued_at o) until)) [
      | inl e ↦ subst IsEarly (sym (ap (λ b. cond b (Some o) None) e)) (some-early o (let m = leb-true (queued_at o) until e in omega (arith, l, m)))
      | inr e ↦ subst IsEarly (sym (ap (λ b. cond b (Some o) None) e)) none-early
    ]

-- what a behaviour at a place of a list answers
pub answer-early-at : {B : Type 0} (offer : B → ℕ → Option Offer) (until place : ℕ) (cue : Cue) (before : Option Offer) (bs : List B) (x : Option Offer) → until ≤ 4000000000 → place < length bs
    → ((b : B) → slice_get bs place ≡ Some b → x ≡ answer_of offer until cue before b) → IsEarly x
answer-early-at offer until place cue before bs x l m is = (let w = there-is bs place m in subst IsEarly (sym (is w.0 w.1)) (answer-early offer until cue before w.0 l))

-- the first offers are early
pub first-early : {B : Type 0} (offer : B → ℕ → Option Offer) (agrees : B → ℕ → ℕ → Bool) (until : ℕ) (streams : List Stream) (bs cs : List B) (next : List (Option Offer)) →
    AreFirst offer agrees until streams bs cs next (length streams) → length bs ≡ length streams → until ≤ 4000000000 → (i : ℕ) → IsEarly (next_at next i)
first-early offer agrees until streams bs cs next t count l i = elim (cases_lt i (length streams)) [
  | inl m ↦ (let k = there-is streams i m in
      let b = there-is bs i (omega (arith, m, count)) in
      let f = t.first i k.0 b.0 m k.1 b.1 in
      subst IsEarly (sym f.2.next_is) (answer-early offer until (first_cue k.0) None b.0 l))
  | inr m ↦ (let n = t.long in subst IsEarly (sym (get_or_past next i None (omega (arith, m, n)))) none-early)
]
