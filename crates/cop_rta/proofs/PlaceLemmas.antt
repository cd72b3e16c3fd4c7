-- Where streams stand, one more.
use Rattle.std.proofs.Common.{◌<◌, ◌≡◌, ◌≢◌, ◌==◌, ◌≤◌, ℕ, suc, Bool, true, false, List, [], ◌∷◌, ◌++◌, length, ◌||◌, Option, Some, None, IfSome, if◌then◌else◌, arith, refl, sym, ap, ◌∙◌, option_map, ⊎_elim, set, get_or, is_some, true≢false}
use Rattle.std.proofs.lemmas.Bool.{cases_eq, eq-eqb, ne_eqb}
use Rattle.std.proofs.lemmas.List.{get_or-set_same, get_or-set_other, get_or_past}
use Rattle.cop_rta.specs.declared.streams.Stream.{Stream}
use Rattle.cop_rta.specs.Streams.{place_of_id, has_id}
use Rattle.cop_rta.specs.Places.{KnowsPlaces}

some_after : (b : Bool) (o : Option ℕ) (c : Bool) → is_some o ≡ c → is_some (if b then Some 0 else option_map (λ k. suc k) o) ≡ (b || c)
some_after true o c e = refl
some_after false None c e = e
some_after false (Some k) c e = e

pub place_is_some : (ss : List Stream) (id : ℕ) → is_some (place_of_id ss id) ≡ has_id ss id
place_is_some [] id = refl
place_is_some (s ∷ ss) id = some_after (s.id == id) (place_of_id ss id) (has_id ss id) (place_is_some ss id)

within_after : (b : Bool) (o : Option ℕ) (n : ℕ) → IfSome o (λ k. k < n) → IfSome (if b then Some 0 else option_map (λ k. suc k) o) (λ k. k < suc n)
within_after true o n h = omega arith
within_after false None n h = h
within_after false (Some k) n h = omega (arith, h)

pub place_within : (ss : List Stream) (id : ℕ) → IfSome (place_of_id ss id) (λ k. k < length ss)
place_within [] id = tt
place_within (s ∷ ss) id = within_after (s.id == id) (place_of_id ss id) (length ss) (place_within ss id)

-- a stream more at the end stands there, and no other moves
place_other : (ss : List Stream) (x : Stream) (id : ℕ) → x.id ≢ id → place_of_id (ss ++ x ∷ []) id ≡ place_of_id ss id
place_other [] x id h = rw (ne_eqb x.id id h) refl
place_other (s ∷ ss) x id h = ap (λ o. if s.id == id then Some 0 else option_map (λ k. suc k) o) (place_other ss x id h)

not_first : (b c : Bool) → (b || c) ≡ false → b ≡ false
not_first true c h = h
not_first false c h = refl

not_rest : (b c : Bool) → (b || c) ≡ false → c ≡ false
not_rest true c h = absurd (true≢false h)
not_rest false c h = h

place_new : (ss : List Stream) (x : Stream) → has_id ss x.id ≡ false → place_of_id (ss ++ x ∷ []) x.id ≡ Some (length ss)
place_new [] x h = rw (eq-eqb x.id x.id refl) refl
place_new (s ∷ ss) x h =
    rw (not_first (s.id == x.id) (has_id ss x.id) h, place_new ss x (not_rest (s.id == x.id) (has_id ss x.id) h)) refl

pub knows_none : KnowsPlaces [] []
knows_none = record { each = λ id. refl }

pub knows_more : (places : List (Option ℕ)) (ss : List Stream) (x : Stream) → KnowsPlaces places ss → x.id < length places → has_id ss x.id ≡ false
    → KnowsPlaces (set places x.id (Some (length ss))) (ss ++ x ∷ [])
knows_more places ss x knows room new = record {
  each = λ id. ⊎_elim
      (λ (e : x.id ≡ id). rw (← e) (get_or-set_same places x.id (Some (length ss)) None room ∙ sym (place_new ss x new)))
      (λ (other : x.id ≢ id). get_or-set_other places x.id id (Some (length ss)) None (λ e. other (sym e)) ∙ knows.each id ∙ sym (place_other ss x id other))
      (cases_eq x.id id);
}

-- an identifier past the table is that of no stream
pub known_past : (places : List (Option ℕ)) (ss : List Stream) (id : ℕ) → KnowsPlaces places ss → length places ≤ id → place_of_id ss id ≡ None
known_past places ss id knows past = sym (knows.each id) ∙ get_or_past places id None past
