-- Sets of streams.
use Rattle.std.proofs.Common.{◌≡◌, ◌≢◌, ⊎_elim, ◌-◌, ◌<◌, ◌≤◌, ◌==◌, false, List, [], ◌∷◌, ◌++◌, length, get_or, map, All, arith, length-append}
use Rattle.std.specs.List.{AllPairs}
use Rattle.std.proofs.lemmas.Bool.{cases_lt, ne_eqb}
use Rattle.std.proofs.lemmas.List.{length-map, get_or-map}
use Rattle.std.proofs.lemmas.List.Folds.{list_any_none}
use Rattle.std.proofs.Math.ListN.{get_or-append}
use Rattle.std.proofs.Math.Seq.{get_or-append_right, get_or-append_seam}
use Rattle.cop_rta.specs.declared.streams.Stream.{Stream}
use Rattle.cop_rta.specs.Entries.{Entry, entry_of}
use Rattle.cop_rta.specs.Streams.{has_id}
use Rattle.cop_net.specs.Sets.{AreOneSet}

abbrev pub AreApart : Entry → Entry → Type 0
AreApart e f = e.id ≢ f.id

-- two lists whose elements are related, and related to one another
pub AllPairs-append : {X : Type 0} (R : X → X → Type 0) (xs ys : List X) → AllPairs R xs → AllPairs R ys → All (λ x. All (R x) ys) xs → AllPairs R (xs ++ ys)
AllPairs-append R xs ys left right across i j d lt inside = ⊎_elim
    (λ (both : j < length xs). rw (get_or-append xs ys d i (omega arith), get_or-append xs ys d j both) (left i j d lt both))
    (λ (past : length xs ≤ j).
    let within : j - length xs < length ys = omega (arith, length-append xs ys) in
    rw (get_or-append_right xs ys j d past)
    (⊎_elim
    (λ (before : i < length xs). rw (get_or-append xs ys d i before) (across i d before (j - length xs) d within))
    (λ (after : length xs ≤ i). rw (get_or-append_right xs ys i d after) (right (i - length xs) (j - length xs) d (omega arith) within))
    (cases_lt i (length xs))))
    (cases_lt j (length xs))

-- the first streams of one set
pub one_set_front : (xs ys : List Entry) → AreOneSet (xs ++ ys) → AreOneSet xs
one_set_front xs ys h = record {
  apart = λ i j d lt inside.
      let early : i < length xs = omega arith in
      let whole : j < length (xs ++ ys) = omega (arith, length-append xs ys) in
      let pair : AreApart (get_or (xs ++ ys) i d) (get_or (xs ++ ys) j d) = h.apart i j d lt whole in
      rw (get_or-append xs ys d i early, get_or-append xs ys d j inside) at pair;
  count = omega (arith, h.count, length-append xs ys);
}

-- a stream that makes one set with others has an identifier of its own
own_id : (set : List Stream) (stream : Stream) → AreOneSet (map entry_of set ++ entry_of stream ∷ []) → All (λ s. (s.id == stream.id) ≡ false) set
own_id set stream h k d lt =
    let es = map entry_of set in
    let size : length es ≡ length set = length-map set entry_of in
    let within : k < length es = omega arith in
    let last : length es < length (es ++ entry_of stream ∷ []) = omega (arith, length-append es (entry_of stream ∷ [])) in
    let pair : AreApart (get_or (es ++ entry_of stream ∷ []) k (entry_of d)) (get_or (es ++ entry_of stream ∷ []) (length es) (entry_of d)) = h.apart k (length es) (entry_of d) within last in
    let other : (get_or set k d).id ≢ stream.id =
    rw (get_or-append es (entry_of stream ∷ []) (entry_of d) k within, get_or-append_seam es (entry_of stream) [] (entry_of d), get_or-map entry_of set k d (entry_of d) lt) at pair in
    ne_eqb (get_or set k d).id stream.id other

-- it is neither there nor one too many
pub is_new : (set : List Stream) (stream : Stream) → AreOneSet (map entry_of set ++ entry_of stream ∷ []) → has_id set stream.id ≡ false
is_new set stream h = list_any_none (λ s. s.id == stream.id) set (own_id set stream h)

pub has_room : (set : List Stream) (stream : Stream) → AreOneSet (map entry_of set ++ entry_of stream ∷ []) → length set < 1100
has_room set stream h = omega (arith, h.count, length-append (map entry_of set) (entry_of stream ∷ []), length-map set entry_of)
