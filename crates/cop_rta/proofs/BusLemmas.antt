-- The streams of the bus that are in a tested set, and the tested set that they make again.
use Rattle.std.proofs.Common.{◌≡◌, ◌≢◌, ◌∙◌, ◌==◌, inl, inr, ℕ, zero, suc, ◌+◌, ◌<◌, ◌≤◌, Bool, true, false, not, ◌&&◌, is_some, if◌then◌else◌, List, [], ◌∷◌, ◌++◌, map, length, get_or, slice_get, All, Option, Some, None, IsSome, option_map, refl, sym, ap, subst, arith, length-append}
use Rattle.std.specs.List.{AllByRecursion as Each, Contains}
use Rattle.std.proofs.lemmas.Option.{slice_get_within, get_or_from_slice_get}
use Rattle.std.proofs.lemmas.Bool.{eq-eqb, eqb-true, ne_eqb}
use Rattle.std.proofs.lemmas.List.{get_or-map, length-map}
use Rattle.std.proofs.lemmas.List.Elements.{recursion_from_All}
use Rattle.std.proofs.Math.ListN.{get_or-append}
use Rattle.cop_rta.specs.declared.streams.Stream.{Stream}
use Rattle.cop_rta.specs.declared.errors.Errors.{Errors}
use Rattle.cop_rta.specs.Entries.{Entry, entry_of}
use Rattle.cop_rta.specs.Streams.{AreDistinct, place_of_id}
use Rattle.cop_rta.specs.Test.{sync_id, jitter_of}
use Rattle.cop_rta.specs.UpLemmas.{up_id, up_id-zero, up_id-other, up_id-cases, up_id-pos, down_id}
use Rattle.cop_rta.specs.Errors.{HasNoOne, up, down, errors_stream, tested, is_errors, rarity, errors_in, errors_of, all_but_errors, bus_of}
use Rattle.cop_rta.proofs.StreamLemmas.{stream_same, streams_same}
use Rattle.cop_rta.proofs.TestedLemmas.{EndsInErrors, ends_in_errors, errors_of-last, all_but-last, in_errors, none_zero, up_down, down_id-not_one}

-- what the tests of the errors' stream say
parts : (a b c d : Bool) → (a && b && c && d) ≡ true → (a ≡ true) × (b ≡ true) × (c ≡ true) × (d ≡ true)
parts true true true true h = (refl, refl, refl, refl)
parts true true true false h = absurd (cc)
parts true true false d h = absurd (cc)
parts true false c d h = absurd (cc)
parts false b c d h = absurd (cc)

no_deadline : (o : Option ℕ) → not (is_some o) ≡ true → o ≡ None
no_deadline None h = refl
no_deadline (Some d) h = absurd (cc)

-- it is the stream of its rarity
pub errors_again : (s : Stream) → is_errors s ≡ true → s ≡ errors_stream (rarity s)
errors_again s h =
    let p = parts (s.id == 0) (s.bytes == 9) (not (is_some s.deadline)) (s.every == 0) h in
    let id : s.id ≡ 0 = eqb-true s.id 0 p.0 in
    let bytes : s.bytes ≡ 9 = eqb-true s.bytes 9 p.1 in
    let deadline : s.deadline ≡ None = no_deadline s.deadline p.2 in
    let every : s.every ≡ 0 = eqb-true s.every 0 p.3 in
    stream_same s (errors_stream (rarity s)) (rw (id, bytes, deadline, every) refl)

entries_again : (streams : List Stream) → Each (λ s. s.id ≢ 0) streams → map entry_of (map up (map down streams)) ≡ map entry_of streams
entries_again [] h = refl
entries_again (s ∷ streams) h = rw (up_down s.id h.0, entries_again streams h.1) refl

not_one : (streams : List Stream) → HasNoOne (map down streams)
not_one streams = λ i d low e.
    (let size = length-map streams down in
    let its : get_or (map down streams) i d ≡ down (get_or streams i d) = get_or-map down streams i d d (omega (arith, low, size)) in
    down_id-not_one (get_or streams i d).id (ap (λ (s : Stream). s.id) (sym its) ∙ e))

pub bus_parts : (streams : List Stream) (e : EndsInErrors streams) → bus_of streams ≡ map down e.rest
bus_parts streams e =
    let some : errors_of streams ≡ Some e.last = ap errors_of e.parts ∙ errors_of-last e.rest e.last ∙ in_errors e.last e.is in
    let whole : all_but_errors streams ≡ map down e.rest = ap all_but_errors e.parts ∙ all_but-last e.rest e.last in
    ap (λ (o : Option Stream). if is_some o then all_but_errors streams else streams) some ∙ whole

-- a set that counts errors is the tested set of the streams of the bus in it
pub record IsTestedAgain (streams : List Stream) (s : Stream) : Type 0 where
  pub again : streams ≡ tested (Some (rarity s)) (bus_of streams)
  pub free : HasNoOne (bus_of streams)

pub tested_again : (streams : List Stream) → AreDistinct streams → (s : Stream) → errors_of streams ≡ Some s → IsTestedAgain streams s
tested_again streams distinct s some =
    let e = ends_in_errors streams (ap is_some some) in
    let last : ◌≡◌ {A = Option Stream} (Some e.last) (Some s) = sym (ap errors_of e.parts ∙ errors_of-last e.rest e.last ∙ in_errors e.last e.is) ∙ some in
    let one : e.last ≡ s = cc in
    let bus = bus_parts streams e in
    let size : length streams ≡ length e.rest + 1 = ap length e.parts ∙ length-append e.rest (e.last ∷ []) in
    let high : All (λ s. s.id ≢ 0) e.rest = λ i d low zero_id.
    none_zero streams distinct e i d (omega (arith, low, size)) (ap (λ (ss : List Stream). (get_or ss i d).id) e.parts ∙ ap (λ (s : Stream). s.id) (get_or-append e.rest (e.last ∷ []) d i low) ∙ zero_id) in
    let ups : map up (map down e.rest) ≡ e.rest = streams_same (map up (map down e.rest)) e.rest (entries_again e.rest (recursion_from_All (λ s. s.id ≢ 0) e.rest high)) in
    let end : e.last ≡ errors_stream (rarity s) = errors_again e.last e.is ∙ ap (λ (s : Stream). errors_stream (rarity s)) one in
    record {
      again = e.parts ∙ ap (λ (ss : List Stream). ss ++ e.last ∷ []) (sym ups ∙ ap (map up) (sym bus)) ∙ ap (λ (s : Stream). map up (bus_of streams) ++ s ∷ []) end;
      free = subst HasNoOne (sym bus) (not_one e.rest);
    }

-- ---- identifiers and places

pub up_id-mono : (a b : ℕ) → a ≤ b → up_id a ≤ up_id b
up_id-mono a b l = elim (up_id-cases a) [
  | inl c ↦ (let p = up_id-pos b in omega (arith, c.1, p))
  | inr c ↦ elim (up_id-cases b) [ inl d ↦ absurd (omega (arith, c.0, d.0, l)) | inr d ↦ omega (arith, c.1, d.1, l) ]
]

pub up_id-lower : (a b : ℕ) → a ≢ 1 → up_id a ≤ up_id b → a ≤ b
up_id-lower a b n l = elim (up_id-cases a) [
  | inl c ↦ omega (arith, c.0)
  | inr c ↦ elim (up_id-cases b) [ inl d ↦ absurd (n (omega (arith, c.0, c.1, d.1, l))) | inr d ↦ omega (arith, c.1, d.1, l) ]
]

-- SYNC keeps its identifier, and no other gets it
pub up_id-sync : (id : ℕ) → (up_id id == sync_id) ≡ (id == sync_id)
up_id-sync id = elim (up_id-cases id) [
  | inl c ↦ ap (λ n. n == sync_id) c.1 ∙ sym (ap (λ n. n == sync_id) c.0)
  | inr c ↦ ap (λ n. n == sync_id) c.1
]

-- a stream keeps its index
pub slice_up : (streams rest : List Stream) (i : ℕ) (s : Stream) → slice_get streams i ≡ Some s → slice_get (map up streams ++ rest) i ≡ Some (up s)
slice_up [] rest i s e = absurd (cc)
slice_up (k ∷ streams) rest zero s e = let same : k ≡ s = cc in ap (λ k. Some (up k)) same
slice_up (k ∷ streams) rest (suc i) s e = slice_up streams rest i s e

pub place_up : (streams rest : List Stream) (i : ℕ) → place_of_id streams sync_id ≡ Some i → place_of_id (map up streams ++ rest) sync_id ≡ Some i
place_up [] rest i e = absurd (cc)
place_up (k ∷ streams) rest i e =
    ap (λ b. if b then Some 0 else option_map (λ n. suc n) (place_of_id (map up streams ++ rest) sync_id)) (up_id-sync k.id) ∙ go (k.id == sync_id) (place_of_id streams sync_id) (λ n p. place_up streams rest n p) refl e
  where
    go : (b : Bool) (o : Option ℕ) → ((n : ℕ) → place_of_id streams sync_id ≡ Some n → place_of_id (map up streams ++ rest) sync_id ≡ Some n) → place_of_id streams sync_id ≡ o → (if b then Some 0 else option_map (λ n. suc n) o) ≡ Some i →
        (if b then Some 0 else option_map (λ n. suc n) (place_of_id (map up streams ++ rest) sync_id)) ≡ Some i
    go true o r p e = e
    go false None r p e = absurd (cc)
    go false (Some n) r p e = ap (option_map (λ n. suc n)) (r n p) ∙ e

-- ---- a stream's own jitter

not_synced : (k : Stream) (A : Type 0) (x y : A) → k.every ≡ 0 → (if k.every == 0 then x else y) ≡ x
not_synced k A x y e = ap (λ b. if b then x else y) (eq-eqb k.every 0 e)

synced_is : (k : Stream) (A : Type 0) (x y : A) → 1 ≤ k.every → (if k.every == 0 then x else y) ≡ y
synced_is k A x y l = ap (λ b. if b then x else y) (ne_eqb k.every 0 (λ e. omega arith))

pub jitter-own : (ahead : ℕ) (k : Stream) → k.every ≡ 0 → jitter_of ahead k ≡ k.jitter
jitter-own ahead k e = not_synced k ℕ k.jitter (ahead + k.jitter) e

pub jitter-synced : (ahead : ℕ) (k : Stream) → 1 ≤ k.every → jitter_of ahead k ≡ ahead + k.jitter
jitter-synced ahead k l = synced_is k ℕ k.jitter (ahead + k.jitter) l

pub in_streams : (streams : List Stream) (index : ℕ) (m : Stream) → slice_get streams index ≡ Some m → Contains streams m
in_streams streams index m e = (index, slice_get_within streams index m e, get_or_from_slice_get streams index m _ e)
