-- The identifiers of a network's streams are apart, and the streams are few.
use Rattle.std.proofs.Common.{◌≡◌, ◌≢◌, ◌⊎◌, inl, inr, ⊎_elim, ℕ, zero, suc, ◌+◌, ◌-◌, ◌*◌, ◌%◌, ◌<◌, ◌≤◌, ◌==◌, nat_lt, if◌then◌else◌, Bool, true, false, cond, List, [], ◌∷◌, ◌++◌, length, get_or, map, find, Option, Some, None, IfSome, All, refl, sym, ap, subst, ◌∙◌, append_assoc, arith, length-append}
use Rattle.std.specs.List.{AllPairs}
use Rattle.std.proofs.lemmas.Bool.Decides.{nat_tests}
use Rattle.std.proofs.lemmas.List.{length-map, get_or-map}
use Rattle.std.proofs.lemmas.List.Elements.{All-append, All-nil, All-cons}
use Rattle.std.proofs.Math.Nat.{mul-add-mod_self_left}
use Rattle.cop_rows.specs.declared.node_table.FrameRow.{FrameRow}
use Rattle.cop_rows.specs.declared.node_table.FrameKind.{FrameKind}
use Rattle.cop_rows.specs.declared.node_table.FrameKind.TheVariants as kinds
use Rattle.cop_rta.specs.declared.streams.Stream.{Stream}
use Rattle.cop_rta.specs.Entries.{Entry, entry_of}
use Rattle.cop_rta.specs.Errors.{HasNoOne}
use Rattle.cop_rta.specs.Ranges as ranges
use Rattle.cop_net.specs.Sets.{AreOneSet}
use Rattle.cop_net.specs.Fixed.{IsOwner, IsTimed, base_of, rank_of, key_of, frame_stream, sent, streams_from, fixed_streams}
use Rattle.cop_net.specs.Signals.{errors_in}
use Rattle.cop_net.specs.Pdos.{ArePdos}
use Rattle.cop_net.proofs.FixedLemmas.{IsAt, found_at}
use Rattle.cop_net.proofs.SetLemmas.{AreApart, AllPairs-append, one_set_front}
use Rattle.cop_net.proofs.ThroughLemmas.{up_kept, through_apart, through_length, errors_first, fixed_all, behind, behind_all}

-- an identifier that is not of the first range
abbrev pub IsOutside : ℕ → Type 0
IsOutside id = (id < 0x181) ⊎ (0x57F < id)

outside_kind : (kind : FrameKind) (node : ℕ) → node ≤ 127 → IsOutside (base_of kind + node)
outside_kind kinds.Nmt node h = inl (omega arith)
outside_kind kinds.Sync node h = inl (omega arith)
outside_kind kinds.Emcy node h = inl (omega arith)
outside_kind kinds.SdoResponse node h = inr (omega arith)
outside_kind kinds.SdoRequest node h = inr (omega arith)
outside_kind kinds.Heartbeat node h = inr (omega arith)
outside_kind kinds.Errors node h = inl (omega arith)

-- the place of the frame that has an identifier; that of disturbed transfers is no frame
place_at : ℕ → ℕ
place_at id =
    if nat_lt id 0x80 then 0
    else if nat_lt id 0x81 then 1
    else if nat_lt id 0x100 then 6 * (id - 0x80) + 2
    else if nat_lt id 0x600 then 6 * (id - 0x580) + 3
    else if nat_lt id 0x700 then 6 * (id - 0x600) + 4
    else 6 * (id - 0x700) + 5

place_of_kind : (kind : FrameKind) (node : ℕ) → node ≤ 127 → IsOwner kind node → 6 * node + rank_of kind < 768 → place_at (base_of kind + node) ≡ 6 * node + rank_of kind
unfolding place_at
place_of_kind kinds.Nmt node h own low = grind (arith, nat_tests)
place_of_kind kinds.Sync node h own low = grind (arith, nat_tests)
place_of_kind kinds.Emcy node h own low = grind (arith, nat_tests)
place_of_kind kinds.SdoResponse node h own low = grind (arith, nat_tests)
place_of_kind kinds.SdoRequest node h own low = grind (arith, nat_tests)
place_of_kind kinds.Heartbeat node h own low = grind (arith, nat_tests)
place_of_kind kinds.Errors node h own low = absurd (omega arith)

place_of_row : (row : FrameRow) → IsTimed row → key_of row < 768 → place_at (frame_stream row).id ≡ key_of row
place_of_row row h low = place_of_kind row.kind row.node h.node h.owner low

-- frames at two places have two identifiers
rows_apart : (f g : FrameRow) → IsTimed f → IsTimed g → key_of f < key_of g → key_of g < 768 → (frame_stream f).id ≢ (frame_stream g).id
rows_apart f g timed_f timed_g lt low e =
    let same : key_of f ≡ key_of g = sym (place_of_row f timed_f (omega (arith, lt, low))) ∙ ap place_at e ∙ place_of_row g timed_g low in omega (arith, same, lt)

-- what holds of the frame at a place holds of its stream, where it is sent
sent_all : (P : Entry → Type 0) (key : ℕ) (row : Option FrameRow) → IfSome row (IsAt key) → ((row : FrameRow) → IsAt key row → P (frame_stream row)) → All P (sent row)
sent_all P key None h each = All-nil P
sent_all P key (Some row) h each = by_period (row.period == 0)
  where
    by_period : (b : Bool) → All P (cond b [] (frame_stream row ∷ []))
    by_period true = All-nil P
    by_period false = All-cons P (frame_stream row) [] (each row h) (All-nil P)

-- the same of the frames from a place on
streams_all : (P : Entry → Type 0) (frames : List FrameRow) (key count : ℕ) → All IsTimed frames → ((row : FrameRow) → IsTimed row → key ≤ key_of row → key_of row < key + count → P (frame_stream row))
    → All P (streams_from frames key count)
unfolding streams_from
streams_all P frames key zero h each = All-nil P
streams_all P frames key (suc count) h each =
    All-append P (sent (find (λ row. key_of row == key) frames)) (streams_from frames (key + 1) count)
    (sent_all P key (find (λ row. key_of row == key) frames) (found_at frames key h) (λ row at. each row at.0 (omega (arith, at.1)) (omega (arith, at.1))))
    (streams_all P frames (key + 1) count h (λ row timed past low. each row timed (omega arith) (omega (arith, low))))

second_kind : (kind : FrameKind) (node : ℕ) → node ≤ 127 → ranges.IsOutside ranges.second_range (base_of kind + node)
second_kind kinds.Nmt node h = inl (omega arith)
second_kind kinds.Sync node h = inl (omega arith)
second_kind kinds.Emcy node h = inl (omega arith)
second_kind kinds.SdoResponse node h = inl (omega arith)
second_kind kinds.SdoRequest node h = inl (omega arith)
second_kind kinds.Heartbeat node h = inr (omega arith)
second_kind kinds.Errors node h = inl (omega arith)

pub behind_outside_second : (frames : List FrameRow) → All IsTimed frames → All (λ e. ranges.IsOutside ranges.second_range e.id) (behind frames)
behind_outside_second frames h =
    behind_all (λ e. ranges.IsOutside ranges.second_range e.id) frames (λ e its. up_kept (ranges.IsOutside ranges.second_range) e.id (λ nmt. inl (omega arith)) its)
    (λ k d lt. let row = h k d lt in second_kind _ _ row.node)

fixed_outside : (frames : List FrameRow) → All IsTimed frames → All (λ e. IsOutside e.id) (fixed_streams frames)
fixed_outside frames h = fixed_all (λ e. IsOutside e.id) frames (λ k d lt. let row = h k d lt in outside_kind _ _ row.node)

pub behind_outside : (frames : List FrameRow) → All IsTimed frames → All (λ e. IsOutside e.id) (behind frames)
behind_outside frames h =
    behind_all (λ e. IsOutside e.id) frames (λ e its. up_kept IsOutside e.id (λ nmt. inl (omega arith)) its) (λ k d lt. let row = h k d lt in outside_kind _ _ row.node)

sent_apart : (row : Option FrameRow) → AllPairs AreApart (sent row)
sent_apart None = λ i j d lt inside. absurd (omega arith)
sent_apart (Some row) = by_period (row.period == 0)
  where
    by_period : (b : Bool) → AllPairs AreApart (cond b [] (frame_stream row ∷ []))
    by_period true = λ i j d lt inside. absurd (omega arith)
    by_period false = λ i j d lt inside. absurd (omega arith)

streams_apart : (frames : List FrameRow) (key count : ℕ) → key + count ≤ 768 → All IsTimed frames → AllPairs AreApart (streams_from frames key count)
unfolding streams_from
streams_apart frames key zero few h = λ i j d lt inside. absurd (omega arith)
streams_apart frames key (suc count) few h =
    let here = find (λ row. key_of row == key) frames in
    let rest = streams_from frames (key + 1) count in
    AllPairs-append AreApart (sent here) rest (sent_apart here) (streams_apart frames (key + 1) count (omega arith) h)
    (sent_all (λ e. All (AreApart e) rest) key here (found_at frames key h)
    (λ row at. streams_all (AreApart (frame_stream row)) frames (key + 1) count h (λ other timed past low. rows_apart row other at.0 timed (omega (arith, at.1, past)) (omega (arith, low, few)))))

fixed_apart : (frames : List FrameRow) → All IsTimed frames → AllPairs AreApart (fixed_streams frames)
unfolding fixed_streams
fixed_apart frames h = streams_apart frames 0 768 (omega arith) h

-- how many frames can have a place
most_at : ℕ → ℕ
most_at key = if nat_lt key 6 then (if nat_lt key 2 then 1 else 0) else if nat_lt 767 key then 1 else (if nat_lt (key % 6) 2 then 0 else 1)

-- and so many places from one on
unfoldable most_from : ℕ → ℕ → ℕ
most_from key zero = 0
most_from key (suc count) = most_at key + most_from (key + 1) count

one_of_kind : (kind : FrameKind) (node : ℕ) → node ≤ 127 → IsOwner kind node → most_at (6 * node + rank_of kind) ≡ 1
unfolding most_at
one_of_kind kinds.Nmt node h own = rw own refl
one_of_kind kinds.Sync node h own = rw own refl
one_of_kind kinds.Emcy node h own = let left = mul-add-mod_self_left 6 node 2 in grind (arith, nat_tests)
one_of_kind kinds.SdoResponse node h own = let left = mul-add-mod_self_left 6 node 3 in grind (arith, nat_tests)
one_of_kind kinds.SdoRequest node h own = let left = mul-add-mod_self_left 6 node 4 in grind (arith, nat_tests)
one_of_kind kinds.Heartbeat node h own = let left = mul-add-mod_self_left 6 node 5 in grind (arith, nat_tests)
one_of_kind kinds.Errors node h own = rw own refl

sent_few : (key : ℕ) (row : Option FrameRow) → IfSome row (IsAt key) → length (sent row) ≤ most_at key
sent_few key None h = omega arith
sent_few key (Some row) h =
    let one : most_at key ≡ 1 = ap most_at (sym h.1) ∙ one_of_kind row.kind row.node h.0.node h.0.owner in rw one (by_period (row.period == 0))
  where
    by_period : (b : Bool) → length (cond b [] (frame_stream row ∷ [])) ≤ 1
    by_period true = omega arith
    by_period false = omega arith

streams_few : (frames : List FrameRow) (key count : ℕ) → All IsTimed frames → length (streams_from frames key count) ≤ most_from key count
unfolding streams_from most_from
streams_few frames key zero h = omega arith
streams_few frames key (suc count) h =
    let here = find (λ row. key_of row == key) frames in
    let rest = streams_from frames (key + 1) count in
    omega (arith, length-append (sent here) rest, sent_few key here (found_at frames key h), streams_few frames (key + 1) count h)

-- NMT, SYNC, and four frames of each node
fixed_few : (frames : List FrameRow) → All IsTimed frames → length (fixed_streams frames) ≤ 510
unfolding fixed_streams most_from most_at
fixed_few frames h = streams_few frames 0 768 h

pdos_apart : (pdos : List Entry) → ArePdos pdos → AllPairs AreApart pdos
pdos_apart pdos are i j d lt inside = let first = are i d (omega arith) in let last = are j d inside in λ e. omega (arith, first.0, last.0, e)

-- PDOs and streams with identifiers that PDOs do not have
pdos_one_set : (pdos streams : List Entry) → ArePdos pdos → length pdos ≤ 512 → length streams ≤ 511 → All (λ e. IsOutside e.id) streams → AllPairs AreApart streams → AreOneSet (pdos ++ streams)
pdos_one_set pdos streams are le few outside apart = record {
  apart = AllPairs-append AreApart pdos streams (pdos_apart pdos are) apart
      (λ i d lt j o inside e.
      let pdo = are i d lt in
      ⊎_elim (λ (low : (get_or streams j o).id < 0x181). absurd (omega (arith, pdo.0, e, low)))
      (λ (high : 0x57F < (get_or streams j o).id). absurd (omega (arith, pdo.0, e, high))) (outside j o inside));
  count = omega (arith, length-append pdos streams);
}

-- the streams of all PDOs and those of the fixed identifiers are one set
pub one_set_all : (pdos : List Entry) (frames : List FrameRow) → ArePdos pdos → length pdos ≤ 512 → All IsTimed frames → AreOneSet (pdos ++ fixed_streams frames)
one_set_all pdos frames are le h = pdos_one_set pdos (fixed_streams frames) are le (omega (arith, fixed_few frames h)) (fixed_outside frames h) (fixed_apart frames h)

free_kind : (kind : FrameKind) (node : ℕ) → IsOwner kind node → base_of kind + node ≢ 1
free_kind kinds.Nmt node own e = omega arith
free_kind kinds.Sync node own e = omega arith
free_kind kinds.Emcy node own e = omega arith
free_kind kinds.SdoResponse node own e = omega arith
free_kind kinds.SdoRequest node own e = omega arith
free_kind kinds.Heartbeat node own e = omega arith
free_kind kinds.Errors node own e = omega arith

-- no frame has the identifier 001h
fixed_free : (frames : List FrameRow) → All IsTimed frames → All (λ e. e.id ≢ 1) (fixed_streams frames)
fixed_free frames h = fixed_all (λ e. e.id ≢ 1) frames (λ k d lt. let row = h k d lt in free_kind _ _ row.owner)

-- the same with disturbed transfers
pub one_set_behind : (pdos : List Entry) (frames : List FrameRow) → ArePdos pdos → length pdos ≤ 512 → All IsTimed frames → AreOneSet (pdos ++ behind frames)
one_set_behind pdos frames are le h =
    pdos_one_set pdos (behind frames) are le (omega (arith, fixed_few frames h, through_length (errors_in frames) (fixed_streams frames))) (behind_outside frames h)
    (through_apart (errors_in frames) (fixed_streams frames) (errors_first frames h) (fixed_free frames h) (fixed_apart frames h))

-- the identifiers of PDOs are above NMT's
pub pdos_high : (pdos : List Entry) → ArePdos pdos → All (λ e. 1 ≤ e.id) pdos
pdos_high pdos are k d lt = let pdo = are k d lt in omega (arith, pdo.0)

-- a set of PDOs and frames has room for disturbed transfers, and none of its streams is in NMT's way
pub has_no_one : (set : List Stream) (pdos : List Entry) (frames : List FrameRow) → map entry_of set ≡ pdos ++ fixed_streams frames → ArePdos pdos → All IsTimed frames → HasNoOne set
has_no_one set pdos frames e are h k d lt =
    let free : All (λ x. x.id ≢ 1) (map entry_of set) =
    subst (All (λ (x : Entry). x.id ≢ 1)) (sym e) (All-append (λ (x : Entry). x.id ≢ 1) pdos (fixed_streams frames) (λ j o inside one. (let pdo = are j o inside in omega (arith, pdo.0, one))) (fixed_free frames h)) in
    let its = free k (entry_of d) (omega (arith, length-map set entry_of, lt)) in
    λ one. its (ap (λ (x : Entry). x.id) (get_or-map entry_of set k d (entry_of d) lt) ∙ one)

pub room_left : (set : List Stream) (pdos : List Entry) (frames : List FrameRow) → map entry_of set ≡ pdos ++ fixed_streams frames → length pdos ≤ 512 → All IsTimed frames → length set < 1100
room_left set pdos frames e le h = omega (arith, length-map set entry_of, ap length e, length-append pdos (fixed_streams frames), fixed_few frames h)

-- so far and those of one place more are one set, as all are
pub one_set_row : (frames : List FrameRow) (before : List Entry) (i : ℕ) (row : Option FrameRow) (total : List Entry) → i < 768 → row ≡ find (λ r. key_of r == i) frames
    → before ++ streams_from frames i (768 - i) ≡ total → AreOneSet total → AreOneSet (before ++ sent row)
unfolding streams_from
one_set_row frames before i row total lt here so_far all =
    let k : 768 - i ≡ suc (768 - (i + 1)) = omega arith in
    let one : streams_from frames i (768 - i) ≡ sent row ++ streams_from frames (i + 1) (768 - (i + 1)) = rw (k, here) refl in
    let whole : (before ++ sent row) ++ streams_from frames (i + 1) (768 - (i + 1)) ≡ total = append_assoc before (sent row) (streams_from frames (i + 1) (768 - (i + 1))) ∙ ap (λ r. before ++ r) (sym one) ∙ so_far in
    one_set_front (before ++ sent row) (streams_from frames (i + 1) (768 - (i + 1))) (subst AreOneSet (sym whole) all)
