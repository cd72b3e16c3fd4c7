-- What the streams of a network keep where transfers may be disturbed.
use Rattle.std.proofs.Common.{◌≡◌, ◌≢◌, ◌⊎◌, ⊎_elim, ℕ, zero, suc, ◌+◌, ◌*◌, ◌<◌, ◌≤◌, ◌==◌, Bool, true, false, cond, List, [], ◌∷◌, ◌++◌, length, get_or, map, find, Option, Some, None, IfSome, All, refl, sym, ap, subst, ◌∙◌, append_assoc, arith, length-append, true≢false}
use Rattle.std.specs.List.{AllPairs}
use Rattle.std.proofs.lemmas.Bool.{cases_eq, eq-eqb, ne_eqb}
use Rattle.std.proofs.lemmas.List.{map-append, length-map, get_or-map}
use Rattle.std.proofs.lemmas.List.Elements.{All-append, All-nil, All-cons, All-head, All-tail, All-push, All-map}
use Rattle.std.proofs.lemmas.List.Quantifiers.{all_pairs_push}
use Rattle.std.proofs.Math.ListN.{get_or-append}
use Rattle.cop_rows.specs.declared.node_table.FrameRow.{FrameRow}
use Rattle.cop_rows.specs.declared.node_table.FrameKind.{FrameKind}
use Rattle.cop_rows.specs.declared.node_table.FrameKind.TheVariants as kinds
use Rattle.cop_rows.specs.Nodes.{IsFrameDeadline}
use Rattle.cop_rta.specs.declared.streams.Stream.{Stream}
use Rattle.cop_rta.specs.declared.errors.Errors.{Errors}
use Rattle.cop_rta.specs.Entries.{Entry, entry_of}
use Rattle.cop_rta.specs.Errors.{errors_stream, tested, up}
use Rattle.cop_rta.specs.UpLemmas.{up_id, up_id-cases, up_id-other, up_id-pos}
use Rattle.cop_rta.proofs.TestedLemmas.{up_id-injective}
use Rattle.cop_net.specs.Fixed.{IsOwner, IsTimed, IsErrors, rank_of, key_of, frame_stream, sent, streams_from, fixed_streams}
use Rattle.cop_net.specs.Signals.{if_sent, errors_in}
use Rattle.cop_net.specs.Network.{up_entry, through}
use Rattle.cop_net.proofs.FixedLemmas.{IsAt, found_at, found_all}
use Rattle.cop_net.proofs.SetLemmas.{AreApart}

-- ---- identifiers

-- what holds of an identifier holds of the one that counts, if it moves with NMT's
pub up_kept : (Q : ℕ → Type 0) (id : ℕ) → (Q 0 → Q 1) → Q id → Q (up_id id)
up_kept Q id moves h = ⊎_elim
    (λ (p : (id ≡ 0) × (up_id id ≡ 1)). subst Q (sym p.1) (moves (subst Q p.0 h)))
    (λ (p : (1 ≤ id) × (up_id id ≡ id)). subst Q (sym p.1) h)
    (up_id-cases id)

up_same : (e : Entry) → 1 ≤ e.id → up_entry e ≡ e
up_same e h = ap (λ (n : ℕ). record e { id = n }) (up_id-other e.id h)

up_all : (es : List Entry) → All (λ e. 1 ≤ e.id) es → map up_entry es ≡ es
up_all [] h = refl
up_all (e ∷ es) h =
    ap (λ (x : Entry). x ∷ map up_entry es) (up_same e (All-head (λ e. 1 ≤ e.id) e es h)) ∙ ap (λ (xs : List Entry). e ∷ xs) (up_all es (All-tail (λ e. 1 ≤ e.id) e es h))

up_apart : (es : List Entry) → All (λ e. e.id ≢ 1) es → AllPairs AreApart es → AllPairs AreApart (map up_entry es)
up_apart es free apart i j d lt inside same =
    let late : j < length es = omega (arith, inside, length-map es up_entry) in
    let early : i < length es = omega (arith, lt, late) in
    let left = get_or-map up_entry es i d d early in
    let right = get_or-map up_entry es j d d late in
    apart i j d lt late (up_id-injective (get_or es i d).id (get_or es j d).id (free i d early) (free j d late) (ap (λ (e : Entry). e.id) (sym left) ∙ same ∙ ap (λ (e : Entry). e.id) right))

-- ---- lists

-- streams with other identifiers than NMT's in front stay as they are
pub through_behind : (o : Option FrameRow) (xs ys : List Entry) → All (λ e. 1 ≤ e.id) xs → through o (xs ++ ys) ≡ xs ++ through o ys
through_behind None xs ys h = refl
through_behind (Some row) xs ys h =
    ap (λ (es : List Entry). es ++ frame_stream row ∷ []) (map-append up_entry xs ys ∙ ap (λ (es : List Entry). es ++ map up_entry ys) (up_all xs h))
    ∙ append_assoc xs (map up_entry ys) (frame_stream row ∷ [])

pub through_all : (P : Entry → Type 0) (o : Option FrameRow) (es : List Entry) → ((e : Entry) → P e → P (up_entry e)) → IfSome o (λ row. P (frame_stream row)) → All P es → All P (through o es)
through_all P None es moves last h = h
through_all P (Some row) es moves last h = All-push P (map up_entry es) (frame_stream row) (All-map P up_entry es (λ k e lt. moves (get_or es k e) (h k e lt))) last

pub through_apart : (o : Option FrameRow) (es : List Entry) → IfSome o (λ row. (frame_stream row).id ≡ 0) → All (λ e. e.id ≢ 1) es → AllPairs AreApart es → AllPairs AreApart (through o es)
through_apart None es top free apart = apart
through_apart (Some row) es top free apart =
    let high : All (λ e. 1 ≤ e.id) (map up_entry es) = All-map (λ e. 1 ≤ e.id) up_entry es (λ k e lt. up_id-pos (get_or es k e).id) in
    all_pairs_push AreApart (map up_entry es) (frame_stream row) (up_apart es free apart) (λ k e lt same. omega (arith, high k e lt, same, top))

pub through_length : (o : Option FrameRow) (es : List Entry) → length (through o es) ≤ length es + 1
through_length None es = omega arith
through_length (Some row) es = omega (arith, length-append (map up_entry es) (frame_stream row ∷ []), length-map es up_entry)

-- a stream with another identifier than NMT's stays where it is
pub through_at : (o : Option FrameRow) (es : List Entry) (j : ℕ) (e : Entry) → j < length es → ((d : Entry) → get_or es j d ≡ e) → 1 ≤ e.id
    → (j < length (through o es)) × ((d : Entry) → get_or (through o es) j d ≡ e)
through_at None es j e lt at high = (lt, at)
through_at (Some row) es j e lt at high =
    let inside : j < length (map up_entry es) = omega (arith, lt, length-map es up_entry) in (
      omega (arith, inside, length-append (map up_entry es) (frame_stream row ∷ [])),
      (λ d. get_or-append (map up_entry es) (frame_stream row ∷ []) d j inside ∙ get_or-map up_entry es j d d lt ∙ ap up_entry (at d) ∙ up_same e high),
    )

-- ---- the row of disturbed transfers

is_errors_kind : (kind : FrameKind) (node : ℕ) → node ≤ 127 → IsOwner kind node → 6 * node + rank_of kind ≡ 768 → (kind ≡ kinds.Errors) × (node ≡ 0)
is_errors_kind kinds.Nmt node h own e = absurd (omega arith)
is_errors_kind kinds.Sync node h own e = absurd (omega arith)
is_errors_kind kinds.Emcy node h own e = absurd (omega arith)
is_errors_kind kinds.SdoResponse node h own e = absurd (omega arith)
is_errors_kind kinds.SdoRequest node h own e = absurd (omega arith)
is_errors_kind kinds.Heartbeat node h own e = absurd (omega arith)
is_errors_kind kinds.Errors node h own e = (refl, own)

no_deadline : (kind : FrameKind) (period : ℕ) (deadline : Option ℕ) → kind ≡ kinds.Errors → IfSome deadline (IsFrameDeadline kind period) → deadline ≡ None
no_deadline kind period None e h = refl
no_deadline kind period (Some d) e h = absurd (let may = rw e at h.allowed in cc)

times : (period : ℕ) → (period ≡ 0) ⊎ ((100 ≤ period) × (period ≤ 60000000)) → period ≢ 0 → (100 ≤ period) × (period ≤ 60000000)
times period h some = ⊎_elim (λ (none : period ≡ 0). absurd (some none)) (λ (range : (100 ≤ period) × (period ≤ 60000000)). range) h

-- a row that is found at the last place and that counts
pub errors_at : (row : FrameRow) → IsTimed row → key_of row ≡ 768 → row.period ≢ 0 → IsErrors row
errors_at row timed at some =
    let its = is_errors_kind row.kind row.node timed.node timed.owner at in
    let time = times row.period timed.period some in
    record {
      kind = its.0;
      node = its.1;
      least = time.0;
      most = time.1;
      jitter = timed.jitter;
      deadline = no_deadline row.kind row.period row.deadline its.0 timed.deadline;
    }

by_row : (o : Option FrameRow) → IfSome o (IsAt 768) → IfSome (if_sent o) IsErrors
by_row None h = tt
by_row (Some row) h = by_period (row.period == 0) refl
  where
    by_period : (b : Bool) → (row.period == 0) ≡ b → IfSome (cond b None (Some row)) IsErrors
    by_period true e = tt
    by_period false e = errors_at row h.0 h.1 (λ none. true≢false (sym (eq-eqb row.period 0 none) ∙ e))

-- what is found at the last place has it
pub found_last : (frames : List FrameRow) (row : FrameRow) → Some row ≡ find (λ r. key_of r == 768) frames → key_of row ≡ 768
found_last frames row e = subst (λ (o : Option FrameRow). IfSome o (λ r. key_of r ≡ 768)) (sym e) (at_last frames)
  where
    at_last : (frames : List FrameRow) → IfSome (find (λ r. key_of r == 768) frames) (λ r. key_of r ≡ 768)
    at_last [] = tt
    at_last (f ∷ frames) = ⊎_elim
        (λ (here : key_of f ≡ 768). rw (eq-eqb (key_of f) 768 here) here)
        (λ (other : key_of f ≢ 768). rw (ne_eqb (key_of f) 768 other) (at_last frames))
        (cases_eq (key_of f) 768)

pub errors_of_rows : (frames : List FrameRow) → All IsTimed frames → IfSome (errors_in frames) IsErrors
errors_of_rows frames timed = by_row (find (λ row. key_of row == 768) frames) (found_at frames 768 timed)

-- its stream is above all others
pub errors_id : (row : FrameRow) → IsErrors row → (frame_stream row).id ≡ 0
errors_id row h = rw (h.kind, h.node) refl

if_some : {A : Type 0} (P Q : A → Type 0) (o : Option A) → ((x : A) → P x → Q x) → IfSome o P → IfSome o Q
if_some P Q None h some = tt
if_some P Q (Some x) h some = h x some

pub errors_first : (frames : List FrameRow) → All IsTimed frames → IfSome (errors_in frames) (λ row. (frame_stream row).id ≡ 0)
errors_first frames timed = if_some IsErrors (λ row. (frame_stream row).id ≡ 0) (errors_in frames) errors_id (errors_of_rows frames timed)

-- what the tested set of a set shows
pub tested_is : (e : Errors) (row : FrameRow) (set : List Stream) → entry_of (errors_stream e) ≡ frame_stream row → map entry_of (tested (Some e) set) ≡ through (Some row) (map entry_of set)
tested_is e row set is =
    map-append entry_of (map up set) (errors_stream e ∷ []) ∙ ap (λ (es : List Entry). es ++ entry_of (errors_stream e) ∷ []) (all_up set) ∙ ap (λ (x : Entry). map up_entry (map entry_of set) ++ x ∷ []) is
  where
    all_up : (set : List Stream) → map entry_of (map up set) ≡ map up_entry (map entry_of set)
    all_up [] = refl
    all_up (s ∷ set) = ap (λ (es : List Entry). up_entry (entry_of s) ∷ es) (all_up set)

-- ---- the streams behind the PDOs

row_sent : (P : Entry → Type 0) (row : Option FrameRow) → IfSome row (λ row. P (frame_stream row)) → All P (sent row)
row_sent P None h = All-nil P
row_sent P (Some row) h = by_period (row.period == 0)
  where
    by_period : (b : Bool) → All P (cond b [] (frame_stream row ∷ []))
    by_period true = All-nil P
    by_period false = All-cons P (frame_stream row) [] h (All-nil P)

rows_from : (P : Entry → Type 0) (frames : List FrameRow) (key count : ℕ) → All (λ row. P (frame_stream row)) frames → All P (streams_from frames key count)
unfolding streams_from
rows_from P frames key zero h = All-nil P
rows_from P frames key (suc count) h =
    All-append P (sent (find (λ row. key_of row == key) frames)) (streams_from frames (key + 1) count)
    (row_sent P (find (λ row. key_of row == key) frames) (found_all (λ row. P (frame_stream row)) (λ row. key_of row == key) frames h)) (rows_from P frames (key + 1) count h)

-- what holds of the streams of all rows holds of those that are sent
pub fixed_all : (P : Entry → Type 0) (frames : List FrameRow) → All (λ row. P (frame_stream row)) frames → All P (fixed_streams frames)
unfolding fixed_streams
fixed_all P frames h = rows_from P frames 0 768 h

row_counted : (P : FrameRow → Type 0) (o : Option FrameRow) → IfSome o P → IfSome (if_sent o) P
row_counted P None h = tt
row_counted P (Some row) h = by_period (row.period == 0)
  where
    by_period : (b : Bool) → IfSome (cond b None (Some row)) P
    by_period true = tt
    by_period false = h

-- the streams behind the PDOs: those of fixed identifiers as they are tested, and disturbed transfers
abbrev pub behind : List FrameRow → List Entry
behind frames = through (errors_in frames) (fixed_streams frames)

-- what holds of the streams of all rows, and moves with NMT's identifier, holds of them
pub behind_all : (P : Entry → Type 0) (frames : List FrameRow) → ((e : Entry) → P e → P (up_entry e)) → All (λ row. P (frame_stream row)) frames → All P (behind frames)
behind_all P frames moves h =
    through_all P (errors_in frames) (fixed_streams frames) moves
    (row_counted (λ row. P (frame_stream row)) (find (λ row. key_of row == 768) frames) (found_all (λ row. P (frame_stream row)) (λ row. key_of row == 768) frames h))
    (fixed_all P frames h)
