-- The stream of each row of the table of nodes that is sent.
use Rattle.std.proofs.Common.{◌≡◌, ◌≢◌, ℕ, zero, suc, ◌+◌, ◌<◌, ◌≤◌, ◌==◌, Bool, true, false, cond, if◌then◌else◌, find, List, [], ◌∷◌, ◌++◌, length, map, slice_get, option_map, Option, Some, None, Contains, All, refl, sym, ap, ◌∙◌, subst, arith, ⊎_elim, ◌⊎◌, inl, inr}
use Rattle.std.proofs.lemmas.Bool.{cases_eq, cases_lt, eq-eqb, ne_eqb, eqb-false}
use Rattle.std.proofs.lemmas.Option.{slice_get_within, slice_get_read, slice_get-map, get_or_from_slice_get}
use Rattle.std.proofs.lemmas.List.Elements.{All-contains}
use Rattle.std.proofs.lemmas.List.Folds.{find_at}
use Rattle.std.specs.List.{position_or_len}
use Rattle.cop_rows.specs.declared.node_table.FrameRow.{FrameRow}
use Rattle.cop_rows.specs.declared.node_table.FrameKind.{FrameKind}
use Rattle.cop_rows.specs.declared.node_table.FrameKind.TheVariants as kinds
use Rattle.cop_rows.specs.Nodes.{NodeLists, IsNodeTable}
use Rattle.cop_rta.specs.Entries.{Entry, entry_of}
use Rattle.cop_net.specs.Fixed.{IsOwner, IsTimed, base_of, rank_of, key_of, frame_stream, sent, streams_from, fixed_streams}
use Rattle.cop_net.specs.Signals.{if_sent, sync_of, errors_in}
use Rattle.cop_net.specs.Network.{Net, IsNetwork, up_entry, through}
use Rattle.cop_net.proofs.ThroughLemmas.{behind}
use Rattle.cop_rta.specs.UpLemmas.{up_id}
use Rattle.cop_engine.specs.Guarantee.{is_errors, tested_id, frame_id}
use Rattle.cop_net.proofs.NetworkLemmas.{timed}
use Rattle.cop_engine.proofs.RowStreams.{still_there, network_streams}

-- a kind of a frame, or that of disturbed transfers
rank_least : (kind : FrameKind) → ((is_errors kind ≡ false) × (rank_of kind < 6)) ⊎ (kind ≡ kinds.Errors)
rank_least kinds.Nmt = inl (refl, omega arith)
rank_least kinds.Sync = inl (refl, omega arith)
rank_least kinds.Emcy = inl (refl, omega arith)
rank_least kinds.SdoResponse = inl (refl, omega arith)
rank_least kinds.SdoRequest = inl (refl, omega arith)
rank_least kinds.Heartbeat = inl (refl, omega arith)
rank_least kinds.Errors = inr refl

kind_at : ℕ → FrameKind
kind_at n =
    if n == 0 then kinds.Nmt
    else if n == 1 then kinds.Sync
    else if n == 2 then kinds.Emcy
    else if n == 3 then kinds.SdoResponse
    else if n == 4 then kinds.SdoRequest
    else if n == 5 then kinds.Heartbeat
    else kinds.Errors

kind_again : (kind : FrameKind) → kind_at (rank_of kind) ≡ kind
unfolding kind_at
kind_again kinds.Nmt = refl
kind_again kinds.Sync = refl
kind_again kinds.Emcy = refl
kind_again kinds.SdoResponse = refl
kind_again kinds.SdoRequest = refl
kind_again kinds.Heartbeat = refl
kind_again kinds.Errors = refl

-- a row of errors is nobody's, and stands behind all frames
errors_key : (f : FrameRow) → IsTimed f → f.kind ≡ kinds.Errors → (f.node ≡ 0) × (key_of f ≡ 768)
errors_key f timed e =
    let node : f.node ≡ 0 = subst (λ (kind : FrameKind). IsOwner kind f.node) e timed.owner in
    let rank : rank_of f.kind ≡ 768 = ap rank_of e in
    (node, omega (arith, node, rank))

frame_key : (f : FrameRow) → IsTimed f → rank_of f.kind < 6 → key_of f < 768
frame_key f timed l = omega (arith, l, timed.node)

-- two rows with one key have one kind and one node
same_both : (f g : FrameRow) → IsTimed f → IsTimed g → key_of f ≡ key_of g → (f.kind ≡ g.kind) × (f.node ≡ g.node)
same_both f g first second e = elim (rank_least f.kind) [
  | inl l ↦ elim (rank_least g.kind) [
    | inl r ↦ (let ranks : rank_of f.kind ≡ rank_of g.kind = omega (arith, e, l.1, r.1) in (sym (kind_again f.kind) ∙ ap kind_at ranks ∙ kind_again g.kind, omega (arith, e, l.1, r.1)))
    | inr r ↦ (let low = frame_key f first l.1 in let high = errors_key g second r in absurd (omega (arith, e, low, high.1)))
  ]
  | inr l ↦ elim (rank_least g.kind) [
    | inl r ↦ (let low = frame_key g second r.1 in let high = errors_key f first l in absurd (omega (arith, e, low, high.1)))
    | inr r ↦ (let left = errors_key f first l in let right = errors_key g second r in (l ∙ sym r, left.0 ∙ sym right.0))
  ]
]

-- the only row with its key is the one that is found
abbrev IsOnly : List FrameRow → FrameRow → Type 0
IsOnly frames row = (i : ℕ) (r : FrameRow) → slice_get frames i ≡ Some r → key_of r ≡ key_of row → r ≡ row

later_row : (f : FrameRow) (frames : List FrameRow) (row : FrameRow) (j : ℕ) → slice_get (f ∷ frames) j ≡ Some row → key_of f ≢ key_of row → (i : ℕ) × (slice_get frames i ≡ Some row)
later_row f frames row zero there other = let same : f ≡ row = cc in absurd (other (ap (λ (r : FrameRow). key_of r) same))
later_row f frames row (suc j) there other = (j, there)

found_row : (frames : List FrameRow) (row : FrameRow) (j : ℕ) → slice_get frames j ≡ Some row → IsOnly frames row → find (λ r. key_of r == key_of row) frames ≡ Some row
found_row [] row j there only = absurd (cc)
found_row (f ∷ frames) row j there only = ⊎_elim
    (λ (e : key_of f ≡ key_of row). let same : f ≡ row = only 0 f refl e in rw (eq-eqb (key_of f) (key_of row) e) (ap (λ (r : FrameRow). Some r) same))
    (λ (other : key_of f ≢ key_of row).
    let l = later_row f frames row j there other in rw (ne_eqb (key_of f) (key_of row) other) (found_row frames row l.0 l.1 (λ i r h e. only (suc i) r h e)))
    (cases_eq (key_of f) (key_of row))

-- what stands in a list stands so much later with more before it
further : {A : Type 0} (xs ys : List A) (j k : ℕ) (x : A) → k ≡ length xs + j → slice_get ys j ≡ Some x → slice_get (xs ++ ys) k ≡ Some x
further [] ys j k x e h = let same : j ≡ k = omega (arith, e) in subst (λ (n : ℕ). slice_get ys n ≡ Some x) same h
further (z ∷ xs) ys j zero x e h = absurd (omega (arith, e))
further (z ∷ xs) ys j (suc k) x e h = further xs ys j k x (omega (arith, e)) h

-- the stream of a key is among those of the keys around it
in_streams : (frames : List FrameRow) (key count wanted : ℕ) (e : Entry) → key ≤ wanted → wanted < key + count → sent (find (λ row. key_of row == wanted) frames) ≡ e ∷ []
    → (j : ℕ) × (slice_get (streams_from frames key count) j ≡ Some e)
unfolding streams_from
in_streams frames key zero wanted e low high is = absurd (omega (arith, low, high))
in_streams frames key (suc count) wanted e low high is = ⊎_elim
    (λ (same : key ≡ wanted).
    let here : sent (find (λ row. key_of row == key) frames) ≡ e ∷ [] = subst (λ (n : ℕ). sent (find (λ row. key_of row == n) frames) ≡ e ∷ []) (sym same) is in
    (0, ap (λ (es : List Entry). slice_get (es ++ streams_from frames (key + 1) count) 0) here))
    (λ (other : key ≢ wanted).
    let r = in_streams frames (key + 1) count wanted e (omega (arith, low, other)) (omega (arith, high)) is in
    let first = sent (find (λ row. key_of row == key) frames) in
    (length first + r.0, further first (streams_from frames (key + 1) count) r.0 (length first + r.0) e refl r.1))
    (cases_eq key wanted)

one_sent : (o : Option FrameRow) (row : FrameRow) → o ≡ Some row → row.period ≢ 0 → sent o ≡ frame_stream row ∷ []
one_sent o row e some = rw (e, ne_eqb row.period 0 some) refl

module _ (nodes : NodeLists) (table : IsNodeTable nodes) where
  times : (i : ℕ) (f : FrameRow) → slice_get nodes.frames i ≡ Some f → IsTimed f
  times i f here = All-contains IsTimed nodes.frames f (timed nodes table) (i, slice_get_within nodes.frames i f here, get_or_from_slice_get nodes.frames i f f here)

  apart : (i j : ℕ) (f g : FrameRow) → i < j → slice_get nodes.frames i ≡ Some f → slice_get nodes.frames j ≡ Some g → key_of f ≢ key_of g
  apart i j f g before here there e =
      let first = get_or_from_slice_get nodes.frames i f f here in
      let second = get_or_from_slice_get nodes.frames j g f there in
      let same = same_both f g (times i f here) (times j g there) e in
      table.one_row i j f before (slice_get_within nodes.frames j g there) (ap (λ (r : FrameRow). r.kind) first ∙ same.0 ∙ ap (λ (r : FrameRow). r.kind) (sym second))
      (ap (λ (r : FrameRow). r.node) first ∙ same.1 ∙ ap (λ (r : FrameRow). r.node) (sym second))

  one_row : (i j : ℕ) (f g : FrameRow) → slice_get nodes.frames i ≡ Some f → slice_get nodes.frames j ≡ Some g → key_of f ≡ key_of g → f ≡ g
  one_row i j f g here there e = ⊎_elim
      (λ (same : i ≡ j). let both : Some f ≡ Some g = sym here ∙ ap (λ (n : ℕ). slice_get nodes.frames n) same ∙ there in cc)
      (λ (other : i ≢ j). ⊎_elim
      (λ (before : i < j). absurd (apart i j f g before here there e))
      (λ (after : j ≤ i). absurd (apart j i g f (omega (arith, after, other)) there here (sym e)))
      (cases_lt i j))
      (cases_eq i j)

  -- what is found at the key of a row is the row
  row_found : (row : FrameRow) → Contains nodes.frames row → find (λ r. key_of r == key_of row) nodes.frames ≡ Some row
  row_found row at =
      let there : slice_get nodes.frames at.0 ≡ Some row = slice_get_read nodes.frames (length nodes.frames) at.0 row refl at.1 (sym at.2) in
      found_row nodes.frames row at.0 there (λ i r here e. one_row i at.0 r row here there e)

  -- a row of a frame that is sent has its stream among those of fixed identifiers
  in_fixed : (row : FrameRow) → Contains nodes.frames row → row.period ≢ 0 → rank_of row.kind < 6 → (j : ℕ) × (slice_get (fixed_streams nodes.frames) j ≡ Some (frame_stream row))
  unfolding fixed_streams
  in_fixed row at some low =
      let node = (All-contains IsTimed nodes.frames row (timed nodes table) at).node in
      in_streams nodes.frames 0 768 (key_of row) (frame_stream row) (omega arith) (omega (arith, node, low))
      (one_sent (find (λ r. key_of r == key_of row) nodes.frames) row (row_found row at) some)

  -- and a row of errors that counts is the one that is counted
  errors_found : (row : FrameRow) → Contains nodes.frames row → row.period ≢ 0 → row.kind ≡ kinds.Errors → errors_in nodes.frames ≡ Some row
  errors_found row at some kind =
      let timed_row = All-contains IsTimed nodes.frames row (timed nodes table) at in
      let key : key_of row ≡ rank_of kinds.Errors = (errors_key row timed_row kind).1 in
      ap if_sent (ap (λ (n : ℕ). find (λ r. key_of r == n) nodes.frames) (sym key) ∙ row_found row at) ∙ ap (λ b. cond b None (Some row)) (ne_eqb row.period 0 some)

-- the stream of a row as it is tested
abbrev pub tested_stream : Option FrameRow → FrameRow → Entry
tested_stream errors row = record (frame_stream row) { id = frame_id errors row }

-- of a frame
of_frame : (o : Option FrameRow) (fixed : List Entry) (row : FrameRow) → is_errors row.kind ≡ false → (j : ℕ) → slice_get fixed j ≡ Some (frame_stream row)
    → slice_get (through o fixed) j ≡ Some (tested_stream o row)
of_frame None fixed row plain j here = here ∙ ap (λ (n : ℕ). Some (record (frame_stream row) { id = n })) (sym (ap (λ b. if b then 0 else base_of row.kind + row.node) plain))
of_frame (Some r) fixed row plain j here =
    still_there (map up_entry fixed) (frame_stream r ∷ []) j (tested_stream (Some r) row)
    (slice_get-map up_entry fixed j ∙ ap (option_map up_entry) here ∙ ap (λ (n : ℕ). Some (record (frame_stream row) { id = n })) (sym (ap (λ b. if b then 0 else up_id (base_of row.kind + row.node)) plain)))

-- of disturbed transfers
errors_stream_is : (o : Option FrameRow) (row : FrameRow) → row.kind ≡ kinds.Errors → row.node ≡ 0 → frame_stream row ≡ tested_stream o row
errors_stream_is o row kind node =
    let base : base_of row.kind ≡ 0 = ap base_of kind in
    let id : frame_id o row ≡ 0 = ap (λ (k : FrameKind). if is_errors k then 0 else tested_id o (base_of k + row.node)) kind in
    let both : base_of row.kind + row.node ≡ frame_id o row = omega (arith, base, node, id) in
    ap (λ (n : ℕ). record (frame_stream row) { id = n }) both

-- the stream of a row that is sent is among those behind the PDOs
behind_there : (nodes : NodeLists) → IsNodeTable nodes → (row : FrameRow) → Contains nodes.frames row → row.period ≢ 0
    → (j : ℕ) × (slice_get (behind nodes.frames) j ≡ Some (tested_stream (errors_in nodes.frames) row))
behind_there nodes table row at some = elim (rank_least row.kind) [
  | inl l ↦ (let f = in_fixed nodes table row at some l.1 in (f.0, of_frame (errors_in nodes.frames) (fixed_streams nodes.frames) row l.0 f.0 f.1))
  | inr e ↦ by_errors (errors_in nodes.frames) (errors_found nodes table row at some e)
      (errors_stream_is (errors_in nodes.frames) row e (errors_key row (All-contains IsTimed nodes.frames row (timed nodes table) at) e).0)
]
  where
    by_errors : (o : Option FrameRow) → o ≡ Some row → frame_stream row ≡ tested_stream (errors_in nodes.frames) row
        → (j : ℕ) × (slice_get (through o (fixed_streams nodes.frames)) j ≡ Some (tested_stream (errors_in nodes.frames) row))
    by_errors None e own = absurd (cc)
    by_errors (Some r) e own =
        let same : r ≡ row = cc in
        let last = further (map up_entry (fixed_streams nodes.frames)) (frame_stream r ∷ []) 0 (length (map up_entry (fixed_streams nodes.frames)) + 0) (frame_stream r) refl refl in
        (length (map up_entry (fixed_streams nodes.frames)) + 0, last ∙ ap (λ (x : FrameRow). Some (frame_stream x)) same ∙ ap (λ (x : Entry). Some x) own)

-- and among those of a network, past the PDOs
pub frame_there : (net : Net) → IsNetwork net → (row : FrameRow) → Contains net.nodes.frames row → row.period ≢ 0
    → (f : ℕ) × (length net.rows ≤ f) × (slice_get (map entry_of net.set) f ≡ Some (tested_stream (errors_in net.nodes.frames) row))
frame_there net is row at some =
    let s = network_streams net is in
    let j = behind_there net.nodes is.nodes row at some in
    let place = length s.pdos + j.0 in (
      place,
      omega (arith, s.count),
      subst (λ (es : List Entry). slice_get es place ≡ Some (tested_stream (errors_in net.nodes.frames) row)) (sym s.parts) (further s.pdos (behind net.nodes.frames) j.0 place (tested_stream (errors_in net.nodes.frames) row) refl j.1),
    )

was_sent : (o : Option FrameRow) (row : FrameRow) → if_sent o ≡ Some row → (o ≡ Some row) × (row.period ≢ 0)
was_sent None row h = absurd (cc)
was_sent (Some r) row h = by_period (r.period == 0) refl h
  where
    by_period : (b : Bool) → (r.period == 0) ≡ b → cond b None (Some r) ≡ Some row → (Some r ≡ Some row) × (row.period ≢ 0)
    by_period true e h = absurd (cc)
    by_period false e h = (h, (let same : r ≡ row = cc in subst (λ (f : FrameRow). f.period ≢ 0) same (eqb-false r.period 0 e)))

-- what is found in a table stands there
found_there : (frames : List FrameRow) (key : ℕ) (row : FrameRow) → find (λ r. key_of r == key) frames ≡ Some row → Contains frames row
found_there frames key row h =
    let place = position_or_len (λ r. key_of r == key) frames in
    let there : slice_get frames place ≡ Some row = sym (find_at (λ r. key_of r == key) frames) ∙ h in
    (place, slice_get_within frames place row there, get_or_from_slice_get frames place row row there)

-- SYNC's row is one of the table that is sent
pub sync_row : (frames : List FrameRow) (row : FrameRow) → sync_of frames ≡ Some row → Contains frames row × (row.period ≢ 0)
sync_row frames row h =
    let s = was_sent (find (λ r. key_of r == rank_of kinds.Sync) frames) row h in
    (found_there frames (rank_of kinds.Sync) row s.0, s.1)

-- ---- and no other stream is there

-- a stream is that of a row of a frame that is sent
abbrev IsSentRow : List FrameRow → Entry → Type 0
IsSentRow frames e = (row : FrameRow) × Contains frames row × (row.period ≢ 0) × (e ≡ frame_stream row) × (key_of row < 768)

-- a stream is that of a row as it is tested
abbrev IsTestedRow : Option FrameRow → List FrameRow → Entry → Type 0
IsTestedRow errors frames e = (row : FrameRow) × Contains frames row × (row.period ≢ 0) × (e ≡ tested_stream errors row)

found_key : (frames : List FrameRow) (key : ℕ) (row : FrameRow) → find (λ r. key_of r == key) frames ≡ Some row → key_of row ≡ key
found_key [] key row h = absurd (cc)
found_key (f ∷ frames) key row h = ⊎_elim
    (λ (e : key_of f ≡ key).
    let same : Some f ≡ Some row = sym (ap (λ b. cond b (Some f) (find (λ r. key_of r == key) frames)) (eq-eqb (key_of f) key e)) ∙ h in
    let one : f ≡ row = cc in ap key_of (sym one) ∙ e)
    (λ (other : key_of f ≢ key). found_key frames key row (sym (ap (λ b. cond b (Some f) (find (λ r. key_of r == key) frames)) (ne_eqb (key_of f) key other)) ∙ h))
    (cases_eq (key_of f) key)

only_one : (x e : Entry) (j : ℕ) → slice_get (x ∷ []) j ≡ Some e → e ≡ x
only_one x e zero h = let same : x ≡ e = cc in sym same
only_one x e (suc j) h = absurd (cc)

of_sent : (o : Option FrameRow) (j : ℕ) (e : Entry) → slice_get (sent o) j ≡ Some e → (row : FrameRow) × (o ≡ Some row) × (row.period ≢ 0) × (e ≡ frame_stream row)
of_sent None j e h = absurd (cc)
of_sent (Some row) j e h = by_period (row.period == 0) refl h
  where
    by_period : (b : Bool) → (row.period == 0) ≡ b → slice_get (cond b [] (frame_stream row ∷ [])) j ≡ Some e → (r : FrameRow) × (Some row ≡ Some r) × (r.period ≢ 0) × (e ≡ frame_stream r)
    by_period true its h = absurd (cc)
    by_period false its h = (row, refl, eqb-false row.period 0 its, only_one (frame_stream row) e j h)

-- what stands in two lists, one behind the other, stands in one of them
in_either : {A : Type 0} (xs ys : List A) (k : ℕ) (x : A) → slice_get (xs ++ ys) k ≡ Some x → ((j : ℕ) × (slice_get xs j ≡ Some x)) ⊎ ((j : ℕ) × (slice_get ys j ≡ Some x))
in_either [] ys k x h = inr (k, h)
in_either (z ∷ xs) ys zero x h = inl (0, h)
in_either (z ∷ xs) ys (suc k) x h = elim (in_either xs ys k x h) [
  | inl l ↦ inl (suc l.0, l.1)
  | inr r ↦ inr r
]

-- and in the second where it stands past the first
beyond : {A : Type 0} (xs ys : List A) (k : ℕ) (x : A) → length xs ≤ k → slice_get (xs ++ ys) k ≡ Some x → (j : ℕ) × (slice_get ys j ≡ Some x)
beyond [] ys k x past h = (k, h)
beyond (z ∷ xs) ys zero x past h = absurd (omega (arith, past))
beyond (z ∷ xs) ys (suc k) x past h = beyond xs ys k x (omega (arith, past)) h

from_streams : (frames : List FrameRow) (key count j : ℕ) (e : Entry) → key + count ≤ 768 → slice_get (streams_from frames key count) j ≡ Some e → IsSentRow frames e
unfolding streams_from
from_streams frames key zero j e low h = absurd (cc)
from_streams frames key (suc count) j e low h = elim (in_either (sent (find (λ r. key_of r == key) frames)) (streams_from frames (key + 1) count) j e h) [
  | inl l ↦ (let s = of_sent (find (λ r. key_of r == key) frames) l.0 e l.1 in let its = found_key frames key s.0 s.1 in (s.0, found_there frames key s.0 s.1, s.2, s.3, omega (arith, its, low)))
  | inr r ↦ from_streams frames (key + 1) count r.0 e (omega (arith, low)) r.1
]

from_fixed : (frames : List FrameRow) (j : ℕ) (e : Entry) → slice_get (fixed_streams frames) j ≡ Some e → IsSentRow frames e
unfolding fixed_streams
from_fixed frames j e h = from_streams frames 0 768 j e (omega arith) h

plain_kind : (row : FrameRow) → key_of row < 768 → is_errors row.kind ≡ false
plain_kind row low = elim (rank_least row.kind) [ inl l ↦ l.0 | inr e ↦ (let rank : rank_of row.kind ≡ 768 = ap rank_of e in absurd (omega (arith, rank, low))) ]

was_mapped : (es : List Entry) (j : ℕ) (e : Entry) → slice_get (map up_entry es) j ≡ Some e → (x : Entry) × (slice_get es j ≡ Some x) × (up_entry x ≡ e)
was_mapped es j e h = was (slice_get es j) refl (sym (slice_get-map up_entry es j) ∙ h)
  where
    was : (o : Option Entry) → slice_get es j ≡ o → option_map up_entry o ≡ Some e → (x : Entry) × (slice_get es j ≡ Some x) × (up_entry x ≡ e)
    was None its h = absurd (cc)
    was (Some x) its h = (x, its, same (up_entry x) e h)
      where
        same : (x y : Entry) → Some x ≡ Some y → x ≡ y
        same x y e = cc

-- behind the PDOs there is none but those of rows
from_behind : (frames : List FrameRow) → All IsTimed frames → (j : ℕ) (e : Entry) → slice_get (behind frames) j ≡ Some e → IsTestedRow (errors_in frames) frames e
from_behind frames all j e h = go (errors_in frames) refl h
  where
    go : (o : Option FrameRow) → errors_in frames ≡ o → slice_get (through o (fixed_streams frames)) j ≡ Some e → IsTestedRow (errors_in frames) frames e
    go None none h =
        let f = from_fixed frames j e h in
        let id : frame_id (errors_in frames) f.0 ≡ base_of f.0.kind + f.0.node =
        ap (λ b. if b then 0 else tested_id (errors_in frames) (base_of f.0.kind + f.0.node)) (plain_kind f.0 f.4) ∙ ap (λ (o : Option FrameRow). tested_id o (base_of f.0.kind + f.0.node)) none in
        (f.0, f.1, f.2, f.3 ∙ ap (λ (n : ℕ). record (frame_stream f.0) { id = n }) (sym id))
    go (Some r) some h = elim (in_either (map up_entry (fixed_streams frames)) (frame_stream r ∷ []) j e h) [
      | inl l ↦ (let x = was_mapped (fixed_streams frames) l.0 e l.1 in
          let f = from_fixed frames l.0 x.0 x.1 in
          let id : frame_id (errors_in frames) f.0 ≡ up_id (base_of f.0.kind + f.0.node) =
          ap (λ b. if b then 0 else tested_id (errors_in frames) (base_of f.0.kind + f.0.node)) (plain_kind f.0 f.4) ∙ ap (λ (o : Option FrameRow). tested_id o (base_of f.0.kind + f.0.node)) some in
          (f.0, f.1, f.2, sym x.2 ∙ ap up_entry f.3 ∙ ap (λ (n : ℕ). record (frame_stream f.0) { id = n }) (sym id)))
      | inr l ↦ (let s = was_sent (find (λ r. key_of r == rank_of kinds.Errors) frames) r some in
          let key = found_key frames (rank_of kinds.Errors) r s.0 in
          let there = found_there frames (rank_of kinds.Errors) r s.0 in
          let timed_row = All-contains IsTimed frames r all there in
          let kind : r.kind ≡ kinds.Errors = elim (rank_least r.kind) [ inl low ↦ (let below = frame_key r timed_row low.1 in absurd (omega (arith, below, key))) | inr e ↦ e ] in
          (r, there, s.1, only_one (frame_stream r) e l.0 l.1 ∙ errors_stream_is (errors_in frames) r kind (errors_key r timed_row kind).0))
    ]

-- past the PDOs of a network there is none but those of its table of nodes
pub frame_past : (net : Net) → IsNetwork net → (f : ℕ) (e : Entry) → length net.rows ≤ f → slice_get (map entry_of net.set) f ≡ Some e → IsTestedRow (errors_in net.nodes.frames) net.nodes.frames e
frame_past net is f e past here =
    let s = network_streams net is in
    let there : slice_get (s.pdos ++ behind net.nodes.frames) f ≡ Some e = subst (λ (es : List Entry). slice_get es f ≡ Some e) s.parts here in
    let b = beyond s.pdos (behind net.nodes.frames) f e (omega (arith, past, s.count)) there in
    from_behind net.nodes.frames (timed net.nodes is.nodes) b.0 e b.1
