-- SYNC among the streams of a network.
use Rattle.std.proofs.Common.{◌≡◌, ◌≢◌, ℕ, suc, ◌+◌, ◌-◌, ◌*◌, ◌<◌, ◌≤◌, ◌==◌, Bool, true, false, cond, List, [], ◌∷◌, ◌++◌, length, get_or, slice_get, map, find, Option, Some, None, IfSome, All, option_map, refl, sym, ap, subst, ◌∙◌, arith, length-append, ⊎_elim}
use Rattle.std.specs.List.{AllPairs}
use Rattle.std.specs.Option.{option_map_or}
use Rattle.std.proofs.lemmas.Bool.{cases_eq, cases_lt}
use Rattle.std.proofs.lemmas.Option.{slice_get_read, slice_get-map}
use Rattle.std.proofs.lemmas.List.{length-map, get_or_default, get_or-map}
use Rattle.std.proofs.lemmas.List.Elements.{All-append}
use Rattle.std.proofs.Math.Seq.{get_or-append_right, get_or-append_seam}
use Rattle.cop_rows.specs.declared.node_table.FrameRow.{FrameRow}
use Rattle.cop_rows.specs.declared.node_table.FrameKind.{FrameKind}
use Rattle.cop_rows.specs.declared.node_table.FrameKind.TheVariants as kinds
use Rattle.cop_rta.specs.declared.streams.Stream.{Stream}
use Rattle.cop_rta.specs.Entries.{Entry, entry_of}
use Rattle.cop_rta.specs.Test.{of_stream}
use Rattle.cop_rta.specs.Streams.{place_of_id}
use Rattle.cop_rta.specs.Greatest.{sync_id, AreSynced}
use Rattle.cop_rta.proofs.IdentifierLemmas.{place_has_id, no_place}
use Rattle.cop_rta.proofs.SyncLemmas.{place_inside}
use Rattle.cop_net.specs.Sets.{AreOneSet}
use Rattle.cop_net.specs.Fixed.{IsOwner, IsTimed, base_of, rank_of, key_of, ticks, frame_stream, sent, streams_from, fixed_streams}
use Rattle.cop_net.specs.Signals.{if_sent, sync_of, errors_in}
use Rattle.cop_net.specs.Pdos.{IsPaced}
use Rattle.cop_net.proofs.FixedLemmas.{IsAt, found_at}
use Rattle.cop_net.proofs.ThroughLemmas.{through_at, behind, behind_all}
use Rattle.cop_net.proofs.SetLemmas.{AreApart}

-- an element is the one that is read there
pub there : (es : List Entry) (k : ℕ) → k < length es → (e : Entry) × (slice_get es k ≡ Some e) × (e ≡ get_or es k e)
there es k lt =
    let zero_entry : Entry = record { id = 0; bytes = 0; period = 0; jitter = 0; deadline = None; every = 0 } in
    let e = get_or es k zero_entry in
    let same : e ≡ get_or es k e = get_or_default es k zero_entry e lt in
    (e, slice_get_read es (length es) k e refl lt same, same)

-- a number of the stream at a place
of_field : (f : Stream → ℕ) (g : Entry → ℕ) (same : (s : Stream) → f s ≡ g (entry_of s)) (set : List Stream) (k : ℕ) (d : Entry) → k < length set → of_stream f set k ≡ g (get_or (map entry_of set) k d)
of_field f g same set k d lt =
    let inside : k < length (map entry_of set) = omega (arith, length-map set entry_of) in
    let t = there (map entry_of set) k inside in
    let at : of_stream f set k ≡ option_map_or g (slice_get (map entry_of set) k) 0 = rw (slice_get-map entry_of set k) (by_found (slice_get set k)) in
    let e : t.0 ≡ get_or (map entry_of set) k d = t.2 ∙ get_or_default (map entry_of set) k t.0 d inside in
    at ∙ ap (λ (o : Option Entry). option_map_or g o 0) t.1 ∙ ap g e
  where
    by_found : (o : Option Stream) → option_map_or f o 0 ≡ option_map_or g (option_map entry_of o) 0
    by_found None = refl
    by_found (Some s) = same s

sync_kind : (kind : FrameKind) (node : ℕ) → IsOwner kind node → 6 * node + rank_of kind ≡ 1 → base_of kind + node ≡ 0x80
sync_kind kinds.Nmt node own h = absurd (omega arith)
sync_kind kinds.Sync node own h = omega arith
sync_kind kinds.Emcy node own h = absurd (omega arith)
sync_kind kinds.SdoResponse node own h = absurd (omega arith)
sync_kind kinds.SdoRequest node own h = absurd (omega arith)
sync_kind kinds.Heartbeat node own h = absurd (omega arith)
sync_kind kinds.Errors node own h = absurd (omega arith)

was_sent : (o : Option FrameRow) (row : FrameRow) → if_sent o ≡ Some row → (o ≡ Some row) × (sent o ≡ frame_stream row ∷ [])
was_sent None row h = cc
was_sent (Some r) row h = by_period (r.period == 0) h
  where
    by_period : (b : Bool) → cond b None (Some r) ≡ Some row → (Some r ≡ Some row) × (cond b [] (frame_stream r ∷ []) ≡ frame_stream row ∷ [])
    by_period true h = cc
    by_period false h = (h, (let same : r ≡ row = cc in ap (λ (f : FrameRow). frame_stream f ∷ []) same))

one_key : (frames : List FrameRow) (key count : ℕ) → streams_from frames key (suc count) ≡ sent (find (λ row. key_of row == key) frames) ++ streams_from frames (key + 1) count
unfolding streams_from
one_key frames key count = refl

from_first : (frames : List FrameRow) → fixed_streams frames ≡ streams_from frames 0 768
unfolding fixed_streams
from_first frames = refl

-- SYNC's row has its stream among those of fixed identifiers
sync_there : (frames : List FrameRow) (row : FrameRow) → sync_of frames ≡ Some row
    → (j : ℕ) × (j < length (fixed_streams frames)) × ((d : Entry) → get_or (fixed_streams frames) j d ≡ frame_stream row)
sync_there frames row h =
    let first = sent (find (λ r. key_of r == 0) frames) in
    let here : sent (find (λ r. key_of r == 1) frames) ≡ frame_stream row ∷ [] = (was_sent (find (λ r. key_of r == 1) frames) row h).1 in
    let rest = streams_from frames 2 766 in
    let whole : fixed_streams frames ≡ first ++ (frame_stream row ∷ rest) =
    from_first frames ∙ one_key frames 0 767 ∙ ap (λ es. first ++ es) (one_key frames 1 766 ∙ ap (λ es. es ++ rest) here) in (
      length first,
      rw whole (omega (arith, length-append first (frame_stream row ∷ rest))),
      (λ d. rw whole (get_or-append_seam first (frame_stream row) rest d)),
    )

sync_id_of : (frames : List FrameRow) (row : FrameRow) → All IsTimed frames → sync_of frames ≡ Some row → (frame_stream row).id ≡ 0x80
sync_id_of frames row timed h =
    let at : IfSome (find (λ r. key_of r == 1) frames) (IsAt 1) = found_at frames 1 timed in
    let its : IsAt 1 row = rw (was_sent (find (λ r. key_of r == 1) frames) row h).0 at at in
    sync_kind row.kind row.node its.0.owner its.1

one_place : (es : List Entry) → AllPairs AreApart es → (i j : ℕ) (d : Entry) → i < length es → j < length es → (get_or es i d).id ≡ (get_or es j d).id → i ≡ j
one_place es apart i j d inside there same = ⊎_elim (λ (e : i ≡ j). e)
    (λ (other : i ≢ j). ⊎_elim (λ (before : i < j). absurd (apart i j d before there same)) (λ (after : j ≤ i). absurd (apart j i d (omega arith) inside (sym same))) (cases_lt i j))
    (cases_eq i j)

-- and among all behind the PDOs
sync_behind : (frames : List FrameRow) (row : FrameRow) → All IsTimed frames → sync_of frames ≡ Some row
    → (j : ℕ) × (j < length (behind frames)) × ((d : Entry) → get_or (behind frames) j d ≡ frame_stream row)
sync_behind frames row timed h =
    let t = sync_there frames row h in
    let id = sync_id_of frames row timed h in
    let at = through_at (errors_in frames) (fixed_streams frames) t.0 (frame_stream row) t.1 t.2 (omega (arith, id)) in
    (t.0, at.0, at.1)

-- where SYNC's stream stands, and its period
sync_place : (frames : List FrameRow) (set : List Stream) (xs : List Entry) (row : FrameRow) → All IsTimed frames → map entry_of set ≡ xs ++ behind frames → AreOneSet (xs ++ behind frames)
    → sync_of frames ≡ Some row → (i : ℕ) × (place_of_id set sync_id ≡ Some i) × (of_stream (λ s. s.period) set i ≡ ticks row.period)
sync_place frames set xs row timed e one_set is = by_place (place_of_id set sync_id) refl
  where
    d : Entry
    d = frame_stream row

    size : length set ≡ length xs + length (behind frames)
    size = sym (length-map set entry_of) ∙ ap length e ∙ length-append xs (behind frames)

    j : ℕ
    j = length xs + (sync_behind frames row timed is).0

    inside : j < length set
    inside = let t = sync_behind frames row timed is in omega (arith, size, t.1)

    here : get_or (map entry_of set) j d ≡ frame_stream row
    here =
        let t = sync_behind frames row timed is in
        let back : length xs + t.0 - length xs ≡ t.0 = omega arith in
        ap (λ (es : List Entry). get_or es (length xs + t.0) d) e
        ∙ get_or-append_right xs (behind frames) (length xs + t.0) d (omega arith)
        ∙ ap (λ (n : ℕ). get_or (behind frames) n d) back
        ∙ t.2 d

    id_here : of_stream (λ s. s.id) set j ≡ sync_id
    id_here = of_field (λ s. s.id) (λ f. f.id) (λ s. refl) set j d inside ∙ ap (λ (f : Entry). f.id) here ∙ sync_id_of frames row timed is

    by_place : (o : Option ℕ) → place_of_id set sync_id ≡ o → (i : ℕ) × (place_of_id set sync_id ≡ Some i) × (of_stream (λ s. s.period) set i ≡ ticks row.period)
    by_place None none = absurd (no_place set sync_id none j inside id_here)
    by_place (Some i) at =
        let low = place_inside set sync_id i at in
        let id : of_stream (λ s. s.id) set i ≡ of_stream (λ s. s.id) set j = place_has_id set sync_id i at ∙ sym id_here in
        let ids : (get_or (map entry_of set) i d).id ≡ (get_or (map entry_of set) j d).id =
        sym (of_field (λ s. s.id) (λ f. f.id) (λ s. refl) set i d low) ∙ id ∙ of_field (λ s. s.id) (λ f. f.id) (λ s. refl) set j d inside in
        let apart : AllPairs AreApart (map entry_of set) = subst (AllPairs AreApart) (sym e) one_set.apart in
        let same : i ≡ j = one_place (map entry_of set) apart i j d (omega (arith, length-map set entry_of, low)) (omega (arith, length-map set entry_of, inside)) ids in (
          i,
          at,
          ap (of_stream (λ s. s.period) set) same ∙ of_field (λ s. s.period) (λ f. f.period) (λ s. refl) set j d inside ∙ ap (λ (f : Entry). f.period) here,
        )

behind_steady : (sync : Option FrameRow) (frames : List FrameRow) → All (IsPaced sync) (behind frames)
behind_steady sync frames = behind_all (IsPaced sync) frames (λ e its. its) (λ k d lt some. absurd (omega arith))

-- the streams that are sent by SYNC have as many times its period, and it is there
pub network_synced : (frames : List FrameRow) (set : List Stream) (xs : List Entry) → All IsTimed frames → map entry_of set ≡ xs ++ behind frames → AreOneSet (xs ++ behind frames)
    → All (IsPaced (sync_of frames)) xs → AreSynced set
network_synced frames set xs timed e one_set paced = record {
  each = λ k d lt some.
      let all : All (IsPaced (sync_of frames)) (map entry_of set) =
      subst (All (IsPaced (sync_of frames))) (sym e) (All-append (IsPaced (sync_of frames)) xs (behind frames) paced (behind_steady (sync_of frames) frames)) in
      let s = get_or set k d in
      let own : IsPaced (sync_of frames) (entry_of s) =
      subst (IsPaced (sync_of frames)) (get_or-map entry_of set k d (entry_of d) lt) (all k (entry_of d) (omega (arith, length-map set entry_of))) in
      let p = own some in
      let q = sync_place frames set xs p.0 timed e one_set p.1 in
      (q.0, q.1, p.2 ∙ ap (λ (n : ℕ). s.every * n) (sym q.2));
}
