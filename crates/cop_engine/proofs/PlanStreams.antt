-- The streams of a plan: those of the rows of both tables, and which of them are tested.
use Rattle.std.proofs.Common.{◌≡◌, ◌≢◌, true, ℕ, ◌+◌, ◌*◌, ◌<◌, ◌≤◌, List, [], ◌∷◌, ◌++◌, append_assoc, length-append, IfSome, length, map, slice_get, option_map, Option, Some, None, IsSome, Contains, refl, sym, ap, ◌∙◌, subst, arith}
use Rattle.std.specs.Option.{option_and_then, option_map_or}
use Rattle.std.proofs.lemmas.List.{length-map}
use Rattle.std.proofs.lemmas.Option.{slice_get-map, slice_get_within, get_or_from_slice_get}
use Rattle.cop_dict.specs.Mapping.{total_bits}
use Rattle.cop_pdo.specs.Bits.{bytes_for}
use Rattle.cop_rta.specs.declared.streams.Stream.{Stream}
use Rattle.cop_rta.specs.Entries.{Entry, entry_of}
use Rattle.cop_rta.specs.Test.{of_stream}
use Rattle.cop_rta.specs.Greatest.{AreSynced}
use Rattle.cop_cert.specs.Assignments.{least_id, IsTested, id_under}
use Rattle.cop_rows.specs.declared.pdo_table.PdoRow.{PdoRow}
use Rattle.cop_rows.specs.declared.node_table.FrameRow.{FrameRow}
use Rattle.cop_net.specs.Fixed.{IsErrors, base_of, size_of, ticks, frame_stream, fixed_streams}
use Rattle.cop_net.specs.Pdos.{period_of, pdo_stream}
use Rattle.cop_net.specs.Signals.{signals_of, errors_in}
use Rattle.cop_net.specs.Network.{Net, IsNetwork, deadline_at, up_entry, through as rows_through}
use Rattle.cop_net.proofs.NetworkLemmas.{timed}
use Rattle.cop_net.proofs.ThroughLemmas.{errors_of_rows}
use Rattle.cop_rta.specs.Errors.{is_errors, errors_of}
use Rattle.cop_rta.proofs.TestedLemmas.{errors_of-at, in_errors}
use Rattle.cop_plan.specs.Values.{PlanValue, Timing, timing_of, id_of, HaveDeadlines, ArePdosHigh, AreOnTime}
use Rattle.cop_plan.specs.Plans.{IsPlan}
use Rattle.cop_plan.proofs.RenameLemmas.{id_of_pdo, id_of_fixed, none_lower, same_count, still_tested, on_time_renamed, synced_renamed}
use Rattle.cop_engine.specs.Guarantee.{IsFrameOf, IsPdoOf}
use Rattle.cop_engine.proofs.RowStreams.{last_there, network_streams, row_stream, by_events, by_sync}
use Rattle.cop_engine.proofs.FrameStreams.{tested_stream, frame_there, frame_past, sync_row}

-- what a function made something of was there
pub was_there : {A B : Type 0} (f : A → B) (o : Option A) (b : B) → option_map f o ≡ Some b → (a : A) × (o ≡ Some a) × (f a ≡ b)
was_there f None b h = absurd (cc)
was_there f (Some a) b h = (a, refl, same (f a) b h)
  where
    same : {B : Type 0} (x y : B) → Some x ≡ Some y → x ≡ y
    same x y e = cc

some_is : (o : Option ℕ) → IsSome o → (d : ℕ) × (o ≡ Some d)
some_is None h = absurd (cc)
some_is (Some d) h = (d, refl)

-- what a stream has of its table, whatever its identifier is
abbrev timing_in : Entry → Timing
timing_in e = record { bytes = e.bytes; period = e.period; jitter = e.jitter; deadline = e.deadline; every = e.every }

module _ (net : Net) (is : IsNetwork net) (plan : PlanValue) (planned : IsPlan net.equipment.rates net.set (length net.rows) plan) where
  abbrev pdos : ℕ
  pdos = length net.rows

  pub have_deadlines : HaveDeadlines net.set pdos
  have_deadlines p h = some_is (deadline_at net.set p) (is.streams.deadlines p h)

  pub provisional : ArePdosHigh net.set pdos
  provisional p h = omega (arith, is.streams.provisional p h)

  chosen : (p : ℕ) → p < pdos → least_id ≤ id_of plan.ids p
  chosen = none_lower pdos (id_of plan.ids) planned.passing.0

  -- each PDO and each tested frame passes under the plan's identifiers
  pub fine : AreOnTime plan.rate plan.streams (length plan.ids)
  fine = subst (λ (n : ℕ). AreOnTime plan.rate plan.streams n) (sym planned.count)
      (on_time_renamed plan.rate net.set plan.streams pdos (id_of plan.ids) planned.renamed is.streams.count have_deadlines provisional chosen planned.passing.1)

  pub synced : AreSynced plan.streams
  synced = synced_renamed plan.rate net.set plan.streams pdos (id_of plan.ids) planned.renamed provisional chosen is.synced

  -- each stream of the network stands in the plan, with its times
  renamed_at : (f : ℕ) (e : Entry) → slice_get (map entry_of net.set) f ≡ Some e → (k : Stream) × (slice_get plan.streams f ≡ Some k) × (timing_of k ≡ timing_in e)
  renamed_at f e there =
      let s = was_there entry_of (slice_get net.set f) e (sym (slice_get-map entry_of net.set f) ∙ there) in
      let t : option_map timing_of (slice_get plan.streams f) ≡ Some (timing_of s.0) =
      sym (slice_get-map timing_of plan.streams f) ∙ ap (λ (ts : List Timing). slice_get ts f) planned.renamed.timings ∙ slice_get-map timing_of net.set f ∙ ap (λ (o : Option Stream). option_map timing_of o) s.1 in
      let k = was_there timing_of (slice_get plan.streams f) (timing_of s.0) t in
      (k.0, k.1, k.2 ∙ ap timing_in s.2)

  inside : (f : ℕ) (e : Entry) → slice_get (map entry_of net.set) f ≡ Some e → f < length net.set
  inside f e there = let s = was_there entry_of (slice_get net.set f) e (sym (slice_get-map entry_of net.set f) ∙ there) in slice_get_within net.set f s.0 s.1

  id_renamed : (f : ℕ) (k : Stream) → slice_get plan.streams f ≡ Some k → f < length net.set → k.id ≡ id_under net.set pdos (id_of plan.ids) f
  id_renamed f k here low =
      let id : of_stream (λ s. s.id) plan.streams f ≡ id_under net.set pdos (id_of plan.ids) f = planned.renamed.each f low in
      rw here at id

  -- and past the PDOs with its identifier
  id_kept : (f : ℕ) (e : Entry) (k : Stream) → pdos ≤ f → slice_get (map entry_of net.set) f ≡ Some e → slice_get plan.streams f ≡ Some k → k.id ≡ e.id
  id_kept f e k past there here =
      let s = was_there entry_of (slice_get net.set f) e (sym (slice_get-map entry_of net.set f) ∙ there) in
      let id : of_stream (λ s. s.id) net.set f ≡ s.0.id = ap (λ (o : Option Stream). option_map_or (λ (s : Stream). s.id) o 0) s.1 in
      id_renamed f k here (inside f e there) ∙ id_of_fixed net.set pdos (id_of plan.ids) f past ∙ id ∙ ap (λ (e : Entry). e.id) s.2

  abbrev its_stream : FrameRow → Entry
  its_stream row = tested_stream (errors_in net.nodes.frames) row

  frame_with : (row : FrameRow) (f : ℕ) (k : Stream) → pdos ≤ f → slice_get (map entry_of net.set) f ≡ Some (its_stream row) → slice_get plan.streams f ≡ Some k → timing_of k ≡ timing_in (its_stream row)
      → IsFrameOf net.nodes.frames plan row k
  frame_with row f k past there here timing = record {
    here = (f, slice_get_within plan.streams f k here, get_or_from_slice_get plan.streams f k k here);
    id = id_kept f (its_stream row) k past there here;
    bytes = ap (λ (t : Timing). t.bytes) timing;
    period = ap (λ (t : Timing). t.period) timing;
    jitter = ap (λ (t : Timing). t.jitter) timing;
    deadline = ap (λ (t : Timing). t.deadline) timing;
    every = ap (λ (t : Timing). t.every) timing;
  }

  -- the stream of a row of the table of nodes, past the PDOs
  pub frame_at : (row : FrameRow) → Contains net.nodes.frames row → row.period ≢ 0 → (f : ℕ) × (pdos ≤ f) × (k : Stream) × (slice_get plan.streams f ≡ Some k) × IsFrameOf net.nodes.frames plan row k
  frame_at row at some =
      let t = frame_there net is row at some in
      let k = renamed_at t.0 (its_stream row) t.2 in
      (t.0, t.1, k.0, k.1, frame_with row t.0 k.0 t.1 t.2 k.1 k.2)

  -- a stream of the plan was one of the network
  was_before : (f : ℕ) (k : Stream) → slice_get plan.streams f ≡ Some k → (s : Stream) × (slice_get net.set f ≡ Some s) × (timing_of s ≡ timing_of k)
  was_before f k here = was_there timing_of (slice_get net.set f) (timing_of k)
      (sym (slice_get-map timing_of net.set f) ∙ ap (λ (ts : List Timing). slice_get ts f) (sym planned.renamed.timings) ∙ slice_get-map timing_of plan.streams f ∙ ap (λ (o : Option Stream). option_map timing_of o) here)

  -- and past the PDOs there is no other
  pub no_other : (f : ℕ) (k : Stream) → pdos ≤ f → slice_get plan.streams f ≡ Some k → (row : FrameRow) × Contains net.nodes.frames row × (row.period ≢ 0) × IsFrameOf net.nodes.frames plan row k
  no_other f k past here =
      let s = was_before f k here in
      let there : slice_get (map entry_of net.set) f ≡ Some (entry_of s.0) = slice_get-map entry_of net.set f ∙ ap (λ (o : Option Stream). option_map entry_of o) s.1 in
      let r = frame_past net is f (entry_of s.0) past there in
      let its : slice_get (map entry_of net.set) f ≡ Some (its_stream r.0) = subst (λ (e : Entry). slice_get (map entry_of net.set) f ≡ Some e) r.3 there in
      (r.0, r.1, r.2, frame_with r.0 f k past its here (sym s.2 ∙ ap timing_in r.3))

  -- the row of errors is what the plan counts
  pub errors_counted : (row : FrameRow) → errors_in net.nodes.frames ≡ Some row → (s : Stream) × (errors_of plan.streams ≡ Some s) × (s.period ≡ ticks row.period) × (s.jitter ≡ ticks row.jitter)
  errors_counted row some =
      let s = network_streams net is in
      let fixed = map up_entry (fixed_streams net.nodes.frames) in
      let f = length (s.pdos ++ fixed) in
      let whole : map entry_of net.set ≡ (s.pdos ++ fixed) ++ frame_stream row ∷ [] =
      s.parts ∙ ap (λ (o : Option FrameRow). s.pdos ++ rows_through o (fixed_streams net.nodes.frames)) some ∙ sym (append_assoc s.pdos fixed (frame_stream row ∷ [])) in
      let there : slice_get (map entry_of net.set) f ≡ Some (frame_stream row) = ap (λ (es : List Entry). slice_get es f) whole ∙ last_there (s.pdos ++ fixed) (frame_stream row) in
      let size : length net.set ≡ f + 1 = sym (length-map net.set entry_of) ∙ ap length whole ∙ length-append (s.pdos ++ fixed) (frame_stream row ∷ []) in
      let past : pdos ≤ f = (let n = length-append s.pdos fixed in omega (arith, n, s.count)) in
      let k = renamed_at f (frame_stream row) there in
      let its = row_is_errors row some in
      let base : base_of row.kind ≡ 0 = ap base_of its.kind in
      let id : k.0.id ≡ 0 = (let e = id_kept f (frame_stream row) k.0 past there k.1 in omega (arith, e, base, its.node)) in
      let bytes : k.0.bytes ≡ 9 = ap (λ (t : Timing). t.bytes) k.2 ∙ ap size_of its.kind in
      let deadline : k.0.deadline ≡ None = ap (λ (t : Timing). t.deadline) k.2 ∙ ap (option_map ticks) its.deadline in
      let every : k.0.every ≡ 0 = ap (λ (t : Timing). t.every) k.2 in
      let is_theirs : is_errors k.0 ≡ true = rw (id, bytes, deadline, every) refl in
      let count : f + 1 ≡ length plan.streams = sym size ∙ sym (same_count plan.rate net.set plan.streams pdos (id_of plan.ids) planned.renamed) in
      (k.0, errors_of-at plan.streams f k.0 count (sym (get_or_from_slice_get plan.streams f k.0 k.0 k.1)) ∙ in_errors k.0 is_theirs, ap (λ (t : Timing). t.period) k.2, ap (λ (t : Timing). t.jitter) k.2)
    where
      row_is_errors : (row : FrameRow) → errors_in net.nodes.frames ≡ Some row → IsErrors row
      row_is_errors row some = subst (λ (o : Option FrameRow). IfSome o IsErrors) some (errors_of_rows net.nodes.frames (timed net.nodes is.nodes))

  -- the stream of a row of the table of PDOs
  pub pdo_of : (p : ℕ) (row : PdoRow) → slice_get net.rows p ≡ Some row → (k : Stream) × IsPdoOf net plan p row k
  pdo_of p row there =
      let low : p < pdos = slice_get_within net.rows p row there in
      let signals = signals_of net.nodes.frames pdos in
      let r = row_stream net is p row there in
      let k = renamed_at p (pdo_stream signals p r.sent row) r.there in
      let bytes : k.0.bytes ≡ bytes_for (total_bits r.sent.mapping.entries) = ap (λ (t : Timing). t.bytes) k.2 in
      let every : k.0.every ≡ r.sent.every = ap (λ (t : Timing). t.every) k.2 in
      let period : k.0.period ≡ ticks (period_of signals.sync row r.sent.every) = ap (λ (t : Timing). t.period) k.2 in (
        k.0,
        record {
          here = k.1;
          id = id_renamed p k.0 k.1 (inside p (pdo_stream signals p r.sent row) r.there) ∙ id_of_pdo net.set pdos (id_of plan.ids) p low;
          bytes = rw bytes r.as_sent.bytes;
          type = rw every r.as_sent.type;
          by_events = λ none. period ∙ ap ticks (by_events signals.sync row r.sent.every (sym every ∙ none));
          by_sync = λ some.
              let s = by_sync signals.sync row r.sent.every (omega (arith, some, every)) r.as_sent.paced in
              let its = sync_row net.nodes.frames s.1 s.2 in
              let stream = frame_at s.1 its.0 its.1 in
              record {
                no_period = s.0;
                sync = s.1;
                is_sync = s.2;
                stream = (stream.2, stream.4);
                period = period ∙ s.3 ∙ ap (λ (n : ℕ). n * ticks s.1.period) (sym every);
              };
          jitter = ap (λ (t : Timing). t.jitter) k.2;
          deadline = ap (λ (t : Timing). t.deadline) k.2;
        },
      )

  -- a stream past the PDOs that has a deadline is an SDO frame that is tested
  pub tested_at : (f : ℕ) (k : Stream) (d : ℕ) → length plan.ids ≤ f → slice_get plan.streams f ≡ Some k → k.deadline ≡ Some d → IsTested plan.streams (length plan.ids) f
  tested_at f k d past here dated =
      let s = was_before f k here in
      let fixed : pdos ≤ f = omega (arith, past, planned.count) in
      let low = slice_get_within net.set f s.0 s.1 in
      let deadline : deadline_at net.set f ≡ Some d = ap (λ (o : Option Stream). option_and_then (λ (s : Stream). s.deadline) o) s.1 ∙ ap (λ (t : Timing). t.deadline) s.2 ∙ dated in
      let some : IsSome (deadline_at net.set f) = rw deadline cc in
      subst (λ (n : ℕ). IsTested plan.streams n f) (sym planned.count)
      (still_tested plan.rate net.set plan.streams pdos (id_of plan.ids) planned.renamed f (record { fixed = fixed; inside = low; sdo = is.streams.dated f fixed low some; deadline = (d, deadline) }))
