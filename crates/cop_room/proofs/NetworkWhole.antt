-- Streams of tables are in whole microseconds, and so are those of their plans.
use Rattle.std.proofs.Common.{◌≡◌, ◌∙◌, ℕ, ◌+◌, List, [], ◌∷◌, ◌++◌, map, length, slice_get, get_or, Option, Some, None, IfSome, option_map, Result, Ok, Err, All, refl, sym, ap, subst, arith}
use Rattle.std.specs.Option.{ForSome}
use Rattle.std.proofs.lemmas.List.Elements.{All-append, All-nil, All-cons}
use Rattle.std.proofs.lemmas.Option.{slice_get-map, slice_get_within, get_or_from_slice_get}
use Rattle.cop_frame.specs.declared.rates.Rate.{Rate}
use Rattle.cop_table.specs.Reading.{◌>>=◌}
use Rattle.cop_rta.specs.declared.streams.Stream.{Stream}
use Rattle.cop_rta.specs.Entries.{Entry, entry_of}
use Rattle.cop_rows.specs.declared.node_table.FrameRow.{FrameRow}
use Rattle.cop_rows.specs.declared.pdo_table.PdoRow.{PdoRow}
use Rattle.cop_net.specs.declared.devices.Device.{Device}
use Rattle.cop_net.specs.declared.faults.Refusal.{Refusal}
use Rattle.cop_net.specs.declared.signals.Signals.{Signals}
use Rattle.cop_net.specs.Devices.{Equipment, devices_of}
use Rattle.cop_net.specs.Fixed.{ticks, frame_stream, fixed_streams}
use Rattle.cop_net.specs.Network.{Net, Accepted, accepted, through, network_of, streams_of, all_settable, with_rate, IsNetwork}
use Rattle.cop_net.specs.Pdos.{Traffic, pdo_stream, pdo_added, pdos_of, no_traffic, transmitted_by, consumer_added, sent_by}
use Rattle.cop_net.specs.Rates.{is_some_rate}
use Rattle.cop_net.specs.Signals.{signals_of, errors_in}
use Rattle.cop_net.specs.Steps.{folded}
use Rattle.cop_net.proofs.ThroughLemmas.{through_all, fixed_all}
use Rattle.cop_plan.specs.Plans.{IsPlan}
use Rattle.cop_plan.specs.Values.{PlanValue, Timing, timing_of}
use Rattle.cop_room.specs.Whole.{IsWhole, IsInMicroseconds, AreInMicroseconds}

bind_ok : {A B F : Type 0} (r : Result A F) (f : A → Result B F) (y : B) → (r >>= f) ≡ Ok y → (x : A) × (r ≡ Ok x) × (f x ≡ Ok y)
bind_ok (Ok x) f y h = (x, refl, h)
bind_ok (Err e) f y h = absurd (cc)

ticks_whole : (n : ℕ) → IsWhole (ticks n)
ticks_whole n = omega arith

some_whole : (n : ℕ) → ForSome (Some (ticks n)) IsWhole
some_whole n d is = let same : ticks n ≡ d = cc in subst IsWhole same (ticks_whole n)

if_whole : (o : Option ℕ) → ForSome (option_map ticks o) IsWhole
if_whole None d is = absurd (cc)
if_whole (Some n) d is = some_whole n d is

-- ---- fixed frames, and disturbed transfers

row_whole : (row : FrameRow) → IsInMicroseconds (frame_stream row)
row_whole row = record { period = ticks_whole row.period; jitter = ticks_whole row.jitter; deadline = if_whole row.deadline }

fixed_whole : (frames : List FrameRow) → All IsInMicroseconds (fixed_streams frames)
fixed_whole frames = fixed_all IsInMicroseconds frames (λ k d lt. row_whole (get_or frames k d))

any_whole : (o : Option FrameRow) → IfSome o (λ row. IsInMicroseconds (frame_stream row))
any_whole None = tt
any_whole (Some row) = row_whole row

through_whole : (o : Option FrameRow) (streams : List Entry) → All IsInMicroseconds streams → All IsInMicroseconds (through o streams)
through_whole o streams h = through_all IsInMicroseconds o streams (λ e its. record { period = its.period; jitter = its.jitter; deadline = its.deadline }) (any_whole o) h

-- ---- PDOs

module _ (devices : List (Option Device)) (signals : Signals) where
  one_whole : (found more : Traffic) (row : PdoRow) → pdo_added devices signals found row ≡ Ok more → All IsInMicroseconds found.streams → All IsInMicroseconds more.streams
  one_whole found more row h whole =
      let p = bind_ok (transmitted_by signals (length found.streams + 1) row (get_or devices row.node None)) _ more h in
      let q = bind_ok (folded (consumer_added devices signals (length found.streams + 1) p.0.mapping) (found.used ++ sent_by row ∷ []) row.consumers) _ more p.2 in
      let stream = pdo_stream signals (length found.streams) p.0 row in
      let made : ◌≡◌ {A = Result Traffic Refusal} (Ok (record { streams = found.streams ++ stream ∷ []; used = q.0 })) (Ok more) = q.2 in
      let same : record { streams = found.streams ++ stream ∷ []; used = q.0 } ≡ more = cc in
      subst (λ (t : Traffic). All IsInMicroseconds t.streams) same
      (All-append IsInMicroseconds found.streams (stream ∷ []) whole
      (All-cons IsInMicroseconds stream [] (record { period = ticks_whole _; jitter = ticks_whole row.jitter; deadline = some_whole row.deadline }) (All-nil IsInMicroseconds)))

  all_whole : (rows : List PdoRow) (found more : Traffic) → folded (pdo_added devices signals) found rows ≡ Ok more → All IsInMicroseconds found.streams → All IsInMicroseconds more.streams
  unfolding folded
  all_whole [] found more h whole =
      let made : ◌≡◌ {A = Result Traffic Refusal} (Ok found) (Ok more) = h in
      let same : found ≡ more = cc in
      subst (λ (t : Traffic). All IsInMicroseconds t.streams) same whole
  all_whole (row ∷ rows) found more h whole =
      let p = bind_ok (pdo_added devices signals found row) _ more h in
      all_whole rows p.0 more p.2 (one_whole found p.0 row p.1 whole)

  pdos_whole : (rows : List PdoRow) (more : Traffic) → pdos_of devices signals rows ≡ Ok more → All IsInMicroseconds more.streams
  unfolding pdos_of
  pdos_whole rows more h = all_whole rows no_traffic more h (All-nil IsInMicroseconds)

streams_whole : (frames : List FrameRow) (rows : List PdoRow) (equipment : Equipment) (streams : List Entry) → streams_of frames rows equipment ≡ Ok streams → All IsInMicroseconds streams
unfolding streams_of
streams_whole frames rows equipment streams h =
    let p = bind_ok (pdos_of equipment.devices (signals_of frames (length rows)) rows) _ streams h in
    let q = bind_ok (all_settable frames p.0.used 0 equipment.devices) _ streams p.2 in
    let r = bind_ok (with_rate (is_some_rate equipment.rates)) _ streams q.2 in
    let made : ◌≡◌ {A = Result (List Entry) Refusal} (Ok (through (errors_in frames) (p.0.streams ++ fixed_streams frames))) (Ok streams) = r.2 in
    let same : through (errors_in frames) (p.0.streams ++ fixed_streams frames) ≡ streams = cc in
    subst (All IsInMicroseconds) same
    (through_whole (errors_in frames) (p.0.streams ++ fixed_streams frames)
    (All-append IsInMicroseconds p.0.streams (fixed_streams frames) (pdos_whole equipment.devices (signals_of frames (length rows)) rows p.0 p.1) (fixed_whole frames)))

-- ---- networks and plans

of_entries : (streams : List Stream) → All IsInMicroseconds (map entry_of streams) → AreInMicroseconds streams
of_entries streams all k s at =
    let there : slice_get (map entry_of streams) k ≡ Some (entry_of s) = slice_get-map entry_of streams k ∙ ap (option_map entry_of) at in
    subst IsInMicroseconds (get_or_from_slice_get (map entry_of streams) k (entry_of s) (entry_of s) there) (all k (entry_of s) (slice_get_within (map entry_of streams) k (entry_of s) there))

pub network_whole : (n : Net) → IsNetwork n → AreInMicroseconds n.set
unfolding network_of
network_whole n is =
    let p = bind_ok (devices_of is.wanted is.files n.nodes.devices) _ (accepted n) is.made in
    let q = bind_ok (streams_of n.nodes.frames n.rows p.0) _ (accepted n) p.2 in
    let made : ◌≡◌ {A = Result Accepted Refusal} (Ok (record { equipment = p.0; streams = q.0 })) (Ok (accepted n)) = q.2 in
    let same : record { equipment = p.0; streams = q.0 } ≡ accepted n = cc in
    of_entries n.set (subst (λ (a : Accepted). All IsInMicroseconds a.streams) same (streams_whole n.nodes.frames n.rows p.0 q.0 q.1))

by_timing : (s t : Stream) → timing_of t ≡ timing_of s → IsInMicroseconds (entry_of t) → IsInMicroseconds (entry_of s)
by_timing s t same whole = record {
  period = subst IsWhole (ap (λ (x : Timing). x.period) same) whole.period;
  jitter = subst IsWhole (ap (λ (x : Timing). x.jitter) same) whole.jitter;
  deadline = subst (λ (o : Option ℕ). ForSome o IsWhole) (ap (λ (x : Timing). x.deadline) same) whole.deadline;
}

one_of : (o : Option Stream) (s : Stream) → option_map timing_of o ≡ Some (timing_of s) → (t : Stream) × (o ≡ Some t) × (timing_of t ≡ timing_of s)
one_of None s h = absurd (cc)
one_of (Some t) s h = (t, refl, let same : timing_of t ≡ timing_of s = cc in same)

pub plan_whole : (rates : List Rate) (streams : List Stream) (pdos : ℕ) (plan : PlanValue) → AreInMicroseconds streams → IsPlan rates streams pdos plan → AreInMicroseconds plan.streams
plan_whole rates streams pdos plan whole is k s at =
    let there : slice_get (map timing_of plan.streams) k ≡ Some (timing_of s) = slice_get-map timing_of plan.streams k ∙ ap (option_map timing_of) at in
    let before : option_map timing_of (slice_get streams k) ≡ Some (timing_of s) = sym (slice_get-map timing_of streams k) ∙ ap (λ (ts : List Timing). slice_get ts k) (sym is.renamed.timings) ∙ there in
    let one = one_of (slice_get streams k) s before in
    by_timing s one.0 one.2 (whole k one.0 one.1)
