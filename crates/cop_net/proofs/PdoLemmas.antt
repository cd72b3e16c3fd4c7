-- The streams of the PDOs, one after the other.
use Rattle.std.proofs.Common.{mul_assoc, ◌≡◌, ℕ, ◌*◌, ◌==◌, Bool, true, false, cond, Some, All, ◌+◌, ◌<◌, ◌≤◌, ⊎_elim, List, [], ◌∷◌, ◌++◌, length, get_or, Option, None, Result, Ok, refl, sym, ap, subst, ◌∙◌, arith, length-append, zero-add}
use Rattle.std.proofs.lemmas.Bool.{cases_lt, ne_eqb}
use Rattle.std.proofs.Math.ListN.{get_or-append}
use Rattle.std.proofs.Math.Seq.{get_or-append_seam}
use Rattle.std.proofs.lemmas.List.Elements.{All-append, All-nil, All-cons}
use Rattle.cop_dict.specs.declared.mapping.Direction.TheVariants as directions
use Rattle.cop_pdo.specs.Payload.{communication_of, payload_of}
use Rattle.cop_rows.specs.declared.node_table.FrameRow.{FrameRow}
use Rattle.cop_rows.specs.declared.pdo_table.PdoRow.{PdoRow}
use Rattle.cop_rows.proofs.RangeLemmas.{bind_ok}
use Rattle.cop_rta.specs.Entries.{Entry}
use Rattle.cop_net.specs.declared.faults.Refusal.{Refusal}
use Rattle.cop_net.specs.declared.faults.Rule.TheVariants as rules
use Rattle.cop_net.specs.declared.faults.SyncFault.{SyncFault}
use Rattle.cop_net.specs.declared.faults.SyncFault.TheVariants as faults
use Rattle.cop_net.specs.declared.pdos.Sent.{Sent}
use Rattle.cop_net.specs.declared.devices.Device.{Device}
use Rattle.cop_net.specs.declared.signals.Signals.{Signals}
use Rattle.cop_net.specs.Steps.{folded}
use Rattle.cop_net.specs.Fixed.{ticks}
use Rattle.cop_net.specs.Settings.{is_usable}
use Rattle.cop_net.specs.Signals.{ranges_of}
use Rattle.cop_net.specs.Pdos.{Traffic, tpdo_of, unsent, laid_out, unless, or_rule, every_at, sync_fault, pace_fault, unless_fault, period_of, IsPaced, transmitted_by, consumer_added, sent_by, pdo_stream, ArePdos, IsPdoAt, pdo_added, no_traffic, pdos_of}

pub starts : (devices : List (Option Device)) (signals : Signals) (rows : List PdoRow) (found : Traffic) → found.streams ≡ [] → found.used ≡ [] → folded (pdo_added devices signals) found rows ≡ pdos_of devices signals rows
unfolding pdos_of
starts devices signals rows found none unused = rw (none, unused) refl

no_fault : {A : Type 0} (place : ℕ) (fault : Option SyncFault) (x y : A) → unless_fault place fault x ≡ Ok y → (fault ≡ None) × (x ≡ y)
no_fault place None x y h = (refl, cc)
no_fault place (Some fault) x y h = cc

-- the row and SYNC's go with what is sent
in_pace : (signals : Signals) (place : ℕ) (row : PdoRow) (device : Option Device) (sent : Sent) → transmitted_by signals place row device ≡ Ok sent → pace_fault signals.sync row sent.every ≡ None
in_pace signals place row None sent h = cc
in_pace signals place row (Some device) sent h =
    let index = communication_of directions.Transmit row.tpdo in
    let p = bind_ok (laid_out unsent place directions.Transmit (payload_of device.dictionary directions.Transmit row.tpdo)) _ sent h in
    let q = bind_ok (unless (rules.CobId (tpdo_of row)) place (is_usable device.dictionary index (ranges_of signals)) p.0) _ sent p.2 in
    let r = bind_ok (or_rule rules.Transmission place (every_at device.dictionary index)) _ sent q.2 in
    let made : Sent = record { mapping = q.0; every = r.0 } in
    let n = no_fault place (pace_fault signals.sync row r.0) made sent r.2 in
    subst (λ (s : Sent). pace_fault signals.sync row s.every ≡ None) n.1 n.0

-- one PDO more is one stream more
pub shape : (devices : List (Option Device)) (signals : Signals) (found more : Traffic) (row : PdoRow) → pdo_added devices signals found row ≡ Ok more
    → (sent : Sent) × (more.streams ≡ found.streams ++ pdo_stream signals (length found.streams) sent row ∷ []) × (pace_fault signals.sync row sent.every ≡ None)
shape devices signals found more row h =
    let p = bind_ok (transmitted_by signals (length found.streams + 1) row (get_or devices row.node None)) _ more h in
    let q = bind_ok (folded (consumer_added devices signals (length found.streams + 1) p.0.mapping) (found.used ++ sent_by row ∷ []) row.consumers) _ more p.2 in
    let stream = pdo_stream signals (length found.streams) p.0 row in
    let whole : ◌≡◌ {A = Result Traffic Refusal} (Ok (record { streams = found.streams ++ stream ∷ []; used = q.0 })) (Ok more) = q.2 in
    let same : record { streams = found.streams ++ stream ∷ []; used = q.0 } ≡ more = cc in
    (p.0, ap (λ t. t.streams) (sym same), in_pace signals (length found.streams + 1) row (get_or devices row.node None) p.0 p.1)

pub one_more : (devices : List (Option Device)) (signals : Signals) (found more : Traffic) (row : PdoRow) (i : ℕ) → pdo_added devices signals found row ≡ Ok more → length found.streams ≡ i → length more.streams ≡ i + 1
one_more devices signals found more row i h count =
    let s = shape devices signals found more row h in
    let stream = pdo_stream signals (length found.streams) s.0 row in
    let e : length more.streams ≡ length (found.streams ++ stream ∷ []) = ap length s.1 in
    e ∙ length-append found.streams (stream ∷ []) ∙ rw count refl

-- the streams of the PDOs so far and one more
pub pdos_more : (es : List Entry) (signals : Signals) (sent : Sent) (row : PdoRow) → ArePdos es → ArePdos (es ++ pdo_stream signals (length es) sent row ∷ [])
pdos_more es signals sent row h k d lt =
    let stream = pdo_stream signals (length es) sent row in
    ⊎_elim (λ (before : k < length es). subst (IsPdoAt k) (sym (get_or-append es (stream ∷ []) d k before)) (h k d before))
    (λ (past : length es ≤ k).
    let last : k ≡ length es = omega (arith, length-append es (stream ∷ [])) in
    rw last (subst (IsPdoAt (length es)) (sym (get_or-append_seam es stream [] d)) (refl, refl)))
    (cases_lt k (length es))

pub no_pdos : (es : List Entry) → es ≡ [] → ArePdos es
no_pdos es none k d lt = absurd (omega (arith, lt, ap length none))

pub pdos_after : (devices : List (Option Device)) (signals : Signals) (found more : Traffic) (row : PdoRow) → pdo_added devices signals found row ≡ Ok more → ArePdos found.streams → ArePdos more.streams
pdos_after devices signals found more row h are = let s = shape devices signals found more row h in subst ArePdos (sym s.1) (pdos_more found.streams signals s.0 row are)

by_row : (sync : Option FrameRow) (row : PdoRow) (every : ℕ) (b : Bool) → (every == 0) ≡ false → cond b (sync_fault sync row every) (Some faults.OwnPeriod) ≡ None
    → (s : FrameRow) × (sync ≡ Some s) × (ticks (period_of sync row every) ≡ every * ticks s.period)
unfolding period_of
by_row sync row every false some h = cc
by_row None row every true some h = cc
by_row (Some s) row every true some h = (s, refl, rw some (mul_assoc every s.period 4))

-- a TPDO that is sent by SYNC has as many times SYNC's period
by_sync : (sync : Option FrameRow) (row : PdoRow) (every : ℕ) → 1 ≤ every → pace_fault sync row every ≡ None → (s : FrameRow) × (sync ≡ Some s) × (ticks (period_of sync row every) ≡ every * ticks s.period)
unfolding pace_fault
by_sync sync row every some h =
    let none : (every == 0) ≡ false = ne_eqb every 0 (λ e. omega (arith, some, e)) in
    by_row sync row every (row.period == 0) none (rw none at h)

pub paced_more : (es : List Entry) (signals : Signals) (sent : Sent) (row : PdoRow) → pace_fault signals.sync row sent.every ≡ None → All (IsPaced signals.sync) es
    → All (IsPaced signals.sync) (es ++ pdo_stream signals (length es) sent row ∷ [])
paced_more es signals sent row h all =
    All-append (IsPaced signals.sync) es (pdo_stream signals (length es) sent row ∷ []) all
    (All-cons (IsPaced signals.sync) (pdo_stream signals (length es) sent row) [] (λ some. by_sync signals.sync row sent.every some h) (All-nil (IsPaced signals.sync)))

pdos_from : (devices : List (Option Device)) (signals : Signals) (rows : List PdoRow) (found more : Traffic) → folded (pdo_added devices signals) found rows ≡ Ok more → ArePdos found.streams
    → All (IsPaced signals.sync) found.streams → ArePdos more.streams × (length more.streams ≡ length found.streams + length rows) × All (IsPaced signals.sync) more.streams
unfolding folded
pdos_from devices signals [] found more h are paced =
    let same : found ≡ more = cc in
    rw (← same) (are, omega arith, paced)
pdos_from devices signals (row ∷ rows) found more h are paced =
    let p = bind_ok (pdo_added devices signals found row) (λ t. folded (pdo_added devices signals) t rows) more h in
    let count = one_more devices signals found p.0 row (length found.streams) p.1 refl in
    let s = shape devices signals found p.0 row p.1 in
    let here = subst (All (IsPaced signals.sync)) (sym s.1) (paced_more found.streams signals s.0 row s.2 paced) in
    let r = pdos_from devices signals rows p.0 more p.2 (pdos_after devices signals found p.0 row p.1 are) here in
    (r.0, omega (arith, r.1, count), r.2)

-- the streams that are found are those of the PDOs, one for each row, and those that are sent by SYNC have its period
pub pdos_found : (devices : List (Option Device)) (signals : Signals) (rows : List PdoRow) (found : Traffic) → pdos_of devices signals rows ≡ Ok found
    → ArePdos found.streams × (length found.streams ≡ length rows) × All (IsPaced signals.sync) found.streams
unfolding pdos_of
pdos_found devices signals rows found h =
    let s = pdos_from devices signals rows no_traffic found h (no_pdos [] refl) (All-nil (IsPaced signals.sync)) in (s.0, s.1 ∙ zero-add (length rows), s.2)
