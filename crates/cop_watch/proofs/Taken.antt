-- A step that is taken: what is known after it.
use Rattle.std.proofs.Common.{◌≡◌, ◌≢◌, ℕ, ◌+◌, ◌-◌, ◌*◌, ◌≤◌, ◌<◌, inl, inr, List, [], ◌∷◌, ◌++◌, length, refl, sym, ◌∙◌, ap, subst, arith, suc, zero, true, false, cond, not, ◌&&◌, ◌==◌, nat_lt, nat_le, get_or, get_or-set_same, get_or-set_other, length-append}
use Rattle.std.specs.Prelude.{Option, None, Some, is_some, slice_index, slice_set}
use Rattle.std.specs.BTreeSet.{BTreeSet, contains}
use Rattle.std.specs.Ordering.{nat_cmp}
use Rattle.cop_frame.proofs.LengthLemmas.{least_bits-least}
use Rattle.cop_rta.specs.declared.streams.Stream.{Stream}
use Rattle.cop_bus.specs.declared.steps.Step.{Step}
use Rattle.cop_bus.specs.declared.steps.Content.{Content}
use Rattle.cop_bus.specs.declared.steps.Step.TheVariants.{Queue, Start, End}
use Rattle.cop_bus.specs.Run.{least_bits, worst_bits}
use Rattle.cop_bus.specs.Trace.{is_queue, is_start, count_to, nth_that, running, bits_of, at_of}
use Rattle.cop_bus.specs.Ends.{anchor_of, sync_anchor}
use Rattle.cop_rta.specs.Test.{sync_id}
use Rattle.cop_bus.specs.Judge as Judge
use Rattle.cop_bus.specs.Judge.{stream_of, last_event, event_or, is_in_order, is_period_later, is_queued_in_time, is_of_length, fits_transfer, is_not_idle, broken_by, any_waits, lower_waits, waits_after, are_apart, is_soon_queued}
use Rattle.cop_bus.specs.Growing.{KeepTheRules}
use Rattle.cop_bus.proofs.AnchorLemmas.{own_anchor, anchor_async, gap-async}
use Rattle.cop_bus.proofs.Work.{le-true, lt-true, true-lt, true-eq, eq-true}
use Rattle.cop_bus.proofs.Demand.{and-true}
use Rattle.cop_bus.proofs.StepLemmas.{bool_cases, nth_that-at}
use Rattle.cop_bus.proofs.Waits.{any-none, any-one, lower-none}
use Rattle.cop_bus.proofs.Grows.{last_event-more, any_waits-more, lower_waits-more, count_to-more, nth_that-more}
use Rattle.cop_bus.proofs.Appended.{length-one, one-more, step_at-here, last_event-here}
use Rattle.cop_watch.specs.declared.bus.Bus.{Bus}
use Rattle.cop_watch.specs.declared.bus.Bus.TheVariants.{Idle, Sending, Joining}
use Rattle.cop_watch.specs.Rules.{Obeys, IsOfLength, is_after}
use Rattle.cop_watch.specs.declared.syncs.Syncs.{Syncs}
use Rattle.cop_watch.specs.declared.syncs.EndedSync.{EndedSync}
use Rattle.cop_watch.specs.declared.syncs.Newest.{Newest}
use Rattle.cop_watch.specs.declared.syncs.Newest.TheVariants.{Nothing, Sync}
use Rattle.cop_watch.specs.Syncs.{IsAmong, IsForgotten, IsNoSync, MayCome, HangsOn, IsSync, IsBehind, IsNewest, AreKnown, EndsLast, EndsFirst, events_with}
use Rattle.cop_watch.specs.Rings.{ring_of, Waits, Leaves, Stays, ArePassed}
use Rattle.cop_watch.specs.Knowing.{queues, starts, sent, is_a_start, IsQueued, IsHeld, IsJoiner, AreUnended, Awaits, runs_of, joins}
use Rattle.cop_watch.specs.Watching.{Knows, IsOpen}
use Rattle.cop_watch.proofs.Further.{FindsTheSame, finds-more, finds-between, fine-one, running-kept, running-one, keeps-none, order-more, idle-more, runs-idle, start-period, end-period, start-time, end-time, start-length, end-length, count-kept, count-raised, order-is, after-le, now-one, idle-is}
use Rattle.cop_watch.proofs.HangLemmas.{syncs-after, recent-next, anchor-other, hang-after, period-sync, time-sync, hang-next, newest-next}
use Rattle.cop_watch.proofs.SyncLemmas.{among}
use Rattle.cop_watch.proofs.UnendedLemmas.{unended-other, unended-queued, unended-first, unended-ended}
use Rattle.cop_watch.proofs.HeldLemmas.{waits-is, held-other, held-started, held-joiner, held-joined, held-queued}

-- a length of a bit at least is one of a bit time at least
grows : (bits tau : ℕ) → 1 ≤ bits → tau ≤ bits * tau
grows zero tau h = absurd (omega (arith, h))
grows (suc m) tau h = grind arith

-- rules 62 to 64 of a stream that is not synchronous
period-is : (k : Stream) (before : Option ℕ) (steps : List Step) (i id at event : ℕ) (frame : Content) → Obeys k before at event frame → is_period_later (Some k) before steps i (Queue id at event frame) ≡ true
period-is k None steps i id at event frame o = refl
period-is k (Some v) steps i id at event frame o =
    ap (λ g. are_apart g (anchor_of k steps i v) (anchor_of k steps i event)) (gap-async k o.async)
    ∙ ap (λ a. are_apart k.period a (anchor_of k steps i event)) (anchor_async k steps i v o.async) ∙ ap (are_apart k.period (Some (own_anchor v))) (anchor_async k steps i event o.async)
    ∙ le-true (v + k.period) event (o.later v refl)

time-is : (k : Stream) (before : Option ℕ) (steps : List Step) (i id at event : ℕ) (frame : Content) → Obeys k before at event frame → is_queued_in_time (Some k) steps i (Queue id at event frame) ≡ true
time-is k before steps i id at event frame o =
    ap (λ a. Judge.is_in_time k.jitter a at) (anchor_async k steps i event o.async)
    ∙ and-true (nat_le event at) (nat_le at (event + k.jitter)) (le-true event at o.from) (le-true at (event + k.jitter) o.by)

length-is : (k : Stream) (id at event : ℕ) (frame : Content) → IsOfLength k frame → is_of_length (Some k) (Queue id at event frame) ≡ true
length-is k id at event frame l =
    and-true (nat_le (least_bits k.bytes) frame.bits && nat_le frame.bits (worst_bits k.bytes)) (frame.len == k.bytes)
    (and-true (nat_le (least_bits k.bytes) frame.bits) (nat_le frame.bits (worst_bits k.bytes)) (le-true (least_bits k.bytes) frame.bits l.least) (le-true frame.bits (worst_bits k.bytes) l.most))
    (eq-true frame.len k.bytes l.bytes)

some-is : (o : Option Stream) (k : Stream) → o ≡ Some k → is_some o ≡ true
some-is o k e = ap is_some e

-- the step of one stream is none of another's
apart : (id k : ℕ) → (id == k) ≡ false → id ≢ k
apart id k f e = let t = eq-true id k e in cc

-- what each identifier's last event is after a step
pub last-queue : (id at event : ℕ) (frame : Content) (last : List (Option ℕ)) (steps : List Step) → id < length last → ((k : ℕ) → get_or last k None ≡ last_event k steps (length steps)) →
    (k : ℕ) → get_or (slice_set last id (Some event)) k None ≡ last_event k (steps ++ Queue id at event frame ∷ []) (length (steps ++ Queue id at event frame ∷ []))
last-queue id at event frame last steps l h k =
    let x = Queue id at event frame in
    let n : last_event k (steps ++ x ∷ []) (length (steps ++ x ∷ [])) ≡ event_or k x (last_event k steps (length steps)) = ap (last_event k (steps ++ x ∷ [])) (length-one steps x) ∙ last_event-here k steps x [] in
    elim (bool_cases (id == k)) [
      | inl t ↦ (let e = true-eq id k t in
          subst (λ m. get_or (slice_set last id (Some event)) m None ≡ Some event) e (get_or-set_same last id (Some event) None l)
          ∙ sym (n ∙ ap (λ b. cond b (Some event) (last_event k steps (length steps))) t))
      | inr f ↦ (let d : k ≢ id = λ e. apart id k f (sym e) in
          get_or-set_other last id k (Some event) None d ∙ h k ∙ sym (n ∙ ap (λ b. cond b (Some event) (last_event k steps (length steps))) f))
    ]

pub last-kept : (x : Step) (last : List (Option ℕ)) (steps : List Step) → ((k : ℕ) (v : Option ℕ) → event_or k x v ≡ v) → ((k : ℕ) → get_or last k None ≡ last_event k steps (length steps)) →
    (k : ℕ) → get_or last k None ≡ last_event k (steps ++ x ∷ []) (length (steps ++ x ∷ []))
last-kept x last steps kept h k =
    h k ∙ sym (ap (last_event k (steps ++ x ∷ [])) (length-one steps x) ∙ last_event-here k steps x [] ∙ kept k (last_event k steps (length steps)))

-- where rings change in one place
ring-same : (rings : List (List ℕ)) (id : ℕ) (ring : List ℕ) → id < length rings → ring_of (slice_set rings id ring) id ≡ ring
ring-same rings id ring l = get_or-set_same rings id ring [] l

ring-other : (rings : List (List ℕ)) (id k : ℕ) (ring : List ℕ) → k ≢ id → ring_of (slice_set rings id ring) k ≡ ring_of rings k
ring-other rings id k ring d = get_or-set_other rings id k ring [] d

-- a queue step keeps the rules that ask what it queues
pub keeps-queue : (tau : ℕ) (streams : List Stream) (later : ℕ) (steps more : List Step) (id at event : ℕ) (frame : Content) (k : Stream) (last : Option ℕ) (r : Option (ℕ × ℕ)) →
    is_in_order later steps (length steps) (Queue id at event frame) ≡ true → stream_of streams id ≡ Some k → last_event id steps (length steps) ≡ last → is_period_later (Some k) last (steps ++ Queue id at event frame ∷ more) (length steps) (Queue id at event frame) ≡ true →
    is_queued_in_time (Some k) (steps ++ Queue id at event frame ∷ more) (length steps) (Queue id at event frame) ≡ true → is_of_length (Some k) (Queue id at event frame) ≡ true →
    running tau (steps ++ Queue id at event frame ∷ more) (length steps) ≡ r → fits_transfer r (Queue id at event frame) ≡ true → is_not_idle streams steps (length steps) r at ≡ true →
    broken_by tau streams later (steps ++ Queue id at event frame ∷ more) (length steps) (Queue id at event frame) ≡ None
keeps-queue tau streams later steps more id at event frame k last r order its before later_is time length_is runs fits idle =
    let x = Queue id at event frame in
    let xs = steps ++ x ∷ more in
    let n = length steps in
    keeps-none tau streams later xs n x (record {
      order = order-more later steps (x ∷ more) x ∙ order;
      known = some-is (stream_of streams id) k its;
      period = ap (λ s. is_period_later s (last_event id xs n) xs n x) its ∙ ap (λ v. is_period_later (Some k) v xs n x) (last_event-more id steps (x ∷ more) n (omega arith) ∙ before) ∙ later_is;
      in_time = ap (λ s. is_queued_in_time s xs n x) its ∙ time;
      of_length = ap (λ s. is_of_length s x) its ∙ length_is;
      transfer = ap (λ v. fits_transfer v x) runs ∙ fits;
      to_send = refl;
      lowest = refl;
      not_idle = ap (λ v. is_not_idle streams xs n v at) runs ∙ idle-more streams steps (x ∷ more) r at ∙ idle;
    })

some-event : (a b : ℕ) → Some a ≡ Some b → a ≡ b
some-event a b e = cc

some-stream : (a b : Stream) → Some a ≡ Some b → a ≡ b
some-stream a b e = cc

-- a recalled SYNC's event hangs on it
hangs-on-recalled : (xs : List Step) (i event number : ℕ) (syncs : Syncs) (s : EndedSync) → IsAmong syncs s → s.event ≡ event → number ≡ s.mark → AreKnown syncs xs i → HangsOn (sync_anchor xs i event) number
hangs-on-recalled xs i event number syncs s on its is known =
    subst (λ v. HangsOn (sync_anchor xs i v) number) its (subst (λ o. HangsOn o number) (sym (among xs i syncs s known on)) (sym is))

-- What is known before a step.
module _ (tau : ℕ) (streams : List Stream) (steps : List Step) (bus : Bus) (now rank : ℕ) (last : List (Option ℕ)) (marks : List ℕ) (syncs : Syncs) (events : List ℕ) (rings : List (List ℕ)) (waiting : BTreeSet ℕ) (count : ℕ)
    (h : Knows tau streams steps bus now rank last marks syncs events rings waiting count) where
  -- an instance waits where its identifier is listed
  pub waits-listed : (id : ℕ) → contains nat_cmp waiting id ≡ waits_after steps (length steps) id
  waits-listed id = h.listed id ∙ sym (waits-is steps now id (ring_of rings id) (h.held id))

  pub none-waiting : ((k : ℕ) → contains nat_cmp waiting k ≡ false) → any_waits steps (length steps) streams ≡ false
  none-waiting none = any-none steps (length steps) streams (λ k. sym (waits-listed k) ∙ none k)

  -- and the stream is one of the set
  pub is-known : (id : ℕ) → contains nat_cmp waiting id ≡ true → is_some (stream_of streams id) ≡ true
  is-known id t =
      let l = true-lt (starts id steps) (queues id steps) (sym (waits-listed id) ∙ t) in
      h.known id (omega (arith, l))

  pub some-waiting : (id : ℕ) → contains nat_cmp waiting id ≡ true → any_waits steps (length steps) streams ≡ true
  some-waiting id t = any-one steps (length steps) id streams (sym (waits-listed id) ∙ t) (is-known id t)

  pub none-below : (id : ℕ) → ((k : ℕ) → k < id → contains nat_cmp waiting k ≡ false) → lower_waits steps (length steps) id streams ≡ false
  none-below id none = lower-none steps (length steps) id streams (λ k l. sym (waits-listed k) ∙ none k l)

  -- what a queue step finds on the bus
  pub fits-open : (id at event : ℕ) (frame : Content) (ahead : List Step) → Awaits tau bus ahead → IsOpen tau now waiting bus at → fits_transfer (runs_of tau bus ahead) (Queue id at event frame) ≡ true
  fits-open id at event frame ahead a o = go bus a o
    where
      go : (b : Bus) → Awaits tau b ahead → IsOpen tau now waiting b at → fits_transfer (runs_of tau b ahead) (Queue id at event frame) ≡ true
      go Idle a o = refl
      go (Sending k end) a o = lt-true at end o
      go (Joining k start) a o =
          let soon : at < start + bits_of (Some (Queue k a.at a.event a.frame)) * tau = (let g = grows a.frame.bits tau a.some in omega (arith, g, o)) in
          subst (λ (xs : List Step). fits_transfer (runs_of tau (Joining k start) xs) (Queue id at event frame) ≡ true) (sym a.is) (lt-true at (start + a.frame.bits * tau) soon)

  pub idle-open : (at : ℕ) (ahead : List Step) → Awaits tau bus ahead → IsOpen tau now waiting bus at → is_not_idle streams steps (length steps) (runs_of tau bus ahead) at ≡ true
  idle-open at ahead a o = go bus a o
    where
      go : (b : Bus) → Awaits tau b ahead → IsOpen tau now waiting b at → is_not_idle streams steps (length steps) (runs_of tau b ahead) at ≡ true
      go Idle a (inl by) = idle-is streams steps now rank at h.last_is (inl by)
      go Idle a (inr none) = idle-is streams steps now rank at h.last_is (inr (none-waiting none))
      go (Sending k end) a o = runs-idle streams steps (length steps) at (k, end)
      go (Joining k start) a o =
          subst (λ (xs : List Step). is_not_idle streams steps (length steps) (runs_of tau (Joining k start) xs) at ≡ true) (sym a.is) (runs-idle streams steps (length steps) at (k, start + a.frame.bits * tau))

  -- A queue step.
  module _ (id at event : ℕ) (frame : Content) (k : Stream) (its : stream_of streams id ≡ Some k) (number : ℕ) (obeying : MayCome k (get_or last id None) (slice_index marks id) syncs at event frame number)
      (order : is_after now rank at 1 ≡ true) (open_to : IsOpen tau now waiting bus at) (long : id < length last) (mark_there : id < length marks) (ring_there : id < length rings) where
    abbrev x : Step
    x = Queue id at event frame

    le : now ≤ at
    le = after-le now rank at 1 order

    in-order : is_in_order at steps (length steps) x ≡ true
    in-order = order-is at steps x now rank h.last_is order (omega arith)

    hangs-before : (ahead : List Step) → Awaits tau bus ahead → 1 ≤ k.every → (v : ℕ) → get_or last id None ≡ Some v → HangsOn (sync_anchor (steps ++ ahead) (length steps) v) (slice_index marks id)
    hangs-before ahead a synced v e = h.marked ahead a id k its synced v (sym (h.lasts id) ∙ e)

    -- it keeps the rules, with what runs
    here-queue : (ahead more : List Step) → Awaits tau bus ahead → FindsTheSame steps ahead (x ∷ more) → running tau (steps ++ x ∷ more) (length steps) ≡ runs_of tau bus ahead → broken_by tau streams at (steps ++ x ∷ more) (length steps) x ≡ None
    here-queue ahead more a look runs =
        let keeps = keeps-queue tau streams at steps more id at event frame k (get_or last id None) (runs_of tau bus ahead) in-order its (sym (h.lasts id)) in
        elim obeying [
          | inl o ↦ keeps (period-is k (get_or last id None) (steps ++ x ∷ more) (length steps) id at event frame o) (time-is k (get_or last id None) (steps ++ x ∷ more) (length steps) id at event frame o) (length-is k id at event frame o.length)
              runs (fits-open id at event frame ahead a open_to) (idle-open at ahead a open_to)
          | inr o ↦ keeps (period-sync tau streams now at steps ahead more x le look (h.fine ahead a) k (get_or last id None) (slice_index marks id) syncs id at event frame number o (h.hangs ahead a) (hangs-before ahead a o.synced))
              (time-sync tau streams now at steps ahead more x le look (h.fine ahead a) k (get_or last id None) (slice_index marks id) syncs id at event frame number o (h.hangs ahead a) (hangs-before ahead a o.synced)) (length-is k id at event frame o.length)
              runs (fits-open id at event frame ahead a open_to) (idle-open at ahead a open_to)
        ]

    some-bits : 1 ≤ frame.bits
    some-bits = let n = least_bits-least k.bytes in elim obeying [ inl o ↦ (let l = o.length.least in omega (arith, l, n)) | inr o ↦ (let l = o.length.least in omega (arith, l, n)) ]

    last-now : (m : ℕ) → last_event m (steps ++ x ∷ []) (length (steps ++ x ∷ [])) ≡ event_or m x (last_event m steps (length steps))
    last-now m = ap (last_event m (steps ++ x ∷ [])) (length-one steps x) ∙ last_event-here m steps x []

    unended-here : AreUnended (steps ++ x ∷ []) (events_with id event events)
    unended-here = elim (bool_cases (id == sync_id)) [
      | inl t ↦ subst (AreUnended (steps ++ x ∷ [])) (sym (ap (λ b. cond b (events ++ event ∷ []) events) t))
          (subst (λ n. AreUnended (steps ++ Queue n at event frame ∷ []) (events ++ event ∷ [])) (sym (true-eq id sync_id t)) (unended-queued steps at event frame events h.unended))
      | inr f ↦ subst (AreUnended (steps ++ x ∷ [])) (sym (ap (λ b. cond b (events ++ event ∷ []) events) f)) (unended-other steps x events f refl h.unended)
    ]

    -- the marks of the last events
    marked-queue : (ahead more : List Step) → Awaits tau bus ahead → FindsTheSame steps ahead (x ∷ more) → (m : ℕ) (j : Stream) → stream_of streams m ≡ Some j → 1 ≤ j.every → (v : ℕ) → last_event m (steps ++ x ∷ []) (length (steps ++ x ∷ [])) ≡ Some v →
        HangsOn (sync_anchor ((steps ++ x ∷ []) ++ more) (length (steps ++ x ∷ [])) v) (slice_index (slice_set marks id number) m)
    marked-queue ahead more a look m j there synced v e =
        let after = hang-after tau streams now at steps ahead more x le look (h.fine ahead a) refl in
        let was = sym (last-now m) ∙ e in
        elim (bool_cases (id == m)) [
          | inr f ↦ subst (HangsOn (sync_anchor ((steps ++ x ∷ []) ++ more) (length (steps ++ x ∷ [])) v)) (sym (get_or-set_other marks id m number 0 (λ s. apart id m f (sym s))))
              (after v (slice_index marks m) (h.marked ahead a m j there synced v (sym (ap (λ b. cond b (Some event) (last_event m steps (length steps))) f) ∙ was)))
          | inl t ↦ (let same : id ≡ m = true-eq id m t in
              let v_is : event ≡ v = some-event event v (sym (ap (λ b. cond b (Some event) (last_event m steps (length steps))) t) ∙ was) in
              let j_is : k.every ≡ j.every = ap (λ (q : Stream). q.every) (some-stream k j (sym its ∙ ap (stream_of streams) same ∙ there)) in
              elim obeying [
                | inl o ↦ absurd (let z = o.async in omega (arith, z, j_is, synced))
                | inr o ↦ subst (λ n. HangsOn (sync_anchor ((steps ++ x ∷ []) ++ more) (length (steps ++ x ∷ [])) n) (slice_index (slice_set marks id number) m)) v_is
                    (subst (HangsOn (sync_anchor ((steps ++ x ∷ []) ++ more) (length (steps ++ x ∷ [])) event)) (sym (subst (λ n. get_or (slice_set marks id number) n 0 ≡ number) same (get_or-set_same marks id number 0 mark_there)))
                    (after event number (hangs-on-recalled (steps ++ ahead) (length steps) event number syncs o.sync o.on o.its o.numbered (h.hangs ahead a))))
              ])
        ]

    known-queue : (m : ℕ) → 0 < queues m (steps ++ x ∷ []) → is_some (stream_of streams m) ≡ true
    known-queue m l = elim (bool_cases (id == m)) [
      | inl t ↦ subst (λ n. is_some (stream_of streams n) ≡ true) (true-eq id m t) (some-is (stream_of streams id) k its)
      | inr f ↦ h.known m (let c = count-kept (is_queue m) steps x f in omega (arith, c, l))
    ]

    other-held : (m : ℕ) → (id == m) ≡ false → IsHeld (steps ++ x ∷ []) at m (ring_of rings m)
    other-held m f = held-other steps x now at m (ring_of rings m) le f refl (h.held m)

    -- of a stream whose joiner is not awaited
    module _ (rings' : List (List ℕ)) (waiting' : BTreeSet ℕ) (none : joins bus id ≡ false) (w : Waits rings rings' waiting waiting' id frame.bits) where
      look-behind : (ahead : List Step) → Awaits tau bus ahead → FindsTheSame steps ahead (x ∷ ahead)
      look-behind ahead a = go bus none a
        where
          go : (b : Bus) → joins b id ≡ false → Awaits tau b ahead → FindsTheSame steps ahead (x ∷ ahead)
          go Idle n a = subst (λ (xs : List Step). FindsTheSame steps xs (x ∷ xs)) (sym a) (finds-more steps (x ∷ []))
          go (Sending i end) n a = subst (λ (xs : List Step). FindsTheSame steps xs (x ∷ xs)) (sym a) (finds-more steps (x ∷ []))
          go (Joining i start) n a =
              subst (λ (xs : List Step). FindsTheSame steps xs (x ∷ xs)) (sym a.is) (finds-between steps x (Queue i a.at a.event a.frame) (λ m. elim (bool_cases (id == m)) [
                | inr f ↦ inl f
                | inl t ↦ inr (ap (λ v. i == v) (sym (true-eq id m t)) ∙ n)
              ]))

      runs-behind : (ahead : List Step) → Awaits tau bus ahead → running tau (steps ++ x ∷ ahead) (length steps) ≡ runs_of tau bus ahead
      runs-behind ahead a = running-kept tau streams now steps ahead (x ∷ ahead) (look-behind ahead a) (h.fine ahead a) ∙ h.runs ahead a

      ring-behind : (m : ℕ) → (id == m) ≡ false → ring_of rings' m ≡ ring_of rings m
      ring-behind m f = ap (λ (rs : List (List ℕ)). ring_of rs m) w.ring ∙ ring-other rings id m (ring_of rings id ++ frame.bits ∷ []) (λ e. apart id m f (sym e))

      ring-here : ring_of rings' id ≡ ring_of rings id ++ frame.bits ∷ []
      ring-here = ap (λ (rs : List (List ℕ)). ring_of rs id) w.ring ∙ ring-same rings id (ring_of rings id ++ frame.bits ∷ []) ring_there

      held-behind : (m : ℕ) → IsHeld (steps ++ x ∷ []) at m (ring_of rings' m)
      held-behind m = elim (bool_cases (id == m)) [
        | inl t ↦ subst (λ n. IsHeld (steps ++ x ∷ []) at n (ring_of rings' n)) (true-eq id m t)
            (subst (IsHeld (steps ++ x ∷ []) at id) (sym ring-here) (held-queued steps at event now at id frame (ring_of rings id) le (omega arith) (h.none_ahead id none) (h.held id)))
        | inr f ↦ subst (IsHeld (steps ++ x ∷ []) at m) (sym (ring-behind m f)) (other-held m f)
      ]

      listed-behind : (m : ℕ) → contains nat_cmp waiting' m ≡ nat_lt 0 (length (ring_of rings' m))
      listed-behind m = w.listed m ∙ elim (bool_cases (id == m)) [
        | inl t ↦ ap (λ b. cond b true (contains nat_cmp waiting m)) t
            ∙ sym (lt-true 0 (length (ring_of rings' m)) (let e = true-eq id m t in let r = ap (λ (xs : List ℕ). length xs) (ap (ring_of rings') (sym e) ∙ ring-here) in let n = length-append (ring_of rings id) (frame.bits ∷ []) in omega (arith, r, n)))
        | inr f ↦ ap (λ b. cond b true (contains nat_cmp waiting m)) f ∙ h.listed m ∙ ap (λ (xs : List ℕ). nat_lt 0 (length xs)) (sym (ring-behind m f))
      ]

      more-queued : (m : ℕ) → queues m steps ≤ queues m (steps ++ x ∷ [])
      more-queued m = elim (bool_cases (id == m)) [
        | inl t ↦ (let c = count-raised (is_queue m) steps x t in omega (arith, c))
        | inr f ↦ (let c = count-kept (is_queue m) steps x f in omega (arith, c))
      ]

      pub queued-behind : Knows tau streams (steps ++ x ∷ []) bus at 1 (slice_set last id (Some event)) (slice_set marks id number) syncs (events_with id event events) rings' waiting' count
      queued-behind = record {
        tick = h.tick;
        last_is = now-one steps x;
        fine = λ ahead a. fine-one tau streams now at steps ahead ahead x le (look-behind ahead a) (h.fine ahead a) (here-queue ahead ahead a (look-behind ahead a) (runs-behind ahead a));
        runs = λ ahead a. running-one tau streams now steps ahead ahead x (look-behind ahead a) (h.fine ahead a) ∙ h.runs ahead a;
        none_ahead = λ m f. (let s = count-kept (is_start m) steps x refl in let q = more-queued m in let l = h.none_ahead m f in omega (arith, s, q, l));
        one_ahead = λ m t. elim (bool_cases (id == m)) [
          | inl e ↦ (let z : false ≡ true = sym none ∙ ap (joins bus) (true-eq id m e) ∙ t in absurd (cc))
          | inr f ↦ (let s = count-kept (is_start m) steps x refl in let q = count-kept (is_queue m) steps x f in let l = h.one_ahead m t in omega (arith, s, q, l))
        ];
        lasts = last-queue id at event frame last steps long h.lasts;
        unended = unended-here;
        hangs = λ ahead a. syncs-after tau streams now at steps ahead ahead x le (look-behind ahead a) (h.fine ahead a) refl syncs (h.hangs ahead a);
        marked = λ ahead a. marked-queue ahead ahead a (look-behind ahead a);
        held = held-behind;
        listed = listed-behind;
        known = known-queue;
        count = h.count ∙ sym (count-kept is_a_start steps x refl);
      }

    -- of the stream whose joiner is awaited
    module _ (start : ℕ) (joined : bus ≡ Joining id start) where
      soon : at < start + tau
      soon = subst (λ b. IsOpen tau now waiting b at) joined open_to

      awaited : Awaits tau bus (x ∷ [])
      awaited = subst (λ b. Awaits tau b (x ∷ [])) (sym joined) (record { at = at; event = event; frame = frame; is = refl; soon = soon; some = some-bits })

      same-found : FindsTheSame steps (x ∷ []) (x ∷ [])
      same-found i z j l e y f = f

      joins-it : joins bus id ≡ true
      joins-it = ap (λ b. joins b id) joined ∙ eq-true id id refl

      joins-other : (m : ℕ) → (id == m) ≡ false → joins bus m ≡ false
      joins-other m f = ap (λ b. joins b m) joined ∙ f

      fine-joined : KeepTheRules tau streams at (steps ++ x ∷ []) []
      fine-joined = fine-one tau streams now at steps (x ∷ []) [] x le same-found (h.fine (x ∷ []) awaited) (here-queue (x ∷ []) [] awaited same-found (h.runs (x ∷ []) awaited))

      runs-joined : running tau ((steps ++ x ∷ []) ++ []) (length (steps ++ x ∷ [])) ≡ Some (id, start + frame.bits * tau)
      runs-joined =
          running-one tau streams now steps (x ∷ []) [] x same-found (h.fine (x ∷ []) awaited) ∙ h.runs (x ∷ []) awaited ∙ ap (λ b. runs_of tau b (x ∷ [])) joined

      held-joined-here : (m : ℕ) → IsHeld (steps ++ x ∷ []) at m (ring_of rings m)
      held-joined-here m = elim (bool_cases (id == m)) [
        | inl t ↦ subst (λ n. IsHeld (steps ++ x ∷ []) at n (ring_of rings n)) (true-eq id m t)
            (held-joined steps at event now at id frame (ring_of rings id) (let o = h.one_ahead id joins-it in omega (arith, o)) (h.held id))
        | inr f ↦ other-held m f
      ]

      pub queued-joined : Knows tau streams (steps ++ x ∷ []) (Sending id (start + frame.bits * tau)) at 1 (slice_set last id (Some event)) (slice_set marks id number) syncs (events_with id event events) rings waiting count
      queued-joined = record {
        tick = h.tick;
        last_is = now-one steps x;
        fine = λ ahead e. subst (KeepTheRules tau streams at (steps ++ x ∷ [])) (sym e) fine-joined;
        runs = λ ahead e. subst (λ (xs : List Step). running tau ((steps ++ x ∷ []) ++ xs) (length (steps ++ x ∷ [])) ≡ Some (id, start + frame.bits * tau)) (sym e) runs-joined;
        none_ahead = λ m n. elim (bool_cases (id == m)) [
          | inl t ↦ (let e = true-eq id m t in let s = count-kept (is_start m) steps x refl in let q = count-raised (is_queue m) steps x t in
              let o = h.one_ahead m (ap (joins bus) (sym e) ∙ joins-it) in omega (arith, s, q, o))
          | inr f ↦ (let s = count-kept (is_start m) steps x refl in let q = count-kept (is_queue m) steps x f in let l = h.none_ahead m (joins-other m f) in omega (arith, s, q, l))
        ];
        one_ahead = λ m t. absurd (cc);
        lasts = last-queue id at event frame last steps long h.lasts;
        unended = unended-here;
        hangs = λ ahead e. subst (λ (xs : List Step). AreKnown syncs ((steps ++ x ∷ []) ++ xs) (length (steps ++ x ∷ []))) (sym e)
            (syncs-after tau streams now at steps (x ∷ []) [] x le same-found (h.fine (x ∷ []) awaited) refl syncs (h.hangs (x ∷ []) awaited));
        marked = λ ahead e m j there synced v l. subst (λ (xs : List Step). HangsOn (sync_anchor ((steps ++ x ∷ []) ++ xs) (length (steps ++ x ∷ [])) v) (slice_index (slice_set marks id number) m)) (sym e)
            (marked-queue (x ∷ []) [] awaited same-found m j there synced v l);
        held = held-joined-here;
        listed = h.listed;
        known = known-queue;
        count = h.count ∙ sym (count-kept is_a_start steps x refl);
      }

  -- A start.
  module _ (id at : ℕ) (idle : bus ≡ Idle) (by : at ≤ now) (order : is_after now rank at 2 ≡ true) (passed : ArePassed waiting id) (is_known : is_some (stream_of streams id) ≡ true) where
    abbrev s : Step
    s = Start id at

    le-start : now ≤ at
    le-start = after-le now rank at 2 order

    in-order-start : is_in_order at steps (length steps) s ≡ true
    in-order-start = order-is at steps s now rank h.last_is order (omega arith)

    none-awaited : Awaits tau bus []
    none-awaited = subst (λ b. Awaits tau b []) (sym idle) refl

    runs-none : (more : List Step) → running tau (steps ++ s ∷ more) (length steps) ≡ None
    runs-none more =
        running-kept tau streams now steps [] (s ∷ more) (finds-more steps (s ∷ more)) (h.fine [] none-awaited) ∙ h.runs [] none-awaited ∙ ap (λ b. runs_of tau b []) idle

    even : (m : ℕ) → starts m steps ≤ queues m steps
    even m = h.none_ahead m (ap (λ b. joins b m) idle)

    -- it keeps the rules, where the instance that it sends is found
    here-start : (more : List Step) (y : Step) → nth_that (is_queue id) (starts id steps) (steps ++ s ∷ more) ≡ Some y → at_of y < at + tau → broken_by tau streams at (steps ++ s ∷ more) (length steps) s ≡ None
    here-start more y found soon =
        let xs = steps ++ s ∷ more in
        let n = length steps in
        let nth : nth_that (is_queue id) (count_to (is_start id) xs n) xs ≡ Some y = ap (λ j. nth_that (is_queue id) j xs) (count_to-more (is_start id) steps (s ∷ more) n (omega arith)) ∙ found in
        keeps-none tau streams at xs n s (record {
          order = order-more at steps (s ∷ more) s ∙ in-order-start;
          known = is_known;
          period = start-period (stream_of streams id) (last_event id xs n) xs n at id;
          in_time = start-time (stream_of streams id) xs n at id;
          of_length = start-length (stream_of streams id) at id;
          transfer = ap (λ v. fits_transfer v s) (runs-none more);
          to_send = and-true (any_waits xs n streams) (is_soon_queued tau at (nth_that (is_queue id) (count_to (is_start id) xs n) xs))
              (any_waits-more steps (s ∷ more) n streams (omega arith) ∙ some-waiting passed.one passed.waits)
              (ap (is_soon_queued tau at) nth ∙ lt-true (at_of y) (at + tau) soon);
          lowest = ap not (lower_waits-more steps (s ∷ more) n id streams (omega arith) ∙ none-below id passed.lower);
          not_idle = ap (λ v. is_not_idle streams xs n v at) (runs-none more) ∙ idle-more streams steps (s ∷ more) None at ∙ idle-is streams steps now rank at h.last_is (inl by);
        })

    runs-start : (more : List Step) (y : Step) → nth_that (is_queue id) (starts id steps) (steps ++ s ∷ more) ≡ Some y →
        running tau ((steps ++ s ∷ []) ++ more) (length (steps ++ s ∷ [])) ≡ Some (id, at + bits_of (Some y) * tau)
    runs-start more y found =
        let xs = steps ++ s ∷ more in
        let nth : nth_that (is_queue id) (count_to (is_start id) xs (length steps)) xs ≡ Some y = ap (λ j. nth_that (is_queue id) j xs) (count_to-more (is_start id) steps (s ∷ more) (length steps) (omega arith)) ∙ found in
        running-one tau streams now steps [] more s (finds-more steps (s ∷ more)) (h.fine [] none-awaited) ∙ ap (λ o. Some (id, at + bits_of o * tau)) nth

    fine-start : (more : List Step) (y : Step) → nth_that (is_queue id) (starts id steps) (steps ++ s ∷ more) ≡ Some y → at_of y < at + tau → KeepTheRules tau streams at (steps ++ s ∷ []) more
    fine-start more y found soon = fine-one tau streams now at steps [] more s le-start (finds-more steps (s ∷ more)) (h.fine [] none-awaited) (here-start more y found soon)

    other-held-start : (m : ℕ) → (id == m) ≡ false → IsHeld (steps ++ s ∷ []) at m (ring_of rings m)
    other-held-start m f = held-other steps s now at m (ring_of rings m) le-start refl f (h.held m)

    known-start : (m : ℕ) → 0 < queues m (steps ++ s ∷ []) → is_some (stream_of streams m) ≡ true
    known-start m l = h.known m (let c = count-kept (is_queue m) steps s refl in omega (arith, c, l))

    last-start : (m : ℕ) → last_event m (steps ++ s ∷ []) (length (steps ++ s ∷ [])) ≡ last_event m steps (length steps)
    last-start m = ap (last_event m (steps ++ s ∷ [])) (length-one steps s) ∙ last_event-here m steps s []

    hangs-start : (more : List Step) → AreKnown syncs ((steps ++ s ∷ []) ++ more) (length (steps ++ s ∷ []))
    hangs-start more = syncs-after tau streams now at steps [] more s le-start (finds-more steps (s ∷ more)) (h.fine [] none-awaited) refl syncs (h.hangs [] none-awaited)

    marked-start : (more : List Step) (m : ℕ) (j : Stream) → stream_of streams m ≡ Some j → 1 ≤ j.every → (v : ℕ) → last_event m (steps ++ s ∷ []) (length (steps ++ s ∷ [])) ≡ Some v → HangsOn (sync_anchor ((steps ++ s ∷ []) ++ more) (length (steps ++ s ∷ [])) v) (slice_index marks m)
    marked-start more m j there synced v e =
        hang-after tau streams now at steps [] more s le-start (finds-more steps (s ∷ more)) (h.fine [] none-awaited) refl v (slice_index marks m) (h.marked [] none-awaited m j there synced v (sym (last-start m) ∙ e))

    count-start : count + 1 ≡ sent (steps ++ s ∷ [])
    count-start = let c = count-raised is_a_start steps s refl in let e = h.count in omega (arith, c, e)

    -- of an instance that waits
    module _ (bits : ℕ) (rings' : List (List ℕ)) (waiting' : BTreeSet ℕ) (ring_there : id < length rings) (l : Leaves rings rings' waiting waiting' id bits) where
      held-first : IsHeld steps now id (bits ∷ l.rest)
      held-first = subst (IsHeld steps now id) l.first (h.held id)

      queued-first : IsQueued steps now id (starts id steps + 0) bits
      queued-first = held-first.each 0 (omega arith)

      abbrev y : Step
      y = Queue id queued-first.at queued-first.event queued-first.frame

      found-first : nth_that (is_queue id) (starts id steps) (steps ++ s ∷ []) ≡ Some y
      found-first =
          let zero' : starts id steps + 0 ≡ starts id steps = omega arith in
          ap (λ j. nth_that (is_queue id) j (steps ++ s ∷ [])) (sym zero') ∙ nth_that-more (is_queue id) (starts id steps + 0) steps (s ∷ []) y queued-first.there

      soon-first : at_of y < at + tau
      soon-first = let b = queued-first.by_now in let t = h.tick in let o = le-start in omega (arith, b, t, o)

      ring-left : ring_of rings' id ≡ l.rest
      ring-left = ap (λ (rs : List (List ℕ)). ring_of rs id) l.ring ∙ ring-same rings id l.rest ring_there

      ring-beside : (m : ℕ) → (id == m) ≡ false → ring_of rings' m ≡ ring_of rings m
      ring-beside m f = ap (λ (rs : List (List ℕ)). ring_of rs m) l.ring ∙ ring-other rings id m l.rest (λ e. apart id m f (sym e))

      was-listed : contains nat_cmp waiting id ≡ true
      was-listed = h.listed id ∙ lt-true 0 (length (ring_of rings id)) (let e = ap (λ (xs : List ℕ). length xs) l.first in omega (arith, e))

      held-after : (m : ℕ) → IsHeld (steps ++ s ∷ []) at m (ring_of rings' m)
      held-after m = elim (bool_cases (id == m)) [
        | inl t ↦ subst (λ n. IsHeld (steps ++ s ∷ []) at n (ring_of rings' n)) (true-eq id m t)
            (subst (IsHeld (steps ++ s ∷ []) at id) (sym ring-left) (held-started steps at now at id bits l.rest le-start held-first))
        | inr f ↦ subst (IsHeld (steps ++ s ∷ []) at m) (sym (ring-beside m f)) (other-held-start m f)
      ]

      listed-after : (m : ℕ) → contains nat_cmp waiting' m ≡ nat_lt 0 (length (ring_of rings' m))
      listed-after m = l.listed was-listed m ∙ elim (bool_cases (id == m)) [
        | inl t ↦ ap (λ b. cond b (nat_lt 0 (length l.rest)) (contains nat_cmp waiting m)) t ∙ ap (λ (xs : List ℕ). nat_lt 0 (length xs)) (sym ring-left ∙ ap (ring_of rings') (true-eq id m t))
        | inr f ↦ ap (λ b. cond b (nat_lt 0 (length l.rest)) (contains nat_cmp waiting m)) f ∙ h.listed m ∙ ap (λ (xs : List ℕ). nat_lt 0 (length xs)) (sym (ring-beside m f))
      ]

      even-after : (m : ℕ) → starts m (steps ++ s ∷ []) ≤ queues m (steps ++ s ∷ [])
      even-after m = elim (bool_cases (id == m)) [
        | inl t ↦ (let e = true-eq id m t in let c = count-raised (is_start m) steps s t in let q = count-kept (is_queue m) steps s refl in
            let w = held-first.count in let r : queues id steps - starts id steps ≡ queues m steps - starts m steps = ap (λ n. queues n steps - starts n steps) e in omega (arith, c, q, w, r))
        | inr f ↦ (let c = count-kept (is_start m) steps s f in let q = count-kept (is_queue m) steps s refl in let v = even m in omega (arith, c, q, v))
      ]

      ends : at + bits_of (Some y) * tau ≡ at + bits * tau
      ends = ap (λ n. at + n * tau) queued-first.long

      pub started-first : Knows tau streams (steps ++ s ∷ []) (Sending id (at + bits * tau)) at 2 last marks syncs events rings' waiting' (count + 1)
      started-first = record {
        tick = h.tick;
        last_is = now-one steps s;
        fine = λ ahead e. subst (KeepTheRules tau streams at (steps ++ s ∷ [])) (sym e) (fine-start [] y found-first soon-first);
        runs = λ ahead e. subst (λ (xs : List Step). running tau ((steps ++ s ∷ []) ++ xs) (length (steps ++ s ∷ [])) ≡ Some (id, at + bits * tau)) (sym e) (runs-start [] y found-first ∙ ap (λ n. Some (id, n)) ends);
        none_ahead = λ m f. even-after m;
        one_ahead = λ m t. absurd (cc);
        lasts = last-kept s last steps (λ k v. refl) h.lasts;
        unended = unended-other steps s events refl refl h.unended;
        hangs = λ ahead a. hangs-start ahead;
        marked = λ ahead a. marked-start ahead;
        held = held-after;
        listed = listed-after;
        known = known-start;
        count = count-start;
      }

    -- of a joiner
    module _ (rings' : List (List ℕ)) (waiting' : BTreeSet ℕ) (l : Stays rings rings' waiting waiting' id) where
      held-none : IsHeld steps now id []
      held-none = subst (IsHeld steps now id) l.none (h.held id)

      as-many : starts id steps ≡ queues id steps
      as-many = let c = held-none.count in let e = even id in omega (arith, c, e)

      found-joiner : (ahead : List Step) (a : IsJoiner tau id at ahead) → nth_that (is_queue id) (starts id steps) (steps ++ s ∷ ahead) ≡ Some (Queue id a.at a.event a.frame)
      found-joiner ahead a =
          let j = Queue id a.at a.event a.frame in
          let xs = (steps ++ s ∷ []) ++ j ∷ [] in
          let its = eq-true id id refl in
          let here = step_at-here (steps ++ s ∷ []) j [] in
          let low = length-one (steps ++ s ∷ []) j in
          let t = nth_that-at (is_queue id) xs (length (steps ++ s ∷ [])) (omega (arith, low)) (ap (is_queue id) here ∙ its) in
          let c : count_to (is_queue id) xs (length (steps ++ s ∷ [])) ≡ starts id steps =
          count_to-more (is_queue id) (steps ++ s ∷ []) (j ∷ []) (length (steps ++ s ∷ [])) (omega arith) ∙ count-kept (is_queue id) steps s refl ∙ sym as-many in
          let there : nth_that (is_queue id) (starts id steps) xs ≡ Some j = ap (λ n. nth_that (is_queue id) n xs) (sym c) ∙ t ∙ ap Some here in
          let same : steps ++ s ∷ ahead ≡ xs = ap (λ t. steps ++ s ∷ t) a.is ∙ sym (one-more steps s (j ∷ [])) in
          ap (nth_that (is_queue id) (starts id steps)) same ∙ there

      runs-joiner : (ahead : List Step) (a : IsJoiner tau id at ahead) → running tau ((steps ++ s ∷ []) ++ ahead) (length (steps ++ s ∷ [])) ≡ runs_of tau (Joining id at) ahead
      runs-joiner ahead a = runs-start ahead (Queue id a.at a.event a.frame) (found-joiner ahead a) ∙ ap (runs_of tau (Joining id at)) (sym a.is)

      held-joiner-here : (m : ℕ) → IsHeld (steps ++ s ∷ []) at m (ring_of rings m)
      held-joiner-here m = elim (bool_cases (id == m)) [
        | inl t ↦ subst (λ n. IsHeld (steps ++ s ∷ []) at n (ring_of rings n)) (true-eq id m t)
            (subst (IsHeld (steps ++ s ∷ []) at id) (sym l.none) (held-joiner steps at now at id held-none))
        | inr f ↦ other-held-start m f
      ]

      pub started-joiner : Knows tau streams (steps ++ s ∷ []) (Joining id at) at 2 last marks syncs events rings' waiting' (count + 1)
      started-joiner = record {
        tick = h.tick;
        last_is = now-one steps s;
        fine = λ ahead a. fine-start ahead (Queue id a.at a.event a.frame) (found-joiner ahead a) a.soon;
        runs = λ ahead a. runs-joiner ahead a;
        none_ahead = λ m f. (let c = count-kept (is_start m) steps s f in let q = count-kept (is_queue m) steps s refl in let v = even m in omega (arith, c, q, v));
        one_ahead = λ m t. (let c = count-raised (is_start m) steps s t in let q = count-kept (is_queue m) steps s refl in
            let v : starts m steps ≡ queues m steps = subst (λ n. starts n steps ≡ queues n steps) (true-eq id m t) as-many in omega (arith, c, q, v));
        lasts = last-kept s last steps (λ k v. refl) h.lasts;
        unended = unended-other steps s events refl refl h.unended;
        hangs = λ ahead a. hangs-start ahead;
        marked = λ ahead a. marked-start ahead;
        held = λ m. subst (λ (rs : List (List ℕ)). IsHeld (steps ++ s ∷ []) at m (ring_of rs m)) (sym l.rings) (held-joiner-here m);
        listed = λ m. l.listed m ∙ h.listed m ∙ ap (λ (rs : List (List ℕ)). nat_lt 0 (length (ring_of rs m))) (sym l.rings);
        known = known-start;
        count = count-start;
      }

  -- An end.
  module _ (id at : ℕ) (sends : bus ≡ Sending id at) (order : is_after now rank at 0 ≡ true) (is_known : is_some (stream_of streams id) ≡ true) where
    abbrev e : Step
    e = End id at

    none-awaited-end : Awaits tau bus []
    none-awaited-end = subst (λ b. Awaits tau b []) (sym sends) refl

    runs-it : running tau (steps ++ e ∷ []) (length steps) ≡ Some (id, at)
    runs-it = running-kept tau streams now steps [] (e ∷ []) (finds-more steps (e ∷ [])) (h.fine [] none-awaited-end) ∙ h.runs [] none-awaited-end ∙ ap (λ b. runs_of tau b []) sends

    here-end : broken_by tau streams at (steps ++ e ∷ []) (length steps) e ≡ None
    here-end =
        let xs = steps ++ e ∷ [] in
        let n = length steps in
        keeps-none tau streams at xs n e (record {
          order = order-more at steps (e ∷ []) e ∙ order-is at steps e now rank h.last_is order (omega arith);
          known = is_known;
          period = end-period (stream_of streams id) (last_event id xs n) xs n at id;
          in_time = end-time (stream_of streams id) xs n at id;
          of_length = end-length (stream_of streams id) at id;
          transfer = ap (λ v. fits_transfer v e) runs-it ∙ and-true (id == id) (at == at) (eq-true id id refl) (eq-true at at refl);
          to_send = refl;
          lowest = refl;
          not_idle = ap (λ v. is_not_idle streams xs n v at) runs-it ∙ runs-idle streams xs n at (id, at);
        })

    runs-end : running tau ((steps ++ e ∷ []) ++ []) (length (steps ++ e ∷ [])) ≡ None
    runs-end = running-one tau streams now steps [] [] e (finds-more steps (e ∷ [])) (h.fine [] none-awaited-end)

    last-end : (m : ℕ) → last_event m (steps ++ e ∷ []) (length (steps ++ e ∷ [])) ≡ last_event m steps (length steps)
    last-end m = ap (last_event m (steps ++ e ∷ [])) (length-one steps e) ∙ last_event-here m steps e []

    ended : (syncs' : Syncs) (events' : List ℕ) → AreUnended (steps ++ e ∷ []) events' → AreKnown syncs' ((steps ++ e ∷ []) ++ []) (length (steps ++ e ∷ [])) →
        ((v mark : ℕ) → HangsOn (sync_anchor (steps ++ []) (length steps) v) mark → HangsOn (sync_anchor ((steps ++ e ∷ []) ++ []) (length (steps ++ e ∷ [])) v) mark) →
        Knows tau streams (steps ++ e ∷ []) Idle at 0 last marks syncs' events' rings waiting count
    ended syncs' events' unended' hangs' hang = record {
      tick = h.tick;
      last_is = now-one steps e;
      fine = λ ahead a. subst (KeepTheRules tau streams at (steps ++ e ∷ [])) (sym a) (fine-one tau streams now at steps [] [] e (after-le now rank at 0 order) (finds-more steps (e ∷ [])) (h.fine [] none-awaited-end) here-end);
      runs = λ ahead a. subst (λ (xs : List Step). running tau ((steps ++ e ∷ []) ++ xs) (length (steps ++ e ∷ [])) ≡ None) (sym a) runs-end;
      none_ahead = λ m f. (let c = count-kept (is_start m) steps e refl in let q = count-kept (is_queue m) steps e refl in let v = h.none_ahead m (ap (λ b. joins b m) sends) in omega (arith, c, q, v));
      one_ahead = λ m t. absurd (cc);
      lasts = last-kept e last steps (λ k v. refl) h.lasts;
      unended = unended';
      hangs = λ ahead a. subst (λ (xs : List Step). AreKnown syncs' ((steps ++ e ∷ []) ++ xs) (length (steps ++ e ∷ []))) (sym a) hangs';
      marked = λ ahead a m j there synced v l. subst (λ (xs : List Step). HangsOn (sync_anchor ((steps ++ e ∷ []) ++ xs) (length (steps ++ e ∷ [])) v) (slice_index marks m)) (sym a)
          (hang v (slice_index marks m) (h.marked [] none-awaited-end m j there synced v (sym (last-end m) ∙ l)));
      held = λ m. held-other steps e now at m (ring_of rings m) (after-le now rank at 0 order) refl refl (h.held m);
      listed = h.listed;
      known = λ m l. h.known m (let c = count-kept (is_queue m) steps e refl in omega (arith, c, l));
      count = h.count ∙ sym (count-kept is_a_start steps e refl);
    }

    pub ended-other : (id == sync_id) ≡ false → Knows tau streams (steps ++ e ∷ []) Idle at 0 last marks syncs events rings waiting count
    ended-other f =
        let le = after-le now rank at 0 order in
        ended syncs events (unended-other steps e events refl f h.unended) (syncs-after tau streams now at steps [] [] e le (finds-more steps (e ∷ [])) (h.fine [] none-awaited-end) f syncs (h.hangs [] none-awaited-end))
        (hang-after tau streams now at steps [] [] e le (finds-more steps (e ∷ [])) (h.fine [] none-awaited-end) f)

  -- The end of a SYNC.
  module _ (at : ℕ) (sends : bus ≡ Sending sync_id at) (order : is_after now rank at 0 ≡ true) (is_known : is_some (stream_of streams sync_id) ≡ true) where
    none-awaited-sync : Awaits tau bus []
    none-awaited-sync = subst (λ b. Awaits tau b []) (sym sends) refl

    ends-so : (event : ℕ) (rest : List ℕ) → events ≡ event ∷ rest → (newest' : Newest) → EndsLast event syncs.newest at newest' → IsNewest newest' ((steps ++ End sync_id at ∷ []) ++ []) (length (steps ++ End sync_id at ∷ []))
    ends-so event rest its Nothing w = absurd w
    ends-so event rest its (Sync s) w =
        let first = unended-first steps event rest (subst (AreUnended steps) its h.unended) in
        let next = newest-next tau streams now steps at (h.fine [] none-awaited-sync) event first syncs.newest s.mark (subst (λ v. IsBehind syncs.newest v s.mark) w.0 w.2) (h.hangs [] none-awaited-sync).newest in
        let same : IsSync ((steps ++ End sync_id at ∷ []) ++ []) (length (steps ++ End sync_id at ∷ [])) event s.mark s.from = subst (IsSync ((steps ++ End sync_id at ∷ []) ++ []) (length (steps ++ End sync_id at ∷ [])) event s.mark) (sym w.1) next in
        subst (λ v. IsSync ((steps ++ End sync_id at ∷ []) ++ []) (length (steps ++ End sync_id at ∷ [])) v s.mark s.from) (sym w.0) same

    pub ended-sync : (events' : List ℕ) (syncs' : Syncs) → EndsFirst events events' syncs at syncs' → Knows tau streams (steps ++ End sync_id at ∷ []) Idle at 0 last marks syncs' events' rings waiting count
    ended-sync events' syncs' w =
        let newest = ends-so w.event events' w.first syncs'.newest w.ends.newest in
        ended sync_id at sends order is_known syncs' events' (unended-ended steps at w.event events' (subst (AreUnended steps) w.first h.unended))
        (record { newest = newest; recent = λ s on. recalled s (w.ends.recent s on); none = none-has })
        (hang-next tau streams now steps at (h.fine [] none-awaited-sync))
      where
        recalled : (s : EndedSync) → IsAmong syncs s → sync_anchor ((steps ++ End sync_id at ∷ []) ++ []) (length (steps ++ End sync_id at ∷ [])) s.event ≡ Some (record { mark = s.mark; from = s.from })
        recalled s on = recent-next tau streams now steps at (h.fine [] none-awaited-sync) s.event s.mark s.from (among (steps ++ []) (length steps) syncs s (h.hangs [] none-awaited-sync) on)

        none-before : (v : ℕ) → IsNoSync syncs' v → IsNoSync syncs v
        none-before v lacks = record {
          recalled = λ s on same. elim (w.ends.kept s on) [ inl there ↦ lacks.recalled s there same | inr gone ↦ lacks.later (subst (IsForgotten syncs'.forgotten) same gone) ];
          later = λ gone. lacks.later (w.ends.forgotten v gone);
        }

        other : (v : ℕ) → IsNoSync syncs' v → (newest' : Newest) → syncs'.newest ≡ newest' → EndsLast w.event syncs.newest at newest' → w.event ≡ v → ⊥
        other v lacks Nothing is last same = absurd last
        other v lacks (Sync s) is last same = lacks.recalled s (inl is) (last.0 ∙ same)

        none-has : (v : ℕ) → IsNoSync syncs' v → sync_anchor ((steps ++ End sync_id at ∷ []) ++ []) (length (steps ++ End sync_id at ∷ [])) v ≡ None
        none-has v lacks =
            anchor-other tau streams now steps at (h.fine [] none-awaited-sync) w.event (unended-first steps w.event events' (subst (AreUnended steps) w.first h.unended)) v (other v lacks syncs'.newest refl w.ends.newest)
            ((h.hangs [] none-awaited-sync).none v (none-before v lacks))
