-- The rows of PDOs are those that a table takes.
use Rattle.std.proofs.Common.{◌≡◌, ℕ, zero, suc, ◌+◌, ◌*◌, ◌%◌, ◌^◌, ◌<◌, ◌≤◌, ◌⊎◌, inl, inr, Bool, true, false, ◌==◌, if◌then◌else◌, List, [], ◌∷◌, ◌++◌, length, take, refl, ap, arith, Option, Some, None}
use Rattle.std.specs.List.{AllByRecursion}
use Rattle.std.proofs.lemmas.List.{length-take}
use Rattle.std.proofs.lemmas.Bool.{eqb-false}
use native.Mathlib.Nat.{min-le_left, min-le_right, le-min}
use Rattle.std.proofs.Math.Nat.{mul-pos}
use Rattle.cop_dict.specs.Find.{Entry}
use Rattle.cop_dict.specs.Pdo.{cob_id_at, exists_by}
use Rattle.cop_rows.specs.Pdos.{IsConsumer}
use Rattle.cop_rows.specs.declared.pdo_table.Consumer.{Consumer}
use Rattle.cop_written.specs.Sound.{AreRows}
use Rattle.cop_start.specs.declared.offers.Offer.{Offer}
use Rattle.cop_start.specs.declared.offers.Offer.TheVariants.{Absent, Off, Unmapped, Untimed, Sends}
use Rattle.cop_start.specs.declared.senders.Sender.{Sender}
use Rattle.cop_start.specs.declared.receivers.Receiver.{Receiver}
use Rattle.cop_start.specs.Start.{Device, Rise, AreSources}
use Rattle.cop_start.specs.Offers.{offer_of, inhibit_of, timer_of, at_most_a_minute, period_of}
use Rattle.cop_start.specs.Senders.{each_to, sender_by, sender_at, senders_of, receiver_by, receiver_at, receivers_of}
use Rattle.cop_start.specs.Frames.{sync_period_of}
use Rattle.cop_start.specs.Rows.{takes, is_first, consumers_by, deadline_of, rows_from, rows_of}
use Rattle.cop_start.proofs.FrameLemmas.{sync_good}

-- ---- times

minute : (least micros : ℕ) → least ≤ micros → least ≤ 60000000 → (least ≤ at_most_a_minute micros) × (at_most_a_minute micros ≤ 60000000)
minute least micros low high = (le-min low high, min-le_right micros 60000000)

-- the period of a TPDO that is sent by SYNC is 0, and else one that a table takes
IsPeriod : ℕ → ℕ → Type 0
IsPeriod every period = ((every == 0) ≡ false → period ≡ 0) × ((every == 0) ≡ true → (100 ≤ period) × (period ≤ 60000000))

some : (n : ℕ) → (n == 0) ≡ false → 1 ≤ n
some zero h = absurd (eqb-false 0 0 h refl)
some (suc n) h = omega arith

period_good : (dict : List Entry) (tpdo every : ℕ) → IsPeriod every (period_of dict tpdo every)
unfolding IsPeriod
period_good dict tpdo every = by (every == 0) (inhibit_of dict tpdo == 0) (timer_of dict tpdo == 0) refl refl refl
  where
    by : (a b c : Bool) → (every == 0) ≡ a → (inhibit_of dict tpdo == 0) ≡ b → (timer_of dict tpdo == 0) ≡ c → IsPeriod every (period_of dict tpdo every)
    by false b c ea eb ec = (λ h. rw ea refl, λ h. cc (ea, h))
    by true false c ea eb ec = (λ h. cc (ea, h), λ h. rw (ea, eb) (minute 100 (inhibit_of dict tpdo * 100) (omega (arith, some (inhibit_of dict tpdo) eb)) (omega arith)))
    by true true false ea eb ec = (λ h. cc (ea, h), λ h. rw (ea, eb, ec) (minute 100 (timer_of dict tpdo * 1000) (omega (arith, some (timer_of dict tpdo) ec)) (omega arith)))
    by true true true ea eb ec = (λ h. cc (ea, h), λ h. rw (ea, eb, ec) (omega arith, omega arith))

-- ---- senders by rising node and number

place : Sender → ℕ
place s = 512 * s.node + s.tpdo

record IsSender (behind : ℕ) (s : Sender) : Type 0 where
  rises : behind < place s
  node_least : 1 ≤ s.node
  node_most : s.node ≤ 127
  tpdo_least : 1 ≤ s.tpdo
  tpdo_most : s.tpdo ≤ 512
  period : IsPeriod s.every s.period

AreSenders : ℕ → ℕ → List Sender → Type 0
AreSenders behind last [] = behind ≤ last
AreSenders behind last (s ∷ senders) = IsSender behind s × AreSenders (place s) last senders

less : (low behind last : ℕ) (senders : List Sender) → low ≤ behind → AreSenders behind last senders → AreSenders low last senders
unfolding AreSenders
less low behind last [] le h = omega (arith, le, h)
less low behind last (s ∷ senders) le h =
    (record { rises = omega (arith, le, h.0.rises); node_least = h.0.node_least; node_most = h.0.node_most; tpdo_least = h.0.tpdo_least; tpdo_most = h.0.tpdo_most; period = h.0.period }, h.1)

both : (behind middle last : ℕ) (senders more : List Sender) → AreSenders behind middle senders → AreSenders middle last more → AreSenders behind last (senders ++ more)
unfolding AreSenders
both behind middle last [] more h k = less behind middle last more h k
both behind middle last (s ∷ senders) more h k = (h.0, both (place s) middle last senders more h.1 k)

one_sender : (node : ℕ) (dict : List Entry) (tpdo : ℕ) (offer : Offer) → 1 ≤ node → node ≤ 127 → tpdo + 1 ≤ 512
    → AreSenders (512 * node + tpdo) (512 * node + (tpdo + 1)) (sender_by node dict (tpdo + 1) offer)
unfolding AreSenders place
one_sender node dict tpdo Absent low high most = omega arith
one_sender node dict tpdo Off low high most = omega arith
one_sender node dict tpdo Unmapped low high most = omega arith
one_sender node dict tpdo Untimed low high most = omega arith
one_sender node dict tpdo (Sends id every) low high most =
    (record { rises = omega arith; node_least = low; node_most = high; tpdo_least = omega arith; tpdo_most = most; period = period_good dict (tpdo + 1) every }, omega arith)

each_sender : (node : ℕ) (dict : List Entry) (n : ℕ) → 1 ≤ node → node ≤ 127 → n ≤ 512
    → AreSenders (512 * node) (512 * node + n) (each_to (sender_at node dict) n)
unfolding each_to AreSenders
each_sender node dict zero low high most = omega arith
each_sender node dict (suc n) low high most =
    let last : 512 * node + (n + 1) ≡ 512 * node + suc n = omega arith in
    let one = rw last at (one_sender node dict n (offer_of dict (n + 1)) low high (omega (arith, most))) in
    both (512 * node) (512 * node + n) (512 * node + suc n) _ _ (each_sender node dict n low high (omega (arith, most))) one

all_senders : (behind : ℕ) (devices : List Device) → behind ≤ 127 → Rise behind devices → AreSenders (512 * behind + 512) (512 * 128) (senders_of devices)
unfolding AreSenders
all_senders behind [] most rise = omega (arith, most)
all_senders behind (d ∷ devices) most rise =
    let own = each_sender d.node d.dict 512 (omega (arith, rise.0)) rise.1 (omega arith) in
    both (512 * behind + 512) (512 * d.node + 512) (512 * 128) _ _
    (less (512 * behind + 512) (512 * d.node) (512 * d.node + 512) _ (omega (arith, rise.0)) own) (all_senders d.node devices rise.1 rise.2)

-- ---- consumers

IsReceiver : Receiver → Type 0
IsReceiver r = IsConsumer (record { node = r.node; rpdo = r.rpdo })

all_both : {X : Type 0} (P : X → Type 0) (xs ys : List X) → AllByRecursion P xs → AllByRecursion P ys → AllByRecursion P (xs ++ ys)
all_both P [] ys h k = k
all_both P (x ∷ xs) ys h k = (h.0, all_both P xs ys h.1 k)

receiver_by_bool : (node rpdo id : ℕ) (b : Bool) → 1 ≤ node → node ≤ 127 → 1 ≤ rpdo → rpdo ≤ 512
    → AllByRecursion IsReceiver (if b then record { node = node; rpdo = rpdo; id = id } ∷ [] else [])
unfolding IsReceiver
receiver_by_bool node rpdo id true a b c d = (record { node_least = a; node_most = b; rpdo_least = c; rpdo_most = d }, tt)
receiver_by_bool node rpdo id false a b c d = tt

one_receiver : (node rpdo : ℕ) (o : Option ℕ) → 1 ≤ node → node ≤ 127 → 1 ≤ rpdo → rpdo ≤ 512 → AllByRecursion IsReceiver (receiver_by node rpdo o)
one_receiver node rpdo None a b c d = tt
one_receiver node rpdo (Some cob_id) a b c d = receiver_by_bool node rpdo (cob_id % 2 ^ 30) (exists_by cob_id) a b c d

each_receiver : (node : ℕ) (dict : List Entry) (n : ℕ) → 1 ≤ node → node ≤ 127 → n ≤ 512 → AllByRecursion IsReceiver (each_to (receiver_at node dict) n)
unfolding each_to
each_receiver node dict zero low high most = tt
each_receiver node dict (suc n) low high most =
    all_both IsReceiver _ _ (each_receiver node dict n low high (omega (arith, most))) (one_receiver node (n + 1) (cob_id_at dict (0x13FF + (n + 1))) low high (omega arith) (omega (arith, most)))

all_receivers : (behind : ℕ) (devices : List Device) → Rise behind devices → AllByRecursion IsReceiver (receivers_of devices)
all_receivers behind [] rise = tt
all_receivers behind (d ∷ devices) rise =
    all_both IsReceiver _ _ (each_receiver d.node d.dict 512 (omega (arith, rise.0)) rise.1 (omega arith)) (all_receivers d.node devices rise.2)

consumer_by : (b : Bool) (r : Receiver) (cs : List Consumer) → IsReceiver r → AllByRecursion IsConsumer cs → AllByRecursion IsConsumer (if b then record { node = r.node; rpdo = r.rpdo } ∷ cs else cs)
unfolding IsReceiver
consumer_by true r cs h k = (h, k)
consumer_by false r cs h k = k

consumers_good : (devices : List Device) (s : Sender) (receivers : List Receiver) → AllByRecursion IsReceiver receivers → AllByRecursion IsConsumer (consumers_by devices s receivers)
consumers_good devices s [] h = tt
consumers_good devices s (r ∷ receivers) h = consumer_by (takes devices s r) r _ h.0 (consumers_good devices s receivers h.1)

first_or_none : (b : Bool) (cs : List Consumer) → AllByRecursion IsConsumer cs → AllByRecursion IsConsumer (if b then cs else [])
first_or_none true cs h = h
first_or_none false cs h = tt

-- ---- rows

deadline_good : (sync : ℕ) (s : Sender) (b : Bool) → 100 ≤ sync → (s.every == 0) ≡ b → IsPeriod s.every s.period → (1 ≤ deadline_of sync s) × (deadline_of sync s ≤ 60000000)
unfolding IsPeriod
deadline_good sync s true least e h = let own = h.1 e in rw e (omega (arith, own.0), own.1)
deadline_good sync s false least e h = rw e (minute 1 (s.every * sync) (omega (arith, mul-pos {m = s.every} {n = sync} (omega (arith, some s.every e)) (omega (arith, least)))) (omega arith))

row_period : (s : Sender) (b : Bool) → (s.every == 0) ≡ b → IsPeriod s.every s.period → (s.period ≡ 0) ⊎ ((100 ≤ s.period) × (s.period ≤ 60000000))
unfolding IsPeriod
row_period s true e h = inr (h.1 e)
row_period s false e h = inl (h.0 e)

rows_sound : (devices : List Device) (all : List Sender) (receivers : List Receiver) (behind last : ℕ) (kept : List Sender) → AllByRecursion IsReceiver receivers → AreSenders behind last kept
    → AreRows behind (rows_from devices all receivers kept)
unfolding AreSenders place
rows_sound devices all receivers behind last [] good h = tt
rows_sound devices all receivers behind last (s ∷ kept) good h =
    let deadline = deadline_good (sync_period_of devices) s (s.every == 0) (sync_good devices).0 refl h.0.period in (
      record {
        rises = h.0.rises;
        node_least = h.0.node_least;
        node_most = h.0.node_most;
        tpdo_least = h.0.tpdo_least;
        tpdo_most = h.0.tpdo_most;
        period = row_period s (s.every == 0) refl h.0.period;
        deadline_least = deadline.0;
        deadline_most = deadline.1;
        consumers = first_or_none (is_first all s) _ (consumers_good devices s receivers good);
      },
      rows_sound devices all receivers (place s) last kept good h.1,
    )

-- the first of them rise too
taken_rise : (n behind last : ℕ) (senders : List Sender) → AreSenders behind last senders → (top : ℕ) × AreSenders behind top (take n senders)
unfolding AreSenders
taken_rise zero behind last senders h = (behind, omega arith)
taken_rise (suc n) behind last [] h = (last, h)
taken_rise (suc n) behind last (s ∷ senders) h = let more = taken_rise n (place s) last senders h.1 in (more.0, (h.0, more.1))

pub sound_rows : (devices : List Device) → AreSources devices → AreRows 0 (rows_of devices)
sound_rows devices h =
    let rise = less 0 512 (512 * 128) (senders_of devices) (omega arith) (all_senders 0 devices (omega arith) h.nodes) in
    let kept = taken_rise 512 0 _ (senders_of devices) rise in
    rows_sound devices (senders_of devices) (receivers_of devices) 0 kept.0 (take 512 (senders_of devices)) (all_receivers 0 devices h.nodes) kept.1

count_rows : (devices : List Device) (all : List Sender) (receivers : List Receiver) (kept : List Sender) → length (rows_from devices all receivers kept) ≡ length kept
count_rows devices all receivers [] = refl
count_rows devices all receivers (s ∷ kept) = ap suc (count_rows devices all receivers kept)

pub few_rows : (devices : List Device) → length (rows_of devices) ≤ 512
few_rows devices =
    rw (count_rows devices (senders_of devices) (receivers_of devices) (take 512 (senders_of devices)), length-take 512 (senders_of devices)) (min-le_left 512 (length (senders_of devices)))
