-- Each TPDO that may have a row has one.
use Rattle.std.proofs.Common.{◌≡◌, ℕ, zero, suc, ◌+◌, ◌<◌, ◌≤◌, ◌⊎◌, inl, inr, Bool, true, false, ◌&&◌, ◌||◌, ◌==◌, List, [], ◌∷◌, ◌++◌, length, take, slice_get, refl, ap, ◌∙◌, arith, Some}
use Rattle.std.specs.List.{list_any}
use Rattle.std.proofs.lemmas.List.{take_all}
use Rattle.std.proofs.lemmas.List.Folds.{list_any-append}
use Rattle.std.proofs.lemmas.Bool.{eq-eqb, ne_eqb, cases_eq}
use Rattle.cop_dict.specs.Find.{Entry}
use Rattle.cop_rows.specs.PdoReading.{is_named}
use Rattle.cop_written.specs.Sound.{pdo_rows}
use Rattle.cop_start.specs.declared.offers.Offer.{Offer}
use Rattle.cop_start.specs.declared.offers.Offer.TheVariants.{Absent, Off, Unmapped, Untimed, Sends}
use Rattle.cop_start.specs.declared.senders.Sender.{Sender}
use Rattle.cop_start.specs.declared.receivers.Receiver.{Receiver}
use Rattle.cop_start.specs.Start.{Device, Rise, AreSources}
use Rattle.cop_start.specs.Offers.{offer_of}
use Rattle.cop_start.specs.Senders.{each_to, sender_by, sender_at, device_senders, senders_of, receivers_of}
use Rattle.cop_start.specs.Rows.{rows_from, rows_of, may_have_row}

-- some of these is this TPDO
has : ℕ → ℕ → List Sender → Bool
has node tpdo senders = list_any (λ s. (s.node == node) && (s.tpdo == tpdo)) senders

rows_have : (devices : List Device) (all : List Sender) (receivers : List Receiver) (kept : List Sender) (node tpdo : ℕ) → is_named (pdo_rows (rows_from devices all receivers kept)) node tpdo ≡ has node tpdo kept
unfolding has
rows_have devices all receivers [] node tpdo = refl
rows_have devices all receivers (s ∷ kept) node tpdo = ap (λ b. ((s.node == node) && (s.tpdo == tpdo)) || b) (rows_have devices all receivers kept node tpdo)

-- the one of a number
own : (node : ℕ) (dict : List Entry) (tpdo : ℕ) (offer : Offer) → has node tpdo (sender_by node dict tpdo offer) ≡ may_have_row offer
unfolding has
own node dict tpdo Absent = refl
own node dict tpdo Off = refl
own node dict tpdo Unmapped = refl
own node dict tpdo Untimed = refl
own node dict tpdo (Sends id every) = rw (eq-eqb node node refl, eq-eqb tpdo tpdo refl) refl

-- that of another number, or of another node
other_number : (node : ℕ) (dict : List Entry) (tpdo number : ℕ) (offer : Offer) → (number ≡ tpdo → ⊥) → has node tpdo (sender_by node dict number offer) ≡ false
unfolding has
other_number node dict tpdo number Absent h = refl
other_number node dict tpdo number Off h = refl
other_number node dict tpdo number Unmapped h = refl
other_number node dict tpdo number Untimed h = refl
other_number node dict tpdo number (Sends id every) h = rw (eq-eqb node node refl, ne_eqb number tpdo h) refl

other_node : (node first : ℕ) (dict : List Entry) (tpdo number : ℕ) (offer : Offer) → (first ≡ node → ⊥) → has node tpdo (sender_by first dict number offer) ≡ false
unfolding has
other_node node first dict tpdo number Absent h = refl
other_node node first dict tpdo number Off h = refl
other_node node first dict tpdo number Unmapped h = refl
other_node node first dict tpdo number Untimed h = refl
other_node node first dict tpdo number (Sends id every) h = rw (ne_eqb first node h) refl

both : (node tpdo : ℕ) (senders more : List Sender) → has node tpdo (senders ++ more) ≡ (has node tpdo senders || has node tpdo more)
unfolding has
both node tpdo senders more = list_any-append (λ s. (s.node == node) && (s.tpdo == tpdo)) senders more

or_false : (b : Bool) → (b || false) ≡ b
or_false true = refl
or_false false = refl

-- those of a device up to a number
none_below : (node : ℕ) (dict : List Entry) (tpdo n : ℕ) → n < tpdo → has node tpdo (each_to (sender_at node dict) n) ≡ false
unfolding each_to has
none_below node dict tpdo zero lt = refl
none_below node dict tpdo (suc n) lt =
    rw (both node tpdo (each_to (sender_at node dict) n) (sender_at node dict (n + 1)), none_below node dict tpdo n (omega (arith, lt)), other_number node dict tpdo (n + 1) (offer_of dict (n + 1)) (λ e. omega (arith, e, lt))) refl

own_below : (node : ℕ) (dict : List Entry) (tpdo n : ℕ) → 1 ≤ tpdo → tpdo ≤ n → has node tpdo (each_to (sender_at node dict) n) ≡ may_have_row (offer_of dict tpdo)
unfolding each_to
own_below node dict tpdo zero low high = absurd (omega arith)
own_below node dict tpdo (suc n) low high = by (cases_eq (n + 1) tpdo) (λ le. own_below node dict tpdo n low le)
  where
    by : (n + 1 ≡ tpdo) ⊎ (n + 1 ≡ tpdo → ⊥) → (tpdo ≤ n → has node tpdo (each_to (sender_at node dict) n) ≡ may_have_row (offer_of dict tpdo))
        → has node tpdo (each_to (sender_at node dict) n ++ sender_at node dict (n + 1)) ≡ may_have_row (offer_of dict tpdo)
    by (inl e) before =
        rw (both node tpdo (each_to (sender_at node dict) n) (sender_at node dict (n + 1)), none_below node dict tpdo n (omega (arith, e)), e)
        (own node dict tpdo (offer_of dict tpdo))
    by (inr ne) before =
        rw (
          both node tpdo (each_to (sender_at node dict) n) (sender_at node dict (n + 1)),
          other_number node dict tpdo (n + 1) (offer_of dict (n + 1)) ne,
          or_false (has node tpdo (each_to (sender_at node dict) n)),
        ) (before (omega (arith, high, ne)))

none_of_other : (node first : ℕ) (dict : List Entry) (tpdo n : ℕ) → (first ≡ node → ⊥) → has node tpdo (each_to (sender_at first dict) n) ≡ false
unfolding each_to has
none_of_other node first dict tpdo zero ne = refl
none_of_other node first dict tpdo (suc n) ne =
    rw (both node tpdo (each_to (sender_at first dict) n) (sender_at first dict (n + 1)), none_of_other node first dict tpdo n ne, other_node node first dict tpdo (n + 1) (offer_of dict (n + 1)) ne) refl

-- no device behind a node has it
none_behind : (node behind tpdo : ℕ) (devices : List Device) → node ≤ behind → Rise behind devices → has node tpdo (senders_of devices) ≡ false
unfolding has
none_behind node behind tpdo [] le rise = refl
none_behind node behind tpdo (d ∷ devices) le rise =
    rw (
      both node tpdo (device_senders d.node d.dict) (senders_of devices),
      none_of_other node d.node d.dict tpdo 512 (λ e. omega (arith, e, le, rise.0)),
      none_behind node d.node tpdo devices (omega (arith, le, rise.0)) rise.2,
    ) refl

-- the node of each is behind the number that they rise from
is_behind : (behind place : ℕ) (devices : List Device) (d : Device) → Rise behind devices → slice_get devices place ≡ Some d → behind < d.node
is_behind behind place [] d rise e = cc e
is_behind behind zero (x ∷ devices) d rise e = let same : x ≡ d = cc e in rw (← same) rise.0
is_behind behind (suc place) (x ∷ devices) d rise e = omega (arith, rise.0, is_behind x.node place devices d rise.2 e)

all_have : (behind place tpdo : ℕ) (devices : List Device) (d : Device) → Rise behind devices → slice_get devices place ≡ Some d → 1 ≤ tpdo → tpdo ≤ 512
    → has d.node tpdo (senders_of devices) ≡ may_have_row (offer_of d.dict tpdo)
all_have behind place tpdo [] d rise e low high = cc e
all_have behind zero tpdo (x ∷ devices) d rise e low high =
    let same : x ≡ d = cc e in
    rw (
      ← same,
      both x.node tpdo (device_senders x.node x.dict) (senders_of devices),
      own_below x.node x.dict tpdo 512 low high,
      none_behind x.node x.node tpdo devices (omega arith) rise.2,
      or_false (may_have_row (offer_of x.dict tpdo)),
    ) refl
all_have behind (suc place) tpdo (x ∷ devices) d rise e low high =
    let later : x.node < d.node = is_behind x.node place devices d rise.2 e in
    rw (
      both d.node tpdo (device_senders x.node x.dict) (senders_of devices),
      none_of_other d.node x.node x.dict tpdo 512 (λ h. omega (arith, h, later)),
    ) (all_have x.node place tpdo devices d rise.2 e low high)

pub sender_has_row : (devices : List Device) (place tpdo : ℕ) (d : Device) → AreSources devices → length (senders_of devices) ≤ 512 → slice_get devices place ≡ Some d → 1 ≤ tpdo → tpdo ≤ 512
    → is_named (pdo_rows (rows_of devices)) d.node tpdo ≡ may_have_row (offer_of d.dict tpdo)
sender_has_row devices place tpdo d sources few e low high =
    let kept : take 512 (senders_of devices) ≡ senders_of devices = take_all 512 (senders_of devices) few in
    rows_have devices (senders_of devices) (receivers_of devices) (take 512 (senders_of devices)) d.node tpdo
    ∙ rw kept (all_have 0 place tpdo devices d sources.nodes e low high)
