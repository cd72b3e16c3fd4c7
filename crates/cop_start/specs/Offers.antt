-- What the TPDOs of a device are good for before any plan (CiA 301, "PDO communication parameter record"), and from where periods come.
use Rattle.std.specs.Prelude.{ℕ, ◌+◌, ◌*◌, ◌%◌, ◌^◌, min, List, ◌==◌, if◌then◌else◌, Option, Some, None, unwrap_or, Result, Ok, Err}
use Rattle.cop_dict.specs.declared.mapping.Mapped.{Mapped}
use Rattle.cop_dict.specs.declared.mapping.MappingFault.{MappingFault}
use Rattle.cop_dict.specs.declared.mapping.Direction.TheVariants.{Transmit}
use Rattle.cop_dict.specs.Find.{Entry}
use Rattle.cop_dict.specs.Pdo.{cob_id_at, exists_by}
use Rattle.cop_pdo.specs.Payload.{payload_of}
use Rattle.cop_net.specs.Pdos.{every_at}
use Rattle.cop_warn.specs.Warnings.{natural_at}
use Rattle.cop_start.specs.declared.offers.Offer.{Offer}
use Rattle.cop_start.specs.declared.offers.Offer.TheVariants.{Absent, Off, Unmapped, Untimed, Sends}
use Rattle.cop_start.specs.declared.offers.Pace.{Pace}
use Rattle.cop_start.specs.declared.offers.Pace.TheVariants as paces

-- a transmission type that plans take, or none
abbrev pub offer_by_type : ℕ → Option ℕ → Offer
offer_by_type cob_id None = Untimed
offer_by_type cob_id (Some every) = Sends (cob_id % 2 ^ 30) every

-- a mapping that can be used, or none
abbrev pub offer_by_payload : List Entry → ℕ → ℕ → Result (List Mapped) MappingFault → Offer
offer_by_payload dict tpdo cob_id (Err fault) = Unmapped
offer_by_payload dict tpdo cob_id (Ok entries) = offer_by_type cob_id (every_at dict (0x17FF + tpdo))

abbrev pub offer_by_cob_id : List Entry → ℕ → Option ℕ → Offer
offer_by_cob_id dict tpdo None = Absent
offer_by_cob_id dict tpdo (Some cob_id) = if exists_by cob_id then offer_by_payload dict tpdo cob_id (payload_of dict Transmit tpdo) else Off

-- what a TPDO is good for: it is there, exists, has a payload, and a type that plans take
abbrev pub offer_of : List Entry → ℕ → Offer
offer_of dict tpdo = offer_by_cob_id dict tpdo (cob_id_at dict (0x17FF + tpdo))

-- the inhibit time in units of 100 microseconds, and the event timer in milliseconds; 0 where there is none
abbrev pub inhibit_of : List Entry → ℕ → ℕ
inhibit_of dict tpdo = unwrap_or (natural_at dict (0x17FF + tpdo) 3) 0

abbrev pub timer_of : List Entry → ℕ → ℕ
timer_of dict tpdo = unwrap_or (natural_at dict (0x17FF + tpdo) 5) 0

-- from where the period of a TPDO's row comes, which is sent after so many SYNCs, 0 for events
abbrev pub pace_of : List Entry → ℕ → ℕ → Pace
pace_of dict tpdo every =
    if every == 0 then (if inhibit_of dict tpdo == 0 then (if timer_of dict tpdo == 0 then paces.Guess else paces.Timer) else paces.Inhibit)
    else paces.Sync

-- so many microseconds, at most a minute
abbrev pub at_most_a_minute : ℕ → ℕ
at_most_a_minute micros = min micros 60000000

-- the period in microseconds by where it comes from
abbrev pub period_by : List Entry → ℕ → Pace → ℕ
period_by dict tpdo paces.Sync = 0
period_by dict tpdo paces.Inhibit = at_most_a_minute (inhibit_of dict tpdo * 100)
period_by dict tpdo paces.Timer = at_most_a_minute (timer_of dict tpdo * 1000)
period_by dict tpdo paces.Guess = 100000

abbrev pub period_of : List Entry → ℕ → ℕ → ℕ
period_of dict tpdo every = period_by dict tpdo (pace_of dict tpdo every)
