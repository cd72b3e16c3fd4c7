-- The short form of a refusal: of each member that is late the queue list ends at the first number that is past the deadline.
use Rattle.std.specs.Prelude.{◌≡◌, ℕ, ◌+◌, ◌-◌, ◌*◌, ◌<◌, ◌≤◌, Bool, false, nat_lt, nat_le, if◌then◌else◌, List, [], ◌∷◌, length, map, All, Result, Ok, MatchOption}
use Rattle.std.specs.Option.{option_map_or}
use Rattle.cop_frame.specs.declared.rates.Rate.{Rate}
use Rattle.cop_rta.specs.declared.streams.Stream.{Stream}
use Rattle.cop_rta.specs.Ranges.{first_range, second_range}
use Rattle.cop_rta.specs.Test.{StreamPlace, cost_at, jitter_at, period_at, deadline_at}
use Rattle.cop_cert.specs.declared.refusals.Cause.{Cause}
use Rattle.cop_cert.specs.declared.refusals.Cause.TheVariants.{Places, Sync, Sdo}
use Rattle.cop_cert.specs.declared.refusals.Evidence.{Evidence}
use Rattle.cop_cert.specs.declared.refusals.Evidence.TheVariants.{Long, Late}
use Rattle.cop_cert.specs.declared.refusals.Member.{Member}
use Rattle.cop_cert.specs.declared.refusals.Refusal.{Refusal}
use Rattle.cop_cert.specs.Causes.{IsRefusal}
use Rattle.cop_cert.specs.Evidence.{is_member, pdos_of}
use Rattle.cop_cert.specs.Format.{text_of, shared_text_of}
use Rattle.cop_cert.specs.Reading.{refusals_of}
use Rattle.cop_cert.specs.Sets.{trial}

-- an instance that waits so long responds past the deadline
abbrev pub is_past : StreamPlace → ℕ → ℕ → Bool
is_past p q wait = option_map_or (λ d. nat_lt d (jitter_at p + wait + cost_at p - q * period_at p)) (deadline_at p) false

-- the numbers of a list up to the first of which a test holds, or all
unfoldable pub up_to : (ℕ → Bool) → List ℕ → List ℕ
up_to test [] = []
up_to test (n ∷ more) = n ∷ (if test n then [] else up_to test more)

abbrev pub short_evidence : StreamPlace → Evidence → Evidence
short_evidence p (Long busy) = Long busy
short_evidence p (Late q busy queue) = Late q busy (up_to (is_past p q) queue)

-- a member of a trial
abbrev pub short_member : (ℕ → StreamPlace) → Member → Member
short_member place m = record { pdo = m.pdo; evidence = short_evidence (place m.pdo) m.evidence }

abbrev pub short_members : ℕ → Rate → List Stream → ℕ → List Member → List Member
short_members bound rate streams pdos members = map (short_member (trial bound rate streams pdos (is_member members))) members

-- the evidence of SYNC and of an SDO frame, of which a cause has one, stays whole
abbrev pub short_cause : Rate → List Stream → ℕ → Cause → Cause
short_cause rate streams pdos (Places members) = Places (short_members first_range.least rate streams pdos members)
short_cause rate streams pdos (Sync busy) = Sync busy
short_cause rate streams pdos (Sdo up id evidence) = Sdo (short_members second_range.least rate streams pdos up) id evidence

abbrev pub shortened : List Stream → ℕ → Refusal → Refusal
shortened streams pdos r = record { rate = r.rate; cause = short_cause r.rate streams pdos r.cause }

-- the members of a cause are PDOs
abbrev pub AreInside : ℕ → Cause → Type 0
AreInside pdos (Places members) = All (λ m. m < pdos) (pdos_of members)
AreInside pdos (Sync busy) = Unit {0}
AreInside pdos (Sdo up id evidence) = All (λ m. m < pdos) (pdos_of up)

-- the most bytes of a text with whole lists: 64 MiB
abbrev pub most_bytes : ℕ
most_bytes = 67108864

-- The refusals that a file has: as they are while their text is at most 64 MiB, and else in their short form.
abbrev pub filed : List Stream → ℕ → List Refusal → List Refusal
filed streams pdos refusals = if nat_le (length (text_of refusals)) most_bytes then refusals else map (shortened streams pdos) refusals

-- the text of the file: of the first or second version while it is at most 64 MiB, and else of the third
abbrev pub file_of : List Stream → ℕ → List Refusal → List ℕ
file_of streams pdos refusals =
    if nat_le (length (text_of refusals)) most_bytes then text_of refusals else shared_text_of (map (shortened streams pdos) refusals)

-- a text that is found where it is within the limit
abbrev pub IsTextWithin : List Refusal → List ℕ → Type 0
IsTextWithin refusals text = (text ≡ text_of refusals) × (length text ≤ most_bytes)
