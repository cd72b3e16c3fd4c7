-- What the check has found out is that the refusal holds.
use Rattle.std.proofs.Common.{◌≡◌, ◌↔◌, ℕ, ◌<◌, Bool, List, length, get_or, All, AllPairs, sym, ap, subst, IsTrue}
use Rattle.cop_frame.specs.declared.rates.Rate.{Rate}
use Rattle.cop_rta.specs.declared.streams.Stream.{Stream}
use Rattle.cop_rta.specs.Test.{StreamPlace, place_among, is_flagged, flagged_place}
use Rattle.cop_cert.specs.declared.refusals.Evidence.{Evidence}
use Rattle.cop_cert.specs.declared.refusals.Member.{Member}
use Rattle.cop_rta.proofs.IdentifierLemmas.{of_stream_at}
use Rattle.cop_cert.specs.Assignments.{id_at}
use Rattle.cop_cert.specs.Sets.{is_in_trial}
use Rattle.cop_cert.specs.Evidence.{IsEvidence, is_member, pdos_of, AreFailing}

-- each member has evidence where a test says what is above
abbrev pub AllShown : Rate → List Stream → List Member → (ℕ → Bool) → Type 0
AllShown rate streams members above = All (λ m. IsEvidence (place_among streams above m.pdo rate) m.evidence) members

pub shown_iff : (bound : ℕ) (rate : Rate) (streams : List Stream) (pdos : ℕ) (members : List Member) (flags : List Bool) (b : Bool)
    → ((k : ℕ) → is_flagged flags k ≡ is_in_trial bound streams pdos (is_member members) k)
    → AllPairs (λ m n. m < n) (pdos_of members) × All (λ m. m < pdos) (pdos_of members)
    → (IsTrue b ↔ All (λ m. IsEvidence (flagged_place streams flags m.pdo rate) m.evidence) members)
    → IsTrue b ↔ AreFailing bound rate streams pdos members
shown_iff bound rate streams pdos members flags b same rise shown =
    let e : is_flagged flags ≡ is_in_trial bound streams pdos (is_member members) = λ i k. same k i in (
      λ t. record {
        rise = rise.0;
        inside = rise.1;
        evidence = subst (AllShown rate streams members) e (shown.0 t);
      },
      λ h. shown.1 (subst (AllShown rate streams members) (sym e) h.evidence),
    )

-- flags that are a trial's make its place
pub place_is : (rate : Rate) (streams : List Stream) (flags : List Bool) (above : ℕ → Bool) (index : ℕ) → ((k : ℕ) → is_flagged flags k ≡ above k)
    → flagged_place streams flags index rate ≡ place_among streams above index rate
place_is rate streams flags above index same =
    let e : is_flagged flags ≡ above = λ i k. same k i in ap (λ (test : ℕ → Bool). place_among streams test index rate) e

-- so evidence is of that place
pub evidence_iff : (rate : Rate) (streams : List Stream) (flags : List Bool) (above : ℕ → Bool) (index : ℕ) (e : Evidence) (b : Bool) → ((k : ℕ) → is_flagged flags k ≡ above k)
    → (IsTrue b ↔ IsEvidence (flagged_place streams flags index rate) e) → IsTrue b ↔ IsEvidence (place_among streams above index rate) e
evidence_iff rate streams flags above index e b same shown =
    let is = place_is rate streams flags above index same in
    (λ t. subst (λ (p : StreamPlace). IsEvidence p e) is (shown.0 t), λ h. shown.1 (subst (λ (p : StreamPlace). IsEvidence p e) (sym is) h))

-- flags by the identifier of a frame, as it stands in the list, and as the set has it
pub frame_flags : (streams : List Stream) (pdos frame : ℕ) (d : Stream) (flags : List Bool) (members : ℕ → Bool) → frame < length streams
    → ((k : ℕ) → is_flagged flags k ≡ is_in_trial (get_or streams frame d).id streams pdos members k) → (k : ℕ) → is_flagged flags k ≡ is_in_trial (id_at streams frame) streams pdos members k
frame_flags streams pdos frame d flags members inside same k =
    subst (λ (n : ℕ). is_flagged flags k ≡ is_in_trial n streams pdos members k) (sym (of_stream_at streams frame d inside)) (same k)
