-- The greatest refusal of a rate is one: the causes exclude one another, and each is one.
use Rattle.std.proofs.Common.{◌≡◌, ℕ, ◌<◌, ◌≤◌, ◌⊎◌, inl, inr, Bool, List, refl, ap, sym, ◌∙◌, subst, arith}
use Rattle.std.proofs.lemmas.Bool.{cases_lt}
use Rattle.cop_frame.specs.declared.rates.Rate.{Rate}
use Rattle.cop_rta.specs.declared.streams.Stream.{Stream}
use Rattle.cop_rta.specs.Ranges.{first_range, second_range}
use Rattle.cop_rta.specs.Streams.{AreDistinct}
use Rattle.cop_rta.specs.Test.{Passes}
use Rattle.cop_cert.specs.declared.refusals.Cause.{Cause}
use Rattle.cop_cert.specs.declared.refusals.Cause.TheVariants.{Places, Sync, Sdo}
use Rattle.cop_cert.specs.declared.refusals.Evidence.{Evidence}
use Rattle.cop_cert.specs.declared.refusals.Member.{Member}
use Rattle.cop_cert.specs.declared.refusals.Refusal.{Refusal}
use Rattle.cop_cert.specs.Assignments.{id_at}
use Rattle.cop_cert.specs.Causes.{kept, PassesBelow, IsPlacesRefusal, IsSdoRefusal, IsCause}
use Rattle.cop_cert.specs.Chains.{IsMadeCause}
use Rattle.cop_cert.specs.Evidence.{is_member, pdos_of, IsEvidence}
use Rattle.cop_cert.specs.Sets.{trial, IsGreatestRefusalSet}
use Rattle.cop_cert.proofs.CauseLemmas.{places_are_set, sync_refusal_is_long}
use Rattle.cop_cert.proofs.EvidenceLemmas.{evidence_fails}
use Rattle.cop_cert.proofs.SetLemmas.{member_inside}
use Rattle.cop_plan.specs.Plans.{IsGreatestSdo, IsGreatestCause, IsGreatestRefusal}
use Rattle.cop_plan.proofs.ListsOnce.{numbers_once}
use Rattle.cop_plan.proofs.OnceLemmas.{made_members_once, sync_list_once, frame_evidence_once}

-- what a greatest refusal says of its cause
record IsGreatestAt (rate : Rate) (streams : List Stream) (pdos : ℕ) (c : Cause) : Type 0 where
  greatest : IsGreatestCause rate streams pdos c
  made : IsMadeCause rate streams pdos c
  holds : IsCause rate streams pdos c

module _ (rate : Rate) (streams : List Stream) (pdos : ℕ) where
  -- the greatest of two refusal sets has the members of both
  places_same : (ms ns : List Member) → IsGreatestRefusalSet first_range.least rate streams pdos (is_member ms) → IsGreatestRefusalSet first_range.least rate streams pdos (is_member ns)
      → IsPlacesRefusal rate streams pdos ms → IsPlacesRefusal rate streams pdos ns → pdos_of ms ≡ pdos_of ns
  places_same ms ns a b x y =
      numbers_once (pdos_of ms) (pdos_of ns) x.failing.rise y.failing.rise
      (λ k m. b.greatest (is_member ms) a.is k (member_inside pdos ms x.failing.inside k m) m)
      (λ k m. a.greatest (is_member ns) b.is k (member_inside pdos ns y.failing.inside k m) m)

  -- and so has the greatest of two stuck sets of the second range
  upper_same : (up others : List Member) (id other : ℕ) (e g : Evidence) → IsGreatestSdo rate streams pdos up id → IsGreatestSdo rate streams pdos others other
      → IsSdoRefusal rate streams pdos up id e → IsSdoRefusal rate streams pdos others other g → pdos_of up ≡ pdos_of others
  upper_same up others id other e g a b x y = go (cases_lt second_range.count pdos)
    where
      go : (second_range.count < pdos) ⊎ (pdos ≤ second_range.count) → pdos_of up ≡ pdos_of others
      go (inl many) = ap pdos_of (x.none many ∙ sym (y.none many))
      go (inr few) =
          numbers_once (pdos_of up) (pdos_of others) x.failing.rise y.failing.rise
          (λ k m. (b.greatest few).greatest (is_member up) (a.greatest few).stuck (a.greatest few).within k (member_inside pdos up x.failing.inside k m) m)
          (λ k m. (a.greatest few).greatest (is_member others) (b.greatest few).stuck (b.greatest few).within k (member_inside pdos others y.failing.inside k m) m)

  -- a frame with evidence fails, so none has a lower identifier than the lowest
  frame_fails : (above : ℕ → Bool) (id f : ℕ) (evidence : Evidence) → id_at streams f ≡ id → IsEvidence (trial id rate streams pdos above f) evidence
      → PassesBelow rate streams pdos above f → ⊥
  frame_fails above id f evidence its shown passes =
      evidence_fails (trial id rate streams pdos above f) evidence shown (subst (λ (n : ℕ). Passes (trial n rate streams pdos above f)) its passes)

  no_lower : (up : List Member) (id other : ℕ) (g : Evidence) → IsGreatestSdo rate streams pdos up id → IsSdoRefusal rate streams pdos up other g → id ≤ other
  no_lower up id other g a y =
      subst (λ (n : ℕ). id ≤ n) y.its (a.lowest y.frame y.tested (frame_fails (kept pdos (is_member up)) other y.frame g y.its y.fails))

  module _ (distinct : AreDistinct streams) where
    evidence_same : (up : List Member) (id : ℕ) (e g : Evidence) → IsGreatestAt rate streams pdos (Sdo up id e) → IsGreatestAt rate streams pdos (Sdo up id g)
        → ◌≡◌ {A = Cause} (Sdo up id e) (Sdo up id g)
    evidence_same up id e g x y = rw (frame_evidence_once streams pdos rate up id e g distinct x.made y.made) refl

    frame_same : (up : List Member) (id other : ℕ) (e g : Evidence) → IsGreatestAt rate streams pdos (Sdo up id e) → IsGreatestAt rate streams pdos (Sdo up other g)
        → ◌≡◌ {A = Cause} (Sdo up id e) (Sdo up other g)
    frame_same up id other e g x y =
        let same : other ≡ id = omega (arith, no_lower up id other g x.greatest y.holds, no_lower up other id e y.greatest x.holds) in
        rw same (evidence_same up id e g x (subst (λ (n : ℕ). IsGreatestAt rate streams pdos (Sdo up n g)) same y))

    sdo_same : (up others : List Member) (id other : ℕ) (e g : Evidence) → IsGreatestAt rate streams pdos (Sdo up id e) → IsGreatestAt rate streams pdos (Sdo others other g)
        → ◌≡◌ {A = Cause} (Sdo up id e) (Sdo others other g)
    sdo_same up others id other e g x y =
        let same : others ≡ up =
        made_members_once second_range.least streams pdos rate others up (sym (upper_same up others id other e g x.greatest y.greatest x.holds y.holds)) y.made.0 x.made.0 in
        rw same (frame_same up id other e g x (subst (λ (members : List Member). IsGreatestAt rate streams pdos (Sdo members other g)) same y))

    cause_once : (c d : Cause) → IsGreatestAt rate streams pdos c → IsGreatestAt rate streams pdos d → c ≡ d
    cause_once (Places ms) (Places ns) x y = ap Places (made_members_once first_range.least streams pdos rate ms ns (places_same ms ns x.greatest y.greatest x.holds y.holds) x.made y.made)
    cause_once (Places ms) (Sync busy) x y = absurd (x.holds.not_long (sync_refusal_is_long rate streams pdos busy y.holds))
    cause_once (Places ms) (Sdo up id e) x y = absurd (y.greatest.none (is_member ms) (places_are_set rate streams pdos ms x.holds))
    cause_once (Sync busy) (Places ms) x y = absurd (y.holds.not_long (sync_refusal_is_long rate streams pdos busy x.holds))
    cause_once (Sync busy) (Sync other) x y = ap Sync (sync_list_once streams pdos rate busy other x.made y.made)
    cause_once (Sync busy) (Sdo up id e) x y = absurd (y.holds.not_long (sync_refusal_is_long rate streams pdos busy x.holds))
    cause_once (Sdo up id e) (Places ms) x y = absurd (x.greatest.none (is_member ms) (places_are_set rate streams pdos ms y.holds))
    cause_once (Sdo up id e) (Sync busy) x y = absurd (x.holds.not_long (sync_refusal_is_long rate streams pdos busy y.holds))
    cause_once (Sdo up id e) (Sdo others other g) x y = sdo_same up others id other e g x y

-- ---- refusals

make_refusal : Rate → Cause → Refusal
make_refusal rate cause = record { rate = rate; cause = cause }

refusal_same : (r s : Refusal) → r.rate ≡ s.rate → r.cause ≡ s.cause → r ≡ s
unfolding make_refusal
refusal_same r s a b =
    let made : make_refusal r.rate r.cause ≡ make_refusal s.rate s.cause = rw (a, b) refl in
    made

pub greatest_once : (streams : List Stream) (pdos : ℕ) → AreDistinct streams → (r s : Refusal) → IsGreatestRefusal streams pdos r → IsGreatestRefusal streams pdos s
    → r.rate ≡ s.rate → r ≡ s
greatest_once streams pdos distinct r s a b e =
    let at_own : IsGreatestAt r.rate streams pdos r.cause = record { greatest = a.greatest; made = a.made; holds = a.holds } in
    let mine : IsGreatestAt s.rate streams pdos r.cause = subst (λ (rate : Rate). IsGreatestAt rate streams pdos r.cause) e at_own in
    refusal_same r s e (cause_once s.rate streams pdos distinct r.cause s.cause mine (record { greatest = b.greatest; made = b.made; holds = b.holds }))
