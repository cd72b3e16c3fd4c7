-- The short form of a refusal that holds holds, and a file may hold it.
use Rattle.std.proofs.Common.{◌≡◌, ℕ, suc, ◌+◌, ◌-◌, ◌*◌, ◌<◌, ◌≤◌, ◌^◌, Bool, true, false, nat_lt, if◌then◌else◌, List, [], ◌∷◌, ◌++◌, length, map, All, AllPairs, Option, Some, None, Result, IfOk, refl, sym, ap, subst, ◌∙◌, arith, append_assoc, append-nil}
use Rattle.std.specs.Option.{option_map_or, IsSomeAnd}
use Rattle.std.proofs.lemmas.Bool.{ltb-true}
use Rattle.std.proofs.lemmas.List.{length-map, get_or-map}
use Rattle.std.proofs.lemmas.List.Elements.{All-head, All-tail, All-nil, All-cons}
use Rattle.cop_frame.specs.declared.rates.Rate.{Rate}
use Rattle.cop_rta.specs.declared.streams.Stream.{Stream}
use Rattle.cop_rta.specs.Ranges.{first_range, second_range}
use Rattle.cop_rta.specs.Test.{StreamPlace, place_among, is_flagged, flagged_place, queueing_at, cost_at, jitter_at, period_at, deadline_at, IsLate}
use Rattle.cop_cert.specs.declared.refusals.Cause.{Cause}
use Rattle.cop_cert.specs.declared.refusals.Cause.TheVariants.{Places, Sync, Sdo}
use Rattle.cop_cert.specs.declared.refusals.Evidence.{Evidence}
use Rattle.cop_cert.specs.declared.refusals.Evidence.TheVariants.{Long, Late}
use Rattle.cop_cert.specs.declared.refusals.Member.{Member}
use Rattle.cop_cert.specs.declared.refusals.Refusal.{Refusal}
use Rattle.cop_cert.specs.Causes.{kept, IsPlacesRefusal, IsSdoRefusal, IsCause, IsRefusal}
use Rattle.cop_cert.specs.Evidence.{Climbs, IsClimb, first_of, last_after, last_of, IsEvidence, is_listed, pdos_of, is_member, AreFailing}
use Rattle.cop_cert.specs.Sets.{is_in_trial, trial}
use Rattle.cop_cert.specs.Short.{is_past, up_to, short_evidence, short_member, short_members, short_cause, shortened, AreInside}
use Rattle.cop_cert.specs.Writable.{IsWritableList, IsWritableEvidence, AreWritableMembers, IsWritableCause, IsWritableRefusal}

-- ---- a list that is read number by number

module _ (test : ℕ → Bool) (short more whole : List ℕ) (n : ℕ) where
  pub goes_on : short ++ up_to test (n ∷ more) ≡ whole → test n ≡ false → (short ++ n ∷ []) ++ up_to test more ≡ whole
  unfolding up_to
  goes_on h e = append_assoc short (n ∷ []) (up_to test more) ∙ (rw e at h)

  pub stops : (rest : List ℕ) → rest ≡ n ∷ more → short ++ up_to test rest ≡ whole → test n ≡ true → short ++ n ∷ [] ≡ whole
  unfolding up_to
  stops rest is h e = rw e at (rw is at h)

pub ends : (test : ℕ → Bool) (short rest whole : List ℕ) → length rest ≡ 0 → short ++ up_to test rest ≡ whole → short ≡ whole
unfolding up_to
ends test short [] whole none h = sym (append-nil short) ∙ h
ends test short (n ∷ more) whole none h = absurd (omega (arith, none))

-- ---- lists that end earlier

module _ (test : ℕ → Bool) where
  climbs_up_to : (f : ℕ → ℕ) (a : ℕ) (rest : List ℕ) → Climbs f a rest → Climbs f a (up_to test rest)
  unfolding Climbs up_to
  climbs_up_to f a [] h = tt
  climbs_up_to f a (b ∷ rest) h = (h.0, h.1, go (test b) (climbs_up_to f b rest h.2))
    where
      go : (c : Bool) → Climbs f b (up_to test rest) → Climbs f b (if c then [] else up_to test rest)
      go true k = tt
      go false k = k

  climb_up_to : (f : ℕ → ℕ) (numbers : List ℕ) → IsClimb f numbers → IsClimb f (up_to test numbers)
  unfolding Climbs up_to
  climb_up_to f [] h = h
  climb_up_to f (a ∷ rest) h = go (test a)
    where
      go : (c : Bool) → Climbs f a (if c then [] else up_to test rest)
      go true = tt
      go false = climbs_up_to f a rest h

  first_up_to : (numbers : List ℕ) → first_of (up_to test numbers) ≡ first_of numbers
  unfolding up_to
  first_up_to [] = refl
  first_up_to (a ∷ rest) = refl

  module _ (P : ℕ → Type 0) (its : (n : ℕ) → test n ≡ true → P n) where
    last_cut : (a : ℕ) (rest : List ℕ) → P (last_after a rest) → P (last_after a (if test a then [] else up_to test rest))
    unfolding last_after up_to
    last_cut a [] h = go (test a) refl
      where
        go : (c : Bool) → test a ≡ c → P (last_after a (if c then [] else []))
        go true e = h
        go false e = h
    last_cut a (b ∷ rest) h = go (test a) refl (last_cut b rest h)
      where
        go : (c : Bool) → test a ≡ c → P (last_after a (up_to test (b ∷ rest))) → P (last_after a (if c then [] else up_to test (b ∷ rest)))
        go true e k = its a e
        go false e k = k

    last_up_to : (numbers : List ℕ) → P (last_of numbers) → P (last_of (up_to test numbers))
    unfolding up_to
    last_up_to [] h = h
    last_up_to (a ∷ rest) h = last_cut a rest h

  all_up_to : (P : ℕ → Type 0) (numbers : List ℕ) → All P numbers → All P (up_to test numbers)
  unfolding up_to
  all_up_to P [] h = h
  all_up_to P (a ∷ rest) h = go (test a) (all_up_to P rest (All-tail P a rest h))
    where
      go : (c : Bool) → All P (up_to test rest) → All P (a ∷ (if c then [] else up_to test rest))
      go true k = All-cons P a [] (All-head P a rest h) (All-nil P)
      go false k = All-cons P a (up_to test rest) (All-head P a rest h) k

  length_up_to : (numbers : List ℕ) → length (up_to test numbers) ≤ length numbers
  unfolding up_to
  length_up_to [] = omega arith
  length_up_to (a ∷ rest) = go (test a) (length_up_to rest)
    where
      go : (c : Bool) → length (up_to test rest) ≤ length rest → length (a ∷ (if c then [] else up_to test rest)) ≤ length (a ∷ rest)
      go true less = omega arith
      go false less = omega (arith, less)

  some_up_to : (numbers : List ℕ) → 0 < length numbers → 0 < length (up_to test numbers)
  unfolding up_to
  some_up_to [] h = h
  some_up_to (a ∷ rest) h = omega arith

-- ---- evidence

past_late : (o : Option ℕ) (r : ℕ) → option_map_or (λ d. nat_lt d r) o false ≡ true → IsSomeAnd o (λ d. d < r)
past_late None r e = cc
past_late (Some d) r e = ltb-true d r e

short_shows : (p : StreamPlace) (e : Evidence) → IsEvidence p e → IsEvidence p (short_evidence p e)
short_shows p (Long busy) h = h
short_shows p (Late q busy queue) h = record {
  list = h.list;
  reached = h.reached;
  waits = record { climbs = climb_up_to (is_past p q) (queueing_at p q) queue h.waits.climbs; begins = rw (first_up_to (is_past p q) queue) h.waits.begins };
  late = last_up_to (is_past p q) (λ w. IsLate p (jitter_at p + w + cost_at p - q * period_at p)) (λ w e. past_late (deadline_at p) (jitter_at p + w + cost_at p - q * period_at p) e) queue h.late;
}

short_list : (test : ℕ → Bool) (numbers : List ℕ) → IsWritableList numbers → IsWritableList (up_to test numbers)
short_list test numbers h = record {
  some = some_up_to test numbers h.some;
  count = let less = length_up_to test numbers in omega (arith, less, h.count);
  fit = all_up_to test (λ n. n < 2 ^ 64) numbers h.fit;
}

short_writable : (p : StreamPlace) (e : Evidence) → IsWritableEvidence e → IsWritableEvidence (short_evidence p e)
short_writable p (Long busy) h = h
short_writable p (Late q busy queue) h = (h.0, h.1, short_list (is_past p q) queue h.2)

-- ---- members

module _ (place : ℕ → StreamPlace) where
  pub pdos_same : (members : List Member) → pdos_of (map (short_member place) members) ≡ pdos_of members
  pdos_same [] = refl
  pdos_same (m ∷ members) = ap (λ ps. m.pdo ∷ ps) (pdos_same members)

  all_short : (P Q : Member → Type 0) → ((m : Member) → P m → Q (short_member place m)) → (members : List Member) → All P members → All Q (map (short_member place) members)
  all_short P Q each [] h = All-nil Q
  all_short P Q each (m ∷ members) h =
      All-cons Q (short_member place m) (map (short_member place) members) (each m (All-head P m members h)) (all_short P Q each members (All-tail P m members h))

failing_short : (bound : ℕ) (rate : Rate) (streams : List Stream) (pdos : ℕ) (members : List Member) → AreFailing bound rate streams pdos members
    → AreFailing bound rate streams pdos (short_members bound rate streams pdos members)
failing_short bound rate streams pdos members h =
    let place = trial bound rate streams pdos (is_member members) in
    let same = pdos_same place members in
    record {
      rise = rw same h.rise;
      inside = rw same h.inside;
      evidence = subst
          (λ (ps : List ℕ). All (λ m. IsEvidence (trial bound rate streams pdos (is_listed ps) m.pdo) m.evidence) (map (short_member place) members))
          (sym same)
          (all_short place (λ m. IsEvidence (place m.pdo) m.evidence) (λ m. IsEvidence (place m.pdo) m.evidence) (λ m shown. short_shows (place m.pdo) m.evidence shown) members h.evidence);
    }

members_writable : (place : ℕ → StreamPlace) (members : List Member) → AreWritableMembers members → AreWritableMembers (map (short_member place) members)
members_writable place members h = record {
  rise = λ i j d lt below.
      let count = length-map members (short_member place) in
      rw (get_or-map (short_member place) members i d d (omega arith), get_or-map (short_member place) members j d d (omega arith)) (h.rise i j d lt (omega arith));
  inside = all_short place (λ m. m.pdo < 512) (λ m. m.pdo < 512) (λ m low. low) members h.inside;
  evidence = all_short place (λ m. IsWritableEvidence m.evidence) (λ m. IsWritableEvidence m.evidence) (λ m fine. short_writable (place m.pdo) m.evidence fine) members h.evidence;
}

-- ---- refusals

sdo_short : (rate : Rate) (streams : List Stream) (pdos : ℕ) (up : List Member) (id : ℕ) (evidence : Evidence) → IsSdoRefusal rate streams pdos up id evidence
    → IsSdoRefusal rate streams pdos (short_members second_range.least rate streams pdos up) id evidence
sdo_short rate streams pdos up id evidence h =
    let place = trial second_range.least rate streams pdos (is_member up) in
    let same = pdos_same place up in
    record {
      not_long = h.not_long;
      failing = failing_short second_range.least rate streams pdos up h.failing;
      none = λ many. ap (λ members. map (short_member place) members) (h.none many);
      frame = h.frame;
      tested = h.tested;
      its = h.its;
      fails = subst (λ (ps : List ℕ). IsEvidence (trial id rate streams pdos (kept pdos (is_listed ps)) h.frame) evidence) (sym same) h.fails;
    }

places_short : (rate : Rate) (streams : List Stream) (pdos : ℕ) (members : List Member) → IsPlacesRefusal rate streams pdos members
    → IsPlacesRefusal rate streams pdos (short_members first_range.least rate streams pdos members)
places_short rate streams pdos members h = record {
  not_long = h.not_long;
  some = rw (length-map members (short_member (trial first_range.least rate streams pdos (is_member members)))) h.some;
  failing = failing_short first_range.least rate streams pdos members h.failing;
}

cause_short : (rate : Rate) (streams : List Stream) (pdos : ℕ) (c : Cause) → IsCause rate streams pdos c → IsCause rate streams pdos (short_cause rate streams pdos c)
cause_short rate streams pdos (Places members) h = places_short rate streams pdos members h
cause_short rate streams pdos (Sync busy) h = h
cause_short rate streams pdos (Sdo up id evidence) h = sdo_short rate streams pdos up id evidence h

pub cause_holds : (rate : Rate) (streams : List Stream) (pdos : ℕ) (cause short : Cause) → short ≡ short_cause rate streams pdos cause → IsCause rate streams pdos cause → IsCause rate streams pdos short
cause_holds rate streams pdos cause short e h = subst (IsCause rate streams pdos) (sym e) (cause_short rate streams pdos cause h)

pub short_holds : (streams : List Stream) (pdos : ℕ) (r : Refusal) → IsRefusal streams pdos r → IsRefusal streams pdos (shortened streams pdos r)
short_holds streams pdos r h = cause_short r.rate streams pdos r.cause h

pub cause_writable : (rate : Rate) (streams : List Stream) (pdos : ℕ) (c : Cause) → IsWritableCause c → IsWritableCause (short_cause rate streams pdos c)
cause_writable rate streams pdos (Places members) h =
    (rw (length-map members (short_member (trial first_range.least rate streams pdos (is_member members)))) h.0, members_writable (trial first_range.least rate streams pdos (is_member members)) members h.1)
cause_writable rate streams pdos (Sync busy) h = h
cause_writable rate streams pdos (Sdo up id evidence) h = (members_writable (trial second_range.least rate streams pdos (is_member up)) up h.0, h.1, h.2)

pub short_is_writable : (streams : List Stream) (pdos : ℕ) (r : Refusal) → IsWritableRefusal r → IsWritableRefusal (shortened streams pdos r)
short_is_writable streams pdos r h = cause_writable r.rate streams pdos r.cause h

-- the members of a refusal that holds are PDOs
pub holds_inside : (rate : Rate) (streams : List Stream) (pdos : ℕ) (c : Cause) → IsCause rate streams pdos c → AreInside pdos c
holds_inside rate streams pdos (Places members) h = h.failing.inside
holds_inside rate streams pdos (Sync busy) h = tt
holds_inside rate streams pdos (Sdo up id evidence) h = h.failing.inside

-- flags that are a trial's give the short members of that trial
pub short_by_flags : {F : Type 0} (bound : ℕ) (rate : Rate) (streams : List Stream) (pdos : ℕ) (members : List Member) (flags : List Bool) (r : Result (List Member) F)
    → ((k : ℕ) → is_flagged flags k ≡ is_in_trial bound streams pdos (is_member members) k)
    → IfOk r (λ short. short ≡ map (short_member (λ p. flagged_place streams flags p rate)) members) → IfOk r (λ short. short ≡ short_members bound rate streams pdos members)
short_by_flags bound rate streams pdos members flags r same h =
    let e : is_flagged flags ≡ is_in_trial bound streams pdos (is_member members) = λ i k. same k i in
    subst (λ (test : ℕ → Bool). IfOk r (λ short. short ≡ map (short_member (λ p. place_among streams test p rate)) members)) e h
