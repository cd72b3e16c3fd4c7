-- What is made of some PDOs at a rate is made once.
use Rattle.std.proofs.Common.{◌≡◌, ℕ, suc, ◌+◌, ◌*◌, ◌<◌, ◌⊎◌, inl, inr, Bool, List, [], ◌∷◌, length, All, refl, sym, ap, ◌∙◌, subst, arith}
use Rattle.cop_frame.specs.declared.rates.Rate.{Rate}
use Rattle.cop_rta.specs.declared.streams.Stream.{Stream}
use Rattle.cop_rta.specs.declared.verdicts.Verdict.TheVariants as verdicts
use Rattle.cop_rta.specs.Test.{place_among, StreamPlace, busy_at, queueing_at, blocking, cost_at, horizon}
use Rattle.cop_rta.specs.Streams.{AreDistinct}
use Rattle.cop_rta.specs.Verdict.{IsFirstLate}
use Rattle.cop_rta.proofs.IdentifierLemmas.{one_place}
use Rattle.cop_rta.proofs.VerdictLemmas.{judged_same}
use Rattle.cop_cert.specs.declared.refusals.Evidence.{Evidence}
use Rattle.cop_cert.specs.declared.refusals.Evidence.TheVariants.{Long, Late}
use Rattle.cop_cert.specs.declared.refusals.Cause.TheVariants.{Sync, Sdo}
use Rattle.cop_cert.specs.declared.refusals.Member.{Member}
use Rattle.cop_cert.specs.Causes.{sync_trial, kept}
use Rattle.cop_cert.specs.Evidence.{last_after, last_of, is_listed, pdos_of, is_member}
use Rattle.cop_cert.specs.Sets.{is_in_trial, trial}
use Rattle.cop_cert.specs.Chains.{Follows, IsChain, EndsAbove, IsWholeEvidence, AreMadeOf, IsMadeCause}
use Rattle.cop_cert.proofs.FrameLemmas.{one_sync}

-- ---- chains

-- a chain ends above the limit or at a solution
abbrev pub Ends : (ℕ → ℕ) → ℕ → ℕ → Type 0
Ends f limit last = (limit < last) ⊎ (last ≡ f last)

module _ (f : ℕ → ℕ) (limit : ℕ) where
  goes_on : (a b : ℕ) (rest : List ℕ) → Follows f limit a (b ∷ rest) → Ends f limit a → ⊥
  unfolding Follows
  goes_on a b rest h (inl above) = omega (arith, above, h.0)
  goes_on a b rest h (inr solved) = omega (arith, h.1, h.2, solved)

  follows_once : (a : ℕ) (xs ys : List ℕ) → Follows f limit a xs → Follows f limit a ys → Ends f limit (last_after a xs) → Ends f limit (last_after a ys) → xs ≡ ys
  unfolding Follows last_after
  follows_once a [] [] x y ex ey = refl
  follows_once a [] (c ∷ ys) x y ex ey = absurd (goes_on a c ys y ex)
  follows_once a (b ∷ xs) [] x y ex ey = absurd (goes_on a b xs x ey)
  follows_once a (b ∷ xs) (c ∷ ys) x y ex ey =
      let e : b ≡ c = x.2 ∙ sym y.2 in
      let follows : Follows f limit c xs = subst (λ (n : ℕ). Follows f limit n xs) e x.3 in
      let ends : Ends f limit (last_after c xs) = subst (λ (n : ℕ). Ends f limit (last_after n xs)) e ex in
      rw (e, follows_once c xs ys follows y.3 ends ey) refl

  chain_once : (from : ℕ) (xs ys : List ℕ) → IsChain f from limit xs → IsChain f from limit ys → Ends f limit (last_of xs) → Ends f limit (last_of ys) → xs ≡ ys
  chain_once from [] ys a b ex ey = absurd a.follows
  chain_once from (x ∷ xs) [] a b ex ey = absurd b.follows
  chain_once from (x ∷ xs) (y ∷ ys) a b ex ey =
      let e : x ≡ y = a.begins ∙ sym b.begins in
      let follows : Follows f limit y xs = subst (λ (n : ℕ). Follows f limit n xs) e a.follows in
      let ends : Ends f limit (last_after y xs) = subst (λ (n : ℕ). Ends f limit (last_after n xs)) e ex in
      rw (e, follows_once y xs ys follows b.follows ends ey) refl

-- ---- evidence

module _ (p : StreamPlace) where
  instance_once : (q k r s : ℕ) → IsFirstLate p q r → IsFirstLate p k s → q ≡ k
  instance_once q k r s a b =
      let e : verdicts.Late q r ≡ verdicts.Late k s = judged_same p (verdicts.Late q r) (verdicts.Late k s) a b in
      cc

  late_once : (q k : ℕ) (b c d g : List ℕ) → q ≡ k → IsWholeEvidence p (Late q b d) → IsWholeEvidence p (Late k c g) → Late q b d ≡ Late k c g
  late_once q k b c d g e x y =
      let busy : b ≡ c = chain_once (busy_at p) horizon 1 b c x.busy_time.chain y.busy_time.chain (inr x.busy_time.solves) (inr y.busy_time.solves) in
      let mine : IsWholeEvidence p (Late k b d) = subst (λ (n : ℕ). IsWholeEvidence p (Late n b d)) e x in
      let queue : d ≡ g = chain_once (queueing_at p k) horizon (blocking p + k * cost_at p) d g mine.queue_of.waits.chain y.queue_of.waits.chain (inr mine.queue_of.waits.solves) (inr y.queue_of.waits.solves) in
      rw (e, busy, queue) refl

  apart : (q : ℕ) (b c d : List ℕ) → IsWholeEvidence p (Long b) → IsWholeEvidence p (Late q c d) → ⊥
  apart q b c d x y =
      let e : b ≡ c = chain_once (busy_at p) horizon 1 b c x.chain y.busy_time.chain (inl x.above) (inr y.busy_time.solves) in
      omega (arith, x.above, y.busy_time.within, ap last_of e)

  pub evidence_once : (e g : Evidence) → IsWholeEvidence p e → IsWholeEvidence p g → e ≡ g
  evidence_once (Long b) (Long c) x y = rw (chain_once (busy_at p) horizon 1 b c x.chain y.chain (inl x.above) (inl y.above)) refl
  evidence_once (Long b) (Late k c g) x y = absurd (apart k b c g x y)
  evidence_once (Late q b d) (Long c) x y = absurd (apart q c b d y x)
  evidence_once (Late q b d) (Late k c g) x y = late_once q k b c d g (instance_once q k _ _ x.queue_of.first y.queue_of.first) x y

-- ---- members and frames

make_member : ℕ → Evidence → Member
make_member pdo evidence = record { pdo = pdo; evidence = evidence }

member_same : (m n : Member) → m.pdo ≡ n.pdo → m.evidence ≡ n.evidence → m ≡ n
unfolding make_member
member_same m n a b =
    let made : make_member m.pdo m.evidence ≡ make_member n.pdo n.evidence = rw (a, b) refl in
    made

module _ (streams : List Stream) (above : ℕ → Bool) (rate : Rate) where
  abbrev IsWhole : Member → Type 0
  IsWhole m = IsWholeEvidence (place_among streams above m.pdo rate) m.evidence

  member_once : (m n : Member) → m.pdo ≡ n.pdo → IsWhole m → IsWhole n → m ≡ n
  member_once m n e x y =
      let mine : IsWholeEvidence (place_among streams above n.pdo rate) m.evidence =
      subst (λ (i : ℕ). IsWholeEvidence (place_among streams above i rate) m.evidence) e x in
      member_same m n e (evidence_once (place_among streams above n.pdo rate) m.evidence n.evidence mine y)

  members_once : (ms ns : List Member) → pdos_of ms ≡ pdos_of ns → All IsWhole ms → All IsWhole ns → ms ≡ ns
  members_once [] [] e x y = refl
  members_once [] (n ∷ ns) e x y = absurd (omega (arith, ap length e))
  members_once (m ∷ ms) [] e x y = absurd (omega (arith, ap length e))
  members_once (m ∷ ms) (n ∷ ns) e x y =
      let both : m.pdo ∷ pdos_of ms ≡ n.pdo ∷ pdos_of ns = e in
      let head : m.pdo ≡ n.pdo = cc in
      let tail : pdos_of ms ≡ pdos_of ns = cc in
      rw (member_once m n head (x 0 m (omega arith)) (y 0 n (omega arith)), members_once ms ns tail (λ k d h. x (suc k) d (omega (arith, h))) (λ k d h. y (suc k) d (omega (arith, h)))) refl

-- the members of a trial of some PDOs
pub made_members_once : (bound : ℕ) (streams : List Stream) (pdos : ℕ) (rate : Rate) (ms ns : List Member) → pdos_of ms ≡ pdos_of ns
    → AreMadeOf bound streams pdos rate (pdos_of ms) ms → AreMadeOf bound streams pdos rate (pdos_of ns) ns → ms ≡ ns
made_members_once bound streams pdos rate ms ns e a b =
    let mine : AreMadeOf bound streams pdos rate (pdos_of ns) ms = subst (λ (listed : List ℕ). AreMadeOf bound streams pdos rate listed ms) e a in
    members_once streams (is_in_trial bound streams pdos (is_listed (pdos_of ns))) rate ms ns e mine.whole b.whole

-- SYNC's busy list
pub sync_list_once : (streams : List Stream) (pdos : ℕ) (rate : Rate) (busy other : List ℕ) → IsMadeCause rate streams pdos (Sync busy)
    → IsMadeCause rate streams pdos (Sync other) → busy ≡ other
sync_list_once streams pdos rate busy other (i, its, x) (j, others, y) =
    let mine : EndsAbove (busy_at (sync_trial rate streams pdos j)) 1 horizon busy =
    subst (λ (sync : ℕ). EndsAbove (busy_at (sync_trial rate streams pdos sync)) 1 horizon busy) (one_sync streams pdos i j its others) x in
    chain_once (busy_at (sync_trial rate streams pdos j)) horizon 1 busy other mine.chain y.chain (inl mine.above) (inl y.above)

-- the evidence of an SDO frame
pub frame_evidence_once : (streams : List Stream) (pdos : ℕ) (rate : Rate) (up : List Member) (id : ℕ) (e g : Evidence) → AreDistinct streams
    → IsMadeCause rate streams pdos (Sdo up id e) → IsMadeCause rate streams pdos (Sdo up id g) → e ≡ g
frame_evidence_once streams pdos rate up id e g distinct (_, i, tested, its, x) (_, j, other, others, y) =
    let same : i ≡ j = one_place streams distinct i j tested.inside other.inside (its ∙ sym others) in
    evidence_once (trial id rate streams pdos (kept pdos (is_member up)) j) e g
    (subst (λ (f : ℕ). IsWholeEvidence (trial id rate streams pdos (kept pdos (is_member up)) f) e) same x) y
