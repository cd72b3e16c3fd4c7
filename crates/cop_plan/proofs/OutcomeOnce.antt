-- Some streams and candidates have one outcome.
use Rattle.std.proofs.Common.{◌≡◌, ℕ, suc, ◌<◌, ◌≤◌, ◌⊎◌, inl, inr, Option, Some, None, is_some, List, [], ◌∷◌, map, length, get_or, Contains, refl, sym, ap, ◌∙◌, subst, arith}
use Rattle.std.proofs.lemmas.Bool.{cases_order}
use Rattle.std.proofs.lemmas.List.{ext_get_or}
use Rattle.cop_frame.specs.declared.rates.Rate.{Rate}
use Rattle.cop_frame.specs.Rate.{kbits_of, place_of}
use Rattle.cop_rta.specs.declared.streams.Stream.{Stream}
use Rattle.cop_rta.specs.Test.{of_stream}
use Rattle.cop_rta.specs.Entries.{entry_of}
use Rattle.cop_rta.proofs.StreamLemmas.{streams_same}
use Rattle.cop_cert.specs.declared.refusals.Refusal.{Refusal}
use Rattle.cop_plan.specs.declared.assigning.Outcome.{Outcome}
use Rattle.cop_plan.specs.declared.choices.Choice.{Choice}
use Rattle.cop_plan.specs.declared.assigning.Outcome.TheVariants.{Planned, Refused}
use Rattle.cop_cert.specs.Assignments.{IsAssignment}
use Rattle.cop_plan.specs.declared.choices.Kept.{Kept}
use Rattle.cop_plan.specs.Caps.{cap_of, capped}
use Rattle.cop_plan.specs.Margins.{IsOrderTo, IsChosenOrder}
use Rattle.cop_plan.specs.Orders.{HasPdos, IsPlanOrder, IsByPriority}
use Rattle.cop_plan.specs.Values.{PlanValue, Timing, timing_of, id_of, HaveIds}
use Rattle.cop_plan.specs.Plans.{IsGreatestRefusal, AreRefusals, IsSlower, IsPlan, IsOutcome, IsChosenBy}
use Rattle.cop_plan.proofs.MarginLemmas.{lowered_length, lowered_once}
use Rattle.cop_plan.proofs.MarginOutcome.{greatest_once, widest_once}
use Rattle.cop_plan.proofs.RateLemmas.{rate_at, at_place, kbits_rise}
use Rattle.cop_plan.proofs.SamePlace.{same_length}
use Rattle.cop_plan.proofs.RangeUniqueLemmas.{unique_over_ranges}
use Rattle.cop_plan.proofs.CausesOnce as causes
use Rattle.cop_plan.proofs.ListsOnce.{rate_has, refusals_once}

-- ---- refusals

module _ (streams : List Stream) (pdos : ℕ) (s : HasPdos streams pdos) where
  pub all_once : (Are : Rate → Type 0) (rs ss : List Refusal) → AreRefusals streams pdos Are rs → AreRefusals streams pdos Are ss → rs ≡ ss
  all_once Are rs ss a b =
      refusals_once (IsGreatestRefusal streams pdos) (causes.greatest_once streams pdos s.distinct) rs ss a.rise b.rise a.each b.each
      (λ rate h. b.every rate (rate_has Are rs rate a.only h))
      (λ rate h. a.every rate (rate_has Are ss rate b.only h))

-- ---- the rate

rate_same : (r q : Rate) → kbits_of r ≡ kbits_of q → r ≡ q
rate_same r q e = go (cases_order (place_of r) (place_of q)) where
  go : (place_of r ≡ place_of q) ⊎ ((place_of r < place_of q) ⊎ (place_of q < place_of r)) → r ≡ q
  go (inl same) = sym (at_place r) ∙ ap rate_at same ∙ at_place q
  go (inr (inl lt)) = absurd (omega (arith, e, kbits_rise r q lt))
  go (inr (inr gt)) = absurd (omega (arith, e, kbits_rise q r gt))

module _ (rates : List Rate) (streams : List Stream) (pdos : ℕ) where
  pub rate_once : (a b : PlanValue) → IsPlan rates streams pdos a → IsPlan rates streams pdos b → a.rate ≡ b.rate
  rate_once a b x y = go (cases_order (kbits_of a.rate) (kbits_of b.rate)) where
    go : (kbits_of a.rate ≡ kbits_of b.rate) ⊎ ((kbits_of a.rate < kbits_of b.rate) ⊎ (kbits_of b.rate < kbits_of a.rate)) → a.rate ≡ b.rate
    go (inl e) = rate_same a.rate b.rate e
    go (inr (inl lt)) = absurd (y.slowest a.rate (x.candidate, lt) (id_of a.ids) x.passing)
    go (inr (inr gt)) = absurd (x.slowest b.rate (y.candidate, gt) (id_of b.ids) y.passing)

-- ---- the streams

entries_same : (ss ts : List Stream) → map timing_of ss ≡ map timing_of ts → ((k : ℕ) → k < length ss → of_stream (λ s. s.id) ss k ≡ of_stream (λ s. s.id) ts k) → map entry_of ss ≡ map entry_of ts
entries_same [] [] e ids = refl
entries_same [] (t ∷ ts) e ids = absurd (omega (arith, ap length e))
entries_same (s ∷ ss) [] e ids = absurd (omega (arith, ap length e))
entries_same (s ∷ ss) (t ∷ ts) e ids =
    let both : timing_of s ∷ map timing_of ss ≡ timing_of t ∷ map timing_of ts = e in
    let head : timing_of s ≡ timing_of t = cc in
    let tail : map timing_of ss ≡ map timing_of ts = cc in
    let id : s.id ≡ t.id = ids 0 (omega arith) in
    let bytes : s.bytes ≡ t.bytes = ap (λ (t : Timing). t.bytes) head in
    let period : s.period ≡ t.period = ap (λ (t : Timing). t.period) head in
    let jitter : s.jitter ≡ t.jitter = ap (λ (t : Timing). t.jitter) head in
    let deadline : s.deadline ≡ t.deadline = ap (λ (t : Timing). t.deadline) head in
    let every : s.every ≡ t.every = ap (λ (t : Timing). t.every) head in
    let first : entry_of s ≡ entry_of t = rw (id, bytes, period, jitter, deadline, every) refl in
    rw (first, entries_same ss ts tail (λ k low. ids (suc k) (omega (arith, low)))) refl

-- ---- plans

module _ (rate : Rate) (streams : List Stream) (pdos : ℕ) (few : pdos ≤ length streams) where
  ids_once : (ids others : List ℕ) → length ids ≡ pdos → length others ≡ pdos → IsPlanOrder rate streams pdos (id_of ids) → IsPlanOrder rate streams pdos (id_of others) → ids ≡ others
  ids_once ids others m n a b =
      ext_get_or 0 ids others (m ∙ sym n) (λ p low. unique_over_ranges rate streams pdos (id_of ids) (id_of others) few a b p (omega (arith, low, m)))

module _ (rate : Rate) (streams : List Stream) (pdos : ℕ) (few : pdos ≤ length streams) where
  with_margin_once : (margin : ℕ) (ids others : List ℕ) → length ids ≡ pdos → length others ≡ pdos → IsOrderTo margin rate streams pdos (id_of ids) → IsOrderTo margin rate streams pdos (id_of others) → ids ≡ others
  with_margin_once margin ids others m n a b =
      let amount : ℕ → ℕ = capped margin (cap_of rate streams pdos) in
      let same : b.0 ≡ a.0 = lowered_once amount streams b.0 a.0 b.1 a.1 in
      ids_once rate a.0 pdos (omega (arith, few, lowered_length amount streams a.0 a.1)) ids others m n a.2 (subst (λ (lowered : List Stream). IsPlanOrder rate lowered pdos (id_of others)) same b.2)

  make_kept : ℕ → ℕ → Kept
  make_kept all others = record { all = all; others = others }

  kept_same : (p q : Kept) → p.all ≡ q.all → p.others ≡ q.others → p ≡ q
  unfolding make_kept
  kept_same p q all others = let made : make_kept p.all p.others ≡ make_kept q.all q.others = rw (all, others) refl in made

  -- of the identifiers that are chosen there are one of each kind, and one margin
  chosen_once : (o p : Option Kept) (ids others : List ℕ) → is_some o ≡ is_some p → length ids ≡ pdos → length others ≡ pdos → IsAssignment pdos (id_of ids) → IsAssignment pdos (id_of others)
      → IsChosenOrder o rate streams pdos (id_of ids) → IsChosenOrder p rate streams pdos (id_of others) → (o ≡ p) × (ids ≡ others)
  chosen_once None None ids others kind m n x y a b = (refl, ids_once rate streams pdos few ids others m n a b)
  chosen_once None (Some q) ids others kind m n x y a b = absurd (cc)
  chosen_once (Some p) None ids others kind m n x y a b = absurd (cc)
  chosen_once (Some p) (Some q) ids others kind m n x y a b =
      let all : p.all ≡ q.all = greatest_once rate streams pdos p.all q.all (id_of ids) (id_of others) x y a.keeps b.keeps a.greatest b.greatest in
      let widest : p.others ≡ q.others = widest_once rate streams pdos p.others q.others (id_of ids) (id_of others) x y a.order b.order a.widest b.widest in
      (ap (λ (k : Kept). Some k) (kept_same p q all widest), with_margin_once q.others ids others m n (subst (λ (margin : ℕ). IsOrderTo margin rate streams pdos (id_of ids)) widest a.order) b.order)

module _ (streams : List Stream) (pdos : ℕ) where
  priority_once : (ids : ℕ → ℕ) (order other : List ℕ) → IsAssignment pdos ids → IsByPriority pdos ids order → IsByPriority pdos ids other → order ≡ other
  priority_once ids order other a x y =
      ext_get_or 0 order other (x.count ∙ sym y.count)
      (λ i low. a.distinct (get_or order i 0) (get_or other i 0) (x.inside i 0 low) (y.inside i 0 (omega (arith, low, x.count, y.count)))
      (x.places i (omega (arith, low, x.count)) ∙ sym (y.places i (omega (arith, low, x.count)))))

  renamed_once : (ids : ℕ → ℕ) (ss ts : List Stream) → HaveIds streams pdos ids ss → HaveIds streams pdos ids ts → ss ≡ ts
  renamed_once ids ss ts x y =
      streams_same ss ts (entries_same ss ts (x.timings ∙ sym y.timings)
      (λ k low. let inside : k < length streams = omega (arith, low, same_length ss streams x.timings) in x.each k inside ∙ sym (y.each k inside)))

make_plan : Rate → List ℕ → List ℕ → Option Kept → List Refusal → List Stream → PlanValue
make_plan rate order ids margin refusals streams = record { rate = rate; order = order; ids = ids; margin = margin; refusals = refusals; streams = streams }

plan_same : (a b : PlanValue) → a.rate ≡ b.rate → a.order ≡ b.order → a.ids ≡ b.ids → a.margin ≡ b.margin → a.refusals ≡ b.refusals → a.streams ≡ b.streams → a ≡ b
unfolding make_plan
plan_same a b rate order ids margin refusals streams =
    let made : make_plan a.rate a.order a.ids a.margin a.refusals a.streams ≡ make_plan b.rate b.order b.ids b.margin b.refusals b.streams = rw (rate, order, ids, margin, refusals, streams) refl in
    made

module _ (rates : List Rate) (streams : List Stream) (pdos : ℕ) (s : HasPdos streams pdos) where
  -- the same where the rate is known to be the same
  at_rate : (a b : PlanValue) → a.rate ≡ b.rate → is_some a.margin ≡ is_some b.margin → IsPlan rates streams pdos a → IsPlan rates streams pdos b → a ≡ b
  at_rate a b e kind x y =
      let mine : IsChosenOrder a.margin b.rate streams pdos (id_of a.ids) = subst (λ (rate : Rate). IsChosenOrder a.margin rate streams pdos (id_of a.ids)) e x.order in
      let chosen = chosen_once b.rate streams pdos s.count a.margin b.margin a.ids b.ids kind x.count y.count x.passing.0 y.passing.0 mine y.order in
      let ids : a.ids ≡ b.ids = chosen.1 in
      let priority : IsByPriority pdos (id_of b.ids) a.order = subst (λ (list : List ℕ). IsByPriority pdos (id_of list) a.order) ids x.by_priority in
      let renamed : HaveIds streams pdos (id_of b.ids) a.streams = subst (λ (list : List ℕ). HaveIds streams pdos (id_of list) a.streams) ids x.renamed in
      let refused : AreRefusals streams pdos (IsSlower rates b.rate) a.refusals = subst (λ (rate : Rate). AreRefusals streams pdos (IsSlower rates rate) a.refusals) e x.refused in
      plan_same a b e
      (priority_once streams pdos (id_of b.ids) a.order b.order y.passing.0 priority y.by_priority)
      ids
      chosen.0
      (all_once streams pdos s (IsSlower rates b.rate) a.refusals b.refusals refused y.refused)
      (renamed_once streams pdos (id_of b.ids) a.streams b.streams renamed y.renamed)

  pub outcome_once : (choice : Choice) (a b : Outcome) → IsOutcome rates streams pdos a → IsOutcome rates streams pdos b → IsChosenBy choice a → IsChosenBy choice b → a ≡ b
  outcome_once choice (Planned a) (Planned b) x y k l = ap Planned (at_rate a b (rate_once rates streams pdos a b x y) (k ∙ sym l) x y)
  outcome_once choice (Planned a) (Refused rs) x y k l = absurd (y.none a.rate x.candidate (id_of a.ids) x.passing)
  outcome_once choice (Refused rs) (Planned b) x y k l = absurd (x.none b.rate y.candidate (id_of b.ids) y.passing)
  outcome_once choice (Refused rs) (Refused ss) x y k l = ap Refused (all_once streams pdos s (Contains rates) rs ss x.refused y.refused)
