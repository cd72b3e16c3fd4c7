-- The greatest margin: there is one, and what it takes to show it.
use Rattle.std.proofs.Common.{◌≡◌, ℕ, ◌-◌, ◌<◌, ◌≤◌, ◌⊎◌, inl, inr, true, false, List, length, get_or, Option, Some, None, is_some, Result, Ok, Err, IfOk, Contains, refl, sym, ap, ◌∙◌, subst, arith}
use Rattle.std.proofs.lemmas.Bool.{cases_Bool, cases_lt, cases_order}
use Rattle.cop_frame.specs.declared.rates.Rate.{Rate}
use Rattle.cop_rta.specs.declared.streams.Stream.{Stream}
use Rattle.cop_cert.specs.declared.refusals.Refusal.{Refusal}
use Rattle.cop_cert.specs.Assignments.{IsAssignment, IsPassing, NoAssignmentPasses}
use Rattle.cop_plan.specs.Found.{NoneFrom}
use Rattle.cop_plan.specs.declared.choices.Kept.{Kept}
use Rattle.cop_plan.specs.Caps.{deadline_of, cap_of, capped, CanHave, AreCaps, HaveLeast}
use Rattle.cop_plan.specs.Margins.{AreLowered, AreLoweredTo, Keeps, has_deadline, IsGreatestMargin, IsGreatestCapped, IsOrderTo, AreKept, IsChosenOrder}
use Rattle.cop_plan.specs.Orders.{IsPlanOrder, IsByPriority}
use Rattle.cop_plan.specs.Plans.{IsPlan, IsSlower, AreRefusals}
use Rattle.cop_plan.specs.Values.{PlanValue, id_of, HaveIds}
use Rattle.cop_plan.proofs.CapLemmas.{dated_inside, some_dated, none_dated, cap_below, cap_undated, within_cap}
use Rattle.cop_plan.proofs.MarginKept.{can_be_lowered}
use Rattle.cop_plan.proofs.MarginLemmas.{lowered_once, lowered_alike, lowered_further, lowered_by_none, passing_before, none_after}
use Rattle.cop_plan.proofs.MarginSteps.{capped_more, cap_listed}

-- an order for deadlines as they are
lowered_to_none : (rate : Rate) (streams : List Stream) (pdos : ℕ) → AreLoweredTo 0 rate pdos streams streams
lowered_to_none rate streams pdos = lowered_by_none streams ∙ lowered_alike (λ _. 0) (capped 0 (cap_of rate streams pdos)) streams (λ k d e. omega arith)

pub plain_order : (rate : Rate) (streams : List Stream) (pdos : ℕ) (ids : ℕ → ℕ) → IsOrderTo 0 rate streams pdos ids → IsPlanOrder rate streams pdos ids
plain_order rate streams pdos ids h =
    subst (λ (lowered : List Stream). IsPlanOrder rate lowered pdos ids) (lowered_once (capped 0 (cap_of rate streams pdos)) streams h.0 streams h.1 (lowered_to_none rate streams pdos)) h.2

pub order_plain : (rate : Rate) (streams : List Stream) (pdos : ℕ) (ids : ℕ → ℕ) → IsPlanOrder rate streams pdos ids → IsOrderTo 0 rate streams pdos ids
order_plain rate streams pdos ids h = (streams, lowered_to_none rate streams pdos, h)

-- ---- no two margins are greatest

module _ (rate : Rate) (streams : List Stream) (pdos : ℕ) where
  -- what keeps more than the greatest
  no_more : (margin more : ℕ) (ids : ℕ → ℕ) → IsAssignment pdos ids → Keeps more rate streams pdos ids → IsGreatestMargin rate streams pdos margin → IsGreatestMargin rate streams pdos more → margin < more → ⊥
  no_more margin more ids assigned keeps greatest other lt = go (cases_Bool (has_deadline streams))
    where
      go : (has_deadline streams ≡ true) ⊎ (has_deadline streams ≡ false) → ⊥
      go (inl some) = greatest.greatest some more lt keeps.0 keeps.1 ids (assigned, keeps.2)
      go (inr none) = absurd (omega (arith, lt, other.none none))

  pub greatest_once : (p q : ℕ) (ids others : ℕ → ℕ) → IsAssignment pdos ids → IsAssignment pdos others → Keeps p rate streams pdos ids → Keeps q rate streams pdos others
      → IsGreatestMargin rate streams pdos p → IsGreatestMargin rate streams pdos q → p ≡ q
  greatest_once p q ids others x y a b g h = go (cases_order p q)
    where
      go : (p ≡ q) ⊎ ((p < q) ⊎ (q < p)) → p ≡ q
      go (inl same) = same
      go (inr (inl lt)) = absurd (no_more p q others y b g h lt)
      go (inr (inr gt)) = absurd (no_more q p ids x a h g gt)

  -- what reaches more than the greatest
  no_wider : (margin more : ℕ) (ids : ℕ → ℕ) → IsAssignment pdos ids → IsOrderTo more rate streams pdos ids → IsGreatestCapped rate streams pdos margin → IsGreatestCapped rate streams pdos more → margin < more → ⊥
  no_wider margin more ids assigned order greatest other lt =
      greatest.greatest more lt (other.possible (omega (arith, lt))) order.0 order.1 ids (assigned, order.2.2.passes)

  pub widest_once : (p q : ℕ) (ids others : ℕ → ℕ) → IsAssignment pdos ids → IsAssignment pdos others → IsOrderTo p rate streams pdos ids → IsOrderTo q rate streams pdos others
      → IsGreatestCapped rate streams pdos p → IsGreatestCapped rate streams pdos q → p ≡ q
  widest_once p q ids others x y a b g h = go (cases_order p q)
    where
      go : (p ≡ q) ⊎ ((p < q) ⊎ (q < p)) → p ≡ q
      go (inl same) = same
      go (inr (inl lt)) = absurd (no_wider p q others y b g h lt)
      go (inr (inr gt)) = absurd (no_wider q p ids x a h g gt)

  -- what no assignment reaches none reaches more of
  pub none_from : (margin : ℕ) (lowered : List Stream) → AreLoweredTo margin rate pdos streams lowered → NoAssignmentPasses rate lowered pdos → NoneFrom rate streams pdos margin
  none_from margin lowered is none more le can further such =
      let less : ℕ → ℕ = capped margin (cap_of rate streams pdos) in
      let most : ℕ → ℕ = capped more (cap_of rate streams pdos) in
      none_after (λ k. most k - less k) lowered further (lowered_further less most streams lowered further (λ k d e. capped_more margin more (cap_of rate streams pdos k) le) is such) rate pdos none

-- ---- what all keep

-- Identifiers that reach the greatest margin, no deadline being lowered by more than its stream's cap, keep the least of that margin and the caps, and
-- none keep more.
module _ (rate : Rate) (streams : List Stream) (pdos : ℕ) (caps : List ℕ) (are : AreCaps rate streams pdos caps) (kept : Kept) (least : HaveLeast streams caps kept.others kept.all) (widest : IsGreatestCapped rate streams pdos kept.others) where
  all_within : (k d : ℕ) → deadline_of streams k ≡ Some d → kept.all ≤ cap_of rate streams pdos k
  all_within k d e = omega (arith, least.each k d e, cap_listed rate streams pdos caps are k d e)

  all_greatest : IsGreatestMargin rate streams pdos kept.all
  all_greatest = record { greatest = λ some more lt lowered is ids passing. too_much some more lt lowered is ids passing; none = λ none. omega (arith, least.most, no_margin none (cases_lt 0 kept.others)) }
    where
      too_much : has_deadline streams ≡ true → (more : ℕ) → kept.all < more → (lowered : List Stream) → AreLowered more streams lowered → (ids : ℕ → ℕ) → IsPassing rate lowered pdos ids → ⊥
      too_much some more lt lowered is ids passing = go least.reached
        where
          fits : (k d : ℕ) → deadline_of streams k ≡ Some d → more ≤ cap_of rate streams pdos k
          fits k d e = within_cap (λ _. more) streams lowered is rate pdos ids passing k d e

          to : AreLoweredTo more rate pdos streams lowered
          to = is ∙ lowered_alike (λ _. more) (capped more (cap_of rate streams pdos)) streams (λ k d e. omega (arith, fits k d e))

          can : CanHave rate streams pdos more
          can = let one = some_dated streams some in (one.0, dated_inside streams one.0 one.1 one.2, fits one.0 one.1 one.2)

          go : (kept.all ≡ kept.others) ⊎ ((k : ℕ) × (d : ℕ) × (deadline_of streams k ≡ Some d) × (kept.all ≡ get_or caps k 0)) → ⊥
          go (inl same) = widest.greatest more (omega (arith, lt, same)) can lowered to ids passing
          go (inr (k, d, e, same)) = omega (arith, lt, same, cap_listed rate streams pdos caps are k d e, fits k d e)

      undated : (k : ℕ) (o : Option ℕ) → deadline_of streams k ≡ o → has_deadline streams ≡ false → 0 < cap_of rate streams pdos k → ⊥
      undated k None e none some = omega (arith, some, cap_undated rate streams pdos k e)
      undated k (Some d) e none some = none_dated streams none k d e

      no_margin : has_deadline streams ≡ false → (0 < kept.others) ⊎ (kept.others ≤ 0) → kept.others ≤ 0
      no_margin none (inr zero) = zero
      no_margin none (inl some) = let can = widest.possible (omega (arith, some)) in absurd (undated can.0 (deadline_of streams can.0) refl none (omega (arith, some, can.2)))

  module _ (ids : ℕ → ℕ) (assigned : IsAssignment pdos ids) (order : IsOrderTo kept.others rate streams pdos ids) where
    under : (lowered : List Stream) × AreLowered kept.all streams lowered
    under = can_be_lowered (λ _. kept.all) streams (λ k d e. omega (arith, all_within k d e, cap_below rate streams pdos k d e))

    passing : IsPassing rate under.0 pdos ids
    passing =
        let most : ℕ → ℕ = capped kept.others (cap_of rate streams pdos) in
        passing_before (λ k. most k - kept.all) under.0 order.0
        (lowered_further (λ _. kept.all) most streams under.0 order.0 (λ k d e. omega (arith, least.most, all_within k d e)) under.1 order.1) rate pdos ids (assigned, order.2.2.passes)

    pub kept_by_order : AreKept kept rate streams pdos ids
    kept_by_order = record { keeps = (under.0, under.1, passing.1); greatest = all_greatest; order = order; widest = widest; no_less = least.most }

-- ---- the plan whose identifiers keep the greatest margin

plain_of : (o : Option Kept) (rate : Rate) (streams : List Stream) (pdos : ℕ) (ids : ℕ → ℕ) → is_some o ≡ false → IsChosenOrder o rate streams pdos ids → IsPlanOrder rate streams pdos ids
plain_of None rate streams pdos ids e h = h
plain_of (Some kept) rate streams pdos ids e h = absurd (cc)

module _ (rates : List Rate) (streams : List Stream) (pdos : ℕ) (old : PlanValue) (is : IsPlan rates streams pdos old) (kept : Kept)
    (finish : (ids : ℕ → ℕ) → IsAssignment pdos ids → IsOrderTo kept.others old.rate streams pdos ids → AreKept kept old.rate streams pdos ids) where
  -- of the same rate and with the same refusals
  widened : (new : PlanValue) → new.rate ≡ old.rate → new.margin ≡ Some kept → new.refusals ≡ old.refusals → length new.ids ≡ pdos → IsPassing old.rate streams pdos (id_of new.ids)
      → IsOrderTo kept.others old.rate streams pdos (id_of new.ids) → IsByPriority pdos (id_of new.ids) new.order → HaveIds streams pdos (id_of new.ids) new.streams
      → IsPlan rates streams pdos new × (is_some new.margin ≡ true)
  widened new rate some refusals count passing order priority renamed =
      let back : old.rate ≡ new.rate = sym rate in
      let refused : AreRefusals streams pdos (IsSlower rates new.rate) new.refusals =
      subst (λ (rate : Rate). AreRefusals streams pdos (IsSlower rates rate) new.refusals) back (subst (λ (list : List Refusal). AreRefusals streams pdos (IsSlower rates old.rate) list) (sym refusals) is.refused) in
      let chosen : IsChosenOrder (Some kept) old.rate streams pdos (id_of new.ids) = finish (id_of new.ids) passing.0 order in (
        record {
          candidate = subst (Contains rates) back is.candidate;
          count = count;
          passing = subst (λ (rate : Rate). IsPassing rate streams pdos (id_of new.ids)) back passing;
          order = subst (λ (o : Option Kept). IsChosenOrder o new.rate streams pdos (id_of new.ids)) (sym some) (subst (λ (rate : Rate). IsChosenOrder (Some kept) rate streams pdos (id_of new.ids)) back chosen);
          by_priority = priority;
          slowest = subst (λ (than : Rate). (rate : Rate) → IsSlower rates than rate → NoAssignmentPasses rate streams pdos) back is.slowest;
          refused = refused;
          renamed = renamed;
        },
        ap is_some some,
      )

  -- with the identifiers that it has, where none is kept
  pub widened_by_none : (new : PlanValue) → is_some old.margin ≡ false → kept.others ≡ 0 → new.margin ≡ Some kept → new.rate ≡ old.rate → new.order ≡ old.order → new.ids ≡ old.ids → new.refusals ≡ old.refusals → new.streams ≡ old.streams
      → IsPlan rates streams pdos new × (is_some new.margin ≡ true)
  widened_by_none new plain zero some rate order ids refusals renamed =
      let ordered : IsOrderTo kept.others old.rate streams pdos (id_of old.ids) = subst (λ (m : ℕ). IsOrderTo m old.rate streams pdos (id_of old.ids)) (sym zero) (order_plain old.rate streams pdos (id_of old.ids) (plain_of old.margin old.rate streams pdos (id_of old.ids) plain is.order)) in
      widened new rate some refusals
      (ap (λ (list : List ℕ). length list) ids ∙ is.count)
      (subst (λ (list : List ℕ). IsPassing old.rate streams pdos (id_of list)) (sym ids) is.passing)
      (subst (λ (list : List ℕ). IsOrderTo kept.others old.rate streams pdos (id_of list)) (sym ids) ordered)
      (subst (λ (list : List ℕ). IsByPriority pdos (id_of list) new.order) (sym ids) (subst (λ (list : List ℕ). IsByPriority pdos (id_of old.ids) list) (sym order) is.by_priority))
      (subst (λ (list : List ℕ). HaveIds streams pdos (id_of list) new.streams) (sym ids) (subst (λ (list : List Stream). HaveIds streams pdos (id_of old.ids) list) (sym renamed) is.renamed))

  pub widened_by_fillings : {E : Type 0} (r : Result PlanValue E) (rate : Rate) (refusals : List Refusal) → rate ≡ old.rate → refusals ≡ old.refusals
      → IfOk r (λ plan. plan.rate ≡ rate) → IfOk r (λ plan. plan.margin ≡ Some kept) → IfOk r (λ plan. plan.refusals ≡ refusals) → IfOk r (λ plan. length plan.ids ≡ pdos) → IfOk r (λ plan. IsPassing rate streams pdos (id_of plan.ids))
      → IfOk r (λ plan. IsOrderTo kept.others rate streams pdos (id_of plan.ids)) → IfOk r (λ plan. IsByPriority pdos (id_of plan.ids) plan.order) → IfOk r (λ plan. HaveIds streams pdos (id_of plan.ids) plan.streams)
      → IfOk r (λ wider. IsPlan rates streams pdos wider × (is_some wider.margin ≡ true))
  widened_by_fillings (Err e) rate refusals same those a b c d f g i j = tt
  widened_by_fillings (Ok new) rate refusals same those a b c d f g i j =
      widened new (a ∙ same) b (c ∙ those) d
      (subst (λ (rate : Rate). IsPassing rate streams pdos (id_of new.ids)) same f)
      (subst (λ (rate : Rate). IsOrderTo kept.others rate streams pdos (id_of new.ids)) same g)
      i j
