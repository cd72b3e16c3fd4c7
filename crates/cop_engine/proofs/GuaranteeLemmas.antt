-- A plan's guarantee for the rows of both tables.
use Rattle.std.proofs.Common.{◌≡◌, ◌≢◌, true, false, if◌then◌else◌, ℕ, ◌+◌, ◌-◌, ◌<◌, ◌≤◌, arith, inl, inr, List, length, get_or, slice_get, option_map, Option, Some, None, IfSome, All, Contains, refl, sym, ap, ◌∙◌, subst}
use Rattle.std.specs.Option.{option_and_then}
use Rattle.std.proofs.lemmas.Bool.{cases_lt}
use Rattle.std.proofs.lemmas.Option.{slice_get_within}
use Rattle.std.proofs.lemmas.List.Elements.{All-weaker, All-contains}
use Rattle.cop_frame.specs.Rate.{ticks_of}
use Rattle.cop_rta.specs.declared.streams.Stream.{Stream}
use Rattle.cop_rta.specs.declared.verdicts.Verdict.{Verdict}
use Rattle.cop_rta.specs.declared.verdicts.Verdict.TheVariants.{Pass, Late, Long}
use Rattle.cop_rta.specs.Streams.{AreDistinct}
use Rattle.cop_rta.specs.UpLemmas.{up_id-other}
use Rattle.cop_rta.specs.Errors.{errors_of}
use Rattle.cop_rta.specs.Test.{StreamPlace, deadline_at, place_by_id, Passes}
use Rattle.cop_rta.specs.Verdict.{PassesBy, IsJudged, response_of}
use Rattle.cop_rta.proofs.GreatestLemmas.{same_response}
use Rattle.cop_rta.proofs.VerdictLemmas.{pass_iff}
use Rattle.cop_bus.specs.Run.{Instance, IsOnTime}
use Rattle.cop_rows.specs.declared.pdo_table.PdoRow.{PdoRow}
use Rattle.cop_rows.specs.declared.node_table.FrameRow.{FrameRow}
use Rattle.cop_rows.specs.declared.node_table.FrameKind.{FrameKind}
use Rattle.cop_rows.specs.declared.node_table.FrameKind.TheVariants as kinds
use Rattle.cop_rows.specs.Nodes.{IsFrame, IsFrameDeadline, may_have_deadline}
use Rattle.cop_net.specs.Fixed.{base_of, ticks}
use Rattle.cop_net.specs.Signals.{errors_in}
use Rattle.cop_net.specs.Network.{Net, IsNetwork}
use Rattle.cop_cert.specs.Assignments.{IsTested}
use Rattle.cop_plan.specs.Margins.{AreLowered}
use Rattle.cop_plan.specs.Values.{PlanValue, id_of, margin_of, AreOnTime}
use Rattle.cop_plan.specs.Plans.{IsPlan, IsOutcome}
use Rattle.cop_plan.specs.declared.assigning.Outcome.{Outcome}
use Rattle.cop_plan.specs.declared.assigning.Outcome.TheVariants.{Planned, Refused}
use Rattle.cop_errors.specs.Errors.{Disturbance}
use Rattle.cop_errors.specs.Extended.{IsRunThrough, extended_by}
use Rattle.cop_errors.proofs.SetRuns.{of_set, kept as kept_on_bus}
use Rattle.cop_plan.proofs.RenameLemmas.{none_lower, distinct_renamed, same_count}
use Rattle.cop_plan.proofs.MarginLemmas.{tested_after}
use Rattle.cop_plan.proofs.MarginKept.{lowered_plan, kept_with_margin}
use Rattle.cop_sim.specs.Guarantee.{IsRunOf, IsKept}
use Rattle.cop_sim.proofs.GuaranteeLemmas.{kept}
use Rattle.cop_engine.specs.Guarantee.{IsFrameOf, is_errors, tested_id, frame_id, AreOnTimeIn, AreOnTimeThrough, IsGuaranteed, ArePrinted}
use Rattle.cop_engine.specs.Plans.{ArePlanVerdicts}
use Rattle.cop_engine.specs.Tests.{AreVerdicts}
use Rattle.cop_engine.proofs.MarginRuns.{legal_lowered, obeying_lowered, lowered_here}
use Rattle.cop_engine.proofs.OnePlan.{has_pdos}
use Rattle.cop_engine.proofs.PlanStreams.{fine, synced, have_deadlines, provisional, pdo_of, frame_at, tested_at, no_other, errors_counted}

sent_row : (row : FrameRow) (d : ℕ) → row.deadline ≡ Some d → IfSome row.deadline (IsFrameDeadline row.kind row.period) → row.period ≢ 0
sent_row row d dated h =
    let its : IfSome (Some d) (IsFrameDeadline row.kind row.period) = subst (λ (o : Option ℕ). IfSome o (IsFrameDeadline row.kind row.period)) dated h in its.sent

-- a verdict of a stream that passes has its greatest response
passing_by : (place : StreamPlace) (verdict : Verdict) → IsJudged place verdict → Passes place → PassesBy place (response_of verdict)
passing_by place (Pass response) judged passes = judged
passing_by place (Late q response) judged passes = absurd ((pass_iff place (Late q response) judged).1 passes)
passing_by place Long judged passes = absurd ((pass_iff place Long judged).1 passes)

-- which is within its deadline
within_deadline : (place : StreamPlace) (response d : ℕ) → PassesBy place response → deadline_at place ≡ Some d → response ≤ d
within_deadline place response d by dated =
    let last = by.reached in
    let each = by.on_time last.0 last.1 in
    let same : each.0 ≡ response = same_response place last.0 each.0 response each.1 last.2 in
    omega (arith, same, each.2 d dated)

-- a frame with a deadline keeps its identifier
dated_kind : (row : FrameRow) (d : ℕ) → row.deadline ≡ Some d → IfSome row.deadline (IsFrameDeadline row.kind row.period) → may_have_deadline row.kind ≡ true
dated_kind row d dated h =
    let its : IfSome (Some d) (IsFrameDeadline row.kind row.period) = subst (λ (o : Option ℕ). IfSome o (IsFrameDeadline row.kind row.period)) dated h in its.allowed

high_base : (kind : FrameKind) → may_have_deadline kind ≡ true → (2 ≤ base_of kind) × (is_errors kind ≡ false)
high_base kinds.Nmt h = absurd (cc)
high_base kinds.Sync h = absurd (cc)
high_base kinds.Emcy h = absurd (cc)
high_base kinds.SdoResponse h = (omega arith, refl)
high_base kinds.SdoRequest h = (omega arith, refl)
high_base kinds.Heartbeat h = absurd (cc)
high_base kinds.Errors h = absurd (cc)

dated_id : (o : Option FrameRow) (row : FrameRow) → may_have_deadline row.kind ≡ true → frame_id o row ≡ base_of row.kind + row.node
dated_id o row may =
    let high = high_base row.kind may in
    ap (λ b. if b then 0 else tested_id o (base_of row.kind + row.node)) high.1 ∙ by_row o
  where
    by_row : (o : Option FrameRow) → tested_id o (base_of row.kind + row.node) ≡ base_of row.kind + row.node
    by_row None = refl
    by_row (Some r) = up_id-other (base_of row.kind + row.node) (let high = high_base row.kind may in omega (arith, high.0))

-- what is on time in each run of the plan's streams is so through errors
through : (plan : PlanValue) → AreDistinct plan.streams → (id deadline : ℕ) → 2 ≤ id → AreOnTimeIn plan id deadline → AreOnTimeThrough plan id deadline
through plan distinct id deadline high on_time until run hits events r =
    let whole = of_set plan.rate until run hits events plan.streams distinct r in
    kept_on_bus (errors_of plan.streams) (ticks_of plan.rate) until run hits events id (Some deadline) high
    (on_time until (extended_by (errors_of plan.streams) run hits events) (record { legal = whole.legal; obeying = whole.obeying }))

module _ (net : Net) (is : IsNetwork net) where
  module _ (plan : PlanValue) (planned : IsPlan net.equipment.rates net.set (length net.rows) plan) where
    -- the instances of a stream in each run of the plan
    abbrev AreKept : Stream → Type 0
    AreKept k = (until : ℕ) (run : List Instance) → IsRunOf plan until run → All (λ y. y.id ≡ k.id → IsOnTime (ticks_of plan.rate) until k.deadline y) run

    -- in each run of the plan the instances of each stream are on time, where it has a deadline
    pub all_kept : (p : ℕ) (k : Stream) → slice_get plan.streams p ≡ Some k → AreKept k
    all_kept p k here until run legal = elim (cases_lt p (length plan.ids)) [ inl low ↦ is_kept.on_time k (p, low, here) | inr past ↦ by_deadline k.deadline refl past ]
      where
        is_kept : IsKept plan until run
        is_kept = kept plan (fine net is plan planned) (synced net is plan planned) until run legal

        by_deadline : (o : Option ℕ) → k.deadline ≡ o → length plan.ids ≤ p → All (λ y. y.id ≡ k.id → IsOnTime (ticks_of plan.rate) until k.deadline y) run
        by_deadline None none past = λ j e low its. subst (λ (o : Option ℕ). IsOnTime (ticks_of plan.rate) until o (get_or run j e)) (sym none) (λ v q. absurd (cc))
        by_deadline (Some d) dated past = is_kept.frames k (p, tested_at net is plan planned p k d past here dated, here)

    -- the same plan with deadlines lowered by its margin
    lowered : (renamed : List Stream) × AreLowered (margin_of plan) plan.streams renamed
    lowered = lowered_plan net.equipment.rates net.set (length net.rows) plan planned

    tight : PlanValue
    tight = record { rate = plan.rate; order = plan.order; ids = plan.ids; margin = plan.margin; refusals = plan.refusals; streams = lowered.0 }

    run_of_tight : (until : ℕ) (run : List Instance) → IsRunOf plan until run → IsRunOf tight until run
    unfolding tight
    run_of_tight until run h = record {
      legal = legal_lowered (margin_of plan) plan.streams lowered.0 lowered.1 (ticks_of plan.rate) until run h.legal;
      obeying = obeying_lowered (margin_of plan) plan.streams lowered.0 lowered.1 (ticks_of plan.rate) until run h.obeying;
    }

    tight_kept : (until : ℕ) (run : List Instance) → IsRunOf plan until run → IsKept tight until run
    unfolding tight
    tight_kept until run legal =
        let passes = kept_with_margin net.equipment.rates net.set (length net.rows) plan planned lowered.0 lowered.1
        is.streams.count (have_deadlines net is plan planned) (provisional net is plan planned) is.synced in
        let fine : AreOnTime plan.rate lowered.0 (length plan.ids) = subst (λ (n : ℕ). AreOnTime plan.rate lowered.0 n) (sym planned.count) passes.0 in
        kept tight fine passes.1 until run (run_of_tight until run legal)

    -- each instance ends by the margin before the deadline
    pub all_kept_before : (p : ℕ) (k : Stream) (d : ℕ) → slice_get plan.streams p ≡ Some k → k.deadline ≡ Some d → (until : ℕ) (run : List Instance) → IsRunOf plan until run
        → All (λ y. y.id ≡ k.id → IsOnTime (ticks_of plan.rate) until (Some (d - margin_of plan)) y) run
    unfolding tight
    all_kept_before p k d here dated until run legal =
        All-weaker (λ y. y.id ≡ t.0.id → IsOnTime (ticks_of plan.rate) until t.0.deadline y) (λ y. y.id ≡ k.id → IsOnTime (ticks_of plan.rate) until (Some (d - margin_of plan)) y)
        (λ y h same. subst (λ (o : Option ℕ). IsOnTime (ticks_of plan.rate) until o y) less (h (same ∙ sym t.2))) run
        (elim (cases_lt p (length plan.ids)) [ inl low ↦ is_kept.on_time t.0 (p, low, t.1) | inr past ↦ is_kept.frames t.0 (p, tested past, t.1) ])
      where
        t : (t : Stream) × (slice_get lowered.0 p ≡ Some t) × (t.id ≡ k.id) × (t.deadline ≡ option_map (λ d. d - margin_of plan) k.deadline)
        t = lowered_here (margin_of plan) plan.streams lowered.0 lowered.1 p k here

        less : t.0.deadline ≡ Some (d - margin_of plan)
        less = t.3 ∙ ap (option_map (λ d. d - margin_of plan)) dated

        is_kept : IsKept tight until run
        is_kept = tight_kept until run legal

        tested : length plan.ids ≤ p → IsTested lowered.0 (length plan.ids) p
        tested past = tested_after (λ _. margin_of plan) plan.streams lowered.0 lowered.1 plan.rate (length plan.ids) p (tested_at net is plan planned p k d past here dated)

    -- the same by what is known of the stream
    on_time : (p : ℕ) (k : Stream) (id d : ℕ) → slice_get plan.streams p ≡ Some k → k.id ≡ id → k.deadline ≡ Some d → AreOnTimeIn plan id (d - margin_of plan)
    on_time p k id d here its dated until run legal =
        All-weaker (λ y. y.id ≡ k.id → IsOnTime (ticks_of plan.rate) until (Some (d - margin_of plan)) y) (λ y. y.id ≡ id → IsOnTime (ticks_of plan.rate) until (Some (d - margin_of plan)) y)
        (λ y h same. h (same ∙ sym its)) run (all_kept_before p k d here dated until run legal)

    pdos_on_time : (p : ℕ) (row : PdoRow) → slice_get net.rows p ≡ Some row → AreOnTimeIn plan (id_of plan.ids p) (ticks row.deadline - margin_of plan)
    pdos_on_time p row there =
        let k = pdo_of net is plan planned p row there in on_time p k.0 (id_of plan.ids p) (ticks row.deadline) k.1.here k.1.id k.1.deadline

    frame_of : (row : FrameRow) → Contains net.nodes.frames row → row.period ≢ 0 → (k : Stream) × IsFrameOf net.nodes.frames plan row k
    frame_of row at some = let k = frame_at net is plan planned row at some in (k.2, k.4)

    frames_on_time : (row : FrameRow) (d : ℕ) → Contains net.nodes.frames row → row.deadline ≡ Some d → AreOnTimeIn plan (base_of row.kind + row.node) (ticks d - margin_of plan)
    frames_on_time row d at dated =
        let its = All-contains (IsFrame net.nodes.devices) net.nodes.frames row is.nodes.frames at in
        let k = frame_at net is plan planned row at (sent_row row d dated its.deadline) in
        on_time k.0 k.2 (base_of row.kind + row.node) (ticks d) k.3 (k.4.id ∙ dated_id (errors_in net.nodes.frames) row (dated_kind row d dated its.deadline)) (k.4.deadline ∙ ap (option_map ticks) dated)

    pub plan_distinct : AreDistinct plan.streams
    plan_distinct = distinct_renamed net.set plan.streams (length net.rows) (id_of plan.ids) planned.passing.0 (has_pdos net is) planned.renamed

    pub ids_within : length plan.ids ≤ length plan.streams
    ids_within = let count = same_count plan.rate net.set plan.streams (length net.rows) (id_of plan.ids) planned.renamed in omega (arith, count, planned.count, is.streams.count)

    pdo_high : (p : ℕ) → p < length net.rows → 2 ≤ id_of plan.ids p
    pdo_high p low = let least = none_lower (length net.rows) (id_of plan.ids) planned.passing.0 p low in omega (arith, least)

    pdos_through : (p : ℕ) (row : PdoRow) → slice_get net.rows p ≡ Some row → AreOnTimeThrough plan (id_of plan.ids p) (ticks row.deadline - margin_of plan)
    pdos_through p row there = through plan plan_distinct (id_of plan.ids p) (ticks row.deadline - margin_of plan) (pdo_high p (slice_get_within net.rows p row there)) (pdos_on_time p row there)

    frames_through : (row : FrameRow) (d : ℕ) → Contains net.nodes.frames row → row.deadline ≡ Some d → AreOnTimeThrough plan (base_of row.kind + row.node) (ticks d - margin_of plan)
    frames_through row d at dated =
        let its = All-contains (IsFrame net.nodes.devices) net.nodes.frames row is.nodes.frames at in
        let high = high_base row.kind (dated_kind row d dated its.deadline) in
        through plan plan_distinct (base_of row.kind + row.node) (ticks d - margin_of plan) (omega (arith, high.0)) (frames_on_time row d at dated)

    -- each transfer of a stream that passes takes at most its greatest response
    responses : (p response : ℕ) (k : Stream) → slice_get plan.streams p ≡ Some k → PassesBy (place_by_id plan.streams p plan.rate) response → AreOnTimeIn plan k.id response
    responses p response k here passes until run legal = (kept plan (fine net is plan planned) (synced net is plan planned) until run legal).responses p response k here passes

    printed : (verdicts : List Verdict) → AreVerdicts plan.rate plan.streams verdicts (length net.rows) → ArePrinted net (Planned plan) verdicts
    printed verdicts judged p row there =
        let low : p < length net.rows = slice_get_within net.rows p row there in
        let k = pdo_of net is plan planned p row there in
        let by : PassesBy (place_by_id plan.streams p plan.rate) (response_of (get_or verdicts p Long)) =
        passing_by (place_by_id plan.streams p plan.rate) (get_or verdicts p Long) (judged.1 p low) ((fine net is plan planned).pass p (omega (arith, low, planned.count))) in
        let bounds : AreOnTimeIn plan (id_of plan.ids p) (response_of (get_or verdicts p Long)) =
        λ until run legal. All-weaker (λ y. y.id ≡ k.0.id → IsOnTime (ticks_of plan.rate) until (Some (response_of (get_or verdicts p Long))) y) (λ y. y.id ≡ id_of plan.ids p → IsOnTime (ticks_of plan.rate) until (Some (response_of (get_or verdicts p Long))) y)
        (λ y h same. h (same ∙ sym k.1.id)) run (responses p (response_of (get_or verdicts p Long)) k.0 k.1.here by until run legal) in
        record {
          greatest = by;
          within = within_deadline (place_by_id plan.streams p plan.rate) (response_of (get_or verdicts p Long)) (ticks row.deadline) by (ap (option_and_then (λ (s : Stream). s.deadline)) k.1.here ∙ k.1.deadline);
          bounds = bounds;
          through_errors = through plan plan_distinct (id_of plan.ids p) (response_of (get_or verdicts p Long)) (pdo_high p low) bounds;
        }

  pub are_printed : (outcome : Outcome) (verdicts : List Verdict) → IsOutcome net.equipment.rates net.set (length net.rows) outcome → ArePlanVerdicts outcome verdicts (length net.rows) → ArePrinted net outcome verdicts
  are_printed (Planned plan) verdicts h judged = printed plan h verdicts judged
  are_printed (Refused refusals) verdicts h judged = tt

  pub guaranteed : (outcome : Outcome) → IsOutcome net.equipment.rates net.set (length net.rows) outcome → IsGuaranteed net outcome
  guaranteed (Planned plan) h = (
    h,
    record {
      pdos = pdo_of net is plan h;
      on_time = pdos_on_time plan h;
      frames = frame_of plan h;
      no_other = no_other net is plan h;
      frames_on_time = frames_on_time plan h;
      responses = responses plan h;
      errors = errors_counted net is plan h;
      through_errors = pdos_through plan h;
      frames_through_errors = frames_through plan h;
    },
  )
  guaranteed (Refused refusals) h = h
