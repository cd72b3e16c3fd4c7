-- A judged trace has no late instance.
use Rattle.std.proofs.Common.{◌≡◌, ℕ, ◌+◌, ◌≤◌, Bool, cond, List, [], ◌∷◌, length, get_or, slice_get, inl, Option, None, Some, IfSome, Ok, Err, Result, MatchResult, inr, All, refl, sym, subst, ap, ◌∙◌, arith}
use Rattle.std.specs.Prelude.{fold}
use Rattle.std.proofs.lemmas.Bool.{cases_lt}
use Rattle.std.proofs.lemmas.Option.{slice_get-get_or}
use Rattle.cop_frame.specs.Rate.{ticks_of}
use Rattle.cop_frame.specs.declared.rates.Rate.{Rate}
use Rattle.cop_rta.specs.declared.streams.Stream.{Stream}
use Rattle.cop_bus.specs.declared.steps.Step.{Step}
use Rattle.cop_bus.specs.declared.steps.Step.TheVariants as steps
use Rattle.cop_bus.specs.Run.{Instance, IsLegal, IsObeying, IsOnTime}
use Rattle.cop_bus.specs.Trace.{instances, IsLegalTrace}
use Rattle.cop_bus.specs.Judge.{first_broken}
use Rattle.cop_bus.specs.Late.{first_late}
use Rattle.cop_bus.proofs.LateLemmas.{none-found}
use Rattle.cop_net.specs.Devices.{File}
use Rattle.cop_rta.specs.Streams.{AreDistinct}
use Rattle.cop_rta.specs.Errors.{bus_of}
use Rattle.cop_net.specs.Network.{IsNetwork}
use Rattle.cop_plan.specs.Values.{PlanValue, AreOnTime, on_bus as on_bus_plan}
use Rattle.cop_plan.proofs.BusPlans.{on_time_on_bus, synced_on_bus, tested_on_bus, was_in_set}
use Rattle.cop_sim.specs.Guarantee.{IsKept}
use Rattle.cop_sim.proofs.GuaranteeLemmas.{kept}
use Rattle.cop_plan.specs.declared.assigning.Outcome.{Outcome}
use Rattle.cop_plan.specs.declared.choices.Asked.{Asked}
use Rattle.cop_plan.specs.declared.assigning.Outcome.TheVariants.{Planned, Refused}
use Rattle.cop_engine.specs.declared.faults.Fault.{Fault}
use Rattle.cop_engine.specs.declared.faults.Fault.TheVariants as faults
use Rattle.cop_engine.specs.Networks.{ExplainsNetwork, IsPlannedNetwork}
use Rattle.cop_watch.specs.Knowing.{is_a_start, sent}
use Rattle.cop_watch.specs.Reading.{IsLawful, IsUnlawful}
use Rattle.cop_table.specs.Pieces.{HoldsOfAll}
use Rattle.cop_engine.specs.declared.judgements.Judgement.{Judgement}
use Rattle.cop_engine.specs.Judgements.{IsJudged, IsCleared, IsJudgedBy, ExplainsTrace, IsJudgement, ExplainsJudgement, SaysOnTime, is_start, judged_text, transfers_in, said_of}
use Rattle.cop_engine.proofs.PlanStreams.{fine, synced, tested_at}
use Rattle.cop_engine.proofs.GuaranteeLemmas.{plan_distinct, ids_within}

module _ (asked : Asked) (nodes pdos : List ℕ) (eds : List File) (plan : PlanValue) (n : IsPlannedNetwork asked nodes pdos eds (Planned plan)) where
  abbrev bus : List Stream
  bus = bus_of plan.streams

  -- in each run of the streams of the bus each is on time
  on_bus : (until : ℕ) (run : List Instance) → IsLegal (ticks_of plan.rate) bus until run → All (IsObeying (ticks_of plan.rate) until run) bus
      → (p : ℕ) (k : Stream) → slice_get bus p ≡ Some k → All (λ y. y.id ≡ k.id → IsOnTime (ticks_of plan.rate) until k.deadline y) run
  on_bus until run legal obeying p k here = elim (cases_lt p (length plan.ids)) [ inl low ↦ is_kept.on_time k (p, low, here) | inr past ↦ by_deadline k.deadline refl past ]
    where
      is : IsNetwork n.net
      is = n.said.network

      distinct : AreDistinct plan.streams
      distinct = plan_distinct n.net is plan n.planned

      its_fine : AreOnTime plan.rate plan.streams (length plan.ids)
      its_fine = fine n.net is plan n.planned

      count : length plan.ids ≤ length plan.streams
      count = ids_within n.net is plan n.planned

      is_kept : IsKept (on_bus_plan plan) until run
      is_kept = kept (on_bus_plan plan) (on_time_on_bus plan.streams distinct plan.rate (length plan.ids) count its_fine) (synced_on_bus plan.streams distinct (synced n.net is plan n.planned)) until run
          (record { legal = legal; obeying = obeying })

      by_deadline : (o : Option ℕ) → k.deadline ≡ o → length plan.ids ≤ p → All (λ y. y.id ≡ k.id → IsOnTime (ticks_of plan.rate) until k.deadline y) run
      by_deadline None none past = λ j e low its. subst (λ (o : Option ℕ). IsOnTime (ticks_of plan.rate) until o (get_or run j e)) (sym none) (λ v q. absurd (cc))
      by_deadline (Some d) dated past =
          let s = was_in_set plan.streams distinct p k here in
          let tested = tested_at n.net is plan n.planned p s.0 d past s.1 (s.2 ∙ dated) in
          is_kept.frames k (p, tested_on_bus plan.streams distinct (length plan.ids) p tested, here)

  pub none_late : (until : ℕ) (steps : List Step) → IsLegalTrace (ticks_of plan.rate) bus until steps → first_late (ticks_of plan.rate) bus until steps ≡ None
  none_late until steps legal = none-found (ticks_of plan.rate) bus until steps all (length steps) 0 (omega arith)
    where
      all : All (λ k. All (λ y. y.id ≡ k.id → IsOnTime (ticks_of plan.rate) until k.deadline y) (instances steps)) bus
      all p d h = on_bus until (instances steps) legal.legal legal.obeying p (get_or bus p d) (slice_get-get_or bus p d h)

  -- so a text that says so is the judgement
  cleared_judged : (trace text : List ℕ) → IsCleared plan.rate (bus_of plan.streams) trace text → IsJudged plan.rate (bus_of plan.streams) trace text
  cleared_judged trace text h = record {
    told = h.told;
    read = h.read;
    legal = h.legal;
    text_is = h.text_is ∙ sym (ap (judged_text (transfers_in h.told.steps)) (none_late h.told.until h.told.steps h.legal));
  }

  on_time_says : (trace text : List ℕ) → IsJudged plan.rate (bus_of plan.streams) trace text → SaysOnTime (Planned plan) trace text
  on_time_says trace text j = (j.told, j.read, j.text_is ∙ ap (judged_text (transfers_in j.told.steps)) (none_late j.told.until j.told.steps j.legal))

pub says_on_time : (asked : Asked) (nodes pdos : List ℕ) (eds : List File) (trace text : List ℕ) (outcome : Outcome) → IsPlannedNetwork asked nodes pdos eds outcome → IsJudgedBy outcome trace text → SaysOnTime outcome trace text
says_on_time asked nodes pdos eds trace text (Planned plan) n j = on_time_says asked nodes pdos eds plan n trace text j
says_on_time asked nodes pdos eds trace text (Refused refusals) n j = j

-- ---- what is seen while a trace is read

-- the starts are the transfers
starts_are : (x : Step) → is_a_start x ≡ is_start x
starts_are (steps.Queue id at event frame) = refl
starts_are (steps.Start id at) = refl
starts_are (steps.End id at) = refl

sent_before : (n : ℕ) (xs : List Step) → fold (λ a x. a + cond {A = ℕ} (is_start x) 1 0) n xs ≡ n + sent xs
sent_before n [] = omega arith
sent_before n (x ∷ xs) =
    let one : cond {A = ℕ} (is_a_start x) 1 0 ≡ cond {A = ℕ} (is_start x) 1 0 = ap (λ (b : Bool). cond {A = ℕ} b 1 0) (starts_are x) in
    let rest = sent_before (n + cond {A = ℕ} (is_start x) 1 0) xs in
    omega (arith, one, rest)

sent_are : (xs : List Step) → sent xs ≡ transfers_in xs
sent_are xs = let whole : transfers_in xs ≡ 0 + sent xs = sent_before 0 xs in omega (arith, whole)

-- a trace that breaks no rule is that of a legal run
lawful_cleared : (rate : Rate) (streams : List Stream) (trace text : List ℕ) (count : ℕ) → ((until : ℕ) (xs : List Step) → first_broken (ticks_of rate) streams until xs ≡ None → IsLegalTrace (ticks_of rate) streams until xs)
    → IsLawful (ticks_of rate) streams trace count → text ≡ judged_text count None → IsCleared rate streams trace text
lawful_cleared rate streams trace text count legal w is = record {
  told = w.told;
  read = w.is;
  legal = legal w.told.until w.told.steps w.clean;
  text_is = is ∙ ap (λ (n : ℕ). judged_text n None) (w.sent_is ∙ sent_are w.told.steps);
}

-- the same of all that a reader has left
pub cleared_with : (rate : Rate) (streams : List Stream) (left : Option (List ℕ)) (count : ℕ) → ((until : ℕ) (xs : List Step) → first_broken (ticks_of rate) streams until xs ≡ None → IsLegalTrace (ticks_of rate) streams until xs)
    → HoldsOfAll left (λ trace. IsLawful (ticks_of rate) streams trace count) → (text : List ℕ) → text ≡ judged_text count None → HoldsOfAll left (λ trace. IsCleared rate streams trace text)
cleared_with rate streams left count legal h text is = record { bytes = h.bytes; all = h.all; holds = lawful_cleared rate streams h.bytes text count legal h.holds is }

-- a trace whose first broken rule is seen is explained by it
pub explained_with : (rate : Rate) (streams : List Stream) (left : Option (List ℕ)) (step rule : ℕ) → HoldsOfAll left (λ trace. IsUnlawful (ticks_of rate) streams trace step rule)
    → HoldsOfAll left (λ trace. ExplainsTrace rate streams trace (faults.Refused rule step))
explained_with rate streams left step rule h = record { bytes = h.bytes; all = h.all; holds = inr (h.holds.told, h.holds.is, h.holds.broken) }

-- what is said of every trace
pub said_of_all : (outcome : Outcome) (left : Option (List ℕ)) (text : List ℕ) → ((trace : List ℕ) → IsJudgedBy outcome trace text)
    → (asked : Asked) (nodes pdos : List ℕ) (eds : List File) → IsPlannedNetwork asked nodes pdos eds outcome → HoldsOfAll left (λ trace. IsJudgement asked nodes pdos eds trace text)
said_of_all outcome None text j asked nodes pdos eds n = record { bytes = []; all = tt; holds = record { outcome = outcome; network = n; judged = j [] } }
said_of_all outcome (Some xs) text j asked nodes pdos eds n = record { bytes = xs; all = refl; holds = record { outcome = outcome; network = n; judged = j xs } }

-- where it is known what a reader has left
pub of_known : (xs : List ℕ) (holds_of : List ℕ → Type 0) → HoldsOfAll (Some xs) holds_of → holds_of xs
of_known xs holds_of h = subst holds_of h.all h.holds

-- ---- what each reading gives

pub of_network : (asked : Asked) (nodes pdos : List ℕ) (files : List File) (trace : List ℕ) (fault : Fault) → ExplainsNetwork asked.rates nodes pdos files fault → ExplainsJudgement asked nodes pdos files trace fault
of_network asked nodes pdos files trace (faults.Network r) e = e
of_network asked nodes pdos files trace (faults.Refused number place) e = absurd e
of_network asked nodes pdos files trace faults.Simulation e = e
of_network asked nodes pdos files trace (faults.File name) e = e
of_network asked nodes pdos files trace faults.Usage e = e
of_network asked nodes pdos files trace faults.Memory e = tt

module _ (asked : Asked) (nodes pdos : List ℕ) (files : List File) (trace : List ℕ) where
  pub judged_gives : (plan : PlanValue) (r : Result Judgement Fault) → IsPlannedNetwork asked nodes pdos files (Planned plan)
      → MatchResult r (λ j. IsCleared plan.rate (bus_of plan.streams) trace (said_of j)) (λ fault. ExplainsTrace plan.rate (bus_of plan.streams) trace fault)
      → MatchResult r (λ j. IsJudgement asked nodes pdos files trace (said_of j)) (λ fault. ExplainsJudgement asked nodes pdos files trace fault)
  judged_gives plan (Ok j) n h = record { outcome = Planned plan; network = n; judged = cleared_judged asked nodes pdos files plan n trace (said_of j) h }
  judged_gives plan (Err fault) n h = go fault h
    where
      go : (fault : Fault) → ExplainsTrace plan.rate (bus_of plan.streams) trace fault → ExplainsJudgement asked nodes pdos files trace fault
      go (faults.Network r) h = absurd h
      go (faults.Refused number place) h = (plan, n, h)
      go faults.Simulation h = h
      go (faults.File name) h = h
      go faults.Usage h = h
      go faults.Memory h = h

-- what is seen of a trace is its judgement, or explains why there is none
pub seen_gives : (plan : PlanValue) (left : Option (List ℕ)) (r : Option (Result Judgement Fault))
    → IfSome r (λ judged. HoldsOfAll left (λ trace. MatchResult judged (λ j. IsCleared plan.rate (bus_of plan.streams) trace (said_of j)) (λ fault. ExplainsTrace plan.rate (bus_of plan.streams) trace fault)))
    → IfSome r (λ judged. (asked : Asked) (nodes pdos : List ℕ) (eds : List File) → IsPlannedNetwork asked nodes pdos eds (Planned plan)
    → HoldsOfAll left (λ trace. MatchResult judged (λ j. IsJudgement asked nodes pdos eds trace (said_of j)) (λ fault. ExplainsJudgement asked nodes pdos eds trace fault)))
seen_gives plan left None h = h
seen_gives plan left (Some judged) h = λ asked nodes pdos eds n. record { bytes = h.bytes; all = h.all; holds = judged_gives asked nodes pdos eds h.bytes plan judged n h.holds }
