-- The streams of a plan pass with deadlines lowered by its margin.
use Rattle.std.proofs.Common.{◌≡◌, ℕ, suc, ◌-◌, ◌<◌, ◌≤◌, List, [], ◌∷◌, length, map, Option, Some, None, option_map, refl, sym, ap, ◌∙◌, arith}
use Rattle.std.specs.Option.{ForSome, option_map_or}
use Rattle.cop_frame.specs.declared.rates.Rate.{Rate}
use Rattle.cop_rta.specs.declared.streams.Stream.{Stream}
use Rattle.cop_rta.specs.Entries.{Entry, entry_of}
use Rattle.cop_rta.specs.Greatest.{AreSynced}
use Rattle.cop_cert.specs.Assignments.{least_id}
use Rattle.cop_plan.specs.declared.choices.Kept.{Kept}
use Rattle.cop_plan.specs.Caps.{deadline_of}
use Rattle.cop_plan.specs.Margins.{lower, lowered_entries, AreLoweredBy, AreLowered, Keeps, IsChosenOrder}
use Rattle.cop_plan.specs.Plans.{IsPlan}
use Rattle.cop_plan.specs.Values.{PlanValue, Timing, timing_of, id_of, margin_of, HaveIds, HaveDeadlines, ArePdosHigh, AreOnTime}
use Rattle.cop_plan.proofs.CapLemmas.{above_amount}
use Rattle.cop_plan.proofs.MarginLemmas.{lowered_by_none, same_id, lowered_length, under_lowered, synced_lowered, deadlines_lowered, high_lowered}
use Rattle.cop_plan.proofs.RenameLemmas.{none_lower, on_time_renamed, synced_renamed}
use Rattle.cop_plan.proofs.SamePlace.{same_deadline}

-- ---- streams can be lowered by what is below each deadline

same : (m n : ℕ) → Some m ≡ Some n → m ≡ n
same m n e = cc

one_least : (margin : ℕ) (o : Option ℕ) → ForSome o (λ d. margin < d) → ForSome (option_map (λ d. d - margin) o) (λ d. 1 ≤ d)
one_least margin None h x e = absurd (cc)
one_least margin (Some d) h x e = omega (arith, h d refl, same (d - margin) x e)

still_most : (margin : ℕ) (o : Option ℕ) → ForSome o (λ d. d ≤ 240000000) → ForSome (option_map (λ d. d - margin) o) (λ d. d ≤ 240000000)
still_most margin None h x e = absurd (cc)
still_most margin (Some d) h x e = omega (arith, h d refl, same (d - margin) x e)

less : (margin : ℕ) (s : Stream) → ForSome s.deadline (λ d. margin < d) → Stream
less margin s above = record {
  id = s.id;
  bytes = s.bytes;
  period = s.period;
  jitter = s.jitter;
  deadline = option_map (λ d. d - margin) s.deadline;
  every = s.every;
  id_in_range = s.id_in_range;
  bytes_in_range = s.bytes_in_range;
  period_least = s.period_least;
  period_most = s.period_most;
  jitter_in_range = s.jitter_in_range;
  deadline_least = one_least margin s.deadline above;
  deadline_most = still_most margin s.deadline s.deadline_most;
  every_most = s.every_most;
  synchronous_id = s.synchronous_id;
}

less_entry : (margin : ℕ) (s : Stream) (above : ForSome s.deadline (λ d. margin < d)) → entry_of (less margin s above) ≡ lower margin (entry_of s)
unfolding less
less_entry margin s above = refl

pub can_be_lowered : (amount : ℕ → ℕ) (streams : List Stream) → ((k d : ℕ) → deadline_of streams k ≡ Some d → amount k < d) → (lowered : List Stream) × AreLoweredBy amount streams lowered
can_be_lowered amount [] above = ([], refl)
can_be_lowered amount (s ∷ ss) above =
    let here : ForSome s.deadline (λ d. amount 0 < d) = λ d e. above 0 d e in
    let rest = can_be_lowered (λ k. amount (suc k)) ss (λ k d e. above (suc k) d e) in
    (less (amount 0) s here ∷ rest.0, rw (less_entry (amount 0) s here, rest.1) refl)

-- ---- under a plan's identifiers

less_timings : (ℕ → ℕ) → List Timing → List Timing
less_timings amount [] = []
less_timings amount (t ∷ ts) =
    record { bytes = t.bytes; period = t.period; jitter = t.jitter; deadline = option_map (λ d. d - amount 0) t.deadline; every = t.every } ∷ less_timings (λ k. amount (suc k)) ts

timing_in : Entry → Timing
timing_in e = record { bytes = e.bytes; period = e.period; jitter = e.jitter; deadline = e.deadline; every = e.every }

timings_of : (streams : List Stream) → map timing_in (map entry_of streams) ≡ map timing_of streams
unfolding timing_in
timings_of [] = refl
timings_of (s ∷ ss) = ap (λ (ts : List Timing). timing_of s ∷ ts) (timings_of ss)

timings_less : (amount : ℕ → ℕ) (streams : List Stream) → map timing_in (lowered_entries amount streams) ≡ less_timings amount (map timing_of streams)
unfolding timing_in less_timings
timings_less amount [] = refl
timings_less amount (s ∷ ss) = ap (λ (ts : List Timing). timing_in (lower (amount 0) (entry_of s)) ∷ ts) (timings_less (λ k. amount (suc k)) ss)

lowered_timings : (amount : ℕ → ℕ) (streams lowered : List Stream) → AreLoweredBy amount streams lowered → map timing_of lowered ≡ less_timings amount (map timing_of streams)
lowered_timings amount streams lowered is = sym (timings_of lowered) ∙ ap (λ (es : List Entry). map timing_in es) is ∙ timings_less amount streams

order_kept : (kept : Option Kept) (rate : Rate) (streams : List Stream) (pdos : ℕ) (ids : ℕ → ℕ) → IsChosenOrder kept rate streams pdos ids → Keeps (option_map_or (λ k. k.all) kept 0) rate streams pdos ids
order_kept None rate streams pdos ids h = (streams, lowered_by_none streams, h.2.passes)
order_kept (Some kept) rate streams pdos ids h = h.keeps

module _ (rates : List Rate) (streams : List Stream) (pdos : ℕ) (plan : PlanValue) (is : IsPlan rates streams pdos plan) where
  with_margin : Keeps (margin_of plan) plan.rate streams pdos (id_of plan.ids)
  with_margin = order_kept plan.margin plan.rate streams pdos (id_of plan.ids) is.order

  above : (k d : ℕ) → deadline_of plan.streams k ≡ Some d → margin_of plan < d
  above k d e = above_amount (λ _. margin_of plan) streams with_margin.0 with_margin.1 k d (sym (same_deadline plan.streams streams is.renamed.timings k) ∙ e)

  module _ (renamed : List Stream) (lowered : AreLowered (margin_of plan) plan.streams renamed) where
    have : HaveIds with_margin.0 pdos (id_of plan.ids) renamed
    have = record {
      timings = lowered_timings (λ _. margin_of plan) plan.streams renamed lowered
          ∙ ap (λ (ts : List Timing). less_timings (λ _. margin_of plan) ts) is.renamed.timings
          ∙ sym (lowered_timings (λ _. margin_of plan) streams with_margin.0 with_margin.1);
      each = λ k low.
          same_id (λ _. margin_of plan) plan.streams renamed lowered k
          ∙ is.renamed.each k (omega (arith, low, lowered_length (λ _. margin_of plan) streams with_margin.0 with_margin.1))
          ∙ sym (ap (λ (under : ℕ → ℕ). under k) (under_lowered (λ _. margin_of plan) streams with_margin.0 with_margin.1 plan.rate pdos (id_of plan.ids)));
    }

    pub kept_with_margin : pdos ≤ length streams → HaveDeadlines streams pdos → ArePdosHigh streams pdos → AreSynced streams → AreOnTime plan.rate renamed pdos × AreSynced renamed
    kept_with_margin count deadlines provisional synced =
        let low : (p : ℕ) → p < pdos → least_id ≤ id_of plan.ids p = none_lower pdos (id_of plan.ids) is.passing.0 in
        let high : ArePdosHigh with_margin.0 pdos = high_lowered (λ _. margin_of plan) streams with_margin.0 with_margin.1 pdos provisional in
        let dated : HaveDeadlines with_margin.0 pdos = deadlines_lowered (λ _. margin_of plan) streams with_margin.0 with_margin.1 pdos deadlines in (
          on_time_renamed plan.rate with_margin.0 renamed pdos (id_of plan.ids) have (omega (arith, count, lowered_length (λ _. margin_of plan) streams with_margin.0 with_margin.1)) dated high low with_margin.2,
          synced_renamed plan.rate with_margin.0 renamed pdos (id_of plan.ids) have high low (synced_lowered (λ _. margin_of plan) streams with_margin.0 with_margin.1 synced),
        )

  -- the plan's streams with deadlines lowered by its margin
  pub lowered_plan : (renamed : List Stream) × AreLowered (margin_of plan) plan.streams renamed
  lowered_plan = can_be_lowered (λ _. margin_of plan) plan.streams above
