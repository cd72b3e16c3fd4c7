-- The test and its form by witnesses are the same.
use Rattle.std.proofs.Common.{ℕ, ◌+◌, ◌-◌, ◌*◌, ◌<◌, ◌≤◌, ◌≡◌, arith, sym, le_refl, refl, length, le_trans, le_of_eq}
use Rattle.cop_rta.specs.Test.{StreamPlace, Passes, busy_at, queueing_at, cost_at, jitter_at, period_at}
use Rattle.cop_rta.specs.TestLemmas.{busy_at-mono, queueing_at-mono}
use Rattle.cop_rta.specs.Witnesses.{HasWitnesses}
use Rattle.cop_rta.proofs.LeastLemmas.{climb, least_exists}
use Rattle.cop_rta.proofs.QueueLemmas.{busy_at_pos}

over : (a x r d : ℕ) → r ≡ a - x → r ≤ d → a ≤ d + x
over a x r d e h = omega arith

under_deadline : (a w x d : ℕ) → w ≤ a → a ≤ d + x → w - x ≤ d
under_deadline a w x d h e = omega arith

pub passes_has_witnesses : (p : StreamPlace) → Passes p → HasWitnesses p
passes_has_witnesses p passes = record {
  time = passes.time;
  started = passes.busy.within;
  within = passes.within;
  closed = le_of_eq (sym passes.busy.solves);
  each = λ q queued.
      let r = passes.on_time q queued in
      (r.1.wait, le_of_eq (sym r.1.queueing.solves), λ d is. over (jitter_at p + r.1.wait + cost_at p) (q * period_at p) r.0 d r.1.response (r.2 d is));
}

later : (x t u j : ℕ) → x < t + j → t ≤ u → x < u + j
later x t u j h e = omega arith

sooner : (j w w' c : ℕ) → w ≤ w' → j + w + c ≤ j + w' + c
sooner j w w' c h = omega arith

pub witnesses_pass : (p : StreamPlace) → p.index < length p.streams → HasWitnesses p → Passes p
witnesses_pass p inside shown =
    let u : ℕ = shown.time in
    let t = climb (busy_at p) 1 u (record { mono = busy_at-mono p }) shown.closed u 1 (record { started = le_refl 1; rises = busy_at_pos p inside; passed_none = λ y s e. s }) shown.started (omega arith) in
    record {
      time = t.0;
      busy = t.1;
      within = le_trans t.2 shown.within;
      on_time = λ q queued.
          let w = shown.each q (later (q * period_at p) t.0 u (jitter_at p) queued t.2) in
          let v = least_exists (queueing_at p q) w.0 (record { mono = queueing_at-mono p q }) w.1 in
          (jitter_at p + v.0 + cost_at p - q * period_at p, record { wait = v.0; queueing = v.1; response = refl }, λ d is. under_deadline (jitter_at p + w.0 + cost_at p) (jitter_at p + v.0 + cost_at p) (q * period_at p) d (sooner (jitter_at p) v.0 w.0 (cost_at p) v.2) (w.2 d is));
    }
