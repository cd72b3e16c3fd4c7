-- The ends of a run's transfers in whole microseconds are a log of it.
use Rattle.std.proofs.Common.{◌≡◌, ℕ, ◌+◌, ◌-◌, ◌*◌, ◌≤◌, ◌<◌, List, length, arith, sym, subst, mul-le-mul_left}
use Rattle.cop_bus.specs.Run.{Instance}
use Rattle.cop_lines.specs.declared.entries.Entry.{Entry}
use Rattle.cop_log.specs.declared.clocks.Clock.{Clock}
use Rattle.cop_log.specs.Log.{HasLog, IsKept, stamp, most, least, slack}

-- what is left of the ticks that are counted in parts of a slow clock
slow : (d e a b s k : ℕ) → 4 * s ≤ a → b < 4 * (s + k) + 4 → 1 ≤ e
    → 1000000 * b + 4 * s * (1000000 + d) ≤ 1000000 * a + 4 * (s + k) * (1000000 + d) + 4000000 * e
slow d e a b s k f g h = grind (arith, f, g, h)

-- and of a fast one
fast_by : (f e a b s k : ℕ) → f ≤ 1000000 → a < 4 * s + 4 → 4 * (s + k) ≤ b → 1 ≤ e
    → 1000000 * a + 4 * (s + k) * f ≤ 1000000 * b + 4 * s * f + 4000000 * e
fast_by f e a b s k l g h o = let most : k * f ≤ k * 1000000 = mul-le-mul_left k l in grind (arith, most, g, h, o)

fast : (d e a b s k : ℕ) → a < 4 * s + 4 → 4 * (s + k) ≤ b → 1 ≤ e
    → 1000000 * a + 4 * (s + k) * (1000000 - d) ≤ 1000000 * b + 4 * s * (1000000 - d) + 4000000 * e
fast d e a b s k g h o = fast_by (1000000 - d) e a b s k (omega arith) g h o

-- the later stamp is so many microseconds after the earlier one
behind : (a b s t : ℕ) → a < b → 4 * s ≤ a → b < 4 * t + 4 → s + (t - s) ≡ t
behind a b s t l f g = omega arith

pub kept_is_log : (tau : ℕ) (clock : Clock) (until : ℕ) (run : List Instance) (log : List Entry) → 1 ≤ clock.error → IsKept tau until run log → HasLog tau clock until run log
kept_is_log tau clock until run log e kept = record {
  end = kept.end;
  seen = kept.seen;
  by_end = kept.by_end;
  in_order = kept.in_order;
  not_slow = λ i j l m.
      let i_in : i < length log = omega arith in
      let more = behind (kept.end i) (kept.end j) (stamp log i) (stamp log j) (kept.in_order i j l m) (kept.stamped i i_in).0 (kept.stamped j m).1 in
      subst (λ t. 1000000 * kept.end j + most clock (stamp log i) ≤ 1000000 * kept.end i + most clock t + slack clock) more
      (slow clock.drift clock.error (kept.end i) (kept.end j) (stamp log i) (stamp log j - stamp log i) (kept.stamped i i_in).0
      (subst (λ t. kept.end j < 4 * t + 4) (sym more) (kept.stamped j m).1) e);
  not_fast = λ i j l m.
      let i_in : i < length log = omega arith in
      let more = behind (kept.end i) (kept.end j) (stamp log i) (stamp log j) (kept.in_order i j l m) (kept.stamped i i_in).0 (kept.stamped j m).1 in
      subst (λ t. 1000000 * kept.end i + least clock t ≤ 1000000 * kept.end j + least clock (stamp log i) + slack clock) more
      (fast clock.drift clock.error (kept.end i) (kept.end j) (stamp log i) (stamp log j - stamp log i) (kept.stamped i i_in).1
      (subst (λ t. 4 * t ≤ kept.end j) (sym more) (kept.stamped j m).0) e);
}
