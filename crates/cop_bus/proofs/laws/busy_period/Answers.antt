use Rattle.std.proofs.Common.{◌++◌, ◌∷◌, ◌≤◌, subst, sym}
use Rattle.cop_rta.specs.Test.{place_by_id}
use Rattle.cop_rta.proofs.JitteredLemmas.{busy_by-its, queueing_by-its}
use Rattle.cop_bus.specs.Run.{jitter_at}
use Rattle.cop_bus.specs.Period.{queued_since}
use Rattle.cop_bus.proofs.Synced.{spread_by_sync}
use Rattle.cop_bus.proofs.PeriodLemmas.{no-gap, lower-before, few, starts}
use Rattle.cop_bus.proofs.RangeLemmas.{in-range}
use Rattle.cop_bus.proofs.PeriodExists.{period_begins}
use Rattle.cop_bus.proofs.laws.busy_period.Goals as goal

pub returns-clause-begins : goal.returns-clause-begins
returns-clause-begins c = period_begins

pub returns-clause-no_gap : goal.returns-clause-no_gap
returns-clause-no_gap c rate streams until pre x post index m t scene synced answers =
    no-gap (jitter_at streams rate) rate streams until pre x post index m t scene.legal.stream scene.legal.legal
    (spread_by_sync rate streams until (pre ++ (x ∷ post)) index m scene.legal synced answers) scene.its scene.since

pub returns-clause-lower_before : goal.returns-clause-lower_before
returns-clause-lower_before c rate streams until pre x post index m t scene synced answers =
    lower-before (jitter_at streams rate) rate streams until pre x post index m t scene.legal.stream scene.legal.legal
    (spread_by_sync rate streams until (pre ++ (x ∷ post)) index m scene.legal synced answers) scene.its scene.since

pub returns-clause-few : goal.returns-clause-few
returns-clause-few c rate streams until pre x post index m t scene synced answers =
    few (jitter_at streams rate) rate streams until pre x post index m t scene.legal.stream scene.legal.legal
    (spread_by_sync rate streams until (pre ++ (x ∷ post)) index m scene.legal synced answers) scene.its scene.since

pub returns-clause-starts : goal.returns-clause-starts
returns-clause-starts c rate streams until pre x post index m t scene synced answers w solves =
    starts (jitter_at streams rate) rate streams until pre x post index m t scene.legal.stream scene.legal.legal
    (spread_by_sync rate streams until (pre ++ (x ∷ post)) index m scene.legal synced answers) scene.its scene.since w
    (subst (λ n. n ≤ w) (sym (queueing_by-its (place_by_id streams index rate) (queued_since m.id t pre) w)) solves)

pub returns-clause-in_range : goal.returns-clause-in_range
returns-clause-in_range c rate streams until pre x post index m t scene synced answers queued b pos solves =
    in-range (jitter_at streams rate) rate streams until pre x post index m t scene.legal.stream scene.legal.legal
    (spread_by_sync rate streams until (pre ++ (x ∷ post)) index m scene.legal synced answers) scene.its scene.since b queued pos
    (subst (λ n. n ≤ b) (sym (busy_by-its (place_by_id streams index rate) b)) solves)
