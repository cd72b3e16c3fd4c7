use Rattle.std.proofs.Common.{◌≡◌, ◌≤◌, ◌<◌, ◌+◌, ◌*◌, ℕ, Bool, true, false, inl, inr, subst, arith}
use Rattle.std.proofs.lemmas.Bool.{cases_lt}
use Rattle.cop_log.specs.Log.{most}
use Rattle.cop_log.specs.Watching.{IsWatched, lane_of}
use Rattle.cop_log.proofs.Watched.{first, told, goes_on, starts_again, few}
use Rattle.cop_log.proofs.watching.watch_next.Goals as goal

refuted : (b : Bool) → b ≡ true → b ≡ false → ⊥
refuted b t f = absurd (cc)

ahead : (x y : ℕ) (b : Bool) → (x ≤ y → b ≡ true) → b ≡ false → y < x
ahead x y b h f = elim (cases_lt y x) [ inl l ↦ l | inr l ↦ (let t = h l in absurd (refuted b t f)) ]

pub returns-in_default-clause-step : goal.returns-in_default-clause-step
returns-in_default-clause-step c log clean within short is own w =
    first (lane_of c.args.watch.now) log c.args.number within clean own c.args.entry is
    (subst (λ a. IsWatched (lane_of c.args.watch.now) log c.args.number a clean) c.in_default.is w)

pub returns-then-is_near-clause-step : goal.returns-then-is_near-clause-step
returns-then-is_near-clause-step c log clean within short is own w =
    told (lane_of c.args.watch.now) log c.args.number within clean own c.args.entry is c.in-Some.anchor
    (subst (λ a. IsWatched (lane_of c.args.watch.now) log c.args.number a clean) c.in-Some.is w) (c.is_near.ensures.0 c.if-is_near.true)

pub returns-then-is_behind-clause-step : goal.returns-then-is_behind-clause-step
returns-then-is_behind-clause-step c log clean within short is own w =
    let v = subst (λ a. IsWatched (lane_of c.args.watch.now) log c.args.number a clean) c.in-Some.is w in
    let n = few (lane_of c.args.watch.now) log c.args.number c.in-Some.anchor clean v in
    goes_on (lane_of c.args.watch.now) log c.args.number within clean own c.args.entry is c.in-Some.anchor c.saturating_add-count.result (let e = c.saturating_add-count.ensures in omega (arith, e, n, within, short)) v
    (λ n. let t = c.is_near.ensures.1 n in refuted c.is_near.result t c.if-is_near.false) (c.is_behind.ensures.0 c.if-is_behind.true)

pub returns-clause-step : goal.returns-clause-step
returns-clause-step c log clean within short is own w =
    starts_again (lane_of c.args.watch.now) log c.args.number within clean own c.args.entry is c.in-Some.anchor
    (subst (λ a. IsWatched (lane_of c.args.watch.now) log c.args.number a clean) c.in-Some.is w)
    (λ n. let t = c.is_near.ensures.1 n in refuted c.is_near.result t c.if-is_near.false)
    (ahead (most c.args.watch.now.clock c.args.entry.at) (most c.args.watch.now.clock c.in-Some.anchor.entry.at + 1000000 * (c.in-Some.anchor.count * c.args.watch.now.stream.period)) c.is_behind.result c.is_behind.ensures.1 c.if-is_behind.false)
