use Rattle.std.proofs.Common.{◌≡◌, ◌≤◌, ◌<◌, ℕ, Bool, true, false, inl, inr, subst}
use Rattle.std.proofs.lemmas.Bool.{cases_lt}
use Rattle.cop_log.specs.Log.{most}
use Rattle.cop_log.specs.Watching.{IsRising}
use Rattle.cop_log.proofs.Risen.{first, told, stays, goes_up}
use Rattle.cop_log.proofs.rising.rise_next.Goals as goal

refuted : (b : Bool) → b ≡ true → b ≡ false → ⊥
refuted b t f = absurd (cc)

ahead : (x y : ℕ) (b : Bool) → (x ≤ y → b ≡ true) → b ≡ false → y < x
ahead x y b h f = elim (cases_lt y x) [ inl l ↦ l | inr l ↦ (let t = h l in absurd (refuted b t f)) ]

pub returns-in_default-clause-risen : goal.returns-in_default-clause-risen
returns-in_default-clause-risen c log clean within is w =
    first c.args.clock log c.args.number within clean c.args.entry is (subst (λ x. IsRising c.args.clock log c.args.number x clean) c.in_default.is w)

pub returns-then-is_lower-clause-risen : goal.returns-then-is_lower-clause-risen
returns-then-is_lower-clause-risen c log clean within is w =
    told c.args.clock log c.args.number within clean c.args.entry is c.in-Some.top (subst (λ x. IsRising c.args.clock log c.args.number x clean) c.in-Some.is w) (c.is_lower.ensures.0 c.if-is_lower.true)

pub returns-then-is_behind-clause-risen : goal.returns-then-is_behind-clause-risen
returns-then-is_behind-clause-risen c log clean within is w =
    stays c.args.clock log c.args.number within clean c.args.entry is c.in-Some.top (subst (λ x. IsRising c.args.clock log c.args.number x clean) c.in-Some.is w)
    (λ n. let t = c.is_lower.ensures.1 n in refuted c.is_lower.result t c.if-is_lower.false) (c.is_behind.ensures.0 c.if-is_behind.true)

pub returns-else-is_behind-clause-risen : goal.returns-else-is_behind-clause-risen
returns-else-is_behind-clause-risen c log clean within is w =
    goes_up c.args.clock log c.args.number within clean c.args.entry is c.in-Some.top (subst (λ x. IsRising c.args.clock log c.args.number x clean) c.in-Some.is w)
    (λ n. let t = c.is_lower.ensures.1 n in refuted c.is_lower.result t c.if-is_lower.false)
    (ahead (most c.args.clock c.args.entry.at) (most c.args.clock c.in-Some.top.entry.at) c.is_behind.result c.is_behind.ensures.1 c.if-is_behind.false)
