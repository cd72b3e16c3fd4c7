use Rattle.std.proofs.Common.{◌≡◌, ◌⊎◌, ℕ, ◌+◌, ◌<◌, ◌≤◌, List, length, take, get_or, sym, subst, All, Contains, le_trans, arith, inl, inr}
use Rattle.std.proofs.lemmas.List.{take_all}
use Rattle.std.proofs.lemmas.List.Elements.{All-more, Contains-get_or}
use Rattle.cop_figures.specs.declared.times.PdoTimes.{PdoTimes}
use Rattle.cop_figures.specs.Errors.{left, IsLeast}
use Rattle.cop_figures.proofs.errors.least.Goals as goal

-- the lesser of two that are there is there
here_still : (times : List PdoTimes) (best one new : PdoTimes) → Contains times best → Contains times one → (new ≡ best) ⊎ (new ≡ one) → Contains times new
here_still times best one new b o (inl e) = subst (Contains times) (sym e) b
here_still times best one new b o (inr e) = subst (Contains times) (sym e) o

-- none of one more has less
least_more : (times : List PdoTimes) (i : ℕ) (best new d : PdoTimes) → i < length times → left new ≤ left best → left new ≤ left (get_or times i d)
    → All (λ o. left best ≤ left o) (take i times) → All (λ o. left new ≤ left o) (take (i + 1) times)
least_more times i best new d low lb lo all =
    All-more (λ o. left new ≤ left o) times i d low (λ k e inside. le_trans lb (all k e inside)) lo

pub loop-one-init : goal.loop-one-init
loop-one-init c = record {
  here = subst (Contains c.args.times.now) (sym c.first-item.is) (Contains-get_or c.args.times.now 0 c.first-item.result c.in-len1-up.len_at_least);
  least = λ k d inside. absurd (omega arith);
}

pub loop-one-preserved : goal.loop-one-preserved
loop-one-preserved c =
    let times = c.args.times.now in
    let i = c.loop-one.one-index in
    let one = c.one-item.result in
    let there : Contains times one = subst (Contains times) (sym c.one-item.is) (Contains-get_or times i one c.loop-one-test.true) in
    record {
      here = here_still times c.loop-one.best one c.lesser-best.result c.loop-one.invariant.here there c.lesser-best.ensures.one;
      least = least_more times i c.loop-one.best c.lesser-best.result one c.loop-one-test.true c.lesser-best.ensures.first
          (subst (λ o. left c.lesser-best.result ≤ left o) c.one-item.is c.lesser-best.ensures.other) c.loop-one.invariant.least;
    }

pub returns : goal.returns
returns c = record {
  here = c.loop-one.invariant.here;
  least = subst (All (λ o. left c.loop-one.best ≤ left o)) (take_all c.loop-one.one-index c.args.times.now c.loop-one-test.false) c.loop-one.invariant.least;
}
