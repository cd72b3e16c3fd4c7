use Rattle.std.proofs.Common.{◌≡◌, ◌∙◌, ℕ, Bool, true, false, sym, ap, subst}
use Rattle.cop_rta.specs.Test.{place_among, is_flagged}
use Rattle.cop_rta.specs.Verdict.{IsJudged}
use Rattle.cop_cert.specs.Sets.{is_in_trial}
use Rattle.cop_plan.specs.Caps.{is_judged, bound_of, best_place}
use Rattle.cop_plan.proofs.CapLemmas.{cap_judged, cap_free, cap_undated}
use Rattle.cop_plan.proofs.DeadlineLemmas.{deadline_read}
use Rattle.cop_plan.proofs.caps.cap_of.Goals as goal

pub returns-in_default : goal.returns-in_default
returns-in_default c = sym (cap_undated c.args.rate c.args.set.now c.args.pdos c.args.k (deadline_read c.args.set.now c.streams-streams.result.now c.args.k c.index-streams-k.result c.streams-streams.ensures.items c.requires c.index-streams-k.is ∙ c.in_default.is))

pub returns-then-not-is_judged : goal.returns-then-not-is_judged
returns-then-not-is_judged c =
    let free : is_judged c.args.set.now c.args.pdos c.args.k ≡ false = rw c.streams-streams.ensures.items at (sym c.is_judged.ensures ∙ c.if-not-is_judged.true) in
    sym (cap_free c.args.rate c.args.set.now c.args.pdos c.args.k c.in-Some.deadline (deadline_read c.args.set.now c.streams-streams.result.now c.args.k c.index-streams-k.result c.streams-streams.ensures.items c.requires c.index-streams-k.is ∙ c.in-Some.is) free)

pub returns : goal.returns
returns c =
    let judged : is_judged c.args.set.now c.args.pdos c.args.k ≡ true = rw c.streams-streams.ensures.items at (sym c.is_judged.ensures ∙ c.if-not-is_judged.false) in
    let bound : c.bound_of.result ≡ bound_of c.args.set.now c.args.pdos c.args.k = rw c.streams-streams.ensures.items at c.bound_of.ensures in
    let flags : (j : ℕ) → is_flagged c.flag_fixed.new.out j ≡ is_in_trial c.bound_of.result c.args.set.now c.args.pdos (λ _. false) j = rw c.streams-streams.ensures.items at c.flag_fixed.ensures.each in
    let tests : is_flagged c.flag_fixed.new.out ≡ is_in_trial (bound_of c.args.set.now c.args.pdos c.args.k) c.args.set.now c.args.pdos (λ _. false) =
    (λ i j. flags j i) ∙ ap (λ (n : ℕ). is_in_trial n c.args.set.now c.args.pdos (λ _. false)) bound in
    c.left_of.ensures (best_place c.args.rate c.args.set.now c.args.pdos c.args.k) c.requires (deadline_read c.args.set.now c.streams-streams.result.now c.args.k c.index-streams-k.result c.streams-streams.ensures.items c.requires c.index-streams-k.is ∙ c.in-Some.is)
    (subst (λ (above : ℕ → Bool). IsJudged (place_among c.args.set.now above c.args.k c.args.rate) c.verdict.result) tests c.verdict.ensures.judged)
    ∙ sym (cap_judged c.args.rate c.args.set.now c.args.pdos c.args.k c.in-Some.deadline (deadline_read c.args.set.now c.streams-streams.result.now c.args.k c.index-streams-k.result c.streams-streams.ensures.items c.requires c.index-streams-k.is ∙ c.in-Some.is) judged)
