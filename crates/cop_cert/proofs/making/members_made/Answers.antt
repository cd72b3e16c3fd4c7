use Rattle.std.proofs.Common.{◌≡◌, ◌<◌, length, sym, ◌∙◌, get_or, arith}
use Rattle.std.proofs.lemmas.Bool.{eqb-false}
use Rattle.cop_rta.specs.Test.{is_flagged}
use Rattle.cop_cert.proofs.MemberLemmas.{listed_flagged, turned_twice, has_one}
use Rattle.cop_cert.proofs.MadeLemmas.{fails_under, made_by_flags}
use Rattle.cop_cert.proofs.making.members_made.Goals as goal

pub new-place-requires-clause-some : goal.new-place-requires-clause-some
new-place-requires-clause-some c =
    let empty : length c.args.members.now ≡ 0 → ⊥ = eqb-false (length c.args.members.now) 0 (sym c.is_empty.ensures ∙ c.if-is_empty.false) in
    let some : 0 < length c.args.members.now = omega arith in
    rw (c.turn.ensures, turned_twice c.flag_trial_of.new.out)
    (has_one c.flag_trial_of.new.out (get_or c.args.members.now 0 0)
    (listed_flagged c.args.bound c.args.set.now c.args.pdos c.args.members.now c.flag_trial_of.new.out (λ k. rw c.streams-streams.ensures.items at (c.flag_trial_of.ensures k)) c.requires.fail.inside 0 0 some))

pub members_of-requires-clause-above : goal.members_of-requires-clause-above
members_of-requires-clause-above c =
    rw (c.new-place.ensures, c.turn.ensures, turned_twice c.flag_trial_of.new.out)
    (listed_flagged c.args.bound c.args.set.now c.args.pdos c.args.members.now c.flag_trial_of.new.out
    (λ k. rw c.streams-streams.ensures.items at (c.flag_trial_of.ensures k))
    c.requires.fail.inside)

pub members_of-requires-clause-fails : goal.members_of-requires-clause-fails
members_of-requires-clause-fails c =
    rw (c.new-place.ensures, c.turn.ensures, turned_twice c.flag_trial_of.new.out)
    (fails_under c.args.set.now c.args.rate c.args.members.now _ (is_flagged c.flag_trial_of.new.out)
    (λ k. sym (rw c.streams-streams.ensures.items at (c.flag_trial_of.ensures k)))
    c.requires.fail.fail)

pub returns : goal.returns
returns c =
    made_by_flags c.args.set.now c.args.rate c.args.members.now c.args.bound c.args.pdos (is_flagged c.flag_trial_of.new.out) c.members_of.result
    (λ k. rw c.streams-streams.ensures.items at (c.flag_trial_of.ensures k))
    (rw (c.new-place.ensures, c.turn.ensures, turned_twice c.flag_trial_of.new.out) at c.members_of.ensures)
