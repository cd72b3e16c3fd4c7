use Rattle.std.proofs.Common.{refl, ◌≤◌, ◌<◌, ◌-◌, ◌∙◌, sym, ap, Some}
use Rattle.std.specs.Prelude.{unwrap_or}
use Rattle.cop_live.specs.Session.{State}
use Rattle.cop_identity.specs.Questions.{limit_of}
use Rattle.cop_readback.proofs.ReadingLemmas.{waits_on, was_answered, was_silent, one_turn_since, turn_fails, too_many}
use Rattle.cop_readback.proofs.reading.await_answer.Goals as goal

pub returns-in-Some-answer_from-clause-awaited : goal.returns-in-Some-answer_from-clause-awaited
returns-in-Some-answer_from-clause-awaited g c =
    let before : State = record { manager = c.loop-turn.manager; pending = c.loop-turn.boot.reader } in
    let later : State = record { manager = c.take_turn.new.manager; pending = c.take_turn.new.boot.reader } in
    was_answered g.P.Port.reads g.P.Port.writes g.P.Port.asks c.args.question.now c.args.boot.now.began (record { manager = c.args.manager.now; pending = c.args.boot.now.reader }) c.args.boot.now.booted c.args.port.now
    c.loop-turn._turn c.loop-turn.reader c.loop-turn.first before later c.loop-turn.boot.booted c.take_turn.new.boot.booted c.loop-turn.port c.take_turn.new.port c.in-Some.turn.now _ c.in-Some-answer_from.answer c.loop-turn.invariant.waits
    (one_turn_since g.P.Port.reads g.P.Port.writes g.P.Port.asks c.args.boot.now.began before c.loop-turn.boot.booted c.loop-turn.port c.loop-turn.boot.began c.in-Some.turn.now _ later c.take_turn.new.boot.booted c.take_turn.new.port
    c.loop-turn.invariant.same c.in-Some.ensures.did c.in-Some.ensures.state c.in-Some.ensures.booted)
    (sym c.in-Some-answer_from.is ∙ c.answer_from.ensures.found)

pub returns-then-saturating_sub-limit-clause-awaited : goal.returns-then-saturating_sub-limit-clause-awaited
returns-then-saturating_sub-limit-clause-awaited g c =
    let before : State = record { manager = c.loop-turn.manager; pending = c.loop-turn.boot.reader } in
    let later : State = record { manager = c.take_turn.new.manager; pending = c.take_turn.new.boot.reader } in
    let late : limit_of c.args.question.now.demand ≤ c.in-Some.turn.now - unwrap_or c.loop-turn.first c.in-Some.turn.now = rw (c.limit_of-limit.ensures, c.unwrap_or-since.ensures) at (rw c.saturating_sub.ensures at c.if-saturating_sub-limit.true) in
    was_silent g.P.Port.reads g.P.Port.writes g.P.Port.asks c.args.question.now c.args.boot.now.began (record { manager = c.args.manager.now; pending = c.args.boot.now.reader }) c.args.boot.now.booted c.args.port.now
    c.loop-turn._turn c.loop-turn.reader c.loop-turn.first before later c.loop-turn.boot.booted c.take_turn.new.boot.booted c.loop-turn.port c.take_turn.new.port c.in-Some.turn.now _ c.loop-turn.invariant.waits
    (one_turn_since g.P.Port.reads g.P.Port.writes g.P.Port.asks c.args.boot.now.began before c.loop-turn.boot.booted c.loop-turn.port c.loop-turn.boot.began c.in-Some.turn.now _ later c.take_turn.new.boot.booted c.take_turn.new.port
    c.loop-turn.invariant.same c.in-Some.ensures.did c.in-Some.ensures.state c.in-Some.ensures.booted)
    (sym c.in_default-answer_from.is ∙ c.answer_from.ensures.found) late

pub loop-turn-preserved : goal.loop-turn-preserved
loop-turn-preserved g c =
    let before : State = record { manager = c.loop-turn.manager; pending = c.loop-turn.boot.reader } in
    let later : State = record { manager = c.take_turn.new.manager; pending = c.take_turn.new.boot.reader } in
    let early : c.in-Some.turn.now - unwrap_or c.loop-turn.first c.in-Some.turn.now < limit_of c.args.question.now.demand = rw (c.limit_of-limit.ensures, c.unwrap_or-since.ensures) at (rw c.saturating_sub.ensures at c.if-saturating_sub-limit.false) in
    record {
      same = c.take_turn.ensures.began ∙ c.loop-turn.invariant.same;
      waits = waits_on g.P.Port.reads g.P.Port.writes g.P.Port.asks c.args.question.now c.args.boot.now.began (record { manager = c.args.manager.now; pending = c.args.boot.now.reader }) c.args.boot.now.booted c.args.port.now
          c.loop-turn._turn c.loop-turn.reader c.answer_from.new.reader c.loop-turn.first (Some c.unwrap_or-since.result) before later c.loop-turn.boot.booted c.take_turn.new.boot.booted c.loop-turn.port c.take_turn.new.port c.in-Some.turn.now _ c.loop-turn.invariant.waits
          (one_turn_since g.P.Port.reads g.P.Port.writes g.P.Port.asks c.args.boot.now.began before c.loop-turn.boot.booted c.loop-turn.port c.loop-turn.boot.began c.in-Some.turn.now _ later c.take_turn.new.boot.booted c.take_turn.new.port
          c.loop-turn.invariant.same c.in-Some.ensures.did c.in-Some.ensures.state c.in-Some.ensures.booted)
          (sym c.in_default-answer_from.is ∙ c.answer_from.ensures.found) (c.answer_from.ensures.reader c.in_default-answer_from.is) (ap (λ since. Some since) c.unwrap_or-since.ensures) early;
    }

pub returns-in_default-clause-failed : goal.returns-in_default-clause-failed
returns-in_default-clause-failed g c =
    turn_fails g.P.Port.reads g.P.Port.writes g.P.Port.asks g.P.Port.fails c.args.question.now c.args.boot.now.began (record { manager = c.args.manager.now; pending = c.args.boot.now.reader }) c.args.boot.now.booted c.args.port.now c.loop-turn._turn c.loop-turn.reader c.loop-turn.first c.loop-turn.boot.began (record { manager = c.loop-turn.manager; pending = c.loop-turn.boot.reader })
    c.loop-turn.boot.booted c.loop-turn.port c.take_turn.new.port c.loop-turn.invariant.same c.loop-turn.invariant.waits c.in_default.ensures.failed

pub returns-clause-failed : goal.returns-clause-failed
returns-clause-failed g c =
    too_many g.P.Port.reads g.P.Port.writes g.P.Port.asks g.P.Port.fails c.args.question.now c.args.boot.now.began (record { manager = c.args.manager.now; pending = c.args.boot.now.reader }) c.args.boot.now.booted c.args.port.now c.loop-turn._turn c.loop-turn.reader c.loop-turn.first (record { manager = c.loop-turn.manager; pending = c.loop-turn.boot.reader })
    c.loop-turn.boot.booted c.loop-turn.port c.loop-turn.invariant.waits c.loop-turn-test.false
