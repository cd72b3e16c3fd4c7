use Rattle.std.proofs.Common.{refl, arith}
use Rattle.cop_live.proofs.OpeningLemmas.{none_dropped, dry_dropped, more_dropped, read_failed, later_failed}
use Rattle.cop_live.proofs.opening.+drop_said.Goals as goal

pub returns-then-reads-eq0-clause-dropped : goal.returns-then-reads-eq0-clause-dropped
returns-then-reads-eq0-clause-dropped g t c = λ _. none_dropped g.P.Port.reads c.args.reads c.args.port.now c.if-reads-eq0.true

pub returns-in-Some-eq0-clause-dropped : goal.returns-in-Some-eq0-clause-dropped
returns-in-Some-eq0-clause-dropped g t c = λ _.
    dry_dropped g.P.Port.reads c.args.reads c.in-Some-eq0.field-0 _ c.args.port.now c.read.new.self c.if-reads-eq0.false c.in-Some-eq0.field-0-test c.in-Some-eq0.ensures.reads

pub returns-in-Some-clause-dropped : goal.returns-in-Some-clause-dropped
returns-in-Some-clause-dropped g t c = λ ok.
    more_dropped g.P.Port.reads c.args.reads _ c.in-Some.field-0 c.read.new.buffer c.args.port.now c.read.new.self c.drop_said.new.port c.if-reads-eq0.false c.in-Some.field-0-test.1 (omega (arith, c.in-Some.ensures.count)) refl c.in-Some.ensures.reads
    (c.drop_said.ensures.dropped ok)

pub returns-in-Some-clause-failed : goal.returns-in-Some-clause-failed
returns-in-Some-clause-failed g t c = λ no.
    later_failed g.P.Port.reads g.P.Port.fails c.args.reads _ c.in-Some.field-0 c.read.new.buffer c.args.port.now c.read.new.self c.drop_said.new.port c.if-reads-eq0.false c.in-Some.field-0-test.1 (omega (arith, c.in-Some.ensures.count)) refl c.in-Some.ensures.reads
    (c.drop_said.ensures.failed no)

pub returns-in-None-clause-failed : goal.returns-in-None-clause-failed
returns-in-None-clause-failed g t c = λ _.
    read_failed g.P.Port.reads g.P.Port.fails c.args.reads c.args.port.now c.read.new.self c.if-reads-eq0.false c.in-None.ensures.failed
