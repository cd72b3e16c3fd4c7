use Rattle.std.proofs.Common.{refl}
use Rattle.cop_live.proofs.FlagsLemmas.{untold, told_now, told_later, read_failed, later_failed}
use Rattle.cop_live.proofs.flags.+read_flags.Goals as goal

pub returns-then-reads-eq0-clause-told : goal.returns-then-reads-eq0-clause-told
returns-then-reads-eq0-clause-told g t c = untold g.P.Port.reads c.args.reads c.args.line c.args.port.now c.if-reads-eq0.true

pub returns-in_default-clause-failed : goal.returns-in_default-clause-failed
returns-in_default-clause-failed g t c = read_failed g.P.Port.reads g.P.Port.fails c.args.reads c.args.line c.args.port.now c.read.new.self c.if-reads-eq0.false c.in_default.ensures.failed

pub returns-in_default-Some-clause-told : goal.returns-in_default-Some-clause-told
returns-in_default-Some-clause-told g t c =
    told_now g.P.Port.reads c.args.reads c.args.line _ c.in_default-Some.flags c.flags_in.result c.args.port.now c.read.new.self c.if-reads-eq0.false c.flags_in.ensures c.in_default-Some.is-1 c.in-Some.ensures.reads

pub returns-in_default-None-clause-told : goal.returns-in_default-None-clause-told
returns-in_default-None-clause-told g t c =
    told_later g.P.Port.reads c.args.reads _ c.args.line _ c.flags_in.result c.args.port.now c.read.new.self c.read_flags.new.port c.read_flags.result c.if-reads-eq0.false refl c.flags_in.ensures c.in_default-None.is-1 c.in-Some.ensures.reads
    c.read_flags.ensures.told

pub returns-in_default-None-clause-failed : goal.returns-in_default-None-clause-failed
returns-in_default-None-clause-failed g t c =
    later_failed g.P.Port.reads g.P.Port.fails c.args.reads _ c.args.line _ c.flags_in.result c.args.port.now c.read.new.self c.read_flags.new.port c.read_flags.result c.if-reads-eq0.false refl c.flags_in.ensures c.in_default-None.is-1 c.in-Some.ensures.reads
    c.read_flags.ensures.failed
