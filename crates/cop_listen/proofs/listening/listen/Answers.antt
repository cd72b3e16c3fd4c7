use Rattle.cop_live.specs.declared.opening.Reply.TheVariants as replies
use Rattle.cop_listen.proofs.HearingLemmas.{listened_so, unlistened_so}
use Rattle.cop_listen.proofs.listening.listen.Goals as goal

pub returns-in-Passive-clause-listened : goal.returns-in-Passive-clause-listened
returns-in-Passive-clause-listened g c =
    listened_so g.P.Port.reads g.P.Port.writes g.P.Port.asks g.L.Listener.hears g.L.Listener.ends c.args.rate c.args.limit replies.Taken c.args.port.now c.open_to_listen.new.port c.attend_and_close.new.port c.args.listener.now c.attend_and_close.new.listener c.attend_and_close.result c.in-Passive.ensures.opened c.attend_and_close.ensures.closed

pub returns-in-Untold-clause-listened : goal.returns-in-Untold-clause-listened
returns-in-Untold-clause-listened g c =
    listened_so g.P.Port.reads g.P.Port.writes g.P.Port.asks g.L.Listener.hears g.L.Listener.ends c.args.rate c.args.limit replies.Silent c.args.port.now c.open_to_listen.new.port c.attend_and_close-in-Untold.new.port c.args.listener.now c.attend_and_close-in-Untold.new.listener c.attend_and_close-in-Untold.result c.in-Untold.ensures.opened c.attend_and_close-in-Untold.ensures.closed

pub returns-in-Active-clause-listened : goal.returns-in-Active-clause-listened
returns-in-Active-clause-listened g c =
    listened_so g.P.Port.reads g.P.Port.writes g.P.Port.asks g.L.Listener.hears g.L.Listener.ends c.args.rate c.args.limit replies.Refused c.args.port.now c.open_to_listen.new.port c.attend_and_close-in-Active.new.port c.args.listener.now c.attend_and_close-in-Active.new.listener c.attend_and_close-in-Active.result c.in-Active.ensures.opened c.attend_and_close-in-Active.ensures.closed

pub returns-in-Passive-clause-failed : goal.returns-in-Passive-clause-failed
returns-in-Passive-clause-failed g c =
    unlistened_so g.P.Port.reads g.P.Port.writes g.P.Port.asks g.L.Listener.hears g.L.Listener.ends c.args.rate c.args.limit replies.Taken c.args.port.now c.open_to_listen.new.port c.attend_and_close.new.port c.args.listener.now c.attend_and_close.new.listener g.P.Port.fails c.attend_and_close.result c.in-Passive.ensures.opened c.attend_and_close.ensures.failed

pub returns-in-Untold-clause-failed : goal.returns-in-Untold-clause-failed
returns-in-Untold-clause-failed g c =
    unlistened_so g.P.Port.reads g.P.Port.writes g.P.Port.asks g.L.Listener.hears g.L.Listener.ends c.args.rate c.args.limit replies.Silent c.args.port.now c.open_to_listen.new.port c.attend_and_close-in-Untold.new.port c.args.listener.now c.attend_and_close-in-Untold.new.listener g.P.Port.fails c.attend_and_close-in-Untold.result c.in-Untold.ensures.opened c.attend_and_close-in-Untold.ensures.failed

pub returns-in-Active-clause-failed : goal.returns-in-Active-clause-failed
returns-in-Active-clause-failed g c =
    unlistened_so g.P.Port.reads g.P.Port.writes g.P.Port.asks g.L.Listener.hears g.L.Listener.ends c.args.rate c.args.limit replies.Refused c.args.port.now c.open_to_listen.new.port c.attend_and_close-in-Active.new.port c.args.listener.now c.attend_and_close-in-Active.new.listener g.P.Port.fails c.attend_and_close-in-Active.result c.in-Active.ensures.opened c.attend_and_close-in-Active.ensures.failed
