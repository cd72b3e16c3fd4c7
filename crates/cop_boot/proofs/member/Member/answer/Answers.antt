use Rattle.std.proofs.Common.{ap, inl}
use Rattle.cop_sdo.specs.Message.{message_of}
use Rattle.cop_sdo.specs.Client.{is_idle}
use Rattle.cop_boot.specs.Member.{seen}
use Rattle.cop_boot.proofs.MemberLemmas.{aborted_moves, ended_moves, ended_rests}
use Rattle.cop_boot.proofs.member.Member.answer.Goals as goal

pub returns-in-Aborted-clause-moves : goal.returns-in-Aborted-clause-moves
returns-in-Aborted-clause-moves c =
    rw c.aborted-self.ensures
    (aborted_moves (seen c.args.self.now) c.args.self.now.client c.step.new.self (message_of c.args.frame.now) c.args.now c.in-Sending.done c.in-Sending.since c.index-setting.result.now c.in-Sending.is
    c.requires.member.asks c.requires.member.client c.requires.answer c.index-setting.ensures c.in-Aborted.code (λ d. c.in-Aborted.ensures.sure (inl d)))

pub returns-in-Ended-clause-moves : goal.returns-in-Ended-clause-moves
returns-in-Ended-clause-moves c =
    rw c.aborted-self-in-Ended.ensures
    (ended_moves (seen c.args.self.now) c.args.self.now.client c.step.new.self (message_of c.args.frame.now) c.args.now c.in-Sending.done c.in-Sending.since c.index-setting.result.now c.in-Sending.is
    c.requires.member.asks c.requires.member.client c.requires.answer c.index-setting.ensures (message_of c.in-Ended.abort) c.in-Ended.code (λ d. c.in-Ended.ensures.sure (inl d)))

pub returns-in-Ended-clause-member : goal.returns-in-Ended-clause-member
returns-in-Ended-clause-member c =
    let r = ended_rests (seen c.args.self.now) c.args.self.now.client c.step.new.self (message_of c.args.frame.now) c.args.now c.in-Sending.done c.in-Sending.since c.index-setting.result.now c.in-Sending.is
    c.requires.member.asks c.requires.member.client c.requires.answer c.index-setting.ensures (message_of c.in-Ended.abort) c.in-Ended.code (λ d. c.in-Ended.ensures.sure (inl d)) in
    record {
      least = c.requires.member.least;
      greatest = c.requires.member.greatest;
      boots = c.requires.member.boots;
      client = ap (λ x. x.node) r;
      short = c.requires.member.short;
      asks = rw c.aborted-self-in-Ended.ensures (ap (λ x. is_idle x.asking.task) r);
    }
