use Rattle.std.proofs.Common.{refl, rules}
use Rattle.cop_watch.proofs.BreakLemmas.{busy-breaks, none-breaks, sender-breaks}
use Rattle.cop_watch.proofs.watching.Watch.rule_of_start.Goals as goal

pub returns-then-not-is_idle : goal.returns-then-not-is_idle
returns-then-not-is_idle c = busy-breaks c.args.self.now (c.if-is_joining.ensures refl) c.args.id c.args.at (search rules) (search rules) (c.if-not-is_idle.ensures.busy refl)

pub returns-then-none_waits : goal.returns-then-none_waits
returns-then-none_waits c = none-breaks c.args.self.now (c.if-is_joining.ensures refl) c.args.id c.args.at (search rules) (search rules) (c.if-not-is_idle.ensures.idle refl) (c.if-none_waits.ensures refl)

pub returns : goal.returns
returns c = sender-breaks c.args.self.now (c.if-is_joining.ensures refl) c.args.id c.args.at (search rules) (search rules) c.rule_of_sender.result (c.if-not-is_idle.ensures.idle refl) c.rule_of_sender.ensures
