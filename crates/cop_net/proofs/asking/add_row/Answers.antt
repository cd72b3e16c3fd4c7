use Rattle.cop_net.proofs.AskingLemmas.{ask_keeps}
use Rattle.cop_net.proofs.asking.add_row.Goals as goal

pub returns-in_err-push-in-Ok-Some-clause-initial : goal.returns-in_err-push-in-Ok-Some-clause-initial
returns-in_err-push-in-Ok-Some-clause-initial c =
    ask_keeps c.args.dictionary.now c.ask.new.dict c.args.node c.args.row.now.index c.args.row.now.sub c.args.row.now.amount c.in-Ok-Some.field-0 c.in-Ok-Some.ensures

pub returns-in_ok-push-in-Ok-Some-clause-initial : goal.returns-in_ok-push-in-Ok-Some-clause-initial
returns-in_ok-push-in-Ok-Some-clause-initial c =
    ask_keeps c.args.dictionary.now c.ask.new.dict c.args.node c.args.row.now.index c.args.row.now.sub c.args.row.now.amount c.in-Ok-Some.field-0 c.in-Ok-Some.ensures

pub returns-in-Ok-None-clause-initial : goal.returns-in-Ok-None-clause-initial
returns-in-Ok-None-clause-initial c =
    ask_keeps c.args.dictionary.now c.ask.new.dict c.args.node c.args.row.now.index c.args.row.now.sub c.args.row.now.amount c.in-Ok-None.field-0 c.in-Ok-None.ensures
