use Rattle.std.proofs.lemmas.Result.{err_from_is_err_and}
use Rattle.cop_net.specs.Faults.{refusal}
use Rattle.cop_net.specs.Pdos.{consumer_added}
use Rattle.cop_net.proofs.FoldLemmas.{goes_on, fails, ends}
use Rattle.cop_net.proofs.pdos.add_consumers.Goals as goal

pub returns-in_err-add_consumer : goal.returns-in_err-add_consumer
returns-in_err-add_consumer c =
    let p = err_from_is_err_and c.from_residual.result c.from_residual.ensures.1 in
    rw (p.1, p.2)
    (fails (consumer_added c.args.devices.now.devices c.args.signals c.args.place c.args.sent.now) c.args.consumers.now c.loop-consumer.consumer-index _ c.loop-consumer.used (refusal c.in_err-add_consumer.field-0.0) _
    c.loop-consumer-test.true c.loop-consumer.invariant c.in_err-add_consumer.ensures)

pub loop-consumer-preserved : goal.loop-consumer-preserved
loop-consumer-preserved c =
    goes_on (consumer_added c.args.devices.now.devices c.args.signals c.args.place c.args.sent.now) c.args.consumers.now c.loop-consumer.consumer-index _ c.loop-consumer.used c.add_consumer.new.used _
    c.loop-consumer-test.true c.in_ok-add_consumer.ensures c.loop-consumer.invariant

pub returns : goal.returns
returns c =
    ends (consumer_added c.args.devices.now.devices c.args.signals c.args.place c.args.sent.now) c.args.consumers.now c.loop-consumer.consumer-index c.loop-consumer.used _ c.loop-consumer-test.false
    c.loop-consumer.invariant
