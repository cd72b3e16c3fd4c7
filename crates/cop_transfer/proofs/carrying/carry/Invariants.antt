use Rattle.std.proofs.Common.{◌≡◌, false}
use Rattle.cop_sdo.specs.Client.{is_idle}
use Rattle.cop_sdo.specs.Message.{message_of}
use Rattle.cop_transfer.proofs.CarryLemmas.{Carries}
use Rattle.cop_transfer.proofs.carrying.carry.Given as goal

abbrev pub invariant-loop-step : goal.invariant-loop-step
invariant-loop-step g l = record {
  node : l.client.node ≡ l.fn.node;
  asking : is_idle l.client.asking.task ≡ false;
  carries : Carries g.P.Port.reads g.P.Port.writes g.P.Port.asks l.fn.limit (record { client = l.fn.client; request = message_of l.fn.first }) l.fn.port l._step (record { client = l.client; request = message_of l.request }) l.port;
}
