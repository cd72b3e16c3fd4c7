use Rattle.std.proofs.Common.{refl}
use Rattle.cop_boot.proofs.TurnLemmas.{fresh_bus}
use Rattle.cop_boot.proofs.bus.Bus.new.Goals as goal

pub returns : goal.returns
returns c =
    (fresh_bus _ refl refl, c.in_ok-with_capacity.ensures.items, c.in_ok-with_capacity-2.ensures.items, c.in_ok-with_capacity.ensures.capacity, c.in_ok-with_capacity-2.ensures.capacity, refl, refl)
