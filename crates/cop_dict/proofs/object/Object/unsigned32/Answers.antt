use Rattle.std.proofs.Common.{◌≡◌, length, arith, ap}
use Rattle.smallvec.specs.SmallVec.{small_vec_len}
use Rattle.cop_dict.specs.Types.{width_of}
use Rattle.cop_dict.proofs.object.Object.unsigned32.Goals as goal

pub number-requires : goal.number-requires
number-requires c =
    let four : small_vec_len c.self.inside.value ≡ 4 = (c.self.invariant.1 4 (ap width_of c.in-Unsigned32.is)).1 in
    omega (arith, ap length c.as_slice.ensures)

pub returns-in-Unsigned32-clause-bound : goal.returns-in-Unsigned32-clause-bound
returns-in-Unsigned32-clause-bound c =
    let four : small_vec_len c.self.inside.value ≡ 4 = (c.self.invariant.1 4 (ap width_of c.in-Unsigned32.is)).1 in
    let len : length c.as_slice.result.now ≡ 4 = omega (arith, ap length c.as_slice.ensures) in
    rw len at c.number.ensures.bound
