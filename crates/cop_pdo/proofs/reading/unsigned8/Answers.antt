use Rattle.std.proofs.Common.{◌≡◌, arith, refl}
use Rattle.cop_dict.specs.declared.data_type.DataType.TheVariants as types
use Rattle.cop_pdo.proofs.reading.unsigned8.Goals as goal

pub number-requires : goal.number-requires
number-requires c =
    let d : c.args.entry.now.description.data_type ≡ types.Unsigned8 = rw c.description.ensures at c.in-Unsigned8.is in
    let sized = (rw d at c.value.ensures.sized) 1 refl in
    rw c.value.ensures.value (omega (arith, sized.1))
