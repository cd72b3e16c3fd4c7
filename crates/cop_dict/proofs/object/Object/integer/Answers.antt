use Rattle.std.proofs.Common.{◌≤◌, ◌∙◌, length, sym, ap, arith}
use Rattle.smallvec.specs.SmallVec.{small_vec_len}
use Rattle.cop_dict.proofs.NumberLemmas.{short}
use Rattle.cop_dict.proofs.object.Object.integer.Goals as goal

pub number-requires : goal.number-requires
number-requires c =
    let few : small_vec_len c.self.inside.value ≤ 8 = short c.self.inside.description.data_type _ _ _ (sym c.greatest.ensures ∙ c.in-Some.is) c.self.invariant.1 in
    omega (arith, ap length c.as_slice.ensures)
