use Rattle.std.proofs.Common.{◌≡◌, ◌∙◌, sym}
use Rattle.cop_pdo.specs.Bits.{bytes_for}
use Rattle.cop_pdo.proofs.UnpackLemmas.{ceil_is, stored_fits, stored_length, stored_is, value_there}
use Rattle.cop_pdo.proofs.moving.store.Goals as goal

pub slice_bounds-store-end-2 : goal.slice_bounds-store-end-2
slice_bounds-store-end-2 c =
    let e : c.div_ceil-width.result ≡ bytes_for c.args.mapped.bits = rw c.from.ensures at c.div_ceil-width.ensures ∙ ceil_is c.args.mapped.bits in
    rw c.to_le_bytes.ensures (stored_length c.args.dict.now c.args.direction c.args.mapped c.div_ceil-width.result c.args.value c.requires (sym c.if-is_dummy.ensures) e)

pub store-requires : goal.store-requires
store-requires c =
    let e : c.div_ceil-width.result ≡ bytes_for c.args.mapped.bits = rw c.from.ensures at c.div_ceil-width.ensures ∙ ceil_is c.args.mapped.bits in
    rw c.to_le_bytes.ensures (stored_fits c.args.dict.now c.args.direction c.args.mapped c.div_ceil-width.result c.args.value c.requires (sym c.if-is_dummy.ensures) e)

pub returns-clause-value : goal.returns-clause-value
returns-clause-value c =
    let e : c.div_ceil-width.result ≡ bytes_for c.args.mapped.bits = rw c.from.ensures at c.div_ceil-width.ensures ∙ ceil_is c.args.mapped.bits in
    λ bits v. stored_is c.args.dict.now c.store.new.self c.args.direction c.args.mapped c.div_ceil-width.result c.args.value bits c.requires (sym c.if-is_dummy.ensures) e (rw c.to_le_bytes.ensures at c.store.ensures) v

pub returns-clause-there : goal.returns-clause-there
returns-clause-there c = λ other. rw c.store.ensures (value_there c.args.dict.now c.args.direction other c.args.mapped.index c.args.mapped.sub _)
