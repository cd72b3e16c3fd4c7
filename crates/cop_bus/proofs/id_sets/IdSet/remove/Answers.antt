use Rattle.std.proofs.Common.{rules, sym, ◌∙◌, ◌≡◌, ◌<◌, ◌/◌, arith, length, refl, get_or}
use Rattle.std.proofs.lemmas.Bool.{lt-ltb, le-ltb}
use Rattle.std.proofs.lemmas.List.{get_or_read}
use Rattle.cop_bus.proofs.IdSetLemmas.{used_again}
use Rattle.cop_bus.proofs.id_sets.IdSet.remove.Goals as goal

pub invariant_of-self : goal.invariant_of-self
invariant_of-self c =
    let word = c.from-id.result / 64 in
    let inside : word < length c.clear_bit.new.words.items = search rules in
    let read : c.index.result.now ≡ get_or c.clear_bit.new.words.items word 0 = get_or_read c.clear_bit.new.words.items word c.index.result.now inside c.index.ensures 0 in
    let none = c.if-index-eq0.true in
    used_again c.self.inside.words.items c.self.inside.used.items c.from-id.result c.self.invariant c.clear_bit.new.words.items c.clear_bit-then-index-eq0.new.words.items c.clear_bit.ensures.count c.clear_bit-then-index-eq0.ensures.count c.clear_bit.ensures.apart c.clear_bit-then-index-eq0.ensures.others
    (c.clear_bit-then-index-eq0.ensures.here ∙ sym (le-ltb 0 (get_or c.clear_bit.new.words.items word 0) (omega (arith, none, read))))

pub invariant_of-self-else-index-eq0 : goal.invariant_of-self-else-index-eq0
invariant_of-self-else-index-eq0 c =
    let word = c.from-id.result / 64 in
    let inside : word < length c.clear_bit.new.words.items = search rules in
    let read : c.index.result.now ≡ get_or c.clear_bit.new.words.items word 0 = get_or_read c.clear_bit.new.words.items word c.index.result.now inside c.index.ensures 0 in
    let some = c.if-index-eq0.false in
    let fewer = c.clear_bit.ensures.fewer word in
    used_again c.self.inside.words.items c.self.inside.used.items c.from-id.result c.self.invariant c.clear_bit.new.words.items c.self.inside.used.items c.clear_bit.ensures.count refl c.clear_bit.ensures.apart (λ w d. refl)
    (c.self.invariant.each word ∙ lt-ltb 0 _ (omega (arith, some, read, fewer)) ∙ sym (lt-ltb 0 _ (omega (arith, some, read))))
