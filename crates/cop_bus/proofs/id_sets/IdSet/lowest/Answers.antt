use Rattle.std.proofs.Common.{rules, sym, arith, length, ap, subst, get_or, ◌≡◌, ◌*◌, ◌+◌, ℕ, List}
use Rattle.std.specs.Prelude.{Some}
use Rattle.cop_bus.specs.IdSets.{IsLowestHeld, IsLowestBit}
use Rattle.cop_bus.proofs.IdSetLemmas.{lowest_found, none_there}
use Rattle.cop_bus.proofs.id_sets.IdSet.lowest.Goals as goal

pub lowest_in-requires : goal.lowest_in-requires
lowest_in-requires c = (let few = c.self.invariant.fewer in let len = ap (λ (xs : List ℕ). length xs) c.deref.ensures.value in omega (arith, few, len))

pub returns : goal.returns
returns c =
    let held : IsLowestHeld c.self.inside.used.items (Some c.in_ok-word.word) = subst (λ (xs : List ℕ). IsLowestHeld xs (Some c.in_ok-word.word)) c.deref.ensures.value c.in_ok-word.ensures in
    let its : get_or c.self.inside.words.items c.in_ok-word.word 0 ≡ c.in_ok-get.field-0.now = search rules in
    subst (λ (xs : List ℕ). IsLowestHeld xs (Some (64 * c.in_ok-word.word + c.in_ok-bit.bit))) c.self.view_is
    (lowest_found c.self.inside.words.items c.in_ok-word.word c.in_ok-bit.bit (λ v l. none_there c.self.inside.words.items c.self.inside.used.items v c.self.invariant (held.1 v l))
    (subst (λ x. IsLowestBit x (Some c.in_ok-bit.bit)) (sym its) c.in_ok-bit.ensures))
