use Rattle.std.proofs.Common.{length}
use Rattle.std.specs.List.{All}
use Rattle.cop_eds.specs.Lines.{IsWithin}
use Rattle.cop_eds.specs.Index.{IsIndex}
use Rattle.cop_eds.proofs.KeyLemmas.{first_within}
use Rattle.cop_eds.proofs.sections.Sections.find.Goals as goal

pub returns-then-self-clause-within : goal.returns-then-self-clause-within
returns-then-self-clause-within c =
    let index : IsIndex c.self.inside.source.now c.deref.result.now c.deref-then-self.result.now =
    rw (c.deref.ensures.value, c.deref-then-self.ensures.value) (c.self.invariant.by_name c.if-self.true) in
    let within : All (IsWithin (length c.self.inside.source.now)) c.deref.result.now = rw c.deref.ensures.value c.self.invariant.within in
    rw (← c.self.view_is, c.find_in.ensures c.self.inside.source.now index) (first_within _ 1 _ _ within)

pub returns-else-self-clause-within : goal.returns-else-self-clause-within
returns-else-self-clause-within c =
    let within : All (IsWithin (length c.self.inside.source.now)) c.deref-else-self.result.now = rw c.deref-else-self.ensures.value c.self.invariant.within in
    rw (← c.self.view_is, c.find_ticket.ensures) (first_within _ 1 _ _ within)
