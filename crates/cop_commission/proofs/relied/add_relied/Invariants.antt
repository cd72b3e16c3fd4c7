use Rattle.std.proofs.Common.{◌≡◌, ◌++◌, take}
use Rattle.std.specs.Option.{option_to_list}
use Rattle.std.specs.List.{flat_map}
use Rattle.cop_dict.specs.Find.{Entry}
use Rattle.cop_commission.specs.Relied.{relied_on}
use Rattle.cop_commission.proofs.relied.add_relied.Given as goal

abbrev pub invariant-loop-entry : goal.invariant-loop-entry
invariant-loop-entry l = l.questions.items ≡ l.initial.questions.items ++ flat_map (λ (entry : Entry). option_to_list (relied_on l.node l.dict l.settings entry)) (take l.entry-index l.entry-items)
