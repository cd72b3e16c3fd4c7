use Rattle.std.proofs.Common.{◌≡◌, ◌++◌, take}
use Rattle.std.specs.List.{flat_map}
use Rattle.cop_engine.specs.PlanTexts.{refused_line}
use Rattle.cop_engine.proofs.plan_texts.push_all_refused.Given as goal

abbrev pub invariant-loop-refusal : goal.invariant-loop-refusal
invariant-loop-refusal l = l.text.items ≡ l.fn.text.items ++ flat_map refused_line (take l.refusal-index l.refusals)
