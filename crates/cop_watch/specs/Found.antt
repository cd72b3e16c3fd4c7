-- What is found of a trace: that it breaks no rule so far, or the first step that breaks one, whatever steps follow.
use Rattle.std.specs.Prelude.{◌≡◌, ℕ, ◌≤◌, List, ◌∷◌, ◌++◌, Option, None, Some, length}
use Rattle.cop_rta.specs.declared.streams.Stream.{Stream}
use Rattle.cop_bus.specs.declared.steps.Step.{Step}
use Rattle.cop_bus.specs.Trace.{at_of}
use Rattle.cop_bus.specs.Judge.{broken_by, first_broken}
use Rattle.cop_watch.specs.declared.found.Broken.{Broken}
use Rattle.cop_watch.specs.declared.found.Found.{Found}
use Rattle.cop_watch.specs.declared.found.Found.TheVariants as found
use Rattle.cop_watch.specs.declared.found.Seen.{Seen}
use Rattle.cop_watch.specs.declared.found.Seen.TheVariants as seen
use Rattle.cop_watch.specs.declared.watching.Watch.{Watch}
use Rattle.cop_watch.specs.Knowing.{sent}
use Rattle.cop_watch.specs.Watching.{HasTaken}
use Rattle.cop_watch.specs.Breaking.{IsAlone}

-- each trace that begins with the steps breaks the rule first at that step, unless it ends before a moment
abbrev pub IsBrokenBy : ℕ → List Stream → List Step → Broken → Type 0
IsBrokenBy tau streams steps b = (until : ℕ) → b.from ≤ until → (more : List Step) → first_broken tau streams until (steps ++ more) ≡ Some (b.step, b.rule)

-- a watch knows all of some steps, or the rule that they break
abbrev pub FollowsBy : Option Broken → ℕ → List Stream → List Step → Watch → Type 0
FollowsBy None tau streams steps w = HasTaken tau streams steps w
FollowsBy (Some b) tau streams steps w = IsBrokenBy tau streams steps b

abbrev pub Follows : ℕ → List Stream → List Step → Watch → Type 0
Follows tau streams steps w = FollowsBy w.broken tau streams steps w

-- what is found of the last of some steps, and the watch after it
abbrev pub Finds : ℕ → List Stream → List Step → Found → Watch → Type 0
Finds tau streams steps found.Taken w = HasTaken tau streams steps w × (w.broken ≡ None)
Finds tau streams steps (found.Broken b) w = IsBrokenBy tau streams steps b × (w.broken ≡ Some b)
Finds tau streams steps found.Unknown w = Unit {0}

-- a step breaks a rule first behind steps of which a watch knows all, whatever steps follow
abbrev pub Breaks : Watch → Step → ℕ → Type 0
Breaks w x rule = IsAlone w.bus × ((tau : ℕ) (streams : List Stream) (steps : List Step) → HasTaken tau streams steps w
    → (until : ℕ) → w.at ≤ until → at_of x ≤ until → (more : List Step) → broken_by tau streams until (steps ++ x ∷ more) (length steps) x ≡ Some rule)

-- what is seen of the trace of the steps, up to a moment
abbrev pub Decides : ℕ → List Stream → ℕ → List Step → Seen → Type 0
Decides tau streams until steps (seen.Lawful count) = (first_broken tau streams until steps ≡ None) × (count ≡ sent steps)
Decides tau streams until steps (seen.Broken step rule) = first_broken tau streams until steps ≡ Some (step, rule)
