-- States over lists of frames.
use Rattle.std.proofs.Common.{◌≡◌, ℕ, ◌+◌, ◌<◌, ◌≤◌, List, [], ◌∷◌, length, drop, get_or, Option, Some, None, refl, ap, ◌∙◌, drop-cons, drop_of_length-le, add-one}
use Rattle.std.specs.Option.{option_map_or, option_or}
use Rattle.cop_frame.specs.declared.frames.Frame.{Frame}
use Rattle.cop_nmt.specs.declared.states.NodeState.{NodeState}
use Rattle.cop_nmt.specs.declared.states.Effect.{Effect}
use Rattle.cop_nmt.specs.declared.states.Command.{Command}
use Rattle.cop_nmt.specs.States.{stepped, state_over, last_command, commanded, command_of, obeyed}

pub one_more : (node i : ℕ) (state new : NodeState) (effect : Effect) (frame : Frame) (frames : List Frame) → i < length frames → frame ≡ get_or frames i frame
    → (new, effect) ≡ stepped node state frame → state_over node new (drop (i + 1) frames) ≡ state_over node state (drop i frames)
unfolding state_over
one_more node i state new effect frame frames inside is step =
    let e : new ≡ (stepped node state frame).0 = ap (λ p. p.0) step in
    rw (add-one i, drop-cons frames i frame inside, ← is, e) refl

pub none_left : (node i : ℕ) (state : NodeState) (frames : List Frame) → length frames ≤ i → state_over node state (drop i frames) ≡ state
unfolding state_over
none_left node i state frames past = rw (drop_of_length-le frames past) refl

after : (state : NodeState) (last first : Option Command) → option_map_or commanded last ((obeyed state first).0) ≡ option_map_or commanded (option_or last first) state
after state (Some c) first = refl
after state None None = refl
after state None (Some c) = refl

pub last_counts : (node : ℕ) (state : NodeState) (frames : List Frame) → state_over node state frames ≡ option_map_or commanded (last_command node frames) state
unfolding state_over
last_counts node state [] = refl
last_counts node state (frame ∷ frames) =
    last_counts node ((stepped node state frame).0) frames ∙ after state (last_command node frames) (command_of node frame)
