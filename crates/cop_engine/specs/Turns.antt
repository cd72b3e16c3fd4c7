-- The turns of a boot, as a seed draws them.
use Rattle.std.specs.Prelude.{ℕ, ◌+◌, ◌-◌, ◌*◌, ◌%◌, ◌==◌, nat_le, List, [], ◌∷◌, length, get_or, if◌then◌else◌}
use Rattle.rand_core.specs.Steps.{first_words}
use Rattle.rand_pcg.specs.Lcg.{Lcg, started, increment_of}
use Rattle.rand_pcg.specs.Pcg.{pcg32, multiplier_64}
use Rattle.cop_boot.specs.declared.turn.Turn.{Turn}
use Rattle.cop_boot.specs.declared.turn.Turn.TheVariants.{ToNode, FromNode, Moment}

-- how many kinds of turns there are: a moment, and a turn to each node and from each
abbrev pub kinds : List ℕ → ℕ
kinds nodes = 2 * length nodes + 1

-- the turn of a kind: 0 is a moment, then come the turns to the nodes by rising number, and then those from them
abbrev pub turn_of : List ℕ → ℕ → ℕ → Turn
turn_of nodes now kind =
    if kind == 0 then Moment now
    else if nat_le kind (length nodes) then ToNode (get_or nodes (kind - 1) 0)
    else FromNode (get_or nodes (kind - 1 - length nodes) 0)

-- a moment is handed in 400 ticks (100 us) after the one before
abbrev pub passed_by : ℕ → ℕ → ℕ
passed_by now kind = if kind == 0 then now + 400 else now

-- the turns that words say, the moments being after this one
unfoldable pub turns_of : List ℕ → ℕ → List ℕ → List Turn
turns_of nodes now [] = []
turns_of nodes now (word ∷ words) =
    turn_of nodes (passed_by now (word % kinds nodes)) (word % kinds nodes) ∷ turns_of nodes (passed_by now (word % kinds nodes)) words

-- the generator of a seed, with stream 0
abbrev pub generator : ℕ → Lcg
generator seed = started 64 multiplier_64 seed (increment_of 64 0)

-- 4,000 turns of each kind on average
abbrev pub turns_drawn : ℕ → List ℕ → List Turn
turns_drawn seed nodes = turns_of nodes 0 (first_words pcg32 (4000 * kinds nodes) (generator seed))
