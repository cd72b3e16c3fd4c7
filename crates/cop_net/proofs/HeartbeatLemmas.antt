-- The times of the nodes' heartbeats.
use Rattle.std.proofs.Common.{◌≡◌, ◌≢◌, ℕ, ◌+◌, ◌*◌, ◌<◌, ◌≤◌, ◌==◌, List, [], ◌∷◌, find, None, All, refl, arith}
use Rattle.std.proofs.lemmas.Bool.{ne_eqb}
use Rattle.std.proofs.lemmas.List.Elements.{All-head, All-tail}
use Rattle.cop_rows.specs.declared.node_table.FrameRow.{FrameRow}
use Rattle.cop_rows.specs.declared.node_table.FrameKind.{FrameKind}
use Rattle.cop_rows.specs.declared.node_table.FrameKind.TheVariants as kinds
use Rattle.cop_net.specs.Fixed.{IsOwner, IsTimed, key_of, rank_of}

place_most : (kind : FrameKind) (node : ℕ) → node ≤ 127 → IsOwner kind node → 6 * node + rank_of kind < 769
place_most kinds.Nmt node h own = omega arith
place_most kinds.Sync node h own = omega arith
place_most kinds.Emcy node h own = omega arith
place_most kinds.SdoResponse node h own = omega arith
place_most kinds.SdoRequest node h own = omega arith
place_most kinds.Heartbeat node h own = omega arith
place_most kinds.Errors node h own = omega arith

-- no row has a place past the last
pub past_all : (frames : List FrameRow) (key : ℕ) → All IsTimed frames → 769 ≤ key → find (λ row. key_of row == key) frames ≡ None
past_all [] key timed past = refl
past_all (f ∷ frames) key timed past =
    let here : IsTimed f = All-head IsTimed f frames timed in
    let most = place_most f.kind f.node here.node here.owner in
    let other : key_of f ≢ key = λ e. omega (arith, most, e) in
    rw (ne_eqb (key_of f) key other) (past_all frames key (All-tail IsTimed f frames timed) past)
