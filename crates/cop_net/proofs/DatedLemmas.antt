-- Which streams behind the PDOs have deadlines.
use Rattle.std.proofs.Common.{◌≡◌, ◌≤◌, ◌+◌, ℕ, true, List, get_or, is_some, Option, Some, None, IfSome, All, option_map, inl, inr, ⊎_elim, refl, arith}
use Rattle.std.specs.Option.{IsSome}
use Rattle.std.proofs.lemmas.List.{get_or_default}
use Rattle.std.proofs.lemmas.List.Folds.{list_any-from_Any}
use Rattle.cop_rows.specs.declared.node_table.FrameRow.{FrameRow}
use Rattle.cop_rows.specs.declared.node_table.FrameKind.{FrameKind}
use Rattle.cop_rows.specs.declared.node_table.FrameKind.TheVariants as kinds
use Rattle.cop_rows.specs.Nodes.{IsFrameDeadline, may_have_deadline}
use Rattle.cop_net.specs.Fixed.{IsOwner, IsTimed, base_of, ticks}
use Rattle.cop_net.specs.Signals.{has_sdo_deadline}
use Rattle.cop_net.specs.Network.{IsSdo}
use Rattle.cop_net.proofs.ThroughLemmas.{up_kept, behind, behind_all}

allowed : (kind : FrameKind) (period : ℕ) (deadline : Option ℕ) → IfSome deadline (IsFrameDeadline kind period) → IsSome (option_map ticks deadline) → may_have_deadline kind ≡ true
allowed kind period None h some = cc
allowed kind period (Some d) h some = h.allowed

sdo_kind : (kind : FrameKind) (node : ℕ) → node ≤ 127 → IsOwner kind node → may_have_deadline kind ≡ true → IsSdo (base_of kind + node)
sdo_kind kinds.Nmt node most own h = cc
sdo_kind kinds.Sync node most own h = cc
sdo_kind kinds.Emcy node most own h = cc
sdo_kind kinds.SdoResponse node most own h = inl (omega arith, omega arith)
sdo_kind kinds.SdoRequest node most own h = inr (omega arith, omega arith)
sdo_kind kinds.Heartbeat node most own h = cc
sdo_kind kinds.Errors node most own h = cc

is_sdo : Option ℕ → ℕ → Type 0
is_sdo deadline id = IsSome deadline → IsSdo id

no_sdo : IsSdo 0 → ⊥
no_sdo h = ⊎_elim (λ (from : (0x581 ≤ 0) × (0 ≤ 0x5FF)). omega (arith, from.0)) (λ (to : (0x601 ≤ 0) × (0 ≤ 0x67F)). omega (arith, to.0)) h

-- a stream behind the PDOs that has a deadline is an SDO frame's
pub behind_dated : (frames : List FrameRow) → All IsTimed frames → All (λ e. IsSome e.deadline → IsSdo e.id) (behind frames)
unfolding is_sdo
behind_dated frames h =
    behind_all (λ e. IsSome e.deadline → IsSdo e.id) frames
    (λ e its. up_kept (is_sdo e.deadline) e.id (λ nmt some. absurd (no_sdo (nmt some))) its)
    (λ k d lt some. let row = h k d lt in sdo_kind _ _ row.node row.owner (allowed _ _ _ row.deadline some))

has_deadline : (deadline : Option ℕ) → IsSome (option_map ticks deadline) → is_some deadline ≡ true
has_deadline None some = some
has_deadline (Some d) some = refl

-- and then some row has one
pub behind_signalled : (frames : List FrameRow) → All (λ e. IsSome e.deadline → has_sdo_deadline frames ≡ true) (behind frames)
behind_signalled frames =
    behind_all (λ e. IsSome e.deadline → has_sdo_deadline frames ≡ true) frames
    (λ e its. its)
    (λ k d lt some.
    let row = get_or frames k d in
    list_any-from_Any (λ f. is_some f.deadline) frames (k, row, lt, get_or_default frames k row d lt, has_deadline row.deadline some))
