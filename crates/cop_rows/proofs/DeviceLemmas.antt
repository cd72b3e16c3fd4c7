-- Each row has its device row.
use Rattle.std.proofs.Common.{◌≡◌, ◌≢◌, ℕ, ◌==◌, ◌&&◌, not, Bool, true, false, List, [], ◌∷◌, length, get_or, refl, arith, All, None, Some, Option, if◌then◌else◌}
use Rattle.std.proofs.lemmas.Bool.{eqb-true}
use Rattle.std.proofs.lemmas.List.Elements.{All-nil, All-cons}
use Rattle.std.proofs.lemmas.List.Folds.{Any-from_list_any}
use Rattle.cop_rows.specs.declared.node_table.DeviceRow.{DeviceRow}
use Rattle.cop_rows.specs.declared.node_table.FrameRow.{FrameRow}
use Rattle.cop_rows.specs.declared.node_table.FrameKind.{FrameKind}
use Rattle.cop_rows.specs.declared.node_table.FrameKind.TheVariants.{Nmt, Sync, Emcy, SdoResponse, SdoRequest, Heartbeat, Errors}
use Rattle.cop_rows.specs.Nodes.{NodeLists, IsNodeTable, IsNodeOf, HasDevice}
use Rattle.cop_rows.specs.NodeReading.{has_node, has_device, first_lacking, lacks_device}
use Rattle.cop_rows.specs.NodeRows.{IsNodeRows}

device_found : (devices : List DeviceRow) (node : ℕ) (t : Bool) → has_device devices node ≡ t → not t ≡ false → HasDevice devices node
device_found devices node true e h =
    let p = Any-from_list_any (λ d. d.node == node) devices e in (p.0, p.1, p.2, p.3, eqb-true p.1.node node p.4)
device_found devices node false e h = cc

node_kept : (devices : List DeviceRow) (kind : FrameKind) (node : ℕ) → (has_node kind ≡ false → node ≡ 0)
    → (has_node kind && not (has_device devices node)) ≡ false → IsNodeOf devices kind node
node_kept devices Nmt node nobodys h = nobodys refl
node_kept devices Sync node nobodys h = nobodys refl
node_kept devices Emcy node nobodys h = device_found devices node (has_device devices node) refl h
node_kept devices SdoResponse node nobodys h = device_found devices node (has_device devices node) refl h
node_kept devices SdoRequest node nobodys h = device_found devices node (has_device devices node) refl h
node_kept devices Heartbeat node nobodys h = device_found devices node (has_device devices node) refl h
node_kept devices Errors node nobodys h = nobodys refl

lacks_none_by : (t : Bool) (devices : List DeviceRow) (place : ℕ) (rest : Option ℕ) → (if t then Some place else rest) ≡ None → (t ≡ false) × (rest ≡ None)
lacks_none_by true devices place rest h = cc
lacks_none_by false devices place rest h = (refl, h)

lacks_none : (devices : List DeviceRow) (frames : List FrameRow) → first_lacking devices frames ≡ None → All (λ f. lacks_device devices f ≡ false) frames
lacks_none devices [] h = All-nil (λ f. lacks_device devices f ≡ false)
lacks_none devices (f ∷ frames) h =
    let p = lacks_none_by (lacks_device devices f) devices f.place (first_lacking devices frames) h in
    All-cons (λ f. lacks_device devices f ≡ false) f frames p.0 (lacks_none devices frames p.1)

-- the rows are a table
pub table : (lists : NodeLists) → IsNodeRows lists → first_lacking lists.devices lists.frames ≡ None → length lists.devices ≢ 0 → IsNodeTable lists
table lists h none some = record {
  some_device = omega (arith, some);
  nodes = λ k d lt. ((h.nodes k d lt).node_least, (h.nodes k d lt).node_most);
  one_device = h.one_device;
  settings = λ k d lt. (h.nodes k d lt).settings;
  frames = λ k d lt.
      let f = h.frames k d lt in
      record {
        node = node_kept lists.devices (get_or lists.frames k d).kind (get_or lists.frames k d).node f.nobodys (lacks_none lists.devices lists.frames none k d lt);
        period = f.period;
        milliseconds = f.milliseconds;
        jitter = f.jitter;
        deadline = f.deadline;
      };
  one_row = h.one_row;
}
