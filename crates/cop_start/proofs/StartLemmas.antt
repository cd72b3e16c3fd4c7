-- Devices with one more behind them.
use Rattle.std.proofs.Common.{◌≡◌, ℕ, zero, suc, ◌+◌, ◌<◌, ◌≤◌, Bool, true, false, if◌then◌else◌, List, [], ◌∷◌, ◌++◌, length, slice_get, refl, ◌∙◌, arith, nat_lt, Some, None, IsTrue}
use Rattle.std.proofs.lemmas.List.Elements.{All-nil, All-cons, All-append}
use Rattle.std.proofs.lemmas.Bool.{le-leb, lt-ltb, ltb-true}
use Rattle.cop_dict.specs.Find.{Entry}
use Rattle.cop_rows.specs.Names.{is_name}
use Rattle.cop_start.specs.Start.{Device, Rise, AreSources, last_from, last_node, is_taken, added, next_node, IsNumberedFrom}

pub rise_more : (behind : ℕ) (devices : List Device) (d : Device) → Rise behind devices → last_from behind devices < d.node → d.node ≤ 127 → Rise behind (devices ++ d ∷ [])
rise_more behind [] d rise later most = (later, most, tt)
rise_more behind (x ∷ devices) d rise later most = (rise.0, rise.1, rise_more x.node devices d rise.2 later most)

pub sources_more : (devices : List Device) (d : Device) → AreSources devices → last_from 0 devices < d.node → d.node ≤ 127 → IsTrue (is_name d.file) → AreSources (devices ++ d ∷ [])
sources_more devices d h later most name = record {
  nodes = rise_more 0 devices d h.nodes later most;
  names = All-append (λ (d : Device). IsTrue (is_name d.file)) devices (d ∷ []) h.names (All-cons (λ (d : Device). IsTrue (is_name d.file)) d [] name (All-nil (λ (d : Device). IsTrue (is_name d.file))));
}

-- ---- nodes 1, 2 and so on

last_numbered : (before : ℕ) (devices : List Device) → IsNumberedFrom (before + 1) devices → last_from before devices ≡ before + length devices
last_numbered before [] h = omega arith
last_numbered before (d ∷ devices) h =
    let next : IsNumberedFrom (before + 1 + 1) devices = h.1 in
    rw h.0 (last_numbered (before + 1) devices next ∙ omega arith)

pub next_numbered : (devices : List Device) → IsNumberedFrom 1 devices → next_node devices ≡ (if nat_lt (length devices) 127 then Some (length devices + 1) else None)
next_numbered devices h = let last : last_node devices ≡ length devices = last_numbered 0 devices h ∙ omega arith in rw last refl

-- what a next node is
next_by : (last node : ℕ) (b : Bool) → nat_lt last 127 ≡ b → (if b then Some (last + 1) else None) ≡ Some node → (last + 1 ≡ node) × (last < 127)
next_by last node true few e = (cc e, ltb-true last 127 few)
next_by last node false few e = cc e

pub taken_next : (devices : List Device) (node : ℕ) (file : List ℕ) → next_node devices ≡ Some node → is_taken devices node file ≡ is_name file
taken_next devices node file e =
    let next = next_by (last_node devices) node (nat_lt (last_node devices) 127) refl e in
    rw (lt-ltb (last_node devices) node (omega (arith, next.0)), le-leb node 127 (omega (arith, next.0, next.1))) refl

numbered_more : (node : ℕ) (devices : List Device) (d : Device) → IsNumberedFrom node devices → d.node ≡ node + length devices → IsNumberedFrom node (devices ++ d ∷ [])
numbered_more node [] d h e = (e ∙ omega arith, tt)
numbered_more node (x ∷ devices) d h e = (h.0, numbered_more (node + 1) devices d h.1 (e ∙ omega arith))

added_by : (devices : List Device) (node : ℕ) (file : List ℕ) (dict : List Entry) (b : Bool) → IsNumberedFrom 1 devices → node ≡ 1 + length devices
    → IsNumberedFrom 1 (if b then devices ++ record { node = node; file = file; dict = dict } ∷ [] else devices)
added_by devices node file dict true h e = numbered_more 1 devices (record { node = node; file = file; dict = dict }) h e
added_by devices node file dict false h e = h

pub added_numbered : (devices : List Device) (node : ℕ) (file : List ℕ) (dict : List Entry) → IsNumberedFrom 1 devices → next_node devices ≡ Some node → IsNumberedFrom 1 (added devices node file dict)
added_numbered devices node file dict h e =
    let next = next_by (last_node devices) node (nat_lt (last_node devices) 127) refl e in
    let last : last_node devices ≡ 0 + length devices = last_numbered 0 devices h in
    added_by devices node file dict (is_taken devices node file) h (omega (arith, next.0, last))

numbered_at : (node place : ℕ) (devices : List Device) (d : Device) → IsNumberedFrom node devices → slice_get devices place ≡ Some d → d.node ≡ node + place
numbered_at node place [] d h e = cc e
numbered_at node zero (x ∷ devices) d h e = let same : x ≡ d = cc e in rw (← same) (h.0 ∙ omega arith)
numbered_at node (suc place) (x ∷ devices) d h e = numbered_at (node + 1) place devices d h.1 e ∙ omega arith

pub node_numbered : (devices : List Device) (place : ℕ) (d : Device) → IsNumberedFrom 1 devices → slice_get devices place ≡ Some d → d.node ≡ 1 + place
node_numbered devices place d h e = numbered_at 1 place devices d h e
