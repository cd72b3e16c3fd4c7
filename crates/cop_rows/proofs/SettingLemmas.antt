-- The rows of a table of settings.
use Rattle.std.proofs.Common.{◌≡◌, ◌≢◌, ℕ, ◌<◌, ◌==◌, ◌||◌, Bool, true, false, cond, List, [], ◌∷◌, ◌++◌, length, get_or, set, refl, sym, ap, ◌∙◌, arith, true≢false, Err, ⊎_elim}
use Rattle.std.specs.BTreeSet.{BTreeSet, contains}
use Rattle.std.specs.Ordering.{nat_cmp}
use Rattle.std.proofs.lemmas.Bool.{cases_eq, eq-eqb}
use Rattle.std.proofs.lemmas.List.{length-set, get_or-set_same, get_or-set_other}
use Rattle.std.proofs.lemmas.List.Elements.{All-nil, All-push, All-set}
use Rattle.std.proofs.lemmas.List.Folds.{list_any_at, list_any-append}
use Rattle.std.proofs.lemmas.List.Quantifiers.{all_pairs_push}
use Rattle.cop_eds.proofs.ListLemmas.{get_or_same}
use Rattle.cop_rows.specs.declared.node_table.DeviceRow.{DeviceRow}
use Rattle.cop_rows.specs.declared.node_table.FrameKind.{FrameKind}
use Rattle.cop_rows.specs.declared.node_table.FrameKind.TheVariants.{Nmt, Sync, Emcy, SdoResponse, SdoRequest, Heartbeat, Errors}
use Rattle.cop_rows.specs.declared.setting_rows.SettingRow.{SettingRow}
use Rattle.cop_rows.specs.Nodes.{NodeLists, IsNodeTable, IsNodeOf, HasDevice}
use Rattle.cop_rows.specs.declared.refusals.Column.TheVariants as columns
use Rattle.cop_rows.specs.declared.refusals.Rule.TheVariants as rules
use Rattle.cop_rows.specs.Fields.{parts}
use Rattle.cop_rows.specs.SettingReading.{object_from}
use Rattle.cop_rows.proofs.PartLemmas.{parts_some}
use Rattle.cop_rows.specs.SettingRows.{object_of, has_object, IsSettingRow, AreSettingRows, KnowsObjects}

-- what has two dots names no object
pub third_part : (first rest second more : List ℕ) → parts 46 rest ≡ second ∷ parts 46 more → Err (rules.Value columns.Object) ≡ object_from (first ∷ parts 46 rest)
third_part first rest second more e = let p = parts_some 46 more in rw (e, p.2) refl

-- no row
pub none_set : AreSettingRows []
none_set = record { settable = All-nil IsSettingRow; apart = λ i j d lt below. absurd (omega arith) }

has_more : (rows : List SettingRow) (row : SettingRow) (object : ℕ) → has_object (rows ++ row ∷ []) object ≡ (cond (object_of row == object) true (has_object rows object))
has_more rows row object = list_any-append (λ r. object_of r == object) rows (row ∷ []) ∙ by_test (object_of row == object) (has_object rows object)
  where
    by_test : (b t : Bool) → (t || (b || false)) ≡ cond b true t
    by_test true true = refl
    by_test true false = refl
    by_test false true = refl
    by_test false false = refl

-- one row more, whose object had none
pub row_kept : (rows : List SettingRow) (row : SettingRow) (objects : BTreeSet ℕ) → IsSettingRow row → AreSettingRows rows → KnowsObjects objects rows
    → contains nat_cmp objects (object_of row) ≡ false → AreSettingRows (rows ++ row ∷ [])
row_kept rows row objects is are knows free = record {
  settable = All-push IsSettingRow rows row are.settable is;
  apart = all_pairs_push (λ r s. object_of r ≢ object_of s) rows row are.apart
      (λ k x lt same. true≢false (sym (list_any_at (λ r. object_of r == object_of row) rows k x lt (eq-eqb _ _ same)) ∙ sym (knows (object_of row)) ∙ free));
}

pub objects_known : (rows : List SettingRow) (row : SettingRow) (objects now : BTreeSet ℕ) → KnowsObjects objects rows
    → ((object : ℕ) → contains nat_cmp now object ≡ cond (object_of row == object) true (contains nat_cmp objects object)) → KnowsObjects now (rows ++ row ∷ [])
objects_known rows row objects now knows new object = new object ∙ rw (knows object) (sym (has_more rows row object))

-- a row of the devices with other settings
abbrev pub with_rows : List DeviceRow → ℕ → DeviceRow → List SettingRow → List DeviceRow
with_rows devices place d rows = set devices place (record (get_or devices place d) { settings = rows })

same_node : (devices : List DeviceRow) (place : ℕ) (d : DeviceRow) (rows : List SettingRow) (k : ℕ) (e : DeviceRow) → place < length devices → k < length devices
    → (get_or (with_rows devices place d rows) k e).node ≡ (get_or devices k e).node
same_node devices place d rows k e inside lt = ⊎_elim
    (λ (same : k ≡ place). rw same (ap (λ (x : DeviceRow). x.node) (get_or-set_same devices place (record (get_or devices place d) { settings = rows }) e inside) ∙ ap (λ (x : DeviceRow). x.node) (get_or_same devices place e d inside)))
    (λ (other : k ≢ place). ap (λ (x : DeviceRow). x.node) (get_or-set_other devices place k (record (get_or devices place d) { settings = rows }) e other))
    (cases_eq k place)

node_there : (devices : List DeviceRow) (place : ℕ) (d : DeviceRow) (rows : List SettingRow) (node : ℕ) → place < length devices → HasDevice devices node → HasDevice (with_rows devices place d rows) node
node_there devices place d rows node inside (k, x, lt, at, is) =
    let now = get_or (with_rows devices place d rows) k x in
    let more : k < length (with_rows devices place d rows) = omega (arith, length-set devices place (record (get_or devices place d) { settings = rows }), lt) in
    (k, now, more, get_or_same (with_rows devices place d rows) k x now more, same_node devices place d rows k x inside lt ∙ ap (λ (y : DeviceRow). y.node) at ∙ is)

frame_node : (devices : List DeviceRow) (place : ℕ) (d : DeviceRow) (rows : List SettingRow) (kind : FrameKind) (node : ℕ) → place < length devices → IsNodeOf devices kind node
    → IsNodeOf (with_rows devices place d rows) kind node
frame_node devices place d rows Nmt node inside h = h
frame_node devices place d rows Sync node inside h = h
frame_node devices place d rows Emcy node inside h = node_there devices place d rows node inside h
frame_node devices place d rows SdoResponse node inside h = node_there devices place d rows node inside h
frame_node devices place d rows SdoRequest node inside h = node_there devices place d rows node inside h
frame_node devices place d rows Heartbeat node inside h = node_there devices place d rows node inside h
frame_node devices place d rows Errors node inside h = h

-- a table whose devices have other settings is a table
pub table_kept : (lists : NodeLists) (place : ℕ) (d : DeviceRow) (rows : List SettingRow) → place < length lists.devices → IsNodeTable lists → AreSettingRows rows
    → IsNodeTable (record { devices = with_rows lists.devices place d rows; frames = lists.frames })
table_kept lists place d rows inside h are =
    let ds = lists.devices in
    let size : length (with_rows ds place d rows) ≡ length ds = length-set ds place (record (get_or ds place d) { settings = rows }) in
    record {
      some_device = omega (arith, size, h.some_device);
      nodes = λ k e lt.
          let low : k < length ds = omega (arith, size, lt) in
          rw (same_node ds place d rows k e inside low) (h.nodes k e low);
      one_device = λ i j e lt below same.
          let low : j < length ds = omega (arith, size, below) in
          let lower : i < length ds = omega (arith, low, lt) in
          h.one_device i j e lt low (sym (same_node ds place d rows i e inside lower) ∙ same ∙ same_node ds place d rows j e inside low);
      settings = All-set (λ e. AreSettingRows e.settings) ds place (record (get_or ds place d) { settings = rows }) are h.settings;
      frames = λ k e lt.
          let f = h.frames k e lt in
          record {
            node = frame_node ds place d rows (get_or lists.frames k e).kind (get_or lists.frames k e).node inside f.node;
            period = f.period;
            milliseconds = f.milliseconds;
            jitter = f.jitter;
            deadline = f.deadline;
          };
      one_row = h.one_row;
    }
