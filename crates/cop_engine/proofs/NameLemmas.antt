-- Devices have names.
use Rattle.std.proofs.Common.{◌≡◌, ℕ, ◌+◌, Bool, true, false, not, ◌==◌, cond, List, [], ◌∷◌, ◌++◌, length, Option, Some, None, Result, Ok, Err, All, IsTrue, refl, sym, ap, ◌∙◌, subst}
use Rattle.std.proofs.lemmas.List.Elements.{All-nil, All-cons, All-append}
use Rattle.cop_table.specs.Reading.{◌>>=◌}
use Rattle.cop_table.specs.Records.{field}
use Rattle.cop_table.specs.Rows.{rows_from}
use Rattle.cop_rows.specs.declared.refusals.Column.{Column}
use Rattle.cop_rows.specs.declared.refusals.Column.TheVariants as columns
use Rattle.cop_rows.specs.declared.refusals.Rule.{Rule}
use Rattle.cop_rows.specs.declared.refusals.Rule.TheVariants as rules
use Rattle.cop_rows.specs.declared.refusals.Refusal.{Refusal}
use Rattle.cop_rows.specs.declared.node_table.DeviceRow.{DeviceRow}
use Rattle.cop_rows.specs.declared.node_table.FrameRow.{FrameRow}
use Rattle.cop_rows.specs.Names.{is_name}
use Rattle.cop_rows.proofs.RangeLemmas.{bind_ok}
use Rattle.cop_rows.specs.Fields.{number_within, name_of}
use Rattle.cop_rows.specs.Nodes.{NodeLists}
use Rattle.cop_rows.specs.Refusals.{placed, refuse}
use Rattle.cop_rows.specs.NodeReading.{kind_of, is_device, frame_in, device_in, or_word, as_device, as_frame, row_in, has_device, has_frame, pushed, added, first_lacking, unless_lacking, with_devices, no_rows, no_text, rows_in, width_of, node_rows_of, nodes_of}

-- the device and its EDS file have names
abbrev pub HasNames : DeviceRow → Type 0
HasNames row = IsTrue (is_name row.name) × IsTrue (is_name row.eds)

name_is : (column : Column) (text name : List ℕ) → name_of column text ≡ Ok name → IsTrue (is_name name)
name_is column text name h = by_test (is_name text) refl h
  where
    by_test : (b : Bool) → is_name text ≡ b → ◌≡◌ {A = Result (List ℕ) Rule} (cond b (Ok text) (Err (rules.Value column))) (Ok name) → IsTrue (is_name name)
    by_test true is k = let same : text ≡ name = cc in ap is_name (sym same) ∙ is
    by_test false is k = cc

device_names : (place : ℕ) (row : List (List ℕ)) (d : DeviceRow) → device_in place row ≡ Ok d → HasNames d
unfolding device_in
device_names place row d h =
    let one = bind_ok (number_within columns.Node 1 127 (field row 1)) _ d h in
    let two = bind_ok (number_within columns.Period 0 0 (field row 4)) _ d one.2 in
    let three = bind_ok (number_within columns.Jitter 0 0 (field row 5)) _ d two.2 in
    let dated = bind_ok (no_text columns.Deadline (field row 6)) _ d three.2 in
    let four = bind_ok (name_of columns.Name (field row 2)) _ d dated.2 in
    let five = bind_ok (name_of columns.Eds (field row 3)) _ d four.2 in
    let whole : ◌≡◌ {A = Result DeviceRow Rule} (Ok (record { place = place; node = one.0; name = four.0; eds = five.0; settings = [] })) (Ok d) = five.2 in
    let same : record { place = place; node = one.0; name = four.0; eds = five.0; settings = [] } ≡ d = cc in
    subst HasNames same (name_is columns.Name (field row 2) four.0 four.1, name_is columns.Eds (field row 3) five.0 five.1)

placed_ok : {A : Type 0} (place : ℕ) (r : Result A Rule) (x : A) → placed place r ≡ Ok x → r ≡ Ok x
placed_ok place (Ok y) x h = let same : y ≡ x = cc in ap Ok same
placed_ok place (Err e) x h = cc

-- one row more
step_names : (width : ℕ) (lists next : NodeLists) (place : ℕ) (row : List (List ℕ)) → (row_in width place row >>= pushed lists) ≡ Ok next → All HasNames lists.devices → All HasNames next.devices
step_names width lists next place row h all = by_tests (not (length row == width)) (is_device (field row 0)) h
  where
    of_device : (r : Result DeviceRow Rule) → device_in place row ≡ r → (as_device r >>= pushed lists) ≡ Ok next → All HasNames next.devices
    of_device (Err e) is k = cc
    of_device (Ok d) is k = by_test (has_device lists.devices d.node) k
      where
        by_test : (b : Bool) → ◌≡◌ {A = Result NodeLists Rule} (cond b (Err rules.RowRepeated) (Ok (record { devices = lists.devices ++ d ∷ []; frames = lists.frames }))) (Ok next) → All HasNames next.devices
        by_test true l = cc
        by_test false l =
            let same : record { devices = lists.devices ++ d ∷ []; frames = lists.frames } ≡ next = cc in
            subst (λ (x : NodeLists). All HasNames x.devices) same (All-append HasNames lists.devices (d ∷ []) all (All-cons HasNames d [] (device_names place row d is) (All-nil HasNames)))

    of_frame : (r : Result FrameRow Rule) → (as_frame r >>= pushed lists) ≡ Ok next → All HasNames next.devices
    of_frame (Err e) k = cc
    of_frame (Ok f) k = by_test (has_frame lists.frames f.kind f.node) k
      where
        by_test : (b : Bool) → ◌≡◌ {A = Result NodeLists Rule} (cond b (Err rules.RowRepeated) (Ok (record { devices = lists.devices; frames = lists.frames ++ f ∷ [] }))) (Ok next) → All HasNames next.devices
        by_test true l = cc
        by_test false l =
            let same : record { devices = lists.devices; frames = lists.frames ++ f ∷ [] } ≡ next = cc in
            subst (λ (x : NodeLists). All HasNames x.devices) same all

    by_tests : (a b : Bool) → (cond a (Err rules.Fields) (cond b (as_device (device_in place row)) (as_frame (or_word (kind_of (field row 0)) >>= λ kind. frame_in place kind row))) >>= pushed lists) ≡ Ok next → All HasNames next.devices
    by_tests true b k = cc
    by_tests false true k = of_device (device_in place row) refl k
    by_tests false false k = of_frame (or_word (kind_of (field row 0)) >>= λ kind. frame_in place kind row) k

rows_names : (width place : ℕ) (lists more : NodeLists) (rows : List (List (List ℕ))) → rows_from (added width) place lists rows ≡ Ok more → All HasNames lists.devices → All HasNames more.devices
unfolding rows_from
rows_names width place lists more [] h all = let same : lists ≡ more = cc in subst (λ (l : NodeLists). All HasNames l.devices) same all
rows_names width place lists more (row ∷ rows) h all =
    let p = bind_ok (added width place lists row) (λ next. rows_from (added width) (place + 1) next rows) more h in
    rows_names width (place + 1) p.0 more rows p.2 (step_names width lists p.0 place row (placed_ok place (row_in width place row >>= pushed lists) p.0 p.1) all)

kept_lists : (lists more : NodeLists) → with_devices lists ≡ Ok more → lists ≡ more
kept_lists lists more h = by_lacking (first_lacking lists.devices lists.frames) h
  where
    by_none : (b : Bool) → ◌≡◌ {A = Result NodeLists Refusal} (cond b (refuse rules.NoDevice 0) (Ok lists)) (Ok more) → lists ≡ more
    by_none true k = cc
    by_none false k = cc

    by_lacking : (o : Option ℕ) → unless_lacking o lists ≡ Ok more → lists ≡ more
    by_lacking None k = by_none (length lists.devices == 0) k
    by_lacking (Some place) k = cc

-- the devices of a table have names
pub devices_named : (text : List ℕ) (lists : NodeLists) → nodes_of text ≡ Ok lists → All HasNames lists.devices
unfolding node_rows_of
devices_named text lists h =
    let p = bind_ok (node_rows_of text) with_devices lists h in
    let q = bind_ok (rows_in text) (λ (found : ℕ × List (List (List ℕ))). rows_from (added (width_of found.0)) 1 no_rows found.1) p.0 p.1 in
    subst (λ (l : NodeLists). All HasNames l.devices) (kept_lists p.0 lists p.2) (rows_names (width_of q.0.0) 1 no_rows p.0 q.0.1 q.2 (All-nil HasNames))
