-- The DCF files of a plan, one more; and the texts of the devices of a network.
use Rattle.std.proofs.Common.{◌≡◌, ℕ, ◌+◌, Bool, true, false, cond, ◌==◌, List, [], ◌∷◌, ◌++◌, find, option_map, Some, None, Ok, All, add-one, refl, sym, ap, ◌∙◌, subst}
use Rattle.std.proofs.lemmas.List.{append-nil}
use Rattle.std.proofs.lemmas.List.Elements.{All-nil, All-cons, All-head, All-tail}
use Rattle.std.specs.Option.{option_to_list}
use Rattle.cop_frame.specs.declared.rates.Rate.{Rate}
use Rattle.cop_table.specs.Reading.{◌>>=◌}
use Rattle.cop_eds.specs.Reading.{reading}
use Rattle.cop_rows.specs.declared.node_table.DeviceRow.{DeviceRow}
use Rattle.cop_rows.specs.declared.pdo_table.PdoRow.{PdoRow}
use Rattle.cop_rows.specs.Nodes.{NodeLists}
use Rattle.cop_net.specs.Devices.{File, Equipment, text_of, text_at, text_read, refused_at, described, device_added, no_device, devices_of}
use Rattle.cop_net.specs.Steps.{folded}
use Rattle.cop_net.specs.Network.{Net, Accepted, streams_of, network_of}
use Rattle.cop_rows.proofs.RangeLemmas.{bind_ok}
use Rattle.cop_net.proofs.TextLemmas.{read_as_itself}
use Rattle.cop_dcf.proofs.DeviceLemmas.{accepted_by, text_is}
use Rattle.cop_plan.specs.Values.{PlanValue}
use Rattle.cop_engine.specs.Dcfs.{eds_text, dcf_file, device_row, dcf_at, dcfs_below, HasText, HaveTexts}

pub dcfs_more : (eds : List File) (net : Net) (plan : PlanValue) (node : ℕ) → dcfs_below eds net plan (node + 1) ≡ dcfs_below eds net plan node ++ option_to_list (dcf_at eds net plan node)
unfolding dcfs_below
dcfs_more eds net plan node = rw (add-one node) refl

pub dcfs_none : (eds : List File) (net : Net) (plan : PlanValue) → dcfs_below eds net plan 0 ≡ []
unfolding dcfs_below
dcfs_none eds net plan = refl

-- the device of a row has a text that is accepted
row_text : (files : List File) (found more : Equipment) (row : DeviceRow) → device_added (text_of files) found row ≡ Ok more
    → HasText files row
row_text files found more row h =
    let p = bind_ok (text_read (text_of files) row.place row.eds) (described found row) more h in
    let q = bind_ok (text_at row.place (text_of files row.eds)) (λ text. refused_at row.place (reading text)) p.0 p.1 in
    let read : reading q.0 ≡ Ok p.0 = accepted_by row.place (reading q.0) p.0 q.2 in
    let same : p.0 ≡ q.0 = read_as_itself q.0 p.0 read in
    (q.0, text_is row.place (text_of files row.eds) q.0 q.1, read ∙ ap Ok same)

rows_texts : (files : List File) (rows : List DeviceRow) (found more : Equipment) → folded (device_added (text_of files)) found rows ≡ Ok more → HaveTexts files rows
unfolding folded
rows_texts files [] found more h = All-nil (HasText files)
rows_texts files (row ∷ rows) found more h =
    let p = bind_ok (device_added (text_of files) found row) (λ next. folded (device_added (text_of files)) next rows) more h in
    All-cons (HasText files) row rows (row_text files found p.0 row p.1) (rows_texts files rows p.0 more p.2)

-- the devices of a network have texts
pub have_texts : (wanted : List Rate) (nodes : NodeLists) (rows : List PdoRow) (files : List File) (made : Accepted) → network_of wanted nodes rows files ≡ Ok made → HaveTexts files nodes.devices
unfolding network_of devices_of
have_texts wanted nodes rows files made ok =
    let p = bind_ok (devices_of wanted files nodes.devices) (λ equipment. streams_of nodes.frames rows equipment >>= λ streams. Ok (record { equipment = equipment; streams = streams })) made ok in
    rows_texts files nodes.devices (no_device wanted) p.0 p.1

found_row : (rows : List DeviceRow) (p : DeviceRow → Bool) (P : DeviceRow → Type 0) (row : DeviceRow) → All P rows → find p rows ≡ Some row → P row
found_row [] p P row all e = cc
found_row (x ∷ xs) p P row all e = by_test (p x) e (found_row xs p P row (All-tail P x xs all))
  where
    by_test : (b : Bool) → cond b (Some x) (find p xs) ≡ Some row → (find p xs ≡ Some row → P row) → P row
    by_test true k later = let same : x ≡ row = cc in subst P same (All-head P x xs all)
    by_test false k later = later k

-- and so has that of a node
pub text_accepted : (files : List File) (rows : List DeviceRow) (node : ℕ) (row : DeviceRow) → HaveTexts files rows → device_row rows node ≡ Some row → option_map reading (text_of files row.eds) ≡ Some (Ok (eds_text files row))
text_accepted files rows node row all found =
    let own : HasText files row = found_row rows (λ r. r.node == node) (HasText files) row all found in
    rw own.1 (ap Some own.2)

-- a node without a device has no file
pub none_here : (eds : List File) (net : Net) (plan : PlanValue) (node : ℕ) (before : List File) → device_row net.nodes.devices node ≡ None → before ≡ before ++ option_to_list (dcf_at eds net plan node)
none_here eds net plan node before none = rw none (sym (append-nil before))

pub one_here : (eds : List File) (net : Net) (plan : PlanValue) (node : ℕ) (row : DeviceRow) (before : List File) (file : File) → device_row net.nodes.devices node ≡ Some row → file ≡ dcf_file eds net plan row
    → before ++ file ∷ [] ≡ before ++ option_to_list (dcf_at eds net plan node)
one_here eds net plan node row before file found e = rw (found, e) refl
