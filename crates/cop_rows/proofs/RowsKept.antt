-- What one row more leaves.
use Rattle.std.proofs.Common.{◌≡◌, ◌≢◌, ℕ, ◌≤◌, ◌==◌, ◌||◌, ◌&&◌, Bool, true, false, List, [], ◌∷◌, ◌++◌, set, replicate, get_or, refl, sym, ap, ◌∙◌, arith, true≢false, ⊎_elim}
use Rattle.std.specs.List.{list_any}
use Rattle.std.proofs.lemmas.Bool.{cases_eq, eq-eqb, ne_eqb}
use Rattle.std.proofs.lemmas.List.{length-set, get_or-set_same, get_or-set_other, get_or-replicate, length-replicate}
use Rattle.std.proofs.lemmas.List.Elements.{All-nil, All-push}
use Rattle.std.proofs.lemmas.List.Folds.{list_any_at, list_any-append}
use Rattle.std.proofs.lemmas.List.Quantifiers.{all_pairs_push}
use Rattle.cop_rows.specs.declared.node_table.DeviceRow.{DeviceRow}
use Rattle.cop_rows.specs.declared.node_table.FrameRow.{FrameRow}
use Rattle.cop_rows.specs.declared.node_table.FrameKind.{FrameKind}
use Rattle.cop_rows.specs.declared.node_table.FrameKind.TheVariants.{Nmt, Sync, Emcy, SdoResponse, SdoRequest, Heartbeat, Errors}
use Rattle.cop_rows.specs.Nodes.{NodeLists}
use Rattle.cop_rows.specs.NodeReading.{has_device, has_frame, number_of_kind}
use Rattle.cop_rows.specs.NodeRows.{IsNodeRows, IsDeviceRow, IsFrameRow, KnowsRows, flag_of}

or_true : (b : Bool) → (b || true) ≡ true
or_true true = refl
or_true false = refl

or_false : (b : Bool) → (b || false) ≡ b
or_false true = refl
or_false false = refl

found_last : {X : Type 0} (p : X → Bool) (xs : List X) (x : X) → p x ≡ true → list_any p (xs ++ x ∷ []) ≡ true
found_last p xs x h = list_any-append p xs (x ∷ []) ∙ rw h (or_true (list_any p xs))

not_last : {X : Type 0} (p : X → Bool) (xs : List X) (x : X) → p x ≡ false → list_any p (xs ++ x ∷ []) ≡ list_any p xs
not_last p xs x h = list_any-append p xs (x ∷ []) ∙ rw h (or_false (list_any p xs))

number_least : (kind : FrameKind) → 1 ≤ number_of_kind kind
unfolding number_of_kind
number_least Nmt = omega arith
number_least Sync = omega arith
number_least Emcy = omega arith
number_least SdoResponse = omega arith
number_least SdoRequest = omega arith
number_least Heartbeat = omega arith
number_least Errors = omega arith

number_most : (kind : FrameKind) → number_of_kind kind ≤ 7
unfolding number_of_kind
number_most Nmt = omega arith
number_most Sync = omega arith
number_most Emcy = omega arith
number_most SdoResponse = omega arith
number_most SdoRequest = omega arith
number_most Heartbeat = omega arith
number_most Errors = omega arith

-- a device row with a new node, put at the end
pub kept_device : (flags : List Bool) (lists : NodeLists) (d : DeviceRow) (devices : List DeviceRow) → devices ≡ lists.devices ++ d ∷ []
    → IsNodeRows lists → KnowsRows flags lists → IsDeviceRow d → get_or flags d.node false ≡ false
    → IsNodeRows (record { devices = devices; frames = lists.frames }) × KnowsRows (set flags d.node true) (record { devices = devices; frames = lists.frames })
kept_device flags lists d devices e h knows is free =
    let new : has_device lists.devices d.node ≡ false = sym (knows.devices d.node is.node_most) ∙ free in rw e (
      record {
        nodes = All-push IsDeviceRow lists.devices d h.nodes is;
        one_device = all_pairs_push (λ d e. d.node ≢ e.node) lists.devices d h.one_device
            (λ k x lt same. true≢false (sym (list_any_at (λ x. x.node == d.node) lists.devices k x lt (eq-eqb _ _ same)) ∙ new));
        frames = h.frames;
        one_row = h.one_row;
      },
      record {
        size = length-set flags d.node true ∙ knows.size;
        devices = λ node high. ⊎_elim
            (λ (same : d.node ≡ node). rw (← same) (get_or-set_same flags d.node true false (omega (arith, knows.size, is.node_most)) ∙ sym (found_last (λ x. x.node == d.node) lists.devices d (eq-eqb d.node d.node refl))))
            (λ (other : d.node ≢ node). get_or-set_other flags d.node node true false (λ e. other (sym e)) ∙ knows.devices node high ∙ sym (not_last (λ x. x.node == node) lists.devices d (ne_eqb d.node node other)))
            (cases_eq d.node node);
        frames = λ kind node high.
            get_or-set_other flags d.node (flag_of kind node) true false (λ e. omega (arith, number_least kind, is.node_most, e)) ∙ knows.frames kind node high;
      },
    )

is_row : FrameKind → ℕ → FrameRow → Bool
is_row kind node f = (number_of_kind f.kind == number_of_kind kind) && (f.node == node)

and_false : (b : Bool) → (b && false) ≡ false
and_false true = refl
and_false false = refl

is_row_same : (kind : FrameKind) (node : ℕ) (f : FrameRow) → number_of_kind f.kind ≡ number_of_kind kind → f.node ≡ node → is_row kind node f ≡ true
unfolding is_row
is_row_same kind node f k n = rw (eq-eqb (number_of_kind f.kind) (number_of_kind kind) k, eq-eqb f.node node n) refl

is_row_other : (kind : FrameKind) (node : ℕ) (f : FrameRow) → flag_of f.kind f.node ≢ flag_of kind node → is_row kind node f ≡ false
unfolding is_row
is_row_other kind node f other = ⊎_elim
    (λ (k : number_of_kind f.kind ≡ number_of_kind kind). rw (ne_eqb f.node node (λ n. other (omega (arith, k, n)))) (and_false (number_of_kind f.kind == number_of_kind kind)))
    (λ (k : number_of_kind f.kind ≢ number_of_kind kind). rw (ne_eqb (number_of_kind f.kind) (number_of_kind kind) k) refl)
    (cases_eq (number_of_kind f.kind) (number_of_kind kind))

-- a row of a frame with a new kind and node, put at the end
pub kept_frame : (flags : List Bool) (lists : NodeLists) (f : FrameRow) (frames : List FrameRow) → frames ≡ lists.frames ++ f ∷ []
    → IsNodeRows lists → KnowsRows flags lists → IsFrameRow f → get_or flags (flag_of f.kind f.node) false ≡ false
    → IsNodeRows (record { devices = lists.devices; frames = frames }) × KnowsRows (set flags (flag_of f.kind f.node) true) (record { devices = lists.devices; frames = frames })
unfolding is_row
kept_frame flags lists f frames e h knows is free =
    let new : has_frame lists.frames f.kind f.node ≡ false = sym (knows.frames f.kind f.node is.node_most) ∙ free in rw e (
      record {
        nodes = h.nodes;
        one_device = h.one_device;
        frames = All-push IsFrameRow lists.frames f h.frames is;
        one_row = all_pairs_push (λ f g. f.kind ≡ g.kind → f.node ≢ g.node) lists.frames f h.one_row
            (λ k x lt kind node. true≢false (sym (list_any_at (is_row f.kind f.node) lists.frames k x lt (is_row_same f.kind f.node (get_or lists.frames k x) (ap (λ k. number_of_kind k) kind) node)) ∙ new));
      },
      record {
        size = length-set flags (flag_of f.kind f.node) true ∙ knows.size;
        devices = λ node high.
            get_or-set_other flags (flag_of f.kind f.node) node true false (λ e. omega (arith, number_least f.kind, high, e)) ∙ knows.devices node high;
        frames = λ kind node high. ⊎_elim
            (λ (same : flag_of f.kind f.node ≡ flag_of kind node). rw (← same)
            (get_or-set_same flags (flag_of f.kind f.node) true false (omega (arith, knows.size, number_most f.kind, is.node_most))
            ∙ sym (found_last (is_row kind node) lists.frames f (is_row_same kind node f (omega (arith, same, is.node_most, high)) (omega (arith, same, is.node_most, high))))))
            (λ (other : flag_of f.kind f.node ≢ flag_of kind node).
            get_or-set_other flags (flag_of f.kind f.node) (flag_of kind node) true false (λ e. other (sym e)) ∙ knows.frames kind node high
            ∙ sym (not_last (is_row kind node) lists.frames f (is_row_other kind node f other)))
            (cases_eq (flag_of f.kind f.node) (flag_of kind node));
      },
    )

none_known : (n : ℕ) (flags : List Bool) → n ≡ 1024 → flags ≡ replicate n false → KnowsRows flags (record { devices = []; frames = [] })
none_known n flags count all = record {
  size = rw all (length-replicate n false) ∙ count;
  devices = λ node high. rw all (get_or-replicate n node false false (omega arith));
  frames = λ kind node high. rw all (get_or-replicate n (flag_of kind node) false false (omega (arith, number_most kind)));
}

-- no row, and no flag
pub none_kept : (n : ℕ) (flags : List Bool) (devices : List DeviceRow) (frames : List FrameRow) → devices ≡ [] → frames ≡ [] → n ≡ 1024 → flags ≡ replicate n false
    → IsNodeRows (record { devices = devices; frames = frames }) × KnowsRows flags (record { devices = devices; frames = frames })
none_kept n flags devices frames d f count all = rw (d, f) (
  record {
    nodes = All-nil IsDeviceRow;
    one_device = λ i j d lt below same. absurd (omega arith);
    frames = All-nil IsFrameRow;
    one_row = λ i j d lt below kind same. absurd (omega arith);
  },
  none_known n flags count all,
)
