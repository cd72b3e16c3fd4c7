-- PDOs that nobody uses, entry by entry.
use Rattle.std.proofs.Common.{◌≡◌, ℕ, ◌+◌, ◌<◌, ◌≤◌, Bool, true, false, not, ◌&&◌, ◌||◌, List, [], ◌∷◌, length, get_or, find, drop, drop-cons, add-one, Option, Some, None, Result, Ok, Err, IfSome, Contains, refl, sym, ◌∙◌}
use Rattle.std.specs.List.{list_any}
use Rattle.std.specs.Option.{option_map_or}
use Rattle.std.proofs.lemmas.List.{drop_all}
use Rattle.cop_dict.specs.Find.{Entry, IsSorted}
use Rattle.cop_dict.proofs.DictLemmas.{own_place}
use Rattle.cop_rows.specs.declared.node_table.FrameRow.{FrameRow}
use Rattle.cop_net.specs.declared.faults.Refusal.{Refusal}
use Rattle.cop_net.specs.declared.devices.Device.{Device}
use Rattle.cop_net.specs.declared.uses.Used.{Used}
use Rattle.cop_net.specs.Uses.{is_used}
use Rattle.cop_net.specs.Settings.{stays_on, is_stuck}
use Rattle.cop_net.specs.Network.{settable, all_settable}
use Rattle.cop_net.proofs.SettingLemmas.{stuck_alone}

-- some entry of a list is a stray of a dictionary
abbrev pub stray_in : List Used → ℕ → List Entry → List Entry → Bool
stray_in used node dict entries = list_any (λ entry. stays_on dict entry && not (is_used used node entry.index)) entries

-- the index of the first such entry of a list
abbrev pub first_in : List Used → ℕ → List Entry → List Entry → ℕ
first_in used node dict entries = option_map_or (λ entry. entry.index) (find (λ entry. stays_on dict entry && not (is_used used node entry.index)) entries) 0

next_of : (used : List Used) (node : ℕ) (dict : List Entry) (i : ℕ) (e : Entry) → IsSorted dict → i < length dict → e ≡ get_or dict i e
    → stray_in used node dict (drop i dict) ≡ ((is_stuck e && not (is_used used node e.index)) || stray_in used node dict (drop (i + 1) dict))
next_of used node dict i e sorted lt here =
    let cut : drop i dict ≡ get_or dict i e ∷ drop (i + 1) dict = rw add-one (drop-cons dict i e lt) in
    let inside : Contains dict e = (i, lt, sym here) in
    let alone : stays_on dict e ≡ is_stuck e = stuck_alone dict e (own_place dict e sorted inside) in
    rw (cut, ← here, alone) refl

pub stray_found : (used : List Used) (node : ℕ) (dict : List Entry) (i : ℕ) (e : Entry) (b : Bool) → IsSorted dict → i < length dict → e ≡ get_or dict i e
    → (is_stuck e && not (is_used used node e.index)) ≡ true → stray_in used node dict (drop i dict) ≡ b → true ≡ b
stray_found used node dict i e b sorted lt here passes so_far =
    let one : stray_in used node dict (drop i dict) ≡ true = next_of used node dict i e sorted lt here ∙ rw passes refl in
    sym one ∙ so_far

pub stray_not : (used : List Used) (node : ℕ) (dict : List Entry) (i : ℕ) (e : Entry) (b : Bool) → IsSorted dict → i < length dict → e ≡ get_or dict i e
    → (is_stuck e && not (is_used used node e.index)) ≡ false → stray_in used node dict (drop i dict) ≡ b → stray_in used node dict (drop (i + 1) dict) ≡ b
stray_not used node dict i e b sorted lt here passes so_far =
    let one : stray_in used node dict (drop i dict) ≡ stray_in used node dict (drop (i + 1) dict) = next_of used node dict i e sorted lt here ∙ rw passes refl in
    sym one ∙ so_far

-- the first of the entries from one on is that one, or the first of those behind it
pub first_found : (used : List Used) (node : ℕ) (dict : List Entry) (i : ℕ) (e : Entry) (k : ℕ) → IsSorted dict → i < length dict → e ≡ get_or dict i e
    → (is_stuck e && not (is_used used node e.index)) ≡ true → first_in used node dict (drop i dict) ≡ k → e.index ≡ k
first_found used node dict i e k sorted lt here passes so_far =
    let cut : drop i dict ≡ get_or dict i e ∷ drop (i + 1) dict = rw add-one (drop-cons dict i e lt) in
    let alone : stays_on dict e ≡ is_stuck e = stuck_alone dict e (own_place dict e sorted (i, lt, sym here)) in
    let one : first_in used node dict (drop i dict) ≡ e.index = rw (cut, ← here, alone, passes) refl in
    sym one ∙ so_far

pub first_not : (used : List Used) (node : ℕ) (dict : List Entry) (i : ℕ) (e : Entry) (k : ℕ) → IsSorted dict → i < length dict → e ≡ get_or dict i e
    → (is_stuck e && not (is_used used node e.index)) ≡ false → first_in used node dict (drop i dict) ≡ k → first_in used node dict (drop (i + 1) dict) ≡ k
first_not used node dict i e k sorted lt here passes so_far =
    let cut : drop i dict ≡ get_or dict i e ∷ drop (i + 1) dict = rw add-one (drop-cons dict i e lt) in
    let alone : stays_on dict e ≡ is_stuck e = stuck_alone dict e (own_place dict e sorted (i, lt, sym here)) in
    let one : first_in used node dict (drop i dict) ≡ first_in used node dict (drop (i + 1) dict) = rw (cut, ← here, alone, passes) refl in
    sym one ∙ so_far

-- the devices, one after the other
pub goes_on : (frames : List FrameRow) (used : List Used) (node : ℕ) (devices : List (Option Device)) (total : Result (Unit {0}) Refusal)
    → node < length devices → settable frames used node (get_or devices node None) ≡ Ok tt
    → all_settable frames used node (drop node devices) ≡ total → all_settable frames used (node + 1) (drop (node + 1) devices) ≡ total
unfolding all_settable
goes_on frames used node devices total lt ok so_far =
    let cut : drop node devices ≡ get_or devices node None ∷ drop (node + 1) devices = rw add-one (drop-cons devices node None lt) in
    let one : all_settable frames used node (drop node devices) ≡ all_settable frames used (node + 1) (drop (node + 1) devices) = rw (cut, ok) refl in
    sym one ∙ so_far

stops : (frames : List FrameRow) (used : List Used) (node : ℕ) (devices : List (Option Device)) (total : Result (Unit {0}) Refusal) (fault : Refusal)
    → node < length devices → settable frames used node (get_or devices node None) ≡ Err fault
    → all_settable frames used node (drop node devices) ≡ total → total ≡ Err fault
unfolding all_settable
stops frames used node devices total fault lt bad so_far =
    let cut : drop node devices ≡ get_or devices node None ∷ drop (node + 1) devices = rw add-one (drop-cons devices node None lt) in
    let one : all_settable frames used node (drop node devices) ≡ Err fault = rw (cut, bad) refl in
    sym so_far ∙ one

pub fails : (frames : List FrameRow) (used : List Used) (node : ℕ) (devices : List (Option Device)) (total : Result (Unit {0}) Refusal) (fault : Option Refusal)
    → node < length devices → all_settable frames used node (drop node devices) ≡ total
    → IfSome fault (λ f. settable frames used node (get_or devices node None) ≡ Err f) → IfSome fault (λ f. total ≡ Err f)
fails frames used node devices total None lt so_far h = tt
fails frames used node devices total (Some f) lt so_far h = stops frames used node devices total f lt h so_far

pub ends : (frames : List FrameRow) (used : List Used) (node : ℕ) (devices : List (Option Device)) (total : Result (Unit {0}) Refusal)
    → length devices ≤ node → all_settable frames used node (drop node devices) ≡ total → total ≡ Ok tt
unfolding all_settable
ends frames used node devices total le so_far =
    let none : drop node devices ≡ [] = drop_all node devices le in
    let one : all_settable frames used node (drop node devices) ≡ Ok tt = rw none refl in
    sym so_far ∙ one
