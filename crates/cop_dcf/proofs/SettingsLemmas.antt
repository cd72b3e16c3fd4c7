-- What is set in a node, entry by entry.
use Rattle.std.proofs.Common.{◌≡◌, ◌<◌, ◌≤◌, ℕ, zero, suc, ◌+◌, ◌-◌, ◌*◌, ◌^◌, inl, inr, Bool, true, false, ◌||◌, ◌==◌, nat_le, cond, List, [], ◌∷◌, ◌++◌, length, take, get_or, find, Option, Some, None, IsSome, is_some, refl, sym, ap, subst, ◌∙◌, arith, append_assoc, append-nil, All, IfSome}
use Rattle.std.specs.Prelude.{ℤ, pos}
use Rattle.std.specs.List.{filter_map, cons_option}
use Rattle.std.specs.Option.{option_and_then}
use Rattle.std.specs.Ordering.{int_eq}
use Rattle.std.proofs.lemmas.Bool.Decides.{nat_tests}
use Rattle.std.proofs.lemmas.List.{take_more, get_or_past}
use Rattle.std.proofs.lemmas.List.Elements.{filter_map-append, All-append, All-cons}
use Rattle.cop_frame.specs.declared.rates.Rate.{Rate}
use Rattle.cop_rta.specs.declared.streams.Stream.{Stream}
use Rattle.cop_rta.specs.Ranges.{IsPermitted}
use Rattle.cop_rows.specs.declared.pdo_table.PdoRow.{PdoRow}
use Rattle.cop_eds.proofs.ListLemmas.{get_or_same}
use Rattle.cop_dict.specs.Find.{Entry, unsigned32_of, is_at, entry_at}
use Rattle.cop_dict.specs.Pdo.{is_cob_id, exists_by}
use Rattle.cop_pdo.specs.CobIds.{off, on}
use Rattle.cop_rows.specs.declared.node_table.FrameRow.{FrameRow}
use Rattle.cop_rows.specs.declared.node_table.FrameKind.TheVariants.{Heartbeat}
use Rattle.cop_net.specs.Settings.{whole_of}
use Rattle.cop_net.specs.Fixed.{IsTimed, key_of, rank_of}
use Rattle.cop_net.specs.Heartbeats.{time_in, heartbeat_of}
use Rattle.cop_net.specs.Network.{Net, IsNetwork}
use Rattle.cop_net.proofs.FixedLemmas.{found_all}
use Rattle.cop_net.proofs.NetworkLemmas.{timed}
use Rattle.cop_plan.specs.Plans.{IsPlan}
use Rattle.cop_plan.specs.Values.{PlanValue}
use Rattle.cop_setup.specs.declared.setting.Setting.{Setting}
use Rattle.cop_dcf.specs.Identifiers.{id_at, id_in, KnowsIds}
use Rattle.cop_dcf.specs.Settings.{off_set, on_set, set_of, time_set, heartbeat_set, settings_of, settings_by, dictionary_of, asked_of, node_settings}
use Rattle.cop_setup.specs.Settings.{cob_id_set, IsFit, HasObject}
use Rattle.cop_dcf.proofs.IdentifierLemmas.{id_small}
use Rattle.cop_dcf.proofs.AskedLemmas.{node_taken, numbers_have_objects}

-- one element more
pub grown : {X Y : Type 0} (f : X → Option Y) (xs : List X) (i : ℕ) (d : X) → i < length xs → filter_map f (take (i + 1) xs) ≡ filter_map f (take i xs) ++ cons_option (f (get_or xs i d)) []
grown f xs i d lt = ap (filter_map f) (take_more xs i d lt) ∙ filter_map-append f (take i xs) (get_or xs i d ∷ [])

pub grown_some : {X Y : Type 0} (f : X → Option Y) (xs : List X) (i : ℕ) (d : X) (y : Y) (before ys zs : List Y) → i < length xs → f (get_or xs i d) ≡ Some y
    → ys ≡ before ++ filter_map f (take i xs) → zs ≡ ys ++ y ∷ [] → zs ≡ before ++ filter_map f (take (i + 1) xs)
grown_some f xs i d y before ys zs lt e old new =
    new ∙ ap (λ vs. vs ++ y ∷ []) old ∙ append_assoc before (filter_map f (take i xs)) (y ∷ [])
    ∙ ap (λ vs. before ++ vs) (sym (grown f xs i d lt ∙ ap (λ o. filter_map f (take i xs) ++ cons_option o []) e))

pub grown_none : {X Y : Type 0} (f : X → Option Y) (xs : List X) (i : ℕ) (d : X) (before ys : List Y) → i < length xs → f (get_or xs i d) ≡ None
    → ys ≡ before ++ filter_map f (take i xs) → ys ≡ before ++ filter_map f (take (i + 1) xs)
grown_none f xs i d before ys lt e old =
    old ∙ ap (λ vs. before ++ vs) (sym (grown f xs i d lt ∙ ap (λ o. filter_map f (take i xs) ++ cons_option o []) e ∙ append-nil _))

-- what is set of an entry, by the identifier at its index
pub set_alike : (set : Option ℕ → ℕ → ℕ → Option Setting) (ids : ℕ → Option ℕ) (id : Option ℕ) (index : ℕ) (entry : Entry) (entries : List Entry) (i : ℕ) (result : Option Setting)
    → result ≡ set_of set (λ index. id) entry → id ≡ ids index → index ≡ entry.index → entry ≡ get_or entries i entry → set_of set ids (get_or entries i entry) ≡ result
set_alike set ids id index entry entries i result e own place at =
    ap (set_of set ids) (sym at) ∙ sym (e ∙ ap (λ x. set_of set (λ index. x) entry) (own ∙ ap ids place))

permitted_small : (pdos id : ℕ) → IsPermitted pdos id → id < 2048
permitted_small pdos id (inl first) = omega (arith, first.1)
permitted_small pdos id (inr second) = omega (arith, second.1.1)

-- the identifiers of a plan have 11 bits
pub ids_small : (rates : List Rate) (streams : List Stream) (pdos : ℕ) (plan : PlanValue) → IsPlan rates streams pdos plan → All (λ id. id < 2048) plan.ids
ids_small rates streams pdos plan h = λ k d lt.
    let inside : k < pdos = omega (arith, h.count) in
    let high = permitted_small pdos (get_or plan.ids k 0) (h.passing.0.permitted k inside) in
    let same : get_or plan.ids k d ≡ get_or plan.ids k 0 = get_or_same plan.ids k 0 d lt in
    omega arith

-- those that are noted have them
pub noted_small : (places : List (Option ℕ)) (rows : List PdoRow) (ids : List ℕ) (node index : ℕ) → KnowsIds places rows ids node → All (λ id. id < 2048) ids
    → IfSome (id_in places index) (λ id. id < 2048)
noted_small places rows ids node index knows small = by_place (nat_le 1536 (index - 0x1400)) refl
  where
    by_place : (b : Bool) → nat_le 1536 (index - 0x1400) ≡ b → IfSome (id_in places index) (λ id. id < 2048)
    by_place true e =
        let least : 1536 ≤ index - 0x1400 = grind (arith, nat_tests) in
        let size = knows.size in
        let past : length places ≤ index - 0x1400 = omega arith in
        rw (get_or_past places (index - 0x1400) None past) tt
    by_place false e =
        let inside : index - 0x1400 < 1536 = grind (arith, nat_tests) in
        rw (knows.each (index - 0x1400) inside) (id_small rows ids node (0x1400 + (index - 0x1400)) small)

-- the index of a communication record
cob_id_index : (entry : Entry) → is_cob_id entry ≡ true → (0x1400 ≤ entry.index) × (entry.index - 0x1400 < 1536)
cob_id_index entry e = (grind (arith, nat_tests), grind (arith, nat_tests))

-- what is set by a table is what is set by the rows
pub set_by_rows : (set : Option ℕ → ℕ → ℕ → Option Setting) (places : List (Option ℕ)) (rows : List PdoRow) (ids : List ℕ) (node : ℕ) (dict : List Entry) → KnowsIds places rows ids node
    → filter_map (set_of set (id_in places)) dict ≡ filter_map (set_of set (id_at rows ids node)) dict
set_by_rows set places rows ids node [] knows = refl
set_by_rows set places rows ids node (entry ∷ dict) knows =
    ap (λ o. cons_option o (filter_map (set_of set (id_in places)) dict)) (by_test (is_cob_id entry) refl)
    ∙ ap (cons_option (set_of set (id_at rows ids node) entry)) (set_by_rows set places rows ids node dict knows)
  where
    by_test : (b : Bool) → is_cob_id entry ≡ b
        → cond b (option_and_then (set (id_in places entry.index) entry.index) (unsigned32_of entry)) None ≡ cond b (option_and_then (set (id_at rows ids node entry.index) entry.index) (unsigned32_of entry)) None
    by_test false e = refl
    by_test true e =
        let range = cob_id_index entry e in
        let low : 0x1400 ≤ entry.index = range.0 in
        let back : 0x1400 + (entry.index - 0x1400) ≡ entry.index = omega arith in
        let same : id_in places entry.index ≡ id_at rows ids node entry.index = knows.each (entry.index - 0x1400) range.1 ∙ ap (id_at rows ids node) back in
        ap (λ id. option_and_then (set id entry.index) (unsigned32_of entry)) same

-- what is set, put together
pub node_settings_are : (net : Net) (ids : List ℕ) (node : ℕ) (dict : List Entry) (places : List (Option ℕ)) (first offs asked ons all : List Setting) (time : Option Setting)
    → dictionary_of net node ≡ Some dict → KnowsIds places net.rows ids node → first ≡ [] → offs ≡ first ++ filter_map (set_of off_set (id_in places)) dict
    → asked ≡ offs ++ asked_of net node → ons ≡ asked ++ filter_map (set_of on_set (id_in places)) dict
    → cons_option time [] ≡ time_set (heartbeat_of net.nodes.frames node) (option_and_then whole_of (entry_at dict 0x1017 0))
    → all ≡ ons ++ cons_option time [] → all ≡ node_settings net ids node
node_settings_are net ids node dict places first offs asked ons all time own knows none a m b c d =
    let offs_by : List Setting = filter_map (set_of off_set (id_at net.rows ids node)) dict in
    let ons_by : List Setting = filter_map (set_of on_set (id_at net.rows ids node)) dict in
    let off_part : offs ≡ offs_by = a ∙ ap (λ xs. xs ++ filter_map (set_of off_set (id_in places)) dict) none ∙ set_by_rows off_set places net.rows ids node dict knows in
    let asked_part : asked ≡ offs_by ++ asked_of net node = m ∙ ap (λ xs. xs ++ asked_of net node) off_part in
    let on_part : ons ≡ (offs_by ++ asked_of net node) ++ ons_by =
    b ∙ ap (λ xs. xs ++ filter_map (set_of on_set (id_in places)) dict) asked_part
    ∙ ap (λ ys. (offs_by ++ asked_of net node) ++ ys) (set_by_rows on_set places net.rows ids node dict knows) in
    d ∙ ap (λ xs. xs ++ cons_option time []) on_part
    ∙ ap (λ ys. ((offs_by ++ asked_of net node) ++ ons_by) ++ ys) c
    ∙ sym (ap (settings_by (asked_of net node) (id_at net.rows ids node) (heartbeat_of net.nodes.frames node)) own)

-- what holds of each thing that is given holds of all
pub all_given : {X Y : Type 0} (P : Y → Type 0) (f : X → Option Y) (xs : List X) → All (λ x. IfSome (f x) P) xs → All P (filter_map f xs)
all_given {Y = Y} P f [] each = λ k d lt. absurd (omega arith)
all_given {Y = Y} P f (x ∷ xs) each = by_first (f x) (each 0 x (omega arith)) (all_given P f xs (λ k d lt. each (suc k) d (omega arith)))
  where
    by_first : (o : Option Y) → IfSome o P → All P (filter_map f xs) → All P (cons_option o (filter_map f xs))
    by_first None own later = later
    by_first (Some y) own later = All-cons P y (filter_map f xs) own later

off_fits : (index cob_id : ℕ) → IsFit (cob_id_set index (off cob_id))
off_fits index cob_id = record { value = omega arith }

on_fits : (index cob_id id : ℕ) → id < 2 ^ 11 → IsFit (cob_id_set index (on cob_id id))
on_fits index cob_id id small = record { value = omega arith }

off_all_fit : (ids : ℕ → Option ℕ) (entry : Entry) → IfSome (set_of off_set ids entry) IsFit
off_all_fit ids entry = by_test (is_cob_id entry) (unsigned32_of entry)
  where
    by_used : (b : Bool) (cob_id : ℕ) → IfSome (cond b (Some (cob_id_set entry.index (off cob_id))) None) IsFit
    by_used true cob_id = off_fits entry.index cob_id
    by_used false cob_id = tt

    by_test : (b : Bool) (o : Option ℕ) → IfSome (cond b (option_and_then (off_set (ids entry.index) entry.index) o) None) IsFit
    by_test false o = tt
    by_test true None = tt
    by_test true (Some cob_id) = by_used (is_some (ids entry.index) || exists_by cob_id) cob_id

on_all_fit : (ids : ℕ → Option ℕ) (entry : Entry) → IfSome (ids entry.index) (λ id. id < 2 ^ 11) → IfSome (set_of on_set ids entry) IsFit
on_all_fit ids entry small = by_test (is_cob_id entry) (unsigned32_of entry) (ids entry.index) small
  where
    by_test : (b : Bool) (o : Option ℕ) (id : Option ℕ) → IfSome id (λ id. id < 2 ^ 11) → IfSome (cond b (option_and_then (on_set id entry.index) o) None) IsFit
    by_test false o id h = tt
    by_test true None id h = tt
    by_test true (Some cob_id) None h = tt
    by_test true (Some cob_id) (Some id) h = on_fits entry.index cob_id id h

time_fits : (time : ℕ) (now : Option ℤ) → time < 2 ^ 16 → All IsFit (time_set time now)
time_fits time None small = λ k d lt. absurd (omega arith)
time_fits time (Some now) small = by_test (int_eq now (pos time))
  where
    by_test : (b : Bool) → All IsFit (cond b [] (heartbeat_set time ∷ []))
    by_test true = λ k d lt. absurd (omega arith)
    by_test false = All-cons IsFit (heartbeat_set time) [] (record { value = omega arith }) (λ k d lt. absurd (omega arith))

pub all_fit : (dict : List Entry) (asked : List Setting) (ids : ℕ → Option ℕ) (time : ℕ) → All IsFit asked → ((index : ℕ) → IfSome (ids index) (λ id. id < 2 ^ 11)) → time < 2 ^ 16
    → All IsFit (settings_of dict asked ids time)
all_fit dict asked ids time fits small short =
    let offs : List Setting = filter_map (set_of off_set ids) dict in
    let ons : List Setting = filter_map (set_of on_set ids) dict in
    All-append IsFit ((offs ++ asked) ++ ons) (time_set time (option_and_then whole_of (entry_at dict 0x1017 0)))
    (All-append IsFit (offs ++ asked) ons
    (All-append IsFit offs asked (all_given IsFit (set_of off_set ids) dict (λ k d lt. off_all_fit ids (get_or dict k d))) fits)
    (all_given IsFit (set_of on_set ids) dict (λ k d lt. on_all_fit ids (get_or dict k d) (small (get_or dict k d).index))))
    (time_fits time (option_and_then whole_of (entry_at dict 0x1017 0)) short)

-- the time of a heartbeat in ms has 16 bits
pub short_time : (row : Option FrameRow) → IfSome row IsTimed → time_in row < 2 ^ 16
short_time None timed = omega arith
short_time (Some row) timed = let most = timed.period in omega arith

pub all_fit_in : (net : Net) (ids : List ℕ) (node : ℕ) → IsNetwork net → All (λ id. id < 2 ^ 11) ids → All IsFit (node_settings net ids node)
all_fit_in net ids node network small = by_dict (dictionary_of net node) refl
  where
    by_dict : (o : Option (List Entry)) → dictionary_of net node ≡ o → All IsFit (settings_by (asked_of net node) (id_at net.rows ids node) (heartbeat_of net.nodes.frames node) o)
    by_dict None e = λ k d lt. absurd (omega arith)
    by_dict (Some dict) e =
        all_fit dict (asked_of net node) (id_at net.rows ids node) (heartbeat_of net.nodes.frames node) (node_taken net node dict network e).fits (λ index. id_small net.rows ids node index small)
        (short_time (find (λ row. key_of row == 6 * node + rank_of Heartbeat) net.nodes.frames) (found_all IsTimed (λ row. key_of row == 6 * node + rank_of Heartbeat) net.nodes.frames (timed net.nodes network.nodes)))

-- an entry has its address
has_own : (dict : List Entry) (k : ℕ) (d : Entry) → k < length dict → (index sub : ℕ) → (get_or dict k d).index ≡ index → (get_or dict k d).sub ≡ sub → IsSome (entry_at dict index sub)
has_own [] k d lt index sub e s = absurd (omega arith)
has_own (x ∷ xs) zero d lt index sub e s =
    let i : (x.index == index) ≡ true = grind (arith, nat_tests) in
    let j : (x.sub == sub) ≡ true = grind (arith, nat_tests) in
    rw (i, j) refl
has_own (x ∷ xs) (suc k) d lt index sub e s = by_test (is_at index sub x) (has_own xs k d (omega arith) index sub e s)
  where
    by_test : (b : Bool) → IsSome (entry_at xs index sub) → IsSome (cond b (Some x) (entry_at xs index sub))
    by_test true h = refl
    by_test false h = h

cob_id_here : (dict : List Entry) (k : ℕ) (d : Entry) (value : ℕ) → k < length dict → is_cob_id (get_or dict k d) ≡ true → HasObject dict (cob_id_set (get_or dict k d).index value)
cob_id_here dict k d value lt e = has_own dict k d lt (get_or dict k d).index 1 refl (grind (arith, nat_tests))

off_here : (dict : List Entry) (ids : ℕ → Option ℕ) (k : ℕ) (d : Entry) → k < length dict → IfSome (set_of off_set ids (get_or dict k d)) (HasObject dict)
off_here dict ids k d lt = by_test (is_cob_id (get_or dict k d)) refl (unsigned32_of (get_or dict k d))
  where
    by_used : (b : Bool) (cob_id : ℕ) → is_cob_id (get_or dict k d) ≡ true → IfSome (cond b (Some (cob_id_set (get_or dict k d).index (off cob_id))) None) (HasObject dict)
    by_used true cob_id e = cob_id_here dict k d (off cob_id) lt e
    by_used false cob_id e = tt

    by_test : (b : Bool) → is_cob_id (get_or dict k d) ≡ b → (o : Option ℕ) → IfSome (cond b (option_and_then (off_set (ids (get_or dict k d).index) (get_or dict k d).index) o) None) (HasObject dict)
    by_test false e o = tt
    by_test true e None = tt
    by_test true e (Some cob_id) = by_used (is_some (ids (get_or dict k d).index) || exists_by cob_id) cob_id e

on_here : (dict : List Entry) (ids : ℕ → Option ℕ) (k : ℕ) (d : Entry) → k < length dict → IfSome (set_of on_set ids (get_or dict k d)) (HasObject dict)
on_here dict ids k d lt = by_test (is_cob_id (get_or dict k d)) refl (unsigned32_of (get_or dict k d)) (ids (get_or dict k d).index)
  where
    by_test : (b : Bool) → is_cob_id (get_or dict k d) ≡ b → (o id : Option ℕ) → IfSome (cond b (option_and_then (on_set id (get_or dict k d).index) o) None) (HasObject dict)
    by_test false e o id = tt
    by_test true e None id = tt
    by_test true e (Some cob_id) None = tt
    by_test true e (Some cob_id) (Some id) = cob_id_here dict k d (on cob_id id) lt e

time_here : (dict : List Entry) (time : ℕ) → All (HasObject dict) (time_set time (option_and_then whole_of (entry_at dict 0x1017 0)))
time_here dict time = by_entry (entry_at dict 0x1017 0) refl
  where
    by_now : (now : Option ℤ) → IsSome (entry_at dict 0x1017 0) → All (HasObject dict) (time_set time now)
    by_now None some = λ k d lt. absurd (omega arith)
    by_now (Some n) some = by_test (int_eq n (pos time))
      where
        by_test : (b : Bool) → All (HasObject dict) (cond b [] (heartbeat_set time ∷ []))
        by_test true = λ k d lt. absurd (omega arith)
        by_test false = All-cons (HasObject dict) (heartbeat_set time) [] some (λ k d lt. absurd (omega arith))

    by_entry : (o : Option Entry) → entry_at dict 0x1017 0 ≡ o → All (HasObject dict) (time_set time (option_and_then whole_of o))
    by_entry None e = λ k d lt. absurd (omega arith)
    by_entry (Some entry) e = by_now (whole_of entry) (rw e refl)

pub all_have_objects : (dict : List Entry) (asked : List Setting) (ids : ℕ → Option ℕ) (time : ℕ) → All (HasObject dict) asked → All (HasObject dict) (settings_of dict asked ids time)
all_have_objects dict asked ids time have =
    let offs : List Setting = filter_map (set_of off_set ids) dict in
    let ons : List Setting = filter_map (set_of on_set ids) dict in
    All-append (HasObject dict) ((offs ++ asked) ++ ons) (time_set time (option_and_then whole_of (entry_at dict 0x1017 0)))
    (All-append (HasObject dict) (offs ++ asked) ons
    (All-append (HasObject dict) offs asked (all_given (HasObject dict) (set_of off_set ids) dict (λ k d lt. off_here dict ids k d lt)) have)
    (all_given (HasObject dict) (set_of on_set ids) dict (λ k d lt. on_here dict ids k d lt)))
    (time_here dict time)

pub all_have_objects_in : (net : Net) (ids : List ℕ) (node : ℕ) (dict : List Entry) → IsNetwork net → dictionary_of net node ≡ Some dict → All (HasObject dict) (node_settings net ids node)
all_have_objects_in net ids node dict is e =
    subst (λ o. All (HasObject dict) (settings_by (asked_of net node) (id_at net.rows ids node) (heartbeat_of net.nodes.frames node) o)) (sym e)
    (all_have_objects dict (asked_of net node) (id_at net.rows ids node) (heartbeat_of net.nodes.frames node) (numbers_have_objects dict (asked_of net node) (node_taken net node dict is e).numbers))
