-- The nodes of a network that have devices, and what a plan sets in them.
use Rattle.std.proofs.Common.{◌≡◌, ℕ, zero, suc, ◌+◌, ◌-◌, ◌*◌, ◌<◌, ◌≤◌, ◌^◌, Bool, true, false, cond, nat_le, List, [], ◌∷◌, ◌++◌, length, map, take, get_or, is_some, All, refl, sym, ap, subst, ◌∙◌, arith, append-nil}
use Rattle.std.specs.List.{AllPairs, list_all}
use Rattle.std.specs.BTreeMap.{insert_entry}
use Rattle.std.specs.Cmp.{nat_cmp_is}
use Rattle.std.proofs.Common.{Greater}
use Rattle.std.proofs.lemmas.List.{take_more, map-append, length-append, get_or-take, length-take-le}
use Rattle.std.proofs.lemmas.List.Quantifiers.{all_pairs_push}
use Rattle.cop_dict.specs.Find.{Entry, is_before, IsSorted}
use Rattle.cop_dict.specs.Dict.{initial, as_built}
use Rattle.std.specs.Global.{Vec}
use Rattle.std.specs.Ordering.{nat_cmp}
use Rattle.std.proofs.lemmas.List.Elements.{All-nil, All-cons, All-append, All-head, All-tail}
use Rattle.std.proofs.lemmas.Bool.Decides.{nat_tests}
use Rattle.cop_net.specs.Network.{Net, IsNetwork}
use Rattle.cop_setup.specs.declared.setting.Setting.{Setting}
use Rattle.std.proofs.lemmas.List.{get_or_default}
use Rattle.cop_setup.specs.declared.setting.Width.{Width}
use Rattle.cop_setup.specs.declared.setting.Width.TheVariants.{One, Two, Four}
use Rattle.cop_setup.specs.Width.{size_of}
use Rattle.cop_dcf.specs.Settings.{dictionary_of, node_settings}
use Rattle.cop_setup.specs.Settings.{IsFit}
use Rattle.cop_dcf.proofs.SettingsLemmas.{all_fit_in}
use Rattle.cop_boot.specs.declared.«end».Phase.TheVariants.{Waiting}
use Rattle.cop_boot.proofs.PlanLemmas.{Plans}
use Rattle.cop_boot.specs.Settings.{is_short_in, is_short_value}
use Rattle.cop_boot.specs.Member.{unheard, is_managed, CanManage}
use Rattle.cop_boot.specs.Node.{Node}
use Rattle.std.proofs.Common.{Result, Ok, Err, IfOk}
use Rattle.cop_boot.specs.declared.turn.Turn.{Turn}
use Rattle.cop_boot.specs.Manager.{Managing}
use Rattle.cop_boot.specs.Device.{Attached}
use Rattle.cop_boot.specs.Bus.{Runs, Made}
use Rattle.cop_boot.specs.Booted.{CanBoot, ReadyInTime}
use Rattle.cop_boot.specs.NetworkBoot.{IsPlanOf, HavePlannedPdos}
use Rattle.cop_engine.specs.Turns.{turns_drawn}
use Rattle.cop_boot_answer.specs.Answers.{Told}
use Rattle.cop_engine.specs.Boots.{nodes_to, device_nodes, managed, manager_of, dictionary_at, device_at, boot_answer, IsBooted}

heads : {X : Type 0} (x y : X) (xs ys : List X) → x ∷ xs ≡ y ∷ ys → (x ≡ y) × (xs ≡ ys)
heads x y xs ys h = (cc, cc)

abbrev pub IsUpTo : ℕ → ℕ → Type 0
IsUpTo most node = (1 ≤ node) × (node ≤ most)

pub no_nodes : (net : Net) → nodes_to net 0 ≡ []
unfolding nodes_to
no_nodes net = refl

-- one node more, or none
pub has_device : (net : Net) (old new : List ℕ) (node : ℕ) → 1 ≤ node → is_some (dictionary_of net node) ≡ true → old ≡ nodes_to net (node - 1) → new ≡ old ++ node ∷ [] → new ≡ nodes_to net (node + 1 - 1)
unfolding nodes_to
has_device net old new node least has so_far push =
    push ∙ ap (λ xs. xs ++ node ∷ []) so_far ∙ sym (by_pred node least has)
  where
    by_pred : (n : ℕ) → 1 ≤ n → is_some (dictionary_of net n) ≡ true → nodes_to net (n + 1 - 1) ≡ nodes_to net (n - 1) ++ n ∷ []
    by_pred zero least has = absurd (omega arith)
    by_pred (suc p) least has =
        let e : suc p + 1 - 1 ≡ suc p = omega arith in
        let f : suc p - 1 ≡ p = omega arith in
        rw (e, f, has) refl

pub no_device : (net : Net) (old : List ℕ) (node : ℕ) → 1 ≤ node → is_some (dictionary_of net node) ≡ false → old ≡ nodes_to net (node - 1) → old ≡ nodes_to net (node + 1 - 1)
unfolding nodes_to
no_device net old node least has so_far = so_far ∙ sym (by_pred node least has)
  where
    by_pred : (n : ℕ) → 1 ≤ n → is_some (dictionary_of net n) ≡ false → nodes_to net (n + 1 - 1) ≡ nodes_to net (n - 1)
    by_pred zero least has = absurd (omega arith)
    by_pred (suc p) least has =
        let e : suc p + 1 - 1 ≡ suc p = omega arith in
        let f : suc p - 1 ≡ p = omega arith in
        rw (e, f, has) (append-nil (nodes_to net p))

-- the nodes are in range, rise, and are few
pub nodes_low : (net : Net) (n : ℕ) → All (IsUpTo n) (nodes_to net n)
unfolding nodes_to
nodes_low net zero = All-nil (IsUpTo 0)
nodes_low net (suc n) = by_test (is_some (dictionary_of net (suc n))) (wider (nodes_low net n))
  where
    wider : All (IsUpTo n) (nodes_to net n) → All (IsUpTo (suc n)) (nodes_to net n)
    wider h = λ k d lt. let below : get_or (nodes_to net n) k d ≤ n = (h k d lt).1 in ((h k d lt).0, omega arith)

    by_test : (b : Bool) → All (IsUpTo (suc n)) (nodes_to net n) → All (IsUpTo (suc n)) (nodes_to net n ++ cond b (suc n ∷ []) [])
    by_test true h = All-append (IsUpTo (suc n)) (nodes_to net n) (suc n ∷ []) h (All-cons (IsUpTo (suc n)) (suc n) [] (omega arith, omega arith) (All-nil (IsUpTo (suc n))))
    by_test false h = All-append (IsUpTo (suc n)) (nodes_to net n) [] h (All-nil (IsUpTo (suc n)))

pub nodes_rise : (net : Net) (n : ℕ) → AllPairs (λ node later. node < later) (nodes_to net n)
unfolding nodes_to
nodes_rise net zero = λ i j d lt inside. absurd (omega arith)
nodes_rise net (suc n) = by_test (is_some (dictionary_of net (suc n))) (nodes_rise net n)
  where
    below : (k d : ℕ) → k < length (nodes_to net n) → get_or (nodes_to net n) k d < suc n
    below k d lt = let low : get_or (nodes_to net n) k d ≤ n = (nodes_low net n k d lt).1 in omega arith

    by_test : (b : Bool) → AllPairs (λ node later. node < later) (nodes_to net n) → AllPairs (λ node later. node < later) (nodes_to net n ++ cond b (suc n ∷ []) [])
    by_test true h = all_pairs_push (λ node later. node < later) (nodes_to net n) (suc n) h below
    by_test false h = subst (AllPairs (λ node later. node < later)) (sym (append-nil (nodes_to net n))) h

pub nodes_few : (net : Net) (n : ℕ) → length (nodes_to net n) ≤ n
unfolding nodes_to
nodes_few net zero = omega arith
nodes_few net (suc n) = by_test (is_some (dictionary_of net (suc n))) (nodes_few net n)
  where
    by_test : (b : Bool) → length (nodes_to net n) ≤ n → length (nodes_to net n ++ cond b (suc n ∷ []) []) ≤ suc n
    by_test true few =
        let size : length (nodes_to net n ++ suc n ∷ []) ≡ length (nodes_to net n) + 1 = length-append (nodes_to net n) (suc n ∷ []) in
        omega arith
    by_test false few =
        let size : length (nodes_to net n ++ []) ≡ length (nodes_to net n) + 0 = length-append (nodes_to net n) [] in
        omega arith

-- a copied object stands behind those before it
pub stands_behind : (dict copy : List Entry) (i : ℕ) (object : Entry) → IsSorted dict → i < length dict → object ≡ get_or dict i object → copy ≡ initial (take i dict)
    → All (λ entry. is_before object.index object.sub entry ≡ true) copy
stands_behind dict copy i object sorted lt here is = subst (All (λ entry. is_before object.index object.sub entry ≡ true)) (sym is) (behind (take i dict) before)
  where
    before : All (λ entry. is_before object.index object.sub entry ≡ true) (take i dict)
    before k d lt2 =
        let size = length-take-le i dict (omega arith) in
        let inside : k < i = omega arith in
        let same : get_or dict i d ≡ object = get_or_default dict i d object lt ∙ sym here in
        let pair : is_before (get_or dict i d).index (get_or dict i d).sub (get_or dict k d) ≡ true = sorted k i d inside lt in
        rw (get_or-take i dict k d inside) (subst (λ (e : Entry). is_before e.index e.sub (get_or dict k d) ≡ true) same pair)

    behind : (xs : List Entry) → All (λ entry. is_before object.index object.sub entry ≡ true) xs → All (λ entry. is_before object.index object.sub entry ≡ true) (initial xs)
    behind [] h = All-nil (λ entry. is_before object.index object.sub entry ≡ true)
    behind (x ∷ xs) h =
        All-cons (λ entry. is_before object.index object.sub entry ≡ true) (as_built x) (initial xs) (All-head (λ entry. is_before object.index object.sub entry ≡ true) x xs h)
        (behind xs (All-tail (λ entry. is_before object.index object.sub entry ≡ true) x xs h))

-- it is what the copy has, too
pub push_behind : (dict items copy : List Entry) (i : ℕ) (object added : Entry) → items ≡ dict → IsSorted dict → i < length items → object ≡ get_or items i object → copy ≡ initial (take i dict)
    → added.index ≡ object.index → added.sub ≡ object.sub → All (λ entry. is_before added.index added.sub entry ≡ true) copy
push_behind dict items copy i object added same sorted lt here is index sub =
    let behind = stands_behind dict copy i object sorted (subst (λ (xs : List Entry). i < length xs) same lt) (here ∙ ap (λ (xs : List Entry). get_or xs i object) same) is in
    rw (index, sub) behind

-- what is put behind all others
insert_last : (es : Plans) (k : ℕ) (v : Vec Setting) → All (λ e. e.0 < k) es → insert_entry nat_cmp es k v ≡ es ++ (k, v) ∷ []
insert_last [] k v low = refl
insert_last (e ∷ es) k v low =
    let greater : Greater ≡ nat_cmp k e.0 = nat_cmp_is k e.0 Greater (All-head (λ e. e.0 < k) e es low) in
    rw (← greater) (ap (λ xs. e ∷ xs) (insert_last es k v (All-tail (λ e. e.0 < k) e es low)))

module _ (net : Net) (ids : List ℕ) where
  low_keys : (es : Plans) (ns : List ℕ) (k : ℕ) → map unheard es ≡ map (managed net ids) ns → All (λ n. n < k) ns → All (λ e. e.0 < k) es
  low_keys [] ns k same low = All-nil (λ e. e.0 < k)
  low_keys (e ∷ es) [] k same low = absurd (cc)
  low_keys (e ∷ es) (n ∷ ns) k same low =
      let parts = heads (unheard e) (managed net ids n) (map unheard es) (map (managed net ids) ns) same in
      let number : e.0 ≡ n = ap (λ (node : Node). node.number) parts.0 in
      All-cons (λ e. e.0 < k) e es (subst (λ x. x < k) (sym number) (All-head (λ n. n < k) n ns low)) (low_keys es ns k parts.1 (All-tail (λ n. n < k) n ns low))

  pub one_managed : (nodes : List ℕ) (es new : Plans) (i node : ℕ) (v : Vec Setting) → AllPairs (λ node later. node < later) nodes → i < length nodes → node ≡ get_or nodes i node
      → map unheard es ≡ map (managed net ids) (take i nodes) → v.items ≡ node_settings net ids node → new ≡ insert_entry nat_cmp es node v
      → map unheard new ≡ map (managed net ids) (take (i + 1) nodes)
  one_managed nodes es new i node v rise lt here so_far is put =
      ap (map unheard) (put ∙ insert_last es node v (low_keys es (take i nodes) node so_far low)) ∙ map-append unheard es ((node, v) ∷ [])
      ∙ ap (λ xs. xs ++ unheard (node, v) ∷ []) so_far
      ∙ ap (λ x. map (managed net ids) (take i nodes) ++ x ∷ []) (ap (λ settings. let n : Node = record { number = node; settings = settings; limit = 20000000; boots = 0; phase = Waiting 0 } in n) is ∙ ap (managed net ids) here)
      ∙ sym (ap (map (managed net ids)) (take_more nodes i node lt) ∙ map-append (managed net ids) (take i nodes) (get_or nodes i node ∷ []))
    where
      low : All (λ n. n < node) (take i nodes)
      low k d lt2 =
          let size = length-take-le i nodes (omega arith) in
          let inside : k < i = omega arith in
          let pair : get_or nodes k d < get_or nodes i d = rise k i d inside lt in
          let same : get_or nodes i d ≡ node = get_or_default nodes i d node lt ∙ sym here in
          let at : get_or (take i nodes) k d ≡ get_or nodes k d = get_or-take i nodes k d inside in
          omega arith

  pub short_of : (s : Setting) → IsFit s → is_short_value s ≡ true
  short_of s fit = by_width s.width s.value fit.value
    where
      by_width : (w : Width) (value : ℕ) → value < 2 ^ (8 * size_of w) → is_short_in w value ≡ true
      by_width One value small = grind (arith, nat_tests)
      by_width Two value small = grind (arith, nat_tests)
      by_width Four value small = refl

  all_short : (settings : List Setting) → All IsFit settings → list_all is_short_value settings ≡ true
  all_short [] h = refl
  all_short (s ∷ rest) h = rw (short_of s (All-head IsFit s rest h)) (all_short rest (All-tail IsFit s rest h))

  pub can_manage : (es : Plans) (ns : List ℕ) → IsNetwork net → All (λ id. id < 2 ^ 11) ids → All (IsUpTo 127) ns → map unheard es ≡ map (managed net ids) ns → CanManage es
  can_manage [] ns is small range same = All-nil (λ e. is_managed e.0 e.1.items ≡ true)
  can_manage (e ∷ es) [] is small range same = absurd (cc)
  can_manage (e ∷ es) (n ∷ ns) is small range same =
      let parts = heads (unheard e) (managed net ids n) (map unheard es) (map (managed net ids) ns) same in
      All-cons (λ e. is_managed e.0 e.1.items ≡ true) e es (one e n parts.0 (All-head (IsUpTo 127) n ns range)) (can_manage es ns is small (All-tail (IsUpTo 127) n ns range) parts.1)
    where
      one : (e : ℕ × Vec Setting) (n : ℕ) → unheard e ≡ managed net ids n → IsUpTo 127 n → is_managed e.0 e.1.items ≡ true
      one e n same range =
          let number : e.0 ≡ n = ap (λ (node : Node). node.number) same in
          let settings : e.1.items ≡ node_settings net ids n = ap (λ (node : Node). node.settings) same in
          let short : list_all is_short_value (node_settings net ids n) ≡ true = all_short (node_settings net ids n) (all_fit_in net ids n is small) in
          let low : nat_le 1 n ≡ true = let h = range.0 in grind (arith, nat_tests) in
          let high : nat_le n 127 ≡ true = let h = range.1 in grind (arith, nat_tests) in
          rw (number, settings, low, high) short

-- what a boot made, put together
pub booted_so : {E : Type 0} (seed : ℕ) (net : Net) (ids nodes shown : List ℕ) (manager later : Managing) (devices after : List Attached) (turns : List Turn) (r : Result Told E)
    → nodes ≡ device_nodes net → manager ≡ manager_of net ids nodes → devices ≡ map (device_at net) nodes → turns ≡ turns_drawn seed nodes → shown ≡ nodes
    → Runs manager devices turns later after
    → CanBoot (manager_of net ids (device_nodes net)) (map (device_at net) (device_nodes net)) (dictionary_at net) → ((built : ℕ → List Entry) → CanBoot manager devices built → Made manager built later after)
    → ((built : ℕ → List Entry) → CanBoot manager devices built → ReadyInTime manager devices turns later)
    → ((net : Net) (ids : List ℕ) (built : ℕ → List Entry) → CanBoot manager devices built → IsPlanOf net ids manager built → HavePlannedPdos net ids later after)
    → IsPlanOf net ids (manager_of net ids (device_nodes net)) (dictionary_at net)
    → IfOk r (λ answer. answer ≡ boot_answer later shown) → IfOk r (λ answer. IsBooted seed net ids answer)
booted_so seed net ids nodes shown manager later devices after turns (Err e) are made there drawn same runs can configures in_time exist plan_of said = tt
booted_so seed net ids nodes shown manager later devices after turns (Ok answer) are made there drawn same runs can configures in_time exist plan_of said = record {
  later = later;
  after = after;
  runs = subst (λ ts. Runs (manager_of net ids (device_nodes net)) (map (device_at net) (device_nodes net)) ts later after) whole_turns
      (subst (λ ds. Runs (manager_of net ids (device_nodes net)) ds turns later after) whole_devices (subst (λ m. Runs m devices turns later after) whole_manager runs));
  made = subst (λ m. Made m (dictionary_at net) later after) whole_manager (configures (dictionary_at net) can_now);
  in_time = subst (λ ts. ReadyInTime (manager_of net ids (device_nodes net)) (map (device_at net) (device_nodes net)) ts later) whole_turns
      (subst (λ ds. ReadyInTime (manager_of net ids (device_nodes net)) ds turns later) whole_devices
      (subst (λ m. ReadyInTime m devices turns later) whole_manager (in_time (dictionary_at net) can_now)));
  pdos = exist net ids (dictionary_at net) can_now (subst (λ m. IsPlanOf net ids m (dictionary_at net)) (sym whole_manager) plan_of);
  says = said ∙ ap (boot_answer later) (same ∙ are);
}
  where
    whole_manager : manager ≡ manager_of net ids (device_nodes net)
    whole_manager = made ∙ ap (manager_of net ids) are

    whole_devices : devices ≡ map (device_at net) (device_nodes net)
    whole_devices = there ∙ ap (λ ns. map (device_at net) ns) are

    whole_turns : turns ≡ turns_drawn seed (device_nodes net)
    whole_turns = drawn ∙ ap (turns_drawn seed) are

    can_now : CanBoot manager devices (dictionary_at net)
    can_now =
        subst (λ m. CanBoot m devices (dictionary_at net)) (sym whole_manager)
        (subst (λ ds. CanBoot (manager_of net ids (device_nodes net)) ds (dictionary_at net)) (sym whole_devices) can)
