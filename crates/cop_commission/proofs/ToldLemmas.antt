-- Nodes whose settings are those of a plan by what the devices told.
use Rattle.std.proofs.Common.{◌≡◌, ℕ, ◌+◌, ◌<◌, ◌^◌, nat_le, Bool, true, false, ◌&&◌, ◌==◌, if◌then◌else◌, List, [], ◌∷◌, ◌++◌, length, map, take, get_or, All, Greater, Option, Some, None, refl, sym, ap, subst, ◌∙◌, arith}
use Rattle.std.specs.Global.{Vec}
use Rattle.std.specs.List.{AllPairs, list_all}
use Rattle.std.specs.BTreeMap.{insert_entry}
use Rattle.std.specs.Cmp.{nat_cmp_is}
use Rattle.std.specs.Ordering.{nat_cmp}
use Rattle.std.proofs.lemmas.Bool.Decides.{nat_tests}
use Rattle.std.proofs.lemmas.List.{take_more, map-append, get_or-take, get_or_default, length-take-le}
use Rattle.std.proofs.lemmas.List.Elements.{All-nil, All-cons, All-head, All-tail}
use Rattle.std.specs.Prelude.{not}
use Rattle.cop_dict.specs.Pdo.{is_communication, exists_by}
use Rattle.cop_pdo.specs.CobIds.{off}
use Rattle.cop_net.specs.Network.{Net, IsNetwork}
use Rattle.cop_setup.specs.declared.setting.Setting.{Setting}
use Rattle.cop_setup.specs.declared.setting.Width.{Width}
use Rattle.cop_setup.specs.declared.setting.Width.TheVariants.{One, Two, Four}
use Rattle.cop_setup.specs.Width.{size_of}
use Rattle.cop_dcf.specs.Settings.{node_settings}
use Rattle.cop_setup.specs.Settings.{IsFit}
use Rattle.cop_dcf.proofs.SettingsLemmas.{all_fit_in}
use Rattle.cop_boot.specs.Settings.{address_of, is_short_in, is_short_value}
use Rattle.cop_boot.specs.Member.{unheard_within, is_managed, CanManage}
use Rattle.cop_boot.specs.declared.«end».Phase.TheVariants.{Waiting}
use Rattle.cop_boot.specs.Node.{Node}
use Rattle.cop_boot.proofs.PlanLemmas.{Plans}
use Rattle.cop_engine.proofs.BootLemmas.{IsUpTo, short_of}
use Rattle.cop_identity.specs.declared.asking.Exchange.{Exchange}
use Rattle.cop_identity.specs.Telling.{told_at}
use Rattle.cop_commission.specs.Told.{switches_off, off_by, with_told, told_settings, told_node}

heads : {X : Type 0} (x y : X) (xs ys : List X) → x ∷ xs ≡ y ∷ ys → (x ≡ y) × (xs ≡ ys)
heads x y xs ys h = (cc, cc)

-- what is put behind all others
insert_last : (es : Plans) (k : ℕ) (v : Vec Setting) → All (λ e. e.0 < k) es → insert_entry nat_cmp es k v ≡ es ++ (k, v) ∷ []
insert_last [] k v low = refl
insert_last (e ∷ es) k v low =
    let greater : Greater ≡ nat_cmp k e.0 = nat_cmp_is k e.0 Greater (All-head (λ e. e.0 < k) e es low) in
    rw (← greater) (ap (λ xs. e ∷ xs) (insert_last es k v (All-tail (λ e. e.0 < k) e es low)))

-- nodes with some settings
module _ (limit : ℕ) (settings : ℕ → List Setting) where
  abbrev f : ℕ → Node
  f n = record { number = n; settings = settings n; limit = limit; boots = 0; phase = Waiting 0 }

  low_keys : (es : Plans) (ns : List ℕ) (k : ℕ) → map (unheard_within limit) es ≡ map f ns → All (λ n. n < k) ns → All (λ e. e.0 < k) es
  low_keys [] ns k same low = All-nil (λ e. e.0 < k)
  low_keys (e ∷ es) [] k same low = absurd (cc)
  low_keys (e ∷ es) (n ∷ ns) k same low =
      let parts = heads (unheard_within limit e) (f n) (map (unheard_within limit) es) (map f ns) same in
      let number : e.0 ≡ n = ap (λ (node : Node). node.number) parts.0 in
      All-cons (λ e. e.0 < k) e es (subst (λ x. x < k) (sym number) (All-head (λ n. n < k) n ns low)) (low_keys es ns k parts.1 (All-tail (λ n. n < k) n ns low))

  pub one_told : (nodes : List ℕ) (es new : Plans) (i node : ℕ) (v : Vec Setting) → AllPairs (λ node later. node < later) nodes → i < length nodes → node ≡ get_or nodes i node
      → map (unheard_within limit) es ≡ map f (take i nodes) → v.items ≡ settings node → new ≡ insert_entry nat_cmp es node v → map (unheard_within limit) new ≡ map f (take (i + 1) nodes)
  one_told nodes es new i node v rise lt here so_far is put =
      ap (map (unheard_within limit)) (put ∙ insert_last es node v (low_keys es (take i nodes) node so_far low)) ∙ map-append (unheard_within limit) es ((node, v) ∷ [])
      ∙ ap (λ xs. xs ++ unheard_within limit (node, v) ∷ []) so_far
      ∙ ap (λ x. map f (take i nodes) ++ x ∷ []) (ap (λ own. let n : Node = record { number = node; settings = own; limit = limit; boots = 0; phase = Waiting 0 } in n) is ∙ ap f here)
      ∙ sym (ap (map f) (take_more nodes i node lt) ∙ map-append f (take i nodes) (get_or nodes i node ∷ []))
    where
      low : All (λ n. n < node) (take i nodes)
      low k d lt2 =
          let size = length-take-le i nodes (omega arith) in
          let inside : k < i = omega arith in
          let pair : get_or nodes k d < get_or nodes i d = rise k i d inside lt in
          let same : get_or nodes i d ≡ node = get_or_default nodes i d node lt ∙ sym here in
          let at : get_or (take i nodes) k d ≡ get_or nodes k d = get_or-take i nodes k d inside in
          omega arith

third : (a b c d : Bool) → a && b && c && d ≡ true → c ≡ true
third a b true d e = refl
third true true false d e = absurd (cc)
third true false false d e = absurd (cc)
third false b false d e = absurd (cc)

-- values stay short, as that of a COB-ID has four bytes
told_short : (told : List Exchange) (n : ℕ) (s : Setting) → is_short_value s ≡ true → is_short_value (with_told told n s) ≡ true
told_short told n s short = by_test (switches_off s) refl
  where
    by_width : (w : Width) (value : ℕ) → (size_of w == 4) ≡ true → is_short_in w value ≡ true
    by_width One value four = cc
    by_width Two value four = cc
    by_width Four value four = refl

    by_value : (told : Option ℕ) → (size_of s.width == 4) ≡ true → is_short_value (off_by s told) ≡ true
    by_value None four = short
    by_value (Some value) four = by_width s.width (off value) four

    by_test : (b : Bool) → switches_off s ≡ b → is_short_value (if b then off_by s (told_at n (address_of s) told) else s) ≡ true
    by_test false e = short
    by_test true e = by_value (told_at n (address_of s) told) (third (is_communication s.index) (s.sub == 1) (size_of s.width == 4) (not (exists_by s.value)) e)

module _ (limit : ℕ) (net : Net) (ids : List ℕ) (told : List Exchange) where
  all_short : (n : ℕ) (settings : List Setting) → All IsFit settings → list_all is_short_value (told_settings told n settings) ≡ true
  all_short n [] h = refl
  all_short n (s ∷ rest) h = rw (told_short told n s (short_of net ids s (All-head IsFit s rest h))) (all_short n rest (All-tail IsFit s rest h))

  pub can_manage : (es : Plans) (ns : List ℕ) → IsNetwork net → All (λ id. id < 2 ^ 11) ids → All (IsUpTo 127) ns → map (unheard_within limit) es ≡ map (told_node limit net ids told) ns → CanManage es
  can_manage [] ns is small range same = All-nil (λ e. is_managed e.0 e.1.items ≡ true)
  can_manage (e ∷ es) [] is small range same = absurd (cc)
  can_manage (e ∷ es) (n ∷ ns) is small range same =
      let parts = heads (unheard_within limit e) (told_node limit net ids told n) (map (unheard_within limit) es) (map (told_node limit net ids told) ns) same in
      All-cons (λ e. is_managed e.0 e.1.items ≡ true) e es (one e n parts.0 (All-head (IsUpTo 127) n ns range)) (can_manage es ns is small (All-tail (IsUpTo 127) n ns range) parts.1)
    where
      one : (e : ℕ × Vec Setting) (n : ℕ) → unheard_within limit e ≡ told_node limit net ids told n → IsUpTo 127 n → is_managed e.0 e.1.items ≡ true
      one e n same range =
          let number : e.0 ≡ n = ap (λ (node : Node). node.number) same in
          let settings : e.1.items ≡ told_settings told n (node_settings net ids n) = ap (λ (node : Node). node.settings) same in
          let short : list_all is_short_value (told_settings told n (node_settings net ids n)) ≡ true = all_short n (node_settings net ids n) (all_fit_in net ids n is small) in
          let low : nat_le 1 n ≡ true = let h = range.0 in grind (arith, nat_tests) in
          let high : nat_le n 127 ≡ true = let h = range.1 in grind (arith, nat_tests) in
          rw (number, settings, low, high) short
