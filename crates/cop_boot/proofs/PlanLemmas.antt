-- A manager is made of a plan by nodes, whose numbers rise.
use Rattle.std.proofs.Common.{◌≡◌, ◌≤◌, ◌==◌, ◌↔◌, ◌&&◌, nat_le, ℕ, Bool, true, false, All, get_or, List, [], ◌∷◌, ◌++◌, map, refl, ap, sym, subst, ◌∙◌, arith, append_assoc, None}
use Rattle.std.proofs.lemmas.Bool.{eqb-true, and_parts}
use Rattle.std.specs.Global.{Vec}
use Rattle.std.proofs.Common.{Less, Equal}
use Rattle.std.specs.Ordering.{nat_cmp}
use Rattle.std.specs.Cmp.{nat_cmp_is}
use Rattle.std.specs.List.{AllByRecursion, list_all}
use Rattle.std.proofs.lemmas.List.Elements.{All-nil, All-cons, All-rest}
use Rattle.std.specs.List.Sorted.{IsStrictlySortedBy}
use Rattle.std.proofs.lemmas.List.{map-append, append-nil}
use Rattle.std.proofs.lemmas.Bool.Decides.{nat_tests}
use Rattle.cop_setup.specs.declared.setting.Setting.{Setting}
use Rattle.cop_boot.specs.declared.member.Member.{Member}
use Rattle.cop_boot.specs.Manager.{node_of}
use Rattle.cop_boot.specs.Booted.{Apart}
use Rattle.cop_boot.specs.Settings.{is_short_value}
use Rattle.cop_boot.specs.Member.{seen, unheard_within, is_managed, CanManage}

abbrev pub Plans : Type 0
Plans = List (ℕ × Vec Setting)

-- one more member
pub one_more : (limit : ℕ) (all rest : Plans) (one : ℕ × Vec Setting) (old new : List Member) (member : Member) (before : Plans)
    → map (unheard_within limit) all ≡ map seen old ++ map (unheard_within limit) before → before ≡ one ∷ rest → new ≡ old ++ member ∷ [] → seen member ≡ unheard_within limit one
    → map (unheard_within limit) all ≡ map seen new ++ map (unheard_within limit) rest
one_more limit all rest one old new member before whole first push is =
    whole ∙ ap (λ l. map seen old ++ map (unheard_within limit) l) first ∙ ap (λ n. map seen old ++ (n ∷ map (unheard_within limit) rest)) (sym is)
    ∙ sym (append_assoc (map seen old) (seen member ∷ []) (map (unheard_within limit) rest)) ∙ ap (λ l. l ++ map (unheard_within limit) rest) (sym (map-append seen old (member ∷ [])) ∙ ap (map seen) (sym push))

differ : (a b : ℕ) → nat_cmp a b ≡ Less → (b == a) ≡ false
differ a b h = by_test (b == a) refl
  where
    by_test : (t : Bool) → (b == a) ≡ t → t ≡ false
    by_test false e = refl
    by_test true e =
        let same : Equal ≡ nat_cmp a a = nat_cmp_is a a Equal refl in
        let less : nat_cmp a a ≡ Less = ap (nat_cmp a) (sym (eqb-true b a e)) ∙ h in
        cc

-- the nodes of a plan have different numbers
pub plan_apart : (limit : ℕ) (plan : Plans) → IsStrictlySortedBy nat_cmp (map (λ e. e.0) plan) → Apart (map (unheard_within limit) plan)
unfolding IsStrictlySortedBy
plan_apart limit [] h = tt
plan_apart limit (x ∷ plan) h = (none plan h.0, plan_apart limit plan h.1)
  where
    none : (plan : Plans) → AllByRecursion (λ n. nat_cmp x.0 n ≡ Less) (map (λ e. e.0) plan) → node_of (map (unheard_within limit) plan) x.0 ≡ None
    none [] h = refl
    none (y ∷ plan) h = rw (differ x.0 y.0 h.0) (none plan h.1)

-- all members of a whole plan are apart
pub made_apart : (limit : ℕ) (plan : Plans) (members : List Member) (rest : Plans) → IsStrictlySortedBy nat_cmp (map (λ e. e.0) plan) → map (unheard_within limit) plan ≡ map seen members ++ map (unheard_within limit) rest → rest ≡ [] → Apart (map seen members)
made_apart limit plan members rest h whole none =
    subst Apart (whole ∙ ap (λ rest. map seen members ++ map (unheard_within limit) rest) none ∙ append-nil (map seen members)) (plan_apart limit plan h)

-- what a managed node says, taken apart
pub managed_parts : (number : ℕ) (settings : List Setting) → is_managed number settings ≡ true → ((1 ≤ number) × (number ≤ 127)) × All (λ s. is_short_value s ≡ true) settings
managed_parts number settings h = ((grind (arith, nat_tests), grind (arith, nat_tests)), all_short settings (and_parts (nat_le 1 number && nat_le number 127) (list_all is_short_value settings) h).1)
  where
    all_short : (settings : List Setting) → list_all is_short_value settings ≡ true → All (λ s. is_short_value s ≡ true) settings
    all_short [] h = All-nil (λ s. is_short_value s ≡ true)
    all_short (s ∷ rest) h = All-cons (λ s. is_short_value s ≡ true) s rest (and_parts (is_short_value s) (list_all is_short_value rest) h).0 (all_short rest (and_parts (is_short_value s) (list_all is_short_value rest) h).1)

pub plan_nodes : (plan : Plans) → CanManage plan → All (λ e. (1 ≤ e.0) × (e.0 ≤ 127)) plan
plan_nodes plan h = λ k d lt. (managed_parts (get_or plan k d).0 (get_or plan k d).1.items (h k d lt)).0

pub plan_short : (plan : Plans) → CanManage plan → All (λ e. All (λ s. is_short_value s ≡ true) e.1.items) plan
plan_short plan h = λ k d lt. (managed_parts (get_or plan k d).0 (get_or plan k d).1.items (h k d lt)).1

pub managed_so : (number : ℕ) (settings : List Setting) (short : Bool) → (nat_le 1 number && nat_le number 127) ≡ true → short ≡ list_all is_short_value settings → short ≡ is_managed number settings
managed_so number settings short node is = rw node is

-- what is left of a plan can be managed exactly where all of it can
abbrev pub LeavesAll : Plans → Plans → Type 0
LeavesAll all rest = CanManage rest ↔ CanManage all

pub goes_on : (all it rest : Plans) (one : ℕ × Vec Setting) → it ≡ one ∷ rest → is_managed one.0 one.1.items ≡ true → LeavesAll all it → LeavesAll all rest
goes_on all it rest one is managed leaves = (
  λ h. leaves.0 (subst CanManage (sym is) (All-cons (λ e. is_managed e.0 e.1.items ≡ true) one rest managed h)),
  λ h. All-rest (λ e. is_managed e.0 e.1.items ≡ true) one rest it is (leaves.1 h),
)

pub all_of : (all it : Plans) → it ≡ [] → LeavesAll all it → CanManage all
all_of all it is leaves = leaves.0 (subst CanManage (sym is) (All-nil (λ e. is_managed e.0 e.1.items ≡ true)))
