-- Settings that are apart are accepted in turn where each is accepted alone.
use Rattle.std.proofs.Common.{◌≡◌, ℕ, true, false, ◌&&◌, List, [], ◌∷◌, ◌++◌, refl, ap, sym, ◌∙◌, arith, ◌==◌, Option, Some, None}
use Rattle.std.specs.Prelude.{option_map}
use Rattle.std.proofs.lemmas.Bool.Decides.{nat_tests}
use Rattle.cop_dict.specs.declared.abort.Abort.{Abort}
use Rattle.cop_dict.specs.Find.{Entry, entry_at}
use Rattle.cop_dict.specs.Pdo.{is_mapping}
use Rattle.cop_dict.specs.Dict.{written, with_value, valued, unless_broken, refused_alone}
use Rattle.cop_dict.proofs.Replaced.{value_replaced}
use Rattle.cop_dict.proofs.LawLemmas.{others}
use Rattle.cop_dict.proofs.AloneLemmas.{written_alone}
use Rattle.std.specs.Result.{is_ok}
use Rattle.cop_setup.specs.declared.setting.Setting.{Setting}
use Rattle.cop_setup.specs.Settings.{bytes_of, with_setting, planned}
use Rattle.cop_setup.specs.InTurn.{AcceptsInTurn, IsElsewhere, AreApart, TakesEach, HaveValues}

-- a setting leaves each other entry
kept : (s : Setting) (dict : List Entry) (index sub : ℕ) → (s.index == index) && (s.sub == sub) ≡ false → entry_at (with_setting dict s) index sub ≡ entry_at dict index sub
kept s dict index sub apart = others dict s.index s.sub index sub (bytes_of s) apart

pub kept_by_all : (settings : List Setting) (dict : List Entry) (index sub : ℕ) → IsElsewhere index sub settings → entry_at (planned dict settings) index sub ≡ entry_at dict index sub
kept_by_all [] dict index sub h = refl
kept_by_all (s ∷ rest) dict index sub h = kept_by_all rest (with_setting dict s) index sub h.1 ∙ kept s dict index sub h.0

-- what a dictionary takes it takes after a setting elsewhere
takes_later : (s : Setting) (dict : List Entry) (rest : List Setting) → IsElsewhere s.index s.sub rest → TakesEach dict rest → TakesEach (with_setting dict s) rest
takes_later s dict [] apart h = tt
takes_later s dict (x ∷ rest) apart h =
    (record { entry = h.0.entry; at = kept s dict x.index x.sub (other s.index s.sub x.index x.sub apart.0) ∙ h.0.at; free = h.0.free; width = h.0.width; accepts = h.0.accepts }, takes_later s dict rest apart.1 h.1)
  where
    other : (a b c d : ℕ) → (c == a) && (d == b) ≡ false → (a == c) && (b == d) ≡ false
    other a b c d h = grind (arith, nat_tests)

pub in_turn : (settings : List Setting) (dict : List Entry) → AreApart settings → TakesEach dict settings → AcceptsInTurn dict settings
in_turn [] dict apart h = tt
in_turn (s ∷ rest) dict apart h = (
  rw h.0.at h.0.width,
  written_alone dict s.index s.sub (bytes_of s) h.0.entry h.0.at h.0.free ∙ rw h.0.accepts refl,
  in_turn rest (with_setting dict s) apart.1 (takes_later s dict rest apart.0 h.1),
)

-- one list of settings, and then another
pub turns_append : (a b : List Setting) (dict : List Entry) → AcceptsInTurn dict a → AcceptsInTurn (planned dict a) b → AcceptsInTurn dict (a ++ b)
turns_append [] b dict h g = g
turns_append (s ∷ a) b dict h g = (h.0, h.1, turns_append a b (with_setting dict s) h.2 g)

pub planned_append : (a b : List Setting) (dict : List Entry) → planned dict (a ++ b) ≡ planned (planned dict a) b
planned_append [] b dict = refl
planned_append (s ∷ a) b dict = planned_append a b (with_setting dict s)

have_later : (s : Setting) (dict new : List Entry) (rest : List Setting) → IsElsewhere s.index s.sub rest → HaveValues (with_setting dict s) new rest → HaveValues dict new rest
have_later s dict new [] apart h = tt
have_later s dict new (x ∷ rest) apart h =
    (h.0 ∙ ap (option_map (valued (bytes_of x))) (kept s dict x.index x.sub (other s.index s.sub x.index x.sub apart.0)), have_later s dict new rest apart.1 h.1)
  where
    other : (a b c d : ℕ) → (c == a) && (d == b) ≡ false → (a == c) && (b == d) ≡ false
    other a b c d h = grind (arith, nat_tests)

pub have_values : (settings : List Setting) (dict : List Entry) → AreApart settings → HaveValues dict (planned dict settings) settings
have_values [] dict apart = tt
have_values (s ∷ rest) dict apart = (
  kept_by_all rest (with_setting dict s) s.index s.sub apart.0 ∙ value_replaced dict s.index s.sub (bytes_of s),
  have_later s dict (planned (with_setting dict s) rest) rest apart.0 (have_values rest (with_setting dict s) apart.1),
)

ok_alone : {A : Type 0} (o : Option Abort) (x : A) → is_ok (unless_broken o x) ≡ true → o ≡ None
ok_alone None x h = refl
ok_alone (Some a) x h = cc

-- what is accepted once is accepted wherever the entry is the same
pub accepted_alone : (dict : List Entry) (index sub : ℕ) (bytes : List ℕ) (e : Entry) → entry_at dict index sub ≡ Some e → is_mapping e.index ≡ false
    → is_ok (written dict index sub bytes) ≡ true → refused_alone e bytes ≡ None
accepted_alone dict index sub bytes e at free h =
    ok_alone (refused_alone e bytes) (with_value index sub bytes dict) (ap is_ok (sym (written_alone dict index sub bytes e at free)) ∙ h)
