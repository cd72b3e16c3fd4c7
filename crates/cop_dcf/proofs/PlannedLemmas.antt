-- The planned dictionary, entry by entry.
use Rattle.std.proofs.Common.{◌≡◌, ℕ, Bool, true, false, cond, ◌&&◌, ◌==◌, List, [], ◌∷◌, map, Option, Some, None, refl, sym, ap, ◌∙◌}
use Rattle.std.specs.Option.{option_or, option_map_or}
use Rattle.cop_dict.specs.Find.{Entry, is_at}
use Rattle.cop_dict.specs.Dict.{valued}
use Rattle.cop_setup.specs.declared.setting.Setting.{Setting}
use Rattle.cop_setup.specs.Width.{size_of}
use Rattle.cop_setup.specs.Settings.{bytes_of, with_setting, planned}
use Rattle.cop_dcf.proofs.BuildLemmas.{Word, word_bytes, entry_set}

abbrev pub word_of : Setting → Word
word_of setting = record { width = size_of setting.width; value = setting.value }

-- the last number that is set at an index and a sub
abbrev pub last_word : List Setting → ℕ → ℕ → Option Word
last_word [] index sub = None
last_word (x ∷ xs) index sub = option_or (last_word xs index sub) (cond ((index == x.index) && (sub == x.sub)) (Some (word_of x)) None)

none_set : (dict : List Entry) → map (entry_set (last_word [])) dict ≡ dict
none_set [] = refl
none_set (e ∷ es) = ap (λ rest. e ∷ rest) (none_set es)

one_more : (x : Setting) (xs : List Setting) (e : Entry) → entry_set (last_word xs) (cond (is_at x.index x.sub e) (valued (bytes_of x) e) e) ≡ entry_set (last_word (x ∷ xs)) e
one_more x xs e = by_test (is_at x.index x.sub e) (last_word xs e.index e.sub) refl
  where
    by_test : (b : Bool) (o : Option Word) → last_word xs e.index e.sub ≡ o
        → entry_set (last_word xs) (cond b (valued (bytes_of x) e) e)
        ≡ option_map_or (λ word. valued (word_bytes word) e) (option_or (last_word xs e.index e.sub) (cond b (Some (word_of x)) None)) e
    by_test true None is = rw is refl
    by_test true (Some w) is = rw is refl
    by_test false None is = rw is refl
    by_test false (Some w) is = rw is refl

all_more : (x : Setting) (xs : List Setting) (dict : List Entry) → map (entry_set (last_word xs)) (with_setting dict x) ≡ map (entry_set (last_word (x ∷ xs))) dict
all_more x xs [] = refl
all_more x xs (e ∷ es) =
    ap (λ f. f ∷ map (entry_set (last_word xs)) (with_setting es x)) (one_more x xs e)
    ∙ ap (λ rest. entry_set (last_word (x ∷ xs)) e ∷ rest) (all_more x xs es)

-- each entry has the last value that is set, or its own
pub planned_is : (settings : List Setting) (dict : List Entry) → planned dict settings ≡ map (entry_set (last_word settings)) dict
planned_is [] dict = sym (none_set dict)
planned_is (x ∷ xs) dict = planned_is xs (with_setting dict x) ∙ all_more x xs dict
