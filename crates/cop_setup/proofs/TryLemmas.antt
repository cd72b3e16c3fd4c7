-- Settings that a device takes in turn.
use Rattle.std.proofs.Common.{◌≡◌, ◌<◌, ℕ, ◌+◌, false, not, List, [], ◌∷◌, ◌++◌, length, take, get_or, Option, Some, None, Ok, IsSome, refl, sym, ap, subst, ◌∙◌, arith}
use Rattle.std.specs.Option.{option_map_or}
use Rattle.std.specs.Int.{bytes_low_first}
use Rattle.std.proofs.lemmas.List.{take_more}
use Rattle.cop_dict.specs.declared.data_type.DataType.{DataType}
use Rattle.cop_dict.specs.declared.data_type.DataType.TheVariants as types
use Rattle.cop_dict.specs.Types.{width_of}
use Rattle.cop_dict.specs.Find.{Entry, entry_at}
use Rattle.cop_dict.specs.Dict.{HasWidth, written}
use Rattle.cop_dict.proofs.Replaced.{accepts}
use Rattle.cop_setup.specs.declared.setting.Setting.{Setting}
use Rattle.cop_setup.specs.declared.setting.Width.{Width}
use Rattle.cop_setup.specs.declared.setting.Width.TheVariants.{One, Two, Four}
use Rattle.cop_setup.specs.Width.{size_of}
use Rattle.cop_setup.specs.Settings.{bytes_of, with_setting, planned, has_numbers}
use Rattle.cop_setup.specs.InTurn.{AcceptsInTurn}
use Rattle.cop_setup.specs.Trying.{is_unlike, Takes, TakesInTurn}
use Rattle.cop_setup.proofs.InTurn.{planned_append}

-- the bytes of a value, as the processor gives them
pub taken_bytes : (w : Width) (v : ℕ) → take (size_of w) (bytes_low_first 0 4 v) ≡ bytes_low_first 0 (size_of w) v
taken_bytes One v = refl
taken_bytes Two v = refl
taken_bytes Four v = refl

pub size_at_most : (w : Width) → size_of w < 5
size_at_most One = omega arith
size_at_most Two = omega arith
size_at_most Four = omega arith

-- numbers have one width
numbers_wide : (t : DataType) (w : Width) → not (has_numbers t w) ≡ false → IsSome (width_of t)
numbers_wide types.VisibleString w h = cc
numbers_wide types.OctetString w h = cc
numbers_wide types.Domain w h = cc
numbers_wide types.Opaque w h = cc
numbers_wide _ w h = refl

-- so the object of a setting that is taken has one width, if it is there
pub alike_wide : (dict : List Entry) (s : Setting) → is_unlike dict s ≡ false → HasWidth dict s.index s.sub
alike_wide dict s h = by_entry (entry_at dict s.index s.sub) refl h
  where
    by_entry : (o : Option Entry) → entry_at dict s.index s.sub ≡ o → option_map_or (λ entry. not (has_numbers entry.description.data_type s.width)) o false ≡ false → HasWidth dict s.index s.sub
    by_entry None at h = rw at tt
    by_entry (Some e) at h = rw at (numbers_wide e.description.data_type s.width h)

-- an accepted write gives the dictionary with the setting
pub accepted_so : (dict new : List Entry) (s : Setting) → written dict s.index s.sub (bytes_of s) ≡ Ok new → (new ≡ with_setting dict s) × (written dict s.index s.sub (bytes_of s) ≡ Ok (with_setting dict s))
accepted_so dict new s h = let same = (accepts dict new s.index s.sub (bytes_of s) h).same in (same, h ∙ ap Ok same)

pub accepted_in_turn : (settings : List Setting) (dict : List Entry) → TakesInTurn dict settings → AcceptsInTurn dict settings
accepted_in_turn [] dict h = tt
accepted_in_turn (s ∷ rest) dict h = (alike_wide dict s h.0.alike, h.0.accepted, accepted_in_turn rest (with_setting dict s) h.1)

-- one more is taken
takes_append : (a b : List Setting) (dict : List Entry) → TakesInTurn dict a → TakesInTurn (planned dict a) b → TakesInTurn dict (a ++ b)
takes_append [] b dict h g = g
takes_append (s ∷ a) b dict h g = (h.0, takes_append a b (with_setting dict s) h.1 g)

pub one_more : (settings : List Setting) (dict now new : List Entry) (i : ℕ) (d : Setting) → i < length settings → TakesInTurn dict (take i settings) × (now ≡ planned dict (take i settings))
    → Takes now (get_or settings i d) × (new ≡ with_setting now (get_or settings i d)) → TakesInTurn dict (take (i + 1) settings) × (new ≡ planned dict (take (i + 1) settings))
one_more settings dict now new i d lt so_far one =
    let s = get_or settings i d in
    let more : take (i + 1) settings ≡ take i settings ++ s ∷ [] = take_more settings i d lt in (
      subst (TakesInTurn dict) (sym more) (takes_append (take i settings) (s ∷ []) dict so_far.0 (subst (λ before. Takes before s) so_far.1 one.0, tt)),
      one.1 ∙ ap (λ before. with_setting before s) so_far.1 ∙ sym (planned_append (take i settings) (s ∷ []) dict) ∙ ap (planned dict) (sym more),
    )
