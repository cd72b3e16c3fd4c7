-- Writing what is asked leaves the initial values.
use Rattle.std.proofs.Common.{◌≡◌, ℕ, Bool, true, false, cond, List, [], ◌∷◌, length, arith, Option, Some, None, Result, Ok, Err, IfSome, refl, sym, ap, ◌∙◌}
use Rattle.cop_eds.specs.declared.amount.Amount.{Amount}
use Rattle.cop_dict.specs.declared.abort.Abort.{Abort}
use Rattle.cop_dict.specs.declared.abort.Abort.TheVariants.{WriteOnly}
use Rattle.cop_dict.specs.Types.{is_readable}
use Rattle.cop_dict.specs.Find.{Entry, entry_at, is_at}
use Rattle.cop_dict.specs.Dict.{written, with_value, valued, initial, as_built}
use Rattle.cop_rows.specs.declared.setting_rows.SettingRow.{SettingRow}
use Rattle.cop_setup.specs.declared.setting.Setting.{Setting}
use Rattle.cop_setup.specs.declared.asking.AskFault.{AskFault}
use Rattle.cop_setup.specs.declared.asking.AskFault.TheVariants.{Aborted}
use Rattle.cop_setup.specs.Settings.{bytes_of}
use Rattle.cop_setup.specs.Asking.{asked_of, by_entry, by_setting, by_write, is_so, with_width, number_width, pattern_in}
use Rattle.cop_setup.proofs.TryLemmas.{accepted_so}
use Rattle.cop_table.specs.Reading.{◌>>=◌}
use Rattle.cop_net.specs.declared.faults.Refusal.{Refusal}
use Rattle.cop_net.specs.Steps.{folded}
use Rattle.cop_net.specs.Asking.{Asked, settings_asked}

initial_valued : (index sub : ℕ) (bytes : List ℕ) (dict : List Entry) → initial (with_value index sub bytes dict) ≡ initial dict
initial_valued index sub bytes [] = refl
initial_valued index sub bytes (e ∷ es) = ap (λ x. x ∷ initial (with_value index sub bytes es)) (by_test (is_at index sub e)) ∙ ap (λ xs. as_built e ∷ xs) (initial_valued index sub bytes es)
  where
    by_test : (b : Bool) → as_built (cond b (valued bytes e) e) ≡ as_built e
    by_test true = refl
    by_test false = refl

by_written : (dict new : List Entry) (s : Setting) (o : Option Setting) (r : Result (List Entry) Abort) → written dict s.index s.sub (bytes_of s) ≡ r → by_write s r ≡ Ok (o, new) → initial new ≡ initial dict
by_written dict new s o (Ok d) is h =
    let both : ◌≡◌ {A = Option Setting × List Entry} (Some s, d) (o, new) = cc in
    ap initial (sym (ap (λ p. p.1) both)) ∙ ap initial (accepted_so dict d s is).0 ∙ initial_valued s.index s.sub (bytes_of s) dict
by_written dict new s o (Err a) is h = cc

by_read : (dict new : List Entry) (s : Setting) (o : Option Setting) (b : Bool) → cond b (by_write s (written dict s.index s.sub (bytes_of s))) (Err (Aborted WriteOnly)) ≡ Ok (o, new) → initial new ≡ initial dict
by_read dict new s o true h = by_written dict new s o (written dict s.index s.sub (bytes_of s)) refl h
by_read dict new s o false h = cc

by_test : (dict new : List Entry) (s : Setting) (o : Option Setting) (can b : Bool)
    → cond b (Ok (None, dict)) (cond can (by_write s (written dict s.index s.sub (bytes_of s))) (Err (Aborted WriteOnly))) ≡ Ok (o, new) → initial new ≡ initial dict
by_test dict new s o can true h = let both : ◌≡◌ {A = Option Setting × List Entry} (None, dict) (o, new) = cc in ap initial (sym (ap (λ p. p.1) both))
by_test dict new s o can false h = by_read dict new s o can h

by_set : (dict new : List Entry) (e : Entry) (o : Option Setting) (r : Result Setting AskFault) → by_setting dict e r ≡ Ok (o, new) → initial new ≡ initial dict
by_set dict new e o (Ok s) h = by_test dict new s o (is_readable e.description.access) (is_so e s) h
by_set dict new e o (Err fault) h = cc

-- what is written for a row leaves the initial values
pub ask_keeps : (dict new : List Entry) (node index sub : ℕ) (amount : Amount) (o : Option Setting) → asked_of dict node index sub amount ≡ Ok (o, new) → initial new ≡ initial dict
ask_keeps dict new node index sub amount o h = by_found (entry_at dict index sub) h
  where
    by_found : (found : Option Entry) → by_entry dict node index sub amount found ≡ Ok (o, new) → initial new ≡ initial dict
    by_found None h = cc
    by_found (Some e) h = by_set dict new e o (with_width index sub (pattern_in node amount e.description.data_type) (number_width e.description.data_type)) h

-- the settings of what was found, or the refusal
pub settings_ok : (r : Result Asked Refusal) (asked : Asked) → r ≡ Ok asked → (r >>= λ asked. Ok asked.settings) ≡ Ok asked.settings
settings_ok r asked h = rw h refl

pub settings_err : (r : Result Asked Refusal) (fault : Option Refusal) → IfSome fault (λ f. r ≡ Err f) → IfSome fault (λ f. (r >>= λ asked. Ok asked.settings) ≡ Err f)
settings_err r None h = tt
settings_err r (Some f) h = rw h refl

-- no row asks nothing
pub none_asked : (node : ℕ) (dict : List Entry) (rows : List SettingRow) → length rows ≡ 0 → settings_asked node dict rows ≡ Ok []
unfolding folded
none_asked node dict [] h = refl
none_asked node dict (row ∷ rows) h = absurd (omega (arith, h))
