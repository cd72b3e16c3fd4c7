-- What is set in each section, in a table.
use Rattle.std.proofs.Common.{◌≡◌, ◌≢◌, ◌<◌, ◌≤◌, ℕ, zero, suc, ◌+◌, true, false, ◌==◌, List, [], ◌∷◌, ◌++◌, length, get_or, filter, Option, Some, None, refl, sym, ap, ◌∙◌, arith, append_assoc, append-nil, add-one, ⊎_elim, length-append, codes, decimal}
use Rattle.std.specs.List.{cons_option}
use Rattle.std.specs.Option.{option_map}
use Rattle.std.proofs.lemmas.Bool.{cases_eq, cases_lt, ne_eqb}
use Rattle.std.proofs.lemmas.Bool.Decides.{nat_tests}
use Rattle.std.proofs.lemmas.List.{get_or_past, get_or_append_left, get_or_push}
use Rattle.std.proofs.lemmas.List.Elements.{filter-append}
use Rattle.cop_frame.specs.declared.rates.Rate.{Rate}
use Rattle.cop_frame.specs.Rate.{kbits_of}
use Rattle.cop_eds.specs.Edits.{Change}
use Rattle.cop_setup.specs.declared.setting.Setting.{Setting}
use Rattle.cop_dcf.specs.Dcf.{setting_in, value_set, values_from, device_set}
use Rattle.cop_dcf.specs.Changes.{KnowsSettings, AreBySection, is_in}

-- the values of one section more
values_next : (settings : ℕ → Option Setting) (first count : ℕ)
    → values_from settings first (suc count) ≡ values_from settings first count ++ cons_option (option_map (value_set (first + count)) (settings (first + count))) []
unfolding values_from
values_next settings first zero =
    let same : first + 0 ≡ first = omega arith in
    rw same refl
values_next settings first (suc count) =
    let same : first + 1 + count ≡ first + suc count = omega arith in
    by_first (option_map (value_set first) (settings first)) (values_next settings (first + 1) count ∙ ap (λ n. values_from settings (first + 1) count ++ cons_option (option_map (value_set n) (settings n)) []) same)
  where
    by_first : (o : Option Change) → values_from settings (first + 1) (suc count) ≡ values_from settings (first + 1) count ++ cons_option (option_map (value_set (first + suc count)) (settings (first + suc count))) []
        → cons_option o (values_from settings (first + 1) (suc count)) ≡ cons_option o (values_from settings (first + 1) count) ++ cons_option (option_map (value_set (first + suc count)) (settings (first + suc count))) []
    by_first None later = later
    by_first (Some c) later = ap (λ xs. c ∷ xs) later

pub values_more : (settings : ℕ → Option Setting) (first count : ℕ)
    → values_from settings first (count + 1) ≡ values_from settings first count ++ cons_option (option_map (value_set (first + count)) (settings (first + count))) []
values_more settings first count = ap (values_from settings first) (add-one count) ∙ values_next settings first count

-- settings that are the same give the same values
pub values_same : (f g : ℕ → Option Setting) (first count : ℕ) → ((section : ℕ) → section < first + count → f section ≡ g section) → values_from f first count ≡ values_from g first count
unfolding values_from
values_same f g first zero same = refl
values_same f g first (suc count) same =
    ap (λ o. cons_option (option_map (value_set first) o) (values_from f (first + 1) count)) (same first (omega arith))
    ∙ ap (cons_option (option_map (value_set first) (g first))) (values_same f g (first + 1) count (λ section lt. same section (omega arith)))

pub no_values : (f : ℕ → Option Setting) (first : ℕ) → values_from f first 0 ≡ []
unfolding values_from
no_values f first = refl

own_in : (section : ℕ) (o : Option Setting) → filter (is_in section) (cons_option (option_map (value_set section) o) []) ≡ cons_option (option_map (value_set section) o) []
own_in section None = refl
own_in section (Some s) =
    let here : (section == section) ≡ true = grind (arith, nat_tests) in
    rw here refl

other_in : (section own : ℕ) (o : Option Setting) → own ≢ section → filter (is_in section) (cons_option (option_map (value_set own) o) []) ≡ []
other_in section own None other = refl
other_in section own (Some s) other =
    let no : (own == section) ≡ false = ne_eqb own section other in
    rw no refl

-- the keys of one section more
pub by_section_more : (keys : List (List Change)) (settings : ℕ → Option Setting) (count : ℕ) (own : List Change) → length keys ≡ count → AreBySection keys (values_from settings 0 count)
    → own ≡ cons_option (option_map (value_set count) (settings count)) [] → AreBySection (keys ++ own ∷ []) (values_from settings 0 (count + 1))
by_section_more keys settings count own size are is section =
    ⊎_elim here there (cases_eq count section)
    ∙ sym (ap (filter (is_in section)) (values_more settings 0 count ∙ ap (λ n. values_from settings 0 count ++ cons_option (option_map (value_set n) (settings n)) []) zero_plus)
    ∙ filter-append (is_in section) (values_from settings 0 count) (cons_option (option_map (value_set count) (settings count)) []))
  where
    zero_plus : 0 + count ≡ count
    zero_plus = omega arith

    here : count ≡ section
        → get_or (keys ++ own ∷ []) section [] ≡ filter (is_in section) (values_from settings 0 count) ++ filter (is_in section) (cons_option (option_map (value_set count) (settings count)) [])
    here e =
        let past : length keys ≤ section = omega arith in
        let none : filter (is_in section) (values_from settings 0 count) ≡ [] = sym (are section) ∙ get_or_past keys section [] past in
        get_or_push keys own [] section (size ∙ e) ∙ is
        ∙ sym (ap (λ xs. xs ++ filter (is_in section) (cons_option (option_map (value_set count) (settings count)) [])) none
        ∙ ap (λ n. filter (is_in n) (cons_option (option_map (value_set count) (settings count)) [])) (sym e) ∙ own_in count (settings count))

    kept : count ≢ section → get_or (keys ++ own ∷ []) section [] ≡ get_or keys section []
    kept other = ⊎_elim
        (λ (lt : section < count). get_or_append_left keys (own ∷ []) [] section (omega arith))
        (λ (le : count ≤ section).
        let apart : count ≢ section = other in
        let more : length (keys ++ own ∷ []) ≡ length keys + 1 = length-append keys (own ∷ []) in
        get_or_past (keys ++ own ∷ []) section [] (omega arith) ∙ sym (get_or_past keys section [] (omega arith)))
        (cases_lt section count)

    there : count ≢ section
        → get_or (keys ++ own ∷ []) section [] ≡ filter (is_in section) (values_from settings 0 count) ++ filter (is_in section) (cons_option (option_map (value_set count) (settings count)) [])
    there other =
        kept other ∙ are section
        ∙ sym (ap (λ xs. filter (is_in section) (values_from settings 0 count) ++ xs) (other_in section count (settings count) other) ∙ append-nil (filter (is_in section) (values_from settings 0 count)))

pub none_by_section : (keys : List (List Change)) (settings : ℕ → Option Setting) → keys ≡ [] → AreBySection keys (values_from settings 0 0)
none_by_section keys settings none section = ap (λ ks. get_or ks section []) none ∙ ap (filter (is_in section)) (sym (no_values settings 0))

pub by_section_next : (keys now : List (List Change)) (settings : ℕ → Option Setting) (count : ℕ) (own : List Change) → length keys ≡ count → AreBySection keys (values_from settings 0 count)
    → own ≡ cons_option (option_map (value_set count) (settings count)) [] → now ≡ keys ++ own ∷ [] → AreBySection now (values_from settings 0 (count + 1))
by_section_next keys now settings count own size are is all section = ap (λ ks. get_or ks section []) all ∙ by_section_more keys settings count own size are is section

-- what is set, put together
pub values_known : (table seen : List (Option Setting)) (text : List ℕ) (settings : List Setting) (count : ℕ) → KnowsSettings table text settings count → seen ≡ table
    → values_from (λ section. get_or seen section None) 0 (length seen) ≡ values_from (setting_in text settings) 0 count
values_known table seen text settings count knows same =
    ap (λ ts. values_from (λ section. get_or ts section None) 0 (length ts)) same
    ∙ ap (values_from (λ section. get_or table section None) 0) knows.size
    ∙ values_same (λ section. get_or table section None) (setting_in text settings) 0 count (λ section lt. knows.each section (omega arith))

pub all_keys : (table : List (List Change)) (values values' : List Change) (key : Change) (origin device device' : List Change) → AreBySection table ((values ++ key ∷ []) ++ device)
    → values ≡ values' → key ∷ [] ≡ origin → device ≡ device' → AreBySection table ((values' ++ origin) ++ device')
all_keys table values values' key origin device device' h a b c section =
    h section
    ∙ ap (filter (is_in section)) (ap (λ vs. (vs ++ key ∷ []) ++ device) a ∙ ap (λ o. (values' ++ o) ++ device) b ∙ ap (λ d. (values' ++ origin) ++ d) c)

pub device_by_section : (table : List (List Change)) (changes : List Change) (first second third : Change) (section node : ℕ) (name : List ℕ) (rate : Rate)
    → AreBySection table (((changes ++ first ∷ []) ++ second ∷ []) ++ third ∷ []) → first ≡ record { section = section; key = codes "NodeID"; value = decimal node }
    → second ≡ record { section = section; key = codes "NodeName"; value = name } → third ≡ record { section = section; key = codes "Baudrate"; value = decimal (kbits_of rate) }
    → AreBySection table (changes ++ device_set section node name rate)
device_by_section table changes first second third section node name rate h a b c at =
    h at
    ∙ ap (filter (is_in at)) (append_assoc (changes ++ first ∷ []) (second ∷ []) (third ∷ []) ∙ append_assoc changes (first ∷ []) (second ∷ third ∷ [])
    ∙ ap (λ x. changes ++ x ∷ second ∷ third ∷ []) a
    ∙ ap (λ x. changes ++ record { section = section; key = codes "NodeID"; value = decimal node } ∷ x ∷ third ∷ []) b
    ∙ ap (λ x. changes ++ record { section = section; key = codes "NodeID"; value = decimal node } ∷ record { section = section; key = codes "NodeName"; value = name } ∷ x ∷ []) c)

pub one_longer : (keys : List (List Change)) (own : List Change) (count : ℕ) → length keys ≡ count → length (keys ++ own ∷ []) ≡ count + 1
one_longer keys own count size = length-append keys (own ∷ []) ∙ omega arith
