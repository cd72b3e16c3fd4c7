-- What the lists of objects name.
use Rattle.std.proofs.Common.{◌≡◌, ℕ, Bool, true, false, cond, List, [], ◌∷◌, ◌++◌, map, filter, length, Option, None, Result, refl, sym, ap, ◌∙◌, append_assoc, ◌||◌}
use Rattle.std.specs.List.{list_any, flat_map}
use Rattle.std.specs.Option.{option_to_list}
use Rattle.std.specs.Ordering.{nat_cmp}
use Rattle.std.specs.BTreeSet.{insert_key}
use Rattle.std.proofs.lemmas.List.Sums.{fold-append}
use Rattle.std.proofs.lemmas.List.{length-map}
use Rattle.cop_tidy_reading.proofs.EarliestLemmas.{checked_alone}
use Rattle.std.proofs.lemmas.Grind.{flat_map-append}
use Rattle.std.proofs.lemmas.List.Folds.{list_any-append}
use Rattle.cop_eds.specs.Objects.{rising}
use Rattle.cop_frame.specs.declared.rates.Rate.{Rate}
use Rattle.cop_tidy_lines.specs.declared.choices.Digits.{Digits}
use Rattle.cop_tidy_lines.specs.declared.names.ListName.TheVariants as lists
use Rattle.cop_tidy_lines.specs.declared.names.SectionName.TheVariants as names
use Rattle.cop_tidy_lines.specs.declared.kinds.LineKind.{LineKind}
use Rattle.cop_tidy_lines.specs.declared.kinds.LineKind.TheVariants.{Silent, Header, Pair, Unknown}
use Rattle.cop_tidy_reading.specs.declared.question.Question.{Question}
use Rattle.cop_tidy_reading.specs.Questions.{both, all_of, asked_after, checked}
use Rattle.cop_tidy_reading.specs.Items.{Said}
use Rattle.cop_tidy_reading.specs.Sections.{Section, is_pair, pairs_of, section_named}
use Rattle.cop_tidy_reading.specs.declared.lists.Entry as code
use Rattle.cop_tidy_reading.specs.declared.words.Words.{Words}
use Rattle.cop_tidy_reading.specs.SeenLists.{entry_seen, with_all}
use Rattle.cop_tidy_reading.specs.Lists.{Entry, entry_at, entries_of, indexes_at, indexes_of, is_upto, lacks_entry, lacks_any, found_index, with_unlisted, check_found, checked_unlisted, check_rates, check_lists, named_by, named_if, listed}

by_kind : (items : List Said) (x : Said) (kind : LineKind) → x.kind ≡ kind → (xs : List Said) (rest : List Entry) → flat_map (entry_at items) xs ≡ rest →
    flat_map (entry_at items) (cond (is_pair kind) (x ∷ xs) xs) ≡ entry_at items x ++ rest
by_kind items x (Pair key) e xs rest h = rw h refl
by_kind items x Silent e xs rest h = rw (e, h) refl
by_kind items x (Header name) e xs rest h = rw (e, h) refl
by_kind items x Unknown e xs rest h = rw (e, h) refl

-- the entries of a section are those of its keys
pub entries_among : (items xs : List Said) → flat_map (entry_at items) (filter (λ said. is_pair said.kind) xs) ≡ flat_map (entry_at items) xs
entries_among items [] = refl
entries_among items (x ∷ xs) = by_kind items x x.kind refl (filter (λ said. is_pair said.kind) xs) (flat_map (entry_at items) xs) (entries_among items xs)

pub entries_in : (items part : List Said) (number : ℕ) → filter (λ said. is_pair said.kind) part ≡ pairs_of items number → flat_map (entry_at items) part ≡ entries_of items number
unfolding entries_of
entries_in items part number e = sym (entries_among items part) ∙ ap (flat_map (entry_at items)) e

filtered_by : (t : Bool) (x : code.Entry) (count : ℕ) (xs : List code.Entry) (ys : List Entry) → map entry_seen xs ≡ ys → map entry_seen (cond t (x ∷ xs) xs) ≡ cond t (entry_seen x ∷ ys) ys
filtered_by true x count xs ys h = ap (λ rest. entry_seen x ∷ rest) h
filtered_by false x count xs ys h = h

filtered : (count : ℕ) (entries : List code.Entry) → map entry_seen (filter (λ entry. is_upto count (entry_seen entry)) entries) ≡ filter (is_upto count) (map entry_seen entries)
filtered count [] = refl
filtered count (x ∷ xs) = filtered_by (is_upto count (entry_seen x)) x count _ _ (filtered count xs)

-- so many entries of the list are up to a number
pub counted : (count : ℕ) (entries : List code.Entry) → length (filter (λ entry. is_upto count (entry_seen entry)) entries) ≡ length (filter (is_upto count) (map entry_seen entries))
counted count entries = sym (length-map (filter (λ entry. is_upto count (entry_seen entry)) entries) entry_seen) ∙ ap length (filtered count entries)

-- numbers behind others
pub with_more : (named first more : List ℕ) → with_all (with_all named first) more ≡ with_all named (first ++ more)
with_more named first more = sym (fold-append (insert_key nat_cmp) named first more)

pub rising_all : (indexes : List ℕ) → with_all [] indexes ≡ rising indexes
unfolding rising
rising_all indexes = refl

pub rising_more : (first more : List ℕ) → with_all (rising first) more ≡ rising (first ++ more)
unfolding rising
rising_more first more = with_more [] first more

-- ---- the three lists

either_way : (a b c : Bool) → (a || (b || c)) ≡ ((a || b) || c)
either_way true b c = refl
either_way false b c = refl

module _ (digits : Option Digits) (items : List Said) where
  abbrev first : List Section
  first = option_to_list (section_named items (names.List lists.Mandatory))

  abbrev second : List Section
  second = option_to_list (section_named items (names.List lists.Optional))

  abbrev third : List Section
  third = option_to_list (section_named items (names.List lists.Manufacturer))

  abbrev in_list : List Section → List (Result (Option ℕ) Question)
  in_list list = flat_map (indexes_at digits items) list

  -- what each of the three lists names, one after the other
  pub three_found : (old : List (Result (Option ℕ) Question)) → ((old ++ in_list first) ++ in_list second) ++ in_list third ≡ old ++ indexes_of digits items
  unfolding indexes_of
  three_found old =
      ap (λ xs. xs ++ in_list third) (append_assoc old (in_list first) (in_list second)) ∙ append_assoc old (in_list first ++ in_list second) (in_list third)
      ∙ ap (λ xs. old ++ (xs ++ in_list third)) (sym (flat_map-append (indexes_at digits items) first second))
      ∙ ap (λ xs. old ++ xs) (sym (flat_map-append (indexes_at digits items) (first ++ second) third))

  abbrev lack : List Section → Bool
  lack list = list_any (lacks_entry digits items) list

  -- whether one of the three lists lacks an entry
  pub three_lack : (lack first || (lack second || lack third)) ≡ lacks_any digits items
  unfolding lacks_any
  three_lack =
      either_way (lack first) (lack second) (lack third) ∙ ap (λ (t : Bool). t || lack third) (sym (list_any-append (lacks_entry digits items) first second))
      ∙ sym (list_any-append (lacks_entry digits items) (first ++ second) third)

-- ---- what is left open

-- the question of all entries, where none is left
pub found_asks : (e : Option Question) (rest all : List (Result (Option ℕ) Question)) → rest ≡ [] → asked_after e (all_of rest) ≡ asked_after None (all_of all) →
    checked e ≡ check_found all
unfolding all_of
found_asks e rest all g h = ap checked (ap (λ xs. asked_after e (all_of xs)) (sym g) ∙ h) ∙ checked_alone (all_of all)

named_alike : (words : Words) (items : List Said) (found : List (Result (Option ℕ) Question)) → found ≡ indexes_of words.digits items →
    rising (with_unlisted words.unlisted items (flat_map found_index found)) ≡ named_by words items
unfolding named_by
named_alike words items found e = rw e refl

abbrev Open : Type 0
Open = Unit {0} × (Unit {0} × Unit {0})

abbrev Check : Type 0
Check = Result (Unit {0}) Question

-- the three checks side by side
pub checks_are : (words : Words) (items : List Said) (found : List (Result (Option ℕ) Question)) (named : List ℕ) (lacks : Bool)
    (seen : List (Result (Option ℕ) Question)) (rates : List Rate) (a b c : Check) (inner : Result (Unit {0} × Unit {0}) Question) (outer : Result Open Question)
    → a ≡ check_found seen → seen ≡ found → b ≡ checked_unlisted words.unlisted items named lacks → c ≡ check_rates rates items → rates ≡ words.rates.items
    → inner ≡ both b c → outer ≡ both a inner → outer ≡ check_lists words items found named lacks
checks_are words items found named lacks seen rates a b c inner outer ea es eb ec er ei eo =
    eo ∙ ap (λ x. both x inner) (ea ∙ ap check_found es)
    ∙ ap (λ x. both (check_found found) x) (ei ∙ ap (λ x. both x c) eb ∙ ap (λ x. both (checked_unlisted words.unlisted items named lacks) x) (ec ∙ ap (λ xs. check_rates xs items) er))

-- where what was found, the indexes and what is lacked are those of the definition, so is what is read
pub listed_is : (words : Words) (items : List Said) (found : List (Result (Option ℕ) Question)) (named : List ℕ) (lacks : Bool) (outer : Result Open Question)
    → found ≡ indexes_of words.digits items → named ≡ rising (with_unlisted words.unlisted items (flat_map found_index found)) → lacks ≡ lacks_any words.digits items
    → outer ≡ check_lists words items found named lacks → named_if outer named ≡ listed words items
unfolding listed
listed_is words items found named lacks outer e f g h =
    let same : named ≡ named_by words items = f ∙ named_alike words items found e in
    ap (λ read. named_if read named) (h ∙ ap (λ xs. check_lists words items xs named lacks) e ∙ ap (λ xs. check_lists words items (indexes_of words.digits items) xs lacks) same
    ∙ ap (λ test. check_lists words items (indexes_of words.digits items) (named_by words items) test) g)
    ∙ ap (λ xs. named_if (check_lists words items (indexes_of words.digits items) (named_by words items) (lacks_any words.digits items)) xs) same

-- ---- one of three

pub or_first : (a b c : Bool) → a ≡ true → (a || (b || c)) ≡ a
or_first a b c e = rw e refl

pub or_second : (a b c : Bool) → a ≡ false → b ≡ true → (a || (b || c)) ≡ b
or_second a b c e f = rw (e, f) refl

pub or_third : (a b c : Bool) → a ≡ false → b ≡ false → (a || (b || c)) ≡ c
or_third a b c e f = rw (e, f) refl

-- what the three lists lack together
pub lack_all : (digits : Option Digits) (items : List Said) (a b c r : Bool) → a ≡ list_any (lacks_entry digits items) (option_to_list (section_named items (names.List lists.Mandatory)))
    → b ≡ list_any (lacks_entry digits items) (option_to_list (section_named items (names.List lists.Optional)))
    → c ≡ list_any (lacks_entry digits items) (option_to_list (section_named items (names.List lists.Manufacturer))) → (a || (b || c)) ≡ r → r ≡ lacks_any digits items
lack_all digits items a b c r e f g h =
    sym h ∙ ap (λ (t : Bool). t || (b || c)) e ∙ ap (λ (t : Bool). list_any (lacks_entry digits items) (option_to_list (section_named items (names.List lists.Mandatory))) || (t || c)) f
    ∙ ap (λ (t : Bool). list_any (lacks_entry digits items) (option_to_list (section_named items (names.List lists.Mandatory)))
    || (list_any (lacks_entry digits items) (option_to_list (section_named items (names.List lists.Optional))) || t)) g
    ∙ three_lack digits items
