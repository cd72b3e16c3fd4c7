-- What is read of texts, by their names.
use Rattle.std.proofs.Common.{◌≡◌, ℕ, ◌*◌, Bool, true, false, cond, List, [], ◌∷◌, ◌++◌, find, Option, Some, None, Result, Ok, option_map, is_some, refl, sym, ap, ◌∙◌, if◌then◌else◌}
use Rattle.std.specs.Option.{option_or}
use Rattle.std.specs.Str.{bytes_eq}
use Rattle.std.specs.Map.{update}
use Rattle.std.specs.BTreeMap.{BTreeMap}
use denote.Ref.{Bor}
use Rattle.std.proofs.lemmas.List.Folds.{find-append}
use Rattle.std.proofs.lemmas.Slice.Eq.{bytes_eq-Decides}
use Rattle.cop_eds.specs.declared.fault.Refusal as eds
use Rattle.cop_eds.specs.Reading.{reading, at_most}
use Rattle.cop_eds.specs.Lines.{checked_lines}
use Rattle.cop_eds.specs.Rates.{checked_rates}
use Rattle.cop_eds.specs.Lists.{listed}
use Rattle.cop_eds.proofs.ReadingLemmas.{bind_ok}
use Rattle.cop_net.specs.Devices.{File, text_of}
use Rattle.cop_net.specs.Texts.{named, KnowsReadings, KnowsTexts, AreReadings}

-- one file more
text_more : (files : List File) (f : File) (name : List ℕ) → text_of (files ++ f ∷ []) name ≡ option_or (text_of files name) (if bytes_eq f.name name then Some f.text else None)
text_more files f name = rw (find-append (λ g. bytes_eq g.name name) files (f ∷ [])) (by_found (find (λ g. bytes_eq g.name name) files) (bytes_eq f.name name))
  where
    by_found : (o : Option File) (b : Bool) → option_map (λ g. g.text) (option_or o (cond b (Some f) None)) ≡ option_or (option_map (λ g. g.text) o) (cond b (Some f.text) None)
    by_found None true = refl
    by_found None false = refl
    by_found (Some g) b = refl

-- a name that is there keeps its text
kept : (o : Option (List ℕ)) (b : Bool) (text : List ℕ) → (b ≡ true → is_some o ≡ true) → o ≡ option_or o (cond b (Some text) None)
kept None true text h = absurd (let e = h refl in cc)
kept None false text h = refl
kept (Some x) b text h = refl

same_text : (files : List File) (name query : List ℕ) → bytes_eq name query ≡ true → is_some (text_of files name) ≡ true → is_some (text_of files query) ≡ true
same_text files name query e h = rw (← (bytes_eq-Decides name query).0 e) h

text_stays : (files : List File) (f : File) (name : List ℕ) → is_some (text_of files f.name) ≡ true → text_of files name ≡ text_of (files ++ f ∷ []) name
text_stays files f name some = kept (text_of files name) (bytes_eq f.name name) f.text (λ e. same_text files f.name name e some) ∙ sym (text_more files f name)

pub readings_kept : (m : BTreeMap (Bor (List ℕ)) (Result (List ℕ) eds.Refusal)) (files : List File) (f : File) → KnowsReadings files m → is_some (named m f.name) ≡ true → KnowsReadings (files ++ f ∷ []) m
readings_kept m files f knows there name = knows name ∙ ap (option_map reading) (text_stays files f name (told (text_of files f.name) (rw (knows f.name) at there)))
  where
    told : (o : Option (List ℕ)) → is_some (option_map reading o) ≡ true → is_some o ≡ true
    told None h = h
    told (Some x) h = refl

pub texts_kept : (m : BTreeMap (Bor (List ℕ)) (Bor (List ℕ))) (files : List File) (f : File) → KnowsTexts files m → is_some (named m f.name) ≡ true → KnowsTexts (files ++ f ∷ []) m
texts_kept m files f knows there name = knows name ∙ text_stays files f name (rw (knows f.name) at (told (named m f.name) there))
  where
    told : (o : Option (Bor (List ℕ))) → is_some o ≡ true → is_some (option_map (λ t. t.now) o) ≡ true
    told None h = h
    told (Some x) h = refl

-- a name that is new
new_text : (o : Option (List ℕ)) (b : Bool) (text : List ℕ) → (b ≡ true → o ≡ None) → cond b (Some text) o ≡ option_or o (cond b (Some text) None)
new_text o true text h = rw (h refl) refl
new_text None false text h = refl
new_text (Some x) false text h = refl

text_joins : (files : List File) (f : File) (name : List ℕ) → text_of files f.name ≡ None → cond (bytes_eq f.name name) (Some f.text) (text_of files name) ≡ text_of (files ++ f ∷ []) name
text_joins files f name none = new_text (text_of files name) (bytes_eq f.name name) f.text (λ e. rw (← (bytes_eq-Decides f.name name).0 e) none) ∙ sym (text_more files f name)

pub readings_more : (m new : BTreeMap (Bor (List ℕ)) (Result (List ℕ) eds.Refusal)) (files : List File) (f : File) (r : Result (List ℕ) eds.Refusal) → KnowsReadings files m
    → is_some (named m f.name) ≡ false → r ≡ reading f.text → ((name : List ℕ) → named new name ≡ update bytes_eq (λ n. named m n) f.name (Some r) name) → KnowsReadings (files ++ f ∷ []) new
readings_more m new files f r knows absent same updates name =
    let none : text_of files f.name ≡ None = told (text_of files f.name) (rw (knows f.name) at absent) in
    updates name ∙ by_test (bytes_eq f.name name) ∙ ap (option_map reading) (text_joins files f name none)
  where
    told : (o : Option (List ℕ)) → is_some (option_map reading o) ≡ false → o ≡ None
    told None h = refl
    told (Some x) h = cc

    by_test : (b : Bool) → cond b (Some r) (named m name) ≡ option_map reading (cond b (Some f.text) (text_of files name))
    by_test true = ap Some same
    by_test false = knows name

pub texts_more : (m new : BTreeMap (Bor (List ℕ)) (Bor (List ℕ))) (files : List File) (f : File) (t : Bor (List ℕ)) → KnowsTexts files m
    → is_some (named m f.name) ≡ false → t.now ≡ f.text → ((name : List ℕ) → named new name ≡ update bytes_eq (λ n. named m n) f.name (Some t) name) → KnowsTexts (files ++ f ∷ []) new
texts_more m new files f t knows absent same updates name =
    let none : text_of files f.name ≡ None = sym (knows f.name) ∙ told (named m f.name) absent in
    ap (option_map (λ t. t.now)) (updates name) ∙ by_test (bytes_eq f.name name) ∙ text_joins files f name none
  where
    told : (o : Option (Bor (List ℕ))) → is_some o ≡ false → option_map (λ t. t.now) o ≡ None
    told None h = refl
    told (Some x) h = cc

    by_test : (b : Bool) → option_map (λ t. t.now) (cond b (Some t) (named m name)) ≡ cond b (Some f.text) (text_of files name)
    by_test true = ap Some same
    by_test false = knows name

-- one reading less
pub reading_taken : (m new : BTreeMap (Bor (List ℕ)) (List ℕ)) (files : List File) (name : List ℕ) → AreReadings files m
    → ((query : List ℕ) → named new query ≡ update bytes_eq (λ n. named m n) name None query) → AreReadings files new
reading_taken m new files name are updates query x h = by_test (bytes_eq name query) (sym (updates query) ∙ h)
  where
    by_test : (b : Bool) → cond b None (named m query) ≡ Some x → option_map reading (text_of files query) ≡ Some (Ok x)
    by_test true h = cc
    by_test false h = are query x h

-- one reading more
pub reading_kept : (m new : BTreeMap (Bor (List ℕ)) (List ℕ)) (files : List File) (name text : List ℕ) → AreReadings files m → option_map reading (text_of files name) ≡ Some (Ok text)
    → ((query : List ℕ) → named new query ≡ update bytes_eq (λ n. named m n) name (Some text) query) → AreReadings files new
reading_kept m new files name text are read updates query x h = by_test (bytes_eq name query) refl (sym (updates query) ∙ h)
  where
    by_test : (b : Bool) → bytes_eq name query ≡ b → cond b (Some text) (named m query) ≡ Some x → option_map reading (text_of files query) ≡ Some (Ok x)
    by_test true e h =
        let same : text ≡ x = cc in
        rw (← (bytes_eq-Decides name query).0 e, ← same) read
    by_test false e h = are query x h

pub readings_unchanged : (m new : BTreeMap (Bor (List ℕ)) (List ℕ)) (files : List File) → AreReadings files m → new.entries ≡ m.entries → AreReadings files new
readings_unchanged m new files are same query x h = are query x (rw same at h)

-- a text that is accepted is read as itself
pub read_as_itself : (text x : List ℕ) → reading text ≡ Ok x → x ≡ text
unfolding reading
read_as_itself text x h =
    let a = bind_ok (at_most (4 * 1024 * 1024) text) _ x h in
    let b = bind_ok (checked_lines text) _ x a.2 in
    let c = bind_ok (checked_rates text) _ x b.2 in
    let d = bind_ok (listed text) _ x c.2 in
    let e : ◌≡◌ {A = Result (List ℕ) eds.Refusal} (Ok text) (Ok x) = d.2 in
    cc
