-- A reset of a built dictionary gives it again.
use Rattle.std.proofs.Common.{◌≡◌, ℕ, Bool, true, false, cond, List, [], ◌∷◌, codes, ℤ, Option, Result, Ok, Err, refl, ap, ◌∙◌, subst}
use Rattle.cop_eds.specs.declared.fault.Refusal.{Refusal}
use Rattle.cop_eds.specs.declared.description.Object.{Object}
use Rattle.cop_eds.specs.Steps.{◌>>=◌}
use Rattle.cop_eds.specs.Sections.{entry_of}
use Rattle.cop_eds.specs.Objects.{objects_of}
use Rattle.cop_dict.specs.declared.data_type.DataType.{DataType}
use Rattle.cop_dict.specs.Types.{type_numbered}
use Rattle.cop_dict.specs.Find.{Entry}
use Rattle.cop_dict.specs.Mapping.{is_between}
use Rattle.cop_dict.specs.Dict.{as_built, initial, initial_communication, reset_communication}
use Rattle.cop_dict.specs.Build.{initial_of, limit_of, value_entry, entry_of_type, entry_built, collected, built}
use Rattle.cop_dict.proofs.AgreeLemmas.{entry_made}

built_entry : (text : List ℕ) (node : ℕ) (o : Object) (t : DataType) (e : Entry) → entry_of_type text node o t ≡ Ok e → as_built e ≡ e
unfolding entry_of_type
built_entry text node o t e h =
    by_initial (initial_of t node (value_entry text o.place.section)) (limit_of t node (entry_of text o.place.section (codes "LowLimit")))
    (limit_of t node (entry_of text o.place.section (codes "HighLimit"))) h
  where
    by_initial : (initial : Result (List ℕ) Refusal) (low high : Result (Option ℤ) Refusal)
        → (initial >>= λ initial. low >>= λ low. high >>= λ high. Ok (entry_made o t initial low high)) ≡ Ok e → as_built e ≡ e
    by_initial (Err r) low high h = cc
    by_initial (Ok initial) (Err r) high h = cc
    by_initial (Ok initial) (Ok low) (Err r) h = cc
    by_initial (Ok initial) (Ok low) (Ok high) h =
        let same : entry_made o t initial low high ≡ e = cc in
        subst (λ e. as_built e ≡ e) same refl

reset_entry : (e : Entry) → as_built e ≡ e → reset_communication e ≡ e
reset_entry e h = by_range (is_between 0x1000 0x1FFF e.index)
  where
    by_range : (b : Bool) → cond b (as_built e) e ≡ e
    by_range true = h
    by_range false = refl

collected_built : (text : List ℕ) (node : ℕ) (objects : List Object) (entries : List Entry) → collected (entry_built text node) objects ≡ Ok entries
    → (initial entries ≡ entries) × (initial_communication entries ≡ entries)
unfolding collected
collected_built text node [] entries h = let none : [] ≡ entries = cc in rw (← none) (refl, refl)
collected_built text node (o ∷ objects) entries h = by_first (entry_built text node o) refl h (λ es rest. collected_built text node objects es rest)
  where
    both : (e : Entry) (es : List Entry) → as_built e ≡ e → (initial es ≡ es) × (initial_communication es ≡ es) → (initial (e ∷ es) ≡ e ∷ es) × (initial_communication (e ∷ es) ≡ e ∷ es)
    both e es here later = (ap (λ x. x ∷ initial es) here ∙ ap (λ xs. e ∷ xs) later.0, ap (λ x. x ∷ initial_communication es) (reset_entry e here) ∙ ap (λ xs. e ∷ xs) later.1)

    by_rest : (e : Entry) → entry_built text node o ≡ Ok e → (r : Result (List Entry) Refusal) → collected (entry_built text node) objects ≡ r
        → (r >>= λ ys. Ok (e ∷ ys)) ≡ Ok entries
        → ((es : List Entry) → collected (entry_built text node) objects ≡ Ok es → (initial es ≡ es) × (initial_communication es ≡ es)) → (initial entries ≡ entries) × (initial_communication entries ≡ entries)
    by_rest e here (Err r) rest h later = cc
    by_rest e here (Ok es) rest h later =
        let all : e ∷ es ≡ entries = cc in
        subst (λ entries. (initial entries ≡ entries) × (initial_communication entries ≡ entries)) all (both e es (built_entry text node o (type_numbered o.data_type) e here) (later es rest))

    by_first : (r : Result Entry Refusal) → entry_built text node o ≡ r
        → (r >>= λ y. collected (entry_built text node) objects >>= λ ys. Ok (y ∷ ys)) ≡ Ok entries
        → ((es : List Entry) → collected (entry_built text node) objects ≡ Ok es → (initial es ≡ es) × (initial_communication es ≡ es)) → (initial entries ≡ entries) × (initial_communication entries ≡ entries)
    by_first (Err r) here h later = cc
    by_first (Ok e) here h later = by_rest e here (collected (entry_built text node) objects) refl h later

-- resets of a built dictionary give it again
pub built_stays : (text : List ℕ) (node : ℕ) (dict : List Entry) → built text node ≡ Ok dict → (initial dict ≡ dict) × (initial_communication dict ≡ dict)
built_stays text node dict h = collected_built text node (objects_of text) dict h
