-- A watcher that takes one entry after another.
use Rattle.std.proofs.Common.{◌≡◌, ◌∙◌, ℕ, ◌+◌, ◌^◌, ◌<◌, List, [], ◌∷◌, ◌++◌, length, refl, sym, ap, subst, arith, append_assoc, append-nil, length-append, true}
use Rattle.std.specs.Prelude.{◌&&◌, All, Some}
use Rattle.std.proofs.lemmas.List.Elements.{All-nil}
use Rattle.cop_lines.specs.declared.entries.Entry.{Entry}
use Rattle.cop_log.specs.declared.findings.Finding.{Finding}
use Rattle.cop_log.specs.declared.findings.Finding.TheVariants.{Unknown, Length}
use Rattle.cop_log.specs.declared.naming.Naming.{Naming}
use Rattle.cop_log.specs.declared.naming.Naming.TheVariants as naming
use Rattle.cop_log.specs.declared.told.Told.{Told}
use Rattle.cop_log.specs.declared.watcher.Watcher.{Watcher}
use Rattle.cop_log.specs.Log.{Terms, IsEvidence, IsAnswer, entry_at}
use Rattle.cop_log.specs.Watching.{IsTold, IsRising, Stands, tells_nothing}
use Rattle.cop_log.specs.Watchers.{terms_of, IsKept, HasWatched, findings_of, named_by}
use Rattle.cop_log.proofs.Answered.{noted, still_clean, answer}

-- none was taken
pub watched_none : (t : Terms) (w : Watcher) → terms_of w ≡ t → (w.number ≡ 0) × (w.is_clean ≡ true) → ((log : List Entry) → IsKept w log) → HasWatched t [] w []
watched_none t w e begins kept = record {
  terms = e;
  number = begins.0;
  kept = λ more small. kept more;
  evident = λ more small. All-nil (IsEvidence t more);
  clean = λ none. begins.1;
}

pub entry_here : (log more : List Entry) (e : Entry) → entry_at (log ++ e ∷ more) (length log) ≡ e
entry_here [] more e = refl
entry_here (x ∷ log) more e = entry_here log more e

-- one more is taken
pub watched_more : (t : Terms) (log : List Entry) (a b : Watcher) (e : Entry) (told : Told) (found : List Finding) → length (log ++ e ∷ []) < 2 ^ 64
    → terms_of b ≡ terms_of a → (a.number + 1 < 2 ^ 64 → b.number ≡ a.number + 1) → b.is_clean ≡ (a.is_clean && tells_nothing told)
    → ((log : List Entry) → length log < 2 ^ 64 → a.number < length log → entry_at log a.number ≡ e → IsKept a log → IsTold (terms_of a) log told × IsKept b log)
    → HasWatched t log a found → HasWatched t (log ++ e ∷ []) b (found ++ findings_of told)
watched_more t log a b e told found few terms number clean took h =
    let n = length-append log (e ∷ []) in
    let before = h.number in
    let all : (more : List Entry) → (log ++ e ∷ []) ++ more ≡ log ++ e ∷ more = λ more. append_assoc log (e ∷ []) more in
    let at : (more : List Entry) → entry_at (log ++ e ∷ more) a.number ≡ e = λ more. ap (entry_at (log ++ e ∷ more)) before ∙ entry_here log more e in
    let step : (more : List Entry) → length (log ++ e ∷ more) < 2 ^ 64 → IsTold (terms_of a) (log ++ e ∷ more) told × IsKept b (log ++ e ∷ more) =
    λ more small. let m = length-append log (e ∷ more) in took (log ++ e ∷ more) small (omega (arith, before, m)) (at more) (h.kept (e ∷ more) small) in
    let bound : (more : List Entry) → length ((log ++ e ∷ []) ++ more) < 2 ^ 64 → length (log ++ e ∷ more) < 2 ^ 64 = λ more small. subst (λ (xs : List Entry). length xs < 2 ^ 64) (all more) small in
    record {
      terms = terms ∙ h.terms;
      number = (let next = number (omega (arith, before, n, few)) in omega (arith, before, n, next));
      kept = λ more small. subst (IsKept b) (sym (all more)) (step more (bound more small)).1;
      evident = λ more small.
          subst (λ (xs : List Entry). All (IsEvidence t xs) (found ++ findings_of told)) (sym (all more))
          (noted t (log ++ e ∷ more) found told (h.evident (e ∷ more) (bound more small)) (subst (λ t. IsTold t (log ++ e ∷ more) told) h.terms (step more (bound more small)).0));
      clean = λ none. clean ∙ still_clean found told a.is_clean h.clean none;
    }

-- what was found is an answer
pub watched_answer : (t : Terms) (log : List Entry) (w : Watcher) (found : List Finding) → length log < 2 ^ 64 → HasWatched t log w found → IsAnswer t log found
watched_answer t log w found small h =
    let same = append-nil log in
    let bound : length (log ++ []) < 2 ^ 64 = subst (λ (xs : List Entry). length xs < 2 ^ 64) (sym same) small in
    let kept = subst (IsKept w) same (h.kept [] bound) in
    answer t log w.anchors.items w.pile w.top w.is_clean found (subst (λ (xs : List Entry). All (IsEvidence t xs) found) same (h.evident [] bound)) h.clean
    (subst (λ t. Stands t log (length log) w.anchors.items w.pile w.is_clean) h.terms
    (subst (λ n. Stands (terms_of w) log n w.anchors.items w.pile w.is_clean) h.number kept.stands))
    (subst (λ (t : Terms). IsRising t.clock log (length log) w.top w.is_clean) h.terms
    (subst (λ n. IsRising w.clock log n w.top w.is_clean) h.number kept.rising))

-- what is told of an entry by its name
pub named_is : (naming : Naming) (i : ℕ) (f : Finding) (P : Finding → Type 0) → P (Unknown i) → P (Length i) → named_by naming i ≡ Some f → P f
named_is naming.Known i f P unknown long q = absurd (cc)
named_is naming.Unknown i f P unknown long q = let p : Unknown i ≡ f = cc in subst P p unknown
named_is naming.Length i f P unknown long q = let p : Length i ≡ f = cc in subst P p long
