-- A logbook that takes one frame after another.
use Rattle.std.proofs.Common.{◌≡◌, ◌∙◌, ℕ, ◌+◌, ◌^◌, ◌<◌, List, [], ◌∷◌, ◌++◌, length, refl, sym, ap, subst, arith, length-append, append-nil, append_assoc}
use Rattle.std.specs.Prelude.{◌&&◌, map, Some, None, Result, Ok, Err, IsErrAnd, MatchResult}
use Rattle.std.proofs.lemmas.List.{map-append, length-map}
use Rattle.cop_rta.specs.Errors.{errors_of}
use Rattle.cop_lines.specs.declared.entries.Entry.{Entry}
use Rattle.cop_lines.specs.declared.entries.Message.{Message}
use Rattle.cop_log.specs.declared.faults.LogFault.{LogFault}
use Rattle.cop_log.specs.declared.faults.LogFault.TheVariants.{Line}
use Rattle.cop_log.specs.declared.faults.LogFault.TheVariants as fault
use Rattle.cop_log.specs.declared.scenes.Scene.{Scene}
use Rattle.cop_log.specs.declared.told.Told.{Told}
use Rattle.cop_log.specs.declared.watcher.Watcher.{Watcher}
use Rattle.cop_log.specs.declared.reader.LogReader.{LogReader}
use Rattle.cop_log.specs.Log.{Terms, entry_at}
use Rattle.cop_log.specs.Watching.{IsTold, tells_nothing}
use Rattle.cop_log.specs.Watchers.{terms_of, IsKept, IsScene, IsShown, HasWatched, findings_of}
use Rattle.cop_log.specs.Reading.{log_in, HasRead, Reads, IsWhole}
use Rattle.cop_log.specs.Reading as reading
use Rattle.cop_log.proofs.WatchLemmas.{watched_more, watched_answer}
use Rattle.cop_log.proofs.ReadLemmas.{whole}
use Rattle.cop_logbook.specs.declared.breaches.Breach.{Breach}
use Rattle.cop_logbook.specs.declared.logbook.BookFault.{BookFault}
use Rattle.cop_logbook.specs.declared.logbook.BookFault.TheVariants.{Memory}
use Rattle.cop_logbook.specs.declared.logbook.Logbook.{Logbook}
use Rattle.cop_logbook.specs.ErrorFrames.{tested_entry, tested_log}
use Rattle.cop_logbook.specs.Told.{counted, breach_by, HasKept}
use Rattle.cop_logbook.specs.Books.{book_fault, IsRefused, Takes, Refuses, IsWith, Counts, Tells, Notes, Ends}
use Rattle.cop_logbook.proofs.ShownLemmas.{shows_all, with_all}

-- one entry more of a log, as the set has it
tested_more : (t : Terms) (log : List Entry) (w : Watcher) (e : Entry) → terms_of w ≡ t
    → tested_log t.streams (log ++ e ∷ []) ≡ tested_log t.streams log ++ tested_entry (errors_of (terms_of w).streams) e ∷ []
tested_more t log w e terms =
    map-append (tested_entry (errors_of t.streams)) log (e ∷ [])
    ∙ ap (λ x. tested_log t.streams log ++ x ∷ []) (sym (ap (λ (t : Terms). tested_entry (errors_of t.streams) e) terms))

-- a frame was counted, watched, and told of
pub notes_made : (e : Entry) (a b c d : Logbook) (scene : Scene) (v : Watcher) (told : Told) → Counts a b → c ≡ record b { watcher = v } → Tells e scene told c d
    → IsScene b.watcher (tested_entry (errors_of (terms_of b.watcher).streams) e) scene → IsShown b.watcher (tested_entry (errors_of (terms_of b.watcher).streams) e) told
    → terms_of v ≡ terms_of b.watcher → (b.watcher.number + 1 < 2 ^ 64 → v.number ≡ b.watcher.number + 1) → v.is_clean ≡ (b.watcher.is_clean && tells_nothing told)
    → ((log : List Entry) → length log < 2 ^ 64 → b.watcher.number < length log → entry_at log b.watcher.number ≡ tested_entry (errors_of (terms_of b.watcher).streams) e → IsKept b.watcher log
    → IsTold (terms_of b.watcher) log told × IsKept v log)
    → Notes e a d
notes_made e a b c d scene v told counts with tells is shown terms number clean took = record {
  log = tells.log ∙ (ap (λ (x : Logbook). x.log) with ∙ counts.0);
  frames = tells.frames ∙ (ap (λ (x : Logbook). x.all.frames) with ∙ counts.3);
  told = told;
  watched = λ t log found few h.
      let watched = subst (λ (x : Watcher). HasWatched t (tested_log t.streams log) x found) (sym counts.1) h in
      let one = tested_more t log b.watcher e watched.terms in
      let n = length-map (log ++ e ∷ []) (tested_entry (errors_of t.streams)) in
      let fits : length (tested_log t.streams log ++ tested_entry (errors_of (terms_of b.watcher).streams) e ∷ []) < 2 ^ 64 =
      subst (λ (xs : List Entry). length xs < 2 ^ 64) one (omega (arith, n, few)) in
      subst (λ (x : Watcher). HasWatched t (tested_log t.streams (log ++ e ∷ [])) x (found ++ findings_of told)) (sym (tells.watcher ∙ ap (λ (x : Logbook). x.watcher) with))
      (subst (λ (xs : List Entry). HasWatched t xs v (found ++ findings_of told)) (sym one)
      (watched_more t (tested_log t.streams log) b.watcher v (tested_entry (errors_of (terms_of b.watcher).streams) e) told found fits terms number clean took watched));
  kept = λ t log found few h kept more small.
      let all : (log ++ e ∷ []) ++ more ≡ log ++ e ∷ more = append_assoc log (e ∷ []) more in
      let fits : length (log ++ e ∷ more) < 2 ^ 64 = subst (λ (xs : List Entry). length xs < 2 ^ 64) all small in
      let watched = subst (λ (x : Watcher). HasWatched t (tested_log t.streams log) x found) (sym counts.1) h in
      let before = subst (HasKept (map (breach_by t (log ++ e ∷ more)) found)) (sym (ap (λ (x : Logbook). x.breaches) with ∙ counts.2)) (kept (e ∷ more) fits) in
      subst (λ (xs : List Entry). HasKept (map (breach_by t xs) (found ++ findings_of told)) d.breaches) (sym all)
      (subst (λ (xs : List Breach). HasKept xs d.breaches) (with_all t (log ++ e ∷ more) found told)
      (tells.kept t (log ++ e ∷ more) (map (breach_by t (log ++ e ∷ more)) found) (shows_all t log more b.watcher e found scene is watched fits told shown) before));
}

-- what was noticed besides changes nothing of it
pub notes_on : (e : Entry) (a d f : Logbook) → Notes e a d → IsWith d f d.log → Notes e a f
notes_on e a d f notes with = record {
  log = with.0 ∙ notes.log;
  frames = with.3 ∙ notes.frames;
  told = notes.told;
  watched = λ t log found few h. subst (λ (x : Watcher). HasWatched t (tested_log t.streams (log ++ e ∷ [])) x (found ++ findings_of notes.told)) (sym with.1) (notes.watched t log found few h);
  kept = λ t log found few h kept more small. subst (HasKept (map (breach_by t ((log ++ e ∷ []) ++ more)) (found ++ findings_of notes.told))) (sym with.2) (notes.kept t log found few h kept more small);
}

-- a frame more of the piece
pub one_taken : (a b c : Logbook) (l : LogReader) (piece left : List ℕ) (m : Message) → Reads a.log piece l left (Some m) → IsWith a b l → Notes m.entry b c → Takes a piece c left
one_taken a b c l piece left m reads with notes = λ t w text small h.
    let read = subst (λ (x : LogReader). HasRead w text left x (h.log ++ m.entry ∷ [])) (sym (notes.log ∙ with.0)) (reads w text h.log small h.read) in
    let few = read.few in
    let each = read.each in
    let fits : length (h.log ++ m.entry ∷ []) < 2 ^ 64 = omega (arith, few, each, small) in
    let watched = subst (λ (x : Watcher). HasWatched t (tested_log t.streams h.log) x h.found) (sym with.1) h.watched in
    record {
      log = h.log ++ m.entry ∷ [];
      found = h.found ++ findings_of notes.told;
      read = read;
      watched = notes.watched t h.log h.found fits watched;
      frames = (let one = notes.frames in let same = with.3 in let before = h.frames in let n = length-append h.log (m.entry ∷ []) in omega (arith, one, same, before, n));
      kept = notes.kept t h.log h.found fits watched (λ more few. subst (HasKept (map (breach_by t (h.log ++ more)) h.found)) (sym with.2) (h.kept more few));
    }

-- the piece has no more
pub none_taken : (a b : Logbook) (l : LogReader) (piece : List ℕ) → Reads a.log piece l [] None → IsWith a b l → Takes a piece b []
none_taken a b l piece reads with = λ t w text small h. record {
  log = h.log;
  found = h.found;
  read = subst (λ (x : LogReader). HasRead w text [] x h.log) (sym with.0) (reads w text h.log small h.read);
  watched = subst (λ (x : Watcher). HasWatched t (tested_log t.streams h.log) x h.found) (sym with.1) h.watched;
  frames = with.3 ∙ h.frames;
  kept = λ more few. subst (HasKept (map (breach_by t (h.log ++ more)) h.found)) (sym with.2) (h.kept more few);
}

pub takes_on : (a b c : Logbook) (piece rest left : List ℕ) → Takes a piece b rest → Takes b rest c left → Takes a piece c left
takes_on a b c piece rest left first next = λ t w text small h. next t w text small (first t w text small h)

-- a piece is refused
pub refused_with : (a b : Logbook) (piece rest : List ℕ) (e : LogFault) → Takes a piece b rest → reading.Refuses b.log rest e → Refuses a piece (book_fault e)
refused_with a b piece rest (Line n f) takes refuses = λ t w text small h more.
    let noted = takes t w text small h in
    subst (IsRefused _ n) (sym (refuses w text noted.log small noted.read more)) (refl, refl)
refused_with a b piece rest fault.Memory takes refuses = λ t w text small h more. tt

pub err_gives : (a b : Logbook) (piece : List ℕ) (r : Result Unit BookFault) (e : BookFault) → IsErrAnd r (λ f. f ≡ e) → Refuses a piece e → MatchResult r (λ _. Takes a piece b []) (Refuses a piece)
err_gives a b piece (Ok x) e is h = absurd is
err_gives a b piece (Err f) e is h = subst (Refuses a piece) (sym is) h

pub memory_gives : (a b : Logbook) (piece : List ℕ) (r : Result Unit BookFault) → IsErrAnd r (λ f. f ≡ Memory) → MatchResult r (λ _. Takes a piece b []) (Refuses a piece)
memory_gives a b piece r is = err_gives a b piece r Memory is (λ t w text small h more. tt)

-- the end
pub ended : (b : Logbook) → Ends b
ended b = λ t w text small h.
    let all = whole b.log w text h.log h.read in
    let few = all.1 in
    let same = append-nil h.log in
    let fits : length h.log < 2 ^ 64 = omega (arith, few, small) in
    let kept = subst (λ (xs : List Entry). HasKept (map (breach_by t xs) h.found) b.breaches) same (h.kept [] (subst (λ (xs : List Entry). length xs < 2 ^ 64) (sym same) fits)) in
    record {
      log = h.log;
      read = all.0;
      found = h.found;
      answer = watched_answer t (tested_log t.streams h.log) b.watcher h.found (let n = length-map h.log (tested_entry (errors_of t.streams)) in omega (arith, n, fits)) h.watched;
      count = kept.count ∙ ap counted (length-map h.found (breach_by t h.log));
      told = kept.told;
      frames = h.frames;
    }
