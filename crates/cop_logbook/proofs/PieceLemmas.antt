-- A log that a reader gives in pieces.
use Rattle.std.proofs.Common.{◌≡◌, ◌≢◌, ◌∙◌, ℕ, ◌^◌, ◌<◌, zero, suc, List, [], ◌∷◌, ◌++◌, length, refl, sym, ap, subst, arith, append_assoc, append-nil, length-append, Option, true, false}
use Rattle.std.proofs.lemmas.List.Elements.{All-from_recursion, All-contains}
use Rattle.std.specs.Prelude.{All, slice_index_or, None, Some, Result, Ok, Err, IsErrAnd, IfErr}
use Rattle.std.specs.Io.KnownBytes.{Consumes, IsAtEnd}
use Rattle.std.proofs.KnownBytes.{Consumes-nil, Consumes-trans, Consumes-all}
use Rattle.cop_frame.specs.Rate.{ticks_of}
use Rattle.cop_rta.specs.declared.streams.Stream.{Stream}
use Rattle.cop_rta.specs.Streams.{AreDistinct}
use Rattle.cop_rta.specs.Errors.{errors_of, bus_of}
use Rattle.cop_rta.proofs.BusLemmas.{tested_again}
use Rattle.cop_rta.specs.Test.{place_by_id}
use Rattle.cop_rta.specs.Verdict.{PassesBy}
use Rattle.cop_rta.specs.Greatest.{AreSynced}
use Rattle.cop_bus.specs.Run.{Instance, IsKnown}
use Rattle.cop_bus.proofs.Totals.{Each-from_Contains}
use Rattle.cop_errors.specs.Errors.{Disturbance}
use Rattle.cop_errors.specs.Extended.{extended_by, IsRunThrough}
use Rattle.cop_errors.proofs.Up.{known_not_one}
use Rattle.cop_errors.proofs.SetRuns.{of_set}
use Rattle.cop_lines.specs.declared.entries.Entry.{Entry}
use Rattle.cop_log.specs.declared.clocks.Clock.{Clock}
use Rattle.cop_log.specs.declared.findings.Finding.{Finding}
use Rattle.cop_log.specs.Log.{Terms, IsRunWith}
use Rattle.cop_log.specs.Reading.{Wanted, HasRead, log_in}
use Rattle.cop_log.specs.Watchers.{terms_of, IsKept}
use Rattle.cop_log.proofs.ReadLemmas.{piece_more}
use Rattle.cop_log.proofs.WatchLemmas.{watched_none}
use Rattle.cop_plan.specs.Values.{PlanValue}
use Rattle.cop_logbook.specs.declared.logbook.Logbook.{Logbook}
use Rattle.cop_logbook.specs.declared.logbook.BookFault.{BookFault}
use Rattle.cop_logbook.specs.declared.logbook.BookFault.TheVariants.{Refused, Memory}
use Rattle.cop_logbook.specs.declared.watching.WatchFault.{WatchFault}
use Rattle.cop_logbook.specs.declared.watching.WatchFault.TheVariants.{Book, Read}
use Rattle.cop_logbook.specs.ErrorFrames.{tested_log}
use Rattle.cop_logbook.specs.Told.{counted, HasKept}
use Rattle.cop_logbook.proofs.Through.{has_log}
use Rattle.cop_logbook.specs.Books.{terms_by, Begins, HasNoted, IsBook, IsWatched, IsRefused, IsWhy, Takes, Refuses, Ends}
use Rattle.cop_table.specs.Pieces.{HoldsOfAll}
use Rattle.cop_logbook.specs.Pieces.{TakesAlong, RefusesAlong, FailsAlong, IsWhyNot}

-- nothing was read yet
pub begins : (plan : PlanValue) (clock : Clock) (w : Wanted) (b : Logbook) (bounds : List (Option ℕ)) → AreSynced plan.streams → AreDistinct plan.streams
    → ((p d : ℕ) → slice_index_or bounds p None ≡ Some d → PassesBy (place_by_id plan.streams p plan.rate) d)
    → ((p r : ℕ) → p < length plan.streams → PassesBy (place_by_id plan.streams p plan.rate) r → slice_index_or bounds p None ≡ Some r)
    → terms_of b.watcher ≡ terms_by plan clock bounds → (b.watcher.number ≡ 0) × (b.watcher.is_clean ≡ true)
    → ((log : List Entry) → IsKept b.watcher log) → HasRead w [] [] b.log [] → HasKept [] b.breaches → b.all.frames ≡ 0 → Begins plan clock w b
begins plan clock w b bounds synced distinct sound each terms none kept read held frames = record {
  bounds = bounds;
  all = record { bounded = record { synced = synced; passes = sound }; distinct = distinct; each = each };
  none = record {
    log = [];
    found = [];
    read = read;
    watched = watched_none (terms_by plan clock bounds) b.watcher terms none kept;
    frames = frames;
    kept = λ more few. held;
  };
}

-- a piece more
pub none_along : (left : Option (List ℕ)) (b : Logbook) → TakesAlong left left b b
none_along left b = record {
  bytes = [];
  given = Consumes-nil left;
  taken = λ t w text small h. subst (λ (xs : List ℕ). HasNoted t w xs [] b) (sym (append-nil text)) h;
}

noted_before : (t : Terms) (w : Wanted) (text piece : List ℕ) (b : Logbook) → HasNoted t w text [] b → HasNoted t w (text ++ piece) piece b
noted_before t w text piece b h = record {
  log = h.log;
  found = h.found;
  read = piece_more w text piece b.log h.log h.read;
  watched = h.watched;
  frames = h.frames;
  kept = h.kept;
}

pub taken_more : (left mid rest : Option (List ℕ)) (a b c : Logbook) (piece : List ℕ) → TakesAlong left mid a b → Consumes mid rest piece → Takes b piece c [] → TakesAlong left rest a c
taken_more left mid rest a b c piece along given takes = record {
  bytes = along.bytes ++ piece;
  given = Consumes-trans left mid rest along.bytes piece along.given given;
  taken = λ t w text small h.
      let all = append_assoc text along.bytes piece in
      let fits : length ((text ++ along.bytes) ++ piece) < 2 ^ 64 = subst (λ (xs : List ℕ). length xs < 2 ^ 64) (sym all) small in
      let n = length-append (text ++ along.bytes) piece in
      let few : length (text ++ along.bytes) < 2 ^ 64 = omega (arith, n, fits) in
      subst (λ (xs : List ℕ). HasNoted t w xs [] c) all (takes t w ((text ++ along.bytes) ++ piece) fits (noted_before t w (text ++ along.bytes) piece b (along.taken t w text few h)));
}

-- an instance of the bus has not the identifier that NMT gets in the set
free_of : (plan : PlanValue) (until : ℕ) (run : List Instance) (hits : List Disturbance) (events : List ℕ) → AreDistinct plan.streams → IsRunThrough plan.rate plan.streams until run hits events
    → (s : Stream) → errors_of plan.streams ≡ Some s → All (λ y. y.id ≢ 1) run
free_of plan until run hits events distinct h s some =
    let free = (tested_again plan.streams distinct s some).free in
    All-from_recursion (λ y. y.id ≢ 1) run
    (Each-from_Contains (λ y. y.id ≢ 1) run (λ y c. known_not_one (bus_of plan.streams) y free (All-contains (IsKnown (bus_of plan.streams)) run y h.disturbed.known c)))

-- a legal run in which all streams obey shows no breach, and neither does a run of the bus through rare disturbances
watched_by : (plan : PlanValue) (clock : Clock) (w : Wanted) (text : List ℕ) (a b : Logbook) (begun : Begins plan clock w a) → IsBook (terms_by plan clock begun.bounds) w text b → IsWatched plan clock w text b
watched_by plan clock w text a b begun book = record {
  bounds = begun.bounds;
  all = begun.all;
  book = book;
  innocent = innocent;
  through = λ until run hits events h has.
      let of = of_set plan.rate until run hits events plan.streams begun.all.distinct h in
      innocent until (extended_by (errors_of plan.streams) run hits events)
      (record {
        legal = of.legal;
        obeying = of.obeying;
        has = has_log (errors_of plan.streams) (ticks_of plan.rate) clock until run hits events book.log h.rare (free_of plan until run hits events begun.all.distinct h) has;
      });
}
  where
    innocent : (until : ℕ) (run : List Instance) → IsRunWith (terms_by plan clock begun.bounds) until run (tested_log plan.streams book.log) → b.breaches.count ≡ 0
    innocent until run h = book.count ∙ ap (λ (found : List Finding). counted (length found)) (book.answer.innocent until run begun.all.bounded h)

-- all that the reader had was watched
pub all_watched : (plan : PlanValue) (clock : Clock) (w : Wanted) (left rest : Option (List ℕ)) (a b : Logbook) → Begins plan clock w a → TakesAlong left rest a b → IsAtEnd rest → Ends b
    → HoldsOfAll left (λ text. length text < 2 ^ 64 → IsWatched plan clock w text b)
all_watched plan clock w left rest a b begun along end ends = record {
  bytes = along.bytes;
  all = Consumes-all left rest along.bytes [] along.bytes along.given end refl;
  holds = λ small. watched_by plan clock w along.bytes a b begun (ends (terms_by plan clock begun.bounds) w along.bytes small (along.taken (terms_by plan clock begun.bounds) w [] small begun.none));
}

-- what holds of all that a reader has, since it holds whatever comes behind what it gave
holds_behind : (left rest : Option (List ℕ)) (bytes : List ℕ) (P : List ℕ → Type 0) → Consumes left rest bytes → ((more : List ℕ) → P (bytes ++ more)) → HoldsOfAll left P
holds_behind None rest bytes P given h = record { bytes = bytes; all = tt; holds = subst P (append-nil bytes) (h []) }
holds_behind (Some xs) None bytes P given h = absurd given
holds_behind (Some xs) (Some ys) bytes P given h = record { bytes = xs; all = refl; holds = subst P (sym given) (h ys) }

-- a piece that is refused
pub piece_refused : (left mid rest : Option (List ℕ)) (a b : Logbook) (piece : List ℕ) (fault : BookFault) → TakesAlong left mid a b → Consumes mid rest piece → Refuses b piece fault → RefusesAlong left a fault
piece_refused left mid rest a b piece fault along given refuses = record {
  bytes = along.bytes ++ piece;
  rest = rest;
  given = Consumes-trans left mid rest along.bytes piece along.given given;
  refused = λ t w text small h more.
      let all = append_assoc text along.bytes piece in
      let fits : length ((text ++ along.bytes) ++ piece) < 2 ^ 64 = subst (λ (xs : List ℕ). length xs < 2 ^ 64) (sym all) small in
      let n = length-append (text ++ along.bytes) piece in
      let few : length (text ++ along.bytes) < 2 ^ 64 = omega (arith, n, fits) in
      subst (λ (xs : List ℕ). IsWhy w (xs ++ more) fault) all
      (refuses t w ((text ++ along.bytes) ++ piece) fits (noted_before t w (text ++ along.bytes) piece b (along.taken t w text few h)) more);
}

pub memory_along : (left : Option (List ℕ)) (b : Logbook) → RefusesAlong left b Memory
memory_along left b = record { bytes = []; rest = left; given = Consumes-nil left; refused = λ t w text small h more. tt }

-- why a log is not watched
pub why_not : (plan : PlanValue) (clock : Clock) (w : Wanted) (left : Option (List ℕ)) (a : Logbook) (fault : WatchFault) → Begins plan clock w a → FailsAlong left a fault → IsWhyNot w left fault
why_not plan clock w left a (Book fault) begun fails =
    holds_behind left fails.rest fails.bytes (λ text. length text < 2 ^ 64 → IsWhy w text fault) fails.given
    (λ more small.
    let n = length-append fails.bytes more in
    fails.refused (terms_by plan clock begun.bounds) w [] (omega (arith, n, small)) begun.none more)
why_not plan clock w left a (Read error) begun fails = tt

pub why_memory : (w : Wanted) (left : Option (List ℕ)) → IsWhyNot w left (Book Memory)
why_memory w left = holds_behind left left [] (λ text. length text < 2 ^ 64 → IsWhy w text Memory) (Consumes-nil left) (λ more small. tt)

pub why_none : (plan : PlanValue) (clock : Clock) (w : Wanted) (left rest : Option (List ℕ)) (a b : Logbook) → Begins plan clock w a → TakesAlong left rest a b → IsAtEnd rest → Ends b → b.all.frames ≡ 0
    → IsWhyNot w left (Book (Refused 94 0))
why_none plan clock w left rest a b begun along end ends frames = record {
  bytes = along.bytes;
  all = Consumes-all left rest along.bytes [] along.bytes along.given end refl;
  holds = λ small.
      let book = ends (terms_by plan clock begun.bounds) w along.bytes small (along.taken (terms_by plan clock begun.bounds) w [] small begun.none) in
      let count = book.frames in
      let read = book.read in
      refused_none book.log (omega (arith, count, frames)) read;
}
  where
    refused_none : (log : List Entry) → length log ≡ 0 → log_in w along.bytes ≡ Ok log → IsRefused 94 0 (log_in w along.bytes)
    refused_none [] none read = subst (IsRefused 94 0) (sym read) (refl, refl)
    refused_none (e ∷ log) none read = absurd (omega arith)

pub err_why : {X : Type 0} (w : Wanted) (left : Option (List ℕ)) (r : Result X WatchFault) (e : WatchFault) → IsErrAnd r (λ f. f ≡ e) → IsWhyNot w left e → IfErr r (IsWhyNot w left)
err_why w left (Ok x) e is h = absurd is
err_why w left (Err f) e is h = subst (IsWhyNot w left) (sym is) h

pub err_fails : {X : Type 0} (left : Option (List ℕ)) (a : Logbook) (r : Result X WatchFault) (e : WatchFault) → IsErrAnd r (λ f. f ≡ e) → FailsAlong left a e → IfErr r (FailsAlong left a)
err_fails left a (Ok x) e is h = absurd is
err_fails left a (Err f) e is h = subst (FailsAlong left a) (sym is) h

pub none_of : (n : ℕ) → (0 < n → false ≡ true) → n ≡ 0
none_of zero h = refl
none_of (suc n) h = let never = h (omega arith) in absurd (cc)
