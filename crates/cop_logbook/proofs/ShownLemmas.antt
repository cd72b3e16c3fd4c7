-- What is told of an entry is seen of its scene.
use Rattle.std.proofs.Common.{◌≡◌, ◌∙◌, ℕ, ◌+◌, ◌^◌, ◌≤◌, ◌<◌, List, ◌∷◌, ◌++◌, suc, length, refl, sym, ap, subst, arith, length-append, append_assoc}
use Rattle.std.specs.Prelude.{map, Option}
use Rattle.std.specs.Option.{ForSome}
use Rattle.std.proofs.lemmas.List.{map-append, length-map}
use Rattle.cop_frame.specs.Rate.{ticks_of}
use Rattle.cop_rta.specs.Errors.{errors_of}
use Rattle.cop_lines.specs.declared.entries.Entry.{Entry}
use Rattle.cop_log.specs.declared.findings.Finding.{Finding}
use Rattle.cop_log.specs.declared.findings.Finding.TheVariants.{Unknown, Length, Soon, Crowded, Fallen}
use Rattle.cop_log.specs.declared.scenes.Scene.{Scene}
use Rattle.cop_log.specs.declared.told.Told.{Told}
use Rattle.cop_log.specs.declared.watcher.Watcher.{Watcher}
use Rattle.cop_log.specs.Log.{Terms, entry_at, last_of, least_of}
use Rattle.cop_log.specs.Watching.{IsWatched, IsHeld, IsTopped, IsAnchor, IsPile, IsTop}
use Rattle.cop_log.specs.Watchers.{terms_of, stream_of, bound_of, anchor_at, listed, findings_of, IsKept, IsScene, IsShown, HasWatched}
use Rattle.cop_log.proofs.WatchLemmas.{entry_here, named_is}
use Rattle.cop_logbook.specs.ErrorFrames.{tested_entry, tested_log}
use Rattle.cop_logbook.specs.Told.{breach_by, all_with, all_told, IsFrom, Shows, AreShown}

-- what an entry shows is seen of its scene, in a log of the set
record AreSeen (t : Terms) (log : List Entry) (scene : Scene) (told : Told) : Type 0 where
  fallen : ForSome told.fallen (Shows t log scene)
  named : ForSome told.named (Shows t log scene)
  soon : ForSome told.soon (Shows t log scene)
  crowded : ForSome told.crowded (Shows t log scene)

-- all that is told speaks of one entry last
record AreLast (number : ℕ) (told : Told) : Type 0 where
  fallen : ForSome told.fallen (λ f. last_of f ≡ number)
  named : ForSome told.named (λ f. last_of f ≡ number)
  soon : ForSome told.soon (λ f. last_of f ≡ number)
  crowded : ForSome told.crowded (λ f. last_of f ≡ number)

module _ (t : Terms) (log more : List Entry) (w : Watcher) (e : Entry) (found : List Finding) (scene : Scene) (is : IsScene w e scene) (h : HasWatched t log w found) (small : length (log ++ e ∷ more) < 2 ^ 64) where
  abbrev full : List Entry
  full = log ++ e ∷ more

  here : entry_at full w.number ≡ e
  here = ap (entry_at full) h.number ∙ entry_here log more e

  kept : IsKept w full
  kept = h.kept (e ∷ more) small

  inside : w.number < length full
  inside = let n = length-append log (e ∷ more) in let m = h.number in omega (arith, n, m)

  seen : (f : Finding) → last_of f ≡ w.number → IsFrom t full scene f → Shows t full scene f
  seen f last from =
      let at : entry_at full (last_of f) ≡ e = ap (entry_at full) last ∙ here in
      record {
        entry = is.same_entry ∙ sym at;
        rate = is.same_rate ∙ ap (λ (t : Terms). t.rate) h.terms;
        stream = is.stream ∙ (ap (λ (t : Terms). stream_of t e.id) h.terms ∙ ap (λ (x : Entry). stream_of t x.id) (sym at));
        bound = is.bound ∙ (ap (λ (t : Terms). bound_of t e.id) h.terms ∙ ap (λ (x : Entry). bound_of t x.id) (sym at));
        from = from;
      }

  all_seen : (told : Told) → IsShown w e told → AreSeen t full scene told
  all_seen told shown = record {
    fallen = λ f q.
        let s = shown.fallen f q in
        let top : IsTop full w.number s.0 = subst (λ x. IsTopped full w.number x w.is_clean) s.1 kept.rising.topped in
        subst (Shows t full scene) (sym s.2) (seen (Fallen s.0.from w.number) refl (s.0, is.top ∙ s.1, top.1));
    named = λ f q. let s = shown.named in named_is s.0 w.number f (Shows t full scene) (seen (Unknown w.number) refl tt) (seen (Length w.number) refl tt) (sym s.1 ∙ q);
    soon = λ f q.
        let s = shown.soon f q in
        let watched = subst (λ a. IsWatched s.1 full w.number a w.is_clean) s.5 (kept.stands.watched.lanes s.0 s.1 s.3) in
        let anchor : IsAnchor s.1 full w.number s.2 = watched.anchored in
        subst (Shows t full scene) (sym s.6) (seen (Soon s.2.from w.number s.2.count) refl (s.2, is.anchor ∙ (ap (anchor_at w.anchors.items) s.4 ∙ s.5), anchor.is));
    crowded = λ f q.
        let s = shown.crowded f q in
        let held = subst (λ x. IsHeld (ticks_of w.rate) w.clock full w.number x w.is_clean) s.1 kept.stands.held in
        let pile : IsPile (ticks_of w.rate) full w.number s.0 = held.piled in
        let few = pile.few in
        let n = inside in
        let ticks : s.0.ticks ≤ 2 ^ 84 = omega (arith, few, n, small) in
        let sum : s.0.ticks + least_of (ticks_of t.rate) full (suc s.0.from) ≡ least_of (ticks_of t.rate) full w.number =
        subst (λ (t : Terms). s.0.ticks + least_of (ticks_of t.rate) full (suc s.0.from) ≡ least_of (ticks_of t.rate) full w.number) h.terms pile.counted in
        subst (Shows t full scene) (sym s.2) (seen (Crowded s.0.from w.number) refl (s.0, is.pile ∙ s.1, pile.is, inside, ticks, sum));
  }

-- the last entry of which something is told
last_told : (w : Watcher) (e : Entry) (told : Told) → IsShown w e told → AreLast w.number told
last_told w e told shown = record {
  fallen = λ f q. let s = shown.fallen f q in ap last_of s.2;
  named = λ f q. let s = shown.named in named_is s.0 w.number f (λ f. last_of f ≡ w.number) refl refl (sym s.1 ∙ q);
  soon = λ f q. let s = shown.soon f q in ap last_of s.6;
  crowded = λ f q. let s = shown.crowded f q in ap last_of s.2;
}

abbrev as_tested : Terms → Entry → Entry
as_tested t e = tested_entry (errors_of t.streams) e

-- what is told of an entry that was seen as one of the set, which stands in a log
pub shows_all : (t : Terms) (log more : List Entry) (w : Watcher) (e : Entry) (found : List Finding) (scene : Scene)
    → IsScene w (tested_entry (errors_of (terms_of w).streams) e) scene → HasWatched t (tested_log t.streams log) w found → length (log ++ e ∷ more) < 2 ^ 64
    → (told : Told) → IsShown w (tested_entry (errors_of (terms_of w).streams) e) told → AreShown t (log ++ e ∷ more) e scene told
shows_all t log more w e found scene is h small told shown = record {
  fallen = λ f q. (seen.fallen f q, here f (last.fallen f q));
  named = λ f q. (seen.named f q, here f (last.named f q));
  soon = λ f q. (seen.soon f q, here f (last.soon f q));
  crowded = λ f q. (seen.crowded f q, here f (last.crowded f q));
}
  where
    own : tested_entry (errors_of (terms_of w).streams) e ≡ as_tested t e
    own = ap (λ (t : Terms). tested_entry (errors_of t.streams) e) h.terms

    full : tested_log t.streams (log ++ e ∷ more) ≡ tested_log t.streams log ++ as_tested t e ∷ tested_log t.streams more
    full = map-append (as_tested t) log (e ∷ more)

    few : length (tested_log t.streams log ++ as_tested t e ∷ tested_log t.streams more) < 2 ^ 64
    few = subst (λ (xs : List Entry). length xs < 2 ^ 64) full (let n = length-map (log ++ e ∷ more) (as_tested t) in omega (arith, n, small))

    seen : AreSeen t (tested_log t.streams (log ++ e ∷ more)) scene told
    seen = subst (λ (xs : List Entry). AreSeen t xs scene told) (sym full)
        (all_seen t (tested_log t.streams log) (tested_log t.streams more) w (as_tested t e) found scene (subst (λ x. IsScene w x scene) own is) h few told (subst (λ x. IsShown w x told) own shown))

    last : AreLast w.number told
    last = last_told w (as_tested t e) told (subst (λ x. IsShown w x told) own shown)

    here : (f : Finding) → last_of f ≡ w.number → e ≡ entry_at (log ++ e ∷ more) (last_of f)
    here f l = sym (ap (entry_at (log ++ e ∷ more)) (l ∙ (h.number ∙ length-map log (as_tested t))) ∙ entry_here log more e)

-- what is told, in a list
with_one : (t : Terms) (log : List Entry) (xs : List Finding) (o : Option Finding) → all_with t log (map (breach_by t log) xs) o ≡ map (breach_by t log) (xs ++ listed o)
with_one t log xs o = sym (map-append (breach_by t log) xs (listed o))

pub with_all : (t : Terms) (log : List Entry) (found : List Finding) (told : Told) → all_told t log (map (breach_by t log) found) told ≡ map (breach_by t log) (found ++ findings_of told)
with_all t log found told =
    let a = found ++ listed told.fallen in
    let b = a ++ listed told.named in
    let c = b ++ listed told.soon in
    ap (λ xs. all_with t log (all_with t log (all_with t log xs told.named) told.soon) told.crowded) (with_one t log found told.fallen)
    ∙ (ap (λ xs. all_with t log (all_with t log xs told.soon) told.crowded) (with_one t log a told.named)
    ∙ (ap (λ xs. all_with t log xs told.crowded) (with_one t log b told.soon)
    ∙ (with_one t log c told.crowded
    ∙ ap (map (breach_by t log)) (append_assoc b (listed told.soon) (listed told.crowded)
    ∙ (append_assoc a (listed told.named) (listed told.soon ++ listed told.crowded)
    ∙ append_assoc found (listed told.fallen) (listed told.named ++ (listed told.soon ++ listed told.crowded)))))))
