-- Which SYNCs are recalled.
use Rattle.std.proofs.Common.{◌≡◌, ◌≢◌, ℕ, ◌<◌, ◌⊎◌, inl, inr, List, length, get_or, sym, ap, subst, ◌∙◌, slice_set}
use Rattle.std.specs.Prelude.{Option, None, Some, slice_get}
use Rattle.std.proofs.lemmas.Option.{slice_get-get_or}
use Rattle.std.proofs.lemmas.Bool.{cases_eq}
use Rattle.cop_bus.proofs.AtPlace.{set-here, set-other}
use Rattle.cop_bus.specs.declared.steps.Step.{Step}
use Rattle.cop_bus.specs.Ends.{sync_anchor}
use Rattle.cop_watch.specs.declared.syncs.EndedSync.{EndedSync}
use Rattle.cop_watch.specs.declared.syncs.Syncs.{Syncs}
use Rattle.cop_watch.specs.declared.syncs.Newest.TheVariants.{Nothing, Sync}
use Rattle.cop_watch.specs.Syncs.{IsAmong, IsForgotten, IsNewest, AreKnown, Puts, EndsLast, EndsOne}

one-of : (s t : EndedSync) → Some (Some s) ≡ Some (Some t) → s ≡ t
one-of s t e = cc

-- what stands at a place
pub kept-is : (xs : List (Option EndedSync)) (p : ℕ) (d : Option EndedSync) (before s : EndedSync) → p < length xs → get_or xs p d ≡ Some before → slice_get xs p ≡ Some (Some s) → before ≡ s
kept-is xs p d before s low e g = one-of before s (ap Some (sym e) ∙ sym (slice_get-get_or xs p d low) ∙ g)

pub none-kept : (xs : List (Option EndedSync)) (p : ℕ) (d : Option EndedSync) (s : EndedSync) → p < length xs → get_or xs p d ≡ None → slice_get xs p ≡ Some (Some s) → ⊥
none-kept xs p d s low e g = (let t : Some None ≡ Some (Some s) = ap Some (sym e) ∙ sym (slice_get-get_or xs p d low) ∙ g in absurd (cc))

-- one that is put in the place of another
pub puts-here : (xs : List (Option EndedSync)) (p : ℕ) (sync : EndedSync) (was is : Option ℕ) → p < length xs → ((s : EndedSync) → slice_get xs p ≡ Some (Some s) → IsForgotten is s.event)
    → ((v : ℕ) → IsForgotten was v → IsForgotten is v) → Puts xs (slice_set xs p (Some sync)) sync was is
puts-here xs p sync was is low old later = record {
  there = λ place s e. stood place s e (cases_eq place p);
  kept = λ place s e. stands place s e (cases_eq place p);
  itself = inl (p, set-here xs p (Some sync) low);
  forgotten = later;
}
  where
    stood : (place : ℕ) (s : EndedSync) → slice_get (slice_set xs p (Some sync)) place ≡ Some (Some s) → (place ≡ p) ⊎ (place ≢ p) → (slice_get xs place ≡ Some (Some s)) ⊎ (s ≡ sync)
    stood place s e (inl same) = inr (one-of s sync (sym e ∙ ap (slice_get (slice_set xs p (Some sync))) same ∙ set-here xs p (Some sync) low))
    stood place s e (inr other) = inl (sym (set-other xs p place (Some sync) other) ∙ e)

    stands : (place : ℕ) (s : EndedSync) → slice_get xs place ≡ Some (Some s) → (place ≡ p) ⊎ (place ≢ p) → (slice_get (slice_set xs p (Some sync)) place ≡ Some (Some s)) ⊎ IsForgotten is s.event
    stands place s e (inl same) = inr (old s (sym (ap (slice_get xs) same) ∙ e))
    stands place s e (inr other) = inl (set-other xs p place (Some sync) other ∙ e)

-- one for which there is no place
pub puts-nothing : (xs : List (Option EndedSync)) (sync : EndedSync) (was is : Option ℕ) → IsForgotten is sync.event → ((v : ℕ) → IsForgotten was v → IsForgotten is v) → Puts xs xs sync was is
puts-nothing xs sync was is its later = record { there = λ place s e. inl e; kept = λ place s e. inl e; itself = inr its; forgotten = later }

-- what is known of the newest and of each that is recalled
pub among : (xs : List Step) (i : ℕ) (syncs : Syncs) (s : EndedSync) → AreKnown syncs xs i → IsAmong syncs s → sync_anchor xs i s.event ≡ Some (record { mark = s.mark; from = s.from })
among xs i syncs s known (inl newest) = (subst (λ n. IsNewest n xs i) newest known.newest).first
among xs i syncs s known (inr on) = known.recent s on

-- the newest is put among those that are recalled, and another is the newest
pub ends-put : (before after : Syncs) (event at : ℕ) (newest : EndedSync) → before.newest ≡ Sync newest → EndsLast event before.newest at after.newest
    → Puts before.recent.items after.recent.items newest before.forgotten after.forgotten → EndsOne event before at after
ends-put before after event at newest was ends puts = record {
  newest = ends;
  recent = λ s on. stood s on.0 (puts.there on.0 s on.1);
  kept = λ s on. stands s on;
  forgotten = puts.forgotten;
}
  where
    stood : (s : EndedSync) (place : ℕ) → (slice_get before.recent.items place ≡ Some (Some s)) ⊎ (s ≡ newest) → IsAmong before s
    stood s place (inl e) = inr (place, e)
    stood s place (inr e) = inl (was ∙ ap Sync (sym e))

    the-newest : (s : EndedSync) → before.newest ≡ Sync s → s ≡ newest
    the-newest s e = let t : Sync s ≡ Sync newest = sym e ∙ was in cc

    itself : (s : EndedSync) → s ≡ newest → ((place : ℕ) × (slice_get after.recent.items place ≡ Some (Some newest))) ⊎ IsForgotten after.forgotten newest.event → IsAmong after s ⊎ IsForgotten after.forgotten s.event
    itself s e (inl there) = inl (inr (there.0, there.1 ∙ ap (λ t. Some (Some t)) (sym e)))
    itself s e (inr gone) = inr (subst (λ (t : EndedSync). IsForgotten after.forgotten t.event) (sym e) gone)

    stays : (s : EndedSync) (place : ℕ) → (slice_get after.recent.items place ≡ Some (Some s)) ⊎ IsForgotten after.forgotten s.event → IsAmong after s ⊎ IsForgotten after.forgotten s.event
    stays s place (inl e) = inl (inr (place, e))
    stays s place (inr gone) = inr gone

    stands : (s : EndedSync) → IsAmong before s → IsAmong after s ⊎ IsForgotten after.forgotten s.event
    stands s (inl e) = itself s (the-newest s e) puts.itself
    stands s (inr on) = stays s on.0 (puts.kept on.0 s on.1)

-- none has ended before
pub ends-first : (before after : Syncs) (event at : ℕ) → before.newest ≡ Nothing → EndsLast event before.newest at after.newest → after.recent.items ≡ before.recent.items → after.forgotten ≡ before.forgotten → EndsOne event before at after
ends-first before after event at was ends same forgets = record {
  newest = ends;
  recent = λ s on. inr (on.0, sym (ap (λ (xs : List (Option EndedSync)). slice_get xs on.0) same) ∙ on.1);
  kept = λ s on. inl (still s on);
  forgotten = λ v gone. subst (λ o. IsForgotten o v) (sym forgets) gone;
}
  where
    still : (s : EndedSync) → IsAmong before s → IsAmong after s
    still s (inl e) = absurd (let t : Nothing ≡ Sync s = sym was ∙ e in cc)
    still s (inr on) = inr (on.0, ap (λ (xs : List (Option EndedSync)). slice_get xs on.0) same ∙ on.1)
