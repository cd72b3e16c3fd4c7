-- What a watcher knows once it has taken the next entry.
use Rattle.std.proofs.Common.{◌≡◌, ◌∙◌, ℕ, ◌^◌, ◌<◌, List, suc, length, refl, sym, ap, subst, Bool, true, false, Option, Some, None}
use Rattle.std.specs.Prelude.{◌&&◌, is_none, IfNone, IfSome, slice_index_or}
use Rattle.std.specs.Option.{ForSome}
use Rattle.cop_frame.specs.Rate.{ticks_of}
use Rattle.cop_rta.specs.Streams.{AreDistinct}
use Rattle.cop_lines.specs.declared.entries.Entry.{Entry}
use Rattle.cop_log.specs.declared.anchors.Anchor.{Anchor}
use Rattle.cop_log.specs.declared.anchors.Pile.{Pile}
use Rattle.cop_log.specs.declared.anchors.Top.{Top}
use Rattle.cop_log.specs.declared.findings.Finding.{Finding}
use Rattle.cop_log.specs.declared.naming.Naming.{Naming}
use Rattle.cop_log.specs.declared.watcher.Placed.{Placed}
use Rattle.cop_log.specs.Log.{Terms, IsEvidence, entry_at}
use Rattle.cop_log.specs.Watching.{lane_of, IsWatched, AreWatched, Stands, IsNamed, IsTold, IsLoaded, IsRising, tells_nothing}
use Rattle.cop_log.specs.Watchers.{HasNoLane, HasLane, IsStepOfAll, named_by}
use Rattle.cop_log.proofs.Watched.{left_true}
use Rattle.cop_log.proofs.Watched as Watched
use Rattle.cop_log.proofs.Piled as Piled
use Rattle.cop_log.proofs.Risen as Risen
use Rattle.cop_log.proofs.Named as Named
use Rattle.cop_log.proofs.Stepped as Stepped

-- where all four hold each two do
first_of : (c a b d : Bool) → (c && (a && (b && d))) ≡ true → (c && a) ≡ true
first_of true true b d e = refl
first_of true false b d e = absurd (cc)
first_of false a b d e = absurd (cc)

second_of : (c a b d : Bool) → (c && (a && (b && d))) ≡ true → (c && b) ≡ true
second_of true true true d e = refl
second_of true true false d e = absurd (cc)
second_of true false b d e = absurd (cc)
second_of false a b d e = absurd (cc)

third_of : (c a b d : Bool) → (c && (a && (b && d))) ≡ true → (c && d) ≡ true
third_of true true true d e = e
third_of true true false d e = absurd (cc)
third_of true false b d e = absurd (cc)
third_of false a b d e = absurd (cc)

and_assoc : (a b c : Bool) → ((a && b) && c) ≡ (a && (b && c))
and_assoc true b c = refl
and_assoc false b c = refl

module _ (t : Terms) (distinct : AreDistinct t.streams) (log : List Entry) (i : ℕ) (l : i < length log) (short : length log < 2 ^ 64) (clean : Bool) where
  stepped : (anchors after : List (Option Anchor)) (soon : Option Finding) (placed : Option Placed) →
      IfNone placed (HasNoLane t (entry_at log i).id) → IfSome placed (λ x. HasLane t x.place (lane_of x.watch) (entry_at log i).id) →
      IfNone placed ((after ≡ anchors) × (soon ≡ None)) → IfSome placed (λ x. IsStepOfAll x (entry_at log i) i anchors after soon) →
      AreWatched t log i anchors clean → ForSome soon (IsEvidence t log) × AreWatched t log (suc i) after (clean && is_none soon)
  stepped anchors after soon None none some same step w = (
    λ f e. (let q : None ≡ Some f = sym same.1 ∙ e in absurd (cc)),
    subst (λ a. AreWatched t log (suc i) a (clean && is_none soon)) (sym same.0)
        (subst (λ s. AreWatched t log (suc i) anchors (clean && is_none s)) (sym same.1)
        (Stepped.weaken t log (suc i) anchors clean (clean && true) (left_true clean true) (Stepped.skip_all t log i l anchors clean none w))),
  )
  stepped anchors after soon (Some x) none some same step w = step t log clean l short refl (sym some.1) some.0 distinct w

  taken_so : (anchors after : List (Option Anchor)) (pile : Option Pile) (next : Pile) (naming : Naming) (soon crowded : Option Finding) (placed : Option Placed) →
      IsNamed t.streams (entry_at log i) naming →
      IfNone placed (HasNoLane t (entry_at log i).id) → IfSome placed (λ x. HasLane t x.place (lane_of x.watch) (entry_at log i).id) →
      IfNone placed ((after ≡ anchors) × (soon ≡ None)) → IfSome placed (λ x. IsStepOfAll x (entry_at log i) i anchors after soon) →
      IsLoaded (ticks_of t.rate) t.clock log i clean next crowded →
      Stands t log i anchors pile clean →
      ForSome (named_by naming i) (IsEvidence t log) × ForSome soon (IsEvidence t log) × ForSome crowded (IsEvidence t log)
      × Stands t log (suc i) after (Some next) (clean && (is_none (named_by naming i) && (is_none soon && is_none crowded)))
  taken_so anchors after pile next naming soon crowded placed named none some same step loaded w =
      let s = stepped anchors after soon placed none some same step w.watched in
      let a = is_none (named_by naming i) in
      let b = is_none soon in
      let d = is_none crowded in (
        Named.evident t log i l naming named,
        s.0,
        λ f e. loaded.evident f e t refl refl,
        record {
          watched = Stepped.weaken t log (suc i) after (clean && b) (clean && (a && (b && d))) (second_of clean a b d) s.1;
          held = Piled.weaken (ticks_of t.rate) t.clock log (suc i) (Some next) (clean && d) (clean && (a && (b && d))) (third_of clean a b d) loaded.held;
          named = Named.weaken t.streams log (suc i) (clean && a) (clean && (a && (b && d))) (first_of clean a b d) (Named.named t.streams log i clean naming named w.named);
        },
      )

  pub taken : (was : Bool) (fallen : Option Finding) (top : Option Top) (anchors after : List (Option Anchor)) (pile : Option Pile) (next : Pile) (naming : Naming) (named soon crowded : Option Finding)
      (placed : Option Placed) (number : ℕ) (still : Bool) →
      clean ≡ (was && is_none fallen) → ForSome fallen (IsEvidence t log) → IsRising t.clock log (suc i) top clean →
      named ≡ named_by naming i → number ≡ suc i → still ≡ (was && tells_nothing (record { fallen = fallen; named = named; soon = soon; crowded = crowded })) →
      IsNamed t.streams (entry_at log i) naming →
      IfNone placed (HasNoLane t (entry_at log i).id) → IfSome placed (λ x. HasLane t x.place (lane_of x.watch) (entry_at log i).id) →
      IfNone placed ((after ≡ anchors) × (soon ≡ None)) → IfSome placed (λ x. IsStepOfAll x (entry_at log i) i anchors after soon) →
      IsLoaded (ticks_of t.rate) t.clock log i clean next crowded →
      Stands t log i anchors pile clean →
      IsTold t log (record { fallen = fallen; named = named; soon = soon; crowded = crowded }) × Stands t log number after (Some next) still × IsRising t.clock log number top still
  taken was fallen top anchors after pile next naming named soon crowded placed number still before fell rising e f g is none some same step loaded w =
      let r = subst (λ n. ForSome n (IsEvidence t log) × ForSome soon (IsEvidence t log) × ForSome crowded (IsEvidence t log) × Stands t log (suc i) after (Some next) (clean && (is_none n && (is_none soon && is_none crowded)))) (sym e)
      (taken_so anchors after pile next naming soon crowded placed is none some same step loaded w) in
      let rest = is_none named && (is_none soon && is_none crowded) in
      let all : still ≡ (clean && rest) = g ∙ (sym (and_assoc was (is_none fallen) rest) ∙ ap (λ c. c && rest) (sym before)) in (
        record { fallen = fell; named = r.0; soon = r.1; crowded = r.2 },
        subst (λ s. Stands t log number after (Some next) s) (sym all) (subst (λ n. Stands t log n after (Some next) (clean && rest)) (sym f) r.3),
        subst (λ s. IsRising t.clock log number top s) (sym all)
            (subst (λ n. IsRising t.clock log n top (clean && rest)) (sym f) (Risen.weaken t.clock log (suc i) top clean (clean && rest) (left_true clean rest) rising)),
      )

pub begins : (t : Terms) (log : List Entry) (anchors : List (Option Anchor)) (clean : Bool) → length anchors ≡ length t.streams → ((p : ℕ) → slice_index_or anchors p None ≡ None) → Stands t log 0 anchors None clean
begins t log anchors clean count none = record {
  watched = record { count = count; lanes = λ p k o. subst (λ a. IsWatched k log 0 a clean) (sym (none p)) (Watched.begins k log clean) };
  held = Piled.begins (ticks_of t.rate) t.clock log clean;
  named = Named.begins t.streams log clean;
}
