-- How what was watched for all goes on with the next entry.
use Rattle.std.proofs.Common.{◌≡◌, ◌∙◌, ℕ, ◌<◌, inl, inr, List, suc, length, get_or, get_or-set_same, get_or-set_other, length-set, refl, sym, ap, subst, arith, Bool, true, Option, Some, None}
use Rattle.std.specs.Prelude.{◌≢◌, ◌&&◌, set, slice_get, slice_index_or, is_none}
use Rattle.std.proofs.lemmas.Bool.{cases_lt}
use Rattle.std.proofs.lemmas.Option.{slice_get_within, get_or_from_slice_get}
use Rattle.cop_rta.specs.declared.streams.Stream.{Stream}
use Rattle.cop_rta.specs.Streams.{AreDistinct}
use Rattle.cop_lines.specs.declared.entries.Entry.{Entry}
use Rattle.cop_log.specs.declared.clocks.Clock.{Clock}
use Rattle.cop_log.specs.declared.anchors.Anchor.{Anchor}
use Rattle.cop_log.specs.declared.findings.Finding.{Finding}
use Rattle.cop_log.specs.Log.{Terms, Lane, IsLaneOf, entry_at}
use Rattle.cop_log.specs.Watching.{AreWatched, IsWatched, IsStep}
use Rattle.cop_log.specs.Watchers.{HasNoLane}
use Rattle.cop_log.proofs.Watched.{skip, left_true, weaken as lower}

pub weaken : (t : Terms) (log : List Entry) (i : ℕ) (anchors : List (Option Anchor)) (c d : Bool) → (d ≡ true → c ≡ true) → AreWatched t log i anchors c → AreWatched t log i anchors d
weaken t log i anchors c d h w = record { count = w.count; lanes = λ p k o. lower k log i (slice_index_or anchors p None) c d h (w.lanes p k o) }

-- an entry of no stream with a bound
pub skip_all : (t : Terms) (log : List Entry) (i : ℕ) → i < length log → (anchors : List (Option Anchor)) (clean : Bool) → HasNoLane t (entry_at log i).id → AreWatched t log i anchors clean → AreWatched t log (suc i) anchors clean
skip_all t log i l anchors clean none w = record {
  count = w.count;
  lanes = λ p k o. skip k log i l clean (slice_index_or anchors p None) (λ e. none p k o (sym e)) (w.lanes p k o);
}

same_lane : (k : Lane) (x : Stream) (tau bound : ℕ) (clock : Clock) → k.stream ≡ x → k.tau ≡ tau → k.bound ≡ bound → k.clock ≡ clock → k ≡ record { stream = x; tau = tau; bound = bound; clock = clock }
same_lane k x tau bound clock a b c d =
    subst (λ clock. k ≡ record { stream = x; tau = tau; bound = bound; clock = clock }) d
    (subst (λ bound. k ≡ record { stream = x; tau = tau; bound = bound; clock = k.clock }) c
    (subst (λ tau. k ≡ record { stream = x; tau = tau; bound = k.bound; clock = k.clock }) b
    (subst (λ x. k ≡ record { stream = x; tau = k.tau; bound = k.bound; clock = k.clock }) a refl)))

-- a place has one lane
one_lane : (t : Terms) (p : ℕ) (k l : Lane) → IsLaneOf t p k → IsLaneOf t p l → k ≡ l
one_lane t p k l o u =
    let streams : Some k.stream ≡ Some l.stream = sym o.there ∙ u.there in
    let bounds : Some k.bound ≡ Some l.bound = sym o.bound ∙ u.bound in
    let same_stream : k.stream ≡ l.stream = cc in
    let same_bound : k.bound ≡ l.bound = cc in
    same_lane k l.stream l.tau l.bound l.clock same_stream (o.tau ∙ sym u.tau) same_bound (o.same_clock ∙ sym u.same_clock)

-- streams at two places have two identifiers
pub other_id : (streams : List Stream) → AreDistinct streams → (p q : ℕ) (x y : Stream) → slice_get streams p ≡ Some x → slice_get streams q ≡ Some y → (q ≡ p → ⊥) → y.id ≢ x.id
other_id streams distinct p q x y a b apart same =
    let l = slice_get_within streams p x a in
    let m = slice_get_within streams q y b in
    let e : get_or streams p x ≡ x = get_or_from_slice_get streams p x x a in
    let f : get_or streams q x ≡ y = get_or_from_slice_get streams q y x b in
    elim (cases_lt p q) [
      | inl h ↦ distinct p q x h m (ap (λ (s : Stream). s.id) e ∙ sym same ∙ sym (ap (λ (s : Stream). s.id) f))
      | inr h ↦ elim (cases_lt q p) [
        | inl g ↦ distinct q p x g l (ap (λ (s : Stream). s.id) f ∙ same ∙ sym (ap (λ (s : Stream). s.id) e))
        | inr g ↦ apart (omega arith)
      ]
    ]

-- an entry of a stream with a bound, at a place
pub step_all : (t : Terms) → AreDistinct t.streams → (log : List Entry) (i : ℕ) → i < length log → (anchors : List (Option Anchor)) (clean : Bool) (p : ℕ) (k : Lane) → IsLaneOf t p k →
    (entry_at log i).id ≡ k.stream.id → (anchor : Anchor) (soon : Option Finding) → IsStep k log i clean anchor soon → AreWatched t log i anchors clean →
    AreWatched t log (suc i) (set anchors p (Some anchor)) (clean && is_none soon)
step_all t distinct log i l anchors clean p k o own anchor soon s w =
    let within : p < length anchors = (let a = slice_get_within t.streams p k.stream o.there in let c = w.count in omega arith) in
    record {
      count = length-set anchors p (Some anchor) ∙ w.count;
      lanes = λ q m u. elim (cases_lt q p) [
        | inl h ↦ other q m u (λ e. omega arith)
        | inr h ↦ elim (cases_lt p q) [
          | inl g ↦ other q m u (λ e. omega arith)
          | inr g ↦ (let e : q ≡ p = omega arith in
              let v : IsLaneOf t p m = subst (λ q. IsLaneOf t q m) e u in
              subst (λ q. IsWatched m log (suc i) (slice_index_or (set anchors p (Some anchor)) q None) (clean && is_none soon)) (sym e)
              (subst (λ a. IsWatched m log (suc i) a (clean && is_none soon)) (sym (get_or-set_same anchors p (Some anchor) None within))
              (subst (λ k. IsWatched k log (suc i) (Some anchor) (clean && is_none soon)) (one_lane t p k m o v) s.watched)))
        ]
      ];
    }
  where
    other : (q : ℕ) (m : Lane) → IsLaneOf t q m → (q ≡ p → ⊥) → IsWatched m log (suc i) (slice_index_or (set anchors p (Some anchor)) q None) (clean && is_none soon)
    other q m u apart =
        let different = other_id t.streams distinct p q k.stream m.stream o.there u.there apart in
        let before = w.lanes q m u in
        let more = skip m log i l clean (slice_index_or anchors q None) (λ e. different (sym e ∙ own)) before in
        subst (λ a. IsWatched m log (suc i) a (clean && is_none soon)) (sym (get_or-set_other anchors p q (Some anchor) None apart))
        (lower m log (suc i) (slice_index_or anchors q None) clean (clean && is_none soon) (left_true clean (is_none soon)) more)
