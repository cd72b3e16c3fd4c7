-- Where disturbances are rare the errors' stream obeys.
use Rattle.std.proofs.Common.{◌≡◌, ℕ, suc, ◌+◌, ◌≤◌, ◌<◌, List, [], ◌∷◌, refl, arith, Some, length, slice_get}
use Rattle.std.specs.Prelude.{AllPairs}
use Rattle.std.specs.List.{AllByRecursion as Each}
use Rattle.cop_bus.specs.Run.{Instance, IsQueuedInTime, ComesBefore, IsObeying}
use Rattle.cop_bus.proofs.Totals.{Pairs, Pairs-from_AllPairs}
use Rattle.cop_rta.specs.declared.errors.Errors.{Errors}
use Rattle.cop_errors.specs.Errors.{Disturbance, AreRare}
use Rattle.cop_rta.specs.UpLemmas.{up_id}
use Rattle.cop_rta.specs.Errors.{errors_stream}
use Rattle.cop_errors.specs.Extended.{up_instance, hit_instance, hit_instances, extended}
use Rattle.cop_errors.proofs.Up.{up_id-not_zero}
use Rattle.cop_errors.proofs.Extended.{all_extended, pairs_extended}

-- a fact of each disturbance with its event
rare_each : (P : Instance → Type 0) (hits : List Disturbance) (events : List ℕ) → length events ≡ length hits →
    ((i e : ℕ) (h : Disturbance) → slice_get events i ≡ Some e → slice_get hits i ≡ Some h → P (hit_instance h e)) → Each P (hit_instances hits events)
rare_each P [] events n f = tt
rare_each P (h ∷ hits) [] n f = absurd (let m : 0 ≡ suc (length hits) = n in omega arith)
rare_each P (h ∷ hits) (e ∷ events) n f = (f 0 e h refl refl, rare_each P hits events (let m : suc (length events) ≡ suc (length hits) = n in omega arith) (λ i d g p q. f (suc i) d g p q))

-- and of each two
rare_pairs : (R : Instance → Instance → Type 0) (T : ℕ) (hits : List Disturbance) (events : List ℕ) → length events ≡ length hits →
    Pairs (λ d e. d + T ≤ e) events → Pairs (λ g h. g.start < h.start) hits → ((g h : Disturbance) (d e : ℕ) → d + T ≤ e → g.start < h.start → R (hit_instance g d) (hit_instance h e)) → Pairs R (hit_instances hits events)
rare_pairs R T [] events n p q f = tt
rare_pairs R T (g ∷ hits) [] n p q f = absurd (let m : 0 ≡ suc (length hits) = n in omega arith)
rare_pairs R T (g ∷ hits) (d ∷ events) n p q f =
    let m : length events ≡ length hits = (let k : suc (length events) ≡ suc (length hits) = n in omega arith) in
    (one hits events m p.0 q.0, rare_pairs R T hits events m p.1 q.1 f)
  where
    one : (hits : List Disturbance) (events : List ℕ) → length events ≡ length hits → Each (λ e. d + T ≤ e) events → Each (λ h. g.start < h.start) hits → Each (R (hit_instance g d)) (hit_instances hits events)
    one [] events n p q = tt
    one (h ∷ hits) [] n p q = absurd (let m : 0 ≡ suc (length hits) = n in omega arith)
    one (h ∷ hits) (e ∷ events) n p q = (f g h d e p.0 q.0, one hits events (let m : suc (length events) ≡ suc (length hits) = n in omega arith) p.1 q.1)

pub rare_obeys : (tau until : ℕ) (e : Errors) (run : List Instance) (hits : List Disturbance) (events : List ℕ) → AreRare e.period e.jitter events hits → AllPairs (λ g h. g.start < h.start) hits →
    IsObeying tau until (extended run hits events) (errors_stream e)
rare_obeys tau until e run hits events rare rising = record {
  in_time = all_extended run hits events (λ y. y.id ≡ 0 → IsQueuedInTime tau until (extended run hits events) (errors_stream e) y)
      (λ y c is. absurd (up_id-not_zero y.id is))
      (rare_each (λ y. y.id ≡ 0 → IsQueuedInTime tau until (extended run hits events) (errors_stream e) y) hits events rare.same
      (λ i d h p q is. (let w = rare.each i d h p q in record {
        anchor = record { mark = d; from = d };
        is_anchor = record { by_event = λ z. (refl, refl); by_sync = λ l. absurd (omega (arith, l)) };
        after_anchor = w.0;
        within_jitter = w.1;
      })));
  in_order = pairs_extended run hits events (λ y z. y.id ≡ 0 → z.id ≡ 0 → ComesBefore tau until (extended run hits events) (errors_stream e) y z)
      (Pairs-from_AllPairs (λ y z. up_id y.id ≡ 0 → up_id z.id ≡ 0 → ComesBefore tau until (extended run hits events) (errors_stream e) (up_instance y) (up_instance z)) run
      (λ i j d l h is other. absurd (up_id-not_zero _ is)))
      (rare_pairs (λ y z. y.id ≡ 0 → z.id ≡ 0 → ComesBefore tau until (extended run hits events) (errors_stream e) y z) e.period hits events rare.same
      (Pairs-from_AllPairs (λ d f. d + e.period ≤ f) events rare.apart) (Pairs-from_AllPairs (λ g h. g.start < h.start) hits rising)
      (λ g h d f l r is other. record {
        far = λ a b p q. (let x = (p.by_event refl).0 in let z = (q.by_event refl).0 in omega (arith, x, z, l));
        queued_first = omega (arith, r);
      }))
      (λ y h a is other. absurd (up_id-not_zero y.id is));
}
