-- Runs of the bus through the disturbances of a tested set.
use Rattle.std.proofs.Common.{◌≡◌, ◌∙◌, ℕ, ◌≤◌, List, [], ◌∷◌, map, refl, sym, ap, subst, arith, Option, Some, None, is_some, if◌then◌else◌}
use Rattle.std.specs.Prelude.{Contains, All}
use Rattle.std.proofs.lemmas.List.Elements.{All-from_recursion, All-contains}
use Rattle.cop_frame.specs.declared.rates.Rate.{Rate}
use Rattle.cop_frame.specs.Rate.{ticks_of}
use Rattle.cop_rta.specs.declared.streams.Stream.{Stream}
use Rattle.cop_rta.specs.Streams.{AreDistinct}
use Rattle.cop_rta.specs.UpLemmas.{up_id, up_id-other}
use Rattle.cop_rta.specs.Errors.{HasNoOne, tested, rarity, errors_of, all_but_errors, bus_of}
use Rattle.cop_rta.proofs.QueueLemmas.{ticks_pos}
use Rattle.cop_rta.proofs.BusLemmas.{tested_again}
use Rattle.cop_bus.specs.Run.{Instance, IsLegal, IsObeying, IsOnTime}
use Rattle.cop_bus.proofs.Totals.{Each-from_Contains}
use Rattle.cop_errors.specs.Errors.{Disturbance, AreRare, IsDisturbed}
use Rattle.cop_errors.specs.Extended.{up_instance, hit_instances, extended, extended_by, AreAsRare, IsRunThrough}
use Rattle.cop_errors.proofs.Lists.{Contains-left, Contains-mapped}
use Rattle.cop_errors.proofs.Legal.{legal_more}
use Rattle.cop_errors.proofs.Extended.{obeys_still}
use Rattle.cop_errors.proofs.Rare.{rare_obeys}
use Rattle.cop_errors.proofs.Through.{each_tested}
use Rattle.cop_errors.proofs.Windows.{undisturbed}

-- a legal run of a set in which all obey
pub record IsRunOfSet (rate : Rate) (streams : List Stream) (until : ℕ) (run : List Instance) : Type 0 where
  pub legal : IsLegal (ticks_of rate) streams until run
  pub obeying : All (IsObeying (ticks_of rate) until run) streams

module _ (rate : Rate) (until : ℕ) (run : List Instance) (hits : List Disturbance) (events : List ℕ) where
  -- where the set counts no errors, there is no disturbance
  plain : (streams : List Stream) → IsDisturbed (ticks_of rate) streams until run hits → hits ≡ [] → All (IsObeying (ticks_of rate) until run) streams → IsRunOfSet rate streams until run
  plain streams disturbed none obeying = record {
    legal = (undisturbed (ticks_of rate) streams until run).0 (subst (IsDisturbed (ticks_of rate) streams until run) none disturbed);
    obeying = obeying;
  }

  -- where it does, they are instances of their stream
  through : (bus : List Stream) (s : Stream) → HasNoOne bus → IsDisturbed (ticks_of rate) bus until run hits → AreRare s.period s.jitter events hits
      → All (IsObeying (ticks_of rate) until run) bus → IsRunOfSet rate (tested (Some (rarity s)) bus) until (extended run hits events)
  through bus s free disturbed rare obeying = record {
    legal = legal_more (ticks_of rate) (rarity s) bus until run hits events (ticks_pos rate) free disturbed;
    obeying = each_tested (rarity s) bus (IsObeying (ticks_of rate) until (extended run hits events))
        (λ k c. obeys_still run hits events (ticks_of rate) until bus k free disturbed.known c (All-contains (IsObeying (ticks_of rate) until run) bus k obeying c))
        (rare_obeys (ticks_of rate) until (rarity s) run hits events rare disturbed.rising);
  }

  pub of_set : (streams : List Stream) → AreDistinct streams → IsRunThrough rate streams until run hits events → IsRunOfSet rate streams until (extended_by (errors_of streams) run hits events)
  of_set streams distinct r = go (errors_of streams) refl
    where
      go : (o : Option Stream) → errors_of streams ≡ o → IsRunOfSet rate streams until (extended_by (errors_of streams) run hits events)
      go None none =
          let bus : bus_of streams ≡ streams = ap (λ (o : Option Stream). if is_some o then all_but_errors streams else streams) none in
          let rare : AreAsRare None events hits = subst (λ (o : Option Stream). AreAsRare o events hits) none r.rare in
          subst (λ (o : Option Stream). IsRunOfSet rate streams until (extended_by o run hits events)) (sym none)
          (plain streams (subst (λ (ss : List Stream). IsDisturbed (ticks_of rate) ss until run hits) bus r.disturbed) rare (subst (λ (ss : List Stream). All (IsObeying (ticks_of rate) until run) ss) bus r.obeying))
      go (Some s) some =
          let t = tested_again streams distinct s some in
          let rare : AreAsRare (Some s) events hits = subst (λ (o : Option Stream). AreAsRare o events hits) some r.rare in
          let whole = through (bus_of streams) s t.free r.disturbed rare r.obeying in
          subst (λ (o : Option Stream). IsRunOfSet rate streams until (extended_by o run hits events)) (sym some)
          (subst (λ (ss : List Stream). IsRunOfSet rate ss until (extended run hits events)) (sym t.again) whole)

pub kept : (errors : Option Stream) (tau until : ℕ) (run : List Instance) (hits : List Disturbance) (events : List ℕ) (id : ℕ) (deadline : Option ℕ) → 2 ≤ id
    → All (λ y. y.id ≡ id → IsOnTime tau until deadline y) (extended_by errors run hits events) → All (λ y. y.id ≡ id → IsOnTime tau until deadline y) run
kept None tau until run hits events id deadline high all = all
kept (Some s) tau until run hits events id deadline high all =
    All-from_recursion (λ y. y.id ≡ id → IsOnTime tau until deadline y) run
    (Each-from_Contains (λ y. y.id ≡ id → IsOnTime tau until deadline y) run
    (λ y c is. All-contains (λ y. y.id ≡ id → IsOnTime tau until deadline y) (extended run hits events) (up_instance y) all
    (Contains-left (map up_instance run) (hit_instances hits events) (up_instance y) (Contains-mapped up_instance run y c)) (ap up_id is ∙ up_id-other id (omega (arith, high)))))
