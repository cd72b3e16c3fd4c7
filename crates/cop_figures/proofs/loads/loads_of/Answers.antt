use Rattle.std.proofs.Common.{◌≡◌, ℕ, Bool, true, false, List, length, refl, ◌∙◌, arith, ap}
use Rattle.std.specs.List.{Contains}
use Rattle.cop_frame.specs.declared.rates.Rate.{Rate}
use Rattle.cop_rta.specs.declared.streams.Stream.{Stream}
use Rattle.cop_net.specs.Network.{Net}
use Rattle.cop_figures.specs.declared.loads.Load.{Load}
use Rattle.cop_figures.specs.Loads.{load_of, IsLoadOf}
use Rattle.cop_figures.proofs.LoadLemmas.{none_yet, passed_over, one_more, whole}
use Rattle.cop_figures.proofs.loads.loads_of.Goals as goal
use Rattle.cop_figures.proofs.loads.loads_of.Goals.{then-contains+in_ok-push, else-contains}

is_load : (net : Net) (load : Load) (streams : List Stream) (pdos : ℕ) (rate : Rate) → load ≡ load_of streams pdos rate → streams ≡ net.set → pdos ≡ length net.rows
    → Contains net.equipment.rates rate → IsLoadOf net load
is_load net load streams pdos rate e same count candidate = rw (e, same, count) (record { candidate = candidate; is = refl })

no_bit : (b : Bool) → b ≡ true → b ≡ false → ⊥
no_bit b set clear = cc

pub loop-rate-init : goal.loop-rate-init
loop-rate-init c = rw c.new-loads.ensures.items (none_yet c.args.network.now)

pub loop-rate-preserved : goal.loop-rate-preserved
loop-rate-preserved c = elim c.if-contains.branch [
  | then-contains+in_ok-push w ↦
      rw (w.loads-is, w.in_ok-push.ensures.items) (
      one_more c.args.network.now c.loop-rate.rate-index c.loop-rate.loads.items w.load_at.result c.loop-rate-test.true
      (ap (λ l. l.rate) w.load_at.ensures)
      (is_load c.args.network.now w.load_at.result _ _ _ w.load_at.ensures (c.streams-streams.ensures.items ∙ c.set.ensures.set) c.pdos-pdos.ensures.count
      ((c.rates-rates.ensures.rates _).0 (c.contains.ensures.0 w.if-contains.true)))
      c.loop-rate.invariant
      )
  | else-contains w ↦ rw w.loads-is (
      passed_over c.args.network.now c.loop-rate.rate-index c.loop-rate.loads.items c.loop-rate-test.true
      (λ member. no_bit c.contains.result (c.contains.ensures.1 ((c.rates-rates.ensures.rates _).1 member)) w.if-contains.false) c.loop-rate.invariant
      )
]

pub returns : goal.returns
returns c = whole c.args.network.now c.loop-rate.rate-index c.loop-rate.loads.items (omega (arith, c.loop-rate-test.false)) c.loop-rate.invariant
