use Rattle.std.proofs.Common.{◌≡◌, ◌+◌, None, refl, ap, sym, ◌∙◌, arith}
use Rattle.cop_sim.specs.Cues.{answer_in}
use Rattle.cop_sim.specs.Seats.{asks}
use Rattle.cop_sim.proofs.TurnLemmas.{set-same}
use Rattle.cop_sim.proofs.seats.cued.Goals as goal

pub returns-in-Awaited-clause-asked : goal.returns-in-Awaited-clause-asked
returns-in-Awaited-clause-asked g c b e = (
  b,
  set-same c.args.behaviours.now.items c.args.place b e,
  record {
    rest = λ k. ap (g.B.Behaviour.offer b) (let z : k ≡ 0 + k = omega arith in z) ∙ ap (λ u. g.B.Behaviour.offer b (asks u + k)) (sym c.in-Awaited.is);
    same = λ z u. refl;
  },
  λ before. ap (λ u. answer_in u before None) c.in-Awaited.is ∙ sym (ap (λ u. answer_in u before (g.B.Behaviour.offer b 0)) c.in-Awaited.is),
)
