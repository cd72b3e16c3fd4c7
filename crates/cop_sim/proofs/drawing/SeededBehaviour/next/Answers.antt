use Rattle.cop_sim.proofs.DrawingLemmas.{goes-on}
use Rattle.cop_sim.proofs.drawing.SeededBehaviour.next.Goals as goal

pub returns-clause-rest : goal.returns-clause-rest
returns-clause-rest c = λ n. goes-on c.args.self.now.stream c.args.self.now.before c.args.self.now.words c.draw-offer.new.words n c.draw-offer.result c.is_none-self.result c.args.self.now.is_over c.draw-offer.ensures.drawn c.is_none-self.ensures c.draw-offer.ensures.rest c.if-self.false
