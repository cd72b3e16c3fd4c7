use Rattle.std.specs.Prelude.{codes}
use Rattle.cop_bus.specs.Format.{short, text_of}
use Rattle.cop_bus.specs.Piecewise.{told, Writes}
use Rattle.cop_sim.proofs.Written.{whole}
use Rattle.cop_sim.proofs.traces.traces_are_written.Goals as goal

pub returns : goal.returns
unfolding text_of
returns g c = λ w w' s t steps until b h f.
    whole (λ s. told g.W.Write.contents s) (λ a x b. Writes g.W.Write.contents a x b) (λ s x t e. e) (g.W.Write.contents w) (g.W.Write.contents w') s steps t (short (codes "until") until 0) b h f
