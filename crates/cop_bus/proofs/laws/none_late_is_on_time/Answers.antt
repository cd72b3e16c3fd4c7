use Rattle.std.proofs.Common.{length, arith}
use Rattle.cop_frame.specs.Rate.{ticks_of}
use Rattle.cop_bus.proofs.LateLemmas.{all-on-time, none-found}
use Rattle.cop_bus.proofs.laws.none_late_is_on_time.Goals as goal

pub returns : goal.returns
returns c = λ rate streams until steps distinct. (λ h. all-on-time (ticks_of rate) streams until steps distinct h, λ h. none-found (ticks_of rate) streams until steps h (length steps) 0 (omega arith))
