use Rattle.std.proofs.Common.{refl, ◌∙◌, length-set, arith}
use Rattle.std.specs.Prelude.{None}
use Rattle.cop_log.proofs.Restarted.{one_less}
use Rattle.cop_log.proofs.watcher.forget.Goals as goal

pub loop-place-init : goal.loop-place-init
loop-place-init c = record { count = refl; few = λ p a e. e }

pub loop-place-preserved : goal.loop-place-preserved
loop-place-preserved c =
    let count = c.loop-place.invariant.count in
    record {
      count = length-set c.loop-place.anchors.items c.loop-place.place None ∙ count;
      few = one_less c.args.anchors.now.items c.loop-place.anchors.items c.loop-place.place (omega (arith, count, c.loop-place-test.true)) c.loop-place.invariant.few;
    }
