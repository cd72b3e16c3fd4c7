use Rattle.std.proofs.Common.{◌≡◌, ◌∙◌, ◌+◌, ◌*◌, sym, ap}
use Rattle.std.specs.Prelude.{Some}
use Rattle.cop_bus.specs.Trace.{is_queue, is_start, count_to, nth_that, bits_of, after}
use Rattle.cop_bus.proofs.judging.note_transfer.Goals as goal

pub returns-in-Start : goal.returns-in-Start
returns-in-Start c =
    let n = c.unsent_of.ensures c.args.i c.requires.unsent in
    let b = c.from-in-Start.ensures ∙ c.bits-bits.ensures ∙ ap bits_of n in
    let e : c.from.result + c.from-in-Start.result * c.from-in-Start-2.result ≡ c.in-Start.at + bits_of (nth_that (is_queue c.in-Start.id) (count_to (is_start c.in-Start.id) c.args.steps.now c.args.i) c.args.steps.now) * c.args.ticks = cc (b, c.from.ensures, c.from-in-Start-2.ensures) in
    ap (λ n. Some (c.in-Start.id, n)) e ∙ sym (ap (λ x. after c.args.ticks c.args.steps.now c.args.i x c.args.running.now) c.in-Start.is)
