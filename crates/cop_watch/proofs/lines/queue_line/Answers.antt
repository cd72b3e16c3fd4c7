use Rattle.std.proofs.Common.{◌∙◌, sym}
use Rattle.cop_watch.proofs.LineLemmas.{queue_is_line}
use Rattle.cop_watch.proofs.lines.queue_line.Goals as goal

pub returns-in-Ok : goal.returns-in-Ok
returns-in-Ok c =
    queue_is_line _ _ _ _ _ _ _ _ _ _ _ c.in-Ok.frame c.in_ok-at.ensures c.in_ok-id.ensures c.in_ok-event.ensures c.in_ok-bits.ensures c.in_ok-data.ensures
    (sym c.content_in.ensures ∙ c.in-Ok.is)
