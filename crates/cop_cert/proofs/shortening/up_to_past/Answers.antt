use Rattle.std.proofs.Common.{sym, ◌∙◌, rules}
use Rattle.cop_rta.specs.Test.{place_of}
use Rattle.cop_cert.specs.Short.{is_past, up_to}
use Rattle.cop_cert.proofs.ShortLemmas.{stops, ends}
use Rattle.cop_cert.proofs.shortening.up_to_past.Goals as goal

pub returns-then-is_past : goal.returns-then-is_past
returns-then-is_past c =
    let test = is_past (place_of c.args.busy.now) c.args.q in
    c.in_ok-push.ensures.ok
    ∙ stops test c.loop-wait.short c.in-Some.more.now (up_to test c.args.queue.now) c.in-Some.wait.now c.loop-wait.rest.now (search rules) c.loop-wait.invariant (sym c.is_past.ensures ∙ c.if-is_past.true)

pub returns : goal.returns
returns c =
    let test = is_past (place_of c.args.busy.now) c.args.q in
    ends test c.loop-wait.short c.loop-wait.rest.now (up_to test c.args.queue.now) (search rules) c.loop-wait.invariant
