use Rattle.std.proofs.Common.{◌+◌, ◌*◌, arith}
use Rattle.cop_rta.specs.Test.{place_of, queueing_at, blocking, cost_at}
use Rattle.cop_rta.proofs.BoundLemmas.{queueing_small}
use Rattle.cop_cert.proofs.ChainLemmas.{whole_all}
use Rattle.cop_cert.proofs.MakeLemmas.{start_rises, start_within, queue_all}
use Rattle.cop_cert.proofs.making.queue_list.Goals as goal

pub overflow_cast-start : goal.overflow_cast-start
overflow_cast-start c =
    omega (arith, c.start_of-start.ensures, start_within (place_of c.args.busy.now) c.requires.index c.args.q c.requires.late.0 c.requires.late.1)

pub chain-requires : goal.chain-requires
chain-requires c =
    let within = start_within (place_of c.args.busy.now) c.requires.index c.args.q c.requires.late.0 c.requires.late.1 in
    let rises = start_rises (place_of c.args.busy.now) c.requires.index c.args.q c.requires.late.0 c.requires.late.1 in
    rw (c.queueing.ensures, c.start_of-start.ensures) (omega (arith, rises, within))

pub returns : goal.returns
returns c =
    let within = start_within (place_of c.args.busy.now) c.requires.index c.args.q c.requires.late.0 c.requires.late.1 in
    queue_all (place_of c.args.busy.now) c.requires.index c.args.q c.requires.late.0 c.requires.late.1 c.chain.result
    (whole_all (queueing_at (place_of c.args.busy.now) c.args.q) (blocking (place_of c.args.busy.now) + c.args.q * cost_at (place_of c.args.busy.now)) c.chain.result
    (queueing_small (place_of c.args.busy.now) c.requires.few c.requires.ahead c.args.q within) (rw (c.queueing.ensures, c.start_of-start.ensures) at c.chain.ensures))
