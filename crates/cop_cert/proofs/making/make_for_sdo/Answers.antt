use Rattle.std.proofs.Common.{◌≡◌, get_or}
use Rattle.cop_rta.proofs.IdentifierLemmas.{of_stream_at}
use Rattle.cop_cert.specs.Assignments.{id_at}
use Rattle.cop_cert.proofs.MadeLemmas.{sdo_made, sdo_holds, sdo_short}
use Rattle.cop_cert.proofs.making.make_for_sdo.Goals as goal

its : (c : goal.After-index-streams-frame) → id_at c.args.set.now c.args.frame ≡ (get_or c.streams.result.now c.args.frame c.index-streams-frame.result).id
its c = rw c.streams.ensures.items (of_stream_at c.args.set.now c.args.frame c.index-streams-frame.result c.requires.tested.inside)

pub returns-clause-made : goal.returns-clause-made
returns-clause-made c =
    sdo_made c.args.set.now c.args.pdos c.args.rate c.args.up.now c.in_ok-up.up _ c.args.frame c.in_ok-evidence.evidence c.requires.tested (its c) c.in_ok-up.ensures c.in_ok-evidence.ensures

pub returns-clause-short : goal.returns-clause-short
returns-clause-short c =
    sdo_short c.args.set.now c.args.pdos c.args.rate c.args.up.now c.in_ok-up.up _ c.args.frame c.in_ok-evidence.evidence c.requires.tested (its c) c.in_ok-up.ensures c.in_ok-evidence.ensures c.requires.count c.requires.fail.inside

pub returns-clause-checks : goal.returns-clause-checks
returns-clause-checks c =
    sdo_holds c.args.set.now c.args.pdos c.args.rate c.args.up.now c.in_ok-up.up _ c.args.frame c.in_ok-evidence.evidence c.requires.tested (its c) c.in_ok-up.ensures c.in_ok-evidence.ensures
    c.requires.not_long c.requires.fail c.requires.none
