use Rattle.cop_cert.proofs.MadeLemmas.{made_of_themselves, made_are_short, places_hold}
use Rattle.cop_cert.proofs.making.make.Goals as goal

pub returns-clause-made : goal.returns-clause-made
returns-clause-made c = made_of_themselves 385 c.args.set.now c.args.pdos c.args.rate c.args.members.now c.in_ok-members.members c.in_ok-members.ensures

pub returns-clause-short : goal.returns-clause-short
returns-clause-short c = made_are_short 385 c.args.set.now c.args.pdos c.args.rate c.args.members.now c.in_ok-members.members c.requires.count c.requires.fail.inside c.in_ok-members.ensures

pub returns-clause-checks : goal.returns-clause-checks
returns-clause-checks c = places_hold c.args.set.now c.args.pdos c.args.rate c.args.members.now c.in_ok-members.members c.requires.not_long c.requires.some c.requires.fail c.in_ok-members.ensures
