use Rattle.cop_tidy.proofs.MeantLemmas.{all_of}
use Rattle.cop_tidy.proofs.meaning.is_of.Goals as goal

pub returns : goal.returns
returns c =
    all_of c.args.eds.now c.args.taken.now.first c.args.taken.now.last c.args.device.now c.in_ok-has_all.has_all c.requires.first c.requires.last c.in_ok-has_all.ensures
