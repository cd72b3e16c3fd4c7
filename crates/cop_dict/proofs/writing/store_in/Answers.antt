use Rattle.std.proofs.Common.{sym}
use Rattle.cop_dict.proofs.DictLemmas.{changed, fits_here}
use Rattle.cop_dict.proofs.writing.store_in.Goals as goal

pub replace-requires : goal.replace-requires
replace-requires c =
    fits_here c.args.objects.now c.args.index c.args.sub c.in-Some.place c.args.bytes.now c.index-objects-place.result
    c.requires.sorted c.in-Some.ensures.inside c.in-Some.ensures.place c.requires.fits

pub returns-in-Some-clause-value : goal.returns-in-Some-clause-value
returns-in-Some-clause-value c =
    sym (changed c.args.objects.now c.args.index c.args.sub c.in-Some.place c.args.bytes.now c.replace.new.self c.index-objects-place.result
    c.requires.sorted c.in-Some.ensures.inside c.in-Some.ensures.place c.replace.ensures)
