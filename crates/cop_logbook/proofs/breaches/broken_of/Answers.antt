use Rattle.std.proofs.Common.{◌∙◌, sym, ap, subst}
use Rattle.cop_logbook.specs.declared.breaches.Broken.TheVariants.{Length}
use Rattle.cop_logbook.specs.Told.{bytes_with, broken_by, Shows}
use Rattle.cop_logbook.proofs.ToldLemmas.{soon_is, crowded_is, fallen_is}
use Rattle.cop_logbook.proofs.breaches.broken_of.Goals as goal

pub returns-in-Unknown : goal.returns-in-Unknown
returns-in-Unknown c t log h = sym (ap (broken_by t log) c.in-Unknown.is)

pub returns-in-Length : goal.returns-in-Length
returns-in-Length c t log h =
    let s = subst (Shows t log c.args.scene.now) c.in-Length.is h in
    ap Length (c.bytes_of.ensures ∙ ap bytes_with s.stream) ∙ sym (ap (broken_by t log) c.in-Length.is)

pub returns-in-Soon : goal.returns-in-Soon
returns-in-Soon c t log h =
    let s = subst (Shows t log c.args.scene.now) c.in-Soon.is h in
    let from = s.from in
    c.soon.ensures from.0 from.1 ∙ (soon_is t log c.args.scene.now _ _ c.in-Soon.count from.0 from.2 s ∙ sym (ap (broken_by t log) c.in-Soon.is))

pub returns-in-Crowded : goal.returns-in-Crowded
returns-in-Crowded c t log h =
    let s = subst (Shows t log c.args.scene.now) c.in-Crowded.is h in
    let from = s.from in
    c.crowded.ensures from.0 from.1 from.4 ∙ (crowded_is t log c.args.scene.now _ _ from.0 from.2 from.3 from.5 s ∙ sym (ap (broken_by t log) c.in-Crowded.is))

pub returns-in-Fallen : goal.returns-in-Fallen
returns-in-Fallen c t log h =
    let s = subst (Shows t log c.args.scene.now) c.in-Fallen.is h in
    let from = s.from in
    c.fallen.ensures from.0 from.1 ∙ (fallen_is t log c.args.scene.now _ _ from.0 from.2 s ∙ sym (ap (broken_by t log) c.in-Fallen.is))
