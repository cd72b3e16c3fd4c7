use Rattle.std.proofs.Common.{◌≡◌, ◌∙◌, refl, sym, ap, subst}
use Rattle.cop_rta.specs.Errors.{errors_of}
use Rattle.cop_log.specs.Watchers.{terms_of, IsScene, IsShown}
use Rattle.cop_logbook.specs.ErrorFrames.{tested_entry}
use Rattle.cop_logbook.proofs.BookLemmas.{notes_made, notes_on}
use Rattle.cop_logbook.proofs.logbook.Logbook.take_message.Goals as goal

pub returns : goal.returns
returns c =
    let b = c.count.new.self in
    let v = c.take-told.new.self in
    let e = c.args.message.now.entry in
    let own : c.tested_entry-tested.result ≡ tested_entry (errors_of (terms_of b.watcher).streams) e = c.tested_entry-tested.ensures ∙ ap (λ o. tested_entry o e) c.errors.ensures in
    notes_on e c.args.self.now c.tell.new.self c.notice.new.self
    (notes_made e c.args.self.now b (record b { watcher = v }) c.tell.new.self c.scene-scene.result v c.take-told.result
    c.in_ok-count.ensures refl c.in_ok-tell.ensures (subst (λ x. IsScene b.watcher x c.scene-scene.result) own c.scene-scene.ensures)
    (subst (λ x. IsShown b.watcher x c.take-told.result) own c.take-told.ensures.shown)
    c.take-told.ensures.terms c.take-told.ensures.number c.take-told.ensures.clean
    (λ log small inside at kept. c.take-told.ensures.told log small inside (at ∙ sym own) kept))
    c.notice.ensures
