use Rattle.std.proofs.Common.{◌≡◌, ◌∙◌, length, sym, ap, subst, arith}
use Rattle.std.specs.Prelude.{All}
use Rattle.std.proofs.lemmas.List.Elements.{All-nil}
use Rattle.cop_log.specs.Log.{Terms, IsEvidence, entry_at}
use Rattle.cop_log.specs.Watching.{IsTold, IsRising, Stands}
use Rattle.cop_log.specs.Watchers.{terms_of}
use Rattle.cop_log.proofs.Answered.{noted, still_clean, answer}
use Rattle.cop_log.proofs.answers.watch.Goals as goal

pub loop-place-init : goal.loop-place-init
loop-place-init c =
    let t : Terms = record { rate = c.args.rate; streams = c.args.streams.now; bounds = c.args.bounds.items; clock = c.args.clock } in
    record {
      terms = c.in_ok-watcher.ensures.terms;
      number = c.in_ok-watcher.ensures.begins.0;
      kept = c.in_ok-watcher.ensures.kept c.args.log.now;
      evident = subst (All (IsEvidence t c.args.log.now)) (sym c.new-found.ensures.items) (All-nil (IsEvidence t c.args.log.now));
      clean = λ e. c.in_ok-watcher.ensures.begins.1;
    }

pub loop-place-preserved : goal.loop-place-preserved
loop-place-preserved c =
    let t : Terms = record { rate = c.args.rate; streams = c.args.streams.now; bounds = c.args.bounds.items; clock = c.args.clock } in
    let log = c.args.log.now in
    let inv = c.loop-place.invariant in
    let w = c.loop-place.watcher in
    let found = c.loop-place.found.items in
    let told = c.take-told.result in
    let place : w.number ≡ c.loop-place.place = inv.number in
    let r = c.take-told.ensures.told log (omega arith) (omega (arith, place, c.loop-place-test.true)) (ap (entry_at log) place) inv.kept in
    record {
      terms = c.take-told.ensures.terms ∙ inv.terms;
      number = (let n = c.take-told.ensures.number (omega (arith, place, c.loop-place-test.true)) in omega (arith, n, place));
      kept = r.1;
      evident = subst (All (IsEvidence t log)) (sym c.in_ok-note_all.ensures) (noted t log found told inv.evident (subst (λ t. IsTold t log told) inv.terms r.0));
      clean = λ e. c.take-told.ensures.clean ∙ still_clean found told w.is_clean inv.clean (sym c.in_ok-note_all.ensures ∙ e);
    }

pub returns : goal.returns
returns c =
    let t : Terms = record { rate = c.args.rate; streams = c.args.streams.now; bounds = c.args.bounds.items; clock = c.args.clock } in
    let log = c.args.log.now in
    let inv = c.loop-place.invariant in
    let w = c.loop-place.watcher in
    let all : w.number ≡ length log = (let n = inv.number in omega (arith, n)) in
    answer t log w.anchors.items w.pile w.top w.is_clean c.loop-place.found.items inv.evident inv.clean
    (subst (λ t. Stands t log (length log) w.anchors.items w.pile w.is_clean) inv.terms (subst (λ n. Stands (terms_of w) log n w.anchors.items w.pile w.is_clean) all inv.kept.stands))
    (subst (λ (t : Terms). IsRising t.clock log (length log) w.top w.is_clean) inv.terms (subst (λ n. IsRising w.clock log n w.top w.is_clean) all inv.kept.rising))
