use Rattle.std.proofs.Common.{None, refl, subst}
use Rattle.cop_frame.specs.Rate.{ticks_of}
use Rattle.cop_rta.specs.Streams.{AreDistinct}
use Rattle.cop_watch.specs.declared.found.Seen.{Seen}
use Rattle.cop_watch.specs.Reading.{Shows}
use Rattle.cop_table.specs.Pieces.{HoldsOfAll}
use Rattle.cop_engine.specs.Judgements.{judged_text}
use Rattle.cop_engine.proofs.JudgementLemmas.{cleared_with, explained_with}
use Rattle.cop_engine.proofs.judgements.seen.Goals as goal

pub returns-in-Lawful : goal.returns-in-Lawful
returns-in-Lawful g c =
    let left = g.R.Read.remaining c.args.reader in
    let distinct : AreDistinct c.args.streams.now = rw c.streams-distinct.ensures.items at c.streams-distinct.ensures.distinct in
    let shows : HoldsOfAll left (λ trace. Shows (ticks_of c.args.rate) c.args.streams.now trace c.in_ok-found.found) = c.in_ok-found.ensures in
    let lawful = subst (λ (s : Seen). HoldsOfAll left (λ trace. Shows (ticks_of c.args.rate) c.args.streams.now trace s)) c.in-Lawful.is shows in
    cleared_with c.args.rate c.args.streams.now left c.in-Lawful.sent (λ until xs clean. (c.clean_is_legal.ensures c.args.rate c.args.streams.now until xs distinct).0 clean) lawful (judged_text c.in-Lawful.sent None) refl

pub returns-in-Broken : goal.returns-in-Broken
returns-in-Broken g c =
    let left = g.R.Read.remaining c.args.reader in
    let shows : HoldsOfAll left (λ trace. Shows (ticks_of c.args.rate) c.args.streams.now trace c.in_ok-found.found) = c.in_ok-found.ensures in
    explained_with c.args.rate c.args.streams.now left c.in-Broken.step c.in-Broken.rule (subst (λ (s : Seen). HoldsOfAll left (λ trace. Shows (ticks_of c.args.rate) c.args.streams.now trace s)) c.in-Broken.is shows)
