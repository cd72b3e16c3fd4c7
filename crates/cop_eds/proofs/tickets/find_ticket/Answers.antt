use Rattle.std.proofs.Common.{Some, ◌≡◌, false, arith, rules, sym, ap, ◌∙◌}
use Rattle.cop_eds.specs.declared.tickets.Ticket.{Ticket}
use Rattle.cop_eds.specs.Index.{sort_key}
use Rattle.cop_eds.specs.Marks.{mark_of, is_marked}
use Rattle.cop_eds.proofs.ListLemmas.{get_or_same}
use Rattle.cop_eds.proofs.TicketLemmas.{none_below, none_more, none_left, none_marked, first_found, all_within}
use Rattle.cop_eds.proofs.tickets.find_ticket.Goals as goal

pub returns-then-not-is_marked : goal.returns-then-not-is_marked
returns-then-not-is_marked c =
    let free : is_marked c.args.marks.now (mark_of c.args.bits c.word_of-word.result) ≡ false = search rules in
    sym (none_marked c.args.source.now c.args.lines.now c.args.bits c.args.tickets.now c.args.marks.now (sort_key c.args.key.now) c.word_of-word.result
    c.requires.tickets c.requires.marked c.word_of-word.ensures free)

pub loop-place-init : goal.loop-place-init
loop-place-init c = record {
  none = none_below c.args.source.now c.args.lines.now c.args.bits c.args.tickets.now (sort_key c.args.key.now) c.word_of-word.result c.count_below-place.result
      c.requires.tickets c.word_of-word.ensures c.count_below-place.ensures.0;
  above = c.count_below-place.ensures.1;
}

pub returns-in-Some : goal.returns-in-Some
returns-in-Some c =
    let found = c.in-Some.ensures in
    ap (λ n. Some (n, c.in-Some.found.1)) found.0
    ∙ sym (first_found c.args.source.now c.args.lines.now c.args.bits c.args.tickets.now (sort_key c.args.key.now) c.loop-place.place (record { word = 0; line = 0 }) c.in-Some.found.1
    c.requires.tickets c.requires.ordered c.loop-place.invariant.none c.loop-place-test.true found.1 found.2 found.3)

pub loop-place-preserved : goal.loop-place-preserved
loop-place-preserved c =
    let t : Ticket = record { word = 0; line = 0 } in
    let own = all_within c.args.source.now c.args.lines.now c.args.bits c.args.tickets.now c.requires.tickets c.loop-place.place t c.loop-place-test.true in
    record {
      none = none_more c.args.source.now c.args.lines.now (sort_key c.args.key.now) c.args.tickets.now c.loop-place.place t c.loop-place-test.true c.loop-place.invariant.none
          (λ line at. c.in_default.ensures line own.0 at);
      above = λ k d low high. c.loop-place.invariant.above k d (omega arith) high;
    }

pub returns-else-tickets-place : goal.returns-else-tickets-place
returns-else-tickets-place c =
    sym (none_left c.args.source.now c.args.lines.now c.args.bits c.args.tickets.now (sort_key c.args.key.now) c.word_of-word.result c.loop-place.place
    c.requires.tickets c.requires.ordered c.word_of-word.ensures c.loop-place.invariant.none c.loop-place.invariant.above
    (λ d lt same. c.if-tickets-place.false (ap (λ (t : Ticket). t.word) (get_or_same c.args.tickets.now c.loop-place.place d (record { word = 0; line = 0 }) lt) ∙ same)))

pub returns-after-loop-place : goal.returns-after-loop-place
returns-after-loop-place c =
    sym (none_left c.args.source.now c.args.lines.now c.args.bits c.args.tickets.now (sort_key c.args.key.now) c.word_of-word.result c.loop-place.place
    c.requires.tickets c.requires.ordered c.word_of-word.ensures c.loop-place.invariant.none c.loop-place.invariant.above (λ d lt same. absurd (omega arith)))
