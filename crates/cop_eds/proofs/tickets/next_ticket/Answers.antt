use Rattle.std.proofs.Common.{ℕ, ◌<◌, ◌≤◌, ◌^◌, arith, ⊎_elim}
use Rattle.cop_eds.proofs.TicketLemmas.{none_between, its_section, all_within}
use Rattle.cop_eds.proofs.tickets.next_ticket.Goals as goal

small_less : (n word : ℕ) → n < 2 ^ 63 → 2 ^ 63 ≤ word → n < word
small_less n word small large = omega arith

pub returns-then-ticket-eq0 : goal.returns-then-ticket-eq0
returns-then-ticket-eq0 c = λ text bits all.
    let within = all_within text c.args.lines.now bits c.args.tickets.now all c.count_below-place.result (record { word = 0; line = 0 }) c.if-place-tickets.false in
    absurd (⊎_elim (λ none. omega (arith, none, within.0)) (λ more. omega (arith, more.1, within.1)) c.then-ticket-eq0.either)

pub returns-then-place-tickets : goal.returns-then-place-tickets
returns-then-place-tickets c = λ text bits all n le.
    none_between text c.args.lines.now bits c.args.tickets.now c.args.code n c.count_below-place.result (record { word = 0; line = 0 }) all c.requires.ordered c.count_below-place.ensures le
    (λ small lt. absurd (omega arith))

pub returns-then-ticket-lt-OTHERS : goal.returns-then-ticket-lt-OTHERS
returns-then-ticket-lt-OTHERS c = λ text bits all.
    let here = its_section text c.args.lines.now bits c.args.tickets.now c.args.code c.count_below-place.result _ _ all c.requires.ordered c.count_below-place.ensures c.if-place-tickets.false c.if-ticket-lt-OTHERS.true in
    (here.0, here.1, λ n le lt. none_between text c.args.lines.now bits c.args.tickets.now c.args.code n c.count_below-place.result _ all c.requires.ordered c.count_below-place.ensures le (λ small inside. lt))

pub returns-else-ticket-lt-OTHERS : goal.returns-else-ticket-lt-OTHERS
returns-else-ticket-lt-OTHERS c = λ text bits all n le.
    none_between text c.args.lines.now bits c.args.tickets.now c.args.code n c.count_below-place.result _ all c.requires.ordered c.count_below-place.ensures le
    (λ small inside. small_less n _ small c.if-ticket-lt-OTHERS.false)
