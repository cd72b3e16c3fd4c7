use Rattle.std.proofs.Common.{◌≡◌, ◌++◌, ◌∷◌, [], length, ap, ◌∙◌, arith}
use Rattle.cop_boot.proofs.SentLemmas.{few_open, begun_count}
use Rattle.cop_boot.proofs.UnderWayLemmas.{has_begun}
use Rattle.cop_boot.proofs.schedule.Boot.begin.Goals as goal

pub returns-clause-under_way : goal.returns-clause-under_way
returns-clause-under_way c devices =
    let made = c.in_ok-bus.ensures in
    let pushed : c.push.new.self.items ≡ c.begin.result ∷ [] = (rw c.unwrap.ensures at c.push.ensures.items) ∙ ap (λ l. l ++ c.begin.result ∷ []) made.1 in
    has_begun c.args.manager.now devices c.begin.new.self _ c.begin.result c.begin.ensures pushed made.2 made.5 made.6 c.of-numbers.ensures

pub returns-clause-room : goal.returns-clause-room
returns-clause-room c =
    let made = c.in_ok-bus.ensures in
    let few = few_open c.begin.new.self.nodes in
    let count = begun_count c.args.manager.now c.begin.new.self _ c.begin.ensures in
    let empty = ap length made.1 in
    let none = ap length made.2 in
    record {
      sent = omega (arith, few, count, empty, made.3, c.count.ensures.value, c.push.ensures.capacity, c.push.ensures.upper_bound, c.in_ok-bus.bus.sent.ok);
      answers = omega (arith, none, made.4, c.in_ok-bus.bus.answers.ok);
    }
