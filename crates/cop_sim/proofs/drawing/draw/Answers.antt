use Rattle.std.proofs.Common.{rules, ◌≡◌, ◌≤◌, ◌∙◌, sym, ap, arith, cond}
use Rattle.std.proofs.lemmas.Bool.{ne_eqb}
use Rattle.cop_sim.specs.Drawing.{by_sync, fitting, rest}
use Rattle.cop_sim.proofs.DrawingLemmas.{drawn-sync}
use Rattle.cop_sim.proofs.drawing.draw.Goals as goal

pub returns-else-stream-eq0-clause-drawn : goal.returns-else-stream-eq0-clause-drawn
returns-else-stream-eq0-clause-drawn c =
    let s : 1 ≤ c.args.stream.now.every = omega (arith, c.if-stream-eq0.false) in
    let d : c.offered-else-stream-eq0.result ≡ fitting (by_sync c.args.stream.now c.args.words.now) = search rules in
    d ∙ ap fitting (sym (drawn-sync c.args.stream.now c.args.before c.args.words.now s))

pub returns-else-stream-eq0-clause-rest : goal.returns-else-stream-eq0-clause-rest
returns-else-stream-eq0-clause-rest c =
    let s : 1 ≤ c.args.stream.now.every = omega (arith, c.if-stream-eq0.false) in
    let d : c.next_word-else-stream-eq0-2.new.self ≡ rest (rest c.args.words.now) = search rules in
    d ∙ sym (ap (λ b. cond b (rest (rest (rest c.args.words.now))) (rest (rest c.args.words.now))) (ne_eqb c.args.stream.now.every 0 (λ e. omega (arith, e, s))))
