use Rattle.std.proofs.Common.{ℕ, Option, None, Some, IfSome, get_or, subst, rules, sym, ◌∙◌}
use Rattle.std.specs.Prelude.{slice_index}
use Rattle.cop_watch.specs.Syncs.{MayCome}
use Rattle.cop_watch.proofs.watching.Watch.may_queue.Goals as goal

more_so : (o : Option ℕ) (P Q : ℕ → Type 0) → ((n : ℕ) → P n → Q n) → IfSome o P → IfSome o Q
more_so None P Q f h = tt
more_so (Some n) P Q f h = f n h

pub returns-in-Some : goal.returns-in-Some
returns-in-Some c =
    let w = c.args.self.now in
    let P : ℕ → ℕ → Type 0 = λ n number. MayCome c.in-Some.stream (get_or w.last.items n None) (slice_index w.marks.items n) w.syncs c.args.at c.args.event c.args.frame.now number in
    more_so c.may_come.result (P c.from-place.result) _
    (λ number come. record {
      last_there = search rules;
      ring_there = search rules;
      mark_there = search rules;
      stream = c.in-Some.stream;
      its = sym c.stream_of.ensures ∙ c.in-Some.is;
      obeying = subst (λ n. P n number) c.from-place.ensures come;
      order = search rules;
      open_to = search rules;
    }) c.may_come.ensures
