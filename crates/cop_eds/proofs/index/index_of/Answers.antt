use Rattle.std.proofs.Common.{length}
use Rattle.std.proofs.lemmas.List.Sorted.{All-permutation, Contains-permutation}
use Rattle.cop_eds.specs.declared.entry.Entry.{Entry}
use Rattle.cop_eds.specs.declared.line.Kind.TheVariants.{Header}
use Rattle.cop_eds.specs.Index.{IsEntry}
use Rattle.cop_eds.proofs.IndexLemmas.{complete_both, complete_kept}
use Rattle.cop_eds.proofs.index.index_of.Goals as goal

pub returns : goal.returns
returns c = record {
  sorted = c.in_ok-sort.ensures.sorted;
  sound = All-permutation (IsEntry c.args.source.now c.args.lines.now) _ _ c.in_ok-sort.ensures.permutation c.in_ok-push_entries-2.ensures.sound;
  complete = λ place line at some.
      let x = complete_both (λ (e : Entry). e.line) c.args.source.now c.args.lines.now _
      (complete_kept (λ (e : Entry). e.line) c.args.source.now Header c.args.lines.now _ _ (length c.args.lines.now) c.in_ok-push_entries-2.ensures.kept c.in_ok-push_entries.ensures.complete)
      c.in_ok-push_entries-2.ensures.complete place line at some in
      (x.0, Contains-permutation _ _ x.0 c.in_ok-sort.ensures.permutation x.1, x.2);
}
