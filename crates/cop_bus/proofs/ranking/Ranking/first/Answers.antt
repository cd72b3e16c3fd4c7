use Rattle.std.proofs.Common.{◌≡◌, ◌<◌, ◌∙◌, ap, arith, get_or, length, sym, subst}
use Rattle.std.specs.Prelude.{None, slice_index}
use Rattle.std.proofs.lemmas.Bool.{ltb-true}
use Rattle.std.proofs.lemmas.List.{get_or_read}
use Rattle.cop_bus.specs.Ranks.{IsFirstOf, rank_at}
use Rattle.cop_bus.proofs.RankLemmas.{root-first}
use Rattle.cop_bus.proofs.ranking.Ranking.first.Goals as goal

pub returns : goal.returns
returns c =
    let ranks = c.self.inside.ranks.items in
    let leaders = c.self.inside.leaders.items in
    let first = c.in_ok-first.first.now in
    let nodes = c.self.invariant.tournament.nodes in
    let many = nodes.many in
    let count = c.self.invariant.keyed.many in
    let look = c.in_ok-first.ensures.lookup in
    let two : 1 < length leaders = subst (λ xs. 1 < length xs) c.deref.ensures.value (ltb-true 1 (length c.deref.result.now) (sym look.0)) in
    let root : first ≡ slice_index leaders 1 = get_or_read leaders 1 first two (subst (λ xs. first ≡ get_or xs 1 first) c.deref.ensures.value look.1) 0 in
    let low = nodes.within 1 (omega arith) (omega (arith, many, two)) in
    let read : c.index.result.now ≡ rank_at ranks first = get_or_read ranks first c.index.result.now (omega (arith, root, low, count)) c.index.ensures None in
    subst (λ xs. IsFirstOf xs c.index.result.now) c.self.view_is
    (subst (IsFirstOf ranks) (sym (read ∙ ap (rank_at ranks) root)) (root-first ranks c.self.inside.keys.items leaders c.self.invariant (omega (arith, many, two, count))))
