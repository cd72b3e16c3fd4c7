use Rattle.std.proofs.Common.{◌+◌, ◌<◌, arith, sym, subst, length}
use Rattle.cop_bus.specs.Ranks.{AreLedBut, IsTournament}
use Rattle.cop_bus.proofs.RankLemmas.{changed-led, keyed-set}
use Rattle.cop_bus.proofs.ranking.Ranking.set.Goals as goal

pub settle-requires-clause-led : goal.settle-requires-clause-led
settle-requires-clause-led c =
    let low : c.args.place < length c.self.inside.ranks.items = subst (λ ranks. c.args.place < length ranks) (sym c.self.view_is) c.requires.within in
    let count = c.self.invariant.keyed.many in
    subst (λ keys. AreLedBut keys c.self.inside.leaders.items (length keys + c.args.place)) (sym c.deref.ensures.value)
    (changed-led c.self.inside.keys.items c.self.inside.leaders.items c.args.place c.key_of.result c.self.invariant.tournament (omega (arith, low, count)))

pub invariant_of-self : goal.invariant_of-self
invariant_of-self c = record {
  keyed = keyed-set c.self.inside.ranks.items c.self.inside.keys.items c.args.place c.args.rank c.key_of.result c.self.invariant.keyed
      (subst (λ ranks. c.args.place < length ranks) (sym c.self.view_is) c.requires.within) c.requires.own c.key_of.ensures;
  tournament = subst (IsTournament c.settle.new.leaders.items) c.deref.ensures.value (record { nodes = c.settle.ensures.nodes; led = c.settle.ensures.led });
}
