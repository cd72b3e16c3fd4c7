use Rattle.std.proofs.Common.{◌≡◌, ◌∙◌, ap, sym, refl, true, false}
use Rattle.std.proofs.lemmas.List.{get_or_default}
use Rattle.cop_sim.specs.Syncs.{is_awaited}
use Rattle.cop_sim.proofs.TurnLemmas.{set-same}
use Rattle.cop_sim.proofs.turns.ask_waiting_at.Goals as goal

pub returns-else-is_awaited-clause-asked : goal.returns-else-is_awaited-clause-asked
returns-else-is_awaited-clause-asked g c b e =
    let number = c.index-number.ensures ∙ get_or_default c.args.stage.now.queued.items c.args.place c.index-number.result.now 0 c.requires.queued in (
      b,
      set-same c.args.behaviours.now.items c.args.place b e,
      record {
        asked = λ t. (let z : true ≡ false = sym t ∙ ap (is_awaited c.args.stage.now.syncs c.args.stream.now) (sym number) ∙ sym c.is_awaited.ensures ∙ c.if-is_awaited.false in absurd (cc));
        other = λ f. (refl, refl);
      },
    )
