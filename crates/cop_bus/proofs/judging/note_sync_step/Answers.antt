use Rattle.std.proofs.Common.{◌∙◌, ap, suc}
use Rattle.std.specs.Prelude.{Result, Ok, Err, OnOk}
use Rattle.std.proofs.lemmas.Bool.{ne_eqb}
use Rattle.cop_rta.specs.Test.{sync_id}
use Rattle.cop_bus.specs.declared.steps.Step.TheVariants.{Start, End}
use Rattle.cop_bus.specs.Ends.{event_in}
use Rattle.cop_bus.specs.Tables.{AreSyncs}
use Rattle.cop_bus.proofs.SyncTable.{syncs-queue, syncs-sent, syncs-start_other, syncs-end, syncs-end_other}
use Rattle.cop_bus.proofs.judging.note_sync_step.Goals as goal

-- where both are known of an answer that is no error
ended_well : {E : Type 0} (R : Type 0) (o : Result Unit E) (N A : Type 0) → OnOk o N → OnOk o A → (N → A → R) → OnOk o R
ended_well R (Ok x) N A n a h = h n a
ended_well R (Err x) N A n a h = tt

pub returns-in-Queue : goal.returns-in-Queue
returns-in-Queue c tau streams until fine are =
    syncs-queue tau streams until c.args.steps.now c.args.i c.requires.i fine c.args.syncs.now are c.in-Queue.at c.in-Queue.event c.in-Queue.id c.in-Queue.frame c.in-Queue.is

pub returns-then-id-eq-SYNC : goal.returns-then-id-eq-SYNC
returns-then-id-eq-SYNC c tau streams until fine are = let h = c.if-id-eq-SYNC.true in let g = c.unsent_of.ensures c.args.i c.requires.unsent in
    syncs-sent tau streams until c.args.steps.now c.args.i c.requires.i fine c.args.syncs.now are c.in-Start.at c.send.new.self (c.in-Start.is ∙ ap (λ n. Start n c.in-Start.at) h) c.send.ensures.rest.1 c.send.ensures.rest.0
    (λ event e. c.send.ensures.sent event (ap event_in g ∙ e))

pub returns-else-id-eq-SYNC : goal.returns-else-id-eq-SYNC
returns-else-id-eq-SYNC c tau streams until fine are =
    syncs-start_other tau streams until c.args.steps.now c.args.i c.requires.i fine c.args.syncs.now are c.in-Start.at c.in-Start.id c.in-Start.is (ne_eqb c.in-Start.id sync_id c.if-id-eq-SYNC.false)

pub returns-then-id-eq-SYNC-2 : goal.returns-then-id-eq-SYNC-2
returns-then-id-eq-SYNC-2 c tau streams until fine are =
    ended_well (AreSyncs tau c.args.steps.now (suc c.args.i) c.end.new.self) c.end.result _ _ c.end.ensures.number c.end.ensures.anchors
    (λ n a. syncs-end tau streams until c.args.steps.now c.args.i c.requires.i fine c.args.syncs.now are c.in-End.at c.end.new.self (c.in-End.is ∙ ap (λ n. End n c.in-End.at) c.if-id-eq-SYNC-2.true) n a)

pub returns-else-id-eq-SYNC-2 : goal.returns-else-id-eq-SYNC-2
returns-else-id-eq-SYNC-2 c tau streams until fine are =
    syncs-end_other tau streams until c.args.steps.now c.args.i c.requires.i fine c.args.syncs.now are c.in-End.at c.in-End.id c.in-End.is (ne_eqb c.in-End.id sync_id c.if-id-eq-SYNC-2.false)
