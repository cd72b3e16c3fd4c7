use Rattle.std.proofs.Common.{◌≡◌, ℕ, suc, ◌+◌, ◌<◌, List, [], ◌∷◌, ◌++◌, Option, None, Some, length, slice_index, drop, refl, sym, ap, ◌∙◌, subst, arith, append_assoc}
use Rattle.std.specs.List.{filter_map, cons_option}
use Rattle.cop_bus.specs.declared.steps.Step.{Step}
use Rattle.cop_bus.specs.declared.steps.Step.TheVariants.{Queue, Start, End}
use Rattle.cop_bus.specs.declared.transfers.Transfer.{Transfer}
use Rattle.cop_bus.specs.Trace.{step_at, instances_from}
use Rattle.cop_bus.specs.Late.{IsSent, start_at}
use Rattle.cop_bus.specs.Transfers.{transfer_from, transfer_of, transfer_at, transfers_of}
use Rattle.cop_bus.proofs.StepLemmas.{is_queue-of}
use Rattle.cop_bus.proofs.Verdict.{drop-at}
use Rattle.cop_bus.proofs.transfers.transfers_in.Goals as goal
use Rattle.cop_bus.proofs.transfers.transfers_in.Goals.{in-Some+in_ok-push, in_default}

-- the transfers of the steps from a place on
abbrev rest_of : ℕ → ℕ → List Step → ℕ → List Transfer
rest_of tau until steps i = filter_map (transfer_of tau until) (instances_from steps i (drop i steps))

-- a step's own comes first
step-first : (tau until : ℕ) (steps : List Step) (links : List ℕ) (i : ℕ) → IsSent steps links → i < length steps
    → rest_of tau until steps i ≡ cons_option (transfer_at tau until (step_at steps i) (start_at steps (slice_index links i))) (rest_of tau until steps (suc i))
step-first tau until steps links i h low =
    ap (λ xs. filter_map (transfer_of tau until) (instances_from steps i xs)) (drop-at steps i low) ∙ go (step_at steps i) refl
  where
    go : (x : Step) → step_at steps i ≡ x
        → filter_map (transfer_of tau until) (instances_from steps i (x ∷ drop (suc i) steps)) ≡ cons_option (transfer_at tau until x (start_at steps (slice_index links i))) (filter_map (transfer_of tau until) (instances_from steps (suc i) (drop (suc i) steps)))
    go (Start id at) s = refl
    go (End id at) s = refl
    go (Queue id at event frame) s =
        ap (λ o. cons_option (transfer_from tau until id at frame.bits o) (filter_map (transfer_of tau until) (instances_from steps (suc i) (drop (suc i) steps))))
        (sym (h.moments i id low (is_queue-of id (step_at steps i) at event frame s)))

-- what is taken stays before what is left
taken : (xs : List Transfer) (o : Option Transfer) (t : Transfer) (rest left all : List Transfer) → o ≡ Some t → left ≡ cons_option o rest → xs ++ left ≡ all → (xs ++ t ∷ []) ++ rest ≡ all
taken xs o t rest left all some first whole = append_assoc xs (t ∷ []) rest ∙ ap (λ p. xs ++ cons_option p rest) (sym some) ∙ ap (λ ys. xs ++ ys) (sym first) ∙ whole

passed : (xs : List Transfer) (o : Option Transfer) (rest left all : List Transfer) → o ≡ None → left ≡ cons_option o rest → xs ++ left ≡ all → xs ++ rest ≡ all
passed xs o rest left all none first whole = ap (λ p. xs ++ cons_option p rest) (sym none) ∙ ap (λ ys. xs ++ ys) (sym first) ∙ whole

pub loop-i-preserved : goal.loop-i-preserved
loop-i-preserved c =
    let first = step-first c.args.ticks c.args.until c.args.steps.now c.args.links.now c.loop-i.i c.requires c.loop-i-test.true in
    let next : suc c.loop-i.i ≡ c.loop-i.i + 1 = omega arith in
    subst (λ k. c.match-transfer_at.transfers.items ++ rest_of c.args.ticks c.args.until c.args.steps.now k ≡ transfers_of c.args.ticks c.args.until c.args.steps.now) next (
    elim c.match-transfer_at.branch [
      | in-Some+in_ok-push w ↦ rw (w.transfers-is, w.in_ok-push.ensures.items)
          (taken c.loop-i.transfers.items c.transfer_at.result w.in-Some.transfer _ _ _ w.in-Some.is (first ∙ ap (λ o. cons_option o (rest_of c.args.ticks c.args.until c.args.steps.now (suc c.loop-i.i))) (sym (c.transfer_at.ensures ∙ ap (transfer_at c.args.ticks c.args.until (step_at c.args.steps.now c.loop-i.i)) c.start_at-start.ensures))) c.loop-i.invariant)
      | in_default w ↦ rw w.transfers-is
          (passed c.loop-i.transfers.items c.transfer_at.result _ _ _ w.in_default.is (first ∙ ap (λ o. cons_option o (rest_of c.args.ticks c.args.until c.args.steps.now (suc c.loop-i.i))) (sym (c.transfer_at.ensures ∙ ap (transfer_at c.args.ticks c.args.until (step_at c.args.steps.now c.loop-i.i)) c.start_at-start.ensures))) c.loop-i.invariant)
    ]
    )
