-- A trace before its first step, and at its end.
use Rattle.std.proofs.Common.{◌≡◌, ℕ, ◌+◌, ◌≤◌, ◌<◌, ◌⊎◌, inl, inr, List, [], ◌++◌, length, drop, refl, sym, ◌∙◌, ap, subst, arith, suc, zero, true, false, nat_lt}
use Rattle.std.specs.Prelude.{Option, None, Some, slice_index_or}
use Rattle.std.specs.BTreeSet.{BTreeSet, contains}
use Rattle.std.specs.Ordering.{nat_cmp}
use Rattle.cop_rta.specs.declared.streams.Stream.{Stream}
use Rattle.cop_bus.specs.declared.steps.Step.{Step}
use Rattle.cop_bus.specs.Trace.{step_at, running}
use Rattle.cop_bus.specs.Judge.{is_not_idle, broken_by, broken_at_end, at_step, first_broken_from, first_broken, is_unfinished}
use Rattle.cop_bus.specs.Growing.{KeepTheRules}
use Rattle.cop_rta.specs.Test.{sync_id}
use Rattle.cop_bus.specs.Ends.{is_end, sync_below}
use Rattle.cop_bus.proofs.StepLemmas.{count_to-zero}
use Rattle.cop_bus.proofs.Work.{lt-true, lt-false}
use Rattle.cop_bus.proofs.Verdict.{drop-at, drop-all}
use Rattle.cop_bus.proofs.Found.{pass}
use Rattle.cop_bus.proofs.Grows.{none-broken-more, no-more}
use Rattle.cop_watch.specs.declared.bus.Bus.{Bus}
use Rattle.cop_watch.specs.declared.bus.Bus.TheVariants.{Idle, Sending}
use Rattle.cop_watch.specs.declared.syncs.Syncs.{Syncs}
use Rattle.cop_watch.specs.Syncs.{IsNewest, AreNone}
use Rattle.cop_watch.specs.Rings.{ring_of}
use Rattle.cop_watch.specs.Knowing.{IsHeld, AreUnended, Awaits, runs_of}
use Rattle.cop_watch.specs.Watching.{Knows}
use Rattle.cop_watch.proofs.Further.{runs-idle, idle-is}
use Rattle.cop_watch.proofs.Taken.{none-waiting, some-waiting}
use Rattle.cop_watch.proofs.BrokenLemmas.{on, stop, not-idle, first-at-end}

-- a trace of which each step keeps the rules, and the end too
first-none : (tau : ℕ) (streams : List Stream) (until : ℕ) (steps : List Step) → ((i : ℕ) → i < length steps → broken_by tau streams until steps i (step_at steps i) ≡ None) →
    broken_at_end tau streams until steps ≡ None → first_broken tau streams until steps ≡ None
first-none tau streams until steps fine end = go (length steps) 0 (omega arith)
  where
    go : (n i : ℕ) → i + n ≡ length steps → first_broken_from tau streams until steps i (drop i steps) ≡ None
    go zero i e =
        let q : i ≡ length steps = omega arith in
        subst (λ m. first_broken_from tau streams until steps m (drop m steps) ≡ None) (sym q)
        (ap (first_broken_from tau streams until steps (length steps)) (drop-all steps) ∙ ap (λ o. at_step (length steps) o None) end)
    go (suc n) i e =
        let l : i < length steps = omega arith in
        ap (first_broken_from tau streams until steps i) (drop-at steps i l)
        ∙ ap (λ o. at_step i o (first_broken_from tau streams until steps (suc i) (drop (suc i) steps))) (fine i l)
        ∙ go n (suc i) (omega arith)

module _ (tau : ℕ) (streams : List Stream) (steps : List Step) (bus : Bus) (now rank : ℕ) (last : List (Option ℕ)) (marks : List ℕ) (syncs : Syncs) (events : List ℕ) (rings : List (List ℕ)) (waiting : BTreeSet ℕ) (count : ℕ)
    (h : Knows tau streams steps bus now rank last marks syncs events rings waiting count) (until : ℕ) (le : now ≤ until) where
  by-end : KeepTheRules tau streams now steps [] → (i : ℕ) → i < length steps → broken_by tau streams until steps i (step_at steps i) ≡ None
  by-end fine i l =
      subst (λ (xs : List Step). broken_by tau streams until xs i (step_at steps i) ≡ None) (no-more steps)
      (none-broken-more tau streams now until steps [] le (λ j m. subst (λ (xs : List Step). broken_by tau streams now xs j (step_at steps j) ≡ None) (no-more steps) (fine j m)) i l)

  at-the-end : (r : Option (ℕ × ℕ)) → running tau (steps ++ []) (length steps) ≡ r → is_unfinished until r ≡ true → is_not_idle streams steps (length steps) r until ≡ true → broken_at_end tau streams until steps ≡ None
  at-the-end r runs unfinished idle =
      let e : running tau steps (length steps) ≡ r = subst (λ (xs : List Step). running tau xs (length steps) ≡ r) (no-more steps) runs in
      pass (is_unfinished until (running tau steps (length steps))) 65 _ (ap (is_unfinished until) e ∙ unfinished)
      (pass (is_not_idle streams steps (length steps) (running tau steps (length steps)) until) 68 None (ap (λ o. is_not_idle streams steps (length steps) o until) e ∙ idle) refl)

  pub over-idle : bus ≡ Idle → (until ≤ now) ⊎ ((k : ℕ) → contains nat_cmp waiting k ≡ false) → first_broken tau streams until steps ≡ None
  over-idle e o =
      let a = subst (λ b. Awaits tau b []) (sym e) refl in
      first-none tau streams until steps (by-end (h.fine [] a)) (at-the-end None (h.runs [] a ∙ ap (λ b. runs_of tau b []) e) refl
      (elim o [
        | inl by ↦ idle-is streams steps now rank until h.last_is (inl by)
        | inr none ↦ idle-is streams steps now rank until h.last_is (inr (none-waiting tau streams steps bus now rank last marks syncs events rings waiting count h none))
      ]))

  pub over-sending : (id end : ℕ) → bus ≡ Sending id end → until < end → first_broken tau streams until steps ≡ None
  over-sending id end e l =
      let a = subst (λ b. Awaits tau b []) (sym e) refl in
      first-none tau streams until steps (by-end (h.fine [] a)) (at-the-end (Some (id, end)) (h.runs [] a ∙ ap (λ b. runs_of tau b []) e) (lt-true until end l)
      (runs-idle streams steps (length steps) until (id, end)))

  -- the end is missing, or the bus idle
  pub breaks-end-idle : bus ≡ Idle → 0 < length steps → now < until → (one : ℕ) → contains nat_cmp waiting one ≡ true → first_broken tau streams until steps ≡ Some (suc (length steps), 68)
  breaks-end-idle e some late one waits =
      let a = subst (λ b. Awaits tau b []) (sym e) refl in
      let runs : running tau steps (length steps) ≡ None = subst (λ (xs : List Step). running tau xs (length steps) ≡ None) (no-more steps) (h.runs [] a ∙ ap (λ b. runs_of tau b []) e) in
      first-at-end tau streams until steps 68 (by-end (h.fine [] a))
      (on (is_unfinished until (running tau steps (length steps))) 65 _ (ap (is_unfinished until) runs)
      ∙ stop (is_not_idle streams steps (length steps) (running tau steps (length steps)) until) 68 None
      (ap (λ o. is_not_idle streams steps (length steps) o until) runs ∙ not-idle streams steps now rank until h.last_is some late (some-waiting tau streams steps bus now rank last marks syncs events rings waiting count h one waits)))

  pub breaks-end-sending : (id end : ℕ) → bus ≡ Sending id end → end ≤ until → first_broken tau streams until steps ≡ Some (suc (length steps), 65)
  breaks-end-sending id end e l =
      let a = subst (λ b. Awaits tau b []) (sym e) refl in
      let runs : running tau steps (length steps) ≡ Some (id, end) = subst (λ (xs : List Step). running tau xs (length steps) ≡ Some (id, end)) (no-more steps) (h.runs [] a ∙ ap (λ b. runs_of tau b []) e) in
      first-at-end tau streams until steps 65 (by-end (h.fine [] a)) (stop (is_unfinished until (running tau steps (length steps))) 65 _ (ap (is_unfinished until) runs ∙ lt-false until end l))

-- the same where the steps were counted
pub counted-as : (o : Option (ℕ × ℕ)) (n m rule : ℕ) → o ≡ Some (suc n, rule) → m ≡ n → o ≡ Some (m + 1, rule)
counted-as o n m rule e same = (let next : suc n ≡ m + 1 = omega (arith, same) in e ∙ ap (λ (k : ℕ). Some (k, rule)) next)

-- before the first step
pub at-first : (tau : ℕ) (streams : List Stream) (last : List (Option ℕ)) (marks : List ℕ) (syncs : Syncs) (events : List ℕ) (rings : List (List ℕ)) (waiting : BTreeSet ℕ) → 1 ≤ tau → AreNone syncs → events ≡ [] →
    ((id : ℕ) → slice_index_or last id None ≡ None) → ((id : ℕ) → ring_of rings id ≡ []) → ((id : ℕ) → contains nat_cmp waiting id ≡ false) → Knows tau streams [] Idle 0 0 last marks syncs events rings waiting 0
at-first tau streams last marks syncs events rings waiting tick no_sync no_event lasts none listed = record {
  tick = tick;
  last_is = λ i e. absurd (omega (arith, e));
  fine = λ ahead a i l. absurd (omega (arith, l));
  runs = λ ahead a. refl;
  none_ahead = λ id f. omega arith;
  one_ahead = λ id t. absurd (cc);
  lasts = lasts;
  unended = subst (AreUnended []) (sym no_event) (record { count = refl; each = λ j l. absurd (omega (arith, l)) });
  hangs = λ ahead a. record { newest = subst (λ n. IsNewest n ahead 0) (sym no_sync.newest) (count_to-zero (is_end sync_id) ahead); recent = λ s on. absurd (no_sync.recent s on); none = λ v no. ap (sync_below ahead v) (count_to-zero (is_end sync_id) ahead) };
  marked = λ ahead a id k its synced v e. absurd (cc);
  held = λ id. subst (IsHeld [] 0 id) (sym (none id)) (record { count = refl; each = λ j l. absurd (omega (arith, l)) });
  listed = λ id. listed id ∙ ap (λ (xs : List ℕ). nat_lt 0 (length xs)) (sym (none id));
  known = λ id l. absurd (omega (arith, l));
  count = refl;
}
