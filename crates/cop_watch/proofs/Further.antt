-- One step more.
use Rattle.std.proofs.Common.{◌≡◌, ℕ, ◌≤◌, ◌<◌, ◌⊎◌, inl, inr, List, [], ◌∷◌, ◌++◌, length, refl, sym, ◌∙◌, ap, subst, arith, suc, zero, Bool, true, false, not, ◌&&◌, ◌||◌, ◌==◌, nat_le, nat_lt, get_or}
use Rattle.std.specs.Prelude.{Option, None, Some, is_some}
use Rattle.std.proofs.lemmas.Bool.{cases_lt}
use Rattle.cop_rta.specs.declared.streams.Stream.{Stream}
use Rattle.cop_bus.specs.declared.steps.Step.{Step}
use Rattle.cop_bus.specs.declared.steps.Step.TheVariants.{Start, End}
use Rattle.cop_bus.specs.Trace.{is_queue, is_start, count_to, nth_that, step_at, running, after, at_of, rank_of}
use Rattle.cop_bus.specs.Judge.{id_of, stream_of, last_event, is_in_order, not_before, is_period_later, is_queued_in_time, is_of_length, fits_transfer, has_one_to_send, is_lowest, is_not_idle, broken_by, any_waits}
use Rattle.cop_bus.specs.Growing.{KeepTheRules}
use Rattle.cop_bus.proofs.Verdict.{Keeps}
use Rattle.cop_bus.proofs.Found.{pass, or-left, or-right}
use Rattle.cop_bus.proofs.Demand.{and-left, and-true}
use Rattle.cop_bus.proofs.Work.{le-true, true-lt, true-eq}
use Rattle.cop_bus.proofs.StepLemmas.{bool_cases, one-true, one-false}
use Rattle.cop_bus.proofs.Grows.{step_at-more, nth_that-more, none-broken-there, running-more, any_waits-more, no-more, nth_that-between}
use Rattle.cop_bus.proofs.Appended.{step_at-here, length-one, one-more, count_to-one}
use Rattle.cop_watch.specs.Rules.{is_after}
use Rattle.cop_watch.specs.Knowing.{IsNow}

-- each start of the steps finds with `more` behind them what it finds with `ahead` there
abbrev pub FindsTheSame : List Step → List Step → List Step → Type 0
FindsTheSame steps ahead more = (i at id : ℕ) → i < length steps → step_at steps i ≡ Start id at → (x : Step) →
    nth_that (is_queue id) (count_to (is_start id) steps i) (steps ++ ahead) ≡ Some x → nth_that (is_queue id) (count_to (is_start id) steps i) (steps ++ more) ≡ Some x

pub finds-more : (steps more : List Step) → FindsTheSame steps [] more
finds-more steps more i at id l e x h = nth_that-more (is_queue id) (count_to (is_start id) steps i) steps more x (subst (λ t. nth_that (is_queue id) (count_to (is_start id) steps i) t ≡ Some x) (no-more steps) h)

pub finds-between : (steps : List Step) (x y : Step) → ((id : ℕ) → (is_queue id x ≡ false) ⊎ (is_queue id y ≡ false)) → FindsTheSame steps (y ∷ []) (x ∷ y ∷ [])
finds-between steps x y apart i at id l e v h = nth_that-between (is_queue id) (count_to (is_start id) steps i) steps x y v (apart id) h

-- One step more keeps the rules, if it does itself and each start finds the same instance.
pub fine-one : (tau : ℕ) (streams : List Stream) (until later : ℕ) (steps ahead more : List Step) (x : Step) → until ≤ later →
    FindsTheSame steps ahead (x ∷ more) → KeepTheRules tau streams until steps ahead → broken_by tau streams later (steps ++ x ∷ more) (length steps) x ≡ None →
    KeepTheRules tau streams later (steps ++ x ∷ []) more
fine-one tau streams until later steps ahead more x le look fine last i l = elim (cases_lt i (length steps)) [
  | inl k ↦ (let h = none-broken-there tau streams until later steps ahead (x ∷ more) le look fine i k in
      subst (λ t. broken_by tau streams later t i (step_at (steps ++ x ∷ []) i) ≡ None) (sym (one-more steps x more))
      (ap (broken_by tau streams later (steps ++ x ∷ more) i) (step_at-more steps (x ∷ []) i k) ∙ h))
  | inr k ↦ (let e : i ≡ length steps = (let n = length-one steps x in omega arith) in
      subst (λ t. broken_by tau streams later t i (step_at (steps ++ x ∷ []) i) ≡ None) (sym (one-more steps x more))
      (subst (λ n. broken_by tau streams later (steps ++ x ∷ more) n (step_at (steps ++ x ∷ []) n) ≡ None) (sym e)
      (ap (broken_by tau streams later (steps ++ x ∷ more) (length steps)) (step_at-here steps x []) ∙ last)))
]

-- what runs is the same with one step more behind
pub running-kept : (tau : ℕ) (streams : List Stream) (until : ℕ) (steps ahead more : List Step) →
    FindsTheSame steps ahead more → KeepTheRules tau streams until steps ahead → running tau (steps ++ more) (length steps) ≡ running tau (steps ++ ahead) (length steps)
running-kept tau streams until steps ahead more look fine = running-more tau streams until until steps ahead more (omega arith) look fine (length steps) (omega arith)

pub running-one : (tau : ℕ) (streams : List Stream) (until : ℕ) (steps ahead more : List Step) (x : Step) →
    FindsTheSame steps ahead (x ∷ more) → KeepTheRules tau streams until steps ahead →
    running tau ((steps ++ x ∷ []) ++ more) (length (steps ++ x ∷ [])) ≡ after tau (steps ++ x ∷ more) (length steps) x (running tau (steps ++ ahead) (length steps))
running-one tau streams until steps ahead more x look fine =
    ap (λ t. running tau t (length (steps ++ x ∷ []))) (one-more steps x more)
    ∙ ap (running tau (steps ++ x ∷ more)) (length-one steps x)
    ∙ ap (λ y. after tau (steps ++ x ∷ more) (length steps) y (running tau (steps ++ x ∷ more) (length steps))) (step_at-here steps x more)
    ∙ ap (after tau (steps ++ x ∷ more) (length steps) x) (running-kept tau streams until steps ahead (x ∷ more) look fine)

-- a test that passes where each of a step's nine does
pub keeps-none : (tau : ℕ) (streams : List Stream) (until : ℕ) (steps : List Step) (i : ℕ) (x : Step) → Keeps tau streams until steps i x → broken_by tau streams until steps i x ≡ None
keeps-none tau streams until steps i x k =
    pass (is_in_order until steps i x) 60 _ k.order
    (pass (is_some (stream_of streams (id_of x))) 61 _ k.known
    (pass (is_period_later (stream_of streams (id_of x)) (last_event (id_of x) steps i) steps i x) 62 _ k.period
    (pass (is_queued_in_time (stream_of streams (id_of x)) steps i x) 63 _ k.in_time
    (pass (is_of_length (stream_of streams (id_of x)) x) 64 _ k.of_length
    (pass (fits_transfer (running tau steps i) x) 65 _ k.transfer
    (pass (has_one_to_send tau streams steps i x) 66 _ k.to_send
    (pass (is_lowest streams steps i x) 67 _ k.lowest
    (pass (is_not_idle streams steps i (running tau steps i) (at_of x)) 68 None k.not_idle refl))))))))

pub order-more : (until : ℕ) (steps more : List Step) (x : Step) → is_in_order until (steps ++ more) (length steps) x ≡ is_in_order until steps (length steps) x
order-more until steps more x = go (length steps) (omega arith)
  where
    go : (i : ℕ) → i ≤ length steps → is_in_order until (steps ++ more) i x ≡ is_in_order until steps i x
    go zero l = refl
    go (suc i) l = ap (λ y. nat_le (at_of x) until && not_before y x) (step_at-more steps more i (omega arith))

pub idle-more : (streams : List Stream) (steps more : List Step) (r : Option (ℕ × ℕ)) (moment : ℕ) → is_not_idle streams (steps ++ more) (length steps) r moment ≡ is_not_idle streams steps (length steps) r moment
idle-more streams steps more r moment = go (length steps) r (omega arith)
  where
    go : (i : ℕ) (r : Option (ℕ × ℕ)) → i ≤ length steps → is_not_idle streams (steps ++ more) i r moment ≡ is_not_idle streams steps i r moment
    go zero r l = refl
    go (suc i) (Some r) l = refl
    go (suc i) None l =
        ap (λ y. nat_le moment (at_of y) || not (any_waits (steps ++ more) (suc i) streams)) (step_at-more steps more i (omega arith))
        ∙ ap (λ b. nat_le moment (at_of (step_at steps i)) || not b) (any_waits-more steps more (suc i) streams l)

-- a start or an end owes nothing by rules 62 to 64
pub start-period : (o : Option Stream) (v : Option ℕ) (steps : List Step) (i at id : ℕ) → is_period_later o v steps i (Start id at) ≡ true
start-period (Some k) (Some b) steps i at id = refl
start-period (Some k) None steps i at id = refl
start-period None (Some b) steps i at id = refl
start-period None None steps i at id = refl

pub end-period : (o : Option Stream) (v : Option ℕ) (steps : List Step) (i at id : ℕ) → is_period_later o v steps i (End id at) ≡ true
end-period (Some k) (Some b) steps i at id = refl
end-period (Some k) None steps i at id = refl
end-period None (Some b) steps i at id = refl
end-period None None steps i at id = refl

pub start-time : (o : Option Stream) (steps : List Step) (i at id : ℕ) → is_queued_in_time o steps i (Start id at) ≡ true
start-time (Some k) steps i at id = refl
start-time None steps i at id = refl

pub end-time : (o : Option Stream) (steps : List Step) (i at id : ℕ) → is_queued_in_time o steps i (End id at) ≡ true
end-time (Some k) steps i at id = refl
end-time None steps i at id = refl

pub start-length : (o : Option Stream) (at id : ℕ) → is_of_length o (Start id at) ≡ true
start-length (Some k) at id = refl
start-length None at id = refl

pub end-length : (o : Option Stream) (at id : ℕ) → is_of_length o (End id at) ≡ true
end-length (Some k) at id = refl
end-length None at id = refl

pub runs-idle : (streams : List Stream) (steps : List Step) (i moment : ℕ) (r : ℕ × ℕ) → is_not_idle streams steps i (Some r) moment ≡ true
runs-idle streams steps zero moment r = refl
runs-idle streams steps (suc i) moment r = refl

-- how often steps of a kind come, with one more
pub count-kept : (p : Step → Bool) (steps : List Step) (x : Step) → p x ≡ false → count_to p (steps ++ x ∷ []) (length (steps ++ x ∷ [])) ≡ count_to p steps (length steps)
count-kept p steps x f = let c = count_to-one p steps x in let z = one-false (p x) f in omega (arith, c, z)

pub count-raised : (p : Step → Bool) (steps : List Step) (x : Step) → p x ≡ true → count_to p (steps ++ x ∷ []) (length (steps ++ x ∷ [])) ≡ suc (count_to p steps (length steps))
count-raised p steps x f = let c = count_to-one p steps x in let z = one-true (p x) f in omega (arith, c, z)

-- a step stands behind the last one
pub order-is : (later : ℕ) (steps : List Step) (x : Step) (at rank : ℕ) → IsNow steps at rank → is_after at rank (at_of x) (rank_of x) ≡ true → at_of x ≤ later → is_in_order later steps (length steps) x ≡ true
order-is later steps x at rank now test le = go (length steps) now
  where
    go : (n : ℕ) → ((i : ℕ) → suc i ≡ n → (at_of (step_at steps i) ≡ at) × (rank_of (step_at steps i) ≡ rank)) → is_in_order later steps n x ≡ true
    go zero h = le-true (at_of x) later le
    go (suc i) h =
        let e = h i refl in
        let behind : not_before (step_at steps i) x ≡ true = rw (e.0, e.1) test in
        and-true (nat_le (at_of x) later) (not_before (step_at steps i) x) (le-true (at_of x) later le) behind

pub after-le : (before rank_before at rank : ℕ) → is_after before rank_before at rank ≡ true → before ≤ at
after-le before rank_before at rank h = elim (bool_cases (nat_lt before at)) [
  | inl t ↦ (let l = true-lt before at t in omega (arith, l))
  | inr f ↦ (let both : ((before == at) && nat_le rank_before rank) ≡ true = sym (ap (λ b. b || ((before == at) && nat_le rank_before rank)) f) ∙ h in
      let e = true-eq before at (and-left (before == at) (nat_le rank_before rank) both) in omega (arith, e))
]

pub now-one : (steps : List Step) (x : Step) → IsNow (steps ++ x ∷ []) (at_of x) (rank_of x)
now-one steps x i e =
    let n = length-one steps x in
    let m : i ≡ length steps = omega (arith, n, e) in
    let here : step_at (steps ++ x ∷ []) i ≡ x = ap (step_at (steps ++ x ∷ [])) m ∙ step_at-here steps x [] in
    (ap at_of here, ap rank_of here)

-- the bus is not idle where it ought not to be
pub idle-is : (streams : List Stream) (steps : List Step) (now rank moment : ℕ) → IsNow steps now rank → (moment ≤ now) ⊎ (any_waits steps (length steps) streams ≡ false) → is_not_idle streams steps (length steps) None moment ≡ true
idle-is streams steps now rank moment last h = go (length steps) last h
  where
    go : (n : ℕ) → ((i : ℕ) → suc i ≡ n → (at_of (step_at steps i) ≡ now) × (rank_of (step_at steps i) ≡ rank)) → (moment ≤ now) ⊎ (any_waits steps n streams ≡ false) → is_not_idle streams steps n None moment ≡ true
    go zero l h = refl
    go (suc i) l (inl by) = or-left (nat_le moment (at_of (step_at steps i))) _ (let e = (l i refl).0 in le-true moment (at_of (step_at steps i)) (omega (arith, e, by)))
    go (suc i) l (inr none) = or-right (nat_le moment (at_of (step_at steps i))) _ (ap not none)

-- what stands at a place, whatever would stand in its stead
pub there : {X : Type 0} (xs : List X) (i : ℕ) (x d : X) → i < length xs → x ≡ get_or xs i x → x ≡ get_or xs i d
there [] i x d l e = absurd (omega (arith, l))
there (y ∷ ys) zero x d l e = e
there (y ∷ ys) (suc i) x d l e = there ys i x d (omega (arith, l)) e
