-- What the judge knows of the SYNCs of a trace, step by step.
use Rattle.std.proofs.Common.{◌≡◌, ◌∙◌, ℕ, zero, suc, ◌+◌, ◌≤◌, ◌<◌, List, [], ◌∷◌, length, Option, Some, None, refl, sym, ap, arith, Bool, true, false, cond}
use Rattle.std.specs.Prelude.{All, IfSome, get_or, ◌==◌, if◌then◌else◌}
use Rattle.std.proofs.lemmas.List.{get_or_default}
use Rattle.std.proofs.lemmas.List.Elements.{recursion_from_All}
use Rattle.std.specs.BTreeMap.{get}
use Rattle.std.specs.Ordering.{nat_cmp}
use Rattle.cop_rta.specs.declared.streams.Stream.{Stream}
use Rattle.cop_rta.specs.Test.{sync_id}
use Rattle.cop_bus.specs.declared.ends.Syncs.{Syncs}
use Rattle.cop_bus.specs.declared.judging.Tables.{Tables}
use Rattle.cop_bus.specs.declared.steps.Step.{Step}
use Rattle.cop_bus.specs.declared.steps.Content.{Content}
use Rattle.cop_bus.specs.declared.steps.Step.TheVariants.{Queue, Start, End}
use Rattle.cop_bus.specs.Trace.{is_queue, is_start, count_to, nth_that, moment_of, step_at, running, after}
use Rattle.cop_bus.specs.Ends.{is_end, event_in, ended_by, sync_number, anchor_if, or_next, sync_below, runs_of}
use Rattle.cop_bus.specs.Judge.{id_of, stream_of, last_event, is_period_later, broken_by, fits_transfer, has_one_to_send, any_waits}
use Rattle.cop_bus.specs.Tables.{AreSyncs, AreAnchors, AreTables}
use Rattle.cop_bus.proofs.Demand.{and-right}
use Rattle.cop_bus.proofs.Work.{eq-true}
use Rattle.cop_bus.proofs.StepLemmas.{count_to-suc, count_to-zero, nth_that-at, nth_that-some, queue_shape}
use Rattle.cop_bus.proofs.Balanced.{Balance, balance_none, balance_step}
use Rattle.cop_bus.proofs.AnchorLemmas.{ended}
use Rattle.cop_bus.proofs.Totals.{Each-map}
use Rattle.cop_bus.proofs.Found.{at-found}
use Rattle.cop_bus.proofs.Verdict.{keeps, soon-some}
use Rattle.cop_bus.proofs.Accepts.{fits-start, fits-end}

pub syncs-start : (tau : ℕ) (steps : List Step) (syncs : Syncs) → syncs.number ≡ 0 → ((event : ℕ) → get nat_cmp syncs.anchors event ≡ None) → AreSyncs tau steps 0 syncs
syncs-start tau steps syncs n e =
    let z = count_to-zero (is_end sync_id) steps in
    record {
      number = n ∙ sym z;
      anchors = λ event. e event ∙ sym (ap (sync_below steps event) z);
      sent = λ r. absurd (omega (arith, r));
      balanced = balance_none tau steps sync_id;
    }

pub count_to-upto : (p : Step → Bool) (xs : List Step) (i : ℕ) → count_to p xs i ≤ i
count_to-upto p [] i = omega arith
count_to-upto p (x ∷ xs) zero = omega arith
count_to-upto p (x ∷ xs) (suc i) = go (p x) (count_to-upto p xs i)
  where
    go : (b : Bool) → count_to p xs i ≤ i → (if b then 1 else 0) + count_to p xs i ≤ suc i
    go true h = omega arith
    go false h = omega arith

same-count : (p : Step → Bool) (steps : List Step) (i : ℕ) (v : Bool) → i < length steps → p (step_at steps i) ≡ v → count_to p steps (suc i) ≡ count_to p steps i + cond v 1 0
same-count p steps i v l e = count_to-suc p steps i l ∙ ap (λ b. count_to p steps i + cond b 1 0) e

-- a step that breaks no rule
module _ (tau : ℕ) (streams : List Stream) (until : ℕ) (steps : List Step) (i : ℕ) (inside : i < length steps) (fine : broken_by tau streams until steps i (step_at steps i) ≡ None) (old : Syncs) (are : AreSyncs tau steps i old) where
  fits : fits_transfer (running tau steps i) (step_at steps i) ≡ true
  fits = (keeps tau streams until steps i (step_at steps i) fine).transfer

  free : (at k : ℕ) → step_at steps i ≡ Start k at → running tau steps i ≡ None
  free at k e = fits-start at k (running tau steps i) (sym (ap (fits_transfer (running tau steps i)) e) ∙ fits)

  due : (at k : ℕ) → step_at steps i ≡ End k at → running tau steps i ≡ Some (k, at)
  due at k e = fits-end at k (running tau steps i) (sym (ap (fits_transfer (running tau steps i)) e) ∙ fits)

  balanced : Balance tau steps sync_id (suc i)
  balanced = balance_step tau steps sync_id i inside free due are.balanced

  -- what is neither a start nor an end of SYNC leaves them
  same : (new : Syncs) → new.number ≡ old.number → new.anchors ≡ old.anchors → is_end sync_id (step_at steps i) ≡ false →
      (runs_of sync_id (running tau steps (suc i)) ≡ 1 → event_in (nth_that (is_queue sync_id) new.number steps) ≡ Some new.sent) → AreSyncs tau steps (suc i) new
  same new n a e sent =
      let c = same-count (is_end sync_id) steps i false inside e in
      let m : count_to (is_end sync_id) steps (suc i) ≡ count_to (is_end sync_id) steps i = omega (arith, c) in
      record {
        number = n ∙ are.number ∙ sym m;
        anchors = λ event. ap (λ t. get nat_cmp t event) a ∙ are.anchors event ∙ sym (ap (sync_below steps event) m);
        sent = sent;
        balanced = balanced;
      }

  pub syncs-queue : (at event id : ℕ) (frame : Content) → step_at steps i ≡ Queue id at event frame → AreSyncs tau steps (suc i) old
  syncs-queue at event id frame e = same old refl refl (ap (is_end sync_id) e) (λ r. are.sent (sym (ap (λ x. runs_of sync_id (after tau steps i x (running tau steps i))) e) ∙ r))

  pub syncs-start_other : (at id : ℕ) → step_at steps i ≡ Start id at → (id == sync_id) ≡ false → AreSyncs tau steps (suc i) old
  syncs-start_other at id e f = same old refl refl (ap (is_end sync_id) e)
      (λ r. absurd (let n : runs_of sync_id (running tau steps (suc i)) ≡ 0 = ap (λ x. runs_of sync_id (after tau steps i x (running tau steps i))) e ∙ ap (λ b. cond {A = ℕ} b 1 0) f in omega (arith, n, r)))

  pub syncs-end_other : (at id : ℕ) → step_at steps i ≡ End id at → (id == sync_id) ≡ false → AreSyncs tau steps (suc i) old
  syncs-end_other at id e f = same old refl refl (ap (is_end sync_id) e ∙ f)
      (λ r. absurd (let n : runs_of sync_id (running tau steps (suc i)) ≡ 0 = ap (λ x. runs_of sync_id (after tau steps i x (running tau steps i))) e in omega (arith, n, r)))

  -- a SYNC that is sent has an event
  pub sent-event : (at : ℕ) → step_at steps i ≡ Start sync_id at → (event : ℕ) × (event_in (nth_that (is_queue sync_id) (count_to (is_start sync_id) steps i) steps) ≡ Some event)
  sent-event at e =
      let k = (keeps tau streams until steps i (step_at steps i) fine).to_send in
      let b = sym (ap (has_one_to_send tau streams steps i) e) ∙ k in
      let s = soon-some tau at (nth_that (is_queue sync_id) (count_to (is_start sync_id) steps i) steps) (and-right (any_waits steps i streams) _ b) in
      let n = nth_that-some (is_queue sync_id) (count_to (is_start sync_id) steps i) steps s.0 s.1 in
      let q = queue_shape sync_id s.0 n.3 in
      (q.1, ap event_in (s.1 ∙ ap Some q.3))

  pub syncs-sent : (at : ℕ) (new : Syncs) → step_at steps i ≡ Start sync_id at → new.number ≡ old.number → new.anchors ≡ old.anchors →
      ((event : ℕ) → event_in (nth_that (is_queue sync_id) (count_to (is_start sync_id) steps i) steps) ≡ Some event → new.sent ≡ event) → AreSyncs tau steps (suc i) new
  syncs-sent at new e n a s =
      let w = sent-event at e in
      let r : runs_of sync_id (running tau steps i) ≡ 0 = ap (runs_of sync_id) (free at sync_id e) in
      let b = are.balanced in
      let c : count_to (is_start sync_id) steps i ≡ new.number = omega (arith, b, r, n, are.number) in
      same new n a (ap (is_end sync_id) e) (λ x. sym (ap (λ n. event_in (nth_that (is_queue sync_id) n steps)) c) ∙ w.1 ∙ sym (ap Some (s w.0 w.1)))

  -- one that ends is the one that was sent last
  pub syncs-end : (at : ℕ) (new : Syncs) → step_at steps i ≡ End sync_id at → new.number ≡ old.number + 1 →
      ((event : ℕ) → get nat_cmp new.anchors event ≡ or_next (get nat_cmp old.anchors event) (anchor_if event old.number (Some (ended old.sent at)))) → AreSyncs tau steps (suc i) new
  syncs-end at new e n a =
      let is : is_end sync_id (step_at steps i) ≡ true = ap (is_end sync_id) e ∙ eq-true sync_id sync_id refl in
      let c = same-count (is_end sync_id) steps i true inside is in
      let m : count_to (is_end sync_id) steps (suc i) ≡ suc old.number = omega (arith, c, are.number) in
      let runs : runs_of sync_id (running tau steps i) ≡ 1 = ap (runs_of sync_id) (due at sync_id e) ∙ ap (λ b. cond {A = ℕ} b 1 0) (eq-true sync_id sync_id refl) in
      let here : nth_that (is_end sync_id) old.number steps ≡ Some (End sync_id at) = ap (λ n. nth_that (is_end sync_id) n steps) are.number ∙ nth_that-at (is_end sync_id) steps i inside is ∙ ap Some e in
      let y : sync_number steps old.number ≡ Some (ended old.sent at) =
      ap (λ o. ended_by o (moment_of (nth_that (is_end sync_id) old.number steps))) (are.sent runs) ∙ ap (λ o. ended_by (Some old.sent) (moment_of o)) here in
      let stop : runs_of sync_id (running tau steps (suc i)) ≡ 0 = ap (λ x. runs_of sync_id (after tau steps i x (running tau steps i))) e in
      record {
        number = omega (arith, n, m);
        anchors = λ event. a event ∙ ap (λ y. or_next (get nat_cmp old.anchors event) (anchor_if event old.number y)) (sym y)
            ∙ ap (λ o. or_next o (anchor_if event old.number (sync_number steps old.number))) (are.anchors event ∙ ap (sync_below steps event) (sym are.number))
            ∙ sym (ap (sync_below steps event) m);
        sent = λ r. absurd (omega (arith, stop, r));
        balanced = balanced;
      }

-- so the anchors of the stream that is found are known
pub anchors-known : (tau : ℕ) (streams : List Stream) (steps : List Step) (i id : ℕ) (syncs : Syncs) → All (λ k. 1 ≤ k.every → AreSyncs tau steps i syncs) streams → (o : Option Stream) → stream_of streams id ≡ o → IfSome o (λ k. AreAnchors k steps i syncs)
anchors-known tau streams steps i id syncs h None e = tt
anchors-known tau streams steps i id syncs h (Some k) e =
    at-found streams id k (λ k. AreAnchors k steps i syncs)
    (Each-map (λ k. 1 ≤ k.every → AreSyncs tau steps i syncs) (λ k. k.id ≡ id → AreAnchors k steps i syncs) streams (λ k f s l event. (f l).anchors event) (recursion_from_All (λ k. 1 ≤ k.every → AreSyncs tau steps i syncs) streams h)) e

-- what the tests of a step read: its stream, and the event before
module _ (tau : ℕ) (streams : List Stream) (steps : List Step) (i : ℕ) (x : Step) (tables : Tables) (id : ℕ) (o : Option Stream) (read : Option ℕ) (are : AreTables tau streams steps i tables) (id_is : id ≡ id_of x) (fits : id < 65536)
    (o_is : o ≡ stream_of streams id) (read_is : read ≡ get_or tables.last.items id read) where
  pub its_stream : o ≡ stream_of streams (id_of x)
  its_stream = o_is ∙ ap (stream_of streams) id_is

  pub its_anchors : IfSome o (λ k. AreAnchors k steps i tables.syncs)
  its_anchors = anchors-known tau streams steps i id tables.syncs are.syncs o (sym o_is)

  pub its_last : read ≡ last_event (id_of x) steps i
  its_last = read_is ∙ get_or_default tables.last.items id read None (let n = are.last.ids in omega (arith, n, fits)) ∙ are.last.events id fits ∙ ap (λ k. last_event k steps i) id_is

  pub its_period : is_period_later o read steps i x ≡ is_period_later (stream_of streams (id_of x)) (last_event (id_of x) steps i) steps i x
  its_period = ap (λ o. is_period_later o read steps i x) its_stream ∙ ap (λ e. is_period_later (stream_of streams (id_of x)) e steps i x) its_last
