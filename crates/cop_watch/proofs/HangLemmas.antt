-- What the instances of synchronous streams hang on, with one step more.
use Rattle.std.proofs.Common.{◌≡◌, ℕ, ◌≤◌, List, [], ◌∷◌, ◌++◌, length, refl, sym, ◌∙◌, ap, subst, arith, suc, true, false, cond}
use Rattle.std.specs.Prelude.{Option, None, Some}
use Rattle.std.proofs.lemmas.Bool.{ne_eqb}
use Rattle.cop_rta.specs.declared.streams.Stream.{Stream}
use Rattle.cop_rta.specs.Test.{sync_id}
use Rattle.cop_bus.specs.declared.steps.Step.{Step}
use Rattle.cop_bus.specs.declared.steps.Content.{Content}
use Rattle.cop_bus.specs.declared.steps.Step.TheVariants.{Queue, End}
use Rattle.cop_bus.specs.declared.anchors.Anchor.{Anchor}
use Rattle.cop_bus.specs.Run.{gap_of}
use Rattle.cop_bus.specs.Trace.{is_queue, count_to, nth_that, moment_of}
use Rattle.cop_bus.specs.Ends.{is_end, event_in, ended_by, sync_number, anchor_if, or_next, sync_below, sync_anchor, anchor_of}
use Rattle.cop_bus.specs.Judge.{is_period_later, is_queued_in_time}
use Rattle.cop_bus.specs.Growing.{KeepTheRules}
use Rattle.cop_bus.proofs.Work.{eq-true}
use Rattle.cop_bus.proofs.StepLemmas.{nth_that-at}
use Rattle.cop_bus.proofs.Grows.{count_to-more, nth_that-more, below-more, no-more}
use Rattle.cop_bus.proofs.Appended.{step_at-here, length-one, one-more}
use Rattle.cop_bus.proofs.AnchorLemmas.{ended, anchor_synced, gap-synced, apart-true, time-true}
use Rattle.cop_watch.specs.declared.syncs.Syncs.{Syncs}
use Rattle.cop_watch.specs.declared.syncs.Newest.{Newest}
use Rattle.cop_watch.specs.declared.syncs.Newest.TheVariants.{Nothing, Sync}
use Rattle.cop_watch.specs.Syncs.{ObeysSync, IsSync, HangsOn, IsNewest, AreKnown, IsBehind}
use Rattle.cop_watch.proofs.SyncLemmas.{among}
use Rattle.cop_watch.proofs.UnendedLemmas.{event-some}
use Rattle.cop_watch.proofs.Further.{FindsTheSame, finds-more, count-kept, count-raised}

module _ (tau : ℕ) (streams : List Stream) (now later : ℕ) (steps ahead more : List Step) (x : Step) (le : now ≤ later) (look : FindsTheSame steps ahead (x ∷ more)) (fine : KeepTheRules tau streams now steps ahead) where
  abbrev so_many : ℕ
  so_many = count_to (is_end sync_id) steps (length steps)

  pub below-same : (e : ℕ) → sync_below (steps ++ x ∷ more) e so_many ≡ sync_below (steps ++ ahead) e so_many
  below-same e = below-more tau streams now later steps ahead (x ∷ more) le look fine (length steps) e so_many (omega arith) (omega arith)

  -- before the step
  pub anchor-here : (e : ℕ) → sync_anchor (steps ++ x ∷ more) (length steps) e ≡ sync_anchor (steps ++ ahead) (length steps) e
  anchor-here e =
      ap (sync_below (steps ++ x ∷ more) e) (count_to-more (is_end sync_id) steps (x ∷ more) (length steps) (omega arith)) ∙ below-same e
      ∙ sym (ap (sync_below (steps ++ ahead) e) (count_to-more (is_end sync_id) steps ahead (length steps) (omega arith)))

  -- and after one that ends no SYNC
  module _ (none : is_end sync_id x ≡ false) where
    pub count-after : count_to (is_end sync_id) ((steps ++ x ∷ []) ++ more) (length (steps ++ x ∷ [])) ≡ count_to (is_end sync_id) (steps ++ ahead) (length steps)
    count-after =
        count_to-more (is_end sync_id) (steps ++ x ∷ []) more (length (steps ++ x ∷ [])) (omega arith) ∙ count-kept (is_end sync_id) steps x none
        ∙ sym (count_to-more (is_end sync_id) steps ahead (length steps) (omega arith))

    pub anchor-after : (e : ℕ) → sync_anchor ((steps ++ x ∷ []) ++ more) (length (steps ++ x ∷ [])) e ≡ sync_anchor (steps ++ ahead) (length steps) e
    anchor-after e =
        ap (sync_below ((steps ++ x ∷ []) ++ more) e) (count_to-more (is_end sync_id) (steps ++ x ∷ []) more (length (steps ++ x ∷ [])) (omega arith) ∙ count-kept (is_end sync_id) steps x none)
        ∙ ap (λ (xs : List Step). sync_below xs e so_many) (one-more steps x more) ∙ below-same e
        ∙ sym (ap (sync_below (steps ++ ahead) e) (count_to-more (is_end sync_id) steps ahead (length steps) (omega arith)))

    newest-after : (newest : Newest) → IsNewest newest (steps ++ ahead) (length steps) → IsNewest newest ((steps ++ x ∷ []) ++ more) (length (steps ++ x ∷ []))
    newest-after Nothing h = count-after ∙ h
    newest-after (Sync s) h = record { number = count-after ∙ h.number; first = anchor-after s.event ∙ h.first; later = λ e l. anchor-after e ∙ h.later e l }

    pub syncs-after : (syncs : Syncs) → AreKnown syncs (steps ++ ahead) (length steps) → AreKnown syncs ((steps ++ x ∷ []) ++ more) (length (steps ++ x ∷ []))
    syncs-after syncs h = record { newest = newest-after syncs.newest h.newest; recent = λ s on. anchor-after s.event ∙ h.recent s on; none = λ v no. anchor-after v ∙ h.none v no }

    pub hang-after : (v mark : ℕ) → HangsOn (sync_anchor (steps ++ ahead) (length steps) v) mark → HangsOn (sync_anchor ((steps ++ x ∷ []) ++ more) (length (steps ++ x ∷ [])) v) mark
    hang-after v mark h = subst (λ o. HangsOn o mark) (sym (anchor-after v)) h

  -- rules 62 and 63 of a queue step of a synchronous stream
  module _ (k : Stream) (before : Option ℕ) (mark : ℕ) (syncs : Syncs) (id at event : ℕ) (frame : Content) (number : ℕ) (o : ObeysSync k before mark syncs at event frame number) (known : AreKnown syncs (steps ++ ahead) (length steps))
      (hangs : (v : ℕ) → before ≡ Some v → HangsOn (sync_anchor (steps ++ ahead) (length steps) v) mark) where
    abbrev xs : List Step
    xs = steps ++ x ∷ more

    abbrev anchor : Anchor
    anchor = record { mark = o.sync.mark; from = o.sync.from }

    the-sync : sync_anchor (steps ++ ahead) (length steps) event ≡ Some anchor
    the-sync = subst (λ v. sync_anchor (steps ++ ahead) (length steps) v ≡ Some anchor) o.its (among (steps ++ ahead) (length steps) syncs o.sync known o.on)

    pub hangs-here : anchor_of k xs (length steps) event ≡ Some anchor
    hangs-here = anchor_synced k xs (length steps) event o.synced ∙ anchor-here event ∙ the-sync

    mark-is : (v : ℕ) (d : Anchor) → before ≡ Some v → anchor_of k xs (length steps) v ≡ Some d → d.mark ≡ mark
    mark-is v d b e = subst (λ p. HangsOn p mark) (sym (anchor-here v) ∙ sym (anchor_synced k xs (length steps) v o.synced) ∙ e) (hangs v b)

    same-mark : (d e : Anchor) → Some d ≡ Some e → d.mark ≡ e.mark
    same-mark d e h = ap (λ (a : Anchor). a.mark) (some d e h)
      where
        some : (d e : Anchor) → Some d ≡ Some e → d ≡ e
        some d e h = cc

    pub period-sync : is_period_later (Some k) before xs (length steps) (Queue id at event frame) ≡ true
    period-sync = go before refl
      where
        go : (b : Option ℕ) → before ≡ b → is_period_later (Some k) b xs (length steps) (Queue id at event frame) ≡ true
        go None e = refl
        go (Some v) e = apart-true (gap_of k) (anchor_of k xs (length steps) v) (anchor_of k xs (length steps) event)
            (λ d a f g. (let m = mark-is v d e f in let n = same-mark anchor a (sym hangs-here ∙ g) in let l = o.later v e in let gap = gap-synced k o.synced in omega (arith, m, n, l, gap)))

    pub time-sync : is_queued_in_time (Some k) xs (length steps) (Queue id at event frame) ≡ true
    time-sync = time-true k.jitter (anchor_of k xs (length steps) event) at anchor hangs-here o.after_from o.by

hang-stays : (o next : Option Anchor) (mark : ℕ) → HangsOn o mark → HangsOn (or_next o next) mark
hang-stays None next mark h = absurd h
hang-stays (Some e) next mark h = h

-- A SYNC ends.
module _ (tau : ℕ) (streams : List Stream) (now : ℕ) (steps : List Step) (at : ℕ) (fine : KeepTheRules tau streams now steps []) where
  abbrev e : Step
  e = End sync_id at

  abbrev a : ℕ
  a = count_to (is_end sync_id) steps (length steps)

  count-next : count_to (is_end sync_id) ((steps ++ e ∷ []) ++ []) (length (steps ++ e ∷ [])) ≡ suc a
  count-next = count_to-more (is_end sync_id) (steps ++ e ∷ []) [] (length (steps ++ e ∷ [])) (omega arith) ∙ count-raised (is_end sync_id) steps e refl

  -- what is found after it was found before it, or is this one
  anchor-next : (v : ℕ) → sync_anchor ((steps ++ e ∷ []) ++ []) (length (steps ++ e ∷ [])) v ≡ or_next (sync_anchor (steps ++ []) (length steps) v) (anchor_if v a (sync_number (steps ++ e ∷ []) a))
  anchor-next v =
      ap (sync_below ((steps ++ e ∷ []) ++ []) v) count-next ∙ ap (λ (xs : List Step). sync_below xs v (suc a)) (no-more (steps ++ e ∷ []))
      ∙ ap (λ o. or_next o (anchor_if v a (sync_number (steps ++ e ∷ []) a))) (below-same tau streams now now steps [] [] e (omega arith) (finds-more steps (e ∷ [])) fine v
      ∙ sym (ap (sync_below (steps ++ []) v) (count_to-more (is_end sync_id) steps [] (length steps) (omega arith))))

  -- what is found stays
  pub recent-next : (v mark from : ℕ) → sync_anchor (steps ++ []) (length steps) v ≡ Some (record { mark = mark; from = from })
      → sync_anchor ((steps ++ e ∷ []) ++ []) (length (steps ++ e ∷ [])) v ≡ Some (record { mark = mark; from = from })
  recent-next v mark from h = anchor-next v ∙ ap (λ o. or_next o (anchor_if v a (sync_number (steps ++ e ∷ []) a))) h

  pub hang-next : (v mark : ℕ) → HangsOn (sync_anchor (steps ++ []) (length steps) v) mark → HangsOn (sync_anchor ((steps ++ e ∷ []) ++ []) (length (steps ++ e ∷ [])) v) mark
  hang-next v mark h = subst (λ o. HangsOn o mark) (sym (anchor-next v)) (hang-stays (sync_anchor (steps ++ []) (length steps) v) (anchor_if v a (sync_number (steps ++ e ∷ []) a)) mark h)

  module _ (event : ℕ) (its_event : event_in (nth_that (is_queue sync_id) a steps) ≡ Some event) where
    number-is : sync_number (steps ++ e ∷ []) a ≡ Some (ended event at)
    number-is =
        let y = event-some (nth_that (is_queue sync_id) a steps) event its_event in
        let queued = ap event_in (nth_that-more (is_queue sync_id) a steps (e ∷ []) y.0 y.1 ∙ sym y.1) ∙ its_event in
        let here = step_at-here steps e [] in
        let t = nth_that-at (is_end sync_id) (steps ++ e ∷ []) (length steps) (let l = length-one steps e in omega (arith, l)) (ap (is_end sync_id) here) in
        let r = count_to-more (is_end sync_id) steps (e ∷ []) (length steps) (omega arith) in
        let ends : moment_of (nth_that (is_end sync_id) a (steps ++ e ∷ [])) ≡ Some at = ap moment_of (ap (λ n. nth_that (is_end sync_id) n (steps ++ e ∷ [])) (sym r) ∙ t ∙ ap Some here) in
        ap (λ o. ended_by o (moment_of (nth_that (is_end sync_id) a (steps ++ e ∷ [])))) queued ∙ ap (ended_by (Some event)) ends

    anchor-is : (v : ℕ) → sync_anchor ((steps ++ e ∷ []) ++ []) (length (steps ++ e ∷ [])) v ≡ or_next (sync_anchor (steps ++ []) (length steps) v) (anchor_if v a (Some (ended event at)))
    anchor-is v = anchor-next v ∙ ap (λ y. or_next (sync_anchor (steps ++ []) (length steps) v) (anchor_if v a y)) number-is

    -- no SYNC with another event comes
    pub anchor-other : (v : ℕ) → (event ≡ v → ⊥) → sync_anchor (steps ++ []) (length steps) v ≡ None → sync_anchor ((steps ++ e ∷ []) ++ []) (length (steps ++ e ∷ [])) v ≡ None
    anchor-other v other none =
        anchor-is v ∙ ap (λ o. or_next o (anchor_if v a (Some (ended event at)))) none ∙ ap (λ b. cond b (Some (record { mark = a; from = at })) None) (ne_eqb event v other)

    sync-next : ((v : ℕ) → event ≤ v → sync_anchor (steps ++ []) (length steps) v ≡ None) → IsSync ((steps ++ e ∷ []) ++ []) (length (steps ++ e ∷ [])) event a at
    sync-next none = record {
      number = (let c = count-next in omega (arith, c));
      first = anchor-is event ∙ ap (λ o. or_next o (anchor_if event a (Some (ended event at)))) (none event (omega arith)) ∙ ap (λ b. cond b (Some (record { mark = a; from = at })) None) (eq-true event event refl);
      later = λ v l. anchor-is v ∙ ap (λ o. or_next o (anchor_if v a (Some (ended event at)))) (none v (omega (arith, l)))
          ∙ ap (λ b. cond b (Some (record { mark = a; from = at })) None) (ne_eqb event v (λ s. omega (arith, s, l)));
    }

    pub newest-next : (newest : Newest) (mark : ℕ) → IsBehind newest event mark → IsNewest newest (steps ++ []) (length steps) → IsSync ((steps ++ e ∷ []) ++ []) (length (steps ++ e ∷ [])) event mark at
    newest-next Nothing mark b h =
        let c = count_to-more (is_end sync_id) steps [] (length steps) (omega arith) in
        let m : mark ≡ a = omega (arith, b, c, h) in
        subst (λ n. IsSync ((steps ++ e ∷ []) ++ []) (length (steps ++ e ∷ [])) event n at) (sym m) (sync-next (λ v l. ap (sync_below (steps ++ []) v) h))
    newest-next (Sync before) mark b h =
        let c = count_to-more (is_end sync_id) steps [] (length steps) (omega arith) in
        let m : mark ≡ a = omega (arith, b.1, c, h.number) in
        subst (λ n. IsSync ((steps ++ e ∷ []) ++ []) (length (steps ++ e ∷ [])) event n at) (sym m) (sync-next (λ v l. h.later v (let s = b.0 in omega (arith, s, l))))
