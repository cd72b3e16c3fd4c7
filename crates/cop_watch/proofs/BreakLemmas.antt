-- What is told of a step that may not come, and of a trace in which one was found.
use Rattle.std.proofs.Common.{◌≡◌, ℕ, ◌<◌, List, [], ◌∷◌, ◌++◌, sym, ◌∙◌, ap, subst, true, false, get_or}
use Rattle.std.specs.Prelude.{Option, None, Some, IfSome, is_some, slice_index}
use Rattle.std.specs.BTreeSet.{contains}
use Rattle.std.specs.Ordering.{nat_cmp}
use Rattle.cop_rta.specs.declared.streams.Stream.{Stream}
use Rattle.cop_bus.specs.declared.steps.Step.{Step}
use Rattle.cop_bus.specs.declared.steps.Content.{Content}
use Rattle.cop_bus.specs.declared.steps.Step.TheVariants.{Queue, Start, End}
use Rattle.cop_bus.specs.Trace.{at_of, rank_of}
use Rattle.cop_bus.specs.Judge.{id_of, stream_of, first_broken}
use Rattle.cop_bus.proofs.Appended.{one-more}
use Rattle.cop_watch.specs.declared.bus.Bus.TheVariants.{Idle, Sending}
use Rattle.cop_watch.specs.declared.syncs.EndedSync.{EndedSync}
use Rattle.cop_watch.specs.declared.watching.Watch.{Watch}
use Rattle.cop_watch.specs.declared.found.Broken.{Broken}
use Rattle.cop_watch.specs.Rules.{is_after}
use Rattle.cop_watch.specs.Watching.{HasTaken}
use Rattle.cop_watch.specs.Breaking.{IsAlone, HangsAt, IsMarkBefore, instance_rule, BreaksThen, BreaksAtStart}
use Rattle.cop_watch.specs.Found.{Breaks, IsBrokenBy, FollowsBy}
use Rattle.cop_watch.proofs.BrokenLemmas.{breaks-60, breaks-61, breaks-end, breaks-busy, breaks-none, breaks-sender, breaks-queue}

if-some : (o : Option ℕ) (P Q : ℕ → Type 0) → ((r : ℕ) → P r → Q r) → IfSome o P → IfSome o Q
if-some None P Q f h = tt
if-some (Some r) P Q f h = f r h

module _ (w : Watch) (alone : IsAlone w.bus) where
  pub order-breaks : (x : Step) (o : Option ℕ) → is_after w.at w.rank (at_of x) (rank_of x) ≡ false → IfSome o (λ rule. (rule ≡ 60) × (0 < w.taken)) → IfSome o (Breaks w x)
  order-breaks x o late h = if-some o (λ rule. (rule ≡ 60) × (0 < w.taken)) (Breaks w x) (λ rule b. (alone, λ tau streams steps has until le by more. breaks-60 tau streams steps w has alone until le more x b.1 late ∙ ap Some (sym b.0))) h

  pub stranger-breaks : (x : Step) → is_after w.at w.rank (at_of x) (rank_of x) ≡ true → stream_of w.streams.now (id_of x) ≡ None → Breaks w x 61
  stranger-breaks x order none = (alone, λ tau streams steps has until le by more. breaks-61 tau streams steps w has alone until le more x order by (subst (λ (ks : List Stream). stream_of ks (id_of x) ≡ None) has.set none))

  pub end-breaks : (id at : ℕ) → is_after w.at w.rank at 0 ≡ true → is_some (stream_of w.streams.now id) ≡ true → (w.bus ≡ Sending id at → ⊥) → Breaks w (End id at) 65
  end-breaks id at order known other = (alone, λ tau streams steps has until le by more. breaks-end tau streams steps w has alone until le more id at order by (subst (λ (ks : List Stream). is_some (stream_of ks id) ≡ true) has.set known) other)

  module _ (id at : ℕ) (order : is_after w.at w.rank at 2 ≡ true) (known : is_some (stream_of w.streams.now id) ≡ true) where
    known-in : (streams : List Stream) → w.streams.now ≡ streams → is_some (stream_of streams id) ≡ true
    known-in streams e = subst (λ (ks : List Stream). is_some (stream_of ks id) ≡ true) e known

    pub busy-breaks : (w.bus ≡ Idle → ⊥) → Breaks w (Start id at) 65
    busy-breaks busy = (alone, λ tau streams steps has until le by more. breaks-busy tau streams steps w has alone until le more id at order by (known-in streams has.set) busy)

    pub none-breaks : w.bus ≡ Idle → ((k : ℕ) → contains nat_cmp w.waiting k ≡ false) → Breaks w (Start id at) 66
    none-breaks idle none = (alone, λ tau streams steps has until le by more. breaks-none tau streams steps w has alone until le more id at order by (known-in streams has.set) idle none)

    pub sender-breaks : (o : Option ℕ) → w.bus ≡ Idle → IfSome o (BreaksAtStart w id at) → IfSome o (Breaks w (Start id at))
    sender-breaks o idle h = if-some o (BreaksAtStart w id at) (Breaks w (Start id at)) (λ rule b. (alone, λ tau streams steps has until le by more. breaks-sender tau streams steps w has alone until le more id at order by (known-in streams has.set) idle rule b)) h

  late-as : (next : Option ℕ) (at : ℕ) → IfSome next (BreaksThen w at) → (r : ℕ) → next ≡ Some r → BreaksThen w at r
  late-as next at h r e = subst (λ o. IfSome o (BreaksThen w at)) e h

  pub queue-breaks : (id at event : ℕ) (frame : Content) (k : Stream) (hang : Option EndedSync) (before next o : Option ℕ) → is_after w.at w.rank at 1 ≡ true → stream_of w.streams.now id ≡ Some k → HangsAt k w.syncs event hang
      → IsMarkBefore k (get_or w.last.items id None) (slice_index w.marks.items id) before → IfSome next (BreaksThen w at) → o ≡ instance_rule k before hang at frame next → IfSome o (Breaks w (Queue id at event frame))
  queue-breaks id at event frame k hang before next o order its hangs was late is = go o is
    where
      go : (o : Option ℕ) → o ≡ instance_rule k before hang at frame next → IfSome o (Breaks w (Queue id at event frame))
      go None e = tt
      go (Some rule) e = (alone, λ tau streams steps has until le by more. breaks-queue tau streams steps w has alone until le more id at event frame order by k (subst (λ (ks : List Stream). stream_of ks id ≡ Some k) has.set its) hang hangs before was next rule (late-as next at late) (sym e))

-- once a step was found, it is found of all that follow
pub broken-on : (tau : ℕ) (streams : List Stream) (steps : List Step) (x : Step) (b : Broken) → IsBrokenBy tau streams steps b → IsBrokenBy tau streams (steps ++ x ∷ []) b
broken-on tau streams steps x b h = λ until by more. ap (first_broken tau streams until) (one-more steps x more) ∙ h until by (x ∷ more)

pub follows-broken : (tau : ℕ) (streams : List Stream) (steps : List Step) (w : Watch) (b : Broken) → w.broken ≡ Some b → FollowsBy w.broken tau streams steps w → IsBrokenBy tau streams steps b
follows-broken tau streams steps w b e h = subst (λ o. FollowsBy o tau streams steps w) e h

pub follows-none : (tau : ℕ) (streams : List Stream) (steps : List Step) (w : Watch) → w.broken ≡ None → FollowsBy w.broken tau streams steps w → HasTaken tau streams steps w
follows-none tau streams steps w e h = subst (λ o. FollowsBy o tau streams steps w) e h
