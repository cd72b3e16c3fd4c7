-- A client that asks goes on asking until its transfer ends, and ignores no answer.
use Rattle.std.proofs.Common.{◌≡◌, ℕ, ◌+◌, Bool, true, false, not, List, [], ◌++◌, length, refl, sym, ◌∙◌, ap, Option, Some, None, Result, Ok, Err, inl, inr}
use Rattle.std.specs.Prelude.{nat_lt, nat_le, if◌then◌else◌}
use Rattle.std.specs.Bool.{beq}
use Rattle.std.specs.Option.{option_map_or}
use Rattle.cop_dict.specs.declared.abort.Abort.{Abort}
use Rattle.cop_dict.specs.declared.abort.Abort.TheVariants as aborts
use Rattle.cop_sdo.specs.declared.address.Address.{Address}
use Rattle.cop_sdo.specs.declared.task.Task.{Task}
use Rattle.cop_sdo.specs.declared.task.Task.TheVariants as tasks
use Rattle.cop_sdo.specs.declared.task.Reaction.{Reaction}
use Rattle.cop_sdo.specs.declared.task.Reaction.TheVariants as reactions
use Rattle.cop_sdo.specs.Message.{Message}
use Rattle.cop_sdo.specs.Outcome as progress
use Rattle.cop_sdo.specs.Reply as replies
use Rattle.cop_sdo.specs.Reply.{Reply, reply_of, is_answer}
use Rattle.cop_dict.specs.Codes.{code_of}
use Rattle.cop_sdo.specs.Answers.{abort_body}
use Rattle.cop_sdo.specs.Client as Client
use Rattle.cop_sdo.specs.Client.{progress_of, Calling, Called, Reacted, reacted, sends, done, sends_segment, took, same_address, ask_segment_body, concluded, called, is_idle, task_at}
use Rattle.cop_sdo.specs.Calls.{MayCall, expiring}
use Rattle.cop_transfer.specs.Carrying.{Hears}

-- where another request is sent, the client is in the middle of a transfer
abbrev GoesOn : Result Reacted Abort → Type 0
GoesOn (Ok r) = (body : List ℕ) → r.reaction ≡ reactions.Send body → is_idle r.asking.task ≡ false
GoesOn (Err abort) = Unit {0}

by_test : (b : Bool) (x y : Result Reacted Abort) → GoesOn x → GoesOn y → GoesOn (if b then x else y)
by_test true x y hx hy = hx
by_test false x y hx hy = hy

done_goes : (bytes : List ℕ) → GoesOn (done bytes)
done_goes bytes body e = absurd (not_sent body e)
  where
    not_sent : (body : List ℕ) → reactions.Done ≡ reactions.Send body → ⊥
    not_sent body e = cc

abort_goes : (code : ℕ) → (body : List ℕ) → reactions.Aborted code ≡ reactions.Send body → is_idle tasks.Idle ≡ false
abort_goes code body e = absurd (not_sent code body e)
  where
    not_sent : (code : ℕ) (body : List ℕ) → reactions.Aborted code ≡ reactions.Send body → ⊥
    not_sent code body e = cc

segment_goes : (at : Address) (bytes : List ℕ) (sent : ℕ) (toggle : Bool) → GoesOn (sends_segment at bytes sent toggle)
segment_goes at bytes sent toggle body e = refl

took_goes : (at : Address) (size : Option ℕ) (toggle : Bool) (bytes : List ℕ) (last : Bool) → GoesOn (took at size toggle bytes last)
took_goes at size toggle bytes true = by_test (option_map_or (λ stated. nat_lt (length bytes) stated) size false) (Err aborts.Command) (done bytes) tt (done_goes bytes)
took_goes at size toggle bytes false = λ body e. refl

reacts_on : (bytes : List ℕ) (task : Task) (reply : Reply) → GoesOn (reacted bytes task reply)
reacts_on bytes task (replies.Abort code) = abort_goes code
reacts_on bytes tasks.Idle (replies.Confirm other) = tt
reacts_on bytes tasks.Idle (replies.ConfirmSegment t) = tt
reacts_on bytes tasks.Idle (replies.Value other value) = tt
reacts_on bytes tasks.Idle (replies.Size other stated) = tt
reacts_on bytes tasks.Idle (replies.Segment t more last) = tt
reacts_on bytes tasks.Idle replies.Other = tt
reacts_on bytes (tasks.Giving at) (replies.Confirm other) = by_test (same_address at other) (done []) (Err aborts.Command) (done_goes []) tt
reacts_on bytes (tasks.Giving at) (replies.ConfirmSegment t) = tt
reacts_on bytes (tasks.Giving at) (replies.Value other value) = tt
reacts_on bytes (tasks.Giving at) (replies.Size other stated) = tt
reacts_on bytes (tasks.Giving at) (replies.Segment t more last) = tt
reacts_on bytes (tasks.Giving at) replies.Other = tt
reacts_on bytes (tasks.Beginning at) (replies.Confirm other) = by_test (same_address at other) (sends_segment at bytes 0 false) (Err aborts.Command) (segment_goes at bytes 0 false) tt
reacts_on bytes (tasks.Beginning at) (replies.ConfirmSegment t) = tt
reacts_on bytes (tasks.Beginning at) (replies.Value other value) = tt
reacts_on bytes (tasks.Beginning at) (replies.Size other stated) = tt
reacts_on bytes (tasks.Beginning at) (replies.Segment t more last) = tt
reacts_on bytes (tasks.Beginning at) replies.Other = tt
reacts_on bytes (tasks.Sending at sent toggle) (replies.Confirm other) = tt
reacts_on bytes (tasks.Sending at sent toggle) (replies.ConfirmSegment t) = by_test (not (beq t toggle)) (Err aborts.Toggle) (if nat_le (length bytes) sent then done [] else sends_segment at bytes sent (not toggle)) tt (by_test (nat_le (length bytes) sent) (done []) (sends_segment at bytes sent (not toggle)) (done_goes []) (segment_goes at bytes sent (not toggle)))
reacts_on bytes (tasks.Sending at sent toggle) (replies.Value other value) = tt
reacts_on bytes (tasks.Sending at sent toggle) (replies.Size other stated) = tt
reacts_on bytes (tasks.Sending at sent toggle) (replies.Segment t more last) = tt
reacts_on bytes (tasks.Sending at sent toggle) replies.Other = tt
reacts_on bytes (tasks.Asking at) (replies.Confirm other) = tt
reacts_on bytes (tasks.Asking at) (replies.ConfirmSegment t) = tt
reacts_on bytes (tasks.Asking at) (replies.Value other value) = by_test (same_address at other) (done value) (Err aborts.Command) (done_goes value) tt
reacts_on bytes (tasks.Asking at) (replies.Size other stated) = by_test (same_address at other) (sends (tasks.Receiving at stated false) [] (ask_segment_body false)) (Err aborts.Command) (λ body e. refl) tt
reacts_on bytes (tasks.Asking at) (replies.Segment t more last) = tt
reacts_on bytes (tasks.Asking at) replies.Other = tt
reacts_on bytes (tasks.Receiving at size toggle) (replies.Confirm other) = tt
reacts_on bytes (tasks.Receiving at size toggle) (replies.ConfirmSegment t) = tt
reacts_on bytes (tasks.Receiving at size toggle) (replies.Value other value) = tt
reacts_on bytes (tasks.Receiving at size toggle) (replies.Size other stated) = tt
reacts_on bytes (tasks.Receiving at size toggle) (replies.Segment t more last) = by_test (not (beq t toggle)) (Err aborts.Toggle) (if option_map_or (λ stated. nat_lt stated (length bytes + length more)) size false then Err aborts.Command else took at size toggle (bytes ++ more) last) tt
    (by_test (option_map_or (λ stated. nat_lt stated (length bytes + length more)) size false) (Err aborts.Command) (took at size toggle (bytes ++ more) last) tt (took_goes at size toggle (bytes ++ more) last))
reacts_on bytes (tasks.Receiving at size toggle) replies.Other = tt

-- what the client makes of an answer
went_on : (node : ℕ) (at : Address) (outcome : Result Reacted Abort) (request : Message) → GoesOn outcome → (concluded node at outcome).progress ≡ progress.Send request → is_idle (concluded node at outcome).client.asking.task ≡ false
went_on node at (Ok r) request goes e = by_reaction r.reaction refl
  where
    by_reaction : (reaction : Reaction) → r.reaction ≡ reaction → is_idle r.asking.task ≡ false
    by_reaction (reactions.Send body) is = goes body is
    by_reaction reactions.Done is = absurd (let h = rw is at e in not_done h)
      where
        not_done : progress.Done ≡ progress.Send request → ⊥
        not_done h = cc
    by_reaction (reactions.Aborted code) is = absurd (let h = rw is at e in not_aborted h)
      where
        not_aborted : progress.Aborted code ≡ progress.Send request → ⊥
        not_aborted h = cc
went_on node at (Err abort) request goes e = absurd (not_ended (Client.request node (abort_body at (code_of abort))) (code_of abort) e)
  where
    not_ended : (frame : Message) (code : ℕ) → progress.Ended frame code ≡ progress.Send request → ⊥
    not_ended frame code h = cc

not_ignored : (node : ℕ) (at : Address) (outcome : Result Reacted Abort) → (concluded node at outcome).progress ≡ progress.Ignored → ⊥
not_ignored node at (Ok r) e = by_reaction r.reaction e
  where
    by_reaction : (reaction : Reaction) → progress_of node reaction ≡ progress.Ignored → ⊥
    by_reaction (reactions.Send body) h = cc
    by_reaction reactions.Done h = cc
    by_reaction (reactions.Aborted code) h = cc
not_ignored node at (Err abort) e = cc

node_stays : (node : ℕ) (at : Address) (outcome : Result Reacted Abort) → (concluded node at outcome).client.node ≡ node
node_stays node at (Ok r) = refl
node_stays node at (Err abort) = refl

-- a client that asks, and an answer of its node
module _ (client : Calling) (answer : Message) (asks : is_idle client.asking.task ≡ false) (from : is_answer client.node answer ≡ true) where
  due : called client answer ≡ concluded client.node (task_at client.asking.task) (reacted client.asking.bytes client.asking.task (reply_of answer.body))
  due = rw (asks, from) refl

  concludes : (next : Called) → MayCall client answer next → (outcome : Result Reacted Abort) × GoesOn outcome × (next ≡ concluded client.node (task_at client.asking.task) outcome)
  concludes next h =
      elim h.either [
        | inl e ↦ (reacted client.asking.bytes client.asking.task (reply_of answer.body), reacts_on client.asking.bytes client.asking.task (reply_of answer.body), e ∙ due)
        | inr e ↦ (Err aborts.NoMemory, tt, e.2)
      ]

  pub never_ignored : (later : Calling) → Hears client answer progress.Ignored later → ⊥
  never_ignored later h = let c = concludes (record { client = later; progress = progress.Ignored }) h in not_ignored client.node (task_at client.asking.task) c.0 (sym (ap (λ (next : Called). next.progress) c.2))

  pub still_asks : (request : Message) (later : Calling) → Hears client answer (progress.Send request) later → is_idle later.asking.task ≡ false
  still_asks request later h =
      let c = concludes (record { client = later; progress = progress.Send request }) h in
      ap (λ (next : Called). is_idle next.client.asking.task) c.2 ∙ went_on client.node (task_at client.asking.task) c.0 request c.1 (sym (ap (λ (next : Called). next.progress) c.2))

  pub same_node : (request : Message) (later : Calling) → Hears client answer (progress.Send request) later → later.node ≡ client.node
  same_node request later h =
      let c = concludes (record { client = later; progress = progress.Send request }) h in
      ap (λ (next : Called). next.client.node) c.2 ∙ node_stays client.node (task_at client.asking.task) c.0

-- a client that asks can give up
pub cannot_rest : (client later : Calling) → is_idle client.asking.task ≡ false → (None, later) ≡ expiring client → ⊥
cannot_rest client later asks e = let h = rw asks at e in not_some (ap (λ pair. pair.0) h)
  where
    not_some : {A : Type 0} {x : A} → None ≡ Some x → ⊥
    not_some h = cc
