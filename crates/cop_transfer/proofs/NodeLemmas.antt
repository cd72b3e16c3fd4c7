-- What the client of a node sends goes to this node.
use Rattle.std.proofs.Common.{◌≡◌, ℕ, Bool, true, false, not, ◌||◌, List, length, refl, sym, ap, subst, Some, None, Result, Ok, Err, inl, inr}
use Rattle.std.specs.Prelude.{nat_lt, if◌then◌else◌}
use Rattle.cop_dict.specs.declared.abort.Abort.{Abort}
use Rattle.cop_dict.specs.declared.abort.Abort.TheVariants as aborts
use Rattle.cop_dict.specs.Codes.{code_of}
use Rattle.cop_sdo.specs.declared.address.Address.{Address}
use Rattle.cop_sdo.specs.declared.fault.ClientFault.{ClientFault}
use Rattle.cop_sdo.specs.declared.fault.ClientFault.TheVariants as faults
use Rattle.cop_sdo.specs.declared.task.Task.TheVariants as tasks
use Rattle.cop_sdo.specs.declared.task.Reaction.{Reaction}
use Rattle.cop_sdo.specs.declared.task.Reaction.TheVariants as reactions
use Rattle.cop_sdo.specs.Message.{Message}
use Rattle.cop_sdo.specs.Outcome as progress
use Rattle.cop_sdo.specs.Outcome.{Outcome}
use Rattle.cop_sdo.specs.Reply.{reply_of, is_answer}
use Rattle.cop_sdo.specs.Answers.{abort_body}
use Rattle.cop_sdo.specs.Client as Client
use Rattle.cop_sdo.specs.Client.{Calling, Called, Reacted, progress_of, reacted, concluded, called, resting, give_body, begin_body, ask_body, is_idle, task_at}
use Rattle.cop_sdo.specs.Calls.{Started, is_short, given, downloading, uploading, expiring}
use Rattle.cop_transfer.specs.Carrying.{Hears}
use Rattle.cop_transfer.specs.Laws.{IsTo}

-- what is sent goes to the node
abbrev GoesTo : ℕ → Outcome → Type 0
GoesTo node (progress.Send frame) = IsTo node frame
GoesTo node (progress.Ended frame code) = IsTo node frame
GoesTo node progress.Done = Unit {0}
GoesTo node (progress.Aborted code) = Unit {0}
GoesTo node progress.Ignored = Unit {0}

abbrev Keeps : ℕ → Called → Type 0
Keeps node next = GoesTo node next.progress × (next.client.node ≡ node)

reaction_goes : (node : ℕ) (reaction : Reaction) → GoesTo node (progress_of node reaction)
reaction_goes node (reactions.Send body) = (refl, refl)
reaction_goes node reactions.Done = tt
reaction_goes node (reactions.Aborted code) = tt

concluded_goes : (node : ℕ) (at : Address) (outcome : Result Reacted Abort) → Keeps node (concluded node at outcome)
concluded_goes node at (Ok r) = (reaction_goes node r.reaction, refl)
concluded_goes node at (Err abort) = ((refl, refl), refl)

called_goes : (client : Calling) (frame : Message) → Keeps client.node (called client frame)
called_goes client frame = by_test (is_idle client.asking.task || not (is_answer client.node frame)) refl
  where
    by_test : (b : Bool) → (is_idle client.asking.task || not (is_answer client.node frame)) ≡ b
        → Keeps client.node (if b then record { client = client; progress = progress.Ignored } else concluded client.node (task_at client.asking.task) (reacted client.asking.bytes client.asking.task (reply_of frame.body)))
    by_test true e = (tt, refl)
    by_test false e = concluded_goes client.node (task_at client.asking.task) (reacted client.asking.bytes client.asking.task (reply_of frame.body))

pub heard_goes : (client later : Calling) (answer : Message) (outcome : Outcome) → Hears client answer outcome later → GoesTo client.node outcome × (later.node ≡ client.node)
heard_goes client later answer outcome h =
    elim h.either [
      | inl e ↦ subst (λ (next : Called). Keeps client.node next) (sym e) (called_goes client answer)
      | inr e ↦ subst (λ (next : Called). Keeps client.node next) (sym e.2) (concluded_goes client.node (task_at client.asking.task) (Err aborts.NoMemory))
    ]

-- the first request
pub asks_first : (node : ℕ) (at : Address) (started : Started) → uploading (record { node = node; asking = resting }) at ≡ Ok started
    → IsTo node started.frame × (started.client.node ≡ node) × (started.frame.body ≡ ask_body at)
asks_first node at started e = subst (λ (s : Started). IsTo node s.frame × (s.client.node ≡ node) × (s.frame.body ≡ ask_body at)) (ok_same e) ((refl, refl), refl, refl)
  where
    ok_same : {a b : Started} → (let r : Result Started ClientFault = Ok a in r) ≡ Ok b → a ≡ b
    ok_same e = cc

abbrev Starts : ℕ → Result Started ClientFault → Type 0
Starts node (Ok started) = IsTo node started.frame × (started.client.node ≡ node)
Starts node (Err fault) = Unit {0}

gives_so : (node : ℕ) (at : Address) (bytes : List ℕ) → Starts node (downloading (record { node = node; asking = resting }) at bytes)
gives_so node at bytes = by_long (nat_lt 65535 (length bytes)) refl
  where
    by_short : (b : Bool) → is_short bytes ≡ b → Starts node (if b then Ok (given node at bytes) else Ok (record {
      client = record { node = node; asking = record { task = tasks.Beginning at; bytes = bytes } };
      frame = Client.request node (begin_body at (length bytes));
    }))
    by_short true e = ((refl, refl), refl)
    by_short false e = ((refl, refl), refl)

    by_long : (b : Bool) → nat_lt 65535 (length bytes) ≡ b → Starts node (if b then Err faults.TooLong else if is_short bytes then Ok (given node at bytes) else Ok (record {
      client = record { node = node; asking = record { task = tasks.Beginning at; bytes = bytes } };
      frame = Client.request node (begin_body at (length bytes));
    }))
    by_long true e = tt
    by_long false e = by_short (is_short bytes) refl

pub gives_first : (node : ℕ) (at : Address) (bytes : List ℕ) (started : Started) → downloading (record { node = node; asking = resting }) at bytes ≡ Ok started → IsTo node started.frame × (started.client.node ≡ node)
gives_first node at bytes started e = subst (Starts node) e (gives_so node at bytes)

-- the abort by which it gives up
pub expires_to : (client later : Calling) (abort : Message) → (Some abort, later) ≡ expiring client → IsTo client.node abort
expires_to client later abort e = by_test (is_idle client.asking.task) refl
  where
    by_test : (b : Bool) → is_idle client.asking.task ≡ b → IsTo client.node abort
    by_test true is = absurd (none (ap (λ pair. pair.0) (rw is at e)))
      where
        none : Some abort ≡ None → ⊥
        none h = cc
    by_test false is =
        let h = ap (λ pair. pair.0) (rw is at e) in
        let same : abort ≡ Client.request client.node (abort_body (task_at client.asking.task) (code_of aborts.TimeOut)) = cc in
        subst (IsTo client.node) (sym same) (refl, refl)
