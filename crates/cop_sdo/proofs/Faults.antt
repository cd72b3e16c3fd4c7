-- When a client's own abort is due.
use Rattle.std.proofs.Common.{◌≡◌, true, false, Result, Ok, Err, IsOk, IsErr, ◌⊎◌, inl, inr, refl}
use Rattle.cop_dict.specs.declared.abort.Abort.{Abort}
use Rattle.cop_sdo.specs.Message.{Message}
use Rattle.cop_sdo.specs.Client.{Calling, called, concluded, reacted, is_idle, task_at}
use Rattle.cop_sdo.specs.Calls.{MayCall, HearsInPlace}
use Rattle.cop_sdo.specs.Exchange.{Fails, IsDownloading, brings_bytes}
use Rattle.cop_sdo.specs.Reply.{is_answer, reply_of}

not_both : {A B : Type 0} (r : Result A B) → IsOk r → IsErr r → ⊥
not_both (Ok x) ok err = cc
not_both (Err e) ok err = cc

module _ (client : Calling) (frame : Message) (abort : Abort) (busy : is_idle client.asking.task ≡ false) (heard : is_answer client.node frame ≡ true)
    (fails : Fails abort (reacted client.asking.bytes client.asking.task (reply_of frame.body)))
    (exact : IsDownloading client.asking.task ⊎ (brings_bytes (reply_of frame.body) ≡ false) → reacted client.asking.bytes client.asking.task (reply_of frame.body) ≡ Err abort) where
  due : reacted client.asking.bytes client.asking.task (reply_of frame.body) ≡ Err abort → concluded client.node (task_at client.asking.task) (Err abort) ≡ called client frame
  due e = rw (busy, heard, e) refl

  surely : HearsInPlace client frame → concluded client.node (task_at client.asking.task) (Err abort) ≡ called client frame
  surely (inl downloads) = due (exact (inl downloads))
  surely (inr (inl brings_none)) = due (exact (inr brings_none))
  surely (inr (inr refused)) = elim fails [ inl e ↦ due e | inr e ↦ absurd (not_both (reacted client.asking.bytes client.asking.task (reply_of frame.body)) e.1 refused) ]

  -- it comes where it is due, or for want of memory where none is
  pub fault_told : MayCall client frame (concluded client.node (task_at client.asking.task) (Err abort))
  fault_told = record {
    either = elim fails [ inl e ↦ inl (due e) | inr e ↦ inr (busy, heard, rw e.0 refl) ];
    sure = surely;
  }
