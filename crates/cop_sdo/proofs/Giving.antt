-- What comes of an answer to a download of 1 to 4 bytes, and what a server does with one.
use Rattle.std.proofs.Common.{◌≡◌, ℕ, Bool, true, false, ◌&&◌, List, [], refl, ap, ◌∙◌, arith, ◌==◌, if◌then◌else◌, inl, Some, Ok, Err}
use Rattle.std.proofs.lemmas.Bool.Decides.{nat_tests}
use Rattle.cop_dict.specs.declared.abort.Abort.{Abort}
use Rattle.cop_dict.specs.declared.abort.Abort.TheVariants as aborts
use Rattle.cop_dict.specs.Codes.{code_of}
use Rattle.cop_dict.specs.Find.{Entry}
use Rattle.cop_dict.specs.Dict.{HasWidth, written}
use Rattle.cop_sdo.specs.declared.address.Address.{Address}
use Rattle.cop_sdo.specs.declared.task.Task.TheVariants as tasks
use Rattle.cop_sdo.specs.Message.{Message}
use Rattle.cop_sdo.specs.Outcome as progress
use Rattle.cop_sdo.specs.Request.{Give, is_heard, request_of}
use Rattle.cop_sdo.specs.Reply as replies
use Rattle.cop_sdo.specs.Reply.{Reply, is_answer, reply_of}
use Rattle.cop_sdo.specs.Answers.{abort_body, download_answer, reply}
use Rattle.cop_sdo.specs.Server.{idle}
use Rattle.cop_sdo.specs.Serve.{MayServe, Served}
use Rattle.cop_sdo.specs.Client.{Called, concluded, done, reacted, request, resting, same_address}
use Rattle.cop_sdo.specs.Calls.{MayCall, given}
use Rattle.cop_sdo.proofs.Confirmed.{same_number}

equal_numbers : (m n : ℕ) → (m == n) ≡ true → m ≡ n
equal_numbers m n h = grind (arith, nat_tests)

both : (a b : Bool) → (a && b) ≡ true → (a ≡ true) × (b ≡ true)
both true b h = (refl, h)
both false b h = absurd (let g : false ≡ true = h in cc)

is_same : (at other : Address) → same_address at other ≡ true → other ≡ at
is_same at other h =
    let p = both (at.index == other.index) (at.sub == other.sub) h in
    let i = equal_numbers at.index other.index p.0 in
    let s = equal_numbers at.sub other.sub p.1 in
    rw (i, s) refl

module _ (node : ℕ) (at : Address) (bytes : List ℕ) (frame : Message) (next : Called) (h : MayCall (given node at bytes).client frame next) where
  pub ignored : is_answer node frame ≡ false → next ≡ record { client = (given node at bytes).client; progress = progress.Ignored }
  ignored other = h.sure (inl tt) ∙ rw other refl

  heard : is_answer node frame ≡ true → next ≡ concluded node at (reacted [] (tasks.Giving at) (reply_of frame.body))
  heard answer = h.sure (inl tt) ∙ rw answer refl

  pub confirmed : is_answer node frame ≡ true → reply_of frame.body ≡ replies.Confirm at → next ≡ record { client = record { node = node; asking = resting }; progress = progress.Done }
  confirmed answer is = heard answer ∙ rw (is, same_number at.index, same_number at.sub) refl

  pub aborted : (code : ℕ) → is_answer node frame ≡ true → reply_of frame.body ≡ replies.Abort code
      → next ≡ record { client = record { node = node; asking = resting }; progress = progress.Aborted code }
  aborted code answer is = heard answer ∙ rw is refl

  unexpected_reply : (r : Reply) → (r ≡ replies.Confirm at → ⊥) → ((code : ℕ) → r ≡ replies.Abort code → ⊥)
      → concluded node at (reacted [] (tasks.Giving at) r) ≡ concluded node at (Err aborts.Command)
  unexpected_reply (replies.Confirm other) not_this not_abort = by_test (same_address at other) refl
    where
      by_test : (b : Bool) → same_address at other ≡ b → concluded node at (if b then done [] else Err aborts.Command) ≡ concluded node at (Err aborts.Command)
      by_test true e = absurd (not_this (ap replies.Confirm (is_same at other e)))
      by_test false e = refl
  unexpected_reply (replies.ConfirmSegment t) not_this not_abort = refl
  unexpected_reply (replies.Value other value) not_this not_abort = refl
  unexpected_reply (replies.Size other size) not_this not_abort = refl
  unexpected_reply (replies.Segment t more last) not_this not_abort = refl
  unexpected_reply (replies.Abort code) not_this not_abort = absurd (not_abort code refl)
  unexpected_reply replies.Other not_this not_abort = refl

  pub unexpected : is_answer node frame ≡ true → (reply_of frame.body ≡ replies.Confirm at → ⊥) → ((code : ℕ) → reply_of frame.body ≡ replies.Abort code → ⊥)
      → next ≡ record { client = record { node = node; asking = resting }; progress = progress.Ended (request node (abort_body at 0x05040001)) 0x05040001 }
  unexpected answer not_this not_abort = heard answer ∙ unexpected_reply (reply_of frame.body) not_this not_abort

module _ (node : ℕ) (dict : List Entry) (frame : Message) (at : Address) (bytes : List ℕ) (next : Served)
    (h : MayServe (record { node = node; state = idle }) dict frame next) (hears : is_heard node frame ≡ true) (gives : request_of frame.body ≡ Give at bytes)
    (width : HasWidth dict at.index at.sub) where
  pub written_so : (new : List Entry) → written dict at.index at.sub bytes ≡ Ok new
      → next ≡ record { server = record { node = node; state = idle }; dict = new; answer = Some (reply node (download_answer at)) }
  written_so new e = h.sure (rw gives (inl width)) ∙ rw (hears, gives, e) refl

  pub refused_so : (abort : Abort) → written dict at.index at.sub bytes ≡ Err abort
      → next ≡ record { server = record { node = node; state = idle }; dict = dict; answer = Some (reply node (abort_body at (code_of abort))) }
  refused_so abort e = h.sure (rw gives (inl width)) ∙ rw (hears, gives, e) refl
