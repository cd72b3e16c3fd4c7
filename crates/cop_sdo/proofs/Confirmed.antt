-- A download of 1 to 4 bytes that its client sees as done.
use Rattle.std.proofs.Common.{◌≡◌, ℕ, suc, ◌+◌, ◌*◌, ◌/◌, ◌%◌, true, false, ◌&&◌, List, [], ◌∷◌, length, refl, ap, sym, ◌∙◌, arith, nat_lt, nat_le, ◌==◌, inl, inr, Some, Result, Ok, Err}
use Rattle.std.proofs.lemmas.Bool.Decides.{nat_tests}
use Rattle.cop_dict.specs.declared.abort.Abort.{Abort}
use Rattle.cop_dict.specs.declared.abort.Abort.TheVariants as aborts
use Rattle.cop_dict.specs.Codes.{code_of}
use Rattle.cop_dict.specs.Find.{Entry}
use Rattle.cop_dict.specs.Dict.{HasWidth, Replaces, written, ◌>>=◌}
use Rattle.cop_dict.proofs.Replaced.{written_replaces}
use Rattle.cop_sdo.specs.declared.address.Address.{Address}
use Rattle.cop_sdo.specs.Message.{Message}
use Rattle.cop_sdo.specs.Outcome as progress
use Rattle.cop_sdo.specs.Request.{Give, request_of, size_in}
use Rattle.cop_sdo.specs.Answers.{abort_body, download_answer, reply}
use Rattle.cop_sdo.specs.Server.{idle, stays, settled, short_of_memory}
use Rattle.cop_sdo.specs.Serve.{Serving, Served, replied, due}
use Rattle.cop_sdo.specs.Client.{Calling, Called, called, resting, give_body, is_idle}
use Rattle.cop_sdo.specs.Calls.{is_short, given, downloading}
use Rattle.cop_sdo.specs.Boot.{Exchanges}

same_index : (i : ℕ) → i % 256 + 256 * (i / 256) ≡ i
same_index i = omega arith

address_again : (at : Address) → (let a : Address = record { index = at.index % 256 + 256 * (at.index / 256); sub = at.sub } in a) ≡ at
address_again at = ap (λ i. let a : Address = record { index = i; sub = at.sub } in a) (same_index at.index)

-- what the server reads is what the client meant
pub request_again : (at : Address) (bytes : List ℕ) → is_short bytes ≡ true → request_of (give_body at bytes) ≡ Give at bytes
request_again at [] h = cc
request_again at (a ∷ []) h = ap (λ x. Give x (a ∷ [])) (address_again at)
request_again at (a ∷ b ∷ []) h = ap (λ x. Give x (a ∷ b ∷ [])) (address_again at)
request_again at (a ∷ b ∷ c ∷ []) h = ap (λ x. Give x (a ∷ b ∷ c ∷ [])) (address_again at)
request_again at (a ∷ b ∷ c ∷ d ∷ []) h = ap (λ x. Give x (a ∷ b ∷ c ∷ d ∷ [])) (address_again at)
request_again at (a ∷ b ∷ c ∷ d ∷ e ∷ more) h = absurd (too_many (length more) h)
  where
    too_many : (n : ℕ) → (nat_lt 0 (suc (suc (suc (suc (suc n))))) && nat_le (suc (suc (suc (suc (suc n))))) 4) ≡ true → ⊥
    too_many n h = grind (arith, nat_tests)

pub same_number : (n : ℕ) → (n == n) ≡ true
same_number n = grind (arith, nat_tests)

pub served_so : (node : ℕ) (dict : List Entry) (at : Address) (bytes : List ℕ) → is_short bytes ≡ true
    → due (record { node = node; state = idle }) dict (given node at bytes).frame
    ≡ replied node (settled dict at (written dict at.index at.sub bytes >>= λ new. stays idle new (download_answer at)))
served_so node dict at bytes h = rw (same_number (0x600 + node), request_again at bytes h) refl

pub confirmed : (node : ℕ) (at : Address) (bytes : List ℕ)
    → called (given node at bytes).client (reply node (download_answer at)) ≡ record { client = record { node = node; asking = resting }; progress = progress.Done }
confirmed node at bytes = rw (same_number (0x580 + node), same_index at.index, same_number at.index, same_number at.sub) refl

pub aborted : (node : ℕ) (at : Address) (bytes : List ℕ) (code : ℕ)
    → (called (given node at bytes).client (reply node (abort_body at code))).progress ≡ progress.Aborted (size_in (abort_body at code))
aborted node at bytes code = rw (same_number (0x580 + node)) refl

pub started_so : (client : Calling) (at : Address) (bytes : List ℕ) → is_idle client.asking.task ≡ true → is_short bytes ≡ true
    → downloading client at bytes ≡ Ok (given client.node at bytes)
started_so client at bytes h short =
    let few : nat_lt 65535 (length bytes) ≡ false = not_many (length bytes) short in
    rw (h, few, short) refl
  where
    not_many : (n : ℕ) → (nat_lt 0 n && nat_le n 4) ≡ true → nat_lt 65535 n ≡ false
    not_many n h = grind (arith, nat_tests)

-- the same answers, from a server that aborts and from one that writes
not_done : (node : ℕ) (dict : List Entry) (at : Address) (bytes : List ℕ) (abort : Abort) (served : Served) (answer : Message) (after : Called)
    → served ≡ replied node (settled dict at (Err abort)) → served.answer ≡ Some answer → after ≡ called (given node at bytes).client answer
    → after.progress ≡ progress.Done → ⊥
not_done node dict at bytes abort served answer after is answered calls done =
    let said = rw is at answered in
    let same : reply node (abort_body at (code_of abort)) ≡ answer = cc in
    let ended = aborted node at bytes (code_of abort) in
    let now = rw (calls, ← same, ended) at done in
    cc

done_so : (node : ℕ) (dict new : List Entry) (at : Address) (bytes : List ℕ) (served : Served) (answer : Message) (after : Called)
    → served ≡ replied node (settled dict at (stays idle new (download_answer at))) → served.answer ≡ Some answer → after ≡ called (given node at bytes).client answer
    → (served.server ≡ record { node = node; state = idle }) × (after ≡ record { client = record { node = node; asking = resting }; progress = progress.Done }) × (served.dict ≡ new)
done_so node dict new at bytes served answer after is answered calls =
    let said = rw is at answered in
    let same : reply node (download_answer at) ≡ answer = cc in
    (rw is refl, calls ∙ rw (← same) (confirmed node at bytes), rw is refl)

-- what the server did with the client's frame
module _ (client : Calling) (server : Serving) (dict : List Entry) (at : Address) (bytes : List ℕ) (served : Served) (after : Called)
    (rests : is_idle client.asking.task ≡ true) (idles : server ≡ record { node = client.node; state = idle }) (short : is_short bytes ≡ true)
    (h : Exchanges client server dict at bytes served after) where
  begun : h.started ≡ given client.node at bytes
  begun = let e = rw (started_so client at bytes rests short) at h.begins in cc

  heard : after ≡ called (given client.node at bytes).client h.answer
  heard = let e = h.calls.sure (inl (rw begun tt)) in rw begun at e

  written_due : due server dict h.started.frame ≡ replied client.node (settled dict at (written dict at.index at.sub bytes >>= λ new. stays idle new (download_answer at)))
  written_due = rw (begun, idles) (served_so client.node dict at bytes short)

  short_due : replied server.node (short_of_memory server.state dict (request_of h.started.frame.body)) ≡ replied client.node (settled dict at (Err aborts.NoMemory))
  short_due = rw (begun, idles, request_again at bytes short) refl

  by_write : (w : Result (List Entry) Abort) → written dict at.index at.sub bytes ≡ w
      → served ≡ replied client.node (settled dict at (w >>= λ new. stays idle new (download_answer at))) → after.progress ≡ progress.Done
      → (served.server ≡ server) × (after.client ≡ record { node = client.node; asking = resting }) × Replaces dict served.dict at.index at.sub bytes
  by_write (Err a) e is done = absurd (not_done client.node dict at bytes a served h.answer after is h.answered heard done)
  by_write (Ok new) e is done =
      let p = done_so client.node dict new at bytes served h.answer after is h.answered heard in
      (p.0 ∙ sym idles, rw p.1 refl, rw p.2 (written_replaces dict new at.index at.sub bytes e))

  pub replaced : after.progress ≡ progress.Done → (served.server ≡ server) × (after.client ≡ record { node = client.node; asking = resting }) × Replaces dict served.dict at.index at.sub bytes
  replaced done =
      elim h.serves.either [
        | inl e ↦ by_write (written dict at.index at.sub bytes) refl (e ∙ written_due) done
        | inr e ↦ absurd (not_done client.node dict at bytes aborts.NoMemory served h.answer after (e.1 ∙ short_due) h.answered heard done)
      ]

  pub accepted : (new : List Entry) → HasWidth dict at.index at.sub → written dict at.index at.sub bytes ≡ Ok new → (after.progress ≡ progress.Done) × (served.dict ≡ new)
  accepted new width e =
      let due_now = h.serves.sure (rw (begun, request_again at bytes short) (inl width)) in
      let is : served ≡ replied client.node (settled dict at (stays idle new (download_answer at))) = rw e at (due_now ∙ written_due) in
      let p = done_so client.node dict new at bytes served h.answer after is h.answered heard in
      (rw p.1 refl, p.2)
