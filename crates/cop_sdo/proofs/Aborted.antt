-- What an abort leaves.
use Rattle.std.proofs.Common.{◌≡◌, ℕ, Bool, true, false, List, refl, inl, inr, Some, slice_index}
use Rattle.cop_dict.specs.Find.{Entry}
use Rattle.cop_sdo.specs.Message.{Message}
use Rattle.cop_sdo.specs.Request.{Request, Give, GiveUnsized, Begin, Segment, Ask, AskSegment, Cancel, Unknown, request_of, is_heard}
use Rattle.cop_sdo.specs.Answers.{reply}
use Rattle.cop_sdo.specs.Server.{State, idle, Moved, step}
use Rattle.cop_sdo.specs.Serve.{Serving, Served, replied, due, MayServe}
use Rattle.cop_sdo.proofs.Granted.{IsAnswered, answered}

abbrev Unchanged : ℕ → List Entry → Served → Type 0
Unchanged node dict next = (next.server ≡ record { node = node; state = idle }) × (next.dict ≡ dict)

by_answer : (node : ℕ) (m : Moved) (dict : List Entry) (answer : Message) → IsAnswered m dict → (replied node m).answer ≡ Some answer
    → slice_index answer.body 0 ≡ 0x80 → Unchanged node dict (replied node m)
by_answer node m dict answer a is first =
    let said = rw a.is at is in
    let same : reply node a.body ≡ answer = cc in
    let byte : slice_index a.body 0 ≡ 0x80 = rw (← same) at first in
    let left = a.aborts_alone (rw byte refl) in
    (rw left.0 refl, left.1)

by_request : (node : ℕ) (state : State) (dict : List Entry) (answer : Message) (r : Request) → (replied node (step state dict r)).answer ≡ Some answer
    → slice_index answer.body 0 ≡ 0x80 → Unchanged node dict (replied node (step state dict r))
by_request node state dict answer Cancel is first = cc
by_request node state dict answer (Give at bytes) is first = by_answer node _ dict answer (answered state dict (Give at bytes) (λ h. h)) is first
by_request node state dict answer (GiveUnsized at four) is first = by_answer node _ dict answer (answered state dict (GiveUnsized at four) (λ h. h)) is first
by_request node state dict answer (Begin at size) is first = by_answer node _ dict answer (answered state dict (Begin at size) (λ h. h)) is first
by_request node state dict answer (Segment t bytes last) is first = by_answer node _ dict answer (answered state dict (Segment t bytes last) (λ h. h)) is first
by_request node state dict answer (Ask at) is first = by_answer node _ dict answer (answered state dict (Ask at) (λ h. h)) is first
by_request node state dict answer (AskSegment t) is first = by_answer node _ dict answer (answered state dict (AskSegment t) (λ h. h)) is first
by_request node state dict answer (Unknown at) is first = by_answer node _ dict answer (answered state dict (Unknown at) (λ h. h)) is first

by_frame : (server : Serving) (dict : List Entry) (frame : Message) (answer : Message) (b : Bool) → is_heard server.node frame ≡ b
    → (due server dict frame).answer ≡ Some answer → slice_index answer.body 0 ≡ 0x80 → Unchanged server.node dict (due server dict frame)
by_frame server dict frame answer false e is first = let none = rw e at is in cc
by_frame server dict frame answer true e is first = rw e (by_request server.node server.state dict answer (request_of frame.body) (rw e at is) first)

pub unchanged : (server : Serving) (dict : List Entry) (frame : Message) (next : Served) (answer : Message) → MayServe server dict frame next
    → next.answer ≡ Some answer → slice_index answer.body 0 ≡ 0x80 → Unchanged server.node dict next
unchanged server dict frame next answer may is first =
    elim may.either [
      | inl e ↦ rw e (by_frame server dict frame answer (is_heard server.node frame) refl (rw e at is) first)
      | inr e ↦ rw e.1 (refl, refl)
    ]
