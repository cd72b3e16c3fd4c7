-- A whole list of frames, where memory may be refused.
use Rattle.std.proofs.Common.{◌≡◌, ℕ, ◌+◌, ◌-◌, ◌*◌, Bool, true, false, not, cond, ◌&&◌, List, [], ◌∷◌, ◌++◌, length, take, drop, refl, sym, ◌∙◌, arith, ◌⊎◌, inl, inr, nat_lt, nat_le, ◌==◌, Option, Some, None, Result, Ok, Err, option_to_list, slice_index}
use Rattle.std.specs.Bool.{beq}
use Rattle.std.specs.Option.{option_map_or}
use Rattle.std.proofs.lemmas.Bool.Decides.{nat_tests}
use Rattle.cop_dict.specs.declared.abort.Abort.{Abort}
use Rattle.cop_dict.specs.declared.abort.Abort.TheVariants as aborts
use Rattle.cop_dict.specs.Find.{Entry}
use Rattle.cop_dict.specs.Dict.{◌>>=◌, written, read_of, admitted}
use Rattle.cop_sdo.specs.declared.address.Address.{Address}
use Rattle.cop_sdo.specs.Message.{Message}
use Rattle.cop_sdo.specs.declared.transfer.Transfer.{Transfer}
use Rattle.cop_sdo.specs.declared.transfer.Transfer.TheVariants.{Idle, Download, Upload}
use Rattle.cop_sdo.specs.Request.{Request, Give, GiveUnsized, Begin, Segment, Ask, AskSegment, Cancel, Unknown, request_of, is_heard, requests}
use Rattle.cop_sdo.specs.Service.{downloads, after, narrow}
use Rattle.cop_sdo.specs.Answers.{reply, download_answer, segment_answer, value_answer, upload_segment}
use Rattle.cop_sdo.specs.Server.{State, Moved, idle, stays, stored, taken, asked, sent_on, settled, step, is_too_long, is_too_short, short_of_memory, TakesNoMemory, nowhere, running_at}
use Rattle.cop_sdo.specs.Serve.{Serving, Served, replied, MayServe, Serves, ran_out, is_answered, granted}
use Rattle.cop_sdo.proofs.Downloads.{pending, one}
use Rattle.cop_sdo.proofs.Serving.{pending-end}

-- a request is answered, and what is answered by an abort leaves the server idle and the dictionary as it was
pub record IsAnswered (m : Moved) (dict : List Entry) : Type 0 where
  pub body : List ℕ
  pub is : m.answer ≡ Some body
  pub aborts_alone : (slice_index body 0 == 0x80) ≡ true → (m.state ≡ idle) × (m.dict ≡ dict)

aborted : (dict : List Entry) (at : Address) (abort : Abort) → IsAnswered (settled dict at (Err abort)) dict
aborted dict at abort = record { body = _; is = refl; aborts_alone = λ _. (refl, refl) }

-- a body that begins with another byte
plain : (m : Moved) (dict : List Entry) (body : List ℕ) → m.answer ≡ Some body → (slice_index body 0 == 0x80) ≡ false → IsAnswered m dict
plain m dict body is other = record { body = body; is = is; aborts_alone = λ h. absurd (clash h) }
  where
    clash : (slice_index body 0 == 0x80) ≡ true → ⊥
    clash h = let no : true ≡ false = sym h ∙ other in cc

segment_first : (toggle : Bool) → (slice_index (segment_answer toggle) 0 == 0x80) ≡ false
segment_first true = refl
segment_first false = refl

value_first : (n : ℕ) → (0x43 + 4 * (4 - n) == 0x80) ≡ false
value_first n = grind (arith, nat_tests)

upload_first : (toggle last : Bool) (n : ℕ) → ((cond toggle 16 0) + 2 * (7 - n) + (cond last 1 0) == 0x80) ≡ false
upload_first true true n = grind (arith, nat_tests)
upload_first true false n = grind (arith, nat_tests)
upload_first false true n = grind (arith, nat_tests)
upload_first false false n = grind (arith, nat_tests)

stores : (w : Result (List Entry) Abort) (dict : List Entry) (at : Address) (answer : List ℕ) → (slice_index answer 0 == 0x80) ≡ false
    → IsAnswered (settled dict at (w >>= λ new. stays idle new answer)) dict
stores (Err a) dict at answer h = aborted dict at a
stores (Ok new) dict at answer h = plain _ dict answer refl h

module _ (dict : List Entry) where
  begins : (a : Result (Option ℕ) Abort) (b : Bool) (at : Address) (size : Option ℕ)
      → IsAnswered (settled dict at (a >>= λ width. cond b (Err aborts.TooLong) (stays (record { transfer = Download at size false; bytes = [] }) dict (download_answer at)))) dict
  begins (Err a) b at size = aborted dict at a
  begins (Ok width) true at size = aborted dict at aborts.TooLong
  begins (Ok width) false at size = plain _ dict (download_answer at) refl refl

  unsized : (a : Result (Option ℕ) Abort) (at : Address) (four : List ℕ)
      → IsAnswered (settled dict at (a >>= λ width. narrow width >>= λ count. stored dict at (take count four) (download_answer at))) dict
  unsized (Err a) at four = aborted dict at a
  unsized (Ok width) at four = by_count (narrow width)
    where
      by_count : (n : Result ℕ Abort) → IsAnswered (settled dict at (n >>= λ count. stored dict at (take count four) (download_answer at))) dict
      by_count (Err a) = aborted dict at a
      by_count (Ok count) = stores (written dict at.index at.sub (take count four)) dict at (download_answer at) refl

  segment_in : (same long short last : Bool) (at : Address) (size : Option ℕ) (toggle : Bool) (bytes : List ℕ) → is_too_short size (length bytes) ≡ short
      → IsAnswered (settled dict at (cond (not same) (Err aborts.Toggle) (cond long (Err aborts.TooLong) (taken dict at size toggle bytes last)))) dict
  segment_in false long short last at size toggle bytes h = aborted dict at aborts.Toggle
  segment_in true true short last at size toggle bytes h = aborted dict at aborts.TooLong
  segment_in true false short false at size toggle bytes h = plain _ dict (segment_answer toggle) refl (segment_first toggle)
  segment_in true false true true at size toggle bytes h = rw h (aborted dict at aborts.TooShort)
  segment_in true false false true at size toggle bytes h = rw h (stores (written dict at.index at.sub bytes) dict at (segment_answer toggle) (segment_first toggle))

  segment_of : (transfer : Transfer) (so_far : List ℕ) (t last : Bool) (bytes : List ℕ) → IsAnswered (step (record { transfer = transfer; bytes = so_far }) dict (Segment t bytes last)) dict
  segment_of Idle so_far t last bytes = aborted dict nowhere aborts.Command
  segment_of (Upload at sent toggle) so_far t last bytes = aborted dict at aborts.Command
  segment_of (Download at size toggle) so_far t last bytes =
      segment_in (beq t toggle) (is_too_long size (length so_far + length bytes)) (is_too_short size (length (so_far ++ bytes))) last at size toggle (so_far ++ bytes) refl

  asks : (r : Result (List ℕ) Abort) (at : Address) → IsAnswered (settled dict at (r >>= λ bytes. Ok (asked dict at bytes))) dict
  asks (Err a) at = aborted dict at a
  asks (Ok bytes) at = by_length (nat_lt 0 (length bytes) && nat_le (length bytes) 4) refl
    where
      by_length : (b : Bool) → (nat_lt 0 (length bytes) && nat_le (length bytes) 4) ≡ b → IsAnswered (asked dict at bytes) dict
      by_length true e = rw e (plain _ dict (value_answer at bytes) refl (value_first (length bytes)))
      by_length false e = rw e (plain _ dict _ refl refl)

  asks_on : (transfer : Transfer) (bytes : List ℕ) (t : Bool) → IsAnswered (step (record { transfer = transfer; bytes = bytes }) dict (AskSegment t)) dict
  asks_on Idle bytes t = aborted dict nowhere aborts.Command
  asks_on (Download at size toggle) bytes t = aborted dict at aborts.Command
  asks_on (Upload at sent toggle) bytes t = by_toggle (beq t toggle) refl
    where
      by_place : (b : Bool) → nat_le (length bytes) (sent + 7) ≡ b → IsAnswered (sent_on (record { transfer = Upload at sent toggle; bytes = bytes }) dict at sent toggle) dict
      by_place true e = rw e (plain _ dict (upload_segment toggle (drop sent bytes) true) refl (upload_first toggle true (length (drop sent bytes))))
      by_place false e = rw e (plain _ dict (upload_segment toggle (take 7 (drop sent bytes)) false) refl (upload_first toggle false (length (take 7 (drop sent bytes)))))

      by_toggle : (b : Bool) → beq t toggle ≡ b → IsAnswered (step (record { transfer = Upload at sent toggle; bytes = bytes }) dict (AskSegment t)) dict
      by_toggle false e = rw e (aborted dict at aborts.Toggle)
      by_toggle true e = rw e (by_place (nat_le (length bytes) (sent + 7)) refl)

-- every request but the client's abort
abbrev pub IsCancel : Request → Type 0
IsCancel Cancel = Unit {0}
IsCancel _ = ⊥

pub answered : (state : State) (dict : List Entry) (r : Request) → (IsCancel r → ⊥) → IsAnswered (step state dict r) dict
answered state dict (Give at bytes) out = stores (written dict at.index at.sub bytes) dict at (download_answer at) refl
answered state dict (GiveUnsized at four) out = unsized dict (admitted dict at.index at.sub None) at four
answered state dict (Begin at size) out = begins dict (admitted dict at.index at.sub size) (option_map_or (λ stated. nat_lt 65535 stated) size false) at size
answered state dict (Segment t bytes last) out = segment_of dict state.transfer state.bytes t last bytes
answered state dict (Ask at) out = asks dict (read_of dict at.index at.sub) at
answered state dict (AskSegment t) out = asks_on dict state.transfer state.bytes t
answered state dict Cancel out = absurd (out tt)
answered state dict (Unknown at) out = aborted dict (running_at state.transfer at) aborts.Command

granted_cancel : (rs : List Request) (later : List Message) → granted (Cancel ∷ rs) later ≡ Cancel ∷ granted rs later
granted_cancel rs [] = refl
granted_cancel rs (a ∷ later) = refl

both_left : (a b : Bool) → (a && b) ≡ true → a ≡ true
both_left true b h = refl
both_left false b h = cc

abbrev Leads : Request → List Request → State → List Entry → Served → List Message → List Entry → Type 0
Leads r rs state dict next later value =
    value ≡ after next.dict (pending next.server.state (granted rs later) ++ downloads (granted rs later))

abbrev Ends : Request → List Request → State → List Entry → List Message → List Entry → Type 0
Ends r rs state dict answers value = value ≡ after dict (pending state (granted (r ∷ rs) answers) ++ downloads (granted (r ∷ rs) answers))

-- the client's abort
cancelled : (node : ℕ) (rs : List Request) (state : State) (dict : List Entry) (next : Served) (later answers : List Message) (value : List Entry)
    → next ≡ replied node (step state dict Cancel) → answers ≡ option_to_list next.answer ++ later
    → Leads Cancel rs state dict next later value → Ends Cancel rs state dict answers value
cancelled node rs state dict next later answers value is all h =
    let said = rw is at all in
    let led = rw is at h in
    rw (said, granted_cancel rs later) (led ∙ one Cancel (granted rs later) state dict (downloads (granted rs later)))

-- a request that the server answers by an abort for want of memory
refused : (node : ℕ) (r : Request) (rs : List Request) (state : State) (dict : List Entry) (next : Served) (later answers : List Message) (value : List Entry) → is_answered r ≡ true
    → next ≡ replied node (short_of_memory state dict r) → answers ≡ option_to_list next.answer ++ later
    → Leads r rs state dict next later value → Ends r rs state dict answers value
refused node r rs state dict next later answers value counts is all h =
    let said = rw is at all in
    let led = rw is at h in
    rw (said, counts) (led ∙ one Cancel (granted rs later) state dict (downloads (granted rs later)))

-- a request that is answered as it is due
due_one : (node : ℕ) (r : Request) (rs : List Request) (state : State) (dict : List Entry) (next : Served) (later answers : List Message) (value : List Entry) → is_answered r ≡ true
    → IsAnswered (step state dict r) dict
    → next ≡ replied node (step state dict r) → answers ≡ option_to_list next.answer ++ later
    → Leads r rs state dict next later value → Ends r rs state dict answers value
due_one node r rs state dict next later answers value counts a is all h =
    let given = rw is at all in
    let said = rw a.is at given in
    let led = rw is at h in
    rw (said, counts) (by_answer (ran_out (reply node a.body)) refl led)
  where
    by_answer : (b : Bool) → ran_out (reply node a.body) ≡ b
        → value ≡ after (step state dict r).dict (pending (step state dict r).state (granted rs later) ++ downloads (granted rs later))
        → value ≡ after dict (pending state ((cond b Cancel r) ∷ granted rs later) ++ downloads ((cond b Cancel r) ∷ granted rs later))
    by_answer false e led = led ∙ one r (granted rs later) state dict (downloads (granted rs later))
    by_answer true e led =
        let p = a.aborts_alone (both_left _ _ e) in
        (rw (p.0, p.1) at led) ∙ one Cancel (granted rs later) state dict (downloads (granted rs later))

heard : (node : ℕ) (r : Request) (rs : List Request) (state : State) (dict : List Entry) (next : Served) (later answers : List Message) (value : List Entry)
    → (next ≡ replied node (step state dict r)) ⊎ (next ≡ replied node (short_of_memory state dict r)) → (TakesNoMemory state dict r → next ≡ replied node (step state dict r))
    → answers ≡ option_to_list next.answer ++ later → Leads r rs state dict next later value → Ends r rs state dict answers value
heard node Cancel rs state dict next later answers value either sure all h = cancelled node rs state dict next later answers value (sure tt) all h
heard node (Give at bytes) rs state dict next later answers value either sure all h =
    elim either [ inl e ↦ due_one node _ rs state dict next later answers value refl (answered state dict (Give at bytes) (λ x. x)) e all h | inr e ↦ refused node _ rs state dict next later answers value refl e all h ]
heard node (GiveUnsized at four) rs state dict next later answers value either sure all h =
    elim either [ inl e ↦ due_one node _ rs state dict next later answers value refl (answered state dict (GiveUnsized at four) (λ x. x)) e all h | inr e ↦ refused node _ rs state dict next later answers value refl e all h ]
heard node (Begin at size) rs state dict next later answers value either sure all h =
    elim either [ inl e ↦ due_one node _ rs state dict next later answers value refl (answered state dict (Begin at size) (λ x. x)) e all h | inr e ↦ refused node _ rs state dict next later answers value refl e all h ]
heard node (Segment t bytes last) rs state dict next later answers value either sure all h =
    elim either [ inl e ↦ due_one node _ rs state dict next later answers value refl (answered state dict (Segment t bytes last) (λ x. x)) e all h | inr e ↦ refused node _ rs state dict next later answers value refl e all h ]
heard node (Ask at) rs state dict next later answers value either sure all h =
    elim either [ inl e ↦ due_one node _ rs state dict next later answers value refl (answered state dict (Ask at) (λ x. x)) e all h | inr e ↦ refused node _ rs state dict next later answers value refl e all h ]
heard node (AskSegment t) rs state dict next later answers value either sure all h =
    elim either [ inl e ↦ due_one node _ rs state dict next later answers value refl (answered state dict (AskSegment t) (λ x. x)) e all h | inr e ↦ refused node _ rs state dict next later answers value refl e all h ]
heard node (Unknown at) rs state dict next later answers value either sure all h =
    elim either [ inl e ↦ due_one node _ rs state dict next later answers value refl (answered state dict (Unknown at) (λ x. x)) e all h | inr e ↦ refused node _ rs state dict next later answers value refl e all h ]

one_frame : (server : Serving) (dict : List Entry) (frame : Message) (frames : List Message) (next : Served) (later answers : List Message) (value : List Entry) (b : Bool) → is_heard server.node frame ≡ b
    → MayServe server dict frame next → answers ≡ option_to_list next.answer ++ later
    → value ≡ after next.dict (pending next.server.state (granted (requests next.server.node frames) later) ++ downloads (granted (requests next.server.node frames) later))
    → value ≡ after dict (pending server.state (granted (requests server.node (frame ∷ frames)) answers) ++ downloads (granted (requests server.node (frame ∷ frames)) answers))
one_frame server dict frame frames next later answers value false e may all h =
    elim may.either [
      | inl is ↦ let same = rw e at is in let said = rw same at all in rw (e, said) (rw same at h)
      | inr is ↦ absurd (clash is.0)
    ]
  where
    clash : is_heard server.node frame ≡ true → ⊥
    clash t = let no : true ≡ false = sym t ∙ e in cc
one_frame server dict frame frames next later answers value true e may all h =
    let kept : next.server.node ≡ server.node = elim may.either [ inl is ↦ rw (is, e) refl | inr is ↦ rw is.1 refl ] in
    let led = rw kept at h in
    let sure = may.sure in
    rw e (heard server.node (request_of frame.body) (requests server.node frames) server.state dict next later answers value
    (elim may.either [ inl is ↦ inl (rw e at is) | inr is ↦ inr is.1 ]) (λ t. rw e at (sure t)) all led)

whole : (frames answers : List Message) (server : Serving) (dict : List Entry) (server' : Serving) (dict' : List Entry)
    → Serves server dict frames answers server' dict'
    → dict' ≡ after dict (pending server.state (granted (requests server.node frames) answers) ++ downloads (granted (requests server.node frames) answers))
whole [] answers server dict server' dict' h = rw (pending-end server.state.transfer server.state.bytes) h.2
whole (frame ∷ frames) answers server dict server' dict' h =
    one_frame server dict frame frames h.0 h.2 answers dict' (is_heard server.node frame) refl h.1 h.3 (whole frames h.2 h.0.server h.0.dict server' dict' h.4)

pub granted_from_idle : (server : Serving) (frames answers : List Message) (dict new : List Entry) (server' : Serving) → server.state ≡ idle
    → Serves server dict frames answers server' new → new ≡ after dict (downloads (granted (requests server.node frames) answers))
granted_from_idle server frames answers dict new server' is h = let all = whole frames answers server dict server' new h in rw is at all
