-- A whole list of frames.
use Rattle.std.proofs.Common.{◌≡◌, ℕ, ◌+◌, Bool, true, false, Option, Some, None, option_map, map, List, [], ◌∷◌, ◌++◌, All, refl, ap, sym, ◌∙◌, inl, inr, option_to_list, length, drop, get_or, ◌<◌, ◌≤◌, add-one, drop-cons, append_assoc, append-nil}
use Rattle.std.proofs.lemmas.List.{map-append, length-map, get_or-map}
use Rattle.std.proofs.Math.ListN.{drop_of_length-le}
use Rattle.std.specs.List.{AllByRecursion as Each}
use Rattle.std.proofs.lemmas.List.Elements.{recursion_from_All}
use Rattle.cop_dict.specs.Find.{Entry}
use Rattle.cop_frame.specs.declared.frames.Frame.{Frame}
use Rattle.cop_sdo.specs.Message.{Message, message_of}
use Rattle.cop_sdo.specs.declared.transfer.Transfer.{Transfer}
use Rattle.cop_sdo.specs.declared.transfer.Transfer.TheVariants.{Idle, Download, Upload}
use Rattle.cop_sdo.specs.Request.{request_of, is_heard, requests}
use Rattle.cop_sdo.specs.Service.{downloads, after}
use Rattle.cop_sdo.specs.Server.{idle, short_of_memory}
use Rattle.cop_sdo.specs.Serve.{Serving, Served, replied, due, MayServe, Serves, ran_out}
use Rattle.cop_sdo.proofs.Downloads.{pending, pending_of, one}

pub pending-end : (t : Transfer) (bytes : List ℕ) → pending_of t bytes [] ≡ []
pending-end Idle bytes = refl
pending-end (Upload at sent toggle) bytes = refl
pending-end (Download at size toggle) bytes = refl

tail : (front later : List Message) → Each (λ answer. ran_out answer ≡ false) (front ++ later) → Each (λ answer. ran_out answer ≡ false) later
tail [] later h = h
tail (answer ∷ front) later h = tail front later h.1

-- where no answer says that memory was refused, the server did what is due
was_due : (server : Serving) (dict : List Entry) (frame : Message) (next : Served) (later : List Message) → MayServe server dict frame next
    → Each (λ answer. ran_out answer ≡ false) (option_to_list next.answer ++ later) → next ≡ due server dict frame
was_due server dict frame next later may granted =
    elim may.either [ inl e ↦ e | inr e ↦ absurd (never_due (rw e.1 at granted)) ]
  where
    never_due : Each (λ answer. ran_out answer ≡ false) (option_to_list (replied server.node (short_of_memory server.state dict (request_of frame.body))).answer ++ later) → ⊥
    never_due h = let e = h.0 in cc

-- what one frame completes
one_frame : (server : Serving) (dict : List Entry) (frame : Message) (frames : List Message) (b : Bool) → is_heard server.node frame ≡ b
    → after (due server dict frame).dict (pending (due server dict frame).server.state (requests (due server dict frame).server.node frames) ++ downloads (requests (due server dict frame).server.node frames))
    ≡ after dict (pending server.state (requests server.node (frame ∷ frames)) ++ downloads (requests server.node (frame ∷ frames)))
one_frame server dict frame frames false e = rw e refl
one_frame server dict frame frames true e = rw e (one (request_of frame.body) (requests server.node frames) server.state dict (downloads (requests server.node frames)))

written : (frames answers : List Message) (server : Serving) (dict : List Entry) (server' : Serving) (dict' : List Entry)
    → Serves server dict frames answers server' dict' → Each (λ answer. ran_out answer ≡ false) answers
    → dict' ≡ after dict (pending server.state (requests server.node frames) ++ downloads (requests server.node frames))
written [] answers server dict server' dict' h granted = rw (pending-end server.state.transfer server.state.bytes) h.2
written (frame ∷ frames) answers server dict server' dict' h granted =
    let all = rw h.3 at granted in
    let is = was_due server dict frame h.0 h.2 h.1 all in
    let later = written frames h.2 h.0.server h.0.dict server' dict' h.4 (tail (option_to_list h.0.answer) h.2 all) in
    (rw is at later) ∙ one_frame server dict frame frames (is_heard server.node frame) refl

pub from_idle : (server : Serving) (frames answers : List Message) (dict new : List Entry) (server' : Serving) → server.state ≡ idle
    → Serves server dict frames answers server' new → All (λ answer. ran_out answer ≡ false) answers
    → new ≡ after dict (downloads (requests server.node frames))
from_idle server frames answers dict new server' is h granted =
    let all = written frames answers server dict server' new h (recursion_from_All _ answers granted) in rw is at all

-- what may be done with the rest, behind the answers so far, may be done with all
abbrev pub GoesOn : Serving → List Entry → List Message → List Message → Serving → List Entry → List Message → Type 0
GoesOn server dict frames answers mid now rest =
    (later : List Message) (server' : Serving) (dict' : List Entry) → Serves mid now rest later server' dict' → Serves server dict frames (answers ++ later) server' dict'

pub one_more : (server : Serving) (dict : List Entry) (frames answers new : List Message) (mid : Serving) (now : List Entry) (i : ℕ) (d : Message) (next : Served)
    → GoesOn server dict frames answers mid now (drop i frames) → i < length frames → MayServe mid now (get_or frames i d) next
    → new ≡ answers ++ option_to_list next.answer → GoesOn server dict frames new next.server next.dict (drop (i + 1) frames)
one_more server dict frames answers new mid now i d next goes lt may is later server' dict' h =
    let cut : drop i frames ≡ get_or frames i d ∷ drop (i + 1) frames = rw (add-one) (drop-cons frames i d lt) in
    let all = goes (option_to_list next.answer ++ later) server' dict' (rw cut (next, may, later, refl, h)) in
    rw (is, append_assoc) all

sent_on : (answers : List Frame) (sent : Option Frame) → map message_of (answers ++ option_to_list sent) ≡ map message_of answers ++ option_to_list (option_map message_of sent)
sent_on answers None = map-append message_of answers []
sent_on answers (Some frame) = map-append message_of answers (frame ∷ [])

-- the same, of the frames that messages are
pub one_frame_more : (server : Serving) (dict : List Entry) (frames answers new : List Frame) (mid : Serving) (now : List Entry) (i : ℕ) (frame : Frame) (server' : Serving) (dict' : List Entry) (sent : Option Frame)
    → GoesOn server dict (map message_of frames) (map message_of answers) mid now (drop i (map message_of frames)) → i < length frames
    → frame ≡ get_or frames i frame
    → MayServe mid now (message_of frame) (record { server = server'; dict = dict'; answer = option_map message_of sent })
    → new ≡ answers ++ option_to_list sent → GoesOn server dict (map message_of frames) (map message_of new) server' dict' (drop (i + 1) (map message_of frames))
one_frame_more server dict frames answers new mid now i frame server' dict' sent goes lt here may is =
    let inside : i < length (map message_of frames) = rw (length-map frames message_of) lt in
    let same : message_of frame ≡ get_or (map message_of frames) i (message_of frame) = ap message_of here ∙ sym (get_or-map message_of frames i frame (message_of frame) lt) in
    let heard = rw same at may in
    one_more server dict (map message_of frames) (map message_of answers) (map message_of new) mid now i (message_of frame) _ goes inside heard (rw is (sent_on answers sent))

pub past : (frames : List Frame) (i : ℕ) → length frames ≤ i → length (map message_of frames) ≤ i
past frames i le = rw (length-map frames message_of) le

pub all_done : (server : Serving) (dict : List Entry) (frames answers : List Message) (mid : Serving) (now : List Entry) (i : ℕ)
    → GoesOn server dict frames answers mid now (drop i frames) → length frames ≤ i → Serves server dict frames answers mid now
all_done server dict frames answers mid now i goes le =
    let none : drop i frames ≡ [] = drop_of_length-le frames le in
    let all = goes [] mid now (rw none (refl, refl, refl)) in
    rw append-nil at all
