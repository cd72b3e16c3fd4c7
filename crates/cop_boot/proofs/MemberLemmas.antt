-- What the client of a member does with a setting and with its answer.
use Rattle.std.proofs.Common.{◌≡◌, ℕ, zero, suc, ◌<◌, ◌≤◌, Bool, true, false, ◌&&◌, List, [], ◌∷◌, length, take, refl, ap, sym, subst, ◌∙◌, arith, nat_lt, nat_le, Option, Some, None, Ok, Err, get_or}
use Rattle.std.specs.Prelude.{slice_get, if◌then◌else◌}
use Rattle.std.specs.Int.{bytes_low_first}
use Rattle.std.proofs.lemmas.Bool.Decides.{nat_tests}
use Rattle.cop_sdo.specs.Message.{Message}
use Rattle.cop_sdo.specs.Answers.{u32_bytes}
use Rattle.cop_dict.specs.declared.abort.Abort.TheVariants as aborts
use Rattle.cop_dict.specs.Codes.{code_of}
use Rattle.cop_sdo.specs.declared.task.Task.TheVariants as tasks
use Rattle.cop_sdo.specs.Outcome as progress
use Rattle.cop_sdo.specs.Reply.{Reply, Confirm, ConfirmSegment, Value, Size, Segment, Abort, Other, reply_of, is_answer}
use Rattle.cop_sdo.specs.Answers.{abort_body}
use Rattle.cop_sdo.specs.Exchange.{IsDownloading}
use Rattle.cop_sdo.specs.Client.{Asking, Calling, Called, called, concluded, reacted, request, same_address, is_idle, done, resting}
use Rattle.cop_sdo.specs.Calls.{Started, downloading, given, is_short}
use Rattle.cop_sdo.specs.declared.fault.ClientFault.{ClientFault}
use Rattle.cop_sdo.proofs.Confirmed.{started_so}
use Rattle.cop_sdo.specs.declared.address.Address.{Address}
use Rattle.cop_setup.specs.declared.setting.Setting.{Setting}
use Rattle.cop_setup.specs.declared.setting.Width.{Width}
use Rattle.cop_setup.specs.declared.setting.Width.TheVariants.{One, Two, Four}
use Rattle.cop_setup.specs.Width.{size_of}
use Rattle.cop_boot.specs.declared.«end».Phase.TheVariants.{Sending, Over}
use Rattle.cop_setup.specs.Settings.{bytes_of}
use Rattle.cop_boot.specs.Settings.{address_of}
use Rattle.cop_boot.specs.Node.{Node, Moved, goes_on, sends, request_of, refusal, own_abort, ended_at, answered, answered_in, answer_to, judged}
use Rattle.cop_boot.specs.Member.{IsAsking}

-- the value's bytes, as the processor gives them
pub four_bytes : (v : ℕ) → u32_bytes v ≡ bytes_low_first 0 4 v
four_bytes v = refl

pub taken_bytes : (s : Setting) → take (size_of s.width) (u32_bytes s.value) ≡ bytes_of s
taken_bytes s = by_width s.width
  where
    by_width : (w : Width) → take (size_of w) (u32_bytes s.value) ≡ bytes_low_first 0 (size_of w) s.value
    by_width One = refl
    by_width Two = refl
    by_width Four = refl

pub short_so : (s : Setting) → is_short (bytes_of s) ≡ true
short_so s = by_width s.width
  where
    by_width : (w : Width) → is_short (bytes_low_first 0 (size_of w) s.value) ≡ true
    by_width One = refl
    by_width Two = refl
    by_width Four = refl

pub few_bytes : (bytes : List ℕ) → is_short bytes ≡ true → (1 ≤ length bytes) × (length bytes ≤ 4)
few_bytes bytes h = (least (length bytes) h, most (length bytes) h)
  where
    least : (n : ℕ) → (nat_lt 0 n && nat_le n 4) ≡ true → 1 ≤ n
    least n h = grind (arith, nat_tests)

    most : (n : ℕ) → (nat_lt 0 n && nat_le n 4) ≡ true → n ≤ 4
    most n h = grind (arith, nat_tests)

-- what `download` gives for a setting that is there
pub record Downloads (client new : Calling) (s : Setting) (frame : Message) : Type 0 where
  pub client_is : new ≡ (given client.node (address_of s) (bytes_of s)).client
  pub frame_is : frame ≡ request_of client.node s

pub downloads : (client new : Calling) (s : Setting) (bytes : List ℕ) (frame : Message) → is_idle client.asking.task ≡ true
    → bytes ≡ take (size_of s.width) (u32_bytes s.value)
    → (1 ≤ length bytes → length bytes ≤ 4 → downloading client (address_of s) bytes ≡ Ok (let x : Started = record { client = new; frame = frame } in x)) → Downloads client new s frame
downloads client new s bytes frame idle is call =
    let same : bytes ≡ bytes_of s = is ∙ taken_bytes s in
    let few : is_short bytes ≡ true = ap is_short same ∙ short_so s in
    let size = few_bytes bytes few in
    let e = sym (started_so client (address_of s) bytes idle few) ∙ call size.0 size.1 in
    let g : given client.node (address_of s) bytes ≡ record { client = new; frame = frame } = cc in
    record {
      client_is = sym (ap (λ x. x.client) g);
      frame_is = sym (ap (λ x. x.frame) g) ∙ ap (λ bytes. (given client.node (address_of s) bytes).frame) same;
    }

pub get_at : (settings : List Setting) (j : ℕ) (s : Setting) → j < length settings → s ≡ get_or settings j s → slice_get settings j ≡ Some s
get_at [] j s l h = absurd (let g : ⊥ = omega arith in g)
get_at (x ∷ settings) zero s l h = ap Some (sym h)
get_at (x ∷ settings) (suc j) s l h = get_at settings j s (omega arith) h

pub get_past : (settings : List Setting) (j : ℕ) → length settings ≤ j → slice_get settings j ≡ None
get_past [] j l = refl
get_past (x ∷ settings) zero l = absurd (let g : ⊥ = omega arith in g)
get_past (x ∷ settings) (suc j) l = get_past settings j (omega arith)

pub size_at_most : (w : Width) → size_of w ≤ 4
size_at_most One = omega arith
size_at_most Two = omega arith
size_at_most Four = omega arith

pub take_size : (n v : ℕ) → n ≤ 4 → n ≡ length (take n (u32_bytes v))
take_size zero v h = refl
take_size (suc zero) v h = refl
take_size (suc (suc zero)) v h = refl
take_size (suc (suc (suc zero))) v h = refl
take_size (suc (suc (suc (suc zero)))) v h = refl
take_size (suc (suc (suc (suc (suc n))))) v h = absurd (let g : ⊥ = omega arith in g)

-- a setting is never refused
pub never_refused : (client new : Calling) (s : Setting) (bytes : List ℕ) (fault : ClientFault) → is_idle client.asking.task ≡ true
    → bytes ≡ take (size_of s.width) (u32_bytes s.value)
    → (1 ≤ length bytes → length bytes ≤ 4 → (downloading client (address_of s) bytes ≡ Err fault) × (new ≡ client)) → ⊥
never_refused client new s bytes fault idle is call =
    let same : bytes ≡ bytes_of s = is ∙ taken_bytes s in
    let few : is_short bytes ≡ true = ap is_short same ∙ short_so s in
    let size = few_bytes bytes few in
    let e : Ok (given client.node (address_of s) bytes) ≡ Err fault = sym (started_so client (address_of s) bytes idle few) ∙ (call size.0 size.1).0 in
    cc

pub moves_on : (node : Node) (done now : ℕ) (s : Setting) (frame : Message) → slice_get node.settings done ≡ Some s → frame ≡ request_of node.number s
    → (let out : Moved = record { node = record node { phase = Sending done now }; frame = Some frame } in out) ≡ goes_on node done now
moves_on node done now s frame there is =
    ap (λ f. let out : Moved = record { node = record node { phase = Sending done now }; frame = Some f } in out) is ∙ sym (ap (sends node done now) there)

get_same : (settings : List Setting) (j : ℕ) (s x : Setting) → slice_get settings j ≡ Some s → x ≡ get_or settings j x → x ≡ s
get_same [] j s x h e = cc
get_same (y ∷ settings) zero s x h e = let g : y ≡ s = cc in e ∙ g
get_same (y ∷ settings) (suc j) s x h e = get_same settings j s x h e

-- what the client makes of an answer to a setting
called_so : (client : Calling) (at : Address) (m : Message) → client.asking ≡ record { task = tasks.Giving at; bytes = [] } → is_answer client.node m ≡ true
    → called client m ≡ concluded client.node at (reacted [] (tasks.Giving at) (reply_of m.body))
called_so client at m e answer = rw (e, answer) refl

-- that it aborted, or was aborted, says the answer
record IsRefused (n : ℕ) (at : Address) (r : Reply) (code : ℕ) (frame : Option Message) : Type 0 where
  code_is : refusal at r ≡ Some code
  frame_is : own_abort n at r ≡ frame

aborted_so : (n : ℕ) (at : Address) (r : Reply) (new : Calling) (code : ℕ)
    → (let x : Called = record { client = new; progress = progress.Aborted code } in x) ≡ concluded n at (reacted [] (tasks.Giving at) r) → IsRefused n at r code None
aborted_so n at (Confirm other) new code h = by_test (same_address at other) h
  where
    by_test : (b : Bool) → (let x : Called = record { client = new; progress = progress.Aborted code } in x) ≡ concluded n at (if b then done [] else Err aborts.Command) → IsRefused n at (Confirm other) code None
    by_test true h = absurd (let g = ap (λ x. x.progress) h in cc)
    by_test false h = absurd (let g = ap (λ x. x.progress) h in cc)
aborted_so n at (ConfirmSegment t) new code h = absurd (let g = ap (λ x. x.progress) h in cc)
aborted_so n at (Value other bytes) new code h = absurd (let g = ap (λ x. x.progress) h in cc)
aborted_so n at (Size other size) new code h = absurd (let g = ap (λ x. x.progress) h in cc)
aborted_so n at (Segment t bytes last) new code h = absurd (let g = ap (λ x. x.progress) h in cc)
aborted_so n at (Abort c) new code h = let g : progress.Aborted code ≡ progress.Aborted c = ap (λ x. x.progress) h in record { code_is = cc; frame_is = refl }
aborted_so n at Other new code h = absurd (let g = ap (λ x. x.progress) h in cc)

ended_so : (n : ℕ) (at : Address) (r : Reply) (new : Calling) (frame : Message) (code : ℕ)
    → (let x : Called = record { client = new; progress = progress.Ended frame code } in x) ≡ concluded n at (reacted [] (tasks.Giving at) r) → IsRefused n at r code (Some frame)
ended_so n at (Confirm other) new frame code h = by_test (same_address at other) refl h
  where
    by_test : (b : Bool) → same_address at other ≡ b → (let x : Called = record { client = new; progress = progress.Ended frame code } in x) ≡ concluded n at (if b then done [] else Err aborts.Command)
        → IsRefused n at (Confirm other) code (Some frame)
    by_test true e h = absurd (let g = ap (λ x. x.progress) h in cc)
    by_test false e h =
        let g : progress.Ended frame code ≡ progress.Ended (request n (abort_body at (code_of aborts.Command))) (code_of aborts.Command) = ap (λ x. x.progress) h in
        record { code_is = rw e cc; frame_is = cc }
ended_so n at (ConfirmSegment t) new frame code h =
    let g : progress.Ended frame code ≡ progress.Ended (request n (abort_body at (code_of aborts.Command))) (code_of aborts.Command) = ap (λ x. x.progress) h in record { code_is = cc; frame_is = cc }
ended_so n at (Value other bytes) new frame code h =
    let g : progress.Ended frame code ≡ progress.Ended (request n (abort_body at (code_of aborts.Command))) (code_of aborts.Command) = ap (λ x. x.progress) h in record { code_is = cc; frame_is = cc }
ended_so n at (Size other size) new frame code h =
    let g : progress.Ended frame code ≡ progress.Ended (request n (abort_body at (code_of aborts.Command))) (code_of aborts.Command) = ap (λ x. x.progress) h in record { code_is = cc; frame_is = cc }
ended_so n at (Segment t bytes last) new frame code h =
    let g : progress.Ended frame code ≡ progress.Ended (request n (abort_body at (code_of aborts.Command))) (code_of aborts.Command) = ap (λ x. x.progress) h in record { code_is = cc; frame_is = cc }
ended_so n at (Abort c) new frame code h = absurd (let g = ap (λ x. x.progress) h in cc)
ended_so n at Other new frame code h =
    let g : progress.Ended frame code ≡ progress.Ended (request n (abort_body at (code_of aborts.Command))) (code_of aborts.Command) = ap (λ x. x.progress) h in record { code_is = cc; frame_is = cc }

-- an answer that ends a node
module _ (node : Node) (client new : Calling) (m : Message) (now done_so since : ℕ) (x : Setting) (phase : node.phase ≡ Sending done_so since) (asks : IsAsking node.settings client node.phase)
    (number : client.node ≡ node.number) (answer : is_answer node.number m ≡ true) (read : x ≡ get_or node.settings done_so x) where
  asked : IsAsking node.settings client (Sending done_so since)
  asked = subst (IsAsking node.settings client) phase asks

  is_it : x ≡ asked.0
  is_it = get_same node.settings done_so asked.0 x asked.1 read

  asking_x : client.asking ≡ record { task = tasks.Giving (address_of x); bytes = [] }
  asking_x = asked.2 ∙ ap (λ s. let a : Asking = record { task = tasks.Giving (address_of s); bytes = [] } in a) (sym is_it)

  there_x : slice_get node.settings done_so ≡ Some x
  there_x = asked.1 ∙ ap Some (sym is_it)

  ends_so : (code : ℕ) (frame : Option Message) → IsRefused node.number (address_of x) (reply_of m.body) code frame
      → (let out : Moved = record { node = record node { phase = Over (ended_at node.number x code) }; frame = frame } in out) ≡ answered node now m.body
  ends_so code frame r =
      sym (ap (answered_in node now m.body) phase ∙ ap (answer_to node done_so now m.body) there_x ∙ ap (judged node done_so now x (reply_of m.body)) r.code_is
      ∙ ap (λ f. let out : Moved = record { node = record node { phase = Over (ended_at node.number x code) }; frame = f } in out) r.frame_is)

  called_x : called client m ≡ concluded node.number (address_of x) (reacted [] (tasks.Giving (address_of x)) (reply_of m.body))
  called_x = called_so client (address_of x) m asking_x (rw number answer) ∙ ap (λ n. concluded n (address_of x) (reacted [] (tasks.Giving (address_of x)) (reply_of m.body))) number

  sure : (next : Called) → (IsDownloading client.asking.task → next ≡ called client m) → next ≡ concluded node.number (address_of x) (reacted [] (tasks.Giving (address_of x)) (reply_of m.body))
  sure next h = h (rw asking_x tt) ∙ called_x

  pub aborted_moves : (code : ℕ) → (IsDownloading client.asking.task → (let y : Called = record { client = new; progress = progress.Aborted code } in y) ≡ called client m)
      → (let out : Moved = record { node = record node { phase = Over (ended_at node.number x code) }; frame = None } in out) ≡ answered node now m.body
  aborted_moves code h = ends_so code None (aborted_so node.number (address_of x) (reply_of m.body) new code (sure (record { client = new; progress = progress.Aborted code }) h))

  pub ended_moves : (frame : Message) (code : ℕ) → (IsDownloading client.asking.task → (let y : Called = record { client = new; progress = progress.Ended frame code } in y) ≡ called client m)
      → (let out : Moved = record { node = record node { phase = Over (ended_at node.number x code) }; frame = Some frame } in out) ≡ answered node now m.body
  ended_moves frame code h = ends_so code (Some frame) (ended_so node.number (address_of x) (reply_of m.body) new frame code (sure (record { client = new; progress = progress.Ended frame code }) h))

  pub ended_rests : (frame : Message) (code : ℕ) → (IsDownloading client.asking.task → (let y : Called = record { client = new; progress = progress.Ended frame code } in y) ≡ called client m)
      → new ≡ record { node = node.number; asking = resting }
  ended_rests frame code h = rests node.number (address_of x) (reply_of m.body) (sure (record { client = new; progress = progress.Ended frame code }) h)
    where
      rests : (n : ℕ) (at : Address) (r : Reply) → (let y : Called = record { client = new; progress = progress.Ended frame code } in y) ≡ concluded n at (reacted [] (tasks.Giving at) r)
          → new ≡ record { node = n; asking = resting }
      rests n at (Confirm other) h = by_test (same_address at other) h
        where
          by_test : (b : Bool) → (let y : Called = record { client = new; progress = progress.Ended frame code } in y) ≡ concluded n at (if b then done [] else Err aborts.Command)
              → new ≡ record { node = n; asking = resting }
          by_test true h = ap (λ x. x.client) h
          by_test false h = ap (λ x. x.client) h
      rests n at (ConfirmSegment t) h = ap (λ x. x.client) h
      rests n at (Value other bytes) h = ap (λ x. x.client) h
      rests n at (Size other size) h = ap (λ x. x.client) h
      rests n at (Segment t bytes last) h = ap (λ x. x.client) h
      rests n at (Abort c) h = ap (λ x. x.client) h
      rests n at Other h = ap (λ x. x.client) h
