-- Channels as a log of frames, and how many of them are behind.
use Rattle.std.proofs.Common.{◌≡◌, ◌==◌, ℕ, zero, suc, ◌+◌, ◌<◌, ◌≤◌, Bool, true, false, cond, List, [], ◌∷◌, ◌++◌, map, length, drop, set, get_or, refl, ap, sym, subst, ◌∙◌, arith, nat_lt, Option, Some, None, ◌⊎◌, inl, inr}
use Rattle.std.proofs.lemmas.Bool.{eqb-true}
use Rattle.std.specs.Prelude.{filter, option_to_list}
use Rattle.std.specs.List.{position, position_or_len}
use Rattle.std.proofs.lemmas.Bool.Decides.{nat_tests}
use Rattle.std.proofs.lemmas.List.{append-nil, map-append, drop-append-le}
use Rattle.std.proofs.lemmas.List.Elements.{filter-append}
use Rattle.std.proofs.lemmas.List.Sums.{fails_before_first, passes_at_first}
use Rattle.cop_frame.specs.declared.frames.Frame.{Frame}
use Rattle.cop_sdo.specs.Message.{Message, message_of}
use Rattle.cop_boot.specs.declared.bus.Answer.{Answer}
use Rattle.cop_boot.specs.declared.bus.Bus.{Bus}
use Rattle.cop_boot.specs.Device.{Attached, Responded, MayRespond}
use Rattle.cop_boot.specs.Booted.{device_of}
use Rattle.cop_boot.specs.Schedule.{Line, is_for, DeliveredBy}
use Rattle.cop_boot.specs.Bus.{to_of, from_of, line_at}

-- the device of a node, and the same in another state
module _ (n : ℕ) where
  abbrev here : Attached → Bool
  here d = d.number == n

  pub device_found : (devices : List Attached) (place : ℕ) (d : Attached) → place < length devices → ((k : ℕ) (e : Attached) → k < place → here (get_or devices k e) ≡ false)
      → here (get_or devices place d) ≡ true → device_of devices n ≡ Some (get_or devices place d)
  device_found [] place d inside before at = absurd (let g : ⊥ = omega arith in g)
  device_found (x ∷ devices) zero d inside before at = rw at refl
  device_found (x ∷ devices) (suc place) d inside before at =
      rw (before 0 x (omega arith)) (device_found devices place d (omega arith) (λ k e l. before (suc k) e (omega arith)) at)

  pub device_put : (devices : List Attached) (place : ℕ) (new d : Attached) → place < length devices → ((k : ℕ) (e : Attached) → k < place → here (get_or devices k e) ≡ false)
      → here new ≡ true → device_of (set devices place new) n ≡ Some new
  device_put [] place new d inside before is = absurd (let g : ⊥ = omega arith in g)
  device_put (x ∷ devices) zero new d inside before is = rw is refl
  device_put (x ∷ devices) (suc place) new d inside before is =
      rw (before 0 x (omega arith)) (device_put devices place new d (omega arith) (λ k e l. before (suc k) e (omega arith)) is)

  pub device_absent : (devices : List Attached) → ((k : ℕ) (e : Attached) → k < length devices → here (get_or devices k e) ≡ false) → device_of devices n ≡ None
  device_absent [] before = refl
  device_absent (x ∷ devices) before = rw (before 0 x (omega arith)) (device_absent devices (λ k e l. before (suc k) e (omega arith)))

pub device_other : (n other : ℕ) (devices : List Attached) (place : ℕ) (new d : Attached) → place < length devices → (get_or devices place d).number ≡ n → new.number ≡ n → (other == n) ≡ false
    → device_of (set devices place new) other ≡ device_of devices other
device_other n other [] place new d inside at is apart = absurd (let g : ⊥ = omega arith in g)
device_other n other (x ∷ devices) zero new d inside at is apart =
    let a : (x.number == other) ≡ false = rw at (turned other n apart) in
    let b : (new.number == other) ≡ false = rw is (turned other n apart) in
    rw (a, b) refl
  where
    turned : (a b : ℕ) → (a == b) ≡ false → (b == a) ≡ false
    turned a b h = grind (arith, nat_tests)
device_other n other (x ∷ devices) (suc place) new d inside at is apart =
    ap (λ o. cond (x.number == other) (Some x) o) (device_other n other devices place new d (omega arith) at is apart)

less : (a b : ℕ) → nat_lt a b ≡ true → a < b
less a b h = grind (arith, nat_tests)

most : (a b : ℕ) → nat_lt a b ≡ false → b ≤ a
most a b h = grind (arith, nat_tests)

-- the first place that passes
pub record IsFirstAt {X : Type 0} (p : X → Bool) (xs : List X) (i : ℕ) : Type 0 where
  pub inside : i < length xs
  pub passes : (d : X) → p (get_or xs i d) ≡ true
  pub before : (k : ℕ) (d : X) → k < i → p (get_or xs k d) ≡ false

pub position_some : {X : Type 0} (p : X → Bool) (xs : List X) (i : ℕ) → position p xs ≡ Some i → IsFirstAt p xs i
position_some {X} p xs i h = by_test (nat_lt (position_or_len p xs) (length xs)) refl h
  where
    by_test : (b : Bool) → nat_lt (position_or_len p xs) (length xs) ≡ b → cond b (Some (position_or_len p xs)) None ≡ Some i → IsFirstAt p xs i
    by_test true e h =
        let same : position_or_len p xs ≡ i = cc in
        let l = less (position_or_len p xs) (length xs) e in
        subst (IsFirstAt p xs) same (record { inside = l; passes = λ d. passes_at_first p xs d l; before = λ k d k_less. fails_before_first p xs k d k_less })
    by_test false e h = cc

pub position_none : {X : Type 0} (p : X → Bool) (xs : List X) → position p xs ≡ None → (k : ℕ) (d : X) → k < length xs → p (get_or xs k d) ≡ false
position_none {X} p xs h = by_test (nat_lt (position_or_len p xs) (length xs)) refl h
  where
    by_test : (b : Bool) → nat_lt (position_or_len p xs) (length xs) ≡ b → cond b (Some (position_or_len p xs)) None ≡ None → (k : ℕ) (d : X) → k < length xs → p (get_or xs k d) ≡ false
    by_test true e h k d l = cc
    by_test false e h k d l = let all = most (position_or_len p xs) (length xs) e in fails_before_first p xs k d (omega (arith, l, all))

abbrev goes_to : ℕ → Frame → Bool
goes_to n frame = is_for n (message_of frame)

abbrev pub comes : ℕ → List Answer → List Message
comes n answers = map (λ answer. message_of answer.frame) (filter (λ answer. answer.node == n) answers)

-- what comes after more was sent
comes_more : (n h : ℕ) (answers more : List Answer) → h ≤ length answers → comes n (drop h (answers ++ more)) ≡ comes n (drop h answers) ++ comes n more
comes_more n h answers more l =
    ap (comes n) (drop-append-le h answers more l) ∙ ap (map (λ answer. message_of answer.frame)) (filter-append (λ answer. answer.node == n) (drop h answers) more)
    ∙ map-append (λ answer. message_of answer.frame) (filter (λ answer. answer.node == n) (drop h answers)) (filter (λ answer. answer.node == n) more)

set_here : (xs : List ℕ) (k n x : ℕ) → k ≡ n → n < length xs → get_or (set xs k x) n 0 ≡ x
set_here xs k n x e l = ap (λ k. get_or (set xs k x) n 0) e ∙ by_list xs n l
  where
    by_list : (xs : List ℕ) (n : ℕ) → n < length xs → get_or (set xs n x) n 0 ≡ x
    by_list [] n l = absurd (let g : ⊥ = omega arith in g)
    by_list (y ∷ xs) zero l = refl
    by_list (y ∷ xs) (suc n) l = by_list xs n (omega arith)

set_other : (xs : List ℕ) (k n other x : ℕ) → k ≡ n → (other == n) ≡ false → get_or (set xs k x) other 0 ≡ get_or xs other 0
set_other xs k n other x e apart = ap (λ k. get_or (set xs k x) other 0) e ∙ by_list xs n other apart
  where
    differ : (a b : ℕ) → (suc a == suc b) ≡ false → (a == b) ≡ false
    differ a b h = grind (arith, nat_tests)

    by_list : (xs : List ℕ) (n other : ℕ) → (other == n) ≡ false → get_or (set xs n x) other 0 ≡ get_or xs other 0
    by_list [] n other h = refl
    by_list (y ∷ xs) zero zero h = absurd (let g : true ≡ false = h in cc)
    by_list (y ∷ xs) zero (suc other) h = refl
    by_list (y ∷ xs) (suc n) zero h = refl
    by_list (y ∷ xs) (suc n) (suc other) h = by_list xs n other (differ other n h)

line_same : (n : ℕ) (to to' from from' : List Message) (device device' : Option Attached) → to ≡ to' → from ≡ from' → device ≡ device'
    → (let l : Line = record { number = n; to = to; from = from; device = device } in l) ≡ record { number = n; to = to'; from = from'; device = device' }
line_same n to to' from from' device device' a b c = rw (a, b, c) refl

-- a line whose channels are the same
pub line_from : (new old : Bus) (devices : List Attached) (n : ℕ) → new.sent ≡ old.sent → new.delivered ≡ old.delivered → from_of new n ≡ from_of old n → line_at new devices n ≡ line_at old devices n
line_from new old devices n sent delivered from = line_same n _ _ _ _ _ _ (rw (sent, delivered) refl) from refl

module _ (bus : Bus) (devices : List Attached) (n k place front : ℕ) (same : k ≡ n) (size : length bus.delivered ≡ 256) (low : n < 256) (device new : Attached)
    (first : IsFirstAt (λ d. d.number == n) devices place) (is : device ≡ get_or devices place device) (number : new.number ≡ n) where
  abbrev pub line_after : ℕ → List Answer → Line
  line_after other answers = record {
    number = other;
    to = map message_of (filter (goes_to other) (drop (get_or (set bus.delivered k (front + 1)) other 0) bus.sent.items));
    from = comes other (drop (get_or bus.heard other 0) answers);
    device = device_of (set devices place new) other;
  }

  -- the line of the node whose device is served
  pub line_served : (frame : Frame) (answer : Option Message) (more : List Answer) → MayRespond device (message_of frame) (record { device = new; answer = answer })
      → filter (goes_to n) (drop (get_or bus.delivered n 0) bus.sent.items) ≡ frame ∷ filter (goes_to n) (drop (front + 1) bus.sent.items)
      → comes n more ≡ option_to_list answer → get_or bus.heard n 0 ≤ length bus.answers.items
      → DeliveredBy (line_at bus devices n) (device_of devices n) (to_of bus n) (line_after n (bus.answers.items ++ more))
  line_served frame answer more may next says h =
      let found : device_of devices n ≡ Some device = device_found n devices place device first.inside first.before (first.passes device) ∙ ap Some (sym is) in
      let to : to_of bus n ≡ message_of frame ∷ map message_of (filter (goes_to n) (drop (front + 1) bus.sent.items)) = ap (map message_of) next in
      let responded : Responded = record { device = new; answer = answer } in
      subst (λ o. DeliveredBy (line_at bus devices n) o (to_of bus n) (line_after n (bus.answers.items ++ more))) (sym found)
      (subst (λ to. DeliveredBy (line_at bus devices n) (Some device) to (line_after n (bus.answers.items ++ more))) (sym to) (
        responded,
        may,
        line_same n _ _ _ _ _ _ (ap (λ i. map message_of (filter (goes_to n) (drop i bus.sent.items))) (set_here bus.delivered k n (front + 1) same (omega (arith, size, low))))
            (comes_more n (get_or bus.heard n 0) bus.answers.items more h ∙ ap (λ l. comes n (drop (get_or bus.heard n 0) bus.answers.items) ++ l) says)
            (device_put n devices place new device first.inside first.before (rw number (same_test n))),
      ))
    where
      same_test : (n : ℕ) → (n == n) ≡ true
      same_test n = grind (arith, nat_tests)

  -- and another line
  pub line_kept : (other : ℕ) (more : List Answer) → (other == n) ≡ false → comes other more ≡ [] → get_or bus.heard other 0 ≤ length bus.answers.items
      → line_after other (bus.answers.items ++ more) ≡ line_at bus devices other
  line_kept other more apart none h =
      line_same other _ _ _ _ _ _ (ap (λ i. map message_of (filter (goes_to other) (drop i bus.sent.items))) (set_other bus.delivered k n other (front + 1) same apart))
      (comes_more other (get_or bus.heard other 0) bus.answers.items more h ∙ ap (λ l. comes other (drop (get_or bus.heard other 0) bus.answers.items) ++ l) none ∙ append-nil (comes other (drop (get_or bus.heard other 0) bus.answers.items)))
      (device_other n other devices place new device first.inside (eqb-true _ n (first.passes device)) number apart)

-- an answer comes from its node alone
pub comes_here : (n : ℕ) (frame : Frame) → comes n (record { node = n; frame = frame } ∷ []) ≡ message_of frame ∷ []
comes_here n frame = rw (same_test n) refl
  where
    same_test : (n : ℕ) → (n == n) ≡ true
    same_test n = grind (arith, nat_tests)

pub comes_elsewhere : (n other : ℕ) (frame : Frame) → (other == n) ≡ false → comes other (record { node = n; frame = frame } ∷ []) ≡ []
comes_elsewhere n other frame apart = rw (turned other n apart) refl
  where
    turned : (a b : ℕ) → (a == b) ≡ false → (b == a) ≡ false
    turned a b h = grind (arith, nat_tests)

-- nothing is delivered where there is no device, or no frame
pub not_delivered : (line : Line) (device : Option Attached) (to : List Message) → (device ≡ None) ⊎ (to ≡ []) → DeliveredBy line device to line
not_delivered line None to h = refl
not_delivered line (Some device) [] h = refl
not_delivered line (Some device) (frame ∷ to) h = elim h [ inl e ↦ absurd (let g : Some device ≡ None = e in cc) | inr e ↦ absurd (no_front e) ]
  where
    no_front : frame ∷ to ≡ [] → ⊥
    no_front e = cc

-- the front frame from a node is taken
pub from_front : (answers now : List Answer) (heard : List ℕ) (n from k front : ℕ) (answer : Answer) → now ≡ answers → from ≡ n → k ≡ n → length heard ≡ 256 → n < 256
    → ((d : Answer) → filter (λ answer. answer.node == n) (drop (get_or heard from 0) now) ≡ get_or now front d ∷ filter (λ answer. answer.node == n) (drop (front + 1) now))
    → answer ≡ get_or answers front answer
    → comes n (drop (get_or heard n 0) answers) ≡ message_of answer.frame ∷ comes n (drop (get_or (set heard k (front + 1)) n 0) answers)
from_front answers now heard n from k front answer same place at size low next is =
    ap (map (λ answer. message_of answer.frame))
    (subst (λ now. filter (λ answer. answer.node == n) (drop (get_or heard n 0) now) ≡ get_or now front answer ∷ filter (λ answer. answer.node == n) (drop (front + 1) now)) same
    (subst (λ from. filter (λ answer. answer.node == n) (drop (get_or heard from 0) now) ≡ get_or now front answer ∷ filter (λ answer. answer.node == n) (drop (front + 1) now)) place (next answer)))
    ∙ ap (λ a. message_of a.frame ∷ comes n (drop (front + 1) answers)) (sym is)
    ∙ ap (λ i. message_of answer.frame ∷ comes n (drop i answers)) (sym (set_here heard k n (front + 1) at (omega (arith, size, low))))

pub from_none : (answers now : List Answer) (heard : List ℕ) (n from : ℕ) → now ≡ answers → from ≡ n → filter (λ answer. answer.node == n) (drop (get_or heard from 0) now) ≡ []
    → comes n (drop (get_or heard n 0) answers) ≡ []
from_none answers now heard n from same place next =
    ap (map (λ answer. message_of answer.frame)) (subst (λ now. filter (λ answer. answer.node == n) (drop (get_or heard n 0) now) ≡ []) same
    (subst (λ from. filter (λ answer. answer.node == n) (drop (get_or heard from 0) now) ≡ []) place next))
