use Rattle.std.proofs.Common.{◌≡◌, ◌==◌, ℕ, ◌+◌, List, true, ◌∷◌, [], drop, get_or, filter, Some, None, inl, ap, refl, sym, subst, ◌∙◌, arith}
use Rattle.std.proofs.lemmas.List.{append-nil}
use Rattle.std.proofs.lemmas.Bool.Decides.{nat_tests}
use Rattle.cop_frame.specs.declared.frames.Frame.{Frame}
use Rattle.cop_sdo.specs.Message.{message_of}
use Rattle.cop_boot.specs.declared.bus.Answer.{Answer}
use Rattle.cop_boot.specs.Booted.{device_of}
use Rattle.cop_boot.specs.Schedule.{Line, is_for, DeliveredBy}
use Rattle.cop_boot.specs.Bus.{to_of, line_at}
use Rattle.cop_boot.proofs.BusLemmas.{position_some, position_none, device_absent, line_after, line_served, line_kept, comes_here, comes_elsewhere, not_delivered}
use Rattle.cop_boot.proofs.bus.deliver_front.Goals as goal

pub returns-in_default-device_place-clause-line : goal.returns-in_default-device_place-clause-line
returns-in_default-device_place-clause-line c =
    let none = device_absent c.args.node c.args.devices.now (position_none (λ d. d.number == c.args.node) c.args.devices.now (sym c.device_place.ensures ∙ c.in_default-device_place.is)) in
    not_delivered _ _ _ (inl none)

equal : (a b : ℕ) → (a == b) ≡ true → a ≡ b
equal a b h = grind (arith, nat_tests)

served_front : (sent now : List Frame) (delivered : List ℕ) (n from front : ℕ) (frame : Frame) → now ≡ sent → from ≡ n
    → ((d : Frame) → filter (λ frame. is_for n (message_of frame)) (drop (get_or delivered from 0) now) ≡ get_or now front d ∷ filter (λ frame. is_for n (message_of frame)) (drop (front + 1) now))
    → frame ≡ get_or sent front frame
    → filter (λ frame. is_for n (message_of frame)) (drop (get_or delivered n 0) sent) ≡ frame ∷ filter (λ frame. is_for n (message_of frame)) (drop (front + 1) sent)
served_front sent now delivered n from front frame same place next is =
    subst (λ now. filter (λ frame. is_for n (message_of frame)) (drop (get_or delivered n 0) now) ≡ get_or now front frame ∷ filter (λ frame. is_for n (message_of frame)) (drop (front + 1) now)) same
    (subst (λ from. filter (λ frame. is_for n (message_of frame)) (drop (get_or delivered from 0) now) ≡ get_or now front frame ∷ filter (λ frame. is_for n (message_of frame)) (drop (front + 1) now)) place (next frame))
    ∙ ap (λ f. f ∷ filter (λ frame. is_for n (message_of frame)) (drop (front + 1) sent)) (sym is)

pub returns-in-Some-on_frame-clause-line : goal.returns-in-Some-on_frame-clause-line
returns-in-Some-on_frame-clause-line c =
    let bus = c.args.bus.now in
    let first = position_some (λ d. d.number == c.args.node) c.args.devices.now c.in-Some-device_place.place (sym c.device_place.ensures ∙ c.in-Some-device_place.is) in
    let number = c.on_frame.ensures.number ∙ equal _ _ (first.passes c.index-devices-place.result) in
    let device = get_or c.args.devices.now c.in-Some-device_place.place c.index-devices-place.result in
    let is = ap (get_or c.args.devices.now c.in-Some-device_place.place) c.index-devices-place.is in
    let front = c.in-Some.front in
    let next = served_front bus.sent.items c.deref.result.now bus.delivered c.args.node c.from.result front c.index.result.now c.deref.ensures.value c.from.ensures c.in-Some.ensures.some.1 c.index.ensures in
    let after : ℕ → List Answer → Line = line_after bus c.args.devices.now c.args.node c.from-2.result c.in-Some-device_place.place front c.from-2.ensures c.requires.bus.places (omega (arith, c.ranges.node.fits)) device c.on_frame.new.self first is number in
    subst (λ items. DeliveredBy (line_at bus c.args.devices.now c.args.node) (device_of c.args.devices.now c.args.node) (to_of bus c.args.node) (after c.args.node items)) (sym (rw c.unwrap.ensures at c.push.ensures.items))
    (line_served bus c.args.devices.now c.args.node c.from-2.result c.in-Some-device_place.place front c.from-2.ensures c.requires.bus.places (omega (arith, c.ranges.node.fits)) device c.on_frame.new.self first is number
    c.index.result.now (Some (message_of c.in-Some-on_frame.answer)) (record { node = c.args.node; frame = c.in-Some-on_frame.answer } ∷ []) c.in-Some-on_frame.ensures.responds next (comes_here c.args.node c.in-Some-on_frame.answer) (omega (arith, c.requires.bus.heard c.args.node, bus.answers.ok)))

pub returns-in-Some-on_frame-clause-others : goal.returns-in-Some-on_frame-clause-others
returns-in-Some-on_frame-clause-others c other apart =
    let bus = c.args.bus.now in
    let first = position_some (λ d. d.number == c.args.node) c.args.devices.now c.in-Some-device_place.place (sym c.device_place.ensures ∙ c.in-Some-device_place.is) in
    let number = c.on_frame.ensures.number ∙ equal _ _ (first.passes c.index-devices-place.result) in
    let device = get_or c.args.devices.now c.in-Some-device_place.place c.index-devices-place.result in
    let is = ap (get_or c.args.devices.now c.in-Some-device_place.place) c.index-devices-place.is in
    let front = c.in-Some.front in
    let after : ℕ → List Answer → Line = line_after bus c.args.devices.now c.args.node c.from-2.result c.in-Some-device_place.place front c.from-2.ensures c.requires.bus.places (omega (arith, c.ranges.node.fits)) device c.on_frame.new.self first is number in
    subst (λ items. after other items ≡ line_at bus c.args.devices.now other) (sym (rw c.unwrap.ensures at c.push.ensures.items))
    (line_kept bus c.args.devices.now c.args.node c.from-2.result c.in-Some-device_place.place front c.from-2.ensures c.requires.bus.places (omega (arith, c.ranges.node.fits)) device c.on_frame.new.self first is number
    other (record { node = c.args.node; frame = c.in-Some-on_frame.answer } ∷ []) apart (comes_elsewhere c.args.node other c.in-Some-on_frame.answer apart) (omega (arith, c.requires.bus.heard other, bus.answers.ok)))

pub returns-in-None-clause-line : goal.returns-in-None-clause-line
returns-in-None-clause-line c =
    let bus = c.args.bus.now in
    let first = position_some (λ d. d.number == c.args.node) c.args.devices.now c.in-Some-device_place.place (sym c.device_place.ensures ∙ c.in-Some-device_place.is) in
    let number = c.on_frame.ensures.number ∙ equal _ _ (first.passes c.index-devices-place.result) in
    let device = get_or c.args.devices.now c.in-Some-device_place.place c.index-devices-place.result in
    let is = ap (get_or c.args.devices.now c.in-Some-device_place.place) c.index-devices-place.is in
    let front = c.in-Some.front in
    let next = served_front bus.sent.items c.deref.result.now bus.delivered c.args.node c.from.result front c.index.result.now c.deref.ensures.value c.from.ensures c.in-Some.ensures.some.1 c.index.ensures in
    let after : ℕ → List Answer → Line = line_after bus c.args.devices.now c.args.node c.from-2.result c.in-Some-device_place.place front c.from-2.ensures c.requires.bus.places (omega (arith, c.ranges.node.fits)) device c.on_frame.new.self first is number in
    subst (λ items. DeliveredBy (line_at bus c.args.devices.now c.args.node) (device_of c.args.devices.now c.args.node) (to_of bus c.args.node) (after c.args.node items)) (append-nil bus.answers.items)
    (line_served bus c.args.devices.now c.args.node c.from-2.result c.in-Some-device_place.place front c.from-2.ensures c.requires.bus.places (omega (arith, c.ranges.node.fits)) device c.on_frame.new.self first is number
    c.index.result.now None [] c.in-None.ensures.responds next refl (omega (arith, c.requires.bus.heard c.args.node, bus.answers.ok)))

pub returns-in-None-clause-others : goal.returns-in-None-clause-others
returns-in-None-clause-others c other apart =
    let bus = c.args.bus.now in
    let first = position_some (λ d. d.number == c.args.node) c.args.devices.now c.in-Some-device_place.place (sym c.device_place.ensures ∙ c.in-Some-device_place.is) in
    let number = c.on_frame.ensures.number ∙ equal _ _ (first.passes c.index-devices-place.result) in
    let device = get_or c.args.devices.now c.in-Some-device_place.place c.index-devices-place.result in
    let is = ap (get_or c.args.devices.now c.in-Some-device_place.place) c.index-devices-place.is in
    let front = c.in-Some.front in
    let after : ℕ → List Answer → Line = line_after bus c.args.devices.now c.args.node c.from-2.result c.in-Some-device_place.place front c.from-2.ensures c.requires.bus.places (omega (arith, c.ranges.node.fits)) device c.on_frame.new.self first is number in
    subst (λ items. after other items ≡ line_at bus c.args.devices.now other) (append-nil bus.answers.items)
    (line_kept bus c.args.devices.now c.args.node c.from-2.result c.in-Some-device_place.place front c.from-2.ensures c.requires.bus.places (omega (arith, c.ranges.node.fits)) device c.on_frame.new.self first is number
    other [] apart refl (omega (arith, c.requires.bus.heard other, bus.answers.ok)))
