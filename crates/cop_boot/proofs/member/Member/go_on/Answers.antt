use Rattle.std.proofs.Common.{◌<◌, length, refl, ap, ◌∙◌, arith}
use Rattle.cop_sdo.specs.Message.{message_of}
use Rattle.cop_boot.specs.Node.{request_of}
use Rattle.cop_boot.specs.Member.{seen}
use Rattle.cop_boot.proofs.MemberLemmas.{get_at, get_past, downloads, size_at_most, take_size, never_refused, moves_on}
use Rattle.cop_boot.proofs.member.Member.go_on.Goals as goal

pub slice_bounds-all-end : goal.slice_bounds-all-end
slice_bounds-all-end c = omega (arith, size_at_most c.index-setting.result.now.width, c.bytes.ensures, c.from.ensures)

pub slice_bounds-download-end : goal.slice_bounds-download-end
slice_bounds-download-end c =
    rw c.to_le_bytes-all.ensures (take_size c.from.result c.index-setting.result.now.value (omega (arith, size_at_most c.index-setting.result.now.width, c.bytes.ensures, c.from.ensures)))

pub returns-in-Ok-clause-moves : goal.returns-in-Ok-clause-moves
returns-in-Ok-clause-moves c =
    let lt : c.args.done < length c.args.self.now.settings.items = omega (arith, c.if-done-len.true, c.len.ensures) in
    let there = get_at c.args.self.now.settings.items c.args.done c.index-setting.result.now lt c.index-setting.ensures in
    let d = downloads c.args.self.now.client c.download.new.self c.index-setting.result.now _ (message_of c.in-Ok.frame) c.requires.idle (rw (c.from.ensures, c.bytes.ensures, c.to_le_bytes-all.ensures) refl) c.in-Ok.ensures.in_place in
    moves_on (seen c.args.self.now) c.args.done c.args.now c.index-setting.result.now (message_of c.in-Ok.frame) there (d.frame_is ∙ ap (λ n. request_of n c.index-setting.result.now) c.requires.member.client)

pub returns-in-Ok-clause-member : goal.returns-in-Ok-clause-member
returns-in-Ok-clause-member c =
    let lt : c.args.done < length c.args.self.now.settings.items = omega (arith, c.if-done-len.true, c.len.ensures) in
    let there = get_at c.args.self.now.settings.items c.args.done c.index-setting.result.now lt c.index-setting.ensures in
    let d = downloads c.args.self.now.client c.download.new.self c.index-setting.result.now _ (message_of c.in-Ok.frame) c.requires.idle (rw (c.from.ensures, c.bytes.ensures, c.to_le_bytes-all.ensures) refl) c.in-Ok.ensures.in_place in
    record {
      least = c.requires.member.least;
      greatest = c.requires.member.greatest;
      boots = c.requires.member.boots;
      client = ap (λ x. x.node) d.client_is ∙ c.requires.member.client;
      short = c.requires.member.short;
      asks = (c.index-setting.result.now, there, ap (λ x. x.asking) d.client_is);
    }

pub returns-in-Err-clause-moves : goal.returns-in-Err-clause-moves
returns-in-Err-clause-moves c =
    absurd (never_refused c.args.self.now.client c.download.new.self c.index-setting.result.now _ _ c.requires.idle (rw (c.from.ensures, c.bytes.ensures, c.to_le_bytes-all.ensures) refl) c.in-Err.ensures.in_place)

pub returns-else-done-len-clause-moves : goal.returns-else-done-len-clause-moves
returns-else-done-len-clause-moves c =
    let past = get_past c.args.self.now.settings.items c.args.done (omega (arith, c.if-done-len.false, c.len.ensures)) in
    rw past refl
