use Rattle.cop_slcan.proofs.Framing.{framed_by, written_ok}
use Rattle.cop_slcan.proofs.meaning.framed.Goals as goal

pub returns-in-Ok : goal.returns-in-Ok
returns-in-Ok c =
    framed_by c.args.id c.args.len c.from.result c.from-digits.result c.args.text.now c.decode_to_slice.new.out c.is_stamp.result c.from.ensures c.from-digits.ensures c.requires.len c.if-text-digits.false
    c.if-not-is_stamp.false c.is_stamp.ensures (written_ok _ _ _ c.decode_to_slice.ensures.value c.in-Ok.is)
