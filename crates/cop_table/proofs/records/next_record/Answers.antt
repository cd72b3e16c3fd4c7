use Rattle.std.proofs.Common.{◌≡◌, length, rules}
use Rattle.cop_table.proofs.LineLemmas.{line_read}
use Rattle.cop_table.proofs.records.next_record.Goals as goal

pub returns-in_ok-len-in-Plain : goal.returns-in_ok-len-in-Plain
returns-in_ok-len-in-Plain c =
    let e = c.in_ok-len-in-Plain.ensures in
    let line = c.next_line-line in
    let some : length line.result.now ≡ 0 → ⊥ = search rules in
    (tt, rw c.in-Plain.is (line_read c.in-Plain.rest.now line.result.now c.cut.new.self c.in_ok-len-in-Plain.len line.ensures.same line.ensures.starts some e.fields e.len))
