use Rattle.std.proofs.Common.{◌≤◌, length, rules}
use Rattle.cop_engine.proofs.InputLemmas.{within_is_all}
use Rattle.cop_engine.proofs.inputs.read_all.Goals as goal

pub returns : goal.returns
returns g c =
    let short : length c.read_to_end.new.buf.items ≤ 67108864 = search rules in
    let read = rw c.in_ok-bytes.ensures.items at c.in_ok-read_to_end.ensures.bytes in
    record {
      size = short;
      all = within_is_all g.R.Read.remaining c.args.reader c.take.result 67108864 c.read_to_end.new.buf.items c.take.ensures.inner c.take.ensures.limit read short;
    }
