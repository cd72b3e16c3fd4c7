use Rattle.cop_heartbeats.proofs.AttendingLemmas.{bytes_heard, nodes_heard, bytes_left}
use Rattle.cop_heartbeats.proofs.attending.+hear_bytes.Goals as goal

pub returns-in-len1-up-clause-reader : goal.returns-in-len1-up-clause-reader
returns-in-len1-up-clause-reader t c =
    bytes_left c.args.reader.now c.hear_byte.new.reader c.hear_bytes.new.reader c.args.bytes.now c.in-len1-up.len_at_least c.hear_byte.ensures.reader c.hear_bytes.ensures.reader

pub returns-in-len1-up-clause-last : goal.returns-in-len1-up-clause-last
returns-in-len1-up-clause-last t c =
    bytes_heard c.args.now c.args.last.now c.hear_byte.new.last c.hear_bytes.new.last c.args.reader.now c.hear_byte.new.reader c.args.bytes.now c.in-len1-up.len_at_least
    c.hear_byte.ensures.reader c.hear_byte.ensures.last c.hear_bytes.ensures.last

pub returns-in-len1-up-clause-heard : goal.returns-in-len1-up-clause-heard
returns-in-len1-up-clause-heard t c =
    nodes_heard c.args.heard.now c.hear_byte.new.heard c.hear_bytes.new.heard c.args.reader.now c.hear_byte.new.reader c.args.bytes.now c.in-len1-up.len_at_least
    c.hear_byte.ensures.reader c.hear_byte.ensures.heard c.hear_bytes.ensures.heard
