use Rattle.cop_heartbeats.proofs.AttendingLemmas.{bytes_left}
use Rattle.cop_listen.proofs.HearingLemmas.{bytes_heard}
use Rattle.cop_listen.proofs.listening.+hear_bytes.Goals as goal

pub returns-in-len1-up-clause-reader : goal.returns-in-len1-up-clause-reader
returns-in-len1-up-clause-reader g n c =
    bytes_left c.args.reader.now c.hear_byte.new.reader c.hear_bytes.new.reader c.args.bytes.now c.in-len1-up.len_at_least c.hear_byte.ensures.reader c.hear_bytes.ensures.reader

pub returns-in-len1-up-clause-heard : goal.returns-in-len1-up-clause-heard
returns-in-len1-up-clause-heard g n c =
    bytes_heard g.L.Listener.hears c.args.now c.args.listener.now c.hear_byte.new.listener c.hear_bytes.new.listener c.args.reader.now c.hear_byte.new.reader c.args.bytes.now c.in-len1-up.len_at_least
    c.hear_byte.ensures.reader c.hear_byte.ensures.heard c.hear_bytes.ensures.heard
