-- A PDO of 8 bytes each 10 ms at 250 kbit/s, an error each 10 ms, and a run in which the error delays it as much as it can.
use Rattle.std.specs.Prelude.{Some}
use Rattle.cop_rta.specs.declared.streams.Stream.{Stream}
use Rattle.cop_bus.specs.Run.{Instance}
use Rattle.cop_rta.specs.declared.errors.Errors.{Errors}
use Rattle.cop_errors.specs.Errors.{Disturbance}
use Rattle.cop_errors.specs.ExampleLemmas.{pdo_id, pdo_bytes, pdo_period, pdo_period_most, pdo_jitter, pdo_due, pdo_due_most, pdo_every, pdo_synced}

-- it is due 1204 us after its event
abbrev pub one_pdo : Stream
one_pdo = record {
  id = 385;
  bytes = 8;
  period = 40000;
  jitter = 0;
  deadline = Some 4816;
  every = 0;
  id_in_range = pdo_id;
  bytes_in_range = pdo_bytes;
  period_least = pdo_period;
  period_most = pdo_period_most;
  jitter_in_range = pdo_jitter;
  deadline_least = pdo_due;
  deadline_most = pdo_due_most;
  every_most = pdo_every;
  synchronous_id = pdo_synced;
}

abbrev pub each_ten : Errors
each_ten = record { period = 40000; jitter = 0; period_least = pdo_period; period_most = pdo_period_most; jitter_in_range = pdo_jitter }

abbrev pub one_hit : Disturbance
one_hit = record { start = 0; bits = 166 }

-- it is queued as the disturbance begins, and sent behind it
abbrev pub one_instance : Instance
one_instance = record { id = 385; event = 0; queued = 0; bits = 135; len = 8; start = Some 2656 }
