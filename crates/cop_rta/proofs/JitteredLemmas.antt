-- The test with the jitters of the streams at a place is the test of the place.
use Rattle.std.proofs.Common.{ℕ, ◌≡◌, ◌↔◌, refl}
use Rattle.cop_rta.specs.Test.{StreamPlace, Passes, IsResponse, jitter_of, busy_at, queueing_at}
use Rattle.cop_rta.specs.Jittered.{busy_by, queueing_by, IsResponseBy, PassesWith}

pub busy_by-its : (p : StreamPlace) (t : ℕ) → busy_by (jitter_of p.ahead) p t ≡ busy_at p t
unfolding busy_by busy_at
busy_by-its p t = refl

pub queueing_by-its : (p : StreamPlace) (q w : ℕ) → queueing_by (jitter_of p.ahead) p q w ≡ queueing_at p q w
unfolding queueing_by queueing_at
queueing_by-its p q w = refl

pub response_with : (p : StreamPlace) (q r : ℕ) → IsResponse p q r ↔ IsResponseBy (jitter_of p.ahead) p q r
unfolding queueing_by queueing_at
response_with p q r = (
  λ h. record { wait = h.wait; queueing = h.queueing; response = h.response },
  λ h. record { wait = h.wait; queueing = h.queueing; response = h.response },
)

pub passes_with : (p : StreamPlace) → Passes p ↔ PassesWith (jitter_of p.ahead) p
unfolding busy_by busy_at
passes_with p = (
  λ h. record {
    time = h.time;
    busy = h.busy;
    within = h.within;
    on_time = λ q queued. let r = h.on_time q queued in (r.0, (response_with p q r.0).0 r.1, r.2);
  },
  λ h. record {
    time = h.time;
    busy = h.busy;
    within = h.within;
    on_time = λ q queued. let r = h.on_time q queued in (r.0, (response_with p q r.0).1 r.1, r.2);
  },
)
