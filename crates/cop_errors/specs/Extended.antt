-- A run with disturbances, as a run of the tested set: each disturbance is an instance of the errors, queued as it starts.
use Rattle.std.specs.Prelude.{◌≡◌, ℕ, List, [], ◌∷◌, ◌++◌, map, All, Option, None, Some}
use Rattle.cop_frame.specs.declared.rates.Rate.{Rate}
use Rattle.cop_frame.specs.Rate.{ticks_of}
use Rattle.cop_rta.specs.declared.streams.Stream.{Stream}
use Rattle.cop_rta.specs.UpLemmas.{up_id}
use Rattle.cop_rta.specs.Errors.{errors_of, bus_of}
use Rattle.cop_bus.specs.Run.{Instance, IsObeying}
use Rattle.cop_errors.specs.Errors.{Disturbance, AreRare, IsDisturbed}

abbrev pub up_instance : Instance → Instance
up_instance y = record { id = up_id y.id; event = y.event; queued = y.queued; bits = y.bits; len = y.len; start = y.start }

abbrev pub hit_instance : Disturbance → ℕ → Instance
hit_instance h event = record { id = 0; event = event; queued = h.start; bits = h.bits; len = 9; start = Some h.start }

abbrev pub hit_instances : List Disturbance → List ℕ → List Instance
hit_instances [] events = []
hit_instances (h ∷ hits) [] = hit_instance h h.start ∷ hit_instances hits []
hit_instances (h ∷ hits) (e ∷ events) = hit_instance h e ∷ hit_instances hits events

abbrev pub extended : List Instance → List Disturbance → List ℕ → List Instance
extended run hits events = map up_instance run ++ hit_instances hits events

-- the same where the set counts no errors: then it is the run itself
abbrev pub extended_by : Option Stream → List Instance → List Disturbance → List ℕ → List Instance
extended_by None run hits events = run
extended_by (Some s) run hits events = extended run hits events

-- disturbances are as rare as the errors of a set, and there is none where it counts none
abbrev pub AreAsRare : Option Stream → List ℕ → List Disturbance → Type 0
AreAsRare None events hits = hits ≡ []
AreAsRare (Some s) events hits = AreRare s.period s.jitter events hits

-- A run of the streams of the bus that are in a tested set, in which all of them obey, and disturbances are as rare as the set says.
pub record IsRunThrough (rate : Rate) (streams : List Stream) (until : ℕ) (run : List Instance) (hits : List Disturbance) (events : List ℕ) : Type 0 where
  pub disturbed : IsDisturbed (ticks_of rate) (bus_of streams) until run hits
  pub rare : AreAsRare (errors_of streams) events hits
  pub obeying : All (IsObeying (ticks_of rate) until run) (bus_of streams)
