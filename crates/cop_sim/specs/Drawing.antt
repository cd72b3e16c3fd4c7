-- What a seeded behaviour offers: words of a generator, drawn in turn for the event, the delay and the length of each
-- instance.
use Rattle.std.specs.Prelude.{ℕ, ◌+◌, ◌-◌, ◌/◌, ◌%◌, ◌^◌, ◌==◌, ◌&&◌, max, nat_le, nat_lt, bit_xor, List, [], ◌∷◌, Option, None, Some, Bool, false, zero, suc, if◌then◌else◌}
use Rattle.rand_pcg.specs.Lcg.{Lcg, started, increment_of}
use Rattle.rand_pcg.specs.Pcg.{multiplier_64, pcg32}
use Rattle.cop_rta.specs.declared.streams.Stream.{Stream}
use Rattle.cop_bus.specs.declared.steps.Content.{Content}
use Rattle.cop_bus.specs.Run.{least_bits, worst_bits}
use Rattle.cop_sim.specs.declared.behaviours.Offer.{Offer}
use Rattle.cop_sim.specs.declared.drawing.Seeded.{Seeded}
use Rattle.cop_sim.specs.Play.{Actor, queued_at}

-- the generator of a seed for a stream
abbrev pub words_of : ℕ → Stream → Lcg
words_of seed k = started 64 multiplier_64 seed (increment_of 64 k.id)

-- its next word, and what it gives after that
abbrev pub word : Lcg → ℕ
word g = (pcg32 g).0

abbrev pub rest : Lcg → Lcg
rest g = (pcg32 g).1

-- The event by a word: the first one in the first period, each other a period after the one before, and up to an eighth
-- of a period more.
abbrev pub event_after : Stream → Option Offer → ℕ → ℕ
event_after k None w = w % k.period
event_after k (Some b) w = b.event + k.period + w % (k.period / 8 + 1)

-- a delay, raised so that the instance is not queued before the one before
abbrev pub raised : Option Offer → ℕ → ℕ → ℕ
raised None event delay = delay
raised (Some b) event delay = max delay (queued_at b - event)

-- the first data byte: a heartbeat says that the node is operational, and NMT that the nodes start
abbrev pub first_byte : ℕ → ℕ
first_byte id = if nat_le 1793 id && nat_le id 1919 then 5 else if id == 0 then 1 else 0

-- the data: zeros after the first byte, if there is one
abbrev pub body_of : Stream → List ℕ
body_of k = (if k.bytes == 0 then 0 else first_byte k.id) ∷ 0 ∷ 0 ∷ 0 ∷ 0 ∷ 0 ∷ 0 ∷ 0 ∷ []

-- a length by a word: from the least to the greatest number of bits
abbrev pub bits_by : Stream → ℕ → ℕ
bits_by k w = least_bits k.bytes + w % (worst_bits k.bytes - least_bits k.bytes + 1)

abbrev pub frame_by : Stream → ℕ → Content
frame_by k w = record { bits = bits_by k w; body = body_of k; len = k.bytes }

-- the instance after another, by the next three words
abbrev pub by_events : Stream → Option Offer → Lcg → Offer
by_events k before g = record {
  event = event_after k before (word g);
  delay = raised before (event_after k before (word g)) (word (rest g) % (k.jitter + 1));
  frame = frame_by k (word (rest (rest g)));
}

-- that of a synchronous stream, which has its events and its order from SYNC, by the next two
abbrev pub by_sync : Stream → Lcg → Offer
by_sync k g = record { event = 0; delay = word g % (k.jitter + 1); frame = frame_by k (word (rest g)) }

abbrev pub drawn : Stream → Option Offer → Lcg → Offer
drawn k before g = if k.every == 0 then by_events k before g else by_sync k g

-- the generator after it
abbrev pub after_drawn : Stream → Lcg → Lcg
after_drawn k g = if k.every == 0 then rest (rest (rest g)) else rest (rest g)

-- number n of those after another
abbrev pub drawn_at : Stream → Option Offer → Lcg → ℕ → Offer
drawn_at k before g zero = drawn k before g
drawn_at k before g (suc n) = drawn_at k (Some (drawn k before g)) (after_drawn k g) n

-- an instance whose moments fit 64 bits
abbrev pub fitting : Offer → Option Offer
fitting o = if nat_lt (queued_at o) (2 ^ 64) then Some o else None

-- the offers of a seed for a stream, by number
abbrev pub seeded_offer : ℕ → Stream → ℕ → Option Offer
seeded_offer seed k n = fitting (drawn_at k None (words_of seed k) n)

-- whether it joins the start at z: the first word of the seed with the moment mixed in is odd
abbrev pub seeded_joins : ℕ → Stream → ℕ → Bool
seeded_joins seed k z = word (words_of (bit_xor seed z) k) % 2 == 1

-- the play's actor of a stream, by a seed
abbrev pub seeded_actor : ℕ → Stream → Actor
seeded_actor seed k = record { stream = k; offer = seeded_offer seed k; agrees = λ z u. seeded_joins seed k z }

-- ---- a behaviour that has answered some times

-- the offers from now on
abbrev pub offer_of : Seeded → ℕ → Option Offer
offer_of s n = if s.is_over then None else fitting (drawn_at s.stream s.before s.words n)

abbrev pub joins_of : Seeded → ℕ → Bool
joins_of s z = seeded_joins s.seed s.stream z

-- one that has not answered yet
abbrev pub fresh : ℕ → Stream → Seeded
fresh seed k = record { seed = seed; stream = k; words = words_of seed k; before = None; is_over = false }
