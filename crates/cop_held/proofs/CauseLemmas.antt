-- An inhibit time that is not above the period makes no frame later than its jitter.
use Rattle.std.proofs.Common.{ℕ, ◌+◌, ◌≤◌, List, [], ◌∷◌, max, arith, AllPairs}
use Rattle.std.proofs.Math.Nat.{max-le, le-max_left, le-max_right}
use Rattle.std.specs.List.{AllByRecursion}
use Rattle.std.proofs.lemmas.List.Elements.{All-from_recursion}
use Rattle.std.proofs.lemmas.List.Kept.{AllPairs-cons}
use Rattle.cop_held.specs.Causes.{Cause, AreSpacedFrom, AreSpaced, handed_over_from, handed_over, AreWithin}

within_from : (period inhibit jitter least moment : ℕ) (causes : List Cause) → inhibit ≤ period → moment ≤ least + jitter → AreSpacedFrom period jitter least causes
    → AreWithin jitter causes (handed_over_from inhibit moment causes)
within_from period inhibit jitter least moment [] i m h = tt
within_from period inhibit jitter least moment (c ∷ causes) i m h =
    let a = h.0 in
    let b = h.1 in
    let r = h.2 in
    let low : c.ready ≤ max moment c.ready = le-max_right moment c.ready in
    let most : max moment c.ready ≤ c.event + jitter = max-le (omega (arith, m, a)) r in
    (omega (arith, b, low), most, within_from period inhibit jitter (c.event + period) (max moment c.ready + inhibit) causes i (omega (arith, most, i)) h.3)

pub queued_within : (period inhibit jitter : ℕ) (causes : List Cause) → inhibit ≤ period → AreSpaced period jitter causes → AreWithin jitter causes (handed_over inhibit causes)
queued_within period inhibit jitter causes i h = within_from period inhibit jitter 0 0 causes i (omega arith) h

-- ---- frames are handed over the inhibit time apart

all_later : (inhibit bound moment : ℕ) (causes : List Cause) → bound ≤ moment → AllByRecursion (λ q. bound ≤ q) (handed_over_from inhibit moment causes)
all_later inhibit bound moment [] h = tt
all_later inhibit bound moment (c ∷ causes) h =
    let low : moment ≤ max moment c.ready = le-max_left moment c.ready in
    (omega (arith, h, low), all_later inhibit bound (max moment c.ready + inhibit) causes (omega (arith, h, low)))

apart_from : (inhibit moment : ℕ) (causes : List Cause) → AllPairs (λ p q. p + inhibit ≤ q) (handed_over_from inhibit moment causes)
apart_from inhibit moment [] = λ i j d lt inside. absurd (omega (arith, inside))
apart_from inhibit moment (c ∷ causes) =
    let next : ℕ = max moment c.ready + inhibit in
    let rest : List ℕ = handed_over_from inhibit next causes in
    AllPairs-cons (λ p q. p + inhibit ≤ q) (max moment c.ready) rest (All-from_recursion (λ q. next ≤ q) rest (all_later inhibit next next causes (omega arith))) (apart_from inhibit next causes)

pub held_apart : (inhibit : ℕ) (causes : List Cause) → AllPairs (λ p q. p + inhibit ≤ q) (handed_over inhibit causes)
held_apart inhibit causes = apart_from inhibit 0 causes
