use Rattle.std.proofs.Common.{◌≡◌, ◌++◌, ℕ, List, length}
use Rattle.cop_rta.specs.declared.streams.Stream.{Stream}
use Rattle.cop_watch.specs.Reading.{IsRead}
use Rattle.cop_watch.proofs.reading.TraceWatch.feed_lines.Given as goal

abbrev pub invariant-lines : goal.invariant-lines
invariant-lines l = (first : List ℕ) × (first ++ l.rest ≡ l.piece) × ((tau : ℕ) (streams : List Stream) (text : List ℕ)
    → IsRead tau streams text l.fn.self.watch l.fn.self.line.items l.fn.self.stage → IsRead tau streams (text ++ first) l.self.watch l.self.line.items l.self.stage)

abbrev pub decreases-lines : goal.decreases-lines
decreases-lines l = length l.rest
