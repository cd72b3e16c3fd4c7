-- A watch that has read all that a reader had.
use Rattle.std.proofs.Common.{ℕ, List, [], ◌++◌, Option, Some, None, IfSome, refl, subst, append_assoc}
use Rattle.std.specs.Io.KnownBytes.{Consumes, IsAtEnd}
use Rattle.std.proofs.KnownBytes.{Consumes-trans, Consumes-all}
use Rattle.cop_rta.specs.declared.streams.Stream.{Stream}
use Rattle.cop_watch.specs.declared.found.Seen.{Seen}
use Rattle.cop_watch.specs.declared.reading.TraceWatch.{TraceWatch}
use Rattle.cop_watch.specs.Reading.{HasRead, Shows}
use Rattle.cop_table.specs.Pieces.{HoldsOfAll}
use Rattle.cop_watch.specs.Pieces.{Feeds}

-- a piece more
pub feeds_more : (left mid rest : Option (List ℕ)) (a b c : TraceWatch) (piece : List ℕ) → Feeds left mid a b → Consumes mid rest piece
    → ((tau : ℕ) (streams : List Stream) (text : List ℕ) → HasRead tau streams text b → HasRead tau streams (text ++ piece) c) → Feeds left rest a c
feeds_more left mid rest a b c piece fed given read = record {
  bytes = fed.bytes ++ piece;
  given = Consumes-trans left mid rest fed.bytes piece fed.given given;
  read = λ tau streams text h.
      subst (λ (xs : List ℕ). HasRead tau streams xs c) (append_assoc text fed.bytes piece) (read tau streams (text ++ fed.bytes) (fed.read tau streams text h));
}

-- what is seen of what was read is seen of all that the reader had
pub seen_of_all : (left rest : Option (List ℕ)) (a b : TraceWatch) (r : Option Seen) (tau : ℕ) (streams : List Stream) → Feeds left rest a b → IsAtEnd rest → HasRead tau streams [] a
    → ((text : List ℕ) → HasRead tau streams text b → IfSome r (Shows tau streams text)) → IfSome r (λ seen. HoldsOfAll left (λ trace. Shows tau streams trace seen))
seen_of_all left rest a b None tau streams fed end begun told = tt
seen_of_all left rest a b (Some seen) tau streams fed end begun told = record {
  bytes = fed.bytes;
  all = Consumes-all left rest fed.bytes [] fed.bytes fed.given end refl;
  holds = told fed.bytes (fed.read tau streams [] begun);
}
