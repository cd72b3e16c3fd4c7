use Rattle.std.proofs.Common.{◌≡◌, ◌<◌, ◌+◌, ◌*◌, ℕ, Bool, List, false, not, map, set, length, sym, ap, ◌∙◌, sum_by, arith}
use Rattle.std.proofs.lemmas.List.{length-map}
use Rattle.cop_frame.specs.Rate.{ticks_of}
use Rattle.cop_rta.specs.Sums.{sum_where}
use Rattle.cop_rta.specs.Test.{is_flagged, of_stream, load_of}
use Rattle.cop_rta.specs.Paces.{bits_in}
use Rattle.cop_rta.proofs.PaceLemmas.{times_sum, pace_with, pace_small, load_by_pace}
use Rattle.cop_rta.proofs.PlacingLemmas.{turned, sum_less}
use Rattle.cop_rta.proofs.rows.lower.Goals as goal

pub after-pace-requires-clause-own : goal.after-pace-requires-clause-own
after-pace-requires-clause-own c = pace_small c.args.streams.now c.paces.result.now c.paces.ensures.paces c.args.index c.index-paces-index.result c.requires.index c.index-paces-index.is

pub returns-else-not-is_taken-clause-row : goal.returns-else-not-is_taken-clause-row
returns-else-not-is_taken-clause-row c =
    let flags : List Bool = map not c.args.below.now in
    let own : ℕ = c.args.index in
    let inside : own < length flags = rw (length-map c.args.below.now not) (omega (arith, c.requires.flags, c.requires.index)) in
    rw (turned c.args.below.now own) (record {
      sums = λ rate time early.
          let f : ℕ → ℕ = of_stream (load_of rate c.args.ahead time) c.args.streams.now in
          let before : sum_by (bits_in time) c.args.row.now.items * ticks_of rate ≡ sum_where (is_flagged flags) f (length c.args.streams.now) = c.requires.row.sums rate time early in
          let less : sum_where (is_flagged flags) f (length c.args.streams.now) ≡ sum_where (is_flagged (set flags own false)) f (length c.args.streams.now) + f own =
          sum_less flags own inside f (length c.args.streams.now) c.requires.above c.requires.index in
          let taken : sum_by (bits_in time) c.take-is_taken.new.row.items + bits_in time c.after-pace.result ≡ sum_by (bits_in time) c.args.row.now.items = c.take-is_taken.ensures c.if-not-is_taken.false time in
          let load : bits_in time c.after-pace.result * ticks_of rate ≡ f own =
          load_by_pace rate c.args.ahead c.args.streams.now own c.after-pace.result c.requires.index
          (pace_with c.args.ahead c.requires.ahead c.args.streams.now c.paces.result.now c.paces.ensures.paces own c.index-paces-index.result c.after-pace.result c.requires.index c.index-paces-index.is c.after-pace.ensures) time early in
          omega (arith, before, less, load, sym (times_sum (sum_by (bits_in time) c.take-is_taken.new.row.items) (bits_in time c.after-pace.result) (ticks_of rate)) ∙ ap (λ (bits : ℕ). bits * ticks_of rate) taken);
    })
