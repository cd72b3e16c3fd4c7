use Rattle.std.proofs.Common.{◌≡◌, ℕ, ◌<◌, not, length, nat_lt, arith}
use Rattle.std.proofs.lemmas.List.{length-map}
use Rattle.cop_rta.specs.Test.{is_flagged}
use Rattle.cop_cert.specs.Assignments.{id_at}
use Rattle.cop_room.proofs.TrialLemmas.{own_above, passes_as}
use Rattle.cop_room.proofs.trials.passes.Goals as goal

pub new-requires-clause-some : goal.new-requires-clause-some
new-requires-clause-some c =
    let size : length c.flag_below.new.out ≡ length c.args.set.now = rw c.streams.ensures.items at c.flag_below.ensures.size in
    let each : (k : ℕ) → k < length c.args.set.now → is_flagged c.flag_below.new.out k ≡ nat_lt (id_at c.args.set.now c.args.index) (id_at c.args.set.now k) = rw c.streams.ensures.items at c.flag_below.ensures.each in
    (c.args.index, omega (arith, c.requires.index, size, length-map c.flag_below.new.out not), own_above c.args.set.now c.flag_below.new.out c.args.index c.args.rate size each c.requires.index)

pub passes-requires-clause-above : goal.passes-requires-clause-above
passes-requires-clause-above c =
    let size : length c.flag_below.new.out ≡ length c.args.set.now = rw c.streams.ensures.items at c.flag_below.ensures.size in
    let each : (k : ℕ) → k < length c.args.set.now → is_flagged c.flag_below.new.out k ≡ nat_lt (id_at c.args.set.now c.args.index) (id_at c.args.set.now k) = rw c.streams.ensures.items at c.flag_below.ensures.each in
    rw c.new.ensures (own_above c.args.set.now c.flag_below.new.out c.args.index c.args.rate size each c.requires.index)

pub returns : goal.returns
returns c =
    let size : length c.flag_below.new.out ≡ length c.args.set.now = rw c.streams.ensures.items at c.flag_below.ensures.size in
    let each : (k : ℕ) → k < length c.args.set.now → is_flagged c.flag_below.new.out k ≡ nat_lt (id_at c.args.set.now c.args.index) (id_at c.args.set.now k) = rw c.streams.ensures.items at c.flag_below.ensures.each in
    passes_as c.args.set.now c.flag_below.new.out c.args.index c.args.rate size each (rw c.streams.ensures.items at c.streams.ensures.distinct) c.requires.index c.passes.result (rw c.new.ensures at c.passes.ensures)
