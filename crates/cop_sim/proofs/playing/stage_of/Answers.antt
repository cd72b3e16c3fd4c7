use Rattle.std.proofs.Common.{◌≡◌, replicate, length, refl, rules}
use Rattle.cop_sim.proofs.playing.stage_of.Goals as goal

pub returns : goal.returns
returns c =
    let zeros : c.in_ok-queued.queued.items ≡ replicate (length c.streams-streams.result.now) 0 = c.in_ok-queued.ensures.items_if_clones_equal (search rules) in
    rw (c.in_ok-offers.ensures, c.in_ok-waiting.ensures, zeros, c.new-2.ensures, c.streams-streams.ensures.items) refl
