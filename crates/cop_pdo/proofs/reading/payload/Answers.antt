use Rattle.std.proofs.Common.{ℕ, ◌+◌, ap}
use Rattle.cop_pdo.proofs.PayloadLemmas.{pdo_layout}
use Rattle.cop_pdo.proofs.reading.payload.Goals as goal

pub invariant_of-result : goal.invariant_of-result
invariant_of-result c =
    let l = pdo_layout c.args.dict.now c.args.direction c.args.number _ c.in_ok-count.count c.in_ok-entries.entries.items c.requires.0 c.requires.1 (ap (λ (n : ℕ). n + 0x200) c.communication-communication.ensures) c.in_ok-entries.ensures in
    record { count = l.count; bits = l.bits; each = λ k d inside. (l.usable k d inside).1 }

pub returns-clause-objects : goal.returns-clause-objects
returns-clause-objects c =
    let l = pdo_layout c.args.dict.now c.args.direction c.args.number _ c.in_ok-count.count c.in_ok-entries.entries.items c.requires.0 c.requires.1 (ap (λ (n : ℕ). n + 0x200) c.communication-communication.ensures) c.in_ok-entries.ensures in
    λ k d inside. (l.usable k d inside).0
