-- Accepted texts.
use Rattle.std.proofs.Common.{◌≡◌, ℕ, ◌*◌, List, Result, Ok}
use Rattle.cop_eds.specs.declared.fault.Refusal as eds
use Rattle.cop_eds.specs.Reading.{reading, at_most}
use Rattle.cop_eds.specs.Lines.{checked_lines}
use Rattle.cop_eds.specs.Rates.{checked_rates}
use Rattle.cop_eds.specs.Lists.{listed}
use Rattle.cop_eds.proofs.ReadingLemmas.{bind_ok}

-- a text that is accepted is read as itself
pub read_as_itself : (text x : List ℕ) → reading text ≡ Ok x → x ≡ text
unfolding reading
read_as_itself text x h =
    let a = bind_ok (at_most (4 * 1024 * 1024) text) _ x h in
    let b = bind_ok (checked_lines text) _ x a.2 in
    let c = bind_ok (checked_rates text) _ x b.2 in
    let d = bind_ok (listed text) _ x c.2 in
    let e : ◌≡◌ {A = Result (List ℕ) eds.Refusal} (Ok text) (Ok x) = d.2 in
    cc
