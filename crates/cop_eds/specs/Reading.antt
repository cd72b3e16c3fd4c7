-- A text is accepted, or refused for the first rule in the stated order that it breaks.
use Rattle.std.specs.Prelude.{ℕ, ◌*◌, List, length, nat_lt, if◌then◌else◌, Result, Ok}
use Rattle.cop_eds.specs.declared.fault.Rule.TheVariants as rules
use Rattle.cop_eds.specs.declared.fault.Refusal.{Refusal}
use Rattle.cop_eds.specs.Lines.{checked_lines}
use Rattle.cop_eds.specs.Steps.{◌>>=◌, refuse}
use Rattle.cop_eds.specs.Rates.{checked_rates}
use Rattle.cop_eds.specs.Lists.{listed}

abbrev pub at_most : ℕ → List ℕ → Result (List ℕ) Refusal
at_most limit text = if nat_lt limit (length text) then refuse rules.TooLarge 0 else Ok text

-- the text, where it keeps the rules of its size, its lines, its rates and its lists, looked at in this order
unfoldable pub reading : List ℕ → Result (List ℕ) Refusal
reading text = do
  _ ← at_most (4 * 1024 * 1024) text
  _ ← checked_lines text
  _ ← checked_rates text
  _ ← listed text
  Ok text
