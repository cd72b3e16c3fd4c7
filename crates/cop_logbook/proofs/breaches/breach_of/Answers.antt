use Rattle.std.proofs.Common.{◌∙◌, ap}
use Rattle.cop_lines.specs.declared.entries.Entry.{Entry}
use Rattle.cop_logbook.specs.declared.breaches.Broken.{Broken}
use Rattle.cop_logbook.specs.declared.breaches.Breach.{Breach}
use Rattle.cop_logbook.specs.ErrorFrames.{tested_log}
use Rattle.cop_logbook.proofs.breaches.breach_of.Goals as goal

abbrev made : Entry → Broken → Breach
made e b = record { line = e.line; entry = e; broken = b }

pub returns : goal.returns
returns c t log h = ap (λ e. made e c.broken_of.result) h.1 ∙ ap (made _) (c.broken_of.ensures t (tested_log t.streams log) h.0)
