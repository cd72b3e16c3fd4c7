use Rattle.cop_cert.proofs.reading.refusals_of.Goals as goal

pub returns-in-Some : goal.returns-in-Some
returns-in-Some c = rw c.in-Some.ensures.start c.refusals_in_text.ensures
