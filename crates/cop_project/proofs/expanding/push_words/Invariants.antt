use Rattle.std.proofs.Common.{◌≡◌, ◌++◌, take}
use Rattle.cop_project.specs.Words.{texts}
use Rattle.cop_project.proofs.expanding.push_words.Given as goal

abbrev pub invariant-more : goal.invariant-more
invariant-more l = texts l.words.items ≡ texts l.initial.words.items ++ texts (take l.word-index l.more)
