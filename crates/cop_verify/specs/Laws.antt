-- What holds of all verifications.
use Rattle.std.specs.Prelude.{◌≡◌, ℕ, ◌+◌, true, List, slice_index, ◌==◌}
use Rattle.std.specs.List.{list_any}
use Rattle.cop_identity.specs.declared.questions.Question.{Question}
use Rattle.cop_identity.specs.declared.asking.Exchange.{Exchange}
use Rattle.cop_identity.specs.Questions.{request_of}
use Rattle.cop_readback.specs.Reading.{is_wanted}

-- a question is asked by the request of an upload to one of some nodes (CiA 301, "Initiate SDO upload": command 2, the frame 600h + node)
pub record IsReadOf (nodes : List ℕ) (question : Question) : Type 0 where
  pub meant : list_any (λ node. node == question.node) nodes ≡ true
  pub to_it : (request_of question).id ≡ 0x600 + question.node
  pub reads : slice_index (request_of question).body 0 ≡ 0x40
  pub whole : (request_of question).len ≡ 8

-- a question to a node was answered as it should be
abbrev pub IsRightAt : ℕ → Exchange → Type 0
IsRightAt node asked = asked.question.node ≡ node → is_wanted asked.outcome ≡ true
