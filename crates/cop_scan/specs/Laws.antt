-- What holds of all scans.
use Rattle.std.specs.Prelude.{◌≡◌, ◌+◌, slice_index}
use Rattle.cop_identity.specs.declared.questions.Question.{Question}
use Rattle.cop_identity.specs.Questions.{request_of}

-- a question is asked by the request of an upload (CiA 301, "Initiate SDO upload": command 2, the frame 600h + node)
pub record IsRead (question : Question) : Type 0 where
  pub to_it : (request_of question).id ≡ 0x600 + question.node
  pub reads : slice_index (request_of question).body 0 ≡ 0x40
  pub whole : (request_of question).len ≡ 8
