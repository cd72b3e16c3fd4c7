use Rattle.std.proofs.Common.{List, map, ◌++◌, ◌≤◌, drop, length, vec_len, vec_capacity}
use Rattle.cop_dict.specs.Find.{Entry}
use Rattle.cop_sdo.specs.Message.{Message, message_of}
use Rattle.cop_sdo.specs.Serve.{Serving, Serves}
use Rattle.cop_sdo.proofs.server.serve.Given as goal

-- what may be done with the rest, behind the answers so far, may be done with all
abbrev pub invariant-loop-frame : goal.invariant-loop-frame
invariant-loop-frame l = record {
  goes_on : (later : List Message) (server : Serving) (dict : List Entry) → Serves l.server l.dict (drop l.frame-index (map message_of l.frames)) later server dict
      → Serves l.fn.server l.fn.dict (map message_of l.frames) (map message_of l.answers.items ++ later) server dict;
  few : vec_len l.answers ≤ l.frame-index;
  room : length l.frames ≤ vec_capacity l.answers;
}
