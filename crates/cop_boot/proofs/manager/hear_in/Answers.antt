use Rattle.std.proofs.Common.{◌≡◌, sym, Some, None, ◌∙◌, subst}
use Rattle.std.specs.List.{position}
use Rattle.std.proofs.lemmas.List.Elements.{All-set}
use Rattle.cop_sdo.specs.Message.{message_of}
use Rattle.cop_boot.specs.Manager.{comes_from, heard_by}
use Rattle.cop_boot.specs.Member.{IsMember, Moves, seen}
use Rattle.cop_boot.proofs.HearingLemmas.{one_hears, found_so, absent_so}
use Rattle.cop_boot.proofs.manager.hear_in.Goals as goal

pub returns-in-Some-clause-nodes : goal.returns-in-Some-clause-nodes
returns-in-Some-clause-nodes c =
    let found = subst (λ xs. position (λ m. comes_from m.node c.args.frame.now.id) xs ≡ Some c.in-Some.place) c.deref.ensures.value (sym c.place_of.ensures ∙ c.in-Some.is) in
    let at = found_so (message_of c.args.frame.now) c.args.now c.args.members.now.items c.in-Some.place found in
    let moves = subst (λ m. Moves c.hear.result c.hear.new.self (heard_by (message_of c.args.frame.now) c.args.now (seen m))) c.index_mut.ensures.value c.hear.ensures.moves in
    (one_hears (message_of c.args.frame.now) c.args.now c.args.members.now.items c.in-Some.place c.hear.new.self c.index_mut.result.now c.hear.result
    c.requires.members c.requires.apart at.0 (at.1 c.index_mut.result.now) moves).0

pub returns-in-Some-clause-frames : goal.returns-in-Some-clause-frames
returns-in-Some-clause-frames c =
    let found = subst (λ xs. position (λ m. comes_from m.node c.args.frame.now.id) xs ≡ Some c.in-Some.place) c.deref.ensures.value (sym c.place_of.ensures ∙ c.in-Some.is) in
    let at = found_so (message_of c.args.frame.now) c.args.now c.args.members.now.items c.in-Some.place found in
    let moves = subst (λ m. Moves c.hear.result c.hear.new.self (heard_by (message_of c.args.frame.now) c.args.now (seen m))) c.index_mut.ensures.value c.hear.ensures.moves in
    (one_hears (message_of c.args.frame.now) c.args.now c.args.members.now.items c.in-Some.place c.hear.new.self c.index_mut.result.now c.hear.result
    c.requires.members c.requires.apart at.0 (at.1 c.index_mut.result.now) moves).1

pub returns-in-Some-clause-members : goal.returns-in-Some-clause-members
returns-in-Some-clause-members c = All-set IsMember c.args.members.now.items c.in-Some.place c.hear.new.self c.hear.ensures.member c.requires.members

pub returns-in-None-clause-nodes : goal.returns-in-None-clause-nodes
returns-in-None-clause-nodes c =
    let none = subst (λ xs. position (λ m. comes_from m.node c.args.frame.now.id) xs ≡ None) c.deref.ensures.value (sym c.place_of.ensures ∙ c.in-None.is) in
    (absent_so (message_of c.args.frame.now) c.args.now c.args.members.now.items none).0

pub returns-in-None-clause-frames : goal.returns-in-None-clause-frames
returns-in-None-clause-frames c =
    let none = subst (λ xs. position (λ m. comes_from m.node c.args.frame.now.id) xs ≡ None) c.deref.ensures.value (sym c.place_of.ensures ∙ c.in-None.is) in
    (absent_so (message_of c.args.frame.now) c.args.now c.args.members.now.items none).1
