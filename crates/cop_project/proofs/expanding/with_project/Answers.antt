use Rattle.std.proofs.Common.{◌≡◌, ◌++◌, ◌+◌, take, drop, rules}
use Rattle.cop_project.specs.Project.{says}
use Rattle.cop_project.specs.Words.{texts, word_at, project_words}
use Rattle.cop_project.proofs.Texts.{joined, rest_is}
use Rattle.cop_project.proofs.expanding.with_project.Goals as goal

pub returns : goal.returns
returns c =
    let first : texts c.push_words.new.words.items ≡ texts c.new-all.result.items ++ texts (take c.args.place c.args.words.now) = search (rules, c.in_ok-push_words.ensures) in
    let second : texts c.push_project.new.words.items ≡ texts c.push_words.new.words.items ++ project_words (word_at (texts c.args.words.now) c.args.place) (says c.args.project.now) = search (rules, c.in_ok-push_project.ensures, c.word_at.ensures) in
    let all : texts c.push_words-2.new.words.items ≡ texts c.push_project.new.words.items ++ texts (drop (c.args.place + 1) c.args.words.now) = search (rules, c.in_ok-push_words-2.ensures, rest_is c.args.words.now (c.args.place + 1)) in
    joined c.args.words.now c.args.place (says c.args.project.now) c.new-all.result.items c.push_words.new.words.items c.push_project.new.words.items c.push_words-2.new.words.items c.new-all.ensures.items first second all
