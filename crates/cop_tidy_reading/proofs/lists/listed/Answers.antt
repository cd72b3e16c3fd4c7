use Rattle.std.proofs.Common.{◌≡◌, ◌++◌, subst, ap, ◌∙◌}
use Rattle.cop_tidy_reading.specs.Seen.{Gives}
use Rattle.cop_tidy_reading.specs.Lists.{indexes_of, check_lists}
use Rattle.cop_tidy_reading.proofs.ListLemmas.{checks_are, listed_is}
use Rattle.cop_tidy_reading.proofs.lists.listed.Goals as goal

pub returns : goal.returns
returns c =
    let words = c.args.words.now in
    let items = c.args.contents.now in
    let found = c.add_lists.new.found.items in
    let named = c.in_ok-named.named.keys in
    let lacks = c.in_ok-lacks_entry.lacks_entry in
    let e : found ≡ indexes_of words.digits items = c.in_ok-lacks_entry.ensures.found ∙ ap (λ xs. xs ++ indexes_of words.digits items) c.new-found.ensures.items in
    let f = rw c.deref.ensures.value at c.in_ok-named.ensures in
    let read : c.both-2.result ≡ check_lists words items found named lacks =
    checks_are words items found named lacks c.deref-2.result.now c.deref-3.result.now _ _ _ _ _ c.check_entries-entries.ensures c.deref-2.ensures.value c.checked_unlisted-unlisted.ensures
    c.in_ok-rates.ensures c.deref-3.ensures.value c.both.ensures c.both-2.ensures in
    subst (λ read. Gives (λ named. named.keys) c.named_if.result read) (listed_is words items found named lacks c.both-2.result e f c.in_ok-lacks_entry.ensures.lacks read) c.named_if.ensures
