use Rattle.std.proofs.Common.{◌∙◌, sym, false, true, ◌≡◌, is_some, refl}
use Rattle.std.proofs.lemmas.Map.Text.{btree_map_updates_str}
use Rattle.cop_net.specs.Texts.{named}
use Rattle.cop_net.proofs.TextLemmas.{texts_kept, texts_more}
use Rattle.cop_net.proofs.shelf.add_text.Goals as goal

pub returns-in_ok-insert : goal.returns-in_ok-insert
returns-in_ok-insert c =
    let absent : is_some (named c.args.texts.now c.args.name.now) ≡ false = sym c.contains_key.ensures ∙ c.if-not-contains_key.true in
    λ files knows.
    texts_more c.args.texts.now c.insert.new.self files (record { name = c.args.name.now; text = c.args.text.now }) c.args.text knows absent refl
    (btree_map_updates_str c.args.name.now c.args.texts.now c.insert.new.self _ c.in_ok-insert.ensures.updates)

pub returns-else-not-contains_key : goal.returns-else-not-contains_key
returns-else-not-contains_key c =
    let there : is_some (named c.args.texts.now c.args.name.now) ≡ true = sym c.contains_key.ensures ∙ c.if-not-contains_key.false in
    λ files knows. texts_kept c.args.texts.now files (record { name = c.args.name.now; text = c.args.text.now }) knows there
