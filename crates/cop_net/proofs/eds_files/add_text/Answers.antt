use Rattle.std.proofs.Common.{◌∙◌, sym, false, true, ◌≡◌, is_some}
use Rattle.std.proofs.lemmas.Map.Text.{btree_map_updates_str}
use Rattle.cop_net.specs.Texts.{named}
use Rattle.cop_net.proofs.TextLemmas.{readings_kept, readings_more}
use Rattle.cop_net.proofs.eds_files.add_text.Goals as goal

pub returns-in_ok-insert : goal.returns-in_ok-insert
returns-in_ok-insert c =
    let absent : is_some (named c.args.readings.now c.args.name.now) ≡ false = sym c.contains_key.ensures ∙ c.if-not-contains_key.true in
    λ files knows.
    readings_more c.args.readings.now c.insert.new.self files (record { name = c.args.name.now; text = c.args.text.now }) _ knows absent c.in_ok-read_text.ensures
    (btree_map_updates_str c.args.name.now c.args.readings.now c.insert.new.self _ c.in_ok-insert.ensures.updates)

pub returns-else-not-contains_key : goal.returns-else-not-contains_key
returns-else-not-contains_key c =
    let there : is_some (named c.args.readings.now c.args.name.now) ≡ true = sym c.contains_key.ensures ∙ c.if-not-contains_key.false in
    λ files knows. readings_kept c.args.readings.now files (record { name = c.args.name.now; text = c.args.text.now }) knows there
