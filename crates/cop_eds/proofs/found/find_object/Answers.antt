use Rattle.std.proofs.Common.{◌≡◌, Contains, length, rules, sym, ◌∙◌}
use Rattle.std.specs.Map.{keys_of}
use Rattle.cop_eds.proofs.SoundLemmas.{sound}
use Rattle.cop_eds.proofs.FoundLemmas.{sound_there, parts_new}
use Rattle.cop_eds.proofs.MetLemmas.{met_again, rising_last, seen_met}
use Rattle.cop_eds.specs.Bits.{has}
use Rattle.cop_eds.proofs.found.find_object.Goals as goal

pub returns-then-contains-clause-value : goal.returns-then-contains-clause-value
returns-then-contains-clause-value c =
    let there : Contains (keys_of c.args.found.now.parts.items) c.args.index = c.requires.there c.args.index (sym c.contains.ensures ∙ c.if-contains.true) in
    sound_there c.args.text.now c.args.found.now.objects.items c.args.found.now.parts.items c.args.index c.requires.parted there c.args.line

pub returns-then-contains-clause-keys : goal.returns-then-contains-clause-keys
returns-then-contains-clause-keys c =
    sym (met_again (keys_of c.args.found.now.parts.items) c.args.index (c.requires.there c.args.index (sym c.contains.ensures ∙ c.if-contains.true)))

pub returns-clause-sound : goal.returns-clause-sound
returns-clause-sound c =
    let start : c.len-from.result ≡ length c.args.found.now.objects.items = search rules in
    let end : c.len-to.result ≡ length c.read_object.new.objects.items = search rules in
    rw c.in_ok-push.ensures.items (record {
      parted = parts_new c.args.text.now c.args.found.now.objects.items c.read_object.new.objects.items c.args.found.now.parts.items c.args.index
          c.len-from.result c.len-to.result c.in_ok-read_object.ensures.added start end (sound c.args.text.now c.args.line c.args.index c.in_ok-read_object.ensures.value) c.requires.parted;
      there = λ other is. seen_met c.args.found.now.parts.items _ other (has c.args.found.now.seen.words.items other) (c.requires.there other) (sym (c.in_ok-insert.ensures other) ∙ is);
    })

pub returns-clause-keys : goal.returns-clause-keys
returns-clause-keys c = rw c.in_ok-push.ensures.items (rising_last c.args.found.now.parts.items _)
