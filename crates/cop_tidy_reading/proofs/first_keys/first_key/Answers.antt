use Rattle.std.proofs.Common.{◌≡◌, Some, sym, ◌∙◌}
use Rattle.std.specs.BTreeMap.{get}
use Rattle.cop_tidy_reading.specs.Sections.{NamePlace, rank}
use Rattle.cop_tidy_reading.specs.Index.{place_cmp}
use Rattle.cop_tidy_reading.proofs.FirstKeyLemmas.{key_found}
use Rattle.cop_tidy_reading.proofs.first_keys.first_key.Goals as goal

pub returns-in-Some : goal.returns-in-Some
returns-in-Some c =
    let place : NamePlace = (c.args.section, c.in-Some.kind, c.in-Some.number) in
    let named : rank c.args.key ≡ Some (c.in-Some.kind, c.in-Some.number) = cc in
    let found : c.copied.result ≡ get place_cmp c.args.keys.now place = cc in
    λ items has. rw found (has place ∙ sym (key_found items c.args.section c.args.key (c.in-Some.kind, c.in-Some.number) named))
