use Rattle.std.proofs.Common.{◌≡◌, ℕ, ◌+◌, ◌||◌, Bool, List, decimal, ap, ◌∙◌, add-one}
use Rattle.cop_eds_hazards.specs.Stated.{stated}
use Rattle.cop_eds_hazards.specs.Listed.{names, is_named_by}
use Rattle.cop_eds_hazards.proofs.LineLemmas.{or_assoc}
use Rattle.cop_eds_hazards.proofs.listed.add_entries.Goals as goal

one_more : (text : List ℕ) (section index n : ℕ) (new old first : Bool) → new ≡ (old || names index (stated text section (decimal (n + 1))))
    → old ≡ (first || is_named_by text section index n) → new ≡ (first || is_named_by text section index (n + 1))
unfolding is_named_by
one_more text section index n new old first e f =
    let named : Bool = names index (stated text section (decimal (n + 1))) in
    let whole : new ≡ (first || (is_named_by text section index n || named)) =
    e ∙ ap (λ b. b || named) f ∙ or_assoc first (is_named_by text section index n) named in
    rw add-one whole

pub loop-place-preserved : goal.loop-place-preserved
loop-place-preserved c =
    λ index. one_more c.args.eds.now c.args.section index c.loop-place.place _ _ _ (c.in_ok-add_entry.ensures index) (c.loop-place.invariant index)
