use Rattle.std.proofs.Common.{◌∙◌, refl, ap, length, ℕ}
use Rattle.std.specs.Prelude.{slice_index_or}
use Rattle.std.proofs.lemmas.List.{get_or-replicate, length-replicate}
use Rattle.cop_logbook.proofs.breaches.Breaches.new.Goals as goal

pub returns : goal.returns
returns c = record {
  count = refl;
  kinds = ap length (c.in_ok-vec.ensures.items_if_clones_equal (λ y h. h)) ∙ length-replicate {A = ℕ} 2049 0;
  counts = λ kind l. ap (λ xs. slice_index_or xs kind 0) (c.in_ok-vec.ensures.items_if_clones_equal (λ y h. h)) ∙ get_or-replicate 2049 kind 0 0 l;
  told = c.new.ensures.items;
}
