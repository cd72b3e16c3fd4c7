-- One step of the walk over two dictionaries.
use Rattle.std.specs.Prelude.{◌≡◌, ◌⊎◌, true, List, [], ◌∷◌, Option, Some, None, option_map}
use Rattle.cop_dict.specs.Find.{Entry, is_at, is_before}
use Rattle.cop_compare.specs.declared.difference.Change.{Change}
use Rattle.cop_compare.specs.declared.difference.Change.TheVariants.{Gone, New}
use Rattle.cop_compare.specs.declared.difference.Difference.{Difference}
use Rattle.cop_compare.specs.declared.comparing.Step.{Step}
use Rattle.cop_compare.specs.Differences.{IsChangeOf}

abbrev pub difference_at : Entry → Change → Difference
difference_at entry change = record { index = entry.index; sub = entry.sub; change = change }

-- the step over an entry that the old list alone has
abbrev pub over_old : Entry → Step
over_old old = record { difference = Some (difference_at old Gone); old_count = 1; new_count = 0 }

-- the step over an entry that the new list alone has
abbrev pub over_new : Entry → Step
over_new new = record { difference = Some (difference_at new New); old_count = 0; new_count = 1 }

-- the step over two entries of one address
abbrev pub over_both : Entry → Option Change → Step
over_both old change = record { difference = option_map (difference_at old) change; old_count = 1; new_count = 1 }

-- the step over the first of two entries, or over both, if they have one address
abbrev pub IsOverFirst : Entry → Entry → Step → Type 0
IsOverFirst old new step =
    ((is_before new.index new.sub old ≡ true) × (step ≡ over_old old))
    ⊎ (((is_before old.index old.sub new ≡ true) × (step ≡ over_new new))
    ⊎ ((is_at new.index new.sub old ≡ true) × ((change : Option Change) × IsChangeOf old new change × (step ≡ over_both old change))))

-- the step over the first address that either of two lists has
abbrev pub IsStep : List Entry → List Entry → Option Step → Type 0
IsStep [] [] step = step ≡ None
IsStep (old ∷ olds) [] step = step ≡ Some (over_old old)
IsStep [] (new ∷ news) step = step ≡ Some (over_new new)
IsStep (old ∷ olds) (new ∷ news) None = ⊥
IsStep (old ∷ olds) (new ∷ news) (Some step) = IsOverFirst old new step
