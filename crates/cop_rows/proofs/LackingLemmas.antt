-- The first row whose node has no device row.
use Rattle.std.proofs.Common.{◌≡◌, ℕ, zero, suc, ◌+◌, ◌<◌, ◌≤◌, true, false, List, [], ◌∷◌, length, drop, get_or, refl, sym, ◌∙◌, arith, add-one, Some, None, if◌then◌else◌}
use Rattle.cop_rows.specs.declared.node_table.DeviceRow.{DeviceRow}
use Rattle.cop_rows.specs.declared.node_table.FrameRow.{FrameRow}
use Rattle.cop_rows.specs.NodeReading.{first_lacking, lacks_device}

lacking_at : (ds : List DeviceRow) (fs : List FrameRow) (i : ℕ) (f : FrameRow) → i < length fs → f ≡ get_or fs i f
    → first_lacking ds (drop i fs) ≡ (if lacks_device ds f then Some f.place else first_lacking ds (drop (suc i) fs))
lacking_at ds [] i f lt e = absurd (omega arith)
lacking_at ds (x ∷ fs) zero f lt e = rw e refl
lacking_at ds (x ∷ fs) (suc i) f lt e = lacking_at ds fs i f (omega arith) e

pub lacking_here : (ds : List DeviceRow) (fs : List FrameRow) (i : ℕ) (f : FrameRow) → i < length fs → f ≡ get_or fs i f
    → lacks_device ds f ≡ true → first_lacking ds (drop i fs) ≡ Some f.place
lacking_here ds fs i f lt e h = lacking_at ds fs i f lt e ∙ rw h refl

pub lacking_next : (ds : List DeviceRow) (fs : List FrameRow) (i : ℕ) (f : FrameRow) → i < length fs → f ≡ get_or fs i f
    → lacks_device ds f ≡ false → first_lacking ds (drop (i + 1) fs) ≡ first_lacking ds (drop i fs)
lacking_next ds fs i f lt e h = sym (lacking_at ds fs i f lt e ∙ rw (h, add-one i) refl)

pub lacking_none : (ds : List DeviceRow) (fs : List FrameRow) (i : ℕ) → length fs ≤ i → first_lacking ds (drop i fs) ≡ None
lacking_none ds [] zero h = refl
lacking_none ds [] (suc i) h = refl
lacking_none ds (x ∷ fs) zero h = absurd (omega arith)
lacking_none ds (x ∷ fs) (suc i) h = lacking_none ds fs i (omega arith)
