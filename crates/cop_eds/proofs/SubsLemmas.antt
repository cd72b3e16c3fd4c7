-- The sub sections of an index, one after the other.
use Rattle.std.proofs.Common.{◌≡◌, ℕ, suc, ◌+◌, ◌-◌, ◌≤◌, ◌<◌, List, [], ◌∷◌, Ok, Err, Some, None, zero, refl, ap, ◌∙◌, arith, lit≤, Bool, true, false, ◌++◌, append_assoc, sym}
use Rattle.cop_eds.specs.declared.fault.Refusal.{Refusal}
use Rattle.cop_eds.specs.declared.line.Place.{Place}
use Rattle.cop_eds.specs.declared.description.Description.{Description}
use Rattle.cop_eds.specs.Names.{sub_code}
use Rattle.cop_eds.specs.Sections.{coded_place}
use Rattle.cop_eds.specs.Steps.{each}
use Rattle.cop_eds.specs.Description.{described}
use Rattle.cop_eds.specs.declared.description.Object.{Object}
use Rattle.cop_eds.specs.Lists.{subs_from, described_sub}
use Rattle.cop_eds.specs.Objects.{object_in, held_subs}

pub sub_there : (text : List ℕ) (index sub : ℕ) (place : Place) → sub < 256 → coded_place text (sub_code index sub) ≡ Some place
    → subs_from text index sub (256 - sub) ≡ (sub, place) ∷ subs_from text index (sub + 1) (256 - (sub + 1))
unfolding subs_from
sub_there text index sub place lt e =
    let k : 256 - sub ≡ suc (256 - (sub + 1)) = omega arith in
    rw (k, e) refl

pub sub_absent : (text : List ℕ) (index sub : ℕ) → sub < 256 → coded_place text (sub_code index sub) ≡ None
    → subs_from text index sub (256 - sub) ≡ subs_from text index (sub + 1) (256 - (sub + 1))
unfolding subs_from
sub_absent text index sub lt e =
    let k : 256 - sub ≡ suc (256 - (sub + 1)) = omega arith in
    rw (k, e) refl

pub subs_end : (text : List ℕ) (index sub : ℕ) → 256 ≤ sub → subs_from text index sub (256 - sub) ≡ []
unfolding subs_from
subs_end text index sub le =
    let k : 256 - sub ≡ 0 = omega arith in
    rw k refl

pub sub_passes : (text : List ℕ) (sub : ℕ) (place : Place) (xs : List (ℕ × Place)) (d : Description) → described text place ≡ Ok d
    → each (described_sub text) ((sub, place) ∷ xs) ≡ each (described_sub text) xs
unfolding each
sub_passes text sub place xs d e = rw e refl

pub sub_stops : (text : List ℕ) (sub : ℕ) (place : Place) (xs : List (ℕ × Place)) (r : Refusal) → described text place ≡ Err r
    → each (described_sub text) ((sub, place) ∷ xs) ≡ Err r
unfolding each
sub_stops text sub place xs r e = rw e refl

pub no_subs : (text : List ℕ) → each (described_sub text) [] ≡ Ok tt
unfolding each
no_subs text = refl

-- subs without a section are passed over
skip_by : (n : ℕ) (text : List ℕ) (index from sub : ℕ) → sub ≡ from + n → sub ≤ 256
    → ((c : ℕ) → sub_code index from ≤ c → c < sub_code index sub → coded_place text c ≡ None)
    → subs_from text index from (256 - from) ≡ subs_from text index sub (256 - sub)
skip_by zero text index from sub e le none =
    let same : from ≡ sub = omega arith in
    ap (λ s. subs_from text index s (256 - s)) same
skip_by (suc n) text index from sub e le none =
    sub_absent text index from (omega arith) (none (sub_code index from) (omega arith) (omega arith))
    ∙ skip_by n text index (from + 1) sub (omega arith) le (λ c low high. none c (omega arith) high)

pub skip : (text : List ℕ) (index from sub : ℕ) → from ≤ sub → sub ≤ 256
    → ((c : ℕ) → sub_code index from ≤ c → c < sub_code index sub → coded_place text c ≡ None)
    → subs_from text index from (256 - from) ≡ subs_from text index sub (256 - sub)
skip text index from sub le high none = skip_by (sub - from) text index from sub (omega arith) high none

pub none_left : (text : List ℕ) (index from : ℕ) → from ≤ 256
    → ((c : ℕ) → sub_code index from ≤ c → c < sub_code index 256 → coded_place text c ≡ None) → subs_from text index from (256 - from) ≡ []
none_left text index from le none = skip text index from 256 le (lit≤ tt) none ∙ subs_end text index 256 (lit≤ tt)

-- the objects of a sub section, where the index holds them
pub held_goes : (text : List ℕ) (index sub : ℕ) (place : Place) (d : Description) (b : Bool) (xs ys : List (ℕ × Place)) (old new total : List Object) → b ≡ true
    → described text place ≡ Ok d → ys ≡ (sub, place) ∷ xs → new ≡ old ++ object_in index sub place (Ok d) → old ++ held_subs text index b ys ≡ total
    → new ++ held_subs text index b xs ≡ total
held_goes text index sub place d b xs ys old new total holds e cut more so_far =
    let own = object_in index sub place (Ok d) in
    let rest = held_subs text index true xs in
    let first : held_subs text index true ((sub, place) ∷ xs) ≡ own ++ rest = rw e refl in
    let all : held_subs text index true ys ≡ own ++ rest = ap (held_subs text index true) cut ∙ first in
    let joined : (old ++ own) ++ rest ≡ old ++ (own ++ rest) = append_assoc old own rest in
    let before : old ++ held_subs text index true ys ≡ total = rw holds at so_far in
    rw (more, holds) (joined ∙ ap (λ zs. old ++ zs) (sym all) ∙ before)

-- and where it doesn't
pub held_skips : (text : List ℕ) (index : ℕ) (b : Bool) (xs ys : List (ℕ × Place)) (old new total : List Object) → b ≡ false
    → new ≡ old → old ++ held_subs text index b ys ≡ total → new ++ held_subs text index b xs ≡ total
held_skips text index b xs ys old new total holds same so_far = rw (same, holds) (rw holds at so_far)
