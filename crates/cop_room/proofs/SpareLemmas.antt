-- Streams without one of them.
use Rattle.std.proofs.Common.{◌≡◌, ◌∙◌, ◌↔◌, ℕ, zero, suc, ◌+◌, ◌<◌, ◌≤◌, ◌==◌, Bool, true, false, List, [], ◌∷◌, ◌++◌, length, slice_get, get_or, Option, Some, None, is_some, MatchOption, Contains, IsTrue, refl, sym, ap, subst, arith, ⊎_elim}
use Rattle.std.specs.Option.{option_map_or}
use Rattle.std.proofs.lemmas.Bool.{cases_lt, ne_eqb, both_ways}
use Rattle.std.proofs.lemmas.List.Elements.{Contains-append_left, Contains-push, Contains-push_cases, at_from_Contains}
use Rattle.std.proofs.lemmas.List.Folds.{list_any_none}
use Rattle.std.proofs.lemmas.Option.{slice_get-get_or}
use Rattle.cop_frame.specs.declared.rates.Rate.{Rate}
use Rattle.cop_rta.specs.declared.streams.Stream.{Stream}
use Rattle.cop_rta.specs.Streams.{AreDistinct, has_id}
use Rattle.cop_rta.proofs.IdentifierLemmas.{of_stream_at, two_apart}
use Rattle.cop_cert.specs.Assignments.{id_at, least_id, IsPassing, NoAssignmentPasses}
use Rattle.cop_plan.specs.Plans.{CanAssign}
use Rattle.cop_plan.specs.Values.{PlanValue, id_of}
use Rattle.cop_room.specs.Harder.{past_one}
use Rattle.cop_room.specs.Misses.{AreWithout, IsSpare}
use Rattle.cop_room.specs.Planning.{IsPlannedAt}
use Rattle.cop_room.proofs.OneMore.{past_before, past_after}

-- the first so many without the one at an index
pub record AreWithoutSoFar (streams : List Stream) (index : ℕ) (others : List Stream) (n : ℕ) : Type 0 where
  pub before : n ≤ index → length others ≡ n
  pub behind : index < n → length others + 1 ≡ n
  pub each : (k : ℕ) → k < length others → slice_get others k ≡ slice_get streams (past_one index k)

pub none_yet : (streams : List Stream) (index : ℕ) → AreWithoutSoFar streams index [] 0
none_yet streams index = record { before = λ le. refl; behind = λ lt. absurd (omega (arith, lt)); each = λ k lt. absurd (omega (arith, lt)) }

stays : (xs : List Stream) (x : Stream) (k : ℕ) → k < length xs → slice_get (xs ++ x ∷ []) k ≡ slice_get xs k
stays [] x k lt = absurd (omega (arith, lt))
stays (y ∷ ys) x zero lt = refl
stays (y ∷ ys) x (suc k) lt = stays ys x k (omega (arith, lt))

at_seam : (xs : List Stream) (x : Stream) → slice_get (xs ++ x ∷ []) (length xs) ≡ Some x
at_seam [] x = refl
at_seam (y ∷ ys) x = at_seam ys x

longer : (xs : List Stream) (x : Stream) → length (xs ++ x ∷ []) ≡ length xs + 1
longer [] x = refl
longer (y ∷ ys) x = let e = longer ys x in omega (arith, e)

module _ (streams : List Stream) (index : ℕ) (others : List Stream) (n : ℕ) (so_far : AreWithoutSoFar streams index others n) where
  pub one_skipped : n ≡ index → AreWithoutSoFar streams index others (n + 1)
  one_skipped same = record {
    before = λ le. absurd (omega (arith, le, same));
    behind = λ lt. omega (arith, so_far.before (omega (arith, same)));
    each = so_far.each;
  }

  -- where the next one stands among all
  next_is : (n ≡ index → ⊥) → past_one index (length others) ≡ n
  next_is other = ⊎_elim
      (λ (lt : n < index). let size = so_far.before (omega (arith, lt)) in past_before index (length others) (omega (arith, lt, size)) ∙ size)
      (λ (le : index ≤ n). ⊎_elim
      (λ (lt : index < n). let size = so_far.behind lt in past_after index (length others) (omega (arith, lt, size)) ∙ size)
      (λ (back : n ≤ index). absurd (other (omega (arith, le, back))))
      (cases_lt index n))
      (cases_lt n index)

  pub one_kept : (x : Stream) → (n ≡ index → ⊥) → slice_get streams n ≡ Some x → AreWithoutSoFar streams index (others ++ x ∷ []) (n + 1)
  one_kept x other at = record {
    before = λ le. omega (arith, longer others x, so_far.before (omega (arith, le)));
    behind = λ lt. ⊎_elim
        (λ (less : index < n). omega (arith, longer others x, so_far.behind less))
        (λ (back : n ≤ index). absurd (other (omega (arith, lt, back))))
        (cases_lt index n);
    each = λ k lt. ⊎_elim
        (λ (low : k < length others). stays others x k low ∙ so_far.each k low)
        (λ (high : length others ≤ k).
        let last : length others ≡ k = omega (arith, high, lt, longer others x) in
        ap (slice_get (others ++ x ∷ [])) (sym last) ∙ at_seam others x ∙ sym at ∙ ap (slice_get streams) (sym (next_is other) ∙ ap (past_one index) last))
        (cases_lt k (length others));
  }

  past_low : (k : ℕ) → k < length others → past_one index k < n
  past_low k lt = ⊎_elim
      (λ (low : k < index). ⊎_elim
      (λ (le : n < index). omega (arith, past_before index k low, lt, so_far.before (omega (arith, le))))
      (λ (ge : index ≤ n). omega (arith, past_before index k low, low, ge))
      (cases_lt n index))
      (λ (high : index ≤ k). ⊎_elim
      (λ (less : index < n). omega (arith, past_after index k high, lt, so_far.behind less))
      (λ (back : n ≤ index). absurd (omega (arith, lt, high, back, so_far.before back)))
      (cases_lt index n))
      (cases_lt k index)

  pub is_new : (x : Stream) → AreDistinct streams → n < length streams → slice_get streams n ≡ Some x → has_id others x.id ≡ false
  is_new x distinct inside at = list_any_none (λ s. s.id == x.id) others (λ j d lt. ne_eqb (get_or others j d).id x.id (λ same. apart j d lt same))
    where
      apart : (j : ℕ) (d : Stream) → j < length others → (get_or others j d).id ≡ x.id → ⊥
      apart j d lt same =
          let there : slice_get streams (past_one index j) ≡ Some (get_or others j d) = sym (so_far.each j lt) ∙ slice_get-get_or others j d lt in
          two_apart streams distinct (past_one index j) n (past_low j lt) inside
          (ap (λ (o : Option Stream). option_map_or (λ s. s.id) o 0) there ∙ same ∙ sym (ap (λ (o : Option Stream). option_map_or (λ s. s.id) o 0) at))

  pub has_room : n < length streams → length streams ≤ 1100 → length others < 1100
  has_room inside most = ⊎_elim
      (λ (less : index < n). omega (arith, so_far.behind less, inside, most))
      (λ (back : n ≤ index). omega (arith, so_far.before back, inside, most))
      (cases_lt index n)

  pub all_but_one : index < length streams → n ≡ length streams → AreWithout streams index others
  all_but_one inside end = record { as_many = omega (arith, so_far.behind (omega (arith, inside, end)), end); each = so_far.each }

-- there is one such list
same_lists : (xs ys : List Stream) → length xs ≡ length ys → ((k : ℕ) → k < length xs → slice_get xs k ≡ slice_get ys k) → xs ≡ ys
same_lists [] [] size each = refl
same_lists [] (y ∷ ys) size each = absurd (omega (arith, size))
same_lists (x ∷ xs) [] size each = absurd (omega (arith, size))
same_lists (x ∷ xs) (y ∷ ys) size each =
    let two : Some x ≡ Some y = each 0 (omega arith) in
    let first : x ≡ y = cc in
    let rest : xs ≡ ys = same_lists xs ys (omega (arith, size)) (λ k lt. each (suc k) (omega (arith, lt))) in
    ap (λ z. z ∷ xs) first ∙ ap (λ zs. y ∷ zs) rest

one_list : (streams : List Stream) (index : ℕ) (xs ys : List Stream) → AreWithout streams index xs → AreWithout streams index ys → xs ≡ ys
one_list streams index xs ys a b = same_lists xs ys (omega (arith, a.as_many, b.as_many)) (λ k lt. a.each k lt ∙ sym (b.each k (omega (arith, lt, a.as_many, b.as_many))))

-- ---- frames that can be left out

module _ (rate : Rate) (streams : List Stream) (pdos index : ℕ) where
  pub not_fixed : index < pdos → IsSpare rate streams pdos index → ⊥
  not_fixed low spare = omega (arith, low, spare.fixed)

  pub not_above : least_id ≤ id_at streams index → IsSpare rate streams pdos index → ⊥
  not_above high spare = omega (arith, high, spare.above)

  module _ (others : List Stream) (without : AreWithout streams index others) where
    pub not_planned : (CanAssign others pdos → ⊥) → IsSpare rate streams pdos index → ⊥
    not_planned cannot spare = cannot (subst (λ (xs : List Stream). CanAssign xs pdos) (one_list streams index spare.others others spare.are_others without) spare.can)

    pub not_passing : NoAssignmentPasses rate others pdos → IsSpare rate streams pdos index → ⊥
    not_passing none spare = none spare.ids (subst (λ (xs : List Stream). IsPassing rate xs pdos spare.ids) (one_list streams index spare.others others spare.are_others without) spare.passing)

    pub is_spare : pdos ≤ index → index < length streams → id_at streams index < least_id → CanAssign others pdos → (plan : PlanValue) → IsPlannedAt rate others pdos plan → IsSpare rate streams pdos index
    is_spare fixed inside above can plan planned = record {
      fixed = fixed;
      inside = inside;
      above = above;
      others = others;
      are_others = without;
      can = can;
      ids = id_of plan.ids;
      passing = planned.passing;
    }

  pub spare_if : (others : List Stream) → AreWithout streams index others → pdos ≤ index → index < length streams → id_at streams index < least_id → CanAssign others pdos → (o : Option PlanValue) (b : Bool)
      → MatchOption o (b ≡ false) (λ _. b ≡ true) → MatchOption o (NoAssignmentPasses rate others pdos) (IsPlannedAt rate others pdos) → IsTrue b ↔ IsSpare rate streams pdos index
  spare_if others without fixed inside above can None b is none = (λ t. absurd (both_ways b is t), λ spare. absurd (not_passing others without none spare))
  spare_if others without fixed inside above can (Some plan) b is planned = (λ t. is_spare others without fixed inside above can plan planned, λ spare. is)

-- ---- what a test shows

pub above_by : (streams : List Stream) (index : ℕ) (d : Stream) → index < length streams → (get_or streams index d).id < 385 → id_at streams index < least_id
above_by streams index d inside low = omega (arith, of_stream_at streams index d inside, low)

pub some_test : (o : Option PlanValue) (b : Bool) → b ≡ is_some o → MatchOption o (b ≡ false) (λ _. b ≡ true)
some_test None b same = same
some_test (Some plan) b same = same

-- ---- all of them

module _ (rate : Rate) (streams : List Stream) (pdos : ℕ) where
  abbrev pub AreSpareSoFar : List ℕ → ℕ → Type 0
  AreSpareSoFar frames n = (index : ℕ) → Contains frames index ↔ ((index < n) × IsSpare rate streams pdos index)

  pub none_spare : AreSpareSoFar [] 0
  none_spare index = ((λ member. let at = at_from_Contains [] index member in absurd (omega (arith, at.1))), (λ both. absurd (omega (arith, both.0))))

  pub one_spare : (frames : List ℕ) (n : ℕ) → AreSpareSoFar frames n → IsSpare rate streams pdos n → AreSpareSoFar (frames ++ n ∷ []) (n + 1)
  one_spare frames n so_far spare index = (
    (λ member. ⊎_elim
        (λ (old : Contains frames index). let both = (so_far index).0 old in (omega (arith, both.0), both.1))
        (λ (same : n ≡ index). (omega (arith, same), subst (IsSpare rate streams pdos) same spare))
        (Contains-push_cases frames n index member)),
    (λ both. ⊎_elim
        (λ (low : index < n). Contains-append_left frames (n ∷ []) index ((so_far index).1 (low, both.1)))
        (λ (high : n ≤ index). let same : n ≡ index = omega (arith, high, both.0) in subst (Contains (frames ++ n ∷ [])) same (Contains-push frames n))
        (cases_lt index n)),
  )

  pub one_needed : (frames : List ℕ) (n : ℕ) → AreSpareSoFar frames n → (IsSpare rate streams pdos n → ⊥) → AreSpareSoFar frames (n + 1)
  one_needed frames n so_far needed index = (
    (λ member. let both = (so_far index).0 member in (omega (arith, both.0), both.1)),
    (λ both. ⊎_elim
        (λ (low : index < n). (so_far index).1 (low, both.1))
        (λ (high : n ≤ index). let same : index ≡ n = omega (arith, high, both.0) in absurd (needed (subst (IsSpare rate streams pdos) same both.1)))
        (cases_lt index n)),
  )

  pub all_spare : (frames : List ℕ) (n : ℕ) → AreSpareSoFar frames n → length streams ≤ n → (index : ℕ) → Contains frames index ↔ IsSpare rate streams pdos index
  all_spare frames n so_far end index = (
    (λ member. ((so_far index).0 member).1),
    (λ spare. (so_far index).1 (let inside = spare.inside in omega (arith, inside, end), spare)),
  )
