-- The identifiers of rows, one after the other, and streams under them.
use Rattle.std.proofs.Common.{◌≡◌, ◌≢◌, ℕ, ◌+◌, ◌<◌, ◌≤◌, ◌⊎◌, inl, inr, List, [], ◌∷◌, ◌++◌, length, get_or, All, refl, sym, ap, ◌∙◌, subst, arith, ⊎_elim, length-append}
use Rattle.std.proofs.lemmas.Bool.{cases_lt}
use Rattle.std.proofs.lemmas.List.{get_or_append_left, get_or_default}
use Rattle.cop_frame.specs.declared.rates.Rate.{Rate}
use Rattle.cop_rta.specs.declared.streams.Stream.{Stream}
use Rattle.cop_rta.specs.Test.{of_stream}
use Rattle.cop_rta.specs.Ranges.{second_range}
use Rattle.cop_cert.specs.Assignments.{least_id, id_under, IsAssignment, IsPassing}
use Rattle.cop_net.specs.Network.{Net, IsNetwork}
use Rattle.cop_net.specs.Signals.{IsPdoId}
use Rattle.cop_plan.specs.Plans.{CanAssign}
use Rattle.cop_plan.specs.Values.{HaveIds, id_of, AreOnTime}
use Rattle.cop_plan.proofs.RenameLemmas.{AreApart, id_of_pdo, id_of_fixed, none_lower, same_count, passing_before_renaming}
use Rattle.cop_plan.proofs.SamePlace.{same_deadline}
use Rattle.cop_plan.proofs.NetworkLemmas.{can_assign_network}
use Rattle.cop_standing.specs.Answers.{AllPassNow}
use Rattle.cop_standing.specs.Identifiers.{standing_id, CanKeep, AreIds, StandAs}

pub none_yet : (net : Net) → AreIds net 0 []
none_yet net = record { as_many = refl; its = λ p h. absurd (omega arith); kept = λ p h. absurd (omega arith) }

last_of : (ids : List ℕ) (id : ℕ) → id_of (ids ++ id ∷ []) (length ids) ≡ id
last_of [] id = refl
last_of (x ∷ xs) id = last_of xs id

module _ (net : Net) (ids : List ℕ) where
  -- the next row can keep its identifier
  pub one_more : (n id : ℕ) → AreIds net n ids → id ≡ standing_id net n → IsPdoId id → ((k : ℕ) → k < length ids → id_of ids k ≡ id → ⊥) → AreIds net (n + 1) (ids ++ id ∷ [])
  one_more n id so_far its permitted new = record {
    as_many = simp length-append (omega (arith, so_far.as_many));
    its = λ p h. each p h (cases_lt p n);
    kept = λ p h. keeps p h (cases_lt p n);
  }
    where
      each : (p : ℕ) → p < n + 1 → (p < n) ⊎ (n ≤ p) → id_of (ids ++ id ∷ []) p ≡ standing_id net p
      each p h (inl low) = get_or_append_left ids (id ∷ []) 0 p (omega (arith, low, so_far.as_many)) ∙ so_far.its p low
      each p h (inr high) =
          let last : p ≡ length ids = omega (arith, h, high, so_far.as_many) in
          let here : n ≡ p = omega (arith, h, high) in
          ap (λ k. id_of (ids ++ id ∷ []) k) last ∙ last_of ids id ∙ its ∙ ap (λ k. standing_id net k) here

      own : (r : ℕ) → r < n → standing_id net r ≢ standing_id net n
      own r lt same = new r (omega (arith, lt, so_far.as_many)) (so_far.its r lt ∙ same ∙ sym its)

      keeps : (p : ℕ) → p < n + 1 → (p < n) ⊎ (n ≤ p) → CanKeep (standing_id net) p
      keeps p h (inl low) = so_far.kept p low
      keeps p h (inr high) = let here : n ≡ p = omega (arith, h, high) in
          subst (CanKeep (standing_id net)) here (record { permitted = subst IsPdoId its permitted; own = own })

id_low : (id : ℕ) → IsPdoId id → id < 2048
id_low id (inl first) = omega (arith, first.1)
id_low id (inr second) = omega (arith, second.1)

pub id_high : (id : ℕ) → IsPdoId id → least_id ≤ id
id_high id (inl first) = first.0
id_high id (inr second) = omega (arith, second.0)

module _ (net : Net) (ids : List ℕ) (are : AreIds net (length net.rows) ids) where
  pub inside : (k : ℕ) → k < length ids → k < length net.rows
  inside k h = omega (arith, h, are.as_many)

  read : (k d : ℕ) (h : k < length ids) → get_or ids k d ≡ standing_id net k
  read k d h = get_or_default ids k d 0 h ∙ are.its k (inside k h)

  pub ids_low : All (λ id. id < 2048) ids
  ids_low k d h = subst (λ id. id < 2048) (sym (read k d h)) (id_low (standing_id net k) (are.kept k (inside k h)).permitted)

  pub ids_high : All (λ id. least_id ≤ id) ids
  ids_high k d h = subst (λ id. least_id ≤ id) (sym (read k d h)) (id_high (standing_id net k) (are.kept k (inside k h)).permitted)

  -- two rows have two identifiers
  rows_apart : (p k : ℕ) → p < length ids → k < length ids → p ≢ k → standing_id net p ≢ standing_id net k
  rows_apart p k h low other same = ⊎_elim
      (λ (lt : p < k). (are.kept k (inside k low)).own p lt same)
      (λ (le : k ≤ p). (are.kept p (inside p h)).own k (below le) (sym same))
      (cases_lt p k)
    where
      below : k ≤ p → k < p
      below le = omega (arith, le, other)

  fixed_apart : IsNetwork net → (id k : ℕ) → IsPdoId id → length net.rows ≤ k → k < length net.set → id ≢ of_stream (λ s. s.id) net.set k
  fixed_apart network id k (inl first) fixed low same = ⊎_elim
      (λ (under : of_stream (λ s. s.id) net.set k < 0x181). omega (arith, under, same, first.0))
      (λ (over : 0x57F < of_stream (λ s. s.id) net.set k). omega (arith, over, same, first.1))
      (network.streams.outside k fixed low)
  fixed_apart network id k (inr second) fixed low same = ⊎_elim
      (λ (under : of_stream (λ s. s.id) net.set k < second_range.least). omega (arith, under, same, second.0))
      (λ (over : second_range.least + second_range.count ≤ of_stream (λ s. s.id) net.set k). omega (arith, over, same, second.1))
      (network.streams.outside_second k fixed low)

  pub apart : IsNetwork net → AreApart net.set (length ids) (id_of ids)
  apart network p k h low other same = ⊎_elim
      (λ (pdo : k < length ids). rows_apart p k h pdo other (sym (are.its p (inside p h)) ∙ same ∙ id_of_pdo net.set (length ids) (id_of ids) k pdo ∙ are.its k (inside k pdo)))
      (λ (fixed : length ids ≤ k). fixed_apart network (standing_id net p) k (are.kept p (inside p h)).permitted (omega (arith, fixed, are.as_many)) low
      (sym (are.its p (inside p h)) ∙ same ∙ id_of_fixed net.set (length ids) (id_of ids) k fixed))
      (cases_lt k (length ids))

  same_under : (k : ℕ) → id_under net.set (length ids) (id_of ids) k ≡ id_under net.set (length net.rows) (standing_id net) k
  same_under k = ⊎_elim
      (λ (pdo : k < length ids). id_of_pdo net.set (length ids) (id_of ids) k pdo ∙ are.its k (inside k pdo) ∙ sym (id_of_pdo net.set (length net.rows) (standing_id net) k (inside k pdo)))
      (λ (fixed : length ids ≤ k). id_of_fixed net.set (length ids) (id_of ids) k fixed ∙ sym (id_of_fixed net.set (length net.rows) (standing_id net) k (omega (arith, fixed, are.as_many))))
      (cases_lt k (length ids))

  pub stand_as : (streams : List Stream) → HaveIds net.set (length ids) (id_of ids) streams → StandAs net streams
  stand_as streams have = record {
    kept = are.kept;
    renamed = record { timings = have.timings; each = λ k h. have.each k h ∙ same_under k };
  }

-- what passes as it stands is a passing assignment
pub can_be_planned : (rate : Rate) (net : Net) (streams : List Stream) → IsNetwork net → StandAs net streams → AllPassNow rate streams (length net.rows)
    → IsAssignment (length net.rows) (standing_id net) → IsPassing rate net.set (length net.rows) (standing_id net)
can_be_planned rate net streams network stands passes assigned = (assigned, passing_before_renaming rate net.set streams pdos ids stands.renamed can.count can.provisional low on_time)
  where
    pdos : ℕ
    pdos = length net.rows

    ids : ℕ → ℕ
    ids = standing_id net

    can : CanAssign net.set pdos
    can = can_assign_network net network network.rows.count

    low : (p : ℕ) → p < pdos → least_id ≤ ids p
    low = none_lower pdos ids assigned

    size : length streams ≡ length net.set
    size = same_count rate net.set streams pdos ids stands.renamed

    on_time : AreOnTime rate streams pdos
    on_time = record {
      deadlines = λ p h. let d = can.deadlines p h in (d.0, same_deadline streams net.set stands.renamed.timings p ∙ d.1);
      pass = λ p h. passes p (omega (arith, h, can.count, size)) (inl h);
      frames = λ f t. passes f t.inside (inr t);
    }
