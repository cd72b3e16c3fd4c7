-- Streams lowered one after the other, and the halving that finds the greatest margin.
use Rattle.std.proofs.Common.{◌≡◌, ◌==◌, ℕ, zero, suc, ◌+◌, ◌*◌, ◌^◌, ◌<◌, ◌≤◌, min, le_trans, lit≤, false, List, length, take, get_or, Option, Some, None, MatchOption, refl, sym, ap, ◌∙◌, subst, arith, ⊎_elim}
use Rattle.std.proofs.Math.Nat.{pow-succ'}
use Rattle.std.proofs.lemmas.Bool.{ne_eqb, cases_lt}
use Rattle.std.proofs.lemmas.List.{get_or-take, length-take-le}
use Rattle.std.proofs.lemmas.List.Folds.{list_any_none}
use Rattle.cop_frame.specs.declared.rates.Rate.{Rate}
use Rattle.cop_rta.specs.declared.streams.Stream.{Stream}
use Rattle.cop_rta.specs.Streams.{AreDistinct, has_id}
use Rattle.cop_rta.specs.Test.{of_stream}
use Rattle.cop_cert.specs.declared.refusals.Refusal.{Refusal}
use Rattle.cop_cert.specs.Assignments.{NoAssignmentPasses}
use Rattle.cop_cert.proofs.CauseLemmas.{refusal_rules_out}
use Rattle.cop_rta.proofs.IdentifierLemmas.{of_stream_at, two_apart}
use Rattle.cop_plan.specs.declared.assigning.Found.TheVariants.{Refused}
use Rattle.cop_plan.specs.Found.{IsFound, NoneFrom}
use Rattle.cop_plan.specs.Caps.{deadline_of, cap_of, CanHave, AreCaps, IsGreatestOf, capped}
use Rattle.cop_plan.specs.Margins.{AreLoweredBy, AreLoweredTo}
use Rattle.cop_plan.proofs.CapLemmas.{dated_inside, deadline_is_below, cap_below, cap_undated}
use Rattle.cop_plan.proofs.MarginLemmas.{lowered_length, lowered_alike, same_id}

-- ---- streams one after the other

-- the next one has an identifier that none has yet
pub lowered_is_new : (amount : ℕ → ℕ) (streams lowered : List Stream) (i : ℕ) (d next : Stream) → AreDistinct streams → i < length streams → AreLoweredBy amount (take i streams) lowered
    → next.id ≡ (get_or streams i d).id → has_id lowered next.id ≡ false
lowered_is_new amount streams lowered i d next distinct low is its =
    list_any_none (λ s. s.id == next.id) lowered (λ j e inside. ne_eqb (get_or lowered j e).id next.id (λ same. apart j e inside same))
  where
    apart : (j : ℕ) (e : Stream) → j < length lowered → (get_or lowered j e).id ≡ next.id → ⊥
    apart j e inside same =
        let size : length lowered ≡ i = lowered_length amount (take i streams) lowered is ∙ length-take-le i streams (omega (arith, low)) in
        let before : j < i = omega (arith, inside, size) in
        let mine : of_stream (λ s. s.id) streams j ≡ (get_or lowered j e).id =
        of_stream_at streams j e (omega (arith, before, low)) ∙ sym (ap (λ (s : Stream). s.id) (get_or-take i streams j e before))
        ∙ sym (of_stream_at (take i streams) j e (omega (arith, before, low, length-take-le i streams (omega (arith, low)))))
        ∙ sym (same_id amount (take i streams) lowered is j) ∙ of_stream_at lowered j e inside in
        two_apart streams distinct j i before low (mine ∙ same ∙ its ∙ sym (of_stream_at streams i d low))

-- ---- the caps

pub capped_more : (margin more cap : ℕ) → margin ≤ more → min margin cap ≤ min more cap
capped_more margin more cap le = omega (arith, le)

module _ (rate : Rate) (streams : List Stream) (pdos : ℕ) (caps : List ℕ) (are : AreCaps rate streams pdos caps) where
  pub cap_listed : (k d : ℕ) → deadline_of streams k ≡ Some d → get_or caps k 0 ≡ cap_of rate streams pdos k
  cap_listed k d e = are.each k (dated_inside streams k d e)

  pub listed_below : (k d : ℕ) → deadline_of streams k ≡ Some d → get_or caps k 0 < d
  listed_below k d e = omega (arith, cap_listed k d e, cap_below rate streams pdos k d e)

  -- a list of the caps lowers as they do
  pub lowered_by_list : (margin : ℕ) (lowered : List Stream) → AreLoweredBy (capped margin (λ k. get_or caps k 0)) streams lowered → AreLoweredTo margin rate pdos streams lowered
  lowered_by_list margin lowered is = is ∙ lowered_alike (capped margin (λ k. get_or caps k 0)) (capped margin (cap_of rate streams pdos)) streams (λ k d e. ap (λ (cap : ℕ). min margin cap) (cap_listed k d e))

  cap_most : (k : ℕ) (o : Option ℕ) → deadline_of streams k ≡ o → cap_of rate streams pdos k ≤ 240000000
  cap_most k None e = omega (arith, cap_undated rate streams pdos k e)
  cap_most k (Some d) e = omega (arith, cap_below rate streams pdos k d e, deadline_is_below streams k d e)

  module _ (greatest : ℕ) (is : IsGreatestOf caps greatest) where
    pub greatest_most : greatest ≤ 240000000
    greatest_most = ⊎_elim
        (λ (some : 0 < greatest).
        let found = is.reached (omega (arith, some)) in
        omega (arith, found.2, are.each found.0 (omega (arith, found.1, are.count)), cap_most found.0 (deadline_of streams found.0) refl))
        (λ (none : greatest ≤ 0). omega (arith, none))
        (cases_lt 0 greatest)

    -- no stream can have more
    pub none_above : NoneFrom rate streams pdos (greatest + 1)
    none_above more le can lowered such =
        let low : can.0 < length caps = omega (arith, can.1, are.count) in
        absurd (omega (arith, le, can.2, are.each can.0 can.1, is.each can.0 low))

    -- and some stream can have each margin up to it
    pub can_have : (margin : ℕ) → margin ≤ greatest → 1 ≤ margin → CanHave rate streams pdos margin
    can_have margin le some =
        let found = is.reached (omega (arith, le, some)) in
        let low : found.0 < length streams = omega (arith, found.1, are.count) in
        (found.0, low, omega (arith, le, found.2, are.each found.0 low))

-- where a rate is refused no assignment passes
pub refused_none : (rate : Rate) (streams : List Stream) (pdos : ℕ) (r : Refusal) → pdos ≤ length streams → IsFound rate streams pdos (Refused r) → NoAssignmentPasses rate streams pdos
refused_none rate streams pdos r few h = subst (λ (rate : Rate). NoAssignmentPasses rate streams pdos) h.0 (refusal_rules_out streams pdos r few h.1.holds)

-- what follows from each case of an option
pub by_case : {A : Type 0} (o : Option A) (P Q : Type 0) (R S : A → Type 0) → (P → Q) → ((a : A) → R a → S a) → MatchOption o P R → MatchOption o Q S
by_case None P Q R S none some h = none h
by_case (Some a) P Q R S none some h = some a h

-- ---- how often a gap is halved

-- so many halvings make a gap one at most, and a count has room for what each of them adds
pub record HasHalvings (gap now most each : ℕ) : Type 0 where
  pub left : ℕ
  pub small : gap ≤ 2 ^ left
  pub room : now + left * each ≤ most

pub halvings_begin : (gap old each : ℕ) → gap ≤ 240000001 → HasHalvings gap old (old + 28 * each) each
halvings_begin gap old each h = record {
  left = 28;
  small = (let p : 240000001 ≤ 2 ^ 28 = lit≤ tt in le_trans h p);
  room = omega arith;
}

pub halved : (gap smaller now later most each : ℕ) → 1 < gap → smaller * 2 ≤ gap + 1 → later ≤ now + each → HasHalvings gap now most each → HasHalvings smaller later most each
halved gap smaller now later most each wide half adds h = go h.left h.small h.room
  where
    go : (left : ℕ) → gap ≤ 2 ^ left → now + left * each ≤ most → HasHalvings smaller later most each
    go zero small room = absurd (omega (arith, small, wide))
    go (suc m) small room = let twice = pow-succ' 2 m in record {
      left = m;
      small = omega (arith, small, half, twice);
      room = omega (arith, room, adds);
    }

pub halvings_end : (gap now most each : ℕ) → HasHalvings gap now most each → now ≤ most
halvings_end gap now most each h = omega (arith, h.room)

-- where one adds to the count it ends there
pub halvings_left : (gap now later most each : ℕ) → 1 < gap → later ≤ now + each → HasHalvings gap now most each → later ≤ most
halvings_left gap now later most each wide adds h = halvings_end 0 later most each (halved gap 0 now later most each wide (omega arith) adds h)

-- the counts of a few PDOs stay far below what their numbers hold
pub trials_have_room : (pdos old now : ℕ) → pdos ≤ 512 → old ≤ 4294967296 + 536870912 → 2 * now ≤ 2 * old + 28 * (3 * (pdos * (pdos + 1))) → now ≤ 4294967296 + 1073741824
trials_have_room pdos old now few room h = let most : pdos * (pdos + 1) ≤ 512 * 513 = grind (arith, few) in omega (arith, room, h, most)

pub trials_so_far : (pdos old now : ℕ) → pdos ≤ 512 → old ≤ 4294967296 → 2 * now ≤ 2 * old + 24 * (pdos * (pdos + 1)) → now ≤ 4294967296 + 536870912
trials_so_far pdos old now few room h = let most : pdos * (pdos + 1) ≤ 512 * 513 = grind (arith, few) in omega (arith, room, h, most)
