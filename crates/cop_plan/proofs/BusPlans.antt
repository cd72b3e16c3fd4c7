-- A plan of a set that counts disturbed transfers is one of the streams of the bus in it.
use Rattle.std.proofs.Common.{◌≡◌, ◌≢◌, ◌∙◌, ◌==◌, inl, inr, ℕ, zero, suc, ◌+◌, ◌*◌, ◌<◌, ◌≤◌, ◌⊎◌, Bool, true, false, is_some, if◌then◌else◌, List, [], ◌∷◌, ◌++◌, map, length, get_or, slice_get, All, Option, Some, None, IsSome, option_map, refl, sym, ap, subst, arith, length-append}
use Rattle.std.specs.Option.{option_map_or, option_and_then}
use Rattle.std.proofs.lemmas.Bool.{cases_lt, cases_eq, ne_eqb}
use Rattle.std.proofs.lemmas.List.{length-map}
use Rattle.std.proofs.lemmas.Option.{slice_get_cases, slice_get_within, slice_get-get_or, get_or_from_slice_get}
use Rattle.cop_frame.specs.declared.rates.Rate.{Rate}
use Rattle.cop_rta.specs.declared.streams.Stream.{Stream}
use Rattle.cop_rta.specs.declared.errors.Errors.{Errors}
use Rattle.cop_rta.specs.declared.ranges.IdRange.{IdRange}
use Rattle.cop_rta.specs.Ranges.{first_range, second_range, IsOutside}
use Rattle.cop_rta.specs.Streams.{AreDistinct, place_of_id}
use Rattle.cop_rta.specs.Greatest.{AreSynced}
use Rattle.cop_rta.specs.Test.{of_stream, sync_id, Passes, place_by_id}
use Rattle.cop_rta.specs.UpLemmas.{up_id, up_id-cases, up_id-other}
use Rattle.cop_rta.specs.Errors.{HasNoOne, up, errors_stream, tested, rarity, errors_of, all_but_errors, bus_of}
use Rattle.cop_rta.proofs.BusLemmas.{tested_again, slice_up, up_id-sync}
use Rattle.cop_rta.proofs.SyncLemmas.{place_inside}
use Rattle.cop_rta.proofs.Without.{without_errors}
use Rattle.cop_cert.specs.Assignments.{least_id, id_at, IsSdo, IsTested, IsAssignment, AreOutside}
use Rattle.cop_plan.specs.Planned.{IsPlanned}
use Rattle.cop_plan.specs.Values.{PlanValue, id_of, on_bus, HaveDeadlines, AreOnTime, HasTested}
use Rattle.cop_plan.proofs.RenameLemmas.{of_stream_last, none_lower}

-- an identifier that is high in the tested set is the same on the bus
pub same_high : (a b : ℕ) → up_id a ≡ b → 2 ≤ b → a ≡ b
same_high a b e high = elim (up_id-cases a) [ inl c ↦ absurd (omega (arith, c.1, e, high)) | inr c ↦ omega (arith, c.1, e) ]

module _ (bus : List Stream) (e : Errors) where
  abbrev set : List Stream
  set = tested (Some e) bus

  size : length set ≡ length bus + 1
  size = let a = length-append (map up bus) (errors_stream e ∷ []) in let b = length-map bus up in omega (arith, a, b)

  -- the stream at a number, in both
  here : (k : ℕ) → k < length bus → (s : Stream) × (slice_get bus k ≡ Some s)
  here k low = elim (slice_get_cases bus k).1 [ inr past ↦ absurd (omega (arith, past.0, low)) | inl there ↦ (there.0, there.2) ]

  there : (k : ℕ) (s : Stream) → slice_get bus k ≡ Some s → slice_get set k ≡ Some (up s)
  there k s its = slice_up bus (errors_stream e ∷ []) k s its

  id_up : (k : ℕ) → k < length bus → id_at set k ≡ up_id (id_at bus k)
  id_up k low =
      let h = here k low in
      ap (λ (o : Option Stream). option_map_or (λ s. s.id) o 0) (there k h.0 h.1) ∙ ap up_id (sym (ap (λ (o : Option Stream). option_map_or (λ s. s.id) o 0) h.1))

  deadline_up : (k : ℕ) → k < length bus → option_and_then (λ (s : Stream). s.deadline) (slice_get set k) ≡ option_and_then (λ (s : Stream). s.deadline) (slice_get bus k)
  deadline_up k low =
      let h = here k low in
      ap (λ (o : Option Stream). option_and_then (λ (s : Stream). s.deadline) o) (there k h.0 h.1) ∙ sym (ap (λ (o : Option Stream). option_and_then (λ (s : Stream). s.deadline) o) h.1)

  period_up : (k : ℕ) → k < length bus → of_stream (λ s. s.period) set k ≡ of_stream (λ s. s.period) bus k
  period_up k low =
      let h = here k low in
      ap (λ (o : Option Stream). option_map_or (λ s. s.period) o 0) (there k h.0 h.1) ∙ sym (ap (λ (o : Option Stream). option_map_or (λ s. s.period) o 0) h.1)

  id_last : id_at set (length bus) ≡ 0
  id_last = ap (λ (n : ℕ). id_at set n) (sym (length-map bus up)) ∙ of_stream_last (map up bus) (errors_stream e)

  -- what is high is one of the bus
  inside : (k : ℕ) → k < length set → 2 ≤ id_at set k → k < length bus
  inside k low high = elim (cases_lt k (length bus)) [
    | inl l ↦ l
    | inr past ↦ (let last : k ≡ length bus = omega (arith, past, low, size) in let id = ap (λ (n : ℕ). id_at set n) last in absurd (omega (arith, id, id_last, high)))
  ]

  same_id : (k : ℕ) → k < length bus → 2 ≤ id_at set k → id_at bus k ≡ id_at set k
  same_id k low high = same_high (id_at bus k) (id_at set k) (sym (id_up k low)) high

  outside_bus : (range : IdRange) (pdos : ℕ) → 1 ≤ range.least → AreOutside range set pdos → AreOutside range bus pdos
  outside_bus range pdos least out k fixed low = elim (up_id-cases (id_at bus k)) [
    | inl c ↦ inl (omega (arith, c.0, least))
    | inr c ↦ subst (IsOutside range) (id_up k low ∙ c.1) (out k fixed (omega (arith, low, size)))
  ]

  sdo_high : (id : ℕ) → IsSdo id → 2 ≤ id
  sdo_high id (inl h) = omega (arith, h.0)
  sdo_high id (inr h) = omega (arith, h.0)

  tested_up : (pdos f : ℕ) → IsTested bus pdos f → IsTested set pdos f
  tested_up pdos f t = record {
    fixed = t.fixed;
    inside = omega (arith, t.inside, size);
    sdo = subst IsSdo (sym (id_up f t.inside ∙ up_id-other (id_at bus f) (let h = sdo_high (id_at bus f) t.sdo in omega (arith, h)))) t.sdo;
    deadline = (t.deadline.0, deadline_up f t.inside ∙ t.deadline.1);
  }

  tested_down : (pdos f : ℕ) → IsTested set pdos f → IsTested bus pdos f
  tested_down pdos f t =
      let high = sdo_high (id_at set f) t.sdo in
      let low = inside f t.inside high in record {
        fixed = t.fixed;
        inside = low;
        sdo = subst IsSdo (sym (same_id f low high)) t.sdo;
        deadline = (t.deadline.0, sym (deadline_up f low) ∙ t.deadline.1);
      }

  on_time_bus : HasNoOne bus → (rate : Rate) (pdos : ℕ) → pdos ≤ length bus → AreOnTime rate set pdos → AreOnTime rate bus pdos
  on_time_bus free rate pdos count on_time = record {
    deadlines = λ p low. (let d = on_time.deadlines p low in (d.0, sym (deadline_up p (omega (arith, low, count))) ∙ d.1));
    pass = λ p low. (let h = here p (omega (arith, low, count)) in without_errors e bus free rate p h.0 h.1 (on_time.pass p low));
    frames = λ f t. (let h = here f t.inside in without_errors e bus free rate f h.0 h.1 (on_time.frames f (tested_up pdos f t)));
  }

  -- SYNC is where it was
  place_down : (streams : List Stream) (i : ℕ) → place_of_id (map up streams ++ errors_stream e ∷ []) sync_id ≡ Some i → place_of_id streams sync_id ≡ Some i
  place_down [] i h = absurd (cc)
  place_down (k ∷ streams) i h =
      go (λ n found. place_down streams n found) (k.id == sync_id) refl (place_of_id (map up streams ++ errors_stream e ∷ []) sync_id) refl
      (sym (ap (λ b. if b then Some 0 else option_map (λ n. suc n) (place_of_id (map up streams ++ errors_stream e ∷ []) sync_id)) (up_id-sync k.id)) ∙ h)
    where
      both : (b : Bool) (o : Option ℕ) → (k.id == sync_id) ≡ b → (if k.id == sync_id then Some 0 else option_map (λ n. suc n) o) ≡ (if b then Some 0 else option_map (λ n. suc n) o)
      both b o test = ap (λ b. if b then Some 0 else option_map (λ n. suc n) o) test

      go : ((n : ℕ) → place_of_id (map up streams ++ errors_stream e ∷ []) sync_id ≡ Some n → place_of_id streams sync_id ≡ Some n)
          → (b : Bool) → (k.id == sync_id) ≡ b → (o : Option ℕ) → place_of_id (map up streams ++ errors_stream e ∷ []) sync_id ≡ o
          → (if k.id == sync_id then Some 0 else option_map (λ n. suc n) (place_of_id (map up streams ++ errors_stream e ∷ []) sync_id)) ≡ Some i
          → (if k.id == sync_id then Some 0 else option_map (λ n. suc n) (place_of_id streams sync_id)) ≡ Some i
      go rest true test o told found = both true (place_of_id streams sync_id) test ∙ sym (both true (place_of_id (map up streams ++ errors_stream e ∷ []) sync_id) test) ∙ found
      go rest false test None told found =
          let none : ◌≡◌ {A = Option ℕ} None (Some i) = sym (both false (place_of_id (map up streams ++ errors_stream e ∷ []) sync_id) test ∙ ap (option_map (λ n. suc n)) told) ∙ found in absurd (cc)
      go rest false test (Some n) told found =
          both false (place_of_id streams sync_id) test ∙ ap (option_map (λ n. suc n)) (rest n told)
          ∙ sym (both false (place_of_id (map up streams ++ errors_stream e ∷ []) sync_id) test ∙ ap (option_map (λ n. suc n)) told) ∙ found

  apart_bus : AreDistinct set → AreDistinct bus
  apart_bus distinct i j d lt low same =
      let left : get_or set i d ≡ up (get_or bus i d) = get_or_from_slice_get set i (up (get_or bus i d)) d (there i (get_or bus i d) (slice_get-get_or bus i d (omega (arith, lt, low)))) in
      let right : get_or set j d ≡ up (get_or bus j d) = get_or_from_slice_get set j (up (get_or bus j d)) d (there j (get_or bus j d) (slice_get-get_or bus j d low)) in
      distinct i j d lt (omega (arith, low, size)) (ap (λ (s : Stream). s.id) left ∙ ap up_id same ∙ sym (ap (λ (s : Stream). s.id) right))

  synced_bus : AreSynced set → AreSynced bus
  synced_bus synced = record {
    each = λ k d low some.
        (let its : slice_get set k ≡ Some (up (get_or bus k d)) = there k (get_or bus k d) (slice_get-get_or bus k d low) in
        let same : get_or set k d ≡ up (get_or bus k d) = get_or_from_slice_get set k (up (get_or bus k d)) d its in
        let w = synced.each k d (omega (arith, low, size)) (subst (λ (s : Stream). 1 ≤ s.every) (sym same) some) in
        let place = place_down bus w.0 w.1 in
        let period : (get_or bus k d).period ≡ (get_or set k d).period = sym (ap (λ (s : Stream). s.period) same) in
        let every : (get_or set k d).every ≡ (get_or bus k d).every = ap (λ (s : Stream). s.every) same in
        (w.0, place, period ∙ w.2 ∙ ap (λ (n : ℕ). n * of_stream (λ t. t.period) set w.0) every ∙ ap (λ (n : ℕ). (get_or bus k d).every * n) (period_up w.0 (place_inside bus sync_id w.0 place))));
  }

-- the plan on the bus
made : (plan : PlanValue) (bus : List Stream) (e : Errors) → plan.streams ≡ tested (Some e) bus → HasNoOne bus → IsPlanned plan
    → IsPlanned (record { rate = plan.rate; order = plan.order; ids = plan.ids; margin = plan.margin; refusals = []; streams = bus })
made plan bus e its free p =
    let n = length plan.ids in
    let count : n ≤ length (tested (Some e) bus) = subst (λ (ss : List Stream). n ≤ length ss) its p.count in
    let id : (k : ℕ) → k < n → id_at (tested (Some e) bus) k ≡ id_of plan.ids k = λ k low. ap (λ (ss : List Stream). id_at ss k) (sym its) ∙ p.its k low in
    let high : (k : ℕ) → k < n → 2 ≤ id_at (tested (Some e) bus) k = λ k low. (let l = none_lower n (id_of plan.ids) p.assigned k low in let i = id k low in omega (arith, l, i)) in
    let within : (k : ℕ) → k < n → k < length bus = λ k low. inside bus e k (omega (arith, low, count)) (high k low) in
    let few : n ≤ length bus = elim (cases_lt (length bus) n) [ inl more ↦ absurd (let bad = within (length bus) more in omega (arith, bad)) | inr le ↦ le ] in
    record {
      count = few;
      few = p.few;
      its = λ k low. same_id bus e k (within k low) (high k low) ∙ id k low;
      assigned = p.assigned;
      lower = λ k low second. (let t = p.lower k low second in (t.0, tested_down bus e n t.0 (subst (λ (ss : List Stream). IsTested ss n t.0) its t.1)));
      outside_first = outside_bus bus e first_range n (omega arith) (subst (λ (ss : List Stream). AreOutside first_range ss n) its p.outside_first);
      outside_second = outside_bus bus e second_range n (omega arith) (subst (λ (ss : List Stream). AreOutside second_range ss n) its p.outside_second);
      by_priority = p.by_priority;
      on_time = on_time_bus bus e free plan.rate n few (subst (λ (ss : List Stream). AreOnTime plan.rate ss n) its p.on_time);
      synced = synced_bus bus e (subst AreSynced its p.synced);
    }

pub planned_on_bus : (plan : PlanValue) → AreDistinct plan.streams → IsSome (errors_of plan.streams) → IsPlanned plan → IsPlanned (on_bus plan)
planned_on_bus plan distinct some p = go (errors_of plan.streams) refl some
  where
    go : (o : Option Stream) → errors_of plan.streams ≡ o → IsSome o → IsPlanned (on_bus plan)
    go None e h = absurd (cc)
    go (Some s) e h = let t = tested_again plan.streams distinct s e in made plan (bus_of plan.streams) (rarity s) t.again t.free p

-- ---- what holds of a set holds of the streams of the bus in it

count_bus : (bus : List Stream) (e : Errors) (pdos : ℕ) → pdos ≤ length (tested (Some e) bus) → HaveDeadlines (tested (Some e) bus) pdos → pdos ≤ length bus
count_bus bus e pdos count dated = elim (cases_lt (length bus) pdos) [
  | inr le ↦ le
  | inl more ↦ (let d = dated (length bus) more in
      let last : slice_get (tested (Some e) bus) (length bus) ≡ Some (errors_stream e) = ap (slice_get (tested (Some e) bus)) (sym (length-map bus up)) ∙ at_last (map up bus) (errors_stream e) in
      let none : ◌≡◌ {A = Option ℕ} None (Some d.0) = sym (ap (λ (o : Option Stream). option_and_then (λ (s : Stream). s.deadline) o) last) ∙ d.1 in absurd (cc))
]
  where
    at_last : (xs : List Stream) (x : Stream) → slice_get (xs ++ x ∷ []) (length xs) ≡ Some x
    at_last [] x = refl
    at_last (y ∷ xs) x = at_last xs x

-- the same of each kind of set
module _ (streams : List Stream) (distinct : AreDistinct streams) where
  by_errors : (P : List Stream → Type 0) → (errors_of streams ≡ None → P streams) → ((s : Stream) → errors_of streams ≡ Some s → P (bus_of streams)) → P (bus_of streams)
  by_errors P plain counted = go (errors_of streams) refl
    where
      go : (o : Option Stream) → errors_of streams ≡ o → P (bus_of streams)
      go None none = subst P (sym (ap (λ (o : Option Stream). if is_some o then all_but_errors streams else streams) none)) (plain none)
      go (Some s) some = counted s some

  pub on_time_on_bus : (rate : Rate) (pdos : ℕ) → pdos ≤ length streams → AreOnTime rate streams pdos → AreOnTime rate (bus_of streams) pdos
  on_time_on_bus rate pdos count fine = by_errors (λ ss. AreOnTime rate ss pdos) (λ none. fine) (λ s some.
      (let t = tested_again streams distinct s some in
      let whole = subst (λ (ss : List Stream). AreOnTime rate ss pdos) t.again fine in
      on_time_bus (bus_of streams) (rarity s) t.free rate pdos (count_bus (bus_of streams) (rarity s) pdos (subst (λ (ss : List Stream). pdos ≤ length ss) t.again count) whole.deadlines) whole))

  pub synced_on_bus : AreSynced streams → AreSynced (bus_of streams)
  synced_on_bus synced = by_errors AreSynced (λ none. synced) (λ s some. (let t = tested_again streams distinct s some in synced_bus (bus_of streams) (rarity s) (subst AreSynced t.again synced)))

  pub tested_on_bus : (pdos f : ℕ) → IsTested streams pdos f → IsTested (bus_of streams) pdos f
  tested_on_bus pdos f h = by_errors (λ ss. IsTested ss pdos f) (λ none. h) (λ s some. (let t = tested_again streams distinct s some in tested_down (bus_of streams) (rarity s) pdos f (subst (λ (ss : List Stream). IsTested ss pdos f) t.again h)))

  pub bus_distinct : AreDistinct (bus_of streams)
  bus_distinct = by_errors AreDistinct (λ none. distinct) (λ s some. (let t = tested_again streams distinct s some in apart_bus (bus_of streams) (rarity s) (subst AreDistinct t.again distinct)))

  -- a stream of the bus is one of the set, with its deadline
  pub was_in_set : (p : ℕ) (k : Stream) → slice_get (bus_of streams) p ≡ Some k → (s : Stream) × (slice_get streams p ≡ Some s) × (s.deadline ≡ k.deadline)
  was_in_set p k = by_errors (λ ss. slice_get ss p ≡ Some k → (s : Stream) × (slice_get streams p ≡ Some s) × (s.deadline ≡ k.deadline)) (λ none here. (k, here, refl)) (λ s some here.
      (let t = tested_again streams distinct s some in (up k, ap (λ (ss : List Stream). slice_get ss p) t.again ∙ there (bus_of streams) (rarity s) p k here, refl)))
