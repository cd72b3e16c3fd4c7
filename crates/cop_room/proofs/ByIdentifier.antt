-- The places of streams by identifier, among others of which each is no easier.
use Rattle.std.proofs.Common.{◌≡◌, ◌∙◌, ◌↔◌, le_trans, ℕ, suc, ◌+◌, ◌<◌, ◌≤◌, ◌⊎◌, inl, inr, ◌==◌, ◌||◌, Bool, true, false, if◌then◌else◌, List, [], ◌∷◌, length, slice_get, Option, Some, None, option_map, refl, sym, ap, subst, arith, le_refl, zero-le, ⊎_elim}
use Rattle.std.specs.Prelude.{nat_lt}
use Rattle.std.specs.Option.{option_map_or}
use Rattle.std.proofs.lemmas.Bool.{cases_eq, cases_lt, eqb-true}
use Rattle.std.proofs.lemmas.Bool.Decides.{nat_tests}
use Rattle.std.proofs.lemmas.Option.{slice_get_cases}
use Rattle.cop_frame.specs.declared.rates.Rate.{Rate}
use Rattle.cop_rta.specs.declared.streams.Stream.{Stream}
use Rattle.cop_rta.specs.Entries.{entry_of}
use Rattle.cop_rta.specs.Streams.{AreDistinct, place_of_id}
use Rattle.cop_rta.specs.Test.{StreamPlace, Passes, place_by_id, has_lower_id, of_stream, jitter_of, sync_id, sync_place, sync_response, ahead_of, busy_at, IsQueuedWithin, IsOnTime}
use Rattle.cop_rta.specs.Greatest.{HasGreatest}
use Rattle.cop_rta.proofs.JitteredLemmas.{passes_with}
use Rattle.cop_rta.proofs.IdentifierLemmas.{place_has_id, no_place, one_place}
use Rattle.cop_rta.proofs.SyncLemmas.{sync_responds, sync_response_is, ahead_is, ahead_none}
use Rattle.cop_rta.proofs.SyncLemmas as syncs
use Rattle.cop_room.specs.Harder.{IsHarder, AreHarder, AreAmong}
use Rattle.cop_room.proofs.HarderLemmas.{jitter_harder, jitter_alone}
use Rattle.cop_room.proofs.EasierPlaces.{stream_at, place_inside, asks_no_more, easier_passes, easier_greatest, greatest_grows}
use Rattle.cop_rta.proofs.LeastLemmas.{same_least}
use Rattle.cop_rta.proofs.GreatestLemmas.{same_response}

is_lt : (x y : ℕ) → nat_lt x y ≡ true → x < y
is_lt x y h = grind (arith, nat_tests)

-- a stream with an identifier below those of synchronous ones is none
not_synchronous : (s : Stream) → s.id ≤ 128 → s.every ≡ 0
not_synchronous s low = ⊎_elim
    (λ (e : s.every ≡ 0). e)
    (λ (ne : s.every ≡ 0 → ⊥). absurd (omega (arith, low, s.synchronous_id (omega (arith, ne)))))
    (cases_eq s.every 0)

-- the streams are among the others, and SYNC where they have it is theirs
module _ (streams more : List Stream) (place : ℕ → ℕ) (among : AreAmong streams more place)
    (synced : (i : ℕ) → place_of_id streams sync_id ≡ Some i → place_of_id more sync_id ≡ Some (place i)) (rate : Rate) where
  pub id_there : (k : ℕ) → k < length streams → of_stream (λ s. s.id) more (place k) ≡ of_stream (λ s. s.id) streams k
  id_there k lt = let two = stream_at streams more place among k lt in
      ap (λ o. option_map_or (λ s. s.id) o 0) two.3 ∙ two.4.id ∙ sym (ap (λ o. option_map_or (λ s. s.id) o 0) two.2)

  lower_alike : (index : ℕ) → index < length streams → (k : ℕ) → k < length streams → has_lower_id more (place index) (place k) ≡ has_lower_id streams index k
  lower_alike index inside k lt = let two = stream_at streams more place among k lt in
      ap (λ o. option_map_or (λ s. nat_lt s.id (of_stream (λ s. s.id) more (place index))) o false) two.3
      ∙ ap (λ n. nat_lt two.1.id n) (id_there index inside)
      ∙ ap (λ n. nat_lt n (of_stream (λ s. s.id) streams index)) two.4.id
      ∙ sym (ap (λ o. option_map_or (λ s. nat_lt s.id (of_stream (λ s. s.id) streams index)) o false) two.2)

  -- a stream that counts at a place has an identifier no greater
  counts_low : (index k : ℕ) (m s : Stream) → slice_get streams index ≡ Some m → slice_get streams k ≡ Some s → (k == index || has_lower_id streams index k) ≡ true → s.id ≤ m.id
  counts_low index k m s at_index at_k h = elim (either (k == index) (has_lower_id streams index k) h) [
    | inl own ↦ (let same : k ≡ index = eqb-true k index own in let both : Some s ≡ Some m = sym at_k ∙ ap (slice_get streams) same ∙ at_index in let t : s ≡ m = cc in
        subst (λ (z : Stream). s.id ≤ z.id) t (le_refl s.id))
    | inr low ↦ (let l = is_lt s.id m.id (sym (ap (λ n. nat_lt s.id n) (ap (λ o. option_map_or (λ s. s.id) o 0) at_index)) ∙ sym (ap (λ o. option_map_or (λ s. nat_lt s.id (of_stream (λ s. s.id) streams index)) o false) at_k) ∙ low) in omega (arith, l))
  ]
    where
      either : (x y : Bool) → (x || y) ≡ true → (x ≡ true) ⊎ (y ≡ true)
      either true y e = inl refl
      either false y e = inr e

  -- what is ahead does not matter at a place that is not below SYNC
  high_passes : (index : ℕ) → index < length streams → of_stream (λ s. s.id) streams index ≤ 128 → Passes (place_by_id more (place index) rate) → Passes (place_by_id streams index rate)
  high_passes index inside high passes = let two = stream_at streams more place among index inside in
      let low : two.0.id ≤ 128 = subst (λ n. n ≤ 128) (ap (λ o. option_map_or (λ s. s.id) o 0) two.2) high in
      easier_passes _ _
      (asks_no_more streams more place among (has_lower_id streams index) (has_lower_id more (place index)) index rate (ahead_of streams rate) (ahead_of more rate) inside (lower_alike index inside)
      (λ k s t at h counts. let le = counts_low index k two.0 s two.2 at counts in jitter_alone (ahead_of streams rate) (ahead_of more rate) s t h (not_synchronous s (omega (arith, le, low)))))
      passes

  -- nor is it more where no less is ahead of the others
  low_passes : (index : ℕ) → index < length streams → ahead_of streams rate ≤ ahead_of more rate → Passes (place_by_id more (place index) rate) → Passes (place_by_id streams index rate)
  low_passes index inside le passes =
      easier_passes _ _
      (asks_no_more streams more place among (has_lower_id streams index) (has_lower_id more (place index)) index rate (ahead_of streams rate) (ahead_of more rate) inside (lower_alike index inside)
      (λ k s t at h counts. jitter_harder (ahead_of streams rate) (ahead_of more rate) s t h le))
      passes

  -- SYNC's response is no greater than among the others
  sync_less : (i r : ℕ) → i < length streams → HasGreatest (sync_place more rate (place i)) r → (u : ℕ) × HasGreatest (sync_place streams rate i) u × (u ≤ r)
  sync_less i r inside has =
      easier_greatest _ _
      (asks_no_more streams more place among (has_lower_id streams i) (has_lower_id more (place i)) i rate 0 0 inside (lower_alike i inside)
      (λ k s t at h counts. jitter_harder 0 0 s t h (le_refl 0)))
      r has

  -- so what is ahead is no more wherever SYNC has a response among the others
  pub ahead_less : ((i : ℕ) → place_of_id more sync_id ≡ Some i → (r : ℕ) × HasGreatest (sync_place more rate i) r) → ahead_of streams rate ≤ ahead_of more rate
  ahead_less responds = go (place_of_id streams sync_id) refl
    where
      go : (o : Option ℕ) → place_of_id streams sync_id ≡ o → ahead_of streams rate ≤ ahead_of more rate
      go None at = rw (ahead_none streams rate ((syncs.sync_response_none streams rate).1 (λ i is. let bad : None ≡ Some i = sym at ∙ is in absurd (cc)))) zero-le
      go (Some i) at =
          let there = synced i at in
          let r = responds (place i) there in
          let u = sync_less i r.0 (syncs.place_inside streams sync_id i at) r.1 in
          let a = ahead_is streams rate u.0 ((sync_response_is streams rate u.0).1 (i, at, u.1)) in
          let b = ahead_is more rate r.0 ((sync_response_is more rate r.0).1 (place i, there, r.1)) in
          omega (arith, a, b, u.2)

  pub among_passes : (index : ℕ) → index < length streams → Passes (place_by_id more (place index) rate) → Passes (place_by_id streams index rate)
  among_passes index inside passes = ⊎_elim
      (λ (low : 128 < of_stream (λ s. s.id) streams index).
      let two = stream_at streams more place among index inside in
      let its : sync_id < two.1.id = omega (arith, low, id_there index inside, ap (λ o. option_map_or (λ (s : Stream). s.id) o 0) two.3) in
      low_passes index inside
      (ahead_less (λ i at. sync_responds more rate (ahead_of more rate) i (place index) two.1 at two.3 its (place_inside streams more place among index inside) ((passes_with (place_by_id more (place index) rate)).0 passes)))
      passes)
      (λ (high : of_stream (λ s. s.id) streams index ≤ 128). high_passes index inside high passes)
      (cases_lt 128 (of_stream (λ s. s.id) streams index))

-- ---- the same streams in turn

pub are_among : (streams harder : List Stream) → AreHarder streams harder → AreAmong streams harder (λ k. k)
are_among streams harder h = record { rises = λ j k lt inside. lt; each = each }
  where
    each : (k : ℕ) (s : Stream) → slice_get streams k ≡ Some s → (t : Stream) × (slice_get harder k ≡ Some t) × IsHarder (entry_of s) (entry_of t)
    each k s at = ⊎_elim
        (λ a. ⊎_elim
        (λ b. (b.0, b.2, h.each k s b.0 at b.2))
        (λ past. absurd (omega (arith, past.0, a.1, h.as_many)))
        (slice_get_cases harder k).1)
        (λ past. let bad : Some s ≡ None = sym at ∙ past.1 in absurd (cc))
        (slice_get_cases streams k).1

tail_harder : (s t : Stream) (ss ts : List Stream) → AreHarder (s ∷ ss) (t ∷ ts) → AreHarder ss ts
tail_harder s t ss ts h = record { as_many = (let n = h.as_many in omega (arith, n)); each = λ k a b at there. h.each (suc k) a b at there }

pub same_places : (streams harder : List Stream) (id : ℕ) → AreHarder streams harder → place_of_id streams id ≡ place_of_id harder id
same_places [] [] id h = refl
same_places [] (t ∷ ts) id h = absurd (let n = h.as_many in omega (arith, n))
same_places (s ∷ ss) [] id h = absurd (let n = h.as_many in omega (arith, n))
same_places (s ∷ ss) (t ∷ ts) id h =
    let first = h.each 0 s t refl refl in
    let rest = same_places ss ts id (tail_harder s t ss ts h) in
    let e : (s.id == id) ≡ (t.id == id) = ap (λ n. n == id) (sym first.id) in
    ap (λ (b : Bool). if b then Some 0 else option_map (λ k. suc k) (place_of_id ss id)) e ∙ ap (λ (o : Option ℕ). if t.id == id then Some 0 else option_map (λ k. suc k) o) rest

pub harder_passes : (streams harder : List Stream) (rate : Rate) (k : ℕ) → AreHarder streams harder → k < length streams → Passes (place_by_id harder k rate) → Passes (place_by_id streams k rate)
harder_passes streams harder rate k h inside passes =
    among_passes streams harder (λ k. k) (are_among streams harder h) (λ i at. sym (same_places streams harder sync_id h) ∙ at) rate k inside passes

pub harder_place_passes : (streams harder : List Stream) (above : ℕ → Bool) (index : ℕ) (rate : Rate) (ahead more : ℕ) → AreHarder streams harder → index < length streams → ahead ≤ more
    → Passes (record { streams = harder; above = above; index = index; rate = rate; ahead = more }) → Passes (record { streams = streams; above = above; index = index; rate = rate; ahead = ahead })
harder_place_passes streams harder above index rate ahead more h inside le passes =
    easier_passes _ _ (asks_no_more streams harder (λ k. k) (are_among streams harder h) above above index rate ahead more inside (λ k lt. refl) (λ k s t at hard counts. jitter_harder ahead more s t hard le)) passes

pub harder_place_responds : (streams harder : List Stream) (above : ℕ → Bool) (index : ℕ) (rate : Rate) (ahead more u : ℕ) → AreHarder streams harder → index < length streams → ahead ≤ more
    → HasGreatest (record { streams = harder; above = above; index = index; rate = rate; ahead = more }) u
    → (r : ℕ) × HasGreatest (record { streams = streams; above = above; index = index; rate = rate; ahead = ahead }) r × (r ≤ u)
    × (r + of_stream (jitter_of more) harder index ≤ u + of_stream (jitter_of ahead) streams index)
harder_place_responds streams harder above index rate ahead more u h inside le has =
    let less = asks_no_more streams harder (λ k. k) (are_among streams harder h) above above index rate ahead more inside (λ k lt. refl) (λ k s t at hard counts. jitter_harder ahead more s t hard le) in
    let r = easier_greatest _ _ less u has in
    (r.0, r.1, r.2, greatest_grows _ _ less r.0 u r.1 has)

pub harder_sync : (streams harder : List Stream) (rate : Rate) (u : ℕ) → AreHarder streams harder → sync_response harder rate ≡ Some u → (r : ℕ) × (sync_response streams rate ≡ Some r) × (r ≤ u)
harder_sync streams harder rate u h is =
    let its = (sync_response_is harder rate u).0 is in
    let at : place_of_id streams sync_id ≡ Some its.0 = same_places streams harder sync_id h ∙ its.1 in
    let r = sync_less streams harder (λ k. k) (are_among streams harder h) (λ i there. sym (same_places streams harder sync_id h) ∙ there) rate its.0 u (syncs.place_inside streams sync_id its.0 at) its.2 in
    (r.0, (sync_response_is streams rate r.0).1 (its.0, at, r.1), r.2)

-- where there is a greatest response, it decides
pub greatest_decides : (p : StreamPlace) (r : ℕ) → p.index < length p.streams → HasGreatest p r → (Passes p ↔ IsOnTime p r)
greatest_decides p r inside g = (
  λ passes.
      let t : g.time ≡ passes.time = same_least (busy_at p) 1 g.time passes.time g.busy passes.busy in
      let v = passes.on_time g.reached.0 (subst (λ n. IsQueuedWithin p n g.reached.0) t g.reached.1) in
      let e = same_response p g.reached.0 r v.0 g.reached.2 v.1 in
      subst (IsOnTime p) (sym e) v.2,
  λ in_time. record {
    time = g.time;
    busy = g.busy;
    within = g.within;
    on_time = λ q queued. let v = g.each q queued in (v.0, v.1, λ d is. le_trans v.2 (in_time d is));
  },
)

-- ---- some of the streams

-- SYNC is the one that it is among the others
pub synced_among : (streams more : List Stream) (place : ℕ → ℕ) → AreAmong streams more place → AreDistinct more → (i : ℕ) → place_of_id streams sync_id ≡ Some i → place_of_id more sync_id ≡ Some (place i)
synced_among streams more place among distinct i at =
    let lt = syncs.place_inside streams sync_id i at in
    let two = stream_at streams more place among i lt in
    let has = ap (λ o. option_map_or (λ (s : Stream). s.id) o 0) two.3 ∙ two.4.id ∙ sym (ap (λ o. option_map_or (λ (s : Stream). s.id) o 0) two.2) ∙ place_has_id streams sync_id i at in
    found (place_of_id more sync_id) refl lt has
  where
    found : (o : Option ℕ) → place_of_id more sync_id ≡ o → i < length streams → of_stream (λ s. s.id) more (place i) ≡ sync_id → place_of_id more sync_id ≡ Some (place i)
    found None e lt has = absurd (no_place more sync_id e (place i) (place_inside streams more place among i lt) has)
    found (Some j) e lt has = e ∙ ap Some (one_place more distinct j (place i) (syncs.place_inside more sync_id j e) (place_inside streams more place among i lt) (place_has_id more sync_id j e ∙ sym has))

pub fewer_passes : (streams more : List Stream) (place : ℕ → ℕ) (rate : Rate) (k : ℕ) → AreDistinct more → AreAmong streams more place → k < length streams
    → Passes (place_by_id more (place k) rate) → Passes (place_by_id streams k rate)
fewer_passes streams more place rate k distinct among inside passes = among_passes streams more place among (synced_among streams more place among distinct) rate k inside passes
