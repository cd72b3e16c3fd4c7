-- No disturbances are the legal runs; and what rare disturbances say of the starts alone.
use Rattle.std.proofs.Common.{◌≡◌, ◌↔◌, ℕ, zero, suc, max, ◌-◌, ◌+◌, ◌*◌, ◌≤◌, ◌<◌, ◌⊎◌, inl, inr, List, [], ◌∷◌, refl, sym, ap, subst, arith, Some, length, get_or, slice_get}
use Rattle.std.specs.Prelude.{All, Any}
use Rattle.std.specs.List.{AllByRecursion as Each}
use Rattle.std.proofs.lemmas.List.Elements.{recursion_from_All, All-nil, All-from_recursion, All-contains}
use Rattle.std.proofs.lemmas.Option.{slice_get_within, slice_get-get_or}
use Rattle.cop_rta.specs.declared.streams.Stream.{Stream}
use Rattle.cop_bus.specs.Run.{Instance, Runs, Waits, IsLegal}
use Rattle.cop_bus.proofs.Totals.{Pairs, Pairs-from_AllPairs, AllPairs-from_Pairs, Each-from_Contains, Each-map}
use Rattle.cop_errors.specs.Errors.{Disturbance, HitRuns, AreRare, IsDisturbed}

pub undisturbed : (tau : ℕ) (streams : List Stream) (until : ℕ) (run : List Instance) → (IsDisturbed tau streams until run [] ↔ IsLegal tau streams until run)
undisturbed tau streams until run = (to, from)
  where
    to : IsDisturbed tau streams until run [] → IsLegal tau streams until run
    to d = record {
      known = d.known;
      in_order = d.in_order;
      one_at_a_time = d.one_at_a_time;
      asked_for = d.asked_for;
      joined = d.joined;
      by_priority = d.by_priority;
      never_idle = λ x l. All-from_recursion (λ z. Waits z x → Any (λ y. Runs tau y x) run) run
          (Each-from_Contains (λ z. Waits z x → Any (λ y. Runs tau y x) run) run
          (λ z c w. elim (All-contains (λ z. Waits z x → Any (λ y. Runs tau y x) run ⊎ Any (λ h. HitRuns tau h x) []) run z (d.never_idle x l) c w) [
            | inl a ↦ a
            | inr a ↦ absurd (let l = a.2 in omega (arith, l))
          ]));
    }

    from : IsLegal tau streams until run → IsDisturbed tau streams until run []
    from l = record {
      known = l.known;
      in_order = l.in_order;
      one_at_a_time = l.one_at_a_time;
      apart = All-from_recursion (λ y. All (λ h. (x : ℕ) → Runs tau y x → HitRuns tau h x → ⊥) []) run
          (Each-from_Contains (λ y. All (λ h. (x : ℕ) → Runs tau y x → HitRuns tau h x → ⊥) []) run (λ y c. All-nil (λ h. (x : ℕ) → Runs tau y x → HitRuns tau h x → ⊥)));
      one_hit = AllPairs-from_Pairs (λ g h. (x : ℕ) → HitRuns tau g x → HitRuns tau h x → ⊥) [] tt;
      rising = AllPairs-from_Pairs (λ (g h : Disturbance). g.start < h.start) [] tt;
      bits = All-nil (λ (h : Disturbance). (1 ≤ h.bits) × (h.bits ≤ 166));
      asked_for = l.asked_for;
      joined = l.joined;
      by_priority = l.by_priority;
      never_idle = λ x b. All-from_recursion (λ z. Waits z x → Any (λ y. Runs tau y x) run ⊎ Any (λ h. HitRuns tau h x) []) run
          (Each-from_Contains (λ z. Waits z x → Any (λ y. Runs tau y x) run ⊎ Any (λ h. HitRuns tau h x) []) run
          (λ z c w. inl (All-contains (λ z. Waits z x → Any (λ y. Runs tau y x) run) run z (l.never_idle x b) c w)));
    }

-- the number n after the first is as many periods later
first_apart : (T d : ℕ) (events : List ℕ) (n e : ℕ) → Pairs (λ d e. d + T ≤ e) (d ∷ events) → slice_get (d ∷ events) n ≡ Some e → d + n * T ≤ e
first_apart T d events zero e p s = let same : d ≡ e = cc in omega (arith, same)
first_apart T d [] (suc n) e p s = absurd (cc)
first_apart T d (f ∷ events) (suc n) e p s = let r = first_apart T f events n e p.1 s in let g = p.0.0 in omega (arith, r, g)

apart_at : (T : ℕ) (events : List ℕ) (i n d e : ℕ) → Pairs (λ d e. d + T ≤ e) events → slice_get events i ≡ Some d → slice_get events (i + n) ≡ Some e → d + n * T ≤ e
apart_at T [] i n d e p s t = absurd (cc)
apart_at T (f ∷ events) zero n d e p s t =
    let same : f ≡ d = cc in
    let z : 0 + n ≡ n = omega arith in
    let r = first_apart T f events n e p (subst (λ k. slice_get (f ∷ events) k ≡ Some e) z t) in
    omega (arith, same, r)
apart_at T (f ∷ events) (suc i) n d e p s t =
    let z : suc i + n ≡ suc (i + n) = omega arith in
    apart_at T events i n d e p.1 s (subst (λ k. slice_get (f ∷ events) k ≡ Some e) z t)

-- of any n + 1 disturbances in a row the last starts n periods less the jitter after the first, or later
pub windows : (T J : ℕ) (events : List ℕ) (hits : List Disturbance) → AreRare T J events hits → (i n : ℕ) (g h : Disturbance) → slice_get hits i ≡ Some g → slice_get hits (i + n) ≡ Some h → g.start + n * T ≤ h.start + J
windows T J events hits rare i n g h a b =
    let k = slice_get_within hits i g a in
    let l = slice_get_within hits (i + n) h b in
    let same = rare.same in
    let d : ℕ = get_or events i 0 in
    let e : ℕ = get_or events (i + n) 0 in
    let p : slice_get events i ≡ Some d = slice_get-get_or events i 0 (omega (arith, k, same)) in
    let q : slice_get events (i + n) ≡ Some e = slice_get-get_or events (i + n) 0 (omega (arith, l, same)) in
    let u = rare.each i d g p a in
    let v = rare.each (i + n) e h q b in
    let w = apart_at T events i n d e (Pairs-from_AllPairs (λ d e. d + T ≤ e) events rare.apart) p q in
    omega (arith, u.1, v.0, w)

-- events for disturbances, from a moment on
record Found (T J lo : ℕ) (hits : List Disturbance) : Type 0 where
  events : List ℕ
  same : length events ≡ length hits
  each : (i e : ℕ) (h : Disturbance) → slice_get events i ≡ Some e → slice_get hits i ≡ Some h → (e ≤ h.start) × (h.start ≤ e + J)
  apart : Pairs (λ d e. d + T ≤ e) events
  from : Each (λ e. lo ≤ e) events

abbrev AreSpaced : ℕ → ℕ → List Disturbance → Type 0
AreSpaced T J hits = (i n : ℕ) (g h : Disturbance) → slice_get hits i ≡ Some g → slice_get hits (i + n) ≡ Some h → g.start + n * T ≤ h.start + J

-- the earliest events
found : (T J lo : ℕ) (hits : List Disturbance) → Each (λ h. J ≤ h.start) hits → ((n : ℕ) (h : Disturbance) → slice_get hits n ≡ Some h → lo + n * T ≤ h.start) → AreSpaced T J hits → Found T J lo hits
found T J lo [] late reach spaced = record { events = []; same = refl; each = λ i e h p q. absurd (cc); apart = tt; from = tt }
found T J lo (g ∷ hits) late reach spaced =
    let e : ℕ = max lo (g.start - J) in
    let own = late.0 in
    let first = reach 0 g refl in
    let rest = found T J (e + T) hits late.1
    (λ n h p. (let a = reach (suc n) h p in let b = spaced 0 (suc n) g h refl (let z : 0 + suc n ≡ suc n = omega arith in subst (λ k. slice_get (g ∷ hits) k ≡ Some h) (sym z) p) in
    let c : suc n * T ≡ n * T + T = grind arith in omega (arith, a, b, c, own)))
    (λ i n d h p q. spaced (suc i) n d h p (let z : suc i + n ≡ suc (i + n) = omega arith in subst (λ k. slice_get (g ∷ hits) k ≡ Some h) (sym z) q)) in
    record {
      events = e ∷ rest.events;
      same = ap suc rest.same;
      each = λ i d h p q. at e rest (omega (arith, own, first)) (omega (arith, own, first)) i d h p q;
      apart = (rest.from, rest.apart);
      from = (omega arith, Each-map (λ d. e + T ≤ d) (λ d. lo ≤ d) rest.events (λ d l. omega (arith, l)) rest.from);
    }
  where
    at : (e : ℕ) (rest : Found T J (e + T) hits) → e ≤ g.start → g.start ≤ e + J → (i d : ℕ) (h : Disturbance) → slice_get (e ∷ rest.events) i ≡ Some d → slice_get (g ∷ hits) i ≡ Some h → (d ≤ h.start) × (h.start ≤ d + J)
    at e rest a b zero d h p q = let x : e ≡ d = cc in let y : g ≡ h = cc in let z : g.start ≡ h.start = ap (λ h. h.start) y in (omega (arith, a, x, z), omega (arith, b, x, z))
    at e rest a b (suc i) d h p q = rest.each i d h p q

-- starts that are so far apart, none of them within the jitter from the beginning, are those of rare disturbances
pub spaced_are_rare : (T J : ℕ) (hits : List Disturbance) → All (λ h. J ≤ h.start) hits →
    ((i n : ℕ) (g h : Disturbance) → slice_get hits i ≡ Some g → slice_get hits (i + n) ≡ Some h → g.start + n * T ≤ h.start + J) → (events : List ℕ) × AreRare T J events hits
spaced_are_rare T J hits late spaced =
    let f = found T J 0 hits (recursion_from_All (λ h. J ≤ h.start) hits late) (reach hits late spaced) spaced in
    (f.events, record { same = f.same; each = f.each; apart = AllPairs-from_Pairs (λ d e. d + T ≤ e) f.events f.apart })
  where
    reach : (hits : List Disturbance) → All (λ h. J ≤ h.start) hits → AreSpaced T J hits → (n : ℕ) (h : Disturbance) → slice_get hits n ≡ Some h → 0 + n * T ≤ h.start
    reach [] late spaced n h p = absurd (cc)
    reach (g ∷ hits) late spaced n h p =
        let z : 0 + n ≡ n = omega arith in
        let a = spaced 0 n g h refl (subst (λ k. slice_get (g ∷ hits) k ≡ Some h) (sym z) p) in
        let b = (recursion_from_All (λ h. J ≤ h.start) (g ∷ hits) late).0 in
        omega (arith, a, b)
