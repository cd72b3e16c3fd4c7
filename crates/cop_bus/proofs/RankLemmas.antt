-- Ranks and the tournament over them.
use Rattle.std.proofs.Common.{◌≡◌, ◌≢◌, ℕ, zero, suc, ◌+◌, ◌-◌, ◌/◌, ◌≤◌, ◌<◌, ◌⊎◌, inl, inr, List, length, slice_set, replicate, refl, sym, ◌∙◌, ap, subst, arith, cond}
use Rattle.std.specs.Prelude.{Option, None, Some, slice_index}
use Rattle.std.specs.Option.{ForSome}
use Rattle.std.proofs.lemmas.Bool.{cases_lt, cases_eq, lt-ltb, le-ltb}
use Rattle.std.proofs.lemmas.List.{get_or-set_same, get_or-set_other, get_or_past, length-set}
use Rattle.cop_bus.specs.declared.ranking.Rank.{Rank}
use Rattle.cop_bus.specs.declared.ranking.Entrant.{Entrant}
use Rattle.cop_bus.specs.Ranks.{leader, rank_at, above, AreNodes, IsApart, IsKeyOf, IsLed, Leads, AreLedBut, AreKeyed, AreSiblings, IsRanking, IsTournament, IsNotAfter, IsFirstOf}

-- ---- two entrants

pub leader-is : (e o : Entrant) → ((leader e o ≡ o) × (o.key < e.key)) ⊎ ((leader e o ≡ e) × (e.key ≤ o.key))
leader-is e o = elim (cases_lt o.key e.key) [
  | inl l ↦ inl (ap (λ b. cond b o e) (lt-ltb o.key e.key l), l)
  | inr l ↦ inr (ap (λ b. cond b o e) (le-ltb o.key e.key l), l)
]

-- ---- the nodes above one another

-- each number is twice another, or one more
half : (j : ℕ) → (h : ℕ) × ((j ≡ h + h) ⊎ (j ≡ h + h + 1))
half zero = (0, inl refl)
half (suc j) = (let w = half j in elim w.1 [
  | inl e ↦ (w.0, inr (omega (arith, e)))
  | inr e ↦ (suc w.0, inl (omega (arith, e)))
])

-- one node further up
pub above-more : (j n : ℕ) → above (suc j) n ≡ above j n / 2
above-more zero n = refl
above-more (suc j) n = above-more j (n / 2)

above-none : (j : ℕ) → above j 0 ≡ 0
above-none zero = refl
above-none (suc j) = ap (above j) (let e : 0 / 2 ≡ 0 = omega arith in e) ∙ above-none j

-- each node is apart from the root
pub root-apart : (k n : ℕ) → 1 ≤ k → n ≤ 1 → IsApart k n
root-apart k n l m j e = (let z : above j (n / 2) ≡ 0 = ap (above j) (let e : n / 2 ≡ 0 = omega (arith, m) in e) ∙ above-none j in absurd (omega (arith, z, e, l)))

-- a node that does not stand above the one above n, and is not that one, does not stand above n
apart-more : (k n : ℕ) → n / 2 ≢ k → IsApart k (n / 2) → IsApart k n
apart-more k n d a zero e = d e
apart-more k n d a (suc j) e = a j e

-- ---- the root

module _ (leaders keys : List ℕ) (led : (k : ℕ) → 1 ≤ k → k < length keys → IsLed keys leaders k) where
  -- the root leads each node
  up : (n j : ℕ) → j ≤ n → 1 ≤ j → j < length keys + length keys → Leads keys (slice_index leaders 1) (slice_index leaders j)
  up zero j l m u = absurd (omega (arith, l, m))
  up (suc n) j l m u = elim (cases_eq j 1) [
    | inl e ↦ subst (λ i. Leads keys (slice_index leaders 1) (slice_index leaders i)) (sym e) (omega arith)
    | inr e ↦ (let w = half j in elim w.1 [
      | inl d ↦ (let k = w.0 in
          let a : 1 ≤ k = omega (arith, d, m) in
          let b : k < length keys = omega (arith, d, u) in
          let x = up n k (omega (arith, d, l, a)) a (omega (arith, b)) in
          let y = (led k a b).0 in
          subst (λ i. Leads keys (slice_index leaders 1) (slice_index leaders i)) (sym d) (omega (arith, x, y)))
      | inr d ↦ (let k = w.0 in
          let a : 1 ≤ k = elim (cases_lt 0 k) [ inl g ↦ g | inr g ↦ absurd (e (omega (arith, d, g))) ] in
          let b : k < length keys = omega (arith, d, u) in
          let x = up n k (omega (arith, d, l, a)) a (omega (arith, b)) in
          let y = (led k a b).1 in
          subst (λ i. Leads keys (slice_index leaders 1) (slice_index leaders i)) (sym d) (omega (arith, x, y)))
    ])
  ]

none-last : (x : Option Rank) (a b : ℕ) → IsKeyOf None a → IsKeyOf x b → a ≤ b → x ≡ None
none-last None a b e f l = refl
none-last (Some s) a b e f l = (let g = f.0 in let h = f.1 in let i = f.2 in absurd (omega (arith, e, g, h, i, l)))

lower-first : (r s : Rank) (a b : ℕ) → IsKeyOf (Some r) a → IsKeyOf (Some s) b → a ≤ b → IsNotAfter r s
lower-first r s a b e f l =
    let e0 = e.0 in
    let e2 = e.2 in
    let f0 = f.0 in
    let f2 = f.2 in
    elim (cases_lt r.at s.at) [
      | inl m ↦ inl m
      | inr m ↦ elim (cases_lt s.at r.at) [
        | inl n ↦ absurd (omega (arith, e0, e2, f0, f2, l, n))
        | inr n ↦ (let q : r.at ≡ s.at = omega (arith, m, n) in inr (q, omega (arith, e0, f0, l, q)))
      ]
    ]

pub root-first : (ranks : List (Option Rank)) (keys leaders : List ℕ) → IsRanking ranks keys leaders → 1 ≤ length ranks → IsFirstOf ranks (rank_at ranks (slice_index leaders 1))
root-first ranks keys leaders t m = go (rank_at ranks root) refl
  where
    root : ℕ
    root = slice_index leaders 1

    low : slice_index leaders 1 < length ranks
    low = (let n = t.keyed.many in let w = t.tournament.nodes.within 1 (omega arith) (omega (arith, m, n)) in omega (arith, w, n))

    leads : (i : ℕ) → i < length ranks → Leads keys (slice_index leaders 1) i
    leads i l =
        let n = t.keyed.many in
        let node : slice_index leaders (length keys + i) ≡ i = t.tournament.nodes.leaves i (omega (arith, l, n)) in
        subst (Leads keys (slice_index leaders 1)) node (up leaders keys t.tournament.led (length keys + i) (length keys + i) (omega arith) (omega (arith, m, n)) (omega (arith, l, n)))

    keyed : (i : ℕ) (x : Option Rank) → i < length ranks → rank_at ranks i ≡ x → IsKeyOf x (slice_index keys i)
    keyed i x l e = subst (λ v. IsKeyOf v (slice_index keys i)) e (t.keyed.each i l)

    go : (x : Option Rank) → rank_at ranks (slice_index leaders 1) ≡ x → IsFirstOf ranks x
    go None e = λ i. elim (cases_lt i (length ranks)) [
      | inl l ↦ none-last (rank_at ranks i) (slice_index keys (slice_index leaders 1)) (slice_index keys i) (keyed (slice_index leaders 1) None low e) (t.keyed.each i l) (leads i l)
      | inr l ↦ get_or_past ranks i None l
    ]
    go (Some r) e =
        let own : r.place ≡ slice_index leaders 1 = t.keyed.own (slice_index leaders 1) r e in
        record {
          within = subst (λ p. p < length ranks) (sym own) low;
          here = ap (rank_at ranks) own ∙ e;
          first = λ i s f. elim (cases_lt i (length ranks)) [
            | inl l ↦ lower-first r s (slice_index keys (slice_index leaders 1)) (slice_index keys i) (keyed (slice_index leaders 1) (Some r) low e) (keyed i (Some s) l f) (leads i l)
            | inr l ↦ (let z : None ≡ Some s = sym (get_or_past ranks i None l) ∙ f in absurd (cc))
          ];
        }

-- ---- a change

-- a node names another place below it
pub over-set : (places from till : ℕ) (leaders : List ℕ) (node first : ℕ) → AreNodes places from leaders → ((k : ℕ) → till ≤ k → k ≢ node → from ≤ k) → node < places → first < places → (j : ℕ) → above j (places + first) ≡ node →
    AreNodes places till (slice_set leaders node first)
over-set places from till leaders node first t wider low f j o = record {
  many = length-set leaders node first ∙ t.many;
  leaves = λ i l. other (places + i) (λ e. absurd (omega (arith, e, low))) ∙ t.leaves i l;
  within = λ k l m. elim (cases_eq k node) [
    | inl e ↦ subst (λ v. v < places) (sym (same k e)) f
    | inr e ↦ subst (λ v. v < places) (sym (other k e)) (t.within k (wider k l e) m)
  ];
  over = λ k l m. elim (cases_eq k node) [
    | inl e ↦ (j, ap (λ v. above j (places + v)) (same k e) ∙ o ∙ sym e)
    | inr e ↦ (let w = t.over k (wider k l e) m in (w.0, ap (λ v. above w.0 (places + v)) (other k e) ∙ w.1))
  ];
}
  where
    other : (j : ℕ) → j ≢ node → slice_index (slice_set leaders node first) j ≡ slice_index leaders j
    other j d = get_or-set_other leaders node j first 0 d

    same : (j : ℕ) → j ≡ node → slice_index (slice_set leaders node first) j ≡ first
    same j e = ap (slice_index (slice_set leaders node first)) e ∙ get_or-set_same leaders node first 0 (let n = t.many in omega (arith, n, low))

leads-is : (keys : List ℕ) (p q p' q' : ℕ) → p' ≡ p → q' ≡ q → Leads keys p q → Leads keys p' q'
leads-is keys p q p' q' e f h = subst (λ v. Leads keys v q') (sym e) (subst (Leads keys p) (sym f) h)

-- the node above one names the leader of that and its sibling
module _ (keys leaders : List ℕ) (node other : ℕ) (first : Entrant) (nodes : AreNodes (length keys) 1 leaders) (least : 1 < node) (most : node < length keys + length keys)
    (named : slice_index leaders node ≡ first.place) (key : first.key ≡ slice_index keys first.place) (beside : AreSiblings node other) (next : Entrant)
    (is : next ≡ leader first (record { place = slice_index leaders other; key = slice_index keys (slice_index leaders other) })) where
  pub other-least : 1 ≤ other
  other-least = elim beside [ inl d ↦ (let a = d.1 in omega (arith, a)) | inr d ↦ (let a = d.1 in omega (arith, a, least)) ]

  pub other-most : other < length keys + length keys
  other-most = elim beside [ inl d ↦ (let a = d.0 in let b = d.1 in omega (arith, a, b, most)) | inr d ↦ (let a = d.0 in let b = d.1 in omega (arith, a, b, most)) ]

  other-half : other / 2 ≡ node / 2
  other-half = elim beside [ inl d ↦ (let b = d.1 in omega (arith, b)) | inr d ↦ (let b = d.1 in omega (arith, b)) ]

  up-least : 1 ≤ node / 2
  up-least = omega (arith, least)

  up-most : node / 2 < length keys
  up-most = omega (arith, most)

  abbrev beats : Entrant
  beats = record { place = slice_index leaders other; key = slice_index keys (slice_index leaders other) }

  one : (next.place ≡ slice_index leaders node) ⊎ (next.place ≡ slice_index leaders other)
  one = elim (leader-is first beats) [
    | inl e ↦ inr (ap (λ v. v.place) (is ∙ e.0))
    | inr e ↦ inl (ap (λ v. v.place) (is ∙ e.0) ∙ sym named)
  ]

  pub next-key : next.key ≡ slice_index keys next.place
  next-key = elim (leader-is first beats) [
    | inl e ↦ subst (λ v. v.key ≡ slice_index keys v.place) (sym (is ∙ e.0)) refl
    | inr e ↦ subst (λ v. v.key ≡ slice_index keys v.place) (sym (is ∙ e.0)) key
  ]

  pub settled-nodes : AreNodes (length keys) 1 (slice_set leaders (node / 2) next.place)
  settled-nodes = elim one [
    | inl e ↦ (let w = nodes.over node (omega (arith, least)) most in
        over-set (length keys) 1 1 leaders (node / 2) next.place nodes (λ k l d. l) up-most (subst (λ v. v < length keys) (sym e) (nodes.within node (omega (arith, least)) most))
        (suc w.0) (above-more w.0 (length keys + next.place) ∙ ap (λ v. v / 2) (ap (λ v. above w.0 (length keys + v)) e ∙ w.1)))
    | inr e ↦ (let w = nodes.over other other-least other-most in
        over-set (length keys) 1 1 leaders (node / 2) next.place nodes (λ k l d. l) up-most (subst (λ v. v < length keys) (sym e) (nodes.within other other-least other-most))
        (suc w.0) (above-more w.0 (length keys + next.place) ∙ ap (λ v. v / 2) (ap (λ v. above w.0 (length keys + v)) e ∙ w.1) ∙ other-half))
  ]

  kept : (j : ℕ) → j ≢ node / 2 → slice_index (slice_set leaders (node / 2) next.place) j ≡ slice_index leaders j
  kept j d = get_or-set_other leaders (node / 2) j next.place 0 d

  pub settled-named : slice_index (slice_set leaders (node / 2) next.place) (node / 2) ≡ next.place
  settled-named = get_or-set_same leaders (node / 2) next.place 0 (let n = nodes.many in let l = up-most in omega (arith, n, l))

  lead : Leads keys next.place (slice_index leaders node) × Leads keys next.place (slice_index leaders other)
  lead = elim (leader-is first beats) [
    | inl e ↦ (let p = ap (λ v. v.place) (is ∙ e.0) in let l = e.1 in let o = ap (slice_index keys) p in let n = ap (slice_index keys) named in (omega (arith, l, key, o, n), omega (arith, o)))
    | inr e ↦ (let p = ap (λ v. v.place) (is ∙ e.0) in let l = e.1 in let o = ap (slice_index keys) p in let n = ap (slice_index keys) named in (omega (arith, o, n), omega (arith, l, key, o)))
  ]

  led-here : IsLed keys (slice_set leaders (node / 2) next.place) (node / 2)
  led-here =
      let p : ℕ = node / 2 in
      let l = up-least in
      let a = kept (p + p) (λ e. absurd (omega (arith, e, l))) in
      let b = kept (p + p + 1) (λ e. absurd (omega (arith, e, l))) in
      elim beside [
        | inl d ↦ (
          leads-is keys next.place (slice_index leaders node) (slice_index (slice_set leaders p next.place) p) (slice_index (slice_set leaders p next.place) (p + p)) settled-named (a ∙ ap (slice_index leaders) (sym d.0)) lead.0,
          leads-is keys next.place (slice_index leaders other) (slice_index (slice_set leaders p next.place) p) (slice_index (slice_set leaders p next.place) (p + p + 1)) settled-named (b ∙ ap (slice_index leaders) (sym d.1)) lead.1,
        )
        | inr d ↦ (
          leads-is keys next.place (slice_index leaders other) (slice_index (slice_set leaders p next.place) p) (slice_index (slice_set leaders p next.place) (p + p)) settled-named (a ∙ ap (slice_index leaders) (sym d.1)) lead.1,
          leads-is keys next.place (slice_index leaders node) (slice_index (slice_set leaders p next.place) p) (slice_index (slice_set leaders p next.place) (p + p + 1)) settled-named (b ∙ ap (slice_index leaders) (sym d.0)) lead.0,
        )
      ]

  pub settled-led : AreLedBut keys leaders node → AreLedBut keys (slice_set leaders (node / 2) next.place) (node / 2)
  settled-led led k l m a = elim (cases_eq k (node / 2)) [
    | inl e ↦ subst (IsLed keys (slice_set leaders (node / 2) next.place)) (sym e) led-here
    | inr e ↦ (let w = led k l m (apart-more k node (λ z. e (sym z)) a) in (
      leads-is keys (slice_index leaders k) (slice_index leaders (k + k)) (slice_index (slice_set leaders (node / 2) next.place) k) (slice_index (slice_set leaders (node / 2) next.place) (k + k)) (kept k e) (kept (k + k) (λ f. a 0 (omega (arith, f)))) w.0,
      leads-is keys (slice_index leaders k) (slice_index leaders (k + k + 1)) (slice_index (slice_set leaders (node / 2) next.place) k) (slice_index (slice_set leaders (node / 2) next.place) (k + k + 1)) (kept k e) (kept (k + k + 1) (λ f. a 0 (omega (arith, f)))) w.1,
    ))
  ]

pub all-led : (keys leaders : List ℕ) (node : ℕ) → node ≤ 1 → AreLedBut keys leaders node → (k : ℕ) → 1 ≤ k → k < length keys → IsLed keys leaders k
all-led keys leaders node low led k l m = led k l m (root-apart k node l low)

-- a place's key changes: the nodes that don't stand above it name other places
module _ (keys leaders : List ℕ) (place key : ℕ) (t : IsTournament leaders keys) (low : place < length keys) where
  same-count : length (slice_set keys place key) ≡ length keys
  same-count = length-set keys place key

  leads-other : (p q : ℕ) → p ≢ place → q ≢ place → Leads keys p q → Leads (slice_set keys place key) p q
  leads-other p q np nq h = (let a = get_or-set_other keys place p key 0 np in let b = get_or-set_other keys place q key 0 nq in omega (arith, a, b, h))

  pub changed-led : AreLedBut (slice_set keys place key) leaders (length (slice_set keys place key) + place)
  changed-led k l m a =
      let n = same-count in
      let w = t.led k l (omega (arith, n, m)) in (
        leads-other (slice_index leaders k) (slice_index leaders (k + k)) here (below (k + k) (omega (arith, l)) (omega (arith, n, m)) (omega arith)) w.0,
        leads-other (slice_index leaders k) (slice_index leaders (k + k + 1)) here (below (k + k + 1) (omega (arith, l)) (omega (arith, n, m)) (omega arith)) w.1,
      )
    where
      apart : (j : ℕ) → above (suc j) (length keys + place) ≢ k
      apart j e = a j (ap (λ v. above (suc j) (v + place)) same-count ∙ e)

      below : (c : ℕ) → 1 ≤ c → c < length keys + length keys → c / 2 ≡ k → slice_index leaders c ≢ place
      below c x y h e = (let v = t.nodes.over c x y in apart v.0 (above-more v.0 (length keys + place) ∙ ap (λ u. u / 2) (sym (ap (λ u. above v.0 (length keys + u)) e) ∙ v.1) ∙ h))

      own-node : (j : ℕ) → above j (length keys + place) ≢ k
      own-node zero f = (let n = same-count in absurd (omega (arith, n, m, f)))
      own-node (suc j) f = apart j f

      here : slice_index leaders k ≢ place
      here e = (let n = same-count in let v = t.nodes.over k l (omega (arith, n, m)) in own-node v.0 (sym (ap (λ u. above v.0 (length keys + u)) e) ∙ v.1))

pub own-place : (ranks : List (Option Rank)) (place : ℕ) (rank : Option Rank) → ((i : ℕ) (r : Rank) → rank_at ranks i ≡ Some r → r.place ≡ i) → place < length ranks → ForSome rank (λ r. r.place ≡ place) →
    (i : ℕ) (r : Rank) → rank_at (slice_set ranks place rank) i ≡ Some r → r.place ≡ i
own-place ranks place rank own low its i r e = elim (cases_eq i place) [
  | inl f ↦ its r (sym (get_or-set_same ranks place rank None low) ∙ ap (rank_at (slice_set ranks place rank)) (sym f) ∙ e) ∙ sym f
  | inr f ↦ own i r (sym (get_or-set_other ranks place i rank None f) ∙ e)
]

-- a place takes another rank and its key
pub keyed-set : (ranks : List (Option Rank)) (keys : List ℕ) (place : ℕ) (rank : Option Rank) (key : ℕ) → AreKeyed ranks keys → place < length ranks → ForSome rank (λ r. r.place ≡ place) → IsKeyOf rank key →
    AreKeyed (slice_set ranks place rank) (slice_set keys place key)
keyed-set ranks keys place rank key t low its is = record {
  many = length-set keys place key ∙ t.many ∙ sym (length-set ranks place rank);
  each = λ i l. elim (cases_eq i place) [
    | inl f ↦ subst (λ j. IsKeyOf (rank_at (slice_set ranks place rank) j) (slice_index (slice_set keys place key) j)) (sym f)
        (subst (λ v. IsKeyOf v (slice_index (slice_set keys place key) place)) (sym (get_or-set_same ranks place rank None low))
        (subst (IsKeyOf rank) (sym (get_or-set_same keys place key 0 (let n = t.many in omega (arith, n, low)))) is))
    | inr f ↦ subst (λ v. IsKeyOf v (slice_index (slice_set keys place key) i)) (sym (get_or-set_other ranks place i rank None f))
        (subst (IsKeyOf (rank_at ranks i)) (sym (get_or-set_other keys place i key 0 f)) (t.each i (let n = length-set ranks place rank in omega (arith, l, n))))
  ];
  own = own-place ranks place rank t.own low its;
}

-- ---- no rank yet

pub none-held : (n : ℕ) (i : ℕ) → rank_at (replicate n None) i ≡ None
none-held zero i = refl
none-held (suc n) zero = refl
none-held (suc n) (suc i) = none-held n i

pub places-nodes : (places : ℕ) (nodes : List ℕ) → length nodes ≡ places + places → ((i : ℕ) → i < places → slice_index nodes (places + i) ≡ i) → AreNodes places places nodes
places-nodes places nodes many leaves = record {
  many = many;
  leaves = leaves;
  within = λ k l m. (let e = at k l m in omega (arith, e, l, m));
  over = λ k l m. (0, let e = at k l m in omega (arith, e, l));
}
  where
    at : (k : ℕ) → places ≤ k → k < places + places → slice_index nodes k ≡ k - places
    at k l m = ap (slice_index nodes) (let d : k ≡ places + (k - places) = omega (arith, l) in d) ∙ leaves (k - places) (omega (arith, l, m))

-- one more node names the first place below it
pub nodes-down : (places node : ℕ) (nodes : List ℕ) → 1 ≤ node → node < places → AreNodes places (node + 1) nodes → AreNodes places node (slice_set nodes node (slice_index nodes (node + node)))
nodes-down places node nodes least low t =
    let w = t.over (node + node) (omega (arith, least)) (omega (arith, low)) in
    over-set places (node + 1) node nodes node (slice_index nodes (node + node)) t (λ k l d. omega (arith, l, d)) low (t.within (node + node) (omega (arith, least)) (omega (arith, low)))
    (suc w.0) (above-more w.0 (places + slice_index nodes (node + node)) ∙ ap (λ v. v / 2) w.1 ∙ (let e : (node + node) / 2 ≡ node = omega arith in e))
