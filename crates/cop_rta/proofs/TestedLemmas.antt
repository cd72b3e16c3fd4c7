-- A tested set is the streams of the bus with the errors behind them.
use Rattle.std.proofs.Common.{◌≡◌, ◌≢◌, ◌∙◌, ◌==◌, ℕ, zero, suc, ◌+◌, ◌-◌, ◌<◌, ◌≤◌, ◌⊎◌, inl, inr, Bool, true, false, not, ◌&&◌, is_some, if◌then◌else◌, List, [], ◌∷◌, ◌++◌, map, length, take, get_or, All, Option, Some, None, IsSome, refl, sym, ap, subst, arith, length-append}
use Rattle.std.proofs.lemmas.Bool.{ne_eqb, eqb-true}
use Rattle.std.proofs.lemmas.List.{get_or-take, take-take, get_or-map, length-take-le, length-map, take_more, take_all, map-append}
use Rattle.std.proofs.lemmas.List.Folds.{list_any_none}
use Rattle.std.proofs.Math.ListN.{get_or-append}
use Rattle.std.proofs.Math.Seq.{get_or-append_seam, take-append_seam}
use Rattle.cop_rta.specs.declared.streams.Stream.{Stream}
use Rattle.cop_rta.specs.declared.errors.Errors.{Errors}
use Rattle.cop_rta.specs.Entries.{Entry, entry_of}
use Rattle.cop_rta.specs.Streams.{AreDistinct, has_id}
use Rattle.cop_rta.specs.UpLemmas.{up_id, up_id-cases, up_id-other, up_id-pos, down_id, down_id-cases}
use Rattle.cop_rta.specs.Errors.{HasNoOne, up, down, errors_stream, tested, is_errors, rarity, errors_in, errors_of, all_but_errors, bus_of}
use Rattle.cop_rta.proofs.StreamLemmas.{stream_same, streams_same}

pub up_id-injective : (a b : ℕ) → a ≢ 1 → b ≢ 1 → up_id a ≡ up_id b → a ≡ b
up_id-injective a b n k e = elim (up_id-cases a) [
  | inl c ↦ elim (up_id-cases b) [ inl d ↦ omega (arith, c.0, d.0) | inr d ↦ absurd (k (omega (arith, c.1, d.1, e))) ]
  | inr c ↦ elim (up_id-cases b) [ inl d ↦ absurd (n (omega (arith, c.1, d.1, e))) | inr d ↦ omega (arith, c.1, d.1, e) ]
]

pub down_id-injective : (a b : ℕ) → a ≢ 0 → b ≢ 0 → down_id a ≡ down_id b → a ≡ b
down_id-injective a b n k e = elim (down_id-cases a) [
  | inl c ↦ elim (down_id-cases b) [ inl d ↦ omega (arith, c.0, d.0) | inr d ↦ absurd (k (omega (arith, c.1, d.1, e))) ]
  | inr c ↦ elim (down_id-cases b) [ inl d ↦ absurd (n (omega (arith, c.1, d.1, e))) | inr d ↦ omega (arith, c.1, d.1, e) ]
]

pub down_id-not_one : (a : ℕ) → down_id a ≢ 1
down_id-not_one a e = elim (down_id-cases a) [ inl c ↦ omega (arith, c.1, e) | inr c ↦ c.0 (sym c.1 ∙ e) ]

pub up_down : (a : ℕ) → a ≢ 0 → up_id (down_id a) ≡ a
up_down a n = elim (down_id-cases a) [
  | inl c ↦ elim (up_id-cases (down_id a)) [ inl d ↦ omega (arith, c.0, d.1) | inr d ↦ omega (arith, c.1, d.0) ]
  | inr c ↦ elim (up_id-cases (down_id a)) [ inl d ↦ absurd (n (omega (arith, c.1, d.0))) | inr d ↦ omega (arith, c.1, d.1) ]
]

-- streams under other identifiers, one more: the next has one that none has yet
pub next_is_new : (f : Stream → Stream) (g : ℕ → ℕ) (P : ℕ → Type 0) → ((s : Stream) → (f s).id ≡ g s.id) → ((a b : ℕ) → P a → P b → g a ≡ g b → a ≡ b)
    → (streams : List Stream) → AreDistinct streams → All (λ s. P s.id) streams → (i : ℕ) (d : Stream) → i < length streams
    → has_id (map f (take i streams)) (f (get_or streams i d)).id ≡ false
next_is_new f g P named one streams distinct all i d low =
    list_any_none (λ s. s.id == (f (get_or streams i d)).id) (map f (take i streams))
    (λ j e inside. ne_eqb (get_or (map f (take i streams)) j e).id (f (get_or streams i d)).id (λ same. apart j e inside same))
  where
    apart : (j : ℕ) (e : Stream) → j < length (map f (take i streams)) → (get_or (map f (take i streams)) j e).id ≡ (f (get_or streams i d)).id → ⊥
    apart j e inside same =
        let size : length (map f (take i streams)) ≡ length (take i streams) = length-map (take i streams) f in
        let count : length (take i streams) ≡ i = length-take-le i streams (omega (arith, low)) in
        let before : j < i = omega (arith, inside, size, count) in
        let its : get_or (map f (take i streams)) j e ≡ f (get_or streams j d) = get_or-map f (take i streams) j d e (omega (arith, before, count)) ∙ ap f (get_or-take i streams j d before) in
        let left : g (get_or streams j d).id ≡ g (get_or streams i d).id = sym (named (get_or streams j d)) ∙ ap (λ (s : Stream). s.id) (sym its) ∙ same ∙ named (get_or streams i d) in
        distinct j i d before low (one (get_or streams j d).id (get_or streams i d).id (all j d (omega (arith, before, low))) (all i d low) left)

-- one more stream
pub one_more : (f : Stream → Stream) (streams : List Stream) (i : ℕ) (d next : Stream) → i < length streams → next ≡ f (get_or streams i d)
    → map f (take i streams) ++ next ∷ [] ≡ map f (take (i + 1) streams)
one_more f streams i d next low its =
    let e : take (i + 1) streams ≡ take i streams ++ get_or streams i d ∷ [] = take_more streams i d low in
    rw (e, map-append f (take i streams) (get_or streams i d ∷ []), its) refl

pub counted : (f : Stream → Stream) (streams : List Stream) (i : ℕ) → i ≤ length streams → length (map f (take i streams)) ≡ i
counted f streams i low = length-map (take i streams) f ∙ length-take-le i streams low

-- none of the streams of the bus is where the errors are
pub none_at_zero : (streams : List Stream) → has_id (map up streams) 0 ≡ false
none_at_zero [] = refl
none_at_zero (s ∷ streams) = rw (ne_eqb (up_id s.id) 0 (λ e. (let p = up_id-pos s.id in omega (arith, p, e)))) (none_at_zero streams)

-- a list that ends in a stream
pub errors_of-last : (rest : List Stream) (x : Stream) → errors_of (rest ++ x ∷ []) ≡ errors_in x
unfolding errors_of
errors_of-last [] x = refl
errors_of-last (s ∷ []) x = refl
errors_of-last (s ∷ t ∷ rest) x = errors_of-last (t ∷ rest) x

pub all_but-last : (rest : List Stream) (x : Stream) → all_but_errors (rest ++ x ∷ []) ≡ map down rest
unfolding all_but_errors
all_but-last [] x = refl
all_but-last (s ∷ []) x = refl
all_but-last (s ∷ t ∷ rest) x = ap (λ (ss : List Stream). down s ∷ ss) (all_but-last (t ∷ rest) x)

pub errors_of-none : errors_of [] ≡ None
unfolding errors_of
errors_of-none = refl

-- the same by the number of the last
pub errors_of-at : (streams : List Stream) (n : ℕ) (x : Stream) → n + 1 ≡ length streams → x ≡ get_or streams n x → errors_of streams ≡ errors_in x
unfolding errors_of
errors_of-at [] n x e its = absurd (omega (arith, e))
errors_of-at (s ∷ []) zero x e its = ap errors_in (sym its)
errors_of-at (s ∷ []) (suc n) x e its = absurd (omega (arith, e))
errors_of-at (s ∷ t ∷ streams) zero x e its = absurd (omega (arith, e))
errors_of-at (s ∷ t ∷ streams) (suc n) x e its = errors_of-at (t ∷ streams) n x (omega (arith, e)) its

pub all_but-at : (streams : List Stream) (n : ℕ) → n + 1 ≡ length streams → all_but_errors streams ≡ map down (take n streams)
unfolding all_but_errors
all_but-at [] n e = absurd (omega (arith, e))
all_but-at (s ∷ []) zero e = refl
all_but-at (s ∷ []) (suc n) e = absurd (omega (arith, e))
all_but-at (s ∷ t ∷ streams) zero e = absurd (omega (arith, e))
all_but-at (s ∷ t ∷ streams) (suc n) e = ap (λ (ss : List Stream). down s ∷ ss) (all_but-at (t ∷ streams) n (omega (arith, e)))

pub in_errors : (x : Stream) → is_errors x ≡ true → errors_in x ≡ Some x
in_errors x h = ap (λ b. if b then Some x else None) h

pub in_none : (x : Stream) → is_errors x ≡ false → errors_in x ≡ None
in_none x h = ap (λ b. if b then Some x else None) h

-- each list is empty or ends in a stream
pub ends : (streams : List Stream) → (streams ≡ []) ⊎ ((rest : List Stream) × (x : Stream) × (streams ≡ rest ++ x ∷ []))
ends [] = inl refl
ends (s ∷ streams) = elim (ends streams) [
  | inl none ↦ inr ([], s, ap (λ (ss : List Stream). s ∷ ss) none)
  | inr some ↦ inr (s ∷ some.0, some.1, ap (λ (ss : List Stream). s ∷ ss) some.2)
]

pub nothing_of : (streams : List Stream) → length streams ≡ 0 → errors_of streams ≡ None
nothing_of [] e = errors_of-none
nothing_of (s ∷ streams) e = absurd (omega (arith, e))

-- what is known of a set that counts errors: it ends in their stream
pub record EndsInErrors (streams : List Stream) : Type 0 where
  pub rest : List Stream
  pub last : Stream
  pub parts : streams ≡ rest ++ last ∷ []
  pub is : is_errors last ≡ true

nothing : (o : Option Stream) → o ≡ None → IsSome o → ⊥
nothing None e h = absurd (cc)
nothing (Some s) e h = absurd (cc)

pub ends_in_errors : (streams : List Stream) → IsSome (errors_of streams) → EndsInErrors streams
ends_in_errors streams some = elim (ends streams) [
  | inl none ↦ absurd (nothing (errors_of streams) (ap errors_of none ∙ errors_of-none) some)
  | inr e ↦ by_test e.0 e.1 e.2 (is_errors e.1) refl
]
  where
    by_test : (rest : List Stream) (x : Stream) → streams ≡ rest ++ x ∷ [] → (b : Bool) → is_errors x ≡ b → EndsInErrors streams
    by_test rest x e true h = record { rest = rest; last = x; parts = e; is = h }
    by_test rest x e false h = absurd (nothing (errors_of streams) (ap errors_of e ∙ errors_of-last rest x ∙ in_none x h) some)

-- a sound of each test
is_zero : (a b c d : Bool) → (a && b && c && d) ≡ true → a ≡ true
is_zero true b c d h = refl
is_zero false b c d h = absurd (cc)

pub errors_at_zero : (x : Stream) → is_errors x ≡ true → x.id ≡ 0
errors_at_zero x h = eqb-true x.id 0 (is_zero (x.id == 0) (x.bytes == 9) (not (is_some x.deadline)) (x.every == 0) h)

-- all others have identifiers above it
pub none_zero : (streams : List Stream) → AreDistinct streams → (e : EndsInErrors streams) → (i : ℕ) (d : Stream) → i + 1 < length streams → (get_or streams i d).id ≢ 0
none_zero streams distinct e i d low zero_id =
    let size : length streams ≡ length e.rest + 1 = ap length e.parts ∙ length-append e.rest (e.last ∷ []) in
    let last : get_or streams (length e.rest) d ≡ e.last = ap (λ (ss : List Stream). get_or ss (length e.rest) d) e.parts ∙ get_or-append_seam e.rest e.last [] d in
    distinct i (length e.rest) d (omega (arith, size, low)) (omega (arith, size)) (zero_id ∙ sym (ap (λ (s : Stream). s.id) last ∙ errors_at_zero e.last e.is))

pub down_is_new : (streams : List Stream) → AreDistinct streams → IsSome (errors_of streams) → (i : ℕ) (d : Stream) → i + 1 < length streams
    → has_id (map down (take i streams)) (down (get_or streams i d)).id ≡ false
down_is_new streams distinct some i d low =
    let e = ends_in_errors streams some in
    let size : length streams ≡ length e.rest + 1 = ap length e.parts ∙ length-append e.rest (e.last ∷ []) in
    let front : take (length e.rest) streams ≡ e.rest = ap (take (length e.rest)) e.parts ∙ take-append_seam e.rest (e.last ∷ []) in
    let at : (j : ℕ) (t : Stream) → j < length e.rest → get_or e.rest j t ≡ get_or streams j t =
    λ j t lt. ap (λ (ss : List Stream). get_or ss j t) (sym front) ∙ get_or-take (length e.rest) streams j t lt in
    let apart : AreDistinct e.rest = λ j k t lt inside. rw (at j t (omega (arith, lt, inside)), at k t inside) (distinct j k t lt (omega (arith, inside, size))) in
    let high : All (λ s. s.id ≢ 0) e.rest = λ j t lt. rw (at j t lt) (none_zero streams distinct e j t (omega (arith, lt, size))) in
    let same : take i e.rest ≡ take i streams = ap (take i) (sym front) ∙ take-take i (length e.rest) streams (omega (arith, low, size)) in
    rw (← same, ← (at i d (omega (arith, low, size)))) (next_is_new down down_id (λ n. n ≢ 0) (λ s. refl) down_id-injective e.rest apart high i d (omega (arith, low, size)))

-- the streams of the bus are all but the last
pub bus_is : (streams : List Stream) (k : ℕ) → IsSome (errors_of streams) → k + 1 ≡ length streams → map down (take k streams) ≡ bus_of streams
bus_is streams k some size = sym (go (errors_of streams) some)
  where
    go : (o : Option Stream) → IsSome o → (if is_some o then all_but_errors streams else streams) ≡ map down (take k streams)
    go None h = absurd (cc)
    go (Some s) h = all_but-at streams k size

pub some_stream : (streams : List Stream) → IsSome (errors_of streams) → 1 ≤ length streams
some_stream streams some =
    let e = ends_in_errors streams some in
    let size : length streams ≡ length e.rest + 1 = ap length e.parts ∙ length-append e.rest (e.last ∷ []) in
    omega (arith, size)
