use Rattle.std.proofs.Common.{◌≡◌, ◌∙◌, ◌≤◌, ◌<◌, ◌+◌, ◌*◌, ◌^◌, ℕ, Bool, true, false, inl, inr, refl, sym, ap, subst, arith}
use Rattle.std.specs.Prelude.{Some, None, length}
use Rattle.std.proofs.lemmas.Bool.{cases_lt}
use Rattle.cop_frame.specs.Rate.{ticks_of}
use Rattle.cop_bus.specs.Run.{least_bits}
use Rattle.cop_lines.specs.declared.entries.Entry.{Entry}
use Rattle.cop_log.specs.declared.findings.Finding.TheVariants.{Crowded}
use Rattle.cop_log.specs.declared.anchors.Pile.{Pile}
use Rattle.cop_log.specs.Log.{entry_at, most, IsFull}
use Rattle.cop_log.specs.Watching.{IsHeld, IsLoaded}
use Rattle.cop_log.proofs.Piled.{told, goes_on, starts_again, few}
use Rattle.cop_log.proofs.crowding.load_next.Goals as goal

refuted : (b : Bool) → b ≡ true → b ≡ false → ⊥
refuted b t f = absurd (cc)

ahead : (x y : ℕ) (b : Bool) → (x ≤ y → b ≡ true) → b ≡ false → y < x
ahead x y b h f = elim (cases_lt y x) [ inl l ↦ l | inr l ↦ (let t = h l in absurd (refuted b t f)) ]

-- what the pile grows by, as long as the log is short
sum_of : (ticks pile own i n : ℕ) → pile ≤ i * 2 ^ 20 → own ≤ 2 ^ 20 → i < n → n < 2 ^ 64 → (pile + own ≤ 2 ^ 85 → ticks ≡ pile + own) → ticks ≡ pile + own
sum_of ticks pile own i n a b l s h = h (omega arith)

own_is : (own tau : ℕ) (e f : Entry) → own ≡ least_bits e.len * tau → f ≡ e → own ≡ least_bits f.len * tau
own_is own tau e f a b = a ∙ ap (λ (e : Entry). least_bits e.len * tau) (sym b)

same_pile : (more pile : Pile) → more.from ≡ pile.from → more.entry ≡ pile.entry → record { from = pile.from; entry = pile.entry; ticks = more.ticks } ≡ more
same_pile more pile a b = subst (λ f. record { from = f; entry = pile.entry; ticks = more.ticks } ≡ more) a (subst (λ t. record { from = more.from; entry = t; ticks = more.ticks } ≡ more) b refl)

pub returns-then-is_full-clause-loaded : goal.returns-then-is_full-clause-loaded
returns-then-is_full-clause-loaded c log clean within short same w =
    let pile = c.in-Some.pile in
    let more = c.grown-more.result in
    let v = subst (λ p. IsHeld (ticks_of c.args.rate) c.args.clock log c.args.number p clean) c.in-Some.is w in
    let sum = sum_of more.ticks pile.ticks c.least_ticks.result c.args.number (length log) (few (ticks_of c.args.rate) c.args.clock log c.args.number pile clean v) c.least_ticks.ensures.few within short c.grown-more.ensures.ticks in
    subst (λ f. IsLoaded (ticks_of c.args.rate) c.args.clock log c.args.number clean (record { from = c.args.number; entry = c.args.entry.now; ticks = 0 }) (Some (Crowded f c.args.number))) (sym c.grown-more.ensures.from)
    (told (ticks_of c.args.rate) c.args.clock log c.args.number within clean c.args.entry.now (sym same) pile c.least_ticks.result more.ticks
    (own_is c.least_ticks.result (ticks_of c.args.rate) c.args.entry.now (entry_at log c.args.number) c.least_ticks.ensures.value same) c.least_ticks.ensures.few sum v
    (subst (λ (e : Entry). IsFull c.args.clock e.at c.args.entry.now.at more.ticks) c.grown-more.ensures.entry (c.is_full.ensures.0 c.if-is_full.true)))

pub returns-then-is_lower-clause-loaded : goal.returns-then-is_lower-clause-loaded
returns-then-is_lower-clause-loaded c log clean within short same w =
    let pile = c.in-Some.pile in
    let more = c.grown-more.result in
    let v = subst (λ p. IsHeld (ticks_of c.args.rate) c.args.clock log c.args.number p clean) c.in-Some.is w in
    let sum = sum_of more.ticks pile.ticks c.least_ticks.result c.args.number (length log) (few (ticks_of c.args.rate) c.args.clock log c.args.number pile clean v) c.least_ticks.ensures.few within short c.grown-more.ensures.ticks in
    subst (λ p. IsLoaded (ticks_of c.args.rate) c.args.clock log c.args.number clean p None) (same_pile more pile c.grown-more.ensures.from c.grown-more.ensures.entry)
    (goes_on (ticks_of c.args.rate) c.args.clock log c.args.number within clean c.args.entry.now (sym same) pile c.least_ticks.result more.ticks
    (own_is c.least_ticks.result (ticks_of c.args.rate) c.args.entry.now (entry_at log c.args.number) c.least_ticks.ensures.value same) c.least_ticks.ensures.few sum v
    (λ n. let t = c.is_full.ensures.1 (subst (λ (e : Entry). IsFull c.args.clock e.at c.args.entry.now.at more.ticks) (sym c.grown-more.ensures.entry) n) in refuted c.is_full.result t c.if-is_full.false)
    (subst (λ (e : Entry). most c.args.clock c.args.entry.now.at ≤ most c.args.clock e.at + 1000000 * more.ticks) c.grown-more.ensures.entry (c.is_lower.ensures.0 c.if-is_lower.true)))

pub returns-else-is_lower-clause-loaded : goal.returns-else-is_lower-clause-loaded
returns-else-is_lower-clause-loaded c log clean within short same w =
    let pile = c.in-Some.pile in
    let more = c.grown-more.result in
    let v = subst (λ p. IsHeld (ticks_of c.args.rate) c.args.clock log c.args.number p clean) c.in-Some.is w in
    let sum = sum_of more.ticks pile.ticks c.least_ticks.result c.args.number (length log) (few (ticks_of c.args.rate) c.args.clock log c.args.number pile clean v) c.least_ticks.ensures.few within short c.grown-more.ensures.ticks in
    starts_again (ticks_of c.args.rate) c.args.clock log c.args.number within clean c.args.entry.now (sym same) pile c.least_ticks.result more.ticks
    (own_is c.least_ticks.result (ticks_of c.args.rate) c.args.entry.now (entry_at log c.args.number) c.least_ticks.ensures.value same) c.least_ticks.ensures.few sum v
    (λ n. let t = c.is_full.ensures.1 (subst (λ (e : Entry). IsFull c.args.clock e.at c.args.entry.now.at more.ticks) (sym c.grown-more.ensures.entry) n) in refuted c.is_full.result t c.if-is_full.false)
    (subst (λ (e : Entry). most c.args.clock e.at + 1000000 * more.ticks < most c.args.clock c.args.entry.now.at) c.grown-more.ensures.entry
    (ahead (most c.args.clock c.args.entry.now.at) (most c.args.clock more.entry.at + 1000000 * more.ticks) c.is_lower.result c.is_lower.ensures.1 c.if-is_lower.false))
