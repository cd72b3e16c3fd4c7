-- The identifiers of the PDOs that use a node's communication records.
use Rattle.std.proofs.Common.{◌≡◌, ◌<◌, ◌≤◌, ℕ, zero, suc, ◌+◌, Bool, true, false, ◌||◌, ◌==◌, cond, List, [], ◌∷◌, length, take, get_or, Option, Some, None, All, IfSome, refl, sym, ap, ◌∙◌, arith, add-one}
use Rattle.std.specs.Option.{option_or}
use Rattle.std.proofs.lemmas.Bool.Decides.{nat_tests}
use Rattle.cop_rows.specs.declared.pdo_table.PdoRow.{PdoRow}
use Rattle.cop_dcf.specs.Identifiers.{takes, uses, id_at, IsNoted}

or_none : {A : Type 0} (o : Option A) → option_or o None ≡ o
or_none None = refl
or_none (Some x) = refl

-- nothing is noted
pub none_noted : (places : List (Option ℕ)) (id : ℕ) → IsNoted places places (λ index. false) id
none_noted places id = record { each = λ place lt. sym (or_none (get_or places place None)) }

either : (p q : Bool) (id : ℕ) (o : Option ℕ) → option_or (option_or o (cond p (Some id) None)) (cond q (Some id) None) ≡ option_or o (cond (p || q) (Some id) None)
either true q id None = refl
either true q id (Some x) = refl
either false q id None = refl
either false q id (Some x) = refl

-- what is noted one after the other
pub noted_both : (now between before : List (Option ℕ)) (p q : ℕ → Bool) (id : ℕ) → IsNoted between before p id → IsNoted now between q id → IsNoted now before (λ index. p index || q index) id
noted_both now between before p q id first second = record {
  each = λ place lt.
      second.each place lt
      ∙ ap (λ o. option_or o (cond (q (0x1400 + place)) (Some id) None)) (first.each place lt)
      ∙ either (p (0x1400 + place)) (q (0x1400 + place)) id (get_or before place None);
}

-- at the indexes of a test that says the same
pub noted_alike : (now before : List (Option ℕ)) (p q : ℕ → Bool) (id : ℕ) → ((index : ℕ) → p index ≡ q index) → IsNoted now before p id → IsNoted now before q id
noted_alike now before p q id same h = record {
  each = λ place lt. h.each place lt ∙ ap (λ b. option_or (get_or before place None) (cond b (Some id) None)) (same (0x1400 + place));
}

-- the records of a row: the sender's is the node's, or it is another's
pub own_row : (now between before : List (Option ℕ)) (row : PdoRow) (node id : ℕ) → row.node ≡ node → IsNoted between before (λ i. 0x17FF + row.tpdo == i) id
    → IsNoted now between (takes row.consumers node) id → IsNoted now before (uses row node) id
own_row now between before row node id own first second =
    noted_alike now before (λ index. (0x17FF + row.tpdo == index) || takes row.consumers node index) (uses row node) id by_own
    (noted_both now between before (λ i. 0x17FF + row.tpdo == i) (takes row.consumers node) id first second)
  where
    by_own : (index : ℕ) → (0x17FF + row.tpdo == index) || takes row.consumers node index ≡ uses row node index
    by_own index =
        let here : (row.node == node) ≡ true = grind (arith, nat_tests) in
        rw here refl

-- no row
pub none_yet : (rows : List PdoRow) (ids : List ℕ) (node index : ℕ) → id_at (take 0 rows) (take 0 ids) node index ≡ None
none_yet rows ids node index = refl

-- a row more
id_more : (rows : List PdoRow) (ids : List ℕ) (k : ℕ) (d : PdoRow) (e node index : ℕ) → k < length rows → k < length ids
    → id_at (take (suc k) rows) (take (suc k) ids) node index ≡ option_or (id_at (take k rows) (take k ids) node index) (cond (uses (get_or rows k d) node index) (Some (get_or ids k e)) None)
id_more [] ids k d e node index lt lt' = absurd (omega arith)
id_more (row ∷ rows) [] k d e node index lt lt' = absurd (omega arith)
id_more (row ∷ rows) (id ∷ ids) zero d e node index lt lt' = refl
id_more (row ∷ rows) (id ∷ ids) (suc k) d e node index lt lt' = by_use (uses row node index) (id_more rows ids k d e node index (omega arith) (omega arith))
  where
    by_use : (b : Bool) → id_at (take (suc k) rows) (take (suc k) ids) node index ≡ option_or (id_at (take k rows) (take k ids) node index) (cond (uses (get_or rows k d) node index) (Some (get_or ids k e)) None)
        → cond b (Some id) (id_at (take (suc k) rows) (take (suc k) ids) node index)
        ≡ option_or (cond b (Some id) (id_at (take k rows) (take k ids) node index)) (cond (uses (get_or rows k d) node index) (Some (get_or ids k e)) None)
    by_use true later = refl
    by_use false later = later

pub rows_more : (now between : List (Option ℕ)) (rows : List PdoRow) (ids : List ℕ) (k : ℕ) (d : PdoRow) (e node : ℕ) → k < length rows → k < length ids
    → ((place : ℕ) → place < 1536 → get_or between place None ≡ id_at (take k rows) (take k ids) node (0x1400 + place)) → IsNoted now between (uses (get_or rows k d) node) (get_or ids k e)
    → (place : ℕ) → place < 1536 → get_or now place None ≡ id_at (take (k + 1) rows) (take (k + 1) ids) node (0x1400 + place)
rows_more now between rows ids k d e node lt lt' before noted place inside =
    noted.each place inside
    ∙ ap (λ o. option_or o (cond (uses (get_or rows k d) node (0x1400 + place)) (Some (get_or ids k e)) None)) (before place inside)
    ∙ sym (id_more rows ids k d e node (0x1400 + place) lt lt')
    ∙ ap (λ n. id_at (take n rows) (take n ids) node (0x1400 + place)) (sym (add-one k))

-- the first so many of rows and identifiers are all, where there are no more rows
pub all_rows : (rows : List PdoRow) (ids : List ℕ) (k node index : ℕ) → length rows ≤ k → length rows ≤ length ids → id_at (take k rows) (take k ids) node index ≡ id_at rows ids node index
all_rows [] ids k node index past few = by_zero k
  where
    by_zero : (k : ℕ) → id_at (take k []) (take k ids) node index ≡ None
    by_zero zero = refl
    by_zero (suc k) = refl
all_rows (row ∷ rows) [] k node index past few = absurd (omega arith)
all_rows (row ∷ rows) (id ∷ ids) zero node index past few = absurd (omega arith)
all_rows (row ∷ rows) (id ∷ ids) (suc k) node index past few = ap (cond (uses row node index) (Some id)) (all_rows rows ids k node index (omega arith) (omega arith))

-- identifiers that are noted have 11 bits, where those of the rows have
pub id_small : (rows : List PdoRow) (ids : List ℕ) (node index : ℕ) → All (λ id. id < 2048) ids → IfSome (id_at rows ids node index) (λ id. id < 2048)
id_small [] ids node index all = tt
id_small (row ∷ rows) [] node index all = tt
id_small (row ∷ rows) (id ∷ ids) node index all = by_use (uses row node index) (all 0 id (omega arith)) (id_small rows ids node index (λ k d lt. all (suc k) d (omega arith)))
  where
    by_use : (b : Bool) → id < 2048 → IfSome (id_at rows ids node index) (λ id. id < 2048) → IfSome (cond b (Some id) (id_at rows ids node index)) (λ id. id < 2048)
    by_use true own later = own
    by_use false own later = later
