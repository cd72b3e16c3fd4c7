-- The streams of the fixed identifiers.
use Rattle.std.proofs.Common.{◌≡◌, ◌≢◌, ◌<◌, ◌≤◌, ◌==◌, ◌-◌, ◌+◌, ℕ, suc, Bool, true, false, List, [], ◌∷◌, ◌++◌, length, take, drop, get_or, set, replicate, find, min, Option, Some, arith, refl, sym, ap, ◌∙◌, ⊎_elim, append_assoc, All, IfSome, cond, Result, Ok}
use Rattle.std.proofs.lemmas.Bool.{cases_eq, cases_lt, eq-eqb, ne_eqb}
use Rattle.std.proofs.lemmas.List.{length-set, get_or-set_same, get_or-set_other, get_or-replicate, append-nil, drop_all, drop_more}
use Rattle.cop_rows.specs.declared.node_table.FrameRow.{FrameRow}
use Rattle.cop_rta.specs.Entries.{Entry}
use Rattle.std.proofs.lemmas.List.Elements.{All-head, All-tail, All-drop, All-take}
use Rattle.cop_net.specs.Fixed.{IsTimed, key_of, sent, streams_from, KnowsFrames}

-- the search from a place's number on, where it is not before these rows, finds what it finds in them from this one on
pub record KnowsFrom (places : List ℕ) (frames : List FrameRow) (i : ℕ) : Type 0 where
  pub size : length places ≡ 769
  pub each : (key : ℕ) → key < 769 → i ≤ get_or places key 0 → find (λ row. key_of row == key) (drop (get_or places key 0) frames) ≡ find (λ row. key_of row == key) (drop i frames)

-- behind all rows nothing is found
pub knows_none : (frames : List FrameRow) → KnowsFrom (replicate 769 65535) frames (length frames)
knows_none frames = record {
  size = refl;
  each = λ key h le.
      let last : ◌≡◌ {A = ℕ} (get_or (replicate 769 65535) key 0) 65535 = get_or-replicate 769 key 65535 0 h in
      rw last (ap (find (λ row. key_of row == key)) (drop_all 65535 frames (rw last at le) ∙ sym (drop_all (length frames) frames (omega arith))));
}

-- a row that has another place is passed over
passed : (frames : List FrameRow) (i key : ℕ) (d : FrameRow) → i < length frames → key_of (get_or frames i d) ≢ key
    → find (λ row. key_of row == key) (drop i frames) ≡ find (λ row. key_of row == key) (drop (i + 1) frames)
passed frames i key d lt other = rw (drop_more frames i d lt, ne_eqb (key_of (get_or frames i d)) key other) refl

-- of a place that stays as it was
stays : (places : List ℕ) (frames : List FrameRow) (i key : ℕ) (d : FrameRow) → KnowsFrom places frames (i + 1) → i < length frames → key < 769
    → key_of (get_or frames i d) ≢ key → i ≤ get_or places key 0
    → find (λ row. key_of row == key) (drop (get_or places key 0) frames) ≡ find (λ row. key_of row == key) (drop i frames)
stays places frames i key d knows lt h other le = ⊎_elim
    (λ (e : i ≡ get_or places key 0). ap (λ n. find (λ row. key_of row == key) (drop n frames)) (sym e))
    (λ (more : i ≢ get_or places key 0). knows.each key h (omega (arith, le, more)) ∙ sym (passed frames i key d lt other))
    (cases_eq i (get_or places key 0))

-- one row more, from the last on: its place has its number, or a smaller one
pub knows_more : (places new : List ℕ) (frames : List FrameRow) (i key n : ℕ) (d : FrameRow) → i < length frames → key ≡ key_of (get_or frames i d) → key < 769
    → n ≤ i → new ≡ set places key n → KnowsFrom places frames (i + 1) → KnowsFrom new frames i
knows_more places new frames i key n d lt here inside low written knows = rw written record {
  size = length-set places key n ∙ knows.size;
  each = λ other h. ⊎_elim
      (λ (e : key ≡ other). λ le.
      let now : get_or (set places key n) other 0 ≡ n = rw (← e) (get_or-set_same places key n 0 (omega (arith, inside, knows.size))) in
      let same : n ≡ i = omega (arith, rw now at le, low) in
      ap (λ m. find (λ row. key_of row == other) (drop m frames)) (now ∙ same))
      (λ (apart : key ≢ other). λ le.
      let now : get_or (set places key n) other 0 ≡ get_or places other 0 = get_or-set_other places key other n 0 (λ e. apart (sym e)) in
      rw now (stays places frames i other d knows lt h (λ e. apart (here ∙ e)) (rw now at le)))
      (cases_eq key other);
}

-- from the first row on
pub knows_all : (places : List ℕ) (frames : List FrameRow) → KnowsFrom places frames 0 → KnowsFrames places frames
knows_all places frames knows = record {
  size = knows.size;
  each = λ key h. knows.each key h (omega arith);
}

-- the streams from a place on are that place's and those from the next on
pub one_more : {F : Type 0} (frames : List FrameRow) (before after : List Entry) (i : ℕ) (row : Option FrameRow) (total : List Entry) → i < 768
    → row ≡ find (λ r. key_of r == i) frames → ◌≡◌ {A = Result (List Entry) F} (Ok (before ++ sent row)) (Ok after)
    → before ++ streams_from frames i (768 - i) ≡ total → after ++ streams_from frames (i + 1) (768 - (i + 1)) ≡ total
unfolding streams_from
one_more frames before after i row total lt here told so_far =
    let more : after ≡ before ++ sent row = cc in
    let k : 768 - i ≡ suc (768 - (i + 1)) = omega arith in
    let one : streams_from frames i (768 - i) ≡ sent row ++ streams_from frames (i + 1) (768 - (i + 1)) = rw (k, here) refl in
    rw (more, append_assoc) (ap (λ r. before ++ r) (sym one) ∙ so_far)

pub no_more : (frames : List FrameRow) (before : List Entry) (i : ℕ) (total : List Entry) → 768 ≤ i
    → before ++ streams_from frames i (768 - i) ≡ total → before ≡ total
unfolding streams_from
no_more frames before i total le so_far =
    let k : 768 - i ≡ 0 = omega arith in
    let none : before ++ streams_from frames i (768 - i) ≡ before = rw k (append-nil before) in
    sym none ∙ so_far

-- what is found is one of them
pub found_all : {A : Type 0} (P : A → Type 0) (test : A → Bool) (xs : List A) → All P xs → IfSome (find test xs) P
found_all P test [] h = tt
found_all P test (x ∷ xs) h = by_test (test x) (All-head P x xs h) (found_all P test xs (All-tail P x xs h))
  where
    by_test : (b : Bool) → P x → IfSome (find test xs) P → IfSome (cond b (Some x) (find test xs)) P
    by_test true here rest = here
    by_test false here rest = rest

-- a row in range that has a place
abbrev pub IsAt : ℕ → FrameRow → Type 0
IsAt key row = IsTimed row × (key_of row ≡ key)

-- what is found at a place has that place
pub found_at : (frames : List FrameRow) (key : ℕ) → All IsTimed frames → IfSome (find (λ row. key_of row == key) frames) (IsAt key)
found_at [] key h = tt
found_at (f ∷ frames) key h = ⊎_elim
    (λ (e : key_of f ≡ key). rw (eq-eqb (key_of f) key e) (All-head IsTimed f frames h, e))
    (λ (other : key_of f ≢ key). rw (ne_eqb (key_of f) key other) (found_at frames key (All-tail IsTimed f frames h)))
    (cases_eq (key_of f) key)

-- what is found in the rows from a place's number on is what is found at the place
pub found_from : (places : List ℕ) (frames : List FrameRow) (place before : ℕ) → KnowsFrames places frames → place < 769 → before ≡ min (get_or places place 0) (length frames)
    → find (λ row. key_of row == place) (drop before frames) ≡ find (λ row. key_of row == place) frames
found_from places frames place before knows h e = ap (find (λ row. key_of row == place)) (rw e (drop_least (get_or places place 0) frames)) ∙ knows.each place h
  where
    drop_least : (n : ℕ) (rows : List FrameRow) → drop (min n (length rows)) rows ≡ drop n rows
    drop_least n rows = ⊎_elim
        (λ (lt : n < length rows). ap (λ m. drop m rows) (omega arith))
        (λ (more : length rows ≤ n).
        let all : min n (length rows) ≡ length rows = omega arith in
        ap (λ m. drop m rows) all ∙ drop_all (length rows) rows (omega arith) ∙ sym (drop_all n rows more))
        (cases_lt n (length rows))

-- what is found in a part of the rows is in range
pub part_timed : (frames : List FrameRow) (before count place : ℕ) → All IsTimed frames → IfSome (find (λ row. key_of row == place) (take count (drop before frames))) IsTimed
part_timed frames before count place timed =
    found_all IsTimed (λ row. key_of row == place) (take count (drop before frames)) (All-take IsTimed count (drop before frames) (All-drop IsTimed before frames timed))
