-- Records that a writer has written, one after another.
use Rattle.std.proofs.Common.{◌≡◌, ℕ, ◌+◌, ◌<◌, ◌≤◌, List, [], ◌∷◌, ◌++◌, length, map, take, get_or, sym, ap, ◌∙◌, append_assoc, append-nil, subst, Option, Some, None}
use Rattle.std.specs.Io.KnownBytes.{Appends, Keeps, append_known}
use Rattle.std.proofs.lemmas.Grind.{flat_map-append}
use Rattle.std.proofs.lemmas.List.{map_more, take_all}
use Rattle.cop_bus.specs.Format.{Fields, line, lines}
use Rattle.cop_bus.specs.Writer.{Adds}

-- ---- known bytes that grow

pub appends_none : (known : Option (List ℕ)) → Appends known known []
appends_none None = tt
appends_none (Some xs) = sym (append-nil xs)

pub appends_more : (a b c : Option (List ℕ)) (xs ys : List ℕ) → Appends a b xs → Appends b c ys → Appends a c (xs ++ ys)
appends_more None b c xs ys h k = tt
appends_more (Some ws) None c xs ys h k = absurd h
appends_more (Some ws) (Some bs) None xs ys h k = absurd k
appends_more (Some ws) (Some bs) (Some cs) xs ys h k = k ∙ rw h (append_assoc ws xs ys)

pub appends_as : (a b : Option (List ℕ)) (xs ys : List ℕ) → xs ≡ ys → Appends a b xs → Appends a b ys
appends_as a b xs ys e h = subst (λ (zs : List ℕ). Appends a b zs) e h

pub appends_kept : (a b c : Option (List ℕ)) (xs : List ℕ) → Appends a b xs → Keeps b c → Appends a c xs
appends_kept None b c xs h k = tt
appends_kept (Some ws) None c xs h k = absurd h
appends_kept (Some ws) (Some bs) None xs h k = absurd k
appends_kept (Some ws) (Some bs) (Some cs) xs h k = k ∙ h

-- what is kept in two steps, the second of which leaves nothing to be handed over
pub all_handed : (a b c : Option (List ℕ)) (pending last : List ℕ) → pending ≡ [] → last ≡ [] → Keeps a b → Keeps b (append_known c (pending ++ last)) → Keeps a c
all_handed None b c pending last none done h k = tt
all_handed (Some ws) None c pending last none done h k = absurd h
all_handed (Some ws) (Some bs) None pending last none done h k = absurd k
all_handed (Some ws) (Some bs) (Some cs) pending last none done h k =
    let nothing : pending ++ last ≡ [] = ap (λ xs. xs ++ last) none ∙ done in
    sym (append-nil cs) ∙ ap (λ xs. cs ++ xs) (sym nothing) ∙ k ∙ h

-- ---- records

module _ {W : Type 0} (contents : W → Option (List ℕ)) where
  pub line_written : (old new : W) (text : List ℕ) → Appends (contents old) (contents new) text → (row : Fields) → text ≡ line row → Adds contents old new (row ∷ [])
  line_written old new text written row is = record { text = appends_as (contents old) (contents new) text (line row ++ []) (is ∙ sym (append-nil (line row))) written }

  pub adds_none : (w : W) → Adds contents w w []
  adds_none w = record { text = appends_none (contents w) }

  pub adds_more : (a b c : W) (rows more : List Fields) → Adds contents a b rows → Adds contents b c more → Adds contents a c (rows ++ more)
  adds_more a b c rows more h k = record {
    text = appends_as (contents a) (contents c) (lines rows ++ lines more) (lines (rows ++ more)) (sym (flat_map-append line rows more))
        (appends_more (contents a) (contents b) (contents c) (lines rows) (lines more) h.text k.text);
  }

module _ {W X : Type 0} (contents : W → Option (List ℕ)) (a b c : W) (xs : List X) (i : ℕ) (x : X) where
  -- one value more, of values with a record each
  pub adds_mapped : (f : X → Fields) → i < length xs → x ≡ get_or xs i x → Adds contents a b (map f (take i xs)) → Adds contents b c (f x ∷ []) → Adds contents a c (map f (take (i + 1) xs))
  adds_mapped f lt e h k =
      let more : Adds contents b c (f (get_or xs i x) ∷ []) = rw (← e) k in
      rw (map_more f xs i x lt) (adds_more contents a b c (map f (take i xs)) (f (get_or xs i x) ∷ []) h more)

pub all_mapped : {W X : Type 0} (contents : W → Option (List ℕ)) (a b : W) (xs : List X) (i : ℕ) (f : X → Fields) → length xs ≤ i → Adds contents a b (map f (take i xs)) → Adds contents a b (map f xs)
all_mapped contents a b xs i f le h = rw (take_all i xs le) at h
