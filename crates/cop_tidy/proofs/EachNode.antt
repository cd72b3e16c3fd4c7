-- What holds of the dictionaries of the first and the last node holds of each.
use Rattle.std.proofs.Common.{◌≡◌, ◌≤◌, ◌&&◌, inl, inr, ℕ, Bool, true, false, List, Option, Some, None, Result, Ok, Err, IsOk, get_or, refl, ap, sym, ◌∙◌, subst, Contains, All}
use Rattle.std.proofs.lemmas.List.Elements.{All-contains, All-contains_itself}
use Rattle.cop_eds.specs.declared.fault.Refusal.{Refusal}
use Rattle.cop_eds.specs.declared.description.Object.{Object}
use Rattle.cop_eds.specs.Objects.{objects_of}
use Rattle.cop_dict.specs.Types.{is_unsigned32}
use Rattle.cop_dict.specs.Find.{Entry, AreAlike, entry_at}
use Rattle.cop_dict.specs.Build.{entry_built, built}
use Rattle.cop_dict.proofs.BuildLemmas.{built_sorted}
use Rattle.cop_dict.proofs.DictLemmas.{own_place, found_inside}
use Rattle.cop_dict.proofs.PointwiseLemmas.{each_object, only_objects}
use Rattle.cop_dict.proofs.NodeLemmas.{built_before, alike_between, type_of_built}
use Rattle.cop_tidy_reading.specs.declared.words.Words.{Words}
use Rattle.cop_tidy.specs.Accepted.{IsAccepted}
use Rattle.cop_tidy.specs.Identified.{is_identifier, identified, IsIdentified, AreIdentified}
use Rattle.cop_tidy.specs.Standing.{standing}
use Rattle.cop_tidy.proofs.StandingLemmas.{accepted_of, last_identified_of}
use Rattle.cop_tidy.specs.Kept.{is_absent, is_unidentified, is_identified_now, IsLike, IsKept, AreKept, Stays}

-- the dictionary that is built
pub is_built : (r : Result (List Entry) Refusal) → IsOk r → (dict : List Entry) × (r ≡ Ok dict)
is_built (Ok dict) h = (dict, refl)
is_built (Err e) h = absurd (cc)

-- an object that has an entry in a dictionary of its text
pub record IsObjectOf (text : List ℕ) (node : ℕ) (e : Entry) : Type 0 where
  pub object : Object
  pub has : Contains (objects_of text) object
  pub index : object.index ≡ e.index
  pub sub : object.sub ≡ e.sub
  pub built_as : entry_built text node object ≡ Ok e

pub object_of : (text : List ℕ) (node index sub : ℕ) (dict : List Entry) (e : Entry) → built text node ≡ Ok dict → entry_at dict index sub ≡ Some e → IsObjectOf text node e
object_of text node index sub dict e h at =
    let o = only_objects text node index sub dict e h at in
    let own = found_inside dict index sub e at in
    record { object = o.0; has = o.1; index = o.2 ∙ sym own.1; sub = o.3 ∙ sym own.2; built_as = o.4 }

-- its entry in the dictionary of another node, at the same address
pub record HasEntry (text : List ℕ) (node : ℕ) (dict : List Entry) (object : Object) (index sub : ℕ) : Type 0 where
  pub entry : Entry
  pub built_as : entry_built text node object ≡ Ok entry
  pub at : entry_at dict index sub ≡ Some entry
  pub index_is : entry.index ≡ index
  pub sub_is : entry.sub ≡ sub

pub entry_in : (text : List ℕ) (node : ℕ) (dict : List Entry) (object : Object) (index sub : ℕ) → built text node ≡ Ok dict → Contains (objects_of text) object → object.index ≡ index → object.sub ≡ sub
    → HasEntry text node dict object index sub
entry_in text node dict object index sub h has i s =
    let x = each_object text node dict object h has in
    let at : entry_at dict index sub ≡ Some x.0 = ap (λ i. entry_at dict i sub) (sym i) ∙ (ap (λ s. entry_at dict object.index s) (sym s) ∙ x.2) in
    let own = found_inside dict index sub x.0 at in
    record { entry = x.0; built_as = x.1; at = at; index_is = own.1; sub_is = own.2 }

same_type : (text : List ℕ) (node other : ℕ) (object : Object) (e f : Entry) → entry_built text node object ≡ Ok e → entry_built text other object ≡ Ok f → f.description.data_type ≡ e.description.data_type
same_type text node other object e f h t = type_of_built text other object f t ∙ sym (type_of_built text node object e h)

-- the entry at an address in another dictionary of its text
seen_as : (text : List ℕ) (node other index sub : ℕ) (here there : List Entry) (e : Entry) → built text node ≡ Ok here → built text other ≡ Ok there → entry_at here index sub ≡ Some e
    → (f : Entry) × (entry_at there index sub ≡ Some f) × (f.description.data_type ≡ e.description.data_type)
seen_as text node other index sub here there e h t at =
    let o = object_of text node index sub here e h at in
    let own = found_inside here index sub e at in
    let x = entry_in text other there o.object index sub t o.has (o.index ∙ own.1) (o.sub ∙ own.2) in
    (x.entry, x.at, same_type text node other o.object e x.entry o.built_as x.built_as)

-- what stands at an address has one type in all dictionaries of a text
pub record HasType (o : Option Entry) (p : Option Entry) : Type 0 where
  pub absent : is_absent p ≡ is_absent o
  pub identifier : is_identifier p ≡ is_identifier o

same_identifier : (e f : Entry) → f.description.data_type ≡ e.description.data_type → is_identifier (Some f) ≡ is_identifier (Some e)
same_identifier e f same = ap is_unsigned32 same

pub same_there : (text : List ℕ) (node other index sub : ℕ) (here there : List Entry) → built text node ≡ Ok here → built text other ≡ Ok there → HasType (entry_at here index sub) (entry_at there index sub)
same_there text node other index sub here there h t = by_both (entry_at here index sub) (entry_at there index sub) refl refl
  where
    by_both : (o p : Option Entry) → entry_at here index sub ≡ o → entry_at there index sub ≡ p → HasType o p
    by_both None None a b = record { absent = refl; identifier = refl }
    by_both None (Some f) a b = let s = seen_as text other node index sub there here f t h b in let found = s.1 in absurd (cc)
    by_both (Some e) None a b = let s = seen_as text node other index sub here there e h t a in let found = s.1 in absurd (cc)
    by_both (Some e) (Some f) a b =
        let s = seen_as text node other index sub here there e h t a in
        let found = s.1 in
        let same : s.0 ≡ f = cc in
        record { absent = refl; identifier = same_identifier e f (ap (λ (x : Entry). x.description.data_type) (sym same) ∙ s.2) }

-- whether the record of a PDO has no identifier by an entry
same_unidentified : (here there : List Entry) (e f : Entry) → f.index ≡ e.index → f.sub ≡ e.sub → f.description.data_type ≡ e.description.data_type
    → is_absent (entry_at there e.index 1) ≡ is_absent (entry_at here e.index 1) → is_unidentified there f ≡ is_unidentified here e
same_unidentified here there e f index sub type absent = rw (index, sub, type, absent) refl

same_identified : (here there : List Entry) (e f : Entry) → f.index ≡ e.index → is_identifier (entry_at there e.index 1) ≡ is_identifier (entry_at here e.index 1) → identified there f ≡ identified here e
same_identified here there e f index has = rw (index, has) refl

-- where the last dictionary can switch its PDOs off, each can
pub identified_before : (text : List ℕ) (node : ℕ) → IsOk (built text 127) → AreIdentified 127 text → AreIdentified node text
identified_before text node ok all dict h k d inside =
    let last = is_built (built text 127) ok in
    let e = get_or dict k d in
    let at = own_place dict e (built_sorted text node dict h) (All-contains_itself dict k d inside) in
    let s = seen_as text node 127 e.index e.sub dict last.0 e h last.1 at in
    let own = found_inside last.0 e.index e.sub s.0 s.1 in
    let same = same_there text node 127 e.index 1 dict last.0 h last.1 in
    sym (same_identified dict last.0 e s.0 own.1 same.identifier) ∙ All-contains (IsIdentified last.0) last.0 s.0 (all last.0 last.1) own.0

-- ---- the objects of an accepted text stay for each node

-- an entry stands in another dictionary with its type, access, flag, limits and value
is_like : (e : Entry) (o : Option Entry) → IsLike e o → (f : Entry) × (o ≡ Some f) × AreAlike e f
is_like e None h = absurd (h tt)
is_like e (Some f) h = (f, refl, h)

both_true : (a b : Bool) → (a && b) ≡ true → (a ≡ true) × (b ≡ true)
both_true true true h = (refl, refl)
both_true true false h = cc
both_true false b h = cc

and_true : (a b : Bool) → a ≡ true → b ≡ true → (a && b) ≡ true
and_true true true h g = refl
and_true true false h g = cc
and_true false b h g = cc

-- a record that has an identifier now in the dictionary of another node has one in that of this node
kept_alone : (old new : List ℕ) (node other : ℕ) (here there after there_after : List Entry) (e f : Entry) → built old node ≡ Ok here → built old other ≡ Ok there → built new node ≡ Ok after
    → built new other ≡ Ok there_after → f.index ≡ e.index → f.sub ≡ e.sub → f.description.data_type ≡ e.description.data_type → is_identified_now there there_after f ≡ true → IsKept here after e
kept_alone old new node other here there after there_after e f h t n m index sub type now =
    let parts = both_true (is_unidentified there f) (is_identifier (entry_at there_after f.index 1)) now in
    let same = same_there old node other e.index 1 here there h t in
    let has = same_there new other node e.index 1 there_after after m n in
    let moved : is_identifier (entry_at there_after e.index 1) ≡ is_identifier (entry_at there_after f.index 1) = ap (λ i. is_identifier (entry_at there_after i 1)) (sym index) in
    inl (and_true (is_unidentified here e) (is_identifier (entry_at after e.index 1)) (sym (same_unidentified here there e f index sub type same.absent) ∙ parts.0) (has.identifier ∙ (moved ∙ parts.1)))

module _ (old new : List ℕ) (node : ℕ) (before after first last new_first new_last : List Entry)
    (ob : built old node ≡ Ok before) (nb : built new node ≡ Ok after)
    (o1 : built old 1 ≡ Ok first) (n1 : built new 1 ≡ Ok new_first) (o2 : built old 127 ≡ Ok last) (n2 : built new 127 ≡ Ok new_last) where
  -- an entry whose object's entries for the first and the last node stand in the new dictionaries stands in that of this node
  both_like : (e : Entry) (o : IsObjectOf old node e) (a : HasEntry old 1 first o.object e.index e.sub) (b : HasEntry old 127 last o.object e.index e.sub)
      → IsLike a.entry (entry_at new_first a.entry.index a.entry.sub) → IsLike b.entry (entry_at new_last b.entry.index b.entry.sub) → IsLike e (entry_at after e.index e.sub)
  both_like e o a b one two =
      let f = is_like a.entry (entry_at new_first a.entry.index a.entry.sub) one in
      let g = is_like b.entry (entry_at new_last b.entry.index b.entry.sub) two in
      let p = object_of new 1 a.entry.index a.entry.sub new_first f.0 n1 f.1 in
      let own = found_inside new_first a.entry.index a.entry.sub f.0 f.1 in
      let index : p.object.index ≡ e.index = p.index ∙ (own.1 ∙ a.index_is) in
      let sub : p.object.sub ≡ e.sub = p.sub ∙ (own.2 ∙ a.sub_is) in
      let x = entry_in new 127 new_last p.object e.index e.sub n2 p.has index sub in
      let y = entry_in new node after p.object e.index e.sub nb p.has index sub in
      let there : entry_at new_last e.index e.sub ≡ Some g.0 = ap (λ i. entry_at new_last i e.sub) (sym b.index_is) ∙ (ap (λ s. entry_at new_last b.entry.index s) (sym b.sub_is) ∙ g.1) in
      let at = x.at in
      let same : x.entry ≡ g.0 = cc in
      let alike = alike_between old new node o.object p.object a.entry f.0 b.entry x.entry e y.entry a.built_as p.built_as f.2 b.built_as x.built_as
      (subst (AreAlike b.entry) (sym same) g.2) o.built_as y.built_as in
      subst (IsLike e) (sym y.at) alike

  kept_by : (e : Entry) (o : IsObjectOf old node e) (a : HasEntry old 1 first o.object e.index e.sub) (b : HasEntry old 127 last o.object e.index e.sub)
      → IsKept first new_first a.entry → IsKept last new_last b.entry → IsKept before after e
  kept_by e o a b (inl now) two = kept_alone old new node 1 before first after new_first e a.entry ob o1 nb n1 a.index_is a.sub_is (same_type old node 1 o.object e a.entry o.built_as a.built_as) now
  kept_by e o a b (inr one) (inl now) = kept_alone old new node 127 before last after new_last e b.entry ob o2 nb n2 b.index_is b.sub_is (same_type old node 127 o.object e b.entry o.built_as b.built_as) now
  kept_by e o a b (inr one) (inr two) = inr (both_like e o a b one two)

  all_kept : All (IsKept first new_first) first → All (IsKept last new_last) last → All (IsKept before after) before
  all_kept one two k d inside =
      let e = get_or before k d in
      let at = own_place before e (built_sorted old node before ob) (All-contains_itself before k d inside) in
      let o = object_of old node e.index e.sub before e ob at in
      let a = entry_in old 1 first o.object e.index e.sub o1 o.has o.index o.sub in
      let b = entry_in old 127 last o.object e.index e.sub o2 o.has o.index o.sub in
      kept_by e o a b
      (All-contains (IsKept first new_first) first a.entry one (found_inside first e.index e.sub a.entry a.at).0)
      (All-contains (IsKept last new_last) last b.entry two (found_inside last e.index e.sub b.entry b.at).0)

-- where the objects of an accepted text stay in another one, as the first and the last node have them, they stay as each node has them
pub stays_for_each : (old new : List ℕ) (node : ℕ) → IsAccepted old → IsAccepted new → Stays 1 old new → Stays 127 old new → Stays node old new
unfolding Stays AreKept
stays_for_each old new node a b one two before after ob nb =
    let o1 = is_built (built old 1) a.first in
    let o2 = is_built (built old 127) a.last in
    let n1 = is_built (built new 1) b.first in
    let n2 = is_built (built new 127) b.last in
    all_kept old new node before after o1.0 o2.0 n1.0 n2.0 ob nb o1.1 n1.1 o2.1 n2.1 (one o1.0 n1.0 o1.1 n1.1) (two o2.0 n2.0 o2.1 n2.1)

-- an accepted text has a dictionary for each node
pub built_for_each : (text : List ℕ) (node : ℕ) → IsAccepted text → node ≤ 127 → IsOk (built text node)
built_for_each text node a le =
    let last = is_built (built text 127) a.last in
    let d = built_before text node last.0 le last.1 in
    subst (λ (r : Result (List Entry) Refusal). IsOk r) (sym d.1) refl

-- the same of a text against which nothing stands
pub built_of : (words : Words) (text : List ℕ) → standing words text ≡ None → (node : ℕ) → node ≤ 127 → IsOk (built text node)
built_of words text h node le = built_for_each text node (accepted_of words text h) le

pub identified_of : (words : Words) (text : List ℕ) → standing words text ≡ None → (node : ℕ) → AreIdentified node text
identified_of words text h node = identified_before text node (accepted_of words text h).last (last_identified_of words text h)
