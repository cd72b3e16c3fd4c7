-- What a dictionary built for one node has to do with those for the others: each value and limit is the same for all, or a number and the
-- node's.
use Rattle.std.proofs.Common.{◌≡◌, zero, suc, pow-suc, ◌≤◌, ◌<◌, ◌+◌, ◌-◌, ◌^◌, ◌⊎◌, inl, inr, ℕ, ℤ, pos, Bool, true, false, cond, nat_le, List, [], ◌∷◌, Option, Some, None, Result, Ok, Err, codes, refl, ap, sym, ◌∙◌, subst, arith}
use Rattle.std.specs.Prelude.{unwrap_or}
use Rattle.std.specs.Option.{option_map}
use Rattle.std.specs.Int.{bytes_low_first}
use Rattle.std.proofs.lemmas.Bool.Decides.{nat_tests}
use Rattle.cop_eds.specs.declared.fault.Rule.{Rule}
use Rattle.cop_eds.specs.declared.fault.Refusal.{Refusal}
use Rattle.cop_eds.specs.declared.amount.Amount.{Amount}
use Rattle.cop_eds.specs.declared.amount.Amount.TheVariants.{Decimal, Negative, Hexadecimal, PlusNode}
use Rattle.cop_eds.specs.declared.description.Object.{Object}
use Rattle.cop_eds.specs.Number.{some_number}
use Rattle.cop_eds.specs.Amount.{amount_of}
use Rattle.cop_eds.specs.Steps.{◌>>=◌, standing_at}
use Rattle.cop_eds.specs.Sections.{entry_of}
use Rattle.cop_eds.specs.Objects.{objects_of}
use Rattle.cop_eds.proofs.ReadingLemmas.{bind_ok}
use Rattle.cop_dict.specs.declared.data_type.DataType.{DataType}
use Rattle.cop_dict.specs.declared.description.Description.{Description}
use Rattle.cop_dict.specs.declared.data_type.DataType.TheVariants as types
use Rattle.cop_dict.specs.Types.{greatest_of, is_text, type_numbered}
use Rattle.cop_dict.specs.Number.{number, value_of}
use Rattle.cop_dict.specs.Patterns.{at_most, pattern_by}
use Rattle.cop_dict.specs.Find.{Entry, AreAlike, integer_of}
use Rattle.cop_dict.specs.Build.{least_width, number_bytes, initial_number, initial_of, limit_number, limit_of, value_entry, entry_of_type, entry_built, collected, built}
use Rattle.cop_dict.proofs.PatternLemmas.{stands_for, own_number}
use Rattle.cop_dict.proofs.AgreeLemmas.{entry_made, parts_of}

-- ---- readings for a node

-- the same for all nodes
abbrev IsSteady : {X : Type 0} → (ℕ → Result X Refusal) → Type 0
IsSteady read = (node : ℕ) → read node ≡ read 1

-- what is seen of a number and the node's, up to a bound
record IsSum {X : Type 0} (view : ℕ → X) (bound : ℕ) (read : ℕ → Result X Refusal) : Type 0 where
  number : ℕ
  is : (node : ℕ) (x : X) → read node ≡ Ok x → (number + node ≤ bound) × (x ≡ view (number + node))
  there : (node : ℕ) → number + node ≤ bound → read node ≡ Ok (view (number + node))

abbrev Goes : {X : Type 0} → (ℕ → X) → ℕ → (ℕ → Result X Refusal) → Type 0
Goes view bound read = IsSteady read ⊎ IsSum view bound read

-- numbers within the bound are told apart
abbrev TellsApart : {X : Type 0} → (ℕ → X) → ℕ → Type 0
TellsApart view bound = (p q : ℕ) → p ≤ bound → q ≤ bound → view p ≡ view q → p ≡ q

-- what is read for the last node is read for each before it
read_before : {X : Type 0} (view : ℕ → X) (bound : ℕ) (read : ℕ → Result X Refusal) (last : X) (node : ℕ) → Goes view bound read → read 127 ≡ Ok last → node ≤ 127 → (x : X) × (read node ≡ Ok x)
read_before view bound read last node (inl steady) e le = (last, steady node ∙ (sym (steady 127) ∙ e))
read_before view bound read last node (inr sum) e le =
    let top = (sum.is 127 last e).0 in
    (view (sum.number + node), sum.there node (omega (arith, top, le)))

-- two readings that agree for the first and the last node agree for each
agree_between : {X : Type 0} (view : ℕ → X) (bound : ℕ) (f g : ℕ → Result X Refusal) (x y u v : X) (node : ℕ) → TellsApart view bound → Goes view bound f → Goes view bound g
    → f 1 ≡ Ok x → g 1 ≡ Ok x → f 127 ≡ Ok y → g 127 ≡ Ok y → f node ≡ Ok u → g node ≡ Ok v → v ≡ u
agree_between view bound f g x y u v node apart (inl a) (inl b) f1 g1 f2 g2 fn gn =
    let p : f 1 ≡ Ok u = sym (a node) ∙ fn in
    let q : g 1 ≡ Ok v = sym (b node) ∙ gn in
    cc
agree_between view bound f g x y u v node apart (inl a) (inr b) f1 g1 f2 g2 fn gn =
    let same : f 1 ≡ Ok y = sym (a 127) ∙ f2 in
    let xy : x ≡ y = cc in
    let one = b.is 1 x g1 in
    let last = b.is 127 y g2 in
    let equal = apart (b.number + 1) (b.number + 127) one.0 last.0 (sym one.1 ∙ (xy ∙ last.1)) in
    absurd (omega (arith, equal))
agree_between view bound f g x y u v node apart (inr a) (inl b) f1 g1 f2 g2 fn gn =
    let same : g 1 ≡ Ok y = sym (b 127) ∙ g2 in
    let xy : x ≡ y = cc in
    let one = a.is 1 x f1 in
    let last = a.is 127 y f2 in
    let equal = apart (a.number + 1) (a.number + 127) one.0 last.0 (sym one.1 ∙ (xy ∙ last.1)) in
    absurd (omega (arith, equal))
agree_between view bound f g x y u v node apart (inr a) (inr b) f1 g1 f2 g2 fn gn =
    let p = a.is 1 x f1 in
    let q = b.is 1 x g1 in
    let equal = apart (a.number + 1) (b.number + 1) p.0 q.0 (sym p.1 ∙ q.1) in
    let k : a.number ≡ b.number = omega (arith, equal) in
    (b.is node v gn).1 ∙ (ap (λ n. view (n + node)) (sym k) ∙ sym (a.is node u fn).1)

-- ---- values and limits

-- the greatest number of a type
abbrev top : DataType → ℕ
top t = unwrap_or (greatest_of t) 0

-- what is made of a pattern
abbrev seen_by : {X : Type 0} → (ℕ → X) → ℕ → Result ℕ Rule → Result X Refusal
seen_by view line r = standing_at line r >>= λ pattern. Ok (view pattern)

sum_is : {X : Type 0} (view : ℕ → X) (line bound n : ℕ) (x : X) (b : Bool) → nat_le n bound ≡ b → seen_by view line (some_number (cond b (Some n) None)) ≡ Ok x → (n ≤ bound) × (x ≡ view n)
sum_is view line bound n x true t e = let same : x ≡ view n = cc in (grind (arith, nat_tests), same)
sum_is view line bound n x false t e = cc

sum_there : {X : Type 0} (view : ℕ → X) (line bound n : ℕ) → n ≤ bound → seen_by view line (some_number (at_most bound n)) ≡ Ok (view n)
sum_there view line bound n le = let t : nat_le n bound ≡ true = grind (arith, nat_tests) in rw t refl

amount_goes : {X : Type 0} (view : ℕ → X) (t : DataType) (bound line : ℕ) (r : Result Amount Rule) → Goes view bound (λ node. seen_by view line (pattern_by t bound node r))
amount_goes view t bound line (Err rule) = inl (λ node. refl)
amount_goes view t bound line (Ok (Decimal n)) = inl (λ node. refl)
amount_goes view t bound line (Ok (Negative n)) = inl (λ node. refl)
amount_goes view t bound line (Ok (Hexadecimal n)) = inl (λ node. refl)
amount_goes view t bound line (Ok (PlusNode n)) = inr (record {
  number = n;
  is = λ node x e. sum_is view line bound (n + node) x (nat_le (n + node) bound) refl e;
  there = λ node le. sum_there view line bound (n + node) le;
})

abbrev bytes_of : DataType → ℕ → List ℕ
bytes_of t pattern = bytes_low_first 0 (least_width t) pattern

-- a type without numbers reads one value for all nodes, and another one goes by its amount
initial_by : (t : DataType) (entry : ℕ × List ℕ) (b : Bool) (o : Option ℕ) → greatest_of t ≡ o → Goes (bytes_of t) (top t) (λ node. cond b (Ok entry.1) (initial_number t o node entry))
initial_by t entry true o is = inl (λ node. refl)
initial_by t entry false None is = inl (λ node. refl)
initial_by t entry false (Some greatest) is =
    let same : greatest ≡ top t = ap (λ o. unwrap_or o 0) (sym is) in
    subst (λ bound. Goes (bytes_of t) bound (λ node. number_bytes t (standing_at entry.0 (pattern_by t greatest node (amount_of entry.1))))) same (amount_goes (bytes_of t) t greatest entry.0 (amount_of entry.1))

initial_goes : (t : DataType) (entry : Option (ℕ × List ℕ)) → Goes (bytes_of t) (top t) (λ node. initial_of t node entry)
initial_goes t None = inl (λ node. refl)
initial_goes t (Some entry) = initial_by t entry (is_text t) (greatest_of t) refl

-- the number that a pattern stands for
abbrev limit_seen : DataType → ℕ → Option ℤ
limit_seen t pattern = Some (value_of t pattern)

limit_by : (t : DataType) (entry : ℕ × List ℕ) (o : Option ℕ) → greatest_of t ≡ o → Goes (limit_seen t) (top t) (λ node. limit_number t o node entry)
limit_by t entry None is = inl (λ node. refl)
limit_by t entry (Some greatest) is =
    let same : greatest ≡ top t = ap (λ o. unwrap_or o 0) (sym is) in
    subst (λ bound. Goes (limit_seen t) bound (λ node. seen_by (limit_seen t) entry.0 (pattern_by t greatest node (amount_of entry.1)))) same (amount_goes (limit_seen t) t greatest entry.0 (amount_of entry.1))

limit_goes : (t : DataType) (entry : Option (ℕ × List ℕ)) → Goes (limit_seen t) (top t) (λ node. limit_of t node entry)
limit_goes t None = inl (λ node. refl)
limit_goes t (Some entry) = limit_by t entry (greatest_of t) refl

-- ---- patterns of one type are told apart

-- the greatest number of a type has a place in its bytes
holds : (t : DataType) (greatest : ℕ) → greatest_of t ≡ Some greatest → greatest < 256 ^ least_width t
holds types.Boolean greatest is = let e : 1 ≡ greatest = cc in rw (← e) (omega arith)
holds types.Integer8 greatest is = let e : 2 ^ 7 - 1 ≡ greatest = cc in rw (← e) (omega arith)
holds types.Integer16 greatest is = let e : 2 ^ 15 - 1 ≡ greatest = cc in rw (← e) (omega arith)
holds types.Integer32 greatest is = let e : 2 ^ 31 - 1 ≡ greatest = cc in rw (← e) (omega arith)
holds types.Integer64 greatest is = let e : 2 ^ 63 - 1 ≡ greatest = cc in rw (← e) (omega arith)
holds types.Unsigned8 greatest is = let e : 2 ^ 8 - 1 ≡ greatest = cc in rw (← e) (omega arith)
holds types.Unsigned16 greatest is = let e : 2 ^ 16 - 1 ≡ greatest = cc in rw (← e) (omega arith)
holds types.Unsigned32 greatest is = let e : 2 ^ 32 - 1 ≡ greatest = cc in rw (← e) (omega arith)
holds types.Unsigned64 greatest is = let e : 2 ^ 64 - 1 ≡ greatest = cc in rw (← e) (omega arith)
holds types.Real32 greatest is = cc
holds types.Real64 greatest is = cc
holds types.VisibleString greatest is = cc
holds types.OctetString greatest is = cc
holds types.Domain greatest is = cc
holds types.Opaque greatest is = cc

some_power : (width : ℕ) → 0 < 256 ^ width
some_power zero = omega arith
some_power (suc width) = let some = some_power width in let next = pow-suc 256 width in omega (arith, some, next)

top_holds : (t : DataType) (o : Option ℕ) → greatest_of t ≡ o → unwrap_or o 0 < 256 ^ least_width t
top_holds t None is = some_power (least_width t)
top_holds t (Some greatest) is = holds t greatest is

bytes_apart : (t : DataType) → TellsApart (bytes_of t) (top t)
bytes_apart t p q below under same =
    let fits : top t < 256 ^ least_width t = top_holds t (greatest_of t) refl in
    sym (own_number (least_width t) p (omega (arith, below, fits))) ∙ (ap number same ∙ own_number (least_width t) q (omega (arith, under, fits)))

-- a number that a type has is its own pattern
stands_alone : (t : DataType) (o : Option ℕ) (p : ℕ) → greatest_of t ≡ o → p ≤ unwrap_or o 0 → value_of t p ≡ pos p
stands_alone t None p is le = plain t is
  where
    none : p ≡ 0
    none = omega arith

    plain : (t : DataType) → greatest_of t ≡ None → value_of t p ≡ pos p
    plain types.Boolean is = cc
    plain types.Integer8 is = cc
    plain types.Integer16 is = cc
    plain types.Integer32 is = cc
    plain types.Integer64 is = cc
    plain types.Unsigned8 is = cc
    plain types.Unsigned16 is = cc
    plain types.Unsigned32 is = cc
    plain types.Unsigned64 is = cc
    plain types.Real32 is = refl
    plain types.Real64 is = refl
    plain types.VisibleString is = refl
    plain types.OctetString is = refl
    plain types.Domain is = refl
    plain types.Opaque is = refl
stands_alone t (Some greatest) p is le =
    let fits : nat_le p greatest ≡ true = grind (arith, nat_tests) in
    let pattern : at_most greatest p ≡ Some p = rw fits refl in
    stands_for t greatest 0 p (Decimal p) (pos p) is refl pattern

limits_apart : (t : DataType) → TellsApart (limit_seen t) (top t)
limits_apart t p q below under same =
    let a = stands_alone t (greatest_of t) p refl below in
    let b = stands_alone t (greatest_of t) q refl under in
    let e : pos p ≡ pos q = cc in
    cc

-- ---- entries

-- what an entry of an object with a type is read from
record IsRead (text : List ℕ) (node : ℕ) (o : Object) (t : DataType) (e : Entry) : Type 0 where
  value : initial_of t node (value_entry text o.place.section) ≡ Ok e.value
  low : limit_of t node (entry_of text o.place.section (codes "LowLimit")) ≡ Ok e.description.low
  high : limit_of t node (entry_of text o.place.section (codes "HighLimit")) ≡ Ok e.description.high
  rest : e ≡ entry_made o t e.value e.description.low e.description.high

is_read : (text : List ℕ) (node : ℕ) (o : Object) (t : DataType) (e : Entry) → entry_of_type text node o t ≡ Ok e → IsRead text node o t e
is_read text node o t e h =
    let p = parts_of text node o t e h in
    subst (λ (x : Entry). IsRead text node o t x) p.whole (record { value = p.has_initial; low = p.has_least; high = p.has_greatest; rest = refl })

entry_there : (text : List ℕ) (node : ℕ) (o : Object) (t : DataType) (value : List ℕ) (low high : Option ℤ) → initial_of t node (value_entry text o.place.section) ≡ Ok value
    → limit_of t node (entry_of text o.place.section (codes "LowLimit")) ≡ Ok low → limit_of t node (entry_of text o.place.section (codes "HighLimit")) ≡ Ok high
    → entry_of_type text node o t ≡ Ok (entry_made o t value low high)
unfolding entry_of_type
entry_there text node o t value low high a b c = rw (a, b, c) refl

-- an entry of the last node is there for each before it
entry_before : (text : List ℕ) (node : ℕ) (o : Object) (t : DataType) (e : Entry) → node ≤ 127 → entry_of_type text 127 o t ≡ Ok e → (x : Entry) × (entry_of_type text node o t ≡ Ok x)
entry_before text node o t e le h =
    let r = is_read text 127 o t e h in
    let a = read_before (bytes_of t) (top t) _ e.value node (initial_goes t (value_entry text o.place.section)) r.value le in
    let b = read_before (limit_seen t) (top t) _ e.description.low node (limit_goes t (entry_of text o.place.section (codes "LowLimit"))) r.low le in
    let c = read_before (limit_seen t) (top t) _ e.description.high node (limit_goes t (entry_of text o.place.section (codes "HighLimit"))) r.high le in
    (entry_made o t a.0 b.0 c.0, entry_there text node o t a.0 b.0 c.0 a.1 b.1 c.1)

collected_before : (text : List ℕ) (node : ℕ) (objects : List Object) (last : List Entry) → node ≤ 127 → collected (entry_built text 127) objects ≡ Ok last
    → (dict : List Entry) × (collected (entry_built text node) objects ≡ Ok dict)
unfolding collected
collected_before text node [] last le h = ([], refl)
collected_before text node (o ∷ objects) last le h =
    let a = bind_ok (entry_built text 127 o) _ last h in
    let b = bind_ok (collected (entry_built text 127) objects) _ last a.2 in
    let x = entry_before text node o (type_numbered o.data_type) a.0 le a.1 in
    let xs = collected_before text node objects b.0 le b.1 in
    (x.0 ∷ xs.0, rw (x.1, xs.1) refl)

-- a text of which a dictionary is built for the last node has one for each node before it
pub built_before : (text : List ℕ) (node : ℕ) (last : List Entry) → node ≤ 127 → built text 127 ≡ Ok last → (dict : List Entry) × (built text node ≡ Ok dict)
built_before text node last le h = collected_before text node (objects_of text) last le h

-- the description of an entry, by its object
abbrev described_by : Object → DataType → Option ℤ → Option ℤ → Description
described_by o t low high = record { data_type = t; access = o.access; is_mappable = o.is_mappable; low = low; high = high }

same_description : (o p : Object) (t : DataType) (a b c d : Option ℤ) → p.access ≡ o.access → p.is_mappable ≡ o.is_mappable → c ≡ a → d ≡ b → described_by p t c d ≡ described_by o t a b
same_description o p t a b c d access flag low high = rw (access, flag, low, high) refl

-- objects of two texts whose entries are alike for the first and the last node have entries alike for each
pub alike_between : (old new : List ℕ) (node : ℕ) (o p : Object) (a b c d e f : Entry)
    → entry_built old 1 o ≡ Ok a → entry_built new 1 p ≡ Ok b → AreAlike a b
    → entry_built old 127 o ≡ Ok c → entry_built new 127 p ≡ Ok d → AreAlike c d
    → entry_built old node o ≡ Ok e → entry_built new node p ≡ Ok f → AreAlike e f
alike_between old new node o p a b c d e f one_o one_p one last_o last_p last here_o here_p =
    let t = type_numbered o.data_type in
    let ra = is_read old 1 o t a one_o in
    let rb = is_read new 1 p (type_numbered p.data_type) b one_p in
    let same : type_numbered p.data_type ≡ t = sym (ap (λ (x : Entry). x.description.data_type) rb.rest) ∙ (ap (λ d. d.data_type) one.0 ∙ ap (λ (x : Entry). x.description.data_type) ra.rest) in
    let access : p.access ≡ o.access = sym (ap (λ (x : Entry). x.description.access) rb.rest) ∙ (ap (λ d. d.access) one.0 ∙ ap (λ (x : Entry). x.description.access) ra.rest) in
    let flag : p.is_mappable ≡ o.is_mappable = sym (ap (λ (x : Entry). x.description.is_mappable) rb.rest) ∙ (ap (λ d. d.is_mappable) one.0 ∙ ap (λ (x : Entry). x.description.is_mappable) ra.rest) in
    let sb = subst (λ t. IsRead new 1 p t b) same rb in
    let rc = is_read old 127 o t c last_o in
    let sd = subst (λ t. IsRead new 127 p t d) same (is_read new 127 p (type_numbered p.data_type) d last_p) in
    let re = is_read old node o t e here_o in
    let sf = subst (λ t. IsRead new node p t f) same (is_read new node p (type_numbered p.data_type) f here_p) in
    let value : f.value ≡ e.value = agree_between (bytes_of t) (top t) _ _ a.value c.value e.value f.value node (bytes_apart t)
    (initial_goes t (value_entry old o.place.section)) (initial_goes t (value_entry new p.place.section)) ra.value (sb.value ∙ ap Ok one.1) rc.value (sd.value ∙ ap Ok last.1) re.value sf.value in
    let low : f.description.low ≡ e.description.low = agree_between (limit_seen t) (top t) _ _ a.description.low c.description.low e.description.low f.description.low node (limits_apart t)
    (limit_goes t (entry_of old o.place.section (codes "LowLimit"))) (limit_goes t (entry_of new p.place.section (codes "LowLimit"))) ra.low (sb.low ∙ ap (λ d. Ok d.low) one.0) rc.low (sd.low ∙ ap (λ d. Ok d.low) last.0) re.low sf.low in
    let high : f.description.high ≡ e.description.high = agree_between (limit_seen t) (top t) _ _ a.description.high c.description.high e.description.high f.description.high node (limits_apart t)
    (limit_goes t (entry_of old o.place.section (codes "HighLimit"))) (limit_goes t (entry_of new p.place.section (codes "HighLimit"))) ra.high (sb.high ∙ ap (λ d. Ok d.high) one.0) rc.high (sd.high ∙ ap (λ d. Ok d.high) last.0) re.high sf.high in (
      ap (λ (x : Entry). x.description) sf.rest
          ∙ (same_description o p t e.description.low e.description.high f.description.low f.description.high access flag low high ∙ sym (ap (λ (x : Entry). x.description) re.rest)),
      value,
    )

-- the type of an entry is its object's
pub type_of_built : (text : List ℕ) (node : ℕ) (o : Object) (e : Entry) → entry_built text node o ≡ Ok e → e.description.data_type ≡ type_numbered o.data_type
type_of_built text node o e h = let r = is_read text node o (type_numbered o.data_type) e h in ap (λ (x : Entry). x.description.data_type) r.rest

-- ---- what an entry is for the first and for the last node, it is for each

-- a description for both ends is one for each node between
pub description_between : (text : List ℕ) (node : ℕ) (o : Object) (a b e : Entry) (d : Description) → entry_built text 1 o ≡ Ok a → entry_built text 127 o ≡ Ok b → entry_built text node o ≡ Ok e
    → a.description ≡ d → b.description ≡ d → e.description ≡ d
description_between text node o a b e d first last here one two =
    let t = type_numbered o.data_type in
    let ra = is_read text 1 o t a first in
    let rb = is_read text 127 o t b last in
    let re = is_read text node o t e here in
    let low : d.low ≡ e.description.low = agree_between (limit_seen t) (top t) _ (λ (n : ℕ). Ok d.low) d.low d.low e.description.low d.low node (limits_apart t)
    (limit_goes t (entry_of text o.place.section (codes "LowLimit"))) (inl (λ n. refl)) (ra.low ∙ ap (λ d. Ok d.low) one) refl (rb.low ∙ ap (λ d. Ok d.low) two) refl re.low refl in
    let high : d.high ≡ e.description.high = agree_between (limit_seen t) (top t) _ (λ (n : ℕ). Ok d.high) d.high d.high e.description.high d.high node (limits_apart t)
    (limit_goes t (entry_of text o.place.section (codes "HighLimit"))) (inl (λ n. refl)) (ra.high ∙ ap (λ d. Ok d.high) one) refl (rb.high ∙ ap (λ d. Ok d.high) two) refl re.high refl in
    let made : a.description ≡ described_by o t a.description.low a.description.high = ap (λ (x : Entry). x.description) ra.rest in
    let mine : e.description ≡ described_by o t e.description.low e.description.high = ap (λ (x : Entry). x.description) re.rest in
    let same = same_description o o t a.description.low a.description.high e.description.low e.description.high refl refl (sym low ∙ sym (ap (λ d. d.low) one)) (sym high ∙ sym (ap (λ d. d.high) one)) in
    mine ∙ (same ∙ (sym made ∙ one))

-- the number of bytes, in a type that has numbers
abbrev number_seen : DataType → List ℕ → Option ℤ
number_seen t value = option_map (λ _. value_of t (number value)) (greatest_of t)

seen_made : (t : DataType) (p : ℕ) → p ≤ top t → value_of t (number (bytes_of t p)) ≡ pos p
seen_made t p le =
    let fits : top t < 256 ^ least_width t = top_holds t (greatest_of t) refl in
    ap (value_of t) (own_number (least_width t) p (omega (arith, le, fits))) ∙ stands_alone t (greatest_of t) p refl le

-- of a pattern it is the pattern, where it is a number at all
is_pattern : (t : DataType) (o : Option ℕ) (p : ℕ) (z : ℤ) → p ≤ top t → option_map (λ _. value_of t (number (bytes_of t p))) o ≡ Some z → z ≡ pos p
is_pattern t None p z le h = cc
is_pattern t (Some greatest) p z le h = let seen = seen_made t p le in cc

has_pattern : (t : DataType) (o : Option ℕ) (value : List ℕ) (p : ℕ) (z : ℤ) → p ≤ top t → option_map (λ _. value_of t (number value)) o ≡ Some z
    → option_map (λ _. value_of t (number (bytes_of t p))) o ≡ Some (pos p)
has_pattern t None value p z le h = cc
has_pattern t (Some greatest) value p z le h = ap Some (seen_made t p le)

-- one number at both ends is that number for each
number_steady : (t : DataType) (read : ℕ → Result (List ℕ) Refusal) (node : ℕ) (x y v : List ℕ) (z : ℤ) → Goes (bytes_of t) (top t) read → read 1 ≡ Ok x → read 127 ≡ Ok y → read node ≡ Ok v
    → number_seen t x ≡ Some z → number_seen t y ≡ Some z → number_seen t v ≡ Some z
number_steady t read node x y v z (inl steady) first last here one two =
    let e : read 1 ≡ Ok v = sym (steady node) ∙ here in
    let same : v ≡ x = cc in
    ap (number_seen t) same ∙ one
number_steady t read node x y v z (inr sum) first last here one two =
    let a = sum.is 1 x first in
    let b = sum.is 127 y last in
    let p = is_pattern t (greatest_of t) (sum.number + 1) z a.0 (sym (ap (number_seen t) a.1) ∙ one) in
    let q = is_pattern t (greatest_of t) (sum.number + 127) z b.0 (sym (ap (number_seen t) b.1) ∙ two) in
    let e : pos (sum.number + 1) ≡ pos (sum.number + 127) = sym p ∙ q in
    let equal : sum.number + 1 ≡ sum.number + 127 = cc in
    absurd (omega (arith, equal))

-- a number and the node's at both ends is that for each
number_rises : (t : DataType) (read : ℕ → Result (List ℕ) Refusal) (node k : ℕ) (x y v : List ℕ) → Goes (bytes_of t) (top t) read → read 1 ≡ Ok x → read 127 ≡ Ok y → read node ≡ Ok v
    → number_seen t x ≡ Some (pos (k + 1)) → number_seen t y ≡ Some (pos (k + 127)) → number_seen t v ≡ Some (pos (k + node))
number_rises t read node k x y v (inl steady) first last here one two =
    let e : read 1 ≡ Ok y = sym (steady 127) ∙ last in
    let same : x ≡ y = cc in
    let f : ◌≡◌ {A = Option ℤ} (Some (pos (k + 1))) (Some (pos (k + 127))) = sym one ∙ (ap (number_seen t) same ∙ two) in
    let equal : k + 1 ≡ k + 127 = cc in
    absurd (omega (arith, equal))
number_rises t read node k x y v (inr sum) first last here one two =
    let a = sum.is 1 x first in
    let c = sum.is node v here in
    let p = is_pattern t (greatest_of t) (sum.number + 1) (pos (k + 1)) a.0 (sym (ap (number_seen t) a.1) ∙ one) in
    let equal : k + 1 ≡ sum.number + 1 = cc in
    let same : sum.number ≡ k = omega (arith, equal) in
    let seen = has_pattern t (greatest_of t) x (sum.number + node) (pos (k + 1)) c.0 one in
    ap (number_seen t) c.1 ∙ (seen ∙ ap (λ n. Some (pos (n + node))) same)

seen_in : (t : DataType) (e : Entry) → e.description.data_type ≡ t → integer_of e ≡ number_seen t e.value
seen_in t e is = rw is refl

-- an entry that is one number for the first and for the last node is that number for each
pub number_between : (text : List ℕ) (node : ℕ) (o : Object) (a b e : Entry) (z : ℤ) → entry_built text 1 o ≡ Ok a → entry_built text 127 o ≡ Ok b → entry_built text node o ≡ Ok e
    → integer_of a ≡ Some z → integer_of b ≡ Some z → integer_of e ≡ Some z
number_between text node o a b e z first last here one two =
    let t = type_numbered o.data_type in
    let ra = is_read text 1 o t a first in
    let rb = is_read text 127 o t b last in
    let re = is_read text node o t e here in
    seen_in t e (type_of_built text node o e here)
    ∙ number_steady t (λ node. initial_of t node (value_entry text o.place.section)) node a.value b.value e.value z (initial_goes t (value_entry text o.place.section)) ra.value rb.value re.value
    (sym (seen_in t a (type_of_built text 1 o a first)) ∙ one) (sym (seen_in t b (type_of_built text 127 o b last)) ∙ two)

-- an entry that is a number and the node's for the first and for the last node is so for each
pub node_number_between : (text : List ℕ) (node : ℕ) (o : Object) (a b e : Entry) (k : ℕ) → entry_built text 1 o ≡ Ok a → entry_built text 127 o ≡ Ok b → entry_built text node o ≡ Ok e
    → integer_of a ≡ Some (pos (k + 1)) → integer_of b ≡ Some (pos (k + 127)) → integer_of e ≡ Some (pos (k + node))
node_number_between text node o a b e k first last here one two =
    let t = type_numbered o.data_type in
    let ra = is_read text 1 o t a first in
    let rb = is_read text 127 o t b last in
    let re = is_read text node o t e here in
    seen_in t e (type_of_built text node o e here)
    ∙ number_rises t (λ node. initial_of t node (value_entry text o.place.section)) node k a.value b.value e.value (initial_goes t (value_entry text o.place.section)) ra.value rb.value re.value
    (sym (seen_in t a (type_of_built text 1 o a first)) ∙ one) (sym (seen_in t b (type_of_built text 127 o b last)) ∙ two)
