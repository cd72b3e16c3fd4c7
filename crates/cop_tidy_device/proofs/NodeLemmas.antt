-- That two nodes decide: a value or a limit is one for all nodes, or the sum of a number and the node's.
use Rattle.std.proofs.Common.{◌≡◌, ◌≤◌, ◌<◌, ◌+◌, ◌-◌, ◌^◌, ◌⊎◌, inl, inr, ℕ, ℤ, pos, Bool, true, false, cond, nat_le, List, [], ◌∷◌, map, Option, Some, None, Result, Ok, Err, codes, refl, ap, sym, ◌∙◌, subst, arith}
use Rattle.std.specs.Prelude.{unwrap_or}
use Rattle.std.specs.Option.{option_map, option_and_then}
use Rattle.std.specs.Int.{bytes_low_first}
use Rattle.std.proofs.lemmas.Bool.Decides.{nat_tests}
use Rattle.cop_eds.specs.declared.fault.Rule.{Rule}
use Rattle.cop_eds.specs.declared.fault.Refusal.{Refusal}
use Rattle.cop_eds.specs.declared.amount.Amount.{Amount}
use Rattle.cop_eds.specs.declared.amount.Amount.TheVariants.{Decimal, Negative, Hexadecimal, PlusNode}
use Rattle.cop_eds.specs.declared.description.Object.{Object}
use Rattle.cop_eds.specs.Number.{some_number}
use Rattle.cop_eds.specs.Amount.{amount_of}
use Rattle.cop_eds.specs.Steps.{◌>>=◌, standing_at}
use Rattle.cop_eds.specs.Sections.{entry_of}
use Rattle.cop_eds.specs.Objects.{objects_of}
use Rattle.cop_eds.proofs.ReadingLemmas.{bind_ok}
use Rattle.cop_dict.specs.declared.data_type.DataType.{DataType}
use Rattle.cop_dict.specs.declared.data_type.DataType.TheVariants as types
use Rattle.cop_dict.specs.Types.{greatest_of, is_text, type_numbered}
use Rattle.cop_dict.specs.Number.{number, value_of}
use Rattle.cop_dict.specs.Patterns.{at_most, pattern_of, pattern_by}
use Rattle.cop_dict.specs.Find.{Entry}
use Rattle.cop_dict.specs.Build.{least_width, initial_number, initial_of, limit_number, limit_of, value_entry, entry_of_type, entry_built, collected, built}
use Rattle.cop_dict.proofs.PatternLemmas.{stands_for, own_number}
use Rattle.cop_dict.proofs.AgreeLemmas.{entry_made, parts_of, ok_same}
use Rattle.cop_tidy_device.specs.declared.device.Value.{Value}
use Rattle.cop_tidy_device.specs.declared.device.Value.TheVariants.{Nothing, Number, Text}
use Rattle.cop_tidy_device.specs.declared.device.DeviceObject.{DeviceObject}
use Rattle.cop_tidy_device.specs.Device.{Meaning, bytes_for, limit_for, entry_for, dictionary_for}

-- ---- what may depend on the node

-- what is made of a pattern, or of none, tells the patterns within a bound apart, and 0 alone may look like none
record TellsApart {X : Type 0} (choose : Option ℕ → X) (bound : ℕ) : Type 0 where
  apart : (p q : ℕ) → p ≤ bound → q ≤ bound → choose (Some p) ≡ choose (Some q) → p ≡ q
  some : (p : ℕ) → 1 ≤ p → p ≤ bound → choose (Some p) ≡ choose None → ⊥

-- a text's reading is that of a number and the node's, up to a bound
record ReadsSum {X : Type 0} (choose : Option ℕ → X) (bound : ℕ) (read : ℕ → Result X Refusal) : Type 0 where
  number : ℕ
  is : (node : ℕ) (x : X) → read node ≡ Ok x → (number + node ≤ bound) × (x ≡ choose (Some (number + node)))
  there : (node : ℕ) → number + node ≤ bound → read node ≡ Ok (choose (Some (number + node)))

-- it is that, or the same for all nodes
abbrev Reads : {X : Type 0} → (Option ℕ → X) → ℕ → (ℕ → Result X Refusal) → Type 0
Reads choose bound read = ((node : ℕ) → read node ≡ read 1) ⊎ ReadsSum choose bound read

-- a device means a number and the node's, up to a bound, and nothing beyond
record MeansSum {X : Type 0} (choose : Option ℕ → X) (bound : ℕ) (f : ℕ → X) : Type 0 where
  number : ℕ
  first : number + 1 ≤ bound
  there : (node : ℕ) → number + node ≤ bound → f node ≡ choose (Some (number + node))
  beyond : (node : ℕ) → bound < number + node → f node ≡ choose None

-- it means that, or the same for all nodes from the first on
abbrev Means : {X : Type 0} → (Option ℕ → X) → ℕ → (ℕ → X) → Type 0
Means choose bound f = ((node : ℕ) → 1 ≤ node → f node ≡ f 1) ⊎ MeansSum choose bound f

-- a sum is not the same for the first node and for the last
changes : {X : Type 0} (choose : Option ℕ → X) (bound : ℕ) (f : ℕ → X) → TellsApart choose bound → MeansSum choose bound f → f 1 ≡ f 127 → ⊥
changes choose bound f tells sum same = by_fit (nat_le (sum.number + 127) bound) refl
  where
    by_fit : (b : Bool) → nat_le (sum.number + 127) bound ≡ b → ⊥
    by_fit true t =
        let le : sum.number + 127 ≤ bound = grind (arith, nat_tests) in
        let equal = tells.apart (sum.number + 1) (sum.number + 127) sum.first le (sym (sum.there 1 sum.first) ∙ (same ∙ sum.there 127 le)) in
        absurd (omega (arith, equal))
    by_fit false t =
        let over : bound < sum.number + 127 = grind (arith, nat_tests) in
        tells.some (sum.number + 1) (omega arith) sum.first (sym (sum.there 1 sum.first) ∙ (same ∙ sum.beyond 127 over))

-- what is read as a device means for the first node and for the last is read so for each
agree : {X : Type 0} (choose : Option ℕ → X) (bound : ℕ) (read : ℕ → Result X Refusal) (f : ℕ → X) (node : ℕ) → TellsApart choose bound → Reads choose bound read → Means choose bound f
    → 1 ≤ node → node ≤ 127 → read 1 ≡ Ok (f 1) → read 127 ≡ Ok (f 127) → read node ≡ Ok (f node)
agree choose bound read f node tells (inl a) (inl b) low high one last = a node ∙ (one ∙ ap Ok (sym (b node low)))
agree choose bound read f node tells (inl a) (inr b) low high one last =
    let both : ◌≡◌ {A = Result _ Refusal} (Ok (f 1)) (Ok (f 127)) = sym one ∙ (sym (a 127) ∙ last) in
    absurd (changes choose bound f tells b (ok_same (f 1) (f 127) both))
agree choose bound read f node tells (inr a) (inl b) low high one last =
    let p = a.is 1 (f 1) one in
    let q = a.is 127 (f 127) last in
    let steady : f 127 ≡ f 1 = b 127 (omega arith) in
    let equal = tells.apart (a.number + 1) (a.number + 127) p.0 q.0 (sym p.1 ∙ (sym steady ∙ q.1)) in
    absurd (omega (arith, equal))
agree choose bound read f node tells (inr a) (inr b) low high one last =
    let p = a.is 1 (f 1) one in
    let q = a.is 127 (f 127) last in
    let top = q.0 in
    let equal = tells.apart (a.number + 1) (b.number + 1) p.0 b.first (sym p.1 ∙ b.there 1 b.first) in
    let k : a.number ≡ b.number = omega (arith, equal) in
    a.there node (omega (arith, top)) ∙ ap Ok (ap (λ n. choose (Some (n + node))) k ∙ sym (b.there node (omega (arith, top, k))))

-- ---- amounts

within : (bound n : ℕ) → n ≤ bound → at_most bound n ≡ Some n
within bound n le = let t : nat_le n bound ≡ true = grind (arith, nat_tests) in rw t refl

outside : (bound n : ℕ) → bound < n → at_most bound n ≡ None
outside bound n lt = let t : nat_le n bound ≡ false = grind (arith, nat_tests) in rw t refl

-- what is made of a pattern that is read
abbrev seen_by : {X : Type 0} → (Option ℕ → X) → ℕ → Result ℕ Rule → Result X Refusal
seen_by choose line r = standing_at line r >>= λ pattern. Ok (choose (Some pattern))

sum_is : {X : Type 0} (choose : Option ℕ → X) (line bound n : ℕ) (x : X) (b : Bool) → nat_le n bound ≡ b → seen_by choose line (some_number (cond b (Some n) None)) ≡ Ok x
    → (n ≤ bound) × (x ≡ choose (Some n))
sum_is choose line bound n x true t e = (grind (arith, nat_tests), sym (ok_same (choose (Some n)) x e))
sum_is choose line bound n x false t e = cc

sum_there : {X : Type 0} (choose : Option ℕ → X) (line bound n : ℕ) → n ≤ bound → seen_by choose line (some_number (at_most bound n)) ≡ Ok (choose (Some n))
sum_there choose line bound n le = rw (within bound n le) refl

amount_reads : {X : Type 0} (choose : Option ℕ → X) (t : DataType) (bound line : ℕ) (r : Result Amount Rule) → Reads choose bound (λ node. seen_by choose line (pattern_by t bound node r))
amount_reads choose t bound line (Err rule) = inl (λ node. refl)
amount_reads choose t bound line (Ok (Decimal n)) = inl (λ node. refl)
amount_reads choose t bound line (Ok (Negative n)) = inl (λ node. refl)
amount_reads choose t bound line (Ok (Hexadecimal n)) = inl (λ node. refl)
amount_reads choose t bound line (Ok (PlusNode n)) = inr (record {
  number = n;
  is = λ node x e. sum_is choose line bound (n + node) x (nat_le (n + node) bound) refl e;
  there = λ node le. sum_there choose line bound (n + node) le;
})

amount_means : {X : Type 0} (choose : Option ℕ → X) (t : DataType) (bound : ℕ) (amount : Amount) → Means choose bound (λ node. choose (pattern_of t bound node amount))
amount_means choose t bound (Decimal n) = inl (λ node low. refl)
amount_means choose t bound (Negative n) = inl (λ node low. refl)
amount_means choose t bound (Hexadecimal n) = inl (λ node low. refl)
amount_means choose t bound (PlusNode n) = by_first (nat_le (n + 1) bound) refl
  where
    by_first : (b : Bool) → nat_le (n + 1) bound ≡ b → Means choose bound (λ node. choose (at_most bound (n + node)))
    by_first true t = inr (record {
      number = n;
      first = grind (arith, nat_tests);
      there = λ node le. ap choose (within bound (n + node) le);
      beyond = λ node lt. ap choose (outside bound (n + node) lt);
    })
    by_first false t =
        let over : bound < n + 1 = grind (arith, nat_tests) in
        inl (λ node low. ap choose (outside bound (n + node) (omega (arith, over)) ∙ sym (outside bound (n + 1) over)))

-- in a type that may have no numbers
number_means : {X : Type 0} (choose : Option ℕ → X) (t : DataType) (o : Option ℕ) (amount : Amount)
    → Means choose (unwrap_or o 0) (λ node. choose (option_and_then (λ greatest. pattern_of t greatest node amount) o))
number_means choose t None amount = inl (λ node low. refl)
number_means choose t (Some greatest) amount = amount_means choose t greatest amount

-- the greatest number of a type
abbrev top : DataType → ℕ
top t = unwrap_or (greatest_of t) 0

-- ---- values

abbrev bytes_chosen : DataType → Option ℕ → List ℕ
bytes_chosen t pattern = bytes_low_first 0 (least_width t) (unwrap_or pattern 0)

initial_by : (t : DataType) (entry : ℕ × List ℕ) (b : Bool) (o : Option ℕ) → Reads (bytes_chosen t) (unwrap_or o 0) (λ node. cond b (Ok entry.1) (initial_number t o node entry))
initial_by t entry true o = inl (λ node. refl)
initial_by t entry false None = inl (λ node. refl)
initial_by t entry false (Some greatest) = amount_reads (bytes_chosen t) t greatest entry.0 (amount_of entry.1)

initial_reads : (t : DataType) (entry : Option (ℕ × List ℕ)) → Reads (bytes_chosen t) (top t) (λ node. initial_of t node entry)
initial_reads t None = inl (λ node. refl)
initial_reads t (Some entry) = initial_by t entry (is_text t) (greatest_of t)

bytes_mean : (t : DataType) (value : Value) → Means (bytes_chosen t) (top t) (λ node. bytes_for t node value)
bytes_mean t Nothing = inl (λ node low. refl)
bytes_mean t (Number amount) = number_means (bytes_chosen t) t (greatest_of t) amount
bytes_mean t (Text bytes) = inl (λ node low. refl)

-- the greatest number of a type has a place in its bytes
holds : (t : DataType) (greatest : ℕ) → greatest_of t ≡ Some greatest → greatest < 256 ^ least_width t
holds types.Boolean greatest is = let e : 1 ≡ greatest = cc in rw (← e) (omega arith)
holds types.Integer8 greatest is = let e : 2 ^ 7 - 1 ≡ greatest = cc in rw (← e) (omega arith)
holds types.Integer16 greatest is = let e : 2 ^ 15 - 1 ≡ greatest = cc in rw (← e) (omega arith)
holds types.Integer32 greatest is = let e : 2 ^ 31 - 1 ≡ greatest = cc in rw (← e) (omega arith)
holds types.Integer64 greatest is = let e : 2 ^ 63 - 1 ≡ greatest = cc in rw (← e) (omega arith)
holds types.Unsigned8 greatest is = let e : 2 ^ 8 - 1 ≡ greatest = cc in rw (← e) (omega arith)
holds types.Unsigned16 greatest is = let e : 2 ^ 16 - 1 ≡ greatest = cc in rw (← e) (omega arith)
holds types.Unsigned32 greatest is = let e : 2 ^ 32 - 1 ≡ greatest = cc in rw (← e) (omega arith)
holds types.Unsigned64 greatest is = let e : 2 ^ 64 - 1 ≡ greatest = cc in rw (← e) (omega arith)
holds types.Real32 greatest is = cc
holds types.Real64 greatest is = cc
holds types.VisibleString greatest is = cc
holds types.OctetString greatest is = cc
holds types.Domain greatest is = cc
holds types.Opaque greatest is = cc

bytes_apart : (t : DataType) (greatest p q : ℕ) → greatest_of t ≡ Some greatest → p ≤ greatest → q ≤ greatest → bytes_chosen t (Some p) ≡ bytes_chosen t (Some q) → p ≡ q
bytes_apart t greatest p q is below under same =
    let fits = holds t greatest is in
    sym (own_number (least_width t) p (omega (arith, fits))) ∙ (ap number same ∙ own_number (least_width t) q (omega (arith, fits)))

bytes_tell : (t : DataType) (o : Option ℕ) → greatest_of t ≡ o → TellsApart (bytes_chosen t) (unwrap_or o 0)
bytes_tell t None is = record { apart = λ p q below under same. omega arith; some = λ p more below same. omega arith }
bytes_tell t (Some greatest) is = record {
  apart = λ p q below under same. bytes_apart t greatest p q is below under same;
  some = λ p more below same. (let none = bytes_apart t greatest p 0 is below (omega arith) same in omega (arith, none));
}

value_agrees : (t : DataType) (entry : Option (ℕ × List ℕ)) (value : Value) (node : ℕ) → 1 ≤ node → node ≤ 127
    → initial_of t 1 entry ≡ Ok (bytes_for t 1 value) → initial_of t 127 entry ≡ Ok (bytes_for t 127 value) → initial_of t node entry ≡ Ok (bytes_for t node value)
value_agrees t entry value node low high one last =
    agree (bytes_chosen t) (top t) (λ node. initial_of t node entry) (λ node. bytes_for t node value) node
    (bytes_tell t (greatest_of t) refl) (initial_reads t entry) (bytes_mean t value) low high one last

-- ---- limits

abbrev limit_chosen : DataType → Option ℕ → Option ℤ
limit_chosen t pattern = option_map (value_of t) pattern

limit_by : (t : DataType) (entry : ℕ × List ℕ) (o : Option ℕ) → Reads (limit_chosen t) (unwrap_or o 0) (λ node. limit_number t o node entry)
limit_by t entry None = inl (λ node. refl)
limit_by t entry (Some greatest) = amount_reads (limit_chosen t) t greatest entry.0 (amount_of entry.1)

limit_reads : (t : DataType) (entry : Option (ℕ × List ℕ)) → Reads (limit_chosen t) (top t) (λ node. limit_of t node entry)
limit_reads t None = inl (λ node. refl)
limit_reads t (Some entry) = limit_by t entry (greatest_of t)

limit_means : (t : DataType) (amount : Option Amount) → Means (limit_chosen t) (top t) (λ node. limit_for t node amount)
limit_means t None = inl (λ node low. refl)
limit_means t (Some amount) = number_means (limit_chosen t) t (greatest_of t) amount

-- a number that a type has is its own pattern
stands_alone : (t : DataType) (greatest p : ℕ) → greatest_of t ≡ Some greatest → p ≤ greatest → value_of t p ≡ pos p
stands_alone t greatest p is le = stands_for t greatest 0 p (Decimal p) (pos p) is refl (within greatest p le)

limits_apart : (t : DataType) (greatest p q : ℕ) → greatest_of t ≡ Some greatest → p ≤ greatest → q ≤ greatest → limit_chosen t (Some p) ≡ limit_chosen t (Some q) → p ≡ q
limits_apart t greatest p q is below under same =
    let a = stands_alone t greatest p is below in
    let b = stands_alone t greatest q is under in
    let e : pos p ≡ pos q = cc in
    cc

limits_tell : (t : DataType) (o : Option ℕ) → greatest_of t ≡ o → TellsApart (limit_chosen t) (unwrap_or o 0)
limits_tell t None is = record { apart = λ p q below under same. omega arith; some = λ p more below same. omega arith }
limits_tell t (Some greatest) is = record {
  apart = λ p q below under same. limits_apart t greatest p q is below under same;
  some = λ p more below same. cc;
}

limit_agrees : (t : DataType) (entry : Option (ℕ × List ℕ)) (amount : Option Amount) (node : ℕ) → 1 ≤ node → node ≤ 127
    → limit_of t 1 entry ≡ Ok (limit_for t 1 amount) → limit_of t 127 entry ≡ Ok (limit_for t 127 amount) → limit_of t node entry ≡ Ok (limit_for t node amount)
limit_agrees t entry amount node low high one last =
    agree (limit_chosen t) (top t) (λ node. limit_of t node entry) (λ node. limit_for t node amount) node
    (limits_tell t (greatest_of t) refl) (limit_reads t entry) (limit_means t amount) low high one last

-- ---- entries

entry_there : (text : List ℕ) (node : ℕ) (o : Object) (t : DataType) (value : List ℕ) (low high : Option ℤ) → initial_of t node (value_entry text o.place.section) ≡ Ok value
    → limit_of t node (entry_of text o.place.section (codes "LowLimit")) ≡ Ok low → limit_of t node (entry_of text o.place.section (codes "HighLimit")) ≡ Ok high
    → entry_of_type text node o t ≡ Ok (entry_made o t value low high)
unfolding entry_of_type
entry_there text node o t value low high a b c = rw (a, b, c) refl

entry_same : (o : Object) (d : DeviceObject) (node : ℕ) → o.index ≡ d.index → o.sub ≡ d.sub → o.access ≡ d.access → o.is_mappable ≡ d.is_mappable
    → entry_made o d.data_type (bytes_for d.data_type node d.value) (limit_for d.data_type node d.low) (limit_for d.data_type node d.high) ≡ entry_for node d
entry_same o d node index sub access flag = rw (index, sub, access, flag) refl

entry_agrees : (text : List ℕ) (o : Object) (d : DeviceObject) (node : ℕ) → 1 ≤ node → node ≤ 127
    → entry_of_type text 1 o d.data_type ≡ Ok (entry_for 1 d) → entry_of_type text 127 o d.data_type ≡ Ok (entry_for 127 d) → entry_of_type text node o d.data_type ≡ Ok (entry_for node d)
entry_agrees text o d node low high one last =
    let t = d.data_type in
    let section = o.place.section in
    let p = parts_of text 1 o t (entry_for 1 d) one in
    let q = parts_of text 127 o t (entry_for 127 d) last in
    let value = value_agrees t (value_entry text section) d.value node low high
    (p.has_initial ∙ ap (λ (e : Entry). Ok e.initial) p.whole) (q.has_initial ∙ ap (λ (e : Entry). Ok e.initial) q.whole) in
    let least = limit_agrees t (entry_of text section (codes "LowLimit")) d.low node low high
    (p.has_least ∙ ap (λ (e : Entry). Ok e.description.low) p.whole) (q.has_least ∙ ap (λ (e : Entry). Ok e.description.low) q.whole) in
    let greatest = limit_agrees t (entry_of text section (codes "HighLimit")) d.high node low high
    (p.has_greatest ∙ ap (λ (e : Entry). Ok e.description.high) p.whole) (q.has_greatest ∙ ap (λ (e : Entry). Ok e.description.high) q.whole) in
    entry_there text node o t _ _ _ value least greatest
    ∙ ap Ok (entry_same o d node (ap (λ (e : Entry). e.index) p.whole) (ap (λ (e : Entry). e.sub) p.whole)
    (ap (λ (e : Entry). e.description.access) p.whole) (ap (λ (e : Entry). e.description.is_mappable) p.whole))

built_agrees : (text : List ℕ) (o : Object) (d : DeviceObject) (node : ℕ) → 1 ≤ node → node ≤ 127
    → entry_built text 1 o ≡ Ok (entry_for 1 d) → entry_built text 127 o ≡ Ok (entry_for 127 d) → entry_built text node o ≡ Ok (entry_for node d)
built_agrees text o d node low high one last =
    let p = parts_of text 1 o (type_numbered o.data_type) (entry_for 1 d) one in
    let type : type_numbered o.data_type ≡ d.data_type = ap (λ (e : Entry). e.description.data_type) p.whole in
    subst (λ t. entry_of_type text node o t ≡ Ok (entry_for node d)) (sym type)
    (entry_agrees text o d node low high (subst (λ t. entry_of_type text 1 o t ≡ Ok (entry_for 1 d)) type one) (subst (λ t. entry_of_type text 127 o t ≡ Ok (entry_for 127 d)) type last))

-- ---- dictionaries

-- the head and the tail of what is collected
both_of : (text : List ℕ) (node : ℕ) (o : Object) (os : List Object) (e : Entry) (es : List Entry) → collected (entry_built text node) (o ∷ os) ≡ Ok (e ∷ es)
    → (entry_built text node o ≡ Ok e) × (collected (entry_built text node) os ≡ Ok es)
unfolding collected
both_of text node o os e es h =
    let a = bind_ok (entry_built text node o) (λ y. collected (entry_built text node) os >>= λ ys. Ok (y ∷ ys)) (e ∷ es) h in
    let b = bind_ok (collected (entry_built text node) os) (λ ys. Ok (a.0 ∷ ys)) (e ∷ es) a.2 in
    let same = ok_same (a.0 ∷ b.0) (e ∷ es) b.2 in
    let head : a.0 ≡ e = cc in
    let tail : b.0 ≡ es = cc in
    (a.1 ∙ ap Ok head, b.1 ∙ ap Ok tail)

some_collected : (text : List ℕ) (node : ℕ) (o : Object) (os : List Object) → collected (entry_built text node) (o ∷ os) ≡ Ok [] → ⊥
unfolding collected
some_collected text node o os h =
    let a = bind_ok (entry_built text node o) (λ y. collected (entry_built text node) os >>= λ ys. Ok (y ∷ ys)) [] h in
    let b = bind_ok (collected (entry_built text node) os) (λ ys. Ok (a.0 ∷ ys)) [] a.2 in
    let same = ok_same (a.0 ∷ b.0) [] b.2 in
    cc

collected_again : (text : List ℕ) (node : ℕ) (o : Object) (os : List Object) (e : Entry) (es : List Entry) → entry_built text node o ≡ Ok e → collected (entry_built text node) os ≡ Ok es
    → collected (entry_built text node) (o ∷ os) ≡ Ok (e ∷ es)
unfolding collected
collected_again text node o os e es a b = rw (a, b) refl

none_collected : (text : List ℕ) (node : ℕ) (es : List Entry) → collected (entry_built text node) [] ≡ Ok es → es ≡ []
unfolding collected
none_collected text node es h = sym (ok_same [] es h)

nothing_collected : (text : List ℕ) (node : ℕ) → collected (entry_built text node) [] ≡ Ok []
unfolding collected
nothing_collected text node = refl

collected_between : (text : List ℕ) (node : ℕ) (objects : List Object) (ds : List DeviceObject) → 1 ≤ node → node ≤ 127
    → collected (entry_built text 1) objects ≡ Ok (map (entry_for 1) ds) → collected (entry_built text 127) objects ≡ Ok (map (entry_for 127) ds)
    → collected (entry_built text node) objects ≡ Ok (map (entry_for node) ds)
collected_between text node [] [] low high one last = nothing_collected text node
collected_between text node [] (d ∷ ds) low high one last = let none = none_collected text 1 (map (entry_for 1) (d ∷ ds)) one in cc
collected_between text node (o ∷ os) [] low high one last = absurd (some_collected text 1 o os one)
collected_between text node (o ∷ os) (d ∷ ds) low high one last =
    let p = both_of text 1 o os (entry_for 1 d) (map (entry_for 1) ds) one in
    let q = both_of text 127 o os (entry_for 127 d) (map (entry_for 127) ds) last in
    collected_again text node o os (entry_for node d) (map (entry_for node) ds) (built_agrees text o d node low high p.0 q.0) (collected_between text node os ds low high p.1 q.1)

-- where the dictionaries of a device are built for the first node and for the last one, its dictionary is built for each
pub built_between : (text : List ℕ) (device : Meaning) (node : ℕ) → 1 ≤ node → node ≤ 127
    → built text 1 ≡ Ok (dictionary_for 1 device) → built text 127 ≡ Ok (dictionary_for 127 device) → built text node ≡ Ok (dictionary_for node device)
unfolding dictionary_for
built_between text device node low high one last = collected_between text node (objects_of text) device.objects low high one last
