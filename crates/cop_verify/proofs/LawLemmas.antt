-- What holds of all verifications.
use Rattle.std.proofs.Common.{◌≡◌, ◌⊎◌, ℕ, List, [], ◌∷◌, ◌++◌, Bool, true, false, Option, Some, None, refl, sym, ap, subst, inl, inr}
use Rattle.std.specs.Prelude.{◌&&◌, ◌||◌, not, find, slice_index, ◌==◌, nat_le, length, option_map, option_to_list, if◌then◌else◌}
use Rattle.std.specs.List.{AllByRecursion, list_any, flat_map}
use Rattle.std.proofs.lemmas.Bool.{eq-eqb, false≢true}
use Rattle.cop_dict.specs.Find.{Entry}
use Rattle.cop_sdo.specs.declared.address.Address.{Address}
use Rattle.cop_net.specs.Network.{Net}
use Rattle.cop_setup.specs.declared.setting.Setting.{Setting}
use Rattle.cop_dcf.specs.Settings.{node_settings, dictionary_of}
use Rattle.cop_identity.specs.declared.questions.Demand.{Demand}
use Rattle.cop_identity.specs.declared.questions.Demand.TheVariants.{Tell, TellOff}
use Rattle.cop_identity.specs.declared.questions.Question.{Question}
use Rattle.cop_identity.specs.declared.questions.Answer.TheVariants as answers
use Rattle.cop_identity.specs.declared.asking.Outcome.{Outcome}
use Rattle.cop_identity.specs.declared.asking.Outcome.TheVariants as outcomes
use Rattle.cop_identity.specs.declared.asking.Exchange.{Exchange}
use Rattle.cop_identity.specs.Questions.{number_of, body_by}
use Rattle.cop_readback.specs.Reading.{is_wanted}
use Rattle.cop_boot_answer.specs.declared.states.State.{State}
use Rattle.cop_boot_answer.specs.declared.states.State.TheVariants as states
use Rattle.cop_commission.specs.Identities.{identity_at, question_at, questions_at, device_type, vendor, product}
use Rattle.cop_commission.specs.Relied.{question_to, relied_on, relied_questions, is_used_type, is_used_mapping, is_off_alone}
use Rattle.cop_commission.specs.Readings.{is_set_again}
use Rattle.cop_commission.specs.Told.{question_about, switches_off}
use Rattle.cop_verify.specs.Checks.{checks_about, node_checks, checks_of}
use Rattle.cop_verify.specs.Laws.{IsReadOf, IsRightAt}
use Rattle.cop_verify.specs.Telling.{is_identity, outcome_shows, is_to, is_wrong_at, state_by, state_of, is_as_planned}

-- ---- each question reads

-- a question to a node that has a value told
abbrev pub Reads : ℕ → Question → Type 0
Reads node q = (q.node ≡ node) × ((q.demand ≡ Tell) ⊎ (q.demand ≡ TellOff))

all_append : {A : Type 0} (Q : A → Type 0) (xs ys : List A) → AllByRecursion Q xs → AllByRecursion Q ys → AllByRecursion Q (xs ++ ys)
all_append Q [] ys h k = k
all_append Q (x ∷ xs) ys h k = (h.0, all_append Q xs ys h.1 k)

all_map : {A : Type 0} (Q R : A → Type 0) → ((x : A) → Q x → R x) → (xs : List A) → AllByRecursion Q xs → AllByRecursion R xs
all_map Q R so [] h = tt
all_map Q R so (x ∷ xs) h = (so x h.0, all_map Q R so xs h.1)

identity_reads : (node : ℕ) (dict : List Entry) (at : Address) → AllByRecursion (Reads node) (option_to_list (question_at node dict at))
identity_reads node dict at = by_wanted (identity_at dict at)
  where
    by_wanted : (o : Option ℕ) → AllByRecursion (Reads node) (option_to_list (option_map (λ wanted. record { node = node; demand = Tell; at = at; wanted = wanted }) o))
    by_wanted None = tt
    by_wanted (Some w) = ((refl, inl refl), tt)

identities_read : (node : ℕ) (dict : List Entry) → AllByRecursion (Reads node) (questions_at node dict)
identities_read node dict =
    all_append (Reads node) (option_to_list (question_at node dict device_type)) (option_to_list (question_at node dict vendor) ++ option_to_list (question_at node dict product)) (identity_reads node dict device_type)
    (all_append (Reads node) (option_to_list (question_at node dict vendor)) (option_to_list (question_at node dict product)) (identity_reads node dict vendor) (identity_reads node dict product))

asked_reads : (node : ℕ) (demand : Demand) (entry : Entry) → (demand ≡ Tell) ⊎ (demand ≡ TellOff) → AllByRecursion (Reads node) (option_to_list (question_to node demand entry))
asked_reads node demand entry d = by_length (nat_le (length entry.value) 4)
  where
    by_length : (b : Bool) → AllByRecursion (Reads node) (option_to_list (if b then Some (record { node = node; demand = demand; at = record { index = entry.index; sub = entry.sub }; wanted = number_of entry.value }) else None))
    by_length true = ((refl, d), tt)
    by_length false = tt

relied_reads : (node : ℕ) (dict : List Entry) (settings : List Setting) (entry : Entry) → AllByRecursion (Reads node) (option_to_list (relied_on node dict settings entry))
relied_reads node dict settings entry = by_tests (is_used_type settings entry) (is_used_mapping dict settings entry) (is_off_alone settings entry)
  where
    by_tests : (a b c : Bool) → AllByRecursion (Reads node) (option_to_list (if a then question_to node Tell entry else (if b then question_to node Tell entry else (if c then question_to node TellOff entry else None))))
    by_tests true b c = asked_reads node Tell entry (inl refl)
    by_tests false true c = asked_reads node Tell entry (inl refl)
    by_tests false false true = asked_reads node TellOff entry (inr refl)
    by_tests false false false = tt

all_relied : (node : ℕ) (dict : List Entry) (settings : List Setting) (entries : List Entry) → AllByRecursion (Reads node) (flat_map (λ entry. option_to_list (relied_on node dict settings entry)) entries)
all_relied node dict settings [] = tt
all_relied node dict settings (e ∷ es) = all_append (Reads node) (option_to_list (relied_on node dict settings e)) _ (relied_reads node dict settings e) (all_relied node dict settings es)

all_checks : (node : ℕ) (settings : List Setting) → AllByRecursion (Reads node) (checks_about node settings)
all_checks node [] = tt
all_checks node (s ∷ rest) = by_tests (is_set_again s rest) (switches_off s) (all_checks node rest)
  where
    by_tests : (a b : Bool) → AllByRecursion (Reads node) (checks_about node rest)
        → AllByRecursion (Reads node) (if a then checks_about node rest else (record (question_about node s) { demand = if b then TellOff else Tell }) ∷ checks_about node rest)
    by_tests true b more = more
    by_tests false true more = ((refl, inr refl), more)
    by_tests false false more = ((refl, inl refl), more)

node_reads : (node : ℕ) (dict : Option (List Entry)) (settings : List Setting) → AllByRecursion (Reads node) (node_checks node dict settings)
node_reads node None settings = all_checks node settings
node_reads node (Some dict) settings =
    all_append (Reads node) (questions_at node dict ++ relied_questions node dict settings) (checks_about node settings)
    (all_append (Reads node) (questions_at node dict) (relied_questions node dict settings) (identities_read node dict) (all_relied node dict settings dict)) (all_checks node settings)

-- and to a node that is meant
abbrev pub IsAmong : List ℕ → ℕ → Type 0
IsAmong all n = list_any (λ node. node == n) all ≡ true

one_more : (x n : ℕ) (xs : List ℕ) → IsAmong xs n → IsAmong (x ∷ xs) n
one_more x n xs h = by_test (x == n)
  where
    by_test : (b : Bool) → b || list_any (λ node. node == n) xs ≡ true
    by_test true = refl
    by_test false = h

itself : (x : ℕ) (xs : List ℕ) → IsAmong (x ∷ xs) x
itself x xs = ap (λ b. b || list_any (λ node. node == x) xs) (eq-eqb x x refl)

each_among : (all : List ℕ) → AllByRecursion (IsAmong all) all
each_among [] = tt
each_among (x ∷ xs) = (itself x xs, all_map (IsAmong xs) (IsAmong (x ∷ xs)) (λ n h. one_more x n xs h) xs (each_among xs))

reads_so : (all : List ℕ) (n : ℕ) (q : Question) → IsAmong all n → Reads n q → IsReadOf all q
reads_so all n q among h = record {
  meant = subst (IsAmong all) (sym h.0) among;
  to_it = refl;
  reads = elim h.1 [ inl e ↦ ap (λ (d : Demand). slice_index (body_by d q.at q.wanted) 0) e | inr e ↦ ap (λ (d : Demand). slice_index (body_by d q.at q.wanted) 0) e ];
  whole = refl;
}

some_read : (net : Net) (ids all nodes : List ℕ) → AllByRecursion (IsAmong all) nodes → AllByRecursion (IsReadOf all) (checks_of net ids nodes)
some_read net ids all [] h = tt
some_read net ids all (n ∷ ns) h =
    all_append (IsReadOf all) (node_checks n (dictionary_of net n) (node_settings net ids n)) (checks_of net ids ns)
    (all_map (Reads n) (IsReadOf all) (λ q r. reads_so all n q h.0 r) (node_checks n (dictionary_of net n) (node_settings net ids n)) (node_reads n (dictionary_of net n) (node_settings net ids n)))
    (some_read net ids all ns h.1)

pub all_read : (net : Net) (ids nodes : List ℕ) → AllByRecursion (IsReadOf nodes) (checks_of net ids nodes)
all_read net ids nodes = some_read net ids nodes nodes (each_among nodes)

-- ---- a node that is as planned

-- only the wanted answer shows that
shown_wanted : (at : Address) (o : Outcome) → is_as_planned (outcome_shows at o) ≡ true → is_wanted o ≡ true
shown_wanted at (outcomes.Answered answers.Wanted) e = refl
shown_wanted at (outcomes.Answered (answers.Other found)) e = by_identity (is_identity at) e
  where
    by_identity : (b : Bool) → is_as_planned (if b then states.Other at found else states.Differs at found) ≡ true → is_wanted (outcomes.Answered (answers.Other found)) ≡ true
    by_identity true e = e
    by_identity false e = e
shown_wanted at (outcomes.Answered (answers.Aborted code)) e = e
shown_wanted at outcomes.Silent e = e
shown_wanted at outcomes.Unasked e = e

-- a question that was not answered otherwise
right_of : (node : ℕ) (x : Exchange) → is_wrong_at node x ≡ false → IsRightAt node x
right_of node x e to_it = by_test (is_wanted x.outcome) (subst (λ b. b && not (is_wanted x.outcome) ≡ false) (eq-eqb x.question.node node to_it) e)
  where
    by_test : (b : Bool) → true && not b ≡ false → b ≡ true
    by_test true h = refl
    by_test false h = sym h

-- one that was answered as it should be is not wrong
not_wrong : (node : ℕ) (x : Exchange) → is_wrong_at node x ≡ true → is_wanted x.outcome ≡ true → ⊥
not_wrong node x e w = by_test (is_to node x) (subst (λ b. is_to node x && not b ≡ true) w e)
  where
    by_test : (b : Bool) → b && not true ≡ true → ⊥
    by_test true h = false≢true h
    by_test false h = false≢true h

right_by : (node : ℕ) (all : List Exchange) (o : State) → is_as_planned (state_by (find (is_wrong_at node) all) o) ≡ true → AllByRecursion (IsRightAt node) all
right_by node [] o e = tt
right_by node (x ∷ xs) o e = by_test (is_wrong_at node x) refl e (λ h. right_by node xs o h)
  where
    by_test : (b : Bool) → is_wrong_at node x ≡ b → is_as_planned (state_by (if b then Some x else find (is_wrong_at node) xs) o) ≡ true
        → (is_as_planned (state_by (find (is_wrong_at node) xs) o) ≡ true → AllByRecursion (IsRightAt node) xs) → AllByRecursion (IsRightAt node) (x ∷ xs)
    by_test true eb h more = absurd (not_wrong node x eb (shown_wanted x.question.at x.outcome h))
    by_test false eb h more = (right_of node x eb, more h)

pub planned_right : (node : ℕ) (all : List Exchange) → state_of node all ≡ states.AsPlanned → AllByRecursion (IsRightAt node) all
planned_right node all e = right_by node all _ (ap is_as_planned e)
