-- Tables and EDS files have one network, one plan, and with a refusal file one check.
use Rattle.std.proofs.Common.{◌≡◌, ◌≢◌, ℕ, ◌<◌, Bool, true, false, List, [], ◌∷◌, length, map, get_or, slice_get, AllPairs, IfOk, Some, Ok, Result, refl, sym, ap, ◌∙◌, subst, arith}
use Rattle.std.proofs.lemmas.List.{ext_get_or, get_or-map, length-map}
use Rattle.std.proofs.lemmas.Option.{slice_get-get_or}
use Rattle.cop_frame.specs.declared.rates.Rate.{Rate}
use Rattle.cop_rta.specs.declared.streams.Stream.{Stream}
use Rattle.cop_rta.specs.declared.verdicts.Verdict.{Verdict}
use Rattle.cop_rta.specs.Entries.{Entry, entry_of}
use Rattle.cop_rta.specs.Streams.{AreDistinct}
use Rattle.cop_rta.proofs.StreamLemmas.{streams_same}
use Rattle.cop_cert.specs.declared.refusals.Refusal.{Refusal}
use Rattle.cop_rows.specs.declared.pdo_table.PdoRow.{PdoRow}
use Rattle.cop_rows.specs.Nodes.{NodeLists}
use Rattle.cop_rows.specs.NodeReading.{nodes_of}
use Rattle.cop_rows.specs.PdoReading.{pdos_of}
use Rattle.cop_net.specs.declared.faults.Refusal as broken
use Rattle.cop_net.specs.declared.faults.Table.TheVariants.{Nodes, Pdos}
use Rattle.cop_net.specs.Devices.{File, Equipment}
use Rattle.cop_net.specs.Tables.{in_table}
use Rattle.cop_net.specs.Sets.{AreOneSet}
use Rattle.cop_net.specs.Network.{Net, Accepted, IsNetwork, accepted, network_of}
use Rattle.cop_net.proofs.NetworkLemmas.{accepted_one_set}
use Rattle.cop_plan.specs.Orders.{HasPdos}
use Rattle.cop_plan.specs.Plans.{IsOutcome, IsChosenBy}
use Rattle.cop_plan.specs.declared.assigning.Outcome.{Outcome}
use Rattle.cop_plan.specs.declared.assigning.Outcome.TheVariants.{Planned, Refused}
use Rattle.cop_plan.specs.declared.choices.Choice.{Choice}
use Rattle.cop_plan.specs.declared.choices.Asked.{Asked}
use Rattle.cop_engine.specs.declared.plans.Files.{Files}
use Rattle.cop_engine.specs.Reports.{lines_below}
use Rattle.cop_engine.specs.Networks.{IsNetworkIn, IsPlannedNetwork}
use Rattle.cop_engine.specs.PlanTexts.{plan_text}
use Rattle.cop_engine.specs.Plans.{ArePlanVerdicts, AreFilesFor, AreFilesOf}
use Rattle.cop_engine.specs.Checks.{AreChecked, IsCheckOf, check_line_at}
use Rattle.cop_engine.proofs.LawLemmas.{all_same, all_verdicts_same}

abbrev pub SameFiles : Files → Files → Type 0
SameFiles a b = (a.planned ≡ b.planned) × (a.plan.items ≡ b.plan.items) × (a.refusals.items ≡ b.refusals.items) × (a.dcf ≡ b.dcf)

-- identifiers of entries are those of streams
distinct_entries : (streams : List Stream) → AllPairs (λ e f. e.id ≢ f.id) (map entry_of streams) → AreDistinct streams
distinct_entries streams apart i j d lt inside same =
    apart i j (entry_of d) lt (omega (arith, inside, length-map streams entry_of))
    (ap (λ (e : Entry). e.id) (get_or-map entry_of streams i d (entry_of d) (omega (arith, lt, inside))) ∙ same ∙ sym (ap (λ (e : Entry). e.id) (get_or-map entry_of streams j d (entry_of d) inside)))

-- no two streams of a network have one identifier
network_distinct : (n : Net) → IsNetwork n → AreDistinct n.set
network_distinct n is =
    let one : AreOneSet (map entry_of n.set) = subst (λ (r : Result Accepted broken.Refusal). IfOk r (λ made. AreOneSet made.streams)) is.made (accepted_one_set is.wanted n.nodes n.rows is.files is.nodes is.rows) in
    distinct_entries n.set one.apart

pub has_pdos : (n : Net) → IsNetwork n → HasPdos n.set (length n.rows)
has_pdos n is = record { count = is.streams.count; distinct = network_distinct n is; outside_first = is.streams.outside; outside_second = is.streams.outside_second }

-- what is answered at all is one thing
pub ok_once : {A E : Type 0} (r : Result A E) (a b : A) → r ≡ Ok a → r ≡ Ok b → a ≡ b
ok_once {A} {E} r a b x y =
    let both : ◌≡◌ {A = Result A E} (Ok a) (Ok b) = sym x ∙ y in
    cc

-- ---- the network

abbrev net_with : NodeLists → List PdoRow → Equipment → List Stream → Net
net_with nodes rows equipment streams = record { nodes = nodes; rows = rows; equipment = equipment; set = streams }

net_same : (a b : Net) → a.nodes ≡ b.nodes → a.rows ≡ b.rows → a.equipment ≡ b.equipment → a.set ≡ b.set → a ≡ b
net_same a b nodes rows equipment set =
    ap (λ (x : NodeLists). net_with x a.rows a.equipment a.set) nodes ∙ ap (λ (x : List PdoRow). net_with b.nodes x a.equipment a.set) rows
    ∙ ap (λ (x : Equipment). net_with b.nodes b.rows x a.set) equipment ∙ ap (net_with b.nodes b.rows b.equipment) set

pub network_once : (wanted : List Rate) (nodes pdos : List ℕ) (eds : List File) (a b : Net) → IsNetworkIn wanted nodes pdos eds a → IsNetworkIn wanted nodes pdos eds b → a ≡ b
network_once wanted nodes pdos eds a b x y =
    let tables : a.nodes ≡ b.nodes = ok_once (in_table Nodes (nodes_of nodes)) a.nodes b.nodes x.node_table y.node_table in
    let rows : a.rows ≡ b.rows = ok_once (in_table Pdos (pdos_of pdos)) a.rows b.rows x.pdo_table y.pdo_table in
    let mine : network_of wanted b.nodes b.rows eds ≡ Ok (accepted a) = rw (tables, rows) at x.made in
    let same : accepted a ≡ accepted b = ok_once (network_of wanted b.nodes b.rows eds) (accepted a) (accepted b) mine y.made in
    net_same a b tables rows (ap (λ (m : Accepted). m.equipment) same) (streams_same a.set b.set (ap (λ (m : Accepted). m.streams) same))

-- ---- its plan

-- some streams and candidate rates have one outcome
abbrev pub OneOutcome : Type 0
OneOutcome = (rates : List Rate) (streams : List Stream) (pdos : ℕ) (choice : Choice) (a b : Outcome) → HasPdos streams pdos → IsOutcome rates streams pdos a → IsOutcome rates streams pdos b
    → IsChosenBy choice a → IsChosenBy choice b → a ≡ b

text_same : (rows : List PdoRow) (outcome : Outcome) (vs ws : List Verdict) → ArePlanVerdicts outcome vs (length rows) → ArePlanVerdicts outcome ws (length rows) → plan_text rows vs outcome ≡ plan_text rows ws outcome
text_same rows (Planned plan) vs ws x y = rw (all_verdicts_same plan.rate plan.streams vs ws (length rows) x y) refl
text_same rows (Refused refusals) vs ws x y = refl

files_same : (eds : List File) (net : Net) (outcome : Outcome) (a b : Files) → AreFilesFor eds net outcome a → AreFilesFor eds net outcome b → SameFiles a b
files_same eds net outcome a b x y = (
  x.is_plan ∙ sym y.is_plan,
  x.plan ∙ text_same net.rows outcome x.verdicts y.verdicts x.judged y.judged ∙ sym y.plan,
  x.refusals ∙ sym y.refusals,
  x.dcf ∙ sym y.dcf,
)

module _ (one : OneOutcome) (asked : Asked) (nodes pdos : List ℕ) (eds : List File) where
  pub outcome_once : (a b : Outcome) → IsPlannedNetwork asked nodes pdos eds a → IsPlannedNetwork asked nodes pdos eds b → a ≡ b
  outcome_once a b x y =
      let net : x.net ≡ y.net = network_once asked.rates nodes pdos eds x.net y.net x.said y.said in
      let mine : IsOutcome y.net.equipment.rates y.net.set (length y.net.rows) a = subst (λ (n : Net). IsOutcome n.equipment.rates n.set (length n.rows) a) net x.planned in
      one y.net.equipment.rates y.net.set (length y.net.rows) asked.choice a b (has_pdos y.net y.said.network) mine y.planned x.chosen y.chosen

  pub one_plan : (a b : Files) → AreFilesOf asked nodes pdos eds a → AreFilesOf asked nodes pdos eds b → SameFiles a b
  one_plan a b x y =
      let net : x.network.net ≡ y.network.net = network_once asked.rates nodes pdos eds x.network.net y.network.net x.network.said y.network.said in
      let there : AreFilesFor eds y.network.net x.outcome a = subst (λ (n : Net). AreFilesFor eds n x.outcome a) net x.written in
      let mine : AreFilesFor eds y.network.net y.outcome a = subst (λ (o : Outcome). AreFilesFor eds y.network.net o a) (outcome_once x.outcome y.outcome x.network y.network) there in
      files_same eds y.network.net y.outcome a b mine y.written

-- ---- checks

bool_same : (a b : Bool) → (a ≡ true → b ≡ true) → (b ≡ true → a ≡ true) → a ≡ b
bool_same true true there back = refl
bool_same true false there back = sym (there refl)
bool_same false true there back = back refl
bool_same false false there back = refl

answers_same : (streams : List Stream) (pdos : ℕ) (refusals : List Refusal) (xs ys : List Bool) → AreChecked streams pdos refusals xs (length refusals) → AreChecked streams pdos refusals ys (length refusals) → xs ≡ ys
answers_same streams pdos [] xs ys x y = ext_get_or false xs ys (x.length_is ∙ sym y.length_is) (λ k low. absurd (omega (arith, low, x.length_is)))
answers_same streams pdos (r ∷ rs) xs ys x y =
    ext_get_or false xs ys (x.length_is ∙ sym y.length_is)
    (λ k low.
    let inside : k < length (r ∷ rs) = omega (arith, low, x.length_is) in
    let here : slice_get (r ∷ rs) k ≡ Some (get_or (r ∷ rs) k r) = slice_get-get_or (r ∷ rs) k r inside in
    let mine = x.each k inside (get_or (r ∷ rs) k r) here in
    let other = y.each k inside (get_or (r ∷ rs) k r) here in
    bool_same (get_or xs k false) (get_or ys k false) (λ h. other.1 (mine.0 h)) (λ h. mine.1 (other.0 h)))

pub one_check : (wanted : List Rate) (nodes pdos : List ℕ) (eds : List File) (text lines others : List ℕ) (all each : Bool) → IsCheckOf wanted nodes pdos eds text lines all → IsCheckOf wanted nodes pdos eds text others each → (lines ≡ others) × (all ≡ each)
one_check wanted nodes pdos eds text lines others all each x y =
    let net : x.net ≡ y.net = network_once wanted nodes pdos eds x.net y.net x.said y.said in
    let refusals : x.refusals ≡ y.refusals = ok_once _ x.refusals y.refusals x.refusals_are y.refusals_are in
    let there : AreChecked y.net.set (length y.net.rows) x.refusals x.answered.answers (length x.refusals) =
    subst (λ (n : Net). AreChecked n.set (length n.rows) x.refusals x.answered.answers (length x.refusals)) net x.answered.checked in
    let mine : AreChecked y.net.set (length y.net.rows) y.refusals x.answered.answers (length y.refusals) =
    subst (λ (rs : List Refusal). AreChecked y.net.set (length y.net.rows) rs x.answered.answers (length rs)) refusals there in
    let answers : x.answered.answers ≡ y.answered.answers = answers_same y.net.set (length y.net.rows) y.refusals x.answered.answers y.answered.answers mine y.answered.checked in
    let text : lines_below (check_line_at x.refusals x.answered.answers) (length x.refusals) ≡ lines_below (check_line_at y.refusals y.answered.answers) (length y.refusals) = rw (refusals, answers) refl in
    (x.answered.lines_are ∙ text ∙ sym y.answered.lines_are, all_same (λ answer. answer ≡ true) x.answered.answers y.answered.answers all each answers x.answered.all_hold y.answered.all_hold)
