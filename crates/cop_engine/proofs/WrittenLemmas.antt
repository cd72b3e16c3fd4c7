-- What `plan` writes of refusals is what `check` reads, and all of them hold.
use Rattle.std.proofs.Common.{◌≡◌, ℕ, ◌+◌, ◌<◌, ◌≤◌, Bool, true, false, List, [], ◌∷◌, length, get_or, slice_get, All, Some, Ok, Err, Result, refl, sym, subst, arith, length-append}
use Rattle.std.proofs.lemmas.Option.{slice_get-get_or}
use Rattle.cop_frame.specs.declared.rates.Rate.{Rate}
use Rattle.cop_rta.specs.declared.streams.Stream.{Stream}
use Rattle.cop_table.specs.Rows.{rows_from}
use Rattle.cop_cert.specs.declared.refusals.Refusal.{Refusal}
use Rattle.cop_cert.specs.Writable.{AreWritable}
use Rattle.cop_cert.specs.Reading as cert
use Rattle.cop_cert.specs.Causes.{IsRefusal}
use Rattle.cop_cert.specs.Short.{filed}
use Rattle.cop_cert.proofs.FileLemmas.{file_read, filed_hold}
use Rattle.cop_rows.specs.declared.pdo_table.PdoRow.{PdoRow}
use Rattle.cop_rows.specs.declared.refusals.Refusal as rows
use Rattle.cop_rows.specs.declared.refusals.Rule.{Rule}
use Rattle.cop_rows.specs.Refusals.{placed}
use Rattle.cop_rows.specs.PdoReading.{pushed, pdo_in, added, rows_in, pdos_of}
use Rattle.cop_net.specs.declared.faults.Table.{Table}
use Rattle.cop_net.specs.declared.faults.Table.TheVariants.{Pdos}
use Rattle.cop_net.specs.Devices.{File}
use Rattle.cop_net.specs.Tables.{in_table}
use Rattle.cop_net.specs.Network.{Net, accepted}
use Rattle.cop_rows.proofs.RangeLemmas.{bind_ok}
use Rattle.cop_plan.specs.Plans.{IsOutcome, IsGreatestRefusal}
use Rattle.cop_plan.specs.declared.assigning.Outcome.{Outcome}
use Rattle.cop_plan.specs.declared.assigning.Outcome.TheVariants.{Planned, Refused}
use Rattle.cop_plan.proofs.WritableLemmas.{refusals_writable}
use Rattle.cop_engine.specs.declared.faults.Fault.{Fault}
use Rattle.cop_engine.specs.declared.faults.Fault.TheVariants as faults
use Rattle.cop_plan.specs.declared.choices.Asked.{Asked}
use Rattle.cop_engine.specs.declared.plans.Files.{Files}
use Rattle.cop_engine.specs.PlanTexts.{refusals_of}
use Rattle.cop_engine.specs.Plans.{AreFilesOf}
use Rattle.cop_engine.specs.Checks.{AreChecked, IsCheckOf, ExplainsCheck}
use Rattle.cop_engine.proofs.NetworkLemmas.{network_read}
use Rattle.cop_engine.proofs.OnePlan.{ok_once, network_once}

-- ---- a table has at most 512 PDOs

was_placed : {A : Type 0} (place : ℕ) (r : Result A Rule) (x : A) → placed place r ≡ Ok x → r ≡ Ok x
was_placed place (Ok a) x h = let same : a ≡ x = cc in rw same refl
was_placed place (Err rule) x h = absurd (cc)

was_in_table : {A : Type 0} (table : Table) (r : Result A rows.Refusal) (x : A) → in_table table r ≡ Ok x → r ≡ Ok x
was_in_table table (Ok a) x h = let same : a ≡ x = cc in rw same refl
was_in_table table (Err e) x h = absurd (cc)

pushed_few : (found more : List PdoRow) (row : PdoRow) → length found ≤ 512 → pushed found row ≡ Ok more → length more ≤ 512
pushed_few found more row few h = grind (arith, length-append)

from_few : (place : ℕ) (found more : List PdoRow) (texts : List (List (List ℕ))) → length found ≤ 512 → rows_from added place found texts ≡ Ok more → length more ≤ 512
unfolding rows_from
from_few place found more [] few h = let same : found ≡ more = cc in subst (λ (rows : List PdoRow). length rows ≤ 512) same few
from_few place found more (text ∷ texts) few h =
    let p = bind_ok (added place found text) _ more h in
    let q = bind_ok (pdo_in text) (pushed found) p.0 (was_placed place _ p.0 p.1) in
    from_few (place + 1) p.0 more texts (pushed_few found p.0 q.0 few q.2) p.2

table_few : (text : List ℕ) (found : List PdoRow) → pdos_of text ≡ Ok found → length found ≤ 512
unfolding pdos_of
table_few text found h =
    let p = bind_ok (rows_in text) _ found h in
    from_few 1 [] found p.0 (omega arith) p.2

-- ---- the refusals of an outcome

outcome_writable : (rates : List Rate) (streams : List Stream) (pdos : ℕ) (o : Outcome) → pdos ≤ length streams → pdos ≤ 512 → IsOutcome rates streams pdos o → AreWritable (refusals_of o)
outcome_writable rates streams pdos (Planned plan) count few h = refusals_writable streams pdos _ plan.refusals count few h.refused
outcome_writable rates streams pdos (Refused refusals) count few h = refusals_writable streams pdos _ refusals count few h.refused

outcome_holds : (rates : List Rate) (streams : List Stream) (pdos : ℕ) (o : Outcome) → IsOutcome rates streams pdos o → All (IsGreatestRefusal streams pdos) (refusals_of o)
outcome_holds rates streams pdos (Planned plan) h = h.refused.each
outcome_holds rates streams pdos (Refused refusals) h = h.refused.each

-- those of its file hold
filed_holds : (rates : List Rate) (streams : List Stream) (pdos : ℕ) (o : Outcome) → IsOutcome rates streams pdos o → All (IsRefusal streams pdos) (filed streams pdos (refusals_of o))
filed_holds rates streams pdos o h = filed_hold streams pdos (refusals_of o) (λ k d below. (outcome_holds rates streams pdos o h k d below).holds)

all_answered : (streams : List Stream) (pdos : ℕ) (refusals : List Refusal) (answers : List Bool) → AreChecked streams pdos refusals answers (length refusals)
    → All (IsRefusal streams pdos) refusals → All (λ answer. answer ≡ true) answers
all_answered streams pdos [] answers checked all = λ k d below. absurd (omega (arith, below, checked.length_is))
all_answered streams pdos (r ∷ rs) answers checked all = λ k d below.
    let inside : k < length (r ∷ rs) = omega (arith, below, checked.length_is) in
    let here : slice_get (r ∷ rs) k ≡ Some (get_or (r ∷ rs) k r) = slice_get-get_or (r ∷ rs) k r inside in
    let its : get_or answers k false ≡ true = (checked.each k inside (get_or (r ∷ rs) k r) here).1 (all k r inside) in
    any_default answers k d below its
  where
    any_default : (answers : List Bool) (k : ℕ) (d : Bool) → k < length answers → get_or answers k false ≡ true → get_or answers k d ≡ true
    any_default answers k d below h = grind (arith, h, below, slice_get-get_or answers k d below, slice_get-get_or answers k false below)

module _ (asked : Asked) (nodes pdos : List ℕ) (eds : List File) (files : Files) (f : AreFilesOf asked nodes pdos eds files) where
  abbrev net : Net
  net = f.network.net

  few_rows : length net.rows ≤ 512
  few_rows = table_few pdos net.rows (was_in_table Pdos (pdos_of pdos) net.rows f.network.said.pdo_table)

  abbrev written : List Refusal
  written = filed net.set (length net.rows) (refusals_of f.outcome)

  -- the refusal file is read as the refusals of the outcome, in the form that the file has
  pub read_again : cert.refusals_of files.refusals.items ≡ Ok written
  read_again =
      subst (λ (text : List ℕ). cert.refusals_of text ≡ Ok written) (sym f.written.refusals)
      (file_read net.set (length net.rows) (refusals_of f.outcome) (outcome_writable net.equipment.rates net.set (length net.rows) f.outcome f.network.said.network.streams.count few_rows f.network.planned))

  pub all_hold : (lines : List ℕ) (all : Bool) → IsCheckOf asked.rates nodes pdos eds files.refusals.items lines all → all ≡ true
  all_hold lines all c =
      let same : net ≡ c.net = network_once asked.rates nodes pdos eds net c.net f.network.said c.said in
      let refusals : written ≡ c.refusals = ok_once (cert.refusals_of files.refusals.items) _ c.refusals read_again c.refusals_are in
      let hold : All (IsRefusal net.set (length net.rows)) written = filed_holds net.equipment.rates net.set (length net.rows) f.outcome f.network.planned in
      let there : All (IsRefusal c.net.set (length c.net.rows)) written = subst (λ (n : Net). All (IsRefusal n.set (length n.rows)) written) same hold in
      let mine : All (IsRefusal c.net.set (length c.net.rows)) c.refusals = subst (λ (rs : List Refusal). All (IsRefusal c.net.set (length c.net.rows)) rs) refusals there in
      c.answered.all_hold.1 (all_answered c.net.set (length c.net.rows) c.refusals c.answered.answers c.answered.checked mine)

  -- nothing but want of memory keeps the check from reading it
  pub only_memory : (fault : Fault) → ExplainsCheck asked.rates nodes pdos eds files.refusals.items fault → fault ≡ faults.Memory
  only_memory (faults.Network r) h = let clash = h in
      let read = network_read asked.rates nodes pdos eds net.nodes net.rows (accepted net) f.network.said.node_table f.network.said.pdo_table f.network.said.made in cc
  only_memory (faults.Refused number place) h = let b = h in let clash = b.3 in let read = read_again in cc
  only_memory (faults.File name) h = absurd h
  only_memory faults.Usage h = absurd h
  only_memory faults.Simulation h = absurd h
  only_memory faults.Memory h = refl
