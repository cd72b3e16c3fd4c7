-- The senders of a plan's PDOs, and what the parts of a boot over a port make of it.
use Rattle.std.proofs.Common.{◌≡◌, ℕ, ◌<◌, ◌≤◌, List, [], ◌∷◌, Bool, true, false, Option, Some, None, refl, arith, All}
use Rattle.std.specs.Prelude.{◌&&◌, nat_le, is_some, if◌then◌else◌}
use Rattle.std.specs.List.{AllPairs}
use Rattle.std.proofs.lemmas.Bool.Decides.{nat_tests}
use Rattle.std.proofs.lemmas.List.Elements.{All-nil, All-cons}
use Rattle.cop_frame.specs.declared.rates.Rate.{Rate}
use Rattle.cop_net.specs.Network.{Net}
use Rattle.cop_boot.specs.Manager.{Managing}
use Rattle.cop_identity.specs.declared.questions.Question.{Question}
use Rattle.cop_dcf.specs.Settings.{dictionary_of}
use Rattle.cop_engine.proofs.BootLemmas.{IsUpTo, nodes_low, nodes_rise}
use Rattle.cop_readback.specs.declared.session.ReadBack.{ReadBack}
use Rattle.cop_live.specs.Log.{ByteStep, ClockStep}
use Rattle.cop_live.specs.Session.{Closed}
use Rattle.cop_heartbeats.specs.declared.attending.Awaited.{Awaited}
use Rattle.cop_heartbeats.specs.declared.attending.Heartbeats.{Heartbeats}
use Rattle.cop_heartbeats.specs.Attending.{are_all_operational}
use Rattle.cop_readback.specs.declared.session.Reach.{Reach}
use Rattle.cop_readback.specs.Session.{ReadsBack}
use Rattle.cop_boot_answer.specs.Answers.{Told}
use Rattle.cop_commission.specs.Sessions.{Way, awaited_if, IsWatched, BootsAndCloses, HasStarted}
use Rattle.cop_commission.specs.Commissioning.{meant_nodes, is_meant_device, ended_answer, HasEnded}

-- the nodes that are meant are numbers of nodes, and rise
pub meant_low : (net : Net) (only : Option ℕ) → All (IsUpTo 127) (meant_nodes net only)
meant_low net None = nodes_low net 127
meant_low net (Some node) = by_tests (nat_le 1 node) refl (nat_le node 127) refl (is_some (dictionary_of net node))
  where
    by_tests : (a : Bool) → nat_le 1 node ≡ a → (b : Bool) → nat_le node 127 ≡ b → (c : Bool) → All (IsUpTo 127) (if (a && b) && c then node ∷ [] else [])
    by_tests true ea true eb true =
        let low : 1 ≤ node = grind (arith, nat_tests) in
        let high : node ≤ 127 = grind (arith, nat_tests) in
        All-cons (IsUpTo 127) node [] (low, high) (All-nil (IsUpTo 127))
    by_tests true ea true eb false = All-nil (IsUpTo 127)
    by_tests true ea false eb c = All-nil (IsUpTo 127)
    by_tests false ea b eb c = All-nil (IsUpTo 127)

pub meant_rise : (net : Net) (only : Option ℕ) → AllPairs (λ node later. node < later) (meant_nodes net only)
meant_rise net None = nodes_rise net 127
meant_rise net (Some node) = by_test (is_meant_device net node)
  where
    by_test : (b : Bool) → AllPairs (λ node later. node < later) (if b then node ∷ [] else [])
    by_test true = λ i j d lt inside. absurd (omega arith)
    by_test false = λ i j d lt inside. absurd (omega arith)

-- a boot whose nodes are watched then
pub closed_so : {P : Type 0} (reads writes : ByteStep P) (asks : ClockStep P) (way : Way) (reach : Reach) (own : List Awaited) (limit : ℕ) (m later : Managing) (nodes : List ℕ) (settings : List Question) (back : ReadBack) (heartbeats : Heartbeats) (p booted watched q : P)
    → reach ≡ way.reach → limit ≡ way.limit → own ≡ awaited_if back.started way.awaited
    → ReadsBack reads writes asks reach m nodes settings p back.exchanges.items back.booted back.ready back.started later booted
    → IsWatched reads writes asks own limit booted heartbeats watched → Closed reads writes watched q → BootsAndCloses reads writes asks way m nodes settings p back heartbeats later q
closed_so reads writes asks way reach own limit m later nodes settings back heartbeats p booted watched q er el eo boots watches closes = record {
  booted = booted;
  watched = watched;
  boots = rw er at boots;
  watches = rw (el, eo) at watches;
  closes = closes;
}

-- the start had been sent where a boot's settings were read back and it says so
pub started_so : {P : Type 0} (reads writes : ByteStep P) (asks : ClockStep P) (way : Way) (reach : Reach) (m later : Managing) (nodes : List ℕ) (settings : List Question) (back : ReadBack) (p booted : P)
    → reach ≡ way.reach → ReadsBack reads writes asks reach m nodes settings p back.exchanges.items back.booted back.ready back.started later booted
    → back.started ≡ true → HasStarted reads writes asks way m nodes settings p later
started_so reads writes asks way reach m later nodes settings back p booted er boots starts = record {
  back = back;
  booted = booted;
  boots = rw er at boots;
  starts = starts;
}

-- a boot by a manager
pub ended_so : {P : Type 0} (reads writes : ByteStep P) (asks : ClockStep P) (way : Way) (at : Rate) (m later : Managing) (nodes : List ℕ) (settings : List Question) (back : ReadBack) (heartbeats : Heartbeats) (p q : P) (answer : Told) (ready started operational : Bool)
    → BootsAndCloses reads writes asks way m nodes settings p back heartbeats later q
    → answer ≡ ended_answer later nodes back way.awaited heartbeats → ready ≡ back.ready → started ≡ back.started → operational ≡ are_all_operational heartbeats (awaited_if back.started way.awaited) → at ≡ way.rate
    → HasEnded reads writes asks way m nodes settings p q answer ready started operational at
ended_so reads writes asks way at m later nodes settings back heartbeats p q answer ready started operational boots says are tells came rated = record {
  later = later;
  back = back;
  heartbeats = heartbeats;
  boots = boots;
  says = says;
  are = are;
  tells = tells;
  came = came;
  rated = rated;
}
