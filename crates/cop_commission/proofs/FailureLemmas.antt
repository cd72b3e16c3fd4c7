-- What a boot over a port had done where its line failed, or memory was wanting.
use Rattle.std.proofs.Common.{◌≡◌, ℕ, List, Bool, true, false, refl, subst, inl, inr}
use Rattle.std.specs.Prelude.{◌⊎◌, Result, Ok, Err, IfOk, OnErr}
use Rattle.cop_frame.specs.declared.rates.Rate.{Rate}
use Rattle.cop_net.specs.Network.{Net}
use Rattle.cop_boot.specs.Manager.{Managing}
use Rattle.cop_identity.specs.declared.questions.Question.{Question}
use Rattle.cop_identity.specs.declared.asking.Exchange.{Exchange}
use Rattle.cop_live.specs.Log.{ByteStep, ClockStep}
use Rattle.cop_live.specs.Session.{CloseFails}
use Rattle.cop_live.specs.declared.listening.Found.{Found}
use Rattle.cop_heartbeats.specs.declared.attending.Awaited.{Awaited}
use Rattle.cop_heartbeats.specs.declared.attending.Heartbeats.{Heartbeats}
use Rattle.cop_readback.specs.declared.session.Reach.{Reach}
use Rattle.cop_readback.specs.declared.session.ReadBack.{ReadBack}
use Rattle.cop_readback.specs.Session.{ReadsBack, ReadBackFails, ReadBackStops}
use Rattle.cop_boot_answer.specs.Answers.{Told}
use Rattle.cop_commission.specs.declared.sessions.Session.{Session}
use Rattle.cop_commission.specs.declared.sessions.Session.TheVariants as sessions
use Rattle.cop_commission.specs.Sessions.{Way, awaited_if, IsWatched, IsApproached, is_free, IsWhole, IsUnrestored, AreReset, AreRestored, RestoringFails, RestoringStops, TellingFails, WatchFails, ClosingFails, is_kept_off, AskFirstFails, AskFirstStops, SessionFails, SessionStops, if_failed}
use Rattle.cop_commission.specs.declared.commissioning.Approach.{Approach}
use Rattle.cop_commission.specs.declared.commissioning.Commissioned.{Commissioned}
use Rattle.cop_commission.specs.declared.commissioning.Commissioned.TheVariants as commissioned
use Rattle.cop_commission.specs.Commissioning as meeting
use Rattle.cop_identity.specs.Asking.{AskedAll}
use Rattle.cop_identity.specs.Telling.{TellFails, ToldSome}
use Rattle.cop_commission.specs.Restoring.{restores_for, has_untaken}
use Rattle.cop_commission.specs.Told.{off_questions, told_manager}
use Rattle.cop_commission.specs.Commissioning.{meant_nodes, way_of, questions_for, settings_for, BootingFails, BootingStops, MeetingFails, MeetingStops, CommissionFails, CommissionStops}

-- what holds of an error
pub on_err : {T E : Type 0} (result : Result T E) (claim : Type 0) → claim → OnErr result claim
on_err (Ok x) claim h = tt
on_err (Err e) claim h = h

-- a boot gave out before its settings were read back
pub unread_so : {P : Type 0} (reads writes : ByteStep P) (asks : ClockStep P) (fails : ByteStep P) (way : Way) (reach : Reach) (m later : Managing) (nodes : List ℕ) (settings : List Question) (p q : P)
    → reach ≡ way.reach → ReadBackFails reads writes asks fails reach m nodes settings p later q → ClosingFails reads writes asks fails way m nodes settings p later false q
unread_so reads writes asks fails way reach m later nodes settings p q er h = inl (refl, subst (λ r. ReadBackFails reads writes asks fails r m nodes settings p later q) er h)

-- or there was no memory
pub short_so : {P : Type 0} (reads writes : ByteStep P) (asks : ClockStep P) (way : Way) (reach : Reach) (m : Managing) (nodes : List ℕ) (settings : List Question) (p q : P)
    → reach ≡ way.reach → ReadBackStops reads writes asks reach.only m nodes settings p q → ReadBackStops reads writes asks way.reach.only m nodes settings p q
short_so reads writes asks way reach m nodes settings p q er h = subst (λ (r : Reach). ReadBackStops reads writes asks r.only m nodes settings p q) er h

-- the heartbeats gave out, or the closing of the adapter
module _ {P : Type 0} (reads writes : ByteStep P) (asks : ClockStep P) (fails : ByteStep P) (way : Way) (reach : Reach) (own : List Awaited) (m later : Managing) (nodes : List ℕ) (settings : List Question) (back : ReadBack) (p booted : P) where
  abbrev Boots : Type 0
  Boots = ReadsBack reads writes asks reach m nodes settings p back.exchanges.items back.booted back.ready back.started later booted

  pub unwatched_so : (q : P) → reach ≡ way.reach → own ≡ awaited_if back.started way.awaited → Boots → WatchFails reads writes asks fails own booted q → ClosingFails reads writes asks fails way m nodes settings p later back.started q
  unwatched_so q er eo boots h = inr (record {
    back = back;
    booted = booted;
    boots = rw er at boots;
    tells = refl;
    failed = inl (subst (λ awaited. WatchFails reads writes asks fails awaited booted q) eo h);
  })

  pub unclosed_so : (limit : ℕ) (heartbeats : Heartbeats) (watched q : P) → reach ≡ way.reach → limit ≡ way.limit → own ≡ awaited_if back.started way.awaited → Boots
      → IsWatched reads writes asks own limit booted heartbeats watched → CloseFails reads writes fails watched q → ClosingFails reads writes asks fails way m nodes settings p later back.started q
  unclosed_so limit heartbeats watched q er el eo boots watches h = inr (record {
    back = back;
    booted = booted;
    boots = rw er at boots;
    tells = refl;
    failed = inr (heartbeats, watched, rw (el, eo) at watches, h);
  })

-- nothing was to be sent, for what was found, and the adapter was not closed
pub kept_off_so : {P : Type 0} (reads writes : ByteStep P) (asks : ClockStep P) (fails : ByteStep P) (own way : Way) (nodes : List ℕ) (questions restores offs : List Question) (f : Found) (p heard q : P) (session : Session)
    → own ≡ way → is_kept_off f ≡ true → IsApproached reads writes asks own p f heard → if_failed session (is_kept_off f ≡ true → CloseFails reads writes fails heard q)
    → if_failed session (SessionFails reads writes asks fails way nodes questions restores offs p q)
kept_off_so reads writes asks fails own way nodes questions restores offs f p heard q (sessions.Told told) e off a h = tt
kept_off_so reads writes asks fails own way nodes questions restores offs f p heard q (sessions.Running runner) e off a h = tt
kept_off_so reads writes asks fails own way nodes questions restores offs f p heard q (sessions.Garbled lines) e off a h = tt
kept_off_so reads writes asks fails own way nodes questions restores offs f p heard q (sessions.Erroneous flags) e off a h = tt
kept_off_so reads writes asks fails own way nodes questions restores offs f p heard q (sessions.Unopened command) e off a h = tt
kept_off_so reads writes asks fails own way nodes questions restores offs f p heard q (sessions.Others all) e off a h = tt
kept_off_so reads writes asks fails own way nodes questions restores offs f p heard q (sessions.Unrestored all) e off a h = tt
kept_off_so reads writes asks fails own way nodes questions restores offs f p heard q sessions.Failed e off a h =
    inr (inl (f, heard, off, subst (λ (w : Way). IsApproached reads writes asks w p f heard) e a, h off))

-- the bus was found free, and what the devices are asked first gave out
pub asks_fail_so : {P : Type 0} (reads writes : ByteStep P) (asks : ClockStep P) (fails : ByteStep P) {E : Type 0} (own way : Way) (nodes : List ℕ) (questions restores offs : List Question) (f : Found) (p free q : P) (result : Result Session E) → own ≡ way → is_free f ≡ true → IsApproached reads writes asks own p f free
    → IfOk result (λ session. if_failed session (AskFirstFails reads writes asks fails way nodes questions restores offs free q)) → IfOk result (λ session. if_failed session (SessionFails reads writes asks fails way nodes questions restores offs p q))
asks_fail_so reads writes asks fails own way nodes questions restores offs f p free q (Err e) eo ef a h = tt
asks_fail_so reads writes asks fails own way nodes questions restores offs f p free q (Ok session) eo ef a h = by_case session h
  where
    by_case : (session : Session) → if_failed session (AskFirstFails reads writes asks fails way nodes questions restores offs free q) → if_failed session (SessionFails reads writes asks fails way nodes questions restores offs p q)
    by_case (sessions.Told told) h = tt
    by_case (sessions.Running runner) h = tt
    by_case (sessions.Garbled lines) h = tt
    by_case (sessions.Erroneous flags) h = tt
    by_case (sessions.Unopened command) h = tt
    by_case (sessions.Others all) h = tt
    by_case (sessions.Unrestored all) h = tt
    by_case sessions.Failed h = inr (inr (free, (f, ef, subst (λ (w : Way). IsApproached reads writes asks w p f free) eo a), h))

-- or there was no memory
pub asks_stop_so : {P : Type 0} (reads writes : ByteStep P) (asks : ClockStep P) {T E : Type 0} (own way : Way) (nodes : List ℕ) (questions restores offs : List Question) (f : Found) (p free q : P) (result : Result T E) → own ≡ way → is_free f ≡ true → IsApproached reads writes asks own p f free
    → OnErr result (AskFirstStops reads writes asks way nodes questions restores offs free q) → OnErr result (SessionStops reads writes asks way nodes questions restores offs p q)
asks_stop_so reads writes asks own way nodes questions restores offs f p free q (Ok x) eo ef a h = tt
asks_stop_so reads writes asks own way nodes questions restores offs f p free q (Err e) eo ef a h = (free, (f, ef, subst (λ (w : Way). IsApproached reads writes asks w p f free) eo a), h)

-- the devices were asked first, and the boot gave out, or there was no memory
module _ {P : Type 0} (reads writes : ByteStep P) (asks : ClockStep P) (fails : ByteStep P) {E : Type 0} (net : Net) (ids nodes : List ℕ) (way : Way) (identify restore store : Bool) (told : List Exchange) (p free q : P) (result : Result Commissioned E) where
  pub boot_fails_so : IsWhole reads writes asks way nodes (questions_for identify net nodes) (restores_for restore net nodes) (off_questions net ids nodes) p told free
      → IfOk result (λ ended. meeting.if_failed ended (BootingFails reads writes asks fails way (told_manager way.boot_limit net ids told nodes) nodes (settings_for store net ids told nodes) free q))
      → IfOk result (λ ended. meeting.if_failed ended (MeetingFails reads writes asks fails net ids nodes way identify restore store p q))
  boot_fails_so whole h = by_result result h
    where
      by_case : (ended : Commissioned) → meeting.if_failed ended (BootingFails reads writes asks fails way (told_manager way.boot_limit net ids told nodes) nodes (settings_for store net ids told nodes) free q) → meeting.if_failed ended (MeetingFails reads writes asks fails net ids nodes way identify restore store p q)
      by_case (commissioned.Failed answer) h = inr (told, free, whole, h)
      by_case (commissioned.Ended answer ready started operational at) h = tt
      by_case (commissioned.Running runner) h = tt
      by_case (commissioned.Garbled lines) h = tt
      by_case (commissioned.Erroneous flags at) h = tt
      by_case (commissioned.Unopened command at) h = tt
      by_case (commissioned.Others answer all) h = tt
      by_case (commissioned.Unrestored answer) h = tt
      by_case commissioned.Absent h = tt
      by_case commissioned.NonePasses h = tt

      by_result : (result : Result Commissioned E) → IfOk result (λ ended. meeting.if_failed ended (BootingFails reads writes asks fails way (told_manager way.boot_limit net ids told nodes) nodes (settings_for store net ids told nodes) free q))
          → IfOk result (λ ended. meeting.if_failed ended (MeetingFails reads writes asks fails net ids nodes way identify restore store p q))
      by_result (Ok ended) h = by_case ended h
      by_result (Err e) h = tt

  pub boot_stops_so : IsWhole reads writes asks way nodes (questions_for identify net nodes) (restores_for restore net nodes) (off_questions net ids nodes) p told free
      → OnErr result (BootingStops reads writes asks fails way (told_manager way.boot_limit net ids told nodes) nodes (settings_for store net ids told nodes) free q) → OnErr result (MeetingStops reads writes asks fails net ids nodes way identify restore store p q)
  boot_stops_so whole h = by_result result h
    where
      by_result : (result : Result Commissioned E) → OnErr result (BootingStops reads writes asks fails way (told_manager way.boot_limit net ids told nodes) nodes (settings_for store net ids told nodes) free q) → OnErr result (MeetingStops reads writes asks fails net ids nodes way identify restore store p q)
      by_result (Ok ended) h = tt
      by_result (Err e) h = inr (inr (inr (told, free, whole, inr h)))

-- the parts of a session are those of the plan
module _ {P : Type 0} (reads writes : ByteStep P) (asks : ClockStep P) (own way : Way) (nodes : List ℕ) (q questions u restores o offs : List Question) (eo : own ≡ way) (eq : q ≡ questions) (eu : u ≡ restores) (ef : o ≡ offs) where
  pub session_stops_so : (p r : P) → SessionStops reads writes asks own nodes q u o p r → SessionStops reads writes asks way nodes questions restores offs p r
  session_stops_so p r h =
      subst (λ (w : Way). SessionStops reads writes asks w nodes questions restores offs p r) eo
      (subst (λ (x : List Question). SessionStops reads writes asks own nodes x restores offs p r) eq
      (subst (λ (x : List Question). SessionStops reads writes asks own nodes q x offs p r) eu (subst (λ (x : List Question). SessionStops reads writes asks own nodes q u x p r) ef h)))

  pub session_fails_so : (fails : ByteStep P) (p r : P) → SessionFails reads writes asks fails own nodes q u o p r → SessionFails reads writes asks fails way nodes questions restores offs p r
  session_fails_so fails p r h =
      subst (λ (w : Way). SessionFails reads writes asks fails w nodes questions restores offs p r) eo
      (subst (λ (x : List Question). SessionFails reads writes asks fails own nodes x restores offs p r) eq
      (subst (λ (x : List Question). SessionFails reads writes asks fails own nodes q x offs p r) eu (subst (λ (x : List Question). SessionFails reads writes asks fails own nodes q u x p r) ef h)))

  pub whole_so : (p r : P) (told : List Exchange) → IsWhole reads writes asks own nodes q u o p told r → IsWhole reads writes asks way nodes questions restores offs p told r
  whole_so p r told h =
      subst (λ (w : Way). IsWhole reads writes asks w nodes questions restores offs p told r) eo
      (subst (λ (x : List Question). IsWhole reads writes asks own nodes x restores offs p told r) eq
      (subst (λ (x : List Question). IsWhole reads writes asks own nodes q x offs p told r) eu (subst (λ (x : List Question). IsWhole reads writes asks own nodes q u x p told r) ef h)))

  pub unrestored_so : (p r : P) (all : List Exchange) → IsUnrestored reads writes asks own q u all p r → IsUnrestored reads writes asks way questions restores all p r
  unrestored_so p r all h =
      subst (λ (w : Way). IsUnrestored reads writes asks w questions restores all p r) eo
      (subst (λ (x : List Question). IsUnrestored reads writes asks own x restores all p r) eq (subst (λ (x : List Question). IsUnrestored reads writes asks own q x all p r) eu h))

-- the devices took the factory's values and were reset, and then it gave out which COB-IDs they have, or there was no memory for it
module _ {P : Type 0} (reads writes : ByteStep P) (asks : ClockStep P) (way : Way) (reach : Reach) (limit : ℕ) (nodes : List ℕ) (r s restores o offs : List Question) (x y : List Exchange) (p told restored q : P)
    (er : reach ≡ way.reach) (el : limit ≡ way.boot_limit) (e1 : r ≡ restores) (e2 : s ≡ restores) (eo : o ≡ offs) (ex : y ≡ x)
    (asked : AskedAll reads writes asks r p x told) (each : has_untaken y ≡ false) (resets : AreReset reads writes asks reach.only s told restored) where
  are_restored : AreRestored reads writes asks way.reach.only restores p restored
  are_restored = record {
    all = x;
    told = told;
    asked = subst (λ (l : List Question). AskedAll reads writes asks l p x told) e1 asked;
    each = subst (λ (l : List Exchange). has_untaken l ≡ false) ex each;
    resets = subst (λ (l : List Question). AreReset reads writes asks way.reach.only l told restored) e2 (subst (λ (w : Reach). AreReset reads writes asks w.only s told restored) er resets);
  }

  pub tells_fail_so : (fails : ByteStep P) → TellFails reads writes asks fails reach.only nodes limit o restored q
      → RestoringFails reads writes asks fails way.reach.only restores p q ⊎ TellingFails reads writes asks fails way nodes restores offs p q
  tells_fail_so fails h =
      inr (
        restored,
        are_restored,
        subst (λ (l : List Question). TellFails reads writes asks fails way.reach.only nodes way.boot_limit l restored q) eo
            (subst (λ n. TellFails reads writes asks fails way.reach.only nodes n o restored q) el (subst (λ (w : Reach). TellFails reads writes asks fails w.only nodes limit o restored q) er h)),
      )

  pub tells_stop_so : ToldSome reads writes asks reach.only nodes limit o restored q → RestoringStops reads writes asks way nodes restores offs p q
  tells_stop_so h =
      inr (
        restored,
        are_restored,
        subst (λ (l : List Question). ToldSome reads writes asks way.reach.only nodes way.boot_limit l restored q) eo
            (subst (λ n. ToldSome reads writes asks way.reach.only nodes n o restored q) el (subst (λ (w : Reach). ToldSome reads writes asks w.only nodes limit o restored q) er h)),
      )

module _ {P : Type 0} (reads writes : ByteStep P) (asks : ClockStep P) (fails : ByteStep P) {E : Type 0} (own way : Way) (m later : Managing) (nodes : List ℕ) (s settings : List Question) (eo : own ≡ way) (em : m ≡ later) (es : s ≡ settings) (p r : P) (result : Result Commissioned E) where
  pub booting_fails_so : IfOk result (λ ended. meeting.if_failed ended (BootingFails reads writes asks fails own m nodes s p r)) → IfOk result (λ ended. meeting.if_failed ended (BootingFails reads writes asks fails way later nodes settings p r))
  booting_fails_so h =
      subst (λ (w : Way). IfOk result (λ ended. meeting.if_failed ended (BootingFails reads writes asks fails w later nodes settings p r))) eo
      (subst (λ (x : Managing). IfOk result (λ ended. meeting.if_failed ended (BootingFails reads writes asks fails own x nodes settings p r))) em
      (subst (λ (x : List Question). IfOk result (λ ended. meeting.if_failed ended (BootingFails reads writes asks fails own m nodes x p r))) es h))

  pub booting_stops_so : OnErr result (BootingStops reads writes asks fails own m nodes s p r) → OnErr result (BootingStops reads writes asks fails way later nodes settings p r)
  booting_stops_so h =
      subst (λ (w : Way). OnErr result (BootingStops reads writes asks fails w later nodes settings p r)) eo
      (subst (λ (x : Managing). OnErr result (BootingStops reads writes asks fails own x nodes settings p r)) em (subst (λ (x : List Question). OnErr result (BootingStops reads writes asks fails own m nodes x p r)) es h))

-- what follows of the answer where the port failed
pub if_failed_map : (ended : Commissioned) (A B : Told → Type 0) → ((answer : Told) → A answer → B answer) → meeting.if_failed ended A → meeting.if_failed ended B
if_failed_map (commissioned.Failed answer) A B so h = so answer h
if_failed_map (commissioned.Ended answer ready started operational at) A B so h = tt
if_failed_map (commissioned.Running runner) A B so h = tt
if_failed_map (commissioned.Garbled lines) A B so h = tt
if_failed_map (commissioned.Erroneous flags at) A B so h = tt
if_failed_map (commissioned.Unopened command at) A B so h = tt
if_failed_map (commissioned.Others answer all) A B so h = tt
if_failed_map (commissioned.Unrestored answer) A B so h = tt
if_failed_map commissioned.Absent A B so h = tt
if_failed_map commissioned.NonePasses A B so h = tt

-- the nodes are those that are meant
pub failed_so : {P : Type 0} (reads writes : ByteStep P) (asks : ClockStep P) (fails : ByteStep P) {E : Type 0} (net : Net) (rate : Rate) (ids nodes : List ℕ) (approach : Approach) (p q : P) (result : Result Commissioned E) → nodes ≡ meant_nodes net approach.reach.only
    → IfOk result (λ ended. meeting.if_failed ended (MeetingFails reads writes asks fails net ids nodes (way_of net rate ids nodes approach) approach.identify approach.restore approach.store p q))
    → IfOk result (λ ended. meeting.if_failed ended (CommissionFails reads writes asks fails net rate ids approach p q))
failed_so reads writes asks fails net rate ids nodes approach p q result e h =
    subst (λ (ns : List ℕ). IfOk result (λ ended. meeting.if_failed ended (MeetingFails reads writes asks fails net ids ns (way_of net rate ids ns approach) approach.identify approach.restore approach.store p q))) e h

pub stopped_so : {P : Type 0} (reads writes : ByteStep P) (asks : ClockStep P) (fails : ByteStep P) {E : Type 0} (net : Net) (rate : Rate) (ids nodes : List ℕ) (approach : Approach) (p q : P) (result : Result Commissioned E) → nodes ≡ meant_nodes net approach.reach.only
    → OnErr result (MeetingStops reads writes asks fails net ids nodes (way_of net rate ids nodes approach) approach.identify approach.restore approach.store p q)
    → OnErr result (CommissionStops reads writes asks fails net rate ids approach p q)
stopped_so reads writes asks fails net rate ids nodes approach p q result e h =
    subst (λ (ns : List ℕ). OnErr result (MeetingStops reads writes asks fails net ids ns (way_of net rate ids ns approach) approach.identify approach.restore approach.store p q)) e h
