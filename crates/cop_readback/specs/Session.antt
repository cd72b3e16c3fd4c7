-- A boot over a port whose settings are read back, and the start of the nodes.
use Rattle.std.specs.Prelude.{◌≡◌, ℕ, Bool, true, false, not, ◌&&◌, List, [], ◌∷◌, ◌++◌, map, filter, is_some, ◌⊎◌, Option, if◌then◌else◌}
use Rattle.std.specs.List.{AllByRecursion, list_all}
use Rattle.cop_sdo.specs.Message.{Message}
use Rattle.cop_boot.specs.Manager.{Managing, is_command, end_at}
use Rattle.cop_boot.specs.Sent.{MaySend, WereConfigured}
use Rattle.cop_live.specs.Log.{ByteStep, ClockStep, Doing, Sent, DidAll, BrokeOff, sent_in, came}
use Rattle.cop_live.specs.Nodes.{nobody, has_node}
use Rattle.cop_live.specs.Session.{State, turns, steps_state, reset_of, start_of, first_state, boot_log, IsDriven, Booted, BootFails}
use Rattle.cop_identity.specs.declared.questions.Question.{Question}
use Rattle.cop_identity.specs.declared.asking.Exchange.{Exchange}
use Rattle.cop_identity.specs.Questions.{request_of}
use Rattle.cop_readback.specs.declared.session.Reach.{Reach}
use Rattle.cop_readback.specs.Reading.{Round, rounds_steps, exchanges_of, AreRounds, are_ready, all_wanted, booted_in, RoundsFail, RoundsStop}

-- the start of one node alone, or of all, if they are started; and the commands of a session: one reset before it
abbrev pub starts_of : Option ℕ → Bool → List Message
starts_of only started = if started then start_of only ∷ [] else []

abbrev pub commands_of : Option ℕ → Bool → List Message
commands_of only started = reset_of only ∷ starts_of only started

-- a boot, the rounds in which settings are read back, and the start of the nodes as the last frame, if they are started
abbrev pub session_log : Option ℕ → Managing → ℕ → List (ℕ × List ℕ) → List Round → Bool → List Doing
session_log only m began booting rounds started = boot_log only m began (turns booting ++ rounds_steps rounds) ++ map Sent (starts_of only started)

-- a manager after a boot's turns, and the bytes of a line that is begun
abbrev pub booted_state : Managing → ℕ → List (ℕ × List ℕ) → State
booted_state m began booting = steps_state began (first_state m) (turns booting)

-- none of some nodes booted up
abbrev pub none_booted : List Bool → List ℕ → Bool
none_booted booted nodes = list_all (λ node. not (has_node booted node)) nodes

-- the manager found all nodes ready, each of these is ready still, each question was answered as it should be, and none of them booted up
-- meanwhile
abbrev pub may_start : Managing → List ℕ → List Exchange → List Bool → Bool
may_start m nodes exchanges booted = (m.started && are_ready m.nodes nodes) && (all_wanted exchanges && none_booted booted nodes)

-- a frame is the request of one of some questions
abbrev pub IsRequest : List Question → Message → Type 0
IsRequest [] frame = ⊥
IsRequest (question ∷ rest) frame = (frame ≡ request_of question) ⊎ IsRequest rest frame

-- a frame is the reset or the start of one node alone, or of all
abbrev pub IsCommand : Option ℕ → Message → Type 0
IsCommand only frame = (frame ≡ reset_of only) ⊎ (frame ≡ start_of only)

-- What is true of all that was done: it made one manager of another, which met all that came.
pub record IsSession (only : Option ℕ) (m : Managing) (questions : List Question) (began : ℕ) (log : List Doing) (later : Managing) (started : Bool) : Type 0 where
  -- each node's boot ended as what came from it says, and one that is ready has confirmed each of its settings since its last boot-up
  pub driven : IsDriven m began log later
  -- of commands one reset was sent, and one start where the nodes were started
  pub commands : filter is_command (sent_in log) ≡ commands_of only started
  -- whatever was sent is a frame that the manager may send, the request of a question, or one of these commands
  pub sent : AllByRecursion (λ frame. MaySend m.nodes frame ⊎ (IsRequest questions frame ⊎ IsCommand only frame)) (sent_in log)
  -- where they were started each node had been configured by what came
  pub configured : started ≡ true → WereConfigured m.nodes (came began log)

-- A boot whose settings were read back.
pub record ReadsBack {P : Type 0} (reads writes : ByteStep P) (asks : ClockStep P) (reach : Reach) (m : Managing) (nodes : List ℕ) (questions : List Question) (p : P) (exchanges : List Exchange) (booted : List Bool) (ready started : Bool) (later : Managing) (q : P) : Type 0 where
  pub began : ℕ
  pub asked : P
  pub booting : List (ℕ × List ℕ)
  pub rounds : List Round
  -- the clock is asked at which moment it begins, and then all that is done at the port is the log
  pub asks_first : asks p began asked
  pub did : DidAll reads writes asks asked (session_log reach.only m began booting rounds started) q
  -- the boot of each of some nodes ends before the first question
  pub ended : list_all (λ node. is_some (end_at (booted_state m began booting).manager.nodes node)) nodes ≡ true
  -- a round for each question, in their order, tells truly what came of it
  pub each : map (λ asked. asked.question) (exchanges_of rounds) ≡ questions
  pub came_of : exchanges ≡ exchanges_of rounds
  pub right : AreRounds began (booted_state m began booting) [] rounds
  -- the nodes that boot up in the rounds, and the manager after them
  pub booted_up : booted ≡ booted_in nobody (booted_state m began booting).pending (rounds_steps rounds)
  pub later_is : later ≡ (steps_state began (booted_state m began booting) (rounds_steps rounds)).manager
  -- all are ready exactly where they may be started, and are started then, if they are to be
  pub may : ready ≡ may_start later nodes exchanges booted
  pub starts : started ≡ reach.start && ready
  -- and what is true of all that was done
  pub is : IsSession reach.only m questions began (session_log reach.only m began booting rounds started) later started

-- the boot of each of some nodes ended, and then a question gave out
pub record ReadingFails {P : Type 0} (reads writes : ByteStep P) (asks : ClockStep P) (fails : ByteStep P) (only : Option ℕ) (m : Managing) (nodes : List ℕ) (questions : List Question) (p q : P) : Type 0 where
  pub began : ℕ
  pub state : State
  pub between : P
  pub boots : Booted reads writes asks only m p began state between
  pub ended : list_all (λ node. is_some (end_at state.manager.nodes node)) nodes ≡ true
  pub failed : RoundsFail reads writes asks fails questions began state between q

-- all was as where the nodes are ready and are not to be started; they were to be, and the start broke off
pub record StartFails {P : Type 0} (reads writes : ByteStep P) (asks : ClockStep P) (fails : ByteStep P) (reach : Reach) (m : Managing) (nodes : List ℕ) (questions : List Question) (p : P) (later : Managing) (q : P) : Type 0 where
  pub exchanges : List Exchange
  pub booted : List Bool
  pub between : P
  pub reads_back : ReadsBack reads writes asks (record { only = reach.only; start = false }) m nodes questions p exchanges booted true false later between
  pub wanted : reach.start ≡ true
  pub failed : BrokeOff reads writes asks fails between (Sent (start_of reach.only) ∷ []) q

-- A boot gave out whose settings are read back: before each node's boot had ended, at a question, or at the start. Before its last case no
-- start was written, nor a part of it.
abbrev pub ReadBackFails : {P : Type 0} → ByteStep P → ByteStep P → ClockStep P → ByteStep P → Reach → Managing → List ℕ → List Question → P → Managing → P → Type 0
ReadBackFails reads writes asks fails reach m nodes questions p later q =
    BootFails reads writes asks fails reach.only m p q
    ⊎ (ReadingFails reads writes asks fails reach.only m nodes questions p q ⊎ StartFails reads writes asks fails reach m nodes questions p later q)

-- there was no memory for what came of a question: the boot of each of some nodes ended, rounds for the first ones of the questions were done, and
-- nothing else was
pub record ReadBackStops {P : Type 0} (reads writes : ByteStep P) (asks : ClockStep P) (only : Option ℕ) (m : Managing) (nodes : List ℕ) (questions : List Question) (p q : P) : Type 0 where
  pub began : ℕ
  pub state : State
  pub between : P
  pub boots : Booted reads writes asks only m p began state between
  pub ended : list_all (λ node. is_some (end_at state.manager.nodes node)) nodes ≡ true
  pub stops : RoundsStop reads writes asks questions began state between q
