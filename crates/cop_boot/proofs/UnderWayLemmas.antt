-- A boot by turns that is under way: how it begins, one turn more, and what its turns have made.
use Rattle.std.proofs.Common.{◌≡◌, ℕ, List, [], ◌∷◌, ◌++◌, replicate, refl, ap, sym, subst, ◌∙◌}
use Rattle.cop_frame.specs.declared.frames.Frame.{Frame}
use Rattle.cop_sdo.specs.Message.{message_of}
use Rattle.cop_dict.specs.Find.{Entry}
use Rattle.cop_net.specs.Network.{Net}
use Rattle.cop_boot.specs.declared.schedule.Boot.{Boot}
use Rattle.cop_boot.specs.declared.turn.Turn.{Turn}
use Rattle.cop_boot.specs.Manager.{Managing, Managed, begun_at}
use Rattle.cop_boot.specs.Device.{Attached}
use Rattle.cop_boot.specs.Booted.{CanBoot, ReadyInTime}
use Rattle.cop_boot.specs.Schedule.{World, Takes, TakesAll, begins}
use Rattle.cop_boot.specs.Bus.{IsBus, KnowsNodes, KeepsOthers, Runs, Made, line_at, world_at}
use Rattle.cop_boot.specs.NetworkBoot.{IsPlanOf, HavePlannedPdos}
use Rattle.cop_boot.specs.UnderWay.{IsUnderWay}
use Rattle.cop_boot.proofs.TurnLemmas.{names, begins_as, begun_names, fresh_bus, line_there, absent_named, known_named, made_so}
use Rattle.cop_boot.proofs.CommandLemmas.{boot_commands}
use Rattle.cop_boot.proofs.PdoLemmas.{pdos_so}
use Rattle.cop_boot.proofs.ReadyLemmas.{ready_so}

-- a turn behind others
taken_more : (turns : List Turn) (turn : Turn) (w between last : World) → TakesAll w turns between → Takes between turn last → TakesAll w (turns ++ turn ∷ []) last
taken_more [] turn w between last so_far takes = (last, subst (λ w. Takes w turn last) so_far takes, refl)
taken_more (x ∷ turns) turn w between last (next, first, rest) takes = (next, first, taken_more turns turn next between last rest takes)

module _ (m : Managing) (devices : List Attached) where
  -- before the first turn
  pub has_begun : (new : Managing) (boot : Boot) (frame : Frame) → (let out : Managed = record { manager = new; frames = message_of frame ∷ [] } in out) ≡ begun_at m 0
      → boot.bus.sent.items ≡ frame ∷ [] → boot.bus.answers.items ≡ [] → boot.bus.delivered ≡ replicate 256 0 → boot.bus.heard ≡ replicate 256 0 → KnowsNodes new.nodes boot.numbers
      → IsUnderWay m devices [] new devices boot
  has_begun new boot frame call sent answers delivered heard knows = record {
    bus = fresh_bus boot.bus delivered heard;
    knows = knows;
    boots = begins_as m new boot.bus devices frame call sent answers delivered heard;
    names = begun_names m new (message_of frame ∷ []) call;
    others = λ n none. refl;
  }

  -- one turn more
  pub goes_on : (turns : List Turn) (turn : Turn) (now later : Managing) (before after : List Attached) (old new : Boot) → IsUnderWay m devices turns now before old → IsBus new.bus
      → Takes (world_at now old.bus before) turn (world_at later new.bus after) → names later.nodes ≡ names now.nodes → KeepsOthers now before after → new.numbers ≡ old.numbers
      → IsUnderWay m devices (turns ++ turn ∷ []) later after new
  goes_on turns turn now later before after old new is bus takes same others numbers = record {
    bus = bus;
    knows = λ n low. rw numbers (is.knows n low ∙ known_named now.nodes later.nodes n (sym same));
    boots = taken_more turns turn (begins m devices) (world_at now old.bus before) (world_at later new.bus after) is.boots takes;
    names = same ∙ is.names;
    others = λ n none. others n (absent_named now.nodes m.nodes n is.names none) ∙ is.others n none;
  }

  -- what the turns have made
  module _ (turns : List Turn) (later : Managing) (after : List Attached) (boot : Boot) (is : IsUnderWay m devices turns later after boot) where
    pub has_run : Runs m devices turns later after
    has_run = record {
      world = world_at later boot.bus after;
      boots = is.boots;
      manager = refl;
      attached = λ n line h. ap (λ l. l.device) (line_there (line_at boot.bus after) (λ n. refl) later.nodes n line h);
      others = is.others;
      commands = boot_commands m devices turns (world_at later boot.bus after) is.boots;
    }

    pub has_made : (built : ℕ → List Entry) → CanBoot m devices built → Made m built later after
    has_made built can = made_so m devices turns later after built has_run can

    pub is_in_time : (built : ℕ → List Entry) → CanBoot m devices built → ReadyInTime m devices turns later
    is_in_time built can = ready_so m devices built turns (world_at later boot.bus after) can is.boots

    pub has_pdos : (net : Net) (ids : List ℕ) (built : ℕ → List Entry) → CanBoot m devices built → IsPlanOf net ids m built → HavePlannedPdos net ids later after
    has_pdos net ids built can plan = pdos_so m built later after net ids (has_made built can) plan
