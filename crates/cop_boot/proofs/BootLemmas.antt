-- What a boot by turns makes of the devices.
use Rattle.std.proofs.Common.{◌≡◌, ℕ, Bool, true, false, cond, List, [], ◌∷◌, map, refl, ap, sym, subst, ◌∙◌, ◌==◌, Option, Some, None}
use Rattle.std.proofs.lemmas.Bool.{eqb-true}
use Rattle.std.specs.Prelude.{option_map, option_and_then, is_some, IsSome}
use Rattle.cop_dict.specs.Find.{Entry}
use Rattle.cop_boot.specs.declared.«end».End.{End}
use Rattle.cop_boot.specs.declared.«end».End.TheVariants.{Ready, Silent, Restarting, Aborted}
use Rattle.cop_boot.specs.declared.«end».Phase.{Phase}
use Rattle.cop_boot.specs.declared.«end».Phase.TheVariants.{Waiting, Sending, Over}
use Rattle.cop_boot.specs.declared.turn.Turn.{Turn}
use Rattle.cop_boot.specs.Node.{Node}
use Rattle.cop_boot.specs.Manager.{Managing, node_of, end_at, end_in, waiting_from, reset_all, all_ready, is_ready, is_ready_in}
use Rattle.cop_boot.specs.Device.{Attached}
use Rattle.cop_boot.specs.Schedule.{Line, World, line_of, takes, begins, line_with, Boots}
use Rattle.cop_boot.specs.Booted.{device_of, CanBoot, CanBeSet, Booted}
use Rattle.cop_boot.proofs.DriveLemmas.{found_map}
use Rattle.cop_boot.proofs.StageLemmas.{Plan, Stage, Resetting, IsAt, IsFresh, IfThere, ready_dict, other_end}
use Rattle.cop_boot.proofs.WorldLemmas.{ArePlans, Holds, Stands, turns_hold, lines_map, apart_map}

number_of : (nodes : List Node) (n : ℕ) (node : Node) → node_of nodes n ≡ Some node → node.number ≡ n
number_of [] n node h = cc
number_of (x ∷ nodes) n node h = by_test (x.number == n) refl h (λ h. number_of nodes n node h)
  where
    by_test : (b : Bool) → (x.number == n) ≡ b → cond b (Some x) (node_of nodes n) ≡ Some node → (node_of nodes n ≡ Some node → node.number ≡ n) → node.number ≡ n
    by_test true e h more = let is : x ≡ node = cc in subst (λ x. x.number ≡ n) is (eqb-true x.number n e)
    by_test false e h more = more h

device_number : (devices : List Attached) (n : ℕ) (d : Attached) → device_of devices n ≡ Some d → d.number ≡ n
device_number [] n d h = cc
device_number (x ∷ devices) n d h = by_test (x.number == n) refl h (λ h. device_number devices n d h)
  where
    by_test : (b : Bool) → (x.number == n) ≡ b → cond b (Some x) (device_of devices n) ≡ Some d → (device_of devices n ≡ Some d → d.number ≡ n) → d.number ≡ n
    by_test true e h more = let is : x ≡ d = cc in subst (λ x. x.number ≡ n) is (eqb-true x.number n e)
    by_test false e h more = more h

lines_of_nodes : (devices : List Attached) (nodes : List Node) (n : ℕ) → line_of (map (line_with devices) nodes) n ≡ option_map (line_with devices) (node_of nodes n)
lines_of_nodes devices [] n = refl
lines_of_nodes devices (x ∷ nodes) n = by_test (x.number == n) (lines_of_nodes devices nodes n)
  where
    by_test : (b : Bool) → line_of (map (line_with devices) nodes) n ≡ option_map (line_with devices) (node_of nodes n)
        → cond b (Some (line_with devices x)) (line_of (map (line_with devices) nodes) n) ≡ option_map (line_with devices) (cond b (Some x) (node_of nodes n))
    by_test true h = refl
    by_test false h = h

none_ready : (nodes : List Node) → false ≡ all_ready (map (waiting_from 0) nodes)
none_ready [] = refl
none_ready (node ∷ nodes) = refl

abbrev pub plan : (ℕ → List Entry) → ℕ → Node → Plan
plan built n node = record { number = n; settings = node.settings; limit = node.limit; dict = built n }

-- the plan of each node
abbrev pub plans_of : (ℕ → List Entry) → List Node → ℕ → Option Plan
plans_of built nodes n = option_map (plan built n) (node_of nodes n)

record HasPlan (built : ℕ → List Entry) (nodes : List Node) (n : ℕ) (p : Plan) : Type 0 where
  node : Node
  at : node_of nodes n ≡ Some node
  is : p ≡ plan built n node

has_plan : (built : ℕ → List Entry) (nodes : List Node) (n : ℕ) (p : Plan) → plans_of built nodes n ≡ Some p → HasPlan built nodes n p
has_plan built nodes n p h = by_found (node_of nodes n) refl h
  where
    by_found : (o : Option Node) → node_of nodes n ≡ o → option_map (plan built n) o ≡ Some p → HasPlan built nodes n p
    by_found None e h = cc
    by_found (Some node) e h = record { node = node; at = e; is = cc }

no_plan : (built : ℕ → List Entry) (nodes : List Node) (n : ℕ) → plans_of built nodes n ≡ None → node_of nodes n ≡ None
no_plan built nodes n h = by_found (node_of nodes n) h
  where
    by_found : (o : Option Node) → option_map (plan built n) o ≡ None → o ≡ None
    by_found None h = refl
    by_found (Some node) h = cc

module _ (m : Managing) (devices : List Attached) (built : ℕ → List Entry) (can : CanBoot m devices built) where
  pub good : ArePlans (plans_of built m.nodes)
  good = record {
    sound = λ n p h. let x = has_plan built m.nodes n p h in subst (λ p. CanBeSet p.settings p.dict) (sym x.is) (can.each n x.node x.at);
    number = λ n p h. let x = has_plan built m.nodes n p h in ap (λ p. p.number) x.is;
    least = λ n p h. let x = has_plan built m.nodes n p h in can.low n x.node x.at;
  }

  fresh : (n : ℕ) (o : Option Attached) → device_of devices n ≡ o → IfThere (IsFresh n (built n)) o
  fresh n None e = tt
  fresh n (Some d) e = let s = can.served n d e in record { number = device_number devices n d e; server = s.0; has = s.1 }

  stands_first : (n : ℕ) (p : Plan) → plans_of built m.nodes n ≡ Some p → Stands (begins m devices) n p (Resetting 0 (is_some (device_of devices n)))
  stands_first n p h =
      let x = has_plan built m.nodes n p h in
      let number = number_of m.nodes n x.node x.at in
      record {
        node = waiting_from 0 x.node;
        line = takes (reset_all ∷ []) (line_with devices x.node);
        found = found_map (waiting_from 0) (λ node. refl) m.nodes n ∙ ap (option_map (waiting_from 0)) x.at;
        lined = lines_map (takes (reset_all ∷ [])) (λ line. refl) (map (line_with devices) m.nodes) n ∙ ap (option_map (takes (reset_all ∷ []))) (lines_of_nodes devices m.nodes n ∙ ap (option_map (line_with devices)) x.at);
        at = subst (λ p. IsAt p (Resetting 0 (is_some (device_of devices n))) (waiting_from 0 x.node) (takes (reset_all ∷ []) (line_with devices x.node))) (sym x.is)
            (device_of devices n, rw number refl, rw number refl, fresh n (device_of devices n) refl, refl);
      }

  -- a node with a device awaits the reset
  pub first_stands : (n : ℕ) (node : Node) → node_of m.nodes n ≡ Some node → IsSome (device_of devices n) → Stands (begins m devices) n (plan built n node) (Resetting 0 true)
  first_stands n node at there =
      subst (λ here. Stands (begins m devices) n (plan built n node) (Resetting 0 here)) there
      (stands_first n (plan built n node) (ap (option_map (plan built n)) at))

  pub begun : Holds (plans_of built m.nodes) (begins m devices)
  begun = record {
    begun = refl;
    apart = apart_map (waiting_from 0) (λ node. refl) m.nodes can.apart;
    starts = none_ready m.nodes;
    none = λ n h. lines_map (takes (reset_all ∷ [])) (λ line. refl) (map (line_with devices) m.nodes) n
        ∙ ap (option_map (takes (reset_all ∷ []))) (lines_of_nodes devices m.nodes n ∙ ap (option_map (line_with devices)) (no_plan built m.nodes n h));
    absent = λ n h. found_map (waiting_from 0) (λ node. refl) m.nodes n ∙ ap (option_map (waiting_from 0)) (no_plan built m.nodes n h);
    each = λ n p h. (Resetting 0 (is_some (device_of devices n)), stands_first n p h);
  }

  module _ (w : World) (h : Holds (plans_of built m.nodes) w) where
    record Ends (n : ℕ) (e : End) : Type 0 where
      node : Node
      node' : Node
      stage : Stage
      line : Line
      at : node_of m.nodes n ≡ Some node
      found : node_of w.manager.nodes n ≡ Some node'
      lined : line_of w.lines n ≡ Some line
      stands : IsAt (plan built n node) stage node' line
      ends : end_in node'.phase ≡ Some e

    ends_at : (n : ℕ) (e : End) → end_at w.manager.nodes n ≡ Some e → Ends n e
    ends_at n e end = by_plan (node_of m.nodes n) refl
      where
        no_end : node_of w.manager.nodes n ≡ None → ⊥
        no_end none = let x = rw none at end in clash x
          where
            clash : None ≡ Some e → ⊥
            clash x = cc

        by_plan : (o : Option Node) → node_of m.nodes n ≡ o → Ends n e
        by_plan None at = absurd (no_end (h.absent n (ap (option_map (plan built n)) at)))
        by_plan (Some node) at =
            let s = h.each n (plan built n node) (ap (option_map (plan built n)) at) in
            record {
              node = node;
              node' = s.1.node;
              stage = s.0;
              line = s.1.line;
              at = at;
              found = s.1.found;
              lined = s.1.lined;
              stands = s.1.at;
              ends = ap (option_and_then (λ node. end_in node.phase)) (sym s.1.found) ∙ end;
            }

    ready_by : (node : Node) → end_in node.phase ≡ Some Ready → is_ready node ≡ true
    ready_by node h = by_phase node.phase h
      where
        by_phase : (p : Phase) → end_in p ≡ Some Ready → is_ready_in p ≡ true
        by_phase (Waiting since) h = cc
        by_phase (Sending done since) h = cc
        by_phase (Over Ready) h = refl
        by_phase (Over (Silent node)) h = cc
        by_phase (Over (Restarting node)) h = cc
        by_phase (Over (Aborted node index sub code)) h = cc

    booted : Booted m built w
    booted = record {
      configured = λ n end. let x = ends_at n Ready end in
          let d = ready_dict (plan built n x.node) (can.each n x.node x.at) x.stage x.node' x.line x.stands (ready_by x.node' x.ends) in
          record { node = x.node; line = x.line; device = d.0; manages = x.at; lined = x.lined; there = d.1; dict = d.2 };
      no_other = λ n e end. let x = ends_at n e end in other_end (plan built n x.node) x.stage x.node' x.line e x.stands x.ends;
      started = h.starts;
    }

-- a boot by turns, whatever the turns are
pub boots_so : (m : Managing) (devices : List Attached) (built : ℕ → List Entry) (turns : List Turn) (w : World) → CanBoot m devices built → Boots m devices turns w → Booted m built w
boots_so m devices built turns w can turns_so =
    booted m devices built can w (turns_hold (plans_of built m.nodes) (good m devices built can) turns (begins m devices) w (begun m devices built can) turns_so)
