-- A node with a device is ready once its turns to it and from it have come in turn often enough, where no limit of time is reached.
use Rattle.std.proofs.Common.{◌≡◌, ℕ, zero, suc, ◌+◌, ◌*◌, ◌<◌, ◌≤◌, Bool, true, false, List, [], ◌∷◌, length, max, refl, ap, sym, subst, ◌∙◌, arith, nat_le, ◌==◌, Option, Some, None, ◌⊎◌, inl, inr}
use Rattle.std.proofs.lemmas.Bool.{eqb-true}
use Rattle.std.specs.Prelude.{option_map, option_and_then, if◌then◌else◌}
use Rattle.std.proofs.lemmas.Bool.Decides.{nat_tests}
use Rattle.cop_dict.specs.Find.{Entry}
use Rattle.cop_sdo.specs.Message.{Message}
use Rattle.cop_sdo.proofs.Confirmed.{same_number}
use Rattle.cop_setup.specs.declared.setting.Setting.{Setting}
use Rattle.cop_boot.specs.declared.turn.Turn.{Turn}
use Rattle.cop_boot.specs.declared.turn.Turn.TheVariants.{ToNode, FromNode, Moment}
use Rattle.cop_boot.specs.Node.{Node}
use Rattle.cop_boot.specs.Manager.{Managing, heard_by, sent_by, heard, passed, moved, at_least, end_in}
use Rattle.cop_boot.specs.Device.{Attached}
use Rattle.cop_boot.specs.Booted.{CanBoot, MomentsBelow, round_trips, StandAmong, ReadyInTime}
use Rattle.cop_boot.specs.Schedule.{Line, World, line_of, Delivers, DeliversTo, heard_on, heard_from, Takes, TakesAll, begins, Boots}
use Rattle.cop_boot.proofs.DriveLemmas.{heard_begun, passed_begun, starting_so}
use Rattle.cop_boot.proofs.StageLemmas.{Plan, Stage, Resetting, Booting, Asked, Confirmed, Done, Lost, IsAt, goes_stage, after_to, after_from, after_moment, no_front}
use Rattle.cop_boot.proofs.WorldLemmas.{ArePlans, Holds, Stands, same_line, moment_stands, frame_stands, to_stands, turn_holds}
use Rattle.cop_boot.proofs.BootLemmas.{plan, plans_of, good, begun, first_stands}

-- So many turns, to a node and from it in turn, make it ready. Its device is there, and it was not given up.
abbrev HasLeft : Plan → Stage → ℕ → Type 0
HasLeft p (Resetting since true) left = 2 * length p.settings + 2 ≤ left
HasLeft p (Resetting since false) left = ⊥
HasLeft p (Booting since) left = 2 * length p.settings + 1 ≤ left
HasLeft p (Asked done since s more) left = 2 * length more + 2 ≤ left
HasLeft p (Confirmed done since s more) left = 2 * length more + 1 ≤ left
HasLeft p Done left = Unit {0}
HasLeft p Lost left = ⊥

-- ---- each turn, on one node

to_keeps : (p : Plan) (stage : Stage) (n : ℕ) → HasLeft p stage n → HasLeft p (after_to stage) n
to_keeps p (Resetting since true) n h = omega (arith, h)
to_keeps p (Resetting since false) n h = absurd h
to_keeps p (Booting since) n h = h
to_keeps p (Asked done since s more) n h = omega (arith, h)
to_keeps p (Confirmed done since s more) n h = h
to_keeps p Done n h = tt
to_keeps p Lost n h = absurd h

to_less : (p : Plan) (stage : Stage) (j : ℕ) → HasLeft p stage (2 * j + 2) → HasLeft p (after_to stage) (2 * j + 1)
to_less p (Resetting since true) j h = omega (arith, h)
to_less p (Resetting since false) j h = absurd h
to_less p (Booting since) j h = omega (arith, h)
to_less p (Asked done since s more) j h = omega (arith, h)
to_less p (Confirmed done since s more) j h = omega (arith, h)
to_less p Done j h = tt
to_less p Lost j h = absurd h

goes_left : (p : Plan) (done now : ℕ) (rest : List Setting) (n : ℕ) → 2 * length rest ≤ n → HasLeft p (goes_stage done now rest) n
goes_left p done now [] n h = tt
goes_left p done now (s ∷ more) n h = omega (arith, h)

from_keeps : (p : Plan) (now : ℕ) (stage : Stage) (n : ℕ) → HasLeft p stage n → HasLeft p (after_from p now stage) n
from_keeps p now (Resetting since here) n h = h
from_keeps p now (Booting since) n h = goes_left p 0 now p.settings n (omega (arith, h))
from_keeps p now (Asked done since s more) n h = h
from_keeps p now (Confirmed done since s more) n h = goes_left p (suc done) now more n (omega (arith, h))
from_keeps p now Done n h = tt
from_keeps p now Lost n h = absurd h

from_less : (p : Plan) (now : ℕ) (stage : Stage) (j : ℕ) → HasLeft p stage (2 * j + 1) → HasLeft p (after_from p now stage) (2 * j)
from_less p now (Resetting since true) j h = omega (arith, h)
from_less p now (Resetting since false) j h = absurd h
from_less p now (Booting since) j h = goes_left p 0 now p.settings (2 * j) (omega (arith, h))
from_less p now (Asked done since s more) j h = omega (arith, h)
from_less p now (Confirmed done since s more) j h = goes_left p (suc done) now more (2 * j) (omega (arith, h))
from_less p now Done j h = tt
from_less p now Lost j h = absurd h

moment_keeps : (p : Plan) (now : ℕ) (stage : Stage) (n : ℕ) → 4000000 ≤ p.limit → now < 4000000 → HasLeft p stage n → HasLeft p (after_moment p now stage) n
moment_keeps p now (Resetting since here) n patient low h = let t = boot since now p.limit patient low in rw t h
  where
    boot : (since now limit : ℕ) → 4000000 ≤ limit → now < 4000000 → nat_le (since + limit) now ≡ false
    boot since now limit patient low = grind (arith, nat_tests)
moment_keeps p now (Booting since) n patient low h = let t = boot since now p.limit patient low in rw t h
  where
    boot : (since now limit : ℕ) → 4000000 ≤ limit → now < 4000000 → nat_le (since + limit) now ≡ false
    boot since now limit patient low = grind (arith, nat_tests)
moment_keeps p now (Asked done since s more) n patient low h = let t = out since now low in rw t h
  where
    out : (since now : ℕ) → now < 4000000 → nat_le (since + 4000000) now ≡ false
    out since now low = grind (arith, nat_tests)
moment_keeps p now (Confirmed done since s more) n patient low h = let t = out since now low in rw t h
  where
    out : (since now : ℕ) → now < 4000000 → nat_le (since + 4000000) now ≡ false
    out since now low = grind (arith, nat_tests)
moment_keeps p now Done n patient low h = tt
moment_keeps p now Lost n patient low h = absurd h

-- where nothing can be delivered, the stage stays
quiet_to : (p : Plan) (stage : Stage) (node : Node) (line : Line) → IsAt p stage node line → (line.device ≡ None) ⊎ (line.to ≡ []) → after_to stage ≡ stage
quiet_to p (Resetting since true) node line (device, en, el, fresh, has) none = absurd (elim none [ inl e ↦ no_device e | inr e ↦ no_front _ [] (sym e ∙ ap (λ l. l.to) el) ])
  where
    no_device : line.device ≡ None → ⊥
    no_device e =
        let of_none : device ≡ None = sym (ap (λ l. l.device) el) ∙ e in
        let never : false ≡ true = rw of_none at has in
        cc
quiet_to p (Resetting since false) node line at none = refl
quiet_to p (Booting since) node line at none = refl
quiet_to p (Asked done since s more) node line (device, en, el, at, dict, quiet, left) none = absurd (elim none [ inl e ↦ no_device e | inr e ↦ no_front _ [] (sym e ∙ ap (λ l. l.to) el) ])
  where
    no_device : line.device ≡ None → ⊥
    no_device e =
        let clash : Some device ≡ None = sym (ap (λ l. l.device) el) ∙ e in
        cc
quiet_to p (Confirmed done since s more) node line at none = refl
quiet_to p Done node line at none = refl
quiet_to p Lost node line at none = refl

quiet_from : (p : Plan) (now : ℕ) (stage : Stage) (node : Node) (line : Line) → IsAt p stage node line → line.from ≡ [] → after_from p now stage ≡ stage
quiet_from p now (Resetting since here) node line at none = refl
quiet_from p now (Booting since) node line (device, en, el, quiet) none = absurd (no_front _ [] (sym none ∙ ap (λ l. l.from) el))
quiet_from p now (Asked done since s more) node line at none = refl
quiet_from p now (Confirmed done since s more) node line (device, en, el, at, dict, quiet, left) none = absurd (no_front _ [] (sym none ∙ ap (λ l. l.from) el))
quiet_from p now Done node line at none = refl
quiet_from p now Lost node line at none = refl

-- the stage that a turn leads to, at a clock
abbrev turned : Plan → ℕ → ℕ → Turn → Stage → Stage
turned p n clock (ToNode m) stage = if n == m then after_to stage else stage
turned p n clock (FromNode m) stage = if n == m then after_from p (max clock clock) stage else stage
turned p n clock (Moment now) stage = after_moment p (max clock now) stage

-- a node stands at a stage, or is done
abbrev Leads : World → ℕ → Plan → Stage → Type 0
Leads w n p stage = (later : Stage) × Stands w n p later × ((later ≡ stage) ⊎ (later ≡ Done))

-- ---- each turn, on a node among others

module _ (plans : ℕ → Option Plan) (good : ArePlans plans) (w : World) (h : Holds plans w) (n : ℕ) (p : Plan) (e : plans n ≡ Some p) (stage : Stage) (s : Stands w n p stage) where
  unmoved : (next : World) (to : Stage) → next ≡ w → to ≡ stage → Leads next n p to
  unmoved next to is same = (stage, subst (λ x. Stands x n p stage) (sym is) s, inl (sym same))

  own_line : (m : ℕ) (line : Line) → line_of w.lines m ≡ Some line → (n == m) ≡ true → s.line ≡ line
  own_line m line lined t = same_line w.lines n s.line line s.lined (subst (λ k. line_of w.lines k ≡ Some line) (sym (eqb-true n m t)) lined)

  no_line : (m : ℕ) → line_of w.lines m ≡ None → (n == m) ≡ true → ⊥
  no_line m none t =
      let clash : Some s.line ≡ None = sym s.lined ∙ ap (line_of w.lines) (eqb-true n m t) ∙ none in
      cc

  -- a stage that stays where the turn is the node's
  same_where : (m : ℕ) (to : Stage) → ((n == m) ≡ true → to ≡ stage) → (b : Bool) → (n == m) ≡ b → (if b then to else stage) ≡ stage
  same_where m to own true t = own t
  same_where m to own false t = refl

  from_leads : (m : ℕ) (next : World) → next ≡ heard_from w (line_of w.lines m) → Leads next n p (turned p n w.manager.clock (FromNode m) stage)
  from_leads m next is = by_line (line_of w.lines m) refl is
    where
      by_front : (line : Line) → line_of w.lines m ≡ Some line → (from : List Message) → line.from ≡ from → next ≡ heard_on w line from → Leads next n p (turned p n w.manager.clock (FromNode m) stage)
      by_front line lined [] front is =
          unmoved next (turned p n w.manager.clock (FromNode m) stage) is
          (same_where m (after_from p (max w.manager.clock w.manager.clock) stage)
          (λ t. quiet_from p (max w.manager.clock w.manager.clock) stage s.node s.line s.at (ap (λ l. l.from) (own_line m line lined t) ∙ front)) (n == m) refl)
      by_front line lined (frame ∷ rest) front is =
          subst (λ x. Leads x n p (turned p n w.manager.clock (FromNode m) stage)) (sym is) (frame_stands plans good w h m line lined frame rest front n p e stage s)

      by_line : (o : Option Line) → line_of w.lines m ≡ o → next ≡ heard_from w o → Leads next n p (turned p n w.manager.clock (FromNode m) stage)
      by_line None lined is =
          unmoved next (turned p n w.manager.clock (FromNode m) stage) is
          (same_where m (after_from p (max w.manager.clock w.manager.clock) stage) (λ t. absurd (no_line m lined t)) (n == m) refl)
      by_line (Some line) lined is = by_front line lined line.from refl is

  to_leads : (m : ℕ) (next : World) → DeliversTo w (line_of w.lines m) next → Leads next n p (turned p n w.manager.clock (ToNode m) stage)
  to_leads m next is = by_line (line_of w.lines m) refl is
    where
      stays_put : (line : Line) → line_of w.lines m ≡ Some line → (line.device ≡ None) ⊎ (line.to ≡ []) → (if n == m then after_to stage else stage) ≡ stage
      stays_put line lined none =
          same_where m (after_to stage)
          (λ t. quiet_to p stage s.node s.line s.at (subst (λ l. (l.device ≡ None) ⊎ (l.to ≡ [])) (sym (own_line m line lined t)) none)) (n == m) refl

      by_front : (line : Line) → line_of w.lines m ≡ Some line → (device : Option Attached) → line.device ≡ device → (to : List Message) → line.to ≡ to → Delivers w line device to next
          → Leads next n p (turned p n w.manager.clock (ToNode m) stage)
      by_front line lined None a to b is = unmoved next (turned p n w.manager.clock (ToNode m) stage) is (stays_put line lined (inl a))
      by_front line lined (Some d) a [] b is = unmoved next (turned p n w.manager.clock (ToNode m) stage) is (stays_put line lined (inr b))
      by_front line lined (Some d) a (frame ∷ rest) b (r, may, is) = (
        turned p n w.manager.clock (ToNode m) stage,
        subst (λ x. Stands x n p (turned p n w.manager.clock (ToNode m) stage)) (sym is) (to_stands plans good w h m line d frame rest r lined a b may n p e stage s (n == m) refl),
        inl refl,
      )

      by_line : (o : Option Line) → line_of w.lines m ≡ o → DeliversTo w o next → Leads next n p (turned p n w.manager.clock (ToNode m) stage)
      by_line None lined is =
          unmoved next (turned p n w.manager.clock (ToNode m) stage) is (same_where m (after_to stage) (λ t. absurd (no_line m lined t)) (n == m) refl)
      by_line (Some line) lined is = by_front line lined line.device refl line.to refl is

  turn_leads : (turn : Turn) (next : World) → Takes w turn next → Leads next n p (turned p n w.manager.clock turn stage)
  turn_leads (ToNode m) next is = to_leads m next is
  turn_leads (FromNode m) next is = from_leads m next is
  turn_leads (Moment now) next is = (
    after_moment p (max w.manager.clock now) stage,
    subst (λ x. Stands x n p (after_moment p (max w.manager.clock now) stage)) (sym is) (moment_stands plans good w h now n p e stage s),
    inl refl,
  )

-- ---- the clock stays below the bound

max_below : (a b k : ℕ) → a < k → b < k → max a b < k
max_below a b k h g = omega (arith, h, g)

heard_clock : (m : Managing) (frame : Message) → m.begun ≡ true → m.clock < 4000000 → (heard m frame m.clock).manager.clock < 4000000
heard_clock m frame began low =
    let clock = max m.clock m.clock in
    let is : (heard m frame m.clock).manager.clock ≡ clock =
    ap (λ o. o.manager.clock) (heard_begun m frame m.clock began) ∙ (starting_so (moved (heard_by frame clock) (at_least m m.clock)) (sent_by (heard_by frame clock) m.nodes)).1 in
    subst (λ c. c < 4000000) (sym is) (max_below m.clock m.clock 4000000 low low)

-- a turn hands in no moment from a bound on
abbrev IsBelow : ℕ → Turn → Type 0
IsBelow bound (Moment now) = now < bound
IsBelow bound (ToNode m) = Unit {0}
IsBelow bound (FromNode m) = Unit {0}

turn_clock : (w : World) → w.manager.begun ≡ true → w.manager.clock < 4000000 → (turn : Turn) (next : World) → IsBelow 4000000 turn → Takes w turn next → next.manager.clock < 4000000
turn_clock w began low (Moment now) next below is =
    let passed_at : (passed w.manager now).manager.clock ≡ max w.manager.clock now = ap (λ o. o.manager.clock) (passed_begun w.manager now began) in
    subst (λ c. c < 4000000) (sym (ap (λ x. x.manager.clock) is ∙ passed_at)) (max_below w.manager.clock now 4000000 low below)
turn_clock w began low (FromNode m) next below is = by_line (line_of w.lines m) is
  where
    by_front : (line : Line) (from : List Message) → next ≡ heard_on w line from → next.manager.clock < 4000000
    by_front line [] is = subst (λ x. x.manager.clock < 4000000) (sym is) low
    by_front line (frame ∷ rest) is = subst (λ x. x.manager.clock < 4000000) (sym is) (heard_clock w.manager frame began low)

    by_line : (o : Option Line) → next ≡ heard_from w o → next.manager.clock < 4000000
    by_line None is = subst (λ x. x.manager.clock < 4000000) (sym is) low
    by_line (Some line) is = by_front line line.from is
turn_clock w began low (ToNode m) next below is = by_line (line_of w.lines m) is
  where
    by_front : (line : Line) (device : Option Attached) (to : List Message) → Delivers w line device to next → next.manager.clock < 4000000
    by_front line None to is = subst (λ x. x.manager.clock < 4000000) (sym is) low
    by_front line (Some d) [] is = subst (λ x. x.manager.clock < 4000000) (sym is) low
    by_front line (Some d) (frame ∷ rest) (r, may, is) = subst (λ x. x.manager.clock < 4000000) (sym is) low

    by_line : (o : Option Line) → DeliversTo w o next → next.manager.clock < 4000000
    by_line None is = subst (λ x. x.manager.clock < 4000000) (sym is) low
    by_line (Some line) is = by_front line line.device line.to is

-- ---- all turns

-- what is left of some round trips, begun with a turn from the node or with one to it
abbrev wanted : ℕ → Bool → ℕ → List Turn
wanted n true j = FromNode n ∷ round_trips n j
wanted n false j = round_trips n j

abbrev left_of : Bool → ℕ → ℕ
left_of true j = 2 * j + 1
left_of false j = 2 * j

-- a node stands at a stage from which so many turns make it ready
abbrev Nears : World → ℕ → Plan → ℕ → Type 0
Nears w n p left = (stage : Stage) × Stands w n p stage × HasLeft p stage left

nears : (w : World) (n : ℕ) (p : Plan) (stage : Stage) (left : ℕ) → Leads w n p stage → HasLeft p stage left → Nears w n p left
nears w n p stage left (later, stands, inl is) has = (later, stands, subst (λ x. HasLeft p x left) (sym is) has)
nears w n p stage left (later, stands, inr is) has = (later, stands, subst (λ x. HasLeft p x left) (sym is) tt)

-- any turn leaves no more
turned_keeps : (p : Plan) (n clock : ℕ) (turn : Turn) (stage : Stage) (left : ℕ) → 4000000 ≤ p.limit → clock < 4000000 → IsBelow 4000000 turn → HasLeft p stage left → HasLeft p (turned p n clock turn stage) left
turned_keeps p n clock (Moment now) stage left patient low below has = moment_keeps p (max clock now) stage left patient (max_below clock now 4000000 low below) has
turned_keeps p n clock (ToNode m) stage left patient low below has = by_test (n == m)
  where
    by_test : (b : Bool) → HasLeft p (if b then after_to stage else stage) left
    by_test true = to_keeps p stage left has
    by_test false = has
turned_keeps p n clock (FromNode m) stage left patient low below has = by_test (n == m)
  where
    by_test : (b : Bool) → HasLeft p (if b then after_from p (max clock clock) stage else stage) left
    by_test true = from_keeps p (max clock clock) stage left has
    by_test false = has

split_below : (bound : ℕ) (turn : Turn) (turns : List Turn) → MomentsBelow bound (turn ∷ turns) → IsBelow bound turn × MomentsBelow bound turns
split_below bound (Moment now) turns h = h
split_below bound (ToNode m) turns h = (tt, h)
split_below bound (FromNode m) turns h = (tt, h)

-- nothing is left
done_at : (p : Plan) (stage : Stage) → HasLeft p stage 0 → stage ≡ Done
done_at p (Resetting since true) h = absurd (omega (arith, h))
done_at p (Resetting since false) h = absurd h
done_at p (Booting since) h = absurd (omega (arith, h))
done_at p (Asked done since s more) h = absurd (omega (arith, h))
done_at p (Confirmed done since s more) h = absurd (omega (arith, h))
done_at p Done h = refl
done_at p Lost h = absurd h

module _ (plans : ℕ → Option Plan) (good : ArePlans plans) (n : ℕ) (p : Plan) (e : plans n ≡ Some p) (patient : 4000000 ≤ p.limit) where
  nears_end : (turns : List Turn) (w last : World) → Holds plans w → w.manager.clock < 4000000 → MomentsBelow 4000000 turns → TakesAll w turns last
      → (b : Bool) (j : ℕ) → Nears w n p (left_of b j) → StandAmong (wanted n b j) turns → Stands last n p Done
  nears_end [] w last h low below takes true j near among = absurd among
  nears_end [] w last h low below takes false (suc j) near among = absurd among
  nears_end [] w last h low below takes false zero (stage, stands, has) among =
      subst (λ x. Stands x n p Done) (sym takes) (subst (Stands w n p) (done_at p stage has) stands)
  nears_end (turn ∷ turns) w last h low below (between, takes, more) b j (stage, stands, has) among =
      by_wanted b j (nears_end turns between last next clock split.1 more) has among
    where
      split : IsBelow 4000000 turn × MomentsBelow 4000000 turns
      split = split_below 4000000 turn turns below

      next : Holds plans between
      next = turn_holds plans good w h turn between takes

      clock : between.manager.clock < 4000000
      clock = turn_clock w h.begun low turn between split.0 takes

      leads : Leads between n p (turned p n w.manager.clock turn stage)
      leads = turn_leads plans good w h n p e stage stands turn between takes

      skipped : (left : ℕ) → HasLeft p stage left → Nears between n p left
      skipped left has = nears between n p (turned p n w.manager.clock turn stage) left leads (turned_keeps p n w.manager.clock turn stage left patient low split.0 has)

      to_it : ToNode n ≡ turn → (j : ℕ) → HasLeft p stage (2 * suc j) → Nears between n p (2 * j + 1)
      to_it is j has =
          let same : turned p n w.manager.clock turn stage ≡ after_to stage = ap (λ t. turned p n w.manager.clock t stage) (sym is) ∙ rw (same_number n) refl in
          let plain : 2 * suc j ≡ 2 * j + 2 = omega arith in
          nears between n p (turned p n w.manager.clock turn stage) (2 * j + 1) leads (subst (λ x. HasLeft p x (2 * j + 1)) (sym same) (to_less p stage j (subst (HasLeft p stage) plain has)))

      from_it : FromNode n ≡ turn → (j : ℕ) → HasLeft p stage (2 * j + 1) → Nears between n p (2 * j)
      from_it is j has =
          let same : turned p n w.manager.clock turn stage ≡ after_from p (max w.manager.clock w.manager.clock) stage = ap (λ t. turned p n w.manager.clock t stage) (sym is) ∙ rw (same_number n) refl in
          nears between n p (turned p n w.manager.clock turn stage) (2 * j) leads (subst (λ x. HasLeft p x (2 * j)) (sym same) (from_less p (max w.manager.clock w.manager.clock) stage j has))

      by_wanted : (b : Bool) (j : ℕ) → ((b : Bool) (j : ℕ) → Nears between n p (left_of b j) → StandAmong (wanted n b j) turns → Stands last n p Done)
          → HasLeft p stage (left_of b j) → StandAmong (wanted n b j) (turn ∷ turns) → Stands last n p Done
      by_wanted true j later has (inl (is, rest)) = later false j (from_it is j has) rest
      by_wanted true j later has (inr rest) = later true j (skipped (2 * j + 1) has) rest
      by_wanted false zero later has among = later false zero (skipped 0 has) tt
      by_wanted false (suc j) later has (inl (is, rest)) = later true j (to_it is j has) rest
      by_wanted false (suc j) later has (inr rest) = later false (suc j) (skipped (2 * suc j) has) rest

-- a node with a device is ready in time
pub ready_so : (m : Managing) (devices : List Attached) (built : ℕ → List Entry) (turns : List Turn) (w : World) → CanBoot m devices built → Boots m devices turns w
    → ReadyInTime m devices turns w.manager
ready_so m devices built turns w can boots number node at there below among =
    ap (option_and_then (λ node. end_in node.phase)) done.found ∙ ap (λ (x : Node). end_in x.phase) done.at.2
  where
    planned_at : plans_of built m.nodes number ≡ Some (plan built number node)
    planned_at = ap (option_map (plan built number)) at

    done : Stands w number (plan built number node) Done
    done =
        nears_end (plans_of built m.nodes) (good m devices built can) number (plan built number node) planned_at (can.patient number node at) turns (begins m devices) w (begun m devices built can) (omega arith) below boots
        false (suc (length node.settings)) (Resetting 0 true, first_stands m devices built can number node at there, omega arith) among
