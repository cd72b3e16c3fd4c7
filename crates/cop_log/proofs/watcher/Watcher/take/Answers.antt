use Rattle.std.proofs.Common.{◌≡◌, ◌∙◌, ◌<◌, length, sym, ap, subst, arith}
use Rattle.std.specs.Prelude.{◌&&◌, IfNone, IfSome, Some}
use Rattle.std.specs.Option.{ForSome}
use Rattle.cop_rta.specs.Streams.{AreDistinct, place_of_id}
use Rattle.cop_lines.specs.declared.entries.Entry.{Entry}
use Rattle.cop_log.specs.declared.findings.Finding.TheVariants.{Soon, Crowded}
use Rattle.cop_log.specs.Log.{Terms, IsLaneOf, IsEvidence, entry_at}
use Rattle.cop_log.specs.Watching.{lane_of, IsNamed, IsTold}
use Rattle.cop_log.specs.Watchers.{terms_of, named_by, HasNoLane, HasLane, IsStepOfAll}
use Rattle.cop_log.proofs.Taken.{taken}
use Rattle.cop_log.proofs.watcher.Watcher.take.Goals as goal

pub returns-clause-shown : goal.returns-clause-shown
returns-clause-shown c =
    let terms = c.rise-fallen.ensures.same.0 in
    let number = c.rise-fallen.ensures.same.1 in
    let id = c.args.entry.now.id in
    let w = c.rise-fallen.new.self in
    let streams = w.streams.now in
    record {
      named = (c.naming_of.result, c.named-named.ensures ∙ ap (named_by c.naming_of.result) number);
      soon = λ f e.
          let s = c.step-soon.ensures.shown f e in (
            s.0.place,
            lane_of s.0.watch,
            s.1,
            subst (λ t. IsLaneOf t s.0.place (lane_of s.0.watch)) terms
                (subst (λ o. IfSome o (λ x. HasLane (terms_of w) x.place (lane_of x.watch) id)) s.2
                (subst (λ bounds. IfSome c.seek-placed.result (λ x. HasLane (record { rate = w.rate; streams = w.streams.now; bounds = bounds; clock = w.clock }) x.place (lane_of x.watch) id)) c.deref.ensures.value c.seek-placed.ensures.some)).0,
            subst (λ ss. place_of_id ss id ≡ Some s.0.place) (ap (λ (t : Terms). t.streams) terms)
                (subst (λ o. IfSome o (λ x. place_of_id streams id ≡ Some x.place)) s.2 c.seek-placed.ensures.its),
            c.rise-fallen.ensures.anchors s.0.place s.1 s.3,
            s.4 ∙ ap (λ n. Soon s.1.from n s.1.count) number,
          );
      crowded = λ f e. let s = c.load_next-load.ensures.shown f e in (s.0, c.rise-fallen.ensures.pile s.0 s.1, s.2 ∙ ap (λ n. Crowded s.0.from n) number);
      fallen = c.rise-fallen.ensures.shown;
    }

pub returns-clause-terms : goal.returns-clause-terms
returns-clause-terms c = c.rise-fallen.ensures.same.0

pub returns-clause-number : goal.returns-clause-number
returns-clause-number c less = let number = c.rise-fallen.ensures.same.1 in let e = c.saturating_add-self.ensures in omega (arith, e, number, less)

pub returns-clause-clean : goal.returns-clause-clean
returns-clause-clean c = c.both-self.ensures ∙ ap (λ b. c.args.self.now.is_clean && b) c.is_nothing.ensures

pub returns-clause-told : goal.returns-clause-told
returns-clause-told c log short within same kept =
    let was = c.args.self.now in
    let w = c.rise-fallen.new.self in
    let t = terms_of w in
    let fallen = c.rise-fallen.result in
    let terms = c.rise-fallen.ensures.same.0 in
    let number = c.rise-fallen.ensures.same.1 in
    let ready = c.rise-fallen.ensures.kept log within same kept in
    let inside : w.number < length log = omega (arith, number, within) in
    let here : entry_at log w.number ≡ c.args.entry.now = ap (entry_at log) number ∙ same in
    let placed = c.seek-placed.result in
    let soon = c.step-soon.result in
    let after = c.step-soon.new.anchors.items in
    let load = c.load_next-load.result in
    let stands = ready.1.stands in
    let z = taken t (subst AreDistinct c.streams-distinct.ensures.items c.streams-distinct.ensures.distinct) log w.number inside short w.is_clean was.is_clean fallen w.top
    w.anchors.items after w.pile load.pile c.naming_of.result c.named-named.result soon load.crowded placed c.saturating_add-self.result c.both-self.result
    c.rise-fallen.ensures.clean (subst (λ t. ForSome fallen (IsEvidence t log)) (sym terms) ready.0) ready.1.rising
    c.named-named.ensures (let e = c.saturating_add-self.ensures in omega (arith, e, inside, short)) (c.both-self.ensures ∙ ap (λ b. was.is_clean && b) c.is_nothing.ensures)
    (subst (λ e. IsNamed t.streams e c.naming_of.result) (sym here) c.naming_of.ensures)
    (subst (λ (e : Entry). IfNone placed (HasNoLane t e.id)) (sym here)
    (subst (λ bounds. IfNone placed (HasNoLane (record { rate = w.rate; streams = w.streams.now; bounds = bounds; clock = w.clock }) c.args.entry.now.id)) c.deref.ensures.value c.seek-placed.ensures.none))
    (subst (λ (e : Entry). IfSome placed (λ x. HasLane t x.place (lane_of x.watch) e.id)) (sym here)
    (subst (λ bounds. IfSome placed (λ x. HasLane (record { rate = w.rate; streams = w.streams.now; bounds = bounds; clock = w.clock }) x.place (lane_of x.watch) c.args.entry.now.id)) c.deref.ensures.value c.seek-placed.ensures.some))
    c.step-soon.ensures.none
    (subst (λ (e : Entry). IfSome placed (λ x. IsStepOfAll x e w.number w.anchors.items after soon)) (sym here) c.step-soon.ensures.some)
    (c.load_next-load.ensures.loaded log w.is_clean inside short here stands.held)
    stands in
    (subst (λ t. IsTold t log (record { fallen = fallen; named = c.named-named.result; soon = soon; crowded = load.crowded })) terms z.0, record { stands = z.1; rising = z.2 })
