use Rattle.std.proofs.Common.{◌≡◌, ◌∙◌, refl, sym, subst, suc, Bool, true, false}
use Rattle.std.specs.Prelude.{◌&&◌, is_none, Option, Some, None}
use Rattle.cop_log.specs.declared.findings.Finding.{Finding}
use Rattle.cop_log.specs.Log.{Terms}
use Rattle.cop_log.specs.Watching.{IsRising}
use Rattle.cop_log.specs.Watchers.{terms_of}
use Rattle.cop_log.proofs.Risen.{weaken}
use Rattle.cop_log.proofs.watcher.Watcher.rise.Goals as goal

both_true : (c : Bool) (o : Option Finding) → o ≡ None → c ≡ true → (c && is_none o) ≡ true
both_true c o e h = rw (e, h) refl

and_true : (c : Bool) → c ≡ (c && true)
and_true true = refl
and_true false = refl

and_false : (c : Bool) → false ≡ (c && false)
and_false true = refl
and_false false = refl

pub returns-in-Some-clause-clean : goal.returns-in-Some-clause-clean
returns-in-Some-clause-clean c = c.restart.ensures.clean ∙ and_false c.args.self.now.is_clean

pub returns-in-None-clause-clean : goal.returns-in-None-clause-clean
returns-in-None-clause-clean c = and_true c.args.self.now.is_clean

pub returns-in-Some-clause-shown : goal.returns-in-Some-clause-shown
returns-in-Some-clause-shown c f e = c.rise_next-rise.ensures.shown f (c.in-Some.is ∙ e)

pub returns-in-Some-clause-kept : goal.returns-in-Some-clause-kept
returns-in-Some-clause-kept c log within same k =
    let w = c.args.self.now in
    let v = c.restart.new.self in
    let rise = c.rise_next-rise.result in
    let risen = c.rise_next-rise.ensures.risen log w.is_clean within (sym same) k.rising in
    let base = weaken w.clock log (suc w.number) (Some rise.top) (w.is_clean && is_none rise.fallen) false (λ e. absurd (cc)) risen.rising in (
      λ f e. risen.evident f (c.in-Some.is ∙ e) (terms_of w) refl,
      record {
        stands = c.restart.ensures.kept log k.stands;
        rising = subst (λ (t : Terms). IsRising t.clock log (suc v.number) v.top v.is_clean) (sym c.restart.ensures.same.0)
            (subst (λ n. IsRising w.clock log (suc n) v.top v.is_clean) (sym c.restart.ensures.same.1)
            (subst (λ x. IsRising w.clock log (suc w.number) x v.is_clean) (sym c.restart.ensures.same.2)
            (subst (λ b. IsRising w.clock log (suc w.number) (Some rise.top) b) (sym c.restart.ensures.clean) base)));
      },
    )

pub returns-in-None-clause-kept : goal.returns-in-None-clause-kept
returns-in-None-clause-kept c log within same k =
    let w = c.args.self.now in
    let rise = c.rise_next-rise.result in
    let risen = c.rise_next-rise.ensures.risen log w.is_clean within (sym same) k.rising in (
      λ f e. absurd (cc),
      record {
        stands = k.stands;
        rising = weaken w.clock log (suc w.number) (Some rise.top) (w.is_clean && is_none rise.fallen) w.is_clean (both_true w.is_clean rise.fallen c.in-None.is) risen.rising;
      },
    )
