-- Transfers that go on.
use Rattle.std.proofs.Common.{◌≡◌, ℕ, ◌+◌, ◌≤◌, List, [], ◌∷◌, ◌++◌, length, refl, sym, subst, arith, inl, inr}
use Rattle.cop_sdo.specs.Message.{Message}
use Rattle.cop_sdo.specs.Outcome as progress
use Rattle.cop_sdo.specs.Client.{Calling}
use Rattle.cop_live.specs.Log.{ByteStep, ClockStep}
use Rattle.cop_live.proofs.Sessions.{one_longer}
use Rattle.cop_transfer.specs.declared.carrying.End.{End}
use Rattle.cop_transfer.specs.declared.carrying.End.TheVariants as ends
use Rattle.cop_transfer.specs.Carrying.{Asking, Hears, Concludes, Expires, IsAnswered, IsUnanswered, Goes, IsCarried, LastFails, CarryFails}

module _ {P : Type 0} (reads writes : ByteStep P) (asks : ClockStep P) (limit : ℕ) where
  goes_more : (asking : Asking) (p : P) (steps : List Asking) (last next : Asking) (q r : P) (answer : Message) → Goes reads writes asks limit asking p steps last q
      → IsAnswered reads writes asks limit last q answer r → Hears last.client answer (progress.Send next.request) next.client → Goes reads writes asks limit asking p (steps ++ next ∷ []) next r
  goes_more asking p [] last next q r answer g answered hears = (
    answer,
    r,
    subst (λ (s : P). IsAnswered reads writes asks limit asking s answer r) (sym g.1) (subst (λ (a : Asking). IsAnswered reads writes asks limit a q answer r) g.0 answered),
    subst (λ (a : Asking). Hears a.client answer (progress.Send next.request) next.client) g.0 hears,
    (refl, refl),
  )
  goes_more asking p (step ∷ steps) last next q r answer (given, m, first, heard, rest) answered hears = (given, m, first, heard, goes_more step m steps last next q r answer rest answered hears)

  -- a transfer so far, of at least so many requests
  pub record Carries (first : Asking) (p : P) (k : ℕ) (last : Asking) (q : P) : Type 0 where
    pub steps : List Asking
    pub goes : Goes reads writes asks limit first p steps last q
    pub many : k ≤ length steps

  pub carries_first : (first last : Asking) (p : P) (k : ℕ) → last ≡ first → k ≡ 0 → Carries first p k last p
  carries_first first last p k e ek = record { steps = []; goes = (e, refl); many = omega (arith, ek) }

  pub carries_on : (first last next : Asking) (p q r : P) (k : ℕ) (answer : Message) → Carries first p k last q → IsAnswered reads writes asks limit last q answer r
      → Hears last.client answer (progress.Send next.request) next.client → Carries first p (k + 1) next r
  carries_on first last next p q r k answer h answered hears = record { steps = h.steps ++ next ∷ []; goes = goes_more first p h.steps last next q r answer h.goes answered hears; many = one_longer k h.steps next h.many }

  pub concluded_so : (first last : Asking) (p q m r : P) (k : ℕ) (answer : Message) (end : End) (later : Calling) → Carries first p k last q → IsAnswered reads writes asks limit last q answer m
      → Concludes reads writes asks last.client answer m end later r → IsCarried reads writes asks limit first p end later r
  concluded_so first last p q m r k answer end later h answered concludes = record { steps = h.steps; last = last; between = q; goes = h.goes; end_so = inl (answer, m, answered, concludes) }

  pub silent_so : (first last : Asking) (p q m r : P) (k : ℕ) (later : Calling) → Carries first p k last q → IsUnanswered reads writes asks limit last q m → Expires reads writes asks last.client m later r
      → IsCarried reads writes asks limit first p ends.Silent later r
  silent_so first last p q m r k later h unanswered expires = record { steps = h.steps; last = last; between = q; goes = h.goes; end_so = inr (refl, (m, unanswered, expires)) }

  pub gives_out : (fails : ByteStep P) (first last : Asking) (p q r : P) (k : ℕ) → Carries first p k last q → LastFails reads writes asks fails limit last q r → CarryFails reads writes asks fails limit first p r
  gives_out fails first last p q r k h f = (h.steps, last, q, h.goes, inl f)

  pub too_many_steps : (fails : ByteStep P) (first last : Asking) (p q : P) (k : ℕ) → Carries first p k last q → 18446744073709551615 ≤ k → CarryFails reads writes asks fails limit first p q
  too_many_steps fails first last p q k h enough = let many = h.many in (h.steps, last, q, h.goes, inr (refl, omega (arith, many, enough)))
