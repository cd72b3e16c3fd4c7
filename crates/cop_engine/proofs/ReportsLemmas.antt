-- The lines of a test, one more.
use Rattle.std.proofs.Common.{◌≡◌, ℕ, ◌+◌, List, [], ◌++◌, get_or, add-one, refl, Some, None}
use Rattle.cop_rta.specs.declared.streams.Stream.{Stream}
use Rattle.cop_rta.specs.declared.verdicts.Verdict.{Verdict}
use Rattle.cop_rta.specs.declared.verdicts.Verdict.TheVariants.{Long}
use Rattle.cop_rta.specs.Streams.{place_of_id}
use Rattle.cop_engine.specs.Reports.{lines_below, line_at, line}

pub lines_more : (f : ℕ → List ℕ) (n : ℕ) → lines_below f (n + 1) ≡ lines_below f n ++ f n
unfolding lines_below
lines_more f n = rw (add-one n) refl

pub lines_none : (f : ℕ → List ℕ) → lines_below f 0 ≡ []
unfolding lines_below
lines_none f = refl

pub line_found : (streams : List Stream) (verdicts : List Verdict) (id place : ℕ) (v : Verdict)
    → place_of_id streams id ≡ Some place → v ≡ get_or verdicts place Long → line_at streams verdicts id ≡ line id v
line_found streams verdicts id place v e h = rw (e, h) refl

pub line_missing : (streams : List Stream) (verdicts : List Verdict) (id : ℕ)
    → place_of_id streams id ≡ None → line_at streams verdicts id ≡ []
line_missing streams verdicts id e = rw e refl
