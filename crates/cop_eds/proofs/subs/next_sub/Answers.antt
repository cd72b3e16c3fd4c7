use Rattle.std.proofs.Common.{◌≡◌, ◌+◌, ◌-◌, ◌≤◌, ◌<◌, arith, sym, ap, ◌∙◌}
use Rattle.cop_eds.specs.Names.{sub_code}
use Rattle.cop_eds.specs.Sections.{coded_place}
use Rattle.cop_eds.proofs.SubsLemmas.{sub_there, skip, subs_end, none_left}
use Rattle.cop_eds.proofs.subs.next_sub.Goals as goal

pub returns-then-from-gt255 : goal.returns-then-from-gt255
returns-then-from-gt255 c = subs_end _ _ _ (omega arith)

pub returns-in_err-code : goal.returns-in_err-code
returns-in_err-code c = rw c.from_residual.ensures (none_left c.args.text.now c.args.index c.args.from (omega arith) (λ n low high.
    let le : c.sub_code-first.result ≤ n = omega arith in
    c.in_err-code.ensures n le))

pub returns-then-code-first : goal.returns-then-code-first
returns-then-code-first c = none_left c.args.text.now c.args.index c.args.from (omega arith) (λ n low high.
    let le : c.sub_code-first.result ≤ n = omega arith in
    let less : n < c.in_ok-code.code = omega arith in
    c.in_ok-code.ensures.2 n le less)

pub returns : goal.returns
returns c =
    let sub = c.args.from + (c.in_ok-code.code - c.sub_code-first.result) in
    let first : c.sub_code-first.result ≤ c.in_ok-code.code = c.in_ok-code.ensures.0 in
    let fits : sub ≤ 255 = omega arith in
    let same : c.in_ok-code.code ≡ sub_code c.args.index sub = omega arith in (
      omega arith,
      fits,
      skip c.args.text.now c.args.index c.args.from sub (omega arith) (omega arith) (λ n low high.
          let le : c.sub_code-first.result ≤ n = omega arith in
          let less : n < c.in_ok-code.code = omega arith in
          c.in_ok-code.ensures.2 n le less)
          ∙ sub_there c.args.text.now c.args.index sub c.in_ok-code.place (omega arith) (ap (coded_place c.args.text.now) (sym same) ∙ c.in_ok-code.ensures.1),
    )
