use Rattle.std.proofs.Common.{◌∙◌, List, ℕ, ap, arith, sym}
use Rattle.dist_cert.specs.Rising.{is_among}
use Rattle.dist_covering.proofs.UsedSteps.{among-flags, among-none}
use Rattle.dist_covering.proofs.used.Used.has.Goals as goal
use Rattle.dist_covering.proofs.used.Used.has.Goals.{then-number-eq0-via-then-number-eq0, then-number-eq0-via-else-number-eq0+then-number-self}

pub returns-then-number-eq0 : goal.returns-then-number-eq0
returns-then-number-eq0 c =
    let flags = c.self.inside.flags in
    let same = ap (λ (ns : List ℕ). is_among ns c.args.number) (sym c.self.invariant.0 ∙ c.self.view_is) in
    elim c.then-number-eq0.branch [
      | then-number-eq0-via-then-number-eq0 w ↦ among-none flags c.args.number (λ from upto. omega (arith, from, w.if-number-eq0.true)) ∙ same
      | then-number-eq0-via-else-number-eq0+then-number-self w ↦
          among-none flags c.args.number (λ from upto. omega (arith, upto, c.self.invariant.1, w.if-number-self.true)) ∙ same
    ]

pub returns : goal.returns
returns c =
    c.value.ensures
    ∙ among-flags c.self.inside.flags c.args.number (omega (arith, c.if-number-eq0.false)) (omega (arith, c.if-number-self.false, c.self.invariant.1))
    ∙ ap (λ (ns : List ℕ). is_among ns c.args.number) (sym c.self.invariant.0 ∙ c.self.view_is)
