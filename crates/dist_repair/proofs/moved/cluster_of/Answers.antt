use Rattle.std.proofs.Common.{◌≡◌, ◌∙◌, arith, subst, sym}
use Rattle.dist_space.specs.VariableLaws.{one-meaning, variable-range}
use Rattle.dist_space.specs.Space.{SpaceView}
use Rattle.dist_space.specs.declared.meaning.Meaning.TheVariants.{At}
use Rattle.dist_repair.proofs.MovedLemmas.{class-within}
use Rattle.dist_repair.specs.NotesPrivate.{IsClassOf}
use Rattle.dist_repair.proofs.moved.cluster_of.Goals as goal

pub returns-then-variable-variables : goal.returns-then-variable-variables
returns-then-variable-variables c = λ cluster. (
  λ h.
      let range = variable-range c.args.space.now (At cluster h.1) c.variables.ensures.space h.2 in
      absurd (omega (arith, range.1, h.3, c.variables.ensures.value, c.if-variable-variables.true)),
  λ e. cc,
)

pub returns-in-At : goal.returns-in-At
returns-in-At c = λ cluster.
    let s : SpaceView = c.args.space.now in
    let space = c.variables.ensures.space in (
      λ h.
          let same = one-meaning s (At cluster h.1) c.meaning.result space h.2 c.meaning.ensures.is_meaning (h.3 ∙ sym c.meaning.ensures.back) in
          cc (same, c.in-At.is),
      λ e.
          let same : c.in-At.cluster ≡ cluster = cc in
          subst (IsClassOf s c.args.variable) same (
            class-within s c.in-At.cluster c.in-At.field-1 space c.in-At.ensures.is_meaning,
            c.in-At.field-1,
            c.in-At.ensures.is_meaning,
            c.in-At.ensures.back,
          ),
    )

pub returns-in_default : goal.returns-in_default
returns-in_default c = λ cluster. (
  λ h. absurd (c.in_default.not-At cluster h.1
      (sym (one-meaning c.args.space.now (At cluster h.1) c.meaning.result c.variables.ensures.space h.2 c.meaning.ensures.is_meaning
      (h.3 ∙ sym c.meaning.ensures.back)))),
  λ e. cc,
)
