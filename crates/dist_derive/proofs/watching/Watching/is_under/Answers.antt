use Rattle.std.proofs.Common.{sym, ap, ◌∙◌}
use Rattle.std.proofs.lemmas.Bool.Decides.{Decides-eqb}
use Rattle.std.proofs.lemmas.Slice.Eq.{slice_eq-Decides}
use Rattle.dist_clause.specs.Formula.{Literal}
use Rattle.dist_derive.specs.OccurrencesPrivate.{code_of}
use Rattle.dist_derive.specs.WatchesPrivate.{WatchingState}
use Rattle.dist_derive.proofs.LiteralLemmas.{same_code}
use Rattle.dist_derive.proofs.watching.Watching.is_under.Goals as goal

pub returns : goal.returns
returns c e =
    let same = (slice_eq-Decides (λ (a b : Literal). (
      λ r. same_code a b ((Decides-eqb (code_of a) (code_of b)).0 r),
      λ r. (Decides-eqb (code_of a) (code_of b)).1 (ap code_of r),
    )) c.as_slice.result.now c.args.assumptions.now c.eq.result c.eq.ensures).0 e in
    ap (λ (w : WatchingState). w.assumptions) (sym c.self.view_is) ∙ (sym c.as_slice.ensures.value ∙ same)
