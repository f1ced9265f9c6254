use Rattle.std.proofs.Common.{inl, inr, subst, ◌∙◌}
use Rattle.dist_package.specs.Source.{IsNoVersionPart}
use Rattle.dist_package.proofs.FieldLemmas.{part-is}
use Rattle.dist_package.proofs.source.source_of.Goals as goal

pub returns-in-Err-version_of : goal.returns-in-Err-version_of
returns-in-Err-version_of c =
    elim c.in-Err-version_of.ensures [
      | inl none ↦ inl none
      | inr fault ↦ inr (
        fault.0,
        inr (subst IsNoVersionPart
            (c.trimmed.ensures ∙ part-is c.args.value.now c.name_end-end.result c.name_end-end.ensures.place c.name_end-end.ensures.within) fault.1),
      )
    ]
