use Rattle.std.proofs.Common.{inl, inr}
use Rattle.dist_package.proofs.FieldLemmas.{bad-weaker}
use Rattle.dist_package.proofs.package.read_package.Goals as goal

pub returns-in-Err-read_relations : goal.returns-in-Err-read_relations
returns-in-Err-read_relations c =
    elim c.in-Err-read_relations.ensures [
      | inl none ↦ inl none
      | inr fault ↦ inr (bad-weaker _ _ (λ f h. inr (
        (c.in-Ok.name, c.in-Ok.ensures),
        inr (
          (c.in-Ok-read_version.version, c.in-Ok-read_version.ensures),
          inr (
            (c.in-Ok.name, c.in-Ok-read_version.version, c.in-Ok-read_source.source, c.in-Ok-read_source.source_version, c.in-Ok-read_source.ensures),
            inr ((_, c.in-Ok-read_architecture.ensures.0), h),
          ),
        ),
      )) _ fault)
    ]
