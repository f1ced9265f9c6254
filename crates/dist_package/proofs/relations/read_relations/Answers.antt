use Rattle.std.proofs.Common.{inl, inr}
use Rattle.dist_package.proofs.FieldLemmas.{bad-weaker}
use Rattle.dist_package.proofs.relations.read_relations.Goals as goal

pub returns-in-Err-provides_of : goal.returns-in-Err-provides_of
returns-in-Err-provides_of c =
    elim c.in-Err-provides_of.ensures [
      | inl none ↦ inl none
      | inr fault ↦ inr (bad-weaker _ _ (λ f h. inr (
        (c.in-Ok.items, c.in-Ok.ensures),
        inr (
          (c.in-Ok-items_of.items, c.in-Ok-items_of.ensures),
          inr ((c.in-Ok-atoms_of.atoms, c.in-Ok-atoms_of.ensures), inr ((c.in-Ok-atoms_of-2.atoms, c.in-Ok-atoms_of-2.ensures), inl h)),
        ),
      )) _ fault)
    ]
