use Rattle.std.proofs.Common.{◌∙◌, ap, subst, sym}
use Rattle.dist_cert.specs.Rising.{AreRising}
use Rattle.dist_covering.specs.Group.{GroupView}
use Rattle.dist_covering.proofs.group.Group.unasked.Goals as goal

pub has-requires : goal.has-requires
has-requires c =
    subst AreRising (sym (ap (λ (v : GroupView). v.undecided) c.self.view_is) ∙ sym c.deref.ensures.value) c.requires.undecided

pub has-requires-then-not-has : goal.has-requires-then-not-has
has-requires-then-not-has c =
    subst AreRising (sym (ap (λ (v : GroupView). v.refuted) c.self.view_is) ∙ sym c.deref-then-not-has.ensures.value) c.requires.refuted
