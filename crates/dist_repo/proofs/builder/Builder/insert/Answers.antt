use Rattle.std.proofs.Common.{List, subst, sym, ◌∷◌, refl}
use Rattle.std.specs.Prelude.{IsPermutation}
use Rattle.dist_repo.specs.Held.{Held, IsFree}
use Rattle.dist_repo.proofs.HeldLemmas.{insert-permutes, in-order}
use Rattle.dist_repo.proofs.builder.Builder.insert.Goals as goal

pub returns-in-Err-clause-in_order : goal.returns-in-Err-clause-in_order
returns-in-Err-clause-in_order c = in-order c.insert.new.self.entries c.in-Err.ensures.ordered

pub returns-clause-in_order : goal.returns-clause-in_order
returns-clause-in_order c = in-order c.insert.new.self.entries c.in_default.ensures.ordered

pub returns-clause-new : goal.returns-clause-new
returns-clause-new c =
    let old = c.self.inside.packages.entries in
    let Free : List Held → Type 0 = λ held. IsFree held c.args.key in
    let Adds : List Held → Type 0 = λ held. IsPermutation ((c.args.key, c.args.line) ∷ held) c.insert.new.self.entries in
    let Gives : List Held → Type 0 = λ held. IsPermutation ((c.args.key, c.args.line) ∷ old) held in (
      refl,
      subst Adds c.self.view_is (subst Gives (sym c.in_default.ensures.entries)
          (insert-permutes old c.args.key c.args.line (subst Free (sym c.self.view_is) c.requires.free))),
    )
