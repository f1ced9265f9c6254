use Rattle.std.proofs.Common.{arith, ap, length, refl, subst}
use Rattle.std.proofs.lemmas.Bool.{false≢true}
use Rattle.dist_relation.specs.declared.atom.Provide.{Provide}
use Rattle.std.specs.Prelude.{List}
use Rattle.dist_future.specs.Future.{IsProvided}
use Rattle.dist_archive.proofs.NameLemmas.{no-elements, not-so}
use Rattle.dist_archive.proofs.fitting.is_fresh.Goals as goal

pub returns-then-is_provided : goal.returns-then-is_provided
returns-then-is_provided c = (
  (λ no. absurd (false≢true no)),
  λ fresh. absurd (fresh.1 (subst (λ name. IsProvided c.args.repo.now name) c.bytes.ensures.value (c.is_provided.ensures.0 c.if-is_provided.true))),
)

pub returns-then-len-gt0 : goal.returns-then-len-gt0
returns-then-len-gt0 c = (
  (λ no. absurd (false≢true no)),
  λ fresh.
      let none = ap (λ (l : List Provide). length l) fresh.0.provides in
      absurd (omega (arith, none, c.len.ensures, c.if-len-gt0.true)),
)

pub returns : goal.returns
returns c =
    let unprovided = subst (λ name. ¬ IsProvided c.args.repo.now name) c.bytes.ensures.value
    (not-so c.is_provided.result c.is_provided.ensures c.if-is_provided.false) in (
      (λ yes. (
        record {
          name = refl;
          version = c.keeps_invariant.ensures;
          provides = no-elements c.args.fresh.now.provides (omega (arith, c.len.ensures));
        },
        unprovided,
      )),
      λ fresh. refl,
    )
