use Rattle.std.proofs.Common.{◌≡◌, ◌+◌, List, ℕ, arith, length, subst, sym}
use Rattle.dist_clause.specs.Formula.{Literal}
use Rattle.dist_derive.specs.DenialsPrivate.{IsDenied}
use Rattle.dist_derive.proofs.DenialLemmas.{ArePairsUpTo, denials-from, no-pairs, pairs-more}
use Rattle.dist_derive.proofs.denials.pairs_of.Goals as goal

pub loop-place-init : goal.loop-place-init
loop-place-init c = subst (ArePairsUpTo c.args.clauses.now.clauses 0) (sym c.in_ok-pairs.ensures.items) (no-pairs c.args.clauses.now.clauses)

pub loop-place-preserved : goal.loop-place-preserved
loop-place-preserved c =
    subst (λ (ps : List (ℕ × ℕ)). ArePairsUpTo c.args.clauses.now.clauses (c.loop-place.place + 1) ps) (sym c.in_ok-push.ensures.items)
    (pairs-more c.args.clauses.now.clauses c.loop-place.pairs.items c.loop-place.place c.rarest_denied.result
    (subst (λ (clause : List Literal). IsDenied clause c.rarest_denied.result) c.clause.ensures.value c.rarest_denied.ensures) c.loop-place.invariant)

pub returns : goal.returns
returns c =
    let all : c.loop-place.place ≡ length c.args.clauses.now.clauses =
    omega (arith, c.loop-place-test.false, c.loop-place.auto.place-end, c.len-place-end.ensures.value) in
    denials-from c.args.clauses.now.clauses c.loop-place.pairs.items
    (subst (λ (n : ℕ). ArePairsUpTo c.args.clauses.now.clauses n c.loop-place.pairs.items) all c.loop-place.invariant)
