use Rattle.std.proofs.Common.{◌∷◌, ◌++◌, ◌≤◌, ◌∙◌, ap, arith, map, length, List, [], ℕ}
use Rattle.dist_space.specs.declared.meaning.Meaning.{Meaning}
use Rattle.std.proofs.lemmas.List.{take_all}
use Rattle.dist_check.specs.LayoutPrivate.{owner_of}
use Rattle.dist_check.proofs.Laid.{owners-more}
use Rattle.dist_check.proofs.layout.owners.Goals as goal

pub loop-place-preserved : goal.loop-place-preserved
loop-place-preserved c =
    c.in_ok-push-2.ensures.items ∙ ap (λ (xs : List ℕ). xs ++ c.owner.result ∷ []) c.loop-place.invariant
    ∙ owners-more c.args.space.now c.loop-place.place c.owner.result c.owner.ensures

pub returns : goal.returns
returns c =
    let all : length c.args.space.now.meanings ≤ c.loop-place.place = omega (arith, c.variables-place-end.ensures.value) in
    c.loop-place.invariant ∙ ap (λ (ms : List Meaning). 0 ∷ map (owner_of c.args.space.now) ms)
    (take_all c.loop-place.place c.args.space.now.meanings all)
