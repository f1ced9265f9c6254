use Rattle.std.proofs.Common.{◌≡◌, length, get_or, take, ap, sym, subst, arith, ◌∙◌}
use Rattle.std.specs.Vec.{vec_capacity}
use Rattle.dist_derive.specs.TrueLiterals.{LiteralList}
use Rattle.dist_search.specs.Trail.{TrailState}
use Rattle.dist_search.specs.TrailPrivate.{IsTrailKept}
use Rattle.dist_search.proofs.TrailLemmas.{IsTrailKept-back}
use Rattle.dist_search.proofs.trail.Trail.back_to.Goals as goal

pub invariant_of-self : goal.invariant_of-self
invariant_of-self c =
    let trues = c.self.inside.trues in
    let numbers = c.self.inside.reasons.items in
    let seats = c.self.inside.places.items in
    let starts = c.self.inside.starts.items in
    let level = c.args.level in
    let start = c.start-start.result in
    let room = vec_capacity c.self.inside.reasons in
    let other = vec_capacity c.self.inside.starts in
    let same = ap (λ (t : TrailState). t.starts) c.self.view_is in
    let value : start ≡ get_or starts level 0 = c.start-start.ensures.value ∙ ap (λ ss. get_or ss level 0) (sym same) in
    let back = IsTrailKept-back trues numbers seats starts c.self.inside.head room other level c.self.invariant
    (omega (arith, ap length same, c.requires)) in
    let kept = subst (λ s. IsTrailKept (record trues { literals = take s trues.literals }) (take s numbers) seats (take level starts) s room other)
    (sym value) back in
    subst (λ (t : LiteralList). IsTrailKept t c.truncate-2.new.self.items seats c.truncate-3.new.self.items start (vec_capacity c.truncate-2.new.self)
    (vec_capacity c.truncate-3.new.self)) (sym c.truncate.ensures)
    (subst (λ ns. IsTrailKept (record trues { literals = take start trues.literals }) ns seats c.truncate-3.new.self.items start
    (vec_capacity c.truncate-2.new.self) (vec_capacity c.truncate-3.new.self)) (sym c.truncate-2.ensures.items)
    (subst (λ ss. IsTrailKept (record trues { literals = take start trues.literals }) (take start numbers) seats ss start
    (vec_capacity c.truncate-2.new.self) (vec_capacity c.truncate-3.new.self)) (sym c.truncate-3.ensures.items)
    (subst (λ n. IsTrailKept (record trues { literals = take start trues.literals }) (take start numbers) seats (take level starts) start
    n (vec_capacity c.truncate-3.new.self)) (sym c.truncate-2.ensures.capacity)
    (subst (λ n. IsTrailKept (record trues { literals = take start trues.literals }) (take start numbers) seats (take level starts) start
    room n) (sym c.truncate-3.ensures.capacity) kept))))
