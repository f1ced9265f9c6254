use Rattle.std.proofs.Common.{◌≡◌, ◌∙◌, ◌<◌, ◌≤◌, List, ℕ, ap, arith, get_or, length, subst, sym}
use Rattle.std.proofs.lemmas.Bool.{leb-true}
use Rattle.std.proofs.lemmas.List.{get_or_default}
use Rattle.dist_derive.proofs.denials.Denials.begins_at.Goals as goal

pub returns : goal.returns
returns c = λ yes. subst (λ (ps : List (ℕ × ℕ)). (k : ℕ) (d : ℕ × ℕ) → c.args.place ≤ k → k < length ps → c.args.variable ≤ (get_or ps k d).0)
    c.self.view_is (λ k d from upto.
    let pairs : List (ℕ × ℕ) = c.self.inside.pairs.items in
    let place : ℕ = c.args.place in
    let x : ℕ × ℕ = c.index.result.now in
    let within : place < length pairs = omega (arith, from, upto) in
    let here : get_or pairs place x ≡ x = sym c.index.ensures in
    let same : (get_or pairs place d).0 ≡ x.0 = ap (λ (y : ℕ × ℕ). y.0) (get_or_default pairs place d x within ∙ here) in
    omega (arith, c.self.invariant place k d from upto, same, leb-true c.args.variable x.0 yes))
