use Rattle.std.proofs.Common.{◌≡◌, ◌∙◌, ◌<◌, ◌-◌, List, ℕ, ap, arith, get_or, length, subst, sym}
use Rattle.std.proofs.lemmas.Bool.{ltb-true}
use Rattle.std.proofs.lemmas.List.{get_or_default}
use Rattle.dist_derive.proofs.denials.Denials.ends_before.Goals as goal

pub returns : goal.returns
returns c = λ yes. subst (λ (ps : List (ℕ × ℕ)). (k : ℕ) (d : ℕ × ℕ) → k < c.args.place → (get_or ps k d).0 < c.args.variable) c.self.view_is
    (λ k d lower.
    let pairs : List (ℕ × ℕ) = c.self.inside.pairs.items in
    let last : ℕ = c.args.place - 1 in
    let x : ℕ × ℕ = c.index.result.now in
    let within : last < length pairs = omega (arith, lower, c.if-place-len.false, c.len.ensures) in
    let here : get_or pairs last x ≡ x = sym c.index.ensures in
    let same : (get_or pairs last d).0 ≡ x.0 = ap (λ (y : ℕ × ℕ). y.0) (get_or_default pairs last d x within ∙ here) in
    omega (arith, c.self.invariant k last d (omega (arith, lower)) within, same, ltb-true x.0 c.args.variable yes))
