use Rattle.std.proofs.Common.{◌≡◌, ◌++◌, ◌∷◌, [], inl, inr, List, ℕ, Some, ap, subst, sym}
use Rattle.std.specs.Prelude.{Contains}
use Rattle.std.proofs.lemmas.List.Elements.{Contains-append_left, Contains-push, Contains-push_cases}
use Rattle.dist_repair.proofs.moved.push_cluster.Goals as goal

pub returns-in_ok-push-in-Some : goal.returns-in_ok-push-in-Some
returns-in_ok-push-in-Some c = λ cluster.
    let old : List ℕ = c.args.clusters.now.items in
    let last : ℕ = c.in-Some.cluster in (
      λ there. elim (Contains-push_cases old last cluster (subst (λ (xs : List ℕ). Contains xs cluster) c.in_ok-push-in-Some.ensures.items there)) [
        | inl earlier ↦ inl earlier
        | inr here ↦ inr ((c.in-Some.ensures cluster).1 (ap (λ (n : ℕ). Some n) here))
      ],
      λ either. subst (λ (xs : List ℕ). Contains xs cluster) (sym c.in_ok-push-in-Some.ensures.items) (elim either [
        | inl earlier ↦ Contains-append_left old (last ∷ []) cluster earlier
        | inr class ↦
            let found = (c.in-Some.ensures cluster).0 class in
            let same : last ≡ cluster = cc in
            subst (λ (n : ℕ). Contains (old ++ last ∷ []) n) same (Contains-push old last)
      ]),
    )

pub returns-in-None : goal.returns-in-None
returns-in-None c = λ cluster. (
  λ there. inl there,
  λ either. elim either [
    | inl earlier ↦ earlier
    | inr class ↦ let found = (c.in-None.ensures cluster).0 class in cc
  ],
)
