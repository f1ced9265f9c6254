use Rattle.std.proofs.Common.{◌≡◌, ◌⊎◌, ◌++◌, ℕ, List, Option, Some, None, MatchOption, Bor, inl, inr, subst, sym}
use Rattle.std.specs.Prelude.{codes}
use Rattle.std.specs.Option.{option_or}
use Rattle.dist_bench.specs.Relations.{IsField}
use Rattle.dist_bench.specs.declared.relations.Kind.{Kind}
use Rattle.dist_bench.proofs.relations.value_of.Goals as goal

-- the first of two that is found, or neither
either : (P Q : List ℕ → Type 0) (a b : Option (Bor (List ℕ))) → MatchOption a ((v : List ℕ) → ¬ P v) (λ x. P x.now)
    → MatchOption b ((v : List ℕ) → ¬ Q v) (λ x. Q x.now)
    → MatchOption (option_or a b) ((v : List ℕ) → ¬ (P v ⊎ Q v)) (λ x. P x.now ⊎ Q x.now)
either P Q (Some x) b first second = inl first
either P Q None (Some y) first second = inr second
either P Q None None first second = λ v found. elim found [
  | inl here ↦ first v here
  | inr there ↦ second v there
]

pub returns-in-Depends : goal.returns-in-Depends
returns-in-Depends c =
    let line : List ℕ = c.args.line.now in
    let found = either (λ v. line ≡ codes "Depends: " ++ v) (λ v. line ≡ codes "Pre-Depends: " ++ v) c.behind.result c.behind-in-Depends.result c.behind.ensures
    c.behind-in-Depends.ensures in
    subst (λ (kind : Kind). MatchOption c.or.result ((value : List ℕ) → ¬ IsField line kind value) (λ value. IsField line kind value.now)) (sym c.in-Depends.is)
    (subst (λ (r : Option (Bor (List ℕ))). MatchOption r ((value : List ℕ) → ¬ ((line ≡ codes "Depends: " ++ value) ⊎ (line ≡ codes "Pre-Depends: " ++ value)))
    (λ value. (line ≡ codes "Depends: " ++ value.now) ⊎ (line ≡ codes "Pre-Depends: " ++ value.now))) (sym c.or.ensures) found)
