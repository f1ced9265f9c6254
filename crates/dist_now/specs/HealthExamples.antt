-- A worked example of health: package a depends on b, and b conflicts with a.
use Rattle.std.specs.Prelude.{◌≡◌, ℕ, zero, suc, ◌<◌, true, false, Bool, [], ◌∷◌, None, Option, Any, unwrap_or}
use Rattle.std.specs.Prelude.{codes, length, refl}
use Rattle.std.proofs.Common.{ap, arith, get_or, inl, inr, subst, sym}
use Rattle.std.proofs.lemmas.Bool.{false≢true}
use Rattle.std.proofs.lemmas.Option.{none-some}
use Rattle.dist_base.specs.Least.{IsAtMost}
use Rattle.dist_relation.specs.declared.atom.Atom.{Atom}
use Rattle.dist_repo.specs.Healthy.{IsMet}
use Rattle.dist_repo.specs.Match.{Matches}
use Rattle.dist_repo.specs.declared.package.Package.{Package}
use Rattle.dist_now.specs.Health.{AreTwoVersions, IsHealth}
use Rattle.dist_now.specs.PresentExamples.{any_version, needing, never-itself, two}
use Rattle.dist_now.specs.declared.kinds.Health.TheVariants.{Unmet}

-- the pair of the least numbers
first_of_all : (n k : ℕ) → IsAtMost 0 0 n k
first_of_all zero k = inr (refl, omega arith)
first_of_all (suc n) k = inl (omega arith)

-- what matches an atom among the members a alone is a
the_only_one : (atom : Atom) → Any (Matches None atom) (needing ∷ []) → Matches None atom needing
the_only_one atom any = at any.0 any.1 any.2 any.3 any.4
  where
    at : (k : ℕ) (p : Package) → k < length (needing ∷ []) → get_or (needing ∷ []) k p ≡ p → Matches None atom p
        → Matches None atom needing
    at zero p short is matches = subst (λ (q : Package). Matches None atom q) (sym is) matches
    at (suc k) p short is matches = absurd (omega (arith, short))

-- a is no b
not_met : ¬ IsMet None (needing ∷ []) (any_version (codes "b") ∷ [])
not_met met = never-itself (met.0, met.1, met.2, met.3, the_only_one met.1 met.4)

-- The first item of a alone is unmet.
alone_is_unmet : IsHealth two false (true ∷ false ∷ []) (Unmet 0 0)
alone_is_unmet = (
  one_member,
  record {
    holds = record { member = refl; has = not_met };
    least = λ n k unmet. first_of_all n k;
  },
)
  where
    one_member : (n k : ℕ) → ¬ AreTwoVersions two (true ∷ false ∷ []) n k
    one_member n zero members = omega (arith, members.in_order)
    one_member n (suc zero) members = false≢true (ap (λ (o : Option Bool). unwrap_or o false) members.second_member)
    one_member n (suc (suc k)) members = none-some true members.second_member
