-- Worked examples of the clauses of the present: package a depends on b, and b conflicts with a.
use Rattle.std.specs.Prelude.{◌≡◌, ℕ, zero, suc, ◌<◌, true, false, List, [], ◌∷◌, None, Contains, codes, length, refl}
use Rattle.std.proofs.Common.{ap, arith, get_or, inl, inr, lit<, sym, subst}
use Rattle.dist_clause.specs.Formula.{literal}
use Rattle.dist_relation.specs.declared.atom.Atom.{Atom}
use Rattle.dist_relation.specs.declared.atom.Qualifier.TheVariants.{Plain}
use Rattle.dist_repo.specs.Match.{Matches}
use Rattle.dist_repo.specs.PackageList.{PackageList, IsPackageAnd}
use Rattle.dist_repo.specs.declared.package.Package.{Package}
use Rattle.dist_now.specs.PresentClauses.{Item, Apart, Required, IsBefore, IsClauseFor, IsDemand, IsMetBy}

abbrev pub any_version : List ℕ → Atom
any_version name = record { name = name; qualifier = Plain; bound = None }

abbrev pub made : List ℕ → List (List Atom) → List Atom → Package
made name depends conflicts = record {
  name = name;
  version = codes "1";
  source = name;
  source_version = codes "1";
  depends = depends;
  conflicts = conflicts;
  provides = [];
  essential = false;
}

abbrev pub needing : Package
needing = made (codes "a") ((any_version (codes "b") ∷ []) ∷ []) []

abbrev pub rejecting : Package
rejecting = made (codes "b") [] (any_version (codes "a") ∷ [])

abbrev pub two : PackageList
two = record { architecture = None; packages = needing ∷ rejecting ∷ [] }

pub different : ¬ (codes "a" ≡ codes "b")
different names = let first : 97 ≡ 98 = ap (λ (s : List ℕ). get_or s 0 0) names in omega (arith, first)

-- the item of a is met by b alone
pub never-itself : ¬ IsMetBy None (any_version (codes "b") ∷ []) needing
never-itself met = at met.0 met.1 met.2 met.3 met.4
  where
    never : ¬ Matches None (any_version (codes "b")) needing
    never matches = elim matches.matched [
      | inl by_name ↦ different by_name.name
      | inr any ↦ omega (arith, any.2)
    ]

    at : (k : ℕ) (atom : Atom) → k < length (any_version (codes "b") ∷ [])
        → get_or (any_version (codes "b") ∷ []) k atom ≡ atom → Matches None atom needing → ⊥
    at zero atom short is matches = never (subst (λ (a : Atom). Matches None a needing) (sym is) matches)
    at (suc k) atom short is matches = omega arith

-- the number of b
abbrev one : List ℕ
one = 1 ∷ []

-- so it is a demand, whose clause is `-1 2`
item_is_demand : IsDemand two false (Item 0 0)
item_is_demand = never-itself

met-by : (number : ℕ) → IsPackageAnd two.packages number (IsMetBy None (any_version (codes "b") ∷ []))
    → Contains one number
met-by zero met = absurd (never-itself met)
met-by (suc zero) met = (0, lit< tt, refl)
met-by (suc (suc k)) met = absurd met

item_clause : IsClauseFor two (Item 0 0) (literal 1 false ∷ literal 2 true ∷ [])
item_clause = (
  one,
  record { rising = λ k short. absurd (omega arith); exact = λ number. (to number, met-by number) },
  refl,
)
  where
    by_name : IsMetBy None (any_version (codes "b") ∷ []) rejecting
    by_name = (
      0,
      any_version (codes "b"),
      lit< tt,
      refl,
      record { usable = tt; matched = inl (record { name = refl; bound = tt }) },
    )

    to : (number : ℕ) → Contains one number → IsPackageAnd two.packages number
        (IsMetBy None (any_version (codes "b") ∷ []))
    to number there = at there.0 there.1 there.2
      where
        at : (k : ℕ) → k < length one → get_or one k number ≡ number
            → IsPackageAnd two.packages number (IsMetBy None (any_version (codes "b") ∷ []))
        at zero short is = subst (λ (n : ℕ). IsPackageAnd two.packages n (IsMetBy None (any_version (codes "b") ∷ [])))
            is by_name
        at (suc k) short is = absurd (omega arith)

-- b rejects a, so the two are apart, by the clause `-1 -2`
two_are_apart : IsDemand two false (Apart 0 1)
two_are_apart = (
  lit< tt,
  inr (record {
    different = λ same. different same.0;
    matched = inr (
      0,
      any_version (codes "a"),
      lit< tt,
      refl,
      record { usable = tt; matched = inl (record { name = refl; bound = tt }) },
    );
  }),
)

apart_clause : IsClauseFor two (Apart 0 1) (literal 1 false ∷ literal 2 false ∷ [])
apart_clause = refl

-- items stand before pairs, and pairs before names
item_before_pair : IsBefore (Item 1 0) (Apart 0 1)
item_before_pair = tt

pair_before_name : IsBefore (Apart 0 1) (Required (codes "a"))
pair_before_name = tt
