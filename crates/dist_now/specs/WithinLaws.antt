-- What an atom matches, a wider one matches too. No public clause cites these laws; proofs do, here and above.
use Rattle.std.proofs.Common.{ℕ, List, Option, None, Some, ◌∙◌, inl, inr, subst}
use Rattle.std.specs.Prelude.{IfSome, IsSomeAnd}
use Rattle.dist_base.specs.ListLaws.{any-more}
use Rattle.dist_relation.specs.Satisfies.{Satisfies}
use Rattle.dist_relation.specs.declared.atom.Atom.{Atom}
use Rattle.dist_relation.specs.declared.atom.Bound.{Bound}
use Rattle.dist_relation.specs.declared.atom.Provide.{Provide}
use Rattle.dist_asked.specs.Within.{IsBoundWithin, IsWithin}
use Rattle.dist_repo.specs.Match.{IsUsable, Matches, MatchesByEntry}
use Rattle.dist_repo.specs.declared.package.Package.{Package}

-- a version that meets the bound, if there is one
pub bound-within : (bound other : Option Bound) (version : List ℕ) → IsBoundWithin bound other
    → IfSome bound (λ b. Satisfies version b) → IfSome other (λ b. Satisfies version b)
bound-within None None version within meets = tt
bound-within None (Some other) version within meets = absurd within
bound-within (Some bound) None version within meets = tt
bound-within (Some bound) (Some other) version within meets = within version meets

-- a version that an entry may have
offered-within : (bound other : Option Bound) (version : Option (List ℕ)) → IsBoundWithin bound other
    → IfSome bound (λ b. IsSomeAnd version (λ v. Satisfies v b))
    → IfSome other (λ b. IsSomeAnd version (λ v. Satisfies v b))
offered-within None None version within meets = tt
offered-within None (Some other) version within meets = absurd within
offered-within (Some bound) None version within meets = tt
offered-within (Some bound) (Some other) None within meets = absurd meets
offered-within (Some bound) (Some other) (Some version) within meets = within version meets

pub usable-within : (architecture : Option (List ℕ)) (atom other : Atom) → IsWithin atom other
    → IsUsable architecture atom.qualifier → IsUsable architecture other.qualifier
usable-within architecture atom other within usable = subst (IsUsable architecture) within.qualifier usable

pub entry-within : (architecture : Option (List ℕ)) (atom other : Atom) (entry : Provide) → IsWithin atom other
    → MatchesByEntry architecture atom entry → MatchesByEntry architecture other entry
entry-within architecture atom other entry within meets = record {
  usable = meets.usable;
  name = meets.name ∙ within.name;
  bound = offered-within atom.bound other.bound entry.version within.bound meets.bound;
}

pub matches-within : (architecture : Option (List ℕ)) (atom other : Atom) (p : Package) → IsWithin atom other
    → Matches architecture atom p → Matches architecture other p
matches-within architecture atom other p within meets = record {
  usable = usable-within architecture atom other within meets.usable;
  matched = elim meets.matched [
    | inl named ↦ inl (record {
      name = named.name ∙ within.name;
      bound = bound-within atom.bound other.bound p.version within.bound named.bound;
    })
    | inr any ↦ inr (any-more (λ entry. MatchesByEntry architecture atom entry)
        (λ entry. MatchesByEntry architecture other entry)
        (λ entry of. entry-within architecture atom other entry within of) p.provides any)
  ];
}
