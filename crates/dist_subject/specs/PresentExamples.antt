-- Worked examples of the definitions of `Present`.
use Rattle.std.specs.Prelude.{◌≡◌, true, false, [], ◌∷◌, refl}
use Rattle.dist_repo.specs.declared.package.Package.{Package}
use Rattle.dist_subject.specs.Present.{truth_of, packages_of}

first_and_third : truth_of 3 (1 ∷ 3 ∷ []) ≡ true ∷ false ∷ true ∷ []
first_and_third = refl

-- an `m` line `1 2`, and one `2`, of the archive of two packages
both : (a b : Package) → packages_of (a ∷ b ∷ []) (1 ∷ 2 ∷ []) ≡ a ∷ b ∷ []
both a b = refl

second : (a b : Package) → packages_of (a ∷ b ∷ []) (2 ∷ []) ≡ b ∷ []
second a b = refl
