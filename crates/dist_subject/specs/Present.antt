-- What a certificate of kind strong speaks of: the packages as they are, at mode plain or essential.
use Rattle.std.specs.Prelude.{ℕ, Bool, List, [], length, map}
use Rattle.std.specs.List.{range_with_len}
use Rattle.dist_clause.specs.Formula.{Literal}
use Rattle.dist_repo.specs.PackageList.{PackageList}
use Rattle.dist_repo.specs.Strong.{IsInstallation}
use Rattle.dist_repo.specs.declared.package.Package.{Package}
use Rattle.dist_now.specs.Members.{members_of}
use Rattle.dist_cert.specs.Subject.{Matter}
use Rattle.dist_cert.specs.Rising.{is_among}

-- The variables from 1 to n, each with its truth value, where those listed are true.
abbrev pub truth_of : ℕ → List ℕ → List Bool
truth_of n variables = map (λ variable. is_among variables variable) (range_with_len 1 n)

-- the packages whose variables are listed, where the first package has the variable 1
abbrev pub packages_of : List Package → List ℕ → List Package
packages_of packages variables = members_of packages (truth_of (length packages) variables)

-- The packages are the variables, and an installation is healthy at the mode. There are no clusters, and each set
-- stands for the one future that is the present.
abbrev pub present_matter : PackageList → Bool → List (List Literal) → Matter
present_matter r essential inputs = record {
  packages = length r.packages;
  variables = length r.packages;
  inputs = inputs;
  clusters = [];
  present = λ p. p;
  new = λ p class. 0;
  at = λ cluster class. 0;
  IsFuture = λ members. Unit {0};
  IsHealthy = λ members. IsInstallation essential r (packages_of r.packages members);
}
