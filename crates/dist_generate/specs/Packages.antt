-- The packages that a generated archive has, as a Packages file means them.
use Rattle.std.specs.Prelude.{ℕ, false, ◌/◌, ◌==◌, List, [], ◌∷◌, ◌++◌, Option, None, Some, if◌then◌else◌, map, codes}
use Rattle.std.specs.Prelude.{decimal}
use Rattle.dist_relation.specs.declared.atom.Atom.{Atom}
use Rattle.dist_relation.specs.declared.atom.Bound.{Bound}
use Rattle.dist_relation.specs.declared.atom.Op.TheVariants.{Lt, Ge}
use Rattle.dist_relation.specs.declared.atom.Qualifier.TheVariants.{Plain}
use Rattle.dist_repo.specs.declared.package.Package.{Package}
use Rattle.dist_generate.specs.Generator.{Alternative, Drawn}

abbrev pub name_of : ℕ → List ℕ
name_of number = codes "g" ++ decimal number

-- at least version 1, or below version 2
abbrev pub bound_of : ℕ → Option Bound
bound_of bound =
    if bound == 2 then Some (record { op = Ge; version = codes "1" })
    else if bound == 3 then Some (record { op = Lt; version = codes "2" })
    else None

abbrev pub atom_of : Alternative → Atom
atom_of alternative = record {
  name = name_of alternative.target;
  qualifier = Plain;
  bound = bound_of alternative.bound;
}

-- the conflict atoms of a drawn package
abbrev pub conflicts_of : Option ℕ → List Atom
conflicts_of None = []
conflicts_of (Some other) = record { name = name_of other; qualifier = Plain; bound = None } ∷ []

abbrev pub version_of : Drawn → List ℕ
version_of drawn = codes "1." ++ decimal drawn.digit

-- packages two and two have one source
abbrev pub package_of : Drawn → Package
package_of drawn = record {
  name = name_of drawn.number;
  version = version_of drawn;
  source = codes "s" ++ decimal (drawn.number / 2);
  source_version = version_of drawn;
  depends = map (map atom_of) drawn.items;
  conflicts = conflicts_of drawn.conflict;
  provides = [];
  essential = false;
}
