-- Archives that have the same packages, in whatever order.
use Rattle.std.specs.Prelude.{◌↔◌, List, Contains}
use Rattle.dist_repo.specs.declared.package.Package.{Package}

abbrev pub AreSame : (old other : List Package) → Type 0
AreSame old other = (n : Package) → Contains old n ↔ Contains other n
