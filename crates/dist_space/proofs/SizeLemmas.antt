-- How many entries and items a package of a sized frame has.
use Rattle.std.proofs.Common.{◌≡◌, ℕ, ◌<◌, ◌^◌, length, Some, ap, arith, slice_get}
use Rattle.std.proofs.lemmas.List.Sums.{get_or-le-sum_by}
use Rattle.std.proofs.lemmas.Option.{get_or_from_slice_get, slice_get_within}
use Rattle.dist_repo.specs.PackageList.{PackageList}
use Rattle.dist_repo.specs.Size.{IsWithinSize, relations_of}
use Rattle.dist_repo.specs.declared.package.Package.{Package}

pub entries-few : (r : PackageList) (number : ℕ) (p : Package) → IsWithinSize r → slice_get r.packages number ≡ Some p → length p.provides < 2 ^ 32
entries-few r number p size is =
    let within = slice_get_within r.packages number p is in
    omega (arith, size.relations, get_or-le-sum_by relations_of r.packages number p within, ap relations_of (get_or_from_slice_get r.packages number p p is))
