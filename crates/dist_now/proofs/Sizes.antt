-- The place of an item of a package fits in 32 bits, since each item has an atom.
use Rattle.std.proofs.Common.{◌≡◌, ℕ, ◌+◌, ◌<◌, ◌≤◌, ◌^◌, List, length, take, Some, sum_by, ap, arith, slice_get}
use Rattle.std.proofs.lemmas.List.Sums.{sum_by_more, sum_by-take-le, get_or-le-sum_by}
use Rattle.std.proofs.lemmas.Option.{get_or_from_slice_get, slice_get_within}
use Rattle.dist_relation.specs.declared.atom.Atom.{Atom}
use Rattle.dist_repo.specs.PackageList.{PackageList}
use Rattle.dist_repo.specs.Size.{IsWithinSize, relations_of}
use Rattle.dist_repo.specs.declared.package.Package.{Package}

abbrev pub atom_count : List (List Atom) → ℕ
atom_count items = sum_by (λ item. length item) items

-- one item more
pub count-more : (items : List (List Atom)) (place : ℕ) (item : List Atom) → slice_get items place ≡ Some item → 0 < length item
    → place ≤ atom_count (take place items) → place + 1 ≤ atom_count (take (place + 1) items)
count-more items place item is some few =
    let size : List Atom → ℕ = λ item. length item in
    omega (arith, few, some, sum_by_more size items place item (slice_get_within items place item is), ap size (get_or_from_slice_get items place item item is))

pub place-fits : (r : PackageList) (number : ℕ) (p : Package) (place : ℕ) → IsWithinSize r → slice_get r.packages number ≡ Some p
    → place ≤ atom_count (take place p.depends) → place < 2 ^ 32
place-fits r number p place size is few =
    let within = slice_get_within r.packages number p is in
    omega (
      arith,
      few,
      size.relations,
      sum_by-take-le (λ (item : List Atom). length item) p.depends place,
      get_or-le-sum_by relations_of r.packages number p within,
      ap relations_of (get_or_from_slice_get r.packages number p p is),
    )
