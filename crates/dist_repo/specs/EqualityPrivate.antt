-- Equality of packages: of all their fields, with names and versions as bytes.
use Rattle.std.specs.Prelude.{◌≡◌, Bool, true, false, ◌&&◌, bytes_eq}
use Rattle.std.specs.Bool.{beq}
use Rattle.std.specs.Cmp.{first_so, second_so}
use Rattle.std.specs.Cmp.Lexicographic.{pointwise, bytes_decides}
use Rattle.std.proofs.Common.{refl, sym, ap₂, true≢false}
use Rattle.dist_relation.specs.EqualityPrivate.{atom_eq, provide_eq, decides, DecidesEquality, atoms_decide}
use Rattle.dist_relation.specs.EqualityPrivate.{items_decide}
use Rattle.dist_relation.specs.EqualityPrivate.{provides_decide}
use Rattle.dist_repo.specs.declared.package.Package.{Package}

abbrev relations_eq : Package → Package → Bool
relations_eq p q = pointwise (pointwise atom_eq) p.depends q.depends
    && (pointwise atom_eq p.conflicts q.conflicts
    && (pointwise provide_eq p.provides q.provides && beq p.essential q.essential))

abbrev sources_eq : Package → Package → Bool
sources_eq p q = bytes_eq p.source q.source && (bytes_eq p.source_version q.source_version && relations_eq p q)

abbrev pub package_eq : Package → Package → Bool
package_eq p q = bytes_eq p.name q.name && (bytes_eq p.version q.version && sources_eq p q)

beq-same : (a b : Bool) → beq a b ≡ true → a ≡ b
beq-same true true h = refl
beq-same false false h = refl
beq-same true false h = absurd (true≢false (sym h))
beq-same false true h = absurd (true≢false (sym h))

beq-itself : (a : Bool) → beq a a ≡ true
beq-itself true = refl
beq-itself false = refl

-- what a conjunction that holds says of its parts
both : (x y : Bool) → x && y ≡ true → (x ≡ true) × (y ≡ true)
both x y h = (first_so x y h, second_so x y h)

package-same : (p q : Package) → package_eq p q ≡ true → p ≡ q
package-same p q h =
    let a = both (bytes_eq p.name q.name) (bytes_eq p.version q.version && sources_eq p q) h in
    let b = both (bytes_eq p.version q.version) (sources_eq p q) a.1 in
    let c = both (bytes_eq p.source q.source) (bytes_eq p.source_version q.source_version && relations_eq p q) b.1 in
    let d = both (bytes_eq p.source_version q.source_version) (relations_eq p q) c.1 in
    let e = both (pointwise (pointwise atom_eq) p.depends q.depends)
    (pointwise atom_eq p.conflicts q.conflicts
    && (pointwise provide_eq p.provides q.provides && beq p.essential q.essential)) d.1 in
    let f = both (pointwise atom_eq p.conflicts q.conflicts)
    (pointwise provide_eq p.provides q.provides && beq p.essential q.essential) e.1 in
    let g = both (pointwise provide_eq p.provides q.provides) (beq p.essential q.essential) f.1 in
    let name = (bytes_decides p.name q.name).0 a.0 in
    let version = (bytes_decides p.version q.version).0 b.0 in
    let source = (bytes_decides p.source q.source).0 c.0 in
    let source_version = (bytes_decides p.source_version q.source_version).0 d.0 in
    let depends = (items_decide p.depends q.depends).0 e.0 in
    let conflicts = (atoms_decide p.conflicts q.conflicts).0 f.0 in
    let provides = (provides_decide p.provides q.provides).0 g.0 in
    let essential = beq-same p.essential q.essential g.1 in
    λ i. record {
      name = name i;
      version = version i;
      source = source i;
      source_version = source_version i;
      depends = depends i;
      conflicts = conflicts i;
      provides = provides i;
      essential = essential i;
    }

package-itself : (p : Package) → package_eq p p ≡ true
package-itself p =
    ap₂ ◌&&◌ ((bytes_decides p.name p.name).1 refl)
    (ap₂ ◌&&◌ ((bytes_decides p.version p.version).1 refl)
    (ap₂ ◌&&◌ ((bytes_decides p.source p.source).1 refl)
    (ap₂ ◌&&◌ ((bytes_decides p.source_version p.source_version).1 refl)
    (ap₂ ◌&&◌ ((items_decide p.depends p.depends).1 refl)
    (ap₂ ◌&&◌ ((atoms_decide p.conflicts p.conflicts).1 refl)
    (ap₂ ◌&&◌ ((provides_decide p.provides p.provides).1 refl) (beq-itself p.essential)))))))

-- The test holds of a package and itself alone.
pub packages_decide : DecidesEquality package_eq
packages_decide = decides package_eq package-same package-itself
