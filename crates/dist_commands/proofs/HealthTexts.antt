-- The health of a set names what is there, and at mode plain no missing name.
use Rattle.std.proofs.Common.{◌≡◌, ℕ, ◌<◌, Bool, false, List, Option, Some, None, length, refl}
use Rattle.std.specs.Prelude.{IsSomeAnd, slice_get}
use Rattle.std.proofs.lemmas.Bool.{false≢true}
use Rattle.std.proofs.lemmas.Option.{slice_get_within}
use Rattle.dist_relation.specs.declared.atom.Atom.{Atom}
use Rattle.dist_repo.specs.Conflict.{AreInConflict}
use Rattle.dist_repo.specs.PackageList.{PackageList}
use Rattle.dist_repo.specs.declared.package.Package.{Package}
use Rattle.dist_now.specs.Health.{AreMembers, IsHealth}
use Rattle.dist_now.specs.Members.{IsMemberAnd}
use Rattle.dist_now.specs.declared.kinds.Health.{Health}
use Rattle.dist_now.specs.declared.kinds.Health.TheVariants.{Healthy, TwoVersions, Unmet, Conflict, EssentialMissing}
use Rattle.dist_report.specs.HealthText.{HasItem, HasText}

value_of : {X : Type 0} (o : Option X) (P : X → Type 0) → IsSomeAnd o P → (x : X) × (o ≡ Some x) × P x
value_of (Some x) P has = (x, refl, has)
value_of None P has = absurd has

both_there : (r : PackageList) (flags : List Bool) (R : Package → Package → Type 0) (first second : ℕ) → AreMembers r flags R first second
    → (first < length r.packages) × (second < length r.packages)
both_there r flags R first second are =
    let p = value_of (slice_get r.packages first) (λ p. IsSomeAnd (slice_get r.packages second) (R p)) are.related.has in
    let q = value_of (slice_get r.packages second) (R p.0) p.2 in
    (slice_get_within r.packages first p.0 p.1, slice_get_within r.packages second q.0 q.1)

item_there : (packages : List Package) (flags : List Bool) (number place : ℕ) (P : List Atom → Type 0)
    → IsMemberAnd packages flags number (λ p. IsSomeAnd (slice_get p.depends place) P) → HasItem packages number place
item_there packages flags number place P unmet =
    let p = value_of (slice_get packages number) (λ p. IsSomeAnd (slice_get p.depends place) P) unmet.has in
    let item = value_of (slice_get p.0.depends place) P p.2 in
    record { p = p.0; is = p.1; within = slice_get_within p.0.depends place item.0 item.1 }

pub has_text : (r : PackageList) (flags : List Bool) (health : Health) → IsHealth r false flags health → HasText r.packages health
has_text r flags Healthy is = tt
has_text r flags (TwoVersions p q) is = both_there r flags (λ p q. p.name ≡ q.name) p q is.holds
has_text r flags (Unmet p place) is = item_there r.packages flags p place _ is.1.holds
has_text r flags (Conflict p q) is = both_there r flags (AreInConflict r.architecture) p q is.2.holds
has_text r flags (EssentialMissing p) is = absurd (false≢true is.3)
