-- What is held of a name, by its version: an archive has one package of a name. No public clause cites these laws;
-- proofs do, those of the crate above too.
use Rattle.std.proofs.Common.{◌≡◌, ℕ, suc, Bool, true, false, List, [], ◌∷◌, Option, None, Some, arith, cond, sym, ap}
use Rattle.std.proofs.Common.{refl, ◌∙◌, inl, inr}
use Rattle.std.specs.Prelude.{Contains}
use Rattle.std.specs.List.{find}
use Rattle.std.specs.Option.{option_map_or}
use Rattle.std.specs.Str.{bytes_eq}
use Rattle.std.proofs.lemmas.Slice.Eq.{bytes_eq-Decides}
use Rattle.dist_base.specs.ListLaws.{pairs-head, pairs-tail}
use Rattle.dist_repo.specs.Order.{IsFlat}
use Rattle.dist_repo.specs.declared.package.Package.{Package}
use Rattle.dist_space.specs.RisingLaws.{contains-cons}
use Rattle.dist_archive.specs.Archive.{IsHeldAs}
use Rattle.dist_history.specs.FollowText.{version_of_name}

abbrev has_name : (name : List ℕ) → Package → Bool
has_name name n = bytes_eq n.name name

-- the test of the first package decides
found-by : (name : List ℕ) (p : Package) (rest : List Package) (b : Bool) → bytes_eq p.name name ≡ b
    → find (has_name name) (p ∷ rest) ≡ cond b (Some p) (find (has_name name) rest)
found-by name p rest b is = ap (λ (x : Bool). cond x (Some p) (find (has_name name) rest)) is

pub found-none : (name : List ℕ) (archive : List Package) → ((p : Package) → ¬ IsHeldAs archive name p)
    → find (has_name name) archive ≡ None
found-none name [] none = refl
found-none name (p ∷ rest) none =
    by (found-none name rest (λ q held. none q ((suc held.0.0, omega (arith, held.0.1), held.0.2), held.1)))
    (bytes_eq p.name name) refl
  where
    by : find (has_name name) rest ≡ None → (b : Bool) → bytes_eq p.name name ≡ b
        → find (has_name name) (p ∷ rest) ≡ None
    by more true is = absurd (none p ((0, omega arith, refl), (bytes_eq-Decides p.name name).0 is))
    by more false is = found-by name p rest false is ∙ more

pub found-held : (name : List ℕ) (archive : List Package) (q : Package) → IsFlat archive → IsHeldAs archive name q
    → find (has_name name) archive ≡ Some q
found-held name [] q flat held = absurd (omega (arith, held.0.1))
found-held name (p ∷ rest) q flat held = elim (contains-cons p q rest held.0) [
  | inl first ↦
      found-by name p rest true ((bytes_eq-Decides p.name name).1 (ap (λ (x : Package). x.name) first ∙ held.1))
      ∙ ap (λ (x : Package). Some x) first
  | inr later ↦ by later (found-held name rest q (pairs-tail (λ (x y : Package). ¬ (x.name ≡ y.name)) p rest flat)
      (later, held.1)) (bytes_eq p.name name) refl
]
  where
    by : Contains rest q → find (has_name name) rest ≡ Some q → (b : Bool) → bytes_eq p.name name ≡ b
        → find (has_name name) (p ∷ rest) ≡ Some q
    by later more true is = absurd (pairs-head (λ (x y : Package). ¬ (x.name ≡ y.name)) p rest flat q later
        ((bytes_eq-Decides p.name name).0 is ∙ sym held.1))
    by later more false is = found-by name p rest false is ∙ more

-- the version of the one package of a name
pub version-held : (name : List ℕ) (archive : List Package) (q : Package) → IsFlat archive → IsHeldAs archive name q
    → version_of_name archive name ≡ q.version
version-held name archive q flat held =
    ap (λ (o : Option Package). option_map_or (λ (n : Package). n.version) o []) (found-held name archive q flat held)

pub version-none : (name : List ℕ) (archive : List Package) → ((p : Package) → ¬ IsHeldAs archive name p)
    → version_of_name archive name ≡ []
version-none name archive none =
    ap (λ (o : Option Package). option_map_or (λ (n : Package). n.version) o []) (found-none name archive none)
