-- New names: of one atom, of some, and of a repository.
use Rattle.std.proofs.Common.{◌≡◌, ◌==◌, eqb-true, eq-eqb, IsTrue, ◌⊎◌, ◌↔◌, ℕ, zero, suc, ◌+◌, ◌≤◌, Bool, List, [], ◌∷◌, length, take, Option, Some, Ordering}
use Rattle.std.proofs.Common.{Less, Equal, Greater, refl, sym, ap, subst, ◌∙◌, inl, inr, arith, is_eq, nat_cmp, slice_get}
use Rattle.std.specs.Prelude.{Any, Contains, IsSomeAnd}
use Rattle.std.specs.BTreeSet.{insert_key}
use Rattle.std.specs.Cmp.Lexicographic.{slice_cmp}
use Rattle.std.specs.List.Sorted.{IsStrictlySortedBy}
use Rattle.std.specs.Ordering.{match_ordering}
use Rattle.std.proofs.lemmas.Map.Text.{is_eq-slice_cmp}
use Rattle.std.proofs.lemmas.Option.{slice_get-get_or}
use Rattle.std.proofs.lemmas.Slice.Eq.{bytes_eq-Decides}
use Rattle.dist_relation.specs.declared.atom.Atom.{Atom}
use Rattle.dist_repo.specs.PackageList.{PackageList, IsPackageAnd}
use Rattle.dist_repo.specs.Providers.{AreProviders, IsProvider}
use Rattle.dist_repo.specs.declared.package.Package.{Package}
use Rattle.dist_classes.specs.NewNames.{AreNewNames, IsFreshAtom, IsNewName}
use Rattle.dist_classes.specs.Table.{Adds}
use Rattle.dist_classes.proofs.FoundCuts.{adds-both, adds-iff, adds-nothing}
use Rattle.dist_classes.proofs.TableLemmas.{any-none, any-take, any-whole}

-- ---- one name more in a set

pub same_names : (a b : List ℕ) → slice_cmp nat_cmp a b ≡ Equal → a ≡ b
same_names a b is = (bytes_eq-Decides a b).0 (sym (is_eq-slice_cmp a b) ∙ ap is_eq is)

pub contains-cases : (x v : List ℕ) (xs : List (List ℕ)) → Contains (x ∷ xs) v → (x ≡ v) ⊎ Contains xs v
contains-cases x v xs (zero, short, is) = inl is
contains-cases x v xs (suc k, short, is) = inr (k, omega arith, is)

pub contains-later : (x v : List ℕ) (xs : List (List ℕ)) → Contains xs v → Contains (x ∷ xs) v
contains-later x v xs there = (suc there.0, omega (arith, there.1), there.2)

pub contains-here : (x v : List ℕ) (xs : List (List ℕ)) → x ≡ v → Contains (x ∷ xs) v
contains-here x v xs is = (0, omega arith, is)

inserted : (o : Ordering) (k x v : List ℕ) (xs rest : List (List ℕ)) → slice_cmp nat_cmp k x ≡ o → (Contains rest v ↔ (Contains xs v ⊎ (k ≡ v))) →
    Contains (match_ordering o (k ∷ x ∷ xs) (x ∷ xs) (x ∷ rest)) v ↔ (Contains (x ∷ xs) v ⊎ (k ≡ v))
inserted Less k x v xs rest is later = (
  (λ there. elim (contains-cases k v (x ∷ xs) there) [ inl h ↦ inr h | inr h ↦ inl h ]),
  λ either. elim either [ inl h ↦ contains-later k v (x ∷ xs) h | inr h ↦ contains-here k v (x ∷ xs) h ],
)
inserted Equal k x v xs rest is later = (
  (λ there. inl there),
  λ either. elim either [ inl h ↦ h | inr h ↦ contains-here x v xs (sym (same_names k x is) ∙ h) ],
)
inserted Greater k x v xs rest is later = (
  (λ there. elim (contains-cases x v rest there) [
    | inl h ↦ inl (contains-here x v xs h)
    | inr h ↦ elim (later.0 h) [ inl g ↦ inl (contains-later x v xs g) | inr g ↦ inr g ]
  ]),
  λ either. elim either [
    | inl h ↦ elim (contains-cases x v xs h) [ inl g ↦ contains-here x v rest g | inr g ↦ contains-later x v rest (later.1 (inl g)) ]
    | inr h ↦ contains-later x v rest (later.1 (inr h))
  ],
)

pub adds-key : (keys : List (List ℕ)) (k : List ℕ) → Adds keys (insert_key (slice_cmp nat_cmp) keys k) (λ q. k ≡ q)
adds-key [] k v = (
  (λ there. elim (contains-cases k v [] there) [ inl h ↦ inr h | inr h ↦ inl h ]),
  λ either. elim either [ inl h ↦ absurd (omega (arith, h.1)) | inr h ↦ contains-here k v [] h ],
)
adds-key (x ∷ keys) k v = inserted (slice_cmp nat_cmp k x) k x v keys (insert_key (slice_cmp nat_cmp) keys k) refl (adds-key keys k v)

-- ---- one atom

any-package : (P : Package → Type 0) (packages : List Package) (n : ℕ) → IsPackageAnd packages n P → Any P packages
any-package P [] n here = absurd here
any-package P (p ∷ packages) zero here = (0, p, omega arith, refl, here)
any-package P (p ∷ packages) (suc n) here = let rest = any-package P packages n here in (suc rest.0, rest.1, omega (arith, rest.2), rest.3, rest.4)

package-any : (P : Package → Type 0) (packages : List Package) → Any P packages → (n : ℕ) × IsPackageAnd packages n P
package-any P packages (k, p, short, is, holds) =
    let at : slice_get packages k ≡ Some p = slice_get-get_or packages k p short ∙ ap (λ q. Some q) is in
    let Here : Option Package → Type 0 = λ o. IsSomeAnd o P in
    (k, subst Here (sym at) holds)

pub unprovided : (r : PackageList) (name : List ℕ) (numbers : List ℕ) → AreProviders r name numbers → (length numbers ≡ 0)
    ↔ (¬ Any (λ p. IsProvider r.architecture name p) r.packages)
unprovided r name [] are = (
  (λ _ any. let one = package-any (λ p. IsProvider r.architecture name p) r.packages any in let there = (are.exact one.0).1 one.1 in omega (arith, there.1)),
  λ _. refl,
)
unprovided r name (n ∷ numbers) are = (
  (λ none. absurd (omega arith)),
  λ missing. absurd (missing (any-package (λ p. IsProvider r.architecture name p) r.packages n ((are.exact n).0 (0, omega arith, refl)))),
)

pub empty-iff : (b : Bool) (xs : List ℕ) → b ≡ (length xs == 0) → IsTrue b ↔ (length xs ≡ 0)
empty-iff b xs is = ((λ holds. eqb-true (length xs) 0 (sym is ∙ holds)), λ none. is ∙ eq-eqb (length xs) 0 none)

pub fresh-noted : (r : PackageList) (atom : Atom) (a b : List (List ℕ)) → IsFreshAtom r atom.name atom → Adds a b (λ q. atom.name ≡ q)
    → Adds a b (λ q. IsFreshAtom r q atom)
fresh-noted r atom a b fresh adds =
    adds-iff a b (λ q. atom.name ≡ q) (λ q. IsFreshAtom r q atom) (λ q. (
      (λ same. let P : List ℕ → Type 0 = λ n. IsFreshAtom r n atom in subst P same fresh),
      λ h. h.1,
    )) adds

pub stale-noted : (r : PackageList) (atom : Atom) (a : List (List ℕ)) → ¬ IsFreshAtom r atom.name atom → Adds a a (λ q. IsFreshAtom r q atom)
stale-noted r atom a stale = adds-nothing a (λ q. IsFreshAtom r q atom)
    (λ q h. let P : List ℕ → Type 0 = λ n. IsFreshAtom r n atom in stale (subst P (sym h.1) h))

-- ---- some of the first elements

pub adds-none : {X : Type 0} (P : List ℕ → X → Type 0) (a : List (List ℕ)) (xs : List X) → Adds a a (λ q. Any (P q) (take 0 xs))
adds-none P a xs = adds-nothing a (λ q. Any (P q) (take 0 xs)) (λ q. any-none (P q) xs)

pub adds-more : {X : Type 0} (P : List ℕ → X → Type 0) (a b c : List (List ℕ)) (xs : List X) (k : ℕ) (x : X) → slice_get xs k ≡ Some x →
    Adds a b (λ q. Any (P q) (take k xs)) → Adds b c (λ q. P q x) → Adds a c (λ q. Any (P q) (take (k + 1) xs))
adds-more P a b c xs k x is first second =
    adds-iff a c (λ q. Any (P q) (take k xs) ⊎ P q x) (λ q. Any (P q) (take (k + 1) xs)) (λ q. any-take (P q) xs k x is)
    (adds-both a b c (λ q. Any (P q) (take k xs)) (λ q. P q x) first second)

pub adds-whole : {X : Type 0} (P : List ℕ → X → Type 0) (a b : List (List ℕ)) (xs : List X) (k : ℕ) → length xs ≤ k → Adds a b (λ q. Any (P q) (take k xs))
    → Adds a b (λ q. Any (P q) xs)
adds-whole P a b xs k past adds = adds-iff a b (λ q. Any (P q) (take k xs)) (λ q. Any (P q) xs) (λ q. any-whole (P q) xs k past) adds

-- ---- all packages

abbrev pub HasFresh : PackageList → List ℕ → Package → Type 0
HasFresh r q p = Any (λ item. Any (IsFreshAtom r q) item) p.depends

new-from : (r : PackageList) (q : List ℕ) → Any (HasFresh r q) r.packages → IsNewName r q
new-from r q (k, p, short, is, item) =
    let atom : Atom = item.4.1 in
    let holds = item.4.4 in
    record {
      atom = atom;
      usable = holds.0;
      there = (k, p, short, is, (item.0, item.1, item.2, item.3, (item.4.0, item.4.2, item.4.3)));
      named = holds.1;
      unprovided = holds.2;
    }

from-new : (r : PackageList) (q : List ℕ) → IsNewName r q → Any (HasFresh r q) r.packages
from-new r q new =
    let p = new.there in
    let item = p.4 in
    let inside = item.4 in
    (p.0, p.1, p.2, p.3, (item.0, item.1, item.2, item.3, (inside.0, new.atom, inside.1, inside.2, (new.usable, new.named, new.unprovided))))

pub names-from : (r : PackageList) (names : List (List ℕ)) → IsStrictlySortedBy (slice_cmp nat_cmp) names → Adds [] names (λ q. Any (HasFresh r q) r.packages)
    → AreNewNames r names
names-from r names rising adds = record {
  rising = rising;
  exact = λ q. (
    (λ there. elim ((adds q).0 there) [ inl h ↦ absurd (omega (arith, h.1)) | inr h ↦ new-from r q h ]),
    λ new. (adds q).1 (inr (from-new r q new)),
  );
}
