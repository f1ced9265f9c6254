-- What is noted of versions in bounds: of one atom, of some, and of all of a repository.
use Rattle.std.proofs.Common.{◌≡◌, ◌⊎◌, ◌↔◌, ℕ, ◌+◌, ◌≤◌, List, [], ◌∷◌, ◌++◌, length, get_or, take, Option, Some, None}
use Rattle.std.proofs.Common.{sym, ap, subst, ◌∙◌, inl, inr, arith, slice_get}
use Rattle.std.specs.Prelude.{Any, Contains, IsSomeAnd}
use Rattle.std.proofs.lemmas.List.{take_all, take_more}
use Rattle.std.proofs.lemmas.List.Elements.{Contains-append_left, Contains-push, Contains-push_cases}
use Rattle.std.proofs.lemmas.Option.{get_or_from_slice_get, slice_get_within}
use Rattle.dist_base.specs.ListLaws.{any-contained}
use Rattle.dist_relation.specs.declared.atom.Atom.{Atom}
use Rattle.dist_relation.specs.declared.atom.Bound.{Bound}
use Rattle.dist_repo.specs.Match.{IsUsable}
use Rattle.dist_repo.specs.PackageList.{PackageList}
use Rattle.dist_classes.specs.Atoms.{IsBoundOn}
use Rattle.dist_classes.specs.Table.{Entries, Entry, HasBounds, IsAtomBound, IsPackageBound, Notes}

-- ---- one version beside one name

pub noted-push : (old new : Entries) (name v : List ℕ) → new ≡ old ++ (name, v) ∷ [] → Notes old new (λ q x. (name ≡ q) × (v ≡ x))
noted-push old new name v is q x =
    let In : Entries → Type 0 = λ xs. Contains xs (q, x) in (
      (λ there. elim (Contains-push_cases old (name, v) (q, x) (subst In is there)) [
        | inl h ↦ inl h
        | inr h ↦ inr (ap (λ (b : Entry). b.0) h, ap (λ (b : Entry). b.1) h)
      ]),
      λ either. subst In (sym is) (elim either [
        | inl h ↦ Contains-append_left old ((name, v) ∷ []) (q, x) h
        | inr h ↦
            let Has : Entry → Type 0 = λ e. Contains (old ++ (name, v) ∷ []) e in
            subst Has (ap (λ n. (n, v)) h.0 ∙ ap (λ y. (q, y)) h.1) (Contains-push old (name, v))
      ]),
    )

-- ---- several notes

pub notes-nothing : (a : Entries) (P : List ℕ → List ℕ → Type 0) → ((q v : List ℕ) → ¬ P q v) → Notes a a P
notes-nothing a P none q v = ((λ there. inl there), λ either. elim either [ inl h ↦ h | inr h ↦ absurd (none q v h) ])

pub notes-iff : (a b : Entries) (P Q : List ℕ → List ℕ → Type 0) → ((q v : List ℕ) → P q v ↔ Q q v) → Notes a b P → Notes a b Q
notes-iff a b P Q same notes q v = (
  (λ there. elim ((notes q v).0 there) [ inl h ↦ inl h | inr h ↦ inr ((same q v).0 h) ]),
  λ either. (notes q v).1 (elim either [ inl h ↦ inl h | inr h ↦ inr ((same q v).1 h) ]),
)

pub notes-both : (a b c : Entries) (P Q : List ℕ → List ℕ → Type 0) → Notes a b P → Notes b c Q → Notes a c (λ q v. P q v ⊎ Q q v)
notes-both a b c P Q first second q v = (
  (λ there. elim ((second q v).0 there) [
    | inl h ↦ elim ((first q v).0 h) [ inl g ↦ inl g | inr g ↦ inr (inl g) ]
    | inr h ↦ inr (inr h)
  ]),
  λ either. (second q v).1 (elim either [
    | inl h ↦ inl ((first q v).1 (inl h))
    | inr h ↦ elim h [ inl g ↦ inl ((first q v).1 (inr g)) | inr g ↦ inr g ]
  ]),
)

-- ---- some of the first elements

pub any-take : {X : Type 0} (P : X → Type 0) (xs : List X) (k : ℕ) (x : X) → slice_get xs k ≡ Some x → (Any P (take k xs) ⊎ P x) ↔ Any P (take (k + 1) xs)
any-take {X} P xs k x is =
    let short = slice_get_within xs k x is in
    let here : get_or xs k x ≡ x = get_or_from_slice_get xs k x x is in
    let more : take (k + 1) xs ≡ take k xs ++ x ∷ [] = take_more xs k x short ∙ ap (λ y. take k xs ++ y ∷ []) here in
    let Some_of : List X → Type 0 = λ ys. Any P ys in (
      (λ either. subst Some_of (sym more) (elim either [
        | inl any ↦ any-contained P (take k xs ++ x ∷ []) any.1 (Contains-append_left (take k xs) (x ∷ []) any.1 (any.0, any.2, any.3)) any.4
        | inr h ↦ any-contained P (take k xs ++ x ∷ []) x (Contains-push (take k xs) x) h
      ])),
      λ any.
          let pushed = subst Some_of more any in
          elim (Contains-push_cases (take k xs) x pushed.1 (pushed.0, pushed.2, pushed.3)) [
            | inl h ↦ inl (any-contained P (take k xs) pushed.1 h pushed.4)
            | inr h ↦ inr (subst P (sym h) pushed.4)
          ],
    )

pub any-none : {X : Type 0} (P : X → Type 0) (xs : List X) → ¬ Any P (take 0 xs)
any-none P xs any = omega (arith, any.2)

pub any-whole : {X : Type 0} (P : X → Type 0) (xs : List X) (k : ℕ) → length xs ≤ k → Any P (take k xs) ↔ Any P xs
any-whole {X} P xs k past =
    let whole : take k xs ≡ xs = take_all k xs past in
    let Some_of : List X → Type 0 = λ ys. Any P ys in
    ((λ any. subst Some_of whole any), λ any. subst Some_of (sym whole) any)

pub notes-none : {X : Type 0} (P : List ℕ → List ℕ → X → Type 0) (a : Entries) (xs : List X) → Notes a a (λ q v. Any (P q v) (take 0 xs))
notes-none P a xs = notes-nothing a (λ q v. Any (P q v) (take 0 xs)) (λ q v. any-none (P q v) xs)

pub notes-more : {X : Type 0} (P : List ℕ → List ℕ → X → Type 0) (a b c : Entries) (xs : List X) (k : ℕ) (x : X) → slice_get xs k ≡ Some x →
    Notes a b (λ q v. Any (P q v) (take k xs)) → Notes b c (λ q v. P q v x) → Notes a c (λ q v. Any (P q v) (take (k + 1) xs))
notes-more P a b c xs k x is first second =
    notes-iff a c (λ q v. Any (P q v) (take k xs) ⊎ P q v x) (λ q v. Any (P q v) (take (k + 1) xs)) (λ q v. any-take (P q v) xs k x is)
    (notes-both a b c (λ q v. Any (P q v) (take k xs)) (λ q v. P q v x) first second)

pub notes-whole : {X : Type 0} (P : List ℕ → List ℕ → X → Type 0) (a b : Entries) (xs : List X) (k : ℕ) → length xs ≤ k
    → Notes a b (λ q v. Any (P q v) (take k xs)) → Notes a b (λ q v. Any (P q v) xs)
notes-whole P a b xs k past notes = notes-iff a b (λ q v. Any (P q v) (take k xs)) (λ q v. Any (P q v) xs) (λ q v. any-whole (P q v) xs k past) notes

-- ---- one atom

pub no-bound : (architecture : Option (List ℕ)) (a : Entries) (atom : Atom) → atom.bound ≡ None → Notes a a (λ q v. IsAtomBound architecture q v atom)
no-bound architecture a atom is = notes-nothing a (λ q v. IsAtomBound architecture q v atom)
    (λ q v h. let P : Option _ → Type 0 = λ o. IsSomeAnd o (λ bound. bound.version ≡ v) in subst P is h.2)

pub noted-atom : (architecture : Option (List ℕ)) (a b : Entries) (atom : Atom) (bound : Bound) → atom.bound ≡ Some bound → IsUsable architecture atom.qualifier
    →
    Notes a b (λ q v. (atom.name ≡ q) × (bound.version ≡ v)) → Notes a b (λ q v. IsAtomBound architecture q v atom)
noted-atom architecture a b atom bound is usable notes =
    notes-iff a b (λ q v. (atom.name ≡ q) × (bound.version ≡ v)) (λ q v. IsAtomBound architecture q v atom) (λ q v.
    let Has : Option Bound → Type 0 = λ o. IsSomeAnd o (λ x. x.version ≡ v) in
    ((λ h. (usable, h.0, subst Has (sym is) h.1)), λ h. (h.1, subst Has is h.2))) notes

-- ---- all atoms

bound-from : (r : PackageList) (q v : List ℕ) → Any (IsPackageBound r.architecture q v) r.packages → IsBoundOn r (λ name. name ≡ q) v
bound-from r q v (k, p, short, is, inl item) =
    let atom : Atom = item.4.1 in
    let holds = item.4.4 in
    record {
      atom = atom;
      is_atom = record { usable = holds.0; there = inl (k, p, short, is, (item.0, item.1, item.2, item.3, (item.4.0, item.4.2, item.4.3))) };
      allowed = holds.1;
      bound = holds.2;
    }
bound-from r q v (k, p, short, is, inr conflict) =
    record {
      atom = conflict.1;
      is_atom = record { usable = conflict.4.0; there = inr (k, p, short, is, (conflict.0, conflict.2, conflict.3)) };
      allowed = conflict.4.1;
      bound = conflict.4.2;
    }

from-bound : (r : PackageList) (q v : List ℕ) → IsBoundOn r (λ name. name ≡ q) v → Any (IsPackageBound r.architecture q v) r.packages
from-bound r q v on = elim on.is_atom.there [
  | inl dependency ↦
      let item = dependency.4 in
      let inside = item.4 in (
        dependency.0,
        dependency.1,
        dependency.2,
        dependency.3,
        inl (item.0, item.1, item.2, item.3, (inside.0, on.atom, inside.1, inside.2, (on.is_atom.usable, on.allowed, on.bound))),
      )
  | inr conflict ↦
      let inside = conflict.4 in
      (conflict.0, conflict.1, conflict.2, conflict.3, inr (inside.0, on.atom, inside.1, inside.2, (on.is_atom.usable, on.allowed, on.bound)))
]

pub table-from : (r : PackageList) (table : Entries) → Notes [] table (λ q v. Any (IsPackageBound r.architecture q v) r.packages) → HasBounds r table
table-from r table notes q v = (
  (λ there. elim ((notes q v).0 there) [ inl h ↦ absurd (omega (arith, h.1)) | inr h ↦ bound-from r q v h ]),
  λ on. (notes q v).1 (inr (from-bound r q v on)),
)
