-- What a builder holds: the held package of a name and an equal version, and what a new package adds.
use Rattle.std.proofs.Common.{◌≡◌, ◌≢◌, ◌↔◌, ◌⊎◌, ℕ, suc, ◌<◌, Bool, true, false, cond, List, [], ◌∷◌, length, get_or, Some, None, Ordering, Less, Equal}
use Rattle.std.proofs.Common.{Greater, refl, sym, ap, subst, ◌∙◌, arith, inl, inr, nat_cmp, is_eq}
use Rattle.std.specs.Prelude.{Contains, IfOk, IsPermutation, Result, Ok, Err}
use Rattle.std.specs.BTreeMap.{insert_entry, is_at}
use Rattle.std.specs.Cmp.Lexicographic.{slice_cmp}
use Rattle.std.specs.List.Sorted.{IsStrictlySortedBy}
use Rattle.std.specs.Ordering.{match_ordering, ordering_then}
use Rattle.std.specs.Map.{lookup, lookup_key}
use Rattle.std.proofs.lemmas.Bool.{false≢true}
use Rattle.std.proofs.lemmas.List.{length-map, get_or-map, get_or_default}
use Rattle.std.proofs.lemmas.Cmp.{nat_list_cmp_total, tied_back, tied_itself}
use Rattle.std.proofs.lemmas.List.Elements.{All-from_recursion}
use Rattle.std.proofs.lemmas.List.Sorted.{IsPermutation-refl, IsPermutation-cons, IsPermutation-middle, IsPermutation-trans}
use Rattle.std.proofs.lemmas.Map.{none_passes_from_lookup}
use Rattle.std.proofs.lemmas.Map.Keys.{Less-from_sorted}
use Rattle.std.proofs.lemmas.Map.Text.{is_eq-slice_cmp}
use Rattle.std.proofs.lemmas.Slice.Eq.{bytes_eq-Decides}
use Rattle.dist_base.specs.ListLaws.{any-cases}
use Rattle.dist_version.specs.Order.{version_cmp}
use Rattle.dist_repo.specs.Held.{Held, packages_of, IsHeld, IsClashAt, IsFree}
use Rattle.dist_repo.specs.Order.{package_cmp, IsInOrder, IsSamePackage}
use Rattle.dist_repo.specs.TotalLaws.{package_total}
use Rattle.dist_repo.specs.declared.builder.AddError.{AddError}
use Rattle.dist_repo.specs.declared.builder.AddError.TheVariants.{Clash}
use Rattle.dist_repo.specs.declared.builder.Added.{Added}
use Rattle.dist_repo.specs.declared.builder.Added.TheVariants.{New, Same}
use Rattle.dist_repo.specs.declared.package.Package.{Package}
use Rattle.dist_repo.proofs.Search.{one-place, at-stands, Rises}

-- ---- one name and equal versions is a tie in the order of packages

pub same_names : (a b : List ℕ) → slice_cmp nat_cmp a b ≡ Equal → a ≡ b
same_names a b is = (bytes_eq-Decides a b).0 (sym (is_eq-slice_cmp a b) ∙ ap is_eq is)

pub then-first : (a b : Ordering) → ordering_then a b ≡ Equal → a ≡ Equal
then-first Less b is = is
then-first Equal b is = refl
then-first Greater b is = is

pub then-second : (a b : Ordering) → ordering_then a b ≡ Equal → b ≡ Equal
then-second Less b is = cc
then-second Equal b is = is
then-second Greater b is = cc

pub same-from_tied : (p q : Package) → package_cmp p q ≡ Equal → IsSamePackage p q
same-from_tied p q tied = (
  same_names p.name q.name (then-first (slice_cmp nat_cmp p.name q.name) (version_cmp p.version q.version) tied),
  then-second (slice_cmp nat_cmp p.name q.name) (version_cmp p.version q.version) tied,
)

pub names-tied : (a b : List ℕ) → a ≡ b → slice_cmp nat_cmp a b ≡ Equal
names-tied a b same = ap (slice_cmp nat_cmp a) (sym same) ∙ tied_itself nat_list_cmp_total a

pub tied-from_same : (p q : Package) → IsSamePackage p q → package_cmp p q ≡ Equal
tied-from_same p q same = ap (λ o. ordering_then o (version_cmp p.version q.version)) (names-tied p.name q.name same.0) ∙ same.1

pub itself : (p : Package) → IsSamePackage p p
itself p = same-from_tied p p (tied_itself package_total p)

pub same-back : (p q : Package) → IsSamePackage p q → IsSamePackage q p
same-back p q same = same-from_tied q p (tied_back package_total p q (tied-from_same p q same))

-- ---- the entry that a search in the map finds

contains-first : (e : Held) (es : List Held) (k : Package) (v : ℕ) → Some e.0 ≡ Some k → Some e.1 ≡ Some v → Contains (e ∷ es) (k, v)
contains-first e es k v key value =
    let key_is : e.0 ≡ k = cc in
    let value_is : e.1 ≡ v = cc in
    (0, omega arith, λ i. (key_is i, value_is i))

contains-later : (e : Held) (es : List Held) (h : Held) → Contains es h → Contains (e ∷ es) h
contains-later e es h there = (suc there.0, omega (arith, there.1), there.2)

contains-either : (b : Bool) (e : Held) (es : List Held) (k : Package) (v : ℕ) (keys : _) (values : _) → cond b (Some e.0) keys ≡ Some k
    → cond b (Some e.1) values ≡ Some v →
    (keys ≡ Some k → values ≡ Some v → Contains es (k, v)) → Contains (e ∷ es) (k, v)
contains-either true e es k v keys values key value later = contains-first e es k v key value
contains-either false e es k v keys values key value later = contains-later e es (k, v) (later key value)

pub found-entry : (test : Package → Bool) (es : List Held) (k : Package) (v : ℕ) → lookup_key test es ≡ Some k → lookup test es ≡ Some v → Contains es (k, v)
found-entry test [] k v key value = cc
found-entry test (e ∷ es) k v key value =
    contains-either (test e.0) e es k v (lookup_key test es) (lookup test es) key value (found-entry test es k v)

pub free-from_missing : (held : List Held) (p : Package) → lookup (is_at (package_cmp p)) held ≡ None → IsFree held p
free-from_missing held p missing there =
    let none = All-from_recursion (λ (h : Held). is_at (package_cmp p) h.0 ≡ false) held (none_passes_from_lookup (is_at (package_cmp p)) held missing) in
    let h : Held = there.1 in
    let Passes : Held → Type 0 = λ x. is_at (package_cmp p) x.0 ≡ false in
    let passed : is_at (package_cmp p) h.0 ≡ false = subst Passes there.3 (none there.0 h there.2) in
    false≢true (sym passed ∙ ap is_eq (tied-from_same p h.0 (same-back h.0 p there.4)))

-- ---- the held ones that are left, while they are looked through one by one

-- each that is left is held, and where none of them has that name and an equal version, none that is held has
pub record AreStillHeld (held left : List Held) (p : Package) : Type 0 where
  pub there : (h : Held) → Contains left h → Contains held h
  pub free : IsFree left p → IsFree held p

pub left-all : (held : List Held) (p : Package) → AreStillHeld held held p
left-all held p = record { there = λ h there. there; free = λ free. free }

pub left-head : (held left : List Held) (h : Held) (p : Package) → AreStillHeld held (h ∷ left) p → Contains held h
left-head held left h p is = is.there h (0, omega arith, refl)

pub left-more : (held left : List Held) (h : Held) (p : Package) → ¬ IsSamePackage h.0 p → AreStillHeld held (h ∷ left) p → AreStillHeld held left p
left-more held left h p other is = record {
  there = λ g there. is.there g (contains-later h left g there);
  free = λ free. is.free (λ any. elim (any-cases (λ (g : Held). IsSamePackage g.0 p) h left any) [
    | inl here ↦ other here
    | inr later ↦ free later
  ]);
}

pub left-none : (held : List Held) (p : Package) → AreStillHeld held [] p → IsFree held p
left-none held p is = is.free (λ any. absurd (omega (arith, any.2)))

-- ---- what holds beside a held package of that name and an equal version

abbrev pub IsSorted : List Held → Type 0
IsSorted held = IsStrictlySortedBy package_cmp (packages_of held)

pub in-order : (held : List Held) → IsSorted held → IsInOrder (packages_of held)
in-order held sorted i j d before within = Less-from_sorted package_cmp (packages_of held) i j d sorted before within

abbrev pub AreInOrder : List Held → Type 0
AreInOrder held = IsInOrder (packages_of held)

rises : (held : List Held) → AreInOrder held → Rises package_cmp package_total (λ (x : Held). x.0) held
rises held ordered i j d before within =
    let first = get_or-map (λ (x : Held). x.0) held i d d.0 (omega arith) in
    let second = get_or-map (λ (x : Held). x.0) held j d d.0 within in
    let short : j < length (packages_of held) = omega (arith, length-map held (λ (x : Held). x.0)) in
    let below = ordered i j d.0 before short in
    subst (λ (x : Package). package_cmp x (get_or held j d).0 ≡ Less) first
    (subst (λ (x : Package). package_cmp (get_or (packages_of held) i d.0) x ≡ Less) second below)

-- two held entries of one name and equal versions are one
one-held : (held : List Held) (h g : Held) (p : Package) → AreInOrder held → Contains held h → Contains held g → IsSamePackage h.0 p → IsSamePackage g.0 p
    → h ≡ g
one-held held h g p sorted first second h_same g_same =
    let at_h = at-stands (λ (x : Held). package_cmp x.0 p ≡ Equal) held first.0 h first.1
    (let P : Held → Type 0 = λ x. package_cmp x.0 p ≡ Equal in subst P (sym first.2) (tied-from_same h.0 p h_same)) in
    let at_g = at-stands (λ (x : Held). package_cmp x.0 p ≡ Equal) held second.0 h second.1
    (let P : Held → Type 0 = λ x. package_cmp x.0 p ≡ Equal in
    subst P (sym (get_or_default held second.0 h g second.1 ∙ second.2)) (tied-from_same g.0 p g_same)) in
    let same : first.0 ≡ second.0 = one-place package_cmp package_total (λ (x : Held). x.0) held first.0 second.0 p (rises held sorted) at_h at_g in
    sym first.2 ∙ ap (λ k. get_or held k h) same ∙ get_or_default held second.0 h g second.1 ∙ second.2

pub held-here : (held : List Held) (q p : Package) (line : ℕ) → AreInOrder held → Contains held (q, line) → IsSamePackage q p → IsHeld held p ↔ (q ≡ p)
held-here held q p line sorted there same = (
  λ any.
      let h : Held = any.1 in
      let is : Contains held h = (any.0, any.2, any.3) in
      let h_same : IsSamePackage h.0 p = subst (λ (x : Package). IsSamePackage x p) (sym any.4) (itself p) in
      ap (λ (x : Held). x.0) (one-held held (q, line) h p sorted there is same h_same) ∙ any.4,
  λ equal. (there.0, (q, line), there.1, there.2, equal),
)

pub clash-here : (held : List Held) (q p : Package) (line kept : ℕ) → AreInOrder held → Contains held (q, line) → IsSamePackage q p → IsClashAt held p kept
    ↔ ((q ≢ p) × (line ≡ kept))
clash-here held q p line kept sorted there same = (
  λ any.
      let h : Held = any.1 in
      let is : Contains held h = (any.0, any.2, any.3) in
      let one : (q, line) ≡ h = one-held held (q, line) h p sorted there is same any.4.0 in
      ((λ equal. any.4.1 (sym (ap (λ (x : Held). x.0) one) ∙ equal)), ap (λ (x : Held). x.1) one ∙ any.4.2),
  λ both. (there.0, (q, line), there.1, there.2, (same, both.0, both.1)),
)

-- what a package is told beside the held one
abbrev Told : Type 0
Told = Result Added AddError

pub told-same : (held : List Held) (q p : Package) (kept : ℕ) (told : Told) → AreInOrder held → Contains held (q, kept) → IsSamePackage q p → (told ≡ Ok Same)
    ↔ (q ≡ p) → (told ≡ Ok Same) ↔ IsHeld held p
told-same held q p kept told ordered there same is =
    let here = held-here held q p kept ordered there same in
    ((λ e. here.1 (is.0 e)), λ any. is.1 (here.0 any))

pub told-clash : (held : List Held) (q p : Package) (kept line : ℕ) (told : Told) → AreInOrder held → Contains held (q, kept) → IsSamePackage q p
    → (told ≡ Ok Same) ↔ (q ≡ p) → (told ≡ Ok Same) ⊎ (told ≡ Err (Clash kept p))
    → (told ≡ Err (Clash line p)) ↔ IsClashAt held p line
told-clash held q p kept line told ordered there same is either =
    let here = clash-here held q p kept line ordered there same in (
      (λ e. elim either [
        | inl ok ↦ cc
        | inr clash ↦ let at : kept ≡ line = cc in here.1 ((λ equal. let ok = is.1 equal in cc), at)
      ]),
      λ any.
          let both = here.0 any in
          let error : ℕ → Told = λ k. Err (Clash k p) in
          elim either [
            | inl ok ↦ absurd (both.0 (is.0 ok))
            | inr clash ↦ clash ∙ ap error both.1
          ],
    )

pub free-not_held : (held : List Held) (p : Package) → IsFree held p → ¬ IsHeld held p
free-not_held held p free there =
    let h : Held = there.1 in
    free (there.0, h, there.2, there.3, subst (λ (x : Package). IsSamePackage x p) (sym there.4) (itself p))

-- ---- a new entry is added to those before

insert-cases : (o : Ordering) (e : Held) (es : List Held) (p : Package) (line : ℕ) → ¬ (o ≡ Equal)
    → IsPermutation ((p, line) ∷ es) (insert_entry package_cmp es p line) →
    IsPermutation ((p, line) ∷ e ∷ es) (match_ordering o ((p, line) ∷ e ∷ es) ((e.0, line) ∷ es) (e ∷ insert_entry package_cmp es p line))
insert-cases Less e es p line apart later = IsPermutation-refl ((p, line) ∷ e ∷ es)
insert-cases Equal e es p line apart later = absurd (apart refl)
insert-cases Greater e es p line apart later =
    let h : Held = (p, line) in
    IsPermutation-trans (h ∷ e ∷ es) (e ∷ h ∷ es) (e ∷ insert_entry package_cmp es p line) (IsPermutation-middle (h ∷ []) e es)
    (IsPermutation-cons e (h ∷ es) (insert_entry package_cmp es p line) later)

free-tail : (e : Held) (es : List Held) (p : Package) → IsFree (e ∷ es) p → IsFree es p
free-tail e es p free there = free (suc there.0, there.1, omega (arith, there.2), there.3, there.4)

pub insert-permutes : (held : List Held) (p : Package) (line : ℕ) → IsFree held p → IsPermutation ((p, line) ∷ held) (insert_entry package_cmp held p line)
insert-permutes [] p line free = IsPermutation-refl ((p, line) ∷ [])
insert-permutes (e ∷ es) p line free =
    insert-cases (package_cmp p e.0) e es p line (λ tied. free (0, e, omega arith, refl, same-back p e.0 (same-from_tied p e.0 tied)))
    (insert-permutes es p line (free-tail e es p free))

-- what is added is new
pub never-same : (P : Type 0) (r : Result Added AddError) → IfOk r (λ added. (added ≡ New) × P) → r ≢ Ok Same
never-same P (Ok added) says e = let is : added ≡ New = says.0 in cc
never-same P (Err error) says e = cc
