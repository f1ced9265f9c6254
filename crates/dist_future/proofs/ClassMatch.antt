-- What a new version of a member matches, and what a package of a new name does: what the variables of its class match.
use Rattle.std.proofs.Common.{◌≡◌, ◌⊎◌, ◌↔◌, ℕ, zero, suc, ◌<◌, Bool, true, false, List, [], ◌∷◌, Option, Some, None, Ordering, Less, Equal, Greater, length}
use Rattle.std.proofs.Common.{get_or, refl, sym, ap, subst, ◌∙◌, inl, inr, arith, slice_get}
use Rattle.std.specs.Prelude.{Any, Contains, IsSomeAnd, slice_index, if◌then◌else◌}
use Rattle.std.specs.Ordering.{is_eq}
use Rattle.std.proofs.lemmas.Option.{get_or_from_slice_get, slice_get_within}
use Rattle.dist_base.specs.ListLaws.{any-at, any-cases, any-head, at-has, contains-at, found-at, has-at, here-at}
use Rattle.dist_version.specs.Order.{version_cmp, IsBelow}
use Rattle.dist_version.specs.Spelling.{IsVersion}
use Rattle.dist_relation.specs.declared.atom.Atom.{Atom}
use Rattle.dist_relation.specs.declared.atom.Provide.{Provide}
use Rattle.dist_repo.specs.Match.{IsUsable, Matches, MatchesByEntry}
use Rattle.dist_repo.specs.PackageList.{PackageList}
use Rattle.dist_repo.specs.declared.package.Package.{Package}
use Rattle.dist_classes.specs.Atoms.{IsAtomOf}
use Rattle.dist_classes.specs.ClassList.{AreInOneClass, IsInOneClass, IsOfClassAt, classes_above, classes_of_all}
use Rattle.dist_classes.specs.Cuts.{AreCuts, IsClusterCut, IsNameCut, Rises, RisesFrom}
use Rattle.dist_classes.specs.NewVersion.{AreCarried, IsCarried, IsNewVersionOf, IsOfNewName}
use Rattle.dist_classes.specs.declared.class_value.Class.{Class}
use Rattle.dist_space.specs.Space.{IsExample, IsMatched, IsMeaning, IsFrame, MeetsBound, SpaceView, example_at, fresh_classes, member_classes, moved_entry}
use Rattle.dist_space.specs.Space.{moved_version}
use Rattle.dist_future.specs.Stands.{fresh_package}
use Rattle.dist_space.specs.declared.meaning.Meaning.TheVariants.{New, Kept, Fresh}
use Rattle.dist_classes.specs.VersionOrderLaws.{equal-itself}
use Rattle.dist_space.specs.ClusterLaws.{HasCluster}

-- ---- the laws of classes

-- Each version above a top is in one class, and no other version is. New versions of one member, and packages of one new name,
-- match alike at versions of one class.
pub record ClassLaws : Type 0 where
  pub above : (top : List ℕ) (cuts : List (List ℕ)) → RisesFrom top cuts → (v : List ℕ) → IsBelow top v → IsInOneClass (classes_above top cuts) v
  pub below : (top : List ℕ) (cuts : List (List ℕ)) → RisesFrom top cuts → (v : List ℕ) (number : ℕ) → IsOfClassAt (classes_above top cuts) number v
      → IsBelow top v
  pub all : (cuts : List (List ℕ)) → Rises cuts → (v : List ℕ) → IsInOneClass (classes_of_all cuts) v
  pub members : (r : PackageList) (members top : List ℕ) (cuts : List (List ℕ)) → AreCuts (IsClusterCut r members top) cuts →
      (number : ℕ) (p : Package) → Contains members number → slice_get r.packages number ≡ Some p →
      (kept : List Bool) (first second : Package) → IsNewVersionOf p kept first → IsNewVersionOf p kept second →
      AreInOneClass (classes_above top cuts) first.version second.version →
      (atom : Atom) → IsAtomOf r atom → Matches r.architecture atom first ↔ Matches r.architecture atom second
  pub names : (r : PackageList) (name : List ℕ) (cuts : List (List ℕ)) → AreCuts (IsNameCut r name) cuts →
      (first second : Package) → IsOfNewName name first → IsOfNewName name second →
      AreInOneClass (classes_of_all cuts) first.version second.version →
      (atom : Atom) → IsAtomOf r atom → Matches r.architecture atom first ↔ Matches r.architecture atom second

-- ---- entries that are kept

-- none, or one alone
pub nones : List Provide → List Bool
nones [] = []
nones (entry ∷ entries) = false ∷ nones entries

pub one-alone : List Provide → ℕ → List Bool
one-alone [] j = []
one-alone (entry ∷ entries) zero = true ∷ nones entries
one-alone (entry ∷ entries) (suc j) = false ∷ one-alone entries j

pub carried-none : (old new : List ℕ) (entries : List Provide) → AreCarried old new (nones entries) entries []
unfolding nones
carried-none old new [] = refl
carried-none old new (entry ∷ entries) = carried-none old new entries

pub carried-one : (old new : List ℕ) (entries : List Provide) (j : ℕ) (entry carried : Provide) → slice_get entries j ≡ Some entry
    → IsCarried old new entry carried
    → AreCarried old new (one-alone entries j) entries (carried ∷ [])
unfolding one-alone
carried-one old new [] j entry carried is h = absurd (let no : None ≡ Some entry = is in cc)
carried-one old new (first ∷ entries) zero entry carried is h =
    let same : entry ≡ first = cc in
    (carried, [], refl, subst (λ (e : Provide). IsCarried old new e carried) same h, carried-none old new entries)
carried-one old new (first ∷ entries) (suc j) entry carried is h = carried-one old new entries j entry carried is h

-- the entry that a carried one comes from
pub record IsFrom (old new : List ℕ) (kept : List Bool) (entries : List Provide) (carried : Provide) : Type 0 where
  pub place : ℕ
  pub entry : Provide
  pub is : slice_get entries place ≡ Some entry
  pub kept_is : slice_get kept place ≡ Some true
  pub carries : IsCarried old new entry carried

from-later : (old new : List ℕ) (kept : List Bool) (flag : Bool) (entry : Provide) (entries : List Provide) (carried : Provide)
    → IsFrom old new kept entries carried → IsFrom old new (flag ∷ kept) (entry ∷ entries) carried
from-later old new kept flag entry entries carried h = record { place = suc h.place; entry = h.entry; is = h.is; kept_is = h.kept_is; carries = h.carries }

from-first : (old new : List ℕ) (kept : List Bool) (entry : Provide) (entries : List Provide) (first : Provide) (rest : List Provide) (e : Provide)
    → IsCarried old new entry first
    → (Contains rest e → IsFrom old new kept entries e) → Contains (first ∷ rest) e → IsFrom old new (true ∷ kept) (entry ∷ entries) e
from-first old new kept entry entries first rest e carries later (zero, short, is) =
    record { place = 0; entry = entry; is = refl; kept_is = refl; carries = subst (λ (x : Provide). IsCarried old new entry x) is carries }
from-first old new kept entry entries first rest e carries later (suc k, short, is) =
    from-later old new kept true entry entries e (later (k, omega (arith, short), is))

pub carried-from : (old new : List ℕ) (kept : List Bool) (entries carried : List Provide) (e : Provide) → AreCarried old new kept entries carried
    → Contains carried e → IsFrom old new kept entries e
carried-from old new [] [] carried e are there = absurd (let inside = there.1 in let none = ap (λ (xs : List Provide). length xs) are in omega arith)
carried-from old new [] (entry ∷ entries) carried e are there = absurd are
carried-from old new (true ∷ kept) [] carried e are there = absurd are
carried-from old new (false ∷ kept) [] carried e are there = absurd are
carried-from old new (false ∷ kept) (entry ∷ entries) carried e are there =
    from-later old new kept false entry entries e (carried-from old new kept entries carried e are there)
carried-from old new (true ∷ kept) (entry ∷ entries) carried e are there =
    from-first old new kept entry entries are.0 are.1 e are.3 (carried-from old new kept entries are.1 e are.4)
    (subst (λ (xs : List Provide). Contains xs e) are.2 there)

-- where an entry that is kept goes
pub record IsTaken (old new : List ℕ) (carried : List Provide) (entry : Provide) : Type 0 where
  pub place : ℕ
  pub taken : Provide
  pub is : slice_get carried place ≡ Some taken
  pub carries : IsCarried old new entry taken

taken-later : (old new : List ℕ) (first : Provide) (rest carried : List Provide) (entry : Provide) → carried ≡ first ∷ rest → IsTaken old new rest entry
    → IsTaken old new carried entry
taken-later old new first rest carried entry are h =
    record { place = suc h.place; taken = h.taken; is = ap (λ (xs : List Provide). slice_get xs (suc h.place)) are ∙ h.is; carries = h.carries }

pub carried-taken : (old new : List ℕ) (kept : List Bool) (entries carried : List Provide) (j : ℕ) (entry : Provide) → AreCarried old new kept entries carried
    → slice_get entries j ≡ Some entry → slice_get kept j ≡ Some true
    → IsTaken old new carried entry
carried-taken old new [] [] carried j entry are is flag = absurd (let no : None ≡ Some entry = is in cc)
carried-taken old new [] (e ∷ entries) carried j entry are is flag = absurd are
carried-taken old new (true ∷ kept) [] carried j entry are is flag = absurd are
carried-taken old new (false ∷ kept) [] carried j entry are is flag = absurd are
carried-taken old new (true ∷ kept) (e ∷ entries) carried zero entry are is flag =
    let same : e ≡ entry = cc in
    record {
      place = 0;
      taken = are.0;
      is = ap (λ (xs : List Provide). slice_get xs 0) are.2;
      carries = subst (λ (x : Provide). IsCarried old new x are.0) same are.3;
    }
carried-taken old new (false ∷ kept) (e ∷ entries) carried zero entry are is flag = absurd (let no : false ≡ true = cc in cc)
carried-taken old new (true ∷ kept) (e ∷ entries) carried (suc j) entry are is flag =
    taken-later old new are.0 are.1 carried entry are.2 (carried-taken old new kept entries are.1 j entry are.4 is flag)
carried-taken old new (false ∷ kept) (e ∷ entries) carried (suc j) entry are is flag = carried-taken old new kept entries carried j entry are is flag

-- an entry as it is moved is carried
chosen : (o : Ordering) (a b : Option (List ℕ)) → o ≡ Equal → (if is_eq o then a else b) ≡ a
chosen Less a b is = cc
chosen Equal a b is = refl
chosen Greater a b is = cc

other : (o : Ordering) (a b : Option (List ℕ)) → ¬ (o ≡ Equal) → (if is_eq o then a else b) ≡ b
other Less a b not = refl
other Equal a b not = absurd (not refl)
other Greater a b not = refl

moved-at : (old new : List ℕ) (version : Option (List ℕ)) → IsSomeAnd version (λ v. version_cmp v old ≡ Equal) → moved_version old new version ≡ Some new
moved-at old new None at = absurd at
moved-at old new (Some v) at = chosen (version_cmp v old) (Some new) (Some v) at

moved-stays : (old new : List ℕ) (version : Option (List ℕ)) → ¬ IsSomeAnd version (λ v. version_cmp v old ≡ Equal) → moved_version old new version ≡ version
moved-stays old new None not_at = refl
moved-stays old new (Some v) not_at = other (version_cmp v old) (Some new) (Some v) not_at

pub moved-carried : (old new : List ℕ) (entry : Provide) → IsVersion new → IsCarried old new entry (moved_entry old new entry)
moved-carried old new entry version = record {
  name = refl;
  qualifier = refl;
  moved = λ at. let P : Option (List ℕ) → Type 0 = λ o. IsSomeAnd o (λ v. version_cmp v new ≡ Equal) in
      subst P (sym (moved-at old new entry.version at)) (equal-itself new);
  spelled = λ at. let P : Option (List ℕ) → Type 0 = λ o. IsSomeAnd o IsVersion in subst P (sym (moved-at old new entry.version at)) version;
  stays = moved-stays old new entry.version;
}

-- ---- a member of a cluster

-- a package that provides some entries alone
abbrev pub with_version : Package → List ℕ → List Provide → Package
with_version p version entries = record p { version = version; provides = entries }

pub bare-new : (p : Package) (version : List ℕ) → IsVersion version → IsNewVersionOf p (nones p.provides) (with_version p version [])
bare-new p version is = record { name = refl; version = is; provides = carried-none p.version version p.provides }

pub single-new : (p : Package) (version : List ℕ) (j : ℕ) (entry carried : Provide) → IsVersion version → slice_get p.provides j ≡ Some entry
    → IsCarried p.version version entry carried
    → IsNewVersionOf p (one-alone p.provides j) (with_version p version (carried ∷ []))
single-new p version j entry carried is at carries = record {
  name = refl;
  version = is;
  provides = carried-one p.version version p.provides j entry carried at carries;
}

-- what is known of a member and a class of its cluster
pub record IsMemberAt (s : SpaceView) (r k : ℕ) (p : Package) : Type 0 where
  pub is : slice_get s.repository.packages r ≡ Some p
  pub short : k < length (member_classes s r)
  pub example : IsExample (member_classes s r) k
  pub alike : (kept : List Bool) (first second : Package) → IsNewVersionOf p kept first → IsNewVersionOf p kept second →
      IsOfClassAt (member_classes s r) k first.version → IsOfClassAt (member_classes s r) k second.version →
      (atom : Atom) → IsAtomOf s.repository atom → Matches s.repository.architecture atom first ↔ Matches s.repository.architecture atom second

-- the cluster of a package
pub member-at : ClassLaws → (s : SpaceView) → IsFrame s → (r k : ℕ) (p : Package) → HasCluster s r → slice_get s.repository.packages r ≡ Some p
    → k < length (member_classes s r) → IsMemberAt s r k p
member-at laws s frame r k p has is short =
    let c = slice_index s.cluster_of r in
    let members = get_or s.clusters.members c [] in
    let top = get_or s.clusters.tops c [] in
    let are = frame.classes c has.within in
    record {
      is = is;
      short = short;
      example = frame.examples c k short;
      alike = λ kept first second one two at also atom of.
          let At : Package → List Class → Type 0 = λ q classes. IsOfClassAt classes k q.version in
          laws.members s.repository members top are.cuts are.are_cuts r p has.there is kept first second one two
          (record { number = k; first = subst (At first) are.are at; second = subst (At second) are.are also }) atom of;
    }

-- a new version is matched as its class is, or as an entry is that it has kept
abbrev pub IsKeptMatch : SpaceView → ℕ → ℕ → List Bool → Atom → ℕ → Type 0
IsKeptMatch s r k kept atom j = (slice_get kept j ≡ Some true) × IsMeaning s (Kept r k j) × IsMatched s atom (Kept r k j)

abbrev pub IsNewMatch : SpaceView → ℕ → ℕ → List Bool → Atom → Type 0
IsNewMatch s r k kept atom = IsMatched s atom (New r k) ⊎ (j : ℕ) × IsKeptMatch s r k kept atom j

none-matched : {X : Type 0} (P : X → Type 0) → ¬ Any P []
none-matched P any = omega (arith, any.2)

one-matched : {X : Type 0} (P : X → Type 0) (x : X) → Any P (x ∷ []) → P x
one-matched P x any = elim (any-cases P x [] any) [
  | inl here ↦ here
  | inr later ↦ absurd (none-matched P later)
]

module _ (s : SpaceView) (r k : ℕ) (p : Package) (member : IsMemberAt s r k p) (atom : Atom) (of : IsAtomOf s.repository atom) where
  abbrev architecture : Option (List ℕ)
  architecture = s.repository.architecture

  abbrev example : List ℕ
  example = example_at (member_classes s r) k

  abbrev ByEntry : Provide → Type 0
  ByEntry e = MatchesByEntry architecture atom e

  -- by the name
  abbrev NameMeets : Package → Type 0
  NameMeets q = (q.name ≡ atom.name) × MeetsBound atom example

  new-at : IsUsable architecture atom.qualifier → p.name ≡ atom.name → MeetsBound atom example → IsMatched s atom (New r k)
  new-at usable name meets = (usable, at-has NameMeets s.repository.packages r p member.is (name, meets))

  at-new : IsMatched s atom (New r k) → NameMeets p
  at-new matched = has-at NameMeets s.repository.packages r p member.is matched.1

  -- by an entry
  abbrev EntryMeets : ℕ → Package → Type 0
  EntryMeets j q = IsSomeAnd (slice_get q.provides j) (λ entry. ByEntry (moved_entry q.version example entry))

  kept-at : (j : ℕ) (entry : Provide) → slice_get p.provides j ≡ Some entry → IsUsable architecture atom.qualifier
      → ByEntry (moved_entry p.version example entry) → IsMatched s atom (Kept r k j)
  kept-at j entry is usable matches = (
    usable,
    at-has (EntryMeets j) s.repository.packages r p member.is
        (at-has (λ e. ByEntry (moved_entry p.version example e)) p.provides j entry is matches),
  )

  abbrev Usable : ℕ → Package → Type 0
  Usable j q = IsSomeAnd (slice_get q.provides j) (λ entry. IsUsable architecture entry.qualifier)

  meaning-at : (j : ℕ) (entry : Provide) → slice_get p.provides j ≡ Some entry → IsUsable architecture entry.qualifier → IsMeaning s (Kept r k j)
  meaning-at j entry is usable =
      (at-has (Usable j) s.repository.packages r p member.is (at-has (λ e. IsUsable architecture e.qualifier) p.provides j entry is usable), member.short)

  -- a package of the member's name with one entry, or none
  bare : List ℕ → Package
  bare version = with_version p version []

  by-name-cases : (version : List ℕ) (entries : List Provide) → Matches architecture atom (with_version p version entries)
      → ((p.name ≡ atom.name) × MeetsBound atom version) ⊎ Any ByEntry entries
  by-name-cases version entries matches = elim matches.matched [
    | inl by_name ↦ inl (by_name.name, by_name.bound)
    | inr any ↦ inr any
  ]

  name-matches : (version : List ℕ) (entries : List Provide) → IsUsable architecture atom.qualifier → p.name ≡ atom.name → MeetsBound atom version
      → Matches architecture atom (with_version p version entries)
  name-matches version entries usable name meets = record { usable = usable; matched = inl (record { name = name; bound = meets }) }

  entry-matches : (version : List ℕ) (entry : Provide) → IsUsable architecture atom.qualifier → ByEntry entry
      → Matches architecture atom (with_version p version (entry ∷ []))
  entry-matches version entry usable matches = record { usable = usable; matched = inr (any-head ByEntry entry [] matches) }

  -- the two packages with the member's name and one entry, at the new version and at the example
  single-alike : (version : List ℕ) (j : ℕ) (entry carried : Provide) → IsVersion version → IsOfClassAt (member_classes s r) k version
      → slice_get p.provides j ≡ Some entry → IsCarried p.version version entry carried
      → Matches architecture atom (with_version p version (carried ∷ []))
      ↔ Matches architecture atom (with_version p example (moved_entry p.version example entry ∷ []))
  single-alike version j entry carried is class at carries =
      member.alike (one-alone p.provides j) (with_version p version (carried ∷ [])) (with_version p example (moved_entry p.version example entry ∷ []))
      (single-new p version j entry carried is at carries) (single-new p example j entry (moved_entry p.version example entry) member.example.0 at
      (moved-carried p.version example entry member.example.0))
      class member.example.1 atom of

  bare-alike : (version : List ℕ) → IsVersion version → IsOfClassAt (member_classes s r) k version
      → Matches architecture atom (with_version p version []) ↔ Matches architecture atom (with_version p example [])
  bare-alike version is class =
      member.alike (nones p.provides) (with_version p version []) (with_version p example []) (bare-new p version is) (bare-new p example member.example.0)
      class member.example.1 atom of

  to-new-by_name : (n : Package) (version : IsVersion n.version) → IsOfClassAt (member_classes s r) k n.version → IsUsable architecture atom.qualifier
      → p.name ≡ atom.name → MeetsBound atom n.version → IsMatched s atom (New r k)
  to-new-by_name n version class usable name meets =
      elim (by-name-cases example [] ((bare-alike n.version version class).0 (name-matches n.version [] usable name meets))) [
        | inl h ↦ new-at usable h.0 h.1
        | inr any ↦ absurd (none-matched ByEntry any)
      ]

  to-new-by_entry : (n : Package) (kept : List Bool) → IsNewVersionOf p kept n → IsOfClassAt (member_classes s r) k n.version
      → IsUsable architecture atom.qualifier → Any ByEntry n.provides → IsNewMatch s r k kept atom
  to-new-by_entry n kept new class usable any =
      let at = found-at ByEntry n.provides any in
      let from = carried-from p.version n.version kept p.provides n.provides at.element new.provides (contains-at n.provides at.place at.element at.is) in
      let example_matches = (single-alike n.version from.place from.entry at.element new.version class from.is from.carries).0
      (entry-matches n.version at.element usable at.holds) in
      elim (by-name-cases example (moved_entry p.version example from.entry ∷ []) example_matches) [
        | inl h ↦ inl (new-at usable h.0 h.1)
        | inr any_entry ↦
            let matches = one-matched ByEntry (moved_entry p.version example from.entry) any_entry in
            inr (from.place, (from.kept_is, meaning-at from.place from.entry from.is matches.usable, kept-at from.place from.entry from.is usable matches))
      ]

  -- what matches a new version matches a variable of its class
  pub to-new : (n : Package) (kept : List Bool) → IsNewVersionOf p kept n → IsOfClassAt (member_classes s r) k n.version → Matches architecture atom n
      → IsNewMatch s r k kept atom
  to-new n kept new class matches = elim matches.matched [
    | inl by_name ↦ inl (to-new-by_name n new.version class matches.usable (sym new.name ∙ by_name.name) by_name.bound)
    | inr any ↦ to-new-by_entry n kept new class matches.usable any
  ]

  -- and the other way round
  n-by-name : (n : Package) (kept : List Bool) → IsNewVersionOf p kept n → IsUsable architecture atom.qualifier → p.name ≡ atom.name → MeetsBound atom n.version
      → Matches architecture atom n
  n-by-name n kept new usable name meets = record { usable = usable; matched = inl (record { name = new.name ∙ name; bound = meets }) }

  pub from-new : (n : Package) (kept : List Bool) → IsNewVersionOf p kept n → IsOfClassAt (member_classes s r) k n.version → IsMatched s atom (New r k)
      → Matches architecture atom n
  from-new n kept new class matched =
      let at = at-new matched in
      elim (by-name-cases n.version [] ((bare-alike n.version new.version class).1 (name-matches example [] matched.0 at.0 at.1))) [
        | inl h ↦ n-by-name n kept new matched.0 h.0 h.1
        | inr any ↦ absurd (none-matched ByEntry any)
      ]

  pub from-kept : (n : Package) (kept : List Bool) (j : ℕ) → IsNewVersionOf p kept n → IsOfClassAt (member_classes s r) k n.version
      → slice_get kept j ≡ Some true → IsMatched s atom (Kept r k j) → Matches architecture atom n
  from-kept n kept j new class flag matched =
      let here : EntryMeets j p = has-at (EntryMeets j) s.repository.packages r p member.is matched.1 in
      let at = here-at (λ entry. ByEntry (moved_entry p.version example entry)) p.provides j here in
      let taken = carried-taken p.version n.version kept p.provides n.provides j at.element new.provides at.is flag in
      let own = (single-alike n.version j at.element taken.taken new.version class at.is taken.carries).1
      (entry-matches example (moved_entry p.version example at.element) matched.0 at.holds) in
      elim (by-name-cases n.version (taken.taken ∷ []) own) [
        | inl h ↦ n-by-name n kept new matched.0 h.0 h.1
        | inr any_entry ↦ record {
          usable = matched.0;
          matched = inr
              (any-at ByEntry n.provides taken.place taken.taken taken.is (one-matched ByEntry taken.taken any_entry));
        }
      ]

-- ---- a package of a new name

-- what is known of a new name and a class of it
pub record IsFreshAt (s : SpaceView) (x k : ℕ) (name : List ℕ) : Type 0 where
  pub is : slice_get s.names x ≡ Some name
  pub short : k < length (fresh_classes s x)
  pub example : IsExample (fresh_classes s x) k
  pub alike : (first second : Package) → IsOfNewName name first → IsOfNewName name second →
      IsOfClassAt (fresh_classes s x) k first.version → IsOfClassAt (fresh_classes s x) k second.version →
      (atom : Atom) → IsAtomOf s.repository atom → Matches s.repository.architecture atom first ↔ Matches s.repository.architecture atom second

pub fresh-at : ClassLaws → (s : SpaceView) → IsFrame s → (x k : ℕ) (name : List ℕ) → slice_get s.names x ≡ Some name → k < length (fresh_classes s x)
    → IsFreshAt s x k name
fresh-at laws s frame x k name is short =
    let are = frame.name_classes x (slice_get_within s.names x name is) in
    let same : get_or s.names x [] ≡ name = get_or_from_slice_get s.names x name [] is in
    let Cuts : List ℕ → Type 0 = λ n. AreCuts (IsNameCut s.repository n) are.cuts in
    record {
      is = is;
      short = short;
      example = frame.name_examples x k short;
      alike = λ first second one two at also atom of.
          let At : Package → List Class → Type 0 = λ q classes. IsOfClassAt classes k q.version in
          laws.names s.repository name are.cuts (subst Cuts same are.are_cuts) first second one two
          (record { number = k; first = subst (At first) are.are at; second = subst (At second) are.are also }) atom of;
    }

pub fresh-new : (name version : List ℕ) → IsVersion version → IsOfNewName name (fresh_package name version)
fresh-new name version is = record { name = refl; version = is; provides = refl }

module _ (s : SpaceView) (x k : ℕ) (name : List ℕ) (fresh : IsFreshAt s x k name) (atom : Atom) (of : IsAtomOf s.repository atom) where
  abbrev FreshMeets : List ℕ → Type 0
  FreshMeets other = (other ≡ atom.name) × MeetsBound atom (example_at (fresh_classes s x) k)

  example-package : Package
  example-package = fresh_package name (example_at (fresh_classes s x) k)

  n-alike : (n : Package) → IsOfNewName name n → IsOfClassAt (fresh_classes s x) k n.version → Matches s.repository.architecture atom n
      ↔ Matches s.repository.architecture atom (fresh_package name (example_at (fresh_classes s x) k))
  n-alike n new class =
      fresh.alike n (fresh_package name (example_at (fresh_classes s x) k)) new (fresh-new name (example_at (fresh_classes s x) k) fresh.example.0) class
      fresh.example.1 atom of

  pub to-fresh : (n : Package) → IsOfNewName name n → IsOfClassAt (fresh_classes s x) k n.version → Matches s.repository.architecture atom n
      → IsMatched s atom (Fresh x k)
  to-fresh n new class matches =
      let other = (n-alike n new class).0 matches in (
        matches.usable,
        at-has FreshMeets s.names x name fresh.is (elim other.matched [
          | inl by_name ↦ (by_name.name, by_name.bound)
          | inr any ↦ absurd (none-matched (λ e. MatchesByEntry s.repository.architecture atom e) any)
        ]),
      )

  pub from-fresh : (n : Package) → IsOfNewName name n → IsOfClassAt (fresh_classes s x) k n.version → IsMatched s atom (Fresh x k)
      → Matches s.repository.architecture atom n
  from-fresh n new class matched =
      let at : FreshMeets name = has-at FreshMeets s.names x name fresh.is matched.1 in
      (n-alike n new class).1 (record { usable = matched.0; matched = inl (record { name = at.0; bound = at.1 }) })
