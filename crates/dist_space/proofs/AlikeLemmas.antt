-- Entries of a name in order that stand alike: they stand together, and an atom matches all of them or none.
use Rattle.std.proofs.Common.{◌≡◌, ◌==◌, eqb-true, eq-eqb, ℕ, ◌<◌, ◌≤◌, Bool, true, false, List, [], ◌∷◌, length, get_or, Option, Some, None, Ordering}
use Rattle.std.proofs.Common.{Less, Equal, Greater, is_eq, nat_cmp, refl, sym, ap, subst, ◌∙◌, arith, slice_get}
use Rattle.std.specs.Prelude.{◌&&◌, Contains, IfSome, IsSomeAnd, if◌then◌else◌}
use Rattle.std.specs.List.Sorted.{IsPartitionedBy, IsSortedBy}
use Rattle.std.specs.Option.{option_cmp}
use Rattle.std.specs.Ordering.{is_gt, is_lt, ordering_index, ordering_reverse, ordering_then}
use Rattle.std.proofs.lemmas.Bool.{false≢true}
use Rattle.std.proofs.lemmas.Bool.Decides.{nat_tests}
use Rattle.std.proofs.lemmas.Cmp.{alike_right, nat_cmp_total}
use Rattle.std.proofs.lemmas.List.Elements.{Contains-get_or}
use Rattle.std.proofs.lemmas.List.Sorted.{ranks_by, sorted_far}
use Rattle.dist_base.specs.ListLaws.{at-has, has-at, here-at}
use Rattle.dist_version.specs.Order.{version_cmp}
use Rattle.dist_version.specs.OrderLaws.{version_total}
use Rattle.dist_relation.specs.Satisfies.{AllowsOrder, Satisfies}
use Rattle.dist_relation.specs.declared.atom.Atom.{Atom}
use Rattle.dist_relation.specs.declared.atom.Bound.{Bound}
use Rattle.dist_relation.specs.declared.atom.Provide.{Provide}
use Rattle.dist_repo.specs.Match.{MatchesByEntry}
use Rattle.dist_repo.specs.declared.package.Package.{Package}
use Rattle.dist_space.specs.EntryOrder.{AreMatchedAlike, IsEntryNamed, are_alike, are_alike_to, entry_version, is_useless, rank_at, stand_alike, use_cmp}
use Rattle.dist_space.specs.EntryOrder.{version_at, versions_alike}
use Rattle.dist_space.specs.Space.{IsMatchedBy, SpaceView, example_at, member_classes, moved_entry, moved_version}
use Rattle.dist_space.specs.Usable.{is_usable}
use Rattle.dist_space.specs.UsableLaws.{is-usable, usable-is}
use Rattle.dist_space.specs.declared.meaning.Meaning.TheVariants.{Kept}
use Rattle.dist_space.proofs.EntryLemmas.{use_total}

-- ---- orders

turned : (o : Ordering) → is_lt o ≡ false → is_gt (ordering_reverse o) ≡ false
turned Less h = cc
turned Equal h = refl
turned Greater h = refl

same-index : (o p : Ordering) → ordering_index o ≡ ordering_index p → o ≡ p
same-index Less Less is = refl
same-index Less Equal is = absurd (omega (arith, is))
same-index Less Greater is = absurd (omega (arith, is))
same-index Equal Less is = absurd (omega (arith, is))
same-index Equal Equal is = refl
same-index Equal Greater is = absurd (omega (arith, is))
same-index Greater Less is = absurd (omega (arith, is))
same-index Greater Equal is = absurd (omega (arith, is))
same-index Greater Greater is = refl

both-are : (a b : Bool) → (a && b) ≡ true → (a ≡ true) × (b ≡ true)
both-are true b is = (refl, is)
both-are false b is = absurd (false≢true is)

and-true : (a b : Bool) → a ≡ true → b ≡ true → (a && b) ≡ true
and-true true b first second = second
and-true false b first second = absurd (false≢true first)

alike-is : (third a b : List ℕ) → stand_alike third a b ≡ true → version_cmp a third ≡ version_cmp b third
alike-is third a b is = same-index (version_cmp a third) (version_cmp b third) (eqb-true (ordering_index (version_cmp a third)) (ordering_index (version_cmp b
    third)) is)

is-alike : (third a b : List ℕ) → version_cmp a third ≡ version_cmp b third → stand_alike third a b ≡ true
is-alike third a b is = eq-eqb (ordering_index (version_cmp a third)) (ordering_index (version_cmp b third)) (ap ordering_index is)

first-not_gt : (a b : Ordering) → is_gt (ordering_then a b) ≡ false → is_gt a ≡ false
first-not_gt Less b h = refl
first-not_gt Equal b h = refl
first-not_gt Greater b h = h

second-not_gt : (a b : Ordering) → is_gt (ordering_then a b) ≡ false → a ≡ Equal → is_gt b ≡ false
second-not_gt Less b h e = cc
second-not_gt Equal b h e = h
second-not_gt Greater b h e = cc

not-gt_both : (o : Ordering) → is_gt o ≡ false → is_gt (ordering_reverse o) ≡ false → o ≡ Equal
not-gt_both Less h g = cc
not-gt_both Equal h g = refl
not-gt_both Greater h g = cc

-- ---- between two versions that stand alike to a third one

lower : (o : Ordering) (b c third : List ℕ) → version_cmp b c ≡ o → is_gt o ≡ false → version_cmp c third ≡ Less → version_cmp b third ≡ Less
lower Less b c third is up less = version_total.trans b c third is less
lower Equal b c third is up less = version_total.congr b c third is ∙ less
lower Greater b c third is up less = cc

squeezed-by : (o : Ordering) (third a b c : List ℕ) → version_cmp a third ≡ o → version_cmp c third ≡ o → is_gt (version_cmp a b) ≡ false
    → is_gt (version_cmp b c) ≡ false → version_cmp b third ≡ o
squeezed-by Less third a b c first last low high = lower (version_cmp b c) b c third refl high last
squeezed-by Equal third a b c first last low high =
    let up : is_gt (version_cmp b third) ≡ false = ap is_gt (sym (alike_right version_total c third b last)) ∙ high in
    let down : is_gt (version_cmp third b) ≡ false = ap is_gt (sym (version_total.congr a third b first)) ∙ low in
    not-gt_both (version_cmp b third) up (ap is_gt (sym (version_total.antisymm third b)) ∙ down)
squeezed-by Greater third a b c first last low high =
    let less : version_cmp third a ≡ Less = version_total.antisymm third a ∙ ap ordering_reverse first in
    version_total.antisymm b third ∙ ap ordering_reverse (raised (version_cmp a b) refl low less)
  where
    raised : (o : Ordering) → version_cmp a b ≡ o → is_gt o ≡ false → version_cmp third a ≡ Less → version_cmp third b ≡ Less
    raised Less is up less = version_total.trans third a b less is
    raised Equal is up less = sym (alike_right version_total a b third is) ∙ less
    raised Greater is up less = cc

squeezed : (third a b c : List ℕ) → is_gt (version_cmp a b) ≡ false → is_gt (version_cmp b c) ≡ false → stand_alike third a c ≡ true
    → stand_alike third a b ≡ true
squeezed third a b c low high alike =
    let same = alike-is third a c alike in
    is-alike third a b (sym (squeezed-by (version_cmp a third) third a b c refl (sym same) low high))

bound-squeezed : (bound : Option Bound) (a b c : List ℕ) → is_gt (version_cmp a b) ≡ false → is_gt (version_cmp b c) ≡ false → are_alike_to bound a c ≡ true
    → are_alike_to bound a b ≡ true
bound-squeezed None a b c low high alike = refl
bound-squeezed (Some bound) a b c low high alike = squeezed bound.version a b c low high alike

versions-squeezed : (bound : Option Bound) (own : List ℕ) (a b c : Option (List ℕ)) → is_gt (option_cmp version_cmp a b) ≡ false
    → is_gt (option_cmp version_cmp b c) ≡ false → versions_alike bound own a c ≡ true → versions_alike bound own a b ≡ true
versions-squeezed bound own None None c low high alike = refl
versions-squeezed bound own None (Some b) None low high alike = cc
versions-squeezed bound own None (Some b) (Some c) low high alike = absurd (false≢true alike)
versions-squeezed bound own (Some a) None c low high alike = cc
versions-squeezed bound own (Some a) (Some b) None low high alike = absurd (false≢true alike)
versions-squeezed bound own (Some a) (Some b) (Some c) low high alike =
    let parts = both-are (stand_alike own a c) (are_alike_to bound a c) alike in
    and-true (stand_alike own a b) (are_alike_to bound a b) (squeezed own a b c low high parts.0) (bound-squeezed bound a b c low high parts.1)

-- ---- those that stand as the first one does are in front

module _ (architecture : Option (List ℕ)) (bound : Option Bound) (own : List ℕ) (provides : List Provide) where
  ranks-squeezed : (i j k : ℕ) → is_gt (nat_cmp i j) ≡ false → is_gt (nat_cmp j k) ≡ false → i ≡ k → nat_cmp i j ≡ Equal
  ranks-squeezed i j k low high same =
      let back : is_gt (nat_cmp j i) ≡ false = ap (λ (x : ℕ). is_gt (nat_cmp j x)) same ∙ high in
      not-gt_both (nat_cmp i j) low (ap is_gt (sym (nat_cmp_total.antisymm j i)) ∙ back)

  equal-numbers : (i j : ℕ) → nat_cmp i j ≡ Equal → (i == j) ≡ true
  equal-numbers i j is = grind (arith, nat_tests)

  alike-between : (i j k : ℕ) → is_gt (use_cmp architecture provides i j) ≡ false → is_gt (use_cmp architecture provides j k) ≡ false
      → are_alike architecture bound own provides i k ≡ true → are_alike architecture bound own provides i j ≡ true
  alike-between i j k low high alike =
      let a = rank_at architecture provides i in
      let b = rank_at architecture provides j in
      let c = rank_at architecture provides k in
      let v = version_at provides i in
      let w = version_at provides j in
      let x = version_at provides k in
      let parts = both-are (a == c) (versions_alike bound own v x) alike in
      let same : a ≡ c = eqb-true a c parts.0 in
      let up = first-not_gt (nat_cmp a b) (option_cmp version_cmp v w) low in
      let down = first-not_gt (nat_cmp b c) (option_cmp version_cmp w x) high in
      let level : nat_cmp a b ≡ Equal = ranks-squeezed a b c up down same in
      let other : nat_cmp b c ≡ Equal = ap (λ (n : ℕ). nat_cmp b n) (sym same) ∙ nat_cmp_total.antisymm b a ∙ ap ordering_reverse level in
      and-true (a == b) (versions_alike bound own v w) (equal-numbers a b level)
      (versions-squeezed bound own v w x (second-not_gt (nat_cmp a b) (option_cmp version_cmp v w) low level)
      (second-not_gt (nat_cmp b c) (option_cmp version_cmp w x) high other) parts.1)

  module _ (places : List ℕ) (order : IsSortedBy (λ i j. is_lt (use_cmp architecture provides i j)) places) where
    up-to : (i j d : ℕ) → i ≤ j → j < length places → is_gt (use_cmp architecture provides (get_or places i d) (get_or places j d)) ≡ false
    up-to i j d less short =
        let x = get_or places i d in
        let y = get_or places j d in
        let total = use_total architecture provides in
        ap is_gt (total.antisymm x y) ∙ turned (use_cmp architecture provides y x)
        (sorted_far (λ a b. is_lt (use_cmp architecture provides a b)) (ranks_by total (λ (n : ℕ). n)) places order i j d less short)

    front : (places : List ℕ) (d : ℕ) → 0 < length places → get_or places 0 d ≡ get_or places 0 0
    front [] d some = absurd (omega (arith, some))
    front (x ∷ xs) d some = refl

    pub parted : IsPartitionedBy (are_alike architecture bound own provides (get_or places 0 0)) places
    parted i j d less short alike =
        let first = get_or places 0 0 in
        let low : is_gt (use_cmp architecture provides first (get_or places i d)) ≡ false =
        ap (λ (n : ℕ). is_gt (use_cmp architecture provides n (get_or places i d))) (sym (front places d (omega (arith, less, short))))
        ∙ up-to 0 i d (omega arith) (omega (arith, less, short)) in
        alike-between first (get_or places i d) (get_or places j d) low (up-to i j d less short) alike

-- an entry stands as itself
itself : (bound : Option Bound) (own : List ℕ) (v : Option (List ℕ)) → versions_alike bound own v v ≡ true
itself bound own None = refl
itself None own (Some v) = and-true (stand_alike own v v) true (is-alike own v v refl) refl
itself (Some bound) own (Some v) = and-true (stand_alike own v v) (stand_alike bound.version v v) (is-alike own v v refl) (is-alike bound.version v v refl)

pub alike-itself : (architecture : Option (List ℕ)) (bound : Option Bound) (own : List ℕ) (provides : List Provide) (i : ℕ)
    → are_alike architecture bound own provides i i ≡ true
alike-itself architecture bound own provides i =
    let a = rank_at architecture provides i in
    and-true (a == a) (versions_alike bound own (version_at provides i) (version_at provides i)) (eq-eqb a a refl) (itself bound own (version_at provides i))

-- ---- an atom matches all of them or none

-- the rank of an entry
abbrev rank : Option (List ℕ) → Provide → ℕ
rank architecture entry = if (if is_usable architecture entry.qualifier then false else true) then 1 else 0

abbrev rank_by : Bool → ℕ
rank_by usable = if (if usable then false else true) then 1 else 0

usable-from : (e f : Bool) → rank_by e ≡ rank_by f → e ≡ true → f ≡ true
usable-from e true same is = refl
usable-from true false same is = absurd (omega (arith, same))
usable-from false false same is = is

module _ (architecture : Option (List ℕ)) (atom : Atom) (own example : List ℕ) where
  satisfies-alike : (bound : Bound) (a b : List ℕ) → version_cmp a bound.version ≡ version_cmp b bound.version → Satisfies a bound → Satisfies b bound
  satisfies-alike bound a b same holds = subst (λ (o : Ordering). AllowsOrder bound.op o) same holds

  abbrev Moves : Bool → List ℕ → Option (List ℕ)
  Moves moves v = if moves then Some example else Some v

  moved-alike : (bound : Bound) (a b : List ℕ) (moves : Bool) → version_cmp a bound.version ≡ version_cmp b bound.version
      → IsSomeAnd (Moves moves a) (λ v. Satisfies v bound) → IsSomeAnd (Moves moves b) (λ v. Satisfies v bound)
  moved-alike bound a b true same holds = holds
  moved-alike bound a b false same holds = satisfies-alike bound a b same holds

  meets-alike : (bound : Option Bound) (a b : Option (List ℕ)) → versions_alike bound own a b ≡ true
      → IfSome bound (λ x. IsSomeAnd (moved_version own example a) (λ v. Satisfies v x))
      → IfSome bound (λ x. IsSomeAnd (moved_version own example b) (λ v. Satisfies v x))
  meets-alike None a b alike meets = tt
  meets-alike (Some bound) None b alike meets = absurd meets
  meets-alike (Some bound) (Some a) None alike meets = absurd (false≢true alike)
  meets-alike (Some bound) (Some a) (Some b) alike meets =
      let parts = both-are (stand_alike own a b) (stand_alike bound.version a b) alike in
      let moves = is_eq (version_cmp a own) in
      let here : IsSomeAnd (Moves moves b) (λ v. Satisfies v bound) = moved-alike bound a b moves (alike-is bound.version a b parts.1) meets in
      subst (λ (m : Bool). IsSomeAnd (Moves m b) (λ v. Satisfies v bound)) (ap is_eq (alike-is own a b parts.0)) here

  pub matches-alike : (e f : Provide) → rank architecture e ≡ rank architecture f → versions_alike atom.bound own e.version f.version ≡ true
      → f.name ≡ atom.name
      → MatchesByEntry architecture atom (moved_entry own example e) → MatchesByEntry architecture atom (moved_entry own example f)
  matches-alike e f ranks alike named matches = record {
    usable = is-usable architecture f.qualifier
        (usable-from (is_usable architecture e.qualifier) (is_usable architecture f.qualifier) ranks (usable-is architecture e.qualifier matches.usable));
    name = named;
    bound = meets-alike atom.bound e.version f.version alike matches.bound;
  }

-- ---- in a space

-- the rank of an entry, if there is one
abbrev rank_in : Option (List ℕ) → Option Provide → ℕ
rank_in architecture entry = if is_useless architecture entry then 1 else 0

-- alike is alike the other way round
versions-back : (bound : Option Bound) (own : List ℕ) (a b : Option (List ℕ)) → versions_alike bound own a b ≡ true → versions_alike bound own b a ≡ true
versions-back bound own None None alike = refl
versions-back bound own None (Some b) alike = absurd (false≢true alike)
versions-back bound own (Some a) None alike = absurd (false≢true alike)
versions-back bound own (Some a) (Some b) alike =
    let parts = both-are (stand_alike own a b) (are_alike_to bound a b) alike in
    and-true (stand_alike own b a) (are_alike_to bound b a) (is-alike own b a (sym (alike-is own a b parts.0))) (to-bound bound parts.1)
  where
    to-bound : (bound : Option Bound) → are_alike_to bound a b ≡ true → are_alike_to bound b a ≡ true
    to-bound None is = refl
    to-bound (Some bound) is = is-alike bound.version b a (sym (alike-is bound.version a b is))

module _ (s : SpaceView) (atom : Atom) (member class : ℕ) (p : Package) (at : slice_get s.repository.packages member ≡ Some p) where
  abbrev Entry : Provide → Type 0
  Entry entry = MatchesByEntry s.repository.architecture atom (moved_entry p.version (example_at (member_classes s member) class) entry)

  abbrev KeptOf : ℕ → Package → Type 0
  KeptOf j q = IsSomeAnd (slice_get q.provides j)
      (λ entry. MatchesByEntry s.repository.architecture atom (moved_entry q.version (example_at (member_classes s member) class) entry))

  one-way : (i j : ℕ) (e f : Provide) → slice_get p.provides i ≡ Some e → slice_get p.provides j ≡ Some f → f.name ≡ atom.name
      → rank s.repository.architecture e ≡ rank s.repository.architecture f
      → versions_alike atom.bound p.version e.version f.version ≡ true → IsMatchedBy s atom (Kept member class i) → IsMatchedBy s atom (Kept member class j)
  one-way i j e f first second named ranks alike matched =
      at-has (KeptOf j) s.repository.packages member p at (at-has Entry p.provides j f second
      (matches-alike s.repository.architecture atom p.version (example_at (member_classes s member) class) e f ranks alike named
      (has-at Entry p.provides i e first (has-at (KeptOf i) s.repository.packages member p at matched))))

  abbrev Named : Provide → Type 0
  Named entry = entry.name ≡ atom.name

  pub matched-alike : (i j : ℕ) → IsEntryNamed s.repository.packages member atom.name i → IsEntryNamed s.repository.packages member atom.name j
      → are_alike s.repository.architecture atom.bound p.version p.provides i j ≡ true → AreMatchedAlike s atom member class i j
  matched-alike i j first second alike =
      let Has : ℕ → Package → Type 0 = λ k q. IsSomeAnd (slice_get q.provides k) Named in
      let e = here-at Named p.provides i (has-at (Has i) s.repository.packages member p at first) in
      let f = here-at Named p.provides j (has-at (Has j) s.repository.packages member p at second) in
      let a = s.repository.architecture in
      let parts = both-are (rank_at a p.provides i == rank_at a p.provides j)
      (versions_alike atom.bound p.version (version_at p.provides i) (version_at p.provides j)) alike in
      let ranks : rank a e.element ≡ rank a f.element = ap (rank_in a) (sym e.is) ∙ eqb-true (rank_at a p.provides i) (rank_at a p.provides j) parts.0
      ∙ ap (rank_in a) f.is in
      let versions : versions_alike atom.bound p.version e.element.version f.element.version ≡ true =
      ap (λ (v : Option (List ℕ)). versions_alike atom.bound p.version v f.element.version) (ap entry_version (sym e.is))
      ∙ ap (λ (v : Option (List ℕ)). versions_alike atom.bound p.version (version_at p.provides i) v) (ap entry_version (sym f.is)) ∙ parts.1 in (
        one-way i j e.element f.element e.is f.is f.holds ranks versions,
        one-way j i f.element e.element f.is e.is e.holds (sym ranks) (versions-back atom.bound p.version e.element.version f.element.version versions),
      )

-- ---- of places in order

pub all-alike : (s : SpaceView) (atom : Atom) (member : ℕ) (p : Package) (places : List ℕ) (count : ℕ) → slice_get s.repository.packages member ≡ Some p
    → count ≤ length places → ((j : ℕ) → Contains places j → IsEntryNamed s.repository.packages member atom.name j)
    → ((k : ℕ) → k < count → are_alike s.repository.architecture atom.bound p.version p.provides (get_or places 0 0) (get_or places k 0) ≡ true)
    → (class k : ℕ) → k < count → AreMatchedAlike s atom member class (get_or places 0 0) (get_or places k 0)
all-alike s atom member p places count at within named alike class k less =
    matched-alike s atom member class p at (get_or places 0 0) (get_or places k 0)
    (named (get_or places 0 0) (Contains-get_or places 0 0 (omega (arith, less, within))))
    (named (get_or places k 0) (Contains-get_or places k 0 (omega (arith, less, within)))) (alike k less)
