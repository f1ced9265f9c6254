-- The variables that hold and that an atom matches: by meanings, by members and their classes, and by the providers of a name.
use Rattle.std.proofs.Common.{◌≡◌, ◌≢◌, ◌⊎◌, ◌↔◌, ℕ, ◌<◌, ◌≤◌, Bool, true, false, List, Option, Some, length, get_or, refl, sym, ap, subst, ◌∙◌, inl, inr}
use Rattle.std.proofs.Common.{arith, slice_get}
use Rattle.std.specs.Prelude.{Any, Contains, IsSomeAnd, slice_index}
use Rattle.std.proofs.lemmas.Bool.{false≢true}
use Rattle.std.proofs.lemmas.List.{get_or_default}
use Rattle.dist_base.specs.Least.{IsLeast, IsLeastIfAny}
use Rattle.dist_base.specs.ListLaws.{any-at, any-more, at-has, at-more, contains-at, found-at, has-at, here-at, within-from}
use Rattle.dist_clause.specs.Formula.{value_of}
use Rattle.dist_relation.specs.declared.atom.Atom.{Atom}
use Rattle.dist_relation.specs.declared.atom.Provide.{Provide}
use Rattle.dist_repo.specs.Match.{IsUsable, MatchesByEntry}
use Rattle.dist_repo.specs.Offers.{AreMatched}
use Rattle.dist_repo.specs.PackageList.{IsPackageAnd}
use Rattle.dist_repo.specs.Providers.{AreProviders, IsProvider}
use Rattle.dist_repo.specs.declared.offers.Offer.{Offer}
use Rattle.dist_repo.specs.declared.package.Package.{Package}
use Rattle.dist_future.specs.FutureHealth.{Holds}
use Rattle.dist_space_clauses.specs.GatheringPrivate.{IsFresh, IsLaterOf, IsOfVersion}
use Rattle.dist_future.specs.MatchingPrivate.{IsFound, IsLesserOf, IsMovedBut, IsOther, IsPresentBut}
use Rattle.dist_space.specs.EntryOrder.{IsEntryNamed}
use Rattle.dist_space.specs.Space.{IsMatchedBy, IsMeaning, IsSpace, MeetsBound, SpaceView, example_at, fresh_classes, member_classes, moved_entry, variable_of}
use Rattle.dist_future.specs.SpaceLaws.{holds_under}
use Rattle.dist_space.specs.declared.meaning.Meaning.{Meaning}
use Rattle.dist_space.specs.declared.meaning.Meaning.TheVariants.{Now, Present, At, New, Kept, Fresh}
use Rattle.dist_future.proofs.Leasts.{Before, least-shift, least-two}
use Rattle.dist_future.proofs.VariableOrder.{key-less}

-- what a test of a variable tells
pub holds-from : (s : SpaceView) (values : List Bool) (m : Meaning) (v : ℕ) (b : Bool) → IsMeaning s m → v ≡ variable_of s m → b ≡ value_of values v → b ≡ true
    → Holds s values m
holds-from s values m v b is variable told holds = record { is_meaning = is; is_true = ap (value_of values) (sym variable) ∙ sym told ∙ holds }

pub fails-from : (s : SpaceView) (values : List Bool) (m : Meaning) (v : ℕ) (b : Bool) → v ≡ variable_of s m → b ≡ value_of values v → b ≡ false
    → holds_under s values m ≡ false
fails-from s values m v b variable told fails = ap (value_of values) (sym variable) ∙ sym told ∙ fails

module _ (s : SpaceView) (values : List Bool) (atom : Atom) where
  abbrev pub Found : (Meaning → Type 0) → ℕ → Type 0
  Found P v = IsFound s values atom P v

  -- the same under another word
  pub found-more : (P Q : Meaning → Type 0) (v : ℕ) → ((m : Meaning) → Holds s values m → IsMatchedBy s atom m → P m → Q m) → Found P v → Found Q v
  found-more P Q v to f = record {
    meaning = f.meaning;
    variable_is = f.variable_is;
    holds = f.holds;
    matched = f.matched;
    kind = to f.meaning f.holds f.matched f.kind;
  }

  -- ---- one meaning

  pub one-found : (m : Meaning) (v : ℕ) → v ≡ variable_of s m → Holds s values m → IsMatchedBy s atom m → IsLeast (Found (λ n. n ≡ m)) v
  one-found m v is holds matched = record {
    holds = record { meaning = m; variable_is = sym is; holds = holds; matched = matched; kind = refl };
    least = λ w f. let same : v ≡ w = is ∙ sym (ap (variable_of s) f.kind) ∙ f.variable_is in omega (arith, same);
  }

  pub none-holds : (m : Meaning) (v : ℕ) → holds_under s values m ≡ false → ¬ Found (λ n. n ≡ m) v
  none-holds m v not f = false≢true (sym not ∙ sym (ap (holds_under s values) f.kind) ∙ f.holds.is_true)

  pub none-matched : (m : Meaning) (v : ℕ) → ¬ IsMatchedBy s atom m → ¬ Found (λ n. n ≡ m) v
  none-matched m v not f = not (subst (IsMatchedBy s atom) f.kind f.matched)

  -- ---- a new version

  abbrev pub KeptFound : (r k j v : ℕ) → Type 0
  KeptFound r k j v = Found (λ m. m ≡ Kept r k j) v

  -- an entry that there is none of, or of another name, or that is not usable
  pub no-entry : (r k j v : ℕ) (p : Package) → slice_get s.repository.packages r ≡ Some p → length p.provides ≤ j → ¬ KeptFound r k j v
  no-entry r k j v p is past f =
      let is_meaning = subst (IsMeaning s) f.kind f.holds.is_meaning in
      let there = has-at (λ (q : Package). IsSomeAnd (slice_get q.provides j) (λ entry. IsUsable s.repository.architecture entry.qualifier))
      s.repository.packages r p is is_meaning.0 in
      let short = within-from (λ (entry : Provide). IsUsable s.repository.architecture entry.qualifier) p.provides j there in
      omega (arith, past, short)

  kept-matched : (r k j : ℕ) (p : Package) (entry : Provide) → slice_get s.repository.packages r ≡ Some p → slice_get p.provides j ≡ Some entry
      → IsMatchedBy s atom (Kept r k j)
      → MatchesByEntry s.repository.architecture atom (moved_entry p.version (example_at (member_classes s r) k) entry)
  kept-matched r k j p entry is at matched =
      has-at (λ (e : Provide). MatchesByEntry s.repository.architecture atom (moved_entry p.version (example_at (member_classes s r) k) e)) p.provides j entry
      at
      (has-at (λ (q : Package). IsSomeAnd (slice_get q.provides j)
      (λ e. MatchesByEntry s.repository.architecture atom (moved_entry q.version (example_at (member_classes s r) k) e))) s.repository.packages r p is
      matched)

  pub other-entry : (r k j v : ℕ) (p : Package) (entry : Provide) → slice_get s.repository.packages r ≡ Some p → slice_get p.provides j ≡ Some entry
      → ¬ (entry.name ≡ atom.name) → ¬ KeptFound r k j v
  other-entry r k j v p entry is at other f = other (kept-matched r k j p entry is at (subst (IsMatchedBy s atom) f.kind f.matched)).name

  pub unusable-entry : (r k j v : ℕ) (p : Package) (entry : Provide) → slice_get s.repository.packages r ≡ Some p → slice_get p.provides j ≡ Some entry
      → ¬ IsUsable s.repository.architecture entry.qualifier → ¬ KeptFound r k j v
  unusable-entry r k j v p entry is at not f = not (kept-matched r k j p entry is at (subst (IsMatchedBy s atom) f.kind f.matched)).usable

  pub kept-meaning : (r k j : ℕ) (p : Package) (entry : Provide) → slice_get s.repository.packages r ≡ Some p → slice_get p.provides j ≡ Some entry
      → IsUsable s.repository.architecture entry.qualifier → IsMeaning s (New r k)
      → IsMeaning s (Kept r k j)
  kept-meaning r k j p entry is at usable is_meaning = (
    at-has (λ (q : Package). IsSomeAnd (slice_get q.provides j) (λ e. IsUsable s.repository.architecture e.qualifier)) s.repository.packages r p is
        (at-has (λ (e : Provide). IsUsable s.repository.architecture e.qualifier) p.provides j entry at usable),
    is_meaning.1,
  )

  -- of one of the entries at these places
  abbrev pub KeptAmong : (r k : ℕ) → List ℕ → (i v : ℕ) → Type 0
  KeptAmong r k places i v = KeptFound r k (slice_index places i) v

  kept-named : (r k j : ℕ) → IsMatchedBy s atom (Kept r k j) → IsEntryNamed s.repository.packages r atom.name j
  kept-named r k j matched =
      at-more (λ (p : Package). IsSomeAnd (slice_get p.provides j)
      (λ e. MatchesByEntry s.repository.architecture atom (moved_entry p.version (example_at (member_classes s r) k) e)))
      (λ (p : Package). IsSomeAnd (slice_get p.provides j) (λ e. e.name ≡ atom.name))
      (λ p here. at-more (λ (e : Provide). MatchesByEntry s.repository.architecture atom (moved_entry p.version (example_at (member_classes s r) k) e))
      (λ (e : Provide). e.name ≡ atom.name) (λ e matches. matches.name) p.provides j here)
      s.repository.packages r matched

  module _ (r k : ℕ) (places : List ℕ) (all : (j : ℕ) → Contains places j ↔ IsEntryNamed s.repository.packages r atom.name j) where
    version-split : (count v : ℕ) → length places ≤ count → (m : Meaning) → variable_of s m ≡ v → Holds s values m → IsMatchedBy s atom m → IsOfVersion r k m
        → Found (λ n. n ≡ New r k) v ⊎ Before (KeptAmong r k places) count v
    version-split count v past Now var holds matched of = absurd of
    version-split count v past (Present q) var holds matched of = absurd of
    version-split count v past (At c l) var holds matched of = absurd of
    version-split count v past (Fresh x l) var holds matched of = absurd of
    version-split count v past (New q l) var holds matched of =
        inl (record { meaning = New q l; variable_is = var; holds = holds; matched = matched; kind = let a = of.0 in let b = of.1 in cc })
    version-split count v past (Kept q l j) var holds matched of =
        let there = (all j).1 (subst (λ (i : ℕ). IsEntryNamed s.repository.packages i atom.name j) of.0 (kept-named q l j matched)) in
        let same : slice_index places there.0 ≡ j = get_or_default places there.0 0 j there.1 ∙ there.2 in
        inr (
          there.0,
          (let short = there.1 in omega (arith, past, short)),
          record {
            meaning = Kept q l j;
            variable_is = var;
            holds = holds;
            matched = matched;
            kind = ap (λ (i : ℕ). Kept i l j) of.0 ∙ ap (λ (i : ℕ). Kept r i j) of.1 ∙ ap (λ (i : ℕ). Kept r k i) (sym same);
          },
        )

    version-join : (count v : ℕ) → Found (λ n. n ≡ New r k) v ⊎ Before (KeptAmong r k places) count v → Found (IsOfVersion r k) v
    version-join count v (inl f) = found-more (λ n. n ≡ New r k) (IsOfVersion r k) v (λ m holds matched is. subst (IsOfVersion r k) (sym is) (refl, refl)) f
    version-join count v (inr (i, short, f)) = found-more (λ n. n ≡ Kept r k (slice_index places i)) (IsOfVersion r k) v
        (λ m holds matched is. subst (IsOfVersion r k) (sym is) (refl, refl)) f

    pub version-all : (count : ℕ) (a b o : Option ℕ) → length places ≤ count → IsLesserOf a b o → IsLeastIfAny (Found (λ n. n ≡ New r k)) a
        → IsLeastIfAny (Before (KeptAmong r k places) count) b → IsLeastIfAny (Found (IsOfVersion r k)) o
    version-all count a b o past lesser first second =
        least-shift (λ v. Found (λ n. n ≡ New r k) v ⊎ Before (KeptAmong r k places) count v) (Found (IsOfVersion r k)) o (version-join count)
        (λ v f. version-split count v past f.meaning f.variable_is f.holds f.matched f.kind)
        (least-two (Found (λ n. n ≡ New r k)) (Before (KeptAmong r k places) count) a b o lesser first second)

  -- ---- all new versions of a member

  abbrev pub VersionFound : (r k v : ℕ) → Type 0
  VersionFound r k v = Found (IsOfVersion r k) v

  member-split : (r count v : ℕ) → length (member_classes s r) ≤ count → (m : Meaning) → variable_of s m ≡ v → Holds s values m → IsMatchedBy s atom m
      → IsLaterOf r m → Before (VersionFound r) count v
  member-split r count v past Now var holds matched of = absurd of
  member-split r count v past (Present q) var holds matched of = absurd of
  member-split r count v past (At c l) var holds matched of = absurd of
  member-split r count v past (Fresh x l) var holds matched of = absurd of
  member-split r count v past (New q l) var holds matched of =
      let short : l < length (member_classes s r) = subst (λ (x : ℕ). l < length (member_classes s x)) of holds.is_meaning.1 in
      (l, omega (arith, past, short), record { meaning = New q l; variable_is = var; holds = holds; matched = matched; kind = (of, refl) })
  member-split r count v past (Kept q l j) var holds matched of =
      let short : l < length (member_classes s r) = subst (λ (x : ℕ). l < length (member_classes s x)) of holds.is_meaning.1 in
      (l, omega (arith, past, short), record { meaning = Kept q l j; variable_is = var; holds = holds; matched = matched; kind = (of, refl) })

  version-of : (r k : ℕ) (m : Meaning) → IsOfVersion r k m → IsLaterOf r m
  version-of r k Now of = of
  version-of r k (Present q) of = of
  version-of r k (At c l) of = of
  version-of r k (Fresh x l) of = of
  version-of r k (New q l) of = of.0
  version-of r k (Kept q l j) of = of.0

  pub member-all : (r count : ℕ) (o : Option ℕ) → length (member_classes s r) ≤ count → IsLeastIfAny (Before (VersionFound r) count) o
      → IsLeastIfAny (Found (IsLaterOf r)) o
  member-all r count o past least =
      least-shift (Before (VersionFound r) count) (Found (IsLaterOf r)) o
      (λ v f. found-more (IsOfVersion r f.0) (IsLaterOf r) v (λ m holds matched of. version-of r f.0 m of) f.2)
      (λ v f. member-split r count v past f.meaning f.variable_is f.holds f.matched f.kind) least

  -- ---- packages of a new name

  abbrev pub FreshFound : (x k v : ℕ) → Type 0
  FreshFound x k v = Found (λ m. m ≡ Fresh x k) v

  fresh-split : (x count v : ℕ) → slice_get s.names x ≡ Some atom.name → ((y : ℕ) → slice_get s.names y ≡ Some atom.name → y ≡ x)
      → length (fresh_classes s x) ≤ count → (m : Meaning) → variable_of s m ≡ v → Holds s values m
      → IsMatchedBy s atom m → IsFresh m → Before (FreshFound x) count v
  fresh-split x count v is one past Now var holds matched of = absurd of
  fresh-split x count v is one past (Present q) var holds matched of = absurd of
  fresh-split x count v is one past (At c l) var holds matched of = absurd of
  fresh-split x count v is one past (New q l) var holds matched of = absurd of
  fresh-split x count v is one past (Kept q l j) var holds matched of = absurd of
  fresh-split x count v is one past (Fresh y l) var holds matched of =
      let at = here-at (λ (name : List ℕ). (name ≡ atom.name) × MeetsBound atom (example_at (fresh_classes s y) l)) s.names y matched in
      let same : y ≡ x = one y (at.is ∙ ap (λ (n : List ℕ). Some n) at.holds.0) in
      let short : l < length (fresh_classes s x) = subst (λ (z : ℕ). l < length (fresh_classes s z)) same holds.is_meaning in (
        l,
        omega (arith, past, short),
        record {
          meaning = Fresh y l;
          variable_is = var;
          holds = holds;
          matched = matched;
          kind = ap (λ (z : ℕ). Fresh z l) same;
        },
      )

  pub fresh-all : (x count : ℕ) (o : Option ℕ) → slice_get s.names x ≡ Some atom.name → ((y : ℕ) → slice_get s.names y ≡ Some atom.name → y ≡ x)
      → length (fresh_classes s x) ≤ count → IsLeastIfAny (Before (FreshFound x) count) o
      → IsLeastIfAny (Found IsFresh) o
  fresh-all x count o is one past least =
      least-shift (Before (FreshFound x) count) (Found IsFresh) o
      (λ v f. found-more (λ m. m ≡ Fresh x f.0) IsFresh v (λ m holds matched same. subst IsFresh (sym same) tt) f.2)
      (λ v f. fresh-split x count v is one past f.meaning f.variable_is f.holds f.matched f.kind) least

  pub fresh-none : ¬ Contains s.names atom.name → (v : ℕ) → ¬ Found IsFresh v
  fresh-none none v f = by f.meaning f.matched f.kind
    where
      by : (m : Meaning) → IsMatchedBy s atom m → IsFresh m → ⊥
      by Now matched of = of
      by (Present q) matched of = of
      by (At c l) matched of = of
      by (New q l) matched of = of
      by (Kept q l j) matched of = of
      by (Fresh y l) matched of =
          let at = here-at (λ (name : List ℕ). (name ≡ atom.name) × MeetsBound atom (example_at (fresh_classes s y) l)) s.names y matched in
          none (let is : slice_get s.names y ≡ Some atom.name = at.is ∙ ap (λ (n : List ℕ). Some n) at.holds.0 in named y is)
        where
          named : (y : ℕ) → slice_get s.names y ≡ Some atom.name → Contains s.names atom.name
          named y is = contains-at s.names y atom.name is

  -- ---- the providers of a name

  -- what a package of the list brings about, of some kind
  abbrev pub OneOf : (K : ℕ → Meaning → Type 0) (C : Meaning → Type 0) (providers : List ℕ) (i v : ℕ) → Type 0
  OneOf K C providers i v = Found (λ m. K (get_or providers i 0) m × C m) v

  pub providers-all : (K : ℕ → Meaning → Type 0) (C : Meaning → Type 0) (providers : List ℕ) (count : ℕ) (o : Option ℕ)
      → AreProviders s.repository atom.name providers → length providers ≤ count
      → ((m : Meaning) → IsMatchedBy s atom m → C m → (n : ℕ) × IsPackageAnd s.repository.packages n (IsProvider s.repository.architecture atom.name) × K n m)
      → IsLeastIfAny (Before (OneOf K C providers) count) o → IsLeastIfAny (Found C) o
  providers-all K C providers count o are past provided least =
      least-shift (Before (OneOf K C providers) count) (Found C) o
      (λ v f. found-more (λ m. K (get_or providers f.0 0) m × C m) C v (λ m holds matched both. both.1) f.2)
      (λ v f.
      let by = provided f.meaning f.matched f.kind in
      let there : Contains providers by.0 = (are.exact by.0).1 by.1 in
      let at : get_or providers there.0 0 ≡ by.0 = get_or_default providers there.0 0 by.0 there.1 ∙ there.2 in
      let Of : ℕ → Type 0 = λ n. K n f.meaning in (
        there.0,
        omega (arith, past, there.1),
        record {
          meaning = f.meaning;
          variable_is = f.variable_is;
          holds = f.holds;
          matched = f.matched;
          kind = (subst Of (sym at) by.2, f.kind);
        },
      ))
      least

  abbrev IsBy : ℕ → Type 0
  IsBy n = IsPackageAnd s.repository.packages n (IsProvider s.repository.architecture atom.name)

  new-by : (r k : ℕ) → IsMatchedBy s atom (New r k) → IsBy r
  new-by r k matched =
      at-more (λ (p : Package). (p.name ≡ atom.name) × MeetsBound atom (example_at (member_classes s r) k)) (IsProvider s.repository.architecture atom.name)
      (λ p h. inl h.0) s.repository.packages r matched

  kept-by : (r k j : ℕ) → IsMatchedBy s atom (Kept r k j) → IsBy r
  kept-by r k j matched =
      at-more (λ (p : Package). IsSomeAnd (slice_get p.provides j)
      (λ e. MatchesByEntry s.repository.architecture atom (moved_entry p.version (example_at (member_classes s r) k) e)))
      (IsProvider s.repository.architecture atom.name)
      (λ p h.
      let at = here-at (λ (e : Provide). MatchesByEntry s.repository.architecture atom (moved_entry p.version (example_at (member_classes s r) k) e)) p.provides
      j h in
      inr (any-at (λ (e : Provide). IsUsable s.repository.architecture e.qualifier × (e.name ≡ atom.name)) p.provides j at.element at.is
      (at.holds.usable, at.holds.name)))
      s.repository.packages r matched

  pub moved-provided : (but : Option ℕ) (m : Meaning) → IsMatchedBy s atom m → IsMovedBut but m → (n : ℕ)
      × IsPackageAnd s.repository.packages n (IsProvider s.repository.architecture atom.name) × IsLaterOf n m
  moved-provided but Now matched of = absurd of
  moved-provided but (Present q) matched of = absurd of
  moved-provided but (At c l) matched of = absurd of
  moved-provided but (New q l) matched of = (q, new-by q l matched, refl)
  moved-provided but (Kept q l j) matched of = (q, kept-by q l j matched, refl)
  moved-provided but (Fresh x l) matched of = absurd of

  -- one that isn't left out
  moved-other : (but : Option ℕ) (n : ℕ) (m : Meaning) → IsLaterOf n m → IsMovedBut but m → but ≢ Some n
  moved-other but n Now of kind is = of
  moved-other but n (Present q) of kind is = of
  moved-other but n (At c l) of kind is = of
  moved-other but n (Fresh x l) of kind is = of
  moved-other but n (New q l) of kind is = kind (is ∙ ap (λ (k : ℕ). Some k) (sym of))
  moved-other but n (Kept q l j) of kind is = kind (is ∙ ap (λ (k : ℕ). Some k) (sym of))

  moved-but : (but : Option ℕ) (n : ℕ) (m : Meaning) → but ≢ Some n → IsLaterOf n m → IsMovedBut but m
  moved-but but n Now other of = of
  moved-but but n (Present q) other of = of
  moved-but but n (At c l) other of = of
  moved-but but n (Fresh x l) other of = of
  moved-but but n (New q l) other of = λ is. other (is ∙ ap (λ (k : ℕ). Some k) of)
  moved-but but n (Kept q l j) other of = λ is. other (is ∙ ap (λ (k : ℕ). Some k) of)

  pub none-moved : (but : Option ℕ) (providers : List ℕ) (i v : ℕ) → but ≡ Some (get_or providers i 0) → ¬ OneOf IsLaterOf (IsMovedBut but) providers i v
  none-moved but providers i v is f = moved-other but (get_or providers i 0) f.meaning f.kind.0 f.kind.1 is

  pub moved-one : (but : Option ℕ) (providers : List ℕ) (i : ℕ) (o : Option ℕ) → but ≢ Some (get_or providers i 0)
      → IsLeastIfAny (Found (IsLaterOf (get_or providers i 0))) o
      → IsLeastIfAny (OneOf IsLaterOf (IsMovedBut but) providers i) o
  moved-one but providers i o other least =
      let n = get_or providers i 0 in
      least-shift (Found (IsLaterOf n)) (OneOf IsLaterOf (IsMovedBut but) providers i) o
      (λ v f. found-more (IsLaterOf n) (λ m. IsLaterOf n m × IsMovedBut but m) v (λ m holds matched of. (of, moved-but but n m other of)) f)
      (λ v f. found-more (λ m. IsLaterOf n m × IsMovedBut but m) (IsLaterOf n) v (λ m holds matched both. both.0) f) least

  -- ---- the offers that the atom matches

  -- the package of the offer at a place, as it is today
  abbrev pub IsPresentAt : List Offer → ℕ → Meaning → Type 0
  IsPresentAt offers i m = IsSomeAnd (slice_get offers i) (λ offer. m ≡ Present offer.number)

  abbrev pub OfferedAt : (but : Option ℕ) (offers : List Offer) (i v : ℕ) → Type 0
  OfferedAt but offers i v = Found (λ m. IsPresentAt offers i m × IsPresentBut but m) v

  offered-by : (but : Option ℕ) (offers : List Offer) → AreMatched s.repository atom offers → (m : Meaning) → IsMatchedBy s atom m → IsPresentBut but m
      → Any (λ (offer : Offer). m ≡ Present offer.number) offers
  offered-by but offers are Now matched of = absurd of
  offered-by but offers are (Present q) matched of =
      any-more (λ (offer : Offer). offer.number ≡ q) (λ (offer : Offer). Present q ≡ Present offer.number) (λ offer is. ap (λ (n : ℕ). Present n) (sym is))
      offers ((are q).1 matched)
  offered-by but offers are (At c l) matched of = absurd of
  offered-by but offers are (New q l) matched of = absurd of
  offered-by but offers are (Kept q l j) matched of = absurd of
  offered-by but offers are (Fresh x l) matched of = absurd of

  pub offered-all : (but : Option ℕ) (offers : List Offer) (count : ℕ) (o : Option ℕ) → AreMatched s.repository atom offers → length offers ≤ count
      → IsLeastIfAny (Before (OfferedAt but offers) count) o → IsLeastIfAny (Found (IsPresentBut but)) o
  offered-all but offers count o are past least =
      least-shift (Before (OfferedAt but offers) count) (Found (IsPresentBut but)) o
      (λ v f. found-more (λ m. IsPresentAt offers f.0 m × IsPresentBut but m) (IsPresentBut but) v (λ m holds matched both. both.1) f.2)
      (λ v f.
      let Of : Offer → Type 0 = λ offer. f.meaning ≡ Present offer.number in
      let at = found-at Of offers (offered-by but offers are f.meaning f.matched f.kind) in
      let there = at-has Of offers at.place at.element at.is at.holds in (
        at.place,
        omega (arith, past, within-from Of offers at.place there),
        record { meaning = f.meaning; variable_is = f.variable_is; holds = f.holds; matched = f.matched; kind = (there, f.kind) },
      ))
      least

  -- one that is left out, and one that isn't
  pub none-left : (but : Option ℕ) (offers : List Offer) (i v : ℕ) (offer : Offer) → slice_get offers i ≡ Some offer → but ≡ Some offer.number
      → ¬ OfferedAt but offers i v
  none-left but offers i v offer at is f =
      let present = has-at (λ (x : Offer). f.meaning ≡ Present x.number) offers i offer at f.kind.0 in
      subst (IsPresentBut but) present f.kind.1 is

  pub present-one : (but : Option ℕ) (offers : List Offer) (i : ℕ) (o : Option ℕ) (offer : Offer) → slice_get offers i ≡ Some offer
      → but ≢ Some offer.number → IsLeastIfAny (Found (λ m. m ≡ Present offer.number)) o → IsLeastIfAny (OfferedAt but offers i) o
  present-one but offers i o offer at other least =
      let n : ℕ = offer.number in
      least-shift (Found (λ m. m ≡ Present n)) (OfferedAt but offers i) o
      (λ v f. found-more (λ m. m ≡ Present n) (λ m. IsPresentAt offers i m × IsPresentBut but m) v
      (λ m holds matched is. (at-has (λ (x : Offer). m ≡ Present x.number) offers i offer at is, subst (IsPresentBut but) (sym is) other)) f)
      (λ v f. found-more (λ m. IsPresentAt offers i m × IsPresentBut but m) (λ m. m ≡ Present n) v
      (λ m holds matched both. has-at (λ (x : Offer). m ≡ Present x.number) offers i offer at both.0) f) least

  -- ---- all together

  other-split : (but : Option ℕ) (m : Meaning) → IsMatchedBy s atom m → IsOther but m → IsPresentBut but m ⊎ (IsMovedBut but m ⊎ IsFresh m)
  other-split but Now matched other = absurd matched
  other-split but (Present q) matched other = inl other
  other-split but (At c l) matched other = absurd matched
  other-split but (New q l) matched other = inr (inl other)
  other-split but (Kept q l j) matched other = inr (inl other)
  other-split but (Fresh x l) matched other = inr (inr tt)

  present-other : (but : Option ℕ) (m : Meaning) → IsPresentBut but m → IsOther but m
  present-other but Now of = tt
  present-other but (Present q) of = of
  present-other but (At c l) of = tt
  present-other but (New q l) of = absurd of
  present-other but (Kept q l j) of = absurd of
  present-other but (Fresh x l) of = tt

  moved-is-other : (but : Option ℕ) (m : Meaning) → IsMovedBut but m → IsOther but m
  moved-is-other but Now of = tt
  moved-is-other but (Present q) of = absurd of
  moved-is-other but (At c l) of = tt
  moved-is-other but (New q l) of = of
  moved-is-other but (Kept q l j) of = of
  moved-is-other but (Fresh x l) of = tt

  fresh-other : (but : Option ℕ) (m : Meaning) → IsFresh m → IsOther but m
  fresh-other but Now of = tt
  fresh-other but (Present q) of = absurd of
  fresh-other but (At c l) of = tt
  fresh-other but (New q l) of = absurd of
  fresh-other but (Kept q l j) of = absurd of
  fresh-other but (Fresh x l) of = tt

  present-before : (but : Option ℕ) (m n : Meaning) → IsSpace s → IsMeaning s m → IsMeaning s n → IsPresentBut but m → IsMovedBut but n ⊎ IsFresh n
      → variable_of s m < variable_of s n
  present-before but Now n space is_m is_n of later = absurd of
  present-before but (At c k) n space is_m is_n of later = absurd of
  present-before but (New q k) n space is_m is_n of later = absurd of
  present-before but (Kept q k j) n space is_m is_n of later = absurd of
  present-before but (Fresh x k) n space is_m is_n of later = absurd of
  present-before but (Present q) Now space is_m is_n of later = elim later [ inl h ↦ absurd h | inr h ↦ absurd h ]
  present-before but (Present q) (Present r) space is_m is_n of later = elim later [ inl h ↦ absurd h | inr h ↦ absurd h ]
  present-before but (Present q) (At c l) space is_m is_n of later = elim later [ inl h ↦ absurd h | inr h ↦ absurd h ]
  present-before but (Present q) (New r l) space is_m is_n of later = key-less s (Present q) (New r l) space is_m is_n (inl (omega arith))
  present-before but (Present q) (Kept r l j) space is_m is_n of later = key-less s (Present q) (Kept r l j) space is_m is_n (inl (omega arith))
  present-before but (Present q) (Fresh x l) space is_m is_n of later = key-less s (Present q) (Fresh x l) space is_m is_n (inl (omega arith))

  abbrev pub IsAny : Option ℕ → ℕ → Type 0
  IsAny but v = IsUsable s.repository.architecture atom.qualifier × Found (IsOther but) v

  pub any-present : (but : Option ℕ) (v : ℕ) → IsSpace s → IsUsable s.repository.architecture atom.qualifier → IsLeast (Found (IsPresentBut but)) v
      → IsLeast (IsAny but) v
  any-present but v space usable least = record {
    holds = (usable, found-more (IsPresentBut but) (IsOther but) v (λ m holds matched of. present-other but m of) least.holds);
    least = λ w any.
        let f = any.1 in
        elim (other-split but f.meaning f.matched f.kind) [
          | inl present ↦ least.least w (record { meaning = f.meaning; variable_is = f.variable_is; holds = f.holds; matched = f.matched; kind = present })
          | inr later ↦
              let first = least.holds in
              let less = present-before but first.meaning f.meaning space first.holds.is_meaning f.holds.is_meaning first.kind later in
              let a = first.variable_is in let b = f.variable_is in omega (arith, less, a, b)
        ];
  }

  pub any-later : (but : Option ℕ) (a b o : Option ℕ) → IsUsable s.repository.architecture atom.qualifier → ((v : ℕ) → ¬ Found (IsPresentBut but) v)
      → IsLesserOf a b o → IsLeastIfAny (Found (IsMovedBut but)) a
      → IsLeastIfAny (Found IsFresh) b → IsLeastIfAny (IsAny but) o
  any-later but a b o usable none lesser moved fresh =
      least-shift (λ v. Found (IsMovedBut but) v ⊎ Found IsFresh v) (IsAny but) o
      (λ v h. elim h [
        | inl f ↦ (usable, found-more (IsMovedBut but) (IsOther but) v (λ m holds matched of. moved-is-other but m of) f)
        | inr f ↦ (usable, found-more IsFresh (IsOther but) v (λ m holds matched of. fresh-other but m of) f)
      ])
      (λ v any.
      let f = any.1 in
      elim (other-split but f.meaning f.matched f.kind) [
        | inl present ↦ absurd (none v (record { meaning = f.meaning; variable_is = f.variable_is; holds = f.holds; matched = f.matched; kind = present }))
        | inr later ↦ elim later [
          | inl of ↦ inl (record { meaning = f.meaning; variable_is = f.variable_is; holds = f.holds; matched = f.matched; kind = of })
          | inr of ↦ inr (record { meaning = f.meaning; variable_is = f.variable_is; holds = f.holds; matched = f.matched; kind = of })
        ]
      ])
      (least-two (Found (IsMovedBut but)) (Found IsFresh) a b o lesser moved fresh)
