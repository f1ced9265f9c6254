-- What an atom matches, meaning by meaning.
use Rattle.std.proofs.Common.{◌≡◌, ◌⊎◌, ◌↔◌, ℕ, ◌+◌, ◌<◌, Bool, false, List, [], ◌∷◌, ◌++◌, Some, append-nil, append_assoc, get_or, length, refl, sym, ap}
use Rattle.std.proofs.Common.{subst, ◌∙◌, inl, inr, arith, slice_get}
use Rattle.std.specs.Prelude.{Any, Contains, IsSomeAnd}
use Rattle.std.specs.List.Sorted.{IsSortedBy}
use Rattle.std.specs.Ordering.{is_lt}
use Rattle.std.proofs.lemmas.List.{get_or-append-add, length-append}
use Rattle.std.proofs.lemmas.List.Elements.{Contains-append_cases, Contains-append_right}
use Rattle.std.proofs.lemmas.Option.{same_Some}
use Rattle.dist_base.specs.ListLaws.{any-contained, any-there, at-has, at-more, has-at, here-at}
use Rattle.dist_relation.specs.declared.atom.Atom.{Atom}
use Rattle.dist_relation.specs.declared.atom.Provide.{Provide}
use Rattle.dist_repo.specs.Match.{IsUsable, MatchesByEntry}
use Rattle.dist_repo.specs.declared.package.Package.{Package}
use Rattle.dist_space_clauses.specs.GatheringPrivate.{Gathers, IsFresh, IsKeptAt, IsKeptOf, IsLaterOf, IsNewOf}
use Rattle.dist_space.specs.EntryOrder.{AreInUseOrder, IsEntryNamed, use_cmp}
use Rattle.dist_space.specs.Space.{IsMatchedBy, IsMeaning, MeetsBound, SpaceView, example_at, fresh_classes, member_classes, moved_entry}
use Rattle.dist_space.specs.declared.meaning.Meaning.{Meaning}
use Rattle.dist_space.specs.declared.meaning.Meaning.TheVariants.{Now, Present, At, New, Kept, Fresh}
use Rattle.dist_space_clauses.proofs.Gathered.{gathers-both, gathers-nothing, gathers-weaker}

module _ (s : SpaceView) (atom : Atom) where
  -- ---- one meaning

  abbrev EntryMatches : (r k : ℕ) → Package → Provide → Type 0
  EntryMatches r k p entry = MatchesByEntry s.repository.architecture atom (moved_entry p.version (example_at (member_classes s r) k) entry)

  pub kept-matched : (r k j : ℕ) (p : Package) (entry : Provide) (example : List ℕ) → slice_get s.repository.packages r ≡ Some p
      → slice_get p.provides j ≡ Some entry → example ≡ example_at (member_classes s r) k
      → MatchesByEntry s.repository.architecture atom (moved_entry p.version example entry) → IsMatchedBy s atom (Kept r k j)
  kept-matched r k j p entry example is_p is_entry is matches =
      at-has (λ (q : Package). IsSomeAnd (slice_get q.provides j) (EntryMatches r k q)) s.repository.packages r p is_p
      (at-has (EntryMatches r k p) p.provides j entry is_entry
      (subst (λ (x : List ℕ). MatchesByEntry s.repository.architecture atom (moved_entry p.version x entry)) is matches))

  pub matched-kept : (r k j : ℕ) (p : Package) (entry : Provide) (example : List ℕ) → slice_get s.repository.packages r ≡ Some p
      → slice_get p.provides j ≡ Some entry → example ≡ example_at (member_classes s r) k
      → IsMatchedBy s atom (Kept r k j) → MatchesByEntry s.repository.architecture atom (moved_entry p.version example entry)
  matched-kept r k j p entry example is_p is_entry is matched =
      let inner = has-at (λ (q : Package). IsSomeAnd (slice_get q.provides j) (EntryMatches r k q)) s.repository.packages r p is_p matched in
      subst (λ (x : List ℕ). MatchesByEntry s.repository.architecture atom (moved_entry p.version x entry)) (sym is)
      (has-at (EntryMatches r k p) p.provides j entry is_entry inner)

  -- a kept entry that is matched is usable
  pub matched-meaning : (r k j : ℕ) → k < length (member_classes s r) → IsMatchedBy s atom (Kept r k j) → IsMeaning s (Kept r k j)
  matched-meaning r k j short matched = (
    at-more (λ (p : Package). IsSomeAnd (slice_get p.provides j) (EntryMatches r k p))
        (λ (p : Package). IsSomeAnd (slice_get p.provides j) (λ e. IsUsable s.repository.architecture e.qualifier))
        (λ p here. at-more (EntryMatches r k p) (λ (e : Provide). IsUsable s.repository.architecture e.qualifier) (λ e matches. matches.usable) p.provides j
        here)
        s.repository.packages r matched,
    short,
  )

  abbrev NameMeets : (r k : ℕ) → Package → Type 0
  NameMeets r k p = (p.name ≡ atom.name) × MeetsBound atom (example_at (member_classes s r) k)

  pub new-matched : (r k : ℕ) (p : Package) (example : List ℕ) → slice_get s.repository.packages r ≡ Some p → example ≡ example_at (member_classes s r) k
      → p.name ≡ atom.name → MeetsBound atom example → IsMatchedBy s atom (New r k)
  new-matched r k p example is_p is name meets = at-has (NameMeets r k) s.repository.packages r p is_p (name, subst (MeetsBound atom) is meets)

  abbrev FreshMeets : (x k : ℕ) → List ℕ → Type 0
  FreshMeets x k name = (name ≡ atom.name) × MeetsBound atom (example_at (fresh_classes s x) k)

  pub fresh-matched : (x k : ℕ) (example : List ℕ) → slice_get s.names x ≡ Some atom.name → example ≡ example_at (fresh_classes s x) k → MeetsBound atom example
      → IsMatchedBy s atom (Fresh x k)
  fresh-matched x k example is_x is meets = at-has (FreshMeets x k) s.names x atom.name is_x (refl, subst (MeetsBound atom) is meets)

  pub matched-fresh : (x k : ℕ) (example : List ℕ) → slice_get s.names x ≡ Some atom.name → example ≡ example_at (fresh_classes s x) k
      → IsMatchedBy s atom (Fresh x k) → MeetsBound atom example
  matched-fresh x k example is_x is matched = subst (MeetsBound atom) (sym is) (has-at (FreshMeets x k) s.names x atom.name is_x matched).1

  -- the new name that a matched package of one has
  pub matched-name : (x k : ℕ) → IsMatchedBy s atom (Fresh x k) → slice_get s.names x ≡ Some atom.name
  matched-name x k matched = let here = here-at (FreshMeets x k) s.names x matched in here.is ∙ ap (λ (n : List ℕ). Some n) here.holds.0

  -- ---- together

  abbrev pub MatchedAnd : (Meaning → Type 0) → Meaning → Type 0
  MatchedAnd P m = P m × IsMatchedBy s atom m

  pub kept-later : (r k j : ℕ) (m : Meaning) → MatchedAnd (λ x. x ≡ Kept r k j) m → MatchedAnd (IsLaterOf r) m
  kept-later r k j m both = (subst (IsLaterOf r) (sym both.0) refl, both.1)

  pub new-later : (r k : ℕ) (m : Meaning) → MatchedAnd (λ x. x ≡ New r k) m → MatchedAnd (IsLaterOf r) m
  new-later r k m both = (subst (IsLaterOf r) (sym both.0) refl, both.1)

  -- a kept entry is one of a class
  pub kept-of_class : (r j : ℕ) (m : Meaning) → IsMeaning s m → MatchedAnd (IsKeptAt r j) m → (k : ℕ) × (k < length (member_classes s r))
      × MatchedAnd (λ x. x ≡ Kept r k j) m
  kept-of_class r j Now is both = absurd both.0
  kept-of_class r j (Present n) is both = absurd both.0
  kept-of_class r j (At c l) is both = absurd both.0
  kept-of_class r j (New n l) is both = absurd both.0
  kept-of_class r j (Kept n l i) is both = (
    l,
    subst (λ (n : ℕ). l < length (member_classes s n)) both.0.0 is.1,
    (ap (λ (n : ℕ). Kept n l i) both.0.0 ∙ ap (λ (i : ℕ). Kept r l i) both.0.1, both.1),
  )
  kept-of_class r j (Fresh x l) is both = absurd both.0

  pub kept-of_classes : (r : ℕ) (places : List ℕ) (m : Meaning) → IsMeaning s m → Any (λ j. MatchedAnd (IsKeptAt r j) m) places
      → (k : ℕ) × (k < length (member_classes s r)) × Any (λ j. MatchedAnd (λ x. x ≡ Kept r k j) m) places
  kept-of_classes r places m is any =
      let one = kept-of_class r any.1 m is any.4 in
      (one.0, one.1, (any.0, any.1, any.2, any.3, one.2))

  -- a kept entry that is matched has the atom's name
  pub kept-one : (r : ℕ) (places : List ℕ) (m : Meaning) → ((j : ℕ) → Contains places j ↔ IsEntryNamed s.repository.packages r atom.name j)
      → MatchedAnd (IsKeptOf r) m → Any (λ j. MatchedAnd (IsKeptAt r j) m) places
  kept-one r places Now all both = absurd both.0
  kept-one r places (Present n) all both = absurd both.0
  kept-one r places (At c l) all both = absurd both.0
  kept-one r places (New n l) all both = absurd both.0
  kept-one r places (Kept n l j) all both =
      let named : IsEntryNamed s.repository.packages n atom.name j =
      at-more (λ (p : Package). IsSomeAnd (slice_get p.provides j) (EntryMatches n l p))
      (λ (p : Package). IsSomeAnd (slice_get p.provides j) (λ entry. entry.name ≡ atom.name))
      (λ p here. at-more (EntryMatches n l p) (λ (entry : Provide). entry.name ≡ atom.name) (λ entry matches. matches.name) p.provides j here)
      s.repository.packages n both.1 in
      any-contained (λ (i : ℕ). MatchedAnd (IsKeptAt r i) (Kept n l j)) places j
      ((all j).1 (subst (λ (i : ℕ). IsEntryNamed s.repository.packages i atom.name j) both.0 named)) ((both.0, refl), both.1)
  kept-one r places (Fresh x l) all both = absurd both.0

  -- a new version itself is one of a class
  pub new-of_class : (r : ℕ) (m : Meaning) → IsMeaning s m → MatchedAnd (IsNewOf r) m → (k : ℕ) × (k < length (member_classes s r))
      × MatchedAnd (λ x. x ≡ New r k) m
  new-of_class r Now is both = absurd both.0
  new-of_class r (Present n) is both = absurd both.0
  new-of_class r (At c l) is both = absurd both.0
  new-of_class r (New n l) is both =
      (l, subst (λ (n : ℕ). l < length (member_classes s n)) both.0 is.1, (ap (λ (n : ℕ). New n l) both.0, both.1))
  new-of_class r (Kept n l j) is both = absurd both.0
  new-of_class r (Fresh x l) is both = absurd both.0

  pub later-cases : (r : ℕ) (m : Meaning) → MatchedAnd (IsLaterOf r) m → MatchedAnd (IsNewOf r) m ⊎ MatchedAnd (IsKeptOf r) m
  later-cases r Now both = absurd both.0
  later-cases r (Present n) both = absurd both.0
  later-cases r (At c l) both = absurd both.0
  later-cases r (New n l) both = inl both
  later-cases r (Kept n l j) both = inr both
  later-cases r (Fresh x l) both = absurd both.0

  pub fresh-among : (x k : ℕ) (m : Meaning) → MatchedAnd (λ y. y ≡ Fresh x k) m → MatchedAnd IsFresh m
  fresh-among x k m both = (subst IsFresh (sym both.0) tt, both.1)

  pub fresh-one : (x : ℕ) (m : Meaning) → ((y : ℕ) → slice_get s.names y ≡ Some atom.name → Some y ≡ Some x) → IsMeaning s m → MatchedAnd IsFresh m → (k : ℕ)
      × (k < length (fresh_classes s x)) × MatchedAnd (λ y. y ≡ Fresh x k) m
  fresh-one x Now one is both = absurd both.0
  fresh-one x (Present n) one is both = absurd both.0
  fresh-one x (At c l) one is both = absurd both.0
  fresh-one x (New n l) one is both = absurd both.0
  fresh-one x (Kept n l j) one is both = absurd both.0
  fresh-one x (Fresh y l) one is both =
      let same : y ≡ x = same_Some y x (one y (matched-name y l both.1)) in
      (l, subst (λ (i : ℕ). l < length (fresh_classes s i)) same is, (ap (λ (i : ℕ). Fresh i l) same, both.1))

  pub fresh-named : (m : Meaning) → MatchedAnd IsFresh m → (y : ℕ) × (slice_get s.names y ≡ Some atom.name)
  fresh-named Now both = absurd both.0
  fresh-named (Present n) both = absurd both.0
  fresh-named (At c l) both = absurd both.0
  fresh-named (New n l) both = absurd both.0
  fresh-named (Kept n l j) both = absurd both.0
  fresh-named (Fresh y l) both = (y, matched-name y l both.1)

-- ---- entries, run by run

-- the first part of a list in order was gone through, and its matched entries were added
pub record AreRun (s : SpaceView) (atom : Atom) (member : ℕ) (places rest old new : List ℕ) : Type 0 where
  pub done : List ℕ
  pub split : done ++ rest ≡ places
  pub in_order : AreInUseOrder s.repository member rest
  pub added : Gathers s old new (MatchedAnd s atom (IsLaterOf member)) (λ m. Any (λ j. MatchedAnd s atom (IsKeptAt member j) m) done)

module _ (s : SpaceView) (atom : Atom) (member : ℕ) where
  abbrev Later : Meaning → Type 0
  Later = MatchedAnd s atom (IsLaterOf member)

  abbrev AtOne : List ℕ → Meaning → Type 0
  AtOne places m = Any (λ j. MatchedAnd s atom (IsKeptAt member j) m) places

  pub run-none : (places old : List ℕ) → AreInUseOrder s.repository member places → AreRun s atom member places places old old
  run-none places old in_order = record {
    done = [];
    split = refl;
    in_order = in_order;
    added = gathers-nothing s old Later (AtOne []) (λ m is any. omega (arith, any.2));
  }

  any-split : (xs ys : List ℕ) (m : Meaning) → AtOne (xs ++ ys) m → AtOne xs m ⊎ AtOne ys m
  any-split xs ys m any =
      elim (Contains-append_cases xs ys any.1 (any-there (λ j. MatchedAnd s atom (IsKeptAt member j) m) (xs ++ ys) any)) [
        | inl h ↦ inl (any-contained (λ j. MatchedAnd s atom (IsKeptAt member j) m) xs any.1 h any.4)
        | inr h ↦ inr (any-contained (λ j. MatchedAnd s atom (IsKeptAt member j) m) ys any.1 h any.4)
      ]

  later-sorted : (lt : ℕ → ℕ → Bool) (xs ys : List ℕ) → IsSortedBy lt (xs ++ ys) → IsSortedBy lt ys
  later-sorted lt xs ys up k d from short =
      let at : (i : ℕ) → get_or (xs ++ ys) (length xs + i) d ≡ get_or ys i d = λ i. get_or-append-add xs ys i d in
      let next : length xs + k + 1 ≡ length xs + (k + 1) = omega arith in
      let low : lt (get_or (xs ++ ys) (length xs + k + 1) d) (get_or (xs ++ ys) (length xs + k) d) ≡ false =
      up (length xs + k) d (omega arith) (let counted = length-append xs ys in omega (arith, counted, short)) in
      ap (λ x. lt x (get_or ys k d)) (sym (at (k + 1))) ∙ ap (λ i. lt (get_or (xs ++ ys) i d) (get_or ys k d)) (sym next)
      ∙ ap (λ x. lt (get_or (xs ++ ys) (length xs + k + 1) d) x) (sym (at k)) ∙ low

  pub run-more : (places rest alike others old mid new : List ℕ) → rest ≡ alike ++ others → AreRun s atom member places rest old mid
      → Gathers s mid new Later (AtOne alike) → AreRun s atom member places others old new
  run-more places rest alike others old mid new is run added = record {
    done = run.done ++ alike;
    split = append_assoc run.done alike others ∙ ap (λ xs. run.done ++ xs) (sym is) ∙ run.split;
    in_order = λ p at.
        let lt : ℕ → ℕ → Bool = λ i j. is_lt (use_cmp s.repository.architecture p.provides i j) in
        later-sorted lt alike others (subst (IsSortedBy lt) is (run.in_order p at));
    added = gathers-both s old mid new Later (AtOne run.done) (AtOne alike) (AtOne (run.done ++ alike)) run.added added
        (λ m meaning any. any-split run.done alike m any);
  }

  pub run-named : (places rest old new : List ℕ) → AreRun s atom member places rest old new
      → ((j : ℕ) → Contains places j ↔ IsEntryNamed s.repository.packages member atom.name j)
      → (j : ℕ) → Contains rest j → IsEntryNamed s.repository.packages member atom.name j
  run-named places rest old new run all j there =
      (all j).0 (subst (λ (xs : List ℕ). Contains xs j) run.split (Contains-append_right run.done rest j there))

  empty : (xs : List ℕ) → length xs ≡ 0 → xs ≡ []
  empty [] none = refl
  empty (x ∷ xs) none = absurd (omega (arith, none))

  pub run-all : (places rest old new : List ℕ) → ((j : ℕ) → Contains places j ↔ IsEntryNamed s.repository.packages member atom.name j)
      → length rest ≡ 0 → AreRun s atom member places rest old new → Gathers s old new Later (MatchedAnd s atom (IsKeptOf member))
  run-all places rest old new all none run =
      let whole : run.done ≡ places = sym (append-nil run.done) ∙ ap (λ xs. run.done ++ xs) (sym (empty rest none)) ∙ run.split in
      gathers-weaker s old new Later Later (AtOne run.done) (MatchedAnd s atom (IsKeptOf member)) (λ m is both. both)
      (λ m is both. subst (λ (xs : List ℕ). AtOne xs m) (sym whole) (kept-one s atom member places m all both)) run.added
