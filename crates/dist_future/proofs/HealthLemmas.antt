-- The healthy assignments are those that meet the demands of the space, and an assignment has one health.
use Rattle.std.proofs.Common.{◌≡◌, ℕ, ◌<◌, Bool, true, false, cond, List, [], ◌∷◌, Some, length, refl, sym, ap, subst, ◌∙◌, inl, inr, arith, slice_get}
use Rattle.std.specs.Prelude.{Contains, IsSomeAnd, filter, slice_index}
use Rattle.std.proofs.lemmas.Bool.{false≢true}
use Rattle.std.proofs.lemmas.Option.{slice_get_within}
use Rattle.dist_base.specs.Least.{IsAtMost, IsLeast, IsLeastPair, IsNoPair}
use Rattle.dist_base.specs.ListLaws.{any-contained, at-has, contains-at, here-at, place-of}
use Rattle.dist_relation.specs.declared.atom.Atom.{Atom}
use Rattle.dist_repo.specs.DecidedLaws.{any-decided, both-decided, IsDecided}
use Rattle.dist_repo.specs.Healthy.{required_names}
use Rattle.dist_repo.specs.declared.package.Package.{Package}
use Rattle.dist_future.specs.FutureHealth.{AreApart, AreConflicting, AreNoFuture, Holds, IsFutureHealth, IsMissing, IsUnmetAt, Needs, SomeHolds}
use Rattle.dist_space.specs.Space.{IsMeaning, IsMetBy, IsSpace, SpaceView, cluster_classes, fresh_classes, variable_of}
use Rattle.dist_space_clauses.specs.SpaceClauses.{Excludes, IsBearer}
use Rattle.dist_future.specs.SpaceLaws.{holds_under}
use Rattle.dist_future.specs.declared.health_kind.FutureHealth.{FutureHealth}
use Rattle.dist_future.specs.declared.health_kind.FutureHealth.TheVariants.{Healthy, NotAFuture, Unmet, Conflict, EssentialMissing}
use Rattle.dist_space.specs.declared.meaning.Meaning.{Meaning}
use Rattle.dist_space.specs.declared.meaning.Meaning.TheVariants.{Now, Present, At, New, Kept, Fresh}
use Rattle.dist_space_clauses.specs.DecidedLaws.{bearer-decided, met-decided}
use Rattle.dist_future.proofs.DemandLemmas.{AreFutureMet, AreMet, IsMetIn, IsTrueMeaning}
use Rattle.dist_space_clauses.specs.ItemLaws.{item-at}
use Rattle.dist_future.proofs.NoFutureLemmas.{new-of}
use Rattle.dist_space.specs.RisingLaws.{contains-cons, contains-first, contains-later, in-map, map-in}

-- ---- essential packages

-- what is kept of a list has passed the test
passed-cons : {X : Type 0} (test : X → Bool) (y : X) (xs : List X) (x : X) (b : Bool) → test y ≡ b
    → (Contains (filter test xs) x → Contains xs x × (test x ≡ true)) → Contains (cond b (y ∷ filter test xs) (filter test xs)) x
    → Contains (y ∷ xs) x × (test x ≡ true)
passed-cons test y xs x false is rest there = let h = rest there in (contains-later y x xs h.0, h.1)
passed-cons {X} test y xs x true is rest there = elim (contains-cons y x (filter test xs) there) [
  | inl same ↦ let Here : X → Type 0 = λ z. Contains (y ∷ xs) z × (test z ≡ true) in subst Here same (contains-first y xs, is)
  | inr later ↦ let h = rest later in (contains-later y x xs h.0, h.1)
]

kept-passes : {X : Type 0} (test : X → Bool) (xs : List X) (x : X) → Contains (filter test xs) x → Contains xs x × (test x ≡ true)
kept-passes test [] x there = absurd (omega (arith, there.1))
kept-passes test (y ∷ xs) x there = passed-cons test y xs x (test y) refl (kept-passes test xs x) there

passes-kept : {X : Type 0} (test : X → Bool) (xs : List X) (x : X) → Contains xs x → test x ≡ true → Contains (filter test xs) x
passes-kept test [] x there passes = absurd (omega (arith, there.1))
passes-kept {X} test (y ∷ xs) x there passes = elim (contains-cons y x xs there) [
  | inl same ↦ let Here : X → Type 0 = λ z. Contains (filter test (y ∷ xs)) z in subst Here same (by-first (test y) (ap test same ∙ passes))
  | inr later ↦ by-later (test y) (passes-kept test xs x later passes)
]
  where
    by-first : (b : Bool) → b ≡ true → Contains (cond b (y ∷ filter test xs) (filter test xs)) y
    by-first true is = contains-first y (filter test xs)
    by-first false is = absurd (false≢true is)

    by-later : (b : Bool) → Contains (filter test xs) x → Contains (cond b (y ∷ filter test xs) (filter test xs)) x
    by-later true inside = contains-later y x (filter test xs) inside
    by-later false inside = inside

-- an essential package of a required name
pub record EssentialOf (mode : Bool) (packages : List Package) (name : List ℕ) : Type 0 where
  pub is_mode : mode ≡ true
  pub number : ℕ
  pub p : Package
  pub is : slice_get packages number ≡ Some p
  pub essential : p.essential ≡ true
  pub named : p.name ≡ name

required-essential : (mode : Bool) (packages : List Package) (name : List ℕ) → Contains (required_names mode packages) name → EssentialOf mode packages name
required-essential false packages name there = absurd (omega (arith, there.1))
required-essential true packages name there =
    let from = in-map (λ (p : Package). p.name) (filter (λ p. p.essential) packages) name there in
    let passed = kept-passes (λ (p : Package). p.essential) packages from.source from.there in
    let at = place-of packages from.source passed.0 in
    record { is_mode = refl; number = at.place; p = from.source; is = at.is; essential = passed.1; named = from.gives }

essential-required : (mode : Bool) (packages : List Package) (p : Package) → mode ≡ true → Contains packages p → p.essential ≡ true
    → Contains (required_names mode packages) p.name
essential-required false packages p is there essential = absurd (false≢true is)
essential-required true packages p is there essential =
    map-in (λ (q : Package). q.name) (filter (λ q. q.essential) packages) p (passes-kept (λ (q : Package). q.essential) packages p there essential)

-- ---- what holds

pub bool-decided : (b : Bool) → IsDecided (b ≡ true)
bool-decided true = inl refl
bool-decided false = inr (λ is. false≢true is)

module _ (s : SpaceView) (values : List Bool) where
  abbrev Meets : Meaning → Type 0
  Meets = IsTrueMeaning s values

  held : (m : Meaning) → IsMeaning s m → IsTrueMeaning s values m → Holds s values m
  held m is holds = record { is_meaning = is; is_true = holds }

  -- some meaning with a property holds, or none does
  some-decided : IsSpace s → (P : Meaning → Type 0) → ((m : Meaning) → IsDecided (P m)) → IsDecided (SomeHolds s values P)
  some-decided space P each = elim (any-decided (λ m. (holds_under s values m ≡ true) × P m)
      (λ m. both-decided (bool-decided (holds_under s values m)) (each m)) s.meanings) [
        | inl any ↦ inl (record {
          meaning = any.1;
          holds = record { is_meaning = ((space.meanings.exact any.1).0 (any.0, any.2, any.3)).0; is_true = any.4.0 };
          has = any.4.1;
        })
        | inr none ↦ inr (λ some. none (any-contained (λ m. (holds_under s values m ≡ true) × P m) s.meanings some.meaning
            ((space.meanings.exact some.meaning).1 (some.holds.is_meaning, tt)) (some.holds.is_true, some.has)))
      ]

  met-of : (P : Meaning → Type 0) → SomeHolds s values P → IsMetIn s (IsTrueMeaning s values) P
  met-of P some = record { meaning = some.meaning; is_meaning = some.holds.is_meaning; holds = some.holds.is_true; has = some.has }

  of-met : (P : Meaning → Type 0) → IsMetIn s (IsTrueMeaning s values) P → SomeHolds s values P
  of-met P met = record { meaning = met.meaning; holds = held met.meaning met.is_meaning met.holds; has = met.has }

  -- two meanings that no future has so
  apart-broken : (m n : Meaning) → Holds s values m → Holds s values n → AreApart s m n → AreNoFuture s values (variable_of s m) (variable_of s n)
  apart-broken m n first second apart =
      record { one = m; other = n; first_is = refl; second_is = refl; holds = first; is_other = second.is_meaning; broken = inl (apart, second.is_true) }

  needs-broken : (m n : Meaning) → Holds s values m → IsMeaning s n → holds_under s values n ≡ false → Needs s m n
      → AreNoFuture s values (variable_of s m) (variable_of s n)
  needs-broken m n first is fails needs = record {
    one = m;
    other = n;
    first_is = refl;
    second_is = refl;
    holds = first;
    is_other = is;
    broken = inr (needs, fails);
  }

  pub with-it : (m n : Meaning) → IsNoPair (AreNoFuture s values) → Holds s values m → IsMeaning s n → Needs s m n → holds_under s values n ≡ true
  with-it m n none first is needs = by (holds_under s values n) refl
    where
      by : (b : Bool) → holds_under s values n ≡ b → holds_under s values n ≡ true
      by true holds = holds
      by false fails = absurd (none (variable_of s m) (variable_of s n) (needs-broken m n first is fails needs))

  -- ---- from health to the demands

  -- the demands of a future are met where no pair of variables is none
  pub future-met : IsNoPair (AreNoFuture s values) → AreFutureMet s (IsTrueMeaning s values)
  future-met never =
      let apart : (m n : Meaning) → IsMeaning s m → IsMeaning s n → AreApart s m n → IsTrueMeaning s values m → IsTrueMeaning s values n → ⊥ =
      λ m n is_m is_n are first second. never (variable_of s m) (variable_of s n) (apart-broken m n (held m is_m first) (held n is_n second) are) in
      record {
        one_class = λ c k l less short. apart (At c k) (At c l) (omega (arith, less, short)) short (refl, less);
        gone = λ r k is. apart (Present r) (At (slice_index s.cluster_of r) k) is.0 is.1 refl;
        moved = λ r k is holds. with-it (New r k) (At (slice_index s.cluster_of r) k) never (held (New r k) is holds) is.1 (refl, refl);
        carried = λ r k j is holds. with-it (Kept r k j) (New r k) never (held (Kept r k j) is holds) (new-of s r k j is) (refl, refl);
        one_fresh = λ x k l less short. apart (Fresh x k) (Fresh x l) (omega (arith, less, short)) short (refl, less);
        stays = λ c k is. apart Now (At c k) tt is tt;
        absent = λ x k is. apart Now (Fresh x k) tt is tt;
      }

  pub met-with : IsNoPair (AreNoFuture s values)
      → ((r place : ℕ) (p : Package) (item : List Atom) → slice_get s.repository.packages r ≡ Some p → slice_get p.depends place ≡ Some item
      → IsTrueMeaning s values (Present r) → IsMetIn s (IsTrueMeaning s values) (IsMetBy s item))
      → ((r : ℕ) (p : Package) (m : Meaning) → slice_get s.repository.packages r ≡ Some p → IsMeaning s m → Excludes s r p m
      → IsTrueMeaning s values (Present r) → IsTrueMeaning s values m → ⊥)
      → ((name : List ℕ) → Contains (required_names s.essential s.repository.packages) name → IsMetIn s (IsTrueMeaning s values) (IsBearer s name))
      → AreMet s (IsTrueMeaning s values)
  met-with never items conflicts required = record { future = future-met never; met = items; apart = conflicts; required = required }

  pub met-from-health : IsSpace s → IsFutureHealth s values Healthy → AreMet s (IsTrueMeaning s values)
  met-from-health space healthy =
      met-with healthy.0
      (λ r place p item is is_item holds. elim (some-decided space (IsMetBy s item) (met-decided s item)) [
        | inl some ↦ met-of (IsMetBy s item) some
        | inr none ↦ absurd (healthy.1 (variable_of s (Present r)) place (record {
          number = r;
          variable_is = refl;
          installed = held (Present r) (slice_get_within s.repository.packages r p is) holds;
          unmet = item-at s r place (λ q i. ¬ SomeHolds s values (IsMetBy s i)) p item is is_item none;
        }))
      ])
      (λ r p m is is_meaning excludes first second. healthy.2 (variable_of s (Present r)) (variable_of s m) (record {
        number = r;
        other = m;
        first_is = refl;
        second_is = refl;
        installed = held (Present r) (slice_get_within s.repository.packages r p is) first;
        holds = held m is_meaning second;
        excluded = at-has (λ q. Excludes s r q m) s.repository.packages r p is excludes;
      }))
      (λ name there.
      let of = required-essential s.essential s.repository.packages name there in
      elim (some-decided space (IsBearer s name) (bearer-decided s name)) [
        | inl some ↦ met-of (IsBearer s name) some
        | inr none ↦ absurd (healthy.3 of.number (
          of.is_mode,
          at-has (λ (q : Package). (q.essential ≡ true) × (¬ SomeHolds s values (IsBearer s q.name))) s.repository.packages of.number of.p of.is
              (of.essential, subst (λ (x : List ℕ). ¬ SomeHolds s values (IsBearer s x)) (sym of.named) none),
        ))
      ])

  -- ---- and back

  never-apart : AreFutureMet s (IsTrueMeaning s values) → (m n : Meaning) → IsMeaning s m → IsMeaning s n → AreApart s m n → IsTrueMeaning s values m
      → IsTrueMeaning s values n → ⊥
  never-apart met (At c k) (At d l) is_m is_n apart first second =
      let At' : ℕ → Type 0 = λ e. IsTrueMeaning s values (At e l) in
      met.one_class c k l apart.1 (subst (λ (e : ℕ). l < length (cluster_classes s e)) (sym apart.0) is_n) first (subst At' (sym apart.0) second)
  never-apart met (Fresh x k) (Fresh y l) is_m is_n apart first second =
      let Fresh' : ℕ → Type 0 = λ e. IsTrueMeaning s values (Fresh e l) in
      met.one_fresh x k l apart.1 (subst (λ (e : ℕ). l < length (fresh_classes s e)) (sym apart.0) is_n) first (subst Fresh' (sym apart.0) second)
  never-apart met (Present r) (At c k) is_m is_n apart first second =
      let At' : ℕ → Type 0 = λ e. IsTrueMeaning s values (At e k) in
      met.gone r k (is_m, subst (λ (e : ℕ). k < length (cluster_classes s e)) (sym apart) is_n) first (subst At' (sym apart) second)
  never-apart met Now (At c k) is_m is_n apart first second = met.stays c k is_n first second
  never-apart met Now (Fresh x k) is_m is_n apart first second = met.absent x k is_n first second
  never-apart met m n is_m is_n apart first second = absurd apart

  never-lacks : AreFutureMet s (IsTrueMeaning s values) → (m n : Meaning) → IsMeaning s m → Needs s m n → IsTrueMeaning s values m
      → holds_under s values n ≡ false → ⊥
  never-lacks met (New r k) (At c l) is_m needs first fails =
      let same : At (slice_index s.cluster_of r) k ≡ At c l = let a = needs.0 in let b = needs.1 in cc in
      false≢true (sym fails ∙ subst (IsTrueMeaning s values) same (met.moved r k is_m first))
  never-lacks met (Kept r k j) (New q l) is_m needs first fails =
      let same : New r k ≡ New q l = let a = needs.0 in let b = needs.1 in cc in
      false≢true (sym fails ∙ subst (IsTrueMeaning s values) same (met.carried r k j is_m first))
  never-lacks met m n is_m needs first fails = absurd needs

  pub no-pair : AreFutureMet s (IsTrueMeaning s values) → IsNoPair (AreNoFuture s values)
  no-pair met n k f = elim f.broken [
    | inl h ↦ never-apart met f.one f.other f.holds.is_meaning f.is_other h.0 f.holds.is_true h.1
    | inr h ↦ never-lacks met f.one f.other f.holds.is_meaning h.0 f.holds.is_true h.1
  ]

  pub health-from-met : AreMet s (IsTrueMeaning s values) → IsFutureHealth s values Healthy
  health-from-met met = (
    no-pair met.future,
    λ v place f.
        let Unmet' : Package → List Atom → Type 0 = λ p item. ¬ SomeHolds s values (IsMetBy s item) in
        let p = here-at (λ q. IsSomeAnd (slice_get q.depends place) (Unmet' q)) s.repository.packages f.number f.unmet in
        let item = here-at (Unmet' p.element) p.element.depends place p.holds in
        item.holds (of-met (IsMetBy s item.element) (met.met f.number place p.element item.element p.is item.is f.installed.is_true)),
    λ a b f.
        let p = here-at (λ q. Excludes s f.number q f.other) s.repository.packages f.number f.excluded in
        met.apart f.number p.element f.other p.is f.holds.is_meaning p.holds f.installed.is_true f.holds.is_true,
    λ n missing.
        let p = here-at (λ (q : Package). (q.essential ≡ true) × (¬ SomeHolds s values (IsBearer s q.name))) s.repository.packages n missing.1 in
        p.holds.1 (of-met (IsBearer s p.element.name) (met.required p.element.name
        (essential-required s.essential s.repository.packages p.element missing.0 (contains-at s.repository.packages n p.element p.is) p.holds.0))),
  )

-- ---- one health

one-least : (P : ℕ → Type 0) (n k : ℕ) → IsLeast P n → IsLeast P k → k ≡ n
one-least P n k first second = let a = first.least k second.holds in let b = second.least n first.holds in omega arith

record AreSame (n k a b : ℕ) : Type 0 where
  first : a ≡ n
  second : b ≡ k

at-most-both : (n k a b : ℕ) → IsAtMost n k a b → IsAtMost a b n k → AreSame n k a b
at-most-both n k a b (inl low) (inl high) = absurd (omega arith)
at-most-both n k a b (inl low) (inr high) = absurd (omega (arith, high.0))
at-most-both n k a b (inr low) (inl high) = absurd (omega (arith, low.0))
at-most-both n k a b (inr low) (inr high) = record { first = high.0; second = omega (arith, low.1, high.1) }

one-pair : (P : ℕ → ℕ → Type 0) (n k a b : ℕ) → IsLeastPair P n k → IsLeastPair P a b → AreSame n k a b
one-pair P n k a b first second = at-most-both n k a b (first.least a b second.holds) (second.least n k first.holds)

pub one-health : (s : SpaceView) (values : List Bool) (health other : FutureHealth) → IsFutureHealth s values health → IsFutureHealth s values other
    → other ≡ health
one-health s values Healthy Healthy is also = refl
one-health s values Healthy (NotAFuture a b) is also = absurd (is.0 a b also.holds)
one-health s values Healthy (Unmet a b) is also = absurd (is.1 a b also.1.holds)
one-health s values Healthy (Conflict a b) is also = absurd (is.2 a b also.2.holds)
one-health s values Healthy (EssentialMissing a) is also = absurd (is.3 a also.3.holds)
one-health s values (NotAFuture n k) Healthy is also = absurd (also.0 n k is.holds)
one-health s values (NotAFuture n k) (NotAFuture a b) is also = let same = one-pair (AreNoFuture s values) n k a b is also in let first = same.first in
    let second = same.second in cc
one-health s values (NotAFuture n k) (Unmet a b) is also = absurd (also.0 n k is.holds)
one-health s values (NotAFuture n k) (Conflict a b) is also = absurd (also.0 n k is.holds)
one-health s values (NotAFuture n k) (EssentialMissing a) is also = absurd (also.0 n k is.holds)
one-health s values (Unmet n k) Healthy is also = absurd (also.1 n k is.1.holds)
one-health s values (Unmet n k) (NotAFuture a b) is also = absurd (is.0 a b also.holds)
one-health s values (Unmet n k) (Unmet a b) is also = let same = one-pair (IsUnmetAt s values) n k a b is.1 also.1 in let first = same.first in
    let second = same.second in cc
one-health s values (Unmet n k) (Conflict a b) is also = absurd (also.1 n k is.1.holds)
one-health s values (Unmet n k) (EssentialMissing a) is also = absurd (also.1 n k is.1.holds)
one-health s values (Conflict n k) Healthy is also = absurd (also.2 n k is.2.holds)
one-health s values (Conflict n k) (NotAFuture a b) is also = absurd (is.0 a b also.holds)
one-health s values (Conflict n k) (Unmet a b) is also = absurd (is.1 a b also.1.holds)
one-health s values (Conflict n k) (Conflict a b) is also = let same = one-pair (AreConflicting s values) n k a b is.2 also.2 in let first = same.first in
    let second = same.second in cc
one-health s values (Conflict n k) (EssentialMissing a) is also = absurd (also.2 n k is.2.holds)
one-health s values (EssentialMissing n) Healthy is also = absurd (also.3 n is.3.holds)
one-health s values (EssentialMissing n) (NotAFuture a b) is also = absurd (is.0 a b also.holds)
one-health s values (EssentialMissing n) (Unmet a b) is also = absurd (is.1 a b also.1.holds)
one-health s values (EssentialMissing n) (Conflict a b) is also = absurd (is.2 a b also.2.holds)
one-health s values (EssentialMissing n) (EssentialMissing a) is also = let same = one-least (IsMissing s values) n a is.3 also.3 in ap EssentialMissing same
