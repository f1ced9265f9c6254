-- Which variables a meaning that holds excludes, and which it lacks.
use Rattle.std.proofs.Common.{◌≡◌, ◌⊎◌, ℕ, ◌+◌, ◌<◌, ◌≤◌, Bool, true, false, List, Option, length, sym, ap, subst, ◌∙◌, inl, inr, arith}
use borrow.Author.Count.{below_more}
use Rattle.std.specs.Prelude.{IsSomeAnd, slice_get, slice_index}
use Rattle.std.proofs.lemmas.Bool.{cases_lt, false≢true}
use Rattle.dist_base.specs.Least.{IsLeast, IsLeastIfAny}
use Rattle.dist_base.specs.ListLaws.{within-from}
use Rattle.dist_clause.specs.Formula.{value_of}
use Rattle.dist_repo.specs.Match.{IsUsable}
use Rattle.dist_repo.specs.declared.package.Package.{Package}
use Rattle.dist_future.specs.FutureHealth.{AreApart, AreNoFuture, Holds, Needs}
use Rattle.dist_space.specs.Space.{IsChange, IsMeaningOf, IsMeaning, IsSpace, SpaceView, variable_of}
use Rattle.dist_future.specs.MatchingPrivate.{IsChangeAt, IsHeldFrom, IsLacking}
use Rattle.dist_future.specs.SpaceLaws.{holds_under}
use Rattle.dist_space.specs.declared.meaning.Meaning.{Meaning}
use Rattle.dist_space.specs.declared.meaning.Meaning.TheVariants.{Now, Present, At, New, Kept, Fresh}
use Rattle.dist_space.specs.VariableLaws.{one-meaning, variable-range}
use Rattle.dist_future.proofs.Leasts.{IsNoneBelow, IsNoneTo, least-shift}

-- ---- numbered meanings, from a number on

abbrev pub IsNoneHeld : SpaceView → List Bool → (ℕ → Meaning) → (start count : ℕ) → Type 0
IsNoneHeld s values numbered start count = (k : ℕ) → start ≤ k → k < count → ¬ Holds s values (numbered k)

abbrev pub AreRising : SpaceView → (ℕ → Meaning) → Type 0
AreRising s numbered = (k l : ℕ) → IsMeaning s (numbered k) → IsMeaning s (numbered l) → k < l → variable_of s (numbered k) < variable_of s (numbered l)

pub held-least : (s : SpaceView) (values : List Bool) (numbered : ℕ → Meaning) (start k v : ℕ) → AreRising s numbered → start ≤ k
    → v ≡ variable_of s (numbered k) → Holds s values (numbered k) → IsNoneHeld s values numbered start k
    → IsLeast (IsHeldFrom s values numbered start) v
held-least s values numbered start k v rising from is holds none = record {
  holds = record { number = k; from = from; variable_is = sym is; holds = holds };
  least = λ w f. elim (cases_lt f.number k) [
    | inl less ↦ absurd (none f.number f.from less f.holds)
    | inr past ↦ elim (cases_lt k f.number) [
      | inl less ↦ let up = rising k f.number holds.is_meaning f.holds.is_meaning less in let at = f.variable_is in omega (arith, up, at, is)
      | inr also ↦
          let same : f.number ≡ k = omega (arith, past, also) in
          let one : w ≡ v = sym f.variable_is ∙ ap (λ (i : ℕ). variable_of s (numbered i)) same ∙ sym is in omega (arith, one)
    ]
  ];
}

pub held-none : (s : SpaceView) (values : List Bool) (numbered : ℕ → Meaning) (start count : ℕ) → ((k : ℕ) → IsMeaning s (numbered k) → k < count)
    → IsNoneHeld s values numbered start count → (v : ℕ) → ¬ IsHeldFrom s values numbered start v
held-none s values numbered start count short none v f = none f.number f.from (short f.number f.holds.is_meaning) f.holds

pub held-more : (s : SpaceView) (values : List Bool) (numbered : ℕ → Meaning) (start k : ℕ) → ¬ Holds s values (numbered k)
    → IsNoneHeld s values numbered start k → IsNoneHeld s values numbered start (k + 1)
held-more s values numbered start k not none l from short holds = elim (cases_lt l k) [
  | inl less ↦ none l from less holds
  | inr past ↦ let same : l ≡ k = omega (arith, past, short) in not (let At' : ℕ → Type 0 = λ i. Holds s values (numbered i) in subst At' same holds)
]

-- ---- today's archive

pub change-least : (s : SpaceView) (values : List Bool) (m : Meaning) (v : ℕ) → IsMeaningOf s v m → Holds s values m → IsChange m
    → IsNoneTo (IsChangeAt s values) v → IsLeast (IsChangeAt s values) v
change-least s values m v of holds change none = record {
  holds = record { meaning = m; variable_is = of.variable_is; holds = holds; change = change };
  least = λ w f. elim (cases_lt w v) [
    | inl less ↦ absurd (none w less f)
    | inr past ↦ past
  ];
}

pub change-more : (s : SpaceView) (values : List Bool) (v : ℕ) → ¬ IsChangeAt s values v → IsNoneTo (IsChangeAt s values) v
    → IsNoneTo (IsChangeAt s values) (v + 1)
change-more s values v not none = below_more (λ n. ¬ IsChangeAt s values n) v none not

pub no-change : (s : SpaceView) (values : List Bool) (m : Meaning) (v : ℕ) → IsMeaningOf s v m → ¬ IsChange m → ¬ IsChangeAt s values v
no-change s values m v of not f = not (subst IsChange (one-meaning s f.meaning m of.space f.holds.is_meaning of.is_meaning (f.variable_is ∙ sym of.variable_is))
    f.change)

pub change-none : (s : SpaceView) (values : List Bool) (count : ℕ) → IsSpace s → length s.meanings < count → IsNoneTo (IsChangeAt s values) count → (v : ℕ)
    → ¬ IsChangeAt s values v
change-none s values count space past none v f =
    let range = variable-range s f.meaning space f.holds.is_meaning in
    let is = f.variable_is in
    none v (omega (arith, past, range.1, is)) f

-- ---- what one variable makes of the others

-- a variable that means something else, or that does not hold
pub meaning-holds : (s : SpaceView) (values : List Bool) (m n : Meaning) (v : ℕ) → IsMeaningOf s v m → Holds s values n → variable_of s n ≡ v → n ≡ m
meaning-holds s values m n v of holds is = one-meaning s n m of.space holds.is_meaning of.is_meaning (is ∙ sym of.variable_is)

pub never-holds : (s : SpaceView) (values : List Bool) (n : Meaning) (v : ℕ) (b : Bool) → b ≡ value_of values v → b ≡ false → Holds s values n
    → variable_of s n ≡ v → ⊥
never-holds s values n v b told fails holds is = false≢true (sym fails ∙ told ∙ ap (value_of values) (sym is) ∙ holds.is_true)

pub no-row : (s : SpaceView) (values : List Bool) (v : ℕ) (b : Bool) → b ≡ value_of values v → b ≡ false → (w : ℕ) → ¬ AreNoFuture s values v w
no-row s values v b told fails w f = never-holds s values f.one v b told fails f.holds f.first_is

pub all-rows : (s : SpaceView) (values : List Bool) (count : ℕ) → IsSpace s → length s.meanings < count → IsNoneBelow (AreNoFuture s values) count → (n k : ℕ)
    → ¬ AreNoFuture s values n k
all-rows s values count space past none n k f =
    let range = variable-range s f.one space f.holds.is_meaning in
    let is = f.first_is in
    none n k (omega (arith, past, range.1, is)) f

-- what breaks a meaning that holds
pub record IsBrokenBy (s : SpaceView) (values : List Bool) (m : Meaning) (w : ℕ) : Type 0 where
  pub other : Meaning
  pub second_is : variable_of s other ≡ w
  pub is_other : IsMeaning s other
  pub broken : (AreApart s m other × (holds_under s values other ≡ true)) ⊎ (Needs s m other × (holds_under s values other ≡ false))

module _ (s : SpaceView) (values : List Bool) (v : ℕ) (m : Meaning) (of : IsMeaningOf s v m) (holds : Holds s values m) where
  row-from : (w : ℕ) → IsBrokenBy s values m w → AreNoFuture s values v w
  row-from w f = record {
    one = m;
    other = f.other;
    first_is = of.variable_is;
    second_is = f.second_is;
    holds = holds;
    is_other = f.is_other;
    broken = f.broken;
  }

  from-row : (w : ℕ) → AreNoFuture s values v w → IsBrokenBy s values m w
  from-row w f =
      let same : f.one ≡ m = meaning-holds s values m f.one v of f.holds f.first_is in
      let Broken : Meaning → Type 0 = λ x. (AreApart s x f.other × (holds_under s values f.other ≡ true))
      ⊎ (Needs s x f.other × (holds_under s values f.other ≡ false)) in
      record { other = f.other; second_is = f.second_is; is_other = f.is_other; broken = subst Broken same f.broken }

  -- the row of a variable, by another word for what breaks its meaning
  pub row-is : (P : ℕ → Type 0) (o : Option ℕ) → ((w : ℕ) → P w → IsBrokenBy s values m w) → ((w : ℕ) → IsBrokenBy s values m w → P w) → IsLeastIfAny P o
      → IsLeastIfAny (AreNoFuture s values v) o
  row-is P o to from least = least-shift P (AreNoFuture s values v) o (λ w p. row-from w (to w p)) (λ w f. from w (from-row w f)) least

-- the new version of an entry
pub new-of : (s : SpaceView) (r k j : ℕ) → IsMeaning s (Kept r k j) → IsMeaning s (New r k)
new-of s r k j is = (
  within-from (λ (p : Package). IsSomeAnd (slice_get p.provides j) (λ entry. IsUsable s.repository.architecture entry.qualifier))
      s.repository.packages r is.0,
  is.1,
)

-- ---- by kinds

module _ (s : SpaceView) (values : List Bool) where
  -- today's archive
  change-apart : (m : Meaning) → IsChange m → AreApart s Now m
  change-apart Now is = absurd is
  change-apart (Present r) is = absurd is
  change-apart (At c k) is = tt
  change-apart (New r k) is = absurd is
  change-apart (Kept r k j) is = absurd is
  change-apart (Fresh x k) is = tt

  apart-change : (m : Meaning) → AreApart s Now m → IsChange m
  apart-change Now is = is
  apart-change (Present r) is = is
  apart-change (At c k) is = tt
  apart-change (New r k) is = is
  apart-change (Kept r k j) is = is
  apart-change (Fresh x k) is = tt

  now-needs : (m : Meaning) → ¬ Needs s Now m
  now-needs Now is = is
  now-needs (Present r) is = is
  now-needs (At c k) is = is
  now-needs (New r k) is = is
  now-needs (Kept r k j) is = is
  now-needs (Fresh x k) is = is

  pub now-to : (w : ℕ) → IsChangeAt s values w → IsBrokenBy s values Now w
  now-to w f = record {
    other = f.meaning;
    second_is = f.variable_is;
    is_other = f.holds.is_meaning;
    broken = inl (change-apart f.meaning f.change, f.holds.is_true);
  }

  pub now-from : (w : ℕ) → IsBrokenBy s values Now w → IsChangeAt s values w
  now-from w f = elim f.broken [
    | inl h ↦ record {
      meaning = f.other;
      variable_is = f.second_is;
      holds = record { is_meaning = f.is_other; is_true = h.1 };
      change = apart-change f.other h.0;
    }
    | inr h ↦ absurd (now-needs f.other h.0)
  ]

  -- numbered meanings that exclude one
  pub held-to : (m : Meaning) (numbered : ℕ → Meaning) (start : ℕ) → ((k : ℕ) → start ≤ k → AreApart s m (numbered k)) → (w : ℕ)
      → IsHeldFrom s values numbered start w → IsBrokenBy s values m w
  held-to m numbered start apart w f = record {
    other = numbered f.number;
    second_is = f.variable_is;
    is_other = f.holds.is_meaning;
    broken = inl (apart f.number f.from, f.holds.is_true);
  }

  abbrev IsOneFrom : (ℕ → Meaning) → ℕ → Meaning → Type 0
  IsOneFrom numbered start other = (k : ℕ) × (start ≤ k) × (other ≡ numbered k)

  pub held-from : (m : Meaning) (numbered : ℕ → Meaning) (start : ℕ) → ((other : Meaning) → ¬ Needs s m other)
      → ((other : Meaning) → AreApart s m other → IsOneFrom numbered start other) → (w : ℕ) → IsBrokenBy s values m w
      → IsHeldFrom s values numbered start w
  held-from m numbered start never one w f = elim f.broken [
    | inl h ↦
        let is = one f.other h.0 in
        record {
          number = is.0;
          from = is.1;
          variable_is = sym (ap (variable_of s) is.2) ∙ f.second_is;
          holds = subst (Holds s values) is.2 (record { is_meaning = f.is_other; is_true = h.1 });
        }
    | inr h ↦ absurd (never f.other h.0)
  ]

  -- one that is needed
  pub lacking-to : (m n : Meaning) → IsMeaning s n → Needs s m n → (w : ℕ) → IsLacking s values n w → IsBrokenBy s values m w
  lacking-to m n is needs w f = record { other = n; second_is = f.0; is_other = is; broken = inr (needs, f.1) }

  pub lacking-from : (m n : Meaning) → ((other : Meaning) → ¬ AreApart s m other) → ((other : Meaning) → Needs s m other → other ≡ n) → (w : ℕ)
      → IsBrokenBy s values m w → IsLacking s values n w
  lacking-from m n never one w f = elim f.broken [
    | inl h ↦ absurd (never f.other h.0)
    | inr h ↦ let is = one f.other h.0 in (sym (ap (variable_of s) is) ∙ f.second_is, sym (ap (holds_under s values) is) ∙ h.1)
  ]

  -- ---- a package as it is today

  pub present-needs : (r : ℕ) (m : Meaning) → ¬ Needs s (Present r) m
  present-needs r Now is = is
  present-needs r (Present q) is = is
  present-needs r (At c k) is = is
  present-needs r (New q k) is = is
  present-needs r (Kept q k j) is = is
  present-needs r (Fresh x k) is = is

  pub present-apart : (r : ℕ) (m : Meaning) → AreApart s (Present r) m → IsOneFrom (At (slice_index s.cluster_of r)) 0 m
  present-apart r Now is = absurd is
  present-apart r (Present q) is = absurd is
  present-apart r (At c k) is = (k, omega arith, ap (λ (d : ℕ). At d k) (sym is))
  present-apart r (New q k) is = absurd is
  present-apart r (Kept q k j) is = absurd is
  present-apart r (Fresh x k) is = absurd is

  -- ---- a class of a cluster, and of a new name

  pub at-needs : (c k : ℕ) (m : Meaning) → ¬ Needs s (At c k) m
  at-needs c k Now is = is
  at-needs c k (Present q) is = is
  at-needs c k (At d l) is = is
  at-needs c k (New q l) is = is
  at-needs c k (Kept q l j) is = is
  at-needs c k (Fresh x l) is = is

  pub at-apart : (c k : ℕ) (m : Meaning) → AreApart s (At c k) m → IsOneFrom (At c) (k + 1) m
  at-apart c k Now is = absurd is
  at-apart c k (Present q) is = absurd is
  at-apart c k (At d l) is = (l, omega (arith, is.1), ap (λ (e : ℕ). At e l) (sym is.0))
  at-apart c k (New q l) is = absurd is
  at-apart c k (Kept q l j) is = absurd is
  at-apart c k (Fresh x l) is = absurd is

  pub fresh-needs : (x k : ℕ) (m : Meaning) → ¬ Needs s (Fresh x k) m
  fresh-needs x k Now is = is
  fresh-needs x k (Present q) is = is
  fresh-needs x k (At d l) is = is
  fresh-needs x k (New q l) is = is
  fresh-needs x k (Kept q l j) is = is
  fresh-needs x k (Fresh y l) is = is

  pub fresh-apart : (x k : ℕ) (m : Meaning) → AreApart s (Fresh x k) m → IsOneFrom (Fresh x) (k + 1) m
  fresh-apart x k Now is = absurd is
  fresh-apart x k (Present q) is = absurd is
  fresh-apart x k (At d l) is = absurd is
  fresh-apart x k (New q l) is = absurd is
  fresh-apart x k (Kept q l j) is = absurd is
  fresh-apart x k (Fresh y l) is = (l, omega (arith, is.1), ap (λ (e : ℕ). Fresh e l) (sym is.0))

  -- ---- a new version, and an entry of it

  pub new-apart : (r k : ℕ) (m : Meaning) → ¬ AreApart s (New r k) m
  new-apart r k Now is = is
  new-apart r k (Present q) is = is
  new-apart r k (At d l) is = is
  new-apart r k (New q l) is = is
  new-apart r k (Kept q l j) is = is
  new-apart r k (Fresh y l) is = is

  pub new-needs : (r k : ℕ) (m : Meaning) → Needs s (New r k) m → m ≡ At (slice_index s.cluster_of r) k
  new-needs r k Now is = absurd is
  new-needs r k (Present q) is = absurd is
  new-needs r k (At d l) is = let a = is.0 in let b = is.1 in cc
  new-needs r k (New q l) is = absurd is
  new-needs r k (Kept q l j) is = absurd is
  new-needs r k (Fresh y l) is = absurd is

  pub kept-apart : (r k j : ℕ) (m : Meaning) → ¬ AreApart s (Kept r k j) m
  kept-apart r k j Now is = is
  kept-apart r k j (Present q) is = is
  kept-apart r k j (At d l) is = is
  kept-apart r k j (New q l) is = is
  kept-apart r k j (Kept q l i) is = is
  kept-apart r k j (Fresh y l) is = is

  pub kept-needs : (r k j : ℕ) (m : Meaning) → Needs s (Kept r k j) m → m ≡ New r k
  kept-needs r k j Now is = absurd is
  kept-needs r k j (Present q) is = absurd is
  kept-needs r k j (At d l) is = absurd is
  kept-needs r k j (New q l) is = let a = is.0 in let b = is.1 in cc
  kept-needs r k j (Kept q l i) is = absurd is
  kept-needs r k j (Fresh y l) is = absurd is
