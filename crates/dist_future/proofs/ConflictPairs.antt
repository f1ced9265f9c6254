-- The least two variables in conflict, by what each package rejects.
use Rattle.std.proofs.Common.{◌≡◌, ◌≢◌, ◌⊎◌, ℕ, ◌+◌, ◌<◌, ◌≤◌, Bool, List, Option, None, Some, length, refl, sym, ap, subst, ◌∙◌, inl, inr, arith, slice_get}
use Rattle.std.specs.Prelude.{Any, IsSomeAnd, MatchOption}
use Rattle.std.specs.Option.{option_map}
use Rattle.std.proofs.lemmas.Bool.{cases_lt}
use Rattle.std.proofs.lemmas.Option.{same_Some, slice_get_within}
use Rattle.dist_base.specs.Least.{IsAtMost, IsLeast, IsLeastPairIfAny, IsLesserPair}
use Rattle.dist_base.specs.ListLaws.{any-contained, any-more, at-has, contains-at, element-at, has-at, here-at, within-from}
use Rattle.dist_relation.specs.declared.atom.Atom.{Atom}
use Rattle.dist_repo.specs.Conflict.{AreInConflict}
use Rattle.dist_repo.specs.Match.{IsUsable, Matches}
use Rattle.dist_repo.specs.PackageList.{IsPackageAnd}
use Rattle.dist_repo.specs.declared.package.Package.{Package}
use Rattle.dist_future.specs.FutureHealth.{AreConflicting, Holds}
use Rattle.dist_future.specs.MatchingPrivate.{IsOther, IsRejectedFrom}
use Rattle.dist_space.specs.Space.{IsMatched, IsMeaning, IsMetBy, IsSpace, SpaceView, variable_of}
use Rattle.dist_space_clauses.specs.SpaceClauses.{Excludes}
use Rattle.dist_space.specs.declared.meaning.Meaning.{Meaning}
use Rattle.dist_space.specs.declared.meaning.Meaning.TheVariants.{Now, Present, At, New, Kept, Fresh}
use Rattle.dist_space.specs.VariableLaws.{one-meaning, variable-range}
use Rattle.dist_space.specs.ClusterLaws.{names-apart}
use Rattle.dist_future.proofs.VariableOrder.{key-less}

module _ (s : SpaceView) (values : List Bool) (space : IsSpace s) where
  abbrev apart-names : (m n : ℕ) (p q : Package) → slice_get s.repository.packages m ≡ Some p → slice_get s.repository.packages n ≡ Some q → p.name ≡ q.name
      → m ≡ n
  apart-names m n p q is_p is_q same = names-apart s.repository.packages m n p q space.frame.flat is_p is_q same

  -- ---- variables of packages as they are today

  present-less : (r q : ℕ) → IsMeaning s (Present r) → IsMeaning s (Present q) → variable_of s (Present r) < variable_of s (Present q) → r < q
  present-less r q is_r is_q less = elim (cases_lt r q) [
    | inl up ↦ up
    | inr past ↦ elim (cases_lt q r) [
      | inl down ↦ absurd (let back = key-less s (Present q) (Present r) space is_q is_r (inr (refl, inl down)) in omega (arith, less, back))
      | inr also ↦ let same : r ≡ q = omega (arith, past, also) in
          absurd (let equal = ap (λ (i : ℕ). variable_of s (Present i)) same in omega (arith, less, equal))
    ]
  ]

  less-present : (r q : ℕ) → IsMeaning s (Present r) → IsMeaning s (Present q) → r < q → variable_of s (Present r) < variable_of s (Present q)
  less-present r q is_r is_q up = key-less s (Present r) (Present q) space is_r is_q (inr (refl, inl up))

  -- ---- a name that a new version or a package of a new name has

  -- what no package of the repository has
  fresh-apart : (x r : ℕ) (name : List ℕ) (p : Package) → slice_get s.names x ≡ Some name → slice_get s.repository.packages r ≡ Some p → name ≢ p.name
  fresh-apart x r name p is is_p same =
      let new = (space.frame.names.exact name).0 (contains-at s.names x name is) in
      new.unprovided (any-contained (λ (q : Package). _) s.repository.packages p (contains-at s.repository.packages r p is_p) (inl (sym same)))

  named : (q : ℕ) (o : Package) (name : List ℕ) → slice_get s.repository.packages q ≡ Some o → o.name ≢ name
      → IsSomeAnd (option_map (λ (x : Package). x.name) (slice_get s.repository.packages q)) (λ n. n ≢ name)
  named q o name is apart =
      let Differs : Option Package → Type 0 = λ x. IsSomeAnd (option_map (λ (y : Package). y.name) x) (λ n. n ≢ name) in
      subst Differs (sym is) apart

  other-number : (q : ℕ) (o : Package) (name : List ℕ) → slice_get s.repository.packages q ≡ Some o
      → IsSomeAnd (option_map (λ (x : Package). x.name) (slice_get s.repository.packages q)) (λ n. n ≢ name) → o.name ≢ name
  other-number q o name is other =
      let Differs : Option Package → Type 0 = λ x. IsSomeAnd (option_map (λ (y : Package). y.name) x) (λ n. n ≢ name) in
      subst Differs is other

  never-met : (atoms : List Atom) → ¬ IsMetBy s atoms Now
  never-met atoms any = any.4.1

  never-at : (atoms : List Atom) (c k : ℕ) → ¬ IsMetBy s atoms (At c k)
  never-at atoms c k any = any.4.1

  kept-number : (q k j : ℕ) → IsMeaning s (Kept q k j) → q < length s.repository.packages
  kept-number q k j is = within-from (λ (x : Package). IsSomeAnd (slice_get x.provides j) (λ entry. IsUsable s.repository.architecture entry.qualifier))
      s.repository.packages q is.0

  -- ---- from what a package rejects to what is in conflict

  different : (r q : ℕ) (p o : Package) → r ≢ q → slice_get s.repository.packages r ≡ Some p → slice_get s.repository.packages q ≡ Some o → p.name ≢ o.name
  different r q p o apart is_p is_o same = apart (apart-names r q p o is_p is_o same)

  package-matched : (q : ℕ) (o : Package) (atoms : List Atom) → slice_get s.repository.packages q ≡ Some o → IsMetBy s atoms (Present q)
      → Any (λ a. Matches s.repository.architecture a o) atoms
  package-matched q o atoms is met =
      any-more (λ a. IsMatched s a (Present q)) (λ a. Matches s.repository.architecture a o)
      (λ a h. has-at (Matches s.repository.architecture a) s.repository.packages q o is h.1) atoms met

  matched-package : (q : ℕ) (o : Package) (atoms : List Atom) → slice_get s.repository.packages q ≡ Some o
      → Any (λ a. Matches s.repository.architecture a o) atoms → IsMetBy s atoms (Present q)
  matched-package q o atoms is any =
      any-more (λ a. Matches s.repository.architecture a o) (λ a. IsMatched s a (Present q))
      (λ a h. (h.usable, at-has (Matches s.repository.architecture a) s.repository.packages q o is h)) atoms any

  some-other : (r q : ℕ) → Some r ≢ Some q → r ≢ q
  some-other r q other same = other (ap (λ (i : ℕ). Some i) same)

  excludes : (r : ℕ) (p : Package) (m : Meaning) → slice_get s.repository.packages r ≡ Some p → IsMeaning s m → variable_of s (Present r) < variable_of s m
      → IsOther (Some r) m → IsMetBy s p.conflicts m → Excludes s r p m
  excludes r p Now is is_m less other met = absurd (never-met p.conflicts met)
  excludes r p (At c k) is is_m less other met = absurd (never-at p.conflicts c k met)
  excludes r p (Present q) is is_m less other met =
      let o = element-at s.repository.packages q is_m in
      let up = present-less r q (slice_get_within s.repository.packages r p is) is_m less in (
        up,
        at-has (AreInConflict s.repository.architecture p) s.repository.packages q o.element o.is
            (record {
              different = λ same. different r q p o.element (some-other r q other) is o.is same.0;
              matched = inl (package-matched q o.element p.conflicts o.is met);
            }),
      )
  excludes r p (New q k) is is_m less other met =
      let o = element-at s.repository.packages q is_m.0 in
      (named q o.element p.name o.is (λ same. different r q p o.element (some-other r q other) is o.is (sym same)), met)
  excludes r p (Kept q k j) is is_m less other met =
      let o = element-at s.repository.packages q (kept-number q k j is_m) in
      (named q o.element p.name o.is (λ same. different r q p o.element (some-other r q other) is o.is (sym same)), met)
  excludes r p (Fresh x k) is is_m less other met = (fresh-named (slice_get s.names x) refl, met)
    where
      fresh-named : (o : Option (List ℕ)) → slice_get s.names x ≡ o → IsSomeAnd (slice_get s.names x) (λ name. name ≢ p.name)
      fresh-named None none = absurd (let at = fresh-there in let no : None ≡ Some at.0 = sym none ∙ at.1 in cc)
        where
          fresh-there : (name : List ℕ) × (slice_get s.names x ≡ Some name)
          fresh-there = let atom = met.1 in let at = here-at (λ (name : List ℕ). _) s.names x met.4.1 in (at.element, at.is)
      fresh-named (Some name) there = at-has (λ (n : List ℕ). n ≢ p.name) s.names x name there (fresh-apart x r name p there is)

  pub conflicting-first : (a b : ℕ) → a < b → IsRejectedFrom s values a b → AreConflicting s values a b
  conflicting-first a b less f =
      let one = f.rejected in
      let first = f.first_is in
      let second = one.variable_is in
      record {
        number = f.number;
        other = one.meaning;
        first_is = first;
        second_is = second;
        installed = f.installed;
        holds = one.holds;
        excluded = at-has (λ (p : Package). Excludes s f.number p one.meaning) s.repository.packages f.number f.p f.is
            (excludes f.number f.p one.meaning f.is one.holds.is_meaning (omega (arith, less, first, second)) one.other one.matched);
      }

  -- what comes before a package as it is today is such a package
  present-first : (r : ℕ) (m : Meaning) → IsMeaning s (Present r) → IsMeaning s m → variable_of s m < variable_of s (Present r) → (atoms : List Atom)
      → IsMetBy s atoms m → (q : ℕ) × (m ≡ Present q)
  present-first r Now is is_m less atoms met = absurd (never-met atoms met)
  present-first r (Present q) is is_m less atoms met = (q, refl)
  present-first r (At c k) is is_m less atoms met = absurd (never-at atoms c k met)
  present-first r (New q k) is is_m less atoms met = absurd
      (let back = key-less s (Present r) (New q k) space is is_m (inl (omega arith)) in omega (arith, less, back))
  present-first r (Kept q k j) is is_m less atoms met = absurd
      (let back = key-less s (Present r) (Kept q k j) space is is_m (inl (omega arith)) in omega (arith, less, back))
  present-first r (Fresh x k) is is_m less atoms met = absurd
      (let back = key-less s (Present r) (Fresh x k) space is is_m (inl (omega arith)) in omega (arith, less, back))

  second-excluded : (r q : ℕ) (p : Package) → slice_get s.repository.packages r ≡ Some p → IsMeaning s (Present q)
      → variable_of s (Present q) < variable_of s (Present r) → IsMetBy s p.conflicts (Present q)
      → IsPackageAnd s.repository.packages q (λ o. Excludes s q o (Present r))
  second-excluded r q p is is_q less met =
      let o = element-at s.repository.packages q is_q in
      let up = present-less q r is_q (slice_get_within s.repository.packages r p is) less in
      at-has (λ (x : Package). Excludes s q x (Present r)) s.repository.packages q o.element o.is (
        up,
        at-has (AreInConflict s.repository.architecture o.element) s.repository.packages r p is (record {
          different = λ same. different q r o.element p (λ equal. omega (arith, up, equal)) o.is is same.0;
          matched = inr (package-matched q o.element p.conflicts o.is met);
        }),
      )

  pub conflicting-second : (a b : ℕ) → a < b → IsRejectedFrom s values b a → AreConflicting s values a b
  conflicting-second a b less f =
      let one = f.rejected in
      let first = f.first_is in
      let second = one.variable_is in
      let is_r = f.installed.is_meaning in
      let before = present-first f.number one.meaning is_r one.holds.is_meaning (omega (arith, less, first, second)) f.p.conflicts one.matched in
      let at : variable_of s (Present before.0) ≡ a = ap (variable_of s) (sym before.1) ∙ second in
      record {
        number = before.0;
        other = Present f.number;
        first_is = at;
        second_is = first;
        installed = subst (Holds s values) before.1 one.holds;
        holds = f.installed;
        excluded = second-excluded f.number before.0 f.p f.is (subst (IsMeaning s) before.1 one.holds.is_meaning) (omega (arith, less, first, at))
            (subst (IsMetBy s f.p.conflicts) before.1 one.matched);
      }

  -- ---- and back

  not-some : (r q : ℕ) → r ≢ q → Some r ≢ Some q
  not-some r q apart same = apart (same_Some r q same)

  rejecting : (r v w : ℕ) (p : Package) (m : Meaning) → slice_get s.repository.packages r ≡ Some p → variable_of s (Present r) ≡ v → variable_of s m ≡ w
      → Holds s values (Present r) → Holds s values m → IsOther (Some r) m → IsMetBy s p.conflicts m
      → IsRejectedFrom s values v w
  rejecting r v w p m is first second installed holds other met =
      record {
        number = r;
        p = p;
        is = is;
        first_is = first;
        installed = installed;
        rejected = record { meaning = m; variable_is = second; holds = holds; other = other; matched = met };
      }

  differs : (r q : ℕ) (p : Package) → slice_get s.repository.packages r ≡ Some p
      → IsSomeAnd (option_map (λ (x : Package). x.name) (slice_get s.repository.packages q)) (λ n. n ≢ p.name) → q < length s.repository.packages → r ≢ q
  differs r q p is other short same =
      let o = element-at s.repository.packages q short in
      let one : p ≡ o.element = same_Some p o.element (sym is ∙ ap (slice_get s.repository.packages) same ∙ o.is) in
      other-number q o.element p.name o.is other (ap (λ (x : Package). x.name) (sym one))

  one-rejects : (r v w : ℕ) (p : Package) (m : Meaning) → slice_get s.repository.packages r ≡ Some p → variable_of s (Present r) ≡ v → variable_of s m ≡ w
      → Holds s values (Present r) → Holds s values m → Excludes s r p m
      → IsRejectedFrom s values v w ⊎ IsRejectedFrom s values w v
  one-rejects r v w p Now is first second installed holds excluded = absurd excluded.0
  one-rejects r v w p (At c k) is first second installed holds excluded = absurd excluded.0
  one-rejects r v w p (Fresh x k) is first second installed holds excluded = inl (rejecting r v w p (Fresh x k) is first second installed holds tt excluded.1)
  one-rejects r v w p (New q k) is first second installed holds excluded =
      inl (rejecting r v w p (New q k) is first second installed holds (not-some r q (differs r q p is excluded.0 holds.is_meaning.0)) excluded.1)
  one-rejects r v w p (Kept q k j) is first second installed holds excluded =
      inl (rejecting r v w p (Kept q k j) is first second installed holds (not-some r q (differs r q p is excluded.0 (kept-number q k j holds.is_meaning)))
      excluded.1)
  one-rejects r v w p (Present q) is first second installed holds excluded =
      let o = here-at (AreInConflict s.repository.architecture p) s.repository.packages q excluded.1 in
      let up = excluded.0 in
      elim o.holds.matched [
        | inl any ↦ inl (rejecting r v w p (Present q) is first second installed holds (not-some r q (λ same. omega (arith, up, same)))
            (matched-package q o.element p.conflicts o.is any))
        | inr any ↦ inr (rejecting q w v o.element (Present r) o.is second first holds installed (not-some q r (λ same. omega (arith, up, same)))
            (matched-package r p o.element.conflicts is any))
      ]

  rejects-one : (a b : ℕ) → AreConflicting s values a b → IsRejectedFrom s values a b ⊎ IsRejectedFrom s values b a
  rejects-one a b both =
      let p = here-at (λ (q : Package). Excludes s both.number q both.other) s.repository.packages both.number both.excluded in
      one-rejects both.number a b p.element both.other p.is both.first_is both.second_is both.installed both.holds p.holds

  -- the first of two in conflict has the lesser variable
  excluded-less : (r : ℕ) (p : Package) (m : Meaning) → IsMeaning s (Present r) → IsMeaning s m → Excludes s r p m → variable_of s (Present r) < variable_of s m
  excluded-less r p Now is is_m excluded = absurd excluded.0
  excluded-less r p (At c k) is is_m excluded = absurd excluded.0
  excluded-less r p (Present q) is is_m excluded = less-present r q is is_m excluded.0
  excluded-less r p (New q k) is is_m excluded = key-less s (Present r) (New q k) space is is_m (inl (omega arith))
  excluded-less r p (Kept q k j) is is_m excluded = key-less s (Present r) (Kept q k j) space is is_m (inl (omega arith))
  excluded-less r p (Fresh x k) is is_m excluded = key-less s (Present r) (Fresh x k) space is is_m (inl (omega arith))

  in-order : (a b : ℕ) → AreConflicting s values a b → a < b
  in-order a b both =
      let p = here-at (λ (q : Package). Excludes s both.number q both.other) s.repository.packages both.number both.excluded in
      let less = excluded-less both.number p.element both.other both.installed.is_meaning both.holds.is_meaning p.holds in
      let first = both.first_is in
      let second = both.second_is in omega (arith, less, first, second)

-- ---- the variables gone through so far

-- two variables, one of which was gone through and rejects the other
pub record IsSeen (s : SpaceView) (values : List Bool) (number n k : ℕ) : Type 0 where
  pub before : n < k
  pub one : ((n < number) × IsRejectedFrom s values n k) ⊎ ((k < number) × IsRejectedFrom s values k n)

pub record IsLeastSeen (s : SpaceView) (values : List Bool) (number : ℕ) (pair : ℕ × ℕ) : Type 0 where
  pub holds : AreConflicting s values pair.0 pair.1
  pub least : (n k : ℕ) → IsSeen s values number n k → IsAtMost pair.0 pair.1 n k

abbrev pub IsLeastSeenIfAny : SpaceView → List Bool → ℕ → Option (ℕ × ℕ) → Type 0
IsLeastSeenIfAny s values number found = MatchOption found ((n k : ℕ) → ¬ IsSeen s values number n k) (IsLeastSeen s values number)

at_most-trans : (a b c d e f : ℕ) → IsAtMost a b c d → IsAtMost c d e f → IsAtMost a b e f
at_most-trans a b c d e f (inl less) (inl less') = inl (omega (arith, less, less'))
at_most-trans a b c d e f (inl less) (inr both) = inl (omega (arith, less, both.0))
at_most-trans a b c d e f (inr both) (inl less) = inl (omega (arith, both.0, less))
at_most-trans a b c d e f (inr both) (inr both') = inr (both.0 ∙ both'.0, omega (arith, both.1, both'.1))

module _ (s : SpaceView) (values : List Bool) (number : ℕ) where
  abbrev Rejects : ℕ → ℕ → Type 0
  Rejects n k = IsRejectedFrom s values n k

  -- what one more variable adds
  record IsNew (n k : ℕ) : Type 0 where
    before : n < k
    one : ((n ≡ number) × IsRejectedFrom s values number k) ⊎ ((k ≡ number) × IsRejectedFrom s values number n)

  seen-split : (n k : ℕ) → IsSeen s values (number + 1) n k → IsSeen s values number n k ⊎ IsNew n k
  seen-split n k seen = elim seen.one [
    | inl h ↦ elim (cases_lt n number) [
      | inl less ↦ inl (record { before = seen.before; one = inl (less, h.1) })
      | inr past ↦ let short = h.0 in let same : n ≡ number = omega (arith, short, past) in
          let Of : ℕ → Type 0 = λ m. Rejects m k in inr (record { before = seen.before; one = inl (same, subst Of same h.1) })
    ]
    | inr h ↦ elim (cases_lt k number) [
      | inl less ↦ inl (record { before = seen.before; one = inr (less, h.1) })
      | inr past ↦ let short = h.0 in let same : k ≡ number = omega (arith, short, past) in
          let Of : ℕ → Type 0 = λ m. Rejects m n in inr (record { before = seen.before; one = inr (same, subst Of same h.1) })
    ]
  ]

  new-none : (n k : ℕ) → ((m : ℕ) → ¬ Rejects number m) → ¬ IsNew n k
  new-none n k none new = elim new.one [
    | inl h ↦ none k h.1
    | inr h ↦ none n h.1
  ]

  pub seen-none : (least : Option (ℕ × ℕ)) → IsLeastSeenIfAny s values number least → ((m : ℕ) → ¬ IsRejectedFrom s values number m)
      → IsLeastSeenIfAny s values (number + 1) least
  seen-none None none here = λ n k seen. elim (seen-split n k seen) [
    | inl h ↦ none n k h
    | inr h ↦ new-none n k here h
  ]
  seen-none (Some pair) least here = record {
    holds = least.holds;
    least = λ n k seen. elim (seen-split n k seen) [
      | inl h ↦ least.least n k h
      | inr h ↦ absurd (new-none n k here h)
    ];
  }

  -- the two numbers in order
  abbrev pub IsOrdered : (other first second : ℕ) → Type 0
  IsOrdered other first second = ((number < other) × (first ≡ number) × (second ≡ other)) ⊎ ((other < number) × (first ≡ other) × (second ≡ number))

  new-least : (other first second n k : ℕ) → IsOrdered other first second → ((m : ℕ) → Rejects number m → other ≤ m) → IsNew n k → IsAtMost first second n k
  new-least other first second n k ordered above new =
      let before = new.before in
      elim ordered [
        | inl o ↦ let less = o.0 in let f = o.1 in let t = o.2 in elim new.one [
          | inl h ↦ let same = h.0 in let most = above k h.1 in inr (f ∙ sym same, omega (arith, t, most))
          | inr h ↦ let same = h.0 in let most = above n h.1 in absurd (omega (arith, less, same, most, before))
        ]
        | inr o ↦ let less = o.0 in let f = o.1 in let t = o.2 in elim new.one [
          | inl h ↦ let same = h.0 in inl (omega (arith, less, f, same))
          | inr h ↦ let same = h.0 in let most = above n h.1 in elim (cases_lt first n) [
            | inl g ↦ inl g
            | inr g ↦ inr (omega (arith, g, f, most), omega (arith, t, same))
          ]
        ]
      ]

  of-both : (first second : ℕ) (pair : ℕ × ℕ) → AreConflicting s values first second → (pair.0 ≡ first) × (pair.1 ≡ second)
      → AreConflicting s values pair.0 pair.1
  of-both first second pair holds both =
      let First : ℕ → Type 0 = λ a. AreConflicting s values a pair.1 in
      let Second : ℕ → Type 0 = λ b. AreConflicting s values first b in
      subst First (sym both.0) (subst Second (sym both.1) holds)

  pub seen-some : (other first second : ℕ) (least : Option (ℕ × ℕ)) (pair : ℕ × ℕ) → IsLeastSeenIfAny s values number least
      → IsLeast (IsRejectedFrom s values number) other → IsOrdered other first second → AreConflicting s values first second
      → IsLesserPair least first second pair → IsLeastSeen s values (number + 1) pair
  seen-some other first second None pair none row ordered holds lesser = record {
    holds = elim lesser.one [
      | inl h ↦ cc
      | inr h ↦ of-both first second pair holds h
    ];
    least = λ n k seen. elim (seen-split n k seen) [
      | inl h ↦ absurd (none n k h)
      | inr h ↦ at_most-trans pair.0 pair.1 first second n k lesser.at_most_other (new-least other first second n k ordered row.least h)
    ];
  }
  seen-some other first second (Some old) pair least row ordered holds lesser = record {
    holds = let Of : ℕ × ℕ → Type 0 = λ x. AreConflicting s values x.0 x.1 in elim lesser.one [
      | inl h ↦ let same : old ≡ pair = cc in subst Of same least.holds
      | inr h ↦ of-both first second pair holds h
    ];
    least = λ n k seen. elim (seen-split n k seen) [
      | inl h ↦ at_most-trans pair.0 pair.1 old.0 old.1 n k (lesser.at_most_least old.0 old.1 refl) (least.least n k h)
      | inr h ↦ at_most-trans pair.0 pair.1 first second n k lesser.at_most_other (new-least other first second n k ordered row.least h)
    ];
  }

-- all variables were gone through
all-seen : (s : SpaceView) (values : List Bool) → IsSpace s → (count n k : ℕ) → length s.meanings < count → AreConflicting s values n k
    → IsSeen s values count n k
all-seen s values space count n k past both = record {
  before = in-order s values space n k both;
  one = elim (rejects-one s values space n k both) [
    | inl h ↦ inl (let range = variable-range s (Present h.number) space h.installed.is_meaning in let at = h.first_is in omega (arith, past, range.1, at), h)
    | inr h ↦ inr (let range = variable-range s (Present h.number) space h.installed.is_meaning in let at = h.first_is in omega (arith, past, range.1, at), h)
  ];
}

pub least-conflict : (s : SpaceView) (values : List Bool) → IsSpace s → (count : ℕ) (found : Option (ℕ × ℕ)) → length s.meanings < count
    → IsLeastSeenIfAny s values count found → IsLeastPairIfAny (AreConflicting s values) found
least-conflict s values space count None past none = λ n k both. none n k (all-seen s values space count n k past both)
least-conflict s values space count (Some pair) past least =
    record { holds = least.holds; least = λ n k both. least.least n k (all-seen s values space count n k past both) }

pub below-from : (number other : ℕ) → other ≤ number → other ≢ number → other < number
below-from number other most apart = elim (cases_lt other number) [
  | inl h ↦ h
  | inr h ↦ let same : other ≡ number = omega (arith, most, h) in absurd (apart same)
]

-- a package doesn't reject itself
pub never-itself : (s : SpaceView) (values : List Bool) → IsSpace s → (v : ℕ) → ¬ IsRejectedFrom s values v v
never-itself s values space v f =
    let one = f.rejected in
    let same : one.meaning ≡ Present f.number = one-meaning s one.meaning (Present f.number) space one.holds.is_meaning f.installed.is_meaning
    (one.variable_is ∙ sym f.first_is) in
    (subst (IsOther (Some f.number)) same one.other) refl
