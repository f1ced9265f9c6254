-- The least two members in conflict, by what each member rejects.
use Rattle.std.proofs.Common.{◌≡◌, ◌≢◌, ◌⊎◌, ℕ, ◌+◌, ◌<◌, ◌≤◌, Bool, true, List, length, get_or, Some, None, Option, Less, Equal, refl, sym, ap, ◌∙◌, subst}
use Rattle.std.proofs.Common.{arith, inl, inr, slice_get}
use Rattle.std.specs.Prelude.{Any, MatchOption}
use Rattle.std.specs.Cmp.Lexicographic.{slice_cmp}
use Rattle.std.specs.Ordering.{nat_cmp, ordering_then}
use Rattle.std.proofs.lemmas.Bool.{cases_lt}
use Rattle.std.proofs.lemmas.Cmp.{nat_list_cmp_total, tied_itself}
use Rattle.std.proofs.lemmas.Option.{slice_get-get_or, get_or_from_slice_get, slice_get_within}
use Rattle.dist_base.specs.Least.{IsAtMost, IsLeast, IsLeastPairIfAny, IsLesserPair}
use Rattle.dist_base.specs.ListLaws.{any-at, at-has, element-is, has-at, some-element}
use Rattle.dist_version.specs.Order.{version_cmp}
use Rattle.dist_relation.specs.declared.atom.Atom.{Atom}
use Rattle.dist_repo.specs.Conflict.{AreInConflict}
use Rattle.dist_repo.specs.Match.{Matches}
use Rattle.dist_repo.specs.Order.{package_cmp, IsInOrder, IsSamePackage}
use Rattle.dist_repo.specs.PackageList.{PackageList, IsPackageAnd}
use Rattle.dist_repo.specs.declared.package.Package.{Package}
use Rattle.dist_now.specs.Health.{AreConflicting}
use Rattle.dist_now.specs.RejectedPrivate.{IsRejected}

-- ---- conflicts

-- packages at two places are different
pub never-same : (packages : List Package) (a b : ℕ) (p q : Package) → IsInOrder packages → a < b → slice_get packages a ≡ Some p
    → slice_get packages b ≡ Some q → ¬ IsSamePackage p q
never-same packages a b p q ordered before is_p is_q same =
    let first : get_or packages a p ≡ p = get_or_from_slice_get packages a p p is_p in
    let second : get_or packages b p ≡ q = get_or_from_slice_get packages b q p is_q in
    let less : package_cmp (get_or packages a p) (get_or packages b p) ≡ Less = ordered a b p before (slice_get_within packages b q is_q) in
    let less' : package_cmp p q ≡ Less = sym (ap (λ (x : Package). package_cmp x (get_or packages b p)) first ∙ ap (λ (x : Package). package_cmp p x) second)
    ∙ less in
    let names : slice_cmp nat_cmp p.name q.name ≡ Equal = ap (slice_cmp nat_cmp p.name) (sym same.0) ∙ tied_itself nat_list_cmp_total p.name in
    let tied : package_cmp p q ≡ Equal = ap (λ o. ordering_then o (version_cmp p.version q.version)) names ∙ same.1 in
    cc

conflicting : (r : PackageList) (flags : List Bool) (a b : ℕ) (p q : Package) → IsInOrder r.packages → a < b → slice_get r.packages a ≡ Some p
    → slice_get r.packages b ≡ Some q
    → slice_get flags a ≡ Some true → slice_get flags b ≡ Some true
    → Any (λ (atom : Atom). Matches r.architecture atom q) p.conflicts ⊎ Any (λ (atom : Atom). Matches r.architecture atom p) q.conflicts
    → AreConflicting r flags a b
conflicting r flags a b p q ordered before is_p is_q member_a member_b matched =
    let conflict : AreInConflict r.architecture p q = record { different = never-same r.packages a b p q ordered before is_p is_q; matched = matched } in
    let Second : Package → Type 0 = λ x. IsPackageAnd r.packages b (AreInConflict r.architecture x) in
    record {
      in_order = before;
      second_member = member_b;
      related = record { member = member_a; has = at-has Second r.packages a p is_p (at-has (AreInConflict r.architecture p) r.packages b q is_q conflict) };
    }

pub conflicting-first : (r : PackageList) (flags : List Bool) (a b : ℕ) → IsInOrder r.packages → a < b → IsRejected r flags a b → AreConflicting r flags a b
conflicting-first r flags a b ordered before rejects =
    let Of : Package → Type 0 = Matches r.architecture rejects.atom in
    let q = some-element Of r.packages b rejects.rejected.1.has in
    let is_q = element-is Of r.packages b rejects.rejected.1.has in
    conflicting r flags a b rejects.p q ordered before rejects.is is_q rejects.member rejects.rejected.1.member
    (inl (any-at (λ (atom : Atom). Matches r.architecture atom q) rejects.p.conflicts rejects.place rejects.atom rejects.is_atom
    (has-at Of r.packages b q is_q rejects.rejected.1.has)))

pub conflicting-second : (r : PackageList) (flags : List Bool) (a b : ℕ) → IsInOrder r.packages → a < b → IsRejected r flags b a → AreConflicting r flags a b
conflicting-second r flags a b ordered before rejects =
    let Of : Package → Type 0 = Matches r.architecture rejects.atom in
    let p = some-element Of r.packages a rejects.rejected.1.has in
    let is_p = element-is Of r.packages a rejects.rejected.1.has in
    conflicting r flags a b p rejects.p ordered before is_p rejects.is rejects.rejected.1.member rejects.member
    (inr (any-at (λ (atom : Atom). Matches r.architecture atom p) rejects.p.conflicts rejects.place rejects.atom rejects.is_atom
    (has-at Of r.packages a p is_p rejects.rejected.1.has)))

rejects-from : (r : PackageList) (flags : List Bool) (a b : ℕ) (p q : Package) → b ≢ a → slice_get r.packages a ≡ Some p → slice_get r.packages b ≡ Some q
    → slice_get flags a ≡ Some true → slice_get flags b ≡ Some true
    → Any (λ (atom : Atom). Matches r.architecture atom q) p.conflicts → IsRejected r flags a b
rejects-from r flags a b p q apart is_p is_q member_a member_b any = record {
  p = p;
  is = is_p;
  member = member_a;
  atom = any.1;
  place = any.0;
  is_atom = slice_get-get_or p.conflicts any.0 any.1 any.2 ∙ ap (λ (x : Atom). Some x) any.3;
  rejected = (apart, record { member = member_b; has = at-has (Matches r.architecture any.1) r.packages b q is_q any.4 });
}

rejects-one : (r : PackageList) (flags : List Bool) (a b : ℕ) → AreConflicting r flags a b → IsRejected r flags a b ⊎ IsRejected r flags b a
rejects-one r flags a b both =
    let Second : Package → Type 0 = λ x. IsPackageAnd r.packages b (AreInConflict r.architecture x) in
    let p = some-element Second r.packages a both.related.has in
    let is_p = element-is Second r.packages a both.related.has in
    let inner : IsPackageAnd r.packages b (AreInConflict r.architecture p) = has-at Second r.packages a p is_p both.related.has in
    let q = some-element (AreInConflict r.architecture p) r.packages b inner in
    let is_q = element-is (AreInConflict r.architecture p) r.packages b inner in
    let conflict : AreInConflict r.architecture p q = has-at (AreInConflict r.architecture p) r.packages b q is_q inner in
    let before = both.in_order in
    elim conflict.matched [
      | inl any ↦ inl (rejects-from r flags a b p q (λ same. omega (arith, before, same)) is_p is_q both.related.member both.second_member any)
      | inr any ↦ inr (rejects-from r flags b a q p (λ same. omega (arith, before, same)) is_q is_p both.second_member both.related.member any)
    ]

-- ---- the members gone through so far

-- two members, one of which was gone through and rejects the other
pub record IsSeen (r : PackageList) (flags : List Bool) (number n k : ℕ) : Type 0 where
  pub before : n < k
  pub one : ((n < number) × IsRejected r flags n k) ⊎ ((k < number) × IsRejected r flags k n)

pub record IsLeastSeen (r : PackageList) (flags : List Bool) (number : ℕ) (pair : ℕ × ℕ) : Type 0 where
  pub holds : AreConflicting r flags pair.0 pair.1
  pub least : (n k : ℕ) → IsSeen r flags number n k → IsAtMost pair.0 pair.1 n k

abbrev pub IsLeastSeenIfAny : PackageList → List Bool → ℕ → Option (ℕ × ℕ) → Type 0
IsLeastSeenIfAny r flags number found = MatchOption found ((n k : ℕ) → ¬ IsSeen r flags number n k) (IsLeastSeen r flags number)

at_most-trans : (a b c d e f : ℕ) → IsAtMost a b c d → IsAtMost c d e f → IsAtMost a b e f
at_most-trans a b c d e f (inl less) (inl less') = inl (omega (arith, less, less'))
at_most-trans a b c d e f (inl less) (inr both) = inl (omega (arith, less, both.0))
at_most-trans a b c d e f (inr both) (inl less) = inl (omega (arith, both.0, less))
at_most-trans a b c d e f (inr both) (inr both') = inr (both.0 ∙ both'.0, omega (arith, both.1, both'.1))

-- what one more member adds
record IsNew (r : PackageList) (flags : List Bool) (number n k : ℕ) : Type 0 where
  before : n < k
  one : ((n ≡ number) × IsRejected r flags number k) ⊎ ((k ≡ number) × IsRejected r flags number n)

seen-split : (r : PackageList) (flags : List Bool) (number n k : ℕ) → IsSeen r flags (number + 1) n k → IsSeen r flags number n k ⊎ IsNew r flags number n k
seen-split r flags number n k seen = elim seen.one [
  | inl h ↦ elim (cases_lt n number) [
    | inl less ↦ inl (record { before = seen.before; one = inl (less, h.1) })
    | inr past ↦ let short = h.0 in let same : n ≡ number = omega (arith, short) in
        let Of : ℕ → Type 0 = λ m. IsRejected r flags m k in inr (record { before = seen.before; one = inl (same, subst Of same h.1) })
  ]
  | inr h ↦ elim (cases_lt k number) [
    | inl less ↦ inl (record { before = seen.before; one = inr (less, h.1) })
    | inr past ↦ let short = h.0 in let same : k ≡ number = omega (arith, short) in
        let Of : ℕ → Type 0 = λ m. IsRejected r flags m n in inr (record { before = seen.before; one = inr (same, subst Of same h.1) })
  ]
]

new-none : (r : PackageList) (flags : List Bool) (number n k : ℕ) → ((m : ℕ) → ¬ IsRejected r flags number m) → ¬ IsNew r flags number n k
new-none r flags number n k none new = elim new.one [
  | inl h ↦ none k h.1
  | inr h ↦ none n h.1
]

pub seen-none : (r : PackageList) (flags : List Bool) (number : ℕ) (least : Option (ℕ × ℕ)) → IsLeastSeenIfAny r flags number least
    → ((m : ℕ) → ¬ IsRejected r flags number m) → IsLeastSeenIfAny r flags (number + 1) least
seen-none r flags number None none here = λ n k seen. elim (seen-split r flags number n k seen) [
  | inl h ↦ none n k h
  | inr h ↦ new-none r flags number n k here h
]
seen-none r flags number (Some pair) least here = record {
  holds = least.holds;
  least = λ n k seen. elim (seen-split r flags number n k seen) [
    | inl h ↦ least.least n k h
    | inr h ↦ absurd (new-none r flags number n k here h)
  ];
}

-- the two numbers in order
abbrev pub IsOrdered : (number other first second : ℕ) → Type 0
IsOrdered number other first second = ((number < other) × (first ≡ number) × (second ≡ other)) ⊎ ((other < number) × (first ≡ other) × (second ≡ number))

new-least : (r : PackageList) (flags : List Bool) (number other first second n k : ℕ) → IsOrdered number other first second
    → ((m : ℕ) → IsRejected r flags number m → other ≤ m) → IsNew r flags number n k → IsAtMost first second n k
new-least r flags number other first second n k ordered above new =
    let before = new.before in
    elim ordered [
      | inl o ↦ let less = o.0 in let f = o.1 in let s = o.2 in elim new.one [
        | inl h ↦ let same = h.0 in let most = above k h.1 in inr (f ∙ sym same, omega (arith, s, most))
        | inr h ↦ let same = h.0 in let most = above n h.1 in absurd (omega (arith, less, same, most, before))
      ]
      | inr o ↦ let less = o.0 in let f = o.1 in let s = o.2 in elim new.one [
        | inl h ↦ let same = h.0 in inl (omega (arith, less, f, same))
        | inr h ↦ let same = h.0 in let most = above n h.1 in elim (cases_lt first n) [
          | inl g ↦ inl g
          | inr g ↦ inr (omega (arith, g, f, most), omega (arith, s, same))
        ]
      ]
    ]

of-both : (r : PackageList) (flags : List Bool) (first second : ℕ) (pair : ℕ × ℕ) → AreConflicting r flags first second → (pair.0 ≡ first) × (pair.1 ≡ second)
    → AreConflicting r flags pair.0 pair.1
of-both r flags first second pair holds both =
    let First : ℕ → Type 0 = λ a. AreConflicting r flags a pair.1 in
    let Second : ℕ → Type 0 = λ b. AreConflicting r flags first b in
    subst First (sym both.0) (subst Second (sym both.1) holds)

pub seen-some : (r : PackageList) (flags : List Bool) (number other first second : ℕ) (least : Option (ℕ × ℕ)) (pair : ℕ × ℕ)
    → IsLeastSeenIfAny r flags number least → IsLeast (IsRejected r flags number) other
    → IsOrdered number other first second → AreConflicting r flags first second → IsLesserPair least first second pair → IsLeastSeen r flags (number + 1) pair
seen-some r flags number other first second None pair none row ordered holds lesser = record {
  holds = elim lesser.one [
    | inl h ↦ cc
    | inr h ↦ of-both r flags first second pair holds h
  ];
  least = λ n k seen. elim (seen-split r flags number n k seen) [
    | inl h ↦ absurd (none n k h)
    | inr h ↦ at_most-trans pair.0 pair.1 first second n k lesser.at_most_other (new-least r flags number other first second n k ordered row.least h)
  ];
}
seen-some r flags number other first second (Some old) pair least row ordered holds lesser = record {
  holds = let Of : ℕ × ℕ → Type 0 = λ x. AreConflicting r flags x.0 x.1 in elim lesser.one [
    | inl h ↦ let same : old ≡ pair = cc in subst Of same least.holds
    | inr h ↦ of-both r flags first second pair holds h
  ];
  least = λ n k seen. elim (seen-split r flags number n k seen) [
    | inl h ↦ at_most-trans pair.0 pair.1 old.0 old.1 n k (lesser.at_most_least old.0 old.1 refl) (least.least n k h)
    | inr h ↦ at_most-trans pair.0 pair.1 first second n k lesser.at_most_other (new-least r flags number other first second n k ordered row.least h)
  ];
}

-- all members were gone through
all-seen : (r : PackageList) (flags : List Bool) (count n k : ℕ) → length r.packages ≤ count → AreConflicting r flags n k → IsSeen r flags count n k
all-seen r flags count n k past both =
    let before = both.in_order in
    record {
      before = before;
      one = elim (rejects-one r flags n k both) [
        | inl h ↦ inl (omega (arith, past, slice_get_within r.packages n h.p h.is), h)
        | inr h ↦ inr (omega (arith, past, slice_get_within r.packages k h.p h.is), h)
      ];
    }

pub least-conflict : (r : PackageList) (flags : List Bool) (count : ℕ) (found : Option (ℕ × ℕ)) → length r.packages ≤ count
    → IsLeastSeenIfAny r flags count found → IsLeastPairIfAny (AreConflicting r flags) found
least-conflict r flags count None past none = λ n k both. none n k (all-seen r flags count n k past both)
least-conflict r flags count (Some pair) past least = record { holds = least.holds; least = λ n k both. least.least n k (all-seen r flags count n k past both) }

pub below-from : (number other : ℕ) → other ≤ number → other ≢ number → other < number
below-from number other most apart = elim (cases_lt other number) [
  | inl h ↦ h
  | inr h ↦ let same : other ≡ number = omega (arith, most, h) in absurd (apart same)
]
