-- A worked example: a depends on b, and b conflicts with a. Its two relations explain a together, and the first is
-- needed.
use Rattle.std.specs.Prelude.{◌≡◌, ◌≢◌, ◌⊎◌, ◌<◌, ℕ, zero, suc, List, [], ◌∷◌, Contains, codes, slice_index_or, refl}
use Rattle.std.proofs.Common.{ap, arith, inl, inr, lit<, sym, subst}
use Rattle.std.proofs.lemmas.List.Elements.{All-contains, All-cons, All-nil}
use Rattle.dist_base.specs.ListLaws.{any-head, any-later, any-there}
use Rattle.dist_relation.specs.declared.atom.Atom.{Atom}
use Rattle.dist_repo.specs.DecidedLaws.{met-decided}
use Rattle.dist_repo.specs.Healthy.{IsMet}
use Rattle.dist_repo.specs.Match.{Matches}
use Rattle.dist_repo.specs.declared.package.Package.{Package}
use Rattle.dist_now.specs.PresentClauses.{Apart, Demand, Item}
use Rattle.dist_now.specs.PresentExamples.{any_version, different, needing, rejecting, two}
use Rattle.dist_now.specs.Relations.{AreOf, Fails}
use Rattle.dist_explain.specs.Explanation.{Explain, FailsNumber, IsNeeded}

-- what a depends on, and that a and b are apart
abbrev pub relations : List Demand
relations = Item 0 0 ∷ Apart 0 1 ∷ []

one-of-two : (p : Package) → Contains two.packages p → (needing ≡ p) ⊎ (rejecting ≡ p)
one-of-two p (zero, short, is) = inl is
one-of-two p (suc zero, short, is) = inr is
one-of-two p (suc (suc k), short, is) = absurd (omega (arith, short))

-- a package that meets the item of a is b
meets-is-b : (p : Package) → Contains two.packages p → Matches two.architecture (any_version (codes "b")) p
    → rejecting ≡ p
meets-is-b p there matches = elim (one-of-two p there) [
  | inr is ↦ is
  | inl is ↦
      let own : Matches two.architecture (any_version (codes "b")) needing =
      subst (Matches two.architecture (any_version (codes "b"))) (sym is) matches in
      elim own.matched [
        | inl by_name ↦ absurd (different by_name.name)
        | inr any ↦ absurd (omega (arith, any.2))
      ]
]

met-has-b : (members : List Package) → AreOf two members → IsMet two.architecture members (any_version (codes "b") ∷ [])
    → Contains members rejecting
met-has-b members of (zero, atom, short, is, any) =
    let there = any-there (Matches two.architecture atom) members any in
    let matches : Matches two.architecture (any_version (codes "b")) any.1 =
    subst (λ (x : Atom). Matches two.architecture x any.1) (sym is) any.4 in
    let of_two = All-contains (Contains two.packages) members any.1 of there in
    subst (Contains members) (sym (meets-is-b any.1 of_two matches)) there
met-has-b members of (suc k, atom, short, is, any) = absurd (omega (arith, short))

-- Whoever has a lacks b, or has both.
both_explain_a : Explain two relations needing (1 ∷ 2 ∷ [])
both_explain_a members of has = elim (met-decided two.architecture members (any_version (codes "b") ∷ [])) [
  | inr unmet ↦ any-head (FailsNumber two relations members) 1 (2 ∷ []) (Item 0 0, (0, refl, refl), (has, unmet))
  | inl met ↦ any-later (FailsNumber two relations members) 1 (2 ∷ [])
      (any-head (FailsNumber two relations members) 2 [] (Apart 0 1, (1, refl, refl), (has, met-has-b members of met)))
]

a-is-not-b : needing ≢ rejecting
a-is-not-b is = different (ap (λ (p : Package). p.name) is)

not-alone : ¬ Contains (needing ∷ []) rejecting
not-alone (zero, short, is) = a-is-not-b is
not-alone (suc k, short, is) = omega (arith, short)

unmet-alone : ¬ IsMet two.architecture (needing ∷ []) (any_version (codes "b") ∷ [])
unmet-alone met = not-alone (met-has-b (needing ∷ [])
    (All-cons (Contains two.packages) needing [] (0, lit< tt, refl) (All-nil (Contains two.packages))) met)

apart-kept : ¬ FailsNumber two relations (needing ∷ []) 2
apart-kept (d, (zero, at, is), fails) = omega (arith, at)
apart-kept (d, (suc zero, at, is), fails) =
    let same : Apart 0 1 ≡ d = cc in
    let both : Fails two (needing ∷ []) (Apart 0 1) = subst (Fails two (needing ∷ [])) (sym same) fails in
    not-alone both.1
apart-kept (d, (suc (suc k), at, is), fails) = omega (arith, at)

-- The first is needed, by a alone: that lacks b, and nothing else is wrong.
the_dependency_is_needed : IsNeeded two relations needing (1 ∷ 2 ∷ []) 1
the_dependency_is_needed = record {
  members = needing ∷ [];
  of = All-cons (Contains two.packages) needing [] (0, lit< tt, refl) (All-nil (Contains two.packages));
  has = (0, lit< tt, refl);
  fails = (Item 0 0, (0, refl, refl), ((0, lit< tt, refl), unmet-alone));
  no_other = other;
}
  where
    other : (k : ℕ) (d : ℕ) → k < 2 → slice_index_or (1 ∷ 2 ∷ []) k d ≢ 1
        → ¬ FailsNumber two relations (needing ∷ []) (slice_index_or (1 ∷ 2 ∷ []) k d)
    other zero d short not = absurd (not refl)
    other (suc zero) d short not = apart-kept
    other (suc (suc k)) d short not = absurd (omega (arith, short))
