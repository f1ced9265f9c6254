-- What the conflict atoms of a package match among what holds.
use Rattle.std.proofs.Common.{◌≡◌, ℕ, ◌≤◌, Bool, false, List, Option, Some, length, sym, ap, subst, ◌∙◌, arith, slice_get}
use Rattle.std.proofs.lemmas.Option.{same_Some, slice_get_within}
use Rattle.dist_base.specs.Least.{IsLeastIfAny}
use Rattle.dist_asked.specs.AskedPlaces.{AreEnough, IsPlaceAsked}
use Rattle.dist_base.specs.ListLaws.{any-at, contains-at, found-at}
use Rattle.dist_clause.specs.Formula.{value_of}
use Rattle.dist_relation.specs.declared.atom.Atom.{Atom}
use Rattle.dist_repo.specs.declared.package.Package.{Package}
use Rattle.dist_future.specs.FutureHealth.{Holds}
use Rattle.dist_space.specs.Space.{IsMeaningOf, IsMatched, SpaceView}
use Rattle.dist_future.specs.MatchingPrivate.{IsRejectedBy, IsRejectedFrom}
use Rattle.dist_space_clauses.specs.WithinLaws.{matched-wider}
use Rattle.dist_space.specs.declared.meaning.Meaning.{Meaning}
use Rattle.dist_space.specs.declared.meaning.Meaning.TheVariants.{Present}
use Rattle.dist_future.proofs.FoundLemmas.{IsAny}
use Rattle.dist_future.proofs.Leasts.{Before, least-shift}
use Rattle.dist_future.proofs.NoFutureLemmas.{meaning-holds, never-holds}

number-of : (a b : ℕ) → Present a ≡ Present b → a ≡ b
number-of a b same = cc

module _ (s : SpaceView) (values : List Bool) where
  -- ---- by one atom after another

  -- the atom at a place is asked, and matches it
  pub record RejectedAt (number : ℕ) (marks : List Bool) (atoms : List Atom) (place v : ℕ) : Type 0 where
    pub atom : Atom
    pub is : slice_get atoms place ≡ Some atom
    pub is_asked : IsPlaceAsked marks place
    pub found : IsAny s values atom (Some number) v

  pub rejected-one : (number : ℕ) (marks : List Bool) (atoms : List Atom) (place : ℕ) (atom : Atom) (o : Option ℕ) → slice_get atoms place ≡ Some atom
      → IsPlaceAsked marks place → IsLeastIfAny (IsAny s values atom (Some number)) o → IsLeastIfAny (RejectedAt number marks atoms place) o
  rejected-one number marks atoms place atom o is asked least =
      least-shift (IsAny s values atom (Some number)) (RejectedAt number marks atoms place) o
      (λ v any. record { atom = atom; is = is; is_asked = asked; found = any })
      (λ v f. let same : f.atom ≡ atom = same_Some f.atom atom (sym f.is ∙ is) in subst (λ (a : Atom). IsAny s values a (Some number) v) same f.found) least

  pub rejected-all : (number : ℕ) (marks : List Bool) (atoms : List Atom) (count : ℕ) (o : Option ℕ) → length atoms ≤ count → AreEnough atoms marks
      → IsLeastIfAny (Before (RejectedAt number marks atoms) count) o → IsLeastIfAny (IsRejectedBy s values number atoms) o
  rejected-all number marks atoms count o past enough least =
      least-shift (Before (RejectedAt number marks atoms) count) (IsRejectedBy s values number atoms) o
      (λ v f.
      let at = f.2 in
      let one = at.found.1 in
      record {
        meaning = one.meaning;
        variable_is = one.variable_is;
        holds = one.holds;
        other = one.kind;
        matched = any-at (λ a. IsMatched s a one.meaning) atoms f.0 at.atom at.is (at.found.0, one.matched);
      })
      (λ v f.
      let at = found-at (λ a. IsMatched s a f.meaning) atoms f.matched in
      let wide = enough at.element (contains-at atoms at.place at.element at.is) in
      let matched = matched-wider s at.element wide.wider f.meaning wide.within at.holds in
      let inside = slice_get_within atoms wide.place wide.wider wide.is_wider in (
        wide.place,
        omega (arith, past, inside),
        record {
          atom = wide.wider;
          is = wide.is_wider;
          is_asked = wide.is_asked;
          found = (
            matched.0,
            record { meaning = f.meaning; variable_is = f.variable_is; holds = f.holds; matched = matched.1; kind = f.other },
          );
        },
      ))
      least

  -- ---- rows

  pub no-rejected : (v : ℕ) (b : Bool) → b ≡ value_of values v → b ≡ false → (k : ℕ) → ¬ IsRejectedFrom s values v k
  no-rejected v b told fails k f = never-holds s values (Present f.number) v b told fails f.installed f.first_is

  pub other-rejected : (v : ℕ) (m : Meaning) → IsMeaningOf s v m → ((n : ℕ) → ¬ (m ≡ Present n)) → (k : ℕ) → ¬ IsRejectedFrom s values v k
  other-rejected v m of not k f = not f.number (sym (meaning-holds s values m (Present f.number) v of f.installed f.first_is))

  pub rejected-row : (v n : ℕ) (p : Package) (o : Option ℕ) → IsMeaningOf s v (Present n) → Holds s values (Present n)
      → slice_get s.repository.packages n ≡ Some p → IsLeastIfAny (IsRejectedBy s values n p.conflicts) o
      → IsLeastIfAny (IsRejectedFrom s values v) o
  rejected-row v n p o of holds is least =
      least-shift (IsRejectedBy s values n p.conflicts) (IsRejectedFrom s values v) o
      (λ k f. record { number = n; p = p; is = is; first_is = of.variable_is; installed = holds; rejected = f })
      (λ k f.
      let same : f.number ≡ n = number-of f.number n (meaning-holds s values (Present n) (Present f.number) v of f.installed f.first_is) in
      let same_package : f.p ≡ p = same_Some f.p p (sym f.is ∙ ap (slice_get s.repository.packages) same ∙ is) in
      let By : ℕ → Type 0 = λ i. IsRejectedBy s values i p.conflicts k in
      subst By same (subst (λ (q : Package). IsRejectedBy s values f.number q.conflicts k) same_package f.rejected))
      least
