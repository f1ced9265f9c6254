-- The healthy assignments are those that stand for a future and a healthy installation in it.
use Rattle.std.proofs.Common.{◌≡◌, ◌≢◌, ℕ, ◌<◌, Bool, List, Some, None, length, refl, sym, ap, subst, ◌∙◌, inl, inr, arith, slice_get}
use Rattle.std.specs.Prelude.{All, Any, Contains, IsSomeAnd, slice_index}
use Rattle.std.specs.Option.{option_map}
use Rattle.std.proofs.lemmas.List.Elements.{All-contains}
use Rattle.std.proofs.lemmas.Option.{slice_get_within}
use Rattle.dist_base.specs.Least.{IsNoPair}
use Rattle.dist_base.specs.ListLaws.{any-at, at-has, contains-at, element-at, found-at, has-at, here-at, place-of}
use Rattle.dist_relation.specs.declared.atom.Atom.{Atom}
use Rattle.dist_relation.specs.declared.atom.Provide.{Provide}
use Rattle.dist_repo.specs.Conflict.{AreInConflict}
use Rattle.dist_repo.specs.Healthy.{IsMet, required_names}
use Rattle.dist_repo.specs.Match.{IsUsable, Matches}
use Rattle.dist_repo.specs.Providers.{IsProvider}
use Rattle.dist_repo.specs.declared.package.Package.{Package}
use Rattle.dist_classes.specs.Atoms.{IsAtomOf, IsDependencyAtom}
use Rattle.dist_classes.specs.ClassList.{IsOfClassAt}
use Rattle.dist_classes.specs.NewVersion.{IsNewVersionOf}
use Rattle.dist_future.specs.FutureHealth.{AreNoFuture}
use Rattle.dist_future.specs.HealthLaws.{IsHealthyIn, StandsForHealthy}
use Rattle.dist_future.specs.Outdated.{IsInstallationOf}
use Rattle.dist_space.specs.Space.{IsMatched, IsMeaning, IsMetBy, IsSpace, MeetsBound, SpaceView, example_at, fresh_classes, member_classes}
use Rattle.dist_space_clauses.specs.SpaceClauses.{Excludes, IsBearer}
use Rattle.dist_future.specs.SpaceLaws.{StandsForFuture, examples_of, holds_under}
use Rattle.dist_future.specs.Stands.{flags_from, fresh_package, future_of, installation_of, installed_package, new_version}
use Rattle.dist_space.specs.declared.meaning.Meaning.{Meaning}
use Rattle.dist_space.specs.declared.meaning.Meaning.TheVariants.{Now, Present, At, New, Kept, Fresh}
use Rattle.dist_future.proofs.ClassMatch.{ClassLaws, fresh-at, fresh-new, from-fresh, from-kept, from-new, to-fresh, to-new}
use Rattle.dist_future.proofs.DemandLemmas.{IsMetIn, IsTrueMeaning}
use Rattle.dist_future.proofs.FutureToModel.{never-conflict, required-package}
use Rattle.dist_future.proofs.HealthLemmas.{health-from-met, met-from-health, met-with, with-it}
use Rattle.dist_future.proofs.ModelToFuture.{future-is, healthy-is}
use Rattle.dist_future.proofs.NoFutureLemmas.{new-of as kept-new}
use Rattle.dist_space.specs.UsableLaws.{usable-is}
use Rattle.dist_future.proofs.Parts.{flag-at, flag-is, if-some, if-true, kept-carried, length-flags, made, made-of, map-some}
use Rattle.dist_future.proofs.SpaceParts.{conflict-atom, member-of-class, other-name}
use Rattle.dist_space.specs.ClusterLaws.{names-apart}

module _ (laws : ClassLaws) (s : SpaceView) (space : IsSpace s) (values : List Bool) where
  pub healthy-stands : IsHealthyIn s values → StandsForFuture s values
  healthy-stands healthy =
      let met = met-from-health s values space healthy in
      record {
        is_future = future-is laws s space (holds_under s values) (examples_of s) space.frame.examples met.future;
        healthy = healthy-is laws s space (holds_under s values) (examples_of s) space.frame.examples met.future met;
      }

  -- ---- what is installed

  abbrev T : Meaning → Type 0
  T = IsTrueMeaning s values

  abbrev installed : List Package
  installed = installation_of s (holds_under s values) (examples_of s)

  abbrev newer : ℕ → ℕ → Package → Package
  newer r k p = new_version s (holds_under s values) (examples_of s) r k p

  abbrev fresher : ℕ → ℕ → List ℕ → Package
  fresher x k name = fresh_package name (example_at (fresh_classes s x) k)

  abbrev kept_of : ℕ → ℕ → Package → List Bool
  kept_of r k p = flags_from s.repository.architecture (λ j. holds_under s values (Kept r k j)) p.provides

  new-of : (r k : ℕ) (p : Package) → k < length (member_classes s r) → IsNewVersionOf p (kept_of r k p) (newer r k p)
  new-of r k p short =
      let is = (space.frame.examples (slice_index s.cluster_of r) k short).0 in
      record {
        name = refl;
        version = is;
        provides = kept-carried p.version (examples_of s (slice_index s.cluster_of r) k) (kept_of r k p) p.provides is
            (length-flags s.repository.architecture (λ j. holds_under s values (Kept r k j)) p.provides);
      }

  class-of : (r k : ℕ) (p : Package) → k < length (member_classes s r) → IsOfClassAt (member_classes s r) k (newer r k p).version
  class-of r k p short = (space.frame.examples (slice_index s.cluster_of r) k short).1

  in-list : (m : Meaning) (n : Package) → IsMeaning s m → installed_package s (holds_under s values) (examples_of s) m ≡ Some n → Contains installed n
  in-list m n is gives =
      let at = place-of s.meanings m ((space.meanings.exact m).1 (is, tt)) in
      made (installed_package s (holds_under s values) (examples_of s)) s.meanings at.place m n at.is gives

  old-in : (r : ℕ) (p : Package) → slice_get s.repository.packages r ≡ Some p → T (Present r) → Contains installed p
  old-in r p is holds =
      in-list (Present r) p (slice_get_within s.repository.packages r p is)
      (if-true (holds_under s values (Present r)) (slice_get s.repository.packages r) None holds ∙ is)

  new-in : (r k : ℕ) (p : Package) → slice_get s.repository.packages r ≡ Some p → IsMeaning s (New r k) → T (New r k) → Contains installed (newer r k p)
  new-in r k p is is_meaning holds =
      in-list (New r k) (newer r k p) is_meaning
      (if-true (holds_under s values (New r k)) (option_map (λ (q : Package). newer r k q) (slice_get s.repository.packages r)) None holds
      ∙ ap (option_map (λ (q : Package). newer r k q)) is)

  fresh-in : (x k : ℕ) (name : List ℕ) → slice_get s.names x ≡ Some name → IsMeaning s (Fresh x k) → T (Fresh x k) → Contains installed (fresher x k name)
  fresh-in x k name is is_meaning holds =
      in-list (Fresh x k) (fresher x k name) is_meaning
      (if-true (holds_under s values (Fresh x k)) (option_map (λ (n : List ℕ). fresher x k n) (slice_get s.names x)) None holds
      ∙ ap (option_map (λ (n : List ℕ). fresher x k n)) is)

  -- the meaning that a package of the installation comes of
  data IsFrom (n : Package) : Meaning → Type 0 where
    from_old : (r : ℕ) → slice_get s.repository.packages r ≡ Some n → T (Present r) → IsFrom n (Present r)
    from_new : (r k : ℕ) (q : Package) → slice_get s.repository.packages r ≡ Some q → T (New r k) → n ≡ newer r k q → IsFrom n (New r k)
    from_name : (x k : ℕ) (name : List ℕ) → slice_get s.names x ≡ Some name → T (Fresh x k) → n ≡ fresher x k name → IsFrom n (Fresh x k)

  record ComesOf (n : Package) : Type 0 where
    meaning : Meaning
    is_meaning : IsMeaning s meaning
    given : IsFrom n meaning

  given-by : (m : Meaning) (n : Package) → installed_package s (holds_under s values) (examples_of s) m ≡ Some n → IsFrom n m
  given-by Now n gives = absurd (let none : None ≡ Some n = gives in cc)
  given-by (At c k) n gives = absurd (let none : None ≡ Some n = gives in cc)
  given-by (Kept r k j) n gives = absurd (let none : None ≡ Some n = gives in cc)
  given-by (Present r) n gives = let at = if-some (holds_under s values (Present r)) (slice_get s.repository.packages r) n gives in from_old r at.1 at.0
  given-by (New r k) n gives =
      let at = if-some (holds_under s values (New r k)) (option_map (λ (q : Package). newer r k q) (slice_get s.repository.packages r)) n gives in
      let q = map-some (λ (p : Package). newer r k p) (slice_get s.repository.packages r) n at.1 in
      from_new r k q.0 q.1 at.0 (sym q.2)
  given-by (Fresh x k) n gives =
      let at = if-some (holds_under s values (Fresh x k)) (option_map (λ (name : List ℕ). fresher x k name) (slice_get s.names x)) n gives in
      let name = map-some (λ (y : List ℕ). fresher x k y) (slice_get s.names x) n at.1 in
      from_name x k name.0 name.1 at.0 (sym name.2)

  comes-of : (n : Package) → Contains installed n → ComesOf n
  comes-of n there =
      let at = made-of (installed_package s (holds_under s values) (examples_of s)) s.meanings n there in
      record {
        meaning = at.source;
        is_meaning = ((space.meanings.exact at.source).0 (contains-at s.meanings at.place at.source at.is)).0;
        given = given-by at.source n at.gives;
      }

  -- ---- from a healthy installation to the demands

  module _ (healthy : IsInstallationOf s.essential s.repository (future_of s (holds_under s values) (examples_of s))
      (installation_of s (holds_under s values) (examples_of s))) where
    -- a meaning that holds, and that an atom matches
    abbrev IsFound : Atom → Type 0
    IsFound atom = IsMetIn s T (IsMatched s atom)

    found-of : (atom : Atom) → IsAtomOf s.repository atom → (n : Package) (m : Meaning) → IsMeaning s m → IsFrom n m → Matches s.repository.architecture atom n
        → IsFound atom
    found-of atom of n _ is_meaning (from_old r is holds) matches =
        record {
          meaning = Present r;
          is_meaning = is_meaning;
          holds = holds;
          has = (matches.usable, at-has (Matches s.repository.architecture atom) s.repository.packages r n is matches);
        }
    found-of atom of n _ is_meaning (from_name x k name is holds same) matches =
        let example = space.frame.name_examples x k is_meaning in
        record {
          meaning = Fresh x k;
          is_meaning = is_meaning;
          holds = holds;
          has = to-fresh s x k name (fresh-at laws s space.frame x k name is is_meaning) atom of (fresher x k name)
              (fresh-new name (example_at (fresh_classes s x) k) example.0) example.1
              (subst (λ (y : Package). Matches s.repository.architecture atom y) same matches);
        }
    found-of atom of n _ is_meaning (from_new r k q is holds same) matches =
        elim (to-new s r k q (member-of-class laws s space r k q is is_meaning.1) atom of (newer r k q) (kept_of r k q) (new-of r k q is_meaning.1)
        (class-of r k q is_meaning.1) (subst (λ (y : Package). Matches s.repository.architecture atom y) same matches)) [
          | inl by_name ↦ record { meaning = New r k; is_meaning = is_meaning; holds = holds; has = by_name }
          | inr kept ↦ record {
            meaning = Kept r k kept.0;
            is_meaning = kept.1.1;
            holds = flag-at s.repository.architecture (λ j. holds_under s values (Kept r k j)) q.provides kept.0 kept.1.0;
            has = kept.1.2;
          }
        ]

    items-met : (r place : ℕ) (p : Package) (item : List Atom) → slice_get s.repository.packages r ≡ Some p → slice_get p.depends place ≡ Some item
        → T (Present r) → IsMetIn s T (IsMetBy s item)
    items-met r place p item is is_item holds =
        let Met : List Atom → Type 0 = IsMet s.repository.architecture installed in
        let each : All Met p.depends = All-contains (λ (q : Package). All Met q.depends) installed p healthy.met (old-in r p is holds) in
        let any : Met item = All-contains Met p.depends item each (contains-at p.depends place item is_item) in
        let at = found-at (λ atom. Any (Matches s.repository.architecture atom) installed) item any in
        let n : Package = at.holds.1 in
        let matches : Matches s.repository.architecture at.element n = at.holds.4 in
        let dependency : IsDependencyAtom s.repository.packages at.element =
        any-at (λ (q : Package). Any (λ i. Contains i at.element) q.depends) s.repository.packages r p is
        (any-at (λ i. Contains i at.element) p.depends place item is_item (contains-at item at.place at.element at.is)) in
        let from = comes-of n (at.holds.0, at.holds.2, at.holds.3) in
        let found = found-of at.element (record { usable = matches.usable; there = inl dependency }) n from.meaning from.is_meaning from.given matches in
        record {
          meaning = found.meaning;
          is_meaning = found.is_meaning;
          holds = found.holds;
          has = any-at (λ atom. IsMatched s atom found.meaning) item at.place at.element at.is found.has;
        }

    -- no conflict atom of a package matches another one
    rejects : (r : ℕ) (p n : Package) (place : ℕ) (atom : Atom) → slice_get s.repository.packages r ≡ Some p → T (Present r) → Contains installed n
        → p.name ≢ n.name → slice_get p.conflicts place ≡ Some atom
        → Matches s.repository.architecture atom n → ⊥
    rejects r p n place atom is holds there names is_atom matches =
        never-conflict s.repository.architecture installed p n healthy.no_conflict (old-in r p is holds) there names
        (record {
          different = λ same. names same.0;
          matched = inl (any-at (λ a. Matches s.repository.architecture a n) p.conflicts place atom is_atom matches);
        })

    never-excluded : IsNoPair (AreNoFuture s values) → (r : ℕ) (p : Package) (m : Meaning) → slice_get s.repository.packages r ≡ Some p → IsMeaning s m
        → Excludes s r p m → T (Present r) → T m → ⊥
    never-excluded stands r p Now is is_meaning excludes present holds = excludes.0
    never-excluded stands r p (At c k) is is_meaning excludes present holds = excludes.0
    never-excluded stands r p (Present o) is is_meaning excludes present holds =
        let q = here-at (AreInConflict s.repository.architecture p) s.repository.packages o excludes.1 in
        never-conflict s.repository.architecture installed p q.element healthy.no_conflict (old-in r p is present) (old-in o q.element q.is holds)
        (λ same. let one = names-apart s.repository.packages r o p q.element space.frame.flat is q.is same in omega (arith, excludes.0, one)) q.holds
    never-excluded stands r p (New o k) is is_meaning excludes present holds =
        let q = element-at s.repository.packages o is_meaning.0 in
        let at = found-at (λ atom. IsMatched s atom (New o k)) p.conflicts excludes.1 in
        let of = conflict-atom s r p at.place at.element is at.is at.holds.0 in
        rejects r p (newer o k q.element) at.place at.element is present (new-in o k q.element q.is is_meaning holds)
        (λ same. other-name s o q.element p.name q.is excludes.0 (sym same)) at.is
        (from-new s o k q.element (member-of-class laws s space o k q.element q.is is_meaning.1) at.element of (newer o k q.element) (kept_of o k q.element)
        (new-of o k q.element is_meaning.1) (class-of o k q.element is_meaning.1) at.holds)
    never-excluded stands r p (Kept o k j) is is_meaning excludes present holds =
        let is_new = kept-new s o k j is_meaning in
        let q = element-at s.repository.packages o is_new.0 in
        let entry = here-at (λ (e : Provide). IsUsable s.repository.architecture e.qualifier) q.element.provides j
        (has-at (λ (x : Package). IsSomeAnd (slice_get x.provides j) (λ e. IsUsable s.repository.architecture e.qualifier)) s.repository.packages o q.element
        q.is is_meaning.0) in
        let at = found-at (λ atom. IsMatched s atom (Kept o k j)) p.conflicts excludes.1 in
        let of = conflict-atom s r p at.place at.element is at.is at.holds.0 in
        let flag = flag-is s.repository.architecture (λ i. holds_under s values (Kept o k i)) q.element.provides j entry.element entry.is
        (usable-is s.repository.architecture entry.element.qualifier entry.holds) holds in
        let new = with-it s values (Kept o k j) (New o k) stands (record { is_meaning = is_meaning; is_true = holds }) is_new (refl, refl) in
        rejects r p (newer o k q.element) at.place at.element is present (new-in o k q.element q.is is_new new)
        (λ same. other-name s o q.element p.name q.is excludes.0 (sym same)) at.is
        (from-kept s o k q.element (member-of-class laws s space o k q.element q.is is_meaning.1) at.element of (newer o k q.element) (kept_of o k q.element) j
        (new-of o k q.element is_meaning.1) (class-of o k q.element is_meaning.1) flag at.holds)
    never-excluded stands r p (Fresh x k) is is_meaning excludes present holds =
        let at = found-at (λ atom. IsMatched s atom (Fresh x k)) p.conflicts excludes.1 in
        let of = conflict-atom s r p at.place at.element is at.is at.holds.0 in
        let name = here-at (λ (n : List ℕ). (n ≡ at.element.name) × MeetsBound at.element (example_at (fresh_classes s x) k)) s.names x at.holds.1 in
        let example = space.frame.name_examples x k is_meaning in
        rejects r p (fresher x k name.element) at.place at.element is present (fresh-in x k name.element name.is is_meaning holds)
        (λ same. has-at (λ (n : List ℕ). n ≢ p.name) s.names x name.element name.is excludes.0 (sym same)) at.is
        (from-fresh s x k name.element (fresh-at laws s space.frame x k name.element name.is is_meaning) at.element of (fresher x k name.element)
        (fresh-new name.element (example_at (fresh_classes s x) k) example.0) example.1 at.holds)

    bearer-from : (name : List ℕ) (r : ℕ) (p : Package) → slice_get s.repository.packages r ≡ Some p → p.name ≡ name → (n : Package) → n.name ≡ name
        → (m : Meaning) → IsMeaning s m → IsFrom n m → IsMetIn s T (IsBearer s name)
    bearer-from name r p is named n same _ is_meaning (from_old o at holds) =
        record { meaning = Present o; is_meaning = is_meaning; holds = holds; has = at-has (λ (q : Package). q.name ≡ name) s.repository.packages o n at same }
    bearer-from name r p is named n same _ is_meaning (from_new o k q at holds equal) =
        record {
          meaning = New o k;
          is_meaning = is_meaning;
          holds = holds;
          has = at-has (λ (x : Package). x.name ≡ name) s.repository.packages o q at (sym (ap (λ (x : Package). x.name) equal) ∙ same);
        }
    bearer-from name r p is named n same _ is_meaning (from_name x k own at holds equal) =
        let new = (space.frame.names.exact own).0 (contains-at s.names x own at) in
        absurd (new.unprovided (any-at (λ (q : Package). IsProvider s.repository.architecture own q) s.repository.packages r p is
        (inl (named ∙ sym same ∙ ap (λ (x : Package). x.name) equal))))

    bearers : (name : List ℕ) → Contains (required_names s.essential s.repository.packages) name → IsMetIn s T (IsBearer s name)
    bearers name there =
        let any : Any (λ (q : Package). q.name ≡ name) installed =
        All-contains (λ (x : List ℕ). Any (λ (q : Package). q.name ≡ x) installed) (required_names s.essential s.repository.packages) name
        healthy.has_required there in
        let of = required-package s.essential s.repository.packages name there in
        let from = comes-of any.1 (any.0, any.2, any.3) in
        bearer-from name of.place of.element of.is of.holds any.1 any.4 from.meaning from.is_meaning from.given

  pub healthy-back : StandsForHealthy s values → IsHealthyIn s values
  healthy-back both = health-from-met s values (met-with s values both.stands (items-met both.healthy) (never-excluded both.healthy both.stands)
      (bearers both.healthy))
