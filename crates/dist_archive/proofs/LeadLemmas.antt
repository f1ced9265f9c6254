-- Steps one after another, and what they leave of archives that have the same packages.
use Rattle.std.proofs.Common.{◌≡◌, ◌≢◌, ◌⊎◌, ◌↔◌, ℕ, zero, suc, List, [], ◌∷◌, ◌++◌, refl, sym, subst, inl, inr, arith}
use Rattle.std.specs.Prelude.{Contains}
use Rattle.dist_base.specs.ListLaws.{any-contained, contains-at, found-at, pairs-head, pairs-tail}
use Rattle.dist_repo.specs.DecidedLaws.{IsDecided}
use Rattle.dist_repo.specs.Order.{IsFlat}
use Rattle.dist_repo.specs.declared.package.Package.{Package}
use Rattle.dist_space.specs.Space.{SpaceView}
use Rattle.dist_archive.specs.Same.{AreSame}
use Rattle.dist_archive.specs.Steps.{HasExactly, IsClusterName, IsHeld, Lead, Makes}
use Rattle.dist_archive.specs.declared.step.Step.{Step}
use Rattle.dist_archive.specs.declared.step.Step.TheVariants.{Upload, Removal, NewName}
use Rattle.dist_archive.proofs.HeldLemmas.{pairs-append}

-- ---- lists

pub cons-cases : {X : Type 0} (x y : X) (xs : List X) → Contains (x ∷ xs) y → (x ≡ y) ⊎ Contains xs y
cons-cases x y xs (zero, short, is) = inl is
cons-cases x y xs (suc k, short, is) = inr (k, omega (arith, short), is)

pub cons-head : {X : Type 0} (x : X) (xs : List X) → Contains (x ∷ xs) x
cons-head x xs = (0, omega arith, refl)

pub cons-later : {X : Type 0} (x y : X) (xs : List X) → Contains xs y → Contains (x ∷ xs) y
cons-later x y xs there = (suc there.0, omega (arith, there.1), there.2)

pub alone-flat : (p : Package) → IsFlat (p ∷ [])
alone-flat p = λ i j d less short. absurd (omega (arith, less, short))

pub flat-cons : (p : Package) (packages : List Package) → ((q : Package) → Contains packages q → p.name ≢ q.name) → IsFlat packages
    → IsFlat (p ∷ packages)
flat-cons p packages apart flat =
    pairs-append (λ (x y : Package). x.name ≢ y.name) (p ∷ []) packages (alone-flat p) flat
    (λ x y first second. elim (cons-cases p x [] first) [
      | inl is ↦ subst (λ (z : Package). z.name ≢ y.name) is (apart y second)
      | inr none ↦ absurd (omega (arith, none.1))
    ])

-- those of some packages that have a property
pub record Those (P : Package → Type 0) (all : List Package) : Type 0 where
  pub some : List Package
  pub exact : (n : Package) → Contains some n ↔ (Contains all n × P n)
  pub flat : IsFlat all → IsFlat some

those-with : (P : Package → Type 0) (p : Package) (all : List Package) → P p → Those P all → Those P (p ∷ all)
those-with P p all holds rest = record {
  some = p ∷ rest.some;
  exact = λ n. (
    (λ there. elim (cons-cases p n rest.some there) [
      | inl is ↦ subst (λ (x : Package). Contains (p ∷ all) x × P x) is (cons-head p all, holds)
      | inr later ↦ let both = (rest.exact n).0 later in (cons-later p n all both.0, both.1)
    ]),
    λ both. elim (cons-cases p n all both.0) [
      | inl is ↦ subst (λ (x : Package). Contains (p ∷ rest.some) x) is (cons-head p rest.some)
      | inr later ↦ cons-later p n rest.some ((rest.exact n).1 (later, both.1))
    ],
  );
  flat = λ flat. flat-cons p rest.some
      (λ q there. pairs-head (λ (x y : Package). x.name ≢ y.name) p all flat q ((rest.exact q).0 there).0)
      (rest.flat (pairs-tail (λ (x y : Package). x.name ≢ y.name) p all flat));
}

those-without : (P : Package → Type 0) (p : Package) (all : List Package) → (¬ P p) → Those P all → Those P (p ∷ all)
those-without P p all fails rest = record {
  some = rest.some;
  exact = λ n. (
    (λ there. let both = (rest.exact n).0 there in (cons-later p n all both.0, both.1)),
    λ both. elim (cons-cases p n all both.0) [
      | inl is ↦ absurd (fails (subst (λ (x : Package). P x) (sym is) both.1))
      | inr later ↦ (rest.exact n).1 (later, both.1)
    ],
  );
  flat = λ flat. rest.flat (pairs-tail (λ (x y : Package). x.name ≢ y.name) p all flat);
}

pub those : (P : Package → Type 0) → ((n : Package) → IsDecided (P n)) → (all : List Package) → Those P all
those P each [] = record {
  some = [];
  exact = λ n. ((λ there. absurd (omega (arith, there.1))), λ both. absurd (omega (arith, both.0.1)));
  flat = λ flat. flat;
}
those P each (p ∷ all) = elim (each p) [
  | inl holds ↦ those-with P p all holds (those P each all)
  | inr fails ↦ those-without P p all fails (those P each all)
]

-- ---- archives with the same packages

pub exactly-same : (archive : List Package) (P Q : Package → Type 0) → ((n : Package) → P n ↔ Q n) → HasExactly archive P → HasExactly archive Q
exactly-same archive P Q same has = record {
  one_of_a_name = has.one_of_a_name;
  exact = λ n. ((λ there. (same n).0 ((has.exact n).0 there)), λ holds. (has.exact n).1 ((same n).1 holds));
}

pub exactly-itself : (archive : List Package) → IsFlat archive → HasExactly archive (Contains archive)
exactly-itself archive flat = record { one_of_a_name = flat; exact = λ n. ((λ there. there), λ there. there) }

pub held-same : (old other : List Package) (name : List ℕ) → AreSame old other → IsHeld old name → IsHeld other name
held-same old other name same held =
    let at = found-at (λ (n : Package). n.name ≡ name) old held in
    any-contained (λ (n : Package). n.name ≡ name) other at.element ((same at.element).0 (contains-at old at.place at.element at.is)) at.holds

pub same-back : (old other : List Package) → AreSame old other → AreSame other old
same-back old other same n = ((same n).1, (same n).0)

pub makes-same : (s : SpaceView) (step : Step) (old other new : List Package) → AreSame old other → Makes s step old new → Makes s step other new
makes-same s (Upload cluster version block) old other new same makes =
    let r = s.repository in
    let c : Package = makes.0 in
    let up = makes.2 in (
      c,
      makes.1,
      record {
        cluster = up.cluster;
        above = record { top = up.above.top; held = λ n there name. up.above.held n ((same n).1 there) name };
        uploaded = up.uploaded;
        made = exactly-same new (λ n. Contains block.packages n ⊎ (Contains old n × (¬ IsClusterName r c n.name)))
            (λ n. Contains block.packages n ⊎ (Contains other n × (¬ IsClusterName r c n.name)))
            (λ n. (
              (λ either. elim either [ inl there ↦ inl there | inr held ↦ inr ((same n).0 held.0, held.1) ]),
              λ either. elim either [ inl there ↦ inl there | inr held ↦ inr ((same n).1 held.0, held.1) ],
            )) up.made;
      },
    )
makes-same s (Removal name) old other new same makes = record {
  there = held-same old other name same makes.there;
  made = exactly-same new (λ n. Contains old n × (n.name ≢ name)) (λ n. Contains other n × (n.name ≢ name))
      (λ n. ((λ held. ((same n).0 held.0, held.1)), λ held. ((same n).1 held.0, held.1))) makes.made;
}
makes-same s (NewName block) old other new same makes =
    let p : Package = makes.0 in
    let brings = makes.2 in (
      p,
      makes.1,
      record {
        untaken = brings.untaken;
        unheld = λ held. brings.unheld (held-same other old p.name (same-back old other same) held);
        unprovided = brings.unprovided;
        of_new_name = brings.of_new_name;
        made = exactly-same new (λ n. Contains old n ⊎ (p ≡ n)) (λ n. Contains other n ⊎ (p ≡ n))
            (λ n. (
              (λ either. elim either [ inl there ↦ inl ((same n).0 there) | inr is ↦ inr is ]),
              λ either. elim either [ inl there ↦ inl ((same n).1 there) | inr is ↦ inr is ],
            )) brings.made;
      },
    )

-- ---- steps, one after another

pub lead-from : (s : SpaceView) (steps : List Step) (old other new : List Package) → AreSame old other → Lead s steps old new → Lead s steps other new
lead-from s [] old other new same lead = exactly-same new (Contains old) (Contains other) same lead
lead-from s (step ∷ steps) old other new same lead = (lead.0, makes-same s step old other lead.0 same lead.1, lead.2)

pub lead-append : (s : SpaceView) (first second : List Step) (old middle new : List Package) → Lead s first old middle → Lead s second middle new
    → Lead s (first ++ second) old new
lead-append s [] second old middle new lead next = lead-from s second middle old new (λ n. lead.exact n) next
lead-append s (step ∷ first) second old middle new lead next =
    (lead.0, lead.1, lead-append s first second lead.0 middle new lead.2 next)

pub lead-one : (s : SpaceView) (step : Step) (old new : List Package) → Makes s step old new → IsFlat new → Lead s (step ∷ []) old new
lead-one s step old new makes flat = (new, makes, exactly-itself new flat)

-- to an archive with the same packages
pub lead-to : (s : SpaceView) (steps : List Step) (old new other : List Package) → HasExactly other (Contains new) → Lead s steps old new
    → Lead s steps old other
lead-to s [] old new other exactly lead = exactly-same other (Contains new) (Contains old) lead.exact exactly
lead-to s (step ∷ steps) old new other exactly lead = (lead.0, lead.1, lead-to s steps lead.0 new other exactly lead.2)
