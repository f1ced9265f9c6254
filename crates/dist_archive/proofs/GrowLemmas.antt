-- Lists of steps that are made, and one step more; and what is refused of archives that have the same packages.
use Rattle.std.proofs.Common.{ℕ, List, [], ◌∷◌, ◌++◌, sym, subst, inl, inr}
use Rattle.dist_repo.specs.Order.{IsFlat}
use Rattle.dist_repo.specs.PackageList.{PackageList}
use Rattle.dist_repo.specs.declared.package.Package.{Package}
use Rattle.dist_space.specs.Space.{IsFrame, SpaceView}
use Rattle.dist_archive.specs.Reach.{AreMade, AreTaken}
use Rattle.dist_archive.specs.Refusals.{IsNameFault, Refuses, RefusesName, RefusesRemoval, RefusesUpload}
use Rattle.dist_archive.specs.Same.{AreSame}
use Rattle.dist_archive.specs.Steps.{IsAboveAll, IsHeld, Lead, Makes}
use Rattle.dist_archive.specs.declared.step.Step.{Step}
use Rattle.dist_archive.specs.declared.step.Step.TheVariants.{Upload, Removal, NewName}
use Rattle.dist_archive.specs.declared.step.StepError.{StepError}
use Rattle.dist_archive.specs.declared.step.StepError.TheVariants.{OtherArchitecture, NotAbove, NotMember, NotAtVersion, WrongProvides, NotHeld}
use Rattle.dist_archive.specs.declared.step.StepError.TheVariants.{NotOne, NameTaken, NameVirtual, HasProvides, NoMemory}
use Rattle.dist_archive.proofs.LeadLemmas.{exactly-itself, held-same, lead-append, lead-from, lead-one, makes-same, same-back}
use Rattle.dist_archive.proofs.RefusalLemmas.{removal-one}
use Rattle.dist_archive.proofs.TakenLemmas.{made-same}

-- ---- refusals

module _ (r : PackageList) (old other : List Package) (same : AreSame old other) where
  above-like : (c : Package) (version : List ℕ) → IsAboveAll r old c version → IsAboveAll r other c version
  above-like c version above = record { top = above.top; held = λ n there named. above.held n ((same n).1 there) named }

  not-held : (name : List ℕ) → ¬ IsHeld old name → ¬ IsHeld other name
  not-held name free held = free (held-same other old name (same-back old other same) held)

  removal-like : (name : List ℕ) (e : StepError) → RefusesRemoval old name e → RefusesRemoval other name e
  removal-like name e is =
      let one = removal-one old name e is in
      subst (RefusesRemoval other name) (sym one.0) (not-held name one.1)

  name-like : (p : Package) (e : StepError) → IsNameFault r old p e → IsNameFault r other p e
  name-like p OtherArchitecture fault = absurd fault
  name-like p NotAbove fault = absurd fault
  name-like p (NotMember k) fault = absurd fault
  name-like p (NotAtVersion k) fault = absurd fault
  name-like p (WrongProvides k) fault = absurd fault
  name-like p NotHeld fault = absurd fault
  name-like p NotOne fault = absurd fault
  name-like p NameTaken fault = elim fault [ inl taken ↦ inl taken | inr held ↦ inr (held-same old other p.name same held) ]
  name-like p NameVirtual fault = (fault.0, not-held p.name fault.1, fault.2)
  name-like p HasProvides fault = (fault.0, not-held p.name fault.1, fault.2, fault.3)
  name-like p NoMemory fault = absurd fault

  block-like : (block : PackageList) (e : StepError) → RefusesName r old block e → RefusesName r other block e
  block-like block OtherArchitecture is = is
  block-like block NotAbove is = (is.0, (is.1.0, is.1.1, name-like is.1.0 NotAbove is.1.2))
  block-like block (NotMember k) is = (is.0, (is.1.0, is.1.1, name-like is.1.0 (NotMember k) is.1.2))
  block-like block (NotAtVersion k) is = (is.0, (is.1.0, is.1.1, name-like is.1.0 (NotAtVersion k) is.1.2))
  block-like block (WrongProvides k) is = (is.0, (is.1.0, is.1.1, name-like is.1.0 (WrongProvides k) is.1.2))
  block-like block NotHeld is = (is.0, (is.1.0, is.1.1, name-like is.1.0 NotHeld is.1.2))
  block-like block NotOne is = is
  block-like block NameTaken is = (is.0, (is.1.0, is.1.1, name-like is.1.0 NameTaken is.1.2))
  block-like block NameVirtual is = (is.0, (is.1.0, is.1.1, name-like is.1.0 NameVirtual is.1.2))
  block-like block HasProvides is = (is.0, (is.1.0, is.1.1, name-like is.1.0 HasProvides is.1.2))
  block-like block NoMemory is = (is.0, (is.1.0, is.1.1, name-like is.1.0 NoMemory is.1.2))

  upload-like : ((c : Package) (version : List ℕ) → IsAboveAll r other c version → IsAboveAll r old c version) → (c : Package) (version : List ℕ)
      (block : PackageList) (e : StepError) → RefusesUpload r old c version block e → RefusesUpload r other c version block e
  upload-like back c version block OtherArchitecture is = is
  upload-like back c version block NotAbove is = (is.0, λ above. is.1 (back c version above))
  upload-like back c version block (NotMember k) is = (is.0, above-like c version is.1, is.2)
  upload-like back c version block (NotAtVersion k) is = (is.0, above-like c version is.1, is.2)
  upload-like back c version block (WrongProvides k) is = (is.0, above-like c version is.1, is.2)
  upload-like back c version block NotHeld is = (is.0, above-like c version is.1, is.2)
  upload-like back c version block NotOne is = (is.0, above-like c version is.1, is.2)
  upload-like back c version block NameTaken is = (is.0, above-like c version is.1, is.2)
  upload-like back c version block NameVirtual is = (is.0, above-like c version is.1, is.2)
  upload-like back c version block HasProvides is = (is.0, above-like c version is.1, is.2)
  upload-like back c version block NoMemory is = (is.0, above-like c version is.1, is.2)

pub refuses-like : (s : SpaceView) (step : Step) (old other : List Package) (e : StepError) → AreSame old other → Refuses s old step e
    → Refuses s other step e
refuses-like s (Upload cluster version block) old other e same is =
    (is.0, is.1, upload-like s.repository old other same (above-like s.repository other old (same-back old other same)) is.0 version block e is.2)
refuses-like s (Removal name) old other e same is = removal-like s.repository old other same name e is
refuses-like s (NewName block) old other e same is = block-like s.repository old other same block e is

-- ---- one step more

made-flat : (s : SpaceView) (step : Step) (old new : List Package) → Makes s step old new → IsFlat new
made-flat s (Upload cluster version block) old new makes = makes.2.made.one_of_a_name
made-flat s (Removal name) old new makes = makes.made.one_of_a_name
made-flat s (NewName block) old new makes = makes.2.made.one_of_a_name

pub made-none : (s : SpaceView) (archive : List Package) → IsFlat archive → AreMade s [] archive archive
made-none s archive flat = record { lead = exactly-itself archive flat; taken = exactly-itself archive flat }

module _ (s : SpaceView) (frame : IsFrame s) (step : Step) (middle new : List Package)
    (unrefused : (e : StepError) → ¬ Refuses s middle step e) (makes : Makes s step middle new) where
  taken-more : (steps : List Step) (old : List Package) → Lead s steps old middle → AreTaken s steps old middle
      → AreTaken s (steps ++ step ∷ []) old new
  taken-more [] old lead taken = (
    (λ e is. unrefused e (refuses-like s step old middle e (λ n. ((lead.exact n).1, (lead.exact n).0)) is)),
    λ next next_made. record {
      one_of_a_name = made-flat s step middle new makes;
      exact = made-same s frame step middle new next makes (makes-same s step old middle next (λ n. ((lead.exact n).1, (lead.exact n).0)) next_made);
    },
  )
  taken-more (first ∷ steps) old lead taken = (
    taken.0,
    λ next next_made.
        taken-more steps next (lead-from s steps lead.0 next middle (made-same s frame first old lead.0 next lead.1 next_made) lead.2)
        (taken.1 next next_made),
  )

  pub made-more : (steps : List Step) (old : List Package) → AreMade s steps old middle → AreMade s (steps ++ step ∷ []) old new
  made-more steps old made = record {
    lead = lead-append s steps (step ∷ []) old middle new made.lead (lead-one s step middle new makes (made-flat s step middle new makes));
    taken = taken-more steps old made.lead made.taken;
  }
