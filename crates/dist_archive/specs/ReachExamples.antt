-- Worked examples of plans, and of a package that does not fit, for the archive of the examples of futures: a and b
-- come from one source.
use Rattle.std.specs.Prelude.{◌≡◌, ◌≢◌, ℕ, zero, suc, ◌<◌, List, [], ◌∷◌, None, Contains, codes, slice_index_or, refl}
use Rattle.std.proofs.Common.{ap, arith, inl, inr, lit<, sym, ◌∙◌}
use Rattle.std.specs.declared.cmp.Ordering.TheVariants.{Less, Equal}
use Rattle.dist_version.specs.Order.{version_cmp}
use Rattle.dist_repo.specs.PackageList.{IsPackageAnd}
use Rattle.dist_repo.specs.declared.package.Package.{Package}
use Rattle.dist_future.specs.Future.{IsTaken}
use Rattle.dist_future.specs.FutureExamples.{a, b, later_a, one-below-two, one-of, two, two-is-version}
use Rattle.dist_archive.specs.Reach.{AreRemovals, Fits, GoTogether, IsFirstMisfit, IsLater, IsUploadOf}
use Rattle.dist_archive.specs.Steps.{IsHeld}
use Rattle.dist_archive.specs.StepExamples.{a-in, a-is-new, a_is_not_b, b-in, below-two, only}
use Rattle.dist_archive.specs.declared.step.Step.TheVariants.{Upload, Removal}

a-there : Contains two.packages a
a-there = (0, lit< tt, refl)

a-taken : IsTaken two (codes "a")
a-taken = (0, a, lit< tt, refl, refl)

-- a at 2 is later than the archive's a at 1.
a_is_later : IsLater two later_a
a_is_later = (
  a,
  a-there,
  a-is-new,
  record { is_version = two-is-version; above = λ q inside. below-two q inside.there },
)

two_is_not_one : codes "1" ≢ codes "2"
two_is_not_one e = let differ : 49 ≡ 50 = ap (λ (s : List ℕ). slice_index_or s 0 0) e in omega (arith, differ)

later-is-new : ¬ Contains two.packages later_a
later-is-new there = elim (one-of a b later_a there) [
  | inl is ↦ two_is_not_one (ap (λ (x : Package). x.version) is)
  | inr is ↦ two_is_not_one (ap (λ (x : Package). x.version) is)
]

one-is-not-two : version_cmp (codes "1") (codes "2") ≢ Equal
one-is-not-two equal = let less = one-below-two in let no : Less ≡ Equal = sym less ∙ equal in cc

not-together : ¬ GoTogether two later_a b
not-together (inl both) = later-is-new both.0
not-together (inr both) = one-is-not-two both.2

-- b at 1 does not fit beside a at 2: it is the first misfit.
b_does_not_fit : IsFirstMisfit two (later_a ∷ b ∷ []) 1
b_does_not_fit = record {
  before = first;
  here = λ fits. not-together (fits.together 0 (lit< tt) (a, a-there, (a, a-in, refl), (b, b-in, refl)));
}
  where
    fits-first : Fits two (later_a ∷ b ∷ []) 0 later_a
    fits-first = record {
      own = λ taken. inr a_is_later;
      together = λ k less. absurd (omega (arith, less));
      fresh = λ free. absurd (free a-taken);
    }

    first : (k : ℕ) → k < 1 → IsPackageAnd (later_a ∷ b ∷ []) k (Fits two (later_a ∷ b ∷ []) k)
    first zero less = fits-first
    first (suc k) less = absurd (omega (arith, less))

-- Where a at 2 alone is left, the cluster has one upload, of a at 2.
a_is_uploaded : IsUploadOf two (later_a ∷ []) 0 a
    (Upload 0 (codes "2") (record { architecture = None; packages = later_a ∷ [] }))
a_is_uploaded = record {
  block = record { architecture = None; packages = later_a ∷ [] };
  first = later_a;
  is = refl;
  architecture = refl;
  is_first = refl;
  brings = λ n. (
    (λ there. (there, (a, a-in, ap (λ (x : Package). x.name) (only later_a n there)))),
    λ both. both.0,
  );
  in_order = λ i j d less short. absurd (omega (arith, less, short));
}

-- Where b is left as it was, a is removed, and nothing else.
a_is_removed : AreRemovals two (b ∷ []) (0 ∷ 1 ∷ []) (Removal (codes "a") ∷ [])
a_is_removed =
    inr (missing, (Removal (codes "a"), [], refl, refl, inl ((λ gone. gone (0, b, lit< tt, refl, refl)), refl)))
  where
    missing : ¬ IsHeld (b ∷ []) (codes "a")
    missing held = a_is_not_b (sym held.4 ∙ ap (λ (x : Package). x.name) (sym (only b held.1 (held.0, held.2, held.3))))
