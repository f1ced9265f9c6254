-- Worked examples of steps, from the archive of the examples of futures on: a and b come from one source.
use Rattle.std.specs.Prelude.{◌≡◌, ◌≢◌, ℕ, zero, suc, List, [], ◌∷◌, Contains, codes, slice_index_or, refl}
use Rattle.std.proofs.Common.{ap, arith, inl, inr, lit<, subst, sym}
use Rattle.std.proofs.lemmas.List.Elements.{All-cons, All-nil}
use Rattle.std.specs.declared.cmp.Ordering.TheVariants.{Equal}
use Rattle.dist_version.specs.Order.{IsBelow, version_cmp}
use Rattle.dist_repo.specs.Order.{IsFlat}
use Rattle.dist_repo.specs.declared.package.Package.{Package}
use Rattle.dist_classes.specs.NewVersion.{IsNewOf}
use Rattle.dist_version.specs.Between.{without_rebuild_text}
use Rattle.dist_future.specs.Future.{IsInClusterOf}
use Rattle.dist_future.specs.FutureExamples.{a, b, itself, later_a, one-below-two, one-of, two}
use Rattle.dist_future.specs.FutureExamples.{two-is-two, two-is-version}
use Rattle.dist_archive.specs.Steps.{IsAboveAll, IsClusterName, IsUploaded, Removes, Uploads}

-- ---- lists of one

pub only : (p x : Package) → Contains (p ∷ []) x → p ≡ x
only p x (zero, short, is) = is
only p x (suc k, short, is) = absurd (omega (arith, short))

pub alone : (p : Package) → IsFlat (p ∷ [])
alone p i j d less short = absurd (omega (arith, less, short))

pub a_is_not_b : codes "a" ≢ codes "b"
a_is_not_b e = let differ : 97 ≡ 98 = ap (λ (s : List ℕ). slice_index_or s 0 0) e in omega (arith, differ)

in-cluster : (q : Package) → Contains two.packages q → q.source ≡ codes "s" → q.source_version ≡ codes "1"
    → q.version ≡ codes "1" → IsInClusterOf two a q
in-cluster q there source source_version version = record {
  there = there;
  clustered = record {
    source = sym source;
    source_version = subst (λ (v : List ℕ). version_cmp (codes "1") v ≡ Equal) (sym source_version)
        (itself (codes "1"));
    version = subst (λ (v : List ℕ). version_cmp (without_rebuild_text (codes "1")) (without_rebuild_text v) ≡ Equal)
        (sym version) (itself (without_rebuild_text (codes "1")));
  };
}

pub a-in : IsInClusterOf two a a
a-in = in-cluster a (0, lit< tt, refl) refl refl refl

pub b-in : IsInClusterOf two a b
b-in = in-cluster b (1, lit< tt, refl) refl refl refl

-- ---- a removal

-- Without a, b is left as it was.
a_removed : Removes (codes "a") two.packages (b ∷ [])
a_removed = record {
  there = (0, a, lit< tt, refl, refl);
  made = record {
    one_of_a_name = alone b;
    exact = λ n. (
      (λ inside. subst (λ (x : Package). Contains two.packages x × (x.name ≢ codes "a")) (only b n inside) (
        (1, lit< tt, refl),
        λ same. a_is_not_b (sym same),
      )),
      λ held. elim (one-of a b n held.0) [
        | inl is ↦ absurd (held.1 (ap (λ (x : Package). x.name) (sym is)))
        | inr is ↦ subst (λ (x : Package). Contains (b ∷ []) x) is (0, lit< tt, refl)
      ],
    );
  };
}

-- ---- an upload

pub below-two : (n : Package) → Contains two.packages n → IsBelow n.version (codes "2")
below-two n there = elim (one-of a b n there) [
  | inl is ↦ subst (λ (x : Package). IsBelow x.version (codes "2")) is one-below-two
  | inr is ↦ subst (λ (x : Package). IsBelow x.version (codes "2")) is one-below-two
]

pub two-is-above : IsAboveAll two two.packages a (codes "2")
two-is-above = record {
  top = record { is_version = two-is-version; above = λ q inside. below-two q inside.there };
  held = λ n there name. below-two n there;
}

pub a-is-new : IsNewOf a later_a
a-is-new = ([], record { name = refl; version = two-is-version; provides = refl })

a-uploaded : IsUploaded two a (codes "2") later_a
a-uploaded = ((a, a-in, a-is-new), two-is-two)

-- Both names are those of the cluster.
pub all-names : (n : Package) → Contains two.packages n → IsClusterName two a n.name
all-names n there = elim (one-of a b n there) [
  | inl is ↦ (a, a-in, ap (λ (x : Package). x.name) is)
  | inr is ↦ (b, b-in, ap (λ (x : Package). x.name) is)
]

-- An upload of a alone, at version 2, takes b away.
a_uploaded_alone : Uploads two a (codes "2") (later_a ∷ []) two.packages (later_a ∷ [])
a_uploaded_alone = record {
  cluster = (0, lit< tt, refl);
  above = two-is-above;
  uploaded = All-cons (IsUploaded two a (codes "2")) later_a [] a-uploaded (All-nil (IsUploaded two a (codes "2")));
  made = record {
    one_of_a_name = alone later_a;
    exact = λ n. (
      (λ inside. inl inside),
      λ either. elim either [
        | inl inside ↦ inside
        | inr held ↦ absurd (held.1 (all-names n held.0))
      ],
    );
  };
}

-- No upload leaves b beside the new a: a member that is not uploaded does not stay.
b_does_not_stay : ¬ Uploads two a (codes "2") (later_a ∷ []) two.packages (later_a ∷ b ∷ [])
b_does_not_stay up = elim ((up.made.exact b).0 (1, lit< tt, refl)) [
  | inl inside ↦ a_is_not_b (ap (λ (x : Package). x.name) (only later_a b inside))
  | inr held ↦ held.1 (b, b-in, refl)
]
