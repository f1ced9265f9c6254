-- Worked examples of futures: a and b come from one source, b provides a menu and the interface abi at its own version.
use Rattle.std.specs.Prelude.{◌≡◌, ◌≢◌, ◌⊎◌, ℕ, zero, suc, true, false, List, [], ◌∷◌, None, Some, AllPairs, Contains}
use Rattle.std.specs.Prelude.{codes, slice_index_or, refl}
use Rattle.std.specs.declared.cmp.Ordering.TheVariants.{Equal}
use Rattle.std.proofs.Common.{ap, arith, inl, inr, lit<, subst, sym, ◌∙◌}
use Rattle.std.proofs.lemmas.Cmp.{tied_back, tied_itself}
use Rattle.dist_version.specs.OrderLaws.{version_total}
use Rattle.dist_version.specs.Order.{IsBelow, part_cmp, version_cmp, weights_of}
use Rattle.dist_version.specs.Spelling.{IsVersion, epoch_of, epoch_digits, after_epoch, upstream_of, revision_of}
use Rattle.dist_version.specs.Between.{without_rebuild_text}
use Rattle.dist_relation.specs.declared.atom.Provide.{Provide}
use Rattle.dist_relation.specs.declared.atom.Qualifier.TheVariants.{Plain}
use Rattle.dist_repo.specs.PackageList.{PackageList}
use Rattle.dist_repo.specs.declared.package.Package.{Package}
use Rattle.dist_classes.specs.NewVersion.{AreCarried, IsAt, IsNewOf}
use Rattle.dist_future.specs.Future.{IsFuture, IsInClusterOf, IsTaken}

abbrev menu : Provide
menu = record { name = codes "menu"; qualifier = Plain; version = None }

abbrev abi : List ℕ → Provide
abi version = record { name = codes "abi"; qualifier = Plain; version = Some version }

abbrev made : List ℕ → List ℕ → List Provide → Package
made name version provides = record {
  name = name;
  version = version;
  source = codes "s";
  source_version = codes "1";
  depends = [];
  conflicts = [];
  provides = provides;
  essential = false;
}

abbrev pub a : Package
a = made (codes "a") (codes "1") []

abbrev pub b : Package
b = made (codes "b") (codes "1") (menu ∷ abi (codes "1") ∷ [])

abbrev pub two : PackageList
two = record { architecture = None; packages = a ∷ b ∷ [] }

-- the versions 2 of both: b has dropped the menu, and kept abi, which is at 2 now
abbrev pub later_a : Package
later_a = made (codes "a") (codes "2") []

abbrev pub later_b : Package
later_b = made (codes "b") (codes "2") (abi (codes "2") ∷ [])

-- ---- lists of two, and names

pub one-of : (p q x : Package) → Contains (p ∷ q ∷ []) x → (p ≡ x) ⊎ (q ≡ x)
one-of p q x (zero, short, is) = inl is
one-of p q x (suc zero, short, is) = inr is
one-of p q x (suc (suc k), short, is) = absurd (omega (arith, short))

a_is_not_b : codes "a" ≢ codes "b"
a_is_not_b e = let differ : 97 ≡ 98 = ap (λ (s : List ℕ). slice_index_or s 0 0) e in omega (arith, differ)

pub pair : (p q : Package) → p.name ≢ q.name → AllPairs (λ (x y : Package). x.name ≢ y.name) (p ∷ q ∷ [])
pair p q differ zero zero d less short = absurd (omega (arith, less))
pair p q differ zero (suc zero) d less short = differ
pair p q differ zero (suc (suc j)) d less short = absurd (omega (arith, short))
pair p q differ (suc i) j d less short = absurd (omega (arith, less, short))

-- ---- both members move together

pub two-is-version : IsVersion (codes "2")
two-is-version = (
  record { epoch = 0; upstream = codes "2"; revision = None },
  record {
    front = [];
    whole = refl;
    epoch = inr (refl, refl);
    small = omega arith;
    upstream = (lit< tt, refl);
    revision = tt;
    written = λ h. absurd (let no-colon : false ≡ true = h in cc);
    revised = λ h. absurd (let no-hyphen : false ≡ true = h in cc);
  },
)

pub one-below-two : IsBelow (codes "1") (codes "2")
unfolding version_cmp part_cmp weights_of epoch_of epoch_digits after_epoch upstream_of revision_of
one-below-two = refl

pub two-is-two : version_cmp (codes "2") (codes "2") ≡ Equal
unfolding version_cmp part_cmp weights_of epoch_of epoch_digits after_epoch upstream_of revision_of
two-is-two = refl

above-both : (q : Package) → Contains two.packages q → IsBelow q.version (codes "2")
above-both q there = elim (one-of a b q there) [
  | inl is ↦ subst (λ (x : Package). IsBelow x.version (codes "2")) is one-below-two
  | inr is ↦ subst (λ (x : Package). IsBelow x.version (codes "2")) is one-below-two
]

abi-at-one : IsAt (abi (codes "1")) (codes "1")
unfolding version_cmp part_cmp weights_of epoch_of epoch_digits after_epoch upstream_of revision_of
abi-at-one = refl

abi-at-two : IsAt (abi (codes "2")) (codes "2")
unfolding version_cmp part_cmp weights_of epoch_of epoch_digits after_epoch upstream_of revision_of
abi-at-two = refl

-- of b's entries the second is kept
kept-second : AreCarried (codes "1") (codes "2") (false ∷ true ∷ []) b.provides later_b.provides
kept-second = (
  abi (codes "2"),
  [],
  refl,
  record {
    name = refl;
    qualifier = refl;
    moved = λ at. abi-at-two;
    spelled = λ at. two-is-version;
    stays = λ other. absurd (other abi-at-one);
  },
  refl,
)

new-a : IsNewOf a later_a
new-a = ([], record { name = refl; version = two-is-version; provides = refl })

new-b : IsNewOf b later_b
new-b = (false ∷ true ∷ [], record { name = refl; version = two-is-version; provides = kept-second })

both-are-new : (q n : Package) → Contains two.packages q → Contains (later_a ∷ later_b ∷ []) n → n.name ≡ q.name
    → IsNewOf q n × (version_cmp n.version (codes "2") ≡ Equal)
both-are-new q n there inside name = elim (one-of a b q there) [
  | inl old ↦ elim (one-of later_a later_b n inside) [
    | inl new ↦ subst (λ (x : Package). IsNewOf x n × (version_cmp n.version (codes "2") ≡ Equal)) old
        (subst (λ (x : Package). IsNewOf a x × (version_cmp x.version (codes "2") ≡ Equal)) new (new-a, two-is-two))
    | inr new ↦ absurd (a_is_not_b (ap (λ (x : Package). x.name) old ∙ sym name
        ∙ sym (ap (λ (x : Package). x.name) new)))
  ]
  | inr old ↦ elim (one-of later_a later_b n inside) [
    | inl new ↦ absurd (a_is_not_b (ap (λ (x : Package). x.name) new ∙ name ∙ sym (ap (λ (x : Package). x.name) old)))
    | inr new ↦ subst (λ (x : Package). IsNewOf x n × (version_cmp n.version (codes "2") ≡ Equal)) old
        (subst (λ (x : Package). IsNewOf b x × (version_cmp x.version (codes "2") ≡ Equal)) new (new-b, two-is-two))
  ]
]

taken : (n : Package) → Contains (later_a ∷ later_b ∷ []) n → IsTaken two n.name
taken n inside = elim (one-of later_a later_b n inside) [
  | inl is ↦ (0, a, lit< tt, refl, ap (λ (x : Package). x.name) is)
  | inr is ↦ (1, b, lit< tt, refl, ap (λ (x : Package). x.name) is)
]

-- Both at version 2 are a future.
moved_together : IsFuture two (later_a ∷ later_b ∷ [])
moved_together = record {
  one_of_a_name = pair later_a later_b a_is_not_b;
  clusters = λ c there. inr (record {
    version = codes "2";
    above = record { is_version = two-is-version; above = λ q in_cluster. above-both q in_cluster.there };
    moved = λ q n in_cluster inside name. both-are-new q n in_cluster.there inside name;
  });
  fresh = λ n inside untaken. absurd (untaken (taken n inside));
}

-- ---- one member alone moves

pub itself : (version : List ℕ) → version_cmp version version ≡ Equal
itself version = tied_itself version_total version

a-and-a : IsInClusterOf two a a
a-and-a = record {
  there = (0, lit< tt, refl);
  clustered = record {
    source = refl;
    source_version = itself (codes "1");
    version = itself (without_rebuild_text (codes "1"));
  };
}

a-and-b : IsInClusterOf two a b
a-and-b = record {
  there = (1, lit< tt, refl);
  clustered = record {
    source = refl;
    source_version = itself (codes "1");
    version = itself (without_rebuild_text (codes "1"));
  };
}

one_is_not_two : codes "2" ≢ codes "1"
one_is_not_two e = let differ : 50 ≡ 49 = ap (λ (s : List ℕ). slice_index_or s 0 0) e in omega (arith, differ)

never-both : (v : List ℕ) → version_cmp (codes "2") v ≡ Equal → ¬ (version_cmp (codes "1") v ≡ Equal)
never-both v two_is one_is =
    let back = tied_back version_total (codes "2") v two_is in
    let equal : version_cmp (codes "1") (codes "2") ≡ Equal = version_total.congr (codes "1") v (codes "2") one_is
    ∙ back in
    let less = one-below-two in cc

-- a at 2 beside b at 1 is none: neither do all packages with names of the cluster stay, nor are all at one later
-- version.
moved_alone : ¬ IsFuture two (later_a ∷ b ∷ [])
moved_alone future = elim (future.clusters a (0, lit< tt, refl)) [
  | inl stays ↦ one_is_not_two (ap (λ (x : Package). x.version) (stays a later_a a-and-a (0, lit< tt, refl) refl))
  | inr moves ↦ never-both moves.version (moves.moved a later_a a-and-a (0, lit< tt, refl) refl).1
      (moves.moved b b a-and-b (1, lit< tt, refl) refl).1
]

-- ---- a virtual name stays virtual

no-package-is-menu : ¬ IsTaken two (codes "menu")
no-package-is-menu taken_by = elim (one-of a b taken_by.1 (taken_by.0, taken_by.2, taken_by.3)) [
  | inl is ↦ let differ : 97 ≡ 109 = ap (λ (s : List ℕ). slice_index_or s 0 0)
      (ap (λ (x : Package). x.name) is ∙ taken_by.4) in omega (arith, differ)
  | inr is ↦ let differ : 98 ≡ 109 = ap (λ (s : List ℕ). slice_index_or s 0 0)
      (ap (λ (x : Package). x.name) is ∙ taken_by.4) in omega (arith, differ)
]

-- No future has a package of the name menu, which b provides and no package has.
no_menu : (n : Package) (future : List Package) → n.name ≡ codes "menu" → Contains future n → ¬ IsFuture two future
no_menu n future name there is =
    let fresh = is.fresh n there (subst (λ (x : List ℕ). ¬ IsTaken two x) (sym name) no-package-is-menu) in
    fresh.1 (1, b, lit< tt, refl, (0, menu, lit< tt, refl, (tt, sym name)))
