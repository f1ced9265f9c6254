-- Worked examples of what certificates of kinds outdated and challenged speak of: the space of `libx 1` and of
-- `p 1 [Depends: libx (<< 2)]`, of which docs/CERTIFICATES.md has a certificate.
use Rattle.std.specs.Prelude.{◌≡◌, ℕ, false, List, [], ◌∷◌, None, Some, codes, refl}
use Rattle.std.proofs.Common.{arith, inr}
use Rattle.dist_relation.specs.declared.atom.Op.TheVariants.{Lt}
use Rattle.dist_relation.specs.declared.atom.Qualifier.TheVariants.{Plain}
use Rattle.dist_version.specs.Between.{above_text}
use Rattle.dist_repo.specs.declared.package.Package.{Package}
use Rattle.dist_cert.specs.ClaimRules.{Covers}
use Rattle.dist_cert.specs.Subject.{Matter}
use Rattle.dist_classes.specs.declared.class_value.Class.TheVariants.{Above, Between, Point}
use Rattle.dist_future.specs.SpaceLaws.{future_under}
use Rattle.dist_space.specs.Space.{SpaceView}
use Rattle.dist_space.specs.declared.meaning.Meaning.TheVariants.{Now, Present, At, New}
use Rattle.dist_subject.specs.Later.{cluster_of, later_matter}
use Rattle.dist_subject.specs.Present.{truth_of}

abbrev libx : List ℕ → Package
libx version = record {
  name = codes "libx";
  version = version;
  source = codes "libx";
  source_version = codes "1";
  depends = [];
  conflicts = [];
  provides = [];
  essential = false;
}

abbrev p : Package
p = record {
  name = codes "p";
  version = codes "1";
  source = codes "p";
  source_version = codes "1";
  depends = (record { name = codes "libx"; qualifier = Plain; bound = Some (record { op = Lt; version = codes "2" }) }
      ∷ []) ∷ [];
  conflicts = [];
  provides = [];
  essential = false;
}

abbrev two : SpaceView
two = record {
  repository = record { architecture = None; packages = libx (codes "1") ∷ p ∷ [] };
  essential = false;
  clusters = record { members = (0 ∷ []) ∷ (1 ∷ []) ∷ []; tops = codes "1" ∷ codes "1" ∷ [] };
  cluster_of = 0 ∷ 1 ∷ [];
  classes = (Between (codes "1") (codes "2") ∷ Point (codes "2") ∷ Above (codes "2") ∷ [])
      ∷ (Above (codes "1") ∷ []) ∷ [];
  names = [];
  name_classes = [];
  meanings = Now ∷ Present 0 ∷ Present 1 ∷ At 0 0 ∷ New 0 0 ∷ At 0 1 ∷ New 0 1 ∷ At 0 2 ∷ New 0 2 ∷ At 1 0 ∷ New 1 0 ∷
      [];
}

abbrev matter : Matter
matter = later_matter two []

-- eleven variables; those of p, of libx at its second class, and of that class
variables : matter.variables ≡ 11
variables = refl

present_p : matter.present 2 ≡ 3
present_p = refl

second_class : matter.at 1 2 ≡ 6
second_class = refl

new_libx : matter.new 1 2 ≡ 7
new_libx = refl

-- the cluster of libx has three classes
first_cluster : cluster_of two 0 ≡ record { members = 1 ∷ []; classes = 3 }
first_cluster = refl

-- the line `m 3 4 5` stands for a future with libx between 1 and 2, and for an installation of it and of p
later_future : future_under two (truth_of 11 (3 ∷ 4 ∷ 5 ∷ [])) ≡ libx (above_text (codes "1") 1) ∷ p ∷ []
later_future = refl

-- it covers the first class of libx
covers_first : Covers matter (1, 1) (3 ∷ 4 ∷ 5 ∷ [])
covers_first = inr (1, omega arith, refl)
