-- To be clustered is a tie in a total order, so that it is an equivalence.
use Rattle.std.proofs.Common.{◌≡◌, ℕ, List, Bool, true, cond, [], ◌∷◌, Ordering, Less, Equal, Greater, nat_cmp, is_eq, Some, refl, sym, ap, ◌∙◌}
use Rattle.std.specs.BTreeMap.{is_at}
use Rattle.std.specs.Cmp.Lexicographic.{slice_cmp}
use Rattle.std.specs.Map.{lookup}
use Rattle.std.specs.Ordering.{ordering_then}
use Rattle.std.proofs.lemmas.Cmp.{nat_list_cmp_total, tied_back, tied_itself}
use Rattle.std.proofs.lemmas.Map.Text.{is_eq-slice_cmp}
use Rattle.std.proofs.lemmas.Slice.Eq.{bytes_eq-Decides}
use Rattle.dist_version.specs.Between.{without_rebuild_text}
use Rattle.dist_version.specs.Order.{version_cmp}
use Rattle.dist_cluster.specs.Relation.{Member, AreClustered}
use Rattle.dist_cluster.specs.Found.{number_at}
use Rattle.dist_cluster.specs.TotalLaws.{member_cmp, member_total}

pub same_names : (a b : List ℕ) → slice_cmp nat_cmp a b ≡ Equal → a ≡ b
same_names a b is = (bytes_eq-Decides a b).0 (sym (is_eq-slice_cmp a b) ∙ ap is_eq is)

pub then-first : (a b : Ordering) → ordering_then a b ≡ Equal → a ≡ Equal
then-first Less b is = is
then-first Equal b is = refl
then-first Greater b is = is

pub then-second : (a b : Ordering) → ordering_then a b ≡ Equal → b ≡ Equal
then-second Less b is = cc
then-second Equal b is = is
then-second Greater b is = cc

pub names-tied : (a b : List ℕ) → a ≡ b → slice_cmp nat_cmp a b ≡ Equal
names-tied a b same = ap (slice_cmp nat_cmp a) (sym same) ∙ tied_itself nat_list_cmp_total a

abbrev versions_cmp : Member → Member → Ordering
versions_cmp a b = ordering_then (version_cmp a.source_version b.source_version) (version_cmp (without_rebuild_text a.version) (without_rebuild_text b.version))

pub clustered-tied : (a b : Member) → member_cmp a b ≡ Equal → AreClustered a b
clustered-tied a b tied =
    let rest : versions_cmp a b ≡ Equal = then-second (slice_cmp nat_cmp a.source b.source) (versions_cmp a b) tied in
    record {
      source = same_names a.source b.source (then-first (slice_cmp nat_cmp a.source b.source) (versions_cmp a b) tied);
      source_version = then-first (version_cmp a.source_version b.source_version)
          (version_cmp (without_rebuild_text a.version) (without_rebuild_text b.version)) rest;
      version = then-second (version_cmp a.source_version b.source_version) (version_cmp (without_rebuild_text a.version) (without_rebuild_text b.version))
          rest;
    }

pub tied-clustered : (a b : Member) → AreClustered a b → member_cmp a b ≡ Equal
tied-clustered a b h =
    ap (λ o. ordering_then o (versions_cmp a b)) (names-tied a.source b.source h.source)
    ∙ ap (λ o. ordering_then o (version_cmp (without_rebuild_text a.version) (without_rebuild_text b.version))) h.source_version
    ∙ h.version

pub clustered-itself : (a : Member) → AreClustered a a
clustered-itself a = clustered-tied a a (tied_itself member_total a)

pub clustered-turned : (a b : Member) → AreClustered a b → AreClustered b a
clustered-turned a b h = clustered-tied b a (tied_back member_total a b (tied-clustered a b h))

pub clustered-joined : (a b c : Member) → AreClustered a b → AreClustered b c → AreClustered a c
clustered-joined a b c h g = clustered-tied a c (member_total.congr a b c (tied-clustered a b h) ∙ tied-clustered b c g)

-- ---- a map has one number for all of a cluster

lookup-same : {K X : Type 0} (f g : K → Bool) → ((k : K) → f k ≡ g k) → (es : List (K × X)) → lookup f es ≡ lookup g es
lookup-same f g same [] = refl
lookup-same f g same (e ∷ es) = ap (λ b. cond b (Some e.1) (lookup f es)) (same e.0) ∙ ap (λ o. cond (g e.0) (Some e.1) o) (lookup-same f g same es)

pub number-same : (numbers : List (Member × ℕ)) (p q : Member) → AreClustered p q → number_at numbers p ≡ number_at numbers q
number-same numbers p q h =
    lookup-same (is_at (member_cmp p)) (is_at (member_cmp q)) (λ k. ap is_eq (member_total.congr p q k (tied-clustered p q h))) numbers

tied-is : (o : Ordering) → is_eq o ≡ true → o ≡ Equal
tied-is Less h = cc
tied-is Equal h = refl
tied-is Greater h = cc

pub clustered-found : (p q : Member) → is_at (member_cmp p) q ≡ true → AreClustered p q
clustered-found p q h = clustered-tied p q (tied-is (member_cmp p q) h)

pub found-itself : (p : Member) → is_at (member_cmp p) p ≡ true
found-itself p = ap is_eq (tied_itself member_total p)
