-- The last package of each name is the newest.
use Rattle.std.proofs.Common.{◌≡◌, ◌≢◌, ◌↔◌, ◌⊎◌, ℕ, zero, suc, ◌<◌, ◌≤◌, Bool, true, false, not, cond, List, [], ◌∷◌, length, get_or, Less, Greater, refl, sym}
use Rattle.std.proofs.Common.{ap, subst, ◌∙◌, arith, inl, inr, nat_cmp, bytes_eq}
use Rattle.std.specs.Prelude.{All, Contains}
use Rattle.std.specs.Cmp.Lexicographic.{slice_cmp}
use Rattle.std.specs.Ordering.{ordering_then, ordering_reverse}
use Rattle.std.proofs.lemmas.Bool.{false≢true}
use Rattle.std.proofs.lemmas.Cmp.{tied_itself}
use Rattle.std.proofs.lemmas.List.Elements.{All-cons, All-head, All-tail, All-contains, Contains-get_or}
use Rattle.std.proofs.lemmas.List.Kept.{AllPairs-cons}
use Rattle.std.proofs.lemmas.Slice.Eq.{bytes_eq-Decides}
use Rattle.dist_version.specs.OrderLaws.{version_total}
use Rattle.dist_version.specs.Order.{version_cmp}
use Rattle.dist_repo.specs.LatestPrivate.{is_last_of_name, last_of_names}
use Rattle.dist_repo.specs.Order.{package_cmp, IsFlat, IsInOrder, IsNewest, IsLatestOf}
use Rattle.dist_repo.specs.PackageList.{PackageList}
use Rattle.dist_repo.specs.Size.{IsWithinSize}
use Rattle.dist_repo.specs.declared.package.Package.{Package}
use Rattle.dist_repo.proofs.EachOnce.{fewer-packages, fewer-relations, one-list}
use Rattle.dist_repo.proofs.HeldLemmas.{names-tied, same_names}
use Rattle.dist_repo.proofs.OrderLemmas.{then-less, between-equal}

abbrev Below : Package → Package → Type 0
Below p q = package_cmp p q ≡ Less

-- ---- a list and its first element

tail-in_order : (p : Package) (ps : List Package) → IsInOrder (p ∷ ps) → IsInOrder ps
tail-in_order p ps ordered i j d before within = ordered (suc i) (suc j) d (omega arith) (omega arith)

head-below : (p : Package) (ps : List Package) → IsInOrder (p ∷ ps) → All (Below p) ps
head-below p ps ordered k d short = ordered 0 (suc k) d (omega arith) (omega arith)

contains-head : (p : Package) (ps : List Package) → Contains (p ∷ ps) p
contains-head p ps = (0, omega arith, refl)

contains-later : (p : Package) (ps : List Package) (q : Package) → Contains ps q → Contains (p ∷ ps) q
contains-later p ps q there = (suc there.0, omega (arith, there.1), there.2)

contains-at : (p : Package) (ps : List Package) (q : Package) (k : ℕ) → k < length (p ∷ ps) → get_or (p ∷ ps) k q ≡ q → (p ≡ q) ⊎ Contains ps q
contains-at p ps q zero short is = inl is
contains-at p ps q (suc k) short is = inr (k, omega arith, is)

contains-cases : (p : Package) (ps : List Package) (q : Package) → Contains (p ∷ ps) q → (p ≡ q) ⊎ Contains ps q
contains-cases p ps q there = contains-at p ps q there.0 there.1 there.2

-- ---- what is kept is of the list

all-kept-case : (P : Package → Type 0) (b : Bool) (p : Package) (ps : List Package) → P p → All P (last_of_names ps)
    → All P (cond b (p ∷ last_of_names ps) (last_of_names ps))
all-kept-case P true p ps here rest = All-cons P p (last_of_names ps) here rest
all-kept-case P false p ps here rest = rest

pub all-kept : (P : Package → Type 0) (ps : List Package) → All P ps → All P (last_of_names ps)
all-kept P [] all = all
all-kept P (p ∷ ps) all = all-kept-case P (is_last_of_name p ps) p ps (All-head P p ps all) (all-kept P ps (All-tail P p ps all))

in_order-kept-case : (b : Bool) (p : Package) (ps : List Package) → All (Below p) (last_of_names ps) → IsInOrder (last_of_names ps)
    → IsInOrder (cond b (p ∷ last_of_names ps) (last_of_names ps))
in_order-kept-case true p ps below rest = AllPairs-cons Below p (last_of_names ps) below rest
in_order-kept-case false p ps below rest = rest

pub in_order-kept : (ps : List Package) → IsInOrder ps → IsInOrder (last_of_names ps)
in_order-kept [] ordered = ordered
in_order-kept (p ∷ ps) ordered =
    in_order-kept-case (is_last_of_name p ps) p ps (all-kept (Below p) ps (head-below p ps ordered)) (in_order-kept ps (tail-in_order p ps ordered))

short-kept-case : (b : Bool) (p : Package) (ps : List Package) → length (last_of_names ps) ≤ length ps
    → length (cond b (p ∷ last_of_names ps) (last_of_names ps)) ≤ length (p ∷ ps)
short-kept-case true p ps short = omega arith
short-kept-case false p ps short = omega arith

pub short-kept : (ps : List Package) → length (last_of_names ps) ≤ length ps
short-kept [] = omega arith
short-kept (p ∷ ps) = short-kept-case (is_last_of_name p ps) p ps (short-kept ps)

-- ---- versions of one name

-- of two packages of one name in order, the first has the lesser version
version-below : (p q : Package) → Below p q → p.name ≡ q.name → version_cmp p.version q.version ≡ Less
version-below p q below same = sym (ap (λ o. ordering_then o (version_cmp p.version q.version)) (names-tied p.name q.name same)) ∙ below

abbrev NotBelow : Package → Package → Type 0
NotBelow p q = q.name ≡ p.name → version_cmp p.version q.version ≢ Less

not-below-earlier : (q p : Package) → Below q p → NotBelow p q
not-below-earlier q p below same less =
    let lesser = version-below q p below same in
    let turned : version_cmp p.version q.version ≡ Greater = version_total.antisymm p.version q.version ∙ ap ordering_reverse lesser in cc

not-below-itself : (p : Package) → NotBelow p p
not-below-itself p same less = let tied = tied_itself version_total p.version in cc

-- ---- exactly the newest are kept

drop-newest : (p : Package) (ps : List Package) (q : Package) → IsNewest (p ∷ ps) q → Contains ps q → IsNewest ps q
drop-newest p ps q newest there = record { there = there; newest = All-tail (NotBelow q) p ps newest.newest }

add-newest : (p : Package) (ps : List Package) (q : Package) → IsInOrder (p ∷ ps) → IsNewest ps q → IsNewest (p ∷ ps) q
add-newest p ps q ordered newest = record {
  there = contains-later p ps q newest.there;
  newest = All-cons (NotBelow q) p ps (not-below-earlier p q (All-contains (Below p) ps q (head-below p ps ordered) newest.there)) newest.newest;
}

-- the first package is not the newest, where the next one has its name
head-not_newest : (p n : Package) (ps : List Package) → IsInOrder (p ∷ n ∷ ps) → p.name ≡ n.name → ¬ IsNewest (p ∷ n ∷ ps) p
head-not_newest p n ps ordered same newest =
    let below = All-head (Below p) n ps (head-below p (n ∷ ps) ordered) in
    All-head (NotBelow p) n ps (All-tail (NotBelow p) p (n ∷ ps) newest.newest) (sym same) (version-below p n below same)

-- a later package has another name, where the next one has
other-name : (p n q : Package) → Below p n → (n ≡ q) ⊎ Below n q → p.name ≢ n.name → q.name ≢ p.name
other-name p n q first later different same =
    elim later [
      | inl is ↦ different (sym same ∙ ap (λ (x : Package). x.name) (sym is))
      | inr second ↦
          let between = between-equal p.name n.name q.name (then-less (slice_cmp nat_cmp p.name n.name) _ first)
          (then-less (slice_cmp nat_cmp n.name q.name) _ second) (sym same) in
          different (sym same ∙ sym (same_names n.name q.name between))
    ]

head-newest : (p n : Package) (ps : List Package) → IsInOrder (p ∷ n ∷ ps) → p.name ≢ n.name → IsNewest (p ∷ n ∷ ps) p
head-newest p n ps ordered different =
    let first = All-head (Below p) n ps (head-below p (n ∷ ps) ordered) in
    let later = head-below n ps (tail-in_order p (n ∷ ps) ordered) in
    record {
      there = contains-head p (n ∷ ps);
      newest = All-cons (NotBelow p) p (n ∷ ps) (not-below-itself p)
          (All-cons (NotBelow p) n ps (λ same. absurd (different (sym same)))
          (λ k d short same. absurd (other-name p n (get_or ps k d) first (inr (later k d short)) different same)));
    }

kept-case : (b : Bool) (p n : Package) (ps : List Package) → bytes_eq p.name n.name ≡ b → IsInOrder (p ∷ n ∷ ps)
    → ((q : Package) → Contains (last_of_names (n ∷ ps)) q ↔ IsNewest (n ∷ ps) q) →
    (q : Package) → Contains (cond (not b) (p ∷ last_of_names (n ∷ ps)) (last_of_names (n ∷ ps))) q ↔ IsNewest (p ∷ n ∷ ps) q
kept-case true p n ps is ordered rest q =
    let same : p.name ≡ n.name = (bytes_eq-Decides p.name n.name).0 is in
    let Newest : Package → Type 0 = λ x. IsNewest (p ∷ n ∷ ps) x in (
      (λ there. add-newest p (n ∷ ps) q ordered ((rest q).0 there)),
      λ newest. elim (contains-cases p (n ∷ ps) q newest.there) [
        | inl here ↦ absurd (head-not_newest p n ps ordered same (subst Newest (sym here) newest))
        | inr later ↦ (rest q).1 (drop-newest p (n ∷ ps) q newest later)
      ],
    )
kept-case false p n ps is ordered rest q =
    let different : p.name ≢ n.name = λ same. false≢true (sym is ∙ (bytes_eq-Decides p.name n.name).1 same) in
    let Newest : Package → Type 0 = λ x. IsNewest (p ∷ n ∷ ps) x in
    let Kept : Package → Type 0 = λ x. Contains (p ∷ last_of_names (n ∷ ps)) x in (
      (λ there. elim (contains-cases p (last_of_names (n ∷ ps)) q there) [
        | inl here ↦ subst Newest here (head-newest p n ps ordered different)
        | inr later ↦ add-newest p (n ∷ ps) q ordered ((rest q).0 later)
      ]),
      λ newest. elim (contains-cases p (n ∷ ps) q newest.there) [
        | inl here ↦ subst Kept here (contains-head p (last_of_names (n ∷ ps)))
        | inr later ↦ contains-later p (last_of_names (n ∷ ps)) q ((rest q).1 (drop-newest p (n ∷ ps) q newest later))
      ],
    )

pub kept-newest : (ps : List Package) → IsInOrder ps → (q : Package) → Contains (last_of_names ps) q ↔ IsNewest ps q
kept-newest [] ordered q = ((λ there. absurd (omega (arith, there.1))), λ newest. newest.there)
kept-newest (p ∷ []) ordered q =
    let Newest : Package → Type 0 = λ x. IsNewest (p ∷ []) x in (
      (λ there. elim (contains-cases p [] q there) [
        | inl here ↦ subst Newest here (record {
          there = contains-head p [];
          newest = All-cons (NotBelow p) p [] (not-below-itself p) (λ k d short. absurd (omega arith));
        })
        | inr later ↦ absurd (omega (arith, later.1))
      ]),
      λ newest. newest.there,
    )
kept-newest (p ∷ n ∷ ps) ordered q = kept-case (bytes_eq p.name n.name) p n ps refl ordered (kept-newest (n ∷ ps) (tail-in_order p (n ∷ ps) ordered)) q

-- ---- one of each name

pub flat-from_newest : (ps kept : List Package) → IsInOrder kept → ((q : Package) → Contains kept q → IsNewest ps q) → IsFlat kept
flat-from_newest ps kept ordered newest i j d before within same =
    let p = get_or kept i d in
    let q = get_or kept j d in
    let short : i < length kept = omega arith in
    let here = newest p (Contains-get_or kept i d short) in
    let there = newest q (Contains-get_or kept j d within) in
    All-contains (NotBelow p) ps q here.newest there.there (sym same) (version-below p q (ordered i j d before within) same)

-- ---- the repository of the newest versions

pub is-latest : (r : PackageList) → IsInOrder r.packages → IsLatestOf r (record { architecture = r.architecture; packages = last_of_names r.packages })
is-latest r ordered = record {
  newest = kept-newest r.packages ordered;
  in_order = in_order-kept r.packages ordered;
  flat = flat-from_newest r.packages (last_of_names r.packages) (in_order-kept r.packages ordered) (λ q there. (kept-newest r.packages ordered q).0 there);
  architecture = refl;
}

pub some-latest : (r : PackageList) → IsInOrder r.packages → (latest : PackageList) × IsLatestOf r latest
some-latest r ordered = (record { architecture = r.architecture; packages = last_of_names r.packages }, is-latest r ordered)

all-through : (r a b : PackageList) → IsLatestOf r a → IsLatestOf r b → All (Contains b.packages) a.packages
all-through r a b first second k d within =
    let p = get_or a.packages k d in
    (second.newest p).1 ((first.newest p).0 (Contains-get_or a.packages k d within))

pub one-latest : (r latest other : PackageList) → IsLatestOf r latest → IsLatestOf r other → other ≡ latest
one-latest r latest other first second =
    let packages : other.packages ≡ latest.packages = one-list other.packages latest.packages second.in_order first.in_order
    (all-through r other latest second first) (all-through r latest other first second) in
    let architecture : other.architecture ≡ latest.architecture = second.architecture ∙ sym first.architecture in
    λ i. record { architecture = architecture i; packages = packages i }

pub latest-within : (r latest : PackageList) → IsLatestOf r latest → IsWithinSize r → IsWithinSize latest
latest-within r latest is size =
    let there : All (Contains r.packages) latest.packages = λ k d within.
    ((is.newest (get_or latest.packages k d)).0 (Contains-get_or latest.packages k d within)).there in
    record {
      packages = omega (arith, size.packages, fewer-packages latest.packages r.packages is.in_order there);
      relations = omega (arith, size.relations, fewer-relations latest.packages r.packages is.in_order there);
    }
