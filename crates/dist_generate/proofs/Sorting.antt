-- Packages of different names, brought into order one after another.
use Rattle.std.proofs.Common.{◌≡◌, ◌≢◌, ℕ, suc, List, [], ◌∷◌, get_or, Ordering, Less, Equal, Greater, refl, ap, sym, ◌∙◌, arith, nat_cmp, is_eq}
use Rattle.std.specs.Prelude.{All, IsPermutation}
use Rattle.std.specs.Cmp.Lexicographic.{slice_cmp}
use Rattle.std.specs.Ordering.{ordering_then, ordering_reverse}
use Rattle.std.proofs.lemmas.List.Elements.{All-cons, All-head, All-tail}
use Rattle.std.proofs.lemmas.List.Sorted.{All-permutation, IsPermutation-refl, IsPermutation-cons, IsPermutation-trans, IsPermutation-middle}
use Rattle.std.proofs.lemmas.List.Kept.{AllPairs-cons}
use Rattle.std.proofs.lemmas.Map.Text.{is_eq-slice_cmp}
use Rattle.std.proofs.lemmas.Slice.Eq.{bytes_eq-Decides}
use Rattle.dist_version.specs.Order.{version_cmp}
use Rattle.dist_repo.specs.Order.{package_cmp, IsInOrder}
use Rattle.dist_repo.specs.TotalLaws.{package_total}
use Rattle.dist_repo.specs.declared.package.Package.{Package}

abbrev Below : Package → Package → Type 0
Below p q = package_cmp p q ≡ Less

-- not equal in order
abbrev pub IsApart : Package → Package → Type 0
IsApart p q = package_cmp p q ≢ Equal

-- a package comes before the first one that it is below
put : Ordering → Package → Package → List Package → List Package → List Package
put Less p q qs later = p ∷ q ∷ qs
put Equal p q qs later = q ∷ later
put Greater p q qs later = q ∷ later

insert : Package → List Package → List Package
insert p [] = p ∷ []
insert p (q ∷ qs) = put (package_cmp p q) p q qs (insert p qs)

pub sorted : List Package → List Package
sorted [] = []
sorted (p ∷ ps) = insert p (sorted ps)

-- ---- the same packages

put-permutes : (o : Ordering) (p q : Package) (qs later : List Package) → IsPermutation (p ∷ qs) later → IsPermutation (p ∷ q ∷ qs) (put o p q qs later)
unfolding put
put-permutes Less p q qs later h = IsPermutation-refl (p ∷ q ∷ qs)
put-permutes Equal p q qs later h = IsPermutation-trans (p ∷ q ∷ qs) (q ∷ p ∷ qs) (q ∷ later) (IsPermutation-middle (p ∷ []) q qs)
    (IsPermutation-cons q (p ∷ qs) later h)
put-permutes Greater p q qs later h = IsPermutation-trans (p ∷ q ∷ qs) (q ∷ p ∷ qs) (q ∷ later) (IsPermutation-middle (p ∷ []) q qs)
    (IsPermutation-cons q (p ∷ qs) later h)

insert-permutes : (p : Package) (qs : List Package) → IsPermutation (p ∷ qs) (insert p qs)
unfolding insert
insert-permutes p [] = IsPermutation-refl (p ∷ [])
insert-permutes p (q ∷ qs) = put-permutes (package_cmp p q) p q qs (insert p qs) (insert-permutes p qs)

pub sorted-permutes : (ps : List Package) → IsPermutation ps (sorted ps)
unfolding sorted
sorted-permutes [] = IsPermutation-refl []
sorted-permutes (p ∷ ps) =
    IsPermutation-trans (p ∷ ps) (p ∷ sorted ps) (insert p (sorted ps)) (IsPermutation-cons p ps (sorted ps) (sorted-permutes ps))
    (insert-permutes p (sorted ps))

-- ---- in order

tail-in_order : (q : Package) (qs : List Package) → IsInOrder (q ∷ qs) → IsInOrder qs
tail-in_order q qs ordered i j d before within = ordered (suc i) (suc j) d (omega arith) (omega arith)

head-below : (q : Package) (qs : List Package) → IsInOrder (q ∷ qs) → All (Below q) qs
head-below q qs ordered k d short = ordered 0 (suc k) d (omega arith) (omega arith)

all-below : (p q : Package) (qs : List Package) → Below p q → All (Below q) qs → All (Below p) qs
all-below p q qs below all k d short = package_total.trans p q (get_or qs k d) below (all k d short)

turned : (p q : Package) → package_cmp p q ≡ Greater → Below q p
turned p q is = package_total.antisymm q p ∙ ap ordering_reverse is

put-in_order : (o : Ordering) (p q : Package) (qs : List Package) → package_cmp p q ≡ o → IsApart p q → IsInOrder (q ∷ qs) → IsInOrder (insert p qs)
    → IsInOrder (put o p q qs (insert p qs))
unfolding put
put-in_order Less p q qs is apart ordered later =
    AllPairs-cons Below p (q ∷ qs) (All-cons (Below p) q qs is (all-below p q qs is (head-below q qs ordered))) ordered
put-in_order Equal p q qs is apart ordered later = absurd (apart is)
put-in_order Greater p q qs is apart ordered later =
    AllPairs-cons Below q (insert p qs)
    (All-permutation (Below q) (p ∷ qs) (insert p qs) (insert-permutes p qs) (All-cons (Below q) p qs (turned p q is) (head-below q qs ordered)))
    later

insert-in_order : (p : Package) (qs : List Package) → All (IsApart p) qs → IsInOrder qs → IsInOrder (insert p qs)
unfolding insert
insert-in_order p [] apart ordered = AllPairs-cons Below p [] (λ k d short. absurd (omega arith)) ordered
insert-in_order p (q ∷ qs) apart ordered =
    put-in_order (package_cmp p q) p q qs refl (All-head (IsApart p) q qs apart) ordered
    (insert-in_order p qs (All-tail (IsApart p) q qs apart) (tail-in_order q qs ordered))

-- each package is apart from each later one
abbrev pub AreApart : List Package → Type 0
AreApart [] = Unit {0}
AreApart (p ∷ ps) = All (IsApart p) ps × AreApart ps

pub sorted-in_order : (ps : List Package) → AreApart ps → IsInOrder (sorted ps)
unfolding sorted
sorted-in_order [] apart = λ i j d before within. absurd (omega arith)
sorted-in_order (p ∷ ps) apart =
    insert-in_order p (sorted ps) (All-permutation (IsApart p) ps (sorted ps) (sorted-permutes ps) apart.0) (sorted-in_order ps apart.1)

-- ---- different names

then-names : (a b : Ordering) → ordering_then a b ≡ Equal → a ≡ Equal
then-names Less b is = is
then-names Equal b is = refl
then-names Greater b is = is

same-names : (a b : List ℕ) → slice_cmp nat_cmp a b ≡ Equal → a ≡ b
same-names a b is = (bytes_eq-Decides a b).0 (sym (is_eq-slice_cmp a b) ∙ ap is_eq is)

pub apart-by_name : (p q : Package) → p.name ≢ q.name → IsApart p q
apart-by_name p q other is = other (same-names p.name q.name (then-names (slice_cmp nat_cmp p.name q.name) (version_cmp p.version q.version) is))
