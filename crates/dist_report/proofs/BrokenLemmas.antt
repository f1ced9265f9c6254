-- The packages that are put into the lists of the classes that break them, and the lines of those classes.
use Rattle.std.proofs.Common.{◌≡◌, ℕ, ◌<◌, Bool, List, [], ◌++◌, length, get_or, Option, None, Some, refl, sym, ap, ◌∙◌, arith, slice_get}
use Rattle.std.specs.Prelude.{◌==◌, IsSomeAnd, filter}
use Rattle.std.specs.List.{flat_map, range_with_len}
use Rattle.std.specs.Option.{option_map_or}
use Rattle.std.proofs.Math.Path.{fun_ext}
use Rattle.std.proofs.lemmas.Option.{get_or_from_slice_get, slice_get-get_or, slice_get_within}
use Rattle.dist_cert.specs.Rising.{is_among}
use Rattle.dist_cert.specs.declared.records.Claim.{Claim}
use Rattle.dist_cluster.specs.Top.{ClusterList}
use Rattle.dist_repo.specs.PackageList.{PackageList}
use Rattle.dist_repo.specs.declared.package.Package.{Package}
use Rattle.dist_classes.specs.declared.class_value.Class.{Class}
use Rattle.dist_report.specs.ChallengedReport.{broken_by, broken_lines, class_pairs, has_pair, pair_lines, told_classes}
use Rattle.dist_report.specs.ClaimParts.{has_some, packages_with}
use Rattle.dist_report.specs.ClaimPartsPrivate.{key_of, pairs_of}
use Rattle.dist_report.specs.ClassTablePrivate.{AreKept, HasClass, kept_classes, kept_lines, place_lines}
use Rattle.dist_report.specs.Lines.{key_line, listed}
use Rattle.dist_report.specs.declared.claim_parts.Listing.{Listing}
use Rattle.dist_report.proofs.KeptLemmas.{lines-kept}
use Rattle.dist_report.proofs.PlaceLemmas.{ArePicked, ArePlaces, picked-at, told-picked}

-- the claim lists the pair of a place
abbrev pub lists-place : Listing → List (ℕ × ℕ) → ℕ → Claim → Bool
lists-place kind row place claim = has_pair (pairs_of kind claim) (get_or row place (0, 0))

pub places-listed : (kind : Listing) (row : List (ℕ × ℕ)) (claim : Claim) (pairs : List (ℕ × ℕ)) (places : List ℕ) → pairs ≡ pairs_of kind claim
    → ArePlaces row pairs places → (place : ℕ) → place < length row → is_among places place ≡ lists-place kind row place claim
places-listed kind row claim pairs places is are place short =
    let pair : ℕ × ℕ = get_or row place (0, 0) in
    are place pair (slice_get-get_or row place (0, 0) short) ∙ ap (λ (list : List (ℕ × ℕ)). has_pair list pair) is

pub lists-broken : (kind : Listing) (row : List (ℕ × ℕ)) (made : List Claim) (lists : List (List ℕ))
    → ((place : ℕ) → place < length row → get_or lists place [] ≡ packages_with (lists-place kind row place) made)
    → (place : ℕ) (pair : ℕ × ℕ) → slice_get row place ≡ Some pair → get_or lists place [] ≡ broken_by (pairs_of kind) made pair
lists-broken kind row made lists each place pair is =
    each place (slice_get_within row place pair is) ∙ ap (broken_by (pairs_of kind) made) (get_or_from_slice_get row place pair (0, 0) is)

-- ---- what is kept of a pair

has-own : (classes : List (List Class)) (pair : ℕ × ℕ) (o : Option (List Class)) → slice_get classes pair.0 ≡ o
    → IsSomeAnd o (λ own. pair.1 < length own) → (pair.0 < length classes) × (pair.1 < length (get_or classes pair.0 []))
has-own classes pair None is has = absurd has
has-own classes pair (Some own) is has =
    let at : get_or classes pair.0 [] ≡ own = get_or_from_slice_get classes pair.0 own [] is in
    (slice_get_within classes pair.0 own is, omega (arith, has, ap length at))

pub class-there : (classes : List (List Class)) (pair : ℕ × ℕ) → HasClass classes pair
    → (pair.0 < length classes) × (pair.1 < length (get_or classes pair.0 []))
class-there classes pair has = has-own classes pair (slice_get classes pair.0) refl has

pub lines-of-kept : (packages : List Package) (members : List (List ℕ)) (classes : List (List Class)) (broken : List ℕ) (pair : ℕ × ℕ) (own : List Class)
    (class : Class) (ms : List ℕ) → slice_get classes pair.0 ≡ Some own → slice_get own pair.1 ≡ Some class → slice_get members pair.0 ≡ Some ms
    → broken_lines packages ms broken class ≡ kept_lines packages members classes broken pair
lines-of-kept packages members classes broken pair own class ms first second third =
    let m : get_or members pair.0 [] ≡ ms = get_or_from_slice_get members pair.0 ms [] third in
    rw (first, second, m) refl

-- ---- the lines of the classes that are told

module _ (packages : List Package) (members : List (List ℕ)) (classes : List (List Class)) (kind : Listing) (made : List Claim) (row : List (ℕ × ℕ))
    (lists : List (List ℕ)) (long : length lists ≡ length row)
    (each : (place : ℕ) (pair : ℕ × ℕ) → slice_get row place ≡ Some pair → get_or lists place [] ≡ broken_by (pairs_of kind) made pair) where
  pub lines-by-place : (places : List ℕ) → places ≡ filter (λ place. has_some (get_or lists place [])) (range_with_len 0 (length lists))
      → row ≡ class_pairs classes
      → key_line (key_of kind) (length places == 0) ++ flat_map (place_lines packages members classes row lists) places
      ≡ kept_classes kind packages members classes made
  lines-by-place places picked is =
      let test : ℕ → Bool = λ place. has_some (get_or lists place []) in
      let own : ℕ × ℕ → Bool = λ pair. has_some (broken_by (pairs_of kind) made pair) in
      let lines : ℕ → List ℕ = place_lines packages members classes row lists in
      let lines' : ℕ × ℕ → List ℕ = λ pair. kept_lines packages members classes (broken_by (pairs_of kind) made pair) pair in
      let are : ArePicked lines lines' (filter test (range_with_len 0 (length row))) (filter own row) =
      picked-at test own lines lines' row (λ place pair here. (
        ap has_some (each place pair here),
        ap (λ (o : Option (ℕ × ℕ)). option_map_or (kept_lines packages members classes (get_or lists place [])) o []) here
            ∙ ap (λ (l : List ℕ). kept_lines packages members classes l pair) (each place pair here),
      )) in
      ap (λ (l : List ℕ). key_line (key_of kind) (length l == 0) ++ flat_map lines l) (picked ∙ ap (λ (n : ℕ). filter test (range_with_len 0 n)) long)
      ∙ told-picked (key_of kind) lines lines' (filter test (range_with_len 0 (length row))) (filter own row) are
      ∙ ap (λ (l : List (ℕ × ℕ)). listed (key_of kind) lines' (filter own l)) is

pub told-of-kept : (r : PackageList) (clusters : ClusterList) (classes : List (List Class)) (kept : AreKept r clusters classes) (kind : Listing)
    (made : List Claim) → kept_classes kind r.packages clusters.members classes made ≡ told_classes (key_of kind) (pairs_of kind) r.packages kept.told made
told-of-kept r clusters classes kept kind made =
    let test : ℕ × ℕ → Bool = λ pair. has_some (broken_by (pairs_of kind) made pair) in
    let lines : ℕ × ℕ → List ℕ = λ pair. kept_lines r.packages clusters.members classes (broken_by (pairs_of kind) made pair) pair in
    let lines' : ℕ × ℕ → List ℕ = λ pair. pair_lines r.packages kept.told (broken_by (pairs_of kind) made pair) pair in
    let same : lines ≡ lines' = fun_ext (λ pair. lines-kept r clusters classes kept (broken_by (pairs_of kind) made pair) pair) in
    ap (λ (f : ℕ × ℕ → List ℕ). listed (key_of kind) f (filter test (class_pairs classes))) same
    ∙ ap (λ (k : List (List Class)). listed (key_of kind) lines' (filter test (class_pairs k))) (sym kept.classes_are)
