-- Clusters that installations use, of which some are left out.
use Rattle.std.proofs.Common.{◌≡◌, ℕ, zero, suc, ◌+◌, ◌-◌, ◌<◌, ◌≤◌, ◌&&◌, Bool, true, false, List, [], ◌∷◌, ◌++◌, length, get_or, map}
use Rattle.std.proofs.Common.{refl, sym, ap, subst, ◌∙◌, arith, drop, filter, length-append}
use Rattle.std.specs.List.{All, list_all}
use Rattle.std.proofs.lemmas.Bool.{and_parts}
use Rattle.std.proofs.lemmas.List.Elements.{All-drop, All-push}
use Rattle.std.proofs.lemmas.List.{drop-map, length-drop, length-map, map-append}
use Rattle.dist_cert.specs.Rising.{is_among}
use Rattle.dist_cert.specs.declared.TheConstants.{REACH}
use Rattle.dist_check_group.specs.Layout.{LayoutView}
use Rattle.dist_check_group.specs.Window.{WindowView, latest}
use Rattle.dist_check_group.specs.WindowPrivate.{members_of}
use Rattle.dist_check_group.specs.declared.window.Installation.{Installation}
use Rattle.dist_check_group.proofs.RuleLemmas.{among-filter}

-- what a test keeps that all pass is kept under a weaker one
pub kept-under : (a b one all : Bool) → (all ≡ true → one ≡ true) → (a && one) ≡ (b && one) → (a && all) ≡ (b && all)
kept-under a b one false weaker same = none a ∙ sym (none b)
  where
    none : (x : Bool) → (x && false) ≡ false
    none true = refl
    none false = refl
kept-under a b one true weaker same = sym (ap (λ (x : Bool). a && x) (weaker refl)) ∙ same ∙ ap (λ (x : Bool). b && x) (weaker refl)

pub all-at : (test : ℕ → Bool) (xs : List ℕ) (i : ℕ) → i < length xs → list_all test xs ≡ true → test (get_or xs i 0) ≡ true
all-at test [] i within all = absurd (omega (arith, within))
all-at test (x ∷ xs) zero within all = (and_parts (test x) (list_all test xs) all).0
all-at test (x ∷ xs) (suc i) within all = all-at test xs i (omega (arith, within)) (and_parts (test x) (list_all test xs) all).1

-- numbers that are kept by a test which another one equals
pub kept-by : (clusters old : List ℕ) (new : List ℕ) (c : ℕ) (uses : Bool) → new ≡ filter (is_among clusters) old → is_among clusters c ≡ uses
    → (is_among new c && uses) ≡ (is_among old c && uses)
kept-by clusters old new c uses is same =
    ap (λ (ns : List ℕ). is_among ns c && uses) is
    ∙ ap (λ (b : Bool). b && uses) (among-filter (is_among clusters) old c ∙ ap (λ (b : Bool). is_among old c && b) same)
    ∙ twice (is_among old c) uses
  where
    twice : (a b : Bool) → ((a && b) && b) ≡ (a && b)
    twice true true = refl
    twice true false = refl
    twice false b = refl

-- the latest ones, with one more
pub latest-more : (kept : List Installation) (one : Installation)
    → map members_of (drop (length kept + 1 - REACH) (kept ++ one ∷ [])) ≡ latest (map members_of kept ++ members_of one ∷ [])
latest-more kept one =
    sym (drop-map members_of (length kept + 1 - REACH) (kept ++ one ∷ []))
    ∙ ap (λ (xs : List (List ℕ)). drop (length kept + 1 - REACH) xs) (map-append members_of kept (one ∷ []))
    ∙ ap (λ n. drop (n - REACH) (map members_of kept ++ members_of one ∷ [])) (let e : length kept + 1 ≡ length (map members_of kept ++ members_of one ∷ [])
    = omega (arith, length-map kept members_of, length-append (map members_of kept) (members_of one ∷ [])) in e)

abbrev seen : List (List ℕ) → ℕ → LayoutView → WindowView
seen kept count layout = record { kept = kept; count = count; layout = layout }

-- what a window keeps with one more
pub added : (kept new : List Installation) (one : Installation) (count : ℕ) (layout : LayoutView) (members : List ℕ) (old : WindowView)
    → new ≡ drop (length kept + 1 - REACH) (kept ++ one ∷ []) → members_of one ≡ members → seen (map members_of kept) count layout ≡ old
    → seen (map members_of new) (count + 1) layout ≡ record old { kept = latest (old.kept ++ members ∷ []); count = old.count + 1 }
added kept new one count layout members old is is_one is_old =
    subst (λ (o : WindowView). seen (map members_of new) (count + 1) layout ≡ record o { kept = latest (o.kept ++ members ∷ []); count = o.count + 1 }) is_old
    (ap (λ (ks : List (List ℕ)). seen ks (count + 1) layout)
    (ap (λ (ns : List Installation). map members_of ns) is ∙ latest-more kept one ∙ ap (λ (m : List ℕ). latest (map members_of kept ++ m ∷ [])) is_one))

pub still-kept : (P : Installation → Type 0) (kept new : List Installation) (one : Installation) (count : ℕ)
    → new ≡ drop (length kept + 1 - REACH) (kept ++ one ∷ []) → length kept ≤ count → All P kept → P one
    → (length new ≤ count + 1) × (length new ≤ REACH) × All P new
still-kept P kept new one count is upto all last =
    let n = length kept + 1 - REACH in
    let more = length-append kept (one ∷ []) in
    let left = length-drop n (kept ++ one ∷ []) in
    let size = ap (λ (ns : List Installation). length ns) is in (
      omega (arith, more, left, size, upto),
      omega (arith, more, left, size, upto),
      subst (λ (ns : List Installation). All P ns) (sym is) (All-drop P n (kept ++ one ∷ []) (All-push P kept one all last)),
    )
