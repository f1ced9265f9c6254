-- What installations use and hold, one member after another and one installation after another.
use Rattle.std.proofs.Common.{◌≡◌, ℕ, ◌+◌, ◌<◌, ◌↔◌, ◌==◌, ◌&&◌, ◌||◌, Bool, true, false, not, List, [], ◌∷◌, ◌++◌, Option, Some, None, filter, length, map}
use Rattle.std.proofs.Common.{get_or, refl, sym, ap, subst, ◌∙◌, arith, take, if◌then◌else◌}
use Rattle.std.proofs.Math.Path.{fun_ext}
use Rattle.std.specs.List.{Contains, list_all, list_any}
use Rattle.std.proofs.lemmas.Bool.{and_left}
use Rattle.std.proofs.lemmas.List.{append-nil, map-append}
use Rattle.std.proofs.lemmas.List.Elements.{filter_more}
use Rattle.std.proofs.lemmas.List.Folds.{Any-from_list_any, list_any-append, list_any-from_Any}
use Rattle.dist_cert.specs.Rising.{is_among}
use Rattle.dist_cert.specs.ListLaws.{both-flags}
use Rattle.dist_check_group.specs.Layout.{LayoutView, cluster_of, is_package, non_packages, used}
use Rattle.dist_check_group.specs.Window.{WindowView, members_at}
use Rattle.dist_check_group.specs.Common.{narrowed}
use Rattle.dist_check_group.specs.Cover.{AreSame, CoverView, Gathers}
use Rattle.dist_check_group.specs.Challenge.{first_used, is_held, use_each}
use Rattle.dist_check_group.proofs.RuleLemmas.{same-all}

-- ---- one member more

map-if : (f : ℕ → ℕ) (b : Bool) (x : ℕ) → map f (if b then x ∷ [] else []) ≡ (if b then f x ∷ [] else [])
map-if f true x = refl
map-if f false x = refl

some-if : (xs : List ℕ) (x : ℕ) (b : Bool) → b ≡ true → xs ++ x ∷ [] ≡ xs ++ (if b then x ∷ [] else [])
some-if xs x b is = ap (λ (d : Bool). xs ++ (if d then x ∷ [] else [])) (sym is)

none-if : (xs : List ℕ) (x : ℕ) (b : Bool) → b ≡ false → xs ≡ xs ++ (if b then x ∷ [] else [])
none-if xs x b is = sym (append-nil xs) ∙ ap (λ (d : Bool). xs ++ (if d then x ∷ [] else [])) (sym is)

used-next : (layout : LayoutView) (members : List ℕ) (i : ℕ) → i < length members
    → used layout (take (i + 1) members)
    ≡ used layout (take i members) ++ (if is_package layout (get_or members i 0) then cluster_of layout (get_or members i 0) ∷ [] else [])
used-next layout members i within =
    let x = get_or members i 0 in
    ap (λ (xs : List ℕ). map (cluster_of layout) xs) (filter_more (is_package layout) members i 0 within)
    ∙ map-append (cluster_of layout) (filter (is_package layout) (take i members)) (if is_package layout x then x ∷ [] else [])
    ∙ ap (λ (xs : List ℕ). used layout (take i members) ++ xs) (map-if (cluster_of layout) (is_package layout x) x)

pub used-more : (layout : LayoutView) (members : List ℕ) (i : ℕ) → i < length members → is_package layout (get_or members i 0) ≡ true
    → used layout (take i members) ++ cluster_of layout (get_or members i 0) ∷ [] ≡ used layout (take (i + 1) members)
used-more layout members i within is =
    some-if (used layout (take i members)) (cluster_of layout (get_or members i 0)) (is_package layout (get_or members i 0)) is
    ∙ sym (used-next layout members i within)

pub used-same : (layout : LayoutView) (members : List ℕ) (i : ℕ) → i < length members → is_package layout (get_or members i 0) ≡ false
    → used layout (take i members) ≡ used layout (take (i + 1) members)
used-same layout members i within is =
    none-if (used layout (take i members)) (cluster_of layout (get_or members i 0)) (is_package layout (get_or members i 0)) is
    ∙ sym (used-next layout members i within)

pub held-more : (layout : LayoutView) (members : List ℕ) (i : ℕ) → i < length members → is_package layout (get_or members i 0) ≡ false
    → non_packages layout (take i members) ++ get_or members i 0 ∷ [] ≡ non_packages layout (take (i + 1) members)
held-more layout members i within is =
    some-if (non_packages layout (take i members)) (get_or members i 0) (not (is_package layout (get_or members i 0))) (ap not is)
    ∙ sym (filter_more (λ v. not (is_package layout v)) members i 0 within)

pub held-same : (layout : LayoutView) (members : List ℕ) (i : ℕ) → i < length members → is_package layout (get_or members i 0) ≡ true
    → non_packages layout (take i members) ≡ non_packages layout (take (i + 1) members)
held-same layout members i within is =
    none-if (non_packages layout (take i members)) (get_or members i 0) (not (is_package layout (get_or members i 0))) (ap not is)
    ∙ sym (filter_more (λ v. not (is_package layout v)) members i 0 within)

-- ---- the same numbers

-- lists of the same numbers narrow alike
pub narrowed-same : (common : Option (List ℕ)) (xs ys : List ℕ) → ((q : ℕ) → is_among xs q ≡ is_among ys q) → (q : ℕ)
    → is_among (narrowed common xs) q ≡ is_among (narrowed common ys) q
narrowed-same None xs ys same q = same q
narrowed-same (Some common) xs ys same q = ap (λ (test : ℕ → Bool). is_among (filter test common) q) (fun_ext same)

pub filter-same : (xs ys kept : List ℕ) → ((q : ℕ) → is_among xs q ≡ is_among ys q) → filter (is_among xs) kept ≡ filter (is_among ys) kept
filter-same xs ys kept same = ap (λ (test : ℕ → Bool). filter test kept) (fun_ext same)

any-each : (f : ℕ → Bool) (xs ys : List ℕ) → ((q : ℕ) → Contains xs q → Contains ys q) → list_any f xs ≡ true → list_any f ys ≡ true
any-each f xs ys to e =
    let any = Any-from_list_any f xs e in
    let there = to any.1 (any.0, any.2, any.3) in
    list_any-from_Any f ys (there.0, any.1, there.1, there.2, any.4)

-- the same numbers, in any order and however often
pub same-any : (f : ℕ → Bool) (xs ys : List ℕ) → ((q : ℕ) → Contains ys q ↔ Contains xs q) → list_any f ys ≡ list_any f xs
same-any f xs ys same = both-flags (list_any f ys) (list_any f xs) (any-each f ys xs (λ q. (same q).0)) (any-each f xs ys (λ q. (same q).1))

-- ---- one installation more

same-self : (numbers : Option (List ℕ)) → AreSame numbers numbers
same-self None = tt
same-self (Some numbers) = λ q. refl

or-and-none : (a b c : Bool) → b ≡ false → a ≡ (a || (b && c))
or-and-none true b c absent = refl
or-and-none false b c absent = sym (and_left b c absent)

-- an installation that does not count
pub gathers-none : (layout : LayoutView) (variable : ℕ) (members : List ℕ) (old : CoverView) → is_among members variable ≡ false
    → Gathers layout variable members old old
gathers-none layout variable members old absent = record {
  used = subst (λ (b : Bool). AreSame old.used (if b then Some (narrowed old.used (used layout members)) else old.used)) (sym absent) (same-self old.used);
  held = λ v. or-and-none (is_among old.held v) (is_among members variable) (is_among (non_packages layout members) v) absent;
}

-- one that counts
pub gathers-one : (layout : LayoutView) (variable : ℕ) (members : List ℕ) (old : CoverView) (kept held : List ℕ) → is_among members variable ≡ true
    → ((q : ℕ) → is_among kept q ≡ is_among (narrowed old.used (used layout members)) q)
    → ((v : ℕ) → is_among held v ≡ is_among (old.held ++ non_packages layout members) v)
    → Gathers layout variable members old (record { used = Some kept; held = held })
gathers-one layout variable members old kept held there same more = record {
  used = subst (λ (b : Bool). AreSame (Some kept) (if b then Some (narrowed old.used (used layout members)) else old.used)) (sym there) same;
  held = λ v. more v ∙ list_any-append (λ n. v == n) old.held (non_packages layout members)
      ∙ ap (λ (b : Bool). is_among old.held v || (b && is_among (non_packages layout members) v)) (sym there);
}

-- ---- installations that are named once

absorb : (a b : Bool) → (a && (a && b)) ≡ (a && b)
absorb true b = refl
absorb false b = refl

pub used-once : (layout : LayoutView) (w : WindowView) (clusters : Option (List ℕ)) (named once : List ℕ)
    → ((q : ℕ) → Contains once q ↔ Contains named q) → (c : ℕ)
    → (is_among (first_used layout w clusters once) c && use_each layout w once c)
    ≡ (is_among (first_used layout w clusters named) c && use_each layout w named c)
used-once layout w (Some clusters) named once same c =
    ap (λ (b : Bool). is_among clusters c && b) (same-all (λ number. is_among (used layout (members_at w number)) c) named once same)
used-once layout w None [] [] same c = refl
used-once layout w None (n ∷ named) [] same c = absurd (let there = (same n).1 (0, omega arith, refl) in omega (arith, there.1))
used-once layout w None [] (m ∷ once) same c = absurd (let there = (same m).0 (0, omega arith, refl) in omega (arith, there.1))
used-once layout w None (n ∷ named) (m ∷ once) same c =
    let test : ℕ → Bool = λ number. is_among (used layout (members_at w number)) c in
    absorb (test m) (list_all test once)
    ∙ same-all test (n ∷ named) (m ∷ once) same
    ∙ sym (absorb (test n) (list_all test named))

pub held-once : (layout : LayoutView) (w : WindowView) (cover : CoverView) (named once : List ℕ)
    → ((q : ℕ) → Contains once q ↔ Contains named q) → (v : ℕ) → is_held layout w cover once v ≡ is_held layout w cover named v
held-once layout w cover named once same v =
    ap (λ (b : Bool). is_among cover.held v || b)
    (same-any (λ number. is_among (non_packages layout (members_at w number)) v) named once same)

-- ---- clusters that are asked for

pub swap-last : (a b c : Bool) → ((a && b) && c) ≡ ((a && c) && b)
swap-last true true true = refl
swap-last true true false = refl
swap-last true false true = refl
swap-last true false false = refl
swap-last false b c = refl
