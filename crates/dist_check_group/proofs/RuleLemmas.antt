-- Lists that are narrowed by tests, and the rules of a claim.
use Rattle.std.proofs.Common.{◌≡◌, ℕ, ◌+◌, ◌<◌, ◌↔◌, ◌==◌, ◌&&◌, ◌||◌, Bool, true, false, not, List, [], ◌∷◌, ◌++◌, inl, inr, Option, None, filter, length}
use Rattle.std.proofs.Common.{get_or, refl, sym, ap, ◌∙◌, arith, take, if◌then◌else◌}
use Rattle.std.proofs.Math.Path.{fun_ext}
use Rattle.std.specs.List.{Contains, list_all, list_any}
use Rattle.std.proofs.lemmas.Bool.{cases_Bool, eqb-true, false≢true, and_parts, and_from, or_parts}
use Rattle.std.proofs.lemmas.List.{take_more}
use Rattle.dist_check_group.specs.Group.{AreListsRight, GroupView, candidates, in_each, is_always, omits_package}
use Rattle.dist_cert.specs.Rising.{is_among}
use Rattle.dist_check_group.specs.Window.{WindowView, has_member, kept_at}
use Rattle.dist_cert.specs.ListLaws.{any-from, both-flags, contains-cases, contains-later, from-any}

and-true : (a : Bool) → (a && true) ≡ a
and-true true = refl
and-true false = refl

and-false : (a : Bool) → (a && false) ≡ false
and-false true = refl
and-false false = refl

and-assoc : (a b c : Bool) → ((a && b) && c) ≡ (a && (b && c))
and-assoc true b c = refl
and-assoc false b c = refl

-- ---- what a test leaves of a list

pub filter-all : (f : ℕ → Bool) (xs : List ℕ) → ((q : ℕ) → f q ≡ true) → filter f xs ≡ xs
filter-all f [] all = refl
filter-all f (x ∷ xs) all = ap (λ (b : Bool). if b then x ∷ filter f xs else filter f xs) (all x) ∙ ap (λ (ys : List ℕ). x ∷ ys) (filter-all f xs all)

filter-none : (f : ℕ → Bool) (xs : List ℕ) → ((q : ℕ) → f q ≡ false) → filter f xs ≡ []
filter-none f [] none = refl
filter-none f (x ∷ xs) none = ap (λ (b : Bool). if b then x ∷ filter f xs else filter f xs) (none x) ∙ filter-none f xs none

-- an installation that is not kept has no members
pub none-kept : (kept : Option (List ℕ)) (xs : List ℕ) → kept ≡ None → filter (has_member kept) xs ≡ []
none-kept kept xs none = filter-none (has_member kept) xs (λ q. ap (λ (m : Option (List ℕ)). has_member m q) none)

pub filter-twice : (f g : ℕ → Bool) (xs : List ℕ) → filter g (filter f xs) ≡ filter (λ q. f q && g q) xs
filter-twice f g [] = refl
filter-twice f g (x ∷ xs) = at (f x) (filter-twice f g xs)
  where
    at : (b : Bool) → filter g (filter f xs) ≡ filter (λ q. f q && g q) xs
        → filter g (if b then x ∷ filter f xs else filter f xs) ≡ (if b && g x then x ∷ filter (λ q. f q && g q) xs else filter (λ q. f q && g q) xs)
    at true rest = ap (λ (ys : List ℕ). if g x then x ∷ ys else ys) rest
    at false rest = rest

pub filter-ext : (f g : ℕ → Bool) (xs : List ℕ) → ((q : ℕ) → f q ≡ g q) → filter f xs ≡ filter g xs
filter-ext f g xs same = ap (λ (h : ℕ → Bool). filter h xs) (fun_ext same)

and-none : (a b : Bool) → b ≡ false → (a && b) ≡ b
and-none true b e = refl
and-none false b e = sym e

pub among-filter : (f : ℕ → Bool) (xs : List ℕ) (q : ℕ) → is_among (filter f xs) q ≡ (is_among xs q && f q)
among-filter f [] q = refl
among-filter f (x ∷ xs) q = at (f x) refl (q == x) refl (among-filter f xs q)
  where
    at : (b : Bool) → f x ≡ b → (c : Bool) → (q == x) ≡ c → is_among (filter f xs) q ≡ (is_among xs q && f q)
        → is_among (if b then x ∷ filter f xs else filter f xs) q ≡ ((c || is_among xs q) && f q)
    at true is true same rest = ap (λ (d : Bool). d || is_among (filter f xs) q) same ∙ sym (ap f (eqb-true q x same) ∙ is)
    at true is false same rest = ap (λ (d : Bool). d || is_among (filter f xs) q) same ∙ rest
    at false is true same rest = rest ∙ and-none (is_among xs q) (f q) (ap f (eqb-true q x same) ∙ is)
    at false is false same rest = rest

pub any-filter : (t f : ℕ → Bool) (xs : List ℕ) → list_any t (filter f xs) ≡ list_any (λ q. t q && f q) xs
any-filter t f [] = refl
any-filter t f (x ∷ xs) = at (f x) (any-filter t f xs)
  where
    at : (b : Bool) → list_any t (filter f xs) ≡ list_any (λ q. t q && f q) xs
        → list_any t (if b then x ∷ filter f xs else filter f xs) ≡ ((t x && b) || list_any (λ q. t q && f q) xs)
    at true rest = ap (λ (d : Bool). t x || d) rest ∙ ap (λ (d : Bool). d || list_any (λ q. t q && f q) xs) (sym (and-true (t x)))
    at false rest = rest ∙ ap (λ (d : Bool). d || list_any (λ q. t q && f q) xs) (sym (and-false (t x)))

-- ---- tests of all

all-push : (f : ℕ → Bool) (xs : List ℕ) (x : ℕ) → list_all f (xs ++ x ∷ []) ≡ (list_all f xs && f x)
all-push f [] x = and-true (f x)
all-push f (y ∷ ys) x = ap (λ (d : Bool). f y && d) (all-push f ys x) ∙ sym (and-assoc (f y) (list_all f ys) (f x))

all-each : (f : ℕ → Bool) (xs : List ℕ) → list_all f xs ≡ true → (n : ℕ) → Contains xs n → f n ≡ true
all-each f [] e n there = absurd (omega (arith, there.1))
all-each f (x ∷ xs) e n there =
    let parts = and_parts (f x) (list_all f xs) e in
    elim (contains-cases x xs n there) [
      | inl here ↦ ap f (sym here) ∙ parts.0
      | inr later ↦ all-each f xs parts.1 n later
    ]

each-all : (f : ℕ → Bool) (xs : List ℕ) → ((n : ℕ) → Contains xs n → f n ≡ true) → list_all f xs ≡ true
each-all f [] each = refl
each-all f (x ∷ xs) each = and_from (f x) (list_all f xs) (each x (0, omega arith, refl)) (each-all f xs (λ n there. each n (contains-later x xs n there)))

-- the same numbers, in any order and however often
pub same-all : (f : ℕ → Bool) (xs ys : List ℕ) → ((q : ℕ) → Contains ys q ↔ Contains xs q) → list_all f ys ≡ list_all f xs
same-all f xs ys same =
    both-flags (list_all f ys) (list_all f xs) (λ e. each-all f xs (λ n there. all-each f ys e n ((same n).1 there)))
    (λ e. each-all f ys (λ n there. all-each f xs e n ((same n).0 there)))

-- ---- what is in all installations that are named

-- one more that is named, whose test the kept ones pass
pub kept-more : (test : ℕ → ℕ → Bool) (named xs kept : List ℕ) (i : ℕ) → i < length named
    → kept ≡ filter (λ q. list_all (λ number. test number q) (take i named)) xs
    → filter (test (get_or named i 0)) kept ≡ filter (λ q. list_all (λ number. test number q) (take (i + 1) named)) xs
kept-more test named xs kept i within is =
    let upto : ℕ → ℕ → Bool = λ n q. list_all (λ number. test number q) (take n named) in
    ap (λ (ys : List ℕ). filter (test (get_or named i 0)) ys) is
    ∙ filter-twice (upto i) (test (get_or named i 0)) xs
    ∙ filter-ext (λ q. upto i q && test (get_or named i 0) q) (upto (i + 1)) xs
    (λ q. sym (ap (λ (ns : List ℕ). list_all (λ number. test number q) ns) (take_more named i 0 within)
    ∙ all-push (λ number. test number q) (take i named) (get_or named i 0)))

pub named-once : (w : WindowView) (named sorted xs : List ℕ) → ((q : ℕ) → Contains sorted q ↔ Contains named q)
    → filter (in_each w sorted) xs ≡ filter (in_each w named) xs
named-once w named sorted xs same = filter-ext (in_each w sorted) (in_each w named) xs
    (λ q. same-all (λ number. has_member (kept_at w number) q) named sorted same)

-- ---- the rules

-- of a list in which none passes a test, none does
any-none : (f : ℕ → Bool) (xs : List ℕ) → list_any f xs ≡ false → (n : ℕ) → Contains xs n → f n ≡ false
any-none f [] e n there = absurd (omega (arith, there.1))
any-none f (x ∷ xs) e n there =
    let parts = or_parts (f x) (list_any f xs) e in
    elim (contains-cases x xs n there) [
      | inl here ↦ ap f (sym here) ∙ parts.0
      | inr later ↦ any-none f xs parts.1 n later
    ]

all-same : (f g : ℕ → Bool) (xs : List ℕ) → ((n : ℕ) → Contains xs n → f n ≡ g n) → list_all f xs ≡ list_all g xs
all-same f g xs same =
    both-flags (list_all f xs) (list_all g xs) (λ e. each-all g xs (λ n there. sym (same n there) ∙ all-each f xs e n there))
    (λ e. each-all f xs (λ n there. same n there ∙ all-each g xs e n there))

-- a package other than p that the claim doesn't name as a dependency
abbrev pub is_left : ℕ → List ℕ → ℕ → Bool
is_left p on q = not (q == p) && not (is_among on q)

-- an undecided one is of these
undecided-left : (w : WindowView) (group : GroupView) (packages p : ℕ) (named on undecided : List ℕ)
    → AreListsRight w group packages p named on undecided
    → (q : ℕ) → Contains undecided q → is_left p on q ≡ true
undecided-left w group packages p named on undecided right q there =
    and_from (not (q == p)) (not (is_among on q)) (and_parts (not (q == p)) _ (all-each _ undecided right.undecided_others q there)).0
    (elim (cases_Bool (is_among on q)) [
      | inl listed ↦ absurd (false≢true (sym (any-none (is_among undecided) on right.apart q (from-any q on listed)) ∙ any-from q undecided there))
      | inr out ↦ ap (λ (b : Bool). not b) out
    ])

-- what is left over of the packages that are in all of the claim's installations
abbrev pub left_over : WindowView → Option (List ℕ) → ℕ → List ℕ → List ℕ → List ℕ
left_over w common p named on = filter (λ q. is_left p on q && in_each w named q) (candidates w common named)

true-and : (a b c : Bool) → b ≡ true → (a && (b && c)) ≡ (a && c)
true-and a b c e = ap (λ (d : Bool). a && (d && c)) e

pub always-all : (w : WindowView) (group : GroupView) (packages p : ℕ) (named on undecided found : List ℕ)
    → AreListsRight w group packages p named on undecided → found ≡ left_over w group.common p named on
    → list_all (is_among found) undecided ≡ list_all (is_always w group.common named) undecided
always-all w group packages p named on undecided found right is =
    ap (λ (ys : List ℕ). list_all (is_among ys) undecided) is
    ∙ all-same (is_among (left_over w group.common p named on)) (is_always w group.common named) undecided
    (λ q there. among-filter (λ n. is_left p on n && in_each w named n) (candidates w group.common named) q
    ∙ true-and (is_among (candidates w group.common named) q) (is_left p on q) (in_each w named q)
    (undecided-left w group packages p named on undecided right q there))

swap-and : (a b c : Bool) → (b && (a && c)) ≡ ((a && b) && c)
swap-and true true c = refl
swap-and true false c = refl
swap-and false true c = refl
swap-and false false c = refl

pub omitted-any : (w : WindowView) (group : GroupView) (p : ℕ) (named on undecided found : List ℕ) → found ≡ left_over w group.common p named on
    → list_any (λ q. not (is_among undecided q)) found ≡ omits_package w group p named on undecided
omitted-any w group p named on undecided found is =
    let test : ℕ → Bool = λ q. not (is_among undecided q) in
    let cands : List ℕ = candidates w group.common named in
    ap (λ (ys : List ℕ). list_any test ys) is ∙ any-filter test (λ q. is_left p on q && in_each w named q) cands
    ∙ ap (λ (f : ℕ → Bool). list_any f cands) (fun_ext (λ q. swap-and (is_left p on q) (test q) (in_each w named q)))
