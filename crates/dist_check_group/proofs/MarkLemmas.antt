-- Numbers that are marked, one after another.
use Rattle.std.proofs.Common.{◌≡◌, ℕ, ◌+◌, ◌<◌, ◌==◌, ◌&&◌, ◌||◌, Bool, true, false, not, List, length}
use Rattle.std.proofs.Common.{get_or, refl, sym, ap, ◌∙◌, take}
use Rattle.std.specs.List.{list_any}
use Rattle.std.proofs.lemmas.Bool.{false≢true}
use Rattle.std.proofs.lemmas.List.Folds.{list_any_more}
use Rattle.dist_cert.specs.Rising.{is_among}
use Rattle.dist_check_group.specs.Layout.{LayoutView, is_package, non_packages}
use Rattle.dist_check_group.proofs.RuleLemmas.{any-filter}

-- ---- one more

pub or-none : (b : Bool) → b ≡ (b || false)
or-none true = refl
or-none false = refl

or-last : (x a b : Bool) → (x || (a || b)) ≡ (a || (b || x))
or-last true true b = refl
or-last true false true = refl
or-last true false false = refl
or-last false true b = refl
or-last false false true = refl
or-last false false false = refl

-- of the ones that pass a test
pub marked-more : (test : ℕ → Bool) (xs : List ℕ) (i : ℕ) (before : Bool) → i < length xs
    → (test (get_or xs i 0) || (before || list_any test (take i xs))) ≡ (before || list_any test (take (i + 1) xs))
marked-more test xs i before within =
    or-last (test (get_or xs i 0)) before (list_any test (take i xs)) ∙ ap (λ (b : Bool). before || b) (sym (list_any_more test xs i 0 within))

pub held-any : (layout : LayoutView) (members : List ℕ) (v : ℕ)
    → is_among (non_packages layout members) v ≡ list_any (λ n. (v == n) && not (is_package layout n)) members
held-any layout members v = any-filter (λ n. v == n) (λ n. not (is_package layout n)) members

pub not-held : (layout : LayoutView) (member v : ℕ) (before : Bool) → is_package layout member ≡ true
    → before ≡ (((v == member) && not (is_package layout member)) || before)
not-held layout member v before is =
    sym (ap (λ (b : Bool). ((v == member) && not b) || before) is ∙ ap (λ (b : Bool). b || before) (and-none (v == member)))
  where
    and-none : (b : Bool) → (b && false) ≡ false
    and-none true = refl
    and-none false = refl

pub is-held : (layout : LayoutView) (member v : ℕ) (before : Bool) → is_package layout member ≡ false
    → ((v == member) || before) ≡ (((v == member) && not (is_package layout member)) || before)
is-held layout member v before is =
    sym (ap (λ (b : Bool). ((v == member) && not b) || before) is ∙ ap (λ (b : Bool). b || before) (and-all (v == member)))
  where
    and-all : (b : Bool) → (b && true) ≡ b
    and-all true = refl
    and-all false = refl

-- ---- what is wanted: whether a variable is, is marked, is a package, and is a member

pub wanted-told : (w h p m : Bool) → (w || (h || p)) ≡ true → (h || ((w && m) && not p)) ≡ (h || (m && not p))
wanted-told true h p m some = refl
wanted-told false true p m some = refl
wanted-told false false true true some = refl
wanted-told false false true false some = refl
wanted-told false false false m some = absurd (false≢true some)

-- ---- one installation more

or-assoc : (a b c : Bool) → ((a || b) || c) ≡ (a || (b || c))
or-assoc true b c = refl
or-assoc false b c = refl

pub named-more : (holds : ℕ → Bool) (named : List ℕ) (i : ℕ) (before : Bool) → i < length named
    → ((before || list_any holds (take i named)) || holds (get_or named i 0)) ≡ (before || list_any holds (take (i + 1) named))
named-more holds named i before within =
    or-assoc before (list_any holds (take i named)) (holds (get_or named i 0))
    ∙ ap (λ (b : Bool). before || b) (sym (list_any_more holds named i 0 within))
