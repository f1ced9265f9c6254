-- Lists of the packages that meanings give.
use Rattle.std.proofs.Common.{◌≡◌, ℕ, zero, suc, ◌<◌, Bool, true, false, List, [], ◌∷◌, Option, Some, None, length, get_or, refl, ap, subst, ◌∙◌, inl, inr}
use Rattle.std.proofs.Common.{arith, slice_get}
use Rattle.std.specs.Prelude.{All, AllPairs, Contains, filter_map, ◌&&◌, if◌then◌else◌}
use Rattle.std.proofs.lemmas.Bool.{cases_lt, false≢true}
use Rattle.std.proofs.lemmas.Option.{same_Some}
use Rattle.std.specs.List.{cons_option}
use Rattle.std.specs.Option.{option_map}
use Rattle.dist_base.specs.ListLaws.{all-contained}
use Rattle.dist_relation.specs.declared.atom.Provide.{Provide}
use Rattle.dist_version.specs.Spelling.{IsVersion}
use Rattle.dist_classes.specs.NewVersion.{AreCarried}
use Rattle.dist_space.specs.Space.{moved_entry}
use Rattle.dist_future.specs.Stands.{first_true, flags_from, kept_entries, or_else}
use Rattle.dist_space.specs.Usable.{is_usable}
use Rattle.dist_future.proofs.ClassMatch.{moved-carried}

-- ---- elements that are made of elements

module _ {X Y : Type 0} (h : X → Option Y) where
  pub record IsMadeOf (xs : List X) (y : Y) : Type 0 where
    pub place : ℕ
    pub source : X
    pub is : slice_get xs place ≡ Some source
    pub gives : h source ≡ Some y

  later : (x : X) (xs : List X) (y : Y) → IsMadeOf xs y → IsMadeOf (x ∷ xs) y
  later x xs y made = record { place = suc made.place; source = made.source; is = made.is; gives = made.gives }

  from-cons : (x : X) (xs : List X) (y : Y) (o : Option Y) → h x ≡ o → (Contains (filter_map h xs) y → IsMadeOf xs y)
      → Contains (cons_option o (filter_map h xs)) y → IsMadeOf (x ∷ xs) y
  from-cons x xs y None is rest there = later x xs y (rest there)
  from-cons x xs y (Some z) is rest (zero, short, same) = record { place = 0; source = x; is = refl; gives = is ∙ ap (λ (w : Y). Some w) same }
  from-cons x xs y (Some z) is rest (suc k, short, same) = later x xs y (rest (k, omega (arith, short), same))

  pub made-of : (xs : List X) (y : Y) → Contains (filter_map h xs) y → IsMadeOf xs y
  made-of [] y there = absurd (omega (arith, there.1))
  made-of (x ∷ xs) y there = from-cons x xs y (h x) refl (made-of xs y) there

  to-cons : (o : Option Y) (rest : List Y) (y : Y) → Contains rest y → Contains (cons_option o rest) y
  to-cons None rest y there = there
  to-cons (Some z) rest y there = (suc there.0, omega (arith, there.1), there.2)

  first-cons : (o : Option Y) (rest : List Y) (y : Y) → o ≡ Some y → Contains (cons_option o rest) y
  first-cons None rest y is = cc
  first-cons (Some z) rest y is = (0, omega arith, let same : z ≡ y = cc in same)

  pub made : (xs : List X) (place : ℕ) (x : X) (y : Y) → slice_get xs place ≡ Some x → h x ≡ Some y → Contains (filter_map h xs) y
  made [] place x y is gives = absurd (let none : None ≡ Some x = is in cc)
  made (z ∷ xs) zero x y is gives = first-cons (h z) (filter_map h xs) y (let same : z ≡ x = cc in ap h same ∙ gives)
  made (z ∷ xs) (suc place) x y is gives = to-cons (h z) (filter_map h xs) y (made xs place x y is gives)

  -- what are made of an earlier and a later element are related
  abbrev pub AreRelated : (Y → Y → Type 0) → List X → Type 0
  AreRelated R xs = (i j : ℕ) (a b : X) (p q : Y) → i < j → slice_get xs i ≡ Some a → slice_get xs j ≡ Some b → h a ≡ Some p → h b ≡ Some q → R p q

  pairs-cons : (R : Y → Y → Type 0) (o : Option Y) (rest : List Y) → ((y : Y) → o ≡ Some y → All (R y) rest) → AllPairs R rest → AllPairs R (cons_option o rest)
  pairs-cons R None rest each pairs = pairs
  pairs-cons R (Some y) rest each pairs = at
    where
      at : (i j : ℕ) (d : Y) → i < j → j < length (y ∷ rest) → R (get_or (y ∷ rest) i d) (get_or (y ∷ rest) j d)
      at zero zero d less short = absurd (omega (arith, less))
      at zero (suc j) d less short = each y refl j d (omega (arith, short))
      at (suc i) zero d less short = absurd (omega (arith, less))
      at (suc i) (suc j) d less short = pairs i j d (omega (arith, less)) (omega (arith, short))

  pub made-pairs : (R : Y → Y → Type 0) (xs : List X) → AreRelated R xs → AllPairs R (filter_map h xs)
  made-pairs R [] related = λ i j d less short. absurd (omega (arith, short))
  made-pairs R (x ∷ xs) related =
      pairs-cons R (h x) (filter_map h xs)
      (λ y gives. all-contained (R y) (filter_map h xs) (λ q there. let made = made-of xs q there in
      related 0 (suc made.place) x made.source y q (omega arith) refl made.is gives made.gives))
      (made-pairs R xs (λ i j a b p q less. related (suc i) (suc j) a b p q (omega (arith, less))))

-- ---- choices

pub if-some : {X : Type 0} (b : Bool) (o : Option X) (x : X) → (if b then o else None) ≡ Some x → (b ≡ true) × (o ≡ Some x)
if-some true o x is = (refl, is)
if-some false o x is = absurd (let none : None ≡ Some x = is in cc)

pub if-true : {X : Type 0} (b : Bool) (o other : Option X) → b ≡ true → (if b then o else other) ≡ o
if-true true o other is = refl
if-true false o other is = cc

pub map-some : {X Y : Type 0} (f : X → Y) (o : Option X) (y : Y) → option_map f o ≡ Some y → (x : X) × (o ≡ Some x) × (f x ≡ y)
map-some f None y is = absurd (let none : None ≡ Some y = is in cc)
map-some f (Some x) y is = (x, refl, same_Some (f x) y is)

abbrev IsFirst : (ℕ → Bool) → ℕ → Option ℕ → Type 0
IsFirst test n None = (k : ℕ) → k < n → test k ≡ false
IsFirst test n (Some k) = (k < n) × (test k ≡ true)

or-first : (test : ℕ → Bool) (n : ℕ) (o : Option ℕ) (b : Bool) → test n ≡ b → IsFirst test n o → IsFirst test (suc n) (or_else o (if b then Some n else None))
or-first test n (Some k) b is first = (omega (arith, first.0), first.1)
or-first test n None true is none = (omega arith, is)
or-first test n None false is none = λ k short. elim (cases_lt k n) [
  | inl less ↦ none k less
  | inr past ↦ let same : k ≡ n = omega (arith, short, past) in ap test same ∙ is
]

first-is : (test : ℕ → Bool) (n : ℕ) → IsFirst test n (first_true test n)
first-is test zero = λ k short. absurd (omega (arith, short))
first-is test (suc n) = or-first test n (first_true test n) (test n) refl (first-is test n)

pub first-some : (test : ℕ → Bool) (n k : ℕ) → first_true test n ≡ Some k → (k < n) × (test k ≡ true)
first-some test n k is = subst (IsFirst test n) is (first-is test n)

pub first-none : (test : ℕ → Bool) (n : ℕ) → first_true test n ≡ None → (k : ℕ) → k < n → test k ≡ false
first-none test n is = subst (IsFirst test n) is (first-is test n)

-- ---- kept entries

and-right : (a b : Bool) → (a && b) ≡ true → b ≡ true
and-right true b is = is
and-right false b is = absurd (false≢true is)

and-both : (a b : Bool) → a ≡ true → b ≡ true → (a && b) ≡ true
and-both true b first second = second
and-both false b first second = first

pub flag-at : (architecture : Option (List ℕ)) (test : ℕ → Bool) (entries : List Provide) (j : ℕ)
    → slice_get (flags_from architecture test entries) j ≡ Some true → test j ≡ true
flag-at architecture test [] j is = absurd (let none : None ≡ Some true = is in cc)
flag-at architecture test (entry ∷ entries) zero is = and-right (is_usable architecture entry.qualifier) (test 0)
    (same_Some (is_usable architecture entry.qualifier && test 0) true is)
flag-at architecture test (entry ∷ entries) (suc j) is = flag-at architecture (λ k. test (suc k)) entries j is

pub flag-is : (architecture : Option (List ℕ)) (test : ℕ → Bool) (entries : List Provide) (j : ℕ) (entry : Provide) → slice_get entries j ≡ Some entry
    → is_usable architecture entry.qualifier ≡ true → test j ≡ true
    → slice_get (flags_from architecture test entries) j ≡ Some true
flag-is architecture test [] j entry at usable is = absurd (let none : None ≡ Some entry = at in cc)
flag-is architecture test (first ∷ entries) zero entry at usable is =
    let same : entry ≡ first = cc in
    ap (λ (b : Bool). Some b) (and-both (is_usable architecture first.qualifier) (test 0)
    (subst (λ (e : Provide). is_usable architecture e.qualifier ≡ true) same usable) is)
flag-is architecture test (first ∷ entries) (suc j) entry at usable is = flag-is architecture (λ k. test (suc k)) entries j entry at usable is

pub length-flags : (architecture : Option (List ℕ)) (test : ℕ → Bool) (entries : List Provide) → length (flags_from architecture test entries) ≡ length entries
length-flags architecture test [] = refl
length-flags architecture test (entry ∷ entries) = ap suc (length-flags architecture (λ k. test (suc k)) entries)

pub kept-carried : (old new : List ℕ) (flags : List Bool) (entries : List Provide) → IsVersion new → length flags ≡ length entries
    → AreCarried old new flags entries (kept_entries old new flags entries)
kept-carried old new [] [] is same = refl
kept-carried old new [] (entry ∷ entries) is same = absurd (omega (arith, same))
kept-carried old new (flag ∷ flags) [] is same = absurd (omega (arith, same))
kept-carried old new (true ∷ flags) (entry ∷ entries) is same = (
  moved_entry old new entry,
  kept_entries old new flags entries,
  refl,
  moved-carried old new entry is,
  kept-carried old new flags entries is (omega (arith, same)),
)
kept-carried old new (false ∷ flags) (entry ∷ entries) is same = kept-carried old new flags entries is (omega (arith, same))
