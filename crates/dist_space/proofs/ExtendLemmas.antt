-- Lists that are made part by part, within a limit.
use Rattle.std.proofs.Common.{◌≡◌, ℕ, zero, suc, ◌+◌, ◌<◌, ◌≤◌, Bool, true, false, List, [], ◌∷◌, ◌++◌, Option, Some, None, length, get_or, map, take}
use Rattle.std.proofs.Common.{append_assoc, refl, sym, ap, zero-add, ◌∙◌, arith, length-append, slice_get}
use Rattle.std.specs.Prelude.{if◌then◌else◌}
use Rattle.std.specs.List.{flat_map}
use Rattle.std.proofs.lemmas.List.{take_all, take_more}
use Rattle.std.proofs.lemmas.List.Concat.{flat_map-append}
use Rattle.std.proofs.lemmas.List.FromFn.{get_or-range_with_len, length-range_with_len}
use Rattle.std.proofs.lemmas.Option.{get_or_from_slice_get, slice_get-get_or, slice_get_within}
use Rattle.dist_relation.specs.declared.atom.Provide.{Provide}
use Rattle.dist_space.specs.Kept.{IsExtended, IsFull}
use Rattle.dist_space.specs.Usable.{is_usable}
use Rattle.dist_space.specs.NumberingPrivate.{below, entry_part, usable_from}
use Rattle.dist_space.specs.declared.errors.SpaceError.{SpaceError}
use Rattle.dist_space.specs.declared.errors.SpaceError.TheVariants.{TooManyVariables, NoMemory}
use Rattle.dist_space.specs.declared.meaning.Meaning.{Meaning}

append-none : (xs : List Meaning) → xs ++ [] ≡ xs
append-none [] = refl
append-none (x ∷ xs) = ap (λ (ys : List Meaning). x ∷ ys) (append-none xs)

pub extend-none : (limit : ℕ) (old : List Meaning) → length old ≤ limit → IsExtended limit old [] old
extend-none limit old short = (sym (append-none old), short)

-- one part after another
pub extend-on : (limit : ℕ) (old first mid second new : List Meaning) → IsExtended limit old first mid → IsExtended limit mid second new
    → IsExtended limit old (first ++ second) new
extend-on limit old first mid second new one two = (two.0 ∙ ap (λ (xs : List Meaning). xs ++ second) one.0 ∙ append_assoc old first second, two.1)

pub extend-same : (limit : ℕ) (old part other new : List Meaning) → part ≡ other → IsExtended limit old part new → IsExtended limit old other new
extend-same limit old part other new same h = (h.0 ∙ ap (λ (xs : List Meaning). old ++ xs) same, h.1)

pub full-more : (limit n m : ℕ) (e : SpaceError) → n ≤ m → IsFull limit n e → IsFull limit m e
full-more limit n m TooManyVariables more full = omega (arith, more, full)
full-more limit n m NoMemory more full = tt

length-extended : (limit : ℕ) (old part new : List Meaning) → IsExtended limit old part new → length new ≡ length old + length part
length-extended limit old part new h = ap (λ (xs : List Meaning). length xs) h.0 ∙ length-append old part

-- the limit is passed in a first part, or in a second one
pub full-first : (limit : ℕ) (old first second : List Meaning) (e : SpaceError) → IsFull limit (length old + length first) e
    → IsFull limit (length old + length (first ++ second)) e
full-first limit old first second e full = full-more limit (length old + length first) (length old + length (first ++ second)) e
    (omega (arith, length-append first second)) full

pub full-second : (limit : ℕ) (old first mid second : List Meaning) (e : SpaceError) → IsExtended limit old first mid
    → IsFull limit (length mid + length second) e → IsFull limit (length old + length (first ++ second)) e
full-second limit old first mid second e h full =
    full-more limit (length mid + length second) (length old + length (first ++ second)) e
    (omega (arith, length-extended limit old first mid h, length-append first second)) full

-- ---- a part for each element

module _ {X : Type 0} (f : X → List Meaning) where
  parts-more : (xs : List X) (i : ℕ) (x : X) → slice_get xs i ≡ Some x → flat_map f (take (i + 1) xs) ≡ flat_map f (take i xs) ++ f x
  parts-more xs i x is =
      let one : get_or xs i x ≡ x = get_or_from_slice_get xs i x x is in
      ap (flat_map f) (take_more xs i x (slice_get_within xs i x is)) ∙ flat_map-append f (take i xs) (get_or xs i x ∷ [])
      ∙ ap (λ (y : X). flat_map f (take i xs) ++ (f y ++ [])) one ∙ ap (λ (ys : List Meaning). flat_map f (take i xs) ++ ys) (append-none (f x))

  parts-within : (xs : List X) (i : ℕ) (x : X) → slice_get xs i ≡ Some x → length (flat_map f (take i xs)) + length (f x) ≤ length (flat_map f xs)
  parts-within [] i x is = absurd (let none : None ≡ Some x = is in cc)
  parts-within (y ∷ xs) zero x is =
      let same : y ≡ x = cc in
      omega (arith, length-append (f y) (flat_map f xs), ap (λ (z : X). length (f z)) same)
  parts-within (y ∷ xs) (suc i) x is = omega (arith, length-append (f y) (flat_map f xs), length-append (f y) (flat_map f (take i xs)), parts-within xs i x is)

  pub extend-more : (limit : ℕ) (old cur new : List Meaning) (xs : List X) (i : ℕ) (x : X) → slice_get xs i ≡ Some x
      → IsExtended limit old (flat_map f (take i xs)) cur → IsExtended limit cur (f x) new → IsExtended limit old (flat_map f (take (i + 1) xs)) new
  extend-more limit old cur new xs i x is one two =
      extend-same limit old (flat_map f (take i xs) ++ f x) (flat_map f (take (i + 1) xs)) new (sym (parts-more xs i x is))
      (extend-on limit old (flat_map f (take i xs)) cur (f x) new one two)

  pub extend-all : (limit : ℕ) (old cur : List Meaning) (xs : List X) (i : ℕ) → length xs ≤ i → IsExtended limit old (flat_map f (take i xs)) cur
      → IsExtended limit old (flat_map f xs) cur
  extend-all limit old cur xs i past h = extend-same limit old (flat_map f (take i xs)) (flat_map f xs) cur (ap (flat_map f) (take_all i xs past)) h

  pub full-at : (limit : ℕ) (old cur : List Meaning) (xs : List X) (i : ℕ) (x : X) (e : SpaceError) → slice_get xs i ≡ Some x
      → IsExtended limit old (flat_map f (take i xs)) cur → IsFull limit (length cur + length (f x)) e
      → IsFull limit (length old + length (flat_map f xs)) e
  full-at limit old cur xs i x e is h full =
      full-more limit (length cur + length (f x)) (length old + length (flat_map f xs)) e
      (omega (arith, length-extended limit old (flat_map f (take i xs)) cur h, parts-within xs i x is)) full

pub below-at : (n i : ℕ) → i < n → slice_get (below n) i ≡ Some i
below-at n i short =
    slice_get-get_or (below n) i i (omega (arith, short, length-range_with_len 0 n)) ∙ ap (λ (x : ℕ). Some x) (get_or-range_with_len 0 n i i short ∙ zero-add i)

pub length-below : (n : ℕ) → length (below n) ≡ n
length-below n = length-range_with_len 0 n

-- ---- entries

module _ (architecture : Option (List ℕ)) (kept : ℕ → Meaning) where
  abbrev Parts : ℕ → List Provide → List Meaning
  Parts place entries = map kept (usable_from architecture place entries)

  chosen-part : (b : Bool) (place : ℕ) (rest : List ℕ) → map kept (if b then place ∷ rest else rest) ≡ (if b then kept place ∷ [] else []) ++ map kept rest
  chosen-part true place rest = refl
  chosen-part false place rest = refl

  first-entry : (place : ℕ) (entry : Provide) (entries : List Provide) → Parts place (entry ∷ entries) ≡ entry_part architecture entry.qualifier (kept place)
      ++ Parts (place + 1) entries
  first-entry place entry entries = chosen-part (is_usable architecture entry.qualifier) place (usable_from architecture (place + 1) entries)

  entries-more : (place : ℕ) (entries : List Provide) (i : ℕ) (entry : Provide) → slice_get entries i ≡ Some entry
      → Parts place (take (i + 1) entries) ≡ Parts place (take i entries) ++ entry_part architecture entry.qualifier (kept (place + i))
  entries-more place [] i entry is = absurd (let none : None ≡ Some entry = is in cc)
  entries-more place (e ∷ entries) zero entry is =
      let same : e ≡ entry = cc in
      let at : place ≡ place + 0 = omega arith in
      first-entry place e [] ∙ append-none (entry_part architecture e.qualifier (kept place))
      ∙ ap (λ (x : Provide). entry_part architecture x.qualifier (kept place)) same ∙ ap (λ (k : ℕ). entry_part architecture entry.qualifier (kept k)) at
  entries-more place (e ∷ entries) (suc i) entry is =
      let at : place + 1 + i ≡ place + suc i = omega arith in
      let next : suc i + 1 ≡ suc (i + 1) = omega arith in
      let own = entry_part architecture e.qualifier (kept place) in
      ap (λ (n : ℕ). Parts place (take n (e ∷ entries))) next
      ∙ first-entry place e (take (i + 1) entries)
      ∙ ap (λ (xs : List Meaning). own ++ xs) (entries-more (place + 1) entries i entry is)
      ∙ sym (append_assoc own (Parts (place + 1) (take i entries)) (entry_part architecture entry.qualifier (kept (place + 1 + i))))
      ∙ ap (λ (xs : List Meaning). xs ++ entry_part architecture entry.qualifier (kept (place + 1 + i))) (sym (first-entry place e (take i entries)))
      ∙ ap (λ (k : ℕ). Parts place (take (suc i) (e ∷ entries)) ++ entry_part architecture entry.qualifier (kept k)) at

  entries-within : (place : ℕ) (entries : List Provide) (i : ℕ) (entry : Provide) → slice_get entries i ≡ Some entry
      → length (Parts place (take i entries)) + length (entry_part architecture entry.qualifier (kept (place + i))) ≤ length (Parts place entries)
  entries-within place [] i entry is = absurd (let none : None ≡ Some entry = is in cc)
  entries-within place (e ∷ entries) zero entry is =
      let same : e ≡ entry = cc in
      let at : place ≡ place + 0 = omega arith in
      let own = ap (λ (x : Provide). length (entry_part architecture x.qualifier (kept place))) same
      ∙ ap (λ (k : ℕ). length (entry_part architecture entry.qualifier (kept k))) at in
      omega (
        arith,
        own,
        ap (λ (xs : List Meaning). length xs) (first-entry place e entries),
        length-append (entry_part architecture e.qualifier (kept place)) (Parts (place + 1) entries),
      )
  entries-within place (e ∷ entries) (suc i) entry is =
      let at : place + 1 + i ≡ place + suc i = omega arith in
      let own = ap (λ (k : ℕ). length (entry_part architecture entry.qualifier (kept k))) at in
      omega (
        arith,
        own,
        entries-within (place + 1) entries i entry is,
        ap (λ (xs : List Meaning). length xs) (first-entry place e entries),
        length-append (entry_part architecture e.qualifier (kept place)) (Parts (place + 1) entries),
        ap (λ (xs : List Meaning). length xs) (first-entry place e (take i entries)),
        length-append (entry_part architecture e.qualifier (kept place)) (Parts (place + 1) (take i entries)),
      )

  pub extend-entry : (limit : ℕ) (old cur new : List Meaning) (entries : List Provide) (i : ℕ) (entry : Provide) → slice_get entries i ≡ Some entry
      → IsExtended limit old (Parts 0 (take i entries)) cur
      → IsExtended limit cur (entry_part architecture entry.qualifier (kept i)) new → IsExtended limit old (Parts 0 (take (i + 1) entries)) new
  extend-entry limit old cur new entries i entry is one two =
      let at : entry_part architecture entry.qualifier (kept i) ≡ entry_part architecture entry.qualifier (kept (0 + i)) =
      ap (λ (k : ℕ). entry_part architecture entry.qualifier (kept k)) (sym (zero-add i)) in
      extend-same limit old (Parts 0 (take i entries) ++ entry_part architecture entry.qualifier (kept (0 + i))) (Parts 0 (take (i + 1) entries)) new
      (sym (entries-more 0 entries i entry is))
      (extend-on limit old (Parts 0 (take i entries)) cur (entry_part architecture entry.qualifier (kept (0 + i))) new one
      (extend-same limit cur (entry_part architecture entry.qualifier (kept i)) (entry_part architecture entry.qualifier (kept (0 + i))) new at two))

  pub full-entry : (limit : ℕ) (old cur : List Meaning) (entries : List Provide) (i : ℕ) (entry : Provide) (e : SpaceError) → slice_get entries i ≡ Some entry
      → IsExtended limit old (Parts 0 (take i entries)) cur
      → IsFull limit (length cur + length (entry_part architecture entry.qualifier (kept i))) e → IsFull limit (length old + length (Parts 0 entries)) e
  full-entry limit old cur entries i entry e is h full =
      let at : length (entry_part architecture entry.qualifier (kept i)) ≡ length (entry_part architecture entry.qualifier (kept (0 + i))) =
      ap (λ (k : ℕ). length (entry_part architecture entry.qualifier (kept k))) (sym (zero-add i)) in
      full-more limit (length cur + length (entry_part architecture entry.qualifier (kept i))) (length old + length (Parts 0 entries)) e
      (omega (arith, at, length-extended limit old (Parts 0 (take i entries)) cur h, entries-within 0 entries i entry is)) full

  pub entries-all : (limit : ℕ) (old cur : List Meaning) (entries : List Provide) (i : ℕ) → length entries ≤ i
      → IsExtended limit old (Parts 0 (take i entries)) cur → IsExtended limit old (Parts 0 entries) cur
  entries-all limit old cur entries i past h = extend-same limit old (Parts 0 (take i entries)) (Parts 0 entries) cur (ap (Parts 0) (take_all i entries past)) h
