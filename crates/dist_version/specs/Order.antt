-- The order of versions, by Debian Policy 5.6.12, stated by weights: a part of a version becomes a list of whole
-- numbers, and the first difference decides.
use Rattle.std.specs.Prelude.{◌≡◌, ℕ, zero, suc, ◌+◌, ◌<◌, ◌<ℤ◌, ◌==◌, not, List, [], ◌∷◌, ◌++◌, length, map, drop, ℤ}
use Rattle.std.specs.Prelude.{pos, negsuc, slice_index_or, if◌then◌else◌}
use Rattle.std.specs.declared.cmp.Ordering.{Ordering}
use Rattle.std.specs.declared.cmp.Ordering.TheVariants.{Less, Equal}
use Rattle.std.specs.Char.{is_ascii_digit, is_ascii_alphabetic}
use Rattle.std.specs.List.{take_while}
use Rattle.std.specs.Option.{unwrap_or}
use Rattle.std.specs.Ordering.{ordering_then, nat_cmp, int_cmp}
use Rattle.std.specs.Str.Parse.{digits_value}
use Rattle.dist_base.specs.Ascii.{tilde}
use Rattle.dist_version.specs.Spelling.{epoch_of, upstream_of, revision_of}

-- of a byte that is no digit: -1 for `~`, its code for a letter, and its code and 256 for any other
abbrev pub weight_of : ℕ → ℤ
weight_of b = if b == tilde then negsuc 0 else if is_ascii_alphabetic b then pos b else pos (b + 256)

-- the longest start without digits
abbrev pub text_start : List ℕ → List ℕ
text_start part = take_while (λ b. not (is_ascii_digit b)) part

-- the longest start of digits
abbrev pub digit_start : List ℕ → List ℕ
digit_start part = take_while is_ascii_digit part

-- what is left of a part after its first turn, a longest start without digits and then one of digits
abbrev pub after_text : List ℕ → List ℕ
after_text part = drop (length (text_start part)) part

abbrev pub after_turn : List ℕ → List ℕ
after_turn part = drop (length (digit_start (after_text part))) (after_text part)

-- the number that the digits of the first turn write
abbrev pub number_of : List ℕ → ℕ
number_of part = digits_value 10 (digit_start (after_text part))

-- the weights of at most so many turns: of each byte without digits, then 0, then the number that the digits write,
-- which is 0 where there is none
abbrev pub turns : ℕ → List ℕ → List ℤ
turns zero part = []
turns (suc n) [] = []
turns (suc n) (b ∷ bs) = map weight_of (text_start (b ∷ bs)) ++ pos 0 ∷ pos (number_of (b ∷ bs))
    ∷ turns n (after_turn (b ∷ bs))

-- The weights of a part. It has no more turns than bytes, so these are those of its first turn and then the weights of
-- what is left (the law `weights_decide` says so).
unfoldable pub weights_of : List ℕ → List ℤ
weights_of part = turns (length part) part

-- the weight at a place, which is 0 past the end
abbrev pub weight_at : List ℤ → ℕ → ℤ
weight_at weights place = slice_index_or weights place (pos 0)

-- The first difference of two lists of weights decides, where zeros without end follow each.
abbrev pub weights_cmp : List ℤ → List ℤ → Ordering
weights_cmp [] [] = Equal
weights_cmp [] (y ∷ ys) = ordering_then (int_cmp (pos 0) y) (weights_cmp [] ys)
weights_cmp (x ∷ xs) [] = ordering_then (int_cmp x (pos 0)) (weights_cmp xs [])
weights_cmp (x ∷ xs) (y ∷ ys) = ordering_then (int_cmp x y) (weights_cmp xs ys)

-- At the first place where the two differ, xs has the lesser weight.
pub record IsLighter (xs ys : List ℤ) : Type 0 where
  pub place : ℕ
  pub before : (k : ℕ) → k < place → weight_at xs k ≡ weight_at ys k
  pub less : weight_at xs place <ℤ weight_at ys place

-- the order of two upstream versions, or of two revisions
unfoldable pub part_cmp : List ℕ → List ℕ → Ordering
part_cmp a b = weights_cmp (weights_of a) (weights_of b)

-- the order of two versions: by epoch, then upstream version, then revision, where a missing one is the empty part
unfoldable pub version_cmp : List ℕ → List ℕ → Ordering
version_cmp a b =
    ordering_then (nat_cmp (epoch_of a) (epoch_of b))
    (ordering_then (part_cmp (upstream_of a) (upstream_of b))
    (part_cmp (unwrap_or (revision_of a) []) (unwrap_or (revision_of b) [])))

-- a is below b
abbrev pub IsBelow : List ℕ → List ℕ → Type 0
IsBelow a b = version_cmp a b ≡ Less
