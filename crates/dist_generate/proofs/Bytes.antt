-- How long the text of a drawn package is, and that its lines have no line feed.
use Rattle.std.proofs.Common.{◌≡◌, ℕ, ◌+◌, ◌*◌, ◌/◌, ◌<◌, ◌≤◌, Bool, true, false, ◌==◌, List, [], ◌∷◌, ◌++◌, length, Option, Some, None, refl, ap, ◌∙◌, arith}
use Rattle.std.proofs.Common.{length-append}
use Rattle.std.specs.Prelude.{codes, decimal, if◌then◌else◌}
use Rattle.std.specs.List.{list_all, flat_map, join_by}
use Rattle.std.proofs.lemmas.List.{append-nil}
use Rattle.std.proofs.lemmas.Fmt.{length-decimal-le}
use Rattle.dist_generate.specs.Generator.{Alternative, Drawn, drawn_bound, alternative_text, item_text, depends_lines, conflicts_lines, field_lines}
use Rattle.dist_generate.specs.Generator.{stanza_lines, stanza_text, text_of_lines}
use Rattle.dist_generate.proofs.Small.{AreTargets, IsItem, AreItems, IsTarget, IsSmall, small}
use Rattle.dist_generate.proofs.Digits.{decimal-passes, all-append}
use Rattle.dist_generate.proofs.SmallDraws.{AreSmall}
use Rattle.dist_generate.proofs.TextLines.{is_inner, AreLines, lines-append}

-- ---- lengths

decimal-short : (n : ℕ) → n < 10000 → length (decimal n) ≤ 4
decimal-short n h = length-decimal-le 4 n (omega arith) (omega arith) (small n h)

bound-short : (x y : Bool) → length (if x then codes " (>= 1)" else if y then codes " (<< 2)" else []) ≤ 7
bound-short true y = omega arith
bound-short false true = omega arith
bound-short false false = omega arith

alternative-short : (c : Alternative) → c.target < 10000 → length (alternative_text c) ≤ 12
alternative-short c h = omega (
  arith,
  length-append (decimal c.target) (drawn_bound c.bound),
  decimal-short c.target h,
  bound-short (c.bound == 2) (c.bound == 3),
)

item-short : (item : List Alternative) → IsItem item → length (item_text item) ≤ 27
item-short [] is = omega arith
item-short (c ∷ []) is = omega (arith, ap length (append-nil (alternative_text c)), alternative-short c is.2.0)
item-short (c ∷ d ∷ []) is =
    omega (
      arith,
      length-append (alternative_text c) (32 ∷ 124 ∷ 32 ∷ item_text (d ∷ [])),
      ap length (append-nil (alternative_text d)),
      alternative-short c is.2.0,
      alternative-short d is.2.1.0,
    )
item-short (c ∷ d ∷ e ∷ more) is = absurd (omega (arith, is.1))

items-short : (items : List (List Alternative)) → length items ≤ 2 → AreItems items → length (join_by item_text (codes ", ") items) ≤ 56
items-short [] few is = omega arith
items-short (item ∷ []) few is = omega (arith, ap length (append-nil (item_text item)), item-short item is.0)
items-short (item ∷ next ∷ []) few is =
    omega (
      arith,
      length-append (item_text item) (44 ∷ 32 ∷ join_by item_text (codes ", ") (next ∷ [])),
      ap length (append-nil (item_text next)),
      item-short item is.0,
      item-short next is.1.0,
    )
items-short (item ∷ next ∷ third ∷ more) few is = absurd (omega arith)

length-line : (line : List ℕ) (ls : List (List ℕ)) → length (text_of_lines (line ∷ ls)) ≡ length line + 1 + length (text_of_lines ls)
length-line line ls = length-append (line ++ 10 ∷ []) (text_of_lines ls) ∙ ap (λ n. n + length (text_of_lines ls)) (length-append line (10 ∷ []))

relations-short : (items : List (List Alternative)) (conflict : Option ℕ) → length items ≤ 2 → AreItems items → IsTarget conflict →
    length (text_of_lines ((depends_lines items ++ conflicts_lines conflict) ++ [] ∷ [])) ≤ 100
relations-short [] None few is target = omega arith
relations-short [] (Some other) few is target =
    omega (arith, length-line (codes "Conflicts: g" ++ decimal other) ([] ∷ []), decimal-short other target)
relations-short (item ∷ items) None few is target =
    omega (arith, length-line (codes "Depends: " ++ join_by item_text (codes ", ") (item ∷ items)) ([] ∷ []), items-short (item ∷ items) few is)
relations-short (item ∷ items) (Some other) few is target =
    omega (
      arith,
      length-line (codes "Depends: " ++ join_by item_text (codes ", ") (item ∷ items)) ((codes "Conflicts: g" ++ decimal other) ∷ [] ∷ []),
      length-line (codes "Conflicts: g" ++ decimal other) ([] ∷ []),
      items-short (item ∷ items) few is,
      decimal-short other target,
    )

stanza-short : (d : Drawn) → IsSmall d → length (stanza_text d) ≤ 200
stanza-short d is =
    let rest = (depends_lines d.items ++ conflicts_lines d.conflict) ++ [] ∷ [] in
    let package_ = codes "Package: g" ++ decimal d.number in
    let version = codes "Version: 1." ++ decimal d.digit in
    let source = codes "Source: s" ++ decimal (d.number / 2) in
    omega (
      arith,
      length-line package_ (version ∷ codes "Architecture: all" ∷ source ∷ rest),
      length-line version (codes "Architecture: all" ∷ source ∷ rest),
      length-line (codes "Architecture: all") (source ∷ rest),
      length-line source rest,
      decimal-short d.number is.number,
      decimal-short d.digit (omega (arith, is.digit)),
      decimal-short (d.number / 2) (omega (arith, is.number)),
      relations-short d.items d.conflict is.few is.items is.conflict,
    )

pub text-short : (all : List Drawn) → AreSmall all → length (flat_map stanza_text all) ≤ 200 * length all
text-short [] are = omega arith
text-short (d ∷ all) are = omega (arith, length-append (stanza_text d) (flat_map stanza_text all), stanza-short d are.0, text-short all are.1)

-- ---- no line feeds

inner-number : (n : ℕ) → n < 10000 → list_all is_inner (decimal n) ≡ true
inner-number n h = decimal-passes is_inner refl n (small n h)

inner-bound : (x y : Bool) → list_all is_inner (if x then codes " (>= 1)" else if y then codes " (<< 2)" else []) ≡ true
inner-bound true y = refl
inner-bound false true = refl
inner-bound false false = refl

inner-alternative : (c : Alternative) → c.target < 10000 → list_all is_inner (alternative_text c) ≡ true
inner-alternative c h = all-append is_inner (decimal c.target) (drawn_bound c.bound) (inner-number c.target h) (inner-bound (c.bound == 2) (c.bound == 3))

inner-item : (item : List Alternative) → AreTargets item → list_all is_inner (item_text item) ≡ true
inner-item [] are = refl
inner-item (c ∷ []) are = all-append is_inner (alternative_text c) [] (inner-alternative c are.0) refl
inner-item (c ∷ d ∷ cs) are = all-append is_inner (alternative_text c) (32 ∷ 124 ∷ 32 ∷ item_text (d ∷ cs)) (inner-alternative c are.0)
    (inner-item (d ∷ cs) are.1)

inner-items : (items : List (List Alternative)) → AreItems items → list_all is_inner (join_by item_text (codes ", ") items) ≡ true
inner-items [] are = refl
inner-items (item ∷ []) are = all-append is_inner (item_text item) [] (inner-item item are.0.2) refl
inner-items (item ∷ next ∷ items) are =
    all-append is_inner (item_text item) (44 ∷ 32 ∷ join_by item_text (codes ", ") (next ∷ items)) (inner-item item are.0.2) (inner-items (next ∷ items) are.1)

depends-inner : (items : List (List Alternative)) → AreItems items → AreLines (depends_lines items)
depends-inner [] are = tt
depends-inner (item ∷ items) are = (inner-items (item ∷ items) are, tt)

conflicts-inner : (conflict : Option ℕ) → IsTarget conflict → AreLines (conflicts_lines conflict)
conflicts-inner None h = tt
conflicts-inner (Some other) h = (inner-number other h, tt)

stanza-inner : (d : Drawn) → IsSmall d → AreLines (stanza_lines d)
stanza-inner d is =
    lines-append (field_lines d) ([] ∷ []) (
      inner-number d.number is.number,
      (
        inner-number d.digit (omega (arith, is.digit)),
        (
          refl,
          (
            inner-number (d.number / 2) (omega (arith, is.number)),
            lines-append (depends_lines d.items) (conflicts_lines d.conflict) (depends-inner d.items is.items) (conflicts-inner d.conflict is.conflict),
          ),
        ),
      ),
    ) (refl, tt)

pub all-inner : (all : List Drawn) → AreSmall all → AreLines (flat_map stanza_lines all)
all-inner [] are = tt
all-inner (d ∷ all) are = lines-append (stanza_lines d) (flat_map stanza_lines all) (stanza-inner d are.0) (all-inner all are.1)
