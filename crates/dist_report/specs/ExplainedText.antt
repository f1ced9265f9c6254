-- The text that tells what is answered of a package: that it is installable, or the relations that keep it from being
-- installed.
use Rattle.std.specs.Prelude.{◌≡◌, ℕ, ◌+◌, List, [], ◌∷◌, ◌++◌, codes, if◌then◌else◌, slice_get}
use Rattle.std.specs.Option.{option_map_or}
use Rattle.dist_cert.specs.Rising.{is_among}
use Rattle.dist_relation.specs.Canonical.{alternatives_text}
use Rattle.dist_repo.specs.PackageList.{PackageList}
use Rattle.dist_repo.specs.declared.package.Package.{Package}
use Rattle.dist_explain.specs.RelationList.{AreRelationsOf}
use Rattle.dist_explain.specs.declared.explained.Explained.{Explained}
use Rattle.dist_explain.specs.declared.explained.Explained.TheVariants.{Installable, Undecided, Broken}
use Rattle.dist_explain.specs.declared.relations.Relation.{Relation}
use Rattle.dist_explain.specs.declared.relations.Relation.TheVariants.{Needs, Apart}
use Rattle.dist_report.specs.PackageText.{label}

-- the package of a number, from 0
abbrev pub label_at : List Package → ℕ → List ℕ
label_at packages number = option_map_or label (slice_get packages number) []

-- the item at a place of a package, in its canonical text
abbrev pub item_at : List Package → (number place : ℕ) → List ℕ
item_at packages number place =
    option_map_or (λ p. option_map_or alternatives_text (slice_get p.depends place) []) (slice_get packages number) []

-- `needs Q: ITEM`, or `apart Q1 Q2`
abbrev pub relation_line : List Package → Relation → List ℕ
relation_line packages (Needs number place) =
    codes "needs " ++ (label_at packages number ++ (codes ": " ++ (item_at packages number place ++ codes "\n")))
relation_line packages (Apart first second) =
    codes "apart " ++ (label_at packages first ++ (codes " " ++ (label_at packages second ++ codes "\n")))

-- the line of the relation of a number, with `perhaps ` before it where it is undecided, or nothing where it is neither
-- needed nor undecided
abbrev pub marked_line : List Package → (needed undecided : List ℕ) → (number : ℕ) → Relation → List ℕ
marked_line packages needed undecided number relation =
    if is_among needed number then relation_line packages relation
    else (if is_among undecided number then codes "perhaps " ++ relation_line packages relation else [])

-- the lines of relations, of which the first has this number
abbrev pub marked_lines : List Package → (needed undecided : List ℕ) → (number : ℕ) → List Relation → List ℕ
marked_lines packages needed undecided number [] = []
marked_lines packages needed undecided number (relation ∷ list) =
    marked_line packages needed undecided number relation ++ marked_lines packages needed undecided (number + 1) list

-- what is answered, of relations from the number 1 on
abbrev pub answer_lines : List Package → List Relation → Explained → List ℕ
answer_lines packages list Installable = codes "installable\n"
answer_lines packages list Undecided = codes "undecided\n"
answer_lines packages list (Broken needed undecided) =
    codes "broken\n" ++ marked_lines packages needed undecided 1 list

-- The text: the package, and what is answered of it.
abbrev pub IsExplainedText : PackageList → ℕ → Explained → List ℕ → Type 0
IsExplainedText r number explained text = (list : List Relation) × AreRelationsOf r list
    × (text ≡ codes "package " ++ (label_at r.packages number
    ++ (codes "\n" ++ answer_lines r.packages list explained)))
