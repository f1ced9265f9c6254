-- The lines of relations, one after another.
use Rattle.std.proofs.Common.{◌≡◌, ℕ, Bool, ◌+◌, ◌<◌, ◌≤◌, false, List, [], ◌∷◌, ◌++◌, length, get_or, take, refl, sym, ap, ap₂, ◌∙◌, arith, append_assoc, inl}
use Rattle.std.proofs.Common.{inr}
use Rattle.std.specs.Prelude.{◌↔◌, All, Contains, if◌then◌else◌, codes}
use Rattle.std.proofs.lemmas.Bool.{cases_Bool, false≢true}
use Rattle.std.proofs.lemmas.List.{append-nil, length-take-le, take_more}
use Rattle.std.proofs.lemmas.List.Elements.{All-contains}
use Rattle.dist_cert.specs.ListLaws.{any-from, from-any}
use Rattle.dist_cert.specs.Rising.{is_among}
use Rattle.dist_repo.specs.declared.package.Package.{Package}
use Rattle.dist_explain.specs.declared.relations.Relation.{Relation}
use Rattle.dist_report.specs.ExplainedText.{marked_line, marked_lines, relation_line}

lines-push : (packages : List Package) (needed undecided : List ℕ) (number : ℕ) (list : List Relation) (x : Relation)
    → marked_lines packages needed undecided number (list ++ x ∷ [])
    ≡ marked_lines packages needed undecided number list ++ marked_line packages needed undecided (number + length list) x
lines-push packages needed undecided number [] x =
    append-nil (marked_line packages needed undecided number x)
    ∙ ap (λ (n : ℕ). marked_line packages needed undecided n x) (let e : number ≡ number + 0 = omega arith in e)
lines-push packages needed undecided number (y ∷ list) x =
    ap (λ (bs : List ℕ). marked_line packages needed undecided number y ++ bs) (lines-push packages needed undecided (number + 1) list x
    ∙ ap (λ (n : ℕ). marked_lines packages needed undecided (number + 1) list ++ marked_line packages needed undecided n x)
    (let e : number + 1 + length list ≡ number + length (y ∷ list) = omega arith in e))
    ∙ sym (append_assoc (marked_line packages needed undecided number y) (marked_lines packages needed undecided (number + 1) list)
    (marked_line packages needed undecided (number + length (y ∷ list)) x))

-- one line more of a list
pub lines-next : (packages : List Package) (needed undecided : List ℕ) (list : List Relation) (k : ℕ) (d : Relation) → k < length list
    → marked_lines packages needed undecided 1 (take (k + 1) list)
    ≡ marked_lines packages needed undecided 1 (take k list) ++ marked_line packages needed undecided (k + 1) (get_or list k d)
lines-next packages needed undecided list k d short =
    ap (marked_lines packages needed undecided 1) (take_more list k d short)
    ∙ lines-push packages needed undecided 1 (take k list) (get_or list k d)
    ∙ ap (λ (n : ℕ). marked_lines packages needed undecided 1 (take k list) ++ marked_line packages needed undecided n (get_or list k d))
    (let size = length-take-le k list (omega (arith, short)) in let e : 1 + length (take k list) ≡ k + 1 = omega (arith, size) in e)

-- a number beyond those of a type is not among numbers of it
pub not-among : (numbers : List ℕ) (number bound : ℕ) → All (λ n. n < bound) numbers → bound ≤ number → false ≡ is_among numbers number
not-among numbers number bound small past = elim (cases_Bool (is_among numbers number)) [
  | inl there ↦ absurd (let less = All-contains (λ (n : ℕ). n < bound) numbers number small (from-any number numbers there) in omega (arith, less, past))
  | inr none ↦ sym none
]

-- lists of the same numbers have the same ones among them
pub same-among : (numbers others : List ℕ) → ((one : ℕ) → Contains others one ↔ Contains numbers one) → (number : ℕ)
    → is_among others number ≡ is_among numbers number
same-among numbers others same number = elim (cases_Bool (is_among others number)) [
  | inl there ↦ there ∙ sym (any-from number numbers ((same number).0 (from-any number others there)))
  | inr none ↦ elim (cases_Bool (is_among numbers number)) [
    | inl there ↦ absurd (false≢true (sym none ∙ any-from number others ((same number).1 (from-any number numbers there))))
    | inr also ↦ none ∙ sym also
  ]
]

-- and are told alike
pub same-lines : (packages : List Package) (needed undecided needed' undecided' : List ℕ) → ((n : ℕ) → is_among needed' n ≡ is_among needed n)
    → ((n : ℕ) → is_among undecided' n ≡ is_among undecided n) → (number : ℕ) (list : List Relation)
    → marked_lines packages needed' undecided' number list ≡ marked_lines packages needed undecided number list
same-lines packages needed undecided needed' undecided' n u number [] = refl
same-lines packages needed undecided needed' undecided' n u number (relation ∷ list) =
    ap₂ (λ (line more : List ℕ). line ++ more)
    (ap₂ (λ (a b : Bool). if a then relation_line packages relation else (if b then codes "perhaps " ++ relation_line packages relation else []))
    (n number) (u number))
    (same-lines packages needed undecided needed' undecided' n u (number + 1) list)
