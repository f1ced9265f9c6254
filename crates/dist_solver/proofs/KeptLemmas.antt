-- Derived lines under more lists of hints.
use Rattle.std.proofs.Common.{◌≡◌, ◌<◌, ℕ, List, [], ◌∷◌, ◌++◌, length, get_or, refl, ap, ◌∙◌, Result, Ok, Err, OnErr}
use Rattle.std.specs.List.{All}
use Rattle.std.proofs.lemmas.List.{get_or_append_left, get_or_push, map_push}
use Rattle.std.proofs.lemmas.List.Elements.{All-head, All-tail}
use Rattle.dist_solver.specs.Derived.{DerivedLine}
use Rattle.dist_solver.specs.Kept.{lines_kept}
use Rattle.dist_solver.specs.declared.lines.Line.{Line}

pub kept_under : (hints more : List (List ℕ)) (lines : List Line) → All (λ l. l.place < length hints) lines
    → lines_kept (hints ++ more) lines ≡ lines_kept hints lines
kept_under hints more [] h = refl
kept_under hints more (l ∷ lines) h =
    ap (λ hs. record { line = l.number; hints = hs } ∷ lines_kept (hints ++ more) lines)
    (get_or_append_left hints more [] l.place (All-head (λ l. l.place < length hints) l lines h))
    ∙ ap (λ ds. record { line = l.number; hints = get_or hints l.place [] } ∷ ds)
    (kept_under hints more lines (All-tail (λ l. l.place < length hints) l lines h))

pub kept_more : (hints : List (List ℕ)) (added : List ℕ) (lines : List Line) (l : Line) → All (λ l. l.place < length hints) lines → length hints ≡ l.place
    → lines_kept (hints ++ added ∷ []) (lines ++ l ∷ []) ≡ lines_kept hints lines ++ record { line = l.number; hints = added } ∷ []
kept_more hints added lines l h last =
    map_push (λ (l : Line). let d : DerivedLine = record { line = l.number; hints = get_or (hints ++ added ∷ []) l.place [] } in d) lines l
    ∙ ap (λ ds. ds ++ record { line = l.number; hints = get_or (hints ++ added ∷ []) l.place [] } ∷ []) (kept_under hints (added ∷ []) lines h)
    ∙ ap (λ hs. lines_kept hints lines ++ record { line = l.number; hints = hs } ∷ []) (get_or_push hints added [] l.place last)

pub whatever_err : {T E P : Type 0} (r : Result T E) → P → OnErr r P
whatever_err (Ok x) h = tt
whatever_err (Err e) h = h
