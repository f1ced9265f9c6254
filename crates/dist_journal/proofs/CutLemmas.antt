-- How lines are cut at step lines, and at the first that is not blank.
use Rattle.std.proofs.Common.{◌≡◌, ◌≢◌, ℕ, ◌+◌, ◌-◌, ◌<◌, true, false, List, [], ◌∷◌, ◌++◌, length, take, drop, refl, sym, ap, subst, ◌∙◌, arith, inl, inr}
use Rattle.std.proofs.Common.{append_assoc, length-append}
use Rattle.std.specs.Prelude.{All}
use Rattle.std.proofs.lemmas.Bool.{cases_eq}
use Rattle.std.proofs.lemmas.List.{append-nil}
use Rattle.std.proofs.Math.Seq.{drop-append_seam, take-append_seam}
use Rattle.std.proofs.lemmas.List.Elements.{All-nil, All-push, All-tail, All-head}
use Rattle.dist_control.specs.Bytes.{is_blank}
use Rattle.dist_control.specs.Lines.{lines, in_front}
use Rattle.dist_journal.specs.CutPrivate.{EndsLine, IsAtStep, IsBlankTo, IsCutAfter, IsCutTo, IsLineInFront}
use Rattle.dist_journal.specs.Journal.{AreBlank, IsFirstStray, front, is_step_line}

-- ---- lines with their line feeds

lines-end : (byte : ℕ) (bytes : List ℕ) → byte ≡ 10 → lines (byte ∷ bytes) ≡ [] ∷ lines bytes
lines-end byte bytes is = rw is refl

lines-within : (byte : ℕ) (bytes : List ℕ) → byte ≢ 10 → lines (byte ∷ bytes) ≡ in_front byte (lines bytes)
lines-within byte bytes other = grind (arith, other)

-- a list with one more byte in front is not the empty line with others
rest-of : (byte : ℕ) (line : List ℕ) (all after : List (List ℕ)) → 0 < length all → in_front byte all ≡ (byte ∷ line) ∷ after → all ≡ line ∷ after
rest-of byte line [] after some is = absurd (omega (arith, some))
rest-of byte line (first ∷ rest) after some is = cc

some-line : (line after : List ℕ) → 0 < length (lines (line ++ 10 ∷ after))
some-line [] after = omega arith
some-line (byte ∷ line) after = elim (cases_eq byte 10) [
  | inl is ↦ subst (λ (l : List (List ℕ)). 0 < length l) (sym (lines-end byte (line ++ 10 ∷ after) is)) (omega arith)
  | inr other ↦ subst (λ (l : List (List ℕ)). 0 < length l) (sym (lines-within byte (line ++ 10 ∷ after) other))
      (in-front-some byte (lines (line ++ 10 ∷ after)))
]
  where
    in-front-some : (b : ℕ) (all : List (List ℕ)) → 0 < length (in_front b all)
    in-front-some b [] = omega arith
    in-front-some b (first ∷ rest) = omega arith

-- a line that is cut off before one text is cut off before another one
pub line-cut : (line after more : List ℕ) → lines (line ++ 10 ∷ after) ≡ line ∷ lines after → lines (line ++ 10 ∷ more) ≡ line ∷ lines more
line-cut [] after more is = refl
line-cut (byte ∷ line) after more is = elim (cases_eq byte 10) [
  | inl same ↦ absurd (let e : [] ∷ lines (line ++ 10 ∷ after) ≡ (byte ∷ line) ∷ lines after = sym (lines-end byte (line ++ 10 ∷ after) same) ∙ is in cc)
  | inr other ↦
      let inner = rest-of byte line (lines (line ++ 10 ∷ after)) (lines after) (some-line line after)
      (sym (lines-within byte (line ++ 10 ∷ after) other) ∙ is) in
      lines-within byte (line ++ 10 ∷ more) other ∙ ap (in_front byte) (line-cut line after more inner)
]

-- ---- the front of lines that are no step lines

front-at : (list : List (List ℕ)) → IsAtStep list → front list ≡ []
front-at [] at = refl
front-at (line ∷ rest) at = rw at refl

pub front-of : (block rest : List (List ℕ)) → All (λ line. is_step_line line ≡ false) block → IsAtStep rest → front (block ++ rest) ≡ block
front-of [] rest none at = front-at rest at
front-of (line ∷ block) rest none at =
    let here : is_step_line line ≡ false = All-head (λ l. is_step_line l ≡ false) line block none in
    let more = front-of block rest (All-tail (λ l. is_step_line l ≡ false) line block none) at in
    rw here (ap (λ (l : List (List ℕ)). line ∷ l) more)

pub cut-start : (text : List ℕ) → IsCutTo text text 0
cut-start text = record {
  done = [];
  split = refl;
  no_steps = All-nil (λ line. is_step_line line ≡ false);
  count_is = refl;
  whole = inr (λ more. refl);
}

pub cut-lines : (text rest : List ℕ) (count : ℕ) (cut : IsCutTo text rest count) → lines text ≡ lines cut.done ++ lines rest
cut-lines text rest count cut = ap lines cut.split ∙ elim cut.whole [
  | inl end ↦ subst (λ (r : List ℕ). lines (cut.done ++ r) ≡ lines cut.done ++ lines r) (sym end)
      (ap lines (append-nil cut.done) ∙ sym (append-nil (lines cut.done)))
  | inr whole ↦ whole rest
]

pub cut-more : (text rest after : List ℕ) (count : ℕ) → IsCutTo text rest count → IsLineInFront rest after → IsCutTo text after (count + 1)
cut-more text rest after count cut next = elim next.cut [
  | inl ended ↦
      let d = cut.done in
      let line = next.line in
      let own = line-cut line after [] (sym (ap lines ended) ∙ next.pieces) in
      let all = ends (line ++ 10 ∷ []) ∙ ap (λ (l : List (List ℕ)). lines d ++ l) own in
      record {
        done = d ++ (line ++ 10 ∷ []);
        split = cut.split ∙ ap (λ (r : List ℕ). d ++ r) (ended ∙ sym (append_assoc line (10 ∷ []) after)) ∙ sym (append_assoc d (line ++ 10 ∷ []) after);
        no_steps = subst (λ (l : List (List ℕ)). All (λ x. is_step_line x ≡ false) l) (sym all)
            (All-push (λ x. is_step_line x ≡ false) (lines d) line cut.no_steps next.no_step);
        count_is = counted (lines (d ++ (line ++ 10 ∷ []))) all;
        whole = inr (λ more. ap lines (append_assoc d (line ++ 10 ∷ []) more) ∙ ends ((line ++ 10 ∷ []) ++ more)
            ∙ ap (λ (l : List (List ℕ)). lines d ++ l) (ap lines (append_assoc line (10 ∷ []) more)
            ∙ line-cut line after more (sym (ap lines ended) ∙ next.pieces))
            ∙ sym (append_assoc (lines d) (line ∷ []) (lines more))
            ∙ ap (λ (l : List (List ℕ)). l ++ lines more) (sym all));
      }
  | inr last ↦
      let d = cut.done in
      let line = next.line in
      let all : lines (d ++ rest) ≡ lines d ++ line ∷ [] =
      ends rest ∙ ap (λ (l : List (List ℕ)). lines d ++ l) (next.pieces ∙ ap (λ (a : List ℕ). line ∷ lines a) last.1) in
      record {
        done = d ++ rest;
        split = cut.split ∙ sym (append-nil (d ++ rest)) ∙ ap (λ (a : List ℕ). (d ++ rest) ++ a) (sym last.1);
        no_steps = subst (λ (l : List (List ℕ)). All (λ x. is_step_line x ≡ false) l) (sym all)
            (All-push (λ x. is_step_line x ≡ false) (lines d) line cut.no_steps next.no_step);
        count_is = counted (lines (d ++ rest)) all;
        whole = inl last.1;
      }
]
  where
    ends : EndsLine cut.done
    ends = elim cut.whole [
      | inl end ↦ absurd (let e : length rest ≡ 0 = ap length end in omega (arith, e, next.shorter))
      | inr whole ↦ whole
    ]

    counted : (all : List (List ℕ)) → all ≡ lines cut.done ++ next.line ∷ [] → count + 1 ≡ length all
    counted all is = let e : length all ≡ length (lines cut.done ++ next.line ∷ []) = ap length is in
        omega (arith, e, cut.count_is, length-append (lines cut.done) (next.line ∷ []))

pub cut-end : (text rest : List ℕ) (count : ℕ) (cut : IsCutTo text rest count) → IsAtStep (lines rest)
    → IsCutAfter (lines text) (lines cut.done) (lines rest)
cut-end text rest count cut at = record {
  pieces = cut-lines text rest count cut;
  is_front = ap front (cut-lines text rest count cut) ∙ front-of (lines cut.done) (lines rest) cut.no_steps at;
  at_step = at;
}

-- the same of the two parts of the text at the place where the rest begins
pub cut-split : (text rest block next : List ℕ) (count : ℕ) → IsCutTo text rest count → IsAtStep (lines rest)
    → block ≡ take (length text - length rest) text → next ≡ drop (length text - length rest) text
    → IsCutAfter (lines text) (lines block) (lines next) × (count ≡ length (lines block)) × (next ≡ rest)
cut-split text rest block next count cut at is_block is_next =
    let place : length text - length rest ≡ length cut.done = let e : length text ≡ length (cut.done ++ rest) = ap length cut.split in
    omega (arith, e, length-append cut.done rest) in
    let front_is : block ≡ cut.done = is_block ∙ ap (λ (k : ℕ). take k text) place ∙ ap (λ (t : List ℕ). take (length cut.done) t) cut.split
    ∙ take-append_seam cut.done rest in
    let rest_is : next ≡ rest = is_next ∙ ap (λ (k : ℕ). drop k text) place ∙ ap (λ (t : List ℕ). drop (length cut.done) t) cut.split
    ∙ drop-append_seam cut.done rest in (
      rw (front_is, rest_is) (cut-end text rest count cut at),
      rw front_is cut.count_is,
      rest_is,
    )

-- ---- blank lines

pub blank-start : (number : ℕ) (block : List (List ℕ)) → IsBlankTo number block block number
blank-start number block = record { before = []; pieces = refl; blank = All-nil (λ line. is_blank line ≡ true); place_is = omega arith }

pub blank-more : (number place : ℕ) (line : List ℕ) (block rest after : List (List ℕ)) → IsBlankTo number block rest place → rest ≡ line ∷ after
    → is_blank line ≡ true → IsBlankTo number block after (place + 1)
blank-more number place line block rest after so_far is blank = record {
  before = so_far.before ++ line ∷ [];
  pieces = so_far.pieces ∙ ap (λ (l : List (List ℕ)). so_far.before ++ l) is ∙ sym (append_assoc so_far.before (line ∷ []) after);
  blank = All-push (λ l. is_blank l ≡ true) so_far.before line so_far.blank blank;
  place_is = omega (arith, so_far.place_is, length-append so_far.before (line ∷ []));
}

pub blank-stray : (number place : ℕ) (line : List ℕ) (block rest after : List (List ℕ)) → IsBlankTo number block rest place → rest ≡ line ∷ after
    → is_blank line ≡ false → IsFirstStray number block place
blank-stray number place line block rest after so_far is stray = record {
  before = so_far.before;
  line = line;
  after = after;
  pieces = so_far.pieces ∙ ap (λ (l : List (List ℕ)). so_far.before ++ l) is;
  blank = so_far.blank;
  stray = stray;
  place_is = so_far.place_is;
}

pub blank-end : (number place : ℕ) (block rest : List (List ℕ)) → IsBlankTo number block rest place → rest ≡ [] → AreBlank block
blank-end number place block rest so_far is =
    subst AreBlank (sym (so_far.pieces ∙ ap (λ (l : List (List ℕ)). so_far.before ++ l) is ∙ append-nil so_far.before)) so_far.blank
