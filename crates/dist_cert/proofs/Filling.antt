-- A piece of a file, and what is left behind it.
use Rattle.std.proofs.Common.{◌≡◌, ℕ, ◌+◌, ◌-◌, ◌≤◌, false, nat_lt, List, [], ◌++◌, length, take, drop, Option, Some, None, Ok, refl, ap, sym, subst, ◌∙◌}
use Rattle.std.proofs.Common.{arith, length-take}
use Rattle.std.specs.Prelude.{slice_range}
use Rattle.std.proofs.Math.Nat.{sub-zero}
use Rattle.std.proofs.lemmas.Bool.{ltb-false}
use Rattle.std.proofs.lemmas.List.{take-append-drop, drop-drop, drop-take}
use Rattle.dist_outside.specs.Files.{Files, Mode, Idle, Reading, Writing, file_bytes}
use Rattle.dist_outside.specs.DeskView.{DeskView}
use Rattle.dist_outside.specs.Reading.{moved, bytes_from, bytes_left, GivesNext, ReadsNext}
use Rattle.dist_cert.specs.Reading.{WhereTold}
use Rattle.dist_cert.specs.LineReadingPrivate.{unread, Filled}

-- the rest of a piece, once more of it was taken
pub skipped : (bytes : List ℕ) (start count end : ℕ) → start ≤ end → end ≤ length bytes → count ≤ length (slice_range bytes start end)
    → slice_range bytes (start + count) end ≡ drop count (slice_range bytes start end)
skipped bytes start count end low high within =
    let room : start + count ≤ end = omega (arith, within, length-take (end - start) (drop start bytes)) in
    let split : end - start ≡ count + (end - (start + count)) = omega arith in
    sym (ap (λ n. drop count (take n (drop start bytes))) split ∙ drop-take count (end - (start + count)) (drop start bytes)
    ∙ ap (take (end - (start + count))) (drop-drop count start bytes))

-- what a read leaves of a file
read_from : (place count : ℕ) (bytes : Option (List ℕ)) (buffer : List ℕ) → GivesNext (bytes_from place bytes) count buffer
    → WhereTold (bytes_from place bytes) (bytes_from (place + count) bytes) (λ left more. (left ≡ take count buffer ++ more) × (count ≡ 0 → left ≡ []))
read_from place count None buffer next = refl
read_from place count (Some bytes) buffer next = (
  drop (place + count) bytes,
  refl,
  (
    sym (take-append-drop count (drop place bytes)) ∙ ap (λ front. front ++ drop count (drop place bytes)) (sym next.1)
        ∙ ap (λ more. take count buffer ++ more) (drop-drop count place bytes),
    next.2,
  ),
)

read_on : (files : Option Files) (mode : Mode) (count : ℕ) (buffer : List ℕ) → GivesNext (bytes_left files mode) count buffer
    → WhereTold (bytes_left files mode) (bytes_left files (moved mode count)) (λ left more. (left ≡ take count buffer ++ more) × (count ≡ 0 → left ≡ []))
read_on files Idle count buffer next = refl
read_on files (Reading None) count buffer next = refl
read_on files (Reading (Some (name, place))) count buffer next = read_from place count (file_bytes files name) buffer next
read_on files (Writing name) count buffer next = refl

pub told_weaker : (before after : Option (List ℕ)) (R S : List ℕ → List ℕ → Type 0) → ((rest more : List ℕ) → R rest more → S rest more)
    → WhereTold before after R → WhereTold before after S
told_weaker None after R S f h = h
told_weaker (Some rest) after R S f h = (h.0, h.1, f rest h.0 h.2)

-- a piece of a file was read
pub filled : (before after : DeskView) (count : ℕ) (buffer bytes : List ℕ) → ReadsNext count buffer before after → after.files ≡ before.files → bytes ≡ buffer
    → WhereTold (unread before) (unread after) (λ left more. Filled (Ok (nat_lt 0 count)) (slice_range bytes 0 count) left more)
filled before after count buffer bytes reads files same =
    let here : unread after ≡ bytes_left before.files (moved before.mode count) = (λ i. bytes_left (files i) (reads.moved i)) in
    let front : slice_range bytes 0 count ≡ take count buffer = ap (λ n. take n bytes) (sub-zero count) ∙ ap (take count) same in
    subst (λ u. WhereTold (unread before) u (λ left more. Filled (Ok (nat_lt 0 count)) (slice_range bytes 0 count) left more)) (sym here)
    (told_weaker (unread before) (bytes_left before.files (moved before.mode count)) _ _
    (λ left more h. record {
      came = h.0 ∙ ap (λ p. p ++ more) (sym front);
      end = λ e. let none : nat_lt 0 count ≡ false = cc in let low : count ≤ 0 = ltb-false 0 count none in h.1 (omega arith);
    })
    (read_on before.files before.mode count buffer reads.next))
