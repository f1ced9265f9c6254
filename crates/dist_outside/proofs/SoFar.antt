-- Reading a file piece by piece: how far it has come.
use Rattle.std.proofs.Common.{◌≡◌, ℕ, ◌+◌, ◌<◌, ◌≤◌, List, [], ◌++◌, length, take, drop, Option, Some, None, refl, ap, sym, subst, ◌∙◌, arith, take_all}
use Rattle.std.proofs.Common.{length-append, length-take, length-drop}
use Rattle.std.specs.Prelude.{IsSome}
use Rattle.std.proofs.Math.Seq.{take-add}
use Rattle.std.proofs.lemmas.Bool.{false≢true}
use Rattle.dist_outside.specs.Files.{Files, Mode, Reading, IsReading, where_told, IsPresent, IsFile, IsLonger}
use Rattle.dist_outside.specs.Reading.{moved, bytes_left, bytes_from, GivesNext}
use Rattle.dist_outside.specs.SoFarPrivate.{ReadTo, SoFar}
use Rattle.std.specs.FinMap.{get}

some_value : (o : Option (List ℕ)) → IsSome o → (whole : List ℕ) × (o ≡ Some whole)
some_value None h = absurd (false≢true h)
some_value (Some whole) h = (whole, refl)

pub SoFar-start : (told : Option Files) (mode : Mode) (name : List ℕ) → IsPresent told name
    → mode ≡ Reading (where_told told (name, 0)) → SoFar told mode name []
SoFar-start None mode name present at = at
SoFar-start (Some files) mode name present at =
    let found = some_value (get files name) present in
    (found.0, record { file = found.1; at = at; front = refl; within = omega arith })

pub IsReading-so_far : (told : Option Files) (mode : Mode) (name bytes : List ℕ) → SoFar told mode name bytes → IsReading mode
IsReading-so_far None mode name bytes so_far = subst IsReading (sym so_far) tt
IsReading-so_far (Some files) mode name bytes so_far = subst IsReading (sym so_far.1.at) tt

left-so_far : (files : Files) (mode : Mode) (name bytes whole : List ℕ) → ReadTo files mode name bytes whole
    → bytes_left (Some files) mode ≡ Some (drop (length bytes) whole)
left-so_far files mode name bytes whole so_far =
    ap (bytes_left (Some files)) so_far.at ∙ ap (bytes_from (length bytes)) so_far.file

next-so_far : (files : Files) (mode : Mode) (name bytes whole buffer : List ℕ) (count : ℕ) → ReadTo files mode name bytes whole
    → GivesNext (bytes_left (Some files) mode) count buffer → GivesNext (Some (drop (length bytes) whole)) count buffer
next-so_far files mode name bytes whole buffer count so_far next =
    subst (λ left. GivesNext left count buffer) (left-so_far files mode name bytes whole so_far) next

pub SoFar-more : (told : Option Files) (mode mode' : Mode) (name bytes buffer : List ℕ) (count : ℕ) → SoFar told mode name bytes
    → count ≤ length buffer → GivesNext (bytes_left told mode) count buffer → mode' ≡ moved mode count
    → SoFar told mode' name (bytes ++ take count buffer)
SoFar-more None mode mode' name bytes buffer count so_far within next at = at ∙ ap (λ m. moved m count) so_far
SoFar-more (Some files) mode mode' name bytes buffer count (whole, so_far) within next at =
    let here = next-so_far files mode name bytes whole buffer count so_far next in
    let long : length (bytes ++ take count buffer) ≡ length bytes + count = omega (arith, length-append bytes (take count buffer), length-take count buffer) in
    let room : length bytes + count ≤ length whole = omega (arith, length-drop (length bytes) whole, here.0, so_far.within) in (
      whole,
      record {
        file = so_far.file;
        at = at ∙ ap (λ m. moved m count) so_far.at ∙ ap (λ n. Reading (Some (name, n))) (sym long);
        front = ap (λ front. front ++ take count buffer) so_far.front
            ∙ ap (λ more. take (length bytes) whole ++ more) here.1
            ∙ sym (take-add (length bytes) count whole) ∙ ap (λ n. take n whole) (sym long);
        within = omega (arith, long, room);
      },
    )

pub SoFar-end : (told : Option Files) (mode : Mode) (name bytes buffer : List ℕ) → SoFar told mode name bytes
    → GivesNext (bytes_left told mode) 0 buffer → IsFile told name bytes
SoFar-end None mode name bytes buffer so_far next = tt
SoFar-end (Some files) mode name bytes buffer (whole, so_far) next =
    let here = next-so_far files mode name bytes whole buffer 0 so_far next in
    let none_left : length (drop (length bytes) whole) ≡ 0 = ap length (here.2 refl) in
    let all : length bytes ≡ length whole = omega (arith, length-drop (length bytes) whole, none_left, so_far.within) in
    so_far.file ∙ ap Some (sym (so_far.front ∙ ap (λ n. take n whole) all ∙ take_all (length whole) whole (omega arith)))

pub SoFar-longer : (told : Option Files) (mode : Mode) (name bytes buffer : List ℕ) (count limit : ℕ) → SoFar told mode name bytes
    → GivesNext (bytes_left told mode) count buffer → limit < length bytes + count → IsLonger told name limit
SoFar-longer None mode name bytes buffer count limit so_far next over = tt
SoFar-longer (Some files) mode name bytes buffer count limit (whole, so_far) next over =
    let here = next-so_far files mode name bytes whole buffer count so_far next in
    (whole, so_far.file, omega (arith, length-drop (length bytes) whole, here.0, so_far.within, over))
