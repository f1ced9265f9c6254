-- The newest file of a name, found from the front, and the newest of all, which grows.
use Rattle.std.proofs.Common.{◌≡◌, ℕ, ◌+◌, ◌<◌, cond, List, [], ◌∷◌, ◌++◌, length, get_or, set, drop, Some, Result, Ok, Err, OnOk, is_ok, Vec, Global}
use Rattle.std.proofs.Common.{string_bytes, ap, sym, ◌∙◌, arith}
use Rattle.std.proofs.lemmas.List.{drop_more}
use Rattle.std.proofs.lemmas.Map.Text.{is_eq-slice_cmp}
use Rattle.std.proofs.lemmas.Cmp.{nat_list_cmp_total}
use Rattle.std.specs.Str.{bytes_eq}
use Rattle.std.specs.FinMap.{get, insert, get-insert}
use Rattle.std.specs.declared.alloc.AllocError.{AllocError}
use Rattle.dist_outside.specs.Files.{Writing, appended_to, with_more}
use Rattle.dist_outside.proofs.Files.{insert-insert, get-insert_same}
use Rattle.dist_outside.specs.KeptPrivate.{files_of, newest_name}
use Rattle.dist_outside.specs.declared.named_files.NamedFile.{NamedFile}

-- what a look-up finds from a place on: the file there, if it has the name, or else what it finds from the next place on
pub newest_from : (files : List NamedFile) (place : ℕ) (file : NamedFile) (name : List ℕ) → place < length files → file ≡ get_or files place file
    → get (files_of (drop place files)) name
    ≡ cond (bytes_eq name (string_bytes file.name)) (Some file.bytes.items) (get (files_of (drop (place + 1) files)) name)
newest_from files place file name within is =
    ap (λ rest. get (files_of rest) name) (drop_more files place file within ∙ ap (λ f. f ∷ drop (place + 1) files) (sym is))
    ∙ get-insert nat_list_cmp_total (files_of (drop (place + 1) files)) (string_bytes file.name) file.bytes.items name
    ∙ ap (λ same. cond same (Some file.bytes.items) (get (files_of (drop (place + 1) files)) name)) (is_eq-slice_cmp name (string_bytes file.name))

-- the newest of the files took a piece
pub appended_newest : (files : List NamedFile) (file : NamedFile) (bytes : Vec ℕ Global) (piece : List ℕ) (done : Result (Unit {0}) AllocError)
    → 0 < length files → file ≡ get_or files 0 file → bytes.items ≡ cond (is_ok done) (file.bytes.items ++ piece) file.bytes.items
    → OnOk done (Some (files_of (set files 0 (record { name = file.name; bytes = bytes })))
    ≡ with_more (Some (files_of files)) (Writing (Some (newest_name files))) piece)
appended_newest [] file bytes piece done some first taken = absurd (omega arith)
appended_newest (newest ∷ files) file bytes piece (Ok value) some first taken =
    let older = files_of files in
    let name = string_bytes newest.name in
    ap Some (
    ap (λ (f : NamedFile). insert older (string_bytes f.name) bytes.items) first
    ∙ ap (insert older name) (taken ∙ ap (λ (f : NamedFile). f.bytes.items ++ piece) first)
    ∙ sym (insert-insert older name newest.bytes.items (newest.bytes.items ++ piece))
    ∙ ap (λ found. appended_to (insert older name newest.bytes.items) name found piece) (sym (get-insert_same older name newest.bytes.items))
    )
appended_newest (newest ∷ files) file bytes piece (Err error) some first taken = tt
