-- Serves private contracts: the header that a line is of, if it is of any, and what a line is read as.
use Rattle.std.specs.Prelude.{ℕ, ◌+◌, Bool, List, [], ◌∷◌, length, drop, slice_index, nat_eq, Option, Some, None}
use Rattle.std.specs.Prelude.{if◌then◌else◌}
use Rattle.dist_cert.specs.declared.records.CertKind.{CertKind}
use Rattle.dist_cert.specs.declared.records.CertKind.TheVariants as kinds
use Rattle.dist_cert.specs.declared.records.CertRecord.{CertRecord}
use Rattle.dist_cert.specs.declared.records.Header.{Header}
use Rattle.dist_cert.specs.Form.{Word, HasForm, HasHeaderForm, kind_text, mode_text}
use Rattle.dist_cert.specs.LooseWords.{loose_words}

-- the kind of its word's first letter
abbrev pub kind_from : ℕ → CertKind
kind_from letter = if nat_eq letter 115 then kinds.Strong
    else (if nat_eq letter 111 then kinds.Outdated else kinds.Challenged)

-- the kind of a first line, and whether the word behind it begins as that of mode essential
abbrev pub kind_in : List ℕ → CertKind
kind_in line = kind_from (slice_index line 25)

abbrev pub mode_in : List ℕ → CertKind → Bool
mode_in line kind = nat_eq (slice_index line (26 + length (kind_text kind))) 101

-- how many bytes stand before the numbers
abbrev pub before_numbers : CertKind → Bool → ℕ
before_numbers kind essential = 26 + length (kind_text kind) + length (mode_text essential)

-- the header of four numbers
abbrev pub header_with : CertKind → Bool → List Word → Option Header
header_with kind essential (limit ∷ packages ∷ variables ∷ clauses ∷ []) =
    Some (record {
      kind = kind;
      limit = limit.0;
      packages = packages.0;
      variables = variables.0;
      clauses = clauses.0;
      essential = essential;
    })
header_with kind essential words = None

-- the header that a line is of, if it is of any
abbrev pub loose_header : List ℕ → Option Header
loose_header line =
    let kind = kind_in line in
    let essential = mode_in line kind in header_with kind essential
    (loose_words (drop (before_numbers kind essential) line))

-- what a line is read as: the value of its form, or nothing where it has none
abbrev pub IsReadAs : List ℕ → Option CertRecord → Type 0
IsReadAs line None = (step : CertRecord) → ¬ HasForm line step
IsReadAs line (Some step) = HasForm line step

abbrev pub IsReadAsHeader : List ℕ → Option Header → Type 0
IsReadAsHeader line None = (h : Header) → ¬ HasHeaderForm line h
IsReadAsHeader line (Some h) = HasHeaderForm line h
