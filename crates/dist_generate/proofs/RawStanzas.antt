-- The raw stanzas of the lines of drawn packages, which have no faults.
use Rattle.std.proofs.Common.{◌≡◌, ℕ, zero, suc, ◌+◌, true, false, List, [], ◌∷◌, ◌++◌, append_assoc, length, Option, Some, None, refl, ap, ◌∙◌, arith}
use Rattle.std.specs.List.{flat_map}
use Rattle.std.proofs.lemmas.Bool.{cond-false}
use Rattle.dist_control.specs.Bytes.{is_blank}
use Rattle.dist_control.specs.Faults.{IsSound}
use Rattle.dist_control.specs.RawStanza.{RawStanza, run, raw_stanzas_from}
use Rattle.dist_generate.specs.Generator.{Alternative, Drawn, depends_lines, conflicts_lines, field_lines, stanza_lines}

-- ---- the longest runs of lines that are not blank

-- lines that are not blank
AreFull : List (List ℕ) → Type 0
AreFull [] = Unit {0}
AreFull (line ∷ lines) = (is_blank line ≡ false) × AreFull lines

run-ended : (front rest : List (List ℕ)) → AreFull front → run (front ++ [] ∷ rest) ≡ front
unfolding AreFull
run-ended [] rest full = refl
run-ended (line ∷ front) rest full =
    cond-false (is_blank line) [] (line ∷ run (front ++ [] ∷ rest)) full.0 ∙ ap (λ t. line ∷ t) (run-ended front rest full.1)

raw-ended : (number : ℕ) (front rest : List (List ℕ)) → AreFull front →
    raw_stanzas_from number false (front ++ [] ∷ rest) ≡ raw_stanzas_from (number + (length front + 1)) true rest
unfolding AreFull
raw-ended number [] rest full = refl
raw-ended number (line ∷ front) rest full =
    cond-false (is_blank line) (raw_stanzas_from (number + 1) true (front ++ [] ∷ rest)) (raw_stanzas_from (number + 1) false (front ++ [] ∷ rest)) full.0
    ∙ raw-ended (number + 1) front rest full.1
    ∙ ap (λ n. raw_stanzas_from n true rest) (let e : number + 1 + (length front + 1) ≡ number + (length (line ∷ front) + 1) = omega arith in e)

raw-first : (number : ℕ) (line : List ℕ) (front rest : List (List ℕ)) → is_blank line ≡ false → AreFull front →
    raw_stanzas_from number true (line ∷ (front ++ [] ∷ rest))
    ≡ record { line = number; lines = line ∷ front } ∷ raw_stanzas_from (number + (length (line ∷ front) + 1)) true rest
raw-first number line front rest first full =
    cond-false (is_blank line) (raw_stanzas_from (number + 1) true (front ++ [] ∷ rest))
    (record { line = number; lines = line ∷ run (front ++ [] ∷ rest) } ∷ raw_stanzas_from (number + 1) false (front ++ [] ∷ rest)) first
    ∙ ap (λ (t : List (List ℕ)). record { line = number; lines = line ∷ t } ∷ raw_stanzas_from (number + 1) false (front ++ [] ∷ rest))
    (run-ended front rest full)
    ∙ ap (λ (t : List RawStanza). record { line = number; lines = line ∷ front } ∷ t) (raw-ended (number + 1) front rest full)
    ∙ ap (λ n. record { line = number; lines = line ∷ front } ∷ raw_stanzas_from n true rest)
    (let e : number + 1 + (length front + 1) ≡ number + (length (line ∷ front) + 1) = omega arith in e)

-- ---- those of drawn packages

-- the raw stanza of a package, and where the next one begins
abbrev pub raw_of : ℕ → Drawn → RawStanza
raw_of number d = record { line = number; lines = field_lines d }

abbrev pub next_line : ℕ → Drawn → ℕ
next_line number d = number + (length (field_lines d) + 1)

abbrev pub raws_from : ℕ → List Drawn → List RawStanza
raws_from number [] = []
raws_from number (d ∷ all) = raw_of number d ∷ raws_from (next_line number d) all

full-relations : (items : List (List Alternative)) (conflict : Option ℕ) → AreFull (depends_lines items ++ conflicts_lines conflict)
unfolding AreFull
full-relations [] None = tt
full-relations [] (Some other) = (refl, tt)
full-relations (item ∷ items) None = (refl, tt)
full-relations (item ∷ items) (Some other) = (refl, (refl, tt))

pub raw-drawn : (number : ℕ) (all : List Drawn) → raw_stanzas_from number true (flat_map stanza_lines all) ≡ raws_from number all
unfolding AreFull
raw-drawn number [] = refl
raw-drawn number (d ∷ all) =
    ap (raw_stanzas_from number true) (append_assoc (field_lines d) ([] ∷ []) (flat_map stanza_lines all))
    ∙ raw-first number _ _ (flat_map stanza_lines all) refl (refl, (refl, (refl, full-relations d.items d.conflict)))
    ∙ ap (λ (t : List RawStanza). raw_of number d ∷ t) (raw-drawn (next_line number d) all)

-- ---- no line has a fault

sound-from : (number : ℕ) (d : Drawn) (items : List (List Alternative)) (conflict : Option ℕ)
    → IsSound (raw_of number (record d { items = items; conflict = conflict }))
sound-from number d [] None zero h = refl
sound-from number d [] None (suc zero) h = refl
sound-from number d [] None (suc (suc zero)) h = refl
sound-from number d [] None (suc (suc (suc zero))) h = refl
sound-from number d [] None (suc (suc (suc (suc k)))) h = absurd (omega arith)
sound-from number d [] (Some other) zero h = refl
sound-from number d [] (Some other) (suc zero) h = refl
sound-from number d [] (Some other) (suc (suc zero)) h = refl
sound-from number d [] (Some other) (suc (suc (suc zero))) h = refl
sound-from number d [] (Some other) (suc (suc (suc (suc zero)))) h = refl
sound-from number d [] (Some other) (suc (suc (suc (suc (suc k))))) h = absurd (omega arith)
sound-from number d (item ∷ items) None zero h = refl
sound-from number d (item ∷ items) None (suc zero) h = refl
sound-from number d (item ∷ items) None (suc (suc zero)) h = refl
sound-from number d (item ∷ items) None (suc (suc (suc zero))) h = refl
sound-from number d (item ∷ items) None (suc (suc (suc (suc zero)))) h = refl
sound-from number d (item ∷ items) None (suc (suc (suc (suc (suc k))))) h = absurd (omega arith)
sound-from number d (item ∷ items) (Some other) zero h = refl
sound-from number d (item ∷ items) (Some other) (suc zero) h = refl
sound-from number d (item ∷ items) (Some other) (suc (suc zero)) h = refl
sound-from number d (item ∷ items) (Some other) (suc (suc (suc zero))) h = refl
sound-from number d (item ∷ items) (Some other) (suc (suc (suc (suc zero)))) h = refl
sound-from number d (item ∷ items) (Some other) (suc (suc (suc (suc (suc zero))))) h = refl
sound-from number d (item ∷ items) (Some other) (suc (suc (suc (suc (suc (suc k)))))) h = absurd (omega arith)

pub sound-drawn : (number : ℕ) (d : Drawn) → IsSound (raw_of number d)
sound-drawn number d = sound-from number d d.items d.conflict
