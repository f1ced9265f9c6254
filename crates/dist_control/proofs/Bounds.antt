-- How many bytes the raw stanzas of a text take.
use Rattle.std.proofs.Common.{◌≡◌, ℕ, suc, ◌+◌, ◌≤◌, Bool, true, false, cond, eqb, List, [], ◌∷◌, length, sum_by, arith}
use Rattle.std.proofs.lemmas.List.Sums.{sum_by-cons}
use Rattle.dist_control.specs.Bytes.{is_blank}
use Rattle.dist_control.specs.Lines.{lines, in_front}
use Rattle.dist_control.specs.RawStanza.{RawStanza, run, raw_stanzas_from}

-- the bytes of lines, with a line feed after each
abbrev pub total : List (List ℕ) → ℕ
total ls = sum_by (λ line. length line + 1) ls

-- and those of raw stanzas
abbrev pub size_of : RawStanza → ℕ
size_of raw = total raw.lines

abbrev pub sizes : List RawStanza → ℕ
sizes raws = sum_by size_of raws

record AreWithin (number : ℕ) (ls : List (List ℕ)) : Type 0 where
  apart : sizes (raw_stanzas_from number true ls) ≤ total ls
  within : total (run ls) + sizes (raw_stanzas_from number false ls) ≤ total ls

pub total-cons : (line : List ℕ) (rest : List (List ℕ)) → total (line ∷ rest) ≡ length line + 1 + total rest
total-cons line rest = sum_by-cons (λ line. length line + 1) line rest

pub sizes-cons : (raw : RawStanza) (rest : List RawStanza) → sizes (raw ∷ rest) ≡ size_of raw + sizes rest
sizes-cons raw rest = sum_by-cons size_of raw rest

le-first : (all here left whole line others rest : ℕ) → all ≡ here + left → here ≡ line + others → whole ≡ line + rest → others + left ≤ rest → all ≤ whole
le-first all here left whole line others rest a b c d = omega arith

le-second : (here left whole line others rest : ℕ) → here ≡ line + others → whole ≡ line + rest → others + left ≤ rest → here + left ≤ whole
le-second here left whole line others rest b c d = omega arith

within-step : (number : ℕ) (line : List ℕ) (rest : List (List ℕ)) (blank : Bool) → AreWithin (number + 1) rest →
    (sizes (cond blank (raw_stanzas_from (number + 1) true rest) (record { line = number; lines = line ∷ run rest } ∷ raw_stanzas_from (number + 1) false rest))
    ≤ total (line ∷ rest))
    × (total (cond blank [] (line ∷ run rest)) + sizes (cond blank (raw_stanzas_from (number + 1) true rest) (raw_stanzas_from (number + 1) false rest))
    ≤ total (line ∷ rest))
within-step number line rest true w = (omega (arith, w.apart, total-cons line rest), omega (arith, w.apart, total-cons line rest))
within-step number line rest false w =
    let raw : RawStanza = record { line = number; lines = line ∷ run rest } in
    let left = raw_stanzas_from (number + 1) false rest in (
      le-first (sizes (raw ∷ left)) (total (line ∷ run rest)) (sizes left) (total (line ∷ rest)) (length line + 1) (total (run rest)) (total rest)
          (sizes-cons raw left) (total-cons line (run rest)) (total-cons line rest) w.within,
      le-second (total (line ∷ run rest)) (sizes left) (total (line ∷ rest)) (length line + 1) (total (run rest)) (total rest)
          (total-cons line (run rest)) (total-cons line rest) w.within,
    )

within : (number : ℕ) (ls : List (List ℕ)) → AreWithin number ls
within number [] = record { apart = omega arith; within = omega arith }
within number (line ∷ rest) =
    let step = within-step number line rest (is_blank line) (within (number + 1) rest) in
    record { apart = step.0; within = step.1 }

total-in_front : (byte : ℕ) (ls : List (List ℕ)) (n : ℕ) → total ls ≤ n + 1 → total (in_front byte ls) ≤ n + 2
total-in_front byte [] n few = omega (arith, total-cons (byte ∷ []) [])
total-in_front byte (line ∷ ls) n few = omega (arith, total-cons line ls, total-cons (byte ∷ line) ls)

total-lines : (text : List ℕ) → total (lines text) ≤ length text + 1
total-lines [] = omega arith
total-lines (byte ∷ text) =
    elim (eqb byte 10) as (λ b. total (cond b ([] ∷ lines text) (in_front byte (lines text))) ≤ suc (length text) + 1) [
      | true ↦ omega (arith, total-cons [] (lines text), total-lines text)
      | false ↦ omega (arith, total-in_front byte (lines text) (length text) (total-lines text))
    ]

pub size-raw_stanzas : (text : List ℕ) → sizes (raw_stanzas_from 1 true (lines text)) ≤ length text + 1
size-raw_stanzas text = omega (arith, (within 1 (lines text)).apart, total-lines text)
