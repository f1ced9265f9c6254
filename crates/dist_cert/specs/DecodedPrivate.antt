-- Serves private contracts: the record that a letter and words are of, if they are of any. A line that has a form has
-- that of this record. Each list ends at a 0.
use Rattle.std.specs.Prelude.{ℕ, zero, suc, List, [], ◌∷◌, map, nat_eq, if◌then◌else◌}
use Rattle.dist_cert.specs.Form.{Word}
use Rattle.dist_cert.specs.declared.records.CertRecord.{CertRecord}
use Rattle.dist_cert.specs.declared.records.CertRecord.TheVariants.{Question, Derived, Refuted, Installation, Undecided}
use Rattle.dist_cert.specs.declared.records.CertRecord.TheVariants.{NotInstallable, Unknown, Strong, Outdated, Alive}
use Rattle.dist_cert.specs.declared.records.CertRecord.TheVariants.{Challenged, End}

-- the words before the first 0, and those behind it
abbrev pub before : List Word → List Word
before [] = []
before ((zero, positive) ∷ ws) = []
before ((suc n, positive) ∷ ws) = (suc n, positive) ∷ before ws

abbrev pub after : List Word → List Word
after [] = []
after ((zero, positive) ∷ ws) = ws
after ((suc n, positive) ∷ ws) = after ws

abbrev pub numbers : List Word → List ℕ
numbers ws = map (λ w. w.0) ws

abbrev pub pairs : List Word → List (ℕ × ℕ)
pairs [] = []
pairs (v ∷ []) = []
pairs (v ∷ w ∷ ws) = (v.0, w.0) ∷ pairs ws

abbrev pub first : List Word → ℕ
first [] = 0
first (w ∷ ws) = w.0

abbrev pub rest : List Word → List Word
rest [] = []
rest (w ∷ ws) = ws

-- the record that a line with this letter and these words is of, if it is of any
abbrev pub decoded : ℕ → List Word → CertRecord
decoded c ws =
    if nat_eq c 113 then Question (before ws) else (
    if nat_eq c 100 then Derived (before ws) (numbers (before (after ws))) else (
    if nat_eq c 102 then Refuted (numbers (before ws)) else (
    if nat_eq c 109 then Installation (numbers (before ws)) else (
    if nat_eq c 117 then Undecided else (
    if nat_eq c 120 then NotInstallable (first ws) else (
    if nat_eq c 121 then Unknown (first ws) else (
    if nat_eq c 115 then Strong (first ws) (numbers (before (rest ws))) (numbers (before (after (rest ws))))
    (numbers (before (after (after (rest ws))))) else (
    if nat_eq c 111 then Outdated (first ws) else (
    if nat_eq c 97 then Alive (first ws) (first (rest ws)) else (
    if nat_eq c 99 then Challenged (first ws) (numbers (before (rest ws))) (pairs (before (after (rest ws))))
    (pairs (before (after (after (rest ws))))) else End))))))))))
