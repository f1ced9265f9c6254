-- Worked examples: the lines of the certificate of ten lines as records, their claims, installations and groups, and
-- edits of them with their faults.
use Rattle.std.proofs.Common.{◌≡◌, List, [], ◌∷◌, ◌++◌, length, refl, ap, arith, lit<, length-append}
use Rattle.dist_cert.specs.declared.records.CertRecord.{CertRecord}
use Rattle.dist_cert.specs.declared.records.CertRecord.TheVariants.{Question, Refuted, Installation, Undecided, Strong}
use Rattle.dist_cert.specs.declared.records.CertRecord.TheVariants.{End}
use Rattle.dist_cert.specs.Groups.{installations, claim_count, group, IsOpen}
use Rattle.dist_cert.specs.ClaimRules.{yes, no}
use Rattle.dist_cert.specs.LineRules.{IsOutOfRange, IsOutOfOrder, IsTooEarly}
use Rattle.dist_cert.specs.Accepted.{claims_in}
use Rattle.dist_cert.specs.TenLinesExamples.{two, header, on_b_and_on_nothing}

-- the lines before line 5, that line, and the claim on a
abbrev pub asking : List CertRecord
asking = Question (yes 1 ∷ []) ∷ Installation (1 ∷ 2 ∷ []) ∷ Question (yes 1 ∷ no 2 ∷ []) ∷ []

abbrev pub on_a : List CertRecord
on_a = asking ++ Refuted (1 ∷ []) ∷ []

abbrev pub claim_on_a : CertRecord
claim_on_a = Strong 1 (1 ∷ []) (2 ∷ []) []

-- the lines before the claim on b, and that claim
abbrev pub on_b : List CertRecord
on_b = on_a ++ claim_on_a ∷ Question (yes 2 ∷ []) ∷ Installation (2 ∷ []) ∷ []

abbrev pub claim_on_b : CertRecord
claim_on_b = Strong 2 (2 ∷ []) [] []

abbrev pub all_lines : List CertRecord
all_lines = on_b ++ claim_on_b ∷ End ∷ []

its_claims : claims_in all_lines ≡ on_b_and_on_nothing
its_claims = refl

two_claims : claim_count all_lines ≡ 2
two_claims = refl

two_installations : installations all_lines ≡ (1 ∷ 2 ∷ []) ∷ (2 ∷ []) ∷ []
two_installations = refl

first_group : group on_a ≡ on_a
first_group = refl

second_group : group on_b ≡ Question (yes 2 ∷ []) ∷ Installation (2 ∷ []) ∷ []
second_group = refl

-- line 2 as `q 3`
out_of_range : IsOutOfRange two (Question (yes 3 ∷ []))
out_of_range = (0, 3, lit< tt, refl, lit< tt)

-- line 2 as `f 1`
no_question : IsOutOfOrder two [] (Refuted (1 ∷ []))
no_question open_one = let n = ap length open_one.3.ends in
    omega (arith, n, length-append open_one.0 (Question open_one.1 ∷ open_one.2))

-- the question of line 4 is open
pub asked : IsOpen asking (Question (yes 1 ∷ []) ∷ Installation (1 ∷ 2 ∷ []) ∷ []) (yes 1 ∷ no 2 ∷ []) []
asked = record { ends = refl; left_open = λ k d within. absurd (omega (arith, within)) }

-- line 5 as `u`
too_early : IsTooEarly header asking Undecided
too_early = (Question (yes 1 ∷ []) ∷ Installation (1 ∷ 2 ∷ []) ∷ [], yes 1 ∷ no 2 ∷ [], [], asked, lit< tt)
