-- Worked examples of what a part may have next.
use Rattle.std.proofs.Common.{◌≡◌, ◌≢◌, ℕ, zero, suc, ◌-◌, ◌<◌, List, [], ◌∷◌, refl, subst, arith, lit<}
use Rattle.std.specs.List.{All, Contains}
use Rattle.std.specs.Prelude.{slice_index_or}
use Rattle.dist_outside.specs.declared.limits.Limits.{Limits}
use Rattle.dist_outside.specs.declared.trouble.What.TheVariants.{Lines}
use Rattle.dist_cert.specs.declared.records.CertRecord.{CertRecord}
use Rattle.dist_cert.specs.declared.records.CertRecord.TheVariants.{Question, Derived, Refuted, Installation, Strong}
use Rattle.dist_cert.specs.declared.records.Header.{Header}
use Rattle.dist_cert.specs.Subject.{Matter}
use Rattle.dist_cert.specs.ClaimRules.{yes, no}
use Rattle.dist_cert.specs.Groups.{installation_at, installations}
use Rattle.dist_cert.specs.Part.{IsNextLine, NamesFew, Passes, Strikes}

abbrev asked : List CertRecord
asked = Question (yes 1 ∷ no 2 ∷ []) ∷ Refuted (3 ∷ []) ∷ []

-- a question is not asked twice for a claim
not_twice : (matter : Matter) (h : Header) → ¬ IsNextLine matter h asked (Question (yes 1 ∷ no 2 ∷ []))
not_twice matter h next = next.not_twice (0, lit< tt, refl)

-- behind `q 1` may stand `m 1 2`
may_stand : (matter : Matter) (h : Header)
    → IsNextLine matter h (Question (yes 1 ∷ []) ∷ []) (Installation (1 ∷ 2 ∷ []))
may_stand matter h = (
  yes 1 ∷ [],
  [],
  record {
    earlier = [];
    opened = record { ends = refl; left_open = λ k d within. absurd (omega_none k within) };
    no_installation = refl;
  },
)
  where
    omega_none : (k : ℕ) → k < 0 → ⊥
    omega_none k within = omega (arith, within)

-- an installation is named once
named_once : (matter : Matter) (h : Header) (before : List CertRecord)
    → ¬ IsNextLine matter h before (Strong 2 (1 ∷ 1 ∷ []) [] [])
named_once matter h before once = once 0 1 0 (lit< tt) (lit< tt) refl

abbrev two_alike : List CertRecord
two_alike = Installation (1 ∷ 2 ∷ []) ∷ Installation (1 ∷ 2 ∷ []) ∷ []

-- of two installations that cover the same pairs a claim names one
one_of_two : (matter : Matter) → ¬ NamesFew matter two_alike 1 (1 ∷ 2 ∷ [])
one_of_two matter few = by few.today few.is_today few.strike
  where
    by : (today : ℕ) → Contains (installation_at two_alike today) 1
        → All (λ number. number ≢ today → Strikes matter two_alike 1 today (1 ∷ 2 ∷ []) number) (1 ∷ 2 ∷ []) → ⊥
    by zero now strike = let one = strike 0 0 (lit< tt) (λ e. omega (arith, e)) in one.not_today one.covers
    by (suc zero) now strike = let one = strike 1 0 (lit< tt) (λ e. omega (arith, e)) in one.not_today one.covers
    by (suc (suc zero)) now strike = let one = strike 0 0 (lit< tt) (λ e. omega (arith, e)) in one.not_today one.covers
    by (suc (suc (suc n))) now strike =
        let place : suc (suc (suc n)) - 1 ≡ suc (suc n) = omega arith in
        let none = subst (λ (k : ℕ). Contains (slice_index_or (installations two_alike) k []) 1) place now in
        omega (arith, none.1)

-- two derived lines pass the number 1
two_lines : (limits : Limits) (h : Header) → limits.lines ≡ 1
    → Passes limits h (Derived [] [] ∷ Derived [] [] ∷ []) Lines
two_lines limits h one = omega (arith, one)
