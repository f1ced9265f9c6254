-- A text has one verdict, and some.
use Rattle.std.proofs.Common.{◌≡◌, ◌⊎◌, ⊎_elim, inl, inr, ℕ, List, [], ◌++◌, subst}
use Rattle.dist_outside.specs.declared.limits.Limits.{Limits}
use Rattle.dist_cert.specs.declared.faults.CertCause.TheVariants as causes
use Rattle.dist_cert.specs.declared.faults.CertFault.{CertFault}
use Rattle.dist_cert.specs.declared.records.CertRecord.{CertRecord}
use Rattle.dist_cert.specs.FileLines.{lines_text, IsWhole, IsRefusedWith}
use Rattle.dist_cert.specs.OneVerdictLaws.{never_both, one_acceptance, one_refusal}
use Rattle.dist_cert.specs.SomeVerdictLaws.{some_verdict}
use Rattle.dist_judge.specs.ClearKindLaws.{BasesAreOne, IsClear, clear_rules}
use Rattle.dist_judge.specs.FileKind.{FileKind, rules_of}
use Rattle.dist_judge.specs.HeadingLaws.{HasHeading, heading_begins, is_judged, judged_by, one_first_line}
use Rattle.dist_judge.specs.HeadingLaws.{reads_heading, same_judged}
use Rattle.dist_judge.specs.Judging.{IsAccepted, IsJudgedBy, IsRefused, StopsFirst, StopsLater}

-- what a text is refused with
pub stops_refused : (kind : FileKind) → IsClear kind → (limits : Limits) (text : List ℕ) (fault : CertFault)
    → ((fault.line ≡ 1) × StopsFirst kind limits text fault.cause) ⊎ StopsLater kind limits text fault
    → IsRefused kind limits text fault
stops_refused kind clear limits text fault stops = ⊎_elim
    (λ first. (first.1.basis, first.1.judged, inl (record { line = first.0; cause = first.1.first })))
    (λ later. (
      later.basis,
      is_judged kind clear later.basis limits text later.h later.before later.rest later.reached.faultless
          later.reached.is_basis,
      inr (
        later.h,
        later.before,
        later.rest,
        record { faultless = later.reached.faultless; line = later.line; cause = later.first },
      ),
    ))
    stops

module _ (kind : FileKind) (clear : IsClear kind) (same : BasesAreOne kind) (limits : Limits) (text : List ℕ) where
  -- A text is accepted with one heading and one list of records at most.
  pub accepted_once : (h other : kind.Heading) (ones twos : List CertRecord) → IsAccepted kind limits text h ones
      → IsAccepted kind limits text other twos → (h ≡ other) × (ones ≡ twos)
  accepted_once h other ones twos (basis, is, whole) (more, also, second) =
      let one : more ≡ basis = same_judged kind same limits text basis more
      (reads_heading kind clear basis limits text h ones [] whole.faultless)
      (is_judged kind clear basis limits text h ones [] whole.faultless is)
      (is_judged kind clear more limits text other twos [] second.faultless also) in
      one_acceptance (rules_of kind basis) (clear_rules kind clear basis) limits text h other ones twos whole
      (subst (λ b. IsWhole (rules_of kind b) limits text other twos) one second)

  -- An accepted text is not refused.
  pub never_refused : (h : kind.Heading) (steps : List CertRecord) (fault : CertFault)
      → IsAccepted kind limits text h steps → ¬ IsRefused kind limits text fault
  never_refused h steps fault (basis, is, whole) (other, judged, refusal) =
      let one : other ≡ basis = same_judged kind same limits text basis other
      (reads_heading kind clear basis limits text h steps [] whole.faultless)
      (is_judged kind clear basis limits text h steps [] whole.faultless is) judged in
      never_both (rules_of kind basis) (clear_rules kind clear basis) limits text h steps fault whole
      (subst (λ b. IsRefusedWith (rules_of kind b) limits text fault) one refusal)

  -- A text has one refusal at most.
  pub refused_once : (fault also : CertFault) → IsRefused kind limits text fault → IsRefused kind limits text also
      → fault ≡ also
  refused_once fault also (basis, judged, first) (other, too, second) = ⊎_elim
      (λ x. ⊎_elim
      (λ y. one_first_line kind basis other limits text fault also x y)
      (λ y. by_heading (reads_heading kind clear other limits text y.0 y.1 y.2 y.3.faultless))
      second)
      (λ x. by_heading (reads_heading kind clear basis limits text x.0 x.1 x.2 x.3.faultless))
      first
    where
      by_heading : HasHeading kind limits text → fault ≡ also
      by_heading x = one_refusal (rules_of kind basis) (clear_rules kind clear basis) limits text fault also first
          (subst (λ b. IsRefusedWith (rules_of kind b) limits text also)
          (same_judged kind same limits text basis other x judged too) second)

-- it cannot be that something neither holds nor fails
either_way : (P : Type 0) → ¬ ¬ (P ⊎ (¬ P))
either_way P never = never (inr (λ p. never (inl p)))

-- No text is neither accepted nor refused, where each heading that it may have has a basis.
pub some_judgement : (kind : FileKind) → IsClear kind → (any : kind.Basis) (limits : Limits) (text : List ℕ)
    → ((x : HasHeading kind limits text) → (basis : kind.Basis) × kind.IsBasisOf x.h basis)
    → ((h : kind.Heading) (steps : List CertRecord) → ¬ IsAccepted kind limits text h steps)
    → ¬ ((fault : CertFault) → ¬ IsRefused kind limits text fault)
some_judgement kind clear any limits text there not_accepted not_refused =
    either_way (HasHeading kind limits text) (λ told. ⊎_elim with_heading without told)
  where
    -- by what the text is judged
    by : (basis : kind.Basis) → IsJudgedBy kind limits text basis → ⊥
    by basis judged = some_verdict (rules_of kind basis) (clear_rules kind clear basis) limits text (⊎_elim
        (λ accepted.
        let faultless = accepted.2.faultless in
        not_accepted accepted.0 accepted.1 (
          basis,
          judged accepted.0 (kind.heading_text accepted.0) (lines_text accepted.1 ++ [])
              (heading_begins kind clear text accepted.0 accepted.1 [] faultless.reads) faultless.reads.header
              (λ long. faultless.first causes.LineTooLong long),
          accepted.2,
        ))
        (λ refused. not_refused refused.0 (basis, judged, refused.1)))

    with_heading : HasHeading kind limits text → ⊥
    with_heading x = let some = there x in
        by some.0 (judged_by kind clear limits text x.line x.more x.h some.0 x.begins x.form some.1)

    without : (¬ HasHeading kind limits text) → ⊥
    without none = by any (λ h line more begins form short.
        absurd (none (record { h = h; line = line; more = more; begins = begins; form = form; short = short })))
