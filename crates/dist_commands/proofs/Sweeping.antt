-- What a sweep comes to, as the command tells it.
use Rattle.std.proofs.Common.{◌≡◌, ℕ, Bool, List, [], inl, Result, Ok, Err, refl, sym, subst}
use Rattle.std.proofs.lemmas.List.{append-nil}
use Rattle.dist_outside.specs.DeskView.{DeskView}
use Rattle.dist_outside.specs.declared.limits.Limits.{Limits}
use Rattle.dist_outside.specs.declared.trouble.What.{What}
use Rattle.dist_outside.specs.declared.trouble.What.TheVariants as what
use Rattle.dist_outside.specs.declared.trouble.WorkError.{WorkError}
use Rattle.dist_outside.specs.declared.trouble.WorkError.TheVariants as work
use Rattle.dist_repo.specs.PackageList.{PackageList}
use Rattle.dist_cert.specs.declared.records.Claim.{Claim}
use Rattle.dist_cert.specs.declared.records.Header.{Header}
use Rattle.dist_cert.specs.declared.records.CertKind.{CertKind}
use Rattle.dist_cert.specs.declared.records.CertKind.TheVariants as kinds
use Rattle.dist_subject.specs.Limited.{PassesFirst, PassesLater, PassesPresent}
use Rattle.dist_sweep.specs.Sweep.{IsCutSweep, IsSweep, SweepAnswers}
use Rattle.dist_commands.specs.Claims.{IsReportOf}
use Rattle.dist_commands.specs.DuePrivate.{WriterAnswers}
use Rattle.dist_commands.specs.Sweeps.{sweep_writing}
use Rattle.dist_commands.proofs.Writings.{IsOfInputs}

-- ---- the numbers that what is judged by can pass

pub present_of_inputs : (r : PackageList) (essential : Bool) (limits : Limits) (number : What) → PassesPresent r essential limits number → IsOfInputs number
present_of_inputs r essential limits what.Bytes passes = absurd passes
present_of_inputs r essential limits what.Stanzas passes = absurd passes
present_of_inputs r essential limits what.Variables passes = tt
present_of_inputs r essential limits what.Clauses passes = tt
present_of_inputs r essential limits what.Literals passes = tt
present_of_inputs r essential limits what.Lines passes = absurd passes
present_of_inputs r essential limits what.LineLiterals passes = absurd passes
present_of_inputs r essential limits what.Certificate passes = absurd passes
present_of_inputs r essential limits what.RecordLine passes = absurd passes

later_of_inputs : (r : PackageList) (essential : Bool) (limits : Limits) (number : What) → PassesLater r essential limits number → IsOfInputs number
later_of_inputs r essential limits what.Bytes passes = absurd passes
later_of_inputs r essential limits what.Stanzas passes = absurd passes
later_of_inputs r essential limits what.Variables passes = tt
later_of_inputs r essential limits what.Clauses passes = tt
later_of_inputs r essential limits what.Literals passes = tt
later_of_inputs r essential limits what.Lines passes = absurd passes
later_of_inputs r essential limits what.LineLiterals passes = absurd passes
later_of_inputs r essential limits what.Certificate passes = absurd passes
later_of_inputs r essential limits what.RecordLine passes = absurd passes

pub of_inputs : (r : PackageList) (kind : CertKind) (essential : Bool) (limits : Limits) (number : What) → PassesFirst r kind essential limits number
    → IsOfInputs number
of_inputs r kinds.Strong essential limits number passes = present_of_inputs r essential limits number passes
of_inputs r kinds.Outdated essential limits number passes = later_of_inputs r essential limits number passes
of_inputs r kinds.Challenged essential limits number passes = later_of_inputs r essential limits number passes

-- ---- a sweep

module _ (r : PackageList) (kind : CertKind) (essential : Bool) (limit : ℕ) (limits : Limits) (name : List ℕ) (old new : DeskView) where
  pub sweep_answered : (result : Result (List Claim) WorkError) → SweepAnswers r kind essential limit limits name old new result
      → WriterAnswers (sweep_writing limits kind essential limit r) name old new result
  sweep_answered (Ok made) answers = answers
  sweep_answered (Err work.ReadFault) answers = answers
  sweep_answered (Err work.WriteFault) (rose, leaves) = (rose, leaves.files)
  sweep_answered (Err work.NoMemory) leaves = leaves.files
  sweep_answered (Err (work.TooLarge what.Variables)) answers = answers
  sweep_answered (Err (work.TooLarge what.Clauses)) answers = answers
  sweep_answered (Err (work.TooLarge what.Literals)) answers = answers
  sweep_answered (Err (work.TooLarge what.Bytes)) answers = answers
  sweep_answered (Err (work.TooLarge what.Stanzas)) answers = answers
  sweep_answered (Err (work.TooLarge what.Lines)) answers = answers
  sweep_answered (Err (work.TooLarge what.LineLiterals)) answers = answers
  sweep_answered (Err (work.TooLarge what.Certificate)) answers = answers
  sweep_answered (Err (work.TooLarge what.RecordLine)) answers = answers

  -- a whole certificate is a part with nothing behind it
  pub whole_is_cut : (made : List Claim) (text : List ℕ) → IsSweep r kind essential limit limits made text → IsCutSweep r kind essential limit limits text
  whole_is_cut made text (basis, are, (done, part)) =
      (basis, are, record { whole = text; part = part; cut = []; is = sym (append-nil text); cut_off = inl refl })

-- a report of a first line's kind and limit
pub told_report : (r : PackageList) (h : Header) (kind : CertKind) (limit : ℕ) (made : List Claim) (text : List ℕ) → h.kind ≡ kind → h.limit ≡ limit
    → IsReportOf r h.kind h.limit made text → IsReportOf r kind limit made text
told_report r h kind limit made text kind_is limit_is told =
    subst (λ (k : CertKind). IsReportOf r k limit made text) kind_is (subst (λ (n : ℕ). IsReportOf r h.kind n made text) limit_is told)
