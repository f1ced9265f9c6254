-- What stops a sweep is below its budget.
use Rattle.std.proofs.Common.{⊎_elim, ℕ, ◌≤◌, Bool, List, ◌++◌, length, arith}
use Rattle.dist_outside.specs.declared.limits.Limits.{Limits}
use Rattle.dist_outside.specs.declared.trouble.What.{What}
use Rattle.dist_outside.specs.declared.trouble.What.TheVariants.{Lines, LineLiterals, RecordLine, Certificate}
use Rattle.dist_repo.specs.PackageList.{PackageList}
use Rattle.dist_cert.specs.ClearFormsLaws.{FormsAreClear}
use Rattle.dist_cert.specs.declared.records.CertKind.{CertKind}
use Rattle.dist_cert.specs.declared.records.CertRecord.{CertRecord}
use Rattle.dist_cert.specs.declared.records.Header.{Header}
use Rattle.dist_cert.specs.Form.{header_text}
use Rattle.dist_cert.specs.Part.{IsStoppedBy, Passes}
use Rattle.dist_cert.specs.Subject.{Matter}
use Rattle.dist_cert.specs.Writing.{ended}
use Rattle.dist_subject.specs.Basis.{Basis, IsBasisOf, matter_of}
use Rattle.dist_budget.specs.Budget.{record_budget, sweep_size, IsBelowBudget}
use Rattle.dist_sweep.specs.Sweep.{header_of}
use Rattle.dist_budget.proofs.Counts.{few-derived, few-answers, few-ends, few-claims}
use Rattle.dist_budget.proofs.EnoughVariables.{HasEnoughVariables, enough}
use Rattle.dist_budget.proofs.Questions.{few-asked}
use Rattle.dist_budget.proofs.Totals.{AreCounted, bytes-within, derived-within, line-above, literals-within}
use Rattle.dist_budget.proofs.Widths.{all-narrow, all-literals, header-width}
use Rattle.dist_budget.proofs.KeptLines.{AreAskedInTurn, AreKept, part-asked, part-kept}

are-counted : (matter : Matter) (h : Header) (steps : List CertRecord) → HasEnoughVariables matter h.kind → AreKept matter h steps
    → AreAskedInTurn matter h steps → length (ended (header_text h)) ≤ record_budget matter.variables
    → AreCounted (sweep_size h.kind matter h.limit) (header_text h) steps
are-counted matter h steps enough kept turn first = record {
  questions = few-asked matter h enough steps kept turn;
  lines = few-derived matter h steps kept;
  closings = few-answers matter h steps kept;
  claims = few-claims matter h steps kept;
  endings = few-ends matter h steps kept;
  literals = all-literals matter h steps kept;
  narrow = all-narrow matter h steps enough kept;
  first_narrow = first;
}

below : (limits : Limits) (matter : Matter) (h : Header) (steps : List CertRecord) (what : What)
    → AreCounted (sweep_size h.kind matter h.limit) (header_text h) steps → Passes limits h steps what → IsBelowBudget limits h.kind matter h.limit what
below limits matter h steps Lines counted passes =
    let few = derived-within (sweep_size h.kind matter h.limit) (header_text h) steps counted in omega (arith, few, passes)
below limits matter h steps LineLiterals counted passes =
    let few = literals-within (sweep_size h.kind matter h.limit) (header_text h) steps counted in omega (arith, few, passes)
below limits matter h steps RecordLine counted passes =
    ⊎_elim (λ header. let first = counted.first_narrow in omega (arith, first, header))
    (line-above (sweep_size h.kind matter h.limit) (header_text h) steps counted limits.record_line) passes
below limits matter h steps Certificate counted passes =
    let few = bytes-within (sweep_size h.kind matter h.limit) (header_text h) steps counted in omega (arith, few, passes)
below limits matter h steps what counted passes = absurd passes

pub budgets-are-enough : FormsAreClear → (r : PackageList) (kind : CertKind) (essential : Bool) (limit : ℕ) (limits : Limits) (basis : Basis) (text : List ℕ)
    (what : What) → IsBasisOf r kind essential basis
    → IsStoppedBy (matter_of r basis) limits (header_of kind essential limit (matter_of r basis)) text what
    → IsBelowBudget limits kind (matter_of r basis) limit what
budgets-are-enough clear r kind essential limit limits basis text what is stopped =
    let matter = matter_of r basis in
    let h = header_of kind essential limit matter in
    let longer = stopped.next.longer in
    let whole = text ++ ended stopped.line in
    below limits matter h stopped.next.steps what (are-counted matter h stopped.next.steps (enough r kind essential basis is)
    (part-kept clear matter limits h whole stopped.next.steps longer) (part-asked matter limits h whole stopped.next.steps longer)
    (header-width matter h longer.reads.header)) stopped.passes
