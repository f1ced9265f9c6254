-- What a text's check takes from the check of its lines.
use Rattle.std.proofs.Common.{◌≡◌, ℕ, List, Option, Some, None, Ok, sym, subst}
use Rattle.dist_outside.specs.declared.limits.Limits.{Limits}
use Rattle.dist_outside.specs.declared.trouble.WorkError.TheVariants.{NoMemory}
use Rattle.dist_repo.specs.Order.{IsInOrder}
use Rattle.dist_repo.specs.PackageList.{PackageList}
use Rattle.dist_cert.specs.declared.faults.ReadCertError.TheVariants.{Work}
use Rattle.dist_cert.specs.declared.records.Claim.{Claim}
use Rattle.dist_cert.specs.declared.records.Header.{Header}
use Rattle.dist_judge.specs.Judging.{OfText, StopsWith}
use Rattle.dist_subject.specs.Basis.{IsAccepted}
use Rattle.dist_subject.specs.Certificates.{certificates_of}
use Rattle.dist_subject.specs.Completed.{IsCompleted}
use Rattle.dist_check.specs.Answers.{AcceptedMeans}
use Rattle.dist_check.specs.Checking.{TextAnswers}
use Rattle.dist_check.specs.Means.{Means}
use Rattle.dist_check.specs.Start.{IsStart}
use Rattle.dist_check_state.specs.State.{StateView}
use Rattle.dist_line_check.specs.Checker.{CheckerView}

-- want of memory may come at any text
pub no-memory : (r : PackageList) (limits : Limits) (told : Option (List ℕ))
    → OfText told (λ text. StopsWith (certificates_of r) limits text (Work NoMemory))
no-memory r limits None = tt
no-memory r limits (Some text) = tt

-- a completed text, of which the claims are these
pub completed-alike : {X : Type 0} (header : X → Header) (claims : X → List Claim) (r : PackageList) (limits : Limits) (told : Option (List ℕ)) (h : Header)
    (made : List Claim) (of : X) → header of ≡ h → claims of ≡ made
    → OfText told (λ text. IsCompleted r limits text h made) → OfText told (λ text. TextAnswers header claims r limits text (Ok of))
completed-alike header claims r limits None h made of h_is made_is done = tt
completed-alike header claims r limits (Some text) h made of h_is made_is done =
    subst (λ m. IsCompleted r limits text (header of) m) (sym made_is) (subst (λ x. IsCompleted r limits text x made) (sym h_is) done)

-- what an accepted text proves, by the law of accepted texts
pub accepted-means : ((r : PackageList) (limits : Limits) (text : List ℕ) (h : Header) (made : List Claim) → IsInOrder r.packages
    → IsAccepted r limits text h made → Means h.kind h.essential r made) → (r : PackageList) (limits : Limits) (text : List ℕ) (h : Header)
    (made : List Claim) (c : CheckerView) (s : StateView) → IsInOrder r.packages → IsStart r limits h c s → IsCompleted r limits text h made
    → AcceptedMeans r h made
accepted-means hold r limits text h made c s ordered start done = record {
  form = done.accepted.faultless.reads.header;
  basis = start.basis;
  is_basis = start.is_basis;
  fits = start.fits;
  means = hold r limits text h made ordered (done.basis, done.is_basis, (done.steps, done.accepted, done.claims));
}
