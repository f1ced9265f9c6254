-- A text has one answer.
use Rattle.std.proofs.Common.{◌≡◌, ℕ, List, Ok, Err, refl, ap, sym, ◌∙◌}
use Rattle.dist_outside.specs.declared.limits.Limits.{Limits}
use Rattle.dist_outside.specs.declared.trouble.WorkError.TheVariants.{ReadFault, NoMemory}
use Rattle.dist_repo.specs.PackageList.{PackageList}
use Rattle.dist_cert.specs.declared.faults.ReadCertError.TheVariants.{Bad, Work}
use Rattle.dist_cert.specs.Accepted.{claims_in}
use Rattle.dist_judge.specs.AnswerLaws as answers
use Rattle.dist_check.specs.Answers.{Answers}
use Rattle.dist_judge.specs.Causes.{IsOfText}
use Rattle.dist_check.specs.declared.verdict.Verdict.TheVariants.{Accepted, Refused}
use Rattle.std.specs.declared.result.Result.{Result}
use Rattle.dist_outside.specs.declared.trouble.WorkError.{WorkError}
use Rattle.dist_check.specs.declared.verdict.Verdict.{Verdict}
use Rattle.dist_subject.specs.Certificates.{certificates_of}

-- an answer as that of a file: its heading and records, or why not
abbrev Answer : PackageList → Type 0
Answer r = answers.Answer (certificates_of r)

-- the verdict, or an error of work, that is told by such an answer
told : (r : PackageList) → Answer r → Result Verdict WorkError
told r (Ok (h, steps)) = Ok (Accepted h (claims_in steps))
told r (Err (Bad fault)) = Ok (Refused fault)
told r (Err (Work error)) = Err error

-- each answer of the check is told by one of its file
record IsTold (r : PackageList) (limits : Limits) (text : List ℕ) (one : Result Verdict WorkError) : Type 0 where
  answer : Answer r
  is : one ≡ told r answer
  of : answers.IsAnswer (certificates_of r) limits text answer
  of_text : answers.IsOfText answer

is-told : (r : PackageList) (limits : Limits) (text : List ℕ) (one : Result Verdict WorkError) → Answers r limits text one → IsOfText one
    → IsTold r limits text one
unfolding told
is-told r limits text (Ok (Accepted h made)) x of = record {
  answer = Ok (h, x.steps);
  is = ap (λ k. Ok (Accepted h k)) x.claims;
  of = record { basis = x.basis; is_basis = x.is_basis; steps = x.steps; accepted = x.accepted; claims = refl; numbers = x.numbers };
  of_text = tt;
}
is-told r limits text (Ok (Refused fault)) x of = record { answer = Err (Bad fault); is = refl; of = x; of_text = tt }
is-told r limits text (Err ReadFault) x of = absurd of
is-told r limits text (Err NoMemory) x of = absurd of
is-told r limits text (Err error) x of = record { answer = Err (Work error); is = refl; of = x; of_text = tt }

pub one-answer : (r : PackageList) (limits : Limits) (text : List ℕ) (one other : Result Verdict WorkError)
    → answers.AreKnown (certificates_of r) limits → Answers r limits text one → Answers r limits text other → IsOfText one → IsOfText other → other ≡ one
one-answer r limits text one other known x y of of_other =
    let a = is-told r limits text one x of in
    let b = is-told r limits text other y of_other in
    b.is ∙ ap (told r) (answers.one_answer (certificates_of r) limits text a.answer b.answer known a.of b.of a.of_text b.of_text) ∙ sym a.is
