-- A question that is closed as undecided in an accepted text has a limit within the bound of its cone.
use Rattle.std.proofs.Common.{◌≡◌, ℕ, ◌≤◌, ◌↔◌, ◌^◌, List, length, take, refl, sym, subst, arith, length-append}
use Rattle.std.specs.List.{Contains}
use Rattle.std.proofs.lemmas.List.{take_at}
use Rattle.dist_clause.specs.Formula.{Literal}
use Rattle.dist_derive.specs.Cone.{InCone}
use Rattle.dist_derive.specs.New.{EachIsNew}
use Rattle.dist_cert.specs.declared.records.CertRecord.{CertRecord}
use Rattle.dist_cert.specs.declared.records.Header.{Header}
use Rattle.dist_cert.specs.Form.{Word}
use Rattle.dist_cert.specs.Subject.{Matter}
use Rattle.dist_cert.specs.Groups.{clause_of, derived, numbered, IsUndecidedIn}
use Rattle.dist_check.proofs.TriedMarks.{tried}
use Rattle.dist_line_check.specs.LinesAt.{AreRight}

-- the law of dist_derive
abbrev pub NewLinesAreFew : Type 0
NewLinesAreFew = (clauses : List (List Literal)) (inputs : ℕ) (assumptions : List Literal) (lines : List (List Literal)) (cone : List ℕ)
    → inputs ≤ length clauses
    → ((v : ℕ) → Contains cone v ↔ InCone (take inputs clauses) assumptions v) → EachIsNew clauses inputs assumptions lines → length lines ≤ 3 ^ length cone

pub within-bound : NewLinesAreFew → (matter : Matter) (h : Header) (steps : List CertRecord) → AreRight matter h steps → (question : List Word)
    → IsUndecidedIn steps question
    → (cone : List ℕ) → ((v : ℕ) → Contains cone v ↔ InCone matter.inputs (clause_of question) v) → h.limit ≤ 3 ^ length cone
within-bound few matter h steps right question closed cone exact =
    let trial = tried matter h steps right question closed in
    let earlier = trial.earlier in
    let inputs : take (length matter.inputs) (numbered matter earlier) ≡ matter.inputs = take_at matter.inputs (derived earlier) (length matter.inputs) refl in
    let bound : length (derived trial.since) ≤ 3 ^ length cone
    = few (numbered matter earlier) (length matter.inputs) (clause_of question) (derived trial.since) cone
    (omega (arith, length-append matter.inputs (derived earlier)))
    (subst (λ cs. (v : ℕ) → Contains cone v ↔ InCone cs (clause_of question) v) (sym inputs) exact) trial.new in
    omega (arith, trial.enough, bound)
