-- What lines find, with one line more.
use Rattle.std.proofs.Common.{◌≡◌, true, List, [], ◌∷◌, ◌++◌, Option, Some, None, refl, sym, ap, ◌∙◌, append_assoc}
use Rattle.std.proofs.Common.{arith}
use Rattle.std.specs.List.{AllPass}
use Rattle.std.proofs.lemmas.List.{append-nil}
use Rattle.std.proofs.lemmas.List.Elements.{All-tail}
use Rattle.dist_cert.specs.declared.records.CertRecord.{CertRecord}
use Rattle.dist_cert.specs.declared.records.CertRecord.TheVariants as lines
use Rattle.dist_cert.specs.Form.{Word}
use Rattle.dist_cert.specs.Groups.{IsOpen, leaves_open}
use Rattle.dist_findings.specs.Findings.{findings_behind, found_at, open_behind}
use Rattle.dist_findings.specs.declared.finding.Finding.{Finding}

-- the question that is open behind lines
unfoldable pub open_after : Option (List Word) → List CertRecord → Option (List Word)
open_after asked [] = asked
open_after asked (step ∷ steps) = open_after (open_behind asked step) steps

pub open_push : (asked : Option (List Word)) (before : List CertRecord) (step : CertRecord)
    → open_after asked (before ++ step ∷ []) ≡ open_behind (open_after asked before) step
unfolding open_after
open_push asked [] step = refl
open_push asked (s ∷ before) step = open_push (open_behind asked s) before step

pub findings_push : (asked : Option (List Word)) (before : List CertRecord) (step : CertRecord)
    → findings_behind asked (before ++ step ∷ [])
    ≡ findings_behind asked before ++ found_at (open_after asked before) step
unfolding open_after findings_behind
findings_push asked [] step = append-nil (found_at asked step)
findings_push asked (s ∷ before) step =
    ap (λ (fs : List Finding). found_at asked s ++ fs) (findings_push (open_behind asked s) before step)
    ∙ sym (append_assoc (found_at asked s) (findings_behind (open_behind asked s) before)
    (found_at (open_after (open_behind asked s) before) step))

-- ---- the question that is open

open-append : (asked : Option (List Word)) (before more : List CertRecord)
    → open_after asked (before ++ more) ≡ open_after (open_after asked before) more
unfolding open_after
open-append asked [] more = refl
open-append asked (s ∷ before) more = open-append (open_behind asked s) before more

-- a line that leaves a question open
open-left : (question : List Word) (step : CertRecord) → leaves_open step ≡ true
    → open_behind (Some question) step ≡ Some question
open-left question (lines.Derived literals hints) leaves = refl
open-left question (lines.Installation variables) leaves = refl
open-left question step leaves = absurd (let e = leaves in cc)

open-stays : (question : List Word) (since : List CertRecord) → AllPass leaves_open since
    → open_after (Some question) since ≡ Some question
unfolding open_after
open-stays question [] leaves = refl
open-stays question (s ∷ since) leaves =
    ap (λ (o : Option (List Word)). open_after o since) (open-left question s (leaves 0 s (omega arith)))
    ∙ open-stays question since (All-tail (λ step. leaves_open step ≡ true) s since leaves)

-- it is the one whose line no later line closes
pub open-is : (before earlier : List CertRecord) (question : List Word) (since : List CertRecord)
    → IsOpen before earlier question since → open_after None before ≡ Some question
unfolding open_after
open-is before earlier question since x =
    ap (λ (ls : List CertRecord). open_after None ls) x.ends
    ∙ open-append None earlier (lines.Question question ∷ since) ∙ open-stays question since x.left_open
