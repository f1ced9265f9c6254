use Rattle.std.proofs.Common.{◌≡◌, List, ℕ, Option, Some, None, ap, refl, subst, ◌∙◌}
use Rattle.std.specs.FinMap.{get}
use Rattle.dist_outside.specs.DeskView.{DeskView}
use Rattle.dist_outside.specs.Files.{Files, Mode, Reading, file_bytes, where_told}
use Rattle.dist_outside.specs.Reading.{bytes_from, bytes_left}
use Rattle.dist_judge.specs.Judging.{OfText}
use Rattle.dist_findings.specs.Answers.{IsAnswered}
use Rattle.dist_findings.specs.declared.finding.Finding.{Finding}
use Rattle.dist_findings.proofs.file.check_answers.Goals as goal

-- a desk that begins to read has the whole file before it
started : (files : Option Files) (name : List ℕ) → bytes_left files (Reading (where_told files (name, 0))) ≡ file_bytes files name
started None name = refl
started (Some files) name = by (get files name)
  where
    by : (bytes : Option (List ℕ)) → bytes_from 0 bytes ≡ bytes
    by None = refl
    by (Some bytes) = refl

pub returns-in-Ok-check_text-clause-text : goal.returns-in-Ok-check_text-clause-text
returns-in-Ok-check_text-clause-text g c =
    let file = g.A.Answering.file c.args.answering.now in
    let numbers : List ℕ = c.in-Ok-check_text.checked.numbers.items in
    let old : DeskView = g.D.Desk.view c.args.desk.now in
    let new : DeskView = g.D.Desk.view c.start_read.new.self in
    let same : bytes_left new.files new.mode ≡ file_bytes old.files c.args.name.now
    = ap (λ (f : Option Files). bytes_left f new.mode) c.in-Ok.ensures.only_reads.files_stay ∙ ap (λ (m : Mode). bytes_left old.files m) c.in-Ok.ensures.reading
    ∙ started old.files c.args.name.now in
    subst (λ (o : Option (List ℕ)). OfText o (λ text. IsAnswered file c.args.limits.now text numbers
    (λ (found : List Finding). g.A.Answering.noted c.args.answering.now numbers found c.in-Ok-check_text.checked.notes))) same
    c.in-Ok-check_text.ensures.text
