-- A question that was asked and noted.
use Rattle.std.proofs.Common.{◌≡◌, ℕ, List, [], ◌∷◌, ◌++◌, refl, subst}
use Rattle.dist_outside.specs.DeskView.{DeskView}
use Rattle.dist_outside.specs.declared.trouble.WorkError.{WorkError}
use Rattle.dist_outside.specs.declared.trouble.WorkError.TheVariants.{NoMemory}
use Rattle.dist_solver.specs.declared.answers.Answer.{Answer}
use Rattle.dist_cert.specs.declared.records.CertRecord.{CertRecord}
use Rattle.dist_cert.specs.declared.records.CertRecord.TheVariants.{Question}
use Rattle.dist_cert.specs.Form.{Word}
use Rattle.dist_findings.specs.Findings.{findings}
use Rattle.dist_findings.specs.declared.finding.Finding.{Finding}
use Rattle.dist_inquiry.specs.Asking.{AskMore, AskStops, IsAt}
use Rattle.dist_line_write.specs.Asking.{AskerView, question_lines}
use Rattle.dist_line_write.specs.Asking.{AskMore as AskedMore, AskStops as AskedStops, IsAt as StandsAt}
use Rattle.dist_line_write.specs.Script.{Asks, OnlyThis, Script}
use Rattle.dist_line_write.specs.ScriptLaws.{BeginsLaw, TwiceLaw, next-behind, next-join, question-asked, stops-after, stops-for-memory}
use Rattle.dist_line_write.specs.Words.{closing_line}
use Rattle.dist_inquiry.specs.AnswerText.{NoteMore, Noting, finding_of}
use Rattle.dist_inquiry.proofs.Found.{question-finds}

-- ---- what the asker says, of lines that may come one behind another

-- what is kept, whichever lines may come
at-in : (g : Script) (before : List CertRecord) (a : AskerView) → IsAt g before a → StandsAt g before a
at-in g before a at = record { log = at.log; writer = at.writer }

pub ask-more-in : (old new : DeskView) (a b : AskerView) (question : List Word) (answer : Answer) → AskedMore old new a b question answer
    → AskMore old new a b question answer
ask-more-in old new a b question answer more g before at =
    let x = more g before (at-in g before a at) in
    record {
      between = x.between;
      only_derived = x.only_derived;
      grew = x.grew;
      at = record {
        log = x.at.log;
        writer = x.at.writer;
        next = next-join g [] before (question_lines question x.between (closing_line answer)) at.next x.next;
        stand = at.stand;
      };
      says = x.says;
    }

pub ask-stops-in : (old new : DeskView) (a : AskerView) (question : List Word) (error : WorkError) → AskedStops a question old new error
    → AskStops a question old new error
ask-stops-in old new a question error stops g before at = stops g before (at-in g before a at)

-- ---- notes

-- what is noted of one finding more
abbrev pub NotesOne : {N : Type 0} → Noting N → N → N → Finding → Type 0
NotesOne Noted notes after found = (numbers : List ℕ) (before : List Finding) → Noted numbers before notes
    → Noted numbers (before ++ found ∷ []) after

pub asked-and-noted : {N : Type 0} (Noted : Noting N) (old new : DeskView) (a b : AskerView) (notes after : N) (question : List Word) (answer : Answer)
    (found : Finding) → found ≡ finding_of question answer → AskMore old new a b question answer → NotesOne Noted notes after found
    → NoteMore Noted old new a b notes after question answer
asked-and-noted Noted old new a b notes after question answer found is asks notes-one g numbers before at =
    let asked = asks g before at.at in
    record {
      asked = asked;
      finds = question-finds before question asked.between answer asked.only_derived;
      noted = subst (λ (f : Finding). Noted numbers (findings before ++ f ∷ []) after) is (notes-one numbers (findings before) at.noted);
    }

-- there was no memory behind a question
pub stops-noted : BeginsLaw → TwiceLaw → (old new : DeskView) (a b : AskerView) (question : List Word) (answer : Answer)
    → AskMore old new a b question answer → AskStops a question old new NoMemory
stops-noted begins twice old new a b question answer asks g before at =
    let asked = asks g before at in
    let added : List CertRecord = question_lines question asked.between (closing_line answer) in
    let this : Asks = OnlyThis before (Question question) in
    stops-after twice g this before added old new new NoMemory asked.grew
    (question-asked this before question asked.between answer (refl, refl) asked.only_derived)
    (next-behind g [] before added asked.at.next)
    (stops-for-memory g this (before ++ added) b.writer new new asked.at.writer (begins new))
