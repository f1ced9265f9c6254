-- A question of a claim with all its lines, by what the asker says of it.
use Rattle.std.proofs.Common.{◌≡◌, ◌⊎◌, inl, inr, ℕ, Bool, ap, sym, subst, List, [], ◌∷◌, ◌++◌, refl}
use Rattle.std.proofs.lemmas.Bool.{false≢true}
use Rattle.dist_outside.specs.DeskView.{DeskView}
use Rattle.dist_outside.specs.declared.trouble.WorkError.{WorkError}
use Rattle.dist_outside.specs.declared.trouble.WorkError.TheVariants.{ReadFault, WriteFault, TooLarge, NoMemory}
use Rattle.dist_cert.specs.declared.faults.CertCause.{CertCause}
use Rattle.dist_cert.specs.declared.faults.CertCause.TheVariants as causes
use Rattle.dist_cert.specs.declared.records.CertRecord.{CertRecord}
use Rattle.dist_cert.specs.declared.records.CertRecord.TheVariants.{Question, Derived, Refuted, Installation, Undecided}
use Rattle.dist_cert.specs.Form.{Word}
use Rattle.dist_cert.specs.LineRules.{HasRecordFault}
use Rattle.dist_cert.specs.PartByRecordsLaws.{IsLine}
use Rattle.dist_line_write.specs.Asking.{AskerView, question_lines}
use Rattle.dist_line_write.specs.Asking.{AskMore as AskedMore, AskStops as AskedStops, Holds as AnswerHolds, IsAt as StandsAt}
use Rattle.dist_line_write.specs.LineLaws.{is-future, no-future, none-in}
use Rattle.dist_line_write.specs.Script.{AreAsked, MayAsk}
use Rattle.dist_line_write.specs.Script.{AllNext as AllComeNext, IsCutOff as IsCutLine, IsLine as IsQuestionLine, Stops as StopsAsking}
use Rattle.dist_line_write.specs.Script.{StopsBy as StopsAskingBy}
use Rattle.dist_line_write.specs.ScriptLaws.{question-asked, stops-asking}
use Rattle.dist_line_write.specs.TrueOnesLaws.{true-ones}
use Rattle.dist_line_write.specs.Words.{closing_line, true_variables}
use Rattle.dist_solver.specs.declared.answers.Answer.{Answer}
use Rattle.dist_solver.specs.declared.answers.Answer.TheVariants as answers
use Rattle.dist_subject.specs.Installed.{AreTrueOf, ModelsStand}
use Rattle.dist_sweep.specs.Asking.{AskMore, AskStops, Holds, IsAt, IsReplyLine, IsReplyOf}
use Rattle.dist_sweep.specs.Script.{Setting, AllNext, AreWritten, IsCutOff, Stops, StopsBy, matter_in, questions_of, script_of}
use Rattle.dist_sweep.specs.ScriptLaws.{next-join, passes-in, stands-behind}
use Rattle.dist_sweep.specs.declared.asking.Reply.{Reply}
use Rattle.dist_sweep.specs.declared.asking.Reply.TheVariants as replies

-- ---- lines of questions among those of a certificate

line-in : (g : Setting) (before : List CertRecord) (step : CertRecord) → ModelsStand (matter_in g)
    → IsQuestionLine (script_of g) before step → MayAsk (questions_of g) before step → IsLine (matter_in g) g.header before step
line-in g before (Question words) stand line may =
    record { form = line.form; not_ended = line.not_ended; faultless = none; next = may }
  where
    none : (cause : CertCause) → ¬ HasRecordFault (matter_in g) g.header before (Question words) cause
    none causes.OutOfOrder f = none-in _ f
    none causes.NotAFuture f = no-future (matter_in g) g.header.kind (Question words) refl f
    none causes.WrongClaim f = false≢true f.0
    none cause f = line.faultless cause f
line-in g before (Derived literals hints) stand line may = record {
  form = line.form;
  not_ended = line.not_ended;
  faultless = none;
  next = (
    record {
      question = line.next.0.question;
      since = line.next.0.since;
      asking = line.next.0.asking;
      line_left = line.next.0.line_left;
      is_new = line.next.0.is_new;
    },
    line.next.1,
  );
}
  where
    none : (cause : CertCause) → ¬ HasRecordFault (matter_in g) g.header before (Derived literals hints) cause
    none causes.OutOfOrder f = none-in _ f
    none causes.NotAFuture f = no-future (matter_in g) g.header.kind (Derived literals hints) refl f
    none causes.WrongClaim f = false≢true f.0
    none cause f = line.faultless cause f
line-in g before (Refuted hints) stand line may =
    record { form = line.form; not_ended = line.not_ended; faultless = none; next = line.next }
  where
    none : (cause : CertCause) → ¬ HasRecordFault (matter_in g) g.header before (Refuted hints) cause
    none causes.NotAFuture f = no-future (matter_in g) g.header.kind (Refuted hints) refl f
    none causes.WrongClaim f = false≢true f.0
    none cause f = line.faultless cause f
line-in g before (Installation variables) stand line may =
    record { form = line.form; not_ended = line.not_ended; faultless = none; next = line.next.0 }
  where
    trues : AreTrueOf line.next.1.values variables
    trues = subst (AreTrueOf line.next.1.values) (sym line.next.1.are) (true-ones line.next.1.values)

    none : (cause : CertCause) → ¬ HasRecordFault (matter_in g) g.header before (Installation variables) cause
    none causes.OutOfOrder f = none-in _ f
    none causes.NotAFuture f = is-future (matter_in g) g.header.kind variables
        (stand line.next.1.values variables line.next.1.size line.next.1.model trues).0 f
    none causes.NotAnInstallation f = f (stand line.next.1.values variables line.next.1.size line.next.1.model trues).1
    none causes.WrongClaim f = false≢true f.0
    none cause f = line.faultless cause f
line-in g before Undecided stand line may =
    record { form = line.form; not_ended = line.not_ended; faultless = none; next = line.next }
  where
    none : (cause : CertCause) → ¬ HasRecordFault (matter_in g) g.header before Undecided cause
    none causes.NotAFuture f = no-future (matter_in g) g.header.kind Undecided refl f
    none causes.WrongClaim f = false≢true f.0
    none cause f = line.faultless cause f
line-in g before step stand line may = absurd line.next

all-in : (g : Setting) (before steps : List CertRecord) → ModelsStand (matter_in g) → AllComeNext (script_of g) before steps
    → AreAsked (questions_of g) before steps → AllNext g before steps
all-in g before [] stand all asked = tt
all-in g before (step ∷ steps) stand all asked =
    (line-in g before step stand all.0 asked.0, all-in g (before ++ step ∷ []) steps stand all.1 asked.1)

-- ---- where the writing stops

cut-in : (g : Setting) (lines : List CertRecord) (cut : List ℕ) → ModelsStand (matter_in g)
    → (cut ≡ []) ⊎ IsCutLine (script_of g) (questions_of g) lines cut → (cut ≡ []) ⊎ IsCutOff g lines cut
cut-in g lines cut stand (inl none) = inl none
cut-in g lines cut stand (inr off) = inr (off.0, line-in g lines off.0 stand off.1.0 off.1.1, off.2)

by-in : (g : Setting) (lines : List CertRecord) (cut : List ℕ) (old new : DeskView) (error : WorkError) → ModelsStand (matter_in g)
    → StopsAskingBy (script_of g) (questions_of g) lines cut old new error → StopsBy g lines cut old new error
by-in g lines cut old new WriteFault stand by = by
by-in g lines cut old new (TooLarge what) stand by =
    (by.0, (by.1.0, line-in g lines by.1.0 stand by.1.1.0 by.1.1.1, passes-in g (lines ++ by.1.0 ∷ []) what by.1.2))
by-in g lines cut old new NoMemory stand by = tt
by-in g lines cut old new ReadFault stand by = by

stops-in : (g : Setting) (before : List CertRecord) (old new : DeskView) (error : WorkError) → ModelsStand (matter_in g)
    → AreWritten g before → StopsAsking (script_of g) (questions_of g) before old new error → Stops g before old new error
stops-in g before old new error stand written stops = record {
  added = stops.added;
  cut = stops.cut;
  written = record {
    next = next-join g [] before stops.added written.next (all-in g before stops.added stand stops.next stops.asked);
    within = stops.written;
  };
  grew = stops.grew;
  cut_off = cut-in g (before ++ stops.added) stops.cut stand stops.cut_off;
  by = by-in g (before ++ stops.added) stops.cut old new error stand stops.by;
}

-- what is kept, apart from which lines may come
at-in : (g : Setting) (before : List CertRecord) (a : AskerView) → IsAt g before a → StandsAt (script_of g) before a
at-in g before a at = record { log = at.log; writer = stands-behind g before a.writer at.writer }

pub ask-stops-in : (old new : DeskView) (a : AskerView) (question : List Word) (error : WorkError) → AskedStops a question old new error
    → AskStops a question old new error
ask-stops-in old new a question error stops g before at next =
    stops-in g before old new error at.stand at.writer.written
    (stops-asking (script_of g) (questions_of g) before question old new error next (stops (script_of g) before (at-in g before a at)))

-- ---- what was asked

reply-line : (answer : Answer) (reply : Reply) → IsReplyOf answer reply → IsReplyLine reply (closing_line answer)
reply-line (answers.Found values) (replies.Found told) is = ap (λ (v : List Bool). Installation (true_variables v)) (sym is)
reply-line (answers.Found values) reply is = absurd is
reply-line (answers.Refuted hints) replies.Refuted is = (hints, refl)
reply-line (answers.Refuted hints) reply is = absurd is
reply-line answers.Undecided replies.Undecided is = refl
reply-line answers.Undecided reply is = absurd is

pub reply-holds : (n : ℕ) (question : List Word) (answer : Answer) (reply : Reply) → AnswerHolds n question answer → IsReplyOf answer reply
    → Holds n question reply
reply-holds n question (answers.Found values) (replies.Found told) holds is = subst (λ (v : List Bool). Holds n question (replies.Found v)) (sym is) holds
reply-holds n question (answers.Found values) reply holds is = absurd is
reply-holds n question (answers.Refuted hints) replies.Refuted holds is = tt
reply-holds n question (answers.Refuted hints) reply holds is = absurd is
reply-holds n question answers.Undecided replies.Undecided holds is = tt
reply-holds n question answers.Undecided reply holds is = absurd is

pub ask-more-in : (old new : DeskView) (a b : AskerView) (question : List Word) (answer : Answer) (reply : Reply)
    → AskedMore old new a b question answer → IsReplyOf answer reply → AskMore old new a b question reply
ask-more-in old new a b question answer reply more is g before at next =
    let x = more (script_of g) before (at-in g before a at) in
    let lines : List CertRecord = question_lines question x.between (closing_line answer) in
    record {
      between = x.between;
      only_derived = x.only_derived;
      answer = closing_line answer;
      is_answer = reply-line answer reply is;
      grew = x.grew;
      at = record {
        log = x.at.log;
        writer = record {
          written = record {
            next = next-join g [] before lines at.writer.written.next
                (all-in g before lines at.stand x.next (question-asked (questions_of g) before question x.between answer next x.only_derived));
            within = x.at.writer.written;
          };
          stands = x.at.writer.stands;
        };
        stand = at.stand;
      };
    }
