-- Laws of what the lines of a question, and of a claim behind them, make of what is known, for claims of any kind.
-- Proofs cite them, those of the crates above too.
use Rattle.std.proofs.Common.{◌≡◌, ℕ, List, [], ◌∷◌, ◌++◌, false, refl, sym, subst, arith}
use Rattle.std.specs.List.{Contains, list_any}
use Rattle.dist_outside.specs.DeskView.{DeskView, FileGrew}
use Rattle.dist_outside.specs.declared.trouble.WorkError.{WorkError}
use Rattle.dist_outside.specs.declared.trouble.WorkError.TheVariants.{NoMemory}
use Rattle.dist_cert.specs.declared.records.CertRecord.{CertRecord}
use Rattle.dist_cert.specs.declared.records.Claim.{Claim}
use Rattle.dist_cert.specs.Accepted.{claim_in}
use Rattle.dist_cert.specs.Form.{Word, record_text}
use Rattle.dist_cert.specs.Groups.{installed_in, is_claim}
use Rattle.dist_cert.specs.Part.{IsNextQuestion}
use Rattle.dist_cert.specs.PartByRecordsLaws.{IsLine}
use Rattle.dist_cert.specs.Writing.{ended}
use Rattle.dist_line_write.specs.Asking.{AskerView, question_lines}
use Rattle.dist_line_write.specs.Script.{PutMore, PutStops}
use Rattle.dist_line_write.specs.ScriptLaws.{BeginsLaw, TwiceLaw}
use Rattle.dist_sweep.specs.Asking.{AskMore, AskStops, IsAsked, IsAt}
use Rattle.dist_sweep.specs.Script.{Setting, Stops, matter_in}
use Rattle.dist_sweep.specs.ScriptLaws.{put-stopped, stops-after, stops-for-memory}
use Rattle.dist_sweep.specs.Claiming.{IsClaimed}
use Rattle.dist_sweep.specs.ClaimLinesLaws.{IsClaimLine, claim-after, put-claimed}
use Rattle.dist_sweep.specs.QuestionLinesLaws.{AreAsked, question-claims, reply-line}
use Rattle.dist_sweep.specs.Window.{IsWindowAt, WindowView}
use Rattle.dist_sweep.specs.declared.asking.Reply.{Reply}

-- what is known of the lines so far
abbrev pub Known : Type 1
Known = Setting → List CertRecord → Type 0

-- what is kept of the asker is what the lines hold
abbrev pub Stands : Known → AskerView → Type 0
Stands P a = (g : Setting) (before : List CertRecord) → P g before → IsAt g before a

-- and the question is the next one
pub record IsReady (P : Known) (a : AskerView) (question : List Word) : Type 0 where
  pub at : Stands P a
  pub next : (g : Setting) (before : List CertRecord) → P g before
      → IsNextQuestion (matter_in g) g.header before question

-- the writing stops, wherever that is known
abbrev pub StopsFrom : Known → DeskView → DeskView → WorkError → Type 0
StopsFrom P old new error = (g : Setting) (before : List CertRecord) → P g before → Stops g before old new error

-- a claim was written
abbrev pub ClaimsFrom : Known → DeskView → DeskView → AskerView → WindowView → Known → Claim → Type 0
ClaimsFrom P old new b w Kept claim = (g : Setting) (before : List CertRecord) → P g before
    → IsClaimed g before old new b w (Kept g) claim

-- the question was asked, and told this
abbrev pub AskedFrom : Known → List Word → DeskView → DeskView → AskerView → Reply → Type 0
AskedFrom P question old new b told = (g : Setting) (before : List CertRecord) → P g before
    → IsAsked g before question old new b told

pub ask-told : (P : Known) (old new : DeskView) (a b : AskerView) (question words : List Word) (reply told : Reply)
    → IsReady P a question
    → words ≡ question → reply ≡ told → AskMore old new a b words reply → AskedFrom P question old new b told
ask-told P old new a b question words reply told ready are is more g before known =
    subst (λ (r : Reply). IsAsked g before question old new b r) is
    (subst (λ ws. IsAsked g before ws old new b reply) are
    (more g before (ready.at g before known) (subst (λ ws. IsNextQuestion (matter_in g) g.header before ws) (sym are)
    (ready.next g before known))))

pub ask-stops : (P : Known) (old new : DeskView) (a : AskerView) (question words : List Word) (error : WorkError)
    → IsReady P a question
    → words ≡ question → AskStops a words old new error → StopsFrom P old new error
ask-stops P old new a question words error ready are stops g before known =
    stops g before (ready.at g before known) (subst (λ ws. IsNextQuestion (matter_in g) g.header before ws) (sym are)
    (ready.next g before known))

-- its lines, of which the last installs some packages or none
abbrev pub asked-lines : (g : Setting) (before : List CertRecord) (question : List Word) (old new : DeskView)
    (b : AskerView) (reply : Reply)
    (installed : List (List ℕ)) (asked : IsAsked g before question old new b reply)
    → installed_in asked.answer ≡ installed
    → AreAsked before question installed (before ++ question_lines question asked.between asked.answer)
asked-lines g before question old new b reply installed asked installs = record {
  between = asked.between;
  answer = asked.answer;
  only_derived = asked.only_derived;
  answer_line = reply-line reply asked.answer asked.is_answer;
  installs = installs;
  is = refl;
}

pub asked-none : (g : Setting) (before : List CertRecord) (question : List Word) (old new : DeskView) (b : AskerView)
    (reply : Reply)
    → (asked : IsAsked g before question old new b reply)
    → list_any is_claim (question_lines question asked.between asked.answer) ≡ false
asked-none g before question old new b reply asked =
    question-claims question asked.between asked.answer asked.only_derived
    (reply-line reply asked.answer asked.is_answer)

-- ---- want of memory

pub memory-stops : (P : Known) (old : DeskView) (a : AskerView) → BeginsLaw → Stands P a → StopsFrom P old old NoMemory
memory-stops P old a begins stands g before known = stops-for-memory g before a.writer old old
    (stands g before known).writer (begins old)

pub asked-memory : (P : Known) (old new : DeskView) (b : AskerView) (question : List Word) (told : Reply) → BeginsLaw
    → TwiceLaw
    → AskedFrom P question old new b told → StopsFrom P old new NoMemory
asked-memory P old new b question told begins twice asked g before known =
    let x = asked g before known in
    stops-after twice g before (question_lines question x.between x.answer) old new new NoMemory x.grew
    (stops-for-memory g (before ++ question_lines question x.between x.answer) b.writer new new x.at.writer
    (begins new))

-- ---- the line of the claim

-- the line of a claim may come next, and what is kept is what the lines hold behind it
pub record IsPuttable (g : Setting) (lines : List CertRecord) (w : WindowView) (Kept : Known) (step : CertRecord) :
    Type 0 where
  pub window : IsWindowAt lines w
  pub line : IsLine (matter_in g) g.header lines step
  pub kept : Kept g (lines ++ step ∷ [])

abbrev pub PutsFrom : Known → WindowView → Known → CertRecord → Type 0
PutsFrom P w Kept step = (g : Setting) (before : List CertRecord) → P g before → IsPuttable g before w Kept step

pub put-claim : (P Kept : Known) (old new : DeskView) (a b : AskerView) (w : WindowView) (step : CertRecord)
    (claim : Claim) → Stands P a
    → PutsFrom P w Kept step → IsClaimLine step → claim_in step ≡ claim ∷ [] → b ≡ record a { writer = b.writer }
    → FileGrew (ended (record_text step)) old new → PutMore a.writer b.writer step → ClaimsFrom P old new b w Kept claim
put-claim P Kept old new a b w step claim stands puts kind is rest grew more g before known =
    let x = puts g before known in
    put-claimed g before old new a b w (Kept g) step claim (stands g before known) x.window kind x.line is rest grew
    more x.kept

pub put-stops : (P Kept : Known) (old new : DeskView) (a : AskerView) (w : WindowView) (step : CertRecord)
    (error : WorkError) → Stands P a
    → PutsFrom P w Kept step → PutStops a.writer step old new error → StopsFrom P old new error
put-stops P Kept old new a w step error stands puts stops g before known =
    put-stopped g before step a.writer old new error stops (stands g before known).writer (puts g before known).line

-- behind the lines of a question
abbrev pub PutsBehind : Known → List Word → DeskView → DeskView → AskerView → Reply → WindowView → Known → CertRecord
    → Type 0
PutsBehind P question old new b told w Kept step = (g : Setting) (before : List CertRecord) → P g before
    → (asked : IsAsked g before question old new b told)
    → IsPuttable g (before ++ question_lines question asked.between asked.answer) w Kept step

pub claim-behind : (P Kept : Known) (old mid new : DeskView) (b d : AskerView) (w : WindowView) (question : List Word)
    (told : Reply)
    (step : CertRecord) (claim : Claim) → TwiceLaw → AskedFrom P question old mid b told
    → PutsBehind P question old mid b told w Kept step
    → IsClaimLine step → claim_in step ≡ claim ∷ [] → d ≡ record b { writer = d.writer }
    → FileGrew (ended (record_text step)) mid new
    → PutMore b.writer d.writer step → ClaimsFrom P old new d w Kept claim
claim-behind P Kept old mid new b d w question told step claim twice asked puts kind is rest grew more g before known =
    let x = asked g before known in
    let y = puts g before known x in
    claim-after twice g before (question_lines question x.between x.answer) old mid new d w (Kept g) claim x.grew
    (asked-none g before question old mid b told x)
    (put-claimed g (before ++ question_lines question x.between x.answer) mid new b d w (Kept g) step claim x.at
    y.window kind y.line is rest grew more
    y.kept)

pub stops-behind : (P Kept : Known) (old mid new : DeskView) (b : AskerView) (w : WindowView) (question : List Word)
    (told : Reply)
    (step : CertRecord) (error : WorkError) → TwiceLaw → AskedFrom P question old mid b told
    → PutsBehind P question old mid b told w Kept step
    → PutStops b.writer step mid new error → StopsFrom P old new error
stops-behind P Kept old mid new b w question told step error twice asked puts stops g before known =
    let x = asked g before known in
    let y = puts g before known x in
    stops-after twice g before (question_lines question x.between x.answer) old mid new error x.grew
    (put-stopped g (before ++ question_lines question x.between x.answer) step b.writer mid new error stops x.at.writer
    y.line)

pub nothing-in : (step : CertRecord) → ¬ Contains [] step
nothing-in step there = omega (arith, there.1)
