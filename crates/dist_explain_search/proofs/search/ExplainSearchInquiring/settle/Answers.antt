use Rattle.std.proofs.Common.{◌≡◌, ◌∙◌, ℕ, List, [], subst, sym}
use Rattle.std.proofs.lemmas.Result.{IfErr-weaker, on_ok_weaker}
use Rattle.dist_outside.specs.DeskView.{DeskView}
use Rattle.dist_outside.specs.declared.trouble.WorkError.TheVariants.{NoMemory}
use Rattle.dist_solver.specs.declared.answers.Answer.{Answer}
use Rattle.dist_solver.specs.declared.answers.Answer.TheVariants as answers
use Rattle.dist_inquiry.specs.Asking.{AskStops}
use Rattle.dist_line_write.specs.Asking.{AskerView}
use Rattle.dist_line_write.specs.ScriptLaws.{two-grow}
use Rattle.dist_inquiry.specs.AnswerText.{NoteMore}
use Rattle.dist_inquiry.specs.Inquiring.{SettleStops}
use Rattle.dist_repo.specs.PackageList.{PackageList}
use Rattle.dist_explain.specs.ExplanationFiles.{asked_by, explanation_files}
use Rattle.dist_explain.specs.NotesPrivate.{AreNotesOf, NotesView}
use Rattle.dist_explain.specs.declared.asked.Asked.{Asked}
use Rattle.dist_explain_search.specs.ExplainOrder.{IsNextQuestion}
use Rattle.dist_explain_search.specs.SearchPrivate.{AreNumbers, Goes, GoesNot, HasJust, IsAnsweredAt, Marks, explain_noting, question_of}
use Rattle.dist_explain_search.proofs.GoingLemmas.{goes-join, goes-stop, stops-memory, stops-question}
use Rattle.dist_explain_search.proofs.QuestionLemmas.{all-are}
use Rattle.dist_explain_search.proofs.SettledLemmas.{IsStart, all_of, exit-settle, first-found, first-next, first-refuted}
use Rattle.dist_explain_search.proofs.SettledLemmas.{first-undecided, settle-stops-by, settled-by}
use Rattle.dist_explain_search.proofs.search.ExplainSearchInquiring.settle.Goals as goal

-- what is told of the words that were passed
told-of : (old new : DeskView) (a b : AskerView) (n m : NotesView) (asked : Asked) (given others : List ℕ) (answer told : Answer) → given ≡ others
    → answer ≡ told → NoteMore explain_noting old new a b n m (question_of asked given) answer
    → NoteMore explain_noting old new a b n m (question_of asked others) told
told-of old new a b n m asked given others answer told same is more =
    subst (λ (x : Answer). NoteMore explain_noting old new a b n m (question_of asked others) x) is
    (subst (λ (ns : List ℕ). NoteMore explain_noting old new a b n m (question_of asked ns) answer) same more)

pub returns-in_err-all-clause-err : goal.returns-in_err-all-clause-err
returns-in_err-all-clause-err g c =
    let d : DeskView = g.D.Desk.view c.args.desk.now in
    exit-settle c.args.self.now.explaining.repo.now c.args.self.now.asked d d c.args.inquirer.now c.args.self.now.notes NoMemory c.from_residual.result
    c.from_residual.ensures.1
    (stops-memory c.file_grows.ensures.begin c.args.self.now.asked IsStart d c.args.inquirer.now c.args.self.now.notes)

pub ask-requires-clause-numbers : goal.ask-requires-clause-numbers
ask-requires-clause-numbers g c =
    subst (AreNumbers c.args.self.now.asked) (sym (c.deref.ensures.value ∙ c.in_ok-all.ensures)) (all-are c.args.self.now.asked)

pub returns-in_err-hints-clause-err : goal.returns-in_err-hints-clause-err
returns-in_err-hints-clause-err g c =
    let asked : Asked = c.args.self.now.asked in
    let old : DeskView = g.D.Desk.view c.args.desk.now in
    let new : DeskView = g.D.Desk.view c.ask.new.desk in
    let is = c.deref.ensures.value ∙ c.in_ok-all.ensures in
    exit-settle c.args.self.now.explaining.repo.now asked old new c.args.inquirer.now c.args.self.now.notes c.in_err-hints.field-0.0
    c.from_residual-in_err-hints.result c.from_residual-in_err-hints.ensures.1
    (stops-question asked IsStart (question_of asked (all_of asked)) old new c.args.inquirer.now c.args.self.now.notes c.in_err-hints.field-0.0
    (first-next asked)
    (subst (λ (ns : List ℕ). AskStops c.args.inquirer.now (question_of asked ns) old new c.in_err-hints.field-0.0) is c.in_err-hints.ensures.err))

pub find_core-requires-clause-numbers : goal.find_core-requires-clause-numbers
find_core-requires-clause-numbers g c =
    subst (λ (k : Asked). AreNumbers k c.in_ok-all.all.items) (sym c.ask.ensures.asked)
    (subst (AreNumbers c.args.self.now.asked) (sym c.in_ok-all.ensures) (all-are c.args.self.now.asked))

pub returns-in_err-core-in-Refuted-clause-err : goal.returns-in_err-core-in-Refuted-clause-err
returns-in_err-core-in-Refuted-clause-err g c =
    let asked : Asked = c.args.self.now.asked in
    let all : List ℕ = all_of asked in
    let old : DeskView = g.D.Desk.view c.args.desk.now in
    let mid : DeskView = g.D.Desk.view c.ask.new.desk in
    let new : DeskView = g.D.Desk.view c.find_core.new.desk in
    let is = c.deref.ensures.value ∙ c.in_ok-all.ensures in
    let more = told-of old mid c.args.inquirer.now c.ask.new.inquirer c.args.self.now.notes c.ask.new.self.notes asked c.deref.result.now all
    c.in_ok-hints.field-0 (answers.Refuted c.in-Refuted.hints) is c.in-Refuted.is c.in_ok-hints.ensures.ok in
    exit-settle c.args.self.now.explaining.repo.now asked old new c.args.inquirer.now c.args.self.now.notes c.in_err-core-in-Refuted.field-0.0
    c.from_residual-in_err-core-in-Refuted.result c.from_residual-in_err-core-in-Refuted.ensures.1
    (goes-stop c.file_grows.ensures.twice asked IsStart (HasJust asked all) old mid new c.args.inquirer.now c.ask.new.inquirer
    c.args.self.now.notes c.ask.new.self.notes c.in_err-core-in-Refuted.field-0.0
    (first-refuted asked old mid c.args.inquirer.now c.ask.new.inquirer c.args.self.now.notes c.ask.new.self.notes c.in-Refuted.hints
    c.requires.fits.upto more)
    (subst (λ (k : Asked). GoesNot k (HasJust k all) mid new c.ask.new.inquirer c.ask.new.self.notes c.in_err-core-in-Refuted.field-0.0)
    c.ask.ensures.asked
    (subst (λ (ns : List ℕ). GoesNot c.ask.new.self.asked (HasJust c.ask.new.self.asked ns) mid new c.ask.new.inquirer c.ask.new.self.notes
    c.in_err-core-in-Refuted.field-0.0) c.in_ok-all.ensures c.in_err-core-in-Refuted.ensures.err)))

pub returns-in_err-core-in-Refuted-clause-grows : goal.returns-in_err-core-in-Refuted-clause-grows
returns-in_err-core-in-Refuted-clause-grows g c =
    two-grow c.file_grows.ensures.twice c.ask.ensures.grows.0 c.find_core.ensures.grows.0 (g.D.Desk.view c.args.desk.now) (g.D.Desk.view c.ask.new.desk)
    (g.D.Desk.view c.find_core.new.desk) c.ask.ensures.grows.1 c.find_core.ensures.grows.1

pub returns-in-Found-clause-ok : goal.returns-in-Found-clause-ok
returns-in-Found-clause-ok g c =
    let asked : Asked = c.args.self.now.asked in
    let old : DeskView = g.D.Desk.view c.args.desk.now in
    let mid : DeskView = g.D.Desk.view c.ask.new.desk in
    let is = c.deref.ensures.value ∙ c.in_ok-all.ensures in
    settled-by c.args.self.now.explaining.repo.now asked old mid c.args.inquirer.now c.args.self.now.notes c.ask.new.inquirer c.ask.new.self.notes
    (first-found asked old mid c.args.inquirer.now c.ask.new.inquirer c.args.self.now.notes c.ask.new.self.notes c.in-Found._values c.requires.fits
    (told-of old mid c.args.inquirer.now c.ask.new.inquirer c.args.self.now.notes c.ask.new.self.notes asked c.deref.result.now (all_of asked)
    c.in_ok-hints.field-0 (answers.Found c.in-Found._values) is c.in-Found.is c.in_ok-hints.ensures.ok))

pub returns-in-Undecided-clause-ok : goal.returns-in-Undecided-clause-ok
returns-in-Undecided-clause-ok g c =
    let asked : Asked = c.args.self.now.asked in
    let old : DeskView = g.D.Desk.view c.args.desk.now in
    let mid : DeskView = g.D.Desk.view c.ask.new.desk in
    let is = c.deref.ensures.value ∙ c.in_ok-all.ensures in
    settled-by c.args.self.now.explaining.repo.now asked old mid c.args.inquirer.now c.args.self.now.notes c.ask.new.inquirer c.ask.new.self.notes
    (first-undecided asked old mid c.args.inquirer.now c.ask.new.inquirer c.args.self.now.notes c.ask.new.self.notes
    (told-of old mid c.args.inquirer.now c.ask.new.inquirer c.args.self.now.notes c.ask.new.self.notes asked c.deref.result.now (all_of asked)
    c.in_ok-hints.field-0 answers.Undecided is c.in-Undecided.is c.in_ok-hints.ensures.ok))

pub returns-in_ok-core-in-Refuted-clause-ok : goal.returns-in_ok-core-in-Refuted-clause-ok
returns-in_ok-core-in-Refuted-clause-ok g c =
    let r : PackageList = c.args.self.now.explaining.repo.now in
    let asked : Asked = c.args.self.now.asked in
    let all : List ℕ = all_of asked in
    let core : List ℕ = c.in_ok-core-in-Refuted.core.items in
    let old : DeskView = g.D.Desk.view c.args.desk.now in
    let mid : DeskView = g.D.Desk.view c.ask.new.desk in
    let late : DeskView = g.D.Desk.view c.find_core.new.desk in
    let new : DeskView = g.D.Desk.view c.settle_core.new.desk in
    let a : AskerView = c.args.inquirer.now in
    let n : NotesView = c.args.self.now.notes in
    let is = c.deref.ensures.value ∙ c.in_ok-all.ensures in
    let more = told-of old mid a c.ask.new.inquirer n c.ask.new.self.notes asked c.deref.result.now all c.in_ok-hints.field-0
    (answers.Refuted c.in-Refuted.hints) is c.in-Refuted.is c.in_ok-hints.ensures.ok in
    let same : c.find_core.new.self.asked ≡ asked = c.find_core.ensures.asked ∙ c.ask.ensures.asked in
    let first = first-refuted asked old mid a c.ask.new.inquirer n c.ask.new.self.notes c.in-Refuted.hints c.requires.fits.upto more in
    let second = subst (λ (k : Asked). Goes k (HasJust k all) (Marks k core []) mid late c.ask.new.inquirer c.find_core.new.inquirer c.ask.new.self.notes
    c.find_core.new.self.notes) c.ask.ensures.asked
    (subst (λ (ns : List ℕ). Goes c.ask.new.self.asked (HasJust c.ask.new.self.asked ns) (Marks c.ask.new.self.asked core []) mid late c.ask.new.inquirer
    c.find_core.new.inquirer c.ask.new.self.notes c.find_core.new.self.notes) c.in_ok-all.ensures c.in_ok-core-in-Refuted.ensures.ok) in
    on_ok_weaker c.settle_core.result (λ goes.
    settled-by r asked old new a n c.settle_core.new.inquirer c.settle_core.new.self.notes
    (goes-join c.file_grows.ensures.twice asked IsStart (Marks asked core []) (IsAnsweredAt asked) old late new a c.find_core.new.inquirer
    c.settle_core.new.inquirer n c.find_core.new.self.notes c.settle_core.new.self.notes
    (goes-join c.file_grows.ensures.twice asked IsStart (HasJust asked all) (Marks asked core []) old mid late a c.ask.new.inquirer c.find_core.new.inquirer
    n c.ask.new.self.notes c.find_core.new.self.notes first second)
    (subst (λ (k : Asked). Goes k (Marks k core []) (IsAnsweredAt k) late new c.find_core.new.inquirer c.settle_core.new.inquirer c.find_core.new.self.notes
    c.settle_core.new.self.notes) same goes))) c.settle_core.ensures.ok

pub returns-in_ok-core-in-Refuted-clause-err : goal.returns-in_ok-core-in-Refuted-clause-err
returns-in_ok-core-in-Refuted-clause-err g c =
    let r : PackageList = c.args.self.now.explaining.repo.now in
    let asked : Asked = c.args.self.now.asked in
    let all : List ℕ = all_of asked in
    let core : List ℕ = c.in_ok-core-in-Refuted.core.items in
    let old : DeskView = g.D.Desk.view c.args.desk.now in
    let mid : DeskView = g.D.Desk.view c.ask.new.desk in
    let late : DeskView = g.D.Desk.view c.find_core.new.desk in
    let new : DeskView = g.D.Desk.view c.settle_core.new.desk in
    let a : AskerView = c.args.inquirer.now in
    let n : NotesView = c.args.self.now.notes in
    let is = c.deref.ensures.value ∙ c.in_ok-all.ensures in
    let more = told-of old mid a c.ask.new.inquirer n c.ask.new.self.notes asked c.deref.result.now all c.in_ok-hints.field-0
    (answers.Refuted c.in-Refuted.hints) is c.in-Refuted.is c.in_ok-hints.ensures.ok in
    let same : c.find_core.new.self.asked ≡ asked = c.find_core.ensures.asked ∙ c.ask.ensures.asked in
    let first = first-refuted asked old mid a c.ask.new.inquirer n c.ask.new.self.notes c.in-Refuted.hints c.requires.fits.upto more in
    let second = subst (λ (k : Asked). Goes k (HasJust k all) (Marks k core []) mid late c.ask.new.inquirer c.find_core.new.inquirer c.ask.new.self.notes
    c.find_core.new.self.notes) c.ask.ensures.asked
    (subst (λ (ns : List ℕ). Goes c.ask.new.self.asked (HasJust c.ask.new.self.asked ns) (Marks c.ask.new.self.asked core []) mid late c.ask.new.inquirer
    c.find_core.new.inquirer c.ask.new.self.notes c.find_core.new.self.notes) c.in_ok-all.ensures c.in_ok-core-in-Refuted.ensures.ok) in
    IfErr-weaker c.settle_core.result (GoesNot c.find_core.new.self.asked (Marks c.find_core.new.self.asked core []) late new c.find_core.new.inquirer
    c.find_core.new.self.notes)
    (SettleStops (explanation_files r) (λ numbers. (asked ≡ asked_by numbers) × AreNotesOf (asked_by numbers) [] n)
    (λ numbers. IsNextQuestion (asked_by numbers)) old new a) (λ error stops.
    settle-stops-by r asked old new a n error
    (goes-stop c.file_grows.ensures.twice asked IsStart (Marks asked core []) old late new a c.find_core.new.inquirer n c.find_core.new.self.notes error
    (goes-join c.file_grows.ensures.twice asked IsStart (HasJust asked all) (Marks asked core []) old mid late a c.ask.new.inquirer c.find_core.new.inquirer
    n c.ask.new.self.notes c.find_core.new.self.notes first second)
    (subst (λ (k : Asked). GoesNot k (Marks k core []) late new c.find_core.new.inquirer c.find_core.new.self.notes error) same stops)))
    c.settle_core.ensures.err

pub returns-in_ok-core-in-Refuted-clause-grows : goal.returns-in_ok-core-in-Refuted-clause-grows
returns-in_ok-core-in-Refuted-clause-grows g c =
    let twice = c.file_grows.ensures.twice in
    let both = two-grow twice c.ask.ensures.grows.0 c.find_core.ensures.grows.0 (g.D.Desk.view c.args.desk.now) (g.D.Desk.view c.ask.new.desk)
    (g.D.Desk.view c.find_core.new.desk) c.ask.ensures.grows.1 c.find_core.ensures.grows.1 in
    two-grow twice both.0 c.settle_core.ensures.grows.0 (g.D.Desk.view c.args.desk.now) (g.D.Desk.view c.find_core.new.desk)
    (g.D.Desk.view c.settle_core.new.desk) both.1 c.settle_core.ensures.grows.1
