use Rattle.std.proofs.Common.{◌≡◌, ◌∙◌, ℕ, List, [], arith, subst, sym}
use Rattle.dist_outside.specs.DeskView.{DeskView}
use Rattle.dist_outside.specs.declared.trouble.WorkError.TheVariants.{NoMemory}
use Rattle.dist_solver.specs.declared.answers.Answer.{Answer}
use Rattle.dist_solver.specs.declared.answers.Answer.TheVariants as answers
use Rattle.dist_inquiry.specs.Asking.{AskStops}
use Rattle.dist_line_write.specs.Asking.{AskerView}
use Rattle.dist_line_write.specs.ScriptLaws.{two-grow}
use Rattle.dist_inquiry.specs.AnswerText.{NoteMore}
use Rattle.dist_explain.specs.NotesPrivate.{NotesView}
use Rattle.dist_explain.specs.declared.asked.Asked.{Asked}
use Rattle.dist_explain_search.specs.SearchPrivate.{AreNumbers, Goes, GoesNot, HasJust, Marks, explain_noting, others_of, question_of}
use Rattle.dist_explain_search.proofs.CoreLemmas.{less-found, less-next, less-refuted, less-undecided, others-are}
use Rattle.dist_explain_search.proofs.GoingLemmas.{exit-stops, goes-join, goes-stop, stops-memory, stops-question}
use Rattle.dist_explain_search.proofs.search.ExplainSearch.leave_out.Goals as goal

-- what is told of the words that were passed
told-of : (old new : DeskView) (a b : AskerView) (n m : NotesView) (asked : Asked) (given others : List ℕ) (answer told : Answer) → given ≡ others
    → answer ≡ told → NoteMore explain_noting old new a b n m (question_of asked given) answer
    → NoteMore explain_noting old new a b n m (question_of asked others) told
told-of old new a b n m asked given others answer told same is more =
    subst (λ (x : Answer). NoteMore explain_noting old new a b n m (question_of asked others) x) is
    (subst (λ (ns : List ℕ). NoteMore explain_noting old new a b n m (question_of asked ns) answer) same more)

pub returns-in_err-others-clause-err : goal.returns-in_err-others-clause-err
returns-in_err-others-clause-err g c = λ done undone.
    let asked : Asked = c.args.self.now.asked in
    let d : DeskView = g.D.Desk.view c.args.desk.now in
    exit-stops asked (Marks asked c.args.core.now done) d d c.args.inquirer.now c.args.self.now.notes NoMemory c.from_residual.result
    c.from_residual.ensures.1
    (stops-memory c.file_grows.ensures.begin asked (Marks asked c.args.core.now done) d c.args.inquirer.now c.args.self.now.notes)

pub ask-requires-clause-numbers : goal.ask-requires-clause-numbers
ask-requires-clause-numbers g c =
    subst (AreNumbers c.args.self.now.asked) (sym (c.deref.ensures.value ∙ c.in_ok-others.ensures))
    (others-are c.args.self.now.asked c.args.core.now c.args.one [] c.requires.core c.requires.one (λ there. absurd (omega (arith, there.1))))

pub returns-in_err-hints-clause-err : goal.returns-in_err-hints-clause-err
returns-in_err-hints-clause-err g c = λ done undone.
    let asked : Asked = c.args.self.now.asked in
    let core : List ℕ = c.args.core.now in
    let old : DeskView = g.D.Desk.view c.args.desk.now in
    let new : DeskView = g.D.Desk.view c.ask.new.desk in
    let is = c.deref.ensures.value ∙ c.in_ok-others.ensures in
    exit-stops asked (Marks asked core done) old new c.args.inquirer.now c.args.self.now.notes c.in_err-hints.field-0.0
    c.from_residual-in_err-hints.result c.from_residual-in_err-hints.ensures.1
    (stops-question asked (Marks asked core done) (question_of asked (others_of core c.args.one)) old new c.args.inquirer.now c.args.self.now.notes
    c.in_err-hints.field-0.0 (less-next asked core c.args.one done c.requires.core c.requires.one undone)
    (subst (λ (ns : List ℕ). AskStops c.args.inquirer.now (question_of asked ns) old new c.in_err-hints.field-0.0) is c.in_err-hints.ensures.err))

pub narrow-requires-clause-numbers : goal.narrow-requires-clause-numbers
narrow-requires-clause-numbers g c =
    subst (λ (k : Asked). AreNumbers k c.in_ok-others.others.items) (sym c.ask.ensures.asked)
    (subst (AreNumbers c.args.self.now.asked) (sym c.in_ok-others.ensures)
    (others-are c.args.self.now.asked c.args.core.now c.args.one [] c.requires.core c.requires.one (λ there. absurd (omega (arith, there.1)))))

pub returns-in_err-fewer-in-Refuted-clause-err : goal.returns-in_err-fewer-in-Refuted-clause-err
returns-in_err-fewer-in-Refuted-clause-err g c = λ done undone.
    let asked : Asked = c.args.self.now.asked in
    let core : List ℕ = c.args.core.now in
    let others : List ℕ = others_of core c.args.one in
    let old : DeskView = g.D.Desk.view c.args.desk.now in
    let mid : DeskView = g.D.Desk.view c.ask.new.desk in
    let new : DeskView = g.D.Desk.view c.narrow.new.desk in
    let is = c.deref.ensures.value ∙ c.in_ok-others.ensures in
    let more = told-of old mid c.args.inquirer.now c.ask.new.inquirer c.args.self.now.notes c.ask.new.self.notes asked c.deref.result.now others
    c.in_ok-hints.field-0 (answers.Refuted c.in-Refuted.hints) is c.in-Refuted.is c.in_ok-hints.ensures.ok in
    exit-stops asked (Marks asked core done) old new c.args.inquirer.now c.args.self.now.notes c.in_err-fewer-in-Refuted.field-0.0
    c.from_residual-in_err-fewer-in-Refuted.result c.from_residual-in_err-fewer-in-Refuted.ensures.1
    (goes-stop c.file_grows.ensures.twice asked (Marks asked core done) (HasJust asked others) old mid new c.args.inquirer.now c.ask.new.inquirer
    c.args.self.now.notes c.ask.new.self.notes c.in_err-fewer-in-Refuted.field-0.0
    (less-refuted asked core c.args.one done c.requires.core c.requires.one undone c.requires.fits.upto old mid c.args.inquirer.now c.ask.new.inquirer
    c.args.self.now.notes c.ask.new.self.notes c.in-Refuted.hints more)
    (subst (λ (k : Asked). GoesNot k (HasJust k others) mid new c.ask.new.inquirer c.ask.new.self.notes c.in_err-fewer-in-Refuted.field-0.0) c.ask.ensures.asked
    (subst (λ (ns : List ℕ). GoesNot c.ask.new.self.asked (HasJust c.ask.new.self.asked ns) mid new c.ask.new.inquirer c.ask.new.self.notes
    c.in_err-fewer-in-Refuted.field-0.0) c.in_ok-others.ensures c.in_err-fewer-in-Refuted.ensures.err)))

pub returns-in_ok-fewer-in-Refuted-clause-ok : goal.returns-in_ok-fewer-in-Refuted-clause-ok
returns-in_ok-fewer-in-Refuted-clause-ok g c = λ done undone.
    let asked : Asked = c.args.self.now.asked in
    let core : List ℕ = c.args.core.now in
    let others : List ℕ = others_of core c.args.one in
    let fewer : List ℕ = c.in_ok-fewer-in-Refuted.fewer.items in
    let old : DeskView = g.D.Desk.view c.args.desk.now in
    let mid : DeskView = g.D.Desk.view c.ask.new.desk in
    let new : DeskView = g.D.Desk.view c.narrow.new.desk in
    let is = c.deref.ensures.value ∙ c.in_ok-others.ensures in
    let more = told-of old mid c.args.inquirer.now c.ask.new.inquirer c.args.self.now.notes c.ask.new.self.notes asked c.deref.result.now others
    c.in_ok-hints.field-0 (answers.Refuted c.in-Refuted.hints) is c.in-Refuted.is c.in_ok-hints.ensures.ok in
    goes-join c.file_grows.ensures.twice asked (Marks asked core done) (HasJust asked others) (Marks asked fewer []) old mid new c.args.inquirer.now
    c.ask.new.inquirer c.narrow.new.inquirer c.args.self.now.notes c.ask.new.self.notes c.narrow.new.self.notes
    (less-refuted asked core c.args.one done c.requires.core c.requires.one undone c.requires.fits.upto old mid c.args.inquirer.now c.ask.new.inquirer
    c.args.self.now.notes c.ask.new.self.notes c.in-Refuted.hints more)
    (subst (λ (k : Asked). Goes k (HasJust k others) (Marks k fewer []) mid new c.ask.new.inquirer c.narrow.new.inquirer c.ask.new.self.notes
    c.narrow.new.self.notes) c.ask.ensures.asked
    (subst (λ (ns : List ℕ). Goes c.ask.new.self.asked (HasJust c.ask.new.self.asked ns) (Marks c.ask.new.self.asked fewer []) mid new c.ask.new.inquirer
    c.narrow.new.inquirer c.ask.new.self.notes c.narrow.new.self.notes) c.in_ok-others.ensures c.in_ok-fewer-in-Refuted.ensures.ok))

pub returns-in-Found-clause-ok : goal.returns-in-Found-clause-ok
returns-in-Found-clause-ok g c = λ done undone.
    let asked : Asked = c.args.self.now.asked in
    let core : List ℕ = c.args.core.now in
    let others : List ℕ = others_of core c.args.one in
    let old : DeskView = g.D.Desk.view c.args.desk.now in
    let mid : DeskView = g.D.Desk.view c.ask.new.desk in
    let is = c.deref.ensures.value ∙ c.in_ok-others.ensures in
    less-found asked core c.args.one done c.requires.core c.requires.one undone c.requires.fits.upto old mid c.args.inquirer.now c.ask.new.inquirer
    c.args.self.now.notes c.ask.new.self.notes c.in-Found._values c.requires.fits
    (told-of old mid c.args.inquirer.now c.ask.new.inquirer c.args.self.now.notes c.ask.new.self.notes asked c.deref.result.now others
    c.in_ok-hints.field-0 (answers.Found c.in-Found._values) is c.in-Found.is c.in_ok-hints.ensures.ok)

pub returns-in-Undecided-clause-ok : goal.returns-in-Undecided-clause-ok
returns-in-Undecided-clause-ok g c = λ done undone.
    let asked : Asked = c.args.self.now.asked in
    let core : List ℕ = c.args.core.now in
    let others : List ℕ = others_of core c.args.one in
    let old : DeskView = g.D.Desk.view c.args.desk.now in
    let mid : DeskView = g.D.Desk.view c.ask.new.desk in
    let is = c.deref.ensures.value ∙ c.in_ok-others.ensures in
    less-undecided asked core c.args.one done c.requires.core c.requires.one undone c.requires.fits.upto old mid c.args.inquirer.now c.ask.new.inquirer
    c.args.self.now.notes c.ask.new.self.notes
    (told-of old mid c.args.inquirer.now c.ask.new.inquirer c.args.self.now.notes c.ask.new.self.notes asked c.deref.result.now others
    c.in_ok-hints.field-0 answers.Undecided is c.in-Undecided.is c.in_ok-hints.ensures.ok)

pub returns-in_err-fewer-in-Refuted-clause-grows : goal.returns-in_err-fewer-in-Refuted-clause-grows
returns-in_err-fewer-in-Refuted-clause-grows g c =
    two-grow c.file_grows.ensures.twice c.ask.ensures.grows.0 c.narrow.ensures.grows.0 (g.D.Desk.view c.args.desk.now) (g.D.Desk.view c.ask.new.desk)
    (g.D.Desk.view c.narrow.new.desk) c.ask.ensures.grows.1 c.narrow.ensures.grows.1

pub returns-in_ok-fewer-in-Refuted-clause-grows : goal.returns-in_ok-fewer-in-Refuted-clause-grows
returns-in_ok-fewer-in-Refuted-clause-grows g c =
    two-grow c.file_grows.ensures.twice c.ask.ensures.grows.0 c.narrow.ensures.grows.0 (g.D.Desk.view c.args.desk.now) (g.D.Desk.view c.ask.new.desk)
    (g.D.Desk.view c.narrow.new.desk) c.ask.ensures.grows.1 c.narrow.ensures.grows.1
