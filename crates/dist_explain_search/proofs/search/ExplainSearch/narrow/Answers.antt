use Rattle.std.proofs.Common.{◌≡◌, ◌∙◌, ◌<◌, ℕ, List, [], ap, arith, filter, length, subst, sym}
use Rattle.std.specs.List.{All}
use Rattle.dist_cert.specs.Form.{Word}
use Rattle.dist_cert.specs.Rising.{is_among}
use Rattle.dist_outside.specs.DeskView.{DeskView}
use Rattle.dist_outside.specs.declared.trouble.WorkError.TheVariants.{NoMemory}
use Rattle.dist_solver.specs.declared.answers.Answer.TheVariants as answers
use Rattle.dist_inquiry.specs.Asking.{AskStops}
use Rattle.dist_line_write.specs.Asking.{IsOver}
use Rattle.dist_inquiry.specs.AnswerText.{NoteMore}
use Rattle.dist_explain.specs.Answered.{IsOfRelation}
use Rattle.dist_explain.specs.declared.asked.Asked.{Asked}
use Rattle.dist_explain_search.specs.SearchPrivate.{AreNumbers, HasJust, IsSmaller, Marks, explain_noting, question_of}
use Rattle.dist_explain_search.proofs.CoreLemmas.{marks-just, narrowed-by, next-by, smaller-by, smaller-same}
use Rattle.dist_explain_search.proofs.GoingLemmas.{exit-stops, goes-still, stops-memory, stops-question}
use Rattle.dist_explain_search.proofs.QuestionLemmas.{question-over}
use Rattle.dist_explain_search.proofs.search.ExplainSearch.narrow.Goals as goal

pub returns-in_err-core-clause-err : goal.returns-in_err-core-clause-err
returns-in_err-core-clause-err g c =
    let asked : Asked = c.args.self.now.asked in
    let d : DeskView = g.D.Desk.view c.args.desk.now in
    exit-stops asked (HasJust asked c.args.numbers.items) d d c.args.inquirer.now c.args.self.now.notes NoMemory c.from_residual.result
    c.from_residual.ensures.1
    (stops-memory c.file_grows.ensures.begin asked (HasJust asked c.args.numbers.items) d c.args.inquirer.now c.args.self.now.notes)

pub returns-then-len-clause-ok : goal.returns-then-len-clause-ok
returns-then-len-clause-ok g c =
    marks-just c.file_grows.ensures.begin c.args.self.now.asked c.args.numbers.items (g.D.Desk.view c.args.desk.now) c.args.inquirer.now
    c.args.self.now.notes

pub returns-then-len-clause-core : goal.returns-then-len-clause-core
returns-then-len-clause-core g c = smaller-same c.args.self.now.asked c.args.numbers.items c.requires.numbers

smaller : (asked : Asked) (numbers given core : List ℕ) → AreNumbers asked numbers → given ≡ numbers
    → (named : List ℕ) × (core ≡ filter (is_among named) given) → IsSmaller asked numbers core
smaller asked numbers given core are same made =
    smaller-by asked numbers core (is_among made.0) are (made.1 ∙ ap (λ (ns : List ℕ). filter (is_among made.0) ns) same)

pub question_of-requires-clause-range : goal.question_of-requires-clause-range
question_of-requires-clause-range g c =
    subst (λ (ns : List ℕ). All (IsOfRelation c.args.self.now.asked) ns) (sym c.deref-2.ensures.value)
    (smaller c.args.self.now.asked c.args.numbers.items c.deref.result.now c.in_ok-core.core.items c.requires.numbers c.deref.ensures.value
    c.in_ok-core.ensures).are.in_range

pub returns-in_err-question-clause-err : goal.returns-in_err-question-clause-err
returns-in_err-question-clause-err g c =
    let asked : Asked = c.args.self.now.asked in
    let d : DeskView = g.D.Desk.view c.args.desk.now in
    exit-stops asked (HasJust asked c.args.numbers.items) d d c.args.inquirer.now c.args.self.now.notes NoMemory
    c.from_residual-in_err-question.result c.from_residual-in_err-question.ensures.1
    (stops-memory c.file_grows.ensures.begin asked (HasJust asked c.args.numbers.items) d c.args.inquirer.now c.args.self.now.notes)

pub refute_and_note-requires-clause-question : goal.refute_and_note-requires-clause-question
refute_and_note-requires-clause-question g c =
    let asked : Asked = c.args.self.now.asked in
    let core : List ℕ = c.in_ok-core.core.items in
    let is : c.deref-3.result.now ≡ question_of asked core =
    c.deref-3.ensures.value ∙ c.in_ok-question.ensures ∙ ap (λ (ns : List ℕ). question_of asked ns) c.deref-2.ensures.value in
    subst (λ (q : List Word). IsOver c.args.inquirer.now.log.variables q) (sym is) (question-over asked c.args.inquirer.now.log.variables core
    c.requires.fits (smaller asked c.args.numbers.items c.deref.result.now core c.requires.numbers c.deref.ensures.value c.in_ok-core.ensures).are)

pub returns-in_err-refuted-clause-err : goal.returns-in_err-refuted-clause-err
returns-in_err-refuted-clause-err g c =
    let asked : Asked = c.args.self.now.asked in
    let numbers : List ℕ = c.args.numbers.items in
    let core : List ℕ = c.in_ok-core.core.items in
    let old : DeskView = g.D.Desk.view c.args.desk.now in
    let new : DeskView = g.D.Desk.view c.refute_and_note.new.desk in
    let is : c.deref-3.result.now ≡ question_of asked core =
    c.deref-3.ensures.value ∙ c.in_ok-question.ensures ∙ ap (λ (ns : List ℕ). question_of asked ns) c.deref-2.ensures.value in
    let made = c.in_ok-core.ensures.1 ∙ ap (λ (ns : List ℕ). filter (is_among c.in_ok-core.ensures.0) ns) c.deref.ensures.value in
    let less : length core < length numbers = omega (arith, c.len.ensures, c.len-2.ensures, c.if-len.false) in
    exit-stops asked (HasJust asked numbers) old new c.args.inquirer.now c.args.self.now.notes c.in_err-refuted.field-0.0
    c.from_residual-in_err-refuted.result c.from_residual-in_err-refuted.ensures.1
    (stops-question asked (HasJust asked numbers) (question_of asked core) old new c.args.inquirer.now c.args.self.now.notes c.in_err-refuted.field-0.0
    (next-by asked numbers core (is_among c.in_ok-core.ensures.0) c.requires.numbers made c.requires.fits.upto less)
    (subst (λ (q : List Word). AskStops c.args.inquirer.now q old new c.in_err-refuted.field-0.0) is c.in_err-refuted.ensures.err))

pub returns-then-refuted-clause-ok : goal.returns-then-refuted-clause-ok
returns-then-refuted-clause-ok g c =
    let asked : Asked = c.args.self.now.asked in
    let numbers : List ℕ = c.args.numbers.items in
    let core : List ℕ = c.in_ok-core.core.items in
    let old : DeskView = g.D.Desk.view c.args.desk.now in
    let new : DeskView = g.D.Desk.view c.refute_and_note.new.desk in
    let is : c.deref-3.result.now ≡ question_of asked core =
    c.deref-3.ensures.value ∙ c.in_ok-question.ensures ∙ ap (λ (ns : List ℕ). question_of asked ns) c.deref-2.ensures.value in
    let made = c.in_ok-core.ensures.1 ∙ ap (λ (ns : List ℕ). filter (is_among c.in_ok-core.ensures.0) ns) c.deref.ensures.value in
    let less : length core < length numbers = omega (arith, c.len.ensures, c.len-2.ensures, c.if-len.false) in
    narrowed-by asked numbers core (is_among c.in_ok-core.ensures.0) c.requires.numbers made c.requires.fits.upto less old new c.args.inquirer.now
    c.refute_and_note.new.inquirer c.args.self.now.notes c.refute_and_note.new.notes c.args.hints.now
    (subst (λ (q : List Word). NoteMore explain_noting old new c.args.inquirer.now c.refute_and_note.new.inquirer c.args.self.now.notes
    c.refute_and_note.new.notes q (answers.Refuted c.args.hints.now)) is (c.in_ok-refuted.ensures.ok c.if-refuted.true))

pub returns-then-refuted-clause-core : goal.returns-then-refuted-clause-core
returns-then-refuted-clause-core g c =
    smaller c.args.self.now.asked c.args.numbers.items c.deref.result.now c.in_ok-core.core.items c.requires.numbers c.deref.ensures.value
    c.in_ok-core.ensures

pub returns-else-refuted-clause-ok : goal.returns-else-refuted-clause-ok
returns-else-refuted-clause-ok g c =
    let asked : Asked = c.args.self.now.asked in
    let numbers : List ℕ = c.args.numbers.items in
    let old : DeskView = g.D.Desk.view c.args.desk.now in
    let none = c.in_ok-refuted.ensures.none c.if-refuted.false in
    goes-still asked (HasJust asked numbers) (Marks asked numbers []) old (g.D.Desk.view c.refute_and_note.new.desk) c.args.inquirer.now
    c.refute_and_note.new.inquirer c.args.self.now.notes c.refute_and_note.new.notes (ap (λ d. g.D.Desk.view d) none.0) none.1 none.2
    (marks-just c.file_grows.ensures.begin asked numbers old c.args.inquirer.now c.args.self.now.notes)

pub returns-else-refuted-clause-core : goal.returns-else-refuted-clause-core
returns-else-refuted-clause-core g c = smaller-same c.args.self.now.asked c.args.numbers.items c.requires.numbers
