use Rattle.std.proofs.Common.{false, subst, sym}
use Rattle.dist_explain.specs.Answered.{Answers}
use Rattle.dist_explain.specs.NotesPrivate.{AreNotesOf, NotesView}
use Rattle.dist_explain.proofs.NotesLemmas.{answers-first, answers-last}
use Rattle.dist_explain.proofs.notes.Notes.answer.Goals as goal

pub returns-in-Some : goal.returns-in-Some
returns-in-Some c = λ asked found notes answered.
    let inside = c.self.inside in
    let n : NotesView = record { asked = inside.asked; last = inside.last; installed = inside.installed; left_open = inside.left_open } in
    let now : AreNotesOf asked found n = subst (AreNotesOf asked found) (sym c.self.view_is) notes in
    subst (Answers asked found) (sym c.answer.ensures.value)
    (answers-last asked found n c.in-Some.last c.self.invariant c.in-Some.is c.answer.ensures.order now answered)

pub returns-else-installed : goal.returns-else-installed
returns-else-installed c = λ asked found notes answered.
    let inside = c.self.inside in
    let n : NotesView = record { asked = inside.asked; last = inside.last; installed = inside.installed; left_open = inside.left_open } in
    let now : AreNotesOf asked found n = subst (AreNotesOf asked found) (sym c.self.view_is) notes in
    answers-first asked found n false c.self.invariant c.in-None.is c.if-installed.false now answered
