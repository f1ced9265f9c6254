use Rattle.std.proofs.Common.{subst, ap}
use Rattle.std.specs.Prelude.{MatchOption}
use Rattle.dist_explain.specs.Answered.{Selects}
use Rattle.dist_explain.specs.AskedPrivate.{SelectsNone}
use Rattle.dist_explain.specs.NotesPrivate.{NotesView}
use Rattle.dist_explain.specs.declared.asked.Asked.{Asked}
use Rattle.dist_explain.proofs.NotesLemmas.{skip-refuted}
use Rattle.dist_explain.proofs.notes.Notes.note_refuted.Goals as goal

pub returns-in_default : goal.returns-in_default
returns-in_default c = λ asked found notes.
    let question = c.args.question.now in
    let none = subst (λ o. MatchOption o (SelectsNone c.self.inside.asked question) (λ numbers. Selects c.self.inside.asked question numbers.items))
    c.in_default.is c.in_ok-numbers.ensures in
    skip-refuted asked found question c.args.self.now
    (subst (λ (a : Asked). SelectsNone a question) (ap (λ (n : NotesView). n.asked) c.self.view_is) none) notes
