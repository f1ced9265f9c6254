use Rattle.std.proofs.Common.{◌∙◌, ◌++◌, ◌∷◌, [], List, ℕ, true, subst, sym, ap}
use Rattle.std.specs.Prelude.{MatchOption}
use Rattle.std.proofs.lemmas.Bool.{true≢false}
use Rattle.std.proofs.lemmas.Result.{on_ok_weaker}
use Rattle.dist_explain.specs.Answered.{Selects}
use Rattle.dist_explain.specs.AskedPrivate.{SelectsNone}
use Rattle.dist_explain.specs.ListedPrivate.{HasAllBehind}
use Rattle.dist_explain.specs.NotesPrivate.{AreNotesOf, MarksOpen, NotesView}
use Rattle.dist_explain.specs.declared.asked.Asked.{Asked}
use Rattle.dist_explain.proofs.NotesLemmas.{kept-by, ok-of, set-by, skip-undecided, undecided-first, undecided-last}
use Rattle.dist_findings.specs.declared.finding.Finding.{Finding}
use Rattle.dist_findings.specs.declared.finding.Finding.TheVariants as finding
use Rattle.dist_explain.proofs.notes.Notes.note_undecided.Goals.{then-has_all_behind, else-has_all_behind}
use Rattle.dist_explain.proofs.notes.Notes.note_undecided.Goals as goal

pub returns-in_default : goal.returns-in_default
returns-in_default c = λ asked found notes.
    let question = c.args.question.now in
    let none = subst (λ o. MatchOption o (SelectsNone c.self.inside.asked question) (λ numbers. Selects c.self.inside.asked question numbers.items))
    c.in_default.is c.in_ok-numbers.ensures in
    skip-undecided asked found question c.args.self.now
    (subst (λ (a : Asked). SelectsNone a question) (ap (λ (n : NotesView). n.asked) c.self.view_is) none) notes

pub returns-in-Some-last : goal.returns-in-Some-last
returns-in-Some-last c = λ asked found notes.
    let question = c.args.question.now in
    let inside = c.self.inside in
    let old : NotesView = record { asked = inside.asked; last = inside.last; installed = inside.installed; left_open = inside.left_open } in
    let before : AreNotesOf asked found old = subst (AreNotesOf asked found) (sym c.self.view_is) notes in
    let selects = subst (λ o. MatchOption o (SelectsNone inside.asked question) (λ numbers. Selects inside.asked question numbers.items)) c.in-Some.is
    c.in_ok-numbers.ensures in
    on_ok_weaker c.note_open.result (λ marks.
    undecided-last asked found question old c.in-Some-last.last c.note_open.new.self c.in-Some.numbers.items c.self.invariant c.in-Some-last.is selects
    (subst (λ (xs : List ℕ). MarksOpen xs c.in-Some-last.last c.note_open.new.self) c.deref.ensures.value marks) before) c.note_open.ensures

pub returns : goal.returns
returns c = λ asked found notes.
    let question = c.args.question.now in
    let inside = c.self.inside in
    let numbers : List ℕ = c.in-Some.numbers.items in
    let old : NotesView = record { asked = inside.asked; last = inside.last; installed = inside.installed; left_open = inside.left_open } in
    let before : AreNotesOf asked found old = subst (AreNotesOf asked found) (sym c.self.view_is) notes in
    let selects = subst (λ o. MatchOption o (SelectsNone inside.asked question) (λ numbers. Selects inside.asked question numbers.items)) c.in-Some.is
    c.in_ok-numbers.ensures in
    let after : List Finding = found ++ finding.LeftUndecided question ∷ [] in
    ok-of c.if-has_all_behind.result (elim c.if-has_all_behind.branch [
      | then-has_all_behind w ↦ subst (AreNotesOf asked after) (sym w.self-is)
          (undecided-first asked found question old numbers true c.self.invariant c.in-None.is selects
          (set-by inside.left_open (HasAllBehind numbers 0 inside.asked.relations)
          (subst (λ (xs : List ℕ). HasAllBehind xs 0 inside.asked.relations) c.deref-in-None.ensures.value
          (c.has_all_behind.ensures.0 w.if-has_all_behind.true))) before)
      | else-has_all_behind w ↦ subst (AreNotesOf asked after) (sym w.self-is)
          (undecided-first asked found question old numbers inside.left_open c.self.invariant c.in-None.is selects
          (kept-by inside.left_open (HasAllBehind numbers 0 inside.asked.relations)
          (λ all. true≢false (sym (c.has_all_behind.ensures.1
          (subst (λ (xs : List ℕ). HasAllBehind xs 0 inside.asked.relations) (sym c.deref-in-None.ensures.value) all)) ∙ w.if-has_all_behind.false))) before)
    ])
