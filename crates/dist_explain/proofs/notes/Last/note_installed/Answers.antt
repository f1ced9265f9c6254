use Rattle.std.proofs.Common.{◌≡◌, List, ℕ, subst, ap, ◌∙◌}
use Rattle.std.specs.Prelude.{OnOk}
use Rattle.std.proofs.lemmas.Result.{on_ok_weaker}
use Rattle.dist_explain.specs.Answered.{IsOnlyMissing}
use Rattle.dist_explain.specs.ListedPrivate.{IsNoneMissing}
use Rattle.dist_explain.specs.NotesPrivate.{LastView, MarksShown}
use Rattle.dist_explain.proofs.NotesLemmas.{marks-shown, marks-shown-none}
use Rattle.dist_explain.proofs.notes.Last.note_installed.Goals as goal

pub returns-in-Some : goal.returns-in-Some
returns-in-Some c =
    let numbers : List ℕ = c.self.inside.numbers.items in
    let left : List ℕ = c.self.inside.left_open.items in
    let new : LastView = record { numbers = numbers; shown = c.put.new.numbers.items; left_open = left } in
    let only = subst (λ (xs : List ℕ). IsOnlyMissing xs c.args.packages c.args.members.now c.in-Some.number) c.deref.ensures.value c.in-Some.ensures in
    subst (λ (old : LastView). OnOk c.put.result (MarksShown c.args.packages c.args.members.now old new)) c.self.view_is
    (on_ok_weaker c.put.result
    (λ more. marks-shown numbers c.self.inside.shown.items left c.put.new.numbers.items c.args.packages c.args.members.now c.in-Some.number only more)
    c.put.ensures.more)

pub returns-in-None : goal.returns-in-None
returns-in-None c =
    let same : c.deref.result.now ≡ c.args.self.now.numbers = c.deref.ensures.value ∙ ap (λ (l : LastView). l.numbers) c.self.view_is in
    marks-shown-none c.args.self.now c.args.packages c.args.members.now
    (subst (λ (xs : List ℕ). IsNoneMissing xs c.args.packages c.args.members.now) same c.in-None.ensures)
