use Rattle.std.proofs.Common.{◌≡◌, List, ℕ, true, sym, subst, ap, ◌∙◌}
use Rattle.std.specs.Prelude.{OnOk}
use Rattle.std.specs.List.{list_all}
use Rattle.std.proofs.lemmas.Result.{on_ok_weaker}
use Rattle.dist_cert.specs.Rising.{is_among}
use Rattle.dist_explain.specs.Answered.{IsOnlyMissing}
use Rattle.dist_explain.specs.ListedPrivate.{IsNoneMissing}
use Rattle.dist_explain.specs.NotesPrivate.{LastView, MarksOpen}
use Rattle.dist_explain.proofs.NotesLemmas.{marks-open, marks-open-none, not-missing, not-within}
use Rattle.dist_explain.proofs.notes.Last.note_open.Goals as goal

pub returns-then-not-has_all : goal.returns-then-not-has_all
returns-then-not-has_all c =
    marks-open-none c.args.self.now c.args.others.now
    (not-within c.args.self.now.numbers c.args.others.now (sym c.has_all.ensures ∙ c.if-not-has_all.true))

pub returns-in-Some : goal.returns-in-Some
returns-in-Some c =
    let numbers : List ℕ = c.self.inside.numbers.items in
    let shown : List ℕ = c.self.inside.shown.items in
    let others : List ℕ = c.args.others.now in
    let new : LastView = record { numbers = numbers; shown = shown; left_open = c.put.new.numbers.items } in
    let only = subst (λ (xs : List ℕ). IsOnlyMissing xs 0 others c.in-Some.number) c.deref.ensures.value c.in-Some.ensures in
    let all : list_all (is_among numbers) others ≡ true
    = ap (λ (l : LastView). list_all (is_among l.numbers) others) c.self.view_is ∙ sym c.has_all.ensures ∙ c.if-not-has_all.false in
    subst (λ (old : LastView). OnOk c.put.result (MarksOpen others old new)) c.self.view_is
    (on_ok_weaker c.put.result
    (λ more. marks-open numbers shown c.self.inside.left_open.items c.put.new.numbers.items others c.in-Some.number all only more) c.put.ensures.more)

pub returns-in-None : goal.returns-in-None
returns-in-None c =
    let same : c.deref.result.now ≡ c.args.self.now.numbers = c.deref.ensures.value ∙ ap (λ (l : LastView). l.numbers) c.self.view_is in
    marks-open-none c.args.self.now c.args.others.now
    (not-missing c.args.self.now.numbers c.args.others.now (subst (λ (xs : List ℕ). IsNoneMissing xs 0 c.args.others.now) same c.in-None.ensures))
