use Rattle.std.proofs.Common.{◌∙◌, List, ℕ, true, subst, sym}
use Rattle.std.specs.Prelude.{Contains}
use Rattle.std.proofs.lemmas.Bool.{true≢false}
use Rattle.std.proofs.lemmas.Result.{on_ok_weaker}
use Rattle.dist_cert.specs.ListLaws.{any-from, from-any}
use Rattle.dist_explain.specs.ListedPrivate.{HasAllBehind}
use Rattle.dist_explain.specs.NotesPrivate.{AreNotesOf, NotesView}
use Rattle.dist_explain.proofs.NotesLemmas.{installed-first, installed-last, kept-by, set-by, skip-installed}
use Rattle.dist_explain.proofs.notes.Notes.note_installed.Goals as goal

pub returns-then-not-has : goal.returns-then-not-has
returns-then-not-has c = λ asked found notes.
    let number : ℕ = c.self.inside.asked.number in
    let members : List ℕ = c.args.members.now in
    let lacks : Contains members number → ⊥ = λ there. true≢false (sym (any-from number members there) ∙ sym c.has.ensures ∙ c.if-not-has.true) in
    skip-installed asked found members c.args.self.now
    (subst (λ (n : NotesView). Contains members n.asked.number → ⊥) c.self.view_is lacks) notes

pub returns-in-Some : goal.returns-in-Some
returns-in-Some c = λ asked found notes.
    let inside = c.self.inside in
    let members : List ℕ = c.args.members.now in
    let old : NotesView = record { asked = inside.asked; last = inside.last; installed = inside.installed; left_open = inside.left_open } in
    let before : AreNotesOf asked found old = subst (AreNotesOf asked found) (sym c.self.view_is) notes in
    let has : Contains members inside.asked.number = from-any inside.asked.number members (sym c.has.ensures ∙ c.if-not-has.false) in
    on_ok_weaker c.note_installed.result (λ marks.
    installed-last asked found members old c.in-Some.last c.note_installed.new.self c.in-Some.is has marks before) c.note_installed.ensures

pub returns-then-has_all_behind : goal.returns-then-has_all_behind
returns-then-has_all_behind c = λ asked found notes.
    let inside = c.self.inside in
    let members : List ℕ = c.args.members.now in
    let old : NotesView = record { asked = inside.asked; last = inside.last; installed = inside.installed; left_open = inside.left_open } in
    let before : AreNotesOf asked found old = subst (AreNotesOf asked found) (sym c.self.view_is) notes in
    let has : Contains members inside.asked.number = from-any inside.asked.number members (sym c.has.ensures ∙ c.if-not-has.false) in
    installed-first asked found members old true c.in-None.is has
    (set-by inside.installed (HasAllBehind members inside.asked.packages inside.asked.relations) (c.has_all_behind.ensures.0 c.if-has_all_behind.true)) before

pub returns-else-has_all_behind : goal.returns-else-has_all_behind
returns-else-has_all_behind c = λ asked found notes.
    let inside = c.self.inside in
    let members : List ℕ = c.args.members.now in
    let old : NotesView = record { asked = inside.asked; last = inside.last; installed = inside.installed; left_open = inside.left_open } in
    let before : AreNotesOf asked found old = subst (AreNotesOf asked found) (sym c.self.view_is) notes in
    let has : Contains members inside.asked.number = from-any inside.asked.number members (sym c.has.ensures ∙ c.if-not-has.false) in
    installed-first asked found members old inside.installed c.in-None.is has
    (kept-by inside.installed (HasAllBehind members inside.asked.packages inside.asked.relations)
    (λ all. true≢false (sym (c.has_all_behind.ensures.1 all) ∙ c.if-has_all_behind.false))) before
