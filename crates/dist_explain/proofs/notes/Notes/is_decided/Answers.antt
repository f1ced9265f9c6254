use Rattle.std.proofs.Common.{◌∙◌, inl, inr, subst, sym}
use Rattle.std.proofs.lemmas.Bool.{true≢false}
use Rattle.dist_explain.specs.NotesPrivate.{AreNotesOf, NotesView}
use Rattle.dist_explain.proofs.NotesLemmas.{decides-first, decides-last}
use Rattle.dist_explain.proofs.notes.Notes.is_decided.Goals as goal

pub returns-in-Some : goal.returns-in-Some
returns-in-Some c = λ asked found notes.
    let inside = c.self.inside in
    let n : NotesView = record { asked = inside.asked; last = inside.last; installed = inside.installed; left_open = inside.left_open } in
    let now : AreNotesOf asked found n = subst (AreNotesOf asked found) (sym c.self.view_is) notes in
    decides-last asked found n c.in-Some.last c.is_decided.result c.self.invariant c.in-Some.is c.is_decided.ensures.order now c.is_decided.ensures.decided

pub returns-else-self : goal.returns-else-self
returns-else-self c = λ asked found notes.
    let inside = c.self.inside in
    let n : NotesView = record { asked = inside.asked; last = inside.last; installed = inside.installed; left_open = inside.left_open } in
    let now : AreNotesOf asked found n = subst (AreNotesOf asked found) (sym c.self.view_is) notes in
    let both = decides-first asked found n c.self.invariant c.in-None.is now in (
      (λ yes. both.0 (inr yes)),
      (λ answered. elim (both.1 answered) [
        | inl installed ↦ absurd (true≢false (sym installed ∙ c.if-self.false))
        | inr still ↦ still
      ]),
    )
