use Rattle.std.proofs.Common.{◌≡◌, inr, refl, sym, ap, subst}
use Rattle.std.proofs.lemmas.Bool.{iff_false}
use Rattle.dist_repair.specs.NotesPrivate.{IsAlone, IsAt, NotesView, WordsView}
use Rattle.dist_repair.proofs.notes.Notes.note_left.Goals as goal

pub returns-in-None : goal.returns-in-None
returns-in-None c =
    let same : c.args.self.now.words ≡ c.self.inside.words = sym (ap (λ (n : NotesView). n.words) c.self.view_is) in
    inr (
      (λ is. iff_false c.is_alone.ensures c.if-is_alone.false (subst (λ (w : WordsView). IsAlone w c.args.question.now) same is)),
      inr ((λ j at. c.in-None.ensures j (subst (λ (w : WordsView). IsAt w c.args.question.now j) same at)), refl),
    )
