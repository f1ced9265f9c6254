use Rattle.std.proofs.Common.{◌∙◌, ◌≡◌, ◌-◌, ℕ, Some, ap, arith, sym}
use Rattle.std.specs.Prelude.{min}
use Rattle.dist_repair.specs.NotesPrivate.{NotesView}
use Rattle.dist_repair.specs.declared.notes.Notes.TheInside.{Inside}
use Rattle.dist_repair.proofs.AnswerLemmas.{below-upper}
use Rattle.dist_repair.proofs.notes.Notes.below.Goals as goal

pub returns-in-Some : goal.returns-in-Some
returns-in-Some c = λ s asked found are.
    let least : ℕ = c.in-Some.least in
    let is : c.args.self.now.upper ≡ Some (least, c.in-Some.field-0-1) =
    sym (ap (λ (n : NotesView). n.upper) c.self.view_is) ∙ sym (ap (λ (n : Inside). n.upper) c.self-inside.view_is) ∙ c.in-Some.is in
    let most = ap (λ (n : NotesView). n.words.most) c.self.view_is in
    let inside = ap (λ (n : Inside). n.words.most) c.self-inside.view_is in
    let at : c.min.result ≡ min (least - 1) c.args.self.now.words.most = omega (arith, c.min.ensures, most, inside) in
    below-upper s asked found c.args.self.now (least, c.in-Some.field-0-1) c.min.result are is c.if-least-gt0.true at
