use Rattle.std.proofs.Common.{◌≡◌, ℕ, List, [], ◌∷◌, ◌++◌, sym, subst}
use Rattle.std.proofs.lemmas.Result.{on_ok_weaker}
use Rattle.dist_cert.specs.Form.{Word}
use Rattle.dist_findings.specs.declared.finding.Finding.{Finding}
use Rattle.dist_findings.specs.declared.finding.Finding.TheVariants.{Installed}
use Rattle.dist_repair.specs.NotesPrivate.{AreNotesOf, NotesLeft, NotesRefuted, NotesView, noted_installed}
use Rattle.dist_repair.proofs.NoteLemmas.{notes-installed, notes-left, notes-refuted}
use Rattle.dist_repair.proofs.notes.Notes.note.Goals as goal

pub returns-in-Refuted : goal.returns-in-Refuted
returns-in-Refuted c = λ asked found are. subst (λ (f : Finding). AreNotesOf c.args.space.now asked (found ++ f ∷ []) c.note_refuted.new.self)
    (sym c.in-Refuted.is) (notes-refuted c.args.space.now asked found c.in-Refuted.question c.args.self.now c.note_refuted.new.self are
    (subst (λ (question : List Word). NotesRefuted c.args.self.now question c.note_refuted.new.self) c.as_slice.ensures c.note_refuted.ensures))

pub returns-in-LeftUndecided : goal.returns-in-LeftUndecided
returns-in-LeftUndecided c = λ asked found are. subst (λ (f : Finding). AreNotesOf c.args.space.now asked (found ++ f ∷ []) c.note_left.new.self)
    (sym c.in-LeftUndecided.is) (notes-left c.args.space.now asked found c.in-LeftUndecided.question c.args.self.now c.note_left.new.self are
    (subst (λ (question : List Word). NotesLeft c.args.self.now question c.note_left.new.self) c.as_slice-in-LeftUndecided.ensures c.note_left.ensures))

pub returns-in-Installed : goal.returns-in-Installed
returns-in-Installed c = λ asked found are. on_ok_weaker c.note_installed.result
    (λ is. subst (λ (f : Finding). AreNotesOf c.args.space.now asked (found ++ f ∷ []) c.note_installed.new.self) (sym c.in-Installed.is)
    (subst (λ (n : NotesView). AreNotesOf c.args.space.now asked (found ++ Installed c.in-Installed.members ∷ []) n) (sym (is_noted is))
    (notes-installed c.args.space.now asked found c.in-Installed.members c.args.self.now are)))
    c.note_installed.ensures
  where
    is_noted : c.note_installed.new.self ≡ noted_installed c.args.space.now c.args.self.now c.as_slice-in-Installed.result.now
        → c.note_installed.new.self ≡ noted_installed c.args.space.now c.args.self.now c.in-Installed.members
    is_noted is = subst (λ (ms : List ℕ). c.note_installed.new.self ≡ noted_installed c.args.space.now c.args.self.now ms)
        c.as_slice-in-Installed.ensures is
