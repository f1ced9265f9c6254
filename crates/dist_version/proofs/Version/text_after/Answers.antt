use Rattle.std.proofs.Common.{◌≡◌, ℕ, List, Some, None, [], ◌∷◌, ◌++◌, ap, sym, ◌∙◌}
use Rattle.dist_base.specs.Ascii.{hyphen}
use Rattle.dist_version.specs.Spelling.{revision_of}
use Rattle.dist_version.specs.Between.{extension}
use Rattle.dist_version.proofs.Density.{above_text-some, above_text-none}
use Rattle.dist_version.proofs.Version.text_after.Goals.{in-Some+in_ok-push_extension-in-Some, in-None+in_ok-push-in-None+in_ok-push_extension-in-None}
use Rattle.dist_version.proofs.Version.text_after.Goals as goal

pub returns : goal.returns
returns c = elim c.match-revision.branch [
  | in-Some+in_ok-push_extension-in-Some w ↦
      let revision : revision_of c.args.self.now ≡ Some w.in-Some.revision.now = sym w.in-Some.ensures in
      ap (λ v. v.items) w.text-is ∙ w.in_ok-push_extension-in-Some.ensures
      ∙ ap (λ (s : List ℕ). s ++ extension w.in-Some.revision.now c.args.tildes) (c.in_ok-text.ensures.ok ∙ c.text.ensures.value)
      ∙ above_text-some c.args.self.now w.in-Some.revision.now c.args.tildes revision
  | in-None+in_ok-push-in-None+in_ok-push_extension-in-None w ↦
      let revision : revision_of c.args.self.now ≡ None = sym w.in-None.ensures in
      ap (λ v. v.items) w.text-is ∙ w.in_ok-push_extension-in-None.ensures
      ∙ ap (λ (s : List ℕ). s ++ extension [] c.args.tildes)
      (w.in_ok-push-in-None.ensures.ok ∙ ap (λ (s : List ℕ). s ++ hyphen ∷ []) (c.in_ok-text.ensures.ok ∙ c.text.ensures.value))
      ∙ above_text-none c.args.self.now c.args.tildes revision
]
