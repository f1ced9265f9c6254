use Rattle.std.proofs.Common.{◌≡◌, ◌∙◌, ap₂, not, rules, subst}
use Rattle.std.proofs.lemmas.Fn.{filter_same}
use Rattle.dist_cert.specs.Rising.{is_among}
use Rattle.dist_explain.specs.NotesPrivate.{LastView, undecided_of}
use Rattle.dist_explain.specs.declared.explained.Explained.TheVariants.{Broken}
use Rattle.dist_explain.proofs.notes.Last.answer.Goals as goal

pub returns-clause-value : goal.returns-clause-value
returns-clause-value c =
    let kept = filter_same _ (λ one. not (is_among c.self.inside.shown.items one)) _ (λ x b f' k. search rules) _ _ c.retain.ensures.filtered in
    subst (λ (l : LastView). Broken c.from_vec.result c.from_vec-2.result ≡ Broken l.shown (undecided_of l)) c.self.view_is
    (ap₂ (λ a b. Broken a b) c.from_vec.ensures (c.from_vec-2.ensures ∙ kept))
