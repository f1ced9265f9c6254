use Rattle.std.proofs.Common.{ℕ, List, sym, ◌∙◌, subst}
use Rattle.std.proofs.lemmas.Result.{IfOk-weaker}
use Rattle.dist_version.specs.Order.{IsBelow}
use Rattle.dist_version.proofs.Density.{above_keeps, above, below_greater}
use Rattle.dist_version.proofs.Version.after.Goals as goal

pub keep-requires : goal.keep-requires
keep-requires c =
    let places = c.places.result in
    above_keeps c.args.self.now c.in_ok-text_after.field-0.items c.args.tildes places.epoch places.start places.end c.in_ok-text_after.ensures c.places.ensures

pub returns-clause-above : goal.returns-clause-above
returns-clause-above c = IfOk-weaker c.keep.result _ _
    (λ after e. subst (λ (text : List ℕ). IsBelow c.args.self.now text) (sym (e ∙ c.in_ok-text_after.ensures))
    (above c.args.self.now c.args.tildes c.places.ensures.sound)) c.keep.ensures

pub returns-clause-below : goal.returns-clause-below
returns-clause-below c = IfOk-weaker c.keep.result _ _ (λ after e other less size.
    subst (λ (text : List ℕ). IsBelow text other) (sym (e ∙ c.in_ok-text_after.ensures))
    (below_greater c.args.self.now other c.args.tildes c.places.ensures.sound less size)) c.keep.ensures
