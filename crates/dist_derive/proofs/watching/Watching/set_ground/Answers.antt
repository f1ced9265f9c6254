use Rattle.std.proofs.Common.{refl, ap, sym, subst, ◌∙◌}
use Rattle.dist_derive.specs.WatchesPrivate.{WatchingState, IsStanding}
use Rattle.dist_derive.proofs.StandingLemmas.{standing_anew}
use Rattle.dist_derive.proofs.watching.Watching.set_ground.Goals as goal

pub returns-clause-standing : goal.returns-clause-standing
returns-clause-standing c = λ clauses variables h.
    let old : WatchingState = record {
      is_made = c.self.inside.is_made;
      watches = c.self.inside.watches;
      literals = c.self.inside.literals;
      ground = c.self.inside.ground;
      grounded = c.self.inside.grounded;
      assumptions = c.self.inside.assumptions.items;
      taken = c.self.inside.taken;
    } in
    let new : WatchingState = record {
      is_made = c.self.inside.is_made;
      watches = c.self.inside.watches;
      literals = c.self.inside.literals;
      ground = c.len-self-inside.result;
      grounded = c.self.inside.taken;
      assumptions = c.self.inside.assumptions.items;
      taken = c.self.inside.taken;
    } in
    standing_anew clauses variables old new (subst (λ (w : WatchingState). IsStanding clauses variables w) (sym c.self.view_is) h)
    (ap (λ (w : WatchingState). w.assumptions) c.self.view_is ∙ c.requires) refl refl c.len-self-inside.ensures.value refl refl refl
