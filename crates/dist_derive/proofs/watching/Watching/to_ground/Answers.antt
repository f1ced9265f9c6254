use Rattle.std.proofs.Common.{refl, sym, subst}
use Rattle.dist_derive.specs.WatchesPrivate.{WatchingState, IsGrounded}
use Rattle.dist_derive.proofs.StandingLemmas.{standing_ground}
use Rattle.dist_derive.proofs.watching.Watching.to_ground.Goals as goal

pub returns-clause-standing : goal.returns-clause-standing
returns-clause-standing c = λ clauses variables h.
    let old : WatchingState = record {
      is_made = c.self.inside.is_made;
      watches = c.self.inside.watches;
      literals = c.self.inside.literals;
      ground = c.self.inside.ground;
      grounded = c.self.inside.grounded;
      assumptions = c.self.inside.assumptions.items;
      taken = c.self.inside.taken;
    } in
    let new : WatchingState = record {
      is_made = c.self.inside.is_made;
      watches = c.self.inside.watches;
      literals = c.truncate.new.self;
      ground = c.len-self-inside.result;
      grounded = c.self.inside.grounded;
      assumptions = c.clear.new.self.items;
      taken = c.self.inside.grounded;
    } in
    standing_ground clauses variables old new (subst (λ (w : WatchingState). IsGrounded clauses variables w) (sym c.self.view_is) h) refl
    c.truncate.ensures c.len-self-inside.ensures.value refl c.clear.ensures.items refl
