use Rattle.std.proofs.Common.{true, refl}
use Rattle.dist_derive.specs.WatchesPrivate.{WatchingState}
use Rattle.dist_derive.proofs.StandingLemmas.{standing_made}
use Rattle.dist_derive.proofs.watching.Watching.make.Goals as goal

pub returns-clause-standing : goal.returns-clause-standing
returns-clause-standing c = λ clauses.
    let new : WatchingState = record {
      is_made = true;
      watches = c.in_ok-watches.watches;
      literals = c.in_ok-literals.literals;
      ground = 0;
      grounded = 0;
      assumptions = c.new-2.result.items;
      taken = 0;
    } in
    standing_made clauses c.args.variables new (c.in_ok-watches.ensures clauses) c.in_ok-literals.ensures refl refl c.new-2.ensures.items refl
