use Rattle.std.proofs.Common.{List, [], ◌++◌, Bool, sym, subst}
use Rattle.dist_clause.specs.Formula.{Literal}
use Rattle.dist_derive.specs.WatchesPrivate.{WatchingState, StandsFor}
use Rattle.dist_derive.proofs.StandingLemmas.{refused_alone}
use Rattle.dist_derive.proofs.log.Log.stand.Goals as goal

pub take_more-requires-2-clause-standing : goal.take_more-requires-2-clause-standing
take_more-requires-2-clause-standing c =
    c.to_ground.ensures.standing c.args.self.now.clauses c.args.self.now.variables c.requires.standing.is_grounded

pub returns-then-not-branch : goal.returns-then-not-branch
returns-then-not-branch c =
    let log = c.args.self.now in
    let new = c.take_more-2.new.watching in
    let alone = subst (λ (ls : List Literal). StandsFor log.clauses log.variables ls c.args.last new c.in_ok-take_more.field-0)
    c.to_ground.ensures.none c.in_ok-take_more.ensures in
    refused_alone log.clauses log.variables c.args.last c.args.assumptions.now new
    (subst (λ (fine : Bool). StandsFor log.clauses log.variables [] c.args.last new fine) c.if-not-branch.true alone)

pub stand_on-requires-clause-standing : goal.stand_on-requires-clause-standing
stand_on-requires-clause-standing c = c.set_ground.ensures.standing c.args.self.now.clauses c.args.self.now.variables c.in_ok-take_more.ensures.standing

pub returns : goal.returns
returns c =
    let log = c.args.self.now in
    let assumed = c.args.assumptions.now in
    let told = subst (λ (ls : List Literal). StandsFor log.clauses log.variables (ls ++ assumed) c.args.last c.stand_on.new.watching c.in_ok-fine.fine)
    c.set_ground.ensures.none c.in_ok-fine.ensures in
    subst (λ (w : WatchingState). StandsFor log.clauses log.variables assumed c.args.last w c.in_ok-fine.fine) (sym c.note_alone.ensures) told
