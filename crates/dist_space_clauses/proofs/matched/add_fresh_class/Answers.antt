use Rattle.std.proofs.Common.{refl}
use Rattle.std.proofs.lemmas.Bool.{false≢true}
use Rattle.std.proofs.lemmas.Result.{on_ok_weaker}
use Rattle.dist_space.specs.Space.{IsMatchedBy}
use Rattle.dist_space.specs.declared.meaning.Meaning.TheVariants.{Fresh}
use Rattle.dist_space_clauses.proofs.Gathered.{gathers-not, gathers-one}
use Rattle.dist_space_clauses.proofs.MatchLemmas.{fresh-matched, matched-fresh}
use Rattle.dist_space_clauses.proofs.matched.add_fresh_class.Goals as goal

pub returns-then-meets_bound : goal.returns-then-meets_bound
returns-then-meets_bound c =
    let s = c.args.space.now in
    on_ok_weaker c.add_variable.result
    (λ adds. gathers-one s c.args.variables.now.items c.add_variable.new.variables.items (Fresh c.args.name c.args.class) (IsMatchedBy s c.args.atom.now)
    (fresh-matched s c.args.atom.now c.args.name c.args.class c.name_example.result c.requires.name c.name_example.ensures
    (c.if-meets_bound.ensures.0 refl)) adds)
    c.add_variable.ensures

pub returns : goal.returns
returns c =
    let s = c.args.space.now in
    gathers-not s c.args.variables.now.items (Fresh c.args.name c.args.class) (IsMatchedBy s c.args.atom.now)
    (λ matched. false≢true (c.if-meets_bound.ensures.1 (matched-fresh s c.args.atom.now c.args.name c.args.class c.name_example.result c.requires.name
    c.name_example.ensures matched)))
