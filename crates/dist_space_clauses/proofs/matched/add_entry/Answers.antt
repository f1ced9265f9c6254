use Rattle.std.proofs.Common.{refl}
use Rattle.std.proofs.lemmas.Bool.{false≢true}
use Rattle.std.proofs.lemmas.Result.{on_ok_weaker}
use Rattle.dist_space.specs.Space.{IsMatchedBy}
use Rattle.dist_space.specs.declared.meaning.Meaning.TheVariants.{Kept}
use Rattle.dist_space_clauses.proofs.Gathered.{gathers-not, gathers-one}
use Rattle.dist_space_clauses.proofs.MatchLemmas.{matched-meaning}
use Rattle.dist_space_clauses.proofs.matched.add_entry.Goals as goal

pub add_variable-requires : goal.add_variable-requires
add_variable-requires c =
    matched-meaning c.args.space.now c.args.atom.now c.args.member c.args.class c.args.place c.requires.class (c.if-matches_kept.ensures.0 refl)

pub returns-then-matches_kept : goal.returns-then-matches_kept
returns-then-matches_kept c =
    on_ok_weaker c.add_variable.result
    (gathers-one c.args.space.now c.args.variables.now.items c.add_variable.new.variables.items (Kept c.args.member c.args.class c.args.place)
    (IsMatchedBy c.args.space.now c.args.atom.now) (c.if-matches_kept.ensures.0 refl)) c.add_variable.ensures

pub returns : goal.returns
returns c =
    gathers-not c.args.space.now c.args.variables.now.items (Kept c.args.member c.args.class c.args.place) (IsMatchedBy c.args.space.now c.args.atom.now)
    (λ matched. false≢true (c.if-matches_kept.ensures.1 matched))
