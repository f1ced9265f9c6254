use Rattle.std.proofs.Common.{◌≡◌, ℕ, ap, ◌∙◌, refl}
use Rattle.std.proofs.lemmas.Result.{on_ok_weaker}
use Rattle.dist_space.specs.Space.{IsMatchedBy, cluster_classes, example_at, member_classes}
use Rattle.dist_space.specs.declared.meaning.Meaning.TheVariants.{New}
use Rattle.dist_space_clauses.proofs.Gathered.{gathers-one}
use Rattle.dist_space_clauses.proofs.MatchLemmas.{new-matched}
use Rattle.dist_space_clauses.proofs.matched.add_new.Goals as goal

pub returns-then-meets_bound : goal.returns-then-meets_bound
returns-then-meets_bound c =
    let s = c.args.space.now in
    let example : c.example-example.result ≡ example_at (member_classes s c.args.member) c.args.class = c.example-example.ensures
    ∙ ap (λ (n : ℕ). example_at (cluster_classes s n) c.args.class) c.cluster_of.ensures in
    on_ok_weaker c.add_variable.result
    (λ adds. gathers-one s c.args.variables.now.items c.add_variable.new.variables.items (New c.args.member c.args.class) (IsMatchedBy s c.args.atom.now)
    (new-matched s c.args.atom.now c.args.member c.args.class c.args.package.now c.example-example.result c.requires.member example
    (c.if-eq.ensures.same.0 refl) (c.if-meets_bound.ensures.0 refl)) adds)
    c.add_variable.ensures
