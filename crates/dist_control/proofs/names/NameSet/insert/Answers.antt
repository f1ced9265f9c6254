use Rattle.std.proofs.Common.{not, ◌||◌, List, ℕ, ap, ◌∙◌}
use Rattle.std.specs.List.{list_any}
use Rattle.std.specs.Str.{bytes_eq}
use Rattle.dist_control.specs.Fields.{folded}
use Rattle.dist_control.proofs.NameLemmas.{texts, contains-any, insert-any}
use Rattle.dist_control.proofs.names.NameSet.insert.Goals as goal

pub returns-clause-added : goal.returns-clause-added
returns-clause-added c =
    let was = texts c.self.inside.names.keys in
    c.in_ok-added.ensures.added
    ∙ ap not (contains-any c.in_ok-name.name c.self.inside.names.keys
    ∙ ap (λ (t : List ℕ). list_any (bytes_eq t) was) c.in_ok-name.ensures
    ∙ ap (λ (names : List (List ℕ)). list_any (bytes_eq (folded c.args.name.now)) names) c.self.view_is)

pub returns-clause-names : goal.returns-clause-names
returns-clause-names c other =
    let was = texts c.self.inside.names.keys in
    ap (λ names. list_any (bytes_eq other) (texts names)) c.in_ok-added.ensures.keys
    ∙ insert-any c.in_ok-name.name c.self.inside.names.keys other
    ∙ ap (λ (t : List ℕ). bytes_eq other t || list_any (bytes_eq other) was) c.in_ok-name.ensures
    ∙ ap (λ (names : List (List ℕ)). bytes_eq other (folded c.args.name.now) || list_any (bytes_eq other) names) c.self.view_is
