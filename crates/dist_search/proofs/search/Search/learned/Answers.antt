use Rattle.std.proofs.Common.{◌≡◌, ◌∷◌, ◌≤◌, ◌∙◌, List, ap, sym, subst, length, get_or, arith}
use Rattle.dist_clause.specs.Formula.{Literal}
use Rattle.dist_clause.specs.ClauseList.{clause_at}
use Rattle.dist_search.specs.Trail.{TrailState, IsOrdered}
use Rattle.dist_search.specs.Search.{SearchState, IsSearching}
use Rattle.dist_search.proofs.QuestionLemmas.{longer}
use Rattle.dist_search.proofs.LessonLemmas.{watching_later, searching_on}
use Rattle.dist_search.proofs.search.Search.learned.Goals as goal

pub returns-in-Some-clause-searching : goal.returns-in-Some-clause-searching
returns-in-Some-clause-searching c =
    let clauses = c.args.log.now.clauses in
    let assumptions = c.args.assumptions.now in
    let cone = c.args.cone.now.members in
    let a : SearchState = c.args.self.now in
    let b : SearchState = c.add.new.self in
    let number = c.len-number.result in
    let is = c.len-number.ensures.value in
    let gives = c.requires.gives in
    let adds = c.in_ok-add.ensures in
    let item = c.in-Some.first.now in
    let line : clause_at clauses number ≡ gives.first ∷ gives.rest = ap (λ n. clause_at clauses n) is ∙ (c.requires.line ∙ gives.is) in
    let clause : c.clause-clause.result.now ≡ gives.first ∷ gives.rest = c.clause-clause.ensures.value ∙ line in
    let first : item ≡ gives.first = c.in-Some.ensures.item.1 ∙ ap (λ (ls : List Literal). get_or ls 0 item) clause in
    let trail : c.self.inside.trail ≡ a.trail = ap (λ (s : SearchState). s.trail) c.self.view_is ∙ adds.same_trail in
    let ordered = subst (λ (t : TrailState). IsOrdered t) trail c.keeps_invariant.ensures.ordered in
    let pushed : c.push.new.self ≡ longer a.trail gives.first number =
    c.push.ensures ∙ (ap (λ (t : TrailState). longer t item number) trail ∙ ap (λ (l : Literal). longer a.trail l number) first) in
    let within : number ≤ length clauses = omega (arith, is) in
    let watching = adds.watching clauses within (sym c.clause-clause.ensures.value) (watching_later clauses a c.requires.searching.watching) in
    let searching = searching_on clauses assumptions cone a b number is c.requires.some gives line ordered adds.same_conflict adds.watched
    (λ one other more e. adds.pair one other more (clause ∙ e)) adds.other_pairs watching c.requires.searching c.requires.going in
    subst (λ (s : SearchState). IsSearching clauses assumptions cone (record s { trail = c.push.new.self })) (sym c.self.view_is)
    (subst (λ (t : TrailState). IsSearching clauses assumptions cone (record b { trail = t })) (sym pushed) searching)
