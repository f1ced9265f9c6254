use Rattle.std.proofs.Common.{◌≡◌, ◌∙◌, replicate, ap, sym, length}
use Rattle.dist_derive.specs.ClauseLog.{inputs_of}
use Rattle.dist_search.specs.Trail.{TrailState}
use Rattle.dist_search.specs.Search.{SearchState}
use Rattle.dist_search.proofs.StartLemmas.{assumed_trail, assumed_within, all_watched, begun_assumed, searching_stuck, searching_begun}
use Rattle.dist_search.proofs.search.Search.start.Goals as goal

pub returns-then-self-eq0-clause-searching : goal.returns-then-self-eq0-clause-searching
returns-then-self-eq0-clause-searching c =
    let clauses = c.args.log.now.clauses in
    let assumptions = c.args.assumptions.now in
    let cone = c.args.cone.now.members in
    let s = c.cover.new.self in
    let cleared = ap (λ (t : TrailState). record t { literals = assumptions; reasons = replicate (length assumptions) 0 }) c.clear.ensures in
    let trail : s.trail ≡ assumed_trail c.self.inside.trail assumptions =
    c.cover.ensures.same_trail ∙ (ap (λ (a : SearchState). a.trail) c.assume.ensures ∙ cleared) in
    let within = assumed_within (inputs_of c.args.log.now) assumptions cone c.requires.cone in
    let begun = begun_assumed clauses assumptions cone s c.self.inside.trail trail within c.in_ok-cover.ensures.watching c.in_ok-cover.ensures.all in
    let conflict = ap (λ (a : SearchState). a.conflict) c.self-2.view_is in
    let all : c.take_singles.new.self.watched ≡ length clauses =
    c.take_singles.ensures.goes.same_watched ∙ all_watched clauses s c.in_ok-cover.ensures.all (sym conflict ∙ c.if-self-eq0.true) in
    searching_begun clauses assumptions cone c.take_singles.new.self (c.take_singles.ensures.begun clauses assumptions begun) all c.take_singles.ensures.taken

pub returns-else-self-eq0-clause-searching : goal.returns-else-self-eq0-clause-searching
returns-else-self-eq0-clause-searching c =
    let clauses = c.args.log.now.clauses in
    let assumptions = c.args.assumptions.now in
    let cone = c.args.cone.now.members in
    let s = c.cover.new.self in
    let cleared = ap (λ (t : TrailState). record t { literals = assumptions; reasons = replicate (length assumptions) 0 }) c.clear.ensures in
    let trail : s.trail ≡ assumed_trail c.self.inside.trail assumptions =
    c.cover.ensures.same_trail ∙ (ap (λ (a : SearchState). a.trail) c.assume.ensures ∙ cleared) in
    let within = assumed_within (inputs_of c.args.log.now) assumptions cone c.requires.cone in
    let begun = begun_assumed clauses assumptions cone s c.self.inside.trail trail within c.in_ok-cover.ensures.watching c.in_ok-cover.ensures.all in
    let conflict = ap (λ (a : SearchState). a.conflict) c.self-2.view_is in
    searching_stuck clauses assumptions cone s begun (λ e. c.if-self-eq0.false (conflict ∙ e))
