use Rattle.std.proofs.Common.{◌≤◌, ℕ, ap, subst, sym}
use Rattle.std.specs.List.{Contains}
use Rattle.std.proofs.lemmas.List.Elements.{Contains-push}
use Rattle.dist_derive.specs.Propagation.{IsFalse, IsUnset}
use Rattle.dist_search.specs.Trail.{TrailState}
use Rattle.dist_derive.specs.TrueLiterals.{LiteralList}
use Rattle.dist_search.specs.Search.{SearchState}
use Rattle.dist_search.specs.contracts.search.Search.{the_view}
use Rattle.dist_search.proofs.QuestionLemmas.{longer}
use Rattle.dist_search.specs.QuestionPrivate.{IsBegun, Goes}
use Rattle.dist_search.proofs.BegunLemmas.{goes_longer, begun_longer, goes_stuck, begun_stuck, known_at}
use Rattle.dist_search.proofs.search.Search.take_single.Goals as goal

pub returns-in-False-clause-goes : goal.returns-in-False-clause-goes
returns-in-False-clause-goes c =
    let s : SearchState = the_view c.self.inside in
    let in_range = subst (λ (n : ℕ). c.args.literal.variable ≤ n) (ap (λ (old : SearchState). old.trail.variables) (sym c.self.view_is)) c.requires.in_range in
    let is = known_at s.singles s.trail.variables c.args.literal c.code_of.result c.index-number.result.now c.self.invariant.singles in_range c.code_of.ensures
    c.index-number.ensures in
    subst (λ (old : SearchState). Goes old (record s { conflict = c.index-number.result.now })) c.self.view_is
    (goes_stuck s c.args.literal c.index-number.result.now is c.if-number-eq0.false c.if-self-ne0.false)

pub returns-in-False-clause-begun : goal.returns-in-False-clause-begun
returns-in-False-clause-begun c = λ clauses assumptions cone member h.
    let s : SearchState = the_view c.self.inside in
    let in_range = subst (λ (n : ℕ). c.args.literal.variable ≤ n) (ap (λ (old : SearchState). old.trail.variables) (sym c.self.view_is)) c.requires.in_range in
    let is = known_at s.singles s.trail.variables c.args.literal c.code_of.result c.index-number.result.now c.self.invariant.singles in_range c.code_of.ensures
    c.index-number.ensures in
    let literals = ap (λ (t : LiteralList). t.literals) c.trues.ensures in
    let is_false = subst (λ trues. IsFalse trues c.args.literal) literals c.in-False.ensures.1 in
    begun_stuck s c.args.literal c.index-number.result.now is c.if-number-eq0.false c.if-self-ne0.false is_false clauses assumptions cone
    (subst (λ (old : SearchState). IsBegun clauses assumptions cone old) (sym c.self.view_is) h)

pub returns-in-Unset-clause-goes : goal.returns-in-Unset-clause-goes
returns-in-Unset-clause-goes c =
    let s : SearchState = the_view c.self.inside in
    let in_range = subst (λ (n : ℕ). c.args.literal.variable ≤ n) (ap (λ (old : SearchState). old.trail.variables) (sym c.self.view_is)) c.requires.in_range in
    let is = known_at s.singles s.trail.variables c.args.literal c.code_of.result c.index-number.result.now c.self.invariant.singles in_range c.code_of.ensures
    c.index-number.ensures in
    subst (λ (t : TrailState). Goes c.args.self.now (record s { trail = t })) (sym c.push.ensures)
    (subst (λ (old : SearchState). Goes old (record s { trail = longer s.trail c.args.literal c.index-number.result.now })) c.self.view_is
    (goes_longer s c.args.literal c.index-number.result.now is c.if-number-eq0.false c.if-self-ne0.false))

pub returns-in-Unset-clause-begun : goal.returns-in-Unset-clause-begun
returns-in-Unset-clause-begun c = λ clauses assumptions cone member h.
    let s : SearchState = the_view c.self.inside in
    let in_range = subst (λ (n : ℕ). c.args.literal.variable ≤ n) (ap (λ (old : SearchState). old.trail.variables) (sym c.self.view_is)) c.requires.in_range in
    let is = known_at s.singles s.trail.variables c.args.literal c.code_of.result c.index-number.result.now c.self.invariant.singles in_range c.code_of.ensures
    c.index-number.ensures in
    let literals = ap (λ (t : LiteralList). t.literals) c.trues.ensures in
    let unset = subst (λ trues. IsUnset trues c.args.literal) literals c.in-Unset.ensures in
    subst (λ (t : TrailState). IsBegun clauses assumptions cone (record s { trail = t })) (sym c.push.ensures)
    (begun_longer s c.args.literal c.index-number.result.now is c.if-number-eq0.false c.if-self-ne0.false c.keeps_invariant.ensures.ordered.reasons unset
    clauses assumptions cone member (subst (λ (old : SearchState). IsBegun clauses assumptions cone old) (sym c.self.view_is) h))

pub returns-in-Unset-clause-taken : goal.returns-in-Unset-clause-taken
returns-in-Unset-clause-taken c = λ _ _.
    subst (λ (t : TrailState). Contains t.literals c.args.literal) (sym c.push.ensures) (Contains-push c.self.inside.trail.literals c.args.literal)
