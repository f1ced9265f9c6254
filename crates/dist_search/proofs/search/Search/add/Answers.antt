use Rattle.std.proofs.Common.{◌≡◌, ◌≤◌, ◌+◌, ◌<◌, ◌∙◌, ℕ, length, subst, sym, set, arith}
use Rattle.std.specs.List.{Contains}
use Rattle.std.proofs.lemmas.List.{nil_from_length}
use Rattle.dist_clause.specs.Formula.{Literal}
use Rattle.dist_derive.specs.OccurrencesPrivate.{code_of}
use Rattle.dist_search.specs.declared.search.Search.TheInside.{Inside}
use Rattle.dist_search.specs.Search.{SearchState, IsWatching}
use Rattle.dist_search.specs.contracts.search.Search.{the_view}
use Rattle.dist_search.proofs.BegunLemmas.{code_within}
use Rattle.dist_search.proofs.AddLemmas.{only_one, has_one, two_apart, watching_pair, watching_single}
use Rattle.dist_search.proofs.search.Search.add.Goals as goal
use Rattle.dist_search.proofs.search.Search.add.Goals.{in-empty, in-len1, in-len2-up+in_ok-watch-in-len2-up}

pub returns-clause-watching : goal.returns-clause-watching
returns-clause-watching c = λ clauses to at h.
    let s : SearchState = the_view c.self.inside in
    let clause = c.args.clause.now in
    let number = c.args.number in
    let next = subst (λ (old : SearchState). number ≡ old.watched + 1) (sym c.self.view_is) c.requires.next in
    let before = subst (λ (old : SearchState). IsWatching clauses old) (sym c.self.view_is) h in
    elim c.if-clause-lt1.branch [
      | in-empty w ↦ absurd (c.requires.some (nil_from_length clause (omega (arith, w.in-empty.len_below))))
      | in-len1 w ↦
          let l = w.single-item.result in
          let in_range = subst (λ (m : Literal). m.variable ≤ c.args.self.now.trail.variables) (sym w.single-item.is)
          (c.requires.over_variables.in_range 0 l w.in-len1.len_at_least).1 in
          let in_view = subst (λ (old : SearchState). l.variable ≤ old.trail.variables) (sym c.self.view_is) in_range in
          let within : code_of l < length s.singles = omega (arith, c.self.invariant.singles, code_within s.trail.variables l in_view) in
          let single = at ∙ only_one clause l w.in-len1.len_at_least w.in-len1.len_below w.single-item.is in
          subst (λ (i : Inside). IsWatching clauses (the_view (record i { watched = number }))) (sym w.self-inside-is)
          (subst (λ (code : ℕ). IsWatching clauses (record s { singles = set s.singles code number; watched = number })) (sym w.code_of.ensures)
          (watching_single clauses s number next to l single within before))
      | in-len2-up+in_ok-watch-in-len2-up w ↦
          let one = w.one-item.result in
          let other = w.other-item.result in
          let has_first = subst (λ ls. Contains ls one) (sym at) (has_one clause 0 one (omega (arith, w.in-len2-up.len_at_least)) w.one-item.is) in
          let has_second = subst (λ ls. Contains ls other) (sym at) (has_one clause 1 other (omega (arith, w.in-len2-up.len_at_least)) w.other-item.is) in
          let apart =
          two_apart c.args.self.now.trail.variables clause one other c.requires.over_variables w.in-len2-up.len_at_least w.one-item.is w.other-item.is in
          let ensures = w.in_ok-watch-in-len2-up.ensures in
          subst (λ (i : Inside). IsWatching clauses (the_view (record i { watched = number }))) (sym w.self-inside-is)
          (watching_pair clauses s number next to w.watch.new.self one other has_first has_second apart ensures.pair ensures.other_pairs ensures.watches before)
    ]
