use Rattle.std.proofs.Common.{[], ◌∷◌, ◌++◌, ap, sym, ◌∙◌}
use Rattle.dist_solver.specs.Kept.{lines_kept}
use Rattle.dist_solver.specs.declared.lines.Line.{Line}
use Rattle.dist_solver.proofs.KeptLemmas.{kept_under, kept_more, whatever_err}
use Rattle.dist_solver.proofs.lines.Derived.push.Goals as goal

pub returns-in_err-push-2-clause-err : goal.returns-in_err-push-2-clause-err
returns-in_err-push-2-clause-err c =
    let hints = c.self.inside.hints in
    let lines = c.self.inside.lines.items in
    whatever_err c.from_residual-in_err-push-2.result
    (ap (λ hs. lines_kept hs c.push-2.new.self.items) c.in_ok-push.ensures.ok
    ∙ (ap (λ ls. lines_kept (hints ++ c.args.hints.now ∷ []) ls) c.in_err-push-2.ensures.items
    ∙ (kept_under hints (c.args.hints.now ∷ []) lines c.self.invariant ∙ c.self.view_is)))

pub returns-clause-ok : goal.returns-clause-ok
returns-clause-ok c =
    let hints = c.self.inside.hints in
    let lines = c.self.inside.lines.items in
    let line : Line = record { number = c.args.number; place = c.len-place.result } in
    ap (λ hs. lines_kept hs c.push-2.new.self.items) c.in_ok-push.ensures.ok
    ∙ (ap (λ ls. lines_kept (hints ++ c.args.hints.now ∷ []) ls) c.in_ok-push-2.ensures.items
    ∙ (kept_more hints c.args.hints.now lines line c.self.invariant (sym c.len-place.ensures)
    ∙ ap (λ ds. ds ++ record { line = c.args.number; hints = c.args.hints.now } ∷ []) c.self.view_is))
