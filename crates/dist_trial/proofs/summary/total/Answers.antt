use Rattle.std.proofs.Common.{◌≡◌, ◌∙◌, ℕ, ◌+◌, List, Some, ap, arith, slice_get, take}
use Rattle.std.proofs.lemmas.List.Sums.{sum_by_more}
use Rattle.std.proofs.lemmas.Option.{get_or_from_slice_get, slice_get_within}
use Rattle.std.specs.Prelude.{sum_by}
use Rattle.dist_cert.specs.declared.records.Claim.{Claim}
use Rattle.dist_trial.specs.FiguresPrivate.{figure_in}
use Rattle.dist_trial.proofs.summary.total.Goals as goal

one-more : (f : Claim → ℕ) (made : List Claim) (place : ℕ) (claim : Claim) → slice_get made place ≡ Some claim
    → sum_by f (take (place + 1) made) ≡ sum_by f (take place made) + f claim
one-more f made place claim is =
    sum_by_more f made place claim (slice_get_within made place claim is)
    ∙ ap (λ (x : Claim). sum_by f (take place made) + f x) (get_or_from_slice_get made place claim claim is)

pub loop-place-preserved : goal.loop-place-preserved
loop-place-preserved c = record {
  upto = omega (
    arith,
    c.loop-place.invariant.upto,
    c.figure_of.ensures,
    one-more (figure_in c.args.figure) c.args.claims.now c.loop-place.place c.get.result.now c.get.ensures,
  );
  fits = omega (arith, c.loop-place.invariant.fits, c.figure_of.type_inv);
}
