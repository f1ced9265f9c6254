use Rattle.std.proofs.Common.{List, ℕ, [], ◌∷◌, ◌++◌, arith}
use Rattle.dist_bench.proofs.LinesRead.{counts-more, done-more, reads}
use Rattle.dist_bench.specs.Relations.{IsRead}
use Rattle.dist_bench.specs.declared.relations.Kind.TheVariants.{Depends, Conflicts, Provides}
use Rattle.dist_bench.proofs.relations.counts_of.Goals as goal

pub loop-rest-preserved : goal.loop-rest-preserved
loop-rest-preserved c =
    let before = c.loop-rest.invariant in
    let line : List ℕ = c.split_line.result.0.now in
    let shorter = c.split_line.ensures.shorter in
    let first = before.fits.0 in
    let second = before.fits.1 in
    let third = before.fits.2 in
    record {
      done = before.done ++ line ∷ [];
      are = done-more _ _ line _ IsRead before.done before.are c.split_line.ensures.lines
          (reads line _ _ _ c.in_ok-dependencies.ensures c.in_ok-conflicts.ensures c.in_ok-provided.ensures);
      dependencies = counts-more Depends before.done line _ _ before.dependencies c.in_ok-dependencies.ensures;
      conflicts = counts-more Conflicts before.done line _ _ before.conflicts c.in_ok-conflicts.ensures;
      provided = counts-more Provides before.done line _ _ before.provided c.in_ok-provided.ensures;
      fits = (omega (arith, first, shorter), omega (arith, second, shorter), omega (arith, third, shorter));
    }
