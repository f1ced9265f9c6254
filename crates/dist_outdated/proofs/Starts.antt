-- What the claimant keeps before the first line behind the header.
use Rattle.std.proofs.Common.{◌≡◌, inl, inr, ℕ, List, [], length, replicate, arith}
use Rattle.std.specs.Prelude.{slice_index}
use Rattle.std.proofs.Math.ListN.{get_or-eq_default}
use Rattle.std.proofs.lemmas.Bool.{cases_lt}
use Rattle.std.proofs.lemmas.List.{get_or-replicate, length-replicate}
use Rattle.dist_cert.specs.declared.records.CertKind.TheVariants.{Outdated}
use Rattle.dist_space.specs.Space.{SpaceView, variable_of}
use Rattle.dist_space.specs.declared.meaning.Meaning.TheVariants.{Present}
use Rattle.dist_sweep.specs.Script.{Setting}
use Rattle.dist_sweep.specs.Futures.{IsOfSpace}
use Rattle.dist_outdated.specs.OutdatedPrivate.{IsLatestWith, KeepsOutdated}

-- a list of zeros has nothing else
pub only-zeros : (n k : ℕ) → slice_index (replicate n 0) k ≡ 0
only-zeros n k =
    let zeros : List ℕ = replicate n 0 in
    elim (cases_lt k n) [
      | inl within ↦ get_or-replicate n k 0 0 within
      | inr past ↦ get_or-eq_default zeros 0 (let size : length zeros ≡ n = length-replicate n 0 in omega
          (arith, size, past))
    ]

none-latest : (variable number : ℕ) → number ≡ 0 → IsLatestWith [] variable number
none-latest variable number is = record {
  upto = omega (arith, is);
  has = λ from. absurd (omega (arith, is, from));
  none_later = λ later above within. absurd (omega (arith, above, within));
}

-- before the first line behind the header no installation has a package
pub outdated-starts : (g : Setting) (s : SpaceView) (n : ℕ) → IsOfSpace Outdated s g
    → KeepsOutdated g [] (record { space = s; latest = replicate n 0 })
outdated-starts g s n of_space = record {
  of_space = of_space;
  latest = λ r within. none-latest (variable_of s (Present r)) (slice_index (replicate n 0) r) (only-zeros n r);
}
