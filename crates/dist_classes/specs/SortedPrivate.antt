-- How cuts are taken from version texts in order: the first of those that are equal, and none that isn't above `low`.
-- No public clause cites it.
use Rattle.std.specs.Prelude.{ℕ, List, [], ◌∷◌, if◌then◌else◌}
use Rattle.std.specs.Cmp.{IsTotalOrder}
use Rattle.std.specs.Cmp.Lexicographic.{slice_cmp}
use Rattle.std.specs.Ordering.{nat_cmp, ordering_then, is_gt}
use Rattle.std.specs.declared.cmp.Ordering.{Ordering}
use Rattle.std.proofs.lemmas.Cmp.{nat_list_cmp_total, then_total}
use Rattle.dist_version.specs.Order.{version_cmp}
use Rattle.dist_version.specs.OrderLaws.{version_total}

-- by version, and equal versions by their texts
abbrev pub text_cmp : List ℕ → List ℕ → Ordering
text_cmp a b = ordering_then (version_cmp a b) (slice_cmp nat_cmp a b)

pub text_total : IsTotalOrder text_cmp
text_total = then_total version_total nat_list_cmp_total

abbrev pub cuts_after : List ℕ → List (List ℕ) → List (List ℕ)
cuts_after low [] = []
cuts_after low (v ∷ versions) = if is_gt (version_cmp v low) then v ∷ cuts_after v versions else cuts_after low versions

abbrev pub cuts_of : List (List ℕ) → List (List ℕ)
cuts_of [] = []
cuts_of (v ∷ versions) = v ∷ cuts_after v versions
