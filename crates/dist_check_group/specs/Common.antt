-- What is common to several lists.
use Rattle.std.specs.Prelude.{ℕ, List, Option, Some, None, filter, if◌then◌else◌}
use Rattle.dist_cert.specs.Rising.{is_among}

-- the numbers that are in the members too
abbrev pub narrowed : Option (List ℕ) → List ℕ → List ℕ
narrowed None members = members
narrowed (Some common) members = filter (is_among members) common

-- what is common with one more installation, which counts where it has the package
abbrev pub common_with : ℕ → List ℕ → Option (List ℕ) → Option (List ℕ)
common_with p members common = if is_among members p then Some (narrowed common members) else common
