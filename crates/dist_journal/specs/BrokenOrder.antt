-- The order of packages that clusters break.
use Rattle.std.specs.Prelude.{◌≡◌, ◌⊎◌, ◌<◌}
use Rattle.dist_journal.specs.declared.broken_list.Broken.{Broken}

-- clusters rise, and the packages of one cluster
abbrev pub StandsBefore : Broken → Broken → Type 0
StandsBefore a b = (a.cluster < b.cluster) ⊎ ((a.cluster ≡ b.cluster) × (a.package_ < b.package_))
