use Rattle.std.proofs.Common.{◌≡◌, ◌++◌, take}
use Rattle.std.specs.List.{flat_map}
use Rattle.dist_report.specs.ClassTablePrivate.{place_lines}
use Rattle.dist_report.proofs.challenged_report.write_places.Given as goal

abbrev pub invariant-loop-place : goal.invariant-loop-place
invariant-loop-place l = l.out.items ≡ l.fn.out.items
    ++ flat_map (place_lines l.labels.packages l.table.clusters.members l.table.classes.items l.table.row l.lists) (take l.place-index l.places)
