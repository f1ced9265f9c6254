-- Worked examples: a package that needs a later version of another one. The space of these two packages has 11
-- variables and 16 clauses; a counter of their two clusters, to none, adds four variables and seven clauses.
use Rattle.std.specs.Prelude.{◌≡◌, ℕ, List, [], ◌∷◌, codes, refl}
use Rattle.std.specs.Fmt.{digits}
use Rattle.dist_cert.specs.FirstLines.{first_line}
use Rattle.dist_repair.specs.Counters.{Counter, counted_variables, moved, more}
use Rattle.dist_repair.specs.RepairFiles.{asked_by}

-- its first line, with the limit, the packages, variables and clauses, the second package, and a counter to none
abbrev pub example_numbers : List ℕ
example_numbers = 10000 ∷ 2 ∷ 15 ∷ 23 ∷ 2 ∷ 0 ∷ []

pub example-heading : first_line (codes "distfuture-repair 1") example_numbers
    ≡ codes "distfuture-repair 1 10000 2 15 23 2 0"
unfolding digits
example-heading = refl

pub example-asked : asked_by example_numbers ≡ record { number = 1; most = 0 }
example-asked = refl

-- its variables: two that a cluster has moved, and two that more than none have
abbrev pub example_counter : Counter
example_counter = record { last = 11; clusters = 2; most = 0 }

pub example-variables : counted_variables example_counter ≡ 15
example-variables = refl

pub example-moved : moved example_counter 1 ≡ 13
example-moved = refl

pub example-more : more example_counter 1 0 ≡ 15
example-more = refl
