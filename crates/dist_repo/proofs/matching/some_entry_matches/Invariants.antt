use Rattle.std.specs.List.{AllWithin}
use Rattle.dist_relation.specs.declared.atom.Provide.{Provide}
use Rattle.dist_repo.specs.Match.{MatchesByEntry}
use Rattle.dist_repo.proofs.matching.some_entry_matches.Given as goal

abbrev pub invariant-loop-place : goal.invariant-loop-place
invariant-loop-place l = AllWithin (λ (entry : Provide). ¬ MatchesByEntry l.architecture l.atom entry) l.provides 0 l.place
