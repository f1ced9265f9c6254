use Rattle.std.specs.Prelude.{◌≡◌, ◌+◌, take}
use Rattle.dist_base.specs.declared.TheConstants.{MAX_RELATIONS}
use Rattle.dist_repo.specs.Size.{relation_count}
use Rattle.dist_repo.proofs.size.has_few_relations.Given as goal

-- the packages so far were taken off
abbrev pub invariant-loop-key : goal.invariant-loop-key
invariant-loop-key l = l.left + relation_count (take l.key-index l.packages) ≡ MAX_RELATIONS
