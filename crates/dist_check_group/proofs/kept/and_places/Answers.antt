use Rattle.dist_check_group.proofs.KeptLemmas.{places-both}
use Rattle.dist_check_group.proofs.kept.and_places.Goals as goal

pub returns-clause-narrowed : goal.returns-clause-narrowed
returns-clause-narrowed c = λ _. places-both c.args.row.now c.args.others.now c.and_into.new.self c.and_into.ensures.len c.and_into.ensures.each
