use Rattle.dist_derive.proofs.HintLaws.{follows_more, each_line_more}
use Rattle.dist_derive.proofs.laws.more_clauses_keep_what_follows.Goals as goal

pub returns : goal.returns
returns c = record { follows = follows_more; lines = each_line_more }
