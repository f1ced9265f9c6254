use Rattle.dist_derive.proofs.SafeLaws.{point_new, point_follows_new, follows_not_denied}
use Rattle.dist_derive.proofs.laws.first_points_are_new.Goals as goal

pub returns : goal.returns
returns c = record { unset = point_new; follows = point_follows_new; not_denied = follows_not_denied }
