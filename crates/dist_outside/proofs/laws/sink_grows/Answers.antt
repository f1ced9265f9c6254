use Rattle.dist_outside.proofs.Growing.{Grew-nothing, Grew-then}
use Rattle.dist_outside.proofs.Composing.{written_stays, GrewByFront-whole, GrewByFront-cut, GrewByFront-longer}
use Rattle.dist_outside.proofs.laws.sink_grows.Goals as goal

pub returns : goal.returns
returns c = record {
  begin = Grew-nothing;
  nothing = written_stays;
  twice = Grew-then;
  whole = GrewByFront-whole;
  cut = GrewByFront-cut;
  longer = GrewByFront-longer;
}
