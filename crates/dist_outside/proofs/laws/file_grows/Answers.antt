use Rattle.dist_outside.proofs.Growing.{FileGrew-nothing, FileGrew-then}
use Rattle.dist_outside.proofs.Composing.{files_stay, FileGrewByFront-whole, FileGrewByFront-cut, FileGrewByFront-longer}
use Rattle.dist_outside.proofs.laws.file_grows.Goals as goal

pub returns : goal.returns
returns c = record {
  begin = FileGrew-nothing;
  nothing = files_stay;
  twice = FileGrew-then;
  whole = FileGrewByFront-whole;
  cut = FileGrewByFront-cut;
  longer = FileGrewByFront-longer;
}
