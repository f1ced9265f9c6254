use Rattle.std.proofs.Common.{◌≡◌, drop}
use Rattle.std.specs.FinMap.{get}
use Rattle.dist_outside.specs.KeptPrivate.{files_of}
use Rattle.dist_outside.proofs.named_files.newest.Given as goal

-- none of the files so far has the name
abbrev pub invariant-loop-file : goal.invariant-loop-file
invariant-loop-file l = get (files_of (drop l.file-index l.files)) l.name ≡ get (files_of l.files) l.name
