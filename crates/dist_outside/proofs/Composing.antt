-- What several calls of a sink or a desk do, one after another.
use Rattle.std.proofs.Common.{◌≡◌, ℕ, ◌+◌, List, [], ◌++◌, length, Option, Some, None, refl, ap, sym, ◌∙◌, arith, length-append}
use Rattle.std.proofs.lemmas.List.{take-append-le}
use Rattle.std.proofs.Math.Seq.{take-append-add, take-length}
use Rattle.std.specs.FinMap.{insert}
use Rattle.dist_base.specs.Front.{IsFrontOf}
use Rattle.dist_outside.specs.SinkView.{SinkView, Grew, GrewByFront}
use Rattle.dist_outside.specs.Files.{Files, Mode, Idle, Writing, where_told, with_file, with_more, appended_to}
use Rattle.dist_outside.specs.DeskView.{DeskView, WriteCounts, Holds, FileGrew, FileGrewByFront, Closed}
use Rattle.dist_outside.proofs.Files.{with_more_nothing, insert-insert, get-insert_same}
use Rattle.dist_outside.proofs.Growing.{grown-nothing, Grew-then, FileGrew-then}

IsFrontOf-whole : (bytes : List ℕ) → IsFrontOf bytes bytes
IsFrontOf-whole bytes = record { count = length bytes; within = omega arith; is = sym (take-length bytes) }

IsFrontOf-cut : (first second front : List ℕ) → IsFrontOf second front → IsFrontOf (first ++ second) (first ++ front)
IsFrontOf-cut first second front cut = record {
  count = length first + cut.count;
  within = omega (arith, length-append first second, cut.within);
  is = ap (λ s. first ++ s) cut.is ∙ sym (take-append-add first second cut.count);
}

IsFrontOf-longer : (first second front : List ℕ) → IsFrontOf first front → IsFrontOf (first ++ second) front
IsFrontOf-longer first second front cut = record {
  count = cut.count;
  within = omega (arith, length-append first second, cut.within);
  is = cut.is ∙ sym (take-append-le cut.count first second cut.within);
}

pub written_stays : (old new : SinkView) → Grew [] old new → new.written ≡ old.written
written_stays old new grew = grew.appended ∙ grown-nothing old.written

pub GrewByFront-whole : (bytes : List ℕ) (old new : SinkView) → Grew bytes old new → GrewByFront bytes old new
GrewByFront-whole bytes old new grew = record { front = bytes; is_front = IsFrontOf-whole bytes; grew = grew }

pub GrewByFront-cut : (first second : List ℕ) (old mid new : SinkView) → Grew first old mid → GrewByFront second mid new → GrewByFront (first ++ second) old new
GrewByFront-cut first second old mid new before cut = record {
  front = first ++ cut.front;
  is_front = IsFrontOf-cut first second cut.front cut.is_front;
  grew = Grew-then first cut.front old mid new before cut.grew;
}

pub GrewByFront-longer : (first second : List ℕ) (old new : SinkView) → GrewByFront first old new → GrewByFront (first ++ second) old new
GrewByFront-longer first second old new cut = record { front = cut.front; is_front = IsFrontOf-longer first second cut.front cut.is_front; grew = cut.grew }

pub files_stay : (old new : DeskView) → FileGrew [] old new → new.files ≡ old.files
files_stay old new grew = grew.appended ∙ with_more_nothing old.files old.mode

pub FileGrewByFront-whole : (bytes : List ℕ) (old new : DeskView) → FileGrew bytes old new → FileGrewByFront bytes old new
FileGrewByFront-whole bytes old new grew = record { front = bytes; is_front = IsFrontOf-whole bytes; grew = grew }

pub FileGrewByFront-cut : (first second : List ℕ) (old mid new : DeskView) → FileGrew first old mid → FileGrewByFront second mid new
    → FileGrewByFront (first ++ second) old new
FileGrewByFront-cut first second old mid new before cut = record {
  front = first ++ cut.front;
  is_front = IsFrontOf-cut first second cut.front cut.is_front;
  grew = FileGrew-then first cut.front old mid new before cut.grew;
}

pub FileGrewByFront-longer : (first second : List ℕ) (old new : DeskView) → FileGrewByFront first old new → FileGrewByFront (first ++ second) old new
FileGrewByFront-longer first second old new cut = record { front = cut.front; is_front = IsFrontOf-longer first second cut.front cut.is_front; grew = cut.grew }

counts-then : (a b c : DeskView) → WriteCounts a b → WriteCounts b c → WriteCounts a c
counts-then a b c first second = record {
  read_faults_stay = second.read_faults_stay ∙ first.read_faults_stay;
  write_faults_stand = omega arith;
}

-- a file that was put there, and then grew
file-more : (told : Option Files) (name s t : List ℕ)
    → with_more (with_file told name s) (Writing (where_told told name)) t ≡ with_file told name (s ++ t)
file-more None name s t = refl
file-more (Some files) name s t = ap Some (
    ap (λ found. appended_to (insert files name s) name found t) (get-insert_same files name s)
    ∙ insert-insert files name s (s ++ t))

pub Holds-more : (name first second : List ℕ) (old mid new : DeskView) → Holds name first (Writing (where_told old.files name)) old mid
    → FileGrew second mid new
    → Holds name (first ++ second) (Writing (where_told old.files name)) old new
Holds-more name first second old mid new held grew = record {
  files = grew.appended
      ∙ ap (λ mode. with_more mid.files mode second) held.mode_is
      ∙ ap (λ told. with_more told (Writing (where_told old.files name)) second) held.files
      ∙ file-more old.files name first second;
  mode_is = grew.mode_stays ∙ held.mode_is;
  counts = counts-then old mid new held.counts grew.counts;
}

pub Holds-closed : (name bytes : List ℕ) (mode : Mode) (old mid new : DeskView) → Holds name bytes mode old mid → Closed mid new → Holds name bytes Idle old new
Holds-closed name bytes mode old mid new held closed = record {
  files = closed.files_stay ∙ held.files;
  mode_is = closed.idle;
  counts = counts-then old mid new held.counts closed.counts;
}
