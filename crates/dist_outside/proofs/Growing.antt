-- Sinks and files that take one piece after another.
use Rattle.std.proofs.Common.{◌≡◌, ℕ, ◌+◌, ◌≤◌, List, [], ◌++◌, length, take, drop, Option, Some, None, refl, ap, sym, subst, ◌∙◌, append_assoc, arith}
use Rattle.std.proofs.lemmas.List.{append-nil}
use Rattle.std.proofs.Math.Seq.{take-add}
use Rattle.dist_outside.specs.Told.{grown}
use Rattle.dist_outside.specs.SinkView.{SinkView, Grew, GrewByFront}
use Rattle.dist_outside.specs.Files.{with_more}
use Rattle.dist_outside.specs.DeskView.{DeskView, WriteCounts, FileGrew, FileGrewByFront}
use Rattle.dist_outside.proofs.Files.{with_more_nothing, with_more-with_more}

grown-grown : (told : Option (List ℕ)) (s t : List ℕ) → grown (grown told s) t ≡ grown told (s ++ t)
grown-grown None s t = refl
grown-grown (Some bytes) s t = ap Some (append_assoc bytes s t)

pub grown-nothing : (told : Option (List ℕ)) → grown told [] ≡ told
grown-nothing None = refl
grown-nothing (Some bytes) = ap Some (append-nil bytes)

pub Grew-nothing : (sink : SinkView) → Grew [] sink sink
Grew-nothing sink = record { appended = sym (grown-nothing sink.written); faults_stand = omega arith; wants_stand = omega arith }

-- what was taken in two steps was taken in one
pub Grew-then : (s t : List ℕ) (a b c : SinkView) → Grew s a b → Grew t b c → Grew (s ++ t) a c
Grew-then s t a b c first second = record {
  appended = second.appended ∙ ap (λ told. grown told t) first.appended ∙ grown-grown a.written s t;
  faults_stand = omega arith;
  wants_stand = omega arith;
}

-- a front was taken, and then a front of what was left
pub Grew-more : (bytes : List ℕ) (done count : ℕ) (a b c : SinkView) → Grew (take done bytes) a b → Grew (take count (drop done bytes)) b c
    → Grew (take (done + count) bytes) a c
Grew-more bytes done count a b c first second =
    subst (λ s. Grew s a c) (sym (take-add done count bytes)) (Grew-then (take done bytes) (take count (drop done bytes)) a b c first second)

-- a front was taken, and then nothing
pub grew_by_front : (bytes : List ℕ) (done : ℕ) (a b c : SinkView) → done ≤ length bytes → Grew (take done bytes) a b → Grew [] b c
    → GrewByFront bytes a c
grew_by_front bytes done a b c within first second = record {
  front = take done bytes ++ [];
  is_front = record { count = done; within = within; is = append-nil (take done bytes) };
  grew = Grew-then (take done bytes) [] a b c first second;
}

pub FileGrew-nothing : (desk : DeskView) → FileGrew [] desk desk
FileGrew-nothing desk = record {
  appended = sym (with_more_nothing desk.files desk.mode);
  mode_stays = refl;
  counts = record { read_faults_stay = refl; write_faults_stand = omega arith };
}

-- the files, the mode and the count of reading are as before
pub file_grew_nothing : (old new : DeskView) → new.files ≡ old.files → new.mode ≡ old.mode → WriteCounts old new → FileGrew [] old new
file_grew_nothing old new files mode counts = record {
  appended = files ∙ sym (with_more_nothing old.files old.mode);
  mode_stays = mode;
  counts = counts;
}

pub FileGrew-then : (s t : List ℕ) (a b c : DeskView) → FileGrew s a b → FileGrew t b c → FileGrew (s ++ t) a c
FileGrew-then s t a b c first second = record {
  appended = second.appended
      ∙ ap (λ mode. with_more b.files mode t) first.mode_stays
      ∙ ap (λ told. with_more told a.mode t) first.appended
      ∙ with_more-with_more a.files a.mode s t;
  mode_stays = second.mode_stays ∙ first.mode_stays;
  counts = record {
    read_faults_stay = second.counts.read_faults_stay ∙ first.counts.read_faults_stay;
    write_faults_stand = omega (arith, first.counts.write_faults_stand, second.counts.write_faults_stand);
  };
}

pub FileGrew-more : (bytes : List ℕ) (done count : ℕ) (a b c : DeskView) → FileGrew (take done bytes) a b → FileGrew (take count (drop done bytes)) b c
    → FileGrew (take (done + count) bytes) a c
FileGrew-more bytes done count a b c first second =
    subst (λ s. FileGrew s a c) (sym (take-add done count bytes)) (FileGrew-then (take done bytes) (take count (drop done bytes)) a b c first second)

pub file_grew_by_front : (bytes : List ℕ) (done : ℕ) (a b c : DeskView) → done ≤ length bytes → FileGrew (take done bytes) a b → FileGrew [] b c
    → FileGrewByFront bytes a c
file_grew_by_front bytes done a b c within first second = record {
  front = take done bytes ++ [];
  is_front = record { count = done; within = within; is = append-nil (take done bytes) };
  grew = FileGrew-then (take done bytes) [] a b c first second;
}
