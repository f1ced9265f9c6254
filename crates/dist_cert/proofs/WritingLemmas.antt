-- What a refusal leaves, and how a first line is put together.
use Rattle.std.proofs.Common.{◌≡◌, ℕ, List, [], ◌++◌, refl, arith, append_assoc}
use Rattle.dist_outside.specs.DeskView.{DeskView, FileGrew, FileGrewByFront}

-- a file that took nothing took a front of any bytes
pub nothing_is_front : (bytes : List ℕ) (old new : DeskView) → FileGrew [] old new → FileGrewByFront bytes old new
nothing_is_front bytes old new grew = record {
  front = [];
  is_front = record { count = 0; within = omega arith; is = refl };
  grew = grew;
}

-- five pieces that were added one after another are one
pub five_pieces : (t0 a b c d e : List ℕ) (t1 t2 t3 t4 t5 : List ℕ) → t1 ≡ t0 ++ a → t2 ≡ t1 ++ b → t3 ≡ t2 ++ c → t4 ≡ t3 ++ d → t5 ≡ t4 ++ e
    → t5 ≡ t0 ++ (a ++ (b ++ (c ++ (d ++ e))))
five_pieces t0 a b c d e t1 t2 t3 t4 t5 e1 e2 e3 e4 e5 = rw e5 (rw e4 (rw e3 (rw e2 (rw e1 (simp append_assoc refl)))))
