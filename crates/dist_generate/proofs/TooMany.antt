-- A generated text of more stanzas than a limit has too many.
use Rattle.std.proofs.Common.{◌≡◌, ℕ, zero, suc, ◌<◌, List, [], ◌∷◌, ◌++◌, length, refl, ap, arith}
use Rattle.dist_control.specs.RawStanza.{RawStanza}
use Rattle.dist_package.specs.FirstFault.{Read, AreReadAfter, IsTooMany}

-- so many stanzas are read, and there is one more
record Cut (earlier : List Read) (raws : List RawStanza) (count : ℕ) : Type 0 where
  before : List RawStanza
  raw : RawStanza
  after : List RawStanza
  reads : List Read
  pieces : raws ≡ before ++ raw ∷ after
  read : AreReadAfter earlier before reads
  long : length reads ≡ count

cut-at : (count : ℕ) (earlier : List Read) (raws : List RawStanza) (reads : List Read) → AreReadAfter earlier raws reads → count < length reads
    → Cut earlier raws count
cut-at count earlier [] [] are short = absurd (omega arith)
cut-at count earlier [] (read ∷ reads) are short = absurd are
cut-at count earlier (raw ∷ raws) [] are short = absurd are
cut-at zero earlier (raw ∷ raws) (read ∷ reads) are short = record { before = []; raw = raw; after = raws; reads = []; pieces = refl; read = tt; long = refl }
cut-at (suc count) earlier (raw ∷ raws) (read ∷ reads) are short =
    let cut = cut-at count (earlier ++ read ∷ []) raws reads are.1 (omega arith) in
    record {
      before = raw ∷ cut.before;
      raw = cut.raw;
      after = cut.after;
      reads = read ∷ cut.reads;
      pieces = ap (λ (t : List RawStanza). raw ∷ t) cut.pieces;
      read = (are.0, cut.read);
      long = ap suc cut.long;
    }

-- where all stanzas are read, and are more than the limit, there are too many
pub too-many : (raws : List RawStanza) (reads : List Read) (limit : ℕ) → AreReadAfter [] raws reads → limit < length reads → IsTooMany raws limit
too-many raws reads limit are short =
    let cut = cut-at limit [] raws reads are short in
    record {
      raw = cut.raw;
      reads = cut.reads;
      up_to = record { before = cut.before; after = cut.after; pieces = cut.pieces; read = cut.read };
      at_limit = cut.long;
    }
