-- Lines that are read one after another.
use Rattle.std.proofs.Common.{◌≡◌, ℕ, ◌+◌, List, [], ◌∷◌, ◌++◌, refl, sym, ap, ◌∙◌, arith, append_assoc}
use Rattle.std.specs.Prelude.{All}
use Rattle.std.proofs.lemmas.List.{append-nil}
use Rattle.std.proofs.lemmas.List.Elements.{All-nil, All-push, All-same, filter-append}
use Rattle.dist_control.specs.Lines.{lines}
use Rattle.dist_bench.specs.FirstLine.{IsFirstFault}
use Rattle.dist_bench.specs.Relations.{CountsLine, CountsLines, IsRead}
use Rattle.dist_bench.specs.Versions.{AddsLine, AreVersions, IsVersionLine, written}
use Rattle.dist_bench.specs.declared.relations.Kind.{Kind}
use Rattle.dist_bench.specs.declared.relations.Kind.TheVariants.{Depends, Conflicts, Provides}

-- the lines of a text before its rest
pub record AreDone (text rest : List ℕ) (Reads : List ℕ → Type 0) (done : List (List ℕ)) : Type 0 where
  pub pieces : lines text ≡ done ++ lines rest
  pub read : All Reads done

pub done-none : (text : List ℕ) (Reads : List ℕ → Type 0) → AreDone text text Reads []
done-none text Reads = record { pieces = refl; read = All-nil Reads }

pub done-more : (text rest line after : List ℕ) (Reads : List ℕ → Type 0) (done : List (List ℕ)) → AreDone text rest Reads done
    → lines rest ≡ line ∷ lines after → Reads line → AreDone text after Reads (done ++ line ∷ [])
done-more text rest line after Reads done before split reads = record {
  pieces = before.pieces ∙ ap (λ list. done ++ list) split ∙ sym (append_assoc done (line ∷ []) (lines after));
  read = All-push Reads done line before.read reads;
}

pub done-all : (text : List ℕ) (Reads : List ℕ → Type 0) (done : List (List ℕ)) → AreDone text [] Reads done → done ≡ lines text
done-all text Reads done before = sym (before.pieces ∙ append-nil done)

pub first-fault : {E : Type 0} (text rest line after : List ℕ) (Reads : List ℕ → Type 0) (HasFault : List ℕ → E → Type 0) (done : List (List ℕ)) (fault : E)
    → AreDone text rest Reads done → lines rest ≡ line ∷ lines after → HasFault line fault → IsFirstFault text Reads HasFault fault
first-fault text rest line after Reads HasFault done fault before split has = record {
  before = done;
  line = line;
  after = lines after;
  pieces = before.pieces ∙ ap (λ list. done ++ list) split;
  read = before.read;
  has = has;
}

-- ---- versions

pub record VersionsSoFar (text rest : List ℕ) (versions : List (List ℕ)) : Type 0 where
  pub done : List (List ℕ)
  pub are : AreDone text rest IsVersionLine done
  pub is : versions ≡ written done

pub versions-none : (text : List ℕ) (versions : List (List ℕ)) → versions ≡ [] → VersionsSoFar text text versions
versions-none text versions none = record { done = []; are = done-none text IsVersionLine; is = none }

pub versions-more : (text rest line after : List ℕ) (old new : List (List ℕ)) → VersionsSoFar text rest old → lines rest ≡ line ∷ lines after
    → AddsLine line old new → VersionsSoFar text after new
versions-more text rest line after old new so_far split adds = record {
  done = so_far.done ++ line ∷ [];
  are = done-more text rest line after IsVersionLine so_far.done so_far.are split adds.reads;
  is = adds.added ∙ ap (λ list. list ++ written (line ∷ [])) so_far.is ∙ sym (filter-append _ so_far.done (line ∷ []));
}

pub versions-all : (text : List ℕ) (versions : List (List ℕ)) → VersionsSoFar text [] versions → AreVersions text versions
versions-all text versions so_far =
    let all : so_far.done ≡ lines text = done-all text IsVersionLine so_far.done so_far.are in
    record { each = All-same IsVersionLine (lines text) so_far.done (sym all) so_far.are.read; are = so_far.is ∙ ap written all }

-- ---- counts

pub counts-more : (kind : Kind) (done : List (List ℕ)) (line : List ℕ) (number first : ℕ) → CountsLines kind done number → CountsLine kind line first
    → CountsLines kind (done ++ line ∷ []) (number + first)
counts-more kind [] line number first none one = (first, 0, one, refl, omega (arith, none))
counts-more kind (head ∷ done) line number first (m, k, here, rest, is) one =
    (m, k + first, here, counts-more kind done line k first rest one, omega (arith, is))

-- each field of a line was read
pub reads : (line : List ℕ) (d k p : ℕ) → CountsLine Depends line d → CountsLine Conflicts line k → CountsLine Provides line p → IsRead line
reads line d k p first second third Depends = (d, first)
reads line d k p first second third Conflicts = (k, second)
reads line d k p first second third Provides = (p, third)
