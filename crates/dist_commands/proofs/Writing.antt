-- Texts that are written in pieces.
use Rattle.std.proofs.Common.{◌≡◌, ℕ, zero, ◌≤◌, ◌<◌, suc, inl, inr, List, [], ◌∷◌, ◌++◌, length, take, drop, get_or, refl, ap, sym, ◌∙◌, append_assoc, subst}
use Rattle.std.proofs.Common.{Bor, Result, Ok, Err, OnOk, OnErr, IfErr, arith}
use Rattle.dist_commands.specs.Writes.{Writes}
use Rattle.std.specs.List.{flat_map}
use Rattle.std.proofs.lemmas.Bool.{cases_lt}
use Rattle.dist_outside.specs.Counts.{Rose}
use Rattle.dist_outside.specs.SinkView.{SinkView, Grew, GrewByFront, WriteCause}
use Rattle.dist_outside.specs.declared.trouble.WorkError.{WorkError}
use Rattle.dist_outside.specs.declared.trouble.WorkError.TheVariants.{ReadFault, WriteFault, TooLarge, NoMemory}

-- a count that rose since a later moment rose since an earlier one
pub rose_earlier : (a b c : ℕ) → a ≤ b → b ≤ c → Rose b c → Rose a c
rose_earlier a b c before after (inl rose) = inl (omega arith)
rose_earlier a b c before after (inr end) =
    elim (cases_lt a c) [ inl less ↦ inl less | inr not_less ↦ inr (omega (arith, end, before, after, not_less)) ]

-- a cause of a later writing is one of both
pub cause_earlier : (error : WorkError) (bytes : List ℕ) (old mid new : SinkView) → Grew bytes old mid → mid.faults ≤ new.faults → mid.wants ≤ new.wants
    → WriteCause error mid new → WriteCause error old new
cause_earlier WriteFault bytes old mid new grew faults wants cause = rose_earlier old.faults mid.faults new.faults grew.faults_stand faults cause
cause_earlier NoMemory bytes old mid new grew faults wants cause = rose_earlier old.wants mid.wants new.wants grew.wants_stand wants cause
cause_earlier ReadFault bytes old mid new grew faults wants cause = absurd cause
cause_earlier (TooLarge what) bytes old mid new grew faults wants cause = absurd cause

-- all pieces, cut at one of them
pub pieces_split : {X : Type 0} (f : X → List ℕ) (xs : List X) (i : ℕ) (d : X) → i < length xs
    → (flat_map f (take i xs) ++ f (get_or xs i d)) ++ flat_map f (drop (suc i) xs) ≡ flat_map f xs
pieces_split f [] i d h = absurd (omega arith)
pieces_split f (x ∷ xs) zero d h = refl
pieces_split f (x ∷ xs) (suc i) d h = simp append_assoc (ap (λ (t : List ℕ). f x ++ t)
    (sym (append_assoc (flat_map f (take i xs)) (f (get_or xs i d)) (flat_map f (drop (suc i) xs))) ∙ pieces_split f xs i d (omega arith)))

-- The pieces before one were written, and that one was cut off: a front of them all was written.
pub pieces_cut : (pieces : List (Bor (List ℕ))) (i : ℕ) (d : Bor (List ℕ)) (old mid new : SinkView) → i < length pieces
    → ((first second : List ℕ) (a b c : SinkView) → Grew first a b → GrewByFront second b c → GrewByFront (first ++ second) a c)
    → ((first second : List ℕ) (a c : SinkView) → GrewByFront first a c → GrewByFront (first ++ second) a c)
    → Grew (flat_map (λ piece. piece.now) (take i pieces)) old mid → GrewByFront (get_or pieces i d).now mid new
    → GrewByFront (flat_map (λ piece. piece.now) pieces) old new
pieces_cut pieces i d old mid new within cut longer grew front =
    let f : Bor (List ℕ) → List ℕ = λ piece. piece.now in
    let both = cut (flat_map f (take i pieces)) (get_or pieces i d).now old mid new grew front in
    let all = longer (flat_map f (take i pieces) ++ (get_or pieces i d).now) (flat_map f (drop (suc i) pieces)) old new both in
    subst (λ (t : List ℕ). GrewByFront t old new) (pieces_split f pieces i d within) all

-- what was written in two steps, by the laws of a sink
pub writes_then : (first second : List ℕ) (result : Result (Unit {0}) WorkError) (old mid new : SinkView)
    → ((a b : List ℕ) (x y z : SinkView) → Grew a x y → Grew b y z → Grew (a ++ b) x z)
    → ((a b : List ℕ) (x y z : SinkView) → Grew a x y → GrewByFront b y z → GrewByFront (a ++ b) x z)
    → Writes first (Ok tt) old mid → Writes second result mid new → Writes (first ++ second) result old new
writes_then first second (Ok done) old mid new twice cut one two = twice first second old mid new one two
writes_then first second (Err error) old mid new twice cut one (front, cause) =
    (cut first second old mid new one front, cause_earlier error first old mid new one front.grew.faults_stand front.grew.wants_stand cause)

-- what was cut off in the first of two steps
pub writes_cut : (first second : List ℕ) (error : WorkError) (old new : SinkView)
    → ((a b : List ℕ) (x z : SinkView) → GrewByFront a x z → GrewByFront (a ++ b) x z)
    → Writes first (Err error) old new → Writes (first ++ second) (Err error) old new
writes_cut first second error old new longer (front, cause) = (longer first second old new front, cause)

-- what writing a whole text ensures, in one word
pub whole_writes : (text : List ℕ) (result : Result (Unit {0}) WorkError) (old new : SinkView) → OnOk result (Grew text old new)
    → OnErr result (GrewByFront text old new) → IfErr result (λ error. WriteCause error old new) → Writes text result old new
whole_writes text (Ok done) old new all front cause = all
whole_writes text (Err error) old new all front cause = (front, cause)
