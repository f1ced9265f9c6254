-- One step of a reader.
use Rattle.std.proofs.Common.{◌≡◌, ◌≢◌, ℕ, ◌<◌, Bool, true, false, not, ◌==◌, cond, eqb, List, [], ◌∷◌, length, refl, sym, ap, ◌∙◌, arith, IsTrue}
use Rattle.std.proofs.lemmas.Bool.{both_ways, ne_eqb}
use Rattle.dist_control.specs.FieldText.{FieldText}
use Rattle.dist_control.specs.Faults.{HasFault}
use Rattle.dist_control.specs.Lines.{lines, in_front}
use Rattle.dist_control.specs.Pieces.{IsAtStanza, ReadsFields, raw_here}
use Rattle.dist_control.specs.RawStanza.{RawStanza, raw_stanzas_from}
use Rattle.dist_control.specs.Reader.{HasNext, Takes, Refuses}
use Rattle.dist_control.specs.Unread.{Unread}
use Rattle.dist_control.specs.declared.error.ControlError.{ControlError}
use Rattle.dist_control.proofs.StanzaLemmas.{raw-begins}

-- the state of a reader at a place
abbrev pub state : ℕ → List ℕ → Bool → Unread
state line text refused = record { left = raw_stanzas_from line true (lines text); refused = refused }

some-line : (byte : ℕ) (bytes : List ℕ) → 0 < length (lines (byte ∷ bytes))
some-line byte bytes =
    let some : (ls : List (List ℕ)) → 0 < length (in_front byte ls) =
    λ ls. elim ls as (λ l. 0 < length (in_front byte l)) [ [] ↦ omega arith | first ∷ rest ↦ omega arith ] in
    elim (eqb byte 10) as (λ b. 0 < length (cond b ([] ∷ lines bytes) (in_front byte (lines bytes)))) [ true ↦ omega arith | false ↦ some (lines bytes) ]

pub some-lines : (text : List ℕ) → 0 < length text → 0 < length (lines text)
some-lines [] some = absurd (omega arith)
some-lines (byte ∷ bytes) some = some-line byte bytes

-- the raw stanza there, and those after it
pub left-here : (line : ℕ) (text : List ℕ) → 0 < length text → IsAtStanza (lines text) →
    raw_stanzas_from line true (lines text) ≡ raw_here line text ∷ raw_stanzas_from line false (lines text)
left-here line text some at = raw-begins line (lines text) (some-lines text some) at

some-left : (line : ℕ) (text : List ℕ) → 0 < length text → IsAtStanza (lines text) → raw_stanzas_from line true (lines text) ≢ []
some-left line text some at none =
    let first : raw_here line text ∷ raw_stanzas_from line false (lines text) ≡ [] = sym (left-here line text some at) ∙ none in cc

left-some : (line : ℕ) (text : List ℕ) → raw_stanzas_from line true (lines text) ≢ [] → 0 < length text
left-some line [] left = absurd (left refl)
left-some line (byte ∷ text) left = omega arith

-- what is known where a reader at a place has a next stanza
pub record Goes (line : ℕ) (text : List ℕ) (refused : Bool) : Type 0 where
  pub some : 0 < length text
  pub going : refused ≡ false

pub goes : (now : Unread) (line : ℕ) (text : List ℕ) (refused : Bool) → state line text refused ≡ now → HasNext now → Goes line text refused
goes now line text refused is next = record {
  some = left-some line text (λ none. next.left (ap (λ (reader : Unread). reader.left) (sym is) ∙ none));
  going = ap (λ (reader : Unread). reader.refused) is ∙ next.going;
}

pub has-next : (now : Unread) (line : ℕ) (text : List ℕ) (refused empty : Bool) → state line text refused ≡ now → IsAtStanza (lines text) →
    refused ≡ false → empty ≡ (length text == 0) → (IsTrue (not empty) → HasNext now) × (HasNext now → IsTrue (not empty))
has-next now line text true empty is at going tested = absurd (both_ways true going refl)
has-next now line [] false empty is at going tested = (
  (λ some. absurd (both_ways false refl (sym (ap not tested) ∙ some))),
  (λ next. absurd (omega (arith, (goes now line [] false is next).some))),
)
has-next now line (byte ∷ text) false empty is at going tested =
    let filled : empty ≡ false = tested ∙ ne_eqb (length (byte ∷ text)) 0 (λ none. absurd (omega arith)) in (
      (λ _. record {
        left = λ none. some-left line (byte ∷ text) (omega arith) at (ap (λ (reader : Unread). reader.left) is ∙ none);
        going = sym (ap (λ (reader : Unread). reader.refused) is);
      }),
      (λ _. ap not filled),
    )

pub takes : (old : Unread) (line : ℕ) (text : List ℕ) (refused : Bool) (fields : List FieldText) (left : List RawStanza) (after : List ℕ) (next : ℕ) →
    state line text refused ≡ old → HasNext old → IsAtStanza (lines text) → ReadsFields line text fields after next →
    left ≡ raw_stanzas_from next true (lines after) →
    Takes old (record { left = left; refused = refused }) (record { line = line; fields = fields })
takes old line text refused fields left after next is has at reads left_is =
    let went = goes old line text refused is has in
    record {
      raw = raw_here line text;
      left = sym (ap (λ (reader : Unread). reader.left) is) ∙ left-here line text went.some at
          ∙ ap (λ (raws : List RawStanza). raw_here line text ∷ raws) (sym (left_is ∙ reads.stanzas));
      was_going = has.going;
      going = went.going;
      reading = record { sound = reads.sound; line = refl; fields = reads.spelled };
    }

pub refuses : (old : Unread) (line : ℕ) (text : List ℕ) (refused : Bool) (error : ControlError) →
    state line text refused ≡ old → HasNext old → IsAtStanza (lines text) → HasFault (raw_here line text) error →
    Refuses old (state line text true) error
refuses old line text refused error is has at fault =
    let went = goes old line text refused is has in
    record {
      raw = raw_here line text;
      rest = raw_stanzas_from line false (lines text);
      left = sym (ap (λ (reader : Unread). reader.left) is) ∙ left-here line text went.some at;
      going = has.going;
      fault = fault;
      stops = ap (λ (reader : Unread). record reader { refused = true }) is;
    }
