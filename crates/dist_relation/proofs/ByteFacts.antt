-- Which bytes are no bytes of which kind.
use Rattle.std.proofs.Common.{◌≡◌, ℕ, Bool, true, false, ◌||◌, ◌⊎◌, inl, inr, eqb, List, [], ◌∷◌, ◌++◌, refl, sym, ap, ◌∙◌}
use Rattle.std.specs.Char.{is_ascii_alphanumeric}
use Rattle.std.specs.List.{list_all}
use Rattle.std.proofs.lemmas.Bool.{eqb-true}
use Rattle.dist_base.specs.Ascii.{is_white}
use Rattle.dist_relation.specs.Bytes.{is_name_byte, IsBlank, IsName, Meets, Stops}
use Rattle.dist_relation.proofs.Runs.{both_true, true_both}

pub or_false : (a b : Bool) → a ≡ false → b ≡ false → (a || b) ≡ false
or_false true b p q = absurd cc
or_false false b p q = q

pub or_true : (a b : Bool) → a ≡ true → (a || b) ≡ true
or_true true b p = refl
or_true false b p = absurd cc

pub or_cases : (a b : Bool) → (a || b) ≡ true → (a ≡ true) ⊎ (b ≡ true)
or_cases true b h = inl refl
or_cases false b h = inr h

not_at_by : (t : Bool) (f : ℕ → Bool) (b k : ℕ) → eqb b k ≡ t → f b ≡ true → f k ≡ false → t ≡ false
not_at_by true f b k e p q = sym p ∙ ap f (eqb-true b k e) ∙ q
not_at_by false f b k e p q = refl

-- a byte that passes a test is none that fails it
pub not_at : (f : ℕ → Bool) (b k : ℕ) → f b ≡ true → f k ≡ false → eqb b k ≡ false
not_at f b k p q = not_at_by (eqb b k) f b k refl p q

-- what fails at each byte of white space
pub space_fails : (f : ℕ → Bool) (b : ℕ) → f 32 ≡ false → f 9 ≡ false → f 10 ≡ false → is_white b ≡ true → f b ≡ false
space_fails f b p q r h =
    elim (or_cases (eqb b 32 || eqb b 9) (eqb b 10) h) [
      | inl g ↦ elim (or_cases (eqb b 32) (eqb b 9) g) [ inl e ↦ ap f (eqb-true b 32 e) ∙ p | inr e ↦ ap f (eqb-true b 9 e) ∙ q ]
      | inr e ↦ ap f (eqb-true b 10 e) ∙ r
    ]

-- what passes no white space is no white space
pub no_space : (f : ℕ → Bool) (b : ℕ) → f 32 ≡ false → f 9 ≡ false → f 10 ≡ false → f b ≡ true → is_white b ≡ false
no_space f b p q r h = or_false (eqb b 32 || eqb b 9) (eqb b 10) (or_false (eqb b 32) (eqb b 9) (not_at f b 32 h p) (not_at f b 9 h q)) (not_at f b 10 h r)

-- after white space a text still stops at what white space isn't
pub Stops-blank : (f : ℕ → Bool) (gap r : List ℕ) → f 32 ≡ false → f 9 ≡ false → f 10 ≡ false → IsBlank gap → Stops f r → Stops f (gap ++ r)
Stops-blank f [] r p q s blank h = h
Stops-blank f (b ∷ gap) r p q s blank h = space_fails f b p q s (both_true (is_white b) (list_all is_white gap) blank).0

-- a text that meets one byte, or one of two, stops at what they aren't
pub Stops-meets : (f g : ℕ → Bool) (r : List ℕ) → ((b : ℕ) → g b ≡ true → f b ≡ false) → Meets g r → Stops f r
Stops-meets f g [] k h = tt
Stops-meets f g (b ∷ bs) k h = k b h

pub fails_at : (f : ℕ → Bool) (k : ℕ) → f k ≡ false → (b : ℕ) → eqb b k ≡ true → f b ≡ false
fails_at f k h b e = ap f (eqb-true b k e) ∙ h

pub fails_at_either : (f : ℕ → Bool) (k m : ℕ) → f k ≡ false → f m ≡ false → (b : ℕ) → (eqb b k || eqb b m) ≡ true → f b ≡ false
fails_at_either f k m p q b e = elim (or_cases (eqb b k) (eqb b m) e) [ inl x ↦ fails_at f k p b x | inr x ↦ fails_at f m q b x ]

-- a name goes on as names do from its first byte on
pub name_bytes : (b : ℕ) (bs : List ℕ) → IsName (b ∷ bs) → list_all is_name_byte (b ∷ bs) ≡ true
name_bytes b bs h =
    let p = both_true (is_ascii_alphanumeric b) (list_all is_name_byte bs) h in
    true_both (is_name_byte b) (list_all is_name_byte bs) (or_true (is_ascii_alphanumeric b) _ p.0) p.1

pub name_starts : (b : ℕ) (bs : List ℕ) → IsName (b ∷ bs) → is_ascii_alphanumeric b ≡ true
name_starts b bs h = (both_true (is_ascii_alphanumeric b) (list_all is_name_byte bs) h).0

-- a name begins with no white space
pub Stops-name : (name r : List ℕ) → IsName name → Stops is_white (name ++ r)
Stops-name [] r h = absurd cc
Stops-name (b ∷ bs) r h = no_space is_ascii_alphanumeric b refl refl refl (name_starts b bs h)
