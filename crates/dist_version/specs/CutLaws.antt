-- What `split_once` and `rsplit_once` give of a text with the byte at a known place, and what a text is that they cut.
use Rattle.std.proofs.Common.{◌≡◌, ℕ, suc, ◌+◌, ◌<◌, false, cond, ◌==◌, eqb-true, eq-eqb, List, [], ◌∷◌, ◌++◌, length}
use Rattle.std.proofs.Common.{get_or, take, drop, take-append-drop, length-take, length-drop, get_or-take, get_or-drop}
use Rattle.std.proofs.Common.{Option, None, Some, option_map, MatchOption, refl, sym, ap, ◌∙◌, inl, inr, arith}
use Rattle.std.specs.Option.{option_or}
use Rattle.std.proofs.lemmas.Bool.{or_parts, or_from, cases_Bool, cond-true, cond-false, false_from_ne_true}
use Rattle.std.proofs.lemmas.List.{drop_more}
use Rattle.memchr.specs.Find.{IsFirstByte, IsLastByte, is_byte}
use Rattle.dist_version.specs.Spelling.{has, split_once, rsplit_once}

pub split_once-at : (byte : ℕ) (a b : List ℕ) → has byte a ≡ false → split_once byte (a ++ byte ∷ b) ≡ Some (a, b)
split_once-at byte [] b h = rw (eq-eqb byte byte refl) refl
split_once-at byte (x ∷ a) b h = let p = or_parts (x == byte) (has byte a) h in
    rw (p.0, split_once-at byte a b p.1) refl

pub split_once-none : (byte : ℕ) (a : List ℕ) → has byte a ≡ false → split_once byte a ≡ None
split_once-none byte [] h = refl
split_once-none byte (x ∷ a) h = let p = or_parts (x == byte) (has byte a) h in
    rw (p.0, split_once-none byte a p.1) refl

pub rsplit_once-none : (byte : ℕ) (a : List ℕ) → has byte a ≡ false → rsplit_once byte a ≡ None
rsplit_once-none byte [] h = refl
rsplit_once-none byte (x ∷ a) h = let p = or_parts (x == byte) (has byte a) h in
    rw (p.0, rsplit_once-none byte a p.1) refl

pub rsplit_once-at : (byte : ℕ) (a b : List ℕ) → has byte b ≡ false → rsplit_once byte (a ++ byte ∷ b) ≡ Some (a, b)
rsplit_once-at byte [] b h = rw (eq-eqb byte byte refl, rsplit_once-none byte b h) refl
rsplit_once-at byte (x ∷ a) b h = rw (rsplit_once-at byte a b h) refl

-- The text is cut at the byte, and none stands before it.
abbrev pub CutsFirst : ℕ → List ℕ → List ℕ × List ℕ → Type 0
CutsFirst byte text s = (text ≡ s.0 ++ byte ∷ s.1) × (has byte s.0 ≡ false)

-- The text is cut at the byte, and none stands after it.
abbrev pub CutsLast : ℕ → List ℕ → List ℕ × List ℕ → Type 0
CutsLast byte text s = (text ≡ s.0 ++ byte ∷ s.1) × (has byte s.1 ≡ false)

first_more : (byte x : ℕ) (xs : List ℕ) (o : Option (List ℕ × List ℕ)) → x == byte ≡ false
    → MatchOption o (has byte xs ≡ false) (CutsFirst byte xs)
    → MatchOption (option_map (λ s. (x ∷ s.0, s.1)) o) (has byte (x ∷ xs) ≡ false) (CutsFirst byte (x ∷ xs))
first_more byte x xs None e h = or_from _ _ e h
first_more byte x xs (Some s) e h = (ap (λ ys. x ∷ ys) h.0, or_from _ _ e h.1)

pub cases_split : (byte : ℕ) (text : List ℕ)
    → MatchOption (split_once byte text) (has byte text ≡ false) (CutsFirst byte text)
cases_split byte [] = refl
cases_split byte (x ∷ xs) = elim (cases_Bool (x == byte)) [
  | inl e ↦ rw (cond-true (x == byte) _ _ e) (ap (λ b. b ∷ xs) (eqb-true x byte e), refl)
  | inr e ↦ rw (cond-false (x == byte) _ _ e) (first_more byte x xs (split_once byte xs) e (cases_split byte xs))
]

last_more : (byte x : ℕ) (xs : List ℕ) (o : Option (List ℕ × List ℕ))
    → MatchOption o (has byte xs ≡ false) (CutsLast byte xs)
    → MatchOption (option_or (option_map (λ s. (x ∷ s.0, s.1)) o) (cond (x == byte) (Some ([], xs)) None))
    (has byte (x ∷ xs) ≡ false) (CutsLast byte (x ∷ xs))
last_more byte x xs None h = elim (cases_Bool (x == byte)) [
  | inl e ↦ rw (cond-true (x == byte) _ _ e) (ap (λ b. b ∷ xs) (eqb-true x byte e), h)
  | inr e ↦ rw (cond-false (x == byte) _ _ e) (or_from _ _ e h)
]
last_more byte x xs (Some s) h = (ap (λ ys. x ∷ ys) h.0, h.1)

pub cases_rsplit : (byte : ℕ) (text : List ℕ)
    → MatchOption (rsplit_once byte text) (has byte text ≡ false) (CutsLast byte text)
cases_rsplit byte [] = refl
cases_rsplit byte (x ∷ xs) = last_more byte x xs (rsplit_once byte xs) (cases_rsplit byte xs)

-- ---- by places

lacks_by_place : (byte : ℕ) (hay : List ℕ) → ((k : ℕ) → k < length hay → get_or hay k 0 == byte ≡ false)
    → has byte hay ≡ false
lacks_by_place byte [] apart = refl
lacks_by_place byte (x ∷ xs) apart = or_from (x == byte) (has byte xs) (apart 0 (omega arith))
    (lacks_by_place byte xs (λ k h. apart (suc k) (omega arith)))

cut_at_place : (byte : ℕ) (hay : List ℕ) (k : ℕ) → k < length hay → get_or hay k 0 ≡ byte
    → hay ≡ take k hay ++ byte ∷ drop (k + 1) hay
cut_at_place byte hay k h e = sym (take-append-drop k hay)
    ∙ ap (λ w. take k hay ++ w) (drop_more hay k 0 h ∙ ap (λ b. b ∷ drop (k + 1) hay) e)

-- the two sides of a place
abbrev pub sides : List ℕ → ℕ → List ℕ × List ℕ
sides hay k = (take k hay, drop (k + 1) hay)

pub split_once-first : (byte : ℕ) (hay : List ℕ) (r : Option ℕ) → IsFirstByte (is_byte byte) hay r
    → split_once byte hay ≡ option_map (sides hay) r
split_once-first byte hay None f = split_once-none byte hay
    (lacks_by_place byte hay (λ k h. false_from_ne_true _ (f k (omega arith) h)))
split_once-first byte hay (Some k) f =
    let here : get_or hay k 0 ≡ byte = eqb-true (get_or hay k 0) byte f.1 in
    let apart : has byte (take k hay) ≡ false = lacks_by_place byte (take k hay) (λ i h.
    let below : i < k = omega (arith, length-take k hay) in
    rw (get_or-take k hay i 0 below) (false_from_ne_true _ (f.0.before i (omega arith) below))) in
    ap (split_once byte) (cut_at_place byte hay k f.0.high here)
    ∙ split_once-at byte (take k hay) (drop (k + 1) hay) apart

pub rsplit_once-last : (byte : ℕ) (hay : List ℕ) (r : Option ℕ) → IsLastByte (is_byte byte) hay r
    → rsplit_once byte hay ≡ option_map (sides hay) r
rsplit_once-last byte hay None f = rsplit_once-none byte hay
    (lacks_by_place byte hay (λ k h. false_from_ne_true _ (f k (omega arith) h)))
rsplit_once-last byte hay (Some k) f =
    let here : get_or hay k 0 ≡ byte = eqb-true (get_or hay k 0) byte f.1 in
    let apart : has byte (drop (k + 1) hay) ≡ false = lacks_by_place byte (drop (k + 1) hay) (λ i h.
    let below : k + 1 + i < length hay = omega (arith, length-drop (k + 1) hay) in
    rw (get_or-drop (k + 1) hay i 0) (false_from_ne_true _ (f.0.after (k + 1 + i) (omega arith) below))) in
    ap (rsplit_once byte) (cut_at_place byte hay k f.0.high here)
    ∙ rsplit_once-at byte (take k hay) (drop (k + 1) hay) apart
