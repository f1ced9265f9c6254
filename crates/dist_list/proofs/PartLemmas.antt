-- Where the first part of a line begins and ends.
use Rattle.std.proofs.Common.{◌≡◌, ℕ, ◌+◌, Bool, true, false, not, cond, List, [], ◌∷◌, take, drop, refl, ap, sym, ◌∙◌, subst, suc, arith}
use Rattle.std.specs.List.{prefix_len}
use Rattle.dist_base.specs.Ascii.{is_padding}
use Rattle.dist_list.specs.LineParts.{goes_on, in_part, parts_of, with_part}

one-add : (n : ℕ) → 1 + n ≡ suc n
one-add n = omega arith

abbrev stays : ℕ → Bool
stays byte = not (is_padding byte)

parts-cons : (b : ℕ) (bs : List ℕ) (t : Bool) → is_padding b ≡ t → parts_of (b ∷ bs) ≡ cond t (parts_of bs) (in_part b (goes_on bs) (parts_of bs))
parts-cons b bs t h = ap (λ (v : Bool). cond v (parts_of bs) (in_part b (goes_on bs) (parts_of bs))) h

prefix-cons : (p : ℕ → Bool) (b : ℕ) (bs : List ℕ) (t : Bool) → p b ≡ t → prefix_len p (b ∷ bs) ≡ cond t (1 + prefix_len p bs) 0
prefix-cons p b bs t h = ap (λ (v : Bool). cond v (1 + prefix_len p bs) 0) h

drop-front : (p : ℕ → Bool) (b : ℕ) (bs : List ℕ) → p b ≡ true → drop (prefix_len p (b ∷ bs)) (b ∷ bs) ≡ drop (prefix_len p bs) bs
drop-front p b bs h = ap (λ (n : ℕ). drop n (b ∷ bs)) (prefix-cons p b bs true h ∙ one-add (prefix_len p bs))

drop-none : (p : ℕ → Bool) (b : ℕ) (bs : List ℕ) → p b ≡ false → drop (prefix_len p (b ∷ bs)) (b ∷ bs) ≡ b ∷ bs
drop-none p b bs h = ap (λ (n : ℕ). drop n (b ∷ bs)) (prefix-cons p b bs false h)

-- what a text goes on with after its padding
padding_step : (t : Bool) (b : ℕ) (bs : List ℕ) → is_padding b ≡ t → parts_of (drop (prefix_len is_padding bs) bs) ≡ parts_of bs
    → parts_of (drop (prefix_len is_padding (b ∷ bs)) (b ∷ bs)) ≡ parts_of (b ∷ bs)
padding_step true b bs h rest = ap parts_of (drop-front is_padding b bs h) ∙ rest ∙ sym (parts-cons b bs true h)
padding_step false b bs h rest = ap parts_of (drop-none is_padding b bs h)

pub parts-drop_padding : (text : List ℕ) → parts_of (drop (prefix_len is_padding text) text) ≡ parts_of text
parts-drop_padding [] = refl
parts-drop_padding (b ∷ bs) = padding_step (is_padding b) b bs refl (parts-drop_padding bs)

-- past its padding a text is at its end or at a part
abbrev pub IsAtPart : List ℕ → Type 0
IsAtPart [] = Unit {0}
IsAtPart (b ∷ bs) = is_padding b ≡ false

at_part_step : (t : Bool) (b : ℕ) (bs : List ℕ) → is_padding b ≡ t → IsAtPart (drop (prefix_len is_padding bs) bs)
    → IsAtPart (drop (prefix_len is_padding (b ∷ bs)) (b ∷ bs))
at_part_step true b bs h rest = subst IsAtPart (sym (drop-front is_padding b bs h)) rest
at_part_step false b bs h rest = subst IsAtPart (sym (drop-none is_padding b bs h)) h

pub past_padding : (text : List ℕ) → IsAtPart (drop (prefix_len is_padding text) text)
past_padding [] = tt
past_padding (b ∷ bs) = at_part_step (is_padding b) b bs refl (past_padding bs)

abbrev front : List ℕ → List ℕ
front text = take (prefix_len stays text) text

abbrev past : List ℕ → List ℕ
past text = drop (prefix_len stays text) text

take-front : (b : ℕ) (bs : List ℕ) → is_padding b ≡ false → front (b ∷ bs) ≡ b ∷ front bs
take-front b bs h = ap (λ (n : ℕ). take n (b ∷ bs)) (prefix-cons stays b bs true (ap not h) ∙ one-add (prefix_len stays bs))

take-none : (b : ℕ) (bs : List ℕ) → is_padding b ≡ true → front (b ∷ bs) ≡ []
take-none b bs h = ap (λ (n : ℕ). take n (b ∷ bs)) (prefix-cons stays b bs false (ap not h))

-- A byte in front of a text whose parts are known.
part_step : (t : Bool) (b c : ℕ) (cs : List ℕ) → is_padding c ≡ t → (is_padding c ≡ false → parts_of (c ∷ cs) ≡ (c ∷ front cs) ∷ parts_of (past cs))
    → in_part b (not (is_padding c)) (parts_of (c ∷ cs)) ≡ (b ∷ front (c ∷ cs)) ∷ parts_of (past (c ∷ cs))
part_step true b c cs h rest = ap (λ (v : Bool). in_part b (not v) (parts_of (c ∷ cs))) h
    ∙ sym (ap (λ (w : List ℕ). (b ∷ w) ∷ parts_of (past (c ∷ cs))) (take-none c cs h)
    ∙ ap (λ (w : List ℕ). (b ∷ []) ∷ parts_of w) (drop-none stays c cs (ap not h)))
part_step false b c cs h rest = ap (λ (v : Bool). in_part b (not v) (parts_of (c ∷ cs))) h
    ∙ ap (λ (w : List (List ℕ)). in_part b true w) (rest h)
    ∙ sym (ap (λ (w : List ℕ). (b ∷ w) ∷ parts_of (past (c ∷ cs))) (take-front c cs h)
    ∙ ap (λ (w : List ℕ). (b ∷ c ∷ front cs) ∷ parts_of w) (drop-front stays c cs (ap not h)))

-- the part that a text begins with
part_at : (b : ℕ) (bs : List ℕ) → is_padding b ≡ false → parts_of (b ∷ bs) ≡ (b ∷ front bs) ∷ parts_of (past bs)
part_at b [] h = parts-cons b [] false h
part_at b (c ∷ cs) h = parts-cons b (c ∷ cs) false h ∙ part_step (is_padding c) b c cs refl (λ stays_on. part_at c cs stays_on)

pub parts-at_part : (text : List ℕ) → IsAtPart text → parts_of text ≡ with_part (front text) (parts_of (past text))
parts-at_part [] at = refl
parts-at_part (b ∷ bs) at = part_at b bs at
    ∙ sym (ap (λ (w : List ℕ). with_part w (parts_of (past (b ∷ bs)))) (take-front b bs at)
    ∙ ap (λ (w : List ℕ). (b ∷ front bs) ∷ parts_of w) (drop-front stays b bs (ap not at)))
