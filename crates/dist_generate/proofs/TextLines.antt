-- The lines of a text that was written line by line.
use Rattle.std.proofs.Common.{◌≡◌, ℕ, Bool, true, not, ◌==◌, List, [], ◌∷◌, ◌++◌, append_assoc, refl, ap, sym, ◌∙◌}
use Rattle.std.specs.List.{list_all, flat_map}
use Rattle.std.proofs.lemmas.Bool.{and_parts, cond-false, not-true}
use Rattle.std.proofs.lemmas.List.Concat.{flat_map-append}
use Rattle.dist_control.specs.Lines.{lines, in_front}
use Rattle.dist_generate.specs.Generator.{Drawn, stanza_lines, stanza_text, text_of_lines}

-- a byte other than LF
abbrev pub is_inner : ℕ → Bool
is_inner byte = not (byte == 10)

-- lines without LF
abbrev pub AreLines : List (List ℕ) → Type 0
AreLines [] = Unit {0}
AreLines (line ∷ lines) = (list_all is_inner line ≡ true) × AreLines lines

lines-ended : (line rest : List ℕ) → list_all is_inner line ≡ true → lines (line ++ 10 ∷ rest) ≡ line ∷ lines rest
lines-ended [] rest inner = refl
lines-ended (byte ∷ line) rest inner =
    let p = and_parts (is_inner byte) (list_all is_inner line) inner in
    cond-false (byte == 10) ([] ∷ lines (line ++ 10 ∷ rest)) (in_front byte (lines (line ++ 10 ∷ rest))) (not-true (byte == 10) p.0)
    ∙ ap (in_front byte) (lines-ended line rest p.1)

pub lines-written : (ls : List (List ℕ)) → AreLines ls → lines (text_of_lines ls) ≡ ls
lines-written [] are = refl
lines-written (line ∷ ls) are =
    ap lines (append_assoc line (10 ∷ []) (text_of_lines ls))
    ∙ lines-ended line (text_of_lines ls) are.0
    ∙ ap (λ t. line ∷ t) (lines-written ls are.1)

-- stanza by stanza the lines are the same
pub stanza-texts : (all : List Drawn) → flat_map stanza_text all ≡ text_of_lines (flat_map stanza_lines all)
stanza-texts [] = refl
stanza-texts (d ∷ all) =
    ap (λ t. stanza_text d ++ t) (stanza-texts all)
    ∙ sym (flat_map-append (λ (line : List ℕ). line ++ 10 ∷ []) (stanza_lines d) (flat_map stanza_lines all))

pub lines-append : (a b : List (List ℕ)) → AreLines a → AreLines b → AreLines (a ++ b)
lines-append [] b h k = k
lines-append (line ∷ a) b h k = (h.0, lines-append a b h.1 k)
