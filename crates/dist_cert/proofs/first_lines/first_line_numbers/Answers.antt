use Rattle.std.proofs.Common.{◌≡◌, ℕ, List, [], ◌∷◌, ◌-◌, All, length, map, drop, take, arith, refl, sym, ap, ◌∙◌}
use Rattle.std.proofs.lemmas.Bool.{true≢false}
use Rattle.std.proofs.lemmas.Bool.Decides.{Decides-eqb}
use Rattle.std.proofs.lemmas.List.{drop_at, length-drop, take_all}
use Rattle.std.proofs.lemmas.List.Elements.{All-cons, All-head, All-nil, All-tail}
use Rattle.std.proofs.lemmas.Slice.Eq.{slice_eq-Decides}
use Rattle.dist_cert.specs.FirstLines.{first_line}
use Rattle.dist_cert.specs.Form.{IsSmall, Word, plain, plains, words_text}
use Rattle.dist_cert.specs.LooseWords.{loose_words}
use Rattle.dist_cert.proofs.LooseLemmas.{words_read}
use Rattle.dist_cert.proofs.first_lines.first_line_numbers.Goals as goal

-- the words of numbers are small where these are, and are these numbers
small-words : (numbers : List ℕ) → All IsSmall numbers → All (λ (w : Word). IsSmall w.0) (plains numbers)
small-words [] small = All-nil (λ (w : Word). IsSmall w.0)
small-words (n ∷ numbers) small =
    All-cons (λ (w : Word). IsSmall w.0) (plain n) (plains numbers) (All-head IsSmall n numbers small) (small-words numbers (All-tail IsSmall n numbers small))

plain-numbers : (numbers : List ℕ) → map (λ (w : Word). w.0) (plains numbers) ≡ numbers
plain-numbers [] = refl
plain-numbers (n ∷ numbers) = ap (λ ns. n ∷ ns) (plain-numbers numbers)

pub returns-else-eq : goal.returns-else-eq
returns-else-eq c = λ numbers small is.
    let front = c.args.front.now in
    let behind : List ℕ = drop (length front) c.args.line.now in
    let tail : behind ≡ words_text (plains numbers) = ap (λ l. drop (length front) l) is ∙ drop_at front (words_text (plains numbers)) (length front) refl in
    let all : take (length c.args.line.now - length front) behind ≡ behind =
    take_all (length c.args.line.now - length front) behind (omega (arith, length-drop (length front) c.args.line.now)) in
    let words : loose_words behind ≡ plains numbers = ap loose_words tail ∙ words_read (plains numbers) (small-words numbers small) in
    let same : c.in_ok-numbers.numbers.items ≡ numbers = c.in_ok-numbers.ensures
    ∙ ap (λ ws. map (λ (w : Word). w.0) ws) (c.new.ensures ∙ ap loose_words all ∙ words) ∙ plain-numbers numbers in
    let text : c.as_slice.result.now ≡ c.args.line.now = c.as_slice.ensures.value ∙ c.in_ok-text.ensures
    ∙ ap (first_line front) (c.deref.ensures.value ∙ same) ∙ sym is in
    true≢false (sym ((slice_eq-Decides Decides-eqb _ _ _ c.eq.ensures).1 text) ∙ c.if-eq.false)
