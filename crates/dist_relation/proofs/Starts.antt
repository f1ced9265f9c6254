-- The longest starts, by their length.
use Rattle.std.proofs.Common.{◌≡◌, ℕ, suc, ◌+◌, ◌<◌, get_or, subst, Bool, true, false, cond, List, [], ◌∷◌, ◌≤◌, length, take, drop, arith, refl, sym, ap, ◌∙◌}
use Rattle.std.specs.List.{prefix_len, take_while}
use Rattle.std.proofs.lemmas.List.Folds.{length-prefix_len}
use Rattle.std.proofs.lemmas.List.Sums.{prefix_len-le-length}
use Rattle.std.specs.Char.{is_ascii_alphanumeric}
use Rattle.dist_relation.specs.Bytes.{is_name_byte, IsName}
use Rattle.dist_relation.specs.ReadingPrivate.{past}
use Rattle.dist_relation.proofs.Heads.{IsName-run}

past_by : (t : Bool) (test : ℕ → Bool) (b : ℕ) (bs : List ℕ) → past test bs ≡ drop (prefix_len test bs) bs
    → cond t (past test bs) (b ∷ bs) ≡ drop (cond t (1 + prefix_len test bs) 0) (b ∷ bs)
past_by true test b bs h =
    let one : 1 + prefix_len test bs ≡ suc (prefix_len test bs) = omega arith in
    h ∙ ap (λ (n : ℕ). drop n (b ∷ bs)) (sym one)
past_by false test b bs h = refl

pub past-drop : (test : ℕ → Bool) (bs : List ℕ) → past test bs ≡ drop (prefix_len test bs) bs
unfolding past
past-drop test [] = refl
past-drop test (b ∷ bs) = past_by (test b) test b bs (past-drop test bs)

pub fits : (test : ℕ → Bool) (bs : List ℕ) (n : ℕ) → n ≡ length (take_while test bs) → n ≤ length bs
fits test bs n h = omega (arith, length-prefix_len test bs, prefix_len-le-length test bs)

pub front_is : (test : ℕ → Bool) (bs front : List ℕ) (n : ℕ) → n ≡ length (take_while test bs) → front ≡ take n bs → front ≡ take_while test bs
front_is test bs front n h e = e ∙ ap (λ (k : ℕ). take k bs) (h ∙ length-prefix_len test bs)

pub rest_is : (test : ℕ → Bool) (bs rest : List ℕ) (n : ℕ) → n ≡ length (take_while test bs) → rest ≡ drop n bs → rest ≡ past test bs
rest_is test bs rest n h e = e ∙ ap (λ (k : ℕ). drop k bs) (h ∙ length-prefix_len test bs) ∙ sym (past-drop test bs)

-- the longest start of a name's bytes is a name where the first byte is a letter or a digit
pub front_named : (text front : List ℕ) → 0 < length text → is_ascii_alphanumeric (get_or text 0 0) ≡ true → front ≡ take_while is_name_byte text → IsName front
front_named [] front long h e = absurd (omega arith)
front_named (b ∷ bs) front long h e = subst IsName (sym e) (IsName-run b bs h)
