-- The lines of a summary, one after another.
use Rattle.std.proofs.Common.{◌≡◌, ◌∙◌, ℕ, List, ◌++◌, append_assoc, ap, codes}
use Rattle.dist_cert.specs.declared.records.Claim.{Claim}
use Rattle.dist_trial.specs.Summary.{all_marks, challenge_count, number_line, outdated_count, dependence_count, summary_text, uninstallable_count}

seven : (a b c d e f g : List ℕ) → (((((a ++ b) ++ c) ++ d) ++ e) ++ f) ++ g ≡ a ++ (b ++ (c ++ (d ++ (e ++ (f ++ g)))))
seven a b c d e f g =
    append_assoc ((((a ++ b) ++ c) ++ d) ++ e) f g ∙ append_assoc (((a ++ b) ++ c) ++ d) e (f ++ g) ∙ append_assoc ((a ++ b) ++ c) d (e ++ (f ++ g))
    ∙ append_assoc (a ++ b) c (d ++ (e ++ (f ++ g))) ∙ append_assoc a b (c ++ (d ++ (e ++ (f ++ g))))

after : (t u a b : List ℕ) → t ≡ a → u ≡ t ++ b → u ≡ a ++ b
after t u a b first next = next ∙ ap (λ (xs : List ℕ). xs ++ b) first

-- one line more
line : (t u a key : List ℕ) (n m : ℕ) → t ≡ a → n ≡ m → u ≡ t ++ number_line key n → u ≡ a ++ number_line key m
line t u a key n m first same next = after t u a (number_line key m) first (next ∙ ap (λ (x : ℕ). t ++ number_line key x) same)

-- the figures are those of three certificates
pub record AreFigures (strong outdated challenged : List Claim) (pairs uninstallable replaced challenges marks : ℕ) : Type 0 where
  pub pairs_are : pairs ≡ dependence_count strong
  pub uninstallable_are : uninstallable ≡ uninstallable_count strong
  pub replaced_are : replaced ≡ outdated_count outdated
  pub challenges_are : challenges ≡ challenge_count challenged
  pub marks_are : marks ≡ all_marks strong outdated challenged

pub summary-of : (size : ℕ) (strong outdated challenged : List Claim) (pairs uninstallable replaced challenges marks : ℕ) (t1 t2 t3 t4 t5 t6 t7 : List ℕ)
    → AreFigures strong outdated challenged pairs uninstallable replaced challenges marks
    → t1 ≡ number_line (codes "size ") size → t2 ≡ t1 ++ number_line (codes "strong ") pairs → t3 ≡ t2 ++ number_line (codes "uninstallable ") uninstallable
    → t4 ≡ t3 ++ number_line (codes "outdated ") replaced → t5 ≡ t4 ++ number_line (codes "challenged ") challenges
    → t6 ≡ t5 ++ number_line (codes "undecided ") marks → t7 ≡ t6 ++ codes "accepted 3\n" → t7 ≡ summary_text size strong outdated challenged
summary-of size strong outdated challenged pairs uninstallable replaced challenges marks t1 t2 t3 t4 t5 t6 t7 are h1 h2 h3 h4 h5 h6 h7 =
    let a : List ℕ = number_line (codes "size ") size in
    let b : List ℕ = number_line (codes "strong ") (dependence_count strong) in
    let c : List ℕ = number_line (codes "uninstallable ") (uninstallable_count strong) in
    let d : List ℕ = number_line (codes "outdated ") (outdated_count outdated) in
    let e : List ℕ = number_line (codes "challenged ") (challenge_count challenged) in
    let f : List ℕ = number_line (codes "undecided ") (all_marks strong outdated challenged) in
    let k2 : t2 ≡ a ++ b = line t1 t2 a (codes "strong ") pairs (dependence_count strong) h1 are.pairs_are h2 in
    let k3 : t3 ≡ (a ++ b) ++ c = line t2 t3 (a ++ b) (codes "uninstallable ") uninstallable (uninstallable_count strong) k2 are.uninstallable_are h3 in
    let k4 : t4 ≡ ((a ++ b) ++ c) ++ d = line t3 t4 ((a ++ b) ++ c) (codes "outdated ") replaced (outdated_count outdated) k3 are.replaced_are h4 in
    let k5 : t5 ≡ (((a ++ b) ++ c) ++ d) ++ e =
    line t4 t5 (((a ++ b) ++ c) ++ d) (codes "challenged ") challenges (challenge_count challenged) k4 are.challenges_are h5 in
    let k6 : t6 ≡ ((((a ++ b) ++ c) ++ d) ++ e) ++ f =
    line t5 t6 ((((a ++ b) ++ c) ++ d) ++ e) (codes "undecided ") marks (all_marks strong outdated challenged) k5 are.marks_are h6 in
    after t6 t7 (((((a ++ b) ++ c) ++ d) ++ e) ++ f) (codes "accepted 3\n") k6 h7 ∙ seven a b c d e f (codes "accepted 3\n")
