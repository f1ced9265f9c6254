use Rattle.std.proofs.Common.{List, ℕ, None, Some, decimal, subst}
use Rattle.dist_cert.specs.SpellingPrivate.{Leaves, sign_text}
use Rattle.dist_cert.proofs.SpellingLemmas.{leaves-both, leaves-none, sign-and}
use Rattle.dist_cert.proofs.spelling.behind_word.Goals as goal

pub returns-in-Some : goal.returns-in-Some
returns-in-Some c =
    let text = c.args.text.now in
    let Behind : List ℕ → Type 0 = λ front. Leaves text front c.behind_digits.result in
    let First : List ℕ → Type 0 = λ front. Leaves text front c.behind.result in
    let first : Leaves text (sign_text c.args.positive) (Some c.in-Some.rest) =
    subst (Leaves text (sign_text c.args.positive)) c.in-Some.is (subst First c.sign_of.ensures c.behind.ensures) in
    subst Behind (sign-and c.args.number c.args.positive)
    (leaves-both text (sign_text c.args.positive) (decimal c.args.number) c.in-Some.rest c.behind_digits.result first c.behind_digits.ensures)

pub returns-in-None : goal.returns-in-None
returns-in-None c =
    let text = c.args.text.now in
    let Behind : List ℕ → Type 0 = λ front. Leaves text front None in
    let First : List ℕ → Type 0 = λ front. Leaves text front c.behind.result in
    let none : Leaves text (sign_text c.args.positive) None =
    subst (Leaves text (sign_text c.args.positive)) c.in-None.is (subst First c.sign_of.ensures c.behind.ensures) in
    subst Behind (sign-and c.args.number c.args.positive) (leaves-none text (sign_text c.args.positive) (decimal c.args.number) none)
