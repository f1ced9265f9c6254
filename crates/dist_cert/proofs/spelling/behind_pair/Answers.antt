use Rattle.std.proofs.Common.{Some, List, ℕ, ◌++◌, [], append-nil, subst, sym}
use Rattle.dist_cert.specs.Form.{plain}
use Rattle.dist_cert.specs.SpellingPrivate.{Leaves}
use Rattle.dist_cert.proofs.SpellingLemmas.{leaves-both, leaves-none, word_behind}
use Rattle.dist_cert.proofs.spelling.behind_pair.Goals as goal

pub returns-in-Some : goal.returns-in-Some
returns-in-Some c =
    let text = c.args.text.now in
    let one = word_behind (plain c.args.pair.0) in
    let other = word_behind (plain c.args.pair.1) in
    let first : Leaves text one (Some c.in-Some.rest) = subst (Leaves text one) c.in-Some.is c.behind_word.ensures in
    let Behind : List ℕ → Type 0 = λ front. Leaves text (one ++ front) c.behind_word-in-Some.result in
    subst Behind (sym (append-nil other)) (leaves-both text one other c.in-Some.rest c.behind_word-in-Some.result first c.behind_word-in-Some.ensures)

pub returns-in-None : goal.returns-in-None
returns-in-None c =
    let text = c.args.text.now in
    let one = word_behind (plain c.args.pair.0) in
    leaves-none text one (word_behind (plain c.args.pair.1) ++ []) (subst (Leaves text one) c.in-None.is c.behind_word.ensures)
