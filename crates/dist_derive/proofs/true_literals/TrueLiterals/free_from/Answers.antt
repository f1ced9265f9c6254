use Rattle.std.proofs.Common.{◌≡◌, ◌≢◌, ℕ, ◌-◌, take, drop, length, List, Option, Some, None, subst, IfNone, arith}
use Rattle.std.specs.List.{Contains}
use Rattle.std.proofs.lemmas.List.{take-append-drop, take_all, length-drop}
use Rattle.std.proofs.lemmas.List.Elements.{All-append, All-contains, All-drop, All-take, All-contains_itself}
use Rattle.dist_clause.specs.Formula.{Literal}
use Rattle.dist_derive.specs.Propagation.{IsFalse, OthersFalse}
use Rattle.dist_derive.proofs.true_literals.TrueLiterals.free_from.Goals as goal

contains_behind : (clause : List Literal) (n m : ℕ) (l : Literal) → Contains (take n (drop m clause)) l → Contains clause l
contains_behind clause n m l h = All-contains (Contains clause) (take n (drop m clause)) l
    (All-take (Contains clause) n (drop m clause) (All-drop (Contains clause) m clause (All-contains_itself clause))) h

others_in_both : (trues clause : List Literal) (one : Literal) (m : ℕ) → OthersFalse trues (take (length clause - m) (drop m clause)) one
    → OthersFalse trues (take m clause) one → OthersFalse trues clause one
others_in_both trues clause one m behind before =
    let all : take (length clause - m) (drop m clause) ≡ drop m clause = take_all (length clause - m) (drop m clause) (omega (arith, length-drop m clause)) in
    subst (λ ls. OthersFalse trues ls one) (take-append-drop m clause)
    (All-append (λ l. l ≢ one → IsFalse trues l) (take m clause) (drop m clause) before (subst (λ ls. OthersFalse trues ls one) all behind))

if_none_map : {X : Type 0} (r : Option X) (A B : Type 0) → (A → B) → IfNone r A → IfNone r B
if_none_map (Some x) A B f h = tt
if_none_map None A B f h = f h

pub returns-in-Some-clause-some : goal.returns-in-Some-clause-some
returns-in-Some-clause-some c =
    let told = c.in-Some.ensures.some in
    (contains_behind c.args.clause.now (length c.args.clause.now - c.min-middle.result) c.min-middle.result c.in-Some.found.1 told.0, told.1, told.2)

pub returns-in-None-clause-none : goal.returns-in-None-clause-none
returns-in-None-clause-none c =
    let trues = c.args.self.now.literals in
    let clause = c.args.clause.now in
    if_none_map c.free_in-in-None.result (OthersFalse trues (take c.min-middle.result clause) c.args.one) (OthersFalse trues clause c.args.one)
    (others_in_both trues clause c.args.one c.min-middle.result c.in-None.ensures.none) c.free_in-in-None.ensures.none
