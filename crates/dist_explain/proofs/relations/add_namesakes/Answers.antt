use Rattle.std.proofs.Common.{◌⊎◌, ◌↔◌, ◌∙◌, ◌+◌, ◌++◌, ◌∷◌, [], ℕ, List, get_or, take, subst, sym}
use Rattle.std.specs.Prelude.{Contains}
use Rattle.std.proofs.lemmas.Bool.{true≢false}
use Rattle.std.proofs.lemmas.List.{take_all, take_more}
use Rattle.dist_repo.specs.Providers.{AreProviders}
use Rattle.dist_explain.specs.RelationListPrivate.{IsNamesake}
use Rattle.dist_explain.proofs.RelationLists.{named-all, named-not, named-there, provider-within}
use Rattle.dist_explain.proofs.relations.add_namesakes.Goals.{then-is_namesake+in_ok-push, else-is_namesake}
use Rattle.dist_explain.proofs.relations.add_namesakes.Goals as goal

pub is_namesake-requires-clause-other : goal.is_namesake-requires-clause-other
is_namesake-requires-clause-other c =
    provider-within c.args.repo.now c.bytes.result.now c.providers-other-items.result.now c.loop-other.other-index c.providers-other-items.ensures
    c.loop-other-test.true

pub loop-other-preserved : goal.loop-other-preserved
loop-other-preserved c =
    let r = c.args.repo.now in
    let others : List ℕ = c.providers-other-items.result.now in
    let k : ℕ = c.loop-other.other-index in
    let one : ℕ = get_or others k 0 in
    let old : List ℕ = c.args.numbers.now.items in
    let now : List ℕ = c.loop-other.numbers.items in
    let next = take_more others k 0 c.loop-other-test.true in
    elim c.if-is_namesake.branch [
      | then-is_namesake+in_ok-push w ↦ λ x.
          subst (λ v. Contains v.items x ↔ (Contains old x ⊎ (Contains (take (k + 1) others) x × IsNamesake r c.args.number x))) (sym w.numbers-is)
          (subst (λ (xs : List ℕ). Contains xs x ↔ (Contains old x ⊎ (Contains (take (k + 1) others) x × IsNamesake r c.args.number x)))
          (sym w.in_ok-push.ensures.items)
          (subst (λ (front : List ℕ). Contains (now ++ one ∷ []) x ↔ (Contains old x ⊎ (Contains front x × IsNamesake r c.args.number x))) (sym next)
          (named-there old now (take k others) one (IsNamesake r c.args.number) c.loop-other.invariant (c.is_namesake.ensures.0 w.if-is_namesake.true) x)))
      | else-is_namesake w ↦ λ x.
          subst (λ v. Contains v.items x ↔ (Contains old x ⊎ (Contains (take (k + 1) others) x × IsNamesake r c.args.number x))) (sym w.numbers-is)
          (subst (λ (front : List ℕ). Contains now x ↔ (Contains old x ⊎ (Contains front x × IsNamesake r c.args.number x))) (sym next)
          (named-not old now (take k others) one (IsNamesake r c.args.number) c.loop-other.invariant
          (λ named. true≢false (sym (c.is_namesake.ensures.1 named) ∙ w.if-is_namesake.false)) x))
    ]

pub returns : goal.returns
returns c =
    let r = c.args.repo.now in
    let others : List ℕ = c.providers-other-items.result.now in
    named-all r c.args.number c.package.result.now others c.args.numbers.now.items c.loop-other.numbers.items (take c.loop-other.other-index others)
    c.package.ensures (subst (λ (name : List ℕ). AreProviders r name others) c.bytes.ensures.value c.providers-other-items.ensures)
    (take_all c.loop-other.other-index others c.loop-other-test.false) c.loop-other.invariant
