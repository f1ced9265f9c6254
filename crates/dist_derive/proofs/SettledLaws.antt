-- What settles a clause, and what settled literals make new.
use Rattle.std.proofs.Common.{◌≢◌, ℕ, inl, inr, List, [], ◌∷◌, get_or, take, ap, sym, subst, ◌∙◌}
use Rattle.std.specs.List.{AllPairs, Contains}
use Rattle.std.proofs.lemmas.List.Elements.{All-contains}
use Rattle.dist_clause.specs.Formula.{Literal}
use Rattle.dist_derive.specs.ContainmentPrivate.{ContainsAll}
use Rattle.dist_derive.specs.Propagation.{IsFalse, IsUnset, AllFalse, OthersFalse, IsUnit, IsPropagated, IsConsistent, IsSettled}
use Rattle.dist_derive.specs.Cone.{IsWithinCone}
use Rattle.dist_derive.specs.New.{IsNew, LeavesUnset}
use Rattle.dist_derive.proofs.LiteralLemmas.{same_or_not, contains_or_not}
use Rattle.dist_derive.proofs.MarkedLemmas.{Contains-tail}
use Rattle.dist_derive.proofs.OutcomeLemmas.{other_false, all_false_without}
use Rattle.dist_derive.proofs.AssumeLemmas.{OthersFalse-more}

pub true_settles : (trues clause : List Literal) (l : Literal) → IsConsistent trues → Contains clause l → Contains trues l → (¬ AllFalse trues clause)
    × IsPropagated trues clause
true_settles trues clause l consistent here is_true = (
  λ all. consistent l is_true (All-contains (IsFalse trues) clause l all here),
  λ m m_here others. elim (same_or_not l m) [
    | inl same ↦ subst (λ x. Contains trues x) same is_true
    | inr other ↦ absurd (consistent l is_true (other_false trues clause m l others here other))
  ],
)

pub two_settle : (trues clause : List Literal) (l m : Literal) → Contains clause l → Contains clause m → l.variable ≢ m.variable → (¬ IsFalse trues l)
    → (¬ IsFalse trues m) → (¬ AllFalse trues clause) × IsPropagated trues clause
two_settle trues clause l m l_here m_here apart l_not m_not = (
  λ all. l_not (All-contains (IsFalse trues) clause l all l_here),
  λ x x_here others. elim (same_or_not l x) [
    | inl same ↦ absurd (m_not (other_false trues clause x m others m_here (λ e. apart (ap (λ (y : Literal). y.variable) (same ∙ sym e)))))
    | inr other ↦ absurd (l_not (other_false trues clause x l others l_here other))
  ],
)

pub unit_stays : (trues more clause : List Literal) (l : Literal) → ContainsAll more trues → IsUnset more l → IsUnit trues clause l → IsUnit more clause l
unit_stays trues more clause l kept unset u = record { member = u.member; unset = unset; others = OthersFalse-more trues more clause l kept u.others }

pub settled_new : (clauses : List (List Literal)) (inputs : ℕ) (assumptions : List Literal) (first : Literal) (rest trues : List Literal)
    → AllPairs (λ l m. l.variable ≢ m.variable) (first ∷ rest) → IsWithinCone (take inputs clauses) assumptions (first ∷ rest)
    → IsSettled clauses trues → ContainsAll trues assumptions → AllFalse trues rest → IsUnset trues first → IsNew clauses inputs assumptions (first ∷ rest)
settled_new clauses inputs assumptions first rest trues distinct within settled assumed denied unset = record {
  distinct = distinct;
  within_cone = within;
  adds = (trues, record { settled = settled; assumed = assumed; denied = denied; unset = unset });
}

-- a clause that has only literals of a new one is not there
no_copy_of : (clauses : List (List Literal)) (assumptions : List Literal) (first : Literal) (rest trues copy : List Literal)
    → LeavesUnset clauses assumptions first rest trues → Contains clauses copy → ¬ ContainsAll (first ∷ rest) copy
no_copy_of clauses assumptions first rest trues copy t here within =
    let others : OthersFalse trues copy first = λ k d k_within other. All-contains (IsFalse trues) rest (get_or copy k d) t.denied
    (Contains-tail first rest (get_or copy k d) (within k d k_within) (λ e. other (sym e))) in
    elim (contains_or_not copy first) [
      | inl first_here ↦ t.unset.0 (All-contains (IsPropagated trues) clauses copy t.settled.propagated here first first_here others)
      | inr out ↦ All-contains (λ c. ¬ AllFalse trues c) clauses copy t.settled.no_conflict here (all_false_without trues copy first others out)
    ]

pub no_copy : (clauses : List (List Literal)) (inputs : ℕ) (assumptions clause copy : List Literal) → IsNew clauses inputs assumptions clause
    → Contains clauses copy → ¬ ContainsAll clause copy
no_copy clauses inputs assumptions [] copy h here within = absurd h.adds
no_copy clauses inputs assumptions (first ∷ rest) copy h here within = no_copy_of clauses assumptions first rest h.adds.0 copy h.adds.1 here within
