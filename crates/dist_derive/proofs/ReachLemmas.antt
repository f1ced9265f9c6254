-- The cone of assumptions by a queue of its members.
use Rattle.std.proofs.Common.{◌≡◌, ℕ, suc, ◌⊎◌, ⊎_elim, inl, inr, ◌+◌, ◌<◌, ◌≤◌, Bool, true, false, ◌||◌, List, [], ◌∷◌, length, get_or, take}
use Rattle.std.proofs.Common.{refl, ap, sym, subst, ◌∙◌, arith, length-take}
use Rattle.std.specs.List.{All, Contains}
use Rattle.std.proofs.lemmas.Bool.{cases_Bool, cases_eq, cases_lt, false≢true, true≢false}
use Rattle.std.proofs.lemmas.List.{take_all, take_more, get_or-take}
use Rattle.std.proofs.lemmas.List.Elements.{All-nil, All-cons, All-weaker, All-contains, Contains-push_cases}
use Rattle.dist_clause.specs.Formula.{Literal, literal}
use Rattle.dist_clause.specs.ClauseList.{clause_at}
use Rattle.dist_derive.specs.VariableSet.{VariableList}
use Rattle.dist_derive.specs.Cone.{IsClosedUnder}
use Rattle.dist_derive.specs.Marking.{HasAll, Grows, IsClosedAt}
use Rattle.dist_derive.specs.declared.occurrences.Link.{Link}
use Rattle.dist_derive.specs.OccurrencesPrivate.{OccurrenceLists, code_of, link_at, Lists, IsIndexOf}
use Rattle.dist_derive.specs.ConePrivate.{HasNegativeOutside, WaitsIn, AllWaitIn, Reaches}
use Rattle.dist_derive.proofs.OccurrenceLemmas.{Lists-cases}
use Rattle.dist_derive.proofs.WaitLemmas.{All-number, All-from_numbers}
use Rattle.dist_derive.proofs.AssumeLemmas.{ContainsAll-itself, ContainsAll-then}
use Rattle.dist_derive.proofs.GrowingLemmas.{ReachesSoFar, is_member, is_member-true, is_member-at, Grows-none, Grows-then, Grows-longer}

member_or_not : (members : List ℕ) (v : ℕ) → Contains members v ⊎ (¬ Contains members v)
member_or_not members v = elim (cases_Bool (is_member members v)) [
  | inl is_in ↦ inl (is_member-true members v is_in)
  | inr out ↦ inr (λ h. false≢true (sym out ∙ is_member-at members v h.0 h.1 h.2))
]

Contains-from_take : (count : ℕ) (members : List ℕ) (v : ℕ) → Contains (take count members) v → Contains members v
Contains-from_take count members v h =
    let long = length-take count members in
    let within = h.1 in
    (h.0, omega arith, sym (get_or-take count members h.0 v (omega arith)) ∙ h.2)

-- a clause has a negative literal outside, or its negative literals are all of members
negative_or_all : (members : List ℕ) (clause : List Literal)
    → HasNegativeOutside members clause ⊎ All (λ l. l.positive ≡ false → Contains members l.variable) clause
negative_or_all members [] = inr (All-nil (λ l. l.positive ≡ false → Contains members l.variable))
negative_or_all members (l ∷ ls) = ⊎_elim
    (λ (h : HasNegativeOutside members ls). inl (record {
      outside = h.outside;
      member = (suc h.member.0, omega (arith, h.member.1), h.member.2);
      negative = h.negative;
      not_in = h.not_in;
    }))
    (λ all. elim (member_or_not members l.variable) [
      | inl in_it ↦ inr (All-cons (λ m. m.positive ≡ false → Contains members m.variable) l ls (λ _. in_it) all)
      | inr out ↦ elim (cases_Bool l.positive) [
        | inl positive ↦ inr (All-cons (λ m. m.positive ≡ false → Contains members m.variable) l ls
            (λ negative. absurd (true≢false (sym positive ∙ negative))) all)
        | inr negative ↦ inl (record { outside = l; member = (0, omega arith, refl); negative = negative; not_in = out })
      ]
    ])
    (negative_or_all members ls)

-- a clause has a negative literal, or none of its literals is negative
negative_or_positive : (clause : List Literal) → HasNegativeOutside [] clause ⊎ All (λ l. l.positive ≡ true) clause
negative_or_positive [] = inr (All-nil (λ l. l.positive ≡ true))
negative_or_positive (l ∷ ls) = ⊎_elim
    (λ (h : HasNegativeOutside [] ls). inl (record {
      outside = h.outside;
      member = (suc h.member.0, omega (arith, h.member.1), h.member.2);
      negative = h.negative;
      not_in = h.not_in;
    }))
    (λ all. elim (cases_Bool l.positive) [
      | inl positive ↦ inr (All-cons (λ m. m.positive ≡ true) l ls positive all)
      | inr negative ↦ inl (record { outside = l; member = (0, omega arith, refl); negative = negative; not_in = λ h. absurd (omega (arith, h.1)) })
    ])
    (negative_or_positive ls)

pub WaitsIn-closed : (members : List ℕ) (clause : List Literal) (done : ℕ) → IsClosedAt members clause → WaitsIn members done clause
WaitsIn-closed members clause done closed = ⊎_elim
    (λ (h : HasNegativeOutside members clause). inr (record {
      outside = h.outside;
      member = h.member;
      negative = h.negative;
      not_in = λ e. h.not_in (Contains-from_take done members h.outside.variable e);
    }))
    (λ all. inl (closed all))
    (negative_or_all members clause)

pub WaitsIn-more : (clauses : List (List Literal)) (old new : VariableList) (clause : List Literal) (done : ℕ) → Reaches clauses old new
    → done ≤ length old.members → WaitsIn old.members done clause → WaitsIn new.members done clause
WaitsIn-more clauses old new clause done step taken h = ⊎_elim
    (λ all. inl (All-weaker (λ l. Contains old.members l.variable) (λ l. Contains new.members l.variable)
    (λ l e. All-contains (Contains new.members) old.members l.variable step.kept e) clause all))
    (λ out. inr (subst (λ ms. HasNegativeOutside ms clause) (sym (step.front done taken)) out))
    h

pub WaitsIn-end : (members : List ℕ) (clause : List Literal) (done : ℕ) → length members ≤ done → WaitsIn members done clause → IsClosedAt members clause
WaitsIn-end members clause done all h = ⊎_elim
    (λ within _. within)
    (λ (out : HasNegativeOutside (take done members) clause) negatives. absurd (out.not_in (subst (λ ms. Contains ms out.outside.variable)
    (sym (take_all done members all)) (All-contains (λ l. l.positive ≡ false → Contains members l.variable) clause out.outside negatives out.member
    out.negative))))
    h

-- where the next member is taken, a clause goes on waiting, or that member stands negated in it
WaitsIn-next : (members : List ℕ) (clause : List Literal) (done : ℕ) → done < length members → WaitsIn members done clause
    → WaitsIn members (done + 1) clause ⊎ Contains clause (literal (get_or members done 0) false)
WaitsIn-next members clause done within h = ⊎_elim
    (λ all. inl (inl all))
    (λ (out : HasNegativeOutside (take done members) clause). elim (cases_eq out.outside.variable (get_or members done 0)) [
      | inl same ↦ inr (subst (λ l. Contains clause l)
          (ap (λ v. literal v out.outside.positive) same ∙ ap (λ b. literal (get_or members done 0) b) out.negative)
          out.member)
      | inr apart ↦ inl (inr (record {
        outside = out.outside;
        member = out.member;
        negative = out.negative;
        not_in = λ e. ⊎_elim out.not_in (λ is. apart (sym is))
            (Contains-push_cases (take done members) (get_or members done 0) out.outside.variable
            (subst (λ ms. Contains ms out.outside.variable) (take_more members done 0 within) e));
      }))
    ])
    h

pub Reaches-none : (clauses : List (List Literal)) (s : VariableList) → Reaches clauses s s
Reaches-none clauses s = record {
  same_variables = refl;
  kept = ContainsAll-itself s.members;
  longer = omega arith;
  front = λ done within. refl;
  least = λ has all under. all;
}

pub Reaches-then : (clauses : List (List Literal)) (a b c : VariableList) → Reaches clauses a b → Reaches clauses b c → Reaches clauses a c
Reaches-then clauses a b c first second = record {
  same_variables = second.same_variables ∙ first.same_variables;
  kept = ContainsAll-then a.members b.members c.members first.kept second.kept;
  longer = omega (arith, first.longer, second.longer);
  front = λ done within. second.front done (omega (arith, first.longer)) ∙ first.front done within;
  least = λ has all under. second.least has (first.least has all under) under;
}

ClosedTest : (ℕ → Bool) → List Literal → Type 0
ClosedTest has c = All (λ l. l.positive ≡ false → has l.variable ≡ true) c → All (λ l. has l.variable ≡ true) c

-- one of the first clauses is closed
pub Reaches-clause : (clauses : List (List Literal)) (inputs number : ℕ) (old new : VariableList) (grown : Bool) → inputs ≤ length clauses
    → 1 ≤ number → number ≤ inputs → Grows old new grown
    → ((has : ℕ → Bool) → HasAll has old.members → IsClosedUnder has (clause_at clauses number ∷ []) → HasAll has new.members)
    → Reaches (take inputs clauses) old new
unfolding ClosedTest
Reaches-clause clauses inputs number old new grown enough from to h least = record {
  same_variables = h.same_variables;
  kept = h.kept;
  longer = Grows-longer old new grown h;
  front = h.front;
  least = λ has all under. least has all (All-cons (ClosedTest has) (clause_at clauses number) []
      (All-number (ClosedTest has) clauses inputs number enough from to under) (All-nil (ClosedTest has)));
}

-- a walk along a list has come to a place: each clause of the list waits, or is still to come
pub record ClosesSoFar (clauses : List (List Literal)) (inputs : ℕ) (links : List Link) (latest place : ℕ) (start now : VariableList) : Type 0 where
  pub reaches : Reaches (take inputs clauses) start now
  pub waiting : (number done : ℕ) → Lists links latest number → number ≤ inputs → done ≤ length start.members
      → WaitsIn now.members done (clause_at clauses number) ⊎ Lists links place number

module _ (clauses : List (List Literal)) (inputs : ℕ) (links : List Link) (latest : ℕ) where
  pub closes_none : (s : VariableList) → ClosesSoFar clauses inputs links latest latest s s
  closes_none s = record { reaches = Reaches-none (take inputs clauses) s; waiting = λ number done listed to taken. inr listed }

  pub closes_more : (place : ℕ) (start now next : VariableList) (link : Link) → ClosesSoFar clauses inputs links latest place start now
      → link ≡ link_at links place → Reaches (take inputs clauses) now next
      → (link.number ≤ inputs → IsClosedAt next.members (clause_at clauses link.number))
      → ClosesSoFar clauses inputs links latest link.next start next
  closes_more place start now next link h is step closed = record {
    reaches = Reaches-then (take inputs clauses) start now next h.reaches step;
    waiting = λ number done listed to taken. ⊎_elim
        (λ w. inl (WaitsIn-more (take inputs clauses) now next (clause_at clauses number) done step (omega (arith, h.reaches.longer, taken)) w))
        (λ left. ⊎_elim
        (λ same. let e : link.number ≡ number = ap (λ (l : Link). l.number) is ∙ same in
        inl (WaitsIn-closed next.members (clause_at clauses number) done
        (subst (λ n. IsClosedAt next.members (clause_at clauses n)) e (closed (omega arith)))))
        (λ behind. inr (subst (λ n. Lists links n number) (sym (ap (λ (l : Link). l.next) is)) behind))
        (Lists-cases links place number left))
        (h.waiting number done listed to taken);
  }

-- the members before a place are taken
pub record MembersSoFar (clauses : List (List Literal)) (inputs : ℕ) (index : OccurrenceLists) (start now : VariableList) (done : ℕ) : Type 0 where
  pub reaches : Reaches (take inputs clauses) start now
  pub waiting : AllWaitIn index clauses inputs now.members done

module _ (clauses : List (List Literal)) (inputs : ℕ) (index : OccurrenceLists) (is_index : IsIndexOf index clauses) where
  pub members_start : (start next : VariableList) → Reaches (take inputs clauses) start next
      → ((number d : ℕ) → Lists index.links (get_or index.heads 0 0) number → number ≤ inputs → d ≤ length start.members
      → WaitsIn next.members d (clause_at clauses number))
      → AllWaitIn index clauses inputs next.members 0
  members_start start next step visited = λ number from covered to. ⊎_elim
      (λ out. inr out)
      (λ positive. visited number 0 (is_index.complete number 0 from covered (inl (refl, positive))) to (omega arith))
      (negative_or_positive (clause_at clauses number))

  pub members_more : (start now next : VariableList) (done : ℕ) → MembersSoFar clauses inputs index start now done → done < length now.members
      → Reaches (take inputs clauses) now next
      → ((number d : ℕ) → Lists index.links (get_or index.heads (code_of (literal (get_or now.members done 0) false)) 0) number → number ≤ inputs
      → d ≤ length now.members → WaitsIn next.members d (clause_at clauses number))
      → MembersSoFar clauses inputs index start next (done + 1)
  members_more start now next done h within step visited = record {
    reaches = Reaches-then (take inputs clauses) start now next h.reaches step;
    waiting = λ number from covered to. ⊎_elim
        (λ w. WaitsIn-more (take inputs clauses) now next (clause_at clauses number) (done + 1) step (omega arith) w)
        (λ here. let l = literal (get_or now.members done 0) false in
        visited number (done + 1) (is_index.complete number (code_of l) from covered (inr (l, here, refl))) to (omega arith))
        (WaitsIn-next now.members (clause_at clauses number) done within (h.waiting number from covered to));
  }

  pub members_all : (start now : VariableList) (done : ℕ) → MembersSoFar clauses inputs index start now done → length now.members ≤ done
      → AllWaitIn index clauses inputs now.members (length now.members)
  members_all start now done h end = λ number from covered to.
      WaitsIn-closed now.members (clause_at clauses number) (length now.members)
      (WaitsIn-end now.members (clause_at clauses number) done end (h.waiting number from covered to))

  -- at the end of a walk in which nothing grew, all clauses are closed
  pub closed_end : (first : ℕ) (mid end : VariableList) → first ≡ index.covered → end ≡ mid
      → ((number : ℕ) → first < number → number ≤ inputs → IsClosedAt end.members (clause_at clauses number))
      → AllWaitIn index clauses inputs mid.members (length mid.members) → All (IsClosedAt end.members) (take inputs clauses)
  closed_end first mid end same still walked waiting = All-from_numbers (IsClosedAt end.members) clauses inputs (λ number from to.
      elim (cases_lt first number) [
        | inl above ↦ walked number above to
        | inr covered ↦ subst (λ (s : VariableList). IsClosedAt s.members (clause_at clauses number)) (sym still)
            (WaitsIn-end mid.members (clause_at clauses number) (length mid.members) (omega arith) (waiting number from (omega arith) to))
      ])

-- a walk over the clauses with numbers above `first` has come to a place
pub record WalksSoFar (clauses : List (List Literal)) (inputs first place : ℕ) (start now : VariableList) (grown : Bool) : Type 0 where
  pub grows : Grows start now grown
  pub reaches : Reaches (take inputs clauses) start now
  pub closed : grown ≡ false → (number : ℕ) → first < number → number ≤ place → IsClosedAt now.members (clause_at clauses number)

or-left : (g h : Bool) → (g || h) ≡ false → g ≡ false
or-left false h e = refl
or-left true h e = absurd (true≢false e)

or-right : (g h : Bool) → (g || h) ≡ false → h ≡ false
or-right false h e = e
or-right true h e = absurd (true≢false e)

module _ (clauses : List (List Literal)) (inputs first : ℕ) where
  pub walks_none : (s : VariableList) → WalksSoFar clauses inputs first first s s false
  walks_none s = record {
    grows = Grows-none s;
    reaches = Reaches-none (take inputs clauses) s;
    closed = λ _ number above to. absurd (omega arith);
  }

  pub walks_more : (place : ℕ) (start now next : VariableList) (grown more : Bool) → inputs ≤ length clauses → place < inputs
      → WalksSoFar clauses inputs first place start now grown → Grows now next more → IsClosedAt next.members (clause_at clauses (place + 1))
      → ((has : ℕ → Bool) → HasAll has now.members → IsClosedUnder has (clause_at clauses (place + 1) ∷ []) → HasAll has next.members)
      → WalksSoFar clauses inputs first (place + 1) start next (grown || more)
  walks_more place start now next grown more enough within h grows closed least = record {
    grows = Grows-then start now next grown more h.grows grows;
    reaches = Reaches-then (take inputs clauses) start now next h.reaches
        (Reaches-clause clauses inputs (place + 1) now next more enough (omega arith) (omega arith) grows least);
    closed = λ e number above to. elim (cases_eq number (place + 1)) [
      | inl same ↦ subst (λ n. IsClosedAt next.members (clause_at clauses n)) (sym same) closed
      | inr other ↦ subst (λ (s : VariableList). IsClosedAt s.members (clause_at clauses number)) (sym (grows.still (or-right grown more e)))
          (h.closed (or-left grown more e) number above (omega arith))
    ];
  }

-- the cone on its way: what is in, and what waits
pub record MarksSoFar (clauses : List (List Literal)) (inputs variables : ℕ) (index : OccurrenceLists) (assumptions : List Literal) (now : VariableList)
    (done : ℕ) : Type 0 where
  pub so_far : ReachesSoFar (take inputs clauses) assumptions now
  pub same_variables : now.variables ≡ variables
  pub waiting : AllWaitIn index clauses inputs now.members done
