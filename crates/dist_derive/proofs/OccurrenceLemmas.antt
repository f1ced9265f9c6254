-- Lists of clauses that grow by one link after another.
use Rattle.std.proofs.Common.{◌≡◌, ◌≢◌, ℕ, zero, suc, ◌⊎◌, ◌+◌, ◌-◌, ◌<◌, ◌≤◌, inl, inr, true, List, [], ◌∷◌, ◌++◌, length, get_or, set, replicate}
use Rattle.std.proofs.Common.{refl, ap, sym, subst, ◌∙◌, arith}
use Rattle.std.specs.List.{All, AllPairs}
use Rattle.std.proofs.lemmas.Bool.{cases_eq}
use Rattle.std.proofs.lemmas.List.{length_push, get_or_append_left, get_or_push, get_or-set_same, get_or-set_other}
use Rattle.std.proofs.lemmas.List.Elements.{All-nil, All-weaker, All-set, All-replicate, All-contains, All-get_or}
use Rattle.dist_clause.specs.Formula.{Literal}
use Rattle.dist_clause.specs.ClauseList.{clause_at}
use Rattle.dist_derive.specs.Follows.{IsNumberOf}
use Rattle.dist_derive.specs.OccurrencesPrivate.{OccurrenceLists, code_of, HasCode, link_at, StandsBehind, Lists, IsListed, IsIndexOf, Extends}
use Rattle.dist_derive.specs.declared.occurrences.Link.{Link}

link_at-push : (links : List Link) (link : Link) (place : ℕ) → 1 ≤ place → place ≤ length links → link_at (links ++ link ∷ []) place ≡ link_at links place
link_at-push links link place from to = get_or_append_left links (link ∷ []) (record { number = 0; next = 0 }) (place - 1) (omega arith)

link_at-last : (links : List Link) (link : Link) → link_at (links ++ link ∷ []) (length links + 1) ≡ link
link_at-last links link = get_or_push links link (record { number = 0; next = 0 }) (length links + 1 - 1) (omega arith)

StandsBehind-push : (links : List Link) (link : Link) (steps place number : ℕ) → StandsBehind links steps place number
    → StandsBehind (links ++ link ∷ []) steps place number
StandsBehind-push links link zero place number h = (
  h.0,
  omega (arith, h.1, length_push links link),
  ap (λ (l : Link). l.number) (link_at-push links link place h.0 h.1) ∙ h.2,
)
StandsBehind-push links link (suc steps) place number h = (
  h.0,
  omega (arith, h.1, length_push links link),
  subst (λ (l : Link). StandsBehind (links ++ link ∷ []) steps l.next number) (sym (link_at-push links link place h.0 h.1))
      (StandsBehind-push links link steps (link_at links place).next number h.2),
)

Lists-push : (links : List Link) (link : Link) (place number : ℕ) → Lists links place number → Lists (links ++ link ∷ []) place number
Lists-push links link place number h = (h.0, StandsBehind-push links link h.0 place number h.1)

-- at the new link stand its number and what the list behind it has
Lists-here : (links : List Link) (link : Link) → Lists (links ++ link ∷ []) (length links + 1) link.number
Lists-here links link =
    (0, (omega arith, omega (arith, length_push links link), ap (λ (l : Link). l.number) (link_at-last links link)))

Lists-behind : (links : List Link) (link : Link) (number : ℕ) → Lists links link.next number → Lists (links ++ link ∷ []) (length links + 1) number
Lists-behind links link number h = (
  suc h.0,
  (
    omega arith,
    omega (arith, length_push links link),
    subst (λ (l : Link). StandsBehind (links ++ link ∷ []) h.0 l.next number) (sym (link_at-last links link))
        (StandsBehind-push links link h.0 link.next number h.1),
  ),
)

-- a list goes on with the link at its place
pub Lists-from : (links : List Link) (place number : ℕ) → Lists links place number → (1 ≤ place) × (place ≤ length links)
Lists-from links place number h = bounds h.0 h.1
  where
    bounds : (steps : ℕ) → StandsBehind links steps place number → (1 ≤ place) × (place ≤ length links)
    bounds zero s = (s.0, s.1)
    bounds (suc steps) s = (s.0, s.1)

pub Lists-cases : (links : List Link) (place number : ℕ) → Lists links place number
    → ((link_at links place).number ≡ number) ⊎ Lists links (link_at links place).next number
Lists-cases links place number h = cases h.0 h.1
  where
    cases : (steps : ℕ) → StandsBehind links steps place number
        → ((link_at links place).number ≡ number) ⊎ Lists links (link_at links place).next number
    cases zero s = inl s.2
    cases (suc steps) s = inr (steps, s.2)

pub Extends-none : (s : OccurrenceLists) (number : ℕ) → Extends s s number
Extends-none s number = record { same_covered = refl; kept = λ code other h. h; index = λ clauses is h. h }

pub Extends-then : (a b c : OccurrenceLists) (number : ℕ) → Extends a b number → Extends b c number → Extends a c number
Extends-then a b c number first second = record {
  same_covered = second.same_covered ∙ first.same_covered;
  kept = λ code other h. second.kept code other (first.kept code other h);
  index = λ clauses is h. second.index clauses is (first.index clauses is h);
}

pub lists_are : (heads heads' : List ℕ) (links links' : List Link) (covered covered' : ℕ) → heads ≡ heads' → links ≡ links' → covered ≡ covered'
    → ◌≡◌ {A = OccurrenceLists} (record { heads = heads; links = links; covered = covered }) (record { heads = heads'; links = links'; covered = covered' })
lists_are heads heads' links links' covered covered' h l n = cc

-- one link more, at the front of a code's list
abbrev pub with_link : OccurrenceLists → ℕ → ℕ → OccurrenceLists
with_link old code number = record {
  heads = set old.heads code (length old.links + 1);
  links = old.links ++ (record { number = number; next = get_or old.heads code 0 }) ∷ [];
  covered = old.covered;
}

module _ (old : OccurrenceLists) (code number : ℕ) (within : code < length old.heads) where
  head-same : get_or (with_link old code number).heads code 0 ≡ length old.links + 1
  head-same = get_or-set_same old.heads code (length old.links + 1) 0 within

  pub IsListed-here : IsListed (with_link old code number) code number
  IsListed-here = subst (λ place. Lists (with_link old code number).links place number) (sym head-same)
      (Lists-here old.links (record { number = number; next = get_or old.heads code 0 }))

  IsListed-kept : (other k : ℕ) → IsListed old other k → IsListed (with_link old code number) other k
  IsListed-kept other k h = elim (cases_eq other code) [
    | inl same ↦ subst (λ place. Lists (with_link old code number).links place k)
        (sym (ap (λ i. get_or (with_link old code number).heads i 0) same ∙ head-same))
        (Lists-behind old.links (record { number = number; next = get_or old.heads code 0 }) k
        (subst (λ i. Lists old.links (get_or old.heads i 0) k) same h))
    | inr apart ↦ subst (λ place. Lists (with_link old code number).links place k)
        (sym (get_or-set_other old.heads code other (length old.links + 1) 0 apart))
        (Lists-push old.links (record { number = number; next = get_or old.heads code 0 }) (get_or old.heads other 0) k h)
  ]

  IsIndexOf-kept : (clauses : List (List Literal)) → IsNumberOf clauses number → IsIndexOf old clauses → IsIndexOf (with_link old code number) clauses
  IsIndexOf-kept clauses is h =
      let link : Link = record { number = number; next = get_or old.heads code 0 } in
      let long = length_push old.links link in
      let next : get_or old.heads code 0 ≤ length old.links = All-get_or (λ place. place ≤ length old.links) old.heads code 0 within h.heads in
      record {
        covered = h.covered;
        heads = All-set (λ place. place ≤ length (old.links ++ link ∷ [])) old.heads code (length old.links + 1) (omega arith)
            (All-weaker (λ place. place ≤ length old.links) (λ place. place ≤ length (old.links ++ link ∷ [])) (λ place le. omega (arith, le))
            old.heads h.heads);
        links = λ place from to. elim (cases_eq place (length old.links + 1)) [
          | inl same ↦ subst (λ p. IsNumberOf clauses (link_at (old.links ++ link ∷ []) p).number × ((link_at (old.links ++ link ∷ []) p).next < p)) (sym same)
              (subst (λ (l : Link). IsNumberOf clauses l.number × (l.next < length old.links + 1)) (sym (link_at-last old.links link)) (is, omega arith))
          | inr apart ↦
              let before : place ≤ length old.links = omega arith in
              subst (λ (l : Link). IsNumberOf clauses l.number × (l.next < place)) (sym (link_at-push old.links link place from before))
              (h.links place from before)
        ];
        distinct = h.distinct;
        complete = λ k other from to has. IsListed-kept other k (h.complete k other from to has);
      }

  pub Extends-link : Extends old (with_link old code number) number
  Extends-link = record { same_covered = refl; kept = IsListed-kept; index = IsIndexOf-kept }

-- the clause behind the covered ones is in the lists of its codes
pub IsIndexOf-covered : (index : OccurrenceLists) (clauses : List (List Literal)) (number : ℕ) (clause : List Literal) → IsIndexOf index clauses
    → number ≡ index.covered + 1 → number ≤ length clauses → clause ≡ clause_at clauses number
    → AllPairs (λ l m. l.variable ≢ m.variable) clause
    → (All (λ l. l.positive ≡ true) clause → IsListed index 0 number)
    → All (λ l. IsListed index (code_of l) number) clause → IsIndexOf (record index { covered = number }) clauses
IsIndexOf-covered index clauses number clause h next within is distinct positive literals = record {
  covered = within;
  heads = h.heads;
  links = h.links;
  distinct = λ k from to. elim (cases_eq k number) [
    | inl same ↦ subst (λ (c : List Literal). AllPairs (λ l m. l.variable ≢ m.variable) c) (is ∙ sym (ap (clause_at clauses) same)) distinct
    | inr apart ↦ h.distinct k from (omega arith)
  ];
  complete = λ k code from to has. elim (cases_eq k number) [
    | inl same ↦ subst (λ n. IsListed index code n) (sym same)
        (here code (subst (λ (c : List Literal). HasCode c code) (ap (clause_at clauses) same ∙ sym is) has))
    | inr apart ↦ h.complete k code from (omega arith) has
  ];
}
  where
    here : (code : ℕ) → HasCode clause code → IsListed index code number
    here code (inl a) = subst (λ n. IsListed index n number) (sym a.0) (positive a.1)
    here code (inr a) = subst (λ n. IsListed index n number) (sym a.2) (All-contains (λ l. IsListed index (code_of l) number) clause a.0 literals a.1)

-- an index without lists, and empty lists in place of none
pub IsIndexOf-none : (clauses : List (List Literal)) → IsIndexOf (record { heads = []; links = []; covered = 0 }) clauses
IsIndexOf-none clauses = record {
  covered = omega arith;
  heads = All-nil (λ place. place ≤ 0);
  links = λ place from to. absurd (omega arith);
  distinct = λ k from to. absurd (omega arith);
  complete = λ k code from to has. absurd (omega arith);
}

pub IsIndexOf-empty_lists : (index : OccurrenceLists) (clauses : List (List Literal)) (n : ℕ) → index.heads ≡ [] → IsIndexOf index clauses
    → IsIndexOf (record index { heads = replicate n 0 }) clauses
IsIndexOf-empty_lists index clauses n none h = record {
  covered = h.covered;
  heads = All-replicate (λ place. place ≤ length index.links) n 0 (omega arith);
  links = h.links;
  distinct = h.distinct;
  complete = λ k code from to has.
      let listed = subst (λ heads. Lists index.links (get_or heads code 0) k) none (h.complete k code from to has) in
      absurd (omega (arith, (Lists-from index.links 0 k listed).0));
}

-- more clauses behind those that are in
pub IsIndexOf-more : (index : OccurrenceLists) (clauses : List (List Literal)) (clause : List Literal) → IsIndexOf index clauses
    → IsIndexOf index (clauses ++ clause ∷ [])
IsIndexOf-more index clauses clause h =
    let long = length_push clauses clause in
    let covered = h.covered in
    let earlier = λ (k : ℕ) (from : 1 ≤ k) (to : k ≤ index.covered). get_or_append_left clauses (clause ∷ []) [] (k - 1) (omega arith) in
    record {
      covered = omega arith;
      heads = h.heads;
      links = λ place from to. let link = h.links place from to in ((link.0.0, omega (arith, link.0.1)), link.1);
      distinct = λ k from to. subst (λ (c : List Literal). AllPairs (λ l m. l.variable ≢ m.variable) c) (sym (earlier k from to)) (h.distinct k from to);
      complete = λ k code from to has. h.complete k code from to (subst (λ (c : List Literal). HasCode c code) (earlier k from to) has);
    }
