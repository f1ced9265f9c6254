-- Lists of the clauses that have a code, linked through one list of links. The places of links count from 1.
use Rattle.std.specs.Prelude.{◌≡◌, ◌≢◌, ◌⊎◌, ℕ, zero, suc, ◌+◌, ◌*◌, ◌-◌, ◌<◌, ◌≤◌, true, if◌then◌else◌}
use Rattle.std.specs.Prelude.{List, length, All, AllPairs, Contains, slice_index, slice_index_or}
use Rattle.dist_clause.specs.Formula.{Literal}
use Rattle.dist_clause.specs.ClauseList.{clause_at}
use Rattle.dist_derive.specs.Follows.{IsNumberOf}
use Rattle.dist_derive.specs.declared.occurrences.Link.{Link}

-- for each code the place of its latest link (0: it has none), the links, and how many clauses are in
pub record OccurrenceLists : Type 0 where
  pub heads : List ℕ
  pub links : List Link
  pub covered : ℕ

abbrev pub code_of : Literal → ℕ
code_of l = 2 * l.variable + (if l.positive then 1 else 0)

-- a clause has the codes of its literals, and 0 where none is negative
abbrev pub HasCode : List Literal → ℕ → Type 0
HasCode clause code = ((code ≡ 0) × All (λ l. l.positive ≡ true) clause)
    ⊎ ((l : Literal) × Contains clause l × (code ≡ code_of l))

abbrev pub link_at : List Link → ℕ → Link
link_at links place = slice_index_or links (place - 1) (record { number = 0; next = 0 })

-- a number stands so many links behind a place
abbrev pub StandsBehind : List Link → ℕ → ℕ → ℕ → Type 0
StandsBehind links zero place number = (1 ≤ place) × (place ≤ length links)
    × ((link_at links place).number ≡ number)
StandsBehind links (suc steps) place number = (1 ≤ place) × (place ≤ length links)
    × StandsBehind links steps (link_at links place).next number

-- the list from a place has a number, and so has a code's list
abbrev pub Lists : List Link → ℕ → ℕ → Type 0
Lists links place number = (steps : ℕ) × StandsBehind links steps place number

abbrev pub IsListed : OccurrenceLists → ℕ → ℕ → Type 0
IsListed index code number = Lists index.links (slice_index index.heads code) number

-- the covered clauses, in which no variable stands twice, are in the lists of all their codes; a link of another clause
-- is superfluous
pub record IsIndexOf (index : OccurrenceLists) (clauses : List (List Literal)) : Type 0 where
  pub covered : index.covered ≤ length clauses
  pub heads : All (λ place. place ≤ length index.links) index.heads
  pub links : (place : ℕ) → 1 ≤ place → place ≤ length index.links
      → IsNumberOf clauses (link_at index.links place).number × ((link_at index.links place).next < place)
  pub distinct : (number : ℕ) → 1 ≤ number → number ≤ index.covered
      → AllPairs (λ l m. l.variable ≢ m.variable) (clause_at clauses number)
  pub complete : (number code : ℕ) → 1 ≤ number → number ≤ index.covered → HasCode (clause_at clauses number) code
      → IsListed index code number

-- lists have grown by links of one clause, and have what they had
pub record Extends (old new : OccurrenceLists) (number : ℕ) : Type 0 where
  pub same_covered : new.covered ≡ old.covered
  pub kept : (code other : ℕ) → IsListed old code other → IsListed new code other
  pub index : (clauses : List (List Literal)) → IsNumberOf clauses number → IsIndexOf old clauses
      → IsIndexOf new clauses
