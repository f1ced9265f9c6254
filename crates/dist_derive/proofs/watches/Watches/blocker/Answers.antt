use Rattle.std.proofs.Common.{◌≡◌, ℕ, ◌<◌, List, [], length, get_or, inl, inr, ap, sym, subst, ◌∙◌, arith}
use Rattle.std.specs.List.{Contains}
use Rattle.std.proofs.lemmas.Bool.{cases_lt}
use Rattle.std.proofs.lemmas.List.{length-map, get_or_default, get_or_past}
use Rattle.std.proofs.Math.ListN.{get_or-map}
use Rattle.dist_clause.specs.Formula.{Literal}
use Rattle.dist_clause.specs.ClauseList.{clause_at}
use Rattle.dist_derive.specs.Watches.{WatchLists, no_entry, entries_of}
use Rattle.dist_derive.proofs.watches.Watches.blocker.Goals as goal

-- where a list that is found has a place, any default gives it
found_list : (lists : List (List (ℕ × Literal))) (code place : ℕ) (found : List (ℕ × Literal)) → found ≡ get_or lists code found
    → place < length (get_or lists code []) → found ≡ get_or lists code []
found_list lists code place found is within = elim (cases_lt code (length lists)) [
  | inl there ↦ is ∙ get_or_default lists code found [] there
  | inr past ↦ absurd (omega (arith, subst (λ es. place < length es) (get_or_past lists code [] past) within))
]

pub returns-clause-value : goal.returns-clause-value
returns-clause-value c = λ clauses h.
    let entries = entries_of c.args.self.now c.args.literal in
    let entry = get_or entries c.args.place no_entry in
    let f : ℕ × Literal → ℕ = λ e. e.0 in
    let within : c.args.place < length entries = subst (λ n. c.args.place < n) (length-map entries f) c.requires in
    let code = c.code_of-code.result in
    let here : get_or c.self.inside.lists.items code [] ≡ entries = ap (λ (w : WatchLists). get_or w.lists code []) c.self.view_is
    ∙ ap (λ k. get_or c.args.self.now.lists k []) c.code_of-code.ensures in
    let list : c.index.result.now ≡ entries = found_list c.self.inside.lists.items code c.args.place c.index.result.now c.index.ensures
    (subst (λ es. c.args.place < length es) (sym here) within) ∙ here in
    let same : c.blocker.result ≡ entry.1 = c.blocker.ensures ∙ ap (λ es. (get_or es c.args.place no_entry).1) list in
    subst (λ n. Contains (clause_at clauses n) c.blocker.result) (sym (get_or-map f entries c.args.place no_entry))
    (subst (λ l. Contains (clause_at clauses entry.0) l) (sym same) (h.blocked c.args.literal c.args.place no_entry within))
