use Rattle.std.proofs.Common.{◌≡◌, ◌∙◌, ℕ, inl, inr, List, [], ◌++◌, get_or, take, replicate, ap, arith}
use Rattle.std.proofs.Math.Seq.{take-nil}
use Rattle.std.proofs.lemmas.Bool.{cases_lt}
use Rattle.std.proofs.lemmas.List.{get_or-replicate, get_or_past, length-replicate}
use Rattle.dist_derive.specs.OccurrencesPrivate.{code_of}
use Rattle.dist_search.proofs.search.Search.new.Goals as goal

zero_at : (m k : ℕ) → let zero : ℕ = 0 in get_or (replicate m zero) k zero ≡ zero
zero_at m k = elim (cases_lt k m) [
  | inl within ↦ get_or-replicate m k 0 0 within
  | inr past ↦ (let zero : ℕ = 0 in get_or_past (replicate m zero) k zero (omega (arith, past, length-replicate m zero)))
]

zeros : (n m : ℕ) (xs ys : List ℕ) (k : ℕ) → xs ≡ [] → ys ≡ take n xs ++ replicate m 0 → get_or ys k 0 ≡ 0
zeros n m xs ys k none is = ap (λ zs. get_or zs k 0)
    (is ∙ (ap (λ zs. take n zs ++ replicate m 0) none ∙ ap (λ zs. zs ++ replicate m 0) (take-nil n))) ∙ zero_at m k

pub returns-clause-watching : goal.returns-clause-watching
returns-clause-watching c = λ clauses. record {
  within = omega arith;
  watches = c.in_ok-watches.ensures clauses;
  covered = λ number from to. absurd (omega (arith, from, to));
  singles = λ l some. absurd (some (zeros _ _ c.new-singles.result.items c.resize.new.self.items (code_of l) c.new-singles.ensures.items
      c.in_ok-resize.ensures.items));
}
