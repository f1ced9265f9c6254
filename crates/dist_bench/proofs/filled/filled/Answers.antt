use Rattle.std.proofs.Common.{◌≡◌, ℕ, zero, suc, ◌+◌, ◌<◌, [], ◌∷◌, length, get_or, ap, sym, subst, arith}
use Rattle.dist_clause.specs.Formula.{Literal, IsClauseOver}
use Rattle.dist_bench.proofs.filled.filled.Goals as goal

-- four literals of the variables 1 to 4
four : (a b c d : Literal) → a.variable ≡ 1 → b.variable ≡ 2 → c.variable ≡ 3 → d.variable ≡ 4 → IsClauseOver 4 (a ∷ b ∷ c ∷ d ∷ [])
four a b c d first second third fourth = record {
  in_range = λ k e within. let v = at a b c d first second third fourth k e within in (omega arith, omega arith);
  distinct = λ i j e before within. λ same.
      let v = at a b c d first second third fourth i e (omega arith) in
      let w = at a b c d first second third fourth j e within in
      omega arith;
}
  where
    at : (a b c d : Literal) → a.variable ≡ 1 → b.variable ≡ 2 → c.variable ≡ 3 → d.variable ≡ 4 → (k : ℕ) (e : Literal) → k < length (a ∷ b ∷ c ∷ d ∷ [])
        → (get_or (a ∷ b ∷ c ∷ d ∷ []) k e).variable ≡ k + 1
    at a b c d first second third fourth zero e within = first
    at a b c d first second third fourth (suc zero) e within = second
    at a b c d first second third fourth (suc (suc zero)) e within = third
    at a b c d first second third fourth (suc (suc (suc zero))) e within = fourth
    at a b c d first second third fourth (suc (suc (suc (suc k)))) e within = absurd (omega arith)

pub push-requires : goal.push-requires
push-requires c =
    let variable : Literal → ℕ = λ l. l.variable in
    subst (λ n. IsClauseOver n (c.new.result ∷ c.new-2.result ∷ c.new-3.result ∷ c.new-4.result ∷ [])) (sym c.loop.invariant.variables)
    (four c.new.result c.new-2.result c.new-3.result c.new-4.result (ap variable c.new.ensures) (ap variable c.new-2.ensures) (ap variable c.new-3.ensures)
    (ap variable c.new-4.ensures))
