-- The row of the candidates, step by step.
use Rattle.std.proofs.Common.{◌≡◌, ◌≢◌, inl, inr, ℕ, ◌-◌, ◌≤◌, ◌==◌, ◌&&◌, Bool, true, false, List, [], ◌∷◌, ◌++◌, length, slice_set, ap}
use Rattle.std.proofs.Common.{sym, subst, ◌∙◌, arith, length-set, not}
use Rattle.std.proofs.lemmas.Bool.{and_from, and_parts, cases_eq, true≢false}
use Rattle.std.proofs.lemmas.List.Elements.{All-drop, All-push}
use Rattle.dist_cert.specs.declared.TheConstants.{REACH}
use Rattle.dist_clause.specs.Formula.{value_of}
use Rattle.dist_strong.specs.Candidates.{AreCandidates}
use Rattle.dist_strong.specs.Group.{GroupView, IsCandidate, IsNarrowed, is_open}
use Rattle.dist_strong.proofs.Opens.{open-from, open-parts, value-beside, value-cleared, value-other}
use Rattle.dist_sweep.specs.Window.{HasEach, WindowView, added}

-- ---- one was asked for

-- of two groups the other packages are row in both or in none
abbrev pub OpensAlike : GroupView → GroupView → ℕ → Type 0
OpensAlike old new q = (r : ℕ) → 1 ≤ r → r ≢ q → is_open new r ≡ is_open old r

pub struck : (w : WindowView) (old new : GroupView) (row : List Bool) (q : ℕ) → new.variables ≡ old.variables → new.claimed ≡ old.claimed
    → 1 ≤ q → q ≤ old.variables → is_open new q ≡ false → OpensAlike old new q → AreCandidates w old row
    → AreCandidates w new (slice_set row (q - 1) false)
struck w old new row q variables claimed low high closed alike are = record {
  size = length-set row (q - 1) false ∙ are.size ∙ sym variables;
  exact = λ r from upto. elim (cases_eq r q) [
    | inl same ↦ (
      (λ holds. absurd (true≢false (sym holds ∙ ap (value_of (slice_set row (q - 1) false)) same ∙ value-cleared row q low (omega (arith, high, are.size))))),
      λ candidate. absurd (true≢false (sym candidate.opens ∙ ap (is_open new) same ∙ closed)),
    )
    | inr other ↦ (
      (λ holds.
          let before = (are.exact r from (omega (arith, upto, variables))).0 (sym (value-beside row q r low from other) ∙ holds) in
          record {
            from_one = from;
            upto = upto;
            opens = alike r from other ∙ before.opens;
            each = subst (λ (p : ℕ). HasEach w p r) (sym claimed) before.each;
          }),
      λ candidate. value-beside row q r low from other ∙ (are.exact r from (omega (arith, upto, variables))).1 (record {
        from_one = from;
        upto = omega (arith, upto, variables);
        opens = sym (alike r from other) ∙ candidate.opens;
        each = subst (λ (p : ℕ). HasEach w p r) claimed candidate.each;
      }),
    )
  ];
}

pub struck-refuted : (w : WindowView) (kept after : GroupView) (row : List Bool) (q : ℕ) → IsCandidate w kept q
    → after ≡ record kept { refuted = slice_set kept.refuted (q - 1) true } → is_open after q ≡ false → AreCandidates w kept row
    → AreCandidates w after (slice_set row (q - 1) false)
struck-refuted w kept after row q candidate becomes closed are = struck w kept after row q (ap (λ (g : GroupView). g.variables) becomes)
    (ap (λ (g : GroupView). g.claimed) becomes) candidate.from_one candidate.upto closed
    (λ r from other. ap (λ (g : GroupView). is_open g r) becomes
    ∙ ap (λ (b : Bool). not (r == kept.claimed) && value_of kept.common r && not b && not (value_of kept.undecided r))
    (value-other kept.refuted q r candidate.from_one from other)) are

pub struck-undecided : (w : WindowView) (kept after : GroupView) (row : List Bool) (q : ℕ) → IsCandidate w kept q
    → after ≡ record kept { undecided = slice_set kept.undecided (q - 1) true } → is_open after q ≡ false → AreCandidates w kept row
    → AreCandidates w after (slice_set row (q - 1) false)
struck-undecided w kept after row q candidate becomes closed are = struck w kept after row q (ap (λ (g : GroupView). g.variables) becomes)
    (ap (λ (g : GroupView). g.claimed) becomes) candidate.from_one candidate.upto closed
    (λ r from other. ap (λ (g : GroupView). is_open g r) becomes
    ∙ ap (λ (b : Bool). not (r == kept.claimed) && value_of kept.common r && not (value_of kept.refuted r) && not b)
    (value-other kept.undecided q r candidate.from_one from other)) are

-- ---- an installation came

-- what each kept installation has is what each one has behind it, if that has it
each-after : (w : WindowView) (values : List Bool) (p q : ℕ) → HasEach w p q → value_of values q ≡ true → HasEach (added w values) p q
each-after w values p q each holds = All-drop (λ v. value_of v p ≡ true → value_of v q ≡ true) (length (w.kept ++ values ∷ []) - REACH)
    (w.kept ++ values ∷ []) (All-push (λ v. value_of v p ≡ true → value_of v q ≡ true) w.kept values each (λ has. holds))

pub narrowed-by : (w : WindowView) (old new : GroupView) (row after values : List Bool) → new ≡ record old { common = new.common }
    → IsNarrowed old.variables old.common values new.common → length after ≡ old.variables
    → ((v : ℕ) → 1 ≤ v → v ≤ length row → value_of after v ≡ (value_of row v && value_of values v))
    → ((q : ℕ) → HasEach (added w values) old.claimed q → HasEach w old.claimed q) → value_of values old.claimed ≡ true
    → AreCandidates w old row → AreCandidates (added w values) new after
narrowed-by w old new row after values is narrowed size both back has are =
    subst (λ (g : GroupView). AreCandidates (added w values) g after) (sym is) (record {
      size = size;
      exact = λ q from upto.
          let here = both q from (omega (arith, upto, are.size)) in (
            (λ holds.
                let parts = and_parts (value_of row q) (value_of values q) (sym here ∙ holds) in
                let before = (are.exact q from upto).0 parts.0 in
                let opens = open-parts old q before.opens in
                record {
                  from_one = from;
                  upto = upto;
                  opens = open-from (record old { common = new.common }) q (record {
                    other = opens.other;
                    common = narrowed q from upto ∙ and_from (value_of old.common q) (value_of values q) opens.common parts.1;
                    refuted = opens.refuted;
                    undecided = opens.undecided;
                  });
                  each = each-after w values old.claimed q before.each parts.1;
                }),
            λ candidate.
                let opens = open-parts (record old { common = new.common }) q candidate.opens in
                let common = and_parts (value_of old.common q) (value_of values q) (sym (narrowed q from upto) ∙ opens.common) in
                here ∙ and_from (value_of row q) (value_of values q) ((are.exact q from upto).1 (record {
                  from_one = from;
                  upto = upto;
                  opens = open-from old q (record { other = opens.other; common = common.0; refuted = opens.refuted; undecided = opens.undecided });
                  each = back q candidate.each;
                })) common.1,
          );
    })
