-- A line that was read to its end, or to a limit: what it is of the text that was left.
use Rattle.std.proofs.Common.{◌≡◌, ◌≢◌, ℕ, zero, suc, ◌+◌, ◌-◌, ◌<◌, ◌≤◌, List, [], ◌∷◌, ◌++◌, length, take, Option, Some, None, Result, Ok, Err, refl, ap, sym}
use Rattle.std.proofs.Common.{subst, ◌∙◌, arith, length-append, append_assoc}
use Rattle.std.proofs.lemmas.List.{take-append-le}
use Rattle.std.proofs.lemmas.List.Elements.{All-tail, All-take}
use Rattle.dist_base.specs.Ascii.{line_feed}
use Rattle.dist_outside.specs.declared.limits.Limits.{Limits}
use Rattle.dist_cert.specs.FileLines.{IsOneLine, IsTooLong}
use Rattle.dist_cert.specs.Reading.{in_front, WhereTold, PassesWhole, KeepsLimits}
use Rattle.dist_cert.specs.Held.{Held}
use Rattle.dist_outside.specs.declared.trouble.What.TheVariants.{Certificate}
use Rattle.dist_outside.specs.declared.trouble.WorkError.{WorkError}
use Rattle.dist_outside.specs.declared.trouble.WorkError.TheVariants.{TooLarge}
use Rattle.dist_cert.specs.declared.lines.Reached.{Reached}
use Rattle.dist_cert.specs.declared.lines.Reached.TheVariants.{Feed, File, Within}
use Rattle.dist_cert.specs.LineReadingPrivate.{held_text, KeepsText, IsReached, came, IsJudged, Ends, EndsOr, EndsOrSome}

-- ---- what is told

-- a text that is told begins with what is held
pub begins : (held : List ℕ) (left : Option (List ℕ)) (rest : List ℕ) → in_front held left ≡ Some rest → (more : List ℕ) × (rest ≡ held ++ more)
begins held None rest e = absurd (let bad = e in cc)
begins held (Some bytes) rest e = (bytes, let same = e in cc)

-- no byte was lost, and what is held is known at the end
pub ends : (before : Option (List ℕ)) (new : Held) (left : Option (List ℕ)) (result : Result Reached WorkError) (At : List ℕ → Type 0)
    → WhereTold before (in_front (held_text new) left) (λ rest more. KeepsText result new rest more)
    → ((rest more : List ℕ) → rest ≡ held_text new ++ more → (result ≡ Ok File → rest ≡ new.line) → At rest)
    → WhereTold before (in_front (held_text new) left) (Ends At)
ends None new left result At h f = h
ends (Some rest) new left result At h f = let b = begins (held_text new) left h.0 h.1 in
    (h.0, h.1, (h.2.same, f rest b.0 (sym h.2.same ∙ b.1) h.2.whole))

-- the same text is told after two calls
pub told_then : (before mid after : Option (List ℕ)) (At : List ℕ → Type 0) → WhereTold before mid (λ rest more. more ≡ rest)
    → WhereTold mid after (λ rest more. (more ≡ rest) × At rest) → WhereTold before after (λ rest more. (more ≡ rest) × At rest)
told_then None mid after At e h = subst (λ m. WhereTold m after (λ rest more. (more ≡ rest) × At rest)) e h
told_then (Some rest) mid after At (more, e, same) h = subst (λ r. WhereTold (Some r) after (λ rest more. (more ≡ rest) × At rest)) same
    (subst (λ m. WhereTold m after (λ rest more. (more ≡ rest) × At rest)) e h)

-- ---- lines

-- the first bytes of a line are without a line feed
pub front : (n : ℕ) (line more : List ℕ) → n ≤ length line → IsOneLine line → IsOneLine (take n (line ++ more))
front n line more within one = subst IsOneLine (sym (take-append-le n line more within)) (All-take (λ byte. byte ≢ line_feed) n line one)

-- and more bytes than the line has are not
pub past : (n : ℕ) (line more : List ℕ) → length line < n → ¬ IsOneLine (take n (line ++ line_feed ∷ more))
past zero line more short h = omega (arith, short)
past (suc n) [] more short h = h 0 0 (omega arith) refl
past (suc n) (x ∷ line) more short h = past n line more (omega (arith, short)) (All-tail (λ byte. byte ≢ line_feed) x (take n (line ++ line_feed ∷ more)) h)

module _ (limits : Limits) (given : ℕ) (within : given ≤ limits.certificate) (line : List ℕ) (one : IsOneLine line) where
  -- the byte that passes the limit of the whole is one of the line, or its line feed
  pub passes : (more : List ℕ) → limits.certificate - given ≤ length line → limits.certificate - given < length (line ++ more)
      → limits.certificate - given < limits.record_line → PassesWhole limits given (line ++ more)
  passes more inside came short = record {
    passed = omega (arith, came, within);
    in_line = front (limits.certificate - given) line more inside one;
    not_before = omega (arith, short, within);
  }

  -- the line has as many bytes as its limit
  pub too_long : (more : List ℕ) → limits.record_line ≤ length line → IsTooLong limits (line ++ more)
  too_long more long = (omega (arith, long, length-append line more), front limits.record_line line more long one)

  -- a line with its line feed keeps the limits
  pub keeps : (more : List ℕ) → length line < limits.record_line → (limits.certificate - given < limits.record_line → length line < limits.certificate - given)
      → KeepsLimits limits given (line ++ line_feed ∷ more)
  keeps more short room = record {
    whole = λ p. past (limits.certificate - given) line more (room (omega (arith, p.not_before, within))) p.in_line;
    line = λ t. past limits.record_line line more short t.1;
  }

  -- and so does one at the end of the text
  pub keeps_last : length line < limits.record_line → (limits.certificate - given < limits.record_line → length line ≤ limits.certificate - given)
      → KeepsLimits limits given line
  keeps_last short room = record {
    whole = λ p. omega (arith, p.passed, room (omega (arith, p.not_before, within)), within);
    line = λ t. omega (arith, t.0, short);
  }

  -- a line that is too long was so before the limit of the whole
  pub not_passed : (rest : List ℕ) → (limits.certificate - given < limits.record_line → length line ≤ limits.certificate - given)
      → limits.record_line ≤ length line
      → ¬ PassesWhole limits given rest
  not_passed rest room long p = omega (arith, room (omega (arith, p.not_before, within)), p.not_before, long, within)

-- ---- where the reading ended

least : (reached : Reached) (n : ℕ) → n ≤ came reached n
least Feed n = omega arith
least File n = omega arith
least Within n = omega arith

most : (reached : Reached) (n : ℕ) → came reached n ≤ n + 1
most Feed n = omega arith
most File n = omega arith
most Within n = omega arith

all_there : (old new : Held) (reached : Reached) → IsReached old new (Ok reached) → (more : List ℕ)
    → came reached (length new.line) ≤ length (new.line ++ (new.behind ++ more))
all_there old new Feed (behind, is) more = let n = ap length is in omega (arith, n, length-append new.line (new.behind ++ more), length-append new.behind more)
all_there old new File is more = omega (arith, length-append new.line (new.behind ++ more))
all_there old new Within is more = omega (arith, length-append new.line (new.behind ++ more))

abbrev reached_ok : Reached → Result Reached WorkError
reached_ok reached = Ok reached

-- from what is held
pub judged : (limits : Limits) (given : ℕ) → given ≤ limits.certificate → (old new : Held) → IsOneLine new.line → (reached : Reached)
    → IsReached old new (Ok reached)
    → (result : Result (Option Reached) WorkError) → IsJudged limits (limits.certificate - given) (length new.line) reached result
    → (rest more : List ℕ) → rest ≡ held_text new ++ more → (reached_ok reached ≡ Ok File → rest ≡ new.line) → EndsOr limits given new rest result
judged limits given within old new one reached is (Ok None) j rest more e whole = tt
judged limits given within old new one reached is (Ok (Some Within)) j rest more e whole = (
  not_passed limits given within new.line one rest (λ short. omega (arith, j.1 short, least reached (length new.line))) j.0,
  subst (IsTooLong limits) (sym (e ∙ append_assoc new.line new.behind more)) (too_long limits given within new.line one (new.behind ++ more) j.0),
)
judged limits given within old new one Feed is (Ok (Some Feed)) j rest more e whole =
    let parts : rest ≡ new.line ++ line_feed ∷ (is.0 ++ more) = e ∙ append_assoc new.line new.behind more ∙ ap (λ b. new.line ++ (b ++ more)) is.1 in
    subst (KeepsLimits limits given) (sym parts) (keeps limits given within new.line one (is.0 ++ more) j.1 (λ short. omega (arith, j.2 short)))
judged limits given within old new one reached is (Ok (Some Feed)) j rest more e whole = absurd (let bad = j.0 in cc)
judged limits given within old new one reached is (Ok (Some File)) j rest more e whole =
    let all : rest ≡ new.line = whole (ap Ok j.0) in (
      subst (KeepsLimits limits given) (sym all) (keeps_last limits given within new.line one j.1
          (λ short. omega (arith, j.2 short, least reached (length new.line)))),
      all,
    )
judged limits given within old new one reached is (Err (TooLarge Certificate)) j rest more e whole =
    subst (PassesWhole limits given) (sym (e ∙ append_assoc new.line new.behind more))
    (passes limits given within new.line one (new.behind ++ more) (omega (arith, j.0, most reached (length new.line)))
    (omega (arith, j.0, all_there old new reached is more)) j.1)
judged limits given within old new one reached is (Err error) j rest more e whole = absurd j

-- the same of some bytes, whatever is told
pub judged_some : (limits : Limits) (given : ℕ) → given ≤ limits.certificate → (old new : Held) → IsOneLine new.line → (reached : Reached)
    → IsReached old new (Ok reached)
    → (result : Result (Option Reached) WorkError) → IsJudged limits (limits.certificate - given) (length new.line) reached result
    → EndsOrSome limits given new result
judged_some limits given within old new one reached is (Ok None) j = tt
judged_some limits given within old new one reached is (Ok (Some Within)) j = (
  new.line ++ [],
  not_passed limits given within new.line one (new.line ++ []) (λ short. omega (arith, j.1 short, least reached (length new.line))) j.0,
  too_long limits given within new.line one [] j.0,
)
judged_some limits given within old new one Feed is (Ok (Some Feed)) j =
    λ more. keeps limits given within new.line one more j.1 (λ short. omega (arith, j.2 short))
judged_some limits given within old new one reached is (Ok (Some Feed)) j = absurd (let bad = j.0 in cc)
judged_some limits given within old new one reached is (Ok (Some File)) j =
    keeps_last limits given within new.line one j.1 (λ short. omega (arith, j.2 short, least reached (length new.line)))
judged_some limits given within old new one reached is (Err (TooLarge Certificate)) j = (
  new.line ++ (new.behind ++ []),
  passes limits given within new.line one (new.behind ++ []) (omega (arith, j.0, most reached (length new.line)))
      (omega (arith, j.0, all_there old new reached is [])) j.1,
)
judged_some limits given within old new one reached is (Err error) j = absurd j
