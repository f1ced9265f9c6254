-- The latest installations of packages, where one more comes.
use Rattle.std.proofs.Common.{◌≡◌, inl, inr, ℕ, zero, suc, ◌+◌, ◌-◌, ◌<◌, ◌≤◌, Bool, true, false, if◌then◌else◌, get_or-set_other, get_or-set_same, length-set}
use Rattle.std.proofs.Common.{slice_set, List, [], ◌∷◌, ◌++◌, length, get_or, refl, ap, sym, subst, ◌∙◌, arith, length-append}
use Rattle.std.specs.List.{Contains}
use Rattle.std.specs.Prelude.{slice_index}
use Rattle.std.proofs.lemmas.Bool.{cases_eq, cases_lt, true≢false}
use Rattle.std.proofs.lemmas.List.{get_or_append_left, get_or_at}
use Rattle.dist_clause.specs.Formula.{value_of}
use Rattle.dist_space.specs.Space.{IsSpace, SpaceView, variable_of}
use Rattle.dist_space.specs.declared.meaning.Meaning.TheVariants.{Present}
use Rattle.dist_line_write.specs.TrueOnesLaws.{true-ones}
use Rattle.dist_line_write.specs.Words.{true_variables}
use Rattle.dist_outdated.specs.OutdatedPrivate.{AreLatest, AreNoted, IsLatestWith, IsNextHeld}
use Rattle.dist_sweep.specs.FuturesLaws.{present-in}

-- it has the variable, and is the latest
now-latest : (installed : List (List ℕ)) (members : List ℕ) (variable number : ℕ) → Contains members variable → number ≡ length installed + 1
    → IsLatestWith (installed ++ members ∷ []) variable number
now-latest installed members variable number there is =
    let size = length-append installed (members ∷ []) in
    let place : number - 1 ≡ length installed = omega (arith, is) in
    record {
      upto = omega (arith, is, size);
      has = λ from. subst (λ (ms : List ℕ). Contains ms variable)
          (sym (ap (λ (k : ℕ). get_or (installed ++ members ∷ []) k []) place ∙ get_or_at installed members [] [] (length installed) refl)) there;
      none_later = λ later above within. absurd (omega (arith, is, size, above, within));
    }

-- it has not
still-latest : (installed : List (List ℕ)) (members : List ℕ) (variable number : ℕ) → ¬ Contains members variable
    → IsLatestWith installed variable number → IsLatestWith (installed ++ members ∷ []) variable number
still-latest installed members variable number none latest =
    let size = length-append installed (members ∷ []) in
    record {
      upto = omega (arith, latest.upto, size);
      has = λ from. subst (λ (ms : List ℕ). Contains ms variable)
          (sym (get_or_append_left installed (members ∷ []) [] (number - 1) (omega (arith, from, latest.upto)))) (latest.has from);
      none_later = λ later above within there. elim (cases_lt (later - 1) (length installed)) [
        | inl inside ↦ latest.none_later later above (omega (arith, inside, above))
            (subst (λ (ms : List ℕ). Contains ms variable) (get_or_append_left installed (members ∷ []) [] (later - 1) inside) there)
        | inr past ↦
            let place : later - 1 ≡ length installed = omega (arith, past, size, within) in
            none (subst (λ (ms : List ℕ). Contains ms variable)
            (ap (λ (k : ℕ). get_or (installed ++ members ∷ []) k []) place ∙ get_or_at installed members [] [] (length installed) refl) there)
      ];
    }

pub latest-more : (s : SpaceView) (installed : List (List ℕ)) (values : List Bool) (number : ℕ) (latest later : List ℕ) → IsSpace s
    → length values ≡ length s.meanings → number ≡ length installed + 1
    → AreLatest s installed latest → AreNoted s (length s.repository.packages) values number latest later
    → AreLatest s (installed ++ true_variables values ∷ []) later
latest-more s installed values number latest later space size is are noted r within =
    by (value_of values (variable_of s (Present r))) refl
  where
    by : (b : Bool) → value_of values (variable_of s (Present r)) ≡ b
        → IsLatestWith (installed ++ true_variables values ∷ []) (variable_of s (Present r)) (slice_index later r)
    by true holds =
        let range = present-in s r space within in
        now-latest installed (true_variables values) (variable_of s (Present r)) (slice_index later r)
        ((true-ones values (variable_of s (Present r)) range.from_one (omega (arith, range.upto, size))).1 holds)
        (noted.each r within ∙ ap (λ (b : Bool). if b then number else slice_index latest r) holds ∙ is)
    by false lacks =
        let range = present-in s r space within in
        let same : slice_index later r ≡ slice_index latest r =
        noted.each r within ∙ ap (λ (b : Bool). if b then number else slice_index latest r) lacks in
        subst (λ (n : ℕ). IsLatestWith (installed ++ true_variables values ∷ []) (variable_of s (Present r)) n) (sym same)
        (still-latest installed (true_variables values) (variable_of s (Present r)) (slice_index latest r)
        (λ there. true≢false (sym ((true-ones values (variable_of s (Present r)) range.from_one (omega (arith, range.upto, size))).0 there) ∙ lacks))
        (are r within))

-- ---- one package after another

pub none-noted : (s : SpaceView) (values : List Bool) (number : ℕ) (latest : List ℕ) → AreNoted s 0 values number latest latest
none-noted s values number latest = record {
  size = refl;
  each = λ r within. absurd (omega (arith, within));
  rest = λ r past. refl;
}

pub noted-more : (s : SpaceView) (n : ℕ) (values : List Bool) (number : ℕ) (old latest new : List ℕ) → n < length latest → new ≡ slice_set latest n number
    → value_of values (variable_of s (Present n)) ≡ true → AreNoted s n values number old latest → AreNoted s (n + 1) values number old new
noted-more s n values number old latest new within is holds noted = record {
  size = ap length is ∙ length-set latest n number ∙ noted.size;
  each = λ r short. elim (cases_eq r n) [
    | inl same ↦
        ap (λ (k : ℕ). slice_index new k) same ∙ ap (λ (xs : List ℕ). slice_index xs n) is ∙ get_or-set_same latest n number 0 within
        ∙ sym (ap (λ (k : ℕ). if value_of values (variable_of s (Present k)) then number else slice_index old r) same
        ∙ ap (λ (b : Bool). if b then number else slice_index old r) holds)
    | inr other ↦
        ap (λ (xs : List ℕ). slice_index xs r) is ∙ get_or-set_other latest n r number 0 (λ e. other (omega (arith, e)))
        ∙ noted.each r (omega (arith, short, other))
  ];
  rest = λ r past.
      ap (λ (xs : List ℕ). slice_index xs r) is ∙ get_or-set_other latest n r number 0 (λ e. absurd (omega (arith, e, past))) ∙ noted.rest r (omega
      (arith, past));
}

pub noted-passed : (s : SpaceView) (n : ℕ) (values : List Bool) (number : ℕ) (old latest : List ℕ) → value_of values (variable_of s (Present n)) ≡ false
    → AreNoted s n values number old latest → AreNoted s (n + 1) values number old latest
noted-passed s n values number old latest lacks noted = record {
  size = noted.size;
  each = λ r short. elim (cases_eq r n) [
    | inl same ↦
        noted.rest r (omega (arith, same))
        ∙ sym (ap (λ (k : ℕ). if value_of values (variable_of s (Present k)) then number else slice_index old r) same
        ∙ ap (λ (b : Bool). if b then number else slice_index old r) lacks)
    | inr other ↦ noted.each r (omega (arith, short, other))
  ];
  rest = λ r past. noted.rest r (omega (arith, past));
}

noted-none : (s : SpaceView) (n d : ℕ) (values : List Bool) (number : ℕ) (old latest : List ℕ)
    → ((r : ℕ) → n ≤ r → r < n + d → value_of values (variable_of s (Present r)) ≡ false)
    → AreNoted s n values number old latest → AreNoted s (n + d) values number old latest
noted-none s n zero values number old latest none noted = let same : n + 0 ≡ n = omega arith in
    subst (λ (m : ℕ). AreNoted s m values number old latest) (sym same) noted
noted-none s n (suc d) values number old latest none noted =
    let next : (n + d) + 1 ≡ n + suc d = omega arith in
    subst (λ (m : ℕ). AreNoted s m values number old latest) next
    (noted-passed s (n + d) values number old latest (none (n + d) (omega arith) (omega arith))
    (noted-none s n d values number old latest (λ r from within. none r from (omega (arith, within))) noted))

-- those from n on before the next one that is held are passed
pub noted-next : (s : SpaceView) (n next : ℕ) (values : List Bool) (number : ℕ) (old latest : List ℕ) → IsNextHeld s values n next
    → AreNoted s n values number old latest → AreNoted s next values number old latest
noted-next s n next values number old latest held noted =
    let same : n + (next - n) ≡ next = omega (arith, held.from) in
    subst (λ (m : ℕ). AreNoted s m values number old latest) same
    (noted-none s n (next - n) values number old latest (λ r from within. held.none r from (omega (arith, within, held.from))) noted)

-- the first true variable behind those of the packages before
pub next-held : (s : SpaceView) (values : List Bool) (r next : ℕ) → ((number : ℕ) → number < length s.repository.packages
    → variable_of s (Present number) ≡ number + 2) → r ≤ next → next ≤ length s.repository.packages
    → (next < length s.repository.packages → value_of values (next + 2) ≡ true)
    → ((w : ℕ) → r + 2 ≤ w → w < next + 2 → value_of values w ≡ false) → IsNextHeld s values r next
next-held s values r next first from within holds none = record {
  from = from;
  within = within;
  holds = λ short. ap (value_of values) (first next short) ∙ holds short;
  none = λ other low high. ap (value_of values) (first other (omega (arith, high, within))) ∙ none (other + 2) (omega (arith, low)) (omega (arith, high));
}
