-- The last lesson is a clause of the log now, and gives its first literal.
use Rattle.std.proofs.Common.{◌≡◌, ◌≢◌, ℕ, suc, zero, ⊎_elim, inl, inr, ◌-◌, ◌<◌, ◌≤◌, List, [], ◌∷◌, ◌++◌, length, get_or, take, refl, ap, sym, subst}
use Rattle.std.proofs.Common.{◌∙◌, arith, length-take}
use Rattle.std.specs.List.{All, AllPairs, Contains}
use Rattle.std.proofs.lemmas.Bool.{cases_eq, cases_lt}
use Rattle.std.proofs.lemmas.List.{get_or_default, get_or-take, get_or_past, take-append-le}
use Rattle.std.proofs.lemmas.List.Elements.{All-push, All-contains, Contains-push}
use Rattle.dist_clause.specs.Formula.{Literal, negation}
use Rattle.dist_clause.specs.ClauseList.{clause_at}
use Rattle.dist_derive.specs.ContainmentPrivate.{ContainsAll}
use Rattle.dist_derive.specs.Propagation.{IsFalse, IsUnit}
use Rattle.dist_derive.specs.Follows.{IsNumberOf}
use Rattle.dist_derive.specs.Watches.{WatchLists, entries_of, pair_of, AreWatchesOf, IsWatched, IsPairKept, IsGuarded, IsFree, HasTrueOne}
use Rattle.dist_search.proofs.ContainmentLemmas.{ContainsAll-itself, ContainsAll-push}
use Rattle.dist_search.proofs.GuardLemmas.{true_one_more, kept_free}
use Rattle.dist_search.proofs.GuardLiterals.{all_of_first}
use Rattle.dist_search.specs.Trail.{TrailState, IsOrdered, IsTrail, IsGiven, literal_at}
use Rattle.dist_search.specs.Guard.{AreGuarded, IsLevelled}
use Rattle.dist_search.specs.Search.{SearchState, IsWatching, IsGoing, IsSearching, Gives}
use Rattle.dist_search.proofs.QuestionLemmas.{longer, trail_longer}
use Rattle.dist_search.proofs.CoverLemmas.{watching_trail}

-- ---- one clause more

module _ (clauses : List (List Literal)) where
  abbrev pub earlier : List (List Literal)
  earlier = take (length clauses - 1) clauses

  earlier_count : length earlier ≡ length clauses - 1
  earlier_count = omega (arith, length-take (length clauses - 1) clauses)

  clause_earlier : (number : ℕ) → 1 ≤ number → number ≤ length clauses - 1 → clause_at earlier number ≡ clause_at clauses number
  clause_earlier number from to = get_or-take (length clauses - 1) clauses (number - 1) [] (omega (arith, from, to))

  number_later : (number : ℕ) → IsNumberOf earlier number → IsNumberOf clauses number
  number_later number h = (h.0, omega (arith, h.1, earlier_count))

  clause_later : (number : ℕ) → IsNumberOf earlier number → clause_at earlier number ≡ clause_at clauses number
  clause_later number h = clause_earlier number h.0 (omega (arith, h.1, earlier_count))

  watches_later : (w : WatchLists) → AreWatchesOf w earlier → AreWatchesOf w clauses
  watches_later w h = record {
    watched = λ number from apart.
        let watched = h.watched number from apart in
        subst (λ clause. IsWatched w clause number) (same_nonempty number (pair_of w number).0 watched.first) watched;
    blocked = λ l k d within.
        let entry = get_or (entries_of w l) k d in
        let has = h.blocked l k d within in
        subst (λ clause. Contains clause entry.1) (same_nonempty entry.0 entry.1 has) has;
  } where
    -- a clause that has a literal is the same in the longer log
    same_nonempty : (number : ℕ) (l : Literal) → Contains (clause_at earlier number) l → clause_at earlier number ≡ clause_at clauses number
    same_nonempty number l has = elim (cases_lt (number - 1) (length clauses - 1)) [
      | inl within ↦ get_or-take (length clauses - 1) clauses (number - 1) [] within
      | inr past ↦
          let nowhere : Contains [] l = subst (λ clause. Contains clause l) (get_or_past earlier (number - 1) [] (omega (arith, past, earlier_count))) has in
          absurd (omega (arith, nowhere.1))
    ]

  pub watching_later : (s : SearchState) → IsWatching earlier s → IsWatching clauses s
  watching_later s h = record {
    within = omega (arith, h.within, earlier_count);
    watches = watches_later s.watches h.watches;
    covered = λ number from to. ⊎_elim
        (λ apart. inl apart)
        (λ single. inr (single.0, sym (clause_later number (from, omega (arith, to, h.within))) ∙ single.1, single.2))
        (h.covered number from to);
    singles = λ l some. let known = h.singles l some in (number_later _ known.0, sym (clause_later _ known.0) ∙ known.1);
  }

  given_later : (trail : TrailState) (place : ℕ) → IsGiven earlier trail place → IsGiven clauses trail place
  given_later trail place h = record {
    number = number_later (get_or trail.reasons place 0) h.number;
    unit = subst (λ clause. IsUnit (take place trail.literals) clause (literal_at trail.literals place))
        (clause_later (get_or trail.reasons place 0) h.number) h.unit;
  }

  pub trail_later : (assumptions : List Literal) (trail : TrailState) → IsTrail earlier assumptions trail → IsTrail clauses assumptions trail
  trail_later assumptions trail h = record {
    assumed = h.assumed;
    behind = h.behind;
    given = λ place within. ⊎_elim (λ g. inl (given_later trail place g)) (λ g. inr g) (h.given place within);
  }

-- ---- the lesson as the last clause

module _ (clauses : List (List Literal)) (assumptions : List Literal) (cone : List ℕ) (a b : SearchState) (number : ℕ) (is : number ≡ length clauses)
    (some : 1 ≤ length clauses) (g : Gives cone a) (line : clause_at clauses number ≡ g.first ∷ g.rest) (ordered : IsOrdered a.trail)
    (conflict : b.conflict ≡ a.conflict) (watched : b.watched ≡ number)
    (pair : (one other : Literal) (more : List Literal) → g.first ∷ g.rest ≡ one ∷ other ∷ more → pair_of b.watches number ≡ (one, other))
    (others : (n : ℕ) → 1 ≤ n → n ≢ number → IsPairKept a.watches.pairs b.watches.pairs n) (watching : IsWatching clauses b)
    (searching : IsSearching (earlier clauses) assumptions cone a) (going : IsGoing (earlier clauses) cone a) where
  abbrev trues : List Literal
  trues = a.trail.literals

  abbrev more_trues : List Literal
  more_trues = trues ++ g.first ∷ []

  front_same : (n : ℕ) → n ≤ length trues → take n more_trues ≡ take n trues
  front_same n within = take-append-le n trues (g.first ∷ []) within

  -- it is unit by its first literal
  others_false : (k : ℕ) (d : Literal) → k < length (g.first ∷ g.rest) → get_or (g.first ∷ g.rest) k d ≢ g.first
      → IsFalse trues (get_or (g.first ∷ g.rest) k d)
  others_false zero d within other = absurd (other refl)
  others_false (suc k) d within other = g.denied k d (omega (arith, within))

  lesson_unit : IsUnit trues (clause_at clauses number) g.first
  lesson_unit = subst (λ clause. IsUnit trues clause g.first) (sym line)
      (record { member = (0, omega arith, refl); unset = g.unset; others = others_false })

  lesson_has : (n : ℕ) → n ≡ number → Contains (clause_at clauses n) g.first
  lesson_has n same = subst (λ k. Contains (clause_at clauses k) g.first) (sym same) lesson_unit.member

  -- its two watched literals are free before each decision
  lesson_free : (n : ℕ) → Contains a.trail.starts n → IsFree b.watches (take n trues) number
  lesson_free n start = go g.rest refl where
    go : (rest : List Literal) → g.rest ≡ rest → IsFree b.watches (take n trues) number
    go [] none = absurd (omega (arith, start.1, ap (λ (starts : List ℕ). length starts) (g.alone none)))
    go (second ∷ more) rest =
        let same = pair g.first second more (ap (λ ls. g.first ∷ ls) rest) in
        let distinct = subst (λ clause. AllPairs (λ (l m : Literal). l.variable ≢ m.variable) clause) (g.is ∙ ap (λ ls. g.first ∷ ls) rest) g.distinct in
        let late : ¬ IsFalse (take n trues) second =
        All-contains (λ s. ¬ IsFalse (take s trues) second) a.trail.starts n (g.latest second more rest) start in
        record {
          apart = subst (λ (p : Literal × Literal). p.0 ≢ p.1) (sym same)
              (λ e. distinct 0 1 second (omega arith) (omega arith) (ap (λ (l : Literal). l.variable) e));
          first_free = subst (λ (p : Literal × Literal). ¬ IsFalse (take n trues) p.0) (sym same)
              (λ h. g.unset.1 (All-contains (Contains trues) (take n trues) (negation g.first) (all_of_first n trues) h));
          second_free = subst (λ (p : Literal × Literal). ¬ IsFalse (take n trues) p.1) (sym same) late;
        }

  -- the clauses before it stay guarded
  guarded_before : (few more seen : List Literal) → ContainsAll more few → AreGuarded a.watches (earlier clauses) cone few seen → (n : ℕ) → 1 ≤ n
      → n ≤ length clauses → n ≢ number → All (λ l. Contains cone l.variable) (clause_at clauses n)
      → IsGuarded b.watches more seen (clause_at clauses n) n
  guarded_before few more seen among guarded n from to other within =
      let below : n ≤ length clauses - 1 = omega (arith, to, other, is) in
      let same = clause_earlier clauses n from below in
      let count = earlier_count clauses in
      let inside = subst (λ clause. All (λ (l : Literal). Contains cone l.variable) clause) (sym same) within in
      ⊎_elim
      (λ t. inl (true_one_more few more (clause_at clauses n) among (subst (λ clause. HasTrueOne few clause) same t)))
      (λ f. inr (kept_free a.watches b.watches n (others n from other) seen f))
      (guarded n from (omega (arith, below, count)) inside)

  are_guarded : AreGuarded b.watches clauses cone more_trues (take a.trail.head more_trues)
  are_guarded n from to within =
      subst (λ seen. IsGuarded b.watches more_trues seen (clause_at clauses n) n) (sym (front_same a.trail.head ordered.to_end))
      (elim (cases_eq n number) [
        | inl same ↦ inl (g.first, lesson_has n same, Contains-push trues g.first)
        | inr other ↦ guarded_before trues more_trues (take a.trail.head trues) (ContainsAll-push trues g.first) going.guarded n from to other within
      ])

  guarded_at : (s : ℕ) → Contains a.trail.starts s → AreGuarded a.watches (earlier clauses) cone (take s trues) (take s trues)
      → AreGuarded b.watches clauses cone (take s trues) (take s trues)
  guarded_at s start before n from to within = elim (cases_eq n number) [
    | inl same ↦ inr (subst (λ k. IsFree b.watches (take s trues) k) (sym same) (lesson_free s start))
    | inr other ↦ guarded_before (take s trues) (take s trues) (take s trues) (ContainsAll-itself (take s trues)) before n from to other within
  ]

  are_levelled : IsLevelled b.watches clauses cone (longer a.trail g.first number)
  are_levelled k d within =
      let s = get_or a.trail.starts k d in
      let start : Contains a.trail.starts s = (k, within, get_or_default a.trail.starts k s d within) in
      let inside : s ≤ length trues = omega (arith, ordered.decided k d within) in
      subst (λ seen. AreGuarded b.watches clauses cone seen seen) (sym (front_same s inside)) (guarded_at s start (going.levelled k d within))

  pub searching_on : IsSearching clauses assumptions cone (record b { trail = longer a.trail g.first number })
  searching_on = record {
    watching = watching_trail clauses b (longer a.trail g.first number) watching;
    trail = trail_longer clauses a.trail g.first number ordered.reasons (omega (arith, is, some), omega (arith, is)) lesson_unit assumptions
        (trail_later clauses assumptions a.trail searching.trail);
    within_cone = All-push (λ l. Contains cone l.variable) trues g.first searching.within_cone
        (All-contains (λ (l : Literal). Contains cone l.variable) a.learned.clause g.first g.within_cone
        (subst (λ clause. Contains clause g.first) (sym g.is) (0, omega arith, refl)));
    stands = inl (record {
      none = conflict ∙ going.none;
      all = watched ∙ is;
      guarded = are_guarded;
      levelled = are_levelled;
    });
  }
