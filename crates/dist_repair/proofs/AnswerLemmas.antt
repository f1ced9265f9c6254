-- What notes answer is what their findings answer.
use Rattle.std.proofs.Common.{◌≡◌, ◌≢◌, ◌↔◌, ◌⊎◌, inl, inr, ℕ, ◌+◌, ◌<◌, ◌≤◌, ◌==◌, ◌||◌, Bool, true, false, List, ◌∷◌, Option, Some, None, length}
use Rattle.std.proofs.Common.{◌++◌, get_or, refl, sym, ap, ap₂, subst, ◌∙◌, arith}
use Rattle.std.proofs.Common.{◌-◌}
use Rattle.std.specs.Prelude.{Contains, min, nat_le, nat_lt}
use Rattle.std.proofs.lemmas.Bool.{and_from, and_parts, cases_Bool, cond-false, cond-true, eq-eqb, eqb-false, eqb-true, le-leb, leb-false, leb-true, lt-leb}
use Rattle.std.proofs.lemmas.Bool.{lt-ltb, ltb-true}
use Rattle.std.proofs.lemmas.Bool.{or_cases, or_left, or_right, true≢false}
use Rattle.std.proofs.lemmas.List.{get_or_append_left, get_or_at}
use Rattle.std.proofs.lemmas.List.Elements.{All-contains, Contains-append_cases, Contains-append_right}
use Rattle.dist_cert.specs.ListLaws.{contains-cases}
use Rattle.dist_space.specs.Space.{SpaceView}
use Rattle.dist_findings.specs.declared.finding.Finding.{Finding}
use Rattle.dist_repair.specs.Answered.{Answers, Asked, AsksAlone, EndsAt, IsFirstLeast, IsLeftAt, IsLower, IsRefuted, IsUpper, installed, moved_in, values_in}
use Rattle.dist_repair.specs.NotesPrivate.{AreNotesOf, NotesView, answer_by, answer_of, ends_by, has_answer, is_at_end}
use Rattle.dist_repair.specs.RepairFiles.{IsDecided}
use Rattle.dist_repair.specs.Searched.{IsBelowUpper}
use Rattle.dist_repair.specs.declared.repair.Repair.{Repair}
use Rattle.dist_repair.specs.declared.repair.Repair.TheVariants as repair

module _ (s : SpaceView) (asked : Asked) (found : List Finding) where
  -- ---- bounds are one

  lower-most : (a b : ℕ) → IsLower s asked found a → IsLower s asked found b → a ≤ b
  lower-most a b first second = elim first.shown [
    | inl none ↦ omega (arith, none)
    | inr at ↦ let less = second.greatest at.0 at.2 at.3 in omega (arith, at.1, less)
  ]

  pub one-lower : (a b : ℕ) → IsLower s asked found a → IsLower s asked found b → a ≡ b
  one-lower a b first second =
      let up = lower-most a b first second in
      let down = lower-most b a second first in omega (arith, up, down)

  pub low-enough : (lower : ℕ) → IsLower s asked found lower → lower ≤ asked.most + 1
  low-enough lower low = elim low.shown [
    | inl none ↦ omega (arith, none)
    | inr at ↦ omega (arith, at.1, at.2)
  ]

  pub fewest : (all : List (List ℕ)) (members other : List ℕ) → IsFirstLeast s all members → Contains all other → moved_in s members ≤ moved_in s other
  fewest all members other first there =
      elim (Contains-append_cases first.earlier (members ∷ first.later) other (subst (λ xs. Contains xs other) first.stands there)) [
        | inl before ↦
            let less = All-contains (λ x. moved_in s members < moved_in s x) first.earlier other first.first before in omega (arith, less)
        | inr behind ↦ elim (contains-cases members first.later other behind) [
          | inl here ↦ let same = ap (moved_in s) here in omega (arith, same)
          | inr later ↦ All-contains (λ x. moved_in s members ≤ moved_in s x) first.later other first.least later
        ]
      ]

  pub stands-there : (all : List (List ℕ)) (members : List ℕ) → IsFirstLeast s all members → Contains all members
  stands-there all members first = subst (λ xs. Contains xs members) (sym first.stands)
      (Contains-append_right first.earlier (members ∷ first.later) members (0, omega arith, refl))

  pub one-upper : (all : List (List ℕ)) (u v : ℕ × List Bool) → IsUpper s asked all (Some u) → IsUpper s asked all (Some v) → u.0 ≡ v.0
  one-upper all u v (a, first, count, values) (b, second, also, others) =
      let up = fewest all a b first (stands-there all b second) in
      let down = fewest all b a second (stands-there all a first) in
      omega (arith, up, down, count, also)

  pub some-upper : (all : List (List ℕ)) (u : ℕ × List Bool) → IsUpper s asked all (Some u) → ¬ IsUpper s asked all None
  some-upper all u (a, first, count, values) none = let at = stands-there all a first in omega (arith, at.1, ap (λ (xs : List (List ℕ)). length xs) none)

  -- ---- the question at the lower bound

  at-end : (n : NotesView) → AreNotesOf s asked found n → is_at_end n ≡ true → (n.lower ≡ asked.most + 1) ⊎ IsLeftAt s asked found n.lower
  at-end n are on = elim (or_cases (nat_lt n.words.most n.lower) (get_or n.left n.lower false) on) [
    | inl past ↦
        let less = ltb-true n.words.most n.lower past in
        let most = low-enough n.lower are.lower in
        inl (omega (arith, less, most, are.words.most_is))
    | inr left ↦ elim (cases_Bool (nat_le n.lower asked.most)) [
      | inl within ↦
          let upto = leb-true n.lower asked.most within in inr (upto, (are.left n.lower upto).0 left)
      | inr past ↦
          let less = leb-false n.lower asked.most past in
          let most = low-enough n.lower are.lower in inl (omega (arith, less, most))
    ]
  ]

  pub end-past : (n : NotesView) → AreNotesOf s asked found n → n.lower ≡ asked.most + 1 → is_at_end n ≡ true
  end-past n are past = or_left (nat_lt n.words.most n.lower) (get_or n.left n.lower false)
      (lt-ltb n.words.most n.lower (let most = are.words.most_is in omega (arith, past, most)))

  pub end-left : (n : NotesView) → AreNotesOf s asked found n → IsLeftAt s asked found n.lower → is_at_end n ≡ true
  end-left n are left = or_right (nat_lt n.words.most n.lower) (get_or n.left n.lower false) ((are.left n.lower left.0).1 left.1)

  -- ---- the answer of notes

  abbrev apart_by : NotesView → ℕ × List Bool → Repair
  apart_by n u = repair.AtLeast n.lower (nat_le n.lower n.words.most) (Some u)

  -- with an upper bound
  with-upper : (n : NotesView) (u : ℕ × List Bool) → AreNotesOf s asked found n → ¬ IsRefuted (AsksAlone s asked) found
      → IsUpper s asked (installed s asked found) (Some u) → ((u.0 == n.lower) || is_at_end n) ≡ true
      → Answers s asked found (answer_by (Some u) n.lower n.words.most)
  with-upper n u are alive up on = elim (cases_Bool (u.0 == n.lower)) [
    | inl same ↦ subst (Answers s asked found) (sym (cond-true (u.0 == n.lower) (repair.Least u.0 u.1) (apart_by n u) same))
        (alive, subst (IsLower s asked found) (sym (eqb-true u.0 n.lower same)) are.lower, up)
    | inr differ ↦ subst (Answers s asked found) (sym (cond-false (u.0 == n.lower) (repair.Least u.0 u.1) (apart_by n u) differ))
        (apart (eqb-false u.0 n.lower differ) (elim (or_cases (u.0 == n.lower) (is_at_end n) on) [
          | inl same ↦ absurd (true≢false (sym same ∙ differ))
          | inr ends ↦ at-end n are ends
        ]))
  ]
    where
      apart : u.0 ≢ n.lower → (n.lower ≡ asked.most + 1) ⊎ IsLeftAt s asked found n.lower → Answers s asked found (apart_by n u)
      apart differ (inl past) =
          let most = are.words.most_is in
          let over : nat_le n.lower n.words.most ≡ false = lt-leb n.lower n.words.most (omega (arith, past, most)) in
          subst (λ (b : Bool). Answers s asked found (repair.AtLeast n.lower b (Some u))) (sym over) (alive, are.lower, up, (differ, past))
      apart differ (inr left) =
          let most = are.words.most_is in
          let within : nat_le n.lower n.words.most ≡ true = le-leb n.lower n.words.most (omega (arith, left.0, most)) in
          subst (λ (b : Bool). Answers s asked found (repair.AtLeast n.lower b (Some u))) (sym within) (alive, are.lower, up, (differ, left))

  by-upper : (n : NotesView) (u : Option (ℕ × List Bool)) → AreNotesOf s asked found n → ¬ IsRefuted (AsksAlone s asked) found
      → IsUpper s asked (installed s asked found) u → ends_by u n.lower (is_at_end n) n.alone_left ≡ true
      → Answers s asked found (answer_by u n.lower n.words.most)
  by-upper n None are alive up on =
      let parts = and_parts n.alone_left (is_at_end n) on in
      (alive, are.lower, up, (at-end n are parts.1, are.alone_left.0 parts.0))
  by-upper n (Some u) are alive up on = with-upper n u are alive up on

  pub answer-right : (n : NotesView) → AreNotesOf s asked found n → has_answer n ≡ true → Answers s asked found (answer_of n)
  answer-right n are on = elim (cases_Bool n.outdated) [
    | inl out ↦ subst (Answers s asked found) (sym (cond-true n.outdated repair.Outdated (answer_by n.upper n.lower n.words.most) out)) (are.outdated.0 out)
    | inr alive ↦
        let never : ¬ IsRefuted (AsksAlone s asked) found = λ is. true≢false (sym (are.outdated.1 is) ∙ alive) in
        subst (Answers s asked found) (sym (cond-false n.outdated repair.Outdated (answer_by n.upper n.lower n.words.most) alive))
        (by-upper n n.upper are never are.upper (elim (or_cases n.outdated (ends_by n.upper n.lower (is_at_end n) n.alone_left) on) [
          | inl out ↦ absurd (true≢false (sym out ∙ alive))
          | inr ends ↦ ends
        ]))
  ]

  -- ---- findings with an answer

  ends-least : (n : NotesView) (u : Option (ℕ × List Bool)) (v : ℕ × List Bool) → IsUpper s asked (installed s asked found) u
      → IsUpper s asked (installed s asked found) (Some v) → v.0 ≡ n.lower → ends_by u n.lower (is_at_end n) n.alone_left ≡ true
  ends-least n None v none up same = absurd (some-upper (installed s asked found) v up none)
  ends-least n (Some u) v own_up up same =
      let one = one-upper (installed s asked found) u v own_up up in
      or_left (u.0 == n.lower) (is_at_end n) (eq-eqb u.0 n.lower (one ∙ same))

  ends-apart : (n : NotesView) (u : Option (ℕ × List Bool)) (v : ℕ × List Bool) → IsUpper s asked (installed s asked found) u
      → IsUpper s asked (installed s asked found) (Some v) → is_at_end n ≡ true → ends_by u n.lower (is_at_end n) n.alone_left ≡ true
  ends-apart n None v none up on = absurd (some-upper (installed s asked found) v up none)
  ends-apart n (Some u) v own_up up on = or_right (u.0 == n.lower) (is_at_end n) on

  ends-none : (n : NotesView) (u : Option (ℕ × List Bool)) → IsUpper s asked (installed s asked found) u
      → IsUpper s asked (installed s asked found) None → n.alone_left ≡ true → is_at_end n ≡ true
      → ends_by u n.lower (is_at_end n) n.alone_left ≡ true
  ends-none n None own_up none left on = and_from n.alone_left (is_at_end n) left on
  ends-none n (Some u) own_up none left on = absurd (some-upper (installed s asked found) u own_up none)

  ends-by : (n : NotesView) → AreNotesOf s asked found n → ends_by n.upper n.lower (is_at_end n) n.alone_left ≡ true → has_answer n ≡ true
  ends-by n are on = or_right n.outdated (ends_by n.upper n.lower (is_at_end n) n.alone_left) on

  at-end-again : (n : NotesView) → AreNotesOf s asked found n → (lower : ℕ) → lower ≡ n.lower
      → (lower ≡ asked.most + 1) ⊎ IsLeftAt s asked found lower → is_at_end n ≡ true
  at-end-again n are lower same (inl past) = end-past n are (sym same ∙ past)
  at-end-again n are lower same (inr left) = end-left n are (subst (IsLeftAt s asked found) same left)

  pub answer-there : (n : NotesView) → AreNotesOf s asked found n → (r : Repair) → Answers s asked found r → has_answer n ≡ true
  answer-there n are repair.Outdated is = or_left n.outdated (ends_by n.upper n.lower (is_at_end n) n.alone_left) (are.outdated.1 is)
  answer-there n are (repair.Least number values) (alive, low, up) =
      ends-by n are (ends-least n n.upper (number, values) are.upper up (one-lower number n.lower low are.lower))
  answer-there n are (repair.AtLeast lower true None) (alive, low, up, (ends, left)) =
      ends-by n are (ends-none n n.upper are.upper up (are.alone_left.1 left) (at-end-again n are lower (one-lower lower n.lower low are.lower) ends))
  answer-there n are (repair.AtLeast lower true (Some u)) (alive, low, up, (differ, left)) =
      ends-by n are (ends-apart n n.upper u are.upper up (at-end-again n are lower (one-lower lower n.lower low are.lower) (inr left)))
  answer-there n are (repair.AtLeast lower false None) (alive, low, up, ends) = absurd ends
  answer-there n are (repair.AtLeast lower false (Some u)) (alive, low, up, (differ, past)) =
      ends-by n are (ends-apart n n.upper u are.upper up (at-end-again n are lower (one-lower lower n.lower low are.lower) (inl past)))

  pub answer-decides : (n : NotesView) → AreNotesOf s asked found n → (has_answer n ≡ true) ↔ IsDecided s asked found
  answer-decides n are = ((λ on. (answer_of n, answer-right n are on)), λ decided. answer-there n are decided.0 decided.1)

  -- ---- below the upper bound

  -- one below the upper bound, or the most where that is smaller
  pub below-upper : (n : NotesView) (u : ℕ × List Bool) (j : ℕ) → AreNotesOf s asked found n → n.upper ≡ Some u → 0 < u.0 → j ≡ min (u.0 - 1) n.words.most
      → IsBelowUpper s asked found j
  below-upper n u j are is some at =
      let most = are.words.most_is in (
        u,
        subst (IsUpper s asked (installed s asked found)) is are.upper,
        elim (cases_Bool (nat_le u.0 n.words.most)) [
          | inl within ↦ let upto = leb-true u.0 n.words.most within in inl (omega (arith, at, some, upto))
          | inr past ↦ let less = leb-false u.0 n.words.most past in inr (omega (arith, at, some, less, most), omega (arith, at, some, less))
        ],
      )

  -- ---- one answer

  -- what stands at the place behind a front
  at-front : (front : List (List ℕ)) (x : List ℕ) (rest : List (List ℕ)) (all : List (List ℕ)) (d : List ℕ) → all ≡ front ++ x ∷ rest
      → get_or all (length front) d ≡ x
  at-front front x rest all d is = ap (λ (xs : List (List ℕ)). get_or xs (length front) d) is ∙ get_or_at front x rest d (length front) refl

  -- of two firsts with the fewest none stands before the other
  not-earlier : (all : List (List ℕ)) (a b : List ℕ) (first : IsFirstLeast s all a) (second : IsFirstLeast s all b)
      → ¬ (length first.earlier < length second.earlier)
  not-earlier all a b first second less =
      let here : get_or second.earlier (length first.earlier) a ≡ a =
      sym (get_or_append_left second.earlier (b ∷ second.later) a (length first.earlier) less)
      ∙ ap (λ (xs : List (List ℕ)). get_or xs (length first.earlier) a) (sym second.stands) ∙ at-front first.earlier a first.later all a first.stands in
      let more = All-contains (λ other. moved_in s b < moved_in s other) second.earlier a second.first (length first.earlier, less, here) in
      let few = fewest all a b first (stands-there all b second) in
      omega (arith, more, few)

  one-first : (all : List (List ℕ)) (a b : List ℕ) → IsFirstLeast s all a → IsFirstLeast s all b → a ≡ b
  one-first all a b first second =
      let one = not-earlier all a b first second in
      let two = not-earlier all b a second first in
      let same : length first.earlier ≡ length second.earlier = omega (arith, one, two) in
      sym (at-front first.earlier a first.later all a first.stands) ∙ ap (λ (k : ℕ). get_or all k a) same
      ∙ at-front second.earlier b second.later all a second.stands

  upper-same : (all : List (List ℕ)) (u v : ℕ × List Bool) → IsUpper s asked all (Some u) → IsUpper s asked all (Some v) → u ≡ v
  upper-same all u v (a, first, count, values) (b, second, also, others) =
      let same = one-first all a b first second in
      ap₂ (λ (x : ℕ) (y : List Bool). (x, y)) (count ∙ ap (moved_in s) same ∙ sym also)
      (values ∙ ap (λ (ms : List ℕ). values_in s asked ms) same ∙ sym others)

  -- where the bounds meet, they don't end apart
  met : (n : ℕ) (v : List Bool) (l : ℕ) (b : Bool) (u : Option (ℕ × List Bool)) → n ≡ l → IsUpper s asked (installed s asked found) (Some (n, v))
      → IsUpper s asked (installed s asked found) u → ¬ EndsAt s asked found l b u
  met n v l b None same up upper ends = some-upper (installed s asked found) (n, v) up upper
  met n v l true (Some u) same up upper ends = ends.0 (one-upper (installed s asked found) u (n, v) upper up ∙ same)
  met n v l false (Some u) same up upper ends = ends.0 (one-upper (installed s asked found) u (n, v) upper up ∙ same)

  pub one-answer : (first second : Repair) → Answers s asked found first → Answers s asked found second → first ≡ second
  one-answer repair.Outdated repair.Outdated is also = refl
  one-answer repair.Outdated (repair.Least n v) is also = absurd (also.0 is)
  one-answer repair.Outdated (repair.AtLeast l b u) is also = absurd (also.0 is)
  one-answer (repair.Least n v) repair.Outdated is also = absurd (is.0 also)
  one-answer (repair.AtLeast l b u) repair.Outdated is also = absurd (is.0 also)
  one-answer (repair.Least n v) (repair.Least m w) (alive, low, up) (also, lower, upper) =
      ap (λ (u : ℕ × List Bool). repair.Least u.0 u.1) (upper-same (installed s asked found) (n, v) (m, w) up upper)
  one-answer (repair.Least n v) (repair.AtLeast l b u) (alive, low, up) (also, lower, upper, ends) =
      absurd (met n v l b u (one-lower n l low lower) up upper ends)
  one-answer (repair.AtLeast l b u) (repair.Least n v) (also, lower, upper, ends) (alive, low, up) =
      absurd (met n v l b u (one-lower n l low lower) up upper ends)
  one-answer (repair.AtLeast l b u) (repair.AtLeast k c w) (alive, low, up, ends) (also, lower, upper, others) =
      same-ends l k b c u w (one-lower l k low lower) up upper ends others
    where
      same-ends : (l k : ℕ) (b c : Bool) (u w : Option (ℕ × List Bool)) → l ≡ k → IsUpper s asked (installed s asked found) u
          → IsUpper s asked (installed s asked found) w → EndsAt s asked found l b u → EndsAt s asked found k c w
          → repair.AtLeast l b u ≡ repair.AtLeast k c w
      same-ends l k true true None None same up upper ends others = ap (λ (x : ℕ). repair.AtLeast x true None) same
      same-ends l k false c None w same up upper ends others = absurd ends
      same-ends l k b false u None same up upper ends others = absurd others
      same-ends l k b c None (Some w) same up upper ends others = absurd (some-upper (installed s asked found) w upper up)
      same-ends l k b c (Some u) None same up upper ends others = absurd (some-upper (installed s asked found) u up upper)
      same-ends l k true true (Some u) (Some w) same up upper ends others =
          ap₂ (λ (x : ℕ) (y : ℕ × List Bool). repair.AtLeast x true (Some y)) same (upper-same (installed s asked found) u w up upper)
      same-ends l k false false (Some u) (Some w) same up upper ends others =
          ap₂ (λ (x : ℕ) (y : ℕ × List Bool). repair.AtLeast x false (Some y)) same (upper-same (installed s asked found) u w up upper)
      same-ends l k true false (Some u) (Some w) same up upper ends others =
          let within = ends.1.0 in
          let past = others.1 in absurd (omega (arith, same, within, past))
      same-ends l k false true (Some u) (Some w) same up upper ends others =
          let past = ends.1 in
          let within = others.1.0 in absurd (omega (arith, same, within, past))
