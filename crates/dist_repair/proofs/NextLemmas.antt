-- What the question at the lower bound decides.
use Rattle.std.proofs.Common.{◌≡◌, ◌≢◌, ◌⊎◌, inl, inr, ℕ, ◌+◌, ◌<◌, ◌≤◌, ◌==◌, ◌||◌, ◌&&◌, Bool, true, false, List, [], ◌∷◌, ◌++◌, Option, Some, None, length}
use Rattle.std.proofs.Common.{sym, subst, ◌∙◌, ap, arith, slice_get}
use Rattle.std.specs.Prelude.{All, Contains, nat_lt}
use Rattle.std.proofs.lemmas.Bool.{and_from, cond-false, cond-true, eq-eqb, le-ltb, or_left, or_right}
use Rattle.std.proofs.lemmas.List.Elements.{Contains-append_left, Contains-push}
use Rattle.dist_clause.specs.Formula.{Literal}
use Rattle.dist_cert.specs.Form.{Word}
use Rattle.dist_cert.specs.Rising.{is_among}
use Rattle.dist_future.specs.Moved.{TellOfMoves}
use Rattle.dist_repo.specs.declared.package.Package.{Package}
use Rattle.dist_space.specs.Space.{IsSpace, SpaceView}
use Rattle.dist_findings.specs.SoundLaws.{IsSound}
use Rattle.dist_findings.specs.declared.finding.Finding.{Finding}
use Rattle.dist_findings.specs.declared.finding.Finding.TheVariants.{Refuted, LeftUndecided, Installed}
use Rattle.dist_repair.specs.Answered.{Answers, Asked, AsksAlone, AsksAt, IsLeft, IsLeftAt, IsLower, IsRefuted, IsUpper, installed}
use Rattle.dist_repair.specs.Answered.{installed_in, moved_in, own}
use Rattle.dist_repair.specs.declared.repair.Repair.TheVariants as repair
use Rattle.dist_repair.specs.declared.repair.Repair.{Repair}
use Rattle.dist_repair.specs.Counters.{CountedModelsTell, ModelsTellMoves, counted_clauses}
use Rattle.dist_repair.specs.NotesPrivate.{AreNotesOf, NotesView, ends_by, is_at_end}
use Rattle.dist_repair.specs.RepairFiles.{IsDecided}
use Rattle.dist_repair.specs.Searched.{IsBegun, IsFoundAt}
use Rattle.dist_repair.proofs.AnswerLemmas.{answer-decides, end-left, end-past, fewest, low-enough, one-lower}
use Rattle.dist_repair.proofs.AnswerLemmas.{one-upper, some-upper, stands-there}
use Rattle.dist_repair.proofs.NoteLemmas.{installed-push, lower-raised, lower-stays}
use Rattle.dist_repair.proofs.OverLemmas as range
use Rattle.dist_repair.proofs.SoundLemmas.{bounds-order, moved-most}

module _ (s : SpaceView) (asked : Asked) where
  -- the lower bound with its question refuted
  lower-up : (found : List Finding) (question : List Word) (j : ℕ) → j ≤ asked.most → AsksAt s asked j question → IsLower s asked found j
      → IsLower s asked (found ++ Refuted question ∷ []) (j + 1)
  lower-up found question j upto asks low = subst (IsLower s asked (found ++ Refuted question ∷ []))
      (cond-false (nat_lt j j) j (j + 1) (le-ltb j j (omega arith))) (lower-raised s asked found question j j upto asks low)

  pub begun-more : (found : List Finding) (f : Finding) → IsBegun s asked found → IsBegun s asked (found ++ f ∷ [])
  begun-more found f (inl is) = inl (is.0, is.1, Contains-append_left found (f ∷ []) (Refuted is.0) is.2)
  begun-more found f (inr (inl is)) = inr (inl (is.0, is.1, Contains-append_left found (f ∷ []) (LeftUndecided is.0) is.2))
  begun-more found f (inr (inr is)) = inr (inr (
    is.0,
    subst (λ (all : List (List ℕ)). Contains all is.0) (sym (installed-push s asked found f))
        (Contains-append_left (installed s asked found) (installed_in s asked f) is.0 is.1),
  ))

  module _ (found : List Finding) (n : NotesView) (are : AreNotesOf s asked found n) where
    begun-none : IsBegun s asked found → installed s asked found ≡ [] → IsRefuted (AsksAlone s asked) found ⊎ IsLeft (AsksAlone s asked) found
    begun-none (inl is) none = inl is
    begun-none (inr (inl is)) none = inr is
    begun-none (inr (inr is)) none =
        let nowhere : Contains [] is.0 = subst (λ (all : List (List ℕ)). Contains all is.0) none is.1 in absurd (omega (arith, nowhere.1))

    -- no further question may raise the lower bound
    ends : (u : Option (ℕ × List Bool)) → IsBegun s asked found → IsUpper s asked (installed s asked found) u → is_at_end n ≡ true
        → (n.outdated || ends_by u n.lower (is_at_end n) n.alone_left) ≡ true
    ends None begun up on = elim (begun-none begun up) [
      | inl is ↦ or_left n.outdated (n.alone_left && is_at_end n) (are.outdated.1 is)
      | inr is ↦ or_right n.outdated (n.alone_left && is_at_end n) (and_from n.alone_left (is_at_end n) (are.alone_left.1 is) on)
    ]
    ends (Some u) begun up on =
        or_right n.outdated ((u.0 == n.lower) || is_at_end n) (or_right (u.0 == n.lower) (is_at_end n) on)

    ended : IsBegun s asked found → is_at_end n ≡ true → IsDecided s asked found
    ended begun on = (answer-decides s asked found n are).0 (ends n.upper begun are.upper on)

    pub last-decides : IsBegun s asked found → IsLower s asked found (asked.most + 1) → IsDecided s asked found
    last-decides begun low = ended begun (end-past s asked found n are (one-lower s asked found n.lower (asked.most + 1) are.lower low))

    -- the bounds meet
    met : (u : Option (ℕ × List Bool)) (j : ℕ) (members : List ℕ) → IsUpper s asked (installed s asked found) u → n.lower ≡ j
        → Contains (installed s asked found) members → moved_in s members ≤ j
        → ((upper : ℕ × List Bool) → IsUpper s asked (installed s asked found) (Some upper) → j ≤ upper.0)
        → (n.outdated || ends_by u n.lower (is_at_end n) n.alone_left) ≡ true
    met None j members up low there few order =
        let nowhere : Contains [] members = subst (λ (all : List (List ℕ)). Contains all members) up there in absurd (omega (arith, nowhere.1))
    met (Some u) j members (least, first, count, values) low there few order =
        let more_of = order u (least, first, count, values) in
        let fewer = fewest s asked found (installed s asked found) least members first there in
        or_right n.outdated ((u.0 == n.lower) || is_at_end n) (or_left (u.0 == n.lower) (is_at_end n)
        (eq-eqb u.0 n.lower (omega (arith, count, low, few, more_of, fewer))))

  module _ (space : IsSpace s) (clauses : List (List Literal)) (over : All (range.IsOver (length s.meanings)) clauses) (p : Package)
      (is : slice_get s.repository.packages asked.number ≡ Some p) (tell : TellOfMoves s clauses) (tells : ModelsTellMoves s clauses)
      (counted : CountedModelsTell s clauses asked.most) (limit : ℕ) (found : List Finding) (j : ℕ) (begun : IsBegun s asked found)
      (low : IsLower s asked found j) (upto : j ≤ asked.most) where
    pub next-decides : (f : Finding) (n : NotesView) → All (IsSound (counted_clauses s clauses asked.most) limit) (found ++ f ∷ [])
        → AreNotesOf s asked (found ++ f ∷ []) n → IsFoundAt s asked j f
        → IsDecided s asked (found ++ f ∷ []) ⊎ IsLower s asked (found ++ f ∷ []) (j + 1)
    next-decides (Refuted question) n sound are asks = inr (lower-up found question j upto asks low)
    next-decides (LeftUndecided question) n sound are asks =
        let more : List Finding = found ++ LeftUndecided question ∷ [] in
        let same : n.lower ≡ j = one-lower s asked more n.lower j are.lower
        (lower-stays s asked found (LeftUndecided question) (λ q is. cc) j low) in
        inl (ended more n are (begun-more found (LeftUndecided question) begun) (end-left s asked more n are (
          omega (arith, same, upto),
          (question, subst (λ (k : ℕ). AsksAt s asked k question) (sym same) asks, Contains-push found (LeftUndecided question)),
        )))
    next-decides (Installed members) n sound are (has, kept) =
        let more : List Finding = found ++ Installed members ∷ [] in
        let here : IsLower s asked more j = lower-stays s asked found (Installed members) (λ q is. cc) j low in
        let same : n.lower ≡ j = one-lower s asked more n.lower j are.lower here in
        let all : installed s asked more ≡ installed s asked found ++ members ∷ [] =
        installed-push s asked found (Installed members)
        ∙ ap (λ (xs : List (List ℕ)). installed s asked found ++ xs) (cond-true (is_among members (own s asked)) (members ∷ []) [] has) in
        let there : Contains (installed s asked more) members = subst (λ (xs : List (List ℕ)). Contains xs members) (sym all)
        (Contains-push (installed s asked found) members) in
        let few = moved-most s space clauses over asked p is tell tells counted limit more sound members j (Contains-push found (Installed members))
        upto kept in
        inl ((answer-decides s asked more n are).0 (met more n are n.upper j members are.upper same there few
        (λ upper up. bounds-order s space clauses over asked p is tell tells counted limit more sound j upper here up)))

  -- ---- below the upper bound

  module _ (space : IsSpace s) (clauses : List (List Literal)) (over : All (range.IsOver (length s.meanings)) clauses) (p : Package)
      (is : slice_get s.repository.packages asked.number ≡ Some p) (tell : TellOfMoves s clauses) (tells : ModelsTellMoves s clauses)
      (counted : CountedModelsTell s clauses asked.most) (limit : ℕ) (found : List Finding) (f : Finding)
      (sound : All (IsSound (counted_clauses s clauses asked.most) limit) (found ++ f ∷ [])) (n m : NotesView) (are : AreNotesOf s asked found n)
      (noted : AreNotesOf s asked (found ++ f ∷ []) m) (u : ℕ × List Bool) (up : IsUpper s asked (installed s asked found) (Some u)) where
    -- the first installation with as few moves is still there
    first-there : Contains (installed s asked (found ++ f ∷ [])) up.0
    first-there = subst (λ (all : List (List ℕ)). Contains all up.0) (sym (installed-push s asked found f))
        (Contains-append_left (installed s asked found) (installed_in s asked f) up.0 (stands-there s asked found (installed s asked found) up.0 up.1))

    lower-than : (v : ℕ × List Bool) → IsUpper s asked (installed s asked (found ++ f ∷ [])) (Some v) → (m.lower ≤ v.0) × (v.0 ≤ u.0)
    lower-than v (least, first, count, values) =
        let few = fewest s asked (found ++ f ∷ []) (installed s asked (found ++ f ∷ [])) least up.0 first first-there in
        let same = up.2 in (
          bounds-order s space clauses over asked p is tell tells counted limit (found ++ f ∷ []) sound m.lower v noted.lower (least, first, count, values),
          omega (arith, few, count, same),
        )

    -- the bounds meet, or no question may raise the lower one
    decided-by : (o : Option (ℕ × List Bool)) → IsUpper s asked (installed s asked (found ++ f ∷ [])) o
        → (u.0 ≤ m.lower) ⊎ (is_at_end m ≡ true) → ends_by o m.lower (is_at_end m) m.alone_left ≡ true
    decided-by None none by = let nowhere = subst (λ (all : List (List ℕ)). Contains all up.0) none first-there in absurd (omega (arith, nowhere.1))
    decided-by (Some v) own_up (inl meet) =
        let between = lower-than v own_up in
        or_left (v.0 == m.lower) (is_at_end m) (eq-eqb v.0 m.lower (omega (arith, between.0, between.1, meet)))
    decided-by (Some v) own_up (inr on) = or_right (v.0 == m.lower) (is_at_end m) on

    decided-more : (u.0 ≤ m.lower) ⊎ (is_at_end m ≡ true) → IsDecided s asked (found ++ f ∷ [])
    decided-more by = (answer-decides s asked (found ++ f ∷ []) m noted).0
        (or_right m.outdated (ends_by m.upper m.lower (is_at_end m) m.alone_left) (decided-by m.upper noted.upper by))

    -- the question is refuted
    lower-refuted : (question : List Word) (j : ℕ) → f ≡ Refuted question → j ≤ asked.most → AsksAt s asked j question
        → (j + 1 ≡ u.0) ⊎ ((j ≡ asked.most) × (j < u.0)) → IsDecided s asked (found ++ f ∷ [])
    lower-refuted question j same upto asks below =
        let there : Contains (found ++ f ∷ []) (Refuted question) = subst (Contains (found ++ f ∷ [])) same (Contains-push found f) in
        let less = noted.lower.greatest j upto (question, asks, there) in
        decided-more (elim below [
          | inl next ↦ inl (omega (arith, less, next))
          | inr last ↦
              let most = low-enough s asked (found ++ f ∷ []) m.lower noted.lower in
              inr (end-past s asked (found ++ f ∷ []) m noted (omega (arith, less, most, last.0)))
        ])

    -- it is not, and the lower bound stays
    lower-open : (r : Repair) → ((question : List Word) → f ≢ Refuted question) → Answers s asked found r → IsDecided s asked (found ++ f ∷ [])
    lower-open repair.Outdated none (question, asks, there) =
        (repair.Outdated, (question, asks, Contains-append_left found (f ∷ []) (Refuted question) there))
    lower-open (repair.Least number values) none (alive, low, one) =
        let same = one-lower s asked (found ++ f ∷ []) m.lower number noted.lower (lower-stays s asked found f none number low) in
        let count = one-upper s asked found (installed s asked found) u (number, values) up one in
        decided-more (inl (omega (arith, same, count)))
    lower-open (repair.AtLeast lower true (Some v)) none (alive, low, one, (differ, left)) =
        let same = one-lower s asked (found ++ f ∷ []) lower m.lower (lower-stays s asked found f none lower low) noted.lower in
        let still : IsLeftAt s asked (found ++ f ∷ []) lower =
        (left.0, (left.1.0, left.1.1, Contains-append_left found (f ∷ []) (LeftUndecided left.1.0) left.1.2)) in
        decided-more (inr (end-left s asked (found ++ f ∷ []) m noted (subst (IsLeftAt s asked (found ++ f ∷ [])) same still)))
    lower-open (repair.AtLeast lower false (Some v)) none (alive, low, one, (differ, past)) =
        let same = one-lower s asked (found ++ f ∷ []) m.lower lower noted.lower (lower-stays s asked found f none lower low) in
        decided-more (inr (end-past s asked (found ++ f ∷ []) m noted (same ∙ past)))
    lower-open (repair.AtLeast lower undecided None) none (alive, low, one, ends) = absurd (some-upper s asked found (installed s asked found) u up one)

    pub lower-decides : (g : Finding) → f ≡ g → (j : ℕ) → IsDecided s asked found → j ≤ asked.most
        → (j + 1 ≡ u.0) ⊎ ((j ≡ asked.most) × (j < u.0)) → IsFoundAt s asked j g → IsDecided s asked (found ++ f ∷ [])
    lower-decides (Refuted question) same j decided upto below asks = lower-refuted question j same upto asks below
    lower-decides (LeftUndecided question) same j decided upto below asks =
        lower-open decided.0 (λ q is_it. let no = sym same ∙ is_it in cc) decided.1
    lower-decides (Installed members) same j decided upto below at = lower-open decided.0 (λ q is_it. let no = sym same ∙ is_it in cc) decided.1
