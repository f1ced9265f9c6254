-- What is noted of one finding more.
use Rattle.std.proofs.Common.{◌≡◌, ◌≢◌, ◌↔◌, ◌⊎◌, inl, inr, ℕ, ◌+◌, ◌<◌, ◌≤◌, ◌&&◌, Bool, true, false, List, [], ◌∷◌, ◌++◌, Option, Some, None}
use Rattle.std.proofs.Common.{length, get_or, refl, sym, ap, ap₂, subst, ◌∙◌, arith, append_assoc}
use Rattle.std.specs.Prelude.{All, Contains, nat_lt}
use Rattle.std.proofs.Math.ListN.{length-set, set}
use Rattle.std.proofs.lemmas.Bool.{and_from, and_left, and_right, cases_Bool, cases_eq, cases_lt, cond-false, cond-true, le-ltb, lt-ltb}
use Rattle.std.proofs.lemmas.Bool.{ltb-false, ltb-true, true≢false}
use Rattle.std.proofs.lemmas.Grind.{flat_map-append}
use Rattle.std.proofs.lemmas.List.{append-nil, get_or-set_other, get_or-set_same}
use Rattle.std.proofs.lemmas.List.Elements.{All-append, All-cons, All-nil, All-push, All-weaker, Contains-append_left, Contains-push, Contains-push_cases}
use Rattle.dist_cert.specs.ClaimRules.{no, yes}
use Rattle.dist_cert.specs.Form.{Word}
use Rattle.dist_cert.specs.Rising.{is_among}
use Rattle.dist_space.specs.Space.{SpaceView}
use Rattle.dist_subject.specs.Present.{truth_of}
use Rattle.dist_findings.specs.declared.finding.Finding.{Finding}
use Rattle.dist_findings.specs.declared.finding.Finding.TheVariants.{Refuted, LeftUndecided, Installed}
use Rattle.dist_repair.specs.Answered.{Asked, AsksAlone, AsksAt, IsLeft, IsLower, IsRefuted, IsUpper, beyond, installed, installed_in, moved_in, own}
use Rattle.dist_repair.specs.Answered.{values_in}
use Rattle.dist_repair.specs.NotesPrivate.{AreNotesOf, AreWordsOf, IsAlone, IsAt, NotesLeft, NotesRefuted, NotesView, WordsView, is_fewer, noted_installed}
use Rattle.dist_repair.specs.NotesPrivate.{raised}
use Rattle.dist_repair.specs.QuestionLaws.{not-both, one-number}

-- ---- questions that are closed one way: refuted, or left undecided

-- some question of which this holds is closed so
abbrev IsClosed : (List Word → Finding) → (List Word → Type 0) → List Finding → Type 0
IsClosed As Asks found = (question : List Word) × Asks question × Contains found (As question)

one-refuted : (question other : List Word) → Refuted question ≡ Refuted other → question ≡ other
one-refuted question other same = cc

one-left : (question other : List Word) → LeftUndecided question ≡ LeftUndecided other → question ≡ other
one-left question other same = cc

module _ (As : List Word → Finding) (one : (question other : List Word) → As question ≡ As other → question ≡ other) (Asks : List Word → Type 0)
    (found : List Finding) where
  more-closed : (f : Finding) → IsClosed As Asks found → IsClosed As Asks (found ++ f ∷ [])
  more-closed f is = (is.0, is.1, Contains-append_left found (f ∷ []) (As is.0) is.2)

  new-closed : (question : List Word) → Asks question → IsClosed As Asks (found ++ As question ∷ [])
  new-closed question asks = (question, asks, Contains-push found (As question))

  closed-cases : (f : Finding) → IsClosed As Asks (found ++ f ∷ []) → IsClosed As Asks found ⊎ ((question : List Word) × Asks question × (f ≡ As question))
  closed-cases f is = elim (Contains-push_cases found f (As is.0) is.2) [
    | inl earlier ↦ inl (is.0, is.1, earlier)
    | inr same ↦ inr (is.0, is.1, same)
  ]

  -- a question that is none of these adds none, and neither does what is closed in another way
  old-closed : (question : List Word) → ¬ Asks question → IsClosed As Asks (found ++ As question ∷ []) → IsClosed As Asks found
  old-closed question none is = elim (closed-cases (As question) is) [
    | inl earlier ↦ earlier
    | inr new ↦ absurd (none (subst Asks (sym (one question new.0 new.2)) new.1))
  ]

  still-closed : (f : Finding) → ((question : List Word) → f ≢ As question) → IsClosed As Asks (found ++ f ∷ []) → IsClosed As Asks found
  still-closed f none is = elim (closed-cases f is) [
    | inl earlier ↦ earlier
    | inr new ↦ absurd (none new.0 new.2)
  ]

  -- so their mark stays
  old-mark : (b : Bool) (question : List Word) → ¬ Asks question → (b ≡ true) ↔ IsClosed As Asks found
      → (b ≡ true) ↔ IsClosed As Asks (found ++ As question ∷ [])
  old-mark b question none mark = (
    (λ is. more-closed (As question) (mark.0 is)),
    λ is. mark.1 (old-closed question none is),
  )

  still-mark : (b : Bool) (f : Finding) → ((question : List Word) → f ≢ As question) → (b ≡ true) ↔ IsClosed As Asks found
      → (b ≡ true) ↔ IsClosed As Asks (found ++ f ∷ [])
  still-mark b f none mark = ((λ is. more-closed f (mark.0 is)), λ is. mark.1 (still-closed f none is))

module _ (s : SpaceView) (asked : Asked) where
  -- ---- which question it is

  at-word : (w : WordsView) → AreWordsOf s asked w → (j : ℕ) → w.first + j ≡ beyond s asked j
  at-word w are j = let first = are.first_is in omega (arith, first)

  pub alone-asks : (w : WordsView) → AreWordsOf s asked w → (question : List Word) → IsAlone w question → AsksAlone s asked question
  alone-asks w are question is = is ∙ ap (λ (v : ℕ). yes v ∷ []) are.own_is

  pub asks-alone : (w : WordsView) → AreWordsOf s asked w → (question : List Word) → AsksAlone s asked question → IsAlone w question
  asks-alone w are question is = is ∙ sym (ap (λ (v : ℕ). yes v ∷ []) are.own_is)

  -- the two forms of a question at j
  pub front-same : (w : WordsView) → AreWordsOf s asked w → (j : ℕ)
      → (yes w.own ∷ no (w.first + j) ∷ []) ≡ (yes (own s asked) ∷ no (beyond s asked j) ∷ [])
  front-same w are j = ap₂ (λ (v u : ℕ). yes v ∷ no u ∷ []) are.own_is (at-word w are j)

  back-same : (w : WordsView) → AreWordsOf s asked w → (j : ℕ)
      → (no (w.first + j) ∷ yes w.own ∷ []) ≡ (no (beyond s asked j) ∷ yes (own s asked) ∷ [])
  back-same w are j = ap₂ (λ (v u : ℕ). no u ∷ yes v ∷ []) are.own_is (at-word w are j)

  at-asks : (w : WordsView) → AreWordsOf s asked w → (question : List Word) (j : ℕ) → IsAt w question j → (j ≤ asked.most) × AsksAt s asked j question
  at-asks w are question j (upto, inl is) = (let most = are.most_is in omega (arith, upto, most), inl (is ∙ front-same w are j))
  at-asks w are question j (upto, inr is) = (let most = are.most_is in omega (arith, upto, most), inr (is ∙ back-same w are j))

  asks-at : (w : WordsView) → AreWordsOf s asked w → (question : List Word) (j : ℕ) → j ≤ asked.most → AsksAt s asked j question → IsAt w question j
  asks-at w are question j upto (inl is) = (let most = are.most_is in omega (arith, upto, most), inl (is ∙ sym (front-same w are j)))
  asks-at w are question j upto (inr is) = (let most = are.most_is in omega (arith, upto, most), inr (is ∙ sym (back-same w are j)))

  -- ---- bounds

  lower-same : (found : List Finding) (f : Finding) (l : ℕ)
      → ((j : ℕ) → j ≤ asked.most → IsRefuted (AsksAt s asked j) (found ++ f ∷ []) → IsRefuted (AsksAt s asked j) found)
      → IsLower s asked found l → IsLower s asked (found ++ f ∷ []) l
  lower-same found f l back low = record {
    shown = elim low.shown [
      | inl none ↦ inl none
      | inr at ↦ inr (at.0, at.1, at.2, more-closed Refuted one-refuted (AsksAt s asked at.0) found f at.3)
    ];
    greatest = λ j upto is. low.greatest j upto (back j upto is);
  }

  pub lower-raised : (found : List Finding) (question : List Word) (l j : ℕ) → j ≤ asked.most → AsksAt s asked j question
      → IsLower s asked found l → IsLower s asked (found ++ Refuted question ∷ []) (raised l j)
  lower-raised found question l j upto asks low = elim (cases_lt j l) [
    | inl less ↦ subst (IsLower s asked (found ++ Refuted question ∷ [])) (sym (cond-true (nat_lt j l) l (j + 1) (lt-ltb j l less))) (record {
      shown = elim low.shown [
        | inl none ↦ inl none
        | inr at ↦ inr (at.0, at.1, at.2, more-closed Refuted one-refuted (AsksAt s asked at.0) found (Refuted question) at.3)
      ];
      greatest = λ i within is. elim (closed-cases Refuted one-refuted (AsksAt s asked i) found (Refuted question) is) [
        | inl earlier ↦ low.greatest i within earlier
        | inr new ↦ let same = this i new.0 new.1 new.2 in omega (arith, same, less)
      ];
    })
    | inr more ↦ subst (IsLower s asked (found ++ Refuted question ∷ [])) (sym (cond-false (nat_lt j l) l (j + 1) (le-ltb j l more))) (record {
      shown = inr (j, refl, upto, new-closed Refuted one-refuted (AsksAt s asked j) found question asks);
      greatest = λ i within is. elim (closed-cases Refuted one-refuted (AsksAt s asked i) found (Refuted question) is) [
        | inl earlier ↦ let less = low.greatest i within earlier in omega (arith, less, more)
        | inr new ↦ let same = this i new.0 new.1 new.2 in omega (arith, same)
      ];
    })
  ]
    where
      this : (i : ℕ) (other : List Word) → AsksAt s asked i other → Refuted question ≡ Refuted other → i ≡ j
      this i other at is = let same : other ≡ question = cc in one-number s asked i j question (subst (AsksAt s asked i) same at) asks

  pub installed-push : (found : List Finding) (f : Finding) → installed s asked (found ++ f ∷ []) ≡ installed s asked found ++ installed_in s asked f
  installed-push found f = flat_map-append (installed_in s asked) found (f ∷ [])
      ∙ ap (λ (xs : List (List ℕ)). installed s asked found ++ xs) (append-nil (installed_in s asked f))

  -- no installation with the package
  upper-same : (found : List Finding) (f : Finding) (u : Option (ℕ × List Bool)) → installed_in s asked f ≡ []
      → IsUpper s asked (installed s asked found) u → IsUpper s asked (installed s asked (found ++ f ∷ [])) u
  upper-same found f u none is = subst (λ (all : List (List ℕ)). IsUpper s asked all u)
      (sym (installed-push found f ∙ ap (λ (xs : List (List ℕ)). installed s asked found ++ xs) none ∙ append-nil (installed s asked found))) is

  upper-more : (found : List Finding) (members : List ℕ) (u : Option (ℕ × List Bool)) → is_among members (own s asked) ≡ true
      → IsUpper s asked (installed s asked found ++ members ∷ []) u → IsUpper s asked (installed s asked (found ++ Installed members ∷ [])) u
  upper-more found members u has is = subst (λ (all : List (List ℕ)). IsUpper s asked all u)
      (sym (installed-push found (Installed members) ∙ ap (λ (xs : List (List ℕ)). installed s asked found ++ xs)
      (cond-true (is_among members (own s asked)) (members ∷ []) [] has))) is

  -- ---- a question

  -- what is closed in another way leaves the marks of questions that are left undecided, and of refuted ones
  left-stays : (found : List Finding) (f : Finding) → ((question : List Word) → f ≢ LeftUndecided question) → (Asks : List Word → Type 0) (b : Bool)
      → (b ≡ true) ↔ IsLeft Asks found → (b ≡ true) ↔ IsLeft Asks (found ++ f ∷ [])
  left-stays found f none Asks b = still-mark LeftUndecided one-left Asks found b f none

  refuted-stays : (found : List Finding) (f : Finding) → ((question : List Word) → f ≢ Refuted question) → (Asks : List Word → Type 0) (b : Bool)
      → (b ≡ true) ↔ IsRefuted Asks found → (b ≡ true) ↔ IsRefuted Asks (found ++ f ∷ [])
  refuted-stays found f none Asks b = still-mark Refuted one-refuted Asks found b f none

  pub lower-stays : (found : List Finding) (f : Finding) → ((question : List Word) → f ≢ Refuted question) → (l : ℕ) → IsLower s asked found l
      → IsLower s asked (found ++ f ∷ []) l
  lower-stays found f none l = lower-same found f l (λ j upto. still-closed Refuted one-refuted (AsksAt s asked j) found f none)

  pub notes-refuted : (found : List Finding) (question : List Word) (n m : NotesView) → AreNotesOf s asked found n → NotesRefuted n question m
      → AreNotesOf s asked (found ++ Refuted question ∷ []) m
  notes-refuted found question n m are (inl alone) =
      let asks = alone-asks n.words are.words question alone.0 in
      subst (AreNotesOf s asked (found ++ Refuted question ∷ [])) (sym alone.1) (record {
        words = are.words;
        outdated = ((λ is. new-closed Refuted one-refuted (AsksAlone s asked) found question asks), λ is. refl);
        alone_left = left-stays found (Refuted question) (λ q is. cc) (AsksAlone s asked) n.alone_left are.alone_left;
        lower = lower-same found (Refuted question) n.lower
            (λ j upto. old-closed Refuted one-refuted (AsksAt s asked j) found question (not-both s asked j question asks)) are.lower;
        left_count = are.left_count;
        left = λ j upto. left-stays found (Refuted question) (λ q is. cc) (AsksAt s asked j) (get_or n.left j false) (are.left j upto);
        upper = upper-same found (Refuted question) n.upper refl are.upper;
      })
  notes-refuted found question n m are (inr (other, inl (j, at, is))) =
      let asks = at-asks n.words are.words question j at in
      subst (AreNotesOf s asked (found ++ Refuted question ∷ [])) (sym is) (record {
        words = are.words;
        outdated = old-mark Refuted one-refuted (AsksAlone s asked) found n.outdated question
            (λ alone. other (asks-alone n.words are.words question alone)) are.outdated;
        alone_left = left-stays found (Refuted question) (λ q is. cc) (AsksAlone s asked) n.alone_left are.alone_left;
        lower = lower-raised found question n.lower j asks.0 asks.1 are.lower;
        left_count = are.left_count;
        left = λ i upto. left-stays found (Refuted question) (λ q is. cc) (AsksAt s asked i) (get_or n.left i false) (are.left i upto);
        upper = upper-same found (Refuted question) n.upper refl are.upper;
      })
  notes-refuted found question n m are (inr (other, inr (none, is))) =
      subst (AreNotesOf s asked (found ++ Refuted question ∷ [])) (sym is) (record {
        words = are.words;
        outdated = old-mark Refuted one-refuted (AsksAlone s asked) found n.outdated question
            (λ alone. other (asks-alone n.words are.words question alone)) are.outdated;
        alone_left = left-stays found (Refuted question) (λ q is. cc) (AsksAlone s asked) n.alone_left are.alone_left;
        lower = lower-same found (Refuted question) n.lower
            (λ j upto. old-closed Refuted one-refuted (AsksAt s asked j) found question
            (λ at. none j (asks-at n.words are.words question j upto at))) are.lower;
        left_count = are.left_count;
        left = λ i upto. left-stays found (Refuted question) (λ q is. cc) (AsksAt s asked i) (get_or n.left i false) (are.left i upto);
        upper = upper-same found (Refuted question) n.upper refl are.upper;
      })

  pub notes-left : (found : List Finding) (question : List Word) (n m : NotesView) → AreNotesOf s asked found n → NotesLeft n question m
      → AreNotesOf s asked (found ++ LeftUndecided question ∷ []) m
  notes-left found question n m are (inl alone) =
      let asks = alone-asks n.words are.words question alone.0 in
      subst (AreNotesOf s asked (found ++ LeftUndecided question ∷ [])) (sym alone.1) (record {
        words = are.words;
        outdated = refuted-stays found (LeftUndecided question) (λ q is. cc) (AsksAlone s asked) n.outdated are.outdated;
        alone_left = ((λ is. new-closed LeftUndecided one-left (AsksAlone s asked) found question asks), λ is. refl);
        lower = lower-stays found (LeftUndecided question) (λ q is. cc) n.lower are.lower;
        left_count = are.left_count;
        left = λ j upto. old-mark LeftUndecided one-left (AsksAt s asked j) found (get_or n.left j false) question (not-both s asked j question asks)
            (are.left j upto);
        upper = upper-same found (LeftUndecided question) n.upper refl are.upper;
      })
  notes-left found question n m are (inr (other, inl (j, at, is))) =
      let asks = at-asks n.words are.words question j at in
      let count = are.left_count in
      let short : j < length n.left = omega (arith, asks.0, count) in
      subst (AreNotesOf s asked (found ++ LeftUndecided question ∷ [])) (sym is) (record {
        words = are.words;
        outdated = refuted-stays found (LeftUndecided question) (λ q is. cc) (AsksAlone s asked) n.outdated are.outdated;
        alone_left = old-mark LeftUndecided one-left (AsksAlone s asked) found n.alone_left question
            (λ alone. other (asks-alone n.words are.words question alone)) are.alone_left;
        lower = lower-stays found (LeftUndecided question) (λ q is. cc) n.lower are.lower;
        left_count = length-set n.left j true ∙ are.left_count;
        left = λ i upto. elim (cases_eq i j) [
          | inl same ↦ (
            (λ on. new-closed LeftUndecided one-left (AsksAt s asked i) found question
                (subst (λ (k : ℕ). AsksAt s asked k question) (sym same) asks.1)),
            λ left. ap (λ (k : ℕ). get_or (set n.left j true) k false) same ∙ get_or-set_same n.left j true false short,
          )
          | inr differ ↦ old-mark LeftUndecided one-left (AsksAt s asked i) found (get_or (set n.left j true) i false) question
              (λ other_one. differ (one-number s asked i j question other_one asks.1))
              (subst (λ (b : Bool). (b ≡ true) ↔ IsLeft (AsksAt s asked i) found) (sym (get_or-set_other n.left j i true false differ)) (are.left i upto))
        ];
        upper = upper-same found (LeftUndecided question) n.upper refl are.upper;
      })
  notes-left found question n m are (inr (other, inr (none, is))) =
      subst (AreNotesOf s asked (found ++ LeftUndecided question ∷ [])) (sym is) (record {
        words = are.words;
        outdated = refuted-stays found (LeftUndecided question) (λ q is. cc) (AsksAlone s asked) n.outdated are.outdated;
        alone_left = old-mark LeftUndecided one-left (AsksAlone s asked) found n.alone_left question
            (λ alone. other (asks-alone n.words are.words question alone)) are.alone_left;
        lower = lower-stays found (LeftUndecided question) (λ q is. cc) n.lower are.lower;
        left_count = are.left_count;
        left = λ j upto. old-mark LeftUndecided one-left (AsksAt s asked j) found (get_or n.left j false) question
            (λ at. none j (asks-at n.words are.words question j upto at)) (are.left j upto);
        upper = upper-same found (LeftUndecided question) n.upper refl are.upper;
      })

  -- ---- an installation

  -- notes with this upper bound are those of one installation more
  with-installed : (found : List Finding) (members : List ℕ) (n : NotesView) (u : Option (ℕ × List Bool)) → AreNotesOf s asked found n
      → IsUpper s asked (installed s asked (found ++ Installed members ∷ [])) u
      → AreNotesOf s asked (found ++ Installed members ∷ []) (record n { upper = u })
  with-installed found members n u are upper = record {
    words = are.words;
    outdated = refuted-stays found (Installed members) (λ q is. cc) (AsksAlone s asked) n.outdated are.outdated;
    alone_left = left-stays found (Installed members) (λ q is. cc) (AsksAlone s asked) n.alone_left are.alone_left;
    lower = lower-stays found (Installed members) (λ q is. cc) n.lower are.lower;
    left_count = are.left_count;
    left = λ j upto. left-stays found (Installed members) (λ q is. cc) (AsksAt s asked j) (get_or n.left j false) (are.left j upto);
    upper = upper;
  }

  -- an installation with fewer clusters than all before it is the first with the fewest
  new-least : (all : List (List ℕ)) (members : List ℕ) (u : Option (ℕ × List Bool)) → IsUpper s asked all u → is_fewer u (moved_in s members) ≡ true
      → IsUpper s asked (all ++ members ∷ []) (Some (moved_in s members, values_in s asked members))
  new-least all members None none fewer = (
    members,
    record {
      earlier = all;
      later = [];
      stands = refl;
      first = subst (All (λ other. moved_in s members < moved_in s other)) (sym none) (All-nil (λ other. moved_in s members < moved_in s other));
      least = All-nil (λ other. moved_in s members ≤ moved_in s other);
    },
    refl,
    refl,
  )
  new-least all members (Some upper) (least, first, count, values) fewer =
      let less : moved_in s members < upper.0 = ltb-true (moved_in s members) upper.0 fewer in
      let below : moved_in s members < moved_in s least = omega (arith, less, count) in
      let Fewer : List ℕ → Type 0 = λ other. moved_in s members < moved_in s other in (
        members,
        record {
          earlier = all;
          later = [];
          stands = refl;
          first = subst (All Fewer) (sym first.stands) (All-append Fewer first.earlier (least ∷ first.later)
              (All-weaker (λ other. moved_in s least < moved_in s other) Fewer (λ other h. omega (arith, h, below)) first.earlier first.first)
              (All-cons Fewer least first.later below
              (All-weaker (λ other. moved_in s least ≤ moved_in s other) Fewer (λ other h. omega (arith, h, below)) first.later first.least)));
          least = All-nil (λ other. moved_in s members ≤ moved_in s other);
        },
        refl,
        refl,
      )

  -- one with as many or more leaves it
  old-least : (all : List (List ℕ)) (members : List ℕ) (u : Option (ℕ × List Bool)) → IsUpper s asked all u → is_fewer u (moved_in s members) ≡ false
      → IsUpper s asked (all ++ members ∷ []) u
  old-least all members None none fewer = absurd (true≢false fewer)
  old-least all members (Some upper) (least, first, count, values) fewer =
      let more : upper.0 ≤ moved_in s members = ltb-false (moved_in s members) upper.0 fewer in (
        least,
        record {
          earlier = first.earlier;
          later = first.later ++ members ∷ [];
          stands = ap (λ (xs : List (List ℕ)). xs ++ members ∷ []) first.stands ∙ append_assoc first.earlier (least ∷ first.later) (members ∷ []);
          first = first.first;
          least = All-push (λ other. moved_in s least ≤ moved_in s other) first.later members first.least (omega (arith, more, count));
        },
        count,
        values,
      )

  abbrev changed : List ℕ → NotesView → NotesView
  changed members n = record n { upper = Some (moved_in s members, truth_of (n.words.first + n.words.most) members) }

  pub notes-installed : (found : List Finding) (members : List ℕ) (n : NotesView) → AreNotesOf s asked found n
      → AreNotesOf s asked (found ++ Installed members ∷ []) (noted_installed s n members)
  notes-installed found members n are = elim (cases_Bool (is_among members (own s asked))) [
    | inr none ↦ unchanged (and_left (is_among members n.words.own) (is_fewer n.upper (moved_in s members)) (own_word ∙ none))
        (upper-same found (Installed members) n.upper (cond-false (is_among members (own s asked)) (members ∷ []) [] none) are.upper)
    | inl has ↦ elim (cases_Bool (is_fewer n.upper (moved_in s members))) [
      | inr not_fewer ↦ unchanged (and_right (is_among members n.words.own) (is_fewer n.upper (moved_in s members)) not_fewer)
          (upper-more found members n.upper has (old-least (installed s asked found) members n.upper are.upper not_fewer))
      | inl is_less ↦ subst (AreNotesOf s asked (found ++ Installed members ∷ []))
          (sym (cond-true (is_among members n.words.own && is_fewer n.upper (moved_in s members)) (changed members n) n
          (and_from (is_among members n.words.own) (is_fewer n.upper (moved_in s members)) (own_word ∙ has) is_less)))
          (with-installed found members n (Some (moved_in s members, truth_of (n.words.first + n.words.most) members)) are
          (subst (λ (values : List Bool). IsUpper s asked (installed s asked (found ++ Installed members ∷ [])) (Some (moved_in s members, values)))
          (ap (λ (v : ℕ). truth_of v members) (sym are.words.last_is))
          (upper-more found members (Some (moved_in s members, values_in s asked members)) has
          (new-least (installed s asked found) members n.upper are.upper is_less))))
    ]
  ]
    where
      own_word : is_among members n.words.own ≡ is_among members (own s asked)
      own_word = ap (is_among members) are.words.own_is

      unchanged : (is_among members n.words.own && is_fewer n.upper (moved_in s members)) ≡ false
          → IsUpper s asked (installed s asked (found ++ Installed members ∷ [])) n.upper
          → AreNotesOf s asked (found ++ Installed members ∷ []) (noted_installed s n members)
      unchanged off upper = subst (AreNotesOf s asked (found ++ Installed members ∷ []))
          (sym (cond-false (is_among members n.words.own && is_fewer n.upper (moved_in s members)) (changed members n) n off))
          (with-installed found members n n.upper are upper)
