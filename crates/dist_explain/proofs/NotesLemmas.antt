-- What is noted of findings, with one finding more, and what it answers.
use Rattle.std.proofs.Common.{◌≡◌, ◌≢◌, ◌⊎◌, ◌↔◌, inl, inr, ℕ, ◌+◌, ◌<◌, ◌≤◌, Bool, true, false, not, List, [], ◌∷◌}
use Rattle.std.proofs.Common.{◌++◌, filter}
use Rattle.std.proofs.Common.{Option, Some, None, refl, sym, ap, subst, ◌∙◌, arith, get_or}
use Rattle.std.proofs.Common.{zero-add, IsTrue, ◌||◌, Result, Ok, Err}
use Rattle.std.specs.Prelude.{OnOk}
use Rattle.std.specs.List.{All, Any, Contains, list_all}
use Rattle.std.proofs.lemmas.Bool.{and_from, and_parts, cases_Bool, cases_order, or_cases, or_left, or_right}
use Rattle.std.proofs.lemmas.Bool.{true≢false, false≢true}
use Rattle.std.proofs.lemmas.List.Elements.{All-contains}
use Rattle.std.proofs.lemmas.List.Elements.{Contains-append_right}
use Rattle.std.proofs.lemmas.List.Kept.{AllPairs-filter}
use Rattle.dist_base.specs.ListLaws.{all-contained, any-contained}
use Rattle.dist_cert.specs.ClaimRules.{yes}
use Rattle.dist_cert.specs.Form.{Word}
use Rattle.dist_cert.specs.ListLaws.{any-from, contains-cases, contains-later, from-any}
use Rattle.dist_cert.specs.Rising.{AreRising, is_among}
use Rattle.dist_explain.specs.Answered.{Answers, AreAllBut, AreAnswered, AreDecided, AreLast, HasAll}
use Rattle.dist_explain.specs.Answered.{IsOnlyMissing, LeavesAllOpen, LeavesOpen}
use Rattle.dist_explain.specs.Answered.{NoneRefuted, RefutesSome, Selects, ShowsAll, ShowsNeeded}
use Rattle.dist_explain.specs.AskedPrivate.{SelectsNone}
use Rattle.dist_explain.specs.ListedPrivate.{HasAllBehind, HasOneMore, IsNoneMissing}
use Rattle.dist_explain.specs.NotesPrivate.{AreAllMarked, AreFirstNotes, AreInOrder, AreLastNotes, AreMarks, AreNotes}
use Rattle.dist_explain.specs.NotesPrivate.{AreNotesOf, IsMarked, IsMarkedIn, LastView}
use Rattle.dist_explain.specs.NotesPrivate.{MarksOpen, MarksShown, NotesView, are_all_marked, fresh, undecided_of}
use Rattle.dist_explain.specs.declared.asked.Asked.{Asked}
use Rattle.dist_explain.specs.declared.explained.Explained.{Explained}
use Rattle.dist_explain.specs.declared.explained.Explained.TheVariants.{Installable, Undecided, Broken}
use Rattle.dist_line_check.specs.ToldLaws.{IsTold, all-told, bool-told, number-told, stable}
use Rattle.dist_explain.specs.AnsweredLaws.{any-push, kept, last-more, last-new, none-any, none-more, selects-one}
use Rattle.dist_findings.specs.declared.finding.Finding.{Finding}
use Rattle.dist_findings.specs.declared.finding.Finding.TheVariants as finding

-- ---- one element more

none-there : (one : ℕ) → ¬ Contains [] one
none-there one there = omega (arith, there.1)

-- what holds of some element or of one more
more-any : {X : Type 0} (Z : Type 0) (P : X → Type 0) (xs : List X) (x : X) → Z ↔ (Any P xs ⊎ P x) → Z ↔ Any P (xs ++ x ∷ [])
more-any Z P xs x iff = ((λ z. (any-push P xs x).1 (iff.0 z)), λ any. iff.1 ((any-push P xs x).0 any))

-- ---- one finding more

-- the same, where the first of them is told otherwise
through : (Z A B C : Type 0) → Z ↔ (A ⊎ C) → A ↔ B → Z ↔ (B ⊎ C)
through Z A B C iff same = (
  (λ z. elim (iff.0 z) [
    | inl a ↦ inl (same.0 a)
    | inr c ↦ inr c
  ]),
  (λ some. elim some [
    | inl b ↦ iff.1 (inl (same.1 b))
    | inr c ↦ iff.1 (inr c)
  ]),
)

-- while no question is refuted
pub first-next : (asked : Asked) (found : List Finding) (f : Finding) (installed left_open also still : Bool) → ¬ RefutesSome asked f
    → (also ≡ true) ↔ ((installed ≡ true) ⊎ ShowsAll asked f) → (still ≡ true) ↔ ((left_open ≡ true) ⊎ LeavesAllOpen asked f)
    → AreFirstNotes asked found installed left_open → AreFirstNotes asked (found ++ f ∷ []) also still
first-next asked found f installed left_open also still not shows leaves notes = record {
  none = none-more asked found f notes.none not;
  shown = more-any (also ≡ true) (ShowsAll asked) found f
      (through (also ≡ true) (installed ≡ true) (Any (ShowsAll asked) found) (ShowsAll asked f) shows notes.shown);
  open_still = more-any (still ≡ true) (LeavesAllOpen asked) found f
      (through (still ≡ true) (left_open ≡ true) (Any (LeavesAllOpen asked) found) (LeavesAllOpen asked f) leaves notes.open_still);
}

-- behind the last refuted question
pub last-next : (asked : Asked) (found : List Finding) (f : Finding) (last new : LastView) → ¬ RefutesSome asked f → new.numbers ≡ last.numbers
    → ((one : ℕ) → Contains new.shown one ↔ (Contains last.shown one ⊎ ShowsNeeded asked last.numbers one f))
    → ((one : ℕ) → Contains new.left_open one ↔ (Contains last.left_open one ⊎ LeavesOpen asked last.numbers one f))
    → AreLastNotes asked found last → AreLastNotes asked (found ++ f ∷ []) new
last-next asked found f last new not same shows leaves notes =
    let later : List Finding = notes.later in
    let is = notes.are_last in record {
      later = later ++ f ∷ [];
      are_last = subst (λ ns. AreLast asked (found ++ f ∷ []) ns (later ++ f ∷ [])) (sym same) (last-more asked found last.numbers later f is not);
      marks = record {
        shown = λ one.
            let Shows : List ℕ → Finding → Type 0 = λ ns. ShowsNeeded asked ns one in
            subst (λ ns. Contains new.shown one ↔ Any (Shows ns) (later ++ f ∷ [])) (sym same)
            (more-any (Contains new.shown one) (Shows last.numbers) later f
            (through (Contains new.shown one) (Contains last.shown one) (Any (Shows last.numbers) later) (Shows last.numbers f) (shows one)
            (notes.marks.shown one)));
        left_open = λ one.
            let Leaves : List ℕ → Finding → Type 0 = λ ns. LeavesOpen asked ns one in
            subst (λ ns. Contains new.left_open one ↔ Any (Leaves ns) (later ++ f ∷ [])) (sym same)
            (more-any (Contains new.left_open one) (Leaves last.numbers) later f
            (through (Contains new.left_open one) (Contains last.left_open one) (Any (Leaves last.numbers) later) (Leaves last.numbers f) (leaves one)
            (notes.marks.left_open one)));
      };
    }

-- a question more of relations that is refuted
pub refuted-next : (asked : Asked) (found : List Finding) (question : List Word) (numbers : List ℕ) → Selects asked question numbers
    → AreLastNotes asked (found ++ finding.Refuted question ∷ []) (fresh numbers)
refuted-next asked found question numbers selects = record {
  later = [];
  are_last = last-new asked found question numbers selects;
  marks = record {
    shown = λ one. ((λ there. absurd (none-there one there)), λ any. absurd (none-any (ShowsNeeded asked numbers one) any));
    left_open = λ one. ((λ there. absurd (none-there one there)), λ any. absurd (none-any (LeavesOpen asked numbers one) any));
  };
}

-- ---- a finding that says nothing

-- it says nothing of relations
pub record SaysNothing (asked : Asked) (f : Finding) : Type 0 where
  pub refutes : ¬ RefutesSome asked f
  pub shows : ¬ ShowsAll asked f
  pub leaves : ¬ LeavesAllOpen asked f
  pub needed : (numbers : List ℕ) (one : ℕ) → ¬ ShowsNeeded asked numbers one f
  pub left_open : (numbers : List ℕ) (one : ℕ) → ¬ LeavesOpen asked numbers one f

same-or : (Z C : Type 0) → ¬ C → Z ↔ (Z ⊎ C)
same-or Z C none = (
  (λ z. inl z),
  (λ some. elim some [
    | inl z ↦ z
    | inr c ↦ absurd (none c)
  ]),
)

pub nothing-next : (asked : Asked) (found : List Finding) (f : Finding) (installed left_open : Bool) (last : Option LastView) → SaysNothing asked f
    → AreNotes asked found installed left_open last → AreNotes asked (found ++ f ∷ []) installed left_open last
nothing-next asked found f installed left_open None nothing notes =
    first-next asked found f installed left_open installed left_open nothing.refutes
    (same-or (installed ≡ true) (ShowsAll asked f) nothing.shows) (same-or (left_open ≡ true) (LeavesAllOpen asked f) nothing.leaves) notes
nothing-next asked found f installed left_open (Some last) nothing notes =
    last-next asked found f last last nothing.refutes refl
    (λ one. same-or (Contains last.shown one) (ShowsNeeded asked last.numbers one f) (nothing.needed last.numbers one))
    (λ one. same-or (Contains last.left_open one) (LeavesOpen asked last.numbers one f) (nothing.left_open last.numbers one)) notes

none-refuted : (asked : Asked) (question : List Word) → SelectsNone asked question → SaysNothing asked (finding.Refuted question)
none-refuted asked question none = record {
  refutes = λ some. none some.0 some.1;
  shows = λ no. no;
  leaves = λ no. no;
  needed = λ numbers one no. no;
  left_open = λ numbers one no. no;
}

none-undecided : (asked : Asked) (question : List Word) → SelectsNone asked question → SaysNothing asked (finding.LeftUndecided question)
none-undecided asked question none = record {
  refutes = λ no. no;
  shows = λ no. no;
  leaves = λ some. none some.0 some.1;
  needed = λ numbers one no. no;
  left_open = λ numbers one some. none some.0 some.1;
}

none-installed : (asked : Asked) (members : List ℕ) → ¬ Contains members asked.number → SaysNothing asked (finding.Installed members)
none-installed asked members lacks = record {
  refutes = λ no. no;
  shows = λ all. lacks all.has_package;
  leaves = λ no. no;
  needed = λ numbers one some. lacks some.0;
  left_open = λ numbers one no. no;
}

-- ---- one finding more, of each kind

-- the notes of the same things are notes
pub noted-as : (asked : Asked) (found : List Finding) (old new : NotesView) → new.asked ≡ old.asked → old.asked ≡ asked
    → AreNotes asked found new.installed new.left_open new.last → AreNotesOf asked found new
noted-as asked found old new same is notes = (same ∙ is, notes)

pub skip-refuted : (asked : Asked) (found : List Finding) (question : List Word) (n : NotesView) → SelectsNone n.asked question
    → AreNotesOf asked found n → AreNotesOf asked (found ++ finding.Refuted question ∷ []) n
skip-refuted asked found question n none notes = (
  notes.0,
  nothing-next asked found (finding.Refuted question) n.installed n.left_open n.last
      (none-refuted asked question (subst (λ a. SelectsNone a question) notes.0 none)) notes.1,
)

pub take-refuted : (asked : Asked) (found : List Finding) (question : List Word) (n : NotesView) (numbers : List ℕ) → Selects n.asked question numbers
    → AreNotesOf asked found n → AreNotesOf asked (found ++ finding.Refuted question ∷ []) (record n { last = Some (fresh numbers) })
take-refuted asked found question n numbers selects notes =
    (notes.0, refuted-next asked found question numbers (subst (λ a. Selects a question numbers) notes.0 selects))

pub skip-undecided : (asked : Asked) (found : List Finding) (question : List Word) (n : NotesView) → SelectsNone n.asked question
    → AreNotesOf asked found n → AreNotesOf asked (found ++ finding.LeftUndecided question ∷ []) n
skip-undecided asked found question n none notes = (
  notes.0,
  nothing-next asked found (finding.LeftUndecided question) n.installed n.left_open n.last
      (none-undecided asked question (subst (λ a. SelectsNone a question) notes.0 none)) notes.1,
)

pub skip-installed : (asked : Asked) (found : List Finding) (members : List ℕ) (n : NotesView) → ¬ Contains members n.asked.number
    → AreNotesOf asked found n → AreNotesOf asked (found ++ finding.Installed members ∷ []) n
skip-installed asked found members n lacks notes = (
  notes.0,
  nothing-next asked found (finding.Installed members) n.installed n.left_open n.last
      (none-installed asked members (subst (λ (a : Asked). ¬ Contains members a.number) notes.0 lacks)) notes.1,
)

-- ---- the only one that is missing

pub missing-one : (numbers : List ℕ) (offset : ℕ) (list : List ℕ) (one other : ℕ) → IsOnlyMissing numbers offset list one
    → IsOnlyMissing numbers offset list other → one ≡ other
missing-one numbers offset list one other first second = elim (cases_order one other) [
  | inl same ↦ same
  | inr apart ↦
      let differ : other ≢ one = λ same. elim apart [
        | inl less ↦ omega (arith, less, same)
        | inr more ↦ omega (arith, more, same)
      ] in
      absurd (second.missing (All-contains (λ n. n ≢ one → Contains list (offset + n)) numbers other first.others second.there differ))
]

pub but-missing : (numbers : List ℕ) (one : ℕ) (others : List ℕ) → AreAllBut numbers one others → IsOnlyMissing numbers 0 others one
but-missing numbers one others but = record {
  there = but.there;
  missing = λ there. ((but.exact one).0 (subst (Contains others) (zero-add one) there)).1 refl;
  others = all-contained (λ n. n ≢ one → Contains others (0 + n)) numbers
      (λ n there apart. subst (Contains others) (sym (zero-add n)) ((but.exact n).1 (there, apart)));
}

pub missing-but : (numbers : List ℕ) (one : ℕ) (others : List ℕ) → ((n : ℕ) → Contains others n → Contains numbers n)
    → IsOnlyMissing numbers 0 others one → AreAllBut numbers one others
missing-but numbers one others within only = record {
  there = only.there;
  exact = λ n. (
    (λ there. (within n there, λ same. only.missing (subst (Contains others) (sym (zero-add one)) (subst (Contains others) same there)))),
    (λ both. subst (Contains others) (zero-add n) (All-contains (λ k. k ≢ one → Contains others (0 + k)) numbers n only.others both.0 both.1)),
  );
}

-- a list with one number more, which is the only one of which something holds
pub marked-one : (old new : List ℕ) (number : ℕ) (P : ℕ → Type 0) → HasOneMore old new number → P number → ((one : ℕ) → P one → one ≡ number)
    → (one : ℕ) → Contains new one ↔ (Contains old one ⊎ P one)
marked-one old new number P more holds alone one = (
  (λ there. elim ((more one).0 there) [
    | inl before ↦ inl before
    | inr same ↦ inr (subst P (sym same) holds)
  ]),
  (λ some. elim some [
    | inl before ↦ (more one).1 (inl before)
    | inr here ↦ (more one).1 (inr (alone one here))
  ]),
)

-- the same list, where it holds of none
pub marked-none : (old : List ℕ) (P : ℕ → Type 0) → ((one : ℕ) → ¬ P one) → (one : ℕ) → Contains old one ↔ (Contains old one ⊎ P one)
marked-none old P none one = same-or (Contains old one) (P one) (none one)

-- ---- a question of relations that is left undecided, and an installation

pub take-open : (asked : Asked) (found : List Finding) (question : List Word) (numbers : List ℕ) (last new : LastView) → asked.number ≤ asked.packages
    → Selects asked question numbers → MarksOpen numbers last new → AreLastNotes asked found last
    → AreLastNotes asked (found ++ finding.LeftUndecided question ∷ []) new
take-open asked found question numbers last new upto selects marks notes =
    let f : Finding = finding.LeftUndecided question in
    last-next asked found f last new (λ no. no) marks.numbers
    (λ one. subst (λ ns. Contains ns one ↔ (Contains last.shown one ⊎ ShowsNeeded asked last.numbers one f)) (sym marks.shown)
    (same-or (Contains last.shown one) (ShowsNeeded asked last.numbers one f) (λ no. no)))
    (λ one. (
      (λ there. elim ((marks.left_open one).0 there) [
        | inl before ↦ inl before
        | inr but ↦ inr (numbers, selects, but)
      ]),
      (λ some. (marks.left_open one).1 (elim some [
        | inl before ↦ inl before
        | inr leaves ↦ inr (subst (AreAllBut last.numbers one) (selects-one asked question numbers leaves.0 upto selects leaves.1) leaves.2)
      ])),
    )) notes

pub take-shown : (asked : Asked) (found : List Finding) (members : List ℕ) (last new : LastView) → Contains members asked.number
    → MarksShown asked.packages members last new → AreLastNotes asked found last → AreLastNotes asked (found ++ finding.Installed members ∷ []) new
take-shown asked found members last new has marks notes =
    let f : Finding = finding.Installed members in
    last-next asked found f last new (λ no. no) marks.numbers
    (λ one. (
      (λ there. elim ((marks.shown one).0 there) [
        | inl before ↦ inl before
        | inr only ↦ inr (has, only)
      ]),
      (λ some. (marks.shown one).1 (elim some [
        | inl before ↦ inl before
        | inr shows ↦ inr shows.1
      ])),
    ))
    (λ one. subst (λ ns. Contains ns one ↔ (Contains last.left_open one ⊎ LeavesOpen asked last.numbers one f)) (sym marks.left_open)
    (same-or (Contains last.left_open one) (LeavesOpen asked last.numbers one f) (λ no. no))) notes

-- the question of all relations
all-selected : (asked : Asked) (question : List Word) (numbers : List ℕ) → asked.number ≤ asked.packages → Selects asked question numbers
    → HasAllBehind numbers 0 asked.relations ↔ LeavesAllOpen asked (finding.LeftUndecided question)
all-selected asked question numbers upto selects = (
  (λ all. (numbers, selects, λ number is. subst (Contains numbers) (zero-add number) (all number is.0 is.1))),
  (λ leaves number from within.
      subst (Contains numbers) (sym (zero-add number)) (subst (λ ns. Contains ns number) (selects-one asked question numbers leaves.0 upto selects leaves.1)
      (leaves.2 number (from, within)))),
)

pub take-all-open : (asked : Asked) (found : List Finding) (question : List Word) (numbers : List ℕ) (installed left_open still : Bool)
    → asked.number ≤ asked.packages → Selects asked question numbers
    → (still ≡ true) ↔ ((left_open ≡ true) ⊎ HasAllBehind numbers 0 asked.relations) → AreFirstNotes asked found installed left_open
    → AreFirstNotes asked (found ++ finding.LeftUndecided question ∷ []) installed still
take-all-open asked found question numbers installed left_open still upto selects tells notes =
    let f : Finding = finding.LeftUndecided question in
    let all = all-selected asked question numbers upto selects in
    first-next asked found f installed left_open installed still (λ no. no) (same-or (installed ≡ true) (ShowsAll asked f) (λ no. no)) (
      (λ yes. elim (tells.0 yes) [
        | inl before ↦ inl before
        | inr here ↦ inr (all.0 here)
      ]),
      (λ some. tells.1 (elim some [
        | inl before ↦ inl before
        | inr here ↦ inr (all.1 here)
      ])),
    ) notes

-- an installation with the package
all-installed : (asked : Asked) (members : List ℕ) → Contains members asked.number
    → HasAllBehind members asked.packages asked.relations ↔ HasAll asked members
all-installed asked members has = (
  (λ all. record { has_package = has; has_selectors = λ number is. all number is.0 is.1 }),
  (λ whole number from within. whole.has_selectors number (from, within)),
)

pub take-all-installed : (asked : Asked) (found : List Finding) (members : List ℕ) (installed left_open also : Bool) → Contains members asked.number
    → (also ≡ true) ↔ ((installed ≡ true) ⊎ HasAllBehind members asked.packages asked.relations) → AreFirstNotes asked found installed left_open
    → AreFirstNotes asked (found ++ finding.Installed members ∷ []) also left_open
take-all-installed asked found members installed left_open also has tells notes =
    let f : Finding = finding.Installed members in
    let all = all-installed asked members has in
    first-next asked found f installed left_open also left_open (λ no. no) (
      (λ yes. elim (tells.0 yes) [
        | inl before ↦ inl before
        | inr here ↦ inr (all.0 here)
      ]),
      (λ some. tells.1 (elim some [
        | inl before ↦ inl before
        | inr here ↦ inr (all.1 here)
      ])),
    )
    (same-or (left_open ≡ true) (LeavesAllOpen asked f) (λ no. no)) notes

-- ---- the answer

-- the last one of some findings is one
split-one : (P : Finding → Type 0) (firsts : List Finding) (first : Finding) (more : List Finding) (seconds : List Finding) (second : Finding)
    (rest : List Finding) → firsts ++ first ∷ more ≡ seconds ++ second ∷ rest → P first → P second → ¬ Any P more → ¬ Any P rest
    → (second ≡ first) × (rest ≡ more)
split-one P [] first more [] second rest is one other none also = (cc, cc)
split-one P [] first more (s ∷ seconds) second rest is one other none also =
    let later : more ≡ seconds ++ second ∷ rest = cc in
    absurd (none (subst (Any P) (sym later)
    (any-contained P (seconds ++ second ∷ rest) second (Contains-append_right seconds (second ∷ rest) second (0, omega arith, refl)) other)))
split-one P (f ∷ firsts) first more [] second rest is one other none also =
    let later : firsts ++ first ∷ more ≡ rest = cc in
    absurd (also (subst (Any P) later
    (any-contained P (firsts ++ first ∷ more) first (Contains-append_right firsts (first ∷ more) first (0, omega arith, refl)) one)))
split-one P (f ∷ firsts) first more (s ∷ seconds) second rest is one other none also =
    split-one P firsts first more seconds second rest (let e : firsts ++ first ∷ more ≡ seconds ++ second ∷ rest = cc in e) one other none also

pub last-one : (asked : Asked) (found : List Finding) (numbers : List ℕ) (later : List Finding) (others : List ℕ) (more : List Finding)
    → asked.number ≤ asked.packages → AreLast asked found numbers later → AreLast asked found others more → (others ≡ numbers) × (more ≡ later)
last-one asked found numbers later others more upto first second =
    let one = split-one (RefutesSome asked) first.earlier (finding.Refuted first.question) later second.earlier (finding.Refuted second.question) more
    (sym first.stands ∙ second.stands) (numbers, first.selects) (others, second.selects) first.none_later second.none_later in
    let same : second.question ≡ first.question = asked-of second.question first.question one.0 in
    (selects-one asked first.question numbers others upto first.selects (subst (λ q. Selects asked q others) same second.selects), one.1)
  where
    asked-of : (q r : List Word) → finding.Refuted q ≡ finding.Refuted r → q ≡ r
    asked-of q r is = cc

-- a question of relations is refuted, where there is a last one
pub some-refuted : (asked : Asked) (found : List Finding) (numbers : List ℕ) (later : List Finding) → AreLast asked found numbers later
    → ¬ NoneRefuted asked found
some-refuted asked found numbers later last none =
    let all : List Finding = last.earlier ++ finding.Refuted last.question ∷ later in
    none (subst (Any (RefutesSome asked)) (sym last.stands) (any-contained (RefutesSome asked) all (finding.Refuted last.question)
    (Contains-append_right last.earlier (finding.Refuted last.question ∷ later) (finding.Refuted last.question) (0, omega arith, refl))
    (numbers, last.selects)))

-- what is left open and not shown
undecided-are : (last : LastView) (one : ℕ) → Contains (undecided_of last) one ↔ (Contains last.left_open one × (¬ Contains last.shown one))
undecided-are last one =
    let both = kept (λ n. not (is_among last.shown n)) last.left_open one in (
      (λ there. let h = both.0 there in (h.0, λ shown. not-both (is_among last.shown one) h.1 (any-from one last.shown shown))),
      (λ h. both.1 (h.0, not-there (is_among last.shown one) (λ is. h.1 (from-any one last.shown is)))),
    )
  where
    not-both : (b : Bool) → not b ≡ true → ¬ (b ≡ true)
    not-both true is yes = false≢true is
    not-both false is yes = false≢true yes

    not-there : (b : Bool) → ¬ (b ≡ true) → not b ≡ true
    not-there true none = absurd (none refl)
    not-there false none = refl

-- the relations with their marks are decided
pub marks-decide : (asked : Asked) (later : List Finding) (last : LastView) → AreMarks asked later last → AreRising last.shown
    → AreRising last.left_open → AreAllMarked last → AreDecided asked last.numbers later last.shown (undecided_of last)
marks-decide asked later last marks first second all = record {
  needed_are = marks.shown;
  undecided_are = λ one.
      let both = undecided-are last one in (
        (λ there. let h = both.0 there in ((marks.left_open one).0 h.0, λ any. h.1 ((marks.shown one).1 any))),
        (λ h. both.1 ((marks.left_open one).1 h.0, λ shown. h.1 ((marks.shown one).0 shown))),
      );
  each = λ k d short. elim (cases_Bool (is_among last.shown (get_or last.numbers k d))) [
    | inl shown ↦ inl (from-any (get_or last.numbers k d) last.shown shown)
    | inr not_shown ↦ elim (all k d short) [
      | inl shown ↦ inl shown
      | inr still ↦ inr ((undecided-are last (get_or last.numbers k d)).1 (
        still,
        λ shown. true≢false (sym (any-from (get_or last.numbers k d) last.shown shown) ∙ not_shown),
      ))
    ]
  ];
  needed_rise = first;
  undecided_rise = AllPairs-filter (λ a b. a < b) (λ n. not (is_among last.shown n)) last.left_open second;
}

-- numbers that have their marks, with rising lists of them
sifted-mark : (asked : Asked) (numbers : List ℕ) (later : List Finding) (list : List ℕ) (Mark : ℕ → Type 0) → ((one : ℕ) → Contains list one ↔ Mark one)
    → ((one : ℕ) → Mark one → Contains numbers one) → (one : ℕ) → Contains (filter (is_among list) numbers) one ↔ Mark one
sifted-mark asked numbers later list Mark marks within one =
    let both = kept (is_among list) numbers one in (
      (λ there. (marks one).0 (from-any one list (both.0 there).1)),
      (λ mark. both.1 (within one mark, any-from one list ((marks one).1 mark))),
    )

-- what is shown to be needed, and what is left open, are some of the relations
shown-within : (asked : Asked) (numbers : List ℕ) (one : ℕ) (f : Finding) → ShowsNeeded asked numbers one f → Contains numbers one
shown-within asked numbers one (finding.Installed members) shows = shows.1.there
shown-within asked numbers one (finding.Refuted question) shows = absurd shows
shown-within asked numbers one (finding.LeftUndecided question) shows = absurd shows

open-within : (asked : Asked) (numbers : List ℕ) (one : ℕ) (f : Finding) → LeavesOpen asked numbers one f → Contains numbers one
open-within asked numbers one (finding.LeftUndecided question) leaves = leaves.2.there
open-within asked numbers one (finding.Installed members) leaves = absurd leaves
open-within asked numbers one (finding.Refuted question) leaves = absurd leaves

abbrev sifted : LastView → LastView
sifted last = record {
  numbers = last.numbers;
  shown = filter (is_among last.shown) last.numbers;
  left_open = filter (is_among last.left_open) last.numbers;
}

sifted-marks : (asked : Asked) (later : List Finding) (last : LastView) → AreMarks asked later last → AreMarks asked later (sifted last)
sifted-marks asked later last marks = record {
  shown = sifted-mark asked last.numbers later last.shown (λ one. Any (ShowsNeeded asked last.numbers one) later) marks.shown
      (λ one any. shown-within asked last.numbers one any.1 any.4);
  left_open = sifted-mark asked last.numbers later last.left_open (λ one. Any (LeavesOpen asked last.numbers one) later) marks.left_open
      (λ one any. open-within asked last.numbers one any.1 any.4);
}

-- relations of which each has its mark are an answer
pub marked-relations : (asked : Asked) (found : List Finding) (n : NotesView) (numbers : List ℕ) (later : List Finding) → asked.number ≤ asked.packages
    → AreNotesOf asked found n → AreLast asked found numbers later → All (IsMarkedIn asked numbers later) numbers → AreAnswered asked found
marked-relations asked found n numbers later upto notes is marked = by n.last notes.1
  where
    by : (o : Option LastView) → AreNotes asked found n.installed n.left_open o → AreAnswered asked found
    by None first = absurd (some-refuted asked found numbers later is first.none)
    by (Some last) lasts =
        let same = last-one asked found numbers later last.numbers lasts.later upto is lasts.are_last in
        let marks : AreMarks asked later last = subst (λ fs. AreMarks asked fs last) same.1 lasts.marks in
        let sifts = sifted-marks asked later last marks in
        let rising : AreRising last.numbers = lasts.are_last.selects.rising in
        let each : All (IsMarkedIn asked last.numbers later) last.numbers = subst (λ ns. All (IsMarkedIn asked ns later) ns) (sym same.0) marked in
        let decided = marks-decide asked later (sifted last) sifts (AllPairs-filter (λ a b. a < b) (is_among last.shown) last.numbers rising)
        (AllPairs-filter (λ a b. a < b) (is_among last.left_open) last.numbers rising) (λ k d short. elim (each k d short) [
          | inl shown ↦ inl ((sifts.shown (get_or last.numbers k d)).1 shown)
          | inr still ↦ inr ((sifts.left_open (get_or last.numbers k d)).1 still)
        ]) in
        let are_last : AreLast asked found last.numbers later = subst (λ fs. AreLast asked found last.numbers fs) same.1 lasts.are_last in
        (Broken (sifted last).shown (undecided_of (sifted last)), (last.numbers, later, are_last, decided))

-- relations that are decided have their marks
decided-marks : (asked : Asked) (later : List Finding) (last : LastView) (needed undecided : List ℕ) → AreMarks asked later last
    → AreDecided asked last.numbers later needed undecided → AreAllMarked last
decided-marks asked later last needed undecided marks decided k d short = elim (decided.each k d short) [
  | inl here ↦ inl ((marks.shown (get_or last.numbers k d)).1 ((decided.needed_are (get_or last.numbers k d)).0 here))
  | inr still ↦ inr ((marks.left_open (get_or last.numbers k d)).1 ((decided.undecided_are (get_or last.numbers k d)).0 still).0)
]

-- the lists of marks rise, where there are some
abbrev pub HaveOrder : Option LastView → Type 0
HaveOrder None = Unit {0}
HaveOrder (Some last) = AreInOrder last

-- what is answered by the notes
abbrev pub answer_of : Option LastView → (installed : Bool) → Explained
answer_of None true = Installable
answer_of None false = Undecided
answer_of (Some last) installed = Broken last.shown (undecided_of last)

pub answered-marked : (asked : Asked) (found : List Finding) (installed left_open : Bool) (last : Option LastView) → asked.number ≤ asked.packages
    → AreNotes asked found installed left_open last → AreAnswered asked found → IsMarked installed left_open last
answered-marked asked found installed left_open None upto notes (Installable, answers) = inl (notes.shown.1 answers.1)
answered-marked asked found installed left_open None upto notes (Undecided, answers) = inr (notes.open_still.1 answers.2)
answered-marked asked found installed left_open None upto notes (Broken needed undecided, answers) =
    absurd (some-refuted asked found answers.0 answers.1 answers.2 notes.none)
answered-marked asked found installed left_open (Some last) upto notes (Installable, answers) =
    absurd (some-refuted asked found last.numbers notes.later notes.are_last answers.0)
answered-marked asked found installed left_open (Some last) upto notes (Undecided, answers) =
    absurd (some-refuted asked found last.numbers notes.later notes.are_last answers.0)
answered-marked asked found installed left_open (Some last) upto notes (Broken needed undecided, answers) =
    let one = last-one asked found last.numbers notes.later answers.0 answers.1 upto notes.are_last answers.2 in
    decided-marks asked notes.later last needed undecided notes.marks
    (subst (λ ns. AreDecided asked ns notes.later needed undecided) one.0
    (subst (λ fs. AreDecided asked answers.0 fs needed undecided) one.1 answers.3))

pub marked-answers : (asked : Asked) (found : List Finding) (installed left_open : Bool) (last : Option LastView) → HaveOrder last
    → AreNotes asked found installed left_open last → IsMarked installed left_open last → Answers asked found (answer_of last installed)
marked-answers asked found true left_open None order notes marked = (notes.none, notes.shown.0 refl)
marked-answers asked found false left_open None order notes marked = (
  notes.none,
  (λ any. false≢true (notes.shown.1 any)),
  elim marked [
    | inl yes ↦ absurd (false≢true yes)
    | inr still ↦ notes.open_still.0 still
  ],
)
marked-answers asked found installed left_open (Some last) order notes marked =
    (last.numbers, notes.later, notes.are_last, marks-decide asked notes.later last notes.marks order.0 order.1 marked)

pub marked-answered : (asked : Asked) (found : List Finding) (installed left_open : Bool) (last : Option LastView) → asked.number ≤ asked.packages
    → HaveOrder last → AreNotes asked found installed left_open last → IsMarked installed left_open last ↔ AreAnswered asked found
marked-answered asked found installed left_open last upto order notes = (
  (λ marked. (answer_of last installed, marked-answers asked found installed left_open last order notes marked)),
  (λ answered. answered-marked asked found installed left_open last upto notes answered),
)

-- a list that says of each of some numbers whether it is in another one
pub within-by : (numbers others : List ℕ) (b : Bool) → b ≡ list_all (is_among numbers) others
    → IsTrue b ↔ ((one : ℕ) → Contains others one → Contains numbers one)
within-by numbers others b is = (
  (λ yes one there. from-any one numbers (all-true others (sym is ∙ yes) one there)),
  (λ each. is ∙ true-all others each),
)
  where
    all-true : (xs : List ℕ) → list_all (is_among numbers) xs ≡ true → (one : ℕ) → Contains xs one → is_among numbers one ≡ true
    all-true [] all one there = absurd (omega (arith, there.1))
    all-true (x ∷ xs) all one there =
        let parts = and_parts (is_among numbers x) (list_all (is_among numbers) xs) all in
        elim (contains-cases x xs one there) [
          | inl same ↦ ap (is_among numbers) (sym same) ∙ parts.0
          | inr later ↦ all-true xs parts.1 one later
        ]

    true-all : (xs : List ℕ) → ((one : ℕ) → Contains xs one → Contains numbers one) → list_all (is_among numbers) xs ≡ true
    true-all [] each = refl
    true-all (x ∷ xs) each = and_from (is_among numbers x) (list_all (is_among numbers) xs) (any-from x numbers (each x (0, omega arith, refl)))
        (true-all xs (λ one there. each one (contains-later x xs one there)))

-- whether each number is in one of two lists
pub marked-by : (last : LastView) (b : Bool) → b ≡ list_all (λ one. is_among last.shown one || is_among last.left_open one) last.numbers
    → IsTrue b ↔ AreAllMarked last
marked-by last b is = (
  (λ yes. all-contained (λ one. Contains last.shown one ⊎ Contains last.left_open one) last.numbers
      (λ one there. all-true last.numbers (sym is ∙ yes) one there)),
  (λ each. is ∙ true-all last.numbers (λ one there. All-contains (λ one. Contains last.shown one ⊎ Contains last.left_open one) last.numbers one each there)),
)
  where
    all-true : (xs : List ℕ) → list_all (λ one. is_among last.shown one || is_among last.left_open one) xs ≡ true → (one : ℕ) → Contains xs one
        → Contains last.shown one ⊎ Contains last.left_open one
    all-true [] all one there = absurd (omega (arith, there.1))
    all-true (x ∷ xs) all one there =
        let parts = and_parts (is_among last.shown x || is_among last.left_open x) (list_all (λ one. is_among last.shown one || is_among last.left_open one) xs)
        all in
        elim (contains-cases x xs one there) [
          | inl same ↦ elim (or_cases (is_among last.shown x) (is_among last.left_open x) parts.0) [
            | inl here ↦ inl (subst (Contains last.shown) same (from-any x last.shown here))
            | inr here ↦ inr (subst (Contains last.left_open) same (from-any x last.left_open here))
          ]
          | inr later ↦ all-true xs parts.1 one later
        ]

    true-all : (xs : List ℕ) → ((one : ℕ) → Contains xs one → Contains last.shown one ⊎ Contains last.left_open one)
        → list_all (λ one. is_among last.shown one || is_among last.left_open one) xs ≡ true
    true-all [] each = refl
    true-all (x ∷ xs) each =
        let first : (is_among last.shown x || is_among last.left_open x) ≡ true = elim (each x (0, omega arith, refl)) [
          | inl here ↦ or_left (is_among last.shown x) (is_among last.left_open x) (any-from x last.shown here)
          | inr here ↦ or_right (is_among last.shown x) (is_among last.left_open x) (any-from x last.left_open here)
        ] in
        and_from (is_among last.shown x || is_among last.left_open x) (list_all (λ one. is_among last.shown one || is_among last.left_open one) xs) first
        (true-all xs (λ one there. each one (contains-later x xs one there)))

-- ---- what the calls leave

pub ok-of : {T E P : Type 0} (r : Result T E) → P → OnOk r P
ok-of (Ok x) p = p
ok-of (Err e) p = tt

pub marks-shown : (numbers shown left_open new : List ℕ) (packages : ℕ) (members : List ℕ) (number : ℕ) → IsOnlyMissing numbers packages members number
    → HasOneMore shown new number
    → MarksShown packages members (record { numbers = numbers; shown = shown; left_open = left_open })
    (record { numbers = numbers; shown = new; left_open = left_open })
marks-shown numbers shown left_open new packages members number only more = record {
  numbers = refl;
  left_open = refl;
  shown = marked-one shown new number (IsOnlyMissing numbers packages members) more only
      (λ one also. missing-one numbers packages members one number also only);
}

pub marks-shown-none : (last : LastView) (packages : ℕ) (members : List ℕ) → IsNoneMissing last.numbers packages members
    → MarksShown packages members last last
marks-shown-none last packages members none = record {
  numbers = refl;
  left_open = refl;
  shown = marked-none last.shown (IsOnlyMissing last.numbers packages members) none;
}

pub marks-open : (numbers shown left_open new others : List ℕ) (number : ℕ) → list_all (is_among numbers) others ≡ true
    → IsOnlyMissing numbers 0 others number → HasOneMore left_open new number
    → MarksOpen others (record { numbers = numbers; shown = shown; left_open = left_open })
    (record { numbers = numbers; shown = shown; left_open = new })
marks-open numbers shown left_open new others number all only more = record {
  numbers = refl;
  shown = refl;
  left_open = marked-one left_open new number (λ one. AreAllBut numbers one others) more
      (missing-but numbers number others ((within-by numbers others (list_all (is_among numbers) others) refl).0 all) only)
      (λ one but. missing-one numbers 0 others one number (but-missing numbers one others but) only);
}

pub marks-open-none : (last : LastView) (others : List ℕ) → ((one : ℕ) → ¬ AreAllBut last.numbers one others) → MarksOpen others last last
marks-open-none last others none = record {
  numbers = refl;
  shown = refl;
  left_open = marked-none last.left_open (λ one. AreAllBut last.numbers one others) none;
}

-- others that are not all among the relations are not all of them but one
pub not-within : (numbers others : List ℕ) → list_all (is_among numbers) others ≡ false → (one : ℕ) → ¬ AreAllBut numbers one others
not-within numbers others not_all one but =
    let all = (within-by numbers others (list_all (is_among numbers) others) refl).1 (λ n there. ((but.exact n).0 there).0) in
    true≢false (sym all ∙ not_all)

pub not-missing : (numbers others : List ℕ) → IsNoneMissing numbers 0 others → (one : ℕ) → ¬ AreAllBut numbers one others
not-missing numbers others none one but = none one (but-missing numbers one others but)

-- the notes of what is asked, where its last question is known
noted-at : (asked : Asked) (found : List Finding) (n : NotesView) (last : Option LastView) → n.last ≡ last → AreNotesOf asked found n
    → AreNotes asked found n.installed n.left_open last
noted-at asked found n last is notes = subst (AreNotes asked found n.installed n.left_open) is notes.1

pub undecided-last : (asked : Asked) (found : List Finding) (question : List Word) (old : NotesView) (last new : LastView) (numbers : List ℕ)
    → old.asked.number ≤ old.asked.packages → old.last ≡ Some last → Selects old.asked question numbers → MarksOpen numbers last new
    → AreNotesOf asked found old → AreNotesOf asked (found ++ finding.LeftUndecided question ∷ []) (record old { last = Some new })
undecided-last asked found question old last new numbers upto is selects marks notes = (
  notes.0,
  take-open asked found question numbers last new (subst (λ (a : Asked). a.number ≤ a.packages) notes.0 upto)
      (subst (λ a. Selects a question numbers) notes.0 selects) marks (noted-at asked found old (Some last) is notes),
)

pub undecided-first : (asked : Asked) (found : List Finding) (question : List Word) (old : NotesView) (numbers : List ℕ) (still : Bool)
    → old.asked.number ≤ old.asked.packages → old.last ≡ None → Selects old.asked question numbers
    → (still ≡ true) ↔ ((old.left_open ≡ true) ⊎ HasAllBehind numbers 0 old.asked.relations)
    → AreNotesOf asked found old → AreNotesOf asked (found ++ finding.LeftUndecided question ∷ []) (record old { left_open = still })
undecided-first asked found question old numbers still upto is selects tells notes = (
  notes.0,
  subst (AreNotes asked (found ++ finding.LeftUndecided question ∷ []) old.installed still) (sym is)
      (take-all-open asked found question numbers old.installed old.left_open still (subst (λ (a : Asked). a.number ≤ a.packages) notes.0 upto)
      (subst (λ a. Selects a question numbers) notes.0 selects)
      (subst (λ (a : Asked). (still ≡ true) ↔ ((old.left_open ≡ true) ⊎ HasAllBehind numbers 0 a.relations)) notes.0 tells)
      (noted-at asked found old None is notes)),
)

pub installed-last : (asked : Asked) (found : List Finding) (members : List ℕ) (old : NotesView) (last new : LastView) → old.last ≡ Some last
    → Contains members old.asked.number → MarksShown old.asked.packages members last new → AreNotesOf asked found old
    → AreNotesOf asked (found ++ finding.Installed members ∷ []) (record old { last = Some new })
installed-last asked found members old last new is has marks notes = (
  notes.0,
  take-shown asked found members last new (subst (λ (a : Asked). Contains members a.number) notes.0 has)
      (subst (λ (a : Asked). MarksShown a.packages members last new) notes.0 marks) (noted-at asked found old (Some last) is notes),
)

pub installed-first : (asked : Asked) (found : List Finding) (members : List ℕ) (old : NotesView) (also : Bool) → old.last ≡ None
    → Contains members old.asked.number → (also ≡ true) ↔ ((old.installed ≡ true) ⊎ HasAllBehind members old.asked.packages old.asked.relations)
    → AreNotesOf asked found old → AreNotesOf asked (found ++ finding.Installed members ∷ []) (record old { installed = also })
installed-first asked found members old also is has tells notes = (
  notes.0,
  subst (AreNotes asked (found ++ finding.Installed members ∷ []) also old.left_open) (sym is)
      (take-all-installed asked found members old.installed old.left_open also (subst (λ (a : Asked). Contains members a.number) notes.0 has)
      (subst (λ (a : Asked). (also ≡ true) ↔ ((old.installed ≡ true) ⊎ HasAllBehind members a.packages a.relations)) notes.0 tells)
      (noted-at asked found old None is notes)),
)

-- a mark that is set, and one that stays as it is
pub set-by : (old : Bool) (Z : Type 0) → Z → (true ≡ true) ↔ ((old ≡ true) ⊎ Z)
set-by old Z z = ((λ e. inr z), λ some. refl)

pub kept-by : (old : Bool) (Z : Type 0) → ¬ Z → (old ≡ true) ↔ ((old ≡ true) ⊎ Z)
kept-by old Z none = same-or (old ≡ true) Z none

-- ---- the answer of notes

or-told : (P Q : Type 0) → IsTold P → IsTold Q → IsTold (P ⊎ Q)
or-told P Q (inl p) q = inl (inl p)
or-told P Q (inr none) (inl q) = inl (inr q)
or-told P Q (inr none) (inr never) = inr (λ some. elim some [
  | inl p ↦ none p
  | inr q ↦ never q
])

pub decides : (asked : Asked) (found : List Finding) (n : NotesView) → n.asked.number ≤ n.asked.packages → HaveOrder n.last → AreNotesOf asked found n
    → IsMarked n.installed n.left_open n.last ↔ AreAnswered asked found
decides asked found n upto order notes =
    marked-answered asked found n.installed n.left_open n.last (subst (λ (a : Asked). a.number ≤ a.packages) notes.0 upto) order notes.1

-- whether the notes decide it can be told
marked-told : (installed left_open : Bool) (last : Option LastView) → IsTold (IsMarked installed left_open last)
marked-told installed left_open None = or-told (installed ≡ true) (left_open ≡ true) (bool-told installed true) (bool-told left_open true)
marked-told installed left_open (Some last) = all-told (λ one. Contains last.shown one ⊎ Contains last.left_open one)
    (λ one. or-told (Contains last.shown one) (Contains last.left_open one) (number-told last.shown one) (number-told last.left_open one)) last.numbers

pub answers-by : (asked : Asked) (found : List Finding) (n : NotesView) → n.asked.number ≤ n.asked.packages → HaveOrder n.last → AreNotesOf asked found n
    → ¬ ¬ AreAnswered asked found → Answers asked found (answer_of n.last n.installed)
answers-by asked found n upto order notes answered =
    marked-answers asked found n.installed n.left_open n.last order notes.1 (stable (marked-told n.installed n.left_open n.last)
    (λ none. answered (λ answers. none ((decides asked found n upto order notes).1 answers))))

pub decides-last : (asked : Asked) (found : List Finding) (n : NotesView) (last : LastView) (b : Bool) → n.asked.number ≤ n.asked.packages
    → n.last ≡ Some last → AreInOrder last → AreNotesOf asked found n → b ≡ are_all_marked last → IsTrue b ↔ AreAnswered asked found
decides-last asked found n last b upto is order notes value =
    let marked = marked-by last b value in
    let some = subst (λ (o : Option LastView). IsMarked n.installed n.left_open o ↔ AreAnswered asked found) is
    (decides asked found n upto (subst HaveOrder (sym is) order) notes) in
    ((λ yes. some.0 (marked.0 yes)), λ answered. marked.1 (some.1 answered))

pub decides-first : (asked : Asked) (found : List Finding) (n : NotesView) → n.asked.number ≤ n.asked.packages → n.last ≡ None
    → AreNotesOf asked found n → ((n.installed ≡ true) ⊎ (n.left_open ≡ true)) ↔ AreAnswered asked found
decides-first asked found n upto is notes =
    subst (λ (o : Option LastView). IsMarked n.installed n.left_open o ↔ AreAnswered asked found) is
    (decides asked found n upto (subst HaveOrder (sym is) tt) notes)

pub answers-last : (asked : Asked) (found : List Finding) (n : NotesView) (last : LastView) → n.asked.number ≤ n.asked.packages → n.last ≡ Some last
    → AreInOrder last → AreNotesOf asked found n → ¬ ¬ AreAnswered asked found → Answers asked found (Broken last.shown (undecided_of last))
answers-last asked found n last upto is order notes answered =
    subst (λ (o : Option LastView). Answers asked found (answer_of o n.installed)) is
    (answers-by asked found n upto (subst HaveOrder (sym is) order) notes answered)

pub answers-first : (asked : Asked) (found : List Finding) (n : NotesView) (installed : Bool) → n.asked.number ≤ n.asked.packages → n.last ≡ None
    → n.installed ≡ installed → AreNotesOf asked found n → ¬ ¬ AreAnswered asked found → Answers asked found (answer_of None installed)
answers-first asked found n installed upto is same notes answered =
    subst (λ (b : Bool). Answers asked found (answer_of None b)) same (subst (λ (o : Option LastView). Answers asked found (answer_of o n.installed)) is
    (answers-by asked found n upto (subst HaveOrder (sym is) tt) notes answered))
