-- A question that was asked behind some lines.
use Rattle.std.proofs.Common.{◌≡◌, ◌⊎◌, ◌≤◌, inl, inr, ℕ, true, List, [], ◌∷◌, ◌++◌, sym, subst, append_assoc, arith}
use Rattle.std.specs.List.{All, AllPass, Contains}
use Rattle.std.proofs.lemmas.Bool.{false≢true}
use Rattle.std.proofs.lemmas.List.Elements.{All-contains, All-contains_itself, All-nil, Contains-append_cases}
use Rattle.dist_outside.specs.DeskView.{DeskView, FileGrew}
use Rattle.dist_cert.specs.FileLines.{lines_text}
use Rattle.dist_cert.specs.Form.{Word}
use Rattle.dist_cert.specs.ListLaws.{contains-cases}
use Rattle.dist_cert.specs.declared.records.CertRecord.{CertRecord}
use Rattle.dist_cert.specs.declared.records.CertRecord.TheVariants.{Question}
use Rattle.dist_explain.specs.Answered.{AreLast, Selects}
use Rattle.dist_explain.specs.AnsweredLaws.{last-new, selects-one}
use Rattle.dist_explain.specs.NotesPrivate.{AreNotesOf, IsMarkedIn, NotesView}
use Rattle.dist_explain.specs.declared.asked.Asked.{Asked}
use Rattle.dist_findings.specs.Findings.{findings}
use Rattle.dist_findings.specs.declared.finding.Finding.{Finding}
use Rattle.dist_solver.specs.declared.answers.Answer.{Answer}
use Rattle.dist_solver.specs.declared.answers.Answer.TheVariants as answers
use Rattle.dist_line_write.specs.Asking.{AskerView, is_derived, question_lines, Says}
use Rattle.dist_line_write.specs.Script.{AreAsked, Script}
use Rattle.dist_line_write.specs.ScriptLaws.{question-asked}
use Rattle.dist_line_write.specs.Words.{closing_line}
use Rattle.dist_inquiry.specs.AnswerText.{NoteMore, finding_of}
use Rattle.dist_explain_search.specs.ExplainOrder.{IsNextQuestion}
use Rattle.dist_explain_search.specs.SearchPrivate.{AreNumbers, HasJust, IsSearching, explain_noting, question_of}
use Rattle.dist_explain_search.proofs.QuestionLemmas.{question-selects}

-- ---- which questions stand among lines

none-derived : (between : List CertRecord) (question : List Word) → AllPass is_derived between → ¬ Contains between (Question question)
none-derived between question all there =
    false≢true (All-contains (λ (s : CertRecord). is_derived s ≡ true) between (Question question) all there)

not-closing : (answer : Answer) (question : List Word) → ¬ (closing_line answer ≡ Question question)
not-closing (answers.Found values) question is = cc
not-closing (answers.Refuted hints) question is = cc
not-closing answers.Undecided question is = cc

one-question : (one other : List Word) → Question one ≡ Question other → other ≡ one
one-question one other is = let e : one ≡ other = cc in sym e

asks-one : (lines : List CertRecord) (question : List Word) (between : List CertRecord) (answer : Answer) (other : List Word)
    → AllPass is_derived between → Contains (lines ++ question_lines question between (closing_line answer)) (Question other)
    → Contains lines (Question other) ⊎ (other ≡ question)
asks-one lines question between answer other all there =
    elim (Contains-append_cases lines (question_lines question between (closing_line answer)) (Question other) there) [
      | inl before ↦ inl before
      | inr here ↦ elim (contains-cases (Question question) (between ++ closing_line answer ∷ []) (Question other) here) [
        | inl same ↦ inr (one-question question other same)
        | inr later ↦ elim (Contains-append_cases between (closing_line answer ∷ []) (Question other) later) [
          | inl among ↦ absurd (none-derived between other all among)
          | inr last ↦ elim (contains-cases (closing_line answer) [] (Question other) last) [
            | inl same ↦ absurd (not-closing answer other same)
            | inr none ↦ absurd (omega (arith, none.1))
          ]
        ]
      ]
    ]

-- ---- the question

-- The question was asked behind the lines, and this is what is there then.
pub record IsAskedFor (g : Script) (asked : Asked) (lines : List CertRecord) (question : List Word) (old new : DeskView) (b : AskerView)
    (after : NotesView) (answer : Answer) : Type 0 where
  pub added : List CertRecord
  pub grew : FileGrew (lines_text added) old new
  pub in_order : AreAsked (IsNextQuestion asked) lines added
  pub searching : IsSearching g asked (lines ++ added) b after
  pub finds : findings (lines ++ added) ≡ findings lines ++ finding_of question answer ∷ []
  pub says : Says g question answer
  pub asks : (other : List Word) → Contains (lines ++ added) (Question other) → Contains lines (Question other) ⊎ (other ≡ question)
  pub earlier : List CertRecord
  pub ends : lines ++ added ≡ earlier ++ closing_line answer ∷ []

-- a first line that speaks of this
numbers-of : Asked → List ℕ
numbers-of asked = 0 ∷ asked.packages ∷ asked.relations ∷ asked.number ∷ []

pub asked-for : (g : Script) (asked : Asked) (lines : List CertRecord) (question : List Word) (old new : DeskView) (a b : AskerView)
    (notes after : NotesView) (answer : Answer) → NoteMore explain_noting old new a b notes after question answer
    → IsSearching g asked lines a notes → IsNextQuestion asked lines question → IsAskedFor g asked lines question old new b after answer
unfolding numbers-of
asked-for g asked lines question old new a b notes after answer more searching next =
    let x = more g (numbers-of asked) lines (record { at = searching.at; noted = searching.noted }) in
    let between : List CertRecord = x.asked.between in
    record {
      added = question_lines question between (closing_line answer);
      grew = x.asked.grew;
      in_order = question-asked (IsNextQuestion asked) lines question between answer next x.asked.only_derived;
      searching = record { at = x.asked.at; noted = subst (λ (fs : List Finding). AreNotesOf asked fs after) (sym x.finds) x.noted };
      finds = x.finds;
      says = x.asked.says;
      asks = λ other there. asks-one lines question between answer other x.asked.only_derived there;
      earlier = lines ++ Question question ∷ between;
      ends = sym (append_assoc lines (Question question ∷ between) (closing_line answer ∷ []));
    }

-- ---- relations that are refuted

-- a question on the same relations
pub same-numbers : (asked : Asked) (numbers others : List ℕ) (question : List Word) → asked.number ≤ asked.packages → AreNumbers asked numbers
    → question ≡ question_of asked numbers → Selects asked question others → others ≡ numbers
same-numbers asked numbers others question upto are same selects =
    selects-one asked (question_of asked numbers) numbers others upto (question-selects asked numbers are)
    (subst (λ q. Selects asked q others) same selects)

pub just-refuted : (g : Script) (asked : Asked) (lines : List CertRecord) (numbers hints : List ℕ) (old new : DeskView) (b : AskerView) (after : NotesView)
    → asked.number ≤ asked.packages → AreNumbers asked numbers
    → (x : IsAskedFor g asked lines (question_of asked numbers) old new b after (answers.Refuted hints))
    → ((question : List Word) (others : List ℕ) → Contains lines (Question question) → Selects asked question others → All (Contains numbers) others
    → All (Contains others) numbers)
    → HasJust asked numbers g (lines ++ x.added)
just-refuted g asked lines numbers hints old new b after upto are x so_far = (
  x.earlier,
  hints,
  x.ends,
  record {
    are_last = subst (λ (fs : List Finding). AreLast asked fs numbers []) (sym x.finds)
        (last-new asked (findings lines) (question_of asked numbers) numbers (question-selects asked numbers are));
    refuted = x.says;
    have_marks = All-nil (IsMarkedIn asked numbers []);
    so_far = λ question others there selects within. elim (x.asks question there) [
      | inl before ↦ inl (so_far question others before selects within)
      | inr same ↦ inl (subst (λ (ns : List ℕ). All (Contains ns) numbers) (sym (same-numbers asked numbers others question upto are same selects))
          (All-contains_itself numbers))
    ];
  },
)
