-- The search from its first question to its answer.
use Rattle.std.proofs.Common.{◌≡◌, inl, inr, ℕ, ◌+◌, ◌≤◌, Bool, List, [], ◌∷◌, ◌++◌, length, Result, refl, sym, ap, subst, ◌∙◌, arith}
use Rattle.std.specs.Prelude.{IfErr}
use Rattle.std.specs.Result.{IsErrAnd}
use Rattle.std.specs.List.{All, Contains, range_with_len}
use Rattle.std.proofs.lemmas.List.Elements.{All-contains}
use Rattle.dist_base.specs.ListLaws.{all-contained, any-cases, any-head}
use Rattle.dist_clause.specs.Formula.{value_of}
use Rattle.dist_outside.specs.DeskView.{DeskView}
use Rattle.dist_outside.specs.declared.limits.Limits.{Limits}
use Rattle.dist_outside.specs.declared.trouble.WorkError.{WorkError}
use Rattle.dist_cert.specs.Form.{Word}
use Rattle.dist_cert.specs.declared.records.CertRecord.{CertRecord}
use Rattle.dist_cert.specs.declared.records.CertRecord.TheVariants.{Question}
use Rattle.dist_repo.specs.PackageList.{PackageList}
use Rattle.dist_explain.specs.Answered.{AreAnswered, AreLast, HasAll, LeavesAllOpen, NoneRefuted, RefutesSome, ShowsAll}
use Rattle.dist_explain.specs.AnsweredLaws.{none-any, none-more}
use Rattle.dist_explain.specs.ExplanationFiles.{asked_by, explanation_files}
use Rattle.dist_explain.specs.NotesPrivate.{AreNotesOf, IsMarkedIn, NotesView}
use Rattle.dist_explain.specs.declared.asked.Asked.{Asked}
use Rattle.dist_explain.specs.declared.explained.Explained.TheVariants.{Installable, Undecided}
use Rattle.dist_findings.specs.AnswerFiles.{Inputs}
use Rattle.dist_findings.specs.Findings.{findings, findings_behind}
use Rattle.dist_findings.specs.declared.finding.Finding.{Finding}
use Rattle.dist_findings.specs.declared.finding.Finding.TheVariants as finding
use Rattle.dist_solver.specs.declared.answers.Answer.{Answer}
use Rattle.dist_solver.specs.declared.answers.Answer.TheVariants as answers
use Rattle.dist_line_write.specs.Asking.{AskerView}
use Rattle.dist_line_write.specs.Script.{AreAsked, Script, Stops}
use Rattle.dist_line_write.specs.ScriptLaws.{BeginsLaw, by-exit}
use Rattle.dist_line_write.specs.TrueOnesLaws.{true-ones}
use Rattle.dist_line_write.specs.Words.{true_variables}
use Rattle.dist_inquiry.specs.AnswerText.{NoteMore, finding_of, setting_of}
use Rattle.dist_inquiry.specs.Inquiring.{MaySettle, SettleMore, SettleStops}
use Rattle.dist_explain_search.specs.ExplainOrder.{IsNextQuestion}
use Rattle.dist_explain_search.specs.SearchPrivate.{FitsAsked, Goes, GoesNot, HasJust, IsAnsweredAt, IsSearching, Marks, explain_noting, question_of}
use Rattle.dist_explain_search.proofs.AskedLemmas.{IsAskedFor, asked-for, just-refuted}
use Rattle.dist_explain_search.proofs.GoingLemmas.{Place, goes-on}
use Rattle.dist_explain_search.proofs.QuestionLemmas.{all-are, all-have, question-selects, question-true}

-- ---- the first question

-- nothing is written behind the first line
abbrev pub IsStart : Place
IsStart g lines = lines ≡ []

abbrev pub all_of : Asked → List ℕ
all_of asked = range_with_len 1 asked.relations

none-here : (lines : List CertRecord) (question : List Word) → lines ≡ [] → ¬ Contains lines (Question question)
none-here lines question is there = let h = subst (λ ls. Contains ls (Question question)) is there in omega (arith, h.1)

none-found : findings [] ≡ []
unfolding findings_behind
none-found = refl

pub first-next : (asked : Asked) (g : Script) (lines : List CertRecord) → IsStart g lines → IsNextQuestion asked lines (question_of asked (all_of asked))
first-next asked g lines start = record {
  numbers = all_of asked;
  selects = question-selects asked (all_of asked) (all-are asked);
  place = inl (record { none_before = λ question. none-here lines question start; all = all-have asked });
  once = λ other there. absurd (none-here lines other start there);
}

module _ (asked : Asked) (old new : DeskView) (a b : AskerView) (n m : NotesView) where
  pub first-refuted : (hints : List ℕ) → asked.number ≤ asked.packages
      → NoteMore explain_noting old new a b n m (question_of asked (all_of asked)) (answers.Refuted hints)
      → Goes asked IsStart (HasJust asked (all_of asked)) old new a b n m
  first-refuted hints upto more g lines searching start =
      let x = asked-for g asked lines (question_of asked (all_of asked)) old new a b n m (answers.Refuted hints) more searching
      (first-next asked g lines start) in
      record {
        added = x.added;
        grew = x.grew;
        in_order = x.in_order;
        searching = x.searching;
        holds = just-refuted g asked lines (all_of asked) hints old new b m upto (all-are asked) x
            (λ question others before selects within. absurd (none-here lines question start before));
      }

  -- an answer that decides it
  first-decides : (answer : Answer) → NoteMore explain_noting old new a b n m (question_of asked (all_of asked)) answer
      → ((g : Script) (lines : List CertRecord) → IsSearching g asked lines a n
      → IsAskedFor g asked lines (question_of asked (all_of asked)) old new b m answer
      → AreAnswered asked (finding_of (question_of asked (all_of asked)) answer ∷ []))
      → Goes asked IsStart (IsAnsweredAt asked) old new a b n m
  first-decides answer more decides g lines searching start =
      let x = asked-for g asked lines (question_of asked (all_of asked)) old new a b n m answer more searching (first-next asked g lines start) in
      let f = finding_of (question_of asked (all_of asked)) answer in
      let none : findings lines ≡ [] = ap (λ (ls : List CertRecord). findings ls) start ∙ none-found in
      let all : findings (lines ++ x.added) ≡ f ∷ [] = x.finds ∙ ap (λ (fs : List Finding). fs ++ f ∷ []) none in
      record {
        added = x.added;
        grew = x.grew;
        in_order = x.in_order;
        searching = x.searching;
        holds = subst (AreAnswered asked) (sym all) (decides g lines searching x);
      }

  alone : (f : Finding) → ¬ RefutesSome asked f → NoneRefuted asked (f ∷ [])
  alone f not = none-more asked [] f (none-any (RefutesSome asked)) not

  pub first-undecided : NoteMore explain_noting old new a b n m (question_of asked (all_of asked)) answers.Undecided
      → Goes asked IsStart (IsAnsweredAt asked) old new a b n m
  first-undecided more = first-decides answers.Undecided more (λ g lines searching x.
      let f : Finding = finding.LeftUndecided (question_of asked (all_of asked)) in (
        Undecided,
        (
          alone f (λ no. no),
          (λ any. elim (any-cases (ShowsAll asked) f [] any) [
            | inl here ↦ here
            | inr none ↦ none-any (ShowsAll asked) none
          ]),
          any-head (LeavesAllOpen asked) f [] (all_of asked, question-selects asked (all_of asked) (all-are asked), all-have asked),
        ),
      ))

  pub first-found : (values : List Bool) → FitsAsked asked a.log.variables
      → NoteMore explain_noting old new a b n m (question_of asked (all_of asked)) (answers.Found values)
      → Goes asked IsStart (IsAnsweredAt asked) old new a b n m
  first-found values fits more = first-decides (answers.Found values) more (λ g lines searching x.
      let f : Finding = finding.Installed (true_variables values) in
      let all = fits.all in
      let from = fits.from_one in
      let upto = fits.upto in
      let variables = searching.at.log.variables in
      let size : length values ≡ asked.packages + asked.relations = omega (arith, all, variables, x.says.0) in
      let have = question-true asked (value_of values) (all_of asked) x.says.2 in
      let whole : HasAll asked (true_variables values) = record {
        has_package = (true-ones values asked.number from (omega (arith, upto, size))).1 have.0;
        has_selectors = λ number is. (true-ones values (asked.packages + number) (omega (arith, is.0)) (omega (arith, is.1, size))).1
            (have.1 number (all-have asked number is));
      } in
      (Installable, (alone f (λ no. no), any-head (ShowsAll asked) f [] whole)))

-- ---- the core

-- the law of dist_explain
abbrev pub MarkedLaw : Type 0
MarkedLaw = (asked : Asked) (found : List Finding) (notes : NotesView) (numbers : List ℕ) (later : List Finding) → asked.number ≤ asked.packages
    → AreNotesOf asked found notes → AreLast asked found numbers later → All (IsMarkedIn asked numbers later) numbers → AreAnswered asked found

-- each relation of the core has its mark
pub core-answered : BeginsLaw → MarkedLaw → (asked : Asked) (core done : List ℕ) (d : DeskView) (a : AskerView) (n : NotesView)
    → asked.number ≤ asked.packages → ((k : ℕ) → Contains core k → Contains done k) → Goes asked (Marks asked core done) (IsAnsweredAt asked) d d a a n n
core-answered begins law asked core done d a n upto cover =
    goes-on begins (Marks asked core done) (IsAnsweredAt asked) asked d a n (λ g lines searching marks.
    law asked (findings lines) n core marks.0 upto searching.noted marks.1.are_last
    (all-contained (IsMarkedIn asked core marks.0) core
    (λ k has. All-contains (IsMarkedIn asked core marks.0) done k marks.1.have_marks (cover k has))))

-- ---- the whole search

module _ (r : PackageList) (asked : Asked) (old new : DeskView) (a : AskerView) (n : NotesView) where
  begun : (limits : Limits) (numbers : List ℕ) (basis : Inputs)
      → MaySettle (explanation_files r) (λ ns. (asked ≡ asked_by ns) × AreNotesOf (asked_by ns) [] n) limits numbers basis a
      → IsSearching (setting_of (explanation_files r) limits basis numbers) asked [] a n
  begun limits numbers basis may = record {
    at = may.at;
    noted = subst (λ (fs : List Finding). AreNotesOf asked fs n) (sym none-found)
        (subst (λ (k : Asked). AreNotesOf k [] n) (sym may.keeps.0) may.keeps.1);
  }

  pub settled-by : (b : AskerView) (m : NotesView) → Goes asked IsStart (IsAnsweredAt asked) old new a b n m
      → SettleMore (explanation_files r) (λ numbers. (asked ≡ asked_by numbers) × AreNotesOf (asked_by numbers) [] n)
      (λ numbers. IsNextQuestion (asked_by numbers)) (λ numbers found. AreNotesOf (asked_by numbers) found m × AreAnswered (asked_by numbers) found)
      old new a b
  settled-by b m goes limits numbers basis may =
      let x = goes (setting_of (explanation_files r) limits basis numbers) [] (begun limits numbers basis may) refl in
      let answered = subst (λ (k : Asked). AreAnswered k (findings x.added)) may.keeps.0 x.holds in
      record {
        lines = x.added;
        grew = x.grew;
        at = x.searching.at;
        asked = subst (λ (k : Asked). AreAsked (IsNextQuestion k) [] x.added) may.keeps.0 x.in_order;
        decided = answered;
        told = (subst (λ (k : Asked). AreNotesOf k (findings x.added) m) may.keeps.0 x.searching.noted, answered);
      }

  pub settle-stops-by : (error : WorkError) → GoesNot asked IsStart old new a n error
      → SettleStops (explanation_files r) (λ numbers. (asked ≡ asked_by numbers) × AreNotesOf (asked_by numbers) [] n)
      (λ numbers. IsNextQuestion (asked_by numbers)) old new a error
  settle-stops-by error goes limits numbers basis may =
      let g = setting_of (explanation_files r) limits basis numbers in
      subst (λ (k : Asked). Stops g (IsNextQuestion k) [] old new error) may.keeps.0 (goes g [] (begun limits numbers basis may) refl)

-- where a `?` hands on why it stopped
pub exit-settle : {X : Type 0} (r : PackageList) (asked : Asked) (old new : DeskView) (a : AskerView) (n : NotesView) (error : WorkError)
    (result : Result X WorkError) → IsErrAnd result (λ e. e ≡ error) → GoesNot asked IsStart old new a n error
    → IfErr result (SettleStops (explanation_files r) (λ numbers. (asked ≡ asked_by numbers) × AreNotesOf (asked_by numbers) [] n)
    (λ numbers. IsNextQuestion (asked_by numbers)) old new a)
exit-settle {X} r asked old new a n error result is goes =
    by-exit (λ (x : Result X WorkError). IfErr x (SettleStops (explanation_files r)
    (λ numbers. (asked ≡ asked_by numbers) × AreNotesOf (asked_by numbers) [] n) (λ numbers. IsNextQuestion (asked_by numbers)) old new a)) result error is
    (settle-stops-by r asked old new a n error goes)
