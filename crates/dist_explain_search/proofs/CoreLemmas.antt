-- The core, with one question more.
use Rattle.std.proofs.Common.{◌≡◌, ◌≢◌, ◌⊎◌, ◌==◌, inl, inr, ℕ, ◌+◌, ◌<◌, ◌≤◌, Bool, not, List, [], ◌∷◌, ◌++◌, length, filter}
use Rattle.std.proofs.Common.{refl, sym, subst, arith}
use Rattle.std.specs.List.{All, Any, Contains}
use Rattle.std.proofs.lemmas.Bool.{cases_eq}
use Rattle.std.proofs.lemmas.List.Elements.{All-contains, All-contains_itself, All-push, All-weaker}
use Rattle.dist_base.specs.ListLaws.{all-contained, any-there}
use Rattle.dist_clause.specs.Formula.{value_of}
use Rattle.dist_outside.specs.DeskView.{DeskView}
use Rattle.dist_cert.specs.Form.{Word}
use Rattle.dist_cert.specs.declared.records.CertRecord.{CertRecord}
use Rattle.dist_cert.specs.declared.records.CertRecord.TheVariants.{Question}
use Rattle.dist_explain.specs.Answered.{AreAllBut, AreLast, IsOfRelation, LeavesOpen, RefutesSome, Selects, ShowsNeeded}
use Rattle.dist_explain.specs.AnsweredLaws.{any-push, last-more, none-any}
use Rattle.dist_explain.specs.NotesPrivate.{IsMarkedIn, NotesView}
use Rattle.dist_explain.specs.declared.asked.Asked.{Asked}
use Rattle.dist_findings.specs.Findings.{findings}
use Rattle.dist_findings.specs.declared.finding.Finding.{Finding}
use Rattle.dist_solver.specs.declared.answers.Answer.{Answer}
use Rattle.dist_solver.specs.declared.answers.Answer.TheVariants as answers
use Rattle.dist_line_write.specs.Asking.{AskerView}
use Rattle.dist_line_write.specs.Script.{Script}
use Rattle.dist_line_write.specs.ScriptLaws.{BeginsLaw}
use Rattle.dist_line_write.specs.TrueOnesLaws.{true-ones}
use Rattle.dist_line_write.specs.Words.{true_variables}
use Rattle.dist_inquiry.specs.AnswerText.{NoteMore, finding_of}
use Rattle.dist_explain_search.specs.ExplainOrder.{IsNextQuestion}
use Rattle.dist_explain_search.specs.SearchPrivate.{AreNumbers, FitsAsked, Goes, HasJust, IsAtCore, IsSmaller, Marks, explain_noting, others_of, question_of}
use Rattle.dist_explain_search.proofs.AskedLemmas.{IsAskedFor, asked-for, just-refuted, same-numbers}
use Rattle.dist_explain_search.proofs.GoingLemmas.{goes-on}
use Rattle.dist_explain_search.proofs.QuestionLemmas.{filter-are, filter-few, filter-within, not-all, one-left, others-but}
use Rattle.dist_explain_search.proofs.QuestionLemmas.{question-selects, question-true, true-question}

-- ---- fewer relations, right behind the line that refutes the core

module _ (asked : Asked) (numbers : List ℕ) (p : ℕ → Bool) (upto : asked.number ≤ asked.packages) (are : AreNumbers asked numbers)
    (less : length (filter p numbers) < length numbers) where
  core-once : (g : Script) (lines : List CertRecord) (core : IsAtCore g asked lines numbers [] []) (other : List Word)
      → Contains lines (Question other) → ¬ Selects asked other (filter p numbers)
  core-once g lines core other there selects = elim (core.so_far other (filter p numbers) there selects (filter-within p numbers)) [
    | inl all ↦ not-all numbers (filter p numbers) are.rising (filter-are asked p numbers are).rising less (filter-within p numbers) all
    | inr any ↦ none-any (λ one. AreAllBut numbers one (filter p numbers)) any
  ]

  pub core-next : (g : Script) (lines : List CertRecord) → HasJust asked numbers g lines → IsNextQuestion asked lines (question_of asked (filter p numbers))
  core-next g lines just = record {
    numbers = filter p numbers;
    selects = question-selects asked (filter p numbers) (filter-are asked p numbers are);
    place = inr (inl (record {
      earlier = just.0;
      hints = just.1;
      right_behind = just.2;
      last = numbers;
      are_last = just.3.are_last;
      some_of_them = filter-within p numbers;
      fewer = less;
    }));
    once = λ other there. core-once g lines just.3 other there;
  }

  pub core-narrowed : (old new : DeskView) (a b : AskerView) (n m : NotesView) (hints : List ℕ)
      → NoteMore explain_noting old new a b n m (question_of asked (filter p numbers)) (answers.Refuted hints)
      → Goes asked (HasJust asked numbers) (Marks asked (filter p numbers) []) old new a b n m
  core-narrowed old new a b n m hints more g lines searching just =
      let x = asked-for g asked lines (question_of asked (filter p numbers)) old new a b n m (answers.Refuted hints) more searching
      (core-next g lines just) in
      let refuted = just-refuted g asked lines (filter p numbers) hints old new b m upto (filter-are asked p numbers are) x
      (λ question others before selects within.
      let wide : All (Contains numbers) others = All-weaker (Contains (filter p numbers)) (Contains numbers)
      (λ k has. All-contains (Contains numbers) (filter p numbers) k (filter-within p numbers) has) others within in
      elim (just.3.so_far question others before selects wide) [
        | inl all ↦ All-weaker (Contains numbers) (Contains others) (λ k has. All-contains (Contains others) numbers k all has) (filter p numbers)
            (filter-within p numbers)
        | inr any ↦ absurd (none-any (λ one. AreAllBut numbers one others) any)
      ]) in
      record {
        added = x.added;
        grew = x.grew;
        in_order = x.in_order;
        searching = x.searching;
        holds = ([], refuted.3);
      }

-- ---- all relations of the core but one

abbrev other-than : ℕ → ℕ → Bool
other-than one = λ number. not (number == one)

module _ (asked : Asked) (core : List ℕ) (one : ℕ) (done : List ℕ) (are : AreNumbers asked core) (there : Contains core one)
    (undone : ¬ Contains done one) where
  but : AreAllBut core one (others_of core one)
  but = others-but core one there

  lacks : ¬ Contains (others_of core one) one
  lacks has = ((but.exact one).0 has).1 refl

  not-done : (P : ℕ → Type 0) (any : Any P done) → one ≢ any.1
  not-done P any same = undone (subst (Contains done) (sym same) (any-there P done any))

  pub others-are : AreNumbers asked (others_of core one)
  others-are = filter-are asked (other-than one) core are

  less-once : (g : Script) (lines : List CertRecord) (later : List Finding) (at : IsAtCore g asked lines core later done) (other : List Word)
      → Contains lines (Question other) → ¬ Selects asked other (others_of core one)
  less-once g lines later at other has selects =
      elim (at.so_far other (others_of core one) has selects (filter-within (other-than one) core)) [
        | inl all ↦ lacks (All-contains (Contains (others_of core one)) core one all there)
        | inr any ↦ not-done (λ k. AreAllBut core k (others_of core one)) any
            (one-left core any.1 one (others_of core one) any.4 there lacks)
      ]

  pub less-next : (g : Script) (lines : List CertRecord) → Marks asked core done g lines
      → IsNextQuestion asked lines (question_of asked (others_of core one))
  less-next g lines marks = record {
    numbers = others_of core one;
    selects = question-selects asked (others_of core one) others-are;
    place = inr (inr (record {
      last = core;
      later = marks.0;
      are_last = marks.1.are_last;
      one = one;
      all_but_one = but;
    }));
    once = λ other has. less-once g lines marks.0 marks.1 other has;
  }

  module _ (upto : asked.number ≤ asked.packages) (old new : DeskView) (a b : AskerView) (n m : NotesView) where
    pub less-refuted : (hints : List ℕ)
        → NoteMore explain_noting old new a b n m (question_of asked (others_of core one)) (answers.Refuted hints)
        → Goes asked (Marks asked core done) (HasJust asked (others_of core one)) old new a b n m
    less-refuted hints more g lines searching marks =
        let others = others_of core one in
        let x = asked-for g asked lines (question_of asked others) old new a b n m (answers.Refuted hints) more searching (less-next g lines marks) in
        record {
          added = x.added;
          grew = x.grew;
          in_order = x.in_order;
          searching = x.searching;
          holds = just-refuted g asked lines others hints old new b m upto others-are x (λ question numbers before selects within.
              let wide : All (Contains core) numbers = All-weaker (Contains others) (Contains core) (λ k has. ((but.exact k).0 has).0) numbers within in
              elim (marks.1.so_far question numbers before selects wide) [
                | inl all ↦ All-weaker (Contains core) (Contains numbers) (λ k has. All-contains (Contains numbers) core k all has) others
                    (filter-within (other-than one) core)
                | inr any ↦ absurd (lacks (All-contains (Contains others) numbers one within ((any.4.exact one).1 (
                  there,
                  not-done (λ k. AreAllBut core k numbers) any,
                ))))
              ]);
        }

    -- a finding that marks it
    less-marked : (answer : Answer) → NoteMore explain_noting old new a b n m (question_of asked (others_of core one)) answer
        → ¬ RefutesSome asked (finding_of (question_of asked (others_of core one)) answer)
        → ((g : Script) (lines : List CertRecord) → Marks asked core done g lines
        → IsAskedFor g asked lines (question_of asked (others_of core one)) old new b m answer → a.log.variables ≡ g.variables
        → ShowsNeeded asked core one (finding_of (question_of asked (others_of core one)) answer)
        ⊎ LeavesOpen asked core one (finding_of (question_of asked (others_of core one)) answer))
        → Goes asked (Marks asked core done) (Marks asked core (done ++ one ∷ [])) old new a b n m
    less-marked answer more not mark g lines searching marks =
        let others = others_of core one in
        let f = finding_of (question_of asked others) answer in
        let later : List Finding = marks.0 in
        let at = marks.1 in
        let x = asked-for g asked lines (question_of asked others) old new a b n m answer more searching (less-next g lines marks) in
        record {
          added = x.added;
          grew = x.grew;
          in_order = x.in_order;
          searching = x.searching;
          holds = (
            later ++ f ∷ [],
            record {
              are_last = subst (λ (fs : List Finding). AreLast asked fs core (later ++ f ∷ [])) (sym x.finds)
                  (last-more asked (findings lines) core later f at.are_last not);
              refuted = at.refuted;
              have_marks = All-push (IsMarkedIn asked core (later ++ f ∷ [])) done one
                  (All-weaker (IsMarkedIn asked core later) (IsMarkedIn asked core (later ++ f ∷ [])) (λ k has. elim has [
                    | inl shown ↦ inl ((any-push (ShowsNeeded asked core k) later f).1 (inl shown))
                    | inr still ↦ inr ((any-push (LeavesOpen asked core k) later f).1 (inl still))
                  ]) done at.have_marks)
                  (elim (mark g lines marks x searching.at.log.variables) [
                    | inl shown ↦ inl ((any-push (ShowsNeeded asked core one) later f).1 (inr shown))
                    | inr still ↦ inr ((any-push (LeavesOpen asked core one) later f).1 (inr still))
                  ]);
              so_far = λ question numbers has selects within. elim (x.asks question has) [
                | inl before ↦ elim (at.so_far question numbers before selects within) [
                  | inl all ↦ inl all
                  | inr any ↦ inr ((any-push (λ k. AreAllBut core k numbers) done one).1 (inl any))
                ]
                | inr same ↦ inr ((any-push (λ k. AreAllBut core k numbers) done one).1
                    (inr (subst (AreAllBut core one) (sym (same-numbers asked others numbers question upto others-are same selects)) but)))
              ];
            },
          );
        }

    pub less-undecided : NoteMore explain_noting old new a b n m (question_of asked (others_of core one)) answers.Undecided
        → Goes asked (Marks asked core done) (Marks asked core (done ++ one ∷ [])) old new a b n m
    less-undecided more = less-marked answers.Undecided more (λ no. no) (λ g lines marks x variables.
        inr (others_of core one, question-selects asked (others_of core one) others-are, but))

    pub less-found : (values : List Bool) → FitsAsked asked a.log.variables
        → NoteMore explain_noting old new a b n m (question_of asked (others_of core one)) (answers.Found values)
        → Goes asked (Marks asked core done) (Marks asked core (done ++ one ∷ [])) old new a b n m
    less-found values fits more = less-marked (answers.Found values) more (λ no. no) (λ g lines marks x variables.
        let all = fits.all in
        let size : length values ≡ asked.packages + asked.relations = omega (arith, all, variables, x.says.0) in
        let have = question-true asked (value_of values) (others_of core one) x.says.2 in
        let from = fits.from_one in
        let true-selector = λ (k : ℕ) (has : Contains core k). true-ones values (asked.packages + k)
        (let range = All-contains (IsOfRelation asked) core k are.in_range has in omega (arith, range.0))
        (let range = All-contains (IsOfRelation asked) core k are.in_range has in omega (arith, range.1, size)) in
        inl (
          (true-ones values asked.number from (omega (arith, upto, size))).1 have.0,
          record {
            there = there;
            missing = λ has. marks.1.refuted (value_of values) x.says.1 (true-question asked (value_of values) core (
              have.0,
              λ k among. elim (cases_eq k one) [
                | inl same ↦ (true-selector k among).0 (subst (λ (v : ℕ). Contains (true_variables values) (asked.packages + v)) (sym same) has)
                | inr apart ↦ have.1 k ((but.exact k).1 (among, apart))
              ],
            ));
            others = all-contained (λ k. k ≢ one → Contains (true_variables values) (asked.packages + k)) core
                (λ k among apart. (true-selector k among).1 (have.1 k ((but.exact k).1 (among, apart))));
          },
        ))

-- ---- where the fewer relations are known by an equation

module _ (asked : Asked) (numbers core : List ℕ) (p : ℕ → Bool) (are : AreNumbers asked numbers) (is : core ≡ filter p numbers) where
  pub smaller-by : IsSmaller asked numbers core
  smaller-by = subst (IsSmaller asked numbers) (sym is)
      (record { are = filter-are asked p numbers are; within = filter-within p numbers; few = filter-few p numbers })

  pub next-by : asked.number ≤ asked.packages → length core < length numbers → (g : Script) (lines : List CertRecord) → HasJust asked numbers g lines
      → IsNextQuestion asked lines (question_of asked core)
  next-by upto less g lines just =
      subst (λ (ns : List ℕ). IsNextQuestion asked lines (question_of asked ns)) (sym is)
      (core-next asked numbers p upto are (subst (λ (ns : List ℕ). length ns < length numbers) is less) g lines just)

  pub narrowed-by : asked.number ≤ asked.packages → length core < length numbers → (old new : DeskView) (a b : AskerView) (n m : NotesView) (hints : List ℕ)
      → NoteMore explain_noting old new a b n m (question_of asked core) (answers.Refuted hints)
      → Goes asked (HasJust asked numbers) (Marks asked core []) old new a b n m
  narrowed-by upto less old new a b n m hints more =
      subst (λ (ns : List ℕ). Goes asked (HasJust asked numbers) (Marks asked ns []) old new a b n m) (sym is)
      (core-narrowed asked numbers p upto are (subst (λ (ns : List ℕ). length ns < length numbers) is less) old new a b n m hints
      (subst (λ (ns : List ℕ). NoteMore explain_noting old new a b n m (question_of asked ns) (answers.Refuted hints)) is more))

-- the same relations
pub smaller-same : (asked : Asked) (numbers : List ℕ) → AreNumbers asked numbers → IsSmaller asked numbers numbers
smaller-same asked numbers are = record { are = are; within = All-contains_itself numbers; few = omega arith }

pub marks-just : BeginsLaw → (asked : Asked) (numbers : List ℕ) (d : DeskView) (a : AskerView) (n : NotesView)
    → Goes asked (HasJust asked numbers) (Marks asked numbers []) d d a a n n
marks-just begins asked numbers d a n =
    goes-on begins (HasJust asked numbers) (Marks asked numbers []) asked d a n (λ g lines searching just. ([], just.3))
