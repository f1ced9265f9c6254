-- A file that is checked comes to one thing at most.
use Rattle.std.proofs.Common.{◌≡◌, ℕ, List, inl, inr, Option, Some, None, Result, Ok, Err, ap, sym, ◌∙◌, refl, subst}
use Rattle.std.specs.Prelude.{IsSome}
use Rattle.std.proofs.lemmas.Bool.{false≢true}
use Rattle.dist_outside.specs.Files.{Files, file_bytes}
use Rattle.dist_outside.specs.declared.trouble.WorkError.TheVariants as work
use Rattle.dist_cert.specs.declared.faults.ReadCertError.{ReadCertError}
use Rattle.dist_cert.specs.declared.faults.ReadCertError.TheVariants.{Bad, Work}
use Rattle.dist_judge.specs.Judging.{OfText}
use Rattle.dist_commands.specs.CheckedFile.{CheckStage, IsEndOfError, IsJudged, IsOneAnswer}
use Rattle.dist_judge.specs.AnswerLaws.{IsOfText}
use Rattle.dist_app.specs.Complete.{IsStatusOfFile, IsStatusOfRefused, error_status}
use Rattle.dist_commands.specs.Stages.{Ending, Goes, Ends, IsDetermined, Then}
use Rattle.dist_commands.specs.declared.status.Status.{Status}

-- ---- errors

pub end_of_text : (X : Type 0) (files : Option Files) (error : ReadCertError) (ending : Ending) → IsEndOfError files error ending
    → IsOfText {X = X} (Err error)
end_of_text X files (Bad fault) ending end = tt
end_of_text X files (Work (work.TooLarge what)) ending end = tt
end_of_text X files (Work work.ReadFault) ending end = absurd end
end_of_text X files (Work work.WriteFault) ending end = absurd end
end_of_text X files (Work work.NoMemory) ending end = absurd end

one_end : (files : Option Files) (error : ReadCertError) (e other : Ending) → IsEndOfError files error e → IsEndOfError files error other → other ≡ e
one_end files (Bad fault) e other is is' = is' ∙ sym is
one_end files (Work (work.TooLarge what)) e other is is' = is' ∙ sym is
one_end files (Work work.ReadFault) e other is is' = absurd is
one_end files (Work work.WriteFault) e other is is' = absurd is
one_end files (Work work.NoMemory) e other is is' = absurd is

end_status : (files : Option Files) (error : ReadCertError) (ending : Ending) → IsEndOfError files error ending → ending.status ≡ error_status error
end_status files (Bad fault) ending is = ap (λ (x : Ending). x.status) is
end_status files (Work (work.TooLarge what)) ending is = ap (λ (x : Ending). x.status) is
end_status files (Work work.ReadFault) ending end = absurd end
end_status files (Work work.WriteFault) ending end = absurd end
end_status files (Work work.NoMemory) ending end = absurd end

-- ---- one answer

-- each text has one answer
abbrev pub AnswersOnce : {X : Type 0} → (List ℕ → Result X ReadCertError → Type 0) → Type 0
AnswersOnce {X} Answers = (text : List ℕ) (result other : Result X ReadCertError) → Answers text result → Answers text other
    → IsOfText result → IsOfText other → other ≡ result

in_text : (P Q : List ℕ → Type 0) (found : Option (List ℕ)) (Goal : Type 0) → IsSome found → OfText found P → OfText found Q
    → ((text : List ℕ) → P text → Q text → Goal) → Goal
in_text P Q None Goal present first second both = absurd (false≢true present)
in_text P Q (Some text) Goal present first second both = both text first second

module _ {X : Type 0} (Answers : List ℕ → Result X ReadCertError → Type 0) (once : AnswersOnce Answers) (files : Files) (name : List ℕ) where
  abbrev Answer : Type 0
  Answer = Result X ReadCertError

  one_judgement : (result other : Answer) → IsJudged Answers (Some files) name result → IsJudged Answers (Some files) name other
      → IsOfText result → IsOfText other → other ≡ result
  one_judgement result other a b of_a of_b =
      in_text (λ text. Answers text result) (λ text. Answers text other) (file_bytes (Some files) name) (other ≡ result) a.present a.answers b.answers
      (λ text first second. once text result other first second of_a of_b)

  same_value : (a b : X) (x y : Answer) → x ≡ Ok a → y ≡ Ok b → y ≡ x → b ≡ a
  same_value a b x y is is' same = cc

  never_both : (a : X) (error : ReadCertError) (x y : Answer) → x ≡ Ok a → y ≡ Err error → y ≡ x → ⊥
  never_both a error x y is is' same = cc

  same_error : (error other : ReadCertError) (x y : Answer) → x ≡ Err error → y ≡ Err other → y ≡ x → other ≡ error
  same_error error other x y is is' same = cc

  pub check_determined : IsDetermined (CheckStage Answers (Some files) name)
  check_determined (Goes a) (Goes b) f g = ap Goes (same_value a b (Ok a) (Ok b) refl refl (one_judgement (Ok a) (Ok b) f g tt tt))
  check_determined (Goes a) (Ends e) f (error, judged, end) =
      absurd (never_both a error (Ok a) (Err error) refl refl
      (one_judgement (Ok a) (Err error) f judged tt (end_of_text X (Some files) error e end)))
  check_determined (Ends e) (Goes b) (error, judged, end) g =
      absurd (never_both b error (Ok b) (Err error) refl refl
      (one_judgement (Ok b) (Err error) g judged tt (end_of_text X (Some files) error e end)))
  check_determined (Ends e) (Ends o) (error, judged, end) (error', judged', end') =
      let same = same_error error error' (Err error) (Err error') refl refl (one_judgement (Err error) (Err error') judged judged'
      (end_of_text X (Some files) error e end) (end_of_text X (Some files) error' o end')) in
      ap Ends (one_end (Some files) error e o end (subst (λ (x : ReadCertError). IsEndOfError (Some files) x o) same end'))

  one_answer : (result : Answer) → IsJudged Answers (Some files) name result → IsOfText result → IsOneAnswer Answers (Some files) name result
  one_answer result judged of = record {
    of_text = of;
    judged = judged;
    only = λ other of_other judged'. one_judgement result other judged judged' of of_other;
  }

  -- what a run with a checked file comes to, by what the rest of it does
  module _ (Rest : X → Ending → Type 0) where
    pub comes_to : (told : X → Status) → ((x : X) (e : Ending) → Rest x e → e.status ≡ told x) → (ending : Ending)
        → Then (CheckStage Answers (Some files) name) Rest ending → IsStatusOfFile Answers (Some files) name told ending.status
    comes_to told status ending (inl (error, judged, end)) =
        (Err error, one_answer (Err error) judged (end_of_text X (Some files) error ending end), end_status (Some files) error ending end)
    comes_to told status ending (inr (x, judged, rest)) = (Ok x, one_answer (Ok x) judged tt, status x ending rest)

    pub judged_first : (ending : Ending) → Then (CheckStage Answers (Some files) name) Rest ending
        → (answer : Answer) × IsOneAnswer Answers (Some files) name answer × IsStatusOfRefused answer ending.status
    judged_first ending (inl (error, judged, end)) =
        (Err error, one_answer (Err error) judged (end_of_text X (Some files) error ending end), end_status (Some files) error ending end)
    judged_first ending (inr (x, judged, rest)) = (Ok x, one_answer (Ok x) judged tt, tt)
