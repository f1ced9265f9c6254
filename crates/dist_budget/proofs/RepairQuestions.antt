-- The search for a repair asks for the package alone, and at each number up to the most, each at most once.
use Rattle.std.proofs.Common.{◌≡◌, ◌≢◌, inl, inr, ℕ, zero, suc, ◌≤◌, List, [], ◌∷◌, ◌++◌, length, refl, sym, subst, arith}
use Rattle.std.proofs.Common.{append-nil, length-append}
use Rattle.std.specs.List.{All, AllPairs, Contains}
use Rattle.std.proofs.lemmas.List.Elements.{All-nil, All-push, Contains-append_left, Contains-push}
use Rattle.std.proofs.lemmas.List.Quantifiers.{all_pairs_push}
use Rattle.dist_cert.specs.Form.{Word}
use Rattle.dist_cert.specs.declared.records.CertRecord.{CertRecord}
use Rattle.dist_cert.specs.declared.records.CertRecord.TheVariants.{Question}
use Rattle.dist_line_write.specs.Script.{AreAsked}
use Rattle.dist_repair.specs.Answered.{Asked, AsksAlone, AsksAt}
use Rattle.dist_repair_search.specs.QuestionOrder.{IsRepairQuestion, WasNotAsked}
use Rattle.dist_space.specs.Space.{SpaceView}
use Rattle.dist_budget.specs.SearchBudget.{repair_questions}
use Rattle.dist_budget.proofs.Counts.{asked, asked_in, count-push}
use Rattle.dist_budget.proofs.FewNumbers.{few-upto}
use Rattle.dist_budget.proofs.Fronts.{GoesOn, by-fronts}
use Rattle.dist_budget.proofs.InquiryLines.{asked-at}

module _ (s : SpaceView) (of : Asked) where
  -- the question of a number: the package alone is the first, the one at j is that of j + 2
  abbrev IsOfNumber : ℕ → List Word → Type 0
  IsOfNumber zero question = ⊥
  IsOfNumber (suc zero) question = AsksAlone s of question
  IsOfNumber (suc (suc j)) question = AsksAt s of j question

  -- it is among the lines
  abbrev WasAsked : List CertRecord → ℕ → Type 0
  WasAsked lines number = (question : List Word) × Contains lines (Question question) × IsOfNumber number question

  -- the questions of the lines have different numbers
  record AreNumbered (lines : List CertRecord) : Type 0 where
    numbers : List ℕ
    each : length (asked lines) ≡ length numbers
    apart : AllPairs (λ m n. m ≢ n) numbers
    from : All (λ n. 1 ≤ n) numbers
    upto : All (λ n. n ≤ repair_questions of.most) numbers
    were : All (WasAsked lines) numbers

  none-numbered : AreNumbered []
  none-numbered = record {
    numbers = [];
    each = refl;
    apart = λ i j d before inside. absurd (omega (arith, inside));
    from = All-nil (λ n. 1 ≤ n);
    upto = All-nil (λ n. n ≤ repair_questions of.most);
    were = All-nil (WasAsked []);
  }

  still-asked : (lines : List CertRecord) (step : CertRecord) (numbers : List ℕ) → All (WasAsked lines) numbers
      → All (WasAsked (lines ++ step ∷ [])) numbers
  still-asked lines step numbers were k d inside =
      let was = were k d inside in (was.0, Contains-append_left lines (step ∷ []) (Question was.0) was.1, was.2)

  -- one question more, whose number is new
  one-more : (lines : List CertRecord) (question : List Word) (number : ℕ) → 1 ≤ number → number ≤ repair_questions of.most
      → IsOfNumber number question → WasNotAsked (IsOfNumber number) lines → AreNumbered lines → AreNumbered (lines ++ Question question ∷ [])
  one-more lines question number from upto is new numbered = record {
    numbers = numbered.numbers ++ number ∷ [];
    each = let before = numbered.each in
        omega (arith, before, count-push asked_in lines (Question question), length-append numbered.numbers (number ∷ []));
    apart = all_pairs_push (λ m n. m ≢ n) numbered.numbers number numbered.apart (λ k d inside same.
        let was = numbered.were k d inside in
        new was.0 was.1 (subst (λ (n : ℕ). IsOfNumber n was.0) same was.2));
    from = All-push (λ n. 1 ≤ n) numbered.numbers number numbered.from from;
    upto = All-push (λ n. n ≤ repair_questions of.most) numbered.numbers number numbered.upto upto;
    were = All-push (WasAsked (lines ++ Question question ∷ [])) numbered.numbers number
        (still-asked lines (Question question) numbered.numbers numbered.were) (question, Contains-push lines (Question question), is);
  }

  next-numbered : (lines : List CertRecord) (question : List Word) → IsRepairQuestion s of lines question → AreNumbered lines
      → AreNumbered (lines ++ Question question ∷ [])
  next-numbered lines question (inl alone) numbered = one-more lines question 1 (omega arith) (omega arith) alone.0 alone.1 numbered
  next-numbered lines question (inr (j, within, at, new)) numbered =
      one-more lines question (suc (suc j)) (omega arith) (omega (arith, within)) at new numbered

  other-numbered : (lines : List CertRecord) (step : CertRecord) → asked_in step ≡ [] → AreNumbered lines → AreNumbered (lines ++ step ∷ [])
  other-numbered lines step none numbered = record {
    numbers = numbered.numbers;
    each = let before = numbered.each in let no_length = none-length in omega (arith, before, no_length, count-push asked_in lines step);
    apart = numbered.apart;
    from = numbered.from;
    upto = numbered.upto;
    were = still-asked lines step numbered.numbers numbered.were;
  }
    where
      none-length : length (asked_in step) ≡ 0
      none-length = subst (λ qs. length qs ≡ 0) (sym none) refl

  numbered-on : (whole : List CertRecord) → AreAsked (IsRepairQuestion s of) [] whole → GoesOn AreNumbered whole
  numbered-on whole in_order front (Question question) back is all =
      next-numbered front question (asked-at (IsRepairQuestion s of) [] front question back (subst (AreAsked (IsRepairQuestion s of) []) is in_order))
      (all front [] (sym (append-nil front)))
  numbered-on whole in_order front step back is all = other-numbered front step refl (all front [] (sym (append-nil front)))

  pub few-repair_questions : (steps : List CertRecord) → AreAsked (IsRepairQuestion s of) [] steps → length (asked steps) ≤ repair_questions of.most
  few-repair_questions steps in_order =
      let numbered = by-fronts AreNumbered steps none-numbered (numbered-on steps in_order) in
      let few = few-upto numbered.numbers (repair_questions of.most) numbered.apart numbered.from numbered.upto in
      let each = numbered.each in omega (arith, few, each)
