-- A question that was asked behind some lines, and where the search stands behind it.
use Rattle.std.proofs.Common.{◌≡◌, ◌≢◌, inl, inr, ℕ, ◌+◌, ◌-◌, ◌<◌, ◌≤◌, List, [], ◌∷◌, ◌++◌, length, refl, sym, ap, subst, ◌∙◌, arith}
use Rattle.std.specs.Prelude.{All}
use Rattle.std.proofs.lemmas.List.Elements.{All-push, Contains-append_cases}
use Rattle.dist_clause.specs.Formula.{Literal}
use Rattle.dist_cert.specs.Form.{Word}
use Rattle.dist_cert.specs.declared.records.CertRecord.{CertRecord}
use Rattle.dist_cert.specs.declared.records.CertRecord.TheVariants.{Question}
use Rattle.dist_findings.specs.AnswerFiles.{Inputs, number_at}
use Rattle.dist_findings.specs.Findings.{findings, findings_behind}
use Rattle.dist_findings.specs.SoundLaws.{IsSound}
use Rattle.dist_findings.specs.declared.finding.Finding.{Finding}
use Rattle.dist_inquiry.specs.AnswerText.{IsAskedAndNoted, Noting, finding_of}
use Rattle.dist_inquiry.specs.Asking.{AskStops}
use Rattle.dist_line_write.specs.Asking.{AskerView, question_lines}
use Rattle.dist_line_write.specs.Script.{Script, Stops}
use Rattle.dist_line_write.specs.ScriptLaws.{lines-asked, stops-asking}
use Rattle.dist_line_write.specs.Words.{closing_line}
use Rattle.dist_outside.specs.DeskView.{DeskView}
use Rattle.dist_outside.specs.declared.limits.Limits.{Limits}
use Rattle.dist_outside.specs.declared.trouble.WorkError.{WorkError}
use Rattle.dist_repair.specs.Answered.{AsksAlone, AsksAt, IsLower, beyond, own}
use Rattle.dist_repair.specs.Counters.{counted_clauses}
use Rattle.dist_repair.specs.NotesPrivate.{AreNotesOf, NotesView, WordsView}
use Rattle.dist_repair.specs.QuestionLaws.{not-both, one-number}
use Rattle.dist_repair.specs.RepairFiles.{AreCountedInputs, IsDecided, asked_by, most_of}
use Rattle.dist_repair.specs.Searched.{IsBegun, IsFoundAt, LowerDecides, NextDecides}
use Rattle.dist_solver.specs.declared.answers.Answer.{Answer}
use Rattle.dist_space.specs.Space.{IsSpace, SpaceView}
use Rattle.dist_space.specs.VariableLaws.{variable-range}
use Rattle.dist_space.specs.declared.meaning.Meaning.TheVariants.{Present}
use Rattle.dist_space_clauses.specs.SpaceClauses.{AreSpaceClauses}
use Rattle.dist_repair_search.specs.QuestionOrder.{WasNotAsked, repair_asks}
use Rattle.dist_repair_search.specs.SearchPrivate.{AreRight, ComesDown, ComesTo, IsWrittenAt, MayLower, StandsAt}
use Rattle.dist_repair_search.specs.SearchPrivate.{setting_at}
use Rattle.dist_repair_search.proofs.FoundLemmas.{begun-alone, finding-sound, found-alone, found-at, lower-alone, question-in}

-- what is noted of a file
abbrev pub noting : SpaceView → Noting NotesView
noting s = λ numbers found notes. AreNotesOf s (asked_by numbers) found notes

none-found : findings [] ≡ []
unfolding findings_behind
none-found = refl

module _ (s : SpaceView) (space : IsSpace s) (limits : Limits) (numbers : List ℕ) (basis : Inputs) (w : WordsView)
    (right : AreRight s limits numbers basis w) where
  abbrev g : Script
  g = setting_at s limits numbers basis

  pub counted : AreCountedInputs s (most_of numbers) basis
  counted = elim right.right.is_basis [
    | inl both ↦ both.1
    | inr past ↦ let most = right.right.fits.most in absurd (omega (arith, past.0, most))
  ]

  pub in-packages : number_at 4 numbers - 1 < length s.repository.packages
  in-packages =
      let from = right.right.fits.from_one in
      let upto = right.right.fits.upto in omega (arith, from, upto)

  own-range : (1 ≤ own s (asked_by numbers)) × (own s (asked_by numbers) ≤ basis.variables)
  own-range =
      let at = variable-range s (Present (number_at 4 numbers - 1)) space in-packages in
      let all = counted.variables in (at.0, omega (arith, at.1, all))

  beyond-range : (j : ℕ) → j ≤ most_of numbers → (1 ≤ beyond s (asked_by numbers) j) × (beyond s (asked_by numbers) j ≤ basis.variables)
  beyond-range j within =
      let first = right.words.first_is in
      let last = right.words.last_is in
      let most = right.words.most_is in
      let all = counted.variables in
      (omega arith, omega (arith, first, last, most, all, within))

  -- ---- one question

  module _ (before : List CertRecord) (a : AskerView) (n : NotesView) (written : IsWrittenAt s limits numbers basis before a n) (question : List Word)
      (may : repair_asks s numbers before question) (old new : DeskView) (b : AskerView) (m : NotesView) (answer : Answer)
      (done : IsAskedAndNoted (noting s) (setting_at s limits numbers basis) numbers before question old new b m answer) where
    abbrev pub its-lines : List CertRecord
    its-lines = question_lines question done.asked.between (closing_line answer)

    abbrev pub its-finding : Finding
    its-finding = finding_of question answer

    pub sound-more : All (IsSound basis.clauses 0) (findings before ++ its-finding ∷ [])
    sound-more = All-push (IsSound basis.clauses 0) (findings before) its-finding written.sound
        (finding-sound g question answer written.at.stand done.asked.says)

    pub written-more : IsWrittenAt s limits numbers basis (before ++ its-lines) b m
    written-more = record {
      at = done.asked.at;
      noted = subst (λ (found : List Finding). AreNotesOf s (asked_by numbers) found m) (sym done.finds) done.noted;
      asked = lines-asked (repair_asks s numbers) before question done.asked.between answer written.asked may done.asked.only_derived;
      sound = subst (All (IsSound basis.clauses 0)) (sym done.finds) sound-more;
    }

    -- a question of another kind was opened only if it was before
    pub not-asked-more : (IsSuch : List Word → Type 0) → WasNotAsked IsSuch before → ¬ IsSuch question → WasNotAsked IsSuch (before ++ its-lines)
    not-asked-more IsSuch none other q there such = elim (Contains-append_cases before its-lines (Question q) there) [
      | inl earlier ↦ none q earlier such
      | inr later ↦ other (subst IsSuch (question-in question done.asked.between answer done.asked.only_derived q later) such)
    ]

  -- ---- the question of the package alone

  no-lines : (IsSuch : List Word → Type 0) → WasNotAsked IsSuch []
  no-lines IsSuch q there = absurd (omega (arith, there.1))

  may-alone : (question : List Word) → AsksAlone s (asked_by numbers) question → repair_asks s numbers [] question
  may-alone question asks = inl (asks, no-lines (AsksAlone s (asked_by numbers)))

  module _ (a : AskerView) (n : NotesView) (written : IsWrittenAt s limits numbers basis [] a n) (question : List Word)
      (asks : AsksAlone s (asked_by numbers) question) (old new : DeskView) where
    pub after-alone : (b : AskerView) (m : NotesView) (answer : Answer)
        → IsAskedAndNoted (noting s) (setting_at s limits numbers basis) numbers [] question old new b m answer
        → ComesTo s limits numbers basis [] 0 old new b m
    after-alone b m answer done =
        let may = may-alone question asks in
        let found : findings (question_lines question done.asked.between (closing_line answer)) ≡ finding_of question answer ∷ [] =
        done.finds ∙ ap (λ (fs : List Finding). fs ++ finding_of question answer ∷ []) none-found in
        let range = own-range in
        let alone = found-alone s (asked_by numbers) g range.0 range.1 question answer asks done.asked.says in
        record {
          more = question_lines question done.asked.between (closing_line answer);
          grew = done.asked.grew;
          stands = record {
            written = written-more [] a n written question may old new b m answer done;
            begun = subst (IsBegun s (asked_by numbers)) (sym found) (begun-alone s (asked_by numbers) (finding_of question answer) alone);
            below = λ i upto. not-asked-more [] a n written question may old new b m answer done (AsksAt s (asked_by numbers) i)
                (no-lines (AsksAt s (asked_by numbers) i)) (not-both s (asked_by numbers) i question asks);
            next = inr (subst (λ (fs : List Finding). IsLower s (asked_by numbers) fs 0) (sym found)
                (lower-alone s (asked_by numbers) (finding_of question answer) alone));
          };
        }

    pub stops-alone : (error : WorkError) → AskStops a question old new error
        → Stops (setting_at s limits numbers basis) (repair_asks s numbers) [] old new error
    stops-alone error stops = stops-asking g (repair_asks s numbers) [] question old new error (may-alone question asks) (stops g [] written.at)

  -- ---- the question at a number

  module _ (before : List CertRecord) (j : ℕ) (a : AskerView) (n : NotesView) (written : IsWrittenAt s limits numbers basis before a n)
      (within : j ≤ most_of numbers) (question : List Word) (asks : AsksAt s (asked_by numbers) j question)
      (none : WasNotAsked (AsksAt s (asked_by numbers) j) before) where
    may-at : repair_asks s numbers before question
    may-at = inr (j, within, asks, none)

    module _ (old new : DeskView) (b : AskerView) (m : NotesView) (answer : Answer)
        (done : IsAskedAndNoted (noting s) (setting_at s limits numbers basis) numbers before question old new b m answer) where
      found-there : IsFoundAt s (asked_by numbers) j (finding_of question answer)
      found-there =
          let range = own-range in
          let place = beyond-range j within in
          found-at s (asked_by numbers) g range.0 range.1 j place.0 place.1 question answer asks done.asked.says

      sound-there : All (IsSound (counted_clauses s counted.clauses (most_of numbers)) 0) (findings before ++ finding_of question answer ∷ [])
      sound-there = subst (λ (cs : List (List Literal)). All (IsSound cs 0) (findings before ++ finding_of question answer ∷ [])) counted.counted
          (sound-more before a n written question may-at old new b m answer done)

      written-there : IsWrittenAt s limits numbers basis (before ++ question_lines question done.asked.between (closing_line answer)) b m
      written-there = written-more before a n written question may-at old new b m answer done

      -- the question at another number was opened only if it was before
      others-there : (i : ℕ) → i ≢ j → WasNotAsked (AsksAt s (asked_by numbers) i) before
          → WasNotAsked (AsksAt s (asked_by numbers) i) (before ++ question_lines question done.asked.between (closing_line answer))
      others-there i apart none_before =
          not-asked-more before a n written question may-at old new b m answer done (AsksAt s (asked_by numbers) i) none_before
          (λ other. apart (one-number s (asked_by numbers) i j question other asks))

    stops-there : (old new : DeskView) (error : WorkError) → AskStops a question old new error
        → Stops (setting_at s limits numbers basis) (repair_asks s numbers) before old new error
    stops-there old new error stops = stops-asking g (repair_asks s numbers) before question old new error may-at (stops g before written.at)

  -- ---- at the lower bound

  module _ (before : List CertRecord) (j : ℕ) (a : AskerView) (n : NotesView) (stands : StandsAt s limits numbers basis before j a n)
      (open_still : ¬ IsDecided s (asked_by numbers) (findings before)) (within : j ≤ most_of numbers) (question : List Word)
      (asks : AsksAt s (asked_by numbers) j question) (old new : DeskView) where
    none_there : WasNotAsked (AsksAt s (asked_by numbers) j) before
    none_there = stands.below j (omega arith)

    pub after-at : ((clauses : List (List Literal)) → AreSpaceClauses s clauses → NextDecides s clauses) → (b : AskerView) (m : NotesView) (answer : Answer)
        → IsAskedAndNoted (noting s) (setting_at s limits numbers basis) numbers before question old new b m answer
        → ComesTo s limits numbers basis before (j + 1) old new b m
    after-at law b m answer done =
        let low : IsLower s (asked_by numbers) (findings before) j = elim stands.next [
          | inl decided ↦ absurd (open_still decided)
          | inr lower ↦ lower
        ] in
        let its : Finding = finding_of question answer in
        let at = found-there before j a n stands.written within question asks none_there old new b m answer done in
        let sound = sound-there before j a n stands.written within question asks none_there old new b m answer done in
        let next = law counted.clauses counted.are_clauses (asked_by numbers) 0 (findings before) its j m in-packages sound done.noted stands.begun low
        within at in
        let so : findings (before ++ question_lines question done.asked.between (closing_line answer)) ≡ findings before ++ its ∷ [] = done.finds in
        record {
          more = question_lines question done.asked.between (closing_line answer);
          grew = done.asked.grew;
          stands = record {
            written = written-there before j a n stands.written within question asks none_there old new b m answer done;
            begun = subst (IsBegun s (asked_by numbers)) (sym so) next.0;
            below = λ i upto. others-there before j a n stands.written within question asks none_there old new b m answer done i
                (λ same. omega (arith, same, upto)) (stands.below i (omega (arith, upto)));
            next = elim next.1 [
              | inl decided ↦ inl (subst (IsDecided s (asked_by numbers)) (sym so) decided)
              | inr lower ↦ inr (subst (λ (fs : List Finding). IsLower s (asked_by numbers) fs (j + 1)) (sym so) lower)
            ];
          };
        }

    pub stops-at : (error : WorkError) → AskStops a question old new error
        → Stops (setting_at s limits numbers basis) (repair_asks s numbers) before old new error
    stops-at error stops = stops-there before j a n stands.written within question asks none_there old new error stops

  -- ---- below the upper bound

  module _ (before : List CertRecord) (from above j : ℕ) (a : AskerView) (n : NotesView) (may : MayLower s limits numbers basis before from above j a n)
      (within : j ≤ most_of numbers) (question : List Word) (asks : AsksAt s (asked_by numbers) j question) (old new : DeskView) where
    none_lower : WasNotAsked (AsksAt s (asked_by numbers) j) before
    none_lower = may.stands.between j may.from_on may.less

    pub after-lower : ((clauses : List (List Literal)) → AreSpaceClauses s clauses → LowerDecides s clauses) → (b : AskerView) (m : NotesView)
        (answer : Answer) → IsAskedAndNoted (noting s) (setting_at s limits numbers basis) numbers before question old new b m answer
        → ComesDown s limits numbers basis before from j old new b m
    after-lower law b m answer done =
        let its : Finding = finding_of question answer in
        let at = found-there before j a n may.stands.written within question asks none_lower old new b m answer done in
        let sound = sound-there before j a n may.stands.written within question asks none_lower old new b m answer done in
        let next = law counted.clauses counted.are_clauses (asked_by numbers) 0 (findings before) its j n m in-packages sound may.stands.written.noted
        done.noted may.stands.decided within may.below at in
        let so : findings (before ++ question_lines question done.asked.between (closing_line answer)) ≡ findings before ++ its ∷ [] = done.finds in
        let above_it = may.less in
        record {
          more = question_lines question done.asked.between (closing_line answer);
          grew = done.asked.grew;
          stands = record {
            written = written-there before j a n may.stands.written within question asks none_lower old new b m answer done;
            between = λ i upto less. others-there before j a n may.stands.written within question asks none_lower old new b m answer done i
                (λ same. omega (arith, same, less)) (may.stands.between i upto (omega (arith, less, above_it)));
            decided = subst (IsDecided s (asked_by numbers)) (sym so) next;
          };
        }

    pub stops-lower : (error : WorkError) → AskStops a question old new error
        → Stops (setting_at s limits numbers basis) (repair_asks s numbers) before old new error
    stops-lower error stops = stops-there before j a n may.stands.written within question asks none_lower old new error stops
