-- All questions, one after another, and the file that they make.
use Rattle.std.proofs.Common.{◌≡◌, ◌≢◌, inl, inr, Result, Ok, Err, IfErr, ℕ, ◌+◌, ◌<◌, ◌≤◌, List, [], ◌∷◌, ◌++◌, sym, ap, subst, arith}
use Rattle.std.proofs.lemmas.List.Elements.{All-cons, All-nil}
use Rattle.dist_clause.specs.Formula.{Literal}
use Rattle.dist_cert.specs.FileLines.{lines_text}
use Rattle.dist_cert.specs.ClaimRules.{no, yes}
use Rattle.dist_cert.specs.Form.{Word}
use Rattle.dist_cert.specs.ListLaws.{contains-cases}
use Rattle.dist_findings.specs.AnswerFiles.{Inputs}
use Rattle.dist_findings.specs.Findings.{findings, findings_behind}
use Rattle.dist_findings.specs.SoundLaws.{IsSound}
use Rattle.dist_findings.specs.declared.finding.Finding.{Finding}
use Rattle.dist_inquiry.specs.AnswerText.{NoteMore}
use Rattle.dist_inquiry.specs.Asking.{AskStops}
use Rattle.dist_line_write.specs.Asking.{AskerView, IsOver}
use Rattle.dist_line_write.specs.ScriptLaws.{stops-after, TwiceLaw, lines-more}
use Rattle.dist_inquiry.specs.Inquiring.{MaySettle, SettleMore, SettleStops}
use Rattle.dist_outside.specs.DeskView.{DeskView, FileGrew}
use Rattle.dist_outside.specs.declared.limits.Limits.{Limits}
use Rattle.dist_outside.specs.declared.trouble.WorkError.{WorkError}
use Rattle.dist_repair.specs.Answered.{Answers, Asked, AsksAlone, AsksAt, IsLower}
use Rattle.dist_repair.specs.NotesPrivate.{AreNotesOf, AreWordsOf, NotesView, WordsView, answer_of}
use Rattle.dist_repair.specs.RepairFiles.{IsDecided, asked_by, most_of, repair_files}
use Rattle.dist_repair.specs.Searched.{IsBelowUpper, LastDecides, LowerDecides, NextDecides, NotesAnswer}
use Rattle.dist_solver.specs.declared.answers.Answer.{Answer}
use Rattle.dist_space.specs.RisingLaws.{pairs-cons, pairs-none}
use Rattle.dist_space.specs.Space.{IsSpace, SpaceView}
use Rattle.dist_space_clauses.specs.SpaceClauses.{AreSpaceClauses}
use Rattle.dist_repair_search.specs.QuestionOrder.{repair_asks}
use Rattle.dist_repair_search.specs.SearchPrivate.{AloneMore, AloneStops, AreOver, AreRight, ComesDown, ComesTo, DownTo, IsWrittenAt, LowerMore}
use Rattle.dist_repair_search.specs.SearchPrivate.{LowerStops, MayLower, NextMore, NextStops, SearchMore, setting_at}
use Rattle.dist_repair_search.proofs.StepLemmas.{after-alone, after-at, after-lower, noting, stops-alone, stops-at, stops-lower}

-- ---- the questions are over the variables

pub alone-over : (n : ℕ) (w : WordsView) (question : List Word) → AreOver n w → question ≡ yes w.own ∷ [] → IsOver n question
alone-over n w question over is =
    let from = over.from_one in
    let apart = over.apart in
    let upto = over.upto in
    subst (IsOver n) (sym is) (record {
      some = omega arith;
      form = (
        All-cons (λ l. 1 ≤ l.0) (yes w.own) [] from (All-nil (λ l. 1 ≤ l.0)),
        pairs-cons (λ (l m : Word). l.0 ≢ m.0) (yes w.own) [] (λ y there. absurd (omega (arith, there.1))) (pairs-none (λ (l m : Word). l.0 ≢ m.0)),
      );
      upto = All-cons (λ l. l.0 ≤ n) (yes w.own) [] (omega (arith, apart, upto)) (All-nil (λ l. l.0 ≤ n));
    })

pub at-over : (n : ℕ) (w : WordsView) (j : ℕ) (question : List Word) → AreOver n w → j ≤ w.most
    → question ≡ yes w.own ∷ no (w.first + j) ∷ [] → IsOver n question
at-over n w j question over within is =
    let from = over.from_one in
    let apart = over.apart in
    let upto = over.upto in
    subst (IsOver n) (sym is) (record {
      some = omega arith;
      form = (
        All-cons (λ l. 1 ≤ l.0) (yes w.own) (no (w.first + j) ∷ []) from
            (All-cons (λ l. 1 ≤ l.0) (no (w.first + j)) [] (omega (arith, from, apart)) (All-nil (λ l. 1 ≤ l.0))),
        pairs-cons (λ (l m : Word). l.0 ≢ m.0) (yes w.own) (no (w.first + j) ∷ []) (λ y there. elim (contains-cases (no (w.first + j)) [] y there) [
          | inl here ↦ λ same. let other = ap (λ (x : Word). x.0) here in omega (arith, same, other, apart)
          | inr none ↦ absurd (omega (arith, none.1))
        ]) (pairs-cons (λ (l m : Word). l.0 ≢ m.0) (no (w.first + j)) [] (λ y there. absurd (omega (arith, there.1)))
            (pairs-none (λ (l m : Word). l.0 ≢ m.0))),
      );
      upto = All-cons (λ l. l.0 ≤ n) (yes w.own) (no (w.first + j) ∷ []) (omega (arith, apart, upto))
          (All-cons (λ l. l.0 ≤ n) (no (w.first + j)) [] (omega (arith, within, upto)) (All-nil (λ l. l.0 ≤ n)));
    })

-- ---- one question

module _ (s : SpaceView) (space : IsSpace s) (w : WordsView) (question : List Word) (old new : DeskView) (a : AskerView) (n : NotesView) where
  module _ (asks : (asked : Asked) → AreWordsOf s asked w → AsksAlone s asked question) where
    pub alone-more : (b : AskerView) (m : NotesView) (answer : Answer) → NoteMore (noting s) old new a b n m question answer
        → AloneMore s w n m old new a b
    alone-more b m answer more limits numbers basis right written =
        after-alone s space limits numbers basis w right a n written question (asks (asked_by numbers) right.words) old new b m answer
        (more (setting_at s limits numbers basis) numbers [] (record { at = written.at; noted = written.noted }))

    pub alone-stops : (error : WorkError) → AskStops a question old new error → AloneStops s w n old new a error
    alone-stops error stops limits numbers basis right written =
        stops-alone s space limits numbers basis w right a n written question (asks (asked_by numbers) right.words) old new error stops

  module _ (j : ℕ) (within : j ≤ w.most) (asks : (asked : Asked) → AreWordsOf s asked w → AsksAt s asked j question) where
    upto : (numbers : List ℕ) → AreWordsOf s (asked_by numbers) w → j ≤ most_of numbers
    upto numbers words = let most = words.most_is in omega (arith, within, most)

    pub next-more : ((clauses : List (List Literal)) → AreSpaceClauses s clauses → NextDecides s clauses) → (b : AskerView) (m : NotesView) (answer : Answer)
        → NoteMore (noting s) old new a b n m question answer → NextMore s w j n m old new a b
    next-more law b m answer more limits numbers basis lines right stands open_still =
        after-at s space limits numbers basis w right lines j a n stands open_still (upto numbers right.words) question (asks (asked_by numbers) right.words)
        old new law b m answer
        (more (setting_at s limits numbers basis) numbers lines (record { at = stands.written.at; noted = stands.written.noted }))

    pub next-stops : (error : WorkError) → AskStops a question old new error → NextStops s w j n old new a error
    next-stops error stops limits numbers basis lines right stands open_still =
        stops-at s space limits numbers basis w right lines j a n stands open_still (upto numbers right.words) question (asks (asked_by numbers) right.words)
        old new error stops

    pub lower-more : ((clauses : List (List Literal)) → AreSpaceClauses s clauses → LowerDecides s clauses) → (b : AskerView) (m : NotesView)
        (answer : Answer) → NoteMore (noting s) old new a b n m question answer → LowerMore s w j n m old new a b
    lower-more law b m answer more limits numbers basis lines from above right may =
        after-lower s space limits numbers basis w right lines from above j a n may (upto numbers right.words) question
        (asks (asked_by numbers) right.words) old new law b m answer
        (more (setting_at s limits numbers basis) numbers lines (record { at = may.stands.written.at; noted = may.stands.written.noted }))

    pub lower-stops : (error : WorkError) → AskStops a question old new error → LowerStops s w j n old new a error
    lower-stops error stops limits numbers basis lines from above right may =
        stops-lower s space limits numbers basis w right lines from above j a n may (upto numbers right.words) question
        (asks (asked_by numbers) right.words) old new error stops

-- ---- all questions

-- the search has come to a number
abbrev pub SearchTo : SpaceView → WordsView → NotesView → DeskView → AskerView → (j : ℕ) → NotesView → DeskView → AskerView → Type 0
SearchTo s w n old a j m mid b = (limits : Limits) (numbers : List ℕ) (basis : Inputs) → AreRight s limits numbers basis w
    → IsWrittenAt s limits numbers basis [] a n → ComesTo s limits numbers basis [] j old mid b m

module _ (twice : TwiceLaw) (s : SpaceView) (w : WordsView) (n : NotesView) (old : DeskView) (a : AskerView) where
  pub comes-further : (j : ℕ) (m l : NotesView) (mid new : DeskView) (b d : AskerView) → SearchTo s w n old a j m mid b → NextMore s w j m l mid new b d
      → ((numbers : List ℕ) (found : List Finding) → AreNotesOf s (asked_by numbers) found m → ¬ IsDecided s (asked_by numbers) found)
      → SearchTo s w n old a (j + 1) l new d
  comes-further j m l mid new b d to next undecided limits numbers basis right written =
      let first = to limits numbers basis right written in
      let second = next limits numbers basis first.more right first.stands (undecided numbers (findings first.more) first.stands.written.noted) in
      record {
        more = first.more ++ second.more;
        grew = subst (λ (bytes : List ℕ). FileGrew bytes old new) (sym (lines-more first.more second.more))
            (twice (lines_text first.more) (lines_text second.more) old mid new first.grew second.grew);
        stands = second.stands;
      }

  pub stops-further : (j : ℕ) (m : NotesView) (mid new : DeskView) (b : AskerView) (error : WorkError) → SearchTo s w n old a j m mid b
      → NextStops s w j m mid new b error
      → ((numbers : List ℕ) (found : List Finding) → AreNotesOf s (asked_by numbers) found m → ¬ IsDecided s (asked_by numbers) found)
      → AloneStops s w n old new a error
  stops-further j m mid new b error to next undecided limits numbers basis right written =
      let first = to limits numbers basis right written in
      stops-after twice (setting_at s limits numbers basis) (repair_asks s numbers) [] first.more old mid new error first.grew
      first.stands.written.asked first.stands.written.at.next
      (next limits numbers basis first.more right first.stands (undecided numbers (findings first.more) first.stands.written.noted))

  -- no question from a number on was opened
  from-on : (limits : Limits) (numbers : List ℕ) (basis : Inputs) (j above : ℕ) (m : NotesView) (mid : DeskView) (b : AskerView)
      → (come : ComesTo s limits numbers basis [] j old mid b m) → IsDecided s (asked_by numbers) (findings come.more)
      → ComesDown s limits numbers basis [] j above old mid b m
  from-on limits numbers basis j above m mid b come decided = record {
    more = come.more;
    grew = come.grew;
    stands = record {
      written = come.stands.written;
      between = λ i upto less. come.stands.below i upto;
      decided = decided;
    };
  }

  -- it ends where the answer is decided
  pub ends-decided : (j above : ℕ) (m : NotesView) (mid : DeskView) (b : AskerView) → SearchTo s w n old a j m mid b
      → ((numbers : List ℕ) (found : List Finding) → AreNotesOf s (asked_by numbers) found m → IsDecided s (asked_by numbers) found)
      → DownTo s w n old a j above m mid b
  ends-decided j above m mid b to decided limits numbers basis right written =
      let first = to limits numbers basis right written in
      from-on limits numbers basis j above m mid b first (decided numbers (findings first.more) first.stands.written.noted)

  -- or at the most
  pub ends-last : LastDecides s → (j above : ℕ) (m : NotesView) (mid : DeskView) (b : AskerView) → SearchTo s w n old a j m mid b → j ≡ w.most + 1
      → DownTo s w n old a j above m mid b
  ends-last law j above m mid b to last limits numbers basis right written =
      let first = to limits numbers basis right written in
      let most = right.words.most_is in
      let end : j ≡ most_of numbers + 1 = omega (arith, last, most) in
      from-on limits numbers basis j above m mid b first (elim first.stands.next [
        | inl decided ↦ decided
        | inr lower ↦ law (asked_by numbers) (findings first.more) m first.stands.written.noted first.stands.begun
            (subst (IsLower s (asked_by numbers) (findings first.more)) end lower)
      ])

  -- ---- below the upper bound

  module _ (from above j : ℕ) (m : NotesView) (mid new : DeskView) (b : AskerView) (to : DownTo s w n old a from above m mid b) (on : from ≤ j)
      (less : j < above)
      (below : (numbers : List ℕ) (found : List Finding) → AreNotesOf s (asked_by numbers) found m → IsBelowUpper s (asked_by numbers) found j) where
    may-lower : (limits : Limits) (numbers : List ℕ) (basis : Inputs) (right : AreRight s limits numbers basis w)
        (written : IsWrittenAt s limits numbers basis [] a n) → MayLower s limits numbers basis (to limits numbers basis right written).more from above j b m
    may-lower limits numbers basis right written =
        let first = to limits numbers basis right written in record {
          stands = first.stands;
          from_on = on;
          less = less;
          below = below numbers (findings first.more) first.stands.written.noted;
        }

    pub comes-down : (l : NotesView) (d : AskerView) → LowerMore s w j m l mid new b d → DownTo s w n old a from j l new d
    comes-down l d next limits numbers basis right written =
        let first = to limits numbers basis right written in
        let second = next limits numbers basis first.more from above right (may-lower limits numbers basis right written) in
        record {
          more = first.more ++ second.more;
          grew = subst (λ (bytes : List ℕ). FileGrew bytes old new) (sym (lines-more first.more second.more))
              (twice (lines_text first.more) (lines_text second.more) old mid new first.grew second.grew);
          stands = second.stands;
        }

    pub stops-down : (error : WorkError) → LowerStops s w j m mid new b error → AloneStops s w n old new a error
    stops-down error next limits numbers basis right written =
        let first = to limits numbers basis right written in
        stops-after twice (setting_at s limits numbers basis) (repair_asks s numbers) [] first.more old mid new error first.grew
        first.stands.written.asked first.stands.written.at.next
        (next limits numbers basis first.more from above right (may-lower limits numbers basis right written))

  pub ends-down : (from above : ℕ) (m : NotesView) (mid : DeskView) (b : AskerView) → DownTo s w n old a from above m mid b
      → SearchMore s w n m old mid a b
  ends-down from above m mid b to limits numbers basis right written =
      let first = to limits numbers basis right written in
      record { lines = first.more; grew = first.grew; written = first.stands.written; decided = first.stands.decided }

-- ---- the search of a file

-- it begins with nothing
pub begins : (s : SpaceView) (limits : Limits) (numbers : List ℕ) (basis : Inputs) (Keeps : List ℕ → Type 0) (a : AskerView) (n : NotesView)
    → MaySettle (repair_files s) Keeps limits numbers basis a → AreNotesOf s (asked_by numbers) [] n
    → IsWrittenAt s limits numbers basis [] a n
unfolding findings_behind
begins s limits numbers basis Keeps a n may noted = record {
  at = may.at;
  noted = noted;
  asked = tt;
  sound = All-nil (IsSound basis.clauses 0);
}

module _ (s : SpaceView) (w : WordsView) (n : NotesView) (old new : DeskView) (a : AskerView) where
  -- what a search keeps, and what it tells
  abbrev pub KeepsAt : List ℕ → Type 0
  KeepsAt numbers = AreWordsOf s (asked_by numbers) w × AreNotesOf s (asked_by numbers) [] n

  pub settles : NotesAnswer s → (m : NotesView) (b : AskerView) → SearchMore s w n m old new a b
      → SettleMore (repair_files s) KeepsAt (repair_asks s) (λ numbers found. Answers s (asked_by numbers) found (answer_of m)) old new a b
  settles law m b more limits numbers basis may =
      let done = more limits numbers basis (record { right = may.right; words = may.keeps.0 })
      (begins s limits numbers basis KeepsAt a n may may.keeps.1) in
      record {
        lines = done.lines;
        grew = done.grew;
        at = done.written.at;
        asked = done.written.asked;
        decided = done.decided;
        told = law (asked_by numbers) (findings done.lines) m done.written.noted done.decided;
      }

  pub settle-stops : (error : WorkError) → AloneStops s w n old new a error → SettleStops (repair_files s) KeepsAt (repair_asks s) old new a error
  settle-stops error stops limits numbers basis may =
      stops limits numbers basis (record { right = may.right; words = may.keeps.0 }) (begins s limits numbers basis KeepsAt a n may may.keeps.1)

  pub stops-by : (result : Result (Unit {0}) WorkError) → IfErr result (AloneStops s w n old new a)
      → IfErr result (SettleStops (repair_files s) KeepsAt (repair_asks s) old new a)
  stops-by (Ok done) given = tt
  stops-by (Err error) given = settle-stops error given
