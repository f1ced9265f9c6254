-- Lines behind lines: where the search goes in two steps, and where it stops.
use Rattle.std.proofs.Common.{◌≡◌, List, [], ◌++◌, Result, subst, sym, append_assoc, append-nil}
use Rattle.std.specs.Prelude.{IfErr}
use Rattle.std.specs.Result.{IsErrAnd}
use Rattle.dist_outside.specs.DeskView.{DeskView, FileGrew}
use Rattle.dist_outside.specs.declared.trouble.WorkError.{WorkError}
use Rattle.dist_outside.specs.declared.trouble.WorkError.TheVariants.{NoMemory}
use Rattle.dist_cert.specs.FileLines.{lines_text}
use Rattle.dist_cert.specs.Form.{Word}
use Rattle.dist_cert.specs.declared.records.CertRecord.{CertRecord}
use Rattle.dist_explain.specs.NotesPrivate.{NotesView}
use Rattle.dist_explain.specs.declared.asked.Asked.{Asked}
use Rattle.dist_inquiry.specs.Asking.{AskStops}
use Rattle.dist_line_write.specs.Asking.{AskerView}
use Rattle.dist_line_write.specs.Script.{Script}
use Rattle.dist_line_write.specs.ScriptLaws.{BeginsLaw, TwiceLaw, by-exit, lines-more, asked-join, next-behind, stops-after}
use Rattle.dist_line_write.specs.ScriptLaws.{stops-asking, stops-for-memory}
use Rattle.dist_explain_search.specs.ExplainOrder.{IsNextQuestion}
use Rattle.dist_explain_search.specs.SearchPrivate.{Goes, GoesNot, IsSearching}

-- what holds of lines
abbrev pub Place : Type 1
Place = Script → List CertRecord → Type 0

module _ (twice : TwiceLaw) (asked : Asked) (From : Place) where
  pub goes-join : (Mid To : Place) (first mid last : DeskView) (a b d : AskerView) (n m k : NotesView) → Goes asked From Mid first mid a b n m
      → Goes asked Mid To mid last b d m k → Goes asked From To first last a d n k
  goes-join Mid To first mid last a b d n m k before_it behind g lines searching from =
      let x = before_it g lines searching from in
      let y = behind g (lines ++ x.added) x.searching x.holds in
      let place = append_assoc lines x.added y.added in
      record {
        added = x.added ++ y.added;
        grew = subst (λ bytes. FileGrew bytes first last) (sym (lines-more x.added y.added))
            (twice (lines_text x.added) (lines_text y.added) first mid last x.grew y.grew);
        in_order = asked-join (IsNextQuestion asked) lines x.added y.added x.in_order y.in_order;
        searching = subst (λ ls. IsSearching g asked ls d k) place y.searching;
        holds = subst (To g) place y.holds;
      }

  pub goes-stop : (Mid : Place) (first mid last : DeskView) (a b : AskerView) (n m : NotesView) (error : WorkError) → Goes asked From Mid first mid a b n m
      → GoesNot asked Mid mid last b m error → GoesNot asked From first last a n error
  goes-stop Mid first mid last a b n m error before_it behind g lines searching from =
      let x = before_it g lines searching from in
      stops-after twice g (IsNextQuestion asked) lines x.added first mid last error x.grew x.in_order
      (next-behind g [] lines x.added x.searching.at.next) (behind g (lines ++ x.added) x.searching x.holds)

pub stops-memory : BeginsLaw → (asked : Asked) (From : Place) (d : DeskView) (a : AskerView) (n : NotesView) → GoesNot asked From d d a n NoMemory
stops-memory begins asked From d a n g lines searching from =
    stops-for-memory g (IsNextQuestion asked) lines a.writer d d searching.at.writer (begins d)

-- a question that comes next could not be asked
pub stops-question : (asked : Asked) (From : Place) (question : List Word) (old new : DeskView) (a : AskerView) (n : NotesView) (error : WorkError)
    → ((g : Script) (lines : List CertRecord) → From g lines → IsNextQuestion asked lines question) → AskStops a question old new error
    → GoesNot asked From old new a n error
stops-question asked From question old new a n error next stops g lines searching from =
    stops-asking g (IsNextQuestion asked) lines question old new error (next g lines from) (stops g lines searching.at)

-- nothing more is written
pub goes-on : BeginsLaw → (From To : Place) (asked : Asked) (d : DeskView) (a : AskerView) (n : NotesView)
    → ((g : Script) (lines : List CertRecord) → IsSearching g asked lines a n → From g lines → To g lines) → Goes asked From To d d a a n n
goes-on begins From To asked d a n more g lines searching from = record {
  added = [];
  grew = begins d;
  in_order = tt;
  searching = subst (λ ls. IsSearching g asked ls a n) (sym (append-nil lines)) searching;
  holds = subst (To g) (sym (append-nil lines)) (more g lines searching from);
}

-- where a `?` hands on why it stopped
pub exit-stops : {X : Type 0} (asked : Asked) (From : Place) (old new : DeskView) (a : AskerView) (n : NotesView) (error : WorkError)
    (result : Result X WorkError) → IsErrAnd result (λ e. e ≡ error) → GoesNot asked From old new a n error
    → IfErr result (GoesNot asked From old new a n)
exit-stops {X} asked From old new a n error result is stops =
    by-exit (λ (r : Result X WorkError). IfErr r (GoesNot asked From old new a n)) result error is stops

-- the same, where nothing has changed
pub goes-still : (asked : Asked) (From To : Place) (old new : DeskView) (a b : AskerView) (n m : NotesView) → new ≡ old → b ≡ a → m ≡ n
    → Goes asked From To old old a a n n → Goes asked From To old new a b n m
goes-still asked From To old new a b n m desk inquirer notes goes =
    subst (λ (d : DeskView). Goes asked From To old d a b n m) (sym desk) (subst (λ (x : AskerView). Goes asked From To old old a x n m) (sym inquirer)
    (subst (λ (x : NotesView). Goes asked From To old old a a n x) (sym notes) goes))
