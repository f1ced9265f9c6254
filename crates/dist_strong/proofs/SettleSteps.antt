-- A candidate that was asked for, and several one after another.
use Rattle.std.proofs.Common.{◌≡◌, inl, inr, ℕ, ◌≤◌, ◌+◌, ◌-◌, ◌++◌, Bool, true, false, List, [], ◌∷◌, length}
use Rattle.std.proofs.Common.{slice_set, refl, ap, sym, subst, ◌∙◌, append_assoc, append-nil, arith, drop}
use Rattle.std.proofs.Common.{length-append, lit<}
use Rattle.std.specs.List.{Any}
use Rattle.std.proofs.lemmas.List.{drop-append-le, get_or_at}
use Rattle.std.proofs.lemmas.Bool.{and_parts, cases_eq, true≢false}
use Rattle.circular_buffer.specs.Buffer.{keep_last}
use Rattle.dist_clause.specs.Formula.{value_of}
use Rattle.dist_outside.specs.DeskView.{DeskView, FileGrew}
use Rattle.dist_outside.specs.declared.trouble.WorkError.{WorkError}
use Rattle.dist_outside.specs.declared.trouble.WorkError.TheVariants.{NoMemory}
use Rattle.dist_cert.specs.declared.TheConstants.{REACH}
use Rattle.dist_cert.specs.declared.records.CertRecord.{CertRecord}
use Rattle.dist_cert.specs.Form.{Word}
use Rattle.dist_cert.specs.Groups.{installed_in}
use Rattle.dist_cert.specs.Part.{IsNextQuestion}
use Rattle.dist_cert.specs.FileLines.{lines_text}
use Rattle.dist_line_write.specs.Asking.{AskerView, question_lines}
use Rattle.dist_line_write.specs.ScriptLaws.{BeginsLaw, TwiceLaw, lines-more}
use Rattle.dist_line_write.specs.Words.{true_variables}
use Rattle.dist_sweep.specs.Asking.{Holds, IsAsked, AskMore, AskStops}
use Rattle.dist_sweep.specs.Script.{Setting, matter_in}
use Rattle.dist_sweep.specs.ScriptLaws.{stops-after, stops-for-memory}
use Rattle.dist_strong.specs.Group.{GroupView, IsCandidate, IsNarrowed, is_open}
use Rattle.dist_strong.specs.SettlingPrivate.{Fits, HasSizes, IsFurther, IsSettling, SettleMore, SettleStops, Settles}
use Rattle.dist_strong.specs.SettlingPrivate.{without}
use Rattle.dist_sweep.specs.Window.{WindowView}
use Rattle.dist_sweep.specs.declared.asking.Reply.{Reply}
use Rattle.dist_sweep.specs.QuestionLinesLaws.{any-join, question-claims, reply-line, AreAsked}
use Rattle.dist_strong.proofs.GroupSteps.{found-step, question-on, refuted-step, undecided-step}
use Rattle.dist_strong.proofs.Opens.{never-open, open-from, open-parts, value-other, value-same}
use Rattle.dist_sweep.specs.WindowLaws.{window-more, window-same}
use Rattle.dist_sweep.specs.declared.asking.Reply.TheVariants as replies

-- ---- one after another

pub settle-none : BeginsLaw → (first : DeskView) (a : AskerView) (w : WindowView) (group : GroupView) → SettleMore first first a a w w group group
settle-none begins first a w group g before at = record {
  added = [];
  grew = begins first;
  no_claims = refl;
  settling = subst (λ (ls : List CertRecord). IsSettling g ls a w group) (sym (append-nil before)) at;
}

pub settle-join : TwiceLaw → (first mid last : DeskView) (a b d : AskerView) (w v u : WindowView) (group later kept : GroupView)
    → SettleMore first mid a b w v group later → SettleMore mid last b d v u later kept
    → SettleMore first last a d w u group kept
settle-join twice first mid last a b d w v u group later kept one two g before at =
    let x = one g before at in
    let y = two g (before ++ x.added) x.settling in
    record {
      added = x.added ++ y.added;
      grew = subst (λ bytes. FileGrew bytes first last) (sym (lines-more x.added y.added))
          (twice (lines_text x.added) (lines_text y.added) first mid last x.grew y.grew);
      no_claims = any-join x.added y.added x.no_claims y.no_claims;
      settling = subst (λ ls. IsSettling g ls d u kept) (append_assoc before x.added y.added) y.settling;
    }

pub settle-stops : TwiceLaw → (first mid last : DeskView) (a b : AskerView) (w v : WindowView) (group later : GroupView) (error : WorkError)
    → SettleMore first mid a b w v group later
    → SettleStops mid last b v later error → SettleStops first last a w group error
settle-stops twice first mid last a b w v group later error one two g before at =
    let x = one g before at in stops-after twice g before x.added first mid last error x.grew (two g (before ++ x.added) x.settling)

-- ---- the three replies

pub asked-refuted : (g : Setting) (before : List CertRecord) (old new : DeskView) (a b : AskerView) (w : WindowView) (kept : GroupView) (q : ℕ)
    → IsSettling g before a w kept → IsCandidate w kept q
    → IsAsked g before (without kept.claimed q) old new b replies.Refuted
    → Settles g before old new b w (record kept { refuted = slice_set kept.refuted (q - 1) true })
asked-refuted g before old new a b w kept q settling candidate asked =
    let lines : AreAsked before (without kept.claimed q) [] (before ++ question_lines (without kept.claimed q) asked.between asked.answer) = record {
      between = asked.between;
      answer = asked.answer;
      only_derived = asked.only_derived;
      answer_line = reply-line replies.Refuted asked.answer asked.is_answer;
      installs = ap installed_in asked.is_answer.1;
      is = refl;
    } in
    record {
      added = question_lines (without kept.claimed q) asked.between asked.answer;
      grew = asked.grew;
      no_claims = question-claims (without kept.claimed q) asked.between asked.answer asked.only_derived
          (reply-line replies.Refuted asked.answer asked.is_answer);
      settling = record {
        of_strong = settling.of_strong;
        at = asked.at;
        window = window-same before (before ++ question_lines (without kept.claimed q) asked.between asked.answer) (without kept.claimed q) w settling.window
            lines;
        group_at = refuted-step g before (before ++ question_lines (without kept.claimed q) asked.between asked.answer) w kept q asked.is_answer.0
            settling.group_at candidate lines asked.is_answer.1;
      };
    }

pub asked-undecided : (g : Setting) (before : List CertRecord) (old new : DeskView) (a b : AskerView) (w : WindowView) (kept : GroupView) (q : ℕ)
    → IsSettling g before a w kept → IsCandidate w kept q
    → IsAsked g before (without kept.claimed q) old new b replies.Undecided
    → Settles g before old new b w (record kept { undecided = slice_set kept.undecided (q - 1) true })
asked-undecided g before old new a b w kept q settling candidate asked =
    let lines : AreAsked before (without kept.claimed q) [] (before ++ question_lines (without kept.claimed q) asked.between asked.answer) = record {
      between = asked.between;
      answer = asked.answer;
      only_derived = asked.only_derived;
      answer_line = reply-line replies.Undecided asked.answer asked.is_answer;
      installs = ap installed_in asked.is_answer;
      is = refl;
    } in
    record {
      added = question_lines (without kept.claimed q) asked.between asked.answer;
      grew = asked.grew;
      no_claims = question-claims (without kept.claimed q) asked.between asked.answer asked.only_derived
          (reply-line replies.Undecided asked.answer asked.is_answer);
      settling = record {
        of_strong = settling.of_strong;
        at = asked.at;
        window = window-same before (before ++ question_lines (without kept.claimed q) asked.between asked.answer) (without kept.claimed q) w settling.window
            lines;
        group_at = undecided-step g before (before ++ question_lines (without kept.claimed q) asked.between asked.answer) w kept q settling.group_at candidate
            lines asked.is_answer;
      };
    }

-- what an installation without a package tells
pub has-claimed : (n p q : ℕ) (values : List Bool) → Holds n (without p q) (replies.Found values) → value_of values p ≡ true
has-claimed n p q values holds = holds.1 0 (record { variable = p; positive = true }) (lit< tt)

pub lacks-other : (n p q : ℕ) (values : List Bool) → Holds n (without p q) (replies.Found values) → value_of values q ≡ false
lacks-other n p q values holds = holds.1 1 (record { variable = q; positive = false }) (lit< tt)

pub asked-found : (g : Setting) (before : List CertRecord) (old new : DeskView) (a b : AskerView) (w : WindowView) (kept after : GroupView) (q : ℕ)
    (values : List Bool) → IsSettling g before a w kept → IsCandidate w kept q
    → IsAsked g before (without kept.claimed q) old new b (replies.Found values) → Holds kept.variables (without kept.claimed q) (replies.Found values)
    → after ≡ record kept { common = after.common } → length after.common ≡ kept.variables → IsNarrowed kept.variables kept.common values after.common
    → w.variables ≡ kept.variables
    → Settles g before old new b (record w { kept = keep_last REACH (w.kept ++ values ∷ []); count = w.count + 1 }) (record kept { common = after.common })
asked-found g before old new a b w kept after q values settling candidate asked holds is size narrowed window =
    let lines : AreAsked before (without kept.claimed q) (true_variables values ∷ [])
    (before ++ question_lines (without kept.claimed q) asked.between asked.answer) = record {
      between = asked.between;
      answer = asked.answer;
      only_derived = asked.only_derived;
      answer_line = reply-line (replies.Found values) asked.answer asked.is_answer;
      installs = ap installed_in asked.is_answer;
      is = refl;
    } in
    record {
      added = question_lines (without kept.claimed q) asked.between asked.answer;
      grew = asked.grew;
      no_claims = question-claims (without kept.claimed q) asked.between asked.answer asked.only_derived
          (reply-line (replies.Found values) asked.answer asked.is_answer);
      settling = record {
        of_strong = settling.of_strong;
        at = asked.at;
        window = window-more before (before ++ question_lines (without kept.claimed q) asked.between asked.answer) (without kept.claimed q) w values
            settling.window lines (holds.0 ∙ sym window);
        group_at = found-step g before (before ++ question_lines (without kept.claimed q) asked.between asked.answer) w kept after q values settling.group_at
            candidate lines holds.0
            (has-claimed kept.variables kept.claimed q values holds) (lacks-other kept.variables kept.claimed q values holds) is size narrowed;
      };
    }

-- ---- from what a question tells

ask-at : (old new : DeskView) (a b : AskerView) (w : WindowView) (kept : GroupView) (q : ℕ) (words : List Word) (reply told : Reply)
    → words ≡ without kept.claimed q → reply ≡ told → AskMore old new a b words reply
    → IsCandidate w kept q → (g : Setting) (before : List CertRecord) → IsSettling g before a w kept → IsAsked g before (without kept.claimed q) old new b told
ask-at old new a b w kept q words reply told are is more candidate g before settling =
    subst (λ (r : Reply). IsAsked g before (without kept.claimed q) old new b r) is
    (subst (λ ws. IsAsked g before ws old new b reply) are
    (more g before settling.at (subst (λ ws. IsNextQuestion (matter_in g) g.header before ws) (sym are) (question-on g before a w kept q settling candidate))))

pub settled-refuted : (old new : DeskView) (a b : AskerView) (w : WindowView) (kept after : GroupView) (q : ℕ) (words : List Word) (reply : Reply)
    → words ≡ without kept.claimed q → reply ≡ replies.Refuted
    → AskMore old new a b words reply → IsCandidate w kept q → after ≡ record kept { refuted = slice_set kept.refuted (q - 1) true }
    → SettleMore old new a b w w kept after
settled-refuted old new a b w kept after q words reply are is more candidate becomes g before settling =
    subst (λ (k : GroupView). Settles g before old new b w k) (sym becomes)
    (asked-refuted g before old new a b w kept q settling candidate
    (ask-at old new a b w kept q words reply replies.Refuted are is more candidate g before settling))

pub settled-undecided : (old new : DeskView) (a b : AskerView) (w : WindowView) (kept after : GroupView) (q : ℕ) (words : List Word) (reply : Reply)
    → words ≡ without kept.claimed q → reply ≡ replies.Undecided
    → AskMore old new a b words reply → IsCandidate w kept q → after ≡ record kept { undecided = slice_set kept.undecided (q - 1) true }
    → SettleMore old new a b w w kept after
settled-undecided old new a b w kept after q words reply are is more candidate becomes g before settling =
    subst (λ (k : GroupView). Settles g before old new b w k) (sym becomes)
    (asked-undecided g before old new a b w kept q settling candidate
    (ask-at old new a b w kept q words reply replies.Undecided are is more candidate g before settling))

pub settled-found : (old new : DeskView) (a b : AskerView) (w v : WindowView) (kept after : GroupView) (q : ℕ) (values : List Bool) (words : List Word)
    (reply : Reply) → words ≡ without kept.claimed q → reply ≡ replies.Found values
    → AskMore old new a b words reply → IsCandidate w kept q → Holds kept.variables (without kept.claimed q) (replies.Found values)
    → after ≡ record kept { common = after.common } → length after.common ≡ kept.variables
    → IsNarrowed kept.variables kept.common values after.common → v ≡ record w { kept = keep_last REACH (w.kept ++ values ∷ []); count = w.count + 1 }
    → w.variables ≡ kept.variables → SettleMore old new a b w v kept after
settled-found old new a b w v kept after q values words reply are is more candidate holds becomes size narrowed window same g before settling =
    subst (λ (u : WindowView). Settles g before old new b u after) (sym window)
    (subst (λ (k : GroupView). Settles g before old new b (record w { kept = keep_last REACH (w.kept ++ values ∷ []); count = w.count + 1 }) k) (sym becomes)
    (asked-found g before old new a b w kept after q values settling candidate
    (ask-at old new a b w kept q words reply (replies.Found values) are is more candidate g before settling) holds becomes size narrowed same))

-- want of memory for the window
pub found-stops : (old new : DeskView) (a b : AskerView) (w : WindowView) (kept : GroupView) (q : ℕ) (words : List Word) (reply : Reply)
    → words ≡ without kept.claimed q → AskMore old new a b words reply → IsCandidate w kept q
    → SettleStops old new a w kept NoMemory
found-stops old new a b w kept q words reply are more candidate g before settling =
    let asked = ask-at old new a b w kept q words reply reply are refl more candidate g before settling in
    record {
      added = question_lines (without kept.claimed q) asked.between asked.answer;
      cut = [];
      written = asked.at.writer.written;
      grew = subst (λ bytes. FileGrew bytes old new) (sym (append-nil (lines_text (question_lines (without kept.claimed q) asked.between asked.answer))))
          asked.grew;
      cut_off = inl refl;
      by = tt;
    }

pub ask-stops : (old new : DeskView) (a : AskerView) (w : WindowView) (kept : GroupView) (q : ℕ) (words : List Word) (error : WorkError)
    → words ≡ without kept.claimed q → AskStops a words old new error → IsCandidate w kept q
    → SettleStops old new a w kept error
ask-stops old new a w kept q words error are stops candidate g before settling =
    stops g before settling.at (subst (λ ws. IsNextQuestion (matter_in g) g.header before ws) (sym are) (question-on g before a w kept q settling candidate))

pub memory-stops : BeginsLaw → (old : DeskView) (a : AskerView) (w : WindowView) (kept : GroupView) → SettleStops old old a w kept NoMemory
memory-stops begins old a w kept g before settling = stops-for-memory g before a.writer old old settling.at.writer (begins old)

-- ---- what is open then

pub refute-further : (w : WindowView) (kept after : GroupView) (q : ℕ) → IsCandidate w kept q → HasSizes kept
    → after ≡ record kept { refuted = slice_set kept.refuted (q - 1) true } → IsFurther kept after q
refute-further w kept after q candidate sizes becomes = subst (λ (k : GroupView). IsFurther kept k q) (sym becomes) (record {
  variables = refl;
  claimed = refl;
  fewer = λ r from upto opens. let parts = open-parts (record kept { refuted = slice_set kept.refuted (q - 1) true }) r opens in elim (cases_eq r q) [
    | inl same ↦ subst (λ (k : ℕ). is_open kept k ≡ true) (sym same) candidate.opens
    | inr other ↦ open-from kept r (record {
      other = parts.other;
      common = parts.common;
      refuted = sym (value-other kept.refuted q r candidate.from_one from other) ∙ parts.refuted;
      undecided = parts.undecided;
    })
  ];
  closed = never-open (record kept { refuted = slice_set kept.refuted (q - 1) true }) q
      (λ parts. true≢false (sym (value-same kept.refuted q candidate.from_one (omega (arith, candidate.upto, sizes.refuted))) ∙ parts.refuted));
})

pub leave-further : (w : WindowView) (kept after : GroupView) (q : ℕ) → IsCandidate w kept q → HasSizes kept
    → after ≡ record kept { undecided = slice_set kept.undecided (q - 1) true } → IsFurther kept after q
leave-further w kept after q candidate sizes becomes = subst (λ (k : GroupView). IsFurther kept k q) (sym becomes) (record {
  variables = refl;
  claimed = refl;
  fewer = λ r from upto opens. let parts = open-parts (record kept { undecided = slice_set kept.undecided (q - 1) true }) r opens in elim (cases_eq r q) [
    | inl same ↦ subst (λ (k : ℕ). is_open kept k ≡ true) (sym same) candidate.opens
    | inr other ↦ open-from kept r (record {
      other = parts.other;
      common = parts.common;
      refuted = parts.refuted;
      undecided = sym (value-other kept.undecided q r candidate.from_one from other) ∙ parts.undecided;
    })
  ];
  closed = never-open (record kept { undecided = slice_set kept.undecided (q - 1) true }) q
      (λ parts. true≢false (sym (value-same kept.undecided q candidate.from_one (omega (arith, candidate.upto, sizes.undecided))) ∙ parts.undecided));
})

pub found-further : (w : WindowView) (kept after : GroupView) (q : ℕ) (values : List Bool) → IsCandidate w kept q
    → after ≡ record kept { common = after.common } → IsNarrowed kept.variables kept.common values after.common → value_of values q ≡ false
    → IsFurther kept after q
found-further w kept after q values candidate becomes narrowed lacks = subst (λ (k : GroupView). IsFurther kept k q) (sym becomes) (record {
  variables = refl;
  claimed = refl;
  fewer = λ r from upto opens. let parts = open-parts (record kept { common = after.common }) r opens in
      open-from kept r (record {
        other = parts.other;
        common
            = (and_parts (value_of kept.common r) (value_of values r) (sym (narrowed r from upto) ∙ parts.common)).0;
        refuted = parts.refuted;
        undecided = parts.undecided;
      });
  closed = never-open (record kept { common = after.common }) q
      (λ parts. true≢false (sym (and_parts (value_of kept.common q) (value_of values q) (sym (narrowed q candidate.from_one candidate.upto) ∙ parts.common)).1
      ∙ lacks));
})

-- ---- what is given on

pub fits-after : (a b : AskerView) (w v : WindowView) (kept after : GroupView) → Fits a w kept → b.limit ≡ a.limit → b.log.variables ≡ a.log.variables
    → v.variables ≡ w.variables
    → after.claimed ≡ kept.claimed → after.variables ≡ kept.variables → HasSizes after → Any (λ values. value_of values kept.claimed ≡ true) v.kept
    → Fits b v after
fits-after a b w v kept after fits limit variables window claimed same sizes some = record {
  limit = omega (arith, limit, fits.limit);
  variables = variables ∙ fits.variables ∙ sym same;
  window = window ∙ fits.window ∙ sym same;
  from_one = omega (arith, claimed, fits.from_one);
  upto = omega (arith, claimed, same, fits.upto);
  sizes = sizes;
  some = subst (λ (p : ℕ). Any (λ values. value_of values p ≡ true) v.kept) (sym claimed) some;
}

-- the latest installation is kept
last-any : (P : List Bool → Type 0) (xs : List (List Bool)) (x : List Bool) → P x → Any P (xs ++ x ∷ [])
last-any P xs x holds = (length xs, x, omega (arith, length-append xs (x ∷ [])), get_or_at xs x [] x (length xs) refl, holds)

pub added-some : (w v : WindowView) (p : ℕ) (values : List Bool) → v ≡ record w { kept = keep_last REACH (w.kept ++ values ∷ []); count = w.count + 1 }
    → value_of values p ≡ true
    → Any (λ xs. value_of xs p ≡ true) v.kept
added-some w v p values is has =
    let size = length-append w.kept (values ∷ []) in
    let within : length (w.kept ++ values ∷ []) - REACH ≤ length w.kept = omega (arith, size) in
    subst (λ (xs : List (List Bool)). Any (λ ys. value_of ys p ≡ true) xs)
    (sym (ap (λ (u : WindowView). u.kept) is ∙ drop-append-le (length (w.kept ++ values ∷ []) - REACH) w.kept (values ∷ []) within))
    (last-any (λ ys. value_of ys p ≡ true) (drop (length (w.kept ++ values ∷ []) - REACH) w.kept) values has)
