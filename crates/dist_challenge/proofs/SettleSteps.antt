-- A pair that was asked for, and several one after another.
use Rattle.std.proofs.Common.{◌≡◌, ◌≢◌, inr, ℕ, ◌+◌, ◌-◌, ◌<◌, ◌≤◌, Bool, true, not, List, [], ◌∷◌, ◌++◌, length, get_or}
use Rattle.std.proofs.Common.{Some, slice_get, refl, ap, sym, subst, ◌∙◌, append_assoc, append-nil, arith, lit<, length-drop, length-append}
use Rattle.std.specs.List.{All, AllPairs, Contains}
use Rattle.std.specs.Prelude.{slice_index}
use Rattle.std.proofs.lemmas.List.{get_or_append_left, get_or_at}
use Rattle.std.proofs.lemmas.List.Elements.{All-cons, All-filter, All-nil, All-push, Contains-push}
use Rattle.circular_buffer.specs.Buffer.{keep_last}
use Rattle.dist_outside.specs.DeskView.{DeskView, FileGrew}
use Rattle.dist_outside.specs.declared.trouble.WorkError.{WorkError}
use Rattle.dist_cert.specs.declared.TheConstants.{REACH}
use Rattle.dist_cert.specs.declared.records.CertKind.{CertKind}
use Rattle.dist_cert.specs.declared.records.CertKind.TheVariants as kinds
use Rattle.dist_cert.specs.declared.records.CertRecord.{CertRecord}
use Rattle.dist_cert.specs.ClaimRules.{Covers, yes}
use Rattle.dist_cert.specs.Form.{Word}
use Rattle.dist_cert.specs.Groups.{claim_count, installation_at, installations, installed_in}
use Rattle.dist_cert.specs.Part.{IsQuestionOn}
use Rattle.dist_cert.specs.FileLines.{lines_text}
use Rattle.dist_space.specs.Space.{IsSpace, SpaceView, variable_of}
use Rattle.dist_space.specs.VariableLaws.{place-at}
use Rattle.dist_space.specs.declared.meaning.Meaning.TheVariants.{At, Present}
use Rattle.dist_line_write.specs.Asking.{AskerView, IsOver, question_lines}
use Rattle.dist_line_write.specs.ScriptLaws.{TwiceLaw, lines-more}
use Rattle.dist_line_write.specs.TrueOnesLaws.{true-ones}
use Rattle.dist_line_write.specs.Words.{true_variables}
use Rattle.dist_sweep.specs.Asking.{Holds}
use Rattle.dist_sweep.specs.Script.{Setting, matter_in}
use Rattle.dist_sweep.specs.ScriptLaws.{stops-after}
use Rattle.dist_sweep.specs.QuestionLinesLaws.{AreAsked, any-join, installed-after}
use Rattle.dist_sweep.specs.Window.{IsWindowAt, WindowView}
use Rattle.dist_sweep.specs.WindowLaws.{window-more, window-same}
use Rattle.dist_sweep.specs.declared.asking.Reply.{Reply}
use Rattle.dist_sweep.specs.declared.asking.Reply.TheVariants as replies
use Rattle.dist_covering.specs.Covering.{CoveringView, IsAdded}
use Rattle.dist_covering.specs.Used.{AreUsed, AreUses}
use Rattle.dist_challenge.specs.GroupPrivate.{CoversRest, EachAnswered, FitsBegun, FitsGroup, IsGroupAt, IsSettling, NoToday}
use Rattle.dist_covering.specs.Planning.{IsStruck}
use Rattle.dist_covering.specs.Group.{GroupView}
use Rattle.dist_challenge.specs.GroupPrivate.{SettleMore, SettleStops, together}
use Rattle.dist_covering.specs.OpenPairs.{IsKept, IsPairVariable, covered_by}
use Rattle.dist_challenge.specs.GroupPrivate.{IsNextCount}
use Rattle.dist_sweep.specs.Futures.{IsOfSpace}
use Rattle.dist_covering.specs.Used.{pair_at}
use Rattle.dist_sweep.specs.AskedLaws.{AskedFrom, asked-lines, asked-none, IsReady, Known}
use Rattle.dist_challenge.proofs.ChallengedLine.{at-is, pair-for, pair-question, PairsLaw}
use Rattle.dist_challenge.proofs.CoveredPairs.{CoveredLaw, Kept, kept-covers, uses-more, uses-same}
use Rattle.dist_covering.specs.ListLaws.{filter-few}
use Rattle.dist_challenge.proofs.GroupLines.{not-first}
use Rattle.dist_challenge.proofs.GroupSteps.{found-answered, found-rest, found-step, refuted-answered, refuted-rest, refuted-step}
use Rattle.dist_challenge.proofs.GroupSteps.{today-after, undecided-answered, undecided-rest, undecided-step, with_left}
use Rattle.dist_sweep.specs.FuturesLaws.{packages-are, present-in, present-is}
use Rattle.dist_covering.specs.PairLaws.{variable-inside, all-inside}

abbrev pub Settled : AskerView → WindowView → CoveringView → GroupView → Known
Settled a w c group_is = λ g before. IsSettling g before a w c group_is

-- ---- one after another

pub settle-none : (old : DeskView) (a : AskerView) (w : WindowView) (c : CoveringView) (group_is : GroupView) → FileGrew [] old old
    → SettleMore old old a a w w c c group_is group_is
settle-none old a w c group_is none g before at = record {
  added = [];
  grew = none;
  no_claims = refl;
  settling = subst (λ ls. IsSettling g ls a w c group_is) (sym (append-nil before)) at;
  rest = λ covers. subst (λ ls. CoversRest g ls c.space group_is) (sym (append-nil before)) covers;
  answered = λ are. subst (λ ls. EachAnswered g ls c.space group_is) (sym (append-nil before)) are;
  no_today = λ none_of. subst (λ ls. NoToday ls group_is) (sym (append-nil before)) none_of;
}

pub settle-join : (first mid last : DeskView) (a b d : AskerView) (w v u : WindowView) (c e f : CoveringView) (one two three : GroupView) → TwiceLaw
    → SettleMore first mid a b w v c e one two → SettleMore mid last b d v u e f two three → SettleMore first last a d w u c f one three
settle-join first mid last a b d w v u c e f one two three twice before_it behind g before at =
    let x = before_it g before at in
    let y = behind g (before ++ x.added) x.settling in
    record {
      added = x.added ++ y.added;
      grew = subst (λ bytes. FileGrew bytes first last) (sym (lines-more x.added y.added))
          (twice (lines_text x.added) (lines_text y.added) first mid last x.grew y.grew);
      no_claims = any-join x.added y.added x.no_claims y.no_claims;
      settling = subst (λ ls. IsSettling g ls d u f three) (append_assoc before x.added y.added) y.settling;
      rest = λ covers. subst (λ ls. CoversRest g ls f.space three) (append_assoc before x.added y.added) (y.rest (x.rest covers));
      answered = λ are. subst (λ ls. EachAnswered g ls f.space three) (append_assoc before x.added y.added) (y.answered (x.answered are));
      no_today = λ none. subst (λ ls. NoToday ls three) (append_assoc before x.added y.added) (y.no_today (x.no_today none));
    }

pub settle-stops : (first mid last : DeskView) (a b : AskerView) (w v : WindowView) (c e : CoveringView) (one two : GroupView) (error : WorkError) → TwiceLaw
    → SettleMore first mid a b w v c e one two → SettleStops mid last b v e two error → SettleStops first last a w c one error
settle-stops first mid last a b w v c e one two error twice before_it behind g before at =
    let x = before_it g before at in stops-after twice g before x.added first mid last error x.grew (behind g (before ++ x.added) x.settling)

-- ---- the question

-- what is told of an installation
pub held : (n : ℕ) (question words : List Word) (reply told : Reply) → words ≡ question → reply ≡ told → Holds n words reply → Holds n question told
held n question words reply told are is holds =
    subst (λ (r : Reply). Holds n question r) is (subst (λ (ws : List Word). Holds n ws reply) are holds)

not-present : (s : SpaceView) (r own at : ℕ) → IsSpace s → r < length s.repository.packages → IsPairVariable s own at → variable_of s (Present r) ≢ at
not-present s r own at space within v same =
    let is = place-at s (Present r) space within in
    let here : slice_get s.meanings (at - 1) ≡ Some (Present r) = ap (λ (n : ℕ). slice_get s.meanings (n - 1)) (sym same) ∙ is in
    two-meanings v.cluster v.class (sym here ∙ v.is)
  where
    two-meanings : (c k : ℕ) → Some (Present r) ≡ Some (At c k) → ⊥
    two-meanings c k e = cc

pub two-over : (n v w : ℕ) → 1 ≤ v → v ≤ n → 1 ≤ w → w ≤ n → v ≢ w → IsOver n (yes v ∷ yes w ∷ [])
two-over n v w v_from v_upto w_from w_upto apart = record {
  some = omega arith;
  form = (All-cons (λ l. 1 ≤ l.0) (yes v) (yes w ∷ []) v_from (All-cons (λ l. 1 ≤ l.0) (yes w) [] w_from (All-nil (λ l. 1 ≤ l.0))), pairs);
  upto = All-cons (λ l. l.0 ≤ n) (yes v) (yes w ∷ []) v_upto (All-cons (λ l. l.0 ≤ n) (yes w) [] w_upto (All-nil (λ l. l.0 ≤ n)));
}
  where
    pairs : AllPairs (λ (l m : Word). l.0 ≢ m.0) (yes v ∷ yes w ∷ [])
    pairs i j d before within =
        let one : i ≡ 0 = omega (arith, before, within) in
        let two : j ≡ 1 = omega (arith, before, within) in
        subst (λ (k : ℕ). (get_or (yes v ∷ yes w ∷ []) k d).0 ≢ (get_or (yes v ∷ yes w ∷ []) j d).0) (sym one)
        (subst (λ (k : ℕ). v ≢ (get_or (yes v ∷ yes w ∷ []) k d).0) (sym two) apart)

-- the last pair is that of a variable
pub last-variable : (s : SpaceView) (own at : ℕ) (left : List ℕ) → All (IsPairVariable s own) (left ++ at ∷ []) → IsPairVariable s own at
last-variable s own at left all =
    subst (IsPairVariable s own) (get_or_at left at [] at (length left) refl) (all (length left) at (omega (arith, length-append left (at ∷ []))))

pub pair-over : (a : AskerView) (w : WindowView) (c : CoveringView) (group_is : GroupView) (at : ℕ) → IsSpace c.space
    → FitsGroup a w c (with_left group_is at) → IsOver a.log.variables (together group_is.present at)
pair-over a w c group_is at space fits =
    let within : group_is.claimed - 1 < length c.space.repository.packages = omega (arith, fits.begun.from_one, fits.begun.upto) in
    let range = present-in c.space (group_is.claimed - 1) space within in
    let v = last-variable c.space (slice_index c.space.cluster_of (group_is.claimed - 1)) at group_is.left fits.left in
    let inside = variable-inside c.space (slice_index c.space.cluster_of (group_is.claimed - 1)) at v in
    let is = fits.begun.present in
    let all = fits.begun.variables in
    two-over a.log.variables group_is.present at (omega (arith, range.from_one, is)) (omega (arith, range.upto, is, all)) inside.0 (omega
    (arith, inside.1, all))
    (λ same. not-present c.space (group_is.claimed - 1) (slice_index c.space.cluster_of (group_is.claimed - 1)) at space within v (sym is ∙ same))

pub pair-ready : PairsLaw → (a : AskerView) (w : WindowView) (c : CoveringView) (group_is : GroupView) (at : ℕ) → IsSpace c.space
    → FitsGroup a w c (with_left group_is at) → IsReady (Settled a w c (with_left group_is at)) a (together group_is.present at)
pair-ready law a w c group_is at space fits = record {
  at = λ g before settling. settling.at;
  next = λ g before settling.
      let of = settling.keeps.of_space in
      let kept = settling.group_at in
      let packages = packages-are kinds.Challenged c.space g of in
      let v = last-variable c.space (slice_index c.space.cluster_of (group_is.claimed - 1)) at group_is.left fits.left in
      record {
        claim_left = omega (arith, kept.claimed, kept.upto, packages);
        on_next = subst (λ (k : CertKind). IsQuestionOn (matter_in g) k (claim_count before + 1) (together group_is.present at)) (sym of.kind_is)
            (subst (λ (n : ℕ). IsQuestionOn (matter_in g) kinds.Challenged n (together group_is.present at)) kept.claimed
            (inr (
              pair_at c.space at,
              pair-for law g c.space of space group_is.claimed at fits.begun.from_one v,
              pair-question law g c.space of space group_is.claimed group_is.present at (slice_index c.space.cluster_of (group_is.claimed - 1))
                  (present-is kinds.Challenged c.space g of group_is.claimed ∙ sym kept.present) v,
            )));
        not_twice = λ there. kept.asked at there (Contains-push group_is.left at);
      };
}

-- ---- the three replies

-- the variable of the package is not that of today
pub later-present : (a : AskerView) (w : WindowView) (c : CoveringView) (group_is : GroupView) → IsSpace c.space → FitsBegun a w c group_is
    → group_is.present ≢ 1
later-present a w c group_is space fits same =
    not-first c.space (group_is.claimed - 1) space (omega (arith, fits.from_one, fits.upto)) (sym fits.present ∙ same)

pub settled-refuted : (old new : DeskView) (a b : AskerView) (w : WindowView) (c : CoveringView) (group_is : GroupView) (at : ℕ)
    → group_is.present ≢ 1 → AskedFrom (Settled a w c (with_left group_is at)) (together group_is.present at) old new b replies.Refuted
    → SettleMore old new a b w w c c (with_left group_is at) (record group_is { refuted = group_is.refuted ++ at ∷ [] })
settled-refuted old new a b w c group_is at other asks g before settling =
    let asked = asks g before settling in
    let lines : List CertRecord = before ++ question_lines (together group_is.present at) asked.between asked.answer in
    let behind = asked-lines g before (together group_is.present at) old new b replies.Refuted [] asked (ap installed_in asked.is_answer.1) in
    record {
      added = question_lines (together group_is.present at) asked.between asked.answer;
      grew = asked.grew;
      no_claims = asked-none g before (together group_is.present at) old new b replies.Refuted asked;
      settling = record {
        keeps = record {
          of_space = settling.keeps.of_space;
          uses = uses-same c.space (installations before) (installations lines) c.uses
              (installed-after before (together group_is.present at) [] lines behind ∙ append-nil (installations before)) settling.keeps.uses;
        };
        at = asked.at;
        window = window-same before lines (together group_is.present at) w settling.window behind;
        group_at = refuted-step g c.space before lines group_is at asked.is_answer.0 settling.group_at behind asked.is_answer.1;
      };
      rest = refuted-rest g c.space before lines group_is at behind;
      answered = refuted-answered g c.space before lines group_is at behind;
      no_today = today-after before lines group_is.present at [] other behind;
    }

pub settled-undecided : (old new : DeskView) (a b : AskerView) (w : WindowView) (c : CoveringView) (group_is : GroupView) (at : ℕ)
    → group_is.present ≢ 1 → AskedFrom (Settled a w c (with_left group_is at)) (together group_is.present at) old new b replies.Undecided
    → SettleMore old new a b w w c c (with_left group_is at) (record group_is { undecided = group_is.undecided ++ at ∷ [] })
settled-undecided old new a b w c group_is at other asks g before settling =
    let asked = asks g before settling in
    let lines : List CertRecord = before ++ question_lines (together group_is.present at) asked.between asked.answer in
    let behind = asked-lines g before (together group_is.present at) old new b replies.Undecided [] asked (ap installed_in asked.is_answer) in
    record {
      added = question_lines (together group_is.present at) asked.between asked.answer;
      grew = asked.grew;
      no_claims = asked-none g before (together group_is.present at) old new b replies.Undecided asked;
      settling = record {
        keeps = record {
          of_space = settling.keeps.of_space;
          uses = uses-same c.space (installations before) (installations lines) c.uses
              (installed-after before (together group_is.present at) [] lines behind ∙ append-nil (installations before)) settling.keeps.uses;
        };
        at = asked.at;
        window = window-same before lines (together group_is.present at) w settling.window behind;
        group_at = undecided-step g c.space before lines group_is at settling.group_at behind asked.is_answer;
      };
      rest = undecided-rest g c.space before lines group_is at behind;
      answered = undecided-answered g c.space before lines group_is at behind;
      no_today = today-after before lines group_is.present at [] other behind;
    }

-- the latest installation by its number
pub latest-is : (before lines : List CertRecord) (question : List Word) (members : List ℕ) (count : ℕ) → AreAsked before question (members ∷ []) lines
    → count ≡ length (installations before) + 1 → installation_at lines count ≡ members
latest-is before lines question members count behind is =
    let place : count - 1 ≡ length (installations before) = omega (arith, is) in
    ap (λ (ms : List (List ℕ)). get_or ms (count - 1) []) (installed-after before question (members ∷ []) lines behind)
    ∙ ap (λ (k : ℕ). get_or (installations before ++ members ∷ []) k []) place
    ∙ get_or_at (installations before) members [] [] (length (installations before)) refl

-- what is kept once an installation was added
pub added-kept : (g : Setting) (before lines : List CertRecord) (question : List Word) (w v : WindowView) (c : CoveringView) (values : List Bool)
    (used : List ℕ)
    → IsOfSpace kinds.Challenged c.space g → IsSpace c.space → IsWindowAt before w → w.variables ≡ length c.space.meanings
    → AreUses c.space (keep_last REACH (installations before)) c.uses
    → AreAsked before question (true_variables values ∷ []) lines → length values ≡ length c.space.meanings
    → AreUsed c.space values used
    → v ≡ record w { kept = keep_last REACH (w.kept ++ values ∷ []); count = w.count + 1 }
    → Kept g lines v (record c { uses = keep_last REACH (c.uses ++ used ∷ []) })
added-kept g before lines question w v c values used of space window variables uses behind size are_used is = record {
  of_space = of;
  space = space;
  window = subst (λ (x : WindowView). IsWindowAt lines x) (sym is) (window-more before lines question w values window behind (size ∙ sym variables));
  variables = ap (λ (x : WindowView). x.variables) is ∙ variables;
  uses = subst (λ (ms : List (List ℕ)). AreUses c.space (keep_last REACH ms) (keep_last REACH (c.uses ++ used ∷ [])))
      (sym (installed-after before question (true_variables values ∷ []) lines behind))
      (uses-more c.space (installations before) c.uses values used size uses are_used);
}

pub settled-found : CoveredLaw → PairsLaw → (old new : DeskView) (a b : AskerView) (w v : WindowView) (c d : CoveringView) (group_is h : GroupView) (at : ℕ)
    (values : List Bool) → IsSpace c.space → FitsGroup a w c (with_left group_is at)
    → AskedFrom (Settled a w c (with_left group_is at)) (together group_is.present at) old new b (replies.Found values)
    → Holds a.log.variables (together group_is.present at) (replies.Found values) → IsAdded c d w v values → IsStruck d v group_is h
    → SettleMore old new a b w v c d (with_left group_is at) h
settled-found covered_law law old new a b w v c d group_is h at values space fits asks holds added struck g before settling =
    let asked = asks g before settling in
    let lines : List CertRecord = before ++ question_lines (together group_is.present at) asked.between asked.answer in
    let behind = asked-lines g before (together group_is.present at) old new b (replies.Found values) (true_variables values ∷ []) asked
    (ap installed_in asked.is_answer) in
    let of = settling.keeps.of_space in
    let size : length values ≡ length c.space.meanings = holds.0 ∙ fits.begun.variables in
    let e : CoveringView = record c { uses = keep_last REACH (c.uses ++ added.used ∷ []) } in
    let kept : Kept g lines v e = added-kept g before lines (together group_is.present at) w v c values added.used of space settling.window fits.begun.window
    settling.keeps.uses behind size added.are_used added.window in
    let struck_by : IsStruck e v group_is h = subst (λ (x : CoveringView). IsStruck x v group_is h) added.is struck in
    let count : v.count ≡ length (installations before) + 1 = ap (λ (x : WindowView). x.count) added.window ∙ ap (λ (n : ℕ). n + 1) settling.window.count in
    let latest = latest-is before lines (together group_is.present at) (true_variables values) v.count behind count in
    let over = pair-over a w c group_is at space fits in
    let within : group_is.claimed - 1 < length c.space.repository.packages = omega (arith, fits.begun.from_one, fits.begun.upto) in
    let range = present-in c.space (group_is.claimed - 1) space within in
    let is = fits.begun.present in
    let variable = last-variable c.space (slice_index c.space.cluster_of (group_is.claimed - 1)) at group_is.left fits.left in
    let inside = variable-inside c.space (slice_index c.space.cluster_of (group_is.claimed - 1)) at variable in
    let has : Contains (true_variables values) group_is.present =
    (true-ones values group_is.present (omega (arith, range.from_one, is)) (omega (arith, range.upto, is, size))).1
    (holds.1 0 (record { variable = group_is.present; positive = true }) (lit< tt)) in
    let has_at : Contains (true_variables values) at = (true-ones values at inside.0 (omega (arith, inside.1, size))).1
    (holds.1 1 (record { variable = at; positive = true }) (lit< tt)) in
    let to = λ (x : ℕ) (u : IsPairVariable c.space (slice_index c.space.cluster_of (group_is.claimed - 1)) x) (yes_it : covered_by e v v.count x ≡ true).
    subst (λ (ms : List ℕ). Covers (matter_in g) (pair_at c.space x) ms) latest
    ((kept-covers covered_law g lines v e (slice_index c.space.cluster_of (group_is.claimed - 1)) v.count x kept struck_by.kept u).0 yes_it) in
    let back = λ (x : ℕ) (u : IsPairVariable c.space (slice_index c.space.cluster_of (group_is.claimed - 1)) x)
    (covers : Covers (matter_in g) (pair_at c.space x) (true_variables values)).
    (kept-covers covered_law g lines v e (slice_index c.space.cluster_of (group_is.claimed - 1)) v.count x kept struck_by.kept u).1
    (subst (λ (ms : List ℕ). Covers (matter_in g) (pair_at c.space x) ms) (sym latest) covers) in
    let itself : covered_by e v v.count at ≡ true = back at variable (inr (subst (λ (n : ℕ). Contains (true_variables values) n)
    (sym (at-is law g c.space of space at (slice_index c.space.cluster_of (group_is.claimed - 1)) variable)) has_at)) in
    let stepped = found-step g c.space before lines group_is at (true_variables values) (λ x. covered_by e v v.count x) of settling.group_at behind has to back
    itself in
    record {
      added = question_lines (together group_is.present at) asked.between asked.answer;
      grew = asked.grew;
      no_claims = asked-none g before (together group_is.present at) old new b (replies.Found values) asked;
      settling = subst (λ (x : CoveringView). IsSettling g lines b v x h) (sym added.is) (record {
        keeps = record { of_space = of; uses = kept.uses };
        at = asked.at;
        window = kept.window;
        group_at = subst (λ (x : GroupView). IsGroupAt g lines c.space x) (sym struck_by.is) stepped;
      });
      rest = λ covers. subst (λ (x : CoveringView). CoversRest g lines x.space h) (sym added.is)
          (subst (λ (x : GroupView). CoversRest g lines c.space x) (sym struck_by.is)
          (found-rest g c.space before lines group_is at (true_variables values) (λ x. covered_by e v v.count x) of settling.group_at behind has to itself
          covers));
      answered = λ are. subst (λ (x : CoveringView). EachAnswered g lines x.space h) (sym added.is)
          (subst (λ (x : GroupView). EachAnswered g lines c.space x) (sym struck_by.is)
          (found-answered g c.space before lines group_is at (true_variables values) (λ x. covered_by e v v.count x) behind fits.begun.undecided to variable
          itself are));
      no_today = λ none. subst (λ (x : GroupView). NoToday lines x) (sym struck_by.is)
          (today-after before lines group_is.present at (true_variables values ∷ []) (later-present a w c (with_left group_is at) space fits.begun) behind
          none);
    }

-- ---- what is given on

front : (P : ℕ → Type 0) (xs : List ℕ) (y : ℕ) → All P (xs ++ y ∷ []) → All P xs
front P xs y all k d within = subst P (get_or_append_left xs (y ∷ []) d k within) (all k d (omega (arith, within, length-append xs (y ∷ []))))

-- the latest installation is kept
pub latest-kept : (w v : WindowView) (values : List Bool) → v ≡ record w { kept = keep_last REACH (w.kept ++ values ∷ []); count = w.count + 1 }
    → IsKept v v.count
latest-kept w v values is =
    let kept = ap (λ (x : WindowView). length x.kept) is in
    let size = length-append w.kept (values ∷ []) in
    let left = length-drop (length (w.kept ++ values ∷ []) - REACH) (w.kept ++ values ∷ []) in
    record { low = omega (arith, kept, size, left); high = omega arith }

pub fits-refuted : (a b : AskerView) (w : WindowView) (c : CoveringView) (group_is : GroupView) (at : ℕ) → FitsGroup a w c (with_left group_is at)
    → b.limit ≡ a.limit → b.log.variables ≡ a.log.variables → FitsGroup b w c (record group_is { refuted = group_is.refuted ++ at ∷ [] })
fits-refuted a b w c group_is at fits limit variables = record {
  begun = record {
    limit = omega (arith, limit, fits.begun.limit);
    variables = variables ∙ fits.begun.variables;
    window = fits.begun.window;
    from_one = fits.begun.from_one;
    upto = fits.begun.upto;
    present = fits.begun.present;
    refuted = All-push (IsPairVariable c.space (slice_index c.space.cluster_of (group_is.claimed - 1))) group_is.refuted at fits.begun.refuted
        (last-variable c.space (slice_index c.space.cluster_of (group_is.claimed - 1)) at group_is.left fits.left);
    undecided = fits.begun.undecided;
  };
  named = fits.named;
  some = fits.some;
  left = front (IsPairVariable c.space (slice_index c.space.cluster_of (group_is.claimed - 1))) group_is.left at fits.left;
}

pub fits-undecided : (a b : AskerView) (w : WindowView) (c : CoveringView) (group_is : GroupView) (at : ℕ) → FitsGroup a w c (with_left group_is at)
    → b.limit ≡ a.limit → b.log.variables ≡ a.log.variables → FitsGroup b w c (record group_is { undecided = group_is.undecided ++ at ∷ [] })
fits-undecided a b w c group_is at fits limit variables = record {
  begun = record {
    limit = omega (arith, limit, fits.begun.limit);
    variables = variables ∙ fits.begun.variables;
    window = fits.begun.window;
    from_one = fits.begun.from_one;
    upto = fits.begun.upto;
    present = fits.begun.present;
    refuted = fits.begun.refuted;
    undecided = All-push (IsPairVariable c.space (slice_index c.space.cluster_of (group_is.claimed - 1))) group_is.undecided at fits.begun.undecided
        (last-variable c.space (slice_index c.space.cluster_of (group_is.claimed - 1)) at group_is.left fits.left);
  };
  named = fits.named;
  some = fits.some;
  left = front (IsPairVariable c.space (slice_index c.space.cluster_of (group_is.claimed - 1))) group_is.left at fits.left;
}

pub fits-found : (a b : AskerView) (w v : WindowView) (c d : CoveringView) (group_is h : GroupView) (at : ℕ) (values : List Bool)
    → FitsGroup a w c (with_left group_is at) → b.limit ≡ a.limit → b.log.variables ≡ a.log.variables → IsAdded c d w v values → IsStruck d v group_is h
    → FitsGroup b v d h
fits-found a b w v c d group_is h at values fits limit variables added struck =
    subst (λ (x : CoveringView). FitsGroup b v x h) (sym added.is)
    (subst (λ (x : GroupView). FitsGroup b v (record c { uses = keep_last REACH (c.uses ++ added.used ∷ []) }) x) (sym struck.is) (record {
      begun = record {
        limit = omega (arith, limit, fits.begun.limit);
        variables = variables ∙ fits.begun.variables;
        window = ap (λ (x : WindowView). x.variables) added.window ∙ fits.begun.window;
        from_one = fits.begun.from_one;
        upto = fits.begun.upto;
        present = fits.begun.present;
        refuted = fits.begun.refuted;
        undecided = All-filter (λ x. not (covered_by d v v.count x)) (IsPairVariable c.space (slice_index c.space.cluster_of (group_is.claimed - 1)))
            group_is.undecided fits.begun.undecided;
      };
      named = fits.named;
      some = λ none. let count = ap (λ (x : WindowView). x.count) added.window in omega (arith, count);
      left = All-filter (λ x. not (covered_by d v v.count x)) (IsPairVariable c.space (slice_index c.space.cluster_of (group_is.claimed - 1))) group_is.left
          (front (IsPairVariable c.space (slice_index c.space.cluster_of (group_is.claimed - 1))) group_is.left at fits.left);
    }))

-- and the one before, where that was the latest one
pub before-kept : (w v : WindowView) (values : List Bool) (number : ℕ) → number ≡ w.count → IsKept w w.count
    → v ≡ record w { kept = keep_last REACH (w.kept ++ values ∷ []); count = w.count + 1 } → IsKept v number
before-kept w v values number same was is =
    let kept = ap (λ (x : WindowView). length x.kept) is in
    let count = ap (λ (x : WindowView). x.count) is in
    let size = length-append w.kept (values ∷ []) in
    let left = length-drop (length (w.kept ++ values ∷ []) - REACH) (w.kept ++ values ∷ []) in
    let low = was.low in
    record { low = omega (arith, kept, size, left, count, same, low); high = omega (arith, same, count) }

-- one installation came, and is kept
pub next-count : (w v : WindowView) (values : List Bool) → v ≡ record w { kept = keep_last REACH (w.kept ++ values ∷ []); count = w.count + 1 }
    → IsNextCount w v
next-count w v values is = inr (ap (λ (x : WindowView). x.count) is, latest-kept w v values is)

-- what may be struck is of the space
pub inside-left : (a : AskerView) (w : WindowView) (c d : CoveringView) (group_is : GroupView) (at : ℕ) → FitsGroup a w c (with_left group_is at)
    → d.space ≡ c.space → All (λ x. (1 ≤ x) × (x ≤ length d.space.meanings)) group_is.left
inside-left a w c d group_is at fits same =
    subst (λ (s : SpaceView). All (λ x. (1 ≤ x) × (x ≤ length s.meanings)) group_is.left) (sym same)
    (all-inside c.space (slice_index c.space.cluster_of (group_is.claimed - 1)) group_is.left
    (front (IsPairVariable c.space (slice_index c.space.cluster_of (group_is.claimed - 1))) group_is.left at fits.left))

pub inside-undecided : (a : AskerView) (w : WindowView) (c d : CoveringView) (group_is : GroupView) (at : ℕ) → FitsGroup a w c (with_left group_is at)
    → d.space ≡ c.space → All (λ x. (1 ≤ x) × (x ≤ length d.space.meanings)) group_is.undecided
inside-undecided a w c d group_is at fits same =
    subst (λ (s : SpaceView). All (λ x. (1 ≤ x) × (x ≤ length s.meanings)) group_is.undecided) (sym same)
    (all-inside c.space (slice_index c.space.cluster_of (group_is.claimed - 1)) group_is.undecided fits.begun.undecided)

pub struck-fewer : (d : CoveringView) (v : WindowView) (group_is h : GroupView) → IsStruck d v group_is h → length h.left ≤ length group_is.left
struck-fewer d v group_is h struck =
    subst (λ (x : GroupView). length x.left ≤ length group_is.left) (sym struck.is) (filter-few (λ x. not (covered_by d v v.count x)) group_is.left)
