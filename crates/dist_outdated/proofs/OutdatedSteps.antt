-- The steps of a claim on an outdated package.
use Rattle.std.proofs.Common.{◌≡◌, ℕ, ◌+◌, ◌-◌, ◌<◌, ◌≤◌, ◌^◌, Bool, true, if◌then◌else◌, List, [], ◌∷◌, ◌++◌, length}
use Rattle.std.proofs.Common.{refl, ap, sym, subst, ◌∙◌, arith, lit<, append-nil}
use Rattle.std.specs.List.{Contains}
use Rattle.std.specs.Prelude.{slice_index}
use Rattle.std.proofs.lemmas.List.Elements.{All-nil, All-cons}
use Rattle.circular_buffer.specs.Buffer.{keep_last}
use Rattle.dist_clause.specs.Formula.{value_of}
use Rattle.dist_outside.specs.DeskView.{DeskView}
use Rattle.dist_cert.specs.declared.TheConstants.{REACH}
use Rattle.dist_cert.specs.declared.records.CertKind.{CertKind}
use Rattle.dist_cert.specs.declared.records.CertKind.TheVariants as kinds
use Rattle.dist_cert.specs.declared.records.CertRecord.{CertRecord}
use Rattle.dist_cert.specs.declared.records.CertRecord.TheVariants.{Alive, Outdated, Question, Unknown}
use Rattle.dist_cert.specs.ClaimRules.{HoldsClaim, IsNamed, yes}
use Rattle.dist_cert.specs.Form.{Word}
use Rattle.dist_cert.specs.Groups.{claim_count, group, installation_at, installations, installed_in, IsClosedBy}
use Rattle.dist_cert.specs.Part.{IsQuestionOn}
use Rattle.dist_space.specs.Space.{IsSpace, SpaceView, variable_of}
use Rattle.dist_space.specs.declared.meaning.Meaning.TheVariants.{Present}
use Rattle.dist_line_write.specs.Asking.{AskerView, IsOver, question_lines}
use Rattle.dist_line_write.specs.Words.{true_variables}
use Rattle.dist_sweep.specs.Asking.{Holds}
use Rattle.dist_sweep.specs.Script.{Setting, matter_in}
use Rattle.dist_sweep.specs.Claiming.{MayClaim, Suits}
use Rattle.dist_sweep.specs.ClaimLinesLaws.{unknown-line, same-installed}
use Rattle.dist_sweep.specs.QuestionLinesLaws.{AreAsked, closed-here, count-after, installed-after}
use Rattle.dist_sweep.specs.Window.{IsWindowAt, WindowView}
use Rattle.dist_sweep.specs.WindowLaws.{window-more, window-same}
use Rattle.dist_sweep.specs.declared.asking.Reply.TheVariants as replies
use Rattle.dist_sweep.specs.Futures.{FitsSpace, IsOfSpace}
use Rattle.dist_outdated.specs.OutdatedPrivate.{AreLatest, AreNoted, IsReached, KeepsOutdated, OutdatedView}
use Rattle.dist_sweep.specs.AskedLaws.{asked-lines, IsReady, Known, nothing-in, PutsBehind, PutsFrom, Stands}
use Rattle.dist_outdated.proofs.ClaimLines.{alive-line, outdated-line}
use Rattle.dist_outdated.proofs.LatestSteps.{latest-more}
use Rattle.dist_sweep.specs.FuturesLaws.{packages-are, present-is}

-- the question of package p
abbrev pub question_of : SpaceView → ℕ → List Word
question_of s p = yes (variable_of s (Present (p - 1))) ∷ []

-- the claim on package p may come next
pub record MayClaimOn (a : AskerView) (w : WindowView) (c : OutdatedView) (p : ℕ) (g : Setting) (before : List CertRecord) : Type 0 where
  pub may : MayClaim g before a w p
  pub keeps : KeepsOutdated g before c

abbrev pub KeptBy : OutdatedView → Known
KeptBy c = λ g lines. KeepsOutdated g lines c

pub may-stand : (a : AskerView) (w : WindowView) (c : OutdatedView) (p : ℕ) → Stands (MayClaimOn a w c p) a
may-stand a w c p g before known = known.may.swept.at

-- ---- the question

pub alone-over : (n v : ℕ) → 1 ≤ v → v ≤ n → IsOver n (yes v ∷ [])
alone-over n v from upto = record {
  some = omega arith;
  form = (All-cons (λ l. 1 ≤ l.0) (yes v) [] from (All-nil (λ l. 1 ≤ l.0)), λ i j d before within. absurd (omega (arith, before, within)));
  upto = All-cons (λ l. l.0 ≤ n) (yes v) [] upto (All-nil (λ l. l.0 ≤ n));
}

pub outdated-ready : (a : AskerView) (w : WindowView) (c : OutdatedView) (p : ℕ) → IsReady (MayClaimOn a w c p) a (question_of c.space p)
outdated-ready a w c p = record {
  at = may-stand a w c p;
  next = λ g before known.
      let of = known.keeps.of_space in
      let next = known.may.next in
      record {
        claim_left = omega (arith, next, known.may.upto);
        on_next = subst (λ (k : CertKind). IsQuestionOn (matter_in g) k (claim_count before + 1) (question_of c.space p)) (sym of.kind_is)
            (ap (λ (n : ℕ). yes n ∷ []) (sym (present-is kinds.Outdated c.space g of p) ∙ ap (λ (q : ℕ). (matter_in g).present q) next));
        not_twice = λ there. nothing-in (Question (question_of c.space p))
            (subst (λ (ls : List CertRecord). Contains ls (Question (question_of c.space p))) known.may.swept.no_group there);
      };
}

-- ---- the line of a claim

-- the question of the package is that of its claim
claim-question : (g : Setting) (s : SpaceView) (p : ℕ) → IsOfSpace kinds.Outdated s g → yes ((matter_in g).present p) ∷ [] ≡ question_of s p
claim-question g s p of = ap (λ (n : ℕ). yes n ∷ []) (present-is kinds.Outdated s g of p)

latest-again : (s : SpaceView) (lines : List CertRecord) (step : CertRecord) (latest : List ℕ) → installed_in step ≡ []
    → AreLatest s (installations lines) latest → AreLatest s (installations (lines ++ step ∷ [])) latest
latest-again s lines step latest none are = subst (λ (ms : List (List ℕ)). AreLatest s ms latest) (sym (same-installed lines step none)) are

-- an installation of the package is named
named-latest : (g : Setting) (lines : List CertRecord) (w : WindowView) (c : OutdatedView) (p number : ℕ) → IsOfSpace kinds.Outdated c.space g
    → IsWindowAt lines w → AreLatest c.space (installations lines) c.latest → 1 ≤ p → p ≤ length c.space.repository.packages
    → IsReached c w p number → IsNamed lines ((matter_in g).present p) number
named-latest g lines w c p number of at latest from upto reached =
    let kept = latest (p - 1) (omega (arith, from, upto)) in
    let is = reached.is in
    let recent = reached.recent in
    let count = at.count in (
      (reached.from_one, omega (arith, is, kept.upto), omega (arith, recent, count)),
      subst (λ (v : ℕ). Contains (installation_at lines number) v) (sym (present-is kinds.Outdated c.space g of p))
          (subst (λ (n : ℕ). Contains (installation_at lines n) (variable_of c.space (Present (p - 1)))) (sym is)
          (kept.has (omega (arith, is, reached.from_one)))),
    )

-- a package is claimed by an installation that is known
pub alive-puts : (a : AskerView) (w : WindowView) (c : OutdatedView) (p number : ℕ) → p < 2 ^ 32 → number < 2 ^ 32 → 1 ≤ p
    → p ≤ length c.space.repository.packages → IsReached c w p number → PutsFrom (MayClaimOn a w c p) w (KeptBy c) (Alive p number)
alive-puts a w c p number small small_number from upto reached g before known =
    let of = known.keeps.of_space in
    let swept = known.may.swept in
    record {
      window = swept.window;
      line = alive-line g before p number swept.at.log.not_ended small reached.from_one small_number known.may.next known.may.upto
          (subst (λ (k : CertKind). HoldsClaim (matter_in g) k before (Alive p number)) (sym of.kind_is)
          (named-latest g before w c p number of swept.window known.keeps.latest from upto reached));
      kept = record { of_space = of; latest = latest-again c.space before (Alive p number) c.latest refl known.keeps.latest };
    }

-- or by one that was found
pub found-reached : (w v : WindowView) (c e : OutdatedView) (p number : ℕ) (values : List Bool) → 1 ≤ p → p ≤ length c.space.repository.packages
    → e.space ≡ c.space → number ≡ w.count + 1 → v ≡ record w { kept = keep_last REACH (w.kept ++ values ∷ []); count = w.count + 1 }
    → AreNoted c.space (length c.space.repository.packages) values (w.count + 1) c.latest e.latest
    → value_of values (variable_of c.space (Present (p - 1))) ≡ true → IsReached e v p number
found-reached w v c e p number values from upto space is window noted holds =
    let count : v.count ≡ w.count + 1 = ap (λ (x : WindowView). x.count) window in
    record {
      is = is ∙ sym (noted.each (p - 1) (omega (arith, from, upto))
          ∙ ap (λ (b : Bool). if b then w.count + 1 else slice_index c.latest (p - 1)) holds);
      from_one = omega (arith, is);
      recent = omega (arith, is, count);
    }

pub found-puts : (old new : DeskView) (a b : AskerView) (w v : WindowView) (c e : OutdatedView) (p number : ℕ) (values : List Bool) → IsSpace c.space
    → p < 2 ^ 32 → number < 2 ^ 32 → Suits a w p → FitsSpace c.space a.log.variables p
    → Holds a.log.variables (question_of c.space p) (replies.Found values) → e.space ≡ c.space → number ≡ w.count + 1
    → v ≡ record w { kept = keep_last REACH (w.kept ++ values ∷ []); count = w.count + 1 }
    → AreNoted c.space (length c.space.repository.packages) values (w.count + 1) c.latest e.latest
    → PutsBehind (MayClaimOn a w c p) (question_of c.space p) old new b (replies.Found values) v (KeptBy e) (Alive p number)
found-puts old new a b w v c e p number values is_space small small_number suits fits holds space is window noted g before known asked =
    let lines : List CertRecord = before ++ question_lines (question_of c.space p) asked.between asked.answer in
    let of : IsOfSpace kinds.Outdated e.space g = subst (λ (s : SpaceView). IsOfSpace kinds.Outdated s g) (sym space) known.keeps.of_space in
    let behind = asked-lines g before (question_of c.space p) old new b (replies.Found values) (true_variables values ∷ []) asked
    (ap installed_in asked.is_answer) in
    let inst = installed-after before (question_of c.space p) (true_variables values ∷ []) lines behind in
    let count = known.may.swept.window.count in
    let size : length values ≡ length c.space.meanings = holds.0 ∙ fits.variables_are in
    let latest : AreLatest e.space (installations lines) e.latest = subst (λ (s : SpaceView). AreLatest s (installations lines) e.latest) (sym space)
    (subst (λ (ms : List (List ℕ)). AreLatest c.space ms e.latest) (sym inst)
    (latest-more c.space (installations before) values (w.count + 1) c.latest e.latest is_space size (ap (λ (n : ℕ). n + 1) count)
    known.keeps.latest noted)) in
    let at : IsWindowAt lines v = subst (λ (x : WindowView). IsWindowAt lines x) (sym window)
    (window-more before lines (question_of c.space p) w values known.may.swept.window behind (holds.0 ∙ suits.variables)) in
    let reached = found-reached w v c e p number values suits.from_one fits.upto space is window noted
    (holds.1 0 (record { variable = variable_of c.space (Present (p - 1)); positive = true }) (lit< tt)) in
    record {
      window = at;
      line = alive-line g lines p number asked.at.log.not_ended small reached.from_one small_number
          (known.may.next ∙ ap (λ (n : ℕ). n + 1) (sym (count-after before (question_of c.space p) (true_variables values ∷ []) lines behind)))
          known.may.upto
          (subst (λ (k : CertKind). HoldsClaim (matter_in g) k lines (Alive p number)) (sym of.kind_is)
          (named-latest g lines v e p number of at latest suits.from_one
          (subst (λ (s : SpaceView). p ≤ length s.repository.packages) (sym space) fits.upto) reached));
      kept = record { of_space = of; latest = latest-again e.space lines (Alive p number) e.latest refl latest };
    }

-- ---- no installation

-- no installation came
latest-same : (s : SpaceView) (before lines : List CertRecord) (question : List Word) (latest : List ℕ) → AreAsked before question [] lines
    → AreLatest s (installations before) latest → AreLatest s (installations lines) latest
latest-same s before lines question latest asked are =
    subst (λ (ms : List (List ℕ)). AreLatest s ms latest)
    (sym (installed-after before question [] lines asked ∙ append-nil (installations before))) are

pub outdated-puts : (old new : DeskView) (a b : AskerView) (w : WindowView) (c : OutdatedView) (p : ℕ) → p < 2 ^ 32
    → PutsBehind (MayClaimOn a w c p) (question_of c.space p) old new b replies.Refuted w (KeptBy c) (Outdated p)
outdated-puts old new a b w c p small g before known asked =
    let lines : List CertRecord = before ++ question_lines (question_of c.space p) asked.between asked.answer in
    let of = known.keeps.of_space in
    let behind = asked-lines g before (question_of c.space p) old new b replies.Refuted [] asked (ap installed_in asked.is_answer.1) in
    record {
      window = window-same before lines (question_of c.space p) w known.may.swept.window behind;
      line = outdated-line g lines p asked.at.log.not_ended small
          (known.may.next ∙ ap (λ (n : ℕ). n + 1) (sym (count-after before (question_of c.space p) [] lines behind))) known.may.upto
          (subst (λ (k : CertKind). HoldsClaim (matter_in g) k lines (Outdated p)) (sym of.kind_is) (
            asked.is_answer.0,
            subst (λ (s : CertRecord). IsClosedBy (group lines) (yes ((matter_in g).present p) ∷ []) s) asked.is_answer.1
                (subst (λ (ws : List Word). IsClosedBy (group lines) ws asked.answer) (sym (claim-question g c.space p of))
                (closed-here before (question_of c.space p) [] lines behind)),
          ));
      kept = record {
        of_space = of;
        latest = latest-again c.space lines (Outdated p) c.latest refl
            (latest-same c.space before lines (question_of c.space p) c.latest behind known.keeps.latest);
      };
    }

pub unknown-puts : (old new : DeskView) (a b : AskerView) (w : WindowView) (c : OutdatedView) (p : ℕ) → length c.space.repository.packages < 2 ^ 32
    → PutsBehind (MayClaimOn a w c p) (question_of c.space p) old new b replies.Undecided w (KeptBy c) (Unknown p)
unknown-puts old new a b w c p small g before known asked =
    let lines : List CertRecord = before ++ question_lines (question_of c.space p) asked.between asked.answer in
    let of = known.keeps.of_space in
    let behind = asked-lines g before (question_of c.space p) old new b replies.Undecided [] asked (ap installed_in asked.is_answer) in
    record {
      window = window-same before lines (question_of c.space p) w known.may.swept.window behind;
      line = unknown-line g lines p asked.at.log.not_ended (let same = packages-are kinds.Outdated c.space g of in omega (arith, small, same))
          (known.may.next ∙ ap (λ (n : ℕ). n + 1) (sym (count-after before (question_of c.space p) [] lines behind))) known.may.upto
          (subst (λ (k : CertKind). HoldsClaim (matter_in g) k lines (Unknown p)) (sym of.kind_is)
          (subst (λ (s : CertRecord). IsClosedBy (group lines) (yes ((matter_in g).present p) ∷ []) s) asked.is_answer
          (subst (λ (ws : List Word). IsClosedBy (group lines) ws asked.answer) (sym (claim-question g c.space p of))
          (closed-here before (question_of c.space p) [] lines behind))));
      kept = record {
        of_space = of;
        latest = latest-again c.space lines (Unknown p) c.latest refl
            (latest-same c.space before lines (question_of c.space p) c.latest behind known.keeps.latest);
      };
    }
