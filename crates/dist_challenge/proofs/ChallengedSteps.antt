-- The claim on a challenged package, from its first question on.
use Rattle.std.proofs.Common.{◌≡◌, ◌⊎◌, ◌||◌, ⊎_elim, false, inl, inr, ℕ, ◌+◌, ◌-◌, ◌<◌, ◌≤◌, ◌^◌, Bool, true, List, [], ◌∷◌, ◌++◌, length, map}
use Rattle.std.proofs.Common.{refl, ap, sym, subst, ◌∙◌, append-nil, arith, length-append, lit<}
use Rattle.std.specs.List.{All, Any, Contains, list_any}
use Rattle.std.specs.Prelude.{slice_index}
use Rattle.std.proofs.lemmas.Bool.{cases_eq}
use Rattle.std.proofs.lemmas.List.Elements.{All-cons, All-nil, All-push, All-weaker}
use Rattle.circular_buffer.specs.Buffer.{keep_last}
use Rattle.dist_outside.specs.DeskView.{DeskView, FileGrew}
use Rattle.dist_outside.specs.declared.trouble.WorkError.{WorkError}
use Rattle.dist_cert.specs.declared.TheConstants.{REACH}
use Rattle.dist_cert.specs.declared.records.CertKind.{CertKind}
use Rattle.dist_cert.specs.declared.records.CertKind.TheVariants as kinds
use Rattle.dist_cert.specs.declared.records.CertRecord.{CertRecord}
use Rattle.dist_cert.specs.declared.records.CertRecord.TheVariants.{NotInstallable, Question, Refuted, Undecided, Unknown}
use Rattle.dist_cert.specs.declared.records.Claim.{Claim}
use Rattle.dist_cert.specs.ClaimRules.{Covers, HoldsClaim, IsCovered, yes}
use Rattle.dist_cert.specs.FileLines.{lines_text}
use Rattle.dist_cert.specs.Form.{Word}
use Rattle.dist_cert.specs.Groups.{claim_count, group, installation_at, installations, installed_in, is_claim, IsClosedBy, IsRefutedIn, IsUndecidedIn}
use Rattle.dist_cert.specs.Rising.{AreRising}
use Rattle.dist_cert.specs.Part.{IsQuestionOn}
use Rattle.dist_cert.specs.PartByRecordsLaws.{IsLine}
use Rattle.dist_space.specs.Space.{IsSpace, SpaceView, variable_of}
use Rattle.dist_space.specs.declared.meaning.Meaning.TheVariants.{Present}
use Rattle.dist_line_write.specs.Asking.{AskerView, IsOver, question_lines}
use Rattle.dist_line_write.specs.ScriptLaws.{TwiceLaw}
use Rattle.dist_line_write.specs.TrueOnesLaws.{true-ones}
use Rattle.dist_line_write.specs.Words.{true_variables}
use Rattle.dist_sweep.specs.Asking.{Holds, IsAsked}
use Rattle.dist_sweep.specs.Script.{Setting, matter_in}
use Rattle.dist_sweep.specs.ScriptLaws.{stops-after}
use Rattle.dist_sweep.specs.Claiming.{ClaimMore, ClaimStops, MayClaim, Suits}
use Rattle.dist_sweep.specs.ClaimLinesLaws.{IsClaimLine, claim-after, uninstallable-line, unknown-line, same-installed}
use Rattle.dist_sweep.specs.QuestionLinesLaws.{AreAsked, closed-after, closed-here, count-after, group-after, in-group-after, installed-after, questions-of}
use Rattle.dist_sweep.specs.Window.{WindowView}
use Rattle.dist_sweep.specs.WindowLaws.{window-same}
use Rattle.dist_sweep.specs.declared.asking.Reply.TheVariants as replies
use Rattle.dist_covering.specs.Covering.{CoveringView, IsAdded}
use Rattle.dist_covering.specs.Used.{AreUses}
use Rattle.dist_challenge.specs.ChallengedPrivate.{KeepsChallenged}
use Rattle.dist_challenge.specs.BegunPrivate.{BegunMore, BegunStops, IsBegun, IsBegunAt}
use Rattle.dist_covering.specs.Planning.{IsFirst, IsFound, IsStart, IsTakenUp}
use Rattle.dist_covering.specs.Group.{group_of, IsPlanned, GroupView, IsOrdered}
use Rattle.dist_challenge.specs.GroupPrivate.{ChallengeMore, ChallengeStops, CoversRest, EachAnswered, FitsBegun, FitsGroup, IsGroupAt}
use Rattle.dist_challenge.specs.GroupPrivate.{IsSettling, NoToday, SettleMore, SettleStops, challenged_line, together}
use Rattle.dist_covering.specs.OpenPairs.{HasStruck, IsKept, IsPairVariable, IsStriker, IsTodayWith}
use Rattle.dist_sweep.specs.Futures.{FitsSpace, IsOfSpace}
use Rattle.dist_covering.specs.Used.{pair_at}
use Rattle.dist_challenge.specs.GroupPrivate.{AreSmallPairs}
use Rattle.dist_sweep.specs.AskedLaws.{AskedFrom, asked-lines, asked-none, IsReady, Known, nothing-in, PutsBehind, PutsFrom, Stands}
use Rattle.dist_challenge.proofs.ChallengedLine.{challenged-kind, challenged-next, PairsLaw}
use Rattle.dist_challenge.proofs.CoveredPairs.{CoveredLaw, Kept, uses-same}
use Rattle.dist_space.specs.RisingLaws.{pairs-none}
use Rattle.dist_covering.specs.ListLaws.{all-members, among-members}
use Rattle.dist_challenge.proofs.GroupLines.{any-append-left}
use Rattle.dist_challenge.proofs.GroupSteps.{same-first}
use Rattle.dist_challenge.proofs.Planned.{IsNaming, own-more, own-there, own-which, planned-at, planned-fits, planned-rest, today-there}
use Rattle.dist_challenge.proofs.SettleSteps.{added-kept, before-kept, later-present, latest-is, latest-kept, two-over}
use Rattle.dist_sweep.specs.FuturesLaws.{packages-are, present-in, present-is}

-- the claim on package p may come next
pub record MayChallenge (a : AskerView) (w : WindowView) (c : CoveringView) (p : ℕ) (g : Setting) (before : List CertRecord) : Type 0 where
  pub may : MayClaim g before a w p
  pub keeps : KeepsChallenged g before c

abbrev pub KeptBy : CoveringView → Known
KeptBy c = λ g lines. KeepsChallenged g lines c

pub may-stand : (a : AskerView) (w : WindowView) (c : CoveringView) (p : ℕ) → Stands (MayChallenge a w c p) a
may-stand a w c p g before known = known.may.swept.at

-- the claim was begun with a group
abbrev pub Begun : AskerView → WindowView → CoveringView → GroupView → ℕ → Known
Begun a w c group_is earlier = λ g before. IsBegun g before a w c group_is earlier

pub begun-stand : (a : AskerView) (w : WindowView) (c : CoveringView) (group_is : GroupView) (earlier : ℕ) → Stands (Begun a w c group_is earlier) a
begun-stand a w c group_is earlier g before known = known.at

-- ---- the claim of a group

-- the group with the pairs that were asked for in their order
ordered-rest : (g : Setting) (before : List CertRecord) (s : SpaceView) (group_is h : GroupView) → IsOrdered group_is h → CoversRest g before s group_is
    → CoversRest g before s h
ordered-rest g before s group_is h ordered rest =
    subst (λ (x : GroupView). CoversRest g before s x) (sym ordered.is)
    (λ at v not_left not_refuted not_undecided. rest at v not_left
    (λ there. not_refuted (among-members group_is.refuted h.refuted (λ q. sym (ordered.refuted.same q)) at there))
    (λ there. not_undecided (among-members group_is.undecided h.undecided (λ q. sym (ordered.undecided.same q)) at there)))

ordered-at : (g : Setting) (before : List CertRecord) (s : SpaceView) (group_is h : GroupView) → IsOrdered group_is h → IsGroupAt g before s group_is
    → IsGroupAt g before s h
ordered-at g before s group_is h ordered kept =
    subst (λ (x : GroupView). IsGroupAt g before s x) (sym ordered.is) (record {
      claimed = kept.claimed;
      upto = kept.upto;
      present = kept.present;
      each = kept.each;
      some = kept.some;
      names = kept.names;
      distinct = kept.distinct;
      today = kept.today;
      few = kept.few;
      falling = kept.falling;
      apart = all-members (λ at. ¬ Contains h.undecided at) h.refuted group_is.refuted ordered.refuted.same
          (All-weaker (λ at. ¬ Contains group_is.undecided at) (λ at. ¬ Contains h.undecided at)
          (λ at none there. none (among-members h.undecided group_is.undecided ordered.undecided.same at there)) group_is.refuted kept.apart);
      left_apart = All-weaker (λ at. (¬ Contains group_is.refuted at) × (¬ Contains group_is.undecided at))
          (λ at. (¬ Contains h.refuted at) × (¬ Contains h.undecided at))
          (λ at none. (
            (λ there. none.0 (among-members h.refuted group_is.refuted ordered.refuted.same at there)),
            λ there. none.1 (among-members h.undecided group_is.undecided ordered.undecided.same at there),
          )) group_is.left kept.left_apart;
      pairs = (
        kept.pairs.0,
        all-members (IsPairVariable s (slice_index s.cluster_of (group_is.claimed - 1))) h.refuted group_is.refuted ordered.refuted.same kept.pairs.1,
        all-members (IsPairVariable s (slice_index s.cluster_of (group_is.claimed - 1))) h.undecided group_is.undecided ordered.undecided.same kept.pairs.2,
      );
      are_refuted = all-members (λ at. IsRefutedIn (group before) (together group_is.present at)) h.refuted group_is.refuted ordered.refuted.same
          kept.are_refuted;
      are_undecided = all-members (λ at. IsUndecidedIn (group before) (together group_is.present at)) h.undecided group_is.undecided
          ordered.undecided.same kept.are_undecided;
      uncovered = (
        kept.uncovered.0,
        all-members (λ at. ¬ IsCovered (matter_in g) before group_is.claimed group_is.named (pair_at s at)) h.undecided group_is.undecided
            ordered.undecided.same kept.uncovered.1,
      );
      asked = kept.asked;
    })

ordered-settling : (a : AskerView) (w : WindowView) (c : CoveringView) (group_is h : GroupView) → IsOrdered group_is h → (g : Setting)
    (before : List CertRecord) → IsSettling g before a w c group_is → IsSettling g before a w c h
ordered-settling a w c group_is h ordered g before settling = record {
  keeps = settling.keeps;
  at = settling.at;
  window = settling.window;
  group_at = ordered-at g before c.space group_is h ordered settling.group_at;
}

pub ordered-fits : (a : AskerView) (w : WindowView) (c : CoveringView) (group_is h : GroupView) → IsOrdered group_is h → FitsGroup a w c group_is
    → FitsGroup a w c h
ordered-fits a w c group_is h ordered fits =
    subst (λ (x : GroupView). FitsGroup a w c x) (sym ordered.is) (record {
      begun = record {
        limit = fits.begun.limit;
        variables = fits.begun.variables;
        window = fits.begun.window;
        from_one = fits.begun.from_one;
        upto = fits.begun.upto;
        present = fits.begun.present;
        refuted = all-members (IsPairVariable c.space (slice_index c.space.cluster_of (group_is.claimed - 1))) h.refuted group_is.refuted
            ordered.refuted.same fits.begun.refuted;
        undecided = all-members (IsPairVariable c.space (slice_index c.space.cluster_of (group_is.claimed - 1))) h.undecided group_is.undecided
            ordered.undecided.same fits.begun.undecided;
      };
      named = fits.named;
      some = fits.some;
      left = fits.left;
    })

pub group-claimed : (old mid new : DeskView) (a b d : AskerView) (w v u : WindowView) (c e f : CoveringView) (one two three : GroupView) (claim : Claim)
    → TwiceLaw → SettleMore old mid a b w v c e one two → IsOrdered two three → ChallengeMore mid new b d v u e f three claim
    → ChallengeMore old new a d w u c f one claim
group-claimed old mid new a b d w v u c e f one two three claim twice settles ordered claims g before at rest =
    let x = settles g before at in
    claim-after twice g before x.added old mid new d u (λ lines. KeepsChallenged g lines f) claim x.grew x.no_claims
    (claims g (before ++ x.added) (ordered-settling b v e two three ordered g (before ++ x.added) x.settling)
    (ordered-rest g (before ++ x.added) e.space two three ordered (x.rest rest)))

pub group-stops : (old mid new : DeskView) (a b : AskerView) (w v : WindowView) (c e : CoveringView) (one two three : GroupView) (error : WorkError)
    → TwiceLaw → SettleMore old mid a b w v c e one two → IsOrdered two three → ChallengeStops mid new b v e three error
    → ChallengeStops old new a w c one error
group-stops old mid new a b w v c e one two three error twice settles ordered stops g before at rest =
    let x = settles g before at in
    stops-after twice g before x.added old mid new error x.grew
    (stops g (before ++ x.added) (ordered-settling b v e two three ordered g (before ++ x.added) x.settling)
    (ordered-rest g (before ++ x.added) e.space two three ordered (x.rest rest)))

-- ---- the claim before its first question

-- what is given to a claim that is begun
pub fresh-fits : (a : AskerView) (w : WindowView) (c : CoveringView) (p present : ℕ) → Suits a w p → FitsSpace c.space a.log.variables p
    → present ≡ variable_of c.space (Present (p - 1)) → FitsBegun a w c (group_of p present)
fresh-fits a w c p present suits fits is = record {
  limit = suits.limit;
  variables = fits.variables_are;
  window = sym suits.variables ∙ fits.variables_are;
  from_one = suits.from_one;
  upto = fits.upto;
  present = is;
  refuted = All-nil (IsPairVariable c.space (slice_index c.space.cluster_of (p - 1)));
  undecided = All-nil (IsPairVariable c.space (slice_index c.space.cluster_of (p - 1)));
}

pub fresh-begun : (a : AskerView) (w : WindowView) (c : CoveringView) (p present : ℕ) → p ≤ length c.space.repository.packages
    → present ≡ variable_of c.space (Present (p - 1)) → (g : Setting) (before : List CertRecord) → MayClaim g before a w p → KeepsChallenged g before c
    → IsBegun g before a w c (group_of p present) w.count
fresh-begun a w c p present upto is g before may keeps = record {
  keeps = keeps;
  at = may.swept.at;
  window = may.swept.window;
  begun_at = record {
    claimed = may.next;
    upto = upto;
    present = is;
    own = (
        let none = ap (λ (ls : List CertRecord). length (installations ls)) may.swept.no_group in
        let count = may.swept.window.count in
        omega (arith, none, count)
        );
    each = subst (λ (ls : List CertRecord). All (λ members. Contains members present) (installations ls)) (sym may.swept.no_group)
        (All-nil (λ members. Contains members present));
    apart = All-nil (λ at. ¬ Contains [] at);
    pairs = (
      All-nil (IsPairVariable c.space (slice_index c.space.cluster_of (p - 1))),
      All-nil (IsPairVariable c.space (slice_index c.space.cluster_of (p - 1))),
    );
    are_refuted = All-nil (λ at. IsRefutedIn (group before) (together present at));
    are_undecided = All-nil (λ at. IsUndecidedIn (group before) (together present at));
    answered = λ at there. absurd (none-asked (together present at) there);
  };
  no_today = none-asked (together 1 present);
}
  where
    none-asked : (question : List Word) → ¬ Contains (group before) (Question question)
    none-asked question there = nothing-in (Question question)
        (subst (λ (ls : List CertRecord). Contains ls (Question question)) may.swept.no_group there)

-- what the lines hold, as it is kept
begun-kept : (a : AskerView) (w : WindowView) (c : CoveringView) (was : GroupView) (earlier : ℕ) → IsSpace c.space → FitsBegun a w c was → (g : Setting)
    (before : List CertRecord) → IsBegun g before a w c was earlier → Kept g before w c
begun-kept a w c was earlier space fits g before begun = record {
  of_space = begun.keeps.of_space;
  space = space;
  window = begun.window;
  variables = fits.window;
  uses = begun.keeps.uses;
}

pub present-from : (a : AskerView) (w : WindowView) (c : CoveringView) (was : GroupView) → IsSpace c.space → FitsBegun a w c was → 1 ≤ was.present
present-from a w c was space fits =
    let range = present-in c.space (was.claimed - 1) space (omega (arith, fits.from_one, fits.upto)) in
    let is = fits.present in
    omega (arith, range.from_one, is)

pub present-upto : (a : AskerView) (w : WindowView) (c : CoveringView) (was : GroupView) → IsSpace c.space → FitsBegun a w c was
    → was.present ≤ length c.space.meanings
present-upto a w c was space fits =
    let range = present-in c.space (was.claimed - 1) space (omega (arith, fits.from_one, fits.upto)) in
    let is = fits.present in
    omega (arith, range.upto, is)

-- ---- by a known installation of today

-- the one to start with is of today, or the only one of the group
abbrev pub StartsBy : WindowView → (earlier today start : ℕ) → Type 0
StartsBy w earlier today start = ((start ≡ today) ⊎ (earlier < start)) × (((n : ℕ) → earlier < n → n ≤ w.count → n ≡ start))

module _ (law : CoveredLaw) (a : AskerView) (w : WindowView) (c : CoveringView) (was h : GroupView) (earlier today start : ℕ) (space : IsSpace c.space)
    (fits : FitsBegun a w c was) (with_today : IsTodayWith w was.present today) (kept_start : IsKept w start) (starts : StartsBy w earlier today start)
    (taken : IsTakenUp c w was h today start) where
  taken-naming : (g : Setting) (before : List CertRecord) → IsBegun g before a w c was earlier
      → IsNaming before w today (length taken.open_still) (start ∷ today ∷ []) (today ∷ [])
  taken-naming g before begun = record {
    kept = All-cons (IsKept w) start (today ∷ []) kept_start (All-cons (IsKept w) today [] with_today.kept (All-nil (IsKept w)));
    today_fixed = (1, omega arith, refl);
    tail_is = inr refl;
    lasts = inr taken.lasts;
    counted = All-cons (λ n. Contains (today ∷ []) n ⊎ Contains (installations (group before)) (installation_at before n)) start (today ∷ [])
        (⊎_elim (λ same. inl (0, omega arith, sym same))
        (λ later. inr (own-there before earlier start begun.begun_at.own later (let count = begun.window.count in omega (arith, kept_start.high, count))))
        starts.0)
        (All-cons (λ n. Contains (today ∷ []) n ⊎ Contains (installations (group before)) (installation_at before n)) today [] (inl (0, omega arith, refl))
        (All-nil (λ n. Contains (today ∷ []) n ⊎ Contains (installations (group before)) (installation_at before n))));
    owned = own-which before earlier (start ∷ today ∷ []) begun.begun_at.own
        (λ n low high. (0, omega arith, sym (starts.1 n low (let count = begun.window.count in omega (arith, high, count)))));
    latest = λ none. absurd (omega (arith, none));
  }

  taken-upto : was.present ≤ w.variables
  taken-upto = let upto = present-upto a w c was space fits in let all = fits.window in omega (arith, upto, all)

  taken-there : (g : Setting) (before : List CertRecord) → IsBegun g before a w c was earlier
      → Contains (installation_at before today) was.present × Contains (installation_at before today) 1
  taken-there g before begun = today-there g before w c was.present today (begun-kept a w c was earlier space fits g before begun) with_today
      (present-from a w c was space fits) taken-upto

  taken-settling : (g : Setting) (before : List CertRecord) → IsBegun g before a w c was earlier → IsSettling g before a w c h
  taken-settling g before begun = record {
    keeps = begun.keeps;
    at = begun.at;
    window = begun.window;
    group_at = planned-at law g before w c (begun-kept a w c was earlier space fits g before begun) was h earlier today taken.strikers (today ∷ [])
        (start ∷ today ∷ []) taken.open_still begun.begun_at taken.planned (taken-naming g before begun) with_today.kept
        (taken-there g before begun).0 (taken-there g before begun).1 (present-from a w c was space fits) taken-upto taken.plan.falling taken.plan.strikers
        taken.plan.struck
        taken.plan.are_open.falling taken.plan.are_open.pairs taken.plan.are_open.open_still;
  }

  taken-rest : (g : Setting) (before : List CertRecord) → IsBegun g before a w c was earlier → CoversRest g before c.space h
  taken-rest g before begun =
      planned-rest law g before w c (begun-kept a w c was earlier space fits g before begun) was h earlier today taken.strikers (today ∷ [])
      (start ∷ today ∷ []) taken.open_still begun.begun_at taken.planned (taken-naming g before begun) with_today.kept
      (taken-there g before begun).0 (taken-there g before begun).1 (present-from a w c was space fits) taken-upto taken.plan.falling taken.plan.strikers
      taken.plan.struck
      taken.plan.are_open.falling taken.plan.are_open.pairs taken.plan.are_open.open_still taken.plan.are_open.all

  pub taken-claimed : (old new : DeskView) (b : AskerView) (v : WindowView) (d : CoveringView) (claim : Claim)
      → ChallengeMore old new a b w v c d h claim → BegunMore old new a b w v c d was earlier claim
  taken-claimed old new b v d claim claims g before begun = claims g before (taken-settling g before begun) (taken-rest g before begun)

  pub taken-stops : (old new : DeskView) (error : WorkError) → ChallengeStops old new a w c h error → BegunStops old new a w c was earlier error
  taken-stops old new error stops g before begun = stops g before (taken-settling g before begun) (taken-rest g before begun)

  pub taken-fits : 1 ≤ w.count → 1 ≤ today → FitsGroup a w c h
  taken-fits some from = planned-fits a w c was h today taken.strikers (today ∷ []) taken.open_still fits taken.planned some from (inr refl)
      taken.plan.strikers taken.plan.are_open.pairs

-- a claim on the next package is one that was begun
pub begun-claimed : (old new : DeskView) (a b : AskerView) (w v : WindowView) (c d : CoveringView) (p present : ℕ) (claim : Claim)
    → p ≤ length c.space.repository.packages → present ≡ variable_of c.space (Present (p - 1))
    → BegunMore old new a b w v c d (group_of p present) w.count claim → ClaimMore KeepsChallenged p old new a b w v c d claim
begun-claimed old new a b w v c d p present claim upto is claims g before may keeps =
    claims g before (fresh-begun a w c p present upto is g before may keeps)

pub begun-stops : (old new : DeskView) (a : AskerView) (w : WindowView) (c : CoveringView) (p present : ℕ) (error : WorkError)
    → p ≤ length c.space.repository.packages → present ≡ variable_of c.space (Present (p - 1))
    → BegunStops old new a w c (group_of p present) w.count error → ClaimStops KeepsChallenged p old new a w c error
begun-stops old new a w c p present error upto is stops g before may keeps = stops g before (fresh-begun a w c p present upto is g before may keeps)

-- ---- the first pairs that it leaves open

module _ (law : CoveredLaw) (a : AskerView) (w : WindowView) (c : CoveringView) (p present : ℕ) (h : GroupView) (today : ℕ) (space : IsSpace c.space)
    (suits : Suits a w p) (fits : FitsSpace c.space a.log.variables p) (is : present ≡ variable_of c.space (Present (p - 1)))
    (with_today : IsTodayWith w present today) (first : IsFirst c w (group_of p present) h today) where
  begun-fits : FitsBegun a w c (group_of p present)
  begun-fits = fresh-fits a w c p present suits fits is

  pub first-settling : (g : Setting) (before : List CertRecord) → MayClaim g before a w p → KeepsChallenged g before c → IsSettling g before a w c h
  first-settling g before may keeps =
      let begun = fresh-begun a w c p present fits.upto is g before may keeps in
      let from-first = present-from a w c (group_of p present) space begun-fits in
      let upto-first : present ≤ w.variables =
      (let upto = present-upto a w c (group_of p present) space begun-fits in let all = begun-fits.window in omega (arith, upto, all)) in
      let there = today-there g before w c present today (begun-kept a w c (group_of p present) w.count space begun-fits g before begun) with_today
      from-first upto-first in
      record {
        keeps = keeps;
        at = begun.at;
        window = begun.window;
        group_at = planned-at law g before w c (begun-kept a w c (group_of p present) w.count space begun-fits g before begun) (group_of p present) h w.count
            today [] (today ∷ []) (today ∷ []) first.open_still begun.begun_at first.planned
            (record {
              kept = All-cons (IsKept w) today [] with_today.kept (All-nil (IsKept w));
              today_fixed = (0, omega arith, refl);
              tail_is = inr refl;
              lasts = inr first.lasts;
              counted = All-cons (λ n. Contains (today ∷ []) n ⊎ Contains (installations (group before)) (installation_at before n)) today []
                  (inl (0, omega arith, refl))
                  (All-nil (λ n. Contains (today ∷ []) n ⊎ Contains (installations (group before)) (installation_at before n)));
              owned = own-which before w.count (today ∷ []) begun.begun_at.own
                  (λ n low high. absurd (let count = begun.window.count in omega (arith, low, high, count)));
              latest = λ none. absurd (omega (arith, none));
            }) with_today.kept there.0 there.1 from-first upto-first
            (pairs-none (λ m n. n < m)) (All-nil (IsStriker w present today (length first.open_still) 0))
            (All-nil (HasStruck c w (slice_index c.space.cluster_of (p - 1)) today []))
            first.gathered.falling first.gathered.pairs
            (λ k d within. ap (λ (b : Bool). b || false) (first.gathered.open_still k d within));
      }

  -- nothing was asked for yet
  pub first-answered : (g : Setting) (before : List CertRecord) → MayClaim g before a w p → KeepsChallenged g before c
      → EachAnswered g before c.space h × NoToday before h
  first-answered g before may keeps =
      subst (λ (x : GroupView). EachAnswered g before c.space x × NoToday before x) (sym first.planned.is) (
        (λ at there. absurd (none-asked (together present at) there)),
        none-asked (together 1 present),
      )
    where
      none-asked : (question : List Word) → ¬ Contains (group before) (Question question)
      none-asked question there = nothing-in (Question question)
          (subst (λ (ls : List CertRecord). Contains ls (Question question)) may.swept.no_group there)

  pub first-fits : 1 ≤ w.count → 1 ≤ today → FitsGroup a w c h
  first-fits some from = planned-fits a w c (group_of p present) h today [] (today ∷ []) first.open_still begun-fits first.planned some from (inr refl)
      (All-nil (IsStriker w present today (length first.open_still) 0)) first.gathered.pairs

  -- what is known behind the questions for them
  pub first-begun : (old new : DeskView) (b : AskerView) (v : WindowView) (d : CoveringView) (two : GroupView) → SettleMore old new a b w v c d h two
      → (g : Setting) (before : List CertRecord) → MayClaim g before a w p → KeepsChallenged g before c
      → (added : List CertRecord) × FileGrew (lines_text added) old new × (list_any is_claim added ≡ false)
      × IsBegun g (before ++ added) b v d two w.count
  first-begun old new b v d two settles g before may keeps =
      let x = settles g before (first-settling g before may keeps) in
      let answered = first-answered g before may keeps in
      let begun = fresh-begun a w c p present fits.upto is g before may keeps in
      let kept = x.settling.group_at in (
        x.added,
        x.grew,
        x.no_claims,
        record {
          keeps = x.settling.keeps;
          at = x.settling.at;
          window = x.settling.window;
          begun_at = record {
            claimed = kept.claimed;
            upto = kept.upto;
            present = kept.present;
            own = own-more before x.added w.count x.no_claims begun.begun_at.own;
            each = kept.each;
            apart = kept.apart;
            pairs = (kept.pairs.1, kept.pairs.2);
            are_refuted = kept.are_refuted;
            are_undecided = kept.are_undecided;
            answered = x.answered answered.0;
          };
          no_today = x.no_today answered.1;
        },
      )

  pub first-claimed : (old mid new : DeskView) (b f : AskerView) (v u : WindowView) (d e : CoveringView) (two : GroupView) (claim : Claim) → TwiceLaw
      → SettleMore old mid a b w v c d h two → BegunMore mid new b f v u d e two w.count claim → ClaimMore KeepsChallenged p old new a f w u c e claim
  first-claimed old mid new b f v u d e two claim twice settles claims g before may keeps =
      let x = first-begun old mid b v d two settles g before may keeps in
      claim-after twice g before x.0 old mid new f u (λ lines. KeepsChallenged g lines e) claim x.1 x.2 (claims g (before ++ x.0) x.3)

  pub first-stops : (old mid new : DeskView) (b : AskerView) (v : WindowView) (d : CoveringView) (two : GroupView) (error : WorkError) → TwiceLaw
      → SettleMore old mid a b w v c d h two → BegunStops mid new b v d two w.count error → ClaimStops KeepsChallenged p old new a w c error
  first-stops old mid new b v d two error twice settles stops g before may keeps =
      let x = first-begun old mid b v d two settles g before may keeps in
      stops-after twice g before x.0 old mid new error x.1 (stops g (before ++ x.0) x.3)

  pub asked-stops : (old new : DeskView) (error : WorkError) → SettleStops old new a w c h error → ClaimStops KeepsChallenged p old new a w c error
  asked-stops old new error stops g before may keeps = stops g before (first-settling g before may keeps)

-- ---- the question of today

abbrev pub today-question : ℕ → List Word
today-question present = yes 1 ∷ yes present ∷ []

pub today-over : (a : AskerView) (w : WindowView) (c : CoveringView) (was : GroupView) → IsSpace c.space → FitsBegun a w c was
    → IsOver a.log.variables (today-question was.present)
today-over a w c was space fits =
    let all = fits.variables in
    let from = present-from a w c was space fits in
    let upto = present-upto a w c was space fits in
    two-over a.log.variables 1 was.present (omega arith) (omega (arith, from, upto, all)) from (omega (arith, upto, all))
    (λ same. later-present a w c was space fits (sym same))

-- the question of the package is that of its claim
claim-question : (g : Setting) (s : SpaceView) (p present : ℕ) → IsOfSpace kinds.Challenged s g → present ≡ variable_of s (Present (p - 1))
    → yes 1 ∷ yes ((matter_in g).present p) ∷ [] ≡ today-question present
claim-question g s p present of is = ap (λ (n : ℕ). yes 1 ∷ yes n ∷ []) (present-is kinds.Challenged s g of p ∙ sym is)

pub today-ready : (a : AskerView) (w : WindowView) (c : CoveringView) (was : GroupView) (earlier : ℕ)
    → IsReady (Begun a w c was earlier) a (today-question was.present)
today-ready a w c was earlier = record {
  at = begun-stand a w c was earlier;
  next = λ g before known.
      let of = known.keeps.of_space in
      let begun = known.begun_at in
      let next = begun.claimed in
      let packages = packages-are kinds.Challenged c.space g of in
      record {
        claim_left = omega (arith, next, begun.upto, packages);
        on_next = subst (λ (k : CertKind). IsQuestionOn (matter_in g) k (claim_count before + 1) (today-question was.present)) (sym of.kind_is)
            (inl (sym (claim-question g c.space was.claimed was.present of begun.present)
            ∙ ap (λ (q : ℕ). yes 1 ∷ yes ((matter_in g).present q) ∷ []) next));
        not_twice = known.no_today;
      };
}

-- ---- no installation

uses-again : (s : SpaceView) (before lines : List CertRecord) (question : List Word) (step : CertRecord) (uses : List (List ℕ))
    → AreAsked before question [] lines → installed_in step ≡ [] → AreUses s (keep_last REACH (installations before)) uses
    → AreUses s (keep_last REACH (installations (lines ++ step ∷ []))) uses
uses-again s before lines question step uses behind none are =
    uses-same s (installations before) (installations (lines ++ step ∷ [])) uses
    (same-installed lines step none ∙ installed-after before question [] lines behind ∙ append-nil (installations before)) are

pub uninstallable-puts : (old new : DeskView) (a b : AskerView) (w : WindowView) (c : CoveringView) (was : GroupView) (earlier : ℕ)
    → length c.space.repository.packages < 2 ^ 32
    → PutsBehind (Begun a w c was earlier) (today-question was.present) old new b replies.Refuted w (KeptBy c) (NotInstallable was.claimed)
uninstallable-puts old new a b w c was earlier small g before known asked =
    let lines : List CertRecord = before ++ question_lines (today-question was.present) asked.between asked.answer in
    let of = known.keeps.of_space in
    let behind = asked-lines g before (today-question was.present) old new b replies.Refuted [] asked (ap installed_in asked.is_answer.1) in
    record {
      window = window-same before lines (today-question was.present) w known.window behind;
      line = uninstallable-line g lines was.claimed asked.at.log.not_ended (let same = packages-are kinds.Challenged c.space g of in omega (arith, small, same))
          (known.begun_at.claimed ∙ ap (λ (n : ℕ). n + 1) (sym (count-after before (today-question was.present) [] lines behind))) (let same = packages-are
          kinds.Challenged c.space g of in omega
          (arith, known.begun_at.upto, same))
          (subst (λ (k : CertKind). HoldsClaim (matter_in g) k lines (NotInstallable was.claimed)) (sym of.kind_is) (
            asked.is_answer.0,
            subst (λ (s : CertRecord). IsClosedBy (group lines) (yes 1 ∷ yes ((matter_in g).present was.claimed) ∷ []) s) asked.is_answer.1
                (subst (λ (ws : List Word). IsClosedBy (group lines) ws asked.answer) (sym (claim-question g c.space was.claimed was.present of
                known.begun_at.present))
                (closed-here before (today-question was.present) [] lines behind)),
          ));
      kept = record {
        of_space = of;
        uses = uses-again c.space before lines (today-question was.present) (NotInstallable was.claimed) c.uses behind refl
            known.keeps.uses;
      };
    }

pub unknown-puts : (old new : DeskView) (a b : AskerView) (w : WindowView) (c : CoveringView) (was : GroupView) (earlier : ℕ)
    → length c.space.repository.packages < 2 ^ 32
    → PutsBehind (Begun a w c was earlier) (today-question was.present) old new b replies.Undecided w (KeptBy c) (Unknown was.claimed)
unknown-puts old new a b w c was earlier small g before known asked =
    let lines : List CertRecord = before ++ question_lines (today-question was.present) asked.between asked.answer in
    let of = known.keeps.of_space in
    let behind = asked-lines g before (today-question was.present) old new b replies.Undecided [] asked (ap installed_in asked.is_answer) in
    record {
      window = window-same before lines (today-question was.present) w known.window behind;
      line = unknown-line g lines was.claimed asked.at.log.not_ended (let same = packages-are kinds.Challenged c.space g of in omega (arith, small, same))
          (known.begun_at.claimed ∙ ap (λ (n : ℕ). n + 1) (sym (count-after before (today-question was.present) [] lines behind))) (let same = packages-are
          kinds.Challenged c.space g of in omega
          (arith, known.begun_at.upto, same))
          (subst (λ (k : CertKind). HoldsClaim (matter_in g) k lines (Unknown was.claimed)) (sym of.kind_is)
          (subst (λ (s : CertRecord). IsClosedBy (group lines) (yes 1 ∷ yes ((matter_in g).present was.claimed) ∷ []) s) asked.is_answer
          (subst (λ (ws : List Word). IsClosedBy (group lines) ws asked.answer) (sym (claim-question g c.space was.claimed was.present of
          known.begun_at.present))
          (closed-here before (today-question was.present) [] lines behind))));
      kept = record {
        of_space = of;
        uses = uses-again c.space before lines (today-question was.present) (Unknown was.claimed) c.uses behind refl
            known.keeps.uses;
      };
    }

-- ---- an installation of today came

module _ (law : CoveredLaw) (a b : AskerView) (w v : WindowView) (c d : CoveringView) (was h : GroupView) (earlier : ℕ) (values : List Bool)
    (space : IsSpace c.space) (fits : FitsBegun a w c was) (few : w.count ≤ earlier + 1) (low : earlier ≤ w.count)
    (was_kept : earlier < w.count → IsKept w w.count)
    (holds : Holds a.log.variables (today-question was.present) (replies.Found values)) (added : IsAdded c d w v values)
    (found : IsFound d v was h earlier) where
  abbrev e : CoveringView
  e = record c { uses = keep_last REACH (c.uses ++ added.used ∷ []) }

  size : length values ≡ length c.space.meanings
  size = holds.0 ∙ fits.variables

  by : IsFound e v was h earlier
  by = subst (λ (x : CoveringView). IsFound x v was h earlier) added.is found

  count : v.count ≡ w.count + 1
  count = ap (λ (x : WindowView). x.count) added.window

  window : v.variables ≡ w.variables
  window = ap (λ (x : WindowView). x.variables) added.window

  from : 1 ≤ was.present
  from = present-from a w c was space fits

  upto : was.present ≤ length values
  upto = let range = present-upto a w c was space fits in let all = size in omega (arith, range, all)

  has : Contains (true_variables values) was.present
  has = (true-ones values was.present from upto).1 (holds.1 1 (record { variable = was.present; positive = true }) (lit< tt))

  now : Contains (true_variables values) 1
  now = (true-ones values 1 (omega arith) (omega (arith, from, upto))).1 (holds.1 0 (record { variable = 1; positive = true }) (lit< tt))

  found-kept : (old new : DeskView) (g : Setting) (before : List CertRecord) → IsBegun g before a w c was earlier
      → (asked : IsAsked g before (today-question was.present) old new b (replies.Found values))
      → Kept g (before ++ question_lines (today-question was.present) asked.between asked.answer) v e
  found-kept old new g before begun asked =
      added-kept g before (before ++ question_lines (today-question was.present) asked.between asked.answer) (today-question was.present) w v c values
      added.used begun.keeps.of_space space begun.window fits.window begun.keeps.uses
      (asked-lines g before (today-question was.present) old new b (replies.Found values) (true_variables values ∷ []) asked (ap installed_in asked.is_answer))
      size added.are_used added.window

  found-begun : (old new : DeskView) (g : Setting) (before : List CertRecord) → IsBegun g before a w c was earlier
      → (asked : IsAsked g before (today-question was.present) old new b (replies.Found values))
      → IsBegunAt g (before ++ question_lines (today-question was.present) asked.between asked.answer) c.space was earlier
  found-begun old new g before known asked =
      let begun = known.begun_at in
      let lines : List CertRecord = before ++ question_lines (today-question was.present) asked.between asked.answer in
      let behind = asked-lines g before (today-question was.present) old new b (replies.Found values) (true_variables values ∷ []) asked
      (ap installed_in asked.is_answer) in
      let own = in-group-after before (today-question was.present) (true_variables values ∷ []) lines behind in
      let all = installed-after before (today-question was.present) (true_variables values ∷ []) lines behind in
      record {
        claimed = begun.claimed ∙ ap (λ (n : ℕ). n + 1) (sym (count-after before (today-question was.present) (true_variables values ∷ []) lines behind));
        upto = begun.upto;
        present = begun.present;
        own = (
            let one = ap length own in
            let two = ap length all in
            let long = length-append (installations (group before)) (true_variables values ∷ []) in
            let longer = length-append (installations before) (true_variables values ∷ []) in
            let was_own = begun.own in
            omega (arith, one, two, long, longer, was_own)
            );
        each = subst (λ (ms : List (List ℕ)). All (λ m. Contains m was.present) ms) (sym own)
            (All-push (λ m. Contains m was.present) (installations (group before)) (true_variables values) begun.each has);
        apart = begun.apart;
        pairs = begun.pairs;
        are_refuted = All-weaker (λ at. IsRefutedIn (group before) (together was.present at)) (λ at. IsRefutedIn (group lines) (together was.present at))
            (λ at closed. (
              closed.0,
              closed-after before (today-question was.present) (true_variables values ∷ []) lines (together was.present at) (Refuted closed.0) behind closed.1,
            )) was.refuted begun.are_refuted;
        are_undecided = All-weaker (λ at. IsUndecidedIn (group before) (together was.present at)) (λ at. IsUndecidedIn (group lines) (together was.present at))
            (λ at closed. closed-after before (today-question was.present) (true_variables values ∷ []) lines (together was.present at) Undecided behind closed)
            was.undecided begun.are_undecided;
        answered = λ at there. ⊎_elim
            (λ old_one. ⊎_elim (λ refuted. inl refuted) (λ more. inr (⊎_elim (λ undecided. inl undecided)
            (λ covers. inr (subst (λ (ms : List (List ℕ)). Any (Covers (matter_in g) (pair_at c.space at)) ms) (sym own)
            (any-append-left (Covers (matter_in g) (pair_at c.space at)) (installations (group before)) (true_variables values ∷ []) covers))) more))
            (begun.answered at old_one))
            (λ same. absurd (later-present a w c was space fits (sym (same-first 1 was.present was.present at same))))
            (questions-of (group before) behind.between (today-question was.present) (together was.present at) behind.answer behind.only_derived
            behind.answer_line
            (subst (λ (ls : List CertRecord). Contains ls (Question (together was.present at)))
            (group-after before (today-question was.present) (true_variables values ∷ []) lines behind) there));
      }

  found-there : (old new : DeskView) (g : Setting) (before : List CertRecord) → IsBegun g before a w c was earlier
      → (asked : IsAsked g before (today-question was.present) old new b (replies.Found values))
      → installation_at (before ++ question_lines (today-question was.present) asked.between asked.answer) v.count ≡ true_variables values
  found-there old new g before begun asked =
      latest-is before (before ++ question_lines (today-question was.present) asked.between asked.answer) (today-question was.present) (true_variables values)
      v.count
      (asked-lines g before (today-question was.present) old new b (replies.Found values) (true_variables values ∷ []) asked (ap installed_in asked.is_answer))
      (count ∙ ap (λ (n : ℕ). n + 1) begun.window.count)

  found-naming : (old new : DeskView) (g : Setting) (before : List CertRecord) (begun : IsBegun g before a w c was earlier)
      → (asked : IsAsked g before (today-question was.present) old new b (replies.Found values))
      → IsNaming (before ++ question_lines (today-question was.present) asked.between asked.answer) v v.count (length by.open_still)
      (by.start ∷ v.count ∷ []) []
  found-naming old new g before begun asked =
      let lines : List CertRecord = before ++ question_lines (today-question was.present) asked.between asked.answer in
      let at = found-begun old new g before begun asked in
      let kept = found-kept old new g before begun asked in
      let all : v.count ≡ length (installations lines) = kept.window.count in
      let start_low : earlier < by.start = starts-low by.starts in
      let start_high : by.start ≤ v.count = starts-high by.starts in
      record {
        kept = All-cons (IsKept v) by.start (v.count ∷ []) (start-kept by.starts)
            (All-cons (IsKept v) v.count [] (latest-kept w v values added.window) (All-nil (IsKept v)));
        today_fixed = (1, omega arith, refl);
        tail_is = inl refl;
        lasts = inl refl;
        counted = All-cons (λ n. Contains [] n ⊎ Contains (installations (group lines)) (installation_at lines n)) by.start (v.count ∷ [])
            (inr (own-there lines earlier by.start at.own start_low (omega (arith, start_high, all))))
            (All-cons (λ n. Contains [] n ⊎ Contains (installations (group lines)) (installation_at lines n)) v.count []
            (inr (own-there lines earlier v.count at.own (omega (arith, low, count)) (omega (arith, all))))
            (All-nil (λ n. Contains [] n ⊎ Contains (installations (group lines)) (installation_at lines n))));
        owned = own-which lines earlier (by.start ∷ v.count ∷ []) at.own (λ n above within. which n above (omega (arith, within, all)) by.starts);
        latest = λ none. refl;
      }
    where
      starts-low : IsStart v earlier by.start → earlier < by.start
      starts-low (inl one) = let same = one.1 in omega (arith, same, low, count)
      starts-low (inr two) = let same = two.1 in omega (arith, same, two.0)

      starts-high : IsStart v earlier by.start → by.start ≤ v.count
      starts-high (inl one) = let same = one.1 in omega (arith, same)
      starts-high (inr two) = let same = two.1 in omega (arith, same)

      start-kept : IsStart v earlier by.start → IsKept v by.start
      start-kept (inl one) = subst (λ (n : ℕ). IsKept v n) (sym one.1) (latest-kept w v values added.window)
      start-kept (inr two) =
          let same = two.1 in
          before-kept w v values by.start (omega (arith, same, count)) (was_kept (omega (arith, two.0, count))) added.window

      which : (n : ℕ) → earlier < n → n ≤ v.count → IsStart v earlier by.start → Contains (by.start ∷ v.count ∷ []) n
      which n above within (inl one) =
          let only : n ≡ v.count = omega (arith, above, within, one.0) in (1, omega arith, sym only)
      which n above within (inr two) = elim (cases_eq n v.count) [
        | inl same ↦ (1, omega arith, sym same)
        | inr other ↦
            let same = two.1 in
            let only : n ≡ by.start = omega (arith, above, within, other, same, few, count) in (0, omega arith, sym only)
      ]

  plan-named : IsPlanned (by.strikers ++ []) by.open_still was h
  plan-named = subst (λ (ns : List ℕ). IsPlanned ns by.open_still was h) (sym (append-nil by.strikers)) by.planned

  upto-v : was.present ≤ v.variables
  upto-v = let range = present-upto a w c was space fits in let all = fits.window in omega (arith, range, window, all)

  found-settling : (old new : DeskView) (g : Setting) (before : List CertRecord) (begun : IsBegun g before a w c was earlier)
      → (asked : IsAsked g before (today-question was.present) old new b (replies.Found values))
      → IsSettling g (before ++ question_lines (today-question was.present) asked.between asked.answer) b v d h
  found-settling old new g before begun asked =
      let lines : List CertRecord = before ++ question_lines (today-question was.present) asked.between asked.answer in
      let kept = found-kept old new g before begun asked in
      record {
        keeps = subst (λ (x : CoveringView). KeepsChallenged g lines x) (sym added.is) (record { of_space = begun.keeps.of_space; uses = kept.uses });
        at = asked.at;
        window = kept.window;
        group_at = subst (λ (x : CoveringView). IsGroupAt g lines x.space h) (sym added.is)
            (planned-at law g lines v e kept was h earlier v.count by.strikers [] (by.start ∷ v.count ∷ []) by.open_still
            (found-begun old new g before begun asked) plan-named (found-naming old new g before begun asked) (latest-kept w v values added.window)
            (subst (λ (m : List ℕ). Contains m was.present) (sym (found-there old new g before begun asked)) has)
            (subst (λ (m : List ℕ). Contains m 1) (sym (found-there old new g before begun asked)) now) from upto-v
            by.plan.falling by.plan.strikers by.plan.struck by.plan.are_open.falling by.plan.are_open.pairs by.plan.are_open.open_still);
      }

  found-rest-of : (old new : DeskView) (g : Setting) (before : List CertRecord) (begun : IsBegun g before a w c was earlier)
      → (asked : IsAsked g before (today-question was.present) old new b (replies.Found values))
      → CoversRest g (before ++ question_lines (today-question was.present) asked.between asked.answer) d.space h
  found-rest-of old new g before begun asked =
      let lines : List CertRecord = before ++ question_lines (today-question was.present) asked.between asked.answer in
      let kept = found-kept old new g before begun asked in
      subst (λ (x : CoveringView). CoversRest g lines x.space h) (sym added.is)
      (planned-rest law g lines v e kept was h earlier v.count by.strikers [] (by.start ∷ v.count ∷ []) by.open_still
      (found-begun old new g before begun asked) plan-named (found-naming old new g before begun asked) (latest-kept w v values added.window)
      (subst (λ (m : List ℕ). Contains m was.present) (sym (found-there old new g before begun asked)) has)
      (subst (λ (m : List ℕ). Contains m 1) (sym (found-there old new g before begun asked)) now) from upto-v
      by.plan.falling by.plan.strikers by.plan.struck by.plan.are_open.falling by.plan.are_open.pairs by.plan.are_open.open_still by.plan.are_open.all)

  pub found-claimed : (old mid new : DeskView) (f : AskerView) (u : WindowView) (x : CoveringView) (claim : Claim) → TwiceLaw
      → AskedFrom (Begun a w c was earlier) (today-question was.present) old mid b (replies.Found values)
      → ChallengeMore mid new b f v u d x h claim → BegunMore old new a f w u c x was earlier claim
  found-claimed old mid new f u x claim twice asks claims g before begun =
      let asked = asks g before begun in
      claim-after twice g before (question_lines (today-question was.present) asked.between asked.answer) old mid new f u
      (λ lines. KeepsChallenged g lines x) claim
      asked.grew (asked-none g before (today-question was.present) old mid b (replies.Found values) asked)
      (claims g (before ++ question_lines (today-question was.present) asked.between asked.answer) (found-settling old mid g before begun asked)
      (found-rest-of old mid g before begun asked))

  pub found-stops : (old mid new : DeskView) (error : WorkError) → TwiceLaw
      → AskedFrom (Begun a w c was earlier) (today-question was.present) old mid b (replies.Found values)
      → ChallengeStops mid new b v d h error → BegunStops old new a w c was earlier error
  found-stops old mid new error twice asks stops g before begun =
      let asked = asks g before begun in
      stops-after twice g before (question_lines (today-question was.present) asked.between asked.answer) old mid new error asked.grew
      (stops g (before ++ question_lines (today-question was.present) asked.between asked.answer) (found-settling old mid g before begun asked)
      (found-rest-of old mid g before begun asked))

  pub found-fits : b.limit ≡ a.limit → b.log.variables ≡ a.log.variables → FitsGroup b v d h
  found-fits limit variables =
      subst (λ (x : CoveringView). FitsGroup b v x h) (sym added.is)
      (planned-fits b v e was h v.count by.strikers [] by.open_still
      (record {
        limit = omega (arith, limit, fits.limit);
        variables = variables ∙ fits.variables;
        window = window ∙ fits.window;
        from_one = fits.from_one;
        upto = fits.upto;
        present = fits.present;
        refuted = fits.refuted;
        undecided = fits.undecided;
      }) plan-named (omega (arith, count)) (omega (arith, count)) (inl refl) by.plan.strikers by.plan.are_open.pairs)

-- ---- the line of the claim

-- what is known of a group, and that what it says nothing of is covered
abbrev pub Whole : AskerView → WindowView → CoveringView → GroupView → Known
Whole a w c group_is = λ g before. IsSettling g before a w c group_is × CoversRest g before c.space group_is

pub challenged-puts : PairsLaw → (a : AskerView) (w : WindowView) (c : CoveringView) (group_is : GroupView) (step : CertRecord) → IsSpace c.space
    → FitsGroup a w c group_is → group_is.left ≡ [] → AreRising group_is.refuted × AreRising group_is.undecided
    → length c.space.repository.packages < 2 ^ 32 → w.count < 2 ^ 32
    → AreSmallPairs (map (pair_at c.space) group_is.refuted) → AreSmallPairs (map (pair_at c.space) group_is.undecided)
    → step ≡ challenged_line c.space w group_is → PutsFrom (Whole a w c group_is) w (KeptBy c) step
challenged-puts law a w c group_is step space fits done rising few small by und is g before known =
    let settling = known.0 in
    record {
      window = settling.window;
      line = subst (λ (s : CertRecord). IsLine (matter_in g) g.header before s) (sym is)
          (challenged-next law g before w c.space group_is settling.keeps.of_space space fits.begun.from_one settling.window settling.group_at known.1 rising
          done settling.at.log.not_ended few small by und);
      kept = record {
        of_space = settling.keeps.of_space;
        uses = uses-same c.space (installations before) (installations (before ++ step ∷ [])) c.uses
            (same-installed before step (ap installed_in is)) settling.keeps.uses;
      };
    }

pub line-kind : (s : SpaceView) (w : WindowView) (group_is : GroupView) (step : CertRecord) → step ≡ challenged_line s w group_is → IsClaimLine step
line-kind s w group_is step is = subst IsClaimLine (sym is) (challenged-kind s w group_is)
