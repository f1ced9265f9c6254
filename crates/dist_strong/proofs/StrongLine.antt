-- The line of a claim on strong dependencies may come next, once no candidate is left.
use Rattle.std.proofs.Common.{◌≡◌, ◌≢◌, ℕ, zero, suc, ◌-◌, ◌<◌, ◌≤◌, ◌^◌, Bool, true, false, List, [], ◌∷◌, ◌++◌}
use Rattle.std.proofs.Common.{length, get_or, refl, ap, sym, subst, ◌∙◌, arith, length-append, if◌then◌else◌}
use Rattle.std.specs.List.{All, AllPairs, Contains, list_any}
use Rattle.std.proofs.lemmas.Bool.{true≢false}
use Rattle.std.proofs.lemmas.List.{get_or-append_right}
use Rattle.std.proofs.lemmas.List.Elements.{All-cons, All-append, Contains-append_left, Contains-append_right}
use Rattle.dist_clause.specs.Formula.{value_of}
use Rattle.dist_cert.specs.declared.faults.CertCause.{CertCause}
use Rattle.dist_cert.specs.declared.records.CertKind.{CertKind}
use Rattle.dist_cert.specs.declared.records.CertRecord.{CertRecord}
use Rattle.dist_cert.specs.declared.records.CertRecord.TheVariants.{Strong}
use Rattle.dist_cert.specs.ClaimRules.{HoldsClaim, HoldsStrong, IsInEach, OmitsPackage}
use Rattle.dist_cert.specs.Form.{IsSmall, is_end, plain, plains, separator}
use Rattle.dist_cert.specs.Groups.{claim_count, group, installations, installation_at, is_claim, IsRefutedIn}
use Rattle.dist_cert.specs.Groups.{IsUndecidedIn}
use Rattle.dist_cert.specs.GroupLaws.{installations-append}
use Rattle.dist_cert.specs.LineRules.{HasRecordFault}
use Rattle.dist_cert.specs.PartByRecordsLaws.{IsLine}
use Rattle.dist_strong.specs.Group.{AreLeft, GroupView, HasNoCandidate, IsLeft}
use Rattle.dist_line_write.specs.LineLaws.{no-future, none-in, plains-small}
use Rattle.dist_line_write.specs.TrueOnesLaws.{contained, true-low, true-ones, true-rising, true-upto}
use Rattle.dist_line_write.specs.Words.{true_variables}
use Rattle.dist_sweep.specs.Script.{Setting, matter_in}
use Rattle.dist_strong.specs.SettlingPrivate.{IsGroupAt, IsOfStrong, without}
use Rattle.dist_sweep.specs.Window.{HasEach, IsWindowAt, WindowView, numbers_of}
use Rattle.dist_sweep.specs.WindowLaws.{each-named, latest-named, named-each, numbers-named, numbers-rising}
use Rattle.dist_sweep.specs.ClaimLinesLaws.{next-claim}
use Rattle.dist_strong.proofs.Opens.{open-from}
use Rattle.dist_cert.specs.declared.faults.CertCause.TheVariants as causes

-- ---- an installation is named

-- the group stands at the end of the lines
pub group-ends : (lines : List CertRecord) → (front : List CertRecord) × (lines ≡ front ++ group lines)
group-ends [] = ([], refl)
group-ends (s ∷ lines) = by (list_any is_claim (s ∷ lines)) (group-ends lines)
  where
    by : (b : Bool) → (front : List CertRecord) × (lines ≡ front ++ group lines) → (front : List CertRecord)
        × (s ∷ lines ≡ front ++ (if b then group lines else s ∷ lines))
    by true rest = (s ∷ rest.0, ap (λ (ls : List CertRecord). s ∷ ls) rest.1)
    by false rest = ([], refl)

last-holds : (P : List ℕ → Type 0) (front ms : List (List ℕ)) → 0 < length ms → All P ms → P (get_or (front ++ ms) (length (front ++ ms) - 1) [])
last-holds P front ms some all =
    let size = length-append front ms in
    let past : length front ≤ length (front ++ ms) - 1 = omega (arith, size, some) in
    subst P (sym (get_or-append_right front ms (length front) (length (front ++ ms) - 1) [] refl past))
    (all (length (front ++ ms) - 1 - length front) [] (omega (arith, size, some)))

-- the latest installation has the package
latest-has : (before : List CertRecord) (p : ℕ) → 0 < length (installations (group before)) → All (λ m. Contains m p) (installations (group before))
    → Contains (installation_at before (length (installations before))) p
latest-has before p some each =
    let ends = group-ends before in
    let are : installations before ≡ installations ends.0 ++ installations (group before) = ap installations ends.1
    ∙ installations-append ends.0 (group before) in
    subst (λ (ms : List (List ℕ)). Contains (get_or ms (length ms - 1) []) p) (sym are)
    (last-holds (λ m. Contains m p) (installations ends.0) (installations (group before)) some each)

pub some-named : (g : Setting) (before : List CertRecord) (w : WindowView) (kept : GroupView) → IsWindowAt before w → IsGroupAt g before kept
    → w.variables ≡ kept.variables → 0 < length (numbers_of w kept.claimed)
some-named g before w kept at settled same =
    let there = latest-named before w kept.claimed at settled.from_one (omega (arith, settled.upto, same)) (some-at settled.some)
    (latest-has before kept.claimed settled.some settled.each) in
    omega (arith, there.1)
  where
    some-at : 0 < length (installations (group before)) → 0 < length (installations before)
    some-at some =
        let ends = group-ends before in
        let size = ap length (ap installations ends.1 ∙ installations-append ends.0 (group before)) in
        omega (arith, some, size, length-append (installations ends.0) (installations (group before)))

-- ---- the rules of the claim

pub each-of : {P : ℕ → Type 0} (xs : List ℕ) → ((q : ℕ) → Contains xs q → P q) → All P xs
each-of {P} xs every k d within = every (get_or xs k d) (k, within, same-get xs k d within)
  where
    same-get : (ys : List ℕ) (i e : ℕ) → i < length ys → get_or ys i (get_or ys i e) ≡ get_or ys i e
    same-get [] i e short = absurd (omega (arith, short))
    same-get (y ∷ ys) zero e short = refl
    same-get (y ∷ ys) (suc i) e short = same-get ys i e (omega (arith, short))

-- a package of the first list
pub record IsOn (kept : GroupView) (q : ℕ) : Type 0 where
  pub from_one : 1 ≤ q
  pub upto : q ≤ kept.variables
  pub holds : value_of kept.refuted q ≡ true

on-of : (kept : GroupView) (q : ℕ) → length kept.refuted ≡ kept.variables → Contains (true_variables kept.refuted) q → IsOn kept q
on-of kept q size there =
    let low = contained (λ v. 1 ≤ v) (true_variables kept.refuted) q (true-low kept.refuted) there in
    let high = contained (λ v. v ≤ length kept.refuted) (true_variables kept.refuted) q (true-upto kept.refuted) there in
    record { from_one = low; upto = omega (arith, high, size); holds = (true-ones kept.refuted q low high).0 there }

pub holds-strong : (g : Setting) (before : List CertRecord) (w : WindowView) (kept : GroupView) (left : List ℕ) → IsWindowAt before w → IsGroupAt g before kept
    → w.variables ≡ kept.variables → AreLeft w kept left
    → HoldsStrong (matter_in g) before kept.claimed (numbers_of w kept.claimed) (true_variables kept.refuted) left
holds-strong g before w kept left at settled same are_left = record {
  names = numbers-named before w kept.claimed at settled.from_one (omega (arith, settled.upto, same));
  rising = (true-rising kept.refuted, are_left.rising);
  apart = each-of {P = λ q. ¬ Contains left q} on (λ q there in_left. true≢false
      (sym (left-at q in_left).is_undecided ∙ settled.apart q (on-at q there).from_one (on-at q there).holds));
  others = All-append (λ q. (q ≢ kept.claimed) × (q ≤ (matter_in g).packages)) on left
      (each-of {P = λ q. (q ≢ kept.claimed) × (q ≤ (matter_in g).packages)} on
      (λ q there. ((settled.refuted q (on-at q there).from_one (on-at q there).upto (on-at q there).holds).0, packages q (on-at q there).upto)))
      (each-of {P = λ q. (q ≢ kept.claimed) × (q ≤ (matter_in g).packages)} left
      (λ q there. (
        (settled.undecided q (left-at q there).from_one (left-at q there).upto (left-at q there).is_undecided).0,
        packages q (left-at q there).upto,
      )));
  refuted = each-of {P = λ q. IsRefutedIn (group before) (without kept.claimed q)} on
      (λ q there. (settled.refuted q (on-at q there).from_one (on-at q there).upto (on-at q there).holds).1);
  open_still = each-of {P = λ q. IsUndecidedIn (group before) (without kept.claimed q) × IsInEach before (numbers_of w kept.claimed) kept.claimed q} left
      (λ q there. (
        (settled.undecided q (left-at q there).from_one (left-at q there).upto (left-at q there).is_undecided).1,
        (each-named before w kept.claimed q at (left-at q there).from_one (within q there) (left-at q there).each, every q there),
      ));
}
  where
    on : List ℕ
    on = true_variables kept.refuted

    on-at : (q : ℕ) → Contains (true_variables kept.refuted) q → IsOn kept q
    on-at q there = on-of kept q settled.sizes.refuted there

    left-at : (q : ℕ) → Contains left q → IsLeft w kept q
    left-at q there = contained (IsLeft w kept) left q are_left.each there

    packages : (q : ℕ) → q ≤ kept.variables → q ≤ (matter_in g).packages
    packages q upto = omega (arith, upto, settled.variables)

    within : (q : ℕ) → Contains left q → q ≤ w.variables
    within q there = let is = left-at q there in omega (arith, is.upto, same)

    every : (q : ℕ) → Contains left q → All (λ members. Contains members kept.claimed → Contains members q) (installations (group before))
    every q there k d short = let is = left-at q there in λ claimed. (settled.common q is.from_one is.upto).0 is.is_common k d short

-- what is in all installations of the claim is listed
pub omits-none : (g : Setting) (before : List CertRecord) (w : WindowView) (kept : GroupView) (left : List ℕ) → IsWindowAt before w → IsGroupAt g before kept
    → w.variables ≡ kept.variables → AreLeft w kept left
    → HasNoCandidate w kept → ¬ OmitsPackage (matter_in g) before kept.claimed (numbers_of w kept.claimed) (true_variables kept.refuted ++ left)
omits-none g before w kept left at settled same are_left none omitted =
    by (value_of kept.refuted q) refl (value_of kept.undecided q) refl
  where
    q : ℕ
    q = omitted.0

    upto : omitted.0 ≤ kept.variables
    upto = omega (arith, omitted.2, settled.variables)

    each : HasEach w kept.claimed omitted.0
    each = named-each before w kept.claimed omitted.0 at omitted.1 (omega (arith, omitted.2, settled.variables, same)) omitted.4.0

    common : value_of kept.common omitted.0 ≡ true
    common = (settled.common omitted.0 omitted.1 upto).1 (λ k d within. omitted.4.1 k d within (settled.each k d within))

    by : (b : Bool) → value_of kept.refuted omitted.0 ≡ b → (e : Bool) → value_of kept.undecided omitted.0 ≡ e → ⊥
    by true is e other = omitted.5 (Contains-append_left (true_variables kept.refuted) left omitted.0
        ((true-ones kept.refuted omitted.0 omitted.1 (omega (arith, upto, settled.sizes.refuted))).1 is))
    by false is true other = omitted.5 (Contains-append_right (true_variables kept.refuted) left omitted.0
        (are_left.all omitted.0 upto (record { from_one = omitted.1; upto = upto; is_undecided = other; is_common = common; each = each })))
    by false is false other = none omitted.0 (record {
      from_one = omitted.1;
      upto = upto;
      opens = open-from kept omitted.0 (record { other = omitted.3; common = common; refuted = is; undecided = other });
      each = each;
    })

distinct : (ns : List ℕ) → AllPairs (λ m n. m < n) ns → AllPairs (λ m n. m ≢ n) ns
distinct ns rising i j d before within = λ e. let less = rising i j d before within in omega (arith, less, e)

pub strong-line : (g : Setting) (before : List CertRecord) (w : WindowView) (kept : GroupView) (left : List ℕ) → IsOfStrong g
    → list_any is_end before ≡ false → (matter_in g).packages < 2 ^ 32
    → IsWindowAt before w → IsGroupAt g before kept → w.variables ≡ kept.variables → AreLeft w kept left → HasNoCandidate w kept → w.count < 2 ^ 32
    → IsLine (matter_in g) g.header before (Strong kept.claimed (numbers_of w kept.claimed) (true_variables kept.refuted) left)
strong-line g before w kept left strong going fits at settled same are_left none_left small = record {
  form = record {
    text = refl;
    rules = (settled.from_one, some-named g before w kept at settled same, from-named, true-low kept.refuted, from-left);
    numbers = All-cons (λ v. IsSmall v.0) (plain kept.claimed) (plains named ++ (separator ∷ (plains on ++ (separator ∷ plains left))))
        (omega (arith, settled.upto, settled.variables, fits))
        (All-append (λ v. IsSmall v.0) (plains named) (separator ∷ (plains on ++ (separator ∷ plains left))) (plains-small w.count named small upto-named)
        (All-cons (λ v. IsSmall v.0) separator (plains on ++ (separator ∷ plains left)) (omega arith)
        (All-append (λ v. IsSmall v.0) (plains on) (separator ∷ plains left) (plains-small (matter_in g).packages on fits upto-on)
        (All-cons (λ v. IsSmall v.0) separator (plains left) (omega arith) (plains-small (matter_in g).packages left fits upto-left)))));
  };
  not_ended = going;
  faultless = none;
  next = distinct named (numbers-rising w kept.claimed);
}
  where
    named : List ℕ
    named = numbers_of w kept.claimed

    on : List ℕ
    on = true_variables kept.refuted

    rules : HoldsStrong (matter_in g) before kept.claimed (numbers_of w kept.claimed) (true_variables kept.refuted) left
    rules = holds-strong g before w kept left at settled same are_left

    from-named : All (λ n. 1 ≤ n) (numbers_of w kept.claimed)
    from-named k d within = (rules.names k d within).0.0

    upto-named : All (λ n. n ≤ w.count) (numbers_of w kept.claimed)
    upto-named k d within = let recent = (rules.names k d within).0.1 in omega (arith, recent, at.count)

    from-left : All (λ n. 1 ≤ n) left
    from-left k d within = (are_left.each k d within).from_one

    upto-on : All (λ n. n ≤ (matter_in g).packages) (true_variables kept.refuted)
    upto-on k d within = let least = true-upto kept.refuted k d within in omega (arith, least, settled.sizes.refuted, settled.variables)

    upto-left : All (λ n. n ≤ (matter_in g).packages) left
    upto-left k d within = let least = (are_left.each k d within).upto in omega (arith, least, settled.variables)

    none : (cause : CertCause) → ¬ HasRecordFault (matter_in g) g.header before
        (Strong kept.claimed (numbers_of w kept.claimed) (true_variables kept.refuted) left) cause
    none causes.OutOfRange f = none-in _ f
    none causes.OutOfOrder f = next-claim (matter_in g).packages (claim_count before) kept.claimed settled.claimed
        (omega (arith, settled.upto, settled.variables)) f
    none causes.UnknownLine f = none-in _ f
    none causes.NotAFuture f = no-future (matter_in g) g.header.kind
        (Strong kept.claimed (numbers_of w kept.claimed) (true_variables kept.refuted) left) refl f
    none causes.WrongClaim f = f.1 (subst (λ (k : CertKind). HoldsClaim (matter_in g) k before
        (Strong kept.claimed (numbers_of w kept.claimed) (true_variables kept.refuted) left)) (sym strong.kind) rules)
    none causes.Incomplete f = omits-none g before w kept left at settled same are_left none_left f
    none cause f = f
