-- What is kept of a group once the installations that its claim names are planned.
use Rattle.std.proofs.Common.{◌≡◌, ◌≢◌, ◌⊎◌, ◌&&◌, ⊎_elim, inl, inr, ℕ, ◌+◌, ◌-◌, ◌<◌, ◌≤◌, Bool, true, false, not, zero, suc, List, [], ◌∷◌, ◌++◌, length}
use Rattle.std.proofs.Common.{get_or, filter, refl, ap, sym, subst, ◌∙◌, arith, length-append, append-nil}
use Rattle.std.specs.List.{All, AllPairs, Any, Contains, list_any}
use Rattle.std.specs.Prelude.{slice_index}
use Rattle.std.proofs.lemmas.Bool.{true≢false, false≢true}
use Rattle.std.proofs.lemmas.List.{get_or-append_right, get_or_default}
use Rattle.std.proofs.lemmas.List.Elements.{All-append, All-contains, All-filter, All-nil, All-weaker, filter_passes}
use Rattle.std.proofs.lemmas.List.Kept.{AllPairs-filter}
use Rattle.dist_base.specs.ListLaws.{all-contained, any-cases, any-contained, any-head, any-later, any-there}
use Rattle.dist_cert.specs.declared.records.CertKind.TheVariants as kinds
use Rattle.dist_cert.specs.declared.records.CertRecord.{CertRecord}
use Rattle.dist_cert.specs.ClaimRules.{Covers, IsCovered}
use Rattle.dist_cert.specs.Groups.{group, installation_at, installations, is_claim, IsRefutedIn, IsUndecidedIn}
use Rattle.dist_cert.specs.GroupLaws.{group-append, installations-append}
use Rattle.dist_cert.specs.ListLaws.{any-from, from-any}
use Rattle.dist_cert.specs.Rising.{is_among}
use Rattle.dist_line_write.specs.Asking.{AskerView}
use Rattle.dist_sweep.specs.Script.{Setting, matter_in}
use Rattle.dist_sweep.specs.Window.{WindowView}
use Rattle.dist_sweep.specs.WindowLaws.{kept-has}
use Rattle.dist_challenge.specs.BegunPrivate.{IsBegunAt}
use Rattle.dist_covering.specs.Group.{IsPlanned, is_unasked, GroupView}
use Rattle.dist_covering.specs.Covering.{CoveringView}
use Rattle.dist_challenge.specs.GroupPrivate.{CoversRest, FitsBegun, FitsGroup, IsGroupAt, IsNameable, Struck, together}
use Rattle.dist_covering.specs.OpenPairs.{HasStruck, IsKept, IsPairVariable, IsStriker, IsTodayWith, Lasts, covered_by, is_covered}
use Rattle.dist_covering.specs.Used.{pair_at}
use Rattle.dist_challenge.proofs.CoveredPairs.{CoveredLaw, CoversBy, Kept, kept-covers, kept-in, none-covers, some-covers}
use Rattle.dist_covering.specs.ListLaws.{filter-few, filter-holds, filter-in, in-filter, pairs-push}
use Rattle.dist_challenge.proofs.GroupLines.{any-append-left, group-ends}
use Rattle.dist_sweep.specs.FuturesLaws.{present-is}
use Rattle.dist_covering.specs.ListLaws.{among-members, all-members}

-- an installation that struck may be named
striker-nameable : (g : Setting) (before : List CertRecord) (w : WindowView) (c : CoveringView) (present today more below number : ℕ)
    → Kept g before w c → 1 ≤ present → present ≤ w.variables → IsStriker w present today more below number → IsNameable before present more number
striker-nameable g before w c present today more below number all from upto striker =
    let inside = kept-in before w number all.window striker.kept in
    let count = all.window.count in
    record {
      from_one = omega (arith, striker.above);
      upto = omega (arith, striker.kept.high, count);
      lasts = let lasts = striker.lasts in omega (arith, lasts, count);
      has = kept-has before w number present all.window inside from upto striker.has;
    }

less-nameable : (before : List CertRecord) (present more less number : ℕ) → less ≤ more → IsNameable before present more number
    → IsNameable before present less number
less-nameable before present more less number fewer name = record {
  from_one = name.from_one;
  upto = name.upto;
  lasts = omega (arith, name.lasts, fewer);
  has = name.has;
}

falling-distinct : (ns : List ℕ) → AllPairs (λ m n. n < m) ns → AllPairs (λ m n. m ≢ n) ns
falling-distinct ns falling i j d before within = λ e. let less = falling i j d before within in omega (arith, less, e)

strikers-kept : (w : WindowView) (present today more below : ℕ) (named : List ℕ) → All (IsStriker w present today more below) named → All (IsKept w) named
strikers-kept w present today more below named all k d within = (all k d within).kept

-- what an installation struck, in the words of certificates
struck-lines : CoveredLaw → (g : Setting) (before : List CertRecord) (w : WindowView) (c : CoveringView) (own today number : ℕ) (named : List ℕ)
    → Kept g before w c → IsKept w today → IsKept w number → All (IsKept w) named → HasStruck c w own today named number
    → Struck g c.space own (installations before) today named number
struck-lines law g before w c own today number named kept kept_today kept_it all struck = record {
  at = struck.at;
  variable = struck.variable;
  covers = (kept-covers law g before w c own number struck.at kept kept_it struck.variable).0 struck.covers;
  not_today = not-covers today kept_today struck.not_today;
  none_later = λ k d within later. not-covers (get_or named k d) (all k d within) (struck.none_later k d within later);
}
  where
    not-covers : (n : ℕ) → IsKept w n → covered_by c w n struck.at ≡ false → ¬ CoversBy g before c.space struck.at n
    not-covers n kept_n lacks covers =
        true≢false (sym ((kept-covers law g before w c own n struck.at kept kept_n struck.variable).1 covers) ∙ lacks)

-- ---- the installations of the group

-- those behind so many earlier ones
pub own-there : (before : List CertRecord) (earlier n : ℕ) → length (installations (group before)) + earlier ≡ length (installations before)
    → earlier < n → n ≤ length (installations before) → Contains (installations (group before)) (installation_at before n)
own-there before earlier n size low high =
    let ends = group-ends before in
    let front : List (List ℕ) = installations ends.0 in
    let own : List (List ℕ) = installations (group before) in
    let are : installations before ≡ front ++ own = ap installations ends.1 ∙ installations-append ends.0 (group before) in
    let long = length-append front own in
    let whole = ap length are in
    let past : length front ≤ n - 1 = omega (arith, long, whole, size, low) in
    let within : n - 1 - length front < length own = omega (arith, long, whole, size, low, high) in
    subst (λ (members : List ℕ). Contains own members)
    (sym (ap (λ (ms : List (List ℕ)). get_or ms (n - 1) []) are ∙ get_or-append_right front own (length front) (n - 1) [] refl past))
    (n - 1 - length front, within, get_or_default own (n - 1 - length front) (get_or own (n - 1 - length front) []) [] within)

pub own-which : (before : List CertRecord) (earlier : ℕ) (fixed : List ℕ) → length (installations (group before)) + earlier ≡ length (installations before)
    → ((n : ℕ) → earlier < n → n ≤ length (installations before) → Contains fixed n)
    → All (λ m. Any (λ n. installation_at before n ≡ m) fixed) (installations (group before))
own-which before earlier fixed size all k d within =
    let ends = group-ends before in
    let front : List (List ℕ) = installations ends.0 in
    let own : List (List ℕ) = installations (group before) in
    let are : installations before ≡ front ++ own = ap installations ends.1 ∙ installations-append ends.0 (group before) in
    let long = length-append front own in
    let whole = ap length are in
    let n : ℕ = length front + k + 1 in
    let less : n - 1 - length front ≡ k = omega arith in
    let past : length front ≤ n - 1 = omega arith in
    any-contained (λ m. installation_at before m ≡ get_or own k d) fixed n (all n (omega (arith, long, whole, size)) (omega (arith, long, whole, within)))
    (ap (λ (ms : List (List ℕ)). get_or ms (n - 1) []) are ∙ get_or-append_right front own (length front) (n - 1) [] refl past
    ∙ ap (λ (i : ℕ). get_or own i []) less ∙ get_or_default own k [] d within)

-- more lines without a claim are of the group
pub own-more : (before added : List CertRecord) (earlier : ℕ) → list_any is_claim added ≡ false
    → length (installations (group before)) + earlier ≡ length (installations before)
    → length (installations (group (before ++ added))) + earlier ≡ length (installations (before ++ added))
own-more before added earlier none own =
    let one = ap (λ (ls : List CertRecord). length (installations ls)) (group-append before added none) in
    let two = ap length (installations-append (group before) added) in
    let three = ap length (installations-append before added) in
    let long = length-append (installations (group before)) (installations added) in
    let longer = length-append (installations before) (installations added) in
    omega (arith, one, two, three, long, longer, own)

-- ---- how the installations of a claim are named

-- a known installation of today, in the words of certificates
pub today-there : (g : Setting) (before : List CertRecord) (w : WindowView) (c : CoveringView) (present today : ℕ) → Kept g before w c
    → IsTodayWith w present today → 1 ≤ present → present ≤ w.variables
    → Contains (installation_at before today) present × Contains (installation_at before today) 1
today-there g before w c present today kept is from upto = (
  kept-has before w today present kept.window (kept-in before w today kept.window is.kept) from upto is.has,
  kept-has before w today 1 kept.window (kept-in before w today kept.window is.kept) (omega arith) (omega (arith, from, upto)) is.now,
)

-- Some installations are named, behind those that struck pairs, or are of the group; these, and that of today, are kept.
pub record IsNaming (before : List CertRecord) (w : WindowView) (today more : ℕ) (fixed tail : List ℕ) : Type 0 where
  pub kept : All (IsKept w) fixed
  pub today_fixed : Contains fixed today
  pub tail_is : (tail ≡ []) ⊎ (tail ≡ today ∷ [])
  pub lasts : length tail ≡ 0 ⊎ Lasts w more today
  pub counted : All (λ n. Contains tail n ⊎ Contains (installations (group before)) (installation_at before n)) fixed
  pub owned : All (λ m. Any (λ n. installation_at before n ≡ m) fixed) (installations (group before))
  pub latest : length tail ≡ 0 → today ≡ w.count

any-append-either : {X : Type 0} (P : X → Type 0) (xs ys : List X) → Any P (xs ++ ys) → Any P xs ⊎ Any P ys
any-append-either P [] ys any = inr any
any-append-either P (x ∷ xs) ys any = ⊎_elim (λ here. inl (any-head P x xs here))
    (λ later. ⊎_elim (λ left. inl (any-later P x xs left)) (λ right. inr right) (any-append-either P xs ys later))
    (any-cases P x (xs ++ ys) any)

any-append-behind : {X : Type 0} (P : X → Type 0) (xs ys : List X) → Any P ys → Any P (xs ++ ys)
any-append-behind P [] ys any = any
any-append-behind P (x ∷ xs) ys any = any-later P x (xs ++ ys) (any-append-behind P xs ys any)

tail-only : (tail : List ℕ) (today : ℕ) → (tail ≡ []) ⊎ (tail ≡ today ∷ []) → All (λ n. n ≡ today) tail
tail-only tail today (inl none) = subst (λ (xs : List ℕ). All (λ n. n ≡ today) xs) (sym none) (All-nil (λ n. n ≡ today))
tail-only tail today (inr one) = subst (λ (xs : List ℕ). All (λ n. n ≡ today) xs) (sym one) single
  where
    single : All (λ n. n ≡ today) (today ∷ [])
    single zero d within = refl
    single (suc k) d within = absurd (omega (arith, within))

both-true : (x y : Bool) → (not x && not y) ≡ true → (x ≡ false) × (y ≡ false)
both-true true y e = absurd (false≢true e)
both-true false true e = absurd (false≢true e)
both-true false false e = (refl, refl)

both-false : (x y : Bool) → x ≡ false → y ≡ false → (not x && not y) ≡ true
both-false true y e f = absurd (true≢false e)
both-false false true e f = absurd (true≢false f)
both-false false false e f = refl

module _ (law : CoveredLaw) (g : Setting) (before : List CertRecord) (w : WindowView) (c : CoveringView) (kept : Kept g before w c)
    (was group_is : GroupView) (earlier today : ℕ) (strikers tail fixed open_still : List ℕ)
    (begun : IsBegunAt g before c.space was earlier) (planned : IsPlanned (strikers ++ tail) open_still was group_is)
    (naming : IsNaming before w today (length open_still) fixed tail) (today_kept : IsKept w today)
    (has_there : Contains (installation_at before today) was.present) (now_there : Contains (installation_at before today) 1)
    (present_from : 1 ≤ was.present) (present_upto : was.present ≤ w.variables) (strikers_fall : AllPairs (λ m n. n < m) strikers)
    (strike : All (IsStriker w was.present today (length open_still) 0) strikers)
    (struck : All (HasStruck c w (slice_index c.space.cluster_of (was.claimed - 1)) today strikers) strikers)
    (falling : AllPairs (λ a b. b < a) open_still) (pairs : All (IsPairVariable c.space (slice_index c.space.cluster_of (was.claimed - 1))) open_still)
    (uncovered : All (λ at. is_covered c w (fixed ++ strikers) at ≡ false) open_still) where
  abbrev pub own : ℕ
  own = slice_index c.space.cluster_of (was.claimed - 1)

  abbrev target : GroupView
  target = record was {
    named = strikers ++ tail;
    left = filter (is_unasked was) open_still;
    refuted = group_is.refuted;
    undecided = filter (is_among was.undecided) open_still;
  }

  all-kept : All (IsKept w) (fixed ++ strikers)
  all-kept = All-append (IsKept w) fixed strikers naming.kept (λ k d within. (strike k d within).kept)

  today-counted : Contains tail today ⊎ Contains (installations (group before)) (installation_at before today)
  today-counted = All-contains (λ n. Contains tail n ⊎ Contains (installations (group before)) (installation_at before n)) fixed today naming.counted
      naming.today_fixed

  variable : (matter_in g).present was.claimed ≡ was.present
  variable = present-is kinds.Challenged c.space g kept.of_space was.claimed ∙ sym begun.present

  today-nameable : (more : ℕ) → Lasts w more today → IsNameable before was.present more today
  today-nameable more lasts =
      let range = kept-in before w today kept.window today_kept in
      let count = kept.window.count in
      record {
        from_one = omega (arith, range.low);
        upto = omega (arith, today_kept.high, count);
        lasts = omega (arith, lasts, count);
        has = has_there;
      }

  -- ---- what is covered

  numbers-of : (at : ℕ) → IsCovered (matter_in g) before was.claimed (strikers ++ tail) (pair_at c.space at)
      → Any (CoversBy g before c.space at) (fixed ++ strikers)
  numbers-of at (inl any) = ⊎_elim
      (λ old. any-append-behind (CoversBy g before c.space at) fixed strikers old)
      (λ last. any-append-left (CoversBy g before c.space at) fixed strikers
      (any-contained (CoversBy g before c.space at) fixed today naming.today_fixed
      (subst (λ (n : ℕ). CoversBy g before c.space at n)
      (All-contains (λ n. n ≡ today) tail last.1 (tail-only tail today naming.tail_is) (any-there (CoversBy g before c.space at) tail last)) last.4)))
      (any-append-either (CoversBy g before c.space at) strikers tail any)
  numbers-of at (inr any) =
      let P : List ℕ → Type 0 = λ m. Contains m ((matter_in g).present was.claimed) × Covers (matter_in g) (pair_at c.space at) m in
      let which = All-contains (λ m. Any (λ n. installation_at before n ≡ m) fixed) (installations (group before)) any.1 naming.owned
      (any-there P (installations (group before)) any) in
      any-append-left (CoversBy g before c.space at) fixed strikers
      (any-contained (CoversBy g before c.space at) fixed which.1 (any-there (λ n. installation_at before n ≡ any.1) fixed which)
      (subst (λ (m : List ℕ). Covers (matter_in g) (pair_at c.space at) m) (sym which.4) any.4.1))

  own-covers : (at : ℕ) (members : List ℕ) → Contains (installations (group before)) members → Covers (matter_in g) (pair_at c.space at) members
      → IsCovered (matter_in g) before was.claimed (strikers ++ tail) (pair_at c.space at)
  own-covers at members there covers =
      inr (any-contained (λ m. Contains m ((matter_in g).present was.claimed) × Covers (matter_in g) (pair_at c.space at) m) (installations (group before))
      members there (
        subst (λ (v : ℕ). Contains members v) (sym variable)
            (All-contains (λ m. Contains m was.present) (installations (group before)) members begun.each there),
        covers,
      ))

  of-numbers : (at : ℕ) → Any (CoversBy g before c.space at) (fixed ++ strikers)
      → IsCovered (matter_in g) before was.claimed (strikers ++ tail) (pair_at c.space at)
  of-numbers at any = ⊎_elim
      (λ first. ⊎_elim
      (λ named. inl (any-append-behind (CoversBy g before c.space at) strikers tail
      (any-contained (CoversBy g before c.space at) tail first.1 named first.4)))
      (λ there. own-covers at (installation_at before first.1) there first.4)
      (All-contains (λ n. Contains tail n ⊎ Contains (installations (group before)) (installation_at before n)) fixed first.1 naming.counted
      (any-there (CoversBy g before c.space at) fixed first)))
      (λ old. inl (any-append-left (CoversBy g before c.space at) strikers tail old))
      (any-append-either (CoversBy g before c.space at) fixed strikers any)

  none-of : (at : ℕ) → IsPairVariable c.space own at → is_covered c w (fixed ++ strikers) at ≡ false
      → ¬ IsCovered (matter_in g) before was.claimed (strikers ++ tail) (pair_at c.space at)
  none-of at v lacks covered = none-covers law g before w c own at kept v (fixed ++ strikers) all-kept lacks (numbers-of at covered)

  -- ---- which pairs were asked for

  unasked : (at : ℕ) → is_unasked was at ≡ true → (¬ Contains group_is.refuted at) × (¬ Contains target.undecided at)
  unasked at is =
      let parts = both-true (is_among was.undecided at) (is_among was.refuted at) is in (
        (λ there. true≢false (sym (any-from at group_is.refuted there) ∙ planned.refuted at ∙ parts.1)),
        λ there. true≢false (sym (filter-holds (is_among was.undecided) open_still at there) ∙ parts.0),
      )

  was-undecided : (at : ℕ) → Contains target.undecided at → Contains was.undecided at
  was-undecided at there = from-any at was.undecided (filter-holds (is_among was.undecided) open_still at there)

  few-left : length target.left ≤ length open_still
  few-left = filter-few (is_unasked was) open_still

  struck-before : (n : ℕ) → IsKept w n → HasStruck c w own today strikers n → Struck g c.space own (installations before) today (strikers ++ tail) n
  struck-before n kept_n has =
      let one = struck-lines law g before w c own today n strikers kept today_kept kept_n
      (strikers-kept w was.present today (length open_still) 0 strikers strike) has in
      record {
        at = one.at;
        variable = one.variable;
        covers = one.covers;
        not_today = one.not_today;
        none_later = All-append (λ later. n < later → ¬ CoversBy g before c.space one.at later) strikers tail one.none_later
            (All-weaker (λ m. m ≡ today) (λ later. n < later → ¬ CoversBy g before c.space one.at later)
            (λ m same less. subst (λ (k : ℕ). ¬ CoversBy g before c.space one.at k) (sym same) one.not_today) tail (tail-only tail today naming.tail_is));
      }

  none-named : length (strikers ++ tail) ≡ 0 → length tail ≡ 0
  none-named none = omega (arith, none, length-append strikers tail)

  today-own : length tail ≡ 0 → Contains (installations (group before)) (installation_at before today)
  today-own none = ⊎_elim (λ there. absurd (omega (arith, none, there.1))) (λ there. there) today-counted

  distinct-by : (tail ≡ []) ⊎ (tail ≡ today ∷ []) → AllPairs (λ m n. m ≢ n) (strikers ++ tail)
  distinct-by (inl none) = subst (λ (xs : List ℕ). AllPairs (λ m n. m ≢ n) xs)
      (sym (ap (λ (xs : List ℕ). strikers ++ xs) none ∙ append-nil strikers)) (falling-distinct strikers strikers_fall)
  distinct-by (inr one) = subst (λ (xs : List ℕ). AllPairs (λ m n. m ≢ n) (strikers ++ xs)) (sym one)
      (pairs-push (λ m n. m ≢ n) strikers today (falling-distinct strikers strikers_fall) (λ k d within. (strike k d within).other))

  tail-nameable : All (IsNameable before was.present (length target.left)) tail
  tail-nameable = by naming.lasts
    where
      by : length tail ≡ 0 ⊎ Lasts w (length open_still) today → All (IsNameable before was.present (length target.left)) tail
      by (inl none) = λ k d within. absurd (omega (arith, none, within))
      by (inr lasts) = All-weaker (λ n. n ≡ today) (IsNameable before was.present (length target.left))
          (λ n same. subst (λ (m : ℕ). IsNameable before was.present (length target.left) m) (sym same)
          (today-nameable (length target.left) (let few = few-left in omega (arith, lasts, few)))) tail (tail-only tail today naming.tail_is)

  target-at : IsGroupAt g before c.space target
  target-at = record {
    claimed = begun.claimed;
    upto = begun.upto;
    present = begun.present;
    each = begun.each;
    some = λ none. let there = today-own (none-named none) in omega (arith, there.1);
    names = All-append (IsNameable before was.present (length target.left)) strikers tail
        (All-weaker (IsStriker w was.present today (length open_still) 0) (IsNameable before was.present (length target.left))
        (λ n striker. less-nameable before was.present (length open_still) (length target.left) n few-left
        (striker-nameable g before w c was.present today (length open_still) 0 n kept present_from present_upto striker)) strikers strike) tail-nameable;
    distinct = distinct-by naming.tail_is;
    today = ⊎_elim
        (λ there. inl (any-append-behind (λ n. Contains (installation_at before n) 1) strikers tail
        (any-contained (λ n. Contains (installation_at before n) 1) tail today there now_there)))
        (λ there. inr (any-contained (λ m. Contains m was.present × Contains m 1) (installations (group before)) (installation_at before today) there
        (has_there, now_there))) today-counted;
    few = record {
      today = today;
      from_one = (let range = kept-in before w today kept.window today_kept in omega (arith, range.low));
      upto = (let count = kept.window.count in omega (arith, today_kept.high, count));
      has = has_there;
      now = now_there;
      struck = All-append (λ n. n ≢ today → Struck g c.space own (installations before) today (strikers ++ tail) n) strikers tail
          (λ k d within other. struck-before (get_or strikers k d) (strike k d within).kept (struck k d within))
          (All-weaker (λ n. n ≡ today) (λ n. n ≢ today → Struck g c.space own (installations before) today (strikers ++ tail) n)
          (λ n same other. absurd (other same)) tail (tail-only tail today naming.tail_is));
      of_group = λ none. today-own (none-named none);
      latest = λ none other. absurd (other (sym (naming.latest (none-named none) ∙ kept.window.count)));
    };
    falling = AllPairs-filter (λ a b. b < a) (is_unasked was) open_still falling;
    apart = all-contained (λ at. ¬ Contains target.undecided at) group_is.refuted
        (λ at there undecided. All-contains (λ a. ¬ Contains was.undecided a) was.refuted at begun.apart
        (among-members group_is.refuted was.refuted planned.refuted at there) (was-undecided at undecided));
    left_apart = λ k d within. unasked (get_or target.left k d) (filter_passes (is_unasked was) open_still k d within);
    pairs = (
      All-filter (is_unasked was) (IsPairVariable c.space own) open_still pairs,
      all-members (IsPairVariable c.space own) group_is.refuted was.refuted planned.refuted begun.pairs.0,
      All-filter (is_among was.undecided) (IsPairVariable c.space own) open_still pairs,
    );
    are_refuted = all-members (λ at. IsRefutedIn (group before) (together was.present at)) group_is.refuted was.refuted planned.refuted begun.are_refuted;
    are_undecided = all-contained (λ at. IsUndecidedIn (group before) (together was.present at)) target.undecided
        (λ at there. All-contains (λ a. IsUndecidedIn (group before) (together was.present a)) was.undecided at begun.are_undecided (was-undecided at there));
    uncovered = (
      All-filter (is_unasked was) (λ at. ¬ IsCovered (matter_in g) before was.claimed (strikers ++ tail) (pair_at c.space at)) open_still none-open,
      All-filter (is_among was.undecided) (λ at. ¬ IsCovered (matter_in g) before was.claimed (strikers ++ tail) (pair_at c.space at)) open_still none-open,
    );
    asked = λ at there left.
        let apart = unasked at (filter-holds (is_unasked was) open_still at left) in
        ⊎_elim
        (λ refuted. apart.0 (among-members was.refuted group_is.refuted (λ q. sym (planned.refuted q)) at refuted))
        (λ more. ⊎_elim
        (λ undecided. true≢false (sym (any-from at was.undecided undecided)
        ∙ (both-true (is_among was.undecided at) (is_among was.refuted at) (filter-holds (is_unasked was) open_still at left)).0))
        (λ covers. All-contains (λ a. ¬ IsCovered (matter_in g) before was.claimed (strikers ++ tail) (pair_at c.space a)) open_still at none-open
        (filter-in (is_unasked was) open_still at left)
        (own-covers at covers.1 (any-there (Covers (matter_in g) (pair_at c.space at)) (installations (group before)) covers) covers.4))
        more)
        (begun.answered at there);
  }
    where
      none-open : All (λ at. ¬ IsCovered (matter_in g) before was.claimed (strikers ++ tail) (pair_at c.space at)) open_still
      none-open k d within = none-of (get_or open_still k d) (pairs k d within) (uncovered k d within)

  pub planned-at : IsGroupAt g before c.space group_is
  planned-at = subst (λ (x : GroupView). IsGroupAt g before c.space x) (sym planned.is) target-at

  pub planned-rest : ((at : ℕ) → IsPairVariable c.space own at → is_covered c w (fixed ++ strikers) at ≡ false → Contains open_still at)
      → CoversRest g before c.space group_is
  planned-rest all = subst (λ (x : GroupView). CoversRest g before c.space x) (sym planned.is) covers
    where
      covers : CoversRest g before c.space target
      covers at v not_left not_refuted not_undecided = by (is_covered c w (fixed ++ strikers) at) refl
        where
          asked : (x y : Bool) → is_among was.undecided at ≡ x → is_among was.refuted at ≡ y → Contains open_still at → ⊥
          asked true y undecided refuted there = not_undecided (in-filter (is_among was.undecided) open_still at there undecided)
          asked false true undecided refuted there = not_refuted (from-any at group_is.refuted (planned.refuted at ∙ refuted))
          asked false false undecided refuted there = not_left (in-filter (is_unasked was) open_still at there
              (both-false (is_among was.undecided at) (is_among was.refuted at) undecided refuted))

          by : (b : Bool) → is_covered c w (fixed ++ strikers) at ≡ b → IsCovered (matter_in g) before was.claimed (strikers ++ tail) (pair_at c.space at)
          by true holds = of-numbers at (some-covers law g before w c own at kept v (fixed ++ strikers) all-kept holds)
          by false lacks = absurd (asked (is_among was.undecided at) (is_among was.refuted at) refl refl (all at v lacks))

-- ---- what is given on

pub planned-fits : (a : AskerView) (w : WindowView) (c : CoveringView) (was group_is : GroupView) (today : ℕ) (strikers tail open_still : List ℕ)
    → FitsBegun a w c was → IsPlanned (strikers ++ tail) open_still was group_is → 1 ≤ w.count → 1 ≤ today → (tail ≡ []) ⊎ (tail ≡ today ∷ [])
    → All (IsStriker w was.present today (length open_still) 0) strikers
    → All (IsPairVariable c.space (slice_index c.space.cluster_of (was.claimed - 1))) open_still → FitsGroup a w c group_is
planned-fits a w c was group_is today strikers tail open_still fits planned some from tail_is strike pairs =
    subst (λ (x : GroupView). FitsGroup a w c x) (sym planned.is) (record {
      begun = record {
        limit = fits.limit;
        variables = fits.variables;
        window = fits.window;
        from_one = fits.from_one;
        upto = fits.upto;
        present = fits.present;
        refuted = all-members (IsPairVariable c.space own) group_is.refuted was.refuted planned.refuted fits.refuted;
        undecided = All-filter (is_among was.undecided) (IsPairVariable c.space own) open_still pairs;
      };
      named = All-append (λ n. 1 ≤ n) strikers tail
          (All-weaker (IsStriker w was.present today (length open_still) 0) (λ n. 1 ≤ n) (λ n striker. low n striker) strikers strike)
          (All-weaker (λ n. n ≡ today) (λ n. 1 ≤ n) (λ n same. omega (arith, same, from)) tail (tail-only tail today tail_is));
      some = λ none. some;
      left = All-filter (is_unasked was) (IsPairVariable c.space own) open_still pairs;
    })
  where
    own : ℕ
    own = slice_index c.space.cluster_of (was.claimed - 1)

    low : (n : ℕ) → IsStriker w was.present today (length open_still) 0 n → 1 ≤ n
    low n striker = omega (arith, striker.above)
