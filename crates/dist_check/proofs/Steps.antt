-- What is kept, with one line more.
use Rattle.std.proofs.Common.{◌≡◌, ◌≢◌, ◌⊎◌, inl, inr, ℕ, zero, suc, ◌+◌, ◌-◌, ◌↔◌, ◌==◌, Bool, true, false, List, [], ◌∷◌, ◌++◌, Option, Some, None}
use Rattle.std.proofs.Common.{◌||◌, length, drop, refl, sym, ap, subst, ◌∙◌, arith, length-append, if◌then◌else◌}
use Rattle.std.specs.List.{All, Contains}
use Rattle.std.proofs.lemmas.Bool.{true≢false, false≢true, and_parts, and_from, or_cases, or_left, or_right, eqb-true, eq-eqb}
use Rattle.std.proofs.lemmas.List.{append-nil, drop-append-le, drop-drop, length-drop, get_or_append_left, get_or_at}
use Rattle.std.proofs.lemmas.List.Elements.{All-nil, All-push}
use Rattle.std.proofs.lemmas.List.Quantifiers.{Any-push}
use Rattle.std.proofs.lemmas.Grind.{flat_map-append}
use Rattle.dist_cert.specs.declared.TheConstants.{REACH}
use Rattle.dist_cert.specs.declared.records.CertRecord.{CertRecord}
use Rattle.dist_cert.specs.declared.records.CertRecord.TheVariants as lines
use Rattle.dist_cert.specs.Form.{Word}
use Rattle.dist_cert.specs.Groups.{installed_in, installations, is_claim, group, IsOpen, IsRefutedIn, IsUndecidedIn}
use Rattle.dist_cert.specs.ClaimRules.{yes, no}
use Rattle.dist_cert.specs.Rising.{is_among}
use Rattle.dist_check_group.specs.Window.{latest}
use Rattle.dist_cert.specs.declared.records.CertKind.{CertKind}
use Rattle.dist_cert.specs.declared.records.CertKind.TheVariants as kinds
use Rattle.dist_check_group.specs.Closed.{ClosedView, asks_alone, asks_own, asks_together, asks_without, none_closed, Closes}
use Rattle.dist_check_group.specs.Common.{narrowed, common_with}
use Rattle.dist_check_group.specs.Group.{GroupView, Grows, empty_group}
use Rattle.dist_check_group.specs.Layout.{LayoutView}
use Rattle.dist_check_state.specs.State.{Notes}
use Rattle.dist_check.specs.AtPrivate.{AreClosed, IsCommonOf, IsGathered, IsGroupOf, own_question}
use Rattle.dist_check.specs.CoverPrivate.{IsCoverOf}
use Rattle.dist_check.proofs.CoverSteps.{any-append, cover-first, cover-push, filter-has}
use Rattle.dist_cert.specs.ListLaws.{any-from, from-any}
use Rattle.dist_cert.specs.GroupLaws.{IsAsked, one-open, closed-push, closed-more, closed-here, none-closed, group-push}
use Rattle.dist_cert.specs.GroupLaws.{group-claim, asked-in-group}

-- ---- lists that grow with the lines

pub installed-push : (before : List CertRecord) (step : CertRecord) → installations (before ++ step ∷ []) ≡ installations before ++ installed_in step
installed-push before step = flat_map-append installed_in before (step ∷ [])
    ∙ ap (λ (ms : List (List ℕ)). installations before ++ ms) (append-nil (installed_in step))

-- nothing installed
pub installed-same : (before : List CertRecord) (step : CertRecord) → installed_in step ≡ [] → installations before ≡ installations (before ++ step ∷ [])
installed-same before step none = sym (installed-push before step ∙ ap (λ (ms : List (List ℕ)). installations before ++ ms) none
    ∙ append-nil (installations before))

-- the latest installations, with one more
pub latest-push : (all : List (List ℕ)) (members : List ℕ) → latest (latest all ++ members ∷ []) ≡ latest (all ++ members ∷ [])
latest-push all members =
    let size : length (latest all) ≡ length all - (length all - REACH) = length-drop (length all - REACH) all in
    let front : drop (length all - REACH) (all ++ members ∷ []) ≡ latest all ++ members ∷ [] =
    drop-append-le (length all - REACH) all (members ∷ []) (omega arith) in
    let few : length (latest all ++ members ∷ []) - REACH + (length all - REACH) ≡ length (all ++ members ∷ []) - REACH
    = omega (arith, size, length-append (latest all) (members ∷ []), length-append all (members ∷ [])) in
    ap (λ (xs : List (List ℕ)). drop (length (latest all ++ members ∷ []) - REACH) xs) (sym front)
    ∙ drop-drop (length (latest all ++ members ∷ []) - REACH) (length all - REACH) (all ++ members ∷ [])
    ∙ ap (λ (n : ℕ). drop n (all ++ members ∷ [])) (omega (arith, few))

-- ---- closed questions

-- a line that closes nothing in that way
pub refuted-same : (before : List CertRecord) (step : CertRecord) (question : List Word) → ((hints : List ℕ) → step ≢ lines.Refuted hints)
    → IsRefutedIn before question ↔ IsRefutedIn (before ++ step ∷ []) question
refuted-same before step question never = (
  (λ closed. (closed.0, closed-more before (step ∷ []) question (lines.Refuted closed.0) closed.1)),
  λ closed. elim (closed-push before step question (lines.Refuted closed.0) closed.1) [
    | inl earlier ↦ (closed.0, earlier)
    | inr here ↦ absurd (never closed.0 here.0)
  ],
)

pub undecided-same : (before : List CertRecord) (step : CertRecord) (question : List Word) → step ≢ lines.Undecided → IsUndecidedIn before question
    ↔ IsUndecidedIn (before ++ step ∷ []) question
undecided-same before step question never = (
  (λ closed. closed-more before (step ∷ []) question lines.Undecided closed),
  λ closed. elim (closed-push before step question lines.Undecided closed) [
    | inl earlier ↦ earlier
    | inr here ↦ absurd (never here.0)
  ],
)

-- a line that closes the open question
refuted-more : (before : List CertRecord) (hints : List ℕ) (asked : List Word) → IsAsked before asked → (question : List Word)
    → IsRefutedIn (before ++ lines.Refuted hints ∷ []) question ↔ ((asked ≡ question) ⊎ IsRefutedIn before question)
refuted-more before hints asked is question = (
  (λ closed. elim (closed-push before (lines.Refuted hints) question (lines.Refuted closed.0) closed.1) [
    | inl earlier ↦ inr (closed.0, earlier)
    | inr here ↦ inl (one-open before is.0 here.1.0 asked question is.1 here.1.1 is.2 here.1.2).1
  ]),
  λ either. elim either [
    | inl same ↦ (hints, closed-here before question (lines.Refuted hints) (subst (IsAsked before) same is))
    | inr earlier ↦ (earlier.0, closed-more before (lines.Refuted hints ∷ []) question (lines.Refuted earlier.0) earlier.1)
  ],
)

undecided-more : (before : List CertRecord) (asked : List Word) → IsAsked before asked → (question : List Word)
    → IsUndecidedIn (before ++ lines.Undecided ∷ []) question ↔ ((asked ≡ question) ⊎ IsUndecidedIn before question)
undecided-more before asked is question = (
  (λ closed. elim (closed-push before lines.Undecided question lines.Undecided closed) [
    | inl earlier ↦ inr earlier
    | inr here ↦ inl (one-open before is.0 here.1.0 asked question is.1 here.1.1 is.2 here.1.2).1
  ]),
  λ either. elim either [
    | inl same ↦ closed-here before question lines.Undecided (subst (IsAsked before) same is)
    | inr earlier ↦ closed-more before (lines.Undecided ∷ []) question lines.Undecided earlier
  ],
)

-- ---- which question was asked

alone-is : (p : ℕ) (question : List Word) → (asks_alone p question ≡ true) ↔ (question ≡ yes p ∷ [])
alone-is p [] = ((λ e. absurd (false≢true e)), λ e. absurd (let n = ap (λ (ws : List Word). length ws) e in omega (arith, n)))
alone-is p ((v, true) ∷ []) = ((λ e. ap (λ (n : ℕ). yes n ∷ []) (eqb-true v p e)), λ e. eq-eqb v p (ap first-number e))
  where
    first-number : List Word → ℕ
    first-number [] = 0
    first-number (w ∷ ws) = w.0
alone-is p ((v, false) ∷ []) = ((λ e. absurd (false≢true e)), λ e. absurd (false≢true (ap first-sign e)))
  where
    first-sign : List Word → Bool
    first-sign [] = false
    first-sign (w ∷ ws) = w.1
alone-is p ((v, true) ∷ w ∷ ws) = ((λ e. absurd (false≢true e)), λ e. absurd (let n = ap (λ (xs : List Word). length xs) e in omega (arith, n)))
alone-is p ((v, false) ∷ w ∷ ws) = ((λ e. absurd (false≢true e)), λ e. absurd (let n = ap (λ (xs : List Word). length xs) e in omega (arith, n)))

word-number : ℕ → List Word → ℕ
word-number zero [] = 0
word-number zero (w ∷ ws) = w.0
word-number (suc k) [] = 0
word-number (suc k) (w ∷ ws) = word-number k ws

word-sign : ℕ → List Word → Bool
word-sign zero [] = false
word-sign zero (w ∷ ws) = w.1
word-sign (suc k) [] = false
word-sign (suc k) (w ∷ ws) = word-sign k ws

size-apart : (a b : List Word) → length a ≢ length b → a ≢ b
size-apart a b apart e = apart (ap (λ (ws : List Word). length ws) e)

without-is : (p : ℕ) (question : List Word) (q : ℕ) → (asks_without p question q ≡ true) ↔ (question ≡ yes p ∷ no q ∷ [])
unfolding word-number word-sign
without-is p [] q = ((λ e. absurd (false≢true e)), λ e. absurd (let n = ap (λ (ws : List Word). length ws) e in omega (arith, n)))
without-is p ((v, true) ∷ []) q = ((λ e. absurd (false≢true e)), λ e. absurd (let n = ap (λ (ws : List Word). length ws) e in omega (arith, n)))
without-is p ((v, false) ∷ []) q = ((λ e. absurd (false≢true e)), λ e. absurd (let n = ap (λ (ws : List Word). length ws) e in omega (arith, n)))
without-is p ((v, true) ∷ (w, false) ∷ []) q = (
  (λ e.
      let parts = and_parts (v == p) (q == w) e in
      ap (λ (n : ℕ). yes n ∷ (w, false) ∷ []) (eqb-true v p parts.0) ∙ ap (λ (n : ℕ). yes p ∷ no n ∷ []) (sym (eqb-true q w parts.1))),
  λ e. and_from (v == p) (q == w) (eq-eqb v p (ap (word-number 0) e)) (eq-eqb q w (sym (ap (word-number 1) e))),
)
without-is p ((v, false) ∷ (w, false) ∷ []) q = ((λ e. absurd (false≢true e)), λ e. absurd (false≢true (ap (word-sign 0) e)))
without-is p ((v, true) ∷ (w, true) ∷ []) q = ((λ e. absurd (false≢true e)), λ e. absurd (true≢false (ap (word-sign 1) e)))
without-is p ((v, false) ∷ (w, true) ∷ []) q = ((λ e. absurd (false≢true e)), λ e. absurd (false≢true (ap (word-sign 0) e)))
without-is p ((v, true) ∷ (w, false) ∷ x ∷ ws) q = (
  (λ e. absurd (false≢true e)),
  λ e. absurd (let n = ap (λ (xs : List Word). length xs) e in omega (arith, n)),
)
without-is p ((v, true) ∷ (w, true) ∷ x ∷ ws) q = ((λ e. absurd (false≢true e)), λ e. absurd (let n = ap (λ (xs : List Word). length xs) e in omega (arith, n)))
without-is p ((v, false) ∷ (w, false) ∷ x ∷ ws) q = (
  (λ e. absurd (false≢true e)),
  λ e. absurd (let n = ap (λ (xs : List Word). length xs) e in omega (arith, n)),
)
without-is p ((v, false) ∷ (w, true) ∷ x ∷ ws) q = (
  (λ e. absurd (false≢true e)),
  λ e. absurd (let n = ap (λ (xs : List Word). length xs) e in omega (arith, n)),
)

together-is : (p : ℕ) (question : List Word) (q : ℕ) → (asks_together p question q ≡ true) ↔ (question ≡ yes p ∷ yes q ∷ [])
unfolding word-number word-sign
together-is p [] q = ((λ e. absurd (false≢true e)), λ e. absurd (let n = ap (λ (ws : List Word). length ws) e in omega (arith, n)))
together-is p ((v, true) ∷ []) q = ((λ e. absurd (false≢true e)), λ e. absurd (let n = ap (λ (ws : List Word). length ws) e in omega (arith, n)))
together-is p ((v, false) ∷ []) q = ((λ e. absurd (false≢true e)), λ e. absurd (let n = ap (λ (ws : List Word). length ws) e in omega (arith, n)))
together-is p ((v, true) ∷ (w, true) ∷ []) q = (
  (λ e.
      let parts = and_parts (v == p) (q == w) e in
      ap (λ (n : ℕ). yes n ∷ (w, true) ∷ []) (eqb-true v p parts.0) ∙ ap (λ (n : ℕ). yes p ∷ yes n ∷ []) (sym (eqb-true q w parts.1))),
  λ e. and_from (v == p) (q == w) (eq-eqb v p (ap (word-number 0) e)) (eq-eqb q w (sym (ap (word-number 1) e))),
)
together-is p ((v, false) ∷ (w, true) ∷ []) q = ((λ e. absurd (false≢true e)), λ e. absurd (false≢true (ap (word-sign 0) e)))
together-is p ((v, true) ∷ (w, false) ∷ []) q = ((λ e. absurd (false≢true e)), λ e. absurd (false≢true (ap (word-sign 1) e)))
together-is p ((v, false) ∷ (w, false) ∷ []) q = ((λ e. absurd (false≢true e)), λ e. absurd (false≢true (ap (word-sign 0) e)))
together-is p ((v, true) ∷ (w, true) ∷ x ∷ ws) q = (
  (λ e. absurd (false≢true e)),
  λ e. absurd (let n = ap (λ (xs : List Word). length xs) e in omega (arith, n)),
)
together-is p ((v, true) ∷ (w, false) ∷ x ∷ ws) q = (
  (λ e. absurd (false≢true e)),
  λ e. absurd (let n = ap (λ (xs : List Word). length xs) e in omega (arith, n)),
)
together-is p ((v, false) ∷ (w, true) ∷ x ∷ ws) q = (
  (λ e. absurd (false≢true e)),
  λ e. absurd (let n = ap (λ (xs : List Word). length xs) e in omega (arith, n)),
)
together-is p ((v, false) ∷ (w, false) ∷ x ∷ ws) q = (
  (λ e. absurd (false≢true e)),
  λ e. absurd (let n = ap (λ (xs : List Word). length xs) e in omega (arith, n)),
)

own-is : (kind : CertKind) (p : ℕ) (question : List Word) → (asks_own kind p question ≡ true) ↔ (question ≡ own_question kind p)
own-is kinds.Strong p question = alone-is p question
own-is kinds.Outdated p question = alone-is p question
own-is kinds.Challenged p question = together-is 1 question p

-- a test of what was asked last or before
either-closed : (asks before : Bool) (asked question : List Word) (Old New : List Word → Type 0) (now : Bool)
    → now ≡ (asks || before) → ((asks ≡ true) ↔ (asked ≡ question)) → ((before ≡ true) ↔ Old question)
    → (New question ↔ ((asked ≡ question) ⊎ Old question)) → (now ≡ true) ↔ New question
either-closed asks before asked question Old New now is tests held more = (
  (λ e. more.1 (elim (or_cases asks before (sym is ∙ e)) [
    | inl here ↦ inl (tests.0 here)
    | inr earlier ↦ inr (held.0 earlier)
  ])),
  λ closed. is ∙ elim (more.0 closed) [
    | inl here ↦ or_left asks before (tests.1 here)
    | inr earlier ↦ or_right asks before (held.1 earlier)
  ],
)

-- one question more
more-closed : (Old New : List Word → Type 0) (kind : CertKind) (p : ℕ) (asked : List Word) (old new : ClosedView)
    → ((question : List Word) → New question ↔ ((asked ≡ question) ⊎ Old question)) → Closes kind p asked old new → AreClosed Old kind p old
    → AreClosed New kind p new
more-closed Old New kind p asked old new more closes are = record {
  alone = either-closed (asks_own kind p asked) old.alone asked (own_question kind p) Old New new.alone closes.alone (own-is kind p asked) are.alone
      (more (own_question kind p));
  without = λ q. either-closed (asks_without p asked q) (is_among old.without q) asked (yes p ∷ no q ∷ []) Old New (is_among new.without q)
      (closes.without q) (without-is p asked q) (are.without q) (more (yes p ∷ no q ∷ []));
  together = λ q. either-closed (asks_together p asked q) (is_among old.together q) asked (yes p ∷ yes q ∷ []) Old New (is_among new.together q)
      (closes.together q) (together-is p asked q) (are.together q) (more (yes p ∷ yes q ∷ []));
}

both-ways : {A B C : Type 0} → A ↔ B → (B ↔ C) → A ↔ C
both-ways first second = ((λ a. second.0 (first.0 a)), λ c. first.1 (second.1 c))

same-closed : (Old New : List Word → Type 0) (kind : CertKind) (p : ℕ) (closed : ClosedView) → ((question : List Word) → Old question ↔ New question)
    → AreClosed Old kind p closed → AreClosed New kind p closed
same-closed Old New kind p closed same are = record {
  alone = both-ways are.alone (same (own_question kind p));
  without = λ q. both-ways (are.without q) (same (yes p ∷ no q ∷ []));
  together = λ q. both-ways (are.together q) (same (yes p ∷ yes q ∷ []));
}

-- ---- what installations have in common

all-front : {X : Type 0} (P : X → Type 0) (xs : List X) (x : X) → All P (xs ++ x ∷ []) → All P xs
all-front P xs x all k d within = subst P (get_or_append_left xs (x ∷ []) d k within) (all k d (omega (arith, within, length-append xs (x ∷ []))))

all-last : {X : Type 0} (P : X → Type 0) (xs : List X) (x : X) → All P (xs ++ x ∷ []) → P x
all-last P xs x all = subst P (get_or_at xs x [] x (length xs) refl) (all (length xs) x (omega (arith, length-append xs (x ∷ []))))

pub common-push : (all : List (List ℕ)) (p : ℕ) (members : List ℕ) (common : Option (List ℕ)) → IsCommonOf all p common
    → IsCommonOf (all ++ members ∷ []) p (common_with p members common)
common-push all p members common is = by (is_among members p) refl common is
  where
    Has : List ℕ → Type 0
    Has m = Contains m p

    by : (b : Bool) → is_among members p ≡ b → (c : Option (List ℕ)) → IsCommonOf all p c
        → IsCommonOf (all ++ members ∷ []) p (if b then Some (narrowed c members) else c)
    by false absent None none = All-push (λ m. ¬ Contains m p) all members none (λ there. false≢true (sym absent ∙ any-from p members there))
    by false absent (Some c) h = (
      any-append (λ m. Contains m p) all members h.0,
      λ q. (
        (λ there. All-push (λ m. Contains m p → Contains m q) all members ((h.1 q).0 there)
            (λ holds. absurd (false≢true (sym absent ∙ any-from p members holds)))),
        λ each. (h.1 q).1 (all-front (λ m. Contains m p → Contains m q) all members each),
      ),
    )
    by true there None none = (
      Any-push (λ m. Contains m p) all members (from-any p members there),
      λ q. (
        (λ here. All-push (λ m. Contains m p → Contains m q) all members (λ k d within holds. absurd (none k d within holds)) (λ holds. here)),
        λ each. all-last (λ m. Contains m p → Contains m q) all members each (from-any p members there),
      ),
    )
    by true there (Some c) h = (
      any-append (λ m. Contains m p) all members h.0,
      λ q. (
        (λ here.
            let both = (filter-has members c q).0 here in
            All-push (λ m. Contains m p → Contains m q) all members ((h.1 q).0 both.0) (λ holds. both.1)),
        λ each. (filter-has members c q).1 (
          (h.1 q).1 (all-front (λ m. Contains m p → Contains m q) all members each),
          all-last (λ m. Contains m p → Contains m q) all members each (from-any p members there),
        ),
      ),
    )

-- ---- groups

closed-first : (Is : List Word → Type 0) (kind : CertKind) (p : ℕ) → ((question : List Word) → ¬ Is question) → AreClosed Is kind p none_closed
closed-first Is kind p none = record {
  alone = ((λ e. absurd (false≢true e)), λ h. absurd (none (own_question kind p) h));
  without = λ q. ((λ e. absurd (false≢true e)), λ h. absurd (none (yes p ∷ no q ∷ []) h));
  together = λ q. ((λ e. absurd (false≢true e)), λ h. absurd (none (yes p ∷ yes q ∷ []) h));
}

gathered-first : (kind : CertKind) (layout : LayoutView) (p : ℕ) → IsGathered kind layout [] p empty_group
gathered-first kinds.Strong layout p = All-nil (λ m. ¬ Contains m p)
gathered-first kinds.Outdated layout p = tt
gathered-first kinds.Challenged layout p = cover-first layout p

pub group-first : (layout : LayoutView) (p : ℕ) → IsGroupOf layout [] p empty_group
group-first layout p = record {
  refuted = closed-first (IsRefutedIn []) layout.kind p (λ question h. none-closed question (lines.Refuted h.0) h.1);
  undecided = closed-first (IsUndecidedIn []) layout.kind p (λ question h. none-closed question lines.Undecided h);
  gathered = gathered-first layout.kind layout p;
}

-- a line that closes nothing and installs nothing
pub group-same : (layout : LayoutView) (before : List CertRecord) (step : CertRecord) (p : ℕ) (kept : GroupView) → is_claim step ≡ false
    → installed_in step ≡ [] → ((hints : List ℕ) → step ≢ lines.Refuted hints) → step ≢ lines.Undecided
    → IsGroupOf layout (group before) p kept → IsGroupOf layout (group (before ++ step ∷ [])) p kept
group-same layout before step p kept no_claim none never_refuted never_undecided is =
    subst (λ ls. IsGroupOf layout ls p kept) (sym (group-push before step no_claim)) (record {
      refuted = same-closed (IsRefutedIn (group before)) (IsRefutedIn (group before ++ step ∷ [])) layout.kind p kept.refuted
          (λ question. refuted-same (group before) step question never_refuted) is.refuted;
      undecided = same-closed (IsUndecidedIn (group before)) (IsUndecidedIn (group before ++ step ∷ [])) layout.kind p kept.undecided
          (λ question. undecided-same (group before) step question never_undecided) is.undecided;
      gathered = subst (λ ms. IsGathered layout.kind layout ms p kept) (installed-same (group before) step none) is.gathered;
    })

-- ---- one installation more

grown-kept : (kind : CertKind) (layout : LayoutView) (p : ℕ) (members : List ℕ) (old new : GroupView) → Grows kind layout p members old new
    → (new.refuted ≡ old.refuted) × (new.undecided ≡ old.undecided)
grown-kept kinds.Strong layout p members old new grows = (ap (λ (g : GroupView). g.refuted) grows, ap (λ (g : GroupView). g.undecided) grows)
grown-kept kinds.Outdated layout p members old new grows = (ap (λ (g : GroupView). g.refuted) grows, ap (λ (g : GroupView). g.undecided) grows)
grown-kept kinds.Challenged layout p members old new grows =
    (ap (λ (g : GroupView). g.refuted) grows.0, ap (λ (g : GroupView). g.undecided) grows.0)

grown-gathers : (kind : CertKind) (layout : LayoutView) (all : List (List ℕ)) (p : ℕ) (members : List ℕ) (old new : GroupView)
    → Grows kind layout p members old new → IsGathered kind layout all p old → IsGathered kind layout (all ++ members ∷ []) p new
grown-gathers kinds.Strong layout all p members old new grows is =
    subst (IsCommonOf (all ++ members ∷ []) p) (sym (ap (λ (g : GroupView). g.common) grows)) (common-push all p members old.common is)
grown-gathers kinds.Outdated layout all p members old new grows is = tt
grown-gathers kinds.Challenged layout all p members old new grows is = cover-push layout all p members old.cover new.cover is grows.1

pub group-installed : (layout : LayoutView) (before : List CertRecord) (variables : List ℕ) (p : ℕ) (old new : GroupView)
    → Grows layout.kind layout p variables old new → IsGroupOf layout (group before) p old
    → IsGroupOf layout (group (before ++ lines.Installation variables ∷ [])) p new
group-installed layout before variables p old new grows is =
    let step = lines.Installation variables in
    let kept = grown-kept layout.kind layout p variables old new grows in
    subst (λ ls. IsGroupOf layout ls p new) (sym (group-push before step refl)) (record {
      refuted = subst (AreClosed (IsRefutedIn (group before ++ step ∷ [])) layout.kind p) (sym kept.0)
          (same-closed (IsRefutedIn (group before)) (IsRefutedIn (group before ++ step ∷ [])) layout.kind p old.refuted
          (λ question. refuted-same (group before) step question (λ hints e. cc)) is.refuted);
      undecided = subst (AreClosed (IsUndecidedIn (group before ++ step ∷ [])) layout.kind p) (sym kept.1)
          (same-closed (IsUndecidedIn (group before)) (IsUndecidedIn (group before ++ step ∷ [])) layout.kind p old.undecided
          (λ question. undecided-same (group before) step question (λ e. cc)) is.undecided);
      gathered = subst (λ ms. IsGathered layout.kind layout ms p new) (sym (installed-push (group before) step))
          (grown-gathers layout.kind layout (installations (group before)) p variables old new grows is.gathered);
    })

-- ---- the question that is open is asked in the group

asked-there : (before earlier : List CertRecord) (question : List Word) (since : List CertRecord) → IsOpen before earlier question since
    → IsAsked (group before) question
asked-there before earlier question since x =
    let in_group = asked-in-group earlier question since x.left_open in
    (in_group.0, since, record { ends = ap group x.ends ∙ in_group.1; left_open = x.left_open })

-- what is gathered goes by the installations alone
gathered-like : (kind : CertKind) (layout : LayoutView) (all : List (List ℕ)) (p : ℕ) (old new : GroupView) → new.common ≡ old.common
    → new.cover ≡ old.cover → IsGathered kind layout all p old → IsGathered kind layout all p new
gathered-like kinds.Strong layout all p old new common cover is = subst (IsCommonOf all p) (sym common) is
gathered-like kinds.Outdated layout all p old new common cover is = tt
gathered-like kinds.Challenged layout all p old new common cover is = subst (IsCoverOf layout all p) (sym cover) is

pub group-refuted : (layout : LayoutView) (before earlier : List CertRecord) (asked : List Word) (since : List CertRecord) (hints : List ℕ) (p : ℕ)
    (old new : GroupView) → IsOpen before earlier asked since → Notes true layout.kind p asked old new → IsGroupOf layout (group before) p old
    → IsGroupOf layout (group (before ++ lines.Refuted hints ∷ [])) p new
group-refuted layout before earlier asked since hints p old new x notes is =
    let step = lines.Refuted hints in
    subst (λ ls. IsGroupOf layout ls p new) (sym (group-push before step refl)) (record {
      refuted = more-closed (IsRefutedIn (group before)) (IsRefutedIn (group before ++ step ∷ [])) layout.kind p asked old.refuted new.refuted
          (refuted-more (group before) hints asked (asked-there before earlier asked since x)) notes.1 is.refuted;
      undecided = subst (AreClosed (IsUndecidedIn (group before ++ step ∷ [])) layout.kind p) (sym (ap (λ (g : GroupView). g.undecided) notes.0))
          (same-closed (IsUndecidedIn (group before)) (IsUndecidedIn (group before ++ step ∷ [])) layout.kind p old.undecided
          (λ question. undecided-same (group before) step question (λ e. cc)) is.undecided);
      gathered = gathered-like layout.kind layout (installations (group before ++ step ∷ [])) p old new (ap (λ (g : GroupView). g.common) notes.0)
          (ap (λ (g : GroupView). g.cover) notes.0)
          (subst (λ ms. IsGathered layout.kind layout ms p old) (installed-same (group before) step refl) is.gathered);
    })

pub group-undecided : (layout : LayoutView) (before earlier : List CertRecord) (asked : List Word) (since : List CertRecord) (p : ℕ)
    (old new : GroupView) → IsOpen before earlier asked since → Notes false layout.kind p asked old new → IsGroupOf layout (group before) p old
    → IsGroupOf layout (group (before ++ lines.Undecided ∷ [])) p new
group-undecided layout before earlier asked since p old new x notes is =
    let step = lines.Undecided in
    subst (λ ls. IsGroupOf layout ls p new) (sym (group-push before step refl)) (record {
      undecided = more-closed (IsUndecidedIn (group before)) (IsUndecidedIn (group before ++ step ∷ [])) layout.kind p asked old.undecided new.undecided
          (undecided-more (group before) asked (asked-there before earlier asked since x)) notes.1 is.undecided;
      refuted = subst (AreClosed (IsRefutedIn (group before ++ step ∷ [])) layout.kind p) (sym (ap (λ (g : GroupView). g.refuted) notes.0))
          (same-closed (IsRefutedIn (group before)) (IsRefutedIn (group before ++ step ∷ [])) layout.kind p old.refuted
          (λ question. refuted-same (group before) step question (λ hints e. cc)) is.refuted);
      gathered = gathered-like layout.kind layout (installations (group before ++ step ∷ [])) p old new (ap (λ (g : GroupView). g.common) notes.0)
          (ap (λ (g : GroupView). g.cover) notes.0)
          (subst (λ ms. IsGathered layout.kind layout ms p old) (installed-same (group before) step refl) is.gathered);
    })

pub group-after_claim : (layout : LayoutView) (before : List CertRecord) (step : CertRecord) (p : ℕ) → is_claim step ≡ true
    → IsGroupOf layout (group (before ++ step ∷ [])) p empty_group
group-after_claim layout before step p claim =
    subst (λ ls. IsGroupOf layout ls p empty_group) (sym (group-claim before step claim)) (group-first layout p)
