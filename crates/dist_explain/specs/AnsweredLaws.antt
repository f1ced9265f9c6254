-- Laws of what findings answer, with one finding more. No public clause cites them; proofs of the crates above do.
use Rattle.std.proofs.Common.{◌≡◌, ◌⊎◌, ◌↔◌, inl, inr, ℕ, ◌+◌, ◌≤◌, List, [], ◌∷◌, ◌++◌, refl, sym, ap, subst, ◌∙◌}
use Rattle.std.proofs.Common.{arith, append_assoc, Bool, true, false, cond, filter}
use Rattle.std.specs.List.{Any, Contains}
use Rattle.std.specs.List.Sorted.{IsStrictlyIncreasing}
use Rattle.std.proofs.lemmas.Bool.{false≢true}
use Rattle.std.proofs.lemmas.List.Elements.{All-contains, All-contains_itself, All-filter, Contains-append_left}
use Rattle.std.proofs.lemmas.List.Elements.{Contains-push, Contains-push_cases, filter_passes}
use Rattle.dist_base.specs.ListLaws.{any-contained, any-there}
use Rattle.dist_base.specs.RowLaws.{same-numbers}
use Rattle.dist_cert.specs.ClaimRules.{yes}
use Rattle.dist_cert.specs.Form.{Word}
use Rattle.dist_cert.specs.ListLaws.{contains-cases, contains-later}
use Rattle.dist_cert.specs.Rising.{AreRising}
use Rattle.dist_explain.specs.Answered.{AreLast, IsOfRelation, NoneRefuted, RefutesSome, Selects}
use Rattle.dist_explain.specs.declared.asked.Asked.{Asked}
use Rattle.dist_findings.specs.declared.finding.Finding.{Finding}
use Rattle.dist_findings.specs.declared.finding.Finding.TheVariants as finding

-- ---- rising numbers

pub increasing-from : (numbers : List ℕ) → AreRising numbers → IsStrictlyIncreasing numbers
increasing-from numbers rising k within = rising k (k + 1) 0 (omega arith) within

pub one-rising : (xs ys : List ℕ) → AreRising xs → AreRising ys → ((k : ℕ) → Contains xs k ↔ Contains ys k) → ys ≡ xs
one-rising xs ys first second same =
    same-numbers xs ys (increasing-from xs first) (increasing-from ys second) (λ k. (same k).0) (λ k. (same k).1)

-- ---- what a filter keeps

kept-there : (p : ℕ → Bool) (xs : List ℕ) (x : ℕ) → Contains xs x → p x ≡ true → Contains (filter p xs) x
kept-there p [] x there holds = absurd (omega (arith, there.1))
kept-there p (y ∷ xs) x there holds = elim (contains-cases y xs x there) [
  | inl same ↦ by (p y) (ap p same ∙ holds) (inl same)
  | inr later ↦ by-any (p y) (kept-there p xs x later holds)
]
  where
    by : (b : Bool) → b ≡ true → (y ≡ x) ⊎ Contains (filter p xs) x
        → Contains (cond b (y ∷ filter p xs) (filter p xs)) x
    by true is (inl same) = (0, omega arith, same)
    by true is (inr later) = contains-later y (filter p xs) x later
    by false is some = absurd (false≢true is)

    by-any : (b : Bool) → Contains (filter p xs) x → Contains (cond b (y ∷ filter p xs) (filter p xs)) x
    by-any true later = contains-later y (filter p xs) x later
    by-any false later = later

pub kept : (p : ℕ → Bool) (xs : List ℕ) (x : ℕ) → Contains (filter p xs) x ↔ (Contains xs x × (p x ≡ true))
kept p xs x = (
  (λ there. (
    All-contains (Contains xs) (filter p xs) x (All-filter p (Contains xs) xs (All-contains_itself xs)) there,
    All-contains (λ y. p y ≡ true) (filter p xs) x (filter_passes p xs) there,
  )),
  (λ both. kept-there p xs x both.0 both.1),
)

-- ---- one element more

pub any-push : {X : Type 0} (P : X → Type 0) (xs : List X) (x : X) → Any P (xs ++ x ∷ []) ↔ (Any P xs ⊎ P x)
any-push P xs x = (
  (λ any. elim (Contains-push_cases xs x any.1 (any-there P (xs ++ x ∷ []) any)) [
    | inl there ↦ inl (any-contained P xs any.1 there any.4)
    | inr same ↦ inr (subst P (sym same) any.4)
  ]),
  (λ some. elim some [
    | inl any ↦ any-contained P (xs ++ x ∷ []) any.1 (Contains-append_left xs (x ∷ []) any.1 (any-there P xs any)) any.4
    | inr holds ↦ any-contained P (xs ++ x ∷ []) x (Contains-push xs x) holds
  ]),
)

pub none-any : {X : Type 0} (P : X → Type 0) → ¬ Any P []
none-any P any = omega (arith, any.2)

-- ---- the relations of a question are one list

same-relations : (asked : Asked) (question : List Word) (numbers others : List ℕ) → asked.number ≤ asked.packages
    → Selects asked question numbers → Selects asked question others → (one : ℕ) → Contains numbers one
    → Contains others one
same-relations asked question numbers others upto first second one there =
    let Is : ℕ → Type 0 = λ n. yes (asked.packages + one) ≡ yes (asked.packages + n) in
    let First : ℕ → Type 0 = λ n. yes (asked.packages + one) ≡ yes (asked.packages + n) in
    let range = All-contains (IsOfRelation asked) numbers one first.in_range there in
    let word = (first.exact (yes (asked.packages + one))).1 (inr (any-contained First numbers one there refl)) in
    elim ((second.exact (yes (asked.packages + one))).0 word) [
      | inl same ↦ let e = ap (λ (w : Word). w.0) same in absurd (omega (arith, e, range.0, upto))
      | inr any ↦
          let e = ap (λ (w : Word). w.0) any.4 in
          let same : any.1 ≡ one = omega (arith, e) in
          subst (Contains others) same (any-there Is others any)
    ]

pub selects-one : (asked : Asked) (question : List Word) (numbers others : List ℕ) → asked.number ≤ asked.packages
    → Selects asked question numbers → Selects asked question others → others ≡ numbers
selects-one asked question numbers others upto first second =
    one-rising numbers others first.rising second.rising (λ k. (
      same-relations asked question numbers others upto first second k,
      same-relations asked question others numbers upto second first k,
    ))

-- ---- one finding more

pub none-more : (asked : Asked) (found : List Finding) (f : Finding) → NoneRefuted asked found
    → ¬ RefutesSome asked f → NoneRefuted asked (found ++ f ∷ [])
none-more asked found f none not any = elim ((any-push (RefutesSome asked) found f).0 any) [
  | inl before ↦ none before
  | inr here ↦ not here
]

pub last-more : (asked : Asked) (found : List Finding) (numbers : List ℕ) (later : List Finding) (f : Finding)
    → AreLast asked found numbers later → ¬ RefutesSome asked f
    → AreLast asked (found ++ f ∷ []) numbers (later ++ f ∷ [])
last-more asked found numbers later f is not = record {
  earlier = is.earlier;
  question = is.question;
  stands = ap (λ (fs : List Finding). fs ++ f ∷ []) is.stands
      ∙ append_assoc is.earlier (finding.Refuted is.question ∷ later) (f ∷ []);
  selects = is.selects;
  none_later = none-more asked later f is.none_later not;
}

pub last-new : (asked : Asked) (found : List Finding) (question : List Word) (numbers : List ℕ)
    → Selects asked question numbers → AreLast asked (found ++ finding.Refuted question ∷ []) numbers []
last-new asked found question numbers selects = record {
  earlier = found;
  question = question;
  stands = refl;
  selects = selects;
  none_later = none-any (RefutesSome asked);
}
