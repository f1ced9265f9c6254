-- The search for an explanation asks few questions: with each refutation fewer relations are left, and behind it there is one
-- question of fewer of these at most, and one without each of these.
use Rattle.std.proofs.Common.{◌≡◌, ◌≢◌, ◌⊎◌, inl, inr, ℕ, ◌+◌, ◌-◌, ◌*◌, ◌<◌, ◌≤◌, Bool, true, false, List, [], ◌∷◌, ◌++◌, Option, Some, None, length, get_or}
use Rattle.std.proofs.Common.{refl, sym, ap, subst, ◌∙◌, arith, append-nil, append_assoc, length-append, mul-add, mul-one, mul_comm, mul-le-mul_left}
use Rattle.std.specs.List.{All, AllPairs, AllPass, Any, Contains}
use Rattle.std.proofs.lemmas.Bool.{cases_lt, false≢true}
use Rattle.std.proofs.lemmas.List.Elements.{All-head, All-nil, All-push, All-tail, Contains-append_left, Contains-append_right, Contains-get_or, Contains-push}
use Rattle.std.proofs.lemmas.List.Quantifiers.{all_pairs_push}
use Rattle.dist_base.specs.ListLaws.{any-contained}
use Rattle.dist_cert.specs.Form.{Word}
use Rattle.dist_cert.specs.Groups.{installations, leaves_open}
use Rattle.dist_cert.specs.Part.{IsAsking}
use Rattle.dist_cert.specs.Rising.{AreRising}
use Rattle.dist_cert.specs.SomeVerdictLaws.{split_push}
use Rattle.dist_cert.specs.declared.records.CertRecord.{CertRecord}
use Rattle.dist_cert.specs.declared.records.CertRecord.TheVariants.{Question, Derived, Refuted, Installation, Undecided}
use Rattle.dist_explain.specs.Answered.{AreAllBut, AreLast, NoneRefuted, RefutesSome, Selects}
use Rattle.dist_explain.specs.AnsweredLaws.{last-more, last-new, none-any, none-more, one-rising, selects-one}
use Rattle.dist_explain.specs.declared.asked.Asked.{Asked}
use Rattle.dist_explain_search.specs.ExplainOrder.{IsCoreQuestion, IsFirstQuestion, IsNextQuestion, IsOneLess}
use Rattle.dist_findings.specs.FindingLaws.{findings_push, open_after}
use Rattle.dist_findings.specs.Findings.{findings, findings_behind, found_at, open_behind}
use Rattle.dist_findings.specs.declared.finding.Finding.{Finding}
use Rattle.dist_findings.specs.declared.finding.Finding.TheVariants as finding
use Rattle.dist_line_write.specs.Script.{AreAsked, Script, header_in, matter_in}
use Rattle.dist_budget.specs.SearchBudget.{explanation_questions}
use Rattle.dist_budget.proofs.Counts.{asked, asked_in, count-push, count-split}
use Rattle.dist_budget.proofs.FewNumbers.{few-of, few-upto}
use Rattle.dist_budget.proofs.Fronts.{GoesOn, by-fronts}
use Rattle.dist_budget.proofs.InquiryLines.{asked-at}
use Rattle.dist_budget.proofs.KeptLines.{AreKept}

-- ---- what lines find behind others

findings-append : (open_still : Option (List Word)) (before more : List CertRecord)
    → findings_behind open_still (before ++ more) ≡ findings_behind open_still before ++ findings_behind (open_after open_still before) more
unfolding findings_behind open_after
findings-append open_still [] more = refl
findings-append open_still (step ∷ before) more =
    ap (λ (fs : List Finding). found_at open_still step ++ fs) (findings-append (open_behind open_still step) before more)
    ∙ sym (append_assoc (found_at open_still step) (findings_behind (open_behind open_still step) before)
    (findings_behind (open_after (open_behind open_still step) before) more))

open-append : (open_still : Option (List Word)) (before more : List CertRecord)
    → open_after open_still (before ++ more) ≡ open_after (open_after open_still before) more
unfolding open_after
open-append open_still [] more = refl
open-append open_still (step ∷ before) more = open-append (open_behind open_still step) before more

-- A question is open still behind derived lines alone, and these find nothing.
record IsStill (question : List Word) (since : List CertRecord) : Type 0 where
  open_still : open_after (Some question) since ≡ Some question
  finds : findings_behind (Some question) since ≡ []

still : (question : List Word) (since : List CertRecord) → AllPass leaves_open since → installations since ≡ [] → IsStill question since
unfolding findings_behind open_after
still question [] left_open none = record { open_still = refl; finds = refl }
still question (Derived literals hints ∷ since) left_open none =
    let rest = still question since (All-tail (λ s. leaves_open s ≡ true) (Derived literals hints) since left_open) none in
    record { open_still = rest.open_still; finds = rest.finds }
still question (Installation variables ∷ since) left_open none = let n = ap length none in absurd (omega (arith, n))
still question (step ∷ since) left_open none = absurd (false≢true (All-head (λ s. leaves_open s ≡ true) step since left_open))

-- the line of a question finds nothing
question-open : (open_still : Option (List Word)) (question : List Word) (since : List CertRecord)
    → (open_after open_still (Question question ∷ since) ≡ open_after (Some question) since)
    × (findings_behind open_still (Question question ∷ since) ≡ findings_behind (Some question) since)
unfolding findings_behind open_after
question-open None question since = (refl, refl)
question-open (Some other) question since = (refl, refl)

-- Behind a question that is asked the findings are those before it, and a refutation is of this question.
record AreFoundBehind (before earlier : List CertRecord) (question : List Word) : Type 0 where
  same : findings before ≡ findings earlier
  refutes : (hints : List ℕ) → findings (before ++ Refuted hints ∷ []) ≡ findings before ++ finding.Refuted question ∷ []

found-behind : (before : List CertRecord) (question : List Word) (since : List CertRecord) (asking : IsAsking before question since)
    → AreFoundBehind before asking.earlier question
found-behind before question since asking =
    let earlier = asking.earlier in
    let rest = still question since asking.opened.left_open asking.no_installation in
    let both = question-open (open_after None earlier) question since in
    let is_open : open_after None before ≡ Some question =
    ap (λ (ls : List CertRecord). open_after None ls) asking.opened.ends ∙ open-append None earlier (Question question ∷ since) ∙ both.0 ∙ rest.open_still in
    record {
      same = ap (λ (ls : List CertRecord). findings ls) asking.opened.ends ∙ findings-append None earlier (Question question ∷ since)
          ∙ ap (λ (fs : List Finding). findings earlier ++ fs) (both.1 ∙ rest.finds) ∙ append-nil (findings earlier);
      refutes = λ hints. findings_push None before (Refuted hints)
          ∙ ap (λ (o : Option (List Word)). findings before ++ found_at o (Refuted hints)) is_open;
    }

-- ---- the last question that is refuted

split-last : (P : Finding → Type 0) (firsts : List Finding) (first : Finding) (more seconds : List Finding) (second : Finding) (rest : List Finding)
    → firsts ++ first ∷ more ≡ seconds ++ second ∷ rest → P first → P second → ¬ Any P more → ¬ Any P rest → second ≡ first
split-last P [] first more [] second rest is one other none also = cc
split-last P [] first more (s ∷ seconds) second rest is one other none also =
    let later : more ≡ seconds ++ second ∷ rest = cc in
    absurd (none (subst (Any P) (sym later)
    (any-contained P (seconds ++ second ∷ rest) second (Contains-append_right seconds (second ∷ rest) second (0, omega arith, refl)) other)))
split-last P (f ∷ firsts) first more [] second rest is one other none also =
    let later : firsts ++ first ∷ more ≡ rest = cc in
    absurd (also (subst (Any P) later
    (any-contained P (firsts ++ first ∷ more) first (Contains-append_right firsts (first ∷ more) first (0, omega arith, refl)) one)))
split-last P (f ∷ firsts) first more (s ∷ seconds) second rest is one other none also =
    split-last P firsts first more seconds second rest (let e : firsts ++ first ∷ more ≡ seconds ++ second ∷ rest = cc in e) one other none also

one-question : (q r : List Word) → finding.Refuted q ≡ finding.Refuted r → q ≡ r
one-question q r is = cc

-- what a line finds that refutes nothing
abbrev RefutesNone : Asked → List Finding → Type 0
RefutesNone of [] = Unit {0}
RefutesNone of (f ∷ []) = ¬ RefutesSome of f
RefutesNone of (f ∷ g ∷ found) = ⊥

abbrev is_refuted : CertRecord → Bool
is_refuted (Refuted hints) = true
is_refuted step = false

refutes-none : (of : Asked) (open_still : Option (List Word)) (step : CertRecord) → is_refuted step ≡ false → RefutesNone of (found_at open_still step)
refutes-none of None (Refuted hints) is = tt
refutes-none of (Some question) (Refuted hints) is = absurd (false≢true (sym is))
refutes-none of None Undecided is = tt
refutes-none of (Some question) Undecided is = λ none. none
refutes-none of None (Installation variables) is = λ none. none
refutes-none of (Some question) (Installation variables) is = λ none. none
refutes-none of None step is = tt
refutes-none of (Some question) step is = tt

-- lines among which no question stands ask nothing
none-asked : (lines : List CertRecord) → ((question : List Word) → ¬ Contains lines (Question question)) → length (asked lines) ≡ 0
none-asked [] none = refl
none-asked (Question question ∷ lines) none = absurd (none question (0, omega arith, refl))
none-asked (step ∷ lines) none = none-asked lines (λ question later. none question (Contains-append_right (step ∷ []) lines (Question question) later))

-- ---- numbers

-- with fewer relations left there is room for one question of fewer and one without each
room : (relations last fewer cores out count : ℕ) → count ≤ 1 + (1 + relations) * (relations - last) + cores + out → cores ≤ 1 → out ≤ last
    → last ≤ relations → fewer < last → count ≤ 1 + (1 + relations) * (relations - fewer)
room relations last fewer cores out count within one few most less =
    let step : relations - last + 1 ≤ relations - fewer = omega (arith, most, less) in
    let wide = mul-le-mul_left (1 + relations) step in
    omega (arith, within, one, few, most, wide, mul-add (1 + relations) (relations - last) 1, mul-one (1 + relations))

-- all together
in-all : (relations last cores out count : ℕ) → count ≤ 1 + (1 + relations) * (relations - last) + cores + out → cores ≤ 1 → cores ≤ last → out ≤ last
    → last ≤ relations → count ≤ explanation_questions relations
in-all relations last cores out count within one fewer few most =
    let square = mul_comm (1 + relations) relations ∙ mul-add relations 1 relations in
    elim (cases_lt 0 last) [
      | inl some ↦
          let step : relations - last + 1 ≤ relations = omega (arith, most, some) in
          let wide = mul-le-mul_left (1 + relations) step in
          omega (arith, within, one, few, most, wide, mul-add (1 + relations) (relations - last) 1, mul-one (1 + relations), square, mul-one relations)
      | inr none ↦
          let step : relations - last ≤ relations = omega arith in
          let wide = mul-le-mul_left (1 + relations) step in
          omega (arith, within, fewer, few, none, wide, square, mul-one relations)
    ]

module _ (of : Asked) (upto : of.number ≤ of.packages) where
  one-last : (found : List Finding) (numbers : List ℕ) (later : List Finding) (others : List ℕ) (more : List Finding) → AreLast of found numbers later
      → AreLast of found others more → others ≡ numbers
  one-last found numbers later others more first second =
      let one = split-last (RefutesSome of) first.earlier (finding.Refuted first.question) later second.earlier (finding.Refuted second.question) more
      (sym first.stands ∙ second.stands) (numbers, first.selects) (others, second.selects) first.none_later second.none_later in
      let same : second.question ≡ first.question = one-question second.question first.question one in
      selects-one of first.question numbers others upto first.selects (subst (λ q. Selects of q others) same second.selects)

  some-refuted : (found : List Finding) (numbers : List ℕ) (later : List Finding) → AreLast of found numbers later → ¬ NoneRefuted of found
  some-refuted found numbers later last none =
      let all : List Finding = last.earlier ++ finding.Refuted last.question ∷ later in
      none (subst (Any (RefutesSome of)) (sym last.stands) (any-contained (RefutesSome of) all (finding.Refuted last.question)
      (Contains-append_right last.earlier (finding.Refuted last.question ∷ later) (finding.Refuted last.question) (0, omega arith, refl))
      (numbers, last.selects)))

  none-further : (found more : List Finding) → RefutesNone of more → NoneRefuted of found → NoneRefuted of (found ++ more)
  none-further found [] none before = subst (NoneRefuted of) (sym (append-nil found)) before
  none-further found (f ∷ []) none before = none-more of found f before none
  none-further found (f ∷ g ∷ more) none before = absurd none

  -- the last is the same behind findings that refute nothing
  last-further : (found more : List Finding) (numbers : List ℕ) (later : List Finding) → RefutesNone of more → AreLast of found numbers later
      → (behind : List Finding) × AreLast of (found ++ more) numbers behind
  last-further found [] numbers later none last = (later, subst (λ fs. AreLast of fs numbers later) (sym (append-nil found)) last)
  last-further found (f ∷ []) numbers later none last = (later ++ f ∷ [], last-more of found numbers later f last none)
  last-further found (f ∷ g ∷ more) numbers later none last = absurd none

  -- ---- relations

  apart-rising : (numbers : List ℕ) → AreRising numbers → AllPairs (λ m n. m ≢ n) numbers
  apart-rising numbers rising i j d before inside same = let less = rising i j d before inside in omega (arith, less, same)

  few-relations : (question : List Word) (numbers : List ℕ) → Selects of question numbers → length numbers ≤ of.relations
  few-relations question numbers selects = few-upto numbers of.relations (apart-rising numbers selects.rising)
      (λ k d inside. (selects.in_range k d inside).0) (λ k d inside. (selects.in_range k d inside).1)

  same-but : (last : List ℕ) (one : ℕ) (numbers others : List ℕ) → AreRising numbers → AreRising others → AreAllBut last one numbers
      → AreAllBut last one others → others ≡ numbers
  same-but last one numbers others first second but also = one-rising numbers others first second (λ k. (
    (λ there. (also.exact k).1 ((but.exact k).0 there)),
    (λ there. (but.exact k).1 ((also.exact k).0 there)),
  ))

  fewer-but : (last : List ℕ) (one : ℕ) (numbers : List ℕ) → AreRising numbers → AreAllBut last one numbers → length numbers < length last
  fewer-but last one numbers rising but =
      let few = few-of (numbers ++ one ∷ []) last
      (all_pairs_push (λ m n. m ≢ n) numbers one (apart-rising numbers rising)
      (λ k d inside same. ((but.exact (get_or numbers k d)).0 (Contains-get_or numbers k d inside)).1 same))
      (All-push (Contains last) numbers one (λ k d inside. ((but.exact (get_or numbers k d)).0 (Contains-get_or numbers k d inside)).0) but.there) in
      omega (arith, few, length-append numbers (one ∷ []))

  -- ---- where the search stands

  -- a question of all of the last relations but one is among the lines
  record WasLeftOut (lines : List CertRecord) (last : List ℕ) (one : ℕ) : Type 0 where
    question : List Word
    numbers : List ℕ
    there : Contains lines (Question question)
    selects : Selects of question numbers
    but : AreAllBut last one numbers

  still-left-out : (lines : List CertRecord) (step : CertRecord) (last : List ℕ) (one : ℕ) → WasLeftOut lines last one
      → WasLeftOut (lines ++ step ∷ []) last one
  still-left-out lines step last one was = record {
    question = was.question;
    numbers = was.numbers;
    there = Contains-append_left lines (step ∷ []) (Question was.question) was.there;
    selects = was.selects;
    but = was.but;
  }

  -- No question is refuted, and there is one at most.
  record HasBegun (lines : List CertRecord) : Type 0 where
    none : NoneRefuted of (findings lines)
    one : length (asked lines) ≤ 1

  -- The last question that is refuted is on these relations. Behind it there were so many questions of fewer of them, one at
  -- most, and each of some of them was left out.
  record IsBehind (lines : List CertRecord) : Type 0 where
    last : List ℕ
    later : List Finding
    are_last : AreLast of (findings lines) last later
    cores : ℕ
    one_core : cores ≤ 1
    core_fewer : cores ≤ length last
    none_yet : (earlier : List CertRecord) (hints : List ℕ) → lines ≡ earlier ++ Refuted hints ∷ [] → cores ≡ 0
    left_out : List ℕ
    apart : AllPairs (λ m n. m ≢ n) left_out
    among : All (Contains last) left_out
    were : All (WasLeftOut lines last) left_out
    some : 1 ≤ length (asked lines)
    count : length (asked lines) ≤ 1 + (1 + of.relations) * (of.relations - length last) + cores + length left_out

  abbrev Stands : List CertRecord → Type 0
  Stands lines = HasBegun lines ⊎ IsBehind lines

  nothing : Stands []
  unfolding findings_behind
  nothing = inl (record { none = none-any (RefutesSome of); one = omega arith })

  -- ---- a question more

  no-refutation : (lines earlier : List CertRecord) (step : CertRecord) (hints : List ℕ) → is_refuted step ≡ false
      → lines ++ step ∷ [] ≡ earlier ++ Refuted hints ∷ [] → ⊥
  no-refutation lines earlier step hints other is = elim (split_push lines earlier [] (Refuted hints) step is) [
    | inl same ↦ false≢true (sym other ∙ ap (λ (s : CertRecord). is_refuted s) (sym same.1))
    | inr (more, stands, rest) ↦ let n = ap length rest in omega (arith, n, length-append more (step ∷ []))
  ]

  question-findings : (lines : List CertRecord) (question : List Word) → findings (lines ++ Question question ∷ []) ≡ findings lines
  question-findings lines question = findings_push None lines (Question question) ∙ by (open_after None lines)
    where
      by : (o : Option (List Word)) → findings lines ++ found_at o (Question question) ≡ findings lines
      by None = append-nil (findings lines)
      by (Some other) = append-nil (findings lines)

  begun-question : (lines : List CertRecord) (question : List Word) → IsNextQuestion of lines question → HasBegun lines
      → HasBegun (lines ++ Question question ∷ [])
  begun-question lines question next begun = record {
    none = subst (NoneRefuted of) (sym (question-findings lines question)) begun.none;
    one = elim next.place [
      | inl first ↦ let zero = none-asked lines first.none_before in omega (arith, zero, count-push asked_in lines (Question question))
      | inr (inl core) ↦ absurd (some-refuted (findings lines) core.last [] core.are_last begun.none)
      | inr (inr less) ↦ absurd (some-refuted (findings lines) less.last less.later less.are_last begun.none)
    ];
  }

  module _ (lines : List CertRecord) (question : List Word) (b : IsBehind lines) where
    abbrev longer : List CertRecord
    longer = lines ++ Question question ∷ []

    one-asked : length (asked longer) ≡ length (asked lines) + 1
    one-asked = count-push asked_in lines (Question question)

    last-still : AreLast of (findings longer) b.last b.later
    last-still = subst (λ fs. AreLast of fs b.last b.later) (sym (question-findings lines question)) b.are_last

    never-fresh : (cores : ℕ) (earlier : List CertRecord) (hints : List ℕ) → longer ≡ earlier ++ Refuted hints ∷ [] → cores ≡ 0
    never-fresh cores earlier hints is = absurd (no-refutation lines earlier (Question question) hints refl is)

    were-still : All (WasLeftOut longer b.last) b.left_out
    were-still k d inside = still-left-out lines (Question question) b.last (get_or b.left_out k d) (b.were k d inside)

    behind-first : (numbers : List ℕ) → IsFirstQuestion of lines numbers → IsBehind longer
    behind-first numbers first = record {
      last = b.last;
      later = b.later;
      are_last = last-still;
      cores = b.cores;
      one_core = b.one_core;
      core_fewer = b.core_fewer;
      none_yet = never-fresh b.cores;
      left_out = b.left_out;
      apart = b.apart;
      among = b.among;
      were = were-still;
      some = omega (arith, one-asked);
      count = let zero = none-asked lines first.none_before in omega (arith, zero, one-asked);
    }

    behind-core : (numbers : List ℕ) → IsCoreQuestion of lines numbers → IsBehind longer
    behind-core numbers core =
        let same : core.last ≡ b.last = one-last (findings lines) b.last b.later core.last [] b.are_last core.are_last in
        let none : b.cores ≡ 0 = b.none_yet core.earlier core.hints core.right_behind in
        let fewer = core.fewer in
        let long : length core.last ≡ length b.last = ap length same in
        record {
          last = b.last;
          later = b.later;
          are_last = last-still;
          cores = 1;
          one_core = omega arith;
          core_fewer = omega (arith, fewer, long);
          none_yet = never-fresh 1;
          left_out = b.left_out;
          apart = b.apart;
          among = b.among;
          were = were-still;
          some = omega (arith, one-asked);
          count = let count = b.count in omega (arith, count, none, one-asked);
        }

    behind-less : (numbers : List ℕ) → Selects of question numbers → IsOneLess of lines numbers
        → ((other : List Word) → Contains lines (Question other) → ¬ Selects of other numbers) → IsBehind longer
    behind-less numbers selects less once =
        let same : less.last ≡ b.last = one-last (findings lines) b.last b.later less.last less.later b.are_last less.are_last in
        let one : ℕ = less.one in
        let but : AreAllBut b.last one numbers = subst (λ (ns : List ℕ). AreAllBut ns one numbers) same less.all_but_one in
        record {
          last = b.last;
          later = b.later;
          are_last = last-still;
          cores = b.cores;
          one_core = b.one_core;
          core_fewer = b.core_fewer;
          none_yet = never-fresh b.cores;
          left_out = b.left_out ++ one ∷ [];
          apart = all_pairs_push (λ m n. m ≢ n) b.left_out one b.apart (λ k d inside is.
              let was = b.were k d inside in
              let was_but : AreAllBut b.last one was.numbers = subst (λ (n : ℕ). AreAllBut b.last n was.numbers) is was.but in
              let twice : was.numbers ≡ numbers = same-but b.last one numbers was.numbers selects.rising was.selects.rising but was_but in
              once was.question was.there (subst (λ (ns : List ℕ). Selects of was.question ns) twice was.selects));
          among = All-push (Contains b.last) b.left_out one b.among but.there;
          were = All-push (WasLeftOut longer b.last) b.left_out one were-still (record {
            question = question;
            numbers = numbers;
            there = Contains-push lines (Question question);
            selects = selects;
            but = but;
          });
          some = omega (arith, one-asked);
          count = let count = b.count in omega (arith, count, one-asked, length-append b.left_out (one ∷ []));
        }

    behind-question : IsNextQuestion of lines question → IsBehind longer
    behind-question next = elim next.place [
      | inl first ↦ behind-first next.numbers first
      | inr (inl core) ↦ behind-core next.numbers core
      | inr (inr less) ↦ behind-less next.numbers next.selects less next.once
    ]

  -- ---- a refutation more

  -- behind the refutation of a question on these relations
  refuted-now : (lines : List CertRecord) (hints : List ℕ) (question : List Word) (numbers : List ℕ) → Selects of question numbers
      → findings (lines ++ Refuted hints ∷ []) ≡ findings lines ++ finding.Refuted question ∷ [] → 1 ≤ length (asked lines)
      → length (asked lines) ≤ 1 + (1 + of.relations) * (of.relations - length numbers) → IsBehind (lines ++ Refuted hints ∷ [])
  refuted-now lines hints question numbers selects finds some count =
      let same = count-push asked_in lines (Refuted hints) in
      record {
        last = numbers;
        later = [];
        are_last = subst (λ fs. AreLast of fs numbers []) (sym finds) (last-new of (findings lines) question numbers selects);
        cores = 0;
        one_core = omega arith;
        core_fewer = omega arith;
        none_yet = λ earlier others is. refl;
        left_out = [];
        apart = λ i j d before inside. absurd (omega (arith, inside));
        among = All-nil (Contains numbers);
        were = All-nil (WasLeftOut (lines ++ Refuted hints ∷ []) numbers);
        some = omega (arith, some, same);
        count = omega (arith, count, same);
      }

  -- the question that is refuted is on fewer relations than the last one
  fewer-refuted : (lines earlier : List CertRecord) (question : List Word) → findings lines ≡ findings earlier → (b : IsBehind lines) → Stands earlier
      → (next : IsNextQuestion of earlier question) → length next.numbers < length b.last
  fewer-refuted lines earlier question same b stands next = elim next.place [
    | inl first ↦ absurd (elim stands [
      | inl begun ↦ some-refuted (findings earlier) b.last b.later last begun.none
      | inr behind ↦ let some = behind.some in let zero = none-asked earlier first.none_before in omega (arith, some, zero)
    ])
    | inr (inl core) ↦
        let long : length core.last ≡ length b.last = ap length (one-last (findings earlier) b.last b.later core.last [] last core.are_last) in
        let fewer = core.fewer in omega (arith, fewer, long)
    | inr (inr less) ↦
        let is : less.last ≡ b.last = one-last (findings earlier) b.last b.later less.last less.later last less.are_last in
        let long : length less.last ≡ length b.last = ap length is in
        let fewer = fewer-but less.last less.one next.numbers next.selects.rising less.all_but_one in
        omega (arith, fewer, long)
  ]
    where
      last : AreLast of (findings earlier) b.last b.later
      last = subst (λ fs. AreLast of fs b.last b.later) same b.are_last

  refuted-more : (lines : List CertRecord) (question : List Word) (since : List CertRecord) (hints : List ℕ) → (asking : IsAsking lines question since)
      → IsNextQuestion of asking.earlier question → Stands asking.earlier → Stands lines → IsBehind (lines ++ Refuted hints ∷ [])
  refuted-more lines question since hints asking next before stands =
      let found = found-behind lines question since asking in
      let some : 1 ≤ length (asked lines) =
      omega (arith, count-split asked_in lines asking.earlier (Question question ∷ since) asking.opened.ends) in
      elim stands [
        | inl begun ↦ refuted-now lines hints question next.numbers next.selects (found.refutes hints) some
            (let one = begun.one in omega (arith, one))
        | inr b ↦
            let fewer = fewer-refuted lines asking.earlier question found.same b before next in
            let out = few-of b.left_out b.last b.apart b.among in
            refuted-now lines hints question next.numbers next.selects (found.refutes hints) some
            (room of.relations (length b.last) (length next.numbers) b.cores (length b.left_out) (length (asked lines)) b.count b.one_core out
            (few-relations b.are_last.question b.last b.are_last.selects) fewer)
      ]

  -- ---- another line more

  other-more : (lines : List CertRecord) (step : CertRecord) → is_refuted step ≡ false → length (asked_in step) ≡ 0 → Stands lines → Stands (lines ++ step ∷ [])
  other-more lines step other no_question (inl begun) =
      let one = begun.one in
      inl (record {
        none = subst (NoneRefuted of) (sym (findings_push None lines step))
            (none-further (findings lines) (found_at (open_after None lines) step) (refutes-none of (open_after None lines) step other) begun.none);
        one = omega (arith, one, no_question, count-push asked_in lines step);
      })
  other-more lines step other no_question (inr b) =
      let same = count-push asked_in lines step in
      let last = last-further (findings lines) (found_at (open_after None lines) step) b.last b.later (refutes-none of (open_after None lines) step other)
      b.are_last in
      inr (record {
        last = b.last;
        later = last.0;
        are_last = subst (λ fs. AreLast of fs b.last last.0) (sym (findings_push None lines step)) last.1;
        cores = b.cores;
        one_core = b.one_core;
        core_fewer = b.core_fewer;
        none_yet = λ earlier hints is. absurd (no-refutation lines earlier step hints other is);
        left_out = b.left_out;
        apart = b.apart;
        among = b.among;
        were = λ k d inside. still-left-out lines step b.last (get_or b.left_out k d) (b.were k d inside);
        some = let some = b.some in omega (arith, some, same, no_question);
        count = let count = b.count in omega (arith, count, same, no_question);
      })

  -- ---- all lines

  module _ (g : Script) (steps : List CertRecord) (kept : AreKept (matter_in g) (header_in g) steps) (in_order : AreAsked (IsNextQuestion of) [] steps) where
    next-at : (front : List CertRecord) (question : List Word) (back : List CertRecord) → steps ≡ front ++ Question question ∷ back
        → IsNextQuestion of front question
    next-at front question back is = asked-at (IsNextQuestion of) [] front question back (subst (AreAsked (IsNextQuestion of) []) is in_order)

    stands-on : GoesOn Stands steps
    stands-on front (Question question) back is all = elim (all front [] (sym (append-nil front))) [
      | inl begun ↦ inl (begun-question front question (next-at front question back is) begun)
      | inr b ↦ inr (behind-question front question b (next-at front question back is))
    ]
    stands-on front (Refuted hints) back is all =
        let asks = (kept front (Refuted hints) back is).next.0 in
        let asking = asks.2 in
        let whole : steps ≡ asking.earlier ++ Question asks.0 ∷ (asks.1 ++ Refuted hints ∷ back) =
        is ∙ ap (λ (ls : List CertRecord). ls ++ Refuted hints ∷ back) asking.opened.ends
        ∙ append_assoc asking.earlier (Question asks.0 ∷ asks.1) (Refuted hints ∷ back) in
        inr (refuted-more front asks.0 asks.1 hints asking (next-at asking.earlier asks.0 (asks.1 ++ Refuted hints ∷ back) whole)
        (all asking.earlier (Question asks.0 ∷ asks.1) asking.opened.ends) (all front [] (sym (append-nil front))))
    stands-on front step back is all = other-more front step refl refl (all front [] (sym (append-nil front)))

    pub few-explain_questions : length (asked steps) ≤ explanation_questions of.relations
    few-explain_questions = elim (by-fronts Stands steps nothing stands-on) [
      | inl begun ↦ let one = begun.one in omega (arith, one)
      | inr b ↦ in-all of.relations (length b.last) b.cores (length b.left_out) (length (asked steps)) b.count b.one_core b.core_fewer
          (few-of b.left_out b.last b.apart b.among) (few-relations b.are_last.question b.last b.are_last.selects)
    ]
