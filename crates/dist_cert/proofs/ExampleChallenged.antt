-- No line of the certificate of kind challenged has a fault.
use Rattle.std.proofs.Common.{◌≡◌, inl, inr, ℕ, zero, suc, ◌<◌, ◌≤◌, true, false, List, [], ◌∷◌, ◌++◌, codes, length, map, refl, sym, subst, arith, lit<, lit≤}
use Rattle.std.specs.Fmt.{digits}
use Rattle.std.specs.List.{Contains, list_all, list_any}
use Rattle.std.proofs.lemmas.List.Elements.{All-from_recursion}
use Rattle.std.proofs.lemmas.List.Kept.{AllPairs-cons}
use Rattle.dist_clause.specs.Formula.{literal, negation}
use Rattle.dist_derive.specs.Follows.{Follows}
use Rattle.dist_outside.specs.declared.limits.Limits.{Limits}
use Rattle.dist_cert.specs.declared.records.CertRecord.{CertRecord}
use Rattle.dist_cert.specs.declared.records.CertRecord.TheVariants.{Question, Refuted, Installation, Challenged, End}
use Rattle.dist_cert.specs.Form.{Word, record_text, header_text, KeepsRules, is_end}
use Rattle.dist_cert.specs.Subject.{cluster_at}
use Rattle.dist_cert.specs.Groups.{clause_of, numbered, group, IsRefutedIn}
use Rattle.dist_cert.specs.GroupLaws.{opened}
use Rattle.dist_cert.specs.ClaimRules.{yes, IsNamed, IsPairFor, IsPairBelow, HasNone, IsCovered, challenge_question, HoldsChallenged, OmitsPair}
use Rattle.dist_cert.specs.Refusal.{certificate_text}
use Rattle.dist_cert.specs.Accepted.{Accepted}
use Rattle.dist_cert.specs.ByRecordsLaws.{AreSound, IsSound, IsSoundHeader, accepted_by_records}
use Rattle.dist_cert.specs.ChallengedExamples.{one_class, moves, needs, stays, space, header, fourteen_lines, by_two_classes}
use Rattle.dist_cert.specs.ChallengedExamples.{ChallengedIsAccepted}
use Rattle.dist_cert.proofs.ExampleTests.{makes_true, has, lacks, ends-false, is-model}
use Rattle.dist_cert.proofs.ExampleLines.{keeps_installation, keeps_hints, from-one, question-line, refuted-line, installation-line, end-line}
use Rattle.dist_cert.proofs.ExampleLines.{claims-challenged, sound, sound-more}
use Rattle.dist_cert.proofs.OneLine.{clear}

-- ---- the lines

-- the lines before the claim on libx, and its line
abbrev on_libx : List CertRecord
on_libx = Question (yes 1 ∷ yes 2 ∷ []) ∷ Installation (1 ∷ 2 ∷ []) ∷ []

abbrev claim_on_libx : CertRecord
claim_on_libx = Challenged 1 (1 ∷ []) [] []

-- the lines between the two claims: p with libx today, at its first class, and at neither of the others
abbrev at_first : List CertRecord
at_first = Question (yes 1 ∷ yes 3 ∷ []) ∷ Installation (1 ∷ 2 ∷ 3 ∷ []) ∷ Question (yes 3 ∷ yes 4 ∷ []) ∷ Installation (3 ∷ 4 ∷ 5 ∷ []) ∷ []

abbrev at_second : List CertRecord
at_second = Question (yes 3 ∷ yes 6 ∷ []) ∷ Refuted (6 ∷ 12 ∷ 5 ∷ 1 ∷ []) ∷ []

abbrev at_third : List CertRecord
at_third = Question (yes 3 ∷ yes 8 ∷ []) ∷ Refuted (8 ∷ 12 ∷ 5 ∷ 2 ∷ []) ∷ []

abbrev on_p : List CertRecord
on_p = on_libx ++ claim_on_libx ∷ (at_first ++ at_second ++ at_third)

abbrev claim_on_p : CertRecord
claim_on_p = Challenged 2 (2 ∷ 3 ∷ []) ((1, 2) ∷ (1, 3) ∷ []) []

abbrev records : List CertRecord
records = on_p ++ claim_on_p ∷ End ∷ []

its-text : certificate_text header records ++ [] ≡ fourteen_lines
unfolding digits
its-text = refl

its-header : header_text header ≡ codes "distfuture-certificate 1 challenged plain 10000 2 11 16"
unfolding digits
its-header = refl

header-sound : (limits : Limits) → 56 ≤ limits.record_line → IsSoundHeader space limits header
header-sound limits room = record {
  form = record { text = refl; rules = (lit≤ tt, lit≤ tt); numbers = (lit< tt, lit< tt, lit< tt) };
  fits = record { packages = refl; variables = refl; clauses = refl };
  short = subst (λ (bytes : List ℕ). length bytes < limits.record_line) (sym its-header) (omega (arith, room));
}

-- ---- the claims

none-of : (k : ℕ) → k < 0 → ⊥
none-of k within = omega (arith, within)

libx-holds : HoldsChallenged space on_libx 1 (1 ∷ []) [] []
libx-holds = record {
  names = All-from_recursion (IsNamed on_libx 2) (1 ∷ []) (((lit≤ tt, lit≤ tt, lit< tt), has (1 ∷ 2 ∷ []) 2 refl), tt);
  today = inl (0, 1, lit< tt, refl, has (1 ∷ 2 ∷ []) 1 refl);
  rising = (λ i j d before within. absurd (none-of j within), λ i j d before within. absurd (none-of j within));
  apart = λ k d within. absurd (none-of k within);
  pairs = λ k d within. absurd (none-of k within);
  refuted = λ k d within. absurd (none-of k within);
  open_still = λ k d within. absurd (none-of k within);
}

-- neither p as it is nor p at its class is installed
no-p : HasNone space (cluster_at space 2) (1 ∷ 2 ∷ [])
no-p = All-from_recursion (λ r. (¬ Contains (1 ∷ 2 ∷ []) (space.present r))
    × ((class : ℕ) → 1 ≤ class → class ≤ 1 → ¬ Contains (1 ∷ 2 ∷ []) (space.new r class))) (2 ∷ []) (
      (
        lacks (1 ∷ 2 ∷ []) 3 refl,
        λ class least most there.
            let is : class ≡ 1 = omega (arith, least, most) in
            lacks (1 ∷ 2 ∷ []) 11 refl (subst (λ k. Contains (1 ∷ 2 ∷ []) (space.new 2 k)) is there),
      ),
      tt,
    )

-- the other cluster is p's
libx-omits-none : ¬ OmitsPair space on_libx 1 (1 ∷ []) []
libx-omits-none o = at o.0.0 o.0.1 o.1 o.3
  where
    at : (cluster class : ℕ) → IsPairFor space 1 (cluster, class) → ¬ IsCovered space on_libx 1 (1 ∷ []) (cluster, class) → ⊥
    at zero class pair never = omega (arith, pair.0)
    at (suc zero) class pair never = pair.4 (has (1 ∷ []) 1 refl)
    at (suc (suc zero)) class pair never = never (inl (0, 1, lit< tt, refl, inl no-p))
    at (suc (suc (suc c))) class pair never = omega (arith, pair.1)

p-holds : HoldsChallenged space on_p 2 (2 ∷ 3 ∷ []) ((1, 2) ∷ (1, 3) ∷ []) []
p-holds = record {
  names = All-from_recursion (IsNamed on_p 3) (2 ∷ 3 ∷ [])
      (((lit≤ tt, lit≤ tt, lit< tt), has (1 ∷ 2 ∷ 3 ∷ []) 3 refl), (((lit≤ tt, lit≤ tt, lit< tt), has (3 ∷ 4 ∷ 5 ∷ []) 3 refl), tt));
  today = inl (0, 2, lit< tt, refl, has (1 ∷ 2 ∷ 3 ∷ []) 1 refl);
  rising = (
    AllPairs-cons IsPairBelow (1, 2) ((1, 3) ∷ []) (All-from_recursion (IsPairBelow (1, 2)) ((1, 3) ∷ []) (inr (refl, lit< tt), tt))
        (AllPairs-cons IsPairBelow (1, 3) [] (λ k d within. absurd (none-of k within)) (λ i j d before within. absurd (none-of j within))),
    λ i j d before within. absurd (none-of j within),
  );
  apart = λ k d within there. none-of there.0 there.1;
  pairs = All-from_recursion (IsPairFor space 2) ((1, 2) ∷ (1, 3) ∷ [])
      ((lit≤ tt, lit≤ tt, lit≤ tt, lit≤ tt, lacks (1 ∷ []) 2 refl), ((lit≤ tt, lit≤ tt, lit≤ tt, lit≤ tt, lacks (1 ∷ []) 2 refl), tt));
  refuted = All-from_recursion (λ pair. IsRefutedIn (group on_p) (challenge_question space 2 pair)) ((1, 2) ∷ (1, 3) ∷ []) (
    (6 ∷ 12 ∷ 5 ∷ 1 ∷ [], (at_first, [], at_third, refl, λ k d within. absurd (none-of k within))),
    ((8 ∷ 12 ∷ 5 ∷ 2 ∷ [], (at_first ++ at_second, [], [], refl, λ k d within. absurd (none-of k within))), tt),
  );
  open_still = λ k d within. absurd (none-of k within);
}

-- the other cluster is libx's; the third installation has it at its first class, and the two others are listed
p-omits-none : ¬ OmitsPair space on_p 2 (2 ∷ 3 ∷ []) ((1, 2) ∷ (1, 3) ∷ [])
p-omits-none o = at o.0.0 o.0.1 o.1 o.2 o.3
  where
    at : (cluster class : ℕ) → IsPairFor space 2 (cluster, class) → ¬ Contains {X = ℕ × ℕ} ((1, 2) ∷ (1, 3) ∷ []) (cluster, class)
        → ¬ IsCovered space on_p 2 (2 ∷ 3 ∷ []) (cluster, class) → ⊥
    at zero class pair missing never = omega (arith, pair.0)
    at (suc zero) zero pair missing never = omega (arith, pair.2)
    at (suc zero) (suc zero) pair missing never = never (inl (1, 3, lit< tt, refl, inr (has (3 ∷ 4 ∷ 5 ∷ []) 4 refl)))
    at (suc zero) (suc (suc zero)) pair missing never = missing (0, lit< tt, refl)
    at (suc zero) (suc (suc (suc zero))) pair missing never = missing (1, lit< tt, refl)
    at (suc zero) (suc (suc (suc (suc k)))) pair missing never = omega (arith, pair.3)
    at (suc (suc zero)) class pair missing never = pair.4 (has (2 ∷ []) 2 refl)
    at (suc (suc (suc c))) class pair missing never = omega (arith, pair.1)

-- ---- the lines, one after another

-- with p and libx at its second class, libx is neither as it is nor at its first class
not-second : Follows (numbered space []) (literal 3 false ∷ literal 6 false ∷ []) (6 ∷ 12 ∷ 5 ∷ 1 ∷ [])
not-second = ends-false (numbered space []) (literal 3 true ∷ literal 6 true ∷ [])
    (record { number = 6; made_true = literal 2 false } ∷ record { number = 12; made_true = literal 5 true } ∷ record { number = 5; made_true = literal 4 true }
    ∷ []) 1 refl

not-third : Follows (numbered space []) (literal 3 false ∷ literal 8 false ∷ []) (8 ∷ 12 ∷ 5 ∷ 2 ∷ [])
not-third = ends-false (numbered space []) (literal 3 true ∷ literal 8 true ∷ [])
    (record { number = 8; made_true = literal 2 false } ∷ record { number = 12; made_true = literal 5 true } ∷ record { number = 5; made_true = literal 4 true }
    ∷ []) 2 refl

-- an installation that meets all clauses
installed : (limits : Limits) → 56 ≤ limits.record_line → (before : List CertRecord) (variables line : List ℕ) → record_text (Installation variables) ≡ line
    → length line < 20
    → keeps_installation 11 variables ≡ true → list_all (makes_true variables) (one_class ++ moves ++ stays) ≡ true
    → list_all (makes_true variables) needs ≡ true
    → list_any is_end before ≡ false → IsSound limits space header before (Installation variables)
installed limits room before variables line is short keeps future healthy not_ended =
    installation-line limits space header before variables line is keeps
    (is-model variables (one_class ++ moves ++ stays) future) (is-model variables needs healthy) (omega (arith, short, room)) not_ended

-- the lines up to the claim on libx
libx-sound : (limits : Limits) → 56 ≤ limits.record_line → AreSound limits space header [] (on_libx ++ claim_on_libx ∷ [])
unfolding digits
libx-sound limits room =
    let rules : KeepsRules claim_on_libx = (
      lit≤ tt,
      lit< tt,
      from-one (1 ∷ []) refl,
      (λ k d within. absurd (none-of k within)),
      (λ k d within. absurd (none-of k within)),
    ) in (
      question-line limits space header _ (yes 1 ∷ yes 2 ∷ []) (codes "q 1 2") refl refl (omega (arith, room)) refl,
      (
        installed limits room _ (1 ∷ 2 ∷ []) (codes "m 1 2") refl (lit< tt) refl refl refl refl,
        (
          sound limits space header _ claim_on_libx (codes "c 1 1 0 0") refl rules refl (omega (arith, room)) refl
              (claims-challenged space header on_libx 1 (1 ∷ []) [] [] refl (lit≤ tt) libx-holds libx-omits-none),
          tt,
        ),
      ),
    )

first-sound : (limits : Limits) → 56 ≤ limits.record_line → AreSound limits space header (on_libx ++ claim_on_libx ∷ []) at_first
unfolding digits
first-sound limits room = (
  question-line limits space header _ (yes 1 ∷ yes 3 ∷ []) (codes "q 1 3") refl refl (omega (arith, room)) refl,
  (
    installed limits room _ (1 ∷ 2 ∷ 3 ∷ []) (codes "m 1 2 3") refl (lit< tt) refl refl refl refl,
    (
      question-line limits space header _ (yes 3 ∷ yes 4 ∷ []) (codes "q 3 4") refl refl (omega (arith, room)) refl,
      (installed limits room _ (3 ∷ 4 ∷ 5 ∷ []) (codes "m 3 4 5") refl (lit< tt) refl refl refl refl, tt),
    ),
  ),
)

-- a question that was just asked is refuted
answered : (limits : Limits) → 56 ≤ limits.record_line → (before : List CertRecord) (question : List Word) (hints line : List ℕ)
    → record_text (Refuted hints) ≡ line → length line < 20 → keeps_hints (length (numbered space (before ++ Question question ∷ []))) hints ≡ true
    → Follows (numbered space (before ++ Question question ∷ [])) (map negation (clause_of question)) hints
    → list_any is_end (before ++ Question question ∷ []) ≡ false → IsSound limits space header (before ++ Question question ∷ []) (Refuted hints)
answered limits room before question hints line is short keeps follows not_ended =
    refuted-line limits space header (before ++ Question question ∷ []) before question [] hints line is
    (opened before question) keeps follows (omega (arith, short, room)) not_ended

others-sound : (limits : Limits) → 56 ≤ limits.record_line → AreSound limits space header (on_libx ++ claim_on_libx ∷ at_first) (at_second ++ at_third)
unfolding digits
others-sound limits room = (
  question-line limits space header _ (yes 3 ∷ yes 6 ∷ []) (codes "q 3 6") refl refl (omega (arith, room)) refl,
  (
    answered limits room (on_libx ++ claim_on_libx ∷ at_first) (yes 3 ∷ yes 6 ∷ []) (6 ∷ 12 ∷ 5 ∷ 1 ∷ []) (codes "f 6 12 5 1") refl (lit< tt) refl not-second
        refl,
    (
      question-line limits space header _ (yes 3 ∷ yes 8 ∷ []) (codes "q 3 8") refl refl (omega (arith, room)) refl,
      (
        answered limits room (on_libx ++ claim_on_libx ∷ (at_first ++ at_second)) (yes 3 ∷ yes 8 ∷ []) (8 ∷ 12 ∷ 5 ∷ 2 ∷ []) (codes "f 8 12 5 2") refl
            (lit< tt) refl not-third refl,
        tt,
      ),
    ),
  ),
)

-- the claim on p, and the end
p-sound : (limits : Limits) → 56 ≤ limits.record_line → AreSound limits space header on_p (claim_on_p ∷ End ∷ [])
unfolding digits
p-sound limits room =
    let by = All-from_recursion (λ (pair : ℕ × ℕ). (1 ≤ pair.0) × (1 ≤ pair.1)) ((1, 2) ∷ (1, 3) ∷ []) ((lit≤ tt, lit≤ tt), ((lit≤ tt, lit≤ tt), tt)) in (
      sound limits space header on_p claim_on_p (codes "c 2 2 3 0 1 2 1 3 0") refl
          (lit≤ tt, lit< tt, from-one (2 ∷ 3 ∷ []) refl, by, (λ k d within. absurd (none-of k within))) refl (omega (arith, room)) refl
          (claims-challenged space header on_p 2 (2 ∷ 3 ∷ []) ((1, 2) ∷ (1, 3) ∷ []) [] refl (lit≤ tt) p-holds p-omits-none),
      (end-line limits space header _ refl (lit≤ tt) (omega (arith, room)) refl, tt),
    )

lines-sound : (limits : Limits) → 56 ≤ limits.record_line → AreSound limits space header [] records
lines-sound limits room =
    sound-more limits space header [] on_p (claim_on_p ∷ End ∷ [])
    (sound-more limits space header [] (on_libx ++ claim_on_libx ∷ at_first) (at_second ++ at_third)
    (sound-more limits space header [] (on_libx ++ claim_on_libx ∷ []) at_first (libx-sound limits room) (first-sound limits room)) (others-sound limits room))
    (p-sound limits room)

pub challenged : ChallengedIsAccepted
challenged limits room = subst (λ (text : List ℕ). Accepted space limits text header by_two_classes) its-text
    (accepted_by_records clear space limits header records (header-sound limits room) (lines-sound limits room) (12, lit< tt, refl))
