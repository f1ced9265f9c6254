-- No line of the certificate of ten lines has a fault.
use Rattle.std.proofs.Common.{◌≡◌, ◌≢◌, ℕ, ◌<◌, ◌≤◌, true, false, ltb, List, [], ◌∷◌, ◌++◌, codes, length, get_or, refl, sym, subst, arith, lit<, lit≤}
use Rattle.std.specs.Fmt.{digits}
use Rattle.std.specs.List.{Contains}
use Rattle.std.proofs.lemmas.Bool.{ltb-true}
use Rattle.std.proofs.lemmas.List.Elements.{All-from_recursion}
use Rattle.dist_clause.specs.Formula.{literal}
use Rattle.dist_derive.specs.Follows.{Follows}
use Rattle.dist_outside.specs.declared.limits.Limits.{Limits}
use Rattle.dist_cert.specs.declared.records.CertRecord.{CertRecord}
use Rattle.dist_cert.specs.declared.records.CertRecord.TheVariants.{Question, Refuted, Installation, End}
use Rattle.dist_cert.specs.Form.{header_text}
use Rattle.dist_cert.specs.Groups.{numbered, group, IsRefutedIn}
use Rattle.dist_cert.specs.ClaimRules.{yes, no, IsNamed, HoldsStrong, OmitsPackage}
use Rattle.dist_cert.specs.Refusal.{certificate_text}
use Rattle.dist_cert.specs.Accepted.{Accepted}
use Rattle.dist_cert.specs.ByRecordsLaws.{AreSound, IsSoundHeader, accepted_by_records}
use Rattle.dist_cert.specs.TenLinesExamples.{two, header, ten_lines, on_b_and_on_nothing, TenLinesAreAccepted}
use Rattle.dist_cert.specs.LineExamples.{asking, asked, on_a, claim_on_a, on_b, claim_on_b, all_lines}
use Rattle.dist_cert.proofs.ExampleTests.{pairs-by, has, lacks, ends-false}
use Rattle.dist_cert.proofs.ExampleLines.{from-one, question-line, refuted-line, installation-line, end-line, claims-strong, sound, sound-more}
use Rattle.dist_cert.proofs.OneLine.{clear}

its-text : certificate_text header all_lines ++ [] ≡ ten_lines
unfolding digits
its-text = refl

its-header : header_text header ≡ codes "distfuture-certificate 1 strong plain 10000 2 2 1"
unfolding digits
its-header = refl

pub header-sound : (limits : Limits) → 50 ≤ limits.record_line → IsSoundHeader two limits header
header-sound limits room = record {
  form = record { text = refl; rules = (lit≤ tt, lit≤ tt); numbers = (lit< tt, lit< tt, lit< tt) };
  fits = record { packages = refl; variables = refl; clauses = refl };
  short = subst (λ (bytes : List ℕ). length bytes < limits.record_line) (sym its-header) (omega (arith, room));
}

-- ---- the claims

none-of : (k : ℕ) → k < 0 → ⊥
none-of k within = omega (arith, within)

a-holds : HoldsStrong two on_a 1 (1 ∷ []) (2 ∷ []) []
a-holds = record {
  names = All-from_recursion (IsNamed on_a 1) (1 ∷ []) (((lit≤ tt, lit≤ tt, lit< tt), has (1 ∷ 2 ∷ []) 1 refl), tt);
  rising = (pairs-by ltb (λ q r. q < r) ltb-true (2 ∷ []) refl, pairs-by ltb (λ q r. q < r) ltb-true [] refl);
  apart = λ k d within. lacks [] (get_or (2 ∷ []) k d) refl;
  others = All-from_recursion (λ q. (q ≢ 1) × (q ≤ 2)) (2 ∷ []) ((λ e. omega (arith, e), lit≤ tt), tt);
  refuted = All-from_recursion (λ q. IsRefutedIn (group on_a) (yes 1 ∷ no q ∷ [])) (2 ∷ [])
      ((1 ∷ [], (Question (yes 1 ∷ []) ∷ Installation (1 ∷ 2 ∷ []) ∷ [], [], [], refl, λ k d within. absurd (none-of k within))), tt);
  open_still = λ k d within. absurd (none-of k within);
}

-- the other package is b
a-omits-none : ¬ OmitsPackage two on_a 1 (1 ∷ []) (2 ∷ [])
a-omits-none o = let is : o.0 ≡ 2 = omega (arith, o.1, o.2, o.3) in o.5 (0, lit< tt, sym is)

b-holds : HoldsStrong two on_b 2 (2 ∷ []) [] []
b-holds = record {
  names = All-from_recursion (IsNamed on_b 2) (2 ∷ []) (((lit≤ tt, lit≤ tt, lit< tt), has (2 ∷ []) 2 refl), tt);
  rising = (pairs-by ltb (λ q r. q < r) ltb-true [] refl, pairs-by ltb (λ q r. q < r) ltb-true [] refl);
  apart = λ k d within. absurd (none-of k within);
  others = λ k d within. absurd (none-of k within);
  refuted = λ k d within. absurd (none-of k within);
  open_still = λ k d within. absurd (none-of k within);
}

-- the other package is a, which is not in the installation that is named
b-omits-none : ¬ OmitsPackage two on_b 2 (2 ∷ []) []
b-omits-none o =
    let is : o.0 ≡ 1 = omega (arith, o.1, o.2, o.3) in
    lacks (2 ∷ []) 1 refl (subst (λ q. Contains (2 ∷ []) q) is (o.4.0 0 2 (lit< tt)))

-- ---- the lines, one after another

-- under 1 and -2 both literals of clause 1 are false
by-clause-one : Follows (numbered two []) (literal 1 false ∷ literal 2 true ∷ []) (1 ∷ [])
by-clause-one = ends-false (numbered two []) (literal 1 true ∷ literal 2 false ∷ []) [] 1 refl

pub asking-sound : (limits : Limits) → 50 ≤ limits.record_line → AreSound limits two header [] asking
unfolding digits
asking-sound limits room = (
  question-line limits two header _ (yes 1 ∷ []) (codes "q 1") refl refl (omega (arith, room)) refl,
  (
    installation-line limits two header _ (1 ∷ 2 ∷ []) (codes "m 1 2") refl refl tt (λ a. has (1 ∷ 2 ∷ []) 2 refl) (omega (arith, room)) refl,
    (
      question-line limits two header _ (yes 1 ∷ no 2 ∷ []) (codes "q 1 -2") refl refl (omega (arith, room)) refl,
      tt,
    ),
  ),
)

-- the lines from line 5 up to the claim on b
abbrev claiming : List CertRecord
claiming = Refuted (1 ∷ []) ∷ claim_on_a ∷ Question (yes 2 ∷ []) ∷ Installation (2 ∷ []) ∷ []

claiming-sound : (limits : Limits) → 50 ≤ limits.record_line → AreSound limits two header asking claiming
unfolding digits
claiming-sound limits room = (
  refuted-line limits two header asking (Question (yes 1 ∷ []) ∷ Installation (1 ∷ 2 ∷ []) ∷ []) (yes 1 ∷ no 2 ∷ []) [] (1 ∷ []) (codes "f 1") refl
      asked refl by-clause-one (omega (arith, room)) refl,
  (
    sound limits two header _ claim_on_a (codes "s 1 1 0 2 0") refl
        (lit≤ tt, lit< tt, from-one (1 ∷ []) refl, from-one (2 ∷ []) refl, from-one [] refl) refl (omega (arith, room)) refl
        (claims-strong two header on_a 1 (1 ∷ []) (2 ∷ []) [] refl (lit≤ tt) a-holds a-omits-none),
    (
      question-line limits two header _ (yes 2 ∷ []) (codes "q 2") refl refl (omega (arith, room)) refl,
      (
        installation-line limits two header _ (2 ∷ []) (codes "m 2") refl refl tt (λ a. has (2 ∷ []) 2 refl) (omega (arith, room)) refl,
        tt,
      ),
    ),
  ),
)

pub on-b-sound : (limits : Limits) → 50 ≤ limits.record_line → AreSound limits two header [] on_b
on-b-sound limits room =
    sound-more limits two header [] asking claiming (asking-sound limits room) (claiming-sound limits room)

ending-sound : (limits : Limits) → 50 ≤ limits.record_line → AreSound limits two header on_b (claim_on_b ∷ End ∷ [])
unfolding digits
ending-sound limits room = (
  sound limits two header on_b claim_on_b (codes "s 2 2 0 0") refl (lit≤ tt, lit< tt, from-one (2 ∷ []) refl, from-one [] refl, from-one [] refl) refl
      (omega (arith, room)) refl
      (claims-strong two header on_b 2 (2 ∷ []) [] [] refl (lit≤ tt) b-holds b-omits-none),
  (
    end-line limits two header _ refl (lit≤ tt) (omega (arith, room)) refl,
    tt,
  ),
)

pub ten-lines : TenLinesAreAccepted
ten-lines limits room = subst (λ (text : List ℕ). Accepted two limits text header on_b_and_on_nothing) its-text
    (accepted_by_records clear two limits header all_lines (header-sound limits room)
    (sound-more limits two header [] on_b (claim_on_b ∷ End ∷ []) (on-b-sound limits room) (ending-sound limits room)) (8, lit< tt, refl))
