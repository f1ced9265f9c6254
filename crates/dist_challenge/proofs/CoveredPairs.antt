-- The pairs that installations cover, in the words of certificates.
use Rattle.std.proofs.Common.{◌≡◌, ◌||◌, ◌↔◌, ⊎_elim, inl, inr, ℕ, zero, suc, ◌+◌, ◌-◌, ◌<◌, Bool, true, false, not, List, [], ◌∷◌, ◌++◌, length, get_or}
use Rattle.std.proofs.Common.{map, drop, refl, ap, sym, subst, ◌∙◌, arith, ext_get_or}
use Rattle.std.specs.List.{All, AllZip, Any, Contains}
use Rattle.std.proofs.lemmas.Bool.{true≢false, false≢true, or_parts}
use Rattle.std.proofs.lemmas.List.{get_or-map, length-map}
use Rattle.std.proofs.lemmas.List.Elements.{All-head, All-tail, AllZip-get_or, AllZip-push, length_all_zip}
use Rattle.circular_buffer.specs.Buffer.{keep_last}
use Rattle.dist_base.specs.ListLaws.{any-cases, any-head, any-later}
use Rattle.dist_clause.specs.Formula.{Literal, value_of}
use Rattle.dist_cert.specs.declared.TheConstants.{REACH}
use Rattle.dist_cert.specs.declared.records.CertKind.TheVariants as kinds
use Rattle.dist_cert.specs.declared.records.CertRecord.{CertRecord}
use Rattle.dist_cert.specs.ClaimRules.{Covers}
use Rattle.dist_cert.specs.Groups.{installation_at, installations}
use Rattle.dist_cert.specs.ListLaws.{any-from, both-flags, from-any}
use Rattle.dist_cert.specs.Rising.{is_among}
use Rattle.dist_future.specs.Pairs as pairs
use Rattle.dist_space.specs.Space.{IsMeaning, IsSpace, SpaceView, variable_of}
use Rattle.dist_space.specs.declared.meaning.Meaning.TheVariants.{At}
use Rattle.dist_subject.specs.Basis.{Basis, matter_of}
use Rattle.dist_subject.specs.Later.{later_matter}
use Rattle.dist_subject.specs.Present.{truth_of}
use Rattle.dist_subject.specs.TruthLaws.{truth-at, truth-length}
use Rattle.dist_line_write.specs.TrueOnesLaws.{true-ones}
use Rattle.dist_line_write.specs.Words.{true_variables}
use Rattle.dist_sweep.specs.Script.{Setting, matter_in}
use Rattle.dist_sweep.specs.Window.{IsWindowAt, WindowView, kept_at}
use Rattle.dist_sweep.specs.WindowLaws.{IsIn, installation-is, keep-push, sized}
use Rattle.dist_covering.specs.Covering.{CoveringView}
use Rattle.dist_covering.specs.Used.{AreUsed, AreUses}
use Rattle.dist_covering.specs.OpenPairs.{IsKept, IsPairVariable, covered_by, is_covered, used_by}
use Rattle.dist_sweep.specs.Futures.{IsOfSpace}
use Rattle.dist_covering.specs.Used.{pair_at}
use Rattle.dist_covering.specs.PairLaws.{variable-pair, means}

-- what dist_subject says of the pairs of a space
abbrev pub CoveredLaw : Type 0
CoveredLaw = (s : SpaceView) (inputs : List (List Literal)) (members : List ℕ) (cluster class : ℕ) → IsSpace s → IsMeaning s (At cluster class)
    → Covers (later_matter s inputs) (cluster + 1, class + 1) members ↔ pairs.Covers s (truth_of (length s.meanings) members) cluster class

-- ---- truth values of true variables

pub truth-true : (n : ℕ) (values : List Bool) → length values ≡ n → truth_of n (true_variables values) ≡ values
truth-true n values size = ext_get_or false (truth_of n (true_variables values)) values (truth-length n (true_variables values) ∙ sym size)
    (λ k within.
    let short : k < n = omega (arith, within, truth-length n (true_variables values)) in
    let less : k + 1 - 1 ≡ k = omega arith in
    let ones = true-ones values (k + 1) (omega arith) (omega (arith, short, size)) in
    truth-at n k (true_variables values) short
    ∙ both-flags (is_among (true_variables values) (k + 1)) (get_or values k false)
    (λ among. ap (λ (i : ℕ). get_or values i false) (sym less) ∙ ones.0 (from-any (k + 1) (true_variables values) among))
    (λ holds. any-from (k + 1) (true_variables values) (ones.1 (ap (λ (i : ℕ). get_or values i false) less ∙ holds))))

-- ---- one installation

-- by its truth values
values-cover : (s : SpaceView) (own at : ℕ) (values : List Bool) (used : List ℕ) → IsSpace s → IsPairVariable s own at → AreUsed s values used
    → (b : Bool) → b ≡ (value_of values at || not (is_among used (pair_at s at).0)) → (v : IsPairVariable s own at)
    → (b ≡ true) ↔ pairs.Covers s values v.cluster v.class
values-cover s own at values used space variable are b is v = (
  (λ holds. to (value_of values at) (is_among used (pair_at s at).0) refl refl (sym is ∙ holds)),
  λ covers. is ∙ from (value_of values at) (is_among used (pair_at s at).0) refl refl covers,
)
  where
    back : variable_of s (At v.cluster v.class) ≡ at
    back = (means s at (At v.cluster v.class) space v.from_one v.is).back

    cluster : (pair_at s at).0 ≡ v.cluster + 1
    cluster = ap (λ (p : ℕ × ℕ). p.0) (variable-pair s own at v)

    to : (x u : Bool) → value_of values at ≡ x → is_among used (pair_at s at).0 ≡ u → (x || not u) ≡ true → pairs.Covers s values v.cluster v.class
    to true u has among holds = inr (ap (value_of values) back ∙ has)
    to false true has among holds = absurd (false≢true holds)
    to false false has among holds = inl (are.none v.cluster
        (λ there. false≢true (sym among ∙ any-from (pair_at s at).0 used (subst (λ (c : ℕ). Contains used c) (sym cluster) there))))

    from : (x u : Bool) → value_of values at ≡ x → is_among used (pair_at s at).0 ≡ u → pairs.Covers s values v.cluster v.class → (x || not u) ≡ true
    from true u has among covers = refl
    from false false has among covers = refl
    from false true has among (inr holds) = absurd (true≢false (sym holds ∙ ap (value_of values) back ∙ has))
    from false true has among (inl none) = absurd (are.some v.cluster
        (subst (λ (c : ℕ). Contains used c) cluster (from-any (pair_at s at).0 used among)) none)

-- and by its true variables, as a certificate has them
pub members-cover : CoveredLaw → (g : Setting) (s : SpaceView) (own at : ℕ) (values : List Bool) (used : List ℕ) (b : Bool) → IsOfSpace kinds.Challenged s g
    → IsSpace s → IsPairVariable s own at → length values ≡ length s.meanings → AreUsed s values used
    → b ≡ (value_of values at || not (is_among used (pair_at s at).0)) → (b ≡ true) ↔ Covers (matter_in g) (pair_at s at) (true_variables values)
members-cover law g s own at values used b of space v size are is =
    let m = means s at (At v.cluster v.class) space v.from_one v.is in
    let both = law s of.inputs (true_variables values) v.cluster v.class space m.is_meaning in
    let known = values-cover s own at values used space v are b is v in
    let truth = truth-true (length s.meanings) values size in
    let Of : Basis → ℕ × ℕ → Type 0 = λ x p. Covers (matter_of g.repo x) p (true_variables values) in (
      (λ holds. subst (λ (x : Basis). Of x (pair_at s at)) (sym of.later)
          (subst (λ (p : ℕ × ℕ). Covers (later_matter s of.inputs) p (true_variables values)) (sym (variable-pair s own at v))
          (both.1 (subst (λ (xs : List Bool). pairs.Covers s xs v.cluster v.class) (sym truth) (known.0 holds))))),
      λ covers. known.1 (subst (λ (xs : List Bool). pairs.Covers s xs v.cluster v.class) truth
          (both.0 (subst (λ (p : ℕ × ℕ). Covers (later_matter s of.inputs) p (true_variables values)) (variable-pair s own at v)
          (subst (λ (x : Basis). Of x (pair_at s at)) of.later covers)))),
    )

-- ---- the kept installations

pub kept-in : (before : List CertRecord) (w : WindowView) (number : ℕ) → IsWindowAt before w → IsKept w number → IsIn w number
kept-in before w number at kept = let sizes = sized before w at in record {
  low = omega (arith, kept.low, sizes.fewer);
  high = omega (arith, kept.high, sizes.fewer);
}

pub kept-size : (before : List CertRecord) (w : WindowView) (number : ℕ) → IsWindowAt before w → IsKept w number → length (kept_at w number) ≡ w.variables
kept-size before w number at kept =
    let inside = kept-in before w number at kept in
    at.sizes (number - (w.count - length w.kept + 1)) [] (omega (arith, inside.low, inside.high))

pub kept-used : (before : List CertRecord) (w : WindowView) (c : CoveringView) (number : ℕ) → IsWindowAt before w → w.variables ≡ length c.space.meanings
    → AreUses c.space (keep_last REACH (installations before)) c.uses → IsKept w number → AreUsed c.space (kept_at w number) (used_by c w number)
kept-used before w c number at variables uses kept =
    let inside = kept-in before w number at kept in
    let place : ℕ = number - (w.count - length w.kept + 1) in
    let short : place < length w.kept = omega (arith, inside.low, inside.high) in
    let R : List ℕ → List ℕ → Type 0 = λ members used. AreUsed c.space (truth_of (length c.space.meanings) members) used in
    let zip : AllZip R (map true_variables w.kept) c.uses = subst (λ (ms : List (List ℕ)). AllZip R ms c.uses) (sym at.kept) uses in
    let one = AllZip-get_or R (map true_variables w.kept) c.uses place [] [] zip (omega (arith, short, length-map w.kept true_variables)) in
    let members : get_or (map true_variables w.kept) place [] ≡ true_variables (kept_at w number) = get_or-map true_variables w.kept place [] [] short in
    subst (λ (xs : List Bool). AreUsed c.space xs (used_by c w number))
    (ap (λ (ms : List ℕ). truth_of (length c.space.meanings) ms) members
    ∙ truth-true (length c.space.meanings) (kept_at w number) (kept-size before w number at kept ∙ variables)) one

-- what is kept, as the lines have it
pub record Kept (g : Setting) (before : List CertRecord) (w : WindowView) (c : CoveringView) : Type 0 where
  pub of_space : IsOfSpace kinds.Challenged c.space g
  pub space : IsSpace c.space
  pub window : IsWindowAt before w
  pub variables : w.variables ≡ length c.space.meanings
  pub uses : AreUses c.space (keep_last REACH (installations before)) c.uses

pub kept-covers : CoveredLaw → (g : Setting) (before : List CertRecord) (w : WindowView) (c : CoveringView) (own number at : ℕ) → Kept g before w c
    → IsKept w number → IsPairVariable c.space own at
    → (covered_by c w number at ≡ true) ↔ Covers (matter_in g) (pair_at c.space at) (installation_at before number)
kept-covers law g before w c own number at all kept variable =
    let both = members-cover law g c.space own at (kept_at w number) (used_by c w number) (covered_by c w number at) all.of_space all.space variable
    (kept-size before w number all.window kept ∙ all.variables) (kept-used before w c number all.window all.variables all.uses kept) refl in
    let is = installation-is before w number all.window (kept-in before w number all.window kept) in (
      (λ holds. subst (λ (ms : List ℕ). Covers (matter_in g) (pair_at c.space at) ms) (sym is) (both.0 holds)),
      λ covers. both.1 (subst (λ (ms : List ℕ). Covers (matter_in g) (pair_at c.space at) ms) is covers),
    )

-- the installation of a number covers the pair
abbrev pub CoversBy : Setting → List CertRecord → SpaceView → (at number : ℕ) → Type 0
CoversBy g before s at number = Covers (matter_in g) (pair_at s at) (installation_at before number)

pub some-covers : CoveredLaw → (g : Setting) (before : List CertRecord) (w : WindowView) (c : CoveringView) (own at : ℕ) → Kept g before w c
    → IsPairVariable c.space own at → (numbers : List ℕ) → All (IsKept w) numbers → is_covered c w numbers at ≡ true
    → Any (CoversBy g before c.space at) numbers
some-covers law g before w c own at all variable [] kept holds = absurd (false≢true holds)
some-covers law g before w c own at all variable (n ∷ numbers) kept holds =
    by (λ some. some-covers law g before w c own at all variable numbers (All-tail (IsKept w) n numbers kept) some) (covered_by c w n at) refl holds
  where
    by : (is_covered c w numbers at ≡ true → Any (CoversBy g before c.space at) numbers) → (b : Bool) → covered_by c w n at ≡ b
        → (b || is_covered c w numbers at) ≡ true → Any (CoversBy g before c.space at) (n ∷ numbers)
    by rest true is some = any-head (CoversBy g before c.space at) n numbers
        ((kept-covers law g before w c own n at all (All-head (IsKept w) n numbers kept) variable).0 is)
    by rest false is some = any-later (CoversBy g before c.space at) n numbers (rest some)

pub none-covers : CoveredLaw → (g : Setting) (before : List CertRecord) (w : WindowView) (c : CoveringView) (own at : ℕ) → Kept g before w c
    → IsPairVariable c.space own at → (numbers : List ℕ) → All (IsKept w) numbers → is_covered c w numbers at ≡ false
    → ¬ Any (CoversBy g before c.space at) numbers
none-covers law g before w c own at all variable [] kept lacks any = omega (arith, any.2)
none-covers law g before w c own at all variable (n ∷ numbers) kept lacks any =
    let parts = or_parts (covered_by c w n at) (is_covered c w numbers at) lacks in
    ⊎_elim
    (λ here. true≢false (sym ((kept-covers law g before w c own n at all (All-head (IsKept w) n numbers kept) variable).1 here) ∙ parts.0))
    (λ later. none-covers law g before w c own at all variable numbers (All-tail (IsKept w) n numbers kept) parts.1 later)
    (any-cases (CoversBy g before c.space at) n numbers any)

-- ---- one installation more

zip-drop : {X : Type 0} (R : X → X → Type 0) (n : ℕ) (xs ys : List X) → AllZip R xs ys → AllZip R (drop n xs) (drop n ys)
zip-drop R zero xs ys zip = zip
zip-drop R (suc n) [] [] zip = zip
zip-drop R (suc n) [] (y ∷ ys) zip = absurd zip
zip-drop R (suc n) (x ∷ xs) [] zip = absurd zip
zip-drop R (suc n) (x ∷ xs) (y ∷ ys) zip = zip-drop R n xs ys zip.1

pub uses-more : (s : SpaceView) (installed uses : List (List ℕ)) (values : List Bool) (used : List ℕ) → length values ≡ length s.meanings
    → AreUses s (keep_last REACH installed) uses → AreUsed s values used
    → AreUses s (keep_last REACH (installed ++ true_variables values ∷ [])) (keep_last REACH (uses ++ used ∷ []))
uses-more s installed uses values used size are one =
    let R : List ℕ → List ℕ → Type 0 = λ members u. AreUsed s (truth_of (length s.meanings) members) u in
    let last : R (true_variables values) used = subst (λ (xs : List Bool). AreUsed s xs used) (sym (truth-true (length s.meanings) values size)) one in
    let both = AllZip-push R (keep_last REACH installed) uses (true_variables values) used are last in
    let long = length_all_zip R (keep_last REACH installed ++ true_variables values ∷ []) (uses ++ used ∷ []) both in
    let dropped = zip-drop R (length (keep_last REACH installed ++ true_variables values ∷ []) - REACH)
    (keep_last REACH installed ++ true_variables values ∷ []) (uses ++ used ∷ []) both in
    subst (λ (ms : List (List ℕ)). AllZip R ms (keep_last REACH (uses ++ used ∷ []))) (keep-push REACH installed (true_variables values))
    (subst (λ (n : ℕ). AllZip R (keep_last REACH (keep_last REACH installed ++ true_variables values ∷ [])) (drop (n - REACH) (uses ++ used ∷ [])))
    long dropped)

pub uses-same : (s : SpaceView) (installed more uses : List (List ℕ)) → more ≡ installed → AreUses s (keep_last REACH installed) uses
    → AreUses s (keep_last REACH more) uses
uses-same s installed more uses is are = subst (λ (ms : List (List ℕ)). AreUses s (keep_last REACH ms) uses) (sym is) are
