-- The line of a claim on a challenged package may come next, once no pair is left to be asked for.
use Rattle.std.proofs.Common.{◌≡◌, ◌≢◌, ⊎_elim, ◌↔◌, inl, inr, ℕ, ◌+◌, ◌-◌, ◌<◌, ◌≤◌, ◌^◌, false, List, [], ◌∷◌, ◌++◌, length, get_or}
use Rattle.std.proofs.Common.{map, refl, ap, sym, subst, ◌∙◌, arith}
use Rattle.std.specs.List.{All, AllPairs, Contains, list_any}
use Rattle.std.specs.Prelude.{slice_index}
use Rattle.std.proofs.lemmas.List.{get_or-map, get_or_default, length-map}
use Rattle.std.proofs.lemmas.List.Elements.{All-append, All-contains, All-cons, All-head, All-map, All-nil, All-tail, Contains-append_left}
use Rattle.std.proofs.lemmas.List.Elements.{Contains-append_right}
use Rattle.dist_base.specs.ListLaws.{any-cases, any-contained}
use Rattle.dist_clause.specs.Formula.{Literal}
use Rattle.dist_cluster.specs.Partition.{IsIn}
use Rattle.dist_cert.specs.declared.faults.CertCause.{CertCause}
use Rattle.dist_cert.specs.declared.faults.CertCause.TheVariants as causes
use Rattle.dist_cert.specs.declared.records.CertKind.{CertKind}
use Rattle.dist_cert.specs.declared.records.CertKind.TheVariants as kinds
use Rattle.dist_cert.specs.declared.records.CertRecord.{CertRecord}
use Rattle.dist_cert.specs.ClaimRules.{Covers, HoldsChallenged, HoldsClaim, IsCovered, IsNamed, IsPairBelow, IsPairFor, OmitsPair, SomeInstallation}
use Rattle.dist_cert.specs.ClaimRules.{challenge_question, yes}
use Rattle.dist_cert.specs.Form.{ArePairs, IsSmall, Word, is_end, pair_words, plain, plains, separator}
use Rattle.dist_cert.specs.Groups.{claim_count, group, installation_at, installations, IsRefutedIn, IsUndecidedIn}
use Rattle.dist_cert.specs.LineRules.{HasRecordFault}
use Rattle.dist_cert.specs.Part.{NamesFew, Strikes}
use Rattle.dist_cert.specs.PartByRecordsLaws.{IsLine}
use Rattle.dist_cert.specs.Rising.{AreRising}
use Rattle.dist_space.specs.Space.{IsMeaning, IsSpace, SpaceView, variable_of}
use Rattle.dist_space.specs.ClusterLaws.{placed-in}
use Rattle.dist_space.specs.VariableLaws.{place-at, variable-range}
use Rattle.dist_space.specs.declared.meaning.Meaning.TheVariants.{At}
use Rattle.dist_subject.specs.Basis.{Basis, matter_of}
use Rattle.dist_subject.specs.Later.{later_matter}
use Rattle.dist_sweep.specs.ClaimLinesLaws.{IsClaimLine, next-claim}
use Rattle.dist_line_write.specs.LineLaws.{no-future, none-in, plains-small}
use Rattle.dist_sweep.specs.Script.{Setting, matter_in}
use Rattle.dist_sweep.specs.Window.{IsWindowAt, WindowView}
use Rattle.dist_challenge.specs.GroupPrivate.{AreFew, CoversRest, IsGroupAt, IsNameable, Struck, challenged_line, names_of, together}
use Rattle.dist_covering.specs.Group.{GroupView}
use Rattle.dist_covering.specs.OpenPairs.{IsPairVariable}
use Rattle.dist_sweep.specs.Futures.{IsOfSpace}
use Rattle.dist_covering.specs.Used.{pair_at}
use Rattle.dist_challenge.specs.GroupPrivate.{AreSmallPairs}
use Rattle.dist_challenge.proofs.GroupLines.{group-few, latest-of}
use Rattle.dist_covering.specs.PairLaws.{pair-below, variable-pair, in-own, means}
use Rattle.dist_sweep.specs.FuturesLaws.{packages-are, present-is}

-- what dist_subject says of the pairs of a space
abbrev pub PairsLaw : Type 0
PairsLaw = (s : SpaceView) (inputs : List (List Literal)) (number cluster class : ℕ) → IsSpace s
    → IsPairFor (later_matter s inputs) (number + 1) (cluster + 1, class + 1) ↔ (IsMeaning s (At cluster class) × (¬ IsIn s.clusters.members cluster number))

module _ (law : PairsLaw) (g : Setting) (s : SpaceView) (of : IsOfSpace kinds.Challenged s g) (space : IsSpace s) where
  -- a pair's variable is that of a pair of the claim
  pub pair-for : (p at : ℕ) → 1 ≤ p → IsPairVariable s (slice_index s.cluster_of (p - 1)) at → IsPairFor (matter_in g) p (pair_at s at)
  pair-for p at from v =
      let m = means s at (At v.cluster v.class) space v.from_one v.is in
      let less : p - 1 + 1 ≡ p = omega (arith, from) in
      let of_later : IsPairFor (later_matter s of.inputs) (p - 1 + 1) (v.cluster + 1, v.class + 1) =
      (law s of.inputs (p - 1) v.cluster v.class space).1 (m.is_meaning, λ is_in. v.other (sym (placed-in s space.frame v.cluster (p - 1) is_in))) in
      subst (λ (x : Basis). IsPairFor (matter_of g.repo x) p (pair_at s at)) (sym of.later)
      (subst (λ (q : ℕ × ℕ). IsPairFor (later_matter s of.inputs) p q) (sym (variable-pair s (slice_index s.cluster_of (p - 1)) at v))
      (subst (λ (n : ℕ). IsPairFor (later_matter s of.inputs) n (v.cluster + 1, v.class + 1)) less of_later))

  -- and each pair of the claim has one
  pub record HasVariable (p : ℕ) (pair : ℕ × ℕ) : Type 0 where
    pub at : ℕ
    pub variable : IsPairVariable s (slice_index s.cluster_of (p - 1)) at
    pub is : pair_at s at ≡ pair

  pub pair-variable : (p : ℕ) (pair : ℕ × ℕ) → 1 ≤ p → p ≤ length s.repository.packages → IsPairFor (matter_in g) p pair → HasVariable p pair
  pair-variable p pair from upto for =
      let later : IsPairFor (later_matter s of.inputs) p pair =
      subst (λ (x : Basis). IsPairFor (matter_of g.repo x) p pair) of.later for in
      let cluster : ℕ = pair.0 - 1 in
      let class : ℕ = pair.1 - 1 in
      let one : cluster + 1 ≡ pair.0 = omega (arith, later.0) in
      let two : class + 1 ≡ pair.1 = omega (arith, later.2) in
      let less : p - 1 + 1 ≡ p = omega (arith, from) in
      let same : (cluster + 1, class + 1) ≡ pair = ap (λ (n : ℕ). (n, class + 1)) one ∙ ap (λ (n : ℕ). (pair.0, n)) two in
      let known = (law s of.inputs (p - 1) cluster class space).0
      (subst (λ (n : ℕ). IsPairFor (later_matter s of.inputs) n (cluster + 1, class + 1)) (sym less)
      (subst (λ (q : ℕ × ℕ). IsPairFor (later_matter s of.inputs) p q) (sym same) later)) in
      let range = variable-range s (At cluster class) space known.0 in
      let v : IsPairVariable s (slice_index s.cluster_of (p - 1)) (variable_of s (At cluster class)) = record {
        cluster = cluster;
        class = class;
        from_one = range.0;
        is = place-at s (At cluster class) space known.0;
        other = λ e. known.1 (in-own s (p - 1) cluster space (omega (arith, from, upto)) (sym e));
      } in
      record {
        at = variable_of s (At cluster class);
        variable = v;
        is = variable-pair s (slice_index s.cluster_of (p - 1)) (variable_of s
            (At cluster class)) v ∙ same;
      }

  -- the variable of a pair
  pub at-is : (at own : ℕ) → IsPairVariable s own at → (matter_in g).at (pair_at s at).0 (pair_at s at).1 ≡ at
  at-is at own v =
      ap (λ (x : Basis). (matter_of g.repo x).at (pair_at s at).0 (pair_at s at).1) of.later
      ∙ ap (λ (q : ℕ × ℕ). variable_of s (At (q.0 - 1) (q.1 - 1))) (variable-pair s own at v)
      ∙ less v.cluster v.class ∙ (means s at (At v.cluster v.class) space v.from_one v.is).back
    where
      less : (cluster class : ℕ) → variable_of s (At (cluster + 1 - 1) (class + 1 - 1)) ≡ variable_of s (At cluster class)
      less cluster class =
          let one : cluster + 1 - 1 ≡ cluster = omega arith in
          let two : class + 1 - 1 ≡ class = omega arith in
          ap (λ (n : ℕ). variable_of s (At n (class + 1 - 1))) one ∙ ap (λ (n : ℕ). variable_of s (At cluster n)) two

  -- the question of a pair
  pub pair-question : (p present at own : ℕ) → (matter_in g).present p ≡ present → IsPairVariable s own at
      → together present at ≡ challenge_question (matter_in g) p (pair_at s at)
  pair-question p present at own is v =
      ap (λ (n : ℕ). yes n ∷ yes at ∷ []) (sym is)
      ∙ ap (λ (n : ℕ). yes ((matter_in g).present p) ∷ yes n ∷ []) (sym (at-is at own v))

-- ---- the installations that are named

some-named : (before : List CertRecord) (w : WindowView) (named : List ℕ) (variable : ℕ) (P : List ℕ → Type 0)
    → SomeInstallation before named variable P → SomeInstallation before (names_of w named) variable P
some-named before w [] variable P (inl any) = absurd (omega (arith, any.2))
some-named before w [] variable P (inr any) = inr any
some-named before w (n ∷ named) variable P some = some

named-some : (before : List CertRecord) (w : WindowView) (named : List ℕ) (variable : ℕ) (P : List ℕ → Type 0)
    → (length named ≡ 0 → Contains (installations (group before)) (installation_at before w.count) × Contains (installation_at before w.count) variable)
    → SomeInstallation before (names_of w named) variable P → SomeInstallation before named variable P
named-some before w [] variable P latest (inl any) =
    let one = latest refl in
    inr (any-contained (λ m. Contains m variable × P m) (installations (group before)) (installation_at before w.count) one.0
    (one.1, ⊎_elim (λ here. here) (λ none. absurd (omega (arith, none.2))) (any-cases (λ n. P (installation_at before n)) w.count [] any)))
named-some before w [] variable P latest (inr any) = inr any
named-some before w (n ∷ named) variable P latest some = some

latest-group : (before : List CertRecord) (w : WindowView) (present : ℕ) → IsWindowAt before w
    → All (λ m. Contains m present) (installations (group before)) → 0 < length (installations (group before))
    → Contains (installations (group before)) (installation_at before w.count) × Contains (installation_at before w.count) present
latest-group before w present at each some =
    let there = subst (λ (n : ℕ). Contains (installations (group before)) (installation_at before n)) (sym at.count) (latest-of before some) in
    (there, All-contains (λ m. Contains m present) (installations (group before)) (installation_at before w.count) each there)

names-named : (g : Setting) (before : List CertRecord) (w : WindowView) (present more : ℕ) (named : List ℕ) → IsWindowAt before w
    → All (IsNameable before present more) named
    → (length named ≡ 0 → (0 < length (installations before)) × Contains (installation_at before w.count) present)
    → All (IsNamed before present) (names_of w named)
names-named g before w present more [] at names latest =
    let one = latest refl in
    let count = at.count in
    All-cons (IsNamed before present) w.count []
    ((omega (arith, one.0, count), omega (arith, count), omega (arith, count)), one.1) (All-nil (IsNamed before present))
names-named g before w present more (n ∷ named) at names latest = λ k d within.
    let name = names k d within in
    ((name.from_one, name.upto, let lasts = name.lasts in omega (arith, lasts)), name.has)

names-distinct : (w : WindowView) (named : List ℕ) → AllPairs (λ m n. m ≢ n) named → AllPairs (λ m n. m ≢ n) (names_of w named)
names-distinct w [] distinct = λ i j d before within. absurd (omega (arith, before, within))
names-distinct w (n ∷ named) distinct = distinct

-- those that struck, in the words of certificates
struck-few : PairsLaw → (g : Setting) (s : SpaceView) → IsOfSpace kinds.Challenged s g → IsSpace s → (before : List CertRecord) (p today number : ℕ)
    (named : List ℕ) → 1 ≤ p → Struck g s (slice_index s.cluster_of (p - 1)) (installations before) today named number
    → Strikes (matter_in g) before p today named number
struck-few law g s of space before p today number named from struck = record {
  pair = pair_at s struck.at;
  is_pair = pair-for law g s of space p struck.at from struck.variable;
  covers = struck.covers;
  not_today = struck.not_today;
  none_later = struck.none_later;
}

names-few : PairsLaw → (g : Setting) (s : SpaceView) → IsOfSpace kinds.Challenged s g → IsSpace s → (before : List CertRecord) (w : WindowView)
    (p present : ℕ) (named : List ℕ) → 1 ≤ p → IsWindowAt before w → (matter_in g).present p ≡ present
    → AreFew g s (slice_index s.cluster_of (p - 1)) present (installations before) (installations (group before)) named
    → NamesFew (matter_in g) before p (names_of w named)
names-few law g s of space before w p present named from at is few = record {
  today = few.today;
  has = subst (λ (v : ℕ). Contains (installation_at before few.today) v) (sym is) few.has;
  is_today = few.now;
  strike = by named few.struck few.latest;
}
  where
    own : ℕ
    own = slice_index s.cluster_of (p - 1)

    by : (ns : List ℕ) → All (λ n. n ≢ few.today → Struck g s own (installations before) few.today ns n) ns
        → (length ns ≡ 0 → length (installations before) ≢ few.today
        → Struck g s own (installations before) few.today [] (length (installations before)))
        → All (λ n. n ≢ few.today → Strikes (matter_in g) before p few.today (names_of w ns) n) (names_of w ns)
    by [] all latest = All-cons (λ n. n ≢ few.today → Strikes (matter_in g) before p few.today (w.count ∷ []) n) w.count []
        (λ other. last (subst (λ (n : ℕ). Struck g s own (installations before) few.today [] n) (sym at.count) (latest refl (λ same. other (at.count ∙ same)))))
        (All-nil (λ n. n ≢ few.today → Strikes (matter_in g) before p few.today (w.count ∷ []) n))
      where
        last : Struck g s own (installations before) few.today [] w.count → Strikes (matter_in g) before p few.today (w.count ∷ []) w.count
        last struck =
            let one = struck-few law g s of space before p few.today w.count [] from struck in
            record {
              pair = one.pair;
              is_pair = one.is_pair;
              covers = one.covers;
              not_today = one.not_today;
              none_later = All-cons (λ n. w.count < n → ¬ Covers (matter_in g) one.pair (installation_at before n)) w.count []
                  (λ less. absurd (omega (arith, less))) (All-nil (λ n. w.count < n → ¬ Covers (matter_in g) one.pair (installation_at before n)));
            }
    by (n ∷ ns) all latest = λ k d within other.
        struck-few law g s of space before p few.today (get_or (n ∷ ns) k d) (n ∷ ns) from (all k d within other)

names-some : (w : WindowView) (named : List ℕ) → 0 < length (names_of w named)
names-some w [] = omega arith
names-some w (n ∷ named) = omega arith

names-upto : (w : WindowView) (limit : ℕ) (named : List ℕ) → w.count ≤ limit → All (λ n. n ≤ limit) named → All (λ n. n ≤ limit) (names_of w named)
names-upto w limit [] upto all = All-cons (λ n. n ≤ limit) w.count [] upto (All-nil (λ n. n ≤ limit))
names-upto w limit (n ∷ named) upto all = all

pub names-from : (w : WindowView) (named : List ℕ) → (length named ≡ 0 → 1 ≤ w.count) → All (λ n. 1 ≤ n) named → All (λ n. 1 ≤ n) (names_of w named)
names-from w [] some all = All-cons (λ n. 1 ≤ n) w.count [] (some refl) (All-nil (λ n. 1 ≤ n))
names-from w (n ∷ named) some all = all

pub names-there : (w : WindowView) (named : List ℕ) → 0 < length (names_of w named)
names-there w named = names-some w named

-- ---- pairs

pairs-map : (s : SpaceView) (own : ℕ) (ats : List ℕ) → IsSpace s → All (IsPairVariable s own) ats → AllPairs (λ a b. a < b) ats
    → AllPairs IsPairBelow (map (pair_at s) ats)
pairs-map s own ats space all rising i j d before within =
    let short : j < length ats = omega (arith, within, length-map ats (pair_at s)) in
    let early : i < length ats = omega (arith, before, short) in
    subst (λ (p : ℕ × ℕ). IsPairBelow p (get_or (map (pair_at s) ats) j d)) (sym (get_or-map (pair_at s) ats i 0 d early))
    (subst (λ (q : ℕ × ℕ). IsPairBelow (pair_at s (get_or ats i 0)) q) (sym (get_or-map (pair_at s) ats j 0 d short))
    (pair-below s own (get_or ats i 0) (get_or ats j 0) space (all i 0 early) (all j 0 short) (rising i j 0 before short)))

-- the variable of a pair in a list
pub record IsFrom (s : SpaceView) (ats : List ℕ) (pair : ℕ × ℕ) : Type 0 where
  pub at : ℕ
  pub there : Contains ats at
  pub is : pair_at s at ≡ pair

from-map : (s : SpaceView) (ats : List ℕ) (pair : ℕ × ℕ) → Contains (map (pair_at s) ats) pair → IsFrom s ats pair
from-map s ats pair there =
    let short : there.0 < length ats = omega (arith, there.1, length-map ats (pair_at s)) in
    record {
      at = get_or ats there.0 0;
      there = (there.0, short, get_or_default ats there.0 (get_or ats there.0 0) 0 short);
      is = sym (get_or-map (pair_at s) ats there.0 0 pair short) ∙ there.2;
    }

in-map : (s : SpaceView) (ats : List ℕ) (at : ℕ) → Contains ats at → Contains (map (pair_at s) ats) (pair_at s at)
in-map s ats at there =
    let long = length-map ats (pair_at s) in
    (there.0, omega (arith, there.1, long), get_or-map (pair_at s) ats there.0 at (pair_at s at) there.1 ∙ ap (pair_at s) there.2)

-- one pair has one variable
one-variable : (s : SpaceView) (own a b : ℕ) → IsSpace s → IsPairVariable s own a → IsPairVariable s own b → pair_at s a ≡ pair_at s b → a ≡ b
one-variable s own a b space v u same =
    let pairs : (v.cluster + 1, v.class + 1) ≡ (u.cluster + 1, u.class + 1) = sym (variable-pair s own a v) ∙ same ∙ variable-pair s own b u in
    let one : v.cluster + 1 ≡ u.cluster + 1 = ap (λ (p : ℕ × ℕ). p.0) pairs in
    let two : v.class + 1 ≡ u.class + 1 = ap (λ (p : ℕ × ℕ). p.1) pairs in
    let cluster : v.cluster ≡ u.cluster = omega (arith, one) in
    let class : v.class ≡ u.class = omega (arith, two) in
    sym (means s a (At v.cluster v.class) space v.from_one v.is).back
    ∙ ap (λ (n : ℕ). variable_of s (At n v.class)) cluster ∙ ap (λ (n : ℕ). variable_of s (At u.cluster n)) class
    ∙ (means s b (At u.cluster u.class) space u.from_one u.is).back

-- ---- the rules of the claim

module _ (law : PairsLaw) (g : Setting) (before : List CertRecord) (w : WindowView) (s : SpaceView) (group_is : GroupView)
    (of : IsOfSpace kinds.Challenged s g) (space : IsSpace s) (from : 1 ≤ group_is.claimed) (at : IsWindowAt before w)
    (kept : IsGroupAt g before s group_is) (covers : CoversRest g before s group_is) (rising : AreRising group_is.refuted × AreRising group_is.undecided) where
  same-present : (matter_in g).present group_is.claimed ≡ group_is.present
  same-present = present-is kinds.Challenged s g of group_is.claimed ∙ sym kept.present

  latest : length group_is.named ≡ 0 → Contains (installations (group before)) (installation_at before w.count)
      × Contains (installation_at before w.count) group_is.present
  latest none = latest-group before w group_is.present at kept.each (kept.some none)

  pub holds-challenged : HoldsChallenged (matter_in g) before group_is.claimed (names_of w group_is.named) (map (pair_at s) group_is.refuted)
      (map (pair_at s) group_is.undecided)
  holds-challenged = record {
    names = subst (λ (v : ℕ). All (IsNamed before v) (names_of w group_is.named)) (sym same-present)
        (names-named g before w group_is.present (length group_is.left) group_is.named at kept.names
        (λ none. (let some = kept.some none in omega (arith, some, group-few before), (latest none).1)));
    today = some-named before w group_is.named ((matter_in g).present group_is.claimed) (λ m. Contains m 1)
        (subst (λ (v : ℕ). SomeInstallation before group_is.named v (λ m. Contains m 1)) (sym same-present) kept.today);
    rising = (
      pairs-map s (slice_index s.cluster_of (group_is.claimed - 1)) group_is.refuted space kept.pairs.1 rising.0,
      pairs-map s (slice_index s.cluster_of (group_is.claimed - 1)) group_is.undecided space kept.pairs.2 rising.1,
    );
    apart = All-map (λ (pair : ℕ × ℕ). ¬ Contains (map (pair_at s) group_is.undecided) pair) (pair_at s) group_is.refuted
        (λ k d within there.
        let from_it = from-map s group_is.undecided (pair_at s (get_or group_is.refuted k d)) there in
        let variable = All-contains (IsPairVariable s (slice_index s.cluster_of (group_is.claimed - 1))) group_is.undecided from_it.at kept.pairs.2
        from_it.there in
        kept.apart k d within (subst (λ (n : ℕ). Contains group_is.undecided n)
        (one-variable s (slice_index s.cluster_of (group_is.claimed - 1)) from_it.at (get_or group_is.refuted k d) space variable (kept.pairs.1 k d within)
        from_it.is) from_it.there));
    pairs = All-append (IsPairFor (matter_in g) group_is.claimed) (map (pair_at s) group_is.refuted) (map (pair_at s) group_is.undecided)
        (All-map (IsPairFor (matter_in g) group_is.claimed) (pair_at s) group_is.refuted
        (λ k d within. pair-for law g s of space group_is.claimed (get_or group_is.refuted k d) from (kept.pairs.1 k d within)))
        (All-map (IsPairFor (matter_in g) group_is.claimed) (pair_at s) group_is.undecided
        (λ k d within. pair-for law g s of space group_is.claimed (get_or group_is.undecided k d) from (kept.pairs.2 k d within)));
    refuted = All-map (λ (pair : ℕ × ℕ). IsRefutedIn (group before) (challenge_question (matter_in g) group_is.claimed pair)) (pair_at s) group_is.refuted
        (λ k d within. subst (λ (ws : List Word). IsRefutedIn (group before) ws)
        (pair-question law g s of space group_is.claimed group_is.present (get_or group_is.refuted k d) (slice_index s.cluster_of (group_is.claimed - 1))
        same-present (kept.pairs.1 k d within)) (kept.are_refuted k d within));
    open_still = All-map (λ (pair : ℕ × ℕ). IsUndecidedIn (group before) (challenge_question (matter_in g) group_is.claimed pair)
        × (¬ IsCovered (matter_in g) before group_is.claimed (names_of w group_is.named) pair)) (pair_at s) group_is.undecided
        (λ k d within. (
          subst (λ (ws : List Word). IsUndecidedIn (group before) ws)
              (pair-question law g s of space group_is.claimed group_is.present (get_or group_is.undecided k d)
              (slice_index s.cluster_of (group_is.claimed - 1)) same-present (kept.pairs.2 k d within)) (kept.are_undecided k d within),
          λ covered. kept.uncovered.1 k d within (covered-back (get_or group_is.undecided k d) covered),
        ));
  }
    where
      covered-back : (a : ℕ) → IsCovered (matter_in g) before group_is.claimed (names_of w group_is.named) (pair_at s a)
          → IsCovered (matter_in g) before group_is.claimed group_is.named (pair_at s a)
      covered-back a covered = named-some before w group_is.named ((matter_in g).present group_is.claimed) (Covers (matter_in g) (pair_at s a))
          (λ none. let one = latest none in (one.0, subst (λ (v : ℕ). Contains (installation_at before w.count) v) (sym same-present) one.1)) covered

  pub omits-none : group_is.left ≡ [] → ¬ OmitsPair (matter_in g) before group_is.claimed (names_of w group_is.named)
      (map (pair_at s) group_is.refuted ++ map (pair_at s) group_is.undecided)
  omits-none done omits =
      let v = pair-variable law g s of space group_is.claimed omits.0 from kept.upto omits.1 in
      omits.3 (some-named before w group_is.named ((matter_in g).present group_is.claimed) (Covers (matter_in g) omits.0)
      (subst (λ (p : ℕ × ℕ). IsCovered (matter_in g) before group_is.claimed group_is.named p) v.is
      (covers v.at v.variable
      (λ there. nothing v.at (subst (λ (xs : List ℕ). Contains xs v.at) done there))
      (λ there. omits.2 (subst (λ (p : ℕ × ℕ). Contains (map (pair_at s) group_is.refuted ++ map (pair_at s) group_is.undecided) p) v.is
      (Contains-append_left (map (pair_at s) group_is.refuted) (map (pair_at s) group_is.undecided) (pair_at s v.at) (in-map s group_is.refuted v.at there))))
      (λ there. omits.2 (subst (λ (p : ℕ × ℕ). Contains (map (pair_at s) group_is.refuted ++ map (pair_at s) group_is.undecided) p) v.is
      (Contains-append_right (map (pair_at s) group_is.refuted) (map (pair_at s) group_is.undecided) (pair_at s v.at)
      (in-map s group_is.undecided v.at there)))))))
    where
      nothing : (a : ℕ) → ¬ Contains [] a
      nothing a there = omega (arith, there.1)

-- ---- the line

pub pair-from : (s : SpaceView) (own at : ℕ) → IsPairVariable s own at → (1 ≤ (pair_at s at).0) × (1 ≤ (pair_at s at).1)
pair-from s own at v = subst (λ (p : ℕ × ℕ). (1 ≤ p.0) × (1 ≤ p.1)) (sym (variable-pair s own at v)) (omega arith, omega arith)

pub pairs-from : (s : SpaceView) (own : ℕ) (ats : List ℕ) → All (IsPairVariable s own) ats → ArePairs (map (pair_at s) ats)
pairs-from s own ats all = All-map (λ (pair : ℕ × ℕ). (1 ≤ pair.0) × (1 ≤ pair.1)) (pair_at s) ats (λ k d within. pair-from s own (get_or ats k d)
    (all k d within))

pair-words-small : (pairs : List (ℕ × ℕ)) → AreSmallPairs pairs → All (λ v. IsSmall v.0) (pair_words pairs)
pair-words-small [] all = All-nil (λ v. IsSmall v.0)
pair-words-small (pair ∷ pairs) all =
    let one = All-head (λ (p : ℕ × ℕ). IsSmall p.0 × IsSmall p.1) pair pairs all in
    All-append (λ v. IsSmall v.0) (plain pair.0 ∷ plain pair.1 ∷ []) (pair_words pairs)
    (All-cons (λ v. IsSmall v.0) (plain pair.0) (plain pair.1 ∷ []) one.0 (All-cons (λ v. IsSmall v.0) (plain pair.1) [] one.1
    (All-nil (λ v. IsSmall v.0))))
    (pair-words-small pairs (All-tail (λ (p : ℕ × ℕ). IsSmall p.0 × IsSmall p.1) pair pairs all))

pub challenged-next : PairsLaw → (g : Setting) (before : List CertRecord) (w : WindowView) (s : SpaceView) (group_is : GroupView)
    → IsOfSpace kinds.Challenged s g → IsSpace s → 1 ≤ group_is.claimed → IsWindowAt before w → IsGroupAt g before s group_is → CoversRest g before s group_is
    → AreRising group_is.refuted × AreRising group_is.undecided → group_is.left ≡ []
    → list_any is_end before ≡ false → length s.repository.packages < 2 ^ 32 → w.count < 2 ^ 32
    → AreSmallPairs (map (pair_at s) group_is.refuted) → AreSmallPairs (map (pair_at s) group_is.undecided)
    → IsLine (matter_in g) g.header before (challenged_line s w group_is)
challenged-next law g before w s group_is of space from at kept covers rising done going fits small by und = record {
  form = record {
    text = refl;
    rules = (
      from,
      names-some w group_is.named,
      (λ k d within. (rules.names k d within).0.0),
      pairs-from s (slice_index s.cluster_of (group_is.claimed - 1)) group_is.refuted kept.pairs.1,
      pairs-from s (slice_index s.cluster_of (group_is.claimed - 1)) group_is.undecided kept.pairs.2,
    );
    numbers = All-cons (λ v. IsSmall v.0) (plain group_is.claimed)
        (plains (names_of w group_is.named) ++ (separator ∷ (pair_words (map (pair_at s) group_is.refuted) ++ (separator
        ∷ pair_words (map (pair_at s) group_is.undecided)))))
        (omega (arith, kept.upto, fits))
        (All-append (λ v. IsSmall v.0) (plains (names_of w group_is.named))
        (separator ∷ (pair_words (map (pair_at s) group_is.refuted) ++ (separator ∷ pair_words (map (pair_at s) group_is.undecided))))
        (plains-small w.count (names_of w group_is.named) small upto-named)
        (All-cons (λ v. IsSmall v.0) separator (pair_words (map (pair_at s) group_is.refuted) ++ (separator ∷ pair_words (map (pair_at s) group_is.undecided)))
        (omega arith)
        (All-append (λ v. IsSmall v.0) (pair_words (map (pair_at s) group_is.refuted)) (separator ∷ pair_words (map (pair_at s) group_is.undecided))
        (pair-words-small (map (pair_at s) group_is.refuted) by)
        (All-cons (λ v. IsSmall v.0) separator (pair_words (map (pair_at s) group_is.undecided)) (omega arith)
        (pair-words-small (map (pair_at s) group_is.undecided) und)))));
  };
  not_ended = going;
  faultless = none;
  next = (
    names-distinct w group_is.named kept.distinct,
    names-few law g s of space before w group_is.claimed group_is.present group_is.named from at
        (present-is kinds.Challenged s g of group_is.claimed ∙ sym kept.present) kept.few,
  );
}
  where
    rules : HoldsChallenged (matter_in g) before group_is.claimed (names_of w group_is.named) (map (pair_at s) group_is.refuted)
        (map (pair_at s) group_is.undecided)
    rules = holds-challenged law g before w s group_is of space from at kept covers rising

    upto-named : All (λ n. n ≤ w.count) (names_of w group_is.named)
    upto-named k d within = let recent = (rules.names k d within).0.1 in omega (arith, recent, at.count)

    none : (cause : CertCause) → ¬ HasRecordFault (matter_in g) g.header before (challenged_line s w group_is) cause
    none causes.OutOfRange f = none-in _ f
    none causes.OutOfOrder f = next-claim (matter_in g).packages (claim_count before) group_is.claimed kept.claimed
        (let same = packages-are kinds.Challenged s g of in omega (arith, kept.upto, same)) f
    none causes.UnknownLine f = none-in _ f
    none causes.NotAFuture f = no-future (matter_in g) g.header.kind (challenged_line s w group_is) refl f
    none causes.WrongClaim f = f.1 (subst (λ (k : CertKind). HoldsClaim (matter_in g) k before (challenged_line s w group_is)) (sym of.kind_is) rules)
    none causes.Incomplete f = omits-none law g before w s group_is of space from at kept covers rising done f
    none cause f = f

pub challenged-kind : (s : SpaceView) (w : WindowView) (group_is : GroupView) → IsClaimLine (challenged_line s w group_is)
challenged-kind s w group_is = record { no_clause = refl; no_installation = refl; no_end = refl; claims = refl; one = refl }
