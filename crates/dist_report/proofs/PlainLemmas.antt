-- Names, versions and the texts of classes are plain.
use Rattle.std.proofs.Common.{◌≡◌, ℕ, suc, ◌<◌, ◌≤◌, Bool, true, false, ◌&&◌, ◌||◌, ◌==◌, eqb-true, List, [], ◌∷◌, ◌++◌, length, get_or, Option, None, Some}
use Rattle.std.proofs.Common.{codes, arith, refl, subst, sym, inl, inr}
use Rattle.std.specs.Prelude.{IfSome, IsTrue}
use Rattle.std.specs.Char.{is_ascii_alphanumeric, is_ascii_digit}
use Rattle.std.specs.Int.{is_in_range}
use Rattle.std.specs.List.{list_all}
use Rattle.std.proofs.lemmas.Bool.{leb-true, or_cases}
use Rattle.std.proofs.lemmas.List.Elements.{All-append, All-cons, All-nil}
use Rattle.std.proofs.lemmas.List.Sums.{AllPass-from_list_all}
use Rattle.dist_base.specs.Ascii.{colon, hyphen}
use Rattle.dist_version.specs.Spelling.{IsVersion, SpellsEpoch, has, is_revision_byte, is_upstream_byte, revision_text}
use Rattle.dist_relation.specs.Bytes.{IsName, is_name_byte}
use Rattle.dist_repo.specs.declared.package.Package.{Package}
use Rattle.dist_classes.specs.ClassList.{class_text}
use Rattle.dist_classes.specs.declared.class_value.Class.{Class}
use Rattle.dist_classes.specs.declared.class_value.Class.TheVariants.{Point, Between, Above, Below, Any}
use Rattle.dist_report.specs.PackageText.{label}
use Rattle.dist_report.specs.Plain.{HasVersionTexts, IsPlain, IsPlainByte}

-- ---- bytes

both-true : (a b : Bool) → (a && b) ≡ true → (a ≡ true) × (b ≡ true)
both-true true b h = (refl, h)
both-true false b h = cc

within : (low high b : ℕ) → is_in_range low high b ≡ true → (low ≤ b) × (b ≤ high)
within low high b h = let parts = both-true _ _ h in (leb-true low b parts.0, leb-true b high parts.1)

between : (low high b : ℕ) → is_in_range low high b ≡ true → 32 ≤ low → high ≤ 126 → (34 < low) → (high < 92) → IsPlainByte b
between low high b h least most above below = let p = within low high b h in
    (omega (arith, p.0), omega (arith, p.1), (λ e. omega (arith, e, p.0)), λ e. omega (arith, e, p.1))

past : (low high b : ℕ) → is_in_range low high b ≡ true → 92 < low → high ≤ 126 → IsPlainByte b
past low high b h above most = let p = within low high b h in (omega (arith, p.0), omega (arith, p.1), (λ e. omega (arith, e, p.0)), λ e. omega (arith, e, p.0))

digit-plain : (b : ℕ) → is_ascii_digit b ≡ true → IsPlainByte b
digit-plain b h = between 48 57 b h (omega arith) (omega arith) (omega arith) (omega arith)

alphanumeric-plain : (b : ℕ) → is_ascii_alphanumeric b ≡ true → IsPlainByte b
alphanumeric-plain b h = elim (or_cases (is_in_range 48 57 b || is_in_range 65 90 b) (is_in_range 97 122 b) h) [
  | inl first ↦ elim (or_cases (is_in_range 48 57 b) (is_in_range 65 90 b) first) [
    | inl digit ↦ digit-plain b digit
    | inr capital ↦ between 65 90 b capital (omega arith) (omega arith) (omega arith) (omega arith)
  ]
  | inr small ↦ past 97 122 b small (omega arith) (omega arith)
]

is-plain : (c b : ℕ) → IsPlainByte c → (b == c) ≡ true → IsPlainByte b
is-plain c b plain h = subst IsPlainByte (sym (eqb-true b c h)) plain

byte : (c : ℕ) → 34 < c → c < 92 → IsPlainByte c
byte c above below = (omega arith, omega arith, (λ e. omega (arith, e)), λ e. omega (arith, e))

later-byte : (c : ℕ) → 92 < c → c ≤ 126 → IsPlainByte c
later-byte c above most = (omega arith, omega arith, (λ e. omega (arith, e)), λ e. omega (arith, e))

name-plain : (b : ℕ) → is_name_byte b ≡ true → IsPlainByte b
name-plain b h = elim (or_cases (is_ascii_alphanumeric b) _ h) [
  | inl own ↦ alphanumeric-plain b own
  | inr first ↦ elim (or_cases (b == 43 || b == 45 || b == 46) (b == 95) first) [
    | inl second ↦ elim (or_cases (b == 43 || b == 45) (b == 46) second) [
      | inl third ↦ elim (or_cases (b == 43) (b == 45) third) [
        | inl is ↦ is-plain 43 b (byte 43 (omega arith) (omega arith)) is
        | inr is ↦ is-plain 45 b (byte 45 (omega arith) (omega arith)) is
      ]
      | inr is ↦ is-plain 46 b (byte 46 (omega arith) (omega arith)) is
    ]
    | inr is ↦ is-plain 95 b (later-byte 95 (omega arith) (omega arith)) is
  ]
]

-- a byte that stands among plain ones
listed-plain : (b : ℕ) (bytes : List ℕ) → IsPlain bytes → has b bytes ≡ true → IsPlainByte b
listed-plain b [] plain h = cc
listed-plain b (c ∷ bytes) plain h = elim (or_cases (c == b) (has b bytes) h) [
  | inl is ↦ subst IsPlainByte (eqb-true c b is) (plain 0 0 (omega arith))
  | inr later ↦ listed-plain b bytes (λ k d short. plain (suc k) d (omega arith)) later
]

signs : IsPlain (codes ".+~")
signs =
    All-cons IsPlainByte 46 (codes "+~") (byte 46 (omega arith) (omega arith))
    (All-cons IsPlainByte 43 (codes "~") (byte 43 (omega arith) (omega arith))
    (All-cons IsPlainByte 126 [] (later-byte 126 (omega arith) (omega arith)) (All-nil IsPlainByte)))

all-signs : IsPlain (codes ".+-~:")
all-signs =
    All-cons IsPlainByte 46 (codes "+-~:") (byte 46 (omega arith) (omega arith))
    (All-cons IsPlainByte 43 (codes "-~:") (byte 43 (omega arith) (omega arith))
    (All-cons IsPlainByte 45 (codes "~:") (byte 45 (omega arith) (omega arith))
    (All-cons IsPlainByte 126 (codes ":") (later-byte 126 (omega arith) (omega arith))
    (All-cons IsPlainByte 58 [] (byte 58 (omega arith) (omega arith)) (All-nil IsPlainByte)))))

upstream-plain : (b : ℕ) → is_upstream_byte b ≡ true → IsPlainByte b
upstream-plain b h = elim (or_cases (is_ascii_alphanumeric b) (has b (codes ".+-~:")) h) [
  | inl own ↦ alphanumeric-plain b own
  | inr sign ↦ listed-plain b (codes ".+-~:") all-signs sign
]

revision-plain : (b : ℕ) → is_revision_byte b ≡ true → IsPlainByte b
revision-plain b h = elim (or_cases (is_ascii_alphanumeric b) (has b (codes ".+~")) h) [
  | inl own ↦ alphanumeric-plain b own
  | inr sign ↦ listed-plain b (codes ".+~") signs sign
]

-- ---- texts

made-plain : (test : ℕ → Bool) → ((b : ℕ) → test b ≡ true → IsPlainByte b) → (bytes : List ℕ) → list_all test bytes ≡ true → IsPlain bytes
made-plain test plain bytes all k d short = plain (get_or bytes k d) (AllPass-from_list_all test bytes all k d short)

pub plain-name : (name : List ℕ) → IsName name → IsPlain name
plain-name [] h = cc
plain-name (b ∷ bs) h =
    let parts = both-true (is_ascii_alphanumeric b) (list_all is_name_byte bs) h in
    All-cons IsPlainByte b bs (alphanumeric-plain b parts.0) (made-plain is_name_byte name-plain bs parts.1)

plain-front : (front : List ℕ) (epoch : ℕ) → SpellsEpoch front epoch → IsPlain front
plain-front front epoch (inl written) =
    subst IsPlain (sym written.1)
    (All-append IsPlainByte written.0 (colon ∷ []) (made-plain is_ascii_digit digit-plain written.0 written.2.1)
    (All-cons IsPlainByte colon [] (byte 58 (omega arith) (omega arith)) (All-nil IsPlainByte)))
plain-front front epoch (inr absent) = subst IsPlain (sym absent.0) (All-nil IsPlainByte)

plain-revision : (revision : Option (List ℕ)) → IfSome revision (λ bytes. (0 < length bytes) × IsTrue (list_all is_revision_byte bytes))
    → IsPlain (revision_text revision)
plain-revision None made = All-nil IsPlainByte
plain-revision (Some revision) made = All-cons IsPlainByte hyphen revision (byte 45 (omega arith) (omega arith))
    (made-plain is_revision_byte revision-plain revision made.1)

pub plain-version : (text : List ℕ) → IsVersion text → IsPlain text
plain-version text (version, spells) =
    subst IsPlain (sym spells.whole)
    (All-append IsPlainByte (spells.front ++ version.upstream) (revision_text version.revision)
    (All-append IsPlainByte spells.front version.upstream (plain-front spells.front version.epoch spells.epoch)
    (made-plain is_upstream_byte upstream-plain version.upstream spells.upstream.1))
    (plain-revision version.revision spells.revision))

pub plain-label : (p : Package) → IsName p.name → IsVersion p.version → IsPlain (label p)
plain-label p name version =
    All-append IsPlainByte p.name (codes "=" ++ p.version) (plain-name p.name name)
    (All-cons IsPlainByte 61 p.version (byte 61 (omega arith) (omega arith)) (plain-version p.version version))

-- ---- classes

-- an operator and a space before a version
after-signs : (first second : ℕ) (v : List ℕ) → IsPlainByte first → IsPlainByte second → IsPlain v → IsPlain (first ∷ second ∷ 32 ∷ v)
after-signs first second v one two rest =
    All-cons IsPlainByte first (second ∷ 32 ∷ v) one (All-cons IsPlainByte second (32 ∷ v) two
    (All-cons IsPlainByte 32 v (omega arith, omega arith, (λ e. omega (arith, e)), λ e. omega (arith, e)) rest))

above-plain : (v : List ℕ) → IsPlain v → IsPlain (codes ">> " ++ v)
above-plain v plain = after-signs 62 62 v (byte 62 (omega arith) (omega arith)) (byte 62 (omega arith) (omega arith)) plain

below-plain : (v : List ℕ) → IsPlain v → IsPlain (codes "<< " ++ v)
below-plain v plain = after-signs 60 60 v (byte 60 (omega arith) (omega arith)) (byte 60 (omega arith) (omega arith)) plain

spaced : (b : ℕ) (v : List ℕ) → IsPlainByte b → IsPlain v → IsPlain (b ∷ 32 ∷ v)
spaced b v one rest = All-cons IsPlainByte b (32 ∷ v) one
    (All-cons IsPlainByte 32 v (omega arith, omega arith, (λ e. omega (arith, e)), λ e. omega (arith, e)) rest)

pub plain-class : (class : Class) → HasVersionTexts class → IsPlain (class_text class)
plain-class (Point v) versions = spaced 61 v (byte 61 (omega arith) (omega arith)) (plain-version v (versions 0 [] (omega arith)))
plain-class (Between a b) versions =
    let low = plain-version a (versions 0 [] (omega arith)) in
    let high = plain-version b (versions 1 [] (omega arith)) in
    above-plain (a ++ (codes ", << " ++ b)) (All-append IsPlainByte a (codes ", << " ++ b) low
    (spaced 44 (codes "<< " ++ b) (byte 44 (omega arith) (omega arith)) (below-plain b high)))
plain-class (Above a) versions = above-plain a (plain-version a (versions 0 [] (omega arith)))
plain-class (Below b) versions = below-plain b (plain-version b (versions 0 [] (omega arith)))
plain-class Any versions = All-cons IsPlainByte 97 (codes "ny") (later-byte 97 (omega arith) (omega arith))
    (All-cons IsPlainByte 110 (codes "y") (later-byte 110 (omega arith) (omega arith))
    (All-cons IsPlainByte 121 [] (later-byte 121 (omega arith) (omega arith)) (All-nil IsPlainByte)))
