-- What the values of the fields of a drawn package spell.
use Rattle.std.proofs.Common.{◌≡◌, ℕ, zero, suc, ◌+◌, ◌<◌, Bool, true, false, not, ◌==◌, List, [], ◌∷◌, ◌++◌, append_assoc, append-nil, length, take, drop, map}
use Rattle.std.proofs.Common.{Option, Some, None, refl, ap, sym, subst, ◌∙◌, arith, inl, inr}
use Rattle.std.specs.Prelude.{codes, decimal, if◌then◌else◌, filter_map}
use Rattle.std.specs.List.{list_all, join_by, prefix_len}
use Rattle.std.proofs.lemmas.Bool.{and_parts, cond-true, false≢true}
use Rattle.std.proofs.lemmas.List.{take_all, drop_all}
use Rattle.std.proofs.lemmas.Fmt.{decimal_digit}
use Rattle.dist_base.specs.Ascii.{bar, colon, comma, hyphen}
use Rattle.dist_version.specs.Spelling.{IsVersion, IsMadeOf, is_upstream_byte, has}
use Rattle.dist_relation.specs.Bytes.{IsName, IsBlank, is_name_byte}
use Rattle.dist_relation.specs.Grammar.{SpellsAlternatives, SpellsPiece, Joined, ReadsDepends, ReadsAtoms, ReadsProvides}
use Rattle.dist_relation.specs.declared.atom.Atom.{Atom}
use Rattle.dist_relation.specs.declared.atom.Op.TheVariants.{Lt, Ge}
use Rattle.dist_relation.specs.declared.atom.Qualifier.TheVariants.{Plain}
use Rattle.dist_control.specs.Fields.{trim}
use Rattle.dist_package.specs.Source.{SpellsSource, ends_name, name_part}
use Rattle.dist_generate.specs.Generator.{Alternative, alternative_text, item_text}
use Rattle.dist_generate.specs.Packages.{name_of, atom_of, conflicts_of}
use Rattle.dist_generate.proofs.Digits.{decimal-passes}
use Rattle.dist_generate.proofs.Small.{AreTargets, IsItem, AreItems, small}

-- ---- names and versions

pub is-name : (n : ℕ) → n < 10000 → IsName (name_of n)
is-name n h = decimal-passes is_name_byte refl n (small n h)

-- a text of letters, digits and points is a version
plain-version : (text : List ℕ) → IsMadeOf is_upstream_byte text → has colon text ≡ false → has hyphen text ≡ false → IsVersion text
plain-version text made no_colon no_hyphen = (
  record { epoch = 0; upstream = text; revision = None },
  record {
    front = [];
    whole = sym (append-nil text);
    epoch = inr (refl, refl);
    small = omega arith;
    upstream = made;
    revision = tt;
    written = λ h. absurd (false≢true (sym no_colon ∙ h));
    revised = λ h. absurd (false≢true (sym no_hyphen ∙ h));
  },
)

version-digit : (digit : ℕ) → digit < 3 → IsVersion (codes "1." ++ (48 + digit) ∷ [])
version-digit zero h = plain-version (codes "1.0") (omega arith, refl) refl refl
version-digit (suc zero) h = plain-version (codes "1.1") (omega arith, refl) refl refl
version-digit (suc (suc zero)) h = plain-version (codes "1.2") (omega arith, refl) refl refl
version-digit (suc (suc (suc d))) h = absurd (omega arith)

pub is-version : (digit : ℕ) → digit < 3 → IsVersion (codes "1." ++ decimal digit)
is-version digit h = subst (λ (t : List ℕ). IsVersion (codes "1." ++ t)) (sym (decimal_digit digit (omega arith))) (version-digit digit h)

-- ---- the source

prefix-all : (test : ℕ → Bool) (bytes : List ℕ) → list_all test bytes ≡ true → prefix_len test bytes ≡ length bytes
prefix-all test [] all = refl
prefix-all test (b ∷ bytes) all =
    let p = and_parts (test b) (list_all test bytes) all in
    cond-true (test b) (1 + prefix_len test bytes) 0 p.0 ∙ ap (λ n. 1 + n) (prefix-all test bytes p.1) ∙ (omega arith)

name-whole : (value : List ℕ) → list_all (λ b. not (ends_name b)) value ≡ true → name_part value ≡ value
name-whole value all = ap (λ n. take n value) (prefix-all (λ b. not (ends_name b)) value all) ∙ take_all (length value) value (omega arith)

pub spells-source : (k : ℕ) → k < 10000 → SpellsSource (codes "s" ++ decimal k) (codes "s" ++ decimal k) None
spells-source k h =
    let value = codes "s" ++ decimal k in
    let is : name_part value ≡ value = name-whole value (decimal-passes (λ b. not (ends_name b)) refl k (small k h)) in
    record {
      name_is = sym is;
      is_name = decimal-passes is_name_byte refl k (small k h);
      version_is = ap trim (ap (λ (t : List ℕ). drop (length t) value) is ∙ drop_all (length value) value (omega arith));
    }

-- ---- alternatives

-- the text is one alternative
abbrev SpellsOne : List ℕ → Atom → Type 0
SpellsOne text atom = SpellsAlternatives text (atom ∷ [])

-- the text of an alternative without its bound, with white space in front, and its bound with white space behind
module _ (lead trail : List ℕ) (n : ℕ) (blank_lead : IsBlank lead) (blank_trail : IsBlank trail) (h : n < 10000) where
  around : (text : List ℕ) → lead ++ ((codes "g" ++ (decimal n ++ text)) ++ trail) ≡ lead ++ (103 ∷ (decimal n ++ (text ++ trail)))
  around text = ap (λ (t : List ℕ). lead ++ (103 ∷ t)) (append_assoc (decimal n) text trail)

  alternative-case : (x y : Bool) →
      SpellsOne (lead ++ ((codes "g" ++ (decimal n ++ (if x then codes " (>= 1)" else if y then codes " (<< 2)" else []))) ++ trail))
      (record {
        name = name_of n;
        qualifier = Plain;
        bound = if x then Some (record { op = Ge; version = codes "1" }) else if y then Some
            (record { op = Lt; version = codes "2" }) else None;
      })
  alternative-case true y = record {
    before = lead;
    between = codes " ";
    bound = codes "(>= 1)";
    after = trail;
    whole = around (codes " (>= 1)");
    blank_before = blank_lead;
    blank_between = refl;
    blank_after = blank_trail;
    is_name = is-name n h;
    is_qualifier = tt;
    is_bound = record {
      before = [];
      operator = codes ">=";
      between = codes " ";
      after = [];
      whole = refl;
      blank_before = refl;
      blank_between = refl;
      blank_after = refl;
      is_operator = inl refl;
      allowed = refl;
      is_version = plain-version (codes "1") (omega arith, refl) refl refl;
    };
  }
  alternative-case false true = record {
    before = lead;
    between = codes " ";
    bound = codes "(<< 2)";
    after = trail;
    whole = around (codes " (<< 2)");
    blank_before = blank_lead;
    blank_between = refl;
    blank_after = blank_trail;
    is_name = is-name n h;
    is_qualifier = tt;
    is_bound = record {
      before = [];
      operator = codes "<<";
      between = codes " ";
      after = [];
      whole = refl;
      blank_before = refl;
      blank_between = refl;
      blank_after = refl;
      is_operator = refl;
      allowed = refl;
      is_version = plain-version (codes "2") (omega arith, refl) refl refl;
    };
  }
  alternative-case false false = record {
    before = lead;
    between = [];
    bound = [];
    after = trail;
    whole = around [];
    blank_before = blank_lead;
    blank_between = refl;
    blank_after = blank_trail;
    is_name = is-name n h;
    is_qualifier = tt;
    is_bound = refl;
  }

spells-alternative : (lead trail : List ℕ) (c : Alternative) → IsBlank lead → IsBlank trail → c.target < 10000
    → SpellsOne (lead ++ (alternative_text c ++ trail)) (atom_of c)
spells-alternative lead trail c blank_lead blank_trail h = alternative-case lead trail c.target blank_lead blank_trail h (c.bound == 2) (c.bound == 3)

spells-item : (lead : List ℕ) (c : Alternative) (cs : List Alternative) → IsBlank lead → AreTargets (c ∷ cs) →
    SpellsAlternatives (lead ++ item_text (c ∷ cs)) (map atom_of (c ∷ cs))
spells-item lead c [] blank h = spells-alternative lead [] c blank refl h.0
spells-item lead c (d ∷ cs) blank h =
    let rest = item_text (d ∷ cs) in
    let whole : lead ++ (alternative_text c ++ (32 ∷ 124 ∷ 32 ∷ rest)) ≡ (lead ++ (alternative_text c ++ codes " ")) ++ (bar ∷ (32 ∷ rest)) =
    ap (λ (t : List ℕ). lead ++ t) (sym (append_assoc (alternative_text c) (codes " ") (124 ∷ 32 ∷ rest)))
    ∙ sym (append_assoc lead (alternative_text c ++ codes " ") (124 ∷ 32 ∷ rest)) in
    (lead ++ (alternative_text c ++ codes " "), 32 ∷ rest, spells-alternative lead (codes " ") c blank refl h.0, spells-item (codes " ") d cs refl h.1, whole)

-- ---- the values of Depends and Conflicts

item-spelled : (lead : List ℕ) (item : List Alternative) → IsBlank lead → IsItem item → SpellsAlternatives (lead ++ item_text item) (map atom_of item)
item-spelled lead [] blank is = absurd (omega (arith, is.0))
item-spelled lead (c ∷ cs) blank is = spells-item lead c cs blank is.2

pieces_of : List (List Alternative) → List (Option (List Atom))
pieces_of [] = []
pieces_of (item ∷ items) = Some (map atom_of item) ∷ pieces_of items

given : (items : List (List Alternative)) → map (map atom_of) items ≡ filter_map (λ (piece : Option (List Atom)). piece) (pieces_of items)
unfolding pieces_of
given [] = refl
given (item ∷ items) = ap (λ t. map atom_of item ∷ t) (given items)

spells-items : (lead : List ℕ) (item : List Alternative) (items : List (List Alternative)) → IsBlank lead → AreItems (item ∷ items) →
    Joined comma (SpellsPiece SpellsAlternatives) (lead ++ join_by item_text (codes ", ") (item ∷ items)) (pieces_of (item ∷ items))
unfolding pieces_of
spells-items lead item [] blank h =
    subst (λ (t : List ℕ). SpellsAlternatives (lead ++ t) (map atom_of item)) (sym (append-nil (item_text item))) (item-spelled lead item blank h.0)
spells-items lead item (next ∷ items) blank h =
    let rest = join_by item_text (codes ", ") (next ∷ items) in (
      lead ++ item_text item,
      32 ∷ rest,
      item-spelled lead item blank h.0,
      spells-items (codes " ") next items refl h.1,
      sym (append_assoc lead (item_text item) (44 ∷ 32 ∷ rest)),
    )

pub reads-depends : (item : List Alternative) (items : List (List Alternative)) → AreItems (item ∷ items) →
    ReadsDepends (join_by item_text (codes ", ") (item ∷ items)) (map (map atom_of) (item ∷ items))
reads-depends item items h = record { pieces = pieces_of (item ∷ items); joined = spells-items [] item items refl h; given = given (item ∷ items) }

pub reads-conflict : (other : ℕ) → other < 10000 → ReadsAtoms (name_of other) (conflicts_of (Some other))
reads-conflict other h = record {
  pieces = Some (record { name = name_of other; qualifier = Plain; bound = None }) ∷ [];
  joined = record {
    before = [];
    between = [];
    bound = [];
    after = [];
    whole = ap (λ (t : List ℕ). 103 ∷ t) (sym (append-nil (decimal other)));
    blank_before = refl;
    blank_between = refl;
    blank_after = refl;
    is_name = is-name other h;
    is_qualifier = tt;
    is_bound = refl;
  };
  given = refl;
}

-- an empty value has nothing
pub depends-none : ReadsDepends [] []
depends-none = record { pieces = None ∷ []; joined = refl; given = refl }

pub atoms-none : ReadsAtoms [] []
atoms-none = record { pieces = None ∷ []; joined = refl; given = refl }

pub provides-none : ReadsProvides [] []
provides-none = record { pieces = None ∷ []; joined = refl; given = refl }
