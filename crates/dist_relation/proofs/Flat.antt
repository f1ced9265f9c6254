-- An atom's spelling in steps, as the reader goes, and in one piece, as the grammar has it.
use Rattle.std.proofs.Common.{◌≡◌, ℕ, List, [], ◌∷◌, ◌++◌, append_assoc, append-nil, Option, None, Some, refl, ap, ◌∙◌}
use Rattle.std.proofs.lemmas.Bool.{and_from}
use Rattle.std.proofs.lemmas.List.Folds.{list_all-append}
use Rattle.dist_base.specs.Ascii.{closing, is_white, opening}
use Rattle.dist_relation.specs.declared.atom.Bound.{Bound}
use Rattle.dist_relation.specs.declared.atom.Kind.{Kind}
use Rattle.dist_relation.specs.declared.atom.Qualifier.{Qualifier}
use Rattle.dist_relation.specs.Bytes.{IsBlank}
use Rattle.dist_relation.specs.Grammar.{qualifier_text, SpellsBound, SpellsAtom}
use Rattle.dist_relation.specs.Faults.{Head, Opened, Compared, Versioned}

-- an atom without a bound is a head and white space
pub record Bare (text : List ℕ) (name : List ℕ) (qualifier : Qualifier) : Type 0 where
  pub head : List ℕ
  pub space : List ℕ
  pub is_head : Head head name qualifier
  pub blank : IsBlank space
  pub parts : text ≡ head ++ space

-- an atom with a bound goes on after the version with a closing parenthesis and white space
pub record Closed (kind : Kind) (text : List ℕ) (name : List ℕ) (qualifier : Qualifier) (bound : Bound) : Type 0 where
  pub versioned : List ℕ
  pub space : List ℕ
  pub is_versioned : Versioned kind versioned name qualifier bound
  pub blank : IsBlank space
  pub parts : text ≡ versioned ++ (closing ∷ space)

abbrev pub SpellsBounded : Kind → List ℕ → List ℕ → Qualifier → Option Bound → Type 0
SpellsBounded kind text name qualifier None = Bare text name qualifier
SpellsBounded kind text name qualifier (Some bound) = Closed kind text name qualifier bound

blank-append : (a b : List ℕ) → IsBlank a → IsBlank b → IsBlank (a ++ b)
blank-append a b p q = list_all-append is_white a b ∙ and_from _ _ p q

behind : (x : ℕ) (xs ys : List ℕ) → (x ∷ xs) ++ ys ≡ x ∷ (xs ++ ys)
behind x xs ys = refl

behind_nothing : (ys : List ℕ) → [] ++ ys ≡ ys
behind_nothing ys = refl

-- ---- from the steps to the whole

flat_bare : (kind : Kind) (text name : List ℕ) (qualifier : Qualifier) → Bare text name qualifier
    → SpellsAtom kind text (record { name = name; qualifier = qualifier; bound = None })
flat_bare kind text name qualifier h = record {
  before = h.is_head.space;
  between = h.space;
  bound = [];
  after = [];
  whole = h.parts ∙ ap (λ (t : List ℕ). t ++ h.space) h.is_head.parts ∙ simp (append_assoc, append-nil);
  blank_before = h.is_head.blank;
  blank_between = h.blank;
  blank_after = refl;
  is_name = h.is_head.is_name;
  is_qualifier = h.is_head.is_qualifier;
  is_bound = refl;
}

flat_closed : (kind : Kind) (text name : List ℕ) (qualifier : Qualifier) (bound : Bound) → Closed kind text name qualifier bound
    → SpellsAtom kind text (record { name = name; qualifier = qualifier; bound = Some bound })
flat_closed kind text name qualifier bound h =
    let v = h.is_versioned in
    let c = v.is_compared in
    let o = c.is_opened in
    let inner : List ℕ = opening ∷ (o.space ++ (c.operator ++ (c.space ++ (bound.version ++ (v.space ++ closing ∷ []))))) in
    let is_bound : SpellsBound kind inner bound = record {
      before = o.space;
      operator = c.operator;
      between = c.space;
      after = v.space;
      whole = refl;
      blank_before = o.blank;
      blank_between = c.blank;
      blank_after = v.blank;
      is_operator = c.is_operator;
      allowed = c.allowed;
      is_version = v.is_version;
    } in
    record {
      before = o.is_head.space;
      between = o.gap;
      bound = inner;
      after = h.space;
      whole = h.parts
          ∙ ap (λ (t : List ℕ). t ++ closing ∷ h.space) (v.parts
          ∙ ap (λ (t : List ℕ). t ++ (bound.version ++ v.space))
          (c.parts ∙ ap (λ (t : List ℕ). t ++ (c.operator ++ c.space)) (o.parts ∙ ap (λ (t : List ℕ). t ++ (o.gap ++ opening ∷ o.space)) o.is_head.parts)))
          ∙ simp (append_assoc, behind, behind_nothing);
      blank_before = o.is_head.blank;
      blank_between = o.blank_gap;
      blank_after = h.blank;
      is_name = o.is_head.is_name;
      is_qualifier = o.is_head.is_qualifier;
      is_bound = is_bound;
    }

pub flat : (kind : Kind) (text name : List ℕ) (qualifier : Qualifier) (bound : Option Bound) → SpellsBounded kind text name qualifier bound
    → SpellsAtom kind text (record { name = name; qualifier = qualifier; bound = bound })
flat kind text name qualifier None h = flat_bare kind text name qualifier h
flat kind text name qualifier (Some bound) h = flat_closed kind text name qualifier bound h

-- ---- and back

pub in_steps : (kind : Kind) (text name : List ℕ) (qualifier : Qualifier) (bound : Option Bound)
    → SpellsAtom kind text (record { name = name; qualifier = qualifier; bound = bound }) → SpellsBounded kind text name qualifier bound
in_steps kind text name qualifier None h =
    let head : List ℕ = h.before ++ (name ++ qualifier_text qualifier) in
    let is_head : Head head name qualifier = record {
      space = h.before;
      blank = h.blank_before;
      is_name = h.is_name;
      is_qualifier = h.is_qualifier;
      parts = refl;
    } in
    record {
      head = head;
      space = h.between ++ h.after;
      is_head = is_head;
      blank = blank-append h.between h.after h.blank_between h.blank_after;
      parts = h.whole ∙ ap (λ (t : List ℕ). h.before ++ (name ++ (qualifier_text qualifier ++ (h.between ++ (t ++ h.after))))) h.is_bound ∙ simp append_assoc;
    }
in_steps kind text name qualifier (Some bound) h =
    let b = h.is_bound in
    let head : List ℕ = h.before ++ (name ++ qualifier_text qualifier) in
    let is_head : Head head name qualifier = record {
      space = h.before;
      blank = h.blank_before;
      is_name = h.is_name;
      is_qualifier = h.is_qualifier;
      parts = refl;
    } in
    let opened : List ℕ = head ++ (h.between ++ (opening ∷ b.before)) in
    let is_opened : Opened opened name qualifier = record {
      head = head;
      gap = h.between;
      space = b.before;
      is_head = is_head;
      blank_gap = h.blank_between;
      blank = b.blank_before;
      parts = refl;
    } in
    let compared : List ℕ = opened ++ (b.operator ++ b.between) in
    let is_compared : Compared kind compared name qualifier bound.op =
    record {
      opened = opened;
      operator = b.operator;
      space = b.between;
      is_opened = is_opened;
      is_operator = b.is_operator;
      allowed = b.allowed;
      blank = b.blank_between;
      parts = refl;
    } in
    let versioned : List ℕ = compared ++ (bound.version ++ b.after) in
    let is_versioned : Versioned kind versioned name qualifier bound =
    record { compared = compared; space = b.after; is_compared = is_compared; is_version = b.is_version; blank = b.blank_after; parts = refl } in
    record {
      versioned = versioned;
      space = h.after;
      is_versioned = is_versioned;
      blank = h.blank_after;
      parts = h.whole ∙ ap (λ (t : List ℕ). h.before ++ (name ++ (qualifier_text qualifier ++ (h.between ++ (t ++ h.after))))) b.whole
          ∙ simp (append_assoc, behind, behind_nothing);
    }
