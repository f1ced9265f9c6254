-- The canonical text of an item is read as this item.
use Rattle.std.proofs.Common.{◌≡◌, ℕ, List, [], ◌∷◌, ◌++◌, Option, None, Some, refl, ap, ◌∙◌, append_assoc, append-nil, inl}
use Rattle.std.specs.List.{flat_map}
use Rattle.std.specs.Prelude.{codes, Result, Ok, Err, OnErr}
use Rattle.dist_base.specs.Ascii.{opening}
use Rattle.dist_version.specs.Spelling.{IsVersion}
use Rattle.dist_relation.specs.declared.atom.Atom.{Atom}
use Rattle.dist_relation.specs.declared.atom.Bound.{Bound}
use Rattle.dist_relation.specs.declared.atom.Kind.TheVariants.{Depends}
use Rattle.dist_relation.specs.declared.atom.Op.{Op}
use Rattle.dist_relation.specs.declared.atom.Op.TheVariants.{Lt, Le, Eq, Ge, Gt}
use Rattle.dist_relation.specs.declared.atom.Qualifier.{Qualifier}
use Rattle.dist_relation.specs.Bytes.{IsBlank, IsName}
use Rattle.dist_relation.specs.Grammar.{qualifier_text, IsQualifier, operator_text, SpellsOperator, SpellsBound, SpellsAtom, SpellsAlternatives, ReadsDepends}
use Rattle.dist_relation.specs.Canonical.{bound_text, atom_text, behind_bar, alternatives_text}
use Rattle.dist_relation.specs.WrittenPrivate.{Extends, IsBound, IsAtom, AreAtoms}

canonical_operator : (op : Op) → SpellsOperator (operator_text op) op
canonical_operator Lt = refl
canonical_operator Le = inl refl
canonical_operator Eq = refl
canonical_operator Ge = inl refl
canonical_operator Gt = refl

canonical_bound : (bound : Bound) → IsVersion bound.version
    → SpellsBound Depends (opening ∷ (operator_text bound.op ++ (codes " " ++ (bound.version ++ codes ")")))) bound
canonical_bound bound is_version = record {
  before = [];
  operator = operator_text bound.op;
  between = codes " ";
  after = [];
  whole = refl;
  blank_before = refl;
  blank_between = refl;
  blank_after = refl;
  is_operator = canonical_operator bound.op;
  allowed = refl;
  is_version = is_version;
}

-- an atom's text with white space round it
padded : (name : List ℕ) (qualifier : Qualifier) (bound : Option Bound) (before after : List ℕ) → IsName name → IsQualifier qualifier → IsBound bound
    → IsBlank before → IsBlank after
    → SpellsAtom Depends (before ++ ((name ++ (qualifier_text qualifier ++ bound_text bound)) ++ after))
    (record { name = name; qualifier = qualifier; bound = bound })
padded name qualifier None before after is_name is_qualifier is_bound b a = record {
  before = before;
  between = [];
  bound = [];
  after = after;
  whole = simp (append_assoc, append-nil);
  blank_before = b;
  blank_between = refl;
  blank_after = a;
  is_name = is_name;
  is_qualifier = is_qualifier;
  is_bound = refl;
}
padded name qualifier (Some bound) before after is_name is_qualifier is_bound b a = record {
  before = before;
  between = codes " ";
  bound = opening ∷ (operator_text bound.op ++ (codes " " ++ (bound.version ++ codes ")")));
  after = after;
  whole = simp append_assoc;
  blank_before = b;
  blank_between = refl;
  blank_after = a;
  is_name = is_name;
  is_qualifier = is_qualifier;
  is_bound = canonical_bound bound is_bound;
}

pub padded_atom : (atom : Atom) (before after : List ℕ) → IsAtom atom → IsBlank before → IsBlank after
    → SpellsAtom Depends (before ++ (atom_text atom ++ after)) atom
padded_atom atom before after h b a = padded atom.name atom.qualifier atom.bound before after h.name h.qualifier h.bound b a

joined_text : (atom : Atom) (atoms : List Atom) (before : List ℕ) → IsAtom atom → AreAtoms atoms → IsBlank before
    → SpellsAlternatives (before ++ (atom_text atom ++ flat_map behind_bar atoms)) (atom ∷ atoms)
joined_text atom [] before h more b = padded_atom atom before [] h b refl
joined_text atom (next ∷ atoms) before h more b =
    let first : List ℕ = before ++ (atom_text atom ++ codes " ") in
    let rest : List ℕ = codes " " ++ (atom_text next ++ flat_map behind_bar atoms) in
    (first, rest, padded_atom atom before (codes " ") h b refl, joined_text next atoms (codes " ") more.0 more.1 refl, simp append_assoc)

-- The canonical text of an item is read as this item.
pub canonical_reads : (atoms : List Atom) → AreAtoms atoms → (atoms ≡ [] → ⊥) → ReadsDepends (alternatives_text atoms) (atoms ∷ [])
canonical_reads [] h some = absurd (some refl)
canonical_reads (atom ∷ atoms) h some = record { pieces = Some (atom ∷ atoms) ∷ []; joined = joined_text atom atoms [] h.0 h.1 refl; given = refl }

-- ---- printers that stop

pub extends_further : (a b c x : List ℕ) → b ≡ a ++ x → Extends b c → Extends a c
extends_further a b c x e h = record { more = x ++ h.more; whole = h.whole ∙ ap (λ (t : List ℕ). t ++ h.more) e ∙ append_assoc a x h.more }

pub whatever_err : {T E P : Type 0} (r : Result T E) → P → OnErr r P
whatever_err (Ok x) h = tt
whatever_err (Err e) h = h
