-- Worked examples of the definitions, computed.
use Rattle.std.specs.Prelude.{◌≡◌, ℕ, List, [], ◌∷◌, None, Some, refl, codes}
use Rattle.std.proofs.Common.{inr}
use Rattle.dist_version.specs.Spelling.{epoch_of, epoch_digits, after_epoch, upstream_of, revision_of}
use Rattle.dist_version.specs.Order.{version_cmp, part_cmp, weights_of}
use Rattle.dist_relation.specs.declared.atom.Atom.{Atom}
use Rattle.dist_relation.specs.declared.atom.Kind.TheVariants as kinds
use Rattle.dist_relation.specs.declared.atom.Op.TheVariants.{Le, Eq, Ge}
use Rattle.dist_relation.specs.declared.atom.Qualifier.TheVariants.{Plain, Named}
use Rattle.dist_relation.specs.Bytes.{IsName}
use Rattle.dist_relation.specs.Grammar.{SpellsOperator, SpellsAtom, ReadsDepends}
use Rattle.dist_relation.specs.Canonical.{alternatives_text}
use Rattle.dist_relation.specs.Satisfies.{Satisfies}

-- a name begins with a letter or a digit
name_example : IsName (codes "libstdc++6")
name_example = refl

-- `<` means `<=`
operator_example : SpellsOperator (codes "<") Le
operator_example = inr refl

abbrev plain : List ℕ → Atom
plain name = record { name = name; qualifier = Plain; bound = None }

-- a name alone, with white space before and after it
spelled_example : SpellsAtom kinds.Depends (codes " a ") (plain (codes "a"))
spelled_example = record {
  before = codes " ";
  between = codes " ";
  bound = [];
  after = [];
  whole = refl;
  blank_before = refl;
  blank_between = refl;
  blank_after = refl;
  is_name = refl;
  is_qualifier = tt;
  is_bound = refl;
}

-- empty items are passed over: the value `,, a ,` has one item
commas_example : ReadsDepends (codes ",, a ,") ((plain (codes "a") ∷ []) ∷ [])
commas_example =
    record {
      pieces = None ∷ None ∷ Some (plain (codes "a") ∷ []) ∷ None ∷ [];
      joined = (
        [],
        codes ", a ,",
        refl,
        ([], codes " a ,", refl, (codes " a ", [], spelled_example, refl, refl), refl),
        refl,
      );
      given = refl;
    }

-- the canonical text of a qualified name at least at version 1, or another one
text_example : alternatives_text (record {
  name = codes "a";
  qualifier = Named (codes "any");
  bound = Some (record { op = Ge; version = codes "1" });
} ∷ plain (codes "b") ∷ []) ≡ codes "a:any (>= 1) | b"
text_example = refl

-- 1.0-0 meets `= 1.0`
equal_example : Satisfies (codes "1.0-0") (record { op = Eq; version = codes "1.0" })
unfolding version_cmp part_cmp weights_of epoch_of epoch_digits after_epoch upstream_of revision_of
equal_example = refl
