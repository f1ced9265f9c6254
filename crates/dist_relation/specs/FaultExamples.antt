-- Worked examples of the first fault, one of each kind, put together from the records of the definition.
use Rattle.std.specs.Prelude.{◌≡◌, ◌-◌, ℕ, false, List, [], ◌∷◌, ◌++◌, length, None, refl, codes}
use Rattle.std.proofs.Common.{inl, inr}
use Rattle.std.proofs.lemmas.Bool.{and_parts}
use Rattle.dist_base.specs.Ascii.{is_comma, is_white}
use Rattle.dist_version.specs.declared.error.VersionError.TheVariants.{BadByte}
use Rattle.dist_version.specs.Spelling.{IsVersion, epoch_digits, after_epoch, upstream_of, revision_of}
use Rattle.dist_version.specs.Faults.{fault_of}
use Rattle.dist_version.specs.TextLaws.{version_from_no_fault}
use Rattle.dist_relation.specs.declared.atom.Kind.{Kind}
use Rattle.dist_relation.specs.declared.atom.Kind.TheVariants.{Depends, Conflicts, Provides}
use Rattle.dist_relation.specs.declared.atom.Op.{Op}
use Rattle.dist_relation.specs.declared.atom.Op.TheVariants.{Lt, Le, Eq, Ge, Gt}
use Rattle.dist_relation.specs.declared.atom.Qualifier.TheVariants.{Plain}
use Rattle.dist_relation.specs.declared.error.Problem.{Problem}
use Rattle.dist_relation.specs.declared.error.Problem.TheVariants as problems
use Rattle.dist_relation.specs.declared.error.RelationError.TheVariants as errors
use Rattle.dist_relation.specs.Bytes.{IsBlank, Meets}
use Rattle.dist_relation.specs.Grammar.{SpellsOperator, SpellsAtom, SpellsAlternatives, SpellsProvide}
use Rattle.dist_relation.specs.Faults.{Head, Opened, Compared, PassedOver, Has, error_at, FirstFault, FirstDependsFault}
use Rattle.dist_relation.specs.Faults.{FirstAtomsFault, FirstProvidesFault}

-- ---- what the examples share: the atom `a`, as far as it came

abbrev head : Head (codes "a") (codes "a") Plain
head = record { space = []; blank = refl; is_name = refl; is_qualifier = tt; parts = refl }

abbrev opened : Opened (codes "a (") (codes "a") Plain
opened = record {
  head = codes "a";
  gap = codes " ";
  space = [];
  is_head = head;
  blank_gap = refl;
  blank = refl;
  parts = refl;
}

abbrev at_least : Compared Depends (codes "a (>= ") (codes "a") Plain Ge
at_least = record {
  opened = codes "a (";
  operator = codes ">=";
  space = codes " ";
  is_opened = opened;
  is_operator = inl refl;
  allowed = refl;
  blank = refl;
  parts = refl;
}

-- what begins with neither white space nor a comma is not passed over
begins : (b : ℕ) (bs : List ℕ) → is_white b ≡ false → is_comma b ≡ false → ¬ PassedOver (b ∷ bs)
begins b bs no_space no_comma p = by_space p.space p.rest p.blank p.parts p.ends
  where
    by_space : (space rest : List ℕ) → IsBlank space → b ∷ bs ≡ space ++ rest → Meets is_comma rest → ⊥
    by_space [] [] blank parts ends = cc
    by_space [] (x ∷ rest) blank parts ends = cc
    by_space (x ∷ space) rest blank parts ends = let p = and_parts (is_white x) _ blank in cc

-- a fault of a value's first atom
at_first : {X : Type 0} (kind : Kind) (Spells : List ℕ → X → Type 0) (value here : List ℕ) (problem : Problem)
    → ¬ PassedOver value → Has kind value here problem
    → FirstFault kind Spells value (error_at problem (length value - length here))
at_first kind Spells value here problem not_passed_over has = record {
  before = [];
  pieces = [];
  alternatives = [];
  atoms = [];
  text = value;
  here = here;
  problem = problem;
  parts = refl;
  is_before = refl;
  not_passed_over = not_passed_over;
  is_alternatives = refl;
  barred = λ _. refl;
  has = has;
  is_error = refl;
}

-- ---- the seven faults

-- no name begins with `_`
name_example : FirstDependsFault (codes "_a") (errors.BadName 0)
name_example =
    at_first Depends SpellsAlternatives (codes "_a") (codes "_a") problems.BadName (begins 95 (codes "a") refl refl)
    (inl (record { space = []; blank = refl; parts = refl; skipped = refl; missing = refl }))

no_operator : (op : Op) → ¬ SpellsOperator [] op
no_operator Lt h = cc
no_operator Le (inl h) = cc
no_operator Le (inr h) = cc
no_operator Eq h = cc
no_operator Ge (inl h) = cc
no_operator Ge (inr h) = cc
no_operator Gt h = cc

-- an operator must follow the parenthesis
operator_example : FirstDependsFault (codes "a (1)") (errors.BadOp 3)
operator_example =
    at_first Depends SpellsAlternatives (codes "a (1)") (codes "1)") problems.BadOp (begins 97 (codes " (1)") refl refl)
    (record {
      opened = codes "a (";
      name = codes "a";
      qualifier = Plain;
      is_opened = opened;
      parts = refl;
      skipped = refl;
      missing = no_operator;
    })

-- a version has no `_`
version_example : FirstDependsFault (codes "a (>= 1_2)") (errors.BadVersion 6 (BadByte 1))
unfolding fault_of epoch_digits after_epoch upstream_of revision_of
version_example =
    at_first Depends SpellsAlternatives (codes "a (>= 1_2)") (codes "1_2)") (problems.BadVersion (BadByte 1))
    (begins 97 (codes " (>= 1_2)") refl refl)
    (record {
      compared = codes "a (>= ";
      name = codes "a";
      qualifier = Plain;
      op = Ge;
      is_compared = at_least;
      parts = refl;
      whole_operator = refl;
      skipped = refl;
      missing = refl;
    })

one : IsVersion (codes "1")
unfolding fault_of epoch_digits after_epoch upstream_of revision_of
one = version_from_no_fault (codes "1") refl

-- the value ends before the closing parenthesis
closing_example : FirstDependsFault (codes "a (>= 1") (errors.Unclosed 7)
closing_example =
    at_first Depends SpellsAlternatives (codes "a (>= 1") [] problems.Unclosed (begins 97 (codes " (>= 1") refl refl)
    (record {
      versioned = codes "a (>= 1";
      name = codes "a";
      qualifier = Plain;
      bound = record { op = Ge; version = codes "1" };
      is_versioned = record {
        compared = codes "a (>= ";
        space = [];
        is_compared = at_least;
        is_version = one;
        blank = refl;
        parts = refl;
      };
      parts = refl;
      whole_version = tt;
      skipped = tt;
      missing = tt;
    })

-- a Conflicts value has no alternatives
bar_example : FirstAtomsFault (codes "a | b") (errors.BarNotAllowed 2)
bar_example =
    at_first Conflicts (SpellsAtom Conflicts) (codes "a | b") (codes "| b") problems.BarNotAllowed
    (begins 97 (codes " | b") refl refl)
    (record {
      after_atom = inl (record {
        head = codes "a";
        space = codes " ";
        name = codes "a";
        qualifier = Plain;
        is_head = head;
        blank = refl;
        parts = refl;
        whole_head = (refl, refl);
        skipped = refl;
        not_opened = refl;
      });
      rest = codes " b";
      stands = refl;
      forbidden = refl;
    })

-- in `a b` the atom ends before the b
trailing_example : FirstAtomsFault (codes "a b") (errors.Trailing 2)
trailing_example =
    at_first Conflicts (SpellsAtom Conflicts) (codes "a b") (codes "b") problems.Trailing
    (begins 97 (codes " b") refl refl)
    (record {
      after_atom = inl (record {
        head = codes "a";
        space = codes " ";
        name = codes "a";
        qualifier = Plain;
        is_head = head;
        blank = refl;
        parts = refl;
        whole_head = (refl, refl);
        skipped = refl;
        not_opened = refl;
      });
      first = 98;
      rest = [];
      stands = refl;
      other = refl;
    })

-- Provides compares with `=` alone
provided_example : FirstProvidesFault (codes "a (>= 1)") (errors.OpInProvides 3)
provided_example =
    at_first Provides SpellsProvide (codes "a (>= 1)") (codes ">= 1)") problems.OpInProvides
    (begins 97 (codes " (>= 1)") refl refl)
    (record {
      opened = codes "a (";
      name = codes "a";
      qualifier = Plain;
      op = Ge;
      is_opened = opened;
      parts = refl;
      is_operator = inl refl;
      forbidden = refl;
    })

-- ---- a fault behind other atoms: after a bar an atom must follow

first_alternative : SpellsAtom Depends (codes "a ") (record { name = codes "a"; qualifier = Plain; bound = None })
first_alternative = record {
  before = [];
  between = codes " ";
  bound = [];
  after = [];
  whole = refl;
  blank_before = refl;
  blank_between = refl;
  blank_after = refl;
  is_name = refl;
  is_qualifier = tt;
  is_bound = refl;
}

behind_bar_example : FirstDependsFault (codes "a || b") (errors.BadName 3)
behind_bar_example = record {
  before = [];
  pieces = [];
  alternatives = codes "a |";
  atoms = record { name = codes "a"; qualifier = Plain; bound = None } ∷ [];
  text = codes "| b";
  here = codes "| b";
  problem = problems.BadName;
  parts = refl;
  is_before = refl;
  not_passed_over = begins 97 (codes " || b") refl refl;
  is_alternatives = (codes "a ", [], first_alternative, refl, refl);
  barred = λ e. cc;
  has = inl (record { space = []; blank = refl; parts = refl; skipped = refl; missing = refl });
  is_error = refl;
}
