-- The fields of the stanza of a drawn package give that package.
use Rattle.std.proofs.Common.{◌≡◌, ℕ, ◌+◌, ◌/◌, ◌<◌, ◌==◌, Bool, true, false, List, [], ◌∷◌, ◌++◌, append-nil, map, Option, Some, None, refl, ap, sym, subst}
use Rattle.std.proofs.Common.{◌∙◌, arith, inl, inr}
use Rattle.std.specs.Prelude.{codes, decimal, if◌then◌else◌}
use Rattle.std.specs.List.{join_by, join_with_byte}
use Rattle.std.proofs.lemmas.Bool.{false≢true}
use Rattle.dist_base.specs.Ascii.{is_white}
use Rattle.dist_control.specs.ControlText.{IsReading}
use Rattle.dist_control.specs.Fields.{trim, continuations, fields_from, field_spelled}
use Rattle.dist_control.specs.declared.field_list.Stanza.{Stanza}
use Rattle.dist_package.specs.Named.{value_of, relation_field_name as field_name}
use Rattle.dist_package.specs.PackageOf.{IsPackageOf, ReadsName, ReadsVersionField, ReadsSource, ReadsArchitecture, all}
use Rattle.dist_package.specs.declared.error.RelationField.TheVariants.{Depends, Conflicts}
use Rattle.dist_relation.specs.Grammar.{ReadsDepends, ReadsAtoms}
use Rattle.dist_generate.specs.Generator.{Alternative, Drawn, drawn_bound, alternative_text, item_text, depends_lines, conflicts_lines, field_lines}
use Rattle.dist_generate.specs.Packages.{name_of, atom_of, conflicts_of, version_of, package_of}
use Rattle.dist_generate.proofs.Small.{AreTargets, IsItem, AreItems, IsTarget, IsSmall, small}
use Rattle.dist_generate.proofs.RawStanzas.{raw_of, sound-drawn}
use Rattle.dist_generate.proofs.Trimmed.{Ends, ends-append, ends-decimal, trimmed}
use Rattle.dist_generate.proofs.Values.{is-name, is-version, spells-source, reads-depends, reads-conflict, depends-none, atoms-none, provides-none}

-- ---- values end with a byte that is not white

ends-bound : (digits : List ℕ) → Ends digits → (x y : Bool) → Ends (digits ++ (if x then codes " (>= 1)" else if y then codes " (<< 2)" else []))
ends-bound digits e true y = ends-append digits (codes " (>= 1)") (record { front = codes " (>= 1"; last = 41; whole = refl; dark = refl })
ends-bound digits e false true = ends-append digits (codes " (<< 2)") (record { front = codes " (<< 2"; last = 41; whole = refl; dark = refl })
ends-bound digits e false false = subst Ends (sym (append-nil digits)) e

ends-alternative : (c : Alternative) → c.target < 10000 → Ends (alternative_text c)
ends-alternative c h = ends-append (codes "g") (decimal c.target ++ drawn_bound c.bound)
    (ends-bound (decimal c.target) (ends-decimal c.target (small c.target h)) (c.bound == 2) (c.bound == 3))

ends-item : (c : Alternative) (cs : List Alternative) → AreTargets (c ∷ cs) → Ends (item_text (c ∷ cs))
ends-item c [] h = subst Ends (sym (append-nil (alternative_text c))) (ends-alternative c h.0)
ends-item c (d ∷ cs) h = ends-append (alternative_text c) (32 ∷ 124 ∷ 32 ∷ item_text (d ∷ cs))
    (ends-append (codes " | ") (item_text (d ∷ cs)) (ends-item d cs h.1))

ends-spelled : (item : List Alternative) → IsItem item → Ends (item_text item)
ends-spelled [] is = absurd (omega (arith, is.0))
ends-spelled (c ∷ cs) is = ends-item c cs is.2

ends-items : (item : List Alternative) (items : List (List Alternative)) → AreItems (item ∷ items) → Ends (join_by item_text (codes ", ") (item ∷ items))
ends-items item [] h = subst Ends (sym (append-nil (item_text item))) (ends-spelled item h.0)
ends-items item (next ∷ items) h =
    ends-append (item_text item) (44 ∷ 32 ∷ join_by item_text (codes ", ") (next ∷ items))
    (ends-append (codes ", ") (join_by item_text (codes ", ") (next ∷ items)) (ends-items next items h.1))

-- a byte and a decimal number, of which nothing is cut off
trimmed-number : (first n : ℕ) → is_white first ≡ false → n < 10000 → trim (first ∷ decimal n) ≡ first ∷ decimal n
trimmed-number first n dark h = trimmed first (decimal n) dark (ends-append (first ∷ []) (decimal n) (ends-decimal n (small n h)))

trimmed-items : (item : List Alternative) (items : List (List Alternative)) → AreItems (item ∷ items) →
    trim (join_by item_text (codes ", ") (item ∷ items)) ≡ join_by item_text (codes ", ") (item ∷ items)
trimmed-items [] items h = absurd (omega (arith, h.0.0))
trimmed-items (c ∷ cs) items h = trimmed 103 _ refl (ends-items (c ∷ cs) items h)

trimmed-version : (digit : ℕ) → digit < 3 → trim (codes "1." ++ decimal digit) ≡ codes "1." ++ decimal digit
trimmed-version digit h = trimmed 49 (46 ∷ decimal digit) refl (ends-append (codes "1.") (decimal digit) (ends-decimal digit (omega arith)))

-- ---- the stanza

pub stanza_of : ℕ → Drawn → Stanza
stanza_of number d = record { line = number; fields = fields_from number (field_lines d) }

pub reading-drawn : (number : ℕ) (d : Drawn) → IsReading (raw_of number d) (stanza_of number d)
unfolding stanza_of
reading-drawn number d = record { sound = sound-drawn number d; line = refl; fields = refl }

-- no line of relations continues a field
not-continued : (items : List (List Alternative)) (conflict : Option ℕ) → continuations (depends_lines items ++ conflicts_lines conflict) ≡ []
not-continued [] None = refl
not-continued [] (Some other) = refl
not-continued (item ∷ items) conflict = refl

module _ (number : ℕ) (d : Drawn) (is : IsSmall d) where
  reads-name : ReadsName (stanza_of number d) (name_of d.number)
  unfolding stanza_of
  reads-name = record {
    line = number;
    field = record {
      field = field_spelled number (codes "Package: g" ++ decimal d.number) [];
      found = refl;
      value_is = trimmed-number 103 d.number refl is.number;
      line_is = refl;
    };
    is_name = is-name d.number is.number;
  }

  reads-version : ReadsVersionField (stanza_of number d) (version_of d)
  unfolding stanza_of
  reads-version = record {
    value = version_of d;
    line = number + 1;
    field = record {
      field = field_spelled (number + 1) (codes "Version: 1." ++ decimal d.digit) [];
      found = refl;
      value_is = trimmed-version d.digit is.digit;
      line_is = refl;
    };
    reads = (refl, is-version d.digit is.digit);
  }

  reads-source : ReadsSource (stanza_of number d) (name_of d.number) (version_of d) (codes "s" ++ decimal (d.number / 2)) (version_of d)
  unfolding stanza_of
  reads-source =
      let half : d.number / 2 < 10000 = omega (arith, is.number) in
      let more = depends_lines d.items ++ conflicts_lines d.conflict in
      inr (
        codes "s" ++ decimal (d.number / 2),
        number + 1 + 1 + 1,
        record {
          field = field_spelled (number + 1 + 1 + 1) (codes "Source: s" ++ decimal (d.number / 2)) (continuations more);
          found = refl;
          value_is = ap (λ (ls : List (List ℕ)). trim (join_with_byte 10 ((codes " s" ++ decimal (d.number / 2)) ∷ ls))) (not-continued d.items d.conflict)
              ∙ trimmed-number 115 (d.number / 2) refl half;
          line_is = refl;
        },
        record { written = None; spells = spells-source (d.number / 2) half; version_is = refl },
      )

  reads-architecture : (earlier : Option (List ℕ)) → ReadsArchitecture earlier (stanza_of number d) all
  unfolding stanza_of
  reads-architecture earlier = record {
    given = inr (
      number + 1 + 1,
      record {
        field = field_spelled (number + 1 + 1) (codes "Architecture: all") [];
        found = refl;
        value_is = refl;
        line_is = refl;
      },
      refl,
    );
    agrees = inl refl;
  }

value-depends : (number : ℕ) (d : Drawn) (items : List (List Alternative)) → AreItems items → (conflict : Option ℕ) →
    ReadsDepends (value_of (stanza_of number (record d { items = items; conflict = conflict })) (field_name Depends)) (map (map atom_of) items)
unfolding stanza_of
value-depends number d [] h None = depends-none
value-depends number d [] h (Some other) = depends-none
value-depends number d (item ∷ items) h None =
    subst (λ (t : List ℕ). ReadsDepends t (map (map atom_of) (item ∷ items))) (sym (trimmed-items item items h)) (reads-depends item items h)
value-depends number d (item ∷ items) h (Some other) =
    subst (λ (t : List ℕ). ReadsDepends t (map (map atom_of) (item ∷ items))) (sym (trimmed-items item items h)) (reads-depends item items h)

value-conflicts : (number : ℕ) (d : Drawn) (items : List (List Alternative)) (conflict : Option ℕ) → IsTarget conflict →
    ReadsAtoms (value_of (stanza_of number (record d { items = items; conflict = conflict })) (field_name Conflicts)) (conflicts_of conflict)
unfolding stanza_of
value-conflicts number d [] None h = atoms-none
value-conflicts number d (item ∷ items) None h = atoms-none
value-conflicts number d [] (Some other) h =
    subst (λ (t : List ℕ). ReadsAtoms t (conflicts_of (Some other))) (sym (trimmed-number 103 other refl h)) (reads-conflict other h)
value-conflicts number d (item ∷ items) (Some other) h =
    subst (λ (t : List ℕ). ReadsAtoms t (conflicts_of (Some other))) (sym (trimmed-number 103 other refl h)) (reads-conflict other h)

-- the fields that no stanza has
record LacksOthers (stanza : Stanza) : Type 0 where
  pre_depends : value_of stanza (codes "Pre-Depends") ≡ []
  breaks : value_of stanza (codes "Breaks") ≡ []
  provides : value_of stanza (codes "Provides") ≡ []
  essential : value_of stanza (codes "Essential") ≡ []

lacks-others : (number : ℕ) (d : Drawn) (items : List (List Alternative)) (conflict : Option ℕ)
    → LacksOthers (stanza_of number (record d { items = items; conflict = conflict }))
unfolding stanza_of
lacks-others number d [] None = record { pre_depends = refl; breaks = refl; provides = refl; essential = refl }
lacks-others number d [] (Some other) = record { pre_depends = refl; breaks = refl; provides = refl; essential = refl }
lacks-others number d (item ∷ items) None = record { pre_depends = refl; breaks = refl; provides = refl; essential = refl }
lacks-others number d (item ∷ items) (Some other) = record { pre_depends = refl; breaks = refl; provides = refl; essential = refl }

pub package-drawn : (number : ℕ) (d : Drawn) → IsSmall d → (earlier : Option (List ℕ)) → IsPackageOf earlier (stanza_of number d) (package_of d) all
package-drawn number d is earlier =
    let lacks = lacks-others number d d.items d.conflict in
    record {
      name = reads-name number d is;
      version = reads-version number d is;
      source = reads-source number d is;
      place = reads-architecture number d is earlier;
      relations = record {
        pre_depends = [];
        other_depends = map (map atom_of) d.items;
        conflicts_alone = conflicts_of d.conflict;
        breaks = [];
        reads_pre_depends = rw lacks.pre_depends depends-none;
        reads_depends = value-depends number d d.items is.items d.conflict;
        reads_conflicts = value-conflicts number d d.items d.conflict is.conflict;
        reads_breaks = rw lacks.breaks atoms-none;
        reads_provides = rw lacks.provides provides-none;
        depends_is = refl;
        conflicts_is = sym (append-nil (conflicts_of d.conflict));
      };
      essential = (λ h. absurd (false≢true h), λ e. let bad : [] ≡ codes "yes" = sym lacks.essential ∙ e in cc);
    }
