-- Worked examples.
use Rattle.std.specs.Prelude.{◌≡◌, [], ◌∷◌, codes, refl, Some, None, true}
use Rattle.dist_control.specs.declared.error.ControlError.TheVariants.{BadFieldName, OrphanContinuation, DoubleField}
use Rattle.dist_control.specs.Lines.{lines}
use Rattle.dist_control.specs.Fields.{fields_from, is_same_name}
use Rattle.dist_control.specs.Faults.{line_fault}
use Rattle.dist_control.specs.RawStanza.{raw_stanzas}

pub the_last_line_may_lack_its_end : lines (codes "a\n\nbc") ≡ codes "a" ∷ [] ∷ codes "bc" ∷ []
the_last_line_may_lack_its_end = refl

pub an_end_begins_no_line : lines (codes "a\n") ≡ codes "a" ∷ []
an_end_begins_no_line = refl

-- a line of two spaces ends the stanza, and the second stanza starts at line 4
pub blank_lines_part_stanzas : raw_stanzas (codes "a\nb\n  \nc\n")
    ≡ record { line = 1; lines = codes "a" ∷ codes "b" ∷ [] } ∷ record { line = 4; lines = codes "c" ∷ [] } ∷ []
blank_lines_part_stanzas = refl

pub blank_lines_alone_are_no_stanza : raw_stanzas (codes "\n \t\n\n") ≡ []
blank_lines_alone_are_no_stanza = refl

-- a value goes on over its continuation lines
pub a_folded_value : fields_from 3 (codes "Tag:  b," ∷ codes " c:d " ∷ codes "E:" ∷ [])
    ≡ record { name = codes "Tag"; value = codes "b,\n c:d"; line = 3 }
    ∷ record { name = codes "E"; value = []; line = 5 } ∷ []
a_folded_value = refl

pub a_stanza_begins_with_no_continuation : line_fault 7 [] (codes " a: b") ≡ Some (OrphanContinuation 7)
a_stanza_begins_with_no_continuation = refl

pub a_name_begins_with_no_hyphen : line_fault 7 [] (codes "-a: b") ≡ Some (BadFieldName 7)
a_name_begins_with_no_hyphen = refl

-- a field in a continuation line is none, and case is no difference
pub a_name_stands_once : line_fault 9 (codes "a: b" ∷ codes " C: d" ∷ []) (codes "A: e") ≡ Some (DoubleField 9)
a_name_stands_once = refl

pub another_name : line_fault 9 (codes "a: b" ∷ codes " C: d" ∷ []) (codes "C: e") ≡ None
another_name = refl

pub case_is_no_difference : is_same_name (codes "Package") (codes "pAckage") ≡ true
case_is_no_difference = refl
