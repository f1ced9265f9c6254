-- Worked examples: the lines of a certificate of two packages, the first of which depends on the second.
use Rattle.std.specs.Prelude.{◌≡◌, true, false, [], ◌∷◌, codes, refl}
use Rattle.std.specs.Fmt.{digits}
use Rattle.dist_cert.specs.Form.{record_text, header_text}
use Rattle.dist_cert.specs.declared.records.CertKind.TheVariants as kinds
use Rattle.dist_cert.specs.declared.records.CertRecord.TheVariants.{Question, Refuted, Installation, Strong, End}

first_line : header_text (record {
  kind = kinds.Strong;
  limit = 10000;
  packages = 2;
  variables = 2;
  clauses = 1;
  essential = false;
})
    ≡ codes "distfuture-certificate 1 strong plain 10000 2 2 1"
unfolding digits
first_line = refl

asks_for_the_first : record_text (Question ((1, true) ∷ [])) ≡ codes "q 1"
unfolding digits
asks_for_the_first = refl

both_are_installable : record_text (Installation (1 ∷ 2 ∷ [])) ≡ codes "m 1 2"
unfolding digits
both_are_installable = refl

asks_without_the_second : record_text (Question ((1, true) ∷ (2, false) ∷ [])) ≡ codes "q 1 -2"
unfolding digits
asks_without_the_second = refl

by_the_input_clause : record_text (Refuted (1 ∷ [])) ≡ codes "f 1"
unfolding digits
by_the_input_clause = refl

depends_strongly : record_text (Strong 1 (1 ∷ []) (2 ∷ []) []) ≡ codes "s 1 1 0 2 0"
unfolding digits
depends_strongly = refl

asks_for_the_second : record_text (Question ((2, true) ∷ [])) ≡ codes "q 2"
unfolding digits
asks_for_the_second = refl

the_second_alone : record_text (Installation (2 ∷ [])) ≡ codes "m 2"
unfolding digits
the_second_alone = refl

depends_on_nothing : record_text (Strong 2 (2 ∷ []) [] []) ≡ codes "s 2 2 0 0"
unfolding digits
depends_on_nothing = refl

ends : record_text End ≡ codes "e"
unfolding digits
ends = refl
