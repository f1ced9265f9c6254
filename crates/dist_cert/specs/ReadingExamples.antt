-- Worked examples: what a reader answers to the last line of a text, behind it, and where a limit is passed.
use Rattle.std.proofs.Common.{◌≡◌, ℕ, true, false, List, [], ◌∷◌, Some, None, Ok, Err, refl, arith, lit<, lit≤}
use Rattle.std.proofs.lemmas.List.Elements.{All-nil, All-cons}
use Rattle.dist_base.specs.Ascii.{line_feed}
use Rattle.dist_outside.specs.declared.limits.Limits.{Limits}
use Rattle.dist_outside.specs.declared.trouble.What.TheVariants.{Certificate}
use Rattle.dist_outside.specs.declared.trouble.WorkError.TheVariants.{TooLarge}
use Rattle.dist_cert.specs.declared.faults.CertCause.TheVariants as causes
use Rattle.dist_cert.specs.declared.faults.ReadCertError.TheVariants.{Bad, Work}
use Rattle.dist_cert.specs.declared.records.CertRecord.TheVariants.{End}
use Rattle.dist_cert.specs.Form.{IsSmall, record_text}
use Rattle.dist_cert.specs.FileLines.{IsOneLine}
use Rattle.dist_cert.specs.Reading.{ReaderView, RecordAnswers, past_line}

-- 100 bytes of a whole and `line` of a line; these are given before
abbrev within : ℕ → Limits
within line = record {
  bytes = 0;
  stanzas = 0;
  variables = 0;
  clauses = 0;
  literals = 0;
  lines = 0;
  line_literals = 0;
  certificate = 100;
  record_line = line;
}

abbrev reader : ℕ → ℕ → ReaderView
reader line given = record { limits = within line; held = []; given = given; lines = 5; ended = false }

-- `e` and its line feed
abbrev last : List ℕ
last = 101 ∷ 10 ∷ []

one_line : IsOneLine (101 ∷ [])
one_line = All-cons (λ byte. byte ≡ line_feed → ⊥) 101 [] (λ e. omega (arith, e))
    (All-nil (λ byte. byte ≡ line_feed → ⊥))

end_is_given : RecordAnswers (reader 50 98) last [] (Ok (Some End))
end_is_given = record {
  limits = record { whole = λ p. omega (arith, p.passed); line = λ t. omega (arith, t.0) };
  not_ended = refl;
  line = 101 ∷ [];
  begins = record { ended = refl; one_line = one_line };
  form = record { text = refl; rules = tt; numbers = All-nil (λ w. IsSmall w.0) };
}

-- the line feed is one byte too many
too_large : RecordAnswers (reader 50 99) last last (Err (Work (TooLarge Certificate)))
too_large = (record { passed = lit< tt; in_line = one_line; not_before = lit< tt }, refl)

-- a line of one byte is too long where with its line feed it may have one alone
too_long : RecordAnswers (reader 1 98) last last (Err (Bad (record { line = 6; cause = causes.LineTooLong })))
too_long = ((λ p. omega (arith, p.passed), (lit≤ tt, one_line)), refl)

two_bytes : (past_line (reader 50 98) [] (record_text End)).given ≡ 100
two_bytes = refl

text_ends : RecordAnswers (record (past_line (reader 50 98) [] (record_text End)) { ended = true }) [] [] (Ok None)
text_ends = (
  record {
    limits = record { whole = λ p. omega (arith, p.passed); line = λ t. omega (arith, t.0) };
    ended = refl;
    nothing = refl;
  },
  refl,
)
