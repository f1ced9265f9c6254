-- What the text is decides what a reader answers.
use Rattle.std.proofs.Common.{◌≡◌, ◌≢◌, ◌⊎◌, ⊎_elim, inl, inr, ℕ, List, [], ◌∷◌, Option, Some, None, Result, Ok, Err, length, refl, ap, sym, subst, ◌∙◌, arith}
use Rattle.std.proofs.Common.{length-append}
use Rattle.std.proofs.lemmas.Bool.{false≢true}
use Rattle.dist_base.specs.Ascii.{line_feed}
use Rattle.dist_outside.specs.declared.trouble.What.TheVariants.{Certificate}
use Rattle.dist_outside.specs.declared.trouble.WorkError.TheVariants.{TooLarge}
use Rattle.dist_cert.specs.declared.faults.CertCause.{CertCause}
use Rattle.dist_cert.specs.declared.faults.CertCause.TheVariants as causes
use Rattle.dist_cert.specs.declared.faults.ReadCertError.{ReadCertError}
use Rattle.dist_cert.specs.declared.faults.ReadCertError.TheVariants.{Bad, Work}
use Rattle.dist_cert.specs.declared.records.CertRecord.{CertRecord}
use Rattle.dist_cert.specs.declared.records.Header.{Header}
use Rattle.dist_cert.specs.Form.{HasForm, HasHeaderForm}
use Rattle.dist_cert.specs.OneVerdictLaws.{one_line}
use Rattle.dist_cert.specs.FileLines.{IsOneLine, BeginsWith}
use Rattle.dist_cert.specs.Reading.{ReaderView, PassesWhole, IsHeaderNext, HeaderFault, HeaderAnswers, IsRecordNext, IsAtEnd, RecordFault, RecordAnswers}
use Rattle.dist_cert.specs.ReadBackLaws.{IsGiven}
use Rattle.dist_cert.specs.ByRecordsLaws.{whole_line}
use Rattle.dist_cert.specs.ExactReaderLaws.{IsRefusedFor, IsTooLarge, ReaderIsExact}
use Rattle.dist_cert.proofs.OneLine.{clear}

-- a text that begins with a line and its line feed is more than one line
not_cut : (rest line more : List ℕ) → BeginsWith rest line more → ¬ IsOneLine rest
not_cut rest line more begins h = whole_line line more (subst IsOneLine begins.ended h)

-- nor is it empty
not_nothing : (rest line more : List ℕ) → BeginsWith rest line more → rest ≢ []
not_nothing rest line more begins e = let n = ap length (sym e ∙ begins.ended) in omega (arith, n, length-append line (line_feed ∷ more))

-- a text begins with one line
one_begin : (rest line more other behind : List ℕ) → BeginsWith rest line more → BeginsWith rest other behind → (line ≡ other) × (more ≡ behind)
one_begin rest line more other behind a b = one_line line other more behind a.one_line b.one_line (sym a.ended ∙ b.ended)

-- ---- the faults of a line on its own

-- Three faults, the last of which is `bad`, are all that there are, and exclude one another.
record AreExclusive (Has : CertCause → Type 0) (bad : CertCause) : Type 0 where
  long_cut : Has causes.LineTooLong → ¬ Has causes.Truncated
  long_bad : Has causes.LineTooLong → ¬ Has bad
  cut_bad : Has causes.Truncated → ¬ Has bad
  only : (cause : CertCause) → Has cause → (cause ≡ causes.LineTooLong) ⊎ ((cause ≡ causes.Truncated) ⊎ (cause ≡ bad))

-- a line has one of them at most
one_fault : (Has : CertCause → Type 0) (bad : CertCause) → AreExclusive Has bad → (cause other : CertCause) → Has cause → Has other → other ≡ cause
one_fault Has bad x cause other f g = at (x.only cause f) (x.only other g)
  where
    at : (cause ≡ causes.LineTooLong) ⊎ ((cause ≡ causes.Truncated) ⊎ (cause ≡ bad)) → (other ≡ causes.LineTooLong)
        ⊎ ((other ≡ causes.Truncated) ⊎ (other ≡ bad)) → other ≡ cause
    at (inl a) (inl b) = b ∙ sym a
    at (inl a) (inr (inl b)) = absurd (x.long_cut (subst Has a f) (subst Has b g))
    at (inl a) (inr (inr b)) = absurd (x.long_bad (subst Has a f) (subst Has b g))
    at (inr (inl a)) (inl b) = absurd (x.long_cut (subst Has b g) (subst Has a f))
    at (inr (inl a)) (inr (inl b)) = b ∙ sym a
    at (inr (inl a)) (inr (inr b)) = absurd (x.cut_bad (subst Has a f) (subst Has b g))
    at (inr (inr a)) (inl b) = absurd (x.long_bad (subst Has b g) (subst Has a f))
    at (inr (inr a)) (inr (inl b)) = absurd (x.cut_bad (subst Has b g) (subst Has a f))
    at (inr (inr a)) (inr (inr b)) = b ∙ sym a

-- ---- the first line

-- a line with a header has no fault
header_no_fault : (r : ReaderView) (rest behind : List ℕ) (h : Header) (cause : CertCause) → IsHeaderNext r rest behind h → ¬ HeaderFault r rest cause
header_no_fault r rest behind h causes.LineTooLong next f = next.limits.line f.1
header_no_fault r rest behind h causes.Truncated next f = not_cut rest next.line behind next.begins f.1
header_no_fault r rest behind h causes.BadHeader next f =
    f.1.3 h (subst (λ l. HasHeaderForm l h) (one_begin rest next.line behind f.1.0 f.1.1 next.begins f.1.2).0 next.form)
header_no_fault r rest behind h cause next f = f

header_exclusive : (r : ReaderView) (rest : List ℕ) → AreExclusive (HeaderFault r rest) causes.BadHeader
header_exclusive r rest = record {
  long_cut = λ f g. g.0.line f.1;
  long_bad = λ f g. g.0.line f.1;
  cut_bad = λ f g. not_cut rest g.1.0 g.1.1 g.1.2 f.1;
  only = only;
}
  where
    only : (cause : CertCause) → HeaderFault r rest cause → (cause ≡ causes.LineTooLong) ⊎ ((cause ≡ causes.Truncated) ⊎ (cause ≡ causes.BadHeader))
    only causes.LineTooLong f = inl refl
    only causes.Truncated f = inr (inl refl)
    only causes.BadHeader f = inr (inr refl)
    only cause f = absurd f

header_passes : (r : ReaderView) (rest : List ℕ) (cause : CertCause) → PassesWhole r.limits r.given rest → ¬ HeaderFault r rest cause
header_passes r rest causes.LineTooLong p f = f.0 p
header_passes r rest causes.Truncated p f = f.0.whole p
header_passes r rest causes.BadHeader p f = f.0.whole p
header_passes r rest cause p f = f

pub header_given : (r : ReaderView) (rest behind more : List ℕ) (h : Header) (answer : Result Header ReadCertError)
    → IsHeaderNext r rest behind h → HeaderAnswers r rest more answer → IsGiven answer h behind more
header_given r rest behind more h (Ok other) next a =
    let same = one_begin rest next.line behind a.line more next.begins a.begins in
    (clear.one_header a.line other h a.form (subst (λ l. HasHeaderForm l h) same.0 next.form), sym same.1)
header_given r rest behind more h (Err (Bad fault)) next a = header_no_fault r rest behind h fault.cause next a.0
header_given r rest behind more h (Err (Work (TooLarge Certificate))) next a = next.limits.whole a.0
header_given r rest behind more h (Err error) next a = tt

header_refused : (r : ReaderView) (rest more : List ℕ) (cause : CertCause) (answer : Result Header ReadCertError)
    → HeaderFault r rest cause → HeaderAnswers r rest more answer → IsRefusedFor answer cause
header_refused r rest more cause (Ok h) f a = header_no_fault r rest more h cause a f
header_refused r rest more cause (Err (Bad fault)) f a = one_fault (HeaderFault r rest) causes.BadHeader (header_exclusive r rest) cause fault.cause f a.0
header_refused r rest more cause (Err (Work (TooLarge Certificate))) f a = header_passes r rest cause a.0 f
header_refused r rest more cause (Err error) f a = tt

header_too_large : (r : ReaderView) (rest more : List ℕ) (answer : Result Header ReadCertError)
    → PassesWhole r.limits r.given rest → HeaderAnswers r rest more answer → IsTooLarge answer
header_too_large r rest more (Ok h) p a = a.limits.whole p
header_too_large r rest more (Err (Bad fault)) p a = header_passes r rest fault.cause p a.0
header_too_large r rest more (Err error) p a = tt

-- ---- later lines

record_no_fault : (r : ReaderView) (rest behind : List ℕ) (step : CertRecord) (cause : CertCause) → IsRecordNext r rest behind step → ¬ RecordFault r rest cause
record_no_fault r rest behind step causes.LineTooLong next f = next.limits.line f.1
record_no_fault r rest behind step causes.Truncated next f = not_cut rest next.line behind next.begins f.1.0
record_no_fault r rest behind step causes.BadRecord next f = ⊎_elim
    (λ over. false≢true (sym next.not_ended ∙ over))
    (λ none. none step (subst (λ l. HasForm l step) (one_begin rest next.line behind f.1.0 f.1.1 next.begins f.1.2).0 next.form))
    f.1.3
record_no_fault r rest behind step cause next f = f

end_no_fault : (r : ReaderView) (rest : List ℕ) (cause : CertCause) → IsAtEnd r rest → ¬ RecordFault r rest cause
end_no_fault r rest causes.LineTooLong done f = done.limits.line f.1
end_no_fault r rest causes.Truncated done f = ⊎_elim (λ left. left done.nothing) (λ going. going done.ended) f.1.1
end_no_fault r rest causes.BadRecord done f = not_nothing rest f.1.0 f.1.1 f.1.2 done.nothing
end_no_fault r rest cause done f = f

record_exclusive : (r : ReaderView) (rest : List ℕ) → AreExclusive (RecordFault r rest) causes.BadRecord
record_exclusive r rest = record {
  long_cut = λ f g. g.0.line f.1;
  long_bad = λ f g. g.0.line f.1;
  cut_bad = λ f g. not_cut rest g.1.0 g.1.1 g.1.2 f.1.0;
  only = only;
}
  where
    only : (cause : CertCause) → RecordFault r rest cause → (cause ≡ causes.LineTooLong) ⊎ ((cause ≡ causes.Truncated) ⊎ (cause ≡ causes.BadRecord))
    only causes.LineTooLong f = inl refl
    only causes.Truncated f = inr (inl refl)
    only causes.BadRecord f = inr (inr refl)
    only cause f = absurd f

record_passes : (r : ReaderView) (rest : List ℕ) (cause : CertCause) → PassesWhole r.limits r.given rest → ¬ RecordFault r rest cause
record_passes r rest causes.LineTooLong p f = f.0 p
record_passes r rest causes.Truncated p f = f.0.whole p
record_passes r rest causes.BadRecord p f = f.0.whole p
record_passes r rest cause p f = f

pub record_given : (r : ReaderView) (rest behind more : List ℕ) (step : CertRecord) (answer : Result (Option CertRecord) ReadCertError)
    → IsRecordNext r rest behind step → RecordAnswers r rest more answer → IsGiven answer (Some step) behind more
record_given r rest behind more step (Ok (Some other)) next a =
    let same = one_begin rest next.line behind a.line more next.begins a.begins in
    (ap Some (clear.one_record a.line other step a.form (subst (λ l. HasForm l step) same.0 next.form)), sym same.1)
record_given r rest behind more step (Ok None) next a = absurd (not_nothing rest next.line behind next.begins a.0.nothing)
record_given r rest behind more step (Err (Bad fault)) next a = record_no_fault r rest behind step fault.cause next a.0
record_given r rest behind more step (Err (Work (TooLarge Certificate))) next a = next.limits.whole a.0
record_given r rest behind more step (Err error) next a = tt

pub text_ends : (r : ReaderView) (rest more : List ℕ) (answer : Result (Option CertRecord) ReadCertError)
    → IsAtEnd r rest → RecordAnswers r rest more answer → IsGiven answer None rest more
text_ends r rest more (Ok (Some step)) done a = absurd (not_nothing rest a.line more a.begins done.nothing)
text_ends r rest more (Ok None) done a = (refl, a.1)
text_ends r rest more (Err (Bad fault)) done a = end_no_fault r rest fault.cause done a.0
text_ends r rest more (Err (Work (TooLarge Certificate))) done a = done.limits.whole a.0
text_ends r rest more (Err error) done a = tt

record_refused : (r : ReaderView) (rest more : List ℕ) (cause : CertCause) (answer : Result (Option CertRecord) ReadCertError)
    → RecordFault r rest cause → RecordAnswers r rest more answer → IsRefusedFor answer cause
record_refused r rest more cause (Ok (Some step)) f a = record_no_fault r rest more step cause a f
record_refused r rest more cause (Ok None) f a = end_no_fault r rest cause a.0 f
record_refused r rest more cause (Err (Bad fault)) f a = one_fault (RecordFault r rest) causes.BadRecord (record_exclusive r rest) cause fault.cause f a.0
record_refused r rest more cause (Err (Work (TooLarge Certificate))) f a = record_passes r rest cause a.0 f
record_refused r rest more cause (Err error) f a = tt

record_too_large : (r : ReaderView) (rest more : List ℕ) (answer : Result (Option CertRecord) ReadCertError)
    → PassesWhole r.limits r.given rest → RecordAnswers r rest more answer → IsTooLarge answer
record_too_large r rest more (Ok (Some step)) p a = a.limits.whole p
record_too_large r rest more (Ok None) p a = a.0.limits.whole p
record_too_large r rest more (Err (Bad fault)) p a = record_passes r rest fault.cause p a.0
record_too_large r rest more (Err error) p a = tt

pub exact : ReaderIsExact
exact = record {
  header_given = header_given;
  header_refused = header_refused;
  header_too_large = header_too_large;
  record_given = record_given;
  text_ends = text_ends;
  record_refused = record_refused;
  record_too_large = record_too_large;
}
