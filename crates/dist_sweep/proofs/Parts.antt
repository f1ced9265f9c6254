-- What a sweep wrote as a text: a part of a certificate, one that is full, and an accepted one.
use Rattle.std.proofs.Common.{◌≡◌, ◌⊎◌, ⊎_elim, inl, inr, ℕ, Bool, List, [], ◌∷◌, ◌++◌, length, refl, ap, sym, subst, ◌∙◌, append_assoc, append-nil, arith}
use Rattle.std.proofs.Common.{length-append}
use Rattle.std.specs.List.{All}
use Rattle.std.proofs.lemmas.List.Elements.{All-cons, All-head, All-nil, All-tail}
use Rattle.dist_base.specs.Ascii.{line_feed}
use Rattle.dist_base.specs.Front.{IsFrontOf}
use Rattle.dist_outside.specs.declared.limits.Limits.{Limits}
use Rattle.dist_outside.specs.declared.trouble.What.{What}
use Rattle.dist_outside.specs.declared.trouble.What.TheVariants.{Lines, LineLiterals, RecordLine, Certificate}
use Rattle.dist_outside.specs.declared.trouble.WorkError.TheVariants.{TooLarge}
use Rattle.dist_repo.specs.PackageList.{PackageList}
use Rattle.dist_cert.specs.declared.records.CertKind.{CertKind}
use Rattle.dist_cert.specs.declared.records.CertRecord.{CertRecord}
use Rattle.dist_cert.specs.declared.records.CertRecord.TheVariants.{End}
use Rattle.dist_cert.specs.declared.records.Header.{Header}
use Rattle.dist_cert.specs.Accepted.{Accepted, claims_in}
use Rattle.dist_cert.specs.ByRecordsLaws.{AreSound, IsSoundHeader, accepted_by_records}
use Rattle.dist_cert.specs.ClearFormsLaws.{FormsAreClear}
use Rattle.dist_cert.specs.Form.{HasForm, HasHeaderForm, header_text, record_text}
use Rattle.dist_cert.specs.OneVerdictLaws.{one_line}
use Rattle.dist_cert.specs.Part.{IsPartOf, Passes}
use Rattle.dist_cert.specs.PartByRecordsLaws.{AreLines, IsHeaderOf, IsLine, IsShortLine, part_by_records, sound_by_lines}
use Rattle.dist_cert.specs.FileLines.{lines_text}
use Rattle.dist_cert.specs.Refusal.{Reads, certificate_text}
use Rattle.dist_cert.specs.Writing.{ended}
use Rattle.dist_judge.specs.Judging.{KeepsNumbers}
use Rattle.dist_subject.specs.Certificates.{certificates_of}
use Rattle.dist_subject.specs.Completed.{IsCompleted}
use Rattle.dist_subject.specs.Basis.{Basis, IsBasisOf, matter_of}
use Rattle.dist_subject.specs.Limited.{AreInputsWithin}
use Rattle.dist_line_write.specs.LineLaws.{contains-last}
use Rattle.dist_line_write.specs.ScriptLaws.{text-push}
use Rattle.dist_sweep.specs.Script.{AllNext, AreWritten, IsCutOff, IsPassed, Setting, matter_in}
use Rattle.dist_sweep.specs.Sweeping.{setting_of}
use Rattle.dist_sweep.specs.Sweep.{IsCutSweep, IsFull, IsSweep}

-- ---- lines one after another

are-lines : (g : Setting) (before steps : List CertRecord) → AllNext g before steps → All (IsShortLine g.limits) steps
    → AreLines g.limits (matter_in g) g.header before steps
are-lines g before [] all short = tt
are-lines g before (step ∷ steps) all short = (
  all.0,
  (λ some. All-head (IsShortLine g.limits) step steps short),
  are-lines g (before ++ step ∷ []) steps all.1 (All-tail (IsShortLine g.limits) step steps short),
)

with-last : (g : Setting) (before steps : List CertRecord) (step : CertRecord) → AllNext g before steps → All (IsShortLine g.limits) steps
    → IsLine (matter_in g) g.header (before ++ steps) step
    → AreLines g.limits (matter_in g) g.header before (steps ++ step ∷ [])
with-last g before [] step all short line = (subst (λ b. IsLine (matter_in g) g.header b step) (append-nil before) line, (λ some. absurd (some refl)), tt)
with-last g before (s ∷ steps) step all short line = (
  all.0,
  (λ some. All-head (IsShortLine g.limits) s steps short),
  with-last g (before ++ s ∷ []) steps step all.1 (All-tail (IsShortLine g.limits) s steps short)
      (subst (λ b. IsLine (matter_in g) g.header b step) (sym (append_assoc before (s ∷ []) steps)) line),
)

-- no number is passed by what is written
not-passed : (g : Setting) (lines : List CertRecord) (what : What) → AreWritten g lines → ¬ Passes g.limits g.header lines what
not-passed g lines Lines written passes = omega (arith, written.within.kept.count, passes)
not-passed g lines LineLiterals written passes = omega (arith, written.within.kept.literals, passes)
not-passed g lines RecordLine written passes = ⊎_elim
    (λ first. omega (arith, written.within.first_short, first, length-append (header_text g.header) (10 ∷ [])))
    (λ any. let short = written.within.short any.0 any.1 any.2 in let size = length-append (record_text any.1) (10 ∷ []) in
    omega (arith, short, size, ap (λ (s : CertRecord). length (record_text s)) any.3, any.4)) passes
not-passed g lines Certificate written passes = omega (arith, written.within.bytes, passes)
not-passed g lines what written passes = passes

-- ---- one reading

same-lines : FormsAreClear → (ones twos : List CertRecord) → All (λ step. HasForm (record_text step) step) ones
    → All (λ step. HasForm (record_text step) step) twos → lines_text ones ≡ lines_text twos → ones ≡ twos
same-lines clear [] [] a b e = refl
same-lines clear [] (y ∷ twos) a b e = let n = ap length e in
    absurd (omega (
      arith,
      n,
      ap length (append_assoc (record_text y) (line_feed ∷ []) (lines_text twos)),
      length-append (record_text y) (line_feed ∷ lines_text twos),
    ))
same-lines clear (x ∷ ones) [] a b e = let n = ap length e in
    absurd (omega (
      arith,
      n,
      ap length (append_assoc (record_text x) (line_feed ∷ []) (lines_text ones)),
      length-append (record_text x) (line_feed ∷ lines_text ones),
    ))
same-lines clear (x ∷ ones) (y ∷ twos) a b e =
    let Form : CertRecord → Type 0 = λ step. HasForm (record_text step) step in
    let first = All-head Form x ones a in
    let other = All-head Form y twos b in
    let lines = one_line (record_text x) (record_text y) (lines_text ones) (lines_text twos) (clear.record_line x first) (clear.record_line y other)
    (sym (append_assoc (record_text x) (line_feed ∷ []) (lines_text ones)) ∙ e ∙ append_assoc (record_text y) (line_feed ∷ []) (lines_text twos)) in
    let same : x ≡ y = clear.one_record (record_text x) x y first (subst (λ line. HasForm line y) (sym lines.0) other) in
    subst (λ z. x ∷ ones ≡ z ∷ twos) same (ap (λ (ls : List CertRecord). x ∷ ls)
    (same-lines clear ones twos (All-tail Form x ones a) (All-tail Form y twos b) lines.1))

formed : (g : Setting) (before steps : List CertRecord) → AllNext g before steps → All (λ step. HasForm (record_text step) step) steps
formed g before [] all = All-nil (λ step. HasForm (record_text step) step)
formed g before (step ∷ steps) all = All-cons (λ s. HasForm (record_text s) s) step steps all.0.form (formed g (before ++ step ∷ []) steps all.1)

one-reading : FormsAreClear → (g : Setting) (lines others : List CertRecord) → HasHeaderForm (header_text g.header) g.header → AreWritten g lines
    → Reads (certificate_text g.header lines) g.header others [] → others ≡ lines
one-reading clear g lines others form written reads =
    let first = clear.header_line g.header form in
    let texts = one_line (header_text g.header) (header_text g.header) (lines_text others) (lines_text lines) first first
    (sym (append-nil (certificate_text g.header others)) ∙ sym reads.text_is) in
    same-lines clear others lines reads.records (formed g [] lines written.next) texts.1

-- ---- parts

-- a setting of a sweep whose first line has a form
pub record IsSet (r : PackageList) (kind : CertKind) (essential : Bool) (limit : ℕ) (limits : Limits) (basis : Basis) : Type 0 where
  pub clear : FormsAreClear
  pub is_basis : IsBasisOf r kind essential basis
  pub header : IsHeaderOf (matter_of r basis) (setting_of r kind essential limit limits basis).header

part-of : (r : PackageList) (kind : CertKind) (essential : Bool) (limit : ℕ) (limits : Limits) (basis : Basis) → IsSet r kind essential limit limits basis
    → (lines : List CertRecord)
    → AreWritten (setting_of r kind essential limit limits basis) lines
    → IsPartOf (matter_of r basis) limits (setting_of r kind essential limit limits basis).header
    (certificate_text (setting_of r kind essential limit limits basis).header lines) lines
part-of r kind essential limit limits basis is lines written =
    let g = setting_of r kind essential limit limits basis in
    part_by_records is.clear (matter_of r basis) limits g.header lines is.header (λ some. written.within.first_short)
    (are-lines g [] lines written.next written.within.short)

part-with : (r : PackageList) (kind : CertKind) (essential : Bool) (limit : ℕ) (limits : Limits) (basis : Basis) → IsSet r kind essential limit limits basis
    → (lines : List CertRecord) (step : CertRecord)
    → AreWritten (setting_of r kind essential limit limits basis) lines
    → IsLine (matter_in (setting_of r kind essential limit limits basis)) (setting_of r kind essential limit limits basis).header lines step
    → IsPartOf (matter_of r basis) limits (setting_of r kind essential limit limits basis).header
    (certificate_text (setting_of r kind essential limit limits basis).header lines ++ ended (record_text step)) (lines ++ step ∷ [])
part-with r kind essential limit limits basis is lines step written line =
    let g = setting_of r kind essential limit limits basis in
    subst (λ (text : List ℕ). IsPartOf (matter_of r basis) limits g.header text (lines ++ step ∷ [])) (text-push (header_text g.header) lines step)
    (part_by_records is.clear (matter_of r basis) limits g.header (lines ++ step ∷ []) is.header (λ some. written.within.first_short)
    (with-last g [] lines step written.next written.within.short line))

-- one line more would pass a number
pub full : (r : PackageList) (kind : CertKind) (essential : Bool) (limit : ℕ) (limits : Limits) (basis : Basis) → IsSet r kind essential limit limits basis
    → (lines : List CertRecord) (what : What)
    → AreWritten (setting_of r kind essential limit limits basis) lines → IsPassed (setting_of r kind essential limit limits basis) lines (TooLarge what)
    → IsFull r kind essential limit limits what (certificate_text (setting_of r kind essential limit limits basis).header lines)
full r kind essential limit limits basis is lines what written passed =
    let g = setting_of r kind essential limit limits basis in (
      basis,
      is.is_basis,
      record {
        part = inr (lines, part-of r kind essential limit limits basis is lines written);
        kept = λ steps other passes. not-passed g lines what written
            (subst (λ (ls : List CertRecord). Passes limits g.header ls what) (one-reading is.clear g lines steps is.header.form written other.reads) passes);
        line = record_text passed.0;
        next = record {
          one_line = is.clear.record_line passed.0 passed.1.form;
          steps = lines ++ passed.0 ∷ [];
          longer = part-with r kind essential limit limits basis is lines passed.0 written passed.1;
        };
        passes = passed.2;
      },
    )

nothing-read : (h : Header) (steps : List CertRecord) → [] ≡ certificate_text h steps ++ [] → ⊥
nothing-read h steps e =
    let n = ap length e in omega (arith, n, length-append (certificate_text h steps) [], length-append (header_text h) (line_feed ∷ lines_text steps))

-- the first line would pass one
pub first-full : (r : PackageList) (kind : CertKind) (essential : Bool) (limit : ℕ) (limits : Limits) (basis : Basis)
    → IsSet r kind essential limit limits basis → (what : What)
    → Passes limits (setting_of r kind essential limit limits basis).header [] what → IsFull r kind essential limit limits what []
first-full r kind essential limit limits basis is what passes =
    let g = setting_of r kind essential limit limits basis in (
      basis,
      is.is_basis,
      record {
        part = inl refl;
        kept = λ steps other past. nothing-read g.header steps other.reads.text_is;
        line = header_text g.header;
        next = record {
          one_line = is.clear.header_line g.header is.header.form;
          steps = [];
          longer = part_by_records is.clear (matter_of r basis) limits g.header [] is.header (λ some. absurd (some refl)) tt;
        };
        passes = passes;
      },
    )

-- ---- cut lines

pub cut-behind : (r : PackageList) (kind : CertKind) (essential : Bool) (limit : ℕ) (limits : Limits) (basis : Basis)
    → IsSet r kind essential limit limits basis → (lines : List CertRecord) (cut : List ℕ)
    → AreWritten (setting_of r kind essential limit limits basis) lines → (cut ≡ []) ⊎ IsCutOff (setting_of r kind essential limit limits basis) lines cut
    → IsCutSweep r kind essential limit limits (certificate_text (setting_of r kind essential limit limits basis).header lines ++ cut)
cut-behind r kind essential limit limits basis is lines cut written off =
    let g = setting_of r kind essential limit limits basis in (
      basis,
      is.is_basis,
      record {
        whole = certificate_text g.header lines;
        part = inr (lines, part-of r kind essential limit limits basis is lines written);
        cut = cut;
        is = refl;
        cut_off = ⊎_elim inl (λ some. inr (
          record_text some.0,
          record {
            one_line = is.clear.record_line some.0 some.1.form;
            steps = lines ++ some.0 ∷ [];
            longer = part-with r kind essential limit limits basis is lines some.0 written some.1;
          },
          some.2,
        )) off;
      },
    )

pub cut-first : (r : PackageList) (kind : CertKind) (essential : Bool) (limit : ℕ) (limits : Limits) (basis : Basis) → IsSet r kind essential limit limits basis
    → (cut : List ℕ)
    → IsFrontOf (ended (header_text (setting_of r kind essential limit limits basis).header)) cut → IsCutSweep r kind essential limit limits cut
cut-first r kind essential limit limits basis is cut front =
    let g = setting_of r kind essential limit limits basis in (
      basis,
      is.is_basis,
      record {
        whole = [];
        part = inl refl;
        cut = cut;
        is = refl;
        cut_off = inr (
          header_text g.header,
          record {
            one_line = is.clear.header_line g.header is.header.form;
            steps = [];
            longer = part_by_records is.clear (matter_of r basis) limits g.header [] is.header (λ some. absurd (some refl)) tt;
          },
          front,
        );
      },
    )

pub cut-nothing : (r : PackageList) (kind : CertKind) (essential : Bool) (limit : ℕ) (limits : Limits) (basis : Basis)
    → IsSet r kind essential limit limits basis → IsCutSweep r kind essential limit limits []
cut-nothing r kind essential limit limits basis is = (basis, is.is_basis, record { whole = []; part = inl refl; cut = []; is = refl; cut_off = inl refl })

-- ---- a whole certificate

pub whole : (r : PackageList) (kind : CertKind) (essential : Bool) (limit : ℕ) (limits : Limits) (basis : Basis) → IsSet r kind essential limit limits basis
    → AreInputsWithin limits r basis → (lines : List CertRecord)
    → AreWritten (setting_of r kind essential limit limits basis) (lines ++ End ∷ [])
    → IsSweep r kind essential limit limits (claims_in (lines ++ End ∷ []))
    (certificate_text (setting_of r kind essential limit limits basis).header (lines ++ End ∷ []))
whole r kind essential limit limits basis is kept lines written =
    let g = setting_of r kind essential limit limits basis in
    let steps : List CertRecord = lines ++ End ∷ [] in
    let sound : IsSoundHeader (matter_of r basis) limits g.header = record { form = is.header.form; fits = is.header.fits; short = written.within.first_short }
    in
    let all : AreSound limits (matter_in g) g.header [] steps =
    sound_by_lines limits (matter_in g) g.header [] steps (are-lines g [] steps written.next written.within.short) written.within.short in
    let accepted = subst (λ (text : List ℕ). Accepted (matter_of r basis) limits text g.header (claims_in steps))
    (append-nil (certificate_text g.header steps))
    (accepted_by_records is.clear (matter_of r basis) limits g.header steps sound all (contains-last lines End)) in
    let same : accepted.0 ≡ steps = one-reading is.clear g steps accepted.0 is.header.form written accepted.1.faultless.reads in
    let completed : IsCompleted r limits (certificate_text g.header steps) g.header (claims_in steps) = record {
      basis = basis;
      is_basis = is.is_basis;
      steps = accepted.0;
      accepted = accepted.1;
      claims = accepted.2;
      numbers = subst (λ (ls : List CertRecord). KeepsNumbers (certificates_of r) limits basis g.header ls) (sym same)
          (record {
            inputs = kept;
            derived_lines = written.within.kept.count;
            line_literals = written.within.kept.literals;
            bytes = written.within.bytes;
          });
    } in
    (basis, is.is_basis, (completed, inr (steps, part-of r kind essential limit limits basis is steps written)))
