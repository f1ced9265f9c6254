-- The certificate of the empty archive has no fault.
use Rattle.std.proofs.Common.{◌≡◌, ℕ, ◌<◌, ◌≤◌, List, [], ◌∷◌, ◌++◌, codes, length, refl, sym, subst, arith, lit<, lit≤}
use Rattle.std.specs.Fmt.{digits}
use Rattle.dist_outside.specs.declared.limits.Limits.{Limits}
use Rattle.dist_cert.specs.declared.records.CertRecord.TheVariants.{End}
use Rattle.dist_cert.specs.Form.{record_text, header_text}
use Rattle.dist_cert.specs.Refusal.{certificate_text}
use Rattle.dist_cert.specs.Accepted.{Accepted}
use Rattle.dist_cert.specs.ByRecordsLaws.{IsSoundHeader, accepted_by_records}
use Rattle.dist_cert.specs.EmptyExamples.{nothing, header, two_lines, EmptyIsAccepted}
use Rattle.dist_cert.proofs.ExampleLines.{end-line}
use Rattle.dist_cert.proofs.OneLine.{clear}

its-text : certificate_text header (End ∷ []) ++ [] ≡ two_lines
unfolding digits
its-text = refl

its-header : header_text header ≡ codes "distfuture-certificate 1 strong plain 10000 0 0 0"
unfolding digits
its-header = refl

its-end : record_text End ≡ codes "e"
unfolding digits
its-end = refl

header-sound : (limits : Limits) → 50 ≤ limits.record_line → IsSoundHeader nothing limits header
header-sound limits room = record {
  form = record { text = refl; rules = (lit≤ tt, lit≤ tt); numbers = (lit< tt, lit< tt, lit< tt) };
  fits = record { packages = refl; variables = refl; clauses = refl };
  short = subst (λ (bytes : List ℕ). length bytes < limits.record_line) (sym its-header) (omega (arith, room));
}

pub empty : EmptyIsAccepted
empty limits room = subst (λ (text : List ℕ). Accepted nothing limits text header []) its-text
    (accepted_by_records clear nothing limits header (End ∷ []) (header-sound limits room)
    (end-line limits nothing header [] its-end (lit≤ tt) (omega (arith, room)) refl, tt)
    (0, lit< tt, refl))
