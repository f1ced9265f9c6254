-- What the line of a claim makes of what is kept.
use Rattle.std.proofs.Common.{◌≡◌, ◌<◌, ◌^◌, List, [], ◌∷◌, refl, sym, subst, arith}
use Rattle.dist_outside.specs.DeskView.{DeskView, FileGrew}
use Rattle.dist_outside.specs.declared.trouble.WorkError.{WorkError}
use Rattle.dist_cert.specs.declared.records.CertRecord.{CertRecord}
use Rattle.dist_cert.specs.declared.records.Claim.{Claim}
use Rattle.dist_cert.specs.Accepted.{claim_in}
use Rattle.dist_cert.specs.Form.{record_text}
use Rattle.dist_cert.specs.PartByRecordsLaws.{IsLine}
use Rattle.dist_cert.specs.Writing.{ended}
use Rattle.dist_line_write.specs.Asking.{AskerView}
use Rattle.dist_line_write.specs.Script.{PutMore, PutStops}
use Rattle.dist_sweep.specs.Script.{Setting, matter_in}
use Rattle.dist_sweep.specs.ScriptLaws.{put-stopped}
use Rattle.dist_strong.specs.ClaimingPrivate.{IsStrongLine, StrongMore}
use Rattle.dist_strong.specs.Group.{GroupView, HasNoCandidate}
use Rattle.dist_strong.specs.SettlingPrivate.{Fits, IsSettling, SettleStops, IsOfStrong}
use Rattle.dist_sweep.specs.Window.{WindowView}
use Rattle.dist_strong.proofs.StrongLine.{strong-line}
use Rattle.dist_sweep.specs.ClaimLinesLaws.{IsClaimLine, put-claimed}

strong-kind : (w : WindowView) (kept : GroupView) (step : CertRecord) → IsStrongLine w kept step → IsClaimLine step
strong-kind w kept step line = subst IsClaimLine (sym line.is)
    (record { no_clause = refl; no_installation = refl; no_end = refl; claims = refl; one = refl })

strong-next : (g : Setting) (before : List CertRecord) (a : AskerView) (w : WindowView) (kept : GroupView) (step : CertRecord) → a.log.variables < 2 ^ 32
    → Fits a w kept → IsSettling g before a w kept → HasNoCandidate w kept
    → IsStrongLine w kept step → w.count < 2 ^ 32 → IsLine (matter_in g) g.header before step
strong-next g before a w kept step fits_variables fits settling none line small =
    subst (λ (s : CertRecord). IsLine (matter_in g) g.header before s) (sym line.is)
    (strong-line g before w kept line.left settling.of_strong settling.at.log.not_ended (omega (
      arith,
      fits_variables,
      settling.at.log.variables,
      settling.of_strong.same,
    ))
    settling.window settling.group_at fits.window line.are_left none small)

pub strong-more : (old new : DeskView) (a b : AskerView) (w : WindowView) (kept : GroupView) (step : CertRecord) (claim : Claim) → a.log.variables < 2 ^ 32
    → Fits a w kept → HasNoCandidate w kept → IsStrongLine w kept step → w.count < 2 ^ 32
    → claim_in step ≡ claim ∷ [] → b ≡ record a { writer = b.writer } → FileGrew (ended (record_text step)) old new → PutMore a.writer b.writer step
    → StrongMore old new a b w w kept claim
strong-more old new a b w kept step claim fits_variables fits none line small is rest grew more g before settling =
    put-claimed g before old new a b w (λ lines. IsOfStrong g) step claim settling.at settling.window (strong-kind w kept step line)
    (strong-next g before a w kept step fits_variables fits settling none line small) is rest grew more settling.of_strong

pub strong-stops : (old new : DeskView) (a : AskerView) (w : WindowView) (kept : GroupView) (step : CertRecord) (error : WorkError)
    → a.log.variables < 2 ^ 32
    → Fits a w kept → HasNoCandidate w kept → IsStrongLine w kept step → w.count < 2 ^ 32
    → PutStops a.writer step old new error → SettleStops old new a w kept error
strong-stops old new a w kept step error fits_variables fits none line small stops g before settling =
    put-stopped g before step a.writer old new error stops settling.at.writer
    (strong-next g before a w kept step fits_variables fits settling none line small)
