use Rattle.std.proofs.Common.{◌∙◌, Bool, IfOk, List, ℕ, ap, subst, sym}
use Rattle.dist_cert.specs.declared.records.CertRecord.{CertRecord}
use Rattle.dist_cert.specs.declared.records.CertRecord.TheVariants as lines
use Rattle.dist_check_state.specs.State.{StateView, Tells, TellsClaim, TellsEnd, is_next}
use Rattle.dist_check_state.proofs.state.State.judge.Goals as goal

pub returns-in-NotInstallable : goal.returns-in-NotInstallable
returns-in-NotInstallable c =
    let found = c.judge_claim.result in
    let next : Bool = is_next c.args.self.now.next c.args.self.now.packages c.in-NotInstallable.package in
    subst (λ (step : CertRecord). Tells c.args.self.now step found) (sym c.in-NotInstallable.is)
    (subst (λ (b : Bool). TellsClaim next b found) c.holds_uninstallable.ensures c.judge_claim.ensures)

pub returns-in-Unknown : goal.returns-in-Unknown
returns-in-Unknown c =
    let found = c.judge_claim-in-Unknown.result in
    let next : Bool = is_next c.args.self.now.next c.args.self.now.packages c.in-Unknown.package in
    subst (λ (step : CertRecord). Tells c.args.self.now step found) (sym c.in-Unknown.is)
    (subst (λ (b : Bool). TellsClaim next b found) (c.is_undecided.ensures ∙ ap (λ (s : StateView). s.group.undecided.alone) c.self.view_is)
    c.judge_claim-in-Unknown.ensures)

pub returns-in-Outdated : goal.returns-in-Outdated
returns-in-Outdated c =
    let found = c.judge_claim-in-Outdated.result in
    let next : Bool = is_next c.args.self.now.next c.args.self.now.packages c.in-Outdated.package in
    subst (λ (step : CertRecord). Tells c.args.self.now step found) (sym c.in-Outdated.is)
    (subst (λ (b : Bool). TellsClaim next b found) c.holds_outdated.ensures c.judge_claim-in-Outdated.ensures)

pub returns-in-Alive : goal.returns-in-Alive
returns-in-Alive c =
    subst (λ (step : CertRecord). Tells c.args.self.now step c.judge_alive.result) (sym c.in-Alive.is) c.judge_alive.ensures

pub returns-in-Strong : goal.returns-in-Strong
returns-in-Strong c =
    let found = c.judge_strong.result in
    let s : StateView = c.args.self.now in
    let p : ℕ = c.in-Strong.package in
    let Told : List ℕ → List ℕ → List ℕ → Type 0 = λ named on undecided. IfOk found (Tells s (lines.Strong p named on undecided)) in
    let here : Told c.as_slice.result.now c.as_slice-in-Strong.result.now c.as_slice-in-Strong-2.result.now = c.judge_strong.ensures in
    let named = subst (λ xs. Told xs c.as_slice-in-Strong.result.now c.as_slice-in-Strong-2.result.now) c.as_slice.ensures here in
    let on = subst (λ xs. Told c.in-Strong.named xs c.as_slice-in-Strong-2.result.now) c.as_slice-in-Strong.ensures named in
    let undecided = subst (λ xs. Told c.in-Strong.named c.in-Strong.on xs) c.as_slice-in-Strong-2.ensures on in
    subst (λ (step : CertRecord). IfOk found (Tells s step)) (sym c.in-Strong.is) undecided

pub returns-in-Challenged : goal.returns-in-Challenged
returns-in-Challenged c =
    let found = c.judge_challenged.result in
    let s : StateView = c.args.self.now in
    let p : ℕ = c.in-Challenged.package in
    let Told : List ℕ → List (ℕ × ℕ) → List (ℕ × ℕ) → Type 0 = λ named by undecided. IfOk found (Tells s (lines.Challenged p named by undecided)) in
    let here : Told c.as_slice-in-Challenged.result.now c.as_slice-in-Challenged-2.result.now c.as_slice-in-Challenged-3.result.now
    = c.judge_challenged.ensures in
    let named = subst (λ xs. Told xs c.as_slice-in-Challenged-2.result.now c.as_slice-in-Challenged-3.result.now) c.as_slice-in-Challenged.ensures here in
    let by = subst (λ xs. Told c.in-Challenged.named xs c.as_slice-in-Challenged-3.result.now) c.as_slice-in-Challenged-2.ensures named in
    let undecided = subst (λ xs. Told c.in-Challenged.named c.in-Challenged.by xs) c.as_slice-in-Challenged-3.ensures by in
    subst (λ (step : CertRecord). IfOk found (Tells s step)) (sym c.in-Challenged.is) undecided

pub returns-in-End : goal.returns-in-End
returns-in-End c =
    let found = c.judge_end.result in
    subst (λ (step : CertRecord). Tells c.args.self.now step found) (sym c.in-End.is)
    (subst (λ (s : StateView). TellsEnd s.next s.packages found) c.self.view_is c.judge_end.ensures)
