use Rattle.std.proofs.Common.{◌≡◌, ◌-◌, ◌<◌, inl, inr, arith, length, subst, true, ℕ}
use Rattle.std.proofs.lemmas.Bool.{cases_lt}
use Rattle.dist_clause.specs.Formula.{value_of}
use Rattle.dist_space.specs.Space.{SpaceView}
use Rattle.dist_outdated.proofs.LatestSteps.{next-held}
use Rattle.dist_sweep.specs.FuturesLaws.{present-in}
use Rattle.dist_outdated.proofs.outdated_claimant.next_held.Goals as goal

pub overflow_add-member : goal.overflow_add-member
overflow_add-member c =
    let s : SpaceView = c.args.space.now in
    let short : c.args.member < length s.repository.packages =
    omega (arith, c.requires.member, c.if-member-packages.false, c.package_count-packages.ensures) in
    let is = c.packages_come_first.ensures.packages s c.args.member c.variables.ensures.space short in
    let range = present-in s c.args.member c.variables.ensures.space short in
    omega (arith, is, range.upto, c.variables.ensures.value, c.variables.ensures.stated)

pub returns-in-Some : goal.returns-in-Some
returns-in-Some c =
    let s : SpaceView = c.args.space.now in
    let packages : ℕ = length s.repository.packages in
    let some = c.in-Some.ensures.some in
    let short : c.args.member < packages =
    omega (arith, c.requires.member, c.if-member-packages.false, c.package_count-packages.ensures) in
    elim (cases_lt (c.in-Some.variable - 2) packages) [
      | inl before ↦
          let same : c.min.result ≡ c.in-Some.variable - 2 = omega (arith, c.min.ensures, before, c.package_count-packages.ensures) in
          next-held s c.args.values.now c.args.member c.min.result
          (λ number within. c.packages_come_first.ensures.packages s number c.variables.ensures.space within)
          (omega (arith, same, some.1))
          (omega (arith, same, before))
          (λ _. subst (λ (v : ℕ). value_of c.args.values.now v ≡ true) (omega (arith, same, some.1)) some.3)
          (λ w from behind. some.4 w (omega (arith, from)) from (omega (arith, behind, same, some.1)))
      | inr past ↦
          let same : c.min.result ≡ packages = omega (arith, c.min.ensures, past, c.package_count-packages.ensures) in
          next-held s c.args.values.now c.args.member c.min.result
          (λ number within. c.packages_come_first.ensures.packages s number c.variables.ensures.space within)
          (omega (arith, same, short))
          (omega (arith, same))
          (λ less. absurd (omega (arith, less, same)))
          (λ w from behind. some.4 w (omega (arith, from)) from (omega (arith, behind, same, past)))
    ]

pub returns-in-None : goal.returns-in-None
returns-in-None c =
    let s : SpaceView = c.args.space.now in
    let packages : ℕ = length s.repository.packages in
    let short : c.args.member < packages =
    omega (arith, c.requires.member, c.if-member-packages.false, c.package_count-packages.ensures) in
    next-held s c.args.values.now c.args.member c.package_count-packages.result
    (λ number within. c.packages_come_first.ensures.packages s number c.variables.ensures.space within)
    (omega (arith, short, c.package_count-packages.ensures))
    (omega (arith, c.package_count-packages.ensures))
    (λ less. absurd (omega (arith, less, c.package_count-packages.ensures)))
    (λ w from behind.
    let last : packages - 1 < packages = omega (arith, short) in
    let is = c.packages_come_first.ensures.packages s (packages - 1) c.variables.ensures.space last in
    let range = present-in s (packages - 1) c.variables.ensures.space last in
    c.in-None.ensures.none w (omega (arith, from)) from
    (omega (arith, behind, is, range.upto, last, c.package_count-packages.ensures, c.requires.values)))
