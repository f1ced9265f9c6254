-- What a run that ends with status 8 was stopped by.
use Rattle.std.proofs.Common.{◌≡◌, ℕ, false, List, inl, inr, Option, ap, sym, ◌∙◌, subst}
use Rattle.dist_base.specs.declared.TheConstants.{DEFAULT_LIMIT}
use Rattle.dist_outside.specs.DeskView.{DeskView}
use Rattle.dist_outside.specs.Files.{Files}
use Rattle.dist_outside.specs.SinkView.{SinkView}
use Rattle.dist_outside.specs.declared.limits.Limits.{Limits}
use Rattle.dist_trial.specs.Summary.{has_marks}
use Rattle.dist_words.specs.CommandLine.{CommandLine, Health, Classes, Sweep, Check, CheckExplain, Explain, CheckRepair}
use Rattle.dist_words.specs.CommandLine.{Repair, Try, Steps, Follow}
use Rattle.dist_commands.specs.Command.{CommandDecides}
use Rattle.dist_commands.specs.Stages.{Ending}
use Rattle.dist_commands.specs.declared.status.Status.{Status}
use Rattle.dist_commands.specs.declared.status.Status.TheVariants.{ReadFault, WriteFault, NoMemory, TooLarge}
use Rattle.dist_app.specs.Headline.{IsCarriedOut}
use Rattle.dist_app.specs.LawsPrivate.{Laws}
use Rattle.dist_app.specs.Run.{Runs}
use Rattle.dist_app.specs.Stopped.{IsStoppedLow, StopsLow}
use Rattle.dist_app.proofs.Completes.{below_budget, carried_marks, explain_comes_to, repair_comes_to, sweep_comes_to}
use Rattle.dist_app.proofs.Headlines.{decided}

not-carried : (status : Status) → status ≡ TooLarge → ¬ IsCarriedOut status
not-carried status is carried = subst IsCarriedOut is carried

stopped-low : Laws → (line : CommandLine) (files : Option Files) (limits : Limits) (ending : Ending) → ending.status ≡ TooLarge
    → CommandDecides line files limits ending → IsStoppedLow line files limits ending
stopped-low laws (Sweep kind packages cert essential limit) files limits ending is (inl first) = inl first
stopped-low laws (Sweep kind packages cert essential limit) files limits ending is (inr (r, read, inl first)) = inr (r, read, inl first)
stopped-low laws (Sweep kind packages cert essential limit) files limits ending is (inr (r, read, inr (_, kept, sweeps))) =
    elim (sweep_comes_to laws files limits kind cert essential limit r ending sweeps) [
      | inl carried ↦ absurd (not-carried ending.status is carried)
      | inr stops ↦ inr (r, read, inr (_, kept, stops))
    ]
stopped-low laws (Explain packages cert named limit) files limits ending is (inl first) = inl first
stopped-low laws (Explain packages cert named limit) files limits ending is (inr (r, read, inl first)) = inr (r, read, inl first)
stopped-low laws (Explain packages cert named limit) files limits ending is (inr (r, read, inr (number, name, inl first))) =
    inr (r, read, inr (number, name, inl first))
stopped-low laws (Explain packages cert named limit) files limits ending is (inr (r, read, inr (number, name, inr (_, kept, explains)))) =
    elim (explain_comes_to laws files limits cert named limit r number ending name explains) [
      | inl carried ↦ absurd (not-carried ending.status is carried)
      | inr stops ↦ inr (r, read, inr (number, name, inr (_, kept, stops)))
    ]
stopped-low laws (Repair packages cert named most limit) files limits ending is (inl first) = inl first
stopped-low laws (Repair packages cert named most limit) files limits ending is (inr (newest, read, inl first)) = inr (newest, read, inl first)
stopped-low laws (Repair packages cert named most limit) files limits ending is (inr (newest, read, inr (number, name, inl first))) =
    inr (newest, read, inr (number, name, inl first))
stopped-low laws (Repair packages cert named most limit) files limits ending is (inr (newest, read, inr (number, name, inr (space, made, inl first)))) =
    inr (newest, read, inr (number, name, inr (space, made, inl first)))
stopped-low laws (Repair packages cert named most limit) files limits ending is
    (inr (newest, read, inr (number, name, inr (space, made, inr (_, kept, repairs))))) =
    elim (repair_comes_to laws files limits cert most limit space number ending repairs) [
      | inl carried ↦ absurd (not-carried ending.status is carried)
      | inr stops ↦ inr (newest, read, inr (number, name, inr (space, made, inr (_, kept, stops))))
    ]
stopped-low laws (Try size seed) files limits ending is (inl first) = inl first
stopped-low laws (Try size seed) files limits ending is (inr (r, made, tries)) =
    elim tries.comes [
      | inl told ↦ absurd (not-carried ending.status is
          (carried_marks ending.status (has_marks told.strong told.outdated told.challenged) (ap (λ (x : Ending). x.status) told.is)))
      | inr stopped ↦ elim stopped.stopped [
        | inl passes ↦ inr (r, made, (stopped.kind, inl (stopped.what, passes)))
        | inr full ↦ inr (
          r,
          made,
          (
            stopped.kind,
            inr (
              full.0,
              record {
                what = stopped.what;
                stopped = is;
                below = below_budget laws.budgets r stopped.kind false DEFAULT_LIMIT limits stopped.what full.0 full.1;
              },
            ),
          ),
        )
      ]
    ]
stopped-low laws (Health packages list) files limits ending is decides = tt
stopped-low laws (Classes packages) files limits ending is decides = tt
stopped-low laws (Check packages cert) files limits ending is decides = tt
stopped-low laws (CheckExplain packages cert) files limits ending is decides = tt
stopped-low laws (CheckRepair packages cert) files limits ending is decides = tt
stopped-low laws (Steps packages later) files limits ending is decides = tt
stopped-low laws (Follow packages cert journal) files limits ending is decides = tt

pub stops-low : Laws → (words : List (List ℕ)) (limits : Limits) (result : Status) (desk desk' : DeskView) (out out' err err' : SinkView)
    → Runs words limits result desk desk' out out' err err' → StopsLow words limits result desk.files desk'.files
stops-low laws words limits result desk desk' out out' err err' runs line is_line is =
    let status : runs.ending.status ≡ TooLarge = sym runs.ends.status ∙ is in (
      runs.ending,
      status,
      sym runs.ends.files,
      stopped-low laws line desk.files limits runs.ending status
          (decided words limits result desk desk' out out' err err' runs (not-read result is) (not-written result is) (not-stored result is) line is_line),
    )
  where
    not-read : (s : Status) → s ≡ TooLarge → ¬ (s ≡ ReadFault)
    not-read s e f = let wrong : ReadFault ≡ TooLarge = sym f ∙ e in cc

    not-written : (s : Status) → s ≡ TooLarge → ¬ (s ≡ WriteFault)
    not-written s e f = let wrong : WriteFault ≡ TooLarge = sym f ∙ e in cc

    not-stored : (s : Status) → s ≡ TooLarge → ¬ (s ≡ NoMemory)
    not-stored s e f = let wrong : NoMemory ≡ TooLarge = sym f ∙ e in cc
