-- How carrying out a command ends, before a refusal is told on `err`.
use Rattle.std.specs.Prelude.{◌≡◌, ◌⊎◌, ℕ, List, [], Result, Ok, Err}
use Rattle.dist_outside.specs.Counts.{Rose}
use Rattle.dist_outside.specs.DeskView.{DeskView}
use Rattle.dist_outside.specs.SinkView.{SinkView, Grew, GrewByFront, WriteCause}
use Rattle.dist_outside.specs.declared.trouble.WorkError.{WorkError}
use Rattle.dist_outside.specs.declared.limits.Limits.{Limits}
use Rattle.dist_commands.specs.Refusal.{status_of, refusal_text, refusal_of}
use Rattle.dist_app.specs.Run.{Decides, Comes, IsWriteFault}
use Rattle.dist_words.specs.Table.{IsBadWords}
use Rattle.dist_commands.specs.Stages.{Ending}
use Rattle.dist_commands.specs.declared.status.Status.{Status}
use Rattle.dist_commands.specs.declared.refusal.Refusal.{Refusal}
use Rattle.dist_commands.specs.declared.refusal.Refusal.TheVariants.{BadWords, ReadFault, WriteFault, NoMemory}

-- an answer was decided and printed
pub record IsAnswered (words : List (List ℕ)) (limits : Limits) (desk desk' : DeskView) (out out' : SinkView)
    (status : Status) : Type 0 where
  pub ending : Ending
  pub decides : Decides words desk.files limits ending
  pub status_is : status ≡ ending.status
  pub quiet : ending.err ≡ []
  pub files : desk'.files ≡ ending.files
  pub printed : Grew ending.out out out'

-- it was given up, with what was printed until then
pub record IsRefused (words : List (List ℕ)) (limits : Limits) (desk desk' : DeskView) (out out' : SinkView)
    (refusal : Refusal) : Type 0 where
  pub ending : Ending
  pub comes : Comes words desk.files limits ending
  pub status : ending.status ≡ status_of refusal
  pub told : ending.err ≡ refusal_text refusal
  pub files : desk'.files ≡ ending.files
  pub printed : Grew ending.out out out'
  pub of_words : IsBadWords words → (refusal ≡ BadWords) ⊎ (refusal ≡ NoMemory)
  pub read_fault : refusal ≡ ReadFault → Rose desk.read_faults desk'.read_faults
  pub write_fault : refusal ≡ WriteFault → IsWriteFault words desk.files limits ending desk desk' out out'

-- what writing the text of an answer comes to
abbrev pub Prints : Status → (text : List ℕ) → Result Status Refusal → SinkView → SinkView → Type 0
Prints status text (Ok printed) old new = (printed ≡ status) × Grew text old new
Prints status text (Err refusal) old new = (error : WorkError) × (refusal ≡ refusal_of error) × GrewByFront text old new
    × WriteCause error old new
