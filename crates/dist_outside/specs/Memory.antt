-- A sink and a desk in memory, for tests: what contracts see of them.
use Rattle.std.specs.Prelude.{◌≡◌, ◌≢◌, ℕ, ◌≤◌, ◌⊎◌, ◌↔◌, List, Option, None, Some, Result, Err, IfOk, IsErrOf}
use Rattle.std.specs.Prelude.{Contains, min, length, refl}
use Rattle.std.proofs.Common.{inl, inr}
use Rattle.std.specs.Coded.{Coded, code_by, coded×, coded⊎, coded_ℕ, coded_list, coded_option}
use Rattle.std.specs.FinMap.{code}
use Rattle.dist_outside.specs.Counts.{counted, faults_after, wants_after}
use Rattle.dist_outside.specs.Files.{Files, Mode, Idle, Reading, Writing}
use Rattle.dist_outside.specs.SinkView.{SinkView}
use Rattle.dist_outside.specs.DeskView.{DeskView}
use Rattle.dist_outside.specs.declared.trouble.Trouble.{Trouble}
use Rattle.dist_outside.specs.declared.trouble.Trouble.TheVariants.{Failed, NoMemory}

-- a sink in memory: its bytes, its two counts, how many calls were made, how many bytes a call takes at most,
-- and the numbers, from 1, of the calls that fail
pub record SinkState : Type 0 where
  pub bytes : List ℕ
  pub faults : ℕ
  pub wants : ℕ
  pub calls : ℕ
  pub step : ℕ
  pub fails : List ℕ

abbrev pub sink_view : SinkState → SinkView
sink_view sink = record { written = Some sink.bytes; faults = sink.faults; wants = sink.wants }

-- A write of a sink in memory fails at the listed calls alone, takes as much as a step allows, and counts itself,
-- and what went wrong, and nothing else.
pub record SinkCall (piece : List ℕ) (result : Result ℕ Trouble) (old new : SinkState) : Type 0 where
  pub listed : IsErrOf result Failed ↔ Contains old.fails (counted old.calls)
  pub step : IfOk result (λ count. count ≡ min old.step (length piece))
  pub calls : new.calls ≡ counted old.calls
  pub faults : new.faults ≡ faults_after result old.faults
  pub wants : new.wants ≡ wants_after result old.wants
  pub setting : (new.step ≡ old.step) × (new.fails ≡ old.fails)

-- a desk in memory: its files, what it does, its two counts, and the rest as of a sink
pub record DeskState : Type 0 where
  pub files : Files
  pub mode : Mode
  pub read_faults : ℕ
  pub write_faults : ℕ
  pub calls : ℕ
  pub step : ℕ
  pub fails : List ℕ

abbrev pub desk_view : DeskState → DeskView
desk_view desk = record {
  files = Some desk.files;
  mode = desk.mode;
  read_faults = desk.read_faults;
  write_faults = desk.write_faults;
}

-- the desk's next call is one that fails
abbrev pub IsListed : DeskState → Type 0
IsListed desk = Contains desk.fails (counted desk.calls)

-- A call that reads counts itself, counts a fault of reading exactly where it fails, and changes no setting.
pub record ReadCall {A : Type 0} (result : Result A Trouble) (old new : DeskState) : Type 0 where
  pub calls : new.calls ≡ counted old.calls
  pub read_faults : new.read_faults ≡ faults_after result old.read_faults
  pub write_faults : new.write_faults ≡ old.write_faults
  pub setting : (new.step ≡ old.step) × (new.fails ≡ old.fails)

-- What `read` of a desk in memory adds: it fails at the listed calls alone, finds no want of memory,
-- and moves at most a step.
pub record MovesStep (result : Result ℕ Trouble) (old new : DeskState) : Type 0 where
  pub listed : IsErrOf result Failed ↔ IsListed old
  pub memory : result ≢ Err NoMemory
  pub step : IfOk result (λ count. count ≤ old.step)
  pub counts : ReadCall result old new

-- A call that writes counts itself, counts a fault of writing exactly where it fails, and changes no setting.
pub record WriteCall {A : Type 0} (result : Result A Trouble) (old new : DeskState) : Type 0 where
  pub calls : new.calls ≡ counted old.calls
  pub read_faults : new.read_faults ≡ old.read_faults
  pub write_faults : new.write_faults ≡ faults_after result old.write_faults
  pub setting : (new.step ≡ old.step) × (new.fails ≡ old.fails)

-- How the two are stored, which a model's value needs.
abbrev pub split_mode : Mode → Option (Option (List ℕ × ℕ) ⊎ Option (List ℕ))
split_mode Idle = None
split_mode (Reading at) = Some (inl at)
split_mode (Writing name) = Some (inr name)

-- the mode as a desk in memory tells it
abbrev pub join_mode : Option (Option (List ℕ × ℕ) ⊎ Option (List ℕ)) → Mode
join_mode None = Idle
join_mode (Some (inl at)) = Reading at
join_mode (Some (inr name)) = Writing name

-- taken apart and put together it is the same
pub join_split : (mode : Mode) → join_mode (split_mode mode) ≡ mode
join_split Idle = refl
join_split (Reading at) = refl
join_split (Writing name) = refl

abbrev pub mode_code : Coded Mode
mode_code = code_by (Option (Option (List ℕ × ℕ) ⊎ Option (List ℕ)))
    (coded_option (coded⊎ (coded_option (coded× (coded_list coded_ℕ) coded_ℕ)) (coded_option (coded_list coded_ℕ))))
    split_mode join_mode join_split

abbrev pub state_code : Coded DeskState
state_code = code_by (Files × (Mode × (ℕ × (ℕ × (ℕ × (ℕ × List ℕ))))))
    (coded× (code (coded_list coded_ℕ) (coded_list coded_ℕ))
    (coded× mode_code (coded× coded_ℕ (coded× coded_ℕ (coded× coded_ℕ (coded× coded_ℕ (coded_list coded_ℕ)))))))
    (λ s. (s.files, (s.mode, (s.read_faults, (s.write_faults, (s.calls, (s.step, s.fails)))))))
    (λ t. record {
      files = t.0;
      mode = t.1.0;
      read_faults = t.1.1.0;
      write_faults = t.1.1.1.0;
      calls = t.1.1.1.1.0;
      step = t.1.1.1.1.1.0;
      fails = t.1.1.1.1.1.1;
    })
    (λ _. refl)
