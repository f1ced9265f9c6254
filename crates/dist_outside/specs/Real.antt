-- What contracts see of the adapters over the real system: counts, what a desk does, and what std says of the writer
-- and the file behind them, if it says anything. They tell no contents.
use Rattle.std.specs.Prelude.{◌≡◌, ℕ, List, Option, None, Result, refl}
use Rattle.std.specs.Coded.{Coded, code_by, coded×, coded_ℕ, coded_list, coded_option}
use Rattle.dist_outside.specs.Counts.{faults_after, wants_after}
use Rattle.dist_outside.specs.Files.{Mode}
use Rattle.dist_outside.specs.Memory.{mode_code}
use Rattle.dist_outside.specs.SinkView.{SinkView}
use Rattle.dist_outside.specs.DeskView.{DeskView}
use Rattle.dist_outside.specs.declared.trouble.Trouble.{Trouble}

-- a sink over a writer: what the writer holds, where std says it, and the two counts
pub record StdState : Type 0 where
  pub contents : Option (List ℕ)
  pub faults : ℕ
  pub wants : ℕ

abbrev pub std_view : StdState → SinkView
std_view sink = record { written = None; faults = sink.faults; wants = sink.wants }

-- A write counts what went wrong in it, and nothing else.
pub record StdCall (result : Result ℕ Trouble) (old new : StdState) : Type 0 where
  pub faults : new.faults ≡ faults_after result old.faults
  pub wants : new.wants ≡ wants_after result old.wants

-- a desk over the file system: what it does, its two counts, and what its open file has left to read, or holds,
-- where std says it
pub record RealState : Type 0 where
  pub mode : Mode
  pub read_faults : ℕ
  pub write_faults : ℕ
  pub remaining : Option (List ℕ)
  pub contents : Option (List ℕ)

abbrev pub real_view : RealState → DeskView
real_view desk = record {
  files = None;
  mode = desk.mode;
  read_faults = desk.read_faults;
  write_faults = desk.write_faults;
}

-- A call that reads counts a fault of reading exactly where it fails.
pub record RealReadCall {A : Type 0} (result : Result A Trouble) (old new : RealState) : Type 0 where
  pub read_faults : new.read_faults ≡ faults_after result old.read_faults
  pub write_faults : new.write_faults ≡ old.write_faults

-- A call that writes counts a fault of writing exactly where it fails.
pub record RealWriteCall {A : Type 0} (result : Result A Trouble) (old new : RealState) : Type 0 where
  pub read_faults : new.read_faults ≡ old.read_faults
  pub write_faults : new.write_faults ≡ faults_after result old.write_faults

abbrev pub real_code : Coded RealState
real_code = code_by (Mode × (ℕ × (ℕ × (Option (List ℕ) × Option (List ℕ)))))
    (coded× mode_code (coded× coded_ℕ (coded× coded_ℕ
    (coded× (coded_option (coded_list coded_ℕ)) (coded_option (coded_list coded_ℕ))))))
    (λ s. (s.mode, (s.read_faults, (s.write_faults, (s.remaining, s.contents)))))
    (λ t. record {
      mode = t.0;
      read_faults = t.1.0;
      write_faults = t.1.1.0;
      remaining = t.1.1.1.0;
      contents = t.1.1.1.1;
    })
    (λ _. refl)
