-- What the program is to write, by its status.
use Rattle.std.specs.Prelude.{◌≡◌, ◌⊎◌, ℕ, ◌<◌, List, [], ◌∷◌, length, take, Bool, false, IsTrue, Option, Ok, Err, codes, String, string_bytes}
use Rattle.std.specs.Str.{bytes_eq}
use Rattle.std.specs.Io.KnownBytes.{Appends, Consumes, IsAtEnd}
use Rattle.std.specs.declared.alloc.Global.{Global}
use Rattle.fs_io.specs.Causes.{Rose}
use Rattle.fs_io.specs.Reading.{ReadsToEnd}
use Rattle.fs_base.specs.declared.limits.TheConstants.{SCENARIO_BYTES}
use Rattle.client_core.specs.declared.plan.Plan.{Plan}
use Rattle.client_core.specs.declared.plan.Script.{Script}
use Rattle.run_record.specs.Replies.{replies_text}
use Rattle.run_record.specs.Right.{IsRightRecord}
use Rattle.run_record.specs.Words.{line, setting}
use Rattle.run_record.specs.declared.run.Record.{Record}
use Rattle.world_core.specs.Order.{IsWorldRecord, IsOrdered}
use Rattle.world_core.specs.World.{IsOpening, WorldView}
use Rattle.scenario.specs.declared.broken.Broken.{Broken}
use Rattle.scenario.specs.Scenario.{scenario_of}
use Rattle.meta_top.specs.Alone.{receipts_of}
use Rattle.meta_top.specs.declared.top.Status.{Status}
use Rattle.meta_top.specs.declared.top.Status.TheVariants as status

abbrev pub is_step : List (String Global) → Bool
is_step [] = false
is_step (word ∷ []) = bytes_eq (string_bytes word) (codes "step")
is_step (word ∷ next ∷ words) = false

abbrev pub usage_line : List ℕ
usage_line =
    line (codes "usage:" ∷ codes "fs3meta" ∷ codes "check," ∷ codes "step," ∷ codes "run," ∷ codes "audit,"
    ∷ codes "make" ∷ [])

-- the rule that the input breaks first, and where
abbrev pub bad_line : Broken → List ℕ
bad_line broken =
    line (codes "bad" ∷ setting (codes "rule=") broken.rule ∷ setting (codes "place=") broken.place ∷ [])

-- the text is that of a record which is right for the plan
pub record IsRunOf (plan : Plan) (text : List ℕ) : Type 0 where
  pub run : Record
  pub right : IsRightRecord plan run
  -- turn by turn in the order of the schedule and then in rounds, from a world in which nothing has happened
  pub first : WorldView
  pub last : WorldView
  pub opening : IsOpening plan first
  pub order : IsOrdered first last
  pub kept : IsWorldRecord last run
  -- with a single client, and where no server is to stop, nothing is left open: its calls are answered one after
  -- another, each as the plain tree that the calls before it led to answers it, and no call meets a conflict
  pub alone : (script : Script) → plan.clients ≡ script ∷ [] → plan.stops ≡ []
      → run.receipts ≡ receipts_of plan.config script
  pub written : text ≡ replies_text run

-- ---- texts that are due

-- the input was read to its end, it spells a plan, and the text is that of its run
pub record IsInputRun (old new : Option (List ℕ)) (text : List ℕ) : Type 0 where
  pub bytes : List ℕ
  pub whole : ReadsToEnd old new bytes SCENARIO_BYTES
  pub plan : Plan
  pub reads : scenario_of bytes ≡ Ok plan
  pub runs : IsRunOf plan text

-- what came of the input, all of it or too much, breaks a rule, and the text names the first one
pub record IsInputBad (old new : Option (List ℕ)) (text : List ℕ) : Type 0 where
  pub bytes : List ℕ
  pub came : Consumes old new bytes
  pub whole : IsAtEnd new ⊎ (SCENARIO_BYTES < length bytes)
  pub broken : Broken
  pub breaks : scenario_of bytes ≡ Err broken
  pub written : text ≡ bad_line broken

-- the text that goes with a status
abbrev pub IsTextOf : List (String Global) → Option (List ℕ) → Option (List ℕ) → Status → List ℕ → Type 0
IsTextOf words old new status.Ok text = IsTrue (is_step words) × IsInputRun old new text
IsTextOf words old new status.Usage text = (is_step words ≡ false) × (text ≡ usage_line)
IsTextOf words old new status.Bad text = IsTrue (is_step words) × IsInputBad old new text
IsTextOf words old new _ text = ⊥

-- ---- what is written

-- the text of a run of the plan that the input spells, whole
pub record WritesRun (words : List (String Global)) (old new before after : Option (List ℕ)) : Type 0 where
  pub step : IsTrue (is_step words)
  pub text : List ℕ
  pub run : IsInputRun old new text
  pub written : Appends before after text

-- the rule that the input breaks, whole
pub record WritesRule (words : List (String Global)) (old new before after : Option (List ℕ)) : Type 0 where
  pub step : IsTrue (is_step words)
  pub text : List ℕ
  pub bad : IsInputBad old new text
  pub written : Appends before after text

-- the usage line, whole
pub record WritesUsage (words : List (String Global)) (before after : Option (List ℕ)) : Type 0 where
  pub other : is_step words ≡ false
  pub written : Appends before after usage_line

-- a front of one of these three, and not all of it
pub record WritesFront (words : List (String Global)) (old new before after : Option (List ℕ)) : Type 0 where
  pub status : Status
  pub text : List ℕ
  pub is_due : IsTextOf words old new status text
  pub count : ℕ
  pub short : count < length text
  pub written : Appends before after (take count text)

-- the source failed, or memory ran out
abbrev pub IsSilentStatus : Status → Type 0
IsSilentStatus status.ReadFault = Unit {0}
IsSilentStatus status.Memory = Unit {0}
IsSilentStatus _ = ⊥

-- ---- faults of the outside

-- a read that failed is told: the source's count of faults rose there, and else it is as it was
abbrev pub TellsReadFault : ℕ → ℕ → Status → Type 0
TellsReadFault before now status.ReadFault = Rose before now
TellsReadFault before now _ = now ≡ before

-- a write that failed is told likewise
abbrev pub TellsWriteFault : ℕ → ℕ → Status → Type 0
TellsWriteFault before now status.WriteFault = Rose before now
TellsWriteFault before now _ = now ≡ before

-- ---- on the way to it

-- what the bytes of the whole input call for
abbrev pub CallsFor : List ℕ → Status → List ℕ → Type 0
CallsFor bytes status.Ok text = (plan : Plan) × (scenario_of bytes ≡ Ok plan) × IsRunOf plan text
CallsFor bytes status.Bad text =
    (broken : Broken) × (scenario_of bytes ≡ Err broken) × (text ≡ bad_line broken)
CallsFor bytes _ text = ⊥
