-- The text that is due, and what was written.
use Rattle.std.proofs.Common.{◌≡◌, ℕ, List, true, Option, Some, None, sym, subst, refl, inl, inr}
use Rattle.std.specs.Prelude.{Ok, Err, String}
use Rattle.std.specs.Io.KnownBytes.{Appends, Keeps}
use Rattle.std.specs.declared.alloc.Global.{Global}
use Rattle.client_core.specs.declared.plan.Plan.{Plan}
use Rattle.fs_io.specs.Reading.{ReadsToEnd, PassesLimit}
use Rattle.scenario.specs.declared.broken.Broken.{Broken}
use Rattle.scenario.specs.Broken.{rule}
use Rattle.scenario.specs.Scenario.{scenario_of}
use Rattle.scenario.proofs.Rules.{breaks_rule_1}
use Rattle.meta_top.specs.declared.top.Status.{Status}
use Rattle.meta_top.specs.declared.top.Status.TheVariants as status
use Rattle.meta_top.specs.Top.{IsRunOf, IsTextOf, IsSilentStatus, CallsFor, WritesRule, WritesRun, WritesUsage, is_step, bad_line}

pub calls_for_ok : (bytes : List ℕ) (plan : Plan) (s : Status) (text : List ℕ) → scenario_of bytes ≡ Ok plan → (s ≡ status.Ok) × IsRunOf plan text → CallsFor bytes s text
calls_for_ok bytes plan s text e p = subst (λ (x : Status). CallsFor bytes x text) (sym p.0) (plan, e, p.1)

pub calls_for_bad : (bytes : List ℕ) (broken : Broken) (s : Status) (text : List ℕ) → scenario_of bytes ≡ Err broken → (s ≡ status.Bad) × (text ≡ bad_line broken) → CallsFor bytes s text
calls_for_bad bytes broken s text e p = subst (λ (x : Status). CallsFor bytes x text) (sym p.0) (broken, e, p.1)

-- the whole input was read
pub due_from_bytes : (words : List (String Global)) (old new : Option (List ℕ)) (bytes : List ℕ) (s : Status) (text : List ℕ) → is_step words ≡ true → ReadsToEnd old new bytes 16777216 → CallsFor bytes s text → IsTextOf words old new s text
due_from_bytes words old new bytes status.Ok text w r p = (w, record { bytes = bytes; whole = r; plan = p.0; reads = p.1; runs = p.2 })
due_from_bytes words old new bytes status.Bad text w r p = (w, record { bytes = bytes; came = r.came; whole = inl r.ended; broken = p.0; breaks = p.1; written = p.2 })
due_from_bytes words old new bytes status.AuditNo text w r p = p
due_from_bytes words old new bytes status.Usage text w r p = absurd p
due_from_bytes words old new bytes status.ReadFault text w r p = p
due_from_bytes words old new bytes status.WriteFault text w r p = p
due_from_bytes words old new bytes status.Memory text w r p = p

-- too much of it came
pub due_too_long : (words : List (String Global)) (old new : Option (List ℕ)) (s : Status) (text : List ℕ) → is_step words ≡ true → PassesLimit old new 16777216 → (s ≡ status.Bad) × (text ≡ bad_line (rule 1 16777216)) → IsTextOf words old new s text
due_too_long words old new s text w p e =
    subst (λ (x : Status). IsTextOf words old new x text) (sym e.0)
    (w, record { bytes = p.0; came = p.1; whole = inr p.2; broken = rule 1 16777216; breaks = breaks_rule_1 p.0 p.2; written = e.1 })

-- ---- what was written of it

module _ (words : List (String Global)) (old new before after : Option (List ℕ)) (s : Status) (text : List ℕ) (due : IsTextOf words old new s text) where
  pub writes_run : Appends before after text → s ≡ status.Ok → WritesRun words old new before after
  writes_run written is =
      let now : IsTextOf words old new status.Ok text = subst (λ (x : Status). IsTextOf words old new x text) is due in
      record { step = now.0; text = text; run = now.1; written = written }

  pub writes_rule : Appends before after text → s ≡ status.Bad → WritesRule words old new before after
  writes_rule written is =
      let now : IsTextOf words old new status.Bad text = subst (λ (x : Status). IsTextOf words old new x text) is due in
      record { step = now.0; text = text; bad = now.1; written = written }

  pub writes_usage : Appends before after text → s ≡ status.Usage → WritesUsage words before after
  writes_usage written is =
      let now : IsTextOf words old new status.Usage text = subst (λ (x : Status). IsTextOf words old new x text) is due in
      record { other = now.0; written = subst (λ (xs : List ℕ). Appends before after xs) now.1 written }

pub keeps : (out : Option (List ℕ)) → Keeps out out
keeps None = tt
keeps (Some xs) = refl

-- a status that has a text is no fault, and no want of memory
pub due_not_silent : (words : List (String Global)) (old new : Option (List ℕ)) (s : Status) (text : List ℕ) → IsTextOf words old new s text → IsSilentStatus s → ⊥
due_not_silent words old new status.ReadFault text d e = d
due_not_silent words old new status.Memory text d e = d
due_not_silent words old new s text d e = e

pub due_no_read_fault : (words : List (String Global)) (old new : Option (List ℕ)) (s : Status) (text : List ℕ) → IsTextOf words old new s text → s ≡ status.ReadFault → ⊥
due_no_read_fault words old new s text d e = subst (λ (x : Status). IsTextOf words old new x text) e d

pub due_no_write_fault : (words : List (String Global)) (old new : Option (List ℕ)) (s : Status) (text : List ℕ) → IsTextOf words old new s text → s ≡ status.WriteFault → ⊥
due_no_write_fault words old new s text d e = subst (λ (x : Status). IsTextOf words old new x text) e d
