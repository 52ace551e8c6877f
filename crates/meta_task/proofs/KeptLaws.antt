-- What a client's kept reply tells, from the bytes that were read.
use Rattle.std.proofs.Common.{inl, inr, ◌≡◌, ℕ, ◌<◌, ◌≤◌, ◌^◌, false, List, refl, sym, ap, subst, ◌∙◌, arith}
use Rattle.std.specs.Prelude.{Option, Some, None, Ok}
use Rattle.std.specs.FinMap.{get}
use Rattle.conflict_sets.specs.declared.sets.ReadSet.{ReadSet}
use Rattle.conflict_sets.proofs.KeyOrder.{key_self}
use Rattle.fs_base.specs.Config.{Settings}
use Rattle.fs_base.specs.declared.call.Request.{Request}
use Rattle.fs_base.specs.declared.code.Code.TheVariants.{Stale}
use Rattle.fs_base.specs.declared.reply.Reply.TheVariants.{Refused}
use Rattle.key_schema.specs.Keys.{spelled_key}
use Rattle.key_schema.specs.declared.key.Key.TheVariants as keys
use Rattle.row_records.specs.Rows.{spelled_kept, read_kept}
use Rattle.row_records.specs.declared.rows.KeptRow.{KeptRow}
use Rattle.row_tree.specs.TypedRows.{TypedRows}
use Rattle.row_tree.proofs.OneValue.{kepts}
use Rattle.tree_model.specs.Calls.{is_query}
use Rattle.txn_task.specs.Agreeing.{Agrees}
use Rattle.txn_task.specs.Transactions.{with_key}
use Rattle.txn_task.specs.Wanted.{IsKeyRead}
use Rattle.txn_task.specs.Writes.{read_of}
use Rattle.txn_task.proofs.TellLaws.{kept_absent, kept_never, kept_there}
use Rattle.path_walk.specs.Footprint.{footprint}
use Rattle.path_walk.specs.Owed.{HasRead, IsKeptBefore}
use Rattle.path_walk.specs.Sound.{IsJustifiedReply}
use Rattle.path_walk.proofs.WholeLaws.{before_none, before_earlier, kept_later, kept_reads_all}
use Rattle.meta_task.specs.Steps.{IsKeptEarlier, IsRowOf, TellsKept, TellsRow}
use Rattle.meta_task.specs.Task.{no_reads}
use Rattle.meta_task.specs.declared.kept.Kept.{Kept}
use Rattle.meta_task.specs.declared.kept.Kept.TheVariants as kept

-- ---- the row among the bytes

row_is : (bytes : List ℕ) (row : KeptRow) → read_kept bytes ≡ Ok row → IsRowOf (Some bytes) row
row_is bytes row read = let exact = kepts.exact bytes row read in record { found = ap Some exact.1; fits = exact.0 }

pub tells_row : (bytes : List ℕ) (row : KeptRow) (number : ℕ) (k : Kept) → read_kept bytes ≡ Ok row → TellsRow row number k → TellsKept (Some bytes) number k
tells_row bytes row number kept.Earlier read h = inr (row, read, h)
tells_row bytes row number (kept.Same reply) read h = (row, row_is bytes row read, h.0, h.1)
tells_row bytes row number (kept.Later later) read h = (row, row_is bytes row read, h.0, h.1)

-- ---- the only key that was read

abbrev kept_reads : Request → Option (List ℕ) → ReadSet
kept_reads q value = with_key no_reads (spelled_key (keys.Idem q.client)) value

found_at : (q : Request) (value : Option (List ℕ)) → read_of (kept_reads q value).keys (spelled_key (keys.Idem q.client)) ≡ Some value
found_at q value = rw (key_self (spelled_key (keys.Idem q.client))) refl

pub kept_earlier : (q : Request) (value : Option (List ℕ)) → q.client.0 < 2 ^ 128 → IsKeptEarlier value q.number → IsKeptBefore (kept_reads q value) q
kept_earlier q None client h = before_none (kept_reads q None) q (kept_absent (kept_reads q None) q.client client (found_at q None))
kept_earlier q (Some bytes) client (inl bad) = before_none (kept_reads q (Some bytes)) q (kept_never (kept_reads q (Some bytes)) q.client bytes client (found_at q (Some bytes)) bad)
kept_earlier q (Some bytes) client (inr row) = before_earlier (kept_reads q (Some bytes)) q row.0 (kept_there (kept_reads q (Some bytes)) q.client bytes row.0 client (found_at q (Some bytes)) row.1) row.2

-- the kept reply's number is greater
pub kept_stale : (C : Settings) (q : Request) (value : Option (List ℕ)) (later : ℕ) → q.client.0 < 2 ^ 128 → is_query q.call ≡ false → TellsKept value q.number (kept.Later later) → IsJustifiedReply C q (kept_reads q value) (Refused (Stale later))
kept_stale C q value later client update h =
    subst (λ n. IsJustifiedReply C q (kept_reads q value) (Refused (Stale n))) h.2
    (kept_later C q (kept_reads q value) h.0 update there (subst (λ n. q.number < n) (sym h.2) h.3))
  where
    there : (S : TypedRows) → Agrees S (kept_reads q value) → get S.kept q.client.0 ≡ Some h.0
    there = kept_there (kept_reads q value) q.client (spelled_kept h.0) h.0 client (found_at q value ∙ ap Some h.1.found) (kepts.back h.0 h.1.fits)

-- ---- what was read

pub kept_read : (q : Request) (value : Option (List ℕ)) → IsKeyRead (kept_reads q value) (keys.Idem q.client)
kept_read q value = (value, found_at q value)

-- nothing more is read where the kept reply's number is greater
pub kept_all : (C : Settings) (q : Request) (value : Option (List ℕ)) (later : ℕ) → q.client.0 < 2 ^ 128 → is_query q.call ≡ false → TellsKept value q.number (kept.Later later) → HasRead C (λ T. footprint C T q) (kept_reads q value)
kept_all C q value later client update h = kept_reads_all C q (kept_reads q value) h.0 update there (subst (λ n. q.number ≤ n) (sym h.2) (omega (arith, h.3))) (kept_read q value)
  where
    there : (S : TypedRows) → Agrees S (kept_reads q value) → get S.kept q.client.0 ≡ Some h.0
    there = kept_there (kept_reads q value) q.client (spelled_kept h.0) h.0 client (found_at q value ∙ ap Some h.1.found) (kepts.back h.0 h.1.fits)
