-- The rows of a new store: the root's alone.
use Rattle.std.specs.Prelude.{ℕ, ◌≤◌, List, [], ◌∷◌}
use Rattle.std.specs.FinMap.{empty, insert}
use Rattle.fs_base.specs.Config.{Settings}
use Rattle.fs_base.specs.declared.row.Row.{Row}
use Rattle.fs_base.specs.declared.limits.TheConstants.{CHAINS, CHUNK_BYTES}
use Rattle.inode_record.specs.Inode.{spelled_inode}
use Rattle.inode_record.specs.declared.inode.InodePart.TheVariants as parts
use Rattle.inode_record.specs.declared.inode.InodeRow.{InodeRow}
use Rattle.key_schema.specs.Keys.{spelled_key}
use Rattle.key_schema.specs.declared.key.Key.TheVariants as keys
use Rattle.row_tree.specs.TypedRows.{TypedRows}

-- mode 755, of owner and group 0, its own parent, with this default layout
abbrev pub root_with : ℕ → ℕ → InodeRow
root_with chunk stripe =
    record {
      mode = 493;
      owner = 0;
      group = 0;
      links = 1;
      atime = 0;
      mtime = 0;
      ctime = 0;
      part = parts.Dir 0 chunk stripe;
    }

-- with the configuration's
abbrev pub root_row : Settings → InodeRow
root_row C = root_with C.chunk C.stripe

abbrev pub opening_rows : Settings → TypedRows
opening_rows C =
    record {
      inodes = insert empty 0 (root_row C);
      dents = empty;
      sessions = empty;
      kept = empty;
      doomed = empty;
      next = empty;
    }

-- the same as bytes
abbrev pub opening_bytes : Settings → List Row
opening_bytes C = record { key = spelled_key (keys.Inode 0); value = spelled_inode (root_row C) } ∷ []

-- the limits that the root's row needs
pub record HasLimits (C : Settings) : Type 0 where
  pub chains_to : C.chains ≤ CHAINS
  pub chunk_from : 1 ≤ C.chunk
  pub chunk_to : C.chunk ≤ CHUNK_BYTES
  pub stripe_from : 1 ≤ C.stripe
  pub stripe_to : C.stripe ≤ C.chains
