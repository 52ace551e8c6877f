-- A configuration, as contracts see it, and its limits.
use Rattle.std.specs.Prelude.{ℕ, ◌≤◌, ◌%◌, nat_le, ◌&&◌, Bool, if◌then◌else◌, Option, Some, None}
use Rattle.fs_base.specs.declared.layout.DefaultLayout.{DefaultLayout}
use Rattle.fs_base.specs.declared.layout.Layout.{Layout}
use Rattle.fs_base.specs.declared.limits.TheConstants.{CHAINS, CHUNK_BYTES, NODES, SERVERS}

-- servers, storage nodes, replica chains; the root's default layout: a chunk in bytes, a stripe in chains
pub record Settings : Type 0 where
  pub servers : ℕ
  pub nodes : ℕ
  pub chains : ℕ
  pub chunk : ℕ
  pub stripe : ℕ

pub record IsConfig (servers nodes chains chunk stripe : ℕ) : Type 0 where
  pub servers_from : 1 ≤ servers
  pub servers_to : servers ≤ SERVERS
  pub nodes_from : 1 ≤ nodes
  pub nodes_to : nodes ≤ NODES
  pub chains_from : 1 ≤ chains
  pub chains_to : chains ≤ CHAINS
  pub chunk_from : 1 ≤ chunk
  pub chunk_to : chunk ≤ CHUNK_BYTES
  pub stripe_from : 1 ≤ stripe
  pub stripe_to : stripe ≤ chains

-- what a scenario has that names none of them
abbrev pub default_settings : Settings
default_settings = record { servers = 1; nodes = 1; chains = 1; chunk = 1048576; stripe = 1 }

-- a directory's default: a chunk of 1 to 4,194,304 bytes over 1 to all chains
abbrev pub admits : Settings → DefaultLayout → Bool
admits settings layout =
    (nat_le 1 layout.chunk && nat_le layout.chunk CHUNK_BYTES)
    && (nat_le 1 layout.stripe && nat_le layout.stripe settings.chains)

-- the layout of an inode: it starts at the chain of its number, and is shuffled by it
abbrev pub layout_at : Settings → ℕ → DefaultLayout → Layout
layout_at settings id given =
    record { chunk = given.chunk; stripe = given.stripe; start = id % settings.chains; mix = id }

-- for a chunk and stripe that the configuration admits
abbrev pub layout_given : Settings → ℕ → DefaultLayout → Option Layout
layout_given settings id given = if admits settings given then Some (layout_at settings id given) else None
