-- Which chain and which storage node a chunk lies on.
use Rattle.std.specs.Prelude.{◌≡◌, ℕ, zero, suc, ◌+◌, ◌-◌, ◌*◌, ◌%◌, ◌<◌, ◌≤◌, List, Some, map, slice_index_or}
use Rattle.std.specs.List.{range_with_len, swap}
use Rattle.fs_base.specs.Config.{Settings, layout_given}
use Rattle.fs_base.specs.declared.layout.Layout.{Layout}
use Rattle.fs_base.specs.declared.limits.TheConstants.{CHAINS, INODE_IDS}

-- the configuration gives some inode this layout
abbrev pub IsLayoutOf : Settings → Layout → Type 0
IsLayoutOf C layout =
    (id : ℕ) × (id < INODE_IDS)
    × (layout_given C id (record { chunk = layout.chunk; stripe = layout.stripe }) ≡ Some layout)

-- what such a layout keeps to
pub record IsInBounds (C : Settings) (layout : Layout) : Type 0 where
  pub some : 1 ≤ C.chains
  pub few : C.chains ≤ CHAINS
  pub start : layout.start < C.chains
  pub striped : 1 ≤ layout.stripe
  pub stripe : layout.stripe ≤ C.chains
  pub mix : layout.mix < INODE_IDS

-- as many chains as the stripe, from the start on
abbrev pub in_turn : Settings → Layout → List ℕ
in_turn C layout = map (λ place. (layout.start + place) % C.chains) (range_with_len 0 layout.stripe)

-- from the last place down to the second, each changes places with one at or before it
abbrev pub shuffled : ℕ → ℕ → List ℕ → List ℕ
shuffled mix zero chains = chains
shuffled mix (suc place) chains =
    shuffled mix place (swap chains (suc place) ((mix + 7 * suc place) % (suc place + 1)))

-- the chain of each place
unfoldable pub chains_of : Settings → Layout → List ℕ
chains_of C layout = shuffled layout.mix (layout.stripe - 1) (in_turn C layout)

-- chains go round the nodes
unfoldable pub node_of_place : Settings → Layout → ℕ → ℕ
node_of_place C layout place = slice_index_or (chains_of C layout) place 0 % C.nodes

-- chunks go round the places
abbrev pub place_of_chunk : Layout → ℕ → ℕ
place_of_chunk layout index = index % layout.stripe

abbrev pub node_of_chunk : Settings → Layout → ℕ → ℕ
node_of_chunk C layout index = node_of_place C layout (place_of_chunk layout index)
