-- A walk under way, and what one step of it does.
use Rattle.std.specs.Prelude.{◌≡◌, ℕ, zero, suc, ◌+◌, List, length}
use Rattle.fs_base.specs.declared.code.Code.TheVariants.{LinkLoop}
use Rattle.fs_base.specs.Paths.{path_of}
use Rattle.tree_model.specs.declared.walk.WalkEnd.{WalkEnd}
use Rattle.tree_model.specs.declared.walk.Walked.{Walked}
use Rattle.tree_model.specs.declared.walk.Walked.TheVariants.{Stopped}
use Rattle.tree_model.specs.declared.walking.Walk.{Walk}
use Rattle.tree_model.specs.declared.walking.Move.{Move}
use Rattle.tree_model.specs.declared.walking.Move.TheVariants.{Stop, Down, Followed}
use Rattle.tree_model.specs.Tree.{Tree}
use Rattle.tree_model.specs.Walk.{Behind, Inode, stay, visiting, walk, on_target, at_link}

-- what lies behind a link, with so many links that may still be followed
abbrev pub follow_of : ℕ → Tree → WalkEnd → Behind
follow_of zero T end = λ _ _ _ _. stay (Stopped LinkLoop)
follow_of (suc left) T end =
    λ id here target names. visiting (Inode id) (on_target (walk left T end) here names (path_of target))

-- where a walk under way ends
abbrev pub end_from : Tree → Walk → Walked
end_from T w = (walk w.links T w.end w.rest w.here).end

abbrev pub IsMove : Tree → Walk → Walk → Move → Type 0
IsMove T old new (Stop walked) = end_from T old ≡ walked
IsMove T old new Down =
    (end_from T old ≡ end_from T new) × (new.links ≡ old.links) × (length new.rest + 1 ≡ length old.rest)
IsMove T old new Followed = (end_from T old ≡ end_from T new) × (new.links + 1 ≡ old.links)

-- where the walk ends that stands at this link
abbrev pub end_at_link : Tree → Walk → ℕ → List ℕ → Walked
end_at_link T w id target = (at_link (follow_of w.links T w.end) w.end w.here id target w.rest).end

abbrev pub IsFollowed : Tree → Walk → ℕ → List ℕ → Walk → Move → Type 0
IsFollowed T old id target new (Stop walked) = end_at_link T old id target ≡ walked
IsFollowed T old id target new Down = ⊥
IsFollowed T old id target new Followed =
    (end_at_link T old id target ≡ end_from T new) × (new.links + 1 ≡ old.links)
