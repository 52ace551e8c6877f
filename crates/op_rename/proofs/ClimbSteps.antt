-- The steps of the way up over rows that were read.
use Rattle.std.proofs.Common.{◌≡◌, ◌≢◌, ◌⊎◌, ℕ, ◌+◌, List, [], ◌∷◌, ◌++◌, map, length, refl, sym, subst, ◌∙◌, inl, inr, arith, true, false, eqb, eq-eqb, eqb-true, length-append}
use Rattle.std.specs.Prelude.{Some, None}
use Rattle.conflict_sets.specs.declared.sets.ReadSet.{ReadSet}
use Rattle.fs_base.specs.Config.{Settings}
use Rattle.fs_base.specs.declared.kind.Kind.TheVariants as kinds
use Rattle.inode_record.specs.declared.inode.InodePart.{InodePart}
use Rattle.inode_record.specs.declared.inode.InodePart.TheVariants as parts
use Rattle.key_schema.specs.declared.key.Key.{Key}
use Rattle.key_schema.specs.declared.key.Key.TheVariants as keys
use Rattle.row_tree.specs.TypedRows.{TypedRows, kind_of, parent_at, parent_of}
use Rattle.row_tree.specs.WellFormed.{HasKind, IsWellFormed}
use Rattle.row_tree.proofs.Adding.{parent_at_row}
use Rattle.row_tree.proofs.Ancestors.{below_from_on}
use Rattle.txn_task.specs.Agreeing.{Agrees}
use Rattle.txn_task.specs.Wanted.{IsKeyRead, IsUnread}
use Rattle.txn_task.specs.declared.messages.Ask.TheVariants as asks
use Rattle.path_walk.specs.Areas.{Area, AreRead, IsNextOf, OneKey}
use Rattle.path_walk.specs.Climbing.{climbed}
use Rattle.path_walk.specs.Directories.{IsDirRead}
use Rattle.path_walk.specs.Owed.{HasRead}
use Rattle.path_walk.proofs.AreaLaws.{next_behind, read_both}
use Rattle.path_walk.proofs.ClimbLaws.{IsClimb, areas_at_end, areas_on, climb_clear, climb_few, climb_found, climb_on, inode_area, parent_is_dir}
use Rattle.op_rename.specs.Climb.{IsClimbStep}
use Rattle.op_rename.specs.declared.climb.Climb.TheVariants as climbs

-- ---- whether two ids are one

pub is_one : (a b : ℕ) → true ≡ eqb a b → a ≡ b
is_one a b same = eqb-true a b (sym same)

pub are_two : (a b : ℕ) → false ≡ eqb a b → a ≢ b
are_two a b other same = let clash : false ≡ true = other ∙ eq-eqb a b same in cc

-- ---- the way up

-- in all good rows that agree, so many keys are left behind those of the inodes on the way to here
abbrev pub HasClimbed : ReadSet → ℕ → ℕ → ℕ → ℕ → Type 0
HasClimbed reads source dir left here =
    (C : Settings) (S : TypedRows) → IsWellFormed C S → Agrees S reads
    → (visited : List ℕ) × (length visited + left ≡ length reads.keys) × IsClimb S source dir visited here × AreRead reads (map inode_area visited) × HasKind S here kinds.Dir

-- a directory's row names a parent
no_parent : (part : InodePart) → kind_of part ≡ kinds.Dir → parent_of part ≢ None
no_parent (parts.Dir parent chunk stripe) k none = cc
no_parent (parts.File length truncs layout hint) k none = cc
no_parent (parts.Link target) k none = cc

read_on : (reads : ReadSet) (here : ℕ) (vs : List ℕ) → IsKeyRead reads (keys.Inode here) → AreRead reads (map inode_area vs) → AreRead reads (map inode_area (vs ++ here ∷ []))
read_on reads here [] read all = (read, tt)
read_on reads here (v ∷ vs) read all = (all.0, read_on reads here vs read all.1)

module _ (reads : ReadSet) (source dir : ℕ) where
  pub starts : (n : ℕ) → n ≡ length reads.keys → IsDirRead reads dir → HasClimbed reads source dir n dir
  starts n is has C S good agrees = ([], omega (arith, is), refl, tt, (has.row, has.there S agrees, has.is_dir))

  module _ (left here : ℕ) (so_far : HasClimbed reads source dir left here) where
    pub asks_on : here ≢ source → here ≢ 0 → (key : Key) → (key ≡ keys.Inode here) × IsUnread reads (keys.Inode here) → IsClimbStep (climbs.Ask key) reads source dir
    asks_on nx nz key unread = (
      subst (IsUnread reads) (sym unread.0) unread.1,
      λ C S good agrees.
          let c = so_far C S good agrees in
          let on = areas_on C S good source dir here c.0 c.2 c.4 nx nz in
          subst (λ (l : List Area). IsNextOf reads l (asks.Get key)) (sym on.1)
          (next_behind reads (map inode_area c.0) (OneKey (keys.Inode here) ∷ on.0) (asks.Get key) c.3 (inl unread)),
    )

    all_read : (here ≡ source) ⊎ (here ≡ 0) → (C : Settings) → HasRead C (λ T. climbed T source dir) reads
    all_read ends C S good agrees =
        let c = so_far C S good agrees in
        subst (AreRead reads) (sym (areas_at_end C S good source dir here c.0 c.2 c.4 ends)) (read_both reads (map inode_area c.0) [] c.3 tt)

    pub found : here ≡ source → IsClimbStep climbs.Found reads source dir
    found is C = (
      all_read (inl is) C,
      λ S good agrees.
          let c = so_far C S good agrees in
          let up = good.leads here c.4 in
          let on = climb_found S source dir c.0 here up.0 c.2 is up.1 in
          below_from_on C S good source dir on.0 on.1 on.2,
    )

    pub clear : here ≢ source → here ≡ 0 → IsClimbStep climbs.Clear reads source dir
    clear nx root C = (all_read (inr root) C, λ S good agrees. let c = so_far C S good agrees in climb_clear S source dir c.0 here c.2 nx root)

    -- where no good rows agree, all is said
    never : ((C : Settings) (S : TypedRows) → IsWellFormed C S → Agrees S reads → ⊥) → IsClimbStep climbs.Found reads source dir
    never none C = (λ S good agrees. absurd (none C S good agrees), λ S good agrees. absurd (none C S good agrees))

    -- no good rows have no parent there
    pub never_nothing : ((S : TypedRows) → Agrees S reads → parent_at S here ≡ None) → IsClimbStep climbs.Found reads source dir
    never_nothing none = never (λ C S good agrees.
        let c = so_far C S good agrees in
        no_parent c.4.0.part c.4.2 (sym (parent_at_row S here c.4.0 c.4.1) ∙ none S agrees))

    module _ (nx : here ≢ source) (nz : here ≢ 0) (parent : ℕ) (read : IsKeyRead reads (keys.Inode here)) (up : (S : TypedRows) → Agrees S reads → parent_at S here ≡ Some parent) where
      pub goes_on : (less : ℕ) → less + 1 ≡ left → HasClimbed reads source dir less parent
      goes_on less is C S good agrees =
          let c = so_far C S good agrees in
          let long : length (c.0 ++ here ∷ []) ≡ length c.0 + 1 = length-append c.0 (here ∷ []) in
          let was : length c.0 + left ≡ length reads.keys = c.1 in (
            c.0 ++ here ∷ [],
            omega arith,
            climb_on S source dir c.0 here parent c.2 nx nz (up S agrees),
            read_on reads here c.0 read c.3,
            parent_is_dir C S good here parent (up S agrees),
          )

      -- no good rows have a way up with more ids than keys were read
      pub never_longer : left ≡ 0 → IsClimbStep climbs.Found reads source dir
      never_longer none = never (λ C S good agrees.
          let c = so_far C S good agrees in
          let long : length (c.0 ++ here ∷ []) ≡ length c.0 + 1 = length-append c.0 (here ∷ []) in
          let was : length c.0 + left ≡ length reads.keys = c.1 in
          let few = climb_few C S reads good agrees source dir parent (c.0 ++ here ∷ []) (climb_on S source dir c.0 here parent c.2 nx nz (up S agrees)) (parent_is_dir C S good here parent (up S agrees)) (read_on reads here c.0 read c.3) in
          omega arith)
