-- What is told of an inode and of a directory's entries is what their rows tell.
use Rattle.std.proofs.Common.{◌≡◌, ◌≢◌, ℕ, ◌<◌, ◌^◌, ◌==◌, Bool, true, false, cond, T, List, [], ◌∷◌, map, refl, sym, ap, ◌∙◌, inl, inr}
use Rattle.std.specs.Prelude.{Option, Some, None}
use Rattle.std.specs.Option.{option_map}
use Rattle.std.specs.List.{filter_map, cons_option}
use Rattle.std.specs.Ordering.{is_eq}
use Rattle.std.specs.Cmp.{tied_itself}
use Rattle.std.specs.FinMap.{get, entries, get-entries, entries_sorted, find, is_sorted}
use Rattle.std.proofs.lemmas.Bool.{lt-ltb}
use Rattle.fs_base.specs.Config.{Settings}
use Rattle.fs_base.specs.declared.kind.Kind.{Kind}
use Rattle.fs_base.specs.declared.kind.Kind.TheVariants as kinds
use Rattle.fs_base.specs.declared.reply.DirEntry.{DirEntry}
use Rattle.inode_record.specs.declared.inode.InodePart.{InodePart}
use Rattle.inode_record.specs.declared.inode.InodePart.TheVariants as parts
use Rattle.inode_record.specs.declared.inode.InodeRow.{InodeRow}
use Rattle.row_records.specs.declared.rows.DentRow.{DentRow}
use Rattle.tree_model.specs.declared.node.Node.{Node}
use Rattle.tree_model.specs.Attributes.{kind_of_part, saturated, count_to, links_of, length_of, attributes_of}
use Rattle.tree_model.specs.Finding.{entry_in, names_in}
use Rattle.tree_model.specs.Maps.{dent_cmp}
use Rattle.tree_model.specs.Tree.{Tree}
use Rattle.tree_model.proofs.MapLaws.{ids, names, decide, both_first, both_second, find_below, not_some, same_some, count-map_values, entries-map_values}
use Rattle.row_tree.specs.TypedRows.{TypedRows, named_in_dir, dir_rows, kind_of, entries_to}
use Rattle.row_tree.specs.TreeOf.{tree_of, node_of, node_part}
use Rattle.row_tree.specs.Told.{listed_entry, length_at, attributes_at}
use Rattle.row_tree.specs.WellFormed.{IsWellFormed}
use Rattle.row_tree.proofs.Telling.{node_is}

pub kind_told : (part : InodePart) → kind_of_part (node_part part) ≡ kind_of part
kind_told (parts.Dir parent chunk stripe) = refl
kind_told (parts.File length truncs layout hint) = refl
kind_told (parts.Link target) = refl

pub length_told : (part : InodePart) → length_of (node_part part) ≡ length_at part
length_told (parts.Dir parent chunk stripe) = refl
length_told (parts.File length truncs layout hint) = refl
length_told (parts.Link target) = refl

-- ---- a directory's entries

consed : {X Y : Type 0} (f : X → Y) (o : Option X) (xs : List X) → cons_option (option_map f o) (map f xs) ≡ map f (cons_option o xs)
consed f None xs = refl
consed f (Some x) xs = refl

-- what holds of each row that is found holds of the list
all_listed : (tree : Tree) (d : ℕ) (es : List ((ℕ × List ℕ) × DentRow)) → T (is_sorted dent_cmp es)
    → ((k : ℕ × List ℕ) (e : DentRow) → find dent_cmp k es ≡ Some e → entry_in tree d (k, e.inode) ≡ option_map listed_entry (named_in_dir d (k, e)))
    → filter_map (entry_in tree d) (map (λ (e : (ℕ × List ℕ) × DentRow). (e.0, e.1.inode)) es) ≡ map listed_entry (filter_map (named_in_dir d) es)
all_listed tree d [] h all = refl
all_listed tree d (e ∷ es) h all =
    let here : entry_in tree d (e.0, e.1.inode) ≡ option_map listed_entry (named_in_dir d e) = all e.0 e.1 (ap (λ o. cond (is_eq o) (Some e.1) (find dent_cmp e.0 es)) (tied_itself names.total e.0)) in
    let later = all_listed tree d es (both_second _ _ h) (λ k v is. elim (decide names k e.0) [
      | inl q ↦ absurd (not_some v (find_below names e.0 es (both_first _ _ h)) (ap (λ (x : ℕ × List ℕ). find dent_cmp x es) (sym q.0) ∙ is))
      | inr q ↦ all k v (ap (λ b. cond b (Some e.1) (find dent_cmp k es)) q.1 ∙ is)
    ]) in
    (λ i. cons_option (here i) (later i))
    ∙ consed listed_entry (named_in_dir d e) (filter_map (named_in_dir d) es)

-- an entry as the tree lists it, by the node that it leads to
abbrev entry_to : ℕ × List ℕ → ℕ → Node → DirEntry
entry_to k inode node = record { name = k.1; inode = inode; kind = kind_of_part node.part }

module _ (C : Settings) (S : TypedRows) (good : IsWellFormed C S) where
  -- each entry's node has the entry's kind
  entry_listed : (d : ℕ) (k : ℕ × List ℕ) (e : DentRow) → get S.dents k ≡ Some e → entry_in (tree_of S) d (k, e.inode) ≡ option_map listed_entry (named_in_dir d (k, e))
  entry_listed d k e is = by (k.0 == d)
    where
      there : option_map (entry_to k e.inode) (get (tree_of S).nodes e.inode) ≡ Some (listed_entry (k.1, e))
      there =
          let has = (good.entry k.0 k.1 e is).target in
          ap (option_map (entry_to k e.inode)) (node_is S e.inode (Some has.0) has.1)
          ∙ ap (λ (kind : Kind). Some (record { name = k.1; inode = e.inode; kind = kind })) (kind_told has.0.part ∙ has.2)

      by : (b : Bool) → cond b (option_map (entry_to k e.inode) (get (tree_of S).nodes e.inode)) None ≡ option_map listed_entry (cond b (Some (k.1, e)) None)
      by true = there
      by false = refl

  pub names_are : (d : ℕ) → names_in (tree_of S) d ≡ map listed_entry (dir_rows S d)
  names_are d =
      ap (filter_map (entry_in (tree_of S) d)) (entries-map_values dent_cmp (λ (e : DentRow). e.inode) S.dents)
      ∙ all_listed (tree_of S) d (entries S.dents) (entries_sorted S.dents) (λ k e is. entry_listed d k e (get-entries S.dents k ∙ is))

-- ---- an inode

saturated_within : (n : ℕ) → n < 2 ^ 32 → saturated n ≡ n
saturated_within n small = ap (λ b. cond b n 4294967295) (lt-ltb n 4294967296 small)

pub count_told : (S : TypedRows) (id : ℕ) → count_to (tree_of S) id ≡ entries_to S id
count_told S id = count-map_values dent_cmp (λ (e : DentRow). e.inode) (λ (x : ℕ). x == id) S.dents

module _ (C : Settings) (S : TypedRows) (good : IsWellFormed C S) (id : ℕ) (row : InodeRow) (is : get S.inodes id ≡ Some row) where
  dir_links : kind_of row.part ≡ kinds.Dir → row.links ≡ 1
  dir_links dir = elim (decide ids id 0) [
    | inl root ↦
        let has = good.root in
        ap (λ (r : InodeRow). r.links) (same_some row has.0 is (ap (get S.inodes) root.0 ∙ has.1)) ∙ has.2.links
    | inr other ↦ (good.linked id row is other.0).dir dir
  ]

  -- what is no directory isn't the root, and counts its entries
  pub other_links : kind_of row.part ≢ kinds.Dir → row.links ≡ entries_to S id
  other_links other = elim (decide ids id 0) [
    | inl root ↦
        let has = good.root in
        let same : row ≡ has.0 = same_some row has.0 is (ap (get S.inodes) root.0 ∙ has.1) in
        absurd (other (ap (λ (r : InodeRow). kind_of r.part) same ∙ ap kind_of has.2.parent.2))
    | inr apart ↦ (good.linked id row is apart.0).count
  ]

  module _ (small : row.links < 2 ^ 32) where
    counted : kind_of row.part ≢ kinds.Dir → saturated (count_to (tree_of S) id) ≡ row.links
    counted other = ap saturated (count_told S id ∙ sym (other_links other)) ∙ saturated_within row.links small

    pub links_told : links_of (tree_of S) id (node_part row.part) ≡ row.links
    links_told = by row.part refl
      where
        by : (part : InodePart) → row.part ≡ part → links_of (tree_of S) id (node_part part) ≡ row.links
        by (parts.Dir parent chunk stripe) e = sym (dir_links (ap kind_of e))
        by (parts.File length truncs layout hint) e = counted (λ dir. let clash : kinds.File ≡ kinds.Dir = sym (ap kind_of e) ∙ dir in cc)
        by (parts.Link target) e = counted (λ dir. let clash : kinds.Link ≡ kinds.Dir = sym (ap kind_of e) ∙ dir in cc)

    pub attributes_are : attributes_of (tree_of S) id (node_of row) ≡ attributes_at id row
    attributes_are = λ i. record (attributes_at id row) { kind = kind_told row.part i; links = links_told i; length = length_told row.part i }
