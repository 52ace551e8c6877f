-- What fstat and extend owe, by what is known of the session and its file.
use Rattle.std.proofs.Common.{◌≡◌, ◌≢◌, ℕ, ◌<◌, ◌≤◌, ◌^◌, ◌==◌, Bool, true, false, cond, List, [], ◌∷◌, refl, sym, ap, subst, ◌∙◌, inl, inr, arith, ne_eqb, lt-ltb, le-ltb}
use Rattle.std.specs.Prelude.{IsTrue, Option, Some, None, Result, Ok, Err}
use Rattle.std.specs.Option.{is_some, ok_or, option_map}
use Rattle.std.specs.FinMap.{FinMap, get, insert}
use Rattle.std.specs.Ordering.{nat_cmp}
use Rattle.conflict_sets.specs.declared.sets.ReadSet.{ReadSet}
use Rattle.fs_base.specs.Config.{Settings}
use Rattle.fs_base.specs.declared.call.Session.{Session}
use Rattle.fs_base.specs.declared.code.Code.{Code}
use Rattle.fs_base.specs.declared.code.Code.TheVariants as codes
use Rattle.fs_base.specs.declared.ids.ClientId.{ClientId}
use Rattle.fs_base.specs.declared.reply.FileInfo.{FileInfo}
use Rattle.fs_base.specs.declared.reply.Reply.{Reply}
use Rattle.fs_base.specs.declared.reply.Reply.TheVariants.{File, Hint, Refused}
use Rattle.inode_record.specs.Inode.{is_inode}
use Rattle.inode_record.specs.declared.inode.InodePart.{InodePart}
use Rattle.inode_record.specs.declared.inode.InodePart.TheVariants as parts
use Rattle.inode_record.specs.declared.inode.InodeRow.{InodeRow}
use Rattle.key_schema.specs.declared.key.Key.{Key}
use Rattle.key_schema.specs.declared.key.Key.TheVariants as keys
use Rattle.row_tree.specs.Steps.{hinted_row, part_hinted, with_row}
use Rattle.row_tree.specs.TreeOf.{node_of, node_part, tree_of}
use Rattle.row_tree.specs.TypedRows.{TypedRows, kind_of, parent_of}
use Rattle.row_tree.specs.Values.{InodeValue, SessionValue, Value}
use Rattle.row_tree.specs.WellFormed.{FitsConfig, IsWellFormed}
use Rattle.row_tree.proofs.Sessions.{extend_one}
use Rattle.row_tree.proofs.Telling.{node_is, writer_is}
use Rattle.tree_model.specs.declared.node.Node.{Node}
use Rattle.tree_model.specs.Effects.{Effect, Leaves, Makes, at_length, refuses}
use Rattle.tree_model.specs.Sessions.{extend_file, file_of, file_there, has_session, hint_over, on_file, session_file, with_hint}
use Rattle.tree_model.specs.Tree.{Tree}
use Rattle.tree_model.proofs.HintLaws.{hint_over_fits}
use Rattle.tree_model.proofs.MapLaws.{ids, set_present}
use Rattle.txn_task.specs.Agreeing.{Agrees}
use Rattle.txn_task.specs.Transactions.{Transaction}
use Rattle.txn_task.specs.Wanted.{IsKeyRead, IsUnread}
use Rattle.txn_task.specs.declared.messages.Ask.TheVariants as asks
use Rattle.txn_task.specs.declared.messages.Asked.{Asked}
use Rattle.txn_task.specs.declared.messages.OpStep.{OpStep}
use Rattle.txn_task.specs.declared.messages.OpStep.TheVariants as steps
use Rattle.path_walk.specs.Areas.{AreRead, Area, OneKey}
use Rattle.path_walk.specs.Directories.{IsRowRead}
use Rattle.path_walk.specs.Footprint.{session_areas}
use Rattle.path_walk.specs.Owed.{HasDone, HasStepped}
use Rattle.path_walk.specs.Puts.{ArePuts, MakesPuts, put_writes}
use Rattle.path_walk.proofs.PutLaws.{puts_done}
use Rattle.path_walk.proofs.StepLaws.{asks_key, tells}
use Rattle.op_session.specs.Ending.{IsHeld, IsHeldStep, PutsHint}
use Rattle.op_session.specs.Session.{does_by}
use Rattle.op_session.specs.declared.task.HeldCall.{HeldCall}
use Rattle.op_session.specs.declared.task.HeldCall.TheVariants as held
use Rattle.op_session.proofs.HintRows.{IsFilePart, file_parts, hinted_fits, same_hint}
use Rattle.op_session.proofs.Ranges.{hint_fits}

abbrev hint_in : InodePart → ℕ
hint_in (parts.File length truncs layout hint) = hint
hint_in part = 0

-- ---- whether the session is there

module _ (client : ClientId) (session : Session) (S : TypedRows) (reads : ReadSet) (agrees : Agrees S reads) where
  abbrev by_number : Option (Unit {0}) → Bool
  by_number o = cond (session.number == 0) false (is_some o)

  is_absent : get S.sessions (session.inode, (client.0, session.number)) ≡ None → has_session (tree_of S) client session ≡ false
  is_absent none = ap (by_number) (writer_is S session.inode client.0 session.number None none) ∙ by (session.number == 0)
    where
      by : (b : Bool) → cond b false false ≡ false
      by true = refl
      by false = refl

  -- no row has number 0
  is_there : (stamp : ℕ) → get S.sessions (session.inode, (client.0, session.number)) ≡ Some stamp → has_session (tree_of S) client session ≡ true
  is_there stamp is =
      let valid = (agrees.spells.fits (keys.Session session.inode client session.number) (SessionValue stamp) (ap (option_map SessionValue) is)).0 in
      let from : 1 ≤ session.number = valid.1.1 in
      ap (by_number) (writer_is S session.inode client.0 session.number (Some stamp) is) ∙ ap (λ b. cond b false true) (ne_eqb session.number 0 (λ e. omega arith))

refused : (call : HeldCall) (client : ClientId) (session : Session) (T : Tree) (code : Code) → session_file T client session ≡ Err code → does_by call client session T ≡ refuses code
refused held.Fstat client session T code is = ap (λ r. on_file r (λ (file : FileInfo). Leaves (File file))) is
refused (held.Extend place) client session T code is = ap (λ r. on_file r (extend_file T place)) is

module _ (t : Transaction) (none : t.writes ≡ []) (client : ClientId) (session : Session) where
  abbrev own : Key
  own = keys.Session session.inode client session.number

  -- the session, and its file where it is there
  abbrev by_session : Bool → List Area
  by_session b = OneKey (own) ∷ cond b (OneKey (keys.Inode session.inode) ∷ []) []

  abbrev file_by : Tree → Bool → Result FileInfo Code
  file_by T b = cond b (file_there session.inode (get T.nodes session.inode)) (Err codes.NoSession)

  pub no_session : (call : HeldCall) → IsKeyRead t.reads (keys.Session session.inode client session.number) → ((S : TypedRows) → Agrees S t.reads → get S.sessions (session.inode, (client.0, session.number)) ≡ None)
      → IsHeldStep call client session t t (steps.Reply (Refused codes.NoSession))
  no_session call read absent C =
      tells C (λ T. session_areas T client session) (does_by call client session) t none (Refused codes.NoSession)
      (λ S good agrees. subst (AreRead t.reads) (sym (ap (by_session) (is_absent client session S t.reads agrees (absent S agrees)))) (read, tt))
      (λ S good agrees. refused call client session (tree_of S) codes.NoSession (ap (file_by (tree_of S)) (is_absent client session S t.reads agrees (absent S agrees))))

  module _ (is : IsHeld t.reads client session) where
    there : (S : TypedRows) → Agrees S t.reads → has_session (tree_of S) client session ≡ true
    there S agrees = is_there client session S t.reads agrees is.stamp (is.there S agrees)

    areas_are : (S : TypedRows) → Agrees S t.reads → session_areas (tree_of S) client session ≡ OneKey (own) ∷ OneKey (keys.Inode session.inode) ∷ []
    areas_are S agrees = ap (by_session) (there S agrees)

    file_is : (S : TypedRows) → Agrees S t.reads → (o : Option InodeRow) → get S.inodes session.inode ≡ o → session_file (tree_of S) client session ≡ file_there session.inode (option_map node_of o)
    file_is S agrees o at = ap (file_by (tree_of S)) (there S agrees) ∙ ap (file_there session.inode) (node_is S session.inode o at)

    told : (call : HeldCall) (reply : Reply) → IsKeyRead t.reads (keys.Inode session.inode) → ((S : TypedRows) → Agrees S t.reads → does_by call client session (tree_of S) ≡ Leaves reply) → IsHeldStep call client session t t (steps.Reply reply)
    told call reply read justified C =
        tells C (λ T. session_areas T client session) (does_by call client session) t none reply
        (λ S good agrees. subst (AreRead t.reads) (sym (areas_are S agrees)) (is.seen, (read, tt))) (λ S good agrees. justified S agrees)

    pub asks_file : (call : HeldCall) (key : Key) → (key ≡ keys.Inode session.inode) × IsUnread t.reads (keys.Inode session.inode) → IsHeldStep call client session t t (steps.Ask (asks.Get key))
    asks_file call key unread C =
        asks_key C (λ T. session_areas T client session) (does_by call client session) t none key (keys.Inode session.inode) (λ T. []) unread
        (λ S good agrees. (OneKey (own) ∷ [], (is.seen, tt), areas_are S agrees))

    pub nowhere : (call : HeldCall) → IsKeyRead t.reads (keys.Inode session.inode) → ((S : TypedRows) → Agrees S t.reads → get S.inodes session.inode ≡ None) → IsHeldStep call client session t t (steps.Reply (Refused codes.NoSession))
    nowhere call read absent = told call (Refused codes.NoSession) read (λ S agrees. refused call client session (tree_of S) codes.NoSession (file_is S agrees None (absent S agrees)))

    module _ (row : InodeRow) (read : IsRowRead t.reads session.inode row) where
      pub no_file : (call : HeldCall) → file_of session.inode (node_part row.part) ≡ None → IsHeldStep call client session t t (steps.Reply (Refused codes.NoSession))
      no_file call absent =
          told call (Refused codes.NoSession) read.seen (λ S agrees.
          refused call client session (tree_of S) codes.NoSession (file_is S agrees (Some row) (read.there S agrees) ∙ ap (λ (o : Option FileInfo). ok_or o codes.NoSession) absent))

      module _ (file : FileInfo) (at : file_of session.inode (node_part row.part) ≡ Some file) where
        its_file : (S : TypedRows) → Agrees S t.reads → session_file (tree_of S) client session ≡ Ok file
        its_file S agrees = file_is S agrees (Some row) (read.there S agrees) ∙ ap (λ (o : Option FileInfo). ok_or o codes.NoSession) at

        pub fstat_told : IsHeldStep held.Fstat client session t t (steps.Reply (File file))
        fstat_told = told held.Fstat (File file) read.seen (λ S agrees. ap (λ r. on_file r (λ (f : FileInfo). Leaves (File f))) (its_file S agrees))

        -- ---- extend

        abbrev made : Tree → ℕ → Effect
        made T place = Makes (with_hint T file.inode (hint_over file.layout.stripe place file.hint) (get T.nodes file.inode)) (Hint (hint_over file.layout.stripe place file.hint))

        pub too_far : (place : ℕ) → file.layout.stripe ≤ place → IsHeldStep (held.Extend place) client session t t (steps.Reply (Refused codes.ShortHint))
        too_far place beyond =
            told (held.Extend place) (Refused codes.ShortHint) read.seen (λ S agrees.
            ap (λ r. on_file r (extend_file (tree_of S) place)) (its_file S agrees)
            ∙ ap (λ b. cond b (made (tree_of S) place) (refuses codes.ShortHint)) (le-ltb place file.layout.stripe beyond))

        module _ (place hint : ℕ) (within : place < file.layout.stripe) (is_hint : hint ≡ hint_over file.layout.stripe place file.hint) (small : session.inode < 2 ^ 36) (hint_small : hint < 2 ^ 16) where
          abbrev new : InodeRow
          new = hinted_row hint row

          part : IsFilePart session.inode row.part file
          part = file_parts session.inode row.part file at

          abbrev told_file : FileInfo
          told_file = record { inode = session.inode; length = file.length; truncs = file.truncs; layout = file.layout; hint = file.hint }

          same_file : file ≡ (told_file)
          same_file = λ i. record { inode = (part).inode i; length = file.length; truncs = file.truncs; layout = file.layout; hint = file.hint }

          is_within : (C : Settings) (S : TypedRows) → IsWellFormed C S → Agrees S t.reads → (1 ≤ hint) × (hint ≤ file.layout.stripe)
          is_within C S good agrees =
              let fits = subst (FitsConfig C session.inode) (part).is (good.fits session.inode row (read.there S agrees)) in
              subst (λ (h : ℕ). (1 ≤ h) × (h ≤ file.layout.stripe)) (sym is_hint) (hint_over_fits file.layout.stripe place file.hint fits.1 fits.2)

          abbrev does : Tree → Effect
          does = does_by (held.Extend place) client session

          -- the rows with the new hint are well-formed, and their tree is the one that the call makes
          makes : (C : Settings) (S : TypedRows) → IsWellFormed C S → Agrees S t.reads → IsWellFormed C (with_row S session.inode (new)) × (does (tree_of S) ≡ Makes (tree_of (with_row S session.inode (new))) (Hint hint))
          makes C S good agrees =
              let one = extend_one S session.inode row (read.there S agrees) file.length file.truncs file.layout file.hint (part).is C good place within in
              subst (λ (h : ℕ). IsWellFormed C (with_row S session.inode (hinted_row h row)) × (does (tree_of S) ≡ Makes (tree_of (with_row S session.inode (hinted_row h row))) (Hint h))) (sym is_hint) (
                one.0,
                ap (λ r. on_file r (extend_file (tree_of S) place)) (its_file S agrees) ∙ (ap (extend_file (tree_of S) place) same_file ∙ one.1),
              )

          abbrev put : List (Key × Option Value)
          put = (keys.Inode session.inode, Some (InodeValue (new))) ∷ []

          makes_one : (C : Settings) → MakesPuts C (does) t.reads (put) (Hint hint)
          makes_one C S good agrees = let made = makes C S good agrees in (made.0, ap (at_length 0) made.1)

          put_again : hint ≡ file.hint → (S : TypedRows) → Agrees S t.reads → with_row S session.inode (new) ≡ S
          put_again same S agrees =
              ap (λ (m : FinMap nat_cmp InodeRow). record S { inodes = m })
              (set_present ids S.inodes session.inode (Some (new)) (read.there S agrees ∙ ap Some (sym (ap (λ (h : ℕ). hinted_row h row) same ∙ same_hint row file part.is))))

          makes_none : hint ≡ file.hint → (C : Settings) → MakesPuts C (does) t.reads [] (Hint hint)
          makes_none same C S good agrees =
              let made = makes C S good agrees in
              let again = put_again same S agrees in
              (subst (IsWellFormed C) again made.0, ap (at_length 0) made.1 ∙ ap (λ (U : TypedRows). Makes (tree_of U) (Hint hint)) again)

          fits : (S : TypedRows) → Agrees S t.reads → IsTrue (is_inode row)
          fits S agrees = (agrees.spells.fits (keys.Inode session.inode) (InodeValue row) (ap (option_map InodeValue) (read.there S agrees))).1

          other_hint : new ≡ row → hint ≡ file.hint
          other_hint same =
              sym (ap (λ (p : InodePart). hint_in (part_hinted hint p)) part.is)
              ∙ ap (λ (r : InodeRow). hint_in r.part) same
              ∙ ap hint_in part.is

          one_put : (C : Settings) → hint ≢ file.hint → ArePuts C t.reads (put)
          one_put C other = (
            record {
              valid = small;
              no_kept = refl;
              changes = λ S good agrees. let h = is_within C S good agrees in (
                (refl, hinted_fits row file hint part.is (fits S agrees) hint_small h.0 h.1),
                (λ same. other (other_hint (that row (new) (sym (ap (option_map InodeValue) (read.there S agrees)) ∙ same)))),
              );
            },
            tt,
          )
            where
              that : (a b : InodeRow) → Some (InodeValue a) ≡ Some (InodeValue b) → b ≡ a
              that a b e = cc

          module _ (u : Transaction) (asked : List Asked) (empty : asked ≡ []) where
            commits : (C : Settings) (puts : List (Key × Option Value)) → ArePuts C t.reads puts → u ≡ record t { writes = put_writes puts } → MakesPuts C (does) t.reads puts (Hint hint)
                → HasDone C (λ T. session_areas T client session) (does) t u (steps.Commit (Hint hint) asked)
            commits C puts are after makes =
                puts_done C (λ T. session_areas T client session) (does) t u (Hint hint) asked puts
                (λ S good agrees. subst (AreRead t.reads) (sym (areas_are S agrees)) (is.seen, (read.seen, tt))) are after (hint_fits hint hint_small) empty makes

            -- whichever way it was put, the call is done
            pub extended : PutsHint session.inode file.hint hint row t u → IsHeldStep (held.Extend place) client session t u (steps.Commit (Hint hint) asked)
            extended (inl kept) C = commits C [] tt (kept.1 ∙ ap (λ ws. record t { writes = ws }) none) (makes_none kept.0 C)
            extended (inr put_it) C = commits C (put) (one_put C put_it.0) put_it.1 (makes_one C)

-- a step of a call that has no way is one of all that it reads
pub stays_held : (C : Settings) (areas : Tree → List Area) (effect : Tree → Effect) (before after : Transaction) (s : OpStep) → HasDone C areas effect before after s → HasStepped C areas areas effect effect before after s
stays_held C areas effect before after s done = record {
  effect = λ S good agrees. refl;
  areas = λ S good agrees. ([], tt, refl);
  done = done;
}
