-- The table of calls, and kept replies around it.
use Rattle.std.specs.Prelude.{◌==◌, ℕ, nat_lt, Bool, true, false, if◌then◌else◌, Option, Some, None}
use Rattle.std.specs.FinMap.{get, insert}
use Rattle.fs_base.specs.Config.{Settings}
use Rattle.fs_base.specs.declared.call.Call.{Call}
use Rattle.fs_base.specs.declared.call.Call.TheVariants as calls
use Rattle.fs_base.specs.declared.call.Request.{Request}
use Rattle.fs_base.specs.declared.code.Code.TheVariants as codes
use Rattle.fs_base.specs.declared.reply.Reply.{Reply}
use Rattle.fs_base.specs.declared.reply.Reply.TheVariants.{Done, Refused, Settled}
use Rattle.tree_model.specs.declared.kept.KeptReply.{KeptReply}
use Rattle.tree_model.specs.Creating.{make, symlink, new_dir, new_file}
use Rattle.tree_model.specs.Effects.{Effect, Leaves, Makes, Settles}
use Rattle.tree_model.specs.Finding.{lookup, stat, list, readlink, setattr}
use Rattle.tree_model.specs.Linking.{link, unlink, rmdir}
use Rattle.tree_model.specs.Moving.{rename}
use Rattle.tree_model.specs.Sessions.{extend, fstat, open_to_read, open_to_write}
use Rattle.tree_model.specs.Tree.{Tree}

-- the calls whose effect is told here
abbrev pub is_told : Call → Bool
is_told (calls.Lookup place) = true
is_told (calls.Stat place) = true
is_told (calls.List place) = true
is_told (calls.Readlink place) = true
is_told (calls.Openr place) = true
is_told (calls.Fstat session) = true
is_told (calls.Mkdir place mode layout) = true
is_told (calls.Create place mode layout) = true
is_told (calls.Symlink place target) = true
is_told (calls.Setattr place changes) = true
is_told (calls.Link from to) = true
is_told (calls.Unlink place) = true
is_told (calls.Rmdir place) = true
is_told (calls.Rename from to) = true
is_told (calls.Open place) = true
is_told (calls.Extend session place) = true
is_told _ = false

-- a query changes nothing, and its reply isn't kept
abbrev pub is_query : Call → Bool
is_query (calls.Lookup place) = true
is_query (calls.Stat place) = true
is_query (calls.List place) = true
is_query (calls.Readlink place) = true
is_query (calls.Openr place) = true
is_query (calls.Fstat session) = true
is_query calls.Doomed = true
is_query _ = false

-- a settling takes the file's length from the storage nodes
abbrev pub settles : Call → Bool
settles (calls.Fsync session) = true
settles (calls.Close session) = true
settles _ = false

-- the last line speaks of no call that is told
abbrev pub effect_of : Settings → Tree → Request → Call → Effect
effect_of C T q (calls.Lookup place) = lookup T place
effect_of C T q (calls.Stat place) = stat T place
effect_of C T q (calls.List place) = list T place
effect_of C T q (calls.Readlink place) = readlink T place
effect_of C T q (calls.Openr place) = open_to_read T place
effect_of C T q (calls.Fstat session) = fstat T q.client session
effect_of C T q (calls.Mkdir place mode layout) = make C T q.server q.stamp (new_dir mode layout) place
effect_of C T q (calls.Create place mode layout) = make C T q.server q.stamp (new_file mode layout) place
effect_of C T q (calls.Symlink place target) = symlink C T q.server q.stamp place target
effect_of C T q (calls.Setattr place changes) = setattr T q.stamp place changes
effect_of C T q (calls.Link from to) = link T q.stamp from to
effect_of C T q (calls.Unlink place) = unlink T q.stamp place
effect_of C T q (calls.Rmdir place) = rmdir T place
effect_of C T q (calls.Rename from to) = rename T q.stamp from to
effect_of C T q (calls.Open place) = open_to_write T q.client q.number place
effect_of C T q (calls.Extend session place) = extend T q.client session place
effect_of C T q _ = Leaves Done

abbrev pub effect : Settings → Tree → Request → Effect
effect C T q = effect_of C T q q.call

-- the reply is kept with the new tree, in place of the client's earlier one
abbrev pub keeps : Tree → Request → Reply → Tree
keeps T q reply = record T { kept = insert T.kept q.client.0 (record { number = q.number; reply = reply }) }

-- the length counts for a settling alone
abbrev pub settle : Tree → Request → ℕ → Effect → Tree × Reply
settle T q settled (Leaves reply) = (T, reply)
settle T q settled (Makes new reply) = (keeps new q reply, reply)
settle T q settled (Settles new) = (keeps (new settled) q (Settled settled), Settled settled)

-- the same number gives the kept reply; an earlier one is stale
abbrev pub after_kept : Settings → Tree → Request → ℕ → Option KeptReply → Tree × Reply
after_kept C T q settled None = settle T q settled (effect C T q)
after_kept C T q settled (Some kept) =
    if kept.number == q.number
    then (T, kept.reply)
    else (if nat_lt q.number kept.number then (T, Refused (codes.Stale kept.number))
    else settle T q settled (effect C T q))

-- The tree and the reply after a request, and a settled length, which is 0 where none is settled. An update
-- looks at its client's kept reply first.
unfoldable pub apply : Settings → Tree → Request → ℕ → Tree × Reply
apply C T q settled =
    if is_query q.call then settle T q settled (effect C T q)
    else after_kept C T q settled (get T.kept q.client.0)
