-- The bytes of a reply.
use Rattle.std.specs.Prelude.{ℕ, List, [], ◌∷◌, Bool, true, false, Result}
use Rattle.fs_base.specs.declared.code.Code.{Code}
use Rattle.fs_base.specs.declared.code.Code.TheVariants as codes
use Rattle.fs_base.specs.declared.code.Limit.{Limit}
use Rattle.fs_base.specs.declared.code.Limit.TheVariants as limits
use Rattle.fs_base.specs.declared.kind.Kind.{Kind}
use Rattle.fs_base.specs.declared.layout.Layout.{Layout}
use Rattle.fs_base.specs.declared.reply.Attributes.{Attributes}
use Rattle.fs_base.specs.declared.reply.DataRun.{DataRun}
use Rattle.fs_base.specs.declared.reply.DeletionPhase.{DeletionPhase}
use Rattle.fs_base.specs.declared.reply.DeletionPhase.TheVariants as phases
use Rattle.fs_base.specs.declared.reply.DirEntry.{DirEntry}
use Rattle.fs_base.specs.declared.reply.DoomedInode.{DoomedInode}
use Rattle.fs_base.specs.declared.reply.FileInfo.{FileInfo}
use Rattle.fs_base.specs.declared.reply.Reply.{Reply}
use Rattle.fs_base.specs.declared.reply.Reply.TheVariants as replies
use Rattle.byte_fields.specs.Forms.{Form, nothing, paired, shaped, listed, anywhere, Arm, arm, Tagged, tagged, choice, whole}
use Rattle.byte_fields.specs.Fields.{number_1, number_2, number_4, number_8, inode_id, mode, time, file_size, layout_form, kind, text}

-- what `stat` tells: which inode, whose, and when it was used
unfoldable pub identity : Form (ℕ × (Kind × ℕ))
identity = paired inode_id (paired kind mode)

unfoldable pub ownership : Form (ℕ × (ℕ × ℕ))
ownership = paired number_4 (paired number_4 number_4)

unfoldable pub three_times : Form (ℕ × (ℕ × ℕ))
three_times = paired time (paired time time)

unfoldable pub attributes : Form Attributes
attributes =
    shaped (paired identity (paired ownership (paired three_times number_8)))
    (λ ((id, (k, m)), ((o, (g, l)), ((a, (w, c)), s))). record {
      inode = id;
      kind = k;
      mode = m;
      owner = o;
      group = g;
      links = l;
      atime = a;
      mtime = w;
      ctime = c;
      length = s;
    })
    (λ t. (
      (t.inode, (t.kind, t.mode)),
      ((t.owner, (t.group, t.links)), ((t.atime, (t.mtime, t.ctime)), t.length)),
    ))

unfoldable pub entry : Form DirEntry
entry =
    shaped (paired text (paired inode_id kind)) (λ (n, (id, k)). record { name = n; inode = id; kind = k })
    (λ e. (e.name, (e.inode, e.kind)))

unfoldable pub names : Form (List DirEntry)
names = listed number_8 entry anywhere

-- a layout as it was told: each number as wide as it is
unfoldable pub told_layout : Form Layout
told_layout = layout_form number_4 number_2 number_2 number_8

unfoldable pub file_info : Form FileInfo
file_info =
    shaped (paired inode_id (paired number_8 (paired number_4 (paired told_layout number_2))))
    (λ (id, (s, (t, (l, h)))). record { inode = id; length = s; truncs = t; layout = l; hint = h })
    (λ f. (f.inode, (f.length, (f.truncs, (f.layout, f.hint)))))

-- 0 for no, 1 for yes
abbrev pub written_bool : Bool → Tagged
written_bool false = tagged 0 nothing tt
written_bool true = tagged 1 nothing tt

abbrev pub bool_arms : List (Arm Bool)
bool_arms = arm 0 nothing (λ x. false) ∷ arm 1 nothing (λ x. true) ∷ []

unfoldable pub adopted : Form Bool
adopted = choice number_1 written_bool bool_arms

abbrev pub written_phase : DeletionPhase → Tagged
written_phase phases.Waiting = tagged 0 nothing tt
written_phase phases.Purged = tagged 1 nothing tt

abbrev pub phase_arms : List (Arm DeletionPhase)
phase_arms = arm 0 nothing (λ x. phases.Waiting) ∷ arm 1 nothing (λ x. phases.Purged) ∷ []

unfoldable pub phase : Form DeletionPhase
phase = choice number_1 written_phase phase_arms

unfoldable pub doomed_inode : Form DoomedInode
doomed_inode =
    shaped (paired inode_id phase) (λ (id, p). record { inode = id; phase = p }) (λ d. (d.inode, d.phase))

unfoldable pub doomed : Form (List DoomedInode)
doomed = listed number_8 doomed_inode anywhere

unfoldable pub data_run : Form DataRun
data_run =
    shaped (paired number_8 (paired number_8 number_1))
    (λ (o, (n, b)). record { offset = o; len = n; fill = b }) (λ r. (r.offset, (r.len, r.fill)))

unfoldable pub data_runs : Form (List DataRun)
data_runs = listed number_8 data_run anywhere

abbrev pub written_limit : Limit → Tagged
written_limit limits.Inodes = tagged 1 nothing tt
written_limit limits.Links = tagged 2 nothing tt
written_limit limits.Truncations = tagged 3 nothing tt

abbrev pub limit_arms : List (Arm Limit)
limit_arms =
    arm 1 nothing (λ x. limits.Inodes) ∷ arm 2 nothing (λ x. limits.Links)
    ∷ arm 3 nothing (λ x. limits.Truncations) ∷ []

unfoldable pub limit : Form Limit
limit = choice number_1 written_limit limit_arms

-- a refusal's tag is 64 and the number of its code
abbrev pub written_code : Code → Tagged
written_code codes.BadPath = tagged 65 nothing tt
written_code codes.BadName = tagged 66 nothing tt
written_code codes.NotFound = tagged 67 nothing tt
written_code codes.NotDir = tagged 68 nothing tt
written_code codes.IsDir = tagged 69 nothing tt
written_code codes.Exists = tagged 70 nothing tt
written_code codes.NotEmpty = tagged 71 nothing tt
written_code codes.LinkLoop = tagged 72 nothing tt
written_code codes.IntoItself = tagged 73 nothing tt
written_code codes.IsRoot = tagged 74 nothing tt
written_code codes.NotLink = tagged 75 nothing tt
written_code codes.NoSession = tagged 76 nothing tt
written_code codes.InUse = tagged 77 nothing tt
written_code codes.NotDoomed = tagged 78 nothing tt
written_code codes.NotPurged = tagged 79 nothing tt
written_code codes.BadLayout = tagged 80 nothing tt
written_code codes.TooLong = tagged 81 nothing tt
written_code (codes.AtLimit which) = tagged 82 limit which
written_code codes.ShortHint = tagged 83 nothing tt
written_code (codes.Stale n) = tagged 84 number_8 n
written_code codes.Conflict = tagged 85 nothing tt
written_code codes.StoreFull = tagged 86 nothing tt
written_code (codes.NodeFull node written) = tagged 87 (paired number_1 number_8) (node, written)
written_code (codes.Removed version written) = tagged 88 (paired number_8 number_8) (version, written)

-- by reply; that the arms, by tag, are the same table is proved (`replies_are_spelled`)
abbrev pub written_reply : Reply → Tagged
written_reply (replies.Made id) = tagged 1 inode_id id
written_reply replies.Done = tagged 2 nothing tt
written_reply (replies.Found id k) = tagged 3 (paired inode_id kind) (id, k)
written_reply (replies.Attr a) = tagged 4 attributes a
written_reply (replies.Names entries) = tagged 5 names entries
written_reply (replies.Target path) = tagged 6 text path
written_reply (replies.File info) = tagged 7 file_info info
written_reply (replies.Hint hint) = tagged 8 number_2 hint
written_reply (replies.Reported taken length) = tagged 9 (paired adopted number_8) (taken, length)
written_reply (replies.Settled length) = tagged 10 file_size length
written_reply (replies.Cut length truncs) = tagged 11 (paired number_8 number_4) (length, truncs)
written_reply (replies.Doomed ids) = tagged 12 doomed ids
written_reply (replies.Pruned n) = tagged 13 number_8 n
written_reply (replies.Wrote bytes pieces) = tagged 14 (paired number_8 number_4) (bytes, pieces)
written_reply (replies.Data runs) = tagged 15 data_runs runs
written_reply (replies.Swept n) = tagged 16 number_8 n
written_reply (replies.Refused code) = written_code code

-- how each tag reads
unfoldable pub code_arms : List (Arm Reply)
code_arms =
    arm 81 nothing (λ x. replies.Refused codes.TooLong)
    ∷ arm 82 limit (λ which. replies.Refused (codes.AtLimit which))
    ∷ arm 83 nothing (λ x. replies.Refused codes.ShortHint)
    ∷ arm 84 number_8 (λ n. replies.Refused (codes.Stale n))
    ∷ arm 85 nothing (λ x. replies.Refused codes.Conflict)
    ∷ arm 86 nothing (λ x. replies.Refused codes.StoreFull)
    ∷ arm 87 (paired number_1 number_8) (λ (node, written). replies.Refused (codes.NodeFull node written))
    ∷ arm 88 (paired number_8 number_8)
    (λ (version, written). replies.Refused (codes.Removed version written))
    ∷ []

unfoldable pub inode_arms : List (Arm Reply)
inode_arms =
    arm 73 nothing (λ x. replies.Refused codes.IntoItself)
    ∷ arm 74 nothing (λ x. replies.Refused codes.IsRoot)
    ∷ arm 75 nothing (λ x. replies.Refused codes.NotLink)
    ∷ arm 76 nothing (λ x. replies.Refused codes.NoSession)
    ∷ arm 77 nothing (λ x. replies.Refused codes.InUse)
    ∷ arm 78 nothing (λ x. replies.Refused codes.NotDoomed)
    ∷ arm 79 nothing (λ x. replies.Refused codes.NotPurged)
    ∷ arm 80 nothing (λ x. replies.Refused codes.BadLayout)
    ∷ code_arms

unfoldable pub path_arms : List (Arm Reply)
path_arms =
    arm 65 nothing (λ x. replies.Refused codes.BadPath)
    ∷ arm 66 nothing (λ x. replies.Refused codes.BadName)
    ∷ arm 67 nothing (λ x. replies.Refused codes.NotFound)
    ∷ arm 68 nothing (λ x. replies.Refused codes.NotDir)
    ∷ arm 69 nothing (λ x. replies.Refused codes.IsDir)
    ∷ arm 70 nothing (λ x. replies.Refused codes.Exists)
    ∷ arm 71 nothing (λ x. replies.Refused codes.NotEmpty)
    ∷ arm 72 nothing (λ x. replies.Refused codes.LinkLoop)
    ∷ inode_arms

unfoldable pub count_arms : List (Arm Reply)
count_arms =
    arm 13 number_8 (λ n. replies.Pruned n)
    ∷ arm 14 (paired number_8 number_4) (λ (bytes, pieces). replies.Wrote bytes pieces)
    ∷ arm 15 data_runs (λ runs. replies.Data runs)
    ∷ arm 16 number_8 (λ n. replies.Swept n)
    ∷ path_arms

unfoldable pub file_arms : List (Arm Reply)
file_arms =
    arm 7 file_info (λ info. replies.File info)
    ∷ arm 8 number_2 (λ hint. replies.Hint hint)
    ∷ arm 9 (paired adopted number_8) (λ (taken, length). replies.Reported taken length)
    ∷ arm 10 file_size (λ length. replies.Settled length)
    ∷ arm 11 (paired number_8 number_4) (λ (length, truncs). replies.Cut length truncs)
    ∷ arm 12 doomed (λ ids. replies.Doomed ids)
    ∷ count_arms

unfoldable pub found_arms : List (Arm Reply)
found_arms =
    arm 1 inode_id (λ id. replies.Made id)
    ∷ arm 2 nothing (λ x. replies.Done)
    ∷ arm 3 (paired inode_id kind) (λ (id, k). replies.Found id k)
    ∷ arm 4 attributes (λ a. replies.Attr a)
    ∷ arm 5 names (λ entries. replies.Names entries)
    ∷ arm 6 text (λ path. replies.Target path)
    ∷ file_arms

unfoldable pub reply : Form Reply
reply = choice number_1 written_reply found_arms

-- the bytes of a reply; whether it may be spelled; and the reply that bytes spell, or the place where they
-- don't
abbrev pub spelled_reply : Reply → List ℕ
spelled_reply = reply.spelled

abbrev pub is_reply : Reply → Bool
is_reply = reply.fits

abbrev pub read_reply : List ℕ → Result Reply ℕ
read_reply bytes = whole reply bytes
