-- Files as replies and descriptors show them: each has a layout that the configuration gives its inode.
use Rattle.std.specs.Prelude.{◌≡◌, ◌≤◌, ℕ, List, Option, Some, All, IfSome}
use Rattle.fs_base.specs.Config.{Settings, layout_given}
use Rattle.fs_base.specs.declared.layout.Layout.{Layout}
use Rattle.fs_base.specs.declared.reply.Reply.{Reply}
use Rattle.fs_base.specs.declared.reply.Reply.TheVariants as replies
use Rattle.client_core.specs.declared.descriptors.Descriptor.{Descriptor}
use Rattle.client_core.specs.declared.messages.ClientAnswer.{ClientAnswer}
use Rattle.client_core.specs.declared.messages.ClientAnswer.TheVariants as answers

-- the layout is the one that the configuration gives this inode for a chunk and a stripe, and 1 to all of its
-- places are in use
pub record IsLaidOut (C : Settings) (inode : ℕ) (layout : Layout) (hint : ℕ) : Type 0 where
  pub given : layout_given C inode (record { chunk = layout.chunk; stripe = layout.stripe }) ≡ Some layout
  pub some : 1 ≤ hint
  pub within : hint ≤ layout.stripe

-- a file that a reply shows is laid out so
abbrev pub IsFileSound : Settings → Reply → Type 0
IsFileSound C (replies.File info) = IsLaidOut C info.inode info.layout info.hint
IsFileSound C reply = Unit {0}

-- and that of an answer's reply
abbrev pub ShowsSound : Settings → ClientAnswer → Type 0
ShowsSound C (answers.Replied server outcome) = IsFileSound C outcome.reply
ShowsSound C answer = Unit {0}

-- ---- what is kept of it

abbrev pub IsDescriptorSound : Settings → Option Descriptor → Type 0
IsDescriptorSound C descriptor =
    IfSome descriptor (λ kept. IsLaidOut C kept.session.inode kept.layout kept.hint)

abbrev pub AreDescriptorsSound : Settings → List (Option Descriptor) → Type 0
AreDescriptorsSound C descriptors = All (IsDescriptorSound C) descriptors
