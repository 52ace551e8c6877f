-- What a client keeps of the files that it opens, and what answers change of it.
use Rattle.std.specs.Prelude.{ℕ, List, slice_index_or, slice_set, replicate, Option, Some, None, option_map}
use Rattle.fs_base.specs.declared.call.Call.{Call}
use Rattle.fs_base.specs.declared.call.Call.TheVariants as calls
use Rattle.fs_base.specs.declared.call.Request.{Request}
use Rattle.fs_base.specs.declared.call.Session.{Session}
use Rattle.fs_base.specs.declared.reply.Reply.{Reply}
use Rattle.fs_base.specs.declared.reply.Reply.TheVariants as replies
use Rattle.txn_task.specs.declared.outcome.Outcome.{Outcome}
use Rattle.client_core.specs.declared.descriptors.Descriptor.{Descriptor}
use Rattle.client_core.specs.declared.descriptors.TheConstants.{DESCRIPTORS}

-- ---- descriptors by their numbers: each is open or isn't

abbrev pub none_open : List (Option Descriptor)
none_open = replicate DESCRIPTORS None

abbrev pub descriptor_at : List (Option Descriptor) → Option ℕ → Option Descriptor
descriptor_at descriptors None = None
descriptor_at descriptors (Some fd) = slice_index_or descriptors fd None

abbrev pub with_descriptor : List (Option Descriptor) → Option ℕ → Option Descriptor → List (Option Descriptor)
with_descriptor descriptors None descriptor = descriptors
with_descriptor descriptors (Some fd) descriptor = slice_set descriptors fd descriptor

-- what a call on a descriptor is sent with: where it isn't open that is inode 0, and no session's number
abbrev pub session_of : Option Descriptor → Session
session_of None = record { inode = 0; number = 0 }
session_of (Some descriptor) = descriptor.session

-- ---- answers

-- a file that was opened, by the number of its session; 0 is read-only. Any other answer leaves it not open
abbrev pub opened : ℕ → ℕ → Reply → Option Descriptor
opened number version (replies.File info) =
    Some
    (record {
      session = record { inode = info.inode; number = number };
      layout = info.layout;
      hint = info.hint;
      truncs = info.truncs;
      version = version;
    })
opened number version reply = None

-- a refusal tells nothing; any other answer raises the kept version
abbrev pub told_on : ℕ → Reply → Descriptor → Descriptor
told_on version (replies.Refused code) descriptor = descriptor
told_on version reply descriptor = record descriptor { version = version }

abbrev pub after_call : Call → ℕ → Outcome → Option Descriptor → Option Descriptor
after_call (calls.Open place) number outcome before = opened number outcome.version outcome.reply
after_call (calls.Openr place) number outcome before = opened 0 outcome.version outcome.reply
after_call call number outcome before = option_map (told_on outcome.version outcome.reply) before

-- a descriptor once a call on it was answered
abbrev pub descriptor_after : Request → Outcome → Option Descriptor → Option Descriptor
descriptor_after request outcome before = after_call request.call request.number outcome before

-- and all of them, where the call is on this one or on none
abbrev pub descriptors_after : List (Option Descriptor) → Option ℕ → Request → Outcome → List (Option Descriptor)
descriptors_after descriptors fd request outcome =
    with_descriptor descriptors fd (descriptor_after request outcome (descriptor_at descriptors fd))
