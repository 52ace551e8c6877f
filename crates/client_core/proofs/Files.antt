-- What is kept of files stays laid out as the configuration asks.
use Rattle.std.proofs.Common.{ℕ, zero, suc, List, [], ◌∷◌, Option, Some, None}
use Rattle.std.specs.Prelude.{option_map}
use Rattle.std.proofs.lemmas.List.Elements.{All-head, All-replicate, All-set, All-tail}
use Rattle.fs_base.specs.Config.{Settings}
use Rattle.fs_base.specs.declared.call.Call.{Call}
use Rattle.fs_base.specs.declared.call.Call.TheVariants as calls
use Rattle.fs_base.specs.declared.call.Request.{Request}
use Rattle.fs_base.specs.declared.reply.Reply.{Reply}
use Rattle.fs_base.specs.declared.reply.Reply.TheVariants as replies
use Rattle.txn_task.specs.declared.outcome.Outcome.{Outcome}
use Rattle.client_core.specs.Descriptors.{after_call, descriptor_after, descriptor_at, descriptors_after, none_open, opened, told_on, with_descriptor}
use Rattle.client_core.specs.Files.{AreDescriptorsSound, IsDescriptorSound, IsFileSound}
use Rattle.client_core.specs.declared.descriptors.Descriptor.{Descriptor}

module _ (C : Settings) where
  pub none_sound : AreDescriptorsSound C none_open
  none_sound = All-replicate (IsDescriptorSound C) 256 None tt

  -- the one of any number, whether it is open or not
  pub sound_at : (descriptors : List (Option Descriptor)) (fd : Option ℕ) → AreDescriptorsSound C descriptors → IsDescriptorSound C (descriptor_at descriptors fd)
  sound_at descriptors None h = tt
  sound_at [] (Some fd) h = tt
  sound_at (descriptor ∷ descriptors) (Some zero) h = All-head (IsDescriptorSound C) descriptor descriptors h
  sound_at (descriptor ∷ descriptors) (Some (suc fd)) h = sound_at descriptors (Some fd) (All-tail (IsDescriptorSound C) descriptor descriptors h)

  opened_sound : (number version : ℕ) (reply : Reply) → IsFileSound C reply → IsDescriptorSound C (opened number version reply)
  opened_sound number version (replies.File info) h = h
  opened_sound number version reply h = tt

  told_sound : (version : ℕ) (reply : Reply) (before : Option Descriptor) → IsDescriptorSound C before → IsDescriptorSound C (option_map (told_on version reply) before)
  told_sound version reply None h = tt
  told_sound version (replies.Refused code) (Some kept) h = h
  told_sound version reply (Some kept) h = h

  after_sound : (call : Call) (number : ℕ) (outcome : Outcome) (before : Option Descriptor) → IsFileSound C outcome.reply → IsDescriptorSound C before
      → IsDescriptorSound C (after_call call number outcome before)
  after_sound (calls.Open place) number outcome before file h = opened_sound number outcome.version outcome.reply file
  after_sound (calls.Openr place) number outcome before file h = opened_sound 0 outcome.version outcome.reply file
  after_sound call number outcome before file h = told_sound outcome.version outcome.reply before h

  put_sound : (descriptors : List (Option Descriptor)) (fd : Option ℕ) (descriptor : Option Descriptor) → IsDescriptorSound C descriptor → AreDescriptorsSound C descriptors
      → AreDescriptorsSound C (with_descriptor descriptors fd descriptor)
  put_sound descriptors None descriptor one h = h
  put_sound descriptors (Some fd) descriptor one h = All-set (IsDescriptorSound C) descriptors fd descriptor one h

  -- once a call was answered with a reply whose file is so too
  pub answered_sound : (descriptors : List (Option Descriptor)) (fd : Option ℕ) (request : Request) (outcome : Outcome) → IsFileSound C outcome.reply → AreDescriptorsSound C descriptors
      → AreDescriptorsSound C (descriptors_after descriptors fd request outcome)
  answered_sound descriptors fd request outcome file h =
      put_sound descriptors fd (descriptor_after request outcome (descriptor_at descriptors fd))
      (after_sound request.call request.number outcome (descriptor_at descriptors fd) file (sound_at descriptors fd h)) h
