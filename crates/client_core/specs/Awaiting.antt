-- What a client waits for that has asked.
use Rattle.std.specs.Prelude.{◌≡◌, Option, Some, None}
use Rattle.fs_base.specs.declared.call.Request.{Request}
use Rattle.client_core.specs.declared.messages.ClientAsk.{ClientAsk}
use Rattle.client_core.specs.declared.messages.ClientAsk.TheVariants as asks

-- the request under way is the one that was sent last
abbrev pub Awaits : Option Request → ClientAsk → Type 0
Awaits under_way (asks.Send server request) = under_way ≡ Some request
Awaits under_way ask = under_way ≡ None
