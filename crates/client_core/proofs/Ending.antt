-- A client that has ended: nothing is under way, and nothing left.
use Rattle.std.proofs.Common.{◌≡◌, ℕ, ◌≤◌, Option, Some, None, true, false, cond, nat_le, le-leb, length, refl, ap, ◌∙◌}
use Rattle.std.specs.Prelude.{is_some}
use Rattle.std.proofs.lemmas.Bool.{leb-true}
use Rattle.fs_base.specs.declared.call.Request.{Request}
use Rattle.client_core.specs.Client.{ClientView, has_ended}

parts : (under_way : Option Request) (len op : ℕ) → cond (is_some under_way) false (nat_le len op) ≡ true → (under_way ≡ None) × (len ≤ op)
parts (Some request) len op e = absurd (let f : false ≡ true = e in cc)
parts None len op e = (refl, leb-true len op e)

pub ended_is : (c : ClientView) → has_ended c ≡ true → (c.request ≡ None) × (length c.script.ops ≤ c.op)
ended_is c e = parts c.request (length c.script.ops) c.op e

pub has_ended_by : (c : ClientView) → c.request ≡ None → length c.script.ops ≤ c.op → has_ended c ≡ true
has_ended_by c none all = ap (λ (o : Option Request). cond (is_some o) false (nat_le (length c.script.ops) c.op)) none ∙ le-leb (length c.script.ops) c.op all
