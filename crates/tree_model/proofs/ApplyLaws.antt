-- A call with its kept reply, by what kind of call it is and by its number.
use Rattle.std.proofs.Common.{◌≡◌, ℕ, ◌<◌, ◌==◌, nat_lt, Bool, true, false, cond, refl, ap, ◌∙◌, arith, ne_eqb, le-ltb, MatchOption}
use Rattle.std.specs.Prelude.{Option, Some, None, ⊤}
use Rattle.std.specs.FinMap.{get}
use Rattle.fs_base.specs.Config.{Settings}
use Rattle.fs_base.specs.declared.call.Request.{Request}
use Rattle.fs_base.specs.declared.code.Code.TheVariants.{Stale}
use Rattle.fs_base.specs.declared.reply.Reply.TheVariants.{Refused}
use Rattle.tree_model.specs.declared.kept.KeptReply.{KeptReply}
use Rattle.tree_model.specs.Calls.{effect, apply, is_query, settle, after_kept}
use Rattle.tree_model.specs.Effects.{Effect, Leaves, Makes, Settles, at_length}
use Rattle.tree_model.specs.Tree.{Tree}

-- no reply is kept, or one of a smaller number
abbrev pub IsNewNumber : Option KeptReply → ℕ → Type 0
IsNewNumber o number = MatchOption o ⊤ (λ kept. kept.number < number)

pub apply_query : (C : Settings) (T : Tree) (q : Request) (settled : ℕ) → is_query q.call ≡ true → apply C T q settled ≡ settle T q settled (effect C T q)
unfolding apply
apply_query C T q settled query = ap (λ b. cond b (settle T q settled (effect C T q)) (after_kept C T q settled (get T.kept q.client.0))) query

pub apply_update : (C : Settings) (T : Tree) (q : Request) (settled : ℕ) → is_query q.call ≡ false → apply C T q settled ≡ after_kept C T q settled (get T.kept q.client.0)
unfolding apply
apply_update C T q settled update = ap (λ b. cond b (settle T q settled (effect C T q)) (after_kept C T q settled (get T.kept q.client.0))) update

-- an update with a new number has its effect
pub update_new : (C : Settings) (T : Tree) (q : Request) (settled : ℕ) (o : Option KeptReply) → IsNewNumber o q.number → after_kept C T q settled o ≡ settle T q settled (effect C T q)
update_new C T q settled None new = refl
update_new C T q settled (Some kept) new =
    let other : (kept.number == q.number) ≡ false = ne_eqb kept.number q.number (λ e. omega arith) in
    let later : nat_lt q.number kept.number ≡ false = le-ltb q.number kept.number (omega arith) in
    ap (λ b. cond b (T, kept.reply) (cond (nat_lt q.number kept.number) (T, Refused (Stale kept.number)) (settle T q settled (effect C T q)))) other
    ∙ ap (λ b. cond b (T, Refused (Stale kept.number)) (settle T q settled (effect C T q))) later

-- so does every call
pub apply_new : (C : Settings) (T : Tree) (q : Request) (settled : ℕ) → IsNewNumber (get T.kept q.client.0) q.number → apply C T q settled ≡ settle T q settled (effect C T q)
unfolding apply
apply_new C T q settled new = here (is_query q.call)
  where
    here : (b : Bool) → cond b (settle T q settled (effect C T q)) (after_kept C T q settled (get T.kept q.client.0)) ≡ settle T q settled (effect C T q)
    here true = refl
    here false = update_new C T q settled (get T.kept q.client.0) new

-- what is settled is the effect at that length
pub settle_at : (T : Tree) (q : Request) (settled : ℕ) (f : Effect) → settle T q settled f ≡ settle T q settled (at_length settled f)
settle_at T q settled (Leaves reply) = refl
settle_at T q settled (Makes tree reply) = refl
settle_at T q settled (Settles tree) = refl
