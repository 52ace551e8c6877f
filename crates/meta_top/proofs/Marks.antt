-- Which calls are marked as committed, and what a tree keeps of a client after a call with a new number.
use Rattle.std.proofs.Common.{◌≡◌, ℕ, ◌<◌, ◌≤◌, Bool, true, false, not, cond, refl, sym, ap, subst, ◌∙◌, arith, MatchOption}
use Rattle.std.specs.Prelude.{Option, Some, None, ⊤, IsTrue}
use Rattle.std.specs.FinMap.{get}
use Rattle.fs_base.specs.Config.{Settings}
use Rattle.fs_base.specs.declared.call.Request.{Request}
use Rattle.fs_base.specs.declared.reply.Reply.{Reply}
use Rattle.fs_base.specs.declared.reply.Reply.TheVariants.{Refused, Settled}
use Rattle.tree_model.specs.declared.kept.KeptReply.{KeptReply}
use Rattle.tree_model.specs.Calls.{effect, apply, is_query, settle}
use Rattle.path_walk.specs.Requests.{is_built}
use Rattle.tree_model.specs.Effects.{Effect, Leaves, Makes, Settles}
use Rattle.tree_model.specs.Tree.{Tree}
use Rattle.tree_model.proofs.ApplyLaws.{apply_new}
use Rattle.tree_model.proofs.MapLaws.{ids, get-set_same}
use Rattle.run_record.specs.Right.{IsNoRefusal}
use Rattle.meta_top.specs.Alone.{commits, is_refusal}
use Rattle.meta_top.proofs.Effects.{Refusing, update_refuses}

-- the tree keeps no reply of the client with this number or a greater one
abbrev pub IsNewIn : Tree → Request → Type 0
IsNewIn T q = MatchOption (get T.kept q.client.0) ⊤ (λ kept. kept.number < q.number)

abbrev kept_as : Request → Reply → KeptReply
kept_as q reply = record { number = q.number; reply = reply }

-- ---- a built call does the same whatever length is settled

pub length_free : (C : Settings) (T : Tree) (q : Request) (settled : ℕ) → IsTrue (is_built q.call) → is_query q.call ≡ false → IsNewIn T q → apply C T q settled ≡ apply C T q 0
length_free C T q settled built update new = apply_new C T q settled new ∙ (same (effect C T q) (update_refuses C T q q.call built update) ∙ sym (apply_new C T q 0 new))
  where
    same : (f : Effect) → Refusing f → settle T q settled f ≡ settle T q 0 f
    same (Leaves reply) refusal = refl
    same (Makes tree reply) refusal = refl
    same (Settles tree) refusal = absurd refusal

-- ---- marks

never : (b : Bool) → cond b false false ≡ false
never true = refl
never false = refl

pub told_mark : (C : Settings) (T : Tree) (q : Request) (reply : Reply) → IsTrue (is_built q.call) → IsNewIn T q → apply C T q 0 ≡ (T, reply) → commits q.call reply ≡ false
told_mark C T q reply built new is = here (is_query q.call) refl
  where
    refused : (f : Effect) → Refusing f → settle T q 0 f ≡ (T, reply) → commits q.call reply ≡ false
    refused (Leaves r) refusal e = ap (λ b. cond b false (not (is_query q.call))) (ap is_refusal (sym (ap (λ (x : Tree × Reply). x.1) e)) ∙ refusal)
    refused (Makes V r) refusal e =
        let kept : get T.kept q.client.0 ≡ Some (kept_as q r) = sym (ap (λ (x : Tree × Reply). get x.0.kept q.client.0) e) ∙ get-set_same ids V.kept q.client.0 (Some (kept_as q r)) in
        let less : q.number < q.number = subst (λ (o : Option KeptReply). MatchOption o ⊤ (λ k. k.number < q.number)) kept new in
        absurd (omega arith)
    refused (Settles new_tree) refusal e = absurd refusal

    here : (b : Bool) → is_query q.call ≡ b → commits q.call reply ≡ false
    here true e = ap (λ b. cond (is_refusal reply) false (not b)) e ∙ never (is_refusal reply)
    here false e = refused (effect C T q) (update_refuses C T q q.call built e) (sym (apply_new C T q 0 new) ∙ is)

-- an entry's call is marked
pub entry_mark : (q : Request) (reply : Reply) → is_query q.call ≡ false → IsNoRefusal reply → commits q.call reply ≡ true
entry_mark q reply update accepted = ap (λ b. cond b false (not (is_query q.call))) (no_refusal reply accepted) ∙ ap not update
  where
    no_refusal : (r : Reply) → IsNoRefusal r → is_refusal r ≡ false
    no_refusal (Refused code) h = absurd h
    no_refusal _ h = refl

-- ---- what is kept afterwards

weaker : (o : Option KeptReply) (n : ℕ) → MatchOption o ⊤ (λ k. k.number < n) → MatchOption o ⊤ (λ k. k.number ≤ n)
weaker None n h = tt
weaker (Some k) n h = omega arith

pub kept_after : (C : Settings) (T : Tree) (q : Request) → IsNewIn T q → MatchOption (get (apply C T q 0).0.kept q.client.0) ⊤ (λ k. k.number ≤ q.number)
kept_after C T q new = subst (λ (x : Tree × Reply). MatchOption (get x.0.kept q.client.0) ⊤ (λ k. k.number ≤ q.number)) (sym (apply_new C T q 0 new)) (after (effect C T q))
  where
    after : (f : Effect) → MatchOption (get (settle T q 0 f).0.kept q.client.0) ⊤ (λ k. k.number ≤ q.number)
    after (Leaves r) = weaker (get T.kept q.client.0) q.number new
    after (Makes V r) = subst (λ (o : Option KeptReply). MatchOption o ⊤ (λ k. k.number ≤ q.number)) (sym (get-set_same ids V.kept q.client.0 (Some (kept_as q r)))) (omega arith)
    after (Settles V) = subst (λ (o : Option KeptReply). MatchOption o ⊤ (λ k. k.number ≤ q.number)) (sym (get-set_same ids (V 0).kept q.client.0 (Some (kept_as q (Settled 0))))) (omega arith)
