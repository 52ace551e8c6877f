-- In a legal journal an entry that was answered Done has made its tree: it is no kept reply.
use Rattle.std.proofs.Common.{◌≡◌, ◌≢◌, ◌⊎◌, inl, inr, ℕ, zero, suc, ◌<◌, Bool, true, false, cond, List, Option, Some, None, refl, sym, ap, ◌∙◌, arith}
use Rattle.std.specs.Prelude.{nat_lt, ◌==◌}
use Rattle.std.specs.FinMap.{get, get-empty}
use Rattle.std.specs.Ordering.{nat_cmp}
use Rattle.std.proofs.lemmas.Bool.{eqb-true}
use Rattle.fs_base.specs.Config.{Settings}
use Rattle.fs_base.specs.declared.call.Request.{Request}
use Rattle.fs_base.specs.declared.code.Code.TheVariants as codes
use Rattle.fs_base.specs.declared.ids.ClientId.{ClientId}
use Rattle.fs_base.specs.declared.layout.Layout.{Layout}
use Rattle.fs_base.specs.declared.reply.Reply.{Reply}
use Rattle.fs_base.specs.declared.reply.Reply.TheVariants.{Refused, Done, Settled}
use Rattle.tree_model.specs.declared.kept.Doom.TheVariants.{Purged}
use Rattle.tree_model.specs.declared.kept.KeptReply.{KeptReply}
use Rattle.tree_model.specs.Calls.{apply, effect, is_query, keeps, settle, after_kept}
use Rattle.tree_model.specs.Effects.{Effect, Leaves, Makes, Settles, at_length, settled_by}
use Rattle.tree_model.specs.Tree.{Tree, new_tree}
use Rattle.tree_model.proofs.MapLaws.{ids, get-set_cases}
use Rattle.txn_task.specs.declared.messages.Entry.{Entry}
use Rattle.histories.specs.Fitting.{IsPurge}
use Rattle.histories.specs.Journal.{EntryAt, applied, tree_after, tree_at, IsLegalJournal}
use Rattle.histories.specs.Steps.{IsChange, IsLawfulEffect}
use Rattle.histories.proofs.Versions.{AreKnown, place_or_end, reply_at, tree_next}

abbrev client_of : ℕ → ClientId
client_of n = record { 0 = n }

-- the effect was taken, or a kept reply stood in its way
abbrev Out : Settings → Tree → Request → ℕ → Tree × Reply → Type 0
Out C T q settled p =
    (p ≡ settle T q settled (effect C T q))
    ⊎ ((kept : KeptReply) × (get T.kept q.client.0 ≡ Some kept) × (((kept.number ≡ q.number) × (p ≡ (T, kept.reply))) ⊎ (p ≡ (T, Refused (codes.Stale kept.number)))))

out_of : (C : Settings) (T : Tree) (q : Request) (settled : ℕ) → Out C T q settled (apply C T q settled)
unfolding apply
out_of C T q settled = by_query (is_query q.call)
  where
    by_less : (b : Bool) (kept : KeptReply) → get T.kept q.client.0 ≡ Some kept → Out C T q settled (cond b (T, Refused (codes.Stale kept.number)) (settle T q settled (effect C T q)))
    by_less true kept is = inr (kept, is, inr refl)
    by_less false kept is = inl refl

    by_same : (b : Bool) (kept : KeptReply) → (kept.number == q.number) ≡ b → get T.kept q.client.0 ≡ Some kept
        → Out C T q settled (cond b (T, kept.reply) (cond (nat_lt q.number kept.number) (T, Refused (codes.Stale kept.number)) (settle T q settled (effect C T q))))
    by_same true kept e is = inr (kept, is, inl (eqb-true kept.number q.number e, refl))
    by_same false kept e is = by_less (nat_lt q.number kept.number) kept is

    by_kept : (o : Option KeptReply) → get T.kept q.client.0 ≡ o → Out C T q settled (after_kept C T q settled o)
    by_kept None is = inl refl
    by_kept (Some kept) is = by_same (kept.number == q.number) kept refl is

    by_query : (b : Bool) → Out C T q settled (cond b (settle T q settled (effect C T q)) (after_kept C T q settled (get T.kept q.client.0)))
    by_query true = inl refl
    by_query false = by_kept (get T.kept q.client.0) refl

module _ (C : Settings) (journal : List Entry) (lawful : IsLawfulEffect C) (known : AreKnown C journal) where
  -- a kept reply has its number from an entry before
  pub record IsKeptFrom (n client : ℕ) (kept : KeptReply) : Type 0 where
    pub place : ℕ
    pub before : place < n
    pub entry : Entry
    pub at : EntryAt journal place entry
    pub client_is : entry.request.client.0 ≡ client
    pub number : entry.request.number ≡ kept.number

  later : (n client : ℕ) (kept : KeptReply) → IsKeptFrom n client kept → IsKeptFrom (suc n) client kept
  later n client kept h = record { place = h.place; before = (let l : h.place < n = h.before in omega arith); entry = h.entry; at = h.at; client_is = h.client_is; number = h.number }

  -- after one more entry
  module _ (n : ℕ) (before : (client : ℕ) (kept : KeptReply) → get (tree_at C journal n).kept client ≡ Some kept → IsKeptFrom n client kept)
      (e : Entry) (at : EntryAt journal n e) (client : ℕ) (kept : KeptReply) where
    made_from : (V : Tree) (reply : Reply) → at_length (settled_by reply) (effect C (tree_at C journal n) e.request) ≡ Makes V reply → get (keeps V e.request reply).kept client ≡ Some kept → IsKeptFrom (suc n) client kept
    made_from V reply is found =
        elim (get-set_cases ids V.kept e.request.client.0 (Some (record { number = e.request.number; reply = reply })) client (Some kept) found) [
          | inl mine ↦
              (let same : record { number = e.request.number; reply = reply } ≡ kept = (let k : Some (record { number = e.request.number; reply = reply }) ≡ Some kept = mine.1 in some_same (record { number = e.request.number; reply = reply }) kept k) in
              record { place = n; before = omega arith; entry = e; at = at; client_is = sym mine.0; number = ap (λ (k : KeptReply). k.number) same })
          | inr other ↦
              (let kept_as : V.kept ≡ (tree_at C journal n).kept = (lawful (tree_at C journal n) V e.request reply (known n e at) is).kept in
              later n client kept (before client kept (ap (λ m. get m client) (sym kept_as) ∙ other.1)))
        ]
      where
        some_same : (x y : KeptReply) → Some x ≡ Some y → x ≡ y
        some_same x y k = cc

    settled_from : (settled : ℕ) (f : Effect) → effect C (tree_at C journal n) e.request ≡ f → get (settle (tree_at C journal n) e.request settled f).0.kept client ≡ Some kept → IsKeptFrom (suc n) client kept
    settled_from settled (Leaves reply) is found = later n client kept (before client kept found)
    settled_from settled (Makes V reply) is found = made_from V reply (ap (at_length (settled_by reply)) is) found
    settled_from settled (Settles V) is found = made_from (V settled) (Settled settled) (ap (at_length settled) is) found

    out_from : (settled : ℕ) (p : Tree × Reply) → Out C (tree_at C journal n) e.request settled p → get p.0.kept client ≡ Some kept → IsKeptFrom (suc n) client kept
    out_from settled p (inl anew) found = settled_from settled (effect C (tree_at C journal n) e.request) refl (ap (λ (r : Tree × Reply). get r.0.kept client) (sym anew) ∙ found)
    out_from settled p (inr stood) found = elim stood.2 [
      | inl same ↦ later n client kept (before client kept (ap (λ (r : Tree × Reply). get r.0.kept client) (sym same.1) ∙ found))
      | inr stale ↦ later n client kept (before client kept (ap (λ (r : Tree × Reply). get r.0.kept client) (sym stale) ∙ found))
    ]

  pub kept_from : (n client : ℕ) (kept : KeptReply) → get (tree_at C journal n).kept client ≡ Some kept → IsKeptFrom n client kept
  kept_from zero client kept is = absurd (let e : None ≡ Some kept = sym (get-empty nat_cmp client) ∙ is in cc)
  kept_from (suc n) client kept is = elim (place_or_end journal n) [
    | inl here ↦
        out_from n (kept_from n) here.0 here.1 client kept (settled_by here.0.reply) (applied C (tree_at C journal n) here.0) (out_of C (tree_at C journal n) here.0.request (settled_by here.0.reply))
        (ap (λ (T : Tree). get T.kept client) (sym (tree_next C (new_tree C) journal n here.0 here.1)) ∙ is)
    | inr over ↦ later n client kept (kept_from n client kept (ap (λ (es : List Entry). get (tree_after C (new_tree C) es).kept client) (sym over) ∙ is))
  ]

  -- ---- what an entry made

  -- the effect made a tree, which is the next with the reply kept
  pub record HasMade (place : ℕ) (e : Entry) : Type 0 where
    pub tree : Tree
    pub made : at_length (settled_by e.reply) (effect C (tree_at C journal place) e.request) ≡ Makes tree e.reply
    pub next : tree_at C journal (suc place) ≡ keeps tree e.request e.reply

  -- an entry answered Done, of a call whose effect doesn't leave the tree with Done
  pub has_made : IsLegalJournal C journal → (place : ℕ) (e : Entry) → EntryAt journal place e → e.reply ≡ Done → effect C (tree_at C journal place) e.request ≢ Leaves Done → HasMade place e
  has_made legal place e at is leaves = by_out (applied C (tree_at C journal place) e) refl (out_of C (tree_at C journal place) e.request (settled_by e.reply))
    where
      T : Tree
      T = tree_at C journal place

      reply : (p : Tree × Reply) → applied C (tree_at C journal place) e ≡ p → p.1 ≡ e.reply
      reply p same = ap (λ (r : Tree × Reply). r.1) (sym same) ∙ reply_at C (new_tree C) journal legal.replies place e at

      by_effect : (f : Effect) → effect C (tree_at C journal place) e.request ≡ f → applied C (tree_at C journal place) e ≡ settle (tree_at C journal place) e.request (settled_by e.reply) f → HasMade place e
      by_effect (Leaves r) made anew = absurd (leaves (made ∙ ap (λ (x : Reply). Leaves x) (reply (tree_at C journal place, r) anew ∙ is)))
      by_effect (Makes V r) made anew =
          let same : r ≡ e.reply = reply (keeps V e.request r, r) anew in
          record {
            tree = V;
            made = ap (at_length (settled_by e.reply)) made ∙ ap (λ (x : Reply). Makes V x) same;
            next = tree_next C (new_tree C) journal place e at ∙ ap (λ (p : Tree × Reply). p.0) anew ∙ ap (λ (x : Reply). keeps V e.request x) same;
          }
      by_effect (Settles V) made anew = absurd (let k : Settled (settled_by e.reply) ≡ Done = reply (keeps (V (settled_by e.reply)) e.request (Settled (settled_by e.reply)), Settled (settled_by e.reply)) anew ∙ is in cc)

      by_out : (p : Tree × Reply) → applied C (tree_at C journal place) e ≡ p → Out C (tree_at C journal place) e.request (settled_by e.reply) p → HasMade place e
      by_out p same (inl anew) = by_effect (effect C (tree_at C journal place) e.request) refl (same ∙ anew)
      by_out p same (inr stood) = elim stood.2 [
        | inl equal ↦ absurd (
            let from : IsKeptFrom place e.request.client.0 stood.0 = kept_from place e.request.client.0 stood.0 stood.1 in
            let clients : from.entry.request.client ≡ e.request.client = ap client_of from.client_is in
            let places : from.place ≡ place = legal.once from.place place from.entry e from.at at clients (from.number ∙ equal.0) in
            let less : from.place < place = from.before in
            omega arith)
        | inr stale ↦ absurd (let e : Refused (codes.Stale stood.0.number) ≡ Done = reply (tree_at C journal place, Refused (codes.Stale stood.0.number)) (same ∙ stale) ∙ is in cc)
      ]

  -- ---- who purged

  -- an entry behind which the file is purged, and wasn't before, is its purge
  pub purge_at : IsLegalJournal C journal → (place : ℕ) (e : Entry) (id : ℕ) (layout : Layout) (hint : ℕ) → EntryAt journal place e → get (tree_at C journal place).doomed id ≢ Some (Purged layout hint)
      → get (tree_at C journal (suc place)).doomed id ≡ Some (Purged layout hint) → IsPurge journal id (suc place)
  purge_at legal place e id layout hint at before after =
      by_out (applied C (tree_at C journal place) e) refl (out_of C (tree_at C journal place) e.request (settled_by e.reply))
      (ap (λ (T : Tree). get T.doomed id) (sym (tree_next C (new_tree C) journal place e at)) ∙ after)
    where
      reply : (p : Tree × Reply) → applied C (tree_at C journal place) e ≡ p → p.1 ≡ e.reply
      reply p same = ap (λ (r : Tree × Reply). r.1) (sym same) ∙ reply_at C (new_tree C) journal legal.replies place e at

      by_made : (V : Tree) (r : Reply) → at_length (settled_by r) (effect C (tree_at C journal place) e.request) ≡ Makes V r → r ≡ e.reply → get V.doomed id ≡ Some (Purged layout hint) → IsPurge journal id (suc place)
      by_made V r made same there =
          let change : IsChange e.request r (tree_at C journal place) V = lawful (tree_at C journal place) V e.request r (known place e at) made in
          elim (change.purges id layout hint there) [
            | inl older ↦ absurd (before older)
            | inr call ↦ record { place = place; named = omega arith; entry = e; at = at; call = call; reply = sym same ∙ change.done id call }
          ]

      by_effect : (f : Effect) → effect C (tree_at C journal place) e.request ≡ f → applied C (tree_at C journal place) e ≡ settle (tree_at C journal place) e.request (settled_by e.reply) f
          → get (settle (tree_at C journal place) e.request (settled_by e.reply) f).0.doomed id ≡ Some (Purged layout hint) → IsPurge journal id (suc place)
      by_effect (Leaves r) made anew there = absurd (before there)
      by_effect (Makes V r) made anew there = by_made V r (ap (at_length (settled_by r)) made) (reply (keeps V e.request r, r) anew) there
      by_effect (Settles V) made anew there =
          let n : ℕ = settled_by e.reply in
          by_made (V n) (Settled n) (ap (at_length n) made) (reply (keeps (V n) e.request (Settled n), Settled n) anew) there

      by_out : (p : Tree × Reply) → applied C (tree_at C journal place) e ≡ p → Out C (tree_at C journal place) e.request (settled_by e.reply) p
          → get (applied C (tree_at C journal place) e).0.doomed id ≡ Some (Purged layout hint) → IsPurge journal id (suc place)
      by_out p same (inl anew) there = by_effect (effect C (tree_at C journal place) e.request) refl (same ∙ anew) (ap (λ (r : Tree × Reply). get r.0.doomed id) (sym (same ∙ anew)) ∙ there)
      by_out p same (inr stood) there = elim stood.2 [
        | inl equal ↦ absurd (before (ap (λ (r : Tree × Reply). get r.0.doomed id) (sym (same ∙ equal.1)) ∙ there))
        | inr stale ↦ absurd (before (ap (λ (r : Tree × Reply). get r.0.doomed id) (sym (same ∙ stale)) ∙ there))
      ]
