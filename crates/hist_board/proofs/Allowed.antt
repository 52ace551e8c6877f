-- What each step asks of its seat.
use Rattle.std.proofs.Common.{◌≡◌, ◌≢◌, ℕ, ◌+◌, ◌*◌, ◌%◌, ◌^◌, ◌<◌, ◌==◌, List, [], ◌∷◌, ◌++◌, length, map, set, Option, refl, sym, ap, ◌∙◌, subst, arith, length-set, length-append, mod-eq_of_lt}
use Rattle.std.specs.Prelude.{Contains, slice_index, slice_index_or}
use Rattle.std.proofs.Math.Seq.{get_or-set_same, get_or-set_other}
use mathlib.Core.Option.{none, some}
use native.Mathlib.Decide.{ℕ_discrete}
use lib.ListN.{get_elem?}
use prog.Atomic.{either}
use Rattle.atomic_table.specs.Table.{State, Me, step, Allows, Act, keeps, takes, gives, Valid, stepped, carried_after}
use Rattle.atomic_table.proofs.Lists.{at_map, exchanged}
use Rattle.hist_board.specs.Turn.{Turn, no_turn, waits, served, borrows}
use Rattle.hist_board.specs.Rule.{Lane, Knows, Fitted, Live, turn_at, seen_at, lane, with_turn, with_seen, frame_of, errands_under, fits_under, IsAs, IsBoard}
use Rattle.hist_board.specs.Plays.{Possible, drawn, looked, taken, grown, passed}
use Rattle.hist_board.specs.declared.view.View.{View}
use Rattle.hist_board.proofs.Lanes as lanes
use Rattle.hist_board.proofs.Lanes.{within}
use Rattle.hist_board.proofs.Moves.{set_same, at_or, map_at, fitted, moved, still, same_words, known}

module _ {S I F : Type 0} (hist : S → List I) (frame : S → F) (kind : S → ℕ) (errands : F → I → List ℕ)
    (fits : F → List (List I) → Type 0) (made : List S) where
  abbrev R : State S (View I F) → Type 0
  R = IsBoard hist frame kind errands fits made

  abbrev fr : Option F
  fr = frame_of frame made

  abbrev kinds : List ℕ
  kinds = map kind made

  abbrev alike : ℕ → S → Type 0
  alike o = IsAs frame kind fr (slice_index kinds o)

  abbrev E : I → List ℕ
  E = errands_under errands fr

  abbrev Fit : List (List I) → Type 0
  Fit = fits_under fits fr

  -- what the view has of another object stays
  turn_else : (v : View I F) (o : ℕ) (t : Turn) (p : ℕ) → p ≢ o → lane p (with_turn o t v) ≡ lane p v
  turn_else v o t p n = λ i.
      record { turn = get_or-set_other v.turns o p t no_turn n i; seen = seen_at v p; mine = v.errands }

  seen_else : (v : View I F) (o : ℕ) (h : List I) (p : ℕ) → p ≢ o → lane p (with_seen o h v) ≡ lane p v
  seen_else v o h p n = λ i.
      record { turn = turn_at v p; seen = get_or-set_other v.seen o p h [] n i; mine = v.errands }

  turn_here : (v : View I F) (o : ℕ) (t : Turn) → o < length v.turns
      → lane o (with_turn o t v) ≡ record { turn = t; seen = seen_at v o; mine = v.errands }
  turn_here v o t lt = λ i.
      record { turn = get_or-set_same v.turns o t no_turn lt i; seen = seen_at v o; mine = v.errands }

  seen_here : (v : View I F) (o : ℕ) (h : List I) → o < length v.seen
      → lane o (with_seen o h v) ≡ record { turn = turn_at v o; seen = h; mine = v.errands }
  seen_here v o h lt = λ i.
      record { turn = turn_at v o; seen = get_or-set_same v.seen o h [] lt i; mine = v.errands }

  turn_fits : (v : View I F) (o : ℕ) (t : Turn) → Fitted fr kinds v → Fitted fr kinds (with_turn o t v)
  turn_fits v o t f =
      record { same_frame = f.same_frame; same_kinds = f.same_kinds; each_seen = f.each_seen; each_turn = length-set v.turns o t ∙ f.each_turn }

  seen_fits : (v : View I F) (o : ℕ) (h : List I) → Fitted fr kinds v → Fitted fr kinds (with_seen o h v)
  seen_fits v o h f =
      record {
        same_frame = f.same_frame;
        same_kinds = f.same_kinds;
        each_seen = length-set v.seen o h
            ∙ f.each_seen;
        each_turn = f.each_turn;
      }

  pub draw_allowed : (slots id : ℕ) (me : Me S (View I F)) (o next : ℕ) → o < length me.0.kinds → Live me.0
      → turn_at me.0 o ≡ no_turn → next + 1 < 2 ^ 64
      → Allows R slots id me (3 * o) (λ n. either (n == next) (next + 1) n)
      (drawn (step slots (3 * o) next (next + 1) none) me)
  draw_allowed slots id me o next near live free room s k sl at lt =
      exchanged (slice_index s.words (3 * o)) next (next + 1)
      (λ (x : ℕ). (w : View I F) × (a : Act S) × Valid s.homes me.1 a × R (stepped s (3 * o) x id me.1 w a)
      × drawn (step slots (3 * o) next (next + 1) none) me (slice_index s.words (3 * o))
      (w, carried_after me.1 a))
      hit
      (λ ne. (
        me.0,
        keeps,
        tt,
        still hist alike E Fit fr kinds s (3 * o) id me.0 k at,
        (refl, (o, refl, λ e. absurd (ne e)), λ _. refl),
      ))
    where
      hit : slice_index s.words (3 * o) ≡ next
          → (w : View I F) × (a : Act S) × Valid s.homes me.1 a × R (stepped s (3 * o) (next + 1) id me.1 w a)
          × drawn (step slots (3 * o) next (next + 1) none) me (slice_index s.words (3 * o))
          (w, carried_after me.1 a)
      hit e = let v = me.0 in let fit = fitted hist alike E Fit fr kinds s k id v at live in
          let n = slice_index s.words (3 * o) in let w : View I F = with_turn o (waits n) v in
          let a = fit.same_kinds in
          let near' : o < length kinds = subst (λ (ks : List ℕ). o < length ks) a near in
          let b = fit.each_turn in let c = k.words in let d = k.count in let old = k.objects o near' in (
            w,
            keeps,
            tt,
            moved hist alike E Fit fr kinds s k o id v w (set s.words (3 * o) (next + 1)) s.homes
                record { turn = waits n; seen = seen_at v o; mine = v.errands } (n + 1)
                (slice_index s.words (3 * o + 1)) (slice_index s.words (3 * o + 2))
                (slice_index_or s.homes o none) (slice_index_or k.histories o [])
                near' at (turn_fits v o (waits n) fit) refl refl (turn_else v o (waits n))
                (length-set s.words (3 * o) (next + 1))
                (λ i x y z. get_or-set_other s.words (3 * o) i (next + 1) 0 x) refl (λ p _. refl)
                (turn_here v o (waits n) (omega arith))
                (get_or-set_same s.words (3 * o) (next + 1) 0 (omega arith) ∙ ap (λ (x : ℕ). x + 1)
                (sym e)) (get_or-set_other s.words (3 * o) (3 * o + 1) (next + 1) 0 (omega arith))
                (get_or-set_other s.words (3 * o) (3 * o + 2) (next + 1) 0 (omega arith)) refl
                (lanes.draws hist (alike o) E n (slice_index s.words (3 * o + 1))
                (slice_index s.words (3 * o + 2)) (slice_index_or s.homes o none)
                (slice_index_or k.histories o []) (map (lane o) s.views) id (lane o v) old
                (at_map (lane o) s.views id v at) free (omega arith))
                (subst Fit (sym (set_same k.histories o [])) k.fit),
            (refl, (o, refl, λ _. refl), λ ne. absurd (ne e)),
          )

  pub look_allowed : (slots id : ℕ) (me : Me S (View I F)) (o t : ℕ) → o < length me.0.kinds → Live me.0
      → turn_at me.0 o ≡ waits t
      → Allows R slots id me (3 * o + 1) (λ n. n) (looked errands (step slots (3 * o + 1) 0 0 none) me)
  look_allowed slots id me o t near live waiting s k sl at lt = decided
      (ℕ_discrete (slice_index s.words (3 * o + 1)) t)
    where
      mine : (turn_at me.0 o).ticket ≡ t
      mine = ap (λ (u : Turn). u.ticket) waiting

      decided : Dec (slice_index s.words (3 * o + 1) ≡ t)
          → (w : View I F) × (a : Act S) × Valid s.homes me.1 a × R
          (stepped s (3 * o + 1) (slice_index s.words (3 * o + 1)) id me.1 w a)
          × looked errands (step slots (3 * o + 1) 0 0 none) me (slice_index s.words (3 * o + 1))
          (w, carried_after me.1 a)
      decided (yes e) = let v = me.0 in let fit = fitted hist alike E Fit fr kinds s k id v at live in
          let n = slice_index s.words (3 * o + 1) in let h = slice_index_or k.histories o [] in
          let near' : o < length kinds = subst (λ (ks : List ℕ). o < length ks) fit.same_kinds near in
          let old = k.objects o near' in let b = fit.each_turn in let c = fit.each_seen in
          let w : View I F = with_turn o (served n) (with_seen o h v) in
          let l : Lane I = record { turn = served n; seen = h; mine = v.errands } in
          let kn = known hist alike E Fit fr kinds s k id v at fit o in (
            w,
            keeps,
            tt,
            same_words hist alike E Fit fr kinds s (3 * o + 1) s.homes (set s.views id w)
                (moved hist alike E Fit fr kinds s k o id v w s.words s.homes l
                (slice_index s.words (3 * o)) n (slice_index s.words (3 * o + 2))
                (slice_index_or s.homes o none) h
                near' at (turn_fits (with_seen o h v) o (served n) (seen_fits v o h fit)) refl refl
                (λ p ne. turn_else (with_seen o h v) o (served n) p ne ∙ seen_else v o h p ne) refl
                (λ i _ _ _. refl) refl (λ p _. refl)
                (λ i. record {
                  turn = get_or-set_same v.turns o (served n) no_turn
                      (omega arith) i;
                  seen = get_or-set_same v.seen o h [] (omega arith) i;
                  mine = v.errands;
                })
                refl refl refl refl
                (lanes.looks hist (alike o) E (slice_index s.words (3 * o)) n
                (slice_index s.words (3 * o + 2)) (slice_index_or s.homes o none) h
                (map (lane o) s.views) id (lane o v) old (at_map (lane o) s.views id v at)
                (waiting ∙ ap waits (sym e)))
                (subst Fit (sym (set_same k.histories o [])) k.fit)),
            (
              refl,
              (
                o,
                refl,
                (λ _. (
                  h,
                  subst (λ (x : Option F). Knows (errands_under errands x) v.errands (seen_at v o) h)
                      (sym fit.same_frame) kn,
                  refl,
                )),
                (λ ne. absurd (ne (e ∙ sym mine))),
              ),
            ),
          )
      decided (no n) = (
        me.0,
        keeps,
        tt,
        still hist alike E Fit fr kinds s (3 * o + 1) id me.0 k at,
        (refl, (o, refl, (λ e. absurd (n (e ∙ mine))), λ _. refl)),
      )

  -- what the histories are, as far as the view knows
  possible : (s : State S (View I F)) (k : R s) (id : ℕ) (v : View I F) → get_elem? s.views id ≡ some v
      → Fitted fr kinds v → (o : ℕ) (h : List I) → slice_index_or k.histories o [] ≡ h
      → Possible errands fits v o h k.histories
  possible s k id v at fit o h is = record {
    count = k.count ∙ ap (λ (ks : List ℕ). length ks) (sym fit.same_kinds);
    fit = subst (λ (x : Option F). fits_under fits x k.histories) (sym fit.same_frame) k.fit;
    here = is;
    begins = λ p. subst
        (λ (x : Option F). Knows (errands_under errands x) v.errands (seen_at v p)
        (slice_index_or k.histories p [])) (sym fit.same_frame)
        (known hist alike E Fit fr kinds s k id v at fit p);
  }

  pub take_allowed : (slots id : ℕ) (me : Me S (View I F)) (o t : ℕ) → o < length me.0.kinds → Live me.0
      → turn_at me.0 o ≡ served t
      → Allows R slots id me (3 * o + 2) (λ n. n)
      (taken hist frame kind errands fits (step slots (3 * o + 2) 0 0 none) me)
  take_allowed slots id me o t near live turn s k sl at lt = let v = me.0 in
      let fit = fitted hist alike E Fit fr kinds s k id v at live in let n = slice_index s.words (3 * o + 2) in
      let h = slice_index_or k.histories o [] in
      let near' : o < length kinds = subst (λ (ks : List ℕ). o < length ks) fit.same_kinds near in
      let old = k.objects o near' in let b = fit.each_turn in let c = k.homes in
      let mine = (old.each_lane id (lane o v) (at_map (lane o) s.views id v at)).whole
      (ap (λ (u : Turn). u.whole) turn) in
      let r = lanes.takes hist (alike o) E (slice_index s.words (3 * o)) (slice_index s.words (3 * o + 1)) n (slice_index_or s.homes o none) h (map (lane o) s.views) id (lane o v) old (at_map (lane o) s.views id v at)
      (ap (λ (u : Turn). u.has) turn, ap (λ (u : Turn). u.whole) turn, ap (λ (u : Turn). u.out) turn) in
      let x = r.0.0 in let ticket = (turn_at v o).ticket in
      let w : View I F = with_turn o (borrows ticket) v in (
        w,
        takes o x,
        at_or s.homes o (some x) none (omega arith) r.0.1,
        same_words hist alike E Fit fr kinds s (3 * o + 2) (set s.homes o none) (set s.views id w)
            (moved hist alike E Fit fr kinds s k o id v w s.words (set s.homes o none)
            record { turn = borrows ticket; seen = seen_at v o; mine = v.errands }
            (slice_index s.words (3 * o)) (slice_index s.words (3 * o + 1)) n none h
            near' at (turn_fits v o (borrows ticket) fit) refl refl (turn_else v o (borrows ticket)) refl
            (λ i _ _ _. refl) (length-set s.homes o none)
            (λ p ne. get_or-set_other s.homes o p none none ne)
            (turn_here v o (borrows ticket) (omega arith)) refl refl refl
            (get_or-set_same s.homes o none none (omega arith)) r.1
            (subst Fit (sym (set_same k.histories o [])) k.fit)),
        (
          o,
          refl,
          old.long ∙ ap (λ (z : List I). length z) (sym mine.2),
          refl,
          (
            x,
            refl,
            r.0.2 ∙ sym mine.2,
            subst
                (λ (y : Option F × List ℕ). IsAs frame kind y.0 (slice_index y.1 o) x)
                (λ i. (sym fit.same_frame i, sym fit.same_kinds i)) r.0.3,
          ),
          (k.histories, possible s k id v at fit o (seen_at v o) (sym mine.2)),
        ),
      )

  pub grow_allowed : (slots id : ℕ) (v : View I F) (y : S) (x : I) (o t : ℕ) → o < length v.kinds → Live v
      → turn_at v o ≡ borrows t → hist y ≡ seen_at v o ++ x ∷ [] → length (hist y) < 2 ^ 64
      → ((e : ℕ) → Contains (errands_under errands v.frame x) e → Contains v.errands e)
      → ((hs : List (List I)) → Possible errands fits v o (seen_at v o) hs → fits_under fits v.frame
      (set hs o (hist y)))
      → Allows R slots id (v, (o, y) ∷ []) (3 * o + 2) (λ n. (n + 1) % 2 ^ 64)
      (grown hist (step slots (3 * o + 2) 1 0 none) (v, (o, y) ∷ []))
  grow_allowed slots id v y x o t near live turn longer room allowed may s k sl at lt = let fit = fitted hist alike E Fit fr kinds s k id v at live in
      let n = slice_index s.words (3 * o + 2) in let h = slice_index_or k.histories o [] in
      let near' : o < length kinds = subst (λ (ks : List ℕ). o < length ks) fit.same_kinds near in
      let old = k.objects o near' in let c = fit.each_seen in let d = k.words in
      let mine = (old.each_lane id (lane o v) (at_map (lane o) s.views id v at)).whole
      (ap (λ (u : Turn). u.whole) turn) in
      let h' = hist y in let is : h' ≡ h ++ x ∷ [] = longer ∙ ap (λ (z : List I). z ++ x ∷ []) mine.2 in
      let w : View I F = with_seen o h' v in let long = old.long in
      let len = ap (λ (z : List I). length z) is in let len' = length-append h (x ∷ []) in
      let next : (n + 1) % 2 ^ 64 ≡ n + 1 = mod-eq_of_lt (omega arith) in
      let m = (n + 1) % 2 ^ 64 in (
        w,
        keeps,
        tt,
        moved hist alike E Fit fr kinds s k o id v w (set s.words (3 * o + 2) m) s.homes
            record { turn = turn_at v o; seen = h ++ x ∷ []; mine = v.errands } (slice_index s.words (3 * o))
            (slice_index s.words (3 * o + 1)) (n + 1) (slice_index_or s.homes o none) (h ++ x ∷ [])
            near' at (seen_fits v o h' fit) refl refl (seen_else v o h') (length-set s.words (3 * o + 2) m)
            (λ i p q r. get_or-set_other s.words (3 * o + 2) i m 0 r) refl (λ p _. refl)
            (seen_here v o h' (omega arith) ∙ ap
            (λ (z : List I). record { turn = turn_at v o; seen = z; mine = v.errands }) is)
            (get_or-set_other s.words (3 * o + 2) (3 * o) m 0 (omega arith))
            (get_or-set_other s.words (3 * o + 2) (3 * o + 1) m 0 (omega arith))
            (get_or-set_same s.words (3 * o + 2) m 0 (omega arith) ∙ next) refl
            (lanes.grows hist (alike o) E (slice_index s.words (3 * o)) (slice_index s.words (3 * o + 1)) n
            (slice_index_or s.homes o none) h (map (lane o) s.views) id (lane o v) x old
            (at_map (lane o) s.views id v at) (ap (λ (u : Turn). u.out) turn)
            (λ j l e ne there has theirs. let u = map_at (lane o) s.views j l there in
            ne (k.apart j id u.0 v e u.1 at (subst (λ (z : Lane I). Contains z.mine e) (sym u.2) has)
            (allowed e (subst (λ (z : Option F). Contains (errands_under errands z x) e)
            (sym fit.same_frame) theirs)))))
            (subst (λ (z : List I). Fit (set k.histories o z)) is
            (subst (λ (z : Option F). fits_under fits z (set k.histories o h')) fit.same_frame
            (may k.histories (possible s k id v at fit o (seen_at v o) (sym mine.2))))),
        (refl, (o, refl, refl)),
      )

  pub pass_allowed : (slots id : ℕ) (v : View I F) (y : S) (o t : ℕ) → o < length v.kinds → Live v
      → turn_at v o ≡ borrows t → hist y ≡ seen_at v o → IsAs frame kind v.frame (slice_index v.kinds o) y
      → Allows R slots id (v, (o, y) ∷ []) (3 * o + 1) (λ n. (n + 1) % 2 ^ 64)
      (passed (step slots (3 * o + 1) 1 0 none) (v, (o, y) ∷ []))
  pass_allowed slots id v y o t near live turn is kept s k sl at lt = let fit = fitted hist alike E Fit fr kinds s k id v at live in
      let n = slice_index s.words (3 * o + 1) in let h = slice_index_or k.histories o [] in
      let near' : o < length kinds = subst (λ (ks : List ℕ). o < length ks) fit.same_kinds near in
      let old = k.objects o near' in let b = fit.each_turn in let c = k.homes in let d = k.words in
      let r = lanes.passes hist (alike o) E (slice_index s.words (3 * o)) n (slice_index s.words (3 * o + 2)) (slice_index_or s.homes o none) h (map (lane o) s.views) id (lane o v) y old (at_map (lane o) s.views id v at) (ap (λ (u : Turn). u.out) turn) is
      (subst (λ (z : Option F × List ℕ). IsAs frame kind z.0 (slice_index z.1 o) y)
      (λ i. (fit.same_frame i, fit.same_kinds i)) kept) in
      let room = old.room in let low = r.0 in
      let next : (n + 1) % 2 ^ 64 ≡ n + 1 = mod-eq_of_lt (omega arith) in
      let m = (n + 1) % 2 ^ 64 in let w : View I F = with_turn o no_turn v in (
        w,
        gives,
        tt,
        moved hist alike E Fit fr kinds s k o id v w (set s.words (3 * o + 1) m) (set s.homes o (some y))
            record { turn = no_turn; seen = seen_at v o; mine = v.errands } (slice_index s.words (3 * o))
            (n + 1) (slice_index s.words (3 * o + 2)) (some y) h
            near' at (turn_fits v o no_turn fit) refl refl (turn_else v o no_turn)
            (length-set s.words (3 * o + 1) m) (λ i p q r. get_or-set_other s.words (3 * o + 1) i m 0 q)
            (length-set s.homes o (some y)) (λ p ne. get_or-set_other s.homes o p (some y) none ne)
            (turn_here v o no_turn (omega arith))
            (get_or-set_other s.words (3 * o + 1) (3 * o) m 0 (omega arith))
            (get_or-set_same s.words (3 * o + 1) m 0 (omega arith) ∙ next)
            (get_or-set_other s.words (3 * o + 1) (3 * o + 2) m 0 (omega arith))
            (get_or-set_same s.homes o (some y) none (omega arith)) r.1
            (subst Fit (sym (set_same k.histories o [])) k.fit),
        (refl, (o, refl, refl)),
      )

module _ {S I F : Type 0} where
  -- what a look tells at the object o
  pub looked_here : (errands : F → I → List ℕ) (slots o t n : ℕ) (m m' : Me S (View I F))
      → turn_at m.0 o ≡ waits t → n ≡ t → looked errands (step slots (3 * o + 1) 0 0 none) m n m'
      → (h : List I) × Knows (errands_under errands m.0.frame) m.0.errands (seen_at m.0 o) h
      × (m' ≡ (with_turn o (served t) (with_seen o h m.0), m.1))
  looked_here errands slots o t n m m' waiting is l = at l.1.0 (omega (arith, l.1.1)) l.1.2
    where
      at : (p : ℕ) → p ≡ o
          → (n ≡ (turn_at m.0 p).ticket → (h : List I) × Knows (errands_under errands m.0.frame) m.0.errands
          (seen_at m.0 p) h × (m'.0 ≡ with_turn p (served n) (with_seen p h m.0)))
          → (h : List I) × Knows (errands_under errands m.0.frame) m.0.errands (seen_at m.0 o) h
          × (m' ≡ (with_turn o (served t) (with_seen o h m.0), m.1))
      at p e hit = let hit' = subst (λ (q : ℕ). n ≡ (turn_at m.0 q).ticket → (h : List I) × Knows (errands_under errands m.0.frame) m.0.errands (seen_at m.0 q) h × (m'.0 ≡ with_turn q (served n) (with_seen q h m.0))) e hit in
          let r = hit' (is ∙ sym (ap (λ (u : Turn). u.ticket) waiting)) in
          (r.0, r.1, λ i. ((r.2 ∙ ap (λ (k : ℕ). with_turn o (served k) (with_seen o r.0 m.0)) is) i, l.0 i))
