-- The walk's first hook, its way back to a stop, and its end: where none is left all is found, and where all is found none is left.
use mathlib.Core.Path.{◌≡◌, refl, sym, ap, ◌∙◌, subst}
use mathlib.Core.List.Memᴰ
use mathlib.Core.List.{List, [], ◌∷◌, ◌++◌}
use mathlib.Core.Bool.{Bool, true, false}
use Prim.Native.Nat.{ℕ, suc, ◌-◌, ◌≤◌}
use native.Mathlib.Omega.{arith}
use lib.ListN.{length, get_or, take, length-take, replicate, length-append, length-replicate}
use lib.Seq.{get_or-take}
use Rattle.deciding.specs.Deciding.{Decides, true_not_false}
use Rattle.layout.specs.Layout.{map_words, links_at, tree_words, book_words}
use Rattle.bits.specs.Packed.{bits}
use Rattle.shape.specs.Shape.{child, after}
use Rattle.shape.specs.Tally.{marked}
use Rattle.shape.specs.Tallies.{same_bits, no_mark}
use Rattle.links.specs.Words.{cell_of, parent_of, first_of, next_of, word}
use Rattle.shape.specs.Down.{Walking, ended, all_seen}
use Rattle.shape.specs.Stops.{Stop, Standing, set_off, go_end, go_back}
use Rattle.book.specs.Memory.{view, Passing}
use Rattle.passing.specs.Wanted.{Told, Bare, ended_right, right_ended}
use Rattle.passing.specs.State.{none, more, Stacked, AtHook, AllFound, Sizes, Over, Popped, Clear}
use Rattle.passing.specs.declared.Walker.{Walker}
use Rattle.book.specs.Looking.{inside, nodes_low}
use Rattle.passing.proofs.Downing.{kept_back}
use Rattle.recorded.specs.Way.{Kept, none, more, Low}

-- ---- none is left

pub clear_yes : (left : List ℕ) → left ≡ replicate map_words 0 → Clear left
clear_yes left e n = ap (λ (l : List ℕ). marked l n) e ∙ no_mark map_words n

pub clear_no : (left : List ℕ) → length left ≡ map_words → (bits left ≡ bits (replicate map_words 0) → ⊥) → ¬ (Clear left)
clear_no left long n h = n (same_bits left (replicate map_words 0) (long ∙ sym (length-replicate {A = ℕ} map_words 0)) (λ k. h k ∙ sym (no_mark map_words k)))

-- ---- the answer

pub found_passes : (ws : List ℕ) → length ws ≡ book_words → AllFound ws → Passing ws
found_passes ws size f = record { size = size; right = ended_right (view ws) (nodes_low ws size) f }

pub answers_no : {ws : List ℕ} → ¬ (AllFound ws) → Decides (Passing ws) false
answers_no {ws} n = record { yes = λ q. absurd (true_not_false q refl); no = λ q p. n (right_ended (view ws) (nodes_low ws p.size) p.right) }

pub walked : (ws left : List ℕ) → length ws ≡ book_words → Walking (view ws).tree Bare (Told (view ws)) [] (marked left) → (r : Bool)
    → Decides (Clear left) r → Decides (Passing ws) r
walked ws left size w r d = record {
  yes = λ q. found_passes ws size (ended (view ws).tree Bare (Told (view ws)) (marked left) w (d.yes q));
  no = λ q p. let f = right_ended (view ws) (nodes_low ws size) p.right in d.no q (λ n. gone f n (marked left n) refl);
}
  where
    gone : AllFound ws → (n : ℕ) (b : Bool) → marked left n ≡ b → marked left n ≡ false
    gone f n true e = all_seen (view ws).tree Bare (Told (view ws)) (marked left) w f.tree n (w.within n e)
    gone f n false e = e

-- ---- the first hook

module _ (ws left : List ℕ) (size : length ws ≡ book_words) (el : left ≡ take map_words ws) where
  first_standing : Standing (view ws).tree Bare (Told (view ws)) (child 0) [] [] (marked left)
  first_standing = subst (λ (l : List ℕ). Standing (view ws).tree Bare (Told (view ws)) (child 0) [] [] (marked l)) (inside ws 0 map_words (omega arith) ∙ sym el)
      (set_off (view ws).tree Bare (Told (view ws)))

  root_word : word (take tree_words ws) 0 ≡ get_or ws links_at 0
  root_word = get_or-take tree_words ws links_at 0 (omega arith)

  pub no_child : {x : ℕ} → x ≡ first_of (get_or ws links_at 0) → x ≡ 0 → {r : Bool} → Decides (Clear left) r → Decides (Passing ws) r
  no_child e z {r} d = walked ws left size
      (go_end (view ws).tree Bare (Told (view ws)) (marked left) (child 0) [] [] first_standing refl (ap first_of root_word ∙ sym e ∙ z) tt) r d

  pub first_hook : {x : ℕ} → x ≡ first_of (get_or ws links_at 0) → ¬ (x ≡ 0) → AtHook ws left (replicate 33 0) (replicate 33 1) (replicate 33 0) (record { x = x; p = 0; low = 0; depth = 0; top = 0 })
  first_hook {x} e z = record {
    hook = child 0;
    row = [];
    stops = [];
    standing = first_standing;
    leads = ap first_of root_word ∙ sym e;
    under = refl;
    above = refl;
    deep = refl;
    short = omega arith;
    cells = λ c i. absurd (Memᴰ.not-nil i);
    stuck = λ q. absurd (z q);
    stacked = none;
    kept = none refl refl;
  }

-- ---- at the end of a list of siblings

module _ {ws left way ks stack : List ℕ} {depth top : ℕ} (size : length ws ≡ book_words) (o : Over ws left way ks stack depth top) where
  pub walk_over : top ≡ 0 → {r : Bool} → Decides (Clear left) r → Decides (Passing ws) r
  walk_over z {r} d = walked ws left size
      (go_end (view ws).tree Bare (Told (view ws)) (marked left) o.hook o.row o.stops o.standing
      (no_stops (subst (λ (k : ℕ). Stacked (view ws).tree stack k o.stops) z o.stacked)) o.leads o.bare) r d
    where
      no_stops : {ks : List Stop} → Stacked (view ws).tree stack 0 ks → ks ≡ []
      no_stops none = refl

  low_end : (s : List ℕ) (c : ℕ) (r : List ℕ) → Low (s ++ c ∷ r) → Low r
  low_end s c r h d i = h d (Memᴰ.append_right s (Memᴰ.tail i))

  kept_end : (s : List ℕ) (c : ℕ) (r : List ℕ) → Kept way ks (s ++ c ∷ r) → Kept way ks r
  kept_end s c r k = kept_back (c ∷ []) (kept_back s k)

  shorter : (s r : List ℕ) (c : ℕ) → s ++ c ∷ r ≡ o.row → length r ≤ 32
  shorter s r c e = omega (arith, ap length e, length-append s (c ∷ r), o.deep, o.short)

  pub walk_back : {t w : ℕ} {at : Walker} → top ≡ suc t → w ≡ get_or stack t 0 → Popped w t at → AtHook ws left way ks stack at
  walk_back {t} {w} {at} e ew q = go o.standing (subst (λ (k : ℕ). Stacked (view ws).tree stack k o.stops) e o.stacked)
    where
      go : {stops : List Stop} → Standing (view ws).tree Bare (Told (view ws)) o.hook o.row stops (marked left) → Stacked (view ws).tree stack (suc t) stops
          → AtHook ws left way ks stack at
      go st (more {n = n} {d = j} {ks = rest} v s) =
          let b = go_back (view ws).tree Bare (Told (view ws)) (marked left) o.hook o.row n j rest st o.leads o.bare in
          let same = b.0.is in
          let first : first_of w ≡ length b.0.row = ap first_of ew ∙ v.first ∙ sym b.0.deep in record {
            hook = after n;
            row = b.0.row;
            stops = rest;
            standing = b.1;
            leads = sym v.next ∙ ap next_of (sym ew) ∙ sym q.x_is;
            under = sym v.parent ∙ ap parent_of (sym ew) ∙ sym q.p_is;
            above = ap suc (sym v.cell ∙ ap cell_of (sym ew)) ∙ let l = q.low_is in omega arith;
            deep = sym first ∙ sym q.depth_is;
            short = let h = shorter b.0.before b.0.row ((view ws).tree.cell n) same in let g = q.depth_is in omega arith;
            cells = low_end b.0.before ((view ws).tree.cell n) b.0.row (subst Low (sym same) o.cells);
            stuck = λ z. absurd (b.0.next (sym v.next ∙ ap next_of (sym ew) ∙ sym q.x_is ∙ z));
            stacked = subst (λ (k : ℕ). Stacked (view ws).tree stack k rest) (sym q.top_is) s;
            kept = kept_end b.0.before ((view ws).tree.cell n) b.0.row (subst (Kept way ks) (sym same) o.kept);
          }

-- ---- the loop

pub record Checking (ws left way ks stack : List ℕ) (at : Walker) : Type 0 where
  pub sizes : Sizes ws left way ks stack
  pub hook : AtHook ws left way ks stack at

pub sizes_first : {ws left : List ℕ} → length ws ≡ book_words → left ≡ take map_words ws → Sizes ws left (replicate 33 0) (replicate 33 1) (replicate 33 0)
sizes_first {ws} size e = record {
  words = size;
  maps = ap length e ∙ omega (arith, length-take map_words ws);
  ways = length-replicate {A = ℕ} 33 0;
  counts = length-replicate {A = ℕ} 33 1;
  stops = length-replicate {A = ℕ} 33 0;
}

pub sizes_after : {ws left way ks stack left' way' ks' stack' : List ℕ} → Sizes ws left way ks stack → length left' ≡ length left
    → length way' ≡ length way → length ks' ≡ length ks → length stack' ≡ length stack
    → Sizes ws left' way' ks' stack'
sizes_after s a b c d =
    record { words = s.words; maps = a ∙ s.maps; ways = b ∙ s.ways; counts = c ∙ s.counts; stops = d ∙ s.stops }

pub one_more : {top : ℕ} → ¬ (top ≡ 0) → top ≡ suc (top - 1)
one_more h = omega arith
