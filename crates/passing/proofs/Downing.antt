-- One step down keeps what the walk stands on; and where all is found that the check asks for, the node that the walk comes to is as asked.
use mathlib.Core.Path.{◌≡◌, refl, sym, ap, ◌∙◌, subst}
use mathlib.Core.Logic.{◌⊎◌, inl, inr}
use mathlib.Core.List.Memᴰ
use mathlib.Core.List.{List, [], ◌∷◌, ◌++◌, map, Memᴰ}
use mathlib.Core.Bool.{true}
use Prim.Native.Nat.{ℕ, zero, suc, ◌+◌, ◌-◌, ◌*◌, ◌/◌, ◌%◌, ◌≤◌, ◌<◌}
use native.Mathlib.Omega.{arith}
use native.Mathlib.Decide.{ℕ_discrete, dec_lt}
use lib.ListN.{length, get_or, set, take, length-set}
use lib.Seq.{get_or-set_same, get_or-set_other, get_or-take}
use Rattle.layout.specs.Layout.{nodes_limit, links_at, last_link, tree_words}
use Rattle.shape.specs.Shape.{Shape, child, to, owner, floor, Fits, Up, down}
use Rattle.shape.specs.Rows.{up_same}
use Rattle.shape.specs.Tally.{tally, marked}
use Rattle.shape.specs.Tallies.{tally_more}
use Rattle.links.specs.Words.{cell_of, parent_of, first_of, next_of, word, Node}
use Rattle.shape.specs.Down.{fresh, known_valid}
use Rattle.shape.specs.Stops.{Stop, stop, beside, along_up, along_few, Standing, go_down, go_last}
use Rattle.book.specs.Memory.{View, view}
use Rattle.recorded.specs.WayCells.{kept_word, blanks_low}
use Rattle.passing.specs.Wanted.{Told, Bare, whole_row}
use Rattle.passing.specs.State.{none, more, Stacked, AtHook, AllFound, Sizes, AskedNode, Taken, Pushed, FormEnd}
use Rattle.passing.specs.declared.Walker.{Walker}
use Rattle.book.specs.Looking.{nodes_low}
use Rattle.recorded.specs.Way.{wants, blanks, counts, numbered, word_of, Kept, none, more, Low}

-- ---- the arrays

pub kept_counts : {way ks r : List ℕ} → Kept way ks r → get_or ks (length r) 0 ≡ counts r
kept_counts (none a b) = b
kept_counts (more a b h k) = b

pub kept_set : {way ks r : List ℕ} (i a b : ℕ) → length r < i → Kept way ks r → Kept (set way i a) (set ks i b) r
kept_set {way} {ks} i a b h (none x y) = none (get_or-set_other way i 0 a 0 (λ e. omega arith) ∙ x) (get_or-set_other ks i 0 b 0 (λ e. omega arith) ∙ y)
kept_set {way} {ks} i a b h (more {r = r} x y z k) =
    more (get_or-set_other way i (suc (length r)) a 0 (λ e. omega arith) ∙ x) (get_or-set_other ks i (suc (length r)) b 0 (λ e. omega arith) ∙ y) z
    (kept_set i a b (omega arith) k)

pub kept_more : {way ks r : List ℕ} (c d a b : ℕ) → length way ≡ 33 → length ks ≡ 33 → length r ≡ d → d < 32 → a ≡ word_of (c ∷ r) → b ≡ counts (c ∷ r)
    → ¬ (wants r ≡ 0) → Kept way ks r
    → Kept (set way (d + 1) a) (set ks (d + 1) b) (c ∷ r)
kept_more {way} {ks} {r} c d a b lw lk e h ea eb z k =
    let i : suc (length r) ≡ d + 1 = omega arith in
    more (ap (λ (j : ℕ). get_or (set way (d + 1) a) j 0) i ∙ get_or-set_same way (d + 1) a 0 (omega arith) ∙ ea)
    (ap (λ (j : ℕ). get_or (set ks (d + 1) b) j 0) i ∙ get_or-set_same ks (d + 1) b 0 (omega arith) ∙ eb)
    z (kept_set (d + 1) a b (omega arith) k)

pub kept_back : {way ks r : List ℕ} (s : List ℕ) → Kept way ks (s ++ r) → Kept way ks r
kept_back [] k = k
kept_back (c ∷ s) (more x y z k) = kept_back s k

pub stacked_set : {m : Shape} {stack : List ℕ} {k : ℕ} {ks : List Stop} (i e : ℕ) → k ≤ i → Stacked m stack k ks → Stacked m (set stack i e) k ks
stacked_set i e h none = none
stacked_set {m} {stack} i e h (more {k} {n} {d} w s) =
    more (subst (λ (z : ℕ). Node z (m.cell n) (m.parent n) d (m.next n)) (sym (get_or-set_other stack i k e 0 (λ q. omega arith))) w) (stacked_set i e (omega arith) s)

pub stacked_many : {m : Shape} {stack : List ℕ} {k : ℕ} {ks : List Stop} → Stacked m stack k ks → length ks ≡ k
stacked_many none = refl
stacked_many (more w s) = ap suc (stacked_many s)

-- ---- the counts

wants_low : (r : List ℕ) → wants r ≤ 1 + 7 * length r
wants_low [] = omega arith
wants_low (c ∷ r) = let h = wants_low r in omega arith

pub wanted_is : (r : List ℕ) → length r ≤ 32 → counts r % 65536 ≡ wants r
wanted_is r h = let a = wants_low r in go (blanks r) (wants r) (omega arith)
  where
    go : (b w : ℕ) → w < 65536 → (b * 65536 + w) % 65536 ≡ w
    go b w l = omega arith

pub known_is : (r : List ℕ) → length r ≤ 32 → counts r / 65536 ≡ blanks r
known_is r h = let a = wants_low r in go (blanks r) (wants r) (omega arith)
  where
    go : (b w : ℕ) → w < 65536 → (b * 65536 + w) / 65536 ≡ b
    go b w l = omega arith

pub counts_on : (c : ℕ) (r : List ℕ) → ¬ (wants r ≡ 0) → counts r + c / 4096 % 8 + c / 32768 * 65536 - 1 ≡ counts (c ∷ r)
counts_on c r h = go (blanks r) (wants r) (c / 4096 % 8) (c / 32768) h
  where
    go : (b w a d : ℕ) → ¬ (w ≡ 0) → b * 65536 + w + a + d * 65536 - 1 ≡ (d + b) * 65536 + ((a + w) - 1)
    go b w a d h = omega arith

-- ---- words of the view

pub node_word : (ws : List ℕ) (n : ℕ) → n < last_link → word (take tree_words ws) (suc n) ≡ get_or ws (links_at + suc n) 0
node_word ws n h = get_or-take tree_words ws (links_at + suc n) 0 (omega arith)

-- ---- where the walk stands

module _ {ws left way ks stack : List ℕ} {at : Walker} (s : Sizes ws left way ks stack) (a : AtHook ws left way ks stack at) where
  v : View
  v = view ws

  -- where all is found, a node that the hook leads to is left and fits, and it has the row that the walk has
  module _ (f : AllFound ws) where
    pub meets : (n : ℕ) → to (view ws).tree a.hook ≡ suc n
        → Fits (view ws).tree a.hook n × (marked left n ≡ true) × Told (view ws) n ((view ws).tree.cell n ∷ a.row)
    meets n e =
        let q = fresh (view ws).tree Bare (Told (view ws)) (marked left) a.hook (map beside a.stops) a.standing.walking f.tree e in
        let t = f.told n q.0.used in
        let row : Up (view ws).tree (suc n) ((view ws).tree.cell n ∷ a.row) =
        down q.0.used refl (subst (λ (z : ℕ). Up (view ws).tree z a.row) (sym q.0.under) (along_up (view ws).tree a.standing.along)) in
        (q.0, q.1, subst (λ (r : List ℕ). Told (view ws) n r) (up_same t.1 row) t.2)

    pub no_dead_end : ¬ (at.x ≡ 0)
    no_dead_end e =
        a.stuck e (f.bare a.hook (known_valid (view ws).tree (marked left) a.hook (a.standing.walking.known a.hook (Memᴰ.head refl))) (a.leads ∙ e))

    -- a node of forms comes next where something is wanted
    inner : ¬ (wants a.row ≡ 0) → AskedNode left at (get_or ws (links_at + at.x) 0)
    inner h = go at.x refl
      where
        go : (l : ℕ) → at.x ≡ l → AskedNode left at (get_or ws (links_at + at.x) 0)
        go zero e = absurd (no_dead_end e)
        go (suc n) e = by (dec_lt n nodes_limit)
          where
            q : Fits (view ws).tree a.hook n × (marked left n ≡ true) × Told (view ws) n ((view ws).tree.cell n ∷ a.row)
            q = meets n (a.leads ∙ e)

            is : word (take tree_words ws) (suc n) ≡ get_or ws (links_at + at.x) 0
            is = node_word ws n (nodes_low ws s.words n q.0.used) ∙ ap (λ (k : ℕ). get_or ws (links_at + k) 0) (sym e)

            by : Dec (n < nodes_limit) → AskedNode left at (get_or ws (links_at + at.x) 0)
            by (yes l) = let i = q.2.node l in record {
              some = omega arith;
              node = omega arith;
              short = let d = a.deep in let k = i.short in omega arith;
              cell = subst (λ (z : ℕ). cell_of z ≤ 32768) is i.low;
              fits = record {
                under = ap parent_of (sym is) ∙ q.0.under ∙ a.under;
                above = subst (λ (z : ℕ). at.low ≤ cell_of z) is (subst (λ (z : ℕ). z ≤ (view ws).tree.cell n) a.above q.0.above);
                was = ap (marked left) (let d : at.x - 1 ≡ n = omega arith in d) ∙ q.1;
              };
            }
            by (no l) = absurd (h (whole_row (view ws) (n - nodes_limit) a.row (q.2.rule (n - nodes_limit) (omega arith))))

  pub refused : ¬ (AskedNode left at (get_or ws (links_at + at.x) 0)) → ¬ (wants a.row ≡ 0) → ¬ (AllFound ws)
  refused r h f = r (inner f h)

  -- one node down
  module _ {left' : List ℕ} {w : ℕ} (e : Taken (AskedNode left at) ws left left' at w) (h : ¬ (wants a.row ≡ 0)) where
    asked : AskedNode left at w
    asked = e.asked

    n : ℕ
    n = at.x - 1

    up_one : suc n ≡ at.x
    unfolding n
    up_one = let q = asked.some in omega arith

    n_low : n < nodes_limit
    unfolding n
    n_low = let q = asked.some in let l = asked.node in omega arith

    is : word (take tree_words ws) (suc n) ≡ w
    is = node_word ws n (let l = n_low in omega arith) ∙ ap (λ (k : ℕ). get_or ws (links_at + k) 0) up_one ∙ sym e.word

    pub one_less : tally (marked left) last_link ≡ suc (tally (marked left') last_link)
    one_less = tally_more (marked left') (marked left) (at.x - 1) last_link (let q = asked.some in
        let l = asked.node in omega arith) e.gone asked.fits.was (λ y d. sym (e.others y d))

    inner_told : Told (view ws) n ((view ws).tree.cell n ∷ a.row)
    inner_told = record {
      node = λ l. record {
        low = subst (λ (z : ℕ). cell_of z ≤ 32768) (sym is) asked.cell;
        short =
            let d = a.deep in
            let k = asked.short in omega arith;
        wanting = h;
      };
      rule = λ k q. absurd (let l = n_low in omega arith);
    }

    leads_to : to (view ws).tree a.hook ≡ suc n
    leads_to = a.leads ∙ sym up_one

    fits_under : (view ws).tree.parent n ≡ owner (view ws).tree a.hook
    fits_under = ap parent_of is ∙ asked.fits.under ∙ sym a.under

    fits_above : floor (view ws).tree a.hook ≤ (view ws).tree.cell n
    fits_above = subst (λ (z : ℕ). z ≤ (view ws).tree.cell n) (sym a.above) (subst (λ (z : ℕ). at.low ≤ cell_of z) (sym is) asked.fits.above)

    with_sibling : ¬ (next_of w ≡ 0)
        → Standing (view ws).tree Bare (Told (view ws)) (child (suc n)) ((view ws).tree.cell n ∷ a.row) (stop n (length a.row) ∷ a.stops) (marked left')
    unfolding n
    with_sibling z = go_down (view ws).tree Bare (Told (view ws)) (marked left) a.hook a.row a.stops a.standing (at.x - 1) leads_to
        asked.fits.was fits_under fits_above inner_told
        (marked left') e.gone e.others (λ q. z (sym (ap next_of is) ∙ q))

    with_none : next_of w ≡ 0 → Standing (view ws).tree Bare (Told (view ws)) (child (suc n)) ((view ws).tree.cell n ∷ a.row) a.stops (marked left')
    unfolding n
    with_none z = go_last (view ws).tree Bare (Told (view ws)) (marked left) a.hook a.row a.stops a.standing (at.x - 1) leads_to
        asked.fits.was fits_under fits_above inner_told
        (marked left') e.gone e.others (ap next_of is ∙ z) tt

    pub top_low : at.top ≤ at.depth
    top_low = let f = along_few (view ws).tree a.standing.along in let g = stacked_many a.stacked in let d = a.deep in omega arith

    cells_low : Low ((view ws).tree.cell n ∷ a.row)
    cells_low c i = go (Memᴰ.cases_cons i)
      where
        go : (c ≡ (view ws).tree.cell n) ⊎ Memᴰ c a.row → c ≤ 32768
        go (inl q) = subst (λ (z : ℕ). z ≤ 32768) (sym q) (subst (λ (z : ℕ). cell_of z ≤ 32768) (sym is) asked.cell)
        go (inr j) = a.cells c j

    module _ {stack' : List ℕ} {top' : ℕ} (d : Pushed stack stack' at.top top' w at.depth) {wd kk : ℕ}
        (ew : wd ≡ word_of (cell_of w ∷ a.row)) (ek : kk ≡ counts (cell_of w ∷ a.row)) where
      kept' : Kept (set way (at.depth + 1) wd) (set ks (at.depth + 1) kk) ((view ws).tree.cell n ∷ a.row)
      kept' = kept_more ((view ws).tree.cell n) at.depth wd kk s.ways s.counts a.deep asked.short
          (ew ∙ ap (λ (z : ℕ). word_of (cell_of z ∷ a.row)) (sym is)) (ek ∙ ap (λ (z : ℕ). counts (cell_of z ∷ a.row)) (sym is)) h a.kept

      on : (stops : List Stop) → Standing (view ws).tree Bare (Told (view ws)) (child (suc n)) ((view ws).tree.cell n ∷ a.row) stops (marked left')
          → Stacked (view ws).tree stack' top' stops → AtHook ws left' (set way (at.depth + 1) wd) (set ks (at.depth + 1) kk) stack' (record { x = first_of w; p = at.x; low = 0; depth = at.depth + 1; top = top' })
      on stops st sk = record {
        hook = child (suc n);
        row = (view ws).tree.cell n ∷ a.row;
        stops = stops;
        standing = st;
        leads = ap first_of is;
        under = up_one;
        above = refl;
        deep = let q = a.deep in omega arith;
        short = let q = asked.short in omega arith;
        cells = cells_low;
        stuck = λ q b. let l = n_low in omega arith;
        stacked = sk;
        kept = kept';
      }

      pushed : ¬ (next_of w ≡ 0) → Stacked (view ws).tree stack' top' (stop n (length a.row) ∷ a.stops)
      pushed z =
          let t : suc at.top ≡ top' = omega (arith, d.more z) in
          subst (λ (k : ℕ). Stacked (view ws).tree stack' k (stop n (length a.row) ∷ a.stops)) t
          (subst (λ (l : List ℕ). Stacked (view ws).tree l (suc at.top) (stop n (length a.row) ∷ a.stops)) (sym d.stored)
          (more (as_node (sym (get_or-set_same stack at.top d.word 0 (let f = top_low in
          let g = asked.short in
          let j = s.stops in omega arith)))) (stacked_set at.top d.word (omega arith) a.stacked)))
        where
          as_node : {u : ℕ} → d.word ≡ u → Node u ((view ws).tree.cell n) ((view ws).tree.parent n) (length a.row) ((view ws).tree.next n)
          as_node q = subst (λ (u : ℕ). Node u ((view ws).tree.cell n) ((view ws).tree.parent n) (length a.row) ((view ws).tree.next n)) q (record {
            cell = d.is.cell ∙ ap cell_of (sym is);
            parent = d.is.parent ∙ ap parent_of (sym is);
            first = d.is.first ∙ sym a.deep;
            next = d.is.next ∙ ap next_of (sym is);
          })

      pub downward : AtHook ws left' (set way (at.depth + 1) wd) (set ks (at.depth + 1) kk) stack' (record { x = first_of w; p = at.x; low = 0; depth = at.depth + 1; top = top' })
      downward = go (ℕ_discrete (next_of w) 0)
        where
          go : Dec (next_of w ≡ 0) → AtHook ws left' (set way (at.depth + 1) wd) (set ks (at.depth + 1) kk) stack' (record { x = first_of w; p = at.x; low = 0; depth = at.depth + 1; top = top' })
          go (yes z) = on a.stops (with_none z)
              (subst (λ (k : ℕ). Stacked (view ws).tree stack' k a.stops) (sym (d.last z))
              (subst (λ (l : List ℕ). Stacked (view ws).tree l at.top a.stops) (sym d.stored) (stacked_set at.top d.word (omega arith) a.stacked)))
          go (no z) = on (stop n (length a.row) ∷ a.stops) (with_sibling z) (pushed z)

-- ---- the loop

pub record Downing (ws left₀ left way ks stack : List ℕ) (at : Walker) (k last : ℕ) : Type 0 where
  pub sizes : Sizes ws left way ks stack
  pub hook : AtHook ws left way ks stack at
  pub count : k ≡ counts hook.row
  pub cells : last ≡ word_of hook.row
  pub fewer : tally (marked left) last_link ≤ tally (marked left₀) last_link
  pub deep : at.depth ≤ 32
  pub tops : at.top ≤ 32
  pub known : k / 65536 ≤ 32

pub tops_of : {ws left way ks stack : List ℕ} {at : Walker} → AtHook ws left way ks stack at → at.top ≤ 32
tops_of {ws} a = let f = along_few (view ws).tree a.standing.along in let g = stacked_many a.stacked in let d = a.deep in let s = a.short in omega arith

known_of : {ws left way ks stack : List ℕ} {at : Walker} (a : AtHook ws left way ks stack at) (k : ℕ) → k ≡ counts a.row → k / 65536 ≤ 32
known_of a k e =
    let d = a.deep in let s = a.short in let b = blanks_low a.row a.cells in
    subst (λ (z : ℕ). z / 65536 ≤ 32) (sym e) (subst (λ (z : ℕ). z ≤ 32) (sym (known_is a.row (omega arith))) (omega arith))

pub down_start : {ws left way ks stack : List ℕ} {at : Walker} → Sizes ws left way ks stack → AtHook ws left way ks stack at
    → Downing ws left left way ks stack at (get_or ks at.depth 0) (get_or way at.depth 0)
down_start {ws} {left} {way} {ks} {stack} {at} s a = record {
  sizes = s;
  hook = a;
  count = counted;
  cells = ap (λ (i : ℕ). get_or way i 0) (sym a.deep) ∙ kept_word a.kept;
  fewer = omega arith;
  deep = a.short;
  tops = tops_of a;
  known = known_of a (get_or ks at.depth 0) counted;
}
  where
    counted : get_or ks at.depth 0 ≡ counts a.row
    counted = ap (λ (i : ℕ). get_or ks i 0) (sym a.deep) ∙ kept_counts a.kept

module _ {ws left₀ left way ks stack : List ℕ} {at : Walker} {k last : ℕ} (i : Downing ws left₀ left way ks stack at k last) where
  long : length i.hook.row ≤ 32
  long = let d = i.hook.deep in let s = i.hook.short in omega arith

  wanted : k % 65536 ≡ wants i.hook.row
  wanted = ap (λ (z : ℕ). z % 65536) i.count ∙ wanted_is i.hook.row long

  pub down_lost : ¬ (k % 65536 ≡ 0) → ¬ (AskedNode left at (get_or ws (links_at + at.x) 0)) → ¬ (AllFound ws)
  down_lost h r = refused i.sizes i.hook r (λ z. h (wanted ∙ z))

  pub down_end : k % 65536 ≡ 0 → FormEnd ws left₀ left way ks stack at
  down_end h = record {
    hook = i.hook;
    whole = ap (λ (z : ℕ). z % 65536) (ap (λ (j : ℕ). get_or ks j 0) (sym i.hook.deep) ∙ kept_counts i.hook.kept ∙ sym i.count) ∙ h;
    fewer = i.fewer;
  }

  module _ {left' : List ℕ} {w : ℕ} (e : Taken (AskedNode left at) ws left left' at w) (h : ¬ (k % 65536 ≡ 0)) where
    wanting : ¬ (wants i.hook.row ≡ 0)
    wanting z = h (wanted ∙ z)

    pub down_on : {stack' : List ℕ} {top' c f nm : ℕ} → length left' ≡ length left → length stack' ≡ length stack → c ≡ cell_of w
        → Pushed stack stack' at.top top' w at.depth → nm ≡ numbered c (k / 65536) → f ≡ first_of w
        → Downing ws left₀ left' (set way (at.depth + 1) (last % 281474976710656 * 65536 + nm))
        (set ks (at.depth + 1) (k + c / 4096 % 8 + c / 32768 * 65536 - 1)) stack' (record { x = f; p = at.x; low = 0; depth = at.depth + 1; top = top' })
        (k + c / 4096 % 8 + c / 32768 * 65536 - 1) (last % 281474976710656 * 65536 + nm)
    down_on {stack'} {top'} {c} {f} {nm} ll ls ec d en ef = record {
      sizes = record {
        words = i.sizes.words;
        maps = ll ∙ i.sizes.maps;
        ways = length-set way (at.depth + 1) _ ∙ i.sizes.ways;
        counts = length-set ks (at.depth + 1) _ ∙ i.sizes.counts;
        stops = ls ∙ i.sizes.stops;
      };
      hook = next;
      count = count';
      cells = cells';
      fewer = let a = one_less i.sizes i.hook e wanting in let b = i.fewer in omega arith;
      deep = next.short;
      tops = tops_of next;
      known = known_of next _ count';
    }
      where
        kk : k + c / 4096 % 8 + c / 32768 * 65536 - 1 ≡ counts (cell_of w ∷ i.hook.row)
        kk = ap (λ (z : ℕ). z + c / 4096 % 8 + c / 32768 * 65536 - 1) i.count ∙ counts_on c i.hook.row wanting ∙ ap (λ (z : ℕ). counts (z ∷ i.hook.row)) ec

        wd : last % 281474976710656 * 65536 + nm ≡ word_of (cell_of w ∷ i.hook.row)
        wd = ap (λ (z : ℕ). z % 281474976710656 * 65536 + nm) i.cells
            ∙ ap (λ (z : ℕ). word_of i.hook.row % 281474976710656 * 65536 + z)
            (en ∙ ap (numbered c) (ap (λ (z : ℕ). z / 65536) i.count ∙ known_is i.hook.row long) ∙ ap (λ (z : ℕ). numbered z (blanks i.hook.row)) ec)

        next : AtHook ws left' (set way (at.depth + 1) (last % 281474976710656 * 65536 + nm)) (set ks (at.depth + 1) (k + c / 4096 % 8 + c / 32768 * 65536 - 1)) stack'
            (record { x = f; p = at.x; low = 0; depth = at.depth + 1; top = top' })
        next = subst (λ (z : ℕ). AtHook ws left' (set way (at.depth + 1) (last % 281474976710656 * 65536 + nm))
            (set ks (at.depth + 1) (k + c / 4096 % 8 + c / 32768 * 65536 - 1)) stack' (record { x = z; p = at.x; low = 0; depth = at.depth + 1; top = top' })) (sym ef)
            (downward i.sizes i.hook e wanting d wd kk)

        at_new : (l : List ℕ) (j y : ℕ) → j < length l → get_or (set l j y) j 0 ≡ y
        at_new l j y q = get_or-set_same l j y 0 q

        count' : k + c / 4096 % 8 + c / 32768 * 65536 - 1 ≡ counts next.row
        count' = sym (ap (λ (j : ℕ). get_or (set ks (at.depth + 1) (k + c / 4096 % 8 + c / 32768 * 65536 - 1)) j 0) next.deep
            ∙ at_new ks (at.depth + 1) _ (let q = i.sizes.counts in
            let z = next.short in omega arith)) ∙ kept_counts next.kept

        cells' : last % 281474976710656 * 65536 + nm ≡ word_of next.row
        cells' = sym (ap (λ (j : ℕ). get_or (set way (at.depth + 1) (last % 281474976710656 * 65536 + nm)) j 0) next.deep
            ∙ at_new way (at.depth + 1) _ (let q = i.sizes.ways in
            let z = next.short in omega arith)) ∙ kept_word next.kept
