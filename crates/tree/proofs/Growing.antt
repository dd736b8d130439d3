-- A chain grows by the lowest free node, which is there as long as not all nodes are used
use mathlib.Core.Path.{◌≡◌, refl, sym, ap, ◌∙◌, subst}
use mathlib.Core.List.{List, [], ◌∷◌, ◌++◌, reverse}
use mathlib.Core.Bool.{Bool, true, false}
use Prim.Native.Nat.{ℕ, zero, suc, ◌+◌, ◌-◌, ◌*◌, ◌/◌, ◌%◌, ◌^◌, ◌≤◌, ◌<◌}
use native.Mathlib.Nat.{add-zero, zero-div}
use native.Mathlib.Numerals.{add-one}
use native.Mathlib.Omega.{arith}
use native.Mathlib.Decide.{dec_lt}
use lib.Dec.{eqb}
use lib.ListN.{length, get_or, take, drop, length-take, length-drop, length-append, length-reverse}
use lib.Seq.{get_or-drop, get_or-take, take_all}
use Rattle.deciding.specs.Deciding.{true_not_false}
use Rattle.layout.specs.Layout.{node_map_words, nodes_limit, node_map_last, map_words, tree_words}
use Rattle.std.specs.Prelude.{Option, Some, None, IsSome}
use Rattle.bits.specs.Packed.{bits, sum, Skipped, First, FirstOf}
use Rattle.bits.specs.Laws.{length_bits, get_bit, bit_low}
use Rattle.shape.specs.Basics.{up_live}
use Rattle.shape.specs.Shape.{Hook, Used, Up, Tree}
use Rattle.shape.specs.Order.{childless}
use Rattle.shape.specs.Change.{Links, Sorted, Lowest, Grown, none, more}
use Rattle.shape.specs.Link.{link_tree}
use Rattle.shape.specs.Partly.{grown_up}
use Rattle.shape.specs.Tally.{bit, tally}
use Rattle.shape.specs.Tallies.{tally_more, tally_all, tally_le}
use Rattle.links.specs.Words.{shape, hook}
use Rattle.tree.specs.Promises.{Sound, Found, Absent, Descended, Planted}
use Rattle.tree.specs.Needs.{Room, Next, Growing}
use Rattle.links.specs.Limits.{live_low, hook_low, nodes_held, node_bit}
use Rattle.tree.proofs.Walking.{found_sorted, take_next}

one_of : (x : ℕ) → x < 2 → ¬ (x ≡ 0) → eqb x 1 ≡ true
one_of zero h n = absurd (n refl)
one_of (suc zero) h n = refl
one_of (suc (suc x)) h n = absurd (omega arith)

module _ (ws : List ℕ) (size : length ws ≡ tree_words) (n : ℕ) (f : First 0 (bits (take node_map_words ws)) 0 n) where
  long : length (bits (take node_map_words ws)) ≡ nodes_limit
  long = omega (arith, length_bits (take node_map_words ws), length-take node_map_words ws)

  below : (k : ℕ) → k < n → Used (shape ws) k
  below k h =
      sym (node_bit ws k (omega (arith, f.within, long)))
      ∙ one_of (get_or (bits (take node_map_words ws)) k 0) (bit_low (take node_map_words ws) k) (f.before k (omega arith) h)

  pub free_low : tally (shape ws).used nodes_limit < nodes_limit → n < nodes_limit
  free_low h = go (dec_lt n nodes_limit)
    where
      go : Dec (n < nodes_limit) → n < nodes_limit
      go (yes q) = q
      go (no q) = absurd (full (tally_all (shape ws).used nodes_limit (λ y d. below y (omega arith))))
        where
          full : tally (shape ws).used nodes_limit ≡ nodes_limit → ⊥
          full e = omega arith

  pub free_lowest : tally (shape ws).used nodes_limit < nodes_limit → Lowest (shape ws) n
  free_lowest h =
      let q = free_low h in
      record { low = q; free = sym (node_bit ws n q) ∙ ap (λ (x : ℕ). eqb x 1) (f.here (omega (arith, long))); below = below }

-- the words before k have no free node
pub record Full (ws : List ℕ) (k : ℕ) : Type 0 where
  pub within : k ≤ node_map_words
  pub used : (y : ℕ) → y < k * 64 → Used (shape ws) y

pub full_none : (ws : List ℕ) → Full ws 0
full_none ws = record { within = omega arith; used = λ y h. absurd (omega arith) }

pub full_skipped : (ws : List ℕ) (k : ℕ) → Full ws k → Skipped 0 (bits (take node_map_words ws)) 0 (k * 64)
full_skipped ws k f y a h e = true_not_false (node_bit ws y (let w = f.within in omega arith) ∙ f.used y h) (ap (λ (x : ℕ). eqb x 1) e)

pub full_on : (ws ws' : List ℕ) → length ws ≡ tree_words → (n : ℕ) → First 0 (bits (take node_map_words ws)) 0 n → n < nodes_limit → {s : Hook} {c : ℕ}
    → Links (shape ws) (shape ws') s c n
    → Full ws' (n / 64)
full_on ws ws' size n f l k = record {
  within = omega arith;
  used = λ y h. k.kept.used y (λ e. omega arith) ∙ below ws size n f y (omega arith);
}

-- the loop: i cells have grown, down to l
pub record Chain (ws₀ ws : List ℕ) (l₀ l b : ℕ) (form : List ℕ) (i : ℕ) : Type 0 where
  pub growing : Growing ws l b form i
  pub grown : Grown (shape ws₀) l₀ (reverse (take i form)) (shape ws) l

pub chain_start : (ws : List ℕ) (l b : ℕ) (form : List ℕ) → Growing ws l b form 0 → Chain ws ws l l b form 0
chain_start ws l b form g = record { growing = g; grown = none }

pub chain_end : (ws₀ ws : List ℕ) (l₀ l b : ℕ) (form : List ℕ) (i : ℕ) → Chain ws₀ ws l₀ l b form i → length form ≤ i → Grown (shape ws₀) l₀ (reverse form) (shape ws) l
chain_end ws₀ ws l₀ l b form i g h =
    subst (λ (z : List ℕ). Grown (shape ws₀) l₀ (reverse z) (shape ws) l) (take_all i form h) g.grown

module _ (ws₀ ws : List ℕ) (l₀ l b : ℕ) (form : List ℕ) (i : ℕ) (g : Chain ws₀ ws l₀ l b form i) (hi : i < length form) where
  module _ (n : ℕ) (first : First 0 (bits (take node_map_words ws)) 0 n) where
    some_free : tally (shape ws).used nodes_limit < nodes_limit
    some_free = omega (arith, g.growing.room)

    pub chain_low : n < nodes_limit
    chain_low = free_low ws g.growing.size n first some_free

    lowest : Lowest (shape ws) n
    lowest = free_lowest ws g.growing.size n first some_free

    module _ (c : ℕ) (ec : c ≡ get_or form i 0) where
      f : Found (shape ws) l b c
      f = subst (λ (z : ℕ). Found (shape ws) l b z) (sym ec) (g.growing.found hi)

      pub chain_room : c < 65536 → Room ws l b n c
      chain_room h = record {
        size = g.growing.size;
        owner = live_low ws g.growing.size l g.growing.live;
        sibling = hook_low ws g.growing.size l b f.valid;
        node = (let l = chain_low in omega arith);
        cell = h;
        free = lowest.free;
        valid = f.valid;
        under = f.under;
      }

      module _ (ws' : List ℕ) (same : length ws' ≡ length ws) (k : Links (shape ws) (shape ws') (hook l b) c n) where
        sorted : Sorted (shape ws) (hook l b) c
        sorted = found_sorted g.growing.tree f (λ y u e d. g.growing.absent hi y u e (d ∙ ec))

        tree' : Tree (shape ws')
        tree' = link_tree (shape ws) (shape ws') (hook l b) c n g.growing.tree sorted k

        -- the new node has no child, so what comes next is its first
        first_child : (d : ℕ) → Found (shape ws') (suc n) 0 d
        first_child d = record { valid = k.now; under = refl; above = omega arith; below = λ q. absurd (omega (arith, sym k.first ∙ q)) }

        pub chain_on : Chain ws₀ ws' l₀ (n + 1) 0 form (i + 1)
        chain_on = rw (add-one n, add-one i) (record {
          growing = record {
            size = same ∙ g.growing.size;
            tree = tree';
            live = k.now;
            within = hi;
            absent = λ h y u e d. childless (shape ws') tree' (suc n) k.first y u e;
            found = λ h. first_child (get_or form (suc i) 0);
            room = let a = tally_more (shape ws).used (shape ws').used n nodes_limit chain_low k.was k.now k.kept.used in omega (arith, g.growing.room);
          };
          grown = subst (λ (r : List ℕ). Grown (shape ws₀) l₀ r (shape ws') (suc n)) (ap (λ (d : ℕ). d ∷ reverse (take i form)) ec ∙ sym (take_next form i hi))
              (more (hook l b) g.grown lowest sorted f.under k);
        })

  pub chain_some : (o : Option ℕ) → FirstOf 0 (bits (take node_map_words ws)) 0 o → IsSome o
  chain_some None f = let n : ℕ = length (bits (take node_map_words ws)) in absurd (omega (arith, chain_low n f, long ws g.growing.size n f))
  chain_some (Some n) f = refl

-- ---- are there nodes enough?

-- nothing from n on passes, so at most n pass
tally_low : (u : ℕ → Bool) (n k : ℕ) → ((y : ℕ) → n ≤ y → y < k → u y ≡ false) → tally u k ≤ n
unfolding tally
tally_low u n zero h = omega arith
tally_low u n (suc k) h = go (tally_low u n k (λ y m q. h y m (omega arith))) (dec_lt k n)
  where
    go : tally u k ≤ n → Dec (k < n) → tally u (suc k) ≤ n
    go b (yes l) = let a = tally_le u (suc k) in omega arith
    go b (no l) = let a : bit (u k) ≡ 0 = ap bit (h k (omega arith) (omega arith)) in omega arith

module _ (ws : List ℕ) (size : length ws ≡ tree_words) where
  -- the last word of the map is 0: its 64 nodes are free
  pub last_free : get_or ws node_map_last 0 ≡ 0 → tally (shape ws).used nodes_limit ≤ 64 * node_map_last
  last_free e = tally_low (shape ws).used (64 * node_map_last) nodes_limit (λ y a b. ap (λ (x : ℕ). eqb x 1) (free y a b))
    where
      free : (y : ℕ) → 64 * node_map_last ≤ y → y < nodes_limit → get_or (bits (take map_words ws)) y 0 ≡ 0
      free y a b =
          let q : y / 64 ≡ node_map_last = omega arith in
          get_bit (take map_words ws) y
          ∙ ap (λ (w : ℕ). w / 2 ^ (63 - y % 64) % 2) (get_or-take map_words ws (y / 64) 0 (omega arith) ∙ ap (λ (k : ℕ). get_or ws k 0) q ∙ e)
          ∙ ap (λ (x : ℕ). x % 2) (zero-div (2 ^ (63 - y % 64)))

  pub held_is : (held : ℕ) → held ≡ sum (bits (take node_map_words ws)) → held ≡ tally (shape ws).used nodes_limit
  held_is held e = e ∙ nodes_held ws size

  pub held_low : (held : ℕ) → held ≡ sum (bits (take node_map_words ws)) → held ≤ nodes_limit
  held_low held e = subst (λ (k : ℕ). k ≤ nodes_limit) (sym (held_is held e)) (tally_le (shape ws).used nodes_limit)

-- ---- the whole of it: what is missing behind the nodes that exist

module _ (ws form : List ℕ) (s : Sound ws) (l i : ℕ) (d : Descended (shape ws) form l i) where
  rest : take (length form - i) (drop i form) ≡ drop i form
  rest = take_all (length form - i) (drop i form) (omega (arith, length-drop i form))

  cell : get_or (drop i form) 0 0 ≡ get_or form i 0
  cell = get_or-drop i form 0 0 ∙ ap (λ (k : ℕ). get_or form k 0) (add-zero i)

  pub plant_growing : tally (shape ws).used nodes_limit + (length form - i) ≤ nodes_limit → (b : ℕ) → Next (shape ws) form l i b
      → Growing ws l b (take (length form - i) (drop i form)) 0
  plant_growing h b f = subst (λ (z : List ℕ). Growing ws l b z 0) (sym rest) (record {
    size = s.size;
    tree = s.tree;
    live = up_live d.at;
    within = omega arith;
    absent = λ q. subst (λ (z : ℕ). Absent (shape ws) l z) (sym cell) (d.absent (omega (arith, length-drop i form)));
    found = λ q. subst (λ (z : ℕ). Found (shape ws) l b z) (sym cell) (f (omega (arith, length-drop i form)));
    room = omega (arith, length-drop i form);
  })

  pub plant_fits : (ws' : List ℕ) (r : ℕ) → 0 < length form → tally (shape ws).used nodes_limit + (length form - i) ≤ nodes_limit
      → Grown (shape ws) l (reverse (take (length form - i) (drop i form))) (shape ws') r → (¬ (r ≡ 0)) × Planted ws ws' form r
  plant_fits ws' r pos h g =
      (λ e. no_root r e g, record { at = l; depth = i; descended = d; full = λ e. absurd (no_root r e g); fits = λ n. h; grown = λ n. g' })
    where
      g' : Grown (shape ws) l (reverse (drop i form)) (shape ws') r
      g' = subst (λ (z : List ℕ). Grown (shape ws) l (reverse z) (shape ws') r) rest g

      -- the root has the empty row only
      none_up : (r : List ℕ) → 0 < length r → ¬ (Up (shape ws') 0 r)
      none_up [] h u = omega arith
      none_up (c ∷ r) h u = elim u [ ]

      longer : 0 < length (reverse (drop i form) ++ reverse (take i form))
      longer =
          let a = length-append (reverse (drop i form)) (reverse (take i form)) in
          let b = length-reverse (drop i form) ∙ length-drop i form in
          let c = length-reverse (take i form) ∙ length-take i form in omega arith

      no_root : (r : ℕ) → r ≡ 0 → Grown (shape ws) l (reverse (take (length form - i) (drop i form))) (shape ws') r → ⊥
      no_root r e g =
          none_up (reverse (drop i form) ++ reverse (take i form)) longer
          (subst (λ (k : ℕ). Up (shape ws') k (reverse (drop i form) ++ reverse (take i form))) e
          (grown_up s.tree (subst (λ (z : List ℕ). Grown (shape ws) l (reverse z) (shape ws') r) rest g) d.at))
