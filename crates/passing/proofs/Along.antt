-- Along the rules below a whole form: where all is found a rule comes next and nothing hangs below it, and each one that is come to is one less.
use mathlib.Core.Path.{◌≡◌, refl, sym, ap, ◌∙◌, subst}
use mathlib.Core.List.Memᴰ
use mathlib.Core.List.{List, ◌∷◌}
use mathlib.Core.Bool.{Bool, true, false}
use Prim.Native.Nat.{ℕ, zero, suc, ◌+◌, ◌-◌, ◌%◌, ◌≤◌, ◌<◌}
use native.Mathlib.Omega.{arith}
use native.Mathlib.Decide.{dec_lt}
use lib.ListN.{length, get_or, take}
use Rattle.deciding.specs.Deciding.{true_not_false}
use Rattle.layout.specs.Layout.{nodes_limit, links_at, first_rule, rules_at, last_link, tree_words}
use Rattle.shape.specs.Shape.{after, Used, Fits}
use Rattle.shape.specs.Rows.{end_childless}
use Rattle.shape.specs.Leaves.{end_of, rows_free}
use Rattle.shape.specs.Tally.{tally, marked}
use Rattle.shape.specs.Tallies.{tally_more}
use Rattle.links.specs.Words.{cell_of, parent_of, first_of, next_of, word}
use Rattle.shape.specs.Stops.{Standing, go_along}
use Rattle.book.specs.Memory.{view, leaf, taken}
use Rattle.book.specs.Holding.{hanging, taken_leaf}
use Rattle.passing.specs.Wanted.{Hangs, Told, Bare, ended_right}
use Rattle.passing.specs.State.{Stacked, AtHook, AllFound, Sizes, AskedRule, Taken, Ruled}
use Rattle.passing.specs.declared.Walker.{Walker}
use Rattle.book.specs.Looking.{nodes_low}
use Rattle.passing.proofs.Downing.{node_word, meets, no_dead_end, kept_counts, wanted_is}
use Rattle.passing.proofs.Ruling.{rule_hangs, hangs_rule}
use Rattle.recorded.specs.Way.{wants}
use Rattle.recorded.specs.Promises.{RuleAt, RuleDecided}

pub record Ruling (ws left₀ left way ks stack : List ℕ) (depth top : ℕ) (at : Walker) : Type 0 where
  pub sizes : Sizes ws left way ks stack
  pub hook : AtHook ws left way ks stack at
  pub depth_is : at.depth ≡ depth
  pub top_is : at.top ≡ top
  pub whole : wants hook.row ≡ 0
  pub fewer : tally (marked left) last_link ≤ tally (marked left₀) last_link

pub rules_start : {ws left way ks stack : List ℕ} {at : Walker} → Sizes ws left way ks stack → AtHook ws left way ks stack at
    → get_or ks at.depth 0 % 65536 ≡ 0
    → Ruling ws left left way ks stack at.depth at.top at
rules_start {ws} {left} {way} {ks} {stack} {at} s a e = record {
  sizes = s;
  hook = a;
  depth_is = refl;
  top_is = refl;
  whole = sym (ap (λ (z : ℕ). z % 65536) (ap (λ (j : ℕ). get_or ks j 0) (sym a.deep) ∙ kept_counts a.kept) ∙ wanted_is a.row (let d = a.deep in
      let h = a.short in omega arith)) ∙ e;
  fewer = omega arith;
}

module _ {ws left₀ left way ks stack : List ℕ} {depth top : ℕ} {at : Walker} (i : Ruling ws left₀ left way ks stack depth top at) where
  -- ---- where all is found

  module _ (f : AllFound ws) where
    small : (n : ℕ) → Used (view ws).tree n → n < last_link
    small = nodes_low ws i.sizes.words

    nothing_below : (k : ℕ) → taken (view ws) k ≡ true → (view ws).tree.first (suc (nodes_limit + k)) ≡ 0
    nothing_below k u =
        let r = ended_right (view ws) small f in
        let h = hanging (view ws) small r in
        end_childless h.passes (rows_free h) (end_of (leaf (view ws) k)) (Memᴰ.map end_of (taken_leaf (view ws) small r k u))

    record Comes : Type 0 where
      asks : AskedRule left at (get_or ws (links_at + at.x) 0)
      hangs : Hangs (view ws) (at.x - first_rule) i.hook.row

    comes : Comes
    comes = go at.x refl
      where
        go : (l : ℕ) → at.x ≡ l → Comes
        go zero e = absurd (no_dead_end i.sizes i.hook f e)
        go (suc n) e = by (dec_lt n nodes_limit)
          where
            q : Fits (view ws).tree i.hook.hook n × (marked left n ≡ true) × Told (view ws) n ((view ws).tree.cell n ∷ i.hook.row)
            q = meets i.sizes i.hook f n (i.hook.leads ∙ e)

            is : word (take tree_words ws) (suc n) ≡ get_or ws (links_at + at.x) 0
            is = node_word ws n (small n q.0.used) ∙ ap (λ (k : ℕ). get_or ws (links_at + k) 0) (sym e)

            by : Dec (n < nodes_limit) → Comes
            by (yes l) = absurd ((q.2.node l).wanting i.whole)
            by (no l) =
                let d : n ≡ nodes_limit + (at.x - first_rule) = omega arith in record {
                  asks = record {
                    rule = omega arith;
                    most = let k = small n q.0.used in omega arith;
                    leaf = ap first_of (sym is) ∙ ap (λ (k : ℕ). (view ws).tree.first (suc k)) d
                        ∙ nothing_below (at.x - first_rule) (ap (view ws).tree.used (sym d) ∙ q.0.used);
                    fits = record {
                      under = ap parent_of (sym is) ∙ q.0.under ∙ i.hook.under;
                      above = subst (λ (z : ℕ). at.low ≤ cell_of z) is (subst (λ (z : ℕ). z ≤ (view ws).tree.cell n) i.hook.above q.0.above);
                      was = ap (marked left) (let b : at.x - 1 ≡ n = omega arith in b) ∙ q.1;
                    };
                  };
                  hangs = q.2.rule (at.x - first_rule) d;
                }

  refusal : (left' : List ℕ) → ¬ (AllFound ws) → Ruled ws left₀ left' way ks stack depth top false
  refusal left' n = record { over = λ q. absurd (true_not_false q refl); fewer = λ q. absurd (true_not_false q refl); no = λ q. n }

  pub no_rule : {left' : List ℕ} → ¬ (AskedRule left at (get_or ws (links_at + at.x) 0)) → Ruled ws left₀ left' way ks stack depth top false
  no_rule {left'} r = refusal left' (λ f. r (comes f).asks)

  pub other_rule : {left' : List ℕ} {r : Bool} → RuleDecided ws way (at.x - first_rule) at.depth r → r ≡ false → Ruled ws left₀ left' way ks stack depth top false
  other_rule {left'} d q = refusal left'
      (λ f. d.no q (hangs_rule ws way ks i.hook.row (at.x - first_rule) at.depth i.hook.kept i.hook.cells i.hook.deep i.hook.short (comes f).hangs))

  -- ---- one rule along

  module _ {left' : List ℕ} {w : ℕ} (e : Taken (AskedRule left at) ws left left' at w) where
    rule_asked : AskedRule left at w
    rule_asked = e.asked

    pub rule_word : {c : ℕ} → c ≡ cell_of w → c ≡ cell_of (get_or ws (rules_at + (at.x - first_rule)) 0)
    rule_word q =
        let l = rule_asked.rule in
        let d : links_at + at.x ≡ rules_at + (at.x - first_rule) = omega arith in q ∙ ap cell_of e.word ∙ ap (λ (k : ℕ). cell_of (get_or ws k 0)) d

    module _ {b : Bool} (d : RuleDecided ws way (at.x - first_rule) at.depth b) (tb : b ≡ true) where
      right : RuleAt ws way (at.x - first_rule) at.depth
      right = d.yes tb ks i.hook.row i.hook.kept i.hook.cells i.hook.deep i.whole

      hangs : Hangs (view ws) (at.x - first_rule) i.hook.row
      hangs = rule_hangs ws way ks i.hook.row (at.x - first_rule) at.depth i.hook.kept i.hook.cells i.hook.deep i.hook.short right

      up_one : suc (at.x - 1) ≡ at.x
      up_one = let l = rule_asked.rule in omega arith

      is : word (take tree_words ws) (suc (at.x - 1)) ≡ w
      is = node_word ws (at.x - 1) (let l = rule_asked.rule in let k = rule_asked.most in omega arith) ∙ ap (λ (k : ℕ). get_or ws (links_at + k) 0) up_one ∙ sym e.word

      tell : Told (view ws) (at.x - 1) ((view ws).tree.cell (at.x - 1) ∷ i.hook.row)
      tell = record {
        node = λ l. absurd (let k = rule_asked.rule in omega arith);
        rule = λ k q. let z : at.x - first_rule ≡ k = let l = rule_asked.rule in omega arith in subst (λ (y : ℕ). Hangs (view ws) y i.hook.row) z hangs;
      }

      standing : Standing (view ws).tree Bare (Told (view ws)) (after (at.x - 1)) i.hook.row i.hook.stops (marked left')
      standing = go_along (view ws).tree Bare (Told (view ws)) (marked left) i.hook.hook i.hook.row i.hook.stops i.hook.standing (at.x - 1)
          (i.hook.leads ∙ sym up_one) rule_asked.fits.was
          (ap parent_of is ∙ rule_asked.fits.under ∙ sym i.hook.under)
          (subst (λ (z : ℕ). z ≤ (view ws).tree.cell (at.x - 1)) (sym i.hook.above) (subst (λ (z : ℕ). at.low ≤ cell_of z) (sym is) rule_asked.fits.above)) tell
          (marked left') e.gone e.others (ap first_of is ∙ rule_asked.leaf) (let l = rule_asked.rule in omega arith)

      pub one_less : tally (marked left) last_link ≡ suc (tally (marked left') last_link)
      one_less = tally_more (marked left') (marked left) (at.x - 1) last_link (let q = rule_asked.rule in
          let l = rule_asked.most in omega arith) e.gone rule_asked.fits.was (λ y k. sym (e.others y k))

      pub rules_on : {x' c : ℕ} → length left' ≡ length left → c ≡ cell_of w → x' ≡ next_of w → ¬ (x' ≡ 0) → Ruling ws left₀ left' way ks stack depth top (record at { x = x'; low = c + 1 })
      rules_on ll ec ex z = record {
        sizes = record { words = i.sizes.words; maps = ll ∙ i.sizes.maps; ways = i.sizes.ways; counts = i.sizes.counts; stops = i.sizes.stops };
        hook = record {
          hook = after (at.x - 1);
          row = i.hook.row;
          stops = i.hook.stops;
          standing = standing;
          leads = ap next_of is ∙ sym ex;
          under = ap parent_of is ∙ rule_asked.fits.under;
          above = ap (λ (y : ℕ). suc (cell_of y)) is ∙ ap suc (sym ec) ∙ omega arith;
          deep = i.hook.deep;
          short = i.hook.short;
          cells = i.hook.cells;
          stuck = λ q. absurd (z q);
          stacked = i.hook.stacked;
          kept = i.hook.kept;
        };
        depth_is = i.depth_is;
        top_is = i.top_is;
        whole = i.whole;
        fewer = let a = one_less in let h = i.fewer in omega arith;
      }

      pub rules_over : {x' : ℕ} → x' ≡ next_of w → x' ≡ 0 → Ruled ws left₀ left' way ks stack depth top true
      rules_over ex z = record {
        over = λ q. record {
          hook = after (at.x - 1);
          row = i.hook.row;
          stops = i.hook.stops;
          standing = standing;
          leads = ap next_of is ∙ sym ex ∙ z;
          bare = tt;
          deep = i.hook.deep ∙ i.depth_is;
          short = subst (λ (d : ℕ). d ≤ 32) i.depth_is i.hook.short;
          cells = i.hook.cells;
          stacked = subst (λ (t : ℕ). Stacked (view ws).tree stack t i.hook.stops) i.top_is i.hook.stacked;
          kept = i.hook.kept;
        };
        fewer = λ q. let a = one_less in let h = i.fewer in omega arith;
        no = λ q. absurd (true_not_false refl q);
      }
