-- What a changed tree alone changes; and a rule removed is the tree trimmed.
use mathlib.Core.Path.{◌≡◌, refl, sym, ap, ◌∙◌, subst, fun_ext}
use mathlib.Core.Logic.{inr}
use mathlib.Core.List.{List, ◌++◌}
use mathlib.Core.Bool.{Bool, true}
use Prim.Native.Nat.{ℕ, suc, ◌+◌, ◌*◌}
use native.Mathlib.Omega.{arith}
use native.Mathlib.Decide.{ℕ_discrete}
use borrow.Author.Tests.{eq-eqb, ne_eqb}
use lib.ListN.{length, get_or, take, drop}
use Rattle.std.specs.Prelude.{Result, Ok, Err}
use Rattle.deciding.specs.Deciding.{pick, true_not_false}
use Rattle.layout.specs.Layout.{nodes_limit, tree_words, places_at, place_words, term_words, record_words, records_at, terms_at, book_words}
use Rattle.bits.specs.Packed.{fields}
use Rattle.links.specs.Words.{shape}
use Rattle.shape.specs.Shape.{Shape}
use Rattle.book.specs.declared.NotHeld.{NotHeld}
use Rattle.book.specs.Rules.{nothing, without_rule, removal}
use Rattle.book.specs.Memory.{view, Passing, rules_in}
use Rattle.change.specs.Promises.{Removes}
use Rattle.change.specs.Change.{removed_right, removed_rules}
use Rattle.change.specs.Change.{Removed as Taken-away}
use Rattle.shape.specs.Change.{Trimmed, root, stays, goes}
use Rattle.book.specs.Parts.{Elsewhere, window, front_part, front_is}
use Rattle.book.specs.Looking.{nodes_low}
use Rattle.book.specs.Placing.{Placed}

-- ---- nothing to remove

pub nothing_removed : (ws : List ℕ) (k : ℕ) → Passing ws → rules_in ws k ≡ nothing → Removes ws ws k (Err (record {}))
nothing_removed ws k p e = record
    { answer = sym (ap removal e); passes = p; rules = fun_ext (λ j. go j (ℕ_discrete j k)); nodes = record { were = λ n l u. u }; same = λ _. refl }
  where
    go : (j : ℕ) → Dec (j ≡ k) → rules_in ws j ≡ without_rule (rules_in ws) k j
    go j (yes q) = ap (rules_in ws) q ∙ e ∙ sym (ap (λ (b : Bool). pick b nothing (rules_in ws j)) (eq-eqb j k q))
    go j (no q) = sym (ap (λ (b : Bool). pick b nothing (rules_in ws j)) (ne_eqb j k q))

-- ---- a changed tree

pub record TreeOnly (ws ws' : List ℕ) (m : Shape) : Type 0 where
  pub long : length ws' ≡ length ws
  pub tree : (view ws').tree ≡ m
  pub places : (j : ℕ) → (view ws').place j ≡ (view ws).place j
  pub sizes : (j : ℕ) → (view ws').size j ≡ (view ws).size j
  pub cellss : (j : ℕ) → (view ws').cells j ≡ (view ws).cells j

pub tree_only : (ws t : List ℕ) → length ws ≡ book_words → length t ≡ tree_words → TreeOnly ws (t ++ drop tree_words ws) (shape t)
tree_only ws t size lt = record {
  long = e.long;
  tree = ap shape (front_is tree_words ws t lt);
  places = λ j. ap (λ (l : List ℕ). get_or (fields l) j 0) (window e places_at place_words (inr (omega arith)));
  sizes = λ j. e.kept (records_at + record_words * j) (inr (omega arith));
  cellss = λ j. ap fields (window e (terms_at + record_words * j) term_words (inr (omega arith)));
}
  where
    e : Elsewhere ws (t ++ drop tree_words ws) 0 tree_words
    e = front_part tree_words ws t (omega arith) lt

-- ---- a rule removed

-- trimming brings no node into use
trimmed_used : {m m' : Shape} {l : ℕ} → Trimmed m l m' → (y : ℕ) → m'.used y ≡ true → m.used y ≡ true
trimmed_used root y u = u
trimmed_used (stays e) y u = u
trimmed_used (goes {m} {m₁} {m'} {n} s out rest) y u = let v = trimmed_used rest y u in sym (out.kept.used y (λ e. true_not_false v (ap m₁.used e ∙ out.gone))) ∙ v

pub rule_gone : (ws : List ℕ) (k r : ℕ) → Passing ws → Placed ws k r → (t : List ℕ) → length t ≡ tree_words
    → Trimmed (shape (take tree_words ws)) (suc (nodes_limit + r)) (shape t) → Removes ws (t ++ drop tree_words ws) k (Ok tt)
rule_gone ws k r p at t lt tr = record {
  answer = sym (ap removal at.rule_is);
  passes = record { size = o.long ∙ p.size; right = removed_right (view ws) (view (t ++ drop tree_words ws)) r (nodes_low ws p.size) p.right removed };
  rules = fun_ext (λ j. removed_rules (view ws) (view (t ++ drop tree_words ws)) r (nodes_low ws p.size) p.right removed j
      ∙ ap (λ (n : ℕ). without_rule (rules_in ws) n j) at.has);
  nodes = record { were = λ n l u. trimmed_used removed.trimmed n u };
  same = λ e. absurd (ok_not_err e);
}
  where
    o : TreeOnly ws (t ++ drop tree_words ws) (shape t)
    o = tree_only ws t p.size lt

    removed : Taken-away (view ws) (view (t ++ drop tree_words ws)) r
    removed = record {
      used = at.used;
      trimmed = subst (λ (m : Shape). Trimmed (view ws).tree (suc (nodes_limit + r)) m) (sym o.tree) tr;
      places =
          o.places;
      sizes = o.sizes;
      cellss = o.cellss;
    }

    ok_not_err : ¬ (◌≡◌ {A = Result (Unit {0}) NotHeld} (Ok tt) (Err (record {})))
    ok_not_err e = let z : ◌≡◌ {A = ℕ} 0 1 = cc in omega arith
