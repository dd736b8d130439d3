-- Signs are words on which nothing in the book depends: where they alone change it stays what it is.
use mathlib.Core.Path.{◌≡◌, refl, sym, ap, ap₂, ◌∙◌, subst, fun_ext}
use mathlib.Core.Logic.{inl, inr}
use mathlib.Core.List.{List, ◌++◌}
use Prim.Native.Nat.{ℕ, ◌+◌, ◌-◌, ◌*◌}
use native.Mathlib.Omega.{arith}
use lib.ListN.{length, get_or, take, drop, length-take, length-drop}
use Rattle.std.specs.Prelude.{Ok}
use Rattle.layout.specs.Layout.{tree_words, signs_at, sign_words, places_at, place_words, term_words, record_words, records_at, terms_at, book_words}
use Rattle.bits.specs.Packed.{fields}
use Rattle.links.specs.Words.{shape}
use Rattle.shape.specs.Shape.{Shape}
use Rattle.book.specs.Rules.{Rule}
use Rattle.book.specs.Memory.{View, view, rules_of, Right}
use Rattle.change.specs.Promises.{Adds, TakesLowest}
use Rattle.book.specs.Parts.{Elsewhere, window, one_part}

pub signs_only : {ws ws' : List ℕ} → Elsewhere ws ws' signs_at sign_words → view ws' ≡ view ws
signs_only {ws} {ws'} e =
    ap (λ (t : List ℕ). made (shape t) (view ws').place (view ws').size (view ws').cells) (window e 0 tree_words (inl (omega arith)))
    ∙ ap (λ (p : List ℕ). made (view ws).tree (λ k. get_or (fields p) k 0) (view ws').size (view ws').cells) (window e places_at place_words (inr (omega arith)))
    ∙ ap (λ (s : ℕ → ℕ). made (view ws).tree (view ws).place s (view ws').cells) (fun_ext (λ r. e.kept (records_at + record_words * r) (inr (omega arith))))
    ∙ ap (λ (c : ℕ → List ℕ). made (view ws).tree (view ws).place (view ws).size c)
    (fun_ext (λ r. ap fields (window e (terms_at + record_words * r) term_words (inr (omega arith)))))
  where
    made : Shape → (ℕ → ℕ) → (ℕ → ℕ) → (ℕ → List ℕ) → View
    made t p s c = record { tree = t; place = p; size = s; cells = c }

-- an add that was taken is none the less one with other signs
pub with_signs : {ws ws₁ ws₂ : List ℕ} {k : ℕ} {it : Rule} → Adds ws ws₁ k it (Ok tt) → view ws₂ ≡ view ws₁ → length ws₂ ≡ length ws₁ → Adds ws ws₂ k it (Ok tt)
with_signs {ws} {ws₁} {ws₂} {k} {it} a e l = record {
  answer = a.answer;
  passes = record { size = l ∙ a.passes.size; right = subst Right (sym e) a.passes.right };
  rules = ap rules_of e ∙ a.rules;
  nodes = subst (λ (v : View). TakesLowest (view ws).tree v.tree) (sym e) a.nodes;
  same = λ n. absurd (n refl);
}

-- the signs are written behind the tree
pub written : (ws front rest signs : List ℕ) → length ws ≡ book_words → front ≡ take tree_words ws → rest ≡ drop tree_words ws
    → length signs ≡ length (take sign_words rest) → Elsewhere ws (front ++ (signs ++ drop sign_words rest)) signs_at sign_words
written ws front rest signs size f r e =
    subst (λ (xs : List ℕ). Elsewhere ws xs signs_at sign_words)
    (sym (ap₂ (λ (x y : List ℕ). x ++ (signs ++ drop sign_words y)) f r))
    (one_part signs_at sign_words ws signs (omega arith) (omega (arith, e, r_long, length-take sign_words rest)))
  where
    r_long : length rest ≡ book_words - tree_words
    r_long = ap length r ∙ omega (arith, length-drop tree_words ws)
