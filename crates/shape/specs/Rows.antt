-- Each used node has one row and one node has it; the rows are the non-empty beginnings of the ends' forms, read backwards
use Rattle.std.specs.Prelude.{◌≡◌, refl, ℕ, zero, suc, ◌≤◌, length}
use Rattle.std.proofs.Common.{sym, ap, ◌∙◌, subst, arith, length-append}
use mathlib.Core.List.Memᴰ
use mathlib.Core.List.{List, [], ◌∷◌, ◌++◌, append-nil, append_assoc, reverse, reverse-cons, reverse-append, reverse-reverse, Memᴰ}
use Rattle.std.proofs.lemmas.List.{length-reverse}
use Rattle.std.proofs.Math.Nat.{suc_inj}
use Rattle.term.specs.Counting.{cons_eq}
use Rattle.shape.specs.Basics.{up_live, up_used}
use Rattle.shape.specs.Shape.{Shape, child, Up, top, down, On, here, above, Tree, End, Passes, forms, PrefixFree, Short}
use Rattle.term.specs.Beginnings.{Begins}
use Rattle.shape.specs.Order.{one_sibling}

-- ---- one row for a node, one node for a row

pub up_same : {m : Shape} {l : ℕ} {r s : List ℕ} → Up m l r → Up m l s → r ≡ s
up_same top top = refl
up_same (down u e x) (down v f y) = cons_eq (sym e ∙ f) (up_same x y)

pub up_one : {m : Shape} → Tree m → {k l : ℕ} {r : List ℕ} → Up m k r → Up m l r → k ≡ l
up_one t top top = refl
up_one {m} t (down {n = a} u e x) (down {n = b} v f y) = ap suc (one_sibling m t a b u v (up_one t x y) (e ∙ sym f))

-- a child's row is its cell and its parent's row
pub up_child : {m : Shape} → Tree m → (l : ℕ) {k : ℕ} {r : List ℕ} → Up m l r → m.first l ≡ suc k → Up m (suc k) (m.cell k ∷ r)
up_child {m} t l {r = r} x e = let f = t.goes (child l) (up_live x) e in down f.used refl (subst (λ (p : ℕ). Up m p r) (sym f.under) x)

-- the row of a link, by its length
abbrev pub row_of : Shape → ℕ → ℕ → List ℕ
row_of m zero l = []
row_of m (suc f) zero = []
row_of m (suc f) (suc n) = m.cell n ∷ row_of m f (m.parent n)

pub row_is : {m : Shape} (f : ℕ) {l : ℕ} {r : List ℕ} → Up m l r → length r ≤ f → row_of m f l ≡ r
row_is zero top h = refl
row_is zero (down u e x) h = absurd (omega arith)
row_is (suc f) top h = refl
row_is {m} (suc f) (down {n} u e x) h = cons_eq e (row_is f x (omega arith))

-- ---- the nodes on a way have the endings of its row

pub on_none : {m : Shape} {n : ℕ} → ¬ (On m n 0)
on_none o = elim o [ ]

pub on_trans : {m : Shape} {n k l : ℕ} → On m n (suc k) → On m k l → On m n l
on_trans o here = o
on_trans o (above p) = above (on_trans o p)

pub record Ending (m : Shape) (n : ℕ) (r : List ℕ) : Type 0 where
  pub row : List ℕ
  pub before : List ℕ
  pub up : Up m (suc n) row
  pub is : before ++ row ≡ r

pub on_row : {m : Shape} {n l : ℕ} {r : List ℕ} → On m n l → Up m l r → Ending m n r
on_row here x = record { row = _; before = []; up = x; is = refl }
on_row (above o) (down {c = c} u e x) = let q = on_row o x in record { row = q.row; before = c ∷ q.before; up = q.up; is = ap (λ (z : List ℕ). c ∷ z) q.is }

pub row_on : {m : Shape} (s : List ℕ) {l c : ℕ} {r : List ℕ} → Up m l (s ++ c ∷ r) → (n : ℕ) × Up m (suc n) (c ∷ r) × On m n l
row_on [] (down {n} u e x) = (n, down u e x, here)
row_on (d ∷ s) (down {n} u e x) = let q = row_on s x in (q.0, q.1, above q.2)

-- ---- passing memory

pub passes_tree : {m : Shape} {ends : List End} → Passes m ends → Tree m
passes_tree c = record {
  goes = c.goes;
  comes = c.comes;
  rooted = λ n u. let q = c.covered n u in let e = on_row q.on (c.ways q.end q.among) in (e.row, e.up);
}

-- a row that ends another one, both read forwards
forwards : (before row form : List ℕ) → before ++ row ≡ reverse form → reverse row ++ reverse before ≡ form
forwards before row form e = sym (reverse-append before row) ∙ ap reverse e ∙ reverse-reverse form

pub end_form : {ends : List End} (x : End) → Memᴰ x ends → Memᴰ x.form (forms ends)
end_form x i = Memᴰ.map (λ (y : End). y.form) i

pub row_nonempty : {m : Shape} {n : ℕ} {r : List ℕ} → Up m (suc n) r → ¬ (reverse r ≡ [])
row_nonempty (down {c = c} {r = r} u e x) q = absurd (omega (arith, sym (length-reverse (c ∷ r)) ∙ ap length q))

pub row_begins : {m : Shape} {ends : List End} → Passes m ends → {n : ℕ} {r : List ℕ} → Up m (suc n) r → Begins (reverse r) (forms ends)
row_begins {m} c {n} {r} x =
    let q = c.covered n (up_used x) in
    let o = on_row q.on (c.ways q.end q.among) in
    let same : o.row ≡ r = up_same o.up x in
    record {
      form = q.end.form;
      among = end_form q.end q.among;
      rest = reverse o.before;
      not_empty = row_nonempty x;
      is = ap (λ (z : List ℕ). reverse z ++ reverse o.before) (sym same) ∙ forwards o.before o.row q.end.form o.is;
    }

pub begins_row : {m : Shape} {ends : List End} → Passes m ends → (r : List ℕ) → Begins (reverse r) (forms ends) → (n : ℕ) × Up m (suc n) r
begins_row pass [] b = absurd (b.not_empty refl)
begins_row {m} {ends} pass (c ∷ r) b =
    let x = Memᴰ.of_map (λ (y : End). y.form) ends b.among in
    let up : Up m (suc x.0.last) (reverse b.rest ++ c ∷ r) =
    subst (λ (z : List ℕ). Up m (suc x.0.last) z)
    (ap reverse (x.2 ∙ sym b.is) ∙ reverse-append (reverse (c ∷ r)) b.rest ∙ ap (λ (z : List ℕ). reverse b.rest ++ z) (reverse-reverse (c ∷ r)))
    (pass.ways x.0 x.1) in
    let q = row_on (reverse b.rest) up in
    (q.0, q.1)

pub row_short : {m : Shape} {ends : List End} → Passes m ends → Short (forms ends) → (n : ℕ) (r : List ℕ) → Up m (suc n) r → length r ≤ 33
row_short c s n r u =
    let b = row_begins c u in omega (arith, sym (length-append (reverse r) b.rest) ∙ ap length b.is, length-reverse r, s b.form b.among)

-- ---- where no form is a proper beginning of another

module _ {m : Shape} {ends : List End} (c : Passes m ends) (free : PrefixFree (forms ends)) where
  -- an end on the way of another has its last node
  pub end_on : (x y : End) → Memᴰ x ends → Memᴰ y ends → On m x.last (suc y.last) → x.last ≡ y.last
  end_on x y i j o =
      let e = on_row o (c.ways y j) in
      let same : e.row ≡ reverse x.form = up_same e.up (c.ways x i) in
      let whole : x.form ++ reverse e.before ≡ y.form =
      ap (λ (z : List ℕ). z ++ reverse e.before) (sym (reverse-reverse x.form) ∙ ap reverse (sym same)) ∙ forwards e.before e.row y.form e.is in
      let none : reverse e.before ≡ [] = free x.form y.form (end_form x i) (end_form y j) (reverse e.before) whole in
      let one : x.form ≡ y.form = sym (append-nil x.form) ∙ ap (λ (z : List ℕ). x.form ++ z) (sym none) ∙ whole in
      suc_inj (up_one (passes_tree c) (subst (λ (z : List ℕ). Up m (suc x.last) z) (ap reverse one) (c.ways x i)) (c.ways y j))

  pub end_childless : (x : End) → Memᴰ x ends → m.first (suc x.last) ≡ 0
  end_childless x i = go (m.first (suc x.last)) refl
    where
      go : (l : ℕ) → m.first (suc x.last) ≡ l → l ≡ 0
      go zero e = refl
      go (suc k) e =
          let b = row_begins c (up_child (passes_tree c) (suc x.last) (c.ways x i) e) in
          let whole : x.form ++ (m.cell k ∷ b.rest) ≡ b.form =
          sym (append_assoc x.form (m.cell k ∷ []) b.rest)
          ∙ ap (λ (z : List ℕ). (z ++ (m.cell k ∷ [])) ++ b.rest) (sym (reverse-reverse x.form))
          ∙ ap (λ (z : List ℕ). z ++ b.rest) (sym (reverse-cons (m.cell k) (reverse x.form)))
          ∙ b.is in
          let none = free x.form b.form (end_form x i) b.among (m.cell k ∷ b.rest) whole in
          absurd (omega (arith, ap length none))
