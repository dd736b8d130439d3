-- What planting a form means for the rules that hang: all that passing says stays, up to the new way down; and the refusal is given exactly
-- where the node count would pass 4,096
use Rattle.std.specs.Prelude.{◌≡◌, ◌⊎◌, ℕ, suc, ◌+◌, ◌-◌, ◌≤◌, ◌<◌, length, take, drop}
use Rattle.std.proofs.Common.{sym, ap, ◌∙◌, subst, inl, inr, arith, take-append-drop, length-drop, drop-cons}
use mathlib.Core.List.Memᴰ
use mathlib.Core.List.{List, [], ◌∷◌, ◌++◌, reverse, reverse-append, append_assoc, Memᴰ, head-eq_of_cons-eq, reverse-cons, reverse-reverse, tail-eq_of_cons-eq}
use Rattle.std.proofs.lemmas.List.{length-reverse}
use Rattle.layout.specs.Layout.{nodes_limit}
use Rattle.shape.specs.Shape.{Up, End, Passes, Shape, down, On, Covered}
use Rattle.shape.specs.Rows.{up_same, on_row}
use Rattle.shape.specs.Partly.{Partly, begin_add, grown_partly, on_short}
use Rattle.shape.specs.Tally.{tally}
use Rattle.shape.specs.NodeCount.{node_count_is, nodes_more}
use Rattle.shape.specs.Leaves.{Leaf, bases, Hanging, inner, numbered, end_of, ends}
use Rattle.links.specs.Words.{shape}
use Rattle.tree.specs.Promises.{Absent, Planted}

module _ (ws ws' form : List ℕ) (link : ℕ) (p : Planted ws ws' form link) where
  whole : reverse (drop p.depth form) ++ reverse (take p.depth form) ≡ reverse form
  whole = sym (reverse-append (take p.depth form) (drop p.depth form)) ∙ ap reverse (take-append-drop p.depth form)

  pub planted_partly : ¬ (link ≡ 0) → (es : List End) → Passes (shape ws) es → Partly (shape ws') es link (reverse form)
  planted_partly h es c = subst (λ (z : List ℕ). Partly (shape ws') es link z) whole (grown_partly (p.grown h) (begin_add c p.descended.at))

  -- the node count with the new form, and so when it is refused; no form that hangs begins the new one properly
  module _ (xs : List Leaf) (hang : Hanging (shape ws) xs) (free : (x : Leaf) → Memᴰ x xs → (s : List ℕ) → x.form ++ s ≡ form → s ≡ [])
      (new : List (List ℕ)) (of : (f : List ℕ) → Memᴰ f new → (f ≡ form) ⊎ Memᴰ f (bases xs))
      (kept : (f : List ℕ) → Memᴰ f (bases xs) → Memᴰ f new) (joined : Memᴰ form new) where
    pub count_new : node_count_is new ≡ tally (shape ws).used nodes_limit + (length form - p.depth)
    count_new =
        nodes_more (shape ws) (bases xs) (numbered hang) new form of kept joined (take p.depth form) (drop p.depth form) p.at
        (sym (take-append-drop p.depth form)) p.descended.at below missing
        ∙ ap (λ (k : ℕ). tally (shape ws).used nodes_limit + k) (length-drop p.depth form)
      where
        below : (n : ℕ) (q u : List ℕ) → q ++ u ≡ take p.depth form → Up (shape ws) (suc n) (reverse q) → n < nodes_limit
        below n q u e up = inner hang n q form free (u ++ drop p.depth form)
            (sym (append_assoc q u (drop p.depth form)) ∙ ap (λ (z : List ℕ). z ++ drop p.depth form) e ∙ take-append-drop p.depth form) up

        missing : (d : ℕ) (u : List ℕ) → drop p.depth form ≡ d ∷ u → Absent (shape ws) p.at d
        missing d u q =
            let h : p.depth < length form = omega (arith, length-drop p.depth form, ap length q) in
            subst (λ (k : ℕ). Absent (shape ws) p.at k) (head-eq_of_cons-eq (sym (drop-cons form p.depth 0 h) ∙ q)) (p.descended.absent h)

    pub planted_full : link ≡ 0 → nodes_limit < node_count_is new
    planted_full e = rw count_new (p.full e).1

    pub planted_fits : ¬ (link ≡ 0) → node_count_is new ≤ nodes_limit
    planted_fits h = rw count_new (p.fits h)

-- no rule below the form's last node has a number that none of the rules of that form has
pub no_rule : {m : Shape} {xs : List Leaf} {l : ℕ} (f : List ℕ) (k : ℕ) → Partly m (ends xs) l (reverse f)
    → ((x : Leaf) → Memᴰ x xs → (s : List ℕ) → f ++ s ≡ x.form → s ≡ []) → ((x : Leaf) → Memᴰ x xs → x.form ≡ f → ¬ (x.number ≡ k)) → Absent m l k
no_rule {m} {xs} {l} f k p free other n u e c = by (p.covered n u)
  where
    row : Up m (suc n) (k ∷ reverse f)
    row = down u c (subst (λ (z : ℕ). Up m z (reverse f)) (sym e) p.at)

    -- the node's row ends that of a rule
    at : (x : Leaf) → Memᴰ x xs → (b : List ℕ) → b ++ (k ∷ reverse f) ≡ x.number ∷ reverse x.form → ⊥
    at x i [] q = other x i (sym (reverse-reverse x.form) ∙ ap reverse (sym (tail-eq_of_cons-eq q)) ∙ reverse-reverse f) (sym (head-eq_of_cons-eq q))
    at x i (d ∷ b) q =
        let whole : f ++ (k ∷ reverse b) ≡ x.form =
        sym (append_assoc f (k ∷ []) (reverse b))
        ∙ ap (λ (z : List ℕ). z ++ reverse b) (ap (λ (z : List ℕ). z ++ (k ∷ [])) (sym (reverse-reverse f)) ∙ sym (reverse-cons k (reverse f)))
        ∙ sym (reverse-append b (k ∷ reverse f)) ∙ ap reverse (tail-eq_of_cons-eq q) ∙ reverse-reverse x.form in
        let z = free x i (k ∷ reverse b) whole in
        absurd (omega (arith, ap length z))

    by : Covered m (ends xs) n ⊎ On m n l → ⊥
    by (inl o) =
        let q = Memᴰ.of_map end_of xs o.among in
        let r = on_row o.on (p.ways o.end o.among) in
        let same : r.row ≡ k ∷ reverse f = up_same r.up row in
        at q.0 q.1 r.before
        (ap (λ (z : List ℕ). r.before ++ z) (sym same) ∙ r.is ∙ ap (λ (y : End). reverse y.form) (sym q.2) ∙ reverse-append q.0.form (q.0.number ∷ []))
    by (inr o) = let h = on_short o p.at row in omega (arith, length-reverse f)
