-- The node count counts what it says: the rows counted are exactly the non-empty beginnings, each once; and it does not
-- depend on how cells are written.
use Rattle.std.specs.Prelude.{◌≡◌, refl, ◌⊎◌, ◌↔◌, Bool, true, false, not, ℕ, suc}
use Rattle.std.proofs.Common.{sym, ap₂, ◌∙◌, subst, inl, inr, arith}
use Rattle.std.proofs.Math.Path.{ap}
use mathlib.Core.List.Memᴰ
use mathlib.Core.List.{List, [], ◌∷◌, ◌++◌, map, Memᴰ}
use Rattle.std.proofs.Math.ListN.{length}
use Rattle.deciding.specs.Deciding.{both, true_not_false}
use Rattle.term.specs.Beginnings.{inits, beginnings, either, put_if, same_rows, has, different, nodes, Distinct, Begins}
use Rattle.term.specs.Distinct.{put_member, put_keeps, put_adds, put_distinct, as_many, distinct_map}

pub cons_eq : {A : Type 0} {a b : A} {x y : List A} → a ≡ b → x ≡ y → a ∷ x ≡ b ∷ y
cons_eq {A} p q = ap₂ {C = List A} ◌∷◌ p q

not_nil : {A : Type 0} {c : A} {p : List A} → ¬ (c ∷ p ≡ [])
not_nil e = let z : ◌≡◌ {A = ℕ} 0 1 = cc in omega arith

-- The beginnings of one row ..
inits_begin : {A : Type 0} (f : List A) {p : List A} → Memᴰ p (inits f) → (¬ (p ≡ [])) × ((s : List A) × (p ++ s ≡ f))
inits_begin [] i = absurd (Memᴰ.not-nil i)
inits_begin {A} (c ∷ f) {p} i = go (λ q j. inits_begin f {p = q} j) (Memᴰ.cases_cons i)
  where
    go : ((q : List A) → Memᴰ q (inits f) → (¬ (q ≡ [])) × ((s : List A) × (q ++ s ≡ f)))
        → (p ≡ c ∷ []) ⊎ Memᴰ p (map (λ q. c ∷ q) (inits f)) → (¬ (p ≡ [])) × ((s : List A) × (p ++ s ≡ c ∷ f))
    go ih (inl e) = ((λ q. not_nil (sym e ∙ q)), (f, ap (λ (z : List A). z ++ f) e))
    go ih (inr j) =
        let q = Memᴰ.of_map (λ q. c ∷ q) (inits f) j in
        let h = ih q.0 q.1 in
        ((λ e. not_nil (q.2 ∙ e)), (h.1.0, ap (λ (z : List A). z ++ h.1.0) (sym q.2) ∙ cons_eq refl h.1.1))

begin_inits : {A : Type 0} (p : List A) (c : A) (s : List A) → Memᴰ (c ∷ p) (inits (c ∷ (p ++ s)))
begin_inits [] c s = Memᴰ.head refl
begin_inits (d ∷ p) c s = Memᴰ.tail (Memᴰ.map (λ q. c ∷ q) (begin_inits p d s))

pub inits_distinct : {A : Type 0} (f : List A) → Distinct (inits f)
inits_distinct [] = tt
inits_distinct {A} (c ∷ f) = (
  (λ i. let q = Memᴰ.of_map (λ p. c ∷ p) (inits f) i in (inits_begin f q.1).0 (tail q.2)),
  distinct_map (λ p. c ∷ p) (inits f) (inits_distinct f) (λ x y i j e. tail e),
)
  where
    tail : {p q : List A} → c ∷ p ≡ c ∷ q → p ≡ q
    tail e = cc

map_length : {A B : Type 0} (f : A → B) (l : List A) → length (map f l) ≡ length l
map_length f [] = refl
map_length f (x ∷ l) = ap suc (map_length f l)

pub inits_length : {A : Type 0} (f : List A) → length (inits f) ≡ length f
inits_length [] = refl
inits_length (c ∷ f) = ap suc (map_length (λ p. c ∷ p) (inits f) ∙ inits_length f)

-- .. and of some rows
pub of_beginnings : {A : Type 0} (forms : List (List A)) {p : List A} → Memᴰ p (beginnings forms) → Begins p forms
of_beginnings [] i = absurd (Memᴰ.not-nil i)
of_beginnings (f ∷ fs) {p} i = go (λ j. of_beginnings fs j) (Memᴰ.append_cases (inits f) i)
  where
    go : (Memᴰ p (beginnings fs) → Begins p fs) → Memᴰ p (inits f) ⊎ Memᴰ p (beginnings fs) → Begins p (f ∷ fs)
    go ih (inl j) = let q = inits_begin f j in record { form = f; among = Memᴰ.head refl; rest = q.1.0; is = q.1.1; not_empty = q.0 }
    go ih (inr j) = let q = ih j in record { form = q.form; among = Memᴰ.tail q.among; rest = q.rest; is = q.is; not_empty = q.not_empty }

form_inits : {A : Type 0} (forms : List (List A)) {f p : List A} → Memᴰ f forms → Memᴰ p (inits f) → Memᴰ p (beginnings forms)
form_inits [] i j = elim i [ ]
form_inits (g ∷ gs) {p} (Memᴰ.head e) i = Memᴰ.append_left (beginnings gs) (subst (λ z. Memᴰ p (inits z)) e i)
form_inits (g ∷ gs) (Memᴰ.tail j) i = Memᴰ.append_right (inits g) (form_inits gs j i)

pub to_beginnings : {A : Type 0} (forms : List (List A)) (p : List A) → Begins p forms → Memᴰ p (beginnings forms)
to_beginnings forms [] b = absurd (b.not_empty refl)
to_beginnings forms (c ∷ p) b = form_inits forms b.among (subst (λ z. Memᴰ (c ∷ p) (inits z)) b.is (begin_inits p c b.rest))

module _ {A : Type 0} (same : A → A → Bool) (sound : (a b : A) → same a b ≡ true → a ≡ b) (exact : (a : A) → same a a ≡ true) where
  same_row : (r s : List A) → same_rows same r s ≡ true → r ≡ s
  same_row [] [] e = refl
  same_row [] (d ∷ s) e = absurd (true_not_false e refl)
  same_row (c ∷ r) [] e = absurd (true_not_false e refl)
  same_row (c ∷ r) (d ∷ s) e = go (λ h. same_row r s h) (same c d) refl e
    where
      go : (same_rows same r s ≡ true → r ≡ s) → (b : Bool) → same c d ≡ b → both b (same_rows same r s) ≡ true → c ∷ r ≡ d ∷ s
      go ih true q e = cons_eq (sound c d q) (ih e)
      go ih false q e = absurd (true_not_false e refl)

  row_same : (r : List A) → same_rows same r r ≡ true
  row_same [] = refl
  row_same (c ∷ r) = ap (λ (b : Bool). both b (same_rows same r r)) (exact c) ∙ row_same r

  has_member : (rs : List (List A)) (p : List A) → has same rs p ≡ true → Memᴰ p rs
  has_member [] p e = absurd (true_not_false e refl)
  has_member (r ∷ rs) p e = go (λ h. has_member rs p h) (same_rows same r p) refl e
    where
      go : (has same rs p ≡ true → Memᴰ p rs) → (b : Bool) → same_rows same r p ≡ b → either b (has same rs p) ≡ true → Memᴰ p (r ∷ rs)
      go ih true q e = Memᴰ.head (sym (same_row r p q))
      go ih false q e = Memᴰ.tail (ih e)

  either_right : (b c : Bool) → c ≡ true → either b c ≡ true
  either_right true c e = refl
  either_right false c e = e

  member_has : (rs : List (List A)) (p : List A) → Memᴰ p rs → has same rs p ≡ true
  member_has [] p i = elim i [ ]
  member_has (r ∷ rs) p (Memᴰ.head e) = ap (λ (b : Bool). either b (has same rs p)) (ap (λ (z : List A). same_rows same z p) (sym e) ∙ row_same p)
  member_has (r ∷ rs) p (Memᴰ.tail i) = either_right (same_rows same r p) (has same rs p) (member_has rs p i)

  pub of_different : (rs : List (List A)) {p : List A} → Memᴰ p (different same rs) → Memᴰ p rs
  of_different [] i = i
  of_different (r ∷ rs) {p} i = go (λ (j : Memᴰ p (different same rs)). of_different rs j) (put_member (not (has same rs r)) r (different same rs) i)
    where
      go : (Memᴰ p (different same rs) → Memᴰ p rs) → ((not (has same rs r) ≡ true) × (p ≡ r)) ⊎ Memᴰ p (different same rs) → Memᴰ p (r ∷ rs)
      go ih (inl q) = Memᴰ.head q.1
      go ih (inr j) = Memᴰ.tail (ih j)

  pub to_different : (rs : List (List A)) {p : List A} → Memᴰ p rs → Memᴰ p (different same rs)
  to_different [] i = i
  to_different (r ∷ rs) {p} i = go (λ (j : Memᴰ p rs). to_different rs j) (has same rs r) refl (Memᴰ.cases_cons i)
    where
      go : (Memᴰ p rs → Memᴰ p (different same rs)) → (b : Bool) → has same rs r ≡ b → (p ≡ r) ⊎ Memᴰ p rs → Memᴰ p (different same (r ∷ rs))
      go ih b q (inr j) = put_keeps (not (has same rs r)) r (different same rs) (ih j)
      go ih true q (inl e) = put_keeps (not (has same rs r)) r (different same rs) (ih (Memᴰ.cast e (has_member rs r q)))
      go ih false q (inl e) = Memᴰ.cast e (put_adds (not (has same rs r)) r (different same rs) (ap not q))

  pub different_distinct : (rs : List (List A)) → Distinct (different same rs)
  different_distinct [] = tt
  different_distinct (r ∷ rs) = put_distinct (not (has same rs r)) r (different same rs) new (different_distinct rs)
    where
      new : not (has same rs r) ≡ true → ¬ (Memᴰ r (different same rs))
      new e i = true_not_false e (ap not (member_has rs r (of_different rs i)))

  -- What is counted: the non-empty beginnings, each once.
  pub counted : (forms : List (List A)) (p : List A) → Memᴰ p (different same (beginnings forms)) ↔ Begins p forms
  counted forms p = (λ i. of_beginnings forms (of_different (beginnings forms) i), λ b. to_different (beginnings forms) (to_beginnings forms p b))

  -- Any list of all the beginnings in which nothing stands twice has the node count for its length.
  pub nodes_of_rules : (forms rows : List (List A)) → Distinct rows → ((p : List A) → Memᴰ p rows ↔ Begins p forms) → length rows ≡ nodes same forms
  unfolding nodes
  nodes_of_rules forms rows d h =
      as_many rows (different same (beginnings forms)) d (different_distinct (beginnings forms))
      (λ p i. (counted forms p).1 ((h p).0 i)) (λ p i. (h p).1 ((counted forms p).0 i))

  -- The same forms, in any order and however often, have the same node count.
  pub nodes_same : (fs gs : List (List A)) → ((f : List A) → Memᴰ f fs ↔ Memᴰ f gs) → nodes same fs ≡ nodes same gs
  unfolding nodes
  nodes_same fs gs h = nodes_of_rules gs (different same (beginnings fs)) (different_distinct (beginnings fs))
      (λ p. (λ i. other (λ f. (h f).0) ((counted fs p).0 i), λ b. (counted fs p).1 (other (λ f. (h f).1) b)))
    where
      other : {p : List A} {fs gs : List (List A)} → ((f : List A) → Memᴰ f fs → Memᴰ f gs) → Begins p fs → Begins p gs
      other k b = record { form = b.form; among = k b.form b.among; rest = b.rest; is = b.is; not_empty = b.not_empty }

-- Written in another way by w, which keeps cells as equal or different as they are, forms have the same node count.
module _ {A B : Type 0} (sameA : A → A → Bool) (sameB : B → B → Bool) (w : A → B) (keeps : (a b : A) → sameB (w a) (w b) ≡ sameA a b) where
  row_map : (r s : List A) → same_rows sameB (map w r) (map w s) ≡ same_rows sameA r s
  row_map [] [] = refl
  row_map [] (d ∷ s) = refl
  row_map (c ∷ r) [] = refl
  row_map (c ∷ r) (d ∷ s) = ap₂ both (keeps c d) (row_map r s)

  has_map : (rs : List (List A)) (p : List A) → has sameB (map (map w) rs) (map w p) ≡ has sameA rs p
  has_map [] p = refl
  has_map (r ∷ rs) p = ap₂ either (row_map r p) (has_map rs p)

  put_map : (b : Bool) (r : List A) (rs : List (List A)) → put_if b (map w r) (map (map w) rs) ≡ map (map w) (put_if b r rs)
  put_map true r rs = refl
  put_map false r rs = refl

  different_map : (rs : List (List A)) → different sameB (map (map w) rs) ≡ map (map w) (different sameA rs)
  different_map [] = refl
  different_map (r ∷ rs) =
      ap₂ (λ (b : Bool) (l : List (List B)). put_if (not b) (map w r) l) (has_map rs r) (different_map rs)
      ∙ put_map (not (has sameA rs r)) r (different sameA rs)

  map_append : {C D : Type 0} (f : C → D) (a b : List C) → map f (a ++ b) ≡ map f a ++ map f b
  map_append f [] b = refl
  map_append f (x ∷ a) b = cons_eq refl (map_append f a b)

  map_cons : (c : A) (l : List (List A)) → map (λ p. w c ∷ p) (map (map w) l) ≡ map (map w) (map (λ p. c ∷ p) l)
  map_cons c [] = refl
  map_cons c (x ∷ l) = cons_eq refl (map_cons c l)

  inits_map : (f : List A) → inits (map w f) ≡ map (map w) (inits f)
  inits_map [] = refl
  inits_map (c ∷ f) = cons_eq refl (ap (map (λ p. w c ∷ p)) (inits_map f) ∙ map_cons c (inits f))

  beginnings_map : (fs : List (List A)) → beginnings (map (map w) fs) ≡ map (map w) (beginnings fs)
  beginnings_map [] = refl
  beginnings_map (f ∷ fs) = ap₂ ◌++◌ (inits_map f) (beginnings_map fs) ∙ sym (map_append (map w) (inits f) (beginnings fs))

  pub nodes_map : (forms : List (List A)) → nodes sameB (map (map w) forms) ≡ nodes sameA forms
  unfolding nodes
  nodes_map forms = ap length (ap (different sameB) (beginnings_map forms) ∙ different_map (beginnings forms)) ∙ map_length (map w) (different sameA (beginnings forms))
