-- The answer of `enter` case by case: exactly when each is given. That `entry_in` computes it so is read off in proofs/Cases.
use Rattle.std.specs.Prelude.{◌≡◌, refl, Bool, true, false, List, [], ◌∷◌, ◌++◌, ℕ, zero, suc, ◌+◌, ◌-◌, ◌≤◌, ◌<◌, eqb, leb, ltb, length, get_or, Result, Ok, Err}
use Rattle.std.proofs.Common.{sym, ap, ap₂, ◌∙◌, arith, ltb-true, ltb-false, leb-true, leb-false, eq-eqb, eqb-true}
use Rattle.std.proofs.lemmas.Bool.{eqb-false}
use Rattle.deciding.specs.Deciding.{Decides, pick}
use Rattle.names.specs.Name.{IsName, printed, passes_as_name}
use Rattle.names.specs.Table.{Apart, Missing, same, slot_in, Holds, Passes}
use Rattle.names.specs.Calls.{Entry, Held, New, Refusal, NoTable, NoName, NoSlot, entry_in, table_after, Enters, entered, no_table}

-- Exactly when `enter` gives each answer, in the order 1, 11, held, 12.
pub data Given (table name : List ℕ) : Result Entry Refusal → Type 0 where
  failing : (Passes table → ⊥) → Given table name (Err NoTable)
  no_name : Passes table → (IsName name → ⊥) → Given table name (Err NoName)
  held : {names : List (List ℕ)} {free k : ℕ} → Holds table names free → k < length names → get_or names k [] ≡ name → Given table name (Ok (Held k))
  new : {names : List (List ℕ)} {free k : ℕ} → Holds table names free → IsName name → Missing names name → 0 < free → k ≡ length names → Given table name (Ok (New k))
  no_slot : {names : List (List ℕ)} → Holds table names 0 → IsName name → Missing names name → Given table name (Err NoSlot)

wrong : {P : Type 0} → true ≡ false → P
wrong e = absurd (let z : ◌≡◌ {A = ℕ} 0 1 = cc in omega arith)

-- ---- what is a name

printed_yes : (name : List ℕ) → printed name ≡ true → (i : ℕ) → i < length name → (32 ≤ get_or name i 0) × (get_or name i 0 ≤ 126)
unfolding printed
printed_yes [] e i l = absurd (omega arith)
printed_yes (b ∷ name) e i l = go (leb 32 b) (leb b 126) refl refl e i l (printed_yes name)
  where
    go : (p q : Bool) → leb 32 b ≡ p → leb b 126 ≡ q → pick p (pick q (printed name) false) false ≡ true → (i : ℕ) → i < suc (length name)
        → (printed name ≡ true → (i : ℕ) → i < length name → (32 ≤ get_or name i 0) × (get_or name i 0 ≤ 126)) → (32 ≤ get_or (b ∷ name) i 0) × (get_or (b ∷ name) i 0 ≤ 126)
    go true true x y e zero l ih = (leb-true 32 b x, leb-true b 126 y)
    go true true x y e (suc i) l ih = ih e i (omega arith)
    go true false x y e i l ih = wrong (sym e)
    go false q x y e i l ih = wrong (sym e)

printed_no : (name : List ℕ) → printed name ≡ false → ((i : ℕ) → i < length name → (32 ≤ get_or name i 0) × (get_or name i 0 ≤ 126)) → ⊥
unfolding printed
printed_no [] e h = wrong e
printed_no (b ∷ name) e h = go (leb 32 b) (leb b 126) refl refl e (printed_no name)
  where
    first : (32 ≤ b) × (b ≤ 126)
    first = h 0 (omega arith)

    go : (p q : Bool) → leb 32 b ≡ p → leb b 126 ≡ q → pick p (pick q (printed name) false) false ≡ false
        → (printed name ≡ false → ((i : ℕ) → i < length name → (32 ≤ get_or name i 0) × (get_or name i 0 ≤ 126)) → ⊥) → ⊥
    go true true x y e ih = ih e (λ i l. h (suc i) (omega arith))
    go true false x y e ih = let a = leb-false b 126 y in let c = first.1 in omega arith
    go false q x y e ih = let a = leb-false 32 b x in let c = first.0 in omega arith

-- The computed test decides it.
pub is_name_decides : (name : List ℕ) → Decides (IsName name) (passes_as_name name)
is_name_decides name = go (ltb 0 n) (leb n 31) (printed name) (eqb (get_or name 0 0) 32) (eqb (get_or name (n - 1) 0) 32) refl refl refl refl refl
  where
    n : ℕ
    n = length name

    no : {b : Bool} → b ≡ false → (IsName name → ⊥) → Decides (IsName name) b
    no e f = record { yes = λ q. wrong (sym q ∙ e); no = λ _. f }

    go : (a b c d e : Bool) → ltb 0 n ≡ a → leb n 31 ≡ b → printed name ≡ c → eqb (get_or name 0 0) 32 ≡ d → eqb (get_or name (n - 1) 0) 32 ≡ e
        → Decides (IsName name) (pick a (pick b (pick c (pick d false (pick e false true)) false) false) false)
    go true true true false false a b c d e = record {
      yes = λ _. record { some = ltb-true 0 n a; short = leb-true n 31 b; printed = printed_yes name c; begins = eqb-false (get_or name 0 0) 32 d; ends = eqb-false (get_or name (n - 1) 0) 32 e };
      no = λ q. wrong q;
    }
    go true true true false true a b c d e = no refl (λ x. x.ends (eqb-true (get_or name (n - 1) 0) 32 e))
    go true true true true q a b c d e = no refl (λ x. x.begins (eqb-true (get_or name 0 0) 32 d))
    go true true false p q a b c d e = no refl (λ x. printed_no name c x.printed)
    go true false r p q a b c d e = no refl (λ x. let z = leb-false n 31 b in let y = x.short in omega arith)
    go false s r p q a b c d e = no refl (λ x. let z = ltb-false 0 n a in let y = x.some in omega arith)

pub is_name : (name : List ℕ) → IsName name → passes_as_name name ≡ true
is_name name i = go (passes_as_name name) refl
  where
    go : (b : Bool) → passes_as_name name ≡ b → passes_as_name name ≡ true
    go true e = e
    go false e = absurd ((is_name_decides name).no e i)

pub not_name : (name : List ℕ) → (IsName name → ⊥) → passes_as_name name ≡ false
not_name name f = go (passes_as_name name) refl
  where
    go : (b : Bool) → passes_as_name name ≡ b → passes_as_name name ≡ false
    go false e = e
    go true e = absurd (f ((is_name_decides name).yes e))

-- ---- which slot

pub same_is : (s t : List ℕ) → same s t ≡ true → s ≡ t
unfolding same
same_is [] [] e = refl
same_is [] (b ∷ t) e = wrong (sym e)
same_is (a ∷ s) [] e = wrong (sym e)
same_is (a ∷ s) (b ∷ t) e = go (eqb a b) refl e (same_is s t)
  where
    go : (p : Bool) → eqb a b ≡ p → pick p (same s t) false ≡ true → (same s t ≡ true → s ≡ t) → a ∷ s ≡ b ∷ t
    go true q e ih = ap₂ (λ (x : ℕ) (l : List ℕ). x ∷ l) (eqb-true a b q) (ih e)
    go false q e ih = wrong (sym e)

pub same_self : (s : List ℕ) → same s s ≡ true
unfolding same
same_self [] = refl
same_self (a ∷ s) = ap (λ (b : Bool). pick b (same s s) false) (eq-eqb a a refl) ∙ same_self s

-- names apart: a name's slot is the one that has it
pub slot_of_it : (names : List (List ℕ)) (k : ℕ) (name : List ℕ) → Apart names → k < length names → get_or names k [] ≡ name → slot_in names name ≡ k
unfolding slot_in
slot_of_it [] k name a l e = absurd (omega arith)
slot_of_it (x ∷ names) zero name a l e = ap (λ (b : Bool). pick b 0 (suc (slot_in names name))) (ap (same x) (sym e) ∙ same_self x)
slot_of_it (x ∷ names) (suc k) name a l e = go (same x name) refl (slot_of_it names k name (λ i j h m. a (suc i) (suc j) (omega arith) (omega arith)) (omega arith) e)
  where
    go : (b : Bool) → same x name ≡ b → slot_in names name ≡ k → pick b 0 (suc (slot_in names name)) ≡ suc k
    go true q ih = absurd (a 0 (suc k) (omega arith) l (same_is x name q ∙ sym e))
    go false q ih = ap suc ih

pub slot_missing : (names : List (List ℕ)) (name : List ℕ) → Missing names name → slot_in names name ≡ length names
unfolding slot_in
slot_missing [] name m = refl
slot_missing (x ∷ names) name m = go (same x name) refl (slot_missing names name (λ k l. m (suc k) (omega arith)))
  where
    go : (b : Bool) → same x name ≡ b → slot_in names name ≡ length names → pick b 0 (suc (slot_in names name)) ≡ suc (length names)
    go true q ih = absurd (m 0 (omega arith) (same_is x name q))
    go false q ih = ap suc ih

pub slot_has : (names : List (List ℕ)) (name : List ℕ) → slot_in names name < length names → get_or names (slot_in names name) [] ≡ name
unfolding slot_in
slot_has [] name l = absurd (omega arith)
slot_has (x ∷ names) name l = go (same x name) refl l (slot_has names name)
  where
    go : (b : Bool) → same x name ≡ b → pick b 0 (suc (slot_in names name)) < suc (length names) → (slot_in names name < length names → get_or names (slot_in names name) [] ≡ name)
        → get_or (x ∷ names) (pick b 0 (suc (slot_in names name))) [] ≡ name
    go true q l ih = same_is x name q
    go false q l ih = ih (omega arith)

pub slot_none : (names : List (List ℕ)) (name : List ℕ) → Apart names → length names ≤ slot_in names name → Missing names name
slot_none names name a h k l e = omega (arith, slot_of_it names k name a l e)

pub slot_within : (names : List (List ℕ)) (name : List ℕ) → slot_in names name ≤ length names
unfolding slot_in
slot_within [] name = omega arith
slot_within (x ∷ names) name = go (same x name) (slot_within names name)
  where
    go : (b : Bool) → slot_in names name ≤ length names → pick b 0 (suc (slot_in names name)) ≤ suc (length names)
    go true ih = omega arith
    go false ih = omega arith

-- Among the names of two lists, one behind the other.
pub slot_left : (names others : List (List ℕ)) (name : List ℕ) → slot_in names name < length names → slot_in (names ++ others) name ≡ slot_in names name
unfolding slot_in
slot_left [] others name l = absurd (omega arith)
slot_left (x ∷ names) others name l = go (same x name) refl l (slot_left names others name)
  where
    go : (b : Bool) → same x name ≡ b → pick b 0 (suc (slot_in names name)) < suc (length names) → (slot_in names name < length names → slot_in (names ++ others) name ≡ slot_in names name)
        → pick b 0 (suc (slot_in (names ++ others) name)) ≡ pick b 0 (suc (slot_in names name))
    go true q l ih = refl
    go false q l ih = ap suc (ih (omega arith))

pub slot_right : (names others : List (List ℕ)) (name : List ℕ) → length names ≤ slot_in names name → slot_in (names ++ others) name ≡ length names + slot_in others name
unfolding slot_in
slot_right [] others name l = omega arith
slot_right (x ∷ names) others name l = go (same x name) refl l (slot_right names others name)
  where
    go : (b : Bool) → same x name ≡ b → suc (length names) ≤ pick b 0 (suc (slot_in names name)) → (length names ≤ slot_in names name → slot_in (names ++ others) name ≡ length names + slot_in others name)
        → pick b 0 (suc (slot_in (names ++ others) name)) ≡ suc (length names) + slot_in others name
    go true q l ih = absurd (omega arith)
    go false q l ih = let e = ih (omega arith) in omega arith

-- ---- the answer

module _ {t : List ℕ} {names : List (List ℕ)} {free : ℕ} (h : Holds t names free) (name : List ℕ) where
  pub entry_no_name : (IsName name → ⊥) → entry_in names free name ≡ Err NoName
  entry_no_name f = rw (not_name name f) refl

-- ---- the promise and its cases

pub leaves : {t name s : List ℕ} {a : Result Entry Refusal} → Enters t name a s → s ≡ table_after t name a
leaves (entered h e l) = l
leaves {t} {name} (no_table f e l) = l ∙ sym (ap (table_after t name) e)
