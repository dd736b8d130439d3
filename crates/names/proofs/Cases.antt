-- The answer of `enter` case by case, as far as it rests on which slot `entry_in` looks up: an edit of that is refused here.
use Rattle.std.specs.Prelude.{◌≡◌, refl, Bool, true, false, List, [], ℕ, ◌<◌, ltb, length, get_or, Result, Ok, Err}
use Rattle.std.proofs.Common.{sym, ap, subst, ◌∙◌, arith, lt-ltb, le-ltb, ltb-true, ltb-false}
use Rattle.deciding.specs.Deciding.{pick}
use Rattle.names.specs.Name.{IsName, passes_as_name}
use Rattle.names.specs.Table.{Missing, slot_in, Holds}
use Rattle.names.specs.Calls.{Entry, Held, New, Refusal, NoName, NoSlot, entry_in, table_after, Enters, entered, no_table}
use Rattle.names.specs.Cases.{Given, failing, no_name, held, new, no_slot, is_name_decides, is_name, slot_of_it, slot_missing, slot_has, slot_none, entry_no_name}

-- ---- the answer

module _ {t : List ℕ} {names : List (List ℕ)} {free : ℕ} (h : Holds t names free) (name : List ℕ) where
  past : IsName name → entry_in names free name ≡ pick (ltb (slot_in names name) (length names)) (Ok (Held (slot_in names name))) (pick (ltb 0 free) (Ok (New (length names))) (Err NoSlot))
  past i = ap (λ (b : Bool). pick b (pick (ltb (slot_in names name) (length names)) (Ok (Held (slot_in names name))) (pick (ltb 0 free) (Ok (New (length names))) (Err NoSlot))) (Err NoName)) (is_name name i)

  pub entry_held : (k : ℕ) → k < length names → get_or names k [] ≡ name → entry_in names free name ≡ Ok (Held k)
  entry_held k l e =
      let s = slot_of_it names k name h.apart l e in
      past (subst IsName e (h.named k l))
      ∙ ap (λ (b : Bool). pick b (Ok (Held (slot_in names name))) (pick (ltb 0 free) (Ok (New (length names))) (Err NoSlot))) (lt-ltb (slot_in names name) (length names) (subst (λ (z : ℕ). z < length names) (sym s) l))
      ∙ ap (λ (i : ℕ). Ok (Held i)) s

  missed : IsName name → Missing names name → entry_in names free name ≡ pick (ltb 0 free) (Ok (New (length names))) (Err NoSlot)
  missed i m =
      past i
      ∙ ap (λ (b : Bool). pick b (Ok (Held (slot_in names name))) (pick (ltb 0 free) (Ok (New (length names))) (Err NoSlot)))
      (le-ltb (slot_in names name) (length names) (let e = slot_missing names name m in omega arith))

  pub entry_new : IsName name → Missing names name → 0 < free → entry_in names free name ≡ Ok (New (length names))
  entry_new i m z = missed i m ∙ ap (λ (b : Bool). pick b (Ok (New (length names))) (Err NoSlot)) (lt-ltb 0 free z)

  pub entry_no_slot : IsName name → Missing names name → free ≡ 0 → entry_in names free name ≡ Err NoSlot
  entry_no_slot i m z = missed i m ∙ ap (λ (b : Bool). pick b (Ok (New (length names))) (Err NoSlot)) (le-ltb 0 free (omega arith))

  -- each case of the function
  pub entry_given : Given t name (entry_in names free name)
  entry_given = go (passes_as_name name) (ltb (slot_in names name) (length names)) (ltb 0 free) refl refl refl
    where
      missing : ltb (slot_in names name) (length names) ≡ false → Missing names name
      missing e = slot_none names name h.apart (ltb-false (slot_in names name) (length names) e)

      go : (a b c : Bool) → passes_as_name name ≡ a → ltb (slot_in names name) (length names) ≡ b → ltb 0 free ≡ c
          → Given t name (pick a (pick b (Ok (Held (slot_in names name))) (pick c (Ok (New (length names))) (Err NoSlot))) (Err NoName))
      go false b c e f g = no_name (record { names = names; free = free; holds = h }) ((is_name_decides name).no e)
      go true true c e f g = let l = ltb-true (slot_in names name) (length names) f in held h l (slot_has names name l)
      go true false true e f g = new h ((is_name_decides name).yes e) (missing f) (ltb-true 0 free g) refl
      go true false false e f g = no_slot (subst (Holds t names) (let z = ltb-false 0 free g in let q : free ≡ 0 = omega arith in q) h) ((is_name_decides name).yes e) (missing f)

-- ---- the promise and its cases

pub given : {t name s : List ℕ} {a : Result Entry Refusal} → Enters t name a s → Given t name a
given {t} {name} (entered h e l) = subst (Given t name) (sym e) (entry_given h name)
given {t} {name} (no_table f e l) = subst (Given t name) (sym e) (failing f)

pub enters_so : {t name s : List ℕ} (a : Result Entry Refusal) → Given t name a → s ≡ table_after t name a → Enters t name a s
enters_so {t} {name} {s} a (failing f) l = no_table f refl l
enters_so {t} {name} {s} a (no_name p n) l = entered p.holds (sym (entry_no_name p.holds name n)) l
enters_so {t} {name} {s} a (held {k = k} h b e) l = entered h (sym (entry_held h name k b e)) l
enters_so {t} {name} {s} a (new h n m z e) l = entered h (ap (λ (i : ℕ). Ok (New i)) e ∙ sym (entry_new h name n m z)) l
enters_so {t} {name} {s} a (no_slot h n m) l = entered h (sym (entry_no_slot h name n m refl)) l
