-- What entering a name leads to, by the cases of its answer: the table still passes, entering again changes nothing, and the number
-- gives the name back.
use Rattle.std.specs.Prelude.{◌≡◌, List, [], ◌∷◌, ◌++◌, ℕ, ◌-◌, Result}
use Rattle.std.proofs.Common.{sym, ap, subst, ◌∙◌, arith}
use Rattle.names.specs.Table.{put, Holds, Passes}
use Rattle.names.specs.Calls.{Enters, table_after, Entry, Refusal, refusal_of_entry, number_of_entry, NameIs}
use Rattle.names.specs.Cases.{Given, failing, no_name, held, new, no_slot, leaves}
use Rattle.names.specs.Once.{passes, enters_once}
use Rattle.names.specs.Entering.{more_length, more_last, put_holds, again, given_again, again_stays, again_says, Same, name_held}
use Rattle.names.proofs.Cases.{given, enters_so}

enters_again : {t name : List ℕ} (a : Result Entry Refusal) (s : List ℕ) → Enters t name a s → Enters s name (again a) s
enters_again {t} {name} a s p = enters_so (again a) (subst (λ (x : List ℕ). Given x name (again a)) (sym (leaves p)) (given_again a (given p))) (sym (again_stays s name a))

pub entered_twice : {t name : List ℕ} (a b : Result Entry Refusal) (s u : List ℕ) → Enters t name a s → Enters s name b u → Same a b s u
entered_twice a b s u p q =
    let e = enters_once b (again a) u s q (enters_again a s p) in
    record { refusal = ap refusal_of_entry e.0 ∙ (again_says a).0; number = ap number_of_entry e.0 ∙ (again_says a).1; table = e.1 }

-- A table that passes still passes after any answer.
pub stays_passing : {t name : List ℕ} (a : Result Entry Refusal) (s : List ℕ) → Enters t name a s → Passes t → Passes s
stays_passing {t} {name} a s p q = subst Passes (sym (leaves p)) (go a (given p))
  where
    go : (x : Result Entry Refusal) → Given t name x → Passes (table_after t name x)
    go x (failing f) = q
    go x (no_name r n) = q
    go x (held h l e) = q
    go x (new h n m z e) = subst (λ (j : ℕ). Passes (put t j name)) (sym e) (passes (put_holds h name z n m))
    go x (no_slot h n m) = q

-- The name of the number that `enter` gave is the name.
pub entered_name : {t name : List ℕ} (a : Result Entry Refusal) (s part : List ℕ) → Enters t name a s → refusal_of_entry a ≡ 0 → NameIs s (number_of_entry a) part → part ≡ name
entered_name {t} {name} a s part p z q = go a (given p) z (subst (λ (x : List ℕ). NameIs x (number_of_entry a) part) (leaves p) q)
  where
    go : (x : Result Entry Refusal) → Given t name x → refusal_of_entry x ≡ 0 → NameIs (table_after t name x) (number_of_entry x) part → part ≡ name
    go x (failing f) r i = absurd (omega arith)
    go x (no_name f n) r i = absurd (omega arith)
    go x (held {k = k} h l e) r i = name_held h k l part i ∙ e
    go x (new {names = names} {free = free} {k = k} h n m y e) r i =
        let after = subst (λ (j : ℕ). Holds (put t j name) (names ++ (name ∷ [])) (free - 1)) (sym e) (put_holds h name y n m) in
        name_held after k (omega (arith, more_length names name)) part i ∙ more_last names name k e
    go x (no_slot h n m) r i = absurd (omega arith)
