-- One byte put, and a loop that puts: what is still to be put leads to the same end.
use Rattle.std.specs.Prelude.{◌≡◌, refl, List, [], ◌∷◌, ◌++◌, Bool, ℕ, suc, ◌+◌, ◌≤◌, ◌<◌, length, drop, get_or, set}
use Rattle.std.proofs.Common.{sym, ap, ◌∙◌, arith, lt-ltb, le-ltb, drop-cons}
use Rattle.deciding.specs.Deciding.{pick}
use Rattle.writing.specs.Writing.{Page, page, byte_put, puts, puts_append, Puts}

pub put_in : (b : ℕ) (text : List ℕ) (at : ℕ) → at < length text → Puts (b ∷ []) text at (set text at b) (at + 1)
unfolding puts byte_put
put_in b text at h = record { put = ap (λ (t : Bool). pick t (page (set text at b) (at + 1)) (page text at)) (sym (lt-ltb at (length text) h)) }

pub put_out : (b : ℕ) (text : List ℕ) (at : ℕ) → length text ≤ at → Puts (b ∷ []) text at text at
unfolding puts byte_put
put_out b text at h = record { put = ap (λ (t : Bool). pick t (page (set text at b) (at + 1)) (page text at)) (sym (le-ltb at (length text) h)) }

-- These bytes, put at this page, lead to the end.
pub record Rest (bytes text : List ℕ) (at : ℕ) (end : Page) : Type 0 where
  pub leads : puts bytes (page text at) ≡ end

pub all_left : (bytes text : List ℕ) (at : ℕ) → Rest bytes text at (puts bytes (page text at))
all_left bytes text at = record { leads = refl }

pub some_put : {bytes a : List ℕ} (b : List ℕ) {text : List ℕ} {at : ℕ} {after : List ℕ} {place : ℕ} {end : Page}
    → bytes ≡ a ++ b → Rest bytes text at end → Puts a text at after place → Rest b after place end
some_put {bytes} {a} b {text} {at} e r p =
    record { leads = ap (puts b) p.put ∙ sym (puts_append a b (page text at)) ∙ ap (λ (l : List ℕ). puts l (page text at)) (sym e) ∙ r.leads }

pub none_left : {rest bytes text : List ℕ} {at : ℕ} {after : List ℕ} {place : ℕ} → rest ≡ [] → Rest rest after place (puts bytes (page text at))
    → Puts bytes text at after place
unfolding puts
none_left {after = after} {place = place} e r = record { put = ap (λ (l : List ℕ). puts l (page after place)) (sym e) ∙ r.leads }

-- One more of a list is passed.
pub one_more : (l : List ℕ) (i : ℕ) → i < length l → drop i l ≡ get_or l i 0 ∷ drop (i + 1) l
one_more l i h = let e : suc i ≡ i + 1 = omega arith in drop-cons l i 0 h ∙ ap (λ (k : ℕ). get_or l i 0 ∷ drop k l) e
