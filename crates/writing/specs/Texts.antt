-- What the calls on a text promise, and how such calls make one.
use Rattle.std.specs.Prelude.{◌≡◌, refl, List, [], ◌++◌, ℕ}
use Rattle.std.proofs.Common.{sym, ap, ◌∙◌}
use mathlib.Core.List.{append_assoc, append-nil}
use Rattle.writing.specs.declared.Text.{Text}
use Rattle.writing.specs.Writing.{Puts, both, same_bytes, nothing}

-- The bytes were put, in the memory that was lent.
pub record Gains (before after : Text) (bytes : List ℕ) : Type 0 where
  pub same : after.bytes.ghost_name ≡ before.bytes.ghost_name
  pub puts : Puts bytes before.bytes.now before.at after.bytes.now after.at

pub none : {t : Text} → Gains t t []
none {t} = record { same = refl; puts = nothing }

-- Two calls, one after the other.
pub then : {a b : List ℕ} {s t u : Text} → Gains s t a → Gains t u b → Gains s u (a ++ b)
then p q = record { same = cc; puts = both p.puts q.puts }

pub these : {a b : List ℕ} {s t : Text} → a ≡ b → Gains s t a → Gains s t b
these e p = record { same = p.same; puts = same_bytes e p.puts }

-- A loop that puts: so much is put, and with what is left it is the whole.
pub record Left (before now : Text) (left whole : List ℕ) : Type 0 where
  pub done : List ℕ
  pub gains : Gains before now done
  pub whole_is : done ++ left ≡ whole

pub all_left : {t : Text} {whole : List ℕ} → Left t t whole whole
all_left = record { done = []; gains = none; whole_is = refl }

pub some_put : {b s t : Text} {left whole a : List ℕ} (rest : List ℕ) → left ≡ a ++ rest → Left b s left whole → Gains s t a → Left b t rest whole
some_put {a = a} rest e l g = record {
  done = l.done ++ a;
  gains = then l.gains g;
  whole_is = append_assoc l.done a rest ∙ ap (λ (z : List ℕ). l.done ++ z) (sym e) ∙ l.whole_is;
}

pub none_left : {b t : Text} {left whole : List ℕ} → left ≡ [] → Left b t left whole → Gains b t whole
none_left e l = these (sym (append-nil l.done) ∙ ap (λ (z : List ℕ). l.done ++ z) (sym e) ∙ l.whole_is) l.gains
