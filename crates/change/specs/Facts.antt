-- What adding and removing answer, and which rules they leave, depends on the set of rules alone.
use Rattle.std.specs.Prelude.{◌≡◌, Result, List, ℕ}
use Rattle.std.proofs.Common.{sym, ap, ap₂, ◌∙◌}
use Rattle.book.specs.declared.NotAdded.{NotAdded}
use Rattle.book.specs.declared.NotHeld.{NotHeld}
use Rattle.book.specs.Rules.{Rule, Rules, without_rule, judged, after, removal}
use Rattle.book.specs.Memory.{rules_in}
use Rattle.change.specs.Promises.{Adds, Removes}

module _ (ws vs : List ℕ) (same : rules_in ws ≡ rules_in vs) where
  pub adds_alike : (ws' vs' : List ℕ) (k : ℕ) (it : Rule) (r s : Result (Unit {0}) NotAdded) → Adds ws ws' k it r → Adds vs vs' k it s → (r ≡ s) × (rules_in ws' ≡ rules_in vs')
  adds_alike ws' vs' k it r s x y =
      let e : r ≡ s = x.answer ∙ ap (λ (z : Rules). judged z k it) same ∙ sym y.answer in
      (e, x.rules ∙ ap₂ (λ (a : Result (Unit {0}) NotAdded) (z : Rules). after a z k it) e same ∙ sym y.rules)

  pub removes_alike : (ws' vs' : List ℕ) (k : ℕ) (r s : Result (Unit {0}) NotHeld) → Removes ws ws' k r → Removes vs vs' k s → (r ≡ s) × (rules_in ws' ≡ rules_in vs')
  removes_alike ws' vs' k r s x y =
      (x.answer ∙ ap (λ (z : Rules). removal (z k)) same ∙ sym y.answer, x.rules ∙ ap (λ (z : Rules). without_rule z k) same ∙ sym y.rules)
