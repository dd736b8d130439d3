-- What the walks by hand say often: a local is read or passed, a field of one is read, what a callee answers is heard, and the locals are freed.
use Rattle.std.specs.Prelude.{◌≡◌, refl, ℕ, ◌+◌, List, [], ◌∷◌}
use Rattle.std.proofs.Common.{sym, subst}
use Rattle.std.proofs.Math.Option.{some as found}
use seplogic.Ra.Ura.{Ura}
use base.Fraction.{full_share}
use mir.Syntax.{Ty, field, place, Opd as Operand, copy}
use mir.Val.{Val}
use base.Logic.{SProp, ent}
use base.Fml.{Share, fat, froom, fdies}
use prog.Memory.{field_of}
use prog.Wp.{Env, spot_of}
use types.Logic.{Logic}
use contract.Monad.{fact}
use types.Kit.{Item, ‵, raw, some, later, ◌⊛◌, mean, nth, Goal, Soaks, frees, Seq, Step, step, ◌$◌, move, split, use1, await, pick}
use types.Run.{Reads, Finds, Opd, Opds, look, forget, stop, fld, from, load, and_then, free1, free0}
use Rattle.std.specs.Borrow.{RattleType}
use denote.Steps.{heard}

-- ---- the entries of a context that are about locals

abbrev pub Locals : Type 0
Locals = List (Ty × ℕ)

abbrev pub joined : Locals → Locals → Locals
joined [] F = F
joined (e ∷ E) F = e ∷ joined E F

module _ {M : Type 1} {𝓤 : Ura M} where
  -- what each holds (from where the values end on, room), and that it dies: the first one first
  abbrev pub kept : Locals → List Val → List (Item 𝓤) → List (Item 𝓤)
  kept (e ∷ E) (v ∷ vs) Γ = ‵ (fat full_share e.0 e.1 0 v) ∷ ‵ (fdies e.0 e.1) ∷ kept E vs Γ
  kept (e ∷ E) [] Γ = ‵ (froom e.0 e.1 0) ∷ ‵ (fdies e.0 e.1) ∷ kept E [] Γ
  kept [] vs Γ = Γ

  -- room, and that it dies, as the walk meets it: the last one first
  abbrev pub fresh : Locals → List (Item 𝓤) → List (Item 𝓤)
  fresh [] Γ = Γ
  fresh (e ∷ E) Γ = fresh E (‵ (froom e.0 e.1 0) ∷ ‵ (fdies e.0 e.1) ∷ Γ)

  -- and with a value in each
  abbrev pub filled : Locals → List Val → List (Item 𝓤) → List (Item 𝓤)
  filled (e ∷ E) (v ∷ vs) Γ = filled E vs (‵ (fat full_share e.0 e.1 0 v) ∷ ‵ (fdies e.0 e.1) ∷ Γ)
  filled (e ∷ E) [] Γ = Γ
  filled [] vs Γ = Γ

  -- the room of each alone, what each holds, and that each dies
  abbrev pub empty : Locals → List (Item 𝓤) → List (Item 𝓤)
  empty [] Γ = Γ
  empty (e ∷ E) Γ = ‵ (froom e.0 e.1 0) ∷ empty E Γ

  abbrev pub holding : Locals → List Val → List (Item 𝓤) → List (Item 𝓤)
  holding (e ∷ E) (v ∷ vs) Γ = ‵ (fat full_share e.0 e.1 0 v) ∷ holding E vs Γ
  holding (e ∷ E) [] Γ = Γ
  holding [] vs Γ = Γ

  abbrev pub dying : Locals → List (Item 𝓤) → List (Item 𝓤)
  dying [] Γ = Γ
  dying (e ∷ E) Γ = ‵ (fdies e.0 e.1) ∷ dying E Γ

-- ---- steps

module _ {M : Type 1} {𝓤 : Ura M} {𝓛 : Logic 𝓤} {K : Type 0} where
  open 𝓛 use {H}

  module _ {Γ : List (Item 𝓤)} {E : Env 𝓤 H} where
    -- the place is a local
    pub slot : K → {i : ℕ} → Finds K 𝓛 Γ E (place i []) (spot_of 𝓤 H E i)
    slot t = from t (stop t)

    -- a local is read: it is the entry n
    pub local : K → (n : ℕ) {i : ℕ} {q : Share} {v : Val} → nth 𝓛 n Γ ≡ ‵ (fat q (spot_of 𝓤 H E i).0 (spot_of 𝓤 H E i).1 (spot_of 𝓤 H E i).2 v)
        → Opd K 𝓛 Γ E (copy (place i [])) v
    local t n e = load t (from t (stop t)) (look t n e)

    -- a field of a local is read
    pub part : K → {i k : ℕ} {τ : Ty} {d : ℕ} {v : Val} → field_of (spot_of 𝓤 H E i).0 k ≡ found (τ, d)
        → Reads K 𝓛 Γ τ (spot_of 𝓤 H E i).1 ((spot_of 𝓤 H E i).2 + d) v → Opd K 𝓛 Γ E (copy (place i (field k ∷ []))) v
    part t e r = load t (from t (fld t e (stop t))) r

    -- a local is passed, and then the other arguments
    pub pass : K → (n : ℕ) {i : ℕ} {q : Share} {v : Val} {xs : List Operand} {vs : List Val}
        → nth 𝓛 n Γ ≡ ‵ (fat q (spot_of 𝓤 H E i).0 (spot_of 𝓤 H E i).1 (spot_of 𝓤 H E i).2 v) → Opds K 𝓛 Γ E xs vs → Opds K 𝓛 Γ E (copy (place i []) ∷ xs) (v ∷ vs)
    pass t n e rest = and_then t (local t n e) rest

  all_freed : K → (E : Env 𝓤 H) (vs : List Val) {Γ : List (Item 𝓤)} {g : Goal 𝓤 H} → Seq K 𝓛 Γ g → Seq K 𝓛 (kept E vs Γ) (frees E g)
  all_freed t [] vs s = free0 t $ s
  all_freed t (e ∷ E) [] s = free1 t $ all_freed t E [] s
  all_freed t (e ∷ E) (v ∷ vs) s = forget t 0 refl $ free1 t $ all_freed t E vs s

  -- the locals are freed, from the first on, whatever they hold
  pub frees_all : K → (vs : List Val) {E : Env 𝓤 H} {Γ Γ' : List (Item 𝓤)} {g : Goal 𝓤 H} → Γ ≡ kept E vs Γ' → Step K 𝓛 Γ' g Γ (frees E g)
  frees_all t vs {E} {Γ} {Γ'} {g} e = step (λ s. subst (λ (Δ : List (Item 𝓤)). Seq K 𝓛 Δ (frees E g)) (sym e) (all_freed t E vs s))

  -- what a callee's promise says of its answer is heard: the answer is owned, and the tokens are back
  pub answered : {Γ : List (Item 𝓤)} {G : Goal 𝓤 H} {P : SProp 𝓤} → K → Soaks G
      → (w : Val) (R : RattleType) (tokens : Item 𝓤) (φ : R.Denot → Type 0) (E : R.Denot → SProp 𝓤)
      → ent 𝓤 P (mean 𝓛 (later (some (λ (r : R.Denot). (tokens ⊛ ‵ (R.own_val r (w ∷ []))) ⊛ raw (E r))))) → ((r : R.Denot) → ent 𝓤 (E r) (fact 𝓤 (φ r)))
      → ((r : R.Denot) → φ r → Seq K 𝓛 (‵ (R.own_val r (w ∷ [])) ∷ tokens ∷ Γ) G) → Seq K 𝓛 (raw P ∷ Γ) G
  answered t z w R tokens φ E post says go =
      use1 𝓛 (later (some (λ (r : R.Denot). (tokens ⊛ ‵ (R.own_val r (w ∷ []))) ⊛ raw (E r)))) post $ await t z $ pick t (λ r.
      split t $ move t (1 ∷ []) $ use1 𝓛 (raw (fact 𝓤 (φ r))) (says r) $ heard t (φ r) (λ is. split t $ move t (1 ∷ []) $ go r is))
