-- Exactly when reading a text refuses, read off its promise.
use Rattle.std.specs.Prelude.{◌≡◌, ◌⊎◌, List, [], ◌++◌, ℕ, ◌+◌, ◌-◌, ◌*◌, ◌≤◌, ◌<◌, length, replicate, eqb, Ok}
use Rattle.std.proofs.Common.{sym, ap, ap₂, ◌∙◌, inl, inr, arith}
use Rattle.deciding.specs.Deciding.{pick}
use Rattle.names.specs.Table.{Holds, Passes, slots_of}
use Rattle.names.specs.Once.{passes, names_once, free_once}
use Rattle.term.specs.Reading.{read_term}
use Rattle.text.specs.Text.{Answer, refused, read_text}
use Rattle.text.specs.declared.TextRead.{TextRead}
use Rattle.text.specs.Promises.{told, refused_read, table_of, Reads, no_table, has_read}
use Rattle.typed.specs.Refusals.{TokenRefused, tokens_of, fault_of, stop_of, names_with, whole, AllTaken, because, of_token, of_fault, of_room, of_none, token_back, fault_back, room_back, not_1}
use Rattle.typed.specs.Whole.{typed_whole}
use Rattle.claggyfoot.specs.Calls.{Exactly}

-- One call of `cf_text_read`: the table lent, the text, the answer, and the table afterwards.
module _ {before text : List ℕ} {r : TextRead} {after : List ℕ} (call : Reads before text r after) where
  -- refused with this number and place: all else in the answer is 0, and every byte of the table is as it was
  abbrev pub Refused : (refusal place : ℕ) → Type 0
  Refused refusal place = (r ≡ refused_read refusal place) × (after ≡ before)

  -- what the answer is, for the names that the table holds
  answered : (names : List (List ℕ)) (free : ℕ) → Holds before names free
      → (r ≡ told (read_text names free text)) × (after ≡ table_of (length names + free) (read_text names free text).names)
  answered names free h = go call
    where
      go : Reads before text r after → (r ≡ told (read_text names free text)) × (after ≡ table_of (length names + free) (read_text names free text).names)
      go (no_table f e l) = absurd (f (passes h))
      go (has_read {names = others} {free = room} i e l) =
          let same : others ≡ names = names_once i h in
          let left : room ≡ free = free_once i h in (
            e ∙ ap₂ (λ (x : List (List ℕ)) (y : ℕ). told (read_text x y text)) same left,
            l ∙ ap₂ (λ (x : List (List ℕ)) (y : ℕ). table_of (length x + y) (read_text x y text).names) same left,
          )

  module _ (names : List (List ℕ)) (free : ℕ) (h : Holds before names free) where
    is : r ≡ told (read_text names free text)
    is = (answered names free h).0

    refuses : (refusal place : ℕ) → read_text names free text ≡ refused names refusal place → Refused refusal place
    refuses refusal place e =
        let room : length names + free - length names ≡ free = omega arith in (
          is ∙ ap told e,
          (answered names free h).1 ∙ ap (λ (a : Answer). table_of (length names + free) a.names) e
              ∙ ap (λ (n : ℕ). slots_of names ++ replicate (32 * n) 0) room ∙ sym h.written,
        )

    number : {k : ℕ} → r.refusal ≡ k → (read_text names free text).refusal ≡ k
    number e = sym (ap (λ (t : TextRead). t.refusal) is) ∙ e

    pub refused_token : (k : ℕ) → (k ≡ 11) ⊎ (k ≡ 4) → Exactly (r.refusal ≡ k) (TokenRefused names [] (tokens_of text) k) (Refused k 0)
    refused_token k c = ((to, λ t. ap (λ (x : TextRead). x.refusal) (from t).0), from)
      where
        to : r.refusal ≡ k → TokenRefused names [] (tokens_of text) k
        to e = token_back names free text (because names free text) (number e) c

        from : TokenRefused names [] (tokens_of text) k → Refused k 0
        from t = refuses k 0 (of_token names free text (because names free text) t)

    pub refused_fault : (k : ℕ) → (k ≡ 20) ⊎ ((k ≡ 21) ⊎ (k ≡ 5))
        → Exactly (r.refusal ≡ k) (AllTaken names text × (fault_of text ≡ k)) (Refused k (pick (eqb k 20) (stop_of text) 0))
    refused_fault k c = ((to, λ t. ap (λ (x : TextRead). x.refusal) (from t).0), from)
      where
        to : r.refusal ≡ k → AllTaken names text × (fault_of text ≡ k)
        to e = fault_back names free text (because names free text) (number e) c

        some : ¬ (k ≡ 0)
        some z = go c
          where
            go : (k ≡ 20) ⊎ ((k ≡ 21) ⊎ (k ≡ 5)) → ⊥
            go (inl d) = omega arith
            go (inr (inl d)) = omega arith
            go (inr (inr d)) = omega arith

        from : AllTaken names text × (fault_of text ≡ k) → Refused k (pick (eqb k 20) (stop_of text) 0)
        from t =
            refuses k (pick (eqb k 20) (stop_of text) 0)
            (of_fault names free text (because names free text) t.0 (λ z. some (sym t.1 ∙ z))
            ∙ ap (λ (n : ℕ). refused names n (pick (eqb n 20) (stop_of text) 0)) t.1)

    pub refused_room : Exactly (r.refusal ≡ 12)
        (AllTaken names text × (fault_of text ≡ 0) × (length names + free < length (names_with names text))) (Refused 12 0)
    refused_room = ((to, λ t. ap (λ (x : TextRead). x.refusal) (from t).0), from)
      where
        to : r.refusal ≡ 12 → AllTaken names text × (fault_of text ≡ 0) × (length names + free < length (names_with names text))
        to e = room_back names free text (because names free text) (number e)

        from : AllTaken names text × (fault_of text ≡ 0) × (length names + free < length (names_with names text)) → Refused 12 0
        from t = refuses 12 0 (of_room names free text (because names free text) t.0 t.1 t.2)

    -- not refused: the cells, the place and every byte of the table
    pub text_read : AllTaken names text → fault_of text ≡ 0 → length (names_with names text) ≤ length names + free
        → (r ≡ told (whole names text)) × (after ≡ table_of (length names + free) (names_with names text))
    text_read a z l =
        let e = of_none names free text (because names free text) a z l in
        (is ∙ ap told e, (answered names free h).1 ∙ ap (λ (x : Answer). table_of (length names + free) x.names) e)

    -- and its cells are one whole term
    pub text_term : r.refusal ≡ 0 → read_term r.cells ≡ Ok r.size
    text_term e =
        ap (λ (x : TextRead). read_term x.cells) is ∙ typed_whole names free text h.most (number e)
        ∙ ap Ok (sym (ap (λ (x : TextRead). x.size) is))

  pub refused_table : Exactly (r.refusal ≡ 1) (¬ (Passes before)) (Refused 1 0)
  refused_table = ((to call, λ f. ap (λ (x : TextRead). x.refusal) (from call f).0), from call)
    where
      to : Reads before text r after → r.refusal ≡ 1 → ¬ (Passes before)
      to (no_table f e l) z = f
      to (has_read {names = names} {free = free} h e l) z =
          absurd (not_1 names free text (because names free text) (sym (ap (λ (x : TextRead). x.refusal) e) ∙ z))

      from : Reads before text r after → ¬ (Passes before) → Refused 1 0
      from (no_table f e l) g = (e, l)
      from (has_read h e l) g = absurd (g (passes h))
