-- What a batch on an empty book leaves in the output.
use mathlib.Core.Path.{◌≡◌, sym, ap, ap₂, subst, ◌∙◌}
use mathlib.Core.List.{List}
use Prim.Native.Nat.{ℕ, ◌≤◌}
use native.Mathlib.Omega.{arith}
use lib.ListN.{length, take, drop, replicate, length-append, length-take, length-replicate}
use lib.Seq.{take_at}
use Rattle.layout.specs.Layout.{book_words}
use Rattle.book.specs.Rules.{Rules, no_rules}
use Rattle.book.specs.Memory.{Passing, rules_in}
use Rattle.book.specs.Promises.{Empties}
use Rattle.book.specs.Facts.{empty_passes, empty_rules}
use Rattle.commands.specs.Records.{written}
use Rattle.batch.specs.Run.{Outcome, run}
use Rattle.batch.specs.Promises.{Runs, passing}
use Rattle.listing.specs.Listing.{listing}
use Rattle.writing.specs.Writing.{Front}
use Rattle.listing.specs.Promises.{Lists}
use Rattle.session.specs.Session.{answer}

-- A batch on no rules with room for 4,096 cells came out like this.
pub record Came (cells output : List ℕ) (stop used n : ℕ) : Type 0 where
  pub stop_is : stop ≡ (run no_rules cells 4096).stop
  pub used_is : used ≡ (run no_rules cells 4096).used
  pub records_are : take n output ≡ written (run no_rules cells 4096).records
  pub within : n ≤ length output

pub came : {book after cells output : List ℕ} {r stop used n : ℕ}
    → Empties (replicate book_words 0) book r → Runs book after cells (replicate 4096 0) output stop used n → Came cells output stop used n
came {book} {after} {cells} {output} {r} {stop} {used} {n} e runs =
    let out : List ℕ = replicate 4096 0 in
    let zeros : book ≡ replicate book_words 0 = (e.made (length-replicate {A = ℕ} book_words 0)).1 in
    let rules : rules_in book ≡ no_rules = ap rules_in zeros ∙ empty_rules in
    let ran = passing runs (subst Passing (sym zeros) empty_passes) in
    let same : run (rules_in book) cells (length out) ≡ run no_rules cells 4096 = ap₂ (λ (x : Rules) (y : ℕ). run x cells y) rules (length-replicate {A = ℕ} 4096 0) in
    record {
      stop_is = ran.stop_is ∙ ap (λ (o : Outcome). o.stop) same;
      used_is = ran.used_is ∙ ap (λ (o : Outcome). o.used) same;
      records_are = ap (take n) ran.output
          ∙ take_at (written (run (rules_in book) cells (length out)).records) (drop n out) n (sym ran.written_is) ∙ ap (λ (o : Outcome). written o.records) same;
      within = omega (arith, ran.written_is, ap length ran.output ∙ length-append (written (run (rules_in book) cells (length out)).records) (drop n out));
    }

-- Its listing is the answer.
pub answered : {cells output text after : List ℕ} {stop used n end : ℕ} → Came cells output stop used n → length output ≡ 4096 → 65536 ≤ length text
    → Lists (take n output) text after stop used end → Front (answer cells) text after end
unfolding answer
answered {cells} {output} {text} {after} {stop} {used} {n} {end} c l room p =
    let o = run no_rules cells 4096 in
    let s : Front (listing o.records stop used (length (written o.records))) text after end =
    p.stands o.records c.records_are (omega (arith, length-take n output)) room in
    subst (λ (k : ℕ). Front (listing o.records k o.used (length (written o.records))) text after end) c.stop_is
    (subst (λ (k : ℕ). Front (listing o.records stop k (length (written o.records))) text after end) c.used_is s)
