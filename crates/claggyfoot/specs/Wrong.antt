-- Batches that look right and are not: each breaks the promise on one small input, an empty book and a few cells.
use Rattle.std.specs.Prelude.{◌≡◌, refl, ◌⊎◌, List, [], ◌∷◌, ◌++◌, Bool, true, ℕ, zero, suc, ◌+◌, ◌-◌, ◌≤◌, ◌<◌, length, replicate, drop}
use Rattle.std.proofs.Common.{sym, ap, ap₂, ◌∙◌, subst, inl, inr, arith}
use Rattle.layout.specs.Layout.{book_words, nodes_limit}
use Rattle.term.specs.Reading.{read_term, read_from, takes}
use Rattle.term.specs.Beginnings.{nodes}
use Rattle.shape.specs.Tally.{bit, tally}
use Rattle.book.specs.Rules.{Rule, plain, nothing, Rules, each, no_rules, with_rule, nodes_of}
use Rattle.book.specs.Gathered.{not_rule}
use Rattle.book.specs.Memory.{view, Passing, rules_in}
use Rattle.book.specs.Facts.{empty_passes, empty_rules, nodes_in_use}
use Rattle.questions.specs.Asking.{numbers_in_order, answers}
use Rattle.commands.specs.Records.{Record, bare, good, written}
use Rattle.batch.specs.Effects.{more, less, does}
use Rattle.commands.specs.Kinds.{kind_at}
use Rattle.commands.specs.Commands.{read_by}
use Rattle.batch.specs.Run.{run, run_from}
use Rattle.batch.specs.Promises.{Changes, Along, Came, Runs, passing}
use Rattle.batch.specs.Laws.{unchanged}
use Rattle.claggyfoot.specs.Stages.{first_of}
use Rattle.claggyfoot.specs.NewNodes.{InUse, free_below, one_more, which_nodes}

-- The memory of an empty book.
abbrev pub empty_book : List ℕ
empty_book = replicate book_words 0

-- What a batch on it comes to.
came : {ws' cells out out' : List ℕ} {stop used n : ℕ} → Runs empty_book ws' cells out out' stop used n
    → Came (run no_rules cells (length out)) empty_book ws' out out' stop used n
came {ws'} {cells} {out} {out'} {stop} {used} {n} r = subst (λ (x : Rules). Came (run x cells (length out)) empty_book ws' out out' stop used n)
    empty_rules (passing r empty_passes)

-- The cells: room; add rule 5, the pattern that is a variable; then show it, or list its instances.
abbrev pub room : List ℕ
room = 0x7000 ∷ []

abbrev pub add : List ℕ
add = 0x0005 ∷ 0x8000 ∷ []

abbrev pub add_show : List ℕ
add_show = 0x0005 ∷ 0x8000 ∷ 0x6005 ∷ []

abbrev pub add_add : List ℕ
add_add = 0x0005 ∷ 0x8000 ∷ 0x0006 ∷ 0x8000 ∷ []

abbrev pub add_ask : List ℕ
add_ask = 0x0005 ∷ 0x8000 ∷ 0x3000 ∷ 0x8000 ∷ []

-- What is right for them.
room_records : (run no_rules room 3).records ≡ good (0 ∷ 0 ∷ []) ∷ []
unfolding run_from read_by kind_at does each nodes
room_records = refl

room_stop : (run no_rules room 3).stop ≡ 0
unfolding run_from read_by kind_at does each nodes
room_stop = refl

add_rules : (run no_rules add 1).rules ≡ with_rule no_rules 5 (plain (0x8000 ∷ []))
unfolding run_from read_by kind_at does each nodes read_term read_from takes
add_rules = refl

show_records : (run no_rules add_show 3).records ≡ bare 0 ∷ good (0x8000 ∷ []) ∷ []
unfolding run_from read_by kind_at does each nodes read_term read_from takes
show_records = refl

ask_records : (run no_rules add_ask 3).records ≡ bare 0 ∷ good (5 ∷ []) ∷ []
unfolding run_from read_by kind_at does each nodes read_term read_from takes answers numbers_in_order
ask_records = refl

add_add_rules : (run no_rules add_add 2).rules ≡ with_rule (with_rule no_rules 5 (plain (0x8000 ∷ []))) 6 (plain (0x8000 ∷ []))
unfolding run_from read_by kind_at does each nodes read_term read_from takes
add_add_rules = refl

-- ---- the wrong batches

abbrev head : List ℕ → ℕ
head [] = 0
head (c ∷ cs) = c

-- One that refuses everything: it stops with a refusal ..
pub refuses_everything : {ws' out' : List ℕ} {stop used n : ℕ} → ¬ (stop ≡ 0) → ¬ (Runs empty_book ws' room (replicate 3 0) out' stop used n)
refuses_everything d r = d ((came r).stop_is ∙ room_stop)

-- .. or goes on with refused records.
pub refuses_each : {ws' behind : List ℕ} {first stop used n : ℕ} → ¬ (first ≡ 2) → ¬ (Runs empty_book ws' room (replicate 3 0) (first ∷ behind) stop used n)
unfolding written
refuses_each {ws'} {behind} {first} {stop} {used} {n} d r = d (ap head ((came r).output ∙ ap (λ (rs : List Record). written rs ++ drop n (replicate 3 0)) room_records))

-- One that always lists nothing: the second record is a list of none.
pub lists_nothing : {ws' out' : List ℕ} {stop used : ℕ} → ¬ (Runs empty_book ws' add_ask (replicate 3 0) out' stop used 2)
unfolding written
lists_nothing r = absurd (let e = (came r).written_is ∙ ap (λ (rs : List Record). length (written rs)) ask_records in omega arith)

-- One that copies nothing into the book and answers 0.
pub copies_nothing : {out' : List ℕ} {stop used n : ℕ} → ¬ (Runs empty_book empty_book add (replicate 1 0) out' stop used n)
copies_nothing r = not_rule (ap (λ (x : Rules). x 5) (sym empty_rules ∙ (came r).book.rules_are ∙ add_rules))

-- One that does the first command and only writes good records for the others: a second rule is not in the book ..
pub only_the_first : {ws' out' : List ℕ} {stop used n : ℕ} → rules_in ws' 6 ≡ nothing → ¬ (Runs empty_book ws' add_add (replicate 2 0) out' stop used n)
only_the_first e r = not_rule (sym e ∙ ap (λ (x : Rules). x 6) ((came r).book.rules_are ∙ add_add_rules))

-- .. or a rule is shown without its cells.
pub shows_nothing : {ws' out' : List ℕ} {stop used : ℕ} → ¬ (Runs empty_book ws' add_show (replicate 3 0) out' stop used 2)
unfolding written
shows_nothing r = absurd (let e = (came r).written_is ∙ ap (λ (rs : List Record). length (written rs)) show_records in omega arith)

-- One that makes up the node count.
pub makes_up_nodes : {ws' : List ℕ} {count stop used n : ℕ} → ¬ (count ≡ 0) → ¬ (Runs empty_book ws' room (replicate 3 0) (2 ∷ 0 ∷ count ∷ []) stop used n)
unfolding written
makes_up_nodes {ws'} {count} {stop} {used} {n} d r = d (ap third ((came r).output ∙ ap (λ (rs : List Record). written rs ++ drop n (replicate 3 0)) room_records))
  where
    third : List ℕ → ℕ
    third cells = head (drop 2 cells)

-- One that takes another node than the free one of lowest number. The book holds rule 1, the name 2, at node 0; rule 2, the name 3, is added, and
-- rule 1 removed: rule 2 belongs at node 1, and no node above it, 4,095 say, may be in use then.
abbrev pub add_remove : List ℕ
add_remove = 0x0002 ∷ 0x0003 ∷ 0x1001 ∷ []

abbrev pub rule_1 : Rule
rule_1 = plain (0x0002 ∷ [])

abbrev pub rule_2 : Rule
rule_2 = plain (0x0003 ∷ [])

abbrev pub one_rule : Rules
one_rule = with_rule no_rules 1 rule_1

one_node : nodes_of one_rule ≡ 1
unfolding each nodes
one_node = refl

two_nodes : nodes_of (with_rule one_rule 2 rule_2) ≡ 2
unfolding each nodes
two_nodes = refl

add_remove_changes : (run one_rule add_remove 2).changes ≡ more 2 rule_2 ∷ less 1 rule_1 ∷ []
unfolding run_from read_by kind_at does each nodes read_term read_from takes
add_remove_changes = refl

-- a set that has 0 is not empty, and below a larger number there are no fewer
some : (u : ℕ → Bool) (k : ℕ) → u 0 ≡ true → 1 ≤ tally u (suc k)
unfolding tally
some u zero e = let b : bit (u 0) ≡ 1 = ap bit e in omega arith
some u (suc k) e = let x = some u k e in omega arith

no_fewer : (u : ℕ → Bool) (n d : ℕ) → tally u n ≤ tally u (d + n)
no_fewer u n zero = subst (λ (z : ℕ). tally u n ≤ tally u z) (let e : n ≡ 0 + n = omega arith in e) (omega arith)
no_fewer u n (suc d) =
    let x = no_fewer u n d in let y = one_more u (d + n) in
    subst (λ (z : ℕ). tally u n ≤ tally u z) (let e : suc (d + n) ≡ suc d + n = omega arith in e) (omega arith)

module _ {ws ws' out' : List ℕ} {stop used n : ℕ} (p : Passing ws) (is : rules_in ws ≡ one_rule) (first : InUse ws 0) (r : Runs ws ws' add_remove (replicate 2 0) out' stop used n) where
  abbrev u : ℕ → Bool
  u = (view ws).tree.used

  changes_are : (run (rules_in ws) add_remove 2).changes ≡ more 2 rule_2 ∷ less 1 rule_1 ∷ []
  changes_are = ap (λ (x : Rules). (run x add_remove 2).changes) is ∙ add_remove_changes

  -- the memories after the add and after the remove
  a : (m : List ℕ) × Changes (more 2 rule_2) ws m × Along (less 1 rule_1 ∷ []) m ws'
  a = first_of (more 2 rule_2) (less 1 rule_1 ∷ []) (passing r p).book.along changes_are

  b : (m : List ℕ) × Changes (less 1 rule_1) a.0 m × Along [] m ws'
  b = first_of (less 1 rule_1) [] a.2 refl

  -- one node is in use before, and one more after the add
  before : tally u 4096 ≡ 1
  before = nodes_in_use ws p ∙ ap nodes_of is ∙ one_node

  gained : nodes_of (rules_in a.0) - nodes_of (rules_in ws) ≡ 1
  gained = ap₂ (λ (x y : ℕ). x - y) (ap nodes_of (a.1.rules_are ∙ ap (λ (x : Rules). with_rule x 2 rule_2) is) ∙ two_nodes) (ap nodes_of is ∙ one_node)

  few : (node : ℕ) → node ≤ nodes_limit → tally u node ≤ 1
  few node h =
      let all : tally u node ≤ tally u 4096 = subst (λ (z : ℕ). tally u node ≤ tally u z) (let e : 4096 - node + node ≡ 4096 = omega arith in e)
      (no_fewer u node (4096 - node)) in
      let e = before in omega arith

  pub takes_another_node : (node : ℕ) → 1 < node → node < nodes_limit → ¬ (InUse ws' node)
  takes_another_node node h l last = go ((which_nodes ws a.0 p a.1.passes a.1.nodes node l).0 there)
    where
      there : InUse a.0 node
      there = b.1.nodes.were node l (subst (λ (m : List ℕ). InUse m node) (unchanged b.2 refl) last)

      go : InUse ws node ⊎ (free_below ws node < nodes_of (rules_in a.0) - nodes_of (rules_in ws)) → ⊥
      go (inl x) =
          let c : bit (u node) ≡ 1 = ap bit x in
          let d : 1 ≤ tally u node = subst (λ (z : ℕ). 1 ≤ tally u z) (let e : suc (node - 1) ≡ node = omega arith in e) (some u (node - 1) first) in
          let e = few (suc node) l in let f = one_more u node in omega arith
      go (inr x) = let e = few node (omega arith) in let g = gained in omega arith
