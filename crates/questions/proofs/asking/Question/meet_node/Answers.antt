-- Siblings at which the machine fails are skipped; then there is no node, or the two cells meet and the machine goes on, or it fails.
use Rattle.std.proofs.Common.{◌≡◌, refl, ap, ◌∙◌, Option, Some, subst, Bool, List, ℕ, ◌≤◌, length, arith}
use Rattle.layout.specs.Layout.{last_link, book_words}
use Rattle.questions.specs.declared.Point.{Point}
use Rattle.questions.specs.declared.trying.Way.{Way}
use Rattle.questions.specs.Promises.{Skips, Ready, Decisive, LastWanted, Sought, reached, AtNode, linked}
use Rattle.questions.proofs.Threads.{inside}
use Rattle.questions.proofs.Siblings.{seeking, found_link}
use Rattle.questions.proofs.Leaving.{skipped, meets_none, meets_on, meets_not}
use Rattle.questions.proofs.asking.Question.meet_node.Goals as goal

-- the siblings on the way to what was found
skips : {fq fr : Bool} {ws q : List ℕ} {p : Point} {cell last : ℕ} {x : Option ℕ} → Ready fq fr ws q p → Decisive fq q p.place cell
    → LastWanted fr cell last → Sought ws cell last p.link x → Skips fq fr ws q p.place p.link (found_link x)
skips r d w s = seeking r.words r.threaded d w s

found : {ws : List ℕ} {cell last link x : ℕ} → Sought ws cell last link (Some x) → ¬ (x ≡ 0)
found (reached by some) = some

-- it is none past the tree
low : {fq fr : Bool} {ws q : List ℕ} {p : Point} {cell last x : ℕ} → Ready fq fr ws q p → p.skip ≡ 0 → Decisive fq q p.place cell
    → LastWanted fr cell last → Sought ws cell last p.link (Some x) → (length ws ≡ book_words) × (x ≤ last_link)
low r z d w s = inside (skipped r (omega arith) (skips r d w s)).ready.threaded (found s)

-- by the links that the memory has
at_link : {r n skip place : ℕ} {o : Option Way} → r ≡ n → AtNode (record { link = r; skip = skip; place = place }) o → AtNode (record { link = n; skip = skip; place = place }) o
at_link {skip = skip} {place = place} {o = o} e a = subst (λ (z : ℕ). AtNode (record { link = z; skip = skip; place = place }) o) e a

by_word : {r n : ℕ} {o : Option ℕ} → r ≡ n → o ≡ linked r → o ≡ linked n
by_word e l = l ∙ ap linked e

pub returns-in_default : goal.returns-in_default
returns-in_default c =
    let k = skips c.requires.ready c.requires.decisive c.last_wanted-last.ensures c.in_default.ensures in
    meets_none c.requires.ready c.requires.node (omega (arith, c.requires.skip)) c.requires.place_in_bounds k refl

pub overflow_add-w : goal.overflow_add-w
overflow_add-w c =
    let h = low c.requires.ready c.requires.skip c.requires.decisive c.last_wanted-last.ensures c.in-Some.ensures in
    record { fits = omega arith }

pub offset_bounds-m-x : goal.offset_bounds-m-x
offset_bounds-m-x c =
    let h = low c.requires.ready c.requires.skip c.requires.decisive c.last_wanted-last.ensures c.in-Some.ensures in
    record { fits = omega arith }

pub bounds-m-x : goal.bounds-m-x
bounds-m-x c =
    let h = low c.requires.ready c.requires.skip c.requires.decisive c.last_wanted-last.ensures c.in-Some.ensures in
    omega arith

pub returns-in-Some-met : goal.returns-in-Some-met
returns-in-Some-met c =
    let k = skips c.requires.ready c.requires.decisive c.last_wanted-last.ensures c.in-Some.ensures in
    meets_on c.requires.ready c.requires.node (omega (arith, c.requires.skip)) c.requires.place_in_bounds k (found c.in-Some.ensures)
    c.cell_of-c.ensures c.meet-met.ensures (by_word c.next_of.ensures c.linked-beside.ensures) c.in-Some-met.is (at_link c.first_of.ensures c.at_node.ensures)

pub returns-in-None : goal.returns-in-None
returns-in-None c =
    let k = skips c.requires.ready c.requires.decisive c.last_wanted-last.ensures c.in-Some.ensures in
    meets_not c.requires.ready c.requires.node (omega (arith, c.requires.skip)) c.requires.place_in_bounds k (found c.in-Some.ensures)
    c.cell_of-c.ensures c.meet-met.ensures (by_word c.next_of.ensures c.linked-beside.ensures) c.in-None.is
