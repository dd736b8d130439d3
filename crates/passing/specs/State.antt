-- What the walk keeps in its arrays: for each depth the last cells of the row and what is still wanted, and the words of its stops.
use Rattle.std.specs.Prelude.{◌≡◌, List, [], ◌∷◌, Option, MatchOption, Bool, true, false, ℕ, zero, suc, ◌+◌, ◌-◌, ◌%◌, ◌≤◌, ◌<◌, length, get_or, set}
use Rattle.layout.specs.Layout.{nodes_limit, map_words, links_at, last_link, book_words}
use Rattle.shape.specs.Shape.{Shape, Hook, to, owner, floor}
use Rattle.shape.specs.Tally.{tally, marked}
use Rattle.links.specs.Words.{cell_of, parent_of, first_of, next_of, Node}
use Rattle.tree.specs.Promises.{Marked}
use Rattle.shape.specs.Down.{Ended}
use Rattle.shape.specs.Stops.{Stop, stop, Standing}
use Rattle.book.specs.Memory.{view}
use Rattle.recorded.specs.Way.{Kept, Low}
use Rattle.passing.specs.Wanted.{Told, Bare}
use Rattle.passing.specs.declared.Walker.{Walker}

-- an array has the words of the stops, each with its depth in place of its first child
pub data Stacked (m : Shape) (stack : List ℕ) : ℕ → List Stop → Type 0 where
  none : Stacked m stack zero []
  more : {k n d : ℕ} {ks : List Stop} → Node (get_or stack k 0) (m.cell n) (m.parent n) d (m.next n) → Stacked m stack k ks → Stacked m stack (suc k) (stop n d ∷ ks)

-- The walk stands before the link x, a child of p with a cell of `low` at the least
pub record AtHook (ws left way ks stack : List ℕ) (at : Walker) : Type 0 where
  pub hook : Hook
  pub row : List ℕ
  pub stops : List Stop
  pub standing : Standing (view ws).tree Bare (Told (view ws)) hook row stops (marked left)
  pub leads : to (view ws).tree hook ≡ at.x
  pub under : owner (view ws).tree hook ≡ at.p
  pub above : floor (view ws).tree hook ≡ at.low
  pub deep : length row ≡ at.depth
  pub short : at.depth ≤ 32
  pub cells : Low row
  pub stuck : at.x ≡ 0 → ¬ (Bare hook)
  pub stacked : Stacked (view ws).tree stack at.top stops
  pub kept : Kept way ks row

-- All is found that the check asks for
abbrev pub AllFound : List ℕ → Type 0
AllFound ws = Ended (view ws).tree Bare (Told (view ws))

-- ---- what the functions promise

-- What is asked of the link x, with the word w: it fits below p, and its node is left
pub record Asked (left : List ℕ) (at : Walker) (w : ℕ) : Type 0 where
  pub under : parent_of w ≡ at.p
  pub above : at.low ≤ cell_of w
  pub was : Marked left (at.x - 1)

-- What is asked of it as a node of forms
pub record AskedNode (left : List ℕ) (at : Walker) (w : ℕ) : Type 0 where
  pub some : 0 < at.x
  pub node : at.x ≤ nodes_limit
  pub short : at.depth < 32
  pub cell : cell_of w ≤ 32768
  pub fits : Asked left at w

-- What is asked of it as a rule
pub record AskedRule (left : List ℕ) (at : Walker) (w : ℕ) : Type 0 where
  pub rule : nodes_limit < at.x
  pub most : at.x ≤ last_link
  pub leaf : first_of w ≡ 0
  pub fits : Asked left at w

-- It is asked, and then the node is left no more
pub record Come (left left' : List ℕ) (at : Walker) (w : ℕ) (r : Bool) : Type 0 where
  pub yes : r ≡ true → Asked left at w
  pub gone : r ≡ true → marked left' (at.x - 1) ≡ false
  pub others : r ≡ true → (y : ℕ) → ¬ (y ≡ at.x - 1) → marked left' y ≡ marked left y
  pub no : r ≡ false → ¬ (Asked left at w)

-- The word w of the link x is as asked, and the node is left no more
pub record Taken (Asks : ℕ → Type 0) (ws left left' : List ℕ) (at : Walker) (w : ℕ) : Type 0 where
  pub asked : Asks w
  pub word : w ≡ get_or ws (links_at + at.x) 0
  pub gone : marked left' (at.x - 1) ≡ false
  pub others : (y : ℕ) → ¬ (y ≡ at.x - 1) → marked left' y ≡ marked left y

-- So it is where there is an answer; else the word is not as asked
abbrev pub Entered : (Asks : ℕ → Type 0) (ws left left' : List ℕ) (at : Walker) → Option ℕ → Type 0
Entered Asks ws left left' at r = MatchOption r (¬ (Asks (get_or ws (links_at + at.x) 0))) (Taken Asks ws left left' at)

-- The word w is put on the stack, and counts where it has a next sibling
pub record Pushed (stack stack' : List ℕ) (top top' w depth : ℕ) : Type 0 where
  pub word : ℕ
  pub is : Node word (cell_of w) (parent_of w) depth (next_of w)
  pub stored : stack' ≡ set stack top word
  pub last : next_of w ≡ 0 → top' ≡ top
  pub more : ¬ (next_of w ≡ 0) → top' ≡ top + 1

-- The lengths of the memory and of the arrays
pub record Sizes (ws left way ks stack : List ℕ) : Type 0 where
  pub words : length ws ≡ book_words
  pub maps : length left ≡ map_words
  pub ways : length way ≡ 33
  pub counts : length ks ≡ 33
  pub stops : length stack ≡ 33

-- The end of a form
pub record FormEnd (ws left left' way ks stack : List ℕ) (at : Walker) : Type 0 where
  pub hook : AtHook ws left' way ks stack at
  pub whole : get_or ks at.depth 0 % 65536 ≡ 0
  pub fewer : tally (marked left') last_link ≤ tally (marked left) last_link

-- Down to the end of a form
abbrev pub Downed : (ws left left' way ks stack : List ℕ) → Option Walker → Type 0
Downed ws left left' way ks stack r = MatchOption r (¬ (AllFound ws)) (FormEnd ws left left' way ks stack)

-- The walk stands at the end of a list of siblings
pub record Over (ws left way ks stack : List ℕ) (depth top : ℕ) : Type 0 where
  pub hook : Hook
  pub row : List ℕ
  pub stops : List Stop
  pub standing : Standing (view ws).tree Bare (Told (view ws)) hook row stops (marked left)
  pub leads : to (view ws).tree hook ≡ 0
  pub bare : Bare hook
  pub deep : length row ≡ depth
  pub short : depth ≤ 32
  pub cells : Low row
  pub stacked : Stacked (view ws).tree stack top stops
  pub kept : Kept way ks row

-- Along the rules below a whole form
pub record Ruled (ws left left' way ks stack : List ℕ) (depth top : ℕ) (r : Bool) : Type 0 where
  pub over : r ≡ true → Over ws left' way ks stack depth top
  pub fewer : r ≡ true → tally (marked left') last_link < tally (marked left) last_link
  pub no : r ≡ false → ¬ (AllFound ws)

-- No node is left
abbrev pub Clear : List ℕ → Type 0
Clear left = (n : ℕ) → marked left n ≡ false

-- The hook behind the stop with the word w
pub record Popped (w t : ℕ) (at : Walker) : Type 0 where
  pub x_is : at.x ≡ next_of w
  pub p_is : at.p ≡ parent_of w
  pub low_is : at.low ≡ cell_of w + 1
  pub depth_is : at.depth ≡ first_of w
  pub top_is : at.top ≡ t
