-- The eleven proved cases of Reference 13: each row of the table of specs/Examples holds.
use Rattle.std.specs.Prelude.{List, [], ◌∷◌, true, false, not, T, eqb}
use Rattle.std.proofs.Common.{T_not, eqb→eq}
use Rattle.deciding.specs.Deciding.{both}
use Rattle.term.specs.Cells.{blank_form}
use Rattle.term.specs.Reading.{takes, read_from, read_term, reading_refusal, reading_cells}
use Rattle.term.specs.Beginnings.{nodes, node_count}
use Rattle.term.specs.Examples.{Case, asks, neither, counts, reads, Says, is_term_row, answers, agree, test, table, halves, is_a_term, All, every}
use Rattle.term.proofs.Meaning.{decides}

-- A test that passes says what its row says.
passes_says : (c : Case) → T (test c) → Says c
unfolding test Says agree answers
passes_says (asks rule mode question true) h =
    let k = halves (is_term_row question) (both (is_term_row rule) (answers mode question rule)) h in
    let l = halves (is_term_row rule) (answers mode question rule) k.1 in
    (decides mode (blank_form question) (blank_form rule) (is_a_term question k.0) (is_a_term rule l.0)).0 l.1
passes_says (asks rule mode question false) h =
    let k = halves (is_term_row question) (both (is_term_row rule) (not (answers mode question rule))) h in
    let l = halves (is_term_row rule) (not (answers mode question rule)) k.1 in
    λ n. T_not (answers mode question rule) l.1 ((decides mode (blank_form question) (blank_form rule) (is_a_term question k.0) (is_a_term rule l.0)).1 n)
passes_says (neither one mode other) h =
    let no = both (not (answers mode one other)) (not (answers mode other one)) in
    let k = halves (is_term_row one) (both (is_term_row other) no) h in
    let l = halves (is_term_row other) no k.1 in
    let m = halves (not (answers mode one other)) (not (answers mode other one)) l.1 in
    let p = is_a_term one k.0 in
    let q = is_a_term other l.0 in (
      (λ n. T_not (answers mode one other) m.0 ((decides mode (blank_form one) (blank_form other) p q).1 n)),
      (λ n. T_not (answers mode other one)
          m.1 ((decides mode (blank_form other) (blank_form one) q p).1 n)),
    )
passes_says (counts terms n) h = eqb→eq (node_count terms) n h
passes_says (reads cells refusal n) h =
    let r = read_term cells in
    let k = halves (eqb (reading_refusal r) refusal) (eqb (reading_cells r) n) h in
    (eqb→eq (reading_refusal r) refusal k.0, eqb→eq (reading_cells r) n k.1)

-- So does a table whose tests all pass.
passes_all : (cs : List Case) → T (every cs) → All Says cs
unfolding All every
passes_all [] h = tt
passes_all (c ∷ cs) h = let k = halves (test c) (every cs) h in (passes_says c k.0, passes_all cs k.1)

-- The one statement: each of the eleven holds, of the relations themselves. The checker computes the test.
eleven : All Says table
unfolding every test is_term_row answers agree table nodes read_term read_from takes
eleven = passes_all table tt
