-- What has come stands in front, and the cells behind it are as they were.
use Rattle.std.proofs.Common.{◌≡◌, ◌++◌, drop, length}
use Rattle.questions.proofs.listing.list.Given as goal

abbrev pub invariant-loop-number : goal.invariant-loop-number
invariant-loop-number l = record {
  count : l.n ≡ length l.yielded;
  is : l.out ≡ l.yielded ++ drop l.n l.fn.out;
}
