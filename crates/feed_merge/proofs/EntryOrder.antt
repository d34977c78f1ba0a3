-- The test of the order, and the order in words.
use Rattle.std.proofs.Common.{◌≡◌, true, false, arith}
use Rattle.std.proofs.lemmas.Bool.Decides.{nat_tests}
use Rattle.feed_merge.specs.Merging.{Entry, comes_before}
use Rattle.feed_merge.specs.Order.{ComesBefore}

pub before-test : (entry other : Entry) → ComesBefore entry other → comes_before entry other ≡ true
unfolding comes_before
before-test entry other h = grind (arith, nat_tests)

pub test-before : (entry other : Entry) → comes_before entry other ≡ true → ComesBefore entry other
unfolding comes_before
test-before entry other h = grind (arith, nat_tests)

pub after-test : (entry other : Entry) → ComesBefore entry other → comes_before other entry ≡ false
unfolding comes_before
after-test entry other h = grind (arith, nat_tests)

pub before-trans : (a b c : Entry) → ComesBefore a b → ComesBefore b c → ComesBefore a c
before-trans a b c h k = grind arith
