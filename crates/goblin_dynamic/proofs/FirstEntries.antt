-- What shows that the entries before the first with tag 0 are a table of their own, which the bytes hold
-- (`first_entries`), and that the values of a tag are as many as the entries at most (`lengths`).
use Rattle.std.proofs.Math.Nat.{div-mul-le_self, mul-le-mul_right}
use Rattle.std.proofs.lemmas.Grind.{common_steps}
use Rattle.std.proofs.lemmas.List.{length-map}
use Rattle.std.proofs.lemmas.List.Folds.{length-prefix_len}
use Rattle.std.proofs.lemmas.List.FromFn.{take-map-range_with_len}
use Rattle.std.proofs.lemmas.List.Sums.{count_by-le-length, length-filter}
use Rattle.goblin_base.proofs.Eager.{length_records}

pub ruleset first_entries =
    (common_steps, length-prefix_len, length_records, div-mul-le_self, mul-le-mul_right, take-map-range_with_len)

pub ruleset lengths = (common_steps, length-map, length-filter, count_by-le-length)
