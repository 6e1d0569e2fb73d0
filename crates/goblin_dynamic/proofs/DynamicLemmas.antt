-- The laws of the dynamic section that the search does not find: each record that fits is one of the table's
-- (`entries_in_a_row`), and a range passes the test of room exactly if it lies in the file (`ranges_lie_in_file`).
use Rattle.std.proofs.Common.{◌+◌, ◌/◌, length, arith, refl}
use Rattle.std.proofs.Math.Nat.{le-div_iff_mul-le}
use Rattle.std.proofs.lemmas.Bool.Decides.{nat_tests}
use Rattle.goblin_base.specs.RecordLaws.{fits-room_of, room_of_fits}
use Rattle.goblin_base.proofs.Eager.{get_records, past_records}
use Rattle.goblin_dynamic.specs.Dyn.{entry_laws, entry_of, entry_size}
use Rattle.goblin_dynamic.specs.DynamicLaws.{EntriesInARow, EntriesOfARange, RangesLieInFile}

pub entries_in_a_row : EntriesInARow
entries_in_a_row bytes ctx k =
    let size = entry_size ctx.container in
    let count = length bytes / size in
    let fits = le-div_iff_mul-le {k = size} {x = k + 1} {y = length bytes}
    (entry_laws ctx.container ctx.le).size_positive in
    grind (
      arith,
      nat_tests,
      fits,
      get_records size (entry_of ctx.container ctx.le) count bytes k,
      past_records size (entry_of ctx.container ctx.le) count bytes k,
    )

pub ranges_lie_in_file : RangesLieInFile
ranges_lie_in_file = record {
  entries = λ bytes r ctx entries is. grind (arith, nat_tests, fits-room_of (length bytes) r.offset r.size);
  strings = λ bytes r.
      let len = length bytes in
      grind (arith, nat_tests, fits-room_of len r.offset r.size, room_of_fits len r.offset r.size);
}

pub entries_of_a_range : EntriesOfARange
entries_of_a_range = record {
  whole = λ bytes r ctx fits. rw (room_of_fits (length bytes) r.offset r.size fits) refl;
  up_to_null = λ bytes r ctx fits. rw (room_of_fits (length bytes) r.offset r.size fits) refl;
  there = λ bytes r ctx entries is. rw is refl;
  none = λ bytes ctx. refl;
}

pub ruleset dynamic_laws = (entries_in_a_row, entries_of_a_range, ranges_lie_in_file)
