-- New program headers, and lists of them (System V gABI, "Program Header").
use Rattle.std.specs.Prelude.{◌+◌, ◌-◌, ◌/◌, ◌^◌, ◌&&◌, ◌==◌, ℕ, nat_le, nat_lt, min, Bool, List, codes, find, length}
use Rattle.std.specs.Prelude.{Option, Result, []}
use Rattle.goblin_headers.specs.Common.{Ctx, records_from, Refusal, buffer_too_short, refuse_if, ProgramHeader}
use Rattle.std.specs.Option.{option_map}
use Rattle.goblin_headers.specs.ProgramHeader.{program_header_size, program_header_of, program_header_of_values}

-- a header of a loadable segment (type 1), aligned to 2 MiB, with all other fields 0
abbrev pub new_program_header : ProgramHeader
new_program_header = record (program_header_of_values []) { p_type = 1; p_align = 2097152 }

-- the test before the allocation: that many program headers must fit into the bytes at some offset
abbrev pub program_headers_tested : List ℕ → ℕ → Ctx → Result (Unit {0}) Refusal
program_headers_tested bytes count ctx =
    refuse_if (nat_lt (length bytes / program_header_size ctx.container) count)
    (buffer_too_short count (codes "program headers"))

-- `count` program headers from an offset on: too many to fit at any offset are refused, else the first that the bytes
-- don't hold is
abbrev pub program_headers_from : List ℕ → ℕ → ℕ → Ctx → Result (List ProgramHeader) Refusal
program_headers_from bytes offset count ctx =
    records_from (program_header_size ctx.container) (program_header_of ctx.container ctx.le) bytes offset count
    (codes "program headers")

-- a segment loads the byte at an address from the file: it is of type 1, and the address is of one of its bytes in the
-- file, by sums of whole numbers
abbrev pub loads : ℕ → ProgramHeader → Bool
loads address s = s.p_type == 1 && (nat_le s.p_vaddr address && nat_lt address (s.p_vaddr + s.p_filesz))

-- the offset of that byte in the file; one past the greatest 64-bit number is that number, at which no file has a byte
abbrev pub offset_in : ℕ → ProgramHeader → ℕ
offset_in address s = min (s.p_offset + (address - s.p_vaddr)) (2 ^ 64 - 1)

-- the same by the first segment that loads it
abbrev pub loaded_from : ℕ → List ProgramHeader → Option ℕ
loaded_from address segments = option_map (offset_in address) (find (loads address) segments)
