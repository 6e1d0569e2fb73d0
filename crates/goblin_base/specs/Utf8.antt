-- Well-formed UTF-8 (the Unicode Standard, D92 and table 3-7). `IsUtf8` says that bytes are the joined shortest
-- spellings of scalar values; `is_utf8` is that as a test.
use Rattle.std.specs.Prelude.{ℕ, ◌-◌, ◌==◌, nat_lt, if◌then◌else◌, List, Option, Some, None, Result, Ok, Err, codes}
use Rattle.goblin_base.specs.Common.{is_in_range, is_utf8, continuation_len, Awaited, second_byte_min, second_byte_max}
use Rattle.goblin_base.specs.Refusal.{Refusal, bad_input}

-- the error of bytes that aren't UTF-8; the size is the number of bytes from their start on
abbrev pub invalid_utf8 : ℕ → Refusal
invalid_utf8 size = bad_input size (codes "invalid utf8")

-- the bytes if they are UTF-8, or else the error
abbrev pub text_or_fault : List ℕ → ℕ → Result (List ℕ) Refusal
text_or_fault bytes size = if is_utf8 bytes then Ok bytes else Err (invalid_utf8 size)

-- the state in which a character may begin
abbrev pub awaits_first : Awaited
awaits_first = record { more = 0; least = 0x80; most = 0xBF }

-- the state after the first byte of a character, or `None` if no character begins with it
abbrev pub after_first_byte : ℕ → Option Awaited
after_first_byte b = if nat_lt b 0x80 then Some awaits_first
    else (if is_in_range 0xC2 0xF4 b
    then Some (record { more = continuation_len b; least = second_byte_min b; most = second_byte_max b })
    else None)

-- the state after a byte, or `None` if the byte may not come there
abbrev pub after_byte : Awaited → ℕ → Option Awaited
after_byte s b = if s.more == 0 then after_first_byte b
    else (if is_in_range s.least s.most b then Some (record { more = s.more - 1; least = 0x80; most = 0xBF }) else None)
