-- Which symbol tables and notes are refused: the first test that fails, as definitions have it.
use Rattle.std.proofs.Common.{◌≡◌, ◌≤◌, ◌⊎◌, ℕ, List, max, length, Ok, Err, refl, arith}
use Rattle.goblin.specs.Common.{Ctx, Endian, malformed, nat_tests, read_within, room_of-few}
use Rattle.goblin_base.specs.declared.error.Fault.TheVariants.{NoteAlign}
use Rattle.goblin.specs.Note.{NotesRefused, note_align, read_places, whole_places}
use Rattle.goblin.specs.Symtab.{SymtabsRefused}

pub symtabs_refused : (bytes : List ℕ) (offset count : ℕ) (ctx : Ctx) → SymtabsRefused bytes offset count ctx
symtabs_refused bytes offset count ctx = grind arith

aligned : (alignment : ℕ) → (alignment ≤ 4) ⊎ (alignment ≡ 8) → note_align alignment ≡ Ok (max alignment 4)
aligned alignment either = grind (arith, nat_tests)

pub notes_refused : (alignment : ℕ) (order : Endian) (bytes : List ℕ) → NotesRefused alignment order bytes
unfolding read_places whole_places read_within
notes_refused alignment order bytes = record {
  align = λ more other.
      let refused : note_align alignment ≡ Err (malformed (NoteAlign alignment)) = grind (arith, nat_tests) in
      rw refused (refl, refl);
  header = λ either some less. rw (aligned alignment either, room_of-few (length bytes) 12 some less) (refl, refl);
}
