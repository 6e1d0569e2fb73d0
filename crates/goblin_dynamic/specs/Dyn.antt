-- Entries of the dynamic section, of either class (System V gABI, "Dynamic Section": Elf32_Dyn and Elf64_Dyn).
use Rattle.std.proofs.Common.{ℕ, List, [], ◌∷◌, slice_index, refl, lit<}
use Rattle.goblin_base.specs.Common.{IsRecord, IsSameInEachClass, Layout, Shape, field, shaped}
use Rattle.goblin_base.specs.Layout.{word_size}
use Rattle.goblin_base.specs.LayoutLaws.{plain_laws, same_in_each_class}
use Rattle.goblin_base.specs.declared.container.Container.{Container}
use Rattle.goblin_base.specs.declared.container.Container.TheVariants.{Little, Big}
use Rattle.goblin_base.specs.declared.container.Endian.{Endian}
use Rattle.goblin_dynamic.specs.declared.entry.Dyn.{Dyn}

-- the fields of an entry in file order, both of one width in bytes
abbrev pub entry : ℕ → Shape Dyn
entry width = record {
  fields = λ d. field width d.d_tag ∷ field width d.d_val ∷ [];
  of_values = λ values. record { d_tag = slice_index values 0; d_val = slice_index values 1 };
}

-- the size of an entry of a class in bytes
abbrev pub entry_size : Container → ℕ
entry_size Little = 8
entry_size Big = 16

-- how entries of a class and a byte order lie in bytes: the fields are as wide as an address
abbrev pub entry_layout : Container → Endian → Layout Dyn
entry_layout class order = record (shaped (entry (word_size class)) order) { size = entry_size class }

-- the entry read from bytes in a class
abbrev pub entry_of : Container → Endian → List ℕ → Dyn
entry_of class order = (entry_layout class order).read

-- written entries are read back, and entries that were read are written back: this follows from the list of fields
pub entry_laws : (class : Container) (order : Endian) → IsRecord (entry_layout class order)
entry_laws Little = plain_laws (entry 4) (lit< tt) (λ d. refl) (λ d. refl) (λ order bytes. refl)
entry_laws Big = plain_laws (entry 8) (lit< tt) (λ d. refl) (λ d. refl) (λ order bytes. refl)

pub same_entries : IsSameInEachClass entry_layout
same_entries = same_in_each_class entry_laws
